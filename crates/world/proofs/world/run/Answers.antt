use Rattle.std.proofs.Common.{◌≡◌, ◌+◌, ◌∷◌, ◌++◌, [], false, take, sym, ap, ◌∙◌}
use Rattle.std.specs.Prelude.{is_err}
use Rattle.std.proofs.lemmas.List.{take_more}
use Rattle.world.specs.declared.event.Event.{Event}
use Rattle.world.specs.World.{world_of}
use Rattle.world.proofs.Reaching.{run_on}
use Rattle.world.proofs.world.run.Goals as goal

pub loop-taken-preserved : goal.loop-taken-preserved
loop-taken-preserved c =
    let es = c.args.events.now in
    let i = c.loop-taken.taken in
    let e = c.index-events-taken.result in
    let more : take (i + 1) es ≡ take i es ++ e ∷ [] = take_more es i e c.loop-taken-test.true ∙ ap (λ (x : Event). take i es ++ x ∷ []) (sym c.index-events-taken.is) in
    let taken : is_err c.step.result ≡ false = sym c.is_err.ensures.value ∙ c.if-is_err.false in
    let after : c.step.new.self.world ≡ world_of c.args.mapping.now c.args.copies (take (i + 1) es) =
    rw more (run_on c.step.result c.args.mapping.now c.args.copies (take i es) e c.loop-taken.world.world c.step.new.self.world c.step.ensures.happened taken c.loop-taken.invariant.0) in
    (after, c.step.ensures.held, c.step.ensures.in_sync)
