use Rattle.std.proofs.Common.{ap, subst, sym, ◌∙◌, map, List}
use Rattle.std.specs.Prelude.{slice_get}
use Rattle.journal.specs.declared.moves.Move.{Move}
use Rattle.journal.specs.declared.moves.Placed.{Placed}
use Rattle.audit.specs.Moves.{CanGo}
use Rattle.audit.proofs.Parts.{there_at, at_place, past_all}
use Rattle.audit.proofs.merge.number_at.Goals as goal

pub returns-in-Some-clause-none : goal.returns-in-Some-clause-none
returns-in-Some-clause-none g c = λ e k m next.
    let ps = c.as_slice.result.now in
    let there = there_at ps c.args.count c.in-Some.placed.now c.in-Some.ensures.lookup.0 c.in-Some.ensures.lookup.1 in
    let at = at_place ps c.args.count c.in-Some.placed.now m there (ap (λ (l : List Placed). slice_get (map (λ p. p.what) l) c.args.count) c.as_slice.ensures ∙ next.0) in
    c.number.ensures.none e k (subst (λ (x : Move). CanGo (g.S.Stage.world c.args.stage.now) c.args.node k x) (sym at) next.1)

pub returns-in-None-clause-none : goal.returns-in-None-clause-none
returns-in-None-clause-none g c = λ e k m next.
    past_all c.as_slice.result.now c.args.count m c.in-None.ensures.lookup.0 (ap (λ (l : List Placed). slice_get (map (λ p. p.what) l) c.args.count) c.as_slice.ensures ∙ next.0)
