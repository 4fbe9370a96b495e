use Rattle.std.proofs.Common.{◌∙◌, ◌∷◌, ◌++◌, [], List, append_assoc, ap, arith, sym, subst}
use Rattle.std.specs.Prelude.{All}
use Rattle.std.proofs.lemmas.List.{append-nil}
use Rattle.std.proofs.lemmas.List.Elements.{All-head, All-tail}
use Rattle.op.specs.declared.record.Record.{Record}
use Rattle.op.specs.Records.{IsRecord}
use Rattle.engine.specs.Kept.{IsKept}
use Rattle.engine.proofs.KeptLaws.{none-there, IsKept-push}
use Rattle.engine.proofs.operations.ordered.ordered_of.Goals as goal

-- each is a record
pub keep-requires : goal.keep-requires
keep-requires c = All-head IsRecord c.in-Some.kept c.next.new.self.rest.items (subst (All IsRecord) c.in-Some.ensures.steps.0 c.loop-kept.invariant.left)

-- the next record is kept too
pub loop-kept-preserved : goal.loop-kept-preserved
loop-kept-preserved c =
    let kept = c.in-Some.kept in
    let left = subst (All IsRecord) c.in-Some.ensures.steps.0 c.loop-kept.invariant.left in
    record {
      kept = rw c.in_ok-keep.ensures (IsKept-push _ _ _ c.loop-kept.invariant.kept (All-head IsRecord kept c.next.new.self.rest.items left));
      left = All-tail IsRecord kept c.next.new.self.rest.items left;
      whole = append_assoc c.loop-kept.yielded (kept ∷ []) c.next.new.self.rest.items
          ∙ ap (λ (rs : List Record). c.loop-kept.yielded ++ rs) (sym c.in-Some.ensures.steps.0)
          ∙ c.loop-kept.invariant.whole;
    }

pub returns : goal.returns
returns c =
    let rest = c.loop-kept.kept-iterator.rest in
    let none = none-there rest.items (omega (arith, c.in-None.ensures.steps.0, rest.ok.0)) in
    subst (λ (rs : List Record). IsKept c.loop-kept.ordered rs)
    (sym (append-nil c.loop-kept.yielded) ∙ ap (λ (rs : List Record). c.loop-kept.yielded ++ rs) (sym none) ∙ c.loop-kept.invariant.whole) c.loop-kept.invariant.kept
