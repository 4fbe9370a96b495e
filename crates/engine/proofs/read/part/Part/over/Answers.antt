use Rattle.std.proofs.Common.{◌∙◌, ap, length, refl, sym, true}
use Rattle.std.specs.Prelude.{replicate}
use Rattle.std.specs.Arc.{arc_value}
use Rattle.std.proofs.lemmas.List.{length-replicate}
use Rattle.engine.proofs.ChosenLaws.{chosen-all}
use Rattle.engine.proofs.read.part.Part.over.Goals as goal

-- all are live
pub returns : goal.returns
returns c =
    let all = c.in_ok-live.ensures ∙ ap (λ n. replicate n true) (rw c.deref.ensures at c.len-live_len.ensures.is) in
    rw (c.in_ok-live-2.ensures.ok, all, chosen-all (arc_value c.args.block).documents) refl

pub invariant_of-result : goal.invariant_of-result
invariant_of-result c =
    let docs = (arc_value c.args.block).documents in
    let len = rw c.deref.ensures at c.len-live_len.ensures in
    let all = c.in_ok-live.ensures ∙ ap (λ n. replicate n true) len.is in
    rw (c.in_ok-live-2.ensures.ok, all) (record {
      sorted = len.sorted;
      whole = length-replicate (length docs) true;
      counted = len.is ∙ sym (ap length (chosen-all docs));
      full = λ t. refl;
    })
