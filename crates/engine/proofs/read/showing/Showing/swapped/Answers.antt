use Rattle.std.proofs.Common.{◌≡◌, ◌∙◌, true, false, Option, None, Some, IfOk, ap, sym, subst, List, []}
use Rattle.std.specs.Prelude.{IfSome, is_some}
use Rattle.std.specs.Arc.{arc_value}
use Rattle.engine.specs.Contents.{ShowingData, segments_shown}
use Rattle.std.proofs.lemmas.Result.{IfOk-weaker}
use Rattle.engine.specs.Parts.{PartData}
use Rattle.engine.specs.Published.{Published, MergeData, are_taken, AreGone, IsSwapped}
use Rattle.engine.proofs.PublishedLaws.{taken-all, taken-none}
use Rattle.engine.proofs.read.showing.Showing.swapped.Goals as goal

no_none : are_taken [] ≡ true → ⊥
no_none is = cc

there-then : (A : Type 0) (ss : List Published) (o : Option ShowingData) → IfSome o (λ s. A → ⊥) → IfSome o (λ s. A → ss ≡ [])
there-then A ss None is = tt
there-then A ss (Some s) is = λ a. absurd (is a)

pub returns-in-Some-clause-there : goal.returns-in-Some-clause-there
returns-in-Some-clause-there c =
    let all = (arc_value c.merged.inside.parts).published in
    let taken = c.args.merged.now.taken in
    let are : are_taken all ≡ true = sym c.merged.invariant.some ∙ ap (λ (o : Option PartData). is_some o) c.in-Some.is in
    let same : all ≡ taken = taken-all all are ∙ ap (λ (m : MergeData). m.taken) c.merged.view_is in
    IfOk-weaker c.swapped_by.result _ _ (λ o is. there-then (AreGone c.args.self.now.published taken) taken o is)
    (subst (λ (ss : List Published). IfOk c.swapped_by.result (λ o. IfSome o (λ s. AreGone c.args.self.now.published ss → ⊥))) same (rw (c.deref.ensures, c.given.ensures) at c.swapped_by.ensures.there))

pub returns-in-Some-clause-gone : goal.returns-in-Some-clause-gone
returns-in-Some-clause-gone c =
    let all = (arc_value c.merged.inside.parts).published in
    let are : are_taken all ≡ true = sym c.merged.invariant.some ∙ ap (λ (o : Option PartData). is_some o) c.in-Some.is in
    let same : all ≡ c.args.merged.now.taken = taken-all all are ∙ ap (λ (m : MergeData). m.taken) c.merged.view_is in
    IfOk-weaker c.swapped_by.result _ _ (λ o is none some. no_none (sym (ap are_taken (same ∙ some (is none))) ∙ are))
    (subst (λ (ss : List Published). IfOk c.swapped_by.result (λ o. o ≡ None → AreGone c.args.self.now.published ss)) same (rw (c.deref.ensures, c.given.ensures) at c.swapped_by.ensures.gone))

pub returns-in-Some-clause-swapped : goal.returns-in-Some-clause-swapped
returns-in-Some-clause-swapped c =
    let all = (arc_value c.merged.inside.parts).published in
    let are : are_taken all ≡ true = sym c.merged.invariant.some ∙ ap (λ (o : Option PartData). is_some o) c.in-Some.is in
    let same : all ≡ c.args.merged.now.taken = taken-all all are ∙ ap (λ (m : MergeData). m.taken) c.merged.view_is in
    subst (λ (ss : List Published). IfOk c.swapped_by.result (λ o. IfSome o (λ s. (ss ≡ [] → ⊥) → IsSwapped ss (segments_shown c.args.self.now) (segments_shown s)))) same
    (IfOk-weaker c.swapped_by.result _ _ weaker (rw (c.deref.ensures, c.given.ensures) at c.swapped_by.ensures.swapped))
  where
    weaker : (o : Option ShowingData) → IfSome o (λ s. IsSwapped (arc_value c.merged.inside.parts).published (segments_shown c.args.self.now) (segments_shown s))
        → IfSome o (λ s. ((arc_value c.merged.inside.parts).published ≡ [] → ⊥) → IsSwapped (arc_value c.merged.inside.parts).published (segments_shown c.args.self.now) (segments_shown s))
    weaker None is = tt
    weaker (Some s) is = λ some. is

-- a merge of none
pub returns-in_ok-copy-in-None-clause-swapped : goal.returns-in_ok-copy-in-None-clause-swapped
returns-in_ok-copy-in-None-clause-swapped c =
    let all = (arc_value c.merged.inside.parts).published in
    let are : are_taken all ≡ false = sym c.merged.invariant.some ∙ ap (λ (o : Option PartData). is_some o) c.in-None.is in
    let none : c.args.merged.now.taken ≡ [] = sym (ap (λ (m : MergeData). m.taken) c.merged.view_is) ∙ taken-none all are in
    λ some. absurd (some none)

pub returns-in_ok-copy-in-None-clause-there : goal.returns-in_ok-copy-in-None-clause-there
returns-in_ok-copy-in-None-clause-there c =
    let all = (arc_value c.merged.inside.parts).published in
    let are : are_taken all ≡ false = sym c.merged.invariant.some ∙ ap (λ (o : Option PartData). is_some o) c.in-None.is in
    λ gone. sym (ap (λ (m : MergeData). m.taken) c.merged.view_is) ∙ taken-none all are
