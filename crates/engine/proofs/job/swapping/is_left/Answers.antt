use Rattle.std.proofs.Common.{◌≡◌, ◌≤◌, ◌∙◌, ℕ, [], ◌∷◌, ap, sym, subst, arith, filter, length}
use Rattle.std.proofs.lemmas.Bool.Decides.{nat_tests}
use Rattle.engine.specs.Parts.{published_of}
use Rattle.engine.specs.Published.{Published}
use Rattle.engine.proofs.ChoosingLaws.{is_chosen}
use Rattle.engine.proofs.LeftLaws.{only-one}
use Rattle.engine.proofs.job.swapping.is_left.Goals.{then-len-lt2, else-len-lt2}
use Rattle.engine.proofs.job.swapping.is_left.Goals as goal

-- one segment alone bears the number
pub returns : goal.returns
returns c = elim c.if-len-lt2.branch [
  | then-len-lt2 w ↦
      let left = c.args.left.now in
      let part = c.args.part.now in
      let number : left.number ≡ part.number = grind (arith, nat_tests, c.if-number.false, c.number.ensures, c.number-2.ensures) in
      let few : length (filter (is_chosen (c.number-3.result ∷ [])) c.args.taken.now) ≤ 1 = omega (arith, w.if-len-lt2.true, c.len.ensures, ap length c.in_ok-bearers.ensures) in
      let same : published_of left ≡ published_of part = only-one c.args.taken.now (published_of left) (published_of part) c.requires.left c.requires.part number
      (subst (λ (n : ℕ). length (filter (is_chosen (n ∷ [])) c.args.taken.now) ≤ 1) c.number-3.ensures few) in
      λ t. w.is_live_as.ensures (sym w.result-is ∙ t) (ap (λ (s : Published). s.documents) same)
  | else-len-lt2 w ↦ λ t. absurd (grind (arith, t, w.result-is))
]
