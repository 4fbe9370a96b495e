use Rattle.std.proofs.Common.{◌≡◌, ◌<◌, ◌∙◌, ap, arith, Bool, if◌then◌else◌, length, List, ℕ, refl, subst, sym, true, false, slice_set}
use Rattle.std.proofs.lemmas.Bool.Decides.{nat_tests}
use Rattle.marks.specs.Bits.{IsMarks, marks_of}
use Rattle.marks.proofs.Views.{length-marks, within-words, marks_of-set}
use Rattle.marks.proofs.marks.Marks.set_if.Goals as goal

pub set_if-requires : goal.set_if-requires
set_if-requires c = within-words _ _ _ c.self.invariant.whole (omega (arith, c.requires, ap length c.self.view_is, length-marks c.self.inside.words.items c.self.inside.len))

either : (P : Bool → Type 0) (b : Bool) → (b ≡ true → P true) → (b ≡ false → P false) → P b
either P b holds fails = elim b as (λ c. b ≡ c → P c) [ true ↦ holds | false ↦ fails ] refl

pub invariant_of-self : goal.invariant_of-self
invariant_of-self c =
    let lt : c.args.at < c.self.inside.len = omega (arith, c.requires, ap length c.self.view_is, length-marks c.self.inside.words.items c.self.inside.len) in
    either (λ b. IsMarks c.set_if.new.words.items c.self.inside.len) c.args.passes
    (λ is. record {
      whole = c.set_if.ensures.whole ∙ c.self.invariant.whole;
      clean = λ k past. grind (arith, nat_tests, c.set_if.ensures.set is k, c.self.invariant.clean k past, past, lt);
    })
    (λ is. subst (λ (ws : List ℕ). IsMarks ws c.self.inside.len) (sym (c.set_if.ensures.kept is)) c.self.invariant)

pub returns : goal.returns
returns c =
    let lt : c.args.at < c.self.inside.len = omega (arith, c.requires, ap length c.self.view_is, length-marks c.self.inside.words.items c.self.inside.len) in
    either (λ b. marks_of c.set_if.new.words.items c.self.inside.len ≡ (if b then slice_set c.args.self.now c.args.at true else c.args.self.now)) c.args.passes
    (λ is. marks_of-set c.set_if.new.words.items c.self.inside.words.items c.self.inside.len c.args.at (c.set_if.ensures.set is) lt ∙ ap (λ ms. slice_set ms c.args.at true) c.self.view_is)
    (λ is. ap (λ (ws : List ℕ). marks_of ws c.self.inside.len) (c.set_if.ensures.kept is) ∙ c.self.view_is)
