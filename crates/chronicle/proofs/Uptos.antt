-- What a ledger of a registry has.
use Rattle.std.proofs.Common.{◌≡◌, ℕ, List, [], Option, Some, None, sym, ap, ◌∙◌}
use Rattle.std.specs.Prelude.{IfNone, IfSome}
use Rattle.chronicle.specs.Written.{Line, Written, written}
use Rattle.chronicle.specs.Registered.{SeatData, entries_of, seat_at, upto}

module _ {E : Type 0} where
  entries_are : (o : Option (Written E)) (l : Line) (es : List E) → IfSome o (λ m. m ≡ written l es) → IfNone o (es ≡ []) → entries_of o ≡ es
  entries_are None l es some none = sym none
  entries_are (Some m) l es some none = ap (λ (w : Written E). w.entries) some

  pub upto_is : (o : Option (Written E)) (l first registry line : Line) (es : List E) (n : ℕ) (s : SeatData) → IfSome o (λ m. m ≡ written l es) → IfNone o (es ≡ []) → s ≡ seat_at n l first → line ≡ registry
      → upto line s.number (entries_of o) ≡ upto registry n es
  upto_is o l first registry line es n s some none is same = λ i. upto (same i) (is i).number (entries_are o l es some none i)

  pub mark_line : (o : Option (Written E)) (l first : Line) (es : List E) (n : ℕ) (s : SeatData) → IfSome o (λ m. m ≡ written l es) → s ≡ seat_at n l first → IfSome o (λ m. m.line ≡ s.line)
  mark_line None l first es n s some is = tt
  mark_line (Some m) l first es n s some is = ap (λ (w : Written E). w.line) some ∙ sym (ap (λ (x : SeatData). x.line) is)
