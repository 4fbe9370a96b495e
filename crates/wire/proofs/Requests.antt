-- What stands first, from the parts that were read.
use Rattle.std.proofs.Common.{◌≡◌, ℕ, false, List, Option, Some, None, Result, Ok, Err, IfSome, IfOk, is_none, refl, sym, ap, ◌∙◌}
use Rattle.doc.specs.Outcome.{Fails}
use Rattle.wire.specs.declared.reading.Whole.{Whole}
use Rattle.wire.specs.declared.head_fault.HeadFault.{HeadFault}
use Rattle.wire.specs.declared.head_fault.HeadFault.TheVariants.{BadHead}
use Rattle.wire.specs.Cut.{short, long, whole, cut}
use Rattle.wire.specs.Fault.{Fault, fault_of, bad_head}
use Rattle.wire.specs.Framing.{none, broken, Framed, framed, with_body, after_cut, first}
use Rattle.wire.specs.Reading.{IsRead}
use Rattle.wire.proofs.Heads.{at_rest}

pub short_first : (most : ℕ) (start : Option (List ℕ)) → IfSome start (λ bs. cut bs ≡ short) → IfSome start (λ bs. first most bs ≡ none)
unfolding first
short_first most None h = tt
short_first most (Some bs) h = ap (after_cut most) h

pub long_first : (most : ℕ) (start : Option (List ℕ)) → IfSome start (λ bs. cut bs ≡ long) → IfSome start (λ bs. (x : Fault) × (fault_of BadHead ≡ Some x) × (first most bs ≡ broken x))
unfolding first
long_first most None h = tt
long_first most (Some bs) h = (bad_head, refl, ap (after_cut most) h)

pub whole_first : (most : ℕ) (start left after : Option (List ℕ)) (head : List ℕ) (f : Framed) (w : Option Whole)
    → IfSome start (λ bs. (rest : List ℕ) × (left ≡ Some rest) × (cut bs ≡ whole head rest)) → Ok f ≡ framed most head
    → IfSome left (λ rest. IsRead (with_body rest (Ok f)) w after) → IfSome start (λ bs. IsRead (first most bs) w after)
unfolding first
whole_first most None left after head f w h e r = tt
whole_first most (Some bs) left after head f w h e r =
    let read = at_rest (λ rest. IsRead (with_body rest (Ok f)) w after) left h.0 h.1 r in
    let same : first most bs ≡ with_body h.0 (Ok f) = ap (after_cut most) h.2 ∙ ap (with_body h.0) (sym e) in
    rw same read

fault_is : (o : Option Fault) (r : Result Framed Fault) → is_none o ≡ false → IfSome o (λ f. r ≡ Err f) → (x : Fault) × (o ≡ Some x) × (r ≡ Err x)
fault_is None r e h = absurd (cc e)
fault_is (Some x) r e h = (x, refl, h)

pub broken_first : (most : ℕ) (start left : Option (List ℕ)) (head : List ℕ) (e : HeadFault)
    → IfSome start (λ bs. (rest : List ℕ) × (left ≡ Some rest) × (cut bs ≡ whole head rest)) → is_none (fault_of e) ≡ false → Fails fault_of e (framed most head)
    → IfSome start (λ bs. (x : Fault) × (fault_of e ≡ Some x) × (first most bs ≡ broken x))
unfolding first
broken_first most None left head e h n f = tt
broken_first most (Some bs) left head e h n f =
    let k = fault_is (fault_of e) (framed most head) n f in
    (k.0, k.1, ap (after_cut most) h.2 ∙ ap (with_body h.0) k.2)

pub whole_first_if_ok : {E : Type 0} (most : ℕ) (start left after : Option (List ℕ)) (head : List ℕ) (f : Framed) (r : Result (Option Whole) E)
    → IfSome start (λ bs. (rest : List ℕ) × (left ≡ Some rest) × (cut bs ≡ whole head rest)) → Ok f ≡ framed most head
    → IfOk r (λ w. IfSome left (λ rest. IsRead (with_body rest (Ok f)) w after)) → IfOk r (λ w. IfSome start (λ bs. IsRead (first most bs) w after))
whole_first_if_ok most start left after head f (Ok w) h e r = whole_first most start left after head f w h e r
whole_first_if_ok most start left after head f (Err x) h e r = tt
