-- Records behind which each operation has a number above all before it.
use Rattle.std.proofs.Common.{◌≡◌, ℕ, ℤ, zero, suc, ◌<◌, ◌≤◌, length, drop, Bool, true, false, List, [], ◌∷◌, ◌++◌, Option, Some, None, refl, sym, ap, subst, ◌∙◌, ◌⊎◌, ⊎_elim, inl, inr, arith, if◌then◌else◌}
use Rattle.std.specs.Prelude.{◌||◌, ◌==◌, is_some}
use Rattle.std.specs.Option.{option_or}
use Rattle.std.proofs.lemmas.List.{append_assoc, append-nil, length-append, take-append-le, drop-append-le, take_all}
use Rattle.doc.specs.Id.{Id}
use Rattle.op.specs.declared.operation.Body.{Body}
use Rattle.op.specs.declared.operation.Body.TheVariants.{Index, Delete, NoOp}
use Rattle.op.specs.declared.operation.Op.{Op}
use Rattle.op.specs.declared.record.Record.{Record}
use Rattle.op.specs.declared.record.Record.TheVariants.{Op as Kept, Resync, Recover}
use Rattle.op.specs.Operations.{IsAscending, concerns, last_on, next_seq, op_at}
use Rattle.op.specs.Records.{operations, shown}
use Rattle.op.proofs.OperationLaws.{IsAscending-add, next_seq-push}
use Rattle.op.proofs.RecordLaws.{operations-push}
use Rattle.engine.specs.Applied.{RiseFrom}
use Rattle.engine.specs.Changes.{id_on, ids_on}
use Rattle.engine.specs.Kept.{HasRisen, IsNext}
use Rattle.engine.specs.OperationIndex.{operations_in}
use Rattle.engine.specs.Parts.{is_among}
use Rattle.engine.proofs.RiseLaws.{add_end, last_on-append}

drop_past : (n : ℕ) (rs : List Record) → length rs ≤ n → drop n rs ≡ []
drop_past zero [] le = refl
drop_past (suc n) [] le = refl
drop_past zero (r ∷ rs) le = absurd (omega (arith, le))
drop_past (suc n) (r ∷ rs) le = drop_past n rs (omega (arith, le))

all_taken : (p : ℕ) (rs : List Record) → length rs ≤ p → operations rs ≡ shown rs p ++ operations_in (drop p rs)
all_taken p rs le = sym (ap (λ xs. operations xs ++ operations_in (drop p rs)) (take_all p rs le) ∙ ap (λ xs. operations rs ++ operations_in xs) (drop_past p rs le) ∙ append-nil (operations rs))

at_most_or : (p m : ℕ) → (p ≤ m) ⊎ (m < p)
at_most_or zero m = inl (omega arith)
at_most_or (suc p) zero = inr (omega arith)
at_most_or (suc p) (suc m) = ⊎_elim (λ le. inl (omega (arith, le))) (λ lt. inr (omega (arith, lt))) (at_most_or p m)

-- behind all of them none came
pub risen-above : (n : ℕ) (rs : List Record) → length rs ≤ n → HasRisen n rs
risen-above n rs le = record { since = λ p over. all_taken p rs (omega (arith, le, over)) }

in_more : (rs : List Record) (g : ℤ) (o : Op) → operations_in (rs ++ Kept g o ∷ []) ≡ operations_in rs ++ o ∷ []
in_more [] g o = refl
in_more (Kept h p ∷ rs) g o = ap (λ os. p ∷ os) (in_more rs g o)
in_more (Resync term h tail ∷ rs) g o = in_more rs g o
in_more (Recover term all ∷ rs) g o = in_more rs g o

next_behind : (rs : List Record) (g : ℤ) (o : Op) → IsAscending (operations rs) → next_seq (operations rs) ≤ o.seq → operations (rs ++ Kept g o ∷ []) ≡ operations rs ++ o ∷ []
next_behind rs g o up le = operations-push rs (Kept g o) ∙ add_end (operations rs) o up le

-- one more with a number above all
pub risen-push : (n : ℕ) (rs : List Record) (g : ℤ) (o : Op) → IsAscending (operations rs) → HasRisen n rs → next_seq (operations rs) ≤ o.seq → HasRisen n (rs ++ Kept g o ∷ [])
risen-push n rs g o up risen le = record { since = λ p over. by_place p over (at_most_or p (length rs)) }
  where
    by_place : (p : ℕ) → n ≤ p → (p ≤ length rs) ⊎ (length rs < p) → operations (rs ++ Kept g o ∷ []) ≡ shown (rs ++ Kept g o ∷ []) p ++ operations_in (drop p (rs ++ Kept g o ∷ []))
    by_place p over (inl x) =
        next_behind rs g o up le
        ∙ ap (λ os. os ++ o ∷ []) (risen.since p over)
        ∙ append_assoc (shown rs p) (operations_in (drop p rs)) (o ∷ [])
        ∙ ap (λ os. shown rs p ++ os) (sym (in_more (drop p rs) g o) ∙ ap operations_in (sym (drop-append-le p rs (Kept g o ∷ []) x)))
        ∙ ap (λ xs. operations xs ++ operations_in (drop p (rs ++ Kept g o ∷ []))) (sym (take-append-le p rs (Kept g o ∷ []) x))
    by_place p over (inr x) = all_taken p (rs ++ Kept g o ∷ []) (omega (arith, x, length-append rs (Kept g o ∷ [])))

-- more that rise
pub risen-rise : (n : ℕ) (rs more : List Record) → IsAscending (operations rs) → HasRisen n rs → RiseFrom (next_seq (operations rs)) more → HasRisen n (rs ++ more)
risen-rise n rs [] up risen rise = subst (HasRisen n) (sym (append-nil rs)) risen
risen-rise n rs (Kept g o ∷ more) up risen rise =
    let added = next_behind rs g o up rise.1 in
    subst (HasRisen n) (append_assoc rs (Kept g o ∷ []) more)
    (risen-rise n (rs ++ Kept g o ∷ []) more
    (subst IsAscending (sym (operations-push rs (Kept g o))) (IsAscending-add (operations rs) o up))
    (risen-push n rs g o up risen rise.1)
    (subst (λ m. RiseFrom m more) (sym (ap next_seq added ∙ next_seq-push (operations rs) o)) rise.2))
risen-rise n rs (Resync term g tail ∷ more) up risen rise = absurd rise
risen-rise n rs (Recover term all ∷ more) up risen rise = absurd rise

next_record : (n : ℕ) (rs : List Record) (r : Record) → IsAscending (operations rs) → HasRisen n rs → IsNext (operations rs) r → HasRisen n (rs ++ r ∷ [])
next_record n rs (Kept g o) up risen next = risen-push n rs g o up risen next
next_record n rs (Resync term g tail) up risen next = absurd next
next_record n rs (Recover term all) up risen next = absurd next

-- one more: where it isn't above all, all records stand before those behind which none came
pub risen-after : (b : Bool) (n len : ℕ) (os : List Op) (rs : List Record) (r : Record) → IsAscending os → HasRisen n rs → len ≡ length (rs ++ r ∷ []) → os ≡ operations rs
    → (b ≡ true → IsNext os r) → HasRisen (if b then n else len) (rs ++ r ∷ [])
risen-after true n len os rs r up risen is same next = next_record n rs r (subst IsAscending same up) risen (subst (λ (ps : List Op). IsNext ps r) same (next refl))
risen-after false n len os rs r up risen is same next = risen-above len (rs ++ r ∷ []) (omega (arith, is))

-- ---- what they write

by_both : (a : Option Op) (b : Bool) (o : Op) → (b || is_some a) ≡ is_some (option_or a (if b then Some o else None))
by_both (Some p) true o = refl
by_both (Some p) false o = refl
by_both None true o = refl
by_both None false o = refl

among_body : (b : Body) (ids : List Id) (id : Id) → is_among (id_on b ++ ids) id ≡ (concerns id b || is_among ids id)
among_body (Index i source) ids id = refl
among_body (Delete i) ids id = refl
among_body NoOp ids id = refl

-- an id is among those that operations are on where one of them is
pub among-on : (os : List Op) (id : Id) → is_among (ids_on os) id ≡ is_some (last_on os id)
among-on [] id = refl
among-on (o ∷ os) id = among_body o.body (ids_on os) id ∙ ap (λ b. concerns id o.body || b) (among-on os id) ∙ by_both (last_on os id) (concerns id o.body) o

by_last : (l rest : Option Op) (b : Bool) → b ≡ is_some l → l ≡ (if b then option_or l rest else None)
by_last (Some o) rest b is = rw is refl
by_last None rest b is = rw is refl

by_none : (l rest : Option Op) → is_some l ≡ false → option_or l rest ≡ rest
by_none None rest is = refl
by_none (Some o) rest is = cc

module _ (old new ops : List Op) (behind : new ≡ old ++ ops) where
  -- operations behind others have the last ones on the ids that they are on
  pub last-behind : (id : Id) → last_on ops id ≡ (if is_among (ids_on ops) id then last_on new id else None)
  last-behind id =
      by_last (last_on ops id) (last_on old id) (is_among (ids_on ops) id) (among-on ops id)
      ∙ ap (λ l. if is_among (ids_on ops) id then l else None) (sym (ap (λ os. last_on os id) behind ∙ last_on-append old ops id))

  -- and on other ids the last ones stay
  pub others-behind : (id : Id) → is_among (ids_on ops) id ≡ false → last_on new id ≡ last_on old id
  others-behind id none =
      ap (λ os. last_on os id) behind ∙ last_on-append old ops id ∙ by_none (last_on ops id) (last_on old id) (sym (among-on ops id) ∙ none)

-- those in front stay where they are
pub op_at-front : (xs ys : List Op) (n : ℕ) (o : Op) → op_at xs n ≡ Some o → op_at (xs ++ ys) n ≡ Some o
op_at-front [] ys n o is = cc
op_at-front (x ∷ xs) ys n o is = step (x.seq == n) (op_at-front xs ys n o) is
  where
    step : (b : Bool) → (op_at xs n ≡ Some o → op_at (xs ++ ys) n ≡ Some o) → (if b then Some x else op_at xs n) ≡ Some o → (if b then Some x else op_at (xs ++ ys) n) ≡ Some o
    step true rest is = is
    step false rest is = rest is
