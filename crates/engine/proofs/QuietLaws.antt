-- Records behind which the operations stay as they are.
use Rattle.std.proofs.Common.{◌≡◌, ◌≤◌, ◌<◌, ◌-◌, ◌+◌, ℕ, zero, suc, length, get_or, Bool, true, false, List, [], ◌∷◌, ◌++◌, take, drop, refl, sym, ap, subst, ◌∙◌, ◌⊎◌, inl, inr, if◌then◌else◌, true≢false, arith}
use Rattle.std.specs.Prelude.{fold, ◌||◌, ◌==◌, Option, Some, None}
use Rattle.std.specs.List.{list_any}
use Rattle.std.proofs.lemmas.Bool.Decides.{nat_tests}
use Rattle.std.proofs.lemmas.List.{length-append}
use Rattle.std.proofs.lemmas.List.Folds.{list_any_more}
use Rattle.std.proofs.lemmas.List.Sums.{fold_more}
use Rattle.doc.specs.Id.{Id}
use Rattle.op.specs.declared.operation.Op.{Op}
use Rattle.op.specs.declared.record.Record.{Record}
use Rattle.op.specs.declared.record.Record.TheVariants.{Op as Kept, Resync, Recover}
use Rattle.op.specs.Operations.{add, last_on, op_at}
use Rattle.op.proofs.OperationLaws.{add-repeated, op_at-add}
use Rattle.op.specs.Records.{after_record, operations, shown}
use Rattle.engine.specs.Applied.{RiseFrom}
use Rattle.engine.specs.Kept.{IsQuiet}
use Rattle.engine.specs.Parts.{is_among}
use Rattle.engine.specs.SnapshotChange.{is_op, is_write}
use Rattle.engine.proofs.RefreshLaws.{both_false, ids-more}

-- behind all of them there is none
pub quiet-above : (os : List Op) (n : ℕ) (rs : List Record) → length rs ≤ n → IsQuiet os n rs
quiet-above os n [] le = tt
quiet-above os n (r ∷ rs) le = (λ none. absurd (omega (arith, none, le)), quiet-above (after_record os r) (n - 1) rs (omega (arith, le)))

-- one more that leaves them, or is an operation
pub quiet-push : (os : List Op) (n : ℕ) (rs : List Record) (r : Record) → IsQuiet os n rs → (is_op r ≡ false → after_record (fold after_record os rs) r ≡ fold after_record os rs) → IsQuiet os n (rs ++ r ∷ [])
quiet-push os n [] r all last = (λ none. last, tt)
quiet-push os n (q ∷ rs) r all last = (all.0, quiet-push (after_record os q) (n - 1) rs r all.1 last)

quiet_ops : (os : List Op) (n m : ℕ) (rs : List Record) → RiseFrom m rs → IsQuiet os n rs
quiet_ops os n m [] rise = tt
quiet_ops os n m (Kept g o ∷ rs) rise = (λ none other. absurd (true≢false other), quiet_ops (after_record os (Kept g o)) (n - 1) (suc o.seq) rs rise.2)
quiet_ops os n m (Resync term g tail ∷ rs) rise = absurd rise
quiet_ops os n m (Recover term all ∷ rs) rise = absurd rise

-- operations more
pub quiet-rise : (os : List Op) (n m : ℕ) (rs more : List Record) → IsQuiet os n rs → RiseFrom m more → IsQuiet os n (rs ++ more)
quiet-rise os n m [] more all rise = quiet_ops os n m more rise
quiet-rise os n m (q ∷ rs) more all rise = (all.0, quiet-rise (after_record os q) (n - 1) m rs more all.1 rise)

-- those behind a point
pub quiet-drop : (os : List Op) (n p : ℕ) (rs : List Record) → IsQuiet os n rs → IsQuiet (fold after_record os (take p rs)) (n - p) (drop p rs)
quiet-drop os n zero rs all = subst (λ m. IsQuiet os m rs) (omega arith) all
quiet-drop os n (suc p) [] all = tt
quiet-drop os n (suc p) (r ∷ rs) all = subst (λ m. IsQuiet (fold after_record (after_record os r) (take p rs)) m (drop p rs)) (omega arith) (quiet-drop (after_record os r) (n - 1) p rs all.1)

-- each one behind the first n leaves the operations, where it isn't one
pub quiet-item : (os : List Op) (n i : ℕ) (rs : List Record) (r : Record) → IsQuiet os n rs → i < length rs → r ≡ get_or rs i r → n ≤ i → is_op r ≡ false
    → after_record (fold after_record os (take i rs)) r ≡ fold after_record os (take i rs)
quiet-item os n i [] r all lt is le other = absurd (omega (arith, lt))
quiet-item os n zero (q ∷ rs) r all lt is le other = ap (after_record os) is ∙ all.0 (omega (arith, le)) (ap is_op (sym is) ∙ other)
quiet-item os n (suc i) (q ∷ rs) r all lt is le other = quiet-item (after_record os q) (n - 1) i rs r all.1 (omega (arith, lt)) is (omega (arith, le)) other

-- where a record leaves the operations, the last on an id stays
stays_last : (rs : List Record) (point i : ℕ) (r : Record) (after before : List Id) → i < length (drop point rs) → r ≡ get_or (drop point rs) i r
    → ((id : Id) → is_among after id ≡ (is_among before id || false))
    → after_record (fold after_record (shown rs point) (take i (drop point rs))) r ≡ fold after_record (shown rs point) (take i (drop point rs))
    → ((id : Id) → is_among before id ≡ false → last_on (fold after_record (shown rs point) (take i (drop point rs))) id ≡ last_on (shown rs point) id)
    → (id : Id) → is_among after id ≡ false → last_on (fold after_record (shown rs point) (take (i + 1) (drop point rs))) id ≡ last_on (shown rs point) id
stays_last rs point i r after before lt is more quiet so_far id none =
    ap (λ os. last_on os id) (fold_more after_record (shown rs point) (drop point rs) i r lt ∙ ap (after_record (fold after_record (shown rs point) (take i (drop point rs)))) (sym is) ∙ quiet)
    ∙ so_far id (both_false (is_among before id) false (sym (more id) ∙ none)).0

-- the last operation on each id that isn't noted, with one record more
pub ids-next : (rs : List Record) (point i : ℕ) (r : Record) (after before : List Id) → i < length (drop point rs) → r ≡ get_or (drop point rs) i r
    → ((id : Id) → is_among after id ≡ (is_among before id || is_write id r))
    → (is_op r ≡ false → after_record (fold after_record (shown rs point) (take i (drop point rs))) r ≡ fold after_record (shown rs point) (take i (drop point rs)))
    → ((id : Id) → is_among before id ≡ false → last_on (fold after_record (shown rs point) (take i (drop point rs))) id ≡ last_on (shown rs point) id)
    → (id : Id) → is_among after id ≡ false → last_on (fold after_record (shown rs point) (take (i + 1) (drop point rs))) id ≡ last_on (shown rs point) id
ids-next rs point i (Kept g o) after before lt is more quiet so_far = ids-more rs point i (Kept g o) g o after before lt is refl more so_far
ids-next rs point i (Resync term g tail) after before lt is more quiet so_far = stays_last rs point i (Resync term g tail) after before lt is more (quiet refl) so_far
ids-next rs point i (Recover term all) after before lt is more quiet so_far = stays_last rs point i (Recover term all) after before lt is more (quiet refl) so_far

-- the ids that records write, with one record more
pub writes-next : (rs : List Record) (i : ℕ) (r : Record) (after before : List Id) → i < length rs → r ≡ get_or rs i r
    → ((id : Id) → is_among after id ≡ (is_among before id || is_write id r))
    → ((id : Id) → is_among before id ≡ list_any (is_write id) (take i rs))
    → (id : Id) → is_among after id ≡ list_any (is_write id) (take (i + 1) rs)
writes-next rs i r after before lt is more so_far id =
    more id
    ∙ ap (λ b. b || is_write id r) (so_far id)
    ∙ ap (λ (q : Record). list_any (is_write id) (take i rs) || is_write id q) is
    ∙ sym (list_any_more (is_write id) rs i r lt)

-- an operation that is there stays when another is added
pub stays_added : (os : List Op) (o p : Op) → op_at os p.seq ≡ Some p → op_at (add os o) p.seq ≡ Some p
stays_added os o p h = by_place (op_at os o.seq) refl
  where
    differs : op_at os o.seq ≡ None → (b : Bool) → (o.seq == p.seq) ≡ b → (if b then Some o else op_at os p.seq) ≡ Some p
    differs none true is = absurd (let same : o.seq ≡ p.seq = grind (arith, nat_tests) in let no : (let x : Option Op = None in x) ≡ Some p = sym none ∙ (ap (op_at os) same ∙ h) in cc)
    differs none false is = h

    by_place : (q : Option Op) → op_at os o.seq ≡ q → op_at (add os o) p.seq ≡ Some p
    by_place (Some q) e = rw (add-repeated os o q e) h
    by_place None e = op_at-add os o p.seq e ∙ differs e (o.seq == p.seq) refl

stays_after : (os : List Op) (r : Record) (p : Op) → (is_op r ≡ false → after_record os r ≡ os) → op_at os p.seq ≡ Some p → op_at (after_record os r) p.seq ≡ Some p
stays_after os (Kept g o) p quiet h = stays_added os o p h
stays_after os (Resync term g tail) p quiet h = ap (λ ps. op_at ps p.seq) (quiet refl) ∙ h
stays_after os (Recover term all) p quiet h = ap (λ ps. op_at ps p.seq) (quiet refl) ∙ h

-- those that are shown stay, with one record more
pub stay-next : (rs : List Record) (point i : ℕ) (r : Record) → i < length (drop point rs) → r ≡ get_or (drop point rs) i r
    → (is_op r ≡ false → after_record (fold after_record (shown rs point) (take i (drop point rs))) r ≡ fold after_record (shown rs point) (take i (drop point rs)))
    → ((o : Op) → op_at (shown rs point) o.seq ≡ Some o → op_at (fold after_record (shown rs point) (take i (drop point rs))) o.seq ≡ Some o)
    → (o : Op) → op_at (shown rs point) o.seq ≡ Some o → op_at (fold after_record (shown rs point) (take (i + 1) (drop point rs))) o.seq ≡ Some o
stay-next rs point i r lt is quiet so_far o h =
    ap (λ os. op_at os o.seq) (fold_more after_record (shown rs point) (drop point rs) i r lt ∙ ap (after_record (fold after_record (shown rs point) (take i (drop point rs)))) (sym is))
    ∙ stays_after (fold after_record (shown rs point) (take i (drop point rs))) r o quiet (so_far o h)

-- one more: where it isn't quiet, all records stand before those behind which all is
pub quiet-after : (b : Bool) (n len : ℕ) (os : List Op) (rs : List Record) (r : Record) → IsQuiet [] n rs → len ≡ length (rs ++ r ∷ []) → os ≡ operations rs
    → (b ≡ true → is_op r ≡ false → after_record os r ≡ os) → IsQuiet [] (if b then n else len) (rs ++ r ∷ [])
quiet-after true n len os rs r all is same quiet = quiet-push [] n rs r all (subst (λ (ps : List Op). is_op r ≡ false → after_record ps r ≡ ps) same (quiet refl))
quiet-after false n len os rs r all is same quiet = quiet-above [] len (rs ++ r ∷ []) (omega (arith, is))

-- none that isn't an operation is left of those that may have changed them
pub none_left : (b : Bool) (left first i : ℕ) → ((b ≡ false) × (left ≤ 0)) ⊎ (b ≡ true) → b ≡ false → left ≡ first - i → first ≤ i
none_left b left first i (inl x) other is = omega (arith, x.1, is)
none_left b left first i (inr x) other is = absurd (true≢false (sym x ∙ other))

-- how many there are with one more
pub counted : (before recent : List Record) (r : Record) (begin n : ℕ) → length before ≡ begin → n ≡ length recent + 1 → begin + n ≡ length ((before ++ recent) ++ r ∷ [])
counted before recent r begin n is more = omega (arith, length-append (before ++ recent) (r ∷ []), length-append before recent, is, more)
