-- Only texts of operations that newer ones replaced are let go.
use Rattle.std.proofs.Common.{◌≡◌, ℕ, zero, suc, ◌+◌, ◌<◌, ◌++◌, Bool, true, false, not, ◌&&◌, List, [], ◌∷◌, length, get_or, take, insert, Option, Some, None, if◌then◌else◌, refl, sym, ap, subst, ◌∙◌, arith, true≢false, slice_get}
use Rattle.std.specs.Prelude.{nat_lt, IfSome, slice_set, ◌==◌}
use Rattle.std.proofs.lemmas.Map.Lookups.{exact_bytes}
use Rattle.std.proofs.lemmas.Map.Views.{tells_apart}
use Rattle.std.specs.List.{AllByRecursion}
use Rattle.std.specs.Option.{option_or}
use Rattle.std.proofs.lemmas.Bool.Decides.{nat_tests}
use Rattle.std.proofs.lemmas.List.{take_more, append-nil}
use Rattle.doc.specs.Id.{Id, is_id}
use Rattle.op.specs.declared.operation.Op.{Op}
use Rattle.op.specs.Operations.{IsAscending, add, is_newer, is_on, last_on, op_at, placed}
use Rattle.op.proofs.OperationLaws.{add-free, last_on-placed, last_on-push}
use Rattle.engine.specs.Slot.{SlotData, ops, whole_ops, AreHeld, AreWhole, IsReplaced}
use Rattle.engine.proofs.IndexLaws.{below_at}
use Rattle.op.proofs.OperationLaws.{last_has}
use Rattle.engine.proofs.LatestLaws.{on_last}
use Rattle.engine.proofs.RiseLaws.{free_end, last_on-append, placed_end}

-- ---- lists of slots

each : (P Q : SlotData → Type 0) (ss : List SlotData) → ((s : SlotData) → P s → Q s) → AllByRecursion P ss → AllByRecursion Q ss
each P Q [] f all = tt
each P Q (s ∷ ss) f all = (f s all.0, each P Q ss f all.1)

each-append : (P : SlotData → Type 0) (ss ts : List SlotData) → AllByRecursion P ss → AllByRecursion P ts → AllByRecursion P (ss ++ ts)
each-append P [] ts all more = more
each-append P (s ∷ ss) ts all more = (all.0, each-append P ss ts all.1 more)

each-insert : (P : SlotData → Type 0) (ss : List SlotData) (at : ℕ) (s : SlotData) → AllByRecursion P ss → P s → AllByRecursion P (insert ss at s)
each-insert P ss zero s all one = (one, all)
each-insert P [] (suc at) s all one = (one, tt)
each-insert P (t ∷ ss) (suc at) s all one = (all.0, each-insert P ss at s all.1 one)

pub ops-insert : (ss : List SlotData) (at : ℕ) (s : SlotData) → ops (insert ss at s) ≡ insert (ops ss) at s.op
ops-insert ss zero s = refl
ops-insert [] (suc at) s = refl
ops-insert (t ∷ ss) (suc at) s = ap (λ os. t.op ∷ os) (ops-insert ss at s)

pub AreWhole-insert : (ss : List SlotData) (at : ℕ) (o : Op) → AreWhole ss → AreWhole (insert ss at (record { op = o; gone = false }))
AreWhole-insert ss at o all = each-insert (λ s. s.gone ≡ false) ss at (record { op = o; gone = false }) all refl

-- ---- one operation more, or several behind all

newer-placed : (b : Bool) (l : Option Op) (o : Op) (n : ℕ) → is_newer l n ≡ true → is_newer (if b && not (is_newer l o.seq) then Some o else l) n ≡ true
newer-placed b None o n is = absurd (true≢false (sym is))
newer-placed true (Some q) o n is = grind (arith, nat_tests)
newer-placed false (Some q) o n is = is

pub AreHeld-placed : (os : List Op) (ss : List SlotData) (at : ℕ) (o : Op) → IsAscending os → op_at os o.seq ≡ None → AreHeld os ss → AreHeld (placed os o) (insert ss at (record { op = o; gone = false }))
AreHeld-placed os ss at o up free held =
    each-insert (λ s. s.gone ≡ true → IsReplaced (placed os o) s.op) ss at (record { op = o; gone = false })
    (each (λ s. s.gone ≡ true → IsReplaced os s.op) (λ s. s.gone ≡ true → IsReplaced (placed os o) s.op) ss
    (λ s h gone id on. ap (λ l. is_newer l s.op.seq) (last_on-placed os o id free up) ∙ newer-placed (is_on id o) (last_on os id) o s.op.seq (h gone id on)) held)
    (λ gone. absurd (true≢false (sym gone)))

-- the numbers of those behind are above those of the others
all_any : (ps : List Op) → AllByRecursion (λ (p : Op). Unit {0}) ps
all_any [] = tt
all_any (p ∷ ps) = (tt, all_any ps)

all_rest : (P : Op → Type 0) (os ps : List Op) → AllByRecursion P (os ++ ps) → AllByRecursion P ps
all_rest P [] ps all = all
all_rest P (o ∷ os) ps all = all_rest P os ps all.1

all_both : (P Q : Op → Type 0) (ps : List Op) → AllByRecursion P ps → AllByRecursion Q ps → AllByRecursion (λ p. P p × Q p) ps
all_both P Q [] p q = tt
all_both P Q (o ∷ ps) p q = ((p.0, q.0), all_both P Q ps p.1 q.1)

all_above : (os ps : List Op) → IsAscending (os ++ ps) → AllByRecursion (λ p. AllByRecursion (λ q. q.seq < p.seq) os) ps
all_above [] ps up = all_any ps
all_above (o ∷ os) ps up = all_both (λ p. o.seq < p.seq) (λ p. AllByRecursion (λ q. q.seq < p.seq) os) ps (all_rest (λ p. o.seq < p.seq) os ps up.0) (all_above os ps up.1)

newer-append : (m l : Option Op) (n : ℕ) → IfSome m (λ p. IfSome l (λ q. q.seq < p.seq)) → is_newer l n ≡ true → is_newer (option_or m l) n ≡ true
newer-append None l n above is = is
newer-append (Some p) None n above is = absurd (true≢false (sym is))
newer-append (Some p) (Some q) n above is = let lt : q.seq < p.seq = above in grind (arith, nat_tests)

ops_above : (os ps : List Op) (id : Id) → IsAscending (os ++ ps) → IfSome (last_on ps id) (λ p. IfSome (last_on os id) (λ q. q.seq < p.seq))
ops_above os ps id up =
    last_has (λ p. IfSome (last_on os id) (λ q. q.seq < p.seq)) ps id
    (all_weaker (λ p. AllByRecursion (λ q. q.seq < p.seq) os) (λ p. IfSome (last_on os id) (λ q. q.seq < p.seq)) ps (λ p all. last_has (λ q. q.seq < p.seq) os id all) (all_above os ps up))
  where
    all_weaker : (P Q : Op → Type 0) (ps : List Op) → ((p : Op) → P p → Q p) → AllByRecursion P ps → AllByRecursion Q ps
    all_weaker P Q [] f all = tt
    all_weaker P Q (p ∷ ps) f all = (f p all.0, all_weaker P Q ps f all.1)

pub AreHeld-append : (os ps : List Op) (ss ts : List SlotData) → IsAscending (os ++ ps) → AreHeld os ss → AreWhole ts → AreHeld (os ++ ps) (ss ++ ts)
AreHeld-append os ps ss ts up held whole =
    each-append (λ s. s.gone ≡ true → IsReplaced (os ++ ps) s.op) ss ts
    (each (λ s. s.gone ≡ true → IsReplaced os s.op) (λ s. s.gone ≡ true → IsReplaced (os ++ ps) s.op) ss
    (λ s h gone id on. ap (λ l. is_newer l s.op.seq) (last_on-append os ps id) ∙ newer-append (last_on ps id) (last_on os id) s.op.seq (ops_above os ps id up) (h gone id on)) held)
    (each (λ s. s.gone ≡ false) (λ s. s.gone ≡ true → IsReplaced (os ++ ps) s.op) ts (λ s kept gone. absurd (true≢false (sym gone ∙ kept))) whole)

-- an operation behind those before it in a list is added at the end
pub add-take : (os : List Op) (i : ℕ) (d : Op) → IsAscending os → i < length os → add (take i os) (get_or os i d) ≡ take i os ++ get_or os i d ∷ []
add-take os i d up lt =
    let below = below_at os i d up lt in
    add-free (take i os) (get_or os i d) (free_end (take i os) (get_or os i d) below) ∙ placed_end (take i os) (get_or os i d) below

-- ---- the last operation on an id is there as a whole

held_at : (P : SlotData → Type 0) (ss : List SlotData) (at : ℕ) (d : SlotData) → AllByRecursion P ss → at < length ss → P (get_or ss at d)
held_at P [] at d all lt = absurd (omega arith)
held_at P (s ∷ ss) zero d all lt = all.0
held_at P (s ∷ ss) (suc at) d all lt = held_at P ss at d all.1 (omega arith)

at_place : (ss : List SlotData) (at : ℕ) (d : SlotData) → at < length ss → slice_get (ops ss) at ≡ Some (get_or ss at d).op
at_place [] at d lt = absurd (omega arith)
at_place (s ∷ ss) zero d lt = refl
at_place (s ∷ ss) (suc at) d lt = at_place ss at d (omega arith)

-- what a slot at a place has is found there
pub found-slot : (ss : List SlotData) (at : ℕ) (s : SlotData) → at < length ss → s ≡ get_or ss at s → Some s.op ≡ slice_get (ops ss) at
found-slot ss at s lt is = ap (λ (t : SlotData). Some t.op) is ∙ sym (at_place ss at s lt)

not_below : (n : ℕ) → nat_lt n n ≡ true → ⊥
not_below n is = let no : nat_lt n n ≡ false = grind (arith, nat_tests) in true≢false (sym is ∙ no)

not_newer_self : (l : Option Op) (o : Op) → Some o ≡ l → is_newer l o.seq ≡ true → ⊥
not_newer_self l o is newer = not_below o.seq (subst (λ (k : Option Op). is_newer k o.seq ≡ true) (sym is) newer)

pub last-whole : (os : List Op) (ss : List SlotData) (id : Id) (at : ℕ) (s : SlotData) → AreHeld os ss → at < length ss → s ≡ get_or ss at s → Some s.op ≡ last_on os id → s.gone ≡ true → ⊥
last-whole os ss id at s held lt is last gone =
    let kept : s.gone ≡ true → IsReplaced os s.op = subst (λ (t : SlotData). t.gone ≡ true → IsReplaced os t.op) (sym is) (held_at (λ t. t.gone ≡ true → IsReplaced os t.op) ss at s held lt) in
    let on : is_on id s.op ≡ true = subst (λ (l : Option Op). IfSome l (λ o. is_on id o ≡ true)) (sym last) (on_last os id) in
    not_newer_self (last_on os id) s.op last (kept gone id on)

-- ---- letting go

at_first : (b : Bool) (p o : Op) (n : ℕ) (rest : Option Op) → (p.seq == n) ≡ b → (Some o ≡ rest → o.seq ≡ n) → Some o ≡ (if b then Some p else rest) → o.seq ≡ n
at_first true p o n rest same behind at = let there : o ≡ p = cc in ap (λ (q : Op). q.seq) there ∙ grind (arith, nat_tests)
at_first false p o n rest same behind at = behind at

at_number : (os : List Op) (n : ℕ) (o : Op) → Some o ≡ op_at os n → o.seq ≡ n
at_number [] n o is = cc
at_number (p ∷ os) n o is = at_first (p.seq == n) p o n (op_at os n) refl (at_number os n o) is

-- an operation is replaced where a newer one is on its id
pub replaced-at : (os : List Op) (n : ℕ) (o : Op) (i : Id) → Some o ≡ op_at os n → ((id : Id) → is_on id o ≡ is_id id i) → is_newer (last_on os i) n ≡ true → IfSome (op_at os n) (IsReplaced os)
replaced-at os n o i at on newer =
    subst (λ (l : Option Op). IfSome l (IsReplaced os)) at
    (λ id is.
    let same : id ≡ i = tells_apart exact_bytes id i (sym (on id) ∙ is) in
    ap (λ (j : Id). is_newer (last_on os j) o.seq) same ∙ ap (λ m. is_newer (last_on os i) m) (at_number os n o at) ∙ newer)

pub ops-set : (ss : List SlotData) (at : ℕ) (s t : SlotData) → t ≡ get_or ss at t → s.op ≡ t.op → ops (slice_set ss at s) ≡ ops ss
ops-set [] at s t is same = refl
ops-set (u ∷ ss) zero s t is same = ap (λ o. o ∷ ops ss) (same ∙ ap (λ (v : SlotData). v.op) is)
ops-set (u ∷ ss) (suc at) s t is same = ap (λ os. u.op ∷ os) (ops-set ss at s t is same)

pub AreHeld-set : (os : List Op) (ss : List SlotData) (at : ℕ) (s t : SlotData) → t ≡ get_or ss at t → s.op ≡ t.op → AreHeld os ss → IfSome (slice_get (ops ss) at) (IsReplaced os) → AreHeld os (slice_set ss at s)
AreHeld-set os [] at s t is same held replaced = tt
AreHeld-set os (u ∷ ss) zero s t is same held replaced = (λ gone. subst (IsReplaced os) (sym (same ∙ ap (λ (v : SlotData). v.op) is)) replaced, held.1)
AreHeld-set os (u ∷ ss) (suc at) s t is same held replaced = (held.0, AreHeld-set os ss at s t is same held.1 replaced)

-- ---- the operations whose texts are there have the last on each id

newer-rest : (b : Bool) (l : Option Op) (o : Op) (n : ℕ) → o.seq < n → is_newer (option_or l (if b then Some o else None)) n ≡ true → is_newer l n ≡ true
newer-rest b (Some q) o n lt is = is
newer-rest true None o n lt is = let no : nat_lt n o.seq ≡ false = grind (arith, nat_tests) in absurd (true≢false (sym is ∙ no))
newer-rest false None o n lt is = is

held-rest : (o : Op) (os : List Op) (ss : List SlotData) → AllByRecursion (λ p. o.seq < p.seq) (ops ss) → AreHeld (o ∷ os) ss → AreHeld os ss
held-rest o os [] above held = tt
held-rest o os (t ∷ ss) above held = (λ gone id on. newer-rest (is_on id o) (last_on os id) o t.op.seq above.0 (held.0 gone id on), held-rest o os ss above.1 held.1)

hidden : (b : Bool) (l : Option Op) (o : Op) → (b ≡ true → is_newer (option_or l (if b then Some o else None)) o.seq ≡ true) → l ≡ option_or l (if b then Some o else None)
hidden b (Some q) o newer = refl
hidden true None o newer = absurd (not_below o.seq (newer refl))
hidden false None o newer = refl

pub last_on-whole : (ss : List SlotData) (id : Id) → IsAscending (ops ss) → AreHeld (ops ss) ss → last_on (whole_ops ss) id ≡ last_on (ops ss) id
last_on-whole [] id up held = refl
last_on-whole (s ∷ ss) id up held =
    let here : Option Op = if is_on id s.op then Some s.op else None in
    let rest = last_on-whole ss id up.1 (held-rest s.op (ops ss) ss up.0 held.1) in
    elim s.gone as (λ b. s.gone ≡ b → last_on (if b then whole_ops ss else s.op ∷ whole_ops ss) id ≡ option_or (last_on (ops ss) id) here) [
      | true ↦ λ is. rest ∙ hidden (is_on id s.op) (last_on (ops ss) id) s.op (held.0 is id)
      | false ↦ λ is. ap (λ l. option_or l here) rest
    ] refl

pub whole-push : (ss : List SlotData) (s : SlotData) → whole_ops (ss ++ s ∷ []) ≡ whole_ops ss ++ whole_ops (s ∷ [])
whole-push [] s = refl
whole-push (t ∷ ss) s =
    elim t.gone as (λ b. (if b then whole_ops (ss ++ s ∷ []) else t.op ∷ whole_ops (ss ++ s ∷ [])) ≡ (if b then whole_ops ss else t.op ∷ whole_ops ss) ++ whole_ops (s ∷ [])) [
      | true ↦ whole-push ss s
      | false ↦ ap (λ os. t.op ∷ os) (whole-push ss s)
    ]

whole-more : (ss : List SlotData) (i : ℕ) (s : SlotData) → i < length ss → s ≡ get_or ss i s → whole_ops (take (i + 1) ss) ≡ whole_ops (take i ss) ++ whole_ops (s ∷ [])
whole-more ss i s lt is = ap whole_ops (take_more ss i s lt ∙ ap (λ (t : SlotData). take i ss ++ t ∷ []) (sym is)) ∙ whole-push (take i ss) s

pub whole-more-kept : (ss : List SlotData) (i : ℕ) (s : SlotData) (o : Op) → i < length ss → s ≡ get_or ss i s → s.gone ≡ false → o ≡ s.op → whole_ops (take (i + 1) ss) ≡ whole_ops (take i ss) ++ o ∷ []
whole-more-kept ss i s o lt is kept same =
    whole-more ss i s lt is ∙ ap (λ b. whole_ops (take i ss) ++ (if b then [] else s.op ∷ [])) kept ∙ ap (λ (p : Op). whole_ops (take i ss) ++ p ∷ []) (sym same)

pub whole-more-gone : (ss : List SlotData) (i : ℕ) (s : SlotData) → i < length ss → s ≡ get_or ss i s → s.gone ≡ true → whole_ops (take (i + 1) ss) ≡ whole_ops (take i ss)
whole-more-gone ss i s lt is gone =
    whole-more ss i s lt is ∙ ap (λ b. whole_ops (take i ss) ++ (if b then [] else s.op ∷ [])) gone ∙ append-nil (whole_ops (take i ss))

pub last_on-more : (ss : List SlotData) (i : ℕ) (s : SlotData) (id : Id) → i < length ss → s ≡ get_or ss i s → last_on (whole_ops (take (i + 1) ss)) id ≡ (if (if s.gone then false else is_on id s.op) then Some s.op else last_on (whole_ops (take i ss)) id)
last_on-more ss i s id lt is =
    ap (λ (os : List Op). last_on os id) (whole-more ss i s lt is)
    ∙ elim s.gone as (λ b. last_on (whole_ops (take i ss) ++ (if b then [] else s.op ∷ [])) id ≡ (if (if b then false else is_on id s.op) then Some s.op else last_on (whole_ops (take i ss)) id)) [
      | true ↦ ap (λ (os : List Op). last_on os id) (append-nil (whole_ops (take i ss)))
      | false ↦ last_on-push (whole_ops (take i ss)) s.op id
    ]

-- one of slots of which none was let go
pub whole-at : (ss : List SlotData) (i : ℕ) (s : SlotData) → i < length ss → s ≡ get_or ss i s → AreWhole ss → s.gone ≡ false
whole-at ss i s lt is all = ap (λ (t : SlotData). t.gone) is ∙ held_at (λ t. t.gone ≡ false) ss i s all lt
