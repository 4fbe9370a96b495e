-- Operations whose numbers are above all that are there go to the end.
use Rattle.std.proofs.Common.{◌≡◌, ℕ, ℤ, suc, ◌<◌, ◌≤◌, ◌-◌, drop, true, false, List, [], ◌∷◌, ◌++◌, if◌then◌else◌, Option, Some, None, option_map, refl, sym, ap, subst, ◌∙◌, arith}
use Rattle.std.specs.Prelude.{fold, ◌==◌}
use Rattle.std.specs.List.{AllByRecursion}
use Rattle.std.specs.Option.{option_or}
use Rattle.std.proofs.lemmas.Bool.Decides.{nat_tests}
use Rattle.std.proofs.lemmas.List.{append_assoc, append-nil}
use Rattle.doc.specs.Id.{Id}
use Rattle.op.specs.declared.operation.Op.{Op}
use Rattle.op.specs.declared.record.Record.{Record}
use Rattle.op.specs.declared.record.Record.TheVariants.{Op as Kept, Resync, Recover}
use Rattle.op.specs.Operations.{IsAscending, add, is_on, last_on, local_count, next_seq, op_at, placed, reached}
use Rattle.op.specs.Records.{after_record}
use Rattle.op.proofs.OperationLaws.{IsAscending-add, add-free, next_seq-above, next_seq-push, reached-le}
use Rattle.engine.specs.Applied.{RiseFrom}
use Rattle.engine.specs.Kept.{IsKept}
use Rattle.engine.specs.OperationIndex.{IsIndexed, operations_in}
use Rattle.engine.proofs.KeptLaws.{IsKept-push, weaker}
use Rattle.engine.proofs.PartLaws.{or_none, or_or}
use Rattle.op.proofs.LocalLaws.{drop_one}

-- one operation more of those that stand in records
pub operations_in-more : (os : List Op) (g : ℤ) (o : Op) (r : Record) (left rs : List Record) → r ≡ Kept g o → os ++ operations_in (r ∷ left) ≡ operations_in rs → (os ++ o ∷ []) ++ operations_in left ≡ operations_in rs
operations_in-more os g o r left rs is so_far = append_assoc os (o ∷ []) (operations_in left) ∙ sym (ap (λ (q : Record). os ++ operations_in (q ∷ left)) is) ∙ so_far

pub placed_end : (os : List Op) (o : Op) → AllByRecursion (λ p. p.seq < o.seq) os → placed os o ≡ os ++ o ∷ []
placed_end [] o all = refl
placed_end (p ∷ ps) o all = let h : p.seq < o.seq = all.0 in grind (arith, nat_tests, placed_end ps o all.1)

pub free_end : (os : List Op) (o : Op) → AllByRecursion (λ p. p.seq < o.seq) os → op_at os o.seq ≡ None
free_end [] o all = refl
free_end (p ∷ ps) o all = let h : p.seq < o.seq = all.0 in grind (arith, nat_tests, free_end ps o all.1)

-- an operation whose number is above all stands behind all
pub add_end : (os : List Op) (o : Op) → IsAscending os → next_seq os ≤ o.seq → add os o ≡ os ++ o ∷ []
add_end os o up le = let below = weaker (next_seq os) o.seq os le (next_seq-above os up) in add-free os o (free_end os o below) ∙ placed_end os o below

-- they are added in their order
pub fold-rise : (os : List Op) (rs : List Record) → IsAscending os → RiseFrom (next_seq os) rs → fold after_record os rs ≡ os ++ operations_in rs
fold-rise os [] up rise = sym (append-nil os)
fold-rise os (Kept g o ∷ rs) up rise =
    let added = add_end os o up rise.1 in
    ap (λ xs. fold after_record xs rs) added
    ∙ fold-rise (os ++ o ∷ []) rs (subst IsAscending added (IsAscending-add os o up)) (subst (λ n. RiseFrom n rs) (sym (next_seq-push os o)) rise.2)
    ∙ append_assoc os (o ∷ []) (operations_in rs)
fold-rise os (Resync term g tail ∷ rs) up rise = absurd rise
fold-rise os (Recover term all ∷ rs) up rise = absurd rise

pub IsAscending-rise : (n : ℕ) (os : List Op) (rs : List Record) → IsAscending os → RiseFrom n rs → IsAscending (fold after_record os rs)
IsAscending-rise n os [] up rise = up
IsAscending-rise n os (Kept g o ∷ rs) up rise = IsAscending-rise (suc o.seq) (add os o) rs (IsAscending-add os o up) rise.2
IsAscending-rise n os (Resync term g tail ∷ rs) up rise = absurd rise
IsAscending-rise n os (Recover term all ∷ rs) up rise = absurd rise

-- and are kept beside their records
pub IsKept-rise : (n : ℕ) (os : List Op) (rs more : List Record) → IsKept os rs → RiseFrom n more → IsKept (fold after_record os more) (rs ++ more)
IsKept-rise n os rs [] kept rise = subst (IsKept os) (sym (append-nil rs)) kept
IsKept-rise n os rs (Kept g o ∷ more) kept rise =
    subst (IsKept (fold after_record (add os o) more)) (append_assoc rs (Kept g o ∷ []) more)
    (IsKept-rise (suc o.seq) (add os o) (rs ++ Kept g o ∷ []) more (IsKept-push os rs (Kept g o) kept rise.0) rise.2)
IsKept-rise n os rs (Resync term g tail ∷ more) kept rise = absurd rise
IsKept-rise n os rs (Recover term all ∷ more) kept rise = absurd rise

-- ---- the index of operations with others behind them

either_number : (a b : Option Op) → option_or (option_map (λ o. o.seq) a) (option_map (λ o. o.seq) b) ≡ option_map (λ o. o.seq) (option_or a b)
either_number None b = refl
either_number (Some o) b = refl

-- the last on an id is that of those behind, or else of the others
pub last_on-append : (os ps : List Op) (id : Id) → last_on (os ++ ps) id ≡ option_or (last_on ps id) (last_on os id)
last_on-append [] ps id = or_none (last_on ps id)
last_on-append (o ∷ os) ps id =
    ap (λ l. option_or l (if is_on id o then Some o else None)) (last_on-append os ps id)
    ∙ or_or (last_on ps id) (last_on os id) (if is_on id o then Some o else None)

drop_none : (n : ℕ) (os : List Op) → drop (n - n) os ≡ os
drop_none n os = let e : n - n ≡ 0 = omega arith in rw e refl

reached-append : (n : ℕ) (os ps : List Op) → reached n (os ++ ps) ≡ reached (reached n os) (drop (reached n os - n) (os ++ ps))
reached-append n [] ps = sym (ap (reached n) (drop_none n ps))
reached-append n (o ∷ os) ps =
    elim (o.seq == n) as (λ b. (o.seq == n) ≡ b → reached n (o ∷ os ++ ps) ≡ reached (reached n (o ∷ os)) (drop (reached n (o ∷ os) - n) (o ∷ os ++ ps))) [
      | true ↦ λ is. rw (is, drop_one n (reached (suc n) os) o (os ++ ps) (reached-le (suc n) os)) (reached-append (suc n) os ps)
      | false ↦ λ is. rw (is, drop_none n (o ∷ os ++ ps), is) refl
    ] refl

pub IsIndexed-append : (os ps : List Op) (latest new : Id → Option ℕ) (local count : ℕ) → IsIndexed os latest local → IsAscending (os ++ ps)
    → ((id : Id) → new id ≡ option_or (option_map (λ o. o.seq) (last_on ps id)) (latest id)) → count ≡ reached local (drop local (os ++ ps)) → IsIndexed (os ++ ps) new count
IsIndexed-append os ps latest new local count is up noted counted = record {
  ascending = up;
  last = λ id.
      noted id
      ∙ ap (λ l. option_or (option_map (λ (o : Op). o.seq) (last_on ps id)) l) (is.last id)
      ∙ either_number (last_on ps id) (last_on os id)
      ∙ sym (ap (option_map (λ (o : Op). o.seq)) (last_on-append os ps id));
  reached =
      let all : local_count os - 0 ≡ local_count os = omega arith in
      counted ∙ ap (λ k. reached k (drop k (os ++ ps))) is.reached ∙ sym (ap (λ k. reached (local_count os) (drop k (os ++ ps))) all) ∙ sym (reached-append 0 os ps);
}
