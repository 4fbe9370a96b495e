-- The document at an id is that of the last operation on it.
use lib.Dec.{T}
use Rattle.std.proofs.Common.{◌≡◌, Bool, true, false, List, [], ◌∷◌, cond, if◌then◌else◌, Option, Some, None, refl, sym, ap, ◌∙◌}
use Rattle.std.specs.Prelude.{not, fold, ◌&&◌}
use Rattle.std.specs.Option.{option_or}
use Rattle.std.specs.Ordering.{is_eq}
use Rattle.std.specs.Cmp.Lexicographic.{nat_list_cmp_total}
use Rattle.std.specs.FinMap.Entries.{find-put, find-where_key, is_sorted, is_sorted-put, is_sorted-where_key}
use Rattle.op.specs.declared.operation.Op.{Op}
use Rattle.op.specs.declared.operation.Body.{Body}
use Rattle.op.specs.declared.operation.Body.TheVariants.{Index, Delete, NoOp}
use Rattle.op.specs.Operations.{IsAscending, op_at, placed, is_on, concerns, last_on, is_newer}
use Rattle.op.specs.Documents.{Document, Documents, document_at, done, applied, documents, left_by, document_of}
use Rattle.doc.specs.Id.{Id, id_cmp, is_id}
use Rattle.op.proofs.OperationLaws.{last_on-placed}

turned : {A : Type 0} (b : Bool) (x y : A) → cond (not b) x y ≡ cond b y x
turned true x y = refl
turned false x y = refl

-- an operation changes the document at the id that it concerns, and no other
pub document_at-done : (ds : Documents) (o : Op) (b : Body) (id : Id) → document_at (done ds o b) id ≡ (if concerns id b then left_by o b else document_at ds id)
document_at-done ds o (Index i source) id = find-put id_cmp nat_list_cmp_total id i _ ds
document_at-done ds o (Delete i) id =
    find-where_key id_cmp (λ x. not (is_id x i)) id (λ x tied. ap (λ r. not (is_eq r)) (sym (nat_list_cmp_total.congr id x i tied))) ds
    ∙ turned (is_id id i) _ _
document_at-done ds o NoOp id = refl

-- the document that the last operation leaves, or the one before where there is none
kept : Option Op → Option Document → Option Document
kept None d = d
kept (Some o) d = left_by o o.body

kept_if : (b : Bool) (o : Op) (d : Option Document) → (if b then left_by o o.body else d) ≡ kept (if b then Some o else None) d
unfolding kept
kept_if true o d = refl
kept_if false o d = refl

document_at-fold : (os : List Op) (ds : Documents) (id : Id) → document_at (fold applied ds os) id ≡ kept (last_on os id) (document_at ds id)
unfolding kept
document_at-fold [] ds id = refl
document_at-fold (o ∷ os) ds id =
    document_at-fold os (applied ds o) id
    ∙ elim (last_on os id) as (λ l. kept l (document_at (applied ds o) id) ≡ kept (option_or l (if is_on id o then Some o else None)) (document_at ds id)) [
      | None ↦ document_at-done ds o o.body id ∙ kept_if (is_on id o) o (document_at ds id)
      | Some q ↦ refl
    ]

-- the documents have at each id what the last operation on it leaves
pub document_at-documents : (os : List Op) (id : Id) → document_at (documents os) id ≡ document_of (last_on os id)
unfolding kept
document_at-documents os id = document_at-fold os [] id ∙ elim (last_on os id) as (λ l. kept l None ≡ document_of l) [ None ↦ refl | Some q ↦ refl ]

-- newer number wins: an operation at a free number changes the documents only at its id, and there only where it is the greatest
pub document_at-documents-placed : (os : List Op) (o : Op) (id : Id) → op_at os o.seq ≡ None → IsAscending os →
    document_at (documents (placed os o)) id ≡ (if is_on id o && not (is_newer (last_on os id) o.seq) then left_by o o.body else document_at (documents os) id)
document_at-documents-placed os o id free up =
    document_at-documents (placed os o) id ∙ ap document_of (last_on-placed os o id free up)
    ∙ elim (is_on id o && not (is_newer (last_on os id) o.seq)) as (λ b. document_of (if b then Some o else last_on os id) ≡ (if b then left_by o o.body else document_at (documents os) id)) [
      | true ↦ refl
      | false ↦ sym (document_at-documents os id)
    ]

holds : (b : Bool) → T b → b ≡ true
holds true h = refl
holds false h = absurd h

-- what an operation does keeps the order of the ids
is_sorted-done : (ds : Documents) (o : Op) (b : Body) → T (is_sorted id_cmp ds) → T (is_sorted id_cmp (done ds o b))
is_sorted-done ds o (Index id source) h = is_sorted-put id_cmp nat_list_cmp_total id _ ds h
is_sorted-done ds o (Delete id) h = is_sorted-where_key id_cmp _ ds h
is_sorted-done ds o NoOp h = h

is_sorted-fold : (os : List Op) (ds : Documents) → T (is_sorted id_cmp ds) → T (is_sorted id_cmp (fold applied ds os))
is_sorted-fold [] ds h = h
is_sorted-fold (o ∷ os) ds h = is_sorted-fold os (applied ds o) (is_sorted-done ds o o.body h)

-- documents stand in byte order of their ids, no id twice
pub is_sorted-documents : (os : List Op) → is_sorted id_cmp (documents os) ≡ true
is_sorted-documents os = holds (is_sorted id_cmp (documents os)) (is_sorted-fold os [] tt)
