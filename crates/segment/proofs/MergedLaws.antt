-- Documents that are read again, and those that are live.
use Rattle.std.proofs.Common.{◌≡◌, ◌<◌, ℕ, ◌+◌, zero, suc, Bool, true, false, List, [], ◌∷◌, ◌++◌, length, take, get_or, sym, ap, ◌∙◌, arith, Ok}
use Rattle.std.specs.Prelude.{if◌then◌else◌, slice_index_or}
use Rattle.doc.specs.Mapping.{MappingData}
use Rattle.doc.specs.Document.{DocData, doc_of}
use Rattle.segment.specs.Merged.{chosen, read_under}

-- a document that was read has the values of its text
pub doc_read : (m : MappingData) (s : List ℕ) (d : DocData) → doc_of m s ≡ Ok d → d.source ≡ s → d ≡ read_under m s
doc_read m s d e is = rw e (ap (λ (t : List ℕ). let x : DocData = record { source = t; values = d.values } in x) is)

one_later : (i : ℕ) → suc i + 1 ≡ suc (i + 1)
one_later i = omega arith

-- one element more, where it is marked
pub chosen-more : {A : Type 0} (xs : List A) (bs : List Bool) (i : ℕ) (x : A) → i < length xs → length bs ≡ length xs → x ≡ get_or xs i x
    → chosen (take (i + 1) xs) (take (i + 1) bs) ≡ chosen (take i xs) (take i bs) ++ (if slice_index_or bs i false then x ∷ [] else [])
chosen-more [] bs i x lt long is = absurd (omega (arith, lt))
chosen-more (y ∷ ys) [] i x lt long is = absurd (omega (arith, long))
chosen-more (y ∷ ys) (b ∷ bs) zero x lt long is = ap (λ z. if b then z ∷ [] else []) (sym is)
chosen-more {A = A} (y ∷ ys) (b ∷ bs) (suc i) x lt long is = ap (λ k. chosen (take k (y ∷ ys)) (take k (b ∷ bs))) (one_later i) ∙ front b _ _ _ (chosen-more ys bs i x (omega (arith, lt)) (omega (arith, long)) is)
  where
    front : (b : Bool) (more so_far here : List A) → more ≡ so_far ++ here → (if b then y ∷ more else more) ≡ (if b then y ∷ so_far else so_far) ++ here
    front true more so_far here e = ap (λ zs. y ∷ zs) e
    front false more so_far here e = e
