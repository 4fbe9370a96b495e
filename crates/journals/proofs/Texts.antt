-- Texts and their lines, one line more.
use Rattle.std.proofs.Common.{◌≡◌, ◌==◌, ◌+◌, arith, ◌<◌, take, map, String, string_bytes, ℕ, suc, List, [], ◌∷◌, ◌++◌, Some, None, length, sym, ap, ◌∙◌, subst}
use Rattle.std.proofs.lemmas.List.{append_assoc, append-nil, map-append, length-map, length-take-le}
use Rattle.std.specs.List.{slice_split}
use Rattle.std.specs.declared.alloc.Global.{Global}
use Rattle.serde_json.specs.Data.{Data}
use Rattle.wire.specs.Pieces.{cut_at}
use Rattle.wire.proofs.Cuts.{split_at}
use Rattle.doc.specs.Mapping.{MappingData}
use Rattle.journal.specs.declared.journal.Journal.{Journal}
use Rattle.journals.specs.Entries.{AreLinesOf, AreTexts, IsLineOf, IsTextOf, IsTextOfNode}

-- a line in front of others
in_front : {A : Type 0} (Tells : Data → A → Type 0) (line : List ℕ) (parts : List (List ℕ)) (a : A) (xs : List A) → IsLineOf Tells line a → AreLinesOf Tells parts xs → AreLinesOf Tells (line ∷ parts) (a ∷ xs)
in_front Tells line [] a xs one more = absurd more
in_front Tells line (next ∷ parts) a xs one more = (one, more)

-- a text whose first line is cut off
pub cut_off : {A : Type 0} (Tells : Data → A → Type 0) (text line behind : List ℕ) (a : A) (xs : List A) → line ≡ (cut_at 10 text).0 → Some behind ≡ (cut_at 10 text).1 → IsLineOf Tells line a → IsTextOf Tells behind xs → IsTextOf Tells text (a ∷ xs)
cut_off Tells text line behind a xs e k one more = subst (λ parts. AreLinesOf Tells parts (a ∷ xs)) (sym (split_at 10 text line (Some behind) e k)) (in_front Tells line (slice_split (λ b. b == 10) behind) a xs one more)

-- no newline is left
pub no_more : {A : Type 0} (Tells : Data → A → Type 0) (text line : List ℕ) → line ≡ (cut_at 10 text).0 → None ≡ (cut_at 10 text).1 → line ≡ [] → IsTextOf Tells text []
no_more Tells text line e k empty = subst (λ parts. AreLinesOf Tells parts []) (sym (split_at 10 text line None e k)) empty

-- what the lines so far and those that are left make, with one line more
pub goes_on : {A : Type 0} (Tells : Data → A → Type 0) (text rest line behind : List ℕ) (found : List A) (a : A) → line ≡ (cut_at 10 rest).0 → Some behind ≡ (cut_at 10 rest).1 → IsLineOf Tells line a
    → ((more : List A) → IsTextOf Tells rest more → IsTextOf Tells text (found ++ more)) → (more : List A) → IsTextOf Tells behind more → IsTextOf Tells text ((found ++ a ∷ []) ++ more)
goes_on Tells text rest line behind found a e k one so_far more left = subst (λ xs. IsTextOf Tells text xs) (sym (append_assoc found (a ∷ []) more)) (so_far (a ∷ more) (cut_off Tells rest line behind a more e k one left))

-- the lines so far are all
pub ends : {A : Type 0} (Tells : Data → A → Type 0) (text rest line : List ℕ) (found : List A) → line ≡ (cut_at 10 rest).0 → None ≡ (cut_at 10 rest).1 → line ≡ []
    → ((more : List A) → IsTextOf Tells rest more → IsTextOf Tells text (found ++ more)) → IsTextOf Tells text found
ends Tells text rest line found e k empty so_far = subst (λ xs. IsTextOf Tells text xs) (append-nil found) (so_far [] (no_more Tells rest line e k empty))

-- one journal more
pub one_more : (copies : ℕ) (mapping : MappingData) (node : ℕ) (ts : List (List ℕ)) (js : List Journal) (t : List ℕ) (j : Journal) → AreTexts copies mapping node ts js → IsTextOfNode copies mapping (node + length ts) t j → AreTexts copies mapping node (ts ++ t ∷ []) (js ++ j ∷ [])
one_more copies mapping node [] [] t j all one = (subst (λ n. IsTextOfNode copies mapping n t j) (omega arith) one, tt)
one_more copies mapping node [] (k ∷ js) t j all one = absurd all
one_more copies mapping node (s ∷ ts) [] t j all one = absurd all
one_more copies mapping node (s ∷ ts) (k ∷ js) t j all one = (all.0, one_more copies mapping (suc node) ts js t j all.1 (subst (λ n. IsTextOfNode copies mapping n t j) (omega arith) one))

-- the texts so far, with one more
pub texts_more : (copies : ℕ) (mapping : MappingData) (texts : List (String Global)) (place : ℕ) (t : String Global) (js : List Journal) (j : Journal) → place < length texts → take (place + 1) texts ≡ take place texts ++ t ∷ []
    → AreTexts copies mapping 0 (map string_bytes (take place texts)) js → IsTextOfNode copies mapping place (string_bytes t) j → AreTexts copies mapping 0 (map string_bytes (take (place + 1) texts)) (js ++ j ∷ [])
texts_more copies mapping texts place t js j lt more all one =
    let split : map string_bytes (take (place + 1) texts) ≡ map string_bytes (take place texts) ++ string_bytes t ∷ [] = ap (map string_bytes) more ∙ map-append string_bytes (take place texts) (t ∷ []) in
    let long : length (map string_bytes (take place texts)) ≡ place = length-map (take place texts) string_bytes ∙ length-take-le place texts (omega arith) in
    let count : 0 + length (map string_bytes (take place texts)) ≡ place = omega (arith, long) in
    subst (λ ts. AreTexts copies mapping 0 ts (js ++ j ∷ [])) (sym split)
    (one_more copies mapping 0 (map string_bytes (take place texts)) js (string_bytes t) j all (subst (λ n. IsTextOfNode copies mapping n (string_bytes t) j) (sym count) one))
