-- Query strings that are turned, the heads of pages, and what was begun.
use Rattle.std.proofs.Common.{◌≡◌, ◌≢◌, ◌<◌, ◌≤◌, ℕ, zero, suc, ◌==◌, Bool, true, false, List, [], ◌∷◌, ◌++◌, length, take, drop, map, bytes_eq, codes, Some, None, if◌then◌else◌, refl, sym, ap, ◌∙◌, arith, append-nil, take-append-drop}
use Rattle.std.specs.List.{slice_split, join_with_byte}
use Rattle.std.specs.Str.Pattern.{LacksTextAt}
use Rattle.std.proofs.lemmas.Slice.Eq.{bytes_eq-Decides}
use Rattle.std.proofs.lemmas.List.Splits.{length-slice_split}
use Rattle.wire.specs.Pieces.{cut_at}
use Rattle.wire.proofs.Cuts.{split_at}
use Rattle.front.specs.Command.{Command}
use Rattle.front.specs.Reply.{Reply}
use Rattle.front.specs.Serving.{Answered, Begun}
use Rattle.front.specs.Work.{Work, commands}
use Rattle.front.specs.Greeting.{turned, turned_query}
use Rattle.front.specs.Page.{before_empty}

join_more : (c : ℕ) (part : List ℕ) (parts : List (List ℕ)) → 0 < length parts → join_with_byte c (map turned (part ∷ parts)) ≡ turned part ++ (c ∷ join_with_byte c (map turned parts))
join_more c part [] h = absurd (omega arith)
join_more c part (p ∷ ps) h = refl

-- the last parameter
pub turned_last : (rest part : List ℕ) → part ≡ (cut_at 38 rest).0 → None ≡ (cut_at 38 rest).1 → turned_query rest ≡ turned part
turned_last rest part e k = ap (λ ps. join_with_byte 38 (map turned ps)) (split_at 38 rest part None e k)

-- a parameter, and those behind it
pub turned_next : (rest part after : List ℕ) → part ≡ (cut_at 38 rest).0 → Some after ≡ (cut_at 38 rest).1 → turned_query rest ≡ turned part ++ (38 ∷ turned_query after)
turned_next rest part after e k =
    ap (λ ps. join_with_byte 38 (map turned ps)) (split_at 38 rest part (Some after) e k)
    ∙ join_more 38 part (slice_split (λ b. b == 38) after) (omega (arith, length-slice_split (λ b. b == 38) after))

-- the first empty line
abbrev Lacks : ℕ → List ℕ → Type 0
Lacks i bs = (k : ℕ) → k < i → LacksTextAt (codes "\r\n\r\n") bs k

abbrev begins : List ℕ → Bool
begins bs = bytes_eq (take 4 bs) (codes "\r\n\r\n")

before_step : (b : ℕ) (bs : List ℕ) (h : Bool) → begins (b ∷ bs) ≡ h → before_empty (b ∷ bs) ≡ (if h then [] else b ∷ before_empty bs)
before_step b bs h e = ap (λ t. if t then [] else b ∷ before_empty bs) e

is_false : (b : Bool) → b ≢ true → b ≡ false
is_false true h = absurd (h refl)
is_false false h = refl

-- an empty line stands at the front, or none does
begins_yes : (bs rest : List ℕ) → bs ≡ codes "\r\n\r\n" ++ rest → begins bs ≡ true
begins_yes bs rest e = ap begins e

begins_no : (bs : List ℕ) → LacksTextAt (codes "\r\n\r\n") bs 0 → begins bs ≡ false
begins_no bs h = is_false (begins bs) (λ e. h (drop 4 bs) (sym (take-append-drop 4 bs) ∙ ap (λ l. l ++ drop 4 bs) ((bytes_eq-Decides (take 4 bs) (codes "\r\n\r\n")).0 e)))

pub before_at : (bs rest : List ℕ) (i : ℕ) → Lacks i bs → drop i bs ≡ codes "\r\n\r\n" ++ rest → before_empty bs ≡ take i bs
before_at [] rest zero h e = refl
before_at [] rest (suc i) h e = refl
before_at (b ∷ bs) rest zero h e = before_step b bs true (begins_yes (b ∷ bs) rest e)
before_at (b ∷ bs) rest (suc i) h e =
    before_step b bs false (begins_no (b ∷ bs) (h 0 (omega arith)))
    ∙ ap (λ l. b ∷ l) (before_at bs rest i (λ k lt. h (suc k) (omega arith)) e)

pub before_none : (bs : List ℕ) → ((k : ℕ) → k ≤ length bs → LacksTextAt (codes "\r\n\r\n") bs k) → before_empty bs ≡ bs
before_none [] h = refl
before_none (b ∷ bs) h =
    before_step b bs false (begins_no (b ∷ bs) (h 0 (omega arith)))
    ∙ ap (λ l. b ∷ l) (before_none bs (λ k le. h (suc k) (omega arith)))

-- what was answered was begun
pub begun_answered : {S : Type 0} (greets : Bool) (answers : S → Command → Reply → S → Type 0) (index : List ℕ) (w : Work) (s : S) (out : List ℕ) (t : S) → Answered greets answers index w s out t → Begun answers w s t
begun_answered greets answers index w s out t a = record { done = commands w; left = []; split = sym (append-nil (commands w)); replies = a.replies; called = a.called }
