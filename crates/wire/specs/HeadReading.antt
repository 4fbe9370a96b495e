-- The head at the front of some bytes, as a function. It reads httparse's grammar, piece by piece.
use Rattle.std.specs.Prelude.{ℕ, zero, suc, ◌==◌, Bool, true, false, List, [], ◌∷◌, Option, Some, None, codes, option_map, if◌then◌else◌}
use Rattle.std.specs.Str.{is_utf8}
use Rattle.httparse.specs.Grammar.{LineEnd, crlf, lf, Field, is_token_byte, is_uri_byte, is_value_byte}
use Rattle.wire.specs.Head.{HeadData, head_data}

-- what takes a piece from the front of some bytes: the piece, and the bytes after it
abbrev pub Reader : Type 0 → Type 0
Reader A = List ℕ → Option (A × List ℕ)

abbrev pub with_some : {A B : Type 0} → Option A → (A → Option B) → Option B
with_some None f = None
with_some (Some x) f = f x

-- one piece and then another
abbrev pub both : {A B : Type 0} → Reader A → Reader B → Reader (A × B)
both f g bs = with_some (f bs) (λ x. with_some (g x.1) (λ y. Some ((x.0, y.0), y.1)))

-- a piece that passes the test
abbrev pub such_that : {A : Type 0} → (A → Bool) → Reader A → Reader A
such_that test f bs = with_some (f bs) (λ x. if test x.0 then Some x else None)

-- an element in front of a piece
abbrev pub push : {A B : Type 0} → A → Option (List A × B) → Option (List A × B)
push a None = None
push a (Some x) = Some (a ∷ x.0, x.1)

abbrev pub is_some_list : List ℕ → Bool
is_some_list [] = false
is_some_list (b ∷ bs) = true

-- the end of a line, behind a carriage return or not
abbrev pub line_feed_of : LineEnd → Reader LineEnd
line_feed_of end [] = None
line_feed_of end (b ∷ bs) = if b == 10 then Some (end, bs) else None

abbrev pub newline : Reader LineEnd
newline [] = None
newline (b ∷ bs) = if b == 13 then line_feed_of crlf bs else line_feed_of lf (b ∷ bs)

-- all the empty lines
abbrev pub blank : Bool → Reader (List LineEnd)
blank false [] = None
blank true [] = None
blank false (b ∷ bs) = if b == 10 then push lf (blank false bs) else (if b == 13 then blank true bs else Some ([], b ∷ bs))
blank true (b ∷ bs) = if b == 10 then push crlf (blank false bs) else None

-- bytes that pass the test, and the byte that stops them
abbrev pub run : (ℕ → Bool) → ℕ → Reader (List ℕ)
run test stop [] = None
run test stop (b ∷ bs) = if test b then push b (run test stop bs) else (if b == stop then Some ([], bs) else None)

-- at least one of them
abbrev pub word : (ℕ → Bool) → ℕ → Reader (List ℕ)
word test stop = such_that is_some_list (run test stop)

-- the bytes after these
abbrev pub strip : List ℕ → List ℕ → Option (List ℕ)
strip [] bs = Some bs
strip (x ∷ xs) [] = None
strip (x ∷ xs) (b ∷ bs) = if b == x then strip xs bs else None

abbrev pub digit : Reader ℕ
digit [] = None
digit (b ∷ bs) = if b == 48 then Some (0, bs) else (if b == 49 then Some (1, bs) else None)

abbrev pub version : Reader ℕ
version bs = with_some (strip (codes "HTTP/1.") bs) digit

-- a value with the white space around it, and the end of its line
abbrev pub value_line : Reader (List ℕ × LineEnd)
value_line [] = None
value_line (b ∷ bs) =
    if is_value_byte b then option_map (λ x. ((b ∷ x.0.0, x.0.1), x.1)) (value_line bs)
    else option_map (λ x. (([], x.0), x.1)) (newline (b ∷ bs))

abbrev pub field : Reader Field
field bs = option_map (λ x. (record { name = x.0.0; raw = x.0.1.0; end = x.0.1.1 }, x.1)) (both (word is_token_byte 58) value_line bs)

abbrev pub start_line : Reader (List LineEnd × (List ℕ × (List ℕ × (ℕ × LineEnd))))
start_line = both (blank false) (both (word is_token_byte 32) (both (such_that is_utf8 (word is_uri_byte 32)) (both version newline)))

-- the empty line that ends the fields, or else what is read of more
abbrev pub section_or : Option (LineEnd × List ℕ) → Option ((List Field × LineEnd) × List ℕ) → Option ((List Field × LineEnd) × List ℕ)
section_or (Some x) more = Some (([], x.0), x.1)
section_or None more = more

-- the fields, at most so many, and the empty line after them
abbrev pub section : ℕ → Reader (List Field × LineEnd)
section zero bs = section_or (newline bs) None
section (suc room) bs = section_or (newline bs) (with_some (field bs) (λ x. option_map (λ y. ((x.0 ∷ y.0.0, y.0.1), y.1)) (section room x.1)))

abbrev pub head_at : (List LineEnd × (List ℕ × (List ℕ × (ℕ × LineEnd)))) × (List Field × LineEnd) → HeadData
head_at t = head_data (record { blank = t.0.0; method = t.0.1.0; target = t.0.1.1.0; minor = t.0.1.1.1.0; line_end = t.0.1.1.1.1; fields = t.1.0; last = t.1.1 })

-- the head at the front of the bytes, with at most 64 fields
unfoldable pub head_of : List ℕ → Option HeadData
head_of bs = option_map (λ x. head_at x.0) (both start_line (section 64) bs)
