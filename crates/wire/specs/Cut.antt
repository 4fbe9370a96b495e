-- Where the head of a request ends.
use Rattle.std.specs.Prelude.{◌≡◌, ℕ, zero, suc, ◌==◌, List, [], ◌∷◌, Option, Some, None, if◌then◌else◌}
use Rattle.wire.specs.declared.place.Place.{Place}
use Rattle.wire.specs.declared.place.Place.TheVariants.{Blank, BlankReturn, Text, Start, StartReturn}
use Rattle.wire.specs.declared.reading.HeadBytes.{HeadBytes}
use Rattle.wire.specs.declared.reading.HeadBytes.TheVariants as read

-- the place after a byte; none where the head ends with it, at the end of the first empty line after a line that isn't empty
abbrev pub next : Place → ℕ → Option Place
next Blank b = Some (if b == 10 then Blank else (if b == 13 then BlankReturn else Text))
next BlankReturn b = Some (if b == 10 then Blank else Text)
next Text b = Some (if b == 10 then Start else Text)
next Start b = if b == 10 then None else Some (if b == 13 then StartReturn else Text)
next StartReturn b = if b == 10 then None else Some Text

-- the bytes end within a head; a head has no end in its room; a head, and the bytes after it
pub data Cut : Type 0 where
  short : Cut
  long : Cut
  whole : List ℕ → List ℕ → Cut

-- a byte in front of a head
abbrev pub onto : ℕ → Cut → Cut
onto b short = short
onto b long = long
onto b (whole head rest) = whole (b ∷ head) rest

-- the byte, and where the head doesn't end with it the others
abbrev pub cut_at : ℕ → List ℕ → (Place → Cut) → Option Place → Cut
cut_at b bs others None = whole (b ∷ []) bs
cut_at b bs others (Some p) = onto b (others p)

abbrev pub cut_from : ℕ → Place → List ℕ → Cut
cut_from zero p bs = long
cut_from (suc room) p [] = short
cut_from (suc room) p (b ∷ bs) = cut_at b bs (λ q. cut_from room q bs) (next p b)

-- the head at the front of the bytes
unfoldable pub cut : List ℕ → Cut
cut bs = cut_from 16384 Blank bs

-- the first byte and those after it, or their end
abbrev pub IsFirst : List ℕ → Option ℕ → Option (List ℕ) → Type 0
IsFirst bytes None left = (bytes ≡ []) × (left ≡ Some [])
IsFirst bytes (Some b) left = (rest : List ℕ) × (bytes ≡ b ∷ rest) × (left ≡ Some rest)

-- what was read is that head, and what is left is after it
abbrev pub IsCutOf : Cut → HeadBytes → Option (List ℕ) → Type 0
IsCutOf c read.Short left = c ≡ short
IsCutOf c read.Long left = c ≡ long
IsCutOf c (read.Whole head) left = (rest : List ℕ) × (left ≡ Some rest) × (c ≡ whole head.items rest)

abbrev pub IsCut : List ℕ → HeadBytes → Option (List ℕ) → Type 0
IsCut bytes head left = IsCutOf (cut bytes) head left
