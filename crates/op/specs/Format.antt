-- Records as bytes: the one spelling of each record. Numbers are little-endian.
use Rattle.std.specs.Prelude.{ℕ, ℤ, ◌+◌, List, [], ◌∷◌, ◌++◌, ◌≡◌, length, Bool, nat_lt, FitsSigned, slice_index_or, ◌<◌, Result, Ok, Err, if◌then◌else◌}
use Rattle.std.specs.List.{flat_map, sum_by, AllByRecursion}
use Rattle.std.specs.Str.{IsUtf8}
use Rattle.doc.specs.Id.{id_of}
use Rattle.doc.specs.Source.{source_of}
use Rattle.std.specs.Int.{w16, w32, w64, to_le_bytes, cast_unsigned}
use Rattle.op.specs.declared.operation.Op.{Op}
use Rattle.op.specs.declared.operation.Body.{Body}
use Rattle.op.specs.declared.operation.Body.TheVariants.{Index, Delete, NoOp}
use Rattle.op.specs.declared.record.Record.{Record}
use Rattle.op.specs.declared.record.Record.TheVariants.{Op as Kept, Resync, Recover}
use Rattle.op.specs.FormatFault.{Fault, malformed, too_large}
use Rattle.op.specs.Rules.{is_record, is_group}

-- the length of each spelling
abbrev pub body_length : Body → ℕ
body_length NoOp = 1
body_length (Index id source) = 7 + length id + length source
body_length (Delete id) = 3 + length id

abbrev pub operation_length : Op → ℕ
operation_length o = 24 + body_length o.body

abbrev pub record_length : Record → ℕ
record_length (Kept g o) = 9 + operation_length o
record_length (Resync term g os) = 21 + sum_by operation_length os
record_length (Recover term os) = 13 + sum_by operation_length os

-- each is a byte
abbrev pub AreBytes : List ℕ → Type 0
AreBytes bytes = (i : ℕ) → slice_index_or bytes i 0 < 256

-- eight bytes
abbrev pub number : ℕ → List ℕ
number n = to_le_bytes w64 n

-- eight bytes, in two's complement
abbrev pub signed : ℤ → List ℕ
signed z = to_le_bytes w64 (cast_unsigned w64 z)

-- two bytes of length, and the id
abbrev pub id_bytes : List ℕ → List ℕ
id_bytes id = to_le_bytes w16 (length id) ++ id

-- four bytes of length, and the source
abbrev pub source_bytes : List ℕ → List ℕ
source_bytes source = to_le_bytes w32 (length source) ++ source

-- a kind, and what belongs to it
abbrev pub body_bytes : Body → List ℕ
body_bytes NoOp = 0 ∷ []
body_bytes (Index id source) = 1 ∷ (id_bytes id ++ source_bytes source)
body_bytes (Delete id) = 2 ∷ id_bytes id

abbrev pub operation_bytes : Op → List ℕ
operation_bytes o = number o.seq ++ (number o.term ++ (number o.version ++ body_bytes o.body))

-- four bytes of count, and the operations
abbrev pub operations_bytes : List Op → List ℕ
operations_bytes os = to_le_bytes w32 (length os) ++ flat_map operation_bytes os

-- a tag, and the fields
abbrev pub spelling : Record → List ℕ
spelling (Kept g o) = 1 ∷ (signed g ++ operation_bytes o)
spelling (Resync term g os) = 2 ∷ (number term ++ (signed g ++ operations_bytes os))
spelling (Recover term os) = 3 ∷ (number term ++ operations_bytes os)

-- the fields of an operation's record, without the tag; a group has no other records
abbrev pub kept_fields : Record → List ℕ
kept_fields (Kept g o) = signed g ++ operation_bytes o
kept_fields (Resync term g os) = []
kept_fields (Recover term os) = []

-- a group: its tag, four bytes of count, and the fields of each record
abbrev pub group_spelling : List Record → List ℕ
group_spelling rs = 4 ∷ (to_le_bytes w32 (length rs) ++ flat_map kept_fields rs)

-- the records of one frame: one alone has its own spelling
abbrev pub frame_spelling : List Record → List ℕ
frame_spelling [] = group_spelling []
frame_spelling (r ∷ []) = spelling r
frame_spelling (r ∷ s ∷ rs) = group_spelling (r ∷ s ∷ rs)

-- a text that is an id, and one that is a source
abbrev pub IsIdText : List ℕ → Type 0
IsIdText id = IsUtf8 id × (id_of id ≡ Ok id)

abbrev pub IsSourceText : List ℕ → Type 0
IsSourceText source = IsUtf8 source × (source_of source ≡ Ok source)

abbrev pub HasTexts : Body → Type 0
HasTexts NoOp = Unit {0}
HasTexts (Index id source) = IsIdText id × IsSourceText source
HasTexts (Delete id) = IsIdText id

-- what the types of a record's parts ask: a checkpoint is an `i64`, and the texts are ids and sources
abbrev pub IsTyped : Record → Type 0
IsTyped (Kept g o) = FitsSigned w64 g × HasTexts o.body
IsTyped (Resync term g os) = FitsSigned w64 g × AllByRecursion (λ o. HasTexts o.body) os
IsTyped (Recover term os) = AllByRecursion (λ o. HasTexts o.body) os

-- a spelling has at most 4,294,967,295 bytes
abbrev pub is_too_large : Record → Bool
is_too_large r = nat_lt 4294967295 (length (spelling r))

-- a length that a spelling may have
abbrev pub length_or : ℕ → Result ℕ Fault
length_or n = if nat_lt 4294967295 n then Err too_large else Ok n

-- the spelling that a record is written by, or why it has none: it breaks a rule, or is too large
abbrev pub encoded : Record → Result (List ℕ) Fault
encoded r = if is_record r then (if is_too_large r then Err too_large else Ok (spelling r)) else Err malformed

-- the spelling that the records of one frame are written by, or why they have none: they are no group, or the one breaks a rule or is too large
abbrev pub frame_encoded : List Record → Result (List ℕ) Fault
frame_encoded [] = Err malformed
frame_encoded (r ∷ []) = encoded r
frame_encoded (r ∷ s ∷ rs) = if is_group (r ∷ s ∷ rs) then Ok (group_spelling (r ∷ s ∷ rs)) else Err malformed
