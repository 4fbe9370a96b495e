-- Which ids may be among some.
-- For proofs alone: no public contract rests on it.
use Rattle.std.specs.Prelude.{ℕ, Bool, false, List, [], ◌∷◌, ◌+◌, ◌*◌, ◌%◌, length, slice_index_or}
use Rattle.doc.specs.Id.{Id}

-- a number for the bytes of an id, after those that made this one
abbrev pub hash_from : ℕ → Id → ℕ
hash_from hash [] = hash
hash_from hash (b ∷ bs) = hash_from (((hash + b) + 1) * 16777619 % 4294967296) bs

-- the place of an id's bit among so many
abbrev pub place_in : ℕ → Id → ℕ
place_in n id = hash_from 0 id % n

-- whether the bit of an id is set
abbrev pub has_bit : List Bool → Id → Bool
has_bit bits id = slice_index_or bits (place_in (length bits) id) false
