-- Paths and bodies in parts.
use Rattle.std.proofs.Common.{◌≡◌, ℕ, ◌==◌, List, [], ◌∷◌, Option, Some, None}
use Rattle.std.specs.List.{slice_split}
use Rattle.wire.specs.Pieces.{cut_at}
use Rattle.wire.proofs.Cuts.{parts_from, split_at}

abbrev pub path_parts : List ℕ → Option (List ℕ) → List (List ℕ)
path_parts a None = a ∷ []
path_parts a (Some rest) = a ∷ slice_split (λ b. b == 47) rest

-- a path, cut at its first `/`
pub split_cut : (bs a : List ℕ) (o : Option (List ℕ)) → a ≡ (cut_at 47 bs).0 → o ≡ (cut_at 47 bs).1 → slice_split (λ b. b == 47) bs ≡ path_parts a o
split_cut bs a None e k = split_at 47 bs a None e k
split_cut bs a (Some rest) e k = split_at 47 bs a (Some rest) e k

-- a body, cut at its first newline
pub split_newline : (bs a : List ℕ) (o : Option (List ℕ)) → a ≡ (cut_at 10 bs).0 → o ≡ (cut_at 10 bs).1 → slice_split (λ b. b == 10) bs ≡ parts_from 10 a o
split_newline = split_at 10
