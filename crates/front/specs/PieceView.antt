-- The pieces of a page as the program keeps them.
use Rattle.std.specs.Prelude.{ℕ, List, [], ◌∷◌, ◌++◌, string_bytes}
use Rattle.front.specs.declared.pieces.Piece.{Piece}
use Rattle.front.specs.declared.pieces.Piece.TheVariants.{Text, Shared}

abbrev pub piece_bytes : Piece → List ℕ
piece_bytes (Text text) = string_bytes text
piece_bytes (Shared source) = source

-- one piece after another
abbrev pub joined : List Piece → List ℕ
joined [] = []
joined (p ∷ ps) = piece_bytes p ++ joined ps
