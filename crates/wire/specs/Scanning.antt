-- A head that is being read.
use Rattle.std.specs.Prelude.{◌≡◌, ℕ, ◌+◌, List, [], ◌∷◌, Option, Some}
use Rattle.wire.specs.declared.place.Place.{Place}
use Rattle.wire.specs.Cut.{Cut, onto, cut_from, cut}

-- bytes in front of a head
abbrev pub fronts : List ℕ → Cut → Cut
fronts [] c = c
fronts (b ∷ bs) c = onto b (fronts bs c)

-- the bytes read so far, and what is left, give the head
pub record Scanning (left : Option (List ℕ)) (read : List ℕ) (place : Place) (count : ℕ) (bytes : List ℕ) : Type 0 where
  pub rest : List ℕ
  pub is_left : left ≡ Some rest
  pub room : ℕ
  pub in_room : room + count ≡ 16384
  pub same : fronts read (cut_from room place rest) ≡ cut bytes
