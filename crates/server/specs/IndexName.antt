-- Names of indices.
use Rattle.std.specs.Prelude.{ℕ, Bool, true, false, not, ◌==◌, ◌&&◌, ◌||◌, nat_lt, nat_le, length, bytes_eq, codes, List, [], ◌∷◌}
use Rattle.std.specs.Char.{is_ascii_uppercase}
use Rattle.std.specs.List.{list_all}

-- one of \ / * ? " < > | , # : and the space
abbrev pub is_special : ℕ → Bool
is_special b = (b == 92) || (b == 47) || (b == 42) || (b == 63) || (b == 34) || (b == 60) || (b == 62) || (b == 124) || (b == 44) || (b == 35) || (b == 58) || (b == 32)

abbrev pub is_allowed : ℕ → Bool
is_allowed b = not (is_ascii_uppercase b) && not (is_special b)

abbrev pub are_allowed : List ℕ → Bool
are_allowed name = list_all is_allowed name

-- not with - or _ or +
abbrev pub begins_well : List ℕ → Bool
begins_well [] = true
begins_well (b ∷ bs) = not ((b == 45) || (b == 95) || (b == 43))

-- 1 to 255 bytes, each allowed and the first no sign, and neither . nor ..
abbrev pub is_index_name : List ℕ → Bool
is_index_name name =
    not (length name == 0) && nat_le (length name) 255 && begins_well name && are_allowed name && not (bytes_eq name (codes ".")) && not (bytes_eq name (codes ".."))
