-- Devices that were given out.
use Rattle.std.specs.Prelude.{◌≡◌, ℕ, List, ◌∷◌, ◌++◌}
use base.Stored.{Coded, coded×, coded_ℕ, coded_list, coded_via}

-- of which node a device is, and the bytes that it held when it was given out
pub record GivenData : Type 0 where
  pub node : ℕ
  pub bytes : List ℕ

abbrev pub given : ℕ → List ℕ → GivenData
given node bytes = record { node = node; bytes = bytes }

abbrev pub given_coded : Coded GivenData
given_coded = coded_via (coded× coded_ℕ (coded_list coded_ℕ)) (λ (g : GivenData). (g.node, g.bytes)) (λ x y e i. record { node = (e i).0; bytes = (e i).1 })

-- a device of this node is among them that held these bytes
pub record IsGiven (gave : List GivenData) (node : ℕ) (bytes : List ℕ) : Type 0 where
  pub before : List GivenData
  pub after : List GivenData
  pub there : gave ≡ before ++ given node bytes ∷ after
