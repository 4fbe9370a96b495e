-- Hits, each as it is replied.
use Rattle.std.proofs.Common.{◌≡◌, List, [], ◌∷◌, map, refl, ap}
use Rattle.engine.specs.declared.read.snapshot.Hit.{Hit}
use Rattle.engine.specs.Shown.{hit_view}
use Rattle.shard.specs.Answering.{hit_of}

pub each_in_turn : (found : List Hit) → map hit_of (map hit_view found) ≡ map (λ h. hit_of (hit_view h)) found
each_in_turn [] = refl
each_in_turn (h ∷ found) = ap (λ l. hit_of (hit_view h) ∷ l) (each_in_turn found)
