-- A script that is being played.
-- For proofs alone: no public contract rests on it.
use Rattle.std.specs.Prelude.{◌≡◌, ℕ, List, ◌++◌, Option, Some}
use Rattle.std.specs.Io.KnownBytes.{Appends}
use Rattle.scripts.specs.Lines.{lines_of}
use Rattle.scripts.specs.Step.{State}
use Rattle.scripts.specs.Output.{outputs, lines}

-- the bytes written so far, and those of what is left of the script, are its output
pub record Going (old new left : Option (List ℕ)) (state : State) (script : List ℕ) : Type 0 where
  pub rest : List ℕ
  pub is_left : left ≡ Some rest
  pub front : List ℕ
  pub written : Appends old new front
  pub whole : lines script ≡ front ++ outputs state (lines_of rest)
