-- What a script prints.
use Rattle.std.specs.Prelude.{ℕ, List, [], ◌∷◌, ◌++◌, Option, Some, None, Result, Ok, Err, if◌then◌else◌}
use Rattle.doc.specs.Outcome.{◌>>=◌}
use Rattle.scripts.specs.Lines.{lines_of}
use Rattle.scripts.specs.Command.{Command, command_of, is_passed_over}
use Rattle.scripts.specs.Refusal.{Refusal, bad_line, name_of}
use Rattle.scripts.specs.Reply.{printed, refused}
use Rattle.scripts.specs.Step.{State, Step, step}

abbrev pub command_or_bad_line : Option Command → Result Command Refusal
command_or_bad_line None = Err bad_line
command_or_bad_line (Some c) = Ok c

-- what a line does
abbrev pub line_step : State → List ℕ → Step State
line_step s line = command_or_bad_line (command_of line) >>= step s

-- the state after a step and what is printed; a refusal leaves the state
abbrev pub outcome : State → Step State → State × List ℕ
outcome s (Ok r) = (r.0, printed r.1)
outcome s (Err f) = (s, refused (name_of f))

-- the state after a line, and what the line prints
unfoldable pub played : State → List ℕ → State × List ℕ
played s line = if is_passed_over line then (s, []) else outcome s (line_step s line)

-- what lines print, one after another
abbrev pub outputs : State → List (List ℕ) → List ℕ
outputs s [] = []
outputs s (line ∷ lines) = (played s line).1 ++ outputs (played s line).0 lines

-- the output of a script; the index isn't open at first
abbrev pub lines : List ℕ → List ℕ
lines script = outputs None (lines_of script)
