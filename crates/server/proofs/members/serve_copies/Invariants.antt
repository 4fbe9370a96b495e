use Rattle.std.specs.Prelude.{string_bytes}
use Rattle.server.proofs.members.serve_copies.Given as goal

-- the new registry, the name and the mapping are those of the index
abbrev pub ghosts-serve_started-J-RegistryName : goal.ghosts-serve_started-J-RegistryName
ghosts-serve_started-J-RegistryName g a = record { registry = a.founding.journals.registry; ledger = a.founding.journals.ledger }

abbrev pub ghosts-serve_started-J-IndexName : goal.ghosts-serve_started-J-IndexName
ghosts-serve_started-J-IndexName g a = record { index = record { name = string_bytes a.founding.name; mapping = a.founding.fields } }
