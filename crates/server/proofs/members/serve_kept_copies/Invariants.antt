use Rattle.std.specs.Prelude.{string_bytes}
use Rattle.server.proofs.members.serve_kept_copies.Given as goal

-- the new registry, the name and the mapping are those of the index
abbrev pub ghosts-serve_folder-J-RegistryName : goal.ghosts-serve_folder-J-RegistryName
ghosts-serve_folder-J-RegistryName g a = record { registry = a.founding.journals.registry; ledger = a.founding.journals.ledger }

abbrev pub ghosts-serve_folder-J-IndexName : goal.ghosts-serve_folder-J-IndexName
ghosts-serve_folder-J-IndexName g a = record { index = record { name = string_bytes a.founding.name; mapping = a.founding.fields } }
