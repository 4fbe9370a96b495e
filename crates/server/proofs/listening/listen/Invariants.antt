use Rattle.server.proofs.listening.listen.Given as goal

-- the index that is served gives its history its name
abbrev pub ghosts-listen_to_one : goal.ghosts-listen_to_one
ghosts-listen_to_one g a = record { index = a.begun }
