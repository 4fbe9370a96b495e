use Rattle.audit.proofs.Links.{copies_are, master_is}
use Rattle.audit.proofs.laws.nodes_are_what_journals_say.Goals as goal

pub returns : goal.returns
returns c = record { copies = copies_are; master = master_is }
