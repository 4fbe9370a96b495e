use Rattle.cluster.specs.Refreshed.{AreSoFar}
use Rattle.cluster.proofs.client.Client.refreshed_in.Given as goal

-- those of the copies before this one that are in sync are refreshed
abbrev pub invariant-loop-copy : goal.invariant-loop-copy
invariant-loop-copy g l = AreSoFar l.state l.copy l.entries.items
