-- What a cluster says of a refusal of a node, of a copy and of the master.
use Rattle.master.specs.declared.fault.MasterFault.{MasterFault}
use Rattle.master.specs.declared.fault.MasterFault.TheVariants as master
use Rattle.node.specs.declared.fault.NodeFault.{NodeFault}
use Rattle.node.specs.declared.fault.NodeFault.TheVariants as node
use Rattle.replica.specs.declared.fault.CopyFault.{CopyFault}
use Rattle.replica.specs.declared.fault.CopyFault.TheVariants as copy
use Rattle.cluster.specs.declared.fault.ClusterFault.{ClusterFault}
use Rattle.cluster.specs.declared.fault.ClusterFault.TheVariants.{NoMemory, NoSeat, Copy, Master, Stray}

abbrev pub of_master : MasterFault → ClusterFault
of_master master.NoMemory = NoMemory
of_master master.OldTerm = Master master.OldTerm
of_master master.NotInSync = Master master.NotInSync
of_master master.IsPrimary = Master master.IsPrimary
of_master master.Gone = Master master.Gone
of_master (master.Log f) = Master (master.Log f)
of_master master.Full = Master master.Full

abbrev pub of_node : NodeFault → ClusterFault
of_node node.NoMemory = NoMemory
of_node node.NoSeat = NoSeat
of_node (node.Copy f) = Copy f
of_node (node.Stray place) = Stray place
of_node (node.Forgotten place) = Stray place

abbrev pub of_copy : CopyFault → ClusterFault
of_copy copy.NoMemory = NoMemory
of_copy copy.NotPrimary = Copy copy.NotPrimary
of_copy copy.VersionConflict = Copy copy.VersionConflict
of_copy copy.WindowFull = Copy copy.WindowFull
of_copy copy.OldTerm = Copy copy.OldTerm
of_copy copy.NotSynced = Copy copy.NotSynced
of_copy copy.BeyondWindow = Copy copy.BeyondWindow
of_copy copy.Mismatch = Copy copy.Mismatch
of_copy copy.Closed = Copy copy.Closed
of_copy (copy.Log f) = Copy (copy.Log f)
of_copy copy.WrongAddress = Copy copy.WrongAddress
of_copy copy.Exhausted = Copy copy.Exhausted
