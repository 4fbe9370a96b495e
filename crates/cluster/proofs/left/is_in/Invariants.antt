use Rattle.std.specs.List.{AllWithin}
use Rattle.node.specs.Ended.{HasReceipt}
use Rattle.cluster.proofs.left.is_in.Given as goal

-- none so far has the receipt
abbrev pub invariant-loop-left : goal.invariant-loop-left
invariant-loop-left g l = AllWithin (λ j. HasReceipt l.receipt j → ⊥) l.lefts 0 l.left-index
