use Rattle.std.proofs.Common.{◌≡◌, ◌++◌, drop, map}
use Rattle.wire.proofs.sender.copied.Given as goal

-- those that are left are still to come
abbrev pub invariant-loop-value : goal.invariant-loop-value
invariant-loop-value l = map (λ x. x.items) l.copies.items ++ map (λ x. x.items) (drop l.value-index l.values) ≡ map (λ x. x.items) l.values
