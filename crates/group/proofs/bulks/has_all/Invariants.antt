use Rattle.std.specs.List.{AllWithin}
use Rattle.node.specs.Heard.{HasEntry}
use Rattle.group.proofs.bulks.has_all.Given as goal

-- those so far were heard
abbrev pub invariant-loop-entry : goal.invariant-loop-entry
invariant-loop-entry g l = AllWithin (HasEntry l.heard) l.entries 0 l.entry-index
