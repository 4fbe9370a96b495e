use Rattle.std.specs.Prelude.{◌≡◌, map, vec_len}
use mathlib.Core.List.{IsPrefix}
use Rattle.cluster.specs.Opened.{copy_of, AreNew}
use Rattle.cluster.proofs.cluster.new_copies.Given as goal

-- there is a copy for each id so far
abbrev pub invariant-loop-before : goal.invariant-loop-before
invariant-loop-before g l = (vec_len l.all ≡ l.before) × AreNew l.label.mapping l.copies 1 (map copy_of l.all.items) × IsPrefix (g.V.Devices.gave l.initial.devices) (g.V.Devices.gave l.devices)
