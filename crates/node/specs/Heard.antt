-- What somebody heard of a copy's journal, and what comes later.
use Rattle.std.specs.Prelude.{◌≡◌, ℕ, ◌<◌, ◌≤◌, List, length}
use mathlib.Core.List.{IsPrefix}
use Rattle.chronicle.specs.Registered.{PrefixData}
use Rattle.journal.specs.declared.journal.Deed.{Deed}
use Rattle.node.specs.Entry.{Receipt}
use Rattle.node.specs.Reading.{GotData}

-- the entry is of another copy, or stands after all of these
pub record IsBehindAll (h : PrefixData Deed) (r : Receipt) : Type 0 where
  pub place : length h.entries ≤ r.place
  pub entries : IsPrefix h.entries r.deeds

abbrev pub IsAheadOf : PrefixData Deed → Receipt → Type 0
IsAheadOf h r = r.node ≡ h.number → IsBehindAll h r

-- the entry is of this copy, and the entries up to it begin these
pub record HasEntry (h : PrefixData Deed) (r : Receipt) : Type 0 where
  pub node : r.node ≡ h.number
  pub entries : IsPrefix r.deeds h.entries

-- what was read is of another copy, or of this one after all of these
abbrev pub IsNotBefore : PrefixData Deed → GotData → Type 0
IsNotBefore h g = g.node ≡ h.number → IsPrefix h.entries g.deeds

-- they are of this copy's journal, which had fewer entries then
pub record IsEarlier (h : PrefixData Deed) (node : ℕ) (deeds : List Deed) : Type 0 where
  pub same : node ≡ h.number
  pub fewer : length deeds < length h.entries
