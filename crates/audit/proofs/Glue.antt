-- From the merge of what the journals say to the answer of the audit.
use Rattle.std.proofs.Common.{◌≡◌, ℕ, List, Option, Some, None, Ok, Err, map, refl, sym, ap, subst, ◌∙◌}
use Rattle.std.specs.Prelude.{slice_get}
use Rattle.std.specs.Option.{option_map}
use Rattle.std.proofs.lemmas.Option.{slice_get-map}
use Rattle.doc.specs.Mapping.{MappingData}
use Rattle.audit.specs.declared.fault.AuditFault.TheVariants.{Uncaused}
use Rattle.journal.specs.declared.moves.Placed.{Placed}
use Rattle.world.specs.World.{World, new_world}
use Rattle.audit.specs.Moves.{Moves, IsMade, IsHaltedFrom}
use Rattle.audit.specs.Merge.{part_of, moves_in, IsMerged, HaltsAt}
use Rattle.journal.specs.declared.journal.Journal.{Journal}
use Rattle.audit.specs.Given.{AreAll}
use Rattle.audit.specs.Audit.{placed_in, placed_of, moves_of, IsSize, Pass, IsAudited}

-- the moves of each journal, as the merge takes them
abbrev pub parts_of : List Journal → List (List Placed)
parts_of js = map placed_in js

part_same : (js : List Journal) (i : ℕ) → part_of (slice_get (parts_of js) i) ≡ placed_of (slice_get js i)
part_same js i = ap part_of (slice_get-map placed_in js i) ∙ each (slice_get js i)
  where
    each : (o : Option Journal) → part_of (option_map placed_in o) ≡ placed_of o
    each None = refl
    each (Some j) = refl

moves_same : (js : List Journal) → moves_in (parts_of js) ≡ moves_of js
moves_same js = λ t i. map (λ p. p.what) (part_same js i t)

pub audited_ok : (mapping : MappingData) (n : ℕ) (js : List Journal) (w : World) → IsSize n → Pass mapping n js → AreAll js → IsMerged (new_world mapping n) (parts_of js) w → IsAudited mapping js (Ok w)
audited_ok mapping n js w size pass all merged = (n, merged.0, record { size = size; pass = pass; all = all; made = subst (λ (m : Moves). IsMade mapping n m merged.0) (moves_same js) merged.1 }, merged.2)

pub audited_uncaused : (mapping : MappingData) (n : ℕ) (js : List Journal) (node place : ℕ) → IsSize n → Pass mapping n js → AreAll js → HaltsAt (new_world mapping n) (parts_of js) node place → IsAudited mapping js (Err (Uncaused node place))
audited_uncaused mapping n js node place size pass all h = record {
  copies = n;
  size = size;
  pass = pass;
  all = all;
  count = h.count;
  halted = subst (λ (m : Moves). IsHaltedFrom (new_world mapping n) m node h.count) (moves_same js) h.halted;
  move = h.move;
  there = ap (λ (ps : List Placed). slice_get ps h.count) (sym (part_same js node)) ∙ h.there;
  at = h.at;
}
