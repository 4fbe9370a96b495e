-- Segments of documents that other segments have.
use Rattle.std.specs.Prelude.{ℕ, Bool, List, [], ◌∷◌, if◌then◌else◌}
use Rattle.std.specs.List.{flat_map}
use Rattle.std.specs.Arc.{arc_value}
use Rattle.doc.specs.Mapping.{MappingData}
use Rattle.doc.specs.Document.{DocData, all_values}
use Rattle.segment.specs.Indexed.{SegmentData}
use Rattle.segment.specs.declared.merging.LiveSegment.{LiveSegment}

-- the elements whose mark is true
abbrev pub chosen : {A : Type 0} → List A → List Bool → List A
chosen [] bs = []
chosen (x ∷ xs) [] = []
chosen (x ∷ xs) (b ∷ bs) = if b then x ∷ chosen xs bs else chosen xs bs

-- the segment
abbrev pub segment_in : LiveSegment → SegmentData
segment_in p = arc_value p.segment

-- the sources of the live documents, those of the first segment first
abbrev pub live_sources : List LiveSegment → List (List ℕ)
live_sources ps = flat_map (λ p. chosen (segment_in p).sources p.live) ps

-- a source read under a mapping: with its values where it fits, and else without
abbrev pub read_under : MappingData → List ℕ → DocData
read_under m source = record { source = source; values = all_values m source }
