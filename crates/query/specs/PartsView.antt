-- The parts of a `bool` as they are handed on.
-- For proofs alone: no public contract rests on it.
use Rattle.serde_json.specs.View.{items_view}
use Rattle.doc.specs.Entries.{elements}
use Rattle.query.specs.declared.reading.Parts.{Parts}
use Rattle.query.specs.Reading as spec

abbrev pub parts_view : Parts → spec.Parts
parts_view p = record { filter = elements (items_view p.filter.now); must = elements (items_view p.must.now); must_not = elements (items_view p.must_not.now); should = elements (items_view p.should.now); minimum = p.minimum }
