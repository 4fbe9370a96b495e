-- What is left of parts without the documents that have one of some ids.
-- For proofs alone: no public contract rests on it.
use Rattle.std.specs.Prelude.{◌≡◌, List, map}
use Rattle.doc.specs.Id.{Id}
use Rattle.engine.specs.Parts.{published_of, without}
use Rattle.engine.specs.Published.{Published}
use Rattle.engine.specs.declared.job.lessened.Lessened.{Lessened}

-- the second part is what is left of the first
abbrev pub IsLessened : List Id → Lessened → Type 0
IsLessened ids l = l.after ≡ record l.before { documents = without ids l.before.documents }

-- the segments of the first parts
abbrev pub all_before : List Lessened → List Published
all_before ls = map (λ l. published_of l.before) ls
