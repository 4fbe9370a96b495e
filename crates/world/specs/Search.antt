-- What a search at a copy of a world answers.
use Rattle.std.specs.Prelude.{ℕ, Option, option_map}
use Rattle.doc.specs.Mapping.{MappingData}
use Rattle.op.specs.Records.{shown}
use Rattle.query.specs.Page.{PageData}
use Rattle.query.specs.Query.{Query}
use Rattle.engine.specs.Answer.{Answer, answer}
use Rattle.world.specs.World.{World, copy_in}

-- the documents that the query means under the mapping, of those that the operations of the copy's records up to its refresh point make; nothing
-- where the copy isn't there
abbrev pub search_in : World → MappingData → ℕ → Query → PageData → Option Answer
search_in w mapping id q page = option_map (λ c. answer mapping (shown c.records c.point) q page) (copy_in w.copies id)
