-- A refresh or a restart that is ready.
-- Contracts name it only in what `prepare` hands to `commit`.
use Rattle.engine.specs.Contents.{Contents}
use Rattle.engine.specs.Staged.{StagedData, records_of}
use Rattle.replica.specs.declared.planned.Reopened.{Reopened}
use Rattle.replica.specs.Copy.{Copy}

-- what the engine of a copy holds
abbrev pub contents : Copy → Contents
contents c = record { mapping = c.mapping; records = c.records; point = c.point }

-- the copy after a refresh
abbrev pub shown_by : Copy → StagedData → Copy
shown_by c s = record c { point = s.point }

-- the copy after a restart
abbrev pub reopened_by : Copy → Reopened → Copy
reopened_by c r = record c { records = records_of c.records r.staged.records; term = r.term; known = r.known; role = r.role; point = r.staged.point }
