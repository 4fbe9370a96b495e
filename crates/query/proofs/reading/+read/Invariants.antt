use Rattle.std.proofs.Common.{◌≡◌, ◌+◌, ◌*◌, map, drop}
use Rattle.serde_json.specs.View.{items_view}
use Rattle.doc.specs.Entries.{elements}
use Rattle.query.specs.Reading.{thread}
use Rattle.query.specs.Reading.{query_at}
use Rattle.query.specs.View.{query_view}
use Rattle.query.proofs.Threads.{thread_front}
use Rattle.query.proofs.reading.+read.Given as goal

abbrev pub decreases-query_at : goal.decreases-query_at
decreases-query_at l = 3 * l.room

abbrev pub decreases-bool_of : goal.decreases-bool_of
decreases-bool_of l = 3 * l.room + 2

abbrev pub decreases-queries_at : goal.decreases-queries_at
decreases-queries_at l = 3 * l.room + 1

abbrev pub invariant-queries_at-loop-value : goal.invariant-queries_at-loop-value
invariant-queries_at-loop-value l =
    thread_front (map query_view l.found.items) (thread (query_at l.mapping l.room) l.left (elements (items_view (drop l.value-index l.values))))
    ≡ thread (query_at l.mapping l.room) l.fn.left (elements (items_view l.values))
