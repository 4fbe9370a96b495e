use Rattle.std.proofs.Common.{◌≡◌, ◌+◌, ◌++◌, ◌∷◌, [], map, drop}
use Rattle.std.proofs.lemmas.Result.{err_from_is_err_and}
use Rattle.std.proofs.lemmas.List.{map_push}
use Rattle.serde_json.specs.View.{view, items_view}
use Rattle.doc.specs.Entries.{elements}
use Rattle.doc.proofs.Parts.{part_at, part_end}
use Rattle.query.specs.Fault.{fault_of}
use Rattle.query.specs.Reading.{thread}
use Rattle.query.specs.Reading.{query_at}
use Rattle.query.specs.View.{query_view}
use Rattle.query.proofs.Threads.{thread_on, thread_ends, thread_done}
use Rattle.query.proofs.reading.+read.Goals as goal

pub queries_at-returns-in_err-query : goal.queries_at-returns-in_err-query
queries_at-returns-in_err-query t c =
    let p = err_from_is_err_and c.from_residual.result c.from_residual.ensures.1 in
    let values = c.args.values.now in
    let i = c.loop-value.value-index in
    let f = query_at c.args.mapping.now c.args.room in
    let here = part_at values i c.value-item.result c.loop-value-test.true c.value-item.is in
    rw (p.1, p.2) (thread_ends fault_of c.in_err-query.field-0.0 f (map query_view c.loop-value.found.items) c.loop-value.left (view c.value-item.result) (elements (items_view (drop (i + 1) values))) (thread f c.args.left.now (elements (items_view values))) c.in_err-query.ensures (rw here at c.loop-value.invariant))

pub queries_at-loop-value-preserved : goal.queries_at-loop-value-preserved
queries_at-loop-value-preserved t c =
    let values = c.args.values.now in
    let i = c.loop-value.value-index in
    let f = query_at c.args.mapping.now c.args.room in
    let here = part_at values i c.value-item.result c.loop-value-test.true c.value-item.is in
    let query = c.in_ok-query.query in
    let e : map query_view c.push.new.self.items ≡ map query_view c.loop-value.found.items ++ query_view query ∷ [] = rw c.in_ok-push.ensures.items (map_push _ c.loop-value.found.items query) in
    rw e (thread_on f (map query_view c.loop-value.found.items) c.loop-value.left (view c.value-item.result) (query_view query) c.query_at.new.left (elements (items_view (drop (i + 1) values))) (thread f c.args.left.now (elements (items_view values))) c.in_ok-query.ensures (rw here at c.loop-value.invariant))

pub queries_at-returns : goal.queries_at-returns
queries_at-returns t c =
    let values = c.args.values.now in
    let none = part_end values c.loop-value.value-index c.loop-value-test.false in
    let f = query_at c.args.mapping.now c.args.room in
    thread_done f (map query_view c.loop-value.found.items) c.loop-value.left (thread f c.args.left.now (elements (items_view values))) (rw none at c.loop-value.invariant)
