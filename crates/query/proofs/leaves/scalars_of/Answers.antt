use Rattle.std.proofs.Common.{◌≡◌, ◌+◌, ◌++◌, ◌∷◌, [], drop}
use Rattle.std.proofs.lemmas.Result.{err_from_is_err_and}
use Rattle.std.proofs.lemmas.List.{map_push}
use Rattle.serde_json.specs.View.{view, items_view}
use Rattle.doc.specs.Outcome.{try_map}
use Rattle.doc.specs.Entries.{elements}
use Rattle.doc.specs.ScalarView.{scalar_view, scalars_view}
use Rattle.doc.proofs.Parts.{part_at, part_end}
use Rattle.doc.proofs.Fronts.{goes_on, ends, is_done}
use Rattle.query.specs.Fault.{fault_of}
use Rattle.query.specs.Leaves.{scalar_of}
use Rattle.query.proofs.leaves.scalars_of.Goals as goal

-- the first value that can't be converted is the fault of all
pub returns-in_err-scalar : goal.returns-in_err-scalar
returns-in_err-scalar c =
    let refused = err_from_is_err_and c.from_residual.result c.from_residual.ensures.1 in
    let read = scalar_of c.args.field.now c.args.kind in
    let values = c.args.values.now in
    let i = c.loop-value.value-index in
    let here = part_at values i c.value-item.result c.loop-value-test.true c.value-item.is in
    rw (refused.1, refused.2) (ends fault_of c.in_err-scalar.field-0.0 read (scalars_view c.loop-value.found.items) (view c.value-item.result) (elements (items_view (drop (i + 1) values))) (try_map read (elements (items_view values))) c.in_err-scalar.ensures (rw here at c.loop-value.invariant))

-- one value more
pub loop-value-preserved : goal.loop-value-preserved
loop-value-preserved c =
    let read = scalar_of c.args.field.now c.args.kind in
    let values = c.args.values.now in
    let i = c.loop-value.value-index in
    let here = part_at values i c.value-item.result c.loop-value-test.true c.value-item.is in
    let found = scalars_view c.loop-value.found.items in
    let scalar = c.in_ok-scalar.scalar in
    let e : scalars_view c.push.new.self.items ≡ found ++ scalar_view scalar ∷ [] = rw c.in_ok-push.ensures.items (map_push scalar_view c.loop-value.found.items scalar) in
    rw e (goes_on read found (view c.value-item.result) (scalar_view scalar) (elements (items_view (drop (i + 1) values))) (try_map read (elements (items_view values))) c.in_ok-scalar.ensures (rw here at c.loop-value.invariant))

-- no value is left
pub returns : goal.returns
returns c =
    let none = part_end c.args.values.now c.loop-value.value-index c.loop-value-test.false in
    let read = scalar_of c.args.field.now c.args.kind in
    is_done read (scalars_view c.loop-value.found.items) (try_map read (elements (items_view c.args.values.now))) (rw none at c.loop-value.invariant)
