use Rattle.std.proofs.Common.{◌≡◌, ◌∙◌, ◌<◌, sym, ap, map, take, length, [], ◌∷◌, ◌++◌, arith, length-append}
use Rattle.std.proofs.lemmas.List.{map-append, length-map, take-map}
use Rattle.front.specs.Bulk.{item_write, good, writes_of}
use Rattle.front.specs.BulkView.{item_view, step_view}
use Rattle.front.proofs.Bulks.{writes_more, steps_more, one_longer, one_at_most, is_part}
use Rattle.front.proofs.bulk.read_part.Goals.{else-loop-item-test, then-loop-item-test+then-len-eq-MOST_WRITES}
use Rattle.front.proofs.bulk.read_part.Goals as goal

pub loop-item-preserved : goal.loop-item-preserved
loop-item-preserved c =
    let i = c.loop-item.invariant in
    let served = c.args.served.now in
    let mapping = c.args.mapping.now in
    let before = map item_view (take c.loop-item.item-index c.args.items.now) in
    let item = item_view c.item-item.result in
    let one = good (item_write served mapping item) in
    let step = step_view c.in_ok-step.step in
    let steps : map step_view c.push.new.self.items ≡ map step_view c.loop-item.steps.items ++ step ∷ [] =
    ap (map step_view) c.in_ok-push.ensures.items ∙ map-append step_view c.loop-item.steps.items (c.in_ok-step.step ∷ []) in
    rw (one_longer item_view c.args.items.now c.loop-item.item-index c.item-item.result (omega arith) c.item-item.is) (record {
      writes = c.in_ok-step.ensures.writes ∙ ap (λ l. l ++ one) i.writes ∙ sym (writes_more served mapping before item);
      steps = rw steps (steps_more c.args.greets served mapping before item (map step_view c.loop-item.steps.items) step c.loop-item.writes.items i.writes i.steps c.in_ok-step.ensures.step);
      long = omega (arith, i.long, ap length c.in_ok-push.ensures.items, length-append c.loop-item.steps.items (c.in_ok-step.step ∷ []));
      fits = omega arith;
      most = omega (arith, i.most, c.len.ensures, c.if-len-eq-MOST_WRITES.false, ap length c.in_ok-step.ensures.writes, length-append c.loop-item.writes.items one, one_at_most (item_write served mapping item));
    })

pub returns-clause-part : goal.returns-clause-part
returns-clause-part c =
    let i = c.loop-item.invariant in
    let items = map item_view c.args.items.now in
    let all = length-map c.args.items.now item_view in
    let writes : c.loop-item.writes.items ≡ writes_of c.args.served.now c.args.mapping.now (take c.loop-item.item-index items) =
    i.writes ∙ ap (writes_of c.args.served.now c.args.mapping.now) (sym (take-map item_view c.loop-item.item-index c.args.items.now)) in
    let full : c.loop-item.item-index < length items → length c.loop-item.writes.items ≡ 1024 = λ h. elim c.loop-item-test.branch [
      | else-loop-item-test w ↦ absurd (omega (arith, h, all, w.loop-item-test.false))
      | then-loop-item-test+then-len-eq-MOST_WRITES w ↦ omega (arith, w.len.ensures, w.if-len-eq-MOST_WRITES.true)
    ] in
    rw i.long (is_part c.args.served.now c.args.mapping.now items c.loop-item.item-index c.loop-item.writes.items writes (omega (arith, i.fits, all)) i.most full)

pub returns-clause-writes : goal.returns-clause-writes
returns-clause-writes c =
    let i = c.loop-item.invariant in
    rw (i.long, take-map item_view c.loop-item.item-index c.args.items.now) i.writes

pub returns-clause-steps : goal.returns-clause-steps
returns-clause-steps c =
    let i = c.loop-item.invariant in
    rw (i.long, take-map item_view c.loop-item.item-index c.args.items.now) i.steps
