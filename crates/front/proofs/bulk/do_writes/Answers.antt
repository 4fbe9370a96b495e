use Rattle.std.proofs.Common.{◌≡◌, ◌∙◌, sym, ap, ◌||◌, map, [], ◌∷◌, ◌++◌, ◌-◌, append-nil, arith, length, take, drop, length-drop}
use Rattle.std.proofs.lemmas.Bool.Decides.{nat_tests}
use Rattle.std.proofs.lemmas.List.{map-append, take_all, drop-map}
use Rattle.front.specs.Bulk.{batch, is_any, writes_of, write_commands, IsPart, PartDone}
use Rattle.front.specs.BulkView.{item_view, text_view}
use Rattle.front.proofs.Bulks.{all_of, batches, part_begun, parts_more, parts_begun, commands_more, items_more, writes_done, none_left, any_more}
use Rattle.front.proofs.Calls.{on_err}
use Rattle.front.proofs.bulk.do_writes.Goals.{then-is_any, else-is_any}
use Rattle.front.proofs.bulk.do_writes.Goals as goal

pub returns-in_err-done-clause-err : goal.returns-in_err-done-clause-err
returns-in_err-done-clause-err g c =
    let i = c.loop-left.invariant in
    on_err c.from_residual.result _ (parts_begun g.S.Service.answers c.args.greets (g.S.Service.name c.args.service.now) (g.S.Service.fields c.args.service.now) c.args.service.now c.loop-left.service c.do_part.new.service (map item_view c.args.items.now)
    (map item_view c.loop-left.left.now) i.done (map text_view c.loop-left.texts.items) i.split i.made (rw (i.name, i.fields) at c.in_err-done.ensures.err))

pub returns-in_err-append-clause-err : goal.returns-in_err-append-clause-err
returns-in_err-append-clause-err g c =
    let i = c.loop-left.invariant in
    let served = g.S.Service.name c.args.service.now in
    let fields = g.S.Service.fields c.args.service.now in
    let left = map item_view c.loop-left.left.now in
    let n = length c.in_ok-done.done.texts.items in
    let part : IsPart served fields left n = rw (i.name, i.fields) at c.in_ok-done.ensures.part in
    let done : PartDone c.args.greets g.S.Service.answers served fields (take n left) c.loop-left.service (map text_view c.in_ok-done.done.texts.items) c.do_part.new.service = rw (i.name, i.fields) at c.in_ok-done.ensures.ok in
    on_err c.from_residual-in_err-append.result _ (parts_begun g.S.Service.answers c.args.greets served fields c.args.service.now c.loop-left.service c.do_part.new.service (map item_view c.args.items.now)
    left i.done (map text_view c.loop-left.texts.items) i.split i.made (part_begun g.S.Service.answers served fields left n done.replies c.loop-left.service c.do_part.new.service part done.called))

pub returns-clause-ok : goal.returns-clause-ok
returns-clause-ok g c =
    let i = c.loop-left.invariant in
    let served = g.S.Service.name c.args.service.now in
    let fields = g.S.Service.fields c.args.service.now in
    let none : map item_view c.loop-left.left.now ≡ [] = none_left item_view c.loop-left.left.now (grind (arith, nat_tests, c.is_empty.ensures, c.loop-left-test.false)) in
    writes_done g.S.Service.answers c.args.greets served fields c.args.service.now c.loop-left.service (map item_view c.args.items.now) i.done (map text_view c.loop-left.texts.items)
    (i.all ∙ ap (λ l. all_of i.done ++ l) none ∙ append-nil (all_of i.done)) (i.split ∙ ap (λ l. batches served fields i.done ++ write_commands served fields l) none ∙ append-nil (batches served fields i.done)) i.made

pub returns-clause-any : goal.returns-clause-any
returns-clause-any g c =
    let i = c.loop-left.invariant in
    let served = g.S.Service.name c.args.service.now in
    let fields = g.S.Service.fields c.args.service.now in
    let none : map item_view c.loop-left.left.now ≡ [] = none_left item_view c.loop-left.left.now (grind (arith, nat_tests, c.is_empty.ensures, c.loop-left-test.false)) in
    i.any ∙ ap is_any (sym (i.split ∙ ap (λ l. batches served fields i.done ++ write_commands served fields l) none ∙ append-nil (batches served fields i.done)))

pub loop-left-preserved : goal.loop-left-preserved
loop-left-preserved g c =
    let i = c.loop-left.invariant in
    let served = g.S.Service.name c.args.service.now in
    let fields = g.S.Service.fields c.args.service.now in
    let items = map item_view c.args.items.now in
    let rest = c.loop-left.left.now in
    let left = map item_view rest in
    let n = length c.in_ok-done.done.texts.items in
    let part : IsPart served fields left n = rw (i.name, i.fields) at c.in_ok-done.ensures.part in
    let count : c.len.result ≡ n = omega (arith, c.len.ensures, c.in_ok-done.done.texts.ok) in
    let others : take (length rest - c.len.result) (drop c.len.result rest) ≡ drop n rest =
    ap (λ k. take (length rest - k) (drop k rest)) count ∙ take_all (length rest - n) (drop n rest) (omega (arith, length-drop n rest)) in
    let texts : map text_view c.append.new.self.items ≡ map text_view c.loop-left.texts.items ++ map text_view c.in_ok-done.done.texts.items =
    ap (map text_view) c.in_ok-append.ensures.items ∙ map-append text_view c.loop-left.texts.items c.in_ok-done.done.texts.items in
    let either : c.if-is_any.is_any ≡ (c.loop-left.is_any || c.in_ok-done.done.is_any) = elim c.if-is_any.branch [
      | then-is_any w ↦ w.is_any-is ∙ w.if-is_any.true ∙ ap (λ b. b || c.in_ok-done.done.is_any) (sym w.if-is_any.true)
      | else-is_any w ↦ w.is_any-is ∙ ap (λ b. b || c.in_ok-done.done.is_any) (sym w.if-is_any.false)
    ] in
    let any : c.in_ok-done.done.is_any ≡ is_any (batch (writes_of served fields (take n left))) = rw (i.name, i.fields) at c.in_ok-done.ensures.any in
    rw others (record {
      done = i.done ++ take n left ∷ [];
      all = items_more items left n i.done i.all ∙ ap (λ l. all_of (i.done ++ take n left ∷ []) ++ l) (drop-map item_view n rest);
      split = commands_more served fields items left n i.done i.split part
          ∙ ap (λ l. batches served fields (i.done ++ take n left ∷ []) ++ write_commands served fields l) (drop-map item_view n rest);
      made = rw texts (parts_more g.S.Service.answers c.args.greets served fields c.args.service.now c.loop-left.service c.do_part.new.service i.done (take n left) (map text_view c.loop-left.texts.items) (map text_view c.in_ok-done.done.texts.items)
          i.made (rw (i.name, i.fields) at c.in_ok-done.ensures.ok));
      any = either ∙ ap (λ b. b || c.in_ok-done.done.is_any) i.any ∙ ap (λ b. is_any (batches served fields i.done) || b) any ∙ sym (any_more served fields i.done (take n left));
      name = c.in_ok-done.ensures.name ∙ i.name;
      fields = c.in_ok-done.ensures.fields ∙ i.fields;
    })
