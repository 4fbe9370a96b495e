use Rattle.std.proofs.Common.{◌≡◌, map, take, length}
use Rattle.front.specs.Bulk.{writes_of, step_text, said, AreSteps, IsPart}
use Rattle.front.specs.BulkView.{item_view, text_view, step_view}
use Rattle.front.specs.ReplyView.{reply_view}
use Rattle.front.proofs.Bulks.{none_begun, part_done, part_begun, as_many}
use Rattle.front.proofs.Calls.{on_err}
use Rattle.front.proofs.bulk.do_part.Goals as goal

pub returns-in_err-writes-clause-err : goal.returns-in_err-writes-clause-err
returns-in_err-writes-clause-err g c = on_err c.from_residual.result _ (none_begun g.S.Service.answers _ c.args.service.now)

pub returns-in_err-texts-clause-err : goal.returns-in_err-texts-clause-err
returns-in_err-texts-clause-err g c =
    let served = g.S.Service.name c.args.service.now in
    let fields = g.S.Service.fields c.args.service.now in
    let items = map item_view c.args.items.now in
    let read = c.in_ok-writes.field-0 in
    let n = length read.steps.items in
    let part : IsPart served fields items n = rw (c.index.ensures, c.mapping.ensures) at c.in_ok-writes.ensures.part in
    let writes : read.writes.items ≡ writes_of served fields (take n items) = rw (c.index.ensures, c.mapping.ensures) at c.in_ok-writes.ensures.writes in
    on_err c.from_residual-in_err-texts.result _ (part_begun g.S.Service.answers served fields items n (said read.writes.items (reply_view c.hand_over-reply.result)) c.args.service.now c.hand_over-reply.new.service
    part (rw (← writes) c.hand_over-reply.ensures.called))

pub returns-clause-part : goal.returns-clause-part
returns-clause-part g c =
    let served = g.S.Service.name c.args.service.now in
    let fields = g.S.Service.fields c.args.service.now in
    let read = c.in_ok-writes.field-0 in
    let part : IsPart served fields (map item_view c.args.items.now) (length read.steps.items) = rw (c.index.ensures, c.mapping.ensures) at c.in_ok-writes.ensures.part in
    rw (as_many text_view step_view (step_text c.args.greets (reply_view c.hand_over-reply.result)) c.in_ok-texts.texts.items read.steps.items c.in_ok-texts.ensures) part

pub returns-clause-ok : goal.returns-clause-ok
returns-clause-ok g c =
    let served = g.S.Service.name c.args.service.now in
    let fields = g.S.Service.fields c.args.service.now in
    let read = c.in_ok-writes.field-0 in
    let items = take (length read.steps.items) (map item_view c.args.items.now) in
    let writes : read.writes.items ≡ writes_of served fields items = rw (c.index.ensures, c.mapping.ensures) at c.in_ok-writes.ensures.writes in
    let steps : AreSteps c.args.greets served fields items (map step_view read.steps.items) = rw (c.index.ensures, c.mapping.ensures) at c.in_ok-writes.ensures.steps in
    rw (as_many text_view step_view (step_text c.args.greets (reply_view c.hand_over-reply.result)) c.in_ok-texts.texts.items read.steps.items c.in_ok-texts.ensures)
    (part_done g.S.Service.answers c.args.greets served fields items read.writes.items (map step_view read.steps.items) (reply_view c.hand_over-reply.result)
    c.args.service.now c.hand_over-reply.new.service (map text_view c.in_ok-texts.texts.items) writes steps c.hand_over-reply.ensures.called c.in_ok-texts.ensures)
