use Rattle.std.proofs.Common.{◌∙◌, ap, sym, None, if◌then◌else◌}
use Rattle.std.proofs.lemmas.List.{take_all}
use Rattle.std.proofs.lemmas.Result.{IfOk-weaker}
use Rattle.op.specs.Operations.{last_on}
use Rattle.op.specs.Records.{operations}
use Rattle.engine.specs.Latest.{last_in}
use Rattle.engine.specs.Parts.{is_among}
use Rattle.engine.proofs.LatestLaws.{AreLastBy-made, on_among, told-more, told-none}
use Rattle.engine.proofs.read.documents.latest_at.Goals.{in-Some+in_ok-note_last, in_default}
use Rattle.engine.proofs.read.documents.latest_at.Goals as goal

-- one id more
pub loop-id-preserved : goal.loop-id-preserved
loop-id-preserved c =
    let os = operations c.args.history.now.records in
    let ids = c.args.ids.now in
    let i = c.loop-id.id-index in
    let before = c.loop-id.noted.items in
    elim c.match-last.branch [
      | in-Some+in_ok-note_last w ↦ rw w.noted-is (record {
        on = w.in_ok-note_last.ensures.on;
        last = λ q. w.in_ok-note_last.ensures.last q ∙ told-more os ids i c.id-item.result w.in-Some.op.now c.loop-id-test.true c.id-item.is (sym w.in-Some.ensures) q.now (last_in before q) (c.loop-id.invariant.last q);
      })
      | in_default w ↦ rw w.noted-is (record {
        on = c.loop-id.invariant.on;
        last = λ q. told-none os ids i c.id-item.result c.loop-id-test.true c.id-item.is (sym w.in_default.ensures) q.now (last_in before q) (c.loop-id.invariant.last q);
      })
    ]

pub returns : goal.returns
returns c = IfOk-weaker c.last_of_each.result _ _
    (λ v made.
    let os = operations c.args.history.now.records in
    let ids = c.args.ids.now in
    AreLastBy-made (λ id. if is_among ids id then last_on os id else None) (on_among os ids) c.loop-id.noted.items v.items made
    (λ q. c.loop-id.invariant.last q ∙ ap (λ is. if is_among is q.now then last_on os q.now else None) (take_all c.loop-id.id-index ids c.loop-id-test.false)))
    c.last_of_each.ensures
