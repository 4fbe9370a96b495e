use Rattle.std.proofs.Common.{◌≡◌, ◌+◌, ap, sym, ◌∙◌, arith, length}
use Rattle.std.specs.Prelude.{map}
use Rattle.std.specs.List.{flat_map}
use Rattle.std.proofs.lemmas.List.{drop_all}
use Rattle.translog.specs.Frames.{framed}
use Rattle.translog.proofs.RecordsLaws.{drop_next}
use Rattle.master.specs.Log.{replayed}
use Rattle.master.proofs.Replays.{goes_on, stops, ends, frames_left}
use Rattle.master.proofs.replay.replayed.Goals as goal

pub returns-in-Err-clause-state : goal.returns-in-Err-clause-state
returns-in-Err-clause-state c =
    let next = drop_next (λ v. v.items) c.args.contents.now c.loop-content.content-index c.content-item.result c.loop-content-test.true c.content-item.is in
    let whole = ap (replayed c.loop-content.at c.loop-content.state) (sym next) ∙ c.loop-content.invariant.state in
    rw (sym whole) (stops c.in-Err.fault c.loop-content.at c.loop-content.state c.content-item.result.items _ (rw c.as_slice.ensures.value at c.in-Err.ensures.state))

pub loop-content-preserved : goal.loop-content-preserved
loop-content-preserved c =
    let next = drop_next (λ v. v.items) c.args.contents.now c.loop-content.content-index c.content-item.result c.loop-content-test.true c.content-item.is in
    let whole = ap (replayed c.loop-content.at c.loop-content.state) (sym next) ∙ c.loop-content.invariant.state in
    let taken = rw c.as_slice.ensures.value at c.in-Ok.ensures.state in
    let len : c.len.result ≡ length c.content-item.result.items = omega (arith, c.len.ensures) in
    let left = ap (λ cs. length (flat_map framed cs)) next ∙ frames_left c.content-item.result.items _ in
    record {
      state = goes_on c.loop-content.at _ c.loop-content.state c.in-Ok.next c.content-item.result.items _ (ap (λ n. c.loop-content.at + (4 + n)) len) taken ∙ whole;
      sound = c.in-Ok.ensures.sound;
      offsets = omega (arith, left, len, c.loop-content.invariant.offsets);
    }

pub returns-clause-state : goal.returns-clause-state
returns-clause-state c =
    let none = drop_all c.loop-content.content-index c.args.contents.now c.loop-content-test.false in
    sym (sym (ends c.loop-content.at c.loop-content.state) ∙ ap (λ cs. replayed c.loop-content.at c.loop-content.state (map (λ v. v.items) cs)) (sym none) ∙ c.loop-content.invariant.state)
