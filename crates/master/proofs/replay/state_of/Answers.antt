use Rattle.std.proofs.Common.{◌≡◌, ◌+◌, ap, sym, ◌∙◌, arith, length, length-drop, drop, ◌-◌}
use Rattle.std.specs.Prelude.{map}
use Rattle.std.proofs.lemmas.List.{drop_all, take_all}
use Rattle.translog.proofs.RecordsLaws.{drop_next}
use Rattle.master.specs.Log.{state_of}
use Rattle.master.proofs.Replays.{none_begins, begins, never_begins}
use Rattle.master.proofs.replay.state_of.Goals as goal

pub returns-in-empty-clause-state : goal.returns-in-empty-clause-state
returns-in-empty-clause-state c =
    let none = drop_all 0 c.args.contents.now (omega arith) in
    ap (λ cs. state_of (map (λ v. v.items) cs)) none ∙ none_begins

pub returns-in-Ok-clause-state : goal.returns-in-Ok-clause-state
returns-in-Ok-clause-state c =
    let next = drop_next (λ v. v.items) c.args.contents.now 0 c.first-item.result (omega arith) c.first-item.is in
    let taken = rw c.as_slice.ensures.value at c.in-Ok.ensures.state in
    let len : c.len.result ≡ length c.first-item.result.items = omega (arith, c.len.ensures) in
    let whole = begins (8 + c.len.result) c.in-Ok.begun c.first-item.result.items _ (omega (arith, len)) taken ∙ ap state_of (sym next) in
    let all = take_all (length c.args.contents.now - 1) (drop 1 c.args.contents.now) (omega (arith, length-drop 1 c.args.contents.now)) in
    rw (sym whole) (rw all at c.replayed.ensures.state)

pub returns-in-Err-clause-state : goal.returns-in-Err-clause-state
returns-in-Err-clause-state c =
    let next = drop_next (λ v. v.items) c.args.contents.now 0 c.first-item.result (omega arith) c.first-item.is in
    rw next (never_begins c.in-Err.fault c.first-item.result.items _ (rw c.as_slice.ensures.value at c.in-Err.ensures.state))
