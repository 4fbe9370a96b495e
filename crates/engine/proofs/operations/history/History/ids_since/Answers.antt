use Rattle.std.proofs.Common.{◌≡◌, ◌∙◌, ◌<◌, ◌≤◌, ◌-◌, [], ap, arith, sym, subst, take, drop, length, get_or, List, false}
use Rattle.op.specs.declared.record.Record.{Record}
use Rattle.op.specs.Operations.{last_on, op_at}
use Rattle.op.specs.Records.{after_record, shown}
use Rattle.op.proofs.RecordLaws.{shown-all}
use Rattle.std.specs.Prelude.{fold}
use Rattle.std.specs.List.{list_any}
use Rattle.std.proofs.lemmas.List.{take_all}
use Rattle.engine.specs.Kept.{HistoryData, IsQuiet}
use Rattle.engine.specs.SnapshotChange.{is_op, is_write}
use Rattle.engine.proofs.QuietLaws.{ids-next, none_left, quiet-drop, quiet-item, stay-next, writes-next}
use Rattle.engine.proofs.RefreshLaws.{ids-end, not-all}
use Rattle.engine.proofs.operations.history.History.ids_since.Goals as goal

-- one record more
pub loop-kept-preserved : goal.loop-kept-preserved
loop-kept-preserved c =
    let h = c.self.inside in
    let rs = c.args.self.now.records in
    let i = c.loop-kept.kept-index in
    let rest = c.deref-kept-items.ensures.value ∙ c.in_ok-since.ensures in
    let r = c.kept-item.result in
    let within = subst (λ (xs : List Record). i < length xs) rest c.loop-kept-test.true in
    let item = subst (λ (xs : List Record). r ≡ get_or xs i r) rest c.kept-item.is in
    let before = c.loop-kept.ids.items in
    let after = c.push_written.new.ids.items in
    let quiet : IsQuiet (shown rs c.args.point) (h.rebuilt - c.args.point) (drop c.args.point rs) =
    subst (λ (x : HistoryData). IsQuiet (shown x.records c.args.point) (h.rebuilt - c.args.point) (drop c.args.point x.records)) c.self.view_is
    (quiet-drop [] h.rebuilt c.args.point _ c.self.invariant.4) in
    let left : c.loop-kept.left ≡ (h.rebuilt - c.args.point) - i = c.loop-kept.invariant.left ∙ ap (λ n. n - i) c.saturating_sub-left.ensures in
    let leaves : is_op r ≡ false → after_record (fold after_record (shown rs c.args.point) (take i (drop c.args.point rs))) r ≡ fold after_record (shown rs c.args.point) (take i (drop c.args.point rs)) =
    λ other. quiet-item (shown rs c.args.point) (h.rebuilt - c.args.point) i (drop c.args.point rs) r quiet within item
    (none_left _ c.loop-kept.left (h.rebuilt - c.args.point) i c.else-not-is_op.either (c.in_ok-is_op.ensures.is ∙ other) left) other in
    record {
      others = ids-next rs c.args.point i r after before within item c.in_ok-is_op.ensures.ids leaves c.loop-kept.invariant.others;
      stay = stay-next rs c.args.point i r within item leaves c.loop-kept.invariant.stay;
      are = writes-next (drop c.args.point rs) i r after before within item c.in_ok-is_op.ensures.ids c.loop-kept.invariant.are;
      left = omega (arith, c.saturating_sub-left-in-loop-kept.ensures, c.loop-kept.invariant.left);
    }

pub returns-clause-others : goal.returns-clause-others
returns-clause-others c =
    let h = c.self.inside in
    let rs = c.args.self.now.records in
    let i = c.loop-kept.kept-index in
    let rest = c.deref-kept-items.ensures.value ∙ c.in_ok-since.ensures in
    λ id none. ap (λ os. last_on os id) (sym (ids-end rs c.args.point i (subst (λ (xs : List Record). length xs ≤ i) rest c.loop-kept-test.false))) ∙ c.loop-kept.invariant.others id none

pub returns-clause-stay : goal.returns-clause-stay
returns-clause-stay c =
    let h = c.self.inside in
    let rs = c.args.self.now.records in
    let i = c.loop-kept.kept-index in
    let rest = c.deref-kept-items.ensures.value ∙ c.in_ok-since.ensures in
    λ o before. ap (λ os. op_at os o.seq) (shown-all rs ∙ sym (ids-end rs c.args.point i (subst (λ (xs : List Record). length xs ≤ i) rest c.loop-kept-test.false))) ∙ c.loop-kept.invariant.stay o before

pub returns-clause-are : goal.returns-clause-are
returns-clause-are c =
    let h = c.self.inside in
    let rs = c.args.self.now.records in
    let i = c.loop-kept.kept-index in
    let rest = c.deref-kept-items.ensures.value ∙ c.in_ok-since.ensures in
    let end = take_all i (drop c.args.point rs) (subst (λ (xs : List Record). length xs ≤ i) rest c.loop-kept-test.false) in
    λ id. c.loop-kept.invariant.are id ∙ ap (λ (xs : List Record). list_any (is_write id) xs) end

pub returns-then-left-gt0-clause-only : goal.returns-then-left-gt0-clause-only
returns-then-left-gt0-clause-only c =
    let h = c.self.inside in
    let rs = c.args.self.now.records in
    let i = c.loop-kept.kept-index in
    let rest = c.deref-kept-items.ensures.value ∙ c.in_ok-since.ensures in
    let r = c.kept-item.result in
    let within = subst (λ (xs : List Record). i < length xs) rest c.loop-kept-test.true in
    let item = subst (λ (xs : List Record). r ≡ get_or xs i r) rest c.kept-item.is in
    λ all none. not-all (drop c.args.point rs) i r within item (sym c.in_ok-is_op.ensures.is ∙ c.if-not-is_op.true) all
