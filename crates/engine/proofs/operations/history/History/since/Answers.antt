use Rattle.std.proofs.Common.{◌≤◌, ◌∙◌, ◌-◌, ◌++◌, ap, append_assoc, drop, length, sym, subst, List}
use Rattle.op.specs.declared.record.Record.{Record}
use Rattle.engine.specs.Kept.{items_of, HistoryData}
use Rattle.engine.proofs.RefreshLaws.{drop-behind, drop-both}
use Rattle.engine.proofs.operations.history.History.since.Goals as goal

-- memory has the records behind the point
pub returns : goal.returns
returns c =
    let h = c.self.inside in
    let shared = items_of h.shared in
    let n = c.args.point - h.begin in
    let begins : h.begin ≤ c.args.point = subst (λ (x : HistoryData). x.begin ≤ c.args.point) (sym c.self.view_is) c.requires.begin in
    let behind = ap (drop c.args.point) (append_assoc h.before.entries shared h.recent.items)
    ∙ drop-behind h.before.entries (shared ++ h.recent.items) c.args.point h.begin c.self.invariant.2 begins in
    let first = c.in_ok-push_copies.ensures ∙ ap (λ (rs : List Record). rs ++ c.behind.result.now) c.in_ok-since.ensures.items ∙ c.behind.ensures ∙ ap (drop n) c.shared_of-shared.ensures in
    let second = c.behind-more.ensures
    ∙ ap (λ (rs : List Record). drop c.saturating_sub.result rs) c.deref.ensures.value
    ∙ ap (λ k. drop k h.recent.items) (c.saturating_sub.ensures ∙ ap (λ (rs : List Record). n - length rs) c.shared_of-shared.ensures) in
    c.in_ok-push_copies-2.ensures
    ∙ ap (λ (rs : List Record). rs ++ c.behind-more.result.now) first
    ∙ ap (λ (rs : List Record). drop n shared ++ rs) second
    ∙ drop-both n shared h.recent.items
    ∙ sym behind
    ∙ ap (λ (x : HistoryData). drop c.args.point x.records) c.self.view_is
