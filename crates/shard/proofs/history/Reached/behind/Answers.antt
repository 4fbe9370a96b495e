use Rattle.std.proofs.Common.{rules, ◌≡◌, ◌+◌, min, sym, subst, ◌∙◌}
use Rattle.shard.specs.History.{AreUnder, IsHistory}
use Rattle.shard.proofs.Histories.{next_counted, next_is_history, next_is_under}
use Rattle.shard.proofs.history.Reached.behind.Goals as goal

pub invariant_of-result : goal.invariant_of-result
invariant_of-result g c =
    let h : IsHistory c.args.self.now = subst IsHistory c.self.view_is c.self.invariant.2 in
    let counted : c.saturating_add.result ≡ min (c.self.inside.count + 1) 18446744073709551615 = search rules in (
      c.requires.line,
      counted
          ∙ next_counted c.args.mark.entries (λ s. record { copy = s.copy; master = s.master }) c.args.self.now c.self.inside.mark.entries c.self.inside.count (sym c.self.view_is) c.self.invariant.1 c.requires.next,
      next_is_history c.args.self.now _ h c.requires.next,
      next_is_under _ c.args.self.now _ (subst (λ ts. AreUnder _ ts) c.self.view_is c.self.invariant.3) c.requires.next,
    )

pub returns-clause-legal : goal.returns-clause-legal
returns-clause-legal g c =
    let h : IsHistory c.args.self.now = subst IsHistory c.self.view_is c.self.invariant.2 in
    next_is_history c.args.self.now _ h c.requires.next
