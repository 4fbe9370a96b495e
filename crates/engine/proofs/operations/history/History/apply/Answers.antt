use Rattle.std.proofs.Common.{◌≡◌, ◌∷◌, ◌++◌, ◌+◌, [], List, append_assoc, ap, arith, length, length-append, if◌then◌else◌, subst}
use Rattle.op.specs.declared.record.Record.{Record}
use Rattle.op.specs.Records.{after_record}
use Rattle.engine.specs.Kept.{items_of, HasRisen, IsKept, IsQuiet}
use Rattle.engine.proofs.KeptLaws.{IsKept-push}
use Rattle.engine.proofs.QuietLaws.{counted, quiet-after}
use Rattle.engine.proofs.RisenLaws.{risen-after}
use Rattle.engine.proofs.operations.history.History.apply.Goals as goal

-- the operations and the records have the same record more
pub invariant_of-self-2 : goal.invariant_of-self-2
invariant_of-self-2 c =
    let h = c.self.inside in
    let before = h.before.entries ++ items_of h.shared in
    let recent = h.recent.items in
    let kept = c.args.kept.now in
    let base = h.begin + length c.shared_of.result.now in
    let more : c.len.result ≡ length recent + 1 = omega (arith, c.len.ensures, c.in_ok-push.ensures.len, c.in_ok-reserve.ensures.len, h.recent.ok.0) in
    let begins : length before ≡ base = omega (arith, length-append h.before.entries (items_of h.shared), c.self.invariant.2, ap (λ (rs : List Record). length rs) c.shared_of.ensures) in (
      rw (c.in_ok-is_quiet.ensures.ok, c.in_ok-copy-2.ensures, c.in_ok-push.ensures.items, c.in_ok-reserve.ensures.items, c.in_ok-copy.ensures)
          (subst (λ (rs : List Record). IsKept (after_record h.operations kept) rs) (append_assoc before recent (kept ∷ [])) (IsKept-push _ _ _ c.self.invariant.0 c.requires)),
      c.self.invariant.1,
      c.self.invariant.2,
      c.self.invariant.3,
      rw (c.before_rule-self-inside.ensures, c.in_ok-push.ensures.items, c.in_ok-reserve.ensures.items, c.in_ok-copy.ensures)
          (subst (λ (rs : List Record). IsQuiet [] (if c.in_ok-is_quiet.is_quiet then h.rebuilt else base + c.len.result) rs) (append_assoc before recent (kept ∷ []))
          (quiet-after c.in_ok-is_quiet.is_quiet h.rebuilt (base + c.len.result) h.operations (before ++ recent) kept c.self.invariant.4
          (counted before recent kept base c.len.result begins more) c.self.invariant.0.same (rw c.in_ok-copy-2.ensures at c.in_ok-is_quiet.ensures.quiet))),
      rw (c.before_rule-self-inside-2.ensures, c.in_ok-push.ensures.items, c.in_ok-reserve.ensures.items, c.in_ok-copy.ensures)
          (subst (λ (rs : List Record). HasRisen (if c.is_next-is_next.result then h.risen else base + c.len.result) rs) (append_assoc before recent (kept ∷ []))
          (risen-after c.is_next-is_next.result h.risen (base + c.len.result) h.operations (before ++ recent) kept c.self.invariant.0.ascending c.self.invariant.5
          (counted before recent kept base c.len.result begins more) c.self.invariant.0.same c.is_next-is_next.ensures)),
    )
