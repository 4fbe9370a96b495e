use Rattle.std.proofs.Common.{◌≡◌, ◌∙◌, ◌++◌, List, arith, length, subst, sym, ap}
use Rattle.chronicle.specs.Written.{Written}
use Rattle.op.specs.declared.record.Record.{Record}
use Rattle.engine.specs.Kept.{IsKept}
use Rattle.engine.proofs.operations.history.unindexed.Unindexed.of.Goals as goal

-- the records are noted
pub invariant_of-result : goal.invariant_of-result
invariant_of-result c =
    let records = c.args.records.items in
    let noted : c.append_all.new.before.entries ≡ records =
    ap (λ (w : Written Record). w.entries) c.append_all.ensures ∙ ap (λ (rs : List Record). rs ++ c.deref.result.now) c.writer-before.ensures.empty ∙ c.deref.ensures.value in (
      subst (λ (rs : List Record). IsKept c.in_ok-ordered.ordered rs) (sym noted) c.in_ok-ordered.ensures,
      ap (λ (w : Written Record). w.line.book) c.append_all.ensures ∙ c.writer-before.ensures.book,
      omega (arith, ap (λ (rs : List Record). length rs) noted, c.len-len.ensures),
      omega (arith, c.len-len.ensures, c.args.records.ok.0),
    )
