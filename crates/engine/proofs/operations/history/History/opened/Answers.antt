use Rattle.std.proofs.Common.{◌≡◌, ◌∙◌, ◌++◌, [], List, arith, length, subst, sym, ap}
use Rattle.std.proofs.lemmas.List.{append-nil}
use Rattle.chronicle.specs.Written.{Written}
use Rattle.op.specs.declared.record.Record.{Record}
use Rattle.engine.specs.Kept.{HasRisen, IsKept, IsQuiet}
use Rattle.engine.proofs.QuietLaws.{quiet-above}
use Rattle.engine.proofs.RisenLaws.{risen-above}
use Rattle.engine.proofs.operations.history.History.opened.Goals as goal

-- behind all of them nothing has come
pub invariant_of-result : goal.invariant_of-result
invariant_of-result c =
    let records = c.args.records.items in
    let len = c.len-len.result in
    let noted : c.append_all.new.before.entries ≡ records =
    ap (λ (w : Written Record). w.entries) c.append_all.ensures ∙ ap (λ (rs : List Record). rs ++ c.deref.result.now) c.writer-before.ensures.empty ∙ c.deref.ensures.value in
    let all : (c.append_all.new.before.entries ++ []) ++ c.new.result.items ≡ records =
    ap (λ (rs : List Record). (c.append_all.new.before.entries ++ []) ++ rs) c.new.ensures.items
    ∙ append-nil (c.append_all.new.before.entries ++ [])
    ∙ append-nil c.append_all.new.before.entries
    ∙ noted in (
      subst (λ (rs : List Record). IsKept c.let_go.new.self rs) (sym all) (rw c.let_go.ensures c.in_ok-operations.ensures),
      ap (λ (w : Written Record). w.line.book) c.append_all.ensures ∙ c.writer-before.ensures.book,
      omega (arith, ap (λ (rs : List Record). length rs) noted, c.len-len.ensures, c.args.records.ok.0),
      omega (arith, c.len-len.ensures, c.args.records.ok.0),
      subst (λ (rs : List Record). IsQuiet [] len rs) (sym all) (quiet-above [] len records (omega (arith, c.len-len.ensures, c.args.records.ok.0))),
      subst (λ (rs : List Record). HasRisen len rs) (sym all) (risen-above len records (omega (arith, c.len-len.ensures, c.args.records.ok.0))),
    )
