use Rattle.std.proofs.Common.{◌≡◌, ◌∙◌, ◌++◌, [], List, arith, subst, sym, ap}
use Rattle.std.proofs.lemmas.List.{append-nil}
use Rattle.op.specs.declared.operation.Op.{Op}
use Rattle.op.specs.declared.record.Record.{Record}
use Rattle.engine.specs.IdTables.{HaveLast}
use Rattle.engine.specs.Kept.{HasRisen, IsKept, IsQuiet}
use Rattle.engine.proofs.QuietLaws.{quiet-above}
use Rattle.engine.proofs.RisenLaws.{risen-above}
use Rattle.engine.proofs.operations.history.unindexed.Unindexed.indexed.Goals as goal

pub over-operations-requires : goal.over-operations-requires
over-operations-requires c = subst (λ (os : List Op). HaveLast os c.args.latest.tables.items) (sym c.self.invariant.0.same) (rw (← c.self.view_is) at c.requires)

-- behind all of them nothing has come
pub invariant_of-result : goal.invariant_of-result
invariant_of-result c =
    let records = c.self.inside.before.entries in
    let len = c.self.inside.len in
    let all : (records ++ []) ++ c.new.result.items ≡ records =
    ap (λ (rs : List Record). (records ++ []) ++ rs) c.new.ensures.items
    ∙ append-nil (records ++ [])
    ∙ append-nil records in (
      subst (λ (rs : List Record). IsKept c.let_go.new.self rs) (sym all) (rw (c.let_go.ensures, c.over-operations.ensures) c.self.invariant.0),
      c.self.invariant.1,
      c.self.invariant.2,
      omega (arith, c.self.invariant.3),
      subst (λ (rs : List Record). IsQuiet [] len rs) (sym all) (quiet-above [] len records (omega (arith, c.self.invariant.2))),
      subst (λ (rs : List Record). HasRisen len rs) (sym all) (risen-above len records (omega (arith, c.self.invariant.2))),
    )
