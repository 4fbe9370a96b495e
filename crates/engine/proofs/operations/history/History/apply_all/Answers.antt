use Rattle.std.proofs.Common.{◌++◌, [], List, append_assoc, subst, sym}
use Rattle.std.specs.Prelude.{fold}
use Rattle.op.specs.declared.record.Record.{Record}
use Rattle.op.specs.Records.{after_record, operations}
use Rattle.engine.specs.Kept.{items_of, HasRisen, HistoryData, IsKept, IsQuiet}
use Rattle.engine.proofs.QuietLaws.{quiet-rise}
use Rattle.op.specs.Operations.{IsAscending, next_seq}
use Rattle.engine.specs.Applied.{RiseFrom}
use Rattle.engine.proofs.RiseLaws.{IsKept-rise}
use Rattle.engine.proofs.RisenLaws.{risen-rise}
use Rattle.engine.proofs.operations.history.History.apply_all.Goals as goal

-- the operations and the records have the same records more
pub invariant_of-self-2 : goal.invariant_of-self-2
invariant_of-self-2 c =
    let before = c.self.inside.before.entries ++ items_of c.self.inside.shared in
    let recent = c.self.inside.recent.items in (
      rw (c.in_ok-add_all.ensures.ok, c.deref.ensures.value, c.in_ok-append.ensures.items, c.in_ok-reserve.ensures.items)
          (subst (λ (rs : List Record). IsKept (fold after_record c.self.inside.operations c.args.records.items) rs) (append_assoc before recent c.args.records.items) (IsKept-rise _ _ _ _ c.self.invariant.0 c.requires)),
      c.self.invariant.1,
      c.self.invariant.2,
      c.self.invariant.3,
      rw (c.in_ok-append.ensures.items, c.in_ok-reserve.ensures.items)
          (subst (λ (rs : List Record). IsQuiet [] c.self.inside.rebuilt rs) (append_assoc before recent c.args.records.items) (quiet-rise [] c.self.inside.rebuilt _ (before ++ recent) c.args.records.items c.self.invariant.4 c.requires)),
      rw (c.in_ok-append.ensures.items, c.in_ok-reserve.ensures.items)
          (subst (λ (rs : List Record). HasRisen c.self.inside.risen rs) (append_assoc before recent c.args.records.items)
          (risen-rise c.self.inside.risen (before ++ recent) c.args.records.items (subst IsAscending c.self.invariant.0.same c.self.invariant.0.ascending) c.self.invariant.5
          (subst (λ (x : HistoryData). RiseFrom (next_seq (operations x.records)) c.args.records.items) (sym c.self.view_is) c.requires))),
    )
