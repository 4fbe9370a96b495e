use Rattle.std.proofs.Common.{◌∙◌, ◌++◌, List, sym, ap, subst, drop, arith}
use Rattle.std.proofs.lemmas.List.{length-append}
use Rattle.op.specs.declared.operation.Op.{Op}
use Rattle.op.specs.Operations.{IsAscending, reached}
use Rattle.op.proofs.LocalLaws.{reached-length}
use Rattle.engine.specs.IdTables.{number_among}
use Rattle.engine.specs.OperationIndex.{IsIndexed}
use Rattle.engine.specs.Slot.{SlotData, ops, AreHeld}
use Rattle.engine.proofs.HeldLaws.{AreHeld-append}
use Rattle.engine.proofs.RiseLaws.{IsAscending-rise, IsIndexed-append, fold-rise}
use Rattle.engine.proofs.SlotLaws.{length-ops, ops-append}
use Rattle.engine.proofs.operations.operation_index.OperationIndex.add_all.Goals as goal

pub local_count_on-self-inside-requires : goal.local_count_on-self-inside-requires
local_count_on-self-inside-requires c =
    let ss = c.self.inside.slots.items in
    rw (c.deref.ensures.value, c.in_ok-append.ensures.items, c.in_ok-noted.ensures.same, c.in_ok-reserve.ensures.items)
    (omega (arith, length-append ss c.in_ok-added.added.items, length-ops ss, reached-length 0 (ops ss), c.self.invariant.0.reached))

-- all are behind those that were there
pub invariant_of-self-2 : goal.invariant_of-self-2
invariant_of-self-2 c =
    let ss = c.self.inside.slots.items in
    let ts = c.in_ok-added.added.items in
    let os = ops ss in
    let ps = ops ts in
    let rs = c.args.records.now in
    let rise = rw (← c.self.view_is) at c.requires in
    let added = fold-rise os rs c.self.invariant.0.ascending rise ∙ ap (λ xs. os ++ xs) (sym c.in_ok-added.ensures.ops) in
    let all = c.in_ok-append.ensures.items ∙ ap (λ (xs : List SlotData). c.reserve.new.self.items ++ xs) c.in_ok-noted.ensures.same ∙ ap (λ (xs : List SlotData). xs ++ ts) c.in_ok-reserve.ensures.items in
    let up = subst IsAscending added (IsAscending-rise _ os rs c.self.invariant.0.ascending rise) in
    let counted = c.local_count_on-self-inside.ensures ∙ ap (λ (xs : List SlotData). reached c.self.inside.local (drop c.self.inside.local (ops xs))) (c.deref.ensures.value ∙ all)
    ∙ ap (λ (xs : List Op). reached c.self.inside.local (drop c.self.inside.local xs)) (ops-append ss ts) in
    rw all (
      subst (λ (xs : List Op). IsIndexed xs (λ id. number_among c.note_slots.new.latest.tables.items id) c.local_count_on-self-inside.result) (sym (ops-append ss ts))
          (IsIndexed-append os ps (λ id. number_among c.self.inside.latest.tables.items id) (λ id. number_among c.note_slots.new.latest.tables.items id) c.self.inside.local _ c.self.invariant.0 up
          (λ id. c.in_ok-noted.ensures.ok id) counted),
      subst (λ (xs : List Op). AreHeld xs (ss ++ ts)) (sym (ops-append ss ts)) (AreHeld-append os ps ss ts up c.self.invariant.1 c.in_ok-added.ensures.whole),
    )

pub returns-clause-ok : goal.returns-clause-ok
returns-clause-ok c =
    let ss = c.self.inside.slots.items in
    let ts = c.in_ok-added.added.items in
    let os = ops ss in
    let rise = rw (← c.self.view_is) at c.requires in
    let added = fold-rise os c.args.records.now c.self.invariant.0.ascending rise ∙ ap (λ xs. os ++ xs) (sym c.in_ok-added.ensures.ops) in
    rw (← c.self.view_is) (ap ops (c.in_ok-append.ensures.items ∙ ap (λ (xs : List SlotData). c.reserve.new.self.items ++ xs) c.in_ok-noted.ensures.same ∙ ap (λ (xs : List SlotData). xs ++ ts) c.in_ok-reserve.ensures.items) ∙ ops-append ss ts ∙ sym added)
