use Rattle.std.proofs.Common.{◌∙◌, sym, length}
use Rattle.front.specs.Bulk.{item_write}
use Rattle.front.specs.BulkView.{item_view, text_view}
use Rattle.front.specs.Fault.{fault_of}
use Rattle.front.proofs.Bulks.{told_step}
use Rattle.front.proofs.bulk.read_item.Goals as goal

pub returns-clause-step : goal.returns-clause-step
returns-clause-step c =
    told_step c.args.greets (item_view c.args.item.now) (length c.args.writes.now.items) (item_write c.args.served.now c.args.mapping.now (item_view c.args.item.now)) (fault_of c.in-Err.fault) (text_view c.in_ok-fault_text-in-Err.field-0)
    (sym c.is_memory.ensures ∙ c.if-is_memory.false) c.in-Err.ensures c.in_ok-fault_text-in-Err.ensures
