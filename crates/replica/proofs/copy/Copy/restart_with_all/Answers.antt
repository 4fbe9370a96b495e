use Rattle.std.proofs.Common.{◌≡◌, ◌++◌, List, ap, ◌∙◌}
use Rattle.std.proofs.lemmas.List.Elements.{All-append, All-from_recursion}
use Rattle.op.specs.declared.record.Record.{Record}
use Rattle.op.specs.Operations.{next_seq}
use Rattle.op.specs.Records.{IsRecord}
use Rattle.replica.specs.Searched.{Searched}
use Rattle.replica.specs.Copy.{Copy, operations}
use Rattle.replica.proofs.Drafting.{each_record}
use Rattle.replica.proofs.LogLaws.{grown_by}
use Rattle.replica.proofs.copy.Copy.restart_with_all.Goals as goal

pub stage_reopen-requires : goal.stage_reopen-requires
stage_reopen-requires g c =
    let more = each_record (next_seq (operations c.args.self.now.copy)) c.args.planned.records.items c.requires.ready.1.rise in
    rw c.in_default.ensures.items (All-append IsRecord c.args.records.items c.args.planned.records.items c.requires.rules (All-from_recursion IsRecord c.args.planned.records.items more))

pub invariant_of-self : goal.invariant_of-self
invariant_of-self g c opened =
    let s = c.args.self.now in
    let records : c.reopen.new.self.copy.records ≡ s.copy.records ++ c.args.planned.records.items =
    ap (λ (x : Copy). x.records) (ap (λ (x : Searched). x.copy) c.reopen.ensures ∙ c.in-Ok.ensures.opened) ∙ c.in_default.ensures.items ∙ ap (λ (rs : List Record). rs ++ c.args.planned.records.items) c.requires.records in
    grown_by _ s c.args.planned.records.items c.args.frame _ _ _ c.self.view_is c.self.invariant opened c.requires.ready.2 c.in-Ok-append.ensures.ok records c.in-Ok-append.ensures.groups
