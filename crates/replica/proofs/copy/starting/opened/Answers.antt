use Rattle.std.proofs.Common.{◌≡◌, List, ap, refl, subst, sym}
use Rattle.op.specs.declared.record.Record.{Record}
use Rattle.translog.specs.Kept.{IsTranslog}
use Rattle.translog.proofs.KeptLaws.{left_by}
use Rattle.translog.proofs.PieceReading.{reopened}
use Rattle.replica.specs.Copy.{Copy}
use Rattle.replica.proofs.copy.starting.opened.Goals as goal

pub returns-in-Ok-clause-whole : goal.returns-in-Ok-clause-whole
returns-in-Ok-clause-whole g c =
    let whole = reopened _ _ _ _ c.args.found.1 _ _ refl c.requires.torn c.in-Ok.ensures.ok c.in-Ok.ensures.groups in
    let records : c.in_ok-state.state.copy.records ≡ c.args.found.0.items = ap (λ (x : Copy). x.records) c.in_ok-state.ensures.copy in
    subst (λ (rs : List Record). IsTranslog (g.D.LogDevice.bytes c.mend.new.self.device) rs c.mend.new.self.groups) (sym records) whole

pub returns-in-Ok-clause-left : goal.returns-in-Ok-clause-left
returns-in-Ok-clause-left g c = left_by _ _ _ _ c.args.found.1 _ refl c.requires.torn c.in-Ok.ensures.ok
