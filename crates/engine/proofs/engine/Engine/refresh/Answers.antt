use Rattle.std.proofs.Common.{sym, subst}
use Rattle.engine.specs.Contents.{EngineData}
use Rattle.engine.specs.Live.{AreLive}
use Rattle.engine.specs.SnapshotChange.{IsRefreshed, OnlyOps}
use Rattle.engine.proofs.engine.Engine.refresh.Goals as goal

pub returns-clause-kept : goal.returns-clause-kept
returns-clause-kept c =
    let e = c.args.self.now in
    subst (λ (n : EngineData). OnlyOps e → IsRefreshed e n) (sym c.put.ensures) c.in_ok-staged.ensures.published.1

pub returns-clause-live : goal.returns-clause-live
returns-clause-live c = subst (λ (n : EngineData). AreLive n.live) (sym c.put.ensures) c.in_ok-staged.ensures.live
