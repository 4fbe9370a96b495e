use Rattle.std.proofs.Common.{◌≡◌, ◌∙◌, ap, length, subst, sym}
use Rattle.engine.specs.Contents.{Contents}
use Rattle.engine.specs.Staged.{records_of}
use Rattle.replica.specs.Searched.{Searched, IsReopeningOf}
use Rattle.replica.proofs.state.State.stage_reopen.Goals as goal

pub returns-in-Ok-clause-segments : goal.returns-in-Ok-clause-segments
returns-in-Ok-clause-segments c =
    let staged = c.in-Ok.ensures in
    subst (λ (s : Searched). IsReopeningOf s c.in-Ok.staged c.args.records.items) c.self.view_is
    (record { before = staged.before; all = ap (λ (x : Contents). x.point) staged.leaves; shows = record { published = staged.published.0; next = staged.published.1 } })

pub returns-in-Ok-clause-all : goal.returns-in-Ok-clause-all
returns-in-Ok-clause-all c =
    let leaves = c.in-Ok.ensures.leaves in
    let all = ap (λ (x : Contents). x.point) leaves ∙ sym (ap (λ (x : Contents). length x.records) leaves) in
    subst (λ (s : Searched). c.in-Ok.staged.point ≡ length (records_of s.copy.records c.in-Ok.staged.records)) c.self.view_is all
