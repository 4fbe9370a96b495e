use Rattle.std.proofs.Common.{◌≡◌, ap, subst}
use Rattle.std.specs.Prelude.{IfOk}
use Rattle.engine.specs.Contents.{Contents, segments_of}
use Rattle.replica.specs.Copy.{Copy}
use Rattle.replica.specs.Searched.{Searched, IsSwapOf}
use Rattle.replica.proofs.Searching.{swap_of}
use Rattle.replica.proofs.state.State.swap_merged.Goals as goal

-- the engine's own clauses
pub returns-clause-swapped : goal.returns-clause-swapped
returns-clause-swapped c =
    let i = c.self.inside in
    let told = c.swap_merged.ensures in
    let e = i.engine in
    let f = c.swap_merged.new.self in
    let before : Copy = record { id = i.id; birth = i.birth; mapping = e.mapping; records = e.records; term = i.term; known = i.known; role = i.role; point = e.point } in
    let after : Copy = record before { mapping = f.mapping; records = f.records; point = f.point } in
    let copy : after ≡ before = ap (λ (x : Contents). let y : Copy = record before { mapping = x.mapping; records = x.records; point = x.point } in y) told.contents in
    subst (λ (s : Searched). IfOk c.swap_merged.result (IsSwapOf c.args.merged s (record { copy = after; segments = segments_of f }))) c.self.view_is
    (swap_of c.swap_merged.result c.args.merged e f before after copy told.answer told.swapped told.none told.stays)
