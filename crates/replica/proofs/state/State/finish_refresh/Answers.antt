use Rattle.std.proofs.Common.{◌≡◌, true, ap, refl, subst}
use Rattle.std.specs.Prelude.{IfOk}
use Rattle.engine.specs.Contents.{Contents, segments_of}
use Rattle.replica.specs.Copy.{Copy}
use Rattle.replica.specs.Searched.{Searched, IsRefreshTo}
use Rattle.replica.proofs.Searching.{finished_or_not, refresh_of}
use Rattle.replica.proofs.Settled.{moved_stands}
use Rattle.replica.proofs.state.State.finish_refresh.Goals as goal

-- the records are what they were
pub invariant_of-self : goal.invariant_of-self
invariant_of-self c =
    let i = c.self.inside in
    let told = c.finish_refresh.ensures in
    let e = i.engine in
    let f = c.finish_refresh.new.self in
    let before : Copy = record { id = i.id; birth = i.birth; mapping = e.mapping; records = e.records; term = i.term; known = i.known; role = i.role; point = e.point } in
    let contents = finished_or_not c.finish_refresh.result c.args.prebuilt.point e f told.done told.stays told.err in
    moved_stands before f.mapping f.records f.point (ap (λ (x : Contents). x.records) contents) c.self.invariant

pub returns-clause-rest : goal.returns-clause-rest
returns-clause-rest c =
    let i = c.self.inside in
    let told = c.finish_refresh.ensures in
    let e = i.engine in
    let f = c.finish_refresh.new.self in
    let before : Copy = record { id = i.id; birth = i.birth; mapping = e.mapping; records = e.records; term = i.term; known = i.known; role = i.role; point = e.point } in
    let after : Copy = record before { mapping = f.mapping; records = f.records; point = f.point } in
    let contents = finished_or_not c.finish_refresh.result c.args.prebuilt.point e f told.done told.stays told.err in
    subst (λ (s : Searched). after ≡ record s.copy { point = f.point }) c.self.view_is
    (ap (λ (x : Contents). let y : Copy = record before { mapping = x.mapping; records = x.records; point = x.point } in y) contents)

-- the engine's own clauses
pub returns-clause-done : goal.returns-clause-done
returns-clause-done c =
    let i = c.self.inside in
    let told = c.finish_refresh.ensures in
    let e = i.engine in
    let f = c.finish_refresh.new.self in
    let before : Copy = record { id = i.id; birth = i.birth; mapping = e.mapping; records = e.records; term = i.term; known = i.known; role = i.role; point = e.point } in
    let after : Copy = record before { mapping = f.mapping; records = f.records; point = f.point } in
    let contents = finished_or_not c.finish_refresh.result c.args.prebuilt.point e f told.done told.stays told.err in
    let copy : after ≡ record before { point = f.point } = ap (λ (x : Contents). let y : Copy = record before { mapping = x.mapping; records = x.records; point = x.point } in y) contents in
    subst (λ (s : Searched). IfOk c.finish_refresh.result (λ b. b ≡ true → IsRefreshTo c.args.prebuilt.point s (record { copy = after; segments = segments_of f }))) c.self.view_is
    (refresh_of c.finish_refresh.result c.args.prebuilt.point e f before after copy refl refl told.done)
