use Rattle.std.proofs.Common.{◌≡◌, ◌≤◌, ◌^◌, ap, SFits, w64, to_z, of_z, rules}
use Rattle.std.proofs.lemmas.Int.{to_z-of_z}
use Rattle.op.specs.Checkpoint.{known}
use Rattle.op.proofs.LocalLaws.{runs-small}
use Rattle.replica.specs.Copy.{Copy}
use Rattle.replica.proofs.Following.{resync_found}
use Rattle.replica.specs.Searched.{Searched}
use Rattle.replica.proofs.state.State.resynced.Goals as goal

pub ack_all-requires : goal.ack_all-requires
ack_all-requires c =
    let fits : SFits w64 c.args.known = search rules in
    let count : c.count-count.result ≡ known c.args.known = simp to_z-of_z at c.count-count.ensures.counted in
    let small : known c.args.known ≤ 2 ^ 63 = rw count at c.count-count.ensures.small in
    rw (c.as_slice.ensures, count) (runs-small c.args.term (known c.args.known) c.args.tail small c.requires.is.2.runs c.requires.is.2.each)

pub returns-clause-gives : goal.returns-clause-gives
returns-clause-gives c =
    let s = c.args.self.now.copy in
    let fits : SFits w64 c.args.known = search rules in
    let same : to_z w64 (of_z w64 c.args.known) ≡ c.args.known = to_z-of_z w64 c.args.known fits in
    let count : c.count-count.result ≡ known c.args.known = simp to_z-of_z at c.count-count.ensures.counted in
    let own : c.self.inside.known ≡ s.known = ap (λ (x : Copy). x.known) (ap (λ (v : Searched). v.copy) c.self.view_is) in
    rw (same, c.follower_output.ensures, c.max.ensures, c.in_ok-sent.ensures, c.as_slice.ensures, count, own) (resync_found s c.args.from c.args.term c.args.known c.args.tail c.requires.up c.requires.is c.requires.there)
