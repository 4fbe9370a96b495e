use Rattle.std.proofs.Common.{◌≡◌, ◌∙◌, true, false, sym, ap, subst}
use Rattle.std.specs.Option.{option_copied}
use Rattle.replica.specs.Copy.{Copy, operations}
use Rattle.std.proofs.Common.{Some, pos, ◌<◌, ◌^◌, SFits, w64, to_z, of_z, rules}
use Rattle.std.proofs.lemmas.Int.{to_z-of_z, to_z_pos}
use Rattle.op.specs.Operations.{is_op, local_checkpoint, op_at}
use Rattle.replica.specs.declared.role.Role.{Role}
use Rattle.replica.specs.Standing.{IsFollower, IsStanding}
use Rattle.replica.proofs.Following.{op_again, op_other}
use Rattle.replica.specs.Searched.{Searched}
use Rattle.replica.proofs.state.State.take_op.Goals as goal

pub returns-then-not-is-clause-gives : goal.returns-then-not-is-clause-gives
returns-then-not-is-clause-gives c =
    let s = c.args.self.now.copy in
    let follows : IsFollower s.role = subst (λ (r : Role). IsFollower r) (c.in-Some.ensures.same ∙ ap (λ (x : Copy). x.role) (ap (λ (v : Searched). v.copy) c.self.view_is)) c.in-Some.ensures.follows in
    let there : op_at (operations s) c.args.op.seq ≡ Some c.in-Some-there.found.now = sym c.in_ok-there.ensures ∙ ap option_copied c.in-Some-there.is in
    let other : is_op c.args.op c.in-Some-there.found.now ≡ false = cc in
    op_other s c.args.from c.args.known c.args.op c.in-Some-there.found.now follows there other

pub returns-clause-gives : goal.returns-clause-gives
returns-clause-gives c =
    let s = c.args.self.now.copy in
    let follows : IsFollower s.role = subst (λ (r : Role). IsFollower r) (c.in-Some.ensures.same ∙ ap (λ (x : Copy). x.role) (ap (λ (v : Searched). v.copy) c.self.view_is)) c.in-Some.ensures.follows in
    let there : op_at (operations s) c.args.op.seq ≡ Some c.in-Some-there.found.now = sym c.in_ok-there.ensures ∙ ap option_copied c.in-Some-there.is in
    let stands : IsStanding s = subst (λ (x : Copy). IsStanding x) (ap (λ (v : Searched). v.copy) c.self.view_is) c.self.invariant in
    let same : is_op c.args.op c.in-Some-there.found.now ≡ true = cc in
    let small : c.args.op.seq < 2 ^ 63 = c.requires.1.small_seq in
    let seq : to_z w64 c.args.op.seq ≡ pos c.args.op.seq = to_z_pos w64 c.args.op.seq small in
    let fits : SFits w64 c.local.result = search rules in
    let local : to_z w64 (of_z w64 c.local.result) ≡ local_checkpoint (operations s) = to_z-of_z w64 c.local.result fits ∙ c.local.ensures.number ∙ ap (λ (x : Copy). local_checkpoint (operations x)) (ap (λ (v : Searched). v.copy) c.self.view_is) in
    rw (c.output_sending.ensures, c.in_ok-sent.ensures, seq, local) (op_again s c.args.from c.args.known c.args.op c.in-Some-there.found.now stands follows there same)
