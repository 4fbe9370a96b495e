use Rattle.std.proofs.Common.{◌≡◌, ◌∙◌, sym, ap, subst, Ok, SFits, w64, rules}
use Rattle.std.specs.Prelude.{nat_eq}
use Rattle.std.specs.Cmp.Lexicographic.{pointwise}
use Rattle.std.proofs.lemmas.Int.{to_z-of_z}
use Rattle.op.specs.Checkpoint.{known}
use Rattle.replica.specs.Acks.{acks_of}
use Rattle.checkpoint.specs.Numbers.{marked}
use Rattle.replica.specs.declared.role.Role.TheVariants.{Primary}
use Rattle.replica.specs.Copy.{Copy}
use Rattle.replica.specs.Standing.{IsStanding}
use Rattle.std.proofs.lemmas.Result.{err_from_is_err_and}
use Rattle.replica.proofs.Settling.{fails_on, leads}
use Rattle.replica.proofs.Turning.{ack_again, ack_refused, ack_taken}
use Rattle.replica.specs.Searched.{Searched}
use Rattle.replica.proofs.state.State.take_ack.Goals as goal

pub returns-in_err-check_ack-clause-gives : goal.returns-in_err-check_ack-clause-gives
returns-in_err-check_ack-clause-gives c =
    let s = c.args.self.now.copy in
    let lead = c.in-Primary.lead in
    let primary : s.role ≡ Primary lead = sym (ap (λ (x : Copy). x.role) (ap (λ (v : Searched). v.copy) c.self.view_is)) ∙ c.in-Primary.is in
    let seq_fits : SFits w64 c.args.seq = search rules in
    let below_fits : SFits w64 c.args.below = search rules in
    let seq : c.count-seq.result ≡ known c.args.seq = simp to_z-of_z at c.count-seq.ensures.counted in
    let below : c.count-below.result ≡ known c.args.below = simp to_z-of_z at c.count-below.ensures.counted in
    let p = err_from_is_err_and c.from_residual.result c.from_residual.ensures.1 in
    let fails = rw (c.next_seq.ensures.next, seq, below) at c.in_err-check_ack.ensures.gives in
    rw (p.1, p.2) (fails_on c.in_err-check_ack.field-0.0 _ _ (λ f h. ack_refused s lead primary c.args.from (known c.args.seq) (known c.args.below) f h) fails)

pub returns-then-has_acknowledged-clause-gives : goal.returns-then-has_acknowledged-clause-gives
returns-then-has_acknowledged-clause-gives c =
    let s = c.args.self.now.copy in
    let lead = c.in-Primary.lead in
    let primary : s.role ≡ Primary lead = sym (ap (λ (x : Copy). x.role) (ap (λ (v : Searched). v.copy) c.self.view_is)) ∙ c.in-Primary.is in
    let seq_fits : SFits w64 c.args.seq = search rules in
    let below_fits : SFits w64 c.args.below = search rules in
    let seq : c.count-seq.result ≡ known c.args.seq = simp to_z-of_z at c.count-seq.ensures.counted in
    let below : c.count-below.result ≡ known c.args.below = simp to_z-of_z at c.count-below.ensures.counted in
    let stands : IsStanding s = subst (λ (x : Copy). IsStanding x) (ap (λ (v : Searched). v.copy) c.self.view_is) c.self.invariant in
    let none = rw (c.next_seq.ensures.next, seq, below) at c.in_ok-check_ack.ensures.gives in
    let is : c.has_acknowledged.result ≡ pointwise nat_eq (acks_of lead.acks c.args.from) (marked (acks_of lead.acks c.args.from) (known c.args.seq) (known c.args.below)) = rw (c.of-numbers.ensures, seq, below) at c.has_acknowledged.ensures in
    rw c.output.ensures (ack_again s lead primary c.args.from (known c.args.seq) (known c.args.below) c.in_ok-check_ack.field-0 stands none (sym is ∙ c.if-has_acknowledged.true))

pub returns-clause-gives : goal.returns-clause-gives
returns-clause-gives c =
    let s = c.args.self.now.copy in
    let lead = c.in-Primary.lead in
    let primary : s.role ≡ Primary lead = sym (ap (λ (x : Copy). x.role) (ap (λ (v : Searched). v.copy) c.self.view_is)) ∙ c.in-Primary.is in
    let seq_fits : SFits w64 c.args.seq = search rules in
    let below_fits : SFits w64 c.args.below = search rules in
    let seq : c.count-seq.result ≡ known c.args.seq = simp to_z-of_z at c.count-seq.ensures.counted in
    let below : c.count-below.result ≡ known c.args.below = simp to_z-of_z at c.count-below.ensures.counted in
    let none = rw (c.next_seq.ensures.next, seq, below) at c.in_ok-check_ack.ensures.gives in
    let is : c.has_acknowledged.result ≡ pointwise nat_eq (acks_of lead.acks c.args.from) (marked (acks_of lead.acks c.args.from) (known c.args.seq) (known c.args.below)) = rw (c.of-numbers.ensures, seq, below) at c.has_acknowledged.ensures in
    let numbers : c.acknowledge.new.self ≡ marked (acks_of lead.acks c.args.from) (known c.args.seq) (known c.args.below) = rw (c.of-numbers.ensures, seq, below) at c.acknowledge.ensures in
    ack_taken s lead primary c.args.from (known c.args.seq) (known c.args.below) c.in_ok-check_ack.field-0 none (sym is ∙ c.if-has_acknowledged.false) ∙ ap Ok (sym (rw (c.in_ok-acked.ensures, c.none.ensures, numbers) at c.in_ok-turned.ensures.gives))

pub turned-requires : goal.turned-requires
turned-requires c =
    let s = c.args.self.now.copy in
    let lead = c.in-Primary.lead in
    let primary : s.role ≡ Primary lead = sym (ap (λ (x : Copy). x.role) (ap (λ (v : Searched). v.copy) c.self.view_is)) ∙ c.in-Primary.is in
    let stands : IsStanding s = subst (λ (x : Copy). IsStanding x) (ap (λ (v : Searched). v.copy) c.self.view_is) c.self.invariant in
    let l = leads s lead stands primary in
    rw c.in_ok-acked.ensures (record { first = l.first; member = l.member })
