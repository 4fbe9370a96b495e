-- What a client may rely on.
use Rattle.std.proofs.Common.{◌≡◌, ℕ, Bool, true, false, List, length, Option, Some, None, Ok, Err, refl, sym, ap, subst, ◌∙◌, ⊎_elim}
use Rattle.doc.specs.Id.{Id}
use Rattle.doc.specs.Outcome.{◌>>=◌}
use Rattle.op.specs.declared.operation.Op.{Op}
use Rattle.op.specs.declared.record.Record.{Record}
use Rattle.op.specs.Documents.{Document, document_at, document_of, documents}
use Rattle.op.specs.Operations.{IsAscending, is_on, last_on, op_at}
use Rattle.op.specs.Records.{operations, shown}
use Rattle.op.proofs.DocumentLaws.{document_at-documents}
use Rattle.master.specs.Logged as ruler
use Rattle.replica.specs.declared.input.Input.TheVariants.{Refresh as Refreshing, Get as Getting}
use Rattle.replica.specs.Copy.{Copy}
use Rattle.replica.specs.Logged.{Logged, IsLogged}
use Rattle.replica.specs.Step.{Step, copy_step, get_answer, members_of}
use Rattle.front.specs.declared.command.Write.{Write}
use Rattle.front.specs.declared.reply.Found.{Found}
use Rattle.front.specs.declared.reply.Wrote.{Wrote}
use Rattle.front.specs.Command.{Command, write, bulk, get, search, count, refresh, promote}
use Rattle.front.specs.Reply.{Reply, wrote, bulked, got, hits, counted, refreshed, promoted, refused}
use Rattle.shard.specs.Answering.{IsAnswered, asked, is_failure, reply_of, taken, told}
use Rattle.shard.specs.Ready.{IsAsked, IsServed, IsWanting, is_write}
use Rattle.shard.specs.History.{Stand}
use Rattle.promises.specs.Promises.{HasWrite, IsAcknowledged, alone, among, IsOver, IsSeenAt, is_search, is_refused, WritesAreFound, WritesAreSeen, RefreshedWritesAreSeen}
use Rattle.promises.proofs.Lists.{has_write}
use Rattle.promises.proofs.Places.{IsPlaced, between, placed}
use Rattle.promises.proofs.Serving.{IsThere, ascends, shown_ascends, by_state, is_open, ready}
use Rattle.promises.proofs.Steps.{HasOp, whole}
use Rattle.promises.proofs.Written.{acknowledged, from_done, one_of_bulk, refresh_step}

-- a copy that answers with no refusal was open
was_open : (s : Logged) (c : Command) (r : Reply) (t : Logged) → IsAnswered s c r t → is_refused r ≡ false → s.closed ≡ false
was_open s c r t is fine = by_state s (λ now_open. now_open) (λ closed. absurd (let no : true ≡ false = sym (ap is_refused (is.closed closed).0) ∙ fine in cc))

no_failure : (r : Reply) → is_refused r ≡ false → is_failure r ≡ false
no_failure (refused f) h = absurd cc
no_failure (wrote w) h = refl
no_failure (bulked items) h = refl
no_failure (got d) h = refl
no_failure (hits total page) h = refl
no_failure (counted n) h = refl
no_failure (refreshed n) h = refl
no_failure (promoted copy term) h = refl

-- a command that is answered with no refusal, by a copy that is open
record IsDoneBy (c : Command) (r : Reply) (s t : Logged) (u : Logged) : Type 0 where
  now_open : u.closed ≡ false
  logged : IsLogged u
  exact : (t.copy, r) ≡ told u.copy (asked u.copy c)
  stays_open : t.closed ≡ false
  there : (o : Op) (seen : Bool) → IsThere o seen s → HasOp o seen u.copy

done_by : (s : Logged) (m : ruler.Logged) (c : Command) (r : Reply) (t : Logged) (n : ruler.Logged) → IsServed s m c r t n → is_refused r ≡ false → (u : Logged) × IsDoneBy c r s t u
done_by s m c r t n is fine = ⊎_elim by_answer (λ (h : IsWanting s m r t n). absurd (let no : true ≡ false = sym (ap is_refused h.reply) ∙ fine in cc)) is.served
  where
    by_answer : IsAsked s m c r t n → (u : Logged) × IsDoneBy c r s t u
    by_answer h =
        let now_open : h.asked.closed ≡ false = was_open h.asked c r t h.answered fine in (
          h.asked,
          record {
            now_open = now_open;
            logged = h.logged;
            exact = h.answered.exact now_open (no_failure r fine);
            stays_open = h.answered.stays now_open (λ e. let no : true ≡ false = sym (ap is_refused e) ∙ fine in absurd cc);
            there = λ o seen there. (ready o seen (is_write c) s h.asked m n h.ready there).while_open now_open;
          },
        )

-- the write is there behind its reply
record IsWritten (id : Id) (seq : ℕ) (seen : Bool) (t : Logged) : Type 0 where
  op : Op
  number : op.seq ≡ seq
  on : is_on id op ≡ true
  there : IsThere op seen t

written_at : (w : Write) (x : Wrote) (old acked : List Stand) (p : IsPlaced old (write w) (wrote x) acked) → IsWritten w.id x.seq w.refresh p.next.copy
written_at w x old acked p =
    let by = done_by p.at.copy p.at.master (write w) (wrote x) p.next.copy p.next.master p.served refl in
    let a = acknowledged by.0.copy (ascends by.0 by.1.logged by.1.now_open) w x p.next.copy.copy by.1.exact in
    record { op = a.op; number = a.number; on = a.on; there = is_open a.op w.refresh p.next.copy by.1.stays_open a.there }

less : (o : Op) (seen : Bool) (t : Logged) → IsThere o seen t → IsThere o false t
less o seen t is = record { while_open = λ now_open. ((is.while_open now_open).0, λ e. absurd (let no : false ≡ true = e in cc)); while_closed = is.while_closed }

acked_at : (w : Write) (x : Wrote) (c : Command) (r : Reply) (old acked : List Stand) → IsAcknowledged w x c r → (p : IsPlaced old c r acked) → IsWritten w.id x.seq false p.next.copy
acked_at w x c r old acked alone p =
    let one = written_at w x old acked p in
    record { op = one.op; number = one.number; on = one.on; there = less one.op w.refresh p.next.copy one.there }
acked_at w x c r old acked (among ws items place is was) p =
    let by = done_by p.at.copy p.at.master (bulk ws) (bulked items) p.next.copy p.next.master p.served refl in
    let a = one_of_bulk by.0.copy (ascends by.0 by.1.logged by.1.now_open) ws items p.next.copy.copy place w x is was by.1.exact in
    record { op = a.op; number = a.number; on = a.on; there = is_open a.op false p.next.copy by.1.stays_open a.there }

-- ---- what is told of it

any_members : (n : ℕ) (d : Option Document) → reply_of n (get_answer d) ≡ reply_of 0 (get_answer d)
any_members n None = refl
any_members n (Some d) = refl

has_at : (id : Id) (o : Op) (seq : ℕ) (os : List Op) → IsAscending os → op_at os o.seq ≡ Some o → is_on id o ≡ true → o.seq ≡ seq → HasWrite id seq os
has_at id o seq os up h on number = subst (λ (n : ℕ). HasWrite id n os) number (has_write os id o up h on)

gets : (c d : Copy) (id : Id) (f : Option Found) → (d, got f) ≡ told c (taken c (Getting id)) → (d.records ≡ c.records) × (got f ≡ reply_of 0 (get_answer (document_of (last_on (operations c.records) id))))
gets c d id f h = by_step (copy_step c (Getting id)) refl h
  where
    by_step : (r : Step) → copy_step c (Getting id) ≡ r → (d, got f) ≡ told c (r >>= λ s. Ok (s.copy, reply_of (members_of s.copy.role) s.answer))
        → (d.records ≡ c.records) × (got f ≡ reply_of 0 (get_answer (document_of (last_on (operations c.records) id))))
    by_step (Err e) step h = absurd (let no = ap (λ (p : Copy × Reply). p.1) h in cc)
    by_step (Ok s) step h =
        let one = from_done c (get_answer (document_at (documents (operations c.records)) id)) s step in (
          ap (λ (p : Copy × Reply). p.0.records) h ∙ one.0,
          ap (λ (p : Copy × Reply). p.1) h
              ∙ (ap (reply_of (members_of s.copy.role)) (one.2 ∙ ap get_answer (document_at-documents (operations c.records) id))
              ∙ any_members (members_of s.copy.role) (document_of (last_on (operations c.records) id))),
        )

pub writes_are_found : WritesAreFound
writes_are_found w x c reply f old acked later new told_as first begins then =
    let p = placed old c reply acked first in
    let q = placed later (get w.id) (got f) new then in
    let is = acked_at w x c reply old acked told_as p in
    let there = between is.op false old acked later new c (get w.id) reply (got f) p q begins is.there in
    let by = done_by q.at.copy q.at.master (get w.id) (got f) q.next.copy q.next.master q.served refl in
    let has = by.1.there is.op false there in
    let tells = gets by.0.copy q.next.copy.copy w.id f by.1.exact in
    record {
      at = q.next;
      ends = q.ends;
      has = subst (λ (rs : List Record). HasWrite w.id x.seq (operations rs)) (sym tells.0) (has_at w.id is.op x.seq (operations by.0.copy.records) (ascends by.0 by.1.logged by.1.now_open) has.0 is.on is.number);
      told = tells.1 ∙ ap (λ (rs : List Record). reply_of 0 (get_answer (document_of (last_on (operations rs) w.id)))) (sym tells.0);
    }

looks : (u : Copy) (d : Copy) (c : Command) (r : Reply) → is_search c ≡ true → (d, r) ≡ told u (asked u c) → (d ≡ u) × IsOver u.mapping (shown u.records u.point) c r
looks u d (search q page) r is h = (ap (λ (p : Copy × Reply). p.0) h, ap (λ (p : Copy × Reply). p.1) h)
looks u d (count q) r is h = (ap (λ (p : Copy × Reply). p.0) h, ap (λ (p : Copy × Reply). p.1) h)
looks u d (write w) r is h = absurd cc
looks u d (bulk ws) r is h = absurd cc
looks u d (get id) r is h = absurd cc
looks u d refresh r is h = absurd cc
looks u d (promote copy) r is h = absurd cc

-- a search of a copy that shows it
sees : (id : Id) (seq : ℕ) (o : Op) (c : Command) (r : Reply) (later new : List Stand) (q : IsPlaced later c r new) → o.seq ≡ seq → is_on id o ≡ true → IsThere o true q.at.copy → is_search c ≡ true → is_refused r ≡ false → IsSeenAt id seq c r new
sees id seq o c r later new q number on there is fine =
    let by = done_by q.at.copy q.at.master c r q.next.copy q.next.master q.served fine in
    let u = by.0 in
    let shows = (by.1.there o true there).1 refl in
    let tells = looks u.copy q.next.copy.copy c r is by.1.exact in
    record {
      at = q.next;
      ends = q.ends;
      has = subst (λ (d : Copy). HasWrite id seq (shown d.records d.point)) (sym tells.0) (has_at id o seq (shown u.copy.records u.copy.point) (shown_ascends u by.1.logged by.1.now_open u.copy.point) shows.0 on number);
      over = subst (λ (d : Copy). IsOver d.mapping (shown d.records d.point) c r) (sym tells.0) tells.1;
    }

pub writes_are_seen : WritesAreSeen
writes_are_seen w x c r old acked later new first refreshes begins then is fine =
    let p = placed old (write w) (wrote x) acked first in
    let q = placed later c r new then in
    let one = written_at w x old acked p in
    let there = between one.op w.refresh old acked later new (write w) c (wrote x) r p q begins one.there in
    sees w.id x.seq one.op c r later new q one.number one.on (subst (λ b. IsThere one.op b q.at.copy) refreshes there) is fine

-- behind a refresh all is shown
shows_all : (o : Op) (seen : Bool) (n : ℕ) (before after : List Stand) (p : IsPlaced before refresh (refreshed n) after) → IsThere o seen p.at.copy → IsThere o true p.next.copy
shows_all o seen n before after p there = is_open o true p.next.copy by.1.stays_open (by_step (copy_step by.0.copy Refreshing) refl by.1.exact)
  where
    by : (u : Logged) × IsDoneBy refresh (refreshed n) p.at.copy p.next.copy u
    by = done_by p.at.copy p.at.master refresh (refreshed n) p.next.copy p.next.master p.served refl

    by_step : (r : Step) → copy_step by.0.copy Refreshing ≡ r → (p.next.copy.copy, refreshed n) ≡ told by.0.copy (r >>= λ s. Ok (s.copy, reply_of (members_of s.copy.role) s.answer)) → HasOp o true p.next.copy.copy
    by_step (Err e) step h = absurd (let no = ap (λ (y : Copy × Reply). y.1) h in cc)
    by_step (Ok s) step h =
        let copy : p.next.copy.copy ≡ s.copy = ap (λ (y : Copy × Reply). y.0) h in
        let one = refresh_step by.0.copy s step in
        let point : s.copy.point ≡ length s.copy.records = one.1 ∙ ap length (sym one.0) in
        subst (λ (y : Copy). HasOp o true y) (sym copy) (rw point (whole o true s.copy.records (rw one.0 (by.1.there o seen there).0)))

pub refreshed_writes_are_seen : RefreshedWritesAreSeen
refreshed_writes_are_seen w x asked_as reply n c r old acked before shown_at later new told_as first begins refreshes goes then is fine =
    let p = placed old asked_as reply acked first in
    let f = placed before refresh (refreshed n) shown_at refreshes in
    let q = placed later c r new then in
    let one = acked_at w x asked_as reply old acked told_as p in
    let there = between one.op false old acked before shown_at asked_as refresh reply (refreshed n) p f begins one.there in
    let shows = shows_all one.op false n before shown_at f there in
    sees w.id x.seq one.op c r later new q one.number one.on (between one.op true before shown_at later new refresh c (refreshed n) r f q goes shows) is fine
