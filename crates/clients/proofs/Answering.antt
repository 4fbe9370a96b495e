-- One step of a conversation.
use Rattle.std.proofs.Common.{◌≡◌, ◌≤◌, ℕ, zero, suc, true, false, List, [], ◌∷◌, length, drop, Option, Some, None, IfSome, Result, Ok, Err, OnErr, if◌then◌else◌, refl, sym, ap, ◌∙◌, arith}
use Rattle.doc.specs.Mapping.{MappingData}
use Rattle.wire.specs.declared.reading.Whole.{Whole}
use Rattle.wire.specs.declared.reading.Whole.TheVariants.{Broken, Asked}
use Rattle.wire.specs.Framing.{broken, asked, first}
use Rattle.wire.specs.Reading.{IsRead, IsStanding, ends, request_view}
use Rattle.wire.specs.Requests.{Standing, bad, good, requests}
use Rattle.wire.proofs.Standings.{read_none}
use Rattle.front.specs.Command.{Command}
use Rattle.front.specs.Reply.{Reply}
use Rattle.front.specs.Rule.{Rule, AnsweredBy, work_by}
use Rattle.front.specs.Serving.{Begun}
use Rattle.clients.specs.Talk.{Talk}
use Rattle.clients.specs.Steps.{Answers, Breaks, standing}

-- no request stands whole
pub no_more : {K : Type 0} (most : ℕ) (old : Talk K) (slice : List ℕ) (left : Option (List ℕ)) (w : Option Whole) → old.ended ≡ false → slice ≡ old.waiting → w ≡ None → IsRead (first most slice) w left → standing most old ≡ []
no_more most old slice left w going same is r =
    let none_read : IsRead (first most slice) None left = rw is at r in
    ap (λ e. if e then [] else requests most old.waiting) going ∙ ap (requests most) (sym same) ∙ read_none most left slice none_read

-- nothing is answered any more
pub no_more_ended : {K : Type 0} (most : ℕ) (old : Talk K) → old.ended ≡ true → standing most old ≡ []
no_more_ended most old e = ap (λ b. if b then [] else requests most old.waiting) e

pub on_err : {X E : Type 0} (r : Result X E) (P : Type 0) → P → OnErr r P
on_err (Ok x) P p = tt
on_err (Err e) P p = p

pub as_it_was : {K : Type 0} (old : Talk K) → old.ended ≡ false → record { waiting = old.waiting; unsent = old.unsent; ended = false; has_asked = old.has_asked; known = old.known } ≡ old
as_it_was old going = ap (λ e. record { waiting = old.waiting; unsent = old.unsent; ended = e; has_asked = old.has_asked; known = old.known }) (sym going)

module _ {S K : Type 0} (rule : Rule) (answers : S → Command → Reply → S → Type 0) (knows : S → K) (index : List ℕ) (mapping : MappingData) where
  -- the first request was read and answered
  pub next_answered : (s t : S) (old new : Talk K) (w : Whole) (slice rest page : List ℕ) → old.ended ≡ false → old.unsent ≡ [] → slice ≡ old.waiting
      → IsRead (first rule.most slice) (Some w) (Some rest) → new.waiting ≡ rest → new.ended ≡ ends w → new.unsent ≡ page
      → IfSome old.known (λ k. knows s ≡ k) → new.known ≡ Some (knows t) → new.has_asked ≡ false
      → ((q : Standing) → IsStanding w q → AnsweredBy rule answers index mapping q s page t)
      → (q : Standing) × IsStanding w q × (from : S) × Answers rule answers knows index mapping q from t old new
  next_answered s t old new (Broken e) slice rest page going sent same r waiting ended unsent resumed learnt anew a =
      let f : first rule.most old.waiting ≡ broken r.0 = ap (first rule.most) (sym same) ∙ r.2 in (
        bad r.0,
        (r.0, r.1, refl),
        s,
        record {
          going = going;
          sent = sent;
          is_first = rw f (refl, ended);
          resumed = resumed;
          answered = rw unsent (a (bad r.0) (r.0, r.1, refl));
          learnt = learnt;
          asks_anew = anew;
        },
      )
  next_answered s t old new (Asked q) slice rest page going sent same r waiting ended unsent resumed learnt anew a =
      let f : first rule.most old.waiting ≡ asked (request_view q) q.closes r.0 = ap (first rule.most) (sym same) ∙ r.2 in
      let behind : rest ≡ r.0 = cc r.1 in (
        good (request_view q),
        refl,
        s,
        record {
          going = going;
          sent = sent;
          is_first = rw f (refl, waiting ∙ behind, ended);
          resumed = resumed;
          answered = rw unsent (a (good (request_view q)) refl);
          learnt = learnt;
          asks_anew = anew;
        },
      )

  -- the first request was read, and memory ran out while it was answered
  pub next_broken : (s t : S) (old : Talk K) (w : Whole) (slice rest : List ℕ) → slice ≡ old.waiting → IsRead (first rule.most slice) (Some w) (Some rest)
      → IfSome old.known (λ k. knows s ≡ k) → ((q : Standing) → IsStanding w q → Begun answers (work_by rule index mapping q) s t)
      → Breaks rule answers knows index mapping t old
  next_broken s t old (Broken e) slice rest same r resumed b =
      let f : first rule.most old.waiting ≡ broken r.0 = ap (first rule.most) (sym same) ∙ r.2 in
      record { q = bad r.0; rest = []; ended = true; from = s; is_first = rw f (refl, refl); resumed = resumed; begun = b (bad r.0) (r.0, r.1, refl) }
  next_broken s t old (Asked q) slice rest same r resumed b =
      let f : first rule.most old.waiting ≡ asked (request_view q) q.closes r.0 = ap (first rule.most) (sym same) ∙ r.2 in
      record { q = good (request_view q); rest = r.0; ended = q.closes; from = s; is_first = rw f (refl, refl, refl); resumed = resumed; begun = b (good (request_view q)) refl }
