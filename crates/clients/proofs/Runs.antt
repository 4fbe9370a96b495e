-- What the steps of a conversation keep.
use Rattle.std.proofs.Common.{◌≡◌, inl, inr, ◌&&◌, not, Bool, true, false, ℕ, List, [], ◌∷◌, ◌++◌, Option, Some, None, IfSome, if◌then◌else◌, refl, sym, ap, subst, ◌∙◌, append_assoc, append-nil}
use Rattle.doc.specs.Mapping.{MappingData}
use Rattle.wire.specs.Requests.{Standing, requests}
use Rattle.front.specs.Command.{Command}
use Rattle.front.specs.Reply.{Reply}
use Rattle.front.specs.Rule.{Rule, AnsweredBy}
use Rattle.clients.specs.Talk.{Talk, begun}
use Rattle.clients.specs.Steps.{Receives, Sends, Answers, Asks, standing}
use Rattle.clients.specs.Conversation.{Run, begins, receives, answers_one, asks, sends, IsBefore, Told, Kept, IsKept, asked_last}
use Rattle.wire.specs.Framing.{is_expected}
use Rattle.front.specs.Sending.{asking}
use Rattle.clients.proofs.Later.{next_later}

-- the requests that are left, whatever comes behind the bytes
abbrev Left : {K : Type 0} → ℕ → List Standing → List ℕ → Talk K → Type 0
Left most done received c = (more : List ℕ) → requests most (received ++ more) ≡ done ++ (if c.ended then [] else requests most (c.waiting ++ more))

left_now : {K : Type 0} (most : ℕ) (done : List Standing) (received : List ℕ) (c : Talk K) → Left most done received c → requests most received ≡ done ++ standing most c
left_now most done received c h =
    ap (requests most) (sym (append-nil received)) ∙ h [] ∙ ap (λ l. done ++ (if c.ended then [] else requests most l)) (append-nil c.waiting)

is_before : (b : Bool) → IsBefore (if b then asking else [])
is_before true = inr refl
is_before false = inl refl

asks_once : (a b c : Bool) → (not a && (not b && c)) ≡ true → b ≡ false
asks_once true b c e = absurd (cc e)
asks_once false true c e = absurd (cc e)
asks_once false false c e = refl

module _ {S K : Type 0} (rule : Rule) (answers : S → Command → Reply → S → Type 0) (knows : S → K) (index : List ℕ) (mapping : MappingData) where
  told_one : (known : Option K) (qs : List Standing) (q : Standing) (out before one : List ℕ) (last : Option K) (s t : S) → Told rule answers knows index mapping known qs out last → IsBefore before → IfSome last (λ k. knows s ≡ k)
      → AnsweredBy rule answers index mapping q s one t → Told rule answers knows index mapping known (qs ++ q ∷ []) (out ++ (before ++ one)) (Some (knows t))
  told_one known [] q out before one last s t h b resumed a =
      (s, t, one, [], subst (λ l. IfSome l (λ k. knows s ≡ k)) h.1 resumed, a, (refl, refl), before, b, ap (λ o. o ++ (before ++ one)) h.0 ∙ ap (λ o. before ++ o) (sym (append-nil one)))
  told_one known (p ∷ qs) q out before one last s t h b resumed a = (
    h.0,
    h.1,
    h.2,
    h.3 ++ (before ++ one),
    h.4,
    h.5,
    told_one (Some (knows h.1)) qs q h.3 before one last s t h.6 b resumed a,
    h.7,
    h.8,
    ap (λ o. o ++ (before ++ one)) h.9 ∙ append_assoc h.7 (h.2 ++ h.3) (before ++ one) ∙ ap (λ o. h.7 ++ o) (append_assoc h.2 h.3 (before ++ one)),
  )

  kept_of : (received sent : List ℕ) (c : Talk K) (done : List Standing) (pages : List ℕ) → Told rule answers knows index mapping None done pages c.known → sent ++ c.unsent ≡ pages ++ asked_last c → Left rule.most done received c
      → Kept rule answers knows index mapping received sent c
  kept_of received sent c done pages told out left = record { done = done; pages = pages; told = told; out = out; others = left_now rule.most done received c left; later = left }

  kept_begins : Kept rule answers knows index mapping [] [] begun
  kept_begins = kept_of [] [] begun [] [] (refl, refl) refl (λ more. refl)

  kept_receives : (received sent bytes : List ℕ) (old new : Talk K) → Kept rule answers knows index mapping received sent old → Receives bytes old new → Kept rule answers knows index mapping (received ++ bytes) sent new
  kept_receives received sent bytes old new k h =
      let told : Told rule answers knows index mapping None k.done k.pages new.known = rw h.3 k.told in
      let out : sent ++ new.unsent ≡ k.pages ++ asked_last new = ap (λ l. sent ++ l) h.1 ∙ k.out ∙ ap (λ b. k.pages ++ (if b then asking else [])) (sym h.4) in
      kept_of (received ++ bytes) sent new k.done k.pages told out (λ more.
      ap (requests rule.most) (append_assoc received bytes more)
      ∙ k.later (bytes ++ more)
      ∙ ap (λ l. k.done ++ (if old.ended then [] else requests rule.most l)) (sym (append_assoc old.waiting bytes more))
      ∙ ap (λ l. k.done ++ (if old.ended then [] else requests rule.most (l ++ more))) (sym h.0)
      ∙ ap (λ e. k.done ++ (if e then [] else requests rule.most (new.waiting ++ more))) (sym h.2))

  kept_sends : (received sent bytes : List ℕ) (old new : Talk K) → Kept rule answers knows index mapping received sent old → Sends bytes old new → Kept rule answers knows index mapping received (sent ++ bytes) new
  kept_sends received sent bytes old new k h =
      let told : Told rule answers knows index mapping None k.done k.pages new.known = rw h.3 k.told in
      let out : (sent ++ bytes) ++ new.unsent ≡ k.pages ++ asked_last new =
      append_assoc sent bytes new.unsent ∙ ap (λ l. sent ++ l) (sym h.1) ∙ k.out ∙ ap (λ b. k.pages ++ (if b then asking else [])) (sym h.4) in
      kept_of received (sent ++ bytes) new k.done k.pages told out (λ more.
      k.later more
      ∙ ap (λ l. k.done ++ (if old.ended then [] else requests rule.most (l ++ more))) (sym h.0)
      ∙ ap (λ e. k.done ++ (if e then [] else requests rule.most (new.waiting ++ more))) (sym h.2))

  -- nothing waits to be sent, and the client wasn't asked
  all_sent : (sent pages unsent : List ℕ) (asked : Bool) → unsent ≡ [] → asked ≡ false → sent ++ unsent ≡ pages ++ (if asked then asking else []) → sent ≡ pages
  all_sent sent pages unsent asked u b e =
      sym (append-nil sent) ∙ ap (λ l. sent ++ l) (sym u) ∙ e ∙ ap (λ c. pages ++ (if c then asking else [])) b ∙ append-nil pages

  kept_asks : (received sent : List ℕ) (old new : Talk K) → Kept rule answers knows index mapping received sent old → Asks rule.most old new → Kept rule answers knows index mapping received sent new
  kept_asks received sent old new k a =
      let same = all_sent sent k.pages old.unsent old.has_asked a.sent (asks_once old.ended old.has_asked (is_expected rule.most old.waiting) a.wanted) k.out in
      rw a.asked (kept_of received sent (record { waiting = old.waiting; unsent = asking; ended = old.ended; has_asked = true; known = old.known }) k.done k.pages k.told (ap (λ l. l ++ asking) same) k.later)

  kept_answers : (received sent : List ℕ) (old new : Talk K) (q : Standing) (s t : S) → Kept rule answers knows index mapping received sent old → Answers rule answers knows index mapping q s t old new
      → Kept rule answers knows index mapping received sent new
  kept_answers received sent old new q s t k a =
      let before = asked_last old in
      let told : Told rule answers knows index mapping None (k.done ++ q ∷ []) (k.pages ++ (before ++ new.unsent)) new.known =
      rw a.learnt (told_one None k.done q k.pages before new.unsent old.known s t k.told (is_before old.has_asked) a.resumed a.answered) in
      let all : sent ≡ k.pages ++ before = sym (append-nil sent) ∙ ap (λ l. sent ++ l) (sym a.sent) ∙ k.out in
      let out : sent ++ new.unsent ≡ (k.pages ++ (before ++ new.unsent)) ++ asked_last new =
      ap (λ l. l ++ new.unsent) all ∙ append_assoc k.pages before new.unsent ∙ sym (append-nil (k.pages ++ (before ++ new.unsent)))
      ∙ ap (λ b. (k.pages ++ (before ++ new.unsent)) ++ (if b then asking else [])) (sym a.asks_anew) in
      kept_of received sent new (k.done ++ q ∷ []) (k.pages ++ (before ++ new.unsent)) told out (λ more.
      k.later more
      ∙ ap (λ e. k.done ++ (if e then [] else requests rule.most (old.waiting ++ more))) a.going
      ∙ ap (λ l. k.done ++ l) (next_later rule.most old.waiting more new.waiting q new.ended a.is_first)
      ∙ sym (append_assoc k.done (q ∷ []) (if new.ended then [] else requests rule.most (new.waiting ++ more))))

  kept : (received sent : List ℕ) (c : Talk K) → Run rule answers knows index mapping received sent c → Kept rule answers knows index mapping received sent c
  kept received sent c begins = kept_begins
  kept received sent c (receives r s bytes old new run h) = kept_receives r s bytes old new (kept r s old run) h
  kept received sent c (answers_one r s old new q a b run h) = kept_answers r s old new q a b (kept r s old run) h
  kept received sent c (asks r s old new run h) = kept_asks r s old new (kept r s old run) h
  kept received sent c (sends r s bytes old new run h) = kept_sends r s bytes old new (kept r s old run) h

pub all_kept : {S K : Type 0} (rule : Rule) (answers : S → Command → Reply → S → Type 0) (knows : S → K) → IsKept rule answers knows
all_kept rule answers knows index mapping received sent c run = kept rule answers knows index mapping received sent c run
