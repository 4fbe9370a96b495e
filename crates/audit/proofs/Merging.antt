-- A move that can come next still can after any other: so moves that are taken in any order reach as far as in every other order.
use Rattle.std.proofs.Common.{◌≡◌, ℕ, zero, suc, ◌<◌, ◌≤◌, Bool, true, false, List, [], ◌∷◌, if◌then◌else◌, Option, Some, None, is_some, refl, sym, ap, subst, ◌∙◌, arith}
use Rattle.std.specs.Prelude.{◌==◌, ◌&&◌, nat_lt, nat_le, slice_get, Contains, length}
use Rattle.std.proofs.lemmas.Bool.Decides.{nat_tests}
use Rattle.std.proofs.lemmas.Option.{slice_get_read}
use Rattle.doc.specs.Mapping.{MappingData}
use Rattle.op.specs.declared.message.Msg.{Msg}
use Rattle.replica.specs.declared.input.Input.{Input}
use Rattle.replica.specs.declared.input.Input.TheVariants.{Write as Client, Bulk as ClientBulk, Take, Report as Reporting, Refresh as Refreshing, Get as Getting, Restart as Restarting}
use Rattle.replica.specs.Copy.{begun}
use Rattle.master.specs.declared.state.Request.{Request}
use Rattle.master.specs.declared.state.Request.TheVariants.{Promote as Promotion, Allocate as Allocation, Synced, Fail}
use Rattle.master.specs.Decide.{is_given}
use Rattle.world.specs.declared.event.Event.{Event}
use Rattle.world.specs.World.{World, copy_in, message_at, new_world, world_step, world_after, world_of}
use Rattle.journal.specs.declared.moves.Move.{Move}
use Rattle.journal.specs.declared.moves.Move.TheVariants.{Asks as asks, Does as does, Tears as tears}
use Rattle.audit.specs.Moves.{Moves, Counts, more, IsWord, IsAsked, IsTold, IsThere, CanGo, IsNext, Leads, IsMade, IsStuck, IsHalted}
use Rattle.world.proofs.Lists.{Contains-at, Contains-none}
use Rattle.audit.proofs.Begun as new
use Rattle.audit.proofs.Nodes.{AtMost, Agrees, Sent-later, after_one, master_after, master_at, copy_if, grows, next_agrees}

-- a list has what it shows at a number from 1
message_of : (w : World) (k : ℕ) (x : Msg) → message_at w k ≡ Some x → Contains w.messages x
message_of w zero x e = absurd cc
message_of w (suc k) x e = Contains-at w.messages k x e

numbered : (w : World) (x : Msg) → Contains w.messages x → (k : ℕ) × (message_at w k ≡ Some x)
numbered w x c = (suc c.0, slice_get_read w.messages (length w.messages) c.0 x refl c.1 (sym c.2))

and_false : (b : Bool) → (b && false) ≡ false
and_false true = refl
and_false false = refl

module _ (mapping : MappingData) (n : ℕ) (moves : Moves) where
  abbrev Agree : World → Counts → Type 0
  Agree w p = Agrees mapping n moves w p

  abbrev next_id : ℕ → ℕ
  next_id k = (master_at mapping n moves k).next

  next_up : (k : ℕ) → next_id k ≤ next_id (suc k)
  next_up k = up (slice_get (moves 0) k)
    where
      up : (o : Option Move) → next_id k ≤ (after_one master_after (master_at mapping n moves k) o).next
      up None = omega arith
      up (Some m) = grows (master_at mapping n moves k) m

  next_le : (k l : ℕ) → k ≤ l → next_id k ≤ next_id l
  next_le k zero le = let none : k ≡ 0 = omega arith in rw none (omega arith)
  next_le k (suc l) le = (elim (nat_le k l) as (λ b. nat_le k l ≡ b → next_id k ≤ next_id (suc l)) [
    | true ↦ λ is. let before = next_le k l (grind (arith, nat_tests, is)) in let up = next_up l in omega arith
    | false ↦ λ is. let same : k ≡ suc l = grind (arith, nat_tests, is, le) in rw same (omega arith)
  ]) refl

  module _ (w w' : World) (p q : Counts) (a : Agree w p) (b : Agree w' q) (le : AtMost p q) where
    still_sent : (x : Msg) → Contains w.messages x → Contains w'.messages x
    still_sent x c = b.all x (Sent-later mapping n moves p q x le (a.sent x c))

    found : (k : ℕ) (x : Msg) → message_at w k ≡ Some x → (l : ℕ) × (message_at w' l ≡ Some x)
    found k x e = numbered w' x (still_sent x (message_of w k x e))

    still_there : (i : ℕ) → IsThere w i → IsThere w' i
    still_there i there = (there.0, given (is_given (master_at mapping n moves (p 0)) i) (is_given (master_at mapping n moves (q 0)) i) keeps (a.copies i) (b.copies i) there.1)
      where
        keeps : is_given (master_at mapping n moves (p 0)) i ≡ true → is_given (master_at mapping n moves (q 0)) i ≡ true
        keeps is = let up = next_le (p 0) (q 0) (le 0) in grind (arith, nat_tests, is, up)

        given : (c d : Bool) → (c ≡ true → d ≡ true) → copy_in w.copies i ≡ copy_if mapping n moves c i (p i) → copy_in w'.copies i ≡ copy_if mapping n moves d i (q i) → is_some (copy_in w.copies i) ≡ true → is_some (copy_in w'.copies i) ≡ true
        given true d so e f is = rw (f, so refl) refl
        given false d so e f is = let not_there : false ≡ true = ap is_some (sym e) ∙ is in absurd cc

    still_told : (i k : ℕ) (input : Input) → IsTold w i k input → (l : ℕ) × IsTold w' i l input
    still_told i k (Take x) told = let at = found k x told.0 in (at.0, (at.1, told.1))
    still_told i k (Client v) told = (k, tt)
    still_told i k (ClientBulk vs) told = (k, tt)
    still_told i k (Reporting r) told = (k, tt)
    still_told i k Refreshing told = (k, tt)
    still_told i k (Getting id) told = (k, tt)
    still_told i k Restarting told = (k, tt)

    still_word : (k : ℕ) (request : Request) → IsWord w k request → (l : ℕ) × IsWord w' l request
    still_word k request word = let at = found k word.0 word.1 in (at.0, (word.0, at.1, word.2, word.3))

    still_asked : (k : ℕ) (request : Request) → IsAsked w k request → (l : ℕ) × IsAsked w' l request
    still_asked k (Promotion c) asked = (k, tt)
    still_asked k Allocation asked = (k, tt)
    still_asked k (Synced term r) asked = still_word k (Synced term r) asked
    still_asked k (Fail term r) asked = still_word k (Fail term r) asked

    still_can : (i k : ℕ) (m : Move) → CanGo w i k m → (l : ℕ) × CanGo w' i l m
    still_can i k (asks request) can = let at = still_asked k request can.1 in (at.0, (can.0, at.1))
    still_can i k (does input) can = let at = still_told i k input can.1 in (at.0, (still_there i can.0, at.1))
    still_can i k (tears input kept) can = let at = still_told i k input can.2 in (at.0, (still_there i can.0, can.1, at.1))

    -- the next move of a node that the others' moves don't change
    pub still_next : (i k : ℕ) (m : Move) → p i ≡ q i → IsNext moves w p i k m → (l : ℕ) × IsNext moves w' q i l m
    still_next i k m same next = let at = still_can i k m next.1 in (at.0, (ap (λ (j : ℕ). slice_get (moves i) j) (sym same) ∙ next.0, at.1))

  -- where nothing can come next, every order of the moves has come at most so far
  pub within_stuck : (w' : World) (q : Counts) → Agree w' q → IsStuck moves w' q → (es : List Event) (w : World) (p r : Counts) → Agree w p → AtMost p q → Leads moves w p es r → AtMost r q
  within_stuck w' q b stuck [] w p r a le leads = λ i. let end = leads i in let at = le i in omega arith
  within_stuck w' q b stuck (e ∷ es) w p r a le (i, k, m, next, is, rest) =
      let step : Agree (world_step w e).world (more p i) = subst (λ (x : Event). Agree (world_step w x).world (more p i)) (sym is) (next_agrees mapping n moves w p a i k m next) in
      within_stuck w' q b stuck es (world_step w e).world (more p i) r step above rest
    where
      above : AtMost (more p i) q
      above j = (elim (i == j) as (λ c. (i == j) ≡ c → (if c then suc (p j) else p j) ≤ q j) [
        | true ↦ λ own. let same : i ≡ j = grind (arith, nat_tests) in subst (λ (l : ℕ). suc (p l) ≤ q l) same before
        | false ↦ λ own. le j
      ]) refl
        where
          before : suc (p i) ≤ q i
          before = (elim (nat_lt (p i) (q i)) as (λ c. nat_lt (p i) (q i) ≡ c → suc (p i) ≤ q i) [
            | true ↦ λ lt. grind (arith, nat_tests, lt)
            | false ↦ λ lt. let at = le i in let same : p i ≡ q i = grind (arith, nat_tests, lt, at) in let on = still_next w w' p q a b le i k m same next in absurd (stuck i on.0 m on.1)
          ]) refl

  -- ---- from a new world

  pub leads_agree : (es : List Event) (w : World) (p q : Counts) → Agree w p → Leads moves w p es q → (r : Counts) × Agree (world_after w es) r × ((i : ℕ) → r i ≡ q i)
  leads_agree [] w p q a leads = (p, a, leads)
  leads_agree (e ∷ es) w p q a (i, k, m, next, is, rest) =
      leads_agree es (world_step w e).world (more p i) q (subst (λ (x : Event). Agree (world_step w x).world (more p i)) (sym is) (next_agrees mapping n moves w p a i k m next)) rest

  module _ (some : 1 ≤ n) where
    pub begins : Agree (new_world mapping n) (λ i. 0)
    begins = record {
      one = refl;
      master = refl;
      size = omega arith;
      copies = λ i. new.copy_at mapping n i ∙ given i;
      fresh = λ i other none. refl;
      sent = λ x c. absurd (Contains-none x c);
      all = λ x s. let none = s.before in absurd (omega arith);
    }
      where
        given : (i : ℕ) → (if nat_lt 0 i && nat_le i n then Some (begun i n mapping) else None) ≡ copy_if mapping n moves (is_given (new_world mapping n).master i) i 0
        given i = (elim (nat_le i n) as (λ b. nat_le i n ≡ b → (if nat_lt 0 i && nat_le i n then Some (begun i n mapping) else None) ≡ copy_if mapping n moves (is_given (new_world mapping n).master i) i 0) [
          | true ↦ λ is. let same : nat_lt i (suc n) ≡ true = grind (arith, nat_tests, is) in rw (is, same) refl
          | false ↦ λ is. let same : nat_lt i (suc n) ≡ false = grind (arith, nat_tests, is) in rw (is, same, and_false (nat_lt 0 i)) refl
        ]) refl

    -- where the merge halts, no list of events is made of the moves
    pub halted_none : (node at : ℕ) → IsHalted mapping n moves node at → (es : List Event) → IsMade mapping n moves es → ⊥
    halted_none node at h es made =
        let end = leads_agree h.events (new_world mapping n) (λ i. 0) h.counts begins h.leads in
        let stuck : IsStuck moves (world_of mapping n h.events) end.0 = λ i k m next. h.stuck i k m (ap (λ (c : ℕ). slice_get (moves i) c) (sym (end.2 i)) ∙ next.0, next.1) in
        let all = within_stuck _ end.0 end.1 stuck es (new_world mapping n) (λ i. 0) (λ i. length (moves i)) begins (λ i. omega arith) made node in
        let same = end.2 node in
        let rest = h.unfinished in
        absurd (omega arith)

    -- one vector of counts at which nothing can come next
    same_counts : (node at other there : ℕ) (h : IsHalted mapping n moves node at) (k : IsHalted mapping n moves other there) → (i : ℕ) → h.counts i ≤ k.counts i
    same_counts node at other there h k i =
        let end = leads_agree k.events (new_world mapping n) (λ i. 0) k.counts begins k.leads in
        let stuck : IsStuck moves (world_of mapping n k.events) end.0 = λ j l m next. k.stuck j l m (ap (λ (c : ℕ). slice_get (moves j) c) (sym (end.2 j)) ∙ next.0, next.1) in
        let below = within_stuck _ end.0 end.1 stuck h.events (new_world mapping n) (λ j. 0) h.counts begins (λ j. omega arith) h.leads i in
        let same = end.2 i in
        omega arith

    not_less : (node at other there : ℕ) (h : IsHalted mapping n moves node at) (k : IsHalted mapping n moves other there) → node < other → ⊥
    not_less node at other there h k lt =
        let done = k.least node lt in
        let rest = h.unfinished in
        let below = same_counts other there node at k h node in
        absurd (omega arith)

    -- merges halt at one node and one place
    pub halted_once : (node at other there : ℕ) → IsHalted mapping n moves node at → IsHalted mapping n moves other there → (node ≡ other) × (at ≡ there)
    halted_once node at other there h k = (same, at_same)
      where
        same : node ≡ other
        same = (elim (nat_lt node other) as (λ b. nat_lt node other ≡ b → node ≡ other) [
          | true ↦ λ is. absurd (not_less node at other there h k (grind (arith, nat_tests, is)))
          | false ↦ λ is. (elim (nat_lt other node) as (λ b. nat_lt other node ≡ b → node ≡ other) [
            | true ↦ λ is'. absurd (not_less other there node at k h (grind (arith, nat_tests, is')))
            | false ↦ λ is'. grind (arith, nat_tests, is, is')
          ]) refl
        ]) refl

        at_same : at ≡ there
        at_same =
            let le = same_counts node at other there h k node in
            let ge = same_counts other there node at k h node in
            let both : h.counts node ≡ k.counts node = omega arith in
            h.place ∙ both ∙ ap k.counts same ∙ sym k.place
