-- What each node is and has sent after some of its moves, whatever the others did, and that every world made of moves agrees with it.
use Rattle.std.proofs.Common.{◌≡◌, ℕ, zero, suc, ◌<◌, ◌≤◌, Bool, true, false, List, [], ◌∷◌, ◌++◌, if◌then◌else◌, Option, Some, None, Ok, Err, IfOk, is_some, refl, sym, ap, subst, ◌∙◌, ◌⊎◌, inl, inr, arith}
use Rattle.std.specs.Prelude.{◌==◌, nat_lt, nat_le, slice_get, Contains}
use Rattle.std.specs.Option.{option_or}
use Rattle.std.proofs.lemmas.Bool.Decides.{nat_tests}
use Rattle.std.proofs.lemmas.List.{append-nil}
use Rattle.std.proofs.lemmas.List.Elements.{Contains-append_left, Contains-append_right, Contains-append_cases}
use Rattle.doc.specs.Mapping.{MappingData}
use Rattle.op.specs.declared.message.Msg.{Msg}
use Rattle.replica.specs.declared.input.Input.{Input}
use Rattle.replica.specs.declared.input.Input.TheVariants.{Write as Client, Bulk as ClientBulk, Take, Report as Reporting, Refresh as Refreshing, Get as Getting, Restart as Restarting}
use Rattle.replica.specs.declared.role.Birth.TheVariants.{Added}
use Rattle.replica.specs.Copy.{Copy, opened}
use Rattle.replica.specs.Step.{Step, copy_step, torn}
use Rattle.master.specs.declared.fault.MasterFault.{MasterFault}
use Rattle.master.specs.declared.state.State.{State}
use Rattle.master.specs.declared.state.Request.{Request}
use Rattle.master.specs.declared.state.Request.TheVariants.{Promote as Promotion, Allocate as Allocation, Synced, Fail}
use Rattle.master.specs.declared.state.Decision.{Decision}
use Rattle.master.specs.Decide.{MasterStep, master_step, is_given, unless as unless_master}
use Rattle.world.specs.declared.event.Event.{Event}
use Rattle.world.specs.declared.event.Event.TheVariants.{Deliver}
use Rattle.world.specs.declared.event.EventAnswer.{EventAnswer}
use Rattle.world.specs.World.{World, Happened, copy_in, with_copy, putting, deciding, giving, telling, torn_at, at_copy, after_step, after_decision, decided, delivered, at_master, deliver, deliver_to, deliver_torn, deliver_torn_to, new_world, world_step}
use Rattle.journal.specs.Journal.{left_by}
use Rattle.journal.specs.Rulings.{ruled}
use Rattle.journal.specs.Opening.{born}
use Rattle.journal.specs.declared.moves.Move.{Move}
use Rattle.journal.specs.declared.moves.Move.TheVariants.{Asks as asks, Does as does, Tears as tears}
use Rattle.audit.specs.Moves.{Moves, Counts, more, event_of, IsWord, IsAsked, IsTold, IsThere, may_tear, IsNext}
use Rattle.world.proofs.Lists.{copy_in-id, copy_in-with, copy_in-other}
use Rattle.world.proofs.Copies.{copy_in-append}
use Rattle.audit.proofs.StepIds.{step-id}

-- ---- one node by itself

abbrev pub listed : Option Msg → List Msg
listed None = []
listed (Some m) = m ∷ []

abbrev pub told_by : MasterStep → List Msg
told_by (Ok d) = listed d.decision.sent
told_by (Err e) = []

abbrev pub sent_by : Step → List Msg
sent_by (Ok s) = s.sent
sent_by (Err e) = []

abbrev pub master_after : State → Move → State
master_after s (asks request) = ruled s (master_step s request)
master_after s (does input) = s
master_after s (tears input kept) = s

abbrev pub master_tells : State → Move → List Msg
master_tells s (asks request) = told_by (master_step s request)
master_tells s (does input) = []
master_tells s (tears input kept) = []

abbrev pub copy_after : Copy → Move → Copy
copy_after c (asks request) = c
copy_after c (does input) = left_by c (copy_step c input)
copy_after c (tears input kept) = torn c (copy_step c input) kept

abbrev pub copy_tells : Copy → Move → List Msg
copy_tells c (asks request) = []
copy_tells c (does input) = sent_by (copy_step c input)
copy_tells c (tears input kept) = []

module _ {S : Type 0} where
  abbrev pub after_one : (S → Move → S) → S → Option Move → S
  after_one f s None = s
  after_one f s (Some m) = f s m

  -- after the first k moves
  abbrev pub after_moves : (S → Move → S) → S → List Move → ℕ → S
  after_moves f s ms zero = s
  after_moves f s ms (suc k) = after_one f (after_moves f s ms k) (slice_get ms k)

-- what a move of a copy leaves of a world
record Moved (w : World) (i : ℕ) (d : Copy) (ms : List Msg) (w' : World) : Type 0 where
  one : w'.mapping ≡ w.mapping
  master : w'.master ≡ w.master
  copies : (j : ℕ) → copy_in w'.copies j ≡ (if i == j then Some d else copy_in w.copies j)
  messages : w'.messages ≡ w.messages ++ ms

module _ (w : World) (i : ℕ) (c : Copy) (there : copy_in w.copies i ≡ Some c) where
  put_copies : (d : Copy) → d.id ≡ i → (j : ℕ) → copy_in (with_copy w.copies d) j ≡ (if i == j then Some d else copy_in w.copies j)
  put_copies d own j = (elim (i == j) as (λ b. (i == j) ≡ b → copy_in (with_copy w.copies d) j ≡ (if b then Some d else copy_in w.copies j)) [
    | true ↦ λ is. let same : d.id ≡ j = grind (arith, nat_tests) in
        subst (λ (k : ℕ). copy_in (with_copy w.copies d) k ≡ Some d) same (copy_in-with w.copies d c (ap (copy_in w.copies) own ∙ there))
    | false ↦ λ is. copy_in-other w.copies d j (ap (λ (k : ℕ). k == j) own ∙ is)
  ]) refl

  same_copies : (j : ℕ) → copy_in w.copies j ≡ (if i == j then Some c else copy_in w.copies j)
  same_copies j = (elim (i == j) as (λ b. (i == j) ≡ b → copy_in w.copies j ≡ (if b then Some c else copy_in w.copies j)) [
    | true ↦ λ is. let same : i ≡ j = grind (arith, nat_tests) in ap (copy_in w.copies) (sym same) ∙ there
    | false ↦ λ is. refl
  ]) refl

  step_moved : (r : Step) → c.id ≡ i → IfOk r (λ s. s.copy.id ≡ c.id) → Moved w i (left_by c r) (sent_by r) (after_step w r).world
  step_moved (Ok s) own same = record { one = refl; master = refl; copies = put_copies s.copy (same ∙ own); messages = refl }
  step_moved (Err e) own same = record { one = refl; master = refl; copies = same_copies; messages = sym (append-nil w.messages) }

  torn_id : (r : Step) (kept : Bool) → IfOk r (λ s. s.copy.id ≡ c.id) → (torn c r kept).id ≡ c.id
  torn_id (Ok s) true same = same
  torn_id (Ok s) false same = refl
  torn_id (Err e) kept same = refl

  torn_moved : (r : Step) (kept : Bool) → c.id ≡ i → IfOk r (λ s. s.copy.id ≡ c.id) → Moved w i (torn c r kept) [] (putting w (torn c r kept))
  torn_moved r kept own same = record { one = refl; master = refl; copies = put_copies (torn c r kept) (torn_id r kept same ∙ own); messages = sym (append-nil w.messages) }

-- ---- the events of moves

module _ (w : World) (i k : ℕ) where
  to_other : (x : Msg) → x.to ≡ i → (i == 0) ≡ false → (x.to == 0) ≡ false
  to_other x to other = ap (λ (r : ℕ). r == 0) to ∙ other

  pub does_is : (input : Input) → (i == 0) ≡ false → IsTold w i k input → world_step w (event_of i k (does input)) ≡ at_copy w (copy_in w.copies i) input
  does_is (Take x) other told = ap (deliver w) told.0 ∙ ap (deliver_to w x) (to_other x told.1 other) ∙ ap (λ (r : ℕ). at_copy w (copy_in w.copies r) (Take x)) told.1
  does_is (Client v) other told = refl
  does_is (ClientBulk vs) other told = refl
  does_is (Reporting r) other told = refl
  does_is Refreshing other told = refl
  does_is (Getting id) other told = refl
  does_is Restarting other told = refl

  tears_is : (input : Input) (kept : Bool) → (i == 0) ≡ false → may_tear input ≡ true → IsTold w i k input → world_step w (event_of i k (tears input kept)) ≡ torn_at w (copy_in w.copies i) input kept
  tears_is (Take x) kept other may told = ap (λ (o : Option Msg). deliver_torn w o kept) told.0 ∙ ap (deliver_torn_to w x kept) (to_other x told.1 other) ∙ ap (λ (r : ℕ). torn_at w (copy_in w.copies r) (Take x) kept) told.1
  tears_is (Client v) kept other may told = refl
  tears_is (ClientBulk vs) kept other may told = refl
  tears_is (Reporting r) kept other may told = absurd cc
  tears_is Refreshing kept other may told = absurd cc
  tears_is (Getting id) kept other may told = absurd cc
  tears_is Restarting kept other may told = absurd cc

  -- which of the two answers it has
  abbrev Decides : Event → Request → Type 0
  Decides e request = (f : Decision → EventAnswer) × (world_step w e ≡ after_decision w f (master_step w.master request))

  word_is : (request : Request) → IsWord w k request → Decides (Deliver k) request
  word_is request word =
      let x = word.0 in
      (delivered, ap (deliver w) word.1 ∙ ap (deliver_to w x) (ap (λ (r : ℕ). r == 0) word.2) ∙ ap (at_master w) word.3)

  asks_is : (request : Request) → IsAsked w k request → Decides (event_of i k (asks request)) request
  asks_is (Promotion c) asked = (decided, refl)
  asks_is Allocation asked = (decided, refl)
  asks_is (Synced term r) asked = word_is (Synced term r) asked
  asks_is (Fail term r) asked = word_is (Fail term r) asked

-- what becomes of the id that is given next
abbrev Grants : ℕ → Option ℕ → ℕ → Type 0
Grants old None new = new ≡ old
Grants old (Some q) new = (q ≡ old) × (new ≡ suc old)

grants_unless : (s : State) (fs : List (Bool × MasterFault)) (r : MasterStep) → IfOk r (λ d. Grants s.next d.decision.given d.state.next) → IfOk (unless_master fs r) (λ d. Grants s.next d.decision.given d.state.next)
unfolding unless_master
grants_unless s [] r h = h
grants_unless s (f ∷ fs) r h = elim f.0 as (λ b. IfOk (if b then Err f.1 else unless_master fs r) (λ d. Grants s.next d.decision.given d.state.next)) [ true ↦ tt | false ↦ grants_unless s fs r h ]

grants : (s : State) (request : Request) → IfOk (master_step s request) (λ d. Grants s.next d.decision.given d.state.next)
grants s (Promotion c) = grants_unless s _ _ refl
grants s Allocation = grants_unless s _ _ (refl, refl)
grants s (Synced term r) = grants_unless s _ _ refl
grants s (Fail term r) = grants_unless s _ _ refl

grants_up : (old : ℕ) (given : Option ℕ) (new : ℕ) → Grants old given new → old ≤ new
grants_up old None new g = omega arith
grants_up old (Some q) new g = let up = g.1 in omega arith

-- the id that is given next never falls
pub grows : (s : State) (m : Move) → s.next ≤ (master_after s m).next
grows s (asks request) = up (master_step s request) (grants s request)
  where
    up : (r : MasterStep) → IfOk r (λ d. Grants s.next d.decision.given d.state.next) → s.next ≤ (ruled s r).next
    up (Ok d) g = grants_up s.next d.decision.given d.state.next g
    up (Err e) g = omega arith
grows s (does input) = omega arith
grows s (tears input kept) = omega arith

-- ---- all nodes

abbrev pub AtMost : Counts → Counts → Type 0
AtMost p q = (i : ℕ) → p i ≤ q i

pub more-above : (p : Counts) (i : ℕ) → AtMost p (more p i)
more-above p i j = elim (i == j) as (λ b. p j ≤ (if b then suc (p j) else p j)) [ true ↦ omega arith | false ↦ omega arith ]

itself : (n : ℕ) → (n == n) ≡ true
itself n = grind (arith, nat_tests)

-- whether it is this node
pub more-own : (p : Counts) (i : ℕ) → more p i i ≡ suc (p i)
more-own p i = rw (itself i) refl

module _ (mapping : MappingData) (n : ℕ) (moves : Moves) where
  abbrev pub master_at : ℕ → State
  master_at k = after_moves master_after (new_world mapping n).master (moves 0) k

  abbrev pub copy_now : ℕ → ℕ → Copy
  copy_now i k = after_moves copy_after (born mapping n i) (moves i) k

  abbrev pub tells_as : Bool → ℕ → ℕ → Move → List Msg
  tells_as true i k m = master_tells (master_at k) m
  tells_as false i k m = copy_tells (copy_now i k) m

  -- what node i sends with its move k
  abbrev pub tells : ℕ → ℕ → Move → List Msg
  tells i k m = tells_as (i == 0) i k m

  -- a message that one of these moves sends
  pub record Sent (p : Counts) (x : Msg) : Type 0 where
    pub node : ℕ
    pub place : ℕ
    pub move : Move
    pub before : place < p node
    pub there : slice_get (moves node) place ≡ Some move
    pub sent : Contains (tells node place move) x

  -- the copies that a master has given ids to
  abbrev pub copy_if : Bool → ℕ → ℕ → Option Copy
  copy_if b i k = if b then Some (copy_now i k) else None

  pub record Agrees (w : World) (p : Counts) : Type 0 where
    pub one : w.mapping ≡ mapping
    pub master : w.master ≡ master_at (p 0)
    pub size : n < (master_at (p 0)).next
    pub copies : (i : ℕ) → copy_in w.copies i ≡ copy_if (is_given (master_at (p 0)) i) i (p i)
    pub fresh : (i : ℕ) → (i == 0) ≡ false → is_given (master_at (p 0)) i ≡ false → p i ≡ 0
    pub sent : (x : Msg) → Contains w.messages x → Sent p x
    pub all : (x : Msg) → Sent p x → Contains w.messages x

  pub Sent-later : (p q : Counts) (x : Msg) → AtMost p q → Sent p x → Sent q x
  Sent-later p q x le s = let at = le s.node in record { node = s.node; place = s.place; move = s.move; before = let b = s.before in omega arith; there = s.there; sent = s.sent }

  -- ---- one move more

  module _ (w : World) (p : Counts) (a : Agrees w p) (i : ℕ) (m : Move) (at : slice_get (moves i) (p i) ≡ Some m) where
    sent_more : (ms : List Msg) → ms ≡ tells i (p i) m → (x : Msg) → Contains (w.messages ++ ms) x → Sent (more p i) x
    sent_more ms is x c = elim (Contains-append_cases w.messages ms x c) [
      | inl old ↦ Sent-later p (more p i) x (more-above p i) (a.sent x old)
      | inr new ↦ record { node = i; place = p i; move = m; before = rw (more-own p i) (omega arith); there = at; sent = subst (λ (l : List Msg). Contains l x) is new }
    ]

    all_more : (ms : List Msg) → ms ≡ tells i (p i) m → (x : Msg) → Sent (more p i) x → Contains (w.messages ++ ms) x
    all_more ms is x s = (elim (i == s.node) as (λ b. (i == s.node) ≡ b → s.place < (if b then suc (p s.node) else p s.node) → Contains (w.messages ++ ms) x) [
      | true ↦ λ own lt. let same : s.node ≡ i = grind (arith, nat_tests) in
          elim (cases s.place (p s.node) lt) [
            | inl before ↦ older before
            | inr last ↦
                let place : s.place ≡ p i = last ∙ ap p same in
                let there : slice_get (moves i) (p i) ≡ Some s.move = ap (λ (k : ℕ). slice_get (moves i) k) (sym place) ∙ ap (λ (j : ℕ). slice_get (moves j) s.place) (sym same) ∙ s.there in
                let move : s.move ≡ m = cc in
                let told : tells s.node s.place s.move ≡ ms = ap (λ (j : ℕ). tells j s.place s.move) same ∙ ap (λ (k : ℕ). tells i k s.move) place ∙ ap (tells i (p i)) move ∙ sym is in
                Contains-append_right w.messages ms x (subst (λ (l : List Msg). Contains l x) told s.sent)
          ]
      | false ↦ λ own lt. older lt
    ]) refl s.before
      where
        cases : (k l : ℕ) → k < suc l → (k < l) ⊎ (k ≡ l)
        cases k l lt = elim (nat_lt k l) as (λ b. nat_lt k l ≡ b → (k < l) ⊎ (k ≡ l)) [ true ↦ λ is. inl (grind (arith, nat_tests, is)) | false ↦ λ is. inr (grind (arith, nat_tests, is, lt)) ] refl

        older : s.place < p s.node → Contains (w.messages ++ ms) x
        older lt = Contains-append_left w.messages ms x (a.all x (record { node = s.node; place = s.place; move = s.move; before = lt; there = s.there; sent = s.sent }))

    moved_agrees : (w' : World) → (i == 0) ≡ false → is_given (master_at (p 0)) i ≡ true → Moved w i (copy_after (copy_now i (p i)) m) (copy_tells (copy_now i (p i)) m) w' → Agrees w' (more p i)
    moved_agrees w' other given v =
        let own : more p i 0 ≡ p 0 = rw other refl in
        let told : copy_tells (copy_now i (p i)) m ≡ tells i (p i) m = rw other refl in
        record {
          one = v.one ∙ a.one;
          master = v.master ∙ a.master ∙ ap master_at (sym own);
          size = rw own a.size;
          copies = λ j. rw own (v.copies j ∙ at_copy j);
          fresh = λ j is none. untouched j is (ap (λ (k : ℕ). is_given (master_at k) j) (sym own) ∙ none);
          sent = λ x c. sent_more _ told x (subst (λ (l : List Msg). Contains l x) v.messages c);
          all = λ x s. subst (λ (l : List Msg). Contains l x) (sym v.messages) (all_more _ told x s);
        }
      where
        at_copy : (j : ℕ) → (if i == j then Some (copy_after (copy_now i (p i)) m) else copy_in w.copies j) ≡ copy_if (is_given (master_at (p 0)) j) j (more p i j)
        at_copy j = (elim (i == j) as (λ b. (i == j) ≡ b → (if b then Some (copy_after (copy_now i (p i)) m) else copy_in w.copies j) ≡ copy_if (is_given (master_at (p 0)) j) j (if b then suc (p j) else p j)) [
          | true ↦ λ is. let same : i ≡ j = grind (arith, nat_tests) in subst (λ (k : ℕ). Some (copy_after (copy_now i (p i)) m) ≡ copy_if (is_given (master_at (p 0)) k) k (suc (p k))) same (rw (given, at) refl)
          | false ↦ λ is. a.copies j
        ]) refl

        untouched : (j : ℕ) → (j == 0) ≡ false → is_given (master_at (p 0)) j ≡ false → more p i j ≡ 0
        untouched j is none = (elim (i == j) as (λ b. (i == j) ≡ b → (if b then suc (p j) else p j) ≡ 0) [
          | true ↦ λ e. let same : i ≡ j = grind (arith, nat_tests) in let both : true ≡ false = sym given ∙ ap (is_given (master_at (p 0))) same ∙ none in absurd cc
          | false ↦ λ e. a.fresh j is none
        ]) refl

  -- ---- a copy's move

  some_is : (b : Bool) (o : Option Copy) (i k : ℕ) → o ≡ copy_if b i k → is_some o ≡ true → (b ≡ true) × (o ≡ Some (copy_now i k))
  some_is true o i k e is = (refl, e)
  some_is false o i k e is = let no_copy : false ≡ true = ap is_some (sym e) ∙ is in absurd cc

  pub there_is : (w : World) (p : Counts) → Agrees w p → (i : ℕ) → IsThere w i → (is_given (master_at (p 0)) i ≡ true) × (copy_in w.copies i ≡ Some (copy_now i (p i)))
  there_is w p a i there = some_is (is_given (master_at (p 0)) i) (copy_in w.copies i) i (p i) (a.copies i) there.1

  next_does : (w : World) (p : Counts) → Agrees w p → (i k : ℕ) (input : Input) → slice_get (moves i) (p i) ≡ Some (does input) → IsThere w i → IsTold w i k input → Agrees (world_step w (event_of i k (does input))).world (more p i)
  next_does w p a i k input at there told =
      let is = there_is w p a i there in
      let c = copy_now i (p i) in
      let own : c.id ≡ i = copy_in-id w.copies i c is.1 in
      subst (λ (h : Happened). Agrees h.world (more p i)) (sym (does_is w i k input there.0 told ∙ ap (λ (o : Option Copy). at_copy w o input) is.1))
      (moved_agrees w p a i (does input) at _ there.0 is.0 (step_moved w i c is.1 (copy_step c input) own (step-id c input)))

  next_tears : (w : World) (p : Counts) → Agrees w p → (i k : ℕ) (input : Input) (kept : Bool) → slice_get (moves i) (p i) ≡ Some (tears input kept) → IsThere w i → may_tear input ≡ true → IsTold w i k input →
      Agrees (world_step w (event_of i k (tears input kept))).world (more p i)
  next_tears w p a i k input kept at there may told =
      let is = there_is w p a i there in
      let c = copy_now i (p i) in
      let own : c.id ≡ i = copy_in-id w.copies i c is.1 in
      subst (λ (h : Happened). Agrees h.world (more p i)) (sym (tears_is w i k input kept there.0 may told ∙ ap (λ (o : Option Copy). torn_at w o input kept) is.1))
      (moved_agrees w p a i (tears input kept) at _ there.0 is.0 (torn_moved w i c is.1 (copy_step c input) kept own (step-id c input)))

  -- ---- a move of the master

  module _ (w : World) (p : Counts) (a : Agrees w p) (request : Request) (at : slice_get (moves 0) (p 0) ≡ Some (asks request)) where
    abbrev s : State
    s = master_at (p 0)

    given_still : (s' : State) → s.next ≤ s'.next → (j : ℕ) → is_given s' j ≡ false → is_given s j ≡ false
    given_still s' le j none = grind (arith, nat_tests, none, le)

    ruled_agrees : (w' : World) (s' : State) (ms : List Msg) → s' ≡ master_at (suc (p 0)) → ms ≡ tells 0 (p 0) (asks request) → w'.mapping ≡ w.mapping → w'.master ≡ s' → w'.messages ≡ w.messages ++ ms → s.next ≤ s'.next →
        ((j : ℕ) → copy_in w'.copies j ≡ copy_if (is_given s' j) j (p j)) → Agrees w' (more p 0)
    ruled_agrees w' s' ms is told one master messages le copies = record {
      one = one ∙ a.one;
      master = master ∙ is;
      size = rw (sym is) (let was = a.size in omega arith);
      copies = λ j. copies j ∙ copy_there j ∙ ap (λ (x : State). copy_if (is_given x j) j (more p 0 j)) is;
      fresh = λ j other none.
          let zero_not : (0 == j) ≡ false = grind (arith, nat_tests) in
          rw zero_not (a.fresh j other (given_still s' le j (ap (λ (x : State). is_given x j) is ∙ none)));
      sent = λ x c. sent_more w p a 0 (asks request) at ms told x (subst (λ (l : List Msg). Contains l x) messages c);
      all = λ x t. subst (λ (l : List Msg). Contains l x) (sym messages) (all_more w p a 0 (asks request) at ms told x t);
    }
      where
        copy_there : (j : ℕ) → copy_if (is_given s' j) j (p j) ≡ copy_if (is_given s' j) j (more p 0 j)
        copy_there zero = refl
        copy_there (suc j) = let other : (0 == suc j) ≡ false = grind (arith, nat_tests) in rw other refl

    or_none : (o : Option Copy) → option_or o None ≡ o
    or_none None = refl
    or_none (Some c) = refl

    given_copies : (s' : State) (given : Option ℕ) → Grants s.next given s'.next → (j : ℕ) → copy_in (giving (deciding w s') given).copies j ≡ copy_if (is_given s' j) j (p j)
    given_copies s' None grants j = a.copies j ∙ rw grants refl
    given_copies s' (Some q) grants j = copy_in-append w.copies (opened q Added w.mapping []) j ∙ (elim (q == j) as (λ b. (q == j) ≡ b → option_or (copy_in w.copies j) (if b then Some (opened q Added w.mapping []) else None) ≡ copy_if (is_given s' j) j (p j)) [
      | true ↦ λ is.
          let same : q ≡ j = grind (arith, nat_tests) in
          let big : n < j = let size = a.size in let q_is = grants.0 in omega arith in
          let none : is_given s j ≡ false = grind (arith, nat_tests, grants.0, same) in
          let some : is_given s' j ≡ true = grind (arith, nat_tests, grants.0, grants.1, same, big) in
          let other : (j == 0) ≡ false = grind (arith, nat_tests, big) in
          let late : nat_le j n ≡ false = grind (arith, nat_tests, big) in
          let nobody : copy_in w.copies j ≡ None = a.copies j ∙ rw none refl in
          ap (λ (o : Option Copy). option_or o (Some (opened q Added w.mapping []))) nobody ∙ rw (some, a.fresh j other none, late, same, a.one) refl
      | false ↦ λ is.
          let same : is_given s' j ≡ is_given s j = grind (arith, nat_tests, grants.0, grants.1, is) in
          or_none (copy_in w.copies j) ∙ a.copies j ∙ rw same refl
    ]) refl

    told_master : (w' : World) (sent : Option Msg) → (telling w' sent).master ≡ w'.master
    told_master w' None = refl
    told_master w' (Some x) = refl

    told_one : (w' : World) (sent : Option Msg) → (telling w' sent).mapping ≡ w'.mapping
    told_one w' None = refl
    told_one w' (Some x) = refl

    told_copies : (w' : World) (sent : Option Msg) → (telling w' sent).copies ≡ w'.copies
    told_copies w' None = refl
    told_copies w' (Some x) = refl

    told_messages : (w' : World) (sent : Option Msg) → (telling w' sent).messages ≡ w'.messages ++ listed sent
    told_messages w' None = sym (append-nil w'.messages)
    told_messages w' (Some x) = refl

    given_master : (w' : World) (given : Option ℕ) → ((giving w' given).master ≡ w'.master) × ((giving w' given).mapping ≡ w'.mapping) × ((giving w' given).messages ≡ w'.messages)
    given_master w' None = (refl, refl, refl)
    given_master w' (Some r) = (refl, refl, refl)

    decided_agrees : (f : Decision → EventAnswer) (r : MasterStep) → IfOk r (λ d. Grants s.next d.decision.given d.state.next) → master_step s request ≡ r → Agrees (after_decision w f r).world (more p 0)
    decided_agrees f (Err e) grants is = ruled_agrees w s [] (sym (rw (at, is) refl)) (sym (rw is refl)) refl a.master (sym (append-nil w.messages)) (omega arith) a.copies
    decided_agrees f (Ok d) grants is =
        let w1 = giving (deciding w d.state) d.decision.given in
        let kept = given_master (deciding w d.state) d.decision.given in
        ruled_agrees (telling w1 d.decision.sent) d.state (listed d.decision.sent) (sym (rw (at, is) refl)) (sym (rw is refl))
        (told_one w1 d.decision.sent ∙ kept.1) (told_master w1 d.decision.sent ∙ kept.0) (told_messages w1 d.decision.sent ∙ ap (λ (l : List Msg). l ++ listed d.decision.sent) kept.2)
        (grants_up s.next d.decision.given d.state.next grants)
        (λ j. ap (λ (l : List Copy). copy_in l j) (told_copies w1 d.decision.sent) ∙ given_copies d.state d.decision.given grants j)

    next_asks : (k : ℕ) → IsAsked w k request → Agrees (world_step w (event_of 0 k (asks request))).world (more p 0)
    next_asks k asked =
        let e = asks_is w 0 k request asked in
        subst (λ (h : Happened). Agrees h.world (more p 0)) (sym (e.1 ∙ ap (λ (x : State). after_decision w e.0 (master_step x request)) a.master))
        (decided_agrees e.0 (master_step s request) (grants s request) refl)

  -- a world that agrees does so after the next move of a node
  pub next_agrees : (w : World) (p : Counts) → Agrees w p → (i k : ℕ) (m : Move) → IsNext moves w p i k m → Agrees (world_step w (event_of i k m)).world (more p i)
  next_agrees w p a i k (asks request) next =
      let zero_is : i ≡ 0 = grind (arith, nat_tests, next.1.0) in
      let at = ap (λ (j : ℕ). slice_get (moves j) (p j)) (sym zero_is) ∙ next.0 in
      subst (λ (j : ℕ). Agrees (world_step w (event_of j k (asks request))).world (more p j)) (sym zero_is) (next_asks w p a request at k next.1.1)
  next_agrees w p a i k (does input) next = next_does w p a i k input next.0 next.1.0 next.1.1
  next_agrees w p a i k (tears input kept) next = next_tears w p a i k input kept next.0 next.1.0 next.1.1 next.1.2
