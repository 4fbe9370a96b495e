-- A move can come just where its node is ready, and its message was sent.
use Rattle.std.proofs.Common.{◌≡◌, ℕ, zero, suc, ◌≤◌, ◌+◌, true, false, Some, refl, sym, ap, subst, ◌∙◌, length, arith}
use Rattle.std.specs.Prelude.{nat_lt, slice_get}
use Rattle.std.proofs.lemmas.Bool.Decides.{nat_tests}
use Rattle.std.proofs.lemmas.Option.{slice_get_within}
use Rattle.op.specs.declared.message.Msg.{Msg}
use Rattle.replica.specs.declared.input.Input.{Input}
use Rattle.replica.specs.declared.input.Input.TheVariants.{Write as Client, Bulk as ClientBulk, Take, Report as Reporting, Refresh as Refreshing, Get as Getting, Restart as Restarting}
use Rattle.master.specs.declared.state.Request.{Request}
use Rattle.master.specs.declared.state.Request.TheVariants.{Promote as Promotion, Allocate as Allocation, Synced, Fail}
use Rattle.journal.specs.declared.moves.Move.{Move}
use Rattle.journal.specs.declared.moves.Move.TheVariants.{Asks as asks, Does as does, Tears as tears}
use Rattle.audit.specs.Moves.{CanGo, IsAsked, IsTold}
use Rattle.audit.specs.Causes.{is_word, is_taking, needs, IsTaken, Lets, IsTo, IsReady, IsLet}
use Rattle.world.specs.World.{World, message_at}

module _ (w : World) (i k : ℕ) where
  -- with its message
  told_with : (input : Input) → IsTo i input → (x : Msg) → message_at w k ≡ Some x → IsTaken x input → IsTold w i k input
  told_with (Take m) to x at is = (at ∙ ap (λ (y : Msg). Some y) is, to)
  told_with (Client write) to x at is = absurd is
  told_with (ClientBulk ws) to x at is = absurd is
  told_with (Reporting r) to x at is = absurd is
  told_with Refreshing to x at is = absurd is
  told_with (Getting id) to x at is = absurd is
  told_with Restarting to x at is = absurd is

  asked_with : (request : Request) → (x : Msg) → message_at w k ≡ Some x → Lets x (asks request) → IsAsked w k request
  asked_with (Promotion c) x at is = tt
  asked_with Allocation x at is = tt
  asked_with (Synced term r) x at is = (x, at, is.0, is.1)
  asked_with (Fail term r) x at is = (x, at, is.0, is.1)

  pub can_with : (m : Move) → IsReady w i m → IsLet w k m → CanGo w i k m
  can_with (asks request) ready l = (ready, asked_with request l.0 l.1 l.2)
  can_with (does input) ready l = (ready.0, told_with input ready.1 l.0 l.1 l.2)
  can_with (tears input kept) ready l = (ready.0, ready.1, told_with input ready.2 l.0 l.1 l.2)

  -- and without one
  told_free : (input : Input) → is_taking input ≡ false → IsTold w i k input
  told_free (Take m) is = absurd cc
  told_free (Client write) is = tt
  told_free (ClientBulk ws) is = tt
  told_free (Reporting r) is = tt
  told_free Refreshing is = tt
  told_free (Getting id) is = tt
  told_free Restarting is = tt

  asked_free : (request : Request) → is_word request ≡ false → IsAsked w k request
  asked_free (Promotion c) is = tt
  asked_free Allocation is = tt
  asked_free (Synced term r) is = absurd cc
  asked_free (Fail term r) is = absurd cc

  pub can_free : (m : Move) → IsReady w i m → needs m ≡ false → CanGo w i k m
  can_free (asks request) ready is = (ready, asked_free request is)
  can_free (does input) ready is = (ready.0, told_free input is)
  can_free (tears input kept) ready is = (ready.0, ready.1, told_free input is)

  -- back
  to_of : (input : Input) → IsTold w i k input → IsTo i input
  to_of (Take m) told = told.1
  to_of (Client write) told = tt
  to_of (ClientBulk ws) told = tt
  to_of (Reporting r) told = tt
  to_of Refreshing told = tt
  to_of (Getting id) told = tt
  to_of Restarting told = tt

  pub ready_of : (m : Move) → CanGo w i k m → IsReady w i m
  ready_of (asks request) can = can.0
  ready_of (does input) can = (can.0, to_of input can.1)
  ready_of (tears input kept) can = (can.0, can.1, to_of input can.2)

  let_told : (input : Input) → is_taking input ≡ true → IsTold w i k input → (x : Msg) × (message_at w k ≡ Some x) × IsTaken x input
  let_told (Take m) is told = (m, told.0, refl)
  let_told (Client write) is told = absurd cc
  let_told (ClientBulk ws) is told = absurd cc
  let_told (Reporting r) is told = absurd cc
  let_told Refreshing is told = absurd cc
  let_told (Getting id) is told = absurd cc
  let_told Restarting is told = absurd cc

  let_asked : (request : Request) → is_word request ≡ true → IsAsked w k request → (x : Msg) × (message_at w k ≡ Some x) × Lets x (asks request)
  let_asked (Promotion c) is asked = absurd cc
  let_asked Allocation is asked = absurd cc
  let_asked (Synced term r) is word = (word.0, word.1, (word.2, word.3))
  let_asked (Fail term r) is word = (word.0, word.1, (word.2, word.3))

  pub let_of : (m : Move) → needs m ≡ true → CanGo w i k m → IsLet w k m
  let_of (asks request) is can = let_asked request is can.1
  let_of (does input) is can = let_told input is can.1
  let_of (tears input kept) is can = let_told input is can.2

-- ---- looking at all messages

pub none_yet : (w : World) (m : Move) (k : ℕ) → k ≤ 0 → IsLet w k m → ⊥
none_yet w m zero le l = let e = l.1 in absurd cc
none_yet w m (suc k) le l = absurd (omega arith)

pub none_more : (w : World) (m : Move) (place : ℕ) (x : Msg) → slice_get w.messages place ≡ Some x → (Lets x m → ⊥) → ((k : ℕ) → k ≤ place → IsLet w k m → ⊥) → (k : ℕ) → k ≤ place + 1 → IsLet w k m → ⊥
none_more w m place x at isnt before zero le l = let e = l.1 in absurd cc
none_more w m place x at isnt before (suc k) le l = (elim (nat_lt k place) as (λ b. nat_lt k place ≡ b → ⊥) [
  | true ↦ λ lt. before (suc k) (grind (arith, nat_tests, lt)) l
  | false ↦ λ lt.
      let same : k ≡ place = grind (arith, nat_tests, lt, le) in
      let both : slice_get w.messages k ≡ Some x = ap (λ (i : ℕ). slice_get w.messages i) same ∙ at in
      isnt (subst (λ (y : Msg). Lets y m) (one l.0 x (sym l.1 ∙ both)) l.2)
]) refl
  where
    one : (a b : Msg) → Some a ≡ Some b → a ≡ b
    one a b e = cc

pub none_all : (w : World) (m : Move) (place : ℕ) → length w.messages ≤ place → ((k : ℕ) → k ≤ place → IsLet w k m → ⊥) → (k : ℕ) → IsLet w k m → ⊥
none_all w m place le before zero l = let e = l.1 in absurd cc
none_all w m place le before (suc k) l = let lt = slice_get_within w.messages k l.0 l.1 in before (suc k) (omega arith) l
