-- The entries of the journals of a run, as events of it.
use Rattle.std.proofs.Common.{◌≡◌, ℕ, zero, suc, ◌<◌, ◌≤◌, true, false, List, [], ◌∷◌, ◌++◌, Option, Some, None, Ok, length, map, refl, sym, ap, subst, ◌∙◌, arith, append_assoc}
use Rattle.std.specs.Prelude.{◌==◌, slice_get}
use Rattle.std.proofs.lemmas.Bool.Decides.{nat_tests}
use Rattle.doc.specs.Mapping.{MappingData}
use Rattle.replica.specs.declared.input.Input.{Input}
use Rattle.replica.specs.declared.output.Output.{Output}
use Rattle.replica.specs.Copy.{Copy}
use Rattle.replica.specs.Step.{copy_step}
use Rattle.world.specs.declared.event.Event.{Event}
use Rattle.world.specs.World.{World, after_step, at_copy, copy_in, new_world, world_after, world_of, world_step}
use Rattle.journal.specs.declared.journal.Deed.{Deed}
use Rattle.journal.specs.declared.journal.Journal.{Journal}
use Rattle.journal.specs.declared.journal.Journal.TheVariants.{OfCopy as of_copy}
use Rattle.journal.specs.declared.moves.Move.{Move}
use Rattle.journal.specs.declared.moves.Move.TheVariants.{Does as does}
use Rattle.journal.specs.declared.moves.Placed.{Placed}
use Rattle.journal.specs.Journal.{Standing, after, moves as moves_from, moves_at, next, open_at, placed}
use Rattle.journal.specs.Opening.{born}
use Rattle.audit.specs.Audit.{IsMadeOf, moves_of, placed_of}
use Rattle.audit.specs.Moves.{Counts, IsNext, Leads, Moves, event_of, more}
use Rattle.audit.proofs.Links.{from_first, run, runs}
use Rattle.audit.proofs.Merging.{begins}
use Rattle.audit.proofs.Nodes.{Agrees, after_moves, copy_after, copy_now, does_is, next_agrees, there_is}
use Rattle.promises.proofs.Standings.{goes_on_at}

-- ---- a move of a node comes

module _ (mapping : MappingData) (n : ℕ) (moves : Moves) where
  -- among these events, which begin in this world, is that of move k of node i, and the nodes are what their moves say before it
  record Comes (w : World) (es : List Event) (i k : ℕ) (m : Move) : Type 0 where
    front : List Event
    event : Event
    back : List Event
    split : es ≡ front ++ event ∷ back
    counts : Counts
    agrees : Agrees mapping n moves (world_after w front) counts
    count : counts i ≡ k
    number : ℕ
    next : IsNext moves (world_after w front) counts i number m
    is : event ≡ event_of i number m

  move_one : (x m : Move) → (let o : Option Move = Some x in o) ≡ Some m → x ≡ m
  move_one x m e = cc

  module _ (w : World) (p : Counts) (a : Agrees mapping n moves w p) (e : Event) (es : List Event) (j l : ℕ) (x : Move) (next : IsNext moves w p j l x) (is : e ≡ event_of j l x) (i k : ℕ) (m : Move) (at : slice_get (moves i) k ≡ Some m) where
    now : j ≡ i → p i ≡ k → Comes w (e ∷ es) i k m
    now same count =
        let there : slice_get (moves i) k ≡ Some x = ap (λ (c : ℕ). slice_get (moves i) c) (sym count) ∙ (ap (λ (h : ℕ). slice_get (moves h) (p h)) (sym same) ∙ next.0) in
        let move : x ≡ m = move_one x m (sym there ∙ at) in
        record {
          front = [];
          event = e;
          back = es;
          split = refl;
          counts = p;
          agrees = a;
          count = count;
          number = l;
          next = subst (λ (y : Move). IsNext moves w p i l y) move (subst (λ (h : ℕ). IsNext moves w p h l x) same next);
          is = is ∙ (ap (λ (h : ℕ). event_of h l x) same ∙ ap (event_of i l) move);
        }

    later : Comes (world_step w e).world es i k m → Comes w (e ∷ es) i k m
    later r = record {
      front = e ∷ r.front;
      event = r.event;
      back = r.back;
      split = ap (λ (ys : List Event). e ∷ ys) r.split;
      counts = r.counts;
      agrees = r.agrees;
      count = r.count;
      number = r.number;
      next = r.next;
      is = r.is;
    }

    choose : p i ≤ k → (more p j i ≤ k → Comes (world_step w e).world es i k m) → Comes w (e ∷ es) i k m
    choose from rest = (elim (j == i) as (λ b. (j == i) ≡ b → Comes w (e ∷ es) i k m) [
      | true ↦ λ own. (elim (p i == k) as (λ b. (p i == k) ≡ b → Comes w (e ∷ es) i k m) [
        | true ↦ λ here. now (grind (arith, nat_tests, own)) (grind (arith, nat_tests, here))
        | false ↦ λ before. later (rest (let above : suc (p i) ≤ k = grind (arith, nat_tests, before, from) in rw own above))
      ]) refl
      | false ↦ λ other. later (rest (rw other from))
    ]) refl

  comes : (es : List Event) (w : World) (p q : Counts) → Agrees mapping n moves w p → Leads moves w p es q → (i k : ℕ) (m : Move) → slice_get (moves i) k ≡ Some m → p i ≤ k → k < q i → Comes w es i k m
  comes [] w p q a leads i k m at from to = let end = leads i in absurd (omega (arith, end, from, to))
  comes (e ∷ es) w p q a (j, l, x, next, is, rest) i k m at from to =
      choose w p a e es j l x next is i k m at from
      (λ le. comes es (world_step w e).world (more p j) q (subst (λ (y : Event). Agrees mapping n moves (world_step w y).world (more p j)) (sym is) (next_agrees mapping n moves w p a j l x next)) rest i k m at le to)

-- ---- the move of an entry

move_at : (xs : List Placed) (y : Placed) (ys : List Placed) → slice_get (map (λ p. p.what) (xs ++ y ∷ ys)) (length xs) ≡ Some y.what
move_at [] y ys = refl
move_at (x ∷ xs) y ys = move_at xs y ys

move_below : (xs : List Placed) (y : Placed) (ys : List Placed) → length xs < length (map (λ p. p.what) (xs ++ y ∷ ys))
move_below [] y ys = omega arith
move_below (x ∷ xs) y ys = let rest = move_below xs y ys in omega (arith, rest)

first_run : (s : Copy) (xs ys : List Placed) → after_moves copy_after s (map (λ p. p.what) (xs ++ ys)) (length xs) ≡ run copy_after s xs
unfolding run
first_run s [] ys = refl
first_run s (x ∷ xs) ys = from_first copy_after s x.what (map (λ p. p.what) (xs ++ ys)) (length xs) ∙ first_run (copy_after s x.what) xs ys

moves_on : (s : Standing) (place : ℕ) (ds es : List Deed) → (at : ℕ) × (moves_from s place (ds ++ es) ≡ moves_from s place ds ++ moves_from (after s place ds) at es)
moves_on s place [] es = (place, refl)
moves_on s place (d ∷ ds) es =
    let rest = moves_on (next s place d) (suc place) ds es in
    (rest.0, ap (λ (ps : List Placed). moves_at s.copy s.shut place d.input d.answer ++ ps) rest.1 ∙ sym (append_assoc (moves_at s.copy s.shut place d.input d.answer) (moves_from (next s place d) (suc place) ds) (moves_from (after (next s place d) (suc place) ds) rest.0 es)))

-- an entry that an open copy accepted is its next move
first_move : (t : Standing) (at : ℕ) (d : Deed) (back : List Deed) (output : Output) → t.shut ≡ None → d.answer ≡ Ok output → moves_from t at (d ∷ back) ≡ placed at (does d.input) ∷ moves_from (next t at d) (suc at) back
first_move t at d back output unshut answer =
    let first : moves_at t.copy t.shut at d.input d.answer ≡ placed at (does d.input) ∷ [] = rw (unshut, answer) refl in
    ap (λ (ps : List Placed). ps ++ moves_from (next t at d) (suc at) back) first

-- ---- the event of an entry

module _ (mapping : MappingData) (n : ℕ) (js : List Journal) (es : List Event) (made : IsMadeOf mapping n js es) where
  -- an event of the run at which this copy takes the input
  pub record IsEvent (node : ℕ) (c : Copy) (input : Input) : Type 0 where
    pub front : List Event
    pub event : Event
    pub back : List Event
    pub split : es ≡ front ++ event ∷ back
    pub there : copy_in (world_of mapping n front).copies node ≡ Some c
    pub happens : world_step (world_of mapping n front) event ≡ after_step (world_of mapping n front) (copy_step c input)

  module _ (i : ℕ) (opening : Copy) (front : List Deed) (d : Deed) (back : List Deed) (output : Output) (there : slice_get js (suc i) ≡ Some (of_copy opening (front ++ d ∷ back)))
      (unshut : (after (open_at opening) 0 front).shut ≡ None) (answer : d.answer ≡ Ok output) where
    abbrev node : ℕ
    node = suc i

    abbrev mine : List Placed
    mine = moves_from (open_at opening) 0 front

    on : (at : ℕ) × (moves_from (open_at opening) 0 (front ++ d ∷ back) ≡ mine ++ moves_from (after (open_at opening) 0 front) at (d ∷ back))
    on = moves_on (open_at opening) 0 front (d ∷ back)

    abbrev rest : List Placed
    rest = moves_from (next (after (open_at opening) 0 front) on.0 d) (suc on.0) back

    all : moves_of js node ≡ map (λ p. p.what) (mine ++ placed on.0 (does d.input) ∷ rest)
    all =
        ap (λ (o : Option Journal). map (λ p. p.what) (placed_of o)) there
        ∙ ap (map (λ (p : Placed). p.what)) (on.1 ∙ ap (λ (ps : List Placed). mine ++ ps) (first_move (after (open_at opening) 0 front) on.0 d back output unshut answer))

    came : Comes mapping n (moves_of js) (new_world mapping n) es node (length mine) (does d.input)
    came =
        comes mapping n (moves_of js) es (new_world mapping n) (λ j. 0) (λ j. length (moves_of js j)) (begins mapping n (moves_of js) made.size.0) made.made node (length mine) (does d.input)
        (ap (λ (ms : List Move). slice_get ms (length mine)) all ∙ move_at mine (placed on.0 (does d.input)) rest) (omega arith)
        (subst (λ (ms : List Move). length mine < length ms) (sym all) (move_below mine (placed on.0 (does d.input)) rest))

    copy_is : copy_now mapping n (moves_of js) node (came.counts node) ≡ (after (open_at opening) 0 front).copy
    copy_is =
        let pass = made.pass node (of_copy opening (front ++ d ∷ back)) there in
        let born_is : born mapping n node ≡ opening = sym pass.0 in
        ap (λ (c : Copy). after_moves copy_after c (moves_of js node) (came.counts node)) born_is
        ∙ (ap (λ (ms : List Move). after_moves copy_after opening ms (came.counts node)) all
        ∙ (ap (after_moves copy_after opening (map (λ p. p.what) (mine ++ placed on.0 (does d.input) ∷ rest))) came.count
        ∙ (first_run opening mine (placed on.0 (does d.input) ∷ rest) ∙ runs (open_at opening) 0 front tt (goes_on_at (open_at opening) 0 front (d ∷ back) pass.1).first)))

    is_event_here : IsEvent node (after (open_at opening) 0 front).copy d.input
    is_event_here =
        let w = world_of mapping n came.front in
        let can = came.next.1 in
        let stands = (there_is mapping n (moves_of js) w came.counts came.agrees node can.0).1 ∙ ap (λ (c : Copy). let o : Option Copy = Some c in o) copy_is in
        record {
          front = came.front;
          event = came.event;
          back = came.back;
          split = came.split;
          there = stands;
          happens = ap (world_step w) came.is ∙ (does_is w node came.number d.input can.0.0 can.1 ∙ ap (λ (o : Option Copy). at_copy w o d.input) stands);
        }

  -- an entry that an open copy accepted is an event of the run
  pub is_event : (node : ℕ) (opening : Copy) (front : List Deed) (d : Deed) (back : List Deed) (output : Output) → slice_get js node ≡ Some (of_copy opening (front ++ d ∷ back))
      → (after (open_at opening) 0 front).shut ≡ None → d.answer ≡ Ok output → IsEvent node (after (open_at opening) 0 front).copy d.input
  is_event zero opening front d back output there unshut answer = absurd (made.pass zero (of_copy opening (front ++ d ∷ back)) there).0
  is_event (suc i) opening front d back output there unshut answer = is_event_here i opening front d back output there unshut answer
