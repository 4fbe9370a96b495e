-- The world of a list of events that is made of journals has the copies and the master that the journals say.
use Rattle.std.proofs.Common.{◌≡◌, ℕ, zero, suc, Bool, true, false, List, [], ◌∷◌, ◌++◌, Option, Some, None, Result, Ok, Err, length, map, refl, sym, ap, ◌∙◌}
use Rattle.std.specs.Prelude.{◌||◌, if◌then◌else◌, slice_get}
use Rattle.std.proofs.lemmas.List.{length-map}
use Rattle.doc.specs.Mapping.{MappingData}
use Rattle.op.specs.declared.record.Record.{Record}
use Rattle.replica.specs.declared.fault.CopyFault.{CopyFault}
use Rattle.replica.specs.declared.fault.CopyFault.TheVariants.{NotPrimary, VersionConflict, WindowFull, OldTerm, NotSynced, BeyondWindow, Mismatch, Closed, Log, NoMemory, WrongAddress, Exhausted}
use Rattle.replica.specs.declared.input.Input.{Input}
use Rattle.replica.specs.declared.input.Input.TheVariants.{Write as Client, Bulk as ClientBulk, Take, Report as Reporting, Refresh as Refreshing, Get as Getting, Restart as Restarting}
use Rattle.replica.specs.declared.output.Answer.TheVariants.{Point}
use Rattle.replica.specs.declared.output.Output.{Output}
use Rattle.replica.specs.Copy.{Copy, opened, restarted}
use Rattle.replica.specs.Logged.{is_restart}
use Rattle.replica.specs.Step.{Step, copy_step, torn}
use Rattle.replica.proofs.Settled.{settled_opened}
use Rattle.master.specs.declared.fault.MasterFault.{MasterFault}
use Rattle.master.specs.declared.fault.MasterFault.TheVariants.{OldTerm as OldTermOfMaster, NotInSync, IsPrimary, Gone, Log as LogOfMaster, NoMemory as NoMemoryOfMaster, Full}
use Rattle.master.specs.declared.state.State.{State}
use Rattle.master.specs.declared.state.Request.{Request}
use Rattle.master.specs.declared.state.Decision.{Decision}
use Rattle.world.specs.declared.event.Event.{Event}
use Rattle.journal.specs.declared.journal.Deed.{Deed}
use Rattle.journal.specs.declared.journal.Ruling.{Ruling}
use Rattle.journal.specs.declared.moves.Move.{Move}
use Rattle.journal.specs.declared.moves.Placed.{Placed}
use Rattle.world.specs.World.{copy_in, new_world, world_of}
use Rattle.journal.specs.Journal.{Standing, Shut, open_at, left_by, reopened, keeps_record, is_kept, found, MayAnswer, answered, next, IsLegal, moves_at, torn_move, moves, after}
use Rattle.journal.specs.Rulings.{Ruler, MayRule, ruled_at, next_ruler, AreLegal, rulings_at, rulings, ruler_after}
use Rattle.journal.specs.declared.journal.Journal.{Journal}
use Rattle.journal.specs.declared.journal.Journal.TheVariants.{OfMaster as of_master, OfCopy as of_copy}
use Rattle.audit.specs.Audit.{placed_of, moves_of, IsMadeOf}
use Rattle.journal.specs.Lawful.{begins_open}
use Rattle.audit.proofs.StepIds.{Same, step-same}
use Rattle.audit.proofs.Nodes.{copy_if, copy_now, after_one, after_moves, copy_after, master_after}
use Rattle.audit.proofs.Merging.{begins, leads_agree}

-- ---- moves in order

module _ {S : Type 0} (f : S → Move → S) where
  unfoldable pub run : S → List Placed → S
  run s [] = s
  run s (p ∷ ps) = run (f s p.what) ps

  pub run_append : (s : S) (ps qs : List Placed) → run s (ps ++ qs) ≡ run (run s ps) qs
  unfolding run
  run_append s [] qs = refl
  run_append s (p ∷ ps) qs = run_append (f s p.what) ps qs

  pub from_first : (s : S) (m : Move) (ms : List Move) (k : ℕ) → after_moves f s (m ∷ ms) (suc k) ≡ after_moves f (f s m) ms k
  from_first s m ms zero = refl
  from_first s m ms (suc k) = ap (λ (x : S). after_one f x (slice_get ms k)) (from_first s m ms k)

  all_run : (s : S) (ps : List Placed) → after_moves f s (map (λ p. p.what) ps) (length ps) ≡ run s ps
  unfolding run
  all_run s [] = refl
  all_run s (p ∷ ps) = from_first s p.what (map (λ p. p.what) ps) (length ps) ∙ all_run (f s p.what) ps

-- ---- a copy

-- what a closed copy's journal knows of the step that failed
abbrev pub IsGood : Copy → Option Shut → Type 0
IsGood c None = Unit {0}
IsGood c (Some f) = (f.other ≡ (left_by c (copy_step c f.input)).records) × ((is_restart f.input || keeps_record c (copy_step c f.input)) ≡ true)

abbrev Fits : Copy → List Placed → Standing → Type 0
Fits c ps s = (run copy_after c ps ≡ s.copy) × IsGood s.copy s.shut

refused : (c : Copy) (place : ℕ) (input : Input) (e : CopyFault) → MayAnswer c None input (Err e) → Fits c (moves_at c None place input (Err e)) (answered c None place input (Err e))
unfolding run
refused c place input (Log f) may = (refl, (refl, may))
refused c place input NoMemory may = (refl, tt)
refused c place input Closed may = (refl, tt)
refused c place input WrongAddress may = (refl, tt)
refused c place input NotPrimary may = (rw may refl, tt)
refused c place input VersionConflict may = (rw may refl, tt)
refused c place input WindowFull may = (rw may refl, tt)
refused c place input OldTerm may = (rw may refl, tt)
refused c place input NotSynced may = (rw may refl, tt)
refused c place input BeyondWindow may = (rw may refl, tt)
refused c place input Mismatch may = (rw may refl, tt)
refused c place input Exhausted may = (rw may refl, tt)

pub restarts : (c : Copy) → left_by c (copy_step c Restarting) ≡ restarted c
restarts c = ap (left_by c) (settled_opened c.id c.birth c.mapping c.records (Point (length c.records)))

torn_keeps : (c : Copy) (r : Step) → Same c r → keeps_record c r ≡ true → torn c r true ≡ reopened c (left_by c r).records
torn_keeps c (Ok s) same keeps = λ t. opened (same.0 t) (same.1 t) (same.2 t) s.copy.records
torn_keeps c (Err e) same keeps = absurd cc

cut : (c : Copy) (r : Step) → torn c r false ≡ restarted c
cut c (Ok s) = refl
cut c (Err e) = refl

-- a step that failed, with the restart after it, leaves the copy that the journal says
pub reopens : (c : Copy) (input : Input) (other : List Record) (kept : Bool) → other ≡ (left_by c (copy_step c input)).records → (is_restart input || keeps_record c (copy_step c input)) ≡ true →
    copy_after c (torn_move (is_restart input) input kept) ≡ reopened c (if kept then other else c.records)
reopens c Restarting other true is keeps = restarts c ∙ ap (λ (rs : List Record). reopened c rs) (sym (is ∙ ap (λ (d : Copy). d.records) (restarts c)))
reopens c Restarting other false is keeps = restarts c
reopens c (Client v) other true is keeps = torn_keeps c (copy_step c (Client v)) (step-same c (Client v)) keeps ∙ ap (reopened c) (sym is)
reopens c (Client v) other false is keeps = cut c (copy_step c (Client v))
reopens c (ClientBulk vs) other true is keeps = torn_keeps c (copy_step c (ClientBulk vs)) (step-same c (ClientBulk vs)) keeps ∙ ap (reopened c) (sym is)
reopens c (ClientBulk vs) other false is keeps = cut c (copy_step c (ClientBulk vs))
reopens c (Take m) other true is keeps = torn_keeps c (copy_step c (Take m)) (step-same c (Take m)) keeps ∙ ap (reopened c) (sym is)
reopens c (Take m) other false is keeps = cut c (copy_step c (Take m))
reopens c (Reporting r) other true is keeps = torn_keeps c (copy_step c (Reporting r)) (step-same c (Reporting r)) keeps ∙ ap (reopened c) (sym is)
reopens c (Reporting r) other false is keeps = cut c (copy_step c (Reporting r))
reopens c Refreshing other true is keeps = torn_keeps c (copy_step c Refreshing) (step-same c Refreshing) keeps ∙ ap (reopened c) (sym is)
reopens c Refreshing other false is keeps = cut c (copy_step c Refreshing)
reopens c (Getting id) other true is keeps = torn_keeps c (copy_step c (Getting id)) (step-same c (Getting id)) keeps ∙ ap (reopened c) (sym is)
reopens c (Getting id) other false is keeps = cut c (copy_step c (Getting id))

pub one : (c : Copy) (shut : Option Shut) (place : ℕ) (input : Input) (answer : Result Output CopyFault) → IsGood c shut → MayAnswer c shut input answer → Fits c (moves_at c shut place input answer) (answered c shut place input answer)
unfolding run
one c None place input (Ok output) good may = (refl, tt)
one c None place input (Err e) good may = refused c place input e may
one c (Some f) place input (Ok output) good may = (by_kept (is_kept c f output), tt)
  where
    by_kept : (kept : Bool) → copy_after c (torn_move (is_restart f.input) f.input kept) ≡ reopened c (found c f kept)
    by_kept true = reopens c f.input f.other true good.0 good.1
    by_kept false = reopens c f.input f.other false good.0 good.1
one c (Some f) place input (Err e) good may = (refl, good)

pub runs : (s : Standing) (place : ℕ) (ds : List Deed) → IsGood s.copy s.shut → IsLegal s place ds → run copy_after s.copy (moves s place ds) ≡ (after s place ds).copy
unfolding run
runs s place [] good legal = refl
runs s place (d ∷ ds) good legal =
    let first = one s.copy s.shut place d.input d.answer good legal.0 in
    run_append copy_after s.copy (moves_at s.copy s.shut place d.input d.answer) (moves (next s place d) (suc place) ds)
    ∙ ap (λ (c : Copy). run copy_after c (moves (next s place d) (suc place) ds)) first.0
    ∙ runs (next s place d) (suc place) ds first.1 legal.1

-- ---- the master

abbrev RulerFits : State → List Placed → Ruler → Type 0
RulerFits s ps r = run master_after s ps ≡ r.state

denied : (s : State) (place : ℕ) (request : Request) (e : MasterFault) → MayRule s false request (Err e) → RulerFits s (rulings_at false place request (Err e)) (ruled_at s false request (Err e))
unfolding run
denied s place request (LogOfMaster f) may = refl
denied s place request NoMemoryOfMaster may = refl
denied s place request OldTermOfMaster may = rw may refl
denied s place request NotInSync may = rw may refl
denied s place request IsPrimary may = rw may refl
denied s place request Gone may = rw may refl
denied s place request Full may = rw may refl

one_ruling : (s : State) (closed : Bool) (place : ℕ) (request : Request) (answer : Result Decision MasterFault) → MayRule s closed request answer → RulerFits s (rulings_at closed place request answer) (ruled_at s closed request answer)
unfolding run
one_ruling s false place request (Ok d) may = refl
one_ruling s false place request (Err e) may = denied s place request e may
one_ruling s true place request answer may = refl

ruler_runs : (s : Ruler) (place : ℕ) (rs : List Ruling) → AreLegal s rs → run master_after s.state (rulings s place rs) ≡ (ruler_after s rs).state
unfolding run
ruler_runs s place [] legal = refl
ruler_runs s place (r ∷ rs) legal =
    run_append master_after s.state (rulings_at s.closed place r.request r.answer) (rulings (next_ruler s r) (suc place) rs)
    ∙ ap (λ (x : State). run master_after x (rulings (next_ruler s r) (suc place) rs)) (one_ruling s.state s.closed place r.request r.answer legal.0)
    ∙ ruler_runs (next_ruler s r) (suc place) rs legal.1

-- ---- the world

module _ (mapping : MappingData) (n : ℕ) (js : List Journal) (es : List Event) (made : IsMadeOf mapping n js es) where
  some_is : (a b : Copy) → Some a ≡ Some b → a ≡ b
  some_is a b e = cc

  if_some : (b : Bool) (i k : ℕ) (x : Copy) → copy_if mapping n (moves_of js) b i k ≡ Some x → copy_now mapping n (moves_of js) i k ≡ x
  if_some true i k x e = some_is _ x e
  if_some false i k x e = absurd cc

  -- each copy that is there is what its journal says
  pub copies_are : (i : ℕ) (c : Copy) (ds : List Deed) (x : Copy) → slice_get js (suc i) ≡ Some (of_copy c ds) → copy_in (world_of mapping n es).copies (suc i) ≡ Some x → x ≡ (after (open_at c) 0 ds).copy
  copies_are i c ds x there is =
      let end = leads_agree mapping n (moves_of js) es (new_world mapping n) (λ j. 0) (λ j. length (moves_of js j)) (begins mapping n (moves_of js) made.size.0) made.made in
      let pass = made.pass (suc i) (of_copy c ds) there in
      let ps = moves (open_at c) 0 ds in
      let born_is = sym pass.0 in
      let mine : moves_of js (suc i) ≡ map (λ p. p.what) ps = ap (λ (o : Option Journal). map (λ p. p.what) (placed_of o)) there in
      let count : end.0 (suc i) ≡ length ps = end.2 (suc i) ∙ ap (λ (ms : List Move). length ms) mine ∙ length-map ps (λ p. p.what) in
      sym (if_some _ (suc i) (end.0 (suc i)) x (sym (end.1.copies (suc i)) ∙ is))
      ∙ (λ t. after_moves copy_after (born_is t) (mine t) (count t))
      ∙ all_run copy_after c ps
      ∙ runs (open_at c) 0 ds tt pass.1

  -- the master is what its journal says
  pub master_is : (s : State) (rs : List Ruling) → slice_get js 0 ≡ Some (of_master s rs) → (world_of mapping n es).master ≡ (ruler_after (begins_open s) rs).state
  master_is s rs there =
      let end = leads_agree mapping n (moves_of js) es (new_world mapping n) (λ j. 0) (λ j. length (moves_of js j)) (begins mapping n (moves_of js) made.size.0) made.made in
      let pass = made.pass 0 (of_master s rs) there in
      let ps = rulings (begins_open s) 0 rs in
      let born_is = sym pass.0 in
      let mine : moves_of js 0 ≡ map (λ p. p.what) ps = ap (λ (o : Option Journal). map (λ p. p.what) (placed_of o)) there in
      let count : end.0 0 ≡ length ps = end.2 0 ∙ ap (λ (ms : List Move). length ms) mine ∙ length-map ps (λ p. p.what) in
      end.1.master
      ∙ (λ t. after_moves master_after (born_is t) (mine t) (count t))
      ∙ all_run master_after s ps
      ∙ ruler_runs (begins_open s) 0 rs pass.1
