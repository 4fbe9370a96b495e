-- The rows of the audit, computed.
use Rattle.std.proofs.Common.{get_or, Ok, Err, ◌≡◌, ℕ, zero, suc, ◌<◌, List, [], ◌∷◌, Some, refl, sym, ap, subst, false, inl, inr, arith}
use Rattle.std.specs.Prelude.{◌==◌, length}
use Rattle.std.proofs.lemmas.Bool.Decides.{nat_tests}
use Rattle.op.specs.declared.operation.Body.{Body}
use Rattle.op.specs.declared.operation.Body.TheVariants.{Index as Indexed, Delete as Deleted, NoOp}
use Rattle.op.specs.declared.message.Content.{Content}
use Rattle.op.specs.declared.message.Content.TheVariants.{Op as Operation}
use Rattle.op.specs.declared.message.Msg.{Msg}
use Rattle.replica.specs.declared.input.Input.TheVariants.{Take}
use Rattle.replica.specs.declared.output.Answer.{Answer}
use Rattle.replica.specs.declared.output.Answer.TheVariants.{Taken, Repeated, Missing}
use Rattle.replica.specs.declared.input.Input.{Input}
use Rattle.replica.specs.Copy.{begun}
use Rattle.replica.specs.Step.{Step, unless}
use Rattle.journal.specs.Journal.{open_at, IsLegalAt}
use Rattle.world.specs.Lines.{a, n1, n2, put}
use Rattle.world.specs.World.{new_world, world_of, message_at}
use Rattle.world.specs.declared.event.Event.TheVariants.{Deliver}
use Rattle.journal.specs.declared.moves.Move.{Move}
use Rattle.journal.specs.declared.moves.Move.TheVariants.{Does as does}
use Rattle.audit.specs.Moves.{Moves, Counts, more, CanGo, IsMade, IsStuck}
use Rattle.journal.specs.declared.journal.Journal.{Journal}
use Rattle.journal.specs.declared.journal.Journal.TheVariants.{OfMaster as of_master}
use Rattle.audit.specs.Audit.{IsOpening, IsSize, Pass, PassBelow, moves_of}
use Rattle.journal.specs.Lawful.{IsLawful}
use Rattle.audit.specs.Rows.{empty, journals, writes, hears, takes, op_message, ack_message, Row_audit}

size : IsSize 2
size = (omega arith, omega arith)

at_some : (P : Journal → Type 0) (x j : Journal) → P x → Some x ≡ Some j → P j
at_some P x j p e = let same : x ≡ j = cc in subst P same p

abbrev Passes : ℕ → Journal → Type 0
Passes i j = IsOpening empty 2 i j × IsLawful j

passes : Pass empty 2 (journals (writes ∷ hears ∷ []) n1 Taken)
unfolding unless
passes zero j e = at_some (Passes 0) _ j (refl, tt) e
passes (suc zero) j e = at_some (Passes 1) _ j (refl, ((refl, refl), ((refl, refl), tt))) e
passes (suc (suc zero)) j e = at_some (Passes 2) _ j (refl, ((refl, refl), tt)) e
passes (suc (suc (suc i))) j e = absurd cc

passes_shorter : Pass empty 2 (journals (writes ∷ []) n1 Taken)
unfolding unless
passes_shorter zero j e = at_some (Passes 0) _ j (refl, tt) e
passes_shorter (suc zero) j e = at_some (Passes 1) _ j (refl, ((refl, refl), tt)) e
passes_shorter (suc (suc zero)) j e = at_some (Passes 2) _ j (refl, ((refl, refl), tt)) e
passes_shorter (suc (suc (suc i))) j e = absurd cc

passes_other : Pass empty 2 (journals (writes ∷ hears ∷ []) n2 Taken)
unfolding unless
passes_other zero j e = at_some (Passes 0) _ j (refl, tt) e
passes_other (suc zero) j e = at_some (Passes 1) _ j (refl, ((refl, refl), ((refl, refl), tt))) e
passes_other (suc (suc zero)) j e = at_some (Passes 2) _ j (refl, ((refl, refl), tt)) e
passes_other (suc (suc (suc i))) j e = absurd cc

passes_alone : Pass empty 2 (of_master (new_world empty 2).master [] ∷ [])
passes_alone zero j e = at_some (Passes 0) _ j (refl, tt) e
passes_alone (suc i) j e = absurd cc

abbrev writing : Input
writing = writes.input

-- counts of moves: none, and those of the nodes in this order
abbrev none_yet : Counts
none_yet i = 0

abbrev whole : Moves
whole = moves_of (journals (writes ∷ hears ∷ []) n1 Taken)

abbrev shorter : Moves
shorter = moves_of (journals (writes ∷ []) n1 Taken)

abbrev other : Moves
other = moves_of (journals (writes ∷ hears ∷ []) n2 Taken)

ends : (i : ℕ) → more (more (more none_yet 1) 2) 1 i ≡ length (whole i)
ends zero = refl
ends (suc zero) = refl
ends (suc (suc zero)) = refl
ends (suc (suc (suc i))) = let one : (1 == suc (suc (suc i))) ≡ false = grind (arith, nat_tests) in let two : (2 == suc (suc (suc i))) ≡ false = grind (arith, nat_tests) in rw (one, two) refl

ends_shorter : (i : ℕ) → more (more none_yet 1) 2 i ≡ length (shorter i)
ends_shorter zero = refl
ends_shorter (suc zero) = refl
ends_shorter (suc (suc zero)) = refl
ends_shorter (suc (suc (suc i))) = let one : (1 == suc (suc (suc i))) ≡ false = grind (arith, nat_tests) in let two : (2 == suc (suc (suc i))) ≡ false = grind (arith, nat_tests) in rw (one, two) refl

made : IsMade empty 2 whole (put 1 a n1 ∷ Deliver 1 ∷ Deliver 2 ∷ [])
unfolding unless
made = (1, 0, does writing, (refl, ((refl, refl), tt)), refl, (2, 1, does (Take (op_message n1)), (refl, ((refl, refl), (refl, refl))), refl, (1, 2, does (Take ack_message), (refl, ((refl, refl), (refl, refl))), refl, ends)))

made_shorter : IsMade empty 2 shorter (put 1 a n1 ∷ Deliver 1 ∷ [])
unfolding unless
made_shorter = (1, 0, does writing, (refl, ((refl, refl), tt)), refl, (2, 1, does (Take (op_message n1)), (refl, ((refl, refl), (refl, refl))), refl, ends_shorter))

-- the world in which the operation is sent, and nothing else
one_message : (k : ℕ) (m : Msg) → message_at (world_of empty 2 (put 1 a n1 ∷ [])) k ≡ Some m → op_message n1 ≡ m
unfolding unless
one_message zero m e = absurd cc
one_message (suc zero) m e = cc
one_message (suc (suc k)) m e = absurd cc

not_ack : op_message n1 ≡ ack_message → ⊥
not_ack e = let to : ◌≡◌ {A = ℕ} 2 1 = ap (λ (x : Msg). x.to) e in absurd (omega arith)

abbrev body_byte : Body → ℕ
body_byte (Indexed id source) = get_or source 5 0
body_byte (Deleted id) = 0
body_byte NoOp = 0

abbrev content_byte : Content → ℕ
content_byte (Operation g o) = body_byte o.body
content_byte _ = 0

not_other : op_message n1 ≡ op_message n2 → ⊥
not_other e = let is : ◌≡◌ {A = ℕ} 49 50 = ap (λ (x : Msg). content_byte x.content) e in absurd (omega arith)

stuck : IsStuck other (world_of empty 2 (put 1 a n1 ∷ [])) (more none_yet 1)
stuck zero k m next = let e = next.0 in absurd cc
stuck (suc zero) k m next = hears_nothing m next.0 next.1
  where
    hears_nothing : (m : Move) → Some (does (Take ack_message)) ≡ Some m → CanGo (world_of empty 2 (put 1 a n1 ∷ [])) 1 k m → ⊥
    hears_nothing m e can =
        let same : does (Take ack_message) ≡ m = cc in
        let can' = subst (CanGo (world_of empty 2 (put 1 a n1 ∷ [])) 1 k) (sym same) can in
        not_ack (one_message k ack_message can'.1.0)
stuck (suc (suc zero)) k m next = hears_other m next.0 next.1
  where
    hears_other : (m : Move) → Some (does (Take (op_message n2))) ≡ Some m → CanGo (world_of empty 2 (put 1 a n1 ∷ [])) 2 k m → ⊥
    hears_other m e can =
        let same : does (Take (op_message n2)) ≡ m = cc in
        let can' = subst (CanGo (world_of empty 2 (put 1 a n1 ∷ [])) 2 k) (sym same) can in
        not_other (one_message k (op_message n2) can'.1.0)
stuck (suc (suc (suc i))) k m next = let e = next.0 in absurd cc

least : (j : ℕ) → j < 1 → more none_yet 1 j ≡ length (other j)
least zero lt = refl
least (suc j) lt = absurd (omega arith)

below : (source : List ℕ) → PassBelow empty 2 (journals (writes ∷ hears ∷ []) source Repeated) 2
unfolding unless
below source zero j lt e = at_some (Passes 0) _ j (refl, tt) e
below source (suc zero) j lt e = at_some (Passes 1) _ j (refl, ((refl, refl), ((refl, refl), tt))) e
below source (suc (suc i)) j lt e = absurd (omega arith)

abbrev answer_of : Step → Answer
answer_of (Ok s) = s.answer
answer_of (Err e) = Missing

not_taken : Taken ≡ Repeated → ⊥
not_taken e = absurd cc

not_repeated : IsLegalAt (open_at (begun 2 2 empty)) (takes n1 Repeated) → ⊥
unfolding unless
not_repeated legal = not_taken (ap answer_of legal.0)

not_repeated_other : IsLegalAt (open_at (begun 2 2 empty)) (takes n2 Repeated) → ⊥
unfolding unless
not_repeated_other legal = not_taken (ap answer_of legal.0)

pub row_audit : Row_audit
unfolding unless
row_audit = record {
  whole = record { size = size; pass = passes; all = omega arith; made = made };
  acknowledged = refl;
  shorter = record { size = size; pass = passes_shorter; all = omega arith; made = made_shorter };
  none = refl;
  uncaused = record {
    copies = 2;
    size = size;
    pass = passes_other;
    all = omega arith;
    count = 1;
    halted = record { events = put 1 a n1 ∷ []; counts = more none_yet 1; leads = (1, 0, does writing, (refl, ((refl, refl), tt)), refl, (λ i. refl)); stuck = stuck; place = refl; unfinished = omega arith; least = least };
    move = _;
    there = refl;
    at = refl;
  };
  differs = record { journal = _; there = refl; copies = 2; below = below n1; wrong = inr (size, refl, inl (refl, not_repeated)) };
  missing = record { copies = 2; size = size; pass = passes_alone; lacking = λ all. absurd (omega (arith, all)); next = refl; at = refl };
  both = record { journal = _; there = refl; copies = 2; below = below n2; wrong = inr (size, refl, inl (refl, not_repeated_other)) };
}
