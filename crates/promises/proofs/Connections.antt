-- What one connection is told.
use Rattle.std.proofs.Common.{◌≡◌, ℕ, List, [], ◌∷◌, ◌++◌, Option, Some, None, ap, subst}
use Rattle.std.specs.List.{flat_map}
use Rattle.doc.specs.Mapping.{MappingData}
use Rattle.wire.specs.Requests.{Standing}
use Rattle.clients.specs.Conversation.{Told}
use Rattle.front.specs.Calls.{Calls}
use Rattle.front.specs.Command.{Command}
use Rattle.front.specs.Reply.{Reply}
use Rattle.front.specs.Rule.{Rule, AnsweredBy}
use Rattle.shard.specs.History.{Stand, IsTold}
use Rattle.promises.specs.Promises.{GoesOnAlong, commands_of}

-- calls, and then more
calls_on : {S : Type 0} (answers : S → Command → Reply → S → Type 0) (s m t : S) (cs ds : List Command) (rs qs : List Reply) → Calls answers s cs rs m → Calls answers m ds qs t → Calls answers s (cs ++ ds) (rs ++ qs) t
calls_on answers s m t [] ds [] qs one two = subst (λ x. Calls answers x ds qs t) one two
calls_on answers s m t [] ds (r ∷ rs) qs one two = absurd one
calls_on answers s m t (c ∷ cs) ds [] qs one two = absurd one
calls_on answers s m t (c ∷ cs) ds (r ∷ rs) qs one two = (one.0, one.1, calls_on answers one.0 m t cs ds rs qs one.2 two)

module _ {S : Type 0} (answers : S → Command → Reply → S → Type 0) (knows : S → List Stand) (is_told : (s : S) (c : Command) (r : Reply) (t : S) → answers s c r t → IsTold (knows s) c r (knows t)) where
  told_calls : (s t : S) (cs : List Command) (rs : List Reply) → Calls answers s cs rs t → Calls IsTold (knows s) cs rs (knows t)
  told_calls s t [] [] h = ap knows h
  told_calls s t [] (r ∷ rs) h = absurd h
  told_calls s t (c ∷ cs) [] h = absurd h
  told_calls s t (c ∷ cs) (r ∷ rs) h = (knows h.0, is_told s c r h.0 h.1, told_calls h.0 t cs rs h.2)

  module _ (rule : Rule) (index : List ℕ) (mapping : MappingData) where
    abbrev Along : List Stand → List Standing → List Stand → Type 0
    Along first qs last = (replies : List Reply) × Calls IsTold first (flat_map (commands_of rule index mapping) qs) replies last

    one_request : (q : Standing) (s t : S) (out : List ℕ) → AnsweredBy rule answers index mapping q s out t → (replies : List Reply) × Calls IsTold (knows s) (commands_of rule index mapping q) replies (knows t)
    one_request q s t out h = (h.answered.replies, told_calls s t (commands_of rule index mapping q) h.answered.replies h.answered.called)

    same_last : (k l : List Stand) → (let o : Option (List Stand) = Some l in o) ≡ Some k → l ≡ k
    same_last k l e = cc

    from_some : (k : List Stand) (qs : List Standing) (out : List ℕ) (last : List Stand) → Told rule answers knows index mapping (Some k) qs out (Some last) → Along k qs last
    from_some k [] out last h = ([], same_last k last h.1)
    from_some k (q ∷ qs) out last h =
        let one = one_request q h.0 h.1 h.2 h.5 in
        let more = from_some (knows h.1) qs h.3 last h.6 in
        (one.0 ++ more.0, calls_on IsTold k (knows h.1) last (commands_of rule index mapping q) (flat_map (commands_of rule index mapping) qs) one.0 more.0 (subst (λ x. Calls IsTold x (commands_of rule index mapping q) one.0 (knows h.1)) h.4 one.1) more.1)

    from_none : (qs : List Standing) (out : List ℕ) (last : List Stand) → Told rule answers knows index mapping None qs out (Some last) → (first : List Stand) × (replies : List Reply) × Calls IsTold first (flat_map (commands_of rule index mapping) qs) replies last
    from_none [] out last h = absurd (let no = h.1 in cc)
    from_none (q ∷ qs) out last h =
        let one = one_request q h.0 h.1 h.2 h.5 in
        let more = from_some (knows h.1) qs h.3 last h.6 in
        (knows h.0, one.0 ++ more.0, calls_on IsTold (knows h.0) (knows h.1) last (commands_of rule index mapping q) (flat_map (commands_of rule index mapping) qs) one.0 more.0 one.1 more.1)

pub goes_on : {S : Type 0} (answers : S → Command → Reply → S → Type 0) (knows : S → List Stand) → GoesOnAlong answers knows
goes_on answers knows is_told rule index mapping qs out last told = from_none answers knows is_told rule index mapping qs out last told
