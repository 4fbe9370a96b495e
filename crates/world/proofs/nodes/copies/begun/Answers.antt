use Rattle.std.proofs.Common.{◌≡◌, ◌+◌, ◌++◌, ◌∷◌, ℕ, suc, List, [], false, map, sym, ap, ◌∙◌, add-one}
use Rattle.std.proofs.lemmas.List.{map-append}
use Rattle.doc.specs.Mapping.{MappingData}
use Rattle.op.specs.Ids.{ids_up_to}
use Rattle.replica.specs.Copy.{Copy, begun}
use Rattle.replica.specs.Logged.{Logged}
use Rattle.world.specs.Nodes.{copies_of, AreOpen}
use Rattle.world.proofs.nodes.copies.begun.Goals as goal

next_copies : (f : ℕ → Copy) (ls : List Logged) (l : Logged) (n : ℕ) → copies_of ls ≡ map f (ids_up_to n) → l.copy ≡ f (suc n) → copies_of (ls ++ l ∷ []) ≡ map f (ids_up_to (suc n))
next_copies f ls l n same one = map-append (λ (x : Logged). x.copy) ls (l ∷ []) ∙ ap (λ (cs : List Copy). cs ++ l.copy ∷ []) same ∙ ap (λ (c : Copy). map f (ids_up_to n) ++ c ∷ []) one ∙ sym (map-append f (ids_up_to n) (suc n ∷ []))

next_open : (ls : List Logged) (l : Logged) → AreOpen ls → l.closed ≡ false → AreOpen (ls ++ l ∷ [])
next_open [] l all one = (one, tt)
next_open (x ∷ xs) l all one = (all.0, next_open xs l all.1 one)

pub loop-before-preserved : goal.loop-before-preserved
loop-before-preserved c =
    let n = c.loop-before.before in
    let one : n + 1 ≡ suc n = add-one n in
    let copy : c.in-Ok.copy.copy ≡ begun (n + 1) c.args.copies c.args.mapping.now = c.in-Ok.ensures.copy ∙ ap (λ (m : MappingData). begun (n + 1) c.args.copies m) c.in_ok-equal.ensures in
    let here : c.in-Ok.copy.copy ≡ begun (suc n) c.args.copies c.args.mapping.now = copy ∙ ap (λ (k : ℕ). begun k c.args.copies c.args.mapping.now) one in
    rw (c.in_ok-push-in-Ok.ensures.items, one)
    (next_copies (λ id. begun id c.args.copies c.args.mapping.now) c.loop-before.all.items c.in-Ok.copy n c.loop-before.invariant.0 here, next_open c.loop-before.all.items c.in-Ok.copy c.loop-before.invariant.1 c.in-Ok.ensures.open)
