-- Merges at the copies of a world.
use Rattle.std.proofs.lemmas.Bool.Decides.{nat_tests}
use Rattle.std.proofs.Common.{◌≡◌, ◌<◌, arith, length, subst, ℕ, zero, suc, ◌==◌, Bool, true, false, List, [], ◌∷◌, set, get_or, Option, Some, None, refl, sym, ap, ◌∙◌, if◌then◌else◌}
use Rattle.std.specs.Prelude.{◌≤◌, option_map, IfSome}
use Rattle.engine.specs.Published.{MergeData, mergeable_count}
use Rattle.replica.specs.Copy.{Copy}
use Rattle.replica.specs.Logged.{Logged, searched}
use Rattle.replica.specs.Searched.{Searched, HasMergedNext, IsSwapOf}
use Rattle.world.specs.Nodes.{copies_of, merge_of, node_in, nodes_of, with_node, AreOpen, HasFewSegments, HasMergedAt, IsSwapAt}
use Rattle.world.specs.World.{copy_in}
use Rattle.world.proofs.Places.{IsFirst, first_is, open_at, open_put}

pub node_found : (ls : List Logged) (id i : ℕ) (d : Logged) → IsFirst ls id i → node_in (nodes_of ls) id ≡ Some (searched (get_or ls i d))
node_found [] id i d h = absurd h
node_found (l ∷ ls) id zero d h = rw h refl
node_found (l ∷ ls) id (suc i) d h = rw h.0 (node_found ls id i d h.1)

pub node_put : (ls : List Logged) (id i : ℕ) (new : Logged) → IsFirst ls id i → new.copy.id ≡ id → nodes_of (set ls i new) ≡ with_node (nodes_of ls) (searched new)
node_put [] id i new h same = absurd h
node_put (l ∷ ls) id zero new h same = rw (same, h) refl
node_put (l ∷ ls) id (suc i) new h same =
    let other : (l.copy.id == new.copy.id) ≡ false = rw same h.0 in
    rw other (ap (λ (ns : List Searched). searched l ∷ ns) (node_put ls id i new h.1 same))

-- it is there where its copy is
both : (b : Bool) (l : Logged) (o : Option Copy) (p : Option Searched) → o ≡ option_map (λ (s : Searched). s.copy) p → (if b then Some l.copy else o) ≡ option_map (λ (s : Searched). s.copy) (if b then Some (searched l) else p)
both true l o p same = refl
both false l o p same = same

same_in : (ls : List Logged) (id : ℕ) → copy_in (copies_of ls) id ≡ option_map (λ (s : Searched). s.copy) (node_in (nodes_of ls) id)
same_in [] id = refl
same_in (l ∷ ls) id = both (l.copy.id == id) l (copy_in (copies_of ls) id) (node_in (nodes_of ls) id) (same_in ls id)

none_of : (o : Option Searched) → option_map (λ (s : Searched). s.copy) o ≡ None → o ≡ None
none_of None none = refl
none_of (Some s) none = absurd cc

pub no_node : (ls : List Logged) (id : ℕ) → copy_in (copies_of ls) id ≡ None → node_in (nodes_of ls) id ≡ None
no_node ls id none = none_of (node_in (nodes_of ls) id) (sym (same_in ls id) ∙ none)

-- a merge that begins at a copy
pub begun_at : (l : Logged) (m : MergeData) (o : Option Searched) → Some (searched l) ≡ o → m ≡ merge_of (searched l) → Some m ≡ option_map merge_of o
begun_at l m o found is = ap (λ (x : MergeData). let p : Option MergeData = Some x in p) is ∙ ap (option_map merge_of) found

pub none_begun : (o : Option Searched) → None ≡ o → None ≡ option_map merge_of o
none_begun o none = ap (option_map merge_of) none

named : (ls : List Logged) (id i : ℕ) (old : Logged) → IsFirst ls id i → old ≡ get_or ls i old → old.copy.id ≡ id
named ls id i old first is =
    let n : ((get_or ls i old).copy.id == id) ≡ true = first_is ls id i old first in
    let e : (get_or ls i old).copy.id ≡ id = grind (arith, nat_tests) in
    ap (λ (l : Logged). l.copy.id) is ∙ e

-- a merge that is put in place there
pub swapped_at : (ls : List Logged) (id i : ℕ) (old new : Logged) (m : MergeData) (b : Bool) → IsFirst ls id i → old ≡ get_or ls i old → new.copy ≡ old.copy → IsSwapOf m (searched old) (searched new) b
    → IsSwapAt id m (nodes_of ls) (nodes_of (set ls i new)) b
swapped_at ls id i old new m b first is copy swap = record {
  at = searched old;
  after = searched new;
  found = node_found ls id i old first ∙ ap (λ (l : Logged). let o : Option Searched = Some (searched l) in o) (sym is);
  swapped = swap;
  left = node_put ls id i new first (ap (λ (c : Copy). c.id) copy ∙ named ls id i old first is);
}

-- a merge that is made at once there
pub merged_at : (ls : List Logged) (id i : ℕ) (old new : Logged) → IsFirst ls id i → old ≡ get_or ls i old → new.copy ≡ old.copy → HasMergedNext (searched old) (searched new)
    → HasMergedAt id (nodes_of ls) (nodes_of (set ls i new))
merged_at ls id i old new first is copy merged = record {
  at = searched old;
  after = searched new;
  found = node_found ls id i old first ∙ ap (λ (l : Logged). let o : Option Searched = Some (searched l) in o) (sym is);
  merged = merged;
  left = node_put ls id i new first (ap (λ (c : Copy). c.id) copy ∙ named ls id i old first is);
}

-- there are few at it
pub few_at : (ls : List Logged) (id i : ℕ) (old : Logged) → IsFirst ls id i → old ≡ get_or ls i old → mergeable_count old.segments.published ≤ 16 → HasFewSegments id (nodes_of ls)
few_at ls id i old first is few =
    subst (λ (o : Option Searched). IfSome o (λ s. mergeable_count s.segments.published ≤ 16)) (sym (node_found ls id i old first ∙ ap (λ (l : Logged). let o : Option Searched = Some (searched l) in o) (sym is))) few

-- there is none with the id
pub few_of_none : (ss : List Searched) (id : ℕ) → node_in ss id ≡ None → HasFewSegments id ss
few_of_none ss id none = subst (λ (o : Option Searched). IfSome o (λ s. mergeable_count s.segments.published ≤ 16)) (sym none) tt

-- where nothing is put in place the copies are as they were
pub kept_nodes : (ls : List Logged) (id i : ℕ) (new : Logged) → IsFirst ls id i → new ≡ get_or ls i new → nodes_of (set ls i new) ≡ nodes_of ls
kept_nodes [] id i new h same = absurd h
kept_nodes (l ∷ ls) id zero new h same = ap (λ (x : Logged). searched x ∷ nodes_of ls) same
kept_nodes (l ∷ ls) id (suc i) new h same = ap (λ (ns : List Searched). searched l ∷ ns) (kept_nodes ls id i new h.1 same)

pub same_nodes : (ls : List Logged) (id i : ℕ) (old new : Logged) → IsFirst ls id i → old ≡ get_or ls i old → new ≡ old → nodes_of (set ls i new) ≡ nodes_of ls
same_nodes ls id i old new h is same = kept_nodes ls id i new h (subst (λ (x : Logged). x ≡ get_or ls i x) (sym same) is)

-- logs stay open
pub still_open : (ls : List Logged) (i : ℕ) (old new : Logged) → AreOpen ls → i < length ls → old ≡ get_or ls i old → new ≡ record old { segments = new.segments } → AreOpen (set ls i new)
still_open ls i old new are within is rest = open_put ls i new are (ap (λ (l : Logged). l.closed) rest ∙ (ap (λ (l : Logged). l.closed) is ∙ open_at ls i old are within))
