-- Bits of ids.
use Rattle.std.proofs.Common.{◌≡◌, ◌<◌, ◌≤◌, ◌+◌, ◌*◌, ◌%◌, ◌++◌, ◌∙◌, ℕ, zero, suc, Bool, true, false, List, [], ◌∷◌, length, drop, take, get_or, set, refl, sym, subst, arith}
use Rattle.std.specs.List.{AllByRecursion}
use Rattle.std.proofs.lemmas.List.{at_drop_all, at_drop_more, length-set, take_more}
use Rattle.std.proofs.lemmas.Map.Lookups.{exact_bytes}
use Rattle.std.proofs.lemmas.Map.Views.{tells_apart}
use Rattle.doc.specs.Id.{Id, is_id}
use Rattle.engine.specs.declared.read.block.Shown.{Shown}
use Rattle.engine.specs.IdFilter.{has_bit, hash_from, place_in}

-- a bit stays when one is set
still : (bits : List Bool) (p q : ℕ) → get_or bits q false ≡ true → get_or (set bits p true) q false ≡ true
still [] p q here = here
still (b ∷ bits) zero zero here = refl
still (b ∷ bits) zero (suc q) here = here
still (b ∷ bits) (suc p) zero here = here
still (b ∷ bits) (suc p) (suc q) here = still bits p q here

placed : (bits : List Bool) (p : ℕ) → p < length bits → get_or (set bits p true) p false ≡ true
placed [] p lt = absurd (omega (arith, lt))
placed (b ∷ bits) zero lt = refl
placed (b ∷ bits) (suc p) lt = placed bits p (omega (arith, lt))

pub has-still : (bits new : List Bool) (id other : Id) → new ≡ set bits (place_in (length bits) id) true → has_bit bits other ≡ true → has_bit new other ≡ true
has-still bits new id other is here =
    subst (λ (bs : List Bool). has_bit bs other ≡ true) (sym is)
    (subst (λ n. get_or (set bits (place_in (length bits) id) true) (place_in n other) false ≡ true) (sym (length-set bits (place_in (length bits) id) true)) (still bits (place_in (length bits) id) (place_in (length bits) other) here))

pub has-new : (bits new : List Bool) (id : Id) → place_in (length bits) id < length bits → new ≡ set bits (place_in (length bits) id) true → has_bit new id ≡ true
has-new bits new id lt is =
    subst (λ (bs : List Bool). has_bit bs id ≡ true) (sym is)
    (subst (λ n. get_or (set bits (place_in (length bits) id) true) (place_in n id) false ≡ true) (sym (length-set bits (place_in (length bits) id) true)) (placed bits (place_in (length bits) id) lt))

-- all of these have their bits
abbrev pub HaveBits : List Bool → List Shown → Type 0
HaveBits bits ds = AllByRecursion (λ d. has_bit bits d.id ≡ true) ds

all_still : (bits new : List Bool) (id : Id) → new ≡ set bits (place_in (length bits) id) true → (ds : List Shown) → HaveBits bits ds → HaveBits new ds
all_still bits new id is [] all = tt
all_still bits new id is (d ∷ ds) all = (has-still bits new id d.id is all.0, all_still bits new id is ds all.1)

behind_all : (bits : List Bool) (ds : List Shown) (d : Shown) → HaveBits bits ds → has_bit bits d.id ≡ true → HaveBits bits (ds ++ d ∷ [])
behind_all bits [] d all here = (here, tt)
behind_all bits (e ∷ ds) d all here = (all.0, behind_all bits ds d all.1 here)

-- one document more
pub more-bits : (bits new : List Bool) (ds : List Shown) (i : ℕ) (d : Shown) → i < length ds → d ≡ get_or ds i d → place_in (length bits) d.id < length bits → new ≡ set bits (place_in (length bits) d.id) true
    → HaveBits bits (take i ds) → HaveBits new (take (i + 1) ds)
more-bits bits new ds i d lt here within is all =
    subst (λ (es : List Shown). HaveBits new es) (sym (take_more ds i d lt))
    (behind_all new (take i ds) (get_or ds i d) (all_still bits new d.id is (take i ds) all) (subst (λ (e : Shown). has_bit new e.id ≡ true) here (has-new bits new d.id within is)))

clash : (b : Bool) → b ≡ true → b ≡ false → ⊥
clash b made left = cc

other : (bits : List Bool) (a id : Id) (same : Bool) → is_id a id ≡ same → has_bit bits a ≡ true → has_bit bits id ≡ false → same ≡ false
other bits a id false is here none = refl
other bits a id true is here none = absurd (clash (has_bit bits id) (subst (λ (i : Id). has_bit bits i ≡ true) (tells_apart exact_bytes a id is) here) none)

-- an id whose bit isn't set is none of theirs
pub none-has : (bits : List Bool) (id : Id) → has_bit bits id ≡ false → (ds : List Shown) → HaveBits bits ds → AllByRecursion (λ d. is_id d.id id ≡ false) ds
none-has bits id none [] all = tt
none-has bits id none (d ∷ ds) all = (other bits d.id id (is_id d.id id) refl all.0 none, none-has bits id none ds all.1)

-- one byte more
pub hash-more : (bs : Id) (i hash d : ℕ) → i < length bs → hash_from hash (drop i bs) ≡ hash_from (((hash + get_or bs i d) + 1) * 16777619 % 4294967296) (drop (i + 1) bs)
hash-more bs i hash d lt = at_drop_more (hash_from hash) bs i d lt

-- and none any more
pub hash-end : (bs : Id) (i hash : ℕ) → length bs ≤ i → hash_from hash (drop i bs) ≡ hash_from 0 bs → hash ≡ hash_from 0 bs
hash-end bs i hash past left = sym (at_drop_all (hash_from hash) bs i past) ∙ left
