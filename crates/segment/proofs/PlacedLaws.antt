-- Documents that stand among others.
use Rattle.std.proofs.Common.{◌≡◌, ◌<◌, ◌≤◌, ◌+◌, ◌-◌, ℕ, zero, suc, Bool, true, false, List, [], ◌∷◌, length, drop, get_or, replicate, refl, sym, ap, ◌∙◌, subst, arith, Option, Some, None, slice_set}
use Rattle.std.proofs.lemmas.List.{drop_more, drop-set, drop-set-lt, get_or-replicate, get_or-set_other, length-set, length-replicate}
use Rattle.std.proofs.Math.Seq.{drop-length}
use Rattle.segment.specs.Woven.{IsPlaced, Stands, nothing, dead, other, here}

-- ---- documents that are placed

abbrev pub Sources : Type 0
Sources = List (List ℕ)

-- the documents from a place on have their places from another one on, and before that none is marked
pub record ArePlacedFrom (zs : Sources) (ts ms : List Bool) (ds : Sources) (to : List (Option ℕ)) (bound from : ℕ) : Type 0 where
  pub within : bound ≤ length zs
  pub long : length ms ≡ length zs
  pub clear : (i : ℕ) → i < bound → get_or ms i false ≡ false
  pub are : IsPlaced bound (drop bound zs) (drop bound ts) (drop bound ms) (drop from ds) (drop from to)

end : {A : Type 0} (xs : List A) (n : ℕ) → n ≡ length xs → drop n xs ≡ []
end xs n at = ap (λ (m : ℕ). drop m xs) at ∙ drop-length xs

module _ (zs : Sources) (ts : List Bool) (ds : Sources) (to : List (Option ℕ)) (whole : length ts ≡ length zs) where
  -- before a place there are only documents that others have, or none
  gap : (ms : List Bool) (es : Sources) (go : List (Option ℕ)) (k b n : ℕ) → length ms ≡ length zs → n ≡ b + k → n ≤ length zs → ((i : ℕ) → i < n → get_or ms i false ≡ false)
      → IsPlaced n (drop n zs) (drop n ts) (drop n ms) es go → IsPlaced b (drop b zs) (drop b ts) (drop b ms) es go
  gap ms es go zero b n long sum within clear are = subst (λ (i : ℕ). IsPlaced i (drop i zs) (drop i ts) (drop i ms) es go) (omega (arith, sum)) are
  gap ms es go (suc k) b n long sum within clear are =
      other b (drop (b + 1) zs) (drop (b + 1) ts) (drop (b + 1) ms) es go (get_or zs b []) (get_or ts b false) (drop b zs) (drop b ts) (drop b ms)
      (gap ms es go k (b + 1) n long (omega (arith, sum)) within clear are)
      (drop_more zs b [] (omega (arith, sum, within)))
      (drop_more ts b false (omega (arith, sum, within, whole)))
      (drop_more ms b false (omega (arith, sum, within, long)) ∙ ap (λ (m : Bool). m ∷ drop (b + 1) ms) (clear b (omega (arith, sum))))

  stands : (ms ms' : List Bool) (bound next from at : ℕ) (d : List ℕ) (o : Option ℕ) → d ≡ get_or ds from d → from < length ds → from < length to → o ≡ get_or to from None → at ≡ from + 1
      → ArePlacedFrom zs ts ms ds to bound at → Stands zs ts d bound o next ms ms' → ArePlacedFrom zs ts ms' ds to next from
  stands ms ms' bound next from at d None item lt in_to is step so_far (same, kept) =
      subst (λ (n : ℕ). ArePlacedFrom zs ts ms' ds to n from) (sym same)
      (subst (λ (bs : List Bool). ArePlacedFrom zs ts bs ds to bound from) (sym kept)
      (record {
        within = so_far.within;
        long = so_far.long;
        clear = so_far.clear;
        are = dead bound (drop bound zs) (drop bound ts) (drop bound ms) (drop (from + 1) ds) (drop from ds) (drop (from + 1) to) (drop from to) d
            (subst (λ (n : ℕ). IsPlaced bound (drop bound zs) (drop bound ts) (drop bound ms) (drop n ds) (drop n to)) step so_far.are)
            (drop_more ds from d lt ∙ ap (λ (e : List ℕ). e ∷ drop (from + 1) ds) (sym item))
            (drop_more to from None in_to ∙ ap (λ (p : Option ℕ). p ∷ drop (from + 1) to) (sym is));
      }))
  stands ms ms' bound next from at d (Some place) item lt in_to is step so_far (same, now) =
      let set : List Bool = slice_set ms place true in
      let in_ms : place < length ms = omega (arith, now.before, so_far.within, so_far.long) in
      let later : drop (place + 1) set ≡ drop (place + 1) ms = drop-set-lt (place + 1) ms place true (omega arith) in
      let room : (bound ≡ (place + 1) + (bound - (place + 1))) = omega (arith, now.before) in
      let before : IsPlaced (place + 1) (drop (place + 1) zs) (drop (place + 1) ts) (drop (place + 1) ms) (drop (from + 1) ds) (drop (from + 1) to) =
      gap ms (drop (from + 1) ds) (drop (from + 1) to) (bound - (place + 1)) (place + 1) bound so_far.long room so_far.within so_far.clear
      (subst (λ (n : ℕ). IsPlaced bound (drop bound zs) (drop bound ts) (drop bound ms) (drop n ds) (drop n to)) step so_far.are) in
      subst (λ (n : ℕ). ArePlacedFrom zs ts ms' ds to n from) (sym same)
      (subst (λ (bs : List Bool). ArePlacedFrom zs ts bs ds to place from) (sym now.marked)
      (record {
        within = omega (arith, now.before, so_far.within);
        long = length-set ms place true ∙ so_far.long;
        clear = λ i below. get_or-set_other ms place i true false (λ (e : i ≡ place). omega (arith, e, below)) ∙ so_far.clear i (omega (arith, below, now.before));
        are = here place (drop (place + 1) zs) (drop (place + 1) ts) (drop (place + 1) set) (drop (from + 1) ds) (drop (from + 1) to) (get_or zs place []) (drop place zs) (drop place ts) (drop place set) (drop from ds) (drop from to)
            (subst (λ (bs : List Bool). IsPlaced (place + 1) (drop (place + 1) zs) (drop (place + 1) ts) bs (drop (from + 1) ds) (drop (from + 1) to)) (sym later) before)
            (drop_more zs place [] (omega (arith, now.before, so_far.within)))
            (drop_more ts place false (omega (arith, now.before, so_far.within, whole)) ∙ ap (λ (t : Bool). t ∷ drop (place + 1) ts) now.free)
            (drop-set ms place true in_ms ∙ ap (λ (bs : List Bool). true ∷ bs) (sym later))
            (drop_more ds from d lt ∙ ap (λ (e : List ℕ). e ∷ drop (from + 1) ds) (sym item ∙ sym now.same))
            (drop_more to from None in_to ∙ ap (λ (p : Option ℕ). p ∷ drop (from + 1) to) (sym is));
      }))

  -- one document more
  pub one-stands : (ms ms' : List Bool) (bound next from at : ℕ) (d : List ℕ) → d ≡ get_or ds from d → from < length ds → length ds ≡ length to → at ≡ from + 1
      → ArePlacedFrom zs ts ms ds to bound at → Stands zs ts d bound (get_or to from None) next ms ms' → ArePlacedFrom zs ts ms' ds to next from
  one-stands ms ms' bound next from at d item lt same step so_far now = stands ms ms' bound next from at d (get_or to from None) item lt (omega (arith, lt, same)) refl step so_far now

  -- none yet
  pub none-stands : (ms : List Bool) → length ds ≡ length to → ms ≡ replicate (length zs) false → ArePlacedFrom zs ts ms ds to (length zs) (length ds)
  none-stands ms same is =
      let long : length ms ≡ length zs = ap length is ∙ length-replicate (length zs) false in
      record {
        within = omega arith;
        long = long;
        clear = λ i lt. ap (λ (bs : List Bool). get_or bs i false) is ∙ get_or-replicate (length zs) i false false lt;
        are = subst (λ (bs : Sources). IsPlaced (length zs) bs (drop (length zs) ts) (drop (length zs) ms) (drop (length ds) ds) (drop (length ds) to)) (sym (drop-length zs))
            (subst (λ (bs : List Bool). IsPlaced (length zs) [] bs (drop (length zs) ms) (drop (length ds) ds) (drop (length ds) to)) (sym (end ts (length zs) (sym whole)))
            (subst (λ (bs : List Bool). IsPlaced (length zs) [] [] bs (drop (length ds) ds) (drop (length ds) to)) (sym (end ms (length zs) (sym long)))
            (subst (λ (bs : Sources). IsPlaced (length zs) [] [] [] bs (drop (length ds) to)) (sym (drop-length ds))
            (subst (λ (bs : List (Option ℕ)). IsPlaced {A = List ℕ} (length zs) [] [] [] [] bs) (sym (end to (length ds) same)) (nothing (length zs))))));
      }

  -- all
  pub all-stand : (ms : List Bool) (bound : ℕ) → ArePlacedFrom zs ts ms ds to bound 0 → IsPlaced 0 zs ts ms ds to
  all-stand ms bound so_far = gap ms ds to bound 0 bound so_far.long (omega arith) so_far.within so_far.clear so_far.are
