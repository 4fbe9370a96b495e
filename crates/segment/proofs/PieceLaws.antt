-- The columns of pieces that follow one another.
use native.Mathlib.Nat.{add-mul, mul-le-mul_right, one-mul}
use Rattle.std.proofs.Common.{◌≡◌, ◌<◌, ◌≤◌, ◌+◌, ◌*◌, ℕ, zero, suc, List, [], ◌∷◌, ◌++◌, length, map, take, drop, sym, ap, ◌∙◌, subst, arith, Result, Ok}
use Rattle.std.specs.declared.alloc.AllocError.{AllocError}
use Rattle.std.specs.Prelude.{IfOk}
use Rattle.std.specs.List.{AllZip, range_with_len}
use Rattle.std.proofs.lemmas.List.{take_all, take-take, drop-take, take-append-drop, length-map, length-take-le, map-append}
use Rattle.doc.specs.Document.{Values, all_values}
use Rattle.doc.specs.Mapping.{MappingData}
use Rattle.segment.specs.Added.{AreLong}
use Rattle.segment.specs.Joined.{behind, AreJoined, AreMakings}
use Rattle.segment.proofs.AddedLaws.{Makings, makings-long}
use Rattle.segment.proofs.JoinedLaws.{makings-joined}

-- each of as many pieces as it takes begins within the texts
pub begins : (i count len size : ℕ) → i < count → count * size < len + size → i * size < len
begins i count len size lt room =
    let up : i + 1 ≤ count = omega arith in
    omega (arith, mul-le-mul_right size up, add-mul i 1 size, one-mul size)

module _ (m : MappingData) (size n : ℕ) (sources : List (List ℕ)) where
  -- the documents of the texts that begin at a place, as many as a piece has
  abbrev pub piece : ℕ → List Values
  piece b = map (all_values m) (take size (drop b sources))

  -- pieces from a place on to the end
  abbrev pub ArePieces : ℕ → List (Result Makings AllocError) → Type 0
  ArePieces b [] = length sources ≤ b
  ArePieces b (r ∷ rs) = (b ≤ length sources) × (IfOk r (AreMakings m.fields (behind b (piece b)) n) × ArePieces (b + size) rs)

  -- the columns of the documents before a place, behind which these pieces stand
  pub record IsSoFar (so_far : Makings) (left : List (Result Makings AllocError)) : Type 0 where
    pub begin : ℕ
    pub columns : AreMakings m.fields (map (all_values m) (take begin sources)) n so_far
    pub rest : ArePieces begin left

  -- what stands beside each number of a range, one by one
  pub in_turn : (k count : ℕ) (rs : List (Result Makings AllocError)) → length sources ≤ (k + count) * size → ((i : ℕ) → i < k + count → i * size ≤ length sources)
      → AllZip (λ i r. IfOk r (AreMakings m.fields (behind (i * size) (piece (i * size))) n)) (range_with_len k count) rs → ArePieces (k * size) rs
  in_turn k zero [] last starts each = subst (λ (j : ℕ). length sources ≤ j * size) (omega arith) last
  in_turn k zero (r ∷ rs) last starts each = absurd each
  in_turn k (suc count) [] last starts each = absurd each
  in_turn k (suc count) (r ∷ rs) last starts each =
      let on : k + suc count ≡ (k + 1) + count = omega arith in
      let next : (k + 1) * size ≡ k * size + size = add-mul k 1 size ∙ omega (arith, one-mul size) in (
        starts k (omega arith),
        (
          each.0,
          subst (λ (b : ℕ). ArePieces b rs) next
              (in_turn (k + 1) count rs (subst (λ (j : ℕ). length sources ≤ j * size) on last) (λ i lt. starts i (omega (arith, on, lt))) each.1),
        ),
      )

  take-more : (b : ℕ) → take b sources ++ take size (drop b sources) ≡ take (b + size) sources
  take-more b =
      let all = take (b + size) sources in
      ap (λ xs. xs ++ take size (drop b sources)) (sym (take-take b (b + size) sources (omega arith)))
      ∙ ap (λ xs. take b all ++ xs) (sym (drop-take b size sources))
      ∙ take-append-drop b all

  -- one piece more
  pub piece-more : (old later new : Makings) (left : List (Result Makings AllocError)) → IsSoFar old (Ok later ∷ left) → AreJoined old later new → IsSoFar new left
  piece-more old later new left so_far joined =
      let b = so_far.begin in
      let before = map (all_values m) (take b sources) in
      let few : b ≡ length before = sym (length-map (take b sources) (all_values m) ∙ length-take-le b sources so_far.rest.0) in
      record {
        begin = b + size;
        columns = subst (λ ds. AreMakings m.fields ds n new) (sym (map-append (all_values m) (take b sources) (take size (drop b sources))) ∙ ap (map (all_values m)) (take-more b))
            (makings-joined m.fields before (piece b) n b old later new few so_far.columns so_far.rest.1.0 joined);
        rest = so_far.rest.1.1;
      }

  pub long-so_far : (old : Makings) (left : List (Result Makings AllocError)) → IsSoFar old left → AreLong n old
  long-so_far old left so_far = makings-long m.fields (map (all_values m) (take so_far.begin sources)) n old so_far.columns

  pub long-piece : (old later : Makings) (left : List (Result Makings AllocError)) → IsSoFar old (Ok later ∷ left) → AreLong n later
  long-piece old later left so_far = makings-long m.fields (behind so_far.begin (piece so_far.begin)) n later so_far.rest.1.0

  -- all pieces
  pub all-pieces : (made : Makings) → IsSoFar made [] → AreMakings m.fields (map (all_values m) sources) n made
  all-pieces made so_far = subst (λ (xs : List (List ℕ)). AreMakings m.fields (map (all_values m) xs) n made) (take_all so_far.begin sources so_far.rest) so_far.columns
