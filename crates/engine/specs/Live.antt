-- The documents that are live in segments.
use Rattle.std.specs.Prelude.{ℕ, ◌≡◌, ◌<◌, ◌&&◌, Bool, true, not, All, List, [], ◌∷◌, fold, if◌then◌else◌, length, map, nat_le, nat_lt, take}
use Rattle.std.specs.FinMap.Entries.{put, where_key}
use Rattle.doc.specs.Id.{Id, id_cmp}
use Rattle.op.specs.Documents.{Documents}
use Rattle.engine.specs.Published.{Published, greatest, is_numbered}

-- the documents of both; where both have an id, that of the first
abbrev pub merged : Documents → Documents → Documents
merged [] es = es
merged (d ∷ ds) es = put id_cmp d.0 d.1 (merged ds es)

-- the documents of all
abbrev pub woven : List Documents → Documents
woven ps = fold merged [] ps

-- what is live in the segments of these numbers, where this is live in all
abbrev pub live_of : List ℕ → List Published → List Documents → List Documents
live_of ns [] ls = []
live_of ns (s ∷ ss) [] = []
live_of ns (s ∷ ss) (l ∷ ls) = if is_numbered ns s then l ∷ live_of ns ss ls else live_of ns ss ls

-- whether one of these documents is live in a segment: whether there is one
abbrev pub is_live : Documents → Bool
is_live ds = nat_lt 0 (length ds)

-- the segments in which a document is live, where this is live in all
abbrev pub living : List Published → List Documents → List Published
living [] ls = []
living (s ∷ ss) [] = []
living (s ∷ ss) (l ∷ ls) = if is_live l then s ∷ living ss ls else living ss ls

-- a document is live in each segment, or there is one segment alone
abbrev pub AreLive : List Documents → Type 0
AreLive ls = 1 < length ls → All (λ l. is_live l ≡ true) ls

-- the documents whose ids didn't change
abbrev pub unchanged : (Id → Bool) → Documents → Documents
unchanged is_changed ds = where_key id_cmp (λ i. not (is_changed i)) ds

-- what is live in a new segment and in the old ones after a change of some ids
abbrev pub changed_live : (Id → Bool) → Published → List Documents → List Documents
changed_live is_changed new ls = new.documents ∷ map (unchanged is_changed) ls

-- the segments then: those of the new one and the old ones in which a document is live
abbrev pub changed_segments : (Id → Bool) → Published → List Published → List Documents → List Published
changed_segments is_changed new ss ls = living (new ∷ ss) (changed_live is_changed new ls)

-- whether a merge may take a segment, and no more documents are live in it than so many
abbrev pub is_within : ℕ → Published → Documents → Bool
is_within most s l = nat_lt s.number greatest && nat_le (length l) most

-- the numbers of these segments, where this is live in all
abbrev pub numbers_within : ℕ → List Published → List Documents → List ℕ
numbers_within most [] ls = []
numbers_within most (s ∷ ss) [] = []
numbers_within most (s ∷ ss) (l ∷ ls) = if is_within most s l then s.number ∷ numbers_within most ss ls else numbers_within most ss ls

-- segments that go well into one: the first ten in which no more documents are live than so many
pub record GoTogether (ns : List ℕ) (ss : List Published) (ls : List Documents) : Type 0 where
  pub most : ℕ
  pub are : ns ≡ take 10 (numbers_within most ss ls)
