-- Documents that stand in several parts.
-- For proofs alone: no public contract rests on it.
use Rattle.std.specs.Prelude.{◌≡◌, ℕ, ◌≤◌, ◌+◌, ◌++◌, Bool, true, Contains, Option, List, [], ◌∷◌, ◌<◌, drop, is_some, if◌then◌else◌, length, map, replicate}
use Rattle.doc.specs.Mapping.{MappingData}
use Rattle.engine.specs.Answer.{SnapshotData}
pub use Rattle.engine.specs.Live.{merged, woven}
use Rattle.engine.specs.Live.{is_live, unchanged}
use Rattle.engine.specs.Published.{Published, MergeData, are_taken, taken_of, AreBelow, AreDistinct}
use Rattle.std.specs.Option.{ForSome}
use Rattle.std.specs.List.{AllByRecursion, list_any}
use Rattle.std.specs.FinMap.Entries.{is_sorted}
use Rattle.doc.specs.Id.{Id, id_cmp, is_id}
use Rattle.segment.specs.Merged.{chosen}
use Rattle.op.specs.Documents.{Document, Documents, document_at}

-- the first document of both, and how many of each it stands for
pub record IsNext (ds es : Documents) (d : Id × Document) (i j : ℕ) : Type 0 where
  pub split : merged ds es ≡ d ∷ merged (drop i ds) (drop j es)
  pub within_first : i ≤ length ds
  pub within_second : j ≤ length es
  pub goes_on : 0 < i + j

-- whether one of the documents has the id
abbrev pub has_id : Id → Documents → Bool
has_id id ds = is_some (document_at ds id)

-- in how many parts the id stands
abbrev pub times : Id → List Documents → ℕ
times id [] = 0
times id (p ∷ ps) = (if has_id id p then 1 else 0) + times id ps

-- each part is in order, and no id stands in two
pub record AreApart (ps : List Documents) : Type 0 where
  pub sorted : AllByRecursion (λ ds. is_sorted id_cmp ds ≡ true) ps
  pub once : (id : Id) → times id ps ≤ 1

-- a part: the documents that are live, its number, and all documents that were put into it
pub record PartData : Type 0 where
  pub mapping : MappingData
  pub documents : Documents
  pub number : ℕ
  pub built : Documents

-- the parts' documents
abbrev pub documents_of_parts : List PartData → List Documents
documents_of_parts ps = map (λ p. p.documents) ps

-- a part as it is published
abbrev pub published_of : PartData → Published
published_of p = record { number = p.number; mapping = p.mapping; documents = p.built }

-- the parts as they are published
abbrev pub all_published : List PartData → List Published
all_published ps = map published_of ps

-- a list of parts: the documents that are live in them, the segments that they are, and what is live in each
pub record PartListData : Type 0 where
  pub mapping : MappingData
  pub documents : Documents
  pub published : List Published
  pub live : List Documents

-- what searches show through parts
abbrev pub shown_through : PartListData → SnapshotData
shown_through l = record { mapping = l.mapping; documents = l.documents }

-- a snapshot shows what its parts do, no number comes twice, and the next one is new
pub record IsShowing (l : PartListData) (s : SnapshotData) (next : ℕ) : Type 0 where
  pub same : s ≡ shown_through l
  pub below : AreBelow next l.published
  pub distinct : AreDistinct l.published

-- where a merge takes these parts, one part has the documents of all
pub record IsMade (l : PartListData) (made : Option PartData) : Type 0 where
  pub some : is_some made ≡ are_taken l.published
  pub mapping : ForSome made (λ p. p.mapping ≡ l.mapping)
  pub documents : ForSome made (λ p. p.documents ≡ l.documents)

-- the merge that takes them
abbrev pub merge_of : PartListData → MergeData
merge_of l = record { taken = taken_of l.published; mapping = l.mapping; documents = l.documents }

-- parts in two halves: those that were taken go, the others stay
pub data IsSplit (taken : List Published) : List PartData → List PartData → List PartData → Type 0 where
  none : IsSplit taken [] [] []
  stays : (before stay ps kept go : List PartData) (p : PartData) → IsSplit taken before stay go → (Contains taken (published_of p) → ⊥) → ps ≡ before ++ p ∷ [] → kept ≡ stay ++ p ∷ [] → IsSplit taken ps kept go
  goes : (before stay go ps gone : List PartData) (p : PartData) → IsSplit taken before stay go → Contains taken (published_of p) → ps ≡ before ++ p ∷ [] → gone ≡ go ++ p ∷ [] → IsSplit taken ps stay gone

-- each is in order
abbrev pub AllInOrder : List Documents → Type 0
AllInOrder ps = AllByRecursion (λ ds. is_sorted id_cmp ds ≡ true) ps

-- parts of one snapshot
pub record AreParts (m : MappingData) (ps : List PartData) : Type 0 where
  pub mappings : map (λ p. p.mapping) ps ≡ replicate (length ps) m
  pub apart : AreApart (documents_of_parts ps)
  pub few : length ps < 4294967296

-- documents in order, each with a mark, and how many are live; where it is said that all are, they are
pub record IsPart (ds : Documents) (live : List Bool) (count : ℕ) (all_live : Bool) : Type 0 where
  pub sorted : is_sorted id_cmp ds ≡ true
  pub whole : length live ≡ length ds
  pub counted : count ≡ length (chosen ds live)
  pub full : all_live ≡ true → live ≡ replicate (length ds) true

-- whether the id is one of these
abbrev pub is_among : List Id → Id → Bool
is_among ids id = list_any (is_id id) ids

-- the documents that have none of these ids
abbrev pub without : List Id → Documents → Documents
without ids ds = unchanged (is_among ids) ds

-- whether a document is live in a part
abbrev pub is_living : PartData → Bool
is_living p = is_live p.documents
