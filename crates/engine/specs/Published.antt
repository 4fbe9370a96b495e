-- The segments that searches look through, and merges of them.
use Rattle.std.specs.Prelude.{◌≡◌, ◌<◌, true, ◌≤◌, ◌+◌, ◌++◌, ◌&&◌, ℕ, Bool, List, [], ◌∷◌, All, Contains, min, length, nat_le, nat_lt, filter, ◌==◌, if◌then◌else◌}
use Rattle.std.specs.List.{list_all, list_any}
use Rattle.doc.specs.Mapping.{MappingData}
use Rattle.op.specs.Documents.{Documents}

-- a segment as it was published: its number, and the documents that were put into it, read under the mapping
pub record Published : Type 0 where
  pub number : ℕ
  pub mapping : MappingData
  pub documents : Documents

-- the greatest number: all later segments bear it
abbrev pub greatest : ℕ
greatest = 18446744073709551615

-- the number after this one
abbrev pub next_after : ℕ → ℕ
next_after n = min (n + 1) greatest

-- no number comes again but the greatest: the segments' are below the next one
abbrev pub AreBelow : ℕ → List Published → Type 0
AreBelow next ss = next < greatest → All (λ s. s.number < next) ss

-- how many segments a merge may take: those that don't bear the greatest number
abbrev pub mergeable_count : List Published → ℕ
mergeable_count ss = length (filter (λ s. nat_lt s.number greatest) ss)

-- whether a merge takes these segments: there are two or more, and none bears the greatest number
abbrev pub are_taken : List Published → Bool
are_taken ss = nat_le 2 (length ss) && list_all (λ s. nat_lt s.number greatest) ss

-- the segments that a merge takes: all, or none
abbrev pub taken_of : List Published → List Published
taken_of ss = if are_taken ss then ss else []

-- whether a segment bears one of these numbers
abbrev pub is_numbered : List ℕ → Published → Bool
is_numbered ns s = list_any (λ n. n == s.number) ns

-- the segments that bear them
abbrev pub numbered : List ℕ → List Published → List Published
numbered ns ss = filter (is_numbered ns) ss

-- no two segments bear the same number, unless it is the greatest
abbrev pub AreDistinct : List Published → Type 0
AreDistinct ss = (n : ℕ) → n < greatest → length (numbered (n ∷ []) ss) ≤ 1

-- a merge: the segments that it takes, and the documents that were live in them when it was begun
pub record MergeData : Type 0 where
  pub taken : List Published
  pub mapping : MappingData
  pub documents : Documents

-- none of some segments is among all
abbrev pub AreGone : List Published → List Published → Type 0
AreGone all ss = All (λ s. Contains all s → ⊥) ss

-- the segments that weren't taken, in their order
pub data IsLeft (taken : List Published) : List Published → List Published → Type 0 where
  nothing : IsLeft taken [] []
  remains : (s : Published) (old left : List Published) → (Contains taken s → ⊥) → IsLeft taken old left → IsLeft taken (s ∷ old) (s ∷ left)
  was_taken : (s : Published) (old left : List Published) → Contains taken s → IsLeft taken old left → IsLeft taken (s ∷ old) left

-- one segment, of this number and mapping, stands after those that weren't taken
pub record IsReplaced (taken : List Published) (number : ℕ) (mapping : MappingData) (old new : List Published) : Type 0 where
  pub left : List Published
  pub merged : Published
  pub others : IsLeft taken old left
  pub is : new ≡ left ++ merged ∷ []
  pub numbered : merged.number ≡ number
  pub mapped : merged.mapping ≡ mapping

-- segments, the newest first, their mapping, what is live in each, and the number of the next one
pub record Segments : Type 0 where
  pub mapping : MappingData
  pub published : List Published
  pub live : List Documents
  pub next : ℕ

-- one segment, of the next number, stands for those that a merge took: none of these that was published is it any more, and the number isn't given again, unless it is the greatest
pub record IsSwapped (taken : List Published) (old new : Segments) : Type 0 where
  pub replaced : IsReplaced taken old.next old.mapping old.published new.published
  pub gone : All (λ s. Contains old.published s → Contains new.published s → ⊥) taken
  pub next : new.next ≡ next_after old.next
  pub below : AreBelow new.next new.published

-- some segments were merged, at least one of which was there
pub record HasMerged (old new : Segments) : Type 0 where
  pub taken : List Published
  pub some : taken ≡ [] → ⊥
  pub swapped : IsSwapped taken old new

-- where a segment bears the number of one that was taken, it is that one
abbrev pub AreTold : List Published → List Published → Type 0
AreTold taken ss = All (λ s. All (λ t. t.number ≡ s.number → t ≡ s) taken) ss

-- the number of each of these segments identifies it among those that are there, now and later
pub record AreKnown (next : ℕ) (ss known : List Published) : Type 0 where
  pub below : All (λ t. t.number < next) known
  pub told : AreTold known ss

-- a merge may take these segments, and the number of each identifies it among those that are there
pub record IsBegun (next : ℕ) (ss taken : List Published) : Type 0 where
  pub are : are_taken taken ≡ true
  pub below : All (λ t. t.number < next) taken
  pub told : AreTold taken ss

-- some of these segments, in their order
pub data AreSome : List Published → List Published → Type 0 where
  no_more : AreSome [] []
  stays : (s : Published) (old left : List Published) → AreSome old left → AreSome (s ∷ old) (s ∷ left)
  goes : (s : Published) (old left : List Published) → AreSome old left → AreSome (s ∷ old) left

-- at most one segment, of this number, in front of some of the old ones, in their order
pub record IsFronted (number : ℕ) (old new : List Published) : Type 0 where
  pub front : List Published
  pub left : List Published
  pub some : AreSome old left
  pub is : new ≡ front ++ left
  pub one : length front ≤ 1
  pub numbers : All (λ s. s.number ≡ number) front
