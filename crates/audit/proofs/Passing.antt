-- From journals that pass one by one to the answer of the audit.
use Rattle.std.proofs.Common.{◌≡◌, ℕ, zero, suc, ◌+◌, ◌≤◌, List, [], ◌∷◌, ◌++◌, map, length, take, Some, Err, inl, inr, refl, sym, ap, subst, ◌∙◌, arith}
use Rattle.std.specs.Prelude.{get_or, slice_get}
use Rattle.std.proofs.lemmas.List.{map-append, take_more}
use Rattle.std.proofs.lemmas.Option.{get_or_from_slice_get, slice_get_within}
use borrow.Author.Count.{below_more as more}
use Rattle.doc.specs.Mapping.{MappingData}
use Rattle.master.specs.declared.state.State.{State}
use Rattle.master.specs.State.{begun}
use Rattle.audit.specs.declared.fault.AuditFault.TheVariants.{Differs}
use Rattle.journal.specs.declared.journal.Journal.{Journal}
use Rattle.journal.specs.declared.journal.Journal.TheVariants.{OfMaster as of_master, OfCopy as of_copy}
use Rattle.journal.specs.declared.journal.Ruling.{Ruling}
use Rattle.audit.specs.declared.judge.Wrong.{Wrong}
use Rattle.audit.specs.declared.judge.Wrong.TheVariants.{At, NoMemory}
use Rattle.journal.specs.declared.moves.Placed.{Placed}
use Rattle.audit.specs.Audit.{placed_in, IsAudited, IsOpening, IsSize, Pass, PassBelow}
use Rattle.journal.specs.Lawful.{IsLawful}
use Rattle.audit.specs.Given.{AreAll}
use Rattle.audit.specs.Passing.{fault_at, IsCount, IsFailing, IsPassing}

count_is : (n m : ℕ) → begun n ≡ begun m → n ≡ m
count_is n m e = let next : suc n ≡ suc m = ap (λ (s : State). s.next) e in cc

some_is : (a b : Journal) → Some a ≡ Some b → a ≡ b
some_is a b e = cc

-- the master's journal begins as that of one number of copies
by_first : (mapping : MappingData) (j : Journal) (c n : ℕ) → IsCount (Some j) c → IsOpening mapping n 0 j → n ≡ c
by_first mapping (of_master s rs) c n count opens = count_is n c (sym opens ∙ count)
by_first mapping (of_copy d ds) c n count opens = absurd count

-- of the journals below a node, and its own, the first begins as that of one number
pub one_count : (mapping : MappingData) (js : List Journal) (c n i : ℕ) (j : Journal) → IsCount (slice_get js 0) c → slice_get js i ≡ Some j → PassBelow mapping n js i → IsOpening mapping n i j → n ≡ c
one_count mapping [] c n i j count there below opens = absurd cc
one_count mapping (first ∷ js) c n zero j count there below opens = by_first mapping first c n count (subst (λ (x : Journal). IsOpening mapping n 0 x) (sym (some_is first j there)) opens)
one_count mapping (first ∷ js) c n (suc i) j count there below opens = by_first mapping first c n count (below 0 first (omega arith) refl).0

-- a journal that doesn't pass, after journals that do
pub differs : (mapping : MappingData) (js : List Journal) (c node : ℕ) (j : Journal) (e : Wrong) → IsSize c → IsCount (slice_get js 0) c → slice_get js node ≡ Some j → PassBelow mapping c js node → IsFailing mapping c node j e → IsAudited mapping js (Err (fault_at node e))
differs mapping js c node j NoMemory size count there below failing = tt
differs mapping js c node j (At at) size count there below (inl wrong) = inl (record {
  journal = j;
  there = there;
  copies = c;
  below = below;
  wrong = inl ((λ n is passes opens. wrong.0 (subst (λ (k : ℕ). IsOpening mapping k node j) (one_count mapping js c n node j count there passes opens) opens)), wrong.1);
})
differs mapping js c node j (At at) size count there below (inr wrong) = inl (record {
  journal = j;
  there = there;
  copies = c;
  below = below;
  wrong = inr (size, wrong.0, wrong.1);
})

-- the first journal isn't that of the master of a new index
pub no_count : (mapping : MappingData) (js : List Journal) (j : Journal) → slice_get js 0 ≡ Some j → ((n : ℕ) → IsSize n → IsCount (Some j) n → ⊥) → IsAudited mapping js (Err (Differs 0 0))
no_count mapping js j there none = inl (record {
  journal = j;
  there = there;
  copies = 1;
  below = λ i x lt is. absurd (omega (arith, lt));
  wrong = inl ((λ n size below opens. none n size (begins j n opens)), refl);
})
  where
    begins : (x : Journal) (n : ℕ) → IsOpening mapping n 0 x → IsCount (Some x) n
    begins (of_master s rs) n opens = opens
    begins (of_copy d ds) n opens = opens

-- a journal is missing behind those that pass
pub missing : (mapping : MappingData) (n : ℕ) (js : List Journal) → IsSize n → Pass mapping n js → (AreAll js → ⊥) → IsAudited mapping js (Err (Differs (length js) 0))
missing mapping n js size pass lacking = inr (record { copies = n; size = size; pass = pass; lacking = lacking; next = refl; at = refl })

-- one journal more
pub below_more : (mapping : MappingData) (n : ℕ) (js : List Journal) (k : ℕ) (j : Journal) (ps : List Placed) → PassBelow mapping n js k → slice_get js k ≡ Some j → IsPassing mapping n k j ps → PassBelow mapping n js (k + 1)
below_more mapping n js k j ps below there pass = λ i x lt is.
    more (λ (m : ℕ). (y : Journal) → slice_get js m ≡ Some y → IsOpening mapping n m y × IsLawful y) k (λ m less y at. below m y less at)
    (λ y at. subst (λ (z : Journal). IsOpening mapping n k z × IsLawful z) (some_is j y (sym there ∙ at)) (pass.opening, pass.lawful))
    i lt x is

pub all_below : (mapping : MappingData) (n : ℕ) (js : List Journal) (k : ℕ) → length js ≤ k → PassBelow mapping n js k → Pass mapping n js
all_below mapping n js k end below = λ i j is. below i j (let lt = slice_get_within js i j is in omega arith) is

pub parts_more : (js : List Journal) (k : ℕ) (j : Journal) (ps : List Placed) (parts : List (List Placed)) → slice_get js k ≡ Some j → parts ≡ map placed_in (take k js) → ps ≡ placed_in j → parts ++ ps ∷ [] ≡ map placed_in (take (k + 1) js)
parts_more js k j ps parts there so_far one =
    let lt = slice_get_within js k j there in
    let here : get_or js k j ≡ j = get_or_from_slice_get js k j j there in
    ap (λ (x : List (List Placed)). x ++ ps ∷ []) so_far
    ∙ ap (λ (x : List Placed). map placed_in (take k js) ++ x ∷ []) (one ∙ sym (ap placed_in here))
    ∙ sym (map-append placed_in (take k js) (get_or js k j ∷ []))
    ∙ sym (ap (λ (x : List Journal). map placed_in x) (take_more js k j lt))

-- the master's journal is that of node 0
pub passes_at : (mapping : MappingData) (n i : ℕ) (j : Journal) (s : State) (rs rulings : List Ruling) (ps : List Placed) → i ≡ 0 → j ≡ of_master s rulings → rs ≡ rulings → IsPassing mapping n 0 (of_master s rs) ps → IsPassing mapping n i j ps
passes_at mapping n i j s rs rulings ps first is same pass =
    subst (λ (k : ℕ). IsPassing mapping n k j ps) (sym first) (subst (λ (x : Journal). IsPassing mapping n 0 x ps) (ap (of_master s) same ∙ sym is) pass)
