-- The journal with the entries of a ledger.
use Rattle.std.proofs.Common.{◌≡◌, true, false, List, [], ◌∷◌, ◌++◌, Option, Some, None, Result, Ok, Err, IfOk, refl, sym, ap, subst, ◌∙◌}
use Rattle.std.specs.Prelude.{Bool, IfSome, is_some, map}
use Rattle.journal.specs.declared.journal.Journal.{Journal}
use Rattle.journal.specs.declared.journal.Journal.TheVariants.{OfMaster}
use Rattle.journal.specs.declared.journal.Ruling.{Ruling}
use Rattle.journal.specs.Lawful.{IsLawful}
use Rattle.master.specs.declared.state.State.{State}
use Rattle.ruled.specs.declared.entry.MasterEntry.{MasterEntry}
use Rattle.ruled.specs.declared.entry.MasterEntry.TheVariants.{Opened, Answered}
use Rattle.ruled.specs.Entries.{IsGathered, IsJournalOf, entries_of, opened_after, rulings_in}
use Rattle.ruled.specs.Ruled.{IsRuled, RuledData}

pub opened_push : (o : Option State) (es : List MasterEntry) (s : State) → opened_after o (es ++ Opened s ∷ []) ≡ Some s
opened_push o [] s = refl
opened_push o (Opened x ∷ es) s = opened_push (Some x) es s
opened_push o (Answered r ∷ es) s = opened_push o es s

pub opened_push_answered : (o : Option State) (es : List MasterEntry) (r : Ruling) → opened_after o (es ++ Answered r ∷ []) ≡ opened_after o es
opened_push_answered o [] r = refl
opened_push_answered o (Opened x ∷ es) r = opened_push_answered (Some x) es r
opened_push_answered o (Answered x ∷ es) r = opened_push_answered o es r

pub rulings_push : (es : List MasterEntry) (r : Ruling) → rulings_in (es ++ Answered r ∷ []) ≡ rulings_in es ++ r ∷ []
rulings_push [] r = refl
rulings_push (Opened x ∷ es) r = rulings_push es r
rulings_push (Answered x ∷ es) r = ap (λ (rs : List Ruling). x ∷ rs) (rulings_push es r)

pub rulings_push_opened : (es : List MasterEntry) (s : State) → rulings_in (es ++ Opened s ∷ []) ≡ rulings_in es
rulings_push_opened [] s = refl
rulings_push_opened (Opened x ∷ es) s = rulings_push_opened es s
rulings_push_opened (Answered x ∷ es) s = ap (λ (rs : List Ruling). x ∷ rs) (rulings_push_opened es s)

-- ---- the entries of a master's journal

opened_in : (s : State) (rs : List Ruling) → opened_after (Some s) (map (λ r. Answered r) rs) ≡ Some s
opened_in s [] = refl
opened_in s (r ∷ rs) = opened_in s rs

rulings_of : (rs : List Ruling) → rulings_in (map (λ r. Answered r) rs) ≡ rs
rulings_of [] = refl
rulings_of (r ∷ rs) = ap (λ (x : List Ruling). r ∷ x) (rulings_of rs)

gathered_is : (s : State) (rs : List Ruling) (o : Option Journal) → IsGathered (opened_after None (entries_of s rs)) (rulings_in (entries_of s rs)) o → o ≡ Some (OfMaster s rs)
gathered_is s rs o is = subst (λ (x : List Ruling). o ≡ Some (OfMaster s x)) (rulings_of rs) (subst (λ (x : Option State). IsGathered x (rulings_in (map (λ r. Answered r) rs)) o) (opened_in s rs) is)

module _ (r : RuledData) (es : List MasterEntry) (o : Option Journal) (is : IsRuled r) (same : es ≡ r.entries) (gathered : IsGathered (opened_after None es) (rulings_in es) o) where
  journal_is : o ≡ Some (OfMaster is.opening is.rulings)
  journal_is = gathered_is is.opening is.rulings o (subst (λ (x : List MasterEntry). IsGathered (opened_after None x) (rulings_in x) o) (same ∙ is.are) gathered)

  pub gathered_kept : is_some o ≡ true
  gathered_kept = ap is_some journal_is

  pub gathered_legal : IfSome o IsLawful
  gathered_legal = subst (λ (x : Option Journal). IfSome x IsLawful) (sym journal_is) is.legal

  pub gathered_same : IfSome o (IsJournalOf r.entries)
  gathered_same = subst (λ (x : Option Journal). IfSome x (IsJournalOf r.entries)) (sym journal_is) is.are

-- what is handed out
module _ {E : Type 0} (r : RuledData) (es : List MasterEntry) (is : IsRuled r) (same : es ≡ r.entries) where
  pub handed_kept : (given : Result (Option Journal) E) → r.kept ≡ true → IfOk given (IsGathered (opened_after None es) (rulings_in es)) → IfOk given (λ o. is_some o ≡ r.kept)
  handed_kept (Ok o) kept gathered = gathered_kept r es o is same gathered ∙ sym kept
  handed_kept (Err e) kept gathered = tt

  pub handed_legal : (given : Result (Option Journal) E) → IfOk given (IsGathered (opened_after None es) (rulings_in es)) → IfOk given (λ o. IfSome o IsLawful)
  handed_legal (Ok o) gathered = gathered_legal r es o is same gathered
  handed_legal (Err e) gathered = tt

  pub handed_same : (given : Result (Option Journal) E) → IfOk given (IsGathered (opened_after None es) (rulings_in es)) → IfOk given (λ o. IfSome o (IsJournalOf r.entries))
  handed_same (Ok o) gathered = gathered_same r es o is same gathered
  handed_same (Err e) gathered = tt
