use Rattle.std.proofs.Common.{◌≡◌, true, IfOk, subst}
use Rattle.std.specs.Prelude.{IfSome, is_some}
use Rattle.chronicle.specs.Ledger.{LedgerData}
use Rattle.ruled.specs.declared.entry.MasterEntry.{MasterEntry}
use Rattle.ruled.specs.Entries.{IsJournalOf}
use Rattle.ruled.specs.Ruled.{RuledData, with_journal}
use Rattle.ruled.proofs.Gathering.{handed_kept, handed_legal, handed_same}
use Rattle.ruled.proofs.ruled.Ruled.written.Goals as goal

pub returns-in-Some-clause-kept : goal.returns-in-Some-clause-kept
returns-in-Some-clause-kept g c =
    let r : RuledData = with_journal c.self.inside.entries c.self.inside.unsure c.self.inside.master in
    let kept : r.kept ≡ true = subst (λ (l : LedgerData MasterEntry). l.kept ≡ true) c.into_ledger.ensures c.in-Some.ensures.some.0 in
    let same : c.in-Some.entries.items ≡ r.entries = subst (λ (l : LedgerData MasterEntry). c.in-Some.entries.items ≡ l.entries) c.into_ledger.ensures c.in-Some.ensures.some.1 in
    subst (λ (d : RuledData). IfOk c.journal_of.result (λ o. is_some o ≡ d.kept)) c.self.view_is (handed_kept r c.in-Some.entries.items c.self.invariant same c.journal_of.result kept c.journal_of.ensures)

pub returns-in-Some-clause-legal : goal.returns-in-Some-clause-legal
returns-in-Some-clause-legal g c =
    let r : RuledData = with_journal c.self.inside.entries c.self.inside.unsure c.self.inside.master in
    let same : c.in-Some.entries.items ≡ r.entries = subst (λ (l : LedgerData MasterEntry). c.in-Some.entries.items ≡ l.entries) c.into_ledger.ensures c.in-Some.ensures.some.1 in
    handed_legal r c.in-Some.entries.items c.self.invariant same c.journal_of.result c.journal_of.ensures

pub returns-in-Some-clause-same : goal.returns-in-Some-clause-same
returns-in-Some-clause-same g c =
    let r : RuledData = with_journal c.self.inside.entries c.self.inside.unsure c.self.inside.master in
    let same : c.in-Some.entries.items ≡ r.entries = subst (λ (l : LedgerData MasterEntry). c.in-Some.entries.items ≡ l.entries) c.into_ledger.ensures c.in-Some.ensures.some.1 in
    subst (λ (d : RuledData). IfOk c.journal_of.result (λ o. IfSome o (IsJournalOf d.entries))) c.self.view_is (handed_same r c.in-Some.entries.items c.self.invariant same c.journal_of.result c.journal_of.ensures)
