use Rattle.std.proofs.Common.{◌≡◌, ◌∙◌, IfOk, ap, filter, length, subst, sym, take}
use Rattle.std.specs.Arc.{arc_value}
use Rattle.op.specs.Documents.{Documents}
use Rattle.query.specs.Query.{Query}
use Rattle.segment.specs.Merged.{chosen}
use Rattle.engine.specs.Answer.{SnapshotData, is_found}
use Rattle.engine.specs.Parts.{PartData}
use Rattle.engine.specs.Shown.{seen}
use Rattle.engine.proofs.ChosenLaws.{chosen-all}
use Rattle.engine.proofs.ShareLaws.{all-meant}
use Rattle.engine.proofs.read.part.Part.hits.Goals as goal

-- all documents of the block are live, and each is meant
pub returns-then-is_match_all-clause-total : goal.returns-then-is_match_all-clause-total
returns-then-is_match_all-clause-total c =
    let s = c.args.self.now in
    let docs = (arc_value c.self.inside.block).documents in
    let live = ap (λ bs. chosen docs bs) (c.self.invariant.full c.if-self.true) ∙ chosen-all docs in
    let meant = ap (λ (q : Query). filter (is_found s.mapping q) s.documents) (c.is_match_all.ensures c.if-is_match_all.true) ∙ all-meant s.mapping s.documents in
    subst (λ (ds : Documents). IfOk c.first_of.result (λ h. h.total ≡ length ds))
    (ap (λ (b : SnapshotData). b.documents) c.deref.ensures ∙ sym live ∙ ap (λ (p : PartData). p.documents) c.self.view_is ∙ sym meant) c.first_of.ensures.total

pub returns-then-is_match_all-clause-first : goal.returns-then-is_match_all-clause-first
returns-then-is_match_all-clause-first c =
    let s = c.args.self.now in
    let docs = (arc_value c.self.inside.block).documents in
    let live = ap (λ bs. chosen docs bs) (c.self.invariant.full c.if-self.true) ∙ chosen-all docs in
    let meant = ap (λ (q : Query). filter (is_found s.mapping q) s.documents) (c.is_match_all.ensures c.if-is_match_all.true) ∙ all-meant s.mapping s.documents in
    subst (λ (ds : Documents). IfOk c.first_of.result (λ h. seen h.first.items ≡ take c.args.wanted ds))
    (ap (λ (b : SnapshotData). b.documents) c.deref.ensures ∙ sym live ∙ ap (λ (p : PartData). p.documents) c.self.view_is ∙ sym meant) c.first_of.ensures.first
