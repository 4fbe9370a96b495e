use Rattle.std.proofs.Common.{rules}
use Rattle.std.proofs.lemmas.Fn.{always_returns_same}
use Rattle.doc.specs.Id.{id_cmp}
use Rattle.engine.specs.declared.read.block.Shown.{Shown}
use Rattle.engine.specs.Shown.{shown_view}
use Rattle.engine.proofs.ChosenLaws.{searched}
use Rattle.engine.proofs.read.block.place_of.Goals as goal

-- the closure compares a document's id
pub returns : goal.returns
returns c =
    let facts = c.binary_search_by.ensures in
    let by_id = facts.position (λ (s : Shown). id_cmp s.id c.args.id.now) (always_returns_same _ _ _ (λ a r g called. (search rules, search rules))) in
    let place = searched shown_view c.args.id.now c.args.documents.now c.requires c.binary_search_by.result facts.bound by_id in
    record { within = place.within; found = place.found; absent = place.absent }
