use Rattle.std.proofs.Common.{◌≡◌, map, length, sym}
use Rattle.std.proofs.lemmas.List.{length-map}
use Rattle.std.proofs.lemmas.Result.{IfOk-weaker}
use Rattle.doc.specs.Document.{all_values}
use Rattle.segment.specs.Added.{AreFinished}
use Rattle.segment.proofs.AddedLaws.{makings-few, makings-finished}
use Rattle.segment.proofs.building.columns_of.Goals as goal

pub finish_all-requires : goal.finish_all-requires
finish_all-requires c =
    let m = c.args.mapping.now in
    let ss = c.args.sources.now in
    makings-few m.fields (map (all_values m) ss) (length ss) c.in_ok-makings.makings (sym (length-map ss (all_values m))) c.in_ok-makings.ensures

-- all documents
pub returns : goal.returns
returns c =
    let m = c.args.mapping.now in
    let ss = c.args.sources.now in
    IfOk-weaker c.finish_all.result (AreFinished (length ss) c.in_ok-makings.makings) _
    (λ columns made. makings-finished m.fields (map (all_values m) ss) (length ss) c.in_ok-makings.makings columns (sym (length-map ss (all_values m))) c.in_ok-makings.ensures made) c.finish_all.ensures
