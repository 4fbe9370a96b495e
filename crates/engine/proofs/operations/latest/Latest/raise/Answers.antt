use Rattle.std.proofs.Common.{◌≡◌, ◌<◌, ◌∙◌, false, if◌then◌else◌, length, refl, sym, ap, arith}
use Rattle.std.proofs.lemmas.Result.{on_ok_weaker, on_err_weaker}
use Rattle.doc.specs.Id.{is_id}
use Rattle.engine.specs.IdFilter.{place_in}
use Rattle.engine.specs.OperationIndex.{raised}
use Rattle.engine.proofs.IdTablesLaws.{among-set, at_index, one-place}
use Rattle.engine.proofs.operations.latest.Latest.raise.Goals as goal

-- only the table of the id changes
pub returns-clause-ok : goal.returns-clause-ok
returns-clause-ok c =
    let ts = c.make.new.self.tables.items in
    let at = c.place_of-at.result in
    let i = c.args.id.now in
    let lt : at < length ts = omega (arith, c.place_of-at.ensures.within, c.len.ensures, c.make.new.self.tables.ok.0) in
    let place : at ≡ place_in (length ts) i = c.place_of-at.ensures.is ∙ ap (λ n. place_in n i) (c.len.ensures ∙ c.make.new.self.tables.ok.0) in
    on_ok_weaker c.raise_in.result
    (λ changed w.
    among-set ts _ at c.index_mut.result.now c.raise_in.new.table (λ b n. if b then raised c.args.seq n else n) (λ v. is_id v i) (λ n. refl) (λ v same. one-place (length ts) v i same ∙ sym place) lt
    (at_index ts at c.index_mut.result.now lt c.index_mut.ensures.value) refl changed w
    ∙ ap (λ n. if is_id w i then raised c.args.seq n else n) (c.make.ensures.same w))
    c.raise_in.ensures.ok

pub returns-clause-err : goal.returns-clause-err
returns-clause-err c =
    let ts = c.make.new.self.tables.items in
    let at = c.place_of-at.result in
    let lt : at < length ts = omega (arith, c.place_of-at.ensures.within, c.len.ensures, c.make.new.self.tables.ok.0) in
    on_err_weaker c.raise_in.result
    (λ changed w.
    among-set ts _ at c.index_mut.result.now c.raise_in.new.table (λ b n. n) (λ v. false) (λ n. refl) (λ v same. cc) lt (at_index ts at c.index_mut.result.now lt c.index_mut.ensures.value) refl changed w
    ∙ c.make.ensures.same w)
    c.raise_in.ensures.err
