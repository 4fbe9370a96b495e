use Rattle.std.proofs.Common.{◌≡◌, ◌∙◌, length, sym, ap}
use Rattle.std.specs.Vec.Iter.{into_iter_items, into_iter_len}
use Rattle.replica.proofs.Drafting.{underway_first, underway_more, underway_done, underway_few}
use Rattle.replica.proofs.state.State.draft_all.Goals as goal

pub loop-write-init : goal.loop-write-init
loop-write-init c =
    let it = c.into_iter-write-iterator in
    let many : into_iter_len it.result ≡ length (into_iter_items it.result) = it.ensures.into_iter_gives.1 ∙ c.into_vec-write-items.result.ok.0 ∙ ap length (sym it.ensures.into_iter_gives.0) in
    underway_first c.args.self.now.copy c.args.first c.args.writes (into_iter_items it.result) (into_iter_len it.result) many (it.ensures.into_iter_gives.0 ∙ c.into_vec-write-items.ensures.all) c.requires.drafted c.requires.none

pub draft_with-requires : goal.draft_with-requires
draft_with-requires c = c.loop-write.invariant.drafted

pub loop-write-preserved : goal.loop-write-preserved
loop-write-preserved c =
    let was = c.loop-write.write-iterator in
    let is = c.next.new.self in
    underway_more c.args.self.now.copy c.args.first c.args.writes c.loop-write.draft c.in_ok-draft.draft c.in-Some.write (into_iter_items was) (into_iter_items is) (into_iter_len was) (into_iter_len is)
    c.in-Some.ensures.steps.0 c.in-Some.ensures.steps.1 c.loop-write.invariant c.in_ok-draft.ensures.folds c.in_ok-draft.ensures.drafted c.in_ok-draft.ensures.one

pub returns-clause-folds : goal.returns-clause-folds
returns-clause-folds c =
    let it = c.loop-write.write-iterator in
    underway_done c.args.self.now.copy c.args.first c.args.writes c.loop-write.draft (into_iter_items it) (into_iter_len it) c.in-None.ensures.steps.0 c.loop-write.invariant

pub returns-clause-drafted : goal.returns-clause-drafted
returns-clause-drafted c = c.loop-write.invariant.drafted

pub returns-clause-few : goal.returns-clause-few
returns-clause-few c =
    let it = c.loop-write.write-iterator in
    underway_few c.args.self.now.copy c.args.first c.args.writes c.loop-write.draft (into_iter_items it) (into_iter_len it) c.into_vec-write-items.ensures.few c.loop-write.invariant
