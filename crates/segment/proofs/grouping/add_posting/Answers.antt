use Rattle.std.proofs.Common.{◌++◌, ◌∷◌, [], ◌∙◌, sym, ap}
use Rattle.std.proofs.lemmas.Result.{on_ok_weaker}
use Rattle.segment.specs.Grouped.{runs_from, with_lists}
use Rattle.segment.specs.Places.{as_list}
use Rattle.segment.proofs.GroupingLaws.{run-same, run-other}
use Rattle.segment.proofs.grouping.add_posting.Goals as goal

-- the place goes to the last key
pub returns-then-eq : goal.returns-then-eq
returns-then-eq g c =
    let last = c.args.last.now in
    on_ok_weaker c.add_place.result
    (λ is es. run-same g.K.PartialEq.eq (with_lists c.args.closed.now.items) last.0 _ _ c.args.posting es (sym c.eq.ensures ∙ c.if-eq.true) is) c.add_place.ensures

-- the last key is closed
pub returns : goal.returns
returns g c = λ es.
    let last = c.args.last.now in
    let key = c.args.posting in
    ap (λ l. with_lists c.push.new.self.items ++ runs_from g.K.PartialEq.eq l.0 (as_list l.1) es) c.replace-before.ensures.after
    ∙ ap (λ fs. with_lists fs ++ runs_from g.K.PartialEq.eq key.0 (key.1 ∷ []) es) c.in_ok-push.ensures.items
    ∙ ap (λ f. with_lists (c.args.closed.now.items ++ f ∷ []) ++ runs_from g.K.PartialEq.eq key.0 (key.1 ∷ []) es) c.replace-before.ensures.value
    ∙ run-other g.K.PartialEq.eq c.args.closed.now.items last key es (sym c.eq.ensures ∙ c.if-eq.false)
