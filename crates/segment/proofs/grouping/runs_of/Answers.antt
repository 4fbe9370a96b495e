use Rattle.std.proofs.Common.{◌≡◌, ◌++◌, ◌∙◌, [], List, ℕ, arith, sym, ap, length}
use Rattle.std.proofs.lemmas.List.{nil_from_length}
use Rattle.segment.specs.Grouped.{runs_from, with_lists}
use Rattle.segment.specs.Places.{as_list}
use Rattle.segment.proofs.GroupingLaws.{run-last}
use Rattle.segment.proofs.grouping.runs_of.Goals as goal

-- one posting more
pub loop-posting-preserved : goal.loop-posting-preserved
loop-posting-preserved g c =
    let closed = c.loop-posting.closed.items in
    let last = c.loop-posting.last in
    let left = c.next-in-loop-posting.new.self.rest.items in
    let steps = c.in-Some-posting.ensures.steps in
    record {
      all = c.in_ok-add_posting.ensures left ∙ ap (λ es. with_lists closed ++ runs_from g.K.PartialEq.eq last.0 (as_list last.1) es) (sym steps.0) ∙ c.loop-posting.invariant.all;
      len = omega (arith, steps.1, c.loop-posting.invariant.len, ap length steps.0);
    }

-- no posting is left
pub returns : goal.returns
returns g c =
    let left = c.loop-posting.posting-iterator.rest.items in
    let last = c.loop-posting.last in
    let none : left ≡ [] = nil_from_length left (omega (arith, c.loop-posting.invariant.len, c.in-None.ensures.steps.0)) in
    ap with_lists c.in_ok-push.ensures.items ∙ run-last g.K.PartialEq.eq c.loop-posting.closed.items last
    ∙ ap (λ (es : List (g.row.K.Denot × ℕ)). with_lists c.loop-posting.closed.items ++ runs_from g.K.PartialEq.eq last.0 (as_list last.1) es) (sym none) ∙ c.loop-posting.invariant.all
