use Rattle.std.proofs.Common.{◌≡◌, ◌∙◌, ap, replicate, false, List, Bool, subst, IfOk}
use Rattle.segment.proofs.Joins.{const}
use Rattle.search.proofs.selecting.none.Goals as goal

pub returns : goal.returns
returns c = subst (λ (bs : List Bool). IfOk c.none.result (λ m. m ≡ bs)) (ap (λ n. replicate n false) c.len.ensures.is ∙ const false c.args.segment.now.sources) c.none.ensures
