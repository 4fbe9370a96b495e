use Rattle.std.proofs.Common.{◌≡◌, ◌∙◌, ap, replicate, true, List, Bool, subst, IfOk}
use Rattle.segment.proofs.Joins.{const}
use Rattle.search.proofs.selecting.all.Goals as goal

pub returns : goal.returns
returns c = subst (λ (bs : List Bool). IfOk c.all.result (λ m. m ≡ bs)) (ap (λ n. replicate n true) c.len.ensures.is ∙ const true c.args.segment.now.sources) c.all.ensures
