use Rattle.std.proofs.Common.{[], ap, Ok}
use Rattle.std.specs.BTreeMap as tree
use Rattle.std.specs.Option.{option_map_or}
use Rattle.std.specs.String.{string_cmp}
use Rattle.std.proofs.lemmas.Iterator.Adapters.{fact_from_collect}
use Rattle.std.proofs.lemmas.Iterator.Consumers.{YieldsList-from_rest}
use Rattle.std.proofs.lemmas.Result.{IfOk-weaker}
use Rattle.segment.specs.Places.{as_list}
use Rattle.segment.proofs.InOrder.{same_at}
use Rattle.segment.proofs.texts.put_in_order.Goals as goal

pub returns : goal.returns
returns c = IfOk-weaker c.from_iter.result _ _
    (λ m ran.
    let made = fact_from_collect {E = Unit {0}} (tree.IsFromIterResult string_cmp) (Ok m) (ran.1, ran.3, ran.4) (YieldsList-from_rest c.args.texts.entries ran.2.0) in
    λ w. ap (λ o. option_map_or as_list o []) (same_at c.args.texts.entries m c.len-unique.ensures.unique made w))
    c.from_iter.ensures.ran
