use Rattle.std.proofs.Common.{Option, Some, subst}
use Rattle.chronicle.specs.Registered.{PrefixData}
use Rattle.journal.specs.declared.journal.Deed.{Deed}
use Rattle.journal.specs.declared.journal.Journal.{Journal}
use Rattle.node.specs.Ended.{HasReceipt, IsEnded}
use Rattle.node.proofs.Ends.{has_receipt, lacks_behind}
use Rattle.node.proofs.ended.EndedCopy.has.Goals as goal

pub returns-then-has-clause-has : goal.returns-then-has-clause-has
returns-then-has-clause-has g c =
    let e = subst (λ (o : Option (PrefixData Deed)). IsEnded c.self.inside.began o c.self.inside.journal) c.in-Some.is c.self.invariant in
    λ holds. subst (λ (j : Journal). HasReceipt c.args.receipt.now j) c.self.view_is (has_receipt c.self.inside.began c.in-Some.heard c.self.inside.journal c.args.receipt.now c.stands_in.result e (c.has.ensures.among c.if-has.true) c.stands_in.ensures holds)

pub returns-else-has-clause-lacks : goal.returns-else-has-clause-lacks
returns-else-has-clause-lacks g c =
    let e = subst (λ (o : Option (PrefixData Deed)). IsEnded c.self.inside.began o c.self.inside.journal) c.in-Some.is c.self.invariant in
    λ other. lacks_behind c.self.inside.began c.in-Some.heard c.args.self.now c.args.receipt.now (subst (λ (j : Journal). IsEnded c.self.inside.began (Some c.in-Some.heard) j) c.self.view_is e) (c.has.ensures.ahead other)
