use Rattle.std.proofs.Common.{sym, ap, subst, ◌∙◌}
use Rattle.node.specs.Reading.{GotData, IsGot, entries_in}
use Rattle.node.proofs.Prefixes.{before_upto, behind_upto, none_behind}
use Rattle.node.proofs.got.Got.agrees.Goals as goal

pub returns-in-Some-clause-before : goal.returns-in-Some-clause-before
returns-in-Some-clause-before g c = λ lt.
    before_upto c.args.receipt.now c.args.self.now c.in-Some.upto c.self.inside.upto c.upto-in-Some.result.now.entries c.upto-in-Some.ensures.stands (subst IsGot c.self.view_is c.self.invariant.1)
    (sym (ap (λ (v : GotData). v.deeds) c.self.view_is)) c.in-Some.is c.upto-in-Some.ensures.entries c.agrees-in-Some.ensures lt

pub returns-in-Some-clause-behind : goal.returns-in-Some-clause-behind
returns-in-Some-clause-behind g c = λ le.
    behind_upto c.args.receipt.now c.args.self.now c.in-Some.upto c.self.inside.upto c.upto.result.now.entries c.upto.ensures.stands (subst IsGot c.self.view_is c.self.invariant.1)
    (sym (ap (λ (v : GotData). v.deeds) c.self.view_is)) c.in-Some.is c.upto.ensures.entries c.agrees.ensures le

pub returns-in_default-clause-behind : goal.returns-in_default-clause-behind
returns-in_default-clause-behind g c = λ le. none_behind c.args.receipt.now c.args.self.now (sym (ap (λ (v : GotData). v.deeds) c.self.view_is) ∙ ap entries_in c.in_default.is)
