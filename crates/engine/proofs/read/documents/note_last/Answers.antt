use Rattle.std.proofs.Common.{ap, subst, sym}
use Rattle.op.specs.Operations.{concerns}
use Rattle.engine.specs.Latest.{AreOn}
use Rattle.engine.proofs.LatestLaws.{noted, on_own, AreOn-push}
use Rattle.engine.proofs.read.documents.note_last.Goals as goal

-- it is noted at its id
pub returns-in_ok-push-in-Index-clause-on : goal.returns-in_ok-push-in-Index-clause-on
returns-in_ok-push-in-Index-clause-on c =
    subst AreOn (sym c.in_ok-push-in-Index.ensures.items)
    (AreOn-push c.args.pairs.now.items (c.as_str.result, c.args.op) c.requires (on_own c.as_str.result.now c.in-Index.id c.args.op.now c.as_str.ensures.text (λ q. ap (concerns q) c.in-Index.is)))

pub returns-in_ok-push-in-Index-clause-last : goal.returns-in_ok-push-in-Index-clause-last
returns-in_ok-push-in-Index-clause-last c =
    rw c.in_ok-push-in-Index.ensures.items
    (noted c.args.pairs.now.items c.as_str.result c.args.op c.in-Index.id c.as_str.ensures.text (λ q. ap (concerns q) c.in-Index.is))

pub returns-in_ok-push-in-Delete-clause-on : goal.returns-in_ok-push-in-Delete-clause-on
returns-in_ok-push-in-Delete-clause-on c =
    subst AreOn (sym c.in_ok-push-in-Delete.ensures.items)
    (AreOn-push c.args.pairs.now.items (c.as_str-in-Delete.result, c.args.op) c.requires (on_own c.as_str-in-Delete.result.now c.in-Delete.id c.args.op.now c.as_str-in-Delete.ensures.text (λ q. ap (concerns q) c.in-Delete.is)))

pub returns-in_ok-push-in-Delete-clause-last : goal.returns-in_ok-push-in-Delete-clause-last
returns-in_ok-push-in-Delete-clause-last c =
    rw c.in_ok-push-in-Delete.ensures.items
    (noted c.args.pairs.now.items c.as_str-in-Delete.result c.args.op c.in-Delete.id c.as_str-in-Delete.ensures.text (λ q. ap (concerns q) c.in-Delete.is))
