use Rattle.std.proofs.Common.{refl}
use Rattle.cluster.proofs.Bulks.{settled_in}
use Rattle.cluster.proofs.bulk.settled.Goals as goal

pub returns-in-Some : goal.returns-in-Some
returns-in-Some g c = record {
  settled = settled_in c.args.receipt _ c.deref.result.now c.in_ok-places.field-0 c.in-Some.places refl c.deref.ensures.value c.in-Some.is c.in_ok-places.ensures.settled c.in_ok-places.ensures.behind refl;
}
