use Rattle.std.specs.Prelude.{vec_len}
use Rattle.cluster.proofs.Handed.{handed_out}
use Rattle.cluster.proofs.handing.looked_at.Goals as goal

pub returns-clause-handed : goal.returns-clause-handed
returns-clause-handed g c =
    handed_out c.in_ok-copies.copies.items c.args.lefts.items (vec_len c.args.lefts) c.args.began.now c.args.receipts.now c.in-Ok.master c.in_ok-copies.ensures.same c.in_ok-copies.ensures.all c.in-Ok.ensures.legal c.requires.own c.requires.rising
    (rw c.deref.ensures.value at c.in_default.ensures.stand)
