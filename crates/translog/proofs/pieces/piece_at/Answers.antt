use Rattle.std.proofs.Common.{◌≡◌, ◌∙◌, ◌∷◌, [], false, length, sym, arith}
use Rattle.std.specs.Prelude.{◌||◌, nat_lt}
use Rattle.std.proofs.lemmas.Bool.{le-ltb}
use Rattle.std.proofs.lemmas.Slice.Eq.{bytes_eq-Decides}
use Rattle.translog.proofs.PieceReading.{upgrade_at, upgrade_refused, group_refused}
use Rattle.translog.proofs.pieces.piece_at.Goals as goal

pub returns-then-groups-clause-refused : goal.returns-then-groups-clause-refused
returns-then-groups-clause-refused c =
    upgrade_refused c.args.groups c.args.offset c.args.content.now ((bytes_eq-Decides c.args.content.now (5 ∷ [])).0 (sym c.is_upgrade.ensures ∙ c.if-is_upgrade.true)) c.if-groups.true

pub returns-then-is_upgrade-clause-found : goal.returns-then-is_upgrade-clause-found
returns-then-is_upgrade-clause-found c =
    rw c.new.ensures.items (upgrade_at c.args.groups c.args.content.now ((bytes_eq-Decides c.args.content.now (5 ∷ [])).0 (sym c.is_upgrade.ensures ∙ c.if-is_upgrade.true)) c.if-groups.false)

pub returns-then-len-ge2-clause-refused : goal.returns-then-len-ge2-clause-refused
returns-then-len-ge2-clause-refused c =
    let not_due : (c.args.groups || nat_lt (length c.in-Ok.found.items) 2) ≡ false = rw c.if-not-groups.true (le-ltb _ _ (omega (arith, c.len.ensures, c.if-len-ge2.true))) in
    group_refused c.args.groups c.args.offset c.args.content.now c.in-Ok.found.items (sym c.is_upgrade.ensures ∙ c.if-is_upgrade.false) c.in-Ok.ensures.exact not_due
