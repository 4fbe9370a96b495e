use Rattle.std.proofs.Common.{List, Option, refl, sym, subst}
use mathlib.Core.List.{IsPrefix}
use Rattle.ruled.specs.declared.entry.MasterEntry.{MasterEntry}
use Rattle.group.specs.Known.{KnownData, past_in}
use Rattle.group.proofs.known.Known.is_followed_by.Goals as goal

pub returns-in-None-clause-behind : goal.returns-in-None-clause-behind
returns-in-None-clause-behind g c = λ _.
    subst (λ (k : KnownData). IsPrefix k.past c.args.past.now) c.self.view_is
    (subst (λ (o : Option (List MasterEntry)). IsPrefix (past_in o) c.args.past.now) (sym c.in-None.is) (c.args.past.now, refl))
