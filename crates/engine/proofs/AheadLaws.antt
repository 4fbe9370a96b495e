-- Operations that stand behind others.
use Rattle.std.proofs.Common.{◌≡◌, List, ◌++◌, Some, None, sym, ap, ◌∙◌}
use Rattle.std.specs.Option.{option_map, option_or}
use Rattle.doc.specs.Id.{Id}
use Rattle.op.specs.declared.operation.Op.{Op}
use Rattle.op.specs.Operations.{last_on}
use Rattle.engine.specs.Last.{last_of}
use Rattle.engine.proofs.RiseLaws.{last_on-append}

pub behind_some : (os ps : List Op) (id : Id) (o : Op) → Some o ≡ last_on ps id → Some (last_of o) ≡ option_map last_of (last_on (os ++ ps) id)
behind_some os ps id o is = sym (ap (option_map last_of) (last_on-append os ps id ∙ ap (λ l. option_or l (last_on os id)) (sym is)))

pub behind_none : (os ps : List Op) (id : Id) → None ≡ last_on ps id → option_map last_of (last_on os id) ≡ option_map last_of (last_on (os ++ ps) id)
behind_none os ps id is = sym (ap (option_map last_of) (last_on-append os ps id ∙ ap (λ l. option_or l (last_on os id)) (sym is)))
