use Rattle.std.proofs.Common.{sym, ◌∙◌}
use Rattle.std.proofs.lemmas.Map.Lookups.{exact_bytes}
use Rattle.std.proofs.lemmas.Map.Views.{tells_apart}
use Rattle.engine.proofs.operations.latest.known_in.Goals as goal

-- equal keys have one text
pub returns-in-Some : goal.returns-in-Some
returns-in-Some c =
    c.in_ok-copy-in-Some.ensures ∙ sym (tells_apart exact_bytes c.in_ok-copy.field-0 c.in-Some.same.now.0 c.in-Some.ensures.same_key) ∙ c.in_ok-copy.ensures
