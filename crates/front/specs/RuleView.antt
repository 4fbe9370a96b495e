-- A rule as the program keeps it.
use Rattle.std.specs.Prelude.{map, string_bytes}
use Rattle.front.specs.declared.admission.Admission as kept
use Rattle.front.specs.declared.rule.Rule as rules
use Rattle.front.specs.Admission.{Admission}
use Rattle.front.specs.Rule.{Rule}

abbrev pub admission_view : kept.Admission → Admission
admission_view a = record { origins = map string_bytes a.origins.items; names = map string_bytes a.names.items }

abbrev pub rule_view : rules.Rule → Rule
rule_view r = record { greets = r.greets; admission = admission_view r.admission; most = r.most; idle = r.idle }
