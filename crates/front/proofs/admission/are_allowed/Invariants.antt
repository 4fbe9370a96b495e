use Rattle.std.proofs.Common.{◌≡◌, drop, map}
use Rattle.std.specs.List.{list_all}
use Rattle.front.specs.Admission.{is_allowed}
use Rattle.front.specs.RuleView.{admission_view}
use Rattle.front.proofs.admission.are_allowed.Given as goal

-- the origins that are left decide
abbrev pub invariant-loop-origin : goal.invariant-loop-origin
invariant-loop-origin l = list_all (is_allowed (admission_view l.admission)) (map (λ o. o.items) (drop l.origin-index l.origins)) ≡ list_all (is_allowed (admission_view l.admission)) (map (λ o. o.items) l.origins)
