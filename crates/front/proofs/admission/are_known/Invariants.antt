use Rattle.std.proofs.Common.{◌≡◌, drop, map}
use Rattle.std.specs.List.{list_all}
use Rattle.front.specs.Admission.{is_known_host}
use Rattle.front.specs.RuleView.{admission_view}
use Rattle.front.proofs.admission.are_known.Given as goal

-- the hosts that are left decide
abbrev pub invariant-loop-host : goal.invariant-loop-host
invariant-loop-host l = list_all (is_known_host (admission_view l.admission)) (map (λ h. h.items) (drop l.host-index l.hosts)) ≡ list_all (is_known_host (admission_view l.admission)) (map (λ h. h.items) l.hosts)
