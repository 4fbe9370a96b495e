-- A route as the program keeps it.
use Rattle.std.specs.Prelude.{option_map}
use Rattle.front.specs.declared.target.Route as kept
use Rattle.front.specs.Target.{Route}

abbrev pub route_view : kept.Route → Route
route_view r = record { endpoint = r.endpoint; index = option_map (λ i. i.items) r.index; id = r.id.items }
