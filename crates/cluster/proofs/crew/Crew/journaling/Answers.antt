use Rattle.std.proofs.Common.{rules, ◌≡◌, ◌<◌, ◌∙◌, List, sym, ap, subst}
use Rattle.node.specs.Held.{JournalData}
use Rattle.replica.specs.Copy.{Copy}
use Rattle.cluster.specs.Opened.{last_id, IdsRiseFrom}
use Rattle.cluster.proofs.Handed.{rise_more}
use Rattle.cluster.proofs.crew.Crew.journaling.Goals as goal

pub invariant_of-self-2 : goal.invariant_of-self-2
invariant_of-self-2 g c =
    let so_far = c.reserve.new.self.items in
    let rising : IdsRiseFrom 0 so_far = subst (λ (cs : List Copy). IdsRiseFrom 0 cs) (sym c.reserve.ensures.items) c.args.self.now.rising in
    let greater : last_id 0 so_far < c.id.result = subst (λ (cs : List Copy). last_id 0 cs < c.id.result) c.as_slice.ensures.value (c.is_next.ensures (search rules)) in
    let is : c.again.result ≡ c.args.ready.copy = c.again.ensures ∙ c.began.ensures ∙ ap (λ (h : JournalData). h.opening) c.in_ok-copy.ensures in
    let id : c.id.result ≡ c.again.result.id = c.id.ensures ∙ ap (λ (x : Copy). x.id) (c.copy.ensures ∙ sym is) in
    record { rising = rise_more so_far c.push_reserved.new.self.items c.again.result c.id.result rising greater id c.push_reserved.ensures.items }
