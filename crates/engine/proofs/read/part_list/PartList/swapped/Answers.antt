use Rattle.std.proofs.lemmas.Bool.Decides.{nat_tests}
use Rattle.std.proofs.lemmas.List.Elements.{All-contains_itself}
use Rattle.std.specs.Prelude.{slice_index_or}
use Rattle.std.proofs.Common.{◌<◌, ◌≤◌, ◌∙◌, ◌++◌, ◌∷◌, [], ap, sym, subst, arith, length}
use Rattle.std.specs.Arc.{arc_value}
use Rattle.engine.specs.Parts.{PartListData, all_published}
use Rattle.engine.specs.Published.{AreGone, IsReplaced}
use Rattle.engine.proofs.LeftLaws.{split-among}
use Rattle.engine.proofs.SwapLaws.{split-none, split-order, split-some, replaced-parts, replaced-woven, replaced}
use Rattle.engine.proofs.read.part_list.PartList.swapped.Goals as goal

-- the parts that go into the merged one are in order
pub part_showing-requires-clause-order : goal.part_showing-requires-clause-order
part_showing-requires-clause-order c =
    let ps = c.self.inside.parts.items in
    let stay = c.in_ok-halves.halves.stay.items in
    let go = c.in_ok-halves.halves.go.items in
    let split = rw c.deref.ensures.value at c.in_ok-halves.ensures in
    rw c.deref-2.ensures.value (split-order (all_published c.args.taken.now) ps stay go split c.self.invariant.apart.sorted).1

-- and were taken
pub part_showing-requires-clause-among : goal.part_showing-requires-clause-among
part_showing-requires-clause-among c =
    let taken = all_published c.args.taken.now in
    let split = rw c.deref.ensures.value at c.in_ok-halves.ensures in
    rw c.deref-2.ensures.value (split-among taken c.self.inside.parts.items c.in_ok-halves.halves.stay.items c.in_ok-halves.halves.go.items split)

-- the merged part stands behind the others
pub invariant_of-result : goal.invariant_of-result
invariant_of-result c =
    let ps = c.self.inside.parts.items in
    let stay = c.in_ok-halves.halves.stay.items in
    let go = c.in_ok-halves.halves.go.items in
    let split = rw c.deref.ensures.value at c.in_ok-halves.ensures in
    let shows = rw c.deref-2.ensures.value at c.in_ok-part.ensures.documents in
    let fits : length stay < 4294967295 = omega (arith, c.len.ensures, c.if-len-ge-MOST_PARTS.false) in
    rw (c.in_ok-mapping.ensures, c.in_ok-push.ensures.items)
    (replaced-parts (arc_value c.self.inside.mapping) (all_published c.args.taken.now) ps stay go c.in_ok-part.part split c.self.invariant c.in_ok-part.ensures.mapping shows fits)

-- all show what they showed
pub returns-clause-documents : goal.returns-clause-documents
returns-clause-documents c =
    let ps = c.self.inside.parts.items in
    let stay = c.in_ok-halves.halves.stay.items in
    let go = c.in_ok-halves.halves.go.items in
    let split = rw c.deref.ensures.value at c.in_ok-halves.ensures in
    let shows = rw c.deref-2.ensures.value at c.in_ok-part.ensures.documents in
    rw c.in_ok-push.ensures.items
    (replaced-woven (arc_value c.self.inside.mapping) (all_published c.args.taken.now) ps stay go c.in_ok-part.part split c.self.invariant c.in_ok-part.ensures.mapping shows
    ∙ ap (λ (l : PartListData). l.documents) c.self.view_is)

pub returns-clause-there : goal.returns-clause-there
returns-clause-there c =
    let taken = all_published c.args.taken.now in
    let split = rw c.deref.ensures.value at c.in_ok-halves.ensures in
    let some : 1 ≤ length c.in_ok-halves.halves.go.items = grind (arith, nat_tests, c.is_empty.ensures, c.if-is_empty.false) in
    λ gone. split-some taken c.self.inside.parts.items c.in_ok-halves.halves.stay.items c.in_ok-halves.halves.go.items split some
    (subst (λ (l : PartListData). AreGone l.published taken) (sym c.self.view_is) gone)

pub returns-clause-swapped : goal.returns-clause-swapped
returns-clause-swapped c =
    let taken = all_published c.args.taken.now in
    let ps = c.self.inside.parts.items in
    let stay = c.in_ok-halves.halves.stay.items in
    let go = c.in_ok-halves.halves.go.items in
    let split = rw c.deref.ensures.value at c.in_ok-halves.ensures in
    let shows = rw c.deref-2.ensures.value at c.in_ok-part.ensures.documents in
    rw c.in_ok-push.ensures.items
    (subst (λ (l : PartListData). IsReplaced taken c.args.number l.mapping l.published (all_published (stay ++ c.in_ok-part.part ∷ []))) c.self.view_is
    (replaced (arc_value c.self.inside.mapping) taken ps stay go c.in_ok-part.part split c.self.invariant c.in_ok-part.ensures.mapping shows c.args.number c.in_ok-part.ensures.number))

pub returns-then-is_empty-clause-gone : goal.returns-then-is_empty-clause-gone
returns-then-is_empty-clause-gone c =
    let taken = all_published c.args.taken.now in
    let split = rw c.deref.ensures.value at c.in_ok-halves.ensures in
    let few : length c.in_ok-halves.halves.go.items ≤ 0 = grind (arith, nat_tests, c.is_empty.ensures, c.if-is_empty.true) in
    λ none. subst (λ (l : PartListData). AreGone l.published taken) c.self.view_is
    (λ k d lt here. split-none taken c.self.inside.parts.items c.in_ok-halves.halves.stay.items c.in_ok-halves.halves.go.items split few (slice_index_or taken k d) here (All-contains_itself taken k d lt))
