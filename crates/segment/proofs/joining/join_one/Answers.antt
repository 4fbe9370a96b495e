use Rattle.std.proofs.Common.{rules, ◌≡◌, ◌∙◌, ap, sym, Some, List, ℕ, if◌then◌else◌}
use Rattle.std.proofs.lemmas.Map.Text.{btree_map_updates_text}
use Rattle.std.proofs.lemmas.Result.{on_ok_weaker}
use Rattle.std.specs.Prelude.{string_bytes}
use Rattle.std.specs.BTreeMap as tree
use Rattle.std.specs.Str.{bytes_eq}
use Rattle.std.specs.Box.{with_value}
use Rattle.segment.proofs.AddedLaws.{long-there}
use Rattle.segment.proofs.JoinedLaws.{elsewhere, long-joined, long-with}
use Rattle.segment.proofs.joining.join_one.Goals as goal

pub join-requires-clause-has : goal.join-requires-clause-has
join-requires-clause-has c =
    let there = rw c.as_str.ensures.value at c.in-Some.ensures.value in
    let marks = long-there c.args.len c.args.makings.now (string_bytes c.args.name) c.in-Some.making.now c.requires.long (sym there) in
    rw (c.into_inner.ensures, c.deref_mut.ensures.value) (c.requires.later.has ∙ sym marks.has)

pub join-requires-clause-yes : goal.join-requires-clause-yes
join-requires-clause-yes c =
    let there = rw c.as_str.ensures.value at c.in-Some.ensures.value in
    let marks = long-there c.args.len c.args.makings.now (string_bytes c.args.name) c.in-Some.making.now c.requires.long (sym there) in
    rw (c.into_inner.ensures, c.deref_mut.ensures.value) (c.requires.later.yes ∙ sym marks.yes)

pub join-requires-clause-no : goal.join-requires-clause-no
join-requires-clause-no c =
    let there = rw c.as_str.ensures.value at c.in-Some.ensures.value in
    let marks = long-there c.args.len c.args.makings.now (string_bytes c.args.name) c.in-Some.making.now c.requires.long (sym there) in
    rw (c.into_inner.ensures, c.deref_mut.ensures.value) (c.requires.later.no ∙ sym marks.no)

pub returns-in-Some-clause-others : goal.returns-in-Some-clause-others
returns-in-Some-clause-others c =
    let name = string_bytes c.args.name in
    let after = with_value c.in-Some.making.now c.join.new.self in
    let updates = rw c.as_str.ensures.value at ((c.get_mut.follows.holds after).3 (search rules)) in
    let sets = btree_map_updates_text name c.args.makings.now (c.get_mut.follows.lender after) (Some after) updates in
    on_ok_weaker c.join.result (λ is. elsewhere c.args.makings.now (c.get_mut.follows.lender after) name after sets) c.join.ensures

pub returns-in-Some-clause-long : goal.returns-in-Some-clause-long
returns-in-Some-clause-long c =
    let name = string_bytes c.args.name in
    let before = c.in-Some.making.now in
    let after = with_value before c.join.new.self in
    let there = rw c.as_str.ensures.value at c.in-Some.ensures.value in
    let updates = rw c.as_str.ensures.value at ((c.get_mut.follows.holds after).3 (search rules)) in
    let sets = btree_map_updates_text name c.args.makings.now (c.get_mut.follows.lender after) (Some after) updates in
    let marks = long-there c.args.len c.args.makings.now name before c.requires.long (sym there) in
    let joined = rw (c.deref_mut.ensures.value, c.into_inner.ensures) at c.join.ensures in
    on_ok_weaker c.join.result
    (λ is. long-with c.args.makings.now (c.get_mut.follows.lender after) name after sets c.args.len c.requires.long (long-joined c.args.len before.value c.args.later.value c.join.new.self marks c.requires.later is)) joined

pub returns-clause-others : goal.returns-clause-others
returns-clause-others c =
    let name = string_bytes c.args.name in
    let left = c.get_mut.follows.lender-at-none in
    let same : (w : List ℕ) → tree.get_by_text left w ≡ tree.get_by_text c.args.makings.now w = λ w. (search rules) in
    let first = btree_map_updates_text name left c.insert.new.self _ c.in_ok-insert.ensures.updates in
    elsewhere c.args.makings.now c.insert.new.self name c.args.later (λ w. first w ∙ ap (λ o. if bytes_eq name w then Some c.args.later else o) (same w))

pub returns-clause-long : goal.returns-clause-long
returns-clause-long c =
    let name = string_bytes c.args.name in
    let left = c.get_mut.follows.lender-at-none in
    let same : (w : List ℕ) → tree.get_by_text left w ≡ tree.get_by_text c.args.makings.now w = λ w. (search rules) in
    let first = btree_map_updates_text name left c.insert.new.self _ c.in_ok-insert.ensures.updates in
    long-with c.args.makings.now c.insert.new.self name c.args.later (λ w. first w ∙ ap (λ o. if bytes_eq name w then Some c.args.later else o) (same w)) c.args.len c.requires.long c.requires.later
