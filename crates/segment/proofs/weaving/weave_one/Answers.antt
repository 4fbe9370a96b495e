use Rattle.std.proofs.Common.{rules, ◌≡◌, ◌∙◌, ap, sym, subst, Some, Box, Global, List, ℕ, if◌then◌else◌}
use Rattle.std.proofs.lemmas.Map.Text.{btree_map_updates_text}
use Rattle.std.proofs.lemmas.Result.{on_ok_weaker}
use Rattle.std.specs.BTreeMap as tree
use Rattle.std.specs.Map.{update}
use Rattle.std.specs.Str.{bytes_eq}
use Rattle.std.specs.Box.{with_value}
use Rattle.std.specs.Option.{option_map}
use Rattle.segment.specs.Added.{making_at, IsLong}
use Rattle.segment.specs.WovenColumns.{IsWoven}
use Rattle.segment.specs.declared.making.Making.{Making}
use Rattle.segment.proofs.AddedLaws.{long-empty, long-there}
use Rattle.segment.proofs.JoinedLaws.{elsewhere, long-with, there}
use Rattle.segment.proofs.WeavingLaws.{long-woven, woven-first, woven-here}
use Rattle.segment.proofs.weaving.weave_one.Goals as goal

pub weave_column-requires-clause-long : goal.weave_column-requires-clause-long
weave_column-requires-clause-long c =
    subst (IsLong c.args.len) (sym c.deref_mut.ensures.value) (long-there c.args.len c.args.makings.now c.args.name.now c.in-Some.making.now c.requires.long (sym c.in-Some.ensures.value))

-- the column has more
pub returns-in-Some-clause-here : goal.returns-in-Some-clause-here
returns-in-Some-clause-here c =
    let name = c.args.name.now in
    let before = c.in-Some.making.now in
    let after = with_value before c.weave_column.new.making in
    let old = c.args.makings.now in
    let new = c.get_mut.follows.lender after in
    let sets = btree_map_updates_text name old new (Some after) ((c.get_mut.follows.holds after).3 (search rules)) in
    let woven = rw c.deref_mut.ensures.value at c.weave_column.ensures in
    on_ok_weaker c.weave_column.result
    (λ is. woven-here c.args.len c.args.to.now c.args.column.now (making_at old name) (making_at new name) before.value c.weave_column.new.making (ap (option_map (λ (b : Box Making Global). b.value)) (sym c.in-Some.ensures.value)) (there old new name after sets) is) woven

pub returns-in-Some-clause-others : goal.returns-in-Some-clause-others
returns-in-Some-clause-others c =
    let name = c.args.name.now in
    let after = with_value c.in-Some.making.now c.weave_column.new.making in
    let new = c.get_mut.follows.lender after in
    let sets = btree_map_updates_text name c.args.makings.now new (Some after) ((c.get_mut.follows.holds after).3 (search rules)) in
    on_ok_weaker c.weave_column.result (λ is. elsewhere c.args.makings.now new name after sets) c.weave_column.ensures

pub returns-in-Some-clause-long : goal.returns-in-Some-clause-long
returns-in-Some-clause-long c =
    let name = c.args.name.now in
    let before = c.in-Some.making.now in
    let after = with_value before c.weave_column.new.making in
    let new = c.get_mut.follows.lender after in
    let sets = btree_map_updates_text name c.args.makings.now new (Some after) ((c.get_mut.follows.holds after).3 (search rules)) in
    let marks = long-there c.args.len c.args.makings.now name before c.requires.long (sym c.in-Some.ensures.value) in
    let woven = rw c.deref_mut.ensures.value at c.weave_column.ensures in
    on_ok_weaker c.weave_column.result
    (λ is. long-with c.args.makings.now new name after sets c.args.len c.requires.long (long-woven c.args.len c.args.to.now c.args.column.now before.value c.weave_column.new.making is marks)) woven

-- the column is new
pub returns-clause-here : goal.returns-clause-here
returns-clause-here c =
    let name = c.args.name.now in
    let old = c.args.makings.now in
    let boxed = c.in_ok-boxed.boxed in
    let left = c.get_mut.follows.lender-at-none in
    let same : (w : List ℕ) → tree.get_by_text left w ≡ tree.get_by_text old w = λ w. (search rules) in
    let first = rw (c.in_ok-from_str.ensures.ok) at (btree_map_updates_text _ left c.insert.new.self _ c.in_ok-insert.ensures.updates) in
    let sets : (w : List ℕ) → tree.get_by_text c.insert.new.self w ≡ update bytes_eq (tree.get_by_text old) name (Some boxed) w = λ w. first w ∙ ap (λ o. if bytes_eq name w then Some boxed else o) (same w) in
    woven-first c.args.len c.args.to.now c.args.column.now (making_at old name) (making_at c.insert.new.self name) boxed.value (ap (option_map (λ (b : Box Making Global). b.value)) (sym c.in_default.ensures.value)) (there old c.insert.new.self name boxed sets)
    (record { empty = c.in_ok-making.making; none = c.in_ok-making.ensures; woven = subst (λ (m : Making). IsWoven c.args.to.now c.args.column.now c.in_ok-making.making m) (sym c.in_ok-boxed.ensures.ok) c.in_ok-weave_column.ensures })

pub returns-clause-others : goal.returns-clause-others
returns-clause-others c =
    let name = c.args.name.now in
    let old = c.args.makings.now in
    let boxed = c.in_ok-boxed.boxed in
    let left = c.get_mut.follows.lender-at-none in
    let same : (w : List ℕ) → tree.get_by_text left w ≡ tree.get_by_text old w = λ w. (search rules) in
    let first = rw (c.in_ok-from_str.ensures.ok) at (btree_map_updates_text _ left c.insert.new.self _ c.in_ok-insert.ensures.updates) in
    elsewhere old c.insert.new.self name boxed (λ w. first w ∙ ap (λ o. if bytes_eq name w then Some boxed else o) (same w))

pub returns-clause-long : goal.returns-clause-long
returns-clause-long c =
    let name = c.args.name.now in
    let old = c.args.makings.now in
    let boxed = c.in_ok-boxed.boxed in
    let left = c.get_mut.follows.lender-at-none in
    let same : (w : List ℕ) → tree.get_by_text left w ≡ tree.get_by_text old w = λ w. (search rules) in
    let first = rw (c.in_ok-from_str.ensures.ok) at (btree_map_updates_text _ left c.insert.new.self _ c.in_ok-insert.ensures.updates) in
    let woven = long-woven c.args.len c.args.to.now c.args.column.now c.in_ok-making.making c.weave_column-2.new.making c.in_ok-weave_column.ensures (long-empty c.args.len c.in_ok-making.making c.in_ok-making.ensures) in
    long-with old c.insert.new.self name boxed (λ w. first w ∙ ap (λ o. if bytes_eq name w then Some boxed else o) (same w)) c.args.len c.requires.long (subst (IsLong c.args.len) (sym c.in_ok-boxed.ensures.ok) woven)
