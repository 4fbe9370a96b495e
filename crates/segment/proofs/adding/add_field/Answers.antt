use Rattle.std.proofs.Common.{rules, ◌≡◌, ◌<◌, ◌∙◌, ap, sym, subst, arith, Some, length, Option, Box, Global, List, ℕ, if◌then◌else◌}
use Rattle.std.proofs.lemmas.Map.Text.{btree_map_updates_text}
use Rattle.std.proofs.lemmas.Result.{on_ok_weaker}
use Rattle.std.specs.Prelude.{string_bytes}
use Rattle.std.specs.BTreeMap as tree
use Rattle.std.specs.Map.{update}
use Rattle.std.specs.Str.{bytes_eq}
use Rattle.std.specs.Box.{with_value}
use Rattle.std.specs.Option.{option_map}
use Rattle.doc.specs.Fields.{kind_at}
use Rattle.doc.specs.ScalarView.{scalars_view}
use Rattle.segment.specs.Added.{IsAdded, IsAddedOr}
use Rattle.segment.specs.Posted.{IsRoomFor}
use Rattle.segment.specs.declared.making.Making.{Making}
use Rattle.segment.proofs.AddedLaws.{field-added, long-there, room}
use Rattle.segment.proofs.adding.add_field.Goals as goal

-- the marks reach to the document
pub add_values-requires-clause-room : goal.add_values-requires-clause-room
add_values-requires-clause-room c =
    let there = rw c.as_str-2.ensures.value at c.in-Some.ensures.value in
    let marks = long-there c.args.len c.args.makings.now (string_bytes c.args.field.now.name) c.in-Some.making.now c.requires.long (sym there) in
    subst (IsRoomFor c.args.at) (sym c.deref_mut.ensures.value) (room c.args.len c.args.at c.in-Some.making.now.value c.requires.within marks)

pub add_values-requires-clause-has : goal.add_values-requires-clause-has
add_values-requires-clause-has c =
    let there = rw c.as_str-2.ensures.value at c.in-Some.ensures.value in
    let marks = long-there c.args.len c.args.makings.now (string_bytes c.args.field.now.name) c.in-Some.making.now c.requires.long (sym there) in
    subst (λ (m : Making). c.args.at < length m.has) (sym c.deref_mut.ensures.value) (omega (arith, c.requires.within, marks.has))

-- the column has more
pub returns-in-Some : goal.returns-in-Some
returns-in-Some c =
    let fields = c.args.mapping.now.fields in
    let name = string_bytes c.args.field.now.name in
    let vs = scalars_view c.args.field.now.values.items in
    let before = c.in-Some.making.now in
    let after = with_value before c.add_values.new.making in
    let there = rw c.as_str-2.ensures.value at c.in-Some.ensures.value in
    let updates = rw c.as_str-2.ensures.value at ((c.get_mut.follows.holds after).3 (search rules)) in
    let sets = btree_map_updates_text name c.args.makings.now (c.get_mut.follows.lender after) (Some after) updates in
    let added = rw (c.deref_mut.ensures.value, c.deref.ensures.value, c.kind-kind.ensures, c.as_str.ensures.value) at c.add_values.ensures in
    on_ok_weaker c.add_values.result
    (λ is. field-added fields c.args.len c.args.at name vs c.args.makings.now (c.get_mut.follows.lender after) after sets
    (subst (λ (o : Option Making). IsAddedOr c.args.len (kind_at name fields) vs c.args.at o (Some c.add_values.new.making)) (ap (option_map (λ (b : Box Making Global). b.value)) there) is)) added

-- the column is new
pub returns : goal.returns
returns c =
    let fields = c.args.mapping.now.fields in
    let name = string_bytes c.args.field.now.name in
    let vs = scalars_view c.args.field.now.values.items in
    let boxed = c.in_ok-boxed.boxed in
    let none = rw c.as_str-2.ensures.value at c.in_default.ensures.value in
    let left = c.get_mut.follows.lender-at-none in
    let same : (w : List ℕ) → tree.get_by_text left w ≡ tree.get_by_text c.args.makings.now w = λ w. (search rules) in
    let first = rw (c.in_ok-from_str.ensures.ok, c.as_str-3.ensures.value) at (btree_map_updates_text _ left c.insert.new.self _ c.in_ok-insert.ensures.updates) in
    let sets : (w : List ℕ) → tree.get_by_text c.insert.new.self w ≡ update bytes_eq (tree.get_by_text c.args.makings.now) name (Some boxed) w = λ w. first w ∙ ap (λ o. if bytes_eq name w then Some boxed else o) (same w) in
    let added = rw (c.deref-2.ensures.value, c.kind-kind.ensures, c.as_str.ensures.value) at c.in_ok-add_values.ensures in
    field-added fields c.args.len c.args.at name vs c.args.makings.now c.insert.new.self boxed sets
    (subst (λ (o : Option Making). IsAddedOr c.args.len (kind_at name fields) vs c.args.at o (Some boxed.value)) (ap (option_map (λ (b : Box Making Global). b.value)) none)
    (record { empty = c.in_ok-making.making; none = c.in_ok-making.ensures; added = subst (λ (m : Making). IsAdded (kind_at name fields) vs c.args.at c.in_ok-making.making m) (sym c.in_ok-boxed.ensures.ok) added }))
