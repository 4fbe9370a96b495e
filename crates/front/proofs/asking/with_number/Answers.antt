use Rattle.std.proofs.Common.{◌∙◌, ap, rules}
use Rattle.serde_json.specs.Data.{object}
use Rattle.serde_json.specs.View.{members_view}
use Rattle.serde_json.proofs.Views.{view-Object, members_view-insert_entry}
use Rattle.front.proofs.asking.with_number.Goals as goal

-- an insert puts the number at the key
pub returns-in_ok-insert-in-Some-Object : goal.returns-in_ok-insert-in-Some-Object
returns-in_ok-insert-in-Some-Object c =
    let put_there = view-Object c.insert.new.self ∙ ap (λ es. object (members_view es)) c.in_ok-insert-in-Some-Object.ensures.entries ∙ ap object (members_view-insert_entry _ c.in_ok-from_str-in-Some-Object.field-0 c.from.result) in
    let told = rw (c.in_ok-from_str-in-Some-Object.ensures.ok, c.from.ensures) at put_there in
    search (rules, told, view-Object)
