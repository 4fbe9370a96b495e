use Rattle.std.proofs.Common.{rules}
use Rattle.std.proofs.lemmas.List.Sorted.{answers_always}
use Rattle.engine.proofs.SlotLaws.{length-ops, searched_slots}
use Rattle.engine.proofs.operations.slots.place_of.Goals as goal

-- the closure gives an operation's number
pub returns : goal.returns
returns c =
    let facts = c.binary_search_by_key.ensures in
    let by_key = facts.position (λ slot. slot.op.seq) (answers_always _ _ _ (λ f a r g called. search rules)) in
    let place = searched_slots c.args.seq c.args.slots.now c.requires _ facts.bound by_key in
    record { found = place.found; there = rw (length-ops c.args.slots.now) at place.there; absent = place.absent }
