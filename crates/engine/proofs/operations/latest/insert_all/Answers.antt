use Rattle.std.proofs.Common.{◌≡◌, ◌≤◌, ◌+◌, ◌∙◌, cond, true, false, get_or, length, refl, sym, ap, Some, arith}
use Rattle.std.specs.HashMap.{spare}
use Rattle.std.proofs.lemmas.List.{length-set}
use Rattle.doc.specs.Id.{is_id}
use Rattle.engine.specs.IdFilter.{place_in}
use Rattle.engine.specs.IdTables.{count_at, number_among}
use Rattle.engine.proofs.IdTablesLaws.{among-set, at_get, one-place, room-here, room-left}
use Rattle.engine.proofs.NotedLaws.{noted-step}
use Rattle.engine.proofs.operations.latest.insert_all.Goals as goal

-- one number more
pub loop-id-preserved : goal.loop-id-preserved
loop-id-preserved c =
    let ts = c.loop-id.tables in
    let at = c.place_of-at.result in
    let i = c.in-Some.id in
    let old = get_or ts at c.index-tables-at.result in
    let new = c.insert.new.self in
    let steps = c.in-Some.ensures.steps in
    let left = c.loop-id.invariant in
    let lt = c.place_of-at.ensures.within in
    let was = at_get ts at c.index-tables-at.result lt in
    let place : at ≡ place_in (length c.args.tables.now) i = c.place_of-at.ensures.is ∙ ap (λ n. place_in n i) left.2 in (
      λ id. noted-step (i, c.in-Some.seq) c.next.new.self.rest.items id (number_among ts id) _ _
          (among-set ts _ at old new (λ b n. cond b (Some c.in-Some.seq) n) (λ w. is_id i w) (λ n. refl) (λ w same. sym (one-place (length ts) i w same) ∙ sym c.place_of-at.ensures.is) lt was refl
          (λ w. c.in_ok-insert.ensures.updates.0 (record { 0 = w })) id)
          (rw steps.0 at (left.0 id)),
      room-left ts (length c.args.tables.now) at old new (i, c.in-Some.seq) c.next.new.self.rest.items place lt was (omega (arith, c.in_ok-insert.ensures.spare)) (rw steps.0 at left.1),
      length-set ts at new ∙ left.2,
      omega (arith, steps.1, left.3, ap length steps.0),
    )

-- there is room for each
pub returns-in_err-insert-clause-ok : goal.returns-in_err-insert-clause-ok
returns-in_err-insert-clause-ok c =
    let ts = c.loop-id.tables in
    let at = c.place_of-at.result in
    let n = length c.args.tables.now in
    let left = c.loop-id.invariant in
    let lt = c.place_of-at.ensures.within in
    let place : at ≡ place_in n c.in-Some.id = c.place_of-at.ensures.is ∙ ap (λ n. place_in n c.in-Some.id) left.2 in
    let room : count_at n at c.next.new.self.rest.items + 1 ≤ spare (get_or ts at c.index-tables-at.result)
    = room-here ts n at (get_or ts at c.index-tables-at.result) (c.in-Some.id, c.in-Some.seq) c.next.new.self.rest.items place (at_get ts at c.index-tables-at.result lt)
    (rw c.in-Some.ensures.steps.0 at (left.1 at (omega (arith, lt, left.2)))) in
    let not_refused : false ≡ true = c.in_err-insert.ensures.succeeds (omega (arith, room)) in
    cc

pub returns-in_err-insert-clause-noted : goal.returns-in_err-insert-clause-noted
returns-in_err-insert-clause-noted c =
    let ts = c.loop-id.tables in
    let at = c.place_of-at.result in
    let n = length c.args.tables.now in
    let left = c.loop-id.invariant in
    let lt = c.place_of-at.ensures.within in
    let place : at ≡ place_in n c.in-Some.id = c.place_of-at.ensures.is ∙ ap (λ n. place_in n c.in-Some.id) left.2 in
    let room : count_at n at c.next.new.self.rest.items + 1 ≤ spare (get_or ts at c.index-tables-at.result)
    = room-here ts n at (get_or ts at c.index-tables-at.result) (c.in-Some.id, c.in-Some.seq) c.next.new.self.rest.items place (at_get ts at c.index-tables-at.result lt)
    (rw c.in-Some.ensures.steps.0 at (left.1 at (omega (arith, lt, left.2)))) in
    let not_refused : false ≡ true = c.in_err-insert.ensures.succeeds (omega (arith, room)) in
    λ id. cc
