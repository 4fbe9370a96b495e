use Rattle.std.proofs.Common.{◌≡◌, ◌≢◌, ℕ, List, [], Ok, length, Vec, Global, ◌∙◌, map, arith}
use Rattle.std.proofs.lemmas.List.{length-map}
use Rattle.std.proofs.lemmas.Bool.Decides.{nat_tests}
use Rattle.translog.proofs.FramesLaws.{opened_of}
use Rattle.master.specs.Log.{header}
use Rattle.master.proofs.Decisions.{no_contents, some_contents, begun_none, begun_some, unbegun_unread, unbegun_mended, unbegun_opened, unbegun_first, gives_first, first_unless, first_after, left_unless, left_after}
use Rattle.master.proofs.Replays.{fails_begun}
use Rattle.master.proofs.master.begun.Goals as goal

pub returns-in-Err-clause-state : goal.returns-in-Err-clause-state
returns-in-Err-clause-state g c = fails_begun c.in-Err.fault c.args.copies c.args.frames.now.header _ c.requires.header c.in-Err.ensures.found

pub returns-in-Err-clause-refused : goal.returns-in-Err-clause-refused
returns-in-Err-clause-refused g c = unbegun_unread c.in-Err.fault c.args.copies _ _ _ _ c.in-Err.ensures.held c.in-Err.ensures.counts

pub returns-then-not-is_empty-clause-state : goal.returns-then-not-is_empty-clause-state
returns-then-not-is_empty-clause-state g c =
    let is = begun_some c.args.copies c.args.frames.now.header _ _ c.requires.header c.in-Ok.ensures.found (λ none. absurd (grind (arith, nat_tests, none, c.if-not-is_empty.true, c.is_empty.ensures, c.as_slice.ensures.value, length-map c.in-Ok.found.0.items (λ (v : Vec ℕ Global). v.items)))) in
    rw is (rw c.in-Ok.ensures.held at c.opened.ensures.state)

pub returns-then-not-is_empty-clause-first : goal.returns-then-not-is_empty-clause-first
returns-then-not-is_empty-clause-first g c =
    let some = some_contents c.args.frames.now.header _ _ c.requires.header c.in-Ok.ensures.found (λ none. absurd (grind (arith, nat_tests, none, c.if-not-is_empty.true, c.is_empty.ensures, c.as_slice.ensures.value, length-map c.in-Ok.found.0.items (λ (v : Vec ℕ Global). v.items)))) in
    first_unless c.opened.result _ _ c.args.copies some

pub returns-then-not-is_empty-clause-left : goal.returns-then-not-is_empty-clause-left
returns-then-not-is_empty-clause-left g c = left_after c.opened.result _ _ _ c.in-Ok.ensures.held c.opened.ensures.left

pub returns-then-not-is_empty-clause-refused : goal.returns-then-not-is_empty-clause-refused
returns-then-not-is_empty-clause-refused g c = unbegun_opened c.opened.result c.args.copies _ _ _ _ _ _ c.opened.ensures.refused c.in-Ok.ensures.held c.in-Ok.ensures.counts

pub returns-in-Err-mend-clause-refused : goal.returns-in-Err-mend-clause-refused
returns-in-Err-mend-clause-refused g c = unbegun_mended c.in-Err-mend.fault c.args.copies c.read.new.self.header _ _ _ _ _ _ c.in-Err-mend.ensures.refused (c.in-Ok.ensures.header ∙ c.requires.header) c.in-Ok.ensures.held c.in-Ok.ensures.counts

pub returns-clause-state : goal.returns-clause-state
returns-clause-state g c =
    let empty : length (map (λ (v : Vec ℕ Global). v.items) c.in-Ok.found.0.items) ≡ 0 = grind (arith, nat_tests, c.if-not-is_empty.false, c.is_empty.ensures, c.as_slice.ensures.value, length-map c.in-Ok.found.0.items (λ (v : Vec ℕ Global). v.items)) in
    let is = begun_none c.args.copies _ (no_contents c.args.frames.now.header _ _ c.requires.header c.in-Ok.ensures.found empty) in
    rw is (gives_first c.first.result c.args.copies c.first.ensures.state c.first.ensures.cause)

pub returns-clause-first : goal.returns-clause-first
returns-clause-first g c = first_after c.first.result _ _ c.args.copies c.first.ensures.ok

pub returns-clause-left : goal.returns-clause-left
returns-clause-left g c =
    let empty : length (map (λ (v : Vec ℕ Global). v.items) c.in-Ok.found.0.items) ≡ 0 = grind (arith, nat_tests, c.if-not-is_empty.false, c.is_empty.ensures, c.as_slice.ensures.value, length-map c.in-Ok.found.0.items (λ (v : Vec ℕ Global). v.items)) in
    left_unless c.first.result _ _ (no_contents c.args.frames.now.header _ _ c.requires.header c.in-Ok.ensures.found empty)

pub returns-clause-refused : goal.returns-clause-refused
returns-clause-refused g c =
    let empty : length (map (λ (v : Vec ℕ Global). v.items) c.in-Ok.found.0.items) ≡ 0 = grind (arith, nat_tests, c.if-not-is_empty.false, c.is_empty.ensures, c.as_slice.ensures.value, length-map c.in-Ok.found.0.items (λ (v : Vec ℕ Global). v.items)) in
    let none = no_contents c.args.frames.now.header _ _ c.requires.header c.in-Ok.ensures.found empty in
    let read = c.in-Ok.ensures in
    let mended = c.in_default.ensures in
    let opened = opened_of c.args.frames.now.header c.read.new.self.header _ _ _ _ c.in-Ok.found.1 _ _ _ read.header read.held read.torn mended.ok mended.counts read.counts in
    unbegun_first c.first.result c.args.copies _ _ _ _ _ _ none (rw c.requires.header at opened.left) c.first.ensures.err c.first.ensures.unfailed c.first.ensures.counts opened.counts
