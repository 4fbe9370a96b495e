use Rattle.std.proofs.Common.{◌∙◌, ◌&&◌, ◌||◌, not, false, ap, arith, sym, length, List, Bool}
use Rattle.std.specs.Prelude.{replicate}
use Rattle.std.specs.Arc.{arc_value}
use Rattle.std.proofs.lemmas.List.{length-map}
use Rattle.marks.specs.Lists.{places, zip_with}
use Rattle.engine.specs.Parts.{PartData, is_among, without}
use Rattle.engine.proofs.PartLaws.{Item}
use Rattle.engine.proofs.ChosenLaws.{chosen-counted}
use Rattle.engine.proofs.ShareLaws.{none-among, left-long, left-chosen, united-long, counted-full}
use Rattle.engine.proofs.read.part.Part.unmarked.Goals as goal

-- none is marked yet
pub mark_ids-requires : goal.mark_ids-requires
mark_ids-requires c =
    let docs = (arc_value c.self.inside.block).documents in
    let len = rw c.deref.ensures at c.len-len.ensures.is in
    rw (c.in_ok-dead.ensures, c.deref-2.ensures) (none-among c.len-len.result docs len)

pub subtract-requires : goal.subtract-requires
subtract-requires c =
    let docs = (arc_value c.self.inside.block).documents in
    let live = arc_value c.self.inside.live in
    let unite = rw c.deref-3.ensures at c.unite.ensures in
    let len = rw c.deref.ensures at c.len-len.ensures.is in
    let dead = rw c.deref-2.ensures at c.mark_ids.ensures in
    let united = unite ∙ ap (λ (bs : List Bool). zip_with (λ (a b : Bool). a || b) bs live) c.in_ok-live.ensures in
    ap length dead ∙ length-map docs (λ (d : Item). is_among c.args.ids.now d.0) ∙ sym (ap length united ∙ united-long c.args.ids.now docs live c.self.invariant.whole c.len-len.result len)

-- there are as many marks as documents
pub count-live_len-requires : goal.count-live_len-requires
count-live_len-requires c =
    let docs = (arc_value c.self.inside.block).documents in
    let live = arc_value c.self.inside.live in
    let unite = rw c.deref-3.ensures at c.unite.ensures in
    let len = rw c.deref.ensures at c.len-len.ensures.is in
    let dead = rw c.deref-2.ensures at c.mark_ids.ensures in
    let united = unite ∙ ap (λ (bs : List Bool). zip_with (λ (a b : Bool). a || b) bs live) c.in_ok-live.ensures in
    let marks = c.subtract.ensures ∙ ap (λ (bs : List Bool). zip_with (λ (a b : Bool). a && not b) bs c.mark_ids.new.marks) united ∙ ap (λ (bs : List Bool). zip_with (λ (a b : Bool). a && not b) (zip_with (λ (a b : Bool). a || b) (replicate c.len-len.result false) live) bs) dead in
    omega (arith, ap length marks, left-long c.args.ids.now docs live c.self.invariant.whole c.len-len.result len, len, c.len-len.ensures.few)

pub invariant_of-result : goal.invariant_of-result
invariant_of-result c =
    let docs = (arc_value c.self.inside.block).documents in
    let live = arc_value c.self.inside.live in
    let unite = rw c.deref-3.ensures at c.unite.ensures in
    let len = rw c.deref.ensures at c.len-len.ensures.is in
    let dead = rw c.deref-2.ensures at c.mark_ids.ensures in
    let united = unite ∙ ap (λ (bs : List Bool). zip_with (λ (a b : Bool). a || b) bs live) c.in_ok-live.ensures in
    let marks = c.subtract.ensures ∙ ap (λ (bs : List Bool). zip_with (λ (a b : Bool). a && not b) bs c.mark_ids.new.marks) united ∙ ap (λ (bs : List Bool). zip_with (λ (a b : Bool). a && not b) (zip_with (λ (a b : Bool). a || b) (replicate c.len-len.result false) live) bs) dead in
    rw (c.in_ok-block.ensures, c.in_ok-live-2.ensures.ok, marks) (record {
      sorted = c.self.invariant.sorted;
      whole = left-long c.args.ids.now docs live c.self.invariant.whole c.len-len.result len;
      counted = c.count-live_len.ensures ∙ ap (λ (bs : List Bool). length (places (λ (b : Bool). b) bs)) marks ∙ chosen-counted docs _ (left-long c.args.ids.now docs live c.self.invariant.whole c.len-len.result len);
      full = λ all. sym marks ∙ counted-full c.subtract.new.self (length docs) c.count-live_len.result c.len-len.result (ap length marks ∙ left-long c.args.ids.now docs live c.self.invariant.whole c.len-len.result len) c.count-live_len.ensures len all;
    })

-- those that are left
pub returns : goal.returns
returns c =
    let docs = (arc_value c.self.inside.block).documents in
    let live = arc_value c.self.inside.live in
    let unite = rw c.deref-3.ensures at c.unite.ensures in
    let len = rw c.deref.ensures at c.len-len.ensures.is in
    let dead = rw c.deref-2.ensures at c.mark_ids.ensures in
    let united = unite ∙ ap (λ (bs : List Bool). zip_with (λ (a b : Bool). a || b) bs live) c.in_ok-live.ensures in
    let marks = c.subtract.ensures ∙ ap (λ (bs : List Bool). zip_with (λ (a b : Bool). a && not b) bs c.mark_ids.new.marks) united ∙ ap (λ (bs : List Bool). zip_with (λ (a b : Bool). a && not b) (zip_with (λ (a b : Bool). a || b) (replicate c.len-len.result false) live) bs) dead in
    rw (c.in_ok-block.ensures, c.in_ok-live-2.ensures.ok, marks, left-chosen c.args.ids.now docs live c.self.invariant.whole c.len-len.result len)
    (ap (λ (s : PartData). let t : PartData = record s { documents = without c.args.ids.now s.documents } in t) c.self.view_is)
