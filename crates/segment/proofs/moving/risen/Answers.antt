use Rattle.std.proofs.Common.{◌≡◌, ◌∙◌, ◌++◌, ℕ, List, ap, drop}
use Rattle.std.proofs.lemmas.List.{take_rest}
use Rattle.segment.specs.Woven.{risen}
use Rattle.segment.proofs.MovingLaws.{risen-left, risen-right}
use Rattle.segment.proofs.moving.risen.Goals as goal
use Rattle.segment.proofs.moving.risen.Goals.{then-loop-from_left-test+else-from_right-right, else-loop-from_left-test}

-- what is left of one list comes last
pub returns : goal.returns
returns c =
    let i = c.loop-from_left.from_left in
    let j = c.loop-from_left.from_right in
    let xs = c.args.left.now in
    let ys = c.args.right.now in
    let all = c.loop-from_left.all.items in
    let rests : (all ++ drop i xs) ++ drop j ys ≡ risen xs ys = elim c.loop-from_left-test.branch [
      | then-loop-from_left-test+else-from_right-right w ↦ risen-right i j xs ys all w.if-from_right-right.false c.loop-from_left.invariant.all
      | else-loop-from_left-test w ↦ risen-left i j xs ys all w.loop-from_left-test.false c.loop-from_left.invariant.all
    ] in
    c.in_ok-extend_from_slice-2.ensures.items
    ∙ ap (λ (ps : List ℕ). c.extend_from_slice.new.self.items ++ ps) (take_rest ys j)
    ∙ ap (λ (ps : List ℕ). ps ++ drop j ys) (c.in_ok-extend_from_slice.ensures.items ∙ ap (λ (ps : List ℕ). all ++ ps) (take_rest xs i))
    ∙ rests
