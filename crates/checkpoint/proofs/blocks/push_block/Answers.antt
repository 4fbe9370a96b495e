use Rattle.std.proofs.Common.{◌≡◌, ◌+◌, true, false, ◌++◌, ◌∷◌, [], ◌∙◌, sym, ap, arith, append-nil, append_assoc}
use Rattle.std.proofs.lemmas.Bool.Decides.{nat_tests}
use Rattle.checkpoint.specs.Span.{is_set_from}
use Rattle.checkpoint.specs.Window.{marked_from}
use Rattle.checkpoint.proofs.Spans.{zero-numbers, marked-zero, marked-one, marked-skip, bit-from}
use Rattle.checkpoint.proofs.blocks.push_block.Goals as goal
use Rattle.checkpoint.proofs.blocks.push_block.Goals.{then-bits-at-eq1+in_ok-push, else-bits-at-eq1}

pub returns-then-bits-eq0 : goal.returns-then-bits-eq0
returns-then-bits-eq0 c = sym (ap (λ ns. c.args.numbers.now.items ++ ns) (zero-numbers c.args.start c.args.bits c.if-bits-eq0.true) ∙ append-nil c.args.numbers.now.items)

pub loop-at-init : goal.loop-at-init
loop-at-init c = sym (ap (λ ns. c.args.numbers.now.items ++ ns) (marked-zero (is_set_from c.args.bits c.args.start) c.args.start) ∙ append-nil c.args.numbers.now.items)

pub loop-at-preserved : goal.loop-at-preserved
loop-at-preserved c =
    let f = is_set_from c.args.bits c.args.start in
    let start = c.args.start in
    let at = c.loop-at.at in
    elim c.if-bits-at-eq1.branch [
      | then-bits-at-eq1+in_ok-push w ↦
          let set : f (start + at) ≡ true = bit-from c.args.bits start at ∙ grind (arith, nat_tests, w.if-bits-at-eq1.true) in
          ap (λ v. v.items) w.numbers-is ∙ w.in_ok-push.ensures.items ∙ ap (λ ns. ns ++ (start + at) ∷ []) c.loop-at.invariant ∙ append_assoc c.args.numbers.now.items (marked_from f start at) ((start + at) ∷ [])
          ∙ ap (λ ns. c.args.numbers.now.items ++ ns) (sym (marked-one f start at set))
      | else-bits-at-eq1 w ↦
          let clear : f (start + at) ≡ false = bit-from c.args.bits start at ∙ grind (arith, nat_tests, w.if-bits-at-eq1.false) in
          ap (λ v. v.items) w.numbers-is ∙ c.loop-at.invariant ∙ ap (λ ns. c.args.numbers.now.items ++ ns) (sym (marked-skip f start at clear))
    ]
