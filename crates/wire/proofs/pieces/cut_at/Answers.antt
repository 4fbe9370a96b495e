use Rattle.std.proofs.Common.{◌≡◌, ℕ, ◌+◌, ◌<◌, ◌==◌, length, take, drop, Some, None, sym, ap, ◌∙◌, arith, rules, take_all, lt-ltb, true}
use Rattle.std.specs.List.{position_or_len, after_first}
use Rattle.std.proofs.lemmas.List.Sums.{position_or_len_is}
use Rattle.std.proofs.lemmas.List.{take_rest}
use Rattle.wire.specs.Pieces.{has}
use Rattle.wire.proofs.Cuts.{if_true, if_false, not_less}
use Rattle.wire.proofs.pieces.cut_at.Goals as goal

pub returns-in-Some-clause-before : goal.returns-in-Some-clause-before
returns-in-Some-clause-before c =
    let bytes = c.args.bytes.now in
    let found = position_or_len_is (λ (b : ℕ). b == c.args.byte) bytes c.in-Some.i 0 (search rules) (search rules) (search rules) in
    ap (λ n. take n bytes) (sym found)

pub returns-in-Some-clause-after : goal.returns-in-Some-clause-after
returns-in-Some-clause-after c =
    let bytes = c.args.bytes.now in
    let found = position_or_len_is (λ (b : ℕ). b == c.args.byte) bytes c.in-Some.i 0 (search rules) (search rules) (search rules) in
    let within : c.in-Some.i < length bytes = search rules in
    let is : has c.args.byte bytes ≡ true = lt-ltb (position_or_len (λ (b : ℕ). b == c.args.byte) bytes) (length bytes) (omega (arith, found)) in
    ap Some (take_rest bytes _ ∙ ap (λ n. drop (n + 1) bytes) (sym found)) ∙ sym (if_true (has c.args.byte bytes) (Some (after_first (λ x. x == c.args.byte) bytes)) None is)

pub returns-in-None-clause-before : goal.returns-in-None-clause-before
returns-in-None-clause-before c =
    let bytes = c.args.bytes.now in
    let none = position_or_len_is (λ (b : ℕ). b == c.args.byte) bytes (length bytes) 0 (omega arith) (search rules) (search rules) in
    sym (ap (λ n. take n bytes) none ∙ take_all (length bytes) bytes (omega arith))

pub returns-in-None-clause-after : goal.returns-in-None-clause-after
returns-in-None-clause-after c =
    let bytes = c.args.bytes.now in
    let none = position_or_len_is (λ (b : ℕ). b == c.args.byte) bytes (length bytes) 0 (omega arith) (search rules) (search rules) in
    sym (if_false (has c.args.byte bytes) (Some (after_first (λ x. x == c.args.byte) bytes)) None (not_less (position_or_len (λ (b : ℕ). b == c.args.byte) bytes) (length bytes) none))
