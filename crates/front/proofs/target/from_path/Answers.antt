use Rattle.std.proofs.Common.{ℕ, ◌==◌, ◌||◌, length, drop, sym, ap, ◌∙◌, arith, rules}
use Rattle.std.proofs.lemmas.List.Sums.{position_or_len_is}
use Rattle.std.proofs.lemmas.List.{drop_all, take_rest}
use Rattle.front.proofs.target.from_path.Goals as goal

pub returns-in-Some : goal.returns-in-Some
returns-in-Some c =
    let bytes = c.args.bytes.now in
    let found = position_or_len_is (λ (b : ℕ). b == 47 || b == 63) bytes c.in-Some.i 0 (search rules) (search rules) (search rules) in
    take_rest bytes _ ∙ ap (λ n. drop n bytes) (sym found)

pub returns-in-None : goal.returns-in-None
returns-in-None c =
    let bytes = c.args.bytes.now in
    let none = position_or_len_is (λ (b : ℕ). b == 47 || b == 63) bytes (length bytes) 0 (omega arith) (search rules) (search rules) in
    sym (ap (λ n. drop n bytes) none ∙ drop_all (length bytes) bytes (omega arith))
