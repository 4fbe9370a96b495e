use Rattle.std.proofs.Common.{◌∙◌, ◌++◌, ap, map}
use Rattle.std.specs.Char.{to_ascii_lowercase}
use Rattle.analysis.proofs.Ascii.{folded-ascii}
use Rattle.analysis.proofs.words.fold_into.Goals as goal

pub returns : goal.returns
returns c = c.make_ascii_lowercase.ensures.bytes ∙ ap (map to_ascii_lowercase) (c.in_ok-push_str.ensures.bytes ∙ ap (λ bs. bs ++ c.args.word.now) c.clear.ensures.bytes) ∙ folded-ascii c.args.word.now c.if-not-is_ascii.ensures.cases
