use Rattle.std.proofs.Common.{refl}
use Rattle.analysis.specs.Tokens.{tokens_of}
use Rattle.segment.proofs.PostedLaws.{posted-words}
use Rattle.segment.proofs.posting.post_tokens.Goals as goal

pub returns : goal.returns
returns c = posted-words c.args.at c.args.making.now _ (tokens_of c.args.text.now) c.in_ok-post_words.ensures refl
