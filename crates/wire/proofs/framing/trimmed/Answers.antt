use Rattle.std.proofs.Common.{refl}
use Rattle.std.proofs.lemmas.Str.Ascii.{trim_ascii_is}
use Rattle.wire.specs.Framing.{without_front}
use Rattle.wire.proofs.framing.trimmed.Goals as goal

pub returns : goal.returns
returns c = trim_ascii_is c.args.token.now c.trim_ascii.result.now (without_front c.args.token.now) refl c.trim_ascii.ensures.value
