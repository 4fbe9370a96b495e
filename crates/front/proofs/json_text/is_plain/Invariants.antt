use Rattle.std.proofs.Common.{◌≡◌, ◌↔◌, drop}
use Rattle.json.specs.Print.{escape}
use Rattle.front.proofs.json_text.is_plain.Given as goal

-- what is passed stands as it is
abbrev pub invariant-loop-byte : goal.invariant-loop-byte
invariant-loop-byte l = (escape (drop l.byte-index l.text) ≡ drop l.byte-index l.text) ↔ (escape l.text ≡ l.text)
