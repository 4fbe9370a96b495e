use Rattle.std.proofs.Common.{◌≡◌, ◌++◌, map, drop, string_bytes}
use Rattle.engine.specs.Shown.{hit_view}
use Rattle.scripts.specs.Reply.{ids_text}
use Rattle.scripts.proofs.reply.ids_text.Given as goal

-- the text so far, and that of the hits that are left
abbrev pub invariant-loop-hit : goal.invariant-loop-hit
invariant-loop-hit l = string_bytes l.text ++ ids_text (map hit_view (drop l.hit-index l.hits)) ≡ ids_text (map hit_view l.hits)
