use Rattle.std.proofs.Common.{◌≡◌, map}
use Rattle.front.specs.Bulk.{step_text}
use Rattle.front.specs.BulkView.{text_view, step_view}
use Rattle.front.specs.ReplyView.{reply_view}
use Rattle.front.proofs.bulk.texts_of.Given as goal

-- the texts of the first steps
abbrev pub invariant-loop-step : goal.invariant-loop-step
invariant-loop-step l = map text_view l.texts.items ≡ map (step_text l.fn.greets (reply_view l.fn.reply)) (map step_view l.yielded)
