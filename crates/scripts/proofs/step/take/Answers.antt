use Rattle.scripts.proofs.Events.{refusal_stays}
use Rattle.scripts.proofs.step.take.Goals as goal

pub returns-clause-stays : goal.returns-clause-stays
returns-clause-stays c = refusal_stays c.args.world.now c.step.new.self c.args.event c.in_ok-answer.answer c.reply_of.result c.in_ok-answer.ensures.happened c.reply_of.ensures.refused
