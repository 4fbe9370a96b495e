use Rattle.front.specs.ReplyView.{reply_view}
use Rattle.front.proofs.Bulks.{refresh_done}
use Rattle.front.proofs.bulk.do_refresh.Goals as goal

pub returns-clause-done : goal.returns-clause-done
returns-clause-done g c = rw c.refusal_in-refusal.ensures (refresh_done g.S.Service.answers c.args.wanted (reply_view c.call-reply.result) c.args.service.now c.call-reply.new.self c.if-not-wanted.false c.call-reply.ensures.answers)
