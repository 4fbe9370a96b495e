use Rattle.cluster.proofs.Queues.{first_taken, none_taken}
use Rattle.cluster.proofs.backlog.Backlog.next.Goals as goal

pub returns-clause-some : goal.returns-clause-some
returns-clause-some g c = first_taken c.pop_front.result c.args.self.now.posts.items c.pop_front.new.self.items c.pop_front.ensures.items

pub returns-clause-none : goal.returns-clause-none
returns-clause-none g c = none_taken c.pop_front.result c.args.self.now.posts.items c.pop_front.new.self.items c.pop_front.ensures.items c.pop_front.ensures.rest
