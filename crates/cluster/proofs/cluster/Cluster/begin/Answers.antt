use Rattle.std.proofs.Common.{map}
use Rattle.cluster.specs.Opened.{copy_of}
use Rattle.cluster.proofs.Opened.{all_new, begun_new}
use Rattle.cluster.proofs.cluster.Cluster.begin.Goals as goal

pub returns-in-Ok-clause-opened : goal.returns-in-Ok-clause-opened
returns-in-Ok-clause-opened g c =
    let ready = c.in-Ok.ready in
    let all = all_new ready.items ready.len c.args.copies ready.ok.0 c.in-Ok.ensures.all in
    begun_new (λ k. k.crew.began.items) (λ k. k.past) c.begin_over.result c.new_master.result c.args.setting.label.mapping c.args.copies (g.D.LogDevice.bytes c.args.device) (map copy_of ready.items) c.new_master.ensures.state c.in-Ok.ensures.new all
    c.begin_over.ensures.began c.begin_over.ensures.past c.begin_over.ensures.whole
