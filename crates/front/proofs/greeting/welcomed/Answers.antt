use Rattle.std.proofs.Common.{◌∙◌, sym}
use Rattle.wire.specs.Reading as read
use Rattle.front.specs.Fault.{fault_of}
use Rattle.front.specs.Greeting as spec
use Rattle.front.proofs.Turns.{welcomed_refused}
use Rattle.front.proofs.greeting.welcomed.Goals as goal

pub returns-clause-page : goal.returns-clause-page
returns-clause-page g c =
    welcomed_refused (fault_of c.in-Err.fault) (spec.welcome_of (g.S.Service.name c.args.service.now) (read.request_view c.args.request.now)) c.in_ok-refused_page-in-Err.field-0 c.args.page
    (sym c.is_memory.ensures ∙ c.if-is_memory.false) (rw c.index.ensures at c.in-Err.ensures) c.in_ok-refused_page-in-Err.ensures
