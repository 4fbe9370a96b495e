use Rattle.std.proofs.lemmas.Result.{err_from_is_err_and}
use Rattle.replica.specs.Step.{copy_step}
use Rattle.replica.proofs.Failures.{open_in, refused_at_once, refused_in}
use Rattle.replica.proofs.Searching.{done_searches, refused_stays}
use Rattle.replica.proofs.copy.Copy.step.Goals as goal

pub returns-in_err-prepared-clause-refused : goal.returns-in_err-prepared-clause-refused
returns-in_err-prepared-clause-refused g c =
    let p = err_from_is_err_and c.from_residual.result c.from_residual.ensures.1 in
    let s = c.args.self.now in
    let refusal = c.in_err-prepared.ensures in
    rw (p.1, p.2) (refused_at_once c.in_err-prepared.field-0.0 s c.prepare.new.self c.args.input (copy_step s.copy c.args.input) refusal.untouched.copy refusal.untouched.closes refusal.untouched.refused refusal.prepared.unread refusal.prepared.no_log)

pub returns-clause-refused : goal.returns-clause-refused
returns-clause-refused g c =
    let ready = c.in_ok-prepared.ensures in
    let done = c.commit.ensures in
    refused_in c.commit.result c.args.self.now c.prepare.new.self c.commit.new.self c.args.input c.in_ok-prepared.prepared done.cause done.closed done.memory done.counts done.sure ready.prepared.kind ready.prepared.closed ready.untouched.copy ready.untouched.stays ready.untouched.log ready.untouched.counts ready.prepared.step

-- what searches look through afterwards
pub returns-clause-searched : goal.returns-clause-searched
returns-clause-searched g c =
    let ready = c.in_ok-prepared.ensures in
    let done = c.commit.ensures in
    done_searches c.commit.result c.args.input c.args.self.now c.prepare.new.self c.commit.new.self c.in_ok-prepared.prepared ready.prepared.ready ready.untouched.copy ready.segments ready.prepared.kind ready.prepared.shows done.copy done.segments

pub returns-clause-stays : goal.returns-clause-stays
returns-clause-stays g c = refused_stays c.commit.result c.args.self.now c.prepare.new.self c.commit.new.self c.in_ok-prepared.ensures.segments c.commit.ensures.refused

pub returns-clause-open : goal.returns-clause-open
returns-clause-open g c =
    let ready = c.in_ok-prepared.ensures in
    open_in c.commit.result c.args.self.now.closed c.prepare.new.self.closed c.commit.new.self.closed c.args.input c.in_ok-prepared.prepared c.commit.ensures.open ready.prepared.kind ready.prepared.closed ready.untouched.stays
