use Rattle.std.proofs.Common.{refl, string_bytes, ap, Some, inl, inr}
use Rattle.front.specs.RuleView.{rule_view}
use Rattle.clients.specs.Talk.{talk}
use Rattle.clients.proofs.Answering.{no_more, next_answered, next_broken, on_err, as_it_was}
use Rattle.clients.proofs.conversation.Conversation.answer.Goals as goal

pub returns-in_default-clause-ok : goal.returns-in_default-clause-ok
returns-in_default-clause-ok g c =
    (no_more c.args.rule.now.most (talk c.args.self.now) c.as_slice-rest.result.now _ c.in_ok-whole.field-0 c.if-self.false c.as_slice-rest.ensures.value c.in_default.is c.in_ok-whole.ensures, refl, as_it_was (talk c.args.self.now) c.if-self.false)

pub returns-clause-ok : goal.returns-clause-ok
returns-clause-ok g c =
    rw c.of.ensures (next_answered (rule_view c.args.rule.now) g.S.Service.answers g.S.Resumable.knows (g.S.Service.name c.args.service.now) (g.S.Service.fields c.args.service.now) c.resume.new.self c.answer_by.new.service (talk c.args.self.now) _ c.in-Some.whole
    c.as_slice-rest.result.now c.read_request.new.reader.now c.in_ok-page.page c.if-self.false c.requires c.as_slice-rest.ensures.value (rw c.in-Some.is at c.in_ok-whole.ensures) (c.in_ok-rest.ensures.items_if_clones_equal (λ x y e. e)) c.ends-self.ensures refl c.resume.ensures.knows (ap (λ k. Some k) c.known.ensures) refl (rw (c.resume.ensures.name, c.resume.ensures.fields) at c.in_ok-page.ensures.ok))

-- nothing of the request was done
pub returns-in_err-whole-clause-err : goal.returns-in_err-whole-clause-err
returns-in_err-whole-clause-err g c = on_err c.from_residual.result _ ((refl, refl, refl, refl, refl), inl refl)

pub returns-in_err-rest-clause-err : goal.returns-in_err-rest-clause-err
returns-in_err-rest-clause-err g c = on_err c.from_residual-in_err-rest.result _ ((refl, refl, refl, refl, refl), inl refl)

-- its first commands were
pub returns-in_err-page-clause-err : goal.returns-in_err-page-clause-err
returns-in_err-page-clause-err g c =
    on_err c.from_residual-in_err-page.result _ (
      (refl, refl, refl, refl, refl),
      inr (next_broken (rule_view c.args.rule.now) g.S.Service.answers g.S.Resumable.knows (g.S.Service.name c.args.service.now) (g.S.Service.fields c.args.service.now)
          c.resume.new.self c.answer_by.new.service (talk c.args.self.now) c.in-Some.whole c.as_slice-rest.result.now c.read_request.new.reader.now c.as_slice-rest.ensures.value
          (rw c.in-Some.is at c.in_ok-whole.ensures) c.resume.ensures.knows (rw (c.resume.ensures.name, c.resume.ensures.fields) at c.in_err-page.ensures.err)),
    )
