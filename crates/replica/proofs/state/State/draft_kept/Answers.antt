use Rattle.std.proofs.Common.{◌≡◌, ◌∙◌, ◌+◌, ◌++◌, ◌∷◌, [], ℕ, suc, Bool, List, length, refl, sym, ap, arith}
use Rattle.std.specs.Prelude.{max, map}
use Rattle.std.proofs.lemmas.List.{append-nil, length_push}
use Rattle.op.specs.declared.message.Msg.{Msg}
use Rattle.replica.specs.declared.output.Written.{Written}
use Rattle.replica.specs.declared.output.Item.TheVariants.{Wrote as WroteItem}
use Rattle.op.specs.declared.operation.Op.{Op}
use Rattle.op.specs.declared.record.Record.{Record}
use Rattle.replica.specs.Copy.{Copy}
use Rattle.replica.specs.declared.state.drafting.Draft.{Draft}
use Rattle.replica.specs.Drafted.{drafted}
use Rattle.replica.specs.Step.{counted_by, is_settled_by, item_of, op_messages, record_of, wrote}
use Rattle.checkpoint.specs.Numbers.{least}
use Rattle.replica.proofs.Drafting.{acknowledged_by, ahead_below, gives_one, is_drafted, lead_with}
use Rattle.replica.specs.Searched.{Searched}
use Rattle.replica.proofs.state.State.draft_kept.Goals as goal
use Rattle.replica.proofs.state.State.draft_kept.Goals.{then-is_settled+in_ok-copy+in_ok-push-3, else-is_settled+in_ok-lead}

pub push-requires-2 : goal.push-requires-2
push-requires-2 c = ahead_below c.args.self.now.copy c.args.draft c.args.op c.requires.drafted c.requires.next

pub returns-clause-folds : goal.returns-clause-folds
returns-clause-folds c =
    let s = c.args.self.now.copy in
    let d = c.args.draft in
    let o = c.args.op in
    let own : c.self.inside.id ≡ s.id = ap (λ (x : Copy). x.id) (ap (λ (v : Searched). v.copy) c.self.view_is) in
    let settled : Bool = is_settled_by s.id d.lead o.seq in
    let same : c.is_settled.result ≡ settled = c.is_settled.ensures ∙ ap (λ (n : ℕ). is_settled_by n d.lead o.seq) own in
    let kept : c.push-3.new.self.items ≡ d.records.items ++ record_of (drafted s d) o ∷ [] = c.in_ok-push-4.ensures.items ∙ ap (λ (r : Record). d.records.items ++ r ∷ []) c.kept_record.ensures in
    let known : c.max.result ≡ max d.known (least (map (counted_by s.id (o.seq + 1) d.lead) d.lead.members)) = c.max.ensures ∙ ap (λ (n : ℕ). max d.known n) (c.least-least.ensures ∙ ap (λ (n : ℕ). least (map (counted_by n (o.seq + 1) d.lead) d.lead.members)) own) in
    let leads : c.if-is_settled.lead ≡ lead_with settled d.lead o.seq = elim c.if-is_settled.branch [
      | then-is_settled+in_ok-copy+in_ok-push-3 w ↦ w.lead-is ∙ ap (λ (b : Bool). lead_with b d.lead o.seq) (sym (sym same ∙ w.if-is_settled.true))
      | else-is_settled+in_ok-lead w ↦ w.lead-is ∙ w.in_ok-lead.ensures ∙ ap (λ (b : Bool). lead_with b d.lead o.seq) (sym (sym same ∙ w.if-is_settled.false))
    ] in
    let ahead : c.push-2.new.self ≡ d.ahead ++ o ∷ [] = c.in_ok-push-2.ensures.ok in
    let items : c.push.new.self.items ≡ d.items.items ++ item_of (wrote o c.args.outcome) = c.in_ok-push.ensures.items ∙ ap (λ (w : Written). d.items.items ++ WroteItem w ∷ []) c.written.ensures in
    let sent : c.append.new.self.items ≡ d.sent.items ++ op_messages (drafted s d) d.lead o = c.in_ok-append.ensures.items ∙ ap (λ (ms : List Msg). d.sent.items ++ ms) (c.into_vec-messages.ensures ∙ c.in_ok-sent_by.ensures) in
    let all : c.if-is_settled.acknowledged.items ≡ d.acknowledged.items ++ acknowledged_by settled o = elim c.if-is_settled.branch [
      | then-is_settled+in_ok-copy+in_ok-push-3 w ↦ ap (λ v. v.items) w.acknowledged-is ∙ w.in_ok-push-3.ensures.items ∙ ap (λ (p : Op). d.acknowledged.items ++ p ∷ []) w.in_ok-copy.ensures ∙ ap (λ (b : Bool). d.acknowledged.items ++ acknowledged_by b o) (sym (sym same ∙ w.if-is_settled.true))
      | else-is_settled+in_ok-lead w ↦ ap (λ v. v.items) w.acknowledged-is ∙ sym (append-nil d.acknowledged.items) ∙ ap (λ (b : Bool). d.acknowledged.items ++ acknowledged_by b o) (sym (sym same ∙ w.if-is_settled.false))
    ] in
    let e : Draft = record { ahead = c.push-2.new.self; records = c.push-3.new.self; known = c.max.result; next = o.seq + 1; lead = c.if-is_settled.lead; items = c.push.new.self; sent = c.append.new.self; acknowledged = c.if-is_settled.acknowledged } in
    gives_one s d e o c.requires.drafted c.requires.next kept known refl leads ahead c.args.outcome items sent all

pub returns-clause-drafted : goal.returns-clause-drafted
returns-clause-drafted c =
    let s = c.args.self.now.copy in
    let d = c.args.draft in
    let o = c.args.op in
    let own : c.self.inside.id ≡ s.id = ap (λ (x : Copy). x.id) (ap (λ (v : Searched). v.copy) c.self.view_is) in
    let settled : Bool = is_settled_by s.id d.lead o.seq in
    let same : c.is_settled.result ≡ settled = c.is_settled.ensures ∙ ap (λ (n : ℕ). is_settled_by n d.lead o.seq) own in
    let kept : c.push-3.new.self.items ≡ d.records.items ++ record_of (drafted s d) o ∷ [] = c.in_ok-push-4.ensures.items ∙ ap (λ (r : Record). d.records.items ++ r ∷ []) c.kept_record.ensures in
    let known : c.max.result ≡ max d.known (least (map (counted_by s.id (o.seq + 1) d.lead) d.lead.members)) = c.max.ensures ∙ ap (λ (n : ℕ). max d.known n) (c.least-least.ensures ∙ ap (λ (n : ℕ). least (map (counted_by n (o.seq + 1) d.lead) d.lead.members)) own) in
    let leads : c.if-is_settled.lead ≡ lead_with settled d.lead o.seq = elim c.if-is_settled.branch [
      | then-is_settled+in_ok-copy+in_ok-push-3 w ↦ w.lead-is ∙ ap (λ (b : Bool). lead_with b d.lead o.seq) (sym (sym same ∙ w.if-is_settled.true))
      | else-is_settled+in_ok-lead w ↦ w.lead-is ∙ w.in_ok-lead.ensures ∙ ap (λ (b : Bool). lead_with b d.lead o.seq) (sym (sym same ∙ w.if-is_settled.false))
    ] in
    let ahead : c.push-2.new.self ≡ d.ahead ++ o ∷ [] = c.in_ok-push-2.ensures.ok in
    let one : length c.push.new.self.items ≡ suc (length d.items.items) = let more = ap length c.in_ok-push.ensures.items ∙ length_push d.items.items _ in omega (arith, more) in
    let e : Draft = record { ahead = c.push-2.new.self; records = c.push-3.new.self; known = c.max.result; next = o.seq + 1; lead = c.if-is_settled.lead; items = c.push.new.self; sent = c.append.new.self; acknowledged = c.if-is_settled.acknowledged } in
    is_drafted s d e o c.requires.drafted c.requires.next kept known refl leads ahead c.requires.small one
