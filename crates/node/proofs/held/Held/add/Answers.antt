use Rattle.std.proofs.Common.{refl, ◌≡◌, ℕ, List, [], ◌∷◌, ◌++◌, ap, subst, ◌∙◌}
use Rattle.replica.specs.declared.input.Input.{Input}
use Rattle.node.specs.Passes.{PassData}
use Rattle.node.specs.Entry.{Receipt}
use Rattle.node.specs.Telling.{IsEntered}
use Rattle.node.proofs.Calls.{entered_there, call_made, call_refused, call_last}
use Rattle.node.proofs.held.Held.add.Goals as goal

pub receipts-kept-requires-clause-there : goal.receipts-kept-requires-clause-there
receipts-kept-requires-clause-there g c = entered_there c.args.self.now c.enter.new.self c.pass.inside.number c.args.input c.in_ok-entered.entered c.in_ok-entered.ensures.ok

entered_as : (old new : _) (p : PassData) (n : ℕ) (i asked : Input) (e : _) → n ≡ p.number → i ≡ asked → IsEntered old new n i e → IsEntered old new p.number asked e
entered_as old new p n i asked e number input is = subst (λ m. IsEntered old new m asked e) number (subst (λ x. IsEntered old new n x e) input is)

passed : (n : ℕ) (before rs after : List Receipt) (p : PassData) (kept : Receipt) → (let v : PassData = record { number = n; receipts = before } in v) ≡ p → rs ≡ before → after ≡ rs ++ kept ∷ []
    → (let v : PassData = record { number = n; receipts = after } in v) ≡ record p { receipts = p.receipts ++ kept ∷ [] }
passed n before rs after p kept view same more =
    ap (λ xs. let v : PassData = record { number = n; receipts = xs } in v) (more ∙ ap (λ xs. xs ++ kept ∷ []) same) ∙ ap (λ (v : PassData). let w : PassData = record v { receipts = v.receipts ++ kept ∷ [] } in w) view

pub returns-clause-ok : goal.returns-clause-ok
returns-clause-ok g c =
    let is = entered_as c.args.self.now c.enter.new.self c.args.pass.now c.pass.inside.number c.args.input c.args.input c.in_ok-entered.entered (ap (λ (v : PassData). v.number) c.pass.view_is) refl c.in_ok-entered.ensures.ok in
    let kept = c.receipts-kept.result.0 in
    let pass = passed c.pass.inside.number c.pass.inside.receipts.items c.reserve.new.self.items c.push_reserved.new.self.items c.args.pass.now kept c.pass.view_is c.reserve.ensures.items c.push_reserved.ensures.items in
    call_made c.args.self.now c.enter.new.self c.args.pass.now _ c.args.input c.in_ok-entered.entered kept c.receipts-kept.result.1 is c.receipts-kept.ensures.kept pass c.receipts-kept.ensures.given

pub returns-clause-err : goal.returns-clause-err
returns-clause-err g c =
    let is = entered_as c.args.self.now c.enter.new.self c.args.pass.now c.pass.inside.number c.args.input c.args.input c.in_ok-entered.entered (ap (λ (v : PassData). v.number) c.pass.view_is) refl c.in_ok-entered.ensures.ok in
    let kept = c.receipts-kept.result.0 in
    let pass = passed c.pass.inside.number c.pass.inside.receipts.items c.reserve.new.self.items c.push_reserved.new.self.items c.args.pass.now kept c.pass.view_is c.reserve.ensures.items c.push_reserved.ensures.items in
    call_refused c.args.self.now c.enter.new.self c.args.pass.now _ c.args.input c.in_ok-entered.entered kept c.receipts-kept.result.1 is c.receipts-kept.ensures.kept pass c.receipts-kept.ensures.given

pub returns-clause-last : goal.returns-clause-last
returns-clause-last g c = call_last c.args.self.now c.enter.new.self c.pass.inside.number c.args.input c.in_ok-entered.entered c.receipts-kept.result.0 c.receipts-kept.result.1 c.in_ok-entered.ensures.ok c.receipts-kept.ensures.kept c.receipts-kept.ensures.given
