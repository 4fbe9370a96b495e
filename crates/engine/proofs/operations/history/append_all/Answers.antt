use Rattle.std.proofs.Common.{◌≡◌, ◌++◌, ◌+◌, ◌∷◌, [], List, ap, append_assoc, append-nil, sym, take, ◌∙◌}
use Rattle.std.proofs.lemmas.List.{take_all, take_more}
use Rattle.chronicle.specs.Written.{Written, written}
use Rattle.op.specs.declared.record.Record.{Record}
use Rattle.engine.proofs.operations.history.append_all.Goals as goal

pub loop-kept-init : goal.loop-kept-init
loop-kept-init c = ap (λ (rs : List Record). written c.args.before.now.line rs) (sym (append-nil c.args.before.now.entries))

pub append-mark-requires : goal.append-mark-requires
append-mark-requires c = record { book = c.requires ∙ ap (λ (w : Written Record). w.line.book) (sym c.loop-kept.invariant) }

pub loop-kept-preserved : goal.loop-kept-preserved
loop-kept-preserved c =
    let old = c.args.before.now in
    let rs = c.args.records.now in
    let i = c.loop-kept.kept-index in
    let kept = c.kept-item.result in
    let more : take (i + 1) rs ≡ take i rs ++ kept ∷ [] = take_more rs i kept c.loop-kept-test.true ∙ ap (λ (r : Record). take i rs ++ r ∷ []) (sym c.kept-item.is) in
    c.append-mark.ensures.grown
    ∙ ap (λ (w : Written Record). written w.line (w.entries ++ kept ∷ [])) c.loop-kept.invariant
    ∙ ap (λ (xs : List Record). written old.line xs) (append_assoc old.entries (take i rs) (kept ∷ []) ∙ ap (λ (xs : List Record). old.entries ++ xs) (sym more))

pub returns : goal.returns
returns c = c.loop-kept.invariant ∙ ap (λ (xs : List Record). written c.args.before.now.line (c.args.before.now.entries ++ xs)) (take_all c.loop-kept.kept-index c.args.records.now c.loop-kept-test.false)
