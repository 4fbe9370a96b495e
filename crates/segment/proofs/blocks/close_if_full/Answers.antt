use Rattle.std.proofs.Common.{◌∙◌, ◌∷◌, [], ◌++◌, All, ap, subst, sym}
use Rattle.std.proofs.lemmas.List.Elements.{All-push}
use Rattle.segment.specs.Blocks.{IsBlock}
use Rattle.segment.proofs.blocks.close_if_full.Goals as goal

-- the full block is one, too
pub returns-clause-are : goal.returns-clause-are
returns-clause-are c =
    let before = c.args.blocks.now.items in
    let items = c.in_ok-push.ensures.items ∙ ap (λ b. before ++ b ∷ []) c.replace-closed.ensures.value in
    subst (λ bs. All (IsBlock c.args.len) bs) (sym items) (All-push (IsBlock c.args.len) before c.args.block.now c.requires.are c.requires.is)
