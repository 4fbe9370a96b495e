use Rattle.std.proofs.Common.{◌∷◌, ◌++◌, ◌∙◌, ◌+◌, rules, String, [], take, map, string_bytes, ap, sym, subst}
use Rattle.std.specs.declared.alloc.Global.{Global}
use Rattle.std.proofs.lemmas.List.{take_more}
use Rattle.journals.specs.Entries.{AreTexts}
use Rattle.journals.proofs.Texts.{texts_more}
use Rattle.journals.proofs.reading.journals_of.Goals as goal

pub nodes-preserved : goal.nodes-preserved
nodes-preserved c =
    let ts = c.args.texts.now in
    let t = c.index-texts-place.result in
    let more = take_more ts c.nodes.place t c.nodes-test.true ∙ ap (λ (x : String Global). take c.nodes.place ts ++ x ∷ []) (sym c.index-texts-place.is) in
    subst (AreTexts c.args.top.now.copies c.args.top.now.mapping 0 (map string_bytes (take (c.nodes.place + 1) ts))) (sym c.in_ok-push.ensures.items)
    (texts_more c.args.top.now.copies c.args.top.now.mapping ts c.nodes.place t c.nodes.found.items c.in_ok-journal_of.field-0 c.nodes-test.true more c.nodes.invariant (search rules))
