use Rattle.std.proofs.Common.{◌≡◌, ◌<◌, length, [], ◌∷◌, ◌++◌, map, slice_index, IsTrue, sym, ap, ap₂, ◌∙◌, arith, eqb-true, subst}
use Rattle.std.proofs.lemmas.Bool.{eqb-false}
use Rattle.unicode_segmentation.specs.Iter.{unicode_words_left}
use Rattle.unicode_segmentation.specs.Word.{words}
use Rattle.analysis.specs.Delimiter.{is_delimiter}
use Rattle.analysis.specs.Tokens.{folded}
use Rattle.analysis.proofs.Offsets.{words-split, words-take_word, slice_range-front, nil_from_length}
use Rattle.analysis.proofs.Parts.{words-nil}
use Rattle.analysis.proofs.words.Words.next_word.Goals as goal

pub returns-then-is_empty : goal.returns-then-is_empty
returns-then-is_empty c =
    let before = unicode_words_left c.self.inside.stretch ++ words c.self.inside.rest.now in
    let steps = c.in_default.ensures.steps in
    let text = c.past_spaces-text.result.now in
    let left : words text ≡ before =
    c.past_spaces-text.ensures.words ∙ ap (λ ws. ws ++ words c.loop-word.self-inside.rest.now) (sym steps.0) ∙ c.loop-word.invariant in
    let none : words text ≡ [] =
    ap words (nil_from_length text (eqb-true _ _ (sym c.is_empty.ensures ∙ c.if-is_empty.true))) ∙ words-nil in
    (sym c.self.view_is ∙ ap (map folded) (sym left ∙ none), ap (map folded) (ap₂ ◌++◌ steps.1 none))

pub returns-then-behind-end : goal.returns-then-behind-end
returns-then-behind-end c =
    let before = unicode_words_left c.self.inside.stretch ++ words c.self.inside.rest.now in
    let steps = c.in_default.ensures.steps in
    let text = c.past_spaces-text.result.now in
    let left : words text ≡ before =
    c.past_spaces-text.ensures.words ∙ ap (λ ws. ws ++ words c.loop-word.self-inside.rest.now) (sym steps.0) ∙ c.loop-word.invariant in
    let n = c.stretch_end-end.result in
    let e = c.stretch_end-end.ensures in
    let filled = eqb-false (length text) 0 (sym c.is_empty.ensures ∙ c.if-is_empty.false) in
    let split = words-split text n c.past_spaces-text.utf8 (e.grows (omega arith)) e.within e.space e.ascii e.apart in
    let same = c.if-behind-end.true in
    let word = words-take_word text c.delimiters_end-first.result c.plain_end-last.result n c.if-first-last.true
    (omega (arith, c.delimiters_end-behind.ensures.grows)) e.within
    (λ k lt. c.delimiters_end-first.ensures.delimiters k (omega arith) lt) c.plain_end-last.ensures.plain
    (λ k le lt. c.delimiters_end-behind.ensures.delimiters k le (omega arith)) in
    let rest = c.range_from-self-inside.result.now in
    sym c.self.view_is
    ∙ ap (map folded) (sym left ∙ split ∙ ap₂ (λ ws r. ws ++ words r) word (sym c.range_from-self-inside.ensures.value))
    ∙ ap₂ (λ w ws. folded w ∷ map folded (ws ++ words rest)) (sym c.range.ensures.value) (sym steps.1)

pub loop-word-preserved : goal.loop-word-preserved
loop-word-preserved c =
    let before = unicode_words_left c.self.inside.stretch ++ words c.self.inside.rest.now in
    let steps = c.in_default.ensures.steps in
    let text = c.past_spaces-text.result.now in
    let left : words text ≡ before =
    c.past_spaces-text.ensures.words ∙ ap (λ ws. ws ++ words c.loop-word.self-inside.rest.now) (sym steps.0) ∙ c.loop-word.invariant in
    let n = c.stretch_end-end.result in
    let e = c.stretch_end-end.ensures in
    let filled = eqb-false (length text) 0 (sym c.is_empty.ensures ∙ c.if-is_empty.false) in
    let split = words-split text n c.past_spaces-text.utf8 (e.grows (omega arith)) e.within e.space e.ascii e.apart in
    ap₂ (λ ws r. ws ++ words r)
    (c.unicode_words-self-inside.ensures.left ∙ ap words (c.range-in-loop-word.ensures.value ∙ slice_range-front text n)) c.range_from-self-inside.ensures.value
    ∙ sym split ∙ left
