use Rattle.std.proofs.Common.{◌∙◌, ◌≡◌, ◌∷◌, ap, sym}
use Rattle.segment.specs.Places.{has_word}
use Rattle.segment.specs.Posted.{places_so_far, with_if}
use Rattle.segment.proofs.PostedLaws.{one_text, words-first}
use Rattle.segment.proofs.posting.post_words.Goals as goal

-- the next word has its place, and the others are left
pub words-preserved : goal.words-preserved
words-preserved c = λ w.
    let v = c.as_str.result.now in
    let left : c.words.words ≡ v ∷ c.next_into.new.self = (rw c.if-branch.true at c.in_ok-next_into.ensures.word) ∙ ap (λ u. u ∷ c.next_into.new.self) (sym c.as_str.ensures.value) in
    let here = one_text c.args.at (places_so_far c.words.texts) (places_so_far c.post.new.self) v c.in_ok-post.ensures.here c.in_ok-post.ensures.others w in
    words-first c.args.at v c.next_into.new.self w (places_so_far c.words.texts w) (places_so_far c.post.new.self w) here
    ∙ ap (λ ws. with_if (has_word w ws) c.args.at (places_so_far c.words.texts w)) (sym left) ∙ c.words.invariant w
