use Rattle.std.proofs.Common.{◌≡◌, ◌<◌, length, slice_index, sym, ap, subst, ◌∙◌, arith}
use Rattle.std.proofs.lemmas.Bool.{ltb-true}
use Rattle.unicode_segmentation.specs.Word.{words}
use Rattle.analysis.proofs.Offsets.{words-drop_spaces}
use Rattle.analysis.proofs.words.past_spaces.Goals as goal
use Rattle.analysis.proofs.words.past_spaces.Goals.{else-spaces-text-via-then-spaces-text+else-not-is_ascii, else-spaces-text-via-else-spaces-text}

pub returns : goal.returns
returns c =
    let s = c.args.text.now in
    let n = c.space_len-spaces.result in
    let ascii : n < length s → slice_index s n < 128 =
    elim c.else-spaces-text.branch [
      | else-spaces-text-via-then-spaces-text+else-not-is_ascii w ↦
          λ lt. subst (λ t. slice_index t n < 128) w.as_bytes.ensures.value (ltb-true _ 128 (sym w.is_ascii.ensures ∙ w.if-not-is_ascii.false))
      | else-spaces-text-via-else-spaces-text w ↦ λ lt. absurd (omega arith)
    ] in
    record {
      words = ap words c.range_from.ensures.value ∙ words-drop_spaces s n c.space_len-spaces.ensures.within c.space_len-spaces.ensures.spaces ascii c.space_len-spaces.ensures.after;
      shorter = omega (arith, c.range_from.ensures.len);
    }
