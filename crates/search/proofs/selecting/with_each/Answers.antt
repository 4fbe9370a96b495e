use Rattle.std.proofs.Common.{◌∙◌, ap, sym, length, true, List, ℕ, Bool, ◌&&◌}
use Rattle.std.specs.List.{list_all}
use Rattle.std.proofs.lemmas.List.{length-map}
use Rattle.doc.specs.ScalarView.{scalars_view}
use Rattle.analysis.specs.Terms as spec
use Rattle.marks.specs.Lists.{zip_with}
use Rattle.segment.proofs.Joins.{zip-self, and-end, length-zip}
use Rattle.search.proofs.Turns.{done, all-turn}
use Rattle.search.proofs.selecting.with_each.Goals as goal

pub loop-value-init : goal.loop-value-init
loop-value-init c = let m = c.args.known.now.segment.now.mapping in
    let op = λ (b : Bool) (s : List ℕ). b && list_all (spec.has (spec.terms m s c.args.name.now)) (scalars_view c.args.values.now) in
    record {
      whole = ap length c.in_ok-marks.ensures ∙ length-map c.args.known.now.segment.now.sources _;
      left = ap (λ (bs : List Bool). zip_with op bs c.args.known.now.segment.now.sources) c.in_ok-marks.ensures ∙ zip-self op (λ (s : List ℕ). true) c.args.known.now.segment.now.sources;
    }

pub loop-value-preserved : goal.loop-value-preserved
loop-value-preserved c = record {
  whole = ap length c.intersect.ensures ∙ length-zip _ c.loop-value.marks c.in_ok-known_term.field-0 (c.loop-value.invariant.whole ∙ sym (ap length c.in_ok-known_term.ensures ∙ length-map c.args.known.now.segment.now.sources _)) ∙ ap length c.in_ok-known_term.ensures ∙ length-map c.args.known.now.segment.now.sources _;
  left = all-turn c.args.known.now.segment.now.mapping c.args.known.now.segment.now.sources c.args.name.now c.args.values.now c.loop-value.value-index c.value-item.result c.value-item.is c.loop-value-test.true c.loop-value.marks c.intersect.new.self c.in_ok-known_term.field-0 c.in_ok-known_term.ensures c.intersect.ensures ∙ c.loop-value.invariant.left;
}

pub returns : goal.returns
returns c = let m = c.args.known.now.segment.now.mapping in
    sym (and-end c.loop-value.marks c.args.known.now.segment.now.sources c.loop-value.invariant.whole)
    ∙ ap (λ vs. zip_with (λ b s. b && list_all (spec.has (spec.terms m s c.args.name.now)) (scalars_view vs)) c.loop-value.marks c.args.known.now.segment.now.sources) (sym (done c.args.values.now c.loop-value.value-index c.loop-value-test.false))
    ∙ c.loop-value.invariant.left
