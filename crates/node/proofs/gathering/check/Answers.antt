use Rattle.std.proofs.Common.{rules, ◌≡◌, ◌+◌, max, length, take, Some, List, refl, sym, subst}
use Rattle.std.specs.Prelude.{slice_get}
use Rattle.std.proofs.lemmas.Option.{slice_get_read}
use Rattle.node.specs.Entry.{Receipt}
use Rattle.node.specs.Gathered.{deed_at, receipts_of, IsFirstStray}
use Rattle.node.specs.Passes.{AreUpTo}
use Rattle.node.proofs.Receipts.{goes_on, strays_there, strays_twice, up_on}
use Rattle.node.proofs.gathering.check.Goals.{then-not-stands-via-then-not-stands, then-not-stands-via-else-not-stands+then-is_before}
use Rattle.node.proofs.gathering.check.Goals as goal

pub returns-then-not-stands-clause-stray : goal.returns-then-not-stands-clause-stray
returns-then-not-stands-clause-stray g c =
    let rs = c.receipts-receipts.result.now in
    let r = c.index-receipts-count.result in
    let at : slice_get rs c.loop-count.count ≡ Some r = slice_get_read rs (length rs) c.loop-count.count r refl c.loop-count-test.true c.index-receipts-count.is in
    let here : c.place-place.result ≡ r.place = c.place-place.ensures in
    let deed : c.deed.result.now ≡ r.deed = c.deed.ensures.is in
    let s : IsFirstStray c.args.journal.now (receipts_of c.args.earlier.now) rs r.place = elim c.then-not-stands.branch [
      | then-not-stands-via-then-not-stands w ↦ strays_there c.args.journal.now (receipts_of c.args.earlier.now) rs c.loop-count.count r at (λ there. let no = c.stands.ensures.1 (rw (here, deed) there) in absurd (search rules)) c.loop-count.invariant.0
      | then-not-stands-via-else-not-stands+then-is_before w ↦ strays_twice c.args.journal.now (receipts_of c.args.earlier.now) rs c.loop-count.count r at (search rules) c.loop-count.invariant.0
    ] in
    subst (λ n. IsFirstStray c.args.journal.now (receipts_of c.args.earlier.now) c.args.pass.now.receipts n) (sym here) (subst (λ (l : List Receipt). IsFirstStray c.args.journal.now (receipts_of c.args.earlier.now) l r.place) c.receipts-receipts.ensures s)

pub loop-count-preserved : goal.loop-count-preserved
loop-count-preserved g c =
    let rs = c.receipts-receipts.result.now in
    let r = c.index-receipts-count.result in
    let at : slice_get rs c.loop-count.count ≡ Some r = slice_get_read rs (length rs) c.loop-count.count r refl c.loop-count-test.true c.index-receipts-count.is in
    let here : c.place-place.result ≡ r.place = c.place-place.ensures in
    let deed : c.deed.result.now ≡ r.deed = c.deed.ensures.is in
    let stands : deed_at c.args.journal.now r.place ≡ Some r.deed = rw (← here, ← deed) (c.stands.ensures.0 (search rules)) in
    let top : c.max-most.result ≡ max c.loop-count.most r.place = search rules in (
      goes_on c.args.journal.now (receipts_of c.args.earlier.now) rs c.loop-count.count r at stands (search rules) c.loop-count.invariant.0,
      subst (λ n. AreUpTo n (take (c.loop-count.count + 1) rs)) (sym top) (up_on c.loop-count.most rs c.loop-count.count r at c.loop-count.invariant.1),
    )
