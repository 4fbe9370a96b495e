use Rattle.std.proofs.Common.{◌≡◌, ◌≤◌, ◌∙◌, ◌+◌, ◌-◌, ◌++◌, ℕ, true, ap, sym, subst, arith, map, drop, take, length, length-drop, List, append-nil}
use Rattle.std.specs.FinMap.Entries.{is_sorted}
use Rattle.std.proofs.lemmas.List.{drop-map, length-map}
use Rattle.doc.specs.Id.{id_cmp}
use Rattle.op.specs.Documents.{Documents}
use Rattle.engine.specs.declared.read.documents.Entry.{Entry}
use Rattle.engine.specs.Entry.{entry_view}
use Rattle.engine.specs.Parts.{merged, IsNext}
use Rattle.engine.proofs.PartLaws.{Item, true_T, T_true, in_order-drop, merged-turn}
use Rattle.engine.proofs.RefreshLaws.{rest-whole}
use Rattle.engine.proofs.read.merging.merge.Goals as goal

rest : (n : ℕ) (xs : List Entry) → map entry_view (take (length xs - n) (drop n xs)) ≡ drop n (map entry_view xs)
rest n xs = ap (map entry_view) (rest-whole n xs) ∙ sym (drop-map entry_view n xs)

-- what is left is in order
pub first_of-requires-clause-left : goal.first_of-requires-clause-left
first_of-requires-clause-left c =
    let n = c.loop-next.from_left in
    let xs = c.args.left.now in
    subst (λ (ds : Documents). is_sorted id_cmp ds ≡ true) (sym (rest n xs)) (T_true _ (in_order-drop n (map entry_view xs) (true_T _ c.requires.left)))

pub first_of-requires-clause-right : goal.first_of-requires-clause-right
first_of-requires-clause-right c =
    let n = c.loop-next.from_right in
    let xs = c.args.right.now in
    subst (λ (ds : Documents). is_sorted id_cmp ds ≡ true) (sym (rest n xs)) (T_true _ (in_order-drop n (map entry_view xs) (true_T _ c.requires.right)))

within : (i m : ℕ) (xs : List Entry) → i ≤ length xs → m ≤ length (drop i (map entry_view xs)) → i + m ≤ length xs
within i m xs le fits = omega (arith, le, fits, length-drop i (map entry_view xs), length-map xs entry_view)

-- one document more
pub loop-next-preserved : goal.loop-next-preserved
loop-next-preserved c =
    let i = c.loop-next.from_left in
    let j = c.loop-next.from_right in
    let m = c.in-Some.next.from_left in
    let n = c.in-Some.next.from_right in
    let xs = c.args.left.now in
    let ys = c.args.right.now in
    let e = c.in-Some.next.entry in
    let next : IsNext (drop i (map entry_view xs)) (drop j (map entry_view ys)) (entry_view e) m n =
    subst (λ (ds : List Item). IsNext ds (drop j (map entry_view ys)) (entry_view e) m n) (rest i xs)
    (subst (λ (ds : List Item). IsNext (map entry_view (take (length xs - i) (drop i xs))) ds (entry_view e) m n) (rest j ys) c.in-Some.ensures.some) in
    record {
      left = within i m xs c.loop-next.invariant.left next.within_first;
      right = within j n ys c.loop-next.invariant.right next.within_second;
      all = merged-turn entry_view c.loop-next.all.items c.push.new.self.items e (map entry_view xs) (map entry_view ys) i j m n (merged (map entry_view xs) (map entry_view ys)) c.in_ok-push.ensures.items next c.loop-next.invariant.all;
    }

-- nothing is left
pub returns : goal.returns
returns c =
    let i = c.loop-next.from_left in
    let j = c.loop-next.from_right in
    let xs = c.args.left.now in
    let ys = c.args.right.now in
    let none = c.first_of.ensures.none c.in_default.is in
    sym (append-nil (map entry_view c.loop-next.all.items))
    ∙ ap (λ ds. map entry_view c.loop-next.all.items ++ ds) (sym none ∙ ap (λ ds. merged ds (map entry_view (take (length ys - j) (drop j ys)))) (rest i xs) ∙ ap (merged (drop i (map entry_view xs))) (rest j ys))
    ∙ c.loop-next.invariant.all
