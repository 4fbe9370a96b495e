use Rattle.std.proofs.Common.{◌≡◌, ◌∙◌, ap, length, take, subst, IfOk}
use Rattle.std.proofs.lemmas.List.{take_all}
use Rattle.marks.specs.Lists.{places}
use Rattle.marks.proofs.Runs.{length-places}
use Rattle.marks.proofs.marks.Marks.places.Goals as goal

pub returns : goal.returns
returns c =
    let all = places (λ b. b) c.args.self.now in
    subst (λ ps. IfOk c.first.result (λ v. v.items ≡ ps))
    (ap (λ n. take n all) c.len.ensures ∙ take_all (length c.args.self.now) all (length-places 0 c.args.self.now))
    c.first.ensures
