use Rattle.std.proofs.Common.{◌≡◌, ◌++◌, refl, [], ◌∷◌, ap, subst, ◌∙◌}
use Rattle.replica.specs.Searched.{Searched}
use Rattle.replica.specs.Logged.{Logged, IsLogged}
use Rattle.replica.specs.Standing.{placed}
use Rattle.replica.proofs.LogLaws.{front_at, grown_by, torn_at}
use Rattle.replica.proofs.copy.Copy.commit_record.Goals as goal

pub returns-in-Err-clause-closed : goal.returns-in-Err-clause-closed
returns-in-Err-clause-closed g c failed =
    let s = c.args.self.now in
    let logged : IsLogged s = subst (λ (l : Logged). IsLogged l) c.self.view_is c.self.invariant in
    let log = ap (λ (l : Logged). l.log) c.self.view_is in
    record {
      closed = refl;
      copy = ap (λ (x : Searched). x.copy) c.in-Ok.ensures.ok ∙ ap (λ (l : Logged). placed l.copy c.args.planned.next_record c.args.planned.term c.args.planned.known c.args.planned.role) c.self.view_is;
      records = torn_at s _ _ (c.args.planned.next_record ∷ []) c.args.frame log logged c.requires.0 c.requires.2 c.in-Err.ensures.err;
      log = front_at _ _ c.args.frame _ log c.in-Err.ensures.err;
    }

pub invariant_of-self-in-Ok-append : goal.invariant_of-self-in-Ok-append
invariant_of-self-in-Ok-append g c opened =
    let s = c.args.self.now in
    let records : c.place-kept.new.self.copy.records ≡ s.copy.records ++ c.args.planned.next_record ∷ [] =
    ap (λ (x : Searched). x.copy.records) c.in-Ok.ensures.ok ∙ ap (λ (l : Logged). l.copy.records ++ c.args.planned.next_record ∷ []) c.self.view_is in
    grown_by _ s (c.args.planned.next_record ∷ []) c.args.frame _ _ _ c.self.view_is c.self.invariant opened c.requires.2 c.in-Ok-append.ensures.ok records c.in-Ok-append.ensures.groups
