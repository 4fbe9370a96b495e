use Rattle.std.proofs.Common.{◌≡◌, ◌∙◌, [], ◌∷◌, true, false, Err, ap, sym}
use Rattle.translog.specs.declared.fault.LogFault.{LogFault}
use Rattle.translog.specs.declared.fault.LogFault.TheVariants.{TooLarge}
use Rattle.replica.proofs.LogLaws.{memory_alone}
use Rattle.replica.proofs.copy.Copy.prepare_record.Goals as goal
use Rattle.replica.proofs.copy.Copy.prepare_record.Goals.{in-Ok, in-Err}

pub returns-clause-memory : goal.returns-clause-memory
returns-clause-memory g c = elim c.match-prepare.branch [
  | in-Ok w ↦ rw w.result-is tt
  | in-Err w ↦
      let small : w.in-Err.fault ≡ TooLarge → ⊥ = λ is. let both : true ≡ false = sym (w.in-Err.ensures.large (ap (λ (f : LogFault). Err f) is)) ∙ c.requires.keepable.small in absurd cc in
      rw (w.result-is, w.from.ensures) (memory_alone (c.args.planned.next_record ∷ []) _ w.in-Err.fault w.in-Err.ensures.frame small w.in-Err.ensures.no_failure)
]
