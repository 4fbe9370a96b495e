use Rattle.std.proofs.Common.{◌≡◌, Err, ap}
use Rattle.translog.specs.declared.fault.LogFault.{LogFault}
use Rattle.translog.specs.declared.fault.LogFault.TheVariants.{TooLarge}
use Rattle.op.specs.Operations.{next_seq}
use Rattle.replica.specs.Copy.{operations}
use Rattle.replica.proofs.Drafting.{not_large, one_frame}
use Rattle.replica.proofs.LogLaws.{memory_alone}
use Rattle.replica.proofs.copy.Copy.prepare_records.Goals as goal
use Rattle.replica.proofs.copy.Copy.prepare_records.Goals.{in-Ok, in-Err}

pub prepare_group-requires : goal.prepare_group-requires
prepare_group-requires g c =
    let planned = c.requires.planned in
    let same : c.as_slice.result.now ≡ c.args.planned.records.items = c.as_slice.ensures.value in
    rw same (one_frame (next_seq (operations c.args.self.now.copy)) c.args.planned.records.items planned.rise c.requires.some planned.few)

pub returns-clause-memory : goal.returns-clause-memory
returns-clause-memory g c = elim c.match-prepare_group.branch [
  | in-Ok w ↦ rw w.result-is tt
  | in-Err w ↦
      let same : c.as_slice.result.now ≡ c.args.planned.records.items = c.as_slice.ensures.value in
      let small : w.in-Err.fault ≡ TooLarge → ⊥ = λ is. not_large c.args.planned.records.items c.requires.planned.small (rw same at (w.in-Err.ensures.large (ap (λ (f : LogFault). Err f) is))) in
      rw (w.result-is, w.from.ensures) (memory_alone c.as_slice.result.now _ w.in-Err.fault w.in-Err.ensures.frame small w.in-Err.ensures.no_failure)
]
