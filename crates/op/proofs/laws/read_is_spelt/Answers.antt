use Rattle.op.proofs.RulesLaws.{record_is}
use Rattle.op.proofs.Spellings.{record_spelt}
use Rattle.op.proofs.laws.read_is_spelt.Goals as goal

pub returns : goal.returns
returns c = λ bytes r fits e. let s = record_spelt bytes r fits e in (s.0, record_is r s.1, s.2, s.3)
