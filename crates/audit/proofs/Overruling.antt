-- Where the judging of the master's journal stops.
use Rattle.std.proofs.Common.{◌≡◌, ℕ, ◌<◌, List, length, drop, inl, sym, subst}
use Rattle.std.specs.Prelude.{slice_index_or}
use Rattle.std.proofs.lemmas.List.{drop_more}
use Rattle.journal.specs.declared.journal.Ruling.{Ruling}
use Rattle.audit.specs.declared.judge.Wrong.{Wrong}
use Rattle.audit.specs.declared.judge.Wrong.TheVariants.{At, NoMemory}
use Rattle.journal.specs.declared.moves.Placed.{Placed}
use Rattle.audit.specs.Audit.{RulingFailsAt}
use Rattle.audit.specs.Ruled.{AreOverruled, AreRuledSoFar, IsOverruled}
use Rattle.journal.specs.Rulings.{Ruler}

pub overruled : (start s : Ruler) (place : ℕ) (rs : List Ruling) (r : Ruling) (ps : List Placed) (e : Wrong) → place < length rs → r ≡ slice_index_or rs place r → AreRuledSoFar start s place rs (drop place rs) ps → IsOverruled s place r e → AreOverruled start rs e
overruled start s place rs r ps NoMemory lt is far refused = tt
overruled start s place rs r ps (At at) lt is far refused = far.fails at (subst (λ (l : List Ruling). RulingFailsAt s place l at) (sym (drop_more rs place r lt)) (inl (subst (λ (x : Ruling). IsOverruled s place x (At at)) is refused)))
