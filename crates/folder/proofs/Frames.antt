-- The records of frames keep the rules of records.
use Rattle.std.proofs.Common.{◌≡◌, List, [], ◌∷◌, ◌++◌, sym, subst}
use Rattle.std.specs.Prelude.{All}
use Rattle.std.specs.List.{AllByRecursion}
use Rattle.std.proofs.lemmas.List.Elements.{All-append, All-from_recursion}
use Rattle.op.specs.declared.record.Record.{Record}
use Rattle.op.specs.Records.{AreOfOneFrame, IsRecord}
use Rattle.translog.proofs.KeptLaws.{each_of_group}

of_frame : (rs : List Record) → AreOfOneFrame rs → AllByRecursion IsRecord rs
of_frame [] h = tt
of_frame (r ∷ []) h = (h, tt)
of_frame (r ∷ s ∷ rs) h = each_of_group (r ∷ s ∷ rs) h.each

-- also behind others that do
pub with_frame : (rs new all : List Record) → All IsRecord rs → AreOfOneFrame new → all ≡ rs ++ new → All IsRecord all
with_frame rs new all each frame is = subst (λ (x : List Record). All IsRecord x) (sym is) (All-append IsRecord rs new each (All-from_recursion IsRecord new (of_frame new frame)))
