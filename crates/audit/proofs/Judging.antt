-- Where the judging of a journal stops.
use Rattle.std.proofs.Common.{◌≡◌, ℕ, ◌<◌, List, length, drop, inl, sym, subst}
use Rattle.std.specs.Prelude.{slice_index_or}
use Rattle.std.proofs.lemmas.List.{drop_more}
use Rattle.journal.specs.declared.journal.Deed.{Deed}
use Rattle.audit.specs.declared.judge.Wrong.{Wrong}
use Rattle.audit.specs.declared.judge.Wrong.TheVariants.{At, NoMemory}
use Rattle.journal.specs.declared.moves.Placed.{Placed}
use Rattle.journal.specs.Journal.{Standing}
use Rattle.audit.specs.Audit.{FailsAt}
use Rattle.audit.specs.Judge.{IsRefused, IsMisjudged, IsSoFar}

pub misjudged : (start s : Standing) (place : ℕ) (ds : List Deed) (d : Deed) (ps : List Placed) (e : Wrong) → place < length ds → d ≡ slice_index_or ds place d → IsSoFar start s place ds (drop place ds) ps → IsRefused s place d e → IsMisjudged start ds e
misjudged start s place ds d ps NoMemory lt is far refused = tt
misjudged start s place ds d ps (At at) lt is far refused = far.fails at (subst (λ (l : List Deed). FailsAt s place l at) (sym (drop_more ds place d lt)) (inl (subst (λ (x : Deed). IsRefused s place x (At at)) is refused)))
