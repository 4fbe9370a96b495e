-- Documents as they are kept for searches.
use denote.Ref.{Bor}
use Rattle.std.specs.Prelude.{◌≡◌, ℕ, Bool, true, List, map, Vec}
use Rattle.std.specs.declared.alloc.Global.{Global}
use Rattle.std.specs.List.{AllByRecursion}
use Rattle.std.specs.FinMap.Entries.{is_sorted}
use Rattle.doc.specs.Id.{Id, id_cmp}
use Rattle.op.specs.Documents.{Document, Documents}
use Rattle.engine.specs.IdFilter.{has_bit}
use Rattle.engine.specs.declared.read.block.Shown.{Shown}
use Rattle.engine.specs.declared.read.snapshot.Hit.{Hit}
use Rattle.engine.specs.declared.read.snapshot.Hits.{Hits}
use Rattle.engine.specs.Answer.{Answer}

-- the document, as it was made
abbrev pub shown_view : Shown → Id × Document
shown_view s = (s.id, record { seq = s.seq; term = s.term; version = s.version; source = s.source })

-- the sources of documents in byte order of their ids, no id twice, and a bit for each id
pub record IsBlock (ds : List Shown) (sources : List (List ℕ)) (bits : List Bool) : Type 0 where
  pub same : sources ≡ map (λ d. d.source) ds
  pub sorted : is_sorted id_cmp (map shown_view ds) ≡ true
  pub ids : AllByRecursion (λ d. has_bit bits d.id ≡ true) ds

-- documents where they stand
abbrev pub seen : List (Bor Shown) → Documents
seen rs = map (λ r. shown_view r.now) rs

-- the documents of each of some lists
abbrev pub seen_all : List (Vec (Bor Shown) Global) → List Documents
seen_all vs = map (λ v. seen v.items) vs

abbrev pub hit_view : Hit → Id × List ℕ
hit_view h = (h.id, h.source)

-- what was found, as it is handed out
abbrev pub hits_view : Hits → Answer
hits_view h = record { total = h.total; hits = map hit_view h.hits.items }
