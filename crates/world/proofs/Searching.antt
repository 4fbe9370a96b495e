-- A search at a copy of a world.
use Rattle.std.proofs.Common.{◌≡◌, ℕ, ◌≤◌, List, Option, Some, None, option_map, IfSome, sym, ap, ◌∙◌}
use Rattle.doc.specs.Mapping.{MappingData}
use Rattle.query.specs.Page.{PageData}
use Rattle.query.specs.Query.{Query}
use Rattle.engine.specs.Answer.{Answer}
use Rattle.replica.specs.Copy.{Copy}
use Rattle.world.specs.declared.event.Event.{Event}
use Rattle.world.specs.Clauses.{EachCopy}
use Rattle.world.specs.Search.{search_in}
use Rattle.world.specs.World.{World, copy_in, world_of}
use Rattle.world.proofs.Mapped.{mapping_of}

-- what holds of each copy holds of one that was found
pub of_found : {A : Type 0} (P : Copy → Type 0) (w : World) (id : ℕ) (view : A → Copy) (found : Option A) → EachCopy P w → option_map view found ≡ copy_in w.copies id → IfSome found (λ a. P (view a))
of_found P w id view None each is = tt
of_found P w id view (Some a) each is = each id (view a) (sym is)

-- in a world that events lead to
pub found_after : (w : World) (m : MappingData) (n : ℕ) (es : List Event) (id : ℕ) (q : Query) (page : PageData) (found : Option Answer) → 1 ≤ n → w ≡ world_of m n es
    → found ≡ search_in w w.mapping id q page → found ≡ search_in (world_of m n es) m id q page
found_after w m n es id q page found some is at =
    let same : w.mapping ≡ m = ap (λ (x : World). x.mapping) is ∙ mapping_of m n es some in
    at ∙ ap (λ (k : MappingData). search_in w k id q page) same ∙ ap (λ (x : World). search_in x m id q page) is
