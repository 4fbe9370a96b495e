-- Changes that lead from the documents of so many records to those of more.
use Rattle.std.proofs.Common.{◌≡◌, ◌≤◌, ℕ, List, [], ◌∷◌, ◌++◌, length, sym, ap, ◌∙◌, arith}
use Rattle.std.proofs.lemmas.List.{take-append-le, length-append}
use Rattle.op.specs.declared.record.Record.{Record}
use Rattle.op.specs.Operations.{op_at}
use Rattle.op.specs.Documents.{documents}
use Rattle.op.specs.Records.{operations, shown}
use Rattle.engine.specs.declared.operations.history.Applied.{Applied}
use Rattle.engine.specs.declared.operations.history.Applied.TheVariants.{Taken, Stale, Repeated}
use Rattle.engine.specs.Applied.{records_after}
use Rattle.engine.specs.Changes.{ChangesData, LeadsOn}
use Rattle.engine.specs.Parts.{merged, without}

-- records more leave what is shown
pub shown-more : (rs more : List Record) (point : ℕ) → point ≤ length rs → shown (rs ++ more) point ≡ shown rs point
shown-more rs more point le = ap operations (take-append-le point rs more le)

-- they do so where records come
pub leads-more : (rs more : List Record) (point : ℕ) (c : ChangesData) → LeadsOn rs point c → LeadsOn (rs ++ more) point c
leads-more rs more point c leads = record {
  more = leads.more;
  within = omega (arith, leads.within, length-append rs more);
  stay = λ o before.
      ap (λ os. op_at os o.seq) (shown-more rs more c.point leads.within)
      ∙ leads.stay o (ap (λ os. op_at os o.seq) (sym (shown-more rs more point (omega (arith, leads.more, leads.within)))) ∙ before);
  same =
      ap (λ os. merged c.documents (without c.ids (documents os))) (shown-more rs more point (omega (arith, leads.more, leads.within)))
      ∙ leads.same
      ∙ ap documents (sym (shown-more rs more c.point leads.within));
}

-- and after one that was applied
pub leads-after : (rs : List Record) (r : Record) (a : Applied) (point : ℕ) (c : ChangesData) → LeadsOn rs point c → LeadsOn (records_after rs r a) point c
leads-after rs r Repeated point c leads = leads
leads-after rs r Taken point c leads = leads-more rs (r ∷ []) point c leads
leads-after rs r Stale point c leads = leads-more rs (r ∷ []) point c leads
