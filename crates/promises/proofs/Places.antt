-- Places of a history, and what stays from one to a later one.
use Rattle.std.proofs.Common.{◌≡◌, inl, inr, List, [], ◌∷◌, ◌++◌, Option, Some, None, Bool, refl, sym, ap, subst, ◌∙◌, append_assoc, append-nil}
use mathlib.Core.List.{IsPrefix}
use Rattle.chronicle.proofs.Lines.{prefix_trans}
use Rattle.op.specs.declared.operation.Op.{Op}
use Rattle.replica.specs.Copy.{Copy}
use Rattle.replica.specs.Logged.{Logged, IsSame}
use Rattle.front.specs.Command.{Command}
use Rattle.front.specs.Reply.{Reply}
use Rattle.shard.specs.Ready.{IsServed}
use Rattle.shard.specs.History.{Stand, EndsIn, LeadsTo, IsHistory, IsTold, RunsOn}
use Rattle.promises.specs.Promises.{NeverBack}
use Rattle.promises.proofs.Serving.{IsThere, is_open, served, stays}
use Rattle.promises.proofs.Steps.{HasOp, shown_more}

-- ---- places of a history

no_snoc : {X : Type 0} (xs : List X) (x : X) → [] ≡ xs ++ x ∷ [] → ⊥
no_snoc [] x e = absurd cc
no_snoc (y ∷ xs) x e = absurd cc

runs_front : (s : Stand) (ts more : List Stand) → RunsOn s (ts ++ more) → RunsOn s ts
runs_front s [] more h = tt
runs_front s (t ∷ ts) more h = (h.0, runs_front t ts more h.1)

history_front : (at : Stand) (ts more : List Stand) → EndsIn at ts → IsHistory (ts ++ more) → IsHistory ts
history_front at [] more ends h = absurd (no_snoc ends.before at ends.is)
history_front at (s ∷ ts) more ends h = (h.0, runs_front s ts more h.1)

-- the place that a reply is of, and the one behind it
pub record IsPlaced (old : List Stand) (c : Command) (r : Reply) (new : List Stand) : Type 0 where
  pub start : List Stand
  pub at : Stand
  pub next : Stand
  pub goes_on : IsPrefix old start
  pub begins : EndsIn at start
  pub served : IsServed at.copy at.master c r next.copy next.master
  pub ends : EndsIn next new
  pub legal : IsHistory start

pub placed : (old : List Stand) (c : Command) (r : Reply) (new : List Stand) → IsTold old c r new → IsPlaced old c r new
placed old c r new (inl d) = record {
  start = d.start;
  at = d.at;
  next = d.next;
  goes_on = d.goes_on;
  begins = d.ends;
  served = d.served;
  ends = record { before = d.start; is = d.is };
  legal = history_front d.at d.start (d.next ∷ []) d.ends (subst IsHistory d.is d.legal);
}
placed old c r new (inr l) = record {
  start = new;
  at = l.replied.at;
  next = l.replied.at;
  goes_on = l.goes_on;
  begins = l.replied.ends;
  served = l.replied.served;
  ends = l.replied.ends;
  legal = l.legal;
}

abbrev last_after : Stand → List Stand → Stand
last_after s [] = s
last_after s (t ∷ ts) = last_after t ts

abbrev final : List Stand → Option Stand
final [] = None
final (s ∷ ts) = Some (last_after s ts)

last_snoc : (s : Stand) (ts : List Stand) (x : Stand) → last_after s (ts ++ x ∷ []) ≡ x
last_snoc s [] x = refl
last_snoc s (t ∷ ts) x = last_snoc t ts x

final_snoc : (ts : List Stand) (x : Stand) → final (ts ++ x ∷ []) ≡ Some x
final_snoc [] x = refl
final_snoc (s ∷ ts) x = ap (λ (y : Stand). let o : Option Stand = Some y in o) (last_snoc s ts x)

last_in : (b : Stand) (bs : List Stand) (s : Stand) (ts : List Stand) → last_after b (bs ++ s ∷ ts) ≡ last_after s ts
last_in b [] s ts = refl
last_in b (x ∷ bs) s ts = last_in x bs s ts

final_in : (bs : List Stand) (s : Stand) (ts : List Stand) → final (bs ++ s ∷ ts) ≡ Some (last_after s ts)
final_in [] s ts = refl
final_in (b ∷ bs) s ts = ap (λ (y : Stand). let o : Option Stand = Some y in o) (last_in b bs s ts)

runs_in : (b : Stand) (bs : List Stand) (s : Stand) (ts : List Stand) → RunsOn b (bs ++ s ∷ ts) → RunsOn s ts
runs_in b [] s ts h = h.1
runs_in b (x ∷ bs) s ts h = runs_in x bs s ts h.1

runs_behind : (bs : List Stand) (s : Stand) (ts : List Stand) → IsHistory (bs ++ s ∷ ts) → RunsOn s ts
runs_behind [] s ts h = h.1
runs_behind (b ∷ bs) s ts h = runs_in b bs s ts h.1

some_one : (x y : Stand) → (let o : Option Stand = Some x in o) ≡ Some y → x ≡ y
some_one x y e = cc

-- ---- what is there stays

goes_there : (o : Op) (seen : Bool) (s t : Stand) → LeadsTo s t → IsThere o seen s.copy → IsThere o seen t.copy
goes_there o seen s t (inl f) there = served o seen s.copy s.master f.command f.reply t.copy t.master f.served there
goes_there o seen s t (inr (inl m)) there =
    let same : IsSame s.copy t.copy = record { copy = ap (λ (l : Logged). l.copy) m.copy; closed = ap (λ (l : Logged). l.closed) m.copy; log = ap (λ (l : Logged). l.log) m.copy; failures = ap (λ (l : Logged). l.failures) m.copy } in
    stays o seen s.copy t.copy same there
goes_there o seen s t (inr (inr m)) there =
    let c : Copy = record s.copy.copy { point = t.copy.copy.point } in
    is_open o seen t.copy (ap (λ (l : Logged). l.closed) m.copy ∙ m.now_open)
    (subst (λ (d : Copy). HasOp o seen d) (sym (ap (λ (l : Logged). l.copy) m.copy)) (shown_more o seen s.copy.copy t.copy.copy.point m.within m.stay (there.while_open m.now_open)))

runs_there : (o : Op) (seen : Bool) (s : Stand) (ts : List Stand) → RunsOn s ts → IsThere o seen s.copy → IsThere o seen (last_after s ts).copy
runs_there o seen s [] h there = there
runs_there o seen s (t ∷ ts) h there = runs_there o seen t ts h.1 (goes_there o seen s t h.0 there)

along : (o : Op) (seen : Bool) (t at : Stand) (xs ys : List Stand) → EndsIn t xs → IsPrefix xs ys → IsHistory ys → EndsIn at ys → IsThere o seen t.copy → IsThere o seen at.copy
along o seen t at xs ys ends begins legal last there =
    let is : ys ≡ ends.before ++ t ∷ begins.0 = sym begins.1 ∙ (ap (λ l. l ++ begins.0) ends.is ∙ append_assoc ends.before (t ∷ []) begins.0) in
    let end : last_after t begins.0 ≡ at = some_one (last_after t begins.0) at (sym (final_in ends.before t begins.0) ∙ (ap final (sym is ∙ last.is) ∙ final_snoc last.before at)) in
    subst (λ (s : Stand). IsThere o seen s.copy) end (runs_there o seen t begins.0 (runs_behind ends.before t begins.0 (subst IsHistory is legal)) there)

-- from one reply to the next
pub between : (o : Op) (seen : Bool) (old acked later new : List Stand) (c d : Command) (r e : Reply) (p : IsPlaced old c r acked) (q : IsPlaced later d e new) → IsPrefix acked later → IsThere o seen p.next.copy → IsThere o seen q.at.copy
between o seen old acked later new c d r e p q begins there = along o seen p.next q.at acked q.start p.ends (prefix_trans acked later q.start begins q.goes_on) q.legal q.begins there

-- ---- in order

told_on : (old : List Stand) (c : Command) (r : Reply) (new : List Stand) → IsTold old c r new → IsPrefix old new
told_on old c r new (inl d) = prefix_trans old d.start new d.goes_on (d.next ∷ [], sym d.is)
told_on old c r new (inr l) = l.goes_on

pub never_back : NeverBack
never_back old new [] [] h = ([], append-nil old ∙ sym h)
never_back old new (c ∷ cs) (r ∷ rs) h = prefix_trans old h.0 new (told_on old c r h.0 h.1) (never_back h.0 new cs rs h.2)
never_back old new [] (r ∷ rs) h = absurd h
never_back old new (c ∷ cs) [] h = absurd h
