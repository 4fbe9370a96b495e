-- Histories that go on.
use Rattle.std.proofs.Common.{◌≡◌, inl, inr, ◌≤◌, false, ℕ, suc, ◌+◌, min, List, [], ◌∷◌, ◌++◌, length, map, refl, sym, ap, subst, ◌∙◌, arith}
use Rattle.std.proofs.lemmas.List.{map-append, length-append}
use mathlib.Core.List.{IsPrefix}
use Rattle.engine.specs.Published.{Segments}
use Rattle.engine.specs.SnapshotChange.{StayShown}
use Rattle.replica.specs.Copy.{Copy}
use Rattle.replica.specs.Logged.{Logged, searched, IsLogged}
use Rattle.replica.specs.Searched.{IsRefreshTo}
use Rattle.front.specs.Command.{Command}
use Rattle.front.specs.Reply.{Reply}
use Rattle.shard.specs.Ready.{IsServed}
use Rattle.doc.specs.Mapping.{MappingData}
use Rattle.shard.specs.History.{AreUnder, Stand, EndsIn, LeadsTo, IsDone, IsHistory, DiffersInPoint, DiffersInSegments, IsNext, RunsOn}

-- a map of a beginning begins the map
pub map_prefix : {X Y : Type 0} (f : X → Y) (xs ys : List X) → IsPrefix xs ys → IsPrefix (map f xs) (map f ys)
map_prefix f xs ys begins = (map f begins.0, sym (map-append f xs begins.0) ∙ ap (map f) begins.1)

pub map_snoc : {X Y : Type 0} (f : X → Y) (xs : List X) (x : X) → map f (xs ++ x ∷ []) ≡ map f xs ++ f x ∷ []
map_snoc f xs x = map-append f xs (x ∷ [])

-- the last of a stand and those after it
abbrev last_after : Stand → List Stand → Stand
last_after s [] = s
last_after s (t ∷ ts) = last_after t ts

runs_more : (s : Stand) (ts : List Stand) (u : Stand) → RunsOn s ts → LeadsTo (last_after s ts) u → RunsOn s (ts ++ u ∷ [])
runs_more s [] u runs follows = (follows, tt)
runs_more s (t ∷ ts) u runs follows = (runs.0, runs_more t ts u runs.1 follows)

no_snoc : {X : Type 0} (xs : List X) (x : X) → [] ≡ xs ++ x ∷ [] → ⊥
no_snoc [] x e = absurd (cc)
no_snoc (y ∷ ys) x e = absurd (cc)

last_is : (s : Stand) (ts before : List Stand) (t : Stand) → s ∷ ts ≡ before ++ t ∷ [] → last_after s ts ≡ t
last_is s [] [] t e = let h : s ≡ t = cc in h
last_is s (u ∷ us) [] t e = absurd (cc)
last_is s [] (b ∷ before) t e = absurd (no_snoc before t (let h : [] ≡ before ++ t ∷ [] = cc in h))
last_is s (u ∷ us) (b ∷ before) t e = last_is u us before t (let h : u ∷ us ≡ before ++ t ∷ [] = cc in h)

-- a history goes on from its last
pub history_more : (ts : List Stand) (t u : Stand) → IsHistory ts → EndsIn t ts → LeadsTo t u → IsHistory (ts ++ u ∷ [])
history_more [] t u h ends follows = absurd h
history_more (s ∷ ts) t u h ends follows = (h.0, runs_more s ts u h.1 (subst (λ (x : Stand). LeadsTo x u) (sym (last_is s ts ends.before t ends.is)) follows))

pub ends_more : (ts : List Stand) (u : Stand) → EndsIn u (ts ++ u ∷ [])
ends_more ts u = record { before = ts; is = refl }

map_length : {X Y : Type 0} (f : X → Y) (xs : List X) → length (map f xs) ≡ length xs
map_length f [] = refl
map_length f (x ∷ xs) = ap suc (map_length f xs)

-- of two lists of which the shorter begins the other, so it is of their maps
pub mapped_prefix : {X Y : Type 0} (f : X → Y) (xs ys : List X) → (length xs ≤ length ys → IsPrefix xs ys) → length (map f xs) ≤ length (map f ys) → IsPrefix (map f xs) (map f ys)
mapped_prefix f xs ys begins le = map_prefix f xs ys (begins (omega (arith, le, map_length f xs, map_length f ys)))

-- one more is under the same mapping
under_more : (m : MappingData) (ts : List Stand) (u : Stand) → AreUnder m ts → u.copy.copy.mapping ≡ m → AreUnder m (ts ++ u ∷ [])
under_more m [] u under last = (last, tt)
under_more m (t ∷ ts) u under last = (under.0, under_more m ts u under.1 last)

under_last : (m : MappingData) (before : List Stand) (t : Stand) → AreUnder m (before ++ t ∷ []) → t.copy.copy.mapping ≡ m
under_last m [] t under = under.0
under_last m (b ∷ before) t under = under_last m before t under.1

same_mapping : (s t : Stand) → LeadsTo s t → t.copy.copy.mapping ≡ s.copy.copy.mapping
same_mapping s t (inl f) = f.mapping
same_mapping s t (inr (inl m)) = ap (λ (l : Logged). l.copy.mapping) m.copy
same_mapping s t (inr (inr m)) = ap (λ (l : Logged). l.copy.mapping) m.copy

pub next_is_under : (m : MappingData) (old new : List Stand) → AreUnder m old → IsNext old new → AreUnder m new
next_is_under m old new under n =
    let last : n.at.copy.copy.mapping ≡ m = under_last m n.ends.before n.at (subst (λ ts. AreUnder m ts) n.ends.is under) in
    subst (λ ts. AreUnder m ts) (sym n.is) (under_more m old n.next under (same_mapping n.at n.next n.goes_on ∙ last))

-- one more stands behind a history
pub next_is_history : (old new : List Stand) → IsHistory old → IsNext old new → IsHistory new
next_is_history old new h n = subst IsHistory (sym n.is) (history_more old n.at n.next h n.ends n.goes_on)

pub next_counted : {S : Type 0} (marked : List S) (f : S → Stand) (old : List Stand) (mark : List S) (count : ℕ) → old ≡ map f mark → count ≡ min (length mark) 18446744073709551615 → IsNext old (map f marked)
    → min (count + 1) 18446744073709551615 ≡ min (length marked) 18446744073709551615
next_counted marked f old mark count is counted n =
    let many : length old ≡ length mark = ap length is ∙ map_length f mark in
    let longer : length marked ≡ length old + 1 = sym (map_length f marked) ∙ (ap length n.is ∙ length-append old (n.next ∷ [])) in
    omega (arith, counted, many, longer)

-- a command that was done leads to the next
pub next_by : {S : Type 0} (entries new : List S) (x : S) (f : S → Stand) (old : List Stand) (at : Stand) (c : Command) (r : Reply) → old ≡ map f entries → EndsIn at old → new ≡ entries ++ x ∷ []
    → IsServed at.copy at.master c r (f x).copy (f x).master → IsLogged (f x).copy → (f x).copy.copy.mapping ≡ at.copy.copy.mapping → IsNext old (map f new)
next_by entries new x f old at c r same ends is served logged mapping = record {
  at = at;
  next = f x;
  ends = ends;
  goes_on = inl (record { command = c; reply = r; served = served; logged = logged; mapping = mapping });
  is = ap (map f) is ∙ (map_snoc f entries x ∙ ap (λ ts. ts ++ f x ∷ []) (sym same));
}

-- and so do segments that were merged
pub merged_by : {S : Type 0} (entries new : List S) (x : S) (f : S → Stand) (old : List Stand) (at : Stand) → old ≡ map f entries → EndsIn at old → new ≡ entries ++ x ∷ []
    → (f x).copy ≡ record at.copy { segments = (f x).copy.segments } → (f x).master ≡ at.master → IsNext old (map f new)
merged_by entries new x f old at same ends is copy master = record {
  at = at;
  next = f x;
  ends = ends;
  goes_on = inr (inl (record { copy = copy; master = master }));
  is = ap (map f) is ∙ (map_snoc f entries x ∙ ap (λ ts. ts ++ f x ∷ []) (sym same));
}

pub unmerged : (s t : Stand) → t.copy ≡ s.copy → t.master ≡ s.master → DiffersInSegments s t
unmerged s t copy master = record {
  copy = copy ∙ ap (λ (x : Segments). let l : Logged = record s.copy { segments = x } in l) (sym (ap (λ (l : Logged). l.segments) copy));
  master = master;
}

-- and so does a refresh that shows more
pub shown_by : {S : Type 0} (entries new : List S) (x : S) (f : S → Stand) (old : List Stand) (at : Stand) → old ≡ map f entries → EndsIn at old → new ≡ entries ++ x ∷ [] → DiffersInPoint at (f x) → IsNext old (map f new)
shown_by entries new x f old at same ends is more = record {
  at = at;
  next = f x;
  ends = ends;
  goes_on = inr (inr more);
  is = ap (map f) is ∙ (map_snoc f entries x ∙ ap (λ ts. ts ++ f x ∷ []) (sym same));
}

pub shows_more : (s t : Stand) (point : ℕ) → s.copy.closed ≡ false → IsRefreshTo point (searched s.copy) (searched t.copy) → t.copy ≡ record s.copy { copy = t.copy.copy; segments = t.copy.segments } → IsLogged t.copy → t.master ≡ s.master → DiffersInPoint s t
shows_more s t point now_open to copy logged master =
    let point_is : t.copy.copy.point ≡ point = ap (λ (c : Copy). c.point) to.copy in
    record {
      now_open = now_open;
      copy = copy ∙ ap (λ (c : Copy). let l : Logged = record s.copy { copy = c; segments = t.copy.segments } in l) (to.copy ∙ ap (λ p. let c : Copy = record s.copy.copy { point = p } in c) (sym point_is));
      more = subst (λ p. s.copy.copy.point ≤ p) (sym point_is) to.shows.more;
      within = subst (λ p. p ≤ length s.copy.copy.records) (sym point_is) to.shows.within;
      stay = subst (λ p. StayShown s.copy.copy.records s.copy.copy.point p) (sym point_is) to.shows.stay;
      logged = logged;
      master = master;
    }

pub done_by : {S : Type 0} (mark entries new : List S) (x : S) (f : S → Stand) (old reached : List Stand) (at : Stand) (c : Command) (r : Reply) → IsPrefix mark entries → old ≡ map f entries → EndsIn at old → new ≡ entries ++ x ∷ []
    → IsServed at.copy at.master c r (f x).copy (f x).master → reached ≡ map f new → IsHistory reached → IsDone (map f mark) c r reached
done_by mark entries new x f old reached at c r begins same ends is served grown legal = record {
  start = old;
  at = at;
  next = f x;
  goes_on = subst (λ ts. IsPrefix (map f mark) ts) (sym same) (map_prefix f mark entries begins);
  ends = ends;
  served = served;
  is = grown ∙ (ap (map f) is ∙ (map_snoc f entries x ∙ ap (λ ts. ts ++ f x ∷ []) (sym same)));
  legal = legal;
}
