-- What searches look through after a step.
use Rattle.std.proofs.Common.{◌≡◌, ◌∙◌, ◌<◌, ◌≤◌, length, ℕ, Bool, true, false, List, [], Result, Ok, Err, refl, sym, ap, subst}
use Rattle.std.specs.Prelude.{◌↔◌, IfOk, OnErr, OnOk, is_some, max}
use Rattle.op.specs.declared.record.Record.{Record}
use Rattle.engine.specs.Contents.{Contents, EngineData, contents_of, segments_of}
use Rattle.engine.specs.Live.{live_of, woven, GoTogether}
use Rattle.engine.specs.Published.{MergeData, Segments, mergeable_count, numbered, taken_of, AreGone, IsSwapped}
use Rattle.engine.specs.SnapshotChange.{ShowsMore}
use Rattle.replica.specs.declared.fault.CopyFault.{CopyFault}
use Rattle.replica.specs.declared.input.Input.{Input}
use Rattle.replica.specs.declared.input.Input.TheVariants.{Write, Bulk, Take, Report, Refresh, Get, Restart}
use Rattle.replica.specs.declared.output.Output.{Output}
use Rattle.replica.specs.declared.prepared.Prepared.{Prepared}
use Rattle.replica.specs.declared.prepared.Prepared.TheVariants.{Answered, Settled, Kept, KeptAll, Shown, Restarted}
use Rattle.replica.specs.Copy.{Copy}
use Rattle.replica.specs.Logged.{Logged, AreSearched, IsReady, is_refresh, is_restart, is_restarted, new_snapshot, prepared_copy, prepared_segments, searched}
use Rattle.replica.specs.Searched.{Searched, engine_of, IsNextMerge, IsRefreshTo, IsSwapOf, ShowsAll, ShowsAnew}

pub same_searched : (a b : Logged) → a.copy ≡ b.copy → a.segments ≡ b.segments → searched a ≡ searched b
same_searched a b copy segments =
    ap (λ (c : Copy). let s : Searched = record { copy = c; segments = a.segments } in s) copy ∙ ap (λ (x : Segments). let s : Searched = record { copy = b.copy; segments = x } in s) segments

-- what a step leaves that is ready
abbrev prepared_by : Searched → Prepared → Searched
prepared_by s p = record { copy = prepared_copy s.copy p; segments = prepared_segments s.segments p }

stays : (p : Prepared) (s : Segments) → is_some (new_snapshot p) ≡ false → prepared_segments s p ≡ s
stays (Answered output) s same = refl
stays (Settled t) s same = refl
stays (Kept frame p) s same = refl
stays (KeptAll frame p) s same = refl
stays (Shown staged output) s same = absurd cc
stays (Restarted r output) s same = absurd cc

shows_all : (p : Prepared) (l : Logged) → IsReady l p → is_restarted p ≡ false → is_some (new_snapshot p) ≡ true → ShowsAll (engine_of (searched l)) (engine_of (prepared_by (searched l) p))
shows_all (Answered output) l ready kind new = absurd cc
shows_all (Settled t) l ready kind new = absurd cc
shows_all (Kept frame p) l ready kind new = absurd cc
shows_all (KeptAll frame p) l ready kind new = absurd cc
shows_all (Shown staged output) l ready kind new =
    subst (λ (rs : List Record). ShowsAll (engine_of (searched l)) (record (engine_of (prepared_by (searched l) (Shown staged output))) { records = rs })) ready.1 ready.2.shows
shows_all (Restarted r output) l ready kind new = absurd cc

shows_anew : (p : Prepared) (l : Logged) → IsReady l p → is_restarted p ≡ true → ShowsAnew l.segments (prepared_segments l.segments p) (prepared_copy l.copy p).records
shows_anew (Answered output) l ready kind = absurd cc
shows_anew (Settled t) l ready kind = absurd cc
shows_anew (Kept frame p) l ready kind = absurd cc
shows_anew (KeptAll frame p) l ready kind = absurd cc
shows_anew (Shown staged output) l ready kind = absurd cc
shows_anew (Restarted r output) l ready kind = ready.3.shows

searches : (input : Input) (old mid new : Logged) (p : Prepared) → IsReady mid p → mid.copy ≡ old.copy → mid.segments ≡ old.segments → is_restarted p ≡ is_restart input → is_some (new_snapshot p) ≡ is_refresh input
    → new.copy ≡ prepared_copy mid.copy p → new.segments ≡ prepared_segments mid.segments p → AreSearched old new input
searches (Write w) old mid new p ready same kept kind shows copy segments = segments ∙ stays p mid.segments shows ∙ kept
searches (Bulk ws) old mid new p ready same kept kind shows copy segments = segments ∙ stays p mid.segments shows ∙ kept
searches (Take m) old mid new p ready same kept kind shows copy segments = segments ∙ stays p mid.segments shows ∙ kept
searches (Report r) old mid new p ready same kept kind shows copy segments = segments ∙ stays p mid.segments shows ∙ kept
searches Refresh old mid new p ready same kept kind shows copy segments =
    let is : searched new ≡ prepared_by (searched mid) p =
    ap (λ (c : Copy). let s : Searched = record { copy = c; segments = new.segments } in s) copy
    ∙ ap (λ (x : Segments). let s : Searched = record { copy = prepared_copy mid.copy p; segments = x } in s) segments in
    subst (λ (s : Searched). ShowsAll (engine_of s) (engine_of (searched new))) (same_searched mid old same kept)
    (subst (λ (s : Searched). ShowsAll (engine_of (searched mid)) (engine_of s)) (sym is) (shows_all p mid ready kind shows))
searches (Get id) old mid new p ready same kept kind shows copy segments = segments ∙ stays p mid.segments shows ∙ kept
searches Restart old mid new p ready same kept kind shows copy segments =
    subst (λ (s : Segments). ShowsAnew s new.segments new.copy.records) kept
    (subst (λ (s : Segments). ShowsAnew mid.segments s new.copy.records) (sym segments)
    (subst (λ (c : Copy). ShowsAnew mid.segments (prepared_segments mid.segments p) c.records) (sym copy) (shows_anew p mid ready kind)))

-- a step that was made ready and done
pub done_searches : (r : Result Output CopyFault) (input : Input) (old mid new : Logged) (p : Prepared) → IsReady mid p → mid.copy ≡ old.copy → mid.segments ≡ old.segments → is_restarted p ≡ is_restart input → is_some (new_snapshot p) ≡ is_refresh input
    → OnOk r (new.copy ≡ prepared_copy mid.copy p) → OnOk r (new.segments ≡ prepared_segments mid.segments p) → OnOk r (AreSearched old new input)
done_searches (Ok o) input old mid new p ready same kept kind shows copy segments = searches input old mid new p ready same kept kind shows copy segments
done_searches (Err e) input old mid new p ready same kept kind shows copy segments = tt

pub refused_stays : (r : Result Output CopyFault) (old mid new : Logged) → mid.segments ≡ old.segments → OnErr r (new.segments ≡ mid.segments) → OnErr r (new.segments ≡ old.segments)
refused_stays (Ok o) old mid new kept same = tt
refused_stays (Err e) old mid new kept same = same ∙ kept

-- a merge of some segments, where these are many
pub next_merge : (few : ℕ) (s : Segments) (m : MergeData) (numbers : List ℕ) → max 1 few < mergeable_count s.published → 2 ≤ length (numbered numbers s.published) → length numbers ≤ 10
    → GoTogether numbers s.published s.live
    → m ≡ record { taken = taken_of (numbered numbers s.published); mapping = s.mapping; documents = woven (live_of numbers s.published s.live) } → IsNextMerge few s m
next_merge few s m numbers many some ten fit is = record { many = many; numbers = numbers; is = is; some = some; ten = ten; fit = fit }

-- a swap of the engine is one of the copy
pub swap_of : {E : Type 0} (r : Result Bool E) (m : MergeData) (e f : EngineData) (c d : Copy) → d ≡ c → IfOk r (λ b. (b ≡ true) ↔ (AreGone e.published m.taken → m.taken ≡ []))
    → IfOk r (λ b. b ≡ true → (m.taken ≡ [] → ⊥) → IsSwapped m.taken (segments_of e) (segments_of f)) → (m.taken ≡ [] → f ≡ e) → IfOk r (λ b. b ≡ false → f ≡ e)
    → IfOk r (IsSwapOf m (record { copy = c; segments = segments_of e }) (record { copy = d; segments = segments_of f }))
swap_of (Ok b) m e f c d copy answer swapped none stays = record {
  copy = copy;
  answer = answer;
  swapped = swapped;
  none = λ empty. ap segments_of (none empty);
  stays = λ gone. ap segments_of (stays gone);
}
swap_of (Err x) m e f c d copy answer swapped none stays = tt

moved : (e f : EngineData) (n : ℕ) → contents_of f ≡ record (contents_of e) { point = n } → contents_of f ≡ record (contents_of e) { point = f.point }
moved e f n same = same ∙ ap (λ k. let c : Contents = record (contents_of e) { point = k } in c) (sym (ap (λ (c : Contents). c.point) same))

as_before : (e f : EngineData) → f ≡ e → contents_of f ≡ record (contents_of e) { point = f.point }
as_before e f same = moved e f e.point (ap contents_of same)

-- an engine whose refresh was finished, or wasn't, has what it had, but for the point
pub finished_or_not : {E : Type 0} (r : Result Bool E) (point : ℕ) (e f : EngineData) → IfOk r (λ b. b ≡ true → ShowsMore point e f) → IfOk r (λ b. b ≡ false → f ≡ e) → OnErr r (f ≡ e)
    → contents_of f ≡ record (contents_of e) { point = f.point }
finished_or_not (Ok true) point e f done stays err = moved e f point (done refl).contents
finished_or_not (Ok false) point e f done stays err = as_before e f (stays refl)
finished_or_not (Err x) point e f done stays err = as_before e f err

-- a refresh of the engine is one of the copy
pub refresh_of : {E : Type 0} (r : Result Bool E) (point : ℕ) (e f : EngineData) (c d : Copy) → d ≡ record c { point = f.point }
    → engine_of (record { copy = c; segments = segments_of e }) ≡ e → engine_of (record { copy = d; segments = segments_of f }) ≡ f
    → IfOk r (λ b. b ≡ true → ShowsMore point e f) → IfOk r (λ b. b ≡ true → IsRefreshTo point (record { copy = c; segments = segments_of e }) (record { copy = d; segments = segments_of f }))
refresh_of (Ok b) point e f c d copy before after done = λ is. record {
  copy = copy ∙ ap (λ k. let x : Copy = record c { point = k } in x) (ap (λ (x : Contents). x.point) (done is).contents);
  shows = subst (λ (x : EngineData). ShowsMore point x (engine_of (record { copy = d; segments = segments_of f }))) (sym before) (subst (λ (x : EngineData). ShowsMore point e x) (sym after) (done is));
}
refresh_of (Err x) point e f c d copy before after done = tt
