-- Parts of a bulk that are done one after another.
use Rattle.std.proofs.Common.{◌≡◌, ℕ, zero, ◌<◌, ◌≤◌, take-append-drop, Bool, true, ◌&&◌, ◌||◌, List, [], ◌∷◌, ◌++◌, map, Option, Some, None, IfSome, false, Result, Ok, Err, refl, sym, ap, ◌∙◌, append_assoc, append-nil, add-one, arith, suc, ◌+◌, length, length-append, get_or, take, drop}
use Rattle.std.specs.Prelude.{is_none}
use Rattle.std.proofs.Math.Seq.{drop-append_seam}
use Rattle.std.proofs.lemmas.List.{map-append, length-map, take_more}
use Rattle.doc.specs.Mapping.{MappingData}
use Rattle.front.specs.declared.command.Write.{Write}
use Rattle.front.specs.declared.reply.ItemReply.{ItemReply}
use Rattle.front.specs.declared.reply.Refusal.{Refusal}
use Rattle.front.specs.Item.{Item}
use Rattle.front.specs.Bulk.{item_write, good, batch, parts, fault_text, reply_text, item_reply, each, writes_in, told, text_then, refreshing, is_any, writes_of, write_commands, bulk_commands, bulk_texts, refusal_in, bulk_refusal, said, Step, step_of, step_text, steps_of, told_of, waits, AreSteps, IsFaultText, IsStepOf, IsPart, PartDone, BegunOf, WritesDone, RefreshDone, BulkDone}
use Rattle.front.specs.Command.{Command, bulk, refresh}
use Rattle.front.specs.Fault.{Fault}
use Rattle.front.specs.Reply.{Reply}
use Rattle.front.specs.Calls.{Calls}
use Rattle.front.proofs.Parts.{next_part}

-- what is told of each write of a part
told_said : (r : Reply) (ws : List Write) → told (batch ws) (said ws r) ≡ each r 0 ws
told_said r [] = refl
told_said r (w ∷ ws) = append-nil (each r 0 (w ∷ ws))

each_length : (r : Reply) (k : ℕ) (ws : List Write) → length (each r k ws) ≡ length ws
each_length r k [] = refl
each_length r k (w ∷ ws) = ap suc (each_length r (suc k) ws)

then_step : (greets : Bool) (why : List ℕ) (i : Item) (k : ℕ) (w : Result Write Fault) (r : Reply) (steps : ℕ → List Step) (ws : List Write) (more : List ItemReply → List (Bool × List ℕ))
    → ((j : ℕ) → map (step_text greets r) (steps j) ≡ more (each r j ws)) → map (step_text greets r) (step_of greets why i k w ∷ steps (k + length (good w))) ≡ text_then greets why i w (each r k (good w ++ ws)) more
then_step greets why i k (Err f) r steps ws more h = ap (λ l. fault_text greets why i f ∷ l) (ap (λ j. map (step_text greets r) (steps j)) (omega arith) ∙ h k)
then_step greets why i k (Ok w) r steps ws more h = ap (λ l. reply_text greets i (item_reply r k) ∷ l) (ap (λ j. map (step_text greets r) (steps j)) (add-one k) ∙ h (suc k))

step_texts : (greets : Bool) (served : List ℕ) (mapping : MappingData) (r : Reply) (k : ℕ) (items : List Item) (whys : List (List ℕ))
    → map (step_text greets r) (steps_of greets served mapping k items whys) ≡ bulk_texts served mapping greets items whys (each r k (writes_of served mapping items))
step_texts greets served mapping r k [] whys = refl
step_texts greets served mapping r k (i ∷ items) [] =
    then_step greets [] i k (item_write served mapping i) r (λ j. steps_of greets served mapping j items []) (writes_of served mapping items) (bulk_texts served mapping greets items []) (λ j. step_texts greets served mapping r j items [])
step_texts greets served mapping r k (i ∷ items) (why ∷ whys) =
    then_step greets why i k (item_write served mapping i) r (λ j. steps_of greets served mapping j items whys) (writes_of served mapping items) (bulk_texts served mapping greets items whys) (λ j. step_texts greets served mapping r j items whys)

-- the texts of items, and those of others behind them
then_join : (greets : Bool) (why : List ℕ) (i : Item) (w : Result Write Fault) (ra rb : List ItemReply) (ws : List Write) (long short : List ItemReply → List (Bool × List ℕ)) (end : List (Bool × List ℕ))
    → length ra ≡ length (good w ++ ws) → ((rs : List ItemReply) → length rs ≡ length ws → long (rs ++ rb) ≡ short rs ++ end) → text_then greets why i w (ra ++ rb) long ≡ text_then greets why i w ra short ++ end
then_join greets why i (Err f) ra rb ws long short end e h = ap (λ l. fault_text greets why i f ∷ l) (h ra e)
then_join greets why i (Ok w) [] rb ws long short end e h = absurd (omega (arith, e))
then_join greets why i (Ok w) (r ∷ ra) rb ws long short end e h = ap (λ l. reply_text greets i r ∷ l) (h ra (omega (arith, e)))

texts_join : (greets : Bool) (served : List ℕ) (mapping : MappingData) (p q : List Item) (ya yb : List (List ℕ)) (ra rb : List ItemReply) → length ya ≡ length p → length ra ≡ length (writes_of served mapping p)
    → bulk_texts served mapping greets (p ++ q) (ya ++ yb) (ra ++ rb) ≡ bulk_texts served mapping greets p ya ra ++ bulk_texts served mapping greets q yb rb
texts_join greets served mapping [] q [] yb [] rb l e = refl
texts_join greets served mapping [] q (y ∷ ya) yb ra rb l e = absurd (omega (arith, l))
texts_join greets served mapping [] q [] yb (r ∷ ra) rb l e = absurd (omega (arith, e))
texts_join greets served mapping (i ∷ p) q [] yb ra rb l e = absurd (omega (arith, l))
texts_join greets served mapping (i ∷ p) q (y ∷ ya) yb ra rb l e =
    then_join greets y i (item_write served mapping i) ra rb (writes_of served mapping p) (bulk_texts served mapping greets (p ++ q) (ya ++ yb)) (bulk_texts served mapping greets p ya) (bulk_texts served mapping greets q yb rb) e
    (λ rs k. texts_join greets served mapping p q ya yb rs rb (omega (arith, l)) k)

-- the items of parts
abbrev pub all_of : List (List Item) → List Item
all_of [] = []
all_of (p ∷ ps) = p ++ all_of ps

all_more : (ps : List (List Item)) (p : List Item) → all_of (ps ++ p ∷ []) ≡ all_of ps ++ p
all_more [] p = append-nil p
all_more (q ∷ ps) p = ap (λ l. q ++ l) (all_more ps p) ∙ sym (append_assoc q (all_of ps) p)

-- one command for the writes of each part, where it has any
abbrev pub batches : List ℕ → MappingData → List (List Item) → List Command
batches served mapping [] = []
batches served mapping (p ∷ ps) = batch (writes_of served mapping p) ++ batches served mapping ps

batches_more : (served : List ℕ) (mapping : MappingData) (ps : List (List Item)) (p : List Item) → batches served mapping (ps ++ p ∷ []) ≡ batches served mapping ps ++ batch (writes_of served mapping p)
batches_more served mapping [] p = append-nil (batch (writes_of served mapping p))
batches_more served mapping (q ∷ ps) p =
    let front = batch (writes_of served mapping q) in
    ap (λ l. front ++ l) (batches_more served mapping ps p) ∙ sym (append_assoc front (batches served mapping ps) (batch (writes_of served mapping p)))

writes_join : (served : List ℕ) (mapping : MappingData) (p q : List Item) → writes_of served mapping (p ++ q) ≡ writes_of served mapping p ++ writes_of served mapping q
writes_join served mapping [] q = refl
writes_join served mapping (i ∷ p) q =
    let one = good (item_write served mapping i) in
    ap (λ l. one ++ l) (writes_join served mapping p q) ∙ sym (append_assoc one (writes_of served mapping p) (writes_of served mapping q))

-- the command of the first writes, 1,024 or all, and those of the others
first_command : (a b : List Write) → length a ≤ 1024 → (0 < length b → length a ≡ 1024) → map (λ ws. bulk ws) (parts (a ++ b)) ≡ batch a ++ map (λ ws. bulk ws) (parts b)
first_command [] [] most full = refl
first_command [] (v ∷ b) most full = absurd (omega (arith, full (omega arith)))
first_command (w ∷ a) [] most full =
    ap (map (λ ws. bulk ws)) (next_part ((w ∷ a) ++ []) (w ∷ a) [] refl (omega (arith, most, length-append a [])) (omega arith))
first_command (w ∷ a) (v ∷ b) most full =
    ap (map (λ ws. bulk ws)) (next_part ((w ∷ a) ++ (v ∷ b)) (w ∷ a) (v ∷ b) refl (omega (arith, full (omega arith), length-append a (v ∷ b))) (omega arith))

is_left : (served : List ℕ) (mapping : MappingData) (items : List Item) (n : ℕ) → 0 < length (writes_of served mapping (drop n items)) → n < length items
is_left served mapping [] zero h = absurd (omega (arith, h))
is_left served mapping [] (suc n) h = absurd (omega (arith, h))
is_left served mapping (i ∷ items) zero h = omega arith
is_left served mapping (i ∷ items) (suc n) h = omega (arith, is_left served mapping items n h)

pub one_at_most : (w : Result Write Fault) → length (good w) ≤ 1
one_at_most (Err f) = omega arith
one_at_most (Ok w) = omega arith

-- the first items that have been read are a part
pub is_part : (served : List ℕ) (mapping : MappingData) (items : List Item) (n : ℕ) (ws : List Write) → ws ≡ writes_of served mapping (take n items)
    → n ≤ length items → length ws ≤ 1024 → (n < length items → length ws ≡ 1024) → IsPart served mapping items n
is_part served mapping items n ws e fits most full = record {
  fits = fits;
  most = rw e at most;
  full = λ h. sym (ap length e) ∙ full h;
}

-- the command of the first part, and those of what is left
pub part_commands : (served : List ℕ) (mapping : MappingData) (items : List Item) (n : ℕ) → IsPart served mapping items n
    → write_commands served mapping items ≡ batch (writes_of served mapping (take n items)) ++ write_commands served mapping (drop n items)
part_commands served mapping items n p =
    ap (λ l. map (λ ws. bulk ws) (parts l)) (ap (writes_of served mapping) (sym (take-append-drop n items)) ∙ writes_join served mapping (take n items) (drop n items))
    ∙ first_command (writes_of served mapping (take n items)) (writes_of served mapping (drop n items)) p.most (λ h. p.full (is_left served mapping items n h))

pub part_has_items : (served : List ℕ) (mapping : MappingData) (items : List Item) (n : ℕ) → IsPart served mapping items n → 0 < length items → 0 < n
part_has_items served mapping items zero p h = absurd (omega (arith, p.full h))
part_has_items served mapping items (suc n) p h = omega arith

-- one part more
pub commands_more : (served : List ℕ) (mapping : MappingData) (items left : List Item) (n : ℕ) (done : List (List Item)) → write_commands served mapping items ≡ batches served mapping done ++ write_commands served mapping left
    → IsPart served mapping left n → write_commands served mapping items ≡ batches served mapping (done ++ take n left ∷ []) ++ write_commands served mapping (drop n left)
commands_more served mapping items left n done e p =
    let one = batch (writes_of served mapping (take n left)) in
    let others = write_commands served mapping (drop n left) in
    e ∙ ap (λ l. batches served mapping done ++ l) (part_commands served mapping left n p) ∙ sym (append_assoc (batches served mapping done) one others)
    ∙ ap (λ l. l ++ others) (sym (batches_more served mapping done (take n left)))

pub items_more : (items left : List Item) (n : ℕ) (done : List (List Item)) → items ≡ all_of done ++ left → items ≡ all_of (done ++ take n left ∷ []) ++ drop n left
items_more items left n done e =
    e ∙ ap (λ l. all_of done ++ l) (sym (take-append-drop n left)) ∙ sym (append_assoc (all_of done) (take n left) (drop n left)) ∙ ap (λ l. l ++ drop n left) (sym (all_more done (take n left)))

-- parts were done one after another
abbrev pub PartsDone : {S : Type 0} → Bool → (S → Command → Reply → S → Type 0) → List ℕ → MappingData → S → List (List Item) → List (Bool × List ℕ) → S → Type 0
PartsDone {S} greets answers served mapping s [] texts t = (t ≡ s) × (texts ≡ [])
PartsDone {S} greets answers served mapping s (p ∷ ps) texts t =
    (m : S) × (one : List (Bool × List ℕ)) × (more : List (Bool × List ℕ)) × PartDone greets answers served mapping p s one m × PartsDone greets answers served mapping m ps more t × (texts ≡ one ++ more)

-- the commands of parts were given, and these are the texts of all their items
record AllCalled {S : Type 0} (greets : Bool) (answers : S → Command → Reply → S → Type 0) (served : List ℕ) (mapping : MappingData) (ps : List (List Item)) (s : S) (texts : List (Bool × List ℕ)) (t : S) : Type 0 where
  replies : List Reply
  whys : List (List ℕ)
  called : Calls answers s (batches served mapping ps) replies t
  many : length whys ≡ length (all_of ps)
  same : texts ≡ bulk_texts served mapping greets (all_of ps) whys (told (batches served mapping ps) replies)

module _ {S : Type 0} (answers : S → Command → Reply → S → Type 0) where
  pub none_begun : (cs : List Command) (s : S) → BegunOf answers cs s s
  none_begun cs s = record { done = []; left = cs; split = refl; replies = []; called = refl }

  calls_join : (s m t : S) (cs ds : List Command) (rs qs : List Reply) → Calls answers s cs rs m → Calls answers m ds qs t → Calls answers s (cs ++ ds) (rs ++ qs) t
  calls_join s m t [] ds [] qs h k = rw (← h) k
  calls_join s m t [] ds (r ∷ rs) qs h k = absurd h
  calls_join s m t (c ∷ cs) ds [] qs h k = absurd h
  calls_join s m t (c ∷ cs) ds (r ∷ rs) qs h k = (h.0, h.1, calls_join h.0 m t cs ds rs qs h.2 k)

  told_length : (ws : List Write) (rs : List Reply) (s t : S) → Calls answers s (batch ws) rs t → length (told (batch ws) rs) ≡ length ws
  told_length [] rs s t h = refl
  told_length (w ∷ ws) [] s t h = absurd h
  told_length (w ∷ ws) (r ∷ rs) s t h = ap length (append-nil (each r 0 (w ∷ ws))) ∙ each_length r 0 (w ∷ ws)

  told_join : (ws : List Write) (cs : List Command) (rs qs : List Reply) (s t : S) → Calls answers s (batch ws) rs t → told (batch ws ++ cs) (rs ++ qs) ≡ told (batch ws) rs ++ told cs qs
  told_join [] cs [] qs s t h = refl
  told_join [] cs (r ∷ rs) qs s t h = absurd h
  told_join (w ∷ ws) cs [] qs s t h = absurd h
  told_join (w ∷ ws) cs (r ∷ []) qs s t h = ap (λ l. l ++ told cs qs) (sym (append-nil (each r 0 (w ∷ ws))))
  told_join (w ∷ ws) cs (r ∷ q ∷ rs) qs s t h = absurd (h.2)

  -- the service has said this to the writes of a part
  pub part_done : (greets : Bool) (served : List ℕ) (mapping : MappingData) (items : List Item) (ws : List Write) (steps : List Step) (r : Reply) (s t : S) (texts : List (Bool × List ℕ))
      → ws ≡ writes_of served mapping items → AreSteps greets served mapping items steps → Calls answers s (batch ws) (said ws r) t → texts ≡ map (step_text greets r) steps
      → PartDone greets answers served mapping items s texts t
  part_done greets served mapping items ws steps r s t texts e k h l =
      let all = writes_of served mapping items in
      let called : Calls answers s (batch all) (said all r) t = rw e at h in
      record {
        replies = said all r;
        whys = k.whys;
        called = called;
        many = k.many;
        same = l ∙ ap (map (step_text greets r)) k.are ∙ step_texts greets served mapping r 0 items k.whys ∙ ap (bulk_texts served mapping greets items k.whys) (sym (told_said r all));
      }

  -- the commands of the first part were done
  pub part_begun : (served : List ℕ) (mapping : MappingData) (items : List Item) (n : ℕ) (rs : List Reply) (s t : S)
      → IsPart served mapping items n → Calls answers s (batch (writes_of served mapping (take n items))) rs t → BegunOf answers (write_commands served mapping items) s t
  part_begun served mapping items n rs s t p h = record {
    done = batch (writes_of served mapping (take n items));
    left = write_commands served mapping (drop n items);
    split = part_commands served mapping items n p;
    replies = rs;
    called = h;
  }

  pub parts_more : (greets : Bool) (served : List ℕ) (mapping : MappingData) (s m t : S) (ps : List (List Item)) (p : List Item) (texts one : List (Bool × List ℕ))
      → PartsDone greets answers served mapping s ps texts m → PartDone greets answers served mapping p m one t → PartsDone greets answers served mapping s (ps ++ p ∷ []) (texts ++ one) t
  parts_more greets served mapping s m t [] p texts one h d =
      let d' : PartDone greets answers served mapping p s one t = rw h.0 at d in
      (t, one, [], d', (refl, refl), ap (λ x. x ++ one) h.1 ∙ sym (append-nil one))
  parts_more greets served mapping s m t (q ∷ ps) p texts one h d =
      (h.0, h.1, h.2 ++ one, h.3, parts_more greets served mapping h.0 m t ps p h.2 one h.4 d, ap (λ x. x ++ one) h.5 ∙ append_assoc h.1 h.2 one)

  parts_called : (greets : Bool) (served : List ℕ) (mapping : MappingData) (s t : S) (ps : List (List Item)) (texts : List (Bool × List ℕ))
      → PartsDone greets answers served mapping s ps texts t → AllCalled greets answers served mapping ps s texts t
  parts_called greets served mapping s t [] texts h = record { replies = []; whys = []; called = h.0; many = refl; same = h.1 }
  parts_called greets served mapping s t (p ∷ ps) texts h =
      let others = parts_called greets served mapping h.0 t ps h.2 h.4 in
      let ws = writes_of served mapping p in
      let items = all_of ps in
      let here = told (batch ws) h.3.replies in
      let behind = told (batches served mapping ps) others.replies in
      record {
        replies = h.3.replies ++ others.replies;
        whys = h.3.whys ++ others.whys;
        many = omega (arith, length-append h.3.whys others.whys, length-append p items, h.3.many, others.many);
        called = calls_join s h.0 t (batch ws) (batches served mapping ps) h.3.replies others.replies h.3.called others.called;
        same = h.5 ∙ ap (λ x. x ++ h.2) h.3.same ∙ ap (λ x. bulk_texts served mapping greets p h.3.whys here ++ x) others.same
            ∙ sym (texts_join greets served mapping p items h.3.whys others.whys here behind h.3.many (told_length ws h.3.replies s h.0 h.3.called))
            ∙ ap (bulk_texts served mapping greets (p ++ items) (h.3.whys ++ others.whys)) (sym (told_join ws (batches served mapping ps) h.3.replies others.replies s h.0 h.3.called));
      }

  pub writes_done : (greets : Bool) (served : List ℕ) (mapping : MappingData) (s t : S) (items : List Item) (ps : List (List Item)) (texts : List (Bool × List ℕ))
      → items ≡ all_of ps → write_commands served mapping items ≡ batches served mapping ps → PartsDone greets answers served mapping s ps texts t → WritesDone greets answers served mapping items s texts t
  writes_done greets served mapping s t items ps texts e k h =
      let d = parts_called greets served mapping s t ps texts h in
      let called : Calls answers s (write_commands served mapping items) d.replies t = rw (← k) at d.called in
      record {
        replies = d.replies;
        whys = d.whys;
        called = called;
        same = d.same ∙ ap (λ l. bulk_texts served mapping greets l d.whys (told (batches served mapping ps) d.replies)) (sym e)
            ∙ ap (λ l. bulk_texts served mapping greets items d.whys (told l d.replies)) (sym k);
      }

  -- the commands of parts, and a beginning of those behind them
  begun_behind : (greets : Bool) (served : List ℕ) (mapping : MappingData) (s m t : S) (ps : List (List Item)) (cs : List Command) (texts : List (Bool × List ℕ))
      → PartsDone greets answers served mapping s ps texts m → BegunOf answers cs m t → BegunOf answers (batches served mapping ps ++ cs) s t
  begun_behind greets served mapping s m t ps cs texts h b =
      let d = parts_called greets served mapping s m ps texts h in
      let front = batches served mapping ps in
      record {
        done = front ++ b.done;
        left = b.left;
        split = ap (λ l. front ++ l) b.split ∙ sym (append_assoc front b.done b.left);
        replies = d.replies ++ b.replies;
        called = calls_join s m t front b.done d.replies b.replies d.called b.called;
      }

  pub parts_begun : (greets : Bool) (served : List ℕ) (mapping : MappingData) (s m t : S) (items left : List Item) (ps : List (List Item)) (texts : List (Bool × List ℕ))
      → write_commands served mapping items ≡ batches served mapping ps ++ write_commands served mapping left → PartsDone greets answers served mapping s ps texts m
      → BegunOf answers (write_commands served mapping left) m t → BegunOf answers (write_commands served mapping items) s t
  parts_begun greets served mapping s m t items left ps texts e h b = rw e (begun_behind greets served mapping s m t ps (write_commands served mapping left) texts h b)

  same_length : (s t : S) (cs : List Command) (rs : List Reply) → Calls answers s cs rs t → length rs ≡ length cs
  same_length s t [] [] h = refl
  same_length s t [] (r ∷ rs) h = absurd h
  same_length s t (c ∷ cs) [] h = absurd h
  same_length s t (c ∷ cs) (r ∷ rs) h = ap suc (same_length h.0 t cs rs h.2)

  told_more : (s t : S) (cs : List Command) (rs qs : List Reply) → Calls answers s cs rs t → told cs (rs ++ qs) ≡ told cs rs
  told_more s t [] rs qs h = refl
  told_more s t (c ∷ cs) [] qs h = absurd h
  told_more s t (c ∷ cs) (r ∷ rs) qs h = ap (λ l. each r 0 (writes_in c) ++ l) (told_more h.0 t cs rs qs h.2)

  -- the writes, and then the refresh
  pub bulk_done : (greets : Bool) (served : List ℕ) (mapping : MappingData) (wanted any now : Bool) (s m t : S) (items : List Item) (texts : List (Bool × List ℕ)) (refusal : Option Refusal)
      → WritesDone greets answers served mapping items s texts m → any ≡ is_any (write_commands served mapping items) → now ≡ (wanted && any) → RefreshDone answers now m refusal t
      → BulkDone greets answers served mapping wanted items s texts refusal t
  bulk_done greets served mapping wanted any now s m t items texts refusal w e k r =
      let writes = write_commands served mapping items in
      let long = sym (same_length s m writes w.replies w.called) in
      let called : Calls answers m (refreshing (wanted && is_any writes)) r.replies t = rw (k, e) at r.called in
      record {
        replies = w.replies ++ r.replies;
        whys = w.whys;
        called = calls_join s m t writes (refreshing (wanted && is_any writes)) w.replies r.replies w.called called;
        texts_are = w.same ∙ ap (bulk_texts served mapping greets items w.whys) (sym (told_more s m writes w.replies r.replies w.called));
        refusal_is = r.same ∙ ap bulk_refusal (sym (ap (λ n. drop n (w.replies ++ r.replies)) long ∙ drop-append_seam w.replies r.replies));
      }

  pub bulk_begun : (served : List ℕ) (mapping : MappingData) (wanted : Bool) (s t : S) (items : List Item)
      → BegunOf answers (write_commands served mapping items) s t → BegunOf answers (bulk_commands served mapping wanted items) s t
  bulk_begun served mapping wanted s t items b =
      let more = refreshing (wanted && is_any (write_commands served mapping items)) in
      record {
        done = b.done;
        left = b.left ++ more;
        split = ap (λ l. l ++ more) b.split ∙ append_assoc b.done b.left more;
        replies = b.replies;
        called = b.called;
      }

pub refresh_done : {S : Type 0} (answers : S → Command → Reply → S → Type 0) (wanted : Bool) (r : Reply) (s t : S) → wanted ≡ true → answers s refresh r t → RefreshDone answers wanted s (refusal_in r) t
refresh_done answers wanted r s t e h = rw e (record { replies = r ∷ []; called = (t, h, refl); same = refl })

-- whether parts have a write, and one more
pub any_more : (served : List ℕ) (mapping : MappingData) (ps : List (List Item)) (p : List Item)
    → is_any (batches served mapping (ps ++ p ∷ [])) ≡ (is_any (batches served mapping ps) || is_any (batch (writes_of served mapping p)))
any_more served mapping [] p = alone (writes_of served mapping p)
  where
    alone : (ws : List Write) → is_any (batch ws ++ []) ≡ is_any (batch ws)
    alone [] = refl
    alone (w ∷ ws) = refl
any_more served mapping (q ∷ ps) p = behind (is_any (batch (writes_of served mapping p))) (batches served mapping (ps ++ p ∷ [])) (batches served mapping ps) (writes_of served mapping q) (any_more served mapping ps p)
  where
    behind : (b : Bool) (cs ds : List Command) (ws : List Write) → is_any cs ≡ (is_any ds || b) → is_any (batch ws ++ cs) ≡ (is_any (batch ws ++ ds) || b)
    behind b cs ds [] e = e
    behind b cs ds (w ∷ ws) e = refl

-- the next item of a part
pub writes_more : (served : List ℕ) (mapping : MappingData) (items : List Item) (i : Item) → writes_of served mapping (items ++ i ∷ []) ≡ writes_of served mapping items ++ good (item_write served mapping i)
writes_more served mapping [] i = append-nil (good (item_write served mapping i))
writes_more served mapping (j ∷ items) i =
    ap (λ l. good (item_write served mapping j) ++ l) (writes_more served mapping items i) ∙ sym (append_assoc (good (item_write served mapping j)) (writes_of served mapping items) (good (item_write served mapping i)))

steps_from : (greets : Bool) (served : List ℕ) (mapping : MappingData) (k : ℕ) (items : List Item) (i : Item) (whys : List (List ℕ)) (why : List ℕ) → length whys ≡ length items
    → steps_of greets served mapping k (items ++ i ∷ []) (whys ++ why ∷ []) ≡ steps_of greets served mapping k items whys ++ step_of greets why i (k + length (writes_of served mapping items)) (item_write served mapping i) ∷ []
steps_from greets served mapping k [] i [] why l = ap (λ n. step_of greets why i n (item_write served mapping i) ∷ []) (omega arith)
steps_from greets served mapping k [] i (y ∷ whys) why l = absurd (omega (arith, l))
steps_from greets served mapping k (j ∷ items) i [] why l = absurd (omega (arith, l))
steps_from greets served mapping k (j ∷ items) i (y ∷ whys) why l =
    let g = good (item_write served mapping j) in
    let ws = writes_of served mapping items in
    let place : (k + length g) + length ws ≡ k + length (g ++ ws) = omega (arith, length-append g ws) in
    ap (λ l. step_of greets y j k (item_write served mapping j) ∷ l) (steps_from greets served mapping (k + length g) items i whys why (omega (arith, l))
    ∙ ap (λ n. steps_of greets served mapping (k + length g) items whys ++ step_of greets why i n (item_write served mapping i) ∷ []) place)

-- the step of an item with a fault, and that of one with a write
pub told_step : (greets : Bool) (i : Item) (k : ℕ) (w : Result Write Fault) (o : Option Fault) (text : Bool × List ℕ) → is_none o ≡ false → IfSome o (λ f. w ≡ Err f) → IfSome o (λ f. IsFaultText greets i f text) → IsStepOf greets i k w (told_of text)
told_step greets i k w None text there e t = absurd cc
told_step greets i k w (Some f) text there e t = record { why = t.why; is = ap told_of t.is ∙ sym (ap (step_of greets t.why i k) e) }

pub waiting_step : (greets : Bool) (i : Item) (k : ℕ) (w : Result Write Fault) (x : Write) → w ≡ Ok x → IsStepOf greets i k w (waits i k)
waiting_step greets i k w x e = record { why = []; is = sym (ap (step_of greets [] i k) e) }

-- no steps yet
pub no_steps : (greets : Bool) (served : List ℕ) (mapping : MappingData) → AreSteps greets served mapping [] []
no_steps greets served mapping = record { whys = []; many = refl; are = refl }

pub steps_more : (greets : Bool) (served : List ℕ) (mapping : MappingData) (items : List Item) (i : Item) (steps : List Step) (step : Step) (ws : List Write) → ws ≡ writes_of served mapping items
    → AreSteps greets served mapping items steps → IsStepOf greets i (length ws) (item_write served mapping i) step → AreSteps greets served mapping (items ++ i ∷ []) (steps ++ step ∷ [])
steps_more greets served mapping items i steps step ws e so_far next =
    let place : length ws ≡ 0 + length (writes_of served mapping items) = ap length e ∙ omega arith in
    record {
      whys = so_far.whys ++ next.why ∷ [];
      many = omega (arith, length-append so_far.whys (next.why ∷ []), length-append items (i ∷ []), so_far.many);
      are = ap (λ l. l ++ step ∷ []) so_far.are
          ∙ ap (λ x. steps_of greets served mapping 0 items so_far.whys ++ x ∷ []) (next.is ∙ ap (λ n. step_of greets next.why i n (item_write served mapping i)) place)
          ∙ sym (steps_from greets served mapping 0 items i so_far.whys next.why so_far.many);
    }

pub one_longer : {A B : Type 0} (view : A → B) (xs : List A) (i : ℕ) (x : A) → i < length xs → x ≡ get_or xs i x → map view (take (i + 1) xs) ≡ map view (take i xs) ++ view x ∷ []
one_longer view xs i x lt e =
    ap (map view) (take_more xs i x lt) ∙ map-append view (take i xs) (get_or xs i x ∷ []) ∙ ap (λ y. map view (take i xs) ++ view y ∷ []) (sym e)

pub as_many : {A B C D : Type 0} (v : A → C) (w : B → D) (f : D → C) (xs : List A) (ys : List B) → map v xs ≡ map f (map w ys) → length xs ≡ length ys
as_many v w f xs ys e = sym (length-map xs v) ∙ ap length e ∙ length-map (map w ys) f ∙ length-map ys w

pub none_left : {A B : Type 0} (view : A → B) (xs : List A) → length xs ≡ 0 → map view xs ≡ []
none_left view [] h = refl
none_left view (x ∷ xs) h = absurd (omega (arith, h))
