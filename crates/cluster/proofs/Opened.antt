-- What a cluster is opened from.
use Rattle.std.proofs.Common.{◌≡◌, ℕ, suc, ◌+◌, ◌<◌, ◌≤◌, take, get_or, List, [], ◌∷◌, ◌++◌, length, map, Bool, refl, sym, ap, subst, ◌∙◌, arith, append_assoc, append-nil, inl, inr, ◌⊎◌, true, false, Option, Some, None, Result, Ok, Err}
use Rattle.std.proofs.lemmas.List.{take_all, take_more}
use Rattle.std.specs.Prelude.{IfNone, IfOk, IfSome, IsOk, OnOk}
use Rattle.master.specs.Log.{kept_state}
use Rattle.master.specs.Logged.{Logged, begun_state}
use Rattle.ruled.specs.declared.entry.MasterEntry.TheVariants.{Opened as Starts}
use Rattle.ruled.specs.Entries.{IsKnown}
use Rattle.std.specs.List.{AllByRecursion}
use mathlib.Core.List.{IsPrefix}
use Rattle.doc.specs.Mapping.{MappingData}
use Rattle.master.specs.declared.state.State.{State}
use Rattle.replica.specs.Copy.{Copy, begun, opened}
use Rattle.ruled.specs.declared.entry.MasterEntry.{MasterEntry}
use Rattle.translog.specs.Kept.{kept}
use Rattle.translog.specs.declared.fault.LogFault.{LogFault}
use Rattle.cluster.specs.declared.fault.Unopened.{Unopened}
use Rattle.cluster.specs.declared.opening.Opened.{Opened}
use Rattle.cluster.specs.Given.{GivenData, given, IsGiven}
use Rattle.cluster.specs.Opening.{birth_of, leader_of, BeganWith, ReadyData, IsKept}
use Rattle.cluster.specs.Opened.{copy_of, ended, AreNew, AreOpened, AreTried, HasKept, IsLed, IsLeftOut, IsNewIndex, IsOpened, IsOpenedAs, IsOpenedBy, IsPromoted, IsReopened, IsStarted, LeadsBy}

-- ---- devices

pub self_begins : {A : Type 0} (xs : List A) → IsPrefix xs xs
self_begins xs = ([], append-nil xs)

pub same_begins : {A : Type 0} (xs ys : List A) → ys ≡ xs → IsPrefix xs ys
same_begins xs ys e = ([], append-nil xs ∙ sym e)

pub one_begins : {A : Type 0} (xs ys : List A) (x : A) → ys ≡ xs ++ x ∷ [] → IsPrefix xs ys
one_begins xs ys x e = (x ∷ [], sym e)

pub given_last : (gs hs : List GivenData) (n : ℕ) (bytes : List ℕ) → hs ≡ gs ++ given n bytes ∷ [] → IsGiven hs n bytes
given_last gs hs n bytes e = record { before = gs; after = []; there = e }

pub given_on : (gs hs : List GivenData) (n : ℕ) (bytes : List ℕ) → IsGiven gs n bytes → IsPrefix gs hs → IsGiven hs n bytes
given_on gs hs n bytes is p = record {
  before = is.before;
  after = is.after ++ p.0;
  there = sym p.1 ∙ (ap (λ l. l ++ p.0) is.there ∙ append_assoc is.before (given n bytes ∷ is.after) p.0);
}

kept_on : (gs hs : List GivenData) (m : MappingData) (n : ℕ) (c : Copy) → IsPrefix gs hs → HasKept gs m n c → HasKept hs m n c
kept_on gs hs m n c p is = record { bytes = is.bytes; from = given_on gs hs c.id is.bytes is.from p; records = is.records; read = is.read; copy_is = is.copy_is }

all_kept_on : (gs hs : List GivenData) (m : MappingData) (n : ℕ) (cs : List Copy) → IsPrefix gs hs → AllByRecursion (HasKept gs m n) cs → AllByRecursion (HasKept hs m n) cs
all_kept_on gs hs m n [] p all = tt
all_kept_on gs hs m n (c ∷ cs) p all = (kept_on gs hs m n c p all.0, all_kept_on gs hs m n cs p all.1)

all_snoc : {A : Type 0} (P : A → Type 0) (xs : List A) (x : A) → AllByRecursion P xs → P x → AllByRecursion P (xs ++ x ∷ [])
all_snoc P [] x all one = (one, tt)
all_snoc P (y ∷ xs) x all one = (all.0, all_snoc P xs x all.1 one)

map_length : (rs : List ReadyData) → length (map copy_of rs) ≡ length rs
map_length [] = refl
map_length (r ∷ rs) = ap suc (map_length rs)

map_snoc : {A B : Type 0} (f : A → B) (xs : List A) (x : A) → map f (xs ++ x ∷ []) ≡ map f xs ++ f x ∷ []
map_snoc f [] x = refl
map_snoc f (y ∷ xs) x = ap (λ l. f y ∷ l) (map_snoc f xs x)

-- a copy that opens has the records of its device
pub has_kept : (gs hs : List GivenData) (m : MappingData) (id n : ℕ) (bytes : List ℕ) (r : ReadyData) (has : Bool) → hs ≡ gs ++ given id bytes ∷ [] → IsKept id (birth_of id n) m bytes has r
    → HasKept hs m n r.copy × (r.copy.id ≡ id)
has_kept gs hs m id n bytes r has e is =
    let at : HasKept hs m n (opened id (birth_of id n) m is.records) = record { bytes = bytes; from = given_last gs hs id bytes e; records = is.records; read = is.read; copy_is = refl } in
    (subst (λ (c : Copy). HasKept hs m n c) (sym is.copy_is) at, ap (λ (c : Copy). c.id) is.copy_is)

-- ---- one copy after the other

opened_one : (ids : List ℕ) (cs : List Copy) (us : List Unopened) (id : ℕ) (c : Copy) → c.id ≡ id → AreOpened ids cs us → AreOpened (ids ++ id ∷ []) (cs ++ c ∷ []) us
opened_one [] [] [] id c e h = (e, tt)
opened_one [] [] (u ∷ us) id c e h = absurd h
opened_one [] (d ∷ cs) us id c e h = absurd h
opened_one (i ∷ ids) [] [] id c e h = absurd h
opened_one (i ∷ ids) [] (u ∷ us) id c e h = inr (h.0, opened_one ids [] us id c e h.1)
opened_one (i ∷ ids) (d ∷ cs) [] id c e h = (h.0, opened_one ids cs [] id c e h.1)
opened_one (i ∷ ids) (d ∷ cs) (u ∷ us) id c e (inl h) = inl (h.0, opened_one ids cs (u ∷ us) id c e h.1)
opened_one (i ∷ ids) (d ∷ cs) (u ∷ us) id c e (inr h) = inr (h.0, opened_one ids (d ∷ cs) us id c e h.1)

left_one : (ids : List ℕ) (cs : List Copy) (us : List Unopened) (id : ℕ) (u : Unopened) → u.copy ≡ id → AreOpened ids cs us → AreOpened (ids ++ id ∷ []) cs (us ++ u ∷ [])
left_one [] [] [] id u e h = (e, tt)
left_one [] [] (v ∷ us) id u e h = absurd h
left_one [] (d ∷ cs) us id u e h = absurd h
left_one (i ∷ ids) [] [] id u e h = absurd h
left_one (i ∷ ids) [] (v ∷ us) id u e h = (h.0, left_one ids [] us id u e h.1)
left_one (i ∷ ids) (d ∷ cs) [] id u e h = inl (h.0, left_one ids cs [] id u e h.1)
left_one (i ∷ ids) (d ∷ cs) (v ∷ us) id u e (inl h) = inl (h.0, left_one ids cs (v ∷ us) id u e h.1)
left_one (i ∷ ids) (d ∷ cs) (v ∷ us) id u e (inr h) = inr (h.0, left_one ids (d ∷ cs) us id u e h.1)

pub none_tried : (gs : List GivenData) (m : MappingData) (n : ℕ) (cs : List Copy) (us : List Unopened) (os : List Opened) → cs ≡ [] → us ≡ [] → os ≡ [] → AreTried gs m n [] cs us os
none_tried gs m n cs us os c u o =
    subst (λ (x : List Copy). AreTried gs m n [] x us os) (sym c) (subst (λ (x : List Unopened). AreTried gs m n [] [] x os) (sym u) (record { copies = tt; kept = tt; ends = o }))

-- one more that opened
pub tried_one : (gs hs : List GivenData) (m : MappingData) (n id : ℕ) (ids : List ℕ) (cs ds : List Copy) (us : List Unopened) (os : List Opened) (x : Opened)
    → AreTried gs m n ids cs us os → IsPrefix gs hs → IsOpenedAs hs m n id cs ds x → AreTried hs m n (ids ++ id ∷ []) ds us (os ++ x ∷ [])
tried_one gs hs m n id ids cs ds us os x tried p is =
    subst (λ (l : List Copy). AreTried hs m n (ids ++ id ∷ []) l us (os ++ x ∷ [])) (sym is.more) (record {
      copies = opened_one ids cs us id is.copy is.id_is tried.copies;
      kept = all_snoc (HasKept hs m n) cs is.copy (all_kept_on gs hs m n cs p tried.kept) is.kept;
      ends = ap (λ l. l ++ x ∷ []) tried.ends ∙ (ap (λ o. map ended cs ++ o ∷ []) is.end ∙ sym (map_snoc ended cs is.copy));
    })

-- one more that didn't
pub tried_none : (gs hs : List GivenData) (m : MappingData) (n id : ℕ) (ids : List ℕ) (cs : List Copy) (us vs : List Unopened) (os : List Opened)
    → AreTried gs m n ids cs us os → IsPrefix gs hs → IsLeftOut id us vs → AreTried hs m n (ids ++ id ∷ []) cs vs os
tried_none gs hs m n id ids cs us vs os tried p is =
    subst (λ (l : List Unopened). AreTried hs m n (ids ++ id ∷ []) cs l os) (sym is.more) (record {
      copies = left_one ids cs us id is.copy is.id_is tried.copies;
      kept = all_kept_on gs hs m n cs p tried.kept;
      ends = tried.ends;
    })

-- after one more id, of a copy that opened
pub tried_some : {B : Type 0} (gs hs : List GivenData) (m m' : MappingData) (n k d : ℕ) (ids : List ℕ) (cs ds : List Copy) (w w' : B) (items : B → List Unopened) (os ps : List Opened) (o : Option Opened) (x : Opened)
    → k < length ids → AreTried gs m n (take k ids) cs (items w) os → m' ≡ m → IsPrefix gs hs → IfSome o (λ y. IsOpenedAs hs m' n (get_or ids k d) cs ds y × (w' ≡ w)) → o ≡ Some x → ps ≡ os ++ x ∷ []
    → AreTried hs m' n (take (k + 1) ids) ds (items w') ps
tried_some gs hs m m' n k d ids cs ds w w' items os ps o x within tried same more done is pushed =
    let one : IsOpenedAs hs m' n (get_or ids k d) cs ds x × (w' ≡ w) = subst (λ (q : Option Opened). IfSome q (λ y. IsOpenedAs hs m' n (get_or ids k d) cs ds y × (w' ≡ w))) is done in
    let old : AreTried gs m' n (take k ids) cs (items w') os = subst (λ v. AreTried gs m' n (take k ids) cs (items v) os) (sym one.1) (subst (λ (y : MappingData). AreTried gs y n (take k ids) cs (items w) os) (sym same) tried) in
    let all : AreTried hs m' n (take k ids ++ get_or ids k d ∷ []) ds (items w') (os ++ x ∷ []) = tried_one gs hs m' n (get_or ids k d) (take k ids) cs ds (items w') os x old more one.0 in
    subst (λ (l : List ℕ). AreTried hs m' n l ds (items w') ps) (sym (take_more ids k d within)) (subst (λ (l : List Opened). AreTried hs m' n (take k ids ++ get_or ids k d ∷ []) ds (items w') l) (sym pushed) all)

-- after one more id, of a copy that didn't
pub tried_left : {B : Type 0} (gs hs : List GivenData) (m m' : MappingData) (n k d : ℕ) (ids : List ℕ) (b b' : B) (began : B → List Copy) (us vs : List Unopened) (os ps : List Opened) (o : Option Opened)
    → k < length ids → AreTried gs m n (take k ids) (began b) us os → m' ≡ m → IsPrefix gs hs → IfNone o ((b' ≡ b) × IsLeftOut (get_or ids k d) us vs) → o ≡ None → ps ≡ os
    → AreTried hs m' n (take (k + 1) ids) (began b') vs ps
tried_left gs hs m m' n k d ids b b' began us vs os ps o within tried same more done is kept =
    let left : (b' ≡ b) × IsLeftOut (get_or ids k d) us vs = subst (λ (q : Option Opened). IfNone q ((b' ≡ b) × IsLeftOut (get_or ids k d) us vs)) is done in
    let old : AreTried gs m' n (take k ids) (began b') us os = subst (λ c. AreTried gs m' n (take k ids) (began c) us os) (sym left.0) (subst (λ (y : MappingData). AreTried gs y n (take k ids) (began b) us os) (sym same) tried) in
    let all : AreTried hs m' n (take k ids ++ get_or ids k d ∷ []) (began b') vs os = tried_none gs hs m' n (get_or ids k d) (take k ids) (began b') us vs os old more left.1 in
    subst (λ (l : List ℕ). AreTried hs m' n l (began b') vs ps) (sym (take_more ids k d within)) (subst (λ (l : List Opened). AreTried hs m' n (take k ids ++ get_or ids k d ∷ []) (began b') vs l) (sym kept) all)

-- after all ids
pub tried_all : (gs : List GivenData) (m : MappingData) (n k : ℕ) (ids all : List ℕ) (cs : List Copy) (us : List Unopened) (os : List Opened) → length ids ≤ k → ids ≡ all → AreTried gs m n (take k ids) cs us os → AreTried gs m n all cs us os
tried_all gs m n k ids all cs us os past same tried = subst (λ (l : List ℕ). AreTried gs m n l cs us os) (take_all k ids past ∙ same) tried

-- ---- a new index

-- none is to be served yet
pub new_none : (m : MappingData) (n : ℕ) (rs : List ReadyData) → rs ≡ [] → AreNew m n 1 (map copy_of rs)
new_none m n rs none = subst (λ (l : List ReadyData). AreNew m n 1 (map copy_of l)) (sym none) tt

-- the copies that are to be served are those of it
new_snoc : (m : MappingData) (n id : ℕ) (cs : List Copy) (c : Copy) → AreNew m n id cs → c ≡ begun (id + length cs) n m → AreNew m n id (cs ++ c ∷ [])
new_snoc m n id [] c new one = (one ∙ ap (λ k. begun k n m) (let e : id + 0 ≡ id = omega arith in e), tt)
new_snoc m n id (d ∷ cs) c new one = (new.0, new_snoc m n (id + 1) cs c new.1 (one ∙ ap (λ k. begun k n m) (let e : id + length (d ∷ cs) ≡ id + 1 + length cs = omega arith in e)))

-- with one more that is to be served
pub new_more : (m : MappingData) (n : ℕ) (rs : List ReadyData) (r : ReadyData) (id : ℕ) → AreNew m n 1 (map copy_of rs) → r.copy ≡ begun id n m → id ≡ length rs + 1 → AreNew m n 1 (map copy_of (rs ++ r ∷ []))
new_more m n rs r id new one is =
    let same : length (map copy_of rs) ≡ length rs = map_length rs in
    let at : id ≡ 1 + length (map copy_of rs) = omega (arith, is, same) in
    subst (AreNew m n 1) (sym (map_snoc copy_of rs r)) (new_snoc m n 1 (map copy_of rs) r.copy new (one ∙ ap (λ k. begun k n m) at))

-- those that are served so far
pub began_none : (xs : List Copy) → xs ≡ xs ++ map copy_of []
began_none xs = sym (append-nil xs)

pub began_more : (xs ys zs : List Copy) (rs : List ReadyData) (r : ReadyData) → ys ≡ xs ++ map copy_of rs → zs ≡ ys ++ r.copy ∷ [] → zs ≡ xs ++ map copy_of (rs ++ r ∷ [])
began_more xs ys zs rs r e f = f ∙ (ap (λ l. l ++ r.copy ∷ []) e ∙ (append_assoc xs (map copy_of rs) (r.copy ∷ []) ∙ ap (λ l. xs ++ l) (sym (map_snoc copy_of rs r))))

-- how many these are
pub all_new : (rs : List ReadyData) (len n : ℕ) → len ≡ length rs → len ≡ n → length (map copy_of rs) ≡ n
all_new rs len n own all = map_length rs ∙ (sym own ∙ all)

-- a cluster of a new index, where its master began
pub begun_new : {C F : Type 0} (began : C → List Copy) (past : C → List MasterEntry) (r : Result C F) (master : Result Logged F) (m : MappingData) (n : ℕ) (bytes : List ℕ) (cs : List Copy)
    → IfOk master (λ x. begun_state n bytes ≡ Ok x.state) → AreNew m n 1 cs → length cs ≡ n → IfOk r (λ c. began c ≡ cs) → IfOk r (λ c. IfOk master (λ x. past c ≡ Starts x.state ∷ [])) → (IsOk r → IsOk master)
    → IfOk r (λ c. IsNewIndex bytes m n (began c) (past c))
begun_new began past (Err f) master m n bytes cs state new all served first whole = tt
begun_new began past (Ok c) (Err f) m n bytes cs state new all served first whole = absurd (let never : false ≡ true = whole refl in cc)
begun_new began past (Ok c) (Ok x) m n bytes cs state new all served first whole =
    record { first = x.state; read = state; master = first; all = ap length served ∙ all; copies = subst (AreNew m n 1) (sym served) new }

-- what one result has, where what another has is told of both
pub passed_through : {X E F V : Type 0} (of : X → V) (began : Result X E) (result : Result X F) (v : V) → IfOk began (λ c. of c ≡ v) → IfOk result (λ c. IfOk began (λ b. of c ≡ of b)) → (IsOk result → IsOk began) → IfOk result (λ c. of c ≡ v)
passed_through of (Ok b) (Ok c) v one two began = two ∙ one
passed_through of (Err e) (Ok c) v one two began = absurd (let never : false ≡ true = began refl in cc)
passed_through of (Ok b) (Err f) v one two began = tt
passed_through of (Err e) (Err f) v one two began = tt

-- what is so of the value of a result, told of that result
pub of_ok : {C M E F : Type 0} (r : Result C E) (master : Result M F) (m : M) (P : C → M → Type 0) → master ≡ Ok m → IfOk r (λ c. P c m) → IfOk r (λ c. IfOk master (P c))
of_ok r master m P is h = subst (λ x. IfOk r (λ c. IfOk x (P c))) (sym is) h

-- ---- an index that devices held

pub reopened : (gs : List GivenData) (m : MappingData) (n : ℕ) (bytes : List ℕ) (first : State) (began : List Copy) (us : List Unopened) (unled : Option LogFault) (old past : List MasterEntry) → kept_state bytes ≡ Ok first → old ≡ Starts first ∷ []
    → IsPrefix old past → IsLed gs m n began us unled past → IsReopened gs bytes m n began us unled past
reopened gs m n bytes first began us unled old past read begins since led = record { first = first; read = read; master = subst (λ l. IsPrefix l past) begins since; led = led }

pub led : (gs : List GivenData) (m : MappingData) (n : ℕ) (cs : List Copy) (us : List Unopened) (os : List Opened) (unled : Option LogFault) (before past : List MasterEntry) (s : State) (leader : ℕ) → IsKnown before s → IsPrefix before past
    → AreTried gs m n s.in_sync cs us os → leader_of s.primary os ≡ Some leader → LeadsBy unled s.primary leader past → IsLed gs m n cs us unled past
led gs m n cs us os unled before past s leader known since tried leads by = record {
  before = before;
  state = s;
  known = known;
  since = since;
  tried = subst (λ l. AreTried gs m n s.in_sync cs us l) tried.ends tried;
  leader = leader;
  leads = subst (λ l. leader_of s.primary l ≡ Some leader) tried.ends leads;
  by = by;
}

-- whichever way the lead was made sure of
pub leads_now : {X F : Type 0} (r : Result X F) (unled : Option LogFault) (last leader : ℕ) (past : List MasterEntry) → unled ≡ None → OnOk r (IsPromoted leader past) → OnOk r (LeadsBy unled last leader past)
leads_now (Err e) unled last leader past none promoted = tt
leads_now (Ok x) unled last leader past none promoted = subst (λ (u : Option LogFault). LeadsBy u last leader past) (sym none) promoted

pub leads_later : {X F : Type 0} (r : Result X F) (unled : Option LogFault) (fault : LogFault) (last leader : ℕ) (past : List MasterEntry) → leader ≡ last → OnOk r (unled ≡ Some fault) → OnOk r (LeadsBy unled last leader past)
leads_later (Err e) unled fault last leader past same waits = tt
leads_later (Ok x) unled fault last leader past same waits = subst (λ (u : Option LogFault). LeadsBy u last leader past) (sym waits) same

pub started_by : (gs hs : List GivenData) (m : MappingData) (n : ℕ) (bytes : List ℕ) (cs : List Copy) (past : List MasterEntry) → IsGiven gs 0 bytes → IsPrefix gs hs → IsNewIndex bytes m n cs past → IsStarted hs m n cs past
started_by gs hs m n bytes cs past given more new = record { bytes = bytes; from = given_on gs hs 0 bytes given more; new = new }

pub opened_by : (gs hs : List GivenData) (m : MappingData) (n : ℕ) (count : Option ℕ) (bytes : List ℕ) (cs : List Copy) (us : List Unopened) (unled : Option LogFault) (past : List MasterEntry) → IsGiven gs 0 bytes → IsPrefix gs hs → BeganWith bytes count
    → IsOpenedBy count hs bytes m n cs us unled past → IsOpened hs m n cs us unled past
opened_by gs hs m n count bytes cs us unled past given more with is = record { bytes = bytes; from = given_on gs hs 0 bytes given more; count = count; began_with = with; is = is }

-- ---- results

-- where a cluster is closed unless something was done, what that leaves is so of the one that isn't
pub unless_closed : {C X F G : Type 0} (P : C → Type 0) (r : Result C F) (done : Result X G) (c : C) → IfOk r (λ x. x ≡ c) → (IsOk r → IsOk done) → OnOk done (P c) → IfOk r P
unless_closed P (Err e) done c same was is = tt
unless_closed P (Ok x) (Err e) c same was is = absurd (let never : false ≡ true = was refl in cc)
unless_closed P (Ok x) (Ok y) c same was is = subst P (sym same) is

pub led_ok : {X F : Type 0} (r : Result X F) (gs : List GivenData) (m : MappingData) (n : ℕ) (cs : List Copy) (us : List Unopened) (os : List Opened) (unled : Option LogFault) (before past : List MasterEntry) (s : State) (leader : ℕ) → IsKnown before s
    → OnOk r (IsPrefix before past) → AreTried gs m n s.in_sync cs us os → leader_of s.primary os ≡ Some leader → OnOk r (LeadsBy unled s.primary leader past) → OnOk r (IsLed gs m n cs us unled past)
led_ok (Err e) gs m n cs us os unled before past s leader known since tried leads by = tt
led_ok (Ok x) gs m n cs us os unled before past s leader known since tried leads by = led gs m n cs us os unled before past s leader known since tried leads by

pub started_ok : {C F : Type 0} (gave : C → List GivenData) (began : C → List Copy) (past : C → List MasterEntry) (r : Result C F) (gs : List GivenData) (m : MappingData) (n : ℕ) (bytes : List ℕ) → IsGiven gs 0 bytes
    → IfOk r (λ c. IsPrefix gs (gave c)) → IfOk r (λ c. IsNewIndex bytes m n (began c) (past c)) → IfOk r (λ c. IsStarted (gave c) m n (began c) (past c))
started_ok gave began past (Err e) gs m n bytes given more new = tt
started_ok gave began past (Ok c) gs m n bytes given more new = started_by gs (gave c) m n bytes (began c) (past c) given more new

pub opened_ok : {C F : Type 0} (gave : C → List GivenData) (began : C → List Copy) (us : C → List Unopened) (unled : C → Option LogFault) (past : C → List MasterEntry) (r : Result C F) (gs : List GivenData) (m : MappingData) (n : ℕ) (count : Option ℕ) (bytes at : List ℕ)
    → IsGiven gs 0 bytes → at ≡ bytes → BeganWith bytes count → IfOk r (λ c. IsPrefix gs (gave c)) → IfOk r (λ c. IsOpenedBy count (gave c) at m n (began c) (us c) (unled c) (past c)) → IfOk r (λ c. IsOpened (gave c) m n (began c) (us c) (unled c) (past c))
opened_ok gave began us unled past (Err e) gs m n count bytes at given same with more is = tt
opened_ok gave began us unled past (Ok c) gs m n count bytes at given same with more is =
    opened_by gs (gave c) m n count bytes (began c) (us c) (unled c) (past c) given more with (subst (λ l. IsOpenedBy count (gave c) l m n (began c) (us c) (unled c) (past c)) same is)
