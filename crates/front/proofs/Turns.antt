-- Pages that are made from the page of some work and a sentence.
use Rattle.std.proofs.Common.{◌≡◌, ◌∙◌, ℕ, Bool, true, false, List, [], Option, None, Some, IfOk, IfSome, Result, Ok, Err, refl, sym, ap, subst}
use Rattle.std.specs.Prelude.{is_none, option_map}
use Rattle.doc.specs.Mapping.{MappingData}
use Rattle.wire.specs.declared.head_fault.HeadFault.{HeadFault}
use Rattle.wire.specs.declared.reading.Whole.{Whole}
use Rattle.wire.specs.declared.reading.Whole.TheVariants.{Broken}
use Rattle.wire.specs.Fault.{fault_of as head_fault_of}
use Rattle.wire.specs.Reading.{IsStanding}
use Rattle.wire.specs.Requests.{Standing}
use Rattle.front.specs.declared.greeting.Welcome.{Welcome}
use Rattle.front.specs.declared.greeting.Welcome.TheVariants.{Nothing, Greeting, Presence, Reporting}
use Rattle.front.specs.Command.{Command}
use Rattle.front.specs.declared.request_fault.RequestFault.TheVariants.{Head}
use Rattle.front.specs.Fault.{Fault, fault_of, of_head}
use Rattle.front.specs.Greeting.{welcome_page}
use Rattle.front.specs.Page.{fault_page}
use Rattle.front.specs.Reply.{Reply}
use Rattle.front.specs.Rule.{Rule, Turned, plain_page, work_by}
use Rattle.front.specs.Serving.{Answered}
use Rattle.front.specs.Work.{Work, IsRefusedPage, bulk, explained, refused, single, work_of}
use Rattle.front.proofs.Calls.{answered_fault}

at_some : (o : Option Fault) (f : Fault) → o ≡ Some f → (P : Fault → Type 0) → IfSome o P → P f
at_some o f e P h = rw e at h

-- nothing is done for a request that is refused
pub turned_fault : {S : Type 0} (answers : S → Command → Reply → S → Type 0) (index : List ℕ) (f : Fault) (greets : Bool) (s : S) (out : List ℕ)
    → IsRefusedPage greets f out → Turned greets answers index (refused f) (explained (refused f) greets) s out s
turned_fault answers index f greets s out is =
    record { page = fault_page f; why = is.why; answered = answered_fault greets answers index f s (fault_page f) refl; is_page = is.is }

-- a page that is as it was
pub turned_as_is : {S : Type 0} (greets : Bool) (answers : S → Command → Reply → S → Type 0) (index : List ℕ) (w : Work) (turn : List ℕ → List ℕ → List ℕ) (s : S) (out : List ℕ) (t : S)
    → Answered greets answers index w s out t → out ≡ turn [] out → Turned greets answers index w turn s out t
turned_as_is greets answers index w turn s out t a e = record { page = out; why = []; answered = a; is_page = e }

unexplained : (w : Work) (why page : List ℕ) → explained w false why page ≡ page
unexplained (refused f) why page = refl
unexplained (single c) why page = refl
unexplained (bulk index mapping wanted items) why page = refl

-- a server that doesn't greet writes no sentences
pub turned_plainly : {S : Type 0} (answers : S → Command → Reply → S → Type 0) (index : List ℕ) (w : Work) (s : S) (out : List ℕ) (t : S)
    → Turned false answers index w (explained w false) s out t → Answered false answers index w s out t
turned_plainly answers index w s out t x =
    record { replies = x.answered.replies; whys = x.answered.whys; called = x.answered.called; is_page = x.is_page ∙ unexplained w x.why x.page ∙ x.answered.is_page }

-- a page that is turned once more
pub turned_again : {S : Type 0} (greets : Bool) (answers : S → Command → Reply → S → Type 0) (index : List ℕ) (w : Work) (turn : List ℕ → List ℕ → List ℕ) (more : List ℕ → List ℕ) (s : S) (mid out : List ℕ) (t : S)
    → Turned greets answers index w turn s mid t → out ≡ more mid → Turned greets answers index w (λ why page. more (turn why page)) s out t
turned_again greets answers index w turn more s mid out t x e = record { page = x.page; why = x.why; answered = x.answered; is_page = e ∙ ap more x.is_page }

-- the page of what no command answers has a sentence of its own
pub turned_welcomed : {S : Type 0} (answers : S → Command → Reply → S → Type 0) (index : List ℕ) (w : Work) (welcome : Result Welcome Fault) (s : S) (mid out : List ℕ) (t : S) (why : List ℕ)
    → Turned true answers index w (explained w true) s mid t → out ≡ welcome_page welcome why mid → Turned true answers index w (λ why page. welcome_page welcome why (explained w true why page)) s out t
turned_welcomed answers index w (Err f) s mid out t why x e = record { page = x.page; why = why; answered = x.answered; is_page = e }
turned_welcomed answers index w (Ok Nothing) s mid out t why x e = record { page = x.page; why = x.why; answered = x.answered; is_page = e ∙ x.is_page }
turned_welcomed answers index w (Ok Greeting) s mid out t why x e = record { page = x.page; why = x.why; answered = x.answered; is_page = e }
turned_welcomed answers index w (Ok Presence) s mid out t why x e = record { page = x.page; why = x.why; answered = x.answered; is_page = e }
turned_welcomed answers index w (Ok (Reporting what)) s mid out t why x e = record { page = x.page; why = why; answered = x.answered; is_page = e }

-- so is a page that may lack memory
pub turned_if_ok : {S E : Type 0} (answers : S → Command → Reply → S → Type 0) (index : List ℕ) (w : Work) (welcome : Result Welcome Fault) (s : S) (mid : List ℕ) (t : S) (r : Result (List ℕ) E)
    → Turned true answers index w (explained w true) s mid t → IfOk r (λ out. (why : List ℕ) × (out ≡ welcome_page welcome why mid))
    → IfOk r (λ out. Turned true answers index w (λ why page. welcome_page welcome why (explained w true why page)) s out t)
turned_if_ok answers index w welcome s mid t (Ok out) x is = turned_welcomed answers index w welcome s mid out t is.0 x is.1
turned_if_ok answers index w welcome s mid t (Err e) x is = tt

-- nothing is done for a head that can't be read
pub answered_broken : {S : Type 0} (answers : S → Command → Reply → S → Type 0) (index : List ℕ) (mapping : MappingData) (whole : Whole) (e : HeadFault) (s : S) (out : List ℕ) (q : Standing) → whole ≡ Broken e → IsStanding whole q
    → IfSome (fault_of (Head e)) (λ f. out ≡ fault_page f) → Answered false answers index (work_of index mapping q) s out s
answered_broken answers index mapping whole e s out q w is page =
    let there : IsStanding (Broken e) q = rw w at is in
    let same = at_some (option_map of_head (head_fault_of e)) (of_head there.0) (ap (option_map of_head) there.1) (λ f. out ≡ fault_page f) page in
    rw there.2 (answered_fault false answers index (of_head there.0) s out same)

pub turned_broken : {S : Type 0} (answers : S → Command → Reply → S → Type 0) (index : List ℕ) (mapping : MappingData) (rule : Rule) (whole : Whole) (e : HeadFault) (s : S) (out : List ℕ) (q : Standing) → whole ≡ Broken e → IsStanding whole q
    → IfSome (fault_of (Head e)) (λ f. IsRefusedPage rule.greets f out) → Turned rule.greets answers index (work_by rule index mapping q) (λ why page. plain_page rule index mapping q why page) s out s
turned_broken answers index mapping rule whole e s out q w is page =
    let there : IsStanding (Broken e) q = rw w at is in
    let refused = at_some (option_map of_head (head_fault_of e)) (of_head there.0) (ap (option_map of_head) there.1) (λ f. IsRefusedPage rule.greets f out) page in
    rw there.2 (turned_fault answers index (of_head there.0) rule.greets s out refused)

-- what no command answers is refused, in a sentence
pub welcomed_refused : (o : Option Fault) (w : Result Welcome Fault) (out page : List ℕ) → is_none o ≡ false → IfSome o (λ f. w ≡ Err f) → IfSome o (λ f. IsRefusedPage true f out)
    → (why : List ℕ) × (out ≡ welcome_page w why page)
welcomed_refused None w out page there gives is = absurd cc
welcomed_refused (Some f) w out page there gives is = (is.why, subst (λ (x : Result Welcome Fault). out ≡ welcome_page x is.why page) (sym gives) is.is)

-- what is refused, by what was given for it
pub refused_by : {Y : Type 0} (P : Result Y Fault → Type 0) (given : Result Y Fault) (greets : Bool) (out : List ℕ) (o : Option Fault) → is_none o ≡ false → IfSome o (λ f. given ≡ Err f) → IfSome o (λ f. IsRefusedPage greets f out)
    → ((f : Fault) → IsRefusedPage greets f out → P (Err f)) → P given
refused_by P given greets out None there e is then = absurd cc
refused_by P given greets out (Some f) there e is then = subst P (sym e) (then f is)
