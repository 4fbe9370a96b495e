-- What is seen of an open copy answers as the copy does.
use Rattle.std.proofs.Common.{◌≡◌, List, inl, inr, true, false, refl, sym, ap, subst, ◌∙◌, length, Result, Ok, Err, IfOk}
use Rattle.std.specs.Prelude.{IsErr}
use Rattle.engine.specs.Answer.{SnapshotData, answer_of, found}
use Rattle.master.specs.Logged as ruler
use Rattle.query.specs.Page.{PageData}
use Rattle.query.specs.Query.{Query}
use Rattle.replica.specs.Logged.{Logged, IsLogged}
use Rattle.front.specs.declared.reply.Refusal.TheVariants.{NoMemory}
use Rattle.front.specs.Command.{Command, search, count}
use Rattle.front.specs.Reply.{Reply, counted, refused}
use Rattle.shard.specs.Answering.{hits_of, IsAnswered}
use Rattle.shard.specs.Ready.{is_write, IsServed, IsReady}
use Rattle.shard.specs.History.{Stand, IsReplyAt, IsSeenAt, IsSeenOf}

-- an open copy that isn't to write is ready as it is
stays_ready : (s : Logged) (m : ruler.Logged) → s.closed ≡ false → IsLogged s → IsReady false s s m m
stays_ready s m now_open logged = record {
  between = s;
  logged = logged;
  reopened = record { stays = λ _. refl; restarts = λ closed. absurd (let no : true ≡ false = sym closed ∙ now_open in cc) };
  led = record { stays = λ _. (refl, refl); leads = λ leads. absurd (cc) };
}

-- what is seen answers as the copy does, and leaves it
asked_seen : (s : SnapshotData) (at : Stand) (c : Command) (r : Reply) → is_write c ≡ false → IsSeenOf s at → IsAnswered at.copy c r at.copy → IsServed at.copy at.master c r at.copy at.master
asked_seen s at c r reads seen answered = record {
  served = inl (record { asked = at.copy; ready = subst (λ b. IsReady b at.copy at.copy at.master at.master) (sym reads) (stays_ready at.copy at.master seen.now_open seen.logged); logged = seen.logged; answered = answered });
}

search_of_seen : (s : SnapshotData) (at : Stand) (q : Query) (page : PageData) (r : Reply) → IsSeenOf s at → r ≡ hits_of (answer_of s q page) → IsServed at.copy at.master (search q page) r at.copy at.master
search_of_seen s at q page r seen is = asked_seen s at (search q page) r refl seen (record {
  closed = λ closed. absurd (let no : true ≡ false = sym closed ∙ seen.now_open in cc);
  exact = λ _ _. ap (λ (x : Reply). (at.copy.copy, x)) (is ∙ ap (λ (t : SnapshotData). hits_of (answer_of t q page)) seen.sees);
  memory = λ _ _. refl;
  stays = λ _ _. seen.now_open;
  failed = λ _ failed. absurd (let no = sym is ∙ failed in cc);
})

count_of_seen : (s : SnapshotData) (at : Stand) (q : Query) (r : Reply) → IsSeenOf s at → r ≡ counted (length (found s q)) → IsServed at.copy at.master (count q) r at.copy at.master
count_of_seen s at q r seen is = asked_seen s at (count q) r refl seen (record {
  closed = λ closed. absurd (let no : true ≡ false = sym closed ∙ seen.now_open in cc);
  exact = λ _ _. ap (λ (x : Reply). (at.copy.copy, x)) (is ∙ ap (λ (t : SnapshotData). counted (length (found t q))) seen.sees);
  memory = λ _ _. refl;
  stays = λ _ _. seen.now_open;
  failed = λ _ failed. absurd (let no = sym is ∙ failed in cc);
})

-- memory may always be wanting
wanting_of_seen : (at : Stand) (c : Command) → IsServed at.copy at.master c (refused NoMemory) at.copy at.master
wanting_of_seen at c = record {
  served = inr (record {
    reply = refl;
    unready = record { between = at.copy; reopened = inl refl; same = record { copy = refl; closed = refl; log = refl; failures = refl }; master = inl refl };
  });
}

pub search_seen : (s : SnapshotData) (ts : List Stand) (q : Query) (page : PageData) (r : Reply) → IsSeenAt s ts → r ≡ hits_of (answer_of s q page) → IsReplyAt ts (search q page) r
search_seen s ts q page r seen is = record { at = seen.at; ends = seen.ends; served = search_of_seen s seen.at q page r seen.seen is }

pub count_seen : (s : SnapshotData) (ts : List Stand) (q : Query) (r : Reply) → IsSeenAt s ts → r ≡ counted (length (found s q)) → IsReplyAt ts (count q) r
count_seen s ts q r seen is = record { at = seen.at; ends = seen.ends; served = count_of_seen s seen.at q r seen.seen is }

pub wanting_seen : (s : SnapshotData) (ts : List Stand) (c : Command) (r : Reply) → IsSeenAt s ts → r ≡ refused NoMemory → IsReplyAt ts c r
wanting_seen s ts c r seen is = record { at = seen.at; ends = seen.ends; served = subst (λ x. IsServed seen.at.copy seen.at.master c x seen.at.copy seen.at.master) (sym is) (wanting_of_seen seen.at c) }

-- the reply that tells what was made of what is seen, or that memory was wanting
pub search_replied : {R E : Type 0} (view : R → Reply) (s : SnapshotData) (ts : List Stand) (q : Query) (page : PageData) (made : Result R E) (reply : R) → IsSeenAt s ts → IfOk made (λ r. view r ≡ hits_of (answer_of s q page))
    → IfOk made (λ r. reply ≡ r) → (IsErr made → view reply ≡ refused NoMemory) → IsReplyAt ts (search q page) (view reply)
search_replied view s ts q page (Ok r) reply seen found ok err = search_seen s ts q page (view reply) seen (ap view ok ∙ found)
search_replied view s ts q page (Err e) reply seen found ok err = wanting_seen s ts (search q page) (view reply) seen (err refl)

pub count_replied : {R E : Type 0} (view : R → Reply) (s : SnapshotData) (ts : List Stand) (q : Query) (made : Result R E) (reply : R) → IsSeenAt s ts → IfOk made (λ r. view r ≡ counted (length (found s q)))
    → IfOk made (λ r. reply ≡ r) → (IsErr made → view reply ≡ refused NoMemory) → IsReplyAt ts (count q) (view reply)
count_replied view s ts q (Ok r) reply seen total ok err = count_seen s ts q (view reply) seen (ap view ok ∙ total)
count_replied view s ts q (Err e) reply seen total ok err = wanting_seen s ts (count q) (view reply) seen (err refl)
