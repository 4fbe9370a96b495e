-- What a publisher does to its line.
use Rattle.std.proofs.Common.{◌≡◌, List, [], ◌∷◌, ◌++◌, Result, Ok, Err, OnOk, OnErr, MatchResult, is_err, false, fold, refl, sym, ap, subst, ◌∙◌}
use mathlib.Core.List.{IsPrefix}
use Rattle.published.specs.declared.listing.Listing.{Listing}
use Rattle.published.specs.declared.listing.Published.{Published}
use Rattle.published.specs.Chain.{MayFollow}
use Rattle.published.specs.declared.front.Entry.{Entry}
use Rattle.published.specs.declared.showing.Showing.{Showing}
use Rattle.published.specs.Beginning.{Beginning, beginning}
use Rattle.published.specs.Entry.{published_of}
use Rattle.published.specs.Showing.{listing}
use Rattle.published.specs.Line.{top_of, IsLine}
use Rattle.published.specs.Listings.{GoesOn, ComesAfter}
use Rattle.published.proofs.Chains.{last_of-snoc}
use Rattle.published.proofs.Orders.{self-GoesOn, trans-GoesOn, self-IsPrefix, more-IsPrefix}

pub may-GoesOn : (shown : Listing) (log : List Listing) (l : Listing) → GoesOn l (top_of shown log) → MayFollow log l
may-GoesOn shown [] l on = tt
may-GoesOn shown (a ∷ log) l on = on

pub top-snoc : (shown : Listing) (log : List Listing) (l : Listing) → top_of shown (log ++ l ∷ []) ≡ l
top-snoc shown [] l = refl
top-snoc shown (a ∷ log) l = last_of-snoc a log l

-- the last operation alone counts
pub fold-last : {S O : Type 0} (f : O → S) (s : S) (pending : List O) (o : O) → fold (λ s p. f p) s (pending ++ o ∷ []) ≡ f o
fold-last f s [] o = refl
fold-last f s (p ∷ pending) o = fold-last f (f p) pending o

-- the entry that was added, as it is published
pub entry_is : (e : Entry) (new old : Beginning) (s : Showing) → (e.front ≡ new) × (e.showing ≡ s) → new ≡ beginning old.book (old.log ++ listing old.book s ∷ [])
    → published_of e ≡ record { listing = listing old.book s; history = old.log ++ listing old.book s ∷ [] }
entry_is e new old s is added =
    let front : e.front ≡ beginning old.book (old.log ++ listing old.book s ∷ []) = is.0 ∙ added in
    λ i. record { listing = listing (front i).book (is.1 i); history = (front i).log }

-- what was shown is of the history that has one list more
more_begins : (shown : List Listing) (next : Listing) (old new : Beginning) → IsPrefix shown old.log → new.log ≡ old.log ++ next ∷ [] → IsPrefix shown new.log
more_begins shown next old new begins more = subst (λ l. IsPrefix shown l) (sym more) (more-IsPrefix shown old.log (next ∷ []) begins)

-- the line after a list was added to its history, and shown or not
pub line_refused : (shown : Published) (next : Listing) (known : List Published) (old new : Beginning) → IsLine shown known old → new.log ≡ old.log ++ next ∷ []
    → GoesOn next (top_of shown.listing old.log) → IsLine shown known new
line_refused shown next known old new is more on =
    let top : top_of shown.listing new.log ≡ next = ap (top_of shown.listing) more ∙ top-snoc shown.listing old.log next in
    record {
      begins = more_begins shown.history next old new is.begins more;
      later = subst (λ l. GoesOn l shown.listing) (sym top) (trans-GoesOn shown.listing (top_of shown.listing old.log) next is.later on);
      knows = is.knows;
    }

pub line_shown : (shown next : Published) (known : List Published) (old new : Beginning) → shown ≡ next → known ≡ next ∷ [] → new.log ≡ old.log ++ next.listing ∷ [] → next.history ≡ new.log → IsLine shown known new
line_shown shown next known old new same knows more whole =
    let top : top_of shown.listing new.log ≡ next.listing = ap (top_of shown.listing) more ∙ top-snoc shown.listing old.log next.listing in
    let all : shown.history ≡ new.log = ap (λ (p : Published). p.history) same ∙ whole in
    record {
      begins = subst (λ l. IsPrefix shown.history l) all (self-IsPrefix shown.history);
      later = subst (λ l. GoesOn l shown.listing) (ap (λ (p : Published). p.listing) same ∙ sym top) (self-GoesOn shown.listing);
      knows = knows ∙ ap (λ p. p ∷ []) (sym same);
    }

pub line_after : {A E : Type 0} (r : Result A E) (shown shown' next : Published) (known known' : List Published) (old new : Beginning)
    → OnOk r (shown' ≡ next) → OnOk r (known' ≡ next ∷ []) → OnErr r ((shown' ≡ shown) × (known' ≡ known))
    → IsLine shown known old → new.log ≡ old.log ++ next.listing ∷ [] → next.history ≡ new.log → GoesOn next.listing (top_of shown.listing old.log) → IsLine shown' known' new
line_after (Ok x) shown shown' next known known' old new a b c is more whole on = line_shown shown' next known' old new a b more whole
line_after (Err e) shown shown' next known known' old new a b c is more whole on =
    subst (λ p. IsLine p known' new) (sym c.0) (subst (λ k. IsLine shown k new) (sym c.1) (line_refused shown next.listing known old new is more on))

-- what is added comes after what is shown
pub next_after : (shown next : Published) (known : List Published) (old new : Beginning) → IsLine shown known old → new.log ≡ old.log ++ next.listing ∷ [] → next.history ≡ new.log
    → GoesOn next.listing (top_of shown.listing old.log) → ComesAfter next shown
next_after shown next known old new is more whole on = record {
  history = subst (λ l. IsPrefix shown.history l) (sym whole) (more_begins shown.history next.listing old new is.begins more);
  listing = trans-GoesOn shown.listing (top_of shown.listing old.log) next.listing is.later on;
}

pub at_ok : {A E : Type 0} (r : Result A E) (P : Type 0) (Q : E → Type 0) → is_err r ≡ false → MatchResult r (λ _. P) Q → P
at_ok (Ok x) P Q e h = h
at_ok (Err x) P Q e h = absurd (cc e)

pub at_done : {A E : Type 0} (r : Result A E) (P : Type 0) → is_err r ≡ false → OnOk r P → P
at_done (Ok x) P e h = h
at_done (Err x) P e h = absurd (cc e)
