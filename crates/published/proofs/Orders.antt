-- Listings that go on from one another.
use Rattle.std.proofs.Common.{List, [], ◌∷◌, ◌++◌, refl, ap, sym, ◌∙◌, append_assoc, append-nil}
use Rattle.op.specs.declared.record.Record.{Record}
use mathlib.Core.List.{IsPrefix}
use Rattle.published.specs.declared.listing.Listing.{Listing}
use Rattle.published.specs.declared.listing.Published.{Published}
use Rattle.op.specs.Records.{StartsWith}
use Rattle.published.specs.Listings.{GoesOn, ComesAfter, ComesAfterAll}

pub self-StartsWith : (rs : List Record) → StartsWith rs rs
self-StartsWith rs = ([], sym (append-nil rs))

pub trans-StartsWith : (xs ys zs : List Record) → StartsWith ys xs → StartsWith zs ys → StartsWith zs xs
trans-StartsWith xs ys zs p q = (p.0 ++ q.0, q.1 ∙ (ap (λ w. w ++ q.0) p.1 ∙ append_assoc xs p.0 q.0))

pub self-GoesOn : (a : Listing) → GoesOn a a
self-GoesOn a = record { cell = refl; registry = refl; mapping = refl; records = self-StartsWith a.records }

pub trans-GoesOn : (a b c : Listing) → GoesOn b a → GoesOn c b → GoesOn c a
trans-GoesOn a b c p q = record { cell = q.cell ∙ p.cell; registry = q.registry ∙ p.registry; mapping = q.mapping ∙ p.mapping; records = trans-StartsWith a.records b.records c.records p.records q.records }

pub self-IsPrefix : {A : Type 0} (xs : List A) → IsPrefix xs xs
self-IsPrefix xs = ([], append-nil xs)

pub trans-IsPrefix : {A : Type 0} (xs ys zs : List A) → IsPrefix xs ys → IsPrefix ys zs → IsPrefix xs zs
trans-IsPrefix xs ys zs p q = (p.0 ++ q.0, sym (append_assoc xs p.0 q.0) ∙ (ap (λ w. w ++ q.0) p.1 ∙ q.1))

pub more-IsPrefix : {A : Type 0} (xs ys more : List A) → IsPrefix xs ys → IsPrefix xs (ys ++ more)
more-IsPrefix xs ys more p = (p.0 ++ more, sym (append_assoc xs p.0 more) ∙ ap (λ w. w ++ more) p.1)

pub self-ComesAfter : (a : Published) → ComesAfter a a
self-ComesAfter a = record { history = self-IsPrefix a.history; listing = self-GoesOn a.listing }

pub trans-ComesAfter : (a b c : Published) → ComesAfter b a → ComesAfter c b → ComesAfter c a
trans-ComesAfter a b c p q = record { history = trans-IsPrefix a.history b.history c.history p.history q.history; listing = trans-GoesOn a.listing b.listing c.listing p.listing q.listing }

pub trans-ComesAfterAll : (olds : List Published) (b c : Published) → ComesAfterAll b olds → ComesAfter c b → ComesAfterAll c olds
trans-ComesAfterAll [] b c p q = tt
trans-ComesAfterAll (a ∷ olds) b c p q = (trans-ComesAfter a b c p.0 q, trans-ComesAfterAll olds b c p.1 q)

pub append-ComesAfterAll : (olds more : List Published) (c : Published) → ComesAfterAll c olds → ComesAfterAll c more → ComesAfterAll c (olds ++ more)
append-ComesAfterAll [] more c p q = q
append-ComesAfterAll (a ∷ olds) more c p q = (p.0, append-ComesAfterAll olds more c p.1 q)
