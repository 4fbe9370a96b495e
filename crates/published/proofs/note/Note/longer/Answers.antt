use Rattle.std.proofs.Common.{◌≡◌, refl, ap, subst, ◌∙◌, inl, inr}
use Rattle.published.specs.declared.listing.Published.{Published}
use Rattle.published.specs.Entry.{published_of}
use Rattle.published.specs.Listings.{ComesAfter}
use Rattle.published.specs.Told.{IsLatest}
use Rattle.published.proofs.Orders.{self-ComesAfter}
use Rattle.published.proofs.note.Note.longer.Goals as goal

second : (a b x y : Published) → x ≡ a → y ≡ b → ComesAfter y x → IsLatest a b b
second a b x y xa yb on = record { first = subst (λ (p : Published). ComesAfter p a) yb (subst (λ (p : Published). ComesAfter y p) xa on); second = self-ComesAfter b; one = inr refl }

first : (a b x y : Published) → x ≡ a → y ≡ b → ComesAfter x y → IsLatest a b a
first a b x y xa yb on = record { first = self-ComesAfter a; second = subst (λ (p : Published). ComesAfter a p) yb (subst (λ (p : Published). ComesAfter p y) xa on); one = inl refl }

pub returns-then-is_before : goal.returns-then-is_before
returns-then-is_before g c = second c.args.self c.args.other (published_of c.deref.result.now) (published_of c.deref-2.result.now) (ap published_of c.deref.ensures ∙ c.self.view_is) (ap published_of c.deref-2.ensures ∙ c.other.view_is) c.if-is_before.ensures

pub returns-else-is_before : goal.returns-else-is_before
returns-else-is_before g c = first c.args.self c.args.other (published_of c.deref.result.now) (published_of c.deref-2.result.now) (ap published_of c.deref.ensures ∙ c.self.view_is) (ap published_of c.deref-2.ensures ∙ c.other.view_is) c.if-is_before.ensures
