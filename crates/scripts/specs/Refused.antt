-- Answers of events that refuse them.
-- For proofs alone: no public contract rests on it.
use Rattle.world.specs.declared.event.EventAnswer.{EventAnswer}
use Rattle.world.specs.declared.event.EventAnswer.TheVariants.{Answered, Decided, Delivered, Torn, Refused, RefusedByMaster, NoSuchCopy, NoSuchMessage}

abbrev pub IsRefused : EventAnswer → Type 0
IsRefused (Answered a sent acknowledged) = ⊥
IsRefused (Decided given sent) = ⊥
IsRefused (Delivered repeated sent) = ⊥
IsRefused (Torn point) = ⊥
IsRefused (Refused f) = Unit {0}
IsRefused (RefusedByMaster f) = Unit {0}
IsRefused NoSuchCopy = Unit {0}
IsRefused NoSuchMessage = Unit {0}
