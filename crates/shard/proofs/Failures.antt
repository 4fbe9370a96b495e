-- Which replies tell a failure.
use Rattle.std.proofs.Common.{◌≡◌, ◌⊎◌, inl, inr, true, refl}
use Rattle.front.specs.declared.reply.Refusal.{Refusal}
use Rattle.front.specs.declared.reply.Refusal.TheVariants.{NotPrimary, VersionConflict, WindowFull, OldTerm, NotSynced, BeyondWindow, Mismatch, Closed, Log, NoMemory, WrongAddress, Exhausted, NoSuchCopy, NoSuchMessage, NotInSync, Gone, IsPrimary, Full}
use Rattle.front.specs.Reply.{Reply, wrote, bulked, got, hits, counted, refreshed, promoted, refused}
use Rattle.shard.specs.Answering.{is_failure}

-- a failure is want of memory or of the log
abbrev pub IsFailure : Reply → Type 0
IsFailure r = (r ≡ refused NoMemory) ⊎ (r ≡ refused Log)

failure_is : (f : Refusal) → is_failure (refused f) ≡ true → IsFailure (refused f)
failure_is NoMemory h = inl refl
failure_is Log h = inr refl
failure_is NotPrimary h = absurd cc
failure_is VersionConflict h = absurd cc
failure_is WindowFull h = absurd cc
failure_is OldTerm h = absurd cc
failure_is NotSynced h = absurd cc
failure_is BeyondWindow h = absurd cc
failure_is Mismatch h = absurd cc
failure_is Closed h = absurd cc
failure_is WrongAddress h = absurd cc
failure_is Exhausted h = absurd cc
failure_is NoSuchCopy h = absurd cc
failure_is NoSuchMessage h = absurd cc
failure_is NotInSync h = absurd cc
failure_is Gone h = absurd cc
failure_is IsPrimary h = absurd cc
failure_is Full h = absurd cc

pub failure : (r : Reply) → is_failure r ≡ true → IsFailure r
failure (refused f) h = failure_is f h
failure (wrote w) h = absurd cc
failure (bulked items) h = absurd cc
failure (got d) h = absurd cc
failure (hits total page) h = absurd cc
failure (counted n) h = absurd cc
failure (refreshed n) h = absurd cc
failure (promoted copy term) h = absurd cc
