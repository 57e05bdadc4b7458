-- The halves of a call of a reader-writer lock, of which the fast one may be all, and to what they come.
use Rattle.std.specs.Prelude.{◌≡◌, Option, IfErr, IfNone, IfOk, IfSome, MatchResult}
use Rattle.std.specs.declared.result.Result.{Result}
use Rattle.core_base.specs.declared.faults.Fault.{Fault}
use Rattle.core_base.specs.declared.faults.Fault.TheVariants.{ReadersFull}
use Rattle.spec_locks.specs.declared.calls.Access.{Access}
use Rattle.spec_locks.specs.declared.calls.Patience.{Patience}
use Rattle.spec_locks.specs.declared.calls.RwLockCall.{RwLockCall}
use Rattle.spec_locks.specs.declared.calls.RwLockCall.TheVariants as calls
use Rattle.spec_locks.specs.declared.outcomes.Answer.TheVariants.{Ok as ok}
use Rattle.run_base.specs.Paths.{rwlock_at}
use Rattle.run_base.specs.RwLockCalls.{HasWalkedRwLock, IsRwLockRight, StaysBeside, WakesBy, entry_answer}
use Rattle.run_base.specs.RwLockFitting.{IsCounted, MayGiveUp}
use Rattle.steps_rwlock.specs.RwLockSteps.{wanted}
use Rattle.steps_rwlock.specs.declared.purposes.RwLockPurpose.TheVariants.{Enter, Release}
use Rattle.core_words.specs.Plays.{piece, takes_in}
use Rattle.core_words.specs.Rights.{owner_for}
use Rattle.core_words.specs.Views.{owning}
use Rattle.core_words.specs.declared.rights.Held.{Held}
use Rattle.parking_lot_core.specs.Tokens.{told_of, view_of}
use Rattle.parking_lot_core.specs.declared.tokens.Token.{Token}
use Rattle.raw_rwlocks.specs.RwLockUsers.{admission_in, lot_in, word_in}
use Rattle.raw_rwlocks.specs.declared.rwlock_rights.LotRwLock.{LotRwLock}
use Rattle.run_locks.specs.Halves.{HasBegunRwLock}
use Rattle.run_locks.specs.RwLockRefusals.{LeftGivingUp, SawReadersFull}
use Rattle.run_locks.specs.declared.rwlock_calls.SlowPart.{SlowPart}

-- a call that enters gave this: the right, nothing where it gave up, or that the lock is full
abbrev pub HasEntered : Type 0 → LotRwLock → Access → Patience → Result (Option Held) Fault → Token
    → Token → Type 0
HasEntered up lock x how entered old new = StaysBeside (word_in lock).number old new
    × MatchResult entered
    (λ right. IfSome right (IsRwLockRight (lot_in lock) (word_in lock) (owner_for (wanted x))))
    (λ fault. fault ≡ ReadersFull)
    × HasWalkedRwLock (word_in lock).number (admission_in lock) (Enter x how)
    (entry_answer how entered) old new
    × IfOk entered (λ right. IfNone right (MayGiveUp up how))
    × IfErr entered (λ fault. IsCounted x)
    × IfErr entered (λ fault. SawReadersFull (word_in lock).number (admission_in lock) x old new)
    × IfOk entered
    (λ right. IfNone right (LeftGivingUp (word_in lock).number (admission_in lock) (Enter x how) new))

-- a release has joined the right that it spends, and has begun; no queue told it anything meanwhile
abbrev pub HasBegunRelease : LotRwLock → Access → SlowPart → Token → Token → Type 0
HasBegunRelease lock x rest old new = (joined : Token) × (joined.number ≡ old.number)
    × (view_of joined ≡ takes_in (view_of old)
    (piece (owning (rwlock_at (word_in lock).number) (owner_for (wanted x)))))
    × HasBegunRwLock (word_in lock) (admission_in lock) (Release x) rest joined new
    × (told_of joined ≡ told_of old)

-- a call of the world's language has begun, of those that go by halves
abbrev pub HasBegunCall : LotRwLock → RwLockCall → SlowPart → Token → Token → Type 0
HasBegunCall lock (calls.Enter x how) rest old new =
    HasBegunRwLock (word_in lock) (admission_in lock) (Enter x how) rest old new
HasBegunCall lock (calls.Release x) rest old new = HasBegunRelease lock x rest old new
HasBegunCall lock (calls.ReleaseFair x) rest old new = ⊥
HasBegunCall lock (calls.Downgrade d) rest old new = ⊥
HasBegunCall lock (calls.Upgrade how) rest old new = ⊥
HasBegunCall lock (calls.Bump x) rest old new = ⊥

-- a release is over
abbrev pub HasReleased : LotRwLock → Access → Token → Token → Type 0
HasReleased lock x old new = StaysBeside (word_in lock).number old new
    × HasWalkedRwLock (word_in lock).number (admission_in lock) (Release x) ok old new
    × WakesBy (word_in lock).number (admission_in lock) (Release x) old new
