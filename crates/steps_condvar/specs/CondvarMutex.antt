-- The deeds of each place of a notification at the mutex beside it, and their law.
use Rattle.std.specs.Prelude.{ℕ, Bool, true, false, None, if◌then◌else◌, ◌==◌, ◌≡◌, ◌≢◌, Some, List, [], ◌∷◌}
use Rattle.std.specs.Prelude.{length}
use Rattle.core_base.specs.declared.ops.Op.{Op}
use Rattle.core_base.specs.Words.{apply}
use Rattle.steps_base.specs.declared.acts.Act.TheVariants as act
use Rattle.steps_base.specs.declared.acts.Next.{Next}
use Rattle.steps_base.specs.declared.acts.Next.TheVariants.{At, End as Over}
use Rattle.steps_base.specs.declared.acts.Reply.{Reply}
use Rattle.steps_base.specs.declared.acts.Reply.TheVariants.{Done, Value, Took, Requeued}
use Rattle.spec_locks.specs.Codes.{code}
use Rattle.spec_locks.specs.Condvars.{CondvarSite, MoveFits, line_of, moved_of, taken_of}
use Rattle.spec_locks.specs.Deeds.{AllNeeded, after_all}
use Rattle.spec_locks.specs.Locks.{Mutex, Queued, Rules}
use Rattle.spec_locks.specs.Sites.{Bring, Deed, Role, End, In, Main, MarkBrought, MarkOwned, Out, Site, idle}
use Rattle.steps_mutex.specs.MutexSteps.{is_locked}
use Rattle.steps_condvar.specs.declared.notify.NotifyAt.{NotifyAt}
use Rattle.steps_condvar.specs.declared.notify.NotifyAt.TheVariants as notify
use Rattle.steps_condvar.specs.CondvarSteps.{next_notify, notify_act}
use Rattle.steps_condvar.specs.CondvarProfiles.{notify_row}

-- the waiters that a notification takes, and those that it moves
abbrev pub will_bring : Bool → Bool → List Queued → List Deed
will_bring all locked q = Bring (taken_of locked (moved_of all q)) (line_of locked (moved_of all q))
    ∷ []

abbrev pub beside_deeds : Bool → List Queued → NotifyAt → Reply → List Deed
beside_deeds all q notify.Enter Done = In Main ∷ []
beside_deeds all q (notify.Set expected) (Value seen) =
    if seen == expected then MarkOwned ∷ [] else []
beside_deeds all q (notify.Move locked) (Took any none_left) = will_bring all locked q
beside_deeds all q (notify.Move locked) (Requeued number none_left) = will_bring all locked q
beside_deeds all q (notify.MarkMoved number) (Value seen) = MarkBrought ∷ []
beside_deeds all q (notify.Leave any number) Done = Out ∷ End ∷ []
beside_deeds all q at told = []

-- the news that it may be told, beside this mutex
abbrev pub MayGetReplyAtMutex : Rules → Site → CondvarSite → ℕ → ℕ → Bool → NotifyAt → Reply → Type 0
MayGetReplyAtMutex r s c t m all notify.Enter Done = (u : ℕ) → (s.role u).inside ≢ Some Main
MayGetReplyAtMutex r s c t m all notify.Again (Value seen) = Unit {0}
MayGetReplyAtMutex r s c t m all notify.Hide (Value seen) = Unit {0}
MayGetReplyAtMutex r s c t m all notify.Mark (Value seen) = seen ≡ code r s
MayGetReplyAtMutex r s c t m all (notify.Set expected) (Value seen) =
    (seen ≡ code r s) × (is_locked expected ≡ true)
MayGetReplyAtMutex r s c t m false (notify.Move false) (Took any none_left) =
    (any ≡ true) × MoveFits r false false c s t m
MayGetReplyAtMutex r s c t m false (notify.Move true) (Requeued number none_left) =
    MoveFits r false true c s t m
MayGetReplyAtMutex r s c t m true (notify.Move locked) (Requeued number none_left) =
    (number ≡ length c.waiters) × MoveFits r true locked c s t m
MayGetReplyAtMutex r s c t m all (notify.Clear any) (Value seen) = Unit {0}
MayGetReplyAtMutex r s c t m all (notify.MarkMoved number) (Value seen) = number ≢ 0
MayGetReplyAtMutex r s c t m all (notify.Leave any number) Done = s.lock.taken t ≡ None
MayGetReplyAtMutex r s c t m all at told = ⊥

abbrev pub role_next : Bool → ℕ → Next NotifyAt → Role
role_next all m (At at) = (notify_row all m at).role
role_next all m (Over answer) = idle

-- the deeds may be done, and the next place says what the thread does about the mutex after them
pub record FollowsAtMutex (r : Rules) (s : Site) (c : CondvarSite) (t m : ℕ) (all : Bool)
    (at : NotifyAt) (told : Reply) : Type 0 where
  pub needed : AllNeeded r (beside_deeds all c.waiters at told) s t
  pub role : (after_all r (beside_deeds all c.waiters at told) s t).role t
      ≡ role_next all m (next_notify all m at told)

abbrev pub NotifiersFollow : Type 0
NotifiersFollow =
    (r : Rules) (s : Site) (c : CondvarSite) (t m : ℕ) (all : Bool) (at : NotifyAt) (told : Reply)
    → r.sort ≡ Mutex
    → s.role t ≡ (notify_row all m at).role → MayGetReplyAtMutex r s c t m all at told
    → FollowsAtMutex r s c t m all at told

-- A notification's steps on the word of the mutex leave the word of the mutex after the deeds.
abbrev pub NotifiersCode : Type 0
NotifiersCode =
    (r : Rules) (s : Site) (c : CondvarSite) (t k m : ℕ) (all : Bool) (at : NotifyAt) (f : Op)
    → r.sort ≡ Mutex → k ≢ m
    → MayGetReplyAtMutex r s c t m all at (Value (code r s)) → notify_act all k m at ≡ act.Word m f
    → apply f (code r s)
    ≡ code r (after_all r (beside_deeds all c.waiters at (Value (code r s))) s t)
