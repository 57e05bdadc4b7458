-- The effects of the steps of fair releases and bumps on the lock, and on their calls.
use Rattle.std.specs.Prelude.{ℕ, Bool, true, false, Option, Some, None, ◌≡◌, ◌≢◌, ◌<◌, ◌+◌, ◌-◌, ◌^◌, ◌==◌}
use Rattle.std.specs.Prelude.{List, length, slice_index}
use Rattle.core_base.specs.declared.ops.Op.{Op}
use Rattle.core_base.specs.declared.wants.Want.{Want}
use Rattle.core_base.specs.Words.{apply}
use Rattle.steps_base.specs.declared.acts.Act.TheVariants as act
use Rattle.steps_base.specs.declared.acts.Next.{Next}
use Rattle.steps_base.specs.declared.acts.Next.TheVariants as next
use Rattle.core_base.specs.declared.notes.Note.TheVariants as note
use Rattle.steps_base.specs.Profiles.{Profile, hand}
use Rattle.steps_base.specs.Calls.{CallFollows, call_by, IsNotLate}
use Rattle.spec_locks.specs.Runs.{CallState, one_more_at}
use Rattle.steps_base.specs.declared.acts.Reply.{Reply}
use Rattle.steps_base.specs.declared.acts.Reply.TheVariants as reply
use Rattle.core_base.specs.declared.wants.Waiter.{Waiter}
use Rattle.steps_base.specs.declared.owners.Owners.{Owners}
use Rattle.steps_base.specs.Owners.{lock_seen, shares_then}
use Rattle.steps_base.specs.Acts.{takes_effect}
use Rattle.spec_locks.specs.Locks.{LockState, Rules, Rights, IsTaken, Taken as TakenBy, putting, readers}
use Rattle.spec_locks.specs.Locks.{standing, without_owner}
use Rattle.spec_locks.specs.Sites.{Site, Claim, Has, Pends, HasClaim}
use Rattle.spec_locks.specs.Codes.{code, HasLimit}
use Rattle.spec_locks.specs.Deeds.{after_all}
use Rattle.steps_rwlock.specs.declared.places.Admission.{Admission}
use Rattle.steps_rwlock.specs.RwLockDeeds.{Follows}
use Rattle.steps_rwlock.specs.RwLockOpenings.{IsOpeningRow}
use Rattle.steps_base.specs.Moves.{claim_handed}
use Rattle.spec_locks.specs.declared.calls.RwLockCall.{RwLockCall}
use Rattle.spec_locks.specs.Purposes.{rwlock_purpose}
use Rattle.steps_rwlock_fair.specs.FairBegins.{call_first, call_right}
use Rattle.steps_rwlock_fair.specs.FairProfiles.{call_profile, call_respin}
use Rattle.steps_rwlock_fair.specs.declared.places.RwLockCallPlace.{RwLockCallPlace}
use Rattle.spec_locks.specs.declared.calls.Access.{Access}
use Rattle.steps_rwlock.specs.RwLockSteps.{wanted}
use Rattle.steps_rwlock_fair.specs.declared.places.RwLockCallPlace.TheVariants.{HandOver}
use Rattle.steps_rwlock_fair.specs.declared.hand_over.Taken.{Taken}
use Rattle.steps_rwlock_fair.specs.declared.hand_over.HandOverAt.{HandOverAt}
use Rattle.steps_rwlock_fair.specs.FairSteps.{call_act, call_next, call_owners, call_shares, lets_right_go}
use Rattle.steps_rwlock_fair.specs.FairDeeds.{call_deeds, call_role_next}
use Rattle.steps_rwlock_fair.specs.FairCalls.{HandsOverAt, CallStands, CallStandsNext, CallMayBeTold}
use Rattle.steps_rwlock_fair.specs.FairCalls.{IsInCall, CallMayHear, HasInHand, in_hand_of}

abbrev pub FollowsInCall : Rules → Admission → Site → ℕ → RwLockCallPlace → Option ℕ → Reply
    → Type 0
FollowsInCall r a s t c whom told =
    Follows r s t (call_deeds a c whom told) (call_role_next (call_next a c told))

abbrev pub after_call : Rules → Admission → Site → ℕ → RwLockCallPlace → Option ℕ → Reply → Site
after_call r a s t c whom told = after_all r (call_deeds a c whom told) s t

-- ---------------------------------------------------------------- steps on the word

-- each does to the lock what its deeds say
abbrev pub FairStepsFollow : Type 0
FairStepsFollow =
    (r : Rules) (a : Admission) (s : Site) (t l : ℕ) (c : RwLockCallPlace) (op : Op)
    → IsInCall r a s t c
    → standing t s.lock ≡ 0 → call_act l a c ≡ act.Word l op
    → FollowsInCall r a s t c None (reply.Value (code r s))

-- Each step leaves the word of the lock after its deeds.
abbrev pub FairStepsCode : Type 0
FairStepsCode =
    (r : Rules) (a : Admission) (s : Site) (t l : ℕ) (c : RwLockCallPlace) (op : Op)
    → IsInCall r a s t c
    → standing t s.lock ≡ 0 → call_act l a c ≡ act.Word l op
    → code r s < 2 ^ 64 → a.limit < 2 ^ 60 - 1 → HasLimit r s.lock
    → apply op (code r s) ≡ code r (after_call r a s t c None (reply.Value (code r s)))

-- ---------------------------------------------------------------- the step that hands over

-- the thread is there, and has in hand the threads that its place says
pub record StandsToHandOver (r : Rules) (a : Admission) (s : Site) (t : ℕ) (c : RwLockCallPlace)
    (whom : Option ℕ) : Type 0 where
  pub call : IsInCall r a s t c
  -- nobody has taken it
  pub free : s.lock.taken t ≡ None
  pub taken : Taken
  pub is : in_hand_of c ≡ Some taken
  pub in_hand : HasInHand s.lock t taken whom

-- a hand-over does to the lock what its deeds say
abbrev pub HandOversFollow : Type 0
HandOversFollow =
    (r : Rules) (a : Admission) (s : Site) (t l : ℕ) (c : RwLockCallPlace) (op : Op)
    (whom : Option ℕ) → StandsToHandOver r a s t c whom
    → call_act l a c ≡ act.HandOver l op → FollowsInCall r a s t c whom (reply.Value (code r s))

-- the word that it leaves is the word of the lock after it, where fewer are in hand than may share
abbrev pub HandOversCode : Type 0
HandOversCode =
    (r : Rules) (a : Admission) (s : Site) (t l : ℕ) (c : RwLockCallPlace) (op : Op)
    (whom : Option ℕ) (hands : StandsToHandOver r a s t c whom)
    → call_act l a c ≡ act.HandOver l op → hands.taken.sharers < a.limit
    → code r s < 2 ^ 64 → a.limit < 2 ^ 60 - 1 → HasLimit r s.lock
    → apply op (code r s) ≡ code r (after_call r a s t c whom (reply.Value (code r s)))

-- A hand-over keeps the limit.
abbrev pub HandOversKeepLimit : Type 0
HandOversKeepLimit =
    (r : Rules) (a : Admission) (s : Site) (t l : ℕ) (c : RwLockCallPlace) (op : Op)
    (whom : Option ℕ) (hands : StandsToHandOver r a s t c whom)
    → call_act l a c ≡ act.HandOver l op → hands.taken.sharers < a.limit → HasLimit r s.lock
    → HasLimit r (after_call r a s t c whom (reply.Value (code r s))).lock

-- the lock after it
abbrev pub lock_slow : Rules → Admission → Site → ℕ → RwLockCallPlace → Option ℕ → LockState
lock_slow r a s t c whom = (after_call r a s t c whom (reply.Value (code r s))).lock

-- ---------------------------------------------------------------- steps into a section, in it, and out of it

abbrev pub FairSectionsFollow : Type 0
FairSectionsFollow =
    (r : Rules) (a : Admission) (s : Site) (t : ℕ) (c : RwLockCallPlace) (whom : Option ℕ)
    (told : Reply)
    → IsInCall r a s t c → CallMayHear r a s t c whom told → FollowsInCall r a s t c whom told

-- ---------------------------------------------------------------- each thread that was handed the lock

-- where the lock was handed over, each in hand has what its place says from then on
abbrev pub HandOversGive : Type 0
HandOversGive =
    (r : Rules) (a : Admission) (s : Site) (t l u : ℕ) (c : RwLockCallPlace) (op : Op)
    (whom : Option ℕ) (x : Want) → StandsToHandOver r a s t c whom
    → call_act l a c ≡ act.HandOver l op → takes_effect op (code r s) ≡ true → IsTaken s.lock t u x
    → u < length s.lock.shared
    → HasClaim (lock_slow r a s t c whom) u
    (Some (claim_handed (readers (lock_slow r a s t c whom) == 0) x))

-- ---------------------------------------------------------------- calls

-- a call that stands where it may goes on where it may
abbrev pub FairCallsStand : Type 0
FairCallsStand =
    (a : Admission) (c : RwLockCallPlace) (told : Reply) → CallStands a c → CallMayBeTold a c told
    → CallStandsNext a (call_next a c told)

-- the begin of a call: where it may stand, nowhere in the machine, and with the right that it needs
pub record CallOpens (a : Admission) (c : RwLockCall) : Type 0 where
  pub stands : CallStands a (call_first c)
  pub purpose : (l : ℕ) → (call_profile a (call_first c)).purpose l ≡ rwlock_purpose l c
  pub opening : IsOpeningRow (call_profile a (call_first c))
  -- a thread with the right has what it claims
  pub has : (t : ℕ) (shared : List ℕ) (o : Owners) (main second : List Waiter)
      (taken : ℕ → Option TakenBy)
      → call_right c t o (slice_index shared t) ≡ true
      → HasClaim (lock_seen shared o main second taken) t opening.claims

abbrev pub CallsOpen : Type 0
CallsOpen = (a : Admission) (c : RwLockCall) → CallOpens a c

-- ---------------------------------------------------------------- a step's effect on a call

abbrev pub next_rows : Admission → Next RwLockCallPlace → Next Profile
next_rows a (next.At c) = next.At (call_profile a c)
next_rows a (next.End answer) = next.End answer

-- the row of the next place is what the step's case makes of the call, the call is made of that
-- case, and its answer is true
abbrev pub CallTells : Rules → Admission → Site → ℕ → ℕ → RwLockCallPlace → Option ℕ → Reply
    → Type 0
CallTells r a s t l c whom told =
    CallFollows r s.lock t l (call_profile a c) (call_deeds a c whom told)
    (next_rows a (call_next a c told))

-- each step on the word
abbrev pub FairStepsTell : Type 0
FairStepsTell =
    (r : Rules) (a : Admission) (s : Site) (t l : ℕ) (c : RwLockCallPlace) (op : Op)
    → IsInCall r a s t c
    → standing t s.lock ≡ 0 → call_act l a c ≡ act.Word l op
    → CallTells r a s t l c None (reply.Value (code r s))

-- the step that hands over
abbrev pub HandOversTell : Type 0
HandOversTell =
    (r : Rules) (a : Admission) (s : Site) (t l : ℕ) (c : RwLockCallPlace) (op : Op)
    (whom : Option ℕ) → StandsToHandOver r a s t c whom
    → call_act l a c ≡ act.HandOver l op → CallTells r a s t l c whom (reply.Value (code r s))

-- Each step into a section, in it, and out of it answers truly.
abbrev pub FairSectionsTell : Type 0
FairSectionsTell =
    (r : Rules) (a : Admission) (s : Site) (t l : ℕ) (c : RwLockCallPlace) (whom : Option ℕ)
    (told : Reply)
    → IsInCall r a s t c → CallMayHear r a s t c whom told → IsNotLate told
    → CallTells r a s t l c whom told

-- ---------------------------------------------------------------- effects on a thread asleep

abbrev pub CallBecomes : Admission → ℕ → RwLockCallPlace → Reply → (CallState → CallState) → Type 0
CallBecomes a l c told becomes =
    (c2 : RwLockCallPlace) (rights : ℕ → Rights) → call_next a c told ≡ next.At c2
    → call_by l (call_profile a c2) rights ≡ becomes (call_by l (call_profile a c) rights)

-- with what it is handed: a right, or a pending one
abbrev pub with_claim : Claim → ℕ → (ℕ → Rights) → ℕ → Rights
with_claim (Has x) l rights = one_more_at l x rights
with_claim (Pends falls_back) l rights =
    putting rights l (record (rights l) { pending = (rights l).pending + 1 })
with_claim c l rights = rights

-- a sleeper is handed what it wants, and tries no longer
abbrev pub CallIsHanded : Admission → ℕ → RwLockCallPlace → ℕ → Bool → Type 0
CallIsHanded a l c u alone =
    (c2 : RwLockCallPlace) (rights : ℕ → Rights) (x : Want) → (call_profile a c).wants ≡ Some x
    → call_next a c (reply.HandedBy u alone) ≡ next.At c2
    → call_by l (call_profile a c2) (with_claim (claim_handed alone x) l rights)
    ≡ record (call_by l (call_profile a c) rights) { retries = None }

-- nothing, where it is taken, or woken that was handed the lock; it tries again, where it is woken
-- that was taken; it is late, where its time is up; and it is handed the lock only of the main
-- queue, where it has nothing of it yet
pub record CallHears (a : Admission) (l : ℕ) (c : RwLockCallPlace) : Type 0 where
  pub taken : (u : ℕ) → CallBecomes a l c (reply.TakenBy u) (λ x. x)
  pub woken : (u : ℕ) → (call_profile a c).hand ≡ hand u false
      → CallBecomes a l c (reply.Woken note.Normal) (λ x. record x { retries = Some l })
  pub late : (call_profile a c).late_line ≢ None
      → CallBecomes a l c reply.Late (λ x. record x { late = true })
  pub given : (u : ℕ) (alone : Bool) → (call_profile a c).hand ≡ hand u false
      → (call_profile a c).role.claims ≡ None → CallIsHanded a l c u alone
  pub accepts : (u : ℕ) → (call_profile a c).hand ≡ hand u true
      → CallBecomes a l c (reply.Woken note.HandOff) (λ x. x)

abbrev pub FairSleepersHear : Type 0
FairSleepersHear = (a : Admission) (l : ℕ) (c : RwLockCallPlace) → CallStands a c → CallHears a l c

-- ---------------------------------------------------------------- looks, and owners

-- where a thread looks once more, its row is as it was, and its call stands where it may
abbrev pub FairLooksStand : Type 0
FairLooksStand =
    (a : Admission) (c d : RwLockCallPlace) → call_respin a c ≡ Some d
    → (call_profile a d ≡ call_profile a c) × (CallStands a c → CallStands a d)

-- each step on the word that hands nothing over leaves the owners and shares of the lock after its
-- deeds
abbrev pub FairOwnersFollow : Type 0
FairOwnersFollow =
    (r : Rules) (a : Admission) (s : Site) (t l : ℕ) (c : RwLockCallPlace) (op : Op)
    (shared : List ℕ) (o : Owners) (main second : List Waiter) (taken : ℕ → Option TakenBy)
    → IsInCall r a s t c → call_act l a c ≡ act.Word l op → a.limit < 2 ^ 60 - 1 → HasLimit r s.lock
    → s.lock ≡ lock_seen shared o main second taken
    → lock_seen (shares_then shared t (call_shares a c (code r s) (slice_index shared t)))
    (call_owners a c t (code r s) o) main second taken
    ≡ (after_call r a s t c None (reply.Value (code r s))).lock

-- A thread that gives a right up by a hand-over leaves the owners of the lock without it, before the others
-- have theirs.
abbrev pub GiversKeep : Type 0
GiversKeep =
    (a : Admission) (x : Access) (b : Bool) (to : HandOverAt) (t seen : ℕ) (shared : List ℕ)
    (o : Owners) (main second : List Waiter) (taken : ℕ → Option TakenBy)
    → HandsOverAt x to → lets_right_go to seen ≡ true
    → lock_seen shared (call_owners a (HandOver x b to) t seen o) main second taken
    ≡ without_owner t (wanted x) (lock_seen shared o main second taken)
