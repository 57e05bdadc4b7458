-- Each place of a call of one lock, by what befalls its thread there: one that tells others something hears
-- nothing, one that sleeps does so on, and a call goes on as it was where its thread is taken, and tries
-- again where it is woken.
use Rattle.lot_laws.proofs.Imports
use Imports.{ℕ, Bool, true, false, Option, Some, None, if◌then◌else◌, ◌==◌, ◌≡◌, not, ◌+◌, ◌-◌, ◌*◌, refl, sym}
use Imports.{ap, ◌∙◌, One, Note, Access, has_aside, Rights, Bumps, CallState, Hand, hand, Act, Word, Enter}
use Imports.{Sleep, Next, At, Reply, TakenBy, MovedTo, HandedBy, Woken, MutexPlace, is_locked, mutex_act}
use Imports.{Admission, RwLockPlace, RwLockAt, RwLockPurpose, Decision, WakeAt, rwlock_profile, access_of}
use Imports.{act_at, decided, decided_act, plus, rwlock_act, rwlock_next, wake_next, wanted, taken_goes}
use Imports.{woken_goes, RwLockCallPlace, HandOverAt, bump_former, bump_released, bumping, bump_next, call_act}
use Imports.{given, handed_by, has_room, hand_over_act, plain_next, unless_given, Course, OncePlace, course_act}
use Imports.{course_of, once_act, SemaphorePlace, is_free, semaphore_act, Place, Mutex, RwLock, Once, Semaphore}
use Imports.{act_of, next_place, profile, rwlock_goes, Befalls, tells, call_state, sleeps}
use Rattle.core_base.specs.declared.keys.Line.{Line}
use Rattle.core_base.specs.declared.notes.Note.TheVariants as note
use Rattle.core_base.specs.declared.ops.Op.TheVariants as op
use Rattle.spec_locks.specs.declared.calls.Access.TheVariants as access
use Rattle.steps_base.specs.declared.acts.Act.TheVariants as act
use Rattle.steps_mutex.specs.declared.lock.LockAt.TheVariants as lock
use Rattle.steps_mutex.specs.declared.unlock.UnlockAt.TheVariants as unlock
use Rattle.steps_mutex.specs.declared.hand_off.HandOffAt.TheVariants as hand_off
use Rattle.steps_mutex.specs.declared.places.MutexPlace.TheVariants as mutex
use Rattle.steps_rwlock.specs.declared.places.RwLockAt.TheVariants as at
use Rattle.steps_rwlock.specs.declared.purposes.RwLockPurpose.TheVariants as purpose
use Rattle.steps_rwlock.specs.declared.enter.Decision.TheVariants as decisions
use Rattle.steps_rwlock.specs.declared.park.ParkAt.TheVariants as parking
use Rattle.steps_rwlock.specs.declared.release.WakeAt.TheVariants as waking
use Rattle.steps_rwlock_fair.specs.declared.places.RwLockCallPlace.TheVariants as fair
use Rattle.steps_rwlock_fair.specs.declared.hand_over.HandOverAt.TheVariants as handing
use Rattle.steps_rwlock_fair.specs.declared.handed.HandedAt.TheVariants as handed
use Rattle.steps_once.specs.declared.look.LookAt.TheVariants as look
use Rattle.steps_once.specs.declared.look.Course.TheVariants as course
use Rattle.steps_once.specs.declared.give_up.GiveUpAt.TheVariants as give_up
use Rattle.steps_once.specs.declared.run.RunAt.TheVariants as run
use Rattle.steps_once.specs.declared.places.OncePlace.TheVariants as once
use Rattle.steps_semaphore.specs.declared.acquire.AcquireAt.TheVariants as acquire
use Rattle.steps_semaphore.specs.declared.tries.TryAt.TheVariants as tries
use Rattle.steps_semaphore.specs.declared.release.ReleaseAt.TheVariants as release
use Rattle.steps_semaphore.specs.declared.places.SemaphorePlace.TheVariants as semaphore
use Rattle.lot_laws.specs.Refinement.{call_by}
use Rattle.lot_laws.proofs.calls.PlainCalls.{plain_goes}

-- a reply that befalls a thread, but for a wake
abbrev pub Quiet : Reply → Type 0
Quiet (TakenBy t) = Unit {0}
Quiet (MovedTo key) = Unit {0}
Quiet (HandedBy t alone) = Unit {0}
Quiet r = ⊥

abbrev pub TriesAgain : ℕ → Place → Type 0
TriesAgain l p = (t : ℕ) → (profile p).hand ≡ hand t false → (rights : ℕ → Rights)
    → call_state (next_place p (Woken note.Normal)) rights ≡ record (call_state p rights) { retries = Some l }

abbrev pub GoesOnTaken : Place → Type 0
GoesOnTaken p = (by : ℕ) (rights : ℕ → Rights) → call_state (next_place p (TakenBy by)) rights
    ≡ call_state p rights

-- at a place where its thread does this next
pub record Hears (l : ℕ) (p : Place) (a : Act) : Type 0 where
  -- the thread stays where it stands, if it tells others something
  pub deaf : tells a ≡ true → (r : Reply) → Befalls r → next_place p r ≡ p
  -- the thread sleeps on, if it sleeps
  pub sleeps_on : a ≡ Sleep → (r : Reply) → Quiet r → act_of (next_place p r) ≡ Sleep
  -- the thread's call goes on as it is where it is taken
  pub taken : GoesOnTaken p
  -- A thread that is woken out of a hand tries the lock again.
  pub woken : TriesAgain l p

silent_so : (a : Act) → tells a ≡ false → tells a ≡ true → ⊥
silent_so a e loud = let both : false ≡ true = sym e ∙ loud in cc

awake_so : (a : Act) → sleeps a ≡ false → a ≡ Sleep → ⊥
awake_so a e asleep = let both : false ≡ true = sym e ∙ ap sleeps asleep in cc

unheld : (l : ℕ) (p : Place) → (profile p).hand ≡ None → TriesAgain l p
unheld l p none t h rights = let both : ◌≡◌ {A = Option Hand} None (hand t false) = sym none ∙ h in absurd cc

-- nothing leads from there but a reply to its act
deaf : {l : ℕ} {p : Place} {a : Act} → sleeps a ≡ false → (profile p).hand ≡ None
    → ((t : ℕ) → next_place p (TakenBy t) ≡ p) → ((key : ℕ) → next_place p (MovedTo key) ≡ p)
    → ((t : ℕ) (alone : Bool) → next_place p (HandedBy t alone) ≡ p)
    → ((n : Note) → next_place p (Woken n) ≡ p) → Hears l p a
deaf {l} {p} {a} awake none taken moved handed woken = record {
  deaf = λ loud. stays;
  sleeps_on = λ h. absurd (awake_so a awake h);
  taken = λ by rights. ap (λ q. call_state q rights) (taken by);
  woken = unheld l p none;
}
  where
    stays : (r : Reply) → Befalls r → next_place p r ≡ p
    stays (TakenBy t) h = taken t
    stays (MovedTo key) h = moved key
    stays (HandedBy t alone) h = handed t alone
    stays (Woken n) h = woken n
    stays r h = absurd h

-- awake, and on its own
alone : {l : ℕ} {p : Place} {a : Act} → tells a ≡ false → sleeps a ≡ false → (profile p).hand ≡ None
    → GoesOnTaken p → Hears l p a
alone {l} {p} {a} silent awake none taken = record {
  deaf = λ loud. absurd (silent_so a silent loud);
  sleeps_on = λ h. absurd (awake_so a awake h);
  taken = taken;
  woken = unheld l p none;
}

-- asleep
asleep : {l : ℕ} {p : Place} → ((t : ℕ) → act_of (next_place p (TakenBy t)) ≡ Sleep)
    → ((key : ℕ) → act_of (next_place p (MovedTo key)) ≡ Sleep)
    → ((t : ℕ) (alone : Bool) → act_of (next_place p (HandedBy t alone)) ≡ Sleep) → GoesOnTaken p
    → TriesAgain l p → Hears l p Sleep
asleep {l} {p} taken moved handed goes_on woken = record {
  deaf = λ loud. absurd cc;
  sleeps_on = λ h. sleeps_on;
  taken = goes_on;
  woken = woken;
}
  where
    sleeps_on : (r : Reply) → Quiet r → act_of (next_place p r) ≡ Sleep
    sleeps_on (TakenBy t) h = taken t
    sleeps_on (MovedTo key) h = moved key
    sleeps_on (HandedBy t alone) h = handed t alone
    sleeps_on r h = absurd h

-- ---------------------------------------------------------------- a mutex

pub mutex_hears : (l : ℕ) (at : MutexPlace) → Hears l (Mutex l at) (mutex_act l at)
mutex_hears l (mutex.Lock e again lock.Asleep) = asleep (λ t. refl) (λ key. refl) (λ t alone. refl)
    (λ by r. refl) (λ t h r. absurd cc)
mutex_hears l (mutex.Lock e again (lock.Taken by)) = asleep (λ t. refl) (λ key. refl) (λ t alone. refl)
    (λ by r. refl) (λ t h r. refl)
mutex_hears l (mutex.Lock e again (lock.Handed by)) = asleep (λ t. refl) (λ key. refl) (λ t alone. refl)
    (λ by r. refl) (λ t h r. absurd cc)
mutex_hears l (mutex.Lock e again (lock.Decide seen)) = by_word (is_locked seen) (seen == 1)
  where
    by_word : (a b : Bool) → Hears l (Mutex l (mutex.Lock e again (lock.Decide seen)))
        (if not a then Word l (op.Exchange seen (seen + 1)) else if b then Word l
        (op.Exchange 1 3) else Enter (One (2 * l)))
    by_word false b = alone refl refl refl (λ by r. refl)
    by_word true true = alone refl refl refl (λ by r. refl)
    by_word true false = alone refl refl refl (λ by r. refl)
mutex_hears l (mutex.Lock e again at) = alone refl refl refl (λ by r. refl)
mutex_hears l (mutex.HandOff bumps (hand_off.Store true none_left)) = deaf refl refl (λ t. refl) (λ key. refl)
    (λ t alone. refl) (λ n. refl)
mutex_hears l (mutex.HandOff bumps (hand_off.Store false none_left)) = deaf refl refl (λ t. refl)
    (λ key. refl) (λ t alone. refl) (λ n. refl)
mutex_hears l (mutex.HandOff bumps at) = deaf refl refl (λ t. refl) (λ key. refl) (λ t alone. refl)
    (λ n. refl)
mutex_hears l (mutex.Unlock unlock.Take) = deaf refl refl (λ t. refl) (λ key. refl) (λ t alone. refl)
    (λ n. refl)
mutex_hears l (mutex.Unlock at) = deaf refl refl (λ t. refl) (λ key. refl) (λ t alone. refl) (λ n. refl)
mutex_hears l mutex.TryLock = deaf refl refl (λ t. refl) (λ key. refl) (λ t alone. refl) (λ n. refl)
mutex_hears l mutex.UnlockFair = deaf refl refl (λ t. refl) (λ key. refl) (λ t alone. refl) (λ n. refl)
mutex_hears l mutex.Bump = deaf refl refl (λ t. refl) (λ key. refl) (λ t alone. refl) (λ n. refl)

-- ---------------------------------------------------------------- a `Once`

pub once_hears : (l : ℕ) (at : OncePlace) → Hears l (Once l at) (once_act l at)
once_hears l (once.Look c again look.Asleep) = asleep (λ t. refl) (λ key. refl) (λ t alone. refl)
    (λ by r. refl) (λ t h r. absurd cc)
once_hears l (once.Look c again (look.Taken by)) = asleep (λ t. refl) (λ key. refl) (λ t alone. refl)
    (λ by r. refl) (λ t h r. refl)
once_hears l (once.Look c again (look.Decide seen)) = by_course (course_of c seen)
  where
    by_course : (k : Course) → Hears l (Once l (once.Look c again (look.Decide seen))) (course_act l seen k)
    by_course course.Parks = alone refl refl refl (λ by r. refl)
    by_course k = alone refl refl refl (λ by r. refl)
once_hears l (once.Look c again at) = alone refl refl refl (λ by r. refl)
once_hears l (once.Run forced (run.Take succeeded)) = deaf refl refl (λ t. refl) (λ key. refl)
    (λ t alone. refl) (λ n. refl)
once_hears l (once.Run forced at) = deaf refl refl (λ t. refl) (λ key. refl) (λ t alone. refl) (λ n. refl)
once_hears l (once.GiveUp again give_up.Remove) = deaf refl refl (λ t. refl) (λ key. refl) (λ t alone. refl)
    (λ n. refl)
once_hears l (once.GiveUp again at) = deaf refl refl (λ t. refl) (λ key. refl) (λ t alone. refl) (λ n. refl)

-- ---------------------------------------------------------------- a semaphore

pub semaphore_hears : (l : ℕ) (at : SemaphorePlace) → Hears l (Semaphore l at) (semaphore_act l at)
semaphore_hears l (semaphore.Acquire timed again acquire.Asleep) = asleep (λ t. refl) (λ key. refl)
    (λ t alone. refl) (λ by r. refl) (λ t h r. absurd cc)
semaphore_hears l (semaphore.Acquire timed again (acquire.Taken by)) = asleep (λ t. refl) (λ key. refl)
    (λ t alone. refl) (λ by r. refl) (λ t h r. refl)
semaphore_hears l (semaphore.Acquire timed again (acquire.Decide seen)) = by_word (is_free seen) (seen == 0)
  where
    by_word : (free empty : Bool)
        → Hears l (Semaphore l (semaphore.Acquire timed again (acquire.Decide seen)))
        (if free then Word l (op.Exchange seen (seen - 2)) else if empty then Word l
        (op.Exchange 0 1) else Enter (One (2 * l)))
    by_word true empty = alone refl refl refl (λ by r. refl)
    by_word false true = alone refl refl refl (λ by r. refl)
    by_word false false = alone refl refl refl (λ by r. refl)
semaphore_hears l (semaphore.Acquire timed again at) = alone refl refl refl (λ by r. refl)
semaphore_hears l (semaphore.Try (tries.Decide seen)) = by_word (is_free seen)
  where
    by_word : (free : Bool) → Hears l (Semaphore l (semaphore.Try (tries.Decide seen)))
        (if free then Word l (op.Exchange seen (seen - 2)) else Word l op.Load)
    by_word true = deaf refl refl (λ t. refl) (λ key. refl) (λ t alone. refl) (λ n. refl)
    by_word false = deaf refl refl (λ t. refl) (λ key. refl) (λ t alone. refl) (λ n. refl)
semaphore_hears l (semaphore.Try tries.Load) = deaf refl refl (λ t. refl) (λ key. refl) (λ t alone. refl)
    (λ n. refl)
semaphore_hears l (semaphore.Release release.Take) = deaf refl refl (λ t. refl) (λ key. refl)
    (λ t alone. refl) (λ n. refl)
semaphore_hears l (semaphore.Release at) = deaf refl refl (λ t. refl) (λ key. refl) (λ t alone. refl)
    (λ n. refl)

-- ---------------------------------------------------------------- a reader-writer lock

abbrev place : RwLockPurpose → Bool → RwLockAt → RwLockPlace
place q retries to = record { purpose = q; retries = retries; at = to }

-- a thread that wakes others is handed no lock
none_given : (b : Bool) (q : RwLockPurpose) (again : Bool) (m : Line) (to : WakeAt) (r : Reply) → Befalls r
    → given b (record {
      purpose = q;
      retries = again;
      at = at.Wake m to;
    }) r ≡ None
none_given b (purpose.Enter x how) again m to (HandedBy u alone) h = refl
none_given b q again m to (HandedBy u alone) h = refl
none_given b (purpose.Enter x how) again m to (Woken note.HandOff) h = refl
none_given b q again m to (Woken note.HandOff) h = refl
none_given b q again m to (Woken note.Normal) h = refl
none_given b q again m to (TakenBy u) h = refl
none_given b q again m to (MovedTo key) h = refl
none_given b q again m to r h = absurd h

-- the thread sleeps on in a call of the lock
abbrev Stays : ℕ → Admission → RwLockPlace → Reply → Type 0
Stays l a p r = (q : RwLockPlace) × ((rwlock_next a p r ≡ At q) × (rwlock_act l a q ≡ Sleep))

-- the thread stays where it stands, and is handed nothing
abbrev IsDeaf : Admission → RwLockPlace → Reply → Type 0
IsDeaf a p r = (rwlock_next a p r ≡ At p) × ((bumps : Bool) → given bumps p r ≡ None)

-- at a place of a plain call, or of a bump
record HearsAt (l : ℕ) (a : Admission) (p : RwLockPlace) (x : Act) : Type 0 where
  pub deaf : tells x ≡ true → (r : Reply) → Befalls r → IsDeaf a p r
  pub sleeps_on : x ≡ Sleep → (r : Reply) → Quiet r → Stays l a p r

alone_at : {l : ℕ} {a : Admission} {p : RwLockPlace} {x : Act} → tells x ≡ false → sleeps x ≡ false
    → HearsAt l a p x
alone_at {l} {a} {p} {x} silent awake = record {
  deaf = λ loud. absurd (silent_so x silent loud);
  sleeps_on = λ h. absurd (awake_so x awake h);
}

asleep_at : {l : ℕ} {a : Admission} {p : RwLockPlace} → ((t : ℕ) → Stays l a p (TakenBy t))
    → ((key : ℕ) → Stays l a p (MovedTo key))
    → ((t : ℕ) (alone : Bool) → Stays l a p (HandedBy t alone)) → HearsAt l a p Sleep
asleep_at {l} {a} {p} taken moved handed = record {
  deaf = λ loud. absurd cc;
  sleeps_on = λ h. sleeps_on;
}
  where
    sleeps_on : (r : Reply) → Quiet r → Stays l a p r
    sleeps_on (TakenBy t) h = taken t
    sleeps_on (MovedTo key) h = moved key
    sleeps_on (HandedBy t alone) h = handed t alone
    sleeps_on r h = absurd h

wakes_at : {l : ℕ} {a : Admission} {x : Act} (q : RwLockPurpose) (again : Bool) (m : Line) (to : WakeAt)
    → sleeps x ≡ false
    → ((t : ℕ) → wake_next (place q again (at.Wake m to)) m to (TakenBy t)
    ≡ At (place q again (at.Wake m to)))
    → ((key : ℕ) → wake_next (place q again (at.Wake m to)) m to (MovedTo key)
    ≡ At (place q again (at.Wake m to)))
    → ((t : ℕ) (alone : Bool) → wake_next (place q again (at.Wake m to)) m to (HandedBy t alone)
    ≡ At (place q again (at.Wake m to)))
    → ((n : Note) → wake_next (place q again (at.Wake m to)) m to (Woken n)
    ≡ At (place q again (at.Wake m to)))
    → HearsAt l a (place q again (at.Wake m to)) x
wakes_at {l} {a} {x} q again m to awake taken moved handed woken = record {
  deaf = λ loud r h. (stays r h, λ bumps. none_given bumps q again m to r h);
  sleeps_on = λ h. absurd (awake_so x awake h);
}
  where
    stays : (r : Reply) → Befalls r → wake_next (place q again (at.Wake m to)) m to r
        ≡ At (place q again (at.Wake m to))
    stays (TakenBy t) h = taken t
    stays (MovedTo key) h = moved key
    stays (HandedBy t alone) h = handed t alone
    stays (Woken n) h = woken n
    stays r h = absurd h

rwlock_hears : (l : ℕ) (a : Admission) (q : RwLockPurpose) (again : Bool) (to : RwLockAt)
    → HearsAt l a (place q again to) (act_at l a (place q again to) to)
rwlock_hears l a q again (at.Decide seen) = by_decision (decided a (place q again (at.Decide seen)) seen)
  where
    by_decision : (d : Decision) → HearsAt l a (place q again (at.Decide seen)) (decided_act l q seen d)
    by_decision decisions.Park = alone_at refl refl
    by_decision d = alone_at refl refl
rwlock_hears l a q again (at.Count seen) = by_aside (has_aside seen)
  where
    by_aside : (b : Bool) → HearsAt l a (place q again (at.Count seen)) (if b then Enter (One (2 * l + 1))
        else Word l (op.Exchange seen (plus seen 2)))
    by_aside true = alone_at refl refl
    by_aside false = alone_at refl refl
rwlock_hears l a q again (at.Park parking.Asleep) = asleep_at (λ t. (_, (refl, refl)))
    (λ key. (_, (refl, refl))) (λ t alone. (_, (refl, refl)))
rwlock_hears l a q again (at.Park (parking.Taken by)) = asleep_at (λ t. (_, (refl, refl)))
    (λ key. (_, (refl, refl))) (λ t alone. (_, (refl, refl)))
rwlock_hears l a q again (at.Park to) = alone_at refl refl
rwlock_hears l a q again (at.Aside parking.Asleep) = asleep_at (λ t. (_, (refl, refl)))
    (λ key. (_, (refl, refl))) (λ t alone. (_, (refl, refl)))
rwlock_hears l a q again (at.Aside (parking.Taken by)) =
    asleep_at (λ t. (_, (refl, refl))) (λ key. (_, (refl, refl))) (λ t alone. (_, (refl, refl)))
rwlock_hears l a q again (at.Aside to) = alone_at refl refl
rwlock_hears l a q again (at.Wake m waking.Take) = wakes_at q again m waking.Take refl (λ t. refl)
    (λ key. refl) (λ t alone. refl) (λ n. refl)
rwlock_hears l a q again (at.Wake m to) = wakes_at q again m to refl (λ t. refl) (λ key. refl)
    (λ t alone. refl) (λ n. refl)
rwlock_hears l a q again to = alone_at refl refl

abbrev CallStays : ℕ → Admission → Next RwLockCallPlace → Type 0
CallStays l a n = (c : RwLockCallPlace) × ((n ≡ At c) × (call_act l a c ≡ Sleep))

-- a thread that is handed the lock sleeps on until it is told so
abbrev SleepsIfGiven : ℕ → Admission → Option RwLockCallPlace → Type 0
SleepsIfGiven l a None = Unit {0}
SleepsIfGiven l a (Some c) = call_act l a c ≡ Sleep

handed_sleeps : (l : ℕ) (a : Admission) (b : Bool) (q : RwLockPurpose) (to : RwLockAt) (t : ℕ) (alone : Bool)
    → SleepsIfGiven l a (handed_by b q to t alone)
handed_sleeps l a b (purpose.Enter x how) (at.Park (parking.Taken u)) t alone = refl
handed_sleeps l a b (purpose.Enter x how) (at.Park to) t alone = tt
handed_sleeps l a b (purpose.Enter x how) to t alone = tt
handed_sleeps l a b q to t alone = tt

given_sleeps : (l : ℕ) (a : Admission) (b : Bool) (q : RwLockPurpose) (retries : Bool) (to : RwLockAt)
    (r : Reply) → Quiet r
    → SleepsIfGiven l a (given b (place q retries to) r)
given_sleeps l a b q retries to (TakenBy t) quiet = tt
given_sleeps l a b q retries to (MovedTo key) quiet = tt
given_sleeps l a b q retries to (HandedBy t alone) quiet = handed_sleeps l a b q to t alone
given_sleeps l a b q retries to r quiet = absurd quiet

unless_sleeps : (l : ℕ) (a : Admission) (o : Option RwLockCallPlace) (n : Next RwLockCallPlace)
    → SleepsIfGiven l a o → CallStays l a n
    → CallStays l a (unless_given o n)
unless_sleeps l a None n given stays = stays
unless_sleeps l a (Some c) n given stays = (c, (refl, given))

-- tells what a bump makes of a call by its purpose
abbrev in_bump : RwLockPurpose → ℕ → CallState → CallState
in_bump q l c = record c {
  purpose = Some (Bumps l (wanted (access_of q)));
  released = bump_released q c.released;
  former = bump_former q l c.former;
}

hand_over_hears : (l : ℕ) (a : Admission) (x : Access) (b : Bool) (to : HandOverAt)
    → Hears l (RwLock l a (fair.HandOver x b to)) (hand_over_act l a x to)
hand_over_hears l a x b (handing.Exchange k seen) = by_room (has_room a.limit k seen) _ _
  where
    by_room : (c : Bool) (y z : ℕ) → Hears l (RwLock l a (fair.HandOver x b (handing.Exchange k seen)))
        (if c then act.HandOver l (op.Exchange seen y) else Word l
        (op.Exchange seen z))
    by_room true y z = deaf refl refl (λ t. refl) (λ key. refl) (λ t alone. refl) (λ n. refl)
    by_room false y z = deaf refl refl (λ t. refl) (λ key. refl) (λ t alone. refl) (λ n. refl)
hand_over_hears l a x b to = deaf refl refl (λ t. refl) (λ key. refl) (λ t alone. refl) (λ n. refl)

slept : (l : ℕ) (a : Admission) (n : Next RwLockCallPlace) → CallStays l a n → act_of (rwlock_goes l a n)
    ≡ Sleep
slept l a n stays = ap (λ x. act_of (rwlock_goes l a x)) stays.1.0 ∙ stays.1.1

pub call_hears : (l : ℕ) (a : Admission) (c : RwLockCallPlace) → Hears l (RwLock l a c) (call_act l a c)
call_hears l a (fair.Plain p) = record {
  deaf = λ loud r h. let d = (rwlock_hears l a p.purpose p.retries p.at).deaf loud r h
      in λ i. rwlock_goes l a (unless_given (d.1 false i) (plain_next (d.0 i)));
  sleeps_on = λ h r quiet. let stays = (rwlock_hears l a p.purpose p.retries p.at).sleeps_on h r quiet in
      slept l a _ (unless_sleeps l a (given false p r) (plain_next (rwlock_next a p r))
      (given_sleeps l a false p.purpose p.retries p.at r quiet) (
        fair.Plain stays.0,
        (ap plain_next stays.1.0, stays.1.1),
      ));
  taken = λ by r. let goes = taken_goes a l p by in ap (λ n. call_state (plain_goes l a n) r) goes.1
      ∙ goes.2 r;
  woken = λ t held r. let goes = woken_goes a l p t held in ap (λ n. call_state (plain_goes l a n) r) goes.1
      ∙ goes.2 r;
}
call_hears l a (fair.Bump p) = record {
  deaf = λ loud r h. let d = (rwlock_hears l a p.purpose p.retries p.at).deaf loud r h
      in λ i. rwlock_goes l a (unless_given (d.1 true i) (bump_next p.purpose (d.0 i)));
  sleeps_on = λ h r quiet. let stays = (rwlock_hears l a p.purpose p.retries p.at).sleeps_on h r quiet in
      slept l a _ (unless_sleeps l a (given true p r) (bump_next p.purpose (rwlock_next a p r))
      (given_sleeps l a true p.purpose p.retries p.at r quiet) (
        fair.Bump stays.0,
        (ap (bump_next p.purpose) stays.1.0, stays.1.1),
      ));
  taken = λ by r. let goes = taken_goes a l p by in
      ap (λ n. call_state (rwlock_goes l a (bump_next p.purpose n)) r) goes.1
      ∙ ap (λ q. call_by l (bumping q (rwlock_profile a goes.0)) r) goes.3
      ∙ ap (in_bump p.purpose l) (goes.2 r);
  woken = λ t held r. let goes = woken_goes a l p t held in
      ap (λ n. call_state (rwlock_goes l a (bump_next p.purpose n)) r) goes.1
      ∙ ap (λ q. call_by l (bumping q (rwlock_profile a goes.0)) r) goes.3
      ∙ ap (in_bump p.purpose l) (goes.2 r);
}
call_hears l a (fair.PeekQueue x) = deaf refl refl (λ t. refl) (λ key. refl) (λ t alone. refl) (λ n. refl)
call_hears l a (fair.HandOver x b to) = hand_over_hears l a x b to
call_hears l a (fair.Handed x how b (handed.Asleep by lone)) = asleep (λ t. refl) (λ key. refl)
    (λ t alone. refl) (λ by r. refl) (λ t h r. absurd cc)
call_hears l a (fair.Handed access.Exclusive how b handed.Accept) = alone refl refl refl (λ by r. refl)
call_hears l a (fair.Handed x how b handed.Accept) = alone refl refl refl (λ by r. refl)
