-- The locks of a world, with what each thread does about each.
use Rattle.std.specs.Prelude.{ℕ, Bool, true, false, Option, Some, None, ◌≡◌, ◌≢◌, ◌<◌, ◌≤◌, ◌-◌, ◌^◌, ◌↔◌}
use Rattle.std.specs.Prelude.{List, [], ◌∷◌, length}
use Rattle.core_base.specs.declared.wants.Waiter.{Waiter}
pub use Rattle.core_base.specs.Keys.{key_of}
use Rattle.core_base.specs.Lines.{times}
use Rattle.lot_steps.specs.declared.places.Place.{Place}
use Rattle.lot_steps.specs.declared.places.Place.TheVariants.{Idle, Mutex as OfMutex, RwLock as OfRwLock}
use Rattle.lot_steps.specs.declared.places.Place.TheVariants.{Once as OfOnce, Condvar as OfCondvar}
use Rattle.lot_steps.specs.declared.places.Place.TheVariants.{Semaphore as OfSemaphore}
use Rattle.core_base.specs.declared.wants.Want.{Want}
use Rattle.spec_locks.specs.Locks.{Rules, Mutex as OneOwner, Once as OnceSort, Condvar as CondvarSort}
use Rattle.spec_locks.specs.Locks.{Semaphore as SemaphoreSort}
use Rattle.spec_locks.specs.Sites.{Line, Main, Second, Site, IsSite, has_readers, after_deed, Needed}
use Rattle.spec_locks.specs.Codes.{code, parked_in, aside_in, HasLimit}
use Rattle.spec_locks.specs.Permits.{HasPermits}
use Rattle.spec_locks.specs.Purposes.{rules_of}
use Rattle.lot_machine.specs.Machine.{State, held, place_at, word_at, shares_at, sharers_in_hand}
use Rattle.lot_machine.specs.Machine.{successor_from, want_of_successor, wants_more_in_hand, filled_at}
use Rattle.lot_machine.specs.Machine.{kind_at, queue_at, section_at}
use Rattle.lot_machine.specs.Fits.{IsWellFormed}
use Rattle.spec_locks.specs.Bypass.{AllReleaseFairly}
use Rattle.lot_laws.specs.Refinement.{RunsClosure, lock_state, locks_of}
use Rattle.spec_locks.specs.Onces.{InProgress}
use Rattle.spec_locks.specs.Condvars.{CondvarSite, Inside, IsCondvar, NothingToDo, CondvarPhase}
use Rattle.lot_steps.specs.Steps.{profile_at}
use Rattle.spec_locks.specs.declared.kinds.Kind.{Kind}
use Rattle.spec_locks.specs.declared.kinds.Kind.TheVariants as kind
use Rattle.spec_locks.specs.Kinds.{is_plain_mutex}
use Rattle.steps_rwlock.specs.declared.places.Admission.{Admission}
use Rattle.steps_rwlock.specs.RwLockDeeds.{Admits}
use Rattle.steps_rwlock_fair.specs.declared.places.RwLockCallPlace.{RwLockCallPlace}
use Rattle.steps_rwlock_fair.specs.declared.hand_over.Taken.{Taken as Counted}
use Rattle.steps_rwlock_fair.specs.FairCalls.{CallStands, in_hand_of}
use Rattle.steps_condvar.specs.declared.places.CondvarPlace.{CondvarPlace}
use Rattle.steps_condvar.specs.CondvarSteps.{mutex_beside}
use Rattle.steps_condvar.specs.CondvarCalls.{IsReached}
use Rattle.steps_semaphore.specs.declared.places.SemaphorePlace.{SemaphorePlace}
use Rattle.steps_semaphore.specs.SemaphoreProfiles.{semaphore_profile}
use Rattle.lot_laws.specs.ThreadDeeds.{Act}
use Rattle.lot_laws.specs.Locations.{Hand, Location, hand, location_at, role_on}

abbrev pub rules_in : State → ℕ → Rules
rules_in w l = rules_of (kind_at w l)

abbrev pub site_of : State → ℕ → Site
site_of w l = record {
  lock = lock_state w l;
  parked = parked_in (rules_in w l).sort (word_at w l);
  aside_parked = aside_in (rules_in w l).sort (word_at w l);
  filled = filled_at w l;
  role = λ u. role_on (place_at w u) l;
}

abbrev pub after_acts : Rules → List Act → Site → Site
after_acts r [] s = s
after_acts r (a ∷ more) s = after_acts r more (after_deed r a.deed s a.by)

-- each deed may be done where it is
abbrev pub ActsNeeded : Rules → List Act → Site → Type 0
ActsNeeded r [] s = Unit {0}
ActsNeeded r (a ∷ more) s = Needed r a.deed s a.by × ActsNeeded r more (after_deed r a.deed s a.by)

-- each of them is of a thread of the world
abbrev pub AllBy : ℕ → List Act → Type 0
AllBy threads [] = Unit {0}
AllBy threads (a ∷ more) = (a.by < threads) × AllBy threads more

-- a number of readers that a word can count, and that all threads may be
abbrev pub LimitHasRoom : ℕ → Rules → Type 0
LimitHasRoom threads r = (1 ≤ r.limit) × (r.limit < 2 ^ 60 - 1) × (threads ≤ r.limit)

-- each lock is a site, and its word says so
pub record AreSites (w : State) : Type 0 where
  pub site : (l : ℕ) → IsSite (rules_in w l) (site_of w l)
  pub word : (l : ℕ) → word_at w l ≡ code (rules_in w l) (site_of w l)
  -- a lock that nobody shares is never filled
  pub unfilled : (l : ℕ) → has_readers (rules_in w l).sort ≡ false → filled_at w l ≡ false
  -- as many readers as the limit lets in, or one more
  pub limits : (l : ℕ) → has_readers (rules_in w l).sort ≡ true
      → LimitHasRoom (length w.places) (rules_in w l) × HasLimit (rules_in w l) (lock_state w l)
  -- while somebody waits for a permit, those that hold one and those that look after the line are no
  -- fewer than the permits, which a word can count
  pub permits : (l : ℕ) → (rules_in w l).sort ≡ SemaphoreSort
      → HasPermits (rules_in w l) (site_of w l) × ((rules_in w l).limit ≤ 2 ^ 62)

-- ------------------------------------------------------- the machine's invariants, beside those of its sites

-- how often a thread stands in a line
abbrev pub stood_in : Option Line → Line → ℕ
stood_in (Some Main) Main = 1
stood_in (Some Second) Second = 1
stood_in line m = 0

-- how each thread stands at each lock
abbrev pub locations_of : (ℕ → Place) → ℕ → ℕ → Location
locations_of places t l = location_at (places t) l

-- a section is held by the thread inside it
abbrev pub Sections : (ℕ → ℕ → Location) → (ℕ → Option ℕ) → Type 0
Sections at section = (t l : ℕ) (m : Line) → (at t l).inside ≡ Some m
    ↔ section (key_of l m) ≡ Some t

-- a thread stands in the line that its place says, and once
abbrev pub Lines : (ℕ → ℕ → Location) → (ℕ → List Waiter) → Type 0
Lines at queue = (t l : ℕ) (m : Line) → times t (queue (key_of l m)) ≡ stood_in (at t l).stands m

-- each that stands in the line does so under its key, and wants what its place says
abbrev pub AreWaiting : (ℕ → ℕ → Location) → ℕ → Line → List Waiter → Type 0
AreWaiting at l m [] = Unit {0}
AreWaiting at l m (x ∷ q) =
    ((x.key ≡ key_of l m) × ((at x.thread l).waits ≡ Some x.want)) × AreWaiting at l m q

abbrev pub AllAreWaiting : (ℕ → ℕ → Location) → (ℕ → List Waiter) → Type 0
AllAreWaiting at queue = (l : ℕ) (m : Line) → AreWaiting at l m (queue (key_of l m))

-- the threads that a thread has in hand
pub record HandsBy (one : ℕ → Type 0) (at : ℕ → ℕ → Location) : Type 0 where
  -- a thread with somebody in hand, by its place, has one
  pub carried : (t l : ℕ) (b : Bool) → (at t l).has_taken ≡ Some b
      → (u : ℕ) × ((at u l).hand ≡ hand t b)
  -- A lock that takes one at a time has no second thread in hand.
  pub alone : (t l u v : ℕ) (b c : Bool) → one l → (at u l).hand ≡ hand t b
      → (at v l).hand ≡ hand t c → v ≡ u
  -- a thread in the hand of another is so by that one's place
  pub taken : (t u l : ℕ) (b : Bool) → (at u l).hand ≡ hand t b → (at t l).has_taken ≡ Some b

abbrev pub carried_at : Place → ℕ → Option Bool
carried_at p l = (location_at p l).has_taken

abbrev pub hand_at : Place → ℕ → Option Hand
hand_at p l = (location_at p l).hand

abbrev pub Hands : (ℕ → Type 0) → (ℕ → Place) → Type 0
Hands one places = HandsBy one (locations_of places)

-- the waiters of a mutex are taken one at a time
abbrev pub TakesOne : State → ℕ → Type 0
TakesOne w l = (rules_in w l).sort ≡ OneOwner

abbrev pub is_mutex : Kind → Bool
is_mutex kind.Mutex = true
is_mutex kind.Fair = true
is_mutex (kind.RwLock limit) = false
is_mutex (kind.Recursive limit) = false
is_mutex kind.Condvar = false
is_mutex kind.Once = false
is_mutex (kind.Semaphore permits) = false

-- a call of a condition variable has come to its place, and the mutex that it names is a plain one
pub record FitsCondvar (w : State) (l : ℕ) (at : CondvarPlace) : Type 0 where
  pub sort : (rules_in w l).sort ≡ CondvarSort
  pub reached : IsReached at
  pub mutex : (m : ℕ) → mutex_beside at ≡ Some m → is_plain_mutex (kind_at w m) ≡ true

-- only a timed call for a permit gives up
abbrev pub LateIsTimed : SemaphorePlace → Type 0
LateIsTimed at = (semaphore_profile at).late ≡ true → (semaphore_profile at).timed ≡ true

-- a call is of a lock of its sort, and stands where it may
abbrev pub FitsItsLock : State → Place → Type 0
FitsItsLock w Idle = Unit {0}
FitsItsLock w (OfMutex l at) = is_mutex (kind_at w l) ≡ true
FitsItsLock w (OfRwLock l a c) = Admits (rules_in w l) a × CallStands a c
FitsItsLock w (OfOnce l at) = (rules_in w l).sort ≡ OnceSort
FitsItsLock w (OfCondvar l at) = FitsCondvar w l at
FitsItsLock w (OfSemaphore l at) = ((rules_in w l).sort ≡ SemaphoreSort) × LateIsTimed at

pub record Stands (w : State) : Type 0 where
  pub sections : Sections (locations_of (place_at w)) (section_at w)
  pub lines : Lines (locations_of (place_at w)) (queue_at w)
  pub waits : AllAreWaiting (locations_of (place_at w)) (queue_at w)
  pub hands : Hands (TakesOne w) (place_at w)
  pub calls : (t : ℕ) → FitsItsLock w (place_at w t)

-- each thread has a number of shared rights of each lock
pub record HasNumbers (w : State) : Type 0 where
  pub locks : length w.shares ≡ length w.locks
  pub threads : (l : ℕ) → length (shares_at w l) ≡ length w.places

-- facts between any two steps
pub record IsInductive (w : State) : Type 0 where
  pub sites : AreSites w
  pub stands : Stands w
  pub numbers : HasNumbers w

-- ---------------------------------------------------------------- the threads that it hands its lock

-- as many want to share, and a thread that wants more wants this; that is one thread at most
pub record IsCountOfHand (w : State) (t : ℕ) (k : Counted) : Type 0 where
  pub number : sharers_in_hand t w.places ≡ k.sharers
  pub more : want_of_successor (successor_from t 0 w.places) ≡ k.successor
  pub one : (u v : ℕ) (x y : Want) → wants_more_in_hand t (held (place_at w u)) ≡ Some x
      → wants_more_in_hand t (held (place_at w v)) ≡ Some y → u ≡ v

-- a call that is to hand its lock over has counted those that it has in hand
abbrev pub AreCounted : State → Type 0
AreCounted w =
    (t l : ℕ) (a : Admission) (c : RwLockCallPlace) (k : Counted) → place_at w t ≡ OfRwLock l a c
    → in_hand_of c ≡ Some k
    → IsCountOfHand w t k

-- ---------------------------------------------------------------- condition variables

abbrev pub stage_or : Option CondvarPhase → CondvarPhase
stage_or None = NothingToDo
stage_or (Some stage) = stage

-- the thread inside the section, and its aim by its place
abbrev pub inside_as : Option ℕ → (ℕ → Option CondvarPhase) → Option Inside
inside_as None stage = None
inside_as (Some t) stage = Some (record { thread = t; stage = stage_or (stage t) })

-- a condition variable of the world: the mutex that it shows, its waiters, the thread inside, and which mutex
-- each wait names
abbrev pub condvar_of : State → ℕ → CondvarSite
condvar_of w l = record {
  shown = (lock_state w l).shown;
  waiters = (lock_state w l).queue;
  inside = inside_as (section_at w (key_of l Main)) (λ t. (profile_at (place_at w t) l).stage);
  waits_with = λ t. (profile_at (place_at w t) l).names;
}

-- outside of its section it shows a mutex exactly while somebody waits, and all wait with that one
abbrev pub AreCondvars : State → Type 0
AreCondvars w = (l : ℕ) → (rules_in w l).sort ≡ CondvarSort → IsCondvar (condvar_of w l)

-- ---------------------------------------------------------------- a thread that runs a closure

-- a run of a `Once` is on only while its thread runs the closure of its call
abbrev pub RunsInClosures : State → Type 0
RunsInClosures w = (t l : ℕ) → (lock_state w l).phase ≡ InProgress t → RunsClosure w t l

-- ---------------------------------------------------------------- a `Once` that is done, and fair mutexes

-- the word of a `Once` that is done tells of no waiter
abbrev pub AreUnmarked : State → Type 0
AreUnmarked w = (l : ℕ) → kind_at w l ≡ kind.Once → word_at w l ≢ 9

-- each call that releases a fair mutex does so fairly, and while somebody waits for it, it is owned
pub record IsFairMutex (w : State) (l : ℕ) : Type 0 where
  pub calls : AllReleaseFairly (locks_of w) l
  pub owned : (lock_state w l).queue ≢ [] → (lock_state w l).exclusive ≢ None

abbrev pub AreFairMutexes : State → Type 0
AreFairMutexes w = (l : ℕ) → kind_at w l ≡ kind.Fair → IsFairMutex w l

pub record IsSettled (w : State) : Type 0 where
  pub runs : RunsInClosures w
  pub unmarked : AreUnmarked w
  pub fair : AreFairMutexes w

-- a world keeps this from step to step
pub record IsWorld (w : State) : Type 0 where
  pub well_formed : IsWellFormed w
  pub inductive : IsInductive w
  pub counted : AreCounted w
  pub condvars : AreCondvars w
  pub settled : IsSettled w

-- a step changes no number of threads or locks
pub record SameNumbers (w v : State) : Type 0 where
  pub threads : length v.places ≡ length w.places
  pub locks : length v.locks ≡ length w.locks
  pub shares : length v.shares ≡ length w.shares

-- each lock has been through deeds of its own that are allowed, and its word says so
pub record FollowAll (w v : State) (ds : ℕ → List Act) : Type 0 where
  pub site : (k : ℕ) → site_of v k ≡ after_acts (rules_in w k) (ds k) (site_of w k)
  pub needed : (k : ℕ) → ActsNeeded (rules_in w k) (ds k) (site_of w k)
  pub word : (k : ℕ) → word_at v k ≡ code (rules_in w k) (site_of v k)
  pub kinds : (k : ℕ) → kind_at v k ≡ kind_at w k
  pub numbers : SameNumbers w v
  pub sharers : (k : ℕ) → length (shares_at v k) ≡ length (shares_at w k)
  pub limit : (k : ℕ) → has_readers (rules_in w k).sort ≡ true
      → HasLimit (rules_in w k) (lock_state v k)
  pub by : (k : ℕ) → (rules_in w k).sort ≡ SemaphoreSort → AllBy (length w.places) (ds k)

-- one lock has been through deeds that are allowed, its word says so, and the others are as they
-- were
pub record SiteFollows (w v : State) (l : ℕ) (ds : List Act) : Type 0 where
  pub site : site_of v l ≡ after_acts (rules_in w l) ds (site_of w l)
  pub needed : ActsNeeded (rules_in w l) ds (site_of w l)
  pub word : word_at v l ≡ code (rules_in w l) (site_of v l)
  pub others : (k : ℕ) → k ≢ l → (site_of v k ≡ site_of w k) × (word_at v k ≡ word_at w k)
  pub kinds : (k : ℕ) → kind_at v k ≡ kind_at w k
  pub numbers : SameNumbers w v
  pub sharers : (k : ℕ) → length (shares_at v k) ≡ length (shares_at w k)
  pub limit : has_readers (rules_in w l).sort ≡ true → HasLimit (rules_in w l) (lock_state v l)
  pub by : (rules_in w l).sort ≡ SemaphoreSort → AllBy (length w.places) ds

-- A step that goes by its acts leaves each thread where its place says.
pub record Goes (w v : State) (l : ℕ) (ds : List Act) : Type 0 where
  pub follows : SiteFollows w v l ds
  pub stands : Stands v

-- for any number of locks
pub record GoesAll (w v : State) (ds : ℕ → List Act) : Type 0 where
  pub follows : FollowAll w v ds
  pub stands : Stands v
