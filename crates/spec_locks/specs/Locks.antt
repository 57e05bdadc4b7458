-- The abstract locks: their owners, their waiters, and what one thread may do to a lock in one step.
use Rattle.std.specs.Prelude.{ℕ, Bool, true, false, Option, Some, None, if◌then◌else◌, ◌==◌, ◌&&◌, ◌||◌, not}
use Rattle.std.specs.Prelude.{◌+◌, ◌-◌, ◌<◌, ◌≤◌, ◌≡◌, ◌≢◌, ◌↔◌, List, [], ◌∷◌, ◌++◌, filter, sum}
use Rattle.std.specs.Prelude.{slice_index, slice_set, take, drop, length, replicate, find, is_some, ◌⊎◌}
use Rattle.std.specs.List.{prefix_len}
use Rattle.core_base.specs.declared.wants.Want.{Want}
use Rattle.core_base.specs.declared.wants.Want.TheVariants.{Exclusive, Upgradable, Shared, Wait, CallOnce}
pub use Rattle.spec_locks.specs.Owners.{Pending, Rules, Sort, Mutex, Normal, Recursive, Semaphore, Once}
pub use Rattle.spec_locks.specs.Owners.{Condvar}
use Rattle.spec_locks.specs.Owners.{Owners}
use Rattle.spec_locks.specs.Onces.{Phase, New, InProgress, OnceCase, Start, Finish, Fail, Rest, TakeAll}
use Rattle.spec_locks.specs.Onces.{MayStart, MayRest, phase_after, wants_to_run}

-- a thread in a queue, and what it wants
pub record Queued : Type 0 where
  pub thread : ℕ
  pub want : Want

-- the thread by which one was taken from a queue, to be woken or to be handed the lock, and what it wants
pub record Taken : Type 0 where
  pub by : ℕ
  pub want : Want

-- The owners: one exclusive, pending and upgradable at most, and each thread's number of shared rights, by
-- the thread's number. The waiters: the main queue from its front, the pending writer that sleeps aside, and
-- which thread was taken from a queue by which. A `Once` has a phase in place of owners, and a condition
-- variable shows the mutex with which its waiters wait; those of any other lock stay the first.
pub record LockState : Type 0 where
  pub exclusive : Option ℕ
  pub pending : Option Pending
  pub upgradable : Option ℕ
  pub shared : List ℕ
  pub queue : List Queued
  pub aside : Option ℕ
  pub taken : ℕ → Option Taken
  pub phase : Phase
  pub shown : Option ℕ

abbrev pub owners_of : LockState → Owners
owners_of s = record {
  exclusive = s.exclusive;
  pending = s.pending;
  upgradable = s.upgradable;
  shared = s.shared;
}

-- ---------------------------------------------------------------- counting

-- how often a thread is the one named
abbrev pub one_if_thread : ℕ → Option ℕ → ℕ
one_if_thread t None = 0
one_if_thread t (Some u) = if u == t then 1 else 0

abbrev pub one_if_pending : ℕ → Option Pending → ℕ
one_if_pending t None = 0
one_if_pending t (Some p) = if p.thread == t then 1 else 0

abbrev pub one_if_some : {A : Type 0} → Option A → ℕ
one_if_some None = 0
one_if_some (Some x) = 1

-- how many share
abbrev pub readers : LockState → ℕ
readers s = sum s.shared

-- how many share, an upgradable owner among them
abbrev pub count : LockState → ℕ
count s = readers s + one_if_some s.upgradable

-- a value at one thread, the others as they were
abbrev pub putting : {A : Type 0} → (ℕ → A) → ℕ → A → ℕ → A
putting f t x u = if u == t then x else f u

-- the threads that t has taken are let go
abbrev pub keep_from : ℕ → Option Taken → Option Taken
keep_from t None = None
keep_from t (Some h) = if h.by == t then None else Some h

abbrev pub let_go : ℕ → (ℕ → Option Taken) → ℕ → Option Taken
let_go t taken u = keep_from t (taken u)

-- t has taken u, which wants x
abbrev pub IsTaken : LockState → ℕ → ℕ → Want → Type 0
IsTaken s t u x = s.taken u ≡ Some (record { by = t; want = x })

abbrev pub HasTakenNobody : LockState → ℕ → Type 0
HasTakenNobody s t = (u : ℕ) (x : Want) → IsTaken s t u x → ⊥

-- how often a thread stands in a queue
abbrev pub times : ℕ → List Queued → ℕ
times t [] = 0
times t (x ∷ xs) = (if x.thread == t then 1 else 0) + times t xs

-- the first waiter of a line
abbrev pub first_thread : List Queued → Option ℕ
first_thread [] = None
first_thread (x ∷ q) = Some x.thread

-- whether somebody waits to run a `Once`
abbrev pub has_caller : List Queued → Bool
has_caller [] = false
has_caller (x ∷ q) = wants_to_run x.want || has_caller q

-- how often a thread stands in the queue, stands aside or is taken
abbrev pub standing : ℕ → LockState → ℕ
standing t s = times t s.queue + one_if_thread t s.aside + one_if_some (s.taken t)

-- ---------------------------------------------------------------- wants

abbrev pub wants_shared : Want → Bool
wants_shared Shared = true
wants_shared _ = false

abbrev pub wants_exclusive : Want → Bool
wants_exclusive Exclusive = true
wants_exclusive _ = false

-- ---------------------------------------------------------------- rights

-- how many rights of each sort a thread has
pub record Rights : Type 0 where
  pub exclusive : ℕ
  pub pending : ℕ
  pub upgradable : ℕ
  pub shared : ℕ

abbrev pub rights_of : LockState → ℕ → Rights
rights_of s t = record {
  exclusive = one_if_thread t s.exclusive;
  pending = one_if_pending t s.pending;
  upgradable = one_if_thread t s.upgradable;
  shared = slice_index s.shared t;
}

-- one right more
abbrev pub with_right : Want → Rights → Rights
with_right Exclusive r = record r { exclusive = r.exclusive + 1 }
with_right Upgradable r = record r { upgradable = r.upgradable + 1 }
with_right Shared r = record r { shared = r.shared + 1 }
with_right _ r = r

-- one right less
abbrev pub without_right : Want → Rights → Rights
without_right Exclusive r = record r { exclusive = r.exclusive - 1 }
without_right Upgradable r = record r { upgradable = r.upgradable - 1 }
without_right Shared r = record r { shared = r.shared - 1 }
without_right _ r = r

abbrev pub Owns : LockState → ℕ → Want → Type 0
Owns s t Exclusive = s.exclusive ≡ Some t
Owns s t Upgradable = s.upgradable ≡ Some t
Owns s t Shared = 1 ≤ slice_index s.shared t
Owns s t _ = ⊥

-- nobody owns exclusively, is pending or holds the upgradable right
abbrev pub NoWriter : LockState → Type 0
NoWriter s = (s.exclusive ≡ None) × (s.pending ≡ None) × (s.upgradable ≡ None)

-- ---------------------------------------------------------------- threads that may enter

-- which wants a sort of lock knows
abbrev pub Knows : Sort → Want → Type 0
Knows Mutex Exclusive = Unit {0}
Knows Normal Exclusive = Unit {0}
Knows Normal Upgradable = Unit {0}
Knows Normal Shared = Unit {0}
Knows Recursive Exclusive = Unit {0}
Knows Recursive Upgradable = Unit {0}
Knows Recursive Shared = Unit {0}
Knows Semaphore Shared = Unit {0}
Knows Once Wait = Unit {0}
Knows Once CallOnce = Unit {0}
Knows Condvar Wait = Unit {0}
Knows sort x = ⊥

-- the owners that are there must allow it; the readers' limit is left out. Nobody enters a condition variable
abbrev pub IsFreeAt : Sort → ℕ → LockState → Want → Type 0
IsFreeAt Mutex limit s x = s.exclusive ≡ None
IsFreeAt Normal limit s Shared = (s.exclusive ≡ None) × (s.pending ≡ None)
IsFreeAt Normal limit s x = NoWriter s
IsFreeAt Recursive limit s Shared = (s.exclusive ≡ None) × (s.pending ≢ None → 1 ≤ readers s)
IsFreeAt Recursive limit s x = NoWriter s
IsFreeAt Semaphore limit s x = readers s < limit
IsFreeAt Once limit s x = Unit {0}
IsFreeAt Condvar limit s x = ⊥

abbrev pub IsFree : Rules → LockState → Want → Type 0
IsFree r s x = Knows r.sort x × IsFreeAt r.sort r.limit s x

abbrev pub IsBlocked : Rules → LockState → Want → Type 0
IsBlocked r s x = Knows r.sort x × (IsFreeAt r.sort r.limit s x → ⊥)

-- a reader counts, and needs a count below the limit; a `Once` has no right to enter for
abbrev pub HasRoom : Rules → LockState → Want → Type 0
HasRoom r s Exclusive = Unit {0}
HasRoom r s Wait = ⊥
HasRoom r s CallOnce = ⊥
HasRoom r s x = count s < r.limit

abbrev pub MayEnter : Rules → LockState → Want → Type 0
MayEnter r s x = IsFree r s x × HasRoom r s x

-- ---------------------------------------------------------------- the waiters picked

-- the right that a waking thread keeps: nothing, a shared right or more
abbrev pub keeps_more : Option Want → Bool
keeps_more (Some Exclusive) = true
keeps_more (Some Upgradable) = true
keeps_more start = false

-- a waiter that wants to share, and one that wants more
abbrev pub sharers : List Queued → List Queued
sharers q = filter (λ (x : Queued). wants_shared x.want) q

abbrev pub others : List Queued → List Queued
others q = filter (λ (x : Queued). not (wants_shared x.want)) q

-- the first that wants more, and how many stand ahead of it
abbrev pub first_unshared : List Queued → Option Queued
first_unshared q = find (λ (x : Queued). not (wants_shared x.want)) q

abbrev pub ahead_of_unshared : List Queued → ℕ
ahead_of_unshared q = prefix_len (λ (x : Queued). wants_shared x.want) q

abbrev pub is_writer : Option Queued → Bool
is_writer None = false
is_writer (Some x) = wants_exclusive x.want

abbrev pub is_recursive : Sort → Bool
is_recursive Recursive = true
is_recursive Mutex = false
is_recursive Normal = false
is_recursive Semaphore = false
is_recursive Once = false
is_recursive Condvar = false

-- where the picking stops: after that first one, where it is a writer, the lock isn't recursive
-- and no more than a shared right is kept; else after the last
abbrev pub stop_of : Sort → Option Want → List Queued → ℕ
stop_of sort start q =
    if is_writer (first_unshared q) && (not (is_recursive sort) && not (keeps_more start))
    then 1 + ahead_of_unshared q
    else length q

abbrev pub before_stop : Sort → Option Want → List Queued → List Queued
before_stop sort start q = take (stop_of sort start q) q

abbrev pub after_stop : Sort → Option Want → List Queued → List Queued
after_stop sort start q = drop (stop_of sort start q) q

-- the front, each of which is picked: all ahead of that first one, and it too unless more than a shared right
-- is kept
abbrev pub front_of : Option Want → List Queued → ℕ
front_of start q = if keeps_more start then ahead_of_unshared q else 1 + ahead_of_unshared q

-- before the stop: those at the front, and after them each thread that wants to share
abbrev pub picked : Sort → Option Want → List Queued → List Queued
picked sort start q =
    take (front_of start q) (before_stop sort start q)
    ++ sharers (drop (front_of start q) (before_stop sort start q))

-- The waiters that a picker leaves, in order.
abbrev pub unpicked : Sort → Option Want → List Queued → List Queued
unpicked sort start q = others (drop (front_of start q) (before_stop sort start q))
    ++ after_stop sort start q

-- ---------------------------------------------------------------- the cases

-- the deeds of a thread at a condition variable, in its section or as it looks from outside; that it waits is
-- `Park`, and that it gives up `Late`
pub data CondvarCase : Type 0 where
  -- a notification sees which mutex is shown
  Look : (seen : Option ℕ) → CondvarCase
  -- a wait shows its own mutex, where none or this one is shown
  Show : (mutex : ℕ) → CondvarCase
  -- a thread shows no mutex: nobody is left, or all are to be taken
  Hide : CondvarCase

-- the deeds that a thread may do to a lock in one step
pub data LockCase : Type 0 where
  -- the thread comes in
  Enter : (want : Want) → LockCase
  -- a writer keeps further readers out and waits for those that are inside
  Pend : LockCase
  -- the last reader has gone, and the pending writer owns
  Settle : LockCase
  -- the thread gives one right up
  Leave : (right : Want) → LockCase
  -- the thread turns one right into another without letting anyone in between
  Convert : (right want : Want) → LockCase
  -- the thread stands in the queue, after the last
  Park : (want : Want) → LockCase
  -- the pending writer stands aside
  Aside : LockCase
  -- the thread takes the first of the queue, or the writer aside, or those that are picked
  TakeFirst : (first : Queued) → LockCase
  TakeAside : (first : ℕ) → LockCase
  TakePicked : (start : Option Want) → LockCase
  -- the thread wakes all that it has taken, and they try again
  Wake : LockCase
  -- the thread hands its right to all that it has taken: it owns no longer, and they own, in one step; the
  -- successor is the one among them that wants more than to share
  HandOff : (right : Want) → (successor : Option Queued) → LockCase
  -- the thread's time is up, and it leaves the queue
  Late : LockCase
  -- the pending writer whose time is up has again what it had
  Rollback : LockCase
  -- the deeds of a thread at a `Once`
  OfOnce : OnceCase → LockCase
  -- A case of a condition variable.
  OfCondvar : CondvarCase → LockCase
  -- a notification sees whether somebody owns the mutex that is shown
  SeeOwner : (owned : Bool) → LockCase

-- the state with one right more
abbrev pub with_owner : ℕ → Want → LockState → LockState
with_owner t Exclusive s = record s { exclusive = Some t }
with_owner t Upgradable s = record s { upgradable = Some t }
with_owner t Shared s = record s { shared = slice_set s.shared t (slice_index s.shared t + 1) }
with_owner t x s = s

-- The lock with one right less.
abbrev pub without_owner : ℕ → Want → LockState → LockState
without_owner t Exclusive s = record s { exclusive = None }
without_owner t Upgradable s = record s { upgradable = None }
without_owner t Shared s = record s { shared = slice_set s.shared t (slice_index s.shared t - 1) }
without_owner t x s = s

abbrev pub pending_for : ℕ → Bool → LockState → LockState
pending_for t falls_back s =
    record s { pending = Some (record { thread = t; falls_back = falls_back }) }

-- a writer owns where nobody shares, and is pending where somebody does
abbrev pub writing : ℕ → Bool → LockState → LockState
writing t falls_back s =
    if readers s == 0 then with_owner t Exclusive s else pending_for t falls_back s

abbrev pub converted : ℕ → Want → LockState → LockState
converted t Exclusive s = writing t true s
converted t x s = with_owner t x s

abbrev pub falling_back : ℕ → Option Pending → LockState → LockState
falling_back t None s = s
falling_back t (Some p) s = if p.falls_back then with_owner t Upgradable s else s

-- the queue without a thread
abbrev pub without : ℕ → List Queued → List Queued
without t q = filter (λ (x : Queued). not (x.thread == t)) q

abbrev pub aside_without : ℕ → Option ℕ → Option ℕ
aside_without t None = None
aside_without t (Some u) = if u == t then None else Some u

-- t takes these threads
abbrev pub taking : ℕ → List Queued → (ℕ → Option Taken) → ℕ → Option Taken
taking t [] taken = taken
taking t (x ∷ xs) taken =
    taking t xs (putting taken x.thread (Some (record { by = t; want = x.want })))

-- each thread that t has taken and that wants to share has one right more; i is the number of the
-- first thread
abbrev pub shares_handed : ℕ → Option Taken → ℕ
shares_handed t None = 0
shares_handed t (Some h) = if h.by == t && wants_shared h.want then 1 else 0

abbrev pub sharing_from : ℕ → (ℕ → Option Taken) → ℕ → List ℕ → List ℕ
sharing_from t taken i [] = []
sharing_from t taken i (n ∷ ns) = (n + shares_handed t (taken i)) ∷ sharing_from t taken (i + 1) ns

abbrev pub sharing_handed : ℕ → LockState → LockState
sharing_handed t s = record s
    { shared = sharing_from t s.taken 0 s.shared; taken = let_go t s.taken }

abbrev pub succeeding : Want → ℕ → LockState → LockState
succeeding Exclusive u s = writing u false s
succeeding x u s = with_owner u x s

abbrev pub with_successor : Option Queued → LockState → LockState
with_successor None s = s
with_successor (Some x) s = succeeding x.want x.thread s

abbrev pub handed : ℕ → Want → Option Queued → LockState → LockState
handed t right successor s = with_successor successor (sharing_handed t (without_owner t right s))

-- which rights may become which
abbrev pub MayConvert : Want → Want → Type 0
MayConvert Exclusive Shared = Unit {0}
MayConvert Exclusive Upgradable = Unit {0}
MayConvert Upgradable Shared = Unit {0}
MayConvert Upgradable Exclusive = Unit {0}
MayConvert right wanted = ⊥

-- the successor is the one that t has taken and that wants more than to share
abbrev pub IsSuccessor : LockState → ℕ → Option Queued → Type 0
IsSuccessor s t successor =
    (u : ℕ) (x : Want) → (successor ≡ Some (record { thread = u; want = x }))
    ↔ (IsTaken s t u x × (x ≢ Shared))

-- after the upgradable right was handed on, the limit holds
abbrev pub HandOffFits : Rules → Want → LockState → Type 0
HandOffFits r Upgradable s = count s ≤ r.limit
HandOffFits r right s = Unit {0}

-- a lock whose first waiter is taken alone
abbrev pub TakesOneAtATime : Sort → Type 0
TakesOneAtATime Mutex = Unit {0}
TakesOneAtATime Semaphore = Unit {0}
TakesOneAtATime Normal = ⊥
TakesOneAtATime Recursive = ⊥
TakesOneAtATime Once = ⊥
TakesOneAtATime Condvar = ⊥

-- a deed at a `Once` needs a phase, and a run is ended by its runner
abbrev pub OnceNeeds : OnceCase → LockState → ℕ → Type 0
OnceNeeds (Start forced) s t = MayStart s.phase forced
OnceNeeds Finish s t = s.phase ≡ InProgress t
OnceNeeds Fail s t = s.phase ≡ InProgress t
OnceNeeds (Rest wanted forced) s t = MayRest wanted forced s.phase × (standing t s ≡ 0)
OnceNeeds TakeAll s t = HasTakenNobody s t

abbrev pub once_after : OnceCase → LockState → ℕ → LockState
once_after (Rest wanted forced) s t =
    record s { queue = s.queue ++ (record { thread = t; want = wanted }) ∷ [] }
once_after TakeAll s t = record s { queue = []; taken = taking t s.queue s.taken }
once_after case s t = record s { phase = phase_after case t s.phase }

-- a mutex is shown where none or this one is
abbrev pub CondvarNeeds : CondvarCase → LockState → Type 0
CondvarNeeds (Look seen) s = seen ≡ s.shown
CondvarNeeds (Show m) s = (s.shown ≡ None) ⊎ (s.shown ≡ Some m)
CondvarNeeds Hide s = Unit {0}

abbrev pub condvar_after : CondvarCase → LockState → LockState
condvar_after (Look seen) s = s
condvar_after (Show m) s = record s { shown = Some m }
condvar_after Hide s = record s { shown = None }

-- the waiters that a notification moves, the first or all, leave the list of the condition variable
abbrev pub left_after : Bool → LockState → LockState
left_after all s = record s { queue = if all then [] else drop 1 s.queue }

abbrev pub IsSomePending : Option Pending → ℕ → Type 0
IsSomePending None t = ⊥
IsSomePending (Some p) t = p.thread ≡ t

-- the condition of each case
abbrev pub Needs : Rules → LockCase → LockState → ℕ → Type 0
Needs r (Enter Exclusive) s t = MayEnter r s Exclusive × (readers s ≡ 0)
Needs r (Enter x) s t = MayEnter r s x
Needs r Pend s t = MayEnter r s Exclusive × Knows r.sort Shared
Needs r Settle s t = IsSomePending s.pending t × (readers s ≡ 0) × (s.aside ≡ None)
Needs r (Leave right) s t = Owns s t right
Needs r (Convert right want) s t = Owns s t right × MayConvert right want × Knows r.sort want
Needs r (Park want) s t = IsBlocked r s want × (standing t s ≡ 0)
Needs r Aside s t = IsSomePending s.pending t × (1 ≤ readers s) × (standing t s ≡ 0)
Needs r (TakeFirst x) s t =
    ((rest : List Queued) × (s.queue ≡ x ∷ rest)) × HasTakenNobody s t × TakesOneAtATime r.sort
Needs r (TakeAside u) s t = (s.aside ≡ Some u) × HasTakenNobody s t
Needs r (TakePicked start) s t = HasTakenNobody s t × Knows r.sort Upgradable
Needs r Wake s t = Unit {0}
Needs r (HandOff right successor) s t =
    Owns s t right × (right ≢ Shared) × IsSuccessor s t successor
    × HandOffFits r right (handed t right successor s)
Needs r Late s t = 1 ≤ times t s.queue + one_if_thread t s.aside
Needs r Rollback s t = IsSomePending s.pending t × (s.aside ≡ None)
Needs r (OfOnce case) s t = (r.sort ≡ Once) × OnceNeeds case s t
Needs r (OfCondvar case) s t = (r.sort ≡ Condvar) × CondvarNeeds case s
Needs r (SeeOwner owned) s t = (r.sort ≡ Mutex) × (owned ≡ is_some s.exclusive)

-- The lock after a case.
abbrev pub after_case : Rules → LockCase → LockState → ℕ → LockState
after_case r (Enter x) s t = with_owner t x s
after_case r Pend s t = pending_for t false s
after_case r Settle s t = with_owner t Exclusive (record s { pending = None })
after_case r (Leave right) s t = without_owner t right s
after_case r (Convert right want) s t = converted t want (without_owner t right s)
after_case r (Park want) s t =
    record s { queue = s.queue ++ (record { thread = t; want = want }) ∷ [] }
after_case r Aside s t = record s { aside = Some t }
after_case r (TakeFirst x) s t =
    record s { queue = drop 1 s.queue; taken = taking t (x ∷ []) s.taken }
after_case r (TakeAside u) s t =
    record s {
      aside = None;
      taken = putting s.taken u (Some (record { by = t; want = Exclusive }));
    }
after_case r (TakePicked start) s t =
    record s {
      queue = unpicked r.sort start s.queue;
      taken = taking t (picked r.sort start s.queue) s.taken;
    }
after_case r Wake s t = record s { taken = let_go t s.taken }
after_case r (HandOff right successor) s t = handed t right successor s
after_case r Late s t = record s { queue = without t s.queue; aside = aside_without t s.aside }
after_case r Rollback s t = falling_back t s.pending (record s { pending = None })
after_case r (OfOnce case) s t = once_after case s t
after_case r (OfCondvar case) s t = condvar_after case s
after_case r (SeeOwner owned) s t = s

-- ---------------------------------------------------------------- invariants of every state

abbrev pub KnowsAll : Sort → List Queued → Type 0
KnowsAll sort [] = Unit {0}
KnowsAll sort (x ∷ xs) = Knows sort x.want × KnowsAll sort xs

-- each thread stands at most once, and wants what a lock of its sort knows; a sleeper aside is pending
pub record WaitersStand (sort : Sort) (s : LockState) : Type 0 where
  pub once : (t : ℕ) → standing t s ≤ 1
  pub known_queue : KnowsAll sort s.queue
  pub known_taken : (u : ℕ) (h : Taken) → s.taken u ≡ Some h → Knows sort h.want
  pub aside_pending : (t : ℕ) → s.aside ≡ Some t → IsSomePending s.pending t

-- owners exclude each other, and waiters stand: OwnersExclude and WaitersStand, as the steps keep them
pub record IsLockState (r : Rules) (s : LockState) : Type 0 where
  -- an exclusive owner has no owner beside it
  pub exclusive_alone : (t : ℕ) → s.exclusive ≡ Some t
      → (s.pending ≡ None) × (s.upgradable ≡ None) × (readers s ≡ 0)
  -- a pending one has no upgradable one beside it
  pub pending_alone : (p : Pending) → s.pending ≡ Some p → s.upgradable ≡ None
  -- a sleeper aside is the pending owner
  pub aside_pending : (t : ℕ) → s.aside ≡ Some t → IsSomePending s.pending t
  -- each thread stands at most once
  pub once : (t : ℕ) → standing t s ≤ 1
  -- a waiter, taken or not, wants what the lock knows
  pub known_queue : KnowsAll r.sort s.queue
  pub known_taken : (u : ℕ) (h : Taken) → s.taken u ≡ Some h → Knows r.sort h.want
  -- a mutex has one owner, and a semaphore none but sharing ones
  pub unshared : (Knows r.sort Shared → ⊥) → readers s ≡ 0
  pub unpending : (Knows r.sort Upgradable → ⊥) → (s.pending ≡ None) × (s.upgradable ≡ None)
  pub unwritten : (Knows r.sort Exclusive → ⊥) → s.exclusive ≡ None
  -- no more threads share a semaphore than there are permits
  pub within : r.sort ≡ Semaphore → readers s ≤ r.limit

-- nobody owns, and nobody waits
abbrev pub opening_lock : ℕ → LockState
opening_lock threads = record {
  exclusive = None;
  pending = None;
  upgradable = None;
  shared = replicate threads 0;
  queue = [];
  aside = None;
  taken = λ u. None;
  phase = New;
  shown = None;
}
