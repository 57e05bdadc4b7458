-- A lock of the lot: its abstract state, its parked bits, and what each thread does about it. No
-- word, no place and no loop.
use Rattle.std.specs.Prelude.{ℕ, Bool, true, false, Option, Some, None, if◌then◌else◌, ◌==◌, ◌&&◌, ◌||◌, not}
use Rattle.std.specs.Prelude.{◌≤◌, ◌≡◌, ◌≢◌, ◌⊎◌, ◌+◌, length, ◌<◌, List, [], ◌∷◌, ◌++◌, nat_le, is_none}
pub use Rattle.core_base.specs.declared.keys.Line.{Line}
pub use Rattle.core_base.specs.declared.keys.Line.TheVariants.{Main, Second}
use Rattle.core_base.specs.declared.wants.Want.{Want}
use Rattle.core_base.specs.declared.wants.Want.TheVariants.{Exclusive, Upgradable, Shared}
use Rattle.spec_locks.specs.Locks.{LockState, Taken, Queued, Pending, Sort, Mutex, Normal, Recursive}
use Rattle.spec_locks.specs.Locks.{Semaphore, Once, Condvar, Rules, LockCase, Enter, Pend, Settle, Leave}
use Rattle.spec_locks.specs.Locks.{Convert, Park, Aside, TakeFirst, TakeAside, TakePicked, Wake, HandOff}
use Rattle.spec_locks.specs.Locks.{Late, Rollback, OfOnce, OfCondvar, SeeOwner, Needs, Owns, NoWriter}
use Rattle.spec_locks.specs.Locks.{IsLockState, KnowsAll, putting, taking, readers, count, times, standing}
use Rattle.spec_locks.specs.Locks.{has_caller, keeps_more, wants_shared, left_after, let_go, opening_lock}
use Rattle.spec_locks.specs.Onces.{InProgress, Done, IsRunning, OnceCase, Start, Finish, Fail, Rest, TakeAll}
use Rattle.spec_locks.specs.Locks as locks

-- the right of a thread by its place, or a pending one with what it falls back to
pub data Claim : Type 0 where
  Has : Want → Claim
  Pends : (falls_back : Bool) → Claim
  -- a `Once`: it runs the closure; its own run ended well
  Runs : Claim
  Ran : Claim

-- The things that one thread does about the lock. A place is mapped to this, and nothing else of a
-- place matters to what is kept.
pub record Role : Type 0 where
  -- inside whose section it is
  pub inside : Option Line
  -- the line whose waiters it has seen, since it gave way, and hasn't taken yet
  pub wakes : Option Line
  -- the thread has taken in this section the threads that it was to take
  pub has_taken : Bool
  -- the thread has taken them, none of its own rights bars the way, and it is to let them go
  pub owes_taken : Bool
  -- where it has seen nobody, inside that section
  pub empty : Option Line
  -- the want for which the thread was woken
  pub retries : Option Want
  -- the right of the thread by its place
  pub claims : Option Claim
  -- inside the main section: it has set the parked bit of a mutex that somebody owned, and is to
  -- bring waiters
  pub will_bring : Bool
  -- the thread has brought waiters to a mutex that nobody owned, has one of them in hand, and is yet to set
  -- the bit; or it has cleared the bit of a `Once` beside its waiters, and is yet to take them
  pub bit_pending : Bool

abbrev pub idle : Role
idle = record {
  inside = None;
  wakes = None;
  has_taken = false;
  owes_taken = false;
  empty = None;
  retries = None;
  claims = None;
  will_bring = false;
  bit_pending = false;
}

pub record Site : Type 0 where
  pub lock : LockState
  pub parked : Bool
  pub aside_parked : Bool
  -- the count was once at or above the limit
  pub filled : Bool
  pub role : ℕ → Role

abbrev pub opening_site : ℕ → Site
opening_site threads =
    record {
      lock = opening_lock threads;
      parked = false;
      aside_parked = false;
      filled = false;
      role = λ t. idle;
    }

-- ---------------------------------------------------------------- words

-- nobody bars the way of the waiters in the main line
abbrev pub IsOpen : Sort → LockState → Type 0
IsOpen Mutex s = s.exclusive ≡ None
IsOpen Semaphore s = ⊥
IsOpen Condvar s = ⊥
IsOpen Once s = (has_caller s.queue ≡ true) × (IsRunning s.phase → ⊥)
IsOpen Normal s = NoWriter s
IsOpen Recursive s = NoWriter s

-- a woken thread that wants this will pass the turn on
abbrev pub counts : Sort → Want → Bool
counts Mutex x = true
counts Semaphore x = true
counts Once x = false
counts Condvar x = false
counts Normal x = not (wants_shared x)
counts Recursive x = not (wants_shared x)

abbrev pub counts_some : Sort → Option Want → Bool
counts_some sort None = false
counts_some sort (Some x) = counts sort x

abbrev pub counts_taken : Sort → ℕ → Option Taken → Bool
counts_taken sort t None = false
counts_taken sort t (Some h) = (h.by == t) && counts sort h.want

abbrev pub has_readers : Sort → Bool
has_readers Normal = true
has_readers Recursive = true
has_readers Mutex = false
has_readers Semaphore = false
has_readers Once = false
has_readers Condvar = false

abbrev pub is_full : Rules → LockState → Bool
is_full r s = has_readers r.sort && nat_le r.limit (count s)

-- as many share as the limit allows; on a recursive lock one more, where an upgrade gave up beside
-- a reader that came back
abbrev pub IsWithinLimit : Rules → LockState → Type 0
IsWithinLimit r s = (count s ≤ r.limit) ⊎ ((r.sort ≡ Recursive) × (count s ≡ r.limit + 1))

abbrev pub Holds : LockState → ℕ → Claim → Type 0
Holds s t (Has x) = Owns s t x
Holds s t (Pends falls_back) = s.pending ≡ Some (record { thread = t; falls_back = falls_back })
Holds s t Runs = s.phase ≡ InProgress t
Holds s t Ran = s.phase ≡ Done

abbrev pub is_empty : List Queued → Bool
is_empty [] = true
is_empty (x ∷ q) = false

abbrev pub IsEmpty : LockState → Line → Type 0
IsEmpty s Main = s.queue ≡ []
IsEmpty s Second = s.aside ≡ None

abbrev pub is_line_empty : LockState → Option Line → Bool
is_line_empty s None = false
is_line_empty s (Some Main) = is_empty s.queue
is_line_empty s (Some Second) = is_none s.aside

abbrev pub StandsIn : LockState → ℕ → Option Line → Type 0
StandsIn s t None = ⊥
StandsIn s t (Some Main) = s.aside ≢ Some t
StandsIn s t (Some Second) = s.aside ≡ Some t

-- t is to wake the next of the main line, or has it in hand, or is it
abbrev pub IsDebtorRole : Sort → Role → Type 0
IsDebtorRole sort d = (d.wakes ≡ Some Main) ⊎ ((d.owes_taken ≡ true) ⊎ (counts_some sort d.retries ≡ true))

-- a thread that is yet to set the bit has one of those that it has brought in hand, or is to take those of
-- which it has seen the bit
abbrev pub LooksAfter : Sort → Role → Type 0
LooksAfter sort d = (d.owes_taken ≡ true) ⊎ ((sort ≡ Once) × (d.wakes ≡ Some Main))

-- ---------------------------------------------------------------- invariants between steps

pub record IsSite (r : Rules) (s : Site) : Type 0 where
  pub state : IsLockState r s.lock
  -- nobody is inside a section beside another
  pub alone : (t u : ℕ) (m : Line) → (s.role t).inside ≡ Some m → (s.role u).inside ≡ Some m
      → t ≡ u
  -- a waiter implies its bit, or somebody that is yet to set it, or to take the waiters
  pub parked : s.lock.queue ≢ [] → (s.parked ≡ true) ⊎ ((t : ℕ) × ((s.role t).bit_pending ≡ true))
  pub aside_parked : s.lock.aside ≢ None → s.aside_parked ≡ true
  -- a thread that has seen nobody is inside that section, and nobody has come
  pub emptied : (t : ℕ) (m : Line) → (s.role t).empty ≡ Some m
      → ((s.role t).inside ≡ Some m) × IsEmpty s.lock m
  -- a thread that took waiters of the main line has one in hand that passes the turn on, unless none is left
  pub covered : (t : ℕ) → (s.role t).owes_taken ≡ true
      → ((s.role t).inside ≡ Some Main) × ((s.role t).has_taken ≡ true)
      × ((s.lock.queue ≢ []) → (u : ℕ) × (counts_taken r.sort t (s.lock.taken u) ≡ true))
  -- a thread that holds others in hand has taken them in this section
  pub carried : (u : ℕ) (h : Taken) → s.lock.taken u ≡ Some h → (s.role h.by).has_taken ≡ true
  -- a thread that is to bring waiters does so to a mutex, is inside, and the bit stays
  pub brought : (t : ℕ) → (s.role t).will_bring ≡ true
      → ((s.role t).inside ≡ Some Main) × (s.parked ≡ true) × (r.sort ≡ Mutex)
  pub setting : (t : ℕ) → (s.role t).bit_pending ≡ true → LooksAfter r.sort (s.role t)
  pub held : (t : ℕ) (c : Claim) → (s.role t).claims ≡ Some c → Holds s.lock t c
  -- a thread that stands in a line, or is in hand, doesn't try again
  pub unwoken : (t : ℕ) → 1 ≤ standing t s.lock → (s.role t).retries ≡ None
  -- once full, noted
  pub full : is_full r s.lock ≡ true → s.filled ≡ true
  -- nobody is forgotten, nor a thread that is to be brought
  pub main : (s.lock.queue ≢ []) ⊎ ((t : ℕ) × ((s.role t).will_bring ≡ true)) → IsOpen r.sort s.lock
      → s.filled ≡ false
      → (t : ℕ) × IsDebtorRole r.sort (s.role t)
  pub second : s.lock.aside ≢ None → readers s.lock ≡ 0
      → (t : ℕ) × ((s.role t).wakes ≡ Some Second)

-- ---------------------------------------------------------------- the acts of a thread

pub data Deed : Type 0 where
  -- a call begins with what it needs
  Begin : Option Claim → Deed
  -- a call ends
  End : Deed
  -- into a section, and out of it, where all that it has taken are woken
  In : Line → Deed
  Out : Deed
  -- sets a parked bit, or clears one
  Mark : Line → Deed
  Clear : Line → Deed
  -- finds nobody to take
  FindNobody : Line → Deed
  -- a notification sets the parked bit of a mutex that somebody owns
  MarkOwned : Deed
  -- a thread brings waiters of a condition variable: it takes some, and the others stand after the last
  Bring : (taken moved : List Queued) → Deed
  -- The deed sets the bit for waiters that were brought to a mutex that nobody owned.
  MarkBrought : Deed
  -- the condition variable, which the first of its waiters leaves for the mutex, or all do
  Send : (all : Bool) → Deed
  -- a thread's time is up, and it leaves the list of a condition variable, whose word has no bit for it
  LeaveLine : Deed
  -- a case of the lock
  Case : LockCase → Deed

-- a thread that gives way sees the bit
abbrev pub seen_main : Bool → Option Line
seen_main parked = if parked then Some Main else None

abbrev pub seen_second : Bool → Option Line
seen_second parked = if parked then Some Second else None

-- a thread that has the next ones in hand gives way without another look
abbrev pub role_giving_way : Site → Role → Option Claim → Role
role_giving_way s d claims = record d
    { wakes = if d.owes_taken then d.wakes else seen_main s.parked; claims = claims }

abbrev pub found : Line → Bool → Option Line
found m none_left = if none_left then Some m else None

abbrev pub taking_main : Bool → LockState → Role → Role
taking_main owes_taken now d =
    record d {
      wakes = None;
      has_taken = true;
      owes_taken = owes_taken;
      empty = found Main (is_empty now.queue);
    }

abbrev pub late_found : LockState → Option Line → Option Line
late_found now m = if is_line_empty now m then m else None

abbrev pub fallen : Option Pending → Option Claim
fallen None = None
fallen (Some p) = if p.falls_back then Some (Has Upgradable) else None

-- the right of an upgrade: it owns where nobody shares, and is pending where some thread does
abbrev pub upgraded : LockState → Option Claim
upgraded now = if readers now == 0 then None else Some (Pends true)

-- the last reader sees the writer aside; a thread that gives a permit back sees the line
abbrev pub shares_less : Sort → Site → Role → Role
shares_less Semaphore s d = record d { wakes = seen_main s.parked; claims = None }
shares_less sort s d = record d
    { wakes = seen_second (s.aside_parked && (count s.lock == 1)); claims = None }

-- the end of a run clears the bit, and sees it
abbrev pub once_parked : OnceCase → Bool → Bool
once_parked Finish parked = false
once_parked Fail parked = false
once_parked case parked = parked

abbrev pub role_after_once : OnceCase → Site → Role → Role
role_after_once (Start forced) s d = record d { retries = None; claims = Some Runs }
role_after_once Finish s d = record d { wakes = seen_main s.parked; bit_pending = s.parked; claims = Some Ran }
role_after_once Fail s d = record d { wakes = seen_main s.parked; bit_pending = s.parked; claims = None }
role_after_once (Rest wanted forced) s d = record d { retries = None; empty = None }
role_after_once TakeAll s d = record d { wakes = None; bit_pending = false; has_taken = true }

-- the thread's doing after a case; now is the lock then
abbrev pub case_role : Sort → Site → LockState → LockCase → Role → Role
case_role sort s now (Enter x) d = record d { retries = None; claims = None }
case_role sort s now Pend d = record d { retries = None; claims = Some (Pends false) }
case_role sort s now Settle d = record d { retries = None; claims = None }
case_role sort s now (Leave Shared) d = shares_less sort s d
case_role sort s now (Leave x) d = role_giving_way s d None
case_role sort s now (Convert x Exclusive) d = record d { claims = upgraded now }
case_role sort s now (Convert x y) d = role_giving_way s d (Some (Has y))
case_role sort s now (Park x) d = record d { retries = None; empty = None }
case_role sort s now Aside d = record d { retries = None; empty = None }
case_role sort s now (TakeFirst x) d = taking_main true now d
case_role sort s now (TakePicked start) d = taking_main (not (keeps_more start)) now d
case_role sort s now (TakeAside u) d =
    record d { wakes = None; has_taken = true; empty = Some Second }
case_role sort s now Wake d = d
case_role sort s now (HandOff x successor) d =
    record d { owes_taken = false; claims = None; will_bring = false; bit_pending = false }
case_role sort s now Late d = record d { empty = late_found now d.inside }
case_role sort s now Rollback d = role_giving_way s d (fallen s.lock.pending)
case_role sort s now (OfOnce case) d = role_after_once case s d
case_role sort s now (OfCondvar case) d = d
case_role sort s now (SeeOwner owned) d = d

-- a hand-over stores the word anew: the bit of the main line stands where somebody is left, and an
-- exclusive owner leaves no other
abbrev pub case_parked : Site → LockState → LockCase → Bool
case_parked s now (HandOff x successor) = not (is_empty now.queue)
case_parked s now (OfOnce case) = once_parked case s.parked
case_parked s now case = s.parked

abbrev pub case_aside_parked : Site → LockCase → Bool
case_aside_parked s (HandOff Exclusive successor) = false
case_aside_parked s case = s.aside_parked

abbrev pub done : Rules → LockCase → Site → ℕ → LockState → Site
done r case s t now = record {
  lock = now;
  parked = case_parked s now case;
  aside_parked = case_aside_parked s case;
  filled = s.filled || is_full r now;
  role = putting s.role t (case_role r.sort s now case (s.role t));
}

-- each waiter that is let go tries again for what it wanted
abbrev pub wakened : ℕ → Option Taken → Role → Role
wakened t None d = d
wakened t (Some h) d = if h.by == t then record d { retries = Some h.want } else d

abbrev pub is_main : Line → Bool
is_main Main = true
is_main Second = false

abbrev pub leaves : Role → Role
leaves d = record d {
  inside = None;
  has_taken = false;
  owes_taken = false;
  empty = None;
  will_bring = false;
  bit_pending = false;
}

-- a thread that takes one of those that it brings, and moves more, has the bit to set yet
abbrev pub bringing : List Queued → List Queued → Role → Role
bringing taken moved d = record d {
  has_taken = true;
  owes_taken = not (is_empty taken);
  empty = None;
  will_bring = false;
  bit_pending = not (is_empty taken) && not (is_empty moved);
}

abbrev pub with_role : Site → ℕ → Role → Site
with_role s t d = record s { role = putting s.role t d }

abbrev pub after_deed : Rules → Deed → Site → ℕ → Site
after_deed r (Begin claims) s t = with_role s t (record (s.role t) { claims = claims })
after_deed r End s t = with_role s t idle
after_deed r (In m) s t = with_role s t (record (s.role t) { inside = Some m })
after_deed r Out s t = record s {
  lock = record s.lock { taken = let_go t s.lock.taken };
  role = λ u. wakened t (s.lock.taken u) (putting s.role t (leaves (s.role t)) u);
}
after_deed r (Mark Main) s t = record s { parked = true }
after_deed r (Mark Second) s t = record s { aside_parked = true }
after_deed r (Clear Main) s t =
    record s {
      parked = false;
      role = putting s.role t (record (s.role t) { empty = None; will_bring = false });
    }
after_deed r (Clear Second) s t =
    record s {
      aside_parked = false;
      role = putting s.role t (record (s.role t) { empty = None; will_bring = false });
    }
after_deed r (FindNobody m) s t =
    with_role s t (record
    (s.role t) { wakes = None; has_taken = true; owes_taken = is_main m; empty = Some m })
after_deed r MarkBrought s t =
    record s { parked = true; role = putting s.role t (record (s.role t) { bit_pending = false }) }
after_deed r MarkOwned s t =
    record s { parked = true; role = putting s.role t (record (s.role t) { will_bring = true }) }
after_deed r (Bring taken moved) s t = record s {
  lock = record s.lock { queue = s.lock.queue ++ moved; taken = taking t taken s.lock.taken };
  role = putting s.role t (bringing taken moved (s.role t));
}
after_deed r (Send all) s t = record s { lock = left_after all s.lock }
after_deed r LeaveLine s t = record s { lock = locks.after_case r Late s.lock t }
after_deed r (Case case) s t = done r case s t (locks.after_case r case s.lock t)

-- ---------------------------------------------------------------- the conditions of a deed

abbrev pub HasClaim : LockState → ℕ → Option Claim → Type 0
HasClaim s t None = Unit {0}
HasClaim s t (Some c) = Holds s t c

-- a thread may keep more than a shared right only where it has that
abbrev pub KeepsOwned : LockState → ℕ → Option Want → Type 0
KeepsOwned s t None = Unit {0}
KeepsOwned s t (Some Shared) = Unit {0}
KeepsOwned s t (Some x) = Owns s t x

abbrev pub OnceFits : OnceCase → Site → Role → Type 0
OnceFits (Start forced) s d = Unit {0}
OnceFits Finish s d = (d.wakes ≡ None) × (d.bit_pending ≡ false)
OnceFits Fail s d = (d.wakes ≡ None) × (d.bit_pending ≡ false)
OnceFits (Rest wanted forced) s d =
    (d.inside ≡ Some Main) × (s.parked ≡ true) × (d.wakes ≡ None) × (d.owes_taken ≡ false)
OnceFits TakeAll s d = (d.inside ≡ Some Main) × (d.has_taken ≡ false)

abbrev pub CaseFits : Rules → Site → ℕ → LockCase → Role → Type 0
CaseFits r s t (Enter x) d = (d.retries ≡ None) ⊎ (d.retries ≡ Some x)
CaseFits r s t Pend d = Unit {0}
CaseFits r s t Settle d = Unit {0}
CaseFits r s t (Leave x) d = d.wakes ≡ None
CaseFits r s t (Convert x y) d = (d.wakes ≡ None) × (d.has_taken ≡ false) × (t < length s.lock.shared)
CaseFits r s t (Park x) d =
    (d.inside ≡ Some Main) × (s.parked ≡ true) × (d.wakes ≡ None) × (d.owes_taken ≡ false)
CaseFits r s t Aside d = (d.inside ≡ Some Second) × (s.aside_parked ≡ true) × (d.wakes ≡ None)
CaseFits r s t (TakeFirst x) d =
    (d.inside ≡ Some Main) × (d.has_taken ≡ false) × (d.wakes ≢ Some Second)
CaseFits r s t (TakePicked start) d =
    (d.inside ≡ Some Main) × (d.has_taken ≡ false) × (d.wakes ≢ Some Second)
    × KeepsOwned s.lock t start
CaseFits r s t (TakeAside u) d =
    (d.inside ≡ Some Second) × (d.has_taken ≡ false) × (d.wakes ≢ Some Main)
CaseFits r s t Wake d = ⊥
CaseFits r s t (HandOff x successor) d =
    (d.inside ≡ Some Main) × (d.owes_taken ≡ true) × (d.retries ≡ None) × (d.wakes ≡ None)
CaseFits r s t Late d = StandsIn s.lock t d.inside × (d.has_taken ≡ false)
CaseFits r s t Rollback d = (d.wakes ≡ None) × (d.has_taken ≡ false)
CaseFits r s t (OfOnce case) d = OnceFits case s d
CaseFits r s t (OfCondvar case) d = Unit {0}
CaseFits r s t (SeeOwner owned) d = Unit {0}

-- a call ends outside of the sections, and one that was woken has what it wanted, or another has,
-- or the lock is full
abbrev pub MayEnd : Rules → LockState → Role → Type 0
MayEnd r s d =
    (d.inside ≡ None) × (d.wakes ≡ None) × (d.has_taken ≡ false)
    × ((counts_some r.sort d.retries ≡ true) → is_full r s ≡ true)

-- each waiter that is brought is brought once, stood nowhere and didn't try again
abbrev pub Apart : Site → List Queued → Type 0
Apart s xs = (u : ℕ) → (times u xs ≤ 1)
    × (1 ≤ times u xs → (standing u s.lock ≡ 0) × ((s.role u).retries ≡ None))

abbrev pub Needed : Rules → Deed → Site → ℕ → Type 0
Needed r (Begin claims) s t = HasClaim s.lock t claims
Needed r End s t = MayEnd r s.lock (s.role t)
Needed r (In m) s t = ((u : ℕ) → (s.role u).inside ≢ Some m) × ((s.role t).inside ≡ None)
    × ((s.role t).empty ≡ None)
Needed r Out s t = ((s.role t).inside ≢ None) × ((s.role t).wakes ≡ None)
    × ((s.role t).bit_pending ≡ false)
Needed r (Mark m) s t = Unit {0}
Needed r (Clear m) s t = (s.role t).empty ≡ Some m
Needed r (FindNobody m) s t =
    ((s.role t).inside ≡ Some m) × ((s.role t).has_taken ≡ false) × IsEmpty s.lock m
    × ((s.role t).wakes ≡ None ⊎ (s.role t).wakes ≡ Some m)
Needed r MarkBrought s t = Unit {0}
Needed r MarkOwned s t =
    ((s.role t).inside ≡ Some Main) × (IsOpen r.sort s.lock → ⊥) × (r.sort ≡ Mutex)
Needed r (Bring taken moved) s t =
    (r.sort ≡ Mutex) × ((s.role t).inside ≡ Some Main) × ((s.role t).has_taken ≡ false)
    × ((s.role t).wakes ≡ None) × ((s.role t).retries ≡ None)
    × Apart s (taken ++ moved) × KnowsAll Mutex (taken ++ moved)
    × (taken ≡ [] → (s.role t).will_bring ≡ true)
Needed r (Send all) s t = (r.sort ≡ Condvar) × ((s.role t).inside ≡ Some Main)
Needed r LeaveLine s t =
    (r.sort ≡ Condvar) × Needs r Late s.lock t × CaseFits r s t Late (s.role t)
Needed r (Case case) s t = Needs r case s.lock t × CaseFits r s t case (s.role t)

-- ---------------------------------------------------------------- the law

abbrev pub EachDeedKeeps : Type 0
EachDeedKeeps =
    (r : Rules) (deed : Deed) (s : Site) (t : ℕ) → IsSite r s → Needed r deed s t
    → IsSite r (after_deed r deed s t)
