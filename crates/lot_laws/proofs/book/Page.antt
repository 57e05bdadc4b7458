-- What a sort of lock says of one of its places, at its lock and in no machine: a page. No sort is named
-- here.
use Rattle.lot_laws.proofs.Imports
use Imports.{slice_index, Op, Waiter, apply, Act, Next, Reply, Value, Late, Owners, CallFollows, Accepts}
use Imports.{GoesIn, Hears, StepView, MovesByAct, RowWaits, TakesAside, TellsHanded, WasGiven, row_of}
use Imports.{CallWaits}
use Imports.{One, shares_then, Profile, hand, RowPromises, OnceState, HasLimit, aside_in, code, parked_in}
use Imports.{AllNeeded, after_all, Rules, Taken, is_recursive, standing, Deed, IsSite, Line, Main, Runs, Second}
use Imports.{Site, has_readers, ClosureAnswers, RestsAfter, TakesAll}
use Rattle.std.specs.Prelude.{ℕ, Option, Some, None, true, false, ◌⊎◌, ◌≡◌, ◌≢◌, ◌<◌, ◌≤◌, ◌-◌, ◌^◌}
use Rattle.std.specs.Prelude.{List, length}
use Rattle.core_base.specs.Keys.{key_of}
use Rattle.steps_base.specs.declared.acts.Act.TheVariants as act
use Rattle.steps_base.specs.declared.acts.TakeWhich.TheVariants as whom
use Rattle.steps_base.specs.Owners.{lock_seen}
use Rattle.spec_locks.specs.Locks.{Condvar, Mutex, Semaphore}
use Rattle.steps_semaphore.specs.SemaphoreDeeds.{take_deeds}
use Rattle.lot_laws.proofs.sites.FirstTaken.{TakesFirst}

-- a thread of the lot stands at a place with this row, at a lock that is sound
pub record IsThere (r : Rules) (s : Site) (t : ℕ) (row : Profile) : Type 0 where
  pub site : IsSite r s
  pub role : s.role t ≡ row.role
  pub here : t < length s.lock.shared
  pub small : r.sort ≡ Semaphore → r.limit ≤ 2 ^ 62
  pub aside : aside_in r.sort (code r s) ≡ s.aside_parked
  pub limits : has_readers r.sort ≡ true → (r.limit < 2 ^ 60 - 1) × HasLimit r s.lock

module _ (r : Rules) (s : Site) (t : ℕ) (x : StepView) where
  -- the deeds of a reply may be done, and the next row says what the thread does then
  pub record Follows (who : Option ℕ) (told : Reply) : Type 0 where
    pub needed : AllNeeded r (x.deeds who told) s t
    pub role : (after_all r (x.deeds who told) s t).role t ≡ (x.next told).role

  abbrev pub afterwards : Site
  afterwards = after_all r (x.deeds None (Value (code r s))) s t

  -- a step on the word leaves it, the owners and the bits after its deeds
  pub record Leaves (op : Op) (owners : ℕ → ℕ → Owners → Owners) (shares : ℕ → ℕ → Option ℕ) : Type 0 where
    pub word : apply op (code r s) ≡ code r afterwards
    pub lock : (o : Owners) (main second : List Waiter) (taken : ℕ → Option Taken)
        → s.lock ≡ lock_seen s.lock.shared o main second taken
        → lock_seen (shares_then s.lock.shared t (shares (code r s) (slice_index s.lock.shared t)))
        (owners t (code r s) o) main second taken ≡ afterwards.lock
    pub parked : parked_in r.sort (code r afterwards) ≡ afterwards.parked
    pub aside : aside_in r.sort (code r afterwards) ≡ afterwards.aside_parked

-- where an act takes it: by the act, for every sort of lock
abbrev pub MovesBy : Rules → ℕ → StepView → Hears → Act → Type 0
MovesBy r l x hears (act.Take key whom.First) = ((r.sort ≡ Semaphore) × (key ≡ key_of l Main)
    × TakesFirst take_deeds x hears) ⊎ ((key ≡ key_of l Second) × TakesAside x hears)
MovesBy r l x hears (act.Take key whom.All) = (key ≡ key_of l Main) × TakesAll x hears
MovesBy r l x hears (act.Park k key check want) = MovesByAct l (is_recursive r.sort) x hears
    (act.Park k key check want) ⊎ ((k ≡ l) × (key ≡ key_of l Main) × RestsAfter x hears check want)
MovesBy r l x hears (act.Closure state) = ClosureAnswers x
MovesBy r l x hears (act.Leave keys wakes) = MovesByAct l (is_recursive r.sort) x hears (act.Leave keys wakes)
    ⊎ ((keys ≡ One (key_of l Main)) × TellsHanded x hears wakes)
MovesBy r l x hears act.Accept = Accepts x hears
MovesBy r l x hears (act.HandOver k op) = k ≡ l
MovesBy r l x hears y = MovesByAct l (is_recursive r.sort) x hears y

-- what a place says of its thread: its row, to which row or answer each reply leads, its deeds, and what it
-- may be told
pub record Says : Type 1 where
  pub row : Profile
  pub comes : Reply → Next Profile
  pub deeds : Option ℕ → Reply → List Deed
  pub hears : Hears

abbrev pub move_of : Says → StepView
move_of v = record { row = v.row; next = λ told. row_of (v.comes told); deeds = v.deeds }

-- a page: the laws of what a place says, at a lock with these rules
pub record Page (r : Rules) (l : ℕ) (v : Says) (y : Act) (owners : ℕ → ℕ → Owners → Owners) (shares : ℕ → ℕ
    → Option ℕ) : Type 0 where
  pub many : r.sort ≢ Mutex
  pub plain : r.sort ≢ Condvar
  pub word : (s : Site) (t : ℕ) (op : Op) → IsThere r s t v.row → standing t s.lock ≡ 0 → y ≡ act.Word l op
      → Follows r s t (move_of v) None (Value (code r s))
      × Leaves r s t (move_of v) op owners shares
      × CallFollows r s.lock t l v.row (v.deeds None (Value (code r s))) (v.comes (Value (code r s)))
  pub follows : (s : Site) (t : ℕ) (who : Option ℕ) (told : Reply) → IsThere r s t v.row
      → v.hears r s t who told
      → Follows r s t (move_of v) who told
  pub tells : (s : Site) (t : ℕ) (who : Option ℕ) (told : Reply) → IsThere r s t v.row
      → v.hears r s t who told → told ≢ Late
      → CallFollows r s.lock t l v.row (v.deeds who told) (v.comes told)
  pub moves : MovesBy r l (move_of v) v.hears y
  pub waits : CallWaits (move_of v)
  pub given : (u : ℕ) → v.row.hand ≡ hand u true → WasGiven (move_of v) u
  pub late : (m : Line) → v.row.late_line ≡ Some m → GoesIn (move_of v) v.hears m Late
  pub runs : (state : OnceState) → y ≡ act.Closure state → v.row.role.claims ≡ Some Runs
  pub promises : RowPromises r.sort l v.row y

-- where nobody is handed the lock while asleep
pub plainly_waits : (x : StepView) → RowWaits x → CallWaits x
plainly_waits x z = record { aside = z.aside; stands = z.stands; held = λ u h. (z.held u false h).1 }

pub never_given : (x : StepView) → RowWaits x → (u : ℕ) → x.row.hand ≡ hand u true → WasGiven x u
never_given x z u h = absurd (let e : true ≡ false = (z.held u true h).0 in cc)
