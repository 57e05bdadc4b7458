-- What each call trades, one table: the right that it gives up, the one that it gets, and the one for which it
-- may be pending. The table says to which lock a call changes rights, what its thread owns on its way, and what
-- the thread owns as it is answered.
use Rattle.std.specs.Prelude.{ℕ, Bool, true, Option, Some, None, ◌≡◌, ◌+◌, ◌⊎◌}
use Rattle.core_base.specs.declared.wants.Want.{Want}
use Rattle.core_base.specs.declared.wants.Want.TheVariants.{Exclusive}
use Rattle.spec_locks.specs.Locks.{Rights, putting, with_right}
use Rattle.spec_locks.specs.Purposes.{Purpose, Enters, Releases, Converts, Bumps, CallsOnce, Awaits, Waits}
use Rattle.spec_locks.specs.Purposes.{Notifies, lock_for}
use Rattle.spec_locks.specs.Runs.{LocksState, CallState, Keeps, rights_in}

pub record Trade : Type 0 where
  pub lock : ℕ
  pub lost : Option Want
  pub got : Option Want
  pub sought : Option Want

-- A bump and a wait, of its mutex, give their right up, and have it again as they end.
abbrev pub trade_of : Purpose → Option Trade
trade_of (Enters l x how) = Some (record { lock = l; lost = None; got = Some x; sought = Some x })
trade_of (Releases l x fair) = Some (record { lock = l; lost = Some x; got = None; sought = None })
trade_of (Converts l x y how) = Some (record { lock = l; lost = Some x; got = Some y; sought = Some y })
trade_of (Bumps l x) = Some (record { lock = l; lost = Some x; got = None; sought = Some x })
trade_of (CallsOnce l forced) = None
trade_of (Awaits l forced timed) = None
trade_of (Waits l m timed) = Some (record { lock = m; lost = Some Exclusive; got = None; sought = None })
trade_of (Notifies l all) = None

abbrev pub one_more : Option Want → Rights → Rights
one_more None r = r
one_more (Some x) r = with_right x r

-- the thread owns what it owned as its call c began, but for a right to l that it lost and one that it got
abbrev pub Trades : LocksState → ℕ → CallState → ℕ → (lost got : Option Want) → Type 0
Trades v t c l lost got = (k : ℕ) → putting (rights_in v t) l (one_more lost (rights_in v t l)) k
    ≡ putting c.former l (one_more got (c.former l)) k

-- the thread owns what it owned, but for the trade of its call, where it has made that
abbrev pub OwnsBy : Bool → Option Trade → LocksState → ℕ → CallState → Type 0
OwnsBy true (Some trade) v t c = Trades v t c trade.lock trade.lost trade.got
OwnsBy traded trade v t c = Keeps v t c

-- the lock to which a trade changes rights
abbrev pub ChangesAt : Option Trade → ℕ → Type 0
ChangesAt None l = ⊥
ChangesAt (Some trade) l = trade.lock ≡ l

-- the lock to which a call changes its thread's rights; a wait, to its mutex
abbrev pub MayChange : Option Purpose → ℕ → Type 0
MayChange None l = ⊥
MayChange (Some p) l = ChangesAt (trade_of p) l

-- ---------------------------------------------------------------- on the way

-- a pending right more
abbrev pub with_pending : Rights → Rights
with_pending r = record r { pending = r.pending + 1 }

-- the thread has a pending right in place of the one that it lost: readers are there yet
abbrev pub IsToWrite : LocksState → ℕ → CallState → ℕ → (lost : Option Want) → Type 0
IsToWrite v t c l lost = (k : ℕ) → putting (rights_in v t) l (one_more lost (rights_in v t l)) k
    ≡ putting c.former l (with_pending (c.former l)) k

-- the thread has made the trade, or is pending for what its call seeks
abbrev pub HasTraded : Option Want → Trade → LocksState → ℕ → CallState → Type 0
HasTraded None trade v t c = Trades v t c trade.lock trade.lost trade.got
HasTraded (Some x) trade v t c = Trades v t c trade.lock trade.lost trade.got
    ⊎ ((x ≡ Exclusive) × IsToWrite v t c trade.lock trade.lost)

abbrev pub IsTrading : ℕ → Option Trade → LocksState → ℕ → CallState → Type 0
IsTrading l None v t c = Trades v t c l None None
IsTrading l (Some trade) v t c = Trades v t c trade.lock None None ⊎ HasTraded trade.sought trade v t c

-- in its call c, of this purpose, the thread t owns what it owned as the call began; or it has lost the right
-- that the call gives up, and got the one that the call is for or is pending for that
abbrev pub IsOnItsWay : Option Purpose → LocksState → ℕ → CallState → Type 0
IsOnItsWay None v t c = Unit {0}
IsOnItsWay (Some p) v t c = IsTrading (lock_for p) (trade_of p) v t c
