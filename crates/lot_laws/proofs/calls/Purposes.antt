-- An event of a call leaves what the call is for, and what its thread owned as it began.
use Rattle.lot_laws.proofs.Imports
use Imports.{Some, None, ℕ, Bool, true, false, Option, if◌then◌else◌, ◌≡◌, refl, Rights, Pend, Settle, Leave}
use Imports.{Park, Aside, Wake, HandOff, OfOnce, OnceCase, Start, Finish, Fail, Rest, TakeAll, Purpose}
use Imports.{CondvarMemory, WasMoved, moved_of, LocksState, CallState, Event, Nothing, AtLock, after_wake}
use Imports.{going_on, is_among, is_taken_by, woken, Moves, gives_up}
use Rattle.spec_locks.specs.Locks.{Enter, Late}
use Rattle.spec_locks.specs.Locks as locks

once_keeps_purpose : (case : OnceCase) (l : ℕ) (c : CallState) → (going_on (AtLock l (OfOnce case)) c).purpose
    ≡ c.purpose
once_keeps_purpose (Start forced) l c = refl
once_keeps_purpose Finish l c = refl
once_keeps_purpose Fail l c = refl
once_keeps_purpose (Rest wanted forced) l c = refl
once_keeps_purpose TakeAll l c = refl

once_keeps_former : (case : OnceCase) (l : ℕ) (c : CallState) → (going_on (AtLock l (OfOnce case)) c).former
    ≡ c.former
once_keeps_former (Start forced) l c = refl
once_keeps_former Finish l c = refl
once_keeps_former Fail l c = refl
once_keeps_former (Rest wanted forced) l c = refl
once_keeps_former TakeAll l c = refl

late_keeps_purpose : (l : ℕ) (recalls : CondvarMemory) (c : CallState)
    → (gives_up l recalls c).purpose ≡ c.purpose
late_keeps_purpose l WasMoved c = refl
late_keeps_purpose l recalls c = refl

late_keeps_former : (l : ℕ) (recalls : CondvarMemory) (c : CallState)
    → (gives_up l recalls c).former ≡ c.former
late_keeps_former l WasMoved c = refl
late_keeps_former l recalls c = refl

-- an event leaves what the call is for, and what its thread owned as it began
pub purpose_stays : (e : Event) (c : CallState) → (going_on e c).purpose ≡ c.purpose
purpose_stays Nothing c = refl
purpose_stays (AtLock l Late) c = late_keeps_purpose l c.recalls c
purpose_stays (AtLock l (locks.OfCondvar (locks.Look None))) c = refl
purpose_stays (AtLock l (locks.OfCondvar (locks.Look (Some m)))) c = refl
purpose_stays (AtLock l (locks.OfCondvar case)) c = refl
purpose_stays (AtLock l (locks.SeeOwner owned)) c = refl
purpose_stays (Moves l m all owned number) c = refl
purpose_stays (AtLock l (Enter x)) c = refl
purpose_stays (AtLock l Pend) c = refl
purpose_stays (AtLock l Settle) c = refl
purpose_stays (AtLock l (Park x)) c = refl
purpose_stays (AtLock l Aside) c = refl
purpose_stays (AtLock l (Leave x)) c = refl
purpose_stays (AtLock l (HandOff x h)) c = refl
purpose_stays (AtLock l (OfOnce case)) c = once_keeps_purpose case l c
purpose_stays (AtLock l case) c = refl

pub former_stays : (e : Event) (c : CallState) → (going_on e c).former ≡ c.former
former_stays Nothing c = refl
former_stays (AtLock l Late) c = late_keeps_former l c.recalls c
former_stays (AtLock l (locks.OfCondvar (locks.Look None))) c = refl
former_stays (AtLock l (locks.OfCondvar (locks.Look (Some m)))) c = refl
former_stays (AtLock l (locks.OfCondvar case)) c = refl
former_stays (AtLock l (locks.SeeOwner owned)) c = refl
former_stays (Moves l m all owned number) c = refl
former_stays (AtLock l (Enter x)) c = refl
former_stays (AtLock l Pend) c = refl
former_stays (AtLock l Settle) c = refl
former_stays (AtLock l (Park x)) c = refl
former_stays (AtLock l Aside) c = refl
former_stays (AtLock l (Leave x)) c = refl
former_stays (AtLock l (HandOff x h)) c = refl
former_stays (AtLock l (OfOnce case)) c = once_keeps_former case l c
former_stays (AtLock l case) c = refl

-- A wake of its own leaves the purpose of a call.
pub woken_purpose : (w : LocksState) (t : ℕ) (e : Event) (c : CallState) → (woken w t e t c).purpose
    ≡ c.purpose
woken_purpose w t (AtLock l Wake) c = either (is_taken_by t ((w.locks l).taken t))
  where
    either : (b : Bool) → (if b then record c {
      retries = Some l;
      recalls = after_wake c.recalls;
    } else c).purpose ≡ c.purpose
    either true = refl
    either false = refl
woken_purpose w t (AtLock l (HandOff x h)) c = either (is_taken_by t ((w.locks l).taken t))
  where
    either : (b : Bool) → (if b then record c {
      retries = None;
      recalls = after_wake c.recalls;
    } else c).purpose ≡ c.purpose
    either true = refl
    either false = refl
woken_purpose w t (Moves l m all owned number) c = either (is_among t (moved_of all (w.locks l).queue))
  where
    either : (b : Bool) → (if b then record c { recalls = WasMoved } else c).purpose ≡ c.purpose
    either true = refl
    either false = refl
woken_purpose w t Nothing c = refl
woken_purpose w t (AtLock l case) c = refl

pub woken_former : (w : LocksState) (t : ℕ) (e : Event) (c : CallState) → (woken w t e t c).former ≡ c.former
woken_former w t (AtLock l Wake) c = either (is_taken_by t ((w.locks l).taken t))
  where
    either : (b : Bool) → (if b then record c {
      retries = Some l;
      recalls = after_wake c.recalls;
    } else c).former ≡ c.former
    either true = refl
    either false = refl
woken_former w t (AtLock l (HandOff x h)) c = either (is_taken_by t ((w.locks l).taken t))
  where
    either : (b : Bool) → (if b then record c {
      retries = None;
      recalls = after_wake c.recalls;
    } else c).former ≡ c.former
    either true = refl
    either false = refl
woken_former w t (Moves l m all owned number) c = either (is_among t (moved_of all (w.locks l).queue))
  where
    either : (b : Bool) → (if b then record c { recalls = WasMoved } else c).former ≡ c.former
    either true = refl
    either false = refl
woken_former w t Nothing c = refl
woken_former w t (AtLock l case) c = refl
