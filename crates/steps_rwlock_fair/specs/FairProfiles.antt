-- The rows of the places of a fair release, of a bump, and of the threads to which they hand the
-- lock.
use Rattle.std.specs.Prelude.{ℕ, Bool, true, false, Option, Some, None, if◌then◌else◌}
use Rattle.core_base.specs.declared.keys.Line.{Line}
use Rattle.core_base.specs.declared.keys.Line.TheVariants.{Main}
use Rattle.core_base.specs.declared.wants.Want.{Want}
use Rattle.spec_locks.specs.declared.calls.Patience.{Patience}
use Rattle.spec_locks.specs.Locks.{Rights}
use Rattle.spec_locks.specs.Purposes.{Purpose, Enters, Releases, Bumps}
use Rattle.spec_locks.specs.Runs.{one_more_at, one_less_at}
use Rattle.spec_locks.specs.Sites.{Claim, Has, Pends}
use Rattle.steps_base.specs.Profiles.{Hand, Profile, blank_row, hand, hand_owner, in_hand, in_line}
use Rattle.steps_rwlock.specs.declared.places.Admission.{Admission}
use Rattle.steps_rwlock.specs.declared.places.RwLockPlace.{RwLockPlace}
use Rattle.steps_rwlock.specs.declared.purposes.RwLockPurpose.{RwLockPurpose}
use Rattle.steps_rwlock.specs.declared.purposes.RwLockPurpose.TheVariants as purpose
use Rattle.steps_rwlock.specs.RwLockSteps.{wanted, access_of}
use Rattle.steps_rwlock.specs.RwLockProfiles.{is_timed, without_pending, rwlock_profile, rwlock_taker}
use Rattle.steps_rwlock.specs.RwLockProfiles.{rwlock_wants, rwlock_respin, rwlock_late_line, rwlock_owes}
use Rattle.steps_rwlock_fair.specs.declared.places.RwLockCallPlace.{RwLockCallPlace}
use Rattle.steps_rwlock_fair.specs.declared.places.RwLockCallPlace.TheVariants.{Plain, PeekQueue, HandOver}
use Rattle.steps_rwlock_fair.specs.declared.places.RwLockCallPlace.TheVariants.{Bump}
use Rattle.steps_rwlock_fair.specs.declared.places.RwLockCallPlace.TheVariants.{Handed}
use Rattle.steps_rwlock_fair.specs.declared.hand_over.Taken.{Taken}
use Rattle.steps_rwlock_fair.specs.declared.hand_over.HandOverAt.{HandOverAt}
use Rattle.steps_rwlock_fair.specs.declared.hand_over.HandOverAt.TheVariants as handing
use Rattle.steps_rwlock_fair.specs.declared.handed.HandedAt.{HandedAt}
use Rattle.steps_rwlock_fair.specs.declared.handed.HandedAt.TheVariants as handed
use Rattle.steps_rwlock_fair.specs.FairSteps.{any_taken, entering}
use Rattle.steps_rwlock_fair.specs.FairDeeds.{call_role, claim_at}

-- ---------------------------------------------------------------- bumps

-- the second half of a bump, which enters, began without the right that the bump found
abbrev pub bump_released : RwLockPurpose → Bool → Bool
bump_released (purpose.Enter x how) released = true
bump_released q released = released

abbrev pub bump_former : RwLockPurpose → ℕ → (ℕ → Rights) → ℕ → Rights
bump_former (purpose.Enter x how) l rights = one_more_at l (wanted x) rights
bump_former q l rights = rights

abbrev pub bumping : RwLockPurpose → Profile → Profile
bumping q row = record row {
  purpose = λ l. Bumps l (wanted (access_of q));
  released = bump_released q row.released;
  former = λ l rights. bump_former q l (row.former l rights);
}

-- ---------------------------------------------------------------- a thread that hands over

-- the waiters in its hand, to which it hands the lock
abbrev pub in_hand_at : HandOverAt → Option Taken
in_hand_at (handing.Store k) = Some k
in_hand_at (handing.Look k) = Some k
in_hand_at (handing.Exchange k seen) = Some k
in_hand_at to = None

abbrev pub carries_taken : Option Taken → Option Bool
carries_taken None = None
carries_taken (Some k) = in_hand (any_taken k) false

-- Whether a thread has handed the lock over.
abbrev pub carries_handing : HandOverAt → Option Bool
carries_handing (handing.Leave any handed) = in_hand any handed
carries_handing to = carries_taken (in_hand_at to)

-- from the step that saw waiters until the section is left
abbrev pub owes_handing : HandOverAt → Bool
owes_handing handing.Load = false
owes_handing (handing.Free seen) = false
owes_handing to = true

abbrev pub has_given : HandOverAt → Bool
has_given (handing.Leave any handed) = true
has_given to = false

abbrev pub release_purpose : Bool → Want → ℕ → Purpose
release_purpose bumps x l = if bumps then Bumps l x else Releases l x true

abbrev pub before_release : Bool → Want → ℕ → (ℕ → Rights) → ℕ → Rights
before_release given x l rights = if given then one_more_at l x rights else rights

-- ---------------------------------------------------------------- a thread that was handed the lock

abbrev pub hand_handed : HandedAt → Option Hand
hand_handed (handed.Asleep by alone) = hand by true
hand_handed handed.Accept = None

abbrev pub entry_purpose : Bool → Want → Patience → ℕ → Purpose
entry_purpose bumps x how l = if bumps then Bumps l x else Enters l x how

-- without what the call has got
abbrev pub without_claim : Claim → ℕ → (ℕ → Rights) → ℕ → Rights
without_claim (Has x) l rights = one_less_at l x rights
without_claim (Pends falls_back) l rights = without_pending l rights
without_claim c l rights = rights

abbrev pub before_handed : Bool → Want → Claim → ℕ → (ℕ → Rights) → ℕ → Rights
before_handed bumps x c l rights =
    if bumps then one_more_at l x (without_claim c l rights) else without_claim c l rights

-- ---------------------------------------------------------------- every place

abbrev pub call_profile : Admission → RwLockCallPlace → Profile
call_profile a (Plain p) = rwlock_profile a p
call_profile a (Bump p) = bumping p.purpose (rwlock_profile a p)
call_profile a (PeekQueue x) =
    record blank_row { role = call_role (PeekQueue x); purpose = λ l. Bumps l (wanted x) }
call_profile a (HandOver x b to) = record blank_row {
  role = call_role (HandOver x b to);
  has_taken = carries_handing to;
  owes = in_line (owes_handing to) Main;
  purpose = release_purpose b (wanted x);
  released = has_given to;
  former = before_release (has_given to) (wanted x);
}
call_profile a (Handed x how b to) = record blank_row {
  role = call_role (Handed x how b to);
  hand = hand_handed to;
  wants = Some (wanted x);
  timed = is_timed how;
  purpose = entry_purpose b (wanted x) how;
  released = b;
  former = before_handed b (wanted x) (claim_at (wanted x) to);
}

-- ---------------------------------------------------------------- the conditions on a place

abbrev pub call_taker : RwLockCallPlace → Option ℕ
call_taker (Plain p) = rwlock_taker p
call_taker (Bump p) = rwlock_taker p
call_taker (Handed x how b to) = hand_owner (hand_handed to)
call_taker c = None

abbrev pub call_wants : RwLockCallPlace → Option Want
call_wants (Plain p) = rwlock_wants p
call_wants (Bump p) = rwlock_wants p
call_wants (Handed x how b to) = Some (wanted x)
call_wants c = None

abbrev pub in_call : Bool → Option RwLockPlace → Option RwLockCallPlace
in_call bumps None = None
in_call bumps (Some p) = Some (entering bumps p)

-- from where it looks at the word once more, in place of an act that leads to sleep
abbrev pub call_respin : Admission → RwLockCallPlace → Option RwLockCallPlace
call_respin a (Plain p) = in_call false (rwlock_respin a p)
call_respin a (Bump p) = in_call true (rwlock_respin a p)
call_respin a c = None

abbrev pub call_late_line : RwLockCallPlace → Option Line
call_late_line (Plain p) = rwlock_late_line p
call_late_line (Bump p) = rwlock_late_line p
call_late_line c = None

abbrev pub call_owes : RwLockCallPlace → Option Line
call_owes (Plain p) = rwlock_owes p
call_owes (Bump p) = rwlock_owes p
call_owes (HandOver x b to) = in_line (owes_handing to) Main
call_owes c = None

abbrev pub call_retries : RwLockCallPlace → Bool
call_retries (Plain p) = p.retries
call_retries (Bump p) = p.retries
call_retries c = false
