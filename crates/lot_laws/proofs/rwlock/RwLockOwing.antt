-- A call of a reader-writer lock comes to owe a wake by the word that it sees, and by entering a
-- section. An event that befalls a thread changes nothing of that.
use Rattle.lot_laws.proofs.Imports
use Imports.{ℕ, Bool, true, false, Option, Some, None, if◌then◌else◌, ◌==◌, ◌&&◌, ◌≡◌, inl, inr, refl, sym, ◌∙◌}
use Imports.{ap, subst, Note, Access, Patience, Patient, Timed, Try, RwLockCall, Answer, Next, Reply}
use Imports.{outcome_of, in_line, Admission, RwLockPlace, RwLockAt, RwLockPurpose, Decision, ParkAt, WakeAt}
use Imports.{plus, decided, patience_of, patience_at, entered, looked_by, missed, came_in, came_in_for}
use Imports.{exchanged_next, after_count, rolled_back, gave_way_by, park_next, parks_at, looks_again, clears}
use Imports.{wake_next, next_at, rwlock_act, rwlock_next, act_at, Admits, rwlock_role, pends, StandsAt}
use Imports.{MayStand, RwLockCallPlace, Plain, PeekQueue, HandOver, Bump, Handed, HandOverAt, HandedAt}
use Imports.{call_first}
use Imports.{bump_ended, bump_next, given, glances, hand_over_next, handed_by, handed_next, handed_woken}
use Imports.{plain_next, unless_given, woken_with, call_profile, rwlock_profile, owes_at, late_line_at}
use Imports.{purpose_by, count_in, has_aside, has_parked, parked_in, aside_in, Rules, Sort, has_readers, RwLock}
use Imports.{next_place, line_owed, profile, rwlock_goes, State, word_at, reply_to, rules_in, line_let_in}
use Imports.{tells_by, tells_of}
use Rattle.core_base.specs.declared.keys.Line.{Line}
use Rattle.core_base.specs.declared.keys.Line.TheVariants.{Main, Second}
use Rattle.core_base.specs.declared.notes.Note.TheVariants as note
use Rattle.spec_locks.specs.declared.calls.Access.TheVariants as access
use Rattle.spec_locks.specs.declared.calls.RwLockCall.TheVariants as rwlock_call
use Rattle.spec_locks.specs.declared.outcomes.Answer.TheVariants as answer
use Rattle.steps_base.specs.declared.acts.Next.TheVariants as next
use Rattle.steps_base.specs.declared.acts.Reply.TheVariants as reply
use Rattle.steps_rwlock.specs.declared.places.RwLockAt.TheVariants as at
use Rattle.steps_rwlock.specs.declared.purposes.RwLockPurpose.TheVariants as purpose
use Rattle.steps_rwlock.specs.declared.enter.Decision.TheVariants as decisions
use Rattle.steps_rwlock.specs.declared.park.ParkAt.TheVariants as parking
use Rattle.steps_rwlock.specs.declared.release.WakeAt.TheVariants as waking
use Rattle.steps_rwlock.specs.RwLockSteps.{looked}
use Rattle.steps_rwlock_fair.specs.declared.hand_over.HandOverAt.TheVariants as handing
use Rattle.steps_rwlock_fair.specs.declared.handed.HandedAt.TheVariants as handed
use Rattle.steps_rwlock.specs.RwLockProfiles.{is_timed}
use Rattle.spec_locks.specs.Locks as sorts
use Rattle.lot_laws.proofs.calls.PlainCalls.{plain_goes, plain_does}
use Rattle.lot_laws.proofs.promises.RowPromises.{LetsIn, RowOwesNext, IsLateNext, Befalls}
use Rattle.lot_laws.proofs.rwlock.RwLockRows.{of, row_of, IsBefore, lesser, shut, shut_before, parking_inside}
use Rattle.lot_laws.proofs.rwlock.RwLockRows.{some_line}

-- ---------------------------------------------------------------- effects on another thread

-- a line is owed by the place alone
module _ (l : ℕ) (a : Admission) (k : ℕ) where
  park_taken : (p : RwLockPlace) (m : Line) (to : ParkAt) (u : ℕ)
      → line_owed (plain_goes l a (park_next p m to (reply.TakenBy u))) k
      ≡ (if l == k then owes_at (parks_at m to) else None)
  park_taken p Main parking.Asleep u = refl
  park_taken p Second parking.Asleep u = refl
  park_taken p Main to u = refl
  park_taken p Second to u = refl

  park_moved : (p : RwLockPlace) (m : Line) (to : ParkAt) (key : ℕ)
      → line_owed (plain_goes l a (park_next p m to (reply.MovedTo key))) k
      ≡ (if l == k then owes_at (parks_at m to) else None)
  park_moved p Main parking.Asleep u = refl
  park_moved p Second parking.Asleep u = refl
  park_moved p Main to u = refl
  park_moved p Second to u = refl

  park_handed : (p : RwLockPlace) (m : Line) (to : ParkAt) (u : ℕ) (alone : Bool)
      → line_owed (plain_goes l a (park_next p m to (reply.HandedBy u alone))) k
      ≡ (if l == k then owes_at (parks_at m to) else None)
  park_handed p Main parking.Asleep u alone = refl
  park_handed p Second parking.Asleep u alone = refl
  park_handed p Main to u alone = refl
  park_handed p Second to u alone = refl

  park_woken : (p : RwLockPlace) (m : Line) (to : ParkAt) (n : Note)
      → line_owed (plain_goes l a (park_next p m to (reply.Woken n))) k
      ≡ (if l == k then owes_at (parks_at m to) else None)
  park_woken p Main parking.Asleep note.Normal = refl
  park_woken p Second parking.Asleep note.Normal = refl
  park_woken p Main (parking.Taken by) note.Normal = refl
  park_woken p Second (parking.Taken by) note.Normal = refl
  park_woken p Main parking.Asleep note.HandOff = refl
  park_woken p Second parking.Asleep note.HandOff = refl
  park_woken p Main (parking.Taken by) note.HandOff = refl
  park_woken p Second (parking.Taken by) note.HandOff = refl
  park_woken p Main to n = refl
  park_woken p Second to n = refl

  befalls_parking : (p : RwLockPlace) (m : Line) (to : ParkAt) (r : Reply) → Befalls r
      → line_owed (plain_goes l a (park_next p m to r)) k ≡ (if l == k then owes_at (parks_at m to) else None)
  befalls_parking p m to (reply.TakenBy u) b = park_taken p m to u
  befalls_parking p m to (reply.MovedTo key) b = park_moved p m to key
  befalls_parking p m to (reply.HandedBy u alone) b = park_handed p m to u alone
  befalls_parking p m to (reply.Woken n) b = park_woken p m to n
  befalls_parking p m to r b = absurd b

  befalls_waking : (p : RwLockPlace) (m : Line) (to : WakeAt) (r : Reply) → Befalls r
      → line_owed (plain_goes l a (wake_next p m to r)) k ≡ (if l == k then owes_at (at.Wake m to) else None)
  befalls_waking p m to (reply.TakenBy u) b = by_place to
    where
      by_place : (to : WakeAt)
          → line_owed (plain_goes l a (wake_next p m to (reply.TakenBy u))) k
          ≡ (if l == k then Some m else None)
      by_place waking.Enter = refl
      by_place waking.Take = refl
      by_place (waking.Clear any) = refl
      by_place (waking.Leave any) = refl
  befalls_waking p m to (reply.MovedTo u) b = by_place to
    where
      by_place : (to : WakeAt)
          → line_owed (plain_goes l a (wake_next p m to (reply.MovedTo u))) k
          ≡ (if l == k then Some m else None)
      by_place waking.Enter = refl
      by_place waking.Take = refl
      by_place (waking.Clear any) = refl
      by_place (waking.Leave any) = refl
  befalls_waking p m to (reply.HandedBy u alone) b = by_place to
    where
      by_place : (to : WakeAt)
          → line_owed (plain_goes l a (wake_next p m to (reply.HandedBy u alone))) k
          ≡ (if l == k then Some m else None)
      by_place waking.Enter = refl
      by_place waking.Take = refl
      by_place (waking.Clear any) = refl
      by_place (waking.Leave any) = refl
  befalls_waking p m to (reply.Woken n) b = by_place to
    where
      by_place : (to : WakeAt)
          → line_owed (plain_goes l a (wake_next p m to (reply.Woken n))) k
          ≡ (if l == k then Some m else None)
      by_place waking.Enter = refl
      by_place waking.Take = refl
      by_place (waking.Clear any) = refl
      by_place (waking.Leave any) = refl
  befalls_waking p m to r b = absurd b

  -- a thread that is on no way into a queue, or out of it, hears nothing
  befalls_at : (p : RwLockPlace) (to : RwLockAt) (r : Reply) → Befalls r
      → line_owed (plain_goes l a (next_at a p to r)) k ≡ (if l == k then owes_at to else None)
  befalls_at p (at.Park to) r b = befalls_parking p Main to r b
  befalls_at p (at.Aside to) r b = befalls_parking p Second to r b
  befalls_at p (at.Wake m to) r b = befalls_waking p m to r b
  befalls_at p to (reply.TakenBy u) b = by_place to
    where
      by_place : (to : RwLockAt)
          → line_owed (plain_goes l a (next_at a p to (reply.TakenBy u))) k
          ≡ (if l == k then owes_at to else None)
      by_place (at.Park to) = befalls_parking p Main to (reply.TakenBy u) tt
      by_place (at.Aside to) = befalls_parking p Second to (reply.TakenBy u) tt
      by_place (at.Wake m to) = befalls_waking p m to (reply.TakenBy u) tt
      by_place (at.Decide seen) = refl
      by_place (at.Count seen) = refl
      by_place at.Marked = refl
      by_place to = refl
  befalls_at p to (reply.MovedTo u) b = by_place to
    where
      by_place : (to : RwLockAt)
          → line_owed (plain_goes l a (next_at a p to (reply.MovedTo u))) k
          ≡ (if l == k then owes_at to else None)
      by_place (at.Park to) = befalls_parking p Main to (reply.MovedTo u) tt
      by_place (at.Aside to) = befalls_parking p Second to (reply.MovedTo u) tt
      by_place (at.Wake m to) = befalls_waking p m to (reply.MovedTo u) tt
      by_place (at.Decide seen) = refl
      by_place (at.Count seen) = refl
      by_place at.Marked = refl
      by_place to = refl
  befalls_at p to (reply.HandedBy u alone) b = by_place to
    where
      by_place : (to : RwLockAt)
          → line_owed (plain_goes l a (next_at a p to (reply.HandedBy u alone))) k
          ≡ (if l == k then owes_at to else None)
      by_place (at.Park to) = befalls_parking p Main to (reply.HandedBy u alone) tt
      by_place (at.Aside to) = befalls_parking p Second to (reply.HandedBy u alone) tt
      by_place (at.Wake m to) = befalls_waking p m to (reply.HandedBy u alone) tt
      by_place (at.Decide seen) = refl
      by_place (at.Count seen) = refl
      by_place at.Marked = refl
      by_place to = refl
  befalls_at p to (reply.Woken n) b = by_place to
    where
      by_place : (to : RwLockAt)
          → line_owed (plain_goes l a (next_at a p to (reply.Woken n))) k ≡ (if l == k then owes_at to
          else None)
      by_place (at.Park to) = befalls_parking p Main to (reply.Woken n) tt
      by_place (at.Aside to) = befalls_parking p Second to (reply.Woken n) tt
      by_place (at.Wake m to) = befalls_waking p m to (reply.Woken n) tt
      by_place (at.Decide seen) = refl
      by_place (at.Count seen) = refl
      by_place at.Marked = refl
      by_place to = refl
  befalls_at p to r b = absurd b

nothing : (b : Bool) → ◌≡◌ {A = Option Line} (if b then None else None) None
nothing true = refl
nothing false = refl

-- a thread that is handed the lock owes nothing, and owed nothing
woken_owes : (a : Admission) (x : Access) (how : Patience) (b alone : Bool)
    → (call_profile a (handed_woken x how b alone)).owes ≡ None
woken_owes a access.Exclusive how b true = refl
woken_owes a access.Exclusive how true false = refl
woken_owes a access.Exclusive how false false = refl
woken_owes a access.Shared how b alone = refl
woken_owes a access.Upgradable how b alone = refl

given_owed : (a : Admission) (b : Bool) (p : RwLockPlace) (r : Reply) (c : RwLockCallPlace) → given b p r
    ≡ Some c
    → ((call_profile a c).owes ≡ None) × (owes_at p.at ≡ None)
given_owed a b p (reply.HandedBy u alone) c e = by_place p.purpose p.at e
  where
    by_place : (q : RwLockPurpose) (to : RwLockAt) → handed_by b q to u alone ≡ Some c
        → ((call_profile a c).owes ≡ None) × (owes_at to ≡ None)
    by_place (purpose.Enter x how) (at.Park (parking.Taken v)) e = (
      let f : Handed x how b (handed.Asleep u alone) ≡ c = cc
          in subst (λ (d : RwLockCallPlace). (call_profile a d).owes ≡ None) f refl,
      refl,
    )
    by_place (purpose.Enter x how) (at.Park to) e = absurd cc
    by_place q to e = absurd cc
given_owed a b p (reply.Woken note.HandOff) c e = by_place p.purpose p.at e
  where
    by_place : (q : RwLockPurpose) (to : RwLockAt) → woken_with b q to ≡ Some c
        → ((call_profile a c).owes ≡ None) × (owes_at to ≡ None)
    by_place (purpose.Enter x how) (at.Park parking.Asleep) e = (
      let f : handed_woken x how b false ≡ c = cc
          in subst (λ (d : RwLockCallPlace). (call_profile a d).owes ≡ None) f (woken_owes a x how b false),
      refl,
    )
    by_place (purpose.Enter x how) (at.Park to) e = absurd cc
    by_place q to e = absurd cc
given_owed a b p (reply.Woken n) c e = absurd cc
given_owed a b p r c e = absurd cc

-- a bump that enters again owes nothing yet
bump_owed : (l : ℕ) (a : Admission) (q : RwLockPurpose) (n : Next RwLockPlace) (k : ℕ)
    → line_owed (rwlock_goes l a (bump_next q n)) k ≡ line_owed (plain_goes l a n) k
bump_owed l a q (next.At p) k = refl
bump_owed l a q (next.End answer) k = by_purpose q
  where
    by_purpose : (q : RwLockPurpose) → line_owed (rwlock_goes l a (bump_ended q answer)) k ≡ None
    by_purpose (purpose.Release access.Shared) = nothing (l == k)
    by_purpose (purpose.Release access.Upgradable) = nothing (l == k)
    by_purpose (purpose.Release access.Exclusive) = nothing (l == k)
    by_purpose q = refl

-- a thread owes what it owed, with all that befalls it
module _ (l : ℕ) (a : Admission) (r : Reply) (k : ℕ) where
  if_given : (p : RwLockPlace) (o : Option RwLockCallPlace) (n : Next RwLockCallPlace)
      → ((c : RwLockCallPlace) → o ≡ Some c → ((call_profile a c).owes ≡ None) × (owes_at p.at ≡ None))
      → line_owed (rwlock_goes l a n) k ≡ (if l == k then owes_at p.at else None)
      → line_owed (rwlock_goes l a (unless_given o n)) k ≡ (if l == k then owes_at p.at else None)
  if_given p None n owed h = h
  if_given p (Some c) n owed h = ap (λ x. if l == k then x else None) ((owed c refl).0 ∙ sym (owed c refl).1)

  handed_next_owes : (x : Access) (how : Patience) (b : Bool) (to : HandedAt) (r : Reply) → Befalls r
      → line_owed (rwlock_goes l a (handed_next x how b to r)) k ≡ None
  handed_next_owes x how b (handed.Asleep u alone) (reply.Woken note.HandOff) h =
      ap (λ o. if l == k then o else None) (woken_owes a x how b alone) ∙ nothing (l == k)
  handed_next_owes x how b to (reply.Woken n) h = nothing (l == k)
  handed_next_owes x how b to (reply.TakenBy v) h = nothing (l == k)
  handed_next_owes x how b to (reply.MovedTo key) h = nothing (l == k)
  handed_next_owes x how b to (reply.HandedBy v c) h = nothing (l == k)
  handed_next_owes x how b to r h = absurd h

  -- the thread stays where it stands
  stays_owing : (x : Access) (b : Bool) (to : HandOverAt) (r : Reply) → Befalls r
      → hand_over_next a x b to r ≡ next.At (HandOver x b to)
  stays_owing x b handing.Load (reply.Woken n) h = refl
  stays_owing x b to (reply.Woken n) h = refl
  stays_owing x b to (reply.TakenBy v) h = refl
  stays_owing x b to (reply.MovedTo key) h = refl
  stays_owing x b to (reply.HandedBy v c) h = refl
  stays_owing x b to r h = absurd h

  glance_stays : (x : Access) (r : Reply) → Befalls r → glances a x r ≡ next.At (PeekQueue x)
  glance_stays x (reply.Woken n) h = refl
  glance_stays x (reply.TakenBy v) h = refl
  glance_stays x (reply.MovedTo key) h = refl
  glance_stays x (reply.HandedBy v c) h = refl
  glance_stays x r h = absurd h

  pub rwlock_befallen : (c : RwLockCallPlace) → Befalls r → line_owed (next_place (RwLock l a c) r) k
      ≡ line_owed (RwLock l a c) k
  rwlock_befallen (Plain p) b = if_given p (given false p r) (plain_next (rwlock_next a p r))
      (given_owed a false p r) (befalls_at l a k p p.at r b)
  rwlock_befallen (Bump p) b = if_given p (given true p r) (bump_next p.purpose (rwlock_next a p r))
      (given_owed a true p r) (bump_owed l a p.purpose (rwlock_next a p r) k ∙ befalls_at l a k p p.at r b)
  rwlock_befallen (PeekQueue x) b = ap (λ n. line_owed (rwlock_goes l a n) k) (glance_stays x r b)
  rwlock_befallen (HandOver x y to) b = ap (λ n. line_owed (rwlock_goes l a n) k) (stays_owing x y to r b)
  rwlock_befallen (Handed x how y to) b = handed_next_owes x how y to r b ∙ sym (nothing (l == k))

-- ---------------------------------------------------------------- the thread of the step

-- the thread owes only where it is inside
abbrev pub IsWithin : Next RwLockPlace → Type 0
IsWithin (next.At p) = (m : Line) → owes_at p.at ≡ Some m → (rwlock_role p).inside ≡ Some m
IsWithin (next.End x) = Unit {0}

-- at a place that is no wake's
abbrev pub IsQuiet : RwLockAt → Type 0
IsQuiet (at.Wake m to) = ⊥
IsQuiet to = Unit {0}

quiet_within : (q : RwLockPurpose) (again : Bool) (to : RwLockAt) → IsQuiet to
    → IsWithin (next.At (of q again to))
quiet_within q again (at.Park to) h m e = parking_inside Main _ None to ∙ e
quiet_within q again (at.Aside to) h m e = parking_inside Second _ (pends q) to ∙ e
quiet_within q again (at.Wake n to) h m e = absurd h
quiet_within q again to h m e = absurd cc

-- the thread goes on to no wake
abbrev pub IsQuietNext : Next RwLockPlace → Type 0
IsQuietNext (next.At p) = IsQuiet p.at
IsQuietNext (next.End x) = Unit {0}

pub quiet_next : (n : Next RwLockPlace) → IsQuietNext n → IsWithin n
quiet_next (next.At p) h = quiet_within p.purpose p.retries p.at h
quiet_next (next.End x) h = tt

if_quiet : (b : Bool) (n m : Next RwLockPlace) → IsQuietNext n → IsQuietNext m
    → IsQuietNext (if b then n else m)
if_quiet true n m h k = h
if_quiet false n m h k = k

looked_quiet : (p : RwLockPlace) (seen : ℕ) (d : Decision) → IsQuietNext (looked_by p seen d)
looked_quiet p seen decisions.Take = tt
looked_quiet p seen decisions.Mark = tt
looked_quiet p seen decisions.Park = tt
looked_quiet p seen (decisions.Refuse x) = tt

missed_quiet : (p : RwLockPlace) (how : Patience) → IsQuietNext (missed p how)
missed_quiet p Try = tt
missed_quiet p Patient = tt
missed_quiet p Timed = tt

came_quiet : (p : RwLockPlace) (q : RwLockPurpose) → IsQuietNext (came_in_for p q)
came_quiet p (purpose.Enter access.Exclusive how) = tt
came_quiet p (purpose.Enter x how) = tt
came_quiet p q = tt

exchanged_quiet : (a : Admission) (p : RwLockPlace) (e seen : ℕ) (d : Decision)
    → IsQuietNext (exchanged_next a p e seen d)
exchanged_quiet a p e seen decisions.Take = if_quiet (seen == e) (came_in p) (looked a p seen)
    (came_quiet p p.purpose) (looked_quiet p seen (decided a p seen))
exchanged_quiet a p e seen decisions.Mark = if_quiet (seen == e) (next.At (record {
  purpose = p.purpose;
  retries = p.retries;
  at = at.Decide (plus e 1);
})) (looked a p seen) tt (looked_quiet p seen (decided a p seen))
exchanged_quiet a p e seen decisions.Park = looked_quiet p seen (decided a p seen)
exchanged_quiet a p e seen (decisions.Refuse x) = looked_quiet p seen (decided a p seen)

counted_quiet : (p : RwLockPlace) (seen : ℕ) → IsQuietNext (after_count p seen)
counted_quiet p seen = if_quiet (count_in seen == 0) (next.End (entered (patience_at p))) (next.At (record {
  purpose = p.purpose;
  retries = p.retries;
  at = at.Count seen;
})) tt tt

at_parks : (m : Line) (to : ParkAt) → IsQuiet (parks_at m to)
at_parks Main to = tt
at_parks Second to = tt

again_quiet : (m : Line) → IsQuiet (looks_again m)
again_quiet Main = tt
again_quiet Second = tt

park_quiet : (p : RwLockPlace) (m : Line) (to : ParkAt) (told : Reply) → IsQuietNext (park_next p m to told)
park_quiet p m parking.Check (reply.Parked b) = at_parks m (parking.Leave b)
park_quiet p m (parking.Leave true) reply.Done = at_parks m parking.Asleep
park_quiet p m (parking.Leave false) reply.Done = again_quiet m
park_quiet p m parking.Asleep (reply.TakenBy by) = at_parks m (parking.Taken by)
park_quiet p m parking.Asleep (reply.Woken note.Normal) = again_quiet m
park_quiet p m parking.Asleep (reply.Woken note.HandOff) = at_parks m parking.Asleep
park_quiet p m (parking.Taken by) (reply.Woken note.Normal) = again_quiet m
park_quiet p m (parking.Taken by) (reply.Woken note.HandOff) = at_parks m (parking.Taken by)
park_quiet p m parking.Asleep reply.Late = at_parks m parking.Remove
park_quiet p m parking.Remove (reply.Removed b) = at_parks m (if clears m b then parking.Clear
    else parking.GiveUp)
park_quiet p m parking.Clear (reply.Value seen) = at_parks m parking.GiveUp
park_quiet p Main parking.GiveUp reply.Done = tt
park_quiet p Second parking.GiveUp reply.Done = tt
park_quiet p m to told = at_parks m to

-- before it gives up or gives way, whatever it is told
pub before_quiet : (a : Admission) (p : RwLockPlace) (to : RwLockAt) → IsBefore to → (told : Reply)
    → IsQuietNext (next_at a p to told)
before_quiet a p at.First h (reply.Value seen) = if_quiet (seen == 0) (next.End (entered (patience_at p)))
    (missed p (patience_at p)) tt (missed_quiet p (patience_at p))
before_quiet a p at.First h told = tt
before_quiet a p at.Load h (reply.Value seen) = looked_quiet p seen (decided a p seen)
before_quiet a p at.Load h told = tt
before_quiet a p (at.Decide e) h (reply.Value seen) = exchanged_quiet a p e seen (decided a p e)
before_quiet a p (at.Decide e) h reply.Done = tt
before_quiet a p (at.Decide e) h told = tt
before_quiet a p (at.Park to) h told = park_quiet p Main to told
before_quiet a p at.Look h (reply.Value seen) = counted_quiet p seen
before_quiet a p at.Look h told = tt
before_quiet a p (at.Count e) h (reply.Value seen) = if_quiet (seen == e) (next.At (record {
  purpose = p.purpose;
  retries = p.retries;
  at = at.Marked;
})) (after_count p seen) tt (counted_quiet p seen)
before_quiet a p (at.Count e) h reply.Done = tt
before_quiet a p (at.Count e) h told = tt
before_quiet a p at.Marked h reply.Done = tt
before_quiet a p at.Marked h told = tt
before_quiet a p (at.Aside to) h told = park_quiet p Second to told
before_quiet a p to h told = absurd h

-- the parked bits are those of a reader-writer lock
pub parked_is : (s : Sort) (v : ℕ) → has_readers s ≡ true → parked_in s v ≡ has_parked v
parked_is sorts.Normal v e = refl
parked_is sorts.Recursive v e = refl
parked_is s v e = absurd cc

pub aside_is : (s : Sort) (v : ℕ) → has_readers s ≡ true → aside_in s v ≡ has_aside v
aside_is sorts.Normal v e = refl
aside_is sorts.Recursive v e = refl
aside_is s v e = absurd cc

-- a call that hands nothing over sees waiters by their own bits
pub plain_tells : (s : Sort) (l : ℕ) (q : RwLockPurpose) (m : Line) (v : ℕ)
    → tells_by s (Some (purpose_by q l)) m v ≡ tells_of s m v
plain_tells s l (purpose.Enter x how) m v = refl
plain_tells s l (purpose.Release access.Shared) m v = refl
plain_tells s l (purpose.Release access.Upgradable) m v = refl
plain_tells s l (purpose.Release access.Exclusive) m v = refl
plain_tells s l (purpose.Downgrade d) m v = refl
plain_tells s l (purpose.Upgrade how) m v = refl

-- where the reply leads a thread
abbrev pub OwesNext : Rules → Admission → ℕ → ℕ → RwLockPlace → Next RwLockPlace → Type 0
OwesNext r a l word p n = RowOwesNext r.sort l word (rwlock_profile a p) (outcome_of (plain_does l a n))
    (profile (plain_goes l a n))

module _ (r : Rules) (readers : has_readers r.sort ≡ true) (a : Admission) (l word : ℕ) where
  next_within : (n : Next RwLockPlace) → IsWithin n → (m : Line) → (profile (plain_goes l a n)).owes ≡ Some m
      → (profile (plain_goes l a n)).role.inside ≡ Some m
  next_within (next.At p) h m e = h m e
  next_within (next.End x) h m e = absurd cc

  quiet : (q : RwLockPurpose) (again : Bool) (to : RwLockAt) → StandsAt q again to → IsBefore to
      → (told : Reply)
      → OwesNext r a l word (of q again to) (next_at a (of q again to) to told)
  quiet q again to stands before told = record {
    since = λ m h. inl (next_within (next_at a (of q again to) to told)
        (quiet_next (next_at a (of q again to) to told) (before_quiet a (of q again to) to before told)) m h);
    sees = λ m s step. absurd (shut_before r readers a l q again to stands before s.0);
  }

  ended : (p : RwLockPlace) (x : Answer) → OwesNext r a l word p (next.End x)
  ended p x = record { since = λ m h. absurd cc; sees = λ m s step. absurd cc }

  -- the thread has given way, or has given up, and wakes others where it saw them
  frees : (q : RwLockPurpose) (again : Bool) (to : RwLockAt) (m : Line)
      → LetsIn r.sort l (row_of a q again to)
      → line_let_in r.sort (Some (purpose_by q l)) ≡ m → (x : Answer) (b : Bool) → tells_of r.sort m word ≡ b
      → OwesNext r a l word (of q again to) (if b then next.At (of q again (at.Wake m waking.Enter))
      else next.End x)
  frees q again to m lets line x false tells = ended (of q again to) x
  frees q again to m lets line x true tells = record {
    since = λ n h. let e : m ≡ n = some_line m n h
        in inr ((lets, line ∙ e, subst (λ k. tells_of r.sort k word ≡ true) e tells), refl);
    sees = λ n s step. ap Some (sym line ∙ s.1);
  }

  gives_way : (q : RwLockPurpose) (again : Bool) → StandsAt q again at.GiveWay
      → OwesNext r a l word (of q again at.GiveWay) (gave_way_by (of q again at.GiveWay) word q)
  gives_way (purpose.Release access.Shared) again stands = frees (purpose.Release access.Shared) again
      at.GiveWay Second (inl refl) (ap (λ b. if b then Second else Main) readers) answer.Ok
      (has_aside word && (count_in word == 1)) (ap (λ b. b && (count_in word == 1))
      (aside_is r.sort word readers))
  gives_way (purpose.Release access.Upgradable) again stands = frees (purpose.Release access.Upgradable) again
      at.GiveWay Main (inl refl) refl answer.Ok (has_parked word) (parked_is r.sort word readers)
  gives_way (purpose.Release access.Exclusive) again stands = frees (purpose.Release access.Exclusive) again
      at.GiveWay Main (inl refl) refl answer.Ok (has_parked word) (parked_is r.sort word readers)
  gives_way (purpose.Downgrade d) again stands = frees (purpose.Downgrade d) again at.GiveWay Main
      (inr (readers, inl (refl, lesser d))) refl answer.Ok (has_parked word)
      (parked_is r.sort word readers)
  gives_way (purpose.Upgrade how) again stands = either (count_in word == 1)
    where
      lets_nobody : LetsIn r.sort l (row_of a (purpose.Upgrade how) again at.GiveWay) → ⊥
      lets_nobody lets = shut r readers a l (purpose.Upgrade how) again at.GiveWay tt (λ h out. let e : false
          ≡ true = h in cc) lets

      either : (b : Bool)
          → OwesNext r a l word (of (purpose.Upgrade how) again at.GiveWay)
          (if b then next.End (entered how) else next.At (of (purpose.Upgrade how) false at.Look))
      either true = ended (of (purpose.Upgrade how) again at.GiveWay) (entered how)
      either false = record { since = λ m h. absurd cc; sees = λ m s step. absurd (lets_nobody s.0) }
  gives_way (purpose.Enter access.Exclusive how) again stands = absurd stands
  gives_way (purpose.Enter access.Shared how) again stands = absurd stands
  gives_way (purpose.Enter access.Upgradable how) again stands = absurd stands

  rolls_back : (q : RwLockPurpose) (again : Bool) → StandsAt q again at.RollBack
      → OwesNext r a l word (of q again at.RollBack) (rolled_back (of q again at.RollBack) word)
  rolls_back (purpose.Enter x how) again stands = frees (purpose.Enter x how) again at.RollBack Main
      (inr (readers, inr (refl, refl))) refl answer.No (has_parked word)
      (parked_is r.sort word readers)
  rolls_back (purpose.Upgrade how) again stands = frees (purpose.Upgrade how) again at.RollBack Main
      (inr (readers, inr (refl, refl))) refl answer.No (has_parked word)
      (parked_is r.sort word readers)
  rolls_back (purpose.Release access.Shared) again stands = absurd stands
  rolls_back (purpose.Release access.Upgradable) again stands = absurd stands
  rolls_back (purpose.Release access.Exclusive) again stands = absurd stands
  rolls_back (purpose.Downgrade d) again stands = absurd stands

  -- the line that it wakes is the one that its call lets in
  line_wake : (q : RwLockPurpose) (again : Bool) (m : Line) (to : WakeAt) → StandsAt q again (at.Wake m to)
      → line_let_in r.sort (Some (purpose_by q l)) ≡ m
  line_wake (purpose.Release access.Shared) again Second to stands = ap (λ b. if b then Second else Main)
      readers
  line_wake (purpose.Release access.Shared) again Main to stands = absurd stands
  line_wake (purpose.Release access.Upgradable) again Main to stands = refl
  line_wake (purpose.Release access.Upgradable) again Second to stands = absurd stands
  line_wake (purpose.Release access.Exclusive) again Main to stands = refl
  line_wake (purpose.Release access.Exclusive) again Second to stands = absurd stands
  line_wake (purpose.Downgrade d) again Main to stands = refl
  line_wake (purpose.Downgrade d) again Second to stands = absurd stands
  line_wake (purpose.Enter x how) again Main to stands = refl
  line_wake (purpose.Enter access.Exclusive how) again Second to stands = absurd stands
  line_wake (purpose.Enter access.Shared how) again Second to stands = absurd stands
  line_wake (purpose.Enter access.Upgradable how) again Second to stands = absurd stands
  line_wake (purpose.Upgrade how) again Main to stands = refl
  line_wake (purpose.Upgrade Patient) again Second to stands = absurd stands
  line_wake (purpose.Upgrade Timed) again Second to stands = absurd stands
  line_wake (purpose.Upgrade Try) again Second to stands = absurd stands

  -- the thread goes on inside the section of the line that it wakes
  goes_on : (q : RwLockPurpose) (again : Bool) (m : Line) (to then_at : WakeAt)
      → StandsAt q again (at.Wake m to)
      → (rwlock_role (of q again (at.Wake m then_at))).inside ≡ Some m
      → OwesNext r a l word (of q again (at.Wake m to)) (next.At (of q again (at.Wake m then_at)))
  goes_on q again m to then_at stands inside = record {
    since = λ n h. inl (inside ∙ h);
    sees = λ n s step. ap Some (sym (line_wake q again m to stands) ∙ s.1);
  }

module _ (w : State) (t l : ℕ) (a : Admission) (admits : Admits (rules_in w l) a) where
  wakes_next : (q : RwLockPurpose) (again : Bool) (m : Line) (to : WakeAt) → StandsAt q again (at.Wake m to)
      → OwesNext (rules_in w l) a l (word_at w l) (of q again (at.Wake m to))
      (wake_next (of q again (at.Wake m to)) m to
      (reply_to w t (act_at l a (of q again (at.Wake m to)) (at.Wake m to))))
  wakes_next q again m waking.Enter stands = goes_on (rules_in w l) admits.0 a l (word_at w l) q again m
      waking.Enter waking.Take stands refl
  wakes_next q again Main waking.Take stands = either _ _
    where
      either : (b : Bool) (any : Bool)
          → OwesNext (rules_in w l) a l (word_at w l) (of q again (at.Wake Main waking.Take))
          (next.At (of q again (at.Wake Main (if b then waking.Clear any else waking.Leave any))))
      either true any = goes_on (rules_in w l) admits.0 a l (word_at w l) q again Main waking.Take
          (waking.Clear any) stands refl
      either false any = goes_on (rules_in w l) admits.0 a l (word_at w l) q again Main waking.Take
          (waking.Leave any) stands refl
  wakes_next q again Second waking.Take stands = goes_on (rules_in w l) admits.0 a l (word_at w l) q again
      Second waking.Take (waking.Clear _) stands refl
  wakes_next q again m (waking.Clear any) stands = goes_on (rules_in w l) admits.0 a l (word_at w l) q again m
      (waking.Clear any) (waking.Leave any) stands refl
  wakes_next q again m (waking.Leave any) stands = ended (rules_in w l) admits.0 a l (word_at w l)
      (of q again (at.Wake m (waking.Leave any))) _

  by_parts : (q : RwLockPurpose) (again : Bool) (to : RwLockAt) → StandsAt q again to
      → OwesNext (rules_in w l) a l (word_at w l) (of q again to)
      (next_at a (of q again to) to (reply_to w t (act_at l a (of q again to) to)))
  by_parts q again at.RollBack stands = rolls_back (rules_in w l) admits.0 a l (word_at w l) q again stands
  by_parts q again at.GiveWay stands = gives_way (rules_in w l) admits.0 a l (word_at w l) q again stands
  by_parts q again (at.Wake m to) stands = wakes_next q again m to stands
  by_parts q again to stands = quiet (rules_in w l) admits.0 a l (word_at w l) q again to stands tt
      (reply_to w t (act_at l a (of q again to) to))

  pub rwlock_owes_next : (p : RwLockPlace) → MayStand a p
      → OwesNext (rules_in w l) a l (word_at w l) p (rwlock_next a p (reply_to w t (rwlock_act l a p)))
  rwlock_owes_next p stands = by_parts p.purpose p.retries p.at stands.place

-- ---------------------------------------------------------------- the other turns

-- a call begins before it owes anything
pub rwlock_first_owes : (a : Admission) (c : RwLockCall) → (call_profile a (call_first c)).owes ≡ None
rwlock_first_owes a (rwlock_call.Enter access.Exclusive how) = refl
rwlock_first_owes a (rwlock_call.Enter access.Shared how) = refl
rwlock_first_owes a (rwlock_call.Enter access.Upgradable how) = refl
rwlock_first_owes a (rwlock_call.Release x) = refl
rwlock_first_owes a (rwlock_call.Downgrade d) = refl
rwlock_first_owes a (rwlock_call.Upgrade Try) = refl
rwlock_first_owes a (rwlock_call.Upgrade how) = refl
rwlock_first_owes a (rwlock_call.ReleaseFair access.Shared) = refl
rwlock_first_owes a (rwlock_call.ReleaseFair access.Upgradable) = refl
rwlock_first_owes a (rwlock_call.ReleaseFair access.Exclusive) = refl
rwlock_first_owes a (rwlock_call.Bump x) = refl

-- a thread whose time is up is then awake, inside the section of the line where it slept
asleep_in : (b : Bool) (n m : Line) → in_line b n ≡ Some m → n ≡ m
asleep_in true n m h = some_line n m h
asleep_in false n m h = absurd cc

plain_late : (l : ℕ) (a : Admission) (p : RwLockPlace) (to : RwLockAt) (m : Line)
    → late_line_at (patience_of p.purpose) to ≡ Some m
    → IsLateNext (plain_goes l a (next_at a p to reply.Late)) m
plain_late l a p (at.Park parking.Asleep) m h = let e : Main ≡ m =
    asleep_in (is_timed (patience_of p.purpose)) Main m h in record {
      inside = ap Some e;
      owes = ap Some e;
      awake = λ x. cc;
    }
plain_late l a p (at.Aside parking.Asleep) m h = let e : Second ≡ m =
    asleep_in (is_timed (patience_of p.purpose)) Second m h in record {
      inside = ap Some e;
      owes = ap Some e;
      awake = λ x. cc;
    }
plain_late l a p (at.Park to) m h = absurd cc
plain_late l a p (at.Aside to) m h = absurd cc
plain_late l a p to m h = absurd cc

-- in a bump too
bump_late : (l : ℕ) (a : Admission) (p : RwLockPlace) (to : RwLockAt) (m : Line)
    → late_line_at (patience_of p.purpose) to ≡ Some m
    → IsLateNext (rwlock_goes l a (bump_next p.purpose (next_at a p to reply.Late))) m
bump_late l a p (at.Park parking.Asleep) m h = let e : Main ≡ m = asleep_in (is_timed (patience_of p.purpose))
    Main m h in record {
      inside = ap Some e;
      owes = ap Some e;
      awake = λ x. cc;
    }
bump_late l a p (at.Aside parking.Asleep) m h = let e : Second ≡ m =
    asleep_in (is_timed (patience_of p.purpose)) Second m h in record {
      inside = ap Some e;
      owes = ap Some e;
      awake = λ x. cc;
    }
bump_late l a p (at.Park to) m h = absurd cc
bump_late l a p (at.Aside to) m h = absurd cc
bump_late l a p to m h = absurd cc

pub rwlock_late : (l : ℕ) (a : Admission) (c : RwLockCallPlace) (m : Line) → (call_profile a c).late_line
    ≡ Some m
    → IsLateNext (next_place (RwLock l a c) reply.Late) m
rwlock_late l a (Plain p) m h = plain_late l a p p.at m h
rwlock_late l a (Bump p) m h = bump_late l a p p.at m h
rwlock_late l a (PeekQueue x) m h = absurd cc
rwlock_late l a (HandOver x b to) m h = absurd cc
rwlock_late l a (Handed x how b to) m h = absurd cc
