-- Where each step of a fair release and of a bump takes its thread in the machine, and where those go that
-- are handed the lock.
use Rattle.std.specs.Prelude.{ℕ, Bool, true, false, Some, None, ◌≡◌, ◌⊎◌}
use Rattle.core_base.specs.declared.keys.Keys.TheVariants.{One}
use Rattle.core_base.specs.declared.keys.Line.{Line}
use Rattle.core_base.specs.declared.keys.Line.TheVariants.{Main, Second}
use Rattle.core_base.specs.declared.ops.Op.{Op}
use Rattle.core_base.specs.declared.wants.Want.{Want}
use Rattle.core_base.specs.declared.wants.Want.TheVariants.{Exclusive}
use Rattle.core_base.specs.Keys.{key_of}
use Rattle.steps_base.specs.declared.acts.Act.{Act}
use Rattle.steps_base.specs.declared.acts.Act.TheVariants as act
use Rattle.steps_base.specs.declared.acts.Reply.TheVariants.{Late}
use Rattle.spec_locks.specs.Sites.{Pends}
use Rattle.steps_base.specs.Moves.{StepView, Hears, MovesByAct, GoesIn, TellsHanded, Accepts, Sleeps, IsHeld}
use Rattle.steps_base.specs.Moves.{HandsOver as Hands, IsGiven, WasGiven, row_of, location_of}
use Rattle.steps_base.specs.Profiles.{hand}
use Rattle.steps_rwlock.specs.declared.places.Admission.{Admission}
use Rattle.steps_rwlock_fair.specs.declared.places.RwLockCallPlace.{RwLockCallPlace}
use Rattle.steps_rwlock_fair.specs.declared.hand_over.Taken.{Taken}
use Rattle.steps_rwlock_fair.specs.FairSteps.{call_act, call_next}
use Rattle.steps_rwlock_fair.specs.FairDeeds.{call_deeds}
use Rattle.steps_rwlock_fair.specs.FairProfiles.{call_profile, call_late_line}
use Rattle.steps_rwlock_fair.specs.FairCalls.{CallStands, CallMayHear, in_hand_of}
use Rattle.steps_rwlock_fair.specs.FairLaws.{next_rows}

abbrev pub call_move : Admission → RwLockCallPlace → StepView
call_move a c = record {
  row = call_profile a c;
  next = λ told. row_of (next_rows a (call_next a c told));
  deeds = call_deeds a c;
}

-- the step that hands over does so as its act says
abbrev pub HandOversMove : Type 0
HandOversMove =
    (l k : ℕ) (a : Admission) (c : RwLockCallPlace) (op : Op) (taken : Taken) → CallStands a c
    → in_hand_of c ≡ Some taken
    → call_act l a c ≡ act.HandOver k op
    → (k ≡ l) × Hands (call_move a c) op

-- a thread in a hand that has nothing of the lock yet may be handed it; and one that was handed it has it
-- from its wake on
pub record IsMoved (a : Admission) (c : RwLockCallPlace) : Type 0 where
  pub given : (u : ℕ) (alone : Bool) (x : Want) → (call_profile a c).hand ≡ hand u false
      → (call_profile a c).role.claims ≡ None
      → (call_profile a c).wants ≡ Some x → IsGiven (call_move a c) u x alone
  pub was_given : (u : ℕ) → (call_profile a c).hand ≡ hand u true → WasGiven (call_move a c) u

abbrev pub HandedMove : Type 0
HandedMove = (a : Admission) (c : RwLockCallPlace) → CallStands a c → IsMoved a c

-- ---------------------------------------------------------------- all acts

-- the news that it may hear of its lock
abbrev pub call_hears : Admission → RwLockCallPlace → Hears
call_hears a c r s t whom told = CallMayHear r a s t c whom told

-- by its act, as in any call; or it hands a right over, tells so to those that have it, or ends a
-- call that was handed it
abbrev pub CallMoves : ℕ → Bool → StepView → Hears → Act → Type 0
CallMoves l recursive x hears (act.HandOver k op) = (k ≡ l) × Hands x op
CallMoves l recursive x hears (act.Leave keys wakes) =
    MovesByAct l recursive x hears (act.Leave keys wakes)
    ⊎ ((keys ≡ One (key_of l Main)) × TellsHanded x hears wakes)
CallMoves l recursive x hears act.Accept = Accepts x hears
CallMoves l recursive x hears act = MovesByAct l recursive x hears act

-- each place moves as its act says
abbrev pub FairActsMove : Type 0
FairActsMove =
    (l : ℕ) (a : Admission) (c : RwLockCallPlace) → CallStands a c
    → CallMoves l a.recursive (call_move a c) (call_hears a c) (call_act l a c)

-- ---------------------------------------------------------------- effects on a thread asleep

-- a thread in a line sleeps there or is inside its section, only a pending writer stands aside, and one in a
-- hand is so to be woken until it is handed the lock
pub record CallWaits (x : StepView) : Type 0 where
  pub aside : x.row.stands ≡ Some Second
      → (x.row.wants ≡ Some Exclusive)
      × ((falls_back : Bool) × (x.row.role.claims ≡ Some (Pends falls_back)))
  pub stands : (m : Line) → x.row.stands ≡ Some m → ((location_of x).inside ≡ Some m) ⊎ Sleeps x m
  pub held : (u : ℕ) → x.row.hand ≡ hand u false → IsHeld x u

abbrev pub FairSleepersMove : Type 0
FairSleepersMove = (a : Admission) (c : RwLockCallPlace) → CallStands a c
    → CallWaits (call_move a c)

-- into the section of its line, where its time is up
abbrev pub FairLateMove : Type 0
FairLateMove =
    (a : Admission) (c : RwLockCallPlace) (m : Line) → call_late_line c ≡ Some m
    → GoesIn (call_move a c) (call_hears a c) m Late
