-- Where each step of a reader-writer call takes its thread in the machine.
use Rattle.std.specs.Prelude.{ℕ, Some, ◌≡◌}
use Rattle.steps_base.specs.declared.acts.Reply.TheVariants.{Late}
use Rattle.steps_base.specs.Moves.{StepView, Hears, GoesIn, MovesByAct, RowWaits, row_of}
use Rattle.steps_rwlock.specs.declared.places.Admission.{Admission}
use Rattle.steps_rwlock.specs.declared.places.RwLockPlace.{RwLockPlace}
use Rattle.core_base.specs.declared.keys.Line.{Line}
use Rattle.steps_rwlock.specs.RwLockSteps.{rwlock_act, rwlock_next}
use Rattle.steps_rwlock.specs.RwLockDeeds.{MayReply, rwlock_deeds}
use Rattle.steps_rwlock.specs.RwLockProfiles.{rwlock_profile, rwlock_late_line}
use Rattle.steps_rwlock.specs.RwLockCalls.{MayStand, next_row}

abbrev pub rwlock_move : Admission → RwLockPlace → StepView
rwlock_move a p = record {
  row = rwlock_profile a p;
  next = λ told. row_of (next_row a (rwlock_next a p told));
  deeds = rwlock_deeds a p;
}

abbrev pub rwlock_hears : Admission → RwLockPlace → Hears
rwlock_hears a p r s t whom told = MayReply r a s t p p.at whom told

-- as its act says
abbrev pub RwLockActsMove : Type 0
RwLockActsMove =
    (l : ℕ) (a : Admission) (p : RwLockPlace) → MayStand a p
    → MovesByAct l a.recursive (rwlock_move a p) (rwlock_hears a p) (rwlock_act l a p)

-- Each act that befalls a sleeper moves it as that act says.
abbrev pub RwLockSleepersMove : Type 0
RwLockSleepersMove = (a : Admission) (p : RwLockPlace) → MayStand a p → RowWaits (rwlock_move a p)

-- into the section of its line, where its time is up
abbrev pub RwLockLateMove : Type 0
RwLockLateMove =
    (a : Admission) (p : RwLockPlace) (m : Line) → rwlock_late_line p ≡ Some m
    → GoesIn (rwlock_move a p) (rwlock_hears a p) m Late
