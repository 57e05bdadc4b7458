-- The state of a call after a step, by the rows of the place before and the next place, and by the
-- step's deeds. It is stated at one lock, and in no world.
use Rattle.std.specs.Prelude.{ℕ, Some, None, if◌then◌else◌, ◌≡◌, List}
use Rattle.spec_locks.specs.declared.outcomes.Answer.{Answer}
use Rattle.steps_base.specs.declared.acts.Next.{Next}
use Rattle.steps_base.specs.declared.acts.Reply.{Reply}
use Rattle.steps_base.specs.declared.acts.Reply.TheVariants.{Late}
use Rattle.steps_base.specs.declared.acts.Next.TheVariants.{At, End}
use Rattle.steps_base.specs.Profiles.{Profile}
use Rattle.spec_locks.specs.Locks.{LockState, Rules, Rights, rights_of, putting}
use Rattle.spec_locks.specs.Purposes.{IsMadeOf}
use Rattle.spec_locks.specs.Runs.{LocksState, CallState, Event, Nothing, AtLock, Moves, IsTimely, AnswerHolds}
use Rattle.spec_locks.specs.Runs.{going_on, rights_in, rules_at}
use Rattle.spec_locks.specs.Sites.{Deed}
use Rattle.spec_locks.specs.Deeds.{AreOneCase, event_of, after_event}

-- the state of a call of the lock l, by the row of its place, and by what its thread owns now
abbrev pub call_by : ℕ → Profile → (ℕ → Rights) → CallState
call_by l row rights = record {
  purpose = Some (row.purpose l);
  former = row.former l rights;
  gave_up = if row.gave_up then Some l else None;
  retries = if row.retries then Some l else None;
  released = row.released;
  late = row.late;
  failed = row.failed;
  recalls = row.recalls;
}

-- The state of a call of two locks, by its row at the second: what it tries again, and what it owned as it
-- began.
abbrev pub call_of_two : ℕ → ℕ → Profile → Profile → (ℕ → Rights) → CallState
call_of_two l m row beside rights = record (call_by l row rights) {
  former = beside.former m rights;
  retries = if beside.retries then Some m else None;
}

-- the call is made of the case, and it is time for it
abbrev pub MayCome : ℕ → Profile → Event → Type 0
MayCome l row Nothing = Unit {0}
MayCome l row (AtLock k case) =
    IsMadeOf (row.purpose l) (if row.gave_up then Some l else None) row.released row.recalls k case
    × IsTimely row.late case
MayCome l row (Moves c m all owned number) = ⊥

-- the ownership of the thread at each lock, where this one is so
abbrev pub rights_where : ℕ → LockState → ℕ → (ℕ → Rights) → ℕ → Rights
rights_where l s t rights = putting rights l (rights_of s t)

-- a reply to an act, and not that the time of a sleeper is up
abbrev pub IsNotLate : Reply → Type 0
IsNotLate Late = ⊥
IsNotLate told = Unit {0}

-- the call at the next place is what the event made of it
abbrev pub IsNextCall : ℕ → Profile → Event → LockState → LockState → ℕ → Profile → Type 0
IsNextCall l row event s s2 t next =
    (rights : ℕ → Rights) → rights l ≡ rights_of s t
    → call_by l next (rights_where l s2 t rights) ≡ going_on event (call_by l row rights)

-- the answer is true, wherever the lock is so, and the thread has of the others what it had
abbrev pub IsTrueAnswer : Rules → ℕ → Profile → Event → LockState → LockState → ℕ → Answer → Type 0
IsTrueAnswer r l row event s s2 t a =
    (v : LocksState) (rights : ℕ → Rights) → rules_at v l ≡ r → v.locks l ≡ s2
    → rights l ≡ rights_of s t
    → ((k : ℕ) → rights_in v t k ≡ rights_where l s2 t rights k)
    → AnswerHolds (Some (row.purpose l)) v t (going_on event (call_by l row rights)) a

-- the call goes on, or ends with an answer
abbrev pub ComesTo : Rules → ℕ → Profile → Event → LockState → LockState → ℕ → Next Profile → Type 0
ComesTo r l row event s s2 t (At next) = IsNextCall l row event s s2 t next
ComesTo r l row event s s2 t (End answer) = IsTrueAnswer r l row event s s2 t answer

-- the effect on the lock of a step with these deeds
abbrev pub event_at : ℕ → Profile → List Deed → Event
event_at l row ds = event_of l row.has_taken ds

-- a thread at a place with this row does the deeds, and its call comes to what the next row or the
-- answer says
pub record CallFollows (r : Rules) (s : LockState) (t l : ℕ) (row : Profile) (ds : List Deed)
    (next : Next Profile) : Type 0 where
  pub one : AreOneCase ds
  pub may : MayCome l row (event_at l row ds)
  pub comes : ComesTo r l row (event_at l row ds) s (after_event r (event_at l row ds) s t) t next
