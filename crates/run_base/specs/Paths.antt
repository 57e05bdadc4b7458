-- The word steps of a call are a path of its transitions.
use Rattle.std.specs.Prelude.{ℕ, ◌≡◌, ◌≢◌, Bool, true, false, Option, Some, None, List, [], ◌∷◌, ◌++◌, ◌⊎◌}
use Rattle.core_base.specs.declared.ops.Op.{Op}
use Rattle.core_base.specs.declared.ops.Op.TheVariants.{Load}
use Rattle.core_base.specs.declared.wants.Want.{Want}
use Rattle.core_words.specs.Indices.{word_index}
use Rattle.core_words.specs.declared.views.WordStep.{WordStep}
use Rattle.core_words.specs.declared.words.WordKind as kinds
use Rattle.steps_base.specs.Acts.{holds}
use Rattle.lot_steps.specs.Steps.{act_of, respins_from}
use Rattle.steps_base.specs.declared.acts.Act.{Act}
use Rattle.steps_base.specs.declared.acts.Act.TheVariants as act
use Rattle.steps_base.specs.declared.acts.Check.{Check}
use Rattle.steps_base.specs.declared.acts.Reply.{Reply}
use Rattle.steps_base.specs.declared.acts.Reply.TheVariants.{Done, Value, Parked, Took, Picked, Requeued}
use Rattle.steps_base.specs.declared.acts.Reply.TheVariants.{Removed, TakenBy, MovedTo, HandedBy, Late, Woken}
use Rattle.steps_base.specs.declared.acts.Reply.TheVariants.{Closed}
use Rattle.spec_locks.specs.declared.outcomes.OnceState.{OnceState}
use Rattle.lot_steps.specs.declared.places.Place.{Place}
use Rattle.run_base.specs.Sleepers.{late_key_at}

-- where the word of a mutex stands
abbrev pub mutex_at : ℕ → ℕ
mutex_at number = word_index number kinds.TheVariants.Mutex

-- a call of a mutex steps on no other word
abbrev pub mutexes : ℕ → kinds.WordKind
mutexes lock = kinds.TheVariants.Mutex

abbrev pub at_mutex : ℕ → ℕ → ℕ
at_mutex number lock = mutex_at number

-- where the word of a reader-writer lock stands, on which alone its calls step
abbrev pub rwlock_at : ℕ → ℕ
rwlock_at number = word_index number kinds.TheVariants.RwLock

abbrev pub rwlocks : ℕ → kinds.WordKind
rwlocks lock = kinds.TheVariants.RwLock

abbrev pub at_rwlock : ℕ → ℕ → ℕ
at_rwlock number lock = rwlock_at number

-- where the word of a `Once` stands, on which alone its calls step
abbrev pub once_at : ℕ → ℕ
once_at number = word_index number kinds.TheVariants.Once

abbrev pub onces : ℕ → kinds.WordKind
onces lock = kinds.TheVariants.Once

abbrev pub at_once : ℕ → ℕ → ℕ
at_once number lock = once_at number

-- where the word of a semaphore stands, on which alone its calls step, whatever its permits are
abbrev pub semaphore_at : ℕ → ℕ
semaphore_at number = word_index number (kinds.TheVariants.Semaphore 0)

abbrev pub semaphores : ℕ → ℕ → kinds.WordKind
semaphores permits lock = kinds.TheVariants.Semaphore permits

abbrev pub at_semaphore : ℕ → ℕ → ℕ
at_semaphore number lock = semaphore_at number

-- where the word of a condition variable stands, on which its calls step, and on that of a mutex
-- beside it
abbrev pub condvar_at : ℕ → ℕ
condvar_at number = word_index number kinds.TheVariants.Condvar

-- one step on the word at a place, and what it saw
abbrev pub step : ℕ → Op → ℕ → List WordStep
step at op seen = record { at = at; op = op; seen = seen } ∷ []

-- the state with which the closure of a call runs
abbrev pub closure_of : Act → Option OnceState
closure_of (act.Closure state) = Some state
closure_of _ = None

-- acts that touch no word
abbrev pub is_wordless : Act → Bool
is_wordless (act.Enter keys) = true
is_wordless (act.Stand key _) = true
is_wordless (act.Take key whom) = true
is_wordless (act.Requeue from to how) = true
is_wordless (act.Remove key) = true
is_wordless (act.Leave keys wakes) = true
is_wordless act.Sleep = true
is_wordless act.Accept = true
is_wordless _ = false

-- replies that tell nothing of a word's value
abbrev pub is_valueless : Reply → Bool
is_valueless (Value seen) = false
is_valueless (Parked parked) = false
is_valueless _ = true

-- only a sleeper whose call has a deadline is late, in the queue where it stands or in the one to
-- which it was moved
abbrev pub MayReply : Place → Reply → Type 0
MayReply p Done = Unit {0}
MayReply p (Value seen) = Unit {0}
MayReply p (Parked parked) = Unit {0}
MayReply p (Took any none_left) = Unit {0}
MayReply p (Picked sharers successor none_left) = Unit {0}
MayReply p (Requeued number none_left) = Unit {0}
MayReply p (Removed none_left) = Unit {0}
MayReply p (TakenBy by) = Unit {0}
MayReply p (MovedTo key) = late_key_at p ≢ None
MayReply p (HandedBy by alone) = Unit {0}
MayReply p Late = late_key_at p ≢ None
MayReply p (Woken note) = Unit {0}
MayReply p (Closed succeeded) = Unit {0}

-- at a place these steps on words bring the reply, by where the word of each lock stands
pub data Brings (at : ℕ → ℕ) : Place → List WordStep → Reply → Type 0 where
  word : (p : Place) (lock : ℕ) (op : Op) (seen : ℕ) → act_of p ≡ act.Word lock op
      → Brings at p (step (at lock) op seen) (Value seen)
  hands : (p : Place) (lock : ℕ) (op : Op) (seen : ℕ) → act_of p ≡ act.HandOver lock op
      → Brings at p (step (at lock) op seen) (Value seen)
  parks : (p : Place) (lock key : ℕ) (check : Check) (want : Want) (seen : ℕ)
      → act_of p ≡ act.Park lock key check want
      → Brings at p (step (at lock) Load seen) (Parked (holds check seen))
  other : (p : Place) (reply : Reply) → is_wordless (act_of p) ≡ true → is_valueless reply ≡ true
      → MayReply p reply → Brings at p [] reply

-- steps that were added, and bring the reply
abbrev pub Told : (ℕ → ℕ) → Place → Reply → List WordStep → List WordStep → Type 0
Told at p reply before afterwards =
    (then : List WordStep) × (afterwards ≡ before ++ then) × Brings at p then reply

-- where a thread goes on from: where it stands, or from where it looks
abbrev pub GoesFrom : Place → Place → Type 0
GoesFrom p q = (q ≡ p) ⊎ (respins_from p ≡ Some q)
