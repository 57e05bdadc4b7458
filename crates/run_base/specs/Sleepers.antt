-- For what a thread sleeps in its call, and under which keys it may be late or moved.
use Rattle.std.specs.Prelude.{ℕ, ◌*◌, Option, Some, None, true, false}
use Rattle.core_base.specs.declared.wants.Want.TheVariants as wants
use Rattle.steps_condvar.specs.CondvarProfiles.{condvar_late_key}
use Rattle.steps_condvar.specs.declared.places.CondvarPlace.{CondvarPlace}
use Rattle.steps_condvar.specs.declared.places.CondvarPlace.TheVariants.{Wait}
use Rattle.steps_condvar.specs.declared.wait.WaitAt.TheVariants as wait
use Rattle.lot_steps.specs.Steps.{late_key}
use Rattle.lot_steps.specs.declared.places.Place.{Place}
use Rattle.lot_steps.specs.declared.places.Place.TheVariants.{Idle, Mutex, RwLock, Once, Condvar, Semaphore}
use Rattle.run_base.specs.declared.sleepers.Sleeper.{Sleeper}

-- a thread that waits sleeps for its mutex, and may be moved to the queue of that meanwhile
abbrev pub condvar_sleeper : ℕ → CondvarPlace → Sleeper
condvar_sleeper c (Wait m timed (wait.Lock timed_out at)) =
    record {
      lock = m;
      want = wants.Exclusive;
      late = late_key (Mutex m at);
      moved = None;
      takes_over = true;
    }
condvar_sleeper c (Wait m timed at) =
    record {
      lock = m;
      want = wants.Exclusive;
      late = condvar_late_key c (Wait m timed at);
      moved = Some (2 * m);
      takes_over = true;
    }
condvar_sleeper c p = record
    { lock = c; want = wants.Exclusive; late = None; moved = None; takes_over = false }

-- the key under which a thread that sleeps at a place may be late; none where its call has no
-- deadline
abbrev pub late_key_at : Place → Option ℕ
late_key_at Idle = None
late_key_at (Mutex l at) = late_key (Mutex l at)
late_key_at (RwLock l a c) = late_key (RwLock l a c)
late_key_at (Once l at) = late_key (Once l at)
late_key_at (Condvar l at) = (condvar_sleeper l at).late
late_key_at (Semaphore l at) = late_key (Semaphore l at)
