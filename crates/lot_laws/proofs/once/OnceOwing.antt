-- The places of a `Once` owe the same, whatever befalls their thread, and as its time is up.
use Rattle.lot_laws.proofs.Imports
use Imports.{ℕ, Bool, ◌≡◌, Some, refl, sym, ap, subst, Normal, WaitTimed, Reply, TakenBy, MovedTo, HandedBy}
use Imports.{Late, Woken, OncePlace, Run, GiveUp, once_profile, Once, line_owed, next_place}
use Rattle.core_base.specs.declared.keys.Line.{Line}
use Rattle.core_base.specs.declared.keys.Line.TheVariants.{Main}
use Rattle.spec_locks.specs.declared.calls.OnceCall.TheVariants.{CallOnce, Wait}
use Rattle.steps_once.specs.declared.places.OncePlace.TheVariants.{Look}
use Rattle.steps_once.specs.declared.look.LookAt.TheVariants as look_at
use Rattle.steps_once.specs.declared.give_up.GiveUpAt.TheVariants as give_up
use Rattle.steps_once.specs.declared.run.RunAt.TheVariants as run_at
use Rattle.lot_laws.proofs.promises.RowPromises.{Befalls, IsLateNext}

-- a thread owes what it owed, with all that befalls it
pub once_befallen : (l : ℕ) (at : OncePlace) (r : Reply) → Befalls r → (k : ℕ)
    → line_owed (next_place (Once l at) r) k ≡ line_owed (Once l at) k
once_befallen l (Look c again look_at.Asleep) (TakenBy t) b k = refl
once_befallen l (Look c again look_at.Asleep) (Woken Normal) b k = refl
once_befallen l (Look c again (look_at.Taken by)) (Woken Normal) b k = refl
once_befallen l (Look c again at) (TakenBy t) b k = refl
once_befallen l (Look c again at) (MovedTo key) b k = refl
once_befallen l (Look c again at) (HandedBy t alone) b k = refl
once_befallen l (Look c again at) (Woken note) b k = refl
once_befallen l (GiveUp again give_up.Remove) (TakenBy t) b k = refl
once_befallen l (GiveUp again at) (TakenBy t) b k = refl
once_befallen l (GiveUp again at) (MovedTo key) b k = refl
once_befallen l (GiveUp again at) (HandedBy t alone) b k = refl
once_befallen l (GiveUp again at) (Woken note) b k = refl
once_befallen l (Run forced (run_at.Closure poisoned)) (TakenBy t) b k = refl
once_befallen l (Run forced at) (TakenBy t) b k = refl
once_befallen l (Run forced at) (MovedTo key) b k = refl
once_befallen l (Run forced at) (HandedBy t alone) b k = refl
once_befallen l (Run forced at) (Woken note) b k = refl
once_befallen l at r b k = absurd b

-- a thread that may give up sleeps in its line
pub late_place : (at : OncePlace) (m : Line) → (once_profile at).late_line ≡ Some m
    → (again : Bool) × (at ≡ Look WaitTimed again look_at.Asleep) × (Main ≡ m)
late_place (Look WaitTimed again look_at.Asleep) m h = (again, refl, cc)
late_place (Look (CallOnce forced) again look_at.Asleep) m h = absurd cc
late_place (Look (Wait forced) again look_at.Asleep) m h = absurd cc
late_place (Look c again at) m h = absurd cc
late_place (Run forced (run_at.Closure poisoned)) m h = absurd cc
late_place (Run forced at) m h = absurd cc
late_place (GiveUp again give_up.Remove) m h = absurd cc
late_place (GiveUp again at) m h = absurd cc

pub once_late : (l : ℕ) (at : OncePlace) (m : Line) → (once_profile at).late_line ≡ Some m
    → IsLateNext (next_place (Once l at) Late) m
once_late l at m h =
    let z = late_place at m h in
    subst (λ p. IsLateNext (next_place (Once l p) Late) m) (sym z.1) (record {
      inside = ap Some z.2;
      owes = ap Some z.2;
      awake = λ e. cc;
    })
