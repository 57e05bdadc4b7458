-- Acts that put no thread to sleep.
use Rattle.std.proofs.Common.{ℕ, Bool, true, false, if◌then◌else◌, ◌≢◌}
use Rattle.spec_locks.specs.declared.calls.Access.{Access}
use Rattle.steps_base.specs.declared.acts.Act.{Act}
use Rattle.steps_base.specs.declared.acts.Act.TheVariants as act
use Rattle.steps_mutex.specs.declared.unlock.UnlockAt.{UnlockAt}
use Rattle.steps_mutex.specs.declared.unlock.UnlockAt.TheVariants as unlock
use Rattle.steps_mutex.specs.declared.hand_off.HandOffAt.{HandOffAt}
use Rattle.steps_mutex.specs.declared.hand_off.HandOffAt.TheVariants as hand_off
use Rattle.steps_mutex.specs.MutexSteps as steps
use Rattle.steps_rwlock.specs.declared.enter.Decision.{Decision}
use Rattle.steps_rwlock.specs.declared.enter.Decision.TheVariants as decisions
use Rattle.steps_rwlock.specs.declared.places.Admission.{Admission}
use Rattle.steps_rwlock.specs.declared.purposes.RwLockPurpose.{RwLockPurpose}
use Rattle.steps_rwlock.specs.RwLockSteps.{decided_act}
use Rattle.steps_rwlock_fair.specs.declared.hand_over.HandOverAt.{HandOverAt}
use Rattle.steps_rwlock_fair.specs.declared.hand_over.HandOverAt.TheVariants as handing
use Rattle.steps_rwlock_fair.specs.FairSteps.{hand_over_act, has_room}

pub either_sleeps : (b : Bool) (x y : Act) → x ≢ act.Sleep → y ≢ act.Sleep → (if b then x else y) ≢ act.Sleep
either_sleeps true x y h k = h
either_sleeps false x y h k = k

pub decided_sleeps : (l : ℕ) (q : RwLockPurpose) (seen : ℕ) (d : Decision) → decided_act l q seen d
    ≢ act.Sleep
decided_sleeps l q seen decisions.Take h = cc
decided_sleeps l q seen decisions.Mark h = cc
decided_sleeps l q seen decisions.Park h = cc
decided_sleeps l q seen (decisions.Refuse answer) h = cc

pub handing_wakes : (l : ℕ) (a : Admission) (x : Access) (to : HandOverAt) → hand_over_act l a x to
    ≢ act.Sleep
handing_wakes l a x handing.Load h = cc
handing_wakes l a x (handing.Free seen) h = cc
handing_wakes l a x handing.Enter h = cc
handing_wakes l a x handing.Take h = cc
handing_wakes l a x (handing.Store k) h = cc
handing_wakes l a x (handing.Look k) h = cc
handing_wakes l a x (handing.Exchange k seen) h = either_sleeps (has_room a.limit k seen) _ _ (λ e. cc)
    (λ e. cc) h
handing_wakes l a x (handing.Leave any handed) h = cc

pub unlock_wakes : (l : ℕ) (to : UnlockAt) → steps.unlock_act l to ≢ act.Sleep
unlock_wakes l unlock.Subtract h = cc
unlock_wakes l unlock.Enter h = cc
unlock_wakes l unlock.Take h = cc
unlock_wakes l (unlock.Clear any) h = cc
unlock_wakes l (unlock.Leave any) h = cc

pub hand_off_wakes : (l : ℕ) (to : HandOffAt) → steps.hand_off_act l to ≢ act.Sleep
hand_off_wakes l hand_off.Enter h = cc
hand_off_wakes l hand_off.Take h = cc
hand_off_wakes l (hand_off.Store true none_left) h = cc
hand_off_wakes l (hand_off.Store false none_left) h = cc
hand_off_wakes l (hand_off.Leave any) h = cc
