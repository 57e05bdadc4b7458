-- A wait that sleeps has released its mutex.
use Rattle.lot_laws.proofs.Imports
use Imports.{ℕ, Bool, true, Some, ◌≡◌, inl, inr, refl, sym, ◌∙◌, ap, subst, Notifies, Waits, LetsGo, Act, Sleep}
use Imports.{MutexPlace, mutex_act, CondvarPlace, Wait, Look, Notify, WaitAt, condvar_act, wait_act, IsReached}
use Imports.{IsUnlockPlace, condvar_place_purpose, condvar_released, has_released, act_of, State, place_at}
use Imports.{call_at, call_state, locks_of, sleeps, IsInductive}
use Rattle.steps_mutex.specs.declared.places.MutexPlace.TheVariants as mutex
use Rattle.steps_condvar.specs.declared.wait.WaitAt.TheVariants as wait
use Rattle.lot_laws.proofs.calls.CallEvents.{rights}
use Rattle.lot_laws.proofs.condvar.MutexDebts.{two_released}
use Rattle.lot_laws.proofs.condvar.CondvarPromises.{two_purpose}
use Rattle.lot_laws.proofs.machine.Parts.{IsOfTwo, fits_two, single_or_two}
use Rattle.lot_laws.proofs.mutex.MutexRows.{unlock_awake}
use Rattle.lot_laws.proofs.promises.PlacePromises.{calls_one_lock}
use Rattle.lot_laws.proofs.promises.RowPromises.{CallsOneLock}

pub asleep_is : (a : Act) → sleeps a ≡ true → a ≡ Sleep
asleep_is Sleep h = refl
asleep_is a h = absurd cc

-- an unlock doesn't sleep
pub no_sleep : (m : ℕ) (at : MutexPlace) → IsUnlockPlace at → mutex_act m at ≡ Sleep → ⊥
no_sleep m (mutex.Unlock at) h e = unlock_awake m at e
no_sleep m at h e = absurd h

released : (l m : ℕ) (timed : Bool) (at : WaitAt) → IsReached (Wait m timed at) → wait_act l m at ≡ Sleep
    → has_released at ≡ true
released l m timed (wait.Release s at) reached e = absurd (no_sleep m at reached.0 e)
released l m timed (wait.Asleep s) reached e = refl
released l m timed (wait.Lock late at) reached e = refl
released l m timed wait.Remove reached e = refl
released l m timed wait.Hide reached e = refl
released l m timed wait.GiveUp reached e = refl
released l m timed wait.RemoveMoved reached e = refl
released l m timed (wait.GiveUpMoved none_left) reached e = refl
released l m timed at reached e = absurd cc

by_place : (k : ℕ) (at : CondvarPlace) → IsReached at → condvar_act k at ≡ Sleep → (l m : ℕ) (timed : Bool)
    → Some (condvar_place_purpose at k) ≡ Some (Waits l m timed) → condvar_released at ≡ true
by_place k (Wait n late at) reached e l m timed f = released k n late at reached e
by_place k (Look all) reached e l m timed f = absurd (let g : Notifies k all ≡ Waits l m timed = cc in cc)
by_place k (Notify all n at) reached e l m timed f = absurd (let g : Notifies k all ≡ Waits l m timed = cc
    in cc)

pub lets_go : (w : State) → IsInductive w → (t : ℕ) → LetsGo (locks_of w) t
lets_go w inductive t l m timed waits asleep = elim (single_or_two (place_at w t)) [
  | inl single ↦ absurd (subst CallsOneLock waits (calls_one_lock w t inductive single))
  | inr two ↦ by_two two
]
  where
    by_two : IsOfTwo (place_at w t) → (call_at w t).released ≡ true
    by_two two = ap (λ p. (call_state p (rights w t)).released) two.is ∙ two_released two.lock two.at
        (rights w t)
        ∙ by_place two.lock two.at (fits_two w t inductive two).reached (sym (ap act_of two.is)
        ∙ asleep_is (act_of (place_at w t)) asleep) l m timed
        (sym (two_purpose two.lock two.at (rights w t))
        ∙ sym (ap (λ p. (call_state p (rights w t)).purpose) two.is) ∙ waits)
