-- A sleeper that waits to be notified owns what it owned as its call began, but for its mutex.
use Rattle.lot_laws.proofs.Imports
use Imports.{ℕ, Bool, true, false, Option, Some, None, ◌≡◌, inl, inr, refl, sym, ◌∙◌, ap, subst, Exclusive}
use Imports.{Trades, Rights, Notifies, Waits, IsNotified, one_more_at, loses, Sleep, CondvarPlace, Wait, Look}
use Imports.{Notify, WaitAt, condvar_act, wait_act, IsReached, condvar_place_purpose, Place, Condvar, act_of}
use Imports.{State, place_at, call_at, call_state, locks_of, sleeps, IsInductive}
use Rattle.steps_condvar.specs.declared.wait.WaiterFate.TheVariants as stands
use Rattle.steps_condvar.specs.declared.wait.WaitAt.TheVariants as wait
use Rattle.lot_laws.proofs.calls.CallEvents.{rights}
use Rattle.lot_laws.proofs.condvar.CondvarPromises.{two_purpose}
use Rattle.lot_laws.proofs.condvar.LetsGo.{asleep_is, no_sleep}
use Rattle.lot_laws.proofs.machine.Parts.{IsOfTwo, fits_two, single_or_two}
use Rattle.lot_laws.proofs.promises.PlacePromises.{calls_one_lock}
use Rattle.lot_laws.proofs.promises.RowPromises.{CallsOneLock}

module _ (r : ℕ → Rights) where
  -- a wait was neither notified nor has it given up
  abbrev IsOn : Place → Type 0
  IsOn p = ((call_state p r).gave_up ≡ None) × (IsNotified (call_state p r).recalls → ⊥)

  abbrev Gave : ℕ → Place → Type 0
  Gave m p = (k : ℕ) → one_more_at m Exclusive r k ≡ (call_state p r).former k

  by_wait : (l m : ℕ) (timed : Bool) (at : WaitAt) → IsReached (Wait m timed at) → wait_act l m at ≡ Sleep
      → IsOn (Condvar l (Wait m timed at)) → Gave m (Condvar l (Wait m timed at))
  by_wait l m timed (wait.Asleep stands.Listed) reached e on k = refl
  by_wait l m timed (wait.Asleep stands.Moved) reached e on k = absurd (on.1 tt)
  by_wait l m timed (wait.Asleep (stands.InHand by)) reached e on k = absurd (on.1 tt)
  by_wait l m timed (wait.Asleep (stands.Handed by)) reached e on k = absurd (on.1 tt)
  by_wait l m timed (wait.Asleep (stands.Noted note)) reached e on k = absurd (on.1 tt)
  by_wait l m timed (wait.Lock true at) reached e on k =
      absurd (let none : ◌≡◌ {A = Option ℕ} (Some l) None = on.0 in cc)
  by_wait l m timed (wait.Lock false at) reached e on k = absurd (on.1 tt)
  by_wait l m timed (wait.Release s at) reached e on k = absurd (no_sleep m at reached.0 e)
  by_wait l m timed at reached e on k = absurd cc

  by_place : (c : ℕ) (at : CondvarPlace) → IsReached at → condvar_act c at ≡ Sleep → (l m : ℕ) (timed : Bool)
      → Some (condvar_place_purpose at c) ≡ Some (Waits l m timed)
      → IsOn (Condvar c at) → Gave m (Condvar c at)
  by_place c (Wait n late at) reached e l m timed f on =
      let same : n ≡ m = (let g : Waits c n late ≡ Waits l m timed = cc in cc) in
      subst (λ x. Gave x (Condvar c (Wait n late at))) same (by_wait c n late at reached e on)
  by_place c (Look all) reached e l m timed f on =
      absurd (let g : Notifies c all ≡ Waits l m timed = cc in cc)
  by_place c (Notify all n at) reached e l m timed f on =
      absurd (let g : Notifies c all ≡ Waits l m timed = cc in cc)

pub sleepers_own : (w : State) → IsInductive w → (t l m : ℕ) (timed : Bool)
    → (call_at w t).purpose ≡ Some (Waits l m timed)
    → sleeps (act_of (place_at w t)) ≡ true → (call_at w t).gave_up ≡ None
    → (IsNotified (call_at w t).recalls → ⊥)
    → Trades (locks_of w) t (call_at w t) m (Some Exclusive) None
sleepers_own w inductive t l m timed waits asleep gave_up unnotified = elim (single_or_two (place_at w t)) [
  | inl single ↦ absurd (subst CallsOneLock waits (calls_one_lock w t inductive single))
  | inr two ↦ loses (locks_of w) t (call_at w t) m Exclusive (by_two two)
]
  where
    by_two : IsOfTwo (place_at w t) → (k : ℕ)
        → one_more_at m Exclusive (rights w t) k ≡ (call_at w t).former k
    by_two two = subst (Gave (rights w t) m) (sym two.is)
        (by_place (rights w t) two.lock two.at (fits_two w t inductive two).reached
        (sym (ap act_of two.is) ∙ asleep_is (act_of (place_at w t)) asleep) l m timed
        (sym (two_purpose two.lock two.at (rights w t)) ∙ sym
        (ap (λ p. (call_state p (rights w t)).purpose) two.is) ∙ waits)
        (subst (IsOn (rights w t)) two.is (gave_up, unnotified)))
