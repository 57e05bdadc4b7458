-- A notification goes on: by each of its acts both its locks are sites again, as the deeds of its place say.
use Rattle.lot_laws.proofs.Imports
use Imports.{ℕ, Bool, true, false, ◌≡◌, ◌≢◌, ◌<◌, List, [], ◌∷◌, length, refl, sym, subst, Reply, Place}
use Imports.{Condvar, condvar_goes, next_place, NotifyAt, CondvarPlace, Notify, IsReached, notify_deeds}
use Imports.{beside_deeds, will_bring, condvar_next, move_act, notify_act, IsCondvar, WaitsAside, Deed, Main, Send}
use Imports.{State, can_do, place_at, put, reply_to, state_after_act, acts, FitsItsLock, Goes, GoesAll}
use Imports.{IsInductive, condvar_of, key_of, rules_in, site_of}
use Rattle.steps_condvar.specs.declared.notify.NotifyAt.TheVariants as notify
use Rattle.spec_locks.specs.Locks as locks
use Rattle.lot_laws.specs.ThreadDeeds as deeds
use Rattle.lot_laws.proofs.machine.Parts as glue
use Rattle.lot_laws.proofs.sites.TwoLocks.{two_at}
use Rattle.lot_laws.proofs.condvar.OwnStand.{notifier_still}
use Rattle.lot_laws.proofs.condvar.MutexUntouched.{there_deeds}
use Rattle.lot_laws.proofs.condvar.NotifyEnters.{goes_into_both, goes_out_of_both}
use Rattle.lot_laws.proofs.condvar.NotifyMoves.{moves}
use Rattle.lot_laws.proofs.condvar.NotifyWakes.{goes_out_waking_both}
use Rattle.lot_laws.proofs.condvar.NotifyWords.{clears, hides, looks_again, marks_it, marks_moved, sets_bit}
use Rattle.lot_laws.proofs.condvar.WaitKept.{of_one, of_other}

-- tells what it does at its move, at both
moves_deeds : (w : State) (t l m : ℕ) (all locked : Bool)
    → ◌≡◌ {A = List Deed × List Deed} (
      there_deeds (notify_deeds all m (notify.Move locked) (reply_to w t (move_act all locked l m))),
      beside_deeds all (condvar_of w l).waiters (notify.Move locked) (reply_to w t (move_act all locked l m)),
    )
    (Send all ∷ [], will_bring all locked (condvar_of w l).waiters)
moves_deeds w t l m true true = refl
moves_deeds w t l m true false = refl
moves_deeds w t l m false true = refl
moves_deeds w t l m false false = refl

module _ (w : State) (t l m : ℕ) (all : Bool) (inductive : IsInductive w) (is_there : t < length w.places)
    (apart : m ≢ l)
    (sort_l : (rules_in w l).sort ≡ locks.Condvar) (sort_m : (rules_in w m).sort ≡ locks.Mutex)
    (plain : rules_in w m ≡ glue.mutex) (kept : IsCondvar (condvar_of w l))
    (aside : WaitsAside (condvar_of w l) (site_of w m) m)
    (lock_l : l < length w.locks) (lock_m : m < length w.locks) (section_l : key_of l Main < length
    w.sections) (section_m : key_of m Main < length w.sections) (line_l : key_of l Main < length w.queues)
    (line_m : key_of m Main < length w.queues) where
  abbrev notifies : NotifyAt → CondvarPlace
  notifies at = Notify all m at

  abbrev told : NotifyAt → Reply
  told at = reply_to w t (notify_act all l m at)

  abbrev after : NotifyAt → State
  after at = state_after_act w t (Condvar l (notifies at)) (notify_act all l m at)

  -- where it goes
  abbrev next : NotifyAt → Place
  next at = condvar_goes l (condvar_next (notifies at) (told at))

  abbrev deeds_at_condvar : NotifyAt → List deeds.Act
  deeds_at_condvar at = acts t (there_deeds (notify_deeds all m at (told at)))

  abbrev deeds_at_mutex : NotifyAt → List deeds.Act
  deeds_at_mutex at = acts t (beside_deeds all (condvar_of w l).waiters at (told at))

  abbrev GoesOn : NotifyAt → Type 0
  GoesOn at = FitsItsLock w (next at) → GoesAll w (put (after at) t (next at))
      (two_at l m (deeds_at_condvar at) (deeds_at_mutex at))

  there : (at : NotifyAt) → deeds_at_mutex at ≡ []
      → (FitsItsLock w (next at) → Goes w (put (after at) t (next at)) l (deeds_at_condvar at)) → GoesOn at
  there at none g fits = of_one w (put (after at) t (next at)) l m apart inductive (deeds_at_condvar at)
      (deeds_at_mutex at) none (g fits)

  beside : (at : NotifyAt) → deeds_at_condvar at ≡ []
      → (FitsItsLock w (next at) → Goes w (put (after at) t (next at)) m (deeds_at_mutex at)) → GoesOn at
  beside at none g fits = of_other w (put (after at) t (next at)) l m apart inductive (deeds_at_condvar at)
      (deeds_at_mutex at) none (g fits)

  goes_on : (at : NotifyAt) → place_at w t ≡ Condvar l (notifies at) → can_do w (notify_act all l m at) ≡ true
      → GoesOn at
  goes_on notify.Enter is can = goes_into_both w t l m all inductive is_there apart sort_l sort_m kept aside
      section_l section_m is can
  goes_on notify.Again is can = there notify.Again refl (looks_again w t l m all inductive is_there apart
      sort_l
      sort_m kept lock_l is)
  goes_on notify.Hide is can = there notify.Hide refl (hides w t l m all inductive is_there apart sort_l
      sort_m
      kept lock_l is)
  goes_on notify.Mark is can = beside notify.Mark refl (marks_it w t l m all inductive is_there apart sort_l
      sort_m kept aside lock_m is)
  goes_on (notify.Set x) is can = beside (notify.Set x) refl (sets_bit w t l m all inductive is_there apart
      sort_l sort_m kept aside lock_m x is)
  goes_on (notify.Clear any) is can = there (notify.Clear any) refl (clears w t l m all inductive is_there
      apart
      sort_l sort_m kept lock_l any is)
  goes_on (notify.MarkMoved number) is can = beside (notify.MarkMoved number) refl
      (marks_moved w t l m all inductive is_there apart sort_l sort_m kept aside lock_m number is)
  goes_on (notify.Leave false number) is can = λ fits. goes_out_of_both w t l m all inductive is_there apart
      sort_l sort_m kept aside section_l section_m number is
  goes_on (notify.Leave true number) is can = λ fits. goes_out_waking_both w t l m all inductive is_there
      apart
      sort_l sort_m plain kept aside section_l section_m number is
  goes_on (notify.Move locked) is can =
      λ fits. subst (λ x. GoesAll w (put (after (notify.Move locked)) t (next (notify.Move locked)))
      (two_at l m (acts t x.0) (acts t x.1))) (sym (moves_deeds w t l m all locked))
      (moves w t l m inductive is_there apart sort_l sort_m kept aside line_l line_m all locked is fits)

  pub notifies_go : (at : NotifyAt) → IsReached (notifies at) → place_at w t ≡ Condvar l (notifies at)
      → can_do w (notify_act all l m at) ≡ true → FitsItsLock w (next_place (place_at (after at) t) (told at))
      → GoesAll w (put (after at) t (next_place (place_at (after at) t) (told at)))
      (two_at l m (deeds_at_condvar at) (deeds_at_mutex at))
  notifies_go at reached is can = subst (λ p. FitsItsLock w (next_place p (told at))
      → GoesAll w (put (after at) t (next_place p (told at))) (two_at l m (deeds_at_condvar at) (deeds_at_mutex at)))
      (sym (notifier_still w t l m all at is reached is_there)) (goes_on at is can)
