-- Each act in a wait at its condition variable, where it leaves its mutex as it is: every lock is a site
-- again.
use Rattle.lot_laws.proofs.Imports
use Imports.{ℕ, Bool, true, false, None, if◌then◌else◌, ◌==◌, ◌||◌, ◌≡◌, ◌≢◌, ◌*◌, ◌<◌, [], ◌∷◌, length, refl}
use Imports.{sym, ◌∙◌, ap, subst, Next, At, inside_of, row_at_mutex, row_at_condvar, there, Done, Value, Removed}
use Imports.{without, Condvar, condvar_goes, CondvarPlace, Wait, WaitAt, condvar_next, in_wait, is_shown}
use Imports.{shown_as, wait_act, condvar_deeds, condvar_steps_follow, IsCondvar, Main, State, can_do, place_at}
use Imports.{put, queue_at, reply_to, section_at, state_after_act, word_at, acts, location_at, FitsItsLock}
use Imports.{Goes, IsInductive, condvar_of, key_of, rules_in, Location, location_by}
use Rattle.core_base.specs.declared.ops.Op.TheVariants as op
use Rattle.steps_condvar.specs.declared.wait.WaitAt.TheVariants as wait
use Rattle.spec_locks.specs.Condvars as condvars
use Rattle.spec_locks.specs.Locks as locks
use Rattle.lot_laws.proofs.sites.StandsKept.{Alike}
use Rattle.lot_laws.proofs.condvar.TwoParts.{Beside, SameBeside, alike_beside, location_beside}
use Rattle.lot_laws.proofs.condvar.Replies.{at_it, may_hear, word_is, none_so}
use Rattle.lot_laws.proofs.condvar.MutexUntouched.{IsOfWord, enters_there, leaves_list, leaves_there}
use Rattle.lot_laws.proofs.condvar.MutexUntouched.{stands_there, there_deeds, works_there}

-- the places of a wait whose act is at the condition variable alone
abbrev pub IsAtCondvar : WaitAt → Type 0
IsAtCondvar wait.Enter = Unit {0}
IsAtCondvar wait.Show = Unit {0}
IsAtCondvar wait.Stand = Unit {0}
IsAtCondvar wait.Leave = Unit {0}
IsAtCondvar wait.Remove = Unit {0}
IsAtCondvar wait.Hide = Unit {0}
IsAtCondvar wait.GiveUp = Unit {0}
IsAtCondvar at = ⊥

module _ (w : State) (t l m : ℕ) (timed : Bool) (inductive : IsInductive w) (is_there : t < length w.places)
    (apart : m ≢ l)
    (sort : (rules_in w l).sort ≡ locks.Condvar) (condvar : IsCondvar (condvar_of w l))
    (lock : l < length w.locks) (section : key_of l Main < length w.sections) (line : key_of l Main
    < length w.queues) where
  abbrev waits : WaitAt → CondvarPlace
  waits at = Wait m timed at

  abbrev Kept : WaitAt → Type 0
  Kept at = Goes w (put (state_after_act w t (Condvar l (waits at)) (wait_act l m at)) t
      (condvar_goes l (condvar_next (waits at) (reply_to w t (wait_act l m at))))) l
      (acts t (there_deeds (condvar_deeds (waits at) (reply_to w t (wait_act l m at)))))

  abbrev FitsNext : WaitAt → Type 0
  FitsNext at = FitsItsLock w (condvar_goes l (condvar_next (waits at) (reply_to w t (wait_act l m at))))

  -- tells what a step leaves as it was at the mutex
  same_beside : (at : WaitAt) → place_at w t ≡ Condvar l (waits at) → (n : Next CondvarPlace) → Beside m n
      → SameBeside (At (waits at)) n → Alike m (place_at w t) (condvar_goes l n)
  same_beside at is n beside e = subst (λ q. Alike m q (condvar_goes l n)) (sym is)
      (alike_beside l m apart (At (waits at)) n refl beside e)

  -- the thread stands in no line there
  outside : (at : WaitAt) → place_at w t ≡ Condvar l (waits at)
      → (location_by (row_at_mutex (At (waits at)))).stands ≡ None
      → (location_at (place_at w t) m).stands ≡ None
  outside at is e = ap (λ q. (location_at q m).stands) is
      ∙ ap (λ (y : Location). y.stands) (location_beside l m apart (At (waits at)) refl) ∙ e

  enters : place_at w t ≡ Condvar l (waits wait.Enter) → can_do w (wait_act l m wait.Enter) ≡ true
      → FitsNext wait.Enter
      → Kept wait.Enter
  enters is can fits = enters_there w t l m (waits wait.Enter) inductive is_there apart sort is refl Done refl
      fits (same_beside wait.Enter is (At (waits wait.Show)) refl (refl, refl, refl))
      section (none_so (section_at w (2 * l)) can) refl refl

  stands : place_at w t ≡ Condvar l (waits wait.Stand) → FitsNext wait.Stand → Kept wait.Stand
  stands is fits = stands_there w t l m (waits wait.Stand) inductive is_there apart sort is refl Done refl
      fits
      (same_beside wait.Stand is (At (waits wait.Leave)) refl (refl, refl, refl)) (outside wait.Stand is refl)
      line refl refl

  leaves : place_at w t ≡ Condvar l (waits wait.Leave) → FitsNext wait.Leave → Kept wait.Leave
  leaves is fits = leaves_there w t l m (waits wait.Leave) inductive is_there apart sort is refl Done refl
      fits
      (same_beside wait.Leave is (condvar_next (waits wait.Leave) Done) refl (refl, refl, refl)) section refl
      refl

  gives_up : place_at w t ≡ Condvar l (waits wait.GiveUp) → FitsNext wait.GiveUp → Kept wait.GiveUp
  gives_up is fits = leaves_there w t l m (waits wait.GiveUp) inductive is_there apart sort is refl Done refl
      fits (same_beside wait.GiveUp is (condvar_next (waits wait.GiveUp) Done) refl (refl, refl, refl))
      section refl refl

  -- the thread's time is up, and it leaves the list; whether anybody is left there
  removed_next : (b : Bool) → Beside m (in_wait m timed (if b then At wait.Hide else At wait.GiveUp))
  removed_next true = refl
  removed_next false = refl

  removed_same : (b : Bool) → SameBeside (At (waits wait.Remove))
      (in_wait m timed (if b then At wait.Hide else At wait.GiveUp))
  removed_same true = (refl, refl, refl)
  removed_same false = (refl, refl, refl)

  removed_there : (b : Bool)
      → location_by (row_at_condvar (in_wait m timed (if b then At wait.Hide else At wait.GiveUp)))
      ≡ inside_of Main
  removed_there true = refl
  removed_there false = refl

  removes : place_at w t ≡ Condvar l (waits wait.Remove) → FitsNext wait.Remove → Kept wait.Remove
  removes is fits = leaves_list w t l m (waits wait.Remove) inductive is_there apart sort is refl
      (Removed none_left) (removed_next none_left) fits (same_beside wait.Remove is
      (condvar_next (waits wait.Remove) (Removed none_left)) (removed_next none_left)
      (removed_same none_left))
      (outside wait.Remove is refl) refl (removed_there none_left)
    where
      none_left : Bool
      none_left = length (without t (queue_at w (2 * l))) == 0

  -- a mutex is shown, this one or another
  shows_next : (b : Bool) → Beside m (in_wait m timed (if b then At wait.Stand else At wait.Refuse))
  shows_next true = refl
  shows_next false = refl

  shows_same : (b : Bool) → SameBeside (At (waits wait.Show))
      (in_wait m timed (if b then At wait.Stand else At wait.Refuse))
  shows_same true = (refl, refl, refl)
  shows_same false = (refl, refl, refl)

  shows_there : (b : Bool)
      → location_by (row_at_condvar (in_wait m timed (if b then At wait.Stand else At wait.Refuse)))
      ≡ there (waits wait.Show)
  shows_there true = refl
  shows_there false = refl

  shows_deeds : (b : Bool) → IsOfWord (if b then condvars.Show m ∷ [] else condvars.SeeOther m ∷ [])
  shows_deeds true = tt
  shows_deeds false = tt

  shows : place_at w t ≡ Condvar l (waits wait.Show) → can_do w (wait_act l m wait.Show) ≡ true
      → FitsNext wait.Show
      → Kept wait.Show
  shows is can fits = works_there w t l m (waits wait.Show) inductive is_there apart sort is refl (Value seen)
      (shows_next (sees seen)) fits (same_beside wait.Show is (condvar_next (waits wait.Show) (Value seen))
      (shows_next (sees seen)) (shows_same (sees seen)))
      (op.Exchange 0 (shown_as m)) lock refl refl (word_is w t l (waits wait.Show) inductive is)
      (shows_there (sees seen)) (shows_deeds (sees seen))
      (condvar_steps_follow (condvar_of w l) t (waits wait.Show) (Value seen) condvar
      (at_it w t l (waits wait.Show) inductive is) (may_hear w t l (waits wait.Show) inductive is can))
    where
      seen : ℕ
      seen = word_at w l

      sees : ℕ → Bool
      sees v = (v == 0) || is_shown v m

  hides : place_at w t ≡ Condvar l (waits wait.Hide) → can_do w (wait_act l m wait.Hide) ≡ true
      → FitsNext wait.Hide
      → Kept wait.Hide
  hides is can fits = works_there w t l m (waits wait.Hide) inductive is_there apart sort is refl
      (Value (word_at w l)) refl fits (same_beside wait.Hide is (At (waits wait.GiveUp)) refl (
        refl,
        refl,
        refl,
      ))
      (op.Store 0) lock refl refl (word_is w t l (waits wait.Hide) inductive is) refl tt
      (condvar_steps_follow (condvar_of w l) t (waits wait.Hide) (Value (word_at w l)) condvar
      (at_it w t l (waits wait.Hide) inductive is) (may_hear w t l (waits wait.Hide) inductive is can))

  pub waits_there : (at : WaitAt) → IsAtCondvar at → place_at w t ≡ Condvar l (waits at)
      → can_do w (wait_act l m at) ≡ true
      → FitsNext at → Kept at
  waits_there wait.Enter h is can fits = enters is can fits
  waits_there wait.Show h is can fits = shows is can fits
  waits_there wait.Stand h is can fits = stands is fits
  waits_there wait.Leave h is can fits = leaves is fits
  waits_there wait.Remove h is can fits = removes is fits
  waits_there wait.Hide h is can fits = hides is can fits
  waits_there wait.GiveUp h is can fits = gives_up is fits
  waits_there at h is can fits = absurd h
