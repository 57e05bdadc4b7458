-- A try to lock a mutex, or to write, is one step, and answers by the word that it finds.
use Rattle.lot_laws.proofs.Imports
use Imports.{ℕ, zero, suc, Bool, true, false, Option, Some, None, List, [], ◌∷◌, if◌then◌else◌, ◌==◌, ◌≡◌, ◌≢◌}
use Imports.{◌<◌, length, get_or, is_none, refl, sym, ◌∙◌, ap, subst, arith, lt-ltb, Call, Kind, Try, Step}
use Imports.{outcome_of, is_locked, Place, Idle, Mutex, act_of, first_place, next_act, State, place_at, kind_at}
use Imports.{word_at, can_do, reply_to, go_of, go_outcome, going_outcome, is_possible, step_outcome, lock_state}
use Imports.{owner_at, IsMutexWord, IsInductive, TriesAtOnce, tried}
use Rattle.spec_locks.specs.declared.calls.Access.TheVariants.{Exclusive}
use Rattle.spec_locks.specs.declared.calls.Call.TheVariants as call
use Rattle.spec_locks.specs.declared.calls.MutexCall.TheVariants.{TryLock}
use Rattle.spec_locks.specs.declared.calls.RwLockCall.TheVariants.{Enter}
use Rattle.spec_locks.specs.declared.calls.Turn.TheVariants as turn
use Rattle.spec_locks.specs.declared.outcomes.Outcome.TheVariants as outcome
use Rattle.steps_mutex.specs.declared.places.MutexPlace.TheVariants as mutex
use Rattle.lot_laws.proofs.machine.AtPlaces.{coded_for}
use Rattle.lot_laws.proofs.machine.Parts.{IsSingle}
use Rattle.lot_laws.proofs.mutex.Words.{free_word, owned_word}
use Rattle.lot_laws.proofs.calls.OwnPlace.{told_from_there}

-- ---------------------------------------------------------------- a thread in a call is there

pub stands_there : (xs : List Place) (t : ℕ) → get_or xs t Idle ≢ Idle → t < length xs
stands_there [] t busy = absurd (busy refl)
stands_there (x ∷ xs) zero busy = omega arith
stands_there (x ∷ xs) (suc t) busy = let ih : t < length xs = stands_there xs t busy in omega arith

pub first_busy : (k : Kind) (c : Call) (p : Place) → p ≡ first_place k c → p ≢ Idle
first_busy k (call.Mutex l c) p is idle = let e : first_place k (call.Mutex l c) ≡ Idle = sym is ∙ idle in cc
first_busy k (call.RwLock l c) p is idle = let e : first_place k (call.RwLock l c) ≡ Idle = sym is ∙ idle
    in cc
first_busy k (call.Once l c) p is idle = let e : first_place k (call.Once l c) ≡ Idle = sym is ∙ idle in cc
first_busy k (call.Semaphore l c) p is idle = let e : first_place k (call.Semaphore l c) ≡ Idle = sym is
    ∙ idle in cc
first_busy k (call.Condvar l c) p is idle = let e : first_place k (call.Condvar l c) ≡ Idle = sym is ∙ idle
    in cc

-- ---------------------------------------------------------------- one step

module _ (w : State) (t : ℕ) (p : Place) (is : place_at w t ≡ p) (single : IsSingle p) (there : t
    < length w.places) where
  possible : can_do w (act_of p) ≡ true → is_possible w (go_of t) ≡ true
  possible can = rw (lt-ltb t (length w.places) there, is) can

  pub told : can_do w (act_of p) ≡ true → step_outcome w (go_of t) ≡ outcome_of
      (next_act p (reply_to w t (act_of p)))
  told can = ap (λ b. if b then go_outcome w t else outcome.NotNow) (possible can) ∙ ap (going_outcome w t) is
      ∙ told_from_there w t p is single

module _ (w : State) (t l : ℕ) (inductive : IsInductive w) where
  pub locks_told : place_at w t ≡ first_place (kind_at w l) (call.Mutex l TryLock) → step_outcome w (go_of t)
      ≡ tried (is_none (lock_state w l).exclusive)
  locks_told is = told w t (Mutex l mutex.TryLock) is tt
      (stands_there w.places t (first_busy (kind_at w l) (call.Mutex l TryLock) (place_at w t) is)) refl
      ∙ by_word (is_locked (word_at w l)) refl (owner_at w l) refl
    where
      coded : IsMutexWord (word_at w l) (owner_at w l)
      coded = coded_for w inductive t l mutex.TryLock is

      by_word : (b : Bool) → is_locked (word_at w l) ≡ b → (o : Option ℕ) → owner_at w l ≡ o
          → outcome_of (next_act (Mutex l mutex.TryLock) (reply_to w t (act_of (Mutex l mutex.TryLock))))
          ≡ tried (is_none (lock_state w l).exclusive)
      by_word true e (Some u) f = rw (e, f) refl
      by_word false e None f = rw (e, f) refl
      by_word true e None f = absurd (owned_word (word_at w l) (owner_at w l) coded e f)
      by_word false e (Some u) f = absurd (let none : owner_at w l ≡ None =
          free_word (word_at w l) (owner_at w l) coded e in let both : Some u ≡ None = sym f ∙ none in cc)

  writes_told : place_at w t ≡ first_place (kind_at w l) (call.RwLock l (Enter Exclusive Try))
      → step_outcome w (go_of t) ≡ tried (word_at w l == 0)
  writes_told is = told w t (first_place (kind_at w l) (call.RwLock l (Enter Exclusive Try))) is tt
      (stands_there w.places t (first_busy (kind_at w l) (call.RwLock l (Enter Exclusive Try)) (place_at w t)
      is)) refl
      ∙ by_word (word_at w l == 0) refl
    where
      by_word : (b : Bool) → (word_at w l == 0) ≡ b
          → outcome_of (next_act (first_place (kind_at w l) (call.RwLock l (Enter Exclusive Try)))
          (reply_to w t (act_of (first_place (kind_at w l) (call.RwLock l (Enter Exclusive Try))))))
          ≡ tried (word_at w l == 0)
      by_word true e = rw e refl
      by_word false e = rw e refl

pub tries_at_once : (w : State) (s : Step) → IsInductive w → s.turn ≡ turn.Go
    → TriesAtOnce w s.thread (step_outcome w s)
tries_at_once w s inductive goes =
    subst (λ x. TriesAtOnce w s.thread (step_outcome w (record { thread = s.thread; turn = x }))) (sym goes)
    (record {
      locks = λ l. locks_told w s.thread l inductive;
      writes = λ l. writes_told w s.thread l inductive;
    })
