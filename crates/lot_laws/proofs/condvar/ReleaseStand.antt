-- Where a wait's own release of its mutex leaves its thread: where it stood, unless it has taken itself from
-- the queue of the mutex, or wakes itself.
use Rattle.lot_laws.proofs.Imports
use Imports.{ℕ, Bool, true, false, if◌then◌else◌, ◌==◌, ◌≡◌, ◌≢◌, ◌⊎◌, ◌*◌, ◌<◌, List, [], ◌∷◌, length, drop}
use Imports.{get_or, set, get_or-set_other, get_or-set_same, inl, inr, refl, sym, ◌∙◌, ap, subst, get_or-map}
use Imports.{cases_eq, Waiter, first_of, TakenBy, Took, Woken, is_thread, UnlockAt, unlock_act, Wait}
use Imports.{WaiterFate}
use Imports.{WaitAt, hand, hand_of, taker_of, Place, Condvar, Idle, next_place, Main, State, is_there}
use Imports.{place_after_telling, place_at, queue_at, queues_without_first, reply_to, state_after_act}
use Imports.{state_after_taking, IsInductive, key_of, rules_in}
use Rattle.core_base.specs.declared.notes.Note.TheVariants as note
use Rattle.steps_mutex.specs.declared.places.MutexPlace.TheVariants as mutex
use Rattle.steps_mutex.specs.declared.unlock.UnlockAt.TheVariants as unlock
use Rattle.steps_condvar.specs.declared.wait.WaiterFate.TheVariants as stands
use Rattle.steps_condvar.specs.declared.wait.WaitAt.TheVariants as wait
use Rattle.spec_locks.specs.Locks as locks
use Rattle.lot_laws.proofs.machine.Parts as glue
use Rattle.lot_laws.proofs.machine.Parts.{differ, same}
use Rattle.lot_laws.proofs.condvar.WaitTakes.{moved_first}
use Rattle.lot_laws.proofs.condvar.WaitWakes.{not_given}

abbrev pub releasing : WaiterFate → UnlockAt → WaitAt
releasing s at = wait.Release s (mutex.Unlock at)

-- the thread isn't in the hand that it opens
abbrev pub IsLeft : ℕ → WaiterFate → UnlockAt → Type 0
IsLeft t s at = at ≡ unlock.Leave true → is_thread t (taker_of s) ≡ false

-- the thread was the first of the queue, to which it was moved
pub record TookItself (w : State) (t m : ℕ) (s s2 : WaiterFate) (at : UnlockAt) : Type 0 where
  pub takes : at ≡ unlock.Take
  pub moved : s ≡ stands.Moved
  pub in_hand : s2 ≡ stands.InHand t
  pub none_left : Bool
  pub told : reply_to w t (unlock_act m unlock.Take) ≡ Took true none_left

-- the thread was in its own hand, and leaves the section
pub record WokeItself (t : ℕ) (s s2 : WaiterFate) (at : UnlockAt) : Type 0 where
  pub leaves : at ≡ unlock.Leave true
  pub in_hand : s ≡ stands.InHand t
  pub noted : s2 ≡ stands.Noted note.Normal

module _ (w : State) (t l m : ℕ) (timed : Bool) (inductive : IsInductive w) (here : t < length w.places)
    (apart : m ≢ l)
    (sort : (rules_in w m).sort ≡ locks.Mutex) (plain : rules_in w m ≡ glue.mutex)
    (line : key_of m Main < length w.queues) (section : key_of m Main < length w.sections) where
  abbrev pub place_of : WaiterFate → UnlockAt → Place
  place_of s at = Condvar l (Wait m timed (releasing s at))

  abbrev acted : WaiterFate → UnlockAt → State
  acted s at = state_after_act w t (place_of s at) (unlock_act m at)

  -- where it stands once it has acted
  pub record LeftAt (s : WaiterFate) (at : UnlockAt) : Type 0 where
    pub now : WaiterFate
    pub place : place_at (acted s at) t ≡ place_of now at
    pub how : ((now ≡ s) × IsLeft t s at) ⊎ (TookItself w t m s now at ⊎ WokeItself t s now at)

  module _ (s : WaiterFate) (is : place_at w t ≡ place_of s unlock.Take) where
    abbrev after_take : List Waiter → State
    after_take q = state_after_taking (record w { queues = queues_without_first w.queues (2 * m) }) t
        (first_of q)

    takes : (q : List Waiter) → queue_at w (2 * m) ≡ q → LeftAt s unlock.Take
    takes [] e = record {
      now = s;
      place = ap (λ q. place_at (after_take q) t) e ∙ is;
      how = inl (refl, λ f. absurd cc);
    }
    takes (x ∷ rest) e = elim (cases_eq x.thread t) [
      | inr other ↦ record {
        now = s;
        place = ap (λ q. place_at (after_take q) t) e ∙ get_or-set_other w.places x.thread t
            (next_place (place_at w x.thread) (TakenBy t)) Idle (λ f. other (sym f)) ∙ is;
        how = inl (refl, λ f. absurd cc);
      }
      | inl itself ↦ record {
        now = stands.InHand t;
        place = ap (λ q. place_at (after_take q) t) e
            ∙ subst (λ u. get_or (set w.places u (next_place (place_at w u) (TakenBy t))) t Idle
            ≡ place_of (stands.InHand t) unlock.Take) (sym itself)
            (get_or-set_same w.places t (next_place (place_at w t) (TakenBy t)) Idle here
            ∙ ap (λ q. next_place q (TakenBy t)) is);
        how = inr (inl (record {
          takes = refl;
          moved = moved_first w t l m timed inductive here apart sort plain line s is x rest e itself;
          in_hand = refl;
          none_left = length rest == 0;
          told = ap (λ q. Took (is_there (first_of q)) (length (drop 1 q) == 0)) e;
        }));
      }
    ]

  abbrev Told : WaiterFate → Type 0
  Told s = place_at (acted s (unlock.Leave true)) t ≡ place_after_telling t (Woken note.Normal)
      (place_of s (unlock.Leave true))

  -- the thread opens its hand
  leaves : (s : WaiterFate) → place_at w t ≡ place_of s (unlock.Leave true) → LeftAt s (unlock.Leave true)
  leaves s is = by_stand s (not_given w t l m timed inductive here apart sort plain section true s is)
      (get_or-map (place_after_telling t (Woken note.Normal)) w.places t Idle
      ∙ ap (place_after_telling t (Woken note.Normal)) is)
    where
      by_stand : (s : WaiterFate) → (hand_of s ≡ hand t true → ⊥) → Told s → LeftAt s (unlock.Leave true)
      by_stand stands.Listed given told = record {
        now = stands.Listed;
        place = told;
        how = inl (refl, λ e. refl);
      }
      by_stand stands.Moved given told = record {
        now = stands.Moved;
        place = told;
        how = inl (refl, λ e. refl);
      }
      by_stand (stands.Noted n) given told = record {
        now = stands.Noted n;
        place = told;
        how = inl (refl, λ e. refl);
      }
      by_stand (stands.Handed u) given told = elim (cases_eq u t) [
        | inl e ↦ absurd (given (ap (λ x. hand x true) e))
        | inr ne ↦ record {
          now = stands.Handed u;
          place = told ∙ ap (λ (b : Bool). if b then place_of (stands.Noted note.Normal) (unlock.Leave true)
              else place_of (stands.Handed u) (unlock.Leave true)) (differ u t ne);
          how = inl (refl, λ e. differ u t ne);
        }
      ]
      by_stand (stands.InHand u) given told = elim (cases_eq u t) [
        | inl e ↦ record {
          now = stands.Noted note.Normal;
          place = told ∙ ap (λ (b : Bool). if b then place_of (stands.Noted note.Normal) (unlock.Leave true)
              else place_of (stands.InHand u) (unlock.Leave true)) (ap (λ k. u == k) (sym e) ∙ same u);
          how = inr (inr (record { leaves = refl; in_hand = ap stands.InHand e; noted = refl }));
        }
        | inr ne ↦ record {
          now = stands.InHand u;
          place = told ∙ ap (λ (b : Bool). if b then place_of (stands.Noted note.Normal) (unlock.Leave true)
              else place_of (stands.InHand u) (unlock.Leave true)) (differ u t ne);
          how = inl (refl, λ e. differ u t ne);
        }
      ]

  -- for every act
  pub left_at : (s : WaiterFate) (at : UnlockAt) → place_at w t ≡ place_of s at → LeftAt s at
  left_at s unlock.Subtract is = record { now = s; place = is; how = inl (refl, λ e. absurd cc) }
  left_at s unlock.Enter is = record { now = s; place = is; how = inl (refl, λ e. absurd cc) }
  left_at s unlock.Take is = takes s is (queue_at w (2 * m)) refl
  left_at s (unlock.Clear any) is = record { now = s; place = is; how = inl (refl, λ e. absurd cc) }
  left_at s (unlock.Leave false) is = record { now = s; place = is; how = inl (refl, λ e. absurd cc) }
  left_at s (unlock.Leave true) is = leaves s is
