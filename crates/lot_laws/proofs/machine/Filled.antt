-- A lock is filled where it was before, or where as many share it now as its limit allows.
use Rattle.lot_laws.proofs.Imports
use Imports.{ℕ, zero, suc, Bool, true, false, Option, Some, None, if◌then◌else◌, ◌||◌, ◌≡◌, ◌⊎◌, inl, inr, List}
use Imports.{[], ◌∷◌, get_or, set, refl, ap, ◌∙◌, Keys, One, Two, Op, first_of, Step, Turn, Act, Wakes}
use Imports.{takes_effect, holds, Place, act_of, respins_from, late_key, fills, full_by, rules_of, is_full}
use Imports.{State}
use Imports.{unlocked, place_at, word_at, kind_at, filled_at, queue_at, put, state_after_operation}
use Imports.{state_after_hand_over_by, state_with_sections, queues_with_last, queues_without_first}
use Imports.{state_after_taking, state_after_wake, state_after_act, state_after_look, state_after_late_on}
use Imports.{state_after_turn, closed_place, is_possible, after, locks_of, lock_state, IsWorld, rules_in}
use Imports.{site_of}
use Rattle.spec_locks.specs.declared.kinds.Kind.TheVariants as kind
use Rattle.spec_locks.specs.declared.calls.Turn.TheVariants as turn
use Rattle.steps_base.specs.declared.acts.Act.TheVariants as act
use Rattle.steps_base.specs.declared.acts.Wakes.TheVariants as wakes
use Rattle.steps_base.specs.declared.acts.TakeWhich.TheVariants as whom
use Rattle.lot_machine.specs.declared.locks.Lock.{Lock}
use Rattle.lot_laws.proofs.sites.OneStep.{fills_by, noted}

-- a lock is as it was, or its word says whether it fills up
abbrev MarksLock : Lock → Lock → Type 0
MarksLock before now = (now.filled ≡ before.filled)
    ⊎ (now.filled ≡ (before.filled || fills (rules_of now.kind) now.word))

abbrev Marks : State → State → Type 0
Marks w v = (l : ℕ) → (filled_at v l ≡ filled_at w l)
    ⊎ (filled_at v l ≡ (filled_at w l || fills (rules_of (kind_at v l)) (word_at v l)))

set_marks : (xs : List Lock) (i : ℕ) (y d : Lock) → MarksLock (get_or xs i d) y → (j : ℕ)
    → MarksLock (get_or xs j d) (get_or (set xs i y) j d)
set_marks [] i y d m j = inl refl
set_marks (x ∷ xs) zero y d m zero = m
set_marks (x ∷ xs) zero y d m (suc j) = inl refl
set_marks (x ∷ xs) (suc i) y d m zero = inl refl
set_marks (x ∷ xs) (suc i) y d m (suc j) = set_marks xs i y d m j

operated_marks : (w : State) (t : ℕ) (p : Place) (l : ℕ) (f : Op) → Marks w (state_after_operation w t p l f)
operated_marks w t p l f k = set_marks w.locks l _ (unlocked kind.Mutex) (inr refl) k

given_marks : (b : Bool) (w : State) (t : ℕ) (p : Place) (l : ℕ) (f : Op)
    → Marks w (state_after_hand_over_by b w t p l f)
given_marks true w t p l f k = set_marks w.locks l _ (unlocked kind.Mutex) (inr refl) k
given_marks false w t p l f k = operated_marks w t p l f k

sections_stay : (w : State) (keys : Keys) (who : Option ℕ) → (state_with_sections w keys who).locks ≡ w.locks
sections_stay w (One key) who = refl
sections_stay w (Two first second) who = refl

parked_stay : (w : State) (b : Bool) (queues : List (List _))
    → (if b then record w { queues = queues } else w).locks ≡ w.locks
parked_stay w true queues = refl
parked_stay w false queues = refl

taken_stay : (w : State) (t : ℕ) (o : Option ℕ) → (state_after_taking w t o).locks ≡ w.locks
taken_stay w t None = refl
taken_stay w t (Some u) = refl

wake_stays : (w : State) (t : ℕ) (x : Wakes) → (state_after_wake w t x).locks ≡ w.locks
wake_stays w t wakes.Nobody = refl
wake_stays w t (wakes.All note) = refl

stays : (w : State) (ls : List Lock) → ls ≡ w.locks → (k : ℕ)
    → (get_or ls k (unlocked kind.Mutex)).filled ≡ filled_at w k
stays w ls e k = ap (λ xs. (get_or xs k (unlocked kind.Mutex)).filled) e

performed_marks : (w : State) (t : ℕ) (p : Place) (a : Act) → Marks w (state_after_act w t p a)
performed_marks w t p (act.Word l f) k = operated_marks w t p l f k
performed_marks w t p (act.HandOver l f) k = given_marks (takes_effect f (word_at w l)) w t p l f k
performed_marks w t p (act.Enter keys) k = inl (stays w _ (sections_stay w keys (Some t)) k)
performed_marks w t p (act.Park l key check wanted) k =
    inl (stays w _ (parked_stay w (holds check (word_at w l)) (queues_with_last w.queues key t wanted)) k)
performed_marks w t p (act.Take key whom.First) k =
    inl (stays w _ (taken_stay (record w { queues = queues_without_first w.queues key }) t
    (first_of (queue_at w key))) k)
performed_marks w t p (act.Remove key) k = inl refl
performed_marks w t p (act.Leave keys x) k =
    inl (stays w _ (wake_stays (state_with_sections w keys None) t x ∙ sections_stay w keys None) k)
performed_marks w t p a k = inl refl

looked_marks : (w : State) (t : ℕ) (o : Option Place) → Marks w (state_after_look w t o)
looked_marks w t None k = inl refl
looked_marks w t (Some q) k = performed_marks (put w t q) t (place_at (put w t q) t)
    (act_of (place_at (put w t q) t)) k

late_marks : (w : State) (t : ℕ) (o : Option ℕ) → Marks w (state_after_late_on w t o)
late_marks w t None k = inl refl
late_marks w t (Some key) k = inl refl

turned_marks : (w : State) (t : ℕ) (x : Turn) → Marks w (state_after_turn w t x)
turned_marks w t (turn.Begin c) k = inl refl
turned_marks w t turn.Go k = performed_marks w t (place_at w t) (act_of (place_at w t)) k
turned_marks w t turn.Spin k = looked_marks w t (respins_from (place_at w t)) k
turned_marks w t turn.Late k = late_marks w t (late_key (place_at w t)) k
turned_marks w t turn.Ok k = looked_marks w t (Some (closed_place w t true)) k
turned_marks w t turn.Err k = looked_marks w t (Some (closed_place w t false)) k

after_marks : (w : State) (s : Step) → Marks w (after w s)
after_marks w s k = either (is_possible w s)
  where
    either : (b : Bool)
        → (filled_at (if b then state_after_turn w s.thread s.turn else w) k ≡ filled_at w k)
        ⊎ (filled_at (if b then state_after_turn w s.thread s.turn else w) k
        ≡ (filled_at w k || fills (rules_of (kind_at (if b then state_after_turn w s.thread s.turn else w) k))
        (word_at (if b then state_after_turn w s.thread s.turn else w) k)))
    either true = turned_marks w s.thread s.turn k
    either false = inl refl

-- by its count then, since words tell it
pub filled_after : (w : State) (s : Step) → IsWorld (after w s) → (l : ℕ)
    → filled_at (after w s) l ≡ full_by (filled_at w) (locks_of (after w s)) l
filled_after w s h l = by_marks (after w s) h (after_marks w s l)
  where
    by_marks : (v : State) → IsWorld v
        → ((filled_at v l ≡ filled_at w l)
        ⊎ (filled_at v l ≡ (filled_at w l || fills (rules_of (kind_at v l)) (word_at v l))))
        → filled_at v l ≡ full_by (filled_at w) (locks_of v) l
    by_marks v k (inl same) = noted (rules_in v l) (site_of v l) (k.inductive.sites.site l)
        ∙ ap (λ b. b || is_full (rules_in v l) (lock_state v l)) same
    by_marks v k (inr marks) = marks ∙ ap (λ b. filled_at w l || b) (fills_by (rules_in v l) (site_of v l)
        (word_at v l) (k.inductive.sites.site l) (k.inductive.sites.word l))
