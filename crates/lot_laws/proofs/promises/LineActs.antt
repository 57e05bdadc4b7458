-- An act that enters a section is of a line of the lock that the thread calls, and one that leaves a section
-- or touches a queue is of the line whose section the thread is in, as its place says.
use Rattle.lot_laws.proofs.Imports
use Imports.{ℕ, zero, suc, Option, Some, None, ◌≡◌, ◌≢◌, ◌⊎◌, ◌+◌, ◌*◌, ◌<◌, inl, inr, [], map, length, get_or}
use Imports.{refl, sym, ◌∙◌, ap, subst, arith, cases_eq, get_or-map, without, times, Act, act_of, key_in}
use Imports.{late_key, called_lock, profile, Place, Idle, Mutex, RwLock, Once, Condvar, Semaphore, Line, Main}
use Imports.{Second, State, place_at, section_at, queue_at, IsWellFormed, PlaceFits, location, location_at}
use Imports.{IsInductive, key_of, stood_in}
use Rattle.steps_base.specs.declared.acts.Act.TheVariants as act
use Rattle.lot_laws.specs.Locations.{Location}
use Rattle.lot_laws.proofs.hands.Counts.{without_absent}
use Rattle.lot_laws.proofs.machine.PlaceTest.{IsLineAct, IsOfLine, IsWithinLine, StandsAtCondvar, call_facts}
use Rattle.lot_laws.proofs.machine.PlaceTest.{mutex_row_facts, once_facts, semaphore_facts}
use Rattle.lot_laws.proofs.machine.Parts.{IsOf, location_here, location_elsewhere, IsSingle, single_late}

-- the thread takes each thread of a line of the lock
abbrev pub TakesHere : ℕ → Act → Type 0
TakesHere l (act.Take key x) = IsOfLine l key
TakesHere l a = Unit {0}

pub takes_here : (l : ℕ) (s : Location) (a : Act) → IsLineAct l s a → TakesHere l a
takes_here l s (act.Take key x) h = (h.0, h.2)
takes_here l s a h = tt

-- an act in a call of one lock is on a line of that
pub line_act : (p : Place) (l : ℕ) → IsSingle p → called_lock p ≡ Some l → IsLineAct l (location p) (act_of p)
line_act Idle l single h = absurd cc
line_act (RwLock k a c) l single h = let e : k ≡ l = cc
    in subst (λ j. IsLineAct j (location (RwLock k a c)) (act_of (RwLock k a c))) e (call_facts k a c).line
line_act (Once k at) l single h = let e : k ≡ l = cc
    in subst (λ j. IsLineAct j (location (Once k at)) (act_of (Once k at))) e (once_facts k at).line
line_act (Semaphore k at) l single h = let e : k ≡ l = cc
    in subst (λ j. IsLineAct j (location (Semaphore k at)) (act_of (Semaphore k at))) e
    (semaphore_facts k at).line
line_act (Condvar k at) l single h = absurd single
line_act (Mutex k at) l single h = let e : k ≡ l = cc
    in subst (λ j. IsLineAct j (location (Mutex k at)) (act_of (Mutex k at))) e (mutex_row_facts k at).line

-- a thread that may be late sleeps in a line of its lock
pub late_line : (p : Place) (key : ℕ) → IsSingle p → late_key p ≡ Some key
    → (l : ℕ) × (called_lock p ≡ Some l) × ((m : Line) × ((profile p).late_line ≡ Some m)
    × (key ≡ key_of l m))
late_line p key single h = by_lock (called_lock p) (profile p).late_line (sym (single_late p single) ∙ h)
  where
    by_lock : (o : Option ℕ) (x : Option Line) → key_in o x ≡ Some key
        → (l : ℕ) × (o ≡ Some l) × ((m : Line) × (x ≡ Some m) × (key ≡ key_of l m))
    by_lock (Some l) (Some m) e = (l, refl, (m, refl, cc))
    by_lock (Some l) None e = absurd cc
    by_lock None (Some m) e = absurd cc
    by_lock None None e = absurd cc

-- the lock that it calls is there
pub calls_there : (n : ℕ) (p : Place) (l : ℕ) → called_lock p ≡ Some l → PlaceFits n p → l < n
calls_there n Idle l e fits = absurd cc
calls_there n (RwLock k a p) l e fits = let f : k ≡ l = cc in subst (λ j. j < n) f fits
calls_there n (Once k p) l e fits = let f : k ≡ l = cc in subst (λ j. j < n) f fits
calls_there n (Semaphore k p) l e fits = let f : k ≡ l = cc in subst (λ j. j < n) f fits
calls_there n (Condvar k at) l e fits = let f : k ≡ l = cc in subst (λ j. j < n) f fits.0
calls_there n (Mutex k at) l e fits = let f : k ≡ l = cc in subst (λ j. j < n) f fits.0

-- ---------------------------------------------------------------- the sections and queues that it touches

-- each key is that of a line
parity : (n : ℕ) → ((k : ℕ) × (n ≡ 2 * k)) ⊎ ((k : ℕ) × (n ≡ 2 * k + 1))
parity zero = inl (0, refl)
parity (suc n) = elim (parity n) [
  | inl h ↦ inr (h.0, let e : n ≡ 2 * h.0 = h.1 in omega arith)
  | inr h ↦ inl (h.0 + 1, let e : n ≡ 2 * h.0 + 1 = h.1 in omega arith)
]

pub line_of_key : (key : ℕ) → (k : ℕ) × (m : Line) × (key ≡ key_of k m)
line_of_key key = elim (parity key) [
  | inl h ↦ (h.0, Main, h.1)
  | inr h ↦ (h.0, Second, h.1)
]

pub key_there : (w : State) (l : ℕ) (m : Line) → IsWellFormed w → l < length w.locks → key_of l m
    < length w.sections
key_there w l Main shape lt = let n : length w.sections ≡ 2 * length w.locks = shape.sections in omega arith
key_there w l Second shape lt = let n : length w.sections ≡ 2 * length w.locks = shape.sections in omega arith

module _ (w : State) (t l : ℕ) (inductive : IsInductive w) (is_of : IsOf l (place_at w t)) where
  -- the thread holds the section of the line
  pub holds_line : (key : ℕ) → IsWithinLine l (location (place_at w t)) key → section_at w key ≡ Some t
  holds_line key h = ap (section_at w) h.2 ∙ (inductive.stands.sections t l h.0).0
      (ap (λ (x : Location). x.inside) (location_here l (place_at w t) is_of) ∙ h.1)

  -- in no queue but that of its section it stands
  stood_out : (k : ℕ) (m n : Line) → (location (place_at w t)).inside ≡ Some m
      → StandsAtCondvar (location (place_at w t))
      → key_of k n ≢ key_of l m → times t (queue_at w (key_of k n)) ≡ 0
  stood_out k m n within stands ne = inductive.stands.lines t k n ∙ elim (cases_eq k l) [
    | inl e ↦ ap (λ (x : Location). stood_in x.stands n) (ap (location_at (place_at w t)) e
        ∙ location_here l (place_at w t) is_of) ∙ here stands (λ f. ne (λ i. key_of (e i) (f i)))
    | inr nk ↦ ap (λ (x : Location). stood_in x.stands n) (location_elsewhere l k (place_at w t) is_of nk)
  ]
    where
      other : (n m : Line) → n ≢ m → stood_in (Some m) n ≡ 0
      other Main Main f = absurd (f refl)
      other Main Second f = refl
      other Second Main f = refl
      other Second Second f = absurd (f refl)

      here : StandsAtCondvar (location (place_at w t)) → n ≢ m → stood_in (location (place_at w t)).stands n ≡ 0
      here (inl none) f = ap (λ x. stood_in x n) none
      here (inr same) f = ap (λ x. stood_in x n) (same ∙ within) ∙ other n m f

  -- where it leaves the queues, only that one changes
  pub removed_at : (m : Line) → (location (place_at w t)).inside ≡ Some m
      → StandsAtCondvar (location (place_at w t)) → (key : ℕ)
      → (get_or (map (without t) w.queues) key [] ≡ queue_at w key) ⊎ (section_at w key ≡ Some t)
  removed_at m within stands key = let of = line_of_key key in elim (cases_eq (key_of of.0 of.1)
      (key_of l m)) [
        | inl e ↦ inr (holds_line key (m, within, of.2 ∙ e))
        | inr ne ↦ inl (ap (λ k. get_or (map (without t) w.queues) k []) of.2 ∙ get_or-map (without t) w.queues
            (key_of of.0 of.1) [] ∙ without_absent t (queue_at w (key_of of.0 of.1))
            (stood_out of.0 m of.1 within stands ne) ∙ sym (ap (queue_at w) of.2))
      ]
