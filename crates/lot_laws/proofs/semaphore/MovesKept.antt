-- A thread inside the section of a semaphore takes the first that waits: every lock is a site again. No place
-- is named.
use Rattle.lot_laws.proofs.Imports
use Imports.{ℕ, Bool, true, false, Some, None, if◌then◌else◌, ◌==◌, ◌≡◌, ◌*◌, ◌<◌, List, [], ◌∷◌, length, map}
use Imports.{drop, refl, sym, ◌∙◌, ap, subst, arith, length-set, get_or-set_same, get_or-set_other, Waiter}
use Imports.{Want, Shared, threads_of, times, TakenBy, Took, Hears, StepView, inside_of, Location}
use Imports.{Knows, KnowsAll, Rules, TakeFirst, putting, queued_of, Case, Main, Place, next_place}
use Imports.{profile, State, place_at, places_told, put, queue_at, queues_without_first, state_after_reply}
use Imports.{told_count, taken_at, acts, role_on, location, location_at, ActsNeeded, AreWaiting, FitsItsLock}
use Imports.{Goes, IsInductive, TakesOne, after_acts, rules_in, locations_of, stood_in}
use Rattle.spec_locks.specs.Locks.{Semaphore}
use Rattle.spec_locks.specs.Locks as locks
use Rattle.steps_semaphore.specs.SemaphoreDeeds.{queued, take_deeds}
use Rattle.lot_laws.proofs.sites.ActsKept.{lock_by, site_by}
use Rattle.lot_laws.proofs.machine.Parts.{IsOf, put_places, same, location_here}
use Rattle.lot_laws.proofs.sites.MovesKept.{SleepsIfCalls, needed_by, own_by, site, sleeps_in}
use Rattle.lot_laws.proofs.sites.OneStep.{noted}
use Rattle.lot_laws.proofs.sites.FirstTaken.{TakesFirst}
use Rattle.lot_laws.proofs.sites.FirstTaken as first
use Rattle.lot_laws.proofs.sites.StandsKept.{in_main}
use Rattle.lot_laws.proofs.sites.TakesAt.{only_member}
use Rattle.lot_laws.proofs.sites.TakesKept.{IsTakenFrom, member, take_goes, told_by, told_places}

-- a thread that waits for a semaphore waits for a permit
pub shared_wanted : (x : Want) → Knows Semaphore x → x ≡ Shared
shared_wanted Shared k = refl
shared_wanted x k = absurd k

module _ (w : State) (t l : ℕ) (inductive : IsInductive w) (own : IsOf l (place_at w t)) (there : t
    < length w.places) (p2 : Place)
    (of : IsOf l p2) (fits : FitsItsLock w p2) (many : TakesOne w l → ⊥)
    (out : (location (place_at w t)).stands ≡ None) (free : (location (place_at w t)).hand ≡ None)
    (bare : (location (place_at w t)).has_taken ≡ None) (r : Rules) (rules : rules_in w l ≡ r)
    (none : taken_at (place_at w t) l ≡ None) (none2 : taken_at p2 l ≡ None)
    (inside : (location p2).inside ≡ (location (place_at w t)).inside) (stands : (location p2).stands ≡ None)
    (unheld : (location p2).hand ≡ None)
    (x : Waiter) (rest : List Waiter) (first : queue_at w (2 * l) ≡ x ∷ rest) (shares : x.want ≡ Shared)
    (line : 2 * l < length w.queues) where
  first_goes : IsTakenFrom w t l Main (place_at w x.thread) → (location p2).has_taken ≡ Some false
      → ActsNeeded r (acts t (Case (TakeFirst (queued x.thread)) ∷ [])) (lock_by w l r)
      → role_on p2 l ≡ (after_acts r (acts t (Case (TakeFirst (queued x.thread)) ∷ [])) (lock_by w l r)).role
      t
      → Goes w (put (state_after_reply (record w { queues = queues_without_first w.queues (2 * l) }) x.thread
      (TakenBy t)) t p2) l
      (acts t (Case (TakeFirst (queued x.thread)) ∷ []))
  first_goes sleeps has_taken needed own_is = take_goes w t l inductive own there p2 of fits many Main (x ∷ [])
      rest
      (record {
        counts = λ u. let a : times u (queue_at w (2 * l)) ≡ times u (x ∷ rest) = ap (times u) first
            in omega arith;
        sleeps = λ u h. subst (λ j. IsTakenFrom w t l Main (place_at w j)) (only_member x u h) sleeps;
        lefts = waits.1;
        wants = (
          sleeps.held x.want (sym
              (ap (λ (y : Location). y.waits) (location_here l (place_at w x.thread) sleeps.calls
              ∙ sleeps.was))
              ∙ waits.0.1),
          tt,
        );
      }) out free bare r rules none none2 v refl refl refl threads places
      (get_or-set_same w.queues (2 * l) (drop 1 (queue_at w (2 * l))) [] line ∙ ap (drop 1) first)
      (λ key ne. get_or-set_other w.queues (2 * l) key (drop 1 (queue_at w (2 * l))) [] ne) inside stands
      unheld
      (λ b e. let f : Some false ≡ Some b = sym has_taken ∙ e in let g : false ≡ b = cc
      in (sym g, (x.thread, same_one))) (λ u h. has_taken)
      (Case (TakeFirst (queued x.thread))) (tt, tt) ((λ h. h), tt) needed
      (λ i. record (lock_by w l r).lock {
        queue = sym (ap (λ (q : List Waiter). drop 1 (map queued_of q)) first) i;
        taken = locks.taking t (record {
          thread = x.thread;
          want = shares i;
        } ∷ []) (λ u. taken_at (place_at w u) l);
      })
      refl refl (noted r (lock_by w l r) (site_by w t l inductive own there r rules p2 of fits)) own_is
    where
      v : State
      v = put (state_after_reply (record w { queues = queues_without_first w.queues (2 * l) }) x.thread
          (TakenBy t)) t p2

      waits : AreWaiting (locations_of (place_at w)) l Main (x ∷ rest)
      waits = subst (AreWaiting (locations_of (place_at w)) l Main) first (inductive.stands.waits l Main)

      same_one : member x.thread (x ∷ []) ≡ true
      same_one = rw (same x.thread) refl

      threads : length v.places ≡ length w.places
      threads = length-set (places_told (TakenBy t) (threads_of (x ∷ [])) w.places) t p2
          ∙ told_count (TakenBy t) (threads_of (x ∷ [])) w.places

      places : place_at v ≡ putting (told_by (TakenBy t) (x ∷ []) (place_at w)) t p2
      places = put_places (state_after_reply (record w { queues = queues_without_first w.queues (2 * l) })
          x.thread (TakenBy t)) t p2 (λ h. absurd
          (let n : length (places_told (TakenBy t) (threads_of (x ∷ [])) w.places) ≡ length w.places =
          told_count (TakenBy t) (threads_of (x ∷ [])) w.places in omega arith))
          ∙ ap (λ (f : ℕ → Place). putting f t p2) (told_places (TakenBy t) (x ∷ []) w.places)

-- the first of the line, if there is one
module _ (w : State) (t l : ℕ) (inductive : IsInductive w) (there : t < length w.places)
    (own : IsOf l (place_at w t)) (r : Rules)
    (rules : rules_in w l ≡ r) (x : StepView) (same_row : profile (place_at w t) ≡ x.row) (asleep : (u : ℕ)
    → SleepsIfCalls w t l inductive there own r rules x same_row u)
    (hears : Hears) (many : TakesOne w l → ⊥) (line : 2 * l < length w.queues) (sort : r.sort ≡ Semaphore)
    (g : TakesFirst take_deeds x hears) where
  is_now : location (place_at w t) ≡ inside_of Main
  is_now = first.is_now w t l inductive there own r rules x same_row hears take_deeds line g

  pub takes_one : (y : Waiter) (rest : List Waiter) → queue_at w (2 * l) ≡ y ∷ rest
      → first.Followed w t l inductive there own r rules x same_row hears take_deeds line g (Some y.thread)
      (Took true (length rest == 0))
      → first.KeptBy w t l inductive there own r rules x same_row hears take_deeds line g (y ∷ rest)
  takes_one y rest e f = subst (λ ds. Goes w
      (put (state_after_reply (record w { queues = queues_without_first w.queues (2 * l) }) y.thread
      (TakenBy t)) t p2) l (acts t ds)) (sym does)
      (first_goes w t l inductive own there p2 f.of f.fits many (ap (λ (z : Location). z.stands) is_now)
      (ap (λ (z : Location). z.hand) is_now) (ap (λ (z : Location). z.has_taken) is_now) r rules
      (first.hand_now w t l inductive there own r rules x same_row hears take_deeds line g)
      (first.hand_then w t l inductive there own r rules x same_row hears take_deeds line g (Some y.thread)
      true (length rest == 0) f)
      (ap (λ (z : Location). z.inside) at_then ∙ sym (ap (λ (z : Location). z.inside) is_now))
      (ap (λ (z : Location). z.stands) at_then) (ap (λ (z : Location). z.hand) at_then)
      y rest e wants line (sleeps_in w t l inductive there own r rules x same_row asleep Main y.thread g.was
      stands_there) (ap (λ (z : Location). z.has_taken) at_then)
      (needed_by w t l inductive there own r rules x same_row (Some y.thread) (Took true (length rest == 0))
      p2 f
      (take_deeds (Some y.thread)) does)
      (own_by w t l inductive there own r rules x same_row (Some y.thread) (Took true (length rest == 0)) p2 f
      (take_deeds (Some y.thread)) does))
    where
      p2 : Place
      p2 = next_place (place_at w t) (Took true (length rest == 0))

      does : x.deeds (Some y.thread) (Took true (length rest == 0)) ≡ take_deeds (Some y.thread)
      does = g.deeds (Some y.thread) true (length rest == 0)

      at_then : location p2 ≡ record (inside_of Main) { has_taken = Some false }
      at_then = first.is_then w t l inductive there own r rules x same_row hears take_deeds line g
          (Some y.thread) true (length rest == 0) f

      known : KnowsAll Semaphore (map queued_of (y ∷ rest))
      known = subst (λ (q : List Waiter). KnowsAll Semaphore (map queued_of q)) e
          (subst (λ s. KnowsAll s (lock_by w l r).lock.queue) sort (site w t l inductive there own r rules x
          same_row).state.known_queue)

      wants : y.want ≡ Shared
      wants = shared_wanted y.want known.0

      stands_there : (location_at (place_at w y.thread) l).stands ≡ Some Main
      stands_there = in_main (location_at (place_at w y.thread) l).stands (let a : times y.thread
          (queue_at w (2 * l)) ≡ stood_in (location_at (place_at w y.thread) l).stands Main =
          inductive.stands.lines y.thread l Main in
          let b : times y.thread (queue_at w (2 * l)) ≡ times y.thread (y ∷ rest) = ap (times y.thread) e in
          let c : ◌≡◌ {A = ℕ} (if y.thread == y.thread then 1 else 0) 1 =
          ap (λ (b : Bool). if b then 1 else 0) (same y.thread) in omega arith)
