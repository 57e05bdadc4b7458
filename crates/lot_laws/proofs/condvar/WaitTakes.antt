-- A wait that releases its mutex takes the first of its line, itself too where a notification brought it
-- there: every lock is a site again.
use Rattle.lot_laws.proofs.Imports
use Imports.{ℕ, Bool, true, false, Option, Some, None, if◌then◌else◌, ◌==◌, ◌≡◌, ◌≢◌, ◌*◌, ◌<◌, List, [], ◌∷◌}
use Imports.{length, map, drop, get_or, set, refl, sym, ◌∙◌, ap, subst, inl, inr, get_or-set_same}
use Imports.{get_or-set_other, cases_eq, Waiter, first_of, At, Reply, Took, TakenBy, taken_from, Location}
use Imports.{location_by, Place, Condvar, Idle, next_place, UnlockAt, CondvarPlace, Wait, WaiterFate, WaitAt}
use Imports.{released, in_unlock, row_at_mutex, row_at_condvar, there, wait_row, WaiterFollows, waiter_deeds}
use Imports.{Taken, first_thread, queued_of, Deed, Main, Site, State, is_there, place_at, put}
use Imports.{queue_at, queues_without_first, state_after_taking, acts, taken_at, role_on, location_at}
use Imports.{FitsItsLock, Goes, IsInductive, key_of, rules_in, site_of}
use Rattle.steps_mutex.specs.declared.places.MutexPlace.TheVariants as mutex
use Rattle.steps_mutex.specs.declared.unlock.UnlockAt.TheVariants as unlock
use Rattle.steps_condvar.specs.declared.wait.WaiterFate.TheVariants as stands
use Rattle.steps_condvar.specs.declared.wait.WaitAt.TheVariants as wait
use Rattle.spec_locks.specs.Locks as locks
use Rattle.lot_laws.proofs.machine.Parts as glue
use Rattle.lot_laws.proofs.machine.Parts.{differ, same}
use Rattle.lot_laws.proofs.condvar.TwoParts.{location_beside, taken_beside}
use Rattle.lot_laws.proofs.condvar.Replies.{waiter_hears}
use Rattle.lot_laws.proofs.mutex.Acts.{finds_nobody_at}
use Rattle.lot_laws.proofs.mutex.Hands.{first_goes, first_sleeps, first_stands, takes_it}
use Rattle.lot_laws.proofs.sites.StandsKept.{AlikeBeside}
use Rattle.lot_laws.proofs.sites.TakesAt.{after_take, member}
use Rattle.lot_laws.proofs.mutex.Waiters.{SleepsAt, release_sleeps}
use Rattle.lot_laws.proofs.condvar.WaitWords as beside

module _ (w : State) (t l m : ℕ) (timed : Bool) (inductive : IsInductive w) (here : t < length w.places)
    (apart : m ≢ l)
    (sort : (rules_in w m).sort ≡ locks.Mutex) (plain : rules_in w m ≡ glue.mutex) (line : key_of m Main
    < length w.queues) where
  abbrev waits : WaitAt → CondvarPlace
  waits at = Wait m timed at

  abbrev lock : Site
  lock = site_of w m

  abbrev releasing : WaiterFate → UnlockAt → WaitAt
  releasing s at = wait.Release s (mutex.Unlock at)

  abbrev taking : WaiterFate → WaitAt
  taking s = releasing s unlock.Take

  abbrev beside_of : WaitAt → Location
  beside_of at = location_by (row_at_mutex (At (waits at)))

  abbrev taken_of : WaitAt → Option Taken
  taken_of at = taken_from (row_at_mutex (At (waits at))).hand (row_at_mutex (At (waits at))).wants true

  -- after it the bit goes, where nobody is left
  abbrev goes_to : WaiterFate → Bool → Bool → WaitAt
  goes_to s any none_left = released s
      (in_unlock (if none_left then At (unlock.Clear any) else At (unlock.Leave any)))

  -- by the threads that stand in the line
  abbrev told : List Waiter → Reply
  told q = Took (is_there (first_of q)) (length (drop 1 q) == 0)

  abbrev after : List Waiter → State
  after q = state_after_taking (record w { queues = queues_without_first w.queues (2 * m) }) t (first_of q)

  abbrev deeds_of : List Waiter → WaiterFate → List Deed
  deeds_of q s = waiter_deeds (taking s) (first_thread (map queued_of q)) (told q)

  abbrev KeptBy : List Waiter → WaiterFate → Type 0
  KeptBy q s = Goes w (put (after q) t (next_place (place_at (after q) t) (told q))) m (acts t (deeds_of q s))

  abbrev FitsBy : List Waiter → Type 0
  FitsBy q = FitsItsLock w (next_place (place_at (after q) t) (told q))

  module _ (s : WaiterFate) (is : place_at w t ≡ Condvar l (waits (taking s))) where
    location_was : location_at (place_at w t) m ≡ beside_of (taking s)
    location_was = ap (λ q. location_at q m) is ∙ location_beside l m apart (At (waits (taking s))) refl

    taken_was : taken_at (place_at w t) m ≡ taken_of (taking s)
    taken_was = ap (λ q. taken_at q m) is ∙ taken_beside l m apart (At (waits (taking s))) refl

    follows : WaiterFollows (rules_in w m) lock t m timed (taking s)
        (first_thread (map queued_of (queue_at w (2 * m))))
        (told (queue_at w (2 * m)))
    follows = beside.follows w t l m timed inductive here apart sort (taking s) is
        (first_thread (map queued_of (queue_at w (2 * m)))) (told (queue_at w (2 * m)))
        (waiter_hears w t l m timed (taking s) inductive is refl)

    follows_by : (q : List Waiter) → queue_at w (2 * m) ≡ q
        → WaiterFollows (rules_in w m) lock t m timed (taking s) (first_thread (map queued_of q)) (told q)
    follows_by q e = subst (λ q. WaiterFollows (rules_in w m) lock t m timed (taking s)
        (first_thread (map queued_of q)) (told q)) e follows

    -- where it goes on, as it stands then
    module _ (s2 : WaiterFate) (any none_left : Bool)
        (stays : location_by (row_at_condvar (At (waits (goes_to s2 any none_left)))) ≡ there (waits (taking s)))
      where
        abbrev then_at : Place
        then_at = Condvar l (waits (goes_to s2 any none_left))

        alike : AlikeBeside m (place_at w t) then_at
        alike = beside.alike w t l m timed inductive here apart sort (taking s) is
            (At (waits (goes_to s2 any none_left))) (refl, stays)

        location_then : location_at then_at m ≡ beside_of (goes_to s2 any none_left)
        location_then = location_beside l m apart (At (waits (goes_to s2 any none_left))) refl

        taken_then : taken_at then_at m ≡ taken_of (goes_to s2 any none_left)
        taken_then = taken_beside l m apart (At (waits (goes_to s2 any none_left))) refl

        does_then : role_on then_at m ≡ (wait_row m (goes_to s2 any none_left)).role
        does_then = beside.does_next w t l m timed inductive here apart sort (At (goes_to s2 any none_left))
            refl

    next_there : (any none_left : Bool) → location_by (row_at_condvar (At (waits (goes_to s any none_left))))
        ≡ there (waits (taking s))
    next_there any true = refl
    next_there any false = refl

    -- nobody stands there
    finds_nobody : queue_at w (2 * m) ≡ [] → FitsBy [] → KeptBy [] s
    finds_nobody empty fits = subst (λ p. FitsItsLock w (next_place p (told []))
        → Goes w (put (after []) t (next_place p (told []))) m (acts t (deeds_of [] s))) (sym is)
        (λ fits. finds_nobody_at w t m inductive here sort then_there (alike s false true refl) fits line
        empty
        (follows_by [] empty).needed ((follows_by [] empty).role ∙ sym (does_then s false true refl))
        (location_then s false true refl ∙ sym location_was) (taken_was
        ∙ sym (taken_then s false true refl))) fits
      where
        then_there : Place
        then_there = Condvar l (waits (releasing s (unlock.Clear false)))

    -- ---------------------------------------------------------------- the first comes into its hand

    module _ (x : Waiter) (rest : List Waiter) (first : queue_at w (2 * m) ≡ x ∷ rest) where
      abbrev none_left : Bool
      none_left = length rest == 0

      follows_first : WaiterFollows (rules_in w m) lock t m timed (taking s) (Some x.thread)
          (Took true none_left)
      follows_first = follows_by (x ∷ rest) first

      bare : (location_at (place_at w t) m).has_taken ≡ None
      bare = ap (λ (y : Location). y.has_taken) location_was

      -- another thread
      module _ (other : x.thread ≢ t) where
        not_self : member t (x ∷ []) ≡ false
        not_self = rw (differ x.thread t other) refl

        next_beside : (b : Bool) → beside_of (goes_to s true b) ≡ record (beside_of (taking s)) {
          has_taken =
              Some false;
        }
        next_beside true = refl
        next_beside false = refl

        next_taken : (b : Bool) → taken_of (goes_to s true b) ≡ taken_of (taking s)
        next_taken true = refl
        next_taken false = refl

        place_then : place_at (after (x ∷ rest)) t ≡ Condvar l (waits (taking s))
        place_then = get_or-set_other w.places x.thread t (next_place (place_at w x.thread) (TakenBy t)) Idle
            (λ e. other (sym e)) ∙ is

        takes_another : FitsBy (x ∷ rest) → KeptBy (x ∷ rest) s
        takes_another fits = subst (λ p. FitsItsLock w (next_place p (Took true none_left))
            → Goes w (put (after (x ∷ rest)) t (next_place p (Took true none_left))) m
            (acts t (takes_it w m inductive plain x rest first))) (sym place_then)
            (λ fits. first_goes w m inductive plain x rest first t here (then_at s true none_left
            (next_there true none_left)) (alike s true none_left (next_there true none_left)) fits line
            (first_sleeps w m inductive plain x rest first t other (ap (λ (y : Location). y.inside)
            location_was)) bare
            (location_then s true none_left (next_there true none_left) ∙ next_beside none_left
            ∙ sym (ap (λ (y : Location). record y { has_taken = Some false }) location_was)
            ∙ sym (ap (λ b. record (after_take t b (location_at (place_at w t) m)) {
              has_taken =
                  Some false;
            }) not_self))
            (taken_then s true none_left (next_there true none_left) ∙ next_taken none_left ∙ sym taken_was
            ∙ sym (ap (λ b. if b then taken_at (next_place (place_at w t) (TakenBy t)) m
            else taken_at (place_at w t) m) not_self))
            follows_first.needed (follows_first.role
            ∙ sym (does_then s true none_left (next_there true none_left)))) fits

  -- ---------------------------------------------------------------- the waiter takes itself

  -- a thread that stands in the line of the mutex was moved there
  moved_so : (s : WaiterFate) → (beside_of (taking s)).stands ≡ Some Main → s ≡ stands.Moved
  moved_so stands.Moved h = refl
  moved_so stands.Listed h = absurd cc
  moved_so (stands.InHand by) h = absurd cc
  moved_so (stands.Handed by) h = absurd cc
  moved_so (stands.Noted by) h = absurd cc

  module _ (is : place_at w t ≡ Condvar l (waits (taking stands.Moved))) (x : Waiter) (rest : List Waiter)
      (first : queue_at w (2 * m) ≡ x ∷ rest) (itself : x.thread ≡ t) where
    abbrev nobody_left : Bool
    nobody_left = length rest == 0

    taken_place : next_place (place_at w t) (TakenBy t) ≡ Condvar l (waits (taking (stands.InHand t)))
    taken_place = ap (λ q. next_place q (TakenBy t)) is

    own_place : place_at (after (x ∷ rest)) t ≡ Condvar l (waits (taking (stands.InHand t)))
    own_place = subst (λ u. get_or (set w.places u (next_place (place_at w u) (TakenBy t))) t Idle
        ≡ Condvar l (waits (taking (stands.InHand t)))) (sym itself) (get_or-set_same w.places t
        (next_place (place_at w t) (TakenBy t)) Idle here ∙ taken_place)

    own_sleeps : SleepsAt m (place_at w x.thread)
    own_sleeps = subst (λ q. SleepsAt m q) (sym (ap (place_at w) itself ∙ is))
        (release_sleeps l m (λ e. apart (sym e)) m timed refl (mutex.Unlock unlock.Take))

    own_member : member t (x ∷ []) ≡ true
    own_member = rw (itself, same t) refl

    own_there : (b : Bool)
        → location_by (row_at_condvar (At (waits (goes_to (stands.InHand t) true b))))
        ≡ there (waits (taking stands.Moved))
    own_there true = refl
    own_there false = refl

    own_beside : (b : Bool) → beside_of (goes_to (stands.InHand t) true b)
        ≡ record (after_take t true (beside_of (taking stands.Moved))) { has_taken = Some false }
    own_beside true = refl
    own_beside false = refl

    own_taken : (b : Bool) → taken_of (goes_to (stands.InHand t) true b) ≡ taken_of (taking (stands.InHand t))
    own_taken true = refl
    own_taken false = refl

    own_does : (b : Bool)
        → (wait_row m (goes_to (stands.InHand t) true b)).role
        ≡ (wait_row m (goes_to stands.Moved true b)).role
    own_does true = refl
    own_does false = refl

    takes_itself : FitsBy (x ∷ rest) → KeptBy (x ∷ rest) stands.Moved
    takes_itself fits = subst (λ p. FitsItsLock w (next_place p (Took true nobody_left))
        → Goes w (put (after (x ∷ rest)) t (next_place p (Took true nobody_left))) m
        (acts t (takes_it w m inductive plain x rest first))) (sym own_place)
        (λ fits. first_goes w m inductive plain x rest first t here (then_at stands.Moved is (stands.InHand t)
        true nobody_left (own_there nobody_left)) (alike stands.Moved is (stands.InHand t) true
        nobody_left (own_there nobody_left)) fits line
        own_sleeps (bare stands.Moved is x rest first)
        (location_then stands.Moved is (stands.InHand t) true nobody_left (own_there nobody_left)
        ∙ own_beside nobody_left ∙ sym
        (ap (λ (y : Location). record (after_take t true y) { has_taken = Some false })
        (location_was stands.Moved is))
        ∙ sym (ap (λ b. record (after_take t b (location_at (place_at w t) m)) { has_taken = Some false })
        own_member))
        (taken_then stands.Moved is (stands.InHand t) true nobody_left (own_there nobody_left)
        ∙ own_taken nobody_left ∙ sym (taken_beside l m apart (At (waits (taking (stands.InHand t))))
        refl)
        ∙ sym (ap (λ q. taken_at q m) taken_place)
        ∙ sym (ap (λ b. if b then taken_at (next_place (place_at w t) (TakenBy t)) m else taken_at
        (place_at w t) m) own_member))
        (follows_first stands.Moved is x rest first).needed ((follows_first stands.Moved is x rest first).role
        ∙ sym (does_then stands.Moved is (stands.InHand t) true nobody_left (own_there nobody_left)
        ∙ own_does nobody_left))) fits

  pub moved_first : (s : WaiterFate) → place_at w t ≡ Condvar l (waits (taking s))
      → (x : Waiter) (rest : List Waiter)
      → queue_at w (2 * m) ≡ x ∷ rest → x.thread ≡ t → s ≡ stands.Moved
  moved_first s is x rest e itself = moved_so s (sym (ap (λ (y : Location). y.stands) (location_was s is))
      ∙ sym (ap (λ u. (location_at (place_at w u) m).stands) itself) ∙ first_stands w m inductive plain x rest
      e)

  -- ---------------------------------------------------------------- each thread that it takes

  pub takes : (s : WaiterFate) → place_at w t ≡ Condvar l (waits (taking s)) → FitsBy (queue_at w (2 * m))
      → KeptBy (queue_at w (2 * m)) s
  takes s is fits = by_line (queue_at w (2 * m)) refl fits
    where
      by_line : (q : List Waiter) → queue_at w (2 * m) ≡ q → FitsBy q → KeptBy q s
      by_line [] e fits = finds_nobody s is e fits
      by_line (x ∷ rest) e fits = elim (cases_eq x.thread t) [
        | inr other ↦ takes_another s is x rest e other fits
        | inl itself ↦ by_stand s is (moved_first s is x rest e itself) itself
      ]
        where
          by_stand : (s : WaiterFate) → place_at w t ≡ Condvar l (waits (taking s)) → s ≡ stands.Moved
              → x.thread ≡ t
              → KeptBy (x ∷ rest) s
          by_stand s is f itself = subst (λ z. KeptBy (x ∷ rest) z) (sym f)
              (takes_itself (subst (λ z. place_at w t ≡ Condvar l (waits (taking z))) f is) x rest e itself
              fits)
