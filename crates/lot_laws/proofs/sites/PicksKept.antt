-- A thread takes those that are picked of the main queue of a reader-writer lock, the writer aside, or all
-- that wait for a `Once`: what the machine does is the case of the lock.
use Rattle.lot_laws.proofs.Imports
use Imports.{ℕ, Bool, true, false, Option, Some, None, if◌then◌else◌, ◌==◌, ◌||◌, ◌≡◌, ◌+◌, ◌*◌, ◌≤◌, ◌<◌, List}
use Imports.{[], ◌∷◌, length, map, drop, refl, sym, ◌∙◌, ap, subst, arith, length-set, get_or-set_same}
use Imports.{get_or-set_other, nat_tests, LockPicker, Pick, Unpark, Skip, Stop, Waiter, Want, Exclusive, line}
use Imports.{times, threads_of, without_picked, lock_answer, next_picker, lock_picker, lock_picked}
use Imports.{without_lock_picked, Place, Idle, TakenBy, next_place, TakeAll, OfOnce, Rules, Sort, TakePicked}
use Imports.{TakeAside, is_recursive, putting, queued_of, Line, Main, Second, Case, pickers_pick, State}
use Imports.{place_at, queue_at, put, state_after_take, state_after_reply, queues_without_first, places_told}
use Imports.{told_count, taken_at, acts, location, role_on, locations_of, ActsNeeded, AreWaiting, TakesOne}
use Imports.{IsInductive, Goes, FitsItsLock, after_acts, rules_in, key_of}
use Rattle.core_base.specs.Picks.{picked}
use Rattle.steps_base.specs.declared.acts.TakeWhich.TheVariants as whom
use Rattle.spec_locks.specs.Locks as locks
use Rattle.lot_laws.specs.Locations.{Location}
use Rattle.lot_laws.proofs.machine.Parts.{put_places, same, location_here, IsOf}
use Rattle.lot_laws.proofs.sites.OneStep.{noted}
use Rattle.lot_laws.proofs.sites.ActsKept.{lock_by, site_by}
use Rattle.lot_laws.proofs.sites.TakesKept.{member, told_by, told_places, AllAre, IsTakenFrom, take_goes}
use Rattle.lot_laws.proofs.sites.TakesAt.{only_member}

-- all stand under one key
abbrev pub AllUnder : ℕ → List Waiter → Type 0
AllUnder key [] = Unit {0}
AllUnder key (x ∷ xs) = (x.key ≡ key) × AllUnder key xs

line_all : (key : ℕ) (xs : List Waiter) → AllUnder key xs → line key xs ≡ xs
line_all key [] h = refl
line_all key (x ∷ xs) h = grind (arith, nat_tests, line_all key xs h.1)

under_left : (key : ℕ) (picker : LockPicker) (xs : List Waiter) → AllUnder key xs
    → AllUnder key (without_picked lock_answer next_picker picker key xs)
under_left key picker [] h = tt
under_left key picker (x ∷ xs) h = grind (arith, nat_tests, under_left key (next_picker picker x.want) xs h.1)

pub picked_counts : (u key : ℕ) (picker : LockPicker) (xs : List Waiter) → AllUnder key xs
    → times u (picked lock_answer next_picker picker xs)
    + times u (without_picked lock_answer next_picker picker key xs)
    ≡ times u xs
picked_counts u key picker [] h = refl
picked_counts u key picker (x ∷ xs) h =
    grind (arith, nat_tests, picked_counts u key (next_picker picker x.want) xs h.1)

-- a thread that stands in a line does so under its key
pub under_of : (p : ℕ → ℕ → Location) (l : ℕ) (m : Line) (xs : List Waiter) → AreWaiting p l m xs
    → AllUnder (key_of l m) xs
under_of p l m [] h = tt
under_of p l m (x ∷ xs) h = (h.0.0, under_of p l m xs h.1)

waiting_left : (p : ℕ → ℕ → Location) (l : ℕ) (m : Line) (picker : LockPicker) (xs : List Waiter)
    → AreWaiting p l m xs
    → AreWaiting p l m (without_picked lock_answer next_picker picker (key_of l m) xs)
waiting_left p l m picker [] h = tt
waiting_left p l m picker (x ∷ xs) h = either (x.key == key_of l m) (lock_answer picker x.want)
    (waiting_left p l m (next_picker picker x.want) xs h.1) (waiting_left p l m picker xs h.1)
  where
    either : (b : Bool) (answer : Pick)
        → AreWaiting p l m (without_picked lock_answer next_picker (next_picker picker x.want) (key_of l m)
        xs) → AreWaiting p l m (without_picked lock_answer next_picker picker (key_of l m) xs)
        → AreWaiting p l m (if b
        then (elim answer [
          | Unpark ↦ without_picked lock_answer next_picker (next_picker picker x.want) (key_of l m) xs
          | Skip ↦ x ∷ without_picked lock_answer next_picker (next_picker picker x.want) (key_of l m) xs
          | Stop ↦ x ∷ xs
        ])
        else (x ∷ without_picked lock_answer next_picker picker (key_of l m) xs))
    either true Unpark more same_ones = more
    either true Skip more same_ones = (h.0, more)
    either true Stop more same_ones = h
    either false answer more same_ones = (h.0, same_ones)

waiting_picked : (p : ℕ → ℕ → Location) (l : ℕ) (m : Line) (picker : LockPicker) (xs : List Waiter)
    → AreWaiting p l m xs
    → AreWaiting p l m (picked lock_answer next_picker picker xs)
waiting_picked p l m picker [] h = tt
waiting_picked p l m picker (x ∷ xs) h = either (lock_answer picker x.want)
    (waiting_picked p l m (next_picker picker x.want) xs h.1)
  where
    either : (answer : Pick) → AreWaiting p l m (picked lock_answer next_picker (next_picker picker x.want)
        xs) → AreWaiting p l m (elim answer [
          | Unpark ↦ x ∷ picked lock_answer next_picker (next_picker picker x.want) xs
          | Skip ↦ picked lock_answer next_picker (next_picker picker x.want) xs
          | Stop ↦ []
        ])
    either Unpark more = (h.0, more)
    either Skip more = more
    either Stop more = tt

-- each thread that is taken is so for what it waits for
wants_held : (w : State) (t l : ℕ) (m : Line) (xs : List Waiter) → AreWaiting (locations_of (place_at w)) l m
    xs
    → ((u : ℕ) → member u xs ≡ true → IsTakenFrom w t l m (place_at w u))
    → AllAre t (λ u. taken_at (next_place (place_at w u) (TakenBy t)) l) xs
wants_held w t l m [] h sleeps = tt
wants_held w t l m (x ∷ xs) h sleeps = (
  (sleeps x.thread here).held x.want
      (sym (ap (λ (y : Location). y.waits) (location_here l (place_at w x.thread) (sleeps x.thread here).calls
      ∙ (sleeps x.thread here).was)) ∙ h.0.1),
  wants_held w t l m xs h.1 (λ u g. sleeps u (more u g)),
)
  where
    here : member x.thread (x ∷ xs) ≡ true
    here = ap (λ b. b || member x.thread xs) (same x.thread)

    more : (u : ℕ) → member u xs ≡ true → member u (x ∷ xs) ≡ true
    more u g = either (x.thread == u)
      where
        either : (b : Bool) → (b || member u xs) ≡ true
        either true = refl
        either false = g

-- the picker picks as the lock says
module _ (sort : Sort) (start : Option Want) (key : ℕ) (q : List Waiter) (under : AllUnder key q) where
  pub picks_tied : map queued_of (lock_picked start (is_recursive sort) q) ≡ locks.picked sort start
      (map queued_of q)
  picks_tied = ap (λ y. map queued_of (lock_picked start (is_recursive sort) y)) (sym (line_all key q under))
      ∙ (pickers_pick sort start key q).taken ∙ ap (λ y. locks.picked sort start (map queued_of y))
      (line_all key q under)

  pub left_tied : map queued_of (without_lock_picked start (is_recursive sort) key q)
      ≡ locks.unpicked sort start (map queued_of q)
  left_tied = ap (map queued_of)
      (sym (line_all key _ (under_left key (lock_picker start (is_recursive sort)) q under)))
      ∙ (pickers_pick sort start key q).left ∙ ap (λ y. locks.unpicked sort start (map queued_of y))
      (line_all key q under)

module _ (w : State) (t l : ℕ) (inductive : IsInductive w) (own : IsOf l (place_at w t)) (there : t
    < length w.places) (p2 : Place)
    (of : IsOf l p2) (fits : FitsItsLock w p2) (many : TakesOne w l → ⊥)
    (out : (location (place_at w t)).stands ≡ None) (free : (location (place_at w t)).hand ≡ None)
    (bare : (location (place_at w t)).has_taken ≡ None) (r : Rules) (rules : rules_in w l ≡ r)
    (none : taken_at (place_at w t) l ≡ None) (none2 : taken_at p2 l ≡ None)
    (inside : (location p2).inside ≡ (location (place_at w t)).inside) (stands : (location p2).stands ≡ None)
    (unheld : (location p2).hand ≡ None) where
  past : (n : ℕ) → n ≡ length w.places → n ≤ t → p2 ≡ Idle
  past n e h = absurd (omega arith)

  -- the waiters of the main queue that are picked
  module _ (start : Option Want) (some_line : 2 * l < length w.queues) where
    abbrev pub picks : List Waiter
    picks = lock_picked start (is_recursive r.sort) (queue_at w (2 * l))

    abbrev pub rest : List Waiter
    rest = without_lock_picked start (is_recursive r.sort) (2 * l) (queue_at w (2 * l))

    under : AllUnder (2 * l) (queue_at w (2 * l))
    under = under_of (locations_of (place_at w)) l Main (queue_at w (2 * l)) (inductive.stands.waits l Main)

    pub picked_goes : ((u : ℕ) → member u picks ≡ true → IsTakenFrom w t l Main (place_at w u))
        → ((b : Bool) → (location p2).has_taken ≡ Some b → (b ≡ false) × ((u : ℕ) × (member u picks ≡ true)))
        → ((u : ℕ) → member u picks ≡ true → (location p2).has_taken ≡ Some false)
        → ActsNeeded r (acts t (Case (TakePicked start) ∷ [])) (lock_by w l r)
        → role_on p2 l ≡ (after_acts r (acts t (Case (TakePicked start) ∷ [])) (lock_by w l r)).role t
        → Goes w (put (state_after_take w t (2 * l) (whom.Picked start (is_recursive r.sort))) t
        p2) l
        (acts t (Case (TakePicked start) ∷ []))
    picked_goes sleeps some full needed own_is = take_goes w t l inductive own there p2 of fits many Main
        picks
        rest
        (record {
          counts = λ u. picked_counts u (2 * l) (lock_picker start (is_recursive r.sort)) (queue_at w (2 * l))
              under;
          sleeps = sleeps;
          lefts = waiting_left (locations_of (place_at w)) l Main (lock_picker start (is_recursive r.sort))
              (queue_at w (2 * l)) (inductive.stands.waits l Main);
          wants = wants_held w t l Main picks (waiting_picked (locations_of (place_at w)) l Main
              (lock_picker start (is_recursive r.sort)) (queue_at w (2 * l)) (inductive.stands.waits l Main))
              sleeps;
        }) out free bare r rules none none2 v refl refl refl threads places
        (get_or-set_same w.queues (2 * l) rest [] some_line) (λ key ne. get_or-set_other w.queues (2 * l) key
        rest [] ne) inside stands unheld some full
        (Case (TakePicked start)) (tt, tt) ((λ h. h), tt) needed
        (λ i. record (lock_by w l r).lock {
          queue = left_tied r.sort start (2 * l) (queue_at w (2 * l)) under
              i;
          taken = locks.taking t (picks_tied r.sort start (2 * l) (queue_at w (2 * l)) under i)
              (λ u. taken_at (place_at w u) l);
        })
        refl refl (noted r (lock_by w l r) (site_by w t l inductive own there r rules p2 of fits)) own_is
      where
        v : State
        v = put (state_after_take w t (2 * l) (whom.Picked start (is_recursive r.sort))) t p2

        threads : length v.places ≡ length w.places
        threads = length-set (places_told (TakenBy t) (threads_of picks) w.places) t p2
            ∙ told_count (TakenBy t) (threads_of picks) w.places

        places : place_at v ≡ putting (told_by (TakenBy t) picks (place_at w)) t p2
        places = put_places (state_after_take w t (2 * l)
            (whom.Picked start (is_recursive r.sort))) t p2
            (past (length (places_told (TakenBy t) (threads_of picks) w.places))
            (told_count (TakenBy t) (threads_of picks) w.places))
            ∙ ap (λ (f : ℕ → Place). putting f t p2) (told_places (TakenBy t) picks w.places)

  -- all of the main queue
  module _ (some_line : 2 * l < length w.queues) where
    pub all_goes : ((u : ℕ) → member u (queue_at w (2 * l)) ≡ true → IsTakenFrom w t l Main (place_at w u))
        → ((b : Bool) → (location p2).has_taken ≡ Some b → (b ≡ false)
        × ((u : ℕ) × (member u (queue_at w (2 * l)) ≡ true)))
        → ((u : ℕ) → member u (queue_at w (2 * l)) ≡ true → (location p2).has_taken ≡ Some false)
        → ActsNeeded r (acts t (Case (OfOnce TakeAll) ∷ [])) (lock_by w l r)
        → role_on p2 l ≡ (after_acts r (acts t (Case (OfOnce TakeAll) ∷ [])) (lock_by w l r)).role t
        → Goes w (put (state_after_take w t (2 * l) whom.All) t p2) l
        (acts t (Case (OfOnce TakeAll) ∷ []))
    all_goes sleeps some full needed own_is = take_goes w t l inductive own there p2 of fits many Main
        (queue_at w (2 * l)) []
        (record {
          counts = λ u. omega arith;
          sleeps = sleeps;
          lefts = tt;
          wants = wants_held w t l Main (queue_at w (2 * l)) (inductive.stands.waits l Main) sleeps;
        }) out free bare r rules none none2 v refl refl refl threads places
        (get_or-set_same w.queues (2 * l) [] [] some_line) (λ key ne. get_or-set_other w.queues (2 * l) key []
        [] ne) inside stands unheld some full
        (Case (OfOnce TakeAll)) (tt, tt) ((λ h. h), tt) needed
        refl refl refl (noted r (lock_by w l r) (site_by w t l inductive own there r rules p2 of fits)) own_is
      where
        v : State
        v = put (state_after_take w t (2 * l) whom.All) t p2

        threads : length v.places ≡ length w.places
        threads = length-set (places_told (TakenBy t) (threads_of (queue_at w (2 * l))) w.places) t p2
            ∙ told_count (TakenBy t) (threads_of (queue_at w (2 * l))) w.places

        places : place_at v ≡ putting (told_by (TakenBy t) (queue_at w (2 * l)) (place_at w)) t p2
        places = put_places (state_after_take w t (2 * l) whom.All) t p2
            (past (length (places_told (TakenBy t) (threads_of (queue_at w (2 * l))) w.places))
            (told_count (TakenBy t) (threads_of (queue_at w (2 * l))) w.places))
            ∙ ap (λ (f : ℕ → Place). putting f t p2) (told_places (TakenBy t) (queue_at w (2 * l)) w.places)

  -- the writer aside
  module _ (x : Waiter) (first : queue_at w (2 * l + 1) ≡ x ∷ []) (writes : x.want ≡ Exclusive)
      (some_line : 2 * l + 1 < length w.queues) where
    pub aside_goes : IsTakenFrom w t l Second (place_at w x.thread) → (location p2).has_taken ≡ Some false
        → ActsNeeded r (acts t (Case (TakeAside x.thread) ∷ [])) (lock_by w l r)
        → role_on p2 l ≡ (after_acts r (acts t (Case (TakeAside x.thread) ∷ [])) (lock_by w l r)).role t
        → Goes w
        (put (state_after_reply (record w { queues = queues_without_first w.queues (2 * l + 1) }) x.thread
        (TakenBy t)) t p2) l
        (acts t (Case (TakeAside x.thread) ∷ []))
    aside_goes sleeps has_taken needed own_is = take_goes w t l inductive own there p2 of fits many Second
        (x ∷ [])
        []
        (record {
          counts = λ u. let a : times u (queue_at w (2 * l + 1)) ≡ times u (x ∷ []) = ap (times u) first
              in omega arith;
          sleeps = λ u h. one_sleeps u (x.thread == u) refl h;
          lefts = tt;
          wants = wants_held w t l Second (x ∷ []) (subst (AreWaiting (locations_of (place_at w)) l Second)
              first (inductive.stands.waits l Second)) (λ u h. one_sleeps u (x.thread == u) refl h);
        }) out free bare r rules none none2 v refl refl refl threads places
        (get_or-set_same w.queues (2 * l + 1) (drop 1 (queue_at w (2 * l + 1))) [] some_line
        ∙ ap (drop 1) first) (λ key ne. get_or-set_other w.queues (2 * l + 1) key
        (drop 1 (queue_at w (2 * l + 1))) [] ne) inside stands unheld
        (λ b e. let f : Some false ≡ Some b = sym has_taken ∙ e in let g : false ≡ b = cc
        in (sym g, (x.thread, same_one))) (λ u h. has_taken)
        (Case (TakeAside x.thread)) (tt, tt) ((λ h. h), tt) needed
        (λ i. record (lock_by w l r).lock {
          aside = None;
          taken = putting (λ u. taken_at (place_at w u) l)
              x.thread (Some (record { by = t; want = writes i }));
        })
        refl refl (noted r (lock_by w l r) (site_by w t l inductive own there r rules p2 of fits)) own_is
      where
        v : State
        v = put (state_after_reply (record w { queues = queues_without_first w.queues (2 * l + 1) }) x.thread
            (TakenBy t)) t p2

        same_one : member x.thread (x ∷ []) ≡ true
        same_one = rw (same x.thread) refl

        one_sleeps : (u : ℕ) (b : Bool) → (x.thread == u) ≡ b → member u (x ∷ []) ≡ true
            → IsTakenFrom w t l Second (place_at w u)
        one_sleeps u b e h = subst (λ j. IsTakenFrom w t l Second (place_at w j)) (only_member x u h) sleeps

        threads : length v.places ≡ length w.places
        threads = length-set (places_told (TakenBy t) (threads_of (x ∷ [])) w.places) t p2
            ∙ told_count (TakenBy t) (threads_of (x ∷ [])) w.places

        places : place_at v ≡ putting (told_by (TakenBy t) (x ∷ []) (place_at w)) t p2
        places = put_places (state_after_reply
            (record w { queues = queues_without_first w.queues (2 * l + 1) }) x.thread (TakenBy t)) t p2
            (past (length (places_told (TakenBy t) (threads_of (x ∷ [])) w.places))
            (told_count (TakenBy t) (threads_of (x ∷ [])) w.places))
            ∙ ap (λ (f : ℕ → Place). putting f t p2) (told_places (TakenBy t) (x ∷ []) w.places)
