-- A notification moves waiters of its condition variable to the mutex, or takes the first of them: both locks
-- are sites again.
use Rattle.lot_laws.proofs.Imports
use Imports.{ℕ, Bool, true, false, Some, None, if◌then◌else◌, ◌==◌, ◌≡◌, ◌≢◌, ◌+◌, ◌*◌, ◌≤◌, ◌<◌, List, [], ◌∷◌}
use Imports.{◌++◌, length, map, drop, take, get_or, set, not, refl, sym, ◌∙◌, ap, subst, arith, inl, inr}
use Imports.{length-set, get_or-set_same, get_or-set_other, nat_tests, Requeue, Waiter, Exclusive, first_of}
use Imports.{threads_of, times, moved_by, taken_by, Next, At, Reply, MovedTo, TakenBy, Took, inside_of, in_hand}
use Imports.{taken_from, Location, Place, Condvar, Idle, condvar_goes, next_place, NotifyAt, CondvarPlace}
use Imports.{Notify, MovesWaiters, row_at_mutex, there, FollowsAtMutex, MayGetReplyAtMutex, beside_deeds, role_next}
use Imports.{condvar_next, in_notify, move_act, next_notify, notifiers_follow, IsCondvar, WaitsAside}
use Imports.{wanting_mutex, line_of, moved_of, taken_of, putting, Rights, queued_of, Bring, Deed, Role}
use Imports.{bringing, Main, Send, has_readers, idle, State, left_in_line, listed, moved_threads, moved_under}
use Imports.{place_at, places_told, put, queue_at, state_after_requeue, queues_without_first}
use Imports.{state_after_taking, reply_to, state_after_act, acts, taken_at, call_state, role_on, location_at}
use Imports.{ActsNeeded, AreWaiting, FitsItsLock, GoesAll, IsInductive, condvar_of, key_of, rules_in, site_of}
use Imports.{locations_of, stood_in, told_count, notifies_move, nat_le, WasMoved, if_moved}
use Rattle.core_base.specs.declared.requeues.Requeue.TheVariants as requeue
use Rattle.steps_base.specs.declared.acts.Next.TheVariants.{End as Over}
use Rattle.steps_condvar.specs.declared.notify.NotifyAt.TheVariants as notify
use Rattle.spec_locks.specs.Deeds as laws
use Rattle.spec_locks.specs.Locks as locks
use Rattle.lot_laws.proofs.machine.Parts.{put_here, same, put_places, put_other}
use Rattle.lot_laws.proofs.sites.LawsKept.{needed_same}
use Rattle.lot_laws.proofs.sites.StandsKept.{Alike, other_key}
use Rattle.lot_laws.proofs.sites.TwoLocks.{two_at}
use Rattle.lot_laws.proofs.condvar.TwoParts.{Beside, role_beside, role_of_row, role_there, nothing_else}
use Rattle.lot_laws.proofs.condvar.TwoParts.{location_beside, location_there, taken_beside, taken_there}
use Rattle.lot_laws.proofs.condvar.Replies as hears
use Rattle.lot_laws.proofs.condvar.MovedWaiters.{waits_across, knows_moved, knows_taken}
use Rattle.lot_laws.proofs.condvar.MovingKept.{moves_kept}
use Rattle.lot_laws.proofs.condvar.Moving.{WaitsAcross, places_across, goes}
use Rattle.lot_laws.proofs.sites.TakesAt.{member, at_most_one, member_times, told_once, told_places}
use Rattle.lot_laws.proofs.sites.TakesAt.{stranger_times, only_member}
use Rattle.lot_laws.proofs.condvar.Replies.{notifier_hears}
use Rattle.lot_laws.proofs.sites.OneStep.{queued_times}

-- ---------------------------------------------------------------- the lists

-- a thread that a requeue takes
abbrev gone_by : Requeue → List Waiter → List Waiter
gone_by requeue.TakeOneMoveRest q = take 1 q
gone_by how q = []

gone_threads : (how : Requeue) (q : List Waiter) → listed (taken_by how q) ≡ threads_of (gone_by how q)
gone_threads requeue.One q = refl
gone_threads requeue.All q = refl
gone_threads requeue.TakeOneMoveRest [] = refl
gone_threads requeue.TakeOneMoveRest (x ∷ q) = refl

threads_moved : (how : Requeue) (q : List Waiter) → moved_threads how (threads_of q) ≡ threads_of
    (moved_by how q)
threads_moved requeue.All q = refl
threads_moved requeue.One [] = refl
threads_moved requeue.One (x ∷ q) = refl
threads_moved requeue.TakeOneMoveRest [] = refl
threads_moved requeue.TakeOneMoveRest (x ∷ q) = refl

-- each is taken, moved, or left
all_counted : (how : Requeue) (q : List Waiter) (u : ℕ)
    → times u (gone_by how q) + times u (moved_by how q) + times u (left_in_line how q) ≡ times u q
all_counted requeue.All q u = omega arith
all_counted requeue.One [] u = refl
all_counted requeue.One (x ∷ q) u = one_more (x.thread == u) (times u q)
  where
    one_more : (b : Bool) (n : ℕ) → 0 + ((if b then 1 else 0) + 0) + n ≡ (if b then 1 else 0) + n
    one_more true n = omega arith
    one_more false n = omega arith
all_counted requeue.TakeOneMoveRest [] u = refl
all_counted requeue.TakeOneMoveRest (x ∷ q) u = one_more (x.thread == u) (times u q)
  where
    one_more : (b : Bool) (n : ℕ) → ((if b then 1 else 0) + 0) + n + 0 ≡ (if b then 1 else 0) + n
    one_more true n = omega arith
    one_more false n = omega arith

left_waits : (at : ℕ → ℕ → Location) (l : ℕ) (how : Requeue) (q : List Waiter) → AreWaiting at l Main q
    → AreWaiting at l Main (left_in_line how q)
left_waits at l requeue.All q h = tt
left_waits at l requeue.TakeOneMoveRest q h = tt
left_waits at l requeue.One [] h = tt
left_waits at l requeue.One (x ∷ q) h = h.1

one_taken : (how : Requeue) (q : List Waiter) (u v : ℕ) → member u (gone_by how q) ≡ true
    → member v (gone_by how q) ≡ true
    → u ≡ v
one_taken requeue.One q u v h g = absurd cc
one_taken requeue.All q u v h g = absurd cc
one_taken requeue.TakeOneMoveRest [] u v h g = absurd cc
one_taken requeue.TakeOneMoveRest (x ∷ q) u v h g = sym (only_member x u h) ∙ only_member x v g

-- as the abstract locks have them
under_lined : (key : ℕ) (q : List Waiter) → map queued_of (moved_under key q) ≡ map wanting_mutex
    (map queued_of q)
under_lined key [] = refl
under_lined key (x ∷ q) = ap (λ (ys : List locks.Queued). record {
  thread = x.thread;
  want = Exclusive;
} ∷ ys) (under_lined key q)

first_lined : (key : ℕ) (q : List Waiter) → map queued_of (moved_under key (take 1 q)) ≡ map wanting_mutex
    (take 1 (map queued_of q))
first_lined key [] = refl
first_lined key (x ∷ q) = refl

rest_lined : (key : ℕ) (q : List Waiter) → map queued_of (moved_under key (drop 1 q)) ≡ drop 1
    (map wanting_mutex (map queued_of q))
rest_lined key [] = refl
rest_lined key (x ∷ q) = under_lined key q

taken_lined : (key : ℕ) (q : List Waiter) → map queued_of (moved_under key (take 1 q)) ≡ take 1
    (map wanting_mutex (map queued_of q))
taken_lined key [] = refl
taken_lined key (x ∷ q) = refl

dropped_lined : (q : List Waiter) → map queued_of (drop 1 q) ≡ drop 1 (map queued_of q)
dropped_lined [] = refl
dropped_lined (x ∷ q) = refl

some_first : (q : List Waiter) → map queued_of q ≢ [] → (u : ℕ) × (member u (take 1 q) ≡ true)
some_first [] h = absurd (h refl)
some_first (x ∷ q) h = (x.thread, rw (same x.thread) refl)

is_some : (n : ℕ) → 1 ≤ n → nat_le 1 n ≡ true
is_some n h = grind (arith, nat_tests)

-- ---------------------------------------------------------------- a notification at its move

module _ (w : State) (t l m : ℕ) (all locked : Bool) (inductive : IsInductive w) (is_there : t
    < length w.places)
    (apart : m ≢ l)
    (sort_l : (rules_in w l).sort ≡ locks.Condvar) (sort_m : (rules_in w m).sort ≡ locks.Mutex)
    (kept : IsCondvar (condvar_of w l))
    (is : place_at w t ≡ Condvar l (Notify all m (notify.Move locked))) where
  abbrev this : CondvarPlace
  this = Notify all m (notify.Move locked)

  abbrev line : List Waiter
  line = queue_at w (key_of l Main)

  module _ (told : Reply) (x : MovesWaiters (map queued_of line) this all locked told)
      (beside : Beside m (condvar_next this told))
      (hears_it : MayGetReplyAtMutex (rules_in w m) (site_of w m) (condvar_of w l) t m all (notify.Move locked)
      told)
      (fits : FitsItsLock w (condvar_goes l (condvar_next this told))) where
    abbrev p2 : Place
    p2 = condvar_goes l (condvar_next this told)

    location_l : location_at (place_at w t) l ≡ there this
    location_l = ap (λ q. location_at q l) is ∙ location_there l m apart (At this) refl

    location_m : location_at (place_at w t) m ≡ inside_of Main
    location_m = ap (λ q. location_at q m) is ∙ location_beside l m apart (At this) refl ∙ x.inside.1

    now_l : location_at p2 l ≡ location_at (place_at w t) l
    now_l = location_there l m apart (condvar_next this told) beside ∙ x.stays ∙ sym location_l

    now_m : location_at p2 m ≡ record (location_at (place_at w t) m) { has_taken = in_hand (not locked) false }
    now_m = location_beside l m apart (condvar_next this told) beside ∙ x.has_taken
        ∙ sym (ap (λ (y : Location). record y { has_taken = in_hand (not locked) false }) location_m)

    alike_t : (k : ℕ) → k ≢ l → k ≢ m → Alike k (place_at w t) p2
    alike_t k nl nm = subst (λ q. Alike k q p2) (sym is)
        (nothing_else l m apart (At this) (condvar_next this told) refl beside k nl nm)

    -- at the condition variable it does what it did
    same_l : (role_on p2 l ≡ role_on (place_at w t) l) × (taken_at p2 l ≡ taken_at (place_at w t) l)
    same_l = (
      role_there l m apart (condvar_next this told) beside ∙ role_of_row (condvar_next this told)
          ∙ ap (λ (y : Location). record idle { inside = y.inside }) x.stays ∙ sym (role_of_row (At this))
          ∙ sym (ap (λ q. role_on q l) is ∙ role_there l m apart (At this) refl),
      taken_there l m apart (condvar_next this told) beside ∙ sym (ap (λ q. taken_at q l) is
          ∙ taken_there l m apart (At this) refl),
    )

    -- A waiter that is moved is in nobody's hand.
    same_m : taken_at p2 m ≡ taken_at (place_at w t) m
    same_m = taken_beside l m apart (condvar_next this told) beside
        ∙ ap (λ h. taken_from h (row_at_mutex (condvar_next this told)).wants true)
        (ap (λ (y : Location). y.hand) x.has_taken) ∙ sym (ap (λ q. taken_at q m) is
        ∙ taken_beside l m apart (At this) refl)

    needed_l : ActsNeeded (rules_in w l) (acts t (Send all ∷ [])) (site_of w l)
    needed_l = (
      (
        sort_l,
        ap (λ q. (role_on q l).inside) is
            ∙ ap (λ (d : Role). d.inside) (role_there l m apart (At this) refl)
            ∙ ap (λ (y : Location). y.inside) x.inside.0,
      ),
      tt,
    )

    follows : FollowsAtMutex (rules_in w m) (site_of w m) (condvar_of w l) t m all (notify.Move locked) told
    follows = notifiers_follow (rules_in w m) (site_of w m) (condvar_of w l) t m all (notify.Move locked) told
        sort_m (hears.role_beside w t l this inductive is m refl) hears_it

    needed_m : ActsNeeded (rules_in w m)
        (acts t (Bring (taken_of locked (moved_of all (map queued_of line)))
        (line_of locked (moved_of all (map queued_of line))) ∷ []))
        (site_of w m)
    needed_m = subst (λ ds. ActsNeeded (rules_in w m) (acts t ds) (site_of w m)) x.deeds_at_mutex
        (needed_same (rules_in w m) (beside_deeds all (map queued_of line) (notify.Move locked) told)
        (site_of w m) t follows.needed)

    -- tells what it does about the mutex then
    does_m : role_on p2 m
        ≡ bringing (taken_of locked (moved_of all (map queued_of line)))
        (line_of locked (moved_of all (map queued_of line)))
        (role_on (place_at w t) m)
    does_m = role_beside l m apart (condvar_next this told) beside
        ∙ by_next (next_notify all m (notify.Move locked) told) ∙ sym follows.role
        ∙ ap (λ ds. (laws.after_all (rules_in w m) ds (site_of w m) t).role t) x.deeds_at_mutex
        ∙ put_here (λ u. role_on (place_at w u) m) t _
      where
        by_next : (n : Next NotifyAt) → (row_at_mutex (in_notify all m n)).role ≡ role_next all m n
        by_next (At at) = refl
        by_next (Over answer) = refl

    -- by the threads that it takes, that it moves, and that are left
    module _ (gone moved left : List Waiter) (counts : (u : ℕ) → times u gone + times u moved + times u left
        ≡ times u line)
        (lefts : AreWaiting (locations_of (place_at w)) l Main left)
        (one_gone : (u v : ℕ) → member u gone ≡ true → member v gone ≡ true → u ≡ v)
        (none_gone : locked ≡ true → gone ≡ []) (some_gone : locked ≡ false → (u : ℕ)
        × (member u gone ≡ true))
        (left_is : map queued_of left ≡ (if all then [] else drop 1 (map queued_of line)))
        (gone_is : map queued_of (moved_under (key_of m Main) gone) ≡ taken_of locked
        (moved_of all (map queued_of line))) (moved_is : map queued_of (moved_under (key_of m Main) moved)
        ≡ line_of locked (moved_of all (map queued_of line))) where
      across : (u : ℕ) → 1 ≤ times u line → WaitsAcross w t l m (place_at w u)
      across = waits_across w t l m inductive apart sort_l all locked is kept

      out : (location_at (place_at w t) l).stands ≡ None
      out = ap (λ (y : Location). y.stands) (location_l ∙ x.inside.0)

      bare : (location_at (place_at w t) m).has_taken ≡ None
      bare = ap (λ (y : Location). y.has_taken) location_m

      abbrev afterwards : ℕ → Place
      afterwards = places_across w t l m apart inductive p2 gone moved left counts lefts across one_gone out
          bare
          now_l (in_hand (not locked) false) now_m alike_t fits

      -- the others' calls say so: a thread that is taken or moved knows it
      knows : ((u : ℕ) → locks.times u (moved_of all (map queued_of line)) ≡ times u gone + times u moved)
          → (u : ℕ) → u ≢ t
          → (r : ℕ → Rights)
          → call_state (afterwards u) r ≡ if_moved u (moved_of all (map queued_of line))
          (call_state (place_at w u) r)
      knows counted u ne r = ap (λ q. call_state q r) (put_other goes_across t p2 u ne)
          ∙ either (member u gone) (member u moved) refl refl
        where
          goes_across : ℕ → Place
          goes_across = goes w t l m apart inductive p2 gone moved left counts lefts across one_gone out bare
              now_l (in_hand (not locked) false) now_m alike_t fits

          known : 1 ≤ times u gone + times u moved → if_moved u (moved_of all (map queued_of line))
              (call_state (place_at w u) r) ≡ record (call_state (place_at w u) r) { recalls = WasMoved }
          known some = ap (λ b. if b then record (call_state (place_at w u) r) { recalls = WasMoved }
              else call_state (place_at w u) r) (is_some (locks.times u (moved_of all (map queued_of line)))
              (let a = counted u in omega arith))

          unknown : times u gone + times u moved ≡ 0
              → if_moved u (moved_of all (map queued_of line)) (call_state (place_at w u) r)
              ≡ call_state (place_at w u) r
          unknown none = ap (λ n. if nat_le 1 n then record (call_state (place_at w u) r) {
            recalls =
                WasMoved;
          } else call_state (place_at w u) r) (counted u ∙ none)

          either : (a b : Bool) → member u gone ≡ a → member u moved ≡ b
              → call_state
              (if a then next_place (place_at w u) (TakenBy t) else if b then next_place (place_at w u)
              (MovedTo (key_of m Main)) else place_at w u) r
              ≡ if_moved u (moved_of all (map queued_of line)) (call_state (place_at w u) r)
          either true b e f = let n : 1 ≤ times u gone = member_times u gone e
              in knows_taken w t l m inductive apart sort_l all locked is kept u (let a = counts u
              in omega arith) r ∙ sym (known (omega arith))
          either false true e f = let n : 1 ≤ times u moved = member_times u moved f
              in knows_moved w t l m inductive apart sort_l all locked is kept u (let a = counts u
              in omega arith) r ∙ sym (known (omega arith))
          either false false e f = sym (unknown (let a = stranger_times u gone e in let b =
              stranger_times u moved f in omega arith))

      carries_some : (b : Bool) → in_hand (not locked) false ≡ Some b → (b ≡ false)
          × ((u : ℕ) × (member u gone ≡ true))
      carries_some b e = by_locked locked refl e
        where
          by_locked : (c : Bool) → locked ≡ c → in_hand (not c) false ≡ Some b → (b ≡ false)
              × ((u : ℕ) × (member u gone ≡ true))
          by_locked true f e = absurd cc
          by_locked false f e = (let g : false ≡ b = cc in sym g, some_gone f)

      carries_all : (u : ℕ) → member u gone ≡ true → in_hand (not locked) false ≡ Some false
      carries_all u h = by_locked locked refl
        where
          by_locked : (c : Bool) → locked ≡ c → in_hand (not c) false ≡ Some false
          by_locked true f = absurd (let none : member u gone ≡ false = ap (member u) (none_gone f) in cc)
          by_locked false f = refl

      module _ (v : State) (el : v.locks ≡ w.locks) (eh : v.shares ≡ w.shares) (es : v.sections ≡ w.sections)
          (threads : length v.places ≡ length w.places) (places : place_at v ≡ afterwards)
          (here : queue_at v (key_of l Main) ≡ left) (there_now : queue_at v (key_of m Main)
          ≡ queue_at w (key_of m Main) ++ moved_under (key_of m Main) moved) (others : (key : ℕ)
          → key ≢ key_of l Main → key ≢ key_of m Main → queue_at v key ≡ queue_at w key) where
        moves_so : GoesAll w v
            (two_at l m (acts t (Send all ∷ []))
            (acts t (Bring (taken_of locked (moved_of all (map queued_of line)))
            (line_of locked (moved_of all (map queued_of line))) ∷ [])))
        moves_so = moves_kept w v t l m apart inductive p2 gone moved left counts lefts across one_gone out
            bare
            now_l (in_hand (not locked) false) now_m alike_t fits
            el eh es threads places here there_now others same_l same_m all locked left_is gone_is moved_is
            does_m is_there (ap has_readers sort_l) (ap has_readers sort_m) needed_l needed_m carries_some
            carries_all

    -- ---------------------------------------------------------------- by a requeue

    module _ (how : Requeue) (line_l : key_of l Main < length w.queues) (line_m : key_of m Main
        < length w.queues)
        (none_gone : locked ≡ true → gone_by how line ≡ [])
        (some_gone : locked ≡ false → (u : ℕ) × (member u (gone_by how line) ≡ true))
        (left_is : map queued_of (left_in_line how line) ≡ (if all then [] else drop 1 (map queued_of line)))
        (gone_is : map queued_of (moved_under (key_of m Main) (gone_by how line)) ≡ taken_of locked
        (moved_of all (map queued_of line))) (moved_is : map queued_of
        (moved_under (key_of m Main) (moved_by how line)) ≡ line_of locked
        (moved_of all (map queued_of line))) where
      abbrev gone : List Waiter
      gone = gone_by how line

      abbrev moved : List Waiter
      moved = moved_by how line

      abbrev requeued : State
      requeued = state_after_requeue w t (2 * l) (2 * m) how

      keys : key_of m Main ≢ key_of l Main
      keys = other_key l m Main Main apart

      at_most : (u : ℕ) → times u gone + times u moved ≤ 1
      at_most u = let a : times u gone + times u moved + times u (left_in_line how line) ≡ times u line =
          all_counted how line u in let b : times u line ≡ stood_in (location_at (place_at w u) l).stands
          Main = inductive.stands.lines u l Main in
          let c : stood_in (location_at (place_at w u) l).stands Main ≤ 1 =
          at_most_one (location_at (place_at w u) l).stands Main in omega arith

      -- first the threads that it takes are told
      abbrev taken_places : List Place
      taken_places = places_told (TakenBy t) (threads_of gone) w.places

      taken_then : (u : ℕ)
          → get_or taken_places u Idle ≡ (if member u gone then next_place (place_at w u) (TakenBy t)
          else place_at w u)
      taken_then u = ap (λ (f : ℕ → Place). f u) (told_places (TakenBy t) gone w.places)
          ∙ told_once (TakenBy t) gone (place_at w) u (let a = at_most u in omega arith)

      -- where each goes
      abbrev goes_then : ℕ → Place
      goes_then u = if member u gone then next_place (place_at w u) (TakenBy t) else if member u moved
          then next_place (place_at w u) (MovedTo (key_of m Main)) else place_at w u

      place_then : (u : ℕ) → place_at requeued u ≡ goes_then u
      place_then u = ap (λ us. get_or (places_told (MovedTo (2 * m)) us (places_told (TakenBy t)
          (listed (taken_by how line)) w.places)) u Idle) (threads_moved how line)
          ∙ ap (λ us. get_or (places_told (MovedTo (2 * m)) (threads_of moved)
          (places_told (TakenBy t) us w.places)) u Idle) (gone_threads how line)
          ∙ ap (λ (f : ℕ → Place). f u) (told_places (MovedTo (2 * m)) moved taken_places)
          ∙ told_once (MovedTo (2 * m)) moved (λ u. get_or taken_places u Idle) u (let a = at_most u
          in omega arith)
          ∙ ap (λ p. if member u moved then next_place p (MovedTo (2 * m)) else p) (taken_then u)
          ∙ either (member u gone) (member u moved) refl refl
        where
          either : (a b : Bool) → member u gone ≡ a → member u moved ≡ b
              → (if b then next_place (if a then next_place (place_at w u) (TakenBy t) else place_at w u)
              (MovedTo (2 * m)) else if a then next_place (place_at w u) (TakenBy t) else place_at w u)
              ≡ (if a then next_place (place_at w u) (TakenBy t) else if b then next_place (place_at w u)
              (MovedTo (key_of m Main)) else place_at w u)
          either true true e f = absurd (let a = at_most u in let b = member_times u gone e in let c =
              member_times u moved f in omega arith)
          either true false e f = refl
          either false true e f = refl
          either false false e f = refl

      abbrev v : State
      v = put requeued t p2

      told_length : length requeued.places ≡ length w.places
      told_length = told_count (MovedTo (2 * m)) (moved_threads how (threads_of line))
          (places_told (TakenBy t) (listed (taken_by how line)) w.places) ∙ told_count (TakenBy t)
          (listed (taken_by how line)) w.places

      places_now : place_at v ≡ putting goes_then t p2
      places_now = put_places requeued t p2 (λ h. absurd (let n = told_length in omega arith))
          ∙ ap (λ (f : ℕ → Place). putting f t p2) (λ i u. place_then u i)

      -- the others' calls say so
      pub requeued_calls : ((u : ℕ) → locks.times u (moved_of all (map queued_of line)) ≡ times u gone
          + times u moved) → (u : ℕ)
          → u ≢ t → (r : ℕ → Rights)
          → call_state (place_at v u) r ≡ if_moved u (moved_of all (map queued_of line))
          (call_state (place_at w u) r)
      requeued_calls counted u ne r = ap (λ (f : ℕ → Place). call_state (f u) r) places_now
          ∙ knows gone moved (left_in_line how line) (all_counted how line)
          (left_waits (locations_of (place_at w)) l how line (inductive.stands.waits l Main))
          (one_taken how line) none_gone some_gone left_is gone_is moved_is counted u ne r

      abbrev others_left : List (List Waiter)
      others_left = set w.queues (2 * l) (left_in_line how line)

      pub requeues : GoesAll w v
          (two_at l m (acts t (Send all ∷ []))
          (acts t (Bring (taken_of locked (moved_of all (map queued_of line)))
          (line_of locked (moved_of all (map queued_of line))) ∷ [])))
      requeues = moves_so gone moved (left_in_line how line) (all_counted how line)
          (left_waits (locations_of (place_at w)) l how line (inductive.stands.waits l Main))
          (one_taken how line) none_gone some_gone left_is gone_is moved_is v refl refl refl
          (length-set requeued.places t p2 ∙ told_length)
          places_now
          (get_or-set_other others_left (2 * m) (2 * l) _ [] (λ e. keys (sym e))
          ∙ get_or-set_same w.queues (2 * l) (left_in_line how line) [] line_l)
          (get_or-set_same others_left (2 * m) _ [] (rw (length-set w.queues (2 * l) (left_in_line how line))
          line_m) ∙ ap (λ q. q ++ moved_under (key_of m Main) moved) (get_or-set_other w.queues (2 * l)
          (2 * m) (left_in_line how line) [] keys))
          (λ key nl nm. get_or-set_other others_left (2 * m) key _ [] nm ∙ get_or-set_other w.queues (2 * l)
          key (left_in_line how line) [] nl)

    -- ---------------------------------------------------------------- by a take of the first

    module _ (line_l : key_of l Main < length w.queues) (free : locked ≡ false) (some : (u : ℕ)
        × (member u (take 1 line) ≡ true))
        (left_is : map queued_of (drop 1 line) ≡ (if all then [] else drop 1 (map queued_of line)))
        (gone_is : map queued_of (moved_under (key_of m Main) (take 1 line)) ≡ taken_of locked
        (moved_of all (map queued_of line)))
        (moved_is : [] ≡ line_of locked (moved_of all (map queued_of line))) where
      abbrev without : State
      without = record w { queues = queues_without_first w.queues (2 * l) }

      abbrev after : List Waiter → State
      after q = state_after_taking without t (first_of q)

      after_locks : (q : List Waiter) → (after q).locks ≡ w.locks
      after_locks [] = refl
      after_locks (x ∷ q) = refl

      after_shares : (q : List Waiter) → (after q).shares ≡ w.shares
      after_shares [] = refl
      after_shares (x ∷ q) = refl

      after_sections : (q : List Waiter) → (after q).sections ≡ w.sections
      after_sections [] = refl
      after_sections (x ∷ q) = refl

      after_queues : (q : List Waiter) → (after q).queues ≡ queues_without_first w.queues (2 * l)
      after_queues [] = refl
      after_queues (x ∷ q) = refl

      after_threads : (q : List Waiter) → length (after q).places ≡ length w.places
      after_threads [] = refl
      after_threads (x ∷ q) = length-set w.places x.thread _

      after_place : (q : List Waiter) (u : ℕ)
          → place_at (after q) u ≡ (if member u (take 1 q) then next_place (place_at w u) (TakenBy t)
          else place_at w u)
      after_place [] u = refl
      after_place (x ∷ q) u = ap (λ (f : ℕ → Place). f u) (told_places (TakenBy t) (x ∷ []) w.places)
          ∙ told_once (TakenBy t) (x ∷ []) (place_at w) u (once (x.thread == u))
        where
          once : (b : Bool) → (if b then 1 else 0) + 0 ≤ 1
          once true = omega arith
          once false = omega arith

      counted : (q : List Waiter) (u : ℕ) → times u (take 1 q) + 0 + times u (drop 1 q) ≡ times u q
      counted q u = let a = all_counted requeue.TakeOneMoveRest q u in omega arith

      left_lined : (q : List Waiter) → AreWaiting (locations_of (place_at w)) l Main q
          → AreWaiting (locations_of (place_at w)) l Main (drop 1 q)
      left_lined [] h = tt
      left_lined (x ∷ q) h = h.1

      none_more : (q : List Waiter) → q ≡ q ++ []
      none_more [] = refl
      none_more (x ∷ q) = ap (λ ys. x ∷ ys) (none_more q)

      abbrev taken_state : State
      taken_state = put (after line) t p2

      first_places : place_at taken_state
          ≡ putting (λ u. if member u (take 1 line) then next_place (place_at w u) (TakenBy t)
          else place_at w u) t p2
      first_places = put_places (after line) t p2 (λ h. absurd (let n = after_threads line in omega arith))
          ∙ ap (λ (f : ℕ → Place). putting f t p2) (λ i u. after_place line u i)

      no_locked : locked ≡ true → take 1 line ≡ []
      no_locked e = absurd (let f : true ≡ false = sym e ∙ free in cc)

      pub taken_calls : ((u : ℕ) → locks.times u (moved_of all (map queued_of line)) ≡ times u (take 1 line)
          + 0) → (u : ℕ)
          → u ≢ t → (r : ℕ → Rights)
          → call_state (place_at taken_state u) r ≡ if_moved u (moved_of all (map queued_of line))
          (call_state (place_at w u) r)
      taken_calls once u ne r = ap (λ (f : ℕ → Place). call_state (f u) r) first_places
          ∙ knows (take 1 line) [] (drop 1 line) (counted line)
          (left_lined line (inductive.stands.waits l Main))
          (one_taken requeue.TakeOneMoveRest line) no_locked (λ e. some) left_is gone_is moved_is once u
          ne r

      queue_then : (key : ℕ) → queue_at taken_state key ≡ get_or (queues_without_first w.queues (2 * l)) key
          []
      queue_then key = ap (λ qs. get_or qs key []) (after_queues line)

      pub takes_first : GoesAll w taken_state
          (two_at l m (acts t (Send all ∷ []))
          (acts t (Bring (taken_of locked (moved_of all (map queued_of line)))
          (line_of locked (moved_of all (map queued_of line))) ∷ [])))
      takes_first = moves_so (take 1 line) [] (drop 1 line) (counted line)
          (left_lined line (inductive.stands.waits l Main)) (one_taken requeue.TakeOneMoveRest line) no_locked
          (λ e. some) left_is gone_is moved_is taken_state
          (after_locks line) (after_shares line) (after_sections line) (length-set (after line).places t p2
          ∙ after_threads line)
          first_places
          (queue_then (2 * l) ∙ get_or-set_same w.queues (2 * l) (drop 1 line) [] line_l)
          (queue_then (2 * m) ∙ get_or-set_other w.queues (2 * l) (2 * m) (drop 1 line) []
          (other_key l m Main Main apart) ∙ none_more (queue_at w (2 * m)))
          (λ key nl nm. queue_then key ∙ get_or-set_other w.queues (2 * l) key (drop 1 line) [] nl)

-- ---------------------------------------------------------------- whichever it is

module _ (w : State) (t l m : ℕ) (inductive : IsInductive w) (is_there : t < length w.places) (apart : m ≢ l)
    (sort_l : (rules_in w l).sort ≡ locks.Condvar) (sort_m : (rules_in w m).sort ≡ locks.Mutex)
    (kept : IsCondvar (condvar_of w l)) (aside : WaitsAside (condvar_of w l) (site_of w m) m)
    (line_l : key_of l Main < length w.queues) (line_m : key_of m Main < length w.queues) where
  abbrev moves_at : Bool → Bool → CondvarPlace
  moves_at all locked = Notify all m (notify.Move locked)

  abbrev told_of : Bool → Bool → Reply
  told_of all locked = reply_to w t (move_act all locked l m)

  abbrev next_of : Bool → Bool → Place
  next_of all locked = condvar_goes l (condvar_next (moves_at all locked) (told_of all locked))

  abbrev waiting : List Waiter
  waiting = queue_at w (key_of l Main)

  abbrev brings_of : Bool → Bool → List Deed
  brings_of all locked = Bring (taken_of locked (moved_of all (map queued_of waiting)))
      (line_of locked (moved_of all (map queued_of waiting))) ∷ []

  heard_so : place_at w t ≡ Condvar l (moves_at false false)
      → MayGetReplyAtMutex (rules_in w m) (site_of w m) (condvar_of w l) t m false (notify.Move false)
      (told_of false false)
  heard_so is = notifier_hears w t l m false (notify.Move false) inductive kept aside is refl

  takes_so : place_at w t ≡ Condvar l (moves_at false false)
      → MovesWaiters (map queued_of waiting) (moves_at false false) false false (told_of false false)
  takes_so is = elim (notifies_move l m (map queued_of waiting) false (notify.Move false) tt) [
    | inl at_m ↦ absurd (apart (let e : 2 * l ≡ 2 * m = at_m.0 in omega arith))
    | inr at_l ↦ subst (λ b. MovesWaiters (map queued_of waiting) (moves_at false false) false false
        (Took b (length (drop 1 waiting) == 0))) (sym (heard_so is).0) (at_l.1 (length (drop 1 waiting) == 0))
  ]

  first_taken : (q : List Waiter)
      → map queued_of (moved_under (key_of m Main) (take 1 q)) ≡ taken_of false
      (moved_of false (map queued_of q))
  first_taken [] = refl
  first_taken (x ∷ q) = refl

  none_moved : (q : List Waiter) → [] ≡ line_of false (moved_of false (map queued_of q))
  none_moved [] = refl
  none_moved (x ∷ q) = refl

  pub moves : (all locked : Bool) → place_at w t ≡ Condvar l (moves_at all locked)
      → FitsItsLock w (next_of all locked)
      → GoesAll w (put (state_after_act w t (Condvar l (moves_at all locked)) (move_act all locked l m)) t
      (next_of all locked))
      (two_at l m (acts t (Send all ∷ [])) (acts t (brings_of all locked)))
  moves true true is fits = requeues w t l m true true inductive is_there apart sort_l sort_m kept is
      (told_of true true) ((notifies_move l m (map queued_of waiting) true (notify.Move true) tt).2 _ _) refl
      (notifier_hears w t l m true (notify.Move true) inductive kept aside is refl) fits requeue.All line_l
      line_m (λ e. refl) (λ e. absurd cc) refl refl (under_lined (key_of m Main) waiting)
  moves true false is fits = requeues w t l m true false inductive is_there apart sort_l sort_m kept is
      (told_of true false) ((notifies_move l m (map queued_of waiting) true (notify.Move false) tt).2 _ _)
      refl
      heard fits requeue.TakeOneMoveRest line_l line_m (λ e. absurd cc) (λ e. some_first waiting heard.1.some)
      refl (taken_lined (key_of m Main) waiting) (rest_lined (key_of m Main) waiting)
    where
      heard : MayGetReplyAtMutex (rules_in w m) (site_of w m) (condvar_of w l) t m true (notify.Move false)
          (told_of true false)
      heard = notifier_hears w t l m true (notify.Move false) inductive kept aside is refl
  moves false true is fits = requeues w t l m false true inductive is_there apart sort_l sort_m kept is
      (told_of false true) ((notifies_move l m (map queued_of waiting) false (notify.Move true) tt).2 _ _)
      next_beside
      (notifier_hears w t l m false (notify.Move true) inductive kept aside is refl) fits requeue.One line_l
      line_m (λ e. refl) (λ e. absurd cc) (dropped_lined waiting) refl
      (first_lined (key_of m Main) waiting)
    where
      next_beside : Beside m (condvar_next (moves_at false true) (told_of false true))
      next_beside = refl
  moves false false is fits = takes_first w t l m false false inductive is_there apart sort_l sort_m kept is
      (told_of false false) (takes_so is) refl (heard_so is) fits line_l refl
      (some_first waiting (λ e. (heard_so is).1.some (ap (take 1) e))) (dropped_lined waiting)
      (first_taken waiting) (none_moved waiting)

  -- ---------------------------------------------------------------- the calls of the others

  first_counted : (q : List Waiter) (u : ℕ) → locks.times u (take 1 (map queued_of q)) ≡ times u (take 1 q)
  first_counted [] u = refl
  first_counted (x ∷ q) u = refl

  -- each thread that is moved or taken knows it
  pub moves_calls : (all locked : Bool) → place_at w t ≡ Condvar l (moves_at all locked)
      → FitsItsLock w (next_of all locked)
      → (u : ℕ) → u ≢ t → (r : ℕ → Rights)
      → call_state
      (place_at (put (state_after_act w t (Condvar l (moves_at all locked)) (move_act all locked l m)) t
      (next_of all locked)) u) r
      ≡ if_moved u (moved_of all (map queued_of waiting)) (call_state (place_at w u) r)
  moves_calls true true is fits = requeued_calls w t l m true true inductive is_there apart sort_l sort_m kept
      is
      (told_of true true) ((notifies_move l m (map queued_of waiting) true (notify.Move true) tt).2 _ _) refl
      (notifier_hears w t l m true (notify.Move true) inductive kept aside is refl) fits requeue.All line_l
      line_m (λ e. refl) (λ e. absurd cc) refl refl (under_lined (key_of m Main) waiting) (λ u. let a =
      queued_times u waiting in omega arith)
  moves_calls true false is fits = requeued_calls w t l m true false inductive is_there apart sort_l sort_m
      kept
      is (told_of true false) ((notifies_move l m (map queued_of waiting) true (notify.Move false) tt).2 _ _)
      refl
      heard fits requeue.TakeOneMoveRest line_l line_m (λ e. absurd cc) (λ e. some_first waiting heard.1.some)
      refl (taken_lined (key_of m Main) waiting) (rest_lined (key_of m Main) waiting)
      (λ u. let a = queued_times u waiting in let b = all_counted requeue.TakeOneMoveRest waiting u
      in omega arith)
    where
      heard : MayGetReplyAtMutex (rules_in w m) (site_of w m) (condvar_of w l) t m true (notify.Move false)
          (told_of true false)
      heard = notifier_hears w t l m true (notify.Move false) inductive kept aside is refl
  moves_calls false true is fits = requeued_calls w t l m false true inductive is_there apart sort_l sort_m
      kept
      is (told_of false true) ((notifies_move l m (map queued_of waiting) false (notify.Move true) tt).2 _ _)
      refl
      (notifier_hears w t l m false (notify.Move true) inductive kept aside is refl) fits requeue.One line_l
      line_m (λ e. refl) (λ e. absurd cc) (dropped_lined waiting) refl
      (first_lined (key_of m Main) waiting) (λ u. let a = first_counted waiting u in omega arith)
  moves_calls false false is fits = taken_calls w t l m false false inductive is_there apart sort_l sort_m
      kept
      is (told_of false false) (takes_so is) refl (heard_so is) fits line_l refl
      (some_first waiting (λ e. (heard_so is).1.some (ap (take 1) e))) (dropped_lined waiting)
      (first_taken waiting) (none_moved waiting)
      (λ u. let a = first_counted waiting u in omega arith)
