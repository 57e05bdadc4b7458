-- A thread takes waiters of a line of a lock, as many as it is to, where each may be in a call of another
-- lock too, and the thread itself among them:
-- every lock is a site again.
use Rattle.lot_laws.proofs.Imports
use Imports.{ℕ, Bool, true, false, Option, Some, None, if◌then◌else◌, ◌==◌, ◌&&◌, ◌||◌, ◌≡◌, ◌≢◌, ◌+◌, ◌*◌, ◌≤◌}
use Imports.{◌<◌, ◌⊎◌, replicate, List, [], ◌∷◌, length, get_or, set, map, inl, inr, refl, sym, ◌∙◌, ap, subst}
use Imports.{arith, cases_eq, nat_tests, and-true, and-false, Waiter, times, threads_of, Place, Idle, Reply}
use Imports.{TakenBy, next_place, Rules, Taken, putting, queued_of, Site, Deed, Line, Main, Second, code, State}
use Imports.{unlocked, shares_at, place_at, section_at, queue_at, kind_at, places_told, taken_at, acts}
use Imports.{location_at, role_on, ActsNeeded, TakesOne, Hands, IsInductive, Goes, FitsItsLock, Lines}
use Imports.{AllAreWaiting, AreWaiting, Sections, after_acts, rules_in, key_of, stood_in, carried_at, hand_at}
use Imports.{locations_of}
use Rattle.spec_locks.specs.Locks as locks
use Rattle.spec_locks.specs.declared.kinds.Kind.TheVariants as kind
use Rattle.lot_laws.specs.Locations.{Location, hand}
use Rattle.lot_laws.proofs.semaphore.Permits.{all_by}
use Rattle.lot_laws.proofs.machine.Parts.{parts_at, base_at, lock_in, seen_in, same, differ, put_here}
use Rattle.lot_laws.proofs.machine.Parts.{put_other, set_puts, past_all}
use Rattle.lot_laws.proofs.sites.OneStep.{AreSingle, others_same}
use Rattle.lot_laws.proofs.sites.ActsAt.{word_by_lines}
use Rattle.lot_laws.proofs.sites.Following.{AlikeAt, Moves, NoHandOff, ordinary_by, limited, with_line}
use Rattle.lot_laws.proofs.sites.Following.{stood_other, follows_by, lock_by}
use Rattle.lot_laws.proofs.sites.StandsKept.{AlikeBeside, same_line, other_key, other_line, sections_same}
use Rattle.lot_laws.proofs.sites.StandsKept.{waiting_same, hands_taken, calls_in}
use Rattle.lot_laws.proofs.sites.StandsMoved.{stands_by}

-- ---------------------------------------------------------------- lists of waiters

abbrev pub member : ℕ → List Waiter → Bool
member u [] = false
member u (x ∷ xs) = (x.thread == u) || member u xs

pub member_times : (u : ℕ) (xs : List Waiter) → member u xs ≡ true → 1 ≤ times u xs
member_times u [] h = absurd cc
member_times u (x ∷ xs) h = grind (arith, nat_tests, member_times u xs)

pub stranger_times : (u : ℕ) (xs : List Waiter) → member u xs ≡ false → times u xs ≡ 0
stranger_times u [] h = refl
stranger_times u (x ∷ xs) h = grind (arith, nat_tests, stranger_times u xs)

no_member : (u : ℕ) (xs : List Waiter) → times u xs ≡ 0 → member u xs ≡ false
no_member u [] h = refl
no_member u (x ∷ xs) h = grind (arith, nat_tests, no_member u xs)

pub only_member : (x : Waiter) (u : ℕ) → member u (x ∷ []) ≡ true → x.thread ≡ u
only_member x u h = grind (arith, nat_tests)

-- tells what threads are told, one after another
abbrev pub told_by : Reply → List Waiter → (ℕ → Place) → ℕ → Place
told_by reply [] p = p
told_by reply (x ∷ xs) p = told_by reply xs (putting p x.thread (next_place (p x.thread) reply))

pub told_places : (reply : Reply) (xs : List Waiter) (ps : List Place)
    → (λ u. get_or (places_told reply (threads_of xs) ps) u Idle) ≡ told_by reply xs (λ u. get_or ps u Idle)
told_places reply [] ps = refl
told_places reply (x ∷ xs) ps =
    told_places reply xs (set ps x.thread (next_place (get_or ps x.thread Idle) reply))
    ∙ ap (told_by reply xs) (λ i u. set_puts ps x.thread (next_place (get_or ps x.thread Idle) reply) Idle
    (λ h. ap (λ p. next_place p reply) (past_all ps x.thread Idle h)) u i)

-- each is told once
pub told_once : (reply : Reply) (xs : List Waiter) (p : ℕ → Place) (u : ℕ) → times u xs ≤ 1
    → told_by reply xs p u ≡ (if member u xs then next_place (p u) reply else p u)
told_once reply [] p u h = refl
told_once reply (x ∷ xs) p u h = told_once reply xs now u (omega arith) ∙ either (cases_eq x.thread u)
  where
    now : ℕ → Place
    now = putting p x.thread (next_place (p x.thread) reply)

    either : ((x.thread ≡ u) ⊎ (x.thread ≢ u))
        → (if member u xs then next_place (now u) reply else now u)
        ≡ (if member u (x ∷ xs) then next_place (p u) reply else p u)
    either (inl e) = let one : times u (x ∷ xs) ≡ 1 + times u xs = rw (e, same u) refl in
        rw (no_member u xs (omega arith), e, same u) refl
    either (inr ne) = rw (
      differ x.thread u ne,
      put_other p x.thread (next_place (p x.thread) reply) u
          (λ e. ne (sym e)),
    ) refl

-- each that is taken is so by t, for what it wants
abbrev pub AllAre : ℕ → (ℕ → Option Taken) → List Waiter → Type 0
AllAre t v [] = Unit {0}
AllAre t v (x ∷ xs) = (v x.thread ≡ Some (record { by = t; want = x.want })) × AllAre t v xs

pub taking_is : (t : ℕ) (xs : List Waiter) (was v : ℕ → Option Taken) (u : ℕ) → AllAre t v xs
    → locks.taking t (map queued_of xs) was u ≡ (if member u xs then v u else was u)
taking_is t [] was v u h = refl
taking_is t (x ∷ xs) was v u h = taking_is t xs now v u h.1 ∙ either (member u xs) (cases_eq x.thread u)
  where
    now : ℕ → Option Taken
    now = putting was x.thread (Some (record { by = t; want = x.want }))

    either : (b : Bool) → ((x.thread ≡ u) ⊎ (x.thread ≢ u))
        → (if b then v u else now u) ≡ (if (x.thread == u) || b then v u else was u)
    either true (inl e) = rw (e, same u) refl
    either true (inr ne) = rw (differ x.thread u ne) refl
    either false (inl e) = rw (e, same u)
        (sym (subst (λ j. v j ≡ Some (record { by = t; want = x.want })) e h.0))
    either false (inr ne) = rw (differ x.thread u ne, differ u x.thread (λ e. ne (sym e))) refl

-- ---------------------------------------------------------------- some are taken

-- a thread that is taken of its line is in the hand of t, and stands there no more
abbrev pub after_take : ℕ → Bool → Location → Location
after_take t true x = record x { stands = None; waits = None; hand = hand t false }
after_take t false x = x

-- where a thread goes that sleeps in a line of the lock and is taken by t
pub record IsTakenAt (w : State) (t l : ℕ) (m : Line) (p : Place) : Type 0 where
  pub stands : (location_at p l).stands ≡ Some m
  pub unheld : (location_at p l).hand ≡ None
  pub goes : location_at (next_place p (TakenBy t)) l ≡ after_take t true (location_at p l)
  pub alike : AlikeBeside l p (next_place p (TakenBy t))
  pub role : role_on (next_place p (TakenBy t)) l ≡ role_on p l
  pub fits : FitsItsLock w (next_place p (TakenBy t))

-- the waiters taken of the line, and those left
pub record SplitsAt (w : State) (t l : ℕ) (m : Line) (taken left : List Waiter) : Type 0 where
  pub counts : (u : ℕ) → times u taken + times u left ≡ times u (queue_at w (key_of l m))
  pub sleeps : (u : ℕ) → member u taken ≡ true → IsTakenAt w t l m (place_at w u)
  pub lefts : AreWaiting (locations_of (place_at w)) l m left
  pub wants : AllAre t (λ u. taken_at (next_place (place_at w u) (TakenBy t)) l) taken

pub at_most_one : (o : Option Line) (m : Line) → stood_in o m ≤ 1
at_most_one None m = omega arith
at_most_one (Some Main) Main = omega arith
at_most_one (Some Main) Second = omega arith
at_most_one (Some Second) Main = omega arith
at_most_one (Some Second) Second = omega arith

inside_of_take : (t : ℕ) (b : Bool) (x : Location) → (after_take t b x).inside ≡ x.inside
inside_of_take t true x = refl
inside_of_take t false x = refl

stands_of_take : (t : ℕ) (b : Bool) (x : Location) → (after_take t b x).stands
    ≡ (if b then None else x.stands)
stands_of_take t true x = refl
stands_of_take t false x = refl

waits_of_take : (t : ℕ) (x : Location) → (b : Bool) → b ≡ false → (after_take t b x).waits ≡ x.waits
waits_of_take t x true e = absurd cc
waits_of_take t x false e = refl

hand_of_take : (t : ℕ) (b : Bool) (x : Location) → (after_take t b x).hand
    ≡ (if b then hand t false else x.hand)
hand_of_take t true x = refl
hand_of_take t false x = refl

module _ (w : State) (t l : ℕ) (inductive : IsInductive w) (there : t < length w.places) (p2 : Place)
    (beside : AlikeBeside l (place_at w t) p2) (fits : FitsItsLock w p2)
    (m : Line) (taken left : List Waiter) (splits : SplitsAt w t l m taken left) (single : TakesOne w l
    → (u v : ℕ) → member u taken ≡ true → member v taken ≡ true → u ≡ v)
    (bare : (location_at (place_at w t) l).has_taken ≡ None) (c : Option Bool) (now : location_at p2 l
    ≡ record (after_take t (member t taken) (location_at (place_at w t) l)) { has_taken = c }) where
  abbrev has : ℕ → Bool
  has u = member u taken

  abbrev told : ℕ → Place
  told = told_by (TakenBy t) taken (place_at w)

  abbrev pub places_now : ℕ → Place
  places_now = putting told t p2

  abbrev was : ℕ → Location
  was u = location_at (place_at w u) l

  stood : (u : ℕ) → times u taken + times u left ≡ stood_in (was u).stands m
  stood u = splits.counts u ∙ inductive.stands.lines u l m

  once : (u : ℕ) → times u taken ≤ 1
  once u = let a : times u taken + times u left ≡ stood_in (was u).stands m = stood u
      in let b : stood_in (was u).stands m ≤ 1 = at_most_one (was u).stands m in omega arith

  told_on : (u : ℕ) → has u ≡ true → told u ≡ next_place (place_at w u) (TakenBy t)
  told_on u h = told_once (TakenBy t) taken (place_at w) u (once u)
      ∙ ap (λ b. if b then next_place (place_at w u) (TakenBy t) else place_at w u) h

  told_off : (u : ℕ) → has u ≡ false → told u ≡ place_at w u
  told_off u h = told_once (TakenBy t) taken (place_at w) u (once u)
      ∙ ap (λ b. if b then next_place (place_at w u) (TakenBy t) else place_at w u) h

  -- by the thread that is looked at
  by_thread : (P : ℕ → Place → Type 0) → P t p2 → ((u : ℕ) → u ≢ t → has u ≡ true
      → P u (next_place (place_at w u) (TakenBy t)))
      → ((u : ℕ) → u ≢ t → has u ≡ false → P u (place_at w u)) → (u : ℕ) → P u (places_now u)
  by_thread P here on off u = elim (cases_eq u t) [
    | inl e ↦ rw (e, put_here told t p2) here
    | inr ne ↦ subst (P u) (sym (put_other told t p2 u ne)) (either ne (has u) refl)
  ]
    where
      either : u ≢ t → (b : Bool) → has u ≡ b → P u (told u)
      either ne true h = subst (P u) (sym (told_on u h)) (on u ne h)
      either ne false h = subst (P u) (sym (told_off u h)) (off u ne h)

  -- a part of a location at the lock, but for the threads that t carries
  part_here : {A : Type 0} (g : Location → A) → ((x : Location) (b : Option Bool)
      → g (record x { has_taken = b }) ≡ g x) → (u : ℕ) → g (location_at (places_now u) l) ≡ g
      (after_take t (has u) (was u))
  part_here g same_part = by_thread (λ u p. g (location_at p l) ≡ g (after_take t (has u) (was u)))
      (ap g now ∙ same_part (after_take t (has t) (was t)) c)
      (λ u nu h. ap g ((splits.sleeps u h).goes) ∙ sym (ap (λ b. g (after_take t b (was u))) h))
      (λ u nu h. sym (ap (λ b. g (after_take t b (was u))) h))

  -- At other locks all locations are as they were.
  location_there : (u k : ℕ) → k ≢ l → location_at (places_now u) k ≡ location_at (place_at w u) k
  location_there u k ne = by_thread (λ u p. location_at p k ≡ location_at (place_at w u) k)
      (beside k ne).location (λ u nu h. ((splits.sleeps u h).alike k ne).location) (λ u nu h. refl) u

  pub alike : (k : ℕ) → k ≢ l → (u : ℕ) → AlikeAt k (place_at w u) (places_now u)
  alike k ne = by_thread (λ u p. AlikeAt k (place_at w u) p) ((beside k ne).taken, (beside k ne).role)
      (λ u nu h. let s = splits.sleeps u h in ((s.alike k ne).taken, (s.alike k ne).role))
      (λ u nu h. (refl, refl))

  inside_now : (u k : ℕ) → (location_at (places_now u) k).inside ≡ (location_at (place_at w u) k).inside
  inside_now u k = elim (cases_eq k l) [
    | inl e ↦ rw e (part_here (λ y. y.inside) (λ x b. refl) u ∙ inside_of_take t (has u) (was u))
    | inr ne ↦ ap (λ (y : Location). y.inside) (location_there u k ne)
  ]

  -- ---------------------------------------------------------------- hands

  in_hand : (u k : ℕ) → hand_at (places_now u) k ≡ (if has u && (k == l) then hand t false else hand_at
      (place_at w u) k)
  in_hand u k = elim (cases_eq k l) [
    | inl e ↦ rw (e, same l, and-true (has u)) (part_here (λ y. y.hand) (λ x b. refl) u
        ∙ hand_of_take t (has u) (was u))
    | inr ne ↦ rw (differ k l ne, and-false (has u)) (ap (λ (y : Location). y.hand) (location_there u k ne))
  ]

  has_taken : (i k : ℕ) → carried_at (places_now i) k ≡ (if (i == t) && (k == l) then c else carried_at
      (place_at w i) k)
  has_taken i k = elim (cases_eq k l) [
    | inl e ↦ rw (e, same l, and-true (i == t))
        (by_thread (λ u p. carried_at p l ≡ (if u == t then c else carried_at (place_at w u) l))
        (rw (same t) (ap (λ (y : Location). y.has_taken) now))
        (λ u nu h. rw (differ u t nu) (ap (λ (y : Location). y.has_taken) (splits.sleeps u h).goes))
        (λ u nu h. rw (differ u t nu) refl) i)
    | inr ne ↦ rw (differ k l ne, and-false (i == t)) (ap (λ (y : Location). y.has_taken)
        (location_there i k ne))
  ]

  hands_now : ((b : Bool) → c ≡ Some b → (b ≡ false) × ((u : ℕ) × (has u ≡ true)))
      → ((u : ℕ) → has u ≡ true → c ≡ Some false)
      → Hands (TakesOne w) places_now
  hands_now some full = hands_taken (TakesOne w) (locations_of (place_at w)) (locations_of places_now)
      inductive.stands.hands t l has single c in_hand has_taken bare (λ u h. (splits.sleeps u h).unheld) some
      full

  calls_now : (u : ℕ) → FitsItsLock w (places_now u)
  calls_now = by_thread (λ u p. FitsItsLock w p) fits (λ u nu h. (splits.sleeps u h).fits)
      (λ u nu h. inductive.stands.calls u)

  -- ---------------------------------------------------------------- lines

  left_times : (u : ℕ) → has u ≡ false → times u left ≡ stood_in (was u).stands m
  left_times u h = let a : times u taken + times u left ≡ stood_in (was u).stands m = stood u
      in let b : times u taken ≡ 0 = stranger_times u taken h in omega arith

  none_left : (u : ℕ) → has u ≡ true → times u left ≡ 0
  none_left u h = let a : times u taken + times u left ≡ stood_in (was u).stands m = stood u
      in let b : 1 ≤ times u taken = member_times u taken h in let d : stood_in (was u).stands m ≤ 1 =
      at_most_one (was u).stands m in omega arith

  -- a thread that is taken stood in no other line of the lock
  stood_there : (u : ℕ) (n : Line) → has u ≡ true → n ≢ m → times u (queue_at w (key_of l n)) ≡ 0
  stood_there u n h ng = inductive.stands.lines u l n ∙ ap (λ o. stood_in o n) (splits.sleeps u h).stands
      ∙ stood_other m n ng

  -- the waiters that are left stand in the line
  lines_now : (queue : ℕ → List Waiter) → queue (key_of l m) ≡ left → ((key : ℕ) → key ≢ key_of l m
      → queue key ≡ queue_at w key)
      → Lines (locations_of places_now) queue
  lines_now queue here others u k n = elim (cases_eq k l) [
    | inl f ↦ rw f (at_line (has u) refl (same_line n m)
        ∙ sym (ap (λ o. stood_in o n) (part_here (λ y. y.stands) (λ x b. refl) u
        ∙ stands_of_take t (has u) (was u))))
    | inr ne ↦ ap (times u) (others (key_of k n) (other_key l k m n ne)) ∙ inductive.stands.lines u k n
        ∙ sym (ap (λ (y : Location). stood_in y.stands n) (location_there u k ne))
  ]
    where
      at_line : (b : Bool) → has u ≡ b → ((n ≡ m) ⊎ (n ≢ m))
          → times u (queue (key_of l n)) ≡ stood_in (if has u then None else (was u).stands) n
      at_line true h (inl g) = rw (g, h, here) (none_left u h)
      at_line false h (inl g) = rw (g, h, here) (left_times u h)
      at_line true h (inr ng) = rw h (ap (times u) (others (key_of l n) (other_line l m n ng))
          ∙ stood_there u n h ng)
      at_line false h (inr ng) = rw h (ap (times u) (others (key_of l n) (other_line l m n ng))
          ∙ inductive.stands.lines u l n)

  -- The waiters that are left wait as before.
  waits_now : (queue : ℕ → List Waiter) → queue (key_of l m) ≡ left → ((key : ℕ) → key ≢ key_of l m
      → queue key ≡ queue_at w key)
      → AllAreWaiting (locations_of places_now) queue
  waits_now queue here others k n = elim (cases_eq k l) [
    | inl f ↦ rw f (elim (same_line n m) [
      | inl g ↦ rw (g, here) (waiting_same (locations_of (place_at w)) (locations_of places_now) l m left
          splits.lefts (λ u g. stays u (untaken_left u g)))
      | inr ng ↦ waiting_same (locations_of (place_at w)) (locations_of places_now) l n (queue (key_of l n))
          (subst (AreWaiting (locations_of (place_at w)) l n)
          (sym (others (key_of l n) (other_line l m n ng))) (inductive.stands.waits l n))
          (λ u g. stays u (untaken_there u n ng (subst (λ (q : List Waiter). 1 ≤ times u q)
          (others (key_of l n) (other_line l m n ng)) g)))
    ])
    | inr ne ↦ waiting_same (locations_of (place_at w)) (locations_of places_now) k n (queue (key_of k n))
        (subst (AreWaiting (locations_of (place_at w)) k n) (sym (others (key_of k n) (other_key l k m n ne)))
        (inductive.stands.waits k n)) (λ u g. ap (λ (y : Location). y.waits) (location_there u k ne))
  ]
    where
      stays : (u : ℕ) → has u ≡ false → (location_at (places_now u) l).waits ≡ (was u).waits
      stays u h = part_here (λ y. y.waits) (λ x b. refl) u ∙ waits_of_take t (was u) (has u) h

      untaken_left : (u : ℕ) → 1 ≤ times u left → has u ≡ false
      untaken_left u g = either (has u) refl
        where
          either : (b : Bool) → has u ≡ b → b ≡ false
          either false h = refl
          either true h = absurd (let a : times u left ≡ 0 = none_left u h in omega arith)

      untaken_there : (u : ℕ) (n : Line) → n ≢ m → 1 ≤ times u (queue_at w (key_of l n)) → has u ≡ false
      untaken_there u n ng g = either (has u) refl
        where
          either : (b : Bool) → has u ≡ b → b ≡ false
          either false h = refl
          either true h = absurd (let a : times u (queue_at w (key_of l n)) ≡ 0 = stood_there u n h ng
              in omega arith)

  -- the lock, by those that t has in hand then
  module _ (r : Rules) (rules : rules_in w l ≡ r)
      (own_taken : taken_at p2 l ≡ (if has t then taken_at (next_place (place_at w t) (TakenBy t)) l
      else taken_at (place_at w t) l)) where
    abbrev pub lock_taken : Site
    lock_taken = record (seen_in r l (with_line (parts_at w l) m left) (place_at w)) {
      lock = lock_in (with_line (parts_at w l) m left) (locks.taking t (map queued_of taken)
          (λ u. taken_at (place_at w u) l));
    }

    taken_now : (u : ℕ) → taken_at (places_now u) l ≡ locks.taking t (map queued_of taken)
        (λ u. taken_at (place_at w u) l) u
    taken_now = by_thread (λ u p. taken_at p l ≡ locks.taking t (map queued_of taken)
        (λ u. taken_at (place_at w u) l) u)
        (own_taken ∙ sym (in_hand_by t))
        (λ u nu h. sym (in_hand_by u ∙ ap (λ b. if b then taken_at (next_place (place_at w u) (TakenBy t)) l
        else taken_at (place_at w u) l) h))
        (λ u nu h. sym (in_hand_by u ∙ ap (λ b. if b then taken_at (next_place (place_at w u) (TakenBy t)) l
        else taken_at (place_at w u) l) h))
      where
        in_hand_by : (u : ℕ)
            → locks.taking t (map queued_of taken) (λ u. taken_at (place_at w u) l) u
            ≡ (if member u taken then taken_at (next_place (place_at w u) (TakenBy t)) l else taken_at
            (place_at w u) l)
        in_hand_by u = taking_is t taken (λ u. taken_at (place_at w u) l)
            (λ u. taken_at (next_place (place_at w u) (TakenBy t)) l) u splits.wants

    take_site : (d : Deed) → AreSingle (d ∷ []) → lock_taken.lock
        ≡ (after_acts r (acts t (d ∷ [])) (lock_by w l r)).lock
        → lock_taken.parked ≡ (after_acts r (acts t (d ∷ [])) (lock_by w l r)).parked
        → lock_taken.aside_parked ≡ (after_acts r (acts t (d ∷ [])) (lock_by w l r)).aside_parked
        → lock_taken.filled ≡ (after_acts r (acts t (d ∷ [])) (lock_by w l r)).filled
        → role_on p2 l ≡ (after_acts r (acts t (d ∷ [])) (lock_by w l r)).role t
        → seen_in r l (with_line (parts_at w l) m left) places_now ≡ after_acts r (acts t (d ∷ []))
        (lock_by w l r)
    take_site d single lock parked aside full own_is = λ i. record {
      lock = ((λ j. lock_in (with_line (parts_at w l) m left) (λ u. taken_now u j)) ∙ lock) i;
      parked = parked i;
      aside_parked = aside i;
      filled = full i;
      role = λ u. role_now u i;
    }
      where
        role_now : (u : ℕ) → role_on (places_now u) l ≡ (after_acts r (acts t (d ∷ [])) (lock_by w l r)).role
            u
        role_now = by_thread (λ u p. role_on p l ≡ (after_acts r (acts t (d ∷ [])) (lock_by w l r)).role u)
            own_is
            (λ u nu h. (splits.sleeps u h).role ∙ sym (others_same r (d ∷ []) (lock_by w l r) t u single nu))
            (λ u nu h. sym (others_same r (d ∷ []) (lock_by w l r) t u single nu))

    -- the deed, and what it makes of the lock
    module _ (v : State) (el : v.locks ≡ w.locks) (eh : v.shares ≡ w.shares) (es : v.sections ≡ w.sections)
        (threads : length v.places ≡ length w.places) (places : place_at v ≡ places_now)
        (here : queue_at v (key_of l m) ≡ left)
        (others : (key : ℕ) → key ≢ key_of l m → queue_at v key ≡ queue_at w key) where
      same_lock : (k : ℕ) → base_at v k ≡ base_at w k
      same_lock k = λ i. record {
        shared = get_or (eh i) k (replicate (threads i) 0);
        filled = (get_or (el i) k (unlocked kind.Mutex)).filled;
      }

      here_now : (n : Line) → m ≡ n → parts_at v l ≡ with_line (parts_at w l) n left
      here_now Main e = λ i. record {
        base = same_lock l i;
        word = (get_or (el i) l (unlocked kind.Mutex)).word;
        owners = (get_or (el i) l (unlocked kind.Mutex)).owners;
        main = (subst (λ n. queue_at v (key_of l n) ≡ left) e here) i;
        second = (others (2 * l + 1) (subst (λ n. 2 * l + 1 ≢ key_of l n) (sym e) (λ h. omega arith))) i;
      }
      here_now Second e = λ i. record {
        base = same_lock l i;
        word = (get_or (el i) l (unlocked kind.Mutex)).word;
        owners = (get_or (el i) l (unlocked kind.Mutex)).owners;
        main = (others (2 * l) (subst (λ n. 2 * l ≢ key_of l n) (sym e) (λ h. omega arith))) i;
        second = (subst (λ n. queue_at v (key_of l n) ≡ left) e here) i;
      }

      moves : Moves w v l (with_line (parts_at w l) m left) places_now
      moves = record {
        here = here_now m refl;
        others = λ k ne i. record {
          base = same_lock k i;
          word = (get_or (el i) k (unlocked kind.Mutex)).word;
          owners = (get_or (el i) k (unlocked kind.Mutex)).owners;
          main = (others (key_of k Main) (other_key l k m Main ne)) i;
          second = (others (key_of k Second) (other_key l k m Second ne)) i;
        };
        places = places;
        kinds = same_kinds;
        alike = alike;
        numbers = record { threads = threads; locks = λ i. length (el i); shares = λ i. length (eh i) };
        sharers = same_sharers m;
      }
        where
          same_kinds : (k : ℕ) → kind_at v k ≡ kind_at w k
          same_kinds k i = (get_or (el i) k (unlocked kind.Mutex)).kind

          same_sharers : (n : Line) → length (with_line (parts_at w l) n left).base.shared ≡ length
              (shares_at w l)
          same_sharers Main = refl
          same_sharers Second = refl

      word_now : (n : Line) → m ≡ n
          → (with_line (parts_at w l) n left).word ≡ code r (seen_in r l (with_line (parts_at w l) n left)
          places_now)
      word_now Main e = word_by_lines w t l inductive there r rules p2 beside fits left
          (queue_at w (2 * l + 1))
          places_now
      word_now Second e = word_by_lines w t l inductive there r rules p2 beside fits (queue_at w (2 * l)) left
          places_now

      pub take_goes : ((b : Bool) → c ≡ Some b → (b ≡ false) × ((u : ℕ) × (has u ≡ true)))
          → ((u : ℕ) → has u ≡ true → c ≡ Some false)
          → (d : Deed) → AreSingle (d ∷ []) → NoHandOff (d ∷ []) → ActsNeeded r (acts t (d ∷ []))
          (lock_by w l r)
          → lock_taken.lock ≡ (after_acts r (acts t (d ∷ [])) (lock_by w l r)).lock
          → lock_taken.parked ≡ (after_acts r (acts t (d ∷ [])) (lock_by w l r)).parked
          → lock_taken.aside_parked ≡ (after_acts r (acts t (d ∷ [])) (lock_by w l r)).aside_parked
          → lock_taken.filled ≡ (after_acts r (acts t (d ∷ [])) (lock_by w l r)).filled
          → role_on p2 l ≡ (after_acts r (acts t (d ∷ [])) (lock_by w l r)).role t
          → Goes w v l (acts t (d ∷ []))
      take_goes some full d single_deed plain needed lock parked aside filled own_is = record {
        follows = follows_by w v l (with_line (parts_at w l) m left) places_now moves r rules
            (acts t (d ∷ [])) (λ e. all_by (length w.places) t (d ∷ []) there)
            (limited w l inductive r rules (acts t (d ∷ [])) (λ h. ordinary_by (length w.places) t (d ∷ [])
            there
            plain) needed) (take_site d single_deed lock parked aside filled own_is) needed (word_now m refl);
        stands = stands_by w v places_now places moves.kinds
            (record {
              sections = subst (λ (f : ℕ → Option ℕ). Sections (locations_of places_now) f)
                  (sym (λ i key. get_or (es i) key None)) (sections_same (locations_of (place_at w))
                  (locations_of places_now) (section_at w) inductive.stands.sections inside_now);
              lines = lines_now (queue_at v) here others;
              waits = waits_now (queue_at v) here others;
              hands = hands_now some full;
            })
            (λ u. calls_in w v (places_now u) moves.kinds (calls_now u));
      }
