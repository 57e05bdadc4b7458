-- A notification moves waiters of a condition variable to its mutex: some it takes, and the others stand
-- there after the last. Where the threads stand then, in sections, lines and hands.
use Rattle.lot_laws.proofs.Imports
use Imports.{ℕ, Bool, true, false, Option, Some, None, if◌then◌else◌, ◌==◌, ◌&&◌, ◌||◌, ◌≡◌, ◌≢◌, ◌+◌, ◌≤◌, ◌⊎◌}
use Imports.{List, [], ◌∷◌, ◌++◌, inl, inr, refl, sym, ◌∙◌, ap, subst, arith, cases_eq, and-true, and-false}
use Imports.{Waiter, Exclusive, times, MovedTo, TakenBy, Place, next_place, Taken, putting, Line, Main, Second}
use Imports.{State, moved_under, place_at, queue_at, section_at, taken_at, role_on, location_at, AreWaiting}
use Imports.{FitsItsLock, Hands, IsInductive, Lines, Sections, TakesOne, AllAreWaiting, carried_at, hand_at}
use Imports.{key_of, locations_of, stood_in}
use Rattle.lot_laws.specs.Locations.{Hand, Location, hand}
use Rattle.lot_laws.proofs.machine.Parts.{differ, put_here, put_other, same}
use Rattle.lot_laws.proofs.sites.StandsKept.{Alike, hands_taken, other_key, other_line, sections_same}
use Rattle.lot_laws.proofs.sites.StandsKept.{waiting_same}
use Rattle.lot_laws.proofs.sites.StandsMoved.{AreThere}
use Rattle.lot_laws.proofs.sites.TakesAt.{at_most_one, member, member_times, stranger_times}

-- ---------------------------------------------------------------- a waiter that is taken or moved

-- from the list of c it comes into a hand at m, or into the line there; elsewhere it is as it was
pub record GoesAcross (w : State) (c m : ℕ) (p p2 : Place) (at_m : Location → Location)
    (held : Option Taken) : Type 0 where
  pub left : location_at p2 c ≡ record (location_at p c) { stands = None; waits = None }
  pub came : location_at p2 m ≡ at_m (location_at p m)
  pub did_c : role_on p2 c ≡ role_on p c
  pub did_m : role_on p2 m ≡ role_on p m
  pub free_c : taken_at p2 c ≡ taken_at p c
  pub held_m : taken_at p2 m ≡ held
  pub alike : (k : ℕ) → k ≢ c → k ≢ m → Alike k p p2
  pub fits : FitsItsLock w p2

-- the thread stands in the list of c, and nowhere at m
pub record WaitsAcross (w : State) (t c m : ℕ) (p : Place) : Type 0 where
  pub stands : (location_at p c).stands ≡ Some Main
  pub out : (location_at p m).stands ≡ None
  pub free : (location_at p m).hand ≡ None
  pub untaken : taken_at p m ≡ None
  pub taken : GoesAcross w c m p (next_place p (TakenBy t)) (λ x. record x { hand = hand t false })
      (Some (record { by = t; want = Exclusive }))
  pub moved : GoesAcross w c m p (next_place p (MovedTo (key_of m Main))) (λ x. record x {
    stands = Some Main;
    waits = Some Exclusive;
  }) None

-- ---------------------------------------------------------------- all of them

times_under : (u key : ℕ) (q : List Waiter) → times u (moved_under key q) ≡ times u q
times_under u key [] = refl
times_under u key (x ∷ q) = ap (λ n. (if x.thread == u then 1 else 0) + n) (times_under u key q)

times_both : (u : ℕ) (xs ys : List Waiter) → times u (xs ++ ys) ≡ times u xs + times u ys
times_both u [] ys = omega arith
times_both u (x ∷ xs) ys = grind (arith, times_both u xs ys)

waiting_both : (at : ℕ → ℕ → Location) (l : ℕ) (n : Line) (xs ys : List Waiter) → AreWaiting at l n xs
    → AreWaiting at l n ys
    → AreWaiting at l n (xs ++ ys)
waiting_both at l n [] ys h k = k
waiting_both at l n (x ∷ xs) ys h k = (h.0, waiting_both at l n xs ys h.1 k)

-- each thread that is moved waits under the key to own it
waiting_under : (at : ℕ → ℕ → Location) (l : ℕ) (q : List Waiter) → ((u : ℕ) → member u q ≡ true
    → (at u l).waits ≡ Some Exclusive)
    → AreWaiting at l Main (moved_under (key_of l Main) q)
waiting_under at l [] each = tt
waiting_under at l (x ∷ q) each = (
  (refl, each x.thread (ap (λ b. b || member x.thread q) (same x.thread))),
  waiting_under at l q (λ u h. each u (more u h (x.thread == u))),
)
  where
    more : (u : ℕ) → member u q ≡ true → (b : Bool) → (b || member u q) ≡ true
    more u h true = refl
    more u h false = h

module _ (w : State) (t c m : ℕ) (apart : m ≢ c) (inductive : IsInductive w) (p2 : Place)
    (gone moved left : List Waiter)
    (counts : (u : ℕ) → times u gone + times u moved + times u left ≡ times u (queue_at w (key_of c Main)))
    (lefts : AreWaiting (locations_of (place_at w)) c Main left)
    (waits : (u : ℕ) → 1 ≤ times u (queue_at w (key_of c Main)) → WaitsAcross w t c m (place_at w u))
    (one_gone : (u v : ℕ) → member u gone ≡ true → member v gone ≡ true → u ≡ v)
    (out : (location_at (place_at w t) c).stands ≡ None) (bare : (location_at (place_at w t) m).has_taken
    ≡ None)
    (now_c : location_at p2 c ≡ location_at (place_at w t) c) (any : Option Bool) (now_m : location_at p2 m
    ≡ record (location_at (place_at w t) m) { has_taken = any })
    (alike_t : (k : ℕ) → k ≢ c → k ≢ m → Alike k (place_at w t) p2) (fits : FitsItsLock w p2) where
  -- where a notification leads each
  abbrev pub goes : ℕ → Place
  goes u = if member u gone then next_place (place_at w u) (TakenBy t) else if member u moved
      then next_place (place_at w u) (MovedTo (key_of m Main)) else place_at w u

  abbrev pub places_across : ℕ → Place
  places_across = putting goes t p2

  abbrev line : List Waiter
  line = queue_at w (key_of c Main)

  at_most : (u : ℕ) → times u line ≤ 1
  at_most u = let a : times u line ≡ stood_in (location_at (place_at w u) c).stands Main =
      inductive.stands.lines u c Main in let b = at_most_one (location_at (place_at w u) c).stands Main
      in omega arith

  -- t isn't among them
  not_t : times t line ≡ 0
  not_t = inductive.stands.lines t c Main ∙ ap (λ o. stood_in o Main) out

  pub in_line : (u : ℕ) → (member u gone ≡ true) ⊎ (member u moved ≡ true) → 1 ≤ times u line
  in_line u (inl h) = let a = counts u in let b = member_times u gone h in omega arith
  in_line u (inr h) = let a = counts u in let b = member_times u moved h in omega arith

  -- nobody is both
  gone_only : (u : ℕ) → member u gone ≡ true → member u moved ≡ false
  gone_only u h = either (member u moved) refl
    where
      either : (b : Bool) → member u moved ≡ b → b ≡ false
      either false e = refl
      either true e = absurd (let a = counts u in let b = member_times u gone h in let d =
          member_times u moved e in let f = at_most u in omega arith)

  -- by the thread that is looked at
  pub by_thread : (P : ℕ → Place → Type 0) → P t p2
      → ((u : ℕ) → u ≢ t → member u gone ≡ true → P u (next_place (place_at w u) (TakenBy t)))
      → ((u : ℕ) → u ≢ t → member u gone ≡ false → member u moved ≡ true
      → P u (next_place (place_at w u) (MovedTo (key_of m Main))))
      → ((u : ℕ) → u ≢ t → member u gone ≡ false → member u moved ≡ false → P u (place_at w u)) → (u : ℕ)
      → P u (places_across u)
  by_thread P here on under off u = elim (cases_eq u t) [
    | inl e ↦ rw (e, put_here goes t p2) here
    | inr ne ↦ subst (P u) (sym (put_other goes t p2 u ne)) (either ne (member u gone) (member u moved) refl
        refl)
  ]
    where
      either : u ≢ t → (a b : Bool) → member u gone ≡ a → member u moved ≡ b
          → P u
          (if a then next_place (place_at w u) (TakenBy t) else if b then next_place (place_at w u)
          (MovedTo (key_of m Main)) else place_at w u)
      either ne true b e f = on u ne e
      either ne false true e f = under u ne e f
      either ne false false e f = off u ne e f

  waits_gone : (u : ℕ) → member u gone ≡ true → WaitsAcross w t c m (place_at w u)
  waits_gone u h = waits u (in_line u (inl h))

  waits_moved : (u : ℕ) → member u moved ≡ true → WaitsAcross w t c m (place_at w u)
  waits_moved u h = waits u (in_line u (inr h))

  -- elsewhere all is as it was
  pub alike_across : (k : ℕ) → k ≢ c → k ≢ m → (u : ℕ) → Alike k (place_at w u) (places_across u)
  alike_across k nc nm = by_thread (λ u p. Alike k (place_at w u) p) (alike_t k nc nm)
      (λ u nu h. (waits_gone u h).taken.alike k nc nm) (λ u nu g h. (waits_moved u h).moved.alike k nc nm)
      (λ u nu g h. record {
        location = refl;
        role = refl;
        taken = refl;
      })

  pub fits_across : (u : ℕ) → FitsItsLock w (places_across u)
  fits_across = by_thread (λ u p. FitsItsLock w p) fits (λ u nu h. (waits_gone u h).taken.fits)
      (λ u nu g h. (waits_moved u h).moved.fits) (λ u nu g h. inductive.stands.calls u)

  -- a part of a station that none of it changes
  part_across : {A : Type 0} (g : Location → A)
      → ((x : Location) → g (record x { stands = None; waits = None }) ≡ g x)
      → ((x : Location) (b : Option Bool) → g (record x { has_taken = b }) ≡ g x)
      → ((x : Location) (h : Option Hand) → g (record x { hand = h }) ≡ g x)
      → ((x : Location) → g (record x { stands = Some Main; waits = Some Exclusive }) ≡ g x) → (u k : ℕ)
      → g (location_at (places_across u) k) ≡ g (location_at (place_at w u) k)
  part_across g leaving carrying holding coming u k = elim (cases_eq k c) [
    | inl e ↦ rw e (by_thread (λ u p. g (location_at p c) ≡ g (location_at (place_at w u) c)) (ap g now_c)
        (λ u nu h. ap g (waits_gone u h).taken.left ∙ leaving (location_at (place_at w u) c))
        (λ u nu f h. ap g (waits_moved u h).moved.left ∙ leaving (location_at (place_at w u) c))
        (λ u nu f h. refl) u)
    | inr nc ↦ elim (cases_eq k m) [
      | inl e ↦ rw e (by_thread (λ u p. g (location_at p m) ≡ g (location_at (place_at w u) m)) (ap g now_m
          ∙ carrying (location_at (place_at w t) m) any) (λ u nu h. ap g (waits_gone u h).taken.came
          ∙ holding (location_at (place_at w u) m) (hand t false))
          (λ u nu f h. ap g (waits_moved u h).moved.came ∙ coming (location_at (place_at w u) m))
          (λ u nu f h. refl) u)
      | inr nm ↦ ap g (alike_across k nc nm u).location
    ]
  ]

  -- ---------------------------------------------------------------- sections, and hands

  sections_across : Sections (locations_of places_across) (section_at w)
  sections_across = sections_same (locations_of (place_at w)) (locations_of places_across) (section_at w)
      inductive.stands.sections (part_across (λ y. y.inside) (λ x. refl) (λ x b. refl) (λ x h. refl)
      (λ x. refl))

  hand_across : (u k : ℕ)
      → hand_at (places_across u) k ≡ (if member u gone && (k == m) then hand t false else hand_at
      (place_at w u) k)
  hand_across u k = elim (cases_eq k m) [
    | inl e ↦ rw (e, same m, and-true (member u gone))
        (by_thread (λ u p. hand_at p m ≡ (if member u gone then hand t false else hand_at (place_at w u) m))
        (ap (λ (y : Location). y.hand) now_m
        ∙ sym (ap (λ b. if b then hand t false else hand_at (place_at w t) m)
        (stays_out t (λ h. let a = in_line t (inl h) in let b = not_t in omega arith))))
        (λ u nu h. ap (λ (y : Location). y.hand) (waits_gone u h).taken.came
        ∙ sym (ap (λ b. if b then hand t false else hand_at (place_at w u) m) h))
        (λ u nu f h. ap (λ (y : Location). y.hand) (waits_moved u h).moved.came
        ∙ sym (ap (λ b. if b then hand t false else hand_at (place_at w u) m) f))
        (λ u nu f h. sym (ap (λ b. if b then hand t false else hand_at (place_at w u) m) f)) u)
    | inr nm ↦ rw (differ k m nm, and-false (member u gone)) (elim (cases_eq k c) [
      | inl e ↦ rw e (by_thread (λ u p. hand_at p c ≡ hand_at (place_at w u) c)
          (ap (λ (y : Location). y.hand) now_c) (λ u nu h. ap (λ (y : Location). y.hand)
          (waits_gone u h).taken.left) (λ u nu f h. ap (λ (y : Location). y.hand)
          (waits_moved u h).moved.left) (λ u nu f h. refl) u)
      | inr nc ↦ ap (λ (y : Location). y.hand) (alike_across k nc nm u).location
    ])
  ]
    where
      stays_out : (u : ℕ) → (member u gone ≡ true → ⊥) → member u gone ≡ false
      stays_out u never = either (member u gone) refl
        where
          either : (b : Bool) → member u gone ≡ b → b ≡ false
          either false e = refl
          either true e = absurd (never e)

  carries_across : (i k : ℕ)
      → carried_at (places_across i) k ≡ (if (i == t) && (k == m) then any else carried_at (place_at w i) k)
  carries_across i k = elim (cases_eq k m) [
    | inl e ↦ rw (e, same m, and-true (i == t))
        (by_thread (λ u p. carried_at p m ≡ (if u == t then any else carried_at (place_at w u) m))
        (rw (same t) (ap (λ (y : Location). y.has_taken) now_m))
        (λ u nu h. rw (differ u t nu) (ap (λ (y : Location). y.has_taken) (waits_gone u h).taken.came))
        (λ u nu f h. rw (differ u t nu) (ap (λ (y : Location). y.has_taken) (waits_moved u h).moved.came))
        (λ u nu f h. rw (differ u t nu) refl) i)
    | inr nm ↦ rw (differ k m nm, and-false (i == t)) (elim (cases_eq k c) [
      | inl e ↦ rw e (by_thread (λ u p. carried_at p c ≡ carried_at (place_at w u) c)
          (ap (λ (y : Location). y.has_taken) now_c) (λ u nu h. ap (λ (y : Location). y.has_taken)
          (waits_gone u h).taken.left) (λ u nu f h. ap (λ (y : Location). y.has_taken)
          (waits_moved u h).moved.left) (λ u nu f h. refl) i)
      | inr nc ↦ ap (λ (y : Location). y.has_taken) (alike_across k nc nm i).location
    ])
  ]

  hands_across : ((b : Bool) → any ≡ Some b → (b ≡ false) × ((u : ℕ) × (member u gone ≡ true)))
      → ((u : ℕ) → member u gone ≡ true → any ≡ Some false) → Hands (TakesOne w) places_across
  hands_across some full = hands_taken (TakesOne w) (locations_of (place_at w)) (locations_of places_across)
      inductive.stands.hands t m (λ u. member u gone) (λ one. one_gone) any hand_across carries_across bare
      (λ u h. (waits_gone u h).free) some full

  -- ---------------------------------------------------------------- lines

  -- whether a waiter is taken or moved
  stands_c : (u : ℕ)
      → (location_at (places_across u) c).stands
      ≡ (if member u gone || member u moved then None else (location_at (place_at w u) c).stands)
  stands_c = by_thread (λ u p. (location_at p c).stands ≡ (if member u gone || member u moved then None
      else (location_at (place_at w u) c).stands))
      (ap (λ (y : Location). y.stands) now_c ∙ out ∙ sym (nothing (member t gone || member t moved)))
      (λ u nu h. ap (λ (y : Location). y.stands) (waits_gone u h).taken.left
      ∙ sym (ap (λ b. if b || member u moved then None else (location_at (place_at w u) c).stands) h))
      (λ u nu f h. ap (λ (y : Location). y.stands) (waits_moved u h).moved.left
      ∙ sym (λ i. if f i || h i then None else (location_at (place_at w u) c).stands))
      (λ u nu f h. sym (λ i. if f i || h i then None else (location_at (place_at w u) c).stands))
    where
      nothing : (b : Bool) → (if b then None else (location_at (place_at w t) c).stands) ≡ None
      nothing true = refl
      nothing false = out

  stands_m : (u : ℕ)
      → (location_at (places_across u) m).stands ≡ (if member u moved then Some Main
      else (location_at (place_at w u) m).stands)
  stands_m = by_thread (λ u p. (location_at p m).stands ≡ (if member u moved then Some Main
      else (location_at (place_at w u) m).stands))
      (ap (λ (y : Location). y.stands) now_m
      ∙ sym (ap (λ b. if b then Some Main else (location_at (place_at w t) m).stands)
      (t_stays (member t moved) refl)))
      (λ u nu h. ap (λ (y : Location). y.stands) (waits_gone u h).taken.came
      ∙ sym (ap (λ b. if b then Some Main else (location_at (place_at w u) m).stands) (gone_only u h)))
      (λ u nu f h. ap (λ (y : Location). y.stands) (waits_moved u h).moved.came
      ∙ sym (ap (λ b. if b then Some Main else (location_at (place_at w u) m).stands) h))
      (λ u nu f h. sym (ap (λ b. if b then Some Main else (location_at (place_at w u) m).stands) h))
    where
      t_stays : (b : Bool) → member t moved ≡ b → b ≡ false
      t_stays false e = refl
      t_stays true e = absurd (let a = in_line t (inr e) in let b = not_t in omega arith)

  left_times : (u : ℕ)
      → times u left ≡ stood_in (if member u gone || member u moved then None
      else (location_at (place_at w u) c).stands) Main
  left_times u = either (member u gone) (member u moved) refl refl
    where
      either : (a b : Bool) → member u gone ≡ a → member u moved ≡ b
          → times u left ≡ stood_in (if a || b then None else (location_at (place_at w u) c).stands) Main
      either true b e f = let a = counts u in let k = member_times u gone e in let d = at_most u
          in omega arith
      either false true e f = let a = counts u in let k = member_times u moved f in let d = at_most u
          in omega arith
      either false false e f = let a = counts u in let k = stranger_times u gone e in let d =
          stranger_times u moved f in let g : times u line ≡ stood_in (location_at (place_at w u) c).stands
          Main = inductive.stands.lines u c Main in omega arith

  second_left : (u : ℕ) → 0 ≡ stood_in (location_at (place_at w u) c).stands Second
      ⊎ (member u gone || member u moved) ≡ false
  second_left u = either (member u gone) (member u moved) refl refl
    where
      either : (a b : Bool) → member u gone ≡ a → member u moved ≡ b
          → 0 ≡ stood_in (location_at (place_at w u) c).stands Second ⊎ (a || b) ≡ false
      either true b e f = inl (sym (ap (λ o. stood_in o Second) (waits_gone u e).stands))
      either false true e f = inl (sym (ap (λ o. stood_in o Second) (waits_moved u f).stands))
      either false false e f = inr refl

  -- a thread that is moved stands there once
  moved_times : (u : ℕ)
      → times u (queue_at w (key_of m Main) ++ moved_under (key_of m Main) moved)
      ≡ stood_in (if member u moved then Some Main else (location_at (place_at w u) m).stands) Main
  moved_times u = times_both u (queue_at w (key_of m Main)) (moved_under (key_of m Main) moved)
      ∙ ap (λ n. times u (queue_at w (key_of m Main)) + n) (times_under u (key_of m Main) moved)
      ∙ either (member u moved) refl
    where
      either : (b : Bool) → member u moved ≡ b
          → times u (queue_at w (key_of m Main)) + times u moved
          ≡ stood_in (if b then Some Main else (location_at (place_at w u) m).stands) Main
      either true e = let a = counts u in let k = member_times u moved e in let d = at_most u
          in let f : times u (queue_at w (key_of m Main)) ≡ 0 = inductive.stands.lines u m Main
          ∙ ap (λ o. stood_in o Main) (waits_moved u e).out in omega arith
      either false e = let k = stranger_times u moved e in let f : times u (queue_at w (key_of m Main))
          ≡ stood_in (location_at (place_at w u) m).stands Main = inductive.stands.lines u m Main
          in omega arith

  module _ (queue : ℕ → List Waiter) (here : queue (key_of c Main) ≡ left)
      (beside : queue (key_of m Main) ≡ queue_at w (key_of m Main) ++ moved_under (key_of m Main) moved)
      (others : (key : ℕ) → key ≢ key_of c Main → key ≢ key_of m Main → queue key ≡ queue_at w key) where
    second_differs : (l : ℕ) → key_of l Second ≢ key_of l Main
    second_differs l = other_line l Main Second (λ e. cc)

    lines_across : Lines (locations_of places_across) queue
    lines_across u k n = elim (cases_eq k c) [
      | inl e ↦ rw e (at_c n)
      | inr nc ↦ elim (cases_eq k m) [
        | inl e ↦ rw e (at_m n)
        | inr nm ↦ ap (times u) (others (key_of k n) (other_key c k Main n nc) (other_key m k Main n nm))
            ∙ inductive.stands.lines u k n ∙ sym (ap (λ (y : Location). stood_in y.stands n)
            (alike_across k nc nm u).location)
      ]
    ]
      where
        at_c : (n : Line) → times u (queue (key_of c n)) ≡ stood_in (location_at (places_across u) c).stands n
        at_c Main = ap (times u) here ∙ left_times u ∙ sym (ap (λ o. stood_in o Main) (stands_c u))
        at_c Second = ap (times u) (others (key_of c Second) (second_differs c)
            (other_key m c Main Second (λ e. apart (sym e)))) ∙ inductive.stands.lines u c Second
            ∙ second (second_left u) ∙ sym (ap (λ o. stood_in o Second) (stands_c u))
          where
            second : (0 ≡ stood_in (location_at (place_at w u) c).stands Second)
                ⊎ ((member u gone || member u moved) ≡ false)
                → stood_in (location_at (place_at w u) c).stands Second
                ≡ stood_in (if member u gone || member u moved then None
                else (location_at (place_at w u) c).stands) Second
            second (inr e) = sym (ap (λ b. stood_in (if b then None
                else (location_at (place_at w u) c).stands) Second) e)
            second (inl e) = either (member u gone || member u moved)
              where
                either : (b : Bool)
                    → stood_in (location_at (place_at w u) c).stands Second
                    ≡ stood_in (if b then None else (location_at (place_at w u) c).stands) Second
                either true = sym e
                either false = refl

        at_m : (n : Line) → times u (queue (key_of m n)) ≡ stood_in (location_at (places_across u) m).stands n
        at_m Main = ap (times u) beside ∙ moved_times u ∙ sym (ap (λ o. stood_in o Main) (stands_m u))
        at_m Second = ap (times u) (others (key_of m Second) (other_key c m Main Second apart)
            (second_differs m)) ∙ inductive.stands.lines u m Second ∙ second (member u moved) refl
            ∙ sym (ap (λ o. stood_in o Second) (stands_m u))
          where
            second : (b : Bool) → member u moved ≡ b
                → stood_in (location_at (place_at w u) m).stands Second
                ≡ stood_in (if member u moved then Some Main else (location_at (place_at w u) m).stands)
                Second
            second true e = ap (λ o. stood_in o Second) (waits_moved u e).out
                ∙ sym (ap (λ b. stood_in (if b then Some Main else (location_at (place_at w u) m).stands)
                Second) e)
            second false e = sym (ap (λ b. stood_in (if b then Some Main
                else (location_at (place_at w u) m).stands) Second) e)

    -- a thread that was neither waits as before
    waits_c : (u : ℕ) → (member u gone || member u moved) ≡ false
        → (location_at (places_across u) c).waits ≡ (location_at (place_at w u) c).waits
    waits_c = by_thread (λ u p. (member u gone || member u moved) ≡ false → (location_at p c).waits
        ≡ (location_at (place_at w u) c).waits)
        (λ h. ap (λ (y : Location). y.waits) now_c)
        (λ u nu g h. absurd (let a : true ≡ false = sym (ap (λ b. b || member u moved) g) ∙ h in cc))
        (λ u nu f g h. absurd (let a : true ≡ false = sym ((λ i. f i || g i)) ∙ h in cc))
        (λ u nu f g h. refl)

    waits_m : (u : ℕ) → member u moved ≡ false → (location_at (places_across u) m).waits
        ≡ (location_at (place_at w u) m).waits
    waits_m = by_thread (λ u p. member u moved ≡ false → (location_at p m).waits
        ≡ (location_at (place_at w u) m).waits)
        (λ h. ap (λ (y : Location). y.waits) now_m)
        (λ u nu g h. ap (λ (y : Location). y.waits) (waits_gone u g).taken.came)
        (λ u nu f g h. absurd (let a : true ≡ false = sym g ∙ h in cc))
        (λ u nu f g h. refl)

    waits_now : (u : ℕ) → member u moved ≡ true → (location_at (places_across u) m).waits ≡ Some Exclusive
    waits_now = by_thread (λ u p. member u moved ≡ true → (location_at p m).waits ≡ Some Exclusive)
        (λ h. absurd (let a = in_line t (inr h) in let b = not_t in omega arith))
        (λ u nu g h. absurd (let a : true ≡ false = sym h ∙ gone_only u g in cc))
        (λ u nu f g h. ap (λ (y : Location). y.waits) (waits_moved u g).moved.came)
        (λ u nu f g h. absurd (let a : true ≡ false = sym h ∙ g in cc))

    -- a thread that stands at m before isn't moved there
    not_moved : (u : ℕ) (n : Line) → 1 ≤ times u (queue_at w (key_of m n)) → member u moved ≡ false
    not_moved u n h = either (member u moved) refl
      where
        either : (b : Bool) → member u moved ≡ b → b ≡ false
        either false e = refl
        either true e = absurd (let a : times u (queue_at w (key_of m n)) ≡ 0 = inductive.stands.lines u m n
            ∙ ap (λ o. stood_in o n) (waits_moved u e).out in omega arith)

    stays_left : (u : ℕ) → 1 ≤ times u left → (member u gone || member u moved) ≡ false
    stays_left u h = either (member u gone || member u moved) refl
      where
        either : (b : Bool) → (member u gone || member u moved) ≡ b → b ≡ false
        either false e = refl
        either true e = absurd (let a : times u left ≡ 0 = left_times u
            ∙ ap (λ b. stood_in (if b then None else (location_at (place_at w u) c).stands) Main) e
            in omega arith)

    stays_second : (u : ℕ) → 1 ≤ times u (queue_at w (key_of c Second)) → (member u gone || member u moved)
        ≡ false
    stays_second u h = by (second_left u)
      where
        by : (0 ≡ stood_in (location_at (place_at w u) c).stands Second)
            ⊎ ((member u gone || member u moved) ≡ false)
            → (member u gone || member u moved) ≡ false
        by (inr e) = e
        by (inl e) = absurd (let a : times u (queue_at w (key_of c Second))
            ≡ stood_in (location_at (place_at w u) c).stands Second = inductive.stands.lines u c Second
            in omega arith)

    waits_across : AllAreWaiting (locations_of places_across) queue
    waits_across k n = elim (cases_eq k c) [
      | inl e ↦ rw e (at_c n)
      | inr nc ↦ elim (cases_eq k m) [
        | inl e ↦ rw e (at_m n)
        | inr nm ↦ waiting_same (locations_of (place_at w)) (locations_of places_across) k n
            (queue (key_of k n)) (subst (AreWaiting (locations_of (place_at w)) k n)
            (sym (others (key_of k n) (other_key c k Main n nc) (other_key m k Main n nm)))
            (inductive.stands.waits k n)) (λ u g. ap (λ (y : Location). y.waits)
            (alike_across k nc nm u).location)
      ]
    ]
      where
        at_c : (n : Line) → AreWaiting (locations_of places_across) c n (queue (key_of c n))
        at_c Main = rw here (waiting_same (locations_of (place_at w)) (locations_of places_across) c Main left
            lefts (λ u g. waits_c u (stays_left u g)))
        at_c Second = let same_line_there = others (key_of c Second) (second_differs c)
            (other_key m c Main Second (λ e. apart (sym e))) in
            rw same_line_there (waiting_same (locations_of (place_at w)) (locations_of places_across) c Second
            (queue_at w (key_of c Second)) (inductive.stands.waits c Second)
            (λ u g. waits_c u (stays_second u g)))

        at_m : (n : Line) → AreWaiting (locations_of places_across) m n (queue (key_of m n))
        at_m Main = rw beside (waiting_both (locations_of places_across) m Main (queue_at w (key_of m Main))
            (moved_under (key_of m Main) moved)
            (waiting_same (locations_of (place_at w)) (locations_of places_across) m Main
            (queue_at w (key_of m Main)) (inductive.stands.waits m Main)
            (λ u g. waits_m u (not_moved u Main g))) (waiting_under (locations_of places_across) m moved
            waits_now))
        at_m Second = let same_line_there = others (key_of m Second) (other_key c m Main Second apart)
            (second_differs m) in
            rw same_line_there (waiting_same (locations_of (place_at w)) (locations_of places_across) m Second
            (queue_at w (key_of m Second)) (inductive.stands.waits m Second)
            (λ u g. waits_m u (not_moved u Second g)))

    -- the machine has all of them where their places say
    pub there_across : ((b : Bool) → any ≡ Some b → (b ≡ false) × ((u : ℕ) × (member u gone ≡ true)))
        → ((u : ℕ) → member u gone ≡ true → any ≡ Some false)
        → AreThere (TakesOne w) (locations_of places_across) (section_at w) queue
    there_across some full = record {
      sections = sections_across;
      lines = lines_across;
      waits = waits_across;
      hands = hands_across some full;
    }
