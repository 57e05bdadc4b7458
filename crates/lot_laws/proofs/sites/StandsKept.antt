-- How the sections, the lines and the hands of the machine are kept, by the stations of threads. No place is
-- named.
use Rattle.lot_laws.proofs.Imports
use Imports.{ℕ, Bool, true, false, Option, Some, None, if◌then◌else◌, ◌==◌, ◌&&◌, ◌≡◌, ◌≢◌, ◌≤◌, ◌↔◌, ◌⊎◌, List}
use Imports.{[], ◌∷◌, ◌++◌, cond, not, inl, inr, refl, sym, ◌∙◌, ap, subst, arith, cases_eq, eqb-true, Waiter}
use Imports.{times, without, is_plain_mutex, Place, Idle, Mutex, RwLock, Once, Condvar, Semaphore, putting}
use Imports.{rules_of, Admits, Line, Main, Second, State, kind_at, is_mutex, taken_at, role_on, location_at}
use Imports.{Sections, Lines, AllAreWaiting, AreWaiting, HandsBy, FitsItsLock, key_of, stood_in}
use Rattle.lot_laws.specs.Locations.{Hand, Location, hand}
use Rattle.lot_laws.proofs.machine.Parts.{IsOf, put_here, put_other, same, location_elsewhere, role_elsewhere}
use Rattle.lot_laws.proofs.machine.Parts.{taken_elsewhere}

pub both : (a b : Bool) → (a && b) ≡ true → (a ≡ true) × (b ≡ true)
both true b h = (refl, h)
both false b h = absurd cc

both_true : {a b : Bool} → a ≡ true → b ≡ true → (a && b) ≡ true
both_true e f = λ i. e i && f i

-- ---------------------------------------------------------------- places, at each lock

-- one lock sees of a place what it sees of another
pub record Alike (k : ℕ) (p p2 : Place) : Type 0 where
  pub location : location_at p2 k ≡ location_at p k
  pub role : role_on p2 k ≡ role_on p k
  pub taken : taken_at p2 k ≡ taken_at p k

-- each lock but this one sees the same of both
abbrev pub AlikeBeside : ℕ → Place → Place → Type 0
AlikeBeside l p p2 = (k : ℕ) → k ≢ l → Alike k p p2

-- as of places in calls of this lock alone
pub own_alike : (l : ℕ) (p p2 : Place) → IsOf l p → IsOf l p2 → AlikeBeside l p p2
own_alike l p p2 h h2 k ne = record {
  location = location_elsewhere l k p2 h2 ne ∙ sym (location_elsewhere l k p h ne);
  role = role_elsewhere l k p2 h2 ne ∙ sym (role_elsewhere l k p h ne);
  taken = taken_elsewhere l k p2 h2 ne ∙ sym (taken_elsewhere l k p h ne);
}

-- a part of a station, where one thread goes elsewhere
module _ {A : Type 0} (g : Location → A) (l : ℕ) where
  -- for each other thread that is looked at
  pub part_else : (p : ℕ → Place) (t : ℕ) (p2 : Place) → AlikeBeside l (p t) p2 → (u k : ℕ)
      → (u ≡ t → k ≡ l → ⊥)
      → g (location_at (putting p t p2 u) k) ≡ g (location_at (p u) k)
  part_else p t p2 alike u k ne = elim (cases_eq u t) [
    | inl e ↦ rw (e, put_here p t p2) (ap g (alike k (ne e)).location)
    | inr nu ↦ rw (put_other p t p2 u nu) refl
  ]

-- ---------------------------------------------------------------- sections

pub same_line : (n m : Line) → (n ≡ m) ⊎ (n ≢ m)
same_line Main Main = inl refl
same_line Second Second = inl refl
same_line Main Second = inr (λ e. cc)
same_line Second Main = inr (λ e. cc)

pub other_key : (l k : ℕ) (m n : Line) → k ≢ l → key_of k n ≢ key_of l m
other_key l k Main Main ne e = ne (omega arith)
other_key l k Main Second ne e = omega arith
other_key l k Second Main ne e = omega arith
other_key l k Second Second ne e = ne (omega arith)

pub other_line : (l : ℕ) (m n : Line) → n ≢ m → key_of l n ≢ key_of l m
other_line l Main Main ne e = ne refl
other_line l Main Second ne e = omega arith
other_line l Second Main ne e = omega arith
other_line l Second Second ne e = ne refl

pub sections_same : (p q : ℕ → ℕ → Location) (section : ℕ → Option ℕ) → Sections p section
    → ((u k : ℕ) → (q u k).inside ≡ (p u k).inside) → Sections q section
sections_same p q section s e t l m = (λ h. (s t l m).0 (sym (e t l) ∙ h), λ h. e t l ∙ (s t l m).1 h)

module _ (p q : ℕ → ℕ → Location) (section after : ℕ → Option ℕ) (s : Sections p section) (t l : ℕ) (m : Line)
    (others : (u k : ℕ) → (u ≡ t → k ≡ l → ⊥) → (q u k).inside ≡ (p u k).inside)
    (elsewhere : (key : ℕ) → key ≢ key_of l m → after key ≡ section key) where
  stays : (u k : ℕ) (n : Line) → (u ≡ t → k ≡ l → ⊥) → key_of k n ≢ key_of l m
      → (q u k).inside ≡ Some n ↔ after (key_of k n) ≡ Some u
  stays u k n ne nk = (
    λ h. elsewhere (key_of k n) nk ∙ (s u k n).0 (sym (others u k ne) ∙ h),
    λ h. others u k ne ∙ (s u k n).1 (sym (elsewhere (key_of k n) nk) ∙ h),
  )

  -- each thread that is inside the section of the line after it
  by_line : ((n : Line) → (q t l).inside ≡ Some n ↔ after (key_of l n) ≡ Some t)
      → ((u : ℕ) → u ≢ t → (p u l).inside ≢ Some m)
      → ((u : ℕ) → after (key_of l m) ≡ Some u → u ≡ t) → Sections q after
  by_line own alone only u k n = elim (cases_eq k l) [
    | inl e ↦ elim (cases_eq u t) [
      | inl f ↦ rw (e, f) (own n)
      | inr ne ↦ rw e (elim (same_line n m) [
        | inl g ↦ rw g (
          λ h. absurd (alone u ne (sym (others u l (λ f j. ne f)) ∙ h)),
          λ h. absurd
              (ne (only u h)),
        )
        | inr ng ↦ stays u l n (λ f g. ne f) (other_line l m n ng)
      ])
    ]
    | inr ne ↦ stays u k n (λ f g. ne g) (other_key l k m n ne)
  ]

  was_other : (n : Line) → n ≢ m → after (key_of l n) ≡ Some t → (p t l).inside ≡ Some n
  was_other n ne h = (s t l n).1 (sym (elsewhere (key_of l n) (other_line l m n ne)) ∙ h)

  -- t enters a free one
  pub entered : section (key_of l m) ≡ None → (p t l).inside ≡ None → (q t l).inside ≡ Some m
      → after (key_of l m) ≡ Some t
      → Sections q after
  entered free out within held = by_line own
      (λ u ne h. let a : section (key_of l m) ≡ Some u = (s u l m).0 h in let b : ◌≡◌ {A = Option ℕ} None
      (Some u) = sym free ∙ a in cc)
      (λ u h. let a : Some t ≡ Some u = sym held ∙ h in cc)
    where
      own : (n : Line) → (q t l).inside ≡ Some n ↔ after (key_of l n) ≡ Some t
      own n = elim (same_line n m) [
        | inl e ↦ rw e (λ h. held, λ h. within)
        | inr ne ↦ (
          λ h. absurd (ne (let a : Some m ≡ Some n = sym within ∙ h in cc)),
          λ h. absurd (let a : (p t l).inside ≡ Some n = was_other n ne h in let b : ◌≡◌ {A = Option Line}
              None (Some n) = sym out ∙ a in cc),
        )
      ]

  -- t leaves its own
  pub left : (p t l).inside ≡ Some m → (q t l).inside ≡ None → after (key_of l m) ≡ None → Sections q after
  left within out free = by_line own
      (λ u ne h. ne (let a : section (key_of l m) ≡ Some u = (s u l m).0 h in let b : section (key_of l m)
      ≡ Some t = (s t l m).0 within in let c : Some u ≡ Some t = sym a ∙ b in cc))
      (λ u h. absurd (let a : None ≡ Some u = sym free ∙ h in cc))
    where
      own : (n : Line) → (q t l).inside ≡ Some n ↔ after (key_of l n) ≡ Some t
      own n = elim (same_line n m) [
        | inl e ↦ rw e (
          λ h. absurd (let a : ◌≡◌ {A = Option Line} None (Some m) = sym out ∙ h in cc),
          λ h. absurd (let a : None ≡ Some t = sym free ∙ h in cc),
        )
        | inr ne ↦ (
          λ h. absurd (let a : ◌≡◌ {A = Option Line} None (Some n) = sym out ∙ h in cc),
          λ h. absurd (ne (let a : (p t l).inside ≡ Some n = was_other n ne h in let b : Some m ≡ Some n =
              sym within ∙ a in cc)),
        )
      ]

-- ---------------------------------------------------------------- lines

pub in_main : (o : Option Line) → 1 ≤ stood_in o Main → o ≡ Some Main
in_main (Some Main) h = refl
in_main (Some Second) h = absurd (omega arith)
in_main None h = absurd (omega arith)

pub lines_same : (p q : ℕ → ℕ → Location) (queue after : ℕ → List Waiter) → Lines p queue
    → ((u k : ℕ) → (q u k).stands ≡ (p u k).stands) → ((key : ℕ) → after key ≡ queue key) → Lines q after
lines_same p q queue after s e same t l m = ap (times t) (same (key_of l m)) ∙ s t l m
    ∙ ap (λ x. stood_in x m) (sym (e t l))

-- one thread comes into a line, or goes out of it
pub line_moved : (p q : ℕ → ℕ → Location) (queue after : ℕ → List Waiter) → Lines p queue
    → (t l : ℕ) (m : Line)
    → ((u k : ℕ) → (u ≡ t → k ≡ l → ⊥) → (q u k).stands ≡ (p u k).stands)
    → ((key : ℕ) → key ≢ key_of l m → after key ≡ queue key)
    → ((u : ℕ) → u ≢ t → times u (after (key_of l m)) ≡ times u (queue (key_of l m)))
    → ((n : Line) → times t (after (key_of l n)) ≡ stood_in (q t l).stands n) → Lines q after
line_moved p q queue after s t l m others elsewhere counts own u k n = elim (cases_eq k l) [
  | inl e ↦ elim (cases_eq u t) [
    | inl f ↦ rw (e, f) (own n)
    | inr ne ↦ rw e (at_line ne (same_line n m))
  ]
  | inr ne ↦ ap (times u) (elsewhere (key_of k n) (other_key l k m n ne)) ∙ s u k n
      ∙ ap (λ x. stood_in x n) (sym (others u k (λ f g. ne g)))
]
  where
    at_line : u ≢ t → ((n ≡ m) ⊎ (n ≢ m)) → times u (after (key_of l n)) ≡ stood_in (q u l).stands n
    at_line ne (inl e) = ap (λ x. times u (after (key_of l x))) e ∙ counts u ne
        ∙ ap (λ x. times u (queue (key_of l x))) (sym e) ∙ s u l n
        ∙ ap (λ x. stood_in x n) (sym (others u l (λ f g. ne f)))
    at_line ne (inr nn) = ap (times u) (elsewhere (key_of l n) (other_line l m n nn)) ∙ s u l n
        ∙ ap (λ x. stood_in x n) (sym (others u l (λ f g. ne f)))

-- a thread that stands there waits for the same
pub waiting_same : (p q : ℕ → ℕ → Location) (l : ℕ) (m : Line) (xs : List Waiter) → AreWaiting p l m xs
    → ((u : ℕ) → 1 ≤ times u xs → (q u l).waits ≡ (p u l).waits) → AreWaiting q l m xs
waiting_same p q l m [] h e = tt
waiting_same p q l m (x ∷ xs) h e = (
  (h.0.0, e x.thread here ∙ h.0.1),
  waiting_same p q l m xs h.1
      (λ u g. e u (more u g)),
)
  where
    here : 1 ≤ times x.thread (x ∷ xs)
    here = let c : ◌≡◌ {A = ℕ} (if x.thread == x.thread then 1 else 0) 1 =
        ap (λ (b : Bool). if b then 1 else 0) (same x.thread) in omega arith

    more : (u : ℕ) → 1 ≤ times u xs → 1 ≤ times u (x ∷ xs)
    more u g = omega arith

pub waiting_after : (q : ℕ → ℕ → Location) (l : ℕ) (m : Line) (xs : List Waiter) (x : Waiter)
    → AreWaiting q l m xs
    → (x.key ≡ key_of l m) × ((q x.thread l).waits ≡ Some x.want) → AreWaiting q l m (xs ++ x ∷ [])
waiting_after q l m [] x h k = (k, tt)
waiting_after q l m (y ∷ xs) x h k = (h.0, waiting_after q l m xs x h.1 k)

pub waiting_without : (q : ℕ → ℕ → Location) (l : ℕ) (m : Line) (t : ℕ) (xs : List Waiter)
    → AreWaiting q l m xs
    → AreWaiting q l m (without t xs)
waiting_without q l m t [] h = tt
waiting_without q l m t (y ∷ xs) h = either (not (y.thread == t)) (waiting_without q l m t xs h.1)
  where
    either : (b : Bool) → AreWaiting q l m (without t xs)
        → AreWaiting q l m (cond b (y ∷ without t xs) (without t xs))
    either true k = (h.0, k)
    either false k = k

pub waits_same : (p q : ℕ → ℕ → Location) (queue after : ℕ → List Waiter) → AllAreWaiting p queue
    → ((u k : ℕ) → (q u k).waits ≡ (p u k).waits) → ((key : ℕ) → after key ≡ queue key)
    → AllAreWaiting q after
waits_same p q queue after h e lines l m = waiting_same p q l m (after (key_of l m))
    (subst (AreWaiting p l m) (sym (lines (key_of l m))) (h l m)) (λ u g. e u l)

-- ---------------------------------------------------------------- hands

pub hands_same : {one : ℕ → Type 0} (p q : ℕ → ℕ → Location) → HandsBy one p
    → ((u k : ℕ) → (q u k).has_taken ≡ (p u k).has_taken)
    → ((u k : ℕ) → (q u k).hand ≡ (p u k).hand) → HandsBy one q
hands_same p q h c n = record {
  carried = λ t l b e. let one = h.carried t l b (sym (c t l) ∙ e) in (one.0, n one.0 l ∙ one.1);
  alone = λ t l u v b d o e f. h.alone t l u v b d o (sym (n u l) ∙ e) (sym (n v l) ∙ f);
  taken = λ t u l b e. c t l ∙ h.taken t u l b (sym (n u l) ∙ e);
}

-- many are taken, or let go: the threads that `has` tells
module _ (one : ℕ → Type 0) (p q : ℕ → ℕ → Location) (hands : HandsBy one p) (t l : ℕ) (has : ℕ → Bool) where
  -- whether it is one of them, at the lock
  abbrev meant : ℕ → ℕ → Bool
  meant u k = has u && (k == l)

  -- whether it is the thread that takes them, at the lock
  abbrev taking : ℕ → ℕ → Bool
  taking i k = (i == t) && (k == l)

  meant_is : (u k : ℕ) → meant u k ≡ true → (has u ≡ true) × (k ≡ l)
  meant_is u k e = let parts = both (has u) (k == l) e in (parts.0, eqb-true k l parts.1)

  taking_is : (i k : ℕ) → taking i k ≡ true → (i ≡ t) × (k ≡ l)
  taking_is i k e = let parts = both (i == t) (k == l) e in (eqb-true i t parts.0, eqb-true k l parts.1)

  taking_here : (i k : ℕ) → t ≡ i → k ≡ l → taking i k ≡ true
  taking_here i k e f = rw (sym e, f) (both_true (same t) (same l))

  meant_here : (u k : ℕ) → has u ≡ true → k ≡ l → meant u k ≡ true
  meant_here u k h f = rw f (both_true h (same l))

  -- t has taken them, which were in nobody's hand, and no more than one where it takes one at a time
  module _ (single : one l → (u v : ℕ) → has u ≡ true → has v ≡ true → u ≡ v) (c : Option Bool)
      (in_hand : (u k : ℕ) → (q u k).hand ≡ (if meant u k then hand t false else (p u k).hand))
      (has_taken : (i k : ℕ) → (q i k).has_taken ≡ (if taking i k then c else (p i k).has_taken))
      (bare : (p t l).has_taken ≡ None) (free : (u : ℕ) → has u ≡ true → (p u l).hand ≡ None) (some : (b : Bool)
      → c ≡ Some b → (b ≡ false) × ((u : ℕ) × (has u ≡ true))) (full : (u : ℕ) → has u ≡ true
      → c ≡ Some false) where
    taken_then_many : (i u k : ℕ) (b : Bool) → (q u k).hand ≡ hand i b → (q i k).has_taken ≡ Some b
    taken_then_many i u k b h = by_meant (meant u k) refl (sym (in_hand u k) ∙ h)
      where
        by_taking : (x : Bool) → taking i k ≡ x → (p u k).hand ≡ hand i b → (q i k).has_taken ≡ Some b
        by_taking true e g = absurd (let at_l = taking_is i k e in let was : (p i k).has_taken ≡ Some b =
            hands.taken i u k b g in let none : (p i k).has_taken ≡ None = rw (at_l.0, at_l.1) bare
            in let f : ◌≡◌ {A = Option Bool} None (Some b) = sym none ∙ was in cc)
        by_taking false e g = has_taken i k ∙ ap (λ x. if x then c else (p i k).has_taken) e
            ∙ hands.taken i u k b g

        by_meant : (x : Bool) → meant u k ≡ x → (if x then hand t false else (p u k).hand) ≡ hand i b
            → (q i k).has_taken ≡ Some b
        by_meant true e g = let at_l = meant_is u k e in let who : t ≡ i = cc in let which : false ≡ b = cc in
            let mine : taking i k ≡ true = taking_here i k who at_l.1 in
            has_taken i k ∙ ap (λ x. if x then c else (p i k).has_taken) mine ∙ full u at_l.0 ∙ ap Some which
        by_meant false e g = by_taking (taking i k) refl g

    carried_then_many : (i k : ℕ) (b : Bool) → (q i k).has_taken ≡ Some b → (u : ℕ) × ((q u k).hand ≡ hand i b)
    carried_then_many i k b h = by_taking (taking i k) refl (sym (has_taken i k) ∙ h)
      where
        by_taking : (x : Bool) → taking i k ≡ x → (if x then c else (p i k).has_taken) ≡ Some b
            → (u : ℕ) × ((q u k).hand ≡ hand i b)
        by_taking true e g = let at_l = taking_is i k e in let s = some b g in (
          s.1.0,
          in_hand s.1.0 k ∙ ap (λ x. if x then hand t false else (p s.1.0 k).hand)
              (meant_here s.1.0 k s.1.1 at_l.1) ∙ (λ j. hand (sym at_l.0 j) (sym s.0 j)),
        )
        by_taking false e g = let u = hands.carried i k b g in (
          u.0,
          in_hand u.0 k ∙ ap (λ x. if x then hand t false else (p u.0 k).hand) (not_meant u.0 u.1)
              ∙ u.1,
        )
          where
            not_meant : (u : ℕ) → (p u k).hand ≡ hand i b → meant u k ≡ false
            not_meant u held = either (meant u k) refl
              where
                either : (x : Bool) → meant u k ≡ x → x ≡ false
                either false f = refl
                either true f = absurd (let at_l = meant_is u k f in let none : (p u k).hand ≡ None =
                    rw at_l.1 (free u at_l.0) in let g : ◌≡◌ {A = Option Hand} None (hand i b) = sym none
                    ∙ held in cc)

    -- a thread that was in no hand of t at the lock isn't in one now but by this
    not_before : (k : ℕ) (d : Bool) (v : ℕ) → k ≡ l → (p v k).hand ≡ hand t d → ⊥
    not_before k d v e held = let was : (p t k).has_taken ≡ Some d = hands.taken t v k d held
        in let none : (p t k).has_taken ≡ None = rw e bare in let f : ◌≡◌ {A = Option Bool} None (Some d) =
        sym none ∙ was in cc

    alone_then_many : (i k u j : ℕ) (b d : Bool) → one k → (q u k).hand ≡ hand i b → (q j k).hand ≡ hand i d
        → j ≡ u
    alone_then_many i k u j b d o h g = by_meant (meant u k) (meant j k) refl refl (sym (in_hand u k) ∙ h)
        (sym (in_hand j k) ∙ g)
      where
        by_meant : (x y : Bool) → meant u k ≡ x → meant j k ≡ y → (if x then hand t false else (p u k).hand)
            ≡ hand i b
            → (if y then hand t false else (p j k).hand) ≡ hand i d → j ≡ u
        by_meant true true e f h g = let at_u = meant_is u k e in single (subst one at_u.1 o) j u
            (meant_is j k f).0 at_u.0
        by_meant true false e f h g = let who : t ≡ i = cc
            in absurd (not_before k d j (meant_is u k e).1 (subst (λ n. (p j k).hand ≡ hand n d) (sym who) g))
        by_meant false true e f h g = let who : t ≡ i = cc
            in absurd (not_before k b u (meant_is j k f).1 (subst (λ n. (p u k).hand ≡ hand n b) (sym who) h))
        by_meant false false e f h g = hands.alone i k u j b d o h g

    pub hands_taken : HandsBy one q
    hands_taken = record { carried = carried_then_many; alone = alone_then_many; taken = taken_then_many }

  -- t lets go each thread that it has in hand
  module _ (in_hand : (u k : ℕ) → (q u k).hand ≡ (if meant u k then None else (p u k).hand))
      (has_taken : (i k : ℕ) → (q i k).has_taken ≡ (if taking i k then None else (p i k).has_taken))
      (mine : (u : ℕ) → has u ≡ true → (b : Bool) × ((p u l).hand ≡ hand t b)) (all : (u : ℕ) (b : Bool)
      → (p u l).hand ≡ hand t b → has u ≡ true) where
    -- a thread that is in a hand after it was so before
    was_held : (i u k : ℕ) (b : Bool) → (q u k).hand ≡ hand i b → (p u k).hand ≡ hand i b
    was_held i u k b h = either (meant u k) (sym (in_hand u k) ∙ h)
      where
        either : (x : Bool) → (if x then None else (p u k).hand) ≡ hand i b → (p u k).hand ≡ hand i b
        either true g = absurd cc
        either false g = g

    taken_then_free : (i u k : ℕ) (b : Bool) → (q u k).hand ≡ hand i b → (q i k).has_taken ≡ Some b
    taken_then_free i u k b h = by_taking (taking i k) refl
      where
        held : (p u k).hand ≡ hand i b
        held = was_held i u k b h

        by_taking : (x : Bool) → taking i k ≡ x → (q i k).has_taken ≡ Some b
        by_taking false e = has_taken i k ∙ ap (λ x. if x then None else (p i k).has_taken) e
            ∙ hands.taken i u k b held
        by_taking true e = absurd (let at_l = taking_is i k e in
            let one_of : has u ≡ true = all u b (subst (λ j. (p u l).hand ≡ hand j b) at_l.0
            (subst (λ j. (p u j).hand ≡ hand i b) at_l.1 held)) in
            let gone : (q u k).hand ≡ None = in_hand u k ∙ ap (λ x. if x then None else (p u k).hand)
            (meant_here u k one_of at_l.1) in
            let f : ◌≡◌ {A = Option Hand} None (hand i b) = sym gone ∙ h in cc)

    carried_then_free : (i k : ℕ) (b : Bool) → (q i k).has_taken ≡ Some b → (u : ℕ) × ((q u k).hand ≡ hand i b)
    carried_then_free i k b h = by_taking (taking i k) refl (sym (has_taken i k) ∙ h)
      where
        stays_held : (u : ℕ) → taking i k ≡ false → (p u k).hand ≡ hand i b → (x : Bool) → meant u k ≡ x
            → (if x then None else (p u k).hand) ≡ hand i b
        stays_held u e held false f = held
        stays_held u e held true f = absurd (let at_l = meant_is u k f in let m = mine u at_l.0 in
            let both_hands : hand t m.0 ≡ hand i b = sym m.1 ∙ subst (λ j. (p u j).hand ≡ hand i b) at_l.1
            held in let who : t ≡ i = cc in
            let yes : taking i k ≡ true = taking_here i k who at_l.1 in let g : true ≡ false = sym yes ∙ e
            in cc)

        by_taking : (x : Bool) → taking i k ≡ x → (if x then None else (p i k).has_taken) ≡ Some b
            → (u : ℕ) × ((q u k).hand ≡ hand i b)
        by_taking true e g = absurd cc
        by_taking false e g = let u = hands.carried i k b g
            in (u.0, in_hand u.0 k ∙ stays_held u.0 e u.1 (meant u.0 k) refl)

    pub hands_freed : HandsBy one q
    hands_freed = record {
      carried = carried_then_free;
      alone = λ i k u j b d o h g. hands.alone i k u j b d o (was_held i u k b h) (was_held i j k d g);
      taken = taken_then_free;
    }

  -- t has handed the lock over to each thread that it has in hand
  module _ (c : Option Bool) (in_hand : (u k : ℕ) → (q u k).hand ≡ (if meant u k then hand t true
      else (p u k).hand))
      (has_taken : (i k : ℕ) → (q i k).has_taken ≡ (if taking i k then c else (p i k).has_taken))
      (mine : (u : ℕ) → has u ≡ true → (b : Bool) × ((p u l).hand ≡ hand t b)) (all : (u : ℕ) (b : Bool)
      → (p u l).hand ≡ hand t b → has u ≡ true) (some : (b : Bool) → c ≡ Some b → (b ≡ true)
      × ((u : ℕ) × (has u ≡ true))) (full : (u : ℕ) → has u ≡ true → c ≡ Some true) where
    -- a thread that is in a hand after it was so before
    held_before : (i u k : ℕ) (b : Bool) → (q u k).hand ≡ hand i b → (d : Bool) × ((p u k).hand ≡ hand i d)
    held_before i u k b h = by_meant (meant u k) refl (sym (in_hand u k) ∙ h)
      where
        by_meant : (x : Bool) → meant u k ≡ x → (if x then hand t true else (p u k).hand) ≡ hand i b
            → (d : Bool) × ((p u k).hand ≡ hand i d)
        by_meant true e g = let at_l = meant_is u k e in let who : t ≡ i = cc in let m = mine u at_l.0
            in (
              m.0,
              subst (λ j. (p u j).hand ≡ hand i m.0) (sym at_l.1)
                  (subst (λ j. (p u l).hand ≡ hand j m.0) who m.1),
            )
        by_meant false e g = (b, g)

    taken_then_given : (i u k : ℕ) (b : Bool) → (q u k).hand ≡ hand i b → (q i k).has_taken ≡ Some b
    taken_then_given i u k b h = by_meant (meant u k) refl (sym (in_hand u k) ∙ h)
      where
        by_taking : (x : Bool) → taking i k ≡ x → meant u k ≡ false → (p u k).hand ≡ hand i b
            → (q i k).has_taken ≡ Some b
        by_taking true e f g = absurd (let at_l = taking_is i k e in
            let one_of : has u ≡ true = all u b (subst (λ j. (p u l).hand ≡ hand j b) at_l.0
            (subst (λ j. (p u j).hand ≡ hand i b) at_l.1 g)) in
            let yes : meant u k ≡ true = meant_here u k one_of at_l.1 in let no_more : true ≡ false = sym yes
            ∙ f in cc)
        by_taking false e f g = has_taken i k ∙ ap (λ x. if x then c else (p i k).has_taken) e
            ∙ hands.taken i u k b g

        by_meant : (x : Bool) → meant u k ≡ x → (if x then hand t true else (p u k).hand) ≡ hand i b
            → (q i k).has_taken ≡ Some b
        by_meant true e g = let at_l = meant_is u k e in let who : t ≡ i = cc in let which : true ≡ b = cc in
            has_taken i k ∙ ap (λ x. if x then c else (p i k).has_taken) (taking_here i k who at_l.1)
            ∙ full u at_l.0 ∙ ap Some which
        by_meant false e g = by_taking (taking i k) refl e g

    carried_then_given : (i k : ℕ) (b : Bool) → (q i k).has_taken ≡ Some b → (u : ℕ) × ((q u k).hand ≡ hand i b)
    carried_then_given i k b h = by_taking (taking i k) refl (sym (has_taken i k) ∙ h)
      where
        stays_held : (u : ℕ) → taking i k ≡ false → (p u k).hand ≡ hand i b → (x : Bool) → meant u k ≡ x
            → (if x then hand t true else (p u k).hand) ≡ hand i b
        stays_held u e held false f = held
        stays_held u e held true f = absurd (let at_l = meant_is u k f in let m = mine u at_l.0 in
            let both_hands : hand t m.0 ≡ hand i b = sym m.1 ∙ subst (λ j. (p u j).hand ≡ hand i b) at_l.1
            held in let who : t ≡ i = cc in
            let yes : taking i k ≡ true = taking_here i k who at_l.1 in let g : true ≡ false = sym yes ∙ e
            in cc)

        by_taking : (x : Bool) → taking i k ≡ x → (if x then c else (p i k).has_taken) ≡ Some b
            → (u : ℕ) × ((q u k).hand ≡ hand i b)
        by_taking true e g = let at_l = taking_is i k e in let s = some b g in (
          s.1.0,
          in_hand s.1.0 k ∙ ap (λ x. if x then hand t true else (p s.1.0 k).hand)
              (meant_here s.1.0 k s.1.1 at_l.1) ∙ (λ j. hand (sym at_l.0 j) (sym s.0 j)),
        )
        by_taking false e g = let u = hands.carried i k b g
            in (u.0, in_hand u.0 k ∙ stays_held u.0 e u.1 (meant u.0 k) refl)

    pub hands_given : HandsBy one q
    hands_given = record {
      carried = carried_then_given;
      alone = λ i k u j b d o h g. let x = held_before i u k b h in let y = held_before i j k d g
          in hands.alone i k u j x.0 y.0 o x.1 y.1;
      taken = taken_then_given;
    }

-- ---------------------------------------------------------------- calls

pub calls_in : (w v : State) (p : Place) → ((k : ℕ) → kind_at v k ≡ kind_at w k) → FitsItsLock w p
    → FitsItsLock v p
calls_in w v Idle e h = tt
calls_in w v (Once l at) e h = ap (λ k. (rules_of k).sort) (e l) ∙ h
calls_in w v (Semaphore l at) e h = (ap (λ k. (rules_of k).sort) (e l) ∙ h.0, h.1)
calls_in w v (Condvar l at) e h = record {
  sort = ap (λ k. (rules_of k).sort) (e l) ∙ h.sort;
  reached = h.reached;
  mutex = λ m is. ap is_plain_mutex (e m) ∙ h.mutex m is;
}
calls_in w v (Mutex l at) e h = ap is_mutex (e l) ∙ h
calls_in w v (RwLock l a c) e h = (subst (λ k. Admits (rules_of k) a) (sym (e l)) h.0, h.1)
