-- A step whose deeds are allowed leaves every lock a site, and its word says so.
use Rattle.lot_laws.proofs.Imports
use Imports.{ℕ, Bool, true, false, Option, Some, None, if◌then◌else◌, ◌==◌, ◌||◌, ◌≡◌, ◌≢◌, ◌+◌, ◌*◌, ◌^◌, ◌≤◌}
use Imports.{◌<◌, List, [], ◌∷◌, ◌++◌, length, replicate, get_or, set, map, inl, inr, refl, sym, ◌∙◌, ap, subst}
use Imports.{length-set, get_or-set_same, get_or-set_other, cases_eq, eqb-true, Op, Waiter, Want, apply, waiter}
use Imports.{first_of, Place, shares_then, owners_after, shares_after, Rules, putting, queued_of, Site, IsSite}
use Imports.{Deed, Line, Main, Second, Case, has_readers, after_deed, code, fills, HasLimit, IsHandOff}
use Imports.{HasPermits, rules_of, State, place_at, word_at, owners_at, shares_at, share_at, shares_with}
use Imports.{filled_at, kind_at, queue_at, lock_state, taken_at, acts, role_on, ActsNeeded, AllBy, LimitHasRoom}
use Imports.{SameNumbers, IsInductive, SiteFollows, Goes, after_acts, site_of, rules_in, stood_in, FollowAll}
use Imports.{GoesAll}
use Rattle.spec_locks.specs.Locks as locks
use Rattle.lot_laws.specs.ThreadDeeds as deeds
use Rattle.lot_laws.specs.SitesOf.{Stands}
use Rattle.lot_laws.proofs.machine.Parts.{Parts, parts_at, lock_in, seen_in, same, put_here, put_other}
use Rattle.lot_laws.proofs.semaphore.Permits.{permits_by}
use Rattle.lot_laws.proofs.sites.OneStep.{AreOrdinary, Steps, steps_by, noted, acts_keep, acts_limited}
use Rattle.lot_laws.proofs.sites.OneStep.{same_filled, queued_after}
use Rattle.lot_laws.proofs.sites.StandsKept.{AlikeBeside}

-- tells what another lock sees of each place
abbrev pub AlikeAt : ℕ → Place → Place → Type 0
AlikeAt k p q = (taken_at q k ≡ taken_at p k) × (role_on q k ≡ role_on p k)

pub alike_put : (l k : ℕ) (p : ℕ → Place) (t : ℕ) (p2 : Place) → AlikeBeside l (p t) p2 → k ≢ l → (u : ℕ)
    → AlikeAt k (p u) (putting p t p2 u)
alike_put l k p t p2 alike ne u = elim (cases_eq u t) [
  | inl e ↦ rw (e, put_here p t p2) ((alike k ne).taken, (alike k ne).role)
  | inr nu ↦ rw (put_other p t p2 u nu) (refl, refl)
]

-- a lock, by its rules
abbrev pub lock_by : State → ℕ → Rules → Site
lock_by w l r = seen_in r l (parts_at w l) (place_at w)

-- after a step one lock has these parts, threads stand there, and all else is as it was
pub record Moves (w v : State) (l : ℕ) (b : Parts) (q : ℕ → Place) : Type 0 where
  pub here : parts_at v l ≡ b
  pub others : (k : ℕ) → k ≢ l → parts_at v k ≡ parts_at w k
  pub places : place_at v ≡ q
  pub kinds : (k : ℕ) → kind_at v k ≡ kind_at w k
  pub alike : (k : ℕ) → k ≢ l → (u : ℕ) → AlikeAt k (place_at w u) (q u)
  pub numbers : SameNumbers w v
  pub sharers : length b.base.shared ≡ length (shares_at w l)

-- a thread that is there does these deeds, and hands nothing over
abbrev pub NoHandOff : List Deed → Type 0
NoHandOff [] = Unit {0}
NoHandOff (Case case ∷ ds) = (IsHandOff case → ⊥) × NoHandOff ds
NoHandOff (d ∷ ds) = NoHandOff ds

pub ordinary_by : (n t : ℕ) (ds : List Deed) → t < n → NoHandOff ds → AreOrdinary n (acts t ds)
ordinary_by n t [] lt h = tt
ordinary_by n t (Case case ∷ ds) lt h = ((lt, h.0), ordinary_by n t ds lt h.1)
ordinary_by n t (d ∷ ds) lt h = (tt, ordinary_by n t ds lt h)

module _ (w v : State) (l : ℕ) (b : Parts) (q : ℕ → Place) (moves : Moves w v l b q) (r : Rules)
    (rules : rules_in w l ≡ r) where
  site_here : site_of v l ≡ seen_in r l b q
  site_here = λ i. seen_in ((ap rules_of (moves.kinds l) ∙ rules) i) l (moves.here i) (moves.places i)

  site_there : (k : ℕ) → k ≢ l → site_of v k ≡ site_of w k
  site_there k ne = (λ i. seen_in (rules_of (moves.kinds k i)) k (moves.others k ne i) (moves.places i))
      ∙ (λ i. record (site_of w k) {
        lock = record (site_of w k).lock { taken = λ u. (moves.alike k ne u).0 i };
        role = λ u. (moves.alike k ne u).1 i;
      })

  -- tells what one lock has been through
  pub follows_by : (ds : List deeds.Act) → (r.sort ≡ locks.Semaphore → AllBy (length w.places) ds)
      → (has_readers r.sort ≡ true → HasLimit r (after_acts r ds (lock_by w l r)).lock)
      → seen_in r l b q ≡ after_acts r ds (lock_by w l r) → ActsNeeded r ds (lock_by w l r) → b.word
      ≡ code r (seen_in r l b q)
      → SiteFollows w v l ds
  follows_by ds by limit led needed coded = record {
    site = site_here ∙ led ∙ sym (λ i. after_acts (rules i) ds (lock_by w l (rules i)));
    needed = subst (λ x. ActsNeeded x ds (lock_by w l x)) (sym rules) needed;
    word = ap (λ (a : Parts). a.word) moves.here ∙ coded ∙ sym (λ i. code (rules i) (site_here i));
    others = λ k ne. (site_there k ne, ap (λ (a : Parts). a.word) (moves.others k ne));
    kinds = moves.kinds;
    numbers = moves.numbers;
    sharers = λ k. elim (cases_eq k l) [
      | inl e ↦ rw e (ap (λ (a : Parts). length a.base.shared) moves.here ∙ moves.sharers)
      | inr ne ↦ ap (λ (a : Parts). length a.base.shared) (moves.others k ne)
    ];
    by = λ sort. by (ap (λ x. x.sort) (sym rules) ∙ sort);
    limit = λ readers. subst (λ x. HasLimit x (lock_state v l)) (sym rules)
        (subst (λ (s : Site). HasLimit r s.lock) (sym (site_here ∙ led))
        (limit (ap (λ x. has_readers x.sort) (sym rules) ∙ readers)));
  }

-- a step that hands nothing over stays within the limit
pub limited : (w : State) (l : ℕ) (inductive : IsInductive w) (r : Rules) (rules : rules_in w l ≡ r)
    (ds : List deeds.Act)
    → (has_readers r.sort ≡ true → AreOrdinary (length w.places) ds) → ActsNeeded r ds (lock_by w l r)
    → has_readers r.sort ≡ true
    → HasLimit r (after_acts r ds (lock_by w l r)).lock
limited w l inductive r rules ds ordinary needed readers = by_rules r rules (ordinary readers) needed readers
  where
    by_rules : (x : Rules) → rules_in w l ≡ x → AreOrdinary (length w.places) ds
        → ActsNeeded x ds (lock_by w l x)
        → has_readers x.sort ≡ true → HasLimit x (after_acts x ds (lock_by w l x)).lock
    by_rules x e plain n h = let before = inductive.sites.limits l (ap (λ y. has_readers y.sort) e ∙ h) in
        acts_limited x ds (lock_by w l x) (length w.places) h (subst (λ (y : Rules). 1 ≤ y.limit) e
        before.0.0) (inductive.numbers.threads l) plain (subst (λ y. IsSite y (lock_by w l y)) e
        (inductive.sites.site l)) n (subst (λ y. HasLimit y (lock_by w l y).lock) e before.1)

-- a step of any number of locks keeps all
pub goes_all_inductive : (w v : State) (ds : ℕ → List deeds.Act) → IsInductive w → FollowAll w v ds → Stands v
    → IsInductive v
goes_all_inductive w v ds inductive f stands = record {
  sites = record {
    site = λ k. subst (λ x. IsSite (rules_of x) (site_of v k)) (sym (f.kinds k))
        (subst (λ s. IsSite (rules_in w k) s) (sym (f.site k)) (acts_keep (rules_in w k) (ds k) (site_of w k)
        (inductive.sites.site k) (f.needed k)));
    word = λ k. f.word k ∙ (λ i. code (rules_of (sym (f.kinds k) i)) (site_of v k));
    unfilled = λ k h. let of_w = was_sort k false h in
        ap (λ (s : Site). s.filled) (f.site k) ∙ same_filled (rules_in w k) (ds k) (site_of w k) of_w
        ∙ inductive.sites.unfilled k of_w;
    limits = λ k h. subst (λ x. LimitHasRoom (length v.places) (rules_of x)
        × HasLimit (rules_of x) (lock_state v k)) (sym (f.kinds k))
        (let of_w = was_sort k true h in (room_then k of_w, f.limit k of_w));
    permits = λ k sort. subst (λ x. HasPermits (rules_of x) (site_of v k) × ((rules_of x).limit ≤ 2 ^ 62))
        (sym (f.kinds k))
        (let of_w : (rules_in w k).sort ≡ locks.Semaphore = sym (ap (λ x. (rules_of x).sort) (f.kinds k))
        ∙ sort in let held = inductive.sites.permits k of_w in (
          subst (HasPermits (rules_in w k)) (sym (f.site k)) (permits_by (rules_in w k) (length w.places)
              (ds k) (site_of w k) of_w (inductive.sites.site k) held.0 (inductive.numbers.threads k)
              (f.by k of_w)
              (f.needed k)),
          held.1,
        ));
  };
  stands = stands;
  numbers = record {
    locks = f.numbers.shares ∙ inductive.numbers.locks ∙ sym f.numbers.locks;
    threads = λ k. f.sharers k ∙ inductive.numbers.threads k ∙ sym f.numbers.threads;
  };
}
  where
    was_sort : (k : ℕ) (b : Bool) → has_readers (rules_in v k).sort ≡ b → has_readers (rules_in w k).sort ≡ b
    was_sort k b h = sym (ap (λ x. has_readers (rules_of x).sort) (f.kinds k)) ∙ h

    room_then : (k : ℕ) → has_readers (rules_in w k).sort ≡ true → LimitHasRoom (length v.places)
        (rules_in w k)
    room_then k h = subst (λ n. LimitHasRoom n (rules_in w k)) (sym f.numbers.threads)
        (inductive.sites.limits k h).0

-- a step of one lock leaves the others as they were
abbrev pub only_at : ℕ → List deeds.Act → ℕ → List deeds.Act
only_at l ds k = if k == l then ds else []

follows_all : (w v : State) (l : ℕ) (ds : List deeds.Act) → IsInductive w → SiteFollows w v l ds
    → FollowAll w v (only_at l ds)
follows_all w v l ds inductive f = record {
  site = λ k. (either k (k == l) refl).0;
  needed = λ k. (either k (k == l) refl).1;
  word = λ k. (either k (k == l) refl).2;
  kinds = f.kinds;
  numbers = f.numbers;
  sharers = f.sharers;
  limit = λ k. (either k (k == l) refl).3;
  by = λ k. (either k (k == l) refl).4;
}
  where
    AtLock : ℕ → List deeds.Act → Type 0
    AtLock k here =
        (site_of v k ≡ after_acts (rules_in w k) here (site_of w k)) × ActsNeeded (rules_in w k) here
        (site_of w k)
        × (word_at v k ≡ code (rules_in w k) (site_of v k)) × (has_readers (rules_in w k).sort ≡ true
        → HasLimit (rules_in w k) (lock_state v k))
        × ((rules_in w k).sort ≡ locks.Semaphore → AllBy (length w.places) here)

    either : (k : ℕ) (b : Bool) → (k == l) ≡ b → AtLock k (if b then ds else [])
    either k true e = subst (λ j. AtLock j ds) (sym (eqb-true k l e)) (
      f.site,
      f.needed,
      f.word,
      f.limit,
      f.by,
    )
    either k false e = let there = f.others k (λ g. let h : true ≡ false = sym (ap (λ j. j == l) g ∙ same l)
        ∙ e in cc) in (
          there.0,
          tt,
          there.1 ∙ inductive.sites.word k ∙ (λ i. code (rules_in w k) (sym there.0 i)),
          λ h. subst (λ (s : Site). HasLimit (rules_in w k) s.lock) (sym there.0)
              (inductive.sites.limits k h).1,
          λ h. tt,
        )

-- as a step of all of them
pub goes_all : (w v : State) (l : ℕ) (ds : List deeds.Act) → IsInductive w → Goes w v l ds
    → GoesAll w v (only_at l ds)
goes_all w v l ds inductive g = record {
  follows = follows_all w v l ds inductive g.follows;
  stands = g.stands;
}

-- A step that goes by its acts keeps what is inductive.
pub goes_inductive : (w v : State) (l : ℕ) (ds : List deeds.Act) → IsInductive w → Goes w v l ds
    → IsInductive v
goes_inductive w v l ds inductive g = goes_all_inductive w v (only_at l ds) inductive
    (follows_all w v l ds inductive
    g.follows) g.stands

-- ---------------------------------------------------------------- an operation's effect on the lock

abbrev pub operated : State → ℕ → Place → ℕ → Op → Parts
operated w t p l f = record {
  base = record {
    shared = shares_then (shares_at w l) t (shares_after p (word_at w l) (share_at w l t));
    filled = filled_at w l || fills (rules_in w l) (apply f (word_at w l));
  };
  word = apply f (word_at w l);
  owners = owners_after p t (word_at w l) (owners_at w l);
  main = queue_at w (2 * l);
  second = queue_at w (2 * l + 1);
}

pub shares_with_count : (w : State) (l t : ℕ) (x : Option ℕ) → length (shares_with w l t x) ≡ length w.shares
shares_with_count w l t None = refl
shares_with_count w l t (Some n) = length-set w.shares l _

pub shares_then_count : (w : State) (l t : ℕ) (x : Option ℕ) → length (shares_then (shares_at w l) t x)
    ≡ length (shares_at w l)
shares_then_count w l t None = refl
shares_then_count w l t (Some n) = length-set (shares_at w l) t n

module _ (w : State) (l t n : ℕ) (threads : n ≡ length w.places) (there : l < length w.shares) where
  pub shares_here : (x : Option ℕ) → get_or (shares_with w l t x) l (replicate n 0) ≡ shares_then
      (shares_at w l) t x
  shares_here None = ap (λ m. get_or w.shares l (replicate m 0)) threads
  shares_here (Some m) = get_or-set_same w.shares l (set (shares_at w l) t m) _ there

  pub shares_there : (k : ℕ) → k ≢ l → (x : Option ℕ) → get_or (shares_with w l t x) k (replicate n 0)
      ≡ shares_at w k
  shares_there k ne None = ap (λ m. get_or w.shares k (replicate m 0)) threads
  shares_there k ne (Some m) = get_or-set_other w.shares l k (set (shares_at w l) t m) _ ne
      ∙ ap (λ j. get_or w.shares k (replicate j 0)) threads

-- ---------------------------------------------------------------- lines

pub stood_one : (n : Line) → stood_in (Some n) n ≡ 1
stood_one Main = refl
stood_one Second = refl

pub stood_other : (n o : Line) → o ≢ n → stood_in (Some n) o ≡ 0
stood_other Main Main ne = absurd (ne refl)
stood_other Main Second ne = refl
stood_other Second Main ne = refl
stood_other Second Second ne = absurd (ne refl)

-- one line is another
abbrev pub with_line : Parts → Line → List Waiter → Parts
with_line a Main q = record a { main = q }
with_line a Second q = record a { second = q }

module _ (r : Rules) (l : ℕ) (a : Parts) (p : ℕ → Place) (t : ℕ) (p2 : Place)
    (site : IsSite r (seen_in r l a p))
    (hand : taken_at (p t) l ≡ taken_at p2 l) where
  -- the thread stands after the last of the main line
  pub parks : (key : ℕ) (x : Want) → ActsNeeded r (acts t (Case (locks.Park x) ∷ [])) (seen_in r l a p)
      → role_on p2 l ≡ record (role_on (p t) l) { retries = None; empty = None }
      → Steps r l a (with_line a Main (a.main ++ waiter key t x ∷ [])) p t p2 (Case (locks.Park x) ∷ [])
  parks key x needed own = steps_by r l a (with_line a Main (a.main ++ waiter key t x ∷ [])) p t p2
      (Case (locks.Park x) ∷ []) needed (tt, tt) hand
      (λ i. record (lock_in a (λ u. taken_at (p u) l)) { queue = queued_after key t x a.main i }) refl refl
      (noted r (seen_in r l a p) site) (own ∙ sym (put_here (λ u. role_on (p u) l) t _))

  -- the thread stands aside, alone
  pub asides : (key : ℕ) (x : Want) → a.second ≡ [] → ActsNeeded r (acts t (Case locks.Aside ∷ []))
      (seen_in r l a p) → role_on p2 l ≡ record (role_on (p t) l) { retries = None; empty = None }
      → Steps r l a (with_line a Second (a.second ++ waiter key t x ∷ [])) p t p2 (Case locks.Aside ∷ [])
  asides key x nobody needed own = steps_by r l a (with_line a Second (a.second ++ waiter key t x ∷ [])) p t
      p2 (Case locks.Aside ∷ []) needed (tt, tt) hand
      (ap (λ (q : List Waiter). lock_in (with_line a Second (q ++ waiter key t x ∷ []))
      (λ u. taken_at (p u) l)) nobody) refl refl (noted r (seen_in r l a p) site) (own
      ∙ sym (put_here (λ u. role_on (p u) l) t _))

  -- the thread's time is up, and it leaves the line in which it stands
  pub lates : (m : Line) (q : List Waiter) → map queued_of (with_line a m q).main ≡ locks.without t
      (map queued_of a.main)
      → first_of (with_line a m q).second ≡ locks.aside_without t (first_of a.second)
      → ActsNeeded r (acts t (Case locks.Late ∷ [])) (seen_in r l a p)
      → role_on p2 l ≡ (after_deed r (Case locks.Late) (seen_in r l a p) t).role t
      → Steps r l a (with_line a m q) p t p2 (Case locks.Late ∷ [])
  lates Main q mains seconds needed own = steps_by r l a (with_line a Main q) p t p2 (Case locks.Late ∷ [])
      needed (tt, tt) hand
      (λ i. record (lock_in a (λ u. taken_at (p u) l)) { queue = mains i; aside = seconds i }) refl refl
      (noted r (seen_in r l a p) site) own
  lates Second q mains seconds needed own = steps_by r l a (with_line a Second q) p t p2 (Case locks.Late
      ∷ []) needed (tt, tt) hand
      (λ i. record (lock_in a (λ u. taken_at (p u) l)) { queue = mains i; aside = seconds i }) refl refl
      (noted r (seen_in r l a p) site) own
