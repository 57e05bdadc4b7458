-- A step of one thread at two locks that nobody shares: both are sites again, and every other lock is as it
-- was.
use Rattle.lot_laws.proofs.Imports
use Imports.{ℕ, Bool, true, false, Option, Some, None, if◌then◌else◌, ◌==◌, ◌&&◌, ◌≡◌, ◌≢◌, ◌+◌, ◌*◌, ◌<◌, List}
use Imports.{[], length, replicate, get_or, set, inl, inr, refl, sym, ◌∙◌, ap, subst, arith, length-set}
use Imports.{cases_eq, Waiter, Place, Idle, putting, rules_of, Deed, Main, Site, has_readers, code, HasLimit}
use Imports.{State, place_at, kind_at, shares_at, unlocked, word_at, lock_state, acts, ActsNeeded, AllBy}
use Imports.{FollowAll, IsInductive, SameNumbers, after_acts, key_of, rules_in, site_of}
use Rattle.spec_locks.specs.declared.kinds.Kind.TheVariants as kind
use Rattle.spec_locks.specs.Locks as locks
use Rattle.lot_laws.specs.ThreadDeeds as deeds
use Rattle.lot_laws.specs.Locations.{Location}
use Rattle.lot_laws.proofs.semaphore.Permits.{all_by}
use Rattle.lot_laws.proofs.machine.Parts.{Parts, parts_at, put_here, put_other, put_places, same, differ}
use Rattle.lot_laws.proofs.machine.Parts.{seen_in}
use Rattle.lot_laws.proofs.sites.OneStep.{Steps, same_word}
use Rattle.lot_laws.proofs.sites.StandsKept.{Alike, other_key}
use Rattle.lot_laws.proofs.sites.StandsMoved.{AreThere, goes_in, goes_out}
use Rattle.lot_laws.proofs.sites.Following.{AlikeAt, lock_by}

-- tells what each of the two locks has been through
abbrev pub two_at : ℕ → ℕ → List deeds.Act → List deeds.Act → ℕ → List deeds.Act
two_at c m at_c at_m k = if k == c then at_c else if k == m then at_m else []

-- after it the lock has these parts, and its word says so
pub record AfterIt (w v : State) (q : ℕ → Place) (l : ℕ) (ds : List deeds.Act) : Type 0 where
  pub parts : Parts
  pub here : parts_at v l ≡ parts
  pub led : seen_in (rules_in w l) l parts q ≡ after_acts (rules_in w l) ds (lock_by w l (rules_in w l))
  pub needed : ActsNeeded (rules_in w l) ds (lock_by w l (rules_in w l))
  pub coded : parts.word ≡ code (rules_in w l) (seen_in (rules_in w l) l parts q)
  pub sharers : length parts.base.shared ≡ length (shares_at w l)
  pub unshared : has_readers (rules_in w l).sort ≡ false
  pub by : (rules_in w l).sort ≡ locks.Semaphore → AllBy (length w.places) ds

module _ (w v : State) (inductive : IsInductive w) (q : ℕ → Place) (places : place_at v ≡ q)
    (kinds : (k : ℕ) → kind_at v k ≡ kind_at w k) (numbers : SameNumbers w v) (c m : ℕ)
    (others : (k : ℕ) → k ≢ c → k ≢ m → (parts_at v k ≡ parts_at w k)
    × ((u : ℕ) → AlikeAt k (place_at w u) (q u))) where
  site_at : (l : ℕ) (ds : List deeds.Act) → AfterIt w v q l ds → site_of v l ≡ after_acts (rules_in w l) ds
      (site_of w l)
  site_at l ds b = (λ i. seen_in (rules_of (kinds l i)) l (b.here i) (places i)) ∙ b.led

  site_else : (k : ℕ) → k ≢ c → k ≢ m → site_of v k ≡ site_of w k
  site_else k nc nm = let o = others k nc nm in (λ i. seen_in (rules_of (kinds k i)) k (o.0 i) (places i))
      ∙ (λ i. record (site_of w k) {
        lock = record (site_of w k).lock { taken = λ u. (o.1 u).0 i };
        role = λ u. (o.1 u).1 i;
      })

  word_here : (l : ℕ) (ds : List deeds.Act) → AfterIt w v q l ds → word_at v l ≡ code (rules_in w l)
      (site_of v l)
  word_here l ds b = ap (λ (a : Parts). a.word) b.here ∙ b.coded
      ∙ sym (ap (code (rules_in w l)) (λ i. seen_in (rules_of (kinds l i)) l (b.here i) (places i)))

  word_else : (k : ℕ) → k ≢ c → k ≢ m → word_at v k ≡ code (rules_in w k) (site_of v k)
  word_else k nc nm = ap (λ (a : Parts). a.word) (others k nc nm).0 ∙ inductive.sites.word k
      ∙ sym (ap (code (rules_in w k)) (site_else k nc nm))

  module _ (at_c at_m : List deeds.Act) (apart : m ≢ c) (after_c : AfterIt w v q c at_c)
      (after_m : AfterIt w v q m at_m) where
    -- by which lock is looked at
    by_lock : (P : ℕ → List deeds.Act → Type 0) → P c at_c → P m at_m → ((k : ℕ) → k ≢ c → k ≢ m → P k [])
        → (k : ℕ)
        → P k (two_at c m at_c at_m k)
    by_lock P here beside else_at k = elim (cases_eq k c) [
      | inl e ↦ subst (λ j. P j (two_at c m at_c at_m j)) (sym e)
          (subst (P c) (sym (ap (λ b. if b then at_c else if c == m then at_m else []) (same c))) here)
      | inr nc ↦ elim (cases_eq k m) [
        | inl e ↦ subst (λ j. P j (two_at c m at_c at_m j)) (sym e)
            (subst (P m) (sym (ap (λ b. if b then at_c else if m == m then at_m else []) (differ m c apart)
            ∙ ap (λ b. if b then at_m else []) (same m))) beside)
        | inr nm ↦ subst (P k) (sym (ap (λ b. if b then at_c else if k == m then at_m else []) (differ k c nc)
            ∙ ap (λ b. if b then at_m else []) (differ k m nm))) (else_at k nc nm)
      ]
    ]

    pub follow_two : FollowAll w v (two_at c m at_c at_m)
    follow_two = record {
      site = by_lock (λ k ds. site_of v k ≡ after_acts (rules_in w k) ds (site_of w k))
          (site_at c at_c after_c) (site_at m at_m after_m) site_else;
      needed = by_lock (λ k ds. ActsNeeded (rules_in w k) ds (site_of w k)) after_c.needed after_m.needed
          (λ k nc nm. tt);
      word = by_lock (λ k ds. word_at v k ≡ code (rules_in w k) (site_of v k)) (word_here c at_c after_c)
          (word_here m at_m after_m) word_else;
      kinds = kinds;
      numbers = numbers;
      sharers = by_lock (λ k ds. length (shares_at v k) ≡ length (shares_at w k))
          (ap (λ (a : Parts). length a.base.shared) after_c.here ∙ after_c.sharers)
          (ap (λ (a : Parts). length a.base.shared) after_m.here ∙ after_m.sharers)
          (λ k nc nm. ap (λ (a : Parts). length a.base.shared) (others k nc nm).0);
      limit = by_lock (λ k ds. has_readers (rules_in w k).sort ≡ true → HasLimit (rules_in w k)
          (lock_state v k)) (λ h. let z : true ≡ false = sym h ∙ after_c.unshared in cc) (λ h. let z : true
          ≡ false = sym h ∙ after_m.unshared in cc)
          (λ k nc nm h. subst (λ (s : Site). HasLimit (rules_in w k) s.lock) (sym (site_else k nc nm))
          (inductive.sites.limits k h).1);
      by = by_lock (λ k ds. (rules_in w k).sort ≡ locks.Semaphore → AllBy (length w.places) ds) after_c.by
          after_m.by (λ k nc nm h. tt);
    }

-- -------------------------------------------------------- sections alone change, and the place of one thread

-- the thread goes from where it stands by deeds at both locks
module _ (w v : State) (inductive : IsInductive w) (t : ℕ) (there : t < length w.places) (p2 : Place)
    (c m : ℕ)
    (apart : m ≢ c)
    (alike : (k : ℕ) → k ≢ c → k ≢ m → Alike k (place_at w t) p2)
    (el : v.locks ≡ w.locks) (eh : v.shares ≡ w.shares) (eq : v.queues ≡ w.queues) (ep : v.places
    ≡ set w.places t p2) (unshared_c : has_readers (rules_in w c).sort ≡ false)
    (unshared_m : has_readers (rules_in w m).sort ≡ false)
    (ds_c ds_m : List Deed) (steps_c : Steps (rules_in w c) c (parts_at w c) (parts_at w c) (place_at w) t p2
    ds_c) (steps_m : Steps (rules_in w m) m (parts_at w m) (parts_at w m) (place_at w) t p2 ds_m) where
  same_parts : (k : ℕ) → parts_at v k ≡ parts_at w k
  same_parts k = λ i. record {
    base = record {
      shared = get_or (eh i) k (replicate ((ap (λ (xs : List Place). length xs) ep ∙ length-set w.places t p2)
          i) 0);
      filled = (get_or (el i) k (unlocked kind.Mutex)).filled;
    };
    word = (get_or (el i) k (unlocked kind.Mutex)).word;
    owners = (get_or (el i) k (unlocked kind.Mutex)).owners;
    main = get_or (eq i) (2 * k) [];
    second = get_or (eq i) (2 * k + 1) [];
  }

  pub places_put : place_at v ≡ putting (place_at w) t p2
  places_put = ap (λ (xs : List Place). λ u. get_or xs u Idle) ep
      ∙ put_places w t p2 (λ h. absurd (omega arith))

  pub same_kinds : (k : ℕ) → kind_at v k ≡ kind_at w k
  same_kinds k i = (get_or (el i) k (unlocked kind.Mutex)).kind

  afterwards : (l : ℕ) (ds : List Deed) → has_readers (rules_in w l).sort ≡ false
      → Steps (rules_in w l) l (parts_at w l) (parts_at w l) (place_at w) t p2 ds
      → AfterIt w v (putting (place_at w) t p2) l (acts t ds)
  afterwards l ds unshared steps = record {
    parts = parts_at w l;
    here = same_parts l;
    led = steps.site;
    needed = steps.needed;
    coded = inductive.sites.word l ∙ same_word (rules_in w l).sort (rules_in w l).limit _ _ _ _ refl refl refl
        refl refl refl;
    sharers = refl;
    unshared = unshared;
    by = λ e. all_by (length w.places) t ds there;
  }

  others : (k : ℕ) → k ≢ c → k ≢ m
      → (parts_at v k ≡ parts_at w k) × ((u : ℕ) → AlikeAt k (place_at w u) (putting (place_at w) t p2 u))
  others k nc nm = (
    same_parts k,
    λ u. elim (cases_eq u t) [
      | inl e ↦ rw (e, put_here (place_at w) t p2) ((alike k nc nm).taken, (alike k nc nm).role)
      | inr ne ↦ rw (put_other (place_at w) t p2 u ne) (refl, refl)
    ],
  )

  pub two_follow : FollowAll w v (two_at c m (acts t ds_c) (acts t ds_m))
  two_follow = follow_two w v inductive (putting (place_at w) t p2) places_put same_kinds (record {
    threads = ap (λ (xs : List Place). length xs) ep ∙ length-set w.places t p2;
    locks = λ i. length (el i);
    shares = λ i. length (eh i);
  })
      c m others (acts t ds_c) (acts t ds_m) apart (afterwards c ds_c unshared_c steps_c)
      (afterwards m ds_m unshared_m steps_m)

-- --------------------------------------------------------- the station at one of them, and then at the other

-- where one thread stands otherwise at one lock
abbrev pub with_location : (ℕ → ℕ → Location) → ℕ → ℕ → Location → ℕ → ℕ → Location
with_location at t l x u k = if (u == t) && (k == l) then x else at u k

pub location_here : (at : ℕ → ℕ → Location) (t l : ℕ) (x : Location) → with_location at t l x t l ≡ x
location_here at t l x = ap (λ b. if b && (l == l) then x else at t l) (same t)
    ∙ ap (λ b. if b then x else at t l) (same l)

pub location_else : (at : ℕ → ℕ → Location) (t l : ℕ) (x : Location) (u k : ℕ) → (u ≡ t → k ≡ l → ⊥)
    → with_location at t l x u k ≡ at u k
location_else at t l x u k ne = elim (cases_eq u t) [
  | inl e ↦ ap (λ b. if (u == t) && b then x else at u k) (differ k l (ne e))
      ∙ ap (λ b. if b then x else at u k) (no (u == t))
  | inr nu ↦ ap (λ b. if b && (k == l) then x else at u k) (differ u t nu)
]
  where
    no : (b : Bool) → (b && false) ≡ false
    no true = refl
    no false = refl

-- a thread goes into two sections that are free, or out of its two
module _ {one : ℕ → Type 0} (at at2 : ℕ → ℕ → Location) (section : ℕ → Option ℕ) (queue : ℕ → List Waiter)
    (there : AreThere one at section queue) (t c m : ℕ) (apart : m ≢ c)
    (others : (u k : ℕ) → (u ≡ t → k ≡ c → ⊥) → (u ≡ t → k ≡ m → ⊥) → at2 u k ≡ at u k) (after : ℕ → Option ℕ)
    (elsewhere : (key : ℕ) → key ≢ key_of c Main → key ≢ key_of m Main → after key ≡ section key) where
  -- once it has gone at the first
  abbrev between : ℕ → ℕ → Location
  between = with_location at t c (at2 t c)

  abbrev section_between : ℕ → Option ℕ
  section_between = putting section (key_of c Main) (after (key_of c Main))

  other_keys : key_of m Main ≢ key_of c Main
  other_keys = other_key c m Main Main apart

  second_others : (u k : ℕ) → (u ≡ t → k ≡ m → ⊥) → at2 u k ≡ between u k
  second_others u k nm = elim (cases_eq u t) [
    | inl e ↦ elim (cases_eq k c) [
      | inl f ↦ rw (e, f) (sym (location_here at t c (at2 t c)))
      | inr nc ↦ others u k (λ g h. nc h) nm ∙ sym (location_else at t c (at2 t c) u k (λ g h. nc h))
    ]
    | inr nu ↦ others u k (λ g h. nu g) nm ∙ sym (location_else at t c (at2 t c) u k (λ g h. nu g))
  ]

  at_m : between t m ≡ at t m
  at_m = location_else at t c (at2 t c) t m (λ g h. apart h)

  later : (key : ℕ) → key ≢ key_of m Main → after key ≡ section_between key
  later key nm = elim (cases_eq key (key_of c Main)) [
    | inl e ↦ rw e (sym (put_here section (key_of c Main) (after (key_of c Main))))
    | inr nc ↦ elsewhere key nc nm ∙ sym (put_other section (key_of c Main) (after (key_of c Main)) key nc)
  ]

  section_m : section_between (key_of m Main) ≡ section (key_of m Main)
  section_m = put_other section (key_of c Main) (after (key_of c Main)) (key_of m Main) other_keys

  pub goes_in_two : section (key_of c Main) ≡ None → section (key_of m Main) ≡ None → after (key_of c Main)
      ≡ Some t
      → after (key_of m Main) ≡ Some t → (at t c).inside ≡ None → (at t m).inside ≡ None
      → at2 t c ≡ record (at t c) { inside = Some Main } → at2 t m ≡ record (at t m) { inside = Some Main }
      → AreThere one at2 after queue
  goes_in_two free_c free_m held_c held_m out_c out_m now_c now_m = goes_in between at2 section_between queue
      (goes_in at between section queue there t c (location_else at t c (at2 t c)) Main section_between
      (λ key ne. put_other section (key_of c Main) (after (key_of c Main)) key ne) free_c
      (put_here section (key_of c Main) (after (key_of c Main)) ∙ held_c) out_c
      (location_here at t c (at2 t c) ∙ now_c))
      t m second_others Main after later (section_m ∙ free_m) held_m (ap (λ (x : Location). x.inside) at_m
      ∙ out_m) (now_m ∙ sym (ap (λ (x : Location). record x { inside = Some Main }) at_m))

  pub goes_out_two : after (key_of c Main) ≡ None → after (key_of m Main) ≡ None → (at t c).inside ≡ Some Main
      → (at t m).inside ≡ Some Main
      → at2 t c ≡ record (at t c) { inside = None } → at2 t m ≡ record (at t m) { inside = None }
      → AreThere one at2 after queue
  goes_out_two free_c free_m within_c within_m now_c now_m = goes_out between at2 section_between queue
      (goes_out at between section queue there t c (location_else at t c (at2 t c)) Main section_between
      (λ key ne. put_other section (key_of c Main) (after (key_of c Main)) key ne)
      (put_here section (key_of c Main) (after (key_of c Main)) ∙ free_c) within_c
      (location_here at t c (at2 t c) ∙ now_c))
      t m second_others Main after later free_m (ap (λ (x : Location). x.inside) at_m ∙ within_m) (now_m
      ∙ sym (ap (λ (x : Location). record x { inside = None }) at_m))
