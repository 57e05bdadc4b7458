-- Each act of one thread keeps every lock of the world a site whose word says so, whatever the thread does
-- about other locks meanwhile: it is there as it was.
use Rattle.lot_laws.proofs.Imports
use Imports.{ℕ, Bool, true, Option, Some, None, if◌then◌else◌, ◌==◌, ◌||◌, ◌≡◌, ◌≢◌, ◌+◌, ◌*◌, ◌/◌, ◌%◌, ◌≤◌}
use Imports.{◌<◌, ◌⊎◌, List, [], ◌∷◌, ◌++◌, length, replicate, get_or, set, map, drop, inl, inr, refl, sym, ◌∙◌}
use Imports.{ap, subst, arith, length-set, get_or-set_same, get_or-set_other, cases_eq, length-map, get_or-map}
use Imports.{One, Op, Waiter, Want, apply, waiter, without, times, times_append, times_without, times_gone}
use Imports.{Place, Idle, owners_after, shares_after, Rules, putting, Role, IsSite, Deed, Line, Main, Second}
use Imports.{In, FindNobody, has_readers, after_deed, code, fills, State, unlocked, place_at, word_at}
use Imports.{owners_at, share_at, filled_at, kind_at, queue_at, section_at, put, state_after_operation}
use Imports.{state_with_sections, queues_with_last, queues_without, queues_without_first, taken_at, acts}
use Imports.{location_at, nowhere, role_on, locations_of, TakesOne, ActsNeeded, IsInductive, SiteFollows, Goes}
use Imports.{FitsItsLock, AllAreWaiting, AreWaiting, rules_in, key_of, stood_in}
use Rattle.spec_locks.specs.declared.kinds.Kind.TheVariants as kind
use Rattle.lot_machine.specs.declared.locks.Lock.{Lock}
use Rattle.lot_laws.specs.Locations.{Location}
use Rattle.lot_laws.proofs.semaphore.Permits.{all_by}
use Rattle.lot_laws.proofs.hands.Counts.{without_absent}
use Rattle.lot_laws.proofs.machine.Parts.{base_at, parts_at, seen_in, same, differ, put_places, put_here}
use Rattle.lot_laws.proofs.machine.Parts.{inside_is}
use Rattle.lot_laws.proofs.machine.KindsStay.{operated_kinds}
use Rattle.lot_laws.proofs.sites.OneStep.{Steps, steps_by, same_word}
use Rattle.lot_laws.proofs.sites.StandsKept.{other_key, other_line, same_line, AlikeBeside, part_else}
use Rattle.lot_laws.proofs.sites.StandsKept.{waiting_same, waiting_after, waiting_without}
use Rattle.lot_laws.proofs.sites.StandsMoved.{AreThere, there_in, others_stay, location_put, stands_put}
use Rattle.lot_laws.proofs.sites.StandsMoved.{still, goes_in, goes_out, line_changes}
use Rattle.lot_laws.proofs.sites.Following.{Moves, NoHandOff, alike_put, follows_by, limited, lock_by}
use Rattle.lot_laws.proofs.sites.Following.{operated, ordinary_by, shares_here, shares_then_count}
use Rattle.lot_laws.proofs.sites.Following.{shares_there, shares_with_count, stood_one, stood_other}
use Rattle.lot_laws.proofs.sites.Following.{with_line}

-- ---------------------------------------------------------------- one thread goes elsewhere

module _ (w : State) (t l : ℕ) (inductive : IsInductive w) (there : t < length w.places) (r : Rules)
    (rules : rules_in w l ≡ r)
    (p2 : Place) (alike : AlikeBeside l (place_at w t) p2) (fits : FitsItsLock w p2) where
  -- how it stands at the lock
  abbrev was : Location
  was = location_at (place_at w t) l

  abbrev is : Location
  is = location_at p2 l

  abbrev locations_now : ℕ → ℕ → Location
  locations_now = locations_of (putting (place_at w) t p2)

  before : AreThere (TakesOne w) (locations_of (place_at w)) (section_at w) (queue_at w)
  before = there_in w inductive.stands

  others_still : (u k : ℕ) → (u ≡ t → k ≡ l → ⊥) → locations_now u k ≡ locations_of (place_at w) u k
  others_still = others_stay (place_at w) t l p2 alike

  put_now : locations_now t l ≡ is
  put_now = location_put (place_at w) t l p2

  past : length w.places ≤ t → p2 ≡ Idle
  past h = absurd (omega arith)

  pub site_by : IsSite r (lock_by w l r)
  site_by = subst (λ x. IsSite x (lock_by w l x)) rules (inductive.sites.site l)

  -- the word is the lock's, whatever waiters its lines have and wherever its callers are
  pub word_by_lines : (m s : List Waiter) (q : ℕ → Place)
      → word_at w l ≡ code r (seen_in r l (record (parts_at w l) {
        main = m;
        second = s;
      }) q)
  word_by_lines m s q = inductive.sites.word l ∙ (λ i. code (rules i) (lock_by w l (rules i)))
      ∙ same_word r.sort r.limit _ _ _ _ refl refl refl refl refl refl

  base_stays : (v : State) → v.locks ≡ w.locks → v.shares ≡ w.shares → v.places ≡ set w.places t p2 → (k : ℕ)
      → base_at v k ≡ base_at w k
  base_stays v el es ep k = λ i. record {
    shared = get_or (es i) k (replicate ((ap (λ (xs : List Place). length xs) ep ∙ length-set w.places t p2)
        i) 0);
    filled = (get_or (el i) k (unlocked kind.Mutex)).filled;
  }

  places_put : (v : State) → v.places ≡ set w.places t p2 → place_at v ≡ putting (place_at w) t p2
  places_put v ep = ap (λ (xs : List Place). λ u. get_or xs u Idle) ep ∙ put_places w t p2 past

  -- the thread's place changes, and the waiters in the lines of the lock
  lines_move : (v : State) (m s : List Waiter) → v.locks ≡ w.locks → v.shares ≡ w.shares → v.places
      ≡ set w.places t p2
      → queue_at v (2 * l) ≡ m → queue_at v (2 * l + 1) ≡ s
      → ((k : ℕ) → k ≢ l → (n : Line) → queue_at v (key_of k n) ≡ queue_at w (key_of k n))
      → Moves w v l (record (parts_at w l) { main = m; second = s }) (putting (place_at w) t p2)
  lines_move v m s el es ep em en elsewhere = record {
    here = λ i. record {
      base = base_stays v el es ep l i;
      word = (get_or (el i) l (unlocked kind.Mutex)).word;
      owners = (get_or (el i) l (unlocked kind.Mutex)).owners;
      main = em i;
      second = en i;
    };
    others = λ k ne i. record {
      base = base_stays v el es ep k i;
      word = (get_or (el i) k (unlocked kind.Mutex)).word;
      owners = (get_or (el i) k (unlocked kind.Mutex)).owners;
      main = elsewhere k ne Main i;
      second = elsewhere k ne Second i;
    };
    places = places_put v ep;
    kinds = λ k i. (get_or (el i) k (unlocked kind.Mutex)).kind;
    alike = λ k ne. alike_put l k (place_at w) t p2 alike ne;
    numbers = record {
      threads = ap (λ (xs : List Place). length xs) ep ∙ length-set w.places t p2;
      locks = λ i. length (el i);
      shares = λ i. length (es i);
    };
    sharers = refl;
  }

  -- a step on the word
  pub word_goes : (p : Place) → l < length w.locks → l < length w.shares → (f : Op) (ds : List Deed)
      → (has_readers r.sort ≡ true → NoHandOff ds) → Steps r l (parts_at w l) (operated w t p l f)
      (place_at w) t p2 ds
      → apply f (word_at w l) ≡ code r (seen_in r l (operated w t p l f) (putting (place_at w) t p2))
      → is ≡ was
      → Goes w (put (state_after_operation w t p l f) t p2) l (acts t ds)
  word_goes p lt shared f ds plain steps coded e = record {
    follows = follows_by w v l (operated w t p l f) (putting (place_at w) t p2) moves r rules (acts t ds)
        (λ e. all_by (length w.places) t ds there) (limited w l inductive r rules (acts t ds)
        (λ h. ordinary_by (length w.places) t ds there (plain h)) steps.needed) steps.site steps.needed coded;
    stands = stands_put w v inductive.stands (operated_kinds w t p l f) t p2 fits (places_put v refl)
        (still (locations_of (place_at w)) locations_now (section_at w) (queue_at w) before t l others_still
        (put_now ∙ e));
  }
    where
      v : State
      v = put (state_after_operation w t p l f) t p2

      lock_then : Lock
      lock_then = record {
        kind = kind_at w l;
        word = apply f (word_at w l);
        owners = owners_after p t (word_at w l) (owners_at w l);
        filled = filled_at w l || fills (rules_in w l) (apply f (word_at w l));
      }

      moves : Moves w v l (operated w t p l f) (putting (place_at w) t p2)
      moves = record {
        here = λ i. record {
          base = record {
            shared = shares_here w l t (length (set w.places t p2)) (length-set w.places t p2) shared
                (shares_after p (word_at w l) (share_at w l t)) i;
            filled = (get_or-set_same w.locks l lock_then (unlocked kind.Mutex) lt i).filled;
          };
          word = (get_or-set_same w.locks l lock_then (unlocked kind.Mutex) lt i).word;
          owners = (get_or-set_same w.locks l lock_then (unlocked kind.Mutex) lt i).owners;
          main = queue_at w (2 * l);
          second = queue_at w (2 * l + 1);
        };
        others = λ k ne i. record {
          base = record {
            shared = shares_there w l t (length (set w.places t p2)) (length-set w.places t p2) shared k ne
                (shares_after p (word_at w l) (share_at w l t)) i;
            filled = (get_or-set_other w.locks l k lock_then (unlocked kind.Mutex) ne i).filled;
          };
          word = (get_or-set_other w.locks l k lock_then (unlocked kind.Mutex) ne i).word;
          owners = (get_or-set_other w.locks l k lock_then (unlocked kind.Mutex) ne i).owners;
          main = queue_at w (2 * k);
          second = queue_at w (2 * k + 1);
        };
        places = places_put v refl;
        kinds = operated_kinds w t p l f;
        alike = λ k ne. alike_put l k (place_at w) t p2 alike ne;
        numbers = record {
          threads = length-set w.places t p2;
          locks = length-set w.locks l lock_then;
          shares = shares_with_count w l t (shares_after p (word_at w l) (share_at w l t));
        };
        sharers = shares_then_count w l t (shares_after p (word_at w l) (share_at w l t));
      }

  -- a place and the section of its lock change
  place_follows : (v : State) (ds : List Deed) → (has_readers r.sort ≡ true → NoHandOff ds) → v.locks
      ≡ w.locks
      → v.shares ≡ w.shares → v.queues ≡ w.queues → v.places ≡ set w.places t p2
      → Steps r l (parts_at w l) (parts_at w l) (place_at w) t p2 ds → SiteFollows w v l (acts t ds)
  place_follows v ds plain el es eq ep steps = follows_by w v l (parts_at w l) (putting (place_at w) t p2)
      (lines_move v (queue_at w (2 * l)) (queue_at w (2 * l + 1)) el es ep
      (ap (λ (qs : List (List Waiter)). get_or qs (2 * l) []) eq)
      (ap (λ (qs : List (List Waiter)). get_or qs (2 * l + 1) []) eq)
      (λ k ne n. ap (λ (qs : List (List Waiter)). get_or qs (key_of k n) []) eq))
      r rules (acts t ds) (λ e. all_by (length w.places) t ds there) (limited w l inductive r rules
      (acts t ds)
      (λ h. ordinary_by (length w.places) t ds there (plain h)) steps.needed) steps.site steps.needed
      (word_by_lines (queue_at w (2 * l)) (queue_at w (2 * l + 1)) (putting (place_at w) t p2))

  -- a place that changes alone
  pub place_goes : (ds : List Deed) → (has_readers r.sort ≡ true → NoHandOff ds)
      → Steps r l (parts_at w l) (parts_at w l) (place_at w) t p2 ds → is ≡ was
      → Goes w (put w t p2) l (acts t ds)
  place_goes ds plain steps e = record {
    follows = place_follows (put w t p2) ds plain refl refl refl refl steps;
    stands = stands_put w (put w t p2) inductive.stands (λ k. refl) t p2 fits (places_put (put w t p2) refl)
        (still (locations_of (place_at w)) locations_now (section_at w) (queue_at w) before t l others_still
        (put_now ∙ e));
  }

  -- nobody is inside a section that is free
  pub nobody_inside : (m : Line) → section_at w (key_of l m) ≡ None → (u : ℕ)
      → (role_on (place_at w u) l).inside ≢ Some m
  nobody_inside m free u h = let a : section_at w (key_of l m) ≡ Some u = (inductive.stands.sections u l m).0
      (sym (inside_is (place_at w u) l) ∙ h) in let b : ◌≡◌ {A = Option ℕ} None (Some u) = sym free ∙ a in cc

  -- the thread does one deed that leaves the lock and its bits as they are
  module _ (hand : taken_at (place_at w t) l ≡ taken_at p2 l) where
    pub goes_into : (m : Line) → ActsNeeded r (acts t (In m ∷ [])) (lock_by w l r) → role_on p2 l
        ≡ record (role_on (place_at w t) l) { inside = Some m } → Steps r l (parts_at w l) (parts_at w l)
        (place_at w) t p2 (In m ∷ [])
    goes_into m needed e = steps_by r l (parts_at w l) (parts_at w l) (place_at w) t p2 (In m ∷ []) needed
        (tt, tt) hand refl refl refl refl (e ∙ sym (put_here (λ u. role_on (place_at w u) l) t _))

    pub finds_none : (m : Line) (d : Role) → ActsNeeded r (acts t (FindNobody m ∷ [])) (lock_by w l r)
        → role_on p2 l ≡ (after_deed r (FindNobody m) (lock_by w l r) t).role t
        → Steps r l (parts_at w l) (parts_at w l) (place_at w) t p2 (FindNobody m ∷ [])
    finds_none m d needed e = steps_by r l (parts_at w l) (parts_at w l) (place_at w) t p2 (FindNobody m ∷ [])
        needed (tt, tt) hand refl refl refl refl e

  -- into a section that is free
  module _ (m : Line) (line : key_of l m < length w.sections) where
    section_then : (who : Option ℕ) (key : ℕ) → key ≢ key_of l m
        → section_at (state_with_sections w (One (key_of l m)) who) key ≡ section_at w key
    section_then who key ne = get_or-set_other w.sections (key_of l m) key who None ne

    pub enter_goes : section_at w (key_of l m) ≡ None → was.inside ≡ None → Steps r l (parts_at w l)
        (parts_at w l) (place_at w) t p2 (In m ∷ []) → is ≡ record was { inside = Some m }
        → Goes w (put (state_with_sections w (One (key_of l m)) (Some t)) t p2) l (acts t (In m ∷ []))
    enter_goes free out steps e = record {
      follows = place_follows v (In m ∷ []) (λ h. tt) refl refl refl refl steps;
      stands = stands_put w v inductive.stands (λ k. refl) t p2 fits (places_put v refl)
          (goes_in (locations_of (place_at w)) locations_now (section_at w) (queue_at w) before t l
          others_still m (section_at v) (section_then (Some t)) free (get_or-set_same w.sections (key_of l m)
          (Some t) None line) out (put_now ∙ e));
    }
      where
        v : State
        v = put (state_with_sections w (One (key_of l m)) (Some t)) t p2

    -- out of its own, where nobody is in its hand
    pub leave_goes : was.inside ≡ Some m → (ds : List Deed) → (has_readers r.sort ≡ true → NoHandOff ds)
        → Steps r l (parts_at w l) (parts_at w l) (place_at w) t p2 ds → is ≡ record was { inside = None }
        → Goes w (put (state_with_sections w (One (key_of l m)) None) t p2) l (acts t ds)
    leave_goes within ds plain steps e = record {
      follows = place_follows v ds plain refl refl refl refl steps;
      stands = stands_put w v inductive.stands (λ k. refl) t p2 fits (places_put v refl)
          (goes_out (locations_of (place_at w)) locations_now (section_at w) (queue_at w) before t l
          others_still m (section_at v) (section_then None) (get_or-set_same w.sections (key_of l m) None None
          line) within (put_now ∙ e));
    }
      where
        v : State
        v = put (state_with_sections w (One (key_of l m)) None) t p2

  -- a line of the lock, before and after
  module _ (m : Line) (v : State) (q : List Waiter) (el : v.locks ≡ w.locks) (eh : v.shares ≡ w.shares)
      (es : v.sections ≡ w.sections) (ep : v.places ≡ set w.places t p2) (here : queue_at v (key_of l m) ≡ q)
      (elsewhere : (key : ℕ) → key ≢ key_of l m → queue_at v key ≡ queue_at w key) where
    line_follows : (ds : List Deed) → (has_readers r.sort ≡ true → NoHandOff ds)
        → Steps r l (parts_at w l) (with_line (parts_at w l) m q) (place_at w) t p2 ds
        → SiteFollows w v l (acts t ds)
    line_follows ds plain steps = by_line m refl
      where
        by_line : (n : Line) → m ≡ n → SiteFollows w v l (acts t ds)
        by_line Main e = follows_by w v l (with_line (parts_at w l) Main q) (putting (place_at w) t p2)
            (lines_move v q (queue_at w (2 * l + 1)) el eh ep (subst (λ n. queue_at v (key_of l n) ≡ q) e
            here) (elsewhere (2 * l + 1) (subst (λ n. 2 * l + 1 ≢ key_of l n) (sym e) (λ h. omega arith)))
            (λ k ne n. elsewhere (key_of k n) (other_key l k m n ne)))
            r rules (acts t ds) (λ e. all_by (length w.places) t ds there)
            (limited w l inductive r rules (acts t ds) (λ h. ordinary_by (length w.places) t ds there
            (plain h)) (subst (λ n. Steps r l (parts_at w l) (with_line (parts_at w l) n q) (place_at w) t
            p2 ds) e steps).needed) (subst (λ n. Steps r l (parts_at w l) (with_line (parts_at w l) n q)
            (place_at w) t p2 ds) e steps).site
            (subst (λ n. Steps r l (parts_at w l) (with_line (parts_at w l) n q) (place_at w) t p2 ds) e
            steps).needed
            (word_by_lines q (queue_at w (2 * l + 1)) (putting (place_at w) t p2))
        by_line Second e = follows_by w v l (with_line (parts_at w l) Second q) (putting (place_at w) t p2)
            (lines_move v (queue_at w (2 * l)) q el eh ep
            (elsewhere (2 * l) (subst (λ n. 2 * l ≢ key_of l n) (sym e) (λ h. omega arith)))
            (subst (λ n. queue_at v (key_of l n) ≡ q) e here) (λ k ne n. elsewhere (key_of k n)
            (other_key l k m n ne)))
            r rules (acts t ds) (λ e. all_by (length w.places) t ds there)
            (limited w l inductive r rules (acts t ds) (λ h. ordinary_by (length w.places) t ds there
            (plain h)) (subst (λ n. Steps r l (parts_at w l) (with_line (parts_at w l) n q) (place_at w) t
            p2 ds) e steps).needed) (subst (λ n. Steps r l (parts_at w l) (with_line (parts_at w l) n q)
            (place_at w) t p2 ds) e steps).site
            (subst (λ n. Steps r l (parts_at w l) (with_line (parts_at w l) n q) (place_at w) t p2 ds) e
            steps).needed
            (word_by_lines (queue_at w (2 * l)) q (putting (place_at w) t p2))

    line_goes : (ds : List Deed) → (has_readers r.sort ≡ true → NoHandOff ds)
        → Steps r l (parts_at w l) (with_line (parts_at w l) m q) (place_at w) t p2 ds
        → ((u : ℕ) → u ≢ t → times u q ≡ times u (queue_at w (key_of l m)))
        → ((n : Line) → times t (queue_at v (key_of l n)) ≡ stood_in is.stands n)
        → (to : Option Line) (wanted : Option Want) → is ≡ record was { stands = to; waits = wanted }
        → ((n : Line) → n ≢ m → stood_in to n ≡ 0) → AreWaiting locations_now l m q → Goes w v l (acts t ds)
    line_goes ds plain steps counts own_count to wanted e to_here lined = record {
      follows = line_follows ds plain steps;
      stands = stands_put w v inductive.stands
          (λ k i. (get_or (el i) k (unlocked kind.Mutex)).kind)
          t p2 fits (places_put v ep)
          (subst (λ (f : ℕ → Option ℕ). AreThere (TakesOne w) locations_now f (queue_at v))
          (λ i key. get_or (sym es i) key None)
          (line_changes (locations_of (place_at w)) locations_now (section_at w) (queue_at w) before t l
          others_still m (queue_at v) elsewhere (λ u ne. ap (times u) here ∙ counts u ne)
          (λ n. own_count n ∙ ap (λ (x : Location). stood_in x.stands n) (sym put_now)) waits_now
          (ap (λ (x : Location). x.inside) (put_now ∙ e)) (ap (λ (x : Location). x.has_taken) (put_now ∙ e))
          (ap (λ (x : Location). x.hand) (put_now ∙ e))));
    }
      where
        waits_now : AllAreWaiting locations_now (queue_at v)
        waits_now k n = elim (cases_eq k l) [
          | inl f ↦ rw f (elim (same_line n m) [
            | inl g ↦ rw (g, here) lined
            | inr ng ↦ waiting_same (locations_of (place_at w)) locations_now l n (queue_at v (key_of l n))
                (subst (AreWaiting (locations_of (place_at w)) l n)
                (sym (elsewhere (key_of l n) (other_line l m n ng))) (inductive.stands.waits l n))
                (λ u g. part_else (λ y. y.waits) l (place_at w) t p2 alike u l
                (λ h i. let a : times t (queue_at v (key_of l n)) ≡ 0 = own_count n
                ∙ ap (λ (y : Location). stood_in y.stands n) e ∙ to_here n ng in let b : 1
                ≤ times t (queue_at v (key_of l n)) = subst (λ j. 1 ≤ times j (queue_at v (key_of l n))) h
                g in omega arith))
          ])
          | inr ne ↦ waiting_same (locations_of (place_at w)) locations_now k n (queue_at v (key_of k n))
              (subst (AreWaiting (locations_of (place_at w)) k n)
              (sym (elsewhere (key_of k n) (other_key l k m n ne))) (inductive.stands.waits k n))
              (λ u g. part_else (λ y. y.waits) l (place_at w) t p2 alike u k (λ h i. ne i))
        ]

  -- how often it stands in a line
  stood : (k : ℕ) (n : Line) → times t (queue_at w (key_of k n)) ≡ stood_in
      (location_at (place_at w t) k).stands n
  stood = inductive.stands.lines t

  pub stood_here : (n : Line) → times t (queue_at w (key_of l n)) ≡ stood_in was.stands n
  stood_here n = stood l n

  -- the thread stands in no line of another lock
  abbrev pub IsOut : Type 0
  IsOut = (k : ℕ) → k ≢ l → (location_at (place_at w t) k).stands ≡ None

  -- a thread that stands nowhere leaves no line
  absent : IsOut → was.stands ≡ None → (k : ℕ) (n : Line) → times t (queue_at w (key_of k n)) ≡ 0
  absent out none k n = elim (cases_eq k l) [
    | inl e ↦ rw e (stood_here n ∙ ap (λ x. stood_in x n) none)
    | inr ne ↦ stood k n ∙ ap (λ x. stood_in x n) (out k ne)
  ]

  same_without : (key : ℕ) → times t (queue_at w key) ≡ 0 → get_or (map (without t) w.queues) key []
      ≡ queue_at w key
  same_without key none = get_or-map (without t) w.queues key [] ∙ without_absent t (queue_at w key) none

  -- each key is that of a line
  by_key : (P : ℕ → Type 0) → ((k : ℕ) (n : Line) → P (key_of k n)) → (key : ℕ) → P key
  by_key P each key = elim (cases_eq (key % 2) 0) [
    | inl e ↦ let k : 2 * (key / 2) ≡ key = omega arith in subst P k (each (key / 2) Main)
    | inr odd ↦ let k : 2 * (key / 2) + 1 ≡ key = omega arith in subst P k (each (key / 2) Second)
  ]

  -- the others in a line, where it isn't
  others_wait : (m : Line) → (1 ≤ times t (queue_at w (key_of l m)) → ⊥) → AreWaiting locations_now l m
      (queue_at w (key_of l m))
  others_wait m out = waiting_same (locations_of (place_at w)) locations_now l m (queue_at w (key_of l m))
      (inductive.stands.waits l m) (λ u g. part_else (λ y. y.waits) l (place_at w) t p2 alike u l
      (λ h i. out (subst (λ j. 1 ≤ times j (queue_at w (key_of l m))) h g)))

  -- the thread stands after the last of a line
  pub park_goes : IsOut → (m : Line) (x : Want) (ds : List Deed) → (has_readers r.sort ≡ true → NoHandOff ds)
      → key_of l m < length w.queues → was.stands ≡ None
      → Steps r l (parts_at w l) (with_line (parts_at w l) m (queue_at w (key_of l m) ++ waiter (key_of l m) t
      x ∷ []))
      (place_at w) t p2 ds
      → is ≡ record was { stands = Some m; waits = Some x }
      → Goes w (put (record w { queues = queues_with_last w.queues (key_of l m) t x }) t p2) l (acts t ds)
  park_goes out m x ds plain line nowhere steps e = line_goes m v afterwards refl refl refl refl line_now
      others
      ds plain steps
      (λ u ne. let a : ◌≡◌ {A = ℕ} (if t == u then 1 else 0) 0 = ap (λ (b : Bool). if b then 1 else 0)
      (differ t u (λ h. ne (sym h))) in let b : times u afterwards ≡ times u (queue_at w (key_of l m))
      + (if t == u then 1 else 0) = times_append u (key_of l m) t x (queue_at w (key_of l m))
      in omega arith)
      (λ n. own_count n (same_line n m) ∙ ap (λ (y : Location). stood_in y.stands n) (sym e)) (Some m)
      (Some x) e (stood_other m)
      (waiting_after locations_now l m (queue_at w (key_of l m)) (waiter (key_of l m) t x)
      (others_wait m (λ g. let a : times t (queue_at w (key_of l m)) ≡ 0 = absent out nowhere l m
      in omega arith)) (refl, ap (λ (y : Location). y.waits) (put_now ∙ e)))
    where
      v : State
      v = put (record w { queues = queues_with_last w.queues (key_of l m) t x }) t p2

      afterwards : List Waiter
      afterwards = queue_at w (key_of l m) ++ waiter (key_of l m) t x ∷ []

      line_now : queue_at v (key_of l m) ≡ afterwards
      line_now = get_or-set_same (map (without t) w.queues) (key_of l m) _ []
          (rw (length-map w.queues (without t)) line) ∙ ap (λ q. q ++ waiter (key_of l m) t x ∷ [])
          (same_without (key_of l m) (absent out nowhere l m))

      others : (key : ℕ) → key ≢ key_of l m → queue_at v key ≡ queue_at w key
      others = by_key (λ key. key ≢ key_of l m → queue_at v key ≡ queue_at w key)
          (λ k n ne. get_or-set_other (map (without t) w.queues) (key_of l m) (key_of k n) _ [] ne
          ∙ same_without (key_of k n) (absent out nowhere k n))

      own_count : (n : Line) → ((n ≡ m) ⊎ (n ≢ m)) → times t (queue_at v (key_of l n)) ≡ stood_in (Some m) n
      own_count n (inl f) = ap (λ y. times t (queue_at v (key_of l y))) f ∙ ap (times t) line_now ∙ one
          ∙ sym (ap (stood_in (Some m)) f ∙ stood_one m)
        where
          one : times t afterwards ≡ 1
          one = let a : times t afterwards ≡ times t (queue_at w (key_of l m)) + (if t == t then 1 else 0) =
              times_append t (key_of l m) t x (queue_at w (key_of l m))
              in let b : times t (queue_at w (key_of l m)) ≡ 0 = absent out nowhere l m
              in let c : ◌≡◌ {A = ℕ} (if t == t then 1 else 0) 1 = ap (λ (y : Bool). if y then 1 else 0)
              (same t) in omega arith
      own_count n (inr ne) = ap (times t) (others (key_of l n) (other_line l m n ne)) ∙ absent out nowhere l n
          ∙ sym (stood_other m n ne)

  -- the thread leaves the line in which it stands
  pub remove_goes : IsOut → (m : Line) (ds : List Deed) → (has_readers r.sort ≡ true → NoHandOff ds)
      → was.stands ≡ Some m
      → Steps r l (parts_at w l) (with_line (parts_at w l) m (without t (queue_at w (key_of l m))))
      (place_at w) t p2 ds
      → is ≡ record was { stands = None; waits = None }
      → Goes w (put (record w { queues = queues_without w.queues t }) t p2) l (acts t ds)
  remove_goes out m ds plain stands steps e = line_goes m v (without t (queue_at w (key_of l m))) refl refl
      refl refl (get_or-map (without t) w.queues (key_of l m) []) others ds plain steps
      (λ u ne. times_without u t (queue_at w (key_of l m)) ne) (λ n. own_count n (same_line n m)
      ∙ ap (λ (y : Location). stood_in y.stands n) (sym e)) None None e (λ n ne. refl) lined
    where
      lined : AreWaiting locations_now l m (without t (queue_at w (key_of l m)))
      lined = waiting_same (locations_of (place_at w)) locations_now l m (without t (queue_at w (key_of l m)))
          (waiting_without (locations_of (place_at w)) l m t (queue_at w (key_of l m))
          (inductive.stands.waits l m))
          (λ u g. part_else (λ y. y.waits) l (place_at w) t p2 alike u l (λ h i. let a : times t
          (without t (queue_at w (key_of l m))) ≡ 0 = times_gone t (queue_at w (key_of l m))
          in let b : 1 ≤ times t (without t (queue_at w (key_of l m))) =
          subst (λ j. 1 ≤ times j (without t (queue_at w (key_of l m)))) h g in omega arith))

      v : State
      v = put (record w { queues = queues_without w.queues t }) t p2

      stood_out : (k : ℕ) (n : Line) → key_of k n ≢ key_of l m → times t (queue_at w (key_of k n)) ≡ 0
      stood_out k n ne = elim (cases_eq k l) [
        | inl f ↦ rw f (stood_here n ∙ ap (λ x. stood_in x n) stands
            ∙ stood_other m n (λ g. ne (λ i. key_of (f i) (g i))))
        | inr nf ↦ stood k n ∙ ap (λ x. stood_in x n) (out k nf)
      ]

      others : (key : ℕ) → key ≢ key_of l m → queue_at v key ≡ queue_at w key
      others = by_key (λ key. key ≢ key_of l m → queue_at v key ≡ queue_at w key)
          (λ k n ne. same_without (key_of k n) (stood_out k n ne))

      own_count : (n : Line) → ((n ≡ m) ⊎ (n ≢ m)) → times t (queue_at v (key_of l n)) ≡ stood_in None n
      own_count n (inl f) = ap (λ y. times t (queue_at v (key_of l y))) f
          ∙ ap (times t) (get_or-map (without t) w.queues (key_of l m) [])
          ∙ times_gone t (queue_at w (key_of l m))
      own_count n (inr ne) = ap (times t) (others (key_of l n) (other_line l m n ne))
          ∙ stood_out l n (other_line l m n ne)

  -- nobody is there to be taken
  pub nobody_goes : (m : Line) (ds : List Deed) → (has_readers r.sort ≡ true → NoHandOff ds)
      → key_of l m < length w.queues
      → queue_at w (key_of l m) ≡ [] → Steps r l (parts_at w l) (parts_at w l) (place_at w) t p2 ds → is ≡ was
      → Goes w (put (record w { queues = queues_without_first w.queues (key_of l m) }) t p2) l (acts t ds)
  nobody_goes m ds plain line empty steps e = record {
    follows = follows_by w v l (parts_at w l) (putting (place_at w) t p2)
        (lines_move v (queue_at w (2 * l)) (queue_at w (2 * l + 1)) refl refl refl (same_queue (2 * l))
        (same_queue (2 * l + 1)) (λ k ne n. same_queue (key_of k n)))
        r rules (acts t ds) (λ e. all_by (length w.places) t ds there) (limited w l inductive r rules
        (acts t ds)
        (λ h. ordinary_by (length w.places) t ds there (plain h)) steps.needed) steps.site steps.needed
        (word_by_lines (queue_at w (2 * l)) (queue_at w (2 * l + 1)) (putting (place_at w) t p2));
    stands = stands_put w v inductive.stands (λ k. refl) t p2 fits (places_put v refl)
        (subst (λ (f : ℕ → List Waiter). AreThere (TakesOne w) locations_now (section_at w) f)
        (λ i key. sym (same_queue key) i)
        (still (locations_of (place_at w)) locations_now (section_at w) (queue_at w) before t l others_still
        (put_now ∙ e)));
  }
    where
      v : State
      v = put (record w { queues = queues_without_first w.queues (key_of l m) }) t p2

      same_queue : (key : ℕ) → queue_at v key ≡ queue_at w key
      same_queue key = elim (cases_eq key (key_of l m)) [
        | inl f ↦ rw f (get_or-set_same w.queues (key_of l m) (drop 1 (queue_at w (key_of l m))) [] line
            ∙ ap (drop 1) empty ∙ sym empty)
        | inr ne ↦ get_or-set_other w.queues (key_of l m) key (drop 1 (queue_at w (key_of l m))) [] ne
      ]
