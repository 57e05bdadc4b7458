-- A thread leaves its section of a lock and lets go each thread that it has in hand there, one or many,
-- itself among them or not: every lock is a site again.
use Rattle.lot_laws.proofs.Imports
use Imports.{Option, ℕ, Bool, true, false, Some, None, if◌then◌else◌, ◌==◌, ◌&&◌, ◌≡◌, ◌≢◌, ◌+◌, ◌*◌, ◌<◌}
use Imports.{replicate, List, [], ◌∷◌, length, get_or, map, inl, inr, refl, sym, ◌∙◌, ap, subst, length-set}
use Imports.{get_or-set_same, get_or-set_other, cases_eq, length-map, One, Note, Place, Woken, AreLeaving}
use Imports.{next_place, Rules, putting, keep_from, Deed, Line, End, Out, idle, wakened, leaves, State}
use Imports.{place_at, filled_at, section_at, queue_at, put, state_with_sections, state_after_telling}
use Imports.{place_after_telling, taken_at, acts, location_at, role_on, ActsNeeded, TakesOne, Hands, Sections}
use Imports.{IsInductive, Goes, FitsItsLock, after_acts, rules_in, key_of, carried_at, hand_at, locations_of}
use Rattle.lot_laws.specs.Locations.{Location, hand}
use Rattle.lot_laws.proofs.semaphore.Permits.{all_by}
use Rattle.lot_laws.proofs.machine.Parts.{Parts, parts_at, lock_in, seen_in, put_here, put_other, LetGo}
use Rattle.lot_laws.proofs.machine.Parts.{stays, untaken}
use Rattle.lot_laws.proofs.sites.ActsAt.{word_by_lines}
use Rattle.lot_laws.proofs.sites.Following.{limited, follows_by, lock_by}
use Rattle.lot_laws.proofs.sites.OneStep.{AreOrdinary}
use Rattle.lot_laws.proofs.sites.ToldAt.{IsToldAt, HoldsHere, SameHands, has, told, places_then, held_here}
use Rattle.lot_laws.proofs.sites.ToldAt.{told_on, told_off, not_held, in_hand, has_taken, alike, calls_then}
use Rattle.lot_laws.proofs.sites.ToldAt.{other_parts, all_parts, places_are}
use Rattle.lot_laws.proofs.sites.StandsKept.{AlikeBeside, left, lines_same, waits_same, hands_freed, calls_in}
use Rattle.lot_laws.proofs.sites.StandsMoved.{AreThere, stands_by}

-- ----------------------------------------------------- leaving a section, whatever threads are woken by it

module _ (r : Rules) (l : ℕ) (a : Parts) (p q : ℕ → Place) (t : ℕ) (own_taken : taken_at (q t) l
    ≡ keep_from t (taken_at (p t) l))
    (others : (u : ℕ) → u ≢ t → LetGo t l (p u) (q u)) where
  taken_now : (u : ℕ) → taken_at (q u) l ≡ keep_from t (taken_at (p u) l)
  taken_now u = elim (cases_eq u t) [
    | inl e ↦ rw e own_taken
    | inr ne ↦ (others u ne).taken
  ]

  out_of : (u : ℕ) → u ≢ t
      → role_on (q u) l ≡ wakened t (taken_at (p u) l) (putting (λ x. role_on (p x) l) t
      (leaves (role_on (p t) l)) u)
  out_of u ne = (others u ne).role
      ∙ sym (ap (wakened t (taken_at (p u) l)) (put_other (λ y. role_on (p y) l) t (leaves (role_on (p t) l))
      u ne))

  pub leaving_by : (ds : List Deed) → AreLeaving ds → role_on (q t) l
      ≡ (after_acts r (acts t ds) (seen_in r l a p)).role t
      → seen_in r l a q ≡ after_acts r (acts t ds) (seen_in r l a p)
  leaving_by (Out ∷ []) h own = λ i. record (seen_in r l a q) {
    lock = lock_in a (λ u. taken_now u i);
    role = λ u. role_now u i;
  }
    where
      role_now : (u : ℕ) → role_on (q u) l ≡ (after_acts r (acts t (Out ∷ [])) (seen_in r l a p)).role u
      role_now u = elim (cases_eq u t) [
        | inl e ↦ rw e own
        | inr ne ↦ out_of u ne
      ]
  leaving_by (Out ∷ End ∷ []) h own = λ i. record (seen_in r l a q) {
    lock = lock_in a (λ u. taken_now u i);
    role = λ u. role_now u i;
  }
    where
      role_now : (u : ℕ) → role_on (q u) l ≡ (after_acts r (acts t (Out ∷ End ∷ [])) (seen_in r l a p)).role u
      role_now u = elim (cases_eq u t) [
        | inl e ↦ rw e own
        | inr ne ↦ out_of u ne ∙ sym (put_other (λ x. wakened t (taken_at (p x) l)
            (putting (λ y. role_on (p y) l) t (leaves (role_on (p t) l)) x)) t idle u ne)
      ]
  leaving_by ds h own = absurd h

pub leaving_ordinary : (n t : ℕ) (ds : List Deed) → AreLeaving ds → AreOrdinary n (acts t ds)
leaving_ordinary n t (Out ∷ []) h = (tt, tt)
leaving_ordinary n t (Out ∷ End ∷ []) h = (tt, (tt, tt))
leaving_ordinary n t ds h = absurd h

-- where a thread goes that t had in hand at the lock, and lets go
pub record IsWokenAt (w : State) (t l : ℕ) (x : Note) (p : Place) : Type 0 where
  pub lets : LetGo t l p (next_place p (Woken x))
  pub goes : location_at (next_place p (Woken x)) l ≡ record (location_at p l) { hand = None }
  pub alike : AlikeBeside l p (next_place p (Woken x))
  pub fits : FitsItsLock w (next_place p (Woken x))

module _ (w : State) (t l : ℕ) (inductive : IsInductive w) (there : t < length w.places) (p2 : Place)
    (beside : SameHands l (place_at w t) p2) (fits : FitsItsLock w p2) (holds : HoldsHere w t l) (x : Note)
    (woken : (u : ℕ) (b : Bool) → hand_at (place_at w u) l ≡ hand t b → IsWokenAt w t l x (place_at w u))
  where
    pub all_told : (u : ℕ) (b : Bool) → hand_at (place_at w u) l ≡ hand t b → IsToldAt w t l b None (Woken x)
        (place_at w u)
    all_told u b held = let k = woken u b held in record { goes = k.goes; alike = k.alike; fits = k.fits }

    abbrev pub is_told : ℕ → Bool
    is_told = has w t l inductive p2 beside fits holds (Woken x) None all_told

    abbrev pub afterwards : ℕ → Place
    afterwards = places_then w t l inductive p2 beside fits holds (Woken x) None all_told

    abbrev told_now : ℕ → Place
    told_now = told w t l inductive p2 beside fits holds (Woken x) None all_told

    -- each other thread is let go, or stays
    pub lets : (u : ℕ) → u ≢ t → LetGo t l (place_at w u) (afterwards u)
    lets u ne = subst (λ (y : Place). LetGo t l (place_at w u) y) (sym (put_other told_now t p2 u ne))
        (either (is_told u) refl)
      where
        either : (b : Bool) → is_told u ≡ b → LetGo t l (place_at w u) (told_now u)
        either true h = let held = held_here w t l inductive p2 beside fits holds (Woken x) None all_told u h
            in subst (λ (y : Place). LetGo t l (place_at w u) y)
            (sym (told_on w t l inductive p2 beside fits holds (Woken x) None all_told u h))
            (woken u held.handed held.hand).lets
        either false h = subst (λ (y : Place). LetGo t l (place_at w u) y)
            (sym (told_off w t l inductive p2 beside fits holds (Woken x) None all_told u h))
            (stays t l (place_at w u) (untaken (place_at w u) t l (not_held w t l inductive p2 beside fits
            holds
            (Woken x) None all_told u h false)))

    abbrev was : Location
    was = location_at (place_at w t) l

    abbrev is : Location
    is = location_at p2 l

    -- t has nobody in hand then, and isn't in its own
    module _ (bare : is.has_taken ≡ None) (own_hand : is.hand ≡ (if is_told t then None else was.hand)) where
      pub hands_then : Hands (TakesOne w) afterwards
      hands_then = hands_freed (TakesOne w) (locations_of (place_at w)) (locations_of afterwards)
          inductive.stands.hands t l is_told (in_hand w t l inductive p2 beside fits holds (Woken x) None
          all_told
          own_hand)
          (λ i k. has_taken w t l inductive p2 beside fits holds (Woken x) None all_told i k
          ∙ ap (λ c. if (i == t) && (k == l) then c else carried_at (place_at w i) k) bare)
          (λ u h. let held = held_here w t l inductive p2 beside fits holds (Woken x) None all_told u h
          in (held.handed, held.hand)) (λ u b h. holds.taker u b h)

      -- how the threads stand, by the sections after it
      pub there_then : (after : ℕ → Option ℕ) → Sections (locations_of afterwards) after
          → ((k : ℕ) → (location_at p2 k).stands ≡ (location_at (place_at w t) k).stands)
          → ((k : ℕ) → (location_at p2 k).waits ≡ (location_at (place_at w t) k).waits)
          → AreThere (TakesOne w) (locations_of afterwards) after (queue_at w)
      there_then after sections stood waited = record {
        sections = sections;
        lines = lines_same (locations_of (place_at w)) (locations_of afterwards) (queue_at w) (queue_at w)
            inductive.stands.lines (all_parts w t l inductive p2 beside fits holds (Woken x) None all_told
            (λ y. y.stands) (λ y h. refl) stood) (λ key. refl);
        waits = waits_same (locations_of (place_at w)) (locations_of afterwards) (queue_at w) (queue_at w)
            inductive.stands.waits (all_parts w t l inductive p2 beside fits holds (Woken x) None all_told
            (λ y. y.waits) (λ y h. refl) waited) (λ key. refl);
        hands = hands_then;
      }

      -- nobody else comes into a section, or goes out of one
      pub others_inside : (u k : ℕ) → u ≢ t → (location_at (afterwards u) k).inside
          ≡ (location_at (place_at w u) k).inside
      others_inside = other_parts w t l inductive p2 beside fits holds (Woken x) None all_told (λ y. y.inside)
          (λ y h. refl)

      -- out of a section of the lock
      module _ (alike_there : AlikeBeside l (place_at w t) p2) (m : Line) (line : key_of l m < length
          w.sections)
          (within : was.inside ≡ Some m) (stood : is.stands ≡ was.stands) (waited : is.waits ≡ was.waits)
          (out : is.inside ≡ None) where
        abbrev pub v : State
        v = put (state_after_telling (state_with_sections w (One (key_of l m)) None) t (Woken x)) t p2

        places : place_at v ≡ afterwards
        places = places_are w t l inductive p2 beside fits holds (Woken x) None all_told
            (state_with_sections w (One (key_of l m)) None) refl there

        -- a part of the station of t
        by_lock : {A : Type 0} (g : Location → A) → g is ≡ g was → (k : ℕ) → g (location_at p2 k)
            ≡ g (location_at (place_at w t) k)
        by_lock g e k = elim (cases_eq k l) [
          | inl f ↦ rw f e
          | inr ne ↦ ap g (alike_there k ne).location
        ]

        inside_else : (u k : ℕ) → (u ≡ t → k ≡ l → ⊥) → (location_at (afterwards u) k).inside
            ≡ (location_at (place_at w u) k).inside
        inside_else u k ne = elim (cases_eq u t) [
          | inl e ↦ rw (e, put_here told_now t p2) (ap (λ (y : Location). y.inside)
              (alike_there k (ne e)).location)
          | inr nu ↦ others_inside u k nu
        ]

        pub wake_goes : (r : Rules) → rules_in w l ≡ r → taken_at p2 l ≡ keep_from t
            (taken_at (place_at w t) l)
            → (ds : List Deed)
            → AreLeaving ds → ActsNeeded r (acts t ds) (lock_by w l r)
            → role_on p2 l ≡ (after_acts r (acts t ds) (lock_by w l r)).role t → Goes w v l (acts t ds)
        wake_goes r rules own_taken ds leaving needed e = record {
          follows = follows_by w v l (parts_at w l) afterwards (record {
            here = λ i. record (parts_at w l) {
              base = record { shared = get_or w.shares l (replicate (threads i) 0); filled = filled_at w l };
            };
            others = λ k ne i. record (parts_at w k) {
              base = record { shared = get_or w.shares k (replicate (threads i) 0); filled = filled_at w k };
            };
            places = places;
            kinds = λ k. refl;
            alike = λ k ne. alike w t l inductive p2 beside fits holds (Woken x) None all_told k ne
                ((alike_there k ne).taken, (alike_there k ne).role);
            numbers = record { threads = threads; locks = refl; shares = refl };
            sharers = refl;
          }) r rules (acts t ds) (λ e. all_by (length w.places) t ds there) (limited w l inductive r rules
              (acts t ds) (λ h. leaving_ordinary (length w.places) t ds leaving) needed)
              (leaving_by r l (parts_at w l) (place_at w) afterwards t
              (ap (λ y. taken_at y l) (put_here told_now t p2) ∙ own_taken) lets ds leaving
              (ap (λ y. role_on y l) (put_here told_now t p2) ∙ e))
              needed (word_by_lines w t l inductive there r rules p2 alike_there fits (queue_at w (2 * l))
              (queue_at w (2 * l + 1)) afterwards);
          stands = stands_by w v afterwards places (λ k. refl)
              (there_then (section_at v)
              (left (locations_of (place_at w)) (locations_of afterwards) (section_at w) (section_at v)
              inductive.stands.sections t l m inside_else (λ key ne. get_or-set_other w.sections (key_of l m)
              key None None ne)
              within (ap (λ y. (location_at y l).inside) (put_here told_now t p2) ∙ out)
              (get_or-set_same w.sections (key_of l m) None None line))
              (by_lock (λ y. y.stands) stood) (by_lock (λ y. y.waits) waited))
              (λ u. calls_in w v (afterwards u) (λ k. refl) (calls_then w t l inductive p2 beside fits holds
              (Woken x)
              None all_told u));
        }
          where
            threads : length v.places ≡ length w.places
            threads = length-set (map (place_after_telling t (Woken x)) w.places) t p2
                ∙ length-map w.places (place_after_telling t (Woken x))
