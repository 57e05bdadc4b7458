-- A notification goes out of both its sections and wakes the threads that it took: both locks are sites
-- again.
use Rattle.lot_laws.proofs.Imports
use Imports.{ℕ, Bool, true, false, Option, Some, None, if◌then◌else◌, ◌==◌, ◌≡◌, ◌≢◌, ◌<◌, [], ◌∷◌, length, map}
use Imports.{get_or, replicate, refl, sym, ◌∙◌, ap, subst, inl, inr, length-set, cases_eq, length-map, Normal}
use Imports.{At, Done, Woken, is_thread, hand, Hand, Location, location_by, Place, Condvar, Idle, taker}
use Imports.{NotifyAt, CondvarPlace, Notify, FollowsAtMutex, condvar_profile, mutex_side, notifiers_follow, code}
use Imports.{IsCondvar, WaitsAside, keep_from, End, Main, Out, Site, has_readers, State, place_after_telling}
use Imports.{place_at, put, queue_at, section_at, state_after_telling, acts, taken_at, role_on, location_at}
use Imports.{GoesAll, IsInductive, Sections, carried_at, condvar_of, hand_at, key_of, rules_in, site_of}
use Imports.{locations_of, notified}
use Rattle.steps_base.specs.declared.acts.Next.TheVariants.{End as Over}
use Rattle.steps_base.specs.Locations.{nowhere}
use Rattle.steps_condvar.specs.declared.notify.NotifyAt.TheVariants as notify
use Rattle.spec_locks.specs.Locks as locks
use Rattle.lot_laws.proofs.machine.Parts as glue
use Rattle.lot_laws.proofs.machine.Parts.{LetGo, parts_at, put_here, put_other, stays, untaken}
use Rattle.lot_laws.proofs.hands.Handed.{CarriesAt}
use Rattle.lot_laws.proofs.sites.OneStep.{same_word}
use Rattle.lot_laws.proofs.sites.Following.{AlikeAt}
use Rattle.lot_laws.proofs.sites.LawsKept.{after_same, needed_same}
use Rattle.lot_laws.proofs.sites.StandsKept.{Alike, calls_in, sections_same}
use Rattle.lot_laws.proofs.sites.StandsMoved.{stands_by, there_in}
use Rattle.lot_laws.proofs.sites.ToldAt.{HoldsHere, SameHands, by_told, calls_then, other_parts, places_are}
use Rattle.lot_laws.proofs.sites.ToldAt as told
use Rattle.lot_laws.proofs.sites.TwoLocks.{AfterIt, follow_two, goes_out_two, two_at}
use Rattle.lot_laws.proofs.condvar.TwoParts.{nothing_there, location_beside, location_there, taken_beside}
use Rattle.lot_laws.proofs.condvar.TwoParts.{nothing_else}
use Rattle.lot_laws.proofs.condvar.Replies as hears
use Rattle.lot_laws.proofs.condvar.Replies.{notifier_hears}
use Rattle.lot_laws.proofs.condvar.MutexUntouched as condvar
use Rattle.lot_laws.proofs.mutex.Hands.{tries}
use Rattle.lot_laws.proofs.condvar.NotifyEnters as both
use Rattle.lot_laws.proofs.mutex.Waiters.{IsHeldThere, calls_mutex_at, held_there, holds_here}
use Rattle.lot_laws.proofs.sites.WakesAt as waking
use Rattle.lot_laws.proofs.sites.WakesAt.{IsWokenAt, leaving_by}

module _ (w : State) (t l m : ℕ) (all : Bool) (inductive : IsInductive w) (is_there : t < length w.places)
    (apart : m ≢ l)
    (sort_l : (rules_in w l).sort ≡ locks.Condvar) (sort_m : (rules_in w m).sort ≡ locks.Mutex)
    (plain : rules_in w m ≡ glue.mutex) (kept : IsCondvar (condvar_of w l))
    (aside : WaitsAside (condvar_of w l) (site_of w m) m)
    (section_l : key_of l Main < length w.sections) (section_m : key_of m Main < length w.sections)
    (number : ℕ) (is : place_at w t ≡ Condvar l (Notify all m (notify.Leave true number))) where
  abbrev leaving : NotifyAt
  leaving = notify.Leave true number

  abbrev this : CondvarPlace
  this = Notify all m leaving

  abbrev side : Location
  side = location_by (mutex_side this)

  location_m : location_at (place_at w t) m ≡ side
  location_m = ap (λ q. location_at q m) is ∙ location_beside l m apart (At this) refl

  location_l : location_at (place_at w t) l ≡ location_by (condvar_profile this)
  location_l = ap (λ q. location_at q l) is ∙ location_there l m apart (At this) refl

  location_else : (k : ℕ) → k ≢ l → k ≢ m → location_at (place_at w t) k ≡ nowhere
  location_else k nl nm = ap (λ q. location_at q k) is ∙ nothing_there l m apart (At this) refl k nl nm

  -- by which lock is looked at
  by_lock : (P : ℕ → Location → Type 0) → P l (location_by (condvar_profile this)) → P m side
      → ((k : ℕ) → P k nowhere) → (k : ℕ)
      → P k (location_at (place_at w t) k)
  by_lock P here beside nothing k = elim (cases_eq k l) [
    | inl e ↦ rw e (subst (P l) (sym location_l) here)
    | inr nl ↦ elim (cases_eq k m) [
      | inl e ↦ rw e (subst (P m) (sym location_m) beside)
      | inr nm ↦ subst (P k) (sym (location_else k nl nm)) (nothing k)
    ]
  ]

  -- the thread stands in no line and no hand, and has somebody in hand at the mutex alone
  carries_here : CarriesAt m (place_at w t)
  carries_here k ne = by_lock (λ k y. k ≢ m → y.has_taken ≡ None) (λ h. refl) (λ h. absurd (h refl))
      (λ k h. refl) k ne

  unheld : (k : ℕ) → hand_at (place_at w t) k ≡ None
  unheld = by_lock (λ k y. y.hand ≡ None) refl refl (λ k. refl)

  same_hands : SameHands m (place_at w t) Idle
  same_hands k ne = (sym (unheld k), sym (carries_here k ne))

  holds : HoldsHere w t m
  holds = holds_here w t m inductive carries_here

  woken : (u : ℕ) (b : Bool) → hand_at (place_at w u) m ≡ hand t b → IsWokenAt w t m Normal (place_at w u)
  woken u b held = by_hand b held (sym (ap (λ (y : Location). y.has_taken) location_m)
      ∙ inductive.stands.hands.taken t u m b held)
    where
      by_hand : (b : Bool) → hand_at (place_at w u) m ≡ hand t b → Some false ≡ Some b
          → IsWokenAt w t m Normal (place_at w u)
      by_hand false held e = let k : IsHeldThere m t (place_at w u) = held_there (place_at w u) t m
          (calls_mutex_at w m (place_at w u) (inductive.stands.calls u) plain) held in
          record {
            lets = tries m t (place_at w u) k;
            goes = k.woken.location;
            alike = k.woken.others;
            fits = k.woken.fits tt w (inductive.stands.calls u);
          }
      by_hand true held e = absurd cc

  abbrev afterwards : ℕ → Place
  afterwards = waking.afterwards w t m inductive is_there Idle same_hands tt holds Normal woken

  all_told : (u : ℕ) (b : Bool) → hand_at (place_at w u) m ≡ hand t b → told.IsToldAt w t m b None
      (Woken Normal) (place_at w u)
  all_told = waking.all_told w t m inductive is_there Idle same_hands tt holds Normal woken

  -- ---------------------------------------------------------------- each lock after it

  abbrev v : State
  v = put (state_after_telling (both.with_both w t l m all inductive is_there apart sort_l sort_m kept aside
      section_l section_m None) t (Woken Normal)) t Idle

  places : place_at v ≡ afterwards
  places = places_are w t m inductive Idle same_hands tt holds (Woken Normal) None all_told
      (both.with_both w t l m all inductive is_there apart sort_l sort_m kept aside section_l section_m None)
      refl is_there

  threads : length v.places ≡ length w.places
  threads = length-set (map (place_after_telling t (Woken Normal)) w.places) t Idle
      ∙ length-map w.places (place_after_telling t (Woken Normal))

  abbrev told_then : ℕ → Place
  told_then u = place_after_telling t (Woken Normal) (place_at w u)

  own_then : afterwards t ≡ Idle
  own_then = put_here told_then t Idle

  -- nobody is in its hand at the condition variable
  nobody_there : (u : ℕ) → hand_at (place_at w u) l ≡ hand t false → ⊥
  nobody_there u h = let a : carried_at (place_at w t) l ≡ Some false = inductive.stands.hands.taken t u l
      false
      h in let b : carried_at (place_at w t) l ≡ None = carries_here l (λ e. apart (sym e)) in
      let c : ◌≡◌ {A = Option Bool} None (Some false) = sym b ∙ a in cc

  lets_there : (u : ℕ) → u ≢ t → LetGo t l (place_at w u) (afterwards u)
  lets_there u ne = subst (LetGo t l (place_at w u)) (sym (put_other told_then t Idle u ne))
      (by_told w t m inductive Idle same_hands tt holds (Woken Normal) None all_told
      (LetGo t l (place_at w u)) u
      (λ held. let z = (all_told u held.handed held.hand).alike l (λ e. apart (sym e)) in let k =
      stays t l (place_at w u) (untaken (place_at w u) t l (nobody_there u)) in record {
        taken = z.taken ∙ k.taken;
        role = z.role ∙ k.role;
      })
      (λ h. stays t l (place_at w u) (untaken (place_at w u) t l (nobody_there u))))

  follows_m : FollowsAtMutex (rules_in w m) (site_of w m) (condvar_of w l) t m all leaving Done
  follows_m = notifiers_follow (rules_in w m) (site_of w m) (condvar_of w l) t m all leaving Done sort_m
      (hears.role_beside w t l this inductive is m refl) (notifier_hears w t l m all leaving inductive kept
      aside is
      refl)

  untaken_m : taken_at (place_at w t) m ≡ None
  untaken_m = ap (λ q. taken_at q m) is ∙ taken_beside l m apart (At this) refl

  same_word_of : (k : ℕ) → (parts_at w k).word ≡ code (rules_in w k) (glue.seen_in (rules_in w k) k
      (parts_at w k) afterwards)
  same_word_of k = inductive.sites.word k ∙ same_word (rules_in w k).sort (rules_in w k).limit _ _ _ _ refl
      refl
      refl refl refl refl

  after_l : AfterIt w v afterwards l (acts t (Out ∷ []))
  after_l = record {
    parts = parts_at w l;
    here = λ i. record (parts_at w l) {
      base = record {
        shared = get_or w.shares l (replicate (threads i) 0);
        filled = (parts_at w l).base.filled;
      };
    };
    led = leaving_by (rules_in w l) l (parts_at w l) (place_at w) afterwards t
        (ap (λ q. taken_at q l) own_then
        ∙ sym (ap (keep_from t) (condvar.untaken w t l m this inductive is_there apart sort_l is refl Done
        tt)))
        lets_there (Out ∷ []) tt
        (ap (λ q. role_on q l) (own_then ∙ sym (put_here (place_at w) t Idle))
        ∙ ap (λ (y : Site). y.role t) (condvar.out_steps w t l m this inductive is_there apart sort_l is refl
        Done tt refl refl).site);
    needed = (condvar.out_steps w t l m this inductive is_there apart sort_l is refl Done tt refl
        refl).needed;
    coded = same_word_of l;
    sharers = refl;
    unshared = ap has_readers sort_l;
    by = λ e. absurd (let both : locks.Condvar ≡ locks.Semaphore = sym sort_l ∙ e in cc);
  }

  after_m : AfterIt w v afterwards m (acts t (Out ∷ End ∷ []))
  after_m = record {
    parts = parts_at w m;
    here = λ i. record (parts_at w m) {
      base = record {
        shared = get_or w.shares m (replicate (threads i) 0);
        filled = (parts_at w m).base.filled;
      };
    };
    led = leaving_by (rules_in w m) m (parts_at w m) (place_at w) afterwards t
        (ap (λ q. taken_at q m) own_then
        ∙ sym (ap (keep_from t) untaken_m)) (waking.lets w t m inductive is_there Idle same_hands tt holds
        Normal
        woken) (Out ∷ End ∷ []) tt
        (ap (λ q. role_on q m) own_then ∙ sym follows_m.role
        ∙ sym (ap (λ (y : Site). y.role t) (after_same (rules_in w m) (Out ∷ End ∷ []) (site_of w m) t)));
    needed = needed_same (rules_in w m) (Out ∷ End ∷ []) (site_of w m) t follows_m.needed;
    coded = same_word_of m;
    sharers = refl;
    unshared = ap has_readers sort_m;
    by = λ e. absurd (let both : locks.Mutex ≡ locks.Semaphore = sym sort_m ∙ e in cc);
  }

  -- ---------------------------------------------------------------- how the threads stand then

  -- all threads but those that the notifier has in hand
  abbrev outside : ℕ → ℕ → Location
  outside u k = if u == t then record (location_at (place_at w u) k) { inside = None } else location_at
      (place_at w u) k

  own_outside : (k : ℕ) → outside t k ≡ record (location_at (place_at w t) k) { inside = None }
  own_outside k = ap (λ b. if b then record (location_at (place_at w t) k) { inside = None }
      else location_at (place_at w t) k) (glue.same t)

  other_outside : (u k : ℕ) → u ≢ t → outside u k ≡ location_at (place_at w u) k
  other_outside u k ne = ap (λ b. if b then record (location_at (place_at w u) k) { inside = None }
      else location_at (place_at w u) k) (glue.differ u t ne)

  else_outside : (u k : ℕ) → (u ≡ t → k ≡ l → ⊥) → (u ≡ t → k ≡ m → ⊥) → outside u k ≡ location_at
      (place_at w u) k
  else_outside u k nl nm = elim (cases_eq u t) [
    | inl e ↦ rw e (own_outside k ∙ ap (λ (y : Location). record y { inside = None })
        (location_else k (nl e) (nm e)) ∙ sym (location_else k (nl e) (nm e)))
    | inr nu ↦ other_outside u k nu
  ]

  inside_then : (u k : ℕ) → (location_at (afterwards u) k).inside ≡ (outside u k).inside
  inside_then u k = elim (cases_eq u t) [
    | inl e ↦ rw e (ap (λ q. (location_at q k).inside) own_then
        ∙ sym (ap (λ (y : Location). y.inside) (own_outside k)))
    | inr nu ↦ other_parts w t m inductive Idle same_hands tt holds (Woken Normal) None all_told
        (λ y. y.inside)
        (λ y h. refl) u k nu ∙ sym (ap (λ (y : Location). y.inside) (other_outside u k nu))
  ]

  sections : Sections (locations_of afterwards) (section_at v)
  sections = sections_same outside (locations_of afterwards) (section_at v)
      (goes_out_two (locations_of (place_at w)) outside (section_at w) (queue_at w)
      (there_in w inductive.stands)
      t l m apart else_outside (section_at v) (both.elsewhere w t l m all inductive is_there apart sort_l
      sort_m kept aside section_l section_m None)
      (both.held_l w t l m all inductive is_there apart sort_l sort_m kept aside section_l section_m None)
      (both.held_m w t l m all inductive is_there apart sort_l sort_m kept aside section_l section_m None)
      (ap (λ (y : Location). y.inside) location_l) (ap (λ (y : Location). y.inside) location_m
      ∙ both.inside_leave w t l m all inductive is_there apart sort_l sort_m kept aside section_l section_m
      true number) (own_outside l) (own_outside m)).sections
      inside_then

  own_hand : None ≡ (if is_thread t (taker (place_at w t)) then None else hand_at (place_at w t) m)
  own_hand = sym (ap (λ o. if is_thread t (taker (place_at w t)) then None else o) (unheld m)
      ∙ either (is_thread t (taker (place_at w t))))
    where
      either : (b : Bool) → ◌≡◌ {A = Option Hand} (if b then None else None) None
      either true = refl
      either false = refl

  pub goes_out_waking_both : GoesAll w v (two_at l m (acts t (Out ∷ [])) (acts t (Out ∷ End ∷ [])))
  goes_out_waking_both = record {
    follows = follow_two w v inductive afterwards places (λ k. refl) (record {
      threads = threads;
      locks = refl;
      shares = refl;
    }) l m others (acts t (Out ∷ [])) (acts t (Out ∷ End ∷ [])) apart after_l after_m;
    stands = stands_by w v afterwards places (λ k. refl)
        (waking.there_then w t m inductive is_there Idle same_hands tt holds Normal woken refl own_hand
        (section_at v) sections (by_lock (λ k y. None ≡ y.stands) refl refl (λ k. refl))
        (by_lock (λ k y. None ≡ y.waits) refl refl (λ k. refl)))
        (λ u. calls_in w v (afterwards u) (λ k. refl) (calls_then w t m inductive Idle same_hands tt holds
        (Woken Normal) None all_told u));
  }
    where
      others : (k : ℕ) → k ≢ l → k ≢ m → (parts_at v k ≡ parts_at w k)
          × ((u : ℕ) → AlikeAt k (place_at w u) (afterwards u))
      others k nl nm = (
        λ i. record (parts_at w k) {
          base = record {
            shared = get_or w.shares k (replicate (threads i) 0);
            filled = (parts_at w k).base.filled;
          };
        },
        told.alike w t m inductive Idle same_hands tt holds (Woken Normal) None all_told k nm (
          own_alike.taken,
          own_alike.role,
        ),
      )
        where
          own_alike : Alike k (place_at w t) Idle
          own_alike = subst (λ q. Alike k q Idle) (sym is) (nothing_else l m apart (At this)
              (Over (notified all number)) refl tt k nl nm)
