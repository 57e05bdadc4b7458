-- A notification moves waiters of a condition variable to its mutex: both are sites again, and every other
-- lock is as it was.
use Rattle.lot_laws.proofs.Imports
use Imports.{◌||◌, ℕ, Bool, true, false, Option, Some, None, if◌then◌else◌, ◌==◌, ◌≡◌, ◌≢◌, ◌+◌, ◌<◌, ◌≤◌, ◌⊎◌}
use Imports.{List, [], ◌∷◌, ◌++◌, length, map, replicate, get_or, drop, inl, inr, refl, sym, ◌∙◌, ap, subst}
use Imports.{arith, Waiter, Exclusive, times, Place, line_of, moved_of, taken_of, queued_of, Bring, Deed, Main}
use Imports.{Second, Send, Site, has_readers, bringing, code, State, kind_at, moved_under, place_at, queue_at}
use Imports.{unlocked, taken_at, acts, role_on, location_at, TakesOne, stood_in, ActsNeeded, AreWaiting}
use Imports.{FitsItsLock, GoesAll, IsInductive, after_acts, key_of, rules_in, locations_of}
use Rattle.spec_locks.specs.declared.kinds.Kind.TheVariants as kind
use Rattle.spec_locks.specs.Locks as locks
use Rattle.lot_laws.proofs.machine.Parts.{parts_at, put_here, put_other, seen_in}
use Rattle.lot_laws.proofs.sites.OneStep.{same_word}
use Rattle.lot_laws.proofs.sites.StandsKept.{Alike, calls_in, other_key, other_line}
use Rattle.lot_laws.proofs.sites.StandsMoved.{AreThere, stands_by}
use Rattle.lot_laws.proofs.sites.Following.{AlikeAt, lock_by}
use Rattle.lot_laws.proofs.semaphore.Permits.{all_by}
use Rattle.lot_laws.proofs.sites.TwoLocks.{AfterIt, follow_two, two_at}
use Rattle.lot_laws.proofs.sites.TakesAt.{AllAre, member, taking_is}
use Rattle.lot_laws.proofs.condvar.Moving.{WaitsAcross, alike_across, by_thread, in_line, fits_across}
use Rattle.lot_laws.proofs.condvar.Moving.{places_across, there_across}

-- each thread that is among waiters is among them under another key
member_under : (u key : ℕ) (q : List Waiter) → member u (moved_under key q) ≡ member u q
member_under u key [] = refl
member_under u key (x ∷ q) = ap (λ b. (x.thread == u) || b) (member_under u key q)

queued_both : (xs ys : List Waiter) → map queued_of (xs ++ ys) ≡ map queued_of xs ++ map queued_of ys
queued_both [] ys = refl
queued_both (x ∷ xs) ys = ap (λ zs. queued_of x ∷ zs) (queued_both xs ys)

module _ (w v : State) (t c m : ℕ) (apart : m ≢ c) (inductive : IsInductive w) (p2 : Place)
    (gone moved left : List Waiter)
    (counts : (u : ℕ) → times u gone + times u moved + times u left ≡ times u (queue_at w (key_of c Main)))
    (lefts : AreWaiting (locations_of (place_at w)) c Main left)
    (waits : (u : ℕ) → 1 ≤ times u (queue_at w (key_of c Main)) → WaitsAcross w t c m (place_at w u))
    (one_gone : (u v : ℕ) → member u gone ≡ true → member v gone ≡ true → u ≡ v)
    (out : (location_at (place_at w t) c).stands ≡ None) (bare : (location_at (place_at w t) m).has_taken
    ≡ None)
    (now_c : location_at p2 c ≡ location_at (place_at w t) c) (any : Option Bool) (now_m : location_at p2 m
    ≡ record (location_at (place_at w t) m) { has_taken = any })
    (alike_t : (k : ℕ) → k ≢ c → k ≢ m → Alike k (place_at w t) p2) (fits : FitsItsLock w p2) where
  abbrev afterwards : ℕ → Place
  afterwards = places_across w t c m apart inductive p2 gone moved left counts lefts waits one_gone out bare
      now_c
      any now_m alike_t fits

  module _ (el : v.locks ≡ w.locks) (eh : v.shares ≡ w.shares) (es : v.sections ≡ w.sections)
      (threads : length v.places ≡ length w.places) (places : place_at v ≡ afterwards)
      (here : queue_at v (key_of c Main) ≡ left) (beside : queue_at v (key_of m Main) ≡ queue_at w
      (key_of m Main) ++ moved_under (key_of m Main) moved) (others : (key : ℕ) → key ≢ key_of c Main
      → key ≢ key_of m Main → queue_at v key ≡ queue_at w key)
      (same_c : (role_on p2 c ≡ role_on (place_at w t) c) × (taken_at p2 c ≡ taken_at (place_at w t) c))
      (same_m : taken_at p2 m ≡ taken_at (place_at w t) m)
      (all owned : Bool) (left_is : map queued_of left
      ≡ (if all then [] else drop 1 (map queued_of (queue_at w (key_of c Main)))))
      (gone_is : map queued_of (moved_under (key_of m Main) gone) ≡ taken_of owned
      (moved_of all (map queued_of (queue_at w (key_of c Main)))))
      (moved_is : map queued_of (moved_under (key_of m Main) moved) ≡ line_of owned
      (moved_of all (map queued_of (queue_at w (key_of c Main))))) where
    abbrev sends : List Deed
    sends = Send all ∷ []

    abbrev will_bring : List Deed
    will_bring = Bring (taken_of owned (moved_of all (map queued_of (queue_at w (key_of c Main)))))
        (line_of owned (moved_of all (map queued_of (queue_at w (key_of c Main))))) ∷ []

    abbrev site_c : Site
    site_c = lock_by w c (rules_in w c)

    abbrev site_m : Site
    site_m = lock_by w m (rules_in w m)

    second_differs : (l : ℕ) → key_of l Second ≢ key_of l Main
    second_differs l = other_line l Main Second (λ e. cc)

    kinds : (k : ℕ) → kind_at v k ≡ kind_at w k
    kinds k i = (get_or (el i) k (unlocked kind.Mutex)).kind

    -- the parts of a lock, by its lines
    parts_by : (k : ℕ) (q s : List Waiter) → queue_at v (key_of k Main) ≡ q → queue_at v (key_of k Second) ≡ s
        → parts_at v k ≡ record (parts_at w k) {
          main = q;
          second = s;
        }
    parts_by k q s e f = λ i. record {
      base = record {
        shared = get_or (eh i) k (replicate (threads i) 0);
        filled = (get_or (el i) k (unlocked kind.Mutex)).filled;
      };
      word = (get_or (el i) k (unlocked kind.Mutex)).word;
      owners = (get_or (el i) k (unlocked kind.Mutex)).owners;
      main = e i;
      second = f i;
    }

    waiter_of : (u : ℕ) → (member u gone ≡ true) ⊎ (member u moved ≡ true)
        → WaitsAcross w t c m (place_at w u)
    waiter_of u h = waits u (in_line w t c m apart inductive p2 gone moved left counts lefts waits one_gone
        out
        bare now_c any now_m alike_t fits u h)

    taken_c : (u : ℕ) → taken_at (afterwards u) c ≡ taken_at (place_at w u) c
    taken_c = by_thread w t c m apart inductive p2 gone moved left counts lefts waits one_gone out bare now_c
        any
        now_m alike_t fits (λ u p. taken_at p c ≡ taken_at (place_at w u) c)
        same_c.1 (λ u nu h. (waiter_of u (inl h)).taken.free_c)
        (λ u nu g h. (waiter_of u (inr h)).moved.free_c) (λ u nu g h. refl)

    role_c : (u : ℕ) → role_on (afterwards u) c ≡ role_on (place_at w u) c
    role_c = by_thread w t c m apart inductive p2 gone moved left counts lefts waits one_gone out bare now_c
        any
        now_m alike_t fits (λ u p. role_on p c ≡ role_on (place_at w u) c)
        same_c.0 (λ u nu h. (waiter_of u (inl h)).taken.did_c) (λ u nu g h. (waiter_of u (inr h)).moved.did_c)
        (λ u nu g h. refl)

    -- the condition variable
    sent : seen_in (rules_in w c) c (record (parts_at w c) { main = left }) afterwards ≡ after_acts
        (rules_in w c)
        (acts t sends) site_c
    sent = λ i. record site_c {
      lock = record site_c.lock { queue = left_is i; taken = λ u. taken_c u i };
      role = λ u. role_c u i;
    }

    -- the waiters taken there, by the threads
    taken_m : (u : ℕ)
        → taken_at (afterwards u) m
        ≡ locks.taking t (map queued_of (moved_under (key_of m Main) gone)) (λ u. taken_at (place_at w u) m) u
    taken_m u = by_thread w t c m apart inductive p2 gone moved left counts lefts waits one_gone out bare
        now_c
        any now_m alike_t fits
        (λ u p. taken_at p m ≡ (if member u gone then Some (record { by = t; want = Exclusive })
        else taken_at (place_at w u) m))
        (same_m ∙ sym (ap (λ b. if b then Some (record { by = t; want = Exclusive }) else taken_at
        (place_at w t) m) (outside_gone t (λ h. not_in t h))))
        (λ u nu h. (waiter_of u (inl h)).taken.held_m
        ∙ sym (ap (λ b. if b then Some (record { by = t; want = Exclusive }) else taken_at (place_at w u)
        m) h))
        (λ u nu g h. (waiter_of u (inr h)).moved.held_m ∙ sym (waiter_of u (inr h)).untaken
        ∙ sym (ap (λ b. if b then Some (record { by = t; want = Exclusive }) else taken_at (place_at w u)
        m) g))
        (λ u nu g h. sym (ap (λ b. if b then Some (record { by = t; want = Exclusive }) else taken_at
        (place_at w u) m) g)) u
        ∙ sym (taking_is t (moved_under (key_of m Main) gone) (λ u. taken_at (place_at w u) m)
        (λ u. Some (record { by = t; want = Exclusive })) u (all_are gone)
        ∙ ap (λ b. if b then Some (record { by = t; want = Exclusive }) else taken_at (place_at w u) m)
        (member_under u (key_of m Main) gone))
      where
        all_are : (xs : List Waiter) → AllAre t (λ u. Some (record { by = t; want = Exclusive }))
            (moved_under (key_of m Main) xs)
        all_are [] = tt
        all_are (x ∷ xs) = (refl, all_are xs)

        not_in : (u : ℕ) → member t gone ≡ true → ⊥
        not_in u h = let a = in_line w t c m apart inductive p2 gone moved left counts lefts waits one_gone
            out
            bare now_c any now_m alike_t fits t (inl h) in
            let b : times t (queue_at w (key_of c Main)) ≡ 0 = inductive.stands.lines t c Main
            ∙ ap (λ o. stood_in o Main) out in omega arith

        outside_gone : (u : ℕ) → (member u gone ≡ true → ⊥) → member u gone ≡ false
        outside_gone u never = either (member u gone) refl
          where
            either : (b : Bool) → member u gone ≡ b → b ≡ false
            either false e = refl
            either true e = absurd (never e)

    module _
        (own : role_on p2 m ≡ bringing
        (taken_of owned (moved_of all (map queued_of (queue_at w (key_of c Main)))))
        (line_of owned (moved_of all (map queued_of (queue_at w (key_of c Main)))))
        (role_on (place_at w t) m)) where
      role_m : (u : ℕ) → role_on (afterwards u) m ≡ (after_acts (rules_in w m) (acts t will_bring) site_m).role u
      role_m = by_thread w t c m apart inductive p2 gone moved left counts lefts waits one_gone out bare now_c
          any now_m alike_t fits (λ u p. role_on p m ≡ (after_acts (rules_in w m) (acts t will_bring) site_m).role
          u)
          (own ∙ sym (put_here (λ u. role_on (place_at w u) m) t _))
          (λ u nu h. (waiter_of u (inl h)).taken.did_m
          ∙ sym (put_other (λ u. role_on (place_at w u) m) t _ u nu))
          (λ u nu g h. (waiter_of u (inr h)).moved.did_m
          ∙ sym (put_other (λ u. role_on (place_at w u) m) t _ u nu))
          (λ u nu g h. sym (put_other (λ u. role_on (place_at w u) m) t _ u nu))

      -- The mutex gets the moved waiters after its last.
      brought : seen_in (rules_in w m) m (record (parts_at w m) {
        main = queue_at w (key_of m Main)
            ++ moved_under (key_of m Main) moved;
      }) afterwards ≡ after_acts (rules_in w m) (acts t will_bring) site_m
      brought = λ i. record site_m {
        lock = record site_m.lock {
          queue = (queued_both (queue_at w (key_of m Main)) (moved_under (key_of m Main) moved)
              ∙ ap (λ zs. map queued_of (queue_at w (key_of m Main)) ++ zs) moved_is) i;
          taken = λ u. (taken_m u ∙ ap (λ zs. locks.taking t zs (λ u. taken_at (place_at w u) m) u) gone_is)
              i;
        };
        role = λ u. role_m u i;
      }

      word_same : (k : ℕ) (q : List Waiter) → (parts_at w k).word ≡ code (rules_in w k)
          (seen_in (rules_in w k) k (record (parts_at w k) { main = q }) afterwards)
      word_same k q = inductive.sites.word k ∙ same_word (rules_in w k).sort (rules_in w k).limit _ _ _ _ refl
          refl refl refl refl refl

      module _ (present : t < length w.places) (unshared_c : has_readers (rules_in w c).sort ≡ false)
          (unshared_m : has_readers (rules_in w m).sort ≡ false)
          (needed_c : ActsNeeded (rules_in w c) (acts t sends) site_c)
          (needed_m : ActsNeeded (rules_in w m) (acts t will_bring) site_m) where
        after_c : AfterIt w v afterwards c (acts t sends)
        after_c = record {
          parts = record (parts_at w c) { main = left };
          here = parts_by c left (queue_at w (key_of c Second)) here (others (key_of c Second)
              (second_differs c) (other_key m c Main Second (λ e. apart (sym e))));
          led = sent;
          needed = needed_c;
          coded = word_same c left;
          sharers = refl;
          unshared = unshared_c;
          by = λ e. all_by (length w.places) t sends present;
        }

        after_m : AfterIt w v afterwards m (acts t will_bring)
        after_m = record {
          parts = record (parts_at w m) {
            main = queue_at w (key_of m Main) ++ moved_under (key_of m Main)
                moved;
          };
          here = parts_by m (queue_at w (key_of m Main) ++ moved_under (key_of m Main) moved)
              (queue_at w (key_of m Second)) beside (others (key_of m Second)
              (other_key c m Main Second apart) (second_differs m));
          led = brought;
          needed = needed_m;
          coded = word_same m (queue_at w (key_of m Main) ++ moved_under (key_of m Main) moved);
          sharers = refl;
          unshared = unshared_m;
          by = λ e. all_by (length w.places) t will_bring present;
        }

        same_else : (k : ℕ) → k ≢ c → k ≢ m → (parts_at v k ≡ parts_at w k)
            × ((u : ℕ) → AlikeAt k (place_at w u) (afterwards u))
        same_else k nc nm = (
          parts_by k (queue_at w (key_of k Main)) (queue_at w (key_of k Second))
              (others (key_of k Main) (other_key c k Main Main nc) (other_key m k Main Main nm))
              (others (key_of k Second) (other_key c k Main Second nc) (other_key m k Main Second nm)),
          λ u. let z = alike_across w t c m apart inductive p2 gone moved left counts lefts waits one_gone out
              bare now_c any now_m alike_t fits k nc nm u in (z.taken, z.role),
        )

        pub moves_kept : ((b : Bool) → any ≡ Some b → (b ≡ false) × ((u : ℕ) × (member u gone ≡ true)))
            → ((u : ℕ) → member u gone ≡ true → any ≡ Some false)
            → GoesAll w v (two_at c m (acts t sends) (acts t will_bring))
        moves_kept some full = record {
          follows = follow_two w v inductive afterwards places kinds (record {
            threads = threads;
            locks = λ i. length (el i);
            shares = λ i. length (eh i);
          }) c m same_else (acts t sends) (acts t will_bring) apart after_c after_m;
          stands = stands_by w v afterwards places kinds
              (subst (λ (f : ℕ → Option ℕ). AreThere (TakesOne w) (locations_of afterwards) f (queue_at v))
              (λ i key. get_or (sym es i) key None)
              (there_across w t c m apart inductive p2 gone moved left counts lefts waits one_gone out bare
              now_c
              any now_m alike_t fits (queue_at v) here beside others some full))
              (λ u. calls_in w v (afterwards u) kinds (fits_across w t c m apart inductive p2 gone moved left
              counts
              lefts waits one_gone out bare now_c any now_m alike_t fits u));
        }
