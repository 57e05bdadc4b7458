-- A thread acts at a mutex, by its rows there and whatever its call: every lock is a site again. Elsewhere
-- it is as it was.
use Rattle.lot_laws.proofs.Imports
use Imports.{ℕ, Bool, true, false, Option, Some, None, if◌then◌else◌, ◌||◌, ◌≡◌, ◌+◌, ◌*◌, ◌<◌, List, [], ◌∷◌}
use Imports.{length, refl, sym, ◌∙◌, ap, subst, nat_le, or-false, One, Op, Exclusive, apply, shares_then}
use Imports.{with_exclusive, is_thread, Place, owners_after, shares_after, taker, aside_in, code, count_in}
use Imports.{parked_in, word_by, Leave, Rules, one_if_some, putting, Park, keep_from, Case, Clear, Deed, End}
use Imports.{In, Main, Mark, MarkBrought, MarkOwned, Site, has_readers, FindNobody, Second, State, filled_at}
use Imports.{owners_at, place_at, put, queue_at, section_at, share_at, shares_at, state_after_operation}
use Imports.{state_with_sections, word_at, state_after_telling, queues_with_last, queues_without_first}
use Imports.{queues_without, lock_seen, taken_at, acts, role_on, location_at, FitsItsLock, Goes, IsInductive}
use Imports.{after_acts, key_of, rules_in, hand_at, carried_at, stood_in, AreLeaving, Normal, Woken, first_of}
use Imports.{times, without}
use Rattle.std.specs.Prelude.{◌&&◌}
use Rattle.spec_locks.specs.Codes as codes
use Rattle.spec_locks.specs.Deeds as laws
use Rattle.spec_locks.specs.Locks.{Enter}
use Rattle.spec_locks.specs.Locks as locks
use Rattle.lot_laws.specs.Locations.{hand}
use Rattle.lot_laws.proofs.machine.Parts.{lock_in, parts_at, LetGo, stays, untaken, put_here, put_other}
use Rattle.lot_laws.proofs.sites.OneStep.{AreSingle, Steps, same_filled, steps_by, queued_without}
use Rattle.lot_laws.proofs.sites.LawsKept.{after_same, needed_same}
use Rattle.lot_laws.proofs.sites.StandsKept.{AlikeBeside}
use Rattle.lot_laws.proofs.sites.Following.{lock_by, operated, parks, lates}
use Rattle.lot_laws.proofs.sites.ToldAt.{HoldsHere, same_hands}
use Rattle.lot_laws.proofs.sites.WakesAt.{IsWokenAt, leaving_by, wake_goes}
use Rattle.lot_laws.proofs.sites.ActsAt as acting
use Rattle.lot_laws.proofs.hands.Counts.{first_out, aside_kept}

-- a step on the word of a mutex: it is owned, or not, or its bit is set, or cleared
abbrev pub IsOfWord : List Deed → Type 0
IsOfWord [] = Unit {0}
IsOfWord (End ∷ []) = Unit {0}
IsOfWord (Mark Main ∷ []) = Unit {0}
IsOfWord (Clear Main ∷ []) = Unit {0}
IsOfWord (MarkOwned ∷ []) = Unit {0}
IsOfWord (MarkBrought ∷ []) = Unit {0}
IsOfWord (Case (Leave Exclusive) ∷ []) = Unit {0}
IsOfWord (Case (Leave Exclusive) ∷ End ∷ []) = Unit {0}
IsOfWord (Case (Enter Exclusive) ∷ End ∷ []) = Unit {0}
IsOfWord ds = ⊥

-- nothing but the owner and the bit changes
pub record OwnedBy (r : Rules) (ds : List Deed) (s : Site) (t : ℕ) : Type 0 where
  pub single : AreSingle ds
  pub lock : (laws.after_all r ds s t).lock ≡ record s.lock {
    exclusive =
        (laws.after_all r ds s t).lock.exclusive;
  }
  pub aside : (laws.after_all r ds s t).aside_parked ≡ s.aside_parked

pub owned_by : (r : Rules) (ds : List Deed) (s : Site) (t : ℕ) → IsOfWord ds → OwnedBy r ds s t
owned_by r [] s t h = record { single = tt; lock = refl; aside = refl }
owned_by r (End ∷ []) s t h = record { single = (tt, tt); lock = refl; aside = refl }
owned_by r (Mark Main ∷ []) s t h = record { single = (tt, tt); lock = refl; aside = refl }
owned_by r (Clear Main ∷ []) s t h = record { single = (tt, tt); lock = refl; aside = refl }
owned_by r (MarkOwned ∷ []) s t h = record { single = (tt, tt); lock = refl; aside = refl }
owned_by r (MarkBrought ∷ []) s t h = record { single = (tt, tt); lock = refl; aside = refl }
owned_by r (Case (Leave Exclusive) ∷ []) s t h = record { single = (tt, tt); lock = refl; aside = refl }
owned_by r (Case (Leave Exclusive) ∷ End ∷ []) s t h = record {
  single = (tt, (tt, tt));
  lock = refl;
  aside = refl;
}
owned_by r (Case (Enter Exclusive) ∷ End ∷ []) s t h = record {
  single = (tt, (tt, tt));
  lock = refl;
  aside = refl;
}
owned_by r ds s t h = absurd h

-- the bit is read off the word
bit_read : (o : Option ℕ) (b : Bool) → parked_in locks.Mutex (one_if_some o + 2 * codes.bit b) ≡ b
bit_read None true = refl
bit_read None false = refl
bit_read (Some u) true = refl
bit_read (Some u) false = refl

module _ (w : State) (t m : ℕ) (inductive : IsInductive w) (is_there : t < length w.places)
    (sort : (rules_in w m).sort ≡ locks.Mutex)
    (p2 : Place) (alike : AlikeBeside m (place_at w t) p2) (fits : FitsItsLock w p2) where
  abbrev r : Rules
  r = rules_in w m

  abbrev here : Site
  here = lock_by w m r

  unshared : has_readers r.sort ≡ false
  unshared = ap has_readers sort

  plain_so : {A : Type 0} → has_readers r.sort ≡ true → A
  plain_so h = absurd (let e : false ≡ true = sym unshared ∙ h in cc)

  -- a step on the word, by what the laws of its place conclude
  module _ (before : Place) (op : Op) (lt : m < length w.locks) (ds : List Deed)
      (by_owner : OwnedBy r ds here t)
      (no_share : shares_after before (word_at w m) (share_at w m t) ≡ None)
      (needed : laws.AllNeeded r ds here t) (role : (laws.after_all r ds here t).role t ≡ role_on p2 m)
      (owner : (owners_after before t (word_at w m) (owners_at w m)) ≡ with_exclusive (owners_at w m)
      (laws.after_all r ds here t).lock.exclusive)
      (coded : apply op (word_at w m) ≡ code r (laws.after_all r ds here t)) (same_location : location_at p2 m
      ≡ location_at (place_at w t) m) (same_hand : taken_at (place_at w t) m ≡ taken_at p2 m) where
    abbrev afterwards : Site
    afterwards = laws.after_all r ds here t

    lock_then : lock_in (operated w t before m op) (λ u. taken_at (place_at w u) m) ≡ afterwards.lock
    lock_then = ap (λ x. lock_seen (shares_then (shares_at w m) t x) (owners_after before t (word_at w m)
        (owners_at w m)) (queue_at w (2 * m)) (queue_at w (2 * m + 1)) (λ u. taken_at (place_at w u) m))
        no_share
        ∙ ap (λ o. lock_seen (shares_at w m) o (queue_at w (2 * m)) (queue_at w (2 * m + 1))
        (λ u. taken_at (place_at w u) m)) owner ∙ sym by_owner.lock

    code_is : apply op (word_at w m) ≡ one_if_some afterwards.lock.exclusive + 2 * codes.bit afterwards.parked
    code_is = coded ∙ ap (λ x. word_by x r.limit afterwards.lock afterwards.aside_parked afterwards.parked)
        sort

    same_after : after_acts r (acts t ds) here ≡ afterwards
    same_after = after_same r ds here t

    filled_then : (operated w t before m op).base.filled ≡ (after_acts r (acts t ds) here).filled
    filled_then = ap (λ b. filled_at w m || (b && nat_le r.limit (count_in (apply op (word_at w m)))))
        unshared ∙ or-false (filled_at w m) ∙ sym (same_filled r (acts t ds) here unshared)

    steps : Steps r m (parts_at w m) (operated w t before m op) (place_at w) t p2 ds
    steps = steps_by r m (parts_at w m) (operated w t before m op) (place_at w) t p2 ds
        (needed_same r ds here t needed) by_owner.single same_hand
        (lock_then ∙ sym (ap (λ (s : Site). s.lock) same_after))
        (ap (λ x. parked_in x (apply op (word_at w m))) sort ∙ ap (parked_in locks.Mutex) code_is
        ∙ bit_read afterwards.lock.exclusive afterwards.parked ∙ sym (ap (λ (s : Site). s.parked) same_after))
        (ap (λ x. aside_in x (apply op (word_at w m))) sort ∙ sym (ap (λ x. aside_in x (word_at w m)) sort)
        ∙ sym by_owner.aside ∙ sym (ap (λ (s : Site). s.aside_parked) same_after))
        filled_then
        (sym role ∙ sym (ap (λ (s : Site). s.role t) same_after))

    pub works_at : Goes w (put (state_after_operation w t before m op) t p2) m (acts t ds)
    works_at = acting.word_goes w t m inductive is_there r refl p2 alike fits before lt
        (rw inductive.numbers.locks lt) op ds (λ h. plain_so h) steps
        (coded ∙ sym (ap (code r) same_after) ∙ sym (ap (code r) steps.site)) same_location

  -- ---------------------------------------------------------------- sections

  module _ (line : key_of m Main < length w.sections) where
    -- the thread goes into the section
    pub goes_in_at : section_at w (key_of m Main) ≡ None → (location_at (place_at w t) m).inside ≡ None
        → laws.AllNeeded r (In Main ∷ []) here t → (laws.after_all r (In Main ∷ []) here t).role t
        ≡ role_on p2 m
        → location_at p2 m ≡ record (location_at (place_at w t) m) { inside = Some Main }
        → taken_at (place_at w t) m ≡ taken_at p2 m
        → Goes w (put (state_with_sections w (One (key_of m Main)) (Some t)) t p2) m (acts t (In Main ∷ []))
    goes_in_at free outside needed role goes same_hand = acting.enter_goes w t m inductive is_there r refl p2
        alike fits Main line free outside
        (steps_by r m (parts_at w m) (parts_at w m) (place_at w) t p2 (In Main ∷ []) (needed.0, tt) (tt, tt)
        same_hand refl refl refl refl (sym role)) goes

    -- out of it, with nobody in hand
    pub goes_out_at : (location_at (place_at w t) m).inside ≡ Some Main
        → (location_at (place_at w t) m).has_taken ≡ None
        → (ds : List Deed) → AreLeaving ds → laws.AllNeeded r ds here t → (laws.after_all r ds here t).role t
        ≡ role_on p2 m
        → location_at p2 m ≡ record (location_at (place_at w t) m) { inside = None }
        → taken_at (place_at w t) m ≡ taken_at p2 m
        → keep_from t (taken_at (place_at w t) m) ≡ taken_at (place_at w t) m
        → Goes w (put (state_with_sections w (One (key_of m Main)) None) t p2) m (acts t ds)
    goes_out_at within bare ds leaving needed role goes same_hand kept = acting.leave_goes w t m inductive
        is_there r refl p2 alike fits Main line within ds (λ h. plain_so h)
        (record {
          site = leaving_by r m (parts_at w m) (place_at w) (putting (place_at w) t p2) t
              (ap (λ q. taken_at q m) (put_here (place_at w) t p2) ∙ sym same_hand ∙ sym kept)
              (λ u ne. subst (λ q. LetGo t m (place_at w u) q) (sym (put_other (place_at w) t p2 u ne))
              (stays t m (place_at w u) (untaken (place_at w u) t m (λ h. nobody u h))))
              ds leaving (ap (λ q. role_on q m) (put_here (place_at w) t p2) ∙ sym role
              ∙ sym (ap (λ (s : Site). s.role t) (after_same r ds here t)));
          needed = needed_same r ds here t needed;
        }) goes
      where
        nobody : (u : ℕ) → hand_at (place_at w u) m ≡ hand t false → ⊥
        nobody u h = let a : carried_at (place_at w t) m ≡ Some false = inductive.stands.hands.taken t u m
            false
            h in let c : ◌≡◌ {A = Option Bool} None (Some false) = sym bare ∙ a in cc

    -- out of it, and each thread that is in its hand is woken, itself too where it is
    pub goes_out_waking : (holds : HoldsHere w t m)
        (woken : (u : ℕ) (b : Bool) → hand_at (place_at w u) m ≡ hand t b → IsWokenAt w t m Normal
        (place_at w u))
        → (location_at (place_at w t) m).inside ≡ Some Main
        → (location_at p2 m).inside ≡ None → (location_at p2 m).has_taken ≡ None
        → (location_at p2 m).stands ≡ (location_at (place_at w t) m).stands
        → (location_at p2 m).waits ≡ (location_at (place_at w t) m).waits
        → (location_at p2 m).hand ≡ (if is_thread t (taker (place_at w t)) then None
        else (location_at (place_at w t) m).hand)
        → taken_at p2 m ≡ keep_from t (taken_at (place_at w t) m)
        → (ds : List Deed) → AreLeaving ds → laws.AllNeeded r ds here t → (laws.after_all r ds here t).role t
        ≡ role_on p2 m
        → Goes w (put (state_after_telling (state_with_sections w (One (key_of m Main)) None) t
        (Woken Normal)) t p2) m
        (acts t ds)
    goes_out_waking holds woken within out bare stood waited own_hand own_taken ds leaving needed role =
        wake_goes w t m inductive is_there p2 (same_hands m (place_at w t) p2 alike) fits holds Normal woken
        bare
        own_hand alike Main line within stood waited out r refl own_taken
        ds leaving (needed_same r ds here t needed) (sym role
        ∙ sym (ap (λ (s : Site). s.role t) (after_same r ds here t)))

  -- ---------------------------------------------------------------- the first of the line is taken

  module _ (line : key_of m Main < length w.queues) where
    -- there is nobody
    pub finds_nobody_at : queue_at w (key_of m Main) ≡ [] → laws.AllNeeded r (FindNobody Main ∷ []) here t
        → (laws.after_all r (FindNobody Main ∷ []) here t).role t ≡ role_on p2 m → location_at p2 m
        ≡ location_at (place_at w t) m
        → taken_at (place_at w t) m ≡ taken_at p2 m
        → Goes w (put (record w { queues = queues_without_first w.queues (key_of m Main) }) t p2) m
        (acts t (FindNobody Main ∷ []))
    finds_nobody_at empty needed role same_location same_hand = acting.nobody_goes w t m inductive is_there r
        refl p2 alike fits Main (FindNobody Main ∷ []) (λ h. tt) line empty
        (steps_by r m (parts_at w m) (parts_at w m) (place_at w) t p2 (FindNobody Main ∷ []) (needed.0, tt)
        (tt, tt) same_hand refl refl refl refl (sym role)) same_location

    -- the thread stands after the last
    pub stands_at : acting.IsOut w t m inductive is_there r refl p2 alike fits
        → (location_at (place_at w t) m).stands ≡ None → laws.AllNeeded r (Case (Park Exclusive) ∷ []) here t
        → role_on p2 m ≡ record (role_on (place_at w t) m) { retries = None; empty = None }
        → location_at p2 m ≡ record (location_at (place_at w t) m) {
          stands = Some Main;
          waits =
              Some Exclusive;
        }
        → taken_at (place_at w t) m ≡ taken_at p2 m
        → Goes w (put (record w { queues = queues_with_last w.queues (key_of m Main) t Exclusive }) t p2) m
        (acts t (Case (Park Exclusive) ∷ []))
    stands_at out nowhere_else needed role goes same_hand = acting.park_goes w t m inductive is_there r refl
        p2
        alike fits out Main Exclusive (Case (Park Exclusive) ∷ []) (λ h. ((λ k. k), tt)) line nowhere_else
        (parks r m (parts_at w m) (place_at w) t p2 (inductive.sites.site m) same_hand (key_of m Main)
        Exclusive
        (needed.0, tt) role) goes

    -- the thread's time is up, and it leaves the line
    pub leaves_line_at : acting.IsOut w t m inductive is_there r refl p2 alike fits
        → (location_at (place_at w t) m).stands ≡ Some Main → laws.AllNeeded r (Case locks.Late ∷ []) here t
        → (laws.after_all r (Case locks.Late ∷ []) here t).role t ≡ role_on p2 m
        → location_at p2 m ≡ record (location_at (place_at w t) m) { stands = None; waits = None }
        → taken_at (place_at w t) m ≡ taken_at p2 m
        → Goes w (put (record w { queues = queues_without w.queues t }) t p2) m
        (acts t (Case locks.Late ∷ []))
    leaves_line_at out stands needed role goes same_hand = acting.remove_goes w t m inductive is_there r refl
        p2
        alike fits out Main (Case locks.Late ∷ []) (λ h. ((λ k. k), tt)) stands
        (lates r m (parts_at w m) (place_at w) t p2 (inductive.sites.site m) same_hand Main
        (without t (queue_at w (key_of m Main))) (queued_without t (queue_at w (key_of m Main)))
        (sym (aside_kept t (first_of (queue_at w (key_of m Second)))
        (first_out t (queue_at w (key_of m Second)) not_aside))) (needed.0, tt) (sym role)) goes
      where
        not_aside : times t (queue_at w (key_of m Second)) ≡ 0
        not_aside = inductive.stands.lines t m Second ∙ ap (λ o. stood_in o Second) stands

  -- the thread was handed the mutex, and its call goes on
  pub accepts_at : laws.AllNeeded r (End ∷ []) here t → (laws.after_all r (End ∷ []) here t).role t
      ≡ role_on p2 m
      → location_at p2 m ≡ location_at (place_at w t) m → taken_at (place_at w t) m ≡ taken_at p2 m
      → Goes w (put w t p2) m (acts t (End ∷ []))
  accepts_at needed role same_location same_hand = acting.place_goes w t m inductive is_there r refl p2 alike
      fits (End ∷ []) (λ h. tt)
      (steps_by r m (parts_at w m) (parts_at w m) (place_at w) t p2 (End ∷ []) (needed.0, tt) (tt, tt)
      same_hand refl refl refl refl (sym role)) same_location
