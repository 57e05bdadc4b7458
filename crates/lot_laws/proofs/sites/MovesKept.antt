-- A thread goes on where its act takes it: every lock is a site again. No place is named: the row of a place
-- says where the act takes its thread, and the laws of its sort of lock that its deeds may be done.
use Rattle.lot_laws.proofs.Imports
use Imports.{ℕ, Bool, true, false, Option, Some, None, if◌then◌else◌, ◌==◌, ◌≡◌, ◌≢◌, ◌+◌, ◌*◌, ◌≤◌, ◌<◌, List}
use Imports.{[], ◌∷◌, length, map, drop, get_or, cond, not, inl, inr, refl, sym, ◌∙◌, ap, subst, arith}
use Imports.{eqb-true, One, Normal, Op, Waiter, Want, Exclusive, without, first_of, times, apply, Check, Reply}
use Imports.{Wakes, Done, Value, Parked, Took, Picked, Removed, TakenBy, Woken, holds, wakes_taken, StepView}
use Imports.{Hears}
use Imports.{StaysPut, GoesIn, Parks, Picks, TakesAside, LeavesLine, GoesOut, Sleeps, IsHeld, AreOfWord}
use Imports.{AreLeaving, parks_in, inside_of, location_of, location_then, Profile, Of, hand, in_hand}
use Imports.{taken_from, CallWaits, Location, location_by, want_in_line, Place, next_place, profile}
use Imports.{profile_at_mutex, wants, taker, called_lock, is_lock, calls, beside_of, Idle, lock_picker}
use Imports.{lock_picked, without_lock_picked, is_thread, Rules, Pending, IsSomePending, Park, Aside, TakeAside}
use Imports.{TakePicked, Wake, is_recursive, HandOff, keep_from, one_if_some, putting, standing, queued_of}
use Imports.{Role, Pends, wakened, is_empty, Site, IsSite, Deed, Line, Main, Second, End, In, Out, Mark, Clear}
use Imports.{FindNobody, Case, has_readers, idle, code, State, place_at, word_at, queue_at, section_at, put}
use Imports.{state_with_sections, state_after_operation, state_after_telling, state_after_leave}
use Imports.{state_after_park, queues_with_last, queues_without, queues_without_first, is_there}
use Imports.{state_after_reply, state_after_taking, state_after_take_first, state_after_take, reply_to_take}
use Imports.{sharers_in_hand, successor_from, want_of_successor, taken_at, acts, location, location_at, role_on}
use Imports.{locations_of, ActsNeeded, AreWaiting, IsInductive, Goes, FitsItsLock, TakesOne, after_acts}
use Imports.{rules_in, key_of, stood_in, carried_at, hand_at}
use Rattle.steps_base.specs.declared.acts.TakeWhich.TheVariants as whom
use Rattle.steps_base.specs.Locations.{nowhere}
use Rattle.spec_locks.specs.Locks as locks
use Rattle.spec_locks.specs.Deeds as laws
use Rattle.lot_laws.proofs.hands.Counts.{without_absent, first_times, none_first, first_out, aside_kept}
use Rattle.lot_laws.proofs.machine.Parts.{free_of, held_calls, IsOf, IsLock, IsInHandOf, in_hand_where}
use Rattle.lot_laws.proofs.machine.Parts.{held_tells, aparts, nothing_at, next_of, inside_is, parts_at}
use Rattle.lot_laws.proofs.machine.Parts.{lock_in, same, put_here, role_here, location_here, of_single}
use Rattle.lot_laws.proofs.machine.Parts.{IsSingle, single_taken, single_wants, of_lock}
use Rattle.lot_laws.proofs.hands.Handed.{lets_nobody}
use Rattle.lot_laws.proofs.sites.OneStep.{AreSingle, HasOneCase, steps_by, empty_line, queued_times}
use Rattle.lot_laws.proofs.sites.OneStep.{queued_without}
use Rattle.lot_laws.proofs.sites.ActsKept.{NoHandOff, lock_by, operated, site_by, with_line, place_goes}
use Rattle.lot_laws.proofs.sites.ActsKept.{enter_goes, leave_goes, nobody_inside, park_goes, parks, asides}
use Rattle.lot_laws.proofs.sites.ActsKept.{lates, remove_goes, nobody_goes, finds_none}
use Rattle.lot_laws.proofs.sites.LawsKept.{after_same, needed_same, lawful_goes}
use Rattle.lot_laws.proofs.sites.TakesKept.{IsTakenFrom, member, member_times, at_most_one, told_places}
use Rattle.lot_laws.proofs.sites.TakesKept.{told_once}
use Rattle.lot_laws.proofs.sites.PicksKept.{AllUnder, under_of, picked_counts, left_tied, picked_goes}
use Rattle.lot_laws.proofs.sites.PicksKept.{aside_goes}
use Rattle.lot_laws.proofs.hands.AnyPicked.{any_in, any_held, held_any}
use Rattle.lot_laws.proofs.sites.StandsKept.{in_main}
use Rattle.lot_laws.proofs.sites.WakesAt.{IsWokenAt}
use Rattle.lot_laws.proofs.sites.WakesKept.{woken_of, leaving_by, wake_goes}

-- ---------------------------------------------------------------- deeds of a step on the word

pub single_of : (ds : List Deed) → AreOfWord ds → AreSingle ds
single_of [] h = tt
single_of (End ∷ []) h = (tt, tt)
single_of (Mark m ∷ []) h = (tt, tt)
single_of (Clear m ∷ []) h = (tt, tt)
single_of (Case Wake ∷ ds) h = absurd h
single_of (Case (HandOff right successor) ∷ ds) h = absurd h
single_of (Case case ∷ []) h = (tt, tt)
single_of (Case case ∷ End ∷ []) h = (tt, (tt, tt))
single_of (Case case ∷ Mark m ∷ []) h = (tt, (tt, tt))
single_of (Case case ∷ Clear m ∷ []) h = (tt, (tt, tt))
single_of ds h = absurd h

one_of : (ds : List Deed) → AreOfWord ds → HasOneCase ds
one_of [] h = tt
one_of (End ∷ []) h = tt
one_of (Mark m ∷ []) h = tt
one_of (Clear m ∷ []) h = tt
one_of (Case Wake ∷ ds) h = absurd h
one_of (Case (HandOff right successor) ∷ ds) h = absurd h
one_of (Case case ∷ []) h = tt
one_of (Case case ∷ End ∷ []) h = (tt, tt)
one_of (Case case ∷ Mark m ∷ []) h = (tt, tt)
one_of (Case case ∷ Clear m ∷ []) h = (tt, tt)
one_of ds h = absurd h

plain_of : (ds : List Deed) → AreOfWord ds → NoHandOff ds
plain_of [] h = tt
plain_of (End ∷ []) h = tt
plain_of (Mark m ∷ []) h = tt
plain_of (Clear m ∷ []) h = tt
plain_of (Case Wake ∷ ds) h = absurd h
plain_of (Case (HandOff right successor) ∷ ds) h = absurd h
plain_of (Case case ∷ []) h = ((λ k. k), tt)
plain_of (Case case ∷ End ∷ []) h = ((λ k. k), tt)
plain_of (Case case ∷ Mark m ∷ []) h = ((λ k. k), tt)
plain_of (Case case ∷ Clear m ∷ []) h = ((λ k. k), tt)
plain_of ds h = absurd h

leaving_plain : (ds : List Deed) → AreLeaving ds → NoHandOff ds
leaving_plain (Out ∷ []) h = tt
leaving_plain (Out ∷ End ∷ []) h = tt
leaving_plain ds h = absurd h

-- one writer is pending
pending_one : (p : Option Pending) (t u : ℕ) → IsSomePending p t → IsSomePending p u → t ≡ u
pending_one None t u h g = absurd h
pending_one (Some p) t u h g = sym h ∙ g

module _ (w : State) (t l : ℕ) (inductive : IsInductive w) (there : t < length w.places)
    (own : IsOf l (place_at w t)) (r : Rules)
    (rules : rules_in w l ≡ r) (x : StepView) (same_row : profile (place_at w t) ≡ x.row) where
  abbrev pub here : Site
  here = lock_by w l r

  -- tells what the laws conclude of what it is told
  pub record IsFollowed (whom : Option ℕ) (told : Reply) (p2 : Place) : Type 0 where
    pub of : IsOf l p2
    pub fits : FitsItsLock w p2
    pub row : profile p2 ≡ x.next told
    pub needed : laws.AllNeeded r (x.deeds whom told) here t
    pub role : (laws.after_all r (x.deeds whom told) here t).role t ≡ (x.next told).role

  pub location_is : location (place_at w t) ≡ location_of x
  location_is = ap location_by same_row

  pub site : IsSite r here
  site = site_by w t l inductive own there r rules (place_at w t) own (inductive.stands.calls t)

  pub word_is : word_at w l ≡ code r here
  word_is = inductive.sites.word l ∙ (λ i. code (rules i) (lock_by w l (rules i)))

  module _ (whom : Option ℕ) (told : Reply) (p2 : Place) (f : IsFollowed whom told p2) where
    pub there_is : location p2 ≡ location_then x told
    there_is = ap location_by f.row

    own_then : role_on p2 l ≡ (laws.after_all r (x.deeds whom told) here t).role t
    own_then = role_here l p2 f.of ∙ ap (λ (y : Profile). y.role) f.row ∙ sym f.role

    -- by the names of its deeds
    pub needed_by : (ds : List Deed) → x.deeds whom told ≡ ds → ActsNeeded r (acts t ds) here
    needed_by ds e = subst (λ ds. ActsNeeded r (acts t ds) here) e (needed_same r (x.deeds whom told) here t
        f.needed)

    pub own_by : (ds : List Deed) → x.deeds whom told ≡ ds
        → role_on p2 l ≡ (after_acts r (acts t ds) here).role t
    own_by ds e = own_then ∙ ap (λ ds. (laws.after_all r ds here t).role t) e
        ∙ sym (ap (λ (s : Site). s.role t) (after_same r ds here t))

  -- ---------------------------------------------------------------- the word

  pub stays : (readers : has_readers r.sort ≡ true) (p p2 : Place) (op : Op) → l < length w.locks → StaysPut x
      → IsFollowed None (Value (word_at w l)) p2
      → lock_in (operated w t p l op) (λ u. taken_at (place_at w u) l)
      ≡ (laws.after_all r (x.deeds None (Value (word_at w l))) here t).lock
      → apply op (word_at w l) ≡ code r (laws.after_all r (x.deeds None (Value (word_at w l))) here t)
      → Goes w (put (state_after_operation w t p l op) t p2) l (acts t (x.deeds None (Value (word_at w l))))
  stays readers p p2 op lt g f owners word = lawful_goes w t l inductive own there r rules p2 f.of f.fits
      readers
      p op (x.deeds None (Value (word_at w l)))
      (record {
        needed = f.needed;
        role = sym (own_then None (Value (word_at w l)) p2 f);
        owners = owners;
        word = word;
      })
      (single_of (x.deeds None (Value (word_at w l))) (g.deeds (word_at w l)))
      (one_of (x.deeds None (Value (word_at w l))) (g.deeds (word_at w l))) lt
      (plain_of (x.deeds None (Value (word_at w l))) (g.deeds (word_at w l)))
      (free_of (place_at w t) l (of_single l (place_at w t) own) (ap (λ (y : Location). y.hand) location_is
      ∙ g.free) ∙ sym (free_of p2 l (of_single l p2 f.of) (ap (λ (y : Location). y.hand)
      (there_is None (Value (word_at w l)) p2 f ∙ g.goes (word_at w l)) ∙ g.free)))
      (there_is None (Value (word_at w l)) p2 f ∙ g.goes (word_at w l) ∙ sym location_is)

  -- ---------------------------------------------------------------- sections

  module _ (hears : Hears) (m : Line) where
    pub free_line : section_at w (key_of l m) ≡ None → (u : ℕ) → (here.role u).inside ≢ Some m
    free_line = nobody_inside w t l inductive own there r rules (place_at w t) own (inductive.stands.calls t)
        m

    goes_in_by : (told : Reply) (p2 : Place) → key_of l m < length w.sections → section_at w (key_of l m)
        ≡ None
        → GoesIn x hears m told → IsFollowed None told p2
        → Goes w (put (state_with_sections w (One (key_of l m)) (Some t)) t p2) l (acts t (x.deeds None told))
    goes_in_by told p2 line free g f =
        subst (λ ds. Goes w (put (state_with_sections w (One (key_of l m)) (Some t)) t p2) l (acts t ds))
        (sym g.deeds)
        (enter_goes w t l inductive own there r rules p2 f.of f.fits m line free
        (ap (λ (y : Location). y.inside) location_is ∙ g.out)
        (steps_by r l (parts_at w l) (parts_at w l) (place_at w) t p2 (In m ∷ [])
        (needed_by None told p2 f (In m ∷ []) g.deeds) (tt, tt)
        (free_of (place_at w t) l (of_single l (place_at w t) own) (ap (λ (y : Location). y.hand) location_is
        ∙ g.free) ∙ sym (free_of p2 l (of_single l p2 f.of) (ap (λ (y : Location). y.hand)
        (there_is None told p2 f ∙ g.goes) ∙ g.free)))
        refl refl refl refl (own_by None told p2 f (In m ∷ []) g.deeds))
        (there_is None told p2 f ∙ g.goes
        ∙ sym (ap (λ (y : Location). record y { inside = Some m }) location_is)))

    -- tells what it is told there
    pub entered_hears : (told : Reply) → section_at w (key_of l m) ≡ None → GoesIn x hears m told
        → hears r here t None told
    entered_hears told free g = g.may r here t (free_line free)

    -- into a section that is free
    pub goes_in : (told : Reply) (p2 : Place) → key_of l m < length w.sections → section_at w (key_of l m)
        ≡ None
        → GoesIn x hears m told → (hears r here t None told → IsFollowed None told p2)
        → Goes w (put (state_with_sections w (One (key_of l m)) (Some t)) t p2) l (acts t (x.deeds None told))
    goes_in told p2 line free g followed =
        goes_in_by told p2 line free g (followed (entered_hears told free g))

    -- out of its own, where it has nobody in hand
    pub goes_out_alone : (p2 : Place) → key_of l m < length w.sections → (g : AreLeaving (x.deeds None Done))
        → (location_of x).inside ≡ Some m → (location_of x).has_taken ≡ None → (location_of x).hand ≡ None
        → location_then x Done ≡ record (location_of x) {
          inside = None;
          has_taken = None;
        } → IsFollowed None Done p2
        → Goes w (put (state_with_sections w (One (key_of l m)) None) t p2) l (acts t (x.deeds None Done))
    goes_out_alone p2 line leaving within bare free out f = leave_goes w t l inductive own there r rules p2
        f.of
        f.fits m line (ap (λ (y : Location). y.inside) location_is ∙ within) (x.deeds None Done)
        (λ h. leaving_plain (x.deeds None Done) leaving)
        (record {
          site = leaving_by r l (parts_at w l) (place_at w) (putting (place_at w) t p2) t
              (free_of (place_at w t) l (of_single l (place_at w t) own) (ap (λ (y : Location). y.hand)
              location_is ∙ free))
              (ap (λ y. taken_at y l) (put_here (place_at w) t p2) ∙ free_of p2 l (of_single l p2 f.of)
              (ap (λ (y : Location). y.hand) (there_is None Done p2 f ∙ out) ∙ free))
              (lets_nobody (place_at w) inductive.stands.hands t l p2 (ap (λ (y : Location). y.has_taken)
              (location_here l (place_at w t) own ∙ location_is) ∙ bare))
              (x.deeds None Done) leaving (ap (λ y. role_on y l) (put_here (place_at w) t p2)
              ∙ own_by None Done p2 f (x.deeds None Done) refl);
          needed = needed_by None Done p2 f (x.deeds None Done) refl;
        })
        (there_is None Done p2 f ∙ out ∙ (λ i. record (location_of x) {
          inside = None;
          has_taken = sym bare i;
        }) ∙ sym (ap (λ (y : Location). record y { inside = None }) location_is))

    -- A thread that goes out wakes each thread that it has in hand.
    goes_out_waking : (p2 : Place) → key_of l m < length w.sections → (g : AreLeaving (x.deeds None Done))
        → (location_of x).inside ≡ Some m → (location_of x).hand ≡ None → location_then x Done
        ≡ record (location_of x) {
          inside = None;
          has_taken = None;
        } → IsFollowed None Done p2
        → ((u : ℕ) (b : Bool) → hand_at (place_at w u) l ≡ hand t b → IsWokenAt w t l Normal (place_at w u))
        → Goes w (put (state_after_telling (state_with_sections w (One (key_of l m)) None) t (Woken Normal)) t
        p2) l
        (acts t (x.deeds None Done))
    goes_out_waking p2 line leaving within free out f woken = wake_goes w t l inductive own there p2 f.of
        f.fits
        Normal woken (ap (λ (y : Location). y.hand) location_is ∙ free)
        (ap (λ (y : Location). y.has_taken) (there_is None Done p2 f ∙ out))
        (ap (λ (y : Location). y.hand) (there_is None Done p2 f ∙ out) ∙ free)
        m line (ap (λ (y : Location). y.inside) location_is ∙ within)
        (ap (λ (y : Location). y.stands) (there_is None Done p2 f ∙ out)
        ∙ sym (ap (λ (y : Location). y.stands) location_is)) (ap (λ (y : Location). y.waits)
        (there_is None Done p2 f ∙ out) ∙ sym (ap (λ (y : Location). y.waits) location_is))
        (ap (λ (y : Location). y.inside) (there_is None Done p2 f ∙ out))
        r rules (free_of (place_at w t) l (of_single l (place_at w t) own)
        (ap (λ (y : Location). y.hand) location_is ∙ free)) (free_of p2 l (of_single l p2 f.of)
        (ap (λ (y : Location). y.hand) (there_is None Done p2 f ∙ out) ∙ free))
        (x.deeds None Done) leaving (needed_by None Done p2 f (x.deeds None Done) refl)
        (own_by None Done p2 f (x.deeds None Done) refl)

    pub left_hears : (wakes : Wakes) → GoesOut x hears m wakes → hears r here t None Done
    left_hears wakes g = g.may r here t (free_of (place_at w t) l (of_single l (place_at w t) own)
        (ap (λ (y : Location). y.hand) location_is ∙ g.free))

    -- by whether it has anybody
    pub goes_out : (wakes : Wakes) (p2 : Place) → key_of l m < length w.sections → GoesOut x hears m wakes
        → (hears r here t None Done → IsFollowed None Done p2)
        → ((u : ℕ) (b : Bool) → hand_at (place_at w u) l ≡ hand t b → IsWokenAt w t l Normal (place_at w u))
        → Goes w (put (state_after_leave w t (One (key_of l m)) wakes) t p2) l (acts t (x.deeds None Done))
    goes_out wakes p2 line g followed woken =
        subst (λ y. Goes w (put (state_after_leave w t (One (key_of l m)) y) t p2) l
        (acts t (x.deeds None Done))) (sym g.notes) (either g.any g.has_taken)
      where
        f : IsFollowed None Done p2
        f = followed (left_hears wakes g)

        either : (b : Bool) → (location_of x).has_taken ≡ in_hand b false
            → Goes w (put (state_after_leave w t (One (key_of l m)) (wakes_taken b Normal)) t p2) l
            (acts t (x.deeds None Done))
        either false e = goes_out_alone p2 line g.deeds g.inside e g.free g.goes f
        either true e = goes_out_waking p2 line g.deeds g.inside g.free g.goes f woken

  -- ---------------------------------------------------------------- lines

  -- a thread that stands in no line and no hand stands nowhere
  pub nowhere_here : (location_of x).stands ≡ None → (location_of x).hand ≡ None → standing t here.lock ≡ 0
  nowhere_here out free =
      let main : locks.times t (map queued_of (queue_at w (2 * l))) ≡ 0 = queued_times t (queue_at w (2 * l))
      ∙ none Main in
      let aside : locks.one_if_thread t (first_of (queue_at w (2 * l + 1))) ≡ 0 =
      first_out t (queue_at w (2 * l + 1)) (none Second) in
      let taken : one_if_some (taken_at (place_at w t) l) ≡ 0 =
      ap one_if_some (free_of (place_at w t) l (of_single l (place_at w t) own)
      (ap (λ (y : Location). y.hand) location_is ∙ free)) in
      omega arith
    where
      none : (n : Line) → times t (queue_at w (key_of l n)) ≡ 0
      none n = inductive.stands.lines t l n ∙ ap (λ (y : Location). stood_in y.stands n)
          (location_here l (place_at w t) own ∙ location_is) ∙ ap (λ o. stood_in o n) out

  module _ (hears : Hears) (m : Line) where
    -- the thread stands after the last of a line, which nobody else stands aside in
    parks_by : (n : Line) → m ≡ n → (want : Want) (p2 : Place) → key_of l n < length w.queues
        → location_of x ≡ inside_of n → x.deeds None (Parked true) ≡ parks_in n want ∷ []
        → location_then x (Parked true) ≡ record (inside_of n) {
          stands = Some n;
          waits = Some want;
        } → IsFollowed None (Parked true) p2
        → Goes w (put (record w { queues = queues_with_last w.queues (key_of l n) t want }) t p2) l
        (acts t (x.deeds None (Parked true)))
    parks_by Main e want p2 line was does parked f =
        subst (λ ds. Goes w (put (record w { queues = queues_with_last w.queues (2 * l) t want }) t p2) l
        (acts t ds)) (sym does)
        (park_goes w t l inductive own there r rules p2 f.of f.fits Main want (Case (Park want) ∷ [])
        (λ h. ((λ k. k), tt)) line (ap (λ (y : Location). y.stands) (location_is ∙ was))
        (parks r l (parts_at w l) (place_at w) t p2 site (hands p2 was parked f) (2 * l) want
        (needed_by None (Parked true) p2 f (Case (Park want) ∷ []) does)
        (own_by None (Parked true) p2 f (Case (Park want) ∷ []) does
        ∙ put_here (λ u. role_on (place_at w u) l) t _))
        (there_is None (Parked true) p2 f ∙ parked ∙ sym (ap (λ (y : Location). record y {
          stands = Some Main;
          waits = Some want;
        }) (location_is ∙ was))))
      where
        hands : (p2 : Place) → location_of x ≡ inside_of Main → location_then x (Parked true)
            ≡ record (inside_of Main) {
              stands = Some Main;
              waits = Some want;
            } → IsFollowed None (Parked true) p2 → taken_at (place_at w t) l ≡ taken_at p2 l
        hands p2 was parked f = free_of (place_at w t) l (of_single l (place_at w t) own)
            (ap (λ (y : Location). y.hand) (location_is ∙ was))
            ∙ sym (free_of p2 l (of_single l p2 f.of) (ap (λ (y : Location). y.hand)
            (there_is None (Parked true) p2 f ∙ parked)))
    parks_by Second e want p2 line was does parked f =
        subst (λ ds. Goes w (put (record w { queues = queues_with_last w.queues (2 * l + 1) t want }) t p2) l
        (acts t ds)) (sym does)
        (park_goes w t l inductive own there r rules p2 f.of f.fits Second want (Case Aside ∷ [])
        (λ h. ((λ k. k), tt)) line (ap (λ (y : Location). y.stands) (location_is ∙ was))
        (asides r l (parts_at w l) (place_at w) t p2 site
        (free_of (place_at w t) l (of_single l (place_at w t) own) (ap (λ (y : Location). y.hand)
        (location_is ∙ was)) ∙ sym (free_of p2 l (of_single l p2 f.of)
        (ap (λ (y : Location). y.hand) (there_is None (Parked true) p2 f ∙ parked)))) (2 * l + 1) want
        (none_first (queue_at w (2 * l + 1))
        (nobody_aside (needed_by None (Parked true) p2 f (Case Aside ∷ []) does)))
        (needed_by None (Parked true) p2 f (Case Aside ∷ []) does) (own_by None (Parked true) p2 f
        (Case Aside ∷ []) does ∙ put_here (λ u. role_on (place_at w u) l) t _))
        (there_is None (Parked true) p2 f ∙ parked ∙ sym (ap (λ (y : Location). record y {
          stands = Some Second;
          waits = Some want;
        }) (location_is ∙ was))))
      where
        -- a pending writer that stands nowhere leaves nobody aside
        nobody_aside : ActsNeeded r (acts t (Case Aside ∷ [])) here → first_of (queue_at w (2 * l + 1)) ≡ None
        nobody_aside needed = by_aside (first_of (queue_at w (2 * l + 1))) refl
          where
            by_aside : (o : Option ℕ) → first_of (queue_at w (2 * l + 1)) ≡ o
                → first_of (queue_at w (2 * l + 1)) ≡ None
            by_aside None e = e
            by_aside (Some u) e = absurd (let it : u ≡ t = pending_one here.lock.pending u t
                (site.state.aside_pending u e) needed.0.0.0 in let none : locks.one_if_thread t
                (first_of (queue_at w (2 * l + 1))) ≡ 0 = let all : standing t here.lock ≡ 0 = needed.0.0.2
                in omega arith in let one : locks.one_if_thread t (first_of (queue_at w (2 * l + 1))) ≡ 1 =
                ap (locks.one_if_thread t) e ∙ ap (λ b. if b then 1 else 0) (ap (λ v. v == t) it ∙ same t)
                in omega arith)

    pub parked_hears : (check : Check) (want : Want) → Parks x hears m check want → (b : Bool)
        → holds check (word_at w l) ≡ b
        → hears r here t None (Parked b)
    parked_hears check _ g b e = g.may r here t b (sym e ∙ ap (holds check) word_is)
        (nowhere_here (ap (λ (y : Location). y.stands) g.was) (ap (λ (y : Location). y.hand) g.was))

    -- where the test holds
    pub parks_or_turns : (check : Check) (want : Want) → key_of l m < length w.queues
        → Parks x hears m check want
        → ((b : Bool) → hears r here t None (Parked b) → IsFollowed None (Parked b)
        (next_place (place_at w t) (Parked b)))
        → Goes w
        (put (state_after_park w t l (key_of l m) check want) t
        (next_place (place_at w t) (Parked (holds check (word_at w l))))) l
        (acts t (x.deeds None (Parked (holds check (word_at w l)))))
    parks_or_turns check want line g followed = either (holds check (word_at w l)) refl
      where
        f : (b : Bool) → holds check (word_at w l) ≡ b → IsFollowed None (Parked b)
            (next_place (place_at w t) (Parked b))
        f b e = followed b (parked_hears check want g b e)

        either : (b : Bool) → holds check (word_at w l) ≡ b
            → Goes w (put (if b then record w { queues = queues_with_last w.queues (key_of l m) t want }
            else w) t (next_place (place_at w t) (Parked b))) l (acts t (x.deeds None (Parked b)))
        either true e = parks_by m refl want (next_place (place_at w t) (Parked true)) line g.was g.parks
            g.parked (f true e)
        either false e = subst (λ ds. Goes w (put w t (next_place (place_at w t) (Parked false))) l
            (acts t ds)) (sym g.turns)
            (place_goes w t l inductive own there r rules (next_place (place_at w t) (Parked false))
            (f false e).of (f false e).fits [] (λ h. tt)
            (steps_by r l (parts_at w l) (parts_at w l) (place_at w) t (next_place (place_at w t)
            (Parked false)) [] tt tt
            (free_of (place_at w t) l (of_single l (place_at w t) own) (ap (λ (y : Location). y.hand)
            (location_is ∙ g.was)) ∙ sym (free_of (next_place (place_at w t) (Parked false)) l
            (of_single l (next_place (place_at w t) (Parked false)) (f false e).of)
            (ap (λ (y : Location). y.hand) (there_is None (Parked false)
            (next_place (place_at w t) (Parked false)) (f false e) ∙ g.turned))))
            refl refl refl refl (own_by None (Parked false) (next_place (place_at w t) (Parked false))
            (f false e) [] g.turns))
            (there_is None (Parked false) (next_place (place_at w t) (Parked false)) (f false e) ∙ g.turned
            ∙ sym (location_is ∙ g.was)))

  -- ---------------------------------------------------------------- out of a line

  stood_once : (m n : Line) → (location_of x).stands ≡ Some m → times t (queue_at w (key_of l n))
      ≡ stood_in (Some m) n
  stood_once m n h = inductive.stands.lines t l n ∙ ap (λ (y : Location). stood_in y.stands n)
      (location_here l (place_at w t) own ∙ location_is) ∙ ap (λ o. stood_in o n) h

  module _ (hears : Hears) where
    -- the thread's time is up, and it leaves the line in which it stands
    leaves_by : (m : Line) (b : Bool) (p2 : Place) → LeavesLine x hears m
        → (map queued_of (with_line (parts_at w l) m (without t (queue_at w (key_of l m)))).main
        ≡ locks.without t (map queued_of (queue_at w (2 * l))))
        → (first_of (with_line (parts_at w l) m (without t (queue_at w (key_of l m)))).second
        ≡ locks.aside_without t (first_of (queue_at w (2 * l + 1))))
        → IsFollowed None (Removed b) p2
        → Goes w (put (record w { queues = queues_without w.queues t }) t p2) l
        (acts t (x.deeds None (Removed b)))
    leaves_by m b p2 g mains seconds f =
        subst (λ ds. Goes w (put (record w { queues = queues_without w.queues t }) t p2) l (acts t ds))
        (sym (g.deeds b))
        (remove_goes w t l inductive own there r rules p2 f.of f.fits m (Case locks.Late ∷ [])
        (λ h. ((λ k. k), tt)) (ap (λ (y : Location). y.stands) (location_is ∙ g.was))
        (lates r l (parts_at w l) (place_at w) t p2 site
        (free_of (place_at w t) l (of_single l (place_at w t) own) (ap (λ (y : Location). y.hand)
        (location_is ∙ g.was)) ∙ sym (free_of p2 l (of_single l p2 f.of)
        (ap (λ (y : Location). y.hand) (there_is None (Removed b) p2 f ∙ g.goes b))))
        m (without t (queue_at w (key_of l m))) mains seconds (needed_by None (Removed b) p2 f
        (Case locks.Late ∷ []) (g.deeds b)) (own_by None (Removed b) p2 f (Case locks.Late ∷ [])
        (g.deeds b)))
        (there_is None (Removed b) p2 f ∙ g.goes b
        ∙ sym (ap (λ (y : Location). record y { stands = None; waits = None }) (location_is ∙ g.was))))

    pub removed_main : LeavesLine x hears Main
        → hears r here t None (Removed (length (without t (queue_at w (2 * l))) == 0))
    removed_main g = g.may r here t (length (without t (queue_at w (2 * l))) == 0) (
      stands,
      sym (ap is_empty (sym (queued_without t (queue_at w (2 * l))))
          ∙ empty_line (without t (queue_at w (2 * l)))),
    )
      where
        stands : 1 ≤ locks.times t (map queued_of (queue_at w (2 * l)))
        stands = let a : locks.times t (map queued_of (queue_at w (2 * l))) ≡ 1 =
            queued_times t (queue_at w (2 * l)) ∙ stood_once Main Main (ap (λ (y : Location). y.stands) g.was)
            in omega arith

    pub leaves_main : LeavesLine x hears Main
        → ((b : Bool) → hears r here t None (Removed b) → IsFollowed None (Removed b)
        (next_place (place_at w t) (Removed b)))
        → Goes w
        (put (record w { queues = queues_without w.queues t }) t
        (next_place (place_at w t) (Removed (length (without t (queue_at w (2 * l))) == 0)))) l
        (acts t (x.deeds None (Removed (length (without t (queue_at w (2 * l))) == 0))))
    leaves_main g followed = leaves_by Main (length (without t (queue_at w (2 * l))) == 0)
        (next_place (place_at w t) (Removed (length (without t (queue_at w (2 * l))) == 0))) g
        (queued_without t (queue_at w (2 * l)))
        (sym (aside_kept t (first_of (queue_at w (2 * l + 1))) (first_out t (queue_at w (2 * l + 1))
        (stood_once Main Second (ap (λ (y : Location). y.stands) g.was)))))
        (followed (length (without t (queue_at w (2 * l))) == 0) (removed_main g))

  -- ---------------------------------------------------------------- threads asleep

  -- another thread that calls the lock, and what befalls it
  pub record IsSleeper (u : ℕ) : Type 0 where
    pub single : IsSingle (place_at w u)
    pub move : StepView
    pub row : profile (place_at w u) ≡ move.row
    pub waits : CallWaits move
    pub taken : profile (next_place (place_at w u) (TakenBy t)) ≡ move.next (TakenBy t)
    pub woken : profile (next_place (place_at w u) (Woken Normal)) ≡ move.next (Woken Normal)
    pub taken_fits : FitsItsLock w (next_place (place_at w u) (TakenBy t))
    pub woken_fits : FitsItsLock w (next_place (place_at w u) (Woken Normal))

  -- beside it the lock is named by no call of another
  pub record SleepsIfCalls (u : ℕ) : Type 0 where
    pub apart : is_lock l (beside_of (place_at w u)) ≡ false
    pub sleeper : calls (place_at w u) l ≡ true → IsSleeper u

  -- a thread that has a part in the lock calls it
  by_calls : {A : Type 0} (p : Place) → is_lock l (beside_of p) ≡ false → (g : Location → Option A) (y : A)
      → g nowhere ≡ None
      → g (location_at p l) ≡ Some y → (calls p l ≡ true) × (g (location p) ≡ Some y)
  by_calls p apart g y none h =
      either (calls p l) (ap (λ c. g (if calls p l then location p else if c then location_by
      (profile_at_mutex p) else nowhere)) (sym apart) ∙ h)
    where
      either : (b : Bool) → g (if b then location p else nowhere) ≡ Some y → (b ≡ true)
          × (g (location p) ≡ Some y)
      either true e = (refl, e)
      either false e = absurd (let f : None ≡ Some y = sym none ∙ e in cc)

  called : (p : Place) → IsSingle p → calls p l ≡ true → IsOf l p
  called p single h = of_lock l p single (by_lock (called_lock p) h)
    where
      by_lock : (o : Option ℕ) → is_lock l o ≡ true → IsLock l o
      by_lock None e = tt
      by_lock (Some k) e = eqb-true k l e

  module _ (asleep : (u : ℕ) → SleepsIfCalls u) where
    -- a thread that t has in hand is woken, and tries again, where t has handed nothing over
    pub wakes_one : (any : Bool) → (location_of x).has_taken ≡ in_hand any false → (u : ℕ) (b : Bool)
        → hand_at (place_at w u) l ≡ hand t b → IsWokenAt w t l Normal (place_at w u)
    wakes_one any has_taken u b held = let k = by_calls (place_at w u) (asleep u).apart
        (λ (y : Location). y.hand) (Of t b) refl held
        in by_sleeper (called (place_at w u) ((asleep u).sleeper k.0).single k.0) k.0 k.1
        ((asleep u).sleeper k.0)
      where
        by_sleeper : IsOf l (place_at w u) → calls (place_at w u) l ≡ true → (location (place_at w u)).hand
            ≡ hand t b
            → IsSleeper u → IsWokenAt w t l Normal (place_at w u)
        by_sleeper of_u calls_l h z = by_held (
          fresh,
          z.waits.held t (sym (ap (λ (y : Profile). y.hand) z.row)
              ∙ h ∙ ap (hand t) fresh),
        )
          where
            fresh : b ≡ false
            fresh = by_any any (sym has_taken ∙ sym location_carries ∙ inductive.stands.hands.taken t u l b
                held)
              where
                location_carries : carried_at (place_at w t) l ≡ (location_of x).has_taken
                location_carries = ap (λ (y : Location). y.has_taken) (location_here l (place_at w t) own
                    ∙ location_is)

                by_any : (c : Bool) → in_hand c false ≡ Some b → b ≡ false
                by_any true e = let f : false ≡ b = cc in sym f
                by_any false e = absurd cc

            p2 : Place
            p2 = next_place (place_at w u) (Woken Normal)

            of_2 : IsOf l p2
            of_2 = next_of l (place_at w u) (Woken Normal) of_u

            by_held : (b ≡ false) × IsHeld z.move t → IsWokenAt w t l Normal (place_at w u)
            by_held k = woken_of w t l Normal (place_at w u) b of_u (record {
              taken = free_of p2 l (of_single l p2 of_2) (ap (λ (y : Location). y.hand) free)
                  ∙ sym (ap (keep_from t) taken_now
                  ∙ ap (λ c. if c then None else Some (record { by = t; want = k.1.want })) (same t));
              role = role_here l p2 of_2 ∙ ap (λ (y : Profile). y.role) z.woken ∙ k.1.role
                  ∙ sym (ap (λ (d : Role). record d { retries = Some k.1.want })
                  (role_here l (place_at w u) of_u ∙ ap (λ (y : Profile). y.role) z.row))
                  ∙ sym (ap (λ o. wakened t o (role_on (place_at w u) l)) taken_now
                  ∙ ap (λ c. if c then record (role_on (place_at w u) l) { retries = Some k.1.want }
                  else role_on (place_at w u) l) (same t));
            }) (ap location_by z.row ∙ k.1.was ∙ ap (λ c. record nowhere { hand = hand t c }) (sym k.0)) free
                z.woken_fits
              where
                free : location p2 ≡ nowhere
                free = ap location_by z.woken ∙ k.1.woken

                taken_now : taken_at (place_at w u) l ≡ Some (record { by = t; want = k.1.want })
                taken_now = single_taken (place_at w u) l z.single
                    ∙ (λ i. taken_from ((h ∙ ap (hand t) k.0) i) ((ap (λ (y : Profile). y.wants) z.row
                    ∙ k.1.wants) i) (calls_l i))

    -- a thread that sleeps in a line is taken from there
    taken_from_line : (m : Line) (u : ℕ) → calls (place_at w u) l ≡ true → (z : IsSleeper u) → Sleeps z.move m
        → IsTakenFrom w t l m (place_at w u)
    taken_from_line m u calls_l z k = record {
      calls = of_u;
      wanted = Some k.want;
      was = ap location_by z.row ∙ k.was;
      free = free;
      calls_then = of_2;
      role = role_here l p2 of_2 ∙ ap (λ (y : Profile). y.role) z.taken ∙ k.role t
          ∙ sym (role_here l (place_at w u) of_u ∙ ap (λ (y : Profile). y.role) z.row);
      held = λ y e. let same_want : k.want ≡ y = cc in single_taken p2 l (of_single l p2 of_2)
          ∙ (λ i. taken_from ((ap (λ (y : Location). y.hand) free) i) ((ap (λ (y : Profile). y.wants) z.taken
          ∙ k.wants t ∙ ap Some same_want) i) (held_calls p2 l of_2 (Of t false)
          (ap (λ (y : Location). y.hand) free) i));
      fits = z.taken_fits;
    }
      where
        p2 : Place
        p2 = next_place (place_at w u) (TakenBy t)

        of_u : IsOf l (place_at w u)
        of_u = called (place_at w u) z.single calls_l

        of_2 : IsOf l p2
        of_2 = next_of l (place_at w u) (TakenBy t) of_u

        free : location p2 ≡ record nowhere { hand = hand t false }
        free = ap location_by z.taken ∙ k.taken t

    record IsAsleepIn (m : Line) (u : ℕ) : Type 0 where
      pub calls_l : calls (place_at w u) l ≡ true
      pub sleeper : IsSleeper u
      pub sleeps : Sleeps sleeper.move m

    -- Each thread in a line sleeps there, while t is inside its section and stands in none.
    asleep_in : (m : Line) (u : ℕ) → location_of x ≡ inside_of m → (location_at (place_at w u) l).stands
        ≡ Some m → IsAsleepIn m u
    asleep_in m u inside stands = let k = by_calls (place_at w u) (asleep u).apart
        (λ (y : Location). y.stands) m refl stands in by_sleeper k.0 k.1 ((asleep u).sleeper k.0)
      where
        by_sleeper : calls (place_at w u) l ≡ true → (location (place_at w u)).stands ≡ Some m
            → (z : IsSleeper u) → IsAsleepIn m u
        by_sleeper calls_l h z = elim (z.waits.stands m (sym (ap (λ (y : Profile). y.stands) z.row) ∙ h)) [
          | inl within ↦ absurd (let it : u ≡ t = site.alone u t m (inside_is (place_at w u) l
              ∙ ap (λ (y : Location). y.inside) (location_here l (place_at w u)
              (called (place_at w u) z.single calls_l) ∙ ap location_by z.row) ∙ within)
              (inside_is (place_at w t) l ∙ ap (λ (y : Location). y.inside)
              (location_here l (place_at w t) own ∙ location_is ∙ inside)) in
              let out : (location_at (place_at w t) l).stands ≡ None = ap (λ (y : Location). y.stands)
              (location_here l (place_at w t) own ∙ location_is ∙ inside) in
              let in_line : (location_at (place_at w t) l).stands ≡ Some m =
              subst (λ j. (location_at (place_at w j) l).stands ≡ Some m) it stands in
              let both : ◌≡◌ {A = Option Line} None (Some m) = sym out ∙ in_line in cc)
          | inr k ↦ record { calls_l = calls_l; sleeper = z; sleeps = k }
        ]

    pub sleeps_in : (m : Line) (u : ℕ) → location_of x ≡ inside_of m → (location_at (place_at w u) l).stands
        ≡ Some m
        → IsTakenFrom w t l m (place_at w u)
    sleeps_in m u inside stands = let k = asleep_in m u inside stands in taken_from_line m u k.calls_l
        k.sleeper k.sleeps

    -- ---------------------------------------------------------------- the second line

    stands_aside : (u : ℕ) → 1 ≤ times u (queue_at w (2 * l + 1)) → (location_at (place_at w u) l).stands
        ≡ Some Second
    stands_aside u h = in_second (location_at (place_at w u) l).stands
        (let all : times u (queue_at w (2 * l + 1)) ≡ stood_in (location_at (place_at w u) l).stands Second =
        inductive.stands.lines u l Second in omega arith)
      where
        in_second : (o : Option Line) → 1 ≤ stood_in o Second → o ≡ Some Second
        in_second (Some Second) h = refl
        in_second (Some Main) h = absurd (omega arith)
        in_second None h = absurd (omega arith)

    -- a thread that stands there is the pending owner, and wants to write
    pending_aside : (u : ℕ) → 1 ≤ times u (queue_at w (2 * l + 1)) → IsSomePending here.lock.pending u
    pending_aside u h = let k = by_calls (place_at w u) (asleep u).apart (λ (y : Location). y.stands) Second
        refl (stands_aside u h) in by_sleeper k.0 k.1 ((asleep u).sleeper k.0)
      where
        by_sleeper : calls (place_at w u) l ≡ true → (location (place_at w u)).stands ≡ Some Second
            → (z : IsSleeper u)
            → IsSomePending here.lock.pending u
        by_sleeper calls_l e z = let a = z.waits.aside (sym (ap (λ (y : Profile). y.stands) z.row) ∙ e) in
            let pends : here.lock.pending ≡ Some (record {
              thread = u;
              falls_back = a.1.0;
            }) = site.held u (Pends a.1.0)
            (ap (λ (d : Role). d.claims) (role_here l (place_at w u) (called (place_at w u) z.single
            calls_l) ∙ ap (λ (y : Profile). y.role) z.row) ∙ a.1.1) in
            subst (λ o. IsSomePending o u) (sym pends) refl

    -- the thread stands there alone
    alone_aside : (y : Waiter) (rest : List Waiter) → queue_at w (2 * l + 1) ≡ y ∷ rest → rest ≡ []
    alone_aside y [] e = refl
    alone_aside y (z ∷ rest) e = absurd (
        let first : 1 ≤ times y.thread (queue_at w (2 * l + 1)) =
        rw e (let c : ◌≡◌ {A = ℕ} (if y.thread == y.thread then 1 else 0) 1 =
        ap (λ (b : Bool). if b then 1 else 0) (same y.thread) in omega arith) in
        let second : 1 ≤ times z.thread (queue_at w (2 * l + 1)) =
        rw e (let c : ◌≡◌ {A = ℕ} (if z.thread == z.thread then 1 else 0) 1 =
        ap (λ (b : Bool). if b then 1 else 0) (same z.thread) in omega arith) in
        let it : z.thread ≡ y.thread = pending_one here.lock.pending z.thread y.thread
        (pending_aside z.thread second) (pending_aside y.thread first) in
        let twice : 2 ≤ times y.thread (y ∷ z ∷ rest) = let c : ◌≡◌ {A = ℕ} (if y.thread == y.thread then 1
        else 0) 1 = ap (λ (b : Bool). if b then 1 else 0) (same y.thread)
        in let d : ◌≡◌ {A = ℕ} (if z.thread == y.thread then 1 else 0) 1 =
        ap (λ (b : Bool). if b then 1 else 0) (ap (λ j. j == y.thread) it ∙ same y.thread) in omega arith
        in
        let once : times y.thread (queue_at w (2 * l + 1)) ≤ 1 =
        let all : times y.thread (queue_at w (2 * l + 1))
        ≡ stood_in (location_at (place_at w y.thread) l).stands Second =
        inductive.stands.lines y.thread l Second in at_most (location_at (place_at w y.thread) l).stands all
        in
        let both : times y.thread (y ∷ z ∷ rest) ≤ 1 = subst (λ q. times y.thread q ≤ 1) e once in
        omega arith
        )
      where
        at_most : (o : Option Line) → times y.thread (queue_at w (2 * l + 1)) ≡ stood_in o Second
            → times y.thread (queue_at w (2 * l + 1)) ≤ 1
        at_most (Some Second) h = omega arith
        at_most (Some Main) h = omega arith
        at_most None h = omega arith

    writes_aside : (y : Waiter) (rest : List Waiter) → queue_at w (2 * l + 1) ≡ y ∷ rest → y.want ≡ Exclusive
    writes_aside y rest e = let first : 1 ≤ times y.thread (queue_at w (2 * l + 1)) =
        rw e (let c : ◌≡◌ {A = ℕ} (if y.thread == y.thread then 1 else 0) 1 =
        ap (λ (b : Bool). if b then 1 else 0) (same y.thread) in omega arith) in
        let k = by_calls (place_at w y.thread) (asleep y.thread).apart (λ (y : Location). y.stands) Second
        refl (stands_aside y.thread first) in by_sleeper k.0 k.1 ((asleep y.thread).sleeper k.0)
      where
        waits_there : (location_at (place_at w y.thread) l).waits ≡ Some y.want
        waits_there = (subst (AreWaiting (locations_of (place_at w)) l Second) e
            (inductive.stands.waits l Second)).0.1

        by_sleeper : calls (place_at w y.thread) l ≡ true → (location (place_at w y.thread)).stands
            ≡ Some Second
            → (z : IsSleeper y.thread) → y.want ≡ Exclusive
        by_sleeper calls_l h z = let a = z.waits.aside (sym (ap (λ (y : Profile). y.stands) z.row) ∙ h) in
            let waits_all : (location (place_at w y.thread)).waits ≡ Some Exclusive =
            (λ i. want_in_line (h i) ((ap (λ (y : Profile). y.wants) z.row ∙ a.0) i)) in
            let both : Some y.want ≡ Some Exclusive = sym waits_there ∙ ap (λ (y : Location). y.waits)
            (location_here l (place_at w y.thread) (called (place_at w y.thread) z.single calls_l))
            ∙ waits_all in cc

    -- ---------------------------------------------------------------- out of the second line

    -- t alone stands aside
    only_one : 1 ≤ times t (queue_at w (2 * l + 1)) → (y : Waiter) × ((queue_at w (2 * l + 1) ≡ y ∷ [])
        × (y.thread ≡ t))
    only_one h = by_line (queue_at w (2 * l + 1)) refl
      where
        by_line : (q : List Waiter) → queue_at w (2 * l + 1) ≡ q
            → (y : Waiter) × ((queue_at w (2 * l + 1) ≡ y ∷ []) × (y.thread ≡ t))
        by_line [] e = absurd (let none : times t (queue_at w (2 * l + 1)) ≡ 0 = ap (times t) e
            in omega arith)
        by_line (y ∷ rest) e = (
          y,
          (
            e ∙ ap (λ (ys : List Waiter). y ∷ ys) (alone_aside y rest e),
            same_thread,
          ),
        )
          where
            first : 1 ≤ times y.thread (queue_at w (2 * l + 1))
            first = rw e (let c : ◌≡◌ {A = ℕ} (if y.thread == y.thread then 1 else 0) 1 =
                ap (λ (b : Bool). if b then 1 else 0) (same y.thread) in omega arith)

            same_thread : y.thread ≡ t
            same_thread = pending_one here.lock.pending y.thread t (pending_aside y.thread first)
                (pending_aside t h)

    module _ (hears : Hears) where
      -- t stands in the second line alone
      one_aside : (location_of x).stands ≡ Some Second → (y : Waiter) × ((queue_at w (2 * l + 1) ≡ y ∷ [])
          × (y.thread ≡ t))
      one_aside stands = only_one (let a : times t (queue_at w (2 * l + 1)) ≡ 1 =
          stood_once Second Second stands in omega arith)

      pub removed_hears : (m : Line) → LeavesLine x hears m
          → hears r here t None (Removed (length (without t (queue_at w (key_of l m))) == 0))
      removed_hears Main g = removed_main hears g
      removed_hears Second g = let one = one_aside (ap (λ (y : Location). y.stands) g.was)
          in g.may r here t (length (without t (queue_at w (2 * l + 1))) == 0) (ap first_of one.1.0
          ∙ ap Some one.1.1)

      pub leaves_line : (m : Line) → LeavesLine x hears m
          → ((b : Bool) → hears r here t None (Removed b)
          → IsFollowed None (Removed b) (next_place (place_at w t) (Removed b)))
          → Goes w
          (put (record w { queues = queues_without w.queues t }) t (next_place (place_at w t)
          (Removed (length (without t (queue_at w (key_of l m))) == 0)))) l
          (acts t (x.deeds None (Removed (length (without t (queue_at w (key_of l m))) == 0))))
      leaves_line Main g followed = leaves_main hears g followed
      leaves_line Second g followed = leaves_by hears Second (length (without t (queue_at w (2 * l + 1))) ==
          0) (next_place (place_at w t) (Removed (length (without t (queue_at w (2 * l + 1))) == 0))) g
          (ap (map queued_of) (sym (without_absent t (queue_at w (2 * l)) (stood_once Second Main
          (ap (λ (y : Location). y.stands) g.was)))) ∙ queued_without t (queue_at w (2 * l)))
          seconds
          (followed (length (without t (queue_at w (2 * l + 1))) == 0) (removed_hears Second g))
        where
          one : (y : Waiter) × ((queue_at w (2 * l + 1) ≡ y ∷ []) × (y.thread ≡ t))
          one = one_aside (ap (λ (y : Location). y.stands) g.was)

          seconds : first_of (without t (queue_at w (2 * l + 1))) ≡ locks.aside_without t
              (first_of (queue_at w (2 * l + 1)))
          seconds = ap (λ q. first_of (without t q)) one.1.0
              ∙ by_test (one.0.thread == t) (ap (λ u. u == t) one.1.1 ∙ same t)
              ∙ sym (ap (λ q. locks.aside_without t (first_of q)) one.1.0)
            where
              by_test : (b : Bool) → b ≡ true → first_of (cond (not b) (one.0 ∷ []) [])
                  ≡ (if b then None else Some one.0.thread)
              by_test true e = refl
              by_test false e = absurd cc

      -- ---------------------------------------------------------------- the writer aside

      module _ (many : TakesOne w l → ⊥) (line : key_of l Second < length w.queues) (g : TakesAside x hears)
          (followed : (any none_left : Bool) → hears r here t here.lock.aside (Took any none_left)
          → IsFollowed here.lock.aside (Took any none_left)
          (next_place (place_at w t) (Took any none_left))) where
        followed_by : (o : Option ℕ) (any none_left : Bool) → first_of (queue_at w (2 * l + 1)) ≡ o
            → IsFollowed o (Took any none_left) (next_place (place_at w t) (Took any none_left))
        followed_by o any none_left e =
            subst (λ o. IsFollowed o (Took any none_left) (next_place (place_at w t) (Took any none_left))) e
            (followed any none_left (g.may r here t any none_left))

        hand_then : (o : Option ℕ) (any none_left : Bool) → first_of (queue_at w (2 * l + 1)) ≡ o
            → taken_at (next_place (place_at w t) (Took any none_left)) l ≡ None
        hand_then o any none_left e = free_of (next_place (place_at w t) (Took any none_left)) l
            (of_single l (next_place (place_at w t) (Took any none_left)) (followed_by o any none_left e).of)
            (ap (λ (y : Location). y.hand) (there_is o (Took any none_left)
            (next_place (place_at w t) (Took any none_left)) (followed_by o any none_left e)
            ∙ g.goes any none_left))

        hand_now : taken_at (place_at w t) l ≡ None
        hand_now = free_of (place_at w t) l (of_single l (place_at w t) own)
            (ap (λ (y : Location). y.hand) (location_is ∙ g.was))

        -- nobody is there
        finds_nobody : queue_at w (2 * l + 1) ≡ []
            → Goes w (put (record w { queues = queues_without_first w.queues (2 * l + 1) }) t
            (next_place (place_at w t) (Took false true))) l (acts t (x.deeds None (Took false true)))
        finds_nobody empty = subst (λ ds. Goes w
            (put (record w { queues = queues_without_first w.queues (2 * l + 1) }) t
            (next_place (place_at w t) (Took false true))) l (acts t ds)) (sym (g.deeds None false true))
            (nobody_goes w t l inductive own there r rules (next_place (place_at w t) (Took false true)) f.of
            f.fits Second (FindNobody Second ∷ []) (λ h. tt) line empty
            (finds_none w t l inductive own there r rules (next_place (place_at w t) (Took false true)) f.of
            f.fits (hand_now ∙ sym (hand_then None false true (ap first_of empty))) Second idle
            (needed_by None (Took false true) (next_place (place_at w t) (Took false true)) f
            (FindNobody Second ∷ []) (g.deeds None false true)) (own_by None (Took false true)
            (next_place (place_at w t) (Took false true)) f (FindNobody Second ∷ [])
            (g.deeds None false true)))
            (there_is None (Took false true) (next_place (place_at w t) (Took false true)) f
            ∙ g.goes false true ∙ sym (location_is ∙ g.was)))
          where
            f : IsFollowed None (Took false true) (next_place (place_at w t) (Took false true))
            f = followed_by None false true (ap first_of empty)

        -- A thread inside the second section takes the pending writer.
        takes_writer : (y : Waiter) → queue_at w (2 * l + 1) ≡ y ∷ []
            → Goes w (put (state_after_reply (record w { queues = queues_without_first w.queues (2 * l + 1) })
            y.thread (TakenBy t)) t (next_place (place_at w t) (Took true true))) l
            (acts t (x.deeds (Some y.thread) (Took true true)))
        takes_writer y first = subst (λ ds. Goes w
            (put (state_after_reply (record w { queues = queues_without_first w.queues (2 * l + 1) }) y.thread
            (TakenBy t)) t (next_place (place_at w t) (Took true true))) l (acts t ds))
            (sym (g.deeds (Some y.thread) true true))
            (aside_goes w t l inductive own there (next_place (place_at w t) (Took true true)) f.of f.fits
            many
            (ap (λ (y : Location). y.stands) (location_is ∙ g.was)) (ap (λ (y : Location). y.hand)
            (location_is ∙ g.was)) (ap (λ (y : Location). y.has_taken) (location_is ∙ g.was)) r rules
            hand_now (hand_then (Some y.thread) true true (ap first_of first))
            (ap (λ (y : Location). y.inside) is_then
            ∙ sym (ap (λ (y : Location). y.inside) (location_is ∙ g.was)))
            (ap (λ (y : Location). y.stands) is_then) (ap (λ (y : Location). y.hand) is_then)
            y first (writes_aside y [] first) line (sleeps_in Second y.thread g.was
            (stands_aside y.thread first_there)) (ap (λ (y : Location). y.has_taken) is_then)
            (needed_by (Some y.thread) (Took true true) (next_place (place_at w t) (Took true true)) f
            (Case (TakeAside y.thread) ∷ []) (g.deeds (Some y.thread) true true))
            (own_by (Some y.thread) (Took true true) (next_place (place_at w t) (Took true true)) f
            (Case (TakeAside y.thread) ∷ []) (g.deeds (Some y.thread) true true)))
          where
            f : IsFollowed (Some y.thread) (Took true true) (next_place (place_at w t) (Took true true))
            f = followed_by (Some y.thread) true true (ap first_of first)

            is_then : location (next_place (place_at w t) (Took true true)) ≡ record (inside_of Second)
                { has_taken = Some false }
            is_then = there_is (Some y.thread) (Took true true) (next_place (place_at w t) (Took true true)) f
                ∙ g.goes true true

            first_there : 1 ≤ times y.thread (queue_at w (2 * l + 1))
            first_there = first_times y.thread (queue_at w (2 * l + 1)) (ap first_of first)

        pub takes_whom_aside : Goes w
            (put (state_after_take_first w t (2 * l + 1)) t
            (next_place (place_at w t) (reply_to_take w t (2 * l + 1) whom.First))) l
            (acts t (x.deeds here.lock.aside (reply_to_take w t (2 * l + 1) whom.First)))
        takes_whom_aside = by_line (queue_at w (2 * l + 1)) refl
          where
            by_line : (q : List Waiter) → queue_at w (2 * l + 1) ≡ q
                → Goes w (put (state_after_taking
                (record w { queues = queues_without_first w.queues (2 * l + 1) }) t
                (first_of (queue_at w (2 * l + 1)))) t (next_place (place_at w t)
                (Took (is_there (first_of (queue_at w (2 * l + 1)))) (length (drop 1 (queue_at w (2 * l + 1)))
                == 0)))) l (acts t (x.deeds (first_of (queue_at w (2 * l + 1)))
                (Took (is_there (first_of (queue_at w (2 * l + 1)))) (length (drop 1 (queue_at w (2 * l + 1)))
                == 0))))
            by_line [] e = let a : first_of (queue_at w (2 * l + 1)) ≡ None = ap first_of e
                in let b : (length (drop 1 (queue_at w (2 * l + 1))) == 0) ≡ true =
                ap (λ (q : List Waiter). length (drop 1 q) == 0) e in rw (a, b) (finds_nobody e)
            by_line (y ∷ rest) e = let one : queue_at w (2 * l + 1) ≡ y ∷ [] = e
                ∙ ap (λ (ys : List Waiter). y ∷ ys) (alone_aside y rest e) in
                let a : first_of (queue_at w (2 * l + 1)) ≡ Some y.thread = ap first_of one
                in let b : (length (drop 1 (queue_at w (2 * l + 1))) == 0) ≡ true =
                ap (λ (q : List Waiter). length (drop 1 q) == 0) one in rw (a, b) (takes_writer y one)

      -- ---------------------------------------------------------------- threads that are picked

      module _ (many : TakesOne w l → ⊥) (line : key_of l Main < length w.queues) (start : Option Want)
          (g : Picks x hears start)
          (followed : (n : ℕ) (y : Option Want) (none_left : Bool)
          → hears r here t None (Picked n y none_left) → IsFollowed None (Picked n y none_left)
          (next_place (place_at w t) (Picked n y none_left))) where
        abbrev chosen : List Waiter
        chosen = lock_picked start (is_recursive r.sort) (queue_at w (2 * l))

        abbrev others : List Waiter
        others = without_lock_picked start (is_recursive r.sort) (2 * l) (queue_at w (2 * l))

        abbrev taken_state : State
        taken_state = state_after_take w t (2 * l) (whom.Picked start (is_recursive r.sort))

        abbrev any : Bool
        any = any_in t 0 taken_state.places

        abbrev told_picked : Reply
        told_picked = reply_to_take w t (2 * l) (whom.Picked start (is_recursive r.sort))

        abbrev then_at : Place
        then_at = next_place (place_at w t) told_picked

        under : AllUnder (2 * l) (queue_at w (2 * l))
        under = under_of (locations_of (place_at w)) l Main (queue_at w (2 * l))
            (inductive.stands.waits l Main)

        counted : (u : ℕ) → times u chosen + times u others ≡ times u (queue_at w (2 * l))
        counted u = picked_counts u (2 * l) (lock_picker start (is_recursive r.sort)) (queue_at w (2 * l))
            under

        chosen_stands : (u : ℕ) → member u chosen ≡ true → (location_at (place_at w u) l).stands ≡ Some Main
        chosen_stands u h = in_main (location_at (place_at w u) l).stands (let a : 1 ≤ times u chosen =
            member_times u chosen h in let b : times u chosen + times u others
            ≡ times u (queue_at w (2 * l)) = counted u in let c : times u (queue_at w (2 * l))
            ≡ stood_in (location_at (place_at w u) l).stands Main = inductive.stands.lines u l Main
            in omega arith)

        sleeps_chosen : (u : ℕ) → member u chosen ≡ true → IsTakenFrom w t l Main (place_at w u)
        sleeps_chosen u h = sleeps_in Main u g.was (chosen_stands u h)

        once : (u : ℕ) → times u chosen ≤ 1
        once u = let b : times u chosen + times u others ≡ times u (queue_at w (2 * l)) = counted u
            in let c : times u (queue_at w (2 * l)) ≡ stood_in (location_at (place_at w u) l).stands Main =
            inductive.stands.lines u l Main in let d : stood_in (location_at (place_at w u) l).stands Main
            ≤ 1 =
            at_most_one (location_at (place_at w u) l).stands Main in omega arith

        place_then : (u : ℕ)
            → get_or taken_state.places u Idle ≡ (if member u chosen then next_place (place_at w u)
            (TakenBy t) else place_at w u)
        place_then u = ap (λ (f : ℕ → Place). f u) (told_places (TakenBy t) chosen w.places)
            ∙ told_once (TakenBy t) chosen (place_at w) u (once u)

        -- t had nobody in hand
        had_nobody : (u : ℕ) → is_thread t (taker (place_at w u)) ≡ true → ⊥
        had_nobody u h = let k : IsInHandOf (place_at w u) t = in_hand_where (place_at w u) t
            (aparts w inductive u) h in
            let a : carried_at (place_at w t) k.lock ≡ Some k.handed = inductive.stands.hands.taken t u k.lock
            k.handed k.hand in
            let b : carried_at (place_at w t) k.lock ≡ None = nothing_at (place_at w t) k.lock
            (of_single l (place_at w t) own) (λ y. y.has_taken) refl (ap (λ (y : Location). y.has_taken)
            (location_is ∙ g.was)) in
            let both : ◌≡◌ {A = Option Bool} None (Some k.handed) = sym b ∙ a in cc

        picked_some : any ≡ true → (u : ℕ) × (member u chosen ≡ true)
        picked_some h = let k = any_held t 0 taken_state.places h
            in (
              k.0,
              by_member k.0 (member k.0 chosen) refl
                  (sym (ap (λ q. is_thread t (taker q)) (place_then k.0)) ∙ k.1),
            )
          where
            by_member : (u : ℕ) (b : Bool) → member u chosen ≡ b
                → is_thread t (taker (if member u chosen then next_place (place_at w u) (TakenBy t)
                else place_at w u)) ≡ true
                → b ≡ true
            by_member u true e f = refl
            by_member u false e f = absurd
                (had_nobody u (sym (ap (λ (c : Bool). is_thread t
                (taker (if c then next_place (place_at w u) (TakenBy t) else place_at w u))) e) ∙ f))

        some_picked : (u : ℕ) → member u chosen ≡ true → any ≡ true
        some_picked u h = held_any t 0 taken_state.places u z.sleeps.want
            (ap (λ q. is_thread t (taker q)) at_u ∙ held_tells p2 t l false
            (ap (λ (y : Location). y.hand) (location_here l p2 (sleeps_chosen u h).calls_then
            ∙ (sleeps_chosen u h).free)))
            (ap wants at_u ∙ single_wants p2 (of_single l p2 (sleeps_chosen u h).calls_then)
            ∙ ap (λ (y : Profile). y.wants) z.sleeper.taken ∙ z.sleeps.wants t)
          where
            z : IsAsleepIn Main u
            z = asleep_in Main u g.was (chosen_stands u h)

            p2 : Place
            p2 = next_place (place_at w u) (TakenBy t)

            at_u : get_or taken_state.places u Idle ≡ p2
            at_u = place_then u ∙ ap (λ (c : Bool). if c then p2 else place_at w u) h

        pub picked_hears : hears r here t None told_picked
        picked_hears = g.may r here t (sharers_in_hand t taken_state.places)
            (want_of_successor (successor_from t 0 taken_state.places)) (length others == 0)
            (sym (empty_line others) ∙ ap is_empty (left_tied r.sort start (2 * l) (queue_at w (2 * l))
            under))

        picks_follow : IsFollowed None told_picked then_at
        picks_follow = followed (sharers_in_hand t taken_state.places)
            (want_of_successor (successor_from t 0 taken_state.places)) (length others == 0) picked_hears

        goes_then : location then_at ≡ record (inside_of Main) { has_taken = in_hand any false }
        goes_then = there_is None told_picked then_at picks_follow
            ∙ g.goes (sharers_in_hand t taken_state.places)
            (want_of_successor (successor_from t 0 taken_state.places)) (length others == 0)

        pub picked_deeds : x.deeds None told_picked ≡ Case (TakePicked start) ∷ []
        picked_deeds = g.deeds (sharers_in_hand t taken_state.places)
            (want_of_successor (successor_from t 0 taken_state.places)) (length others == 0)

        carries_then : (b : Bool) → (location then_at).has_taken ≡ Some b → (b ≡ false)
            × ((u : ℕ) × (member u chosen ≡ true))
        carries_then b h = by_any any refl (sym (ap (λ (y : Location). y.has_taken) goes_then) ∙ h)
          where
            by_any : (c : Bool) → any ≡ c → in_hand c false ≡ Some b → (b ≡ false)
                × ((u : ℕ) × (member u chosen ≡ true))
            by_any true e f = (let g : false ≡ b = cc in sym g, picked_some e)
            by_any false e f = absurd cc

        pub takes_chosen : Goes w (put taken_state t then_at) l (acts t (x.deeds None told_picked))
        takes_chosen = subst (λ ds. Goes w (put taken_state t then_at) l (acts t ds)) (sym picked_deeds)
            (picked_goes w t l inductive own there then_at picks_follow.of picks_follow.fits many
            (ap (λ (y : Location). y.stands) (location_is ∙ g.was)) (ap (λ (y : Location). y.hand)
            (location_is ∙ g.was)) (ap (λ (y : Location). y.has_taken) (location_is ∙ g.was)) r rules
            (free_of (place_at w t) l (of_single l (place_at w t) own) (ap (λ (y : Location). y.hand)
            (location_is ∙ g.was))) (free_of then_at l (of_single l then_at picks_follow.of)
            (ap (λ (y : Location). y.hand) goes_then))
            (ap (λ (y : Location). y.inside) goes_then
            ∙ sym (ap (λ (y : Location). y.inside) (location_is ∙ g.was)))
            (ap (λ (y : Location). y.stands) goes_then) (ap (λ (y : Location). y.hand) goes_then)
            start line sleeps_chosen carries_then (λ u h. ap (λ (y : Location). y.has_taken) goes_then
            ∙ ap (λ b. in_hand b false) (some_picked u h))
            (needed_by None told_picked then_at picks_follow (Case (TakePicked start) ∷ []) picked_deeds)
            (own_by None told_picked then_at picks_follow (Case (TakePicked start) ∷ []) picked_deeds))
