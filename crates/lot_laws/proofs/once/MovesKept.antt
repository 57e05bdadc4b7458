-- A thread in a call of a `Once` goes on where its act takes it: on the word, after the last of the queue,
-- or with all that wait in its hand. No place is named.
use Rattle.lot_laws.proofs.Imports
use Imports.{ℕ, Bool, true, false, Option, Some, None, if◌then◌else◌, ◌==◌, ◌||◌, ◌≡◌, ◌*◌, ◌≤◌, ◌<◌, List, []}
use Imports.{◌∷◌, ◌++◌, length, not, refl, sym, ◌∙◌, ap, subst, arith, nat_le, or-false, Op, Waiter, Want}
use Imports.{times, waiter, apply, Check, Reply, Value, Parked, Took, holds, StepView, Hears, StaysPut}
use Imports.{inside_of}
use Imports.{location_of, in_hand, Location, Rest, TakeAll, Rules, OfOnce, HasTakenNobody, Site, Deed, Main}
use Imports.{Case, has_readers, aside_in, code, count_in, fills, parked_in, Place, next_place, profile}
use Imports.{RestsAfter, TakesAll, State, filled_at, place_at, put, queue_at, queues_with_last}
use Imports.{state_after_operation, state_after_park, state_after_take, word_at, lock_state, taken_at, acts}
use Imports.{location, location_at, Goes, IsInductive, TakesOne, after_acts, carried_at, rules_in, stood_in}
use Rattle.std.specs.Prelude.{◌&&◌}
use Rattle.steps_base.specs.declared.acts.TakeWhich.TheVariants as whom
use Rattle.spec_locks.specs.Deeds as laws
use Rattle.lot_laws.proofs.sites.ActsKept.{lock_by, operated, park_goes, place_goes, with_line, word_goes}
use Rattle.lot_laws.proofs.machine.AtPlaces.{in_no_hand}
use Rattle.lot_laws.proofs.machine.Parts.{IsOf, differ, free_of, lock_in, nothing_at, parts_at, same}
use Rattle.lot_laws.proofs.machine.Parts.{of_single}
use Rattle.lot_laws.proofs.sites.LawsKept.{after_same}
use Rattle.lot_laws.proofs.sites.MovesKept.{IsFollowed, SleepsIfCalls, needed_by, nowhere_here, own_by}
use Rattle.lot_laws.proofs.sites.MovesKept.{single_of, site, sleeps_in, location_is, there_is, word_is}
use Rattle.lot_laws.proofs.sites.OneStep.{Steps, noted, queued_after, same_filled, steps_by}
use Rattle.lot_laws.proofs.sites.PicksKept.{all_goes}
use Rattle.lot_laws.proofs.sites.StandsKept.{in_main}
use Rattle.lot_laws.proofs.sites.TakesKept.{IsTakenFrom, member, member_times}

some_left : (y : Waiter) (q : List Waiter) → (length (y ∷ q) == 0) ≡ false
some_left y q = differ (length (y ∷ q)) 0 (λ e. omega arith)

-- whether anybody is taken of a line
some_in : (b : Bool) (q : List Waiter) → in_hand (not (length q == 0)) false ≡ Some b
    → (b ≡ false) × ((u : ℕ) × (member u q ≡ true))
some_in b [] e = absurd cc
some_in b (y ∷ q) e = (
  let f : in_hand (not false) false ≡ Some b =
      sym (ap (λ c. in_hand (not c) false) (some_left y q)) ∙ e in let g : false ≡ b = cc in sym g,
  (y.thread, ap (λ c. c || member y.thread q) (same y.thread)),
)

all_in : (q : List Waiter) (u : ℕ) → member u q ≡ true → in_hand (not (length q == 0)) false ≡ Some false
all_in [] u h = absurd cc
all_in (y ∷ q) u h = ap (λ c. in_hand (not c) false) (some_left y q)

module _ (w : State) (t l : ℕ) (inductive : IsInductive w) (there : t < length w.places)
    (own : IsOf l (place_at w t)) (r : Rules)
    (rules : rules_in w l ≡ r) (x : StepView) (same_row : profile (place_at w t) ≡ x.row) where
  abbrev Followed : Reply → Place → Type 0
  Followed told p2 = IsFollowed w t l inductive there own r rules x same_row None told p2

  abbrev now : Site
  now = lock_by w l r

  is_now : location (place_at w t) ≡ location_of x
  is_now = location_is w t l inductive there own r rules x same_row

  -- ---------------------------------------------------------------- the word

  -- for a lock that nobody shares
  module _ (unshared : has_readers r.sort ≡ false) (p p2 : Place) (op : Op) (g : StaysPut x)
      (f : Followed (Value (word_at w l)) p2) where
    abbrev does : List Deed
    does = x.deeds None (Value (word_at w l))

    abbrev afterwards : Site
    afterwards = laws.after_all r does now t

    hand : taken_at (place_at w t) l ≡ taken_at p2 l
    hand = free_of (place_at w t) l (of_single l (place_at w t) own) (ap (λ (y : Location). y.hand) is_now
        ∙ g.free)
        ∙ sym (free_of p2 l (of_single l p2 f.of) (ap (λ (y : Location). y.hand)
        (there_is w t l inductive there own r rules x same_row None (Value (word_at w l)) p2 f
        ∙ g.goes (word_at w l)) ∙ g.free))

    full : (operated w t p l op).base.filled ≡ (after_acts r (acts t does) now).filled
    full = ap (λ (y : Rules). filled_at w l || fills y (apply op (word_at w l))) rules
        ∙ ap (λ b. filled_at w l || (b && nat_le r.limit (count_in (apply op (word_at w l))))) unshared
        ∙ or-false (filled_at w l) ∙ sym (same_filled r (acts t does) now unshared)

    pub stays_unshared : l < length w.locks → lock_in (operated w t p l op) (λ u. taken_at (place_at w u) l)
        ≡ afterwards.lock
        → apply op (word_at w l) ≡ code r afterwards
        → parked_in r.sort (apply op (word_at w l)) ≡ afterwards.parked
        → aside_in r.sort (apply op (word_at w l)) ≡ afterwards.aside_parked
        → Goes w (put (state_after_operation w t p l op) t p2) l (acts t does)
    stays_unshared lt owners word parked aside = word_goes w t l inductive own there r rules p2 f.of f.fits p
        lt
        (rw inductive.numbers.locks lt) op does
        (λ h. absurd (let e : false ≡ true = sym unshared ∙ h in cc)) steps (word
        ∙ sym (ap (code r) same_after) ∙ sym (ap (code r) steps.site))
        (there_is w t l inductive there own r rules x same_row None (Value (word_at w l)) p2 f
        ∙ g.goes (word_at w l) ∙ sym is_now)
      where
        same_after : after_acts r (acts t does) now ≡ afterwards
        same_after = after_same r does now t

        steps : Steps r l (parts_at w l) (operated w t p l op) (place_at w) t p2 does
        steps = steps_by r l (parts_at w l) (operated w t p l op) (place_at w) t p2 does
            (needed_by w t l inductive there own r rules x same_row None (Value (word_at w l)) p2 f does refl)
            (single_of does (g.deeds (word_at w l))) hand
            (owners ∙ sym (ap (λ (s : Site). s.lock) same_after)) (parked
            ∙ sym (ap (λ (s : Site). s.parked) same_after)) (aside
            ∙ sym (ap (λ (s : Site). s.aside_parked) same_after)) full
            (own_by w t l inductive there own r rules x same_row None (Value (word_at w l)) p2 f does refl)

  -- ---------------------------------------------------------------- the queue

  -- the thread stays where it is, and does nothing
  rests_there : (told : Reply) (p2 : Place) (s : Location) → location (place_at w t) ≡ s → s.hand ≡ None
      → x.deeds None told ≡ []
      → location p2 ≡ s → Followed told p2 → Goes w (put w t p2) l (acts t (x.deeds None told))
  rests_there told p2 s was free does is_then f = subst (λ ds. Goes w (put w t p2) l (acts t ds)) (sym does)
      (place_goes w t l inductive own there r rules p2 f.of f.fits [] (λ h. tt)
      (steps_by r l (parts_at w l) (parts_at w l) (place_at w) t p2 [] tt tt
      (free_of (place_at w t) l (of_single l (place_at w t) own) (ap (λ (y : Location). y.hand) was ∙ free)
      ∙ sym (free_of p2 l (of_single l p2 f.of) (ap (λ (y : Location). y.hand) is_then ∙ free)))
      refl refl refl refl (own_by w t l inductive there own r rules x same_row None told p2 f [] does))
      (is_then ∙ sym was))

  -- after the last, where it still has to wait
  module _ (hears : Hears) (check : Check) (want : Want) (line : 2 * l < length w.queues)
      (g : RestsAfter x hears check want)
      (followed : (b : Bool) → hears r now t None (Parked b)
      → Followed (Parked b) (next_place (place_at w t) (Parked b))) where
    pub told_so : (b : Bool) → holds check (word_at w l) ≡ b → hears r now t None (Parked b)
    told_so b e = g.may r now t b (sym e
        ∙ ap (holds check) (word_is w t l inductive there own r rules x same_row))
        (nowhere_here w t l inductive there own r rules x same_row (ap (λ (y : Location). y.stands) g.was)
        (ap (λ (y : Location). y.hand) g.was))

    stands_last : (p2 : Place) → Followed (Parked true) p2
        → Goes w (put (record w { queues = queues_with_last w.queues (2 * l) t want }) t p2) l
        (acts t (x.deeds None (Parked true)))
    stands_last p2 f = subst (λ ds. Goes w
        (put (record w { queues = queues_with_last w.queues (2 * l) t want }) t p2) l (acts t ds))
        (sym g.rests)
        (park_goes w t l inductive own there r rules p2 f.of f.fits Main want
        (Case (OfOnce (Rest want g.forced))
        ∷ []) (λ h. ((λ k. k), tt)) line (ap (λ (y : Location). y.stands) (is_now ∙ g.was))
        (steps_by r l (parts_at w l) (with_line (parts_at w l) Main (queue_at w (2 * l) ++ waiter (2 * l) t
        want ∷ [])) (place_at w) t p2 (Case (OfOnce (Rest want g.forced)) ∷ [])
        (needed_by w t l inductive there own r rules x same_row None (Parked true) p2 f
        (Case (OfOnce (Rest want g.forced)) ∷ []) g.rests) (tt, tt) hand
        (λ i. record now.lock { queue = queued_after (2 * l) t want (queue_at w (2 * l)) i }) refl refl
        (noted r now (site w t l inductive there own r rules x same_row))
        (own_by w t l inductive there own r rules x same_row None (Parked true) p2 f
        (Case (OfOnce (Rest want g.forced)) ∷ []) g.rests))
        (there_is w t l inductive there own r rules x same_row None (Parked true) p2 f ∙ g.rested
        ∙ sym (ap (λ (y : Location). record y {
          stands = Some Main;
          waits = Some want;
        }) (is_now ∙ g.was))))
      where
        hand : taken_at (place_at w t) l ≡ taken_at p2 l
        hand = free_of (place_at w t) l (of_single l (place_at w t) own) (ap (λ (y : Location). y.hand)
            (is_now ∙ g.was))
            ∙ sym (free_of p2 l (of_single l p2 f.of) (ap (λ (y : Location). y.hand)
            (there_is w t l inductive there own r rules x same_row None (Parked true) p2 f ∙ g.rested)))

    pub rests_or_turns : Goes w
        (put (state_after_park w t l (2 * l) check want) t
        (next_place (place_at w t) (Parked (holds check (word_at w l))))) l
        (acts t (x.deeds None (Parked (holds check (word_at w l)))))
    rests_or_turns = either (holds check (word_at w l)) refl
      where
        either : (b : Bool) → holds check (word_at w l) ≡ b
            → Goes w (put (if b then record w { queues = queues_with_last w.queues (2 * l) t want } else w) t
            (next_place (place_at w t) (Parked b))) l (acts t (x.deeds None (Parked b)))
        either true e = stands_last (next_place (place_at w t) (Parked true)) (followed true (told_so true e))
        either false e = let f = followed false (told_so false e) in
            rests_there (Parked false) (next_place (place_at w t) (Parked false)) (inside_of Main) (is_now
            ∙ g.was) refl g.turns (there_is w t l inductive there own r rules x same_row None (Parked false)
            (next_place (place_at w t) (Parked false)) f ∙ g.turned) f

  -- with all that wait in its hand
  module _ (asleep : (u : ℕ) → SleepsIfCalls w t l inductive there own r rules x same_row u) (hears : Hears)
      (many : TakesOne w l → ⊥) (line : 2 * l < length w.queues) (g : TakesAll x hears)
      (followed : (any none_left : Bool) → hears r now t None (Took any none_left)
      → Followed (Took any none_left) (next_place (place_at w t) (Took any none_left))) where
    abbrev any : Bool
    any = not (length (queue_at w (2 * l)) == 0)

    abbrev then_at : Place
    then_at = next_place (place_at w t) (Took any true)

    bare : carried_at (place_at w t) l ≡ None
    bare = nothing_at (place_at w t) l (of_single l (place_at w t) own) (λ y. y.has_taken) refl
        (ap (λ (y : Location). y.has_taken) (is_now ∙ g.was))

    nobody : HasTakenNobody (lock_state w l) t
    nobody = in_no_hand w inductive t l (λ h. let e : ◌≡◌ {A = Option Bool} None (Some false) = sym bare ∙ h
        in cc)

    pub all_hears : hears r now t None (Took any true)
    all_hears = g.may r now t any true nobody

    follows : Followed (Took any true) then_at
    follows = followed any true all_hears

    goes_then : location then_at ≡ record (inside_of Main) { has_taken = in_hand any false }
    goes_then = there_is w t l inductive there own r rules x same_row None (Took any true) then_at follows
        ∙ g.goes any true

    sleeps : (u : ℕ) → member u (queue_at w (2 * l)) ≡ true → IsTakenFrom w t l Main (place_at w u)
    sleeps u h = sleeps_in w t l inductive there own r rules x same_row asleep Main u g.was
        (in_main (location_at (place_at w u) l).stands
        (let a : 1 ≤ times u (queue_at w (2 * l)) = member_times u (queue_at w (2 * l)) h
        in let b : times u (queue_at w (2 * l)) ≡ stood_in (location_at (place_at w u) l).stands Main =
        inductive.stands.lines u l Main in omega arith))

    pub takes_all : Goes w (put (state_after_take w t (2 * l) whom.All) t then_at) l
        (acts t (x.deeds None (Took any true)))
    takes_all = subst (λ ds. Goes w (put (state_after_take w t (2 * l) whom.All) t then_at) l (acts t ds))
        (sym (g.deeds any true))
        (all_goes w t l inductive own there then_at follows.of follows.fits many
        (ap (λ (y : Location). y.stands) (is_now ∙ g.was)) (ap (λ (y : Location). y.hand) (is_now
        ∙ g.was)) (ap (λ (y : Location). y.has_taken) (is_now ∙ g.was)) r rules
        (free_of (place_at w t) l (of_single l (place_at w t) own) (ap (λ (y : Location). y.hand) (is_now
        ∙ g.was))) (free_of then_at l (of_single l then_at follows.of)
        (ap (λ (y : Location). y.hand) goes_then))
        (ap (λ (y : Location). y.inside) goes_then ∙ sym (ap (λ (y : Location). y.inside) (is_now ∙ g.was)))
        (ap (λ (y : Location). y.stands) goes_then) (ap (λ (y : Location). y.hand) goes_then)
        line sleeps (λ b h. some_in b (queue_at w (2 * l)) (sym (ap (λ (y : Location). y.has_taken) goes_then)
        ∙ h)) (λ u h. ap (λ (y : Location). y.has_taken) goes_then ∙ all_in (queue_at w (2 * l)) u h)
        (needed_by w t l inductive there own r rules x same_row None (Took any true) then_at follows
        (Case (OfOnce TakeAll) ∷ []) (g.deeds any true))
        (own_by w t l inductive there own r rules x same_row None (Took any true) then_at follows
        (Case (OfOnce TakeAll) ∷ []) (g.deeds any true)))
