-- A thread goes on by the act that hands its right over, at a lock that is shared: where the operation takes
-- effect all that it has in hand own, and else nothing changes. No place is named, as in `MovesKept`.
use Rattle.lot_laws.proofs.Imports
use Imports.{ℕ, Bool, true, false, Option, Some, None, ◌≡◌, ◌+◌, ◌*◌, ◌<◌, List, [], ◌∷◌, ◌++◌, length, refl}
use Imports.{sym, ◌∙◌, ap, subst, Op, apply, Done, Value, Wakes, One, takes_effect, wakes_taken, StepView}
use Imports.{Hears}
use Imports.{Accepts, HandsOver, TellsHanded, bit_left, heir_of, inside_of, Profile, in_hand, Location}
use Imports.{location_by, Place, owners_after, profile, Rules, HandOff, without_owner, Site, Deed, Case, End}
use Imports.{Main, has_readers, code, Successor, State, place_at, word_at, owners_at, shares_at, queue_at, put}
use Imports.{state_after_act, state_after_leave, state_after_hand_over_by, successor_from, unshared_then}
use Imports.{want_of_successor, taken_at, acts, role_on, location, ActsNeeded, IsInductive, Goes, after_acts}
use Imports.{key_of, rules_in, hand_at}
use Rattle.steps_base.specs.declared.acts.Act.TheVariants as act
use Rattle.core_base.specs.declared.notes.Note.TheVariants.{HandOff as HandOffNote}
use Rattle.steps_base.specs.Owners.{lock_seen}
use Rattle.steps_base.specs.Locations.{nowhere}
use Rattle.spec_locks.specs.Deeds as laws
use Rattle.lot_laws.specs.ThreadDeeds as deeds
use Rattle.lot_laws.specs.Locations.{hand}
use Rattle.lot_laws.proofs.sites.ActsKept.{lock_by, operated, place_goes}
use Rattle.lot_laws.proofs.machine.Parts.{free_of, IsOf, role_here, lock_in, parts_at, of_single}
use Rattle.lot_laws.proofs.hands.HandsStay.{IsGiven, HandsLawful, claims_given, hand_over_goes, heir_in}
use Rattle.lot_laws.proofs.sites.LawsKept.{after_same, lawful_goes, needed_same}
use Rattle.lot_laws.proofs.sites.MovesKept.{IsFollowed, goes_out_alone}
use Rattle.lot_laws.proofs.sites.OneStep.{steps_by}
use Rattle.lot_laws.proofs.sites.WakesAt.{IsWokenAt}
use Rattle.lot_laws.proofs.sites.WakesKept.{wake_goes}

-- the heir: the successor, and its want
abbrev pub thread_of : Option Successor → Option ℕ
thread_of None = None
thread_of (Some x) = Some x.thread

heirs_same : (x : Option Successor) → heir_of (thread_of x) (want_of_successor x) ≡ heir_in x
heirs_same None = refl
heirs_same (Some x) = refl

module _ (w : State) (t l : ℕ) (inductive : IsInductive w) (there : t < length w.places)
    (own : IsOf l (place_at w t)) (r : Rules)
    (rules : rules_in w l ≡ r) (readers : has_readers r.sort ≡ true) (x : StepView)
    (same_row : profile (place_at w t) ≡ x.row)
    (lt : l < length w.locks) (p : Place) (op : Op) (g : HandsOver x op) where
  abbrev here : Site
  here = lock_by w l r

  abbrev pub seen : ℕ
  seen = word_at w l

  -- a thread that succeeds is no part of the place
  abbrev pub whom : Option ℕ
  whom = thread_of (successor_from t 0 w.places)

  abbrev pub claims : List deeds.Act
  claims = claims_given t (unshared_then w t l) (λ u. taken_at (place_at w u) l) (length w.places)

  location_is : location (place_at w t) ≡ record (inside_of Main) { has_taken = in_hand g.any false }
  location_is = ap location_by same_row ∙ g.was

  free : (location (place_at w t)).hand ≡ None
  free = ap (λ (y : Location). y.hand) location_is

  -- where the operation takes effect
  module _ (takes : takes_effect op seen ≡ true) (p2 : Place)
      (f : IsFollowed w t l inductive there own r rules x same_row whom (Value seen) p2)
      (given : (u : ℕ) (b : Bool) → hand_at (place_at w u) l ≡ hand t b
      → IsGiven w t l b (unshared_then w t l) (place_at w u)) (knows : g.successor ≡ want_of_successor
      (successor_from t 0 w.places)) where
    abbrev hands : List Deed
    hands = Case (HandOff g.right (heir_in (successor_from t 0 w.places))) ∷ bit_left g.none_left ∷ []

    pub deeds_are : x.deeds whom (Value seen) ≡ hands
    deeds_are = g.deeds whom seen takes ∙ ap (λ q. Case (HandOff g.right q) ∷ bit_left g.none_left ∷ [])
        (ap (heir_of whom) knows ∙ heirs_same (successor_from t 0 w.places))

    there_is : location p2 ≡ record (inside_of Main) { has_taken = in_hand g.any true }
    there_is = ap location_by f.row ∙ g.goes seen takes

    pub hands_over : lock_seen (shares_at w l) (owners_after p t seen (owners_at w l)) (queue_at w (2 * l))
        (queue_at w (2 * l + 1)) (λ u. taken_at (place_at w u) l)
        ≡ without_owner t g.right here.lock
        → apply op seen ≡ code r (laws.after_all r (x.deeds whom (Value seen)) here t)
        → Goes w (put (state_after_act w t p (act.HandOver l op)) t p2) l (acts t (x.deeds whom (Value seen))
        ++ claims)
    hands_over owners word = subst (λ ds. Goes w (put (state_after_act w t p (act.HandOver l op)) t p2) l
        (acts t ds ++ claims)) (sym deeds_are)
        (subst (λ b. Goes w (put (state_after_hand_over_by b w t p l op) t p2) l (acts t hands ++ claims))
        (sym takes)
        (hand_over_goes w t l inductive own there lt p p2 f.of f.fits op r rules readers given free g.right
        g.none_left law (ap (λ (y : Location). y.hand) there_is) g.any
        (ap (λ (y : Location). y.inside) there_is ∙ sym (ap (λ (y : Location). y.inside) location_is))
        (ap (λ (y : Location). y.stands) there_is ∙ sym (ap (λ (y : Location). y.stands) location_is))
        (ap (λ (y : Location). y.waits) there_is ∙ sym (ap (λ (y : Location). y.waits) location_is))
        (ap (λ (y : Location). y.has_taken) location_is) (ap (λ (y : Location). y.has_taken) there_is)))
      where
        law : HandsLawful w t l inductive own there lt p p2 f.of f.fits op r rules readers given free g.right
            g.none_left
        law = record {
          needed = subst (λ ds. laws.AllNeeded r ds here t) deeds_are f.needed;
          role = ap (λ ds. (laws.after_all r ds here t).role t) (sym deeds_are) ∙ f.role
              ∙ sym (role_here l p2 f.of ∙ ap (λ (y : Profile). y.role) f.row);
          owners = owners;
          word = word ∙ ap (λ ds. code r (laws.after_all r ds here t)) deeds_are;
        }

  -- where it fails, the thread looks again
  module _ (fails : takes_effect op seen ≡ false) (p2 : Place)
      (f : IsFollowed w t l inductive there own r rules x same_row whom (Value seen) p2) where
    nothing : x.deeds whom (Value seen) ≡ []
    nothing = g.fails whom seen fails

    same_location : location p2 ≡ location (place_at w t)
    same_location = ap location_by f.row ∙ g.stays seen fails ∙ sym (ap location_by same_row)

    pub looks_again : lock_in (operated w t p l op) (λ u. taken_at (place_at w u) l) ≡ here.lock
        → apply op seen ≡ code r here
        → Goes w (put (state_after_act w t p (act.HandOver l op)) t p2) l (acts t (x.deeds whom (Value seen)))
    looks_again owners word = subst (λ ds. Goes w (put (state_after_act w t p (act.HandOver l op)) t p2) l
        (acts t ds)) (sym nothing)
        (subst (λ b. Goes w (put (state_after_hand_over_by b w t p l op) t p2) l []) (sym fails)
        (lawful_goes w t l inductive own there r rules p2 f.of f.fits readers p op []
        (record {
          needed = tt;
          role = ap (λ ds. (laws.after_all r ds here t).role t) (sym nothing) ∙ f.role
              ∙ sym (role_here l p2 f.of ∙ ap (λ (y : Profile). y.role) f.row);
          owners = owners;
          word = word;
        })
        tt tt lt tt (free_of (place_at w t) l (of_single l (place_at w t) own) free
        ∙ sym (free_of p2 l (of_single l p2 f.of) (ap (λ (y : Location). y.hand) same_location ∙ free)))
        same_location))

-- ---------------------------------------------------------------- threads are told so

module _ (w : State) (t l : ℕ) (inductive : IsInductive w) (there : t < length w.places)
    (own : IsOf l (place_at w t)) (r : Rules)
    (rules : rules_in w l ≡ r) (x : StepView) (same_row : profile (place_at w t) ≡ x.row)
    (hears : Hears) where
  abbrev now : Site
  now = lock_by w l r

  module _ (wakes : Wakes) (g : TellsHanded x hears wakes) where
    stands_so : location (place_at w t) ≡ record (inside_of Main) { has_taken = in_hand g.any true }
    stands_so = ap location_by same_row ∙ g.was

    bare : (location (place_at w t)).hand ≡ None
    bare = ap (λ (y : Location). y.hand) stands_so

    pub told_hears : hears r now t None Done
    told_hears = g.may r now t (free_of (place_at w t) l (of_single l (place_at w t) own) bare)

    -- out of the section, and the threads to which it has handed its right hear of it
    pub tells_handed : (p2 : Place) → key_of l Main < length w.sections
        → IsFollowed w t l inductive there own r rules x same_row None Done p2
        → ((u : ℕ) (b : Bool) → hand_at (place_at w u) l ≡ hand t b → IsWokenAt w t l HandOffNote
        (place_at w u))
        → Goes w (put (state_after_leave w t (One (key_of l Main)) wakes) t p2) l (acts t (x.deeds None Done))
    tells_handed p2 line f woken =
        subst (λ y. Goes w (put (state_after_leave w t (One (key_of l Main)) y) t p2) l
        (acts t (x.deeds None Done))) (sym g.notes) (either g.any refl)
      where
        goes_nowhere : location p2 ≡ nowhere
        goes_nowhere = ap location_by f.row ∙ g.goes

        own_then : role_on p2 l ≡ (after_acts r (acts t (x.deeds None Done)) now).role t
        own_then = role_here l p2 f.of ∙ ap (λ (y : Profile). y.role) f.row ∙ sym f.role
            ∙ sym (ap (λ (s : Site). s.role t) (after_same r (x.deeds None Done) now t))

        either : (b : Bool) → g.any ≡ b
            → Goes w (put (state_after_leave w t (One (key_of l Main)) (wakes_taken b HandOffNote)) t p2) l
            (acts t (x.deeds None Done))
        either false e = goes_out_alone w t l inductive there own r rules x same_row hears Main p2 line
            g.deeds
            (ap (λ (y : Location). y.inside) g.was) (ap (λ (y : Location). y.has_taken) g.was
            ∙ ap (λ b. in_hand b true) e) (ap (λ (y : Location). y.hand) g.was)
            (g.goes ∙ sym (ap (λ (y : Location). record y { inside = None; has_taken = None }) g.was)) f
        either true e = wake_goes w t l inductive own there p2 f.of f.fits HandOffNote woken bare
            (ap (λ (y : Location). y.has_taken) goes_nowhere) (ap (λ (y : Location). y.hand) goes_nowhere)
            Main line (ap (λ (y : Location). y.inside) stands_so) (ap (λ (y : Location). y.stands)
            goes_nowhere ∙ sym (ap (λ (y : Location). y.stands) stands_so))
            (ap (λ (y : Location). y.waits) goes_nowhere ∙ sym (ap (λ (y : Location). y.waits) stands_so))
            (ap (λ (y : Location). y.inside) goes_nowhere)
            r rules (free_of (place_at w t) l (of_single l (place_at w t) own) bare)
            (free_of p2 l (of_single l p2 f.of) (ap (λ (y : Location). y.hand) goes_nowhere))
            (x.deeds None Done) g.deeds (needed_same r (x.deeds None Done) now t f.needed) own_then

  -- a thread that was told so ends its call
  pub accepts : (g : Accepts x hears) (p2 : Place)
      → (hears r now t None Done → IsFollowed w t l inductive there own r rules x same_row None Done p2)
      → Goes w (put w t p2) l (acts t (x.deeds None Done))
  accepts g p2 followed = subst (λ ds. Goes w (put w t p2) l (acts t ds)) (sym g.deeds)
      (place_goes w t l inductive own there r rules p2 f.of f.fits (End ∷ []) (λ h. tt)
      (steps_by r l (parts_at w l) (parts_at w l) (place_at w) t p2 (End ∷ [])
      (subst (λ ds. ActsNeeded r (acts t ds) now) g.deeds (needed_same r (x.deeds None Done) now t
      f.needed)) (tt, tt)
      (free_of (place_at w t) l (of_single l (place_at w t) own) (ap (λ (y : Location). y.hand) stood)
      ∙ sym (free_of p2 l (of_single l p2 f.of) (ap (λ (y : Location). y.hand) goes_nowhere))) refl refl
      refl refl
      (role_here l p2 f.of ∙ ap (λ (y : Profile). y.role) f.row ∙ sym f.role
      ∙ ap (λ ds. (laws.after_all r ds now t).role t) g.deeds))
      (goes_nowhere ∙ sym stood))
    where
      f : IsFollowed w t l inductive there own r rules x same_row None Done p2
      f = followed (g.may r now t)

      stood : location (place_at w t) ≡ nowhere
      stood = ap location_by same_row ∙ g.was

      goes_nowhere : location p2 ≡ nowhere
      goes_nowhere = ap location_by f.row ∙ g.goes
