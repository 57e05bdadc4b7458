-- A thread does an act at one lock, wherever it stands about others meanwhile: the acts of `sites/MovesKept`,
-- at a lock. So a call of two locks has a page at each. No sort of lock is named.
use Rattle.lot_laws.proofs.Imports
use Imports.{ℕ, Bool, true, false, Option, Some, None, ◌≡◌, ◌<◌, List, []}
use Imports.{◌∷◌, length, refl, sym, ◌∙◌, ap, subst, One, Want, first_of, times, without, Reply}
use Imports.{Location, AreLeaving, StepView}
use Imports.{location_of, location_then, inside_of, Hand, hand, taken_from, Park, Rules, keep_from}
use Imports.{putting, Case, Deed, End, In, Line, Main, Out, Second, Site, Place, State}
use Imports.{place_at, put, queue_at, queues_with_last, queues_without, section_at}
use Imports.{state_with_sections, acts, taken_at, location_at, role_on, ActsNeeded, FitsItsLock, Goes}
use Imports.{IsInductive, after_acts, carried_at, hand_at, key_of, rules_in, stood_in}
use Rattle.spec_locks.specs.Deeds as laws
use Rattle.spec_locks.specs.Locks as locks
use Rattle.lot_laws.proofs.hands.Counts.{aside_kept, first_out}
use Rattle.lot_laws.proofs.machine.Parts.{LetGo, parts_at, put_here, put_other, stays, untaken}
use Rattle.lot_laws.proofs.sites.ActsAt as acting
use Rattle.lot_laws.proofs.sites.Following.{NoHandOff, lates, lock_by, parks}
use Rattle.lot_laws.proofs.sites.LawsKept.{after_same, needed_same}
use Rattle.lot_laws.proofs.sites.OneStep.{queued_without, steps_by}
use Rattle.lot_laws.proofs.sites.StandsKept.{AlikeBeside}
use Rattle.lot_laws.proofs.sites.WakesAt.{leaving_by}

-- in nobody's hand it is taken by nobody
pub free_is : (h : Option Hand) (x : Option Want) → h ≡ None → taken_from h x true ≡ None
free_is None x e = refl
free_is (Some h) x e = absurd cc

-- into the section of a line, in somebody's hand or not
pub record Enters (x : StepView) (m : Line) (told : Reply) : Type 0 where
  pub out : (location_of x).inside ≡ None
  pub deeds : x.deeds None told ≡ In m ∷ []
  pub goes : location_then x told ≡ record (location_of x) { inside = Some m }
  pub held : taken_from (x.next told).hand (x.next told).wants true ≡ taken_from x.row.hand x.row.wants true

module _ (w : State) (t l : ℕ) (inductive : IsInductive w) (there : t < length w.places) (r : Rules)
    (rules : rules_in w l ≡ r) (x : StepView) where
  abbrev here : Site
  here = lock_by w l r

  -- the thread stands at the lock as the row says, and in no line elsewhere
  pub record StandsAs : Type 0 where
    pub location : location_at (place_at w t) l ≡ location_of x
    pub taken : taken_at (place_at w t) l ≡ taken_from x.row.hand x.row.wants true
    pub role : role_on (place_at w t) l ≡ x.row.role

  -- at the place to which a reply leads it does so too, and leaves all else
  pub record LeadsTo (who : Option ℕ) (told : Reply) (p2 : Place) : Type 0 where
    pub alike : AlikeBeside l (place_at w t) p2
    pub fits : FitsItsLock w p2
    pub location : location_at p2 l ≡ location_then x told
    pub taken : taken_at p2 l ≡ taken_from (x.next told).hand (x.next told).wants true
    pub role : role_on p2 l ≡ (x.next told).role
    pub needed : laws.AllNeeded r (x.deeds who told) here t
    pub does : (laws.after_all r (x.deeds who told) here t).role t ≡ (x.next told).role

  module _ (s : StandsAs) (told : Reply) (p2 : Place) (f : LeadsTo None told p2) where
    needed_by : (ds : List Deed) → x.deeds None told ≡ ds → ActsNeeded r (acts t ds) here
    needed_by ds e = subst (λ ds. ActsNeeded r (acts t ds) here) e (needed_same r (x.deeds None told) here t
        f.needed)

    own_by : (ds : List Deed) → x.deeds None told ≡ ds → role_on p2 l ≡ (after_acts r (acts t ds) here).role t
    own_by ds e = f.role ∙ sym f.does ∙ ap (λ ds. (laws.after_all r ds here t).role t) e
        ∙ sym (ap (λ (y : Site). y.role t) (after_same r ds here t))

    same_hand : (location_of x).hand ≡ None → (location_then x told).hand ≡ None → taken_at (place_at w t) l
        ≡ taken_at p2 l
    same_hand a b = s.taken ∙ free_is x.row.hand x.row.wants a
        ∙ sym (free_is (x.next told).hand (x.next told).wants b) ∙ sym f.taken

    -- ---------------------------------------------------------------- each act

    pub goes_in : (m : Line) → key_of l m < length w.sections → section_at w (key_of l m) ≡ None
        → Enters x m told
        → Goes w (put (state_with_sections w (One (key_of l m)) (Some t)) t p2) l (acts t (x.deeds None told))
    goes_in m line free g = subst (λ ds. Goes w (put (state_with_sections w (One (key_of l m)) (Some t)) t p2)
        l (acts t ds)) (sym g.deeds)
        (acting.enter_goes w t l inductive there r rules p2 f.alike f.fits m line free
        (ap (λ (y : Location). y.inside) s.location ∙ g.out)
        (steps_by r l (parts_at w l) (parts_at w l) (place_at w) t p2 (In m ∷ [])
        (needed_by (In m ∷ []) g.deeds) (tt, tt) (s.taken ∙ sym g.held ∙ sym f.taken) refl refl refl refl
        (own_by (In m ∷ []) g.deeds))
        (f.location ∙ g.goes ∙ sym (ap (λ (y : Location). record y { inside = Some m }) s.location)))

    pub accepts : x.deeds None told ≡ End ∷ [] → location_then x told ≡ location_of x → (location_of x).hand
        ≡ None
        → Goes w (put w t p2) l (acts t (x.deeds None told))
    accepts does goes free = subst (λ ds. Goes w (put w t p2) l (acts t ds)) (sym does)
        (acting.place_goes w t l inductive there r rules p2 f.alike f.fits (End ∷ []) (λ h. tt)
        (steps_by r l (parts_at w l) (parts_at w l) (place_at w) t p2 (End ∷ []) (needed_by (End ∷ []) does)
        (tt, tt) (same_hand free (ap (λ (y : Location). y.hand) goes ∙ free)) refl refl refl refl
        (own_by (End ∷ []) does))
        (f.location ∙ goes ∙ sym s.location))

    -- the thread does nothing, and stays
    pub turns : x.deeds None told ≡ [] → location_then x told ≡ location_of x → (location_of x).hand ≡ None
        → Goes w (put w t p2) l (acts t (x.deeds None told))
    turns does goes free = subst (λ ds. Goes w (put w t p2) l (acts t ds)) (sym does)
        (acting.place_goes w t l inductive there r rules p2 f.alike f.fits [] (λ h. tt)
        (steps_by r l (parts_at w l) (parts_at w l) (place_at w) t p2 [] tt tt
        (same_hand free (ap (λ (y : Location). y.hand) goes ∙ free)) refl refl refl refl (own_by [] does))
        (f.location ∙ goes ∙ sym s.location))

    -- out of a section, with nobody in hand
    pub goes_out_alone : (m : Line) → key_of l m < length w.sections → AreLeaving (x.deeds None told)
        → (location_of x).inside ≡ Some m → (location_of x).has_taken ≡ None → (location_of x).hand ≡ None
        → location_then x told ≡ record (location_of x) { inside = None }
        → Goes w (put (state_with_sections w (One (key_of l m)) None) t p2) l (acts t (x.deeds None told))
    goes_out_alone m line leaving within bare free goes = acting.leave_goes w t l inductive there r rules p2
        f.alike f.fits m line (ap (λ (y : Location). y.inside) s.location ∙ within) (x.deeds None told)
        (λ h. plain (x.deeds None told) leaving)
        (record {
          site = leaving_by r l (parts_at w l) (place_at w) (putting (place_at w) t p2) t
              (ap (λ q. taken_at q l) (put_here (place_at w) t p2) ∙ sym same_there ∙ none
              ∙ sym (ap (keep_from t) none))
              (λ u ne. subst (λ q. LetGo t l (place_at w u) q) (sym (put_other (place_at w) t p2 u ne))
              (stays t l (place_at w u) (untaken (place_at w u) t l (λ h. nobody u h))))
              (x.deeds None told) leaving (ap (λ q. role_on q l) (put_here (place_at w) t p2)
              ∙ own_by (x.deeds None told) refl);
          needed = needed_by (x.deeds None told) refl;
        }) (f.location ∙ goes ∙ sym (ap (λ (y : Location). record y { inside = None }) s.location))
      where
        same_there : taken_at (place_at w t) l ≡ taken_at p2 l
        same_there = same_hand free (ap (λ (y : Location). y.hand) goes ∙ free)

        none : taken_at (place_at w t) l ≡ None
        none = s.taken ∙ free_is x.row.hand x.row.wants free

        plain : (ds : List Deed) → AreLeaving ds → NoHandOff ds
        plain (Out ∷ []) h = tt
        plain (Out ∷ End ∷ []) h = tt
        plain ds h = absurd h

        nobody : (u : ℕ) → hand_at (place_at w u) l ≡ hand t false → ⊥
        nobody u h = let a : carried_at (place_at w t) l ≡ Some false = inductive.stands.hands.taken t u l
            false
            h in let c : ◌≡◌ {A = Option Bool} None (Some false) =
            sym (ap (λ (y : Location). y.has_taken) s.location ∙ bare) ∙ a in cc

    module _ (out : acting.IsOut w t l inductive there r rules p2 f.alike f.fits) where
      -- after the last of its main line
      pub stands_last : (want : Want) → key_of l Main < length w.queues → location_of x ≡ inside_of Main
          → x.deeds None told ≡ Case (Park want) ∷ []
          → location_then x told ≡ record (inside_of Main) { stands = Some Main; waits = Some want }
          → Goes w (put (record w { queues = queues_with_last w.queues (key_of l Main) t want }) t p2) l
          (acts t (x.deeds None told))
      stands_last want line was does goes =
          subst (λ ds. Goes w (put (record w { queues = queues_with_last w.queues (key_of l Main) t want }) t
          p2) l (acts t ds)) (sym does)
          (acting.park_goes w t l inductive there r rules p2 f.alike f.fits out Main want (Case (Park want)
          ∷ [])
          (λ h. ((λ k. k), tt)) line (ap (λ (y : Location). y.stands) (s.location ∙ was))
          (parks r l (parts_at w l) (place_at w) t p2 (acting.site_by w t l inductive there r rules p2 f.alike
          f.fits) (same_hand (ap (λ (y : Location). y.hand) was) (ap (λ (y : Location). y.hand) goes))
          (key_of l Main) want (needed_by (Case (Park want) ∷ []) does)
          (own_by (Case (Park want) ∷ []) does ∙ put_here (λ u. role_on (place_at w u) l) t _))
          (f.location ∙ goes ∙ sym (ap (λ (y : Location). record y {
            stands = Some Main;
            waits = Some want;
          }) (s.location ∙ was))))

      -- out of it, as its time is up
      pub leaves_main : (want : Want) → location_of x ≡ record (inside_of Main) {
        stands = Some Main;
        waits = Some want;
      } → x.deeds None told ≡ Case locks.Late ∷ [] → location_then x told ≡ inside_of Main
          → Goes w (put (record w { queues = queues_without w.queues t }) t p2) l (acts t (x.deeds None told))
      leaves_main want was does goes =
          subst (λ ds. Goes w (put (record w { queues = queues_without w.queues t }) t p2) l (acts t ds))
          (sym does)
          (acting.remove_goes w t l inductive there r rules p2 f.alike f.fits out Main (Case locks.Late ∷ [])
          (λ h. ((λ k. k), tt)) stands
          (lates r l (parts_at w l) (place_at w) t p2 (acting.site_by w t l inductive there r rules p2 f.alike
          f.fits) (same_hand (ap (λ (y : Location). y.hand) was) (ap (λ (y : Location). y.hand) goes))
          Main (without t (queue_at w (key_of l Main))) (queued_without t (queue_at w (key_of l Main)))
          (sym (aside_kept t (first_of (queue_at w (key_of l Second)))
          (first_out t (queue_at w (key_of l Second)) not_aside))) (needed_by (Case locks.Late ∷ []) does)
          (own_by (Case locks.Late ∷ []) does))
          (f.location ∙ goes ∙ sym (ap (λ (y : Location). record y { stands = None; waits = None })
          (s.location ∙ was))))
        where
          stands : (location_at (place_at w t) l).stands ≡ Some Main
          stands = ap (λ (y : Location). y.stands) (s.location ∙ was)

          not_aside : times t (queue_at w (key_of l Second)) ≡ 0
          not_aside = inductive.stands.lines t l Second ∙ ap (λ o. stood_in o Second) stands
