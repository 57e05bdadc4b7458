-- A notification goes into both its sections, or out of them where it has nobody in hand: both locks are
-- sites again.
use Rattle.lot_laws.proofs.Imports
use Imports.{ℕ, Bool, true, false, Option, Some, None, if◌then◌else◌, ◌==◌, ◌≡◌, ◌≢◌, ◌*◌, ◌<◌, [], ◌∷◌, length}
use Imports.{set, refl, sym, ◌∙◌, ap, subst, is_none, inl, inr, length-set, get_or-set_same, get_or-set_other}
use Imports.{cases_eq, Two, Next, At, Done, Location, location_by, Place, Condvar, Idle, condvar_goes, NotifyAt}
use Imports.{CondvarPlace, Notify, row_at_mutex, FollowsAtMutex, notified, notify_act, notifiers_follow, IsCondvar}
use Imports.{WaitsAside, keep_from, putting, End, In, Main, Out, Site, has_readers, State, can_do, place_at}
use Imports.{put, queue_at, section_at, state_with_sections, acts, taken_at, role_on, location_at, FitsItsLock}
use Imports.{GoesAll, IsInductive, condvar_of, key_of, rules_in, site_of, locations_of, carried_at, hand_at}
use Imports.{has_moved, notify_row, inside, hand}
use Rattle.steps_base.specs.declared.acts.Next.TheVariants.{End as Over}
use Rattle.steps_condvar.specs.declared.notify.NotifyAt.TheVariants as notify
use Rattle.spec_locks.specs.Locks as locks
use Rattle.lot_laws.proofs.machine.Parts.{parts_at, put_here, put_other, LetGo, stays, untaken}
use Rattle.lot_laws.proofs.sites.OneStep.{Steps, steps_by}
use Rattle.lot_laws.proofs.sites.StandsKept.{Alike, other_key, both}
use Rattle.lot_laws.proofs.sites.StandsMoved.{stands_put, there_in}
use Rattle.lot_laws.proofs.sites.TwoLocks.{goes_in_two, goes_out_two, places_put, two_at, two_follow}
use Rattle.lot_laws.proofs.condvar.TwoParts.{Beside, role_beside, nothing_else, location_beside, taken_beside}
use Rattle.lot_laws.proofs.condvar.Replies as hears
use Rattle.lot_laws.proofs.condvar.Replies.{notifier_hears, none_so}
use Rattle.lot_laws.proofs.condvar.MutexUntouched.{in_steps, out_steps, then_is, was}
use Rattle.lot_laws.proofs.sites.LawsKept.{after_same, needed_same}
use Rattle.lot_laws.proofs.sites.WakesAt.{leaving_by}

module _ (w : State) (t l m : ℕ) (all : Bool) (inductive : IsInductive w) (is_there : t < length w.places)
    (apart : m ≢ l)
    (sort_l : (rules_in w l).sort ≡ locks.Condvar) (sort_m : (rules_in w m).sort ≡ locks.Mutex)
    (kept : IsCondvar (condvar_of w l)) (aside : WaitsAside (condvar_of w l) (site_of w m) m)
    (section_l : key_of l Main < length w.sections) (section_m : key_of m Main < length w.sections) where
  abbrev notifies : NotifyAt → CondvarPlace
  notifies at = Notify all m at

  unshared_l : has_readers (rules_in w l).sort ≡ false
  unshared_l = ap has_readers sort_l

  unshared_m : has_readers (rules_in w m).sort ≡ false
  unshared_m = ap has_readers sort_m

  keys : key_of m Main ≢ key_of l Main
  keys = other_key l m Main Main apart

  module _ (who : Option ℕ) where
    abbrev pub with_both : State
    with_both = state_with_sections w (Two (2 * l) (2 * m)) who

    pub held_l : section_at with_both (key_of l Main) ≡ who
    held_l = get_or-set_other (set w.sections (2 * l) who) (2 * m) (2 * l) who None (λ e. keys (sym e))
        ∙ get_or-set_same w.sections (2 * l) who None section_l

    pub held_m : section_at with_both (key_of m Main) ≡ who
    held_m = get_or-set_same (set w.sections (2 * l) who) (2 * m) who None
        (rw (length-set w.sections (2 * l) who) section_m)

    pub elsewhere : (key : ℕ) → key ≢ key_of l Main → key ≢ key_of m Main → section_at with_both key
        ≡ section_at w key
    elsewhere key nl nm = get_or-set_other (set w.sections (2 * l) who) (2 * m) key who None nm
        ∙ get_or-set_other w.sections (2 * l) key who None nl

  -- from a place to the next one, of which no other lock sees anything
  module _ (at : NotifyAt) (is : place_at w t ≡ Condvar l (notifies at)) (n : Next CondvarPlace)
      (beside : Beside m n) where
    abbrev p2 : Place
    p2 = condvar_goes l n

    else_alike : (k : ℕ) → k ≢ l → k ≢ m → Alike k (place_at w t) p2
    else_alike k nl nm = subst (λ q. Alike k q p2) (sym is) (nothing_else l m apart (At (notifies at)) n refl
        beside k nl nm)

    still : (u k : ℕ) → (u ≡ t → k ≡ l → ⊥) → (u ≡ t → k ≡ m → ⊥)
        → locations_of (putting (place_at w) t p2) u k ≡ locations_of (place_at w) u k
    still u k nl nm = elim (cases_eq u t) [
      | inl e ↦ rw (e, put_here (place_at w) t p2) (else_alike k (nl e) (nm e)).location
      | inr nu ↦ ap (λ q. location_at q k) (put_other (place_at w) t p2 u nu)
    ]

    location_m : location_at (place_at w t) m ≡ location_by (row_at_mutex (At (notifies at)))
    location_m = ap (λ q. location_at q m) is ∙ location_beside l m apart (At (notifies at)) refl

    taken_m : taken_at (place_at w t) m ≡ taken_at (Condvar l (notifies at)) m
    taken_m = ap (λ q. taken_at q m) is

    then_m : location_at p2 m ≡ location_by (row_at_mutex n)
    then_m = location_beside l m apart n beside

  -- ---------------------------------------------------------------- into both

  module _ (is : place_at w t ≡ Condvar l (notifies notify.Enter))
      (can : can_do w (notify_act all l m notify.Enter) ≡ true) where
    abbrev again : Next CondvarPlace
    again = At (notifies notify.Again)

    free_l : section_at w (2 * l) ≡ None
    free_l = none_so (section_at w (2 * l)) (both (is_none (section_at w (2 * l)))
        (is_none (section_at w (2 * m))) can).0

    free_m : section_at w (2 * m) ≡ None
    free_m = none_so (section_at w (2 * m)) (both (is_none (section_at w (2 * l)))
        (is_none (section_at w (2 * m))) can).1

    in_follows : FollowsAtMutex (rules_in w m) (site_of w m) (condvar_of w l) t m all notify.Enter Done
    in_follows = notifiers_follow (rules_in w m) (site_of w m) (condvar_of w l) t m all notify.Enter Done
        sort_m (hears.role_beside w t l (notifies notify.Enter) inductive is m refl)
        (notifier_hears w t l m all notify.Enter inductive kept aside is can)

    in_m : Steps (rules_in w m) m (parts_at w m) (parts_at w m) (place_at w) t
        (Condvar l (notifies notify.Again)) (In Main ∷ [])
    in_m = steps_by (rules_in w m) m (parts_at w m) (parts_at w m) (place_at w) t
        (Condvar l (notifies notify.Again)) (In Main ∷ []) (in_follows.needed.0, tt) (tt, tt)
        (taken_m notify.Enter is again refl ∙ taken_beside l m apart (At (notifies notify.Enter)) refl
        ∙ sym (taken_beside l m apart again refl)) refl refl refl refl (role_beside l m apart again refl
        ∙ sym in_follows.role)

    in_l : Steps (rules_in w l) l (parts_at w l) (parts_at w l) (place_at w) t
        (Condvar l (notifies notify.Again)) (In Main ∷ [])
    in_l = in_steps w t l m (notifies notify.Enter) inductive is_there apart sort_l is refl Done refl free_l
        refl
        refl

    pub goes_into_both : FitsItsLock w (Condvar l (notifies notify.Again))
        → GoesAll w (put (with_both (Some t)) t (Condvar l (notifies notify.Again)))
        (two_at l m (acts t (In Main ∷ [])) (acts t (In Main ∷ [])))
    goes_into_both fits = record {
      follows = two_follow w v inductive t is_there there_then l m apart (else_alike notify.Enter is again
          refl)
          refl refl refl refl unshared_l unshared_m (In Main ∷ []) (In Main ∷ []) in_l in_m;
      stands = stands_put w v inductive.stands (λ k. refl) t there_then fits
          (places_put w v inductive t is_there
          there_then l m apart (else_alike notify.Enter is again refl) refl refl refl refl unshared_l
          unshared_m (In Main ∷ []) (In Main ∷ []) in_l in_m)
          (goes_in_two (locations_of (place_at w)) (locations_of (putting (place_at w) t there_then))
          (section_at w) (queue_at w) (there_in w inductive.stands) t l m apart
          (still notify.Enter is again refl) (section_at v) (elsewhere (Some t)) free_l free_m
          (held_l (Some t)) (held_m (Some t))
          (ap (λ (y : Location). y.inside) (was w t l m (notifies notify.Enter) inductive is_there apart
          sort_l
          is refl Done refl)) (ap (λ (y : Location). y.inside) (location_m notify.Enter is again refl))
          (ap (λ q. location_at q l) (put_here (place_at w) t there_then)
          ∙ then_is w t l m (notifies notify.Enter) inductive is_there apart sort_l is refl Done refl
          ∙ sym (ap (λ (y : Location). record y { inside = Some Main })
          (was w t l m (notifies notify.Enter) inductive is_there apart sort_l is refl Done refl)))
          (ap (λ q. location_at q m) (put_here (place_at w) t there_then) ∙ then_m notify.Enter is again refl
          ∙ sym (ap (λ (y : Location). record y { inside = Some Main })
          (location_m notify.Enter is again refl))));
    }
      where
        there_then : Place
        there_then = Condvar l (notifies notify.Again)

        v : State
        v = put (with_both (Some t)) t there_then

  -- ---------------------------------------------------------------- and out of them

  -- the thread is inside the section of the mutex, whatever waiters it has moved
  pub inside_leave : (any : Bool) (number : ℕ) → (notify_row all m (notify.Leave any number)).role.inside
      ≡ Some Main
  inside_leave any number = by_number (number == 0)
    where
      by_number : (b : Bool) → (if b then inside else has_moved any false).inside ≡ Some Main
      by_number true = refl
      by_number false = refl

  module _ (number : ℕ) (is : place_at w t ≡ Condvar l (notifies (notify.Leave false number))) where
    abbrev leaves_at : NotifyAt
    leaves_at = notify.Leave false number

    abbrev over : Next CondvarPlace
    over = Over (notified all number)

    out_follows : FollowsAtMutex (rules_in w m) (site_of w m) (condvar_of w l) t m all leaves_at Done
    out_follows = notifiers_follow (rules_in w m) (site_of w m) (condvar_of w l) t m all leaves_at Done sort_m
        (hears.role_beside w t l (notifies leaves_at) inductive is m refl)
        (notifier_hears w t l m all leaves_at
        inductive kept aside is refl)

    out_l : Steps (rules_in w l) l (parts_at w l) (parts_at w l) (place_at w) t Idle (Out ∷ [])
    out_l = out_steps w t l m (notifies leaves_at) inductive is_there apart sort_l is refl Done tt refl refl

    untaken_m : taken_at (place_at w t) m ≡ None
    untaken_m = taken_m leaves_at is over tt ∙ taken_beside l m apart (At (notifies leaves_at)) refl

    nobody : (u : ℕ) → hand_at (place_at w u) m ≡ hand t false → ⊥
    nobody u h = let a : carried_at (place_at w t) m ≡ Some false = inductive.stands.hands.taken t u m false h
        in let b : carried_at (place_at w t) m ≡ None = ap (λ (y : Location). y.has_taken)
        (location_m leaves_at is over tt) in
        let c : ◌≡◌ {A = Option Bool} None (Some false) = sym b ∙ a in cc

    out_m : Steps (rules_in w m) m (parts_at w m) (parts_at w m) (place_at w) t Idle (Out ∷ End ∷ [])
    out_m = record {
      site = leaving_by (rules_in w m) m (parts_at w m) (place_at w) (putting (place_at w) t Idle) t
          (ap (λ q. taken_at q m) (put_here (place_at w) t Idle) ∙ sym (ap (keep_from t) untaken_m))
          (λ u ne. subst (λ q. LetGo t m (place_at w u) q) (sym (put_other (place_at w) t Idle u ne))
          (stays t m (place_at w u) (untaken (place_at w u) t m (nobody u))))
          (Out ∷ End ∷ []) tt (ap (λ q. role_on q m) (put_here (place_at w) t Idle) ∙ sym out_follows.role
          ∙ sym (ap (λ (y : Site). y.role t) (after_same (rules_in w m) (Out ∷ End ∷ []) (site_of w m)
          t)));
      needed = needed_same (rules_in w m) (Out ∷ End ∷ []) (site_of w m) t out_follows.needed;
    }

    pub goes_out_of_both : GoesAll w (put (with_both None) t Idle) (two_at l m (acts t (Out ∷ []))
        (acts t (Out ∷ End ∷ [])))
    goes_out_of_both = record {
      follows = two_follow w v inductive t is_there Idle l m apart (else_alike leaves_at is over tt) refl refl
          refl refl unshared_l unshared_m (Out ∷ []) (Out ∷ End ∷ []) out_l out_m;
      stands = stands_put w v inductive.stands (λ k. refl) t Idle tt (places_put w v inductive t is_there Idle
          l m
          apart (else_alike leaves_at is over tt) refl refl refl refl unshared_l unshared_m (Out ∷ [])
          (Out ∷ End ∷ []) out_l out_m)
          (goes_out_two (locations_of (place_at w)) (locations_of (putting (place_at w) t Idle))
          (section_at w) (queue_at w) (there_in w inductive.stands) t l m apart (still leaves_at is over tt)
          (section_at v) (elsewhere None) (held_l None) (held_m None)
          (ap (λ (y : Location). y.inside) (was w t l m (notifies leaves_at) inductive is_there apart sort_l
          is
          refl Done tt)) (ap (λ (y : Location). y.inside) (location_m leaves_at is over tt)
          ∙ inside_leave false number)
          (ap (λ q. location_at q l) (put_here (place_at w) t Idle) ∙ then_is w t l m (notifies leaves_at)
          inductive is_there apart sort_l is refl Done tt
          ∙ sym (ap (λ (y : Location). record y { inside = None }) (was w t l m (notifies leaves_at)
          inductive is_there apart sort_l is refl Done tt)))
          (ap (λ q. location_at q m) (put_here (place_at w) t Idle) ∙ then_m leaves_at is over tt
          ∙ sym (ap (λ (y : Location). record y { inside = None }) (location_m leaves_at is over tt))));
    }
      where
        v : State
        v = put (with_both None) t Idle
