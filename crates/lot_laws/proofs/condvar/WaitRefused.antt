-- A wait with another mutex than the one that is shown goes out of the section of its condition variable, and
-- is over: both locks are sites again.
use Rattle.lot_laws.proofs.Imports
use Imports.{ℕ, Bool, false, None, ◌≡◌, ◌≢◌, ◌<◌, [], ◌∷◌, length, refl, sym, ◌∙◌, ap, subst, inl, inr}
use Imports.{get_or-set_same, get_or-set_other, cases_eq, One, At, Done, Location, Condvar, Idle, CondvarPlace}
use Imports.{Wait, WaiterFollows, putting, End, Main, Out, has_readers, State, place_at, put, queue_at}
use Imports.{section_at, state_with_sections, acts, taken_at, location_at, GoesAll, IsInductive, key_of}
use Imports.{rules_in, site_of, locations_of}
use Rattle.steps_base.specs.declared.acts.Next.TheVariants.{End as Over}
use Rattle.steps_base.specs.Locations.{nowhere}
use Rattle.spec_locks.specs.declared.outcomes.Answer.TheVariants as answer
use Rattle.steps_condvar.specs.declared.wait.WaitAt.TheVariants as wait
use Rattle.spec_locks.specs.Locks as locks
use Rattle.lot_laws.proofs.machine.Parts.{parts_at, put_here, put_other}
use Rattle.lot_laws.proofs.sites.OneStep.{Steps, steps_by}
use Rattle.lot_laws.proofs.sites.StandsKept.{Alike}
use Rattle.lot_laws.proofs.sites.StandsMoved.{goes_out, stands_put, there_in}
use Rattle.lot_laws.proofs.sites.TwoLocks.{places_put, two_at, two_follow}
use Rattle.lot_laws.proofs.condvar.TwoParts.{nothing_else, location_beside, taken_beside}
use Rattle.lot_laws.proofs.condvar.Replies.{waiter_hears}
use Rattle.lot_laws.proofs.condvar.MutexUntouched.{out_steps, then_is, was}
use Rattle.lot_laws.proofs.condvar.WaitWords as beside

module _ (w : State) (t l m : ℕ) (timed : Bool) (inductive : IsInductive w) (is_there : t < length w.places)
    (apart : m ≢ l)
    (sort_l : (rules_in w l).sort ≡ locks.Condvar) (sort_m : (rules_in w m).sort ≡ locks.Mutex)
    (section : key_of l Main < length w.sections) (is : place_at w t ≡ Condvar l (Wait m timed wait.Refuse))
  where
    abbrev this : CondvarPlace
    this = Wait m timed wait.Refuse

    abbrev v : State
    v = put (state_with_sections w (One (key_of l Main)) None) t Idle

    -- elsewhere all is as it was
    else_alike : (k : ℕ) → k ≢ l → k ≢ m → Alike k (place_at w t) Idle
    else_alike k nl nm = subst (λ q. Alike k q Idle) (sym is) (nothing_else l m apart (At this)
        (Over answer.TwoMutexes) refl tt k nl nm)

    -- A refused wait stands nowhere at the mutex, before and after the step.
    location_m : location_at (place_at w t) m ≡ nowhere
    location_m = ap (λ q. location_at q m) is ∙ location_beside l m apart (At this) refl

    taken_m : taken_at (place_at w t) m ≡ None
    taken_m = ap (λ q. taken_at q m) is ∙ taken_beside l m apart (At this) refl

    follows : WaiterFollows (rules_in w m) (site_of w m) t m timed wait.Refuse None Done
    follows = beside.follows w t l m timed inductive is_there apart sort_m wait.Refuse is None Done
        (waiter_hears w t l m timed wait.Refuse inductive is refl)

    end_steps : Steps (rules_in w m) m (parts_at w m) (parts_at w m) (place_at w) t Idle (End ∷ [])
    end_steps = steps_by (rules_in w m) m (parts_at w m) (parts_at w m) (place_at w) t Idle (End ∷ [])
        (follows.needed.0, tt) (tt, tt) taken_m refl refl refl refl (sym follows.role)

    unshared_l : has_readers (rules_in w l).sort ≡ false
    unshared_l = ap has_readers sort_l

    unshared_m : has_readers (rules_in w m).sort ≡ false
    unshared_m = ap has_readers sort_m

    places : place_at v ≡ putting (place_at w) t Idle
    places = places_put w v inductive t is_there Idle l m apart else_alike refl refl refl refl unshared_l
        unshared_m (Out ∷ []) (End ∷ []) (out_steps w t l m this inductive is_there apart sort_l is refl Done
        tt
        refl refl) end_steps

    still : (u k : ℕ) → (u ≡ t → k ≡ l → ⊥) → locations_of (putting (place_at w) t Idle) u k ≡ locations_of
        (place_at w) u k
    still u k ne = elim (cases_eq u t) [
      | inl e ↦ rw (e, put_here (place_at w) t Idle) (elim (cases_eq k m) [
        | inl f ↦ rw f (sym location_m)
        | inr nm ↦ (else_alike k (ne e) nm).location
      ])
      | inr nu ↦ ap (λ q. location_at q k) (put_other (place_at w) t Idle u nu)
    ]

    pub refused : GoesAll w v (two_at l m (acts t (Out ∷ [])) (acts t (End ∷ [])))
    refused = record {
      follows = two_follow w v inductive t is_there Idle l m apart else_alike refl refl refl refl unshared_l
          unshared_m (Out ∷ []) (End ∷ []) (out_steps w t l m this inductive is_there apart sort_l is refl
          Done
          tt
          refl refl) end_steps;
      stands = stands_put w v inductive.stands (λ k. refl) t Idle tt places
          (goes_out (locations_of (place_at w))
          (locations_of (putting (place_at w) t Idle)) (section_at w) (queue_at w)
          (there_in w inductive.stands)
          t
          l still Main (section_at v)
          (λ key ne. get_or-set_other w.sections (key_of l Main) key None None ne)
          (get_or-set_same w.sections (key_of l Main) None None section)
          (ap (λ (y : Location). y.inside) (was w t l m this inductive is_there apart sort_l is refl Done tt))
          (ap (λ q. location_at q l) (put_here (place_at w) t Idle) ∙ then_is w t l m this inductive is_there
          apart
          sort_l is refl Done tt ∙ sym (ap (λ (y : Location). record y { inside = None })
          (was w t l m this inductive is_there apart sort_l is refl Done tt))));
    }
