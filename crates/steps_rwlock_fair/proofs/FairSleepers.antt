-- An event that befalls a thread asleep in a call that may be handed the lock makes of the call
-- what its row says. A thread that looks once more is in the same call as before.
use Rattle.std.proofs.lemmas.Bool.Decides.{nat_tests}
use Rattle.std.proofs.Common.{ℕ, Bool, true, false, Option, Some, None, ◌==◌, ◌≡◌, ◌+◌, refl, sym, ap, subst}
use Rattle.std.proofs.Common.{◌∙◌, arith}
use Rattle.core_base.specs.declared.keys.Line.TheVariants.{Second}
use Rattle.core_base.specs.declared.notes.Note.TheVariants as note
use Rattle.core_base.specs.declared.wants.Want.{Want}
use Rattle.core_base.specs.declared.wants.Want.TheVariants.{Exclusive, Upgradable, Shared}
use Rattle.spec_locks.specs.declared.calls.Access.{Access}
use Rattle.spec_locks.specs.declared.calls.Access.TheVariants as access
use Rattle.spec_locks.specs.declared.calls.Patience.{Patience}
use Rattle.spec_locks.specs.declared.calls.Patience.TheVariants.{Patient, Timed, Try}
use Rattle.steps_base.specs.declared.acts.Next.{Next}
use Rattle.steps_base.specs.declared.acts.Next.TheVariants as next
use Rattle.steps_base.specs.declared.acts.Reply.{Reply}
use Rattle.steps_base.specs.declared.acts.Reply.TheVariants as reply
use Rattle.steps_base.specs.Calls.{call_by}
use Rattle.steps_base.specs.Profiles.{hand}
use Rattle.spec_locks.specs.Locks.{Rights, putting, with_right, without_right}
use Rattle.spec_locks.specs.Runs.{CallState, one_more_at}
use Rattle.spec_locks.specs.Purposes.{Bumps}
use Rattle.spec_locks.specs.Sites.{Claim, Has, Pends, Runs, Ran}
use Rattle.spec_locks.proofs.Rights.{less_pending, unchanged, changed, agree}
use Rattle.steps_rwlock.specs.declared.places.Admission.{Admission}
use Rattle.steps_rwlock.specs.declared.places.RwLockPlace.{RwLockPlace}
use Rattle.steps_rwlock.specs.declared.places.RwLockAt.{RwLockAt}
use Rattle.steps_rwlock.specs.declared.places.RwLockAt.TheVariants as at
use Rattle.steps_rwlock.specs.declared.park.ParkAt.TheVariants as parking
use Rattle.steps_rwlock.specs.declared.purposes.RwLockPurpose.{RwLockPurpose}
use Rattle.steps_rwlock.specs.declared.purposes.RwLockPurpose.TheVariants as purpose
use Rattle.steps_rwlock.specs.declared.release.WakeAt.{WakeAt}
use Rattle.steps_rwlock.specs.declared.release.WakeAt.TheVariants as waking
use Rattle.steps_rwlock.specs.RwLockSteps.{wanted, rwlock_next}
use Rattle.steps_rwlock.specs.RwLockProfiles.{rwlock_profile, rwlock_respin, looking_at, gone_to}
use Rattle.steps_rwlock.specs.RwLockProfiles.{parked_hand}
use Rattle.steps_rwlock.specs.RwLockCalls.{MayStand, StandsAt}
use Rattle.steps_rwlock.proofs.RwLockCallPlaces.{rwlock_sleepers_hear, rwlock_looks_stand}
use Rattle.steps_base.specs.Moves.{claim_handed}
use Rattle.steps_rwlock_fair.specs.declared.places.RwLockCallPlace.{RwLockCallPlace}
use Rattle.steps_rwlock_fair.specs.declared.places.RwLockCallPlace.TheVariants.{Plain, PeekQueue, HandOver}
use Rattle.steps_rwlock_fair.specs.declared.places.RwLockCallPlace.TheVariants.{Bump}
use Rattle.steps_rwlock_fair.specs.declared.places.RwLockCallPlace.TheVariants.{Handed}
use Rattle.steps_rwlock_fair.specs.declared.hand_over.HandOverAt.{HandOverAt}
use Rattle.steps_rwlock_fair.specs.declared.hand_over.HandOverAt.TheVariants as handing
use Rattle.steps_rwlock_fair.specs.declared.handed.HandedAt.{HandedAt}
use Rattle.steps_rwlock_fair.specs.declared.handed.HandedAt.TheVariants as handed
use Rattle.steps_rwlock_fair.specs.FairSteps.{plain_next, bump_next, handed_woken, call_next}
use Rattle.steps_rwlock_fair.specs.FairProfiles.{call_profile, bumping, without_claim, in_call}
use Rattle.steps_rwlock_fair.specs.FairCalls.{IsOfBump, CallStands}
use Rattle.steps_rwlock_fair.specs.FairLaws.{CallBecomes, with_claim, CallIsHanded, CallHears}
use Rattle.steps_rwlock_fair.specs.FairLaws.{FairSleepersHear, FairLooksStand}
use Rattle.steps_rwlock_fair.proofs.FairStands.{StaysFor, stays_for}
use Rattle.steps_rwlock_fair.proofs.FairTells.{recalls}
use Rattle.steps_rwlock_fair.proofs.FairRights.{one_more_of, rights_are}

-- ------------------------------------------------------------ rights that were handed and are left out again

module _ (rights : ℕ → Rights) (l : ℕ) where
  same : (l == l) ≡ true
  same = grind (arith, nat_tests)

  one_back : (x : Want) (y : Rights) → without_right x (with_right x y) ≡ y
  one_back Exclusive y = rights_are _ _ _ _ _ _ _ _ (omega arith) refl refl refl
  one_back Upgradable y = rights_are _ _ _ _ _ _ _ _ refl refl (omega arith) refl
  one_back Shared y = rights_are _ _ _ _ _ _ _ _ refl refl refl (omega arith)
  one_back x y = refl

  abbrev more_pending : Rights → Rights
  more_pending y = record y { pending = y.pending + 1 }

  pend_back : (y : Rights) → less_pending (more_pending y) ≡ y
  pend_back y = rights_are _ _ _ _ _ _ _ _ refl (omega arith) refl refl

  -- a right more and a right less at one lock
  module _ (more less : Rights → Rights) (back : (y : Rights) → less (more y) ≡ y) where
    changes_back : (k : ℕ) → putting (putting rights l (more (rights l))) l
        (less (putting rights l (more (rights l)) l)) k ≡ rights k
    changes_back k = agree rights l _ _ _ _ (changed rights l less (putting rights l (more (rights l))) _
        (changed rights l more rights _ (unchanged rights l (rights l) refl)))
        (unchanged rights l (rights l) refl) (back (rights l)) k

  claim_back : (c : Claim) (k : ℕ) → without_claim c l (with_claim c l rights) k ≡ rights k
  claim_back (Has x) k = changes_back (with_right x) (without_right x) (one_back x) k
  claim_back (Pends b) k = changes_back more_pending less_pending pend_back k
  claim_back Runs k = refl
  claim_back Ran k = refl

-- ---------------------------------------------------------------- calls

module _ (a : Admission) (l : ℕ) where
  abbrev of : RwLockPurpose → Bool → RwLockAt → RwLockPlace
  of q again to = record { purpose = q; retries = again; at = to }

  -- in a call that neither bumps nor hands over
  plain_becomes : (p : RwLockPlace) (told : Reply) (becomes : CallState → CallState)
      → call_next a (Plain p) told ≡ plain_next (rwlock_next a p told)
      → ((p2 : RwLockPlace) (rights : ℕ → Rights) → rwlock_next a p told ≡ next.At p2
      → call_by l (rwlock_profile a p2) rights ≡ becomes (call_by l (rwlock_profile a p) rights))
      → CallBecomes a l (Plain p) told becomes
  plain_becomes p told becomes same hears c2 rights e = by_next (rwlock_next a p told) refl (sym same ∙ e)
    where
      by_next : (n : Next RwLockPlace) → rwlock_next a p told ≡ n → plain_next n ≡ next.At c2
          → call_by l (call_profile a c2) rights ≡ becomes (call_by l (rwlock_profile a p) rights)
      by_next (next.At p2) f g = subst (λ c. call_by l (call_profile a c) rights
          ≡ becomes (call_by l (rwlock_profile a p) rights)) (let z : Plain p2 ≡ c2 = cc in z)
          (hears p2 rights f)
      by_next (next.End answer) f g = absurd cc

  -- in the second half of a bump
  abbrev lifted : Want → CallState → CallState
  lifted x c = record c { purpose = Some (Bumps l x); released = true; former = one_more_at l x c.former }

  bump_becomes : (x : Access) (again : Bool) (to : RwLockAt) (told : Reply) (becomes : CallState → CallState)
      → ((c : CallState) → lifted (wanted x) (becomes c) ≡ becomes (lifted (wanted x) c))
      → call_next a (Bump (record {
        purpose = purpose.Enter x Patient;
        retries = again;
        at = to;
      })) told ≡ bump_next (purpose.Enter x Patient) (rwlock_next a (record {
        purpose = purpose.Enter x Patient;
        retries = again;
        at = to;
      }) told)
      → ((p2 : RwLockPlace) (rights : ℕ → Rights) → rwlock_next a (record {
        purpose = purpose.Enter x Patient;
        retries = again;
        at = to;
      }) told ≡ next.At p2 → call_by l (rwlock_profile a p2) rights ≡ becomes
      (call_by l (rwlock_profile a (record {
        purpose = purpose.Enter x Patient;
        retries = again;
        at = to;
      })) rights))
      → CallBecomes a l (Bump (record {
        purpose = purpose.Enter x Patient;
        retries = again;
        at = to;
      })) told becomes
  bump_becomes x again to told becomes commutes same hears c2 rights e = by_next (rwlock_next a p told) refl
      (stays_for a p told) (sym same ∙ e)
    where
      p : RwLockPlace
      p = record { purpose = purpose.Enter x Patient; retries = again; at = to }

      by_next : (n : Next RwLockPlace) → rwlock_next a p told ≡ n → StaysFor (purpose.Enter x Patient) n
          → bump_next (purpose.Enter x Patient) n ≡ next.At c2 → call_by l (call_profile a c2) rights
          ≡ becomes (call_by l (call_profile a (Bump p)) rights)
      by_next (next.At p2) f for g =
          subst (λ c. call_by l (call_profile a c) rights
          ≡ becomes (call_by l (call_profile a (Bump p)) rights)) (let z : Bump p2 ≡ c2 = cc in z)
          (ap (λ q. call_by l (bumping q (rwlock_profile a p2)) rights) for
          ∙ ap (lifted (wanted x)) (hears p2 rights f) ∙ commutes (call_by l (rwlock_profile a p) rights))
      by_next (next.End answer) f for g = absurd cc

  -- ---------------------------------------------------------------- the thread that is handed the lock

  plain_given : (q : RwLockPurpose) (again : Bool) (to : RwLockAt) (u : ℕ) (alone : Bool)
      → StandsAt q again to → parked_hand to ≡ hand u false → (rwlock_profile a (of q again to)).role.claims
      ≡ None → CallIsHanded a l (Plain (of q again to)) u alone
  plain_given (purpose.Enter x how) again (at.Park (parking.Taken v)) u alone stands h none =
      λ c2 rights y w e.
      subst (λ c. call_by l (call_profile a c) (with_claim (claim_handed alone y) l rights) ≡ record
      (call_by l (call_profile a (Plain (of (purpose.Enter x how) again (at.Park (parking.Taken v)))))
      rights) { retries = None }) (let z : Handed x how false (handed.Asleep u alone) ≡ c2 = cc in z)
      (subst (λ z. call_by l (call_profile a (Handed x how false (handed.Asleep u alone)))
      (with_claim (claim_handed alone z) l rights) ≡ record
      (call_by l (call_profile a (Plain (of (purpose.Enter x how) again (at.Park (parking.Taken v)))))
      rights) { retries = None }) (let z : wanted x ≡ y = cc in z)
      (recalls _ _ (claim_back rights l (claim_handed alone (wanted x)))))
  plain_given (purpose.Enter x how) again (at.Aside (parking.Taken v)) u alone stands h none = absurd cc
  plain_given (purpose.Upgrade how) again (at.Aside (parking.Taken v)) u alone stands h none = absurd cc
  plain_given (purpose.Upgrade Patient) again (at.Park to) u alone stands h none = absurd stands
  plain_given (purpose.Upgrade Timed) again (at.Park to) u alone stands h none = absurd stands
  plain_given (purpose.Upgrade Try) again (at.Park to) u alone stands h none = absurd stands
  plain_given (purpose.Release access.Shared) again (at.Park to) u alone stands h none = absurd stands
  plain_given (purpose.Release access.Upgradable) again (at.Park to) u alone stands h none = absurd stands
  plain_given (purpose.Release access.Exclusive) again (at.Park to) u alone stands h none = absurd stands
  plain_given (purpose.Release access.Shared) again (at.Aside to) u alone stands h none = absurd stands
  plain_given (purpose.Release access.Upgradable) again (at.Aside to) u alone stands h none = absurd stands
  plain_given (purpose.Release access.Exclusive) again (at.Aside to) u alone stands h none = absurd stands
  plain_given (purpose.Downgrade d) again (at.Park to) u alone stands h none = absurd stands
  plain_given (purpose.Downgrade d) again (at.Aside to) u alone stands h none = absurd stands
  plain_given q again to u alone stands h none = absurd cc

  bump_given : (q : RwLockPurpose) (again : Bool) (to : RwLockAt) (u : ℕ) (alone : Bool) → StandsAt q again to
      → IsOfBump q again → parked_hand to ≡ hand u false → (rwlock_profile a (of q again to)).role.claims
      ≡ None → CallIsHanded a l (Bump (of q again to)) u alone
  bump_given (purpose.Enter x Patient) again (at.Park (parking.Taken v)) u alone stands bump h none =
      λ c2 rights y w e.
      subst (λ c. call_by l (call_profile a c) (with_claim (claim_handed alone y) l rights) ≡ record
      (call_by l (call_profile a (Bump (of (purpose.Enter x Patient) again (at.Park (parking.Taken v)))))
      rights) { retries = None }) (let z : Handed x Patient true (handed.Asleep u alone) ≡ c2 = cc in z)
      (subst (λ z. call_by l (call_profile a (Handed x Patient true (handed.Asleep u alone)))
      (with_claim (claim_handed alone z) l rights) ≡ record
      (call_by l (call_profile a (Bump (of (purpose.Enter x Patient) again (at.Park (parking.Taken v)))))
      rights) { retries = None }) (let z : wanted x ≡ y = cc in z)
      (recalls _ _ (one_more_of l (wanted x) _ _ (claim_back rights l (claim_handed alone (wanted x))))))
  bump_given (purpose.Enter x Patient) again (at.Aside (parking.Taken v)) u alone stands bump h none =
      absurd cc
  bump_given (purpose.Release access.Shared) again (at.Park to) u alone stands bump h none = absurd stands
  bump_given (purpose.Release access.Shared) again (at.Aside to) u alone stands bump h none = absurd stands
  bump_given (purpose.Enter x Patient) again to u alone stands bump h none = absurd cc
  bump_given (purpose.Release access.Shared) again to u alone stands bump h none = absurd cc
  bump_given q again to u alone stands bump h none = absurd bump

  -- nobody else was
  pub never_given : (to : RwLockAt) (u : ℕ) → parked_hand to ≡ hand u true → ⊥
  never_given (at.Park (parking.Taken v)) u h = cc
  never_given (at.Park to) u h = cc
  never_given (at.Aside (parking.Taken v)) u h = cc
  never_given (at.Aside to) u h = cc
  never_given to u h = cc

  -- woken, it has what it was handed
  handed_goes : (x : Access) (how : Patience) (b : Bool) (by : ℕ) (alone : Bool)
      → CallBecomes a l (Handed x how b (handed.Asleep by alone)) (reply.Woken note.HandOff) (λ c. c)
  handed_goes x how b by alone c2 rights e = subst (λ c. call_by l (call_profile a c) rights
      ≡ call_by l (call_profile a (Handed x how b (handed.Asleep by alone))) rights)
      (let z : handed_woken x how b alone ≡ c2 = cc in z) (woken_same x b alone)
    where
      woken_same : (x : Access) (b alone : Bool) → call_by l (call_profile a (handed_woken x how b alone))
          rights ≡ call_by l (call_profile a (Handed x how b (handed.Asleep by alone))) rights
      woken_same access.Shared b true = refl
      woken_same access.Shared b false = refl
      woken_same access.Upgradable b true = refl
      woken_same access.Upgradable b false = refl
      woken_same access.Exclusive b true = refl
      woken_same access.Exclusive true false = refl
      woken_same access.Exclusive false false = refl

  -- a place at which nothing is heard
  stays_same : (c : RwLockCallPlace) (told : Reply) → call_next a c told ≡ next.At c
      → CallBecomes a l c told (λ x. x)
  stays_same c told same c2 rights e =
      subst (λ d. call_by l (call_profile a d) rights ≡ call_by l (call_profile a c) rights) (let z : c ≡ c2 =
      cc in z) refl

  -- ---------------------------------------------------------------- every place

  plain_hears : (p : RwLockPlace) → MayStand a p → CallHears a l (Plain p)
  plain_hears p stands =
      let hears = rwlock_sleepers_hear a l p stands in
      record {
        taken = λ u. plain_becomes p (reply.TakenBy u) (λ c. c) refl (hears.taken u);
        woken = λ u h. plain_becomes p (reply.Woken note.Normal) (λ c. record c { retries = Some l }) refl
            (hears.woken u h);
        late = λ may. plain_becomes p reply.Late (λ c. record c { late = true }) refl (hears.late may);
        given = λ u alone h none. plain_given p.purpose p.retries p.at u alone stands.place h none;
        accepts = λ u h. absurd (never_given p.at u h);
      }

  bump_hears : (q : RwLockPurpose) (again : Bool) (to : RwLockAt) → MayStand a (of q again to)
      → IsOfBump q again → CallHears a l (Bump (of q again to))
  bump_hears (purpose.Enter x Patient) again to stands bump =
      let hears = rwlock_sleepers_hear a l (of (purpose.Enter x Patient) again to) stands in
      record {
        taken = λ u. bump_becomes x again to (reply.TakenBy u) (λ c. c) (λ c. refl) refl (hears.taken u);
        woken = λ u h. bump_becomes x again to (reply.Woken note.Normal) (λ c. record c { retries = Some l })
            (λ c. refl) refl (hears.woken u h);
        late = λ may. bump_becomes x again to reply.Late (λ c. record c { late = true }) (λ c. refl) refl
            (hears.late may);
        given = λ u alone h none. bump_given (purpose.Enter x Patient) again to u alone stands.place bump h
            none;
        accepts = λ u h. absurd (never_given to u h);
      }
  bump_hears (purpose.Release access.Shared) again at.GiveWay stands bump = record {
    taken = λ u. stays_same (Bump (of (purpose.Release access.Shared) again at.GiveWay)) (reply.TakenBy u)
        refl;
    woken = λ u h. absurd cc;
    late = λ may. absurd (may refl);
    given = λ u alone h none. absurd cc;
    accepts = λ u h. absurd cc;
  }
  bump_hears (purpose.Release access.Shared) again (at.Wake Second to) stands bump = record {
    taken = λ u. stays_same (Bump (of (purpose.Release access.Shared) again (at.Wake Second to)))
        (reply.TakenBy u) (waking_stays to u);
    woken = λ u h. absurd cc;
    late = λ may. absurd (may refl);
    given = λ u alone h none. absurd cc;
    accepts = λ u h. absurd cc;
  }
    where
      waking_stays : (to : WakeAt) (u : ℕ)
          → call_next a (Bump (of (purpose.Release access.Shared) again (at.Wake Second to)))
          (reply.TakenBy u) ≡ next.At (Bump (of (purpose.Release access.Shared) again (at.Wake Second to)))
      waking_stays waking.Enter u = refl
      waking_stays to u = refl
  bump_hears (purpose.Release access.Shared) again to stands bump = absurd stands.place
  bump_hears q again to stands bump = absurd bump

  handing_stays : (x : Access) (b : Bool) (to : HandOverAt) (u : ℕ) → call_next a (HandOver x b to)
      (reply.TakenBy u) ≡ next.At (HandOver x b to)
  handing_stays x b handing.Load u = refl
  handing_stays x b to u = refl

  handed_hears : (x : Access) (how : Patience) (b : Bool) (to : HandedAt) → CallHears a l (Handed x how b to)
  handed_hears x how b (handed.Asleep by alone) = record {
    taken = λ u. stays_same (Handed x how b (handed.Asleep by alone)) (reply.TakenBy u) refl;
    woken = λ u h. absurd cc;
    late = λ may. absurd (may refl);
    given = λ u alone h none. absurd cc;
    accepts = λ u h. handed_goes x how b by alone;
  }
  handed_hears x how b handed.Accept = record {
    taken = λ u. stays_same (Handed x how b handed.Accept) (reply.TakenBy u) refl;
    woken = λ u h. absurd cc;
    late = λ may. absurd (may refl);
    given = λ u alone h none. absurd cc;
    accepts = λ u h. absurd cc;
  }

pub fair_sleepers_hear : FairSleepersHear
fair_sleepers_hear a l (Plain p) stands = plain_hears a l p stands
fair_sleepers_hear a l (Bump p) stands = bump_hears a l p.purpose p.retries p.at stands.0 stands.1
fair_sleepers_hear a l (PeekQueue x) stands = record {
  taken = λ u. stays_same a l (PeekQueue x) (reply.TakenBy u) refl;
  woken = λ u h. absurd cc;
  late = λ may. absurd (may refl);
  given = λ u alone h none. absurd cc;
  accepts = λ u h. absurd cc;
}
fair_sleepers_hear a l (HandOver x b to) stands = record {
  taken = λ u. stays_same a l (HandOver x b to) (reply.TakenBy u) (handing_stays a l x b to u);
  woken = λ u h. absurd cc;
  late = λ may. absurd (may refl);
  given = λ u alone h none. absurd cc;
  accepts = λ u h. absurd cc;
}
fair_sleepers_hear a l (Handed x how b to) stands = handed_hears a l x how b to

-- ---------------------------------------------------------------- looks

looked_purpose : (a : Admission) (p q : RwLockPlace) → rwlock_respin a p ≡ Some q → (q.purpose ≡ p.purpose)
    × (q.retries ≡ p.retries)
looked_purpose a p q is = by_at (looking_at a p p.at) is
  where
    by_at : (o : Option RwLockAt) → gone_to p o ≡ Some q → (q.purpose ≡ p.purpose) × (q.retries ≡ p.retries)
    by_at None f = absurd cc
    by_at (Some to) f = let z : record p { at = to } ≡ q = cc in (
      ap (λ (y : RwLockPlace). y.purpose) (sym z),
      ap (λ (y : RwLockPlace). y.retries) (sym z),
    )

pub fair_looks_stand : FairLooksStand
fair_looks_stand a (Plain p) d is = by_place (rwlock_respin a p) refl is
  where
    by_place : (o : Option RwLockPlace) → rwlock_respin a p ≡ o → in_call false o ≡ Some d
        → (call_profile a d ≡ call_profile a (Plain p)) × (CallStands a (Plain p) → CallStands a d)
    by_place None f g = absurd cc
    by_place (Some q) f g = let z : Plain q ≡ d = cc in let looks = rwlock_looks_stand a p q f
        in subst (λ c. (call_profile a c ≡ call_profile a (Plain p)) × (CallStands a (Plain p)
        → CallStands a c)) z looks
fair_looks_stand a (Bump p) d is = by_place (rwlock_respin a p) refl is
  where
    by_place : (o : Option RwLockPlace) → rwlock_respin a p ≡ o → in_call true o ≡ Some d
        → (call_profile a d ≡ call_profile a (Bump p)) × (CallStands a (Bump p) → CallStands a d)
    by_place None f g = absurd cc
    by_place (Some q) f g =
        let z : Bump q ≡ d = cc in let looks = rwlock_looks_stand a p q f in let same = looked_purpose a p q f
        in
        subst (λ c. (call_profile a c ≡ call_profile a (Bump p)) × (CallStands a (Bump p)
        → CallStands a c)) z (
          (ap (λ y. bumping y (rwlock_profile a q)) same.0 ∙ ap (bumping p.purpose) looks.0),
          λ stands. (
            looks.1 stands.0,
            subst (λ y. IsOfBump q.purpose y) (sym same.1)
                (subst (λ y. IsOfBump y p.retries) (sym same.0) stands.1),
          ),
        )
fair_looks_stand a (PeekQueue x) d is = absurd cc
fair_looks_stand a (HandOver x b to) d is = absurd cc
fair_looks_stand a (Handed x how b to) d is = absurd cc
