-- A hand-over takes the thread that hands over, and those that are handed the lock, where the act says.
use Rattle.std.proofs.lemmas.Bool.{eqb-true}
use Rattle.std.proofs.Common.{ℕ, Bool, true, false, Option, Some, None, if◌then◌else◌, ◌≡◌, refl, ap, subst}
use Rattle.std.proofs.Common.{◌∙◌}
use Rattle.core_base.specs.declared.ops.Op.{Op}
use Rattle.core_base.specs.declared.ops.Op.TheVariants as operation
use Rattle.core_base.specs.declared.wants.Want.{Want}
use Rattle.core_base.specs.declared.wants.Want.TheVariants.{Exclusive, Upgradable}
use Rattle.spec_locks.specs.declared.calls.Access.{Access}
use Rattle.spec_locks.specs.declared.calls.Access.TheVariants as access
use Rattle.spec_locks.specs.declared.calls.Patience.{Patience}
use Rattle.spec_locks.specs.declared.calls.Patience.TheVariants.{Patient, Timed, Try}
use Rattle.steps_base.specs.declared.acts.Act.TheVariants as act
use Rattle.steps_base.specs.declared.acts.Next.TheVariants as next
use Rattle.steps_base.specs.Moves.{HandsOver as Hands, IsGiven, WasGiven, row_of}
use Rattle.steps_base.specs.Profiles.{Hand, hand}
use Rattle.steps_base.specs.Locations.{location_by, nowhere}
use Rattle.steps_rwlock.specs.declared.places.Admission.{Admission}
use Rattle.steps_rwlock.specs.declared.places.RwLockPlace.{RwLockPlace}
use Rattle.steps_rwlock.specs.declared.places.RwLockAt.{RwLockAt}
use Rattle.steps_rwlock.specs.declared.places.RwLockAt.TheVariants as at
use Rattle.steps_rwlock.specs.declared.park.ParkAt.TheVariants as parking
use Rattle.steps_rwlock.specs.declared.purposes.RwLockPurpose.{RwLockPurpose}
use Rattle.steps_rwlock.specs.declared.purposes.RwLockPurpose.TheVariants as purpose
use Rattle.steps_rwlock.specs.RwLockSteps.{wanted}
use Rattle.steps_rwlock.specs.RwLockCalls.{StandsAt}
use Rattle.steps_rwlock_fair.specs.declared.places.RwLockCallPlace.{RwLockCallPlace}
use Rattle.steps_rwlock_fair.specs.declared.places.RwLockCallPlace.TheVariants.{Plain, PeekQueue, HandOver}
use Rattle.steps_rwlock_fair.specs.declared.places.RwLockCallPlace.TheVariants.{Bump}
use Rattle.steps_rwlock_fair.specs.declared.places.RwLockCallPlace.TheVariants.{Handed}
use Rattle.steps_rwlock_fair.specs.declared.hand_over.Taken.{Taken}
use Rattle.steps_rwlock_fair.specs.declared.hand_over.HandOverAt.TheVariants as handing
use Rattle.steps_rwlock_fair.specs.declared.handed.HandedAt.TheVariants as handed
use Rattle.steps_rwlock_fair.specs.FairSteps.{any_taken, tokens, has_room, with_taken, parked_as}
use Rattle.steps_rwlock_fair.specs.FairSteps.{word_without, handed_woken}
use Rattle.steps_rwlock_fair.specs.FairProfiles.{call_profile}
use Rattle.steps_rwlock_fair.specs.FairLaws.{next_rows}
use Rattle.steps_rwlock_fair.specs.FairCalls.{IsOfBump}
use Rattle.steps_rwlock_fair.specs.FairMoves.{call_move, HandOversMove, HandedMove}
use Rattle.steps_rwlock_fair.proofs.FairSleepers.{never_given}

module _ (a : Admission) where
  abbrev of : RwLockPurpose → Bool → RwLockAt → RwLockPlace
  of q again to = record { purpose = q; retries = again; at = to }

  -- ---------------------------------------------------------------- a thread that hands over

  stores : (b : Bool) (k : Taken) (word : ℕ)
      → Hands (call_move a (HandOver access.Exclusive b (handing.Store k))) (operation.Store word)
  stores b k word = record {
    right = Exclusive;
    successor = k.successor;
    any = any_taken k;
    none_left = k.none_left;
    was = refl;
    deeds = λ whom seen e. refl;
    goes = λ seen e. refl;
    fails = λ whom seen e. absurd (let f : true ≡ false = e in cc);
    stays = λ seen e. absurd (let f : true ≡ false = e in cc);
  }

  exchanges : (b : Bool) (k : Taken) (expected word : ℕ) → has_room a.limit k expected ≡ true
      → Hands (call_move a (HandOver access.Upgradable b (handing.Exchange k expected)))
      (operation.Exchange expected word)
  exchanges b k expected word room = record {
    right = Upgradable;
    successor = k.successor;
    any = any_taken k;
    none_left = k.none_left;
    was = refl;
    deeds = λ whom seen e. rw (e, room) refl;
    goes = λ seen e. rw e (ap (λ r. location_by
        (row_of (next_rows a (next.At (HandOver access.Upgradable b (handing.Leave (any_taken k) r))))))
        (ap (has_room a.limit k) (eqb-true seen expected e) ∙ room));
    fails = λ whom seen e. rw e refl;
    stays = λ seen e. rw e refl;
  }

  exchange_moves : (l k : ℕ) (op : Op) (b : Bool) (j : Taken) (expected : ℕ) (room : Bool)
      → has_room a.limit j expected ≡ room
      → (if room then act.HandOver l (operation.Exchange expected (with_taken access.Upgradable j expected))
      else act.Word l (operation.Exchange expected (parked_as j.none_left
      (word_without access.Upgradable expected)))) ≡ act.HandOver k op
      → (k ≡ l) × Hands (call_move a (HandOver access.Upgradable b (handing.Exchange j expected))) op
  exchange_moves l k op b j expected false e f = absurd cc
  exchange_moves l k op b j expected true e f =
      let same : operation.Exchange expected (with_taken access.Upgradable j expected) ≡ op = cc in (
        cc,
        subst (Hands (call_move a (HandOver access.Upgradable b (handing.Exchange j expected)))) same
            (exchanges b j expected (with_taken access.Upgradable j expected) e),
      )

pub hand_overs_move : HandOversMove
hand_overs_move l k a (HandOver access.Exclusive b (handing.Store j)) op taken stands is e =
    let same : operation.Store (parked_as j.none_left (tokens j)) ≡ op = cc in (
      cc,
      subst (Hands (call_move a (HandOver access.Exclusive b (handing.Store j)))) same
          (stores a b j (parked_as j.none_left (tokens j))),
    )
hand_overs_move l k a (HandOver access.Upgradable b (handing.Exchange j expected)) op taken stands is e =
    exchange_moves a l k op b j expected (has_room a.limit j expected) refl e
hand_overs_move l k a (HandOver access.Exclusive b (handing.Exchange j expected)) op taken stands is e =
    absurd stands
hand_overs_move l k a (HandOver access.Upgradable b (handing.Store j)) op taken stands is e = absurd stands
hand_overs_move l k a (HandOver access.Shared b to) op taken stands is e = absurd stands
hand_overs_move l k a (HandOver x b (handing.Look j)) op taken stands is e = absurd cc
hand_overs_move l k a c op taken stands is e = absurd cc

-- ---------------------------------------------------------------- the thread that is handed the lock

module _ (a : Admission) where
  abbrev Given : RwLockCallPlace → Type 0
  Given c =
      (u : ℕ) (alone : Bool) (x : Want) → (call_profile a c).hand ≡ hand u false
      → (call_profile a c).role.claims ≡ None → (call_profile a c).wants ≡ Some x
      → IsGiven (call_move a c) u x alone

  plain_given : (q : RwLockPurpose) (again : Bool) (to : RwLockAt) → StandsAt q again to
      → Given (Plain (of a q again to))
  plain_given (purpose.Enter y how) again (at.Park (parking.Taken v)) stands u alone x h none wants =
      subst (λ z. IsGiven (call_move a (Plain (of a (purpose.Enter y how) again (at.Park (parking.Taken v)))))
      u z alone) (let z : wanted y ≡ x = cc in z) (record { goes = refl; claims = refl })
  plain_given (purpose.Enter y how) again (at.Aside (parking.Taken v)) stands u alone x h none wants =
      absurd cc
  plain_given (purpose.Upgrade how) again (at.Aside (parking.Taken v)) stands u alone x h none wants =
      absurd cc
  plain_given (purpose.Upgrade Patient) again (at.Park to) stands u alone x h none wants = absurd stands
  plain_given (purpose.Upgrade Timed) again (at.Park to) stands u alone x h none wants = absurd stands
  plain_given (purpose.Upgrade Try) again (at.Park to) stands u alone x h none wants = absurd stands
  plain_given (purpose.Release y) again to stands u alone x h none wants = absurd cc
  plain_given (purpose.Downgrade d) again to stands u alone x h none wants = absurd cc
  plain_given q again to stands u alone x h none wants = absurd cc

  bump_given : (q : RwLockPurpose) (again : Bool) (to : RwLockAt) → StandsAt q again to → IsOfBump q again
      → Given (Bump (of a q again to))
  bump_given (purpose.Enter y Patient) again (at.Park (parking.Taken v)) stands bump u alone x h none wants =
      subst (λ z. IsGiven (call_move a
      (Bump (of a (purpose.Enter y Patient) again (at.Park (parking.Taken v))))) u z alone)
      (let z : wanted y ≡ x = cc in z) (record { goes = refl; claims = refl })
  bump_given (purpose.Enter y Patient) again (at.Aside (parking.Taken v)) stands bump u alone x h none wants =
      absurd cc
  bump_given (purpose.Enter y Patient) again to stands bump u alone x h none wants = absurd cc
  bump_given (purpose.Release access.Shared) again to stands bump u alone x h none wants = absurd cc
  bump_given q again to stands bump u alone x h none wants = absurd bump

  -- woken, it has what it was handed
  woken_location : (x : Access) (how : Patience) (b alone : Bool)
      → location_by (call_profile a (handed_woken x how b alone)) ≡ nowhere
  woken_location access.Shared how b alone = refl
  woken_location access.Upgradable how b alone = refl
  woken_location access.Exclusive how b true = refl
  woken_location access.Exclusive how true false = refl
  woken_location access.Exclusive how false false = refl

  woken_role : (x : Access) (how : Patience) (b alone : Bool) (by : ℕ)
      → (call_profile a (handed_woken x how b alone)).role
      ≡ (call_profile a (Handed x how b (handed.Asleep by alone))).role
  woken_role access.Shared how b true by = refl
  woken_role access.Shared how b false by = refl
  woken_role access.Upgradable how b true by = refl
  woken_role access.Upgradable how b false by = refl
  woken_role access.Exclusive how b true by = refl
  woken_role access.Exclusive how true false by = refl
  woken_role access.Exclusive how false false by = refl

  was_handed : (x : Access) (how : Patience) (b alone : Bool) (by u : ℕ) → hand by true ≡ hand u true
      → WasGiven (call_move a (Handed x how b (handed.Asleep by alone))) u
  was_handed x how b alone by u h = record {
    was = ap (λ (y : Option Hand). record nowhere { hand = y }) h;
    goes = woken_location x how b alone;
    role = woken_role x how b alone by;
  }

pub handed_move : HandedMove
handed_move a (Plain p) stands = record {
  given = plain_given a p.purpose p.retries p.at stands.place;
  was_given = λ u h. absurd (never_given a 0 p.at u h);
}
handed_move a (Bump p) stands = record {
  given = bump_given a p.purpose p.retries p.at stands.0.place stands.1;
  was_given = λ u h. absurd (bump_never p.purpose p.retries p.at stands.1 u h);
}
  where
    bump_never : (q : RwLockPurpose) (again : Bool) (to : RwLockAt) → IsOfBump q again → (u : ℕ)
        → (call_profile a (Bump (of a q again to))).hand ≡ hand u true → ⊥
    bump_never (purpose.Enter x Patient) again to bump u h = never_given a 0 to u h
    bump_never (purpose.Release access.Shared) again to bump u h = never_given a 0 to u h
    bump_never q again to bump u h = bump
handed_move a (PeekQueue x) stands = record {
  given = λ u alone y h none wants. absurd cc;
  was_given = λ u h. absurd cc;
}
handed_move a (HandOver x b to) stands = record {
  given = λ u alone y h none wants. absurd cc;
  was_given = λ u h. absurd cc;
}
handed_move a (Handed x how b (handed.Asleep by alone)) stands = record {
  given = λ u alone2 y h none wants. absurd cc;
  was_given = λ u h. was_handed a x how b alone by u h;
}
handed_move a (Handed x how b handed.Accept) stands = record {
  given = λ u alone y h none wants. absurd cc;
  was_given = λ u h. absurd cc;
}
