-- A bump that finds the lock full of readers, once it has given its right up, saw so by its last step.
use Rattle.std.proofs.Common.{ℕ, Bool, true, false, Option, Some, None, inl, inr, ◌⊎◌, if◌then◌else◌, ◌==◌}
use Rattle.std.proofs.Common.{◌≡◌, refl, ap, sym, subst}
use Rattle.core_base.specs.declared.notes.Note.TheVariants as note
use Rattle.spec_locks.specs.declared.calls.Access.{Access}
use Rattle.spec_locks.specs.declared.calls.Access.TheVariants as access
use Rattle.spec_locks.specs.declared.calls.Patience.{Patience}
use Rattle.spec_locks.specs.declared.calls.Patience.TheVariants.{Patient}
use Rattle.spec_locks.specs.declared.calls.RwLockCall.TheVariants as calls
use Rattle.spec_locks.specs.declared.outcomes.Answer.TheVariants.{Ok, ReadersFull}
use Rattle.steps_base.specs.declared.acts.Act.TheVariants as act
use Rattle.core_base.specs.declared.ops.Op.TheVariants as op
use Rattle.steps_base.specs.declared.acts.Next.{Next}
use Rattle.steps_base.specs.declared.acts.Next.TheVariants.{At, End}
use Rattle.steps_base.specs.declared.acts.Reply.{Reply}
use Rattle.steps_base.specs.declared.acts.Reply.TheVariants as reply
use Rattle.steps_rwlock.specs.RwLockCalls.{IsDecided}
use Rattle.steps_rwlock.specs.RwLockProfiles.{rwlock_respin}
use Rattle.steps_rwlock.specs.RwLockSteps.{rwlock_next}
use Rattle.steps_rwlock.specs.declared.park.ParkAt.TheVariants as parking
use Rattle.steps_rwlock.specs.declared.places.Admission.{Admission}
use Rattle.steps_rwlock.specs.declared.places.RwLockAt.{RwLockAt}
use Rattle.steps_rwlock.specs.declared.places.RwLockAt.TheVariants as at
use Rattle.steps_rwlock.specs.declared.places.RwLockPlace.{RwLockPlace}
use Rattle.steps_rwlock.specs.declared.purposes.RwLockPurpose.{RwLockPurpose}
use Rattle.steps_rwlock.specs.declared.purposes.RwLockPurpose.TheVariants as purpose
use Rattle.steps_rwlock_fair.specs.FairProfiles.{in_call}
use Rattle.steps_rwlock_fair.specs.FairSteps.{bump_next, call_act, call_next, enters_again, exchange_act}
use Rattle.steps_rwlock_fair.specs.FairSteps.{given, handed_by, woken_with, any_taken, freed_next, released}
use Rattle.steps_rwlock_fair.specs.FairSteps.{parked_as, with_taken, word_without, gives_up_at, gives_way}
use Rattle.steps_rwlock_fair.specs.FairSteps.{glance_next, hand_over_act, hand_over_next, handed_next}
use Rattle.steps_rwlock_fair.specs.FairSteps.{handed_woken, has_room, unless_given}
use Rattle.steps_rwlock_fair.specs.declared.hand_over.HandOverAt.{HandOverAt}
use Rattle.steps_rwlock_fair.specs.declared.hand_over.HandOverAt.TheVariants as handing
use Rattle.steps_rwlock_fair.specs.declared.hand_over.Taken.{Taken}
use Rattle.steps_rwlock_fair.specs.declared.handed.HandedAt.{HandedAt}
use Rattle.steps_rwlock_fair.specs.declared.handed.HandedAt.TheVariants as handed
use Rattle.steps_rwlock_fair.specs.declared.places.RwLockCallPlace.{RwLockCallPlace}
use Rattle.steps_rwlock_fair.specs.declared.places.RwLockCallPlace.TheVariants.{Plain, PeekQueue, HandOver}
use Rattle.steps_rwlock_fair.specs.declared.places.RwLockCallPlace.TheVariants.{Bump}
use Rattle.steps_rwlock_fair.specs.declared.places.RwLockCallPlace.TheVariants.{Handed}
use Rattle.lot_steps.specs.Steps.{in_rwlock, respins_from}
use Rattle.lot_steps.specs.declared.places.Place.{Place}
use Rattle.lot_steps.specs.declared.places.Place.TheVariants.{RwLock}
use Rattle.parking_lot_core.specs.declared.tokens.Token.{Token}
use Rattle.run_base.specs.RwLockCalls.{HasWalkedCall}
use Rattle.run_locks.specs.RwLockRefusals.{SawReadersFull}
use Rattle.run_locks.proofs.RwLockFull.{IsCalling, IsGoing, IsIn, Keeping, Keeps, accepting_act, act_going}
use Rattle.run_locks.proofs.RwLockFull.{entered_ends, gone_at, keeps_at, walked_full}

module _ (a : Admission) (x : Access) where
  abbrev leaves : RwLockPurpose
  leaves = purpose.Release x

  abbrev enters : RwLockPurpose
  enters = purpose.Enter x Patient

  -- the thread gives its right up, and enters again
  abbrev IsOfBump : RwLockCallPlace → Type 0
  IsOfBump (Plain p) = ⊥
  IsOfBump (PeekQueue y) = y ≡ x
  IsOfBump (HandOver y b to) = (y ≡ x) × (b ≡ true)
  IsOfBump (Bump p) = IsCalling a leaves p ⊎ IsCalling a enters p
  IsOfBump (Handed y how b to) = (purpose.Enter y how ≡ enters) × (b ≡ true)

  abbrev KeepsBump : Reply → Next RwLockCallPlace → Type 0
  KeepsBump = Keeping a x Patient IsOfBump

  enters_there : (y : Access) → y ≡ x → IsOfBump (enters_again y)
  enters_there access.Shared e = inr (ap (λ (z : Access). purpose.Enter z Patient) e, tt)
  enters_there access.Upgradable e = inr (ap (λ (z : Access). purpose.Enter z Patient) e, tt)
  enters_there access.Exclusive e = inr (ap (λ (z : Access). purpose.Enter z Patient) e, tt)

  -- ---------------------------------------------------------------- one reply

  gives_up_there : (y : Access) → y ≡ x → IsOfBump (gives_up_at y)
  gives_up_there access.Shared e = inl (ap purpose.Release e, tt)
  gives_up_there access.Upgradable e = (e, refl)
  gives_up_there access.Exclusive e = (e, refl)

  glance_keeps : (y : Access) (seen : ℕ) → y ≡ x → KeepsBump (reply.Value seen) (glance_next a y seen)
  glance_keeps y seen e = by_test (gives_way a y seen)
    where
      by_test : (b : Bool) → KeepsBump (reply.Value seen) (if b then At (gives_up_at y) else End Ok)
      by_test true = gives_up_there y e
      by_test false = tt

  handing_keeps : (to : HandOverAt) (told : Reply) → KeepsBump told (hand_over_next a x true to told)
  handing_keeps (handing.Free expected) (reply.Value seen) = by_test (seen == expected)
    where
      by_test : (b : Bool) → KeepsBump (reply.Value seen) (if b then released x true else At
          (HandOver x true (freed_next x seen)))
      by_test true = enters_there x refl
      by_test false = (refl, refl)
  handing_keeps (handing.Exchange k expected) (reply.Value seen) = by_test (seen == expected)
    where
      by_test : (b : Bool) → KeepsBump (reply.Value seen)
          (if b then At (HandOver x true (handing.Leave (any_taken k) (has_room a.limit k seen)))
          else At (HandOver x true (handing.Exchange k seen)))
      by_test true = (refl, refl)
      by_test false = (refl, refl)
  handing_keeps (handing.Leave any by) reply.Done = enters_there x refl
  handing_keeps handing.Load (reply.Value seen) = (refl, refl)
  handing_keeps handing.Enter reply.Done = (refl, refl)
  handing_keeps handing.Take (reply.Picked n y none_left) = (refl, refl)
  handing_keeps (handing.Store k) (reply.Value seen) = (refl, refl)
  handing_keeps (handing.Look k) (reply.Value seen) = (refl, refl)
  handing_keeps to told = (refl, refl)

  -- ---------------------------------------------------------------- the thread that is handed the lock

  abbrev KeepsGiven : Option RwLockCallPlace → Type 0
  KeepsGiven None = Unit {0}
  KeepsGiven (Some c) = IsOfBump c

  woken_keeps : (y : Access) (how : Patience) (alone : Bool) → purpose.Enter y how ≡ enters
      → IsOfBump (handed_woken y how true alone)
  woken_keeps access.Exclusive how true e = (e, refl)
  woken_keeps access.Exclusive how false e = inr (e, tt)
  woken_keeps access.Shared how alone e = (e, refl)
  woken_keeps access.Upgradable how alone e = (e, refl)

  taken_there : (c : RwLockPurpose) (to : RwLockAt) (by : ℕ) (alone : Bool) → c ≡ enters
      → KeepsGiven (handed_by true c to by alone)
  taken_there (purpose.Enter y how) (at.Park (parking.Taken u)) by alone e = (e, refl)
  taken_there c to by alone e = tt

  slept_there : (c : RwLockPurpose) (to : RwLockAt) → c ≡ enters → KeepsGiven (woken_with true c to)
  slept_there (purpose.Enter y how) (at.Park parking.Asleep) e = woken_keeps y how false e
  slept_there c to e = tt

  given_there : (again : Bool) (c : RwLockPurpose) (to : RwLockAt) (told : Reply) → c ≡ enters
      → KeepsGiven (given true (record {
        purpose = c;
        retries = again;
        at = to;
      }) told)
  given_there again c to (reply.HandedBy by alone) e = taken_there c to by alone e
  given_there again c to (reply.Woken note.HandOff) e = slept_there c to e
  given_there again c to told e = tt

  none_given : (again : Bool) (to : RwLockAt) (told : Reply) → given true (record {
    purpose = leaves;
    retries = again;
    at = to;
  }) told ≡ None
  none_given again to (reply.HandedBy by alone) = refl
  none_given again to (reply.Woken note.HandOff) = refl
  none_given again to told = refl

  leaving_on : (told : Reply) (n : Next RwLockPlace) → Keeps a leaves told n
      → KeepsBump told (bump_next leaves n)
  leaving_on told (At p) k = inl k
  leaving_on told (End answer) k = enters_there x refl

  entering_on : (told : Reply) (o : Option RwLockCallPlace) (n : Next RwLockPlace) → KeepsGiven o
      → Keeps a enters told n → KeepsBump told (unless_given o (bump_next enters n))
  entering_on told None (At p) g k = inr k
  entering_on told None (End answer) g k = k
  entering_on told (Some c) n g k = g

  leaving_keeps : (again : Bool) (to : RwLockAt) (told : Reply) → IsDecided a leaves to
      → KeepsBump told (call_next a (Bump (record {
        purpose = leaves;
        retries = again;
        at = to;
      })) told)
  leaving_keeps again to told d =
      subst (λ (o : Option RwLockCallPlace). KeepsBump told
      (unless_given o (bump_next leaves (rwlock_next a (record {
        purpose = leaves;
        retries = again;
        at = to;
      }) told)))) (sym (none_given again to told))
      (leaving_on told (rwlock_next a (record {
        purpose = leaves;
        retries = again;
        at = to;
      }) told) (keeps_at a leaves again to told d))

  entering_keeps : (again : Bool) (to : RwLockAt) (told : Reply) → IsDecided a enters to
      → KeepsBump told (call_next a (Bump (record {
        purpose = enters;
        retries = again;
        at = to;
      })) told)
  entering_keeps again to told d = entering_on told (given true (record {
    purpose = enters;
    retries = again;
    at = to;
  }) told) (rwlock_next a (record {
    purpose = enters;
    retries = again;
    at = to;
  }) told) (given_there again enters to told refl) (keeps_at a enters again to told d)

  handed_keeps : (y : Access) (how : Patience) (to : HandedAt) (told : Reply) → purpose.Enter y how ≡ enters
      → KeepsBump told (handed_next y how true to told)
  handed_keeps y how (handed.Asleep by alone) (reply.Woken note.HandOff) e = woken_keeps y how alone e
  handed_keeps y how handed.Accept reply.Done e = entered_ends a enters reply.Done how
  handed_keeps y how handed.Accept (reply.Value seen) e = entered_ends a enters (reply.Value seen) how
  handed_keeps y how to told e = (e, refl)

  by_purpose : (p : RwLockPlace) (q : RwLockPurpose) (told : Reply) → p.purpose ≡ q
      → KeepsBump told (call_next a (Bump (record {
        purpose = q;
        retries = p.retries;
        at = p.at;
      })) told) → KeepsBump told (call_next a (Bump p) told)
  by_purpose p q told e k = subst (λ (c : RwLockPurpose). KeepsBump told (call_next a (Bump (record {
    purpose = c;
    retries = p.retries;
    at = p.at;
  })) told)) (sym e) k

  bump_keeps : (c : RwLockCallPlace) (told : Reply) → IsOfBump c → KeepsBump told (call_next a c told)
  bump_keeps (Plain p) told w = absurd w
  bump_keeps (PeekQueue y) (reply.Value seen) w = glance_keeps y seen w
  bump_keeps (PeekQueue y) told w = w
  bump_keeps (HandOver y b to) told w = subst (λ (z : Access). KeepsBump told (hand_over_next a z b to told))
      (sym w.0) (subst (λ (d : Bool). KeepsBump told (hand_over_next a x d to told)) (sym w.1)
      (handing_keeps to told))
  bump_keeps (Bump p) told (inl w) = by_purpose p leaves told w.0 (leaving_keeps p.retries p.at told w.1)
  bump_keeps (Bump p) told (inr w) = by_purpose p enters told w.0 (entering_keeps p.retries p.at told w.1)
  bump_keeps (Handed y how b to) told w = subst (λ (d : Bool). KeepsBump told (handed_next y how d to told))
      (sym w.1) (handed_keeps y how to told w.0)

  -- ---------------------------------------------------------------- one act

  exchanging_act : (l : ℕ) (y : Access) (k : Taken) (seen : ℕ) → IsGoing (exchange_act l a.limit y k seen)
  exchanging_act l y k seen = by_test (has_room a.limit k seen)
    where
      by_test : (b : Bool) → IsGoing (if b then act.HandOver l (op.Exchange seen (with_taken y k seen))
          else act.Word l (op.Exchange seen (parked_as k.none_left (word_without y seen))))
      by_test true = tt
      by_test false = tt

  handing_act : (l : ℕ) (y : Access) (to : HandOverAt) → IsGoing (hand_over_act l a y to)
  handing_act l y handing.Load = tt
  handing_act l y (handing.Free seen) = tt
  handing_act l y handing.Enter = tt
  handing_act l y handing.Take = tt
  handing_act l y (handing.Store k) = tt
  handing_act l y (handing.Look k) = tt
  handing_act l y (handing.Exchange k seen) = exchanging_act l y k seen
  handing_act l y (handing.Leave any by) = tt

  bump_going : (l : ℕ) (c : RwLockCallPlace) → IsOfBump c → IsGoing (call_act l a c)
  bump_going l (Plain p) w = absurd w
  bump_going l (PeekQueue y) w = tt
  bump_going l (HandOver y b to) w = handing_act l y to
  bump_going l (Bump p) (inl w) = act_going a leaves l p w
  bump_going l (Bump p) (inr w) = act_going a enters l p w
  bump_going l (Handed y how b to) w = accepting_act a enters l y to

  -- ---------------------------------------------------------------- where it looks once more

  gone_on : (p n : RwLockPlace) → rwlock_respin a p ≡ Some n → IsOfBump (Bump p) → IsOfBump (Bump n)
  gone_on p n e (inl w) = inl (gone_at a leaves p p.at w n e)
  gone_on p n e (inr w) = inr (gone_at a enters p p.at w n e)

  looks_on : (l : ℕ) (c : RwLockCallPlace) (r : Place) → respins_from (RwLock l a c) ≡ Some r → IsOfBump c
      → IsIn a x Patient IsOfBump r
  looks_on l (Plain p) r e w = absurd w
  looks_on l (PeekQueue y) r e w = absurd cc
  looks_on l (HandOver y b to) r e w = absurd cc
  looks_on l (Handed y how b to) r e w = absurd cc
  looks_on l (Bump p) r e w = by_place (rwlock_respin a p) refl e
    where
      by_place : (o : Option RwLockPlace) → rwlock_respin a p ≡ o → in_rwlock l a (in_call true o) ≡ Some r
          → IsIn a x Patient IsOfBump r
      by_place None f is = absurd cc
      by_place (Some n) f is = let there : RwLock l a (Bump n) ≡ r = cc in subst (IsIn a x Patient IsOfBump)
          there (refl, gone_on p n f w)

-- a whole bump is refused so too
pub bump_sees_full : (x : Access) (l : ℕ) (a : Admission) (old new : Token)
    → HasWalkedCall l a (calls.Bump x) ReadersFull old new → SawReadersFull l a x old new
bump_sees_full x l a old new w = walked_full a x Patient (IsOfBump a x) (
  bump_keeps a x,
  bump_going a x,
  looks_on a x,
) l old.number (RwLock l a (PeekQueue x)) old new (refl, refl) w
