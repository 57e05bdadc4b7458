-- Each step of a fair release or of a bump into, in and out of a section does to the lock what its deeds say.
use Rattle.std.proofs.Common.{ℕ, Bool, true, false, Option, Some, None, [], ◌∷◌, ◌≡◌, ◌≢◌, refl, ap, sym, ◌∙◌}
use Rattle.std.proofs.Common.{length, ◌<◌, arith}
use Rattle.std.proofs.lemmas.Bool.Decides.{nat_tests}
use Rattle.core_base.specs.declared.keys.Line.{Line}
use Rattle.core_base.specs.declared.keys.Line.TheVariants.{Main, Second}
use Rattle.core_base.specs.declared.wants.Want.{Want}
use Rattle.core_base.specs.declared.wants.Want.TheVariants.{Upgradable}
use Rattle.spec_locks.specs.declared.calls.Access.{Access}
use Rattle.spec_locks.specs.declared.calls.Access.TheVariants as access
use Rattle.spec_locks.specs.declared.calls.Patience.{Patience}
use Rattle.steps_base.specs.declared.acts.Reply.{Reply}
use Rattle.steps_base.specs.declared.acts.Reply.TheVariants as reply
use Rattle.steps_base.specs.Moves.{IsSectionFree}
use Rattle.spec_locks.specs.Locks.{Rules, Taken as TakenBy, TakePicked, Knows, HasTakenNobody, unpicked}
use Rattle.spec_locks.specs.Locks.{putting}
use Rattle.spec_locks.specs.Sites.{Has, Role, idle, is_empty, Site, IsSite, End, In, Out, Case, leaves}
use Rattle.spec_locks.specs.Sites.{wakened}
use Rattle.steps_rwlock.specs.declared.places.Admission.{Admission}
use Rattle.steps_rwlock.specs.declared.places.RwLockPlace.{RwLockPlace}
use Rattle.steps_rwlock.specs.declared.places.RwLockAt.{RwLockAt}
use Rattle.steps_rwlock.specs.declared.places.RwLockAt.TheVariants as at
use Rattle.steps_rwlock.specs.declared.park.ParkAt.{ParkAt}
use Rattle.steps_rwlock.specs.declared.park.ParkAt.TheVariants as parking
use Rattle.steps_rwlock.specs.declared.release.WakeAt.{WakeAt}
use Rattle.steps_rwlock.specs.declared.release.WakeAt.TheVariants as waking
use Rattle.steps_rwlock.specs.RwLockSteps.{wanted, start_of, rwlock_next}
use Rattle.steps_rwlock.specs.RwLockDeeds.{at_rest, within, rwlock_role, rwlock_deeds, role_next, Admits}
use Rattle.steps_rwlock.specs.RwLockDeeds.{MayReply, MayHearParking, MayHearWaking, Follows}
use Rattle.steps_rwlock.specs.RwLockCalls.{MayStand}
use Rattle.steps_rwlock.proofs.RwLockFit.{knows_all}
use Rattle.steps_base.proofs.Deeds.{put_same}
use Rattle.steps_rwlock.proofs.RwLockSections.{rwlock_sections_follow}
use Rattle.steps_rwlock.proofs.RwLockStands.{is_at}
use Rattle.steps_rwlock_fair.specs.declared.places.RwLockCallPlace.TheVariants.{Plain, PeekQueue, HandOver}
use Rattle.steps_rwlock_fair.specs.declared.places.RwLockCallPlace.TheVariants.{Bump}
use Rattle.steps_rwlock_fair.specs.declared.places.RwLockCallPlace.TheVariants.{Handed}
use Rattle.steps_rwlock_fair.specs.declared.hand_over.HandOverAt.{HandOverAt}
use Rattle.steps_rwlock_fair.specs.declared.hand_over.HandOverAt.TheVariants as handing
use Rattle.steps_rwlock_fair.specs.declared.handed.HandedAt.{HandedAt}
use Rattle.steps_rwlock_fair.specs.declared.handed.HandedAt.TheVariants as handed
use Rattle.steps_rwlock_fair.specs.declared.hand_over.Taken.{Taken}
use Rattle.steps_rwlock_fair.specs.FairSteps.{given, took}
use Rattle.steps_rwlock_fair.specs.FairDeeds.{holding_role, hand_over_role, call_role}
use Rattle.steps_rwlock_fair.specs.FairCalls.{MayHearHanding, MayHearHanded}
use Rattle.steps_rwlock_fair.specs.FairLaws.{FollowsInCall, FairSectionsFollow}
use Rattle.steps_rwlock_fair.proofs.FairFit.{plain_role, bump_role, released_role}

-- ---------------------------------------------------------------- notes of a section go to no hand

-- a thread in somebody's hand hears these
abbrev pub IsOfHand : Reply → Type 0
IsOfHand (reply.HandedBy by alone) = Unit {0}
IsOfHand (reply.Woken n) = Unit {0}
IsOfHand told = ⊥

module _ (r : Rules) (a : Admission) (s : Site) (t : ℕ) where
  parking_unheard : (m : Line) (finds : Bool) (k : ParkAt) (told : Reply) → IsOfHand told
      → MayHearParking r s t m finds k told → ⊥
  parking_unheard m finds parking.Check (reply.HandedBy by alone) is h = h
  parking_unheard m finds k (reply.HandedBy by alone) is h = h
  parking_unheard m finds parking.Check (reply.Woken n) is h = h
  parking_unheard m finds k (reply.Woken n) is h = h
  parking_unheard m finds k told is h = is

  waking_unheard : (start : Option Want) (m : Line) (k : WakeAt) (whom : Option ℕ) (told : Reply)
      → IsOfHand told → MayHearWaking r s t start m k whom told → ⊥
  waking_unheard start m waking.Enter whom (reply.HandedBy by alone) is h = h
  waking_unheard start m k whom (reply.HandedBy by alone) is h = h
  waking_unheard start m waking.Enter whom (reply.Woken n) is h = h
  waking_unheard start m k whom (reply.Woken n) is h = h
  waking_unheard start m k whom told is h = is

  unheard : (p : RwLockPlace) (to : RwLockAt) (whom : Option ℕ) (told : Reply) → IsOfHand told
      → MayReply r a s t p to whom told → ⊥
  unheard p (at.Park k) whom told is h = parking_unheard Main _ k told is h
  unheard p (at.Aside k) whom told is h = parking_unheard Second _ k told is h
  unheard p (at.Wake m k) whom told is h = waking_unheard (start_of p.purpose) m k whom told is h
  unheard p (at.Decide seen) whom (reply.HandedBy by alone) is h = h
  unheard p (at.Decide seen) whom (reply.Woken n) is h = h
  unheard p (at.Decide seen) whom told is h = is
  unheard p (at.Count seen) whom (reply.HandedBy by alone) is h = h
  unheard p (at.Count seen) whom (reply.Woken n) is h = h
  unheard p (at.Count seen) whom told is h = is
  unheard p at.Marked whom (reply.HandedBy by alone) is h = h
  unheard p at.Marked whom (reply.Woken n) is h = h
  unheard p at.Marked whom told is h = is
  unheard p to whom told is h = h

  pub not_given : (b : Bool) (p : RwLockPlace) (whom : Option ℕ) (told : Reply)
      → MayReply r a s t p p.at whom told → given b p told ≡ None
  not_given b p whom (reply.HandedBy by alone) hears =
      absurd (unheard p p.at whom (reply.HandedBy by alone) tt hears)
  not_given b p whom (reply.Woken n) hears = absurd (unheard p p.at whom (reply.Woken n) tt hears)
  not_given b p whom told hears = refl

-- ---------------------------------------------------------------- each step

module _ (r : Rules) (a : Admission) (s : Site) (t : ℕ) (admits : Admits r a) (h : IsSite r s) where
  -- into a section that is free
  goes_in : (x : Want) → IsSectionFree s Main → s.role t ≡ at_rest None (Some (Has x))
      → Follows r s t (In Main ∷ []) (within Main None (Some (Has x)))
  goes_in x free is = record {
    needed = ((free, ap (λ (d : Role). d.inside) is, ap (λ (d : Role). d.empty) is), tt);
    role = put_same s.role t _ ∙ ap (λ (d : Role). record d { inside = Some Main }) is;
  }

  -- A thread goes out of a section.
  goes_out : (d : Role) → s.lock.taken t ≡ None → s.role t ≡ d → d.inside ≢ None → d.wakes ≡ None
      → d.bit_pending ≡ false → leaves d ≡ idle → Follows r s t (Out ∷ []) idle
  goes_out d free is inside owes unset gone = record {
    needed = (
      (
        (λ e. inside (sym (ap (λ (x : Role). x.inside) is) ∙ e)),
        ap (λ (x : Role). x.wakes) is ∙ owes,
        ap (λ (x : Role). x.bit_pending) is ∙ unset,
      ),
      tt,
    );
    role = ap (λ (o : Option TakenBy). wakened t o (putting s.role t (leaves (s.role t)) t)) free
        ∙ put_same s.role t _ ∙ ap leaves is ∙ gone;
  }

  nobody_taken : (s.role t).has_taken ≡ false → HasTakenNobody s.lock t
  nobody_taken none u x e = let g = h.carried u _ e in cc

  -- an owner takes the threads that the lock lets in once it has gone
  takes : (x : Want) (n : ℕ) (y : Option Want) (b : Bool) → b ≡ is_empty (unpicked r.sort None s.lock.queue)
      → s.role t ≡ within Main None (Some (Has x)) → Knows r.sort Upgradable
      → Follows r s t (Case (TakePicked None) ∷ []) (holding_role x (record {
        sharers = n;
        successor = y;
        none_left = b;
      }))
  takes x n y true e is knows = let free = nobody_taken (ap (λ (d : Role). d.has_taken) is) in record {
    needed = grind (arith, nat_tests);
    role = grind (arith, nat_tests);
  }
  takes x n y false e is knows = let free = nobody_taken (ap (λ (d : Role). d.has_taken) is) in record {
    needed = grind (arith, nat_tests);
    role = grind (arith, nat_tests);
  }

  took_role : (x : Access) (y : Want) (k : Taken) → hand_over_role y (took x k) ≡ holding_role y k
  took_role access.Shared y k = refl
  took_role access.Upgradable y k = refl
  took_role access.Exclusive y k = refl

  hand_over_sections : (x : Access) (b : Bool) (to : HandOverAt) (whom : Option ℕ) (told : Reply)
      → s.role t ≡ call_role (HandOver x b to) → MayHearHanding r s t to whom told
      → FollowsInCall r a s t (HandOver x b to) whom told
  hand_over_sections x b handing.Enter whom reply.Done is hears = goes_in (wanted x) hears is
  hand_over_sections x b handing.Take whom (reply.Picked n y none_left) is hears =
      rw (took_role x (wanted x) (record {
        sharers = n;
        successor = y;
        none_left = none_left;
      })) (takes (wanted x) n y none_left hears is (knows_all r admits.0 access.Upgradable))
  hand_over_sections x b (handing.Leave any handed) whom reply.Done is hears =
      rw (released_role x b) (goes_out _ hears is (λ e. cc) refl refl refl)
  hand_over_sections x b to whom told is hears = absurd hears

  ends : (x : Want) → s.role t ≡ at_rest None (Some (Has x)) → Follows r s t (End ∷ []) idle
  ends x is = record { needed = grind (arith, nat_tests); role = grind (arith, nat_tests) }

  handed_sections : (x : Access) (how : Patience) (b : Bool) (to : HandedAt) (told : Reply) → s.role t
      ≡ call_role (Handed x how b to) → MayHearHanded x to told → FollowsInCall r a s t (Handed x how b to)
      None told
  handed_sections access.Shared how b handed.Accept reply.Done is hears = ends (wanted access.Shared) is
  handed_sections access.Upgradable how b handed.Accept reply.Done is hears =
      ends (wanted access.Upgradable) is
  handed_sections access.Exclusive how b to told is hears = absurd hears
  handed_sections x how b to told is hears = absurd hears

  within_calls : (p : RwLockPlace) (whom : Option ℕ) (told : Reply) → MayStand a p → s.role t ≡ rwlock_role p
      → t < length s.lock.shared → MayReply r a s t p p.at whom told
      → Follows r s t (rwlock_deeds a p whom told) (role_next (rwlock_next a p told))
  within_calls p whom told stands is there hears = rwlock_sections_follow r a s t p whom told
      (is_at r a s t p admits h is stands there) hears

pub fair_sections_follow : FairSectionsFollow
fair_sections_follow r a s t (Plain p) whom told call hears = rw (not_given r a s t false p whom told hears)
    (rw (plain_role (rwlock_next a p told)) (within_calls r a s t call.admits call.site p whom told
    call.stands call.role call.there hears))
fair_sections_follow r a s t (Bump p) whom told call hears = rw (not_given r a s t true p whom told hears)
    (rw (bump_role p.purpose (rwlock_next a p told)) (within_calls r a s t call.admits call.site p whom told
    call.stands.0 call.role call.there hears))
fair_sections_follow r a s t (PeekQueue x) whom told call hears = absurd hears
fair_sections_follow r a s t (HandOver x b to) whom told call hears = hand_over_sections r a s t call.admits
    call.site x b to whom told call.role hears
fair_sections_follow r a s t (Handed x how b to) whom told call hears = handed_sections r a s t call.admits
    call.site x how b to told call.role hears
