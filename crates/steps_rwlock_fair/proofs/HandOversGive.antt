-- After a hand-over each thread in hand has what its place says.
use Rattle.std.proofs.Common.{ℕ, Bool, true, false, Option, Some, None, if◌then◌else◌, ◌==◌, ◌≡◌, ◌≢◌, ◌⊎◌}
use Rattle.std.proofs.Common.{◌<◌, inl, inr, refl, ap, sym, subst, ◌∙◌, length, arith}
use Rattle.std.specs.Prelude.{slice_index, ◌≤◌}
use Rattle.core_base.specs.declared.ops.Op.{Op}
use Rattle.core_base.specs.declared.ops.Op.TheVariants as operation
use Rattle.core_base.specs.declared.wants.Want.{Want}
use Rattle.core_base.specs.declared.wants.Want.TheVariants.{Exclusive, Upgradable, Shared}
use Rattle.spec_locks.specs.declared.calls.Access.TheVariants as access
use Rattle.steps_base.specs.declared.acts.Act.TheVariants as act
use Rattle.steps_base.specs.Acts.{takes_effect}
use Rattle.spec_locks.specs.Locks.{LockState, Rules, Queued, IsSuccessor, IsTaken, Knows, readers, handed}
use Rattle.spec_locks.specs.Locks.{sharing_handed, without_owner, with_owner, pending_for}
use Rattle.spec_locks.specs.Sites.{Site, IsSite, HasClaim, has_readers}
use Rattle.spec_locks.specs.Codes.{code}
use Rattle.spec_locks.specs.Deeds.{after_all}
use Rattle.spec_locks.proofs.Hands.{shares_handed_on}
use Rattle.steps_base.specs.Moves.{claim_handed, heir_of}
use Rattle.steps_rwlock_fair.specs.declared.places.RwLockCallPlace.{RwLockCallPlace}
use Rattle.steps_rwlock_fair.specs.declared.places.RwLockCallPlace.TheVariants.{HandOver}
use Rattle.steps_rwlock_fair.specs.declared.hand_over.Taken.{Taken}
use Rattle.steps_rwlock_fair.specs.declared.hand_over.HandOverAt.TheVariants as handing
use Rattle.steps_rwlock_fair.specs.FairSteps.{has_room, parked_as, word_without, with_taken, call_act}
use Rattle.steps_rwlock_fair.specs.FairDeeds.{exchanged_deeds}
use Rattle.steps_rwlock_fair.specs.FairCalls.{IsInCall, in_hand_of}
use Rattle.steps_rwlock_fair.specs.FairLaws.{lock_slow, HandOversGive}
use Rattle.steps_rwlock_fair.proofs.HandOverCodes.{settled_lock}

module _ (r : Rules) (s : Site) (t u : ℕ) (rw_sort : has_readers r.sort ≡ true) (h : IsSite r s)
    (right : Want) (successor : Option Queued) (is : IsSuccessor s.lock t successor) (more : right ≢ Shared)
  where
    abbrev now : LockState
    now = handed t right successor s.lock

    abbrev Gives : Want → LockState → Type 0
    Gives x lock = HasClaim lock u (Some (claim_handed (readers lock == 0) x))

    succeeded : (o : Option Queued) → IsSuccessor s.lock t o → (o ≡ None)
        ⊎ ((y : Queued) × ((o ≡ Some y) × (y.want ≢ Shared)))
    succeeded None k = inl refl
    succeeded (Some y) k = inr (y, (refl, ((k y.thread y.want).0 refl).1))

    writes : (b : Bool) → (readers (sharing_handed t (without_owner t right s.lock)) == 0) ≡ b
        → Gives Exclusive (if b then with_owner u Exclusive (sharing_handed t (without_owner t right s.lock))
        else pending_for u false (sharing_handed t (without_owner t right s.lock)))
    writes true e = rw e refl
    writes false e = rw e refl

    gives : (x : Want) → Knows r.sort x → IsTaken s.lock t u x → u < length s.lock.shared → Gives x now
    gives Shared knows mine there = each (readers now == 0) (shares_handed_on t u right successor s.lock _
        more
        (succeeded successor is) there mine refl refl)
      where
        each : (b : Bool) → 1 ≤ slice_index now.shared u → HasClaim now u (Some (claim_handed b Shared))
        each true own = own
        each false own = own
    gives Upgradable knows mine there = rw ((is u Upgradable).1 (mine, λ e. cc))
        (each (readers (with_owner u Upgradable (sharing_handed t (without_owner t right s.lock))) == 0))
      where
        each : (b : Bool) → HasClaim (with_owner u Upgradable
            (sharing_handed t (without_owner t right s.lock)))
            u (Some (claim_handed b Upgradable))
        each true = refl
        each false = refl
    gives Exclusive knows mine there = rw ((is u Exclusive).1 (mine, λ e. cc))
        (writes (readers (sharing_handed t (without_owner t right s.lock)) == 0) refl)
    gives x knows mine there = absurd (grind arith)

pub hand_overs_give : HandOversGive
hand_overs_give r a s t l u c op whom x over e won mine there = by_place c over.call over.is e
  where
    k : Taken
    k = over.taken

    knows : IsSite r s → Knows r.sort x
    knows site = site.state.known_taken u _ mine

    exchanged : (j : Taken) → k ≡ j → (expected : ℕ) → IsInCall r a s t c → (room : Bool) → (b : Bool)
        → (code r s == expected) ≡ b
        → (if room then act.HandOver l (operation.Exchange expected (with_taken access.Upgradable j expected))
        else act.Word l (operation.Exchange expected
        (parked_as j.none_left (word_without access.Upgradable expected)))) ≡ act.HandOver l op
        → HasClaim (after_all r (exchanged_deeds Upgradable j whom b room) s t).lock u
        (Some (claim_handed (readers (after_all r (exchanged_deeds Upgradable j whom b room) s t).lock ==
        0) x))
    exchanged j same expected call false b eb e = absurd cc
    exchanged j same expected call true false eb e =
        absurd (let f : op ≡ operation.Exchange expected (with_taken access.Upgradable j expected) = cc
        in let g : (code r s == expected) ≡ true = ap (λ (y : Op). takes_effect y (code r s)) (sym f) ∙ won
        in let z : true ≡ false = sym g ∙ eb in cc)
    exchanged j same expected call true true eb e = rw (settled_lock r _ t j.none_left)
        (gives r s t u call.admits.0 call.site Upgradable (heir_of whom j.successor)
        (subst (λ (i : Taken). IsSuccessor s.lock t (heir_of whom i.successor)) same over.in_hand.successor)
        (λ f. cc) x (knows call.site) mine there)

    by_place : (d : RwLockCallPlace) → IsInCall r a s t d → in_hand_of d ≡ Some k → call_act l a d
        ≡ act.HandOver l op → HasClaim (lock_slow r a s t d whom) u
        (Some (claim_handed (readers (lock_slow r a s t d whom) == 0) x))
    by_place (HandOver access.Exclusive b (handing.Store j)) call is e =
        let same : k ≡ j = cc in
        rw (settled_lock r _ t j.none_left) (gives r s t u call.admits.0 call.site Exclusive
        (heir_of whom j.successor) (subst (λ (i : Taken). IsSuccessor s.lock t (heir_of whom i.successor))
        same over.in_hand.successor) (λ f. cc) x (knows call.site) mine there)
    by_place (HandOver access.Upgradable b (handing.Exchange j expected)) call is e = let same : k ≡ j = cc
        in exchanged j same expected over.call (has_room a.limit j expected) (code r s == expected) refl e
    by_place (HandOver access.Exclusive b (handing.Exchange j expected)) call is e = absurd call.stands
    by_place (HandOver access.Upgradable b (handing.Store j)) call is e = absurd call.stands
    by_place (HandOver access.Shared b to) call is e = absurd call.stands
    by_place (HandOver x b (handing.Look j)) call is e = absurd cc
    by_place d call is e = absurd cc
