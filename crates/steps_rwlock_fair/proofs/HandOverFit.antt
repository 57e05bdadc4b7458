-- The step that hands a lock over: it does to the lock what its deeds say, and leaves its word and its limit.
use Rattle.std.proofs.Common.{ℕ, Bool, true, false, Option, Some, [], ◌∷◌, if◌then◌else◌, ◌==◌, ◌≡◌, ◌⊎◌, ◌+◌}
use Rattle.std.proofs.Common.{◌-◌, ◌≤◌, inl, inr, refl, ap, sym, subst, ◌∙◌, arith}
use Rattle.std.proofs.lemmas.Bool.{eqb-true}
use Rattle.std.proofs.lemmas.Bool.Decides.{nat_tests}
use Rattle.core_base.specs.declared.keys.Line.TheVariants.{Main}
use Rattle.core_base.specs.declared.ops.Op.{Op}
use Rattle.core_base.specs.declared.ops.Op.TheVariants as operation
use Rattle.core_base.specs.declared.wants.Want.{Want}
use Rattle.core_base.specs.declared.wants.Want.TheVariants.{Exclusive, Upgradable}
use Rattle.spec_locks.specs.declared.calls.Access.TheVariants as access
use Rattle.steps_base.specs.declared.acts.Act.TheVariants as act
use Rattle.steps_base.specs.declared.acts.Next.TheVariants as next
use Rattle.steps_base.specs.declared.acts.Reply.TheVariants as reply
use Rattle.spec_locks.specs.Locks.{Rules, HandOff, HandOffFits, handed}
use Rattle.spec_locks.specs.Sites.{Has, Role, idle, found, Site, IsSite, Case, has_readers}
use Rattle.spec_locks.specs.Codes.{code, TellsTrue, count_in}
use Rattle.spec_locks.proofs.CodeLaws.{words_tell_true}
use Rattle.steps_rwlock.specs.declared.places.Admission.{Admission}
use Rattle.steps_rwlock.specs.RwLockDeeds.{Admits, Follows}
use Rattle.steps_base.specs.Moves.{bit_left, heir_of}
use Rattle.steps_rwlock_fair.specs.declared.places.RwLockCallPlace.{RwLockCallPlace}
use Rattle.steps_rwlock_fair.specs.declared.places.RwLockCallPlace.TheVariants.{HandOver}
use Rattle.steps_rwlock_fair.specs.declared.hand_over.Taken.{Taken}
use Rattle.steps_rwlock_fair.specs.declared.hand_over.HandOverAt.TheVariants as handing
use Rattle.steps_rwlock_fair.specs.FairSteps.{any_taken, count_of_taken, has_room, parked_as, word_without}
use Rattle.steps_rwlock_fair.specs.FairSteps.{with_taken, call_act}
use Rattle.steps_rwlock_fair.specs.FairDeeds.{holding_role, exchanged_deeds, call_role_next}
use Rattle.steps_rwlock_fair.specs.FairCalls.{IsInCall, HasInHand, in_hand_of}
use Rattle.steps_rwlock_fair.specs.FairLaws.{FollowsInCall, HandOversFollow}
use Rattle.steps_rwlock_fair.proofs.HandOvers.{WantsMore, wants_more, counts, upgradable_gone}

module _ (r : Rules) (s : Site) (t : ℕ) (rw_sort : has_readers r.sort ≡ true) (h : IsSite r s) where
  -- a hand-over is allowed where the limit holds after it
  hands : (x : Want) (k : Taken) (whom : Option ℕ) (none_left : Bool) → (x ≡ Exclusive) ⊎ (x ≡ Upgradable)
      → HasInHand s.lock t k whom → HandOffFits r x (handed t x (heir_of whom k.successor) s.lock)
      → s.role t ≡ record idle {
        inside = Some Main;
        has_taken = true;
        owes_taken = true;
        empty = found Main none_left;
        claims = Some (Has x);
      }
      → Follows r s t (Case (HandOff x (heir_of whom k.successor)) ∷ bit_left none_left ∷ []) (record idle {
        inside = Some Main;
        has_taken = true;
      })
  hands Exclusive k whom true ex hand fits is = let own = h.held t (Has Exclusive) (grind arith) in let next =
      hand.successor in record {
        needed = grind (arith, nat_tests);
        role = grind (arith, nat_tests);
      }
  hands Exclusive k whom false ex hand fits is = let own = h.held t (Has Exclusive) (grind arith)
      in let next = hand.successor in record {
        needed = grind (arith, nat_tests);
        role = grind (arith, nat_tests);
      }
  hands Upgradable k whom true ex hand fits is = let own = h.held t (Has Upgradable) (grind arith)
      in let next = hand.successor in record {
        needed = grind (arith, nat_tests);
        role = grind (arith, nat_tests);
      }
  hands Upgradable k whom false ex hand fits is = let own = h.held t (Has Upgradable) (grind arith)
      in let next = hand.successor in record {
        needed = grind (arith, nat_tests);
        role = grind (arith, nat_tests);
      }
  hands x k whom none_left ex hand fits is = absurd (grind arith)

module _ (r : Rules) (a : Admission) (s : Site) (t l : ℕ) (op : Op) (whom : Option ℕ) (admits : Admits r a)
    (h : IsSite r s) where
  tells : TellsTrue r s
  tells = words_tell_true r s admits.0 h

  abbrev v : ℕ
  v = code r s

  module _ (k : Taken) (hand : HasInHand s.lock t k whom) where
    more : WantsMore k.successor
    more = wants_more r s t k whom admits.0 h hand

    -- after it as many count as there is room for
    pub fits : s.role t ≡ holding_role Upgradable k → has_room a.limit k v ≡ true
        → HandOffFits r Upgradable (handed t Upgradable (heir_of whom k.successor) s.lock)
    fits is room =
        let gone = upgradable_gone r s t h (ap (λ (d : Role). d.claims) is) in
        let n = counts _ gone.0 k.successor whom more hand.named in
        let all = hand.sharers in let c = tells.count in let m = admits.2 in let one = gone.1 in
        let enough : (count_in v - 1) + count_of_taken k ≤ a.limit = grind (arith, nat_tests) in
        omega arith

    exchanged : (b : Bool) (expected : ℕ) → s.role t ≡ holding_role Upgradable k → (room : Bool)
        → has_room a.limit k expected ≡ room → (won : Bool) → (v == expected) ≡ won
        → (if room then act.HandOver l (operation.Exchange expected (with_taken access.Upgradable k expected))
        else act.Word l (operation.Exchange expected
        (parked_as k.none_left (word_without access.Upgradable expected)))) ≡ act.HandOver l op
        → Follows r s t (exchanged_deeds Upgradable k whom won room)
        (call_role_next (if won then next.At (HandOver access.Upgradable b
        (handing.Leave (any_taken k) (has_room a.limit k v))) else next.At
        (HandOver access.Upgradable b (handing.Exchange k v))))
    exchanged b expected is false er won ew e = absurd cc
    exchanged b expected is true er false ew e = record { needed = tt; role = is }
    exchanged b expected is true er true ew e =
        let same : has_room a.limit k v ≡ true = ap (has_room a.limit k) (eqb-true v expected ew) ∙ er in
        rw same (hands r s t admits.0 h Upgradable k whom k.none_left (inr refl) hand (fits is same) is)

pub hand_overs_follow : HandOversFollow
hand_overs_follow r a s t l c op whom over e = by_place c over.call over.is e
  where
    k : Taken
    k = over.taken

    by_place : (c : RwLockCallPlace) → IsInCall r a s t c → in_hand_of c ≡ Some k → call_act l a c
        ≡ act.HandOver l op → FollowsInCall r a s t c whom (reply.Value (code r s))
    by_place (HandOver access.Exclusive b (handing.Store j)) call is e = hands r s t call.admits.0 call.site
        Exclusive j whom j.none_left (inl refl) (subst (λ (i : Taken). HasInHand s.lock t i whom) (sym (cc))
        over.in_hand) tt call.role
    by_place (HandOver access.Upgradable b (handing.Exchange j expected)) call is e =
        exchanged r a s t l op whom call.admits call.site j (subst (λ (i : Taken). HasInHand s.lock t i whom)
        (sym (cc)) over.in_hand) b expected call.role (has_room a.limit j expected) refl
        (code r s == expected) refl e
    by_place (HandOver access.Exclusive b (handing.Exchange j expected)) call is e = absurd call.stands
    by_place (HandOver access.Upgradable b (handing.Store j)) call is e = absurd call.stands
    by_place (HandOver access.Shared b to) call is e = absurd call.stands
    by_place (HandOver x b (handing.Look j)) call is e = absurd cc
    by_place c call is e = absurd cc
