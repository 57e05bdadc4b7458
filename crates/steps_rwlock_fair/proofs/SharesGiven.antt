-- A hand-over gives each in hand that wants to share one right more.
use Rattle.std.proofs.lemmas.Bool.Decides.{nat_tests}
use Rattle.std.proofs.Common.{ℕ, zero, suc, Bool, true, false, Option, Some, None, List, [], ◌∷◌}
use Rattle.std.proofs.Common.{if◌then◌else◌, ◌==◌, ◌≡◌, ◌≢◌, ◌+◌, ◌<◌, refl, ap, sym, subst, ◌∙◌, length}
use Rattle.std.proofs.Common.{arith}
use Rattle.std.specs.Prelude.{slice_index}
use Rattle.core_base.specs.declared.ops.Op.{Op}
use Rattle.core_base.specs.declared.ops.Op.TheVariants as operation
use Rattle.core_base.specs.declared.wants.Want.{Want}
use Rattle.core_base.specs.declared.wants.Want.TheVariants.{Exclusive, Upgradable, Shared}
use Rattle.spec_locks.specs.declared.calls.Access.TheVariants as access
use Rattle.steps_base.specs.declared.acts.Act.TheVariants as act
use Rattle.steps_base.specs.Acts.{takes_effect}
use Rattle.steps_base.specs.Moves.{heir_of}
use Rattle.spec_locks.specs.Locks.{LockState, Rules, Queued, Taken as TakenBy, IsSuccessor, IsTaken, readers}
use Rattle.spec_locks.specs.Locks.{handed, shares_handed, sharing_from, sharing_handed, succeeding}
use Rattle.spec_locks.specs.Locks.{without_owner, with_owner, with_successor, pending_for}
use Rattle.spec_locks.specs.Sites.{Site}
use Rattle.spec_locks.specs.Codes.{code}
use Rattle.spec_locks.specs.Deeds.{after_all}
use Rattle.steps_rwlock.specs.declared.places.Admission.{Admission}
use Rattle.steps_rwlock_fair.specs.declared.places.RwLockCallPlace.{RwLockCallPlace}
use Rattle.steps_rwlock_fair.specs.declared.places.RwLockCallPlace.TheVariants.{HandOver}
use Rattle.steps_rwlock_fair.specs.declared.hand_over.Taken.{Taken}
use Rattle.steps_rwlock_fair.specs.declared.hand_over.HandOverAt.TheVariants as handing
use Rattle.steps_rwlock_fair.specs.FairSteps.{has_room, parked_as, word_without, with_taken, call_act}
use Rattle.steps_rwlock_fair.specs.FairDeeds.{exchanged_deeds}
use Rattle.steps_rwlock_fair.specs.FairCalls.{IsInCall, in_hand_of}
use Rattle.steps_rwlock_fair.specs.FairLaws.{lock_slow, StandsToHandOver}
use Rattle.steps_rwlock_fair.proofs.HandOverCodes.{settled_lock}

-- a successor that wants more than to share changes no number of shared rights
shared_kept : (o : Option Queued) (now : LockState) → ((y : Queued) → o ≡ Some y → y.want ≢ Shared)
    → (with_successor o now).shared ≡ now.shared
shared_kept None now more = refl
shared_kept (Some y) now more = by_want y.want (more y refl)
  where
    writes : (b : Bool) → (if b then with_owner y.thread Exclusive now else pending_for y.thread false
        now).shared ≡ now.shared
    writes true = refl
    writes false = refl

    by_want : (x : Want) → x ≢ Shared → (succeeding x y.thread now).shared ≡ now.shared
    by_want Exclusive ne = writes (readers now == 0)
    by_want Shared ne = absurd (ne refl)
    by_want x ne = refl

given_one : (t : ℕ) (taken : ℕ → Option TakenBy) (i u : ℕ) (ns : List ℕ) → u < length ns
    → shares_handed t (taken (i + u)) ≡ 1
    → slice_index (sharing_from t taken i ns) u ≡ slice_index ns u + 1
given_one t taken i u [] lt e = absurd (omega arith)
given_one t taken i zero (n ∷ ns) lt e =
    let f : shares_handed t (taken i) ≡ 1 = subst (λ k. shares_handed t (taken k) ≡ 1) (omega arith) e in
    let g : slice_index (sharing_from t taken i (n ∷ ns)) 0 ≡ n + shares_handed t (taken i) = refl in
    let h : slice_index (n ∷ ns) 0 ≡ n = refl in omega arith
given_one t taken i (suc u) (n ∷ ns) lt e = given_one t taken (i + 1) u ns (omega arith)
    (subst (λ k. shares_handed t (taken k) ≡ 1) (omega arith) e)

module _ (t u : ℕ) (s : LockState) (mine : IsTaken s t u Shared) (there : u < length s.shared) where
  one : shares_handed t (s.taken (0 + u)) ≡ 1
  one = subst (λ (k : ℕ). shares_handed t (s.taken k) ≡ 1) (omega arith) one_of
    where
      one_of : shares_handed t (s.taken u) ≡ 1
      one_of = rw mine (grind (arith, nat_tests))

  one_more : (right : Want) (successor : Option Queued) → IsSuccessor s t successor → right ≢ Shared
      → slice_index (handed t right successor s).shared u ≡ slice_index s.shared u + 1
  one_more right successor is more = by_right right more
    where
      wants_more : (y : Queued) → successor ≡ Some y → y.want ≢ Shared
      wants_more y e = ((is y.thread y.want).0 e).1

      by_right : (x : Want) → x ≢ Shared → slice_index (handed t x successor s).shared u ≡ slice_index
          s.shared u + 1
      by_right Exclusive ne = ap (λ ns. slice_index ns u)
          (shared_kept successor (sharing_handed t (without_owner t Exclusive s)) wants_more)
          ∙ given_one t s.taken 0 u s.shared there one
      by_right Upgradable ne = ap (λ ns. slice_index ns u)
          (shared_kept successor (sharing_handed t (without_owner t Upgradable s)) wants_more)
          ∙ given_one t s.taken 0 u s.shared there one
      by_right Shared ne = absurd (ne refl)
      by_right x ne = ap (λ ns. slice_index ns u)
          (shared_kept successor (sharing_handed t (without_owner t x s)) wants_more)
          ∙ given_one t s.taken 0 u s.shared there one

-- a fact of the lock after each hand-over that there is holds after this one
module _ (r : Rules) (a : Admission) (s : Site) (t l : ℕ) (c : RwLockCallPlace) (op : Op) (whom : Option ℕ)
    (over : StandsToHandOver r a s t c whom)
    (e : call_act l a c ≡ act.HandOver l op) (won : takes_effect op (code r s) ≡ true) (P : LockState
    → Type 0)
    (each : (right : Want) (successor : Option Queued) → IsSuccessor s.lock t successor → right ≢ Shared
    → P (handed t right successor s.lock)) where
  abbrev k : Taken
  k = over.taken

  named : (j : Taken) → k ≡ j → IsSuccessor s.lock t (heir_of whom j.successor)
  named j same = subst (λ (i : Taken). IsSuccessor s.lock t (heir_of whom i.successor)) same
      over.in_hand.successor

  exchanged : (j : Taken) → k ≡ j → (expected : ℕ) → (room : Bool) → (b : Bool) → (code r s == expected) ≡ b
      → (if room then act.HandOver l (operation.Exchange expected (with_taken access.Upgradable j expected))
      else act.Word l (operation.Exchange expected (parked_as j.none_left
      (word_without access.Upgradable expected)))) ≡ act.HandOver l op
      → P (after_all r (exchanged_deeds Upgradable j whom b room) s t).lock
  exchanged j same expected false b eb f = absurd cc
  exchanged j same expected true false eb f =
      absurd (let g : op ≡ operation.Exchange expected (with_taken access.Upgradable j expected) = cc
      in let h : (code r s == expected) ≡ true = ap (λ (y : Op). takes_effect y (code r s)) (sym g) ∙ won
      in let z : true ≡ false = sym h ∙ eb in cc)
  exchanged j same expected true true eb f = subst P (sym (settled_lock r _ t j.none_left))
      (each Upgradable (heir_of whom j.successor) (named j same) (λ g. cc))

  by_place : (d : RwLockCallPlace) → IsInCall r a s t d → in_hand_of d ≡ Some k → call_act l a d
      ≡ act.HandOver l op → P (lock_slow r a s t d whom)
  by_place (HandOver access.Exclusive b (handing.Store j)) call is f =
      let same : k ≡ j = cc in
      subst P (sym (settled_lock r _ t j.none_left)) (each Exclusive (heir_of whom j.successor) (named j same)
      (λ g. cc))
  by_place (HandOver access.Upgradable b (handing.Exchange j expected)) call is f = let same : k ≡ j = cc
      in exchanged j same expected (has_room a.limit j expected) (code r s == expected) refl f
  by_place (HandOver access.Exclusive b (handing.Exchange j expected)) call is f = absurd call.stands
  by_place (HandOver access.Upgradable b (handing.Store j)) call is f = absurd call.stands
  by_place (HandOver access.Shared b to) call is f = absurd call.stands
  by_place (HandOver x b (handing.Look j)) call is f = absurd cc
  by_place d call is f = absurd cc

  pub over_leads : P (lock_slow r a s t c whom)
  over_leads = by_place c over.call over.is e

pub shares_given : (r : Rules) (a : Admission) (s : Site) (t l u : ℕ) (c : RwLockCallPlace) (op : Op)
    (whom : Option ℕ) → StandsToHandOver r a s t c whom
    → call_act l a c ≡ act.HandOver l op → takes_effect op (code r s) ≡ true → IsTaken s.lock t u Shared
    → u < length s.lock.shared
    → slice_index (lock_slow r a s t c whom).shared u ≡ slice_index s.lock.shared u + 1
shares_given r a s t l u c op whom over e won mine there =
    over_leads r a s t l c op whom over e won (λ now. slice_index now.shared u ≡ slice_index s.lock.shared u
    + 1) (one_more t u s.lock mine there)
