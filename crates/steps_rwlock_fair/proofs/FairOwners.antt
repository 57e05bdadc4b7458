-- Each step on the word of a call that may hand the lock over leaves the owners of the lock after it.
use Rattle.std.proofs.Common.{ℕ, Bool, true, false, Option, None, List, if◌then◌else◌, ◌==◌, ◌≡◌, refl, sym}
use Rattle.std.proofs.Common.{ap, ◌∙◌}
use Rattle.core_base.specs.declared.ops.Op.{Op}
use Rattle.core_base.specs.declared.ops.Op.TheVariants as operation
use Rattle.core_base.specs.declared.wants.Want.{Want}
use Rattle.core_base.specs.declared.wants.Want.TheVariants.{Exclusive, Upgradable}
use Rattle.core_base.specs.declared.wants.Waiter.{Waiter}
use Rattle.spec_locks.specs.declared.calls.Access.{Access}
use Rattle.spec_locks.specs.declared.calls.Access.TheVariants as access
use Rattle.steps_base.specs.declared.acts.Act.TheVariants as act
use Rattle.steps_base.specs.declared.acts.Reply.TheVariants as reply
use Rattle.steps_base.specs.declared.owners.Owners.{Owners}
use Rattle.steps_base.specs.Owners.{lock_seen}
use Rattle.spec_locks.specs.Locks.{LockState, Rules, Leave, Taken as TakenBy, without_owner}
use Rattle.spec_locks.specs.Sites.{Site, Case}
use Rattle.spec_locks.specs.Codes.{code}
use Rattle.spec_locks.specs.Deeds.{after_all}
use Rattle.steps_rwlock.specs.declared.places.Admission.{Admission}
use Rattle.steps_rwlock.specs.RwLockSteps.{wanted}
use Rattle.steps_rwlock.specs.RwLockDeeds.{does_and_wakes}
use Rattle.steps_rwlock.proofs.RwLockOwners.{rwlock_owners_follow}
use Rattle.steps_rwlock.proofs.RwLockStands.{is_at}
use Rattle.steps_rwlock_fair.specs.declared.places.RwLockCallPlace.TheVariants.{Plain, PeekQueue, HandOver}
use Rattle.steps_rwlock_fair.specs.declared.places.RwLockCallPlace.TheVariants.{Bump}
use Rattle.steps_rwlock_fair.specs.declared.places.RwLockCallPlace.TheVariants.{Handed}
use Rattle.steps_rwlock_fair.specs.declared.hand_over.Taken.{Taken}
use Rattle.steps_rwlock_fair.specs.declared.hand_over.HandOverAt.{HandOverAt}
use Rattle.steps_rwlock_fair.specs.declared.hand_over.HandOverAt.TheVariants as handing
use Rattle.steps_rwlock_fair.specs.declared.handed.HandedAt.TheVariants as given
use Rattle.steps_rwlock_fair.specs.FairSteps.{has_room, with_taken, parked_as, word_without, without_owned}
use Rattle.steps_rwlock_fair.specs.FairSteps.{gives_way, hand_over_act, call_owners}
use Rattle.steps_rwlock_fair.specs.FairDeeds.{freed_deeds, exchanged_deeds, glance_deeds}
use Rattle.steps_rwlock_fair.specs.FairCalls.{HandsOverAt}
use Rattle.steps_rwlock_fair.specs.FairLaws.{after_call, FairOwnersFollow, GiversKeep}
use Rattle.steps_rwlock_fair.proofs.HandOverCodes.{settled_lock}

module _ (r : Rules) (a : Admission) (s : Site) (t l : ℕ) (op : Op) (shared : List ℕ) (o : Owners)
    (main second : List Waiter) (taken : ℕ → Option TakenBy) (is : s.lock ≡ lock_seen shared o main second
    taken) where
  abbrev Seen : Owners → LockState → Type 0
  Seen now lock = lock_seen shared now main second taken ≡ lock

  -- a right is given up
  pub gone : (x : Access) → HandsOverAt x handing.Enter → Seen (without_owned x o)
      (without_owner t (wanted x) s.lock)
  gone access.Exclusive fits = ap (without_owner t Exclusive) (sym is)
  gone access.Upgradable fits = ap (without_owner t Upgradable) (sym is)
  gone access.Shared fits = absurd fits

  does : (b : Bool) (x : Want) → (after_all r (does_and_wakes b (Case (Leave x))) s t).lock ≡ without_owner t
      x s.lock
  does true x = refl
  does false x = refl

  glanced : (b : Bool) → Seen o (after_all r (glance_deeds b) s t).lock
  glanced true = sym is
  glanced false = sym is

  freed : (x : Access) (b won : Bool) → HandsOverAt x handing.Enter
      → Seen (if won then without_owned x o else o) (after_all r (freed_deeds (wanted x) b won) s t).lock
  freed x b true fits = gone x fits ∙ sym (does b (wanted x))
  freed x b false fits = sym is

  exchanged : (k : Taken) (expected : ℕ) (room won : Bool)
      → (if room then act.HandOver l (operation.Exchange expected (with_taken access.Upgradable k expected))
      else act.Word l (operation.Exchange expected (parked_as k.none_left
      (word_without access.Upgradable expected)))) ≡ act.Word l op
      → Seen (if won then without_owned access.Upgradable o else o)
      (after_all r (exchanged_deeds Upgradable k None won room) s t).lock
  exchanged k expected true won e = absurd cc
  exchanged k expected false true e = gone access.Upgradable tt ∙ sym (settled_lock r _ t k.none_left)
  exchanged k expected false false e = sym is

  hand_over_owners : (x : Access) (b : Bool) (to : HandOverAt) → HandsOverAt x to → hand_over_act l a x to
      ≡ act.Word l op → Seen (call_owners a (HandOver x b to) t (code r s) o)
      (after_call r a s t (HandOver x b to) None (reply.Value (code r s))).lock
  hand_over_owners x b handing.Load fits e = sym is
  hand_over_owners x b (handing.Look k) fits e = sym is
  hand_over_owners access.Exclusive b (handing.Free expected) fits e = freed access.Exclusive b
      (code r s == expected) tt
  hand_over_owners access.Upgradable b (handing.Free expected) fits e = freed access.Upgradable b
      (code r s == expected) tt
  hand_over_owners access.Shared b (handing.Free expected) fits e = absurd fits
  hand_over_owners access.Upgradable b (handing.Exchange k expected) fits e =
      exchanged k expected (has_room a.limit k expected) (code r s == expected) e
  hand_over_owners access.Exclusive b (handing.Exchange k expected) fits e = absurd fits
  hand_over_owners access.Shared b (handing.Exchange k expected) fits e = absurd fits
  hand_over_owners x b to fits e = absurd cc

pub fair_owners_follow : FairOwnersFollow
fair_owners_follow r a s t l (Plain p) op shared o main second taken call e few limit is =
    rwlock_owners_follow r a s t l p op shared o main second taken (is_at r a s t p call.admits call.site
    call.role call.stands call.there) e few limit is
fair_owners_follow r a s t l (Bump p) op shared o main second taken call e few limit is =
    rwlock_owners_follow r a s t l p op shared o main second taken (is_at r a s t p call.admits call.site
    call.role call.stands.0 call.there) e few limit is
fair_owners_follow r a s t l (PeekQueue x) op shared o main second taken call e few limit is =
    glanced r a s t l op shared o main second taken is (gives_way a x (code r s))
fair_owners_follow r a s t l (HandOver x b to) op shared o main second taken call e few limit is =
    hand_over_owners r a s t l op shared o main second taken is x b to call.stands e
fair_owners_follow r a s t l (Handed x how b given.Accept) op shared o main second taken call e few limit is =
    sym is
fair_owners_follow r a s t l (Handed x how b (given.Asleep by alone)) op shared o main second taken call e few
    limit is = absurd cc

pub givers_keep : GiversKeep
givers_keep a access.Exclusive b to t seen shared o main second taken fits e = rw e refl
givers_keep a access.Upgradable b to t seen shared o main second taken fits e = rw e refl
givers_keep a access.Shared b to t seen shared o main second taken fits e = absurd fits
