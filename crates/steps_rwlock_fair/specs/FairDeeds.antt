-- The steps of fair releases and bumps, told by what a thread does about the abstract lock: what
-- each place is, and the deeds of each step.
use Rattle.std.specs.Prelude.{ℕ, Bool, true, false, Option, Some, None, if◌then◌else◌, ◌==◌, not, List, []}
use Rattle.std.specs.Prelude.{◌∷◌}
use Rattle.core_base.specs.declared.keys.Line.TheVariants.{Main}
use Rattle.core_base.specs.declared.wants.Want.{Want}
use Rattle.spec_locks.specs.declared.calls.Access.{Access}
use Rattle.steps_base.specs.declared.acts.Next.{Next}
use Rattle.steps_base.specs.declared.acts.Next.TheVariants as next
use Rattle.steps_base.specs.declared.acts.Reply.{Reply}
use Rattle.steps_base.specs.declared.acts.Reply.TheVariants as reply
use Rattle.spec_locks.specs.Locks.{Leave, TakePicked, HandOff}
use Rattle.spec_locks.specs.Sites.{Claim, Has, Role, idle, found, Deed, End, In, Out, Case}
use Rattle.steps_base.specs.Moves.{bit_left, claim_handed, heir_of}
use Rattle.steps_rwlock.specs.declared.places.Admission.{Admission}
use Rattle.steps_rwlock.specs.RwLockSteps.{wanted}
use Rattle.steps_rwlock.specs.RwLockDeeds.{at_rest, within, rwlock_role, rwlock_deeds, does_and_wakes}
use Rattle.steps_rwlock_fair.specs.declared.places.RwLockCallPlace.{RwLockCallPlace}
use Rattle.steps_rwlock_fair.specs.declared.places.RwLockCallPlace.TheVariants.{Plain, PeekQueue, HandOver}
use Rattle.steps_rwlock_fair.specs.declared.places.RwLockCallPlace.TheVariants.{Bump}
use Rattle.steps_rwlock_fair.specs.declared.places.RwLockCallPlace.TheVariants.{Handed}
use Rattle.steps_rwlock_fair.specs.declared.hand_over.Taken.{Taken}
use Rattle.steps_rwlock_fair.specs.declared.hand_over.HandOverAt.{HandOverAt}
use Rattle.steps_rwlock_fair.specs.declared.hand_over.HandOverAt.TheVariants as handing
use Rattle.steps_rwlock_fair.specs.declared.handed.HandedAt.{HandedAt}
use Rattle.steps_rwlock_fair.specs.declared.handed.HandedAt.TheVariants as handed
use Rattle.steps_rwlock_fair.specs.FairSteps.{has_room, gives_way}

-- ---------------------------------------------------------------- the acts of a thread, by its place

-- inside, an owner still, with those in hand the threads that the lock lets in once it has gone
abbrev pub holding_role : Want → Taken → Role
holding_role x k = record idle {
  inside = Some Main;
  has_taken = true;
  owes_taken = true;
  empty = found Main k.none_left;
  claims = Some (Has x);
}

abbrev pub hand_over_role : Want → HandOverAt → Role
hand_over_role x handing.Take = within Main None (Some (Has x))
hand_over_role x (handing.Store k) = holding_role x k
hand_over_role x (handing.Look k) = holding_role x k
hand_over_role x (handing.Exchange k seen) = holding_role x k
hand_over_role x (handing.Leave any handed) =
    record idle { inside = Some Main; has_taken = true; owes_taken = not handed }
hand_over_role x to = at_rest None (Some (Has x))

-- the right of a thread that was handed the lock
abbrev pub claim_at : Want → HandedAt → Claim
claim_at x (handed.Asleep by alone) = claim_handed alone x
claim_at x handed.Accept = Has x

abbrev pub call_role : RwLockCallPlace → Role
call_role (Plain p) = rwlock_role p
call_role (Bump p) = rwlock_role p
call_role (PeekQueue x) = at_rest None (Some (Has (wanted x)))
call_role (HandOver x b to) = hand_over_role (wanted x) to
call_role (Handed x how b to) = at_rest None (Some (claim_at (wanted x) to))

-- the state after a step, at its next place or in no call
abbrev pub call_role_next : Next RwLockCallPlace → Role
call_role_next (next.At c) = call_role c
call_role_next (next.End answer) = idle

-- ---------------------------------------------------------------- the deeds of each step

-- An operation inside the section sets the parked bit anew. The successor is no part of a place:
-- `whom`.
abbrev pub handing_deeds : Want → Taken → Option ℕ → List Deed
handing_deeds x k whom = Case (HandOff x (heir_of whom k.successor)) ∷ bit_left k.none_left ∷ []

abbrev pub leaves_over : Want → Taken → List Deed
leaves_over x k = Case (Leave x) ∷ bit_left k.none_left ∷ []

abbrev pub exchanged_deeds : Want → Taken → Option ℕ → (won room : Bool) → List Deed
exchanged_deeds x k whom false room = []
exchanged_deeds x k whom true true = handing_deeds x k whom
exchanged_deeds x k whom true false = leaves_over x k

abbrev pub freed_deeds : Want → Bool → (won : Bool) → List Deed
freed_deeds x b true = does_and_wakes b (Case (Leave x))
freed_deeds x b false = []

abbrev pub hand_over_deeds : Admission → Want → Bool → HandOverAt → Option ℕ → Reply → List Deed
hand_over_deeds a x b (handing.Free expected) whom (reply.Value seen) =
    freed_deeds x b (seen == expected)
hand_over_deeds a x b handing.Enter whom reply.Done = In Main ∷ []
hand_over_deeds a x b handing.Take whom (reply.Picked n y none_left) = Case (TakePicked None) ∷ []
hand_over_deeds a x b (handing.Store k) whom (reply.Value seen) = handing_deeds x k whom
hand_over_deeds a x b (handing.Exchange k expected) whom (reply.Value seen) =
    exchanged_deeds x k whom (seen == expected) (has_room a.limit k expected)
hand_over_deeds a x b (handing.Leave any handed) whom reply.Done = Out ∷ []
hand_over_deeds a x b to whom told = []

abbrev pub glance_deeds : Bool → List Deed
glance_deeds goes_on = if goes_on then [] else End ∷ []

abbrev pub glances_deeds : Admission → Access → Reply → List Deed
glances_deeds a x (reply.Value seen) = glance_deeds (gives_way a x seen)
glances_deeds a x told = []

abbrev pub handed_deeds : HandedAt → Reply → List Deed
handed_deeds handed.Accept reply.Done = End ∷ []
handed_deeds handed.Accept (reply.Value seen) = End ∷ []
handed_deeds to told = []

abbrev pub call_deeds : Admission → RwLockCallPlace → Option ℕ → Reply → List Deed
call_deeds a (Plain p) whom told = rwlock_deeds a p whom told
call_deeds a (Bump p) whom told = rwlock_deeds a p whom told
call_deeds a (PeekQueue x) whom told = glances_deeds a x told
call_deeds a (HandOver x b to) whom told = hand_over_deeds a (wanted x) b to whom told
call_deeds a (Handed x how b to) whom told = handed_deeds to told
