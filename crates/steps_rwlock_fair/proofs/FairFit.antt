-- Each step on the word of a fair release, of a bump, or of one that was handed the lock does to it what its
-- deeds say.
use Rattle.std.proofs.Common.{ℕ, Bool, true, false, Option, Some, None, [], ◌∷◌, if◌then◌else◌, ◌==◌, ◌≡◌}
use Rattle.std.proofs.Common.{◌⊎◌, ◌<◌, inl, inr, refl, ap, sym, ◌∙◌, length, arith}
use Rattle.std.proofs.lemmas.Bool.{eqb-true}
use Rattle.std.proofs.lemmas.Bool.Decides.{nat_tests}
use Rattle.core_base.specs.declared.keys.Line.TheVariants.{Main}
use Rattle.core_base.specs.declared.ops.Op.{Op}
use Rattle.core_base.specs.declared.ops.Op.TheVariants as operation
use Rattle.core_base.specs.declared.wants.Want.{Want}
use Rattle.core_base.specs.declared.wants.Want.TheVariants.{Exclusive, Upgradable}
use Rattle.spec_locks.specs.declared.calls.Access.{Access}
use Rattle.spec_locks.specs.declared.calls.Access.TheVariants as access
use Rattle.spec_locks.specs.declared.calls.Patience.{Patience}
use Rattle.spec_locks.specs.declared.outcomes.Answer.TheVariants.{Ok}
use Rattle.steps_base.specs.declared.acts.Act.{Act}
use Rattle.steps_base.specs.declared.acts.Act.TheVariants as act
use Rattle.steps_base.specs.declared.acts.Next.{Next}
use Rattle.steps_base.specs.declared.acts.Next.TheVariants as next
use Rattle.steps_base.specs.declared.acts.Reply.TheVariants as reply
use Rattle.spec_locks.specs.Locks.{Rules, Leave, standing}
use Rattle.spec_locks.specs.Sites.{Claim, Has, Role, idle, found, Site, IsSite, End, Case, has_readers}
use Rattle.spec_locks.specs.Codes.{code, TellsTrue, has_parked}
use Rattle.spec_locks.proofs.CodeLaws.{words_tell_true}
use Rattle.steps_rwlock.specs.declared.places.Admission.{Admission}
use Rattle.steps_rwlock.specs.declared.places.RwLockPlace.{RwLockPlace}
use Rattle.steps_rwlock.specs.declared.purposes.RwLockPurpose.{RwLockPurpose}
use Rattle.steps_rwlock.specs.declared.purposes.RwLockPurpose.TheVariants as purpose
use Rattle.steps_rwlock.specs.RwLockSteps.{wanted, rwlock_act, rwlock_next}
use Rattle.steps_rwlock.specs.RwLockDeeds.{at_rest, does_and_wakes, role_next, Admits, Follows}
use Rattle.steps_rwlock.specs.RwLockCalls.{MayStand}
use Rattle.steps_rwlock.proofs.RwLockFit.{rwlock_steps_follow}
use Rattle.steps_rwlock.proofs.RwLockStands.{is_at}
use Rattle.steps_base.specs.Moves.{bit_left}
use Rattle.steps_rwlock_fair.specs.declared.places.RwLockCallPlace.{RwLockCallPlace}
use Rattle.steps_rwlock_fair.specs.declared.places.RwLockCallPlace.TheVariants.{Plain, PeekQueue, HandOver}
use Rattle.steps_rwlock_fair.specs.declared.places.RwLockCallPlace.TheVariants.{Bump}
use Rattle.steps_rwlock_fair.specs.declared.places.RwLockCallPlace.TheVariants.{Handed}
use Rattle.steps_rwlock_fair.specs.declared.hand_over.Taken.{Taken}
use Rattle.steps_rwlock_fair.specs.declared.hand_over.HandOverAt.{HandOverAt}
use Rattle.steps_rwlock_fair.specs.declared.hand_over.HandOverAt.TheVariants as handing
use Rattle.steps_rwlock_fair.specs.declared.handed.HandedAt.{HandedAt}
use Rattle.steps_rwlock_fair.specs.declared.handed.HandedAt.TheVariants as given
use Rattle.steps_rwlock_fair.specs.FairSteps.{any_taken, has_room, with_taken, parked_as, word_without}
use Rattle.steps_rwlock_fair.specs.FairSteps.{looked, released, bump_next, plain_next, enters_again}
use Rattle.steps_rwlock_fair.specs.FairSteps.{gives_way, gives_up_at, freed_next, hand_over_act, handed_act}
use Rattle.steps_rwlock_fair.specs.FairDeeds.{holding_role, hand_over_role, exchanged_deeds, freed_deeds}
use Rattle.steps_rwlock_fair.specs.FairDeeds.{glance_deeds, call_deeds, call_role, call_role_next}
use Rattle.steps_rwlock_fair.specs.FairCalls.{HandsOverAt}
use Rattle.steps_rwlock_fair.specs.FairLaws.{FairStepsFollow, FollowsInCall}

-- ---------------------------------------------------------------- a thread's act at the next place

pub plain_role : (n : Next RwLockPlace) → call_role_next (plain_next n) ≡ role_next n
plain_role (next.At p) = refl
plain_role (next.End answer) = refl

again_role : (x : Access) → call_role (enters_again x) ≡ idle
again_role access.Shared = refl
again_role access.Upgradable = refl
again_role access.Exclusive = refl

-- a thread that enters again has nothing yet
pub bump_role : (q : RwLockPurpose) (n : Next RwLockPlace) → call_role_next (bump_next q n) ≡ role_next n
bump_role q (next.At p) = refl
bump_role (purpose.Release x) (next.End answer) = again_role x
bump_role (purpose.Enter x how) (next.End answer) = refl
bump_role (purpose.Downgrade d) (next.End answer) = refl
bump_role (purpose.Upgrade how) (next.End answer) = refl

pub released_role : (x : Access) (b : Bool) → call_role_next (released x b) ≡ idle
released_role x true = again_role x
released_role x false = refl

looked_role : (x : Want) (seen : ℕ) → hand_over_role x (looked seen) ≡ at_rest None (Some (Has x))
looked_role x seen = either (has_parked seen)
  where
    either : (b : Bool) → hand_over_role x (if b then handing.Enter else handing.Free seen) ≡ at_rest None
        (Some (Has x))
    either true = refl
    either false = refl

freed_role : (x : Access) (y : Want) (seen : ℕ) → hand_over_role y (freed_next x seen) ≡ at_rest None
    (Some (Has y))
freed_role access.Upgradable y seen = looked_role y seen
freed_role access.Shared y seen = refl
freed_role access.Exclusive y seen = refl

gives_up_role : (x : Access) → call_role (gives_up_at x) ≡ at_rest None (Some (Has (wanted x)))
gives_up_role access.Shared = refl
gives_up_role access.Upgradable = refl
gives_up_role access.Exclusive = refl

-- only more than a shared right is handed over
pub hands : (x : Access) (to : HandOverAt) → HandsOverAt x to → (x ≡ access.Exclusive)
    ⊎ (x ≡ access.Upgradable)
hands access.Exclusive to fits = inl refl
hands access.Upgradable to fits = inr refl
hands access.Shared to fits = absurd fits

-- ---------------------------------------------------------------- deeds

module _ (r : Rules) (s : Site) (t : ℕ) (rw_sort : has_readers r.sort ≡ true) (h : IsSite r s)
    (tells : TellsTrue r s) where
  -- nothing happens
  rests : (d : Role) → s.role t ≡ d → Follows r s t [] d
  rests d is = record { needed = tt; role = is }

  -- a call ends outside of the sections
  ends : (c : Option Claim) → s.role t ≡ at_rest None c → Follows r s t (End ∷ []) idle
  ends c is = record { needed = grind (arith, nat_tests); role = grind (arith, nat_tests) }

  -- nobody waits, and the right is given up
  frees : (x : Want) (b : Bool) → (x ≡ Exclusive) ⊎ (x ≡ Upgradable) → s.role t ≡ at_rest None (Some (Has x))
      → s.parked ≡ false → Follows r s t (does_and_wakes b (Case (Leave x))) idle
  frees Exclusive true ex is e = let own = h.held t (Has Exclusive) (grind arith) in record {
    needed = grind (arith, nat_tests);
    role = grind (arith, nat_tests);
  }
  frees Exclusive false ex is e = let own = h.held t (Has Exclusive) (grind arith) in record {
    needed = grind (arith, nat_tests);
    role = grind (arith, nat_tests);
  }
  frees Upgradable true ex is e = let own = h.held t (Has Upgradable) (grind arith) in record {
    needed = grind (arith, nat_tests);
    role = grind (arith, nat_tests);
  }
  frees Upgradable false ex is e = let own = h.held t (Has Upgradable) (grind arith) in record {
    needed = grind (arith, nat_tests);
    role = grind (arith, nat_tests);
  }
  frees x b ex is e = absurd (grind arith)

  -- there is no room for those in hand: the right is given up inside the section, and they are to be woken
  leaves_them : (k : Taken) (none_left : Bool) → k.none_left ≡ none_left → s.role t ≡ record idle {
    inside = Some Main;
    has_taken = true;
    owes_taken = true;
    empty = found Main none_left;
    claims = Some (Has Upgradable);
  }
      → Follows r s t (Case (Leave Upgradable) ∷ bit_left none_left ∷ []) (record idle {
        inside = Some Main;
        has_taken = true;
        owes_taken = true;
      })
  leaves_them k true e is = let own = h.held t (Has Upgradable) (grind arith) in record {
    needed = grind (arith, nat_tests);
    role = grind (arith, nat_tests);
  }
  leaves_them k false e is = let own = h.held t (Has Upgradable) (grind arith) in record {
    needed = grind (arith, nat_tests);
    role = grind (arith, nat_tests);
  }

-- ---------------------------------------------------------------- every place

module _ (r : Rules) (a : Admission) (s : Site) (t l : ℕ) (op : Op) (admits : Admits r a) (h : IsSite r s)
  where
    tells : TellsTrue r s
    tells = words_tell_true r s admits.0 h

    abbrev v : ℕ
    v = code r s

    abbrev FollowsAt : RwLockCallPlace → Type 0
    FollowsAt c = FollowsInCall r a s t c None (reply.Value v)

    glances : (x : Access) → s.role t ≡ call_role (PeekQueue x) → FollowsAt (PeekQueue x)
    glances x is = either (gives_way a x v)
      where
        either : (b : Bool) → Follows r s t (glance_deeds b)
            (call_role_next (if b then next.At (gives_up_at x) else next.End Ok))
        either true = rests r s t admits.0 h tells _ (is ∙ sym (gives_up_role x))
        either false = ends r s t admits.0 h tells _ is

    module _ (x : Access) (b : Bool) where
      abbrev place : HandOverAt → RwLockCallPlace
      place to = HandOver x b to

      freed : (expected : ℕ) → HandsOverAt x (handing.Free expected) → has_parked expected ≡ false
          → s.role t ≡ at_rest None (Some (Has (wanted x))) → (won : Bool) → (v == expected) ≡ won
          → Follows r s t (freed_deeds (wanted x) b won) (call_role_next (if won then released x b
          else next.At (place (freed_next x v))))
      freed expected fits clear is true e =
          rw (released_role x b) (frees r s t admits.0 h tells (wanted x) b (right x (hands x _ fits)) is
          (sym tells.parked ∙ ap has_parked (eqb-true v expected e) ∙ clear))
        where
          right : (x : Access) → (x ≡ access.Exclusive) ⊎ (x ≡ access.Upgradable) → (wanted x ≡ Exclusive)
              ⊎ (wanted x ≡ Upgradable)
          right access.Exclusive e = inl refl
          right access.Upgradable e = inr refl
          right access.Shared e = absurd (elim e [ inl f ↦ cc | inr f ↦ cc ])
      freed expected fits clear is false e = rests r s t admits.0 h tells _ (is
          ∙ sym (freed_role x (wanted x) v))

    -- the act of the thread, where there is room and where there isn't
    abbrev exchange_as : Bool → Taken → ℕ → Act
    exchange_as room k seen =
        if room then act.HandOver l (operation.Exchange seen (with_taken access.Upgradable k seen))
        else act.Word l (operation.Exchange seen
        (parked_as k.none_left (word_without access.Upgradable seen)))

    exchanged : (b : Bool) (k : Taken) (expected : ℕ) → s.role t ≡ holding_role Upgradable k → (room : Bool)
        → has_room a.limit k expected ≡ room → (won : Bool) → (v == expected) ≡ won
        → exchange_as room k expected ≡ act.Word l op
        → Follows r s t (exchanged_deeds Upgradable k None won room)
        (call_role_next (if won then next.At
        (HandOver access.Upgradable b (handing.Leave (any_taken k) (has_room a.limit k v)))
        else next.At (HandOver access.Upgradable b (handing.Exchange k v))))
    exchanged b k expected is true er won ew e = absurd cc
    exchanged b k expected is false er false ew e = rests r s t admits.0 h tells _ is
    exchanged b k expected is false er true ew e =
        let same : has_room a.limit k v ≡ false = ap (has_room a.limit k) (eqb-true v expected ew) ∙ er in
        rw same (leaves_them r s t admits.0 h tells k k.none_left refl is)

    hand_over_follows : (x : Access) (b : Bool) (to : HandOverAt) → HandsOverAt x to → s.role t
        ≡ call_role (HandOver x b to) → hand_over_act l a x to ≡ act.Word l op → FollowsAt (HandOver x b to)
    hand_over_follows x b handing.Load fits is e = rests r s t admits.0 h tells _ (is
        ∙ sym (looked_role (wanted x) v))
    hand_over_follows access.Exclusive b (handing.Free expected) fits is e =
        freed access.Exclusive b expected fits (ap has_parked fits) is (v == expected) refl
    hand_over_follows access.Upgradable b (handing.Free expected) fits is e =
        freed access.Upgradable b expected fits fits is (v == expected) refl
    hand_over_follows access.Shared b (handing.Free expected) fits is e = absurd fits
    hand_over_follows x b (handing.Look k) fits is e = rests r s t admits.0 h tells _ is
    hand_over_follows access.Upgradable b (handing.Exchange k expected) fits is e =
        exchanged b k expected is (has_room a.limit k expected) refl (v == expected) refl e
    hand_over_follows access.Exclusive b (handing.Exchange k expected) fits is e = absurd fits
    hand_over_follows access.Shared b (handing.Exchange k expected) fits is e = absurd fits
    hand_over_follows x b to fits is e = absurd cc

    handed_follows : (x : Access) (how : Patience) (b : Bool) (to : HandedAt)
        → s.role t ≡ call_role (Handed x how b to) → handed_act l x to ≡ act.Word l op
        → FollowsAt (Handed x how b to)
    handed_follows x how b given.Accept is e = ends r s t admits.0 h tells _ is
    handed_follows x how b (given.Asleep by alone) is e = absurd cc

    -- a place of another call does as it does there
    within_calls : (p : RwLockPlace) → MayStand a p → standing t s.lock ≡ 0 → s.role t ≡ call_role (Plain p)
        → t < length s.lock.shared → rwlock_act l a p ≡ act.Word l op
        → Follows r s t (call_deeds a (Plain p) None (reply.Value v))
        (role_next (rwlock_next a p (reply.Value v)))
    within_calls p stands nowhere is there e = rwlock_steps_follow r a s t l p op
        (is_at r a s t p admits h is stands there) nowhere e

pub fair_steps_follow : FairStepsFollow
fair_steps_follow r a s t l (Plain p) op call nowhere e =
    rw (plain_role (rwlock_next a p (reply.Value (code r s)))) (within_calls r a s t l op call.admits
    call.site p call.stands nowhere call.role call.there e)
fair_steps_follow r a s t l (Bump p) op call nowhere e =
    rw (bump_role p.purpose (rwlock_next a p (reply.Value (code r s)))) (within_calls r a s t l op call.admits
    call.site p call.stands.0 nowhere call.role call.there e)
fair_steps_follow r a s t l (PeekQueue x) op call nowhere e = glances r a s t l op call.admits call.site x
    call.role
fair_steps_follow r a s t l (HandOver x b to) op call nowhere e = hand_over_follows r a s t l op call.admits
    call.site x b to call.stands call.role e
fair_steps_follow r a s t l (Handed x how b to) op call nowhere e = handed_follows r a s t l op call.admits
    call.site x how b to call.role e
