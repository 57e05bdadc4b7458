-- Each step of a reader-writer call into, in and out of a section does to the lock what its deeds say.
use Rattle.std.proofs.Common.{ℕ, Bool, true, false, Option, Some, None, [], ◌∷◌, if◌then◌else◌, ◌==◌, ◌&&◌}
use Rattle.std.proofs.Common.{◌≡◌, ◌≢◌, ◌≤◌, not, refl, ap, ◌∙◌, sym, arith}
use Rattle.std.proofs.lemmas.Bool.Decides.{nat_tests}
use Rattle.core_base.specs.declared.keys.Line.{Line}
use Rattle.core_base.specs.declared.keys.Line.TheVariants.{Main, Second}
use Rattle.core_base.specs.declared.wants.Want.{Want}
use Rattle.core_base.specs.declared.wants.Want.TheVariants.{Upgradable, Shared}
use Rattle.spec_locks.specs.declared.calls.Access.{Access}
use Rattle.spec_locks.specs.declared.calls.Access.TheVariants as access
use Rattle.spec_locks.specs.declared.calls.Downgrade.{Downgrade}
use Rattle.spec_locks.specs.declared.calls.Downgrade.TheVariants as downgrade
use Rattle.spec_locks.specs.declared.calls.Patience.{Patience}
use Rattle.spec_locks.specs.declared.calls.Patience.TheVariants.{Patient, Timed, Try}
use Rattle.spec_locks.specs.Locks.{Rules, Taken, Park, Aside, TakePicked, Late, Knows, HasTakenNobody}
use Rattle.spec_locks.specs.Locks.{is_recursive, standing, times, unpicked, without, putting}
use Rattle.spec_locks.specs.Sites.{Has, Pends, KeepsOwned, Role, idle, is_empty, Site, IsSite, End, In, Out}
use Rattle.spec_locks.specs.Sites.{Case, after_deed, has_readers, leaves, wakened, counts_some}
use Rattle.spec_locks.specs.Codes.{code, TellsTrue, has_parked, has_aside, count_in, is_blocked}
use Rattle.spec_locks.proofs.CodeLaws.{words_tell_true}
use Rattle.steps_base.specs.declared.acts.Reply.{Reply}
use Rattle.steps_base.specs.declared.acts.Reply.TheVariants as reply
use Rattle.steps_base.specs.Acts.{any_picked}
use Rattle.steps_base.specs.Moves.{IsSectionFree}
use Rattle.steps_rwlock.specs.declared.places.Admission.{Admission}
use Rattle.steps_rwlock.specs.declared.places.RwLockPlace.{RwLockPlace}
use Rattle.steps_rwlock.specs.declared.purposes.RwLockPurpose.{RwLockPurpose}
use Rattle.steps_rwlock.specs.declared.purposes.RwLockPurpose.TheVariants as purpose
use Rattle.steps_rwlock.specs.declared.places.RwLockAt.{RwLockAt}
use Rattle.steps_rwlock.specs.declared.places.RwLockAt.TheVariants as at
use Rattle.steps_rwlock.specs.declared.enter.Decision.TheVariants as decisions
use Rattle.spec_locks.specs.declared.outcomes.Answer.TheVariants.{No}
use Rattle.steps_rwlock.specs.declared.park.ParkAt.{ParkAt}
use Rattle.steps_rwlock.specs.declared.park.ParkAt.TheVariants as parking
use Rattle.steps_rwlock.specs.declared.release.WakeAt.{WakeAt}
use Rattle.steps_rwlock.specs.declared.release.WakeAt.TheVariants as waking
use Rattle.steps_rwlock.specs.RwLockSteps.{wanted, to_of, access_of, start_of, patience_of, park_next}
use Rattle.steps_rwlock.specs.RwLockSteps.{wake_next, took}
use Rattle.steps_rwlock.specs.RwLockDeeds.{MayKeep, kept_claim, retried_want, leaves_with, AtTry, AtPending}
use Rattle.steps_rwlock.specs.RwLockDeeds.{AtUpgrade, within, finding, pends, parking_role, waking_role}
use Rattle.steps_rwlock.specs.RwLockDeeds.{rwlock_role, role_next, IsFreshTry, AtFits, Admits, MayReply}
use Rattle.steps_rwlock.specs.RwLockDeeds.{MayHearParking, MayHearWaking, take_deed, park_deeds, wake_deeds}
use Rattle.steps_rwlock.specs.RwLockDeeds.{Follows, FollowsBy, RwLockSectionsFollow}
use Rattle.steps_rwlock.proofs.RwLockFit.{knows_all, retrying}
use Rattle.steps_base.proofs.Deeds.{put_same}

module _ (r : Rules) (s : Site) (t : ℕ) (rw_sort : has_readers r.sort ≡ true) (h : IsSite r s)
    (tells : TellsTrue r s) where
  -- into a section that is free
  goes_in : (m : Line) (d : Role) → IsSectionFree s m → s.role t ≡ d → d.empty ≡ None → d.inside ≡ None
      → Follows r s t (In m ∷ []) (record d { inside = Some m })
  goes_in m d free is found out = record {
    needed = ((free, ap (λ (x : Role). x.inside) is ∙ out, ap (λ (x : Role). x.empty) is ∙ found), tt);
    role = put_same s.role t _ ∙ ap (λ (x : Role). record x { inside = Some m }) is;
  }

  -- A thread goes out of a section.
  goes_out : (d : Role) → s.lock.taken t ≡ None → s.role t ≡ d → d.inside ≢ None → d.wakes ≡ None
      → d.bit_pending ≡ false → Follows r s t (Out ∷ []) (leaves d)
  goes_out d free is inside owes unset = record {
    needed = (
      (
        (λ e. inside (sym (ap (λ (x : Role). x.inside) is) ∙ e)),
        ap (λ (x : Role). x.wakes) is ∙ owes,
        ap (λ (x : Role). x.bit_pending) is ∙ unset,
      ),
      tt,
    );
    role = ap (λ (o : Option Taken). wakened t o (putting s.role t (leaves (s.role t)) t)) free
        ∙ put_same s.role t _ ∙ ap leaves is;
  }

  -- the thread stands after the last, where it found what it waits for
  parks : (x : Want) (again : Option Want)
      → (has_parked (code r s) && is_blocked (is_recursive r.sort) x (code r s)) ≡ true → s.role t
      ≡ within Main again None → standing t s.lock ≡ 0 → Knows r.sort x → Follows r s t (Case (Park x) ∷ [])
      (within Main None None)
  parks x again e is nowhere knows = record {
    needed = grind (arith, nat_tests, tells.blocked x knows, tells.parked);
    role = grind (arith, nat_tests);
  }

  parks_aside : (b : Bool) (again : Option Want) → (has_aside (code r s) && not (count_in (code r s) == 0))
      ≡ true → s.role t ≡ within Second again (Some (Pends b)) → standing t s.lock ≡ 0
      → Follows r s t (Case Aside ∷ []) (within Second None (Some (Pends b)))
  parks_aside b again e is nowhere = let own = h.held t (Pends b) (grind arith) in record {
    needed = grind (arith, nat_tests, tells.count, tells.aside, h.state.pending_alone);
    role = grind (arith, nat_tests);
  }

  -- the thread leaves the line
  gives_up : (b : Bool) → is_empty (without t s.lock.queue) ≡ b → s.role t ≡ within Main None None
      → 1 ≤ times t s.lock.queue → Follows r s t (Case Late ∷ []) (if b then finding Main None
      else within Main None None)
  gives_up true e is stands = record {
    needed = grind (arith, nat_tests, h.state.once t);
    role = grind (arith, nat_tests);
  }
  gives_up false e is stands = record {
    needed = grind (arith, nat_tests, h.state.once t);
    role = grind (arith, nat_tests);
  }

  gives_up_aside : (b : Bool) → s.role t ≡ within Second None (Some (Pends b)) → s.lock.aside ≡ Some t
      → Follows r s t (Case Late ∷ []) (finding Second (Some (Pends b)))
  gives_up_aside b is stands = record { needed = grind (arith, nat_tests); role = grind (arith, nat_tests) }

  -- the thread takes the threads that it is to wake
  nobody_taken : (s.role t).has_taken ≡ false → HasTakenNobody s.lock t
  nobody_taken none u x e = let g = h.carried u _ e in cc

  -- the thread has the right that it keeps
  keeps : (start : Option Want) → MayKeep start → (s.role t).claims ≡ kept_claim start
      → KeepsOwned s.lock t start
  keeps None may e = tt
  keeps (Some Shared) may e = tt
  keeps (Some Upgradable) may e = h.held t (Has Upgradable) e
  keeps (Some x) may e = absurd may

  takes_picked : (start : Option Want) (any b : Bool) → MayKeep start
      → is_empty (unpicked r.sort start s.lock.queue) ≡ b → s.role t ≡ waking_role start Main waking.Take
      → Knows r.sort Upgradable
      → Follows r s t (Case (TakePicked start) ∷ []) (waking_role start Main (if b then waking.Clear any
      else waking.Leave any))
  takes_picked start any b may e is knows = by_rest (nobody_taken (grind arith))
      (keeps start may (ap (λ (d : Role). d.claims) is)) b e
    where
      by_rest : HasTakenNobody s.lock t → KeepsOwned s.lock t start → (b : Bool)
          → is_empty (unpicked r.sort start s.lock.queue) ≡ b → Follows r s t (Case (TakePicked start) ∷ [])
          (waking_role start Main (if b then waking.Clear any else waking.Leave any))
      by_rest free own true e = record { needed = grind (arith, nat_tests); role = grind (arith, nat_tests) }
      by_rest free own false e = record { needed = grind (arith, nat_tests); role = grind (arith, nat_tests) }

  takes_aside : (any : Bool) (whom : Option ℕ) → whom ≡ s.lock.aside → s.role t ≡ waking_role None Second
      waking.Take → Follows r s t (take_deed None Second whom ∷ []) (waking_role None Second
      (waking.Clear any))
  takes_aside any None e is = record { needed = grind (arith, nat_tests); role = grind (arith, nat_tests) }
  takes_aside any (Some u) e is = let free = nobody_taken (grind arith) in record {
    needed = grind (arith, nat_tests);
    role = grind (arith, nat_tests);
  }

  -- out of the section, and out of the call, where it kept a right
  goes_home : (d : Role) → s.lock.taken t ≡ None → s.role t ≡ d → d.inside ≢ None → d.wakes ≡ None
      → d.bit_pending ≡ false → d.retries ≡ None → Follows r s t (Out ∷ End ∷ []) idle
  goes_home d free is inside owes unset again =
      let out = goes_out d free is inside owes unset in
      record {
        needed = (
          out.needed.0,
          (
            rw out.role (
              refl,
              owes,
              refl,
              λ c. absurd (let g : counts_some r.sort None ≡ true = rw again at c in cc),
            ),
            tt,
          ),
        );
        role = put_same (after_deed r Out s t).role t idle;
      }

-- ---------------------------------------------------------------- all places

module _ (r : Rules) (a : Admission) (s : Site) (t : ℕ) (admits : Admits r a) (h : IsSite r s) where
  tells : TellsTrue r s
  tells = words_tell_true r s admits.0 h

  takes_main : (start : Option Want) → MayKeep start → (any none_left : Bool)
      → none_left ≡ is_empty (unpicked r.sort start s.lock.queue) → s.role t ≡ waking_role start Main
      waking.Take
      → Follows r s t (Case (TakePicked start) ∷ []) (waking_role start Main (took Main any none_left))
  takes_main start may any true e is = takes_picked r s t admits.0 h tells start any true may (sym e) is
      (knows_all r admits.0 access.Upgradable)
  takes_main start may any false e is = takes_picked r s t admits.0 h tells start any false may (sym e) is
      (knows_all r admits.0 access.Upgradable)

  -- a thread that keeps nothing, or a right of its own, and wakes those of the main queue
  leaves_fit : (start : Option Want) → MayKeep start → (m : Line) (any : Bool) → s.lock.taken t ≡ None
      → s.role t ≡ waking_role start m (waking.Leave any) → Follows r s t (leaves_with start) idle
  leaves_fit None may m any free is = goes_out r s t admits.0 h tells _ free is (λ e. cc) refl refl
  leaves_fit (Some x) may m any free is = goes_home r s t admits.0 h tells _ free is (λ e. cc) refl refl refl

  wakes_fit : (p : RwLockPlace) (start : Option Want) → MayKeep start → start_of p.purpose ≡ start
      → (m : Line) → (m ≡ Second → start ≡ None) → (to : WakeAt) (whom : Option ℕ) (told : Reply)
      → MayHearWaking r s t start m to whom told → s.role t ≡ waking_role start m to
      → Follows r s t (wake_deeds start m to whom told) (role_next (wake_next p m to told))
  wakes_fit p start keep se m second waking.Enter whom reply.Done may is =
      rw se (goes_in r s t admits.0 h tells m _ may is refl refl)
  wakes_fit p start keep se Main second waking.Take whom (reply.Took any none_left) may is =
      rw se (takes_main start keep any none_left may is)
  wakes_fit p start keep se Main second waking.Take whom (reply.Picked n x none_left) may is =
      rw se (takes_main start keep (any_picked n x) none_left may is)
  wakes_fit p None keep se Second second waking.Take whom (reply.Took any none_left) may is =
      rw se (takes_aside r s t admits.0 h tells any whom may is)
  wakes_fit p None keep se Second second waking.Take whom (reply.Picked n x none_left) may is =
      rw se (takes_aside r s t admits.0 h tells (any_picked n x) whom may is)
  wakes_fit p (Some y) keep se Second second to whom told may is = absurd (let g = second refl in cc)
  wakes_fit p start keep se m second (waking.Leave any) whom reply.Done may is =
      leaves_fit start keep m any may is
  wakes_fit p start keep se m second to whom told may is = absurd may

  -- a pending writer goes aside; it is one that enters or that upgrades
  module _ (q : RwLockPurpose) (b : Bool) (again : Bool) (pe : pends q ≡ Some (Pends b)) where
    abbrev pending : RwLockAt → RwLockPlace
    pending to = record { purpose = q; retries = again; at = to }

    abbrev waits : Option Want
    waits = retried_want (pending at.Look)

    aside_fit : (to : ParkAt) (told : Reply) → MayHearParking r s t Second
        (has_aside (code r s) && not (count_in (code r s) == 0)) to told → s.role t ≡ parking_role Second
        waits (Some (Pends b)) to
        → Follows r s t (park_deeds (Case Aside) Second to told)
        (role_next (park_next (pending (at.Aside to)) Second to told))
    aside_fit parking.Check (reply.Parked true) may is =
        rw pe (parks_aside r s t admits.0 h tells b waits (sym may.0) is may.1)
    aside_fit parking.Check (reply.Parked false) may is = record {
      needed = tt;
      role = rw pe (is ∙ ap (λ (c : Bool). within Second (if c then Some (wanted (access_of q)) else None)
          (Some (Pends b))) (same again));
    }
      where
        same : (c : Bool) → c ≡ (c && true)
        same true = refl
        same false = refl
    aside_fit (parking.Leave true) reply.Done may is =
        rw pe (goes_out r s t admits.0 h tells _ may is (λ e. cc) refl refl)
    aside_fit (parking.Leave false) reply.Done may is =
        rw pe (goes_out r s t admits.0 h tells _ may is (λ e. cc) refl refl)
    aside_fit parking.Asleep reply.Late may is =
        rw pe (goes_in r s t admits.0 h tells Second _ may is refl refl)
    aside_fit parking.Remove (reply.Removed none_left) may is =
        rw pe (gives_up_aside r s t admits.0 h tells b is may)
    aside_fit parking.GiveUp reply.Done may is =
        rw pe (goes_out r s t admits.0 h tells _ may is (λ e. cc) refl refl)
    aside_fit to told may is = absurd may

  module _ (x : Access) (how : Patience) (again : Bool) (fresh : IsFreshTry how again) where
    abbrev place : RwLockAt → RwLockPlace
    place to = record { purpose = purpose.Enter x how; retries = again; at = to }

    abbrev wants : Option Want
    wants = retrying again (wanted x)

    parks_fit : (to : ParkAt) (told : Reply)
        → MayHearParking r s t Main (has_parked (code r s) && is_blocked a.recursive (wanted x) (code r s)) to
        told → s.role t ≡ parking_role Main wants None to
        → Follows r s t (park_deeds (Case (Park (wanted x))) Main to told)
        (role_next (park_next (place (at.Park to)) Main to told))
    parks_fit parking.Check (reply.Parked true) may is = parks r s t admits.0 h tells (wanted x) wants
        (rw admits.1 (sym may.0)) is may.1 (knows_all r admits.0 x)
    parks_fit parking.Check (reply.Parked false) may is = record { needed = tt; role = is ∙ grind arith }
    parks_fit (parking.Leave true) reply.Done may is = goes_out r s t admits.0 h tells _ may is (λ e. cc) refl
        refl
    parks_fit (parking.Leave false) reply.Done may is = goes_out r s t admits.0 h tells _ may is (λ e. cc)
        refl refl
    parks_fit parking.Asleep reply.Late may is = goes_in r s t admits.0 h tells Main _ may is refl refl
    parks_fit parking.Remove (reply.Removed true) may is = gives_up r s t admits.0 h tells true (sym may.1) is
        may.0
    parks_fit parking.Remove (reply.Removed false) may is = gives_up r s t admits.0 h tells false (sym may.1)
        is may.0
    parks_fit parking.GiveUp reply.Done may is = goes_out r s t admits.0 h tells _ may is (λ e. cc) refl refl
    parks_fit to told may is = absurd may

    enters_fit : (to : RwLockAt) (whom : Option ℕ) (told : Reply) → MayReply r a s t (place to) to whom told
        → s.role t ≡ rwlock_role (place to) → FollowsBy r a s t (place to) whom told
    enters_fit (at.Decide seen) whom reply.Done may is = goes_in r s t admits.0 h tells Main _ may.1 is refl
        refl
    enters_fit (at.Count seen) whom reply.Done may is = goes_in r s t admits.0 h tells Second _ may is refl
        refl
    enters_fit at.Marked whom reply.Done may is = goes_in r s t admits.0 h tells Second _ may is refl refl
    enters_fit (at.Park to) whom told may is = parks_fit to told may is
    enters_fit (at.Aside to) whom told may is = aside_fit (purpose.Enter x how) false again refl to told may
        is
    enters_fit (at.Wake m to) whom told may is = wakes_fit (place (at.Wake m to)) None tt refl m (λ e. refl)
        to whom told may is
    enters_fit to whom told may is = absurd may

  abbrev of : RwLockPurpose → Bool → RwLockAt → RwLockPlace
  of q again to = record { purpose = q; retries = again; at = to }

  releases_fit : (x : Access) (again : Bool) (to : RwLockAt) (whom : Option ℕ) (told : Reply)
      → AtFits (purpose.Release x) to → MayReply r a s t (of (purpose.Release x) again to) to whom told
      → s.role t ≡ rwlock_role (of (purpose.Release x) again to)
      → FollowsBy r a s t (of (purpose.Release x) again to) whom told
  releases_fit x again (at.Wake m to) whom told fits may is =
      wakes_fit (of (purpose.Release x) again (at.Wake m to)) None tt refl m (λ e. refl) to whom told may is
  releases_fit x again at.GiveWay whom told fits may is = absurd may
  releases_fit x again to whom told fits may is = absurd fits

  may_keep : (d : Downgrade) → MayKeep (Some (wanted (to_of d)))
  may_keep downgrade.ToShared = tt
  may_keep downgrade.ToUpgradable = tt
  may_keep downgrade.UpgradableToShared = tt

  downgrades_fit : (d : Downgrade) (again : Bool) (to : RwLockAt) (whom : Option ℕ) (told : Reply)
      → AtFits (purpose.Downgrade d) to → MayReply r a s t (of (purpose.Downgrade d) again to) to whom told
      → s.role t ≡ rwlock_role (of (purpose.Downgrade d) again to)
      → FollowsBy r a s t (of (purpose.Downgrade d) again to) whom told
  downgrades_fit d again (at.Wake Main to) whom told fits may is =
      wakes_fit (of (purpose.Downgrade d) again (at.Wake Main to)) (Some (wanted (to_of d))) (may_keep d) refl
      Main (λ e. absurd cc) to whom told may is
  downgrades_fit d again at.GiveWay whom told fits may is = absurd may
  downgrades_fit d again to whom told fits may is = absurd fits

  pending_fit : (how : Patience) (again : Bool) → IsFreshTry how again → (to : RwLockAt) (whom : Option ℕ)
      (told : Reply) → AtPending to → MayReply r a s t (of (purpose.Upgrade how) again to) to whom told
      → s.role t ≡ rwlock_role (of (purpose.Upgrade how) again to)
      → FollowsBy r a s t (of (purpose.Upgrade how) again to) whom told
  pending_fit how again fresh (at.Count seen) whom reply.Done fits may is =
      goes_in r s t admits.0 h tells Second _ may is refl refl
  pending_fit how again fresh at.Marked whom reply.Done fits may is = goes_in r s t admits.0 h tells Second _
      may is refl refl
  pending_fit how again fresh (at.Aside to) whom told fits may is = aside_fit (purpose.Upgrade how) true again
      refl to told may is
  pending_fit how again fresh (at.Wake Main to) whom told fits may is =
      wakes_fit (of (purpose.Upgrade how) again (at.Wake Main to)) (Some Upgradable) tt refl Main
      (λ e. absurd cc) to whom told may is
  pending_fit how again fresh at.GiveWay whom told fits may is = absurd may
  pending_fit how again fresh at.Look whom told fits may is = absurd may
  pending_fit how again fresh at.RollBack whom told fits may is = absurd may
  pending_fit how again fresh (at.Count seen) whom told fits may is = absurd may
  pending_fit how again fresh at.Marked whom told fits may is = absurd may
  pending_fit how again fresh to whom told fits may is = absurd fits

  -- a try enters no section
  takes_or_refuses : (b : Bool) → (if b then decisions.Take else decisions.Refuse No) ≡ decisions.Park → ⊥
  takes_or_refuses true e = cc
  takes_or_refuses false e = cc

  try_fit : (again : Bool) (to : RwLockAt) (whom : Option ℕ) (told : Reply) → AtTry to
      → MayReply r a s t (of (purpose.Upgrade Try) again to) to whom told
      → FollowsBy r a s t (of (purpose.Upgrade Try) again to) whom told
  try_fit again (at.Decide seen) whom reply.Done fits may =
      absurd (takes_or_refuses (count_in seen == 1) may.0)
  try_fit again (at.Decide seen) whom told fits may = absurd may
  try_fit again at.Load whom told fits may = absurd may
  try_fit again to whom told fits may = absurd fits

pub rwlock_sections_follow : RwLockSectionsFollow
rwlock_sections_follow r a s t p whom told at may = by_purpose p.purpose p.retries p.at at.fresh at.place
    at.role may
  where
    by_patience : (how : Patience) (again : Bool) (to : RwLockAt) → IsFreshTry how again → AtUpgrade how to
        → s.role t ≡ rwlock_role (record {
          purpose = purpose.Upgrade how;
          retries = again;
          at = to;
        })
        → MayReply r a s t (record {
          purpose = purpose.Upgrade how;
          retries = again;
          at = to;
        }) to whom told → FollowsBy r a s t (record {
          purpose = purpose.Upgrade how;
          retries = again;
          at = to;
        }) whom told
    by_patience Try again to fresh fits is f = try_fit r a s t at.admits at.site again to whom told fits f
    by_patience Patient again to fresh fits is f = pending_fit r a s t at.admits at.site Patient again fresh
        to whom told fits f is
    by_patience Timed again to fresh fits is f = pending_fit r a s t at.admits at.site Timed again fresh to
        whom told fits f is

    by_purpose : (q : RwLockPurpose) (again : Bool) (to : RwLockAt) → IsFreshTry (patience_of q) again
        → AtFits q to → s.role t ≡ rwlock_role (record {
          purpose = q;
          retries = again;
          at = to;
        })
        → MayReply r a s t (record {
          purpose = q;
          retries = again;
          at = to;
        }) to whom told → FollowsBy r a s t (record { purpose = q; retries = again; at = to }) whom told
    by_purpose (purpose.Enter x how) again to fresh fits is f = enters_fit r a s t at.admits at.site x how
        again fresh to whom told f is
    by_purpose (purpose.Release x) again to fresh fits is f = releases_fit r a s t at.admits at.site x again
        to whom told fits f is
    by_purpose (purpose.Downgrade d) again to fresh fits is f = downgrades_fit r a s t at.admits at.site d
        again to whom told fits f is
    by_purpose (purpose.Upgrade how) again to fresh fits is f = by_patience how again to fresh fits is f
