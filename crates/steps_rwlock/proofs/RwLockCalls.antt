-- Each step on the word of a reader-writer lock makes of its call what its row says, and its answer is true.
use Rattle.std.proofs.Common.{ℕ, Bool, true, false, Option, Some, None, List, [], ◌∷◌, if◌then◌else◌, ◌==◌}
use Rattle.std.proofs.Common.{◌&&◌, not, ◌≡◌, ◌≢◌, ◌⊎◌, ◌≤◌, ◌<◌, ◌+◌, inl, inr, refl, sym, ap, ◌∙◌, subst}
use Rattle.std.proofs.Common.{arith, length, nat_le, get_or-set_same}
use Rattle.std.specs.Prelude.{slice_index}
use Rattle.std.proofs.lemmas.Bool.{eqb-true}
use Rattle.std.proofs.lemmas.Bool.Decides.{nat_tests}
use Rattle.core_base.specs.declared.keys.Line.{Line}
use Rattle.core_base.specs.declared.keys.Line.TheVariants.{Main, Second}
use Rattle.core_base.specs.declared.ops.Op.{Op}
use Rattle.core_base.specs.declared.wants.Want.TheVariants.{Exclusive, Upgradable, Shared}
use Rattle.spec_locks.specs.declared.calls.Access.{Access}
use Rattle.spec_locks.specs.declared.calls.Access.TheVariants as access
use Rattle.spec_locks.specs.declared.calls.Downgrade.{Downgrade}
use Rattle.spec_locks.specs.declared.calls.Downgrade.TheVariants as downgrade
use Rattle.spec_locks.specs.declared.calls.Patience.{Patience}
use Rattle.spec_locks.specs.declared.calls.Patience.TheVariants.{Patient, Timed, Try}
use Rattle.spec_locks.specs.declared.outcomes.Answer.{Answer}
use Rattle.spec_locks.specs.declared.outcomes.Answer.TheVariants.{No, Yes, ReadersFull}
use Rattle.steps_base.specs.declared.acts.Act.TheVariants as act
use Rattle.steps_base.specs.declared.acts.Next.{Next}
use Rattle.steps_base.specs.declared.acts.Next.TheVariants as next
use Rattle.steps_base.specs.declared.acts.Reply.TheVariants as reply
use Rattle.steps_base.specs.Calls.{call_by, rights_where, CallFollows}
use Rattle.steps_rwlock.specs.declared.places.Admission.{Admission}
use Rattle.steps_rwlock.specs.declared.places.RwLockPlace.{RwLockPlace}
use Rattle.steps_rwlock.specs.declared.purposes.RwLockPurpose.{RwLockPurpose}
use Rattle.steps_rwlock.specs.declared.purposes.RwLockPurpose.TheVariants as purpose
use Rattle.steps_rwlock.specs.declared.places.RwLockAt.{RwLockAt}
use Rattle.steps_rwlock.specs.declared.places.RwLockAt.TheVariants as at
use Rattle.steps_rwlock.specs.declared.enter.Decision.{Decision}
use Rattle.steps_rwlock.specs.declared.enter.Decision.TheVariants as decisions
use Rattle.steps_rwlock.specs.declared.park.ParkAt.TheVariants as parking
use Rattle.steps_rwlock.specs.declared.release.WakeAt.TheVariants as waking
use Rattle.steps_rwlock.specs.RwLockSteps.{patience_of, rwlock_act, rwlock_next, wanted, from_of, to_of}
use Rattle.steps_rwlock.specs.RwLockSteps.{entered, is_counted, park_or_mark, decision_blocked, decision}
use Rattle.steps_rwlock.specs.RwLockSteps.{decided, missed, looked_by, looked, came_in, exchanged_next}
use Rattle.steps_rwlock.specs.RwLockSteps.{after_count, stays, goes as goes_to, plus, wakes, wakes_or_ends}
use Rattle.steps_rwlock.specs.RwLockDeeds.{rwlock_deeds, AtPending, AtTry, AtUpgrade, AtFits, Admits}
use Rattle.steps_rwlock.specs.RwLockDeeds.{IsFreshTry, missed_deeds, looked_deeds, enters_deeds}
use Rattle.steps_rwlock.specs.RwLockDeeds.{exchanged_deeds, counted_deeds, does_and_wakes, rwlock_role}
use Rattle.steps_rwlock.specs.RwLockProfiles.{rwlock_profile, before}
use Rattle.steps_rwlock.specs.RwLockCalls.{WaitsIfBlocked, HasDeadline, EntersAt, WritesAt, SharesAt}
use Rattle.steps_rwlock.specs.RwLockCalls.{ReleasesAt, DowngradesAt, UpgradesAt, StandsAt, RwLockStepsTell}
use Rattle.steps_rwlock.specs.RwLockCalls.{next_row, CallFollowsBy}
use Rattle.steps_rwlock.proofs.RwLockFit.{knows_all, may_enter}
use Rattle.steps_rwlock.proofs.RwLockCallRights.{recalls, goes, keeps, loses, replaces, enters, raises}
use Rattle.spec_locks.specs.Locks.{LockState, Pending, Mutex, Rules, Rights, LockCase, after_case}
use Rattle.spec_locks.specs.Locks.{falling_back, Enter, Settle, Leave, Convert, Rollback, Owns, MayConvert}
use Rattle.spec_locks.specs.Locks.{NoWriter, IsFree, is_recursive, count, readers, standing, rights_of}
use Rattle.spec_locks.specs.Locks.{with_right, without_right, with_owner, without_owner, pending_for}
use Rattle.spec_locks.specs.Codes.{code, TellsTrue, count_in, has_parked, has_aside, is_blocked}
use Rattle.spec_locks.specs.Runs.{LocksState, CallState, AtLock, going_on, EntersAnswer, ConvertsAnswer}
use Rattle.spec_locks.specs.Runs.{MayRefuse, IsFull, rights_in, rules_at as locks_rules}
use Rattle.spec_locks.specs.Sites.{Role, has_readers, Site, IsSite, Deed, Case, End, Mark, Clear, Has, Pends}
use Rattle.spec_locks.proofs.CodeLaws.{words_tell_true}
use Rattle.spec_locks.proofs.Rights.{less_pending, entered_alone, entered_upgradable, entered_shared, pended}
use Rattle.spec_locks.proofs.Rights.{settled, left, lowered, replaced, raised, raising, fell, rolled}

module _ (r : Rules) (a : Admission) (s : Site) (t l : ℕ) (op : Op) (admits : Admits r a) (h : IsSite r s)
    (nowhere : standing t s.lock ≡ 0) (there : t < length s.lock.shared) where
  tells : TellsTrue r s
  tells = words_tell_true r s admits.0 h

  abbrev v : ℕ
  v = code r s

  abbrev of : RwLockPurpose → Bool → RwLockAt → RwLockPlace
  of q again to = record { purpose = q; retries = again; at = to }

  -- a step from a place, with these deeds, to there
  abbrev Tells : RwLockPlace → List Deed → Next RwLockPlace → Type 0
  Tells p ds n = CallFollows r s.lock t l (rwlock_profile a p) ds (next_row a n)

  -- tells what the case of a step makes of the call there
  abbrev by_case : LockCase → RwLockPlace → (ℕ → Rights) → CallState
  by_case case p rights = going_on (AtLock l case) (call_by l (rwlock_profile a p) rights)

  -- ---------------------------------------------------------------- calls that enter

  module _ (x : Access) (how : Patience) (again : Bool) (fresh : IsFreshTry how again) where
    abbrev place : RwLockAt → RwLockPlace
    place to = of (purpose.Enter x how) again to

    -- looking at a word
    abbrev IsLooking : RwLockAt → Type 0
    IsLooking at.Load = Unit {0}
    IsLooking (at.Decide seen) = Unit {0}
    IsLooking to = ⊥

    looks_on : (to : RwLockAt) → IsLooking to → (seen : ℕ)
        → Tells (place to) [] (next.At (place (at.Decide seen)))
    looks_on at.Load is seen = record {
      one = tt;
      may = tt;
      comes = λ rights e. recalls _ _ (goes l t s.lock s.lock (purpose.Enter x how) at.Load (at.Decide seen)
          rights e refl);
    }
    looks_on (at.Decide was) is seen = record {
      one = tt;
      may = tt;
      comes = λ rights e. recalls _ _ (goes l t s.lock s.lock (purpose.Enter x how) (at.Decide was)
          (at.Decide seen) rights e refl);
    }
    looks_on to is seen = absurd is

    -- a try is refused where it is blocked
    blocks : (y : Access) → is_blocked a.recursive (wanted y) v ≡ true → is_blocked (is_recursive r.sort)
        (wanted y) v ≡ true
    blocks y e = subst (λ b. is_blocked b (wanted y) v ≡ true) (sym admits.1) e

    may_refuse : (y : Access) → EntersAt y Try at.Load → is_blocked a.recursive (wanted y) v ≡ true
        → MayRefuse r s.lock (wanted y)
    may_refuse access.Shared fits e = tells.blocked Shared (knows_all r admits.0 access.Shared)
        (blocks access.Shared e)
    may_refuse access.Upgradable fits e = tells.blocked Upgradable (knows_all r admits.0 access.Upgradable)
        (blocks access.Upgradable e)
    may_refuse access.Exclusive fits e = absurd fits

    -- the call ends as it looks, and the thread owns what it owned
    abbrev Kept : LocksState → (ℕ → Rights) → RwLockAt → Type 0
    Kept w rights to = (k : ℕ) → rights_in w t k ≡ before (purpose.Enter x how) to l rights k

    ends_looking : (to : RwLockAt) → IsLooking to → (ans : Answer)
        → ((w : LocksState) (c : CallState) → locks_rules w l ≡ r → w.locks l ≡ s.lock
        → ((k : ℕ) → rights_in w t k ≡ c.former k) → EntersAnswer w t c l (wanted x) how ans)
        → Tells (place to) (End ∷ []) (next.End ans)
    ends_looking at.Load is ans true_then = record {
      one = tt;
      may = tt;
      comes = λ w rights ruled now e has. true_then w (call_by l (rwlock_profile a (place at.Load)) rights)
          ruled now (keeps l t s.lock s.lock (purpose.Enter x how) at.Load r w rights ruled now e has refl);
    }
    ends_looking (at.Decide was) is ans true_then = record {
      one = tt;
      may = tt;
      comes = λ w rights ruled now e has. true_then w (call_by l (rwlock_profile a (place (at.Decide was)))
          rights) ruled now (keeps l t s.lock s.lock (purpose.Enter x how) (at.Decide was) r w rights ruled
          now e has refl);
    }
    ends_looking to is ans true_then = absurd is

    refused : (w : LocksState) (c : CallState) → how ≡ Try → MayRefuse r s.lock (wanted x) → locks_rules w l
        ≡ r → w.locks l ≡ s.lock → ((k : ℕ) → rights_in w t k ≡ c.former k)
        → EntersAnswer w t c l (wanted x) how No
    refused w c try why ruled now has = subst (λ y. EntersAnswer w t c l (wanted x) y No) (sym try) (
      subst (λ z. MayRefuse z (w.locks l) (wanted x)) (sym ruled) (subst (λ z. MayRefuse r z (wanted x))
          (sym now) why),
      has,
    )

    -- A try is blocked where the lock is full.
    full : (w : LocksState) (c : CallState) → (is_counted (wanted x) && nat_le a.limit (count_in v)) ≡ true
        → is_blocked a.recursive (wanted x) v ≡ false → locks_rules w l ≡ r → w.locks l ≡ s.lock
        → ((k : ℕ) → rights_in w t k ≡ c.former k)
        → (y : Patience) → EntersAnswer w t c l (wanted x) y ReadersFull
    full w c e free ruled now has = by_patience
      where
        is_full : IsFull w l (wanted x)
        is_full = rw (ruled, now) (
          more x e,
          tells.free (wanted x) (knows_all r admits.0 x)
              (subst (λ b. is_blocked b (wanted x) v ≡ false) (sym admits.1) free),
          limit,
        )
          where
            more : (y : Access) → (is_counted (wanted y) && nat_le a.limit (count_in v)) ≡ true
                → wanted y ≢ Exclusive
            more access.Shared e f = cc
            more access.Upgradable e f = cc
            more access.Exclusive e f = cc

            limit : r.limit ≤ count s.lock
            limit = let n = tells.count in let m = admits.2 in grind (arith, nat_tests)

        by_patience : (y : Patience) → EntersAnswer w t c l (wanted x) y ReadersFull
        by_patience Patient = (is_full, has)
        by_patience Timed = (is_full, has)
        by_patience Try = (is_full, has)

    waits_tell : (to : RwLockAt) → IsLooking to → (b : Bool)
        → Tells (place to) (looked_deeds (park_or_mark b)) (looked_by (place to) v (park_or_mark b))
    waits_tell to is true = looks_on to is v
    waits_tell to is false = looks_on to is v

    blocked_tells : (to : RwLockAt) → IsLooking to → (y : Patience) → how ≡ y → EntersAt x y at.Load
        → is_blocked a.recursive (wanted x) v ≡ true → Tells (place to) (looked_deeds (decision_blocked y v))
        (looked_by (place to) v (decision_blocked y v))
    blocked_tells to is Try try fits e = ends_looking to is No (λ w c. refused w c try (may_refuse x fits e))
    blocked_tells to is Patient how fits e = waits_tell to is (has_parked v)
    blocked_tells to is Timed how fits e = waits_tell to is (has_parked v)

    looks_by : (to : RwLockAt) → IsLooking to → EntersAt x how at.Load → (b c : Bool)
        → is_blocked a.recursive (wanted x) v ≡ b → (is_counted (wanted x) && nat_le a.limit (count_in v)) ≡ c
        → Tells (place to) (looked_deeds (if b then decision_blocked how v else if c then decisions.Refuse
        ReadersFull else decisions.Take)) (looked_by (place to) v (if b then decision_blocked how v
        else if c then decisions.Refuse ReadersFull else decisions.Take))
    looks_by to is fits true c eb ec = blocked_tells to is how refl fits eb
    looks_by to is fits false true eb ec =
        ends_looking to is ReadersFull (λ w c ruled now has. full w c ec eb ruled now has how)
    looks_by to is fits false false eb ec = looks_on to is v

    pub looks : (to : RwLockAt) → IsLooking to → EntersAt x how at.Load
        → Tells (place to) (looked_deeds (decided a (place to) v)) (looked a (place to) v)
    looks to is fits = looks_by to is fits (is_blocked a.recursive (wanted x) v)
        (is_counted (wanted x) && nat_le a.limit (count_in v)) refl refl

    -- ---------------------------------------------------------------- the thread comes in

    abbrev Comes : RwLockAt → Access → Type 0
    Comes to y = Tells (of (purpose.Enter y how) again to) (enters_deeds (wanted y))
        (came_in (of (purpose.Enter y how) again to))

    can_wait : (y : Patience) → WaitsIfBlocked y → y ≢ Try
    can_wait Try may e = may
    can_wait Patient may e = cc
    can_wait Timed may e = cc

    -- no other right to write is there where a writer, or one that may be, comes in
    unwritten : (y : Access) → y ≢ access.Shared → IsFree r s.lock (wanted y) → NoWriter s.lock
    unwritten access.Shared more free = absurd (more refl)
    unwritten access.Upgradable more free = let rw_sort = admits.0 in grind arith
    unwritten access.Exclusive more free = let rw_sort = admits.0 in grind arith

    came : (y : Access) (was : ℕ) → EntersAt y how at.Load → IsFree r s.lock (wanted y)
        → Comes (at.Decide was) y
    came access.Exclusive was fits free = record {
      one = tt;
      may = ((refl, (refl, can_wait how fits)), tt);
      comes = λ rights e. recalls _ _ (goes l t s.lock (pending_for t false s.lock)
          (purpose.Enter access.Exclusive how) (at.Decide was) at.Look rights e
          (pended s.lock t false (unwritten access.Exclusive (λ f. cc) free).1));
    }
    came access.Upgradable was fits free = record {
      one = tt;
      may = ((refl, refl), tt);
      comes = λ w rights ruled now e has. enters l t s.lock (with_owner t Upgradable s.lock)
          (purpose.Enter access.Upgradable how) (at.Decide was) r w rights ruled now e has
          (by_case (Enter Upgradable) (of (purpose.Enter access.Upgradable how) again (at.Decide was)) rights)
          refl Upgradable how refl (entered_upgradable s.lock t (unwritten access.Upgradable (λ f. cc)
          free).2);
    }
    came access.Shared was fits free = record {
      one = tt;
      may = ((refl, refl), tt);
      comes = λ w rights ruled now e has. enters l t s.lock (with_owner t Shared s.lock)
          (purpose.Enter access.Shared how) (at.Decide was) r w rights ruled now e has
          (by_case (Enter Shared) (of (purpose.Enter access.Shared how) again (at.Decide was)) rights) refl
          Shared how shares (entered_shared s.lock t there);
    }
      where
        shares : Owns (with_owner t Shared s.lock) t Shared
        shares = rw (get_or-set_same s.lock.shared t (slice_index s.lock.shared t + 1) 0 there) (omega arith)

    takes : (was : ℕ) → EntersAt x how at.Load → decision a (wanted x) how was ≡ decisions.Take → (b : Bool)
        → (v == was) ≡ b
        → Tells (place (at.Decide was)) (exchanged_deeds (purpose.Enter x how) decisions.Take b
        (decided a (place (at.Decide was)) v)) (if b then came_in (place (at.Decide was))
        else looked a (place (at.Decide was)) v)
    takes was fits d true e = came x was fits (may_enter r a s t l op admits h nowhere there x how again fresh
        (rw (eqb-true v was e) d)).0
    takes was fits d false e = looks (at.Decide was) tt fits

    marks : (was : ℕ) → EntersAt x how at.Load → (b : Bool)
        → Tells (place (at.Decide was)) (exchanged_deeds (purpose.Enter x how) decisions.Mark b
        (decided a (place (at.Decide was)) v)) (if b then stays (place (at.Decide was))
        (at.Decide (plus was 1)) else looked a (place (at.Decide was)) v)
    marks was fits true = record {
      one = tt;
      may = tt;
      comes = λ rights e. recalls _ _ (goes l t s.lock s.lock (purpose.Enter x how) (at.Decide was)
          (at.Decide (plus was 1)) rights e refl);
    }
    marks was fits false = looks (at.Decide was) tt fits

    decides : (was : ℕ) → EntersAt x how at.Load → (d : Decision) → decision a (wanted x) how was ≡ d
        → Tells (place (at.Decide was)) (exchanged_deeds (purpose.Enter x how) d (v == was)
        (decided a (place (at.Decide was)) v)) (exchanged_next a (place (at.Decide was)) was v d)
    decides was fits decisions.Take e = takes was fits e (v == was) refl
    decides was fits decisions.Mark e = marks was fits (v == was)
    decides was fits decisions.Park e = looks (at.Decide was) tt fits
    decides was fits (decisions.Refuse ans) e = looks (at.Decide was) tt fits
    -- ---------------------------------------------------------------- a writer

  module _ (how : Patience) (again : Bool) where
    abbrev writer : RwLockAt → RwLockPlace
    writer to = of (purpose.Enter access.Exclusive how) again to

    first : (b : Bool) → (v == 0) ≡ b → Tells (writer at.First) (if b then Case (Enter Exclusive) ∷ End ∷ []
        else missed_deeds how) (if b then next.End (entered how) else missed (writer at.First) how)
    first true e = record {
      one = tt;
      may = ((refl, refl), tt);
      comes = λ w rights ruled now is has. enters l t s.lock (with_owner t Exclusive s.lock)
          (purpose.Enter access.Exclusive how) at.First r w rights ruled now is has
          (by_case (Enter Exclusive) (writer at.First) rights) refl Exclusive how refl
          (entered_alone s.lock t (tells.nobody (eqb-true v 0 e)).0.0);
    }
    first false e = by_how how refl
      where
        not_mutex : (w : LocksState) → locks_rules w l ≡ r → (locks_rules w l).sort ≢ Mutex
        not_mutex w ruled e = let f : r.sort ≡ Mutex = ap (λ (z : Rules). z.sort) (sym ruled) ∙ e
            in let g : has_readers Mutex ≡ true = ap has_readers (sym f) ∙ admits.0 in cc

        by_how : (y : Patience) → how ≡ y → Tells (writer at.First) (missed_deeds y)
            (missed (writer at.First) y)
        by_how Try f = record {
          one = tt;
          may = tt;
          comes = λ w rights ruled now is has. subst (λ y. EntersAnswer w t
              (call_by l (rwlock_profile a (writer at.First)) rights) l Exclusive y No) (sym f) (
                (λ of_mutex. absurd (not_mutex w ruled of_mutex)),
                keeps l t s.lock s.lock (purpose.Enter access.Exclusive how) at.First r w rights ruled now is
                    has refl,
              );
        }
        by_how Patient f = record {
          one = tt;
          may = tt;
          comes = λ rights is. recalls _ _ (goes l t s.lock s.lock (purpose.Enter access.Exclusive how)
              at.First at.Load rights is refl);
        }
        by_how Timed f = record {
          one = tt;
          may = tt;
          comes = λ rights is. recalls _ _ (goes l t s.lock s.lock (purpose.Enter access.Exclusive how)
              at.First at.Load rights is refl);
        }

    -- a writer that is pending has no other beside it
    alone : (b : Bool) → s.lock.pending ≡ Some (record { thread = t; falls_back = b }) → s.lock.exclusive
        ≡ None
    alone b own = grind (arith, h.state.exclusive_alone)

    abbrev IsCounting : RwLockAt → Type 0
    IsCounting at.Look = Unit {0}
    IsCounting (at.Count seen) = Unit {0}
    IsCounting to = ⊥

    pub settles : (to : RwLockAt) → IsCounting to → s.role t ≡ rwlock_role (writer to) → (b : Bool)
        → Tells (writer to) (if b then Case Settle ∷ End ∷ [] else []) (if b then next.End (entered how)
        else stays (writer to) (at.Count v))
    settles at.Look is role true = let own : s.lock.pending ≡ Some (record {
      thread = t;
      falls_back = false;
    }) = h.held t (Pends false) (ap (λ (d : Role). d.claims) role) in
        record {
          one = tt;
          may = ((refl, refl), tt);
          comes = λ w rights ruled now e has. enters l t s.lock _ (purpose.Enter access.Exclusive how) at.Look
              r w rights ruled now e has (by_case Settle (writer at.Look) rights) refl Exclusive how refl
              (settled s.lock t false own (alone false own));
        }
    settles (at.Count was) is role true = let own : s.lock.pending ≡ Some (record {
      thread = t;
      falls_back = false;
    }) = h.held t (Pends false) (ap (λ (d : Role). d.claims) role) in
        record {
          one = tt;
          may = ((refl, refl), tt);
          comes = λ w rights ruled now e has. enters l t s.lock _ (purpose.Enter access.Exclusive how)
              (at.Count was) r w rights ruled now e has (by_case Settle (writer (at.Count was)) rights) refl
              Exclusive how refl (settled s.lock t false own (alone false own));
        }
    settles at.Look is role false = record {
      one = tt;
      may = tt;
      comes = λ rights e. recalls _ _ (goes l t s.lock s.lock (purpose.Enter access.Exclusive how) at.Look
          (at.Count v) rights e refl);
    }
    settles (at.Count was) is role false = record {
      one = tt;
      may = tt;
      comes = λ rights e. recalls _ _ (goes l t s.lock s.lock (purpose.Enter access.Exclusive how)
          (at.Count was) (at.Count v) rights e refl);
    }
    settles to is role b = absurd is

    sets_aside : (was : ℕ) → s.role t ≡ rwlock_role (writer (at.Count was)) → (b : Bool)
        → Tells (writer (at.Count was)) (if b then Mark Second ∷ [] else counted_deeds v) (if b
        then stays (writer (at.Count was)) at.Marked else after_count (writer (at.Count was)) v)
    sets_aside was role true = record {
      one = tt;
      may = tt;
      comes = λ rights e. recalls _ _ (goes l t s.lock s.lock (purpose.Enter access.Exclusive how)
          (at.Count was) at.Marked rights e refl);
    }
    sets_aside was role false = settles (at.Count was) tt role (count_in v == 0)

    -- the thread rolls back, and wakes others, or has given up
    rolls : HasDeadline how → s.role t ≡ rwlock_role (writer at.RollBack) → (b : Bool)
        → Tells (writer at.RollBack) (does_and_wakes b (Case Rollback)) (if b then stays (writer at.RollBack)
        (wakes Main) else next.End No)
    rolls late role b = by_bit b
      where
        own : s.lock.pending ≡ Some (record { thread = t; falls_back = false })
        own = h.held t (Pends false) (ap (λ (d : Role). d.claims) role)

        gone : rights_of (after_case r Rollback s.lock t) t ≡ less_pending (rights_of s.lock t)
        gone = ap (λ (o : Option Pending). rights_of (falling_back t o (record s.lock { pending = None })) t)
            own ∙ rolled s.lock t false own

        by_bit : (b : Bool) → Tells (writer at.RollBack) (does_and_wakes b (Case Rollback)) (if b
            then stays (writer at.RollBack) (wakes Main) else next.End No)
        by_bit true = record {
          one = tt;
          may = ((refl, λ e. cc), tt);
          comes = λ rights e. recalls _ _ (goes l t s.lock (after_case r Rollback s.lock t)
              (purpose.Enter access.Exclusive how) at.RollBack (wakes Main) rights e gone);
        }
        by_bit false = record {
          one = tt;
          may = ((refl, λ e. cc), tt);
          comes = λ w rights ruled now e has. gives_up w rights
              (keeps l t s.lock (after_case r Rollback s.lock t) (purpose.Enter access.Exclusive how)
              at.RollBack r w rights ruled now e has gone) how late refl;
        }
          where
            gives_up : (w : LocksState) (rights : ℕ → Rights)
                → ((k : ℕ) → rights_in w t k ≡ before (purpose.Enter access.Exclusive how) at.RollBack l
                rights k) → (y : Patience) → HasDeadline y → how ≡ y
                → EntersAnswer w t (by_case Rollback (writer at.RollBack) rights) l Exclusive how No
            gives_up w rights kept Timed d f =
                subst (λ y. EntersAnswer w t (by_case Rollback (writer at.RollBack) rights) l Exclusive y No)
                (sym f) (refl, kept)
            gives_up w rights kept Try d f = absurd d
            gives_up w rights kept Patient d f = absurd d

    writes : (to : RwLockAt) → WritesAt how to → IsFreshTry how again → s.role t ≡ rwlock_role (writer to)
        → rwlock_act l a (writer to) ≡ act.Word l op
        → Tells (writer to) (rwlock_deeds a (writer to) None (reply.Value v))
        (rwlock_next a (writer to) (reply.Value v))
    writes at.First fits fresh role e = first (v == 0) refl
    writes at.Load fits fresh role e = looks access.Exclusive how again fresh at.Load tt fits
    writes (at.Decide was) fits fresh role e = decides access.Exclusive how again fresh was fits
        (decision a Exclusive how was) refl
    writes (at.Park parking.Clear) fits fresh role e = record {
      one = tt;
      may = tt;
      comes = λ rights e. recalls _ _ (goes l t s.lock s.lock (purpose.Enter access.Exclusive how)
          (at.Park parking.Clear) (at.Park parking.GiveUp) rights e refl);
    }
    writes at.Look fits fresh role e = settles at.Look tt role (count_in v == 0)
    writes (at.Count was) fits fresh role e = sets_aside was role (v == was)
    writes (at.Aside parking.Clear) fits fresh role e = record {
      one = tt;
      may = tt;
      comes = λ rights e. recalls _ _ (goes l t s.lock s.lock (purpose.Enter access.Exclusive how)
          (at.Aside parking.Clear) (at.Aside parking.GiveUp) rights e refl);
    }
    writes at.RollBack fits fresh role e = rolls fits role (has_parked v)
    writes (at.Wake Main (waking.Clear any)) fits fresh role e = record {
      one = tt;
      may = tt;
      comes = λ rights e. recalls _ _ (goes l t s.lock s.lock (purpose.Enter access.Exclusive how)
          (at.Wake Main (waking.Clear any)) (at.Wake Main (waking.Leave any)) rights e refl);
    }
    writes at.GiveWay fits fresh role e = absurd fits
    writes (at.Wake Second to) fits fresh role e = absurd fits
    writes to fits fresh role e = absurd cc

  -- a thread that wants to share, or may want to write later
  shares_tell : (x : Access) → wanted x ≢ Exclusive → (how : Patience) (again : Bool) (to : RwLockAt)
      → SharesAt how to → EntersAt x how at.Load → IsFreshTry how again
      → rwlock_act l a (of (purpose.Enter x how) again to) ≡ act.Word l op
      → Tells (of (purpose.Enter x how) again to) (rwlock_deeds a (of (purpose.Enter x how) again to) None
      (reply.Value v)) (rwlock_next a (of (purpose.Enter x how) again to) (reply.Value v))
  shares_tell x more how again at.Load fits respins_from fresh e = looks x how again fresh at.Load tt
      respins_from
  shares_tell x more how again (at.Decide was) fits respins_from fresh e = decides x how again fresh was
      respins_from
      (decision a (wanted x) how was) refl
  shares_tell x more how again (at.Park parking.Clear) fits respins_from fresh e = record {
    one = tt;
    may = tt;
    comes = λ rights e. recalls _ _ (goes l t s.lock s.lock (purpose.Enter x how) (at.Park parking.Clear)
        (at.Park parking.GiveUp) rights e refl);
  }
  shares_tell x more how again (at.Park to) fits respins_from fresh e = absurd cc
  shares_tell x more how again to fits respins_from fresh e = absurd fits

  enters_tell : (x : Access) (how : Patience) (again : Bool) (to : RwLockAt) → EntersAt x how to
      → IsFreshTry how again → s.role t ≡ rwlock_role (of (purpose.Enter x how) again to)
      → rwlock_act l a (of (purpose.Enter x how) again to) ≡ act.Word l op
      → Tells (of (purpose.Enter x how) again to) (rwlock_deeds a (of (purpose.Enter x how) again to) None
      (reply.Value v)) (rwlock_next a (of (purpose.Enter x how) again to) (reply.Value v))
  enters_tell access.Exclusive how again to fits fresh role e = writes how again to fits fresh role e
  enters_tell access.Shared how again to fits fresh role e = shares_tell access.Shared (λ f. cc) how again to
      fits tt fresh e
  enters_tell access.Upgradable how again to fits fresh role e = shares_tell access.Upgradable (λ f. cc) how
      again to fits tt fresh e

  -- ---------------------------------------------------------------- calls that release

  module _ (x : Access) (again : Bool) where
    abbrev leaver : RwLockAt → RwLockPlace
    leaver to = of (purpose.Release x) again to

    -- a release gives its right up, and wakes others, or has ended
    gives : (m : Line) → Owns s.lock t (wanted x) → (b : Bool)
        → Tells (leaver at.GiveWay) (does_and_wakes b (Case (Leave (wanted x))))
        (wakes_or_ends (leaver at.GiveWay) m b)
    gives m own true = record {
      one = tt;
      may = ((refl, refl), tt);
      comes = λ rights e. recalls _ _ (goes l t s.lock (without_owner t (wanted x) s.lock) (purpose.Release x)
          at.GiveWay (wakes m) rights e (left s.lock t (wanted x) own));
    }
    gives m own false = record {
      one = tt;
      may = ((refl, refl), tt);
      comes = λ w rights ruled now e has. loses l t s.lock (without_owner t (wanted x) s.lock)
          (purpose.Release x) at.GiveWay r w rights ruled now e has (wanted x) (left s.lock t (wanted x) own);
    }

    clears : (m : Line) (any : Bool) → Tells (leaver (at.Wake m (waking.Clear any))) (Clear m ∷ [])
        (next.At (leaver (at.Wake m (waking.Leave any))))
    clears m any = record {
      one = tt;
      may = tt;
      comes = λ rights e. recalls _ _ (goes l t s.lock s.lock (purpose.Release x)
          (at.Wake m (waking.Clear any)) (at.Wake m (waking.Leave any)) rights e refl);
    }

  releases_tell : (x : Access) (again : Bool) (to : RwLockAt) → ReleasesAt x to
      → s.role t ≡ rwlock_role (leaver x again to) → rwlock_act l a (leaver x again to) ≡ act.Word l op
      → Tells (leaver x again to) (rwlock_deeds a (leaver x again to) None (reply.Value v))
      (rwlock_next a (leaver x again to) (reply.Value v))
  releases_tell access.Shared again at.GiveWay fits role e = gives access.Shared again Second
      (h.held t (Has Shared) (ap (λ (d : Role). d.claims) role)) (has_aside v && (count_in v == 1))
  releases_tell access.Upgradable again at.GiveWay fits role e = gives access.Upgradable again Main
      (h.held t (Has Upgradable) (ap (λ (d : Role). d.claims) role)) (has_parked v)
  releases_tell access.Exclusive again at.GiveWay fits role e = gives access.Exclusive again Main
      (h.held t (Has Exclusive) (ap (λ (d : Role). d.claims) role)) (has_parked v)
  releases_tell access.Shared again (at.Wake Second (waking.Clear any)) fits role e =
      clears access.Shared again Second any
  releases_tell access.Upgradable again (at.Wake Main (waking.Clear any)) fits role e =
      clears access.Upgradable again Main any
  releases_tell access.Exclusive again (at.Wake Main (waking.Clear any)) fits role e =
      clears access.Exclusive again Main any
  releases_tell access.Shared again (at.Wake Second to) fits role e = absurd cc
  releases_tell access.Upgradable again (at.Wake Main to) fits role e = absurd cc
  releases_tell access.Exclusive again (at.Wake Main to) fits role e = absurd cc
  releases_tell access.Shared again to fits role e = absurd fits
  releases_tell access.Upgradable again to fits role e = absurd fits
  releases_tell access.Exclusive again to fits role e = absurd fits

  -- --------------------------------------------------------------- calls that turn a right into a lesser one

  module _ (d : Downgrade) (again : Bool) where
    abbrev lowerer : RwLockAt → RwLockPlace
    lowerer to = of (purpose.Downgrade d) again to

    lowers : Owns s.lock t (wanted (from_of d)) → MayConvert (wanted (from_of d)) (wanted (to_of d))
        → wanted (to_of d) ≢ Exclusive
        → after_case r (Convert (wanted (from_of d)) (wanted (to_of d))) s.lock t ≡ with_owner t
        (wanted (to_of d)) (without_owner t (wanted (from_of d)) s.lock)
        → (b : Bool) → Tells (lowerer at.GiveWay)
        (does_and_wakes b (Case (Convert (wanted (from_of d)) (wanted (to_of d)))))
        (wakes_or_ends (lowerer at.GiveWay) Main b)
    lowers own may less leads true = record {
      one = tt;
      may = ((refl, (refl, refl)), tt);
      comes = λ rights e. recalls _ _
          (goes l t s.lock (after_case r (Convert (wanted (from_of d)) (wanted (to_of d))) s.lock t)
          (purpose.Downgrade d) at.GiveWay (wakes Main) rights e
          (ap (λ z. with_right (wanted (from_of d)) (without_right (wanted (to_of d)) (rights_of z t))) leads
          ∙ lowered s.lock t (wanted (from_of d)) (wanted (to_of d)) r h.state own may less
          (λ f. there)));
    }
    lowers own may less leads false = record {
      one = tt;
      may = ((refl, (refl, refl)), tt);
      comes = λ w rights ruled now e has. replaces l t s.lock
          (after_case r (Convert (wanted (from_of d)) (wanted (to_of d))) s.lock t) (purpose.Downgrade d)
          at.GiveWay r w rights ruled now e has (wanted (from_of d)) (wanted (to_of d))
          (ap (λ z. with_right (wanted (from_of d)) (rights_of z t)) leads
          ∙ replaced s.lock t (wanted (from_of d)) (wanted (to_of d)) r h.state own may less
          (λ f. there));
    }

    clears_lower : (any : Bool) → Tells (lowerer (at.Wake Main (waking.Clear any))) (Clear Main ∷ [])
        (next.At (lowerer (at.Wake Main (waking.Leave any))))
    clears_lower any = record {
      one = tt;
      may = tt;
      comes = λ rights e. recalls _ _ (goes l t s.lock s.lock (purpose.Downgrade d)
          (at.Wake Main (waking.Clear any)) (at.Wake Main (waking.Leave any)) rights e refl);
    }

  lowers_by : (d : Downgrade) (again : Bool) → s.role t ≡ rwlock_role (lowerer d again at.GiveWay)
      → (b : Bool)
      → Tells (lowerer d again at.GiveWay)
      (does_and_wakes b (Case (Convert (wanted (from_of d)) (wanted (to_of d)))))
      (wakes_or_ends (lowerer d again at.GiveWay) Main b)
  lowers_by downgrade.ToShared again role b = lowers downgrade.ToShared again
      (h.held t (Has Exclusive) (ap (λ (d : Role). d.claims) role)) tt (λ f. cc) refl b
  lowers_by downgrade.ToUpgradable again role b = lowers downgrade.ToUpgradable again
      (h.held t (Has Exclusive) (ap (λ (d : Role). d.claims) role)) tt (λ f. cc) refl b
  lowers_by downgrade.UpgradableToShared again role b = lowers downgrade.UpgradableToShared again
      (h.held t (Has Upgradable) (ap (λ (d : Role). d.claims) role)) tt (λ f. cc) refl b

  downgrades_tell : (d : Downgrade) (again : Bool) (to : RwLockAt) → DowngradesAt to → s.role t
      ≡ rwlock_role (lowerer d again to) → rwlock_act l a (lowerer d again to) ≡ act.Word l op
      → Tells (lowerer d again to) (rwlock_deeds a (lowerer d again to) None (reply.Value v))
      (rwlock_next a (lowerer d again to) (reply.Value v))
  downgrades_tell d again at.GiveWay fits role e = lowers_by d again role (has_parked v)
  downgrades_tell d again (at.Wake Main (waking.Clear any)) fits role e = clears_lower d again any
  downgrades_tell d again (at.Wake Main to) fits role e = absurd cc
  downgrades_tell d again to fits role e = absurd fits

  -- ---------------------------------------------------------------- calls that upgrade

  module _ (how : Patience) (again : Bool) where
    abbrev raiser : RwLockAt → RwLockPlace
    raiser to = of (purpose.Upgrade how) again to

    abbrev upgraded : LockState
    upgraded = after_case r (Convert Upgradable Exclusive) s.lock t

    owns_then : readers s.lock ≡ 0 → upgraded ≡ with_owner t Exclusive (without_owner t Upgradable s.lock)
    owns_then e = rw e refl

    pends_then : (readers s.lock == 0) ≡ false → upgraded ≡ pending_for t true
        (without_owner t Upgradable s.lock)
    pends_then e = rw e refl

    alone_when : Owns s.lock t Upgradable → (count_in v == 1) ≡ true → readers s.lock ≡ 0
    alone_when own e = let c = tells.count in grind (arith, nat_tests)

    beside_when : Owns s.lock t Upgradable → (count_in v == 1) ≡ false → (readers s.lock == 0) ≡ false
    beside_when own e = let c = tells.count in grind (arith, nat_tests)

    -- the thread owns where it saw one reader, itself
    owns_it : (to : RwLockAt) → to ≡ at.GiveWay ⊎ ((was : ℕ) × (to ≡ at.Decide was))
        → Owns s.lock t Upgradable → (count_in v == 1) ≡ true
        → Tells (raiser to) (Case (Convert Upgradable Exclusive) ∷ End ∷ []) (next.End (entered how))
    owns_it at.GiveWay is own e = record {
      one = tt;
      may = ((refl, (refl, refl)), tt);
      comes = λ w rights ruled now f has. raises l t s.lock upgraded (purpose.Upgrade how) at.GiveWay r w
          rights ruled now f has (by_case (Convert Upgradable Exclusive) (raiser at.GiveWay) rights) refl
          Upgradable Exclusive how
          (ap (λ z. with_right Upgradable (rights_of z t)) (owns_then (alone_when own e))
          ∙ raised s.lock t r h.state own);
    }
    owns_it (at.Decide was) is own e = record {
      one = tt;
      may = ((refl, (refl, refl)), tt);
      comes = λ w rights ruled now f has. raises l t s.lock upgraded (purpose.Upgrade how) (at.Decide was) r w
          rights ruled now f has (by_case (Convert Upgradable Exclusive) (raiser (at.Decide was)) rights) refl
          Upgradable Exclusive how
          (ap (λ z. with_right Upgradable (rights_of z t)) (owns_then (alone_when own e))
          ∙ raised s.lock t r h.state own);
    }
    owns_it to is own e = absurd (elim is [ inl f ↦ cc | inr f ↦ (let g = f.1 in cc) ])

    gives_up_right : Owns s.lock t Upgradable → again ≡ false → (b : Bool) → (count_in v == 1) ≡ b
        → Tells (raiser at.GiveWay) (does_and_wakes (not b) (Case (Convert Upgradable Exclusive)))
        (if b then next.End (entered how) else goes_to (raiser at.GiveWay) at.Look false)
    gives_up_right own first true e = owns_it at.GiveWay (inl refl) own e
    gives_up_right own first false e = record {
      one = tt;
      may = ((refl, (refl, refl)), tt);
      comes = λ rights f. next_call rights (goes l t s.lock upgraded (purpose.Upgrade how) at.GiveWay at.Look
          rights f pending);
    }
      where
        pending : with_right Upgradable (less_pending (rights_of upgraded t)) ≡ rights_of s.lock t
        pending = ap (λ z. with_right Upgradable (less_pending (rights_of z t)))
            (pends_then (beside_when own e)) ∙ raising s.lock t r h.state own

        next_call : (rights : ℕ → Rights)
            → ((k : ℕ) → before (purpose.Upgrade how) at.Look l (rights_where l upgraded t rights) k
            ≡ before (purpose.Upgrade how) at.GiveWay l rights k)
            → call_by l (rwlock_profile a (of (purpose.Upgrade how) false at.Look))
            (rights_where l upgraded t rights) ≡ by_case (Convert Upgradable Exclusive)
            (raiser at.GiveWay) rights
        next_call rights same = λ i. record (call_by l (rwlock_profile a (raiser at.GiveWay)) rights)
            { former = λ k. same k i; retries = (ap (λ b. if b then Some l else None) (sym first)) i }

    pub settles_up : how ≢ Try → (to : RwLockAt) → IsCounting how again to
        → s.role t ≡ rwlock_role (raiser to) → (b : Bool)
        → Tells (raiser to) (if b then Case Settle ∷ End ∷ [] else []) (if b then next.End (entered how)
        else stays (raiser to) (at.Count v))
    settles_up more at.Look is role true = let own : s.lock.pending ≡ Some
        (record { thread = t; falls_back = true }) = h.held t (Pends true) (ap (λ (d : Role). d.claims) role)
        in
        record {
          one = tt;
          may = ((refl, (refl, more)), tt);
          comes = λ w rights ruled now e has. raises l t s.lock (after_case r Settle s.lock t)
              (purpose.Upgrade how) at.Look r w rights ruled now e has (by_case Settle (raiser at.Look)
              rights) refl Upgradable Exclusive how (ap (with_right Upgradable)
              (settled s.lock t true own (alone how again true own)));
        }
    settles_up more (at.Count was) is role true = let own : s.lock.pending
        ≡ Some (record { thread = t; falls_back = true }) =
        h.held t (Pends true) (ap (λ (d : Role). d.claims) role) in
        record {
          one = tt;
          may = ((refl, (refl, more)), tt);
          comes = λ w rights ruled now e has. raises l t s.lock (after_case r Settle s.lock t)
              (purpose.Upgrade how) (at.Count was) r w rights ruled now e has
              (by_case Settle (raiser (at.Count was)) rights) refl Upgradable Exclusive how
              (ap (with_right Upgradable) (settled s.lock t true own (alone how again true own)));
        }
    settles_up more at.Look is role false = record {
      one = tt;
      may = tt;
      comes = λ rights e. recalls _ _ (goes l t s.lock s.lock (purpose.Upgrade how) at.Look (at.Count v)
          rights e refl);
    }
    settles_up more (at.Count was) is role false = record {
      one = tt;
      may = tt;
      comes = λ rights e. recalls _ _ (goes l t s.lock s.lock (purpose.Upgrade how) (at.Count was)
          (at.Count v) rights e refl);
    }
    settles_up more to is role b = absurd is

    sets_aside_up : how ≢ Try → (was : ℕ) → s.role t ≡ rwlock_role (raiser (at.Count was)) → (b : Bool)
        → Tells (raiser (at.Count was)) (if b then Mark Second ∷ [] else counted_deeds v) (if b
        then stays (raiser (at.Count was)) at.Marked else after_count (raiser (at.Count was)) v)
    sets_aside_up more was role true = record {
      one = tt;
      may = tt;
      comes = λ rights e. recalls _ _ (goes l t s.lock s.lock (purpose.Upgrade how) (at.Count was) at.Marked
          rights e refl);
    }
    sets_aside_up more was role false = settles_up more (at.Count was) tt role (count_in v == 0)

    falls : HasDeadline how → s.role t ≡ rwlock_role (raiser at.RollBack) → (b : Bool)
        → Tells (raiser at.RollBack) (does_and_wakes b (Case Rollback)) (if b then stays (raiser at.RollBack)
        (wakes Main) else next.End No)
    falls late role b = by_bit b
      where
        own : s.lock.pending ≡ Some (record { thread = t; falls_back = true })
        own = h.held t (Pends true) (ap (λ (d : Role). d.claims) role)

        gone : rights_of (after_case r Rollback s.lock t) t ≡ with_right Upgradable
            (less_pending (rights_of s.lock t))
        gone = ap (λ (o : Option Pending). rights_of (falling_back t o (record s.lock { pending = None })) t)
            own ∙ fell s.lock t r h.state own

        by_bit : (b : Bool) → Tells (raiser at.RollBack) (does_and_wakes b (Case Rollback)) (if b
            then stays (raiser at.RollBack) (wakes Main) else next.End No)
        by_bit true = record {
          one = tt;
          may = ((refl, λ e. cc), tt);
          comes = λ rights e. recalls _ _ (goes l t s.lock (after_case r Rollback s.lock t)
              (purpose.Upgrade how) at.RollBack (wakes Main) rights e gone);
        }
        by_bit false = record {
          one = tt;
          may = ((refl, λ e. cc), tt);
          comes = λ w rights ruled now e has. gives_up w rights
              (keeps l t s.lock (after_case r Rollback s.lock t) (purpose.Upgrade how) at.RollBack r w rights
              ruled now e has gone) how late refl;
        }
          where
            gives_up : (w : LocksState) (rights : ℕ → Rights)
                → ((k : ℕ) → rights_in w t k ≡ before (purpose.Upgrade how) at.RollBack l rights k)
                → (y : Patience) → HasDeadline y → how ≡ y
                → ConvertsAnswer w t (by_case Rollback (raiser at.RollBack) rights) l Upgradable Exclusive how
                No
            gives_up w rights kept Timed d f =
                subst (λ y. ConvertsAnswer w t (by_case Rollback (raiser at.RollBack) rights) l Upgradable
                Exclusive y No) (sym f) (refl, kept)
            gives_up w rights kept Try d f = absurd d
            gives_up w rights kept Patient d f = absurd d

    waits_up : (to : RwLockAt) → AtPending to → UpgradesAt how again to → s.role t ≡ rwlock_role (raiser to)
        → rwlock_act l a (raiser to) ≡ act.Word l op → (how ≢ Try)
        → Tells (raiser to) (rwlock_deeds a (raiser to) None (reply.Value v))
        (rwlock_next a (raiser to) (reply.Value v))
    waits_up at.GiveWay pending fits role e more =
        gives_up_right (h.held t (Has Upgradable) (ap (λ (d : Role). d.claims) role)) (unwoken how fits more)
        (count_in v == 1) refl
      where
        unwoken : (y : Patience) → UpgradesAt y again at.GiveWay → y ≢ Try → again ≡ false
        unwoken Patient f m = f
        unwoken Timed f m = f
        unwoken Try f m = absurd (m refl)
    waits_up at.Look pending fits role e more = settles_up more at.Look tt role (count_in v == 0)
    waits_up (at.Count was) pending fits role e more = sets_aside_up more was role (v == was)
    waits_up (at.Aside parking.Clear) pending fits role e more = record {
      one = tt;
      may = tt;
      comes = λ rights e. recalls _ _ (goes l t s.lock s.lock (purpose.Upgrade how) (at.Aside parking.Clear)
          (at.Aside parking.GiveUp) rights e refl);
    }
    waits_up at.RollBack pending fits role e more = falls (deadline how fits) role (has_parked v)
      where
        deadline : (y : Patience) → UpgradesAt y again at.RollBack → HasDeadline y
        deadline Timed f = f
        deadline Patient f = absurd f
        deadline Try f = absurd f
    waits_up (at.Wake Main (waking.Clear any)) pending fits role e more = record {
      one = tt;
      may = tt;
      comes = λ rights e. recalls _ _ (goes l t s.lock s.lock (purpose.Upgrade how)
          (at.Wake Main (waking.Clear any)) (at.Wake Main (waking.Leave any)) rights e refl);
    }
    waits_up at.Marked pending fits role e more = absurd cc
    waits_up (at.Aside to) pending fits role e more = absurd cc
    waits_up (at.Wake Main to) pending fits role e more = absurd cc
    waits_up to pending fits role e more = absurd pending

  -- ---------------------------------------------------------------- a try to upgrade

  module _ (again : Bool) where
    abbrev trier : RwLockAt → RwLockPlace
    trier to = of (purpose.Upgrade Try) again to

    -- the thread looks whether another shares beside it
    pub looks_up : (to : RwLockAt) → AtTry to → Owns s.lock t Upgradable → (b : Bool) → (count_in v == 1) ≡ b
        → Tells (trier to) (looked_deeds (if b then decisions.Take else decisions.Refuse No))
        (looked_by (trier to) v (if b then decisions.Take else decisions.Refuse No))
    looks_up at.Load is own true e = record {
      one = tt;
      may = tt;
      comes = λ rights f. recalls _ _ (goes l t s.lock s.lock (purpose.Upgrade Try) at.Load (at.Decide v)
          rights f refl);
    }
    looks_up (at.Decide was) is own true e = record {
      one = tt;
      may = tt;
      comes = λ rights f. recalls _ _ (goes l t s.lock s.lock (purpose.Upgrade Try) (at.Decide was)
          (at.Decide v) rights f refl);
    }
    looks_up at.Load is own false e = record {
      one = tt;
      may = tt;
      comes = λ w rights ruled now f has. (
        subst (λ z. 1 ≤ readers z) (sym now) (others own e),
        keeps l t s.lock s.lock (purpose.Upgrade Try) at.Load r w rights ruled now f has refl,
      );
    }
      where
        others : Owns s.lock t Upgradable → (count_in v == 1) ≡ false → 1 ≤ readers s.lock
        others own e = let c = tells.count in grind (arith, nat_tests)
    looks_up (at.Decide was) is own false e = record {
      one = tt;
      may = tt;
      comes = λ w rights ruled now f has. (
        subst (λ z. 1 ≤ readers z) (sym now) (others own e),
        keeps l t s.lock s.lock (purpose.Upgrade Try) (at.Decide was) r w rights ruled now f has refl,
      );
    }
      where
        others : Owns s.lock t Upgradable → (count_in v == 1) ≡ false → 1 ≤ readers s.lock
        others own e = let c = tells.count in grind (arith, nat_tests)
    looks_up to is own b e = absurd is

    tries_up : (to : RwLockAt) → AtTry to → s.role t ≡ rwlock_role (trier to)
        → Tells (trier to) (rwlock_deeds a (trier to) None (reply.Value v))
        (rwlock_next a (trier to) (reply.Value v))
    tries_up at.Load is role = looks_up at.Load tt (h.held t (Has Upgradable)
        (ap (λ (d : Role). d.claims) role)) (count_in v == 1) refl
    tries_up (at.Decide was) is role = by_sight (count_in was == 1) refl
      where
        own : Owns s.lock t Upgradable
        own = h.held t (Has Upgradable) (ap (λ (d : Role). d.claims) role)

        won : (c : Bool) → (v == was) ≡ c → (count_in was == 1) ≡ true → Tells (trier (at.Decide was))
            (exchanged_deeds (purpose.Upgrade Try) decisions.Take c (decided a (trier (at.Decide was)) v))
            (if c then next.End Yes else looked a (trier (at.Decide was)) v)
        won true f e = owns_it Try again (at.Decide was) (inr (was, refl)) own
            (ap (λ n. count_in n == 1) (eqb-true v was f) ∙ e)
        won false f e = looks_up (at.Decide was) tt own (count_in v == 1) refl

        by_sight : (b : Bool) → (count_in was == 1) ≡ b
            → Tells (trier (at.Decide was)) (exchanged_deeds (purpose.Upgrade Try) (if b then decisions.Take
            else decisions.Refuse No) (v == was) (decided a (trier (at.Decide was)) v))
            (exchanged_next a (trier (at.Decide was)) was v (if b then decisions.Take else decisions.Refuse
            No))
        by_sight true e = won (v == was) refl e
        by_sight false e = looks_up (at.Decide was) tt own (count_in v == 1) refl
    tries_up to is role = absurd is

-- ---------------------------------------------------------------- every place

pub rwlock_steps_tell : RwLockStepsTell
rwlock_steps_tell r a s t l p op calling nowhere e = by_purpose p.purpose p.retries p.at calling.stands.place
    calling.at.place calling.at.fresh calling.at.role e
  where
    admits : Admits r a
    admits = calling.at.admits

    by_patience : (how : Patience) (again : Bool) (to : RwLockAt) → UpgradesAt how again to → AtUpgrade how to
        → s.role t ≡ rwlock_role (record {
          purpose = purpose.Upgrade how;
          retries = again;
          at = to;
        })
        → rwlock_act l a (record {
          purpose = purpose.Upgrade how;
          retries = again;
          at = to;
        }) ≡ act.Word l op → CallFollowsBy r a s t l (record {
          purpose = purpose.Upgrade how;
          retries = again;
          at = to;
        }) None (reply.Value (code r s))
    by_patience Try again to stands fits role e = tries_up r a s t l op admits calling.at.site nowhere
        calling.at.there again to fits role
    by_patience Patient again to stands fits role e = waits_up r a s t l op admits calling.at.site nowhere
        calling.at.there Patient again to fits stands role e (λ f. cc)
    by_patience Timed again to stands fits role e = waits_up r a s t l op admits calling.at.site nowhere
        calling.at.there Timed again to fits stands role e (λ f. cc)

    by_purpose : (q : RwLockPurpose) (again : Bool) (to : RwLockAt) → StandsAt q again to → AtFits q to
        → IsFreshTry (patience_of q) again → s.role t ≡ rwlock_role (record {
          purpose = q;
          retries = again;
          at = to;
        })
        → rwlock_act l a (record {
          purpose = q;
          retries = again;
          at = to;
        }) ≡ act.Word l op → CallFollowsBy r a s t l (record {
          purpose = q;
          retries = again;
          at = to;
        }) None (reply.Value (code r s))
    by_purpose (purpose.Enter x how) again to stands fits fresh role e = enters_tell r a s t l op admits
        calling.at.site nowhere calling.at.there x how again to stands fresh role e
    by_purpose (purpose.Release x) again to stands fits fresh role e = releases_tell r a s t l op admits
        calling.at.site nowhere calling.at.there x again to stands role e
    by_purpose (purpose.Downgrade d) again to stands fits fresh role e = downgrades_tell r a s t l op admits
        calling.at.site nowhere calling.at.there d again to stands role e
    by_purpose (purpose.Upgrade how) again to stands fits fresh role e = by_patience how again to stands fits
        role e
