-- Each step on the word of a reader-writer lock changes its owners as its deeds say.
use Rattle.std.specs.Prelude.{slice_index, slice_set, sum}
use Rattle.std.proofs.Common.{ℕ, Bool, true, false, Option, Some, None, List, [], ◌∷◌, if◌then◌else◌, ◌==◌}
use Rattle.std.proofs.Common.{not, inl, inr, length, ◌≡◌, ◌+◌, ◌^◌, ◌<◌, ◌≤◌, refl, sym, ap, ◌∙◌, arith}
use Rattle.core_base.specs.declared.ops.Op.{Op}
use Rattle.core_base.specs.declared.wants.Waiter.{Waiter}
use Rattle.steps_base.specs.declared.owners.Owners.{Owners}
use Rattle.steps_base.specs.Owners.{lock_seen, shares_then}
use Rattle.core_base.specs.declared.wants.Want.TheVariants.{Exclusive, Upgradable, Shared}
use Rattle.spec_locks.specs.declared.calls.Access.{Access}
use Rattle.spec_locks.specs.declared.calls.Access.TheVariants as access
use Rattle.spec_locks.specs.declared.calls.Downgrade.{Downgrade}
use Rattle.spec_locks.specs.declared.calls.Downgrade.TheVariants as downgrade
use Rattle.spec_locks.specs.declared.outcomes.Answer.TheVariants.{No}
use Rattle.spec_locks.proofs.CodeLaws.{words_tell_true}
use Rattle.std.proofs.lemmas.Bool.{cases_lt, eqb-true}
use Rattle.std.proofs.lemmas.List.{get_or_past}
use Rattle.std.proofs.lemmas.List.Sums.{sum_by-set}
use Rattle.std.proofs.lemmas.Bool.Decides.{nat_tests}
use Rattle.spec_locks.specs.declared.calls.Patience.{Patience}
use Rattle.spec_locks.specs.declared.calls.Patience.TheVariants.{Patient, Timed, Try}
use Rattle.spec_locks.specs.Locks.{LockState, Rules, Taken, with_owner, without_owner, pending_for, Settle}
use Rattle.spec_locks.specs.Locks.{Leave, Convert, Rollback, Owns, readers}
use Rattle.spec_locks.specs.Locks as locks
use Rattle.spec_locks.specs.Sites.{Has, Pends, Site, IsSite, Deed, End, Mark, Case}
use Rattle.spec_locks.specs.Codes.{code, TellsTrue, count_in, has_parked}
use Rattle.core_base.specs.declared.keys.Line.TheVariants.{Main, Second}
use Rattle.steps_base.specs.declared.acts.Act.TheVariants as act
use Rattle.steps_base.specs.declared.acts.Reply.TheVariants as reply
use Rattle.steps_rwlock.specs.declared.places.Admission.{Admission}
use Rattle.steps_rwlock.specs.declared.changes.Change.{Change}
use Rattle.steps_rwlock.specs.declared.changes.Change.TheVariants as changes
use Rattle.steps_rwlock.specs.declared.places.RwLockPlace.{RwLockPlace}
use Rattle.steps_rwlock.specs.declared.purposes.RwLockPurpose.{RwLockPurpose}
use Rattle.steps_rwlock.specs.declared.purposes.RwLockPurpose.TheVariants as purpose
use Rattle.steps_rwlock.specs.declared.places.RwLockAt.{RwLockAt}
use Rattle.steps_rwlock.specs.declared.places.RwLockAt.TheVariants as at
use Rattle.steps_rwlock.specs.declared.enter.Decision.{Decision}
use Rattle.steps_rwlock.specs.declared.enter.Decision.TheVariants as decisions
use Rattle.steps_rwlock.specs.declared.park.ParkAt.TheVariants as parking
use Rattle.steps_rwlock.specs.declared.release.WakeAt.TheVariants as waking
use Rattle.steps_rwlock.specs.RwLockSteps.{wanted, from_of, to_of, decision, decided_act, rwlock_act}
use Rattle.steps_rwlock.specs.RwLockSteps.{enters_by, came_change, change, owners_by, shares_by, plus}
use Rattle.steps_rwlock.specs.RwLockDeeds.{Admits, AtTry, AtPending, AtUpgrade, rwlock_role, missed_deeds}
use Rattle.steps_rwlock.specs.RwLockDeeds.{looked_deeds, enters_deeds, exchanged_deeds, does_and_wakes}
use Rattle.steps_rwlock.specs.RwLockDeeds.{sees_waiter, rwlock_deeds, after_all, AtFits, IsAt}
use Rattle.steps_rwlock.specs.RwLockDeeds.{RwLockOwnersFollow}

-- the lock after what an operation does to its owners
abbrev lock_after : Change → ℕ → LockState → LockState
lock_after changes.Nothing t s = s
lock_after (changes.Enter x) t s = with_owner t (wanted x) s
lock_after changes.Pend t s = pending_for t false s
lock_after changes.Settle t s = with_owner t Exclusive (record s { pending = None })
lock_after (changes.Leave x) t s = without_owner t (wanted x) s
lock_after (changes.Downgrade d) t s =
    with_owner t (wanted (to_of d)) (without_owner t (wanted (from_of d)) s)
lock_after (changes.Upgrade true) t s = with_owner t Exclusive (without_owner t Upgradable s)
lock_after (changes.Upgrade false) t s = pending_for t true (without_owner t Upgradable s)
lock_after (changes.RollBack false) t s = record s { pending = None }
lock_after (changes.RollBack true) t s = with_owner t Upgradable (record s { pending = None })

-- what the thread owns is read off the owners and the numbers of shares
module _ (shared : List ℕ) (o : Owners) (main second : List Waiter) (taken : ℕ → Option Taken) (t : ℕ) where
  abbrev IsSeen : Change → Type 0
  IsSeen c =
      lock_seen (shares_then shared t (shares_by c (slice_index shared t))) (owners_by c t o) main second
      taken
      ≡ lock_after c t (lock_seen shared o main second taken)

  one_more : slice_index shared t + 1 < 2 ^ 64 → (λ (n : ℕ). slice_set shared t n)
      (plus (slice_index shared t) 1) ≡ slice_set shared t (slice_index shared t + 1)
  one_more few = ap (λ n. slice_set shared t n) (let e : plus (slice_index shared t) 1 ≡ slice_index shared t
      + 1 = omega arith in e)

  seen : (c : Change) → slice_index shared t + 1 < 2 ^ 64 → IsSeen c
  seen changes.Nothing few = refl
  seen (changes.Enter access.Shared) few = λ i. lock_seen (one_more few i) o main second taken
  seen (changes.Enter access.Upgradable) few = refl
  seen (changes.Enter access.Exclusive) few = refl
  seen changes.Pend few = refl
  seen changes.Settle few = refl
  seen (changes.Leave access.Shared) few = refl
  seen (changes.Leave access.Upgradable) few = refl
  seen (changes.Leave access.Exclusive) few = refl
  seen (changes.Downgrade downgrade.ToShared) few = λ i. lock_seen (one_more few i)
      (owners_by (changes.Downgrade downgrade.ToShared) t o) main second taken
  seen (changes.Downgrade downgrade.ToUpgradable) few = refl
  seen (changes.Downgrade downgrade.UpgradableToShared) few = λ i. lock_seen (one_more few i)
      (owners_by (changes.Downgrade downgrade.UpgradableToShared) t o) main second taken
  seen (changes.Upgrade true) few = refl
  seen (changes.Upgrade false) few = refl
  seen (changes.RollBack true) few = refl
  seen (changes.RollBack false) few = refl

-- nobody has more shares than all together
share_of : (shared : List ℕ) (t : ℕ) → slice_index shared t ≤ sum shared
share_of shared t = elim (cases_lt t (length shared)) [
  | inl lt ↦ let e = sum_by-set (λ (n : ℕ). n) shared t 0 0 lt in omega arith
  | inr past ↦ let e = get_or_past shared t 0 past in omega arith
]

module _ (r : Rules) (a : Admission) (s : Site) (t l : ℕ) (f : Op) (h : IsSite r s) where
  abbrev v : ℕ
  v = code r s

  -- the lock after deeds
  abbrev afterwards : List Deed → LockState
  afterwards ds = (after_all r ds s t).lock

  looks_same : (d : Decision) → afterwards (looked_deeds d) ≡ s.lock
  looks_same (decisions.Refuse answer) = refl
  looks_same decisions.Take = refl
  looks_same decisions.Mark = refl
  looks_same decisions.Park = refl

  missed_same : (how : Patience) → afterwards (missed_deeds how) ≡ s.lock
  missed_same Try = refl
  missed_same Patient = refl
  missed_same Timed = refl

  came : (x : Access) → afterwards (enters_deeds (wanted x)) ≡ lock_after (enters_by x) t s.lock
  came access.Exclusive = refl
  came access.Upgradable = refl
  came access.Shared = refl

  exchanged : (x : Access) (how : Patience) (d now : Decision) (b : Bool)
      → afterwards (exchanged_deeds (purpose.Enter x how) d b now) ≡ lock_after
      (if b then came_change (purpose.Enter x how) d else changes.Nothing) t s.lock
  exchanged x how decisions.Take now true = came x
  exchanged x how decisions.Mark now true = refl
  exchanged x how decisions.Park now true = looks_same now
  exchanged x how (decisions.Refuse answer) now true = looks_same now
  exchanged x how decisions.Take now false = looks_same now
  exchanged x how decisions.Mark now false = looks_same now
  exchanged x how decisions.Park now false = looks_same now
  exchanged x how (decisions.Refuse answer) now false = looks_same now

  first : (how : Patience) (b : Bool) → afterwards (if b then Case (locks.Enter Exclusive) ∷ End ∷ []
      else missed_deeds how) ≡ lock_after (if b then changes.Enter access.Exclusive else changes.Nothing) t
      s.lock
  first how true = refl
  first how false = missed_same how

  settled : (b : Bool) → afterwards (if b then Case Settle ∷ End ∷ [] else [])
      ≡ lock_after (if b then changes.Settle else changes.Nothing) t s.lock
  settled true = refl
  settled false = refl

  counts : (b c : Bool) → afterwards (if b then Mark Second ∷ [] else if c then Case Settle ∷ End ∷ []
      else [])
      ≡ lock_after (if b then changes.Nothing else if c then changes.Settle else changes.Nothing) t s.lock
  counts true c = refl
  counts false c = settled c

  -- a case, at the end of its call or not
  does : (b : Bool) (c : locks.LockCase) → afterwards (does_and_wakes b (Case c)) ≡ locks.after_case r c
      s.lock t
  does true c = refl
  does false c = refl

  -- a writer that entered falls back to nothing, and one that upgrades to its right
  rolled : (b : Bool) → s.lock.pending ≡ Some (record {
    thread = t;
    falls_back = false;
  }) → afterwards (does_and_wakes b (Case Rollback)) ≡ lock_after (changes.RollBack false) t s.lock
  rolled b e = does b Rollback ∙ rw e refl

  fell : (b : Bool) → s.lock.pending ≡ Some (record { thread = t; falls_back = true })
      → afterwards (does_and_wakes b (Case Rollback)) ≡ lock_after (changes.RollBack true) t s.lock
  fell b e = does b Rollback ∙ rw e refl

  left : (x : Access) (b : Bool) → afterwards (does_and_wakes b (Case (Leave (wanted x)))) ≡ lock_after
      (changes.Leave x) t s.lock
  left x b = does b (Leave (wanted x))

  downgraded : (d : Downgrade) (b : Bool)
      → afterwards (does_and_wakes b (Case (Convert (wanted (from_of d)) (wanted (to_of d))))) ≡ lock_after
      (changes.Downgrade d) t s.lock
  downgraded downgrade.ToShared b = does b (Convert Exclusive Shared)
  downgraded downgrade.ToUpgradable b = does b (Convert Exclusive Upgradable)
  downgraded downgrade.UpgradableToShared b = does b (Convert Upgradable Shared)

  -- an upgrade owns where it sees one reader, itself
  upgraded : (b c : Bool) → (readers s.lock == 0) ≡ c
      → afterwards (does_and_wakes b (Case (Convert Upgradable Exclusive))) ≡ lock_after (changes.Upgrade c) t
      s.lock
  upgraded b true e = does b (Convert Upgradable Exclusive) ∙ rw e refl
  upgraded b false e = does b (Convert Upgradable Exclusive) ∙ rw e refl

  module _ (admits : Admits r a) where
    tells : TellsTrue r s
    tells = words_tell_true r s admits.0 h

    alone : Owns s.lock t Upgradable → (b : Bool) → (count_in v == 1) ≡ b → (readers s.lock == 0) ≡ b
    alone own b e = let c = tells.count in grind (arith, nat_tests)

    module _ (again : Bool) where
      abbrev of : RwLockPurpose → RwLockAt → RwLockPlace
      of q to = record { purpose = q; retries = again; at = to }

      -- the owners after a step at a place
      abbrev Owned : RwLockPlace → Type 0
      Owned p = afterwards (rwlock_deeds a p None (reply.Value v)) ≡ lock_after (change a p v) t s.lock

      enters_owners : (x : Access) (how : Patience) (to : RwLockAt) → AtFits (purpose.Enter x how) to
          → s.role t ≡ rwlock_role (of (purpose.Enter x how) to)
          → rwlock_act l a (of (purpose.Enter x how) to) ≡ act.Word l f → Owned (of (purpose.Enter x how) to)
      enters_owners x how at.First fits is e = first how (v == 0)
      enters_owners x how at.Load fits is e = looks_same (decision a (wanted x) how v)
      enters_owners x how (at.Decide expected) fits is e =
          exchanged x how (decision a (wanted x) how expected) (decision a (wanted x) how v) (v == expected)
      enters_owners x how (at.Park parking.Clear) fits is e = refl
      enters_owners x how at.Look fits is e = settled (count_in v == 0)
      enters_owners x how (at.Count expected) fits is e = counts (v == expected) (count_in v == 0)
      enters_owners x how (at.Aside parking.Clear) fits is e = refl
      enters_owners x how at.RollBack fits is e = rolled _ (h.held t (Pends false) (grind (arith, is)))
      enters_owners x how (at.Wake Main (waking.Clear any)) fits is e = refl
      enters_owners x how (at.Wake Second (waking.Clear any)) fits is e = refl
      enters_owners x how at.GiveWay fits is e = absurd fits
      enters_owners x how to fits is e = absurd cc

      releases_owners : (x : Access) (to : RwLockAt) → AtFits (purpose.Release x) to
          → rwlock_act l a (of (purpose.Release x) to) ≡ act.Word l f → Owned (of (purpose.Release x) to)
      releases_owners x at.GiveWay fits e = left x (sees_waiter (wanted x) v)
      releases_owners x (at.Wake Main (waking.Clear any)) fits e = refl
      releases_owners x (at.Wake Second (waking.Clear any)) fits e = refl
      releases_owners x (at.Wake m to) fits e = absurd cc
      releases_owners x to fits e = absurd fits

      downgrades_owners : (d : Downgrade) (to : RwLockAt) → AtFits (purpose.Downgrade d) to
          → rwlock_act l a (of (purpose.Downgrade d) to) ≡ act.Word l f → Owned (of (purpose.Downgrade d) to)
      downgrades_owners d at.GiveWay fits e = downgraded d (has_parked v)
      downgrades_owners d (at.Wake Main (waking.Clear any)) fits e = refl
      downgrades_owners d (at.Wake Main to) fits e = absurd cc
      downgrades_owners d to fits e = absurd fits

      pending_owners : (how : Patience) (to : RwLockAt) → AtPending to → s.role t ≡ rwlock_role
          (of (purpose.Upgrade how) to) → rwlock_act l a (of (purpose.Upgrade how) to) ≡ act.Word l f
          → Owned (of (purpose.Upgrade how) to)
      pending_owners how at.GiveWay fits is e = upgraded (not (count_in v == 1)) (count_in v == 1)
          (alone (h.held t (Has Upgradable) (grind (arith, is))) (count_in v == 1) refl)
      pending_owners how at.Look fits is e = settled (count_in v == 0)
      pending_owners how (at.Count expected) fits is e = counts (v == expected) (count_in v == 0)
      pending_owners how (at.Aside parking.Clear) fits is e = refl
      pending_owners how at.RollBack fits is e = fell _ (h.held t (Pends true) (grind (arith, is)))
      pending_owners how (at.Wake Main (waking.Clear any)) fits is e = refl
      pending_owners how (at.Aside to) fits is e = absurd cc
      pending_owners how at.Marked fits is e = absurd cc
      pending_owners how (at.Wake Main to) fits is e = absurd cc
      pending_owners how to fits is e = absurd fits

      looks_up : (b : Bool) → afterwards (looked_deeds (if b then decisions.Take else decisions.Refuse No))
          ≡ s.lock
      looks_up true = refl
      looks_up false = refl

      takes_up : (how : Patience) (expected : ℕ) (b : Bool) → (count_in expected == 1) ≡ b
          → decided_act l (purpose.Upgrade how) expected (if b then decisions.Take else decisions.Refuse No)
          ≡ act.Word l f → (c : Bool) → (v == expected) ≡ c → Owns s.lock t Upgradable
          → afterwards (exchanged_deeds (purpose.Upgrade how) (if b then decisions.Take else decisions.Refuse
          No)
          c (if count_in v == 1 then decisions.Take else decisions.Refuse No)) ≡ lock_after
          (if c then came_change (purpose.Upgrade how) (if b then decisions.Take else decisions.Refuse No)
          else changes.Nothing) t s.lock
      takes_up how expected true one e true ec own =
          upgraded false true (alone own true (ap (λ n. count_in n == 1) (eqb-true v expected ec) ∙ one))
      takes_up how expected true one e false ec own = looks_up (count_in v == 1)
      takes_up how expected false one e c ec own = absurd cc

      try_owners : (to : RwLockAt) → AtTry to → s.role t ≡ rwlock_role (of (purpose.Upgrade Try) to)
          → rwlock_act l a (of (purpose.Upgrade Try) to) ≡ act.Word l f → Owned (of (purpose.Upgrade Try) to)
      try_owners at.Load fits is e = looks_up (count_in v == 1)
      try_owners (at.Decide expected) fits is e = takes_up Try expected (count_in expected == 1) refl e
          (v == expected) refl (h.held t (Has Upgradable) (grind (arith, is)))
      try_owners to fits is e = absurd fits

abbrev IsOwned : Rules → Admission → Site → ℕ → RwLockPlace → Type 0
IsOwned r a s t p =
    (after_all r (rwlock_deeds a p None (reply.Value (code r s))) s t).lock
    ≡ lock_after (change a p (code r s)) t s.lock

-- each step on the word changes the lock as its deeds say
owned_all : (r : Rules) (a : Admission) (s : Site) (t l : ℕ) (p : RwLockPlace) (f : Op) → IsAt r a s t p
    → rwlock_act l a p ≡ act.Word l f → IsOwned r a s t p
owned_all r a s t l p f at e = by_purpose p.purpose p.retries p.at at.place at.role e
  where
    by_patience : (how : Patience) (again : Bool) (to : RwLockAt) → AtUpgrade how to → s.role t
        ≡ rwlock_role (record {
          purpose = purpose.Upgrade how;
          retries = again;
          at = to;
        })
        → rwlock_act l a (record {
          purpose = purpose.Upgrade how;
          retries = again;
          at = to;
        }) ≡ act.Word l f → IsOwned r a s t (record {
          purpose = purpose.Upgrade how;
          retries = again;
          at = to;
        })
    by_patience Try again to fits is g = try_owners r a s t l f at.site at.admits again to fits is g
    by_patience Patient again to fits is g = pending_owners r a s t l f at.site at.admits again Patient to
        fits is g
    by_patience Timed again to fits is g = pending_owners r a s t l f at.site at.admits again Timed to fits is
        g

    by_purpose : (q : RwLockPurpose) (again : Bool) (to : RwLockAt) → AtFits q to → s.role t
        ≡ rwlock_role (record {
          purpose = q;
          retries = again;
          at = to;
        })
        → rwlock_act l a (record {
          purpose = q;
          retries = again;
          at = to;
        }) ≡ act.Word l f → IsOwned r a s t (record { purpose = q; retries = again; at = to })
    by_purpose (purpose.Enter x how) again to fits is g = enters_owners r a s t l f at.site at.admits again x
        how to fits is g
    by_purpose (purpose.Release x) again to fits is g = releases_owners r a s t l f at.site at.admits again x
        to fits g
    by_purpose (purpose.Downgrade d) again to fits is g = downgrades_owners r a s t l f at.site at.admits
        again d to fits g
    by_purpose (purpose.Upgrade how) again to fits is g = by_patience how again to fits is g

pub rwlock_owners_follow : RwLockOwnersFollow
rwlock_owners_follow r a s t l p f shared o main second taken at e room limit is =
    seen shared o main second taken t (change a p (code r s)) few ∙ ap (lock_after (change a p (code r s)) t)
    (sym is) ∙ sym (owned_all r a s t l p f at e)
  where
    few : slice_index shared t + 1 < 2 ^ 64
    few = let all : readers s.lock ≡ sum shared = ap readers is in
        let one : slice_index shared t ≤ sum shared = share_of shared t in
        let top : locks.count s.lock ≤ r.limit + 1 = limit.top in
        let same : r.limit ≡ a.limit = at.admits.2 in
        omega arith
