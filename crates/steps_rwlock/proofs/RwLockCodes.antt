-- Each step on the word of a reader-writer lock leads to the word of the lock after it.
use Rattle.std.proofs.Common.{ℕ, Bool, true, false, Some, None, List, [], ◌∷◌, if◌then◌else◌, ◌==◌, ◌&&◌}
use Rattle.std.proofs.Common.{◌||◌, ◌≡◌, ◌+◌, ◌*◌, ◌-◌, ◌%◌, ◌^◌, ◌≤◌, ◌<◌, not, refl, ap, ◌∙◌, sym, length}
use Rattle.std.proofs.Common.{arith, nat_le}
use Rattle.std.proofs.lemmas.Bool.{eqb-true}
use Rattle.std.proofs.lemmas.Bool.Decides.{nat_tests}
use Rattle.core_base.specs.Words.{apply}
use Rattle.core_base.specs.declared.keys.Keys.TheVariants.{One}
use Rattle.core_base.specs.declared.keys.Line.{Line}
use Rattle.core_base.specs.declared.keys.Line.TheVariants.{Main, Second}
use Rattle.core_base.specs.declared.ops.Op.{Op}
use Rattle.core_base.specs.declared.ops.Op.TheVariants as op
use Rattle.core_base.specs.declared.wants.Want.{Want}
use Rattle.core_base.specs.declared.wants.Want.TheVariants.{Exclusive, Upgradable, Shared}
use Rattle.spec_locks.specs.declared.calls.Access.{Access}
use Rattle.spec_locks.specs.declared.calls.Access.TheVariants as access
use Rattle.spec_locks.specs.declared.calls.Downgrade.{Downgrade}
use Rattle.spec_locks.specs.declared.calls.Downgrade.TheVariants as downgrade
use Rattle.spec_locks.specs.declared.calls.Patience.{Patience}
use Rattle.spec_locks.specs.declared.calls.Patience.TheVariants.{Patient, Timed, Try}
use Rattle.spec_locks.specs.declared.outcomes.Answer.TheVariants.{No, ReadersFull}
use Rattle.spec_locks.specs.Locks.{Rules, LockCase, Enter, Pend, Settle, Leave, Convert, Rollback, Owns}
use Rattle.spec_locks.specs.Sites.{Has, Pends, Site, IsSite, Deed, End, Mark, Clear, Case, Needed, after_deed}
use Rattle.spec_locks.specs.Sites.{has_readers}
use Rattle.spec_locks.specs.Codes.{code, rw_code, TellsTrue, HasLimit, count_in, has_writer, has_upgradable}
use Rattle.spec_locks.specs.Codes.{has_parked, has_aside, is_blocked, lost, rolled, IsHandOff}
use Rattle.spec_locks.proofs.Seen.{clears_low, clears_second}
use Rattle.spec_locks.proofs.CodeLaws.{follows, rw_is, low_is, second_is, words_tell_true}
use Rattle.steps_base.specs.declared.acts.Act.TheVariants as act
use Rattle.steps_base.specs.declared.acts.Reply.TheVariants as reply
use Rattle.steps_rwlock.specs.declared.places.Admission.{Admission}
use Rattle.steps_rwlock.specs.declared.places.RwLockPlace.{RwLockPlace}
use Rattle.steps_rwlock.specs.declared.purposes.RwLockPurpose.{RwLockPurpose}
use Rattle.steps_rwlock.specs.declared.purposes.RwLockPurpose.TheVariants as purpose
use Rattle.steps_rwlock.specs.declared.places.RwLockAt.{RwLockAt}
use Rattle.steps_rwlock.specs.declared.places.RwLockAt.TheVariants as at
use Rattle.steps_rwlock.specs.declared.enter.Decision.{Decision}
use Rattle.steps_rwlock.specs.declared.enter.Decision.TheVariants as decisions
use Rattle.steps_rwlock.specs.declared.park.ParkAt.TheVariants as parking
use Rattle.steps_rwlock.specs.declared.release.WakeAt.TheVariants as waking
use Rattle.steps_rwlock.specs.RwLockSteps.{wanted, from_of, to_of, give_op, token, is_counted, park_or_mark}
use Rattle.steps_rwlock.specs.RwLockSteps.{decision_blocked, decision, decided_act, rwlock_act, plus}
use Rattle.steps_rwlock.specs.RwLockSteps.{unparked}
use Rattle.steps_rwlock.specs.RwLockDeeds.{at_rest, enters_deeds, rwlock_role, missed_deeds, looked_deeds}
use Rattle.steps_rwlock.specs.RwLockDeeds.{exchanged_deeds, counted_deeds, does_and_wakes, sees_waiter}
use Rattle.steps_rwlock.specs.RwLockDeeds.{rwlock_deeds, AllNeeded, after_all, Admits, AtFits, AtTry}
use Rattle.steps_rwlock.specs.RwLockDeeds.{AtPending, AtUpgrade, RwLockStepsCode}
use Rattle.steps_rwlock.proofs.RwLockFit.{rwlock_steps_follow}

subtracts : (v by c : ℕ) → v < 2 ^ 64 → by ≤ v → c + by ≡ v → (v + (2 ^ 64 - by)) % 2 ^ 64 ≡ c
subtracts v by c lt le e = omega arith

module _ (r : Rules) (s : Site) (t : ℕ) (rw_sort : has_readers r.sort ≡ true) (h : IsSite r s)
    (tells : TellsTrue r s) (there : t < length s.lock.shared) (small : code r s < 2 ^ 64) where
  coded : (x : Site) → code r x ≡ rw_code x
  coded x = rw_is r.sort r.limit x rw_sort

  -- the word after deeds
  abbrev afterwards : List Deed → ℕ
  afterwards ds = code r (after_all r ds s t)

  past_end : afterwards (End ∷ []) ≡ code r s
  past_end = coded (after_deed r End s t) ∙ sym (coded s)

  -- a case, at the end of its call or not
  past_case : (c : LockCase) → Needed r (Case c) s t → (IsHandOff c → ⊥)
      → code r (after_deed r (Case c) s t) + lost s.lock.pending c ≡ code r s + rolled s.lock.pending c
  past_case c n other = rw (coded (after_deed r (Case c) s t), coded s) (follows r s t rw_sort there h c n
      other)

  after_case_end : (c : LockCase) → Needed r (Case c) s t → (IsHandOff c → ⊥)
      → code r (after_deed r End (after_deed r (Case c) s t) t) + lost s.lock.pending c ≡ code r s
      + rolled s.lock.pending c
  after_case_end c n other = rw (coded (after_deed r End (after_deed r (Case c) s t) t), coded s)
      (follows r s t rw_sort there h c n other)

  after_looks : (d : Decision) → afterwards (looked_deeds d) ≡ code r s
  after_looks (decisions.Refuse answer) = past_end
  after_looks decisions.Take = refl
  after_looks decisions.Mark = refl
  after_looks decisions.Park = refl

  after_missed : (how : Patience) → afterwards (missed_deeds how) ≡ code r s
  after_missed Try = past_end
  after_missed Patient = refl
  after_missed Timed = refl

  marked : s.parked ≡ false → afterwards (Mark Main ∷ []) ≡ code r s + 1
  marked e = rw (coded (after_deed r (Mark Main) s t), coded s) (grind (arith, e))

  marked_aside : s.aside_parked ≡ false → afterwards (Mark Second ∷ []) ≡ code r s + 2
  marked_aside e = rw (coded (after_deed r (Mark Second) s t), coded s) (grind (arith, e))

  clears : (m : Line) → apply (unparked m) (code r s) ≡ afterwards (Clear m ∷ [])
  clears Main = rw (coded (after_deed r (Clear Main) s t), coded s) (let a =
      clears_low (rw_code s) (rw (coded s) at small) in let b = low_is r s h in omega arith)
  clears Second = rw (coded (after_deed r (Clear Second) s t), coded s) (let a =
      clears_second (rw_code s) (rw (coded s) at small) in let b = second_is r s h in omega arith)

  comes : (x : Access) → AllNeeded r (enters_deeds (wanted x)) s t → afterwards (enters_deeds (wanted x))
      ≡ code r s + token (wanted x)
  comes access.Exclusive n = let e = past_case Pend n.0 (λ f. f) in omega arith
  comes access.Upgradable n = let e = after_case_end (Enter Upgradable) n.0 (λ f. f) in omega arith
  comes access.Shared n = let e = after_case_end (Enter Shared) n.0 (λ f. f) in omega arith

  counts : (b : Bool) → AllNeeded r (if b then Case Settle ∷ End ∷ [] else []) s t
      → afterwards (if b then Case Settle ∷ End ∷ [] else []) ≡ code r s
  counts true n = let e = after_case_end Settle n.0 (λ f. f) in omega arith
  counts false n = refl

  gives : (x : Access) (b : Bool) → AllNeeded r (does_and_wakes b (Case (Leave (wanted x)))) s t
      → afterwards (does_and_wakes b (Case (Leave (wanted x)))) + token (wanted x) ≡ code r s
  gives access.Shared true n = let e = past_case (Leave Shared) n.0 (λ f. f) in omega arith
  gives access.Shared false n = let e = after_case_end (Leave Shared) n.0 (λ f. f) in omega arith
  gives access.Exclusive true n = let e = past_case (Leave Exclusive) n.0 (λ f. f) in omega arith
  gives access.Exclusive false n = let e = after_case_end (Leave Exclusive) n.0 (λ f. f) in omega arith
  gives access.Upgradable true n = let e = past_case (Leave Upgradable) n.0 (λ f. f) in omega arith
  gives access.Upgradable false n = let e = after_case_end (Leave Upgradable) n.0 (λ f. f) in omega arith

  -- a writer that falls back to nothing
  rolls : (b : Bool) → s.lock.pending ≡ Some (record {
    thread = t;
    falls_back = false;
  }) → AllNeeded r (does_and_wakes b (Case Rollback)) s t → afterwards (does_and_wakes b (Case Rollback)) + 8
      ≡ code r s
  rolls true e n = let f = past_case Rollback n.0 (λ g. g) in let k : rolled s.lock.pending Rollback ≡ 0 =
      rw e refl in omega arith
  rolls false e n = let f = after_case_end Rollback n.0 (λ g. g) in let k : rolled s.lock.pending Rollback
      ≡ 0 = rw e refl in omega arith

  -- A pending writer falls back to the upgradable right.
  falls : (b : Bool) → s.lock.pending ≡ Some (record { thread = t; falls_back = true })
      → AllNeeded r (does_and_wakes b (Case Rollback)) s t → afterwards (does_and_wakes b (Case Rollback))
      ≡ code r s + 12
  falls true e n = let f = past_case Rollback n.0 (λ g. g) in let k : rolled s.lock.pending Rollback ≡ 20 =
      rw e refl in omega arith
  falls false e n = let f = after_case_end Rollback n.0 (λ g. g) in let k : rolled s.lock.pending Rollback
      ≡ 20 = rw e refl in omega arith

  -- conversions
  to_shared : (b : Bool) → AllNeeded r (does_and_wakes b (Case (Convert Exclusive Shared))) s t
      → afterwards (does_and_wakes b (Case (Convert Exclusive Shared))) ≡ code r s + 8
  to_shared true n = let e = past_case (Convert Exclusive Shared) n.0 (λ f. f) in omega arith
  to_shared false n = let e = after_case_end (Convert Exclusive Shared) n.0 (λ f. f) in omega arith

  to_upgradable : (b : Bool) → AllNeeded r (does_and_wakes b (Case (Convert Exclusive Upgradable))) s t
      → afterwards (does_and_wakes b (Case (Convert Exclusive Upgradable))) ≡ code r s + 12
  to_upgradable true n = let e = past_case (Convert Exclusive Upgradable) n.0 (λ f. f) in omega arith
  to_upgradable false n = let e = after_case_end (Convert Exclusive Upgradable) n.0 (λ f. f) in omega arith

  upgradable_to_shared : (b : Bool) → AllNeeded r (does_and_wakes b (Case (Convert Upgradable Shared))) s t
      → afterwards (does_and_wakes b (Case (Convert Upgradable Shared))) + 4 ≡ code r s
  upgradable_to_shared true n = let e = past_case (Convert Upgradable Shared) n.0 (λ f. f) in omega arith
  upgradable_to_shared false n = let e = after_case_end (Convert Upgradable Shared) n.0 (λ f. f)
      in omega arith

  upgrades : (b : Bool) → AllNeeded r (does_and_wakes b (Case (Convert Upgradable Exclusive))) s t
      → afterwards (does_and_wakes b (Case (Convert Upgradable Exclusive))) + 12 ≡ code r s
  upgrades true n = let e = past_case (Convert Upgradable Exclusive) n.0 (λ f. f) in omega arith
  upgrades false n = let e = after_case_end (Convert Upgradable Exclusive) n.0 (λ f. f) in omega arith

  -- beside an exclusive owner nobody shares
  lone : Owns s.lock t Exclusive → code r s < 16
  lone own = let alone = h.state.exclusive_alone t own in let c : count_in (code r s) ≡ 0 = tells.count
      ∙ rw (alone.1, alone.2) refl in omega arith

-- ---------------------------------------------------------------- sums that don't wrap

pub fits_even : (v : ℕ) → v < 2 ^ 64 → has_parked v ≡ false → (v + 1) % 2 ^ 64 ≡ v + 1
fits_even v lt e = grind (arith, nat_tests)

pub fits_aside : (v : ℕ) → v < 2 ^ 64 → has_aside v ≡ false → (v + 2) % 2 ^ 64 ≡ v + 2
fits_aside v lt e = grind (arith, nat_tests)

fits_writer : (v : ℕ) → v < 2 ^ 64 → (has_writer v || has_upgradable v) ≡ false → (v + 8) % 2 ^ 64 ≡ v + 8
fits_writer v lt e = grind (arith, nat_tests)

fits_upgradable : (v limit : ℕ) → limit < 2 ^ 60 → (has_writer v || has_upgradable v) ≡ false
    → nat_le limit (count_in v) ≡ false → (v + 20) % 2 ^ 64 ≡ v + 20
fits_upgradable v limit few e f = grind (arith, nat_tests)

fits_reader : (v limit : ℕ) → limit < 2 ^ 60 → nat_le limit (count_in v) ≡ false → (v + 16) % 2 ^ 64 ≡ v + 16
fits_reader v limit few f = grind (arith, nat_tests)

takes_no : (b : Bool) → park_or_mark b ≡ decisions.Take → ⊥
takes_no true e = cc
takes_no false e = cc

blocked_takes_no : (how : Patience) (v : ℕ) → decision_blocked how v ≡ decisions.Take → ⊥
blocked_takes_no Try v e = cc
blocked_takes_no Patient v e = takes_no (has_parked v) e
blocked_takes_no Timed v e = takes_no (has_parked v) e

marks_unset : (b : Bool) → park_or_mark b ≡ decisions.Mark → b ≡ false
marks_unset true e = absurd cc
marks_unset false e = refl

pub blocked_unset : (how : Patience) (v : ℕ) → decision_blocked how v ≡ decisions.Mark → has_parked v ≡ false
blocked_unset Try v e = absurd cc
blocked_unset Patient v e = marks_unset (has_parked v) e
blocked_unset Timed v e = marks_unset (has_parked v) e

module _ (a : Admission) (how : Patience) (v : ℕ) (small : v < 2 ^ 64) (few : a.limit < 2 ^ 60) where
  -- the right that is taken fits into the word
  take_fits : (x : Access) → decision a (wanted x) how v ≡ decisions.Take → plus v (token (wanted x)) ≡ v
      + token (wanted x)
  take_fits x e = by_tests (is_blocked a.recursive (wanted x) v) refl (is_counted (wanted x) && nat_le a.limit
      (count_in v)) refl e
    where
      by_access : (x : Access) → is_blocked a.recursive (wanted x) v ≡ false
          → (is_counted (wanted x) && nat_le a.limit (count_in v)) ≡ false → plus v (token (wanted x)) ≡ v
          + token (wanted x)
      by_access access.Exclusive eb ec = fits_writer v small eb
      by_access access.Upgradable eb ec = fits_upgradable v a.limit few eb ec
      by_access access.Shared eb ec = fits_reader v a.limit few ec

      by_tests : (b : Bool) → is_blocked a.recursive (wanted x) v ≡ b → (c : Bool)
          → (is_counted (wanted x) && nat_le a.limit (count_in v)) ≡ c
          → (if b then decision_blocked how v else if c then decisions.Refuse ReadersFull else decisions.Take)
          ≡ decisions.Take → plus v (token (wanted x)) ≡ v + token (wanted x)
      by_tests false eb false ec f = by_access x eb ec
      by_tests false eb true ec f = absurd cc
      by_tests true eb c ec f = absurd (blocked_takes_no how v f)

  -- the bit that is marked was clear
  mark_fits : (x : Want) → decision a x how v ≡ decisions.Mark → has_parked v ≡ false
  mark_fits x e = by_tests (is_blocked a.recursive x v) (is_counted x && nat_le a.limit (count_in v)) e
    where
      by_tests : (b c : Bool) → (if b then decision_blocked how v else if c then decisions.Refuse ReadersFull
          else decisions.Take) ≡ decisions.Mark → has_parked v ≡ false
      by_tests true c f = blocked_unset how v f
      by_tests false true f = absurd cc
      by_tests false false f = absurd cc

-- ---------------------------------------------------------------- all places

module _ (r : Rules) (a : Admission) (s : Site) (t l : ℕ) (f : Op) (admits : Admits r a) (h : IsSite r s)
    (there : t < length s.lock.shared) (small : code r s < 2 ^ 64) (few : a.limit < 2 ^ 60 - 1)
    (limit : HasLimit r s.lock) where
  tells : TellsTrue r s
  tells = words_tell_true r s admits.0 h

  abbrev v : ℕ
  v = code r s

  fewer : a.limit < 2 ^ 60
  fewer = omega arith

  -- the operation leads to the word after deeds that are needed
  abbrev Leads : List Deed → Type 0
  Leads ds = AllNeeded r ds s t → apply f v ≡ code r (after_all r ds s t)

  -- an exchange leads where it would, or nowhere
  exchanged : (from to : ℕ) → f ≡ op.Exchange from to → (won missed : List Deed) → (b : Bool)
      → (v == from) ≡ b
      → (v ≡ from → AllNeeded r won s t → code r (after_all r won s t) ≡ to)
      → (AllNeeded r missed s t → code r (after_all r missed s t) ≡ v)
      → Leads (if b then won else missed)
  exchanged from to is won missed true e hit miss n = rw (is, e) (sym (hit (eqb-true v from e) n))
  exchanged from to is won missed false e hit miss n = rw (is, e) (sym (miss n))

  clears_fit : (m : Line) → f ≡ unparked m → Leads (Clear m ∷ [])
  clears_fit m is n = rw is (clears r s t admits.0 h tells there small m)

  module _ (x : Access) (how : Patience) (again : Bool) where
    abbrev place : RwLockAt → RwLockPlace
    place to = record { purpose = purpose.Enter x how; retries = again; at = to }

    looks_same : AllNeeded r (looked_deeds (decision a (wanted x) how v)) s t
        → code r (after_all r (looked_deeds (decision a (wanted x) how v)) s t) ≡ v
    looks_same n = after_looks r s t admits.0 h tells there small (decision a (wanted x) how v)

    decides : (expected : ℕ) (d : Decision) → decision a (wanted x) how expected ≡ d
        → decided_act l (purpose.Enter x how) expected d ≡ act.Word l f → (b : Bool) → (v == expected) ≡ b
        → Leads (exchanged_deeds (purpose.Enter x how) d b (decision a (wanted x) how v))
    decides expected decisions.Take de e true be n =
        let same = eqb-true v expected be in let is : f ≡ op.Exchange expected
        (plus expected (token (wanted x))) = cc in
        rw (is, be) (sym (comes r s t admits.0 h tells there small x n
        ∙ sym (take_fits a how v small fewer x (rw same de)) ∙ ap (λ y. plus y (token (wanted x))) same))
    decides expected decisions.Take de e false be n = let is : f ≡ op.Exchange expected
        (plus expected (token (wanted x))) = cc in rw (is, be) (sym (looks_same n))
    decides expected decisions.Mark de e true be n =
        let same = eqb-true v expected be in let is : f ≡ op.Exchange expected (plus expected 1) = cc in
        let clear : has_parked v ≡ false = mark_fits a how v small fewer (wanted x) (rw same de) in
        rw (is, be) (sym (marked r s t admits.0 h tells there small (sym tells.parked ∙ clear)
        ∙ sym (fits_even v small clear) ∙ ap (λ y. plus y 1) same))
    decides expected decisions.Mark de e false be n = let is : f ≡ op.Exchange expected (plus expected 1) = cc
        in rw (is, be) (sym (looks_same n))
    decides expected decisions.Park de e b be n = absurd cc
    decides expected (decisions.Refuse answer) de e b be n = absurd cc

    counts_same : AllNeeded r (counted_deeds v) s t → code r (after_all r (counted_deeds v) s t) ≡ v
    counts_same n = counts r s t admits.0 h tells there small (count_in v == 0) n

    sets_aside : (expected : ℕ) (b : Bool) → has_aside expected ≡ b
        → (if b then act.Enter (One (2 * l + 1)) else act.Word l (op.Exchange expected (plus expected 2)))
        ≡ act.Word l f → (c : Bool) → (v == expected) ≡ c
        → Leads (if c then Mark Second ∷ [] else counted_deeds v)
    sets_aside expected true eb e c ec n = absurd cc
    sets_aside expected false eb e true ec n =
        let same = eqb-true v expected ec in let is : f ≡ op.Exchange expected (plus expected 2) = cc in
        let clear : has_aside v ≡ false = rw same eb in
        rw (is, ec) (sym (marked_aside r s t admits.0 h tells there small (sym tells.aside ∙ clear)
        ∙ sym (fits_aside v small clear) ∙ ap (λ y. plus y 2) same))
    sets_aside expected false eb e false ec n = let is : f ≡ op.Exchange expected (plus expected 2) = cc
        in rw (is, ec) (sym (counts_same n))

    enters_code : (to : RwLockAt) → AtFits (purpose.Enter x how) to → s.role t ≡ rwlock_role (place to)
        → rwlock_act l a (place to) ≡ act.Word l f → Leads (rwlock_deeds a (place to) None (reply.Value v))
    enters_code at.First fits is e n = let same : f ≡ op.Exchange 0 8 = cc
        in exchanged 0 8 same (Case (Enter Exclusive) ∷ End ∷ []) (missed_deeds how) (v == 0) refl
        (λ same k. let g = after_case_end r s t admits.0 h tells there small (Enter Exclusive) k.0 (λ g. g)
        in omega arith) (λ k. after_missed r s t admits.0 h tells there small how) n
    enters_code at.Load fits is e n = let same : f ≡ op.Load = cc in rw same (sym (looks_same n))
    enters_code (at.Decide expected) fits is e n = decides expected (decision a (wanted x) how expected) refl
        e (v == expected) refl n
    enters_code (at.Park parking.Clear) fits is e n = let same : f ≡ unparked Main = cc
        in clears_fit Main same n
    enters_code at.Look fits is e n = let same : f ≡ op.Load = cc in rw same (sym (counts_same n))
    enters_code (at.Count expected) fits is e n = sets_aside expected (has_aside expected) refl e
        (v == expected) refl n
    enters_code (at.Aside parking.Clear) fits is e n = let same : f ≡ unparked Second = cc
        in clears_fit Second same n
    enters_code at.RollBack fits is e n =
        let same : f ≡ op.Sub 8 = cc in let own : s.lock.pending ≡ Some (record {
          thread = t;
          falls_back = false;
        }) = h.held t (Pends false) (grind (arith, is)) in
        let g = rolls r s t admits.0 h tells there small (has_parked v) own n
        in rw same (subtracts v 8 _ small (omega arith) g)
    enters_code (at.Wake m (waking.Clear any)) fits is e n = let same : f ≡ unparked m = cc
        in clears_fit m same n
    enters_code at.GiveWay fits is e n = absurd fits
    enters_code to fits is e n = absurd cc

  -- sums and differences
  subtracted : (by c : ℕ) → f ≡ op.Sub by → by ≤ v → c + by ≡ v → apply f v ≡ c
  subtracted by c is le e = rw is (subtracts v by c small le e)

  added : (by c : ℕ) → f ≡ op.Add by → v + by < 2 ^ 64 → c ≡ v + by → apply f v ≡ c
  added by c is lt e = rw is (let g : (v + by) % 2 ^ 64 ≡ v + by = omega arith in g ∙ sym e)

  module _ (again : Bool) where
    abbrev of : RwLockPurpose → RwLockAt → RwLockPlace
    of q to = record { purpose = q; retries = again; at = to }

    releases_code : (x : Access) (to : RwLockAt) → AtFits (purpose.Release x) to
        → rwlock_act l a (of (purpose.Release x) to) ≡ act.Word l f
        → Leads (rwlock_deeds a (of (purpose.Release x) to) None (reply.Value v))
    releases_code x at.GiveWay fits e n =
        let same : f ≡ op.Sub (token (wanted x)) = cc in let g = gives r s t admits.0 h tells there small x
        (sees_waiter (wanted x) v) n in subtracted (token (wanted x)) _ same (omega arith) g
    releases_code x (at.Wake m (waking.Clear any)) fits e n = let same : f ≡ unparked m = cc
        in clears_fit m same n
    releases_code x (at.Wake m to) fits e n = absurd cc
    releases_code x to fits e n = absurd fits

    downgraded : (d : Downgrade) (b : Bool) → f ≡ give_op (purpose.Downgrade d)
        → s.role t ≡ at_rest None (Some (Has (wanted (from_of d))))
        → Leads (does_and_wakes b (Case (Convert (wanted (from_of d)) (wanted (to_of d)))))
    downgraded downgrade.ToShared b is own n = let lt = lone r s t admits.0 h tells there small
        (h.held t (Has Exclusive) (grind (arith, own))) in added 8 _ is (omega arith)
        (to_shared r s t admits.0 h tells there small b n)
    downgraded downgrade.ToUpgradable b is own n = let lt = lone r s t admits.0 h tells there small
        (h.held t (Has Exclusive) (grind (arith, own))) in added 12 _ is (omega arith)
        (to_upgradable r s t admits.0 h tells there small b n)
    downgraded downgrade.UpgradableToShared b is own n = let g = upgradable_to_shared r s t admits.0 h tells
        there small b n in subtracted 4 _ is (omega arith) g

    downgrades_code : (d : Downgrade) (to : RwLockAt) → AtFits (purpose.Downgrade d) to → s.role t
        ≡ rwlock_role (of (purpose.Downgrade d) to) → rwlock_act l a (of (purpose.Downgrade d) to)
        ≡ act.Word l f → Leads (rwlock_deeds a (of (purpose.Downgrade d) to) None (reply.Value v))
    downgrades_code d at.GiveWay fits is e n = let same : f ≡ give_op (purpose.Downgrade d) = cc
        in downgraded d (has_parked v) same is n
    downgrades_code d (at.Wake Main (waking.Clear any)) fits is e n = let same : f ≡ unparked Main = cc
        in clears_fit Main same n
    downgrades_code d (at.Wake Main to) fits is e n = absurd cc
    downgrades_code d to fits is e n = absurd fits

    module _ (how : Patience) where
      abbrev upgrade : RwLockAt → RwLockPlace
      upgrade to = of (purpose.Upgrade how) to

      upgrade_counts_same : AllNeeded r (counted_deeds v) s t → code r (after_all r (counted_deeds v) s t) ≡ v
      upgrade_counts_same n = counts r s t admits.0 h tells there small (count_in v == 0) n

      upgrade_sets : (expected : ℕ) (b : Bool) → has_aside expected ≡ b
          → (if b then act.Enter (One (2 * l + 1)) else act.Word l (op.Exchange expected (plus expected 2)))
          ≡ act.Word l f → (c : Bool) → (v == expected) ≡ c
          → Leads (if c then Mark Second ∷ [] else counted_deeds v)
      upgrade_sets expected b eb e c ec = sets_aside access.Exclusive how again expected b eb e c ec

      pending_code : (to : RwLockAt) → AtPending to → s.role t ≡ rwlock_role (upgrade to)
          → rwlock_act l a (upgrade to) ≡ act.Word l f
          → Leads (rwlock_deeds a (upgrade to) None (reply.Value v))
      pending_code at.GiveWay fits is e n = let same : f ≡ op.Sub 12 = cc in let g =
          upgrades r s t admits.0 h tells there small (not (count_in v == 1)) n
          in subtracted 12 _ same (omega arith) g
      pending_code at.Look fits is e n = let same : f ≡ op.Load = cc in rw same (sym (upgrade_counts_same n))
      pending_code (at.Count expected) fits is e n = upgrade_sets expected (has_aside expected) refl e
          (v == expected) refl n
      pending_code (at.Aside parking.Clear) fits is e n = let same : f ≡ unparked Second = cc
          in clears_fit Second same n
      pending_code at.RollBack fits is e n =
          let same : f ≡ op.Add 12 = cc in let own : s.lock.pending ≡ Some
          (record { thread = t; falls_back = true }) = h.held t (Pends true) (grind (arith, is)) in
          let top = limit.falls _ own refl in let c = tells.count in let m = admits.2 in
          added 12 _ same (omega arith) (falls r s t admits.0 h tells there small (has_parked v) own n)
      pending_code (at.Wake Main (waking.Clear any)) fits is e n = let same : f ≡ unparked Main = cc
          in clears_fit Main same n
      pending_code (at.Aside to) fits is e n = absurd cc
      pending_code at.Marked fits is e n = absurd cc
      pending_code (at.Wake Main to) fits is e n = absurd cc
      pending_code to fits is e n = absurd fits

      looks_up : (b : Bool) → code r
          (after_all r (looked_deeds (if b then decisions.Take else decisions.Refuse No)) s t) ≡ v
      looks_up true = refl
      looks_up false = past_end r s t admits.0 h tells there small

      takes_up : (expected : ℕ) (b : Bool) → (count_in expected == 1) ≡ b
          → decided_act l (purpose.Upgrade how) expected (if b then decisions.Take else decisions.Refuse No)
          ≡ act.Word l f → (c : Bool) → (v == expected) ≡ c
          → Leads (exchanged_deeds (purpose.Upgrade how) (if b then decisions.Take else decisions.Refuse No) c
          (if count_in v == 1 then decisions.Take else decisions.Refuse No))
      takes_up expected true one e true ec n =
          let same = eqb-true v expected ec in let is : f ≡ op.Exchange expected
          (apply (op.Sub 12) expected) = cc in
          let g = upgrades r s t admits.0 h tells there small false n in
          rw (is, ec) (ap (apply (op.Sub 12)) (sym same) ∙ subtracts v 12 _ small (omega arith) g)
      takes_up expected true one e false ec n = let is : f ≡ op.Exchange expected
          (apply (op.Sub 12) expected) = cc in rw (is, ec) (sym (looks_up (count_in v == 1)))
      takes_up expected false one e c ec n = absurd cc

      try_code : (to : RwLockAt) → AtTry to → rwlock_act l a (upgrade to) ≡ act.Word l f
          → Leads (rwlock_deeds a (upgrade to) None (reply.Value v))
      try_code at.Load fits e n = let same : f ≡ op.Load = cc in rw same (sym (looks_up (count_in v == 1)))
      try_code (at.Decide expected) fits e n = takes_up expected (count_in expected == 1) refl e
          (v == expected) refl n
      try_code to fits e n = absurd fits

abbrev IsCoded : Rules → Admission → Site → ℕ → Op → RwLockPlace → Type 0
IsCoded r a s t f p =
    AllNeeded r (rwlock_deeds a p None (reply.Value (code r s))) s t
    → apply f (code r s) ≡ code r (after_all r (rwlock_deeds a p None (reply.Value (code r s))) s t)

pub rwlock_steps_code : RwLockStepsCode
rwlock_steps_code r a s t l p f at nowhere e there small few limit = by_purpose p.purpose p.retries p.at
    at.place at.role e (rwlock_steps_follow r a s t l p f at nowhere e).needed
  where
    by_patience : (how : Patience) (again : Bool) (to : RwLockAt) → AtUpgrade how to → s.role t
        ≡ rwlock_role (record {
          purpose = purpose.Upgrade how;
          retries = again;
          at = to;
        })
        → rwlock_act l a (record {
          purpose = purpose.Upgrade how;
          retries = again;
          at = to;
        }) ≡ act.Word l f → IsCoded r a s t f (record {
          purpose = purpose.Upgrade how;
          retries = again;
          at = to;
        })
    by_patience Try again to fits is g n = try_code r a s t l f at.admits at.site there small few limit again
        Try to fits g n
    by_patience Patient again to fits is g n = pending_code r a s t l f at.admits at.site there small few
        limit again Patient to fits is g n
    by_patience Timed again to fits is g n = pending_code r a s t l f at.admits at.site there small few limit
        again Timed to fits is g n

    by_purpose : (q : RwLockPurpose) (again : Bool) (to : RwLockAt) → AtFits q to → s.role t
        ≡ rwlock_role (record {
          purpose = q;
          retries = again;
          at = to;
        })
        → rwlock_act l a (record {
          purpose = q;
          retries = again;
          at = to;
        }) ≡ act.Word l f → IsCoded r a s t f (record { purpose = q; retries = again; at = to })
    by_purpose (purpose.Enter x how) again to fits is g n = enters_code r a s t l f at.admits at.site there
        small few limit x how again to fits is g n
    by_purpose (purpose.Release x) again to fits is g n = releases_code r a s t l f at.admits at.site there
        small few limit again x to fits g n
    by_purpose (purpose.Downgrade d) again to fits is g n = downgrades_code r a s t l f at.admits at.site
        there small few limit again d to fits is g n
    by_purpose (purpose.Upgrade how) again to fits is g n = by_patience how again to fits is g n
