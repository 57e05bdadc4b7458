-- Each call of a reader-writer lock that steps alone from its beginning, and to what it comes.
use Rattle.lot_laws.proofs.Imports
use Imports.{ℕ, Bool, true, false, Option, Some, None, if◌then◌else◌, ◌==◌, ◌&&◌, ◌||◌, ◌≡◌, ◌≢◌, ◌+◌, ◌*◌, ◌/◌}
use Imports.{◌%◌, ◌≤◌, ◌<◌, ◌⊎◌, ◌^◌, List, [], ◌∷◌, ◌++◌, map, length, replicate, refl, sym, ◌∙◌, ap, subst}
use Imports.{arith, eqb-true, nat_tests, Waiter, Want, Exclusive, Upgradable, Shared, waiter, first_of, Access}
use Imports.{Patience, Patient, Timed, Try, Answer, Outcome, Admission, RwLockPlace, RwLockPurpose, RwLockAt}
use Imports.{Decision, wanted, to_of, decision, decided, decision_blocked, entered, plus, is_counted, Downgrade}
use Imports.{before, purpose_by, apply, RwLockCallPlace, Plain, HandOver, call_profile, call_first, Admits}
use Imports.{role_at, rwlock_role, LockState, Pending, Rights, with_right, one_if_thread, Sort, Recursive}
use Imports.{Rules, NoWriter, IsFreeAt, IsSomePending, one_if_some, IsFree, IsBlocked, MayEnter, Owns}
use Imports.{is_recursive, count, readers, rights_of, code, count_in, has_parked, is_blocked, TellsTrue}
use Imports.{queued_of, Enters, Releases, Converts, IsFull, AnswerHolds, CallState, one_more_at, Has, idle}
use Imports.{Line, Second, has_readers, words_tell_true, RwLock, State, go_of, place_at, word_at, queue_at}
use Imports.{solo, lock_state, locks_of, call_at, call_state, IsInductive, key_of, rules_in, site_of, role_on}
use Imports.{EntersAlone, ReleasesAlone, ConvertsAlone, MayEnterAtOnce, WaitsAlone, WaitsForReaders}
use Imports.{entered_answer, IsBarred}
use Rattle.std.proofs.Common.{nat_le}
use Rattle.spec_locks.specs.declared.calls.Access.TheVariants as access
use Rattle.spec_locks.specs.declared.outcomes.Answer.TheVariants as answer
use Rattle.spec_locks.specs.declared.outcomes.Outcome.TheVariants as outcome
use Rattle.steps_rwlock.specs.declared.purposes.RwLockPurpose.TheVariants as purpose
use Rattle.steps_rwlock.specs.declared.places.RwLockAt.TheVariants as at
use Rattle.steps_rwlock.specs.declared.enter.Decision.TheVariants as decisions
use Rattle.spec_locks.specs.declared.calls.Downgrade.TheVariants as downgrade
use Rattle.core_base.specs.declared.ops.Op.TheVariants as op
use Rattle.spec_locks.specs.declared.calls.RwLockCall.TheVariants as call
use Rattle.steps_rwlock_fair.specs.declared.hand_over.HandOverAt.TheVariants as handing
use Rattle.spec_locks.specs.Locks.{Mutex, Normal}
use Rattle.spec_locks.specs.Locks.{Semaphore, Once}
use Rattle.spec_locks.specs.Locks.{Condvar}
use Rattle.lot_laws.proofs.machine.Parts.{put_here, same}
use Rattle.lot_laws.proofs.sites.OneStep.{queued_after}
use Rattle.lot_alone.proofs.TwoLines.{StepsAlone}
use Rattle.lot_alone.proofs.Answers.{HasAnswered, answered}
use Rattle.lot_laws.proofs.promises.WorldRuns.{RunsAlone, run_refines}
use Rattle.lot_alone.proofs.Leads.{or_so}
use Rattle.lot_alone.proofs.RwLock.{Decides, Takes, Settles, Sleeps, Tries, Upgrades, place_for}
use Rattle.lot_alone.proofs.RwLock.{load_leads, first_leads}
use Rattle.lot_laws.proofs.rwlock.Words.{word_small}

same_answer : (how : Patience) → entered how ≡ entered_answer how
same_answer Patient = refl
same_answer Timed = refl
same_answer Try = refl

-- ---------------------------------------------------------------- a thread's decision, by the lock as it is

module _ (w : State) (l : ℕ) (a : Admission) (inductive : IsInductive w) (admits : Admits (rules_in w l) a)
  where
    abbrev r : Rules
    r = rules_in w l

    abbrev s : LockState
    s = lock_state w l

    abbrev v : ℕ
    v = word_at w l

    tells : TellsTrue r (site_of w l)
    tells = words_tell_true r (site_of w l) admits.0 (inductive.sites.site l)

    reads : (x : Want) → is_blocked a.recursive x v ≡ is_blocked (is_recursive r.sort) x
        (code r (site_of w l))
    reads x = λ i. is_blocked (sym admits.1 i) x (inductive.sites.word l i)

    counted : count_in v ≡ count s
    counted = ap count_in (inductive.sites.word l) ∙ tells.count

    blocked_is : (x : Want) → IsBlocked r s x → is_blocked a.recursive x v ≡ true
    blocked_is x h = either (is_blocked a.recursive x v) refl
      where
        either : (b : Bool) → is_blocked a.recursive x v ≡ b → b ≡ true
        either true e = refl
        either false e = absurd (h.1 (tells.free x h.0 (sym (reads x) ∙ e)).1)

    free_is : (x : Want) → IsFree r s x → is_blocked a.recursive x v ≡ false
    free_is x h = either (is_blocked a.recursive x v) refl
      where
        either : (b : Bool) → is_blocked a.recursive x v ≡ b → b ≡ false
        either false e = refl
        either true e = absurd ((tells.blocked x h.0 (sym (reads x) ∙ e)).1 h.1)

    below_limit : count s < r.limit → nat_le a.limit (count_in v) ≡ false
    below_limit room = let e = counted in let f = admits.2 in grind (arith, nat_tests)

    at_limit : r.limit ≤ count s → nat_le a.limit (count_in v) ≡ true
    at_limit full = let e = counted in let f = admits.2 in grind (arith, nat_tests)

    abbrev unblocked : Want → Decision
    unblocked x = if is_counted x && nat_le a.limit (count_in v) then decisions.Refuse answer.ReadersFull
        else decisions.Take

    takes : (x : Access) (how : Patience) → MayEnter r s (wanted x) → decision a (wanted x) how v
        ≡ decisions.Take
    takes access.Shared how may = ap (λ (b : Bool). if b then decision_blocked how v else unblocked Shared)
        (free_is Shared may.0) ∙ ap (λ (b : Bool). if b then decisions.Refuse answer.ReadersFull
        else decisions.Take) (below_limit may.1)
    takes access.Upgradable how may = ap (λ (b : Bool). if b then decision_blocked how v else unblocked
        Upgradable) (free_is Upgradable may.0)
        ∙ ap (λ (b : Bool). if b then decisions.Refuse answer.ReadersFull
        else decisions.Take) (below_limit may.1)
    takes access.Exclusive how may = ap (λ (b : Bool). if b then decision_blocked how v else unblocked
        Exclusive) (free_is Exclusive may.0)

    refuses : (x : Access) (how : Patience) → IsFull (locks_of w) l (wanted x)
        → decision a (wanted x) how v ≡ decisions.Refuse answer.ReadersFull
    refuses access.Shared how full = ap (λ (b : Bool). if b then decision_blocked how v else unblocked Shared)
        (free_is Shared full.1) ∙ ap (λ (b : Bool). if b then decisions.Refuse answer.ReadersFull
        else decisions.Take) (at_limit full.2)
    refuses access.Upgradable how full =
        ap (λ (b : Bool). if b then decision_blocked how v else unblocked Upgradable)
        (free_is Upgradable full.1) ∙ ap (λ (b : Bool). if b then decisions.Refuse answer.ReadersFull
        else decisions.Take) (at_limit full.2)
    refuses access.Exclusive how full = absurd (full.0 refl)

    waits : (x : Access) (how : Patience) → IsBlocked r s (wanted x) → decision a (wanted x) how v
        ≡ decision_blocked how v
    waits x how h = ap (λ (b : Bool). if b then decision_blocked how v else unblocked (wanted x))
        (blocked_is (wanted x) h)

-- ---------------------------------------------------------------- a call from its beginning

module _ (w : State) (t l : ℕ) (a : Admission) (inductive : IsInductive w) (admits : Admits (rules_in w l) a)
    (v2 : State) (x : Outcome)
    (run : RunsAlone w t x v2) where
  small : word_at w l < 2 ^ 64
  small = word_small w l inductive admits.0

  abbrev queues : Line → List Waiter
  queues m = queue_at w (key_of l m)

  abbrev respins_from : RwLockPurpose → RwLockAt → RwLockPlace
  respins_from q at = place_for t l a q false at

  -- the thread's answer holds
  holds : (q : RwLockPurpose) (at : RwLockAt) → place_at w t ≡ RwLock l a (Plain (respins_from q at))
      → (answer : Answer)
      → x ≡ outcome.End answer → HasAnswered t (Some (purpose_by q l)) (call_at w t).former answer
      (locks_of v2)
  holds q at is answer e = subst (λ p. HasAnswered t p (call_at w t).former answer (locks_of v2)) called
      (answered run.told (locks_of w) (locks_of v2) t answer
      (run_refines w v2 (replicate (length run.told) (go_of t)) run.told run.run) run.goes_on (sym run.last
      ∙ e))
    where
      called : (call_at w t).purpose ≡ Some (purpose_by q l)
      called = ap (λ p. (call_state p (λ k. rights_of (lock_state w k) t)).purpose) is

  -- each thread that has entered owns
  enters_owns : (y : Access) (how : Patience) (at : RwLockAt)
      → place_at w t ≡ RwLock l a (Plain (respins_from (purpose.Enter y how) at)) → x
      ≡ outcome.End (entered how)
      → (x ≡ outcome.End (entered_answer how)) × Owns (lock_state v2 l) t (wanted y)
  enters_owns y how at is e = (told, by_how how (holds (purpose.Enter y how) at is (entered_answer how) told))
    where
      told : x ≡ outcome.End (entered_answer how)
      told = e ∙ ap outcome.End (same_answer how)

      by_how : (how : Patience)
          → HasAnswered t (Some (Enters l (wanted y) how)) (call_at w t).former (entered_answer how)
          (locks_of v2)
          → Owns (lock_state v2 l) t (wanted y)
      by_how Patient h = h.holds.0
      by_how Timed h = h.holds.0
      by_how Try h = h.holds.0

  queued : (y : Want) → queue_at v2 (2 * l) ≡ queue_at w (2 * l) ++ waiter (2 * l) t y ∷ []
      → (lock_state v2 l).queue ≡ (lock_state w l).queue ++ (record { thread = t; want = y }) ∷ []
  queued y e = ap (map queued_of) e ∙ queued_after (2 * l) t y (queue_at w (2 * l))

  barred_by : (y : Access) (how : Patience) (at : RwLockAt)
      → Decides t l a (decision_blocked how (word_at w l)) (respins_from (purpose.Enter y how) at)
      (word_at w l)
      queues v2 x
      → WaitsAlone how (lock_state w l) t (wanted y) x (lock_state v2 l)
  barred_by y Try at h = h
  barred_by y Patient at h = either (has_parked (word_at w l)) h
    where
      either : (b : Bool)
          → Decides t l a (if b then decisions.Park else decisions.Mark)
          (respins_from (purpose.Enter y Patient)
          at)
          (word_at w l) queues v2 x
          → WaitsAlone Patient (lock_state w l) t (wanted y) x (lock_state v2 l)
      either true h = (h.0, queued (wanted y) h.1)
      either false h = (h.0, queued (wanted y) h.1)
  barred_by y Timed at h = either (has_parked (word_at w l)) h
    where
      either : (b : Bool)
          → Decides t l a (if b then decisions.Park else decisions.Mark)
          (respins_from (purpose.Enter y Timed) at)
          (word_at w l) queues v2 x
          → WaitsAlone Timed (lock_state w l) t (wanted y) x (lock_state v2 l)
      either true h = (h.0, queued (wanted y) h.1)
      either false h = (h.0, queued (wanted y) h.1)

  -- a thread that is to share looks at the word
  pub shares_alone : (y : Access) (how : Patience) → wanted y ≢ Exclusive
      → place_at w t ≡ RwLock l a (Plain (respins_from (purpose.Enter y how) at.Load))
      → Decides t l a (decision a (wanted y) how (word_at w l)) (respins_from (purpose.Enter y how) at.Load)
      (word_at w l) queues v2 x
      → EntersAlone (word_at w l ≡ 0) (locks_of w) t l (wanted y) how x (locks_of v2)
  shares_alone y how shared is h = record {
    owns = λ may. enters_owns y how at.Load is
        (takes_one y shared (subst (λ d. Decides t l a d (respins_from (purpose.Enter y how) at.Load)
        (word_at w l)
        queues v2 x) (takes w l a inductive admits y how (may_enter y shared may)) h));
    pends = λ e may some. absurd (shared e);
    refused = λ sort e. absurd (shared e);
    full = λ full. subst (λ d. Decides t l a d (respins_from (purpose.Enter y how) at.Load) (word_at w l)
        queues v2
        x) (refuses w l a inductive admits y how full) h;
    barred = λ b. barred_by y how at.Load
        (subst (λ d. Decides t l a d (respins_from (purpose.Enter y how) at.Load) (word_at w l) queues v2 x)
        (waits w l a inductive admits y how b) h);
  }
    where
      may_enter : (y : Access) → wanted y ≢ Exclusive
          → MayEnterAtOnce (word_at w l ≡ 0) (rules_in w l) (lock_state w l) (wanted y) how
          → MayEnter (rules_in w l) (lock_state w l) (wanted y)
      may_enter access.Shared ne may = may
      may_enter access.Upgradable ne may = may
      may_enter access.Exclusive ne may = absurd (ne refl)

      takes_one : (y : Access) → wanted y ≢ Exclusive → Takes t l a (purpose.Enter y how) false (word_at w l)
          queues v2 x
          → x ≡ outcome.End (entered how)
      takes_one access.Shared ne h = h
      takes_one access.Upgradable ne h = h
      takes_one access.Exclusive ne h = absurd (ne refl)

  -- a pending writer sleeps in the second line, alone
  sleeps_aside : (y : Want) → (lock_state w l).aside ≡ None
      → queue_at v2 (2 * l + 1) ≡ queue_at w (2 * l + 1) ++ waiter (2 * l + 1) t y ∷ []
      → (lock_state v2 l).aside ≡ Some t
  sleeps_aside y none e = ap first_of e ∙ first (queue_at w (2 * l + 1)) none
    where
      first : (q : List Waiter) → first_of q ≡ None → first_of (q ++ waiter (2 * l + 1) t y ∷ []) ≡ Some t
      first [] h = refl
      first (z ∷ q) h = absurd cc

  -- nobody is pending, so nobody waits aside
  nobody_aside : (lock_state w l).pending ≡ None → (lock_state w l).aside ≡ None
  nobody_aside none = by_aside (lock_state w l).aside refl
    where
      by_aside : (o : Option ℕ) → (lock_state w l).aside ≡ o → (lock_state w l).aside ≡ None
      by_aside None e = e
      by_aside (Some u) e = absurd (let p : IsSomePending (lock_state w l).pending u =
          (inductive.sites.site l).state.aside_pending u e in let q : IsSomePending None u =
          subst (λ o. IsSomePending o u) none p in q)

  no_writer : (sort : Sort) (limit : ℕ) → has_readers sort ≡ true → IsFreeAt sort limit (lock_state w l)
      Exclusive
      → NoWriter (lock_state w l)
  no_writer Normal limit h free = free
  no_writer Recursive limit h free = free
  no_writer Mutex limit h free = absurd cc
  no_writer Semaphore limit h free = absurd cc
  no_writer Once limit h free = absurd cc
  no_writer Condvar limit h free = absurd cc

  no_upgradable : NoWriter (lock_state w l) → count (lock_state w l) ≡ readers (lock_state w l)
  no_upgradable none = ap (λ (o : Option ℕ). readers (lock_state w l) + one_if_some o) none.2 ∙ (omega arith)

  -- a writer that has set its bit counts the readers that there were
  as_many : is_blocked a.recursive Exclusive (word_at w l) ≡ false → count_in (plus (word_at w l) 8)
      ≡ count_in (word_at w l)
  as_many free = let e : (word_at w l / 8 % 2 == 1) ≡ false = unset (word_at w l / 8 % 2 == 1)
      (word_at w l / 4 % 2 == 1) free in let few = small in grind (arith, nat_tests)
    where
      unset : (x y : Bool) → (x || y) ≡ false → x ≡ false
      unset true y h = absurd cc
      unset false y h = refl

  abbrev writer : Patience → RwLockPlace
  writer how = respins_from (purpose.Enter access.Exclusive how) at.First

  -- a writer that finds a word that isn't clear
  module _ (how : Patience)
      (h : Decides t l a (decision a Exclusive how (word_at w l)) (writer how) (word_at w l) queues v2 x)
    where
      settles : MayEnter (rules_in w l) (lock_state w l) Exclusive
          → Settles t l a (count_in (plus (word_at w l) 8) == 0)
          (respins_from (purpose.Enter access.Exclusive how)
          at.Look) queues v2 x
      settles may = subst (λ d. Decides t l a d (writer how) (word_at w l) queues v2 x)
          (takes w l a inductive admits access.Exclusive how may) h

      nobody_writes : MayEnter (rules_in w l) (lock_state w l) Exclusive → NoWriter (lock_state w l)
      nobody_writes may = no_writer (rules_in w l).sort (rules_in w l).limit admits.0 may.0.1

      counts : MayEnter (rules_in w l) (lock_state w l) Exclusive → count_in (plus (word_at w l) 8)
          ≡ readers (lock_state w l)
      counts may = as_many (free_is w l a inductive admits Exclusive may.0) ∙ counted w l a inductive admits
          ∙ no_upgradable (nobody_writes may)

      settles_alone : MayEnter (rules_in w l) (lock_state w l) Exclusive → readers (lock_state w l) ≡ 0
          → x ≡ outcome.End (entered how)
      settles_alone may none = subst (λ (b : Bool). Settles t l a b
          (respins_from (purpose.Enter access.Exclusive how) at.Look) queues v2 x)
          (ap (λ n. n == 0) (counts may ∙ none)) (settles may)

      settles_aside : MayEnter (rules_in w l) (lock_state w l) Exclusive → 1 ≤ readers (lock_state w l)
          → (x ≡ outcome.Sleep) × ((lock_state v2 l).aside ≡ Some t)
      settles_aside may some = let g : Sleeps t l a Second (writer how) queues v2 x =
          subst (λ (b : Bool). Settles t l a b (respins_from (purpose.Enter access.Exclusive how) at.Look)
          queues
          v2
          x) left (settles may) in
          (g.0, sleeps_aside Exclusive (nobody_aside (nobody_writes may).1) g.1)
        where
          left : (count_in (plus (word_at w l) 8) == 0) ≡ false
          left = ap (λ n. n == 0) (counts may) ∙ grind (arith, nat_tests)

  -- a word that is clear has no reader and no writer
  clear_reads : (word_at w l == 0) ≡ true → readers (lock_state w l) ≡ 0
  clear_reads e = let z : word_at w l ≡ 0 = eqb-true (word_at w l) 0 e in let c : 0 ≡ count (lock_state w l) =
      sym (ap count_in z) ∙ counted w l a inductive admits in omega arith

  clear_free : (word_at w l == 0) ≡ true → IsBlocked (rules_in w l) (lock_state w l) Exclusive → ⊥
  clear_free e b = let z : word_at w l ≡ 0 = eqb-true (word_at w l) 0 e in let f : false ≡ true =
      sym (ap (is_blocked a.recursive Exclusive) z) ∙ blocked_is w l a inductive admits Exclusive b in cc

  -- a thread that is to own alone tries a clear word first
  pub writes_alone : (how : Patience) → place_at w t ≡ RwLock l a (Plain (writer how))
      → Tries t l a (word_at w l == 0) how (writer how) (word_at w l) queues v2 x
      → EntersAlone (word_at w l ≡ 0) (locks_of w) t l Exclusive how x (locks_of v2)
  writes_alone how is h = by_word (word_at w l == 0) refl how is h
    where
      clear_alone : (how : Patience) → (word_at w l == 0) ≡ true → place_at w t ≡ RwLock l a
          (Plain (writer how))
          → x ≡ outcome.End (entered how)
          → (1 ≤ readers (lock_state w l) → WaitsForReaders how t x (lock_state v2 l))
          → EntersAlone (word_at w l ≡ 0) (locks_of w) t l Exclusive how x (locks_of v2)
      clear_alone how e is h aside = record {
        owns = λ may. enters_owns access.Exclusive how at.First is h;
        pends = λ f may some. aside some;
        refused = λ sort f try unclear. absurd (unclear (eqb-true (word_at w l) 0 e));
        full = λ full. absurd (full.0 refl);
        barred = λ b. absurd (clear_free e b);
      }

      none_reads : {A : Type 0} → (word_at w l == 0) ≡ true → 1 ≤ readers (lock_state w l) → A
      none_reads e some = absurd (let none = clear_reads e in omega arith)

      by_word : (b : Bool) → (word_at w l == 0) ≡ b → (how : Patience) → place_at w t ≡ RwLock l a
          (Plain (writer how))
          → Tries t l a b how (writer how) (word_at w l) queues v2 x
          → EntersAlone (word_at w l ≡ 0) (locks_of w) t l Exclusive how x (locks_of v2)
      by_word true e how is h = clear_alone how e is h (λ some. none_reads e some)
      by_word false e Try is h = record {
        owns = λ may. absurd (let f : (0 == 0) ≡ false = rw (may.1 admits.0) at e in cc);
        pends = λ f may some. h;
        refused = λ sort f try unclear. h;
        full = λ full. absurd (full.0 refl);
        barred = λ b. h;
      }
      by_word false e Patient is h = record {
        owns = λ may. enters_owns access.Exclusive Patient at.First is (settles_alone Patient h may.0
            (may.1 admits.0));
        pends = λ f may some. settles_aside Patient h may some;
        refused = λ sort f try. absurd cc;
        full = λ full. absurd (full.0 refl);
        barred = λ b. barred_by access.Exclusive Patient at.First
            (subst (λ d. Decides t l a d (writer Patient) (word_at w l) queues v2 x)
            (waits w l a inductive admits access.Exclusive Patient b) h);
      }
      by_word false e Timed is h = record {
        owns = λ may. enters_owns access.Exclusive Timed at.First is (settles_alone Timed h may.0
            (may.1 admits.0));
        pends = λ f may some. settles_aside Timed h may some;
        refused = λ sort f try. absurd cc;
        full = λ full. absurd (full.0 refl);
        barred = λ b. barred_by access.Exclusive Timed at.First
            (subst (λ d. Decides t l a d (writer Timed) (word_at w l) queues v2 x)
            (waits w l a inductive admits access.Exclusive Timed b) h);
      }

  -- ---------------------------------------------------------------- a right given up, or turned into another

  -- tells what the thread had of the lock as its call began
  began : (q : RwLockPurpose) (at : RwLockAt) → place_at w t ≡ RwLock l a (Plain (respins_from q at))
      → ((rights : ℕ → Rights) → before q at l rights ≡ rights) → (call_at w t).former
      ≡ (λ k. rights_of (lock_state w k) t)
  began q at is same_rights = ap (λ p. (call_state p (λ k. rights_of (lock_state w k) t)).former) is
      ∙ same_rights (λ k. rights_of (lock_state w k) t)

  is_owner : (o : Option ℕ) → 1 ≤ one_if_thread t o → o ≡ Some t
  is_owner None h = absurd (omega arith)
  is_owner (Some u) h = either (u == t) refl h
    where
      either : (b : Bool) → (u == t) ≡ b → 1 ≤ (if b then 1 else 0) → Some u ≡ Some t
      either true e h = ap Some (eqb-true u t e)
      either false e h = absurd (omega arith)

  owner_is : (o : Option ℕ) → o ≡ Some t → one_if_thread t o ≡ 1
  owner_is o e = ap (one_if_thread t) e ∙ ap (λ (b : Bool). if b then 1 else 0) (same t)

  at_most : (o : Option ℕ) → one_if_thread t o ≤ 1
  at_most None = omega arith
  at_most (Some u) = either (u == t)
    where
      either : (b : Bool) → (if b then 1 else 0) ≤ 1
      either true = omega arith
      either false = omega arith

  lost_one : (y : Access) → place_at w t ≡ RwLock l a (Plain (respins_from (purpose.Release y) at.GiveWay))
      → x ≡ outcome.End answer.Ok
      → with_right (wanted y) (rights_of (lock_state v2 l) t) ≡ rights_of (lock_state w l) t
  lost_one y is told = let h = holds (purpose.Release y) at.GiveWay is answer.Ok told in
      sym (put_here (λ k. rights_of (lock_state v2 k) t) l
      (with_right (wanted y) (rights_of (lock_state v2 l) t))) ∙ h.holds l
      ∙ ap (λ f. f l) (h.former_is ∙ began (purpose.Release y) at.GiveWay is (λ rights. refl))

  pub releases_alone : (y : Access) → place_at w t ≡ RwLock l a
      (Plain (respins_from (purpose.Release y) at.GiveWay))
      → x ≡ outcome.End answer.Ok → ReleasesAlone (locks_of w) t l (wanted y) false x (locks_of v2)
  releases_alone access.Shared is told = (told, lost_one access.Shared is told)
  releases_alone access.Upgradable is told = (told, lost_one access.Upgradable is told)
  releases_alone access.Exclusive is told = (
    told,
    gone,
    λ mutex. absurd (let f : has_readers Mutex ≡ true = sym (ap has_readers mutex) ∙ admits.0
        in cc),
  )
    where
      gone : (lock_state v2 l).exclusive ≡ Some t → ⊥
      gone own = let e : one_if_thread t (lock_state v2 l).exclusive + 1 ≡ one_if_thread t
          (lock_state w l).exclusive = ap (λ (z : Rights). z.exclusive) (lost_one access.Exclusive is told) in
          let one = owner_is (lock_state v2 l).exclusive own in let most = at_most (lock_state w l).exclusive
          in omega arith

  -- a fair release, from any place where it has its right
  lost_from : (c : RwLockCallPlace) (y : Want) (fair : Bool) → place_at w t ≡ RwLock l a c
      → (call_profile a c).purpose l ≡ Releases l y fair
      → ((rights : ℕ → Rights) → (call_profile a c).former l rights ≡ rights)
      → x ≡ outcome.End answer.Ok → with_right y (rights_of (lock_state v2 l) t) ≡ rights_of (lock_state w l)
      t
  lost_from c y fair is of same_rights told =
      let h = subst (λ p. HasAnswered t p (call_at w t).former answer.Ok (locks_of v2)) called
      (answered run.told (locks_of w) (locks_of v2) t answer.Ok
      (run_refines w v2 (replicate (length run.told) (go_of t)) run.told run.run) run.goes_on
      (sym run.last ∙ told)) in
      sym (put_here (λ k. rights_of (lock_state v2 k) t) l (with_right y (rights_of (lock_state v2 l) t)))
      ∙ h.holds l ∙ ap (λ f. f l) (h.former_is ∙ former)
    where
      called : (call_at w t).purpose ≡ Some (Releases l y fair)
      called = ap (λ p. (call_state p (λ k. rights_of (lock_state w k) t)).purpose) is ∙ ap Some of

      former : (call_at w t).former ≡ (λ k. rights_of (lock_state w k) t)
      former = ap (λ p. (call_state p (λ k. rights_of (lock_state w k) t)).former) is
          ∙ same_rights (λ k. rights_of (lock_state w k) t)

  pub no_mutex : {A : Type 0} → (rules_in w l).sort ≡ Mutex → A
  no_mutex mutex = absurd (let f : has_readers Mutex ≡ true = sym (ap has_readers mutex) ∙ admits.0 in cc)

  pub upgradable_released : place_at w t ≡ RwLock l a (HandOver access.Upgradable false handing.Load)
      → x ≡ outcome.End answer.Ok
      → ReleasesAlone (locks_of w) t l Upgradable true x (locks_of v2)
  upgradable_released is told = (
    told,
    lost_from (HandOver access.Upgradable false handing.Load) Upgradable
        true is refl (λ rights. refl) told,
  )

  pub exclusive_released : place_at w t ≡ RwLock l a (HandOver access.Exclusive false (handing.Free 8))
      → x ≡ outcome.End answer.Ok → ReleasesAlone (locks_of w) t l Exclusive true x (locks_of v2)
  exclusive_released is told = (told, gone, λ mutex. no_mutex mutex)
    where
      gone : (lock_state v2 l).exclusive ≡ Some t → ⊥
      gone own = let e : one_if_thread t (lock_state v2 l).exclusive + 1 ≡ one_if_thread t
          (lock_state w l).exclusive = ap (λ (z : Rights). z.exclusive)
          (lost_from (HandOver access.Exclusive false (handing.Free 8)) Exclusive true is refl
          (λ rights. refl) told) in
          let one = owner_is (lock_state v2 l).exclusive own in let most = at_most (lock_state w l).exclusive
          in omega arith

  -- tells what a conversion has made of its thread's rights
  replaced : (q : RwLockPurpose) (at : RwLockAt) (y z : Want) (how : Patience) (answer : Answer)
      → place_at w t ≡ RwLock l a (Plain (respins_from q at)) → purpose_by q l ≡ Converts l y z how
      → ((rights : ℕ → Rights) → before q at l rights ≡ rights)
      → x ≡ outcome.End answer
      → ((c : CallState) → AnswerHolds (Some (Converts l y z how)) (locks_of v2) t c answer → (k : ℕ)
      → one_more_at l y (λ j. rights_of (lock_state v2 j) t) k ≡ one_more_at l z c.former k)
      → with_right y (rights_of (lock_state v2 l) t) ≡ with_right z (rights_of (lock_state w l) t)
  replaced q at y z how answer is of same_rights told says = let h = holds q at is answer told in
      sym (put_here (λ k. rights_of (lock_state v2 k) t) l (with_right y (rights_of (lock_state v2 l) t)))
      ∙ says h.call (subst (λ p. AnswerHolds (Some p) (locks_of v2) t h.call answer) of h.holds) l
      ∙ (λ i. one_more_at l z ((h.former_is ∙ began q at is same_rights) i) l)
      ∙ put_here (λ k. rights_of (lock_state w k) t) l (with_right z (rights_of (lock_state w l) t))

  pub downgrades_alone : (d : Downgrade)
      → place_at w t ≡ RwLock l a (Plain (respins_from (purpose.Downgrade d) at.GiveWay))
      → x ≡ outcome.End answer.Ok → ConvertsAlone (lock_state w l) t (wanted (to_of d)) Patient x
      (lock_state v2 l)
  downgrades_alone downgrade.ToShared is told = (
    told,
    let e = ap (λ (z : Rights). z.shared) (replaced (purpose.Downgrade downgrade.ToShared) at.GiveWay
        Exclusive Shared Patient answer.Ok is refl (λ rights. refl) told (λ c h. h)) in omega (arith, e),
  )
  downgrades_alone downgrade.ToUpgradable is told = (
    told,
    is_owner (lock_state v2 l).upgradable (let e = ap (λ (z : Rights). z.upgradable)
        (replaced (purpose.Downgrade downgrade.ToUpgradable) at.GiveWay Exclusive Upgradable Patient answer.Ok
        is refl (λ rights. refl) told (λ c h. h)) in omega (arith, e)),
  )
  downgrades_alone downgrade.UpgradableToShared is told = (
    told,
    let e = ap (λ (z : Rights). z.shared) (replaced (purpose.Downgrade downgrade.UpgradableToShared)
        at.GiveWay Upgradable Shared Patient answer.Ok is refl (λ rights. refl) told (λ c h. h))
        in omega (arith, e),
  )

  -- an upgrade has the upgradable right as it begins
  upgrades_from : (how : Patience) (at : RwLockAt) → place_at w t ≡ RwLock l a
      (Plain (respins_from (purpose.Upgrade how) at))
      → (role_at None (purpose.Upgrade how) at).claims ≡ Some (Has Upgradable) → (lock_state w l).upgradable
      ≡ Some t
  upgrades_from how at is claims = (inductive.sites.site l).held t (Has Upgradable)
      (ap (λ p. (role_on p l).claims) is
      ∙ ap (λ (b : Bool). (if b then rwlock_role (respins_from (purpose.Upgrade how) at) else idle).claims)
      (same l) ∙ claims)

  readers_and_one : (lock_state w l).upgradable ≡ Some t → count_in (word_at w l) ≡ readers (lock_state w l)
      + 1
  readers_and_one own = counted w l a inductive admits ∙ ap (λ (o : Option ℕ). readers (lock_state w l)
      + one_if_some o) own

  upgrade_owns : (how : Patience) (at : RwLockAt) → place_at w t ≡ RwLock l a
      (Plain (respins_from (purpose.Upgrade how) at))
      → ((rights : ℕ → Rights) → before (purpose.Upgrade how) at l rights ≡ rights)
      → x ≡ outcome.End (entered how)
      → (x ≡ outcome.End (entered_answer how)) × ((lock_state v2 l).exclusive ≡ Some t)
  upgrade_owns how at is same_rights e = (
    told,
    is_owner (lock_state v2 l).exclusive (let g =
        ap (λ (z : Rights). z.exclusive) (replaced (purpose.Upgrade how) at Upgradable Exclusive how
        (entered_answer how) is refl same_rights told (says how)) in omega (arith, g)),
  )
    where
      told : x ≡ outcome.End (entered_answer how)
      told = e ∙ ap outcome.End (same_answer how)

      says : (how : Patience) (c : CallState)
          → AnswerHolds (Some (Converts l Upgradable Exclusive how)) (locks_of v2) t c (entered_answer how)
          → (k : ℕ)
          → one_more_at l Upgradable (λ j. rights_of (lock_state v2 j) t) k ≡ one_more_at l Exclusive c.former
          k
      says Patient c h = h
      says Timed c h = h
      says Try c h = h

  is_one : (lock_state w l).upgradable ≡ Some t → readers (lock_state w l) ≡ 0 → (count_in (word_at w l) == 1)
      ≡ true
  is_one own none = ap (λ n. n == 1) (readers_and_one own ∙ ap (λ n. n + 1) none)

  is_not_one : (lock_state w l).upgradable ≡ Some t → 1 ≤ readers (lock_state w l)
      → (count_in (word_at w l) == 1) ≡ false
  is_not_one own some = ap (λ n. n == 1) (readers_and_one own) ∙ grind (arith, nat_tests)

  pub tries_upgrade : place_at w t ≡ RwLock l a (Plain (respins_from (purpose.Upgrade Try) at.Load))
      → Decides t l a (decided a (respins_from (purpose.Upgrade Try) at.Load) (word_at w l))
      (respins_from (purpose.Upgrade Try) at.Load)
      (word_at w l) queues v2 x
      → ConvertsAlone (lock_state w l) t Exclusive Try x (lock_state v2 l)
  tries_upgrade is h = (
    λ none. upgrade_owns Try at.Load is (λ rights. refl)
        (by_count true (is_one own none)),
    λ some. by_count false (is_not_one own some),
  )
    where
      own : (lock_state w l).upgradable ≡ Some t
      own = upgrades_from Try at.Load is refl

      by_count : (b : Bool) → (count_in (word_at w l) == 1) ≡ b
          → Decides t l a (if b then decisions.Take else decisions.Refuse answer.No)
          (respins_from (purpose.Upgrade Try) at.Load)
          (word_at w l) queues v2 x
      by_count b e = subst (λ (b : Bool). Decides t l a (if b then decisions.Take else decisions.Refuse
          answer.No) (respins_from (purpose.Upgrade Try) at.Load) (word_at w l) queues v2 x) e h

  pub upgrades_alone : (how : Patience) → how ≢ Try → place_at w t ≡ RwLock l a
      (Plain (respins_from (purpose.Upgrade how) at.GiveWay))
      → Upgrades t l a (count_in (word_at w l) == 1) how false (word_at w l) queues v2 x
      → ConvertsAlone (lock_state w l) t Exclusive how x (lock_state v2 l)
  upgrades_alone how waits is h = (
    λ none. upgrade_owns how at.GiveWay is (λ rights. refl) (by_count true (is_one own none)),
    λ some. by_how how waits (aside some),
  )
    where
      own : (lock_state w l).upgradable ≡ Some t
      own = upgrades_from how at.GiveWay is refl

      by_count : (b : Bool) → (count_in (word_at w l) == 1) ≡ b → Upgrades t l a b how false (word_at w l)
          queues v2 x
      by_count b e = subst (λ (b : Bool). Upgrades t l a b how false (word_at w l) queues v2 x) e h

      nobody_pending : (lock_state w l).pending ≡ None
      nobody_pending = by_pending (lock_state w l).pending refl
        where
          by_pending : (o : Option Pending) → (lock_state w l).pending ≡ o → (lock_state w l).pending ≡ None
          by_pending None e = e
          by_pending (Some p) e = absurd (let none = (inductive.sites.site l).state.pending_alone p e
              in let g : ◌≡◌ {A = Option ℕ} (Some t) None = sym own ∙ none in cc)

      left : 1 ≤ readers (lock_state w l) → (count_in (apply (op.Sub 12) (word_at w l)) == 0) ≡ false
      left some = let e = readers_and_one own in let few = small in grind (arith, nat_tests)

      aside : 1 ≤ readers (lock_state w l) → (x ≡ outcome.Sleep) × ((lock_state v2 l).aside ≡ Some t)
      aside some = let g : Sleeps t l a Second (respins_from (purpose.Upgrade how) at.Look) queues v2 x =
          subst (λ (b : Bool). Settles t l a b (respins_from (purpose.Upgrade how) at.Look) queues v2 x)
          (left some) (by_count false (is_not_one own some)) in
          (g.0, sleeps_aside Exclusive (nobody_aside nobody_pending) g.1)

      by_how : (y : Patience) → y ≢ Try → (x ≡ outcome.Sleep) × ((lock_state v2 l).aside ≡ Some t)
          → WaitsForReaders y t x (lock_state v2 l)
      by_how Try ne h = absurd (ne refl)
      by_how Patient ne h = h
      by_how Timed ne h = h

-- a call that waits for a right, from its beginning
pub enters_alone : (w : State) (t l : ℕ) (a : Admission) (x : Access) (how : Patience) (n : ℕ)
    (last : Outcome) → 11 ≤ n
    → IsInductive w → Admits (rules_in w l) a → place_at w t ≡ RwLock l a (call_first (call.Enter x how))
    → StepsAlone w t l (RwLock l a (call_first (call.Enter x how))) (word_at w l)
    (λ m. queue_at w (key_of l m))
    → RunsAlone w t (solo n w t last).outcome (solo n w t last).state
    → EntersAlone (word_at w l ≡ 0) (locks_of w) t l (wanted x) how (solo n w t last).outcome
    (locks_of (solo n w t last).state)
    ⊎ IsBarred (solo n w t last).state t
enters_alone w t l a x how n last le inductive admits is f run = by_access x is f
  where
    small : word_at w l < 2 ^ 64
    small = word_small w l inductive admits.0

    by_access : (x : Access) → place_at w t ≡ RwLock l a (call_first (call.Enter x how))
        → StepsAlone w t l (RwLock l a (call_first (call.Enter x how))) (word_at w l)
        (λ m. queue_at w (key_of l m))
        → EntersAlone (word_at w l ≡ 0) (locks_of w) t l (wanted x) how (solo n w t last).outcome
        (locks_of (solo n w t last).state) ⊎ IsBarred (solo n w t last).state t
    by_access access.Exclusive is f = or_so (writes_alone w t l a inductive admits (solo n w t last).state
        (solo n w t last).outcome run how is) (first_leads t l a _ (word_at w l) w
        (λ m. queue_at w (key_of l m)) small f n last (omega arith))
    by_access access.Shared is f = or_so (shares_alone w t l a inductive admits (solo n w t last).state
        (solo n w t last).outcome run access.Shared how (λ h. cc) is) (load_leads t l a _ (word_at w l) w
        (λ m. queue_at w (key_of l m)) small f n last (omega arith))
    by_access access.Upgradable is f =
        or_so (shares_alone w t l a inductive admits (solo n w t last).state (solo n w t last).outcome run
        access.Upgradable how (λ h. cc) is) (load_leads t l a _ (word_at w l) w (λ m. queue_at w (key_of l m))
        small f n last (omega arith))
