-- A thread that hands its right to all that it has taken keeps what holds of a lock of the lot
-- between steps.
use Rattle.std.proofs.Common.{ℕ, true, false, Option, Some, None, ◌≡◌, ◌≢◌, ◌≤◌, ◌+◌, ◌⊎◌, inl, inr, [], refl}
use Rattle.std.proofs.Common.{◌∙◌, arith}
use Rattle.std.proofs.lemmas.Bool.Decides.{nat_tests}
use Rattle.core_base.specs.declared.wants.Want.{Want}
use Rattle.core_base.specs.declared.wants.Want.TheVariants.{Exclusive, Upgradable, Shared}
use Rattle.spec_locks.specs.Locks.{LockState, Queued, Taken, Rules, HandOff, Owns, IsSuccessor, times}
use Rattle.spec_locks.specs.Locks.{standing, one_if_thread, one_if_some}
use Rattle.spec_locks.specs.Sites.{Line, Main, Second, Claim, Site, IsSite, Case, Needed, done, case_role}
use Rattle.spec_locks.specs.Sites.{IsEmpty, IsOpen, Has, Pends, Runs, Ran, Holds, counts, counts_taken}
use Rattle.spec_locks.specs.Locks as locks
use Rattle.spec_locks.proofs.LockKeeps.{no_aside}
use Rattle.spec_locks.proofs.Hands.{is_handed, shares_on, counts_more, bars, kept_few, kept_counts, kept_by}
use Rattle.spec_locks.proofs.Turns.{Local}
use Rattle.spec_locks.proofs.SiteFacts.{state}

module _ (r : Rules) (s : Site) (t : ℕ) (h : IsSite r s) where
  -- the owner hands its right to all that it has taken
  module _ (x : Want) (successor : Option Queued) (n : Needed r (Case (HandOff x successor)) s t) where
    abbrev handed_lock : LockState
    handed_lock = locks.handed t x successor s.lock

    succeeded : (o : Option Queued) → IsSuccessor s.lock t o → (o ≡ None)
        ⊎ ((y : Queued) × ((o ≡ Some y) × (y.want ≢ Shared)))
    succeeded None k = inl refl
    succeeded (Some y) k = inr (y, (refl, ((k y.thread y.want).0 refl).1))

    abbrev of_once : Claim → Type 0
    of_once Runs = Unit {0}
    of_once Ran = Unit {0}
    of_once c = ⊥

    owns_alone : (w : Want) → Owns s.lock t w → w ≢ Shared → (u : ℕ) → u ≢ t → (c : Claim) → c ≢ Has Shared
        → (of_once c → ⊥) → Holds s.lock u c → ⊥
    owns_alone Exclusive own more u ne (Has Exclusive) unshared k e = grind arith
    owns_alone Exclusive own more u ne (Has Upgradable) unshared k e = grind arith
    owns_alone Exclusive own more u ne (Pends b) unshared k e = grind arith
    owns_alone Upgradable own more u ne (Has Exclusive) unshared k e = grind arith
    owns_alone Upgradable own more u ne (Has Upgradable) unshared k e = grind arith
    owns_alone Upgradable own more u ne (Pends b) unshared k e = grind arith
    owns_alone w own more u ne (Has Shared) unshared k e = unshared refl
    owns_alone w own more u ne Runs unshared k e = k tt
    owns_alone w own more u ne Ran unshared k e = k tt
    owns_alone Shared own more u ne c unshared k e = more refl
    owns_alone w own more u ne c unshared k e = grind arith

    still_theirs : (u : ℕ) (c : Claim) → u ≢ t → Holds s.lock u c → Holds handed_lock u c
    still_theirs u (Has Shared) ne e = shares_on t u 1 x successor s.lock n.0.1 (succeeded successor n.0.2) e
    still_theirs u (Has Exclusive) ne e =
        absurd (owns_alone x n.0.0 n.0.1 u ne (Has Exclusive) (λ f. cc) (λ k. k) e)
    still_theirs u (Has Upgradable) ne e =
        absurd (owns_alone x n.0.0 n.0.1 u ne (Has Upgradable) (λ f. cc) (λ k. k) e)
    still_theirs u (Has w) ne e = absurd (owns_alone x n.0.0 n.0.1 u ne (Has w) (λ f. cc) (λ k. k) e)
    still_theirs u Runs ne e = (is_handed t x successor s.lock).phase ∙ e
    still_theirs u Ran ne e = (is_handed t x successor s.lock).phase ∙ e
    still_theirs u (Pends b) ne e = absurd (owns_alone x n.0.0 n.0.1 u ne (Pends b) (λ f. cc) (λ k. k) e)

    nobody_aside : (w : Want) → Owns s.lock t w → w ≢ Shared → s.lock.aside ≡ None
    nobody_aside Exclusive own more = no_aside r s.lock h.state (h.state.exclusive_alone t own).0
    nobody_aside Upgradable own more = no_aside r s.lock h.state (grind (arith, h.state.pending_alone))
    nobody_aside Shared own more = absurd (more refl)
    nobody_aside w own more = absurd own

    not_open : (u : ℕ) (a : Taken) → s.lock.taken u ≡ Some a → a.by ≡ t → counts r.sort a.want ≡ true
        → IsOpen r.sort handed_lock → ⊥
    not_open u a e mine c free =
        let knows = h.state.known_taken u a e in
        let more = counts_more r.sort a.want knows (λ k. rw k at free) c in
        let is : successor ≡ Some (record { thread = u; want = a.want }) =
        (n.0.2 u a.want).1 (rw (← mine) e, more) in
        bars r u a.want (locks.sharing_handed t (locks.without_owner t x s.lock)) knows c more
        (rw is at (state r s t h (HandOff x successor) n)) (rw is at free)

    barred_now : s.lock.queue ≢ [] → IsOpen r.sort handed_lock → ⊥
    barred_now left free = let one = (h.covered t n.1.1).2 left in by_hand one.0 (s.lock.taken one.0) refl
        one.1
      where
        by_hand : (u : ℕ) (o : Option Taken) → s.lock.taken u ≡ o → counts_taken r.sort t o ≡ true → ⊥
        by_hand u None e c = cc
        by_hand u (Some a) e c = let k : (a.by ≡ t) × (counts r.sort a.want ≡ true) = grind (arith, nat_tests)
            in not_open u a e k.0 k.1 free

    still_empty : (m : Line) → IsEmpty s.lock m → IsEmpty handed_lock m
    still_empty Main e = (is_handed t x successor s.lock).queue ∙ e
    still_empty Second e = (is_handed t x successor s.lock).aside ∙ e

    stood_handed : (u : ℕ) → 1 ≤ standing u handed_lock → 1 ≤ standing u s.lock
    stood_handed u f =
        let e = is_handed t x successor s.lock in
        let g : 1 ≤ times u s.lock.queue + one_if_thread u s.lock.aside + one_if_some
        (locks.let_go t s.lock.taken u) = rw (e.queue, e.aside, e.taken u) at f in
        let k = kept_few t (s.lock.taken u) in omega arith

    still_left : ((done r (HandOff x successor) s t handed_lock).lock.queue ≢ []) ⊎ (false ≡ true)
        → s.lock.queue ≢ []
    still_left (inl k) = λ e. k ((is_handed t x successor s.lock).queue ∙ e)
    still_left (inr k) = absurd cc

    pub hands_local : Local r s (done r (HandOff x successor) s t handed_lock) t (s.role t)
        (case_role r.sort s handed_lock (HandOff x successor) (s.role t))
    hands_local =
        let e = is_handed t x successor s.lock in
        let alone_now = nobody_aside x n.0.0 n.0.1 in
        record {
          state = state r s t h (HandOff x successor) n;
          parked = λ left. grind arith;
          bit_stays = λ k. inr (inl n.1.0);
          brought = λ k. absurd cc;
          setting = λ k. absurd cc;
          aside_parked = λ stands. absurd (stands (e.aside ∙ alone_now));
          full = λ f. grind arith;
          filled = λ f. grind arith;
          inside = λ m i. inl i;
          fills = λ m f. inl (still_empty m f);
          emptied = λ m f. let k = h.emptied t m f in (k.0, still_empty m k.1);
          covered = λ c. absurd cc;
          held = λ c f. absurd cc;
          unwoken = λ f. n.1.2;
          others_hold = λ u c ne f. still_theirs u c ne f;
          others_stand = λ u ne f. inl (stood_handed u f);
          others_carry = λ y u ne c. rw (e.taken y) (kept_counts r.sort t u (s.lock.taken y) ne c);
          taken_by = λ y a f. inr (kept_by t (s.lock.taken y) a (rw (e.taken y) at f));
          main = λ left free room. absurd (barred_now (still_left left) free);
          main_brought = λ k apart free room. absurd (apart n.1.0);
          second = λ stands none. absurd (stands (e.aside ∙ alone_now));
        }
