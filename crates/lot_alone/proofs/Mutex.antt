-- A call of a mutex whose thread steps alone: from each place, where it ends or falls asleep.
use Rattle.lot_laws.proofs.Imports
use Imports.{append-nil, ℕ, zero, suc, Bool, true, false, Option, Some, None, if◌then◌else◌, ◌==◌, ◌&&◌, not}
use Imports.{◌≡◌, ◌≢◌, ◌+◌, ◌*◌, ◌≤◌, ◌<◌, inl, inr, List, [], ◌∷◌, ◌++◌, length, drop, map, refl, sym, ◌∙◌, ap}
use Imports.{subst, arith, cases_eq, eqb-true, Waiter, Exclusive, apply, waiter, without, first_of, Value, Took}
use Imports.{Removed, Outcome, NOT_PARKED, Entry, Lock, TryLock, Unlock, UnlockFair, LockAt, First, Load}
use Imports.{Decide, Asleep, Accept, Remove, UnlockAt, HandOffAt, Place, Mutex, outcome_of, is_locked}
use Imports.{is_parked, hand_off_word, in_unlock, act_of, next_place, next_act, mutex_goes, mutex_does, State}
use Imports.{place_at, word_at, queue_at, go_of, after, owners_handed_over, is_there, IsMutexWord, Site, acts}
use Imports.{queued, IsInductive, Goes, hand_at, first_thread, queued_of, owner_at, taken_at, EndsOrSleeps, decides}
use Imports.{MutexPlace, Owners, with_exclusive}
use Rattle.core_base.specs.declared.notes.Note.TheVariants as note
use Rattle.core_base.specs.declared.ops.Op as op
use Rattle.steps_base.specs.declared.acts.Act.TheVariants as act
use Rattle.steps_base.specs.declared.acts.Next.TheVariants as next
use Rattle.spec_locks.specs.declared.outcomes.Answer.TheVariants as answer
use Rattle.spec_locks.specs.declared.outcomes.Outcome.TheVariants as outcome
use Rattle.steps_mutex.specs.declared.lock.Entry.TheVariants as entries
use Rattle.steps_mutex.specs.declared.places.MutexPlace.TheVariants.{Bump}
use Rattle.steps_mutex.specs.declared.places.MutexPlace.TheVariants.{HandOff}
use Rattle.steps_mutex.specs.declared.lock.LockAt.TheVariants.{Check, Leave}
use Rattle.steps_mutex.specs.declared.lock.LockAt.TheVariants.{Taken, Handed, Clear, GiveUp}
use Rattle.steps_mutex.specs.declared.unlock.UnlockAt.TheVariants as unlock
use Rattle.steps_mutex.specs.declared.hand_off.HandOffAt.TheVariants as hand_off
use Rattle.steps_mutex.specs.MutexSteps.{entered, looked}
use Rattle.lot_laws.specs.ThreadDeeds.{take_deeds}
use Rattle.lot_laws.specs.Locations.{Location, hand}
use Rattle.lot_laws.proofs.promises.ExclusiveOwners.{by_code, mutex_owner_after}
use Rattle.lot_laws.proofs.hands.Counts.{first_times}
use Rattle.lot_laws.proofs.machine.Parts.{taken_held, put_here, own_stance, differ, aparts}
use Rattle.lot_laws.proofs.hands.Handed.{successor_one, of_carries}
use Rattle.lot_laws.proofs.promises.SitesPromise.{parked_at}
use Rattle.steps_base.specs.declared.acts.TakeWhich.TheVariants as whoms
use Rattle.lot_laws.proofs.sites.SitesKept.{go_by, unshared_at, single_at, alone_at}
use Rattle.lot_laws.proofs.mutex.MutexStaysASite.{goes_mutex}
use Rattle.lot_laws.proofs.machine.AtPlaces.{coded_for, rules_for, owns}
use Rattle.lot_alone.proofs.Leads.{Leads, leads_rest, leads_step, leads_more, leads_so}
use Rattle.lot_alone.proofs.Acts.{Facing, Faces, word_faces, faces_into, leave_faces, wake_faces}
use Rattle.lot_alone.proofs.Acts.{hand_faces, accept_faces, park_faces, unparked_faces, remove_faces}
use Rattle.lot_alone.proofs.Acts.{take_faces, act_led}

-- ---------------------------------------------------------------- lock

-- where nobody owns the mutex it is entered, else the thread sleeps as the last of the queue
abbrev pub LockEnds : ℕ → ℕ → Entry → Option ℕ → List Waiter → State → Outcome → Type 0
LockEnds t l entry None q v x = (x ≡ outcome.End (entered entry)) × (owner_at v l ≡ Some t)
LockEnds t l entry (Some u) q v x = (x ≡ outcome.Sleep) × (owner_at v l ≡ Some u)
    × (queue_at v (2 * l) ≡ q ++ waiter (2 * l) t Exclusive ∷ [])

module _ (t l : ℕ) (entry : Entry) (q : List Waiter) where
  -- the thread parks
  sleep_leads : (retries : Bool) (u : ℕ) (w : State)
      → Facing w t l (Mutex l (Lock entry retries (Leave true))) 3 (Some u) (Some t)
      (q ++ waiter (2 * l) t Exclusive ∷ [])
      → Leads 1 w t (LockEnds t l entry (Some u) q)
  sleep_leads retries u w f = let h = leave_faces w t l _ 3 (Some u) (Some t) _ f refl
      in leads_rest w t (LockEnds t l entry (Some u) q) outcome.Sleep h.0 tt (
        refl,
        h.1.owner,
        h.1.queue,
      )

  check_full : (retries : Bool) (u : ℕ) (w : State) → Facing w t l (Mutex l (Lock entry retries Check)) 3
      (Some u) (Some t) q
      → Leads 2 w t (LockEnds t l entry (Some u) q)
  check_full retries u w f = let h = park_faces w t l _ 3 (Some u) (Some t) q f refl refl refl
      in leads_step w t (LockEnds t l entry (Some u) q) 1 h.0 (sleep_leads (retries && not true) u _ h.1)

  decide_full : (retries : Bool) (u : ℕ) (s : Option ℕ) (w : State)
      → Facing w t l (Mutex l (Lock entry retries (Decide 3))) 3 (Some u) s q
      → Leads 3 w t (LockEnds t l entry (Some u) q)
  decide_full retries u s w f = faces_into w t l _ 3 (Some u) s q f (LockEnds t l entry (Some u) q) 2 refl
      refl refl (λ h. check_full retries u _ h)

  -- the thread decides by the word as it is
  decide_leads : (retries : Bool) (v : ℕ) (o : Option ℕ) → IsMutexWord v o → (s : Option ℕ) (w : State)
      → Facing w t l (Mutex l (Lock entry retries (Decide v))) v o s q → Leads 4 w t (LockEnds t l entry o q)
  decide_leads retries = by_code (λ v o. (s : Option ℕ) (w : State)
      → Facing w t l (Mutex l (Lock entry retries (Decide v))) v o s q → Leads 4 w t (LockEnds t l entry o q))
      (λ s w f. let h = word_faces w t l _ 0 None s q f (op.TheVariants.Exchange 0 1) refl
      in leads_more 1 4 w t (LockEnds t l entry None q) (omega arith)
      (leads_rest w t (LockEnds t l entry None q) (outcome.End (entered entry)) h.0 tt (
        refl,
        h.1.owner,
      )))
      (λ s w f. let h = word_faces w t l _ 2 None s q f (op.TheVariants.Exchange 2 3) refl
      in leads_more 1 4 w t (LockEnds t l entry None q) (omega arith)
      (leads_rest w t (LockEnds t l entry None q) (outcome.End (entered entry)) h.0 tt (
        refl,
        h.1.owner,
      )))
      (λ u s w f. let h = word_faces w t l _ 1 (Some u) s q f (op.TheVariants.Exchange 1 3) refl
      in leads_step w t (LockEnds t l entry (Some u) q) 3 h.0 (decide_full retries u s _ h.1))
      (λ u s w f. leads_more 3 4 w t (LockEnds t l entry (Some u) q) (omega arith)
      (decide_full retries u s w f))

  coded : (w : State) (at : MutexPlace) (v : ℕ) (o s : Option ℕ) → Facing w t l (Mutex l at) v o s q
      → IsMutexWord v o
  coded w at v o s f = let c : IsMutexWord (word_at w l) (owner_at w l) = coded_for w f.inductive t l at
      f.place
      in rw (f.word, f.owner) at c

  load_leads : (retries : Bool) (v : ℕ) (o s : Option ℕ) (w : State)
      → Facing w t l (Mutex l (Lock entry retries Load)) v o s q
      → Leads 5 w t (LockEnds t l entry o q)
  load_leads retries v o s w f = let h = word_faces w t l (Lock entry retries Load) v o s q f
      op.TheVariants.Load refl in
      leads_step w t (LockEnds t l entry o q) 4 (h.0 ∙ decides l v) (decide_leads retries v o
      (coded w _ v o s f) s _ h.1)

  pub first_leads : (retries : Bool) (v : ℕ) (o : Option ℕ) → IsMutexWord v o → (s : Option ℕ) (w : State)
      → Facing w t l (Mutex l (Lock entry retries First)) v o s q → Leads 6 w t (LockEnds t l entry o q)
  first_leads retries = by_code (λ v o. (s : Option ℕ) (w : State)
      → Facing w t l (Mutex l (Lock entry retries First)) v o s q → Leads 6 w t (LockEnds t l entry o q))
      (λ s w f. let h = word_faces w t l _ 0 None s q f (op.TheVariants.Exchange 0 1) refl
      in leads_more 1 6 w t (LockEnds t l entry None q) (omega arith)
      (leads_rest w t (LockEnds t l entry None q) (outcome.End (entered entry)) h.0 tt (
        refl,
        h.1.owner,
      )))
      (λ s w f. let h = word_faces w t l _ 2 None s q f (op.TheVariants.Exchange 0 1) refl
      in leads_step w t (LockEnds t l entry None q) 5 h.0 (load_leads retries 2 None s _ h.1))
      (λ u s w f. let h = word_faces w t l _ 1 (Some u) s q f (op.TheVariants.Exchange 0 1) refl
      in leads_step w t (LockEnds t l entry (Some u) q) 5 h.0 (load_leads retries 1 (Some u) s _ h.1))
      (λ u s w f. let h = word_faces w t l _ 3 (Some u) s q f (op.TheVariants.Exchange 0 1) refl
      in leads_step w t (LockEnds t l entry (Some u) q) 5 h.0 (load_leads retries 3 (Some u) s _ h.1))

  -- ---------------------------------------------------------------- from any place

  abbrev Resting : State → Outcome → Type 0
  Resting v x = EndsOrSleeps x

  rests_so : (o : Option ℕ) (v : State) (x : Outcome) → LockEnds t l entry o q v x → EndsOrSleeps x
  rests_so None v x h = rw (h.0) tt
  rests_so (Some u) v x h = rw (h.0) tt

  load_rests : (retries : Bool) (v : ℕ) (o s : Option ℕ) (w : State)
      → Facing w t l (Mutex l (Lock entry retries Load)) v o s q
      → Leads 5 w t Resting
  load_rests retries v o s w f = leads_so 5 w t (LockEnds t l entry o q) Resting (rests_so o)
      (load_leads retries v o s w f)

module _ (t l : ℕ) (entry : Entry) where
  -- from this place it rests within so many steps
  abbrev RestsFrom : LockAt → ℕ → Type 0
  RestsFrom at steps = (retries : Bool) (v : ℕ) (o s : Option ℕ) (q : List Waiter) (w : State)
      → Facing w t l (Mutex l (Lock entry retries at)) v o s q → Leads steps w t (λ x y. EndsOrSleeps y)

  leave_rests : (b : Bool) → RestsFrom (Leave b) 6
  leave_rests true retries v o s q w f = let h = leave_faces w t l _ v o s q f refl
      in leads_more 1 6 w t (λ x y. EndsOrSleeps y) (omega arith)
      (leads_rest w t (λ x y. EndsOrSleeps y) outcome.Sleep h.0 tt tt)
  leave_rests false retries v o s q w f = let h = leave_faces w t l _ v o s q f refl
      in leads_step w t (λ x y. EndsOrSleeps y) 5 h.0 (load_rests t l entry q retries v o None _ h.1)

  check_rests : RestsFrom Check 7
  check_rests retries v o s q w f = either (v == 3) refl
    where
      either : (b : Bool) → (v == 3) ≡ b → Leads 7 w t (λ x y. EndsOrSleeps y)
      either true e = let h = park_faces w t l _ v o s q f refl (eqb-true v 3 e) refl
          in leads_step w t (λ x y. EndsOrSleeps y) 6 h.0 (leave_rests true (retries && not true) v o s _ _ h.1)
      either false e = let h = unparked_faces w t l _ v o s q f refl e in leads_step w t (λ x y. EndsOrSleeps y) 6
          h.0 (leave_rests false (retries && not false) v o s q _ h.1)

  gives_up_rests : RestsFrom GiveUp 1
  gives_up_rests retries v o s q w f =
      leads_rest w t (λ x y. EndsOrSleeps y) (outcome.End answer.No)
      (leave_faces w t l _ v o s q f refl).0 tt tt

  clear_rests : RestsFrom Clear 2
  clear_rests retries v o s q w f = let h = word_faces w t l _ v o s q f (op.TheVariants.And NOT_PARKED) refl
      in leads_step w t (λ x y. EndsOrSleeps y) 1 h.0 (gives_up_rests retries _ o s q _ h.1)

  remove_rests : RestsFrom Remove 3
  remove_rests retries v o s q w f = either (length (without t q) == 0)
      (remove_faces w t l (Mutex l (Lock entry retries Remove)) v o s q f refl)
    where
      either : (b : Bool) → Faces w t l (next_place (Mutex l (Lock entry retries Remove)) (Removed b))
          (outcome_of (next_act (Mutex l (Lock entry retries Remove)) (Removed b))) v o s (without t q)
          → Leads 3 w t (λ x y. EndsOrSleeps y)
      either true h = leads_step w t (λ x y. EndsOrSleeps y) 2 h.0 (clear_rests retries v o s _ _ h.1)
      either false h = leads_more 2 3 w t (λ x y. EndsOrSleeps y) (omega arith) (leads_step w t (λ x y. EndsOrSleeps y) 1
          h.0 (gives_up_rests retries v o s _ _ h.1))

  -- the thread decides by a value that the word has no longer, or still
  decide_rests : (retries : Bool) (x v : ℕ) (o s : Option ℕ) (q : List Waiter) (w : State)
      → Facing w t l (Mutex l (Lock entry retries (Decide x))) v o s q → Leads 8 w t (λ a y. EndsOrSleeps y)
  decide_rests retries x v o s q w f = elim (cases_eq v x) [
    | inl e ↦ let g : Facing w t l (Mutex l (Lock entry retries (Decide v))) v o s q =
        subst (λ y. Facing w t l (Mutex l (Lock entry retries (Decide y))) v o s q) (sym e) f in
        leads_more 4 8 w t (λ a y. EndsOrSleeps y) (omega arith) (leads_so 4 w t (LockEnds t l entry o q)
        (λ a y. EndsOrSleeps y) (rests_so t l entry q o) (decide_leads t l entry q retries v o
        (coded t l entry q w _ v o s f) s w g))
    | inr ne ↦ either (is_locked x) (x == 1) refl refl (stale ne)
  ]
    where
      stale : v ≢ x → (v == x) ≡ false
      stale ne = differ v x ne

      here : Place
      here = Mutex l (Lock entry retries (Decide x))

      -- the exchange fails, and it decides by what it has seen
      exchanged : (y : op.Op) → act_of (Mutex l (Lock entry retries (Decide x))) ≡ act.Word l y
          → apply y v ≡ v
          → (v == x) ≡ false → Leads 8 w t (λ a z. EndsOrSleeps z)
      exchanged y is stays no_more = again (word_faces w t l (Lock entry retries (Decide x)) v o s q f y is)
        where
          again : Faces w t l (next_place (Mutex l (Lock entry retries (Decide x))) (Value v))
              (outcome_of (next_act (Mutex l (Lock entry retries (Decide x))) (Value v))) (apply y v)
              (mutex_owner_after (Lock entry retries (Decide x)) t v o) s q
              → Leads 8 w t (λ a z. EndsOrSleeps z)
          again h = let told : outcome_of (next_act (Mutex l (Lock entry retries (Decide x))) (Value v))
              ≡ outcome.Step = rw no_more (decides l v) in
              let to : next_place (Mutex l (Lock entry retries (Decide x))) (Value v) ≡ Mutex l
              (Lock entry retries (Decide v)) = rw no_more refl in
              let own : mutex_owner_after (Lock entry retries (Decide x)) t v o ≡ o = rw no_more refl in
              let g : Facing (after w (go_of t)) t l (Mutex l (Lock entry retries (Decide v))) v o s q =
              subst (λ z. Facing (after w (go_of t)) t l z v o s q) to
              (subst (λ n. Facing (after w (go_of t)) t l
              (next_place (Mutex l (Lock entry retries (Decide x))) (Value v)) n o s q) stays
              (subst (λ u. Facing (after w (go_of t)) t l
              (next_place (Mutex l (Lock entry retries (Decide x))) (Value v)) (apply y v) u s q) own
              h.1)) in
              leads_more 5 8 w t (λ a z. EndsOrSleeps z) (omega arith) (leads_step w t (λ a z. EndsOrSleeps z) 4 (h.0
              ∙ told)
              (leads_so 4 (after w (go_of t)) t (LockEnds t l entry o q) (λ a z. EndsOrSleeps z)
              (rests_so t l entry q o) (decide_leads t l entry q retries v o
              (coded t l entry q w _ v o s f) s (after w (go_of t)) g)))

      either : (a b : Bool) → is_locked x ≡ a → (x == 1) ≡ b → (v == x) ≡ false → Leads 8 w t (λ c y. EndsOrSleeps y)
      either false b ea eb no_more = exchanged (op.TheVariants.Exchange x (x + 1)) (rw ea refl)
          (rw no_more refl) no_more
      either true true ea eb no_more = let not_1 : (v == 1) ≡ false = subst (λ n. (v == n) ≡ false)
          (eqb-true x 1 eb) no_more in exchanged (op.TheVariants.Exchange 1 3) (rw (ea, eb) refl)
          (rw not_1 refl) no_more
      either true false ea eb no_more = faces_into w t l (Mutex l (Lock entry retries (Decide x))) v o s q f
          (λ c y. EndsOrSleeps y) 7 (rw (ea, eb) refl) refl refl (λ h. check_rests retries v o (Some t) q _ h)

  pub lock_rests : (retries : Bool) (a : LockAt) (v : ℕ) (o s : Option ℕ) (q : List Waiter) (w : State)
      → Facing w t l (Mutex l (Lock entry retries a)) v o s q
      → act_of (Mutex l (Lock entry retries a)) ≢ act.Sleep → Leads 8 w t (λ c y. EndsOrSleeps y)
  lock_rests retries First v o s q w f up = leads_more 6 8 w t (λ c y. EndsOrSleeps y) (omega arith)
      (leads_so 6 w t (LockEnds t l entry o q) (λ c y. EndsOrSleeps y) (rests_so t l entry q o)
      (first_leads t l entry q retries v o (coded t l entry q w _ v o s f) s w f))
  lock_rests retries Load v o s q w f up = leads_more 5 8 w t (λ c y. EndsOrSleeps y) (omega arith)
      (load_rests t l entry q retries v o s w f)
  lock_rests retries (Decide x) v o s q w f up = decide_rests retries x v o s q w f
  lock_rests retries Check v o s q w f up = leads_more 7 8 w t (λ c y. EndsOrSleeps y) (omega arith)
      (check_rests retries v o s q w f)
  lock_rests retries (Leave b) v o s q w f up = leads_more 6 8 w t (λ c y. EndsOrSleeps y) (omega arith)
      (leave_rests b retries v o s q w f)
  lock_rests retries Asleep v o s q w f up = absurd (up refl)
  lock_rests retries (Taken by) v o s q w f up = absurd (up refl)
  lock_rests retries (Handed by) v o s q w f up = absurd (up refl)
  lock_rests retries Accept v o s q w f up = let h = accept_faces w t l (Mutex l (Lock entry retries Accept))
      v o s q f refl in leads_more 1 8 w t (λ c y. EndsOrSleeps y) (omega arith) (leads_rest w t (λ c y. EndsOrSleeps y)
      (outcome.End (entered entry)) h.0 tt tt)
  lock_rests retries Remove v o s q w f up = leads_more 3 8 w t (λ c y. EndsOrSleeps y) (omega arith)
      (remove_rests retries v o s q w f)
  lock_rests retries Clear v o s q w f up = leads_more 2 8 w t (λ c y. EndsOrSleeps y) (omega arith)
      (clear_rests retries v o s q w f)
  lock_rests retries GiveUp v o s q w f up = leads_more 1 8 w t (λ c y. EndsOrSleeps y) (omega arith)
      (gives_up_rests retries v o s q w f)

-- ---------------------------------------------------------------- try_lock and unlock

-- yes exactly where the word is unlocked
pub try_leads : (t l : ℕ) (q : List Waiter) (s : Option ℕ) (v : ℕ) (o : Option ℕ) (w : State)
    → Facing w t l (Mutex l TryLock) v o s q
    → Leads 1 w t
    (λ x y. (y ≡ (if is_locked v then outcome.End answer.No
    else outcome.End answer.Yes))
    × (owner_at x l ≡ (if is_locked v then o else Some t)))
try_leads t l q s v o w f = either (is_locked v) refl
  where
    either : (b : Bool) → is_locked v ≡ b
        → Leads 1 w t
        (λ x y. (y ≡ (if b then outcome.End answer.No else outcome.End
        answer.Yes)) × (owner_at x l ≡ (if b then o else Some t)))
    either true e = let h = word_faces w t l TryLock v o s q f (op.TheVariants.Or 1) refl in
        leads_rest w t (λ x y. (y ≡ outcome.End answer.No) × (owner_at x l ≡ o))
        (outcome.End answer.No) (h.0 ∙ rw e refl) tt (refl, h.1.owner ∙ rw e refl)
    either false e = let h = word_faces w t l TryLock v o s q f (op.TheVariants.Or 1) refl in
        leads_rest w t (λ x y. (y ≡ outcome.End answer.Yes) × (owner_at x l ≡ Some t))
        (outcome.End answer.Yes) (h.0 ∙ rw e refl) tt (
          refl,
          h.1.owner
              ∙ rw e refl,
        )

abbrev pub UnlockEnds : ℕ → Option ℕ → State → Outcome → Type 0
UnlockEnds l o x y = (y ≡ outcome.End answer.Ok) × (owner_at x l ≡ o)

module _ (t l : ℕ) where
  woke_leads : (any : Bool) (q : List Waiter) (v : ℕ) (o s : Option ℕ) (w : State)
      → Facing w t l (Mutex l (Unlock (unlock.Leave any))) v o s q → Leads 1 w t (UnlockEnds l o)
  woke_leads false q v o s w f = let h = leave_faces w t l (Mutex l (Unlock (unlock.Leave false))) v o s q f
      refl in leads_rest w t (UnlockEnds l o) (outcome.End answer.Ok) h.0 tt (
        refl,
        h.1.owner,
      )
  woke_leads true q v o s w f = let h = wake_faces w t l (Mutex l (Unlock (unlock.Leave true))) v o s q f
      note.Normal refl in leads_rest w t (UnlockEnds l o) (outcome.End answer.Ok) h.0
      tt (refl, h.1.owner)

  cleared_leads : (any : Bool) (q : List Waiter) (v : ℕ) (o s : Option ℕ) (w : State)
      → Facing w t l (Mutex l (Unlock (unlock.Clear any))) v o s q → Leads 2 w t (UnlockEnds l o)
  cleared_leads any q v o s w f = let h = word_faces w t l (Unlock (unlock.Clear any)) v o s q f
      (op.TheVariants.And NOT_PARKED) refl in leads_step w t (UnlockEnds l o) 1 h.0
      (woke_leads any q _ o s _ h.1)

  take_leads : (q : List Waiter) (v : ℕ) (o s : Option ℕ) (w : State)
      → Facing w t l (Mutex l (Unlock unlock.Take)) v o s q
      → Leads 3 w t (UnlockEnds l o)
  take_leads q v o s w f = either (length (drop 1 q) == 0) (take_faces w t l (Mutex l (Unlock unlock.Take)) v
      o s q f refl)
    where
      either : (b : Bool)
          → Faces w t l (next_place (Mutex l (Unlock unlock.Take)) (Took (is_there (first_of q)) b))
          (outcome_of (next_act (Mutex l (Unlock unlock.Take)) (Took (is_there (first_of q)) b))) v o s
          (drop 1 q)
          → Leads 3 w t (UnlockEnds l o)
      either true h = leads_step w t (UnlockEnds l o) 2 h.0 (cleared_leads (is_there (first_of q)) (drop 1 q)
          v o s _ h.1)
      either false h = leads_more 2 3 w t (UnlockEnds l o) (omega arith) (leads_step w t (UnlockEnds l o) 1
          h.0 (woke_leads (is_there (first_of q)) (drop 1 q) v o s _ h.1))

  enter_leads : (q : List Waiter) (v : ℕ) (o s : Option ℕ) (w : State)
      → Facing w t l (Mutex l (Unlock unlock.Enter)) v o s q
      → Leads 4 w t (UnlockEnds l o)
  enter_leads q v o s w f = faces_into w t l (Mutex l (Unlock unlock.Enter)) v o s q f (UnlockEnds l o) 3 refl
      refl refl (λ h. take_leads q v o (Some t) _ h)

  pub subtract_leads : (q : List Waiter) (v : ℕ) (o s : Option ℕ) (w : State)
      → Facing w t l (Mutex l (Unlock unlock.Subtract)) v o s q → Leads 5 w t (UnlockEnds l None)
  subtract_leads q v o s w f = either (is_parked v) (word_faces w t l (Unlock unlock.Subtract) v o s q f
      (op.TheVariants.Sub 1) refl)
    where
      either : (b : Bool)
          → Faces w t l
          (mutex_goes l (in_unlock (if b then next.At unlock.Enter else next.End
          answer.Ok)))
          (outcome_of (mutex_does l (in_unlock (if b then next.At unlock.Enter
          else next.End answer.Ok))))
          (apply (op.TheVariants.Sub 1) v) None s q → Leads 5 w t (UnlockEnds l None)
      either true h = leads_step w t (UnlockEnds l None) 4 h.0 (enter_leads q _ None s _ h.1)
      either false h = leads_more 1 5 w t (UnlockEnds l None) (omega arith)
          (leads_rest w t (UnlockEnds l None) (outcome.End answer.Ok) h.0 tt (
            refl,
            h.1.owner,
          ))

  ends_so : (o : Option ℕ) (v : State) (x : Outcome) → UnlockEnds l o v x → EndsOrSleeps x
  ends_so o v x h = rw (h.0) tt

  pub unlock_rests : (a : UnlockAt) (v : ℕ) (o s : Option ℕ) (q : List Waiter) (w : State)
      → Facing w t l (Mutex l (Unlock a)) v o s q
      → Leads 8 w t (λ c y. EndsOrSleeps y)
  unlock_rests unlock.Subtract v o s q w f = leads_more 5 8 w t (λ c y. EndsOrSleeps y) (omega arith)
      (leads_so 5 w t (UnlockEnds l None) (λ c y. EndsOrSleeps y) (ends_so None) (subtract_leads q v o s w f))
  unlock_rests unlock.Enter v o s q w f = leads_more 4 8 w t (λ c y. EndsOrSleeps y) (omega arith)
      (leads_so 4 w t (UnlockEnds l o) (λ c y. EndsOrSleeps y) (ends_so o) (enter_leads q v o s w f))
  unlock_rests unlock.Take v o s q w f = leads_more 3 8 w t (λ c y. EndsOrSleeps y) (omega arith)
      (leads_so 3 w t (UnlockEnds l o) (λ c y. EndsOrSleeps y) (ends_so o) (take_leads q v o s w f))
  unlock_rests (unlock.Clear any) v o s q w f = leads_more 2 8 w t (λ c y. EndsOrSleeps y) (omega arith)
      (leads_so 2 w t (UnlockEnds l o) (λ c y. EndsOrSleeps y) (ends_so o) (cleared_leads any q v o s w f))
  unlock_rests (unlock.Leave any) v o s q w f = leads_more 1 8 w t (λ c y. EndsOrSleeps y) (omega arith)
      (leads_so 1 w t (UnlockEnds l o) (λ c y. EndsOrSleeps y) (ends_so o) (woke_leads any q v o s w f))

-- ---------------------------------------------------------------- fair releases

-- a fair release ends, and a bump enters again
abbrev pub FairEnds : Bool → ℕ → ℕ → Option ℕ → List Waiter → State → Outcome → Type 0
FairEnds false t l o q v x = UnlockEnds l o v x
FairEnds true t l o q v x = LockEnds t l entries.Bump o q v x

unparked_below : (v : ℕ) → v < 2 → is_parked v ≡ false
unparked_below zero h = refl
unparked_below (suc zero) h = refl
unparked_below (suc (suc v)) h = absurd (omega arith)

-- where the parked bit is clear, and nobody is inside the section, nobody waits
none_waits : (t l : ℕ) (at : MutexPlace) (v : ℕ) (o : Option ℕ) (q : List Waiter) (w : State)
    → Facing w t l (Mutex l at) v o None q → v < 2 → q ≡ []
none_waits t l at v o [] w f below = refl
none_waits t l at v o (x ∷ q) w f below = absurd (
    let first : first_of (queue_at w (2 * l)) ≡ Some x.thread = ap first_of f.queue in
    let parked : is_parked v ≡ true = subst (λ n. is_parked n ≡ true) f.word
    (parked_at w f.inductive x.thread l (rules_for w f.inductive t l at f.place) f.section
    (first_times x.thread (queue_at w (2 * l)) first)) in
    let clear : is_parked v ≡ false = unparked_below v below in cc
    )

unparked : (v : ℕ) (o : Option ℕ) → IsMutexWord v o → is_parked v ≡ false → v < 2
unparked v o c h = by_code (λ v o. is_parked v ≡ false → v < 2) (λ h. omega arith) (λ h. absurd cc)
    (λ u h. omega arith) (λ u h. absurd cc) v o c h

module _ (t l : ℕ) where
  told_leads : (bumps any : Bool) (q : List Waiter) (v : ℕ) (o s : Option ℕ) (w : State)
      → Facing w t l (Mutex l (HandOff bumps (hand_off.Leave any))) v o s q
      → Leads 7 w t (FairEnds bumps t l o q)
  told_leads true false q v o s w f = let h =
      leave_faces w t l (Mutex l (HandOff true (hand_off.Leave false))) v o s q f refl in
      leads_step w t (FairEnds true t l o q) 6 h.0 (first_leads t l entries.Bump q false v o
      (coded t l entries.Bump q w _ v o s f) None _ h.1)
  told_leads true true q v o s w f = let h = wake_faces w t l (Mutex l (HandOff true (hand_off.Leave true))) v
      o s q f note.HandOff refl in
      leads_step w t (FairEnds true t l o q) 6 h.0 (first_leads t l entries.Bump q false v o
      (coded t l entries.Bump q w _ v o s f) None _ h.1)
  told_leads false false q v o s w f = let h =
      leave_faces w t l (Mutex l (HandOff false (hand_off.Leave false))) v o s q f refl in
      leads_more 1 7 w t (UnlockEnds l o) (omega arith) (leads_rest w t (UnlockEnds l o)
      (outcome.End answer.Ok) h.0 tt (refl, h.1.owner))
  told_leads false true q v o s w f = let h = wake_faces w t l (Mutex l (HandOff false (hand_off.Leave true)))
      v o s q f note.HandOff refl in
      leads_more 1 7 w t (UnlockEnds l o) (omega arith) (leads_rest w t (UnlockEnds l o)
      (outcome.End answer.Ok) h.0 tt (refl, h.1.owner))

  -- the store, where the heir is this one, if there is any
  store_leads : (bumps none_left : Bool) (to : Option ℕ) (q : List Waiter) (v : ℕ) (o s : Option ℕ)
      (w : State)
      → Facing w t l (Mutex l (HandOff bumps (hand_off.Store (is_there to) none_left))) v o s q
      → ((u : ℕ) → to ≡ Some u → (o : Owners) → owners_handed_over w t l o ≡ with_exclusive o (Some u))
      → Leads 8 w t (FairEnds bumps t l to q)
  store_leads bumps none_left None q v o s w f heir = let h =
      word_faces w t l (HandOff bumps (hand_off.Store false none_left)) v o s q f (op.TheVariants.Store 0)
      refl in
      leads_step w t (FairEnds bumps t l None q) 7 h.0 (told_leads bumps false q 0 None s _ h.1)
  store_leads bumps none_left (Some u) q v o s w f heir = let h =
      hand_faces w t l (Mutex l (HandOff bumps (hand_off.Store true none_left))) v o s q f
      (op.TheVariants.Store (hand_off_word true none_left)) u refl refl (heir u refl) in
      leads_step w t (FairEnds bumps t l (Some u) q) 7 h.0
      (told_leads bumps true q (hand_off_word true none_left) (Some u) s _ h.1)

  -- the first of the queue is in its hand then
  module _ (bumps : Bool) (v : ℕ) (o s : Option ℕ) (x : Waiter) (rest : List Waiter) (w : State)
      (f : Facing w t l (Mutex l (HandOff bumps hand_off.Take)) v o s (x ∷ rest)) where
    abbrev taking : MutexPlace
    taking = HandOff bumps hand_off.Take

    abbrev taken_then : State
    taken_then = go_by w t (Mutex l taking) (act.Take (2 * l) whoms.First)

    first_held : (whom : Option ℕ) → Goes w taken_then l (acts t (take_deeds whom))
        → hand_at (place_at taken_then x.thread) l ≡ hand t false
    first_held None goes = absurd (let none : map queued_of (queue_at w (2 * l)) ≡ [] =
        goes.follows.needed.0.2 in let some : map queued_of (queue_at w (2 * l)) ≡ queued_of x
        ∷ map queued_of rest = ap (map queued_of) f.queue in cc)
    first_held (Some u) goes =
        let line : map queued_of (queue_at w (2 * l)) ≡ queued u ∷ goes.follows.needed.0.0.0.0 =
        goes.follows.needed.0.0.0.1 in
        let first : queued u ∷ goes.follows.needed.0.0.0.0 ≡ queued_of x ∷ map queued_of rest = sym line
        ∙ ap (map queued_of) f.queue in
        let who : Some u ≡ Some x.thread = ap first_thread first in
        let same_one : u ≡ x.thread = cc in
        let taken : taken_at (place_at taken_then u) l ≡ Some (record { by = t; want = Exclusive }) =
        ap (λ (z : Site). z.lock.taken u) goes.follows.site ∙ put_here (λ k. taken_at (place_at w k) l) u
        (Some (record { by = t; want = Exclusive })) in
        taken_held (place_at taken_then x.thread) t l Exclusive (ap (λ j. taken_at (place_at taken_then j) l)
        (sym same_one) ∙ taken)

    heir_first : (o : Owners) → owners_handed_over (after w (go_of t)) t l o ≡ with_exclusive o
        (Some x.thread)
    heir_first = successor_one (after w (go_of t)) t l x.thread false (aparts (after w (go_of t))
        inductive_then)
        inductive_then.stands.hands (single_at (after w (go_of t)) t l
        (HandOff bumps (hand_off.Store true (length rest == 0))) inductive_then here.place)
        (of_carries l (place_at (after w (go_of t)) t) (rw here.place refl))
        (subst (λ (z : State). hand_at (place_at z x.thread) l ≡ hand t false) (sym led) held)
        (alone_at (after w (go_of t)) t l (HandOff bumps (hand_off.Store true (length rest == 0)))
        inductive_then
        here.place) (unshared_at (after w (go_of t)) t l
        (HandOff bumps (hand_off.Store true (length rest == 0))) inductive_then here.place)
      where
        led : after w (go_of t) ≡ taken_then
        led = act_led w t l (Mutex l taking) v o s (x ∷ rest) f refl

        here : Facing (after w (go_of t)) t l
            (Mutex l (HandOff bumps (hand_off.Store true (length rest == 0)))) v o s rest
        here = (take_faces w t l (Mutex l taking) v o s (x ∷ rest) f refl).1

        inductive_then : IsInductive (after w (go_of t))
        inductive_then = here.inductive

        goes : (whom : Option ℕ) × Goes w taken_then l (acts t (take_deeds whom))
        goes = let g = goes_mutex w t l taking f.inductive f.shape f.thread f.lock f.place refl
            in (g.whom, subst (Goes w taken_then l) (append-nil (acts t (take_deeds g.whom))) g.goes)

        held : hand_at (place_at taken_then x.thread) l ≡ hand t false
        held = first_held goes.0 goes.1

  fair_take_leads : (bumps : Bool) (q : List Waiter) (v : ℕ) (o s : Option ℕ) (w : State)
      → Facing w t l (Mutex l (HandOff bumps hand_off.Take)) v o s q
      → Leads 9 w t (FairEnds bumps t l (first_of q) (drop 1 q))
  fair_take_leads bumps [] v o s w f = let h = take_faces w t l (Mutex l (HandOff bumps hand_off.Take)) v o s
      [] f refl in
      leads_step w t (FairEnds bumps t l None []) 8 h.0 (store_leads bumps true None [] v o s _ h.1
      (λ u e. absurd cc))
  fair_take_leads bumps (x ∷ rest) v o s w f = let h =
      take_faces w t l (Mutex l (HandOff bumps hand_off.Take)) v o s (x ∷ rest) f refl in
      leads_step w t (FairEnds bumps t l (Some x.thread) rest) 8 h.0 (store_leads bumps (length rest == 0)
      (Some x.thread) rest v o s _ h.1 (λ u e o2. heir_first bumps v o s x rest w f o2
      ∙ ap (λ (z : Option ℕ). with_exclusive o2 z) e))

  fair_enter_leads : (bumps : Bool) (q : List Waiter) (v : ℕ) (o s : Option ℕ) (w : State)
      → Facing w t l (Mutex l (HandOff bumps hand_off.Enter)) v o s q
      → Leads 10 w t (FairEnds bumps t l (first_of q) (drop 1 q))
  fair_enter_leads bumps q v o s w f = faces_into w t l (Mutex l (HandOff bumps hand_off.Enter)) v o s q f
      (FairEnds bumps t l (first_of q) (drop 1 q)) 9 refl refl refl
      (λ h. fair_take_leads bumps q v o (Some t) _ h)

  pub unlock_fair_leads : (q : List Waiter) (v : ℕ) (o : Option ℕ) (w : State)
      → Facing w t l (Mutex l UnlockFair) v o None q
      → Leads 11 w t (FairEnds false t l (first_of q) (drop 1 q))
  unlock_fair_leads q v o w f = either (v == 1) refl (word_faces w t l UnlockFair v o None q f
      (op.TheVariants.Exchange 1 0) refl)
    where
      either : (b : Bool) → (v == 1) ≡ b
          → Faces w t l (mutex_goes l (looked false (not b)))
          (outcome_of (mutex_does l (looked false (not b))))
          (if b then 0 else v) (if b then None else o) None q
          → Leads 11 w t (FairEnds false t l (first_of q) (drop 1 q))
      either true e h = let one : v ≡ 1 = eqb-true v 1 e in let none : first_of q ≡ None =
          ap first_of (none_waits t l UnlockFair v o q w f (omega arith)) in
          leads_more 1 11 w t (UnlockEnds l (first_of q)) (omega arith)
          (leads_rest w t (UnlockEnds l (first_of q)) (outcome.End answer.Ok) h.0
          tt (refl, h.1.owner ∙ sym none))
      either false e h = leads_step w t (UnlockEnds l (first_of q)) 10 h.0
          (fair_enter_leads false q v o None _ h.1)

  pub bump_leads : (q : List Waiter) (v : ℕ) (o : Option ℕ) (w : State) → Facing w t l (Mutex l Bump) v o None
      q
      → Leads 11 w t (FairEnds true t l (first_of q) (drop 1 q))
  bump_leads q v o w f = either (is_parked v) refl (word_faces w t l Bump v o None q f op.TheVariants.Load
      refl)
    where
      owned : o ≡ Some t
      owned = sym f.owner ∙ owns w f.inductive t l Bump f.place refl

      either : (b : Bool) → is_parked v ≡ b
          → Faces w t l (mutex_goes l (looked true b)) (outcome_of (mutex_does l (looked true b))) v o None q
          → Leads 11 w t (FairEnds true t l (first_of q) (drop 1 q))
      either true e h = leads_step w t (FairEnds true t l (first_of q) (drop 1 q)) 10 h.0
          (fair_enter_leads true q v o None _ h.1)
      either false e h = let empty : q ≡ [] = none_waits t l Bump v o q w f
          (unparked v o (coded t l entries.Bump q w _ v o None f) e) in
          leads_more 1 11 w t (FairEnds true t l (first_of q) (drop 1 q)) (omega arith)
          (leads_rest w t (FairEnds true t l (first_of q) (drop 1 q)) (outcome.End
          answer.Ok) h.0 tt (rw empty (refl, h.1.owner ∙ owned)))

  fair_so : (bumps : Bool) (o : Option ℕ) (q : List Waiter) (v : State) (x : Outcome)
      → FairEnds bumps t l o q v x → EndsOrSleeps x
  fair_so true o q v x h = rests_so t l entries.Bump q o v x h
  fair_so false o q v x h = ends_so t l o v x h

  entered_rests : (bumps : Bool) (q : List Waiter) (v : ℕ) (o s : Option ℕ) (w : State)
      → Facing w t l (Mutex l (HandOff bumps hand_off.Enter)) v o s q → Leads 10 w t (λ c y. EndsOrSleeps y)
  entered_rests bumps q v o s w f = leads_so 10 w t (FairEnds bumps t l (first_of q) (drop 1 q))
      (λ c y. EndsOrSleeps y) (fair_so bumps (first_of q) (drop 1 q)) (fair_enter_leads bumps q v o s w f)

  pub fair_rests : (k : ℕ) (bumps : Bool) (o : Option ℕ) (q : List Waiter) (w : State) → k ≤ 12
      → Leads k w t (FairEnds bumps t l o q) → Leads 12 w t (λ c y. EndsOrSleeps y)
  fair_rests k bumps o q w le h = leads_more k 12 w t (λ c y. EndsOrSleeps y) le
      (leads_so k w t (FairEnds bumps t l o q) (λ c y. EndsOrSleeps y) (fair_so bumps o q) h)

  -- from its beginning, whatever thread is inside its section
  pub unlock_fair_rests : (q : List Waiter) (v : ℕ) (o s : Option ℕ) (w : State)
      → Facing w t l (Mutex l UnlockFair) v o s q
      → Leads 12 w t (λ c y. EndsOrSleeps y)
  unlock_fair_rests q v o s w f =
      either (v == 1) (word_faces w t l UnlockFair v o s q f (op.TheVariants.Exchange 1 0) refl)
    where
      either : (b : Bool)
          → Faces w t l (mutex_goes l (looked false (not b)))
          (outcome_of (mutex_does l (looked false (not b))))
          (if v == 1 then 0 else v) (if b then None else o) s q
          → Leads 12 w t (λ c y. EndsOrSleeps y)
      either true h = leads_more 1 12 w t (λ c y. EndsOrSleeps y) (omega arith) (leads_rest w t (λ c y. EndsOrSleeps y)
          (outcome.End answer.Ok) h.0 tt tt)
      either false h = leads_more 11 12 w t (λ c y. EndsOrSleeps y) (omega arith)
          (leads_step w t (λ c y. EndsOrSleeps y) 10 h.0 (entered_rests false q _ o s _ h.1))

  pub bump_rests : (q : List Waiter) (v : ℕ) (o s : Option ℕ) (w : State) → Facing w t l (Mutex l Bump) v o s
      q
      → Leads 12 w t (λ c y. EndsOrSleeps y)
  bump_rests q v o s w f = either (is_parked v) (word_faces w t l Bump v o s q f op.TheVariants.Load refl)
    where
      either : (b : Bool) → Faces w t l (mutex_goes l (looked true b))
          (outcome_of (mutex_does l (looked true b))) v o s q
          → Leads 12 w t (λ c y. EndsOrSleeps y)
      either true h = leads_more 11 12 w t (λ c y. EndsOrSleeps y) (omega arith) (leads_step w t (λ c y. EndsOrSleeps y) 10
          h.0 (entered_rests true q v o s _ h.1))
      either false h = leads_more 1 12 w t (λ c y. EndsOrSleeps y) (omega arith) (leads_rest w t (λ c y. EndsOrSleeps y)
          (outcome.End answer.Ok) h.0 tt tt)

  pub hand_off_rests : (bumps : Bool) (a : HandOffAt) (v : ℕ) (o s : Option ℕ) (q : List Waiter) (w : State)
      → Facing w t l (Mutex l (HandOff bumps a)) v o s q
      → Leads 12 w t (λ c y. EndsOrSleeps y)
  hand_off_rests bumps hand_off.Enter v o s q w f = fair_rests 10 bumps (first_of q) (drop 1 q) w
      (omega arith) (fair_enter_leads bumps q v o s w f)
  hand_off_rests bumps hand_off.Take v o s q w f = fair_rests 9 bumps (first_of q) (drop 1 q) w (omega arith)
      (fair_take_leads bumps q v o s w f)
  hand_off_rests bumps (hand_off.Store false none_left) v o s q w f = fair_rests 8 bumps None q w
      (omega arith) (store_leads bumps none_left None q v o s w f (λ u e. absurd cc))
  hand_off_rests bumps (hand_off.Store true none_left) v o s q w f =
      let one : (u : ℕ) × (hand_at (place_at w u) l ≡ hand t false) = f.inductive.stands.hands.carried t l
      false
      (ap (λ (x : Location). x.has_taken)
      (own_stance l (place_at w t) (HandOff bumps (hand_off.Store true none_left)) f.place)) in
      fair_rests 8 bumps (Some one.0) q w (omega arith) (store_leads bumps none_left (Some one.0) q v o s w f
      (λ u e o2. successor_one w t l one.0 false (aparts w f.inductive) f.inductive.stands.hands
      (single_at w t l (HandOff bumps (hand_off.Store true none_left)) f.inductive f.place)
      (of_carries l (place_at w t) (rw f.place refl)) one.1
      (alone_at w t l (HandOff bumps (hand_off.Store true none_left)) f.inductive f.place)
      (unshared_at w t l (HandOff bumps (hand_off.Store true none_left)) f.inductive f.place) o2
      ∙ ap (λ (z : Option ℕ). with_exclusive o2 z) e))
  hand_off_rests bumps (hand_off.Leave any) v o s q w f = fair_rests 7 bumps o q w (omega arith)
      (told_leads bumps any q v o s w f)
