-- Each step of a wait may do to its mutex what its deeds say, and leaves its word.
use Rattle.std.proofs.Common.{ℕ, Bool, true, false, Option, Some, None, if◌then◌else◌, ◌==◌, ◌≡◌, ◌≢◌, ◌+◌}
use Rattle.std.proofs.Common.{◌*◌, ◌⊎◌, inl, inr, List, [], ◌∷◌, refl, sym, ap, ◌∙◌, subst, arith}
use Rattle.std.proofs.lemmas.Bool.{eqb-true}
use Rattle.std.proofs.lemmas.Bool.Decides.{nat_tests}
use Rattle.std.specs.Prelude.{not, drop, ◌≤◌, ◌&&◌, ◌||◌}
use Rattle.core_base.specs.declared.notes.Note.TheVariants as note
use Rattle.core_base.specs.declared.keys.Keys.TheVariants.{One}
use Rattle.core_base.specs.declared.ops.Op.{Op}
use Rattle.core_base.specs.declared.ops.Op.TheVariants as op
use Rattle.core_base.specs.declared.wants.Want.TheVariants.{Exclusive}
use Rattle.core_base.specs.Words.{apply}
use Rattle.spec_locks.specs.declared.outcomes.Answer.TheVariants as answer
use Rattle.steps_base.specs.declared.acts.Act.TheVariants as act
use Rattle.steps_base.specs.declared.acts.Next.{Next}
use Rattle.steps_base.specs.declared.acts.Next.TheVariants.{At, End as Over}
use Rattle.steps_base.specs.declared.acts.Reply.{Reply}
use Rattle.steps_base.specs.declared.acts.Reply.TheVariants.{Done, Value, Parked, Took, Removed, TakenBy}
use Rattle.steps_base.specs.declared.acts.Reply.TheVariants.{MovedTo, HandedBy, Late, Woken}
use Rattle.steps_base.specs.declared.owners.Owners.{Owners}
use Rattle.steps_base.specs.Owners.{with_exclusive}
use Rattle.spec_locks.specs.Codes.{code}
use Rattle.spec_locks.specs.Deeds.{AllNeeded, after_all}
use Rattle.spec_locks.specs.Locks.{Enter, HasTakenNobody, Late as GivesUp, Leave, Mutex, Rules, standing}
use Rattle.spec_locks.specs.Locks.{times, without}
use Rattle.spec_locks.specs.Sites.{Case, Deed, Role, End, Has, IsSite, Line, Main, Mark, Out, Second, Site}
use Rattle.spec_locks.specs.Sites.{after_deed, found, idle, is_empty, leaves, seen_main, wakened}
use Rattle.steps_mutex.specs.declared.lock.Entry.{Entry}
use Rattle.steps_mutex.specs.declared.lock.Entry.TheVariants as entry
use Rattle.steps_mutex.specs.declared.lock.LockAt.{LockAt}
use Rattle.steps_mutex.specs.declared.lock.LockAt.TheVariants as lock
use Rattle.steps_mutex.specs.declared.places.MutexPlace.TheVariants as mutex
use Rattle.steps_mutex.specs.declared.places.TheConstants.{NOT_PARKED}
use Rattle.steps_mutex.specs.declared.unlock.UnlockAt.{UnlockAt}
use Rattle.steps_mutex.specs.declared.unlock.UnlockAt.TheVariants as unlock
use Rattle.steps_mutex.specs.MutexDeeds.{enter_deeds, take_deeds}
use Rattle.steps_mutex.specs.MutexProfiles.{with_retry, carrying, inside, owner}
use Rattle.steps_mutex.specs.MutexSteps.{entered, in_lock, in_unlock, is_locked, is_parked}
use Rattle.steps_condvar.specs.declared.wait.WaiterFate.{WaiterFate}
use Rattle.steps_condvar.specs.declared.wait.WaiterFate.TheVariants as stands
use Rattle.steps_condvar.specs.declared.wait.WaitAt.{WaitAt}
use Rattle.steps_condvar.specs.declared.wait.WaitAt.TheVariants as wait
use Rattle.steps_condvar.specs.CondvarSteps.{past_release, is_shown, released, relocked, wait_act}
use Rattle.steps_condvar.specs.CondvarProfiles.{befell, has_mutex, wait_row}
use Rattle.steps_condvar.specs.CondvarWaits.{LeavesMutex, MayHearLocking, MayHearReleasing, MayHearWaiter}
use Rattle.steps_condvar.specs.CondvarWaits.{TakesFirst, WaiterFollows, WaitersCode, WaitersFollow}
use Rattle.steps_condvar.specs.CondvarWaits.{WaitersHear, unended, itself_woken, waiter_next}
use Rattle.steps_base.proofs.Deeds.{clears, ends, gives_up, goes_in, nobody_first, put_same}
use Rattle.steps_mutex.proofs.MutexWords.{cleared, entered_free, entered_zero, first_is, less_one, owned_word}
use Rattle.steps_mutex.proofs.MutexWords.{parked_is, three, unlocked_free, word_of, zero_free}

after_row : (m : ℕ) (st : WaiterFate) → (wait_row m (past_release st)).role ≡ befell st idle
after_row m stands.Listed = refl
after_row m stands.Moved = refl
after_row m (stands.InHand by) = refl
after_row m (stands.Handed by) = refl
after_row m (stands.Noted note.Normal) = refl
after_row m (stands.Noted note.HandOff) = refl

module _ (limit : ℕ) (s : Site) (t m : ℕ) (h : IsSite (record { sort = Mutex; limit = limit }) s) where
  abbrev r : Rules
  r = record { sort = Mutex; limit = limit }

  -- deeds may be done, and the thread stands so after them
  abbrev Does : List Deed → Role → Type 0
  Does ds d = AllNeeded r ds s t × ((after_all r ds s t).role t ≡ itself_woken t s ds d)

  -- ---------------------------------------------------------------- the release

  module _ (st : WaiterFate) where
    abbrev Releases : List Deed → Next UnlockAt → Type 0
    Releases ds n = Does (unended ds) (waiter_next m (At (released st (in_unlock n))))

    claims_it : (b : Bool) → (if b then Some (Has Exclusive) else Some (Has Exclusive)) ≡ Some (Has Exclusive)
    claims_it true = refl
    claims_it false = refl

    pub owns : s.role t ≡ befell st owner → s.lock.exclusive ≡ Some t
    owns is = h.held t (Has Exclusive) (ap (λ (d : Role). d.claims) is ∙ claims_it (has_mutex st))

    left_mutex : s.role t ≡ befell st owner → has_mutex st ≡ false → (b : Bool) → s.parked ≡ b
        → (after_deed r (Case (Leave Exclusive)) s t).role t ≡ befell st (record idle { wakes = seen_main b })
    left_mutex is without b e =
        put_same s.role t _
        ∙ (λ i. record (is i) {
          wakes = if (is i).owes_taken then (is i).wakes else seen_main (e i);
          claims = (sym (ap (λ c. if c then Some (Has Exclusive) else None) without)) i;
        })

    subtracts : s.role t ≡ befell st owner → has_mutex st ≡ false → (b : Bool) → s.parked ≡ b
        → Releases (Case (Leave Exclusive) ∷ (if b then [] else End ∷ [])) (if b then At unlock.Enter
        else Over answer.Ok)
    subtracts is without true e = (
      ((owns is, ap (λ (d : Role). d.wakes) is), tt),
      left_mutex is without true e,
    )
    subtracts is without false e = (
      ((owns is, ap (λ (d : Role). d.wakes) is), tt),
      left_mutex is without false e ∙ sym (after_row m st),
    )

    took : (any : Bool) (b : Bool) → befell st (record carrying { empty = found Main b }) ≡ waiter_next m
        (At (released st (in_unlock (if b then At (unlock.Clear any) else At (unlock.Leave any)))))
    took any true = refl
    took any false = refl

    takes_first : s.role t ≡ befell st (record inside { wakes = Some Main })
        → (whom : Option ℕ) (any none_left : Bool) → TakesFirst s whom any none_left → HasTakenNobody s.lock t
        → Releases (take_deeds whom) (if none_left then At (unlock.Clear any) else At (unlock.Leave any))
    takes_first is None any none_left f nobody =
        let e : s.lock.queue ≡ [] = nobody_first s.lock.queue (sym f.first) in
        let left : none_left ≡ true = f.left ∙ ap (λ q. is_empty (drop 1 q)) e in (
          (
            (
              ap (λ (d : Role). d.inside) is,
              ap (λ (d : Role). d.has_taken) is,
              e,
              inr (ap (λ (d : Role). d.wakes) is),
            ),
            tt,
          ),
          put_same s.role t _ ∙ ap (λ (d : Role). record d {
            wakes = None;
            has_taken = true;
            owes_taken = true;
            empty = Some Main;
          }) is
              ∙ ap (λ b. befell st (record carrying { empty = found Main b })) (sym left)
              ∙ took any none_left,
        )
    takes_first is (Some u) any none_left f nobody =
        let e = first_is s.lock.queue u h.state.known_queue (sym f.first) in (
          (
            (
              ((drop 1 s.lock.queue, e), nobody, tt),
              (
                ap (λ (d : Role). d.inside) is,
                ap (λ (d : Role). d.has_taken) is,
                λ second. let g : Some Main ≡ Some Second =
                    sym (ap (λ (d : Role). d.wakes) is) ∙ second in cc,
              ),
            ),
            tt,
          ),
          put_same s.role t _
              ∙ (λ i. record (is i) {
                wakes = None;
                has_taken = true;
                owes_taken = true;
                empty = found Main (sym f.left i);
              })
              ∙ took any none_left,
        )

    releases : (timed : Bool) (at : UnlockAt) (whom : Option ℕ) (told : Reply)
        → s.role t ≡ (wait_row m (wait.Release st (mutex.Unlock at))).role
        → MayHearReleasing r s t st at whom told
        → WaiterFollows r s t m timed (wait.Release st (mutex.Unlock at)) whom told
    releases timed unlock.Subtract whom (Value seen) is f =
        let d = subtracts is f.1 (is_parked seen)
        (sym (ap is_parked f.0 ∙ parked_is s.parked s.lock.exclusive))
        in record { needed = d.0; role = d.1 }
    releases timed unlock.Enter whom Done is f =
        let d = goes_in r s t (befell st (record idle { wakes = Some Main })) is refl refl f
        in record { needed = d.0; role = d.1 }
    releases timed unlock.Take whom (Took any none_left) is f = let d = takes_first is whom any none_left f.0
        f.1 in record { needed = d.0; role = d.1 }
    releases timed (unlock.Clear any) whom (Value seen) is f =
        let d = clears r s t (befell st (record carrying { empty = Some Main })) is refl
        in record { needed = d.0; role = d.1 }
    releases timed (unlock.Leave any) whom Done is f = record {
      needed = (
        (
          λ e. let g : Some Main ≡ None = sym (ap (λ (d : Role). d.inside) is) ∙ e in cc,
          ap (λ (d : Role). d.wakes) is,
          ap (λ (d : Role). d.bit_pending) is,
        ),
        tt,
      );
      role = ap (λ d. wakened t (s.lock.taken t) d) (put_same s.role t _ ∙ ap leaves is
          ∙ sym (after_row m st));
    }
    releases timed at whom told is f = absurd f

  -- ---------------------------------------------------------------- the lock after it

  module _ (e : Entry) (retries timed timed_out : Bool) where
    abbrev Locks : List Deed → Bool → Next LockAt → Type 0
    Locks ds again n = Does ds (waiter_next m (relocked timed timed_out (in_lock e again n)))

    wants_it : (b : Bool) → ((if b then Some Exclusive else None) ≡ None)
        ⊎ ((if b then Some Exclusive else None) ≡ Some Exclusive)
    wants_it true = inr refl
    wants_it false = inl refl

    -- the thread enters, and its call ends
    comes_in : s.role t ≡ with_retry retries idle → s.lock.exclusive ≡ None
        → Locks enter_deeds retries (Over (entered e))
    comes_in is free =
        let own : (after_deed r (Case (Enter Exclusive)) s t).role t ≡ record (s.role t) {
          retries = None;
          claims = None;
        } = put_same s.role t _ in (
          (
            (
              (((tt, free), tt), h.state.unshared (λ x. x)),
              subst (λ w. (w ≡ None) ⊎ (w ≡ Some Exclusive))
                  (sym (ap (λ (d : Role). d.retries) is)) (wants_it retries),
            ),
            ends r (after_deed r (Case (Enter Exclusive)) s t) t refl None
                (own ∙ ap (λ (d : Role). record d { retries = None; claims = None }) is),
          ),
          put_same (after_deed r (Case (Enter Exclusive)) s t).role t idle,
        )

    tries : s.role t ≡ with_retry retries idle → (b : Bool) → (b ≡ true → s.lock.exclusive ≡ None)
        → Locks (if b then enter_deeds else []) retries (if b then Over (entered e) else At lock.Load)
    tries is true free = comes_in is (free refl)
    tries is false free = (tt, is)

    -- an exchange, and whether it saw the mutex locked
    decides : s.role t ≡ with_retry retries idle → (v : ℕ) (same locked : Bool)
        → (locked ≡ false → s.lock.exclusive ≡ None)
        → Locks (if not same then [] else if locked then Mark Main ∷ [] else enter_deeds) retries
        (if not same then At (lock.Decide v) else if locked then At (lock.Decide 3) else Over (entered e))
    decides is v false locked free = (tt, is)
    decides is v true true free = ((tt, tt), is)
    decides is v true false free = comes_in is (free refl)

    parks : s.role t ≡ with_retry retries inside → (b : Bool) → b ≡ (word_of s.parked s.lock.exclusive == 3)
        → standing t s.lock ≡ 0
        → WaiterFollows r s t m timed (wait.Lock timed_out (mutex.Lock e retries lock.Check)) None (Parked b)
    parks is true f out = let w = three s.parked s.lock.exclusive (sym f) in record {
      needed = ((
        (
          ((tt, w.0), out),
          (
            ap (λ (d : Role). d.inside) is,
            w.1,
            ap (λ (d : Role). d.wakes) is,
            ap (λ (d : Role). d.owes_taken) is,
          ),
        ),
        tt,
      ));
      role = put_same s.role t _ ∙ ap (λ (d : Role). record d { retries = None; empty = None }) is;
    }
    parks is false f out = record { needed = tt; role = is ∙ ap (λ b. with_retry b inside) (still retries) }
      where
        still : (b : Bool) → b ≡ (b && true)
        still true = refl
        still false = refl

    leaves_section : (parked : Bool) → s.role t ≡ with_retry (if parked then false else retries) inside
        → WaiterFollows r s t m timed (wait.Lock timed_out (mutex.Lock e retries (lock.Leave parked))) None
        Done
    leaves_section parked is = record {
      needed = (
        (
          λ e. let g : Some Main ≡ None = sym (ap (λ (d : Role). d.inside) is) ∙ e in cc,
          ap (λ (d : Role). d.wakes) is,
          ap (λ (d : Role). d.bit_pending) is,
        ),
        tt,
      );
      role = ap (λ d. wakened t (s.lock.taken t) d) (put_same s.role t _ ∙ ap leaves is ∙ left parked);
    }
      where
        left : (b : Bool) → with_retry (if b then false else retries) idle
            ≡ waiter_next m (relocked timed timed_out (in_lock e retries (if b then At lock.Asleep
            else At lock.Load)))
        left true = refl
        left false = refl

    -- the thread was handed the mutex
    accepts : s.role t ≡ owner → Locks (End ∷ []) retries (Over (entered e))
    accepts is = (ends r s t refl (Some (Has Exclusive)) is, put_same s.role t idle)

    locks : (at : LockAt) (whom : Option ℕ) (told : Reply)
        → s.role t ≡ (wait_row m (wait.Lock timed_out (mutex.Lock e retries at))).role
        → MayHearLocking r s t at told
        → WaiterFollows r s t m timed (wait.Lock timed_out (mutex.Lock e retries at)) whom told
    locks lock.First whom (Value seen) is f =
        let d = tries is (seen == 0) (λ z. zero_free s.parked s.lock.exclusive (ap (λ n. n == 0) (sym f) ∙ z))
        in record { needed = d.0; role = d.1 }
    locks lock.Load whom (Value seen) is f = record { needed = tt; role = is }
    locks (lock.Decide expected) whom (Value seen) is f =
        let d = decides is seen (seen == expected) (is_locked seen) (λ z. unlocked_free s.parked
        s.lock.exclusive (ap is_locked (sym f) ∙ z)) in record { needed = d.0; role = d.1 }
    locks (lock.Decide expected) whom Done is f =
        let d = goes_in r s t (with_retry retries idle) is refl refl f in record { needed = d.0; role = d.1 }
    locks lock.Check whom (Parked b) is f = let d = parks is b f.0 f.1 in record {
      needed = d.needed;
      role = d.role;
    }
    locks (lock.Leave parked) whom Done is f = let d = leaves_section parked is in record {
      needed = d.needed;
      role = d.role;
    }
    locks lock.Accept whom Done is f = let d = accepts is in record { needed = d.0; role = d.1 }
    locks at whom told is f = absurd f

  -- ---------------------------------------------------------------- each place

  late : s.role t ≡ inside → (b : Bool) → 1 ≤ times t s.lock.queue → b ≡ is_empty (without t s.lock.queue)
      → Does (Case GivesUp ∷ []) (record inside { empty = found Main b })
  late is b listed e = gives_up r s t h (h.state.unpending (λ x. x)).0 is b listed e

  refuses : s.role t ≡ owner → Does (End ∷ []) idle
  refuses is = (ends r s t refl (Some (Has Exclusive)) is, put_same s.role t idle)

  goes_out : (o : Option Line) → s.role t ≡ record inside { empty = o } → Does (Out ∷ []) idle
  goes_out o is = (
    (
      (
        λ e. let g : Some Main ≡ None = sym (ap (λ (d : Role). d.inside) is) ∙ e in cc,
        ap (λ (d : Role). d.wakes) is,
        ap (λ (d : Role). d.bit_pending) is,
      ),
      tt,
    ),
    ap (λ d. wakened t (s.lock.taken t) d) (put_same s.role t _ ∙ ap leaves is),
  )

  shows : (b : Bool) → s.role t ≡ owner
      → s.role t ≡ waiter_next m (if b then At wait.Stand else At wait.Refuse)
  shows true is = is
  shows false is = is

  unlisted : (b : Bool) → s.role t ≡ idle → s.role t ≡ waiter_next m (if b then At wait.Hide
      else At wait.GiveUp)
  unlisted true is = is
  unlisted false is = is

  waits : (timed : Bool) (at : WaitAt) (whom : Option ℕ) (told : Reply) → s.role t ≡ (wait_row m at).role
      → MayHearWaiter r s t at whom told → WaiterFollows r s t m timed at whom told
  waits timed wait.Enter whom Done is f = record { needed = tt; role = is }
  waits timed wait.Show whom (Value seen) is f = record {
    needed = tt;
    role = shows ((seen == 0) || is_shown seen m) is;
  }
  waits timed wait.Stand whom Done is f = record { needed = tt; role = is }
  waits timed wait.Leave whom Done is f = record { needed = tt; role = is }
  waits timed wait.Refuse whom Done is f = let d = refuses is in record { needed = d.0; role = d.1 }
  waits timed (wait.Release st (mutex.Unlock at)) whom told is f = releases st timed at whom told is f
  waits timed (wait.Asleep stands.Listed) whom Late is f = record { needed = tt; role = is }
  waits timed (wait.Asleep stands.Moved) whom Late is f = let d = goes_in r s t idle is refl refl f
      in record { needed = d.0; role = d.1 }
  waits timed wait.Remove whom (Removed none_left) is f = record { needed = tt; role = unlisted none_left is }
  waits timed wait.Hide whom (Value seen) is f = record { needed = tt; role = is }
  waits timed wait.GiveUp whom Done is f = record { needed = tt; role = is }
  waits timed wait.RemoveMoved whom (Removed none_left) is f = let d = late is none_left f.0 f.1
      in record { needed = d.0; role = d.1 }
  waits timed (wait.GiveUpMoved none_left) whom Done is f = let d = goes_out (found Main none_left) is
      in record { needed = d.0; role = d.1 }
  waits timed (wait.Lock timed_out (mutex.Lock e retries at)) whom told is f =
      locks e retries timed timed_out at whom told is f
  waits timed at whom told is f = absurd f

pub waiters_follow : WaitersFollow
waiters_follow r s t m timed at whom told sort h is f =
    subst (λ x. IsSite x s → MayHearWaiter x s t at whom told → WaiterFollows x s t m timed at whom told)
    (λ i. record {
      sort = sym sort i;
      limit = r.limit;
    }) (λ h f. waits r.limit s t m h timed at whom told is f) h f

-- ---------------------------------------------------------------- the word, and the owner

module _ (limit : ℕ) (s : Site) (t k m : ℕ) (apart : k ≢ m)
    (h : IsSite (record { sort = Mutex; limit = limit }) s) (o : Owners) (owned : o.exclusive
    ≡ s.lock.exclusive) where
  abbrev rules : Rules
  rules = record { sort = Mutex; limit = limit }

  abbrev v : ℕ
  v = word_of s.parked s.lock.exclusive

  -- the word and the owner that deeds leave
  abbrev Leaves : List Deed → ℕ → Option ℕ → Type 0
  Leaves ds w owner = (w ≡ code rules (after_all rules ds s t))
      × (owner ≡ (after_all rules ds s t).lock.exclusive)

  -- after a release
  released_word : s.lock.exclusive ≡ Some t → (b : Bool)
      → Leaves (unended (Case (Leave Exclusive) ∷ (if b then [] else End ∷ []))) (apply (op.Sub 1) v) None
  released_word own true = (ap (λ e. apply (op.Sub 1) (word_of s.parked e)) own ∙ less_one s.parked t, refl)
  released_word own false = (ap (λ e. apply (op.Sub 1) (word_of s.parked e)) own ∙ less_one s.parked t, refl)

  tried_word : (b : Bool) → (v == 0) ≡ b → Leaves (if b then enter_deeds else []) (if b then 1 else v)
      (if b then with_exclusive o (Some t) else o).exclusive
  tried_word true e = (entered_zero s.parked s.lock.exclusive t e, refl)
  tried_word false e = (refl, owned)

  -- after an exchange that found what it expected, or did not
  abbrev Decides : ℕ → (same locked : Bool) → Op → Type 0
  Decides expected same locked f =
      Leaves (if not same then [] else if locked then Mark Main ∷ [] else enter_deeds) (apply f v)
      (if same && not locked then with_exclusive o (Some t) else o).exclusive

  stale : (expected y : ℕ) (locked : Bool) → (v == expected) ≡ false → Decides expected false locked
      (op.Exchange expected y)
  stale expected y locked e = (ap (λ b. if b then y else v) e, owned)

  fresh : (f : Op) (locked : Bool) → is_locked v ≡ locked → (one : Bool) → (v == 1) ≡ one
      → (if not locked then act.Word m (op.Exchange v (v + 1)) else if one then act.Word m (op.Exchange 1 3)
      else act.Enter (One (2 * m))) ≡ act.Word m f
      → Decides v true locked f
  fresh f false e one x is = let g : op.Exchange v (v + 1) ≡ f = cc
      in rw (← g) (
        ap (λ b. if b then v + 1 else v) (same v) ∙ entered_free s.parked s.lock.exclusive t e,
        refl,
      )
    where
      same : (n : ℕ) → (n == n) ≡ true
      same n = grind (arith, nat_tests)
  fresh f true e true x is = let g : op.Exchange 1 3 ≡ f = cc in rw (← g) (
    ap (λ b. if b then 3 else v) x
        ∙ owned_word s.parked s.lock.exclusive e,
    owned,
  )
  fresh f true e false x is = absurd cc

  stale_op : (expected : ℕ) (f : Op) (locked one here : Bool) → (v == expected) ≡ false
      → (if not locked then act.Word m (op.Exchange expected (expected + 1)) else if one then act.Word m
      (op.Exchange 1 3) else act.Enter (One (2 * m))) ≡ act.Word m f
      → (one ≡ true → expected ≡ 1) → Decides expected false here f
  stale_op expected f false one here e is x = let g : op.Exchange expected (expected + 1) ≡ f = cc
      in rw (← g) (stale expected (expected + 1) here e)
  stale_op expected f true true here e is x = let g : op.Exchange 1 3 ≡ f = cc
      in rw (← g) (subst (λ n. Decides n false here (op.Exchange n 3)) (x refl) (stale expected 3 here e))
  stale_op expected f true false here e is x = absurd cc

  decides_word : (expected : ℕ) (f : Op)
      → wait_act k m (wait.Lock false (mutex.Lock entry.Lock false (lock.Decide expected))) ≡ act.Word m f
      → (b : Bool) → (v == expected) ≡ b → Decides expected b (is_locked v) f
  decides_word expected f is true e = let same : v ≡ expected = eqb-true v expected e in
      subst (λ n. Decides n true (is_locked v) f) same (fresh f (is_locked v) refl (v == 1) refl
      (subst (λ n. wait_act k m (wait.Lock false (mutex.Lock entry.Lock false (lock.Decide n)))
      ≡ act.Word m f) (sym same) is))
  decides_word expected f is false e = stale_op expected f (is_locked expected) (expected == 1) (is_locked v)
      e is (λ x. eqb-true expected 1 x)

  leaves_mutex : (timed : Bool) (at : WaitAt) (f : Op) → s.role t ≡ (wait_row m at).role
      → MayHearWaiter rules s t at None (Value v) → wait_act k m at ≡ act.Word m f
      → LeavesMutex rules s t m timed at f o
  leaves_mutex timed wait.Show f is hears at = absurd (apart (let g : k ≡ m = cc in g))
  leaves_mutex timed wait.Hide f is hears at = absurd (apart (let g : k ≡ m = cc in g))
  leaves_mutex timed (wait.Release st (mutex.Unlock unlock.Subtract)) f is hears at =
      let e : op.Sub 1 ≡ f = cc in let w = released_word (owns limit s t m h st is) (is_parked v)
      in rw (← e) (record { word = w.0; owner = w.1 })
  leaves_mutex timed (wait.Release st (mutex.Unlock (unlock.Clear any))) f is hears at =
      let e : op.And NOT_PARKED ≡ f = cc in rw (← e) (record {
        word = cleared s.parked s.lock.exclusive;
        owner = owned;
      })
  leaves_mutex timed (wait.Lock timed_out (mutex.Lock e retries lock.First)) f is hears at =
      let g : op.Exchange 0 1 ≡ f = cc in let w = tried_word (v == 0) refl
      in rw (← g) (record { word = w.0; owner = w.1 })
  leaves_mutex timed (wait.Lock timed_out (mutex.Lock e retries lock.Load)) f is hears at = let g : op.Load
      ≡ f = cc in rw (← g) (record { word = refl; owner = owned })
  leaves_mutex timed (wait.Lock timed_out (mutex.Lock e retries (lock.Decide expected))) f is hears at =
      let w = decides_word expected f at (v == expected) refl in record { word = w.0; owner = w.1 }
  leaves_mutex timed (wait.Asleep st) f is hears does = absurd cc
  leaves_mutex timed at f is hears does = absurd hears

pub waiters_code : WaitersCode
waiters_code r s t k m timed at f o sort apart h is hears on owned =
    subst (λ x. IsSite x s → MayHearWaiter x s t at None (Value (code x s))
    → LeavesMutex x s t m timed at f o)
    (λ i. record {
      sort = sym sort i;
      limit = r.limit;
    }) (λ h hears. leaves_mutex r.limit s t k m apart h o owned timed at f is hears on) h hears

-- ---------------------------------------------------------------- effects on it

pub waiters_hear : WaitersHear
waiters_hear m timed (wait.Release stands.Listed at) (TakenBy u) may = refl
waiters_hear m timed (wait.Release stands.Listed at) (MovedTo key) may = refl
waiters_hear m timed (wait.Release stands.Moved at) (TakenBy u) may = refl
waiters_hear m timed (wait.Release (stands.InHand by) at) (HandedBy u alone) may = refl
waiters_hear m timed (wait.Release (stands.InHand by) at) (Woken note.Normal) may = refl
waiters_hear m timed (wait.Release (stands.Handed by) at) (Woken note.HandOff) may = refl
waiters_hear m timed (wait.Asleep stands.Listed) (TakenBy u) may = refl
waiters_hear m timed (wait.Asleep stands.Listed) (MovedTo key) may = refl
waiters_hear m timed (wait.Asleep stands.Moved) (TakenBy u) may = refl
waiters_hear m timed (wait.Asleep (stands.InHand by)) (HandedBy u alone) may = refl
waiters_hear m timed (wait.Asleep (stands.InHand by)) (Woken note.Normal) may = refl
waiters_hear m timed (wait.Asleep (stands.Handed by)) (Woken note.HandOff) may = refl
waiters_hear m timed (wait.Lock timed_out (mutex.Lock e retries lock.Asleep)) (TakenBy u) may = refl
waiters_hear m timed (wait.Lock timed_out (mutex.Lock e retries (lock.Taken by))) (HandedBy u alone) may =
    refl
waiters_hear m timed (wait.Lock timed_out (mutex.Lock e retries (lock.Taken by))) (Woken note.Normal) may =
    refl
waiters_hear m timed (wait.Lock timed_out (mutex.Lock e retries (lock.Handed by))) (Woken note.HandOff) may =
    refl
waiters_hear m timed at told may = absurd may
