-- A debtor owes its wake since it saw waiters, or since it entered the section.
use Rattle.lot_laws.proofs.Imports
use Imports.{outcome_of, ℕ, Bool, true, false, Option, Some, None, if◌then◌else◌, ◌≡◌, ◌≢◌, ◌<◌, ◌⊎◌, ◌↔◌, inl}
use Imports.{inr, length, refl, sym, ◌∙◌, ap, subst, get_or-set_same, nat_lt, is_some, length-set, closed_place}
use Imports.{close_outcome, state_after_close, ltb-true, One, Call, Turn, Step, Outcome, Enter, Late, Place}
use Imports.{Idle, lock_in, condvar_first, act_of, condvar_goes, next_place, first_place, is_idle, respins_from}
use Imports.{late_key, called_lock, line_owed, profile, next_act, State, place_at, word_at, state_after_go}
use Imports.{state_after_going, go_reply, go_outcome, going_outcome, is_free_under, is_open_to, can_begin}
use Imports.{state_after_begin, can_turn, turn_outcome, kind_at, put, state_after_look, look_outcome}
use Imports.{state_after_late_on, state_after_turn, is_possible, after, step_outcome, Rights, Owes, IsInside}
use Imports.{IsWait, SeesWaiters, OwesSince, OnlyLooks, LooksFirst, LetsOthersIn, line_let_in, sort_at}
use Imports.{tells_by, IsWellFormed, call_at, call_state, Line, AreCondvars, AreCounted, IsInductive, key_of}
use Imports.{both, Profile, call_by, CallState, no_call, Purpose, Waits, lock_for}
use Rattle.lot_laws.proofs.calls.Looking.{alike_calls, closing_inductive, like}
use Rattle.lot_laws.proofs.calls.Closings.{closing, closing_there}
use Rattle.lot_laws.proofs.calls.OwnPlace.{gone_place, gone_told}
use Rattle.lot_laws.proofs.calls.Closures.{RunsOne, closes_one}
use Rattle.spec_locks.specs.declared.calls.Call.TheVariants as call
use Rattle.spec_locks.specs.declared.calls.Turn.TheVariants as turn
use Rattle.spec_locks.specs.declared.outcomes.Outcome.TheVariants as outcome
use Rattle.lot_laws.proofs.machine.Befallen.{others_keep_it}
use Rattle.lot_laws.proofs.once.RunEnds.{ran_takes, run_goes_on}
use Rattle.lot_laws.proofs.rwlock.GoesOn.{goes_on_waking, takes_next}
use Rattle.lot_laws.proofs.sites.TurnsKept.{idle_is, after_inductive}
use Rattle.lot_laws.proofs.calls.SingleCalls.{call_none}
use Rattle.lot_laws.proofs.condvar.CondvarOwes.{SeesBy, calm_owing, first_calm, two_goes_late, went_owing}
use Rattle.lot_laws.proofs.machine.Parts.{IsLock, IsSingle, next_of, next_single, calls_none, of_lock_of}
use Rattle.lot_laws.proofs.machine.Parts.{of_own, single_or_two}
use Rattle.lot_laws.proofs.calls.Looking.{looking_inductive, calls_same}
use Rattle.lot_laws.proofs.calls.CallEvents.{rights as rights_at}
use Rattle.lot_laws.proofs.promises.RowPromises.{CallsOneLock, RowFinds, RowLooks, releases_for}
use Rattle.lot_laws.proofs.promises.RowPromises.{downgrades_for}
use Rattle.lot_laws.proofs.promises.PlacePromises.{LetsBy, row_promises, row_calls_one, calls_one_lock}
use Rattle.lot_laws.proofs.promises.PlacePromises.{owing_is, owes_own, owed_own, inside_own, call_own}
use Rattle.lot_laws.proofs.promises.PlacePromises.{lets_in, lets_out}
use Rattle.lot_laws.proofs.promises.LineActs.{late_line}
use Rattle.lot_laws.proofs.promises.PlaceSteps.{owes_befallen, owes_next, first_owes, late_next}

-- ---------------------------------------------------------------- the other threads

others_owe : (w : State) (s : Step) (u k : ℕ) → u ≢ s.thread → line_owed (place_at (after w s) u) k
    ≡ line_owed (place_at w u) k
others_owe w s u k ne = others_keep_it (λ p. line_owed p k) (λ p r b. owes_befallen p r b k) w s u ne

-- ---------------------------------------------------------------- the thread of the step

-- a thread that is in no call lets nobody in
idle_shut : (w : State) (t l : ℕ) → called_lock (place_at w t) ≡ None → LetsOthersIn w t l → ⊥
idle_shut w t l none h = by_call (subst (LetsBy w t l) (call_none (place_at w t) none (rights_at w t)) h)
  where
    by_call : LetsBy w t l no_call → ⊥
    by_call (inl releases) = releases
    by_call (inr shared) = elim shared.1 [
      | inl less ↦ less
      | inr left ↦ let e : ◌≡◌ {A = Option ℕ} None
          (Some l) = left.0 in cc
    ]

-- a thread that lets others in calls that lock
lets_own : (w : State) (t l : ℕ) → IsInductive w → IsSingle (place_at w t) → LetsOthersIn w t l
    → called_lock (place_at w t) ≡ Some l
lets_own w t l inductive single lets = by_lock (called_lock (place_at w t)) refl
  where
    by_row : (k : ℕ) (row : Profile) (r : ℕ → Rights) → lock_for (row.purpose k) ≡ k
        → CallsOneLock (Some (row.purpose k))
        → LetsBy w t l (call_by k row r) → k ≡ l
    by_row k row r of one (inl releases) = sym of ∙ releases_for (row.purpose k) row.released l one releases
    by_row k row r of one (inr shared) = elim shared.1 [
      | inl less ↦ sym of
          ∙ downgrades_for (row.purpose k) l less
      | inr left ↦ gave_up_for row.gave_up k left.0
    ]
      where
        gave_up_for : (b : Bool) (k : ℕ) → (if b then Some k else None) ≡ Some l → k ≡ l
        gave_up_for true k h = cc
        gave_up_for false k h = absurd cc

    by_lock : (o : Option ℕ) → called_lock (place_at w t) ≡ o → o ≡ Some l
    by_lock None e = absurd (idle_shut w t l e lets)
    by_lock (Some k) e = ap Some (by_row k (profile (place_at w t)) (rights_at w t)
        (row_promises w t inductive k single e).own (row_calls_one w t inductive k single e)
        (subst (LetsBy w t l) (call_own w t inductive k single e) lets))

-- a call of one lock waits on no condition variable
waits_not : (q : Option Purpose) → CallsOneLock q → IsWait q → ⊥
waits_not None one waits = waits
waits_not (Some (Waits k n timed)) one waits = one
waits_not (Some q) one waits = waits

module _ (w v : State) (t : ℕ) (inductive : IsInductive w) (afterwards : IsInductive v)
    (single : IsSingle (place_at w t))
    (single_then : IsSingle (place_at v t)) where
  -- tells what it sees, by its row
  sees_row : (l : ℕ) (m : Line) (o : Outcome) (own : called_lock (place_at w t) ≡ Some l)
      → SeesWaiters w t l m o v
      → RowFinds (sort_at w l) l (word_at w l) (profile (place_at w t)) m
  sees_row l m o own s = (
    lets_in w t inductive l single own s.0,
    ap (λ (c : CallState). line_let_in (sort_at w l) c.purpose) (sym (call_own w t inductive l single own))
        ∙ s.1,
    ap (λ (c : CallState). tells_by (sort_at w l) c.purpose m (word_at w l))
        (sym (call_own w t inductive l single own)) ∙ s.2,
  )

  row_sees : (l : ℕ) (m : Line) (o : Outcome) (own : called_lock (place_at w t) ≡ Some l)
      → RowFinds (sort_at w l) l (word_at w l) (profile (place_at w t)) m → o ≡ outcome.Step
      → act_of (place_at v t) ≡ Enter (One (key_of l m)) → SeesWaiters w t l m o v
  row_sees l m o own s step enters = (
    lets_out w t inductive l single own s.0,
    ap (λ (c : CallState). line_let_in (sort_at w l) c.purpose) (call_own w t inductive l single own) ∙ s.1,
    ap (λ (c : CallState). tells_by (sort_at w l) c.purpose m (word_at w l))
        (call_own w t inductive l single own) ∙ s.2,
    step,
    (λ looks. enters),
    λ waits. absurd (waits_not (call_at w t).purpose (calls_one_lock w t inductive single) waits),
  )

  -- where it goes on to a place of its lock, or ends
  module _ (q : Place) (at_q : place_at v t ≡ q) (l : ℕ) (m : Line) (o : Outcome) where
    inside_then : IsInside v t l m → Owes v t l m
    inside_then i = (owing_is v t afterwards single_then l m).1 (inl i)

    within_then : Owes v t l m → (profile q).role.inside ≡ Some m → IsInside v t l m
    within_then h i = let own = owes_own (place_at v t) l m single_then h
        in (inside_own v t afterwards l single_then own m).0 (ap (λ p. (profile p).role.inside) at_q ∙ i)

    row_then : Owes v t l m → (profile q).owes ≡ Some m
    row_then h = ap (λ p. (profile p).owes) (sym at_q)
        ∙ sym (owed_own (place_at v t) l (owes_own (place_at v t) l m single_then h) single_then) ∙ h

  -- the thread goes on by the reply to its act
  go_owes : place_at v t ≡ next_place (place_at w t) (go_reply w t) → (l : ℕ) (m : Line)
      → Owes v t l m ↔ (IsInside v t l m
      ⊎ SeesWaiters w t l m (outcome_of (next_act (place_at w t) (go_reply w t))) v)
  go_owes at_q l m = (since, λ h. elim h [ inl i ↦ inside_then q at_q l m o i | inr s ↦ saw s ])
    where
      q : Place
      q = next_place (place_at w t) (go_reply w t)

      o : Outcome
      o = outcome_of (next_act (place_at w t) (go_reply w t))

      own_before : called_lock q ≡ Some l → (x : Option ℕ) → called_lock (place_at w t) ≡ x → x ≡ Some l
      own_before own None e = absurd (let f : called_lock q ≡ None =
          ap (λ p. called_lock (next_place p (go_reply w t))) (calls_none (place_at w t) e)
          in let g : ◌≡◌ {A = Option ℕ} None (Some l) = sym f ∙ own in cc)
      own_before own (Some k) e = ap Some
          (sym (subst (IsLock k) own (of_lock_of k q (next_of k (place_at w t) (go_reply w t)
          (of_own k (place_at w t) single e)))))

      -- a thread that owes a wake that is outside goes in
      since : Owes v t l m → IsInside v t l m ⊎ SeesWaiters w t l m o v
      since h =
          let own = own_before (ap called_lock (sym at_q) ∙ owes_own (place_at v t) l m single_then h)
          (called_lock (place_at w t)) refl in
          elim ((owing_is v t afterwards single_then l m).0 h) [
            | inl i ↦ inl i
            | inr g ↦ elim ((owes_next w t l inductive single own).since m (row_then q at_q l m o h)) [
              | inl i ↦ inl (within_then q at_q l m o h i)
              | inr s ↦ inr (row_sees l m o own s.0 s.1 g.0)
            ]
          ]

      saw : SeesWaiters w t l m o v → Owes v t l m
      saw s =
          let own = lets_own w t l inductive single s.0 in
          let owes = (owes_next w t l inductive single own).sees m (sees_row l m o own s) s.3
          (λ looks. ap act_of (sym at_q) ∙ s.4 (looks_then own (called_lock q) refl looks)) in
          owed_own (place_at v t) l (ap called_lock at_q ∙ still (called_lock q) refl owes own) single_then
          ∙ ap (λ p. (profile p).owes) at_q ∙ owes
        where
          same_lock : (j : ℕ) → called_lock q ≡ Some j → called_lock (place_at w t) ≡ Some l → j ≡ l
          same_lock j e own = subst (IsLock l) e
              (of_lock_of l q (next_of l (place_at w t) (go_reply w t) (of_own l (place_at w t) single own)))

          still : (x : Option ℕ) → called_lock q ≡ x → (profile q).owes ≡ Some m → called_lock (place_at w t)
              ≡ Some l → x ≡ Some l
          still None e owes own = absurd (let f : ◌≡◌ {A = Option Line} None (Some m) =
              sym (ap (λ p. (profile p).owes) (calls_none q e)) ∙ owes in cc)
          still (Some j) e owes own = ap Some (same_lock j e own)

          looks_then : called_lock (place_at w t) ≡ Some l → (x : Option ℕ) → called_lock q ≡ x
              → RowLooks l (profile q) → OnlyLooks v t l
          looks_then own None e looks = absurd (subst (λ p. RowLooks l (profile p)) (calls_none q e) looks).0
          looks_then own (Some j) e looks =
              let own_then : called_lock (place_at v t) ≡ Some l = ap called_lock at_q ∙ e
              ∙ ap Some (same_lock j e own) in
              subst (λ (c : CallState). LooksFirst c.purpose l × (c.released ≡ false))
              (sym (call_own v t afterwards l single_then own_then)) (subst (λ p. RowLooks l (profile p))
              (sym at_q) looks)

  -- the thread owes nothing but what it is inside, and lets nobody in
  quiet_owes : (q : Place) → place_at v t ≡ q → ((m : Line) → (profile q).owes ≡ Some m
      → (profile q).role.inside ≡ Some m)
      → ((l : ℕ) → LetsOthersIn w t l → ⊥)
      → (l : ℕ) (m : Line) (o : Outcome) → Owes v t l m ↔ (IsInside v t l m ⊎ SeesWaiters w t l m o v)
  quiet_owes q at_q within shut l m o = (
    (λ h. inl (within_then q at_q l m o h (within m (row_then q at_q l m o h)))),
    λ h. elim h [ inl i ↦ inside_then q at_q l m o i | inr s ↦ absurd (shut l s.0) ],
  )

-- a thread goes on, in a call of one lock or of two
gone_owes : (w : State) (t : ℕ) (inductive : IsInductive w) (there : t < length w.places)
    → IsInductive (state_after_go w t)
    → (l : ℕ) (m : Line)
    → Owes (state_after_go w t) t l m
    ↔ (IsInside (state_after_go w t) t l m ⊎ SeesWaiters w t l m (go_outcome w t) (state_after_go w t))
gone_owes w t inductive there afterwards l m = elim (single_or_two (place_at w t)) [
  | inl single ↦ (
      let v = state_after_go w t in
      let at_q : place_at v t ≡ next_place (place_at w t) (go_reply w t) = gone_place w t single there in
      subst (λ o. Owes v t l m ↔ (IsInside v t l m ⊎ SeesWaiters w t l m o v)) (sym (gone_told w t single))
      (go_owes w v t inductive afterwards single
      (subst IsSingle (sym at_q) (next_single (place_at w t) (go_reply w t) single)) at_q l m)
      )
  | inr two ↦ subst (λ p. Owes (state_after_going w t p) t l m ↔ (IsInside (state_after_going w t p) t l m
      ⊎ SeesWaiters w t l m (going_outcome w t p) (state_after_going w t p))) (sym two.is)
      (went_owing w t two.lock two.at inductive two.is there
      (subst (λ p. IsInductive (state_after_going w t p))
      two.is afterwards) l m)
]

module _ (w : State) (t : ℕ) (shape : IsWellFormed w) (inductive : IsInductive w) (there : t
    < length w.places)
  where
    -- a call begins, of one lock or of two
    begun_owing : (c : Call) → can_begin w t c ≡ true → IsInductive (state_after_begin w t c)
        → (l : ℕ) (m : Line) (o : Outcome)
        → Owes (state_after_begin w t c) t l m
        ↔ (IsInside (state_after_begin w t c) t l m ⊎ SeesWaiters w t l m o (state_after_begin w t c))
    begun_owing c can afterwards = by_call c here afterwards
      where
        at_rest : place_at w t ≡ Idle
        at_rest = idle_is (place_at w t) (both (is_idle (place_at w t)) (is_open_to w t c) can).0

        shut : (l : ℕ) → LetsOthersIn w t l → ⊥
        shut l lets = idle_shut w t l (ap called_lock at_rest) lets

        here : place_at (state_after_begin w t c) t ≡ first_place (kind_at w (lock_in c)) c
        here = get_or-set_same w.places t (first_place (kind_at w (lock_in c)) c) Idle there

        by_call : (d : Call) → place_at (state_after_begin w t d) t ≡ first_place (kind_at w (lock_in d)) d
            → IsInductive (state_after_begin w t d) → (l : ℕ) (m : Line) (o : Outcome)
            → Owes (state_after_begin w t d) t l m
            ↔ (IsInside (state_after_begin w t d) t l m ⊎ SeesWaiters w t l m o (state_after_begin w t d))
        by_call (call.Condvar k d) is after =
            calm_owing w (state_after_begin w t (call.Condvar k d)) t k (condvar_first d) after is
            (first_calm d) shut
        by_call d is after = quiet_owes w (state_after_begin w t d) t inductive after
            (subst IsSingle (sym at_rest) tt) (subst IsSingle (sym is) tt)
            (first_place (kind_at w (lock_in d))
            d) is
            (λ m h. absurd (let e : ◌≡◌ {A = Option Line} None (Some m) =
            sym (first_owes (kind_at w (lock_in d)) d) ∙ h in cc)) shut

    -- a thread that enters the section of the line where it slept
    late_owing : (o : Option ℕ) → late_key (place_at w t) ≡ o → is_free_under w o ≡ true
        → IsInductive (state_after_late_on w t o)
        → (l : ℕ) (m : Line) (told : Outcome)
        → Owes (state_after_late_on w t o) t l m
        ↔ (IsInside (state_after_late_on w t o) t l m ⊎ SeesWaiters w t l m told (state_after_late_on w t o))
    late_owing None e can afterwards = absurd cc
    late_owing (Some key) e can afterwards = elim (single_or_two (place_at w t)) [
      | inl single ↦ (
          let of = late_line (place_at w t) key single e in
          let n : Line = of.2.0 in
          let after = late_next (place_at w t) n single of.2.1 in
          quiet_owes w (state_after_late_on w t (Some key)) t inductive afterwards single
          (subst IsSingle (sym here) (next_single (place_at w t) Late single))
          (next_place (place_at w t) Late) here
          (λ m h. after.inside ∙ sym after.owes ∙ h)
          (λ l lets. let own = lets_own w t l inductive single lets
          in ((row_promises w t inductive l single own).late n of.2.1).shut
          (lets_in w t inductive l single own lets))
          )
      | inr two ↦ (
          let late = two_goes_late two.lock two.at key (ap late_key (sym two.is) ∙ e) in
          calm_owing w (state_after_late_on w t (Some key)) t two.lock late.next afterwards (here
          ∙ ap (λ p. next_place p Late) two.is ∙ ap (condvar_goes two.lock) late.goes) late.calm
          (λ l lets. late.shut w t l (rights_at w t) (subst (λ p. LetsBy w t l (call_state p (rights_at w t)))
          two.is lets))
          )
    ]
      where
        here : place_at (state_after_late_on w t (Some key)) t ≡ next_place (place_at w t) Late
        here = get_or-set_same w.places t (next_place (place_at w t) Late) Idle there

    -- the thread looks at the word once more, and is in its call as before
    spun_owing : (o : Option Place) → respins_from (place_at w t) ≡ o → is_some o ≡ true
        → IsInductive (state_after_look w t o)
        → (l : ℕ) (m : Line)
        → Owes (state_after_look w t o) t l m
        ↔ (IsInside (state_after_look w t o) t l m ⊎ SeesWaiters w t l m (look_outcome w t o)
        (state_after_look w t o))
    spun_owing None is can afterwards l m = absurd cc
    spun_owing (Some q) is can afterwards l m =
        subst (λ (c : CallState). Owes (state_after_go (put w t q) t) t l m
        ↔ (IsInside (state_after_go (put w t q) t) t l m ⊎ SeesBy w t l m (go_outcome (put w t q) t)
        (state_after_go (put w t q) t) c)) (calls_same w t there q is t)
        (gone_owes (put w t q) t (looking_inductive w t there q is inductive)
        (rw (length-set w.places t q) there)
        afterwards l m)

    -- the thread's closure has answered, and it is in its call as before
    closed_owing : (succeeded : Bool) (one : RunsOne (place_at w t))
        → IsInductive (state_after_close w t succeeded)
        → (l : ℕ) (m : Line)
        → Owes (state_after_close w t succeeded) t l m
        ↔ (IsInside (state_after_close w t succeeded) t l m
        ⊎ SeesWaiters w t l m (close_outcome w t succeeded)
        (state_after_close w t succeeded))
    closed_owing succeeded one afterwards l m =
        subst (λ (c : CallState). Owes (state_after_go v t) t l m ↔ (IsInside (state_after_go v t) t l m
        ⊎ SeesBy w t l m (go_outcome v t) (state_after_go v t) c))
        (alike_calls w t there (closed_place w t succeeded) (like w t there succeeded one) t)
        (gone_owes v t (closing_inductive w t there succeeded one inductive)
        (closing_there w t there succeeded one)
        afterwards l m)
      where
        v : State
        v = closing w t there succeeded one

    turned_owing : (x : Turn) → can_turn w t x ≡ true → IsInductive (state_after_turn w t x)
        → (l : ℕ) (m : Line)
        → Owes (state_after_turn w t x) t l m
        ↔ (IsInside (state_after_turn w t x) t l m ⊎ SeesWaiters w t l m (turn_outcome w t x)
        (state_after_turn w t x))
    turned_owing (turn.Begin c) can afterwards l m =
        begun_owing c can afterwards l m outcome.Step
    turned_owing turn.Go can afterwards l m = gone_owes w t inductive there afterwards l m
    turned_owing turn.Spin can afterwards l m = spun_owing (respins_from (place_at w t)) refl can
        afterwards l
        m
    turned_owing turn.Late can afterwards l m = late_owing (late_key (place_at w t)) refl can
        afterwards l
        m
        outcome.Step
    turned_owing turn.Ok can afterwards l m = closed_owing true (closes_one w t true can)
        afterwards l m
    turned_owing turn.Err can afterwards l m = closed_owing false (closes_one w t false can)
        afterwards l
        m

pub owes_since : (w : State) (s : Step) → IsWellFormed w → IsInductive w → AreCounted w → AreCondvars w
    → OwesSince w s.thread (step_outcome w s) (after w s)
owes_since w s shape inductive counted condvars = record {
  own = own (is_possible w s) refl (after_inductive w s shape inductive counted condvars);
  goes_on = λ l possible gives. goes_on_waking w s inductive l possible gives;
  takes = λ l lets out inside. takes_next w s inductive (after_inductive w s shape inductive counted condvars)
      l lets
      out inside;
  run_goes_on = λ l possible runs waits. run_goes_on w s inductive l possible runs waits;
  takes_all = λ l ran out inside. ran_takes w s inductive (after_inductive w s shape inductive counted condvars)
      l ran out inside;
  others = λ u l ne. others_owe w s u l ne;
}
  where
    own : (b : Bool) → is_possible w s ≡ b → IsInductive (if b then state_after_turn w s.thread s.turn else w)
        → (l : ℕ) (m : Line)
        → (if b then turn_outcome w s.thread s.turn else outcome.NotNow)
        ≢ outcome.NotNow
        → Owes (if b then state_after_turn w s.thread s.turn else w) s.thread l m
        ↔ (IsInside (if b then state_after_turn w s.thread s.turn else w) s.thread l m
        ⊎ SeesWaiters w s.thread l m (if b then turn_outcome w s.thread s.turn
        else outcome.NotNow) (if b then state_after_turn w s.thread s.turn else w))
    own true can afterwards l m ne = let h = both (nat_lt s.thread (length w.places))
        (can_turn w s.thread s.turn)
        can in turned_owing w s.thread shape inductive (ltb-true s.thread (length w.places) h.0) s.turn h.1
        afterwards l m
    own false cannot afterwards l m ne = absurd (ne refl)
