-- A thread joins a queue by its own step, in a call that may wait for the lock, where it is kept out; or as a
-- notification moves it.
use Rattle.std.proofs.Common.{ℕ, Bool, true, false, Option, Some, None, ◌≡◌, ◌≢◌, ◌≤◌, ◌+◌, ◌⊎◌, inl, inr}
use Rattle.std.proofs.Common.{List, []}
use Rattle.std.proofs.Common.{◌∷◌, ◌++◌, refl, sym, ◌∙◌, ap, subst, arith}
use Rattle.std.proofs.lemmas.Bool.Decides.{nat_tests}
use Rattle.std.specs.Prelude.{drop}
use Rattle.core_base.specs.declared.wants.Want.{Want}
use Rattle.spec_locks.specs.declared.calls.Turn.{Turn}
use Rattle.spec_locks.specs.declared.outcomes.Outcome.{Outcome}
use Rattle.spec_locks.specs.Condvars.{line_of, moved_of}
use Rattle.spec_locks.specs.Locks as locks
use Rattle.spec_locks.specs.Locks.{LockState, LockCase, Queued, Rules, Needs, Enter, Pend, Settle, Leave}
use Rattle.spec_locks.specs.Locks.{Convert}
use Rattle.spec_locks.specs.Locks.{Park, Aside, TakeFirst, TakeAside, TakePicked, Wake, HandOff, Late}
use Rattle.spec_locks.specs.Locks.{Rollback}
use Rattle.spec_locks.specs.Locks.{OfOnce, OfCondvar, SeeOwner, Look, Show, Hide, after_case, left_after}
use Rattle.spec_locks.specs.Locks.{times}
use Rattle.spec_locks.specs.Onces.{OnceCase, Start, Finish, Fail, Rest, TakeAll}
use Rattle.spec_locks.specs.Purposes.{Purpose, Enters, Releases, Converts, Bumps, CallsOnce, Awaits, Waits}
use Rattle.spec_locks.specs.Purposes.{Notifies}
use Rattle.spec_locks.specs.Purposes.{CondvarMemory, IsMadeOf, MayWait}
use Rattle.spec_locks.specs.Runs.{LocksState, Event, Nothing, AtLock, Moves, Begins, MayDo, MayHappen, Turned}
use Rattle.spec_locks.specs.Runs.{is_among, joined_by, locks_after, rules_at}
use Rattle.spec_locks.specs.EachStep.{IsKeptOut, IsMovedTo, Joins, StandsLast}
use Rattle.spec_locks.proofs.Changes.{by_case, by_move, by_step}
use Rattle.spec_locks.proofs.Hands.{times_picked}
use Rattle.spec_locks.proofs.LockKeeps.{times_append}
use Rattle.spec_locks.proofs.NobodyWakes.{among_stood}
use Rattle.spec_locks.proofs.QueueOrder.{converts, disowned, dropped_times, falls, lined, owned, succeeded}
use Rattle.spec_locks.proofs.Runs.{needs_of}

-- ---------------------------------------------------------------- one lock

-- the cases by which a thread joins a queue
abbrev IsJoining : LockCase → Type 0
IsJoining (Park x) = Unit {0}
IsJoining (OfOnce (Rest x forced)) = Unit {0}
IsJoining case = ⊥

module _ (r : Rules) (s : LockState) (t u : ℕ) (none : times u s.queue ≡ 0) where
  fewer : {A : Type 0} (n : ℕ) → n ≤ times u s.queue → 1 ≤ n → A
  fewer n least some = absurd (omega (arith, none, least, some))

  same : {A : Type 0} (q : List Queued) → q ≡ s.queue → 1 ≤ times u q → A
  same q e some = absurd (let f : 1 ≤ times u s.queue = subst (λ k. 1 ≤ times u k) e some in omega arith)

  mine : (x : Want) → 1 ≤ times u (s.queue ++ (record { thread = t; want = x }) ∷ []) → u ≡ t
  mine x some = let sum = times_append u s.queue ((record { thread = t; want = x }) ∷ []) in
      grind (arith, nat_tests)

  kept_less : (q : List Queued) → times u (locks.without t q) ≤ times u q
  kept_less [] = omega arith
  kept_less (x ∷ q) = grind (arith, nat_tests, kept_less q)

  at_once : (c : OnceCase) → Needs r (OfOnce c) s t → 1 ≤ times u (locks.once_after c s t).queue
      → (u ≡ t) × StandsLast r s t (locks.once_after c s t) × IsJoining (OfOnce c)
  at_once (Start b) needs some = same s.queue refl some
  at_once Finish needs some = same s.queue refl some
  at_once Fail needs some = same s.queue refl some
  at_once (Rest x b) needs some = (mine x some, (x, refl, inr (needs.0, (b, needs.1.0))), tt)
  at_once TakeAll needs some = absurd (let f : 1 ≤ 0 = some in omega arith)

  pub joined : (case : LockCase) → Needs r case s t → 1 ≤ times u (after_case r case s t).queue
      → (u ≡ t) × StandsLast r s t (after_case r case s t) × IsJoining case
  joined (Park x) needs some = (mine x some, (x, refl, inl needs.0), tt)
  joined (OfOnce c) needs some = at_once c needs some
  joined (TakeFirst x) needs some = fewer _ (dropped_times u s.queue) some
  joined (TakePicked start) needs some =
      let sum = times_picked r.sort start u s.queue in
      fewer _ (omega arith) some
  joined Late needs some = fewer _ (kept_less s.queue) some
  joined (Enter x) needs some = same _ (owned r s t x) some
  joined Pend needs some = same s.queue refl some
  joined Settle needs some = same s.queue refl some
  joined (Leave x) needs some = same _ (disowned r s t x) some
  joined (Convert x y) needs some = same _ (converts t y (locks.without_owner t x s) ∙ disowned r s t x) some
  joined Aside needs some = same s.queue refl some
  joined (TakeAside y) needs some = same s.queue refl some
  joined Wake needs some = same s.queue refl some
  joined (HandOff x y) needs some =
      same _ (succeeded y (locks.sharing_handed t (locks.without_owner t x s)) ∙ disowned r s t x) some
  joined Rollback needs some = same _ (falls t s.pending (record s { pending = None })) some
  joined (OfCondvar (Look seen)) needs some = same s.queue refl some
  joined (OfCondvar (Show m)) needs some = same s.queue refl some
  joined (OfCondvar Hide) needs some = same s.queue refl some
  joined (SeeOwner b) needs some = same s.queue refl some

-- ---------------------------------------------------------------- the call

-- a call that stands in a queue is one that may wait there
parks : (q : Purpose) (g : Option ℕ) (b : Bool) (c : CondvarMemory) (l : ℕ) (x : Want)
    → IsMadeOf q g b c l (Park x) → MayWait (Some q) l
parks (Enters k y how) g b c l x made = (sym made.0, made.1.1)
parks (Releases k y fair) g b c l x made = absurd made.1
parks (Converts k y z how) g b c l x made = absurd made.1
parks (Bumps k y) g b c l x (e, inl gives) = absurd gives
parks (Bumps k y) g b c l x (e, inr enters) = sym e
parks (CallsOnce k forced) g b c l x made = absurd made.1
parks (Awaits k forced timed) g b c l x made = absurd made.1
parks (Waits k m timed) g b c l x (inl made) = inl (sym made.0)
parks (Waits k m timed) g b c l x (inr (e, inl gives)) = absurd gives
parks (Waits k m timed) g b c l x (inr (e, inr enters)) = inr (sym e)
parks (Notifies k all) g b c l x (inl made) = absurd made.1
parks (Notifies k all) g b c l x (inr made) = absurd made

rests : (q : Purpose) (g : Option ℕ) (b : Bool) (c : CondvarMemory) (l : ℕ) (x : Want) (forced : Bool)
    → IsMadeOf q g b c l (OfOnce (Rest x forced)) → MayWait (Some q) l
rests (CallsOnce k f) g b c l x forced made = sym made.0
rests (Awaits k f timed) g b c l x forced made = sym made.0
rests (Enters k y how) g b c l x forced made = absurd made.1
rests (Releases k y fair) g b c l x forced made = absurd made.1
rests (Converts k y z how) g b c l x forced made = absurd made.1
rests (Bumps k y) g b c l x forced (e, inl gives) = absurd gives
rests (Bumps k y) g b c l x forced (e, inr enters) = absurd enters.1
rests (Waits k m timed) g b c l x forced (inl made) = absurd made.1
rests (Waits k m timed) g b c l x forced (inr (e, inl gives)) = absurd gives
rests (Waits k m timed) g b c l x forced (inr (e, inr enters)) = absurd enters.1
rests (Notifies k all) g b c l x forced (inl made) = absurd made.1
rests (Notifies k all) g b c l x forced (inr made) = absurd made

-- ---------------------------------------------------------------- a step

module _ (w v : LocksState) (t : ℕ) (o : Outcome) (u l : ℕ) (none : times u (w.locks l).queue ≡ 0) where
  abbrev Goes : LockState → Type 0
  Goes s = 1 ≤ times u s.queue → Joins w t u l s

  nobody : {A : Type 0} → 1 ≤ times u (w.locks l).queue → A
  nobody some = absurd (omega (arith, none, some))

  waits : (o : Option Purpose) (case : LockCase) → IsJoining case → MayDo w t l case o → MayWait o l
  waits None case joining may = absurd may
  waits (Some q) (Park x) joining may =
      parks q (w.calls t).gave_up (w.calls t).released (w.calls t).recalls l x may.0
  waits (Some q) (OfOnce (Rest x f)) joining may =
      rests q (w.calls t).gave_up (w.calls t).released (w.calls t).recalls l x f may.0
  waits (Some q) case joining may = absurd joining

  a_case : (case : LockCase) → MayHappen w t (AtLock l case)
      → Goes (after_case (rules_at w l) case (w.locks l) t)
  a_case case may some =
      let x = joined (rules_at w l) (w.locks l) t u none case
      (needs_of w t l case (w.calls t).purpose may) some in
      inl (
        x.0,
        subst (λ k. MayWait (w.calls k).purpose l) (sym x.0)
            (waits (w.calls t).purpose case x.2 may),
        x.1,
      )

  moves : (c : ℕ) (all locked : Bool) (n : ℕ) → MayHappen w t (Moves c l all locked n)
      → Goes (joined_by locked t (moved_of all (w.locks c).queue) (w.locks l))
  moves c all locked n may some =
      let sum = times_append u (w.locks l).queue (line_of locked (moved_of all (w.locks c).queue)) in
      let more = lined locked u (moved_of all (w.locks c).queue) in
      let among : is_among u (moved_of all (w.locks c).queue) ≡ true = grind (arith, nat_tests, none) in
      let waits = (may.wait u among).0 in
      inr (c, all, waits.0, may.notifies, waits.1, among_stood u all (w.locks c).queue among)

  left : (all : Bool) → Goes (left_after all (w.locks l))
  left true some = absurd (let f : 1 ≤ 0 = some in omega arith)
  left false some = let fewer = dropped_times u (w.locks l).queue in absurd (omega (arith, none, some))

  event : (e : Event) → MayHappen w t e → Begins w e o → Goes (locks_after w t e l)
  event Nothing may begins = nobody
  event (Moves c m all locked n) may begins =
      by_move w t l Goes nobody c m all locked n may (λ here. left all)
      (λ here. moves c all locked n here)
  event (AtLock k case) may begins =
      by_case w t l Goes nobody (λ j. MayHappen w t (AtLock j case)) k case may (a_case case)

  pub joins : (x : Turn) → Turned w t x o v → 1 ≤ times u (v.locks l).queue → Joins w t u l (v.locks l)
  joins x turned = by_step w t l Goes nobody v o event x turned
