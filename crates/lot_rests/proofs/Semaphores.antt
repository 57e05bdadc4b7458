-- Each step of a semaphore uses up what its thread has before it.
use Rattle.std.proofs.Common.{ℕ, zero, suc, Bool, true, false, if◌then◌else◌, ◌==◌, ◌&&◌, not, ◌≡◌, ◌+◌, ◌-◌}
use Rattle.std.proofs.Common.{◌*◌, ◌≤◌, ◌<◌, inl, inr, length, drop, refl, ap, sym, ◌∙◌, subst, arith}
use Rattle.std.proofs.lemmas.Bool.{cases_eq, eqb-true}
use Rattle.std.proofs.lemmas.Bool.Decides.{nat_tests}
use Rattle.core_base.specs.declared.keys.Keys.TheVariants.{One}
use Rattle.core_base.specs.declared.ops.Op.TheVariants.{Exchange, Load as LoadOp}
use Rattle.core_base.specs.Lines.{first_of, without}
use Rattle.steps_base.specs.declared.acts.Act.{Act}
use Rattle.steps_base.specs.declared.acts.Act.TheVariants as act
use Rattle.steps_base.specs.declared.acts.Next.{Next}
use Rattle.steps_base.specs.declared.acts.Next.TheVariants.{At, End}
use Rattle.steps_base.specs.declared.acts.Reply.TheVariants.{Value}
use Rattle.spec_locks.specs.Codes.{has_parked}
use Rattle.spec_locks.specs.Locks as locks
use Rattle.spec_locks.specs.Purposes.{rules_of}
use Rattle.spec_locks.specs.declared.outcomes.Answer.TheVariants as answer
use Rattle.steps_semaphore.specs.declared.acquire.AcquireAt.{AcquireAt}
use Rattle.steps_semaphore.specs.declared.acquire.AcquireAt.TheVariants as acquire
use Rattle.steps_semaphore.specs.declared.tries.TryAt.TheVariants as tries
use Rattle.steps_semaphore.specs.declared.release.ReleaseAt.{ReleaseAt}
use Rattle.steps_semaphore.specs.declared.release.ReleaseAt.TheVariants as release
use Rattle.steps_semaphore.specs.declared.places.SemaphorePlace.{SemaphorePlace}
use Rattle.steps_semaphore.specs.declared.places.SemaphorePlace.TheVariants.{Acquire, Try, Release}
use Rattle.steps_semaphore.specs.SemaphoreSteps.{acquired, acquire_act, decided, in_acquire, in_release}
use Rattle.steps_semaphore.specs.SemaphoreSteps.{in_try, is_free, release_act, semaphore_act, semaphore_next}
use Rattle.lot_machine.specs.Machine.{State, can_do, is_there, kind_at, queue_at, reply_to, word_at}
use Rattle.lot_rests.proofs.Rows.{Goes, SetsBit, either_less, exchange_fails, exchanged, is_still, nears}
use Rattle.lot_rests.proofs.Rows.{same}
use Rattle.lot_rests.proofs.Work.{semaphore_work, work_then}
use Rattle.lot_rests.proofs.Ways.{acquire_enters, acquire_ways, checks, decides, leaves, loads}
use Rattle.lot_rests.proofs.Ways.{semaphore_ways, try_ways, ways_then}
use Rattle.lot_rests.proofs.Ways as ways

-- a semaphore with no free permit that is marked makes a thread wait
enters_waits : (word : ℕ) → acquire_enters word ≡ true → (word == 1) ≡ true
enters_waits zero e = absurd cc
enters_waits (suc zero) e = refl
enters_waits (suc (suc n)) e = grind (arith, nat_tests)

module _ (w : State) (t l : ℕ) (sort : (rules_of (kind_at w l)).sort ≡ locks.Semaphore) (there : l
    < length w.locks) where
  abbrev word : ℕ
  word = word_at w l

  -- where this act leads from a place
  abbrev Leads : SemaphorePlace → Act → Type 0
  Leads at a = Goes w a (semaphore_work at) (work_then semaphore_work (semaphore_next at (reply_to w t a)))
      (semaphore_ways word at) (ways_then (semaphore_ways word) (semaphore_next at (reply_to w t a)))

  -- the value that it has just seen
  looked_now : acquire_ways word (acquire.Decide word) + 1 ≤ loads (word == 1)
  looked_now = subst (λ b. decides (acquire_enters word) (word == 1) b + 1 ≤ loads (word == 1))
      (sym (same word)) (ways.looked (acquire_enters word) (word == 1) (enters_waits word))

  -- ---------------------------------------------------------------- by the value seen last

  bit_pending : (word == 0) ≡ true → SetsBit w (act.Word l (Exchange 0 1))
  bit_pending is = record {
    lock = l;
    op = Exchange 0 1;
    is = refl;
    there = there;
    fewer = rw (sort, exchanged 0 1 word is, eqb-true word 0 is) (omega arith);
  }

  -- after an exchange
  abbrev decided_next : Bool → Bool → Bool → Bool → Next SemaphorePlace
  decided_next timed again b free = in_acquire timed again (if not b then At (acquire.Decide word)
      else if free then End (acquired timed) else At (acquire.Decide 1))

  none_row : (timed again : Bool) → Leads (Acquire timed again (acquire.Decide 0)) (act.Word l (Exchange 0 1))
  none_row timed again = by_word (word == 0) (is_free word) refl
    where
      by_word : (b free : Bool) → (word == 0) ≡ b
          → Goes w (act.Word l (Exchange 0 1)) 4 (work_then semaphore_work (decided_next timed again b free))
          (decides false (word == 1) b) (ways_then (semaphore_ways word)
          (decided_next timed again b free))
      by_word false free is = nears 4 4 (loads (word == 1)) (acquire_ways word (acquire.Decide word))
          (omega arith) (exchange_fails 0 1 word is) looked_now
      by_word true false is = inr (omega arith, inl (bit_pending is))
      by_word true true is = inl (omega arith)

  -- the thread tries to get a permit
  take_row : (timed again : Bool) (seen : ℕ) → is_free seen ≡ true
      → Goes w (act.Word l (Exchange seen (seen - 2))) 4
      (work_then semaphore_work (semaphore_next (Acquire timed again (acquire.Decide seen)) (Value word)))
      (decides false (word == 1) (word == seen))
      (ways_then (semaphore_ways word) (semaphore_next (Acquire timed again (acquire.Decide seen))
      (Value word)))
  take_row timed again seen vacant = by_word (word == seen) (is_free word) refl refl
    where
      by_word : (b free : Bool) → (word == seen) ≡ b → is_free word ≡ free
          → Goes w (act.Word l (Exchange seen (seen - 2))) 4
          (work_then semaphore_work (decided_next timed again b free)) (decides false (word == 1) b)
          (ways_then (semaphore_ways word) (decided_next timed again b free))
      by_word false free is told = nears 4 4 (loads (word == 1)) (acquire_ways word (acquire.Decide word))
          (omega arith) (exchange_fails seen (seen - 2) word is) looked_now
      by_word true true is told = inl (omega arith)
      by_word true false is told = absurd (let e : false ≡ true = sym told
          ∙ ap is_free (eqb-true word seen is) ∙ vacant in cc)

  decide_row : (timed again : Bool) (seen : ℕ) → Leads (Acquire timed again (acquire.Decide seen))
      (decided l seen)
  decide_row timed again seen = elim (cases_eq seen 0) [
    | inl none ↦ subst (λ v. Leads (Acquire timed again (acquire.Decide v)) (decided l v)) (sym none)
        (none_row timed again)
    | inr more ↦ by_word (is_free seen) (seen == 0) refl (grind (arith, nat_tests))
  ]
    where
      by_word : (free none : Bool) → is_free seen ≡ free → none ≡ false
          → Goes w (if free then act.Word l (Exchange seen (seen - 2)) else if none then act.Word l
          (Exchange 0 1) else act.Enter (One (2 * l))) 4
          (work_then semaphore_work (semaphore_next (Acquire timed again (acquire.Decide seen))
          (reply_to w t (if free then act.Word l (Exchange seen (seen - 2)) else if none
          then act.Word l (Exchange 0 1) else act.Enter (One (2 * l))))))
          (decides (not free && not none) (word == 1) (word == seen))
          (ways_then (semaphore_ways word) (semaphore_next (Acquire timed again (acquire.Decide seen))
          (reply_to w t (if free then act.Word l (Exchange seen (seen - 2)) else if none
          then act.Word l (Exchange 0 1) else act.Enter (One (2 * l))))))
      by_word true none told is = take_row timed again seen told
      by_word false false told is = nears 4 4 (decides true (word == 1) (word == seen)) (checks (word == 1))
          (omega arith) refl (ways.entered (word == 1) (word == seen))
      by_word false true told is = absurd cc

  -- ---------------------------------------------------------------- each place

  leave_row : (timed again parked : Bool) → Leads (Acquire timed again (acquire.Leave parked))
      (acquire_act l (acquire.Leave parked))
  leave_row timed again true = nears 4 4 1 0 (omega arith) refl (omega arith)
  leave_row timed again false = nears 4 4 (loads (word == 1) + 1) (loads (word == 1)) (omega arith) refl
      (omega arith)

  acquire_row : (timed again : Bool) (at : AcquireAt) → can_do w (acquire_act l at) ≡ true
      → Leads (Acquire timed again at) (acquire_act l at)
  acquire_row timed again acquire.Load can = nears 4 4 (loads (word == 1))
      (acquire_ways word (acquire.Decide word)) (omega arith) (same word) looked_now
  acquire_row timed again (acquire.Decide seen) can = decide_row timed again seen
  acquire_row timed again acquire.Check can = nears 4 4 (checks (word == 1)) (leaves (word == 1) (word == 1))
      (omega arith) refl (ways.checked (word == 1))
  acquire_row timed again (acquire.Leave parked) can = leave_row timed again parked
  acquire_row timed again acquire.Asleep can = absurd cc
  acquire_row timed again (acquire.Taken by) can = absurd cc
  acquire_row timed again acquire.Remove can =
      inl (either_less (λ n. work_then semaphore_work (in_acquire timed again n))
      (length (without t (queue_at w (2 * l))) == 0) (At acquire.Clear) (At acquire.GiveUp) 3 (omega arith)
      (omega arith))
  acquire_row timed again acquire.Clear can = inl (omega arith)
  acquire_row timed again acquire.GiveUp can = inl (omega arith)

  -- a try that has just looked
  abbrev tried_next : Bool → Bool → Next SemaphorePlace
  tried_next b free = in_try (if b && free then End answer.Yes else if free then At (tries.Decide word)
      else End answer.No)

  tried_now : try_ways word (tries.Decide word) + 1 ≤ 1
  tried_now = subst (λ b. (if b then 0 else 1) + 1 ≤ 1) (sym (same word)) (omega arith)

  tried : (seen : ℕ) (a : Act) → ((word == seen) ≡ false → is_still w a ≡ true)
      → Goes w a 1 (work_then semaphore_work (tried_next (word == seen) (is_free word)))
      (try_ways word (tries.Decide seen)) (ways_then (semaphore_ways word)
      (tried_next (word == seen) (is_free word)))
  tried seen a still = by_word (word == seen) (is_free word) refl
    where
      by_word : (b free : Bool) → (word == seen) ≡ b
          → Goes w a 1 (work_then semaphore_work (tried_next b free)) (if b then 0 else 1)
          (ways_then (semaphore_ways word) (tried_next b free))
      by_word true true is = inl (omega arith)
      by_word true false is = inl (omega arith)
      by_word false false is = inl (omega arith)
      by_word false true is = nears 1 1 1 (try_ways word (tries.Decide word)) (omega arith) (still is)
          tried_now

  load_try : (free : Bool) → Goes w (act.Word l LoadOp) 1 (work_then semaphore_work (tried_next false free)) 1
      (ways_then (semaphore_ways word) (tried_next false free))
  load_try true = nears 1 1 1 (try_ways word (tries.Decide word)) (omega arith) (same word) tried_now
  load_try false = inl (omega arith)

  decide_try : (seen : ℕ) (own : Bool)
      → Goes w (if own then act.Word l (Exchange seen (seen - 2)) else act.Word l LoadOp) 1
      (work_then semaphore_work (semaphore_next (Try (tries.Decide seen))
      (reply_to w t (if own then act.Word l (Exchange seen (seen - 2)) else act.Word l LoadOp))))
      (try_ways word (tries.Decide seen))
      (ways_then (semaphore_ways word) (semaphore_next (Try (tries.Decide seen))
      (reply_to w t (if own then act.Word l (Exchange seen (seen - 2)) else act.Word l LoadOp))))
  decide_try seen true = tried seen (act.Word l (Exchange seen (seen - 2)))
      (λ is. exchange_fails seen (seen - 2) word is)
  decide_try seen false = tried seen (act.Word l LoadOp) (λ is. same word)

  release_row : (at : ReleaseAt) → Leads (Release at) (release_act l at)
  release_row release.Add = inl (either_less (λ n. work_then semaphore_work (in_release n)) (has_parked word)
      (At release.Enter) (End answer.Ok) 5 (omega arith) (omega arith))
  release_row release.Enter = inl (omega arith)
  release_row release.Take = inl (either_less (λ n. work_then semaphore_work (in_release n))
      (length (drop 1 (queue_at w (2 * l))) == 0)
      (At (release.Clear (is_there (first_of (queue_at w (2 * l))))))
      (At (release.Leave (is_there (first_of (queue_at w (2 * l)))))) 3 (omega arith) (omega arith))
  release_row (release.Clear any) = inl (omega arith)
  release_row (release.Leave any) = inl (omega arith)

  pub semaphore_row : (at : SemaphorePlace) → can_do w (semaphore_act l at) ≡ true
      → Leads at (semaphore_act l at)
  semaphore_row (Acquire timed again at) can = acquire_row timed again at can
  semaphore_row (Try tries.Load) can = load_try (is_free word)
  semaphore_row (Try (tries.Decide seen)) can = decide_try seen (is_free seen)
  semaphore_row (Release at) can = release_row at
