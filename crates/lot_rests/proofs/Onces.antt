-- Each step of a `Once` uses up what its thread has before it.
use Rattle.std.proofs.Common.{ℕ, Bool, true, false, if◌then◌else◌, ◌==◌, ◌&&◌, ◌||◌, not, ◌≡◌, ◌+◌, ◌*◌, ◌%◌}
use Rattle.std.proofs.Common.{◌/◌, ◌≤◌, ◌<◌, inl, inr, length, refl, ap, sym, ◌∙◌, subst, arith}
use Rattle.std.proofs.lemmas.Bool.{eqb-true}
use Rattle.core_base.specs.declared.ops.Op.TheVariants.{Exchange, Load as LoadOp}
use Rattle.core_base.specs.Lines.{without}
use Rattle.steps_base.specs.Acts.{holds}
use Rattle.steps_base.specs.declared.acts.Act.{Act}
use Rattle.steps_base.specs.declared.acts.Act.TheVariants as act
use Rattle.steps_base.specs.declared.acts.Next.{Next}
use Rattle.steps_base.specs.declared.acts.Next.TheVariants.{At, End}
use Rattle.steps_base.specs.declared.acts.Reply.TheVariants.{Value}
use Rattle.spec_locks.specs.Codes.{bit, is_done, is_marked, is_poisoned, is_running}
use Rattle.spec_locks.specs.Locks as locks
use Rattle.spec_locks.specs.Onces.{Phase, New, Poisoned, InProgress, Done, phase_code}
use Rattle.spec_locks.specs.Purposes.{rules_of}
use Rattle.spec_locks.specs.declared.calls.OnceCall.{OnceCall}
use Rattle.spec_locks.specs.declared.calls.OnceCall.TheVariants.{CallOnce, Wait, WaitTimed}
use Rattle.spec_locks.specs.declared.outcomes.Answer.TheVariants as answer
use Rattle.steps_once.specs.declared.look.LookAt.{LookAt}
use Rattle.steps_once.specs.declared.look.LookAt.TheVariants as look
use Rattle.steps_once.specs.declared.look.Course.{Course}
use Rattle.steps_once.specs.declared.look.Course.TheVariants.{Ends, Runs, Marks, Parks}
use Rattle.steps_once.specs.declared.run.RunAt.{RunAt}
use Rattle.steps_once.specs.declared.run.RunAt.TheVariants as run
use Rattle.steps_once.specs.declared.give_up.GiveUpAt.{GiveUpAt}
use Rattle.steps_once.specs.declared.give_up.GiveUpAt.TheVariants as give_up
use Rattle.steps_once.specs.declared.places.OncePlace.{OncePlace}
use Rattle.steps_once.specs.declared.places.OncePlace.TheVariants.{Look, Run, GiveUp}
use Rattle.steps_once.specs.OnceSteps.{check_of, closure_begun, course_act, course_of, ended, give_up_act}
use Rattle.steps_once.specs.OnceSteps.{in_give_up, in_look, in_run, is_forced, is_mark, is_run, look_act}
use Rattle.steps_once.specs.OnceSteps.{looked_by, marked, once_act, once_next, run_act, runs, started}
use Rattle.steps_once.specs.OnceSteps.{when_done}
use Rattle.lot_machine.specs.Machine.{State, can_do, kind_at, queue_at, reply_to, word_at}
use Rattle.lot_rests.proofs.Rows.{Goes, SetsBit, either_less, exchange_fails, exchanged, is_still, nears}
use Rattle.lot_rests.proofs.Rows.{same}
use Rattle.lot_rests.proofs.Work.{once_work, work_then}
use Rattle.lot_rests.proofs.Ways.{checks, decides, is_park, leaves, loads, look_ways, once_ways, ways_then}
use Rattle.lot_rests.proofs.Ways as ways

-- ---------------------------------------------------------------- words that make a thread wait

-- by whether a `Once` is done, was poisoned and is marked, and whether the call is forced
unfinished : (done poisoned forced parked : Bool) (x y : Course) → is_park x ≡ false → is_park y ≡ false
    → is_park (if done then x else if poisoned && not forced then y else if parked then Parks else Marks)
    ≡ true
    → (parked && (not done && (forced || not poisoned))) ≡ true
unfinished true poisoned forced parked x y ends fails h = absurd (let e : false ≡ true = sym ends ∙ h in cc)
unfinished false true false parked x y ends fails h = absurd (let e : false ≡ true = sym fails ∙ h in cc)
unfinished false true true true x y ends fails h = refl
unfinished false true true false x y ends fails h = absurd cc
unfinished false false true true x y ends fails h = refl
unfinished false false true false x y ends fails h = absurd cc
unfinished false false false true x y ends fails h = refl
unfinished false false false false x y ends fails h = absurd cc

-- a call that runs waits only beside another's run
run_waits : (forced parked : Bool) (phase : Phase)
    → is_park (course_of (CallOnce forced) (8 * bit parked + phase_code phase)) ≡ true
    → ((8 * bit parked + phase_code phase) == 12) ≡ true
run_waits forced true (InProgress u) h = refl
run_waits forced false (InProgress u) h = absurd cc
run_waits true true Poisoned h = absurd cc
run_waits false true Poisoned h = absurd cc
run_waits true false Poisoned h = absurd cc
run_waits false false Poisoned h = absurd cc
run_waits forced true New h = absurd cc
run_waits forced false New h = absurd cc
run_waits forced true Done h = absurd cc
run_waits forced false Done h = absurd cc

-- the word by its parts
pub record IsOnceWord (word : ℕ) : Type 0 where
  pub parked : Bool
  pub phase : Phase
  pub is : word ≡ 8 * bit parked + phase_code phase

pub enters_waits : (c : OnceCall) (word : ℕ) → IsOnceWord word → is_park (course_of c word) ≡ true
    → holds (check_of c) word ≡ true
enters_waits (CallOnce forced) word of h =
    subst (λ v. (v == 12) ≡ true) (sym of.is) (run_waits forced of.parked of.phase
    (subst (λ v. is_park (course_of (CallOnce forced) v) ≡ true) of.is h))
enters_waits (Wait forced) word of h = unfinished (is_done word) (is_poisoned word) forced (is_marked word)
    (Ends answer.Ok) (Ends answer.Poisoned) refl refl h
enters_waits WaitTimed word of h = unfinished (is_done word) (is_poisoned word) false (is_marked word)
    (Ends answer.Yes) (Ends answer.Poisoned) refl refl h

-- ---------------------------------------------------------------- bits

-- a thread marks a word that is not marked
marks_unmarked : (c : OnceCall) (v : ℕ) → course_of c v ≡ Marks → is_marked v ≡ false
marks_unmarked c v h = by_tests (is_done v) (is_poisoned v && not (is_forced c))
    (runs c && not (is_running v)) (is_marked v) h
  where
    by_tests : (done fails starts parked : Bool) → (if done then Ends (when_done c) else if fails
        then Ends answer.Poisoned else if starts then Runs else if parked then Parks else Marks) ≡ Marks
        → parked ≡ false
    by_tests true fails starts parked e = absurd cc
    by_tests false true starts parked e = absurd cc
    by_tests false false true parked e = absurd cc
    by_tests false false false true e = absurd cc
    by_tests false false false false e = refl

marked_then : (v : ℕ) → is_marked (marked v) ≡ true
marked_then v = ap (λ y. y == 1) (let e : (v % 8 + 8) / 8 ≡ 1 = omega arith in e)

module _ (w : State) (t l : ℕ) (sort : (rules_of (kind_at w l)).sort ≡ locks.Once)
    (coded : IsOnceWord (word_at w l)) (there : l < length w.locks) where
  abbrev word : ℕ
  word = word_at w l

  abbrev waits : OnceCall → Bool
  waits c = holds (check_of c) word

  -- where this act leads from a place
  abbrev Leads : OncePlace → Act → Type 0
  Leads at a = Goes w a (once_work at) (work_then once_work (once_next at (reply_to w t a)))
      (once_ways word at) (ways_then (once_ways word) (once_next at (reply_to w t a)))

  -- ---------------------------------------------------------------- a look at the word

  looked_now : (c : OnceCall) → look_ways c word (look.Decide word) + 1 ≤ loads (waits c)
  looked_now c = subst (λ b. decides (is_park (course_of c word)) (waits c) b + 1 ≤ loads (waits c))
      (sym (same word)) (ways.looked (is_park (course_of c word)) (waits c) (enters_waits c word coded))

  looked_row : (c : OnceCall) (again : Bool) (a : Act) → is_still w a ≡ true → (k : Course)
      → Goes w a 6 (work_then once_work (in_look c again (looked_by word k))) (loads (waits c))
      (ways_then (once_ways word) (in_look c again (looked_by word k)))
  looked_row c again a still (Ends answer) = inl (omega arith)
  looked_row c again a still k = nears 6 6 (loads (waits c)) (look_ways c word (look.Decide word))
      (omega arith) still (looked_now c)

  -- ---------------------------------------------------------------- by the value seen last

  -- after its act, by whether it finds what it saw, and by what it finds
  abbrev next : OnceCall → Bool → Bool → Course → Next OncePlace
  next c again won k =
      if won && is_run k then At (Run (is_forced c) (closure_begun (Value word)))
      else in_look c again (if won && is_mark k then At (look.Decide (marked word)) else looked_by word k)

  abbrev Comes : OnceCall → Bool → Act → Bool → Bool → Course → Type 0
  Comes c again a enters won k =
      Goes w a 6 (work_then once_work (next c again won k)) (decides enters (waits c) won)
      (ways_then (once_ways word) (next c again won k))

  lost : (c : OnceCall) (again : Bool) (a : Act) → is_still w a ≡ true → (k : Course)
      → Comes c again a false false k
  lost c again a still k = looked_row c again a still k

  bit_pending : (c : OnceCall) (seen : ℕ) → (word == seen) ≡ true → course_of c seen ≡ Marks
      → SetsBit w (act.Word l (Exchange seen (marked seen)))
  bit_pending c seen is told = record {
    lock = l;
    op = Exchange seen (marked seen);
    is = refl;
    there = there;
    fewer = rw (
      sort,
      exchanged seen (marked seen) word is,
      eqb-true word seen is,
      marked_then seen,
      marks_unmarked c seen told,
    ) (omega arith);
  }

  -- the thread finds what it saw
  won : (c : OnceCall) (again : Bool) (seen : ℕ) → (word == seen) ≡ true → (k : Course) → course_of c seen ≡ k
      → is_park k ≡ false
      → Comes c again (course_act l seen k) false true k
  won c again seen is (Ends answer) told not_parks = inl (omega arith)
  won c again seen is Runs told not_parks = inl (omega arith)
  won c again seen is Marks told not_parks = inr (omega arith, inl (bit_pending c seen is told))
  won c again seen is Parks told not_parks = absurd cc

  -- another value fails its exchange
  is_lost : (seen : ℕ) (k : Course) → is_park k ≡ false → (word == seen) ≡ false
      → is_still w (course_act l seen k) ≡ true
  is_lost seen (Ends answer) not_parks is = same word
  is_lost seen Runs not_parks is = exchange_fails seen (started seen) word is
  is_lost seen Marks not_parks is = exchange_fails seen (marked seen) word is
  is_lost seen Parks not_parks is = absurd cc

  exchange_row : (c : OnceCall) (again : Bool) (seen : ℕ) (k : Course) → course_of c seen ≡ k
      → is_park k ≡ false
      → Comes c again (course_act l seen k) false (word == seen) (course_of c word)
  exchange_row c again seen k told not_parks = by_word (word == seen) refl
    where
      by_word : (b : Bool) → (word == seen) ≡ b → Comes c again (course_act l seen k) false b
          (course_of c word)
      by_word false is = lost c again (course_act l seen k) (is_lost seen k not_parks is) (course_of c word)
      by_word true is = subst (λ x. Comes c again (course_act l seen k) false true x)
          (sym (ap (course_of c) (eqb-true word seen is) ∙ told)) (won c again seen is k told not_parks)

  decide_row : (c : OnceCall) (again : Bool) (seen : ℕ) (k : Course) → course_of c seen ≡ k
      → Goes w (course_act l seen k) 6
      (work_then once_work (once_next (Look c again (look.Decide seen))
      (reply_to w t (course_act l seen k)))) (decides (is_park k) (waits c) (word == seen))
      (ways_then (once_ways word) (once_next (Look c again (look.Decide seen))
      (reply_to w t (course_act l seen k))))
  decide_row c again seen (Ends answer) told = exchange_row c again seen (Ends answer) told refl
  decide_row c again seen Runs told = exchange_row c again seen Runs told refl
  decide_row c again seen Marks told = exchange_row c again seen Marks told refl
  decide_row c again seen Parks told = nears 6 6 (decides true (waits c) (word == seen)) (checks (waits c))
      (omega arith) refl (ways.entered (waits c) (word == seen))

  -- ---------------------------------------------------------------- each place

  look_row : (c : OnceCall) (again : Bool) (at : LookAt) → can_do w (look_act l c at) ≡ true
      → Leads (Look c again at) (look_act l c at)
  look_row c again look.Load can = looked_row c again (act.Word l LoadOp) (same word) (course_of c word)
  look_row c again (look.Decide seen) can = decide_row c again seen (course_of c seen) refl
  look_row c again look.Check can = nears 6 6 (checks (waits c)) (leaves (waits c) (waits c)) (omega arith)
      refl (ways.checked (waits c))
  look_row c again (look.Leave true) can = nears 6 6 1 0 (omega arith) refl (omega arith)
  look_row c again (look.Leave false) can = nears 6 6 (loads (waits c) + 1) (loads (waits c)) (omega arith)
      refl (omega arith)
  look_row c again look.Asleep can = absurd cc
  look_row c again (look.Taken by) can = absurd cc

  run_row : (forced : Bool) (at : RunAt) → can_do w (run_act l at) ≡ true → Leads (Run forced at)
      (run_act l at)
  run_row forced (run.Closure poisoned) can = absurd cc
  run_row forced (run.Close succeeded) can =
      inl (either_less (λ n. work_then once_work (in_run forced n)) (is_marked word)
      (At (run.Enter succeeded)) (End (ended succeeded)) 4 (omega arith) (omega arith))
  run_row forced (run.Enter succeeded) can = inl (omega arith)
  run_row forced (run.Take succeeded) can = inl (omega arith)
  run_row forced (run.Leave succeeded any) can = inl (omega arith)

  give_up_row : (again : Bool) (at : GiveUpAt) → Leads (GiveUp again at) (give_up_act l at)
  give_up_row again give_up.Remove = inl (either_less (λ n. work_then once_work (in_give_up again n))
      (length (without t (queue_at w (2 * l))) == 0) (At give_up.Clear) (At give_up.Leave) 3 (omega arith)
      (omega arith))
  give_up_row again give_up.Clear = inl (omega arith)
  give_up_row again give_up.Leave = inl (omega arith)

  pub once_row : (at : OncePlace) → can_do w (once_act l at) ≡ true → Leads at (once_act l at)
  once_row (Look c again at) can = look_row c again at can
  once_row (Run forced at) can = run_row forced at can
  once_row (GiveUp again at) can = give_up_row again at
