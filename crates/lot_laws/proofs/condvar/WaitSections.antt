-- Each step of a wait in the section and the line of its mutex, as it releases it and locks it again: every
-- lock is a site again.
use Rattle.lot_laws.proofs.Imports
use Imports.{ℕ, Bool, true, false, None, if◌then◌else◌, ◌≡◌, ◌≢◌, ◌*◌, ◌<◌, length, refl}
use Imports.{sym, ◌∙◌, ap, subst, inl, inr, cases_eq, One, Exclusive, Act, Next, At, Reply, Done, Parked}
use Imports.{Nobody, StepView, Location, Condvar, condvar_goes, LockAt, UnlockAt}
use Imports.{still_retries, CondvarPlace, Wait, WaiterFate, WaitAt, condvar_next, in_wait, next_wait, relocked}
use Imports.{wait_act, row_at_mutex, there, MayHearWaiter, WaiterFollows, itself_woken, waiter_deeds, waiter_next}
use Imports.{Park, Rules, Role, Main, Site, wakened, State, can_do}
use Imports.{place_at, put, reply_to, section_at, state_after_act, word_at, queues_with_last, acts, taken_at}
use Imports.{role_on, location_at, FitsItsLock, Goes, IsInductive, key_of, rules_in, site_of, WordIs, holds}
use Rattle.steps_base.specs.declared.acts.Act.TheVariants as act
use Rattle.steps_mutex.specs.declared.lock.Entry.TheVariants as entry
use Rattle.steps_mutex.specs.declared.lock.LockAt.TheVariants as lock
use Rattle.steps_mutex.specs.declared.places.MutexPlace.TheVariants as mutex
use Rattle.steps_mutex.specs.declared.unlock.UnlockAt.TheVariants as unlock
use Rattle.steps_mutex.specs.MutexSteps.{in_lock}
use Rattle.steps_condvar.specs.declared.wait.WaitAt.TheVariants as wait
use Rattle.spec_locks.specs.Deeds as laws
use Rattle.spec_locks.specs.Locks as locks
use Rattle.lot_laws.proofs.condvar.Replies as hears
use Rattle.lot_laws.proofs.condvar.Replies.{taken_by_wait, waiter_hears, none_so}
use Rattle.lot_laws.proofs.condvar.WaitWords as beside
use Rattle.lot_laws.proofs.condvar.WaitWords.{StaysAtCondvar}
use Rattle.lot_laws.proofs.book.At.{Enters, LeadsTo, StandsAs, goes_in, goes_out_alone, leaves_main}
use Rattle.lot_laws.proofs.book.At.{stands_last}
use Rattle.lot_laws.proofs.book.At as at_lock
use Rattle.lot_laws.proofs.condvar.TwoParts.{location_beside, location_there, nothing_there, role_beside}
use Rattle.lot_laws.proofs.condvar.TwoParts.{taken_beside}

module _ (w : State) (t l m : ℕ) (timed : Bool) (inductive : IsInductive w) (is_there : t < length w.places)
    (apart : m ≢ l)
    (sort : (rules_in w m).sort ≡ locks.Mutex) (section : key_of m Main < length w.sections)
    (line : key_of m Main < length w.queues) where
  abbrev waits : WaitAt → CondvarPlace
  waits at = Wait m timed at

  abbrev r : Rules
  r = rules_in w m

  abbrev here : Site
  here = site_of w m

  abbrev Kept : WaitAt → Act → Type 0
  Kept at a = Goes w (put (state_after_act w t (Condvar l (waits at)) a) t
      (condvar_goes l (condvar_next (waits at) (reply_to w t a)))) m
      (acts t (waiter_deeds at None (reply_to w t a)))

  abbrev FitsNext : WaitAt → Act → Type 0
  FitsNext at a = FitsItsLock w (condvar_goes l (condvar_next (waits at) (reply_to w t a)))

  -- what a place of a wait says of its thread at the mutex
  abbrev move : WaitAt → StepView
  move at = record {
    row = row_at_mutex (At (waits at));
    next = λ told. row_at_mutex (in_wait m timed (next_wait m timed at told));
    deeds = λ who told. waiter_deeds at who told;
  }

  module _ (at : WaitAt) (is : place_at w t ≡ Condvar l (waits at)) where
    stands_as : StandsAs w t m inductive is_there r refl (move at)
    stands_as = record {
      location = ap (λ q. location_at q m) is ∙ location_beside l m apart (At (waits at)) refl;
      taken = ap (λ q. taken_at q m) is ∙ taken_beside l m apart (At (waits at)) refl;
      role = hears.role_beside w t l (waits at) inductive is m refl;
    }

    -- the thread takes nobody, and isn't woken by its own step
    module _ (a : Act) (acts_so : wait_act l m at ≡ a) (can : can_do w a ≡ true)
        (nobody : taken_by_wait w m at ≡ None)
        (stays : StaysAtCondvar w t l m timed inductive is_there apart sort at
        (in_wait m timed (next_wait m timed at (reply_to w t a))))
        (unwoken : (d : Role) → itself_woken t here (waiter_deeds at None (reply_to w t a)) d ≡ d)
        (fits : FitsNext at a) where
      abbrev told : Reply
      told = reply_to w t a

      followed : WaiterFollows r here t m timed at None told
      followed = beside.follows w t l m timed inductive is_there apart sort at is None told
          (subst (λ o. MayHearWaiter r here t at o told) nobody
          (subst (λ b. MayHearWaiter r here t at (taken_by_wait w m at) (reply_to w t b)) acts_so
          (waiter_hears w t l m timed at inductive is (subst (λ b. can_do w b ≡ true) (sym acts_so) can))))

      role_then : role_on (condvar_goes l (in_wait m timed (next_wait m timed at told))) m
          ≡ (row_at_mutex (in_wait m timed (next_wait m timed at told))).role
      role_then = role_beside l m apart (in_wait m timed (next_wait m timed at told)) stays.0

      leads : LeadsTo w t m inductive is_there r refl (move at) None told
          (condvar_goes l (in_wait m timed (next_wait m timed at told)))
      leads = record {
        alike = beside.alike w t l m timed inductive is_there apart sort at is
            (in_wait m timed (next_wait m timed at told)) stays;
        fits = fits;
        location = location_beside l m apart (in_wait m timed (next_wait m timed at told)) stays.0;
        taken = taken_beside l m apart (in_wait m timed (next_wait m timed at told)) stays.0;
        role = role_then;
        needed = followed.needed;
        does = followed.role ∙ unwoken (waiter_next m (next_wait m timed at told))
            ∙ sym (beside.does_next w t l m timed inductive is_there apart sort (next_wait m timed at told)
            stays.0) ∙ role_then;
      }

    -- in its own hand it is nowhere
    untaken : (row_at_mutex (At (waits at))).hand ≡ None → taken_at (place_at w t) m ≡ None
    untaken e = stands_as.taken ∙ at_lock.free_is (row_at_mutex (At (waits at))).hand
        (row_at_mutex (At (waits at))).wants e

    -- the thread stands in no other line
    stands_out : (there (waits at)).stands ≡ None → (k : ℕ) → k ≢ m → (location_at (place_at w t) k).stands
        ≡ None
    stands_out out k ne = ap (λ q. (location_at q k).stands) is ∙ elim (cases_eq k l) [
      | inl e ↦ subst (λ j. (location_at (Condvar l (waits at)) j).stands ≡ None) (sym e)
          (ap (λ (y : Location). y.stands) (location_there l m apart (At (waits at)) refl) ∙ out)
      | inr nl ↦ ap (λ (y : Location). y.stands) (nothing_there l m apart (At (waits at)) refl k nl ne)
    ]

  abbrev enter : Act
  enter = act.Enter (One (2 * m))

  abbrev leave : Act
  leave = act.Leave (One (2 * m)) Nobody

  abbrev releasing : WaiterFate → UnlockAt → WaitAt
  releasing s at = wait.Release s (mutex.Unlock at)

  abbrev relocks : Bool → Bool → LockAt → WaitAt
  relocks late retries at = wait.Lock late (mutex.Lock entry.Lock retries at)

  -- ---------------------------------------------------------------- the section

  enters : (at : WaitAt) (is : place_at w t ≡ Condvar l (waits at)) → wait_act l m at ≡ enter
      → can_do w enter ≡ true → taken_by_wait w m at ≡ None
      → StaysAtCondvar w t l m timed inductive is_there apart sort at
      (in_wait m timed (next_wait m timed at Done))
      → Enters (move at) Main Done → FitsNext at enter → Kept at enter
  enters at is e can nobody stays g fits = goes_in w t m inductive is_there r refl (move at) (stands_as at is)
      Done (condvar_goes l (condvar_next (waits at) Done)) (leads at is enter e can nobody stays
      (λ d. ap (λ ds. itself_woken t here ds d) g.deeds) fits) Main section
      (none_so (section_at w (2 * m)) can) g

  -- to release it, with somebody to wake
  pub enters_to_release : (s : WaiterFate) → place_at w t ≡ Condvar l (waits (releasing s unlock.Enter))
      → can_do w enter ≡ true
      → FitsNext (releasing s unlock.Enter) enter → Kept (releasing s unlock.Enter) enter
  enters_to_release s is can fits = enters (releasing s unlock.Enter) is refl can refl (refl, refl) (record {
    out = refl;
    deeds = refl;
    goes = refl;
    held = refl;
  }) fits

  -- to stand in its line
  pub enters_to_park : (late retries : Bool) (x : ℕ) → place_at w t ≡ Condvar l
      (waits (relocks late retries (lock.Decide x)))
      → wait_act l m (relocks late retries (lock.Decide x)) ≡ enter → can_do w enter ≡ true
      → FitsNext (relocks late retries (lock.Decide x)) enter → Kept (relocks late retries (lock.Decide x))
      enter
  enters_to_park late retries x is acts_so can fits = enters (relocks late retries (lock.Decide x)) is acts_so
      can refl (refl, refl) (record {
        out = refl;
        deeds = refl;
        goes = refl;
        held = refl;
      }) fits

  -- out of it again, in its line or not
  pub leaves_parked : (late retries b : Bool) → place_at w t
      ≡ Condvar l (waits (relocks late retries (lock.Leave b)))
      → FitsNext (relocks late retries (lock.Leave b)) leave → Kept (relocks late retries (lock.Leave b))
      leave
  leaves_parked late retries true is fits = goes_out_alone w t m inductive is_there r refl
      (move (relocks late retries (lock.Leave true))) (stands_as (relocks late retries (lock.Leave true)) is)
      Done (condvar_goes l (condvar_next (waits (relocks late retries (lock.Leave true))) Done))
      (leads (relocks late retries (lock.Leave true)) is leave refl refl refl (refl, refl)
      (λ d. ap (λ o. wakened t o d) (untaken (relocks late retries (lock.Leave true)) is refl)) fits) Main
      section tt refl refl refl refl
  leaves_parked late retries false is fits = goes_out_alone w t m inductive is_there r refl
      (move (relocks late retries (lock.Leave false))) (stands_as (relocks late retries (lock.Leave false))
      is) Done (condvar_goes l (condvar_next (waits (relocks late retries (lock.Leave false))) Done))
      (leads (relocks late retries (lock.Leave false)) is leave refl refl refl (refl, refl)
      (λ d. ap (λ o. wakened t o d) (untaken (relocks late retries (lock.Leave false)) is refl)) fits) Main
      section tt refl refl refl refl

  -- late, and out of its line
  pub leaves_late : (none_left : Bool) → place_at w t ≡ Condvar l (waits (wait.GiveUpMoved none_left))
      → FitsNext (wait.GiveUpMoved none_left) leave → Kept (wait.GiveUpMoved none_left) leave
  leaves_late none_left is fits = goes_out_alone w t m inductive is_there r refl
      (move (wait.GiveUpMoved none_left)) (stands_as (wait.GiveUpMoved none_left) is) Done
      (condvar_goes l (condvar_next (waits (wait.GiveUpMoved none_left)) Done))
      (leads (wait.GiveUpMoved none_left) is leave refl refl refl (refl, refl)
      (λ d. ap (λ o. wakened t o d) (untaken (wait.GiveUpMoved none_left) is refl)) fits) Main section tt refl
      refl refl refl

  -- the thread was handed the mutex, and its call is over
  pub accepts : (late retries : Bool) → place_at w t ≡ Condvar l (waits (relocks late retries lock.Accept))
      → FitsNext (relocks late retries lock.Accept) act.Accept → Kept (relocks late retries lock.Accept)
      act.Accept
  accepts late retries is fits = at_lock.accepts w t m inductive is_there r refl
      (move (relocks late retries lock.Accept)) (stands_as (relocks late retries lock.Accept) is) Done
      (condvar_goes l (condvar_next (waits (relocks late retries lock.Accept)) Done))
      (leads (relocks late retries lock.Accept) is act.Accept refl refl refl (tt, refl) (λ d. refl) fits) refl
      refl refl

  -- ---------------------------------------------------------------- the line

  -- the thread's time is up, and it leaves the line to which it was moved
  pub leaves_line : place_at w t ≡ Condvar l (waits wait.RemoveMoved) → FitsNext wait.RemoveMoved
      (act.Remove (2 * m))
      → Kept wait.RemoveMoved (act.Remove (2 * m))
  leaves_line is fits = leaves_main w t m inductive is_there r refl (move wait.RemoveMoved)
      (stands_as wait.RemoveMoved is) (reply_to w t (act.Remove (2 * m)))
      (condvar_goes l (condvar_next (waits wait.RemoveMoved) (reply_to w t (act.Remove (2 * m)))))
      (leads wait.RemoveMoved is (act.Remove (2 * m)) refl refl refl (refl, refl) (λ d. refl) fits)
      (stands_out wait.RemoveMoved is refl) Exclusive refl refl refl

  -- after the last of its line, where the bit still stands
  pub parks : (late retries : Bool) → place_at w t ≡ Condvar l (waits (relocks late retries lock.Check))
      → FitsNext (relocks late retries lock.Check) (act.Park m (2 * m) (WordIs 3) Exclusive)
      → Kept (relocks late retries lock.Check) (act.Park m (2 * m) (WordIs 3) Exclusive)
  parks late retries is fits = either (holds (WordIs 3) (word_at w m)) refl fits
    where
      at : WaitAt
      at = relocks late retries lock.Check

      checks : Bool → Next CondvarPlace
      checks b = in_wait m timed (relocked timed late (in_lock entry.Lock (still_retries retries (Parked b))
          (At (lock.Leave b))))

      by_test : (b : Bool) → holds (WordIs 3) (word_at w m) ≡ b → StaysAtCondvar w t l m timed inductive is_there
          apart sort at (checks b) → FitsItsLock w (condvar_goes l (checks b))
          → ((d : Role) → itself_woken t here (waiter_deeds at None (Parked b)) d ≡ d)
          → LeadsTo w t m inductive is_there r refl (move at) None (Parked b) (condvar_goes l (checks b))
      by_test b e = subst (λ b. StaysAtCondvar w t l m timed inductive is_there apart sort at (checks b)
          → FitsItsLock w (condvar_goes l (checks b))
          → ((d : Role) → itself_woken t here (waiter_deeds at None (Parked b)) d ≡ d)
          → LeadsTo w t m inductive is_there r refl (move at) None (Parked b) (condvar_goes l (checks b))) e
          (λ stays fits unwoken. leads at is (act.Park m (2 * m) (WordIs 3) Exclusive) refl refl refl stays
          unwoken fits)

      either : (b : Bool) → holds (WordIs 3) (word_at w m) ≡ b → FitsItsLock w (condvar_goes l (checks b))
          → Goes w (put (if b then record w { queues = queues_with_last w.queues (2 * m) t Exclusive } else w)
          t (condvar_goes l (checks b))) m (acts t (waiter_deeds at None (Parked b)))
      either true e fits = stands_last w t m inductive is_there r refl (move at) (stands_as at is)
          (Parked true)
          (condvar_goes l (checks true)) (by_test true e (refl, refl) fits (λ d. refl))
          (stands_out at is refl) Exclusive line refl refl refl
      either false e fits = at_lock.turns w t m inductive is_there r refl (move at) (stands_as at is)
          (Parked false) (condvar_goes l (checks false)) (by_test false e (refl, refl) fits (λ d. refl)) refl
          refl refl
