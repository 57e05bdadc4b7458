-- The pages of a semaphore's places: what its laws say of each, as any sort of lock says it.
use Rattle.lot_laws.proofs.Imports
use Imports.{ℕ, Bool, true, false, Option, Some, None, if◌then◌else◌, ◌-◌, ◌==◌, ◌≡◌, ◌≢◌, ◌≤◌, List, []}
use Imports.{◌∷◌, inl, not, refl, sym, ◌∙◌, ap, subst, arith, slice_index, nat_tests, Op, Shared, SemaphoreCall}
use Imports.{Act, Next, Reply, Value, Late, outcome_of, row_of, LockState, Rules, is_recursive, Case, Claim}
use Imports.{Deed, End, Has, HasClaim, Line, Main, Mark, Site, is_closure, aside_in, code, has_parked}
use Imports.{parked_in, SemaphorePlace, Acquire, Release, semaphore_deeds, LeavesWord, semaphore_role}
use Imports.{semaphore_profile, is_free, semaphore_act, semaphore_first, semaphore_next, semaphore_right}
use Imports.{semaphore_steps_code, semaphore_steps_follow, semaphore_promises, semaphore_steps_tell, Semaphore}
use Imports.{Idle, owners_after, semaphore_does, semaphore_goes, shares_after, State, reply_to, runs_closure}
use Imports.{semaphore_runs_none, location, FitsItsLock, LateIsTimed, rules_in, locks_of}
use Rattle.std.specs.Prelude.{◌&&◌}
use Rattle.spec_locks.specs.declared.calls.Patience.TheVariants as how
use Rattle.spec_locks.specs.declared.calls.SemaphoreCall.TheVariants as semaphore_call
use Rattle.steps_base.specs.declared.acts.Act.TheVariants as act
use Rattle.steps_base.specs.declared.acts.Next.TheVariants as next
use Rattle.steps_base.specs.declared.acts.TakeWhich.TheVariants as whom
use Rattle.spec_locks.specs.Locks as locks
use Rattle.spec_locks.specs.Deeds as laws
use Rattle.steps_semaphore.specs.declared.acquire.AcquireAt.TheVariants as acquire
use Rattle.steps_semaphore.specs.declared.tries.TryAt.TheVariants as tries
use Rattle.steps_semaphore.specs.declared.release.ReleaseAt.TheVariants as release
use Rattle.steps_semaphore.specs.declared.places.SemaphorePlace.TheVariants.{Try}
use Rattle.steps_semaphore.specs.SemaphoreDeeds.{enter_deeds}
use Rattle.steps_semaphore.specs.SemaphoreLaws.{IsAt, MayReply, role_next, next_row}
use Rattle.steps_semaphore.proofs.SemaphoreWords as words
use Rattle.lot_laws.proofs.book.Page.{Follows, IsThere, Leaves, MovesBy, Page, Says, never_given}
use Rattle.lot_laws.proofs.book.Page.{plainly_waits}
use Rattle.lot_laws.proofs.book.LockStaysASite.{ComesBy, MayCome, Tied}
use Rattle.lot_laws.proofs.calls.Closures.{closure_told}
use Rattle.lot_laws.proofs.calls.CallEvents.{RunsNothing, begins_nothing, runs_nothing}
use Rattle.lot_laws.proofs.semaphore.SemaphoreMoves.{NextTimed, SemaphoreMoves, next_timed}
use Rattle.lot_laws.proofs.semaphore.SemaphoreMoves.{semaphore_acts_move}
use Rattle.lot_laws.proofs.semaphore.SemaphoreMoves.{semaphore_hears, semaphore_late_move, semaphore_move}
use Rattle.lot_laws.proofs.semaphore.SemaphoreMoves.{semaphore_sleepers_move}

-- ---------------------------------------------------------------- rows

role_is : (n : Next SemaphorePlace) → role_next n ≡ (row_of (next_row n)).role
role_is (next.At p) = refl
role_is (next.End answer) = refl

-- ---------------------------------------------------------------- the word

-- a semaphore has no second line, and nothing but the holders of permits changes
module _ (r : Rules) (s : Site) (t : ℕ) where
  pub record OnlyPermits (ds : List Deed) : Type 0 where
    pub aside : (laws.after_all r ds s t).aside_parked ≡ s.aside_parked
    pub lock : (laws.after_all r ds s t).lock ≡ record s.lock {
      shared = (laws.after_all r ds s t).lock.shared;
    }

  exchanged_only : (other free : Bool) → OnlyPermits (if other then [] else if free then enter_deeds
      else Mark Main ∷ [])
  exchanged_only true free = record { aside = refl; lock = refl }
  exchanged_only false true = record { aside = refl; lock = refl }
  exchanged_only false false = record { aside = refl; lock = refl }

  looked_only : (free : Bool) → OnlyPermits (if free then [] else End ∷ [])
  looked_only true = record { aside = refl; lock = refl }
  looked_only false = record { aside = refl; lock = refl }

  attempted_only : (won free : Bool) → OnlyPermits (if won then enter_deeds else if free then [] else End
      ∷ [])
  attempted_only true free = record { aside = refl; lock = refl }
  attempted_only false free = looked_only free

  given_only : (parked : Bool) → OnlyPermits (Case (locks.Leave Shared) ∷ (if parked then [] else End ∷ []))
  given_only true = record { aside = refl; lock = refl }
  given_only false = record { aside = refl; lock = refl }

  only_permits : (l : ℕ) (p : SemaphorePlace) (op : Op) (v : ℕ) → semaphore_act l p ≡ act.Word l op
      → OnlyPermits (semaphore_deeds p None (Value v))
  only_permits l (Acquire timed again acquire.Load) op v e = record { aside = refl; lock = refl }
  only_permits l (Acquire timed again (acquire.Decide was)) op v e = exchanged_only (not (v == was))
      (is_free v)
  only_permits l (Acquire timed again acquire.Clear) op v e = record { aside = refl; lock = refl }
  only_permits l (Acquire timed again at) op v e = absurd cc
  only_permits l (Try tries.Load) op v e = looked_only (is_free v)
  only_permits l (Try (tries.Decide was)) op v e = attempted_only ((v == was) && is_free v) (is_free v)
  only_permits l (Release release.Add) op v e = given_only (has_parked v)
  only_permits l (Release (release.Clear any)) op v e = record { aside = refl; lock = refl }
  only_permits l (Release at) op v e = absurd cc

  -- the thread sees the word as it is
  sees_word : (l : ℕ) (p : SemaphorePlace) (op : Op) → semaphore_act l p ≡ act.Word l op
      → MayReply r s t p None (Value (code r s))
  sees_word l (Acquire timed again acquire.Load) op e = refl
  sees_word l (Acquire timed again (acquire.Decide was)) op e = refl
  sees_word l (Acquire timed again acquire.Clear) op e = refl
  sees_word l (Acquire timed again at) op e = absurd cc
  sees_word l (Try tries.Load) op e = refl
  sees_word l (Try (tries.Decide was)) op e = refl
  sees_word l (Release release.Add) op e = refl
  sees_word l (Release (release.Clear any)) op e = refl
  sees_word l (Release at) op e = absurd cc

-- ---------------------------------------------------------------- a page

abbrev pub semaphore_says : SemaphorePlace → Says
semaphore_says p = record {
  row = semaphore_profile p;
  comes = λ told. next_row (semaphore_next p told);
  deeds = λ who told. semaphore_deeds p who told;
  hears = semaphore_hears p;
}

-- a take of many is none of its acts
moves_so : (r : Rules) (l : ℕ) (p : SemaphorePlace) (y : Act) → r.sort ≡ locks.Semaphore
    → SemaphoreMoves l (semaphore_move p) (semaphore_hears p) y → MovesBy r l (semaphore_move p)
    (semaphore_hears p) y
moves_so r l p (act.Take key whom.First) sort g = inl (sort, g.0, g.1)
moves_so r l p (act.Take key whom.All) sort g = absurd g
moves_so r l p (act.Take key (whom.Picked start b)) sort g = (g.0, g.1 ∙ sym (ap is_recursive sort), g.2)
moves_so r l p (act.Park k key check want) sort g = inl g
moves_so r l p (act.Closure state) sort g = absurd g
moves_so r l p (act.Leave keys wakes) sort g = inl g
moves_so r l p act.Accept sort g = absurd g
moves_so r l p (act.HandOver k op) sort g = absurd g
moves_so r l p y sort g = g

module _ (r : Rules) (l : ℕ) (p : SemaphorePlace) (sort : r.sort ≡ locks.Semaphore) (timed : LateIsTimed p)
  where
    is_at : (s : Site) (t : ℕ) → IsThere r s t (semaphore_profile p) → IsAt r s t p
    is_at s t h = record {
      sort = sort;
      small = h.small sort;
      site = h.site;
      few = h.site.state.within sort;
      here = h.here;
      role = h.role;
    }

    follows : (s : Site) (t : ℕ) (who : Option ℕ) (told : Reply) → IsThere r s t (semaphore_profile p)
        → MayReply r s t p who told → Follows r s t (semaphore_move p) who told
    follows s t who told h hears = let f = semaphore_steps_follow r s t p who told (is_at s t h) hears
        in record {
          needed = f.needed;
          role = f.role ∙ role_is (semaphore_next p told);
        }

    leaves : (s : Site) (t : ℕ) (op : Op) → IsThere r s t (semaphore_profile p) → semaphore_act l p
        ≡ act.Word l op → Leaves r s t (semaphore_move p) op (owners_after (Semaphore l p))
        (shares_after (Semaphore l p))
    leaves s t op h e = record {
      word = left.word;
      lock = λ o main second taken same. (λ i. record (sym same i) { shared = left.permits i })
          ∙ sym only.lock;
      parked = ap (λ x. parked_in x (code r then_s)) sort ∙ ap has_parked (words.coded r then_s sort)
          ∙ words.parked_is _ then_s.parked;
      aside = ap (λ x. aside_in x (code r then_s)) sort ∙ sym (ap (λ x. aside_in x (code r s)) sort) ∙ h.aside
          ∙ sym only.aside;
    }
      where
        then_s : Site
        then_s = laws.after_all r (semaphore_deeds p None (Value (code r s))) s t

        left : LeavesWord r s t p None op
        left = semaphore_steps_code r s t l p None op (is_at s t h) (sees_word r s t l p op e) e

        only : OnlyPermits r s t (semaphore_deeds p None (Value (code r s)))
        only = only_permits r s t l p op (code r s) e

    pub semaphore_page : Page r l (semaphore_says p) (semaphore_act l p) (owners_after (Semaphore l p))
        (shares_after (Semaphore l p))
    semaphore_page = record {
      many = λ one. let both : locks.Mutex ≡ locks.Semaphore = sym one ∙ sort in cc;
      plain = λ one. let both : locks.Condvar ≡ locks.Semaphore = sym one ∙ sort in cc;
      word = λ s t op h out e. (
        follows s t None (Value (code r s)) h (sees_word r s t l p op e),
        leaves s t op h e,
        semaphore_steps_tell r s t l p None (Value (code r s)) (is_at s t h)
            (sees_word r s t l p op e) (λ f. cc),
      );
      follows = follows;
      tells = λ s t who told h hears now. semaphore_steps_tell r s t l p who told (is_at s t h) hears now;
      moves = moves_so r l p (semaphore_act l p) sort (semaphore_acts_move l p timed);
      waits = plainly_waits (semaphore_move p) (semaphore_sleepers_move p);
      given = never_given (semaphore_move p) (semaphore_sleepers_move p);
      late = semaphore_late_move p;
      runs = λ state e. absurd (let none : runs_closure (semaphore_act l p) ≡ false = semaphore_runs_none l p
          in let some : runs_closure (semaphore_act l p) ≡ true = ap runs_closure e in let both : true
          ≡ false =
          sym some ∙ none in cc);
      promises = rw sort (semaphore_promises l p);
    }

-- only a timed call gives up
late_timed : (p : SemaphorePlace) (m : Line) → (semaphore_profile p).late_line ≡ Some m
    → (semaphore_profile p).timed ≡ true
late_timed (Acquire true again at) m h = refl
late_timed (Acquire false again acquire.Asleep) m h = absurd cc
late_timed (Acquire false again at) m h = absurd cc
late_timed (Try at) m h = absurd cc
late_timed (Release release.Add) m h = absurd cc
late_timed (Release at) m h = absurd cc

comes_by : (l : ℕ) (n : Next SemaphorePlace) → ComesBy l (next_row n) (semaphore_goes l n)
    (semaphore_does l n)
comes_by l (next.At q) = (refl, refl, refl, tt)
comes_by l (next.End answer) = (refl, refl)

-- a call of a semaphore hands nothing over
pub keeps_all : (l : ℕ) (p : SemaphorePlace) → LateIsTimed p → (j : ℕ) (op : Op) → semaphore_act l p
    ≢ act.HandOver j op
keeps_all l p timed j op e = subst (SemaphoreMoves l (semaphore_move p) (semaphore_hears p)) e
    (semaphore_acts_move l p timed)

pub semaphore_tied : (w : State) (l : ℕ) (p : SemaphorePlace) → FitsItsLock w (Semaphore l p)
    → Tied w l (Semaphore l p) (semaphore_says p)
semaphore_tied w l p fits = record {
  page = semaphore_page (rules_in w l) l p fits.0 fits.1;
  of = refl;
  called = refl;
  row = refl;
  comes = λ told. comes_by l (semaphore_next p told);
  fits = λ told may. by_next (semaphore_next p told) (next_timed p told fits.1 (timed told may));
  begins = λ t inductive can may. begins_nothing (locks_of w) l (semaphore_profile p) _ _ runs may
      (tells_none (semaphore_next p (reply_to w t (semaphore_act l p))));
}
  where
    by_next : (n : Next SemaphorePlace) → NextTimed n → FitsItsLock w (semaphore_goes l n)
    by_next (next.At q) h = (fits.0, h)
    by_next (next.End answer) h = tt

    runs : RunsNothing ((semaphore_profile p).purpose l)
    runs = runs_nothing (λ k. (rules_in w k).sort) l ((semaphore_profile p).purpose l)
        (semaphore_promises l p).own ((semaphore_promises l p).known (λ k. (rules_in w k).sort) fits.0)
        (λ once. let both : locks.Semaphore ≡ locks.Once = sym fits.0 ∙ once in cc)

    tells_none : (n : Next SemaphorePlace) → is_closure (outcome_of (semaphore_does l n)) ≡ false
    tells_none (next.At q) = closure_told (semaphore_act l q) ∙ semaphore_runs_none l q
    tells_none (next.End answer) = refl

    timed : (told : Reply) → MayCome w l (semaphore_says p) told → told ≡ Late → (semaphore_profile p).timed
        ≡ true
    timed Late may e = late_timed p may.0 may.1
    timed told may e = absurd cc

-- ---------------------------------------------------------------- a call begins

-- tells what it claims: a thread that is to give a permit back holds one
abbrev pub claims_first : SemaphoreCall → Option Claim
claims_first (semaphore_call.Acquire patience) = None
claims_first semaphore_call.Release = Some (Has Shared)

pub record Opens (c : SemaphoreCall) : Type 0 where
  pub location : location (Semaphore 0 (semaphore_first c)) ≡ location Idle
  pub role : semaphore_role (semaphore_first c) ≡ record (semaphore_role (Try tries.Load)) {
    claims =
        claims_first c;
  }
  pub timed : LateIsTimed (semaphore_first c)

pub opens : (c : SemaphoreCall) → Opens c
opens (semaphore_call.Acquire how.Patient) = record { location = refl; role = refl; timed = λ e. absurd cc }
opens (semaphore_call.Acquire how.Timed) = record { location = refl; role = refl; timed = λ e. absurd cc }
opens (semaphore_call.Acquire how.Try) = record { location = refl; role = refl; timed = λ e. absurd cc }
opens semaphore_call.Release = record { location = refl; role = refl; timed = λ e. absurd cc }

some_held : (n : ℕ) → not (n == 0) ≡ true → 1 ≤ n
some_held n h = grind (arith, nat_tests)

-- a thread that gives a permit back holds one
pub claim_held : (s : LockState) (t : ℕ) (c : SemaphoreCall) → semaphore_right c (slice_index s.shared t)
    ≡ true → HasClaim s t (claims_first c)
claim_held s t (semaphore_call.Acquire patience) h = tt
claim_held s t semaphore_call.Release h = some_held (slice_index s.shared t) h
