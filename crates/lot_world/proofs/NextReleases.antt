-- The next release of a drain; and where there is none, nobody owns between calls.
use Rattle.std.proofs.Common.{ℕ, zero, suc, Bool, true, false, Option, Some, None, if◌then◌else◌, ◌==◌}
use Rattle.std.proofs.Common.{◌≡◌, ◌+◌, ◌≤◌, ◌<◌, List, [], ◌∷◌, length, inl, inr, refl, sym, ◌∙◌}
use Rattle.std.proofs.Common.{ap, subst, arith}
use Rattle.std.specs.Prelude.{slice_index, slice_index_or}
use Rattle.std.proofs.lemmas.Bool.{cases_eq, eqb-true}
use Rattle.core_base.specs.declared.wants.Want.{Want}
use Rattle.core_base.specs.declared.wants.Want.TheVariants.{Exclusive, Upgradable, Shared, Wait, CallOnce}
use Rattle.spec_locks.specs.declared.calls.Call.{Call}
use Rattle.spec_locks.specs.declared.calls.Step.{Step}
use Rattle.spec_locks.specs.declared.kinds.Kind.{Kind}
use Rattle.spec_locks.specs.declared.kinds.Kind.TheVariants as kind
use Rattle.spec_locks.specs.Calls.{lock_in}
use Rattle.spec_locks.specs.Locks.{LockState, Owns, Rights, one_if_thread, rights_of}
use Rattle.spec_locks.specs.Purposes.{Releases, purpose_of, rules_of}
use Rattle.spec_locks.specs.Runs.{HasRight, MayBegin, no_rights, purpose_at}
use Rattle.lot_steps.specs.declared.places.Place.TheVariants.{Idle}
use Rattle.lot_machine.specs.Machine.{State, can_begin, kind_at, place_at}
use Rattle.lot_laws.specs.Refinement.{lock_state, locks_of}
use Rattle.lot_rests.specs.Rests.{NobodyGoes}
use Rattle.lot_laws.proofs.calls.Begins.{begin_goes, begin_possible}
use Rattle.lot_world.specs.Drained.{Drains}
use Rattle.lot_world.specs.Few.{number}
use Rattle.lot_world.proofs.Few.{rights_are}
use Rattle.lot_world.specs.Quiet.{IsQuiet}
use Rattle.lot_world.specs.Full.{IsStrict}
use Rattle.lot_world.specs.Owners.{ReleaseThere, releases}
use Rattle.lot_world.specs.Ordered.{begin_of}
use Rattle.lot_world.proofs.DrainOwners.{owners_may_release}
use Rattle.lot_world.proofs.Releases.{one_thread}
use Rattle.lot_world.proofs.Rested.{rest}
use Rattle.lot_world.specs.Schedules.{first_begin, first_release, or_else}

same_step : (a b : Step) → Some a ≡ Some b → a ≡ b
same_step a b e = cc

no_step : (b : Step) → ◌≡◌ {A = Option Step} None (Some b) → ⊥
no_step b e = cc

some_step : (a : Step) → ◌≡◌ {A = Option Step} (Some a) None → ⊥
some_step a e = cc

-- ---------------------------------------------------------------- threads that may release

-- the call is a release of lock 0
pub record Gives (k : Kind) (c : Call) : Type 0 where
  pub right : Want
  pub fair : Bool
  pub here : lock_in c ≡ 0
  pub purpose : purpose_of k c ≡ Some (Releases 0 right fair)

abbrev AllGive : Kind → List Call → Type 0
AllGive k [] = Unit {0}
AllGive k (c ∷ cs) = Gives k c × AllGive k cs

all_give : (k : Kind) → Drains (rules_of k).sort → AllGive k (releases k)
all_give kind.Mutex d = (record { right = Exclusive; fair = false; here = refl; purpose = refl }, tt)
all_give kind.Fair d = (record { right = Exclusive; fair = true; here = refl; purpose = refl }, tt)
all_give (kind.RwLock limit) d = (
  record { right = Exclusive; fair = false; here = refl; purpose = refl },
  (
    record { right = Upgradable; fair = false; here = refl; purpose = refl },
    (record { right = Shared; fair = false; here = refl; purpose = refl }, tt),
  ),
)
all_give (kind.Recursive limit) d = (
  record { right = Exclusive; fair = false; here = refl; purpose = refl },
  (
    record { right = Upgradable; fair = false; here = refl; purpose = refl },
    (record { right = Shared; fair = false; here = refl; purpose = refl }, tt),
  ),
)
all_give kind.Once d = absurd d
all_give (kind.Semaphore permits) d = absurd d
all_give kind.Condvar d = absurd d

-- a thread begins a release
pub record BeginsRelease (w : State) (s : Step) : Type 0 where
  pub thread : ℕ
  pub call : Call
  pub step : s ≡ begin_of thread call
  pub gives : Gives (kind_at w 0) call
  pub there : thread < length w.places
  pub can : can_begin w thread call ≡ true

begin_found : (w : State) (t : ℕ) (cs : List Call) (s : Step) → AllGive (kind_at w 0) cs → t < length w.places
    → first_begin w t cs ≡ Some s → BeginsRelease w s
begin_found w t [] s give there e = absurd (no_step s e)
begin_found w t (c ∷ cs) s give there e = by_can (can_begin w t c) refl e (begin_found w t cs s give.1 there)
  where
    by_can : (b : Bool) → can_begin w t c ≡ b → (if b then Some (begin_of t c) else first_begin w t cs)
        ≡ Some s
        → (first_begin w t cs ≡ Some s → BeginsRelease w s) → BeginsRelease w s
    by_can true can f later = record {
      thread = t;
      call = c;
      step = sym (same_step (begin_of t c) s f);
      gives = give.0;
      there = there;
      can = can;
    }
    by_can false can f later = later f

release_found : (w : State) (t n : ℕ) (s : Step) → AllGive (kind_at w 0) (releases (kind_at w 0))
    → t + n ≤ length w.places
    → first_release w t n ≡ Some s → BeginsRelease w s
release_found w t zero s give below e = absurd (no_step s e)
release_found w t (suc n) s give below e = by_begin (first_begin w t (releases (kind_at w 0))) refl e
    (release_found w (suc t) n s give (omega arith))
  where
    by_begin : (o : Option Step) → first_begin w t (releases (kind_at w 0)) ≡ o
        → or_else o (first_release w (suc t) n) ≡ Some s
        → (first_release w (suc t) n ≡ Some s → BeginsRelease w s) → BeginsRelease w s
    by_begin (Some x) found f later = begin_found w t (releases (kind_at w 0)) s give (omega arith) (found
        ∙ f)
    by_begin None found f later = later f

none_begins : (w : State) (t : ℕ) (cs : List Call) (k : ℕ) (c : Call) → first_begin w t cs ≡ None
    → k < length cs → slice_index_or cs k c ≡ c
    → can_begin w t c ≡ false
none_begins w t [] k c e lt is = absurd (omega arith)
none_begins w t (x ∷ cs) zero c e lt is = by_can (can_begin w t x) refl e
  where
    by_can : (b : Bool) → can_begin w t x ≡ b → (if b then Some (begin_of t x) else first_begin w t cs) ≡ None
        → can_begin w t c ≡ false
    by_can true can f = absurd (some_step (begin_of t x) f)
    by_can false can f = subst (λ y. can_begin w t y ≡ false) is can
none_begins w t (x ∷ cs) (suc k) c e lt is =
    by_can (can_begin w t x) e (λ f. none_begins w t cs k c f (omega arith) is)
  where
    by_can : (b : Bool) → (if b then Some (begin_of t x) else first_begin w t cs) ≡ None
        → (first_begin w t cs ≡ None → can_begin w t c ≡ false) → can_begin w t c ≡ false
    by_can true f later = absurd (some_step (begin_of t x) f)
    by_can false f later = later f

none_releases : (w : State) (t n u : ℕ) → first_release w t n ≡ None → t ≤ u → u < t + n
    → first_begin w u (releases (kind_at w 0)) ≡ None
none_releases w t zero u e from below = absurd (omega arith)
none_releases w t (suc n) u e from below = by_begin (first_begin w t (releases (kind_at w 0))) refl e
    (λ f next. none_releases w (suc t) n u f next (omega arith))
  where
    by_begin : (o : Option Step) → first_begin w t (releases (kind_at w 0)) ≡ o
        → or_else o (first_release w (suc t) n) ≡ None
        → (first_release w (suc t) n ≡ None → suc t ≤ u → first_begin w u (releases (kind_at w 0)) ≡ None)
        → first_begin w u (releases (kind_at w 0)) ≡ None
    by_begin (Some x) found f later = absurd (some_step x f)
    by_begin None found f later = elim (cases_eq u t) [
      | inl same ↦ subst (λ x. first_begin w x (releases (kind_at w 0)) ≡ None) (sym same) found
      | inr ne ↦ later f (omega arith)
    ]

-- ---------------------------------------------------------------- the next release

pub release_is : (w : State) (s : Step) → Drains (rules_of (kind_at w 0)).sort
    → first_release w 0 (length w.places) ≡ Some s → BeginsRelease w s
release_is w s drains e = release_found w 0 (length w.places) s (all_give (kind_at w 0) drains) (omega arith) e

-- where there is none, nobody owns between calls
module _ (w : State) (strict : IsStrict w) (none : first_release w 0 (length w.places) ≡ None) where
  owns_nothing : (t : ℕ) → place_at w t ≡ Idle → rights_of (lock_state w 0) t ≡ no_rights
  owns_nothing t idle = by_number (number (rights_of (lock_state w 0) t) == 0) refl
    where
      by_number : (b : Bool) → (number (rights_of (lock_state w 0) t) == 0) ≡ b → rights_of (lock_state w 0) t
          ≡ no_rights
      by_number true e = let n : number (rights_of (lock_state w 0) t) ≡ 0 =
          eqb-true (number (rights_of (lock_state w 0) t)) 0 e in
          rights_are (rights_of (lock_state w 0) t) no_rights (omega arith) (omega arith) (omega arith)
          (omega arith)
      by_number false e =
          let there : ReleaseThere w t = owners_may_release w t strict idle
          (λ f. let g : (number (rights_of (lock_state w 0) t) == 0) ≡ true = ap (λ r. number r == 0) f
          in let k : true ≡ false = sym g ∙ e in cc) in
          absurd (let can : can_begin w t there.call ≡ true = begin_possible w t there.call there.may in
          let cannot : can_begin w t there.call ≡ false = none_begins w t (releases (kind_at w 0))
          there.listed.0 there.call (none_releases w 0 (length w.places) t none (omega arith)
          (let lt : t < length w.places = there.may.thread in omega arith)) there.listed.1 there.listed.2
          in
          let k : true ≡ false = sym can ∙ cannot in cc)

  pub quiet : NobodyGoes w → IsQuiet w
  quiet stuck = record { rest = rest w strict.ordered stuck; idle = owns_nothing }

-- ---------------------------------------------------------------- a release that begins

pub may_release : (w : State) (s : Step) → IsStrict w → (b : BeginsRelease w s)
    → MayBegin (locks_of w) b.thread b.call
    × (purpose_at (locks_of w) b.call ≡ Some (Releases 0 b.gives.right b.gives.fair))
may_release w s strict b = (
  (begin_goes w b.thread b.call strict.ordered.world.well_formed strict.ordered.world.inductive b.there
      b.can).0,
  ap (λ l. purpose_of (kind_at w l) b.call) b.gives.here ∙ b.gives.purpose,
)

-- an owner has a right
owner_has : (s : LockState) (t : ℕ) (x : Want) → Owns s t x → rights_of s t ≡ no_rights → ⊥
owner_has s t Exclusive owns none = let a : one_if_thread t s.exclusive ≡ 1 = ap (one_if_thread t) owns
    ∙ one_thread t in let b : one_if_thread t s.exclusive ≡ 0 = ap (λ (r : Rights). r.exclusive) none
    in omega arith
owner_has s t Upgradable owns none = let a : one_if_thread t s.upgradable ≡ 1 = ap (one_if_thread t) owns
    ∙ one_thread t in let b : one_if_thread t s.upgradable ≡ 0 = ap (λ (r : Rights). r.upgradable) none
    in omega arith
owner_has s t Shared owns none = let a : 1 ≤ slice_index s.shared t = owns in let b : slice_index s.shared t
    ≡ 0 = ap (λ (r : Rights). r.shared) none in omega arith
owner_has s t Wait owns none = owns
owner_has s t CallOnce owns none = owns

-- a thread that may release owns
pub begins_owns : (w : State) (s : Step) → IsStrict w → (b : BeginsRelease w s)
    → rights_of (lock_state w 0) b.thread ≡ no_rights → ⊥
begins_owns w s strict b none = let may = may_release w s strict b in
    owner_has (lock_state w 0) b.thread b.gives.right (subst (HasRight (locks_of w) b.thread) may.1 may.0.right)
    none

-- nobody may release where nobody owns
pub nobody_next : (w : State) → IsStrict w → Drains (rules_of (kind_at w 0)).sort
    → ((t : ℕ) → rights_of (lock_state w 0) t ≡ no_rights) → first_release w 0 (length w.places) ≡ None
nobody_next w strict drains owns = by_release (first_release w 0 (length w.places)) refl
  where
    by_release : (o : Option Step) → first_release w 0 (length w.places) ≡ o
        → first_release w 0 (length w.places) ≡ None
    by_release None e = e
    by_release (Some s) e = absurd (let b = release_is w s drains e in begins_owns w s strict b (owns b.thread))
