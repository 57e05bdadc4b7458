-- A test of a row and of what its thread does next, which computes: where it passes, the row keeps its
-- promises.
use Rattle.std.proofs.Common.{ℕ, Bool, true, false, Option, Some, None, if◌then◌else◌, ◌||◌, ◌&&◌, not, ◌≡◌}
use Rattle.std.proofs.Common.{◌≢◌, ◌*◌, ◌+◌, ◌⊎◌, inl, inr, refl, sym, ◌∙◌, subst, ap, arith}
use Rattle.core_base.specs.declared.keys.Keys.TheVariants.{One}
use Rattle.core_base.specs.declared.keys.Line.{Line}
use Rattle.core_base.specs.declared.keys.Line.TheVariants.{Main, Second}
use Rattle.core_base.specs.declared.notes.Note.TheVariants as note
use Rattle.core_base.specs.declared.wants.Want.{Want}
use Rattle.core_base.specs.declared.wants.Want.TheVariants as w
use Rattle.core_base.specs.Keys.{key_of}
use Rattle.steps_base.specs.declared.acts.Act.{Act}
use Rattle.steps_base.specs.declared.acts.Act.TheVariants.{Enter, Leave, Sleep}
use Rattle.steps_base.specs.declared.acts.Wakes.TheVariants as wakes
use Rattle.steps_base.specs.Profiles.{Profile, Hand, Of, hand}
use Rattle.steps_base.specs.Rows.{is_acting, taken_in_row, IsWaiting, HasClaimed, WasHanded, LetsIn, LetsInAt}
use Rattle.steps_base.specs.Rows.{IsDebtorIn, HasDebt, RowLooksAfter, RowIsLate, RowPromises, IsDowngrade}
use Rattle.steps_base.specs.Rows.{WakesAside, KnowsRights}
use Rattle.spec_locks.specs.Headline.{WakesWaiters, want_of}
use Rattle.spec_locks.specs.Locks.{Sort, Taken, Knows, wants_exclusive}
use Rattle.spec_locks.specs.Locks as sorts
use Rattle.spec_locks.specs.Purposes.{Purpose, Enters, Releases, Converts, Bumps, CallsOnce, Awaits, Waits}
use Rattle.spec_locks.specs.Purposes.{Notifies, MayWait, IsReleasing, lock_for, CondvarMemory}
use Rattle.spec_locks.specs.declared.calls.Patience.{Patience}
use Rattle.spec_locks.specs.declared.calls.Patience.TheVariants.{Try, Timed, Patient}
use Rattle.spec_locks.specs.Runs.{IsTimed}
use Rattle.spec_locks.specs.Sites.{Claim, Role, Has, Pends, counts_some, has_readers}

-- ---------------------------------------------------------------- the test of a row

-- tells what a thread does next, as far as its row must agree
pub data Going : Type 0 where
  Into : Line → Going
  HandsOver : Going
  Asleep : Going
  Other : Going

pub record IsOther (l : ℕ) (a : Act) : Type 0 where
  pub acts : is_acting a ≡ true
  pub awake : a ≢ Sleep
  pub elsewhere : (m : Line) → a ≢ Enter (One (key_of l m))

abbrev pub GoesAs : ℕ → Act → Going → Type 0
GoesAs l a (Into m) = a ≡ Enter (One (key_of l m))
GoesAs l a HandsOver = a ≡ Leave (One (2 * l)) (wakes.All note.HandOff)
GoesAs l a Asleep = a ≡ Sleep
GoesAs l a Other = IsOther l a

abbrev pub implies : Bool → Bool → Bool
implies a b = if a then b else true

abbrev pub is_line : Line → Option Line → Bool
is_line Main (Some Main) = true
is_line Second (Some Second) = true
is_line m x = false

abbrev pub no_line : Option Line → Bool
no_line None = true
no_line x = false

abbrev pub goes_into : Line → Going → Bool
goes_into Main (Into Main) = true
goes_into Second (Into Second) = true
goes_into m g = false

abbrev pub sleeps : Going → Bool
sleeps Asleep = true
sleeps g = false

abbrev pub hands_over : Going → Bool
hands_over HandsOver = true
hands_over g = false

abbrev pub is_try : Patience → Bool
is_try Try = true
is_try how = false

abbrev pub is_timed : Patience → Bool
is_timed Timed = true
is_timed how = false

abbrev pub may_wait : Purpose → Bool
may_wait (Enters l x how) = not (is_try how)
may_wait (Converts l x y how) = not (is_try how)
may_wait (Bumps l x) = true
may_wait (CallsOnce l forced) = true
may_wait (Awaits l forced timed) = true
may_wait q = false

abbrev pub has_deadline : Purpose → Bool
has_deadline (Enters l x how) = is_timed how
has_deadline (Converts l x y how) = is_timed how
has_deadline (Awaits l forced timed) = timed
has_deadline q = false

abbrev pub releases : Purpose → Bool → Bool
releases (Releases l x fair) released = true
releases (Bumps l x) released = not released
releases (CallsOnce l forced) released = released
releases q released = false

abbrev pub downgrades : Purpose → Bool
downgrades (Converts l x y how) = not (wants_exclusive y)
downgrades q = false

abbrev pub wakes_aside : Purpose → Line → Bool
wakes_aside (Bumps l w.Shared) Second = true
wakes_aside q m = false

abbrev pub is_upgradable : Want → Bool
is_upgradable w.Upgradable = true
is_upgradable x = false

abbrev pub wakes_waiters : Sort → Purpose → Bool → Bool
wakes_waiters sort (Releases k x fair) gave_up = not fair || is_upgradable x
wakes_waiters sort (Converts k x y how) gave_up = not (wants_exclusive y) || (gave_up && has_readers sort)
wakes_waiters sort (Enters k x how) gave_up = gave_up && has_readers sort
wakes_waiters sort (Bumps k x) gave_up = not (wants_exclusive x)
wakes_waiters sort (CallsOnce k forced) gave_up = true
wakes_waiters sort q gave_up = false

abbrev pub lets_in : Sort → Profile → Purpose → Bool
lets_in sort row q = releases q row.released ||
    (has_readers sort && (downgrades q || (row.gave_up && no_line row.role.inside)))

abbrev pub lets_in_at : Sort → Profile → Purpose → Line → Bool
lets_in_at sort row q m = lets_in sort row q || wakes_aside q m

abbrev pub is_taken : Option Taken → Bool
is_taken None = false
is_taken (Some x) = true

abbrev pub is_waiting : Profile → Bool
is_waiting row = not (no_line row.stands) || is_taken (taken_in_row row)

abbrev pub pends : Option Claim → Bool
pends (Some (Pends b)) = true
pends c = false

abbrev pub owns_alone : Option Claim → Bool
owns_alone (Some (Has w.Exclusive)) = true
owns_alone c = false

abbrev pub is_debtor_in : Sort → Role → Line → Bool
is_debtor_in sort d Main = is_line Main d.wakes || (d.owes_taken || counts_some sort d.retries)
is_debtor_in sort d Second = is_line Second d.wakes

abbrev pub has_debt : Sort → Profile → Purpose → Line → Bool
has_debt sort row q Main = (is_line Main row.owes && wakes_waiters sort q row.gave_up) ||
    (row.retries && counts_some sort (want_of (Some q)))
has_debt sort row q Second = is_line Second row.owes

abbrev pub looks_after : Sort → Profile → Purpose → Going → Line → Bool
looks_after sort row q g m = has_debt sort row q m &&
    (not (sleeps g) && (no_line row.stands && not (is_taken (taken_in_row row))))

abbrev pub told : Option Bool → Bool
told (Some true) = true
told x = false

abbrev pub is_handed : Option Hand → Bool
is_handed (Some (Of by true)) = true
is_handed x = false

abbrev pub same_want : Want → Want → Bool
same_want w.Exclusive w.Exclusive = true
same_want w.Upgradable w.Upgradable = true
same_want w.Shared w.Shared = true
same_want x y = false

abbrev pub has_claimed : Sort → Option Claim → Option Want → Bool
has_claimed sort (Some (Has x)) (Some y) = same_want x y
has_claimed sort (Some (Pends b)) (Some y) = wants_exclusive y && has_readers sort
has_claimed sort c x = false

abbrev pub was_handed : Sort → Profile → Purpose → Bool
was_handed sort row q = is_handed row.hand && (may_wait q && has_claimed sort row.role.claims
    (want_of (Some q)))

-- for one line
abbrev pub keeps_line : Sort → Profile → Purpose → Going → Line → Bool
keeps_line sort row q g m =
    implies (is_line m row.owes) (is_line m row.role.inside || (goes_into m g && lets_in_at sort row q m))
    && (implies (is_line m row.role.inside) (is_line m row.owes)
    && (implies (goes_into m g && lets_in_at sort row q m) (is_line m row.owes)
    && (implies (is_debtor_in sort row.role m) (owns_alone row.role.claims || looks_after sort row q g m)
    && (implies (is_line m row.late_line)
    (is_line m row.stands && (sleeps g && (has_deadline q && not (lets_in sort row q))))
    && implies (is_line m row.stands && (sleeps g && has_deadline q)) (is_line m row.late_line)))))

-- for one lock
abbrev pub is_single : Purpose → Bool
is_single (Waits l m timed) = false
is_single (Notifies l all) = false
is_single q = true

abbrev pub knows_right : Sort → Want → Bool
knows_right sorts.Mutex w.Exclusive = true
knows_right sorts.Normal w.Exclusive = true
knows_right sorts.Normal w.Upgradable = true
knows_right sorts.Normal w.Shared = true
knows_right sorts.Recursive w.Exclusive = true
knows_right sorts.Recursive w.Upgradable = true
knows_right sorts.Recursive w.Shared = true
knows_right sorts.Semaphore w.Shared = true
knows_right sort x = false

abbrev pub is_once : Sort → Bool
is_once sorts.Once = true
is_once sort = false

abbrev pub knows : Sort → Purpose → Bool
knows sort (Enters l x how) = knows_right sort x
knows sort (Releases l x fair) = knows_right sort x
knows sort (Converts l x y how) = knows_right sort x && knows_right sort y
knows sort (Bumps l x) = knows_right sort x
knows sort (CallsOnce l forced) = is_once sort
knows sort (Awaits l forced timed) = is_once sort
knows sort q = false

abbrev pub keeps_row : Sort → Profile → Purpose → Going → Bool
keeps_row sort row q g =
    is_single q && (knows sort q && (keeps_line sort row q g Main
    && (keeps_line sort row q g Second
    && (implies (is_waiting row) (may_wait q)
    && (implies (is_line Second row.stands) (pends row.role.claims)
    && (implies (is_line Second row.owes) (has_readers sort)
    && (implies (sleeps g) (is_waiting row || was_handed sort row q)
    && implies (told row.has_taken) (hands_over g && is_line Main row.role.inside))))))))

-- ---------------------------------------------------------------- what the test says

pub both : (a b : Bool) → (a && b) ≡ true → (a ≡ true) × (b ≡ true)
both true true h = (refl, refl)
both true false h = absurd cc
both false b h = absurd cc

either : (a b : Bool) → (a || b) ≡ true → (a ≡ true) ⊎ (b ≡ true)
either true b h = inl refl
either false true h = inr refl
either false false h = absurd cc

so : (a b : Bool) → implies a b ≡ true → a ≡ true → b ≡ true
so true b h e = h
so false b h e = absurd cc

line_is : (m : Line) (x : Option Line) → is_line m x ≡ true → x ≡ Some m
line_is Main (Some Main) h = refl
line_is Second (Some Second) h = refl
line_is Main (Some Second) h = absurd cc
line_is Second (Some Main) h = absurd cc
line_is Main None h = absurd cc
line_is Second None h = absurd cc

is_the_line : (m : Line) (x : Option Line) → x ≡ Some m → is_line m x ≡ true
is_the_line m x e = subst (λ y. is_line m y ≡ true) (sym e) (own m)
  where
    own : (m : Line) → is_line m (Some m) ≡ true
    own Main = refl
    own Second = refl

or_l : (a b : Bool) → a ≡ true → (a || b) ≡ true
or_l a b h = rw h refl

or_r : (a b : Bool) → b ≡ true → (a || b) ≡ true
or_r true b h = refl
or_r false b h = h

and_so : (a b : Bool) → a ≡ true → b ≡ true → (a && b) ≡ true
and_so a b h k = rw h k

no : (a : Bool) → not a ≡ true → a ≡ true → ⊥
no true h e = cc
no false h e = cc

none_is : (x : Option Line) → no_line x ≡ true → x ≡ None
none_is None h = refl
none_is (Some m) h = absurd cc

is_none : (x : Option Line) → x ≡ None → no_line x ≡ true
is_none x e = rw e refl

some_is : (x : Option Line) → x ≢ None → not (no_line x) ≡ true
some_is None n = absurd (n refl)
some_is (Some m) n = refl

not_none : (x : Option Line) → not (no_line x) ≡ true → x ≢ None
not_none None h e = cc
not_none (Some m) h e = cc

taken_is : (x : Option Taken) → x ≢ None → is_taken x ≡ true
taken_is None n = absurd (n refl)
taken_is (Some t) n = refl

is_taken_so : (x : Option Taken) → is_taken x ≡ true → x ≢ None
is_taken_so None h e = cc
is_taken_so (Some t) h e = cc

not_taken : (x : Option Taken) → not (is_taken x) ≡ true → x ≡ None
not_taken None h = refl
not_taken (Some t) h = absurd cc

pends_so : (c : Option Claim) → pends c ≡ true → (b : Bool) × (c ≡ Some (Pends b))
pends_so (Some (Pends b)) h = (b, refl)
pends_so (Some c) h = absurd cc
pends_so None h = absurd cc

alone_so : (c : Option Claim) → owns_alone c ≡ true → c ≡ Some (Has w.Exclusive)
alone_so (Some (Has w.Exclusive)) h = refl
alone_so (Some (Has x)) h = absurd cc
alone_so (Some c) h = absurd cc
alone_so None h = absurd cc

knows_right_so : (s : Sort) (x : Want) → knows_right s x ≡ true → Knows s x
knows_right_so sorts.Mutex w.Exclusive h = tt
knows_right_so sorts.Normal w.Exclusive h = tt
knows_right_so sorts.Normal w.Upgradable h = tt
knows_right_so sorts.Normal w.Shared h = tt
knows_right_so sorts.Recursive w.Exclusive h = tt
knows_right_so sorts.Recursive w.Upgradable h = tt
knows_right_so sorts.Recursive w.Shared h = tt
knows_right_so sorts.Semaphore w.Shared h = tt
knows_right_so s x h = absurd cc

once_so : (s : Sort) → is_once s ≡ true → s ≡ sorts.Once
once_so sorts.Once h = refl
once_so s h = absurd cc

knows_so : (s : Sort) (q : Purpose) (of : ℕ → Sort) → knows s q ≡ true → of (lock_for q) ≡ s
    → KnowsRights of (Some q)
knows_so s (Enters l x how) of h e = rw e (knows_right_so s x h)
knows_so s (Releases l x fair) of h e = rw e (knows_right_so s x h)
knows_so s (Converts l x y how) of h e = let k : (knows_right s x ≡ true) × (knows_right s y ≡ true) =
    both (knows_right s x) (knows_right s y) h in rw e (knows_right_so s x k.0, knows_right_so s y k.1)
knows_so s (Bumps l x) of h e = rw e (knows_right_so s x h)
knows_so s (CallsOnce l forced) of h e = e ∙ once_so s h
knows_so s (Awaits l forced timed) of h e = e ∙ once_so s h
knows_so s q of h e = absurd cc

may_wait_so : (q : Purpose) → may_wait q ≡ true → MayWait (Some q) (lock_for q)
may_wait_so (Enters l x Patient) h = (refl, λ e. cc)
may_wait_so (Enters l x Timed) h = (refl, λ e. cc)
may_wait_so (Enters l x Try) h = absurd cc
may_wait_so (Converts l x y Patient) h = (refl, λ e. cc)
may_wait_so (Converts l x y Timed) h = (refl, λ e. cc)
may_wait_so (Converts l x y Try) h = absurd cc
may_wait_so (Bumps l x) h = refl
may_wait_so (CallsOnce l forced) h = refl
may_wait_so (Awaits l forced timed) h = refl
may_wait_so q h = absurd cc

timed_is : (how : Patience) → is_timed how ≡ true → how ≡ Timed
timed_is Timed h = refl
timed_is how h = absurd cc

deadline_so : (q : Purpose) (r : CondvarMemory) → has_deadline q ≡ true → IsTimed (Some q) r (lock_for q)
deadline_so (Enters l x how) r h = (refl, timed_is how h)
deadline_so (Converts l x y how) r h = (refl, timed_is how h)
deadline_so (Awaits l forced timed) r h = (refl, h)
deadline_so q r h = absurd cc

has_a_deadline : (q : Purpose) (r : CondvarMemory) (k : ℕ) → is_single q ≡ true → IsTimed (Some q) r k
    → has_deadline q ≡ true
has_a_deadline (Enters l x how) r k one h = rw (h.1) refl
has_a_deadline (Converts l x y how) r k one h = rw (h.1) refl
has_a_deadline (Awaits l forced timed) r k one h = h.1
has_a_deadline (Waits l m timed) r k one h = absurd cc
has_a_deadline q r k one h = absurd h

releases_so : (q : Purpose) (b : Bool) → releases q b ≡ true → IsReleasing (Some q) b (lock_for q)
releases_so (Releases l x fair) b h = refl
releases_so (Bumps l x) false h = (refl, refl)
releases_so (Bumps l x) true h = absurd cc
releases_so (CallsOnce l forced) b h = (refl, h)
releases_so q b h = absurd cc

releasing : (q : Purpose) (b : Bool) (k : ℕ) → is_single q ≡ true → IsReleasing (Some q) b k
    → releases q b ≡ true
releasing (Releases l x fair) b k one h = refl
releasing (Bumps l x) b k one h = rw (h.1) refl
releasing (CallsOnce l forced) b k one h = h.1
releasing (Waits l m timed) b k one h = absurd cc
releasing q b k one h = absurd h

alone_not : (x : Want) → not (wants_exclusive x) ≡ true → x ≢ w.Exclusive
alone_not w.Exclusive h e = cc
alone_not x h e = cc

not_alone : (x : Want) → x ≢ w.Exclusive → not (wants_exclusive x) ≡ true
not_alone w.Exclusive n = absurd (n refl)
not_alone x n = refl

downgrades_so : (q : Purpose) → downgrades q ≡ true → IsDowngrade (Some q) (lock_for q)
downgrades_so (Converts l x y how) h = (refl, alone_not y h)
downgrades_so q h = absurd cc

downgrading : (q : Purpose) (k : ℕ) → IsDowngrade (Some q) k → downgrades q ≡ true
downgrading (Converts l x y how) k h = not_alone y h.1
downgrading q k h = absurd h

aside_so : (q : Purpose) (m : Line) → wakes_aside q m ≡ true → WakesAside (Some q) (lock_for q) m
aside_so (Bumps l w.Shared) Second h = refl
aside_so (Bumps l x) Second h = absurd cc
aside_so q m h = absurd cc

aside_is : (q : Purpose) (k : ℕ) (m : Line) → WakesAside (Some q) k m → wakes_aside q m ≡ true
aside_is q k Main h = absurd h
aside_is (Bumps l w.Shared) k Second h = refl
aside_is (Bumps l x) k Second h = absurd h
aside_is q k Second h = absurd h

upgradable_is : (x : Want) → is_upgradable x ≡ true → x ≡ w.Upgradable
upgradable_is w.Upgradable h = refl
upgradable_is x h = absurd cc

false_is : (b : Bool) → not b ≡ true → b ≡ false
false_is true h = absurd cc
false_is false h = refl

wakes_so : (s : Sort) (q : Purpose) (b : Bool) (c : CondvarMemory) → wakes_waiters s q b ≡ true
    → WakesWaiters s (Some q) (if b then Some (lock_for q) else None) c (lock_for q)
wakes_so s (Releases k x fair) b c h = (
  refl,
  elim (either (not fair) (is_upgradable x) h) [
    | inl f ↦ inl (false_is fair f)
    | inr u ↦
        inr (upgradable_is x u)
  ],
)
wakes_so s (Converts k x y how) b c h = (
  refl,
  elim (either (not (wants_exclusive y)) (b && has_readers s) h) [
    | inl f ↦ inl (alone_not y f)
    | inr g ↦ let r : (b ≡ true) × (has_readers s ≡ true) = both b (has_readers s) g
        in inr (rw (r.0) refl, r.1)
  ],
)
wakes_so s (Enters k x how) b c h = let r : (b ≡ true) × (has_readers s ≡ true) = both b (has_readers s) h
    in (refl, rw (r.0) refl, r.1)
wakes_so s (Bumps k x) b c h = (refl, alone_not x h)
wakes_so s (CallsOnce k forced) b c h = refl
wakes_so s q b c h = absurd cc

asleep_is : (l : ℕ) (a : Act) (g : Going) → GoesAs l a g → a ≡ Sleep → sleeps g ≡ true
asleep_is l a Asleep goes e = refl
asleep_is l a (Into m) goes e = let f : Enter (One (key_of l m)) ≡ Sleep = sym goes ∙ e in absurd cc
asleep_is l a HandsOver goes e = let f : Leave (One (2 * l)) (wakes.All note.HandOff) ≡ Sleep =
    sym goes ∙ e in absurd cc
asleep_is l a Other goes e = absurd (goes.awake e)

sleeps_so : (l : ℕ) (a : Act) (g : Going) → GoesAs l a g → sleeps g ≡ true → a ≡ Sleep
sleeps_so l a Asleep goes h = goes
sleeps_so l a g goes h = absurd cc

into_so : (l : ℕ) (a : Act) (g : Going) (m : Line) → GoesAs l a g → goes_into m g ≡ true → a
    ≡ Enter (One (key_of l m))
into_so l a (Into Main) Main goes h = goes
into_so l a (Into Second) Second goes h = goes
into_so l a (Into Main) Second goes h = absurd cc
into_so l a (Into Second) Main goes h = absurd cc
into_so l a g Main goes h = absurd cc
into_so l a g Second goes h = absurd cc

apart : (l : ℕ) → Enter (One (2 * l)) ≡ Enter (One (2 * l + 1)) → ⊥
apart l h = let e : 2 * l ≡ 2 * l + 1 = cc in omega arith

into_is : (l : ℕ) (a : Act) (g : Going) (m : Line) → GoesAs l a g → a ≡ Enter (One (key_of l m))
    → goes_into m g ≡ true
into_is l a (Into Main) Main goes e = refl
into_is l a (Into Second) Second goes e = refl
into_is l a (Into Main) Second goes e = absurd (apart l (sym goes ∙ e))
into_is l a (Into Second) Main goes e = absurd (apart l (sym e ∙ goes))
into_is l a HandsOver m goes e = let f : Leave (One (2 * l)) (wakes.All note.HandOff)
    ≡ Enter (One (key_of l m)) = sym goes ∙ e in absurd cc
into_is l a Asleep m goes e = let f : Sleep ≡ Enter (One (key_of l m)) = sym goes ∙ e in absurd cc
into_is l a Other m goes e = absurd (goes.elsewhere m e)

acts_so : (l : ℕ) (a : Act) (g : Going) → GoesAs l a g → is_acting a ≡ true
acts_so l a (Into m) goes = rw goes refl
acts_so l a HandsOver goes = rw goes refl
acts_so l a Asleep goes = rw goes refl
acts_so l a Other goes = goes.acts

over_so : (l : ℕ) (a : Act) (g : Going) → GoesAs l a g → hands_over g ≡ true
    → a ≡ Leave (One (2 * l)) (wakes.All note.HandOff)
over_so l a HandsOver goes h = goes
over_so l a g goes h = absurd cc

handed_by : (x : Option Hand) → is_handed x ≡ true → (by : ℕ) × (x ≡ hand by true)
handed_by (Some (Of by true)) h = (by, refl)
handed_by (Some (Of by false)) h = absurd cc
handed_by None h = absurd cc

same_is : (x y : Want) → same_want x y ≡ true → x ≡ y
same_is w.Exclusive w.Exclusive h = refl
same_is w.Upgradable w.Upgradable h = refl
same_is w.Shared w.Shared h = refl
same_is x y h = absurd cc

exclusive_is : (x : Want) → wants_exclusive x ≡ true → x ≡ w.Exclusive
exclusive_is w.Exclusive h = refl
exclusive_is x h = absurd cc

claimed_so : (s : Sort) (c : Option Claim) (x : Option Want) → has_claimed s c x ≡ true → (y : Want)
    × (x ≡ Some y) × HasClaimed s c y
claimed_so s (Some (Has x)) (Some y) h = (y, refl, inl (ap (λ z. Some (Has z)) (same_is x y h)))
claimed_so s (Some (Pends b)) (Some y) h = let k : (wants_exclusive y ≡ true) × (has_readers s ≡ true) =
    both _ _ h in (y, refl, inr (exclusive_is y k.0, k.1, (b, refl)))
claimed_so s c x h = absurd cc

told_is : (x : Option Bool) → x ≡ Some true → told x ≡ true
told_is x e = rw e refl

-- ------------------------------------------------------- a row that passes the test owes what is promised

module _ (sort : Sort) (l : ℕ) (row : Profile) (a : Act) (g : Going) (own : lock_for (row.purpose l) ≡ l)
    (goes : GoesAs l a g) where
  single_of : keeps_row sort row (row.purpose l) g ≡ true → is_single (row.purpose l) ≡ true
  single_of h = (both _ _ h).0

  lets_so : lets_in sort row (row.purpose l) ≡ true → LetsIn sort l row
  lets_so h = elim (either (releases (row.purpose l) row.released) _ h) [
    | inl r ↦ inl (subst (λ k. IsReleasing (Some (row.purpose l)) row.released k) own
        (releases_so (row.purpose l) row.released r))
    | inr s ↦ let p : (has_readers sort ≡ true)
        × ((downgrades (row.purpose l) || (row.gave_up && no_line row.role.inside)) ≡ true) = both _ _ s in
        inr (
          p.0,
          elim (either (downgrades (row.purpose l)) _ p.1) [
            | inl d ↦ inl (subst (λ k. IsDowngrade (Some (row.purpose l)) k) own
                (downgrades_so (row.purpose l) d))
            | inr u ↦ let v : (row.gave_up ≡ true) × (no_line row.role.inside ≡ true) = both _ _ u
                in inr (v.0, none_is row.role.inside v.1)
          ],
        )
  ]

  lets_is : is_single (row.purpose l) ≡ true → LetsIn sort l row → lets_in sort row (row.purpose l) ≡ true
  lets_is one (inl r) = or_l _ _ (releasing (row.purpose l) row.released l one r)
  lets_is one (inr s) = or_r _ _ (and_so _ _ s.0 (elim s.1 [
    | inl d ↦ or_l _ _ (downgrading (row.purpose l) l d)
    | inr u ↦ or_r (downgrades (row.purpose l)) _ (and_so _ _ u.0 (is_none row.role.inside u.1))
  ]))

  lets_at_so : (m : Line) → lets_in_at sort row (row.purpose l) m ≡ true → LetsInAt sort l row m
  lets_at_so m h = elim (either (lets_in sort row (row.purpose l)) _ h) [
    | inl r ↦ inl (lets_so r)
    | inr s ↦ inr (subst (λ k. WakesAside (Some (row.purpose l)) k m) own (aside_so (row.purpose l) m s))
  ]

  lets_at_is : is_single (row.purpose l) ≡ true → (m : Line) → LetsInAt sort l row m
      → lets_in_at sort row (row.purpose l) m ≡ true
  lets_at_is one m (inl r) = or_l _ _ (lets_is one r)
  lets_at_is one m (inr s) = or_r (lets_in sort row (row.purpose l)) _ (aside_is (row.purpose l) l m s)

  debtor_is : (m : Line) → IsDebtorIn sort row.role m → is_debtor_in sort row.role m ≡ true
  debtor_is Main (inl e) = or_l _ _ (is_the_line Main row.role.wakes e)
  debtor_is Main (inr (inl e)) = or_r (is_line Main row.role.wakes) _ (or_l _ _ e)
  debtor_is Main (inr (inr e)) = or_r (is_line Main row.role.wakes) _ (or_r row.role.owes_taken _ e)
  debtor_is Second e = is_the_line Second row.role.wakes e

  debt_so : (m : Line) → has_debt sort row (row.purpose l) m ≡ true → HasDebt sort l row m
  debt_so Main h = elim (either _ _ h) [
    | inl r ↦ let p : (is_line Main row.owes ≡ true) × (wakes_waiters sort (row.purpose l) row.gave_up
        ≡ true) = both _ _ r in
        inl (
          line_is Main row.owes p.0,
          subst (λ k. WakesWaiters sort (Some (row.purpose l)) (if row.gave_up then Some k else None)
              row.recalls k) own (wakes_so sort (row.purpose l) row.gave_up row.recalls p.1),
        )
    | inr s ↦ inr (both _ _ s)
  ]
  debt_so Second h = line_is Second row.owes h

  waiting_so : is_waiting row ≡ true → IsWaiting row
  waiting_so h = elim (either _ _ h) [
    | inl r ↦ inl (not_none row.stands r)
    | inr s ↦
        inr (is_taken_so (taken_in_row row) s)
  ]

  waiting_is : IsWaiting row → is_waiting row ≡ true
  waiting_is (inl n) = or_l _ _ (some_is row.stands n)
  waiting_is (inr n) = or_r (not (no_line row.stands)) _ (taken_is (taken_in_row row) n)

  handed_so : was_handed sort row (row.purpose l) ≡ true → WasHanded sort l row
  handed_so h =
      let p : (is_handed row.hand ≡ true)
      × ((may_wait (row.purpose l) && has_claimed sort row.role.claims (want_of (Some (row.purpose l))))
      ≡ true) = both _ _ h in
      let r : (may_wait (row.purpose l) ≡ true)
      × (has_claimed sort row.role.claims (want_of (Some (row.purpose l))) ≡ true) = both _ _ p.1 in
      let b : (by : ℕ) × (row.hand ≡ hand by true) = handed_by row.hand p.0 in
      let c : (x : Want) × (want_of (Some (row.purpose l)) ≡ Some x) × HasClaimed sort row.role.claims x =
      claimed_so sort row.role.claims (want_of (Some (row.purpose l))) r.1 in
      record {
        by = b.0;
        in_hand = b.1;
        waited = subst (λ k. MayWait (Some (row.purpose l)) k) own (may_wait_so (row.purpose l) r.0);
        want = c.0;
        wants = c.1;
        has = c.2;
      }

  -- tells what the test says, part by part
  record Tested : Type 0 where
    single : is_single (row.purpose l) ≡ true
    knows : knows sort (row.purpose l) ≡ true
    line : (m : Line) → keeps_line sort row (row.purpose l) g m ≡ true
    waits : implies (is_waiting row) (may_wait (row.purpose l)) ≡ true
    aside : implies (is_line Second row.stands) (pends row.role.claims) ≡ true
    second : implies (is_line Second row.owes) (has_readers sort) ≡ true
    asleep : implies (sleeps g) (is_waiting row || was_handed sort row (row.purpose l)) ≡ true
    tells : implies (told row.has_taken) (hands_over g && is_line Main row.role.inside) ≡ true

  parts : keeps_row sort row (row.purpose l) g ≡ true → Tested
  parts h =
      let a1 = both (is_single (row.purpose l)) _ h in
      let a2 = both (knows sort (row.purpose l)) _ a1.1 in
      let a3 = both (keeps_line sort row (row.purpose l) g Main) _ a2.1 in
      let a4 = both (keeps_line sort row (row.purpose l) g Second) _ a3.1 in
      let a5 = both (implies (is_waiting row) (may_wait (row.purpose l))) _ a4.1 in
      let a6 = both (implies (is_line Second row.stands) (pends row.role.claims)) _ a5.1 in
      let a7 = both (implies (is_line Second row.owes) (has_readers sort)) _ a6.1 in
      let a8 = both (implies (sleeps g) (is_waiting row || was_handed sort row (row.purpose l))) _ a7.1 in
      record {
        single = a1.0;
        knows = a2.0;
        line = lines a3.0 a4.0;
        waits = a5.0;
        aside = a6.0;
        second = a7.0;
        asleep = a8.0;
        tells = a8.1;
      }
    where
      lines : keeps_line sort row (row.purpose l) g Main ≡ true → keeps_line sort row (row.purpose l) g Second
          ≡ true
          → (m : Line) → keeps_line sort row (row.purpose l) g m ≡ true
      lines x y Main = x
      lines x y Second = y

  record LineTested (m : Line) : Type 0 where
    owes : implies (is_line m row.owes)
        (is_line m row.role.inside || (goes_into m g && lets_in_at sort row (row.purpose l) m)) ≡ true
    inside : implies (is_line m row.role.inside) (is_line m row.owes) ≡ true
    entering : implies (goes_into m g && lets_in_at sort row (row.purpose l) m) (is_line m row.owes) ≡ true
    debtor : implies (is_debtor_in sort row.role m) (owns_alone row.role.claims || looks_after sort row
        (row.purpose l) g m) ≡ true
    late : implies (is_line m row.late_line)
        (is_line m row.stands && (sleeps g && (has_deadline (row.purpose l) && not
        (lets_in sort row (row.purpose l))))) ≡ true
    may_be_late : implies (is_line m row.stands && (sleeps g && has_deadline (row.purpose l)))
        (is_line m row.late_line) ≡ true

  line_parts : (m : Line) → keeps_line sort row (row.purpose l) g m ≡ true → LineTested m
  line_parts m h =
      let b1 = both (implies (is_line m row.owes) (is_line m row.role.inside ||
      (goes_into m g && lets_in_at sort row (row.purpose l) m))) _ h in
      let b2 = both (implies (is_line m row.role.inside) (is_line m row.owes)) _ b1.1 in
      let b3 = both (implies (goes_into m g && lets_in_at sort row (row.purpose l) m) (is_line m row.owes)) _
      b2.1 in
      let b4 = both (implies (is_debtor_in sort row.role m) (owns_alone row.role.claims || looks_after sort
      row (row.purpose l) g m)) _ b3.1 in
      let b5 = both (implies (is_line m row.late_line) (is_line m row.stands &&
      (sleeps g && (has_deadline (row.purpose l) && not (lets_in sort row (row.purpose l)))))) _ b4.1 in
      record { owes = b1.0; inside = b2.0; entering = b3.0; debtor = b4.0; late = b5.0; may_be_late = b5.1 }

  pub by_test : keeps_row sort row (row.purpose l) g ≡ true → RowPromises sort l row a
  by_test h = record {
    own = own;
    acts = acts_so l a g goes;
    waits = λ w. subst (λ k. MayWait (Some (row.purpose l)) k) own (may_wait_so (row.purpose l)
        (so _ _ t.waits (waiting_is w)));
    known = λ of e. knows_so sort (row.purpose l) of t.knows (ap of own ∙ e);
    aside = λ e. pends_so row.role.claims (so _ _ t.aside (is_the_line Second row.stands e));
    owing = record {
      owes = owed;
      inside = λ m e. line_is m row.owes (so _ _ (of m).inside (is_the_line m row.role.inside e));
      entering = λ m e lets. line_is m row.owes
          (so _ _ (of m).entering (and_so _ _ (into_is l a g m goes e) (lets_at_is t.single m lets)));
      second = λ e. so _ _ t.second (is_the_line Second row.owes e);
    };
    debtor = pays;
    asleep = λ e. elim (either (is_waiting row) _ (so _ _ t.asleep (asleep_is l a g goes e))) [
      | inl x ↦
          inl (waiting_so x)
      | inr x ↦ inr (handed_so x)
    ];
    tells = λ e. let k : (hands_over g ≡ true) × (is_line Main row.role.inside ≡ true) =
        both _ _ (so _ _ t.tells (told_is row.has_taken e))
        in (over_so l a g goes k.0, line_is Main row.role.inside k.1);
    late = is_late;
    may_be_late = λ m e s timed. line_is m row.late_line
        (so _ _ (of m).may_be_late (and_so _ _ (is_the_line m row.stands e)
        (and_so _ _ (asleep_is l a g goes s) (has_a_deadline (row.purpose l) row.recalls l t.single timed))));
  }
    where
      t : Tested
      t = parts h

      of : (m : Line) → LineTested m
      of m = line_parts m (t.line m)

      owed : (m : Line) → row.owes ≡ Some m → (row.role.inside ≡ Some m) ⊎ ((a ≡ Enter (One (key_of l m)))
          × LetsInAt sort l row m)
      owed m e = elim (either (is_line m row.role.inside) _ (so _ _ (of m).owes (is_the_line m row.owes e))) [
        | inl i ↦ inl (line_is m row.role.inside i)
        | inr r ↦ let k : (goes_into m g ≡ true) × (lets_in_at sort row (row.purpose l) m ≡ true) = both _ _ r
            in inr (into_so l a g m goes k.0, lets_at_so m k.1)
      ]

      looks : (m : Line) → looks_after sort row (row.purpose l) g m ≡ true → RowLooksAfter sort l row a m
      looks m x =
          let p : (has_debt sort row (row.purpose l) m ≡ true)
          × ((not (sleeps g) && (no_line row.stands && not (is_taken (taken_in_row row)))) ≡ true) =
          both _ _ x in
          let r : (not (sleeps g) ≡ true) × ((no_line row.stands && not (is_taken (taken_in_row row)))
          ≡ true) = both _ _ p.1 in
          let s : (no_line row.stands ≡ true) × (not (is_taken (taken_in_row row)) ≡ true) = both _ _ r.1 in
          record {
            debt = debt_so m p.0;
            awake = λ e. no (sleeps g) r.0 (asleep_is l a g goes e);
            stands = none_is row.stands s.0;
            taken = not_taken (taken_in_row row) s.1;
          }

      pays : (m : Line) → IsDebtorIn sort row.role m → (row.role.claims ≡ Some (Has w.Exclusive) → ⊥)
          → RowLooksAfter sort l row a m
      pays m d free = elim (either (owns_alone row.role.claims) _ (so _ _ (of m).debtor (debtor_is m d))) [
        | inl x ↦ absurd (free (alone_so row.role.claims x))
        | inr x ↦ looks m x
      ]

      is_late : (m : Line) → row.late_line ≡ Some m → RowIsLate sort l row a m
      is_late m e =
          let p : (is_line m row.stands ≡ true)
          × ((sleeps g && (has_deadline (row.purpose l) && not (lets_in sort row (row.purpose l))))
          ≡ true) = both _ _ (so _ _ (of m).late (is_the_line m row.late_line e)) in
          let r : (sleeps g ≡ true) × ((has_deadline (row.purpose l) && not
          (lets_in sort row (row.purpose l))) ≡ true) = both _ _ p.1 in
          let s : (has_deadline (row.purpose l) ≡ true) × (not (lets_in sort row (row.purpose l)) ≡ true) =
          both _ _ r.1 in
          record {
            stands = line_is m row.stands p.0;
            asleep = sleeps_so l a g goes r.0;
            timed = subst (λ k. IsTimed (Some (row.purpose l)) row.recalls k) own
                (deadline_so (row.purpose l) row.recalls s.0);
            shut = λ lets. no (lets_in sort row (row.purpose l)) s.1 (lets_is t.single lets);
          }
