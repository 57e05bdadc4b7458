-- The places whose call has counted those that its thread has in hand: a thread comes to one by its own step
-- alone, and none of them is in a hand.
use Rattle.lot_laws.proofs.Imports
use Imports.{ℕ, Bool, true, false, Option, Some, None, if◌then◌else◌, ◌==◌, ◌≡◌, refl, sym, ◌∙◌, ap, subst}
use Imports.{eqb-true, SemaphorePlace, semaphore_respin, semaphore_next, Access, Call, RwLockCall, Patience}
use Imports.{Kind, Next, Reply, in_hand, MutexPlace, mutex_respin, mutex_next, Admission, RwLockPlace}
use Imports.{RwLockAt, RwLockPurpose, rwlock_next, rwlock_respin, RwLockCallPlace, Plain, PeekQueue, HandOver}
use Imports.{Bump, Handed, HandOverAt, HandedAt, call_first, release_first, in_hand_of, in_call, any_taken}
use Imports.{bump_ended, bump_next, call_next, entering, given, gives_up_at, gives_way, glances, hand_over_next}
use Imports.{handed_by, handed_next, handed_woken, plain_next, unless_given, woken_with, OncePlace}
use Imports.{once_respin, once_next, CondvarPlace, condvar_next, condvar_respin, Place, Idle, Mutex, RwLock}
use Imports.{Once, Condvar, Semaphore, first_place, in_mutex, in_once, in_rwlock, late_key, respins_from}
use Imports.{mutex_goes}
use Imports.{next_place, once_goes, rwlock_goes, condvar_goes, in_condvar, in_semaphore, semaphore_goes, State}
use Imports.{held, place_at, AreCounted, IsCountOfHand, carried_at, nowhere, location}
use Rattle.core_base.specs.declared.notes.Note.TheVariants as note
use Rattle.spec_locks.specs.declared.calls.Access.TheVariants as access
use Rattle.spec_locks.specs.declared.calls.Call.TheVariants as call
use Rattle.spec_locks.specs.declared.calls.RwLockCall.TheVariants as rwlock_call
use Rattle.spec_locks.specs.declared.outcomes.Answer.TheVariants as answer
use Rattle.steps_base.specs.declared.acts.Next.TheVariants as next
use Rattle.steps_base.specs.declared.acts.Reply.TheVariants as reply
use Rattle.steps_rwlock.specs.declared.places.RwLockAt.TheVariants as at
use Rattle.steps_rwlock.specs.declared.park.ParkAt.TheVariants as parking
use Rattle.steps_rwlock.specs.declared.purposes.RwLockPurpose.TheVariants as purpose
use Rattle.steps_rwlock_fair.specs.declared.hand_over.Taken.{Taken as Counted}
use Rattle.steps_rwlock_fair.specs.declared.hand_over.HandOverAt.TheVariants as handing
use Rattle.steps_rwlock_fair.specs.declared.handed.HandedAt.TheVariants as handed
use Rattle.lot_laws.proofs.machine.Parts.{IsOf, same}
use Rattle.lot_laws.proofs.promises.RowPromises.{Befalls}

-- tells what a place has counted of those that its thread has in hand, to hand them the lock
abbrev pub counted_on : Place → ℕ → Option Counted
counted_on Idle l = None
counted_on (Mutex j at) l = None
counted_on (RwLock j a c) l = if j == l then in_hand_of c else None
counted_on (Once j at) l = None
counted_on (Semaphore j at) l = None
counted_on (Condvar j at) l = None

-- How a call counts where it goes on.
abbrev pub counted_next : Next RwLockCallPlace → Option Counted
counted_next (next.At c) = in_hand_of c
counted_next (next.End answer) = None

pub nothing : (b : Bool) → ◌≡◌ {A = Option Counted} (if b then None else None) None
nothing true = refl
nothing false = refl

pub goes_counted : (l j : ℕ) (a : Admission) (n : Next RwLockCallPlace)
    → counted_on (rwlock_goes j a n) l ≡ (if j == l then counted_next n else None)
goes_counted l j a (next.At c) = refl
goes_counted l j a (next.End answer) = sym (nothing (j == l))

pub mutex_counted : (l j : ℕ) (n : Next MutexPlace) → counted_on (mutex_goes j n) l ≡ None
mutex_counted l j (next.At c) = refl
mutex_counted l j (next.End answer) = refl

pub once_counted : (l j : ℕ) (n : Next OncePlace) → counted_on (once_goes j n) l ≡ None
once_counted l j (next.At c) = refl
once_counted l j (next.End answer) = refl

pub semaphore_counted : (l j : ℕ) (n : Next SemaphorePlace) → counted_on (semaphore_goes j n) l ≡ None
semaphore_counted l j (next.At c) = refl
semaphore_counted l j (next.End answer) = refl

pub condvar_counted : (l j : ℕ) (n : Next CondvarPlace) → counted_on (condvar_goes j n) l ≡ None
condvar_counted l j (next.At c) = refl
condvar_counted l j (next.End answer) = refl

-- a thread that has counted is in a call of a reader-writer lock
pub record IsCounting (l : ℕ) (k : Counted) (p : Place) : Type 0 where
  pub admission : Admission
  pub call : RwLockCallPlace
  pub is : p ≡ RwLock l admission call
  pub counted : in_hand_of call ≡ Some k

pub counting : (l : ℕ) (k : Counted) (p : Place) → counted_on p l ≡ Some k → IsCounting l k p
counting l k Idle e = absurd cc
counting l k (Mutex j at) e = absurd cc
counting l k (Once j at) e = absurd cc
counting l k (Semaphore j at) e = absurd cc
counting l k (Condvar j at) e = absurd cc
counting l k (RwLock j a c) e = either (j == l) refl e
  where
    either : (b : Bool) → (j == l) ≡ b → (if b then in_hand_of c else None) ≡ Some k
        → IsCounting l k (RwLock j a c)
    either true here f = record {
      admission = a;
      call = c;
      is = ap (λ n. RwLock n a c) (eqb-true j l here);
      counted = f;
    }
    either false here f = absurd cc

pub counts_there : (w : State) (t l : ℕ) (k : Counted) → AreCounted w → counted_on (place_at w t) l ≡ Some k
    → IsCountOfHand w t k
counts_there w t l k counted e = let h = counting l k (place_at w t) e in counted t l h.admission h.call k
    h.is h.counted

pub are_counted : (w : State) → ((t l : ℕ) (k : Counted) → counted_on (place_at w t) l ≡ Some k
    → IsCountOfHand w t k) → AreCounted w
are_counted w each t l a c k is counted = each t l k (ap (λ p. counted_on p l) is
    ∙ ap (λ b. if b then in_hand_of c else None) (same l) ∙ counted)

pub none_is : (k : Counted) (o : Option Counted) → o ≡ None → o ≡ Some k → ⊥
none_is k o e f = let g : ◌≡◌ {A = Option Counted} None (Some k) = sym e ∙ f in cc

-- ---------------------------------------------------------------- such a place's fields, of its thread

pub record HasCounted (l : ℕ) (p : Place) : Type 0 where
  pub of : IsOf l p
  -- the thread is in nobody's hand
  pub unheld : held p ≡ None
  -- a thread that it has in hand it has handed nothing yet
  pub any : Bool
  pub has_taken : carried_at p l ≡ in_hand any false

has_counted : (l : ℕ) (k : Counted) (a : Admission) (c : RwLockCallPlace) → in_hand_of c ≡ Some k
    → HasCounted l (RwLock l a c)
has_counted l k a (HandOver x b (handing.Store m)) e = record {
  of = refl;
  unheld = refl;
  any = any_taken m;
  has_taken = ap (λ y. (if y then location (RwLock l a (HandOver x b (handing.Store m))) else nowhere).has_taken)
      (same l);
}
has_counted l k a (HandOver x b (handing.Look m)) e = record {
  of = refl;
  unheld = refl;
  any = any_taken m;
  has_taken = ap (λ y. (if y then location (RwLock l a (HandOver x b (handing.Look m))) else nowhere).has_taken)
      (same l);
}
has_counted l k a (HandOver x b (handing.Exchange m seen)) e = record {
  of = refl;
  unheld = refl;
  any = any_taken m;
  has_taken = ap (λ y. (if y then location (RwLock l a (HandOver x b (handing.Exchange m seen)))
      else nowhere).has_taken) (same l);
}
has_counted l k a (HandOver x b to) e = absurd cc
has_counted l k a c e = absurd cc

pub counting_row : (l : ℕ) (k : Counted) (p : Place) → counted_on p l ≡ Some k → HasCounted l p
counting_row l k p e = let h = counting l k p e in subst (HasCounted l) (sym h.is)
    (has_counted l k h.admission h.call h.counted)

-- ---------------------------------------------------------------- places of calls that don't hand over

entering_bare : (b : Bool) (p : RwLockPlace) → in_hand_of (entering b p) ≡ None
entering_bare true p = refl
entering_bare false p = refl

woken_bare : (x : Access) (how : Patience) (b alone : Bool) → in_hand_of (handed_woken x how b alone) ≡ None
woken_bare access.Exclusive how b true = refl
woken_bare access.Exclusive how b false = entering_bare b _
woken_bare access.Shared how b alone = refl
woken_bare access.Upgradable how b alone = refl

given_bare : (b : Bool) (p : RwLockPlace) (r : Reply) (c : RwLockCallPlace) → given b p r ≡ Some c
    → in_hand_of c ≡ None
given_bare b p (reply.HandedBy u alone) c e = by_place p.purpose p.at e
  where
    by_place : (q : RwLockPurpose) (to : RwLockAt) → handed_by b q to u alone ≡ Some c → in_hand_of c ≡ None
    by_place (purpose.Enter x how) (at.Park (parking.Taken v)) e =
        let f : Handed x how b (handed.Asleep u alone) ≡ c = cc
        in subst (λ (d : RwLockCallPlace). in_hand_of d ≡ None) f refl
    by_place (purpose.Enter x how) (at.Park to) e = absurd cc
    by_place q to e = absurd cc
given_bare b p (reply.Woken note.HandOff) c e = by_place p.purpose p.at e
  where
    by_place : (q : RwLockPurpose) (to : RwLockAt) → woken_with b q to ≡ Some c → in_hand_of c ≡ None
    by_place (purpose.Enter x how) (at.Park parking.Asleep) e = let f : handed_woken x how b false ≡ c = cc
        in subst (λ (d : RwLockCallPlace). in_hand_of d ≡ None) f (woken_bare x how b false)
    by_place (purpose.Enter x how) (at.Park to) e = absurd cc
    by_place q to e = absurd cc
given_bare b p (reply.Woken n) c e = absurd cc
given_bare b p r c e = absurd cc

unless_given_bare : (o : Option RwLockCallPlace) (n : Next RwLockCallPlace)
    → ((c : RwLockCallPlace) → o ≡ Some c → in_hand_of c ≡ None) → counted_next n ≡ None
    → counted_next (unless_given o n) ≡ None
unless_given_bare None n bare h = h
unless_given_bare (Some c) n bare h = bare c refl

plain_bare : (n : Next RwLockPlace) → counted_next (plain_next n) ≡ None
plain_bare (next.At p) = refl
plain_bare (next.End answer) = refl

bump_bare : (q : RwLockPurpose) (n : Next RwLockPlace) → counted_next (bump_next q n) ≡ None
bump_bare q (next.At p) = refl
bump_bare q (next.End answer) = by_purpose q
  where
    by_purpose : (q : RwLockPurpose) → counted_next (bump_ended q answer) ≡ None
    by_purpose (purpose.Release x) = refl
    by_purpose q = refl

handed_bare : (x : Access) (how : Patience) (b : Bool) (to : HandedAt) (r : Reply)
    → counted_next (handed_next x how b to r) ≡ None
handed_bare x how b (handed.Asleep u alone) (reply.Woken note.HandOff) = woken_bare x how b alone
handed_bare x how b (handed.Asleep u alone) (reply.Woken n) = refl
handed_bare x how b (handed.Asleep u alone) r = refl
handed_bare x how b handed.Accept reply.Done = refl
handed_bare x how b handed.Accept (reply.Value seen) = refl
handed_bare x how b handed.Accept r = refl

glance_bare : (a : Admission) (x : Access) (r : Reply) → counted_next (glances a x r) ≡ None
glance_bare a x (reply.Value seen) = either (gives_way a x seen)
  where
    by_access : (y : Access) → in_hand_of (gives_up_at y) ≡ None
    by_access access.Shared = refl
    by_access access.Upgradable = refl
    by_access access.Exclusive = refl

    either : (b : Bool) → counted_next (if b then next.At (gives_up_at x) else next.End answer.Ok)
        ≡ None
    either true = by_access x
    either false = refl
glance_bare a x r = refl

abbrev pub IsHandOver : RwLockCallPlace → Type 0
IsHandOver (HandOver x b to) = Unit {0}
IsHandOver c = ⊥

-- such a call has nobody counted then, with any news
pub others_bare : (a : Admission) (c : RwLockCallPlace) (r : Reply) → (IsHandOver c → ⊥)
    → counted_next (call_next a c r) ≡ None
others_bare a (Plain p) r no_hand = unless_given_bare (given false p r) (plain_next (rwlock_next a p r))
    (given_bare false p r) (plain_bare (rwlock_next a p r))
others_bare a (Bump p) r no_hand = unless_given_bare (given true p r)
    (bump_next p.purpose (rwlock_next a p r)) (given_bare true p r) (bump_bare p.purpose (rwlock_next a p r))
others_bare a (PeekQueue x) r no_hand = glance_bare a x r
others_bare a (HandOver x b to) r no_hand = absurd (no_hand tt)
others_bare a (Handed x how b to) r no_hand = handed_bare x how b to r

-- ---------------------------------------------------------------- whatever befalls a thread

stays_counted : (a : Admission) (x : Access) (b : Bool) (to : HandOverAt) (r : Reply) → Befalls r
    → counted_next (hand_over_next a x b to r) ≡ in_hand_of (HandOver x b to)
stays_counted a x b handing.Load (reply.Woken n) h = refl
stays_counted a x b to (reply.Woken n) h = refl
stays_counted a x b to (reply.TakenBy v) h = refl
stays_counted a x b to (reply.MovedTo key) h = refl
stays_counted a x b to (reply.HandedBy v c) h = refl
stays_counted a x b to r h = absurd h

call_befallen : (a : Admission) (c : RwLockCallPlace) (r : Reply) → Befalls r → counted_next (call_next a c r)
    ≡ in_hand_of c
call_befallen a (HandOver x b to) r h = stays_counted a x b to r h
call_befallen a (Plain p) r h = others_bare a (Plain p) r (λ no. no)
call_befallen a (Bump p) r h = others_bare a (Bump p) r (λ no. no)
call_befallen a (PeekQueue x) r h = others_bare a (PeekQueue x) r (λ no. no)
call_befallen a (Handed x how b to) r h = others_bare a (Handed x how b to) r (λ no. no)

pub counted_befallen : (l : ℕ) (p : Place) (r : Reply) → Befalls r → counted_on (next_place p r) l
    ≡ counted_on p l
counted_befallen l Idle r h = refl
counted_befallen l (Mutex j at) r h = mutex_counted l j (mutex_next at r)
counted_befallen l (Once j at) r h = once_counted l j (once_next at r)
counted_befallen l (Semaphore j at) r h = semaphore_counted l j (semaphore_next at r)
counted_befallen l (Condvar j at) r h = condvar_counted l j (condvar_next at r)
counted_befallen l (RwLock j a c) r h = goes_counted l j a (call_next a c r)
    ∙ ap (λ o. if j == l then o else None) (call_befallen a c r h)

-- ---------------------------------------------------------------- where calls begin and look

release_bare : (x : Access) → in_hand_of (release_first x) ≡ None
release_bare access.Shared = refl
release_bare access.Upgradable = refl
release_bare access.Exclusive = refl

first_bare : (c : RwLockCall) → in_hand_of (call_first c) ≡ None
first_bare (rwlock_call.ReleaseFair x) = release_bare x
first_bare c = refl

pub begins_bare : (l : ℕ) (kind : Kind) (c : Call) → counted_on (first_place kind c) l ≡ None
begins_bare l kind (call.Mutex j c) = refl
begins_bare l kind (call.Once j c) = refl
begins_bare l kind (call.Semaphore j c) = refl
begins_bare l kind (call.Condvar j c) = refl
begins_bare l kind (call.RwLock j c) = ap (λ o. if j == l then o else None) (first_bare c)
    ∙ nothing (j == l)

-- a thread that looks at the word once more hands nothing over
pub record LooksBare (q : Place) : Type 0 where
  pub bare : (l : ℕ) → counted_on q l ≡ None
  pub goes_on : (r : Reply) (l : ℕ) → counted_on (next_place q r) l ≡ None

bare_at : (j : ℕ) (a : Admission) (c : RwLockCallPlace) → in_hand_of c ≡ None → (IsHandOver c → ⊥)
    → LooksBare (RwLock j a c)
bare_at j a c none no_hand = record {
  bare = λ l. ap (λ o. if j == l then o else None) none ∙ nothing (j == l);
  goes_on = λ r l. goes_counted l j a (call_next a c r) ∙ ap (λ o. if j == l then o else None)
      (others_bare a c r no_hand) ∙ nothing (j == l);
}

looks_bare_at : (j : ℕ) (a : Admission) (b : Bool) (o : Option RwLockPlace) (q : Place)
    → in_rwlock j a (in_call b o) ≡ Some q
    → LooksBare q
looks_bare_at j a b None q is = absurd cc
looks_bare_at j a true (Some p) q is = let there : RwLock j a (Bump p) ≡ q = cc
    in subst LooksBare there (bare_at j a (Bump p) refl (λ no. no))
looks_bare_at j a false (Some p) q is = let there : RwLock j a (Plain p) ≡ q = cc
    in subst LooksBare there (bare_at j a (Plain p) refl (λ no. no))

pub looks_bare : (p q : Place) → respins_from p ≡ Some q → LooksBare q
looks_bare Idle q is = absurd cc
looks_bare (Mutex j at) q is = by_place (mutex_respin at) is
  where
    by_place : (o : Option MutexPlace) → in_mutex j o ≡ Some q → LooksBare q
    by_place None e = absurd cc
    by_place (Some at2) e = let there : Mutex j at2 ≡ q = cc in subst LooksBare there (record {
      bare = λ l. refl;
      goes_on = λ r l. mutex_counted l j (mutex_next at2 r);
    })
looks_bare (Once j at) q is = by_place (once_respin at) is
  where
    by_place : (o : Option OncePlace) → in_once j o ≡ Some q → LooksBare q
    by_place None e = absurd cc
    by_place (Some at2) e = let there : Once j at2 ≡ q = cc in subst LooksBare there (record {
      bare = λ l. refl;
      goes_on = λ r l. once_counted l j (once_next at2 r);
    })
looks_bare (Semaphore j at) q is = by_place (semaphore_respin at) is
  where
    by_place : (o : Option SemaphorePlace) → in_semaphore j o ≡ Some q → LooksBare q
    by_place None e = absurd cc
    by_place (Some at2) e = let there : Semaphore j at2 ≡ q = cc in subst LooksBare there (record {
      bare = λ l. refl;
      goes_on = λ r l. semaphore_counted l j (semaphore_next at2 r);
    })
looks_bare (Condvar j at) q is = by_place (condvar_respin at) is
  where
    by_place : (o : Option CondvarPlace) → in_condvar j o ≡ Some q → LooksBare q
    by_place None e = absurd cc
    by_place (Some at2) e = let there : Condvar j at2 ≡ q = cc in subst LooksBare there (record {
      bare = λ l. refl;
      goes_on = λ r l. condvar_counted l j (condvar_next at2 r);
    })
looks_bare (RwLock j a (Plain p)) q is = looks_bare_at j a false (rwlock_respin a p) q is
looks_bare (RwLock j a (Bump p)) q is = looks_bare_at j a true (rwlock_respin a p) q is
looks_bare (RwLock j a (PeekQueue x)) q is = absurd cc
looks_bare (RwLock j a (HandOver x b to)) q is = absurd cc
looks_bare (RwLock j a (Handed x how b to)) q is = absurd cc

-- nor does a thread that is late
pub late_bare : (p : Place) (key : ℕ) → late_key p ≡ Some key → (l : ℕ) → counted_on (next_place p reply.Late)
    l ≡ None
late_bare Idle key e l = refl
late_bare (Mutex j at) key e l = mutex_counted l j (mutex_next at reply.Late)
late_bare (Once j at) key e l = once_counted l j (once_next at reply.Late)
late_bare (Semaphore j at) key e l = semaphore_counted l j (semaphore_next at reply.Late)
late_bare (Condvar j at) key e l = condvar_counted l j (condvar_next at reply.Late)
late_bare (RwLock j a (Plain p)) key e l = (bare_at j a (Plain p) refl (λ no. no)).goes_on reply.Late l
late_bare (RwLock j a (Bump p)) key e l = (bare_at j a (Bump p) refl (λ no. no)).goes_on reply.Late l
late_bare (RwLock j a (PeekQueue x)) key e l = absurd cc
late_bare (RwLock j a (HandOver x b to)) key e l = absurd cc
late_bare (RwLock j a (Handed x how b to)) key e l = absurd cc
