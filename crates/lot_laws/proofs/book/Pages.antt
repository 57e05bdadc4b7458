-- The page of each place, by its sort of lock: the one file that goes through the sorts.
use Rattle.lot_laws.proofs.Imports
use Imports.{ℕ, true, ◌≡◌, [], sym, ◌∙◌, ap, subst, eqb-true, No, blank_row}
use Imports.{SemaphorePlace, Rules, Sort, has_readers, Place, Idle, Mutex, RwLock, Once, Condvar, Semaphore}
use Imports.{calls, State, kind_at, place_at, FitsItsLock, IsInductive, LateIsTimed, rules_in, Admission}
use Imports.{RwLockCallPlace}
use Rattle.steps_base.specs.declared.acts.Next.TheVariants.{End}
use Rattle.spec_locks.specs.Locks as locks
use Rattle.lot_laws.proofs.book.Page.{Says}
use Rattle.lot_laws.proofs.book.LockStaysASite.{Book, Tied}
use Rattle.lot_laws.proofs.once.Page.{once_says, once_tied}
use Rattle.lot_laws.proofs.rwlock.Page.{rwlock_says, rwlock_tied}
use Rattle.lot_laws.proofs.semaphore.Page.{semaphore_says, semaphore_tied}
use Rattle.lot_laws.proofs.sites.StandsMoved.{mutex_rules}

-- a place with no page says nothing
abbrev pub says_nothing : Says
says_nothing = record {
  row = blank_row;
  comes = λ told. End No;
  deeds = λ who told. [];
  hears = λ r s t who told. ⊥;
}

abbrev pub says_of : Place → Says
says_of (Once l at) = once_says at
says_of (Semaphore l at) = semaphore_says at
says_of (RwLock l a c) = rwlock_says a c
says_of p = says_nothing

-- the sorts that have pages so far
abbrev pub HasPages : Sort → Type 0
HasPages locks.Once = Unit {0}
HasPages locks.Semaphore = Unit {0}
HasPages locks.Normal = Unit {0}
HasPages locks.Recursive = Unit {0}
HasPages sort = ⊥

abbrev pub IsPaged : Place → Type 0
IsPaged (Once l at) = Unit {0}
IsPaged (Semaphore l at) = Unit {0}
IsPaged (RwLock l a c) = Unit {0}
IsPaged p = ⊥

pub tied_of : (w : State) (l : ℕ) (p : Place) → IsInductive w → IsPaged p → FitsItsLock w p → calls p l ≡ true
    → Tied w l p (says_of p)
tied_of w l (Once k at) inductive h fits g = subst (λ j. Tied w j (Once k at) (once_says at)) (eqb-true k l g)
    (once_tied w k at fits)
tied_of w l (Semaphore k at) inductive h fits g = subst (λ j. Tied w j (Semaphore k at) (semaphore_says at))
    (eqb-true k l g) (semaphore_tied w k at fits)
tied_of w l (RwLock k a c) inductive h fits g = subst (λ j. Tied w j (RwLock k a c) (rwlock_says a c))
    (eqb-true k l g) (rwlock_tied w k a c inductive fits)
tied_of w l p inductive h fits g = absurd h

-- a caller of a lock with pages stands at a place that has one
pub paged : (w : State) (l : ℕ) (p : Place) → HasPages (rules_in w l).sort → FitsItsLock w p
    → calls p l ≡ true → IsPaged p
paged w l Idle h fits g = absurd cc
paged w l (Once k at) h fits g = tt
paged w l (Semaphore k at) h fits g = tt
paged w l (Mutex k at) h fits g = subst HasPages (ap (λ j. (rules_in w j).sort) (sym (eqb-true k l g))
    ∙ ap (λ (r : Rules). r.sort) (mutex_rules (kind_at w k) fits)) h
paged w l (Condvar k at) h fits g = subst HasPages (ap (λ j. (rules_in w j).sort) (sym (eqb-true k l g))
    ∙ fits.sort) h
paged w l (RwLock k a c) h fits g = tt

abbrev pub book_at : (w : State) (l : ℕ) → IsInductive w → HasPages (rules_in w l).sort → Book w l
book_at w l inductive h = record {
  says = says_of;
  tied = λ p fits g. tied_of w l p inductive (paged w l p h fits g) fits g;
}

pub semaphore_sort : (w : State) (k : ℕ) (at : SemaphorePlace) → FitsItsLock w (Semaphore k at)
    → (rules_in w k).sort ≡ locks.Semaphore
semaphore_sort w k at fits = fits.0

pub rwlock_readers : (w : State) (k : ℕ) (a : Admission) (c : RwLockCallPlace) → FitsItsLock w (RwLock k a c)
    → has_readers (rules_in w k).sort ≡ true
rwlock_readers w k a c fits = fits.0.0

pub readers_paged : (sort : Sort) → has_readers sort ≡ true → HasPages sort
readers_paged locks.Normal h = tt
readers_paged locks.Recursive h = tt
readers_paged sort h = absurd cc

-- the book of the lock at which a thread is
abbrev pub booked : (w : State) (t l : ℕ) (p : Place) → IsInductive w → place_at w t ≡ p → IsPaged p
    → calls p l ≡ true → Book w l
booked w t l (Once k at) inductive is h g =
    book_at w l inductive (subst HasPages (sym (ap (λ j. (rules_in w j).sort) (sym (eqb-true k l g))
    ∙ subst (FitsItsLock w) is (inductive.stands.calls t))) tt)
booked w t l (Semaphore k at) inductive is h g =
    book_at w l inductive (subst HasPages (sym (ap (λ j. (rules_in w j).sort) (sym (eqb-true k l g))
    ∙ semaphore_sort w k at (subst (FitsItsLock w) is (inductive.stands.calls t)))) tt)
booked w t l (RwLock k a c) inductive is h g =
    book_at w l inductive (readers_paged (rules_in w l).sort (ap (λ j. has_readers (rules_in w j).sort)
    (sym (eqb-true k l g)) ∙ rwlock_readers w k a c (subst (FitsItsLock w) is (inductive.stands.calls t))))
booked w t l p inductive is h g = absurd h

pub semaphore_timed : (w : State) (l : ℕ) (at : SemaphorePlace) → FitsItsLock w (Semaphore l at)
    → LateIsTimed at
semaphore_timed w l at fits = fits.1
