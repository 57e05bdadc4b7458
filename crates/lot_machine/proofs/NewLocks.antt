-- The word of a new lock is the one of a lock that nobody owns.
use Rattle.std.proofs.Common.{ℕ, true, false, ◌&&◌, ◌≡◌, ◌*◌, ◌^◌, ◌≤◌, nat_le, replicate, sum, refl, ◌∙◌, ap}
use Rattle.std.proofs.Common.{arith}
use Rattle.std.proofs.lemmas.Bool.{leb-true}
use Rattle.std.proofs.lemmas.Bool.Decides.{nat_tests}
use Rattle.std.proofs.Math.Nat.{mod-eq_of_lt}
use Rattle.spec_locks.specs.declared.kinds.Kind.TheVariants.{Mutex, Fair, RwLock, Recursive, Condvar, Once}
use Rattle.spec_locks.specs.declared.kinds.Kind.TheVariants.{Semaphore}
use Rattle.spec_locks.specs.declared.kinds.TheConstants.{MOST_PERMITS}
use Rattle.spec_locks.specs.Codes.{bit, has_parked}
use Rattle.lot_machine.specs.Machine.{first_word}
use Rattle.lot_machine.specs.NewLocks.{NewWordsAreTrue}
use Rattle.lot_machine.proofs.Opening.{no_readers}
use Rattle.lot_machine.proofs.Suits.{both}

-- a word counts the permits of a semaphore
pub few_permits : (permits : ℕ) → (nat_le 1 permits && nat_le permits MOST_PERMITS) ≡ true → permits ≤ 2 ^ 62
few_permits permits h = let a : permits ≤ MOST_PERMITS =
    leb-true permits MOST_PERMITS (both (nat_le 1 permits) (nat_le permits MOST_PERMITS) h).1 in omega arith

even_unparked : (n : ℕ) → has_parked (2 * n) ≡ false
even_unparked n = grind (arith, nat_tests)

pub new_words : NewWordsAreTrue
new_words (RwLock limit) threads n h = let none : sum (replicate n 0) ≡ 0 = no_readers n in omega arith
new_words (Recursive limit) threads n h = let none : sum (replicate n 0) ≡ 0 = no_readers n in omega arith
new_words Mutex threads n h = refl
new_words Fair threads n h = refl
new_words Condvar threads n h = refl
new_words Once threads n h = refl
new_words (Semaphore permits) threads n h =
    let none : sum (replicate n 0) ≡ 0 = no_readers n in
    let few : permits ≤ 2 ^ 62 = few_permits permits h in
    let small : first_word (Semaphore permits) ≡ 2 * permits = mod-eq_of_lt {n = 2 * permits} {m = 2 ^ 64}
    (omega arith) in
    let bare : bit (has_parked (first_word (Semaphore permits))) ≡ 0 = ap bit (ap has_parked small
    ∙ even_unparked permits) in
    omega arith
