-- One at most of the waiters that are picked of a reader-writer lock's queue wants more than to
-- share.
use Rattle.std.proofs.Common.{ℕ, Bool, Option, None, Some, ◌≡◌, ◌≤◌, ◌<◌, ◌^◌, ◌∙◌, List, [], ◌∷◌, length}
use Rattle.std.proofs.Common.{refl, ap, arith, suc, subst}
use Rattle.core_base.specs.Lines.{threads_of}
use Rattle.core_base.specs.Picks.{lock_picked}
use Rattle.core_base.specs.declared.wants.Waiter.{Waiter}
use Rattle.core_base.specs.declared.wants.Want.{Want}
use Rattle.core_base.specs.declared.wants.Want.TheVariants as wants
use Rattle.core_queues.specs.Wants.{wants_of}
use Rattle.spec_locks.proofs.HandsTaken.{one_more_picked, wanting_more}
use Rattle.parking_lot_core.specs.declared.sections.Section.{Section}
use Rattle.parking_lot_core.specs.declared.tokens.Did.{Did}
use Rattle.run_base.specs.Stages.{HasKey, SectionView, section_view, threads_taken, took_as}
use Rattle.run_base.specs.Takes.{more_in}

one_after : (x : Waiter) (xs : List Waiter) → more_in (wants_of xs) ≡ wanting_more xs → (y : Want)
    → x.want ≡ y → more_in (wants_of (x ∷ xs)) ≡ wanting_more (x ∷ xs)
one_after x xs h wants.Shared e = rw e (omega arith)
one_after x xs h wants.Exclusive e = rw e (omega arith)
one_after x xs h wants.Upgradable e = rw e (omega arith)
one_after x xs h wants.Wait e = rw e (omega arith)
one_after x xs h wants.CallOnce e = rw e (omega arith)

same_number : (xs : List Waiter) → more_in (wants_of xs) ≡ wanting_more xs
same_number [] = refl
same_number (x ∷ xs) = one_after x xs (same_number xs) x.want refl

pub picked_few : (start : Option Want) (recursive : Bool) (xs : List Waiter)
    → more_in (wants_of (lock_picked start recursive xs)) ≤ 1
picked_few start recursive xs = let few : wanting_more (lock_picked start recursive xs) ≤ 1 =
    one_more_picked start recursive xs in
    let same : more_in (wants_of (lock_picked start recursive xs)) ≡ wanting_more
    (lock_picked start recursive xs) = same_number (lock_picked start recursive xs) in omega arith

-- a list of threads that were taken is as long as that of the waiters
pub all_threads : (xs : List Waiter) → length (threads_of xs) ≡ length xs
all_threads [] = refl
all_threads (x ∷ xs) = ap suc (all_threads xs)

pub few_waiters : (xs : List Waiter) → length (threads_of xs) < 2 ^ 60 → length xs < 2 ^ 60
few_waiters xs few = let same = all_threads xs in omega arith

-- the threads that a section took, by its view
abbrev taken_of : Option SectionView → List ℕ
taken_of None = []
taken_of (Some view) = view.taken

taken_there : (section : Option Section) → threads_taken section ≡ taken_of (section_view section)
taken_there None = refl
taken_there (Some section) = refl

-- the threads that a section took are few
pub few_taken : (did : Did) (waiters : List Waiter) (key : ℕ) (old : Option SectionView)
    (new : Option Section) → HasKey key old → section_view new ≡ took_as did waiters old
    → length (threads_taken new) < 2 ^ 60 → length waiters < 2 ^ 60
few_taken did waiters key None new has e few = absurd has
few_taken did waiters key (Some inside) new has e few = few_waiters waiters
    (subst (λ (threads : List ℕ). length threads < 2 ^ 60) (taken_there new ∙ ap taken_of e) few)
