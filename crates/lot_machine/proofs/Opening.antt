-- The opening state.
use Rattle.std.proofs.Common.{◌≡◌, ℕ, zero, suc, ◌*◌, Option, None, List, [], length, get_or, replicate, sum}
use Rattle.std.proofs.Common.{refl, sym, ◌∙◌, ap, ◌∷◌, map}
use Rattle.std.proofs.lemmas.List.{length-replicate}
use Rattle.spec_locks.specs.declared.kinds.Kind.{Kind}
use Rattle.spec_locks.specs.declared.kinds.Kind.TheVariants as kind
use Rattle.core_base.specs.declared.wants.Waiter.{Waiter}
use Rattle.lot_steps.specs.declared.places.Place.TheVariants.{Idle}
use Rattle.lot_machine.specs.Machine.{State, unlocked, opening, nobody, shares_at}

pub opens : (w : State) (kinds : List Kind) (threads : ℕ) → w.places ≡ replicate threads Idle
    → w.locks ≡ map unlocked kinds
    → w.shares ≡ replicate (length kinds) (replicate threads 0) → w.sections ≡ replicate (2 * length kinds)
    None → w.queues ≡ replicate (2 * length kinds) [] → w ≡ opening kinds threads
opens w kinds threads p l h s q = λ i. record {
  places = p i;
  locks = l i;
  shares = h i;
  sections = s i;
  queues = q i;
}

pub idle_at : (n t : ℕ) → get_or (replicate n Idle) t Idle ≡ Idle
idle_at zero t = refl
idle_at (suc n) zero = refl
idle_at (suc n) (suc t) = idle_at n t

pub none_at : (n k : ℕ) → get_or (replicate {A = Option ℕ} n None) k None ≡ None
none_at zero k = refl
none_at (suc n) zero = refl
none_at (suc n) (suc k) = none_at n k

pub empty_at : (n k : ℕ) → get_or (replicate {A = List Waiter} n []) k [] ≡ []
empty_at zero k = refl
empty_at (suc n) zero = refl
empty_at (suc n) (suc k) = empty_at n k

-- nobody owns a lock
pub nobody_owns : (kinds : List Kind) (l : ℕ)
    → (get_or (map unlocked kinds) l (unlocked kind.Mutex)).owners ≡ nobody
nobody_owns [] l = refl
nobody_owns (x ∷ xs) zero = refl
nobody_owns (x ∷ xs) (suc l) = nobody_owns xs l

-- nor shares one
pub no_readers : (n : ℕ) → sum (replicate n 0) ≡ 0
no_readers zero = refl
no_readers (suc n) = no_readers n

same_rows : (n l : ℕ) (row : List ℕ) → get_or (replicate n row) l row ≡ row
same_rows zero l row = refl
same_rows (suc n) zero row = refl
same_rows (suc n) (suc l) row = same_rows n l row

pub opening_shares : (kinds : List Kind) (threads l : ℕ) → shares_at (opening kinds threads) l
    ≡ replicate (length (opening kinds threads).places) 0
opening_shares kinds threads l = ap (λ n. get_or (replicate (length kinds) (replicate threads 0)) l
    (replicate n 0)) size ∙ same_rows (length kinds) l (replicate threads 0)
    ∙ ap (λ n. replicate n 0) (sym size)
  where
    size : length (replicate threads Idle) ≡ threads
    size = length-replicate threads Idle
