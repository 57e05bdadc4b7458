-- The threads in a hand by their wants: how many want to share, and which one wants more. A place's word on
-- it stays true as long as nobody comes into the hand or leaves it, and the lock hands over by it.
use Rattle.lot_laws.proofs.Imports
use Imports.{ℕ, zero, suc, Bool, true, false, Option, Some, None, if◌then◌else◌, ◌==◌, ◌&&◌, ◌≡◌, ◌+◌, List, []}
use Imports.{◌∷◌, length, get_or, cond, refl, sym, ◌∙◌, ap, subst, arith, sum, filter, eqb-true, nat_tests}
use Imports.{Want, Taken, shares_handed, sharing_from, wants_shared, sum_cons, Place, Idle, Successor, held}
use Imports.{shares_in_hand, sharers_in_hand, successor_from, successor_or, wants_more_in_hand}

-- tells what a thread wants, where t has taken it
abbrev pub wanted_of : ℕ → Option Taken → Option Want
wanted_of t None = None
wanted_of t (Some h) = if h.by == t then Some h.want else None

-- among n threads from i on, the number that t has in hand and that want to share
abbrev pub sharers_from : ℕ → (ℕ → Option Taken) → ℕ → ℕ → ℕ
sharers_from t taken i zero = 0
sharers_from t taken i (suc n) = shares_handed t (taken i) + sharers_from t taken (i + 1) n

-- ---------------------------------------------------------------- the same hand

abbrev share_of : Option Want → ℕ
share_of None = 0
share_of (Some x) = if wants_shared x then 1 else 0

shares_by : (t : ℕ) (o : Option Taken) → shares_handed t o ≡ share_of (wanted_of t o)
shares_by t None = refl
shares_by t (Some h) = either (h.by == t)
  where
    either : (b : Bool) → ◌≡◌ {A = ℕ} (if b && wants_shared h.want then 1 else 0)
        (share_of (if b then Some h.want else None))
    either true = refl
    either false = refl

pub wanted_is : (t : ℕ) (o : Option Taken) (x : Want) → o ≡ Some (record { by = t; want = x })
    → wanted_of t o ≡ Some x
wanted_is t o x e = ap (wanted_of t) e ∙ ap (λ b. if b then Some x else None) (let g : (t == t) ≡ true =
    grind (arith, nat_tests) in g)

pub is_wanted : (t : ℕ) (o : Option Taken) (x : Want) → wanted_of t o ≡ Some x
    → o ≡ Some (record { by = t; want = x })
is_wanted t None x e = absurd cc
is_wanted t (Some h) x e = either (h.by == t) refl e
  where
    either : (b : Bool) → (h.by == t) ≡ b → ◌≡◌ {A = Option Want} (if b then Some h.want else None) (Some x)
        → Some h ≡ Some (record { by = t; want = x })
    either true f g = let mine : h.by ≡ t = eqb-true h.by t f in let same_want : h.want ≡ x = cc
        in λ i. Some (record {
          by = mine i;
          want = same_want i;
        })
    either false f g = absurd cc

pub sharers_same : (t : ℕ) (p q : ℕ → Option Taken) → ((u : ℕ) → wanted_of t (q u) ≡ wanted_of t (p u))
    → (i n : ℕ)
    → sharers_from t q i n ≡ sharers_from t p i n
sharers_same t p q e i zero = refl
sharers_same t p q e i (suc n) = λ j. (shares_by t (q i) ∙ ap share_of (e i) ∙ sym (shares_by t (p i))) j
    + sharers_same t p q e (i + 1) n j

-- ---------------------------------------------------------------- the rights that the lock hands over

pub shared_by : (t : ℕ) (taken : ℕ → Option Taken) (i : ℕ) (ns : List ℕ)
    → sum (sharing_from t taken i ns) ≡ sum ns + sharers_from t taken i (length ns)
shared_by t taken i [] = refl
shared_by t taken i (n ∷ ns) =
    let a = sum_cons n ns in
    let b = sum_cons (n + shares_handed t (taken i)) (sharing_from t taken (i + 1) ns) in
    let c = shared_by t taken (i + 1) ns in
    omega arith

-- ---------------------------------------------------------------- the machine's counts

pub counted : (t i : ℕ) (taken : ℕ → Option Taken) (ps : List Place)
    → ((j : ℕ) → shares_handed t (taken (i + j)) ≡ (if shares_in_hand t (held (get_or ps j Idle)) then 1
    else 0))
    → sharers_in_hand t ps ≡ sharers_from t taken i (length ps)
counted t i taken [] each = refl
counted t i taken (p ∷ ps) each =
    let first : shares_handed t (taken i) ≡ (if shares_in_hand t (held p) then 1 else 0) =
    subst (λ k. shares_handed t (taken k) ≡ (if shares_in_hand t (held p) then 1 else 0))
    (let z : i + 0 ≡ i = omega arith in z) (each 0) in
    let rest : sharers_in_hand t ps ≡ sharers_from t taken (i + 1) (length ps) =
    counted t (i + 1) taken ps (λ j. subst (λ k. shares_handed t (taken k)
    ≡ (if shares_in_hand t (held (get_or ps j Idle)) then 1 else 0)) (let z : i + suc j ≡ i + 1 + j =
    omega arith in z) (each (suc j))) in
    one_more (shares_in_hand t (held p)) ps ∙ (λ k. sym first k + rest k)
  where
    one_more : (b : Bool) (ps : List Place)
        → length
        (cond b (p ∷ filter (λ (q : Place). shares_in_hand t (held q)) ps)
        (filter (λ (q : Place). shares_in_hand t (held q)) ps))
        ≡ (if b then 1 else 0) + sharers_in_hand t ps
    one_more true ps = omega arith
    one_more false ps = omega arith

-- the heir of the machine wants more, and is in the hand
pub heir_wants : (t i : ℕ) (ps : List Place) (x : Successor) → successor_from t i ps ≡ Some x
    → (j : ℕ) × ((x.thread ≡ i + j) × (wants_more_in_hand t (held (get_or ps j Idle)) ≡ Some x.want))
heir_wants t i [] x e = absurd cc
heir_wants t i (p ∷ ps) x e = by_first (wants_more_in_hand t (held p)) refl e (heir_wants t (suc i) ps x)
  where
    by_first : (o : Option Want) → wants_more_in_hand t (held p) ≡ o
        → successor_or i o (successor_from t (suc i) ps) ≡ Some x
        → (successor_from t (suc i) ps ≡ Some x → (j : ℕ)
        × ((x.thread ≡ suc i + j) × (wants_more_in_hand t (held (get_or ps j Idle)) ≡ Some x.want)))
        → (j : ℕ) × ((x.thread ≡ i + j) × (wants_more_in_hand t (held (get_or (p ∷ ps) j Idle))
        ≡ Some x.want))
    by_first None f g later = let k = later g
        in (suc k.0, (k.1.0 ∙ (let z : suc i + k.0 ≡ i + suc k.0 = omega arith in z), k.1.1))
    by_first (Some y) f g later = let same_one : record { thread = i; want = y } ≡ x = cc in (
      0,
      (
        sym (ap (λ (z : Successor). z.thread) same_one) ∙ (let z : i ≡ i + 0 = omega arith in z),
        f
            ∙ ap Some (ap (λ (z : Successor). z.want) same_one),
      ),
    )

-- Where some thread in the hand wants more than a share, one of them is the heir.
pub wants_heir : (t i : ℕ) (ps : List Place) (j : ℕ) (x : Want)
    → wants_more_in_hand t (held (get_or ps j Idle)) ≡ Some x
    → (y : Successor) × (successor_from t i ps ≡ Some y)
wants_heir t i [] j x e = absurd cc
wants_heir t i (p ∷ ps) zero x e = (
  record { thread = i; want = x },
  ap (λ o. successor_or i o (successor_from t (suc i) ps)) e,
)
wants_heir t i (p ∷ ps) (suc j) x e = by_first (wants_more_in_hand t (held p)) (wants_heir t (suc i) ps j x e)
  where
    by_first : (o : Option Want) → ((y : Successor) × (successor_from t (suc i) ps ≡ Some y))
        → (y : Successor) × (successor_or i o (successor_from t (suc i) ps) ≡ Some y)
    by_first None later = later
    by_first (Some z) later = (record { thread = i; want = z }, refl)
