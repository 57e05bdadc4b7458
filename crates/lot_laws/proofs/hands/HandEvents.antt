-- A right is handed over to many at once: it is one case of the lock, and the calls of all that were handed
-- it go on with what they wanted.
use Rattle.lot_laws.proofs.Imports
use Imports.{ℕ, zero, suc, Bool, true, false, Option, Some, None, if◌then◌else◌, ◌==◌, ◌≡◌, ◌<◌, List, [], ◌∷◌}
use Imports.{◌++◌, length, inl, inr, refl, sym, ◌∙◌, ap, arith, cases_lt, eqb-true, Want, claim_handed, Begin}
use Imports.{HandedBy, Place, Idle, next_place, Queued, Rights, Taken, HandOff, IsTaken, handed, putting}
use Imports.{readers, rights_of, AtLock, after_wake, is_taken_by, State, place_at, call_state, lock_state}
use Imports.{taken_at, rules_in}
use Rattle.lot_laws.specs.ThreadDeeds.{Act}
use Rattle.lot_laws.proofs.machine.Parts.{past_all, put_same, same, IsSingle}
use Rattle.lot_laws.proofs.calls.CallEvents.{AreClaims, IsEvent, OthersFollow, rights, rights_led}
use Rattle.lot_laws.proofs.hands.Rights.{given, given_right, handed_have, others_have}
use Rattle.lot_laws.proofs.hands.HandsStay.{claim_of, claims_given}
use Rattle.lot_laws.proofs.calls.LockEvents.{Befalls, recalls_nothing, unmoved}

-- ---------------------------------------------------------------- claims

both_claim : (xs ys : List Act) → AreClaims xs → AreClaims ys → AreClaims (xs ++ ys)
both_claim [] ys h k = k
both_claim (a ∷ xs) ys h k = (h.0, both_claim xs ys h.1 k)

pub claims_are : (t : ℕ) (alone : Bool) (taken : ℕ → Option Taken) (n : ℕ)
    → AreClaims (claims_given t alone taken n)
claims_are t alone taken zero = tt
claims_are t alone taken (suc n) = both_claim (claim_of t alone n (taken n)) (claims_given t alone taken n)
    (one n (taken n)) (claims_are t alone taken n)
  where
    one : (u : ℕ) (o : Option Taken) → AreClaims (claim_of t alone u o)
    one u None = tt
    one u (Some h) = either (h.by == t)
      where
        either : (b : Bool) → AreClaims (if b then record {
          by = u;
          deed = Begin (Some (claim_handed alone h.want));
        } ∷ [] else [])
        either true = (tt, tt)
        either false = tt

-- ---------------------------------------------------------------- calls

-- where a thread is handed what it wanted, its call goes on with the right that it gained, and tries no more
abbrev pub IsHandedCall : ℕ → ℕ → Bool → Want → Place → Type 0
IsHandedCall l t alone x p = (r : ℕ → Rights) → call_state (next_place p (HandedBy t alone))
    (putting r l (given_right alone x (r l))) ≡ record (call_state p r) { retries = None }

module _ (w v : State) (t l : ℕ) (right : Want) (successor : Option Queued)
    (h : IsEvent w v t (AtLock l (HandOff right successor))) (alone : Bool)
    (unshared : alone ≡ (readers (given (rules_in w l) (lock_state w l) t right successor
    (h.before.sites.site l).state h.needs) == 0)) where
  led_to : (u : ℕ) (x : Rights) → rights_of (handed t right successor (lock_state w l)) u ≡ x → (k : ℕ)
      → rights v u k ≡ putting (rights w u) l x k
  led_to u x e k = rights_led w v t l (Some (HandOff right successor)) h u k
      ∙ ap (λ y. putting (rights w u) l y k) e

  in_world : (u : ℕ) (x : Want) → IsTaken (lock_state w l) t u x → u < length (lock_state w l).shared
  in_world u x is = elim (cases_lt u (length (lock_state w l).shared)) [
    | inl lt ↦ lt
    | inr ge ↦ absurd (let n : length (lock_state w l).shared ≡ length w.places = h.before.numbers.threads l
        in
        let none : taken_at (place_at w u) l ≡ None = ap (λ q. taken_at q l)
        (past_all w.places u Idle (omega arith)) in
        let f : ◌≡◌ {A = Option Taken} None (Some (record { by = t; want = x })) = sym none ∙ is in cc)
  ]

  pub hands_many : Befalls w v t l (HandedBy t alone)
      → ((u : ℕ) (x : Want) → IsTaken (lock_state w l) t u x → IsHandedCall l t alone x (place_at w u))
      → ((u : ℕ) (x : Want) → IsTaken (lock_state w l) t u x → IsSingle (place_at w u))
      → OthersFollow w v t (AtLock l (HandOff right successor))
  hands_many delivers calls of_one u ne = ap (λ p. call_state p (rights v u)) (delivers u ne)
      ∙ by_hand (taken_at (place_at w u) l) refl
    where
      handed_call : (x : Want) → IsTaken (lock_state w l) t u x
          → call_state (next_place (place_at w u) (HandedBy t alone)) (rights v u)
          ≡ record (call_state (place_at w u) (rights w u)) { retries = None }
      handed_call x is = ap (call_state (next_place (place_at w u) (HandedBy t alone)))
          (λ i k. led_to u _ (handed_have (rules_in w l) (lock_state w l) t right successor
          (h.before.sites.site l).state h.needs u x ne (in_world u x is) is
          ∙ ap (λ b. given_right b x (rights w u l)) (sym unshared)) k i)
          ∙ calls u x is (rights w u)

      other_call : ((x : Want) → IsTaken (lock_state w l) t u x → ⊥)
          → call_state (place_at w u) (rights v u) ≡ call_state (place_at w u) (rights w u)
      other_call none = ap (call_state (place_at w u))
          (λ i k. (led_to u (rights w u l) (others_have (rules_in w l) (lock_state w l) t right successor
          (h.before.sites.site l).state h.needs u ne none) k ∙ put_same (rights w u) l (rights w u l) refl
          k) i)

      by_hand : (o : Option Taken) → taken_at (place_at w u) l ≡ o
          → call_state (if is_taken_by t o then next_place (place_at w u) (HandedBy t alone)
          else place_at w u) (rights v u)
          ≡ (if is_taken_by t o then record (call_state (place_at w u) (rights w u)) {
            retries = None;
            recalls = after_wake (call_state (place_at w u) (rights w u)).recalls;
          } else call_state
          (place_at w u) (rights w u))
      by_hand None e = other_call (λ x is. let f : ◌≡◌ {A = Option Taken} None
          (Some (record { by = t; want = x })) = sym e ∙ is in cc)
      by_hand (Some g) e = either (g.by == t) refl
        where
          either : (b : Bool) → (g.by == t) ≡ b
              → call_state (if b then next_place (place_at w u) (HandedBy t alone) else place_at w u)
              (rights v u) ≡ (if b then record (call_state (place_at w u) (rights w u)) {
                retries = None;
                recalls = after_wake (call_state (place_at w u) (rights w u)).recalls;
              } else call_state
              (place_at w u) (rights w u))
          either true f = let mine : IsTaken (lock_state w l) t u g.want = e
              ∙ (let own : g.by ≡ t = eqb-true g.by t f in λ i. Some (record { by = own i; want = g.want }))
              in
              handed_call g.want mine ∙ unmoved None (call_state (place_at w u) (rights w u))
              (recalls_nothing (place_at w u) (of_one u g.want mine) (rights w u))
          either false f = other_call (λ x is. let both : Some g ≡ Some (record { by = t; want = x }) = sym e
              ∙ is in let mine : g ≡ record { by = t; want = x } = cc in
              let yes : (g.by == t) ≡ true = ap (λ (y : Taken). y.by == t) mine ∙ same t in let no_more : true
              ≡ false = sym yes ∙ f in cc)
