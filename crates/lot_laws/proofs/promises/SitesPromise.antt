-- A site of a mutex promises of its word and of its waiters.
use Rattle.lot_laws.proofs.Imports
use Imports.{ℕ, Bool, true, false, Option, Some, None, ◌⊎◌, ◌≡◌, ◌≢◌, ◌+◌, ◌*◌, ◌≤◌, List, [], ◌∷◌, inl, inr}
use Imports.{sym, ◌∙◌, ap, subst, arith, is_parked, Queued, one_if_some, Main, bit, code, parked_in, State}
use Imports.{place_at, word_at, owners_at, queue_at, section_at, lock_state, IsAboutToMark, WaitsFor}
use Imports.{IsMutexWord, IsInductive, rules_in}
use Rattle.core_base.specs.Lines as Lines
use Rattle.spec_locks.specs.Locks.{times}
use Rattle.spec_locks.specs.Locks as locks
use Rattle.lot_laws.proofs.machine.Parts.{inside_is}
use Rattle.lot_laws.proofs.machine.Parts.{mutex}
use Rattle.lot_laws.proofs.sites.OneStep.{queued_times}
use Rattle.lot_laws.proofs.sites.ActsKept.{lock_by}

pub codes_by : (e : Option ℕ) (b : Bool) (w : ℕ) → w ≡ one_if_some e + 2 * bit b → IsMutexWord w e
codes_by e true w h = inr h
codes_by e false w h = inl (omega arith)

-- the word of a mutex says whether there is an owner
pub coded_at : (w : State) → IsInductive w → (l : ℕ) → rules_in w l ≡ mutex
    → IsMutexWord (word_at w l) (owners_at w l).exclusive
coded_at w s l rules = codes_by (owners_at w l).exclusive (is_parked (word_at w l)) (word_at w l)
    (s.sites.word l ∙ (λ i. code (rules i) (lock_by w l (rules i))))

pub not_empty : (t : ℕ) (q : List Queued) → 1 ≤ times t q → q ≢ []
not_empty t [] h e = omega arith
not_empty t (x ∷ q) h e = cc

module _ (w : State) (s : IsInductive w) (l : ℕ) (rules : rules_in w l ≡ mutex) where
  -- a thread that is about to set the parked bit of a mutex is inside its section
  pub marks_inside : (u : ℕ) → IsAboutToMark w u l → section_at w (2 * l) ≡ Some u
  marks_inside u bit_pending = elim ((s.sites.site l).setting u bit_pending) [
    | inl owes_taken ↦ (s.stands.sections u l Main).0 (sym (inside_is (place_at w u) l)
        ∙ ((s.sites.site l).covered u owes_taken).0)
    | inr once ↦ absurd (let both : locks.Once ≡ locks.Mutex = sym once.0 ∙ ap (λ (r : locks.Rules). r.sort)
        rules in cc)
  ]

  -- a waiter of a mutex implies its parked bit, or somebody that is about to set it
  pub parked_or_marks : (t : ℕ) → WaitsFor w t l → (is_parked (word_at w l) ≡ true)
      ⊎ ((u : ℕ) × IsAboutToMark w u l)
  parked_or_marks t h = elim ((s.sites.site l).parked (not_empty t (lock_state w l).queue h)) [
    | inl g ↦ inl (subst (λ r. parked_in r.sort (word_at w l) ≡ true) rules g)
    | inr g ↦ inr g
  ]

-- a waiter implies the bit where nobody is inside the section
pub parked_at : (w : State) → IsInductive w → (t l : ℕ) → rules_in w l ≡ mutex → section_at w (2 * l) ≡ None
    → 1 ≤ Lines.times t (queue_at w (2 * l)) → is_parked (word_at w l) ≡ true
parked_at w s t l rules free h =
    elim (parked_or_marks w s l rules t (subst (λ n. 1 ≤ n) (sym (queued_times t (queue_at w (2 * l)))) h)) [
      | inl set ↦ set
      | inr marks ↦ absurd (let both : ◌≡◌ {A = Option ℕ} None (Some marks.0) = sym free
          ∙ marks_inside w s l rules marks.0 marks.1 in cc)
    ]
