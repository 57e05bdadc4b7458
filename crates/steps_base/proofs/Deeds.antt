-- Deeds that threads do at locks of every sort, and where a thread stands after them.
use Rattle.std.proofs.Common.{ℕ, Bool, true, false, Option, Some, None, ◌≡◌, ◌≢◌, ◌≤◌, [], ◌∷◌, refl, sym, ap}
use Rattle.std.proofs.Common.{◌∙◌, subst, arith, List}
use Rattle.std.proofs.lemmas.Bool.Decides.{nat_tests}
use Rattle.core_base.specs.declared.keys.Line.TheVariants.{Main}
use Rattle.steps_base.specs.Moves.{IsSectionFree}
use Rattle.spec_locks.specs.Deeds.{AllNeeded, after_all}
use Rattle.spec_locks.specs.Locks.{IsSomePending, Late as GivesUp, Pending, Queued, Rules, aside_without}
use Rattle.spec_locks.specs.Locks.{first_thread, putting, times, without}
use Rattle.spec_locks.specs.Sites.{Case, Claim, Clear, End, In, IsSite, Out, Role, Site, StandsIn, counts_some}
use Rattle.spec_locks.specs.Sites.{found, idle, is_empty, late_found, leaves, wakened}

pub put_same : {A : Type 0} (f : ℕ → A) (t : ℕ) (x : A) → putting f t x t ≡ x
put_same f t x = grind (arith, nat_tests)

pub nobody_first : (q : List Queued) → first_thread q ≡ None → q ≡ []
nobody_first [] e = refl
nobody_first (x ∷ q) e = absurd cc

module _ (r : Rules) (s : Site) (t : ℕ) where
  -- a call ends outside of the section, and nothing is owed
  pub ends : counts_some r.sort None ≡ false → (c : Option Claim) → s.role t ≡ record idle { claims = c }
      → AllNeeded r (End ∷ []) s t
  ends none c is = (
    (
      ap (λ (d : Role). d.inside) is,
      ap (λ (d : Role). d.wakes) is,
      ap (λ (d : Role). d.has_taken) is,
      λ some. absurd (let g : false ≡ true =
          sym none ∙ sym (ap (λ (d : Role). counts_some r.sort d.retries) is) ∙ some in cc),
    ),
    tt,
  )

  pub goes_in : (d : Role) → s.role t ≡ d → d.inside ≡ None → d.empty ≡ None → IsSectionFree s Main
      → AllNeeded r (In Main ∷ []) s t
      × ((after_all r (In Main ∷ []) s t).role t ≡ record d { inside = Some Main })
  goes_in d is out e free = (
    ((free, ap (λ (d : Role). d.inside) is ∙ out, ap (λ (d : Role). d.empty) is ∙ e), tt),
    put_same s.role t _ ∙ ap (λ (d : Role). record d { inside = Some Main }) is,
  )

  pub goes_out : (d : Role) → s.role t ≡ d → d.inside ≡ Some Main → d.wakes ≡ None → d.bit_pending ≡ false
      → s.lock.taken t ≡ None
      → AllNeeded r (Out ∷ []) s t × ((after_all r (Out ∷ []) s t).role t ≡ leaves d)
  goes_out d is i w b free = (
    (
      (
        λ e. let g : Some Main ≡ None = sym (ap (λ (d : Role). d.inside) is ∙ i) ∙ e in cc,
        ap (λ (d : Role). d.wakes) is ∙ w,
        ap (λ (d : Role). d.bit_pending) is ∙ b,
      ),
      tt,
    ),
    ap (λ o. wakened t o (putting s.role t (leaves (s.role t)) t)) free ∙ put_same s.role t _ ∙ ap leaves is,
  )

  pub clears : (d : Role) → s.role t ≡ d → d.empty ≡ Some Main → AllNeeded r (Clear Main ∷ []) s t
      × ((after_all r (Clear Main ∷ []) s t).role t ≡ record d { empty = None; will_bring = false })
  clears d is e = (
    (ap (λ (d : Role). d.empty) is ∙ e, tt),
    put_same s.role t _ ∙ ap (λ (d : Role). record d { empty = None; will_bring = false }) is,
  )

  -- inside the section of the line where it stands it leaves that, and finds whether nobody is left
  pub gives_up : IsSite r s → s.lock.pending ≡ None → s.role t ≡ record idle { inside = Some Main }
      → (b : Bool) → 1 ≤ times t s.lock.queue → b ≡ is_empty (without t s.lock.queue)
      → AllNeeded r (Case GivesUp ∷ []) s t
      × ((after_all r (Case GivesUp ∷ []) s t).role t ≡ record idle {
        inside = Some Main;
        empty = found Main b;
      })
  gives_up h alone is b stands left = (
    (
      (
        omega (arith, stands),
        subst (λ n. StandsIn s.lock t n × ((s.role t).has_taken ≡ false))
            (sym (ap (λ (d : Role). d.inside) is)) (beside, ap (λ (d : Role). d.has_taken) is),
      ),
      tt,
    ),
    put_same s.role t _
        ∙ (λ i. record (is i) {
          empty = late_found (record s.lock {
            queue = without t s.lock.queue;
            aside = aside_without t s.lock.aside;
          }) (is i).inside;
        })
        ∙ ap (λ c. record idle { inside = Some Main; empty = found Main c }) (sym left),
  )
    where
      beside : s.lock.aside ≢ Some t
      beside a = absurd (nobody_pends s.lock.pending alone (h.state.aside_pending t a))
        where
          nobody_pends : (o : Option Pending) → o ≡ None → IsSomePending o t → ⊥
          nobody_pends None e p = p
          nobody_pends (Some x) e p = cc
