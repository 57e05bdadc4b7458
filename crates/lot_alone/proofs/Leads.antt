-- Some steps of a thread alone, and to where they lead.
use Rattle.lot_laws.proofs.Imports
use Imports.{ℕ, zero, suc, Bool, true, false, Some, None, if◌then◌else◌, ◌&&◌, ◌≡◌, ◌+◌, ◌≤◌, ◌⊎◌, nat_lt}
use Imports.{length, is_none, inl, inr, refl, sym, ◌∙◌, ap, subst, arith, slice_index_or, One, Two, Act}
use Imports.{Outcome, act_of, State, after, can_do, go_of, go_outcome, place_at, section_at, solo, step_outcome}
use Imports.{key_of, EntersSection, IsBarred, EndsOrSleeps}
use Rattle.steps_base.specs.declared.acts.Act.TheVariants as act
use Rattle.spec_locks.specs.declared.outcomes.Outcome.TheVariants as outcome
use Rattle.lot_alone.proofs.AloneSteps.{rests_after}

-- after at most k steps of the thread alone its call rests, and then this holds
abbrev pub LeadsSurely : ℕ → State → ℕ → (State → Outcome → Type 0) → Type 0
LeadsSurely k w t P = (n : ℕ) (last : Outcome) → k ≤ n → P (solo n w t last).state (solo n w t last).outcome

-- a fact holds, or the thread is barred
abbrev pub OrBarred : ℕ → (State → Outcome → Type 0) → State → Outcome → Type 0
OrBarred t P v x = P v x ⊎ IsBarred v t

-- after at most k steps of the thread alone its call rests, and then this holds, or the thread is barred
abbrev pub Leads : ℕ → State → ℕ → (State → Outcome → Type 0) → Type 0
Leads k w t P = LeadsSurely k w t (OrBarred t P)

-- the consequence of this holds, or the thread is barred
pub or_so : {A B C : Type 0} → (A → B) → A ⊎ C → B ⊎ C
or_so so (inl a) = inl (so a)
or_so so (inr c) = inr c

-- ---------------------------------------------------------------- threads that are barred

neither : (a : Bool) {b : Bool} → b ≡ false → (a && b) ≡ false
neither true e = e
neither false e = refl

full_cannot : (w : State) (key u : ℕ) → section_at w key ≡ Some u → (a : Act) → EntersSection key a
    → can_do w a ≡ false
full_cannot w key u inside (act.Enter (One k)) e = ap (λ n. is_none (section_at w n)) e ∙ ap is_none inside
full_cannot w key u inside (act.Enter (Two j k)) (inl e) = ap (λ b. b && is_none (section_at w k))
    (ap (λ n. is_none (section_at w n)) e ∙ ap is_none inside)
full_cannot w key u inside (act.Enter (Two j k)) (inr e) = neither (is_none (section_at w j))
    (ap (λ n. is_none (section_at w n)) e ∙ ap is_none inside)
full_cannot w key u inside a e = absurd e

-- no step of it is possible
pub barred_stays : (w : State) (t : ℕ) → IsBarred w t → step_outcome w (go_of t) ≡ outcome.NotNow
barred_stays w t b = ap (λ c. if nat_lt t (length w.places) && c then go_outcome w t
    else outcome.NotNow) (full_cannot w (key_of b.lock b.line) b.other b.inside
    (act_of (place_at w t)) b.enters)
    ∙ ap (λ (c : Bool). if c then go_outcome w t else outcome.NotNow)
    (neither (nat_lt t (length w.places)) refl)

-- another state in which it does the same, with the same threads inside
pub barred_as : (w v : State) (t : ℕ) → w.sections ≡ v.sections → act_of (place_at w t) ≡ act_of
    (place_at v t) → IsBarred w t → IsBarred v t
barred_as w v t sections acts b = record {
  lock = b.lock;
  line = b.line;
  other = b.other;
  enters = subst (EntersSection (key_of b.lock b.line)) acts b.enters;
  inside = ap (λ ss. slice_index_or ss (key_of b.lock b.line) None) (sym sections) ∙ b.inside;
  another = b.another;
}

-- ---------------------------------------------------------------- step by step

module _ (w : State) (t : ℕ) (P : State → Outcome → Type 0) where
  pub surely_rest : (o : Outcome) → step_outcome w (go_of t) ≡ o → EndsOrSleeps o → P (after w (go_of t)) o
      → LeadsSurely 1 w t P
  unfolding solo
  surely_rest o told rest h zero last le = absurd (omega arith)
  surely_rest o told rest h (suc n) last le =
      rw (
        told,
        rests_after o w (after w (go_of t)) last
            (solo n (after w (go_of t)) t outcome.Step) (λ e. subst EndsOrSleeps e rest)
            (λ e. subst EndsOrSleeps e rest),
      ) h

  pub surely_step : (k : ℕ) → step_outcome w (go_of t) ≡ outcome.Step
      → LeadsSurely k (after w (go_of t)) t P
      → LeadsSurely (k + 1) w t P
  unfolding solo
  surely_step k told more zero last le = absurd (omega arith)
  surely_step k told more (suc n) last le = rw told (more n outcome.Step (omega arith))

module _ (w : State) (t : ℕ) (P : State → Outcome → Type 0) where
  pub leads_rest : (o : Outcome) → step_outcome w (go_of t) ≡ o → EndsOrSleeps o → P (after w (go_of t)) o
      → Leads 1 w t P
  leads_rest o told rest h = surely_rest w t (OrBarred t P) o told rest (inl h)

  pub leads_step : (k : ℕ) → step_outcome w (go_of t) ≡ outcome.Step
      → Leads k (after w (go_of t)) t P
      → Leads (k + 1) w t P
  leads_step k told more = surely_step w t (OrBarred t P) k told more

  -- where it is barred it takes no step
  pub leads_barred : (k : ℕ) → IsBarred w t → Leads k w t P
  unfolding solo
  leads_barred k b zero last le = inr b
  leads_barred k b (suc n) last le = rw (barred_stays w t b) (inr b)

pub leads_more : (k m : ℕ) (w : State) (t : ℕ) (P : State → Outcome → Type 0) → k ≤ m → Leads k w t P
    → Leads m w t P
leads_more k m w t P le h n last bound = h n last (omega arith)

pub leads_then : (k : ℕ) (w : State) (t : ℕ) (P Q : State → Outcome → Type 0)
    → ((v : State) (x : Outcome) → P v x → OrBarred t Q v x) → Leads k w t P → Leads k w t Q
leads_then k w t P Q so h n last bound = elim (h n last bound) [
  | inl e ↦ so _ _ e
  | inr b ↦ inr b
]

pub leads_so : (k : ℕ) (w : State) (t : ℕ) (P Q : State → Outcome → Type 0)
    → ((v : State) (x : Outcome) → P v x → Q v x)
    → Leads k w t P → Leads k w t Q
leads_so k w t P Q so h = leads_then k w t P Q (λ v x e. inl (so v x e)) h
