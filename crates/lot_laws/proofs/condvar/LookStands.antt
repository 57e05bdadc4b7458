-- A notification's first look at its condition variable: it stands nowhere, and no lock sees anything of it.
use Rattle.lot_laws.proofs.Imports
use Imports.{ℕ, Bool, true, false, None, ◌==◌, ◌||◌, ◌≡◌, ◌<◌, [], length, refl, sym, ◌∙◌, ap, subst, inl, inr}
use Imports.{cases_eq, or-false, nat_le, Value, Place, Condvar, condvar_goes, Look, Notify, condvar_next}
use Imports.{look_next, mutex_shown, count_in, code, has_readers, idle, State, filled_at, place_at, put}
use Imports.{state_after_act, word_at, acts, taken_at, role_on, location_at, FitsItsLock, Goes, IsInductive}
use Imports.{rules_in, putting}
use Rattle.std.specs.Prelude.{◌&&◌}
use Rattle.core_base.specs.declared.ops.Op.TheVariants as op
use Rattle.steps_base.specs.declared.acts.Act.TheVariants as act
use Rattle.steps_base.specs.Locations.{nowhere}
use Rattle.steps_condvar.specs.declared.notify.NotifyAt.TheVariants as notify
use Rattle.spec_locks.specs.Locks as locks
use Rattle.lot_laws.proofs.machine.Parts.{differ, parts_at, same, seen_in}
use Rattle.lot_laws.proofs.sites.OneStep.{steps_by, same_word}
use Rattle.lot_laws.proofs.sites.StandsKept.{Alike}
use Rattle.lot_laws.proofs.sites.Following.{lock_by, operated}
use Rattle.lot_laws.proofs.sites.ActsAt as acting

-- a place at which its thread stands nowhere
abbrev IsOut : Place → ℕ → Type 0
IsOut p k = (location_at p k ≡ nowhere) × (role_on p k ≡ idle) × (taken_at p k ≡ None)

module _ (l : ℕ) (all : Bool) where
  looks_out : (k : ℕ) → IsOut (Condvar l (Look all)) k
  looks_out k = elim (cases_eq l k) [
    | inl e ↦ rw (e, same k) (refl, refl, refl)
    | inr ne ↦ rw (differ l k ne) (refl, refl, refl)
  ]

  enters_out : (m k : ℕ) → IsOut (Condvar l (Notify all m notify.Enter)) k
  enters_out m k = elim (cases_eq l k) [
    | inl e ↦ elim (cases_eq m k) [
      | inl f ↦ rw (e, f, same k) (refl, refl, refl)
      | inr nf ↦ rw (e, same k, differ m k nf) (refl, refl, refl)
    ]
    | inr ne ↦ elim (cases_eq m k) [
      | inl f ↦ rw (differ l k ne, f, same k) (refl, refl, refl)
      | inr nf ↦ rw (differ l k ne, differ m k nf) (refl, refl, refl)
    ]
  ]

  next_out : (seen k : ℕ) (b : Bool) → (seen == 0) ≡ b → IsOut (condvar_goes l (look_next all seen)) k
  next_out seen k true e = rw e (refl, refl, refl)
  next_out seen k false e = rw e (enters_out (mutex_shown seen) k)

module _ (w : State) (t l : ℕ) (all : Bool) (inductive : IsInductive w) (is_there : t < length w.places)
    (lock : l < length w.locks)
    (sort : (rules_in w l).sort ≡ locks.Condvar) (is : place_at w t ≡ Condvar l (Look all)) where
  abbrev p2 : Place
  p2 = condvar_goes l (condvar_next (Look all) (Value (word_at w l)))

  alike : (k : ℕ) → Alike k (place_at w t) p2
  alike k = subst (λ q. Alike k q p2) (sym is) (let a = looks_out l all k in let b =
      next_out l all (word_at w l) k (word_at w l == 0) refl in record {
        location = b.0 ∙ sym a.0;
        role = b.1 ∙ sym a.1;
        taken = b.2 ∙ sym a.2;
      })

  -- the thread sees what is shown, and goes on
  pub looks : FitsItsLock w p2 → Goes w (put (state_after_act w t (Condvar l (Look all)) (act.Word l op.Load))
      t p2) l (acts t [])
  looks fits = acting.word_goes w t l inductive is_there (rules_in w l) refl p2 (λ k ne. alike k) fits
      (Condvar l (Look all)) lock (rw inductive.numbers.locks lock) op.Load [] (λ h. tt)
      (steps_by (rules_in w l) l (parts_at w l) (operated w t (Condvar l (Look all)) l op.Load) (place_at w) t
      p2 [] tt tt (sym (alike l).taken) refl refl refl filled_then (alike l).role)
      (inductive.sites.word l ∙ sym (code_same)) (alike l).location
    where
      filled_then : (operated w t (Condvar l (Look all)) l op.Load).base.filled ≡ filled_at w l
      filled_then = ap (λ b. filled_at w l || (b && nat_le (rules_in w l).limit (count_in (word_at w l))))
          (ap has_readers sort) ∙ or-false (filled_at w l)

      code_same : code (rules_in w l)
          (seen_in (rules_in w l) l (operated w t (Condvar l (Look all)) l op.Load)
          (putting (place_at w) t p2))
          ≡ code (rules_in w l) (lock_by w l (rules_in w l))
      code_same = same_word (rules_in w l).sort (rules_in w l).limit _ _ _ _ refl refl refl refl refl refl
