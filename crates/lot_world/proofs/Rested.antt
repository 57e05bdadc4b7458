-- Where nobody goes on, each thread is in no call or asleep, and nobody is inside a section.
use Rattle.std.proofs.Common.{ℕ, zero, suc, Bool, true, false, Option, Some, None, ◌≡◌, ◌*◌, length, inl, inr}
use Rattle.std.proofs.Common.{is_none, refl, sym, ◌∙◌, ap, subst, arith}
use Rattle.std.proofs.lemmas.List.{get_or_past}
use Rattle.steps_base.specs.declared.acts.Act.{Act}
use Rattle.steps_base.specs.declared.acts.Act.TheVariants as act
use Rattle.spec_locks.specs.Locks.{rights_of}
use Rattle.spec_locks.specs.Sites.{Line, Main, Second}
use Rattle.lot_steps.specs.declared.places.Place.{Place}
use Rattle.lot_steps.specs.declared.places.Place.TheVariants.{Idle}
use Rattle.lot_steps.specs.Steps.{act_of, is_idle, is_lock}
use Rattle.lot_machine.specs.Machine.{State, place_at, section_at}
use Rattle.lot_laws.specs.Refinement.{lock_state, sleeps}
use Rattle.lot_laws.specs.SitesOf.{key_of}
use Rattle.lot_laws.specs.Locations.{location, location_at}
use Rattle.lot_rests.specs.Rests.{NobodyGoes}
use Rattle.lot_rests.proofs.Rest.{quiet}
use Rattle.lot_world.proofs.Sleepers.{sleepers_rest}
use Rattle.lot_world.specs.Quiet.{AtRest}
use Rattle.lot_world.specs.Ordered.{IsOrdered, NobodyInside}
use Rattle.lot_world.proofs.Quiet.{OnlyHere}
use Rattle.lot_world.proofs.Ordered.{here, idle_call, idle_is, never_closes}

-- a thread that rests is inside nowhere
outside_at : (p : Place) → OnlyHere p → AtRest p → (m : Line) → (location_at p 0).inside ≡ Some m → ⊥
outside_at p only (inl idle) m e = let f : (location_at Idle 0).inside ≡ Some m =
    subst (λ q. (location_at q 0).inside ≡ Some m) idle e in let g : ◌≡◌ {A = Option Line} None (Some m) = f
    in cc
outside_at p (inl idle) (inr asleep) m e = let f : (location_at Idle 0).inside ≡ Some m =
    subst (λ q. (location_at q 0).inside ≡ Some m) idle e in let g : ◌≡◌ {A = Option Line} None (Some m) = f
    in cc
outside_at p (inr only) (inr asleep) m e =
    let own : location_at p 0 ≡ location p = rw (ap (is_lock 0) only.0) refl in
    let g : ◌≡◌ {A = Option Line} None (Some m) = sym (sleepers_rest p only.1 asleep).1
    ∙ sym (ap (λ x. x.inside) own) ∙ e in cc

asleep_is : (a : Act) → sleeps a ≡ true → a ≡ act.Sleep
asleep_is act.Sleep e = refl
asleep_is a e = absurd cc

module _ (w : State) (h : IsOrdered w) (stuck : NobodyGoes w) where
  pub rest : (t : ℕ) → AtRest (place_at w t)
  rest t = by_idle (is_idle (place_at w t)) refl
    where
      by_idle : (b : Bool) → is_idle (place_at w t) ≡ b → AtRest (place_at w t)
      by_idle true e = inl (idle_is (place_at w t) e)
      by_idle false e = elim (quiet w h.world stuck t (λ none. let f : is_idle (place_at w t) ≡ true =
          idle_call (place_at w t) (λ l. rights_of (lock_state w l) t) (here w h t) ∙ ap is_none none in
          let g : true ≡ false = sym f ∙ e in cc)) [
            | inl asleep ↦ inr (asleep_is (act_of (place_at w t)) asleep)
            | inr closure ↦ absurd (let f = never_closes (place_at w t) (here w h t) in let g : true ≡ false =
                sym closure ∙ f in cc)
          ]

  by_line : (m : Line) → section_at w (key_of 0 m) ≡ None
  by_line m = by_thread (section_at w (key_of 0 m)) refl
    where
      by_thread : (o : Option ℕ) → section_at w (key_of 0 m) ≡ o → section_at w (key_of 0 m) ≡ None
      by_thread None e = e
      by_thread (Some t) e = absurd (outside_at (place_at w t) (here w h t) (rest t) m
          ((h.world.inductive.stands.sections t 0 m).1 e))

  pub all_free : NobodyInside w
  all_free zero = by_line Main
  all_free (suc zero) = by_line Second
  all_free (suc (suc key)) = get_or_past w.sections (suc (suc key)) None (let n : length w.sections
      ≡ 2 * length w.locks = h.world.well_formed.sections in let one : length w.locks ≡ 1 = h.lock.one
      in omega arith)
