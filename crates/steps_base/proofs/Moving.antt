-- Moves that many places have, each by what its place computes to.
use Rattle.std.proofs.Common.{ℕ, Bool, false, Option, Some, None, ◌≡◌, [], ◌∷◌, inl, refl, sym, ap, ◌∙◌}
use Rattle.core_base.specs.declared.keys.Line.{Line}
use Rattle.core_base.specs.declared.keys.Line.TheVariants.{Main, Second}
use Rattle.core_base.specs.declared.notes.Note.TheVariants.{Normal}
use Rattle.steps_base.specs.declared.acts.Reply.{Reply}
use Rattle.steps_base.specs.declared.acts.Reply.TheVariants.{Done, Value}
use Rattle.steps_base.specs.Acts.{wakes_taken}
use Rattle.steps_base.specs.Moves.{AreLeaving, AreOfWord, GoesIn, GoesOut, Hears, IsSectionFree, StepView}
use Rattle.steps_base.specs.Moves.{RowWaits, StaysPut, location_of, location_then}
use Rattle.steps_base.specs.Profiles.{Hand, hand, in_hand}
use Rattle.spec_locks.specs.Locks.{Rules}
use Rattle.spec_locks.specs.Sites.{In, Site}

module _ {x : StepView} where
  pub stays_put : ◌≡◌ {A = Option Line × Option Hand} ((location_of x).stands, (location_of x).hand)
      (None, None)
      → ((seen : ℕ) → AreOfWord (x.deeds None (Value seen)))
      → ((seen : ℕ) → location_then x (Value seen) ≡ location_of x) → StaysPut x
  stays_put e deeds goes = record {
    out = ap (λ p. p.0) e;
    free = ap (λ p. p.1) e;
    deeds = deeds;
    goes = goes;
  }

  module _ {hears : Hears} {m : Line} where
    pub goes_in : {told : Reply}
        → ◌≡◌ {A = Option Line × Option Hand} ((location_of x).inside, (location_of x).hand) (None, None)
        → x.deeds None told ≡ In m ∷ [] → location_then x told ≡ record (location_of x) { inside = Some m }
        → ((r : Rules) (s : Site) (t : ℕ) → IsSectionFree s m → hears r s t None told)
        → GoesIn x hears m told
    goes_in e deeds goes may = record {
      out = ap (λ p. p.0) e;
      free = ap (λ p. p.1) e;
      deeds = deeds;
      goes = goes;
      may = may;
    }

    pub goes_out : (any : Bool) → ◌≡◌ {A = Option Line × Option Bool × Option Hand}
        ((location_of x).inside, (location_of x).has_taken, (location_of x).hand) (
          Some m,
          in_hand any false,
          None,
        )
        → AreLeaving (x.deeds None Done)
        → location_then x Done ≡ record (location_of x) { inside = None; has_taken = None }
        → ((r : Rules) (s : Site) (t : ℕ) → s.lock.taken t ≡ None → hears r s t None Done)
        → GoesOut x hears m (wakes_taken any Normal)
    goes_out any e deeds goes may = record {
      any = any;
      notes = refl;
      inside = ap (λ p. p.0) e;
      has_taken = ap (λ p. p.1) e;
      free = ap (λ p. p.2) e;
      deeds = deeds;
      goes = goes;
      may = may;
    }

  -- the thread stands in no line, and is in nobody's hand
  pub awake : x.row.stands ≡ None → x.row.hand ≡ None → RowWaits x
  awake out free = record {
    aside = λ h. absurd (let e : ◌≡◌ {A = Option Line} None (Some Second) = sym out ∙ h in cc);
    stands = λ m h. absurd (let e : ◌≡◌ {A = Option Line} None (Some m) = sym out ∙ h in cc);
    held = λ u handed h. absurd (let e : ◌≡◌ {A = Option Hand} None (hand u handed) = sym free ∙ h in cc);
  }

  -- the thread is inside the section of the main line, where it stands
  pub stands_inside : x.row.stands ≡ Some Main → (location_of x).inside ≡ Some Main → x.row.hand ≡ None
      → RowWaits x
  stands_inside stood inside free = record {
    aside = λ h. absurd (let e : ◌≡◌ {A = Option Line} (Some Main) (Some Second) = sym stood ∙ h in cc);
    stands = λ m h. inl (inside ∙ sym stood ∙ h);
    held = λ u handed h. absurd (let e : ◌≡◌ {A = Option Hand} None (hand u handed) = sym free ∙ h in cc);
  }
