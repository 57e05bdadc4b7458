-- Each act of a reader-writer call is one that its thread may take.
use Rattle.std.proofs.Common.{ℕ, Bool, true, false, List, ◌∷◌, if◌then◌else◌, ◌==◌, ◌≡◌, inl, inr, ◌+◌, ◌*◌}
use Rattle.std.proofs.Common.{◌/◌, refl, ap, ◌∙◌, sym, subst}
use mathlib.Core.Logic.{dite}
use native.Mathlib.Decide.{ℕ_discrete}
use Rattle.std.proofs.lemmas.Bool.{eqb-true}
use Rattle.core_base.specs.Keys.{key_of}
use Rattle.core_base.specs.declared.keys.Keys.TheVariants.{One}
use Rattle.core_base.specs.declared.keys.Line.{Line}
use Rattle.core_base.specs.declared.keys.Line.TheVariants.{Main, Second}
use Rattle.core_base.specs.declared.notes.Note.TheVariants.{Normal}
use Rattle.core_base.specs.declared.ops.Op.{Op}
use Rattle.core_base.specs.declared.ops.Op.TheVariants.{Exchange}
use Rattle.spec_locks.specs.declared.calls.Access.TheVariants as access
use Rattle.spec_locks.specs.declared.calls.Patience.TheVariants.{Patient}
use Rattle.spec_locks.specs.declared.outcomes.Answer.TheVariants.{No}
use Rattle.spec_locks.specs.Codes.{count_in, has_aside, has_parked}
use Rattle.steps_base.specs.declared.acts.Act.{Act}
use Rattle.steps_base.specs.declared.acts.Act.TheVariants as act
use Rattle.steps_rwlock.specs.RwLockCalls.{StandsAt, IsNoRefusal}
use Rattle.steps_rwlock.specs.RwLockDeeds.{claimed, pends}
use Rattle.steps_rwlock.specs.RwLockSteps.{wanted, access_of, decided_for, decided_act, plus, exchange}
use Rattle.steps_rwlock.specs.RwLockSteps.{rollback_op, unparked, want_at, act_at, park_act, wake_act}
use Rattle.steps_rwlock.specs.declared.enter.Decision.{Decision}
use Rattle.steps_rwlock.specs.declared.enter.Decision.TheVariants as decisions
use Rattle.steps_rwlock.specs.declared.park.ParkAt.{ParkAt}
use Rattle.steps_rwlock.specs.declared.park.ParkAt.TheVariants as parking
use Rattle.steps_rwlock.specs.declared.places.Admission.{Admission}
use Rattle.steps_rwlock.specs.declared.places.RwLockAt.{RwLockAt}
use Rattle.steps_rwlock.specs.declared.places.RwLockAt.TheVariants as at
use Rattle.steps_rwlock.specs.declared.places.RwLockPlace.{RwLockPlace}
use Rattle.steps_rwlock.specs.declared.purposes.RwLockPurpose.{RwLockPurpose}
use Rattle.steps_rwlock.specs.declared.purposes.RwLockPurpose.TheVariants as purpose
use Rattle.steps_rwlock.specs.declared.release.WakeAt.{WakeAt}
use Rattle.steps_rwlock.specs.declared.release.WakeAt.TheVariants as waking
use Rattle.core_words.specs.Steps.{MayStep, has, without}
use Rattle.core_words.specs.Views.{owning}
use Rattle.core_words.specs.declared.owners.Owner.{Owner}
use Rattle.core_words.specs.declared.owners.Owner.TheVariants as owners
use Rattle.core_words.specs.declared.owners.Ownership.{Ownership}
use Rattle.core_words.specs.declared.words.WordKind.TheVariants as kinds
use Rattle.core_words.proofs.RwLockKinds.{rwlock_steps}
use Rattle.core_words.proofs.RwLockOwning.{first_goes, has_first}
use Rattle.run_base.specs.Paths.{rwlock_at, rwlocks, at_rwlock}
use Rattle.run_base.specs.RwLockFitting.{OwnsBeside, FitsRwLock, IsBeside}
use Rattle.run_base.specs.Stages.{ThreadState, ActNeeds, HasKey, IsFresh, MayLeave, entered_now}
use Rattle.run_base.proofs.RwLockDeciding.{marks, marks_aside, marks_clear, takes_shared, takes_upgradable}
use Rattle.run_base.proofs.RwLockDeciding.{takes_exclusive, upgrades}

-- a right that is claimed is there
has_owned : (l : ℕ) (o : Owner) (rest owns : List Ownership) → owns ≡ owning (rwlock_at l) o ∷ rest
    → has (owning (rwlock_at l) o) owns ≡ true
has_owned l o rest owns e = subst (λ (x : List Ownership). has (owning (rwlock_at l) o) x ≡ true) (sym e)
    (has_first (rwlock_at l) o rest)

pub has_right : (l : ℕ) (o : Owner) (base owns : List Ownership) → (owner : Owner) × (rest : List Ownership)
    × (owner ≡ o) × IsBeside l base rest × (owns ≡ owning (rwlock_at l) owner ∷ rest)
    → has (owning (rwlock_at l) o) owns ≡ true
has_right l o base owns c = has_owned l o c.1 owns (c.4 ∙ ap (λ (w : Owner). owning (rwlock_at l) w ∷ c.1)
    c.2)

-- tells what is left beside a right, once that is split off
pub left_beside : (l : ℕ) (o : Owner) (base owns : List Ownership) → (owner : Owner) × (rest : List Ownership)
    × (owner ≡ o) × IsBeside l base rest × (owns ≡ owning (rwlock_at l) owner ∷ rest)
    → IsBeside l base (without (owning (rwlock_at l) o) owns)
left_beside l o base owns c = λ settled. ap (without (owning (rwlock_at l) o)) (c.4
    ∙ ap (λ (w : Owner). owning (rwlock_at l) w ∷ c.1) c.2) ∙ first_goes (rwlock_at l) o c.1 ∙ c.3 settled

module _ (up : Type 0) (l : ℕ) (a : Admission) (base : List Ownership) (q : RwLockPurpose) (again : Bool)
    (st : ThreadState) where
  abbrev of : RwLockAt → RwLockPlace
  of to = record { purpose = q; retries = again; at = to }

  abbrev Fits : RwLockAt → Type 0
  Fits to = FitsRwLock up l base a (of to) st

  abbrev Can : Act → Type 0
  Can = ActNeeds rwlocks (at_rwlock l) st

  abbrev May : Op → Type 0
  May op = MayStep kinds.RwLock (rwlock_at l) op st.owns

  may_take : (to from : ℕ) → plus from to ≡ from + to → May (Exchange from (from + to))
      → May (Exchange from (plus from to))
  may_take to from e m = subst (λ (k : ℕ). May (Exchange from k)) (sym e) m

  -- by what it decides about the value that it saw
  takes_needs : (seen : ℕ) → Fits (at.Decide seen) → decided_for a q seen ≡ decisions.Take
      → Can (decided_act l q seen decisions.Take)
  takes_needs seen f = by_purpose q f.stands.place f.owns
    where
      by_purpose : (r : RwLockPurpose) → StandsAt r again (at.Decide seen)
          → OwnsBeside l (claimed r) base st.owns → decided_for a r seen ≡ decisions.Take
          → Can (decided_act l r seen decisions.Take)
      by_purpose (purpose.Enter access.Shared how) stands owns e = let t = takes_shared a how seen f.room e
          in may_take 16 seen t.0 ((rwlock_steps (rwlock_at l) st.owns).read seen t.2 t.1)
      by_purpose (purpose.Enter access.Upgradable how) stands owns e = let t =
          takes_upgradable a how seen f.room e
          in may_take 20 seen t.0 ((rwlock_steps (rwlock_at l) st.owns).enter_upgradable seen t.2 t.1)
      by_purpose (purpose.Enter access.Exclusive how) stands owns e = let t =
          takes_exclusive a how seen f.seen e
          in may_take 8 seen t.0 ((rwlock_steps (rwlock_at l) st.owns).write seen t.1)
      by_purpose (purpose.Release access.Shared) stands owns e = absurd stands
      by_purpose (purpose.Release access.Upgradable) stands owns e = absurd stands
      by_purpose (purpose.Release access.Exclusive) stands owns e = absurd stands
      by_purpose (purpose.Downgrade d) stands owns e = absurd stands
      by_purpose (purpose.Upgrade how) stands owns e = dite (ℕ_discrete (seen / 16) 1)
          (λ one. subst (λ (k : ℕ). May (Exchange seen k)) (sym (upgrades seen f.seen one))
          ((rwlock_steps (rwlock_at l) st.owns).try_upgrade seen (has_right l owners.Upgradable base
          st.owns owns) one))
          (λ more. absurd (refused (count_in seen == 1) e (λ t. more (eqb-true (count_in seen) 1 t))))
        where
          refused : (b : Bool) → (if b then decisions.Take else decisions.Refuse No) ≡ decisions.Take
              → (b ≡ true → ⊥) → ⊥
          refused true e n = n refl
          refused false e n = cc

  marks_needs : (seen : ℕ) → Fits (at.Decide seen) → decided_for a q seen ≡ decisions.Mark
      → Can (decided_act l q seen decisions.Mark)
  marks_needs seen f e = let m = marks seen f.seen (clear q e)
      in may_take 1 seen m.0 ((rwlock_steps (rwlock_at l) st.owns).set_parked seen m.1)
    where
      never : (b : Bool) → (if b then decisions.Take else decisions.Refuse No) ≡ decisions.Mark → ⊥
      never true e = cc
      never false e = cc

      clear : (r : RwLockPurpose) → decided_for a r seen ≡ decisions.Mark → has_parked seen ≡ false
      clear (purpose.Enter x how) e = marks_clear a how seen (wanted x) e
      clear (purpose.Release x) e = marks_clear a Patient seen (wanted x) e
      clear (purpose.Downgrade d) e = marks_clear a Patient seen (wanted (access_of (purpose.Downgrade d))) e
      clear (purpose.Upgrade how) e = absurd (never (count_in seen == 1) e)

  decides_needs : (seen : ℕ) → Fits (at.Decide seen) → (d : Decision) → decided_for a q seen ≡ d
      → Can (decided_act l q seen d)
  decides_needs seen f decisions.Take e = takes_needs seen f e
  decides_needs seen f decisions.Mark e = marks_needs seen f e
  decides_needs seen f decisions.Park e = (tt, f.within)
  decides_needs seen f (decisions.Refuse answer) e = absurd (subst IsNoRefusal e f.stands.decided)

  counts_needs : (seen : ℕ) → Fits (at.Count seen) → (b : Bool) → has_aside seen ≡ b
      → Can (if b then act.Enter (One (2 * l + 1)) else exchange l seen (plus seen 2))
  counts_needs seen f true e = (tt, f.within)
  counts_needs seen f false e = let m = marks_aside seen f.seen e
      in may_take 2 seen m.0 ((rwlock_steps (rwlock_at l) st.owns).set_writer_parked seen m.1)

  clears : (m : Line) → May (unparked m)
  clears Main = (rwlock_steps (rwlock_at l) st.owns).clear_parked
  clears Second = (rwlock_steps (rwlock_at l) st.owns).clear_writer_parked

  -- in a section where nothing was done
  keyed : (key : ℕ) → st.inside ≡ entered_now (One key) → HasKey key st.inside
  keyed key e = subst (HasKey key) (sym e) refl

  unchanged : (key : ℕ) → st.inside ≡ entered_now (One key) → MayLeave Normal st.inside
  unchanged key e = subst (MayLeave Normal) (sym e) refl

  parks_needs : (to : ParkAt) → Fits (at.Park to) → Can (park_act l a (want_at (of (at.Park to))) Main to)
  parks_needs parking.Check f = ((rwlock_steps (rwlock_at l) st.owns).load, keyed (2 * l) f.within)
  parks_needs (parking.Leave true) f = unchanged (2 * l) f.within
  parks_needs (parking.Leave false) f = unchanged (2 * l) f.within
  parks_needs parking.Asleep f = f.within
  parks_needs (parking.Taken by) f = f.within
  parks_needs parking.Remove f = keyed (2 * l) f.within
  parks_needs parking.Clear f = clears Main
  parks_needs parking.GiveUp f = unchanged (2 * l) f.within

  aside_needs : (to : ParkAt) → Fits (at.Aside to) → Can (park_act l a (want_at (of (at.Aside to))) Second to)
  aside_needs parking.Check f = ((rwlock_steps (rwlock_at l) st.owns).load, keyed (2 * l + 1) f.within)
  aside_needs (parking.Leave true) f = unchanged (2 * l + 1) f.within
  aside_needs (parking.Leave false) f = unchanged (2 * l + 1) f.within
  aside_needs parking.Asleep f = f.within
  aside_needs (parking.Taken by) f = f.within
  aside_needs parking.Remove f = keyed (2 * l + 1) f.within
  aside_needs parking.Clear f = clears Second
  aside_needs parking.GiveUp f = unchanged (2 * l + 1) f.within

  rolls_needs : Fits at.RollBack → Can (act.Word l (rollback_op q))
  rolls_needs f = by_purpose q f.stands.place f.owns
    where
      by_purpose : (r : RwLockPurpose) → StandsAt r again at.RollBack → OwnsBeside l (pends r) base st.owns
          → Can (act.Word l (rollback_op r))
      by_purpose (purpose.Enter x how) stands (o, rest, inl is, beside, e) =
          (rwlock_steps (rwlock_at l) st.owns).leave_exclusive (has_right l owners.Exclusive base st.owns (
            o,
            rest,
            is,
            beside,
            e,
          ))
      by_purpose (purpose.Enter x how) stands (o, rest, inr is, beside, e) =
          (rwlock_steps (rwlock_at l) st.owns).give_up (has_right l owners.Pending base st.owns (
            o,
            rest,
            is,
            beside,
            e,
          ))
      by_purpose (purpose.Upgrade how) stands (o, rest, inl is, beside, e) =
          (rwlock_steps (rwlock_at l) st.owns).downgrade_to_upgradable (has_right l owners.Exclusive base
          st.owns (o, rest, is, beside, e))
      by_purpose (purpose.Upgrade how) stands (o, rest, inr is, beside, e) =
          (rwlock_steps (rwlock_at l) st.owns).fall_back (has_right l owners.Upgrading base st.owns (
            o,
            rest,
            is,
            beside,
            e,
          ))
      by_purpose (purpose.Release access.Shared) stands owns = absurd stands
      by_purpose (purpose.Release access.Upgradable) stands owns = absurd stands
      by_purpose (purpose.Release access.Exclusive) stands owns = absurd stands
      by_purpose (purpose.Downgrade d) stands owns = absurd stands

  wakes_needs : (m : Line) (to : WakeAt) → Fits (at.Wake m to) → Can (wake_act l a q m to)
  wakes_needs m waking.Enter f = (tt, f.within)
  wakes_needs m waking.Take f = (keyed (key_of l m) f.within, subst IsFresh (sym f.within) refl)
  wakes_needs m (waking.Clear any) f = clears m
  wakes_needs m (waking.Leave true) f = subst (MayLeave Normal) (sym f.within.1) refl
  wakes_needs m (waking.Leave false) f = subst (MayLeave Normal) (sym f.within.1) refl

  -- the needs of the place's act are there
  pub rwlock_needs : (to : RwLockAt) → Fits to → Can (act_at l a (of to) to)
  rwlock_needs at.First f = (rwlock_steps (rwlock_at l) st.owns).write_alone
  rwlock_needs at.Load f = (rwlock_steps (rwlock_at l) st.owns).load
  rwlock_needs (at.Decide seen) f = decides_needs seen f (decided_for a q seen) refl
  rwlock_needs (at.Park to) f = parks_needs to f
  rwlock_needs at.Look f = (rwlock_steps (rwlock_at l) st.owns).load
  rwlock_needs (at.Count seen) f = counts_needs seen f (has_aside seen) refl
  rwlock_needs at.Marked f = (tt, f.within)
  rwlock_needs (at.Aside to) f = aside_needs to f
  rwlock_needs at.RollBack f = rolls_needs f
  rwlock_needs at.GiveWay f = absurd f.begun
  rwlock_needs (at.Wake m to) f = wakes_needs m to f
