-- Each step while a lock is drained leaves it as if it had never been full.
use Rattle.std.proofs.Common.{ℕ, zero, suc, Bool, true, false, Option, Some, None, if◌then◌else◌, ◌==◌}
use Rattle.std.proofs.Common.{nat_lt, ◌≡◌, ◌≢◌, ◌<◌, List, [], ◌∷◌, ◌++◌, length, inl, inr, refl, sym, ◌∙◌}
use Rattle.std.proofs.Common.{ap, subst, arith}
use Rattle.std.proofs.lemmas.Bool.{ltb-true}
use Rattle.core_base.specs.declared.ops.Op.{Op}
use Rattle.spec_locks.specs.declared.kinds.Kind.{Kind}
use Rattle.spec_locks.specs.declared.kinds.Kind.TheVariants as kind
use Rattle.steps_base.specs.declared.acts.Act.{Act}
use Rattle.steps_base.specs.declared.acts.Act.TheVariants as act
use Rattle.steps_base.specs.declared.acts.Reply.TheVariants.{Value}
use Rattle.steps_base.specs.Acts.{takes_effect}
use Rattle.spec_locks.specs.Deeds.{AreOneCase, KeepLock}
use Rattle.spec_locks.specs.Locks.{Rules, Taken}
use Rattle.spec_locks.specs.Purposes.{rules_of}
use Rattle.spec_locks.specs.Sites.{IsSite, Deed, Begin, Out, Bring, Send, LeaveLine, Case, has_readers}
use Rattle.spec_locks.specs.Sites.{is_full}
use Rattle.steps_rwlock.specs.declared.places.Admission.{Admission}
use Rattle.steps_rwlock_fair.specs.declared.places.RwLockCallPlace.{RwLockCallPlace}
use Rattle.steps_rwlock_fair.specs.declared.hand_over.Taken.{Taken as Counted}
use Rattle.steps_rwlock_fair.specs.FairCalls.{CallStands, in_hand_of}
use Rattle.steps_rwlock_fair.specs.FairDeeds.{call_deeds}
use Rattle.steps_rwlock_fair.specs.FairMoves.{CallMoves, call_hears, call_move}
use Rattle.steps_rwlock_fair.specs.FairSteps.{call_act}
use Rattle.steps_rwlock_fair.proofs.FairActs.{fair_acts_move}
use Rattle.lot_steps.specs.declared.places.Place.{Place}
use Rattle.lot_steps.specs.declared.places.Place.TheVariants.{Idle, Mutex, RwLock, Once, Condvar, Semaphore}
use Rattle.lot_steps.specs.Steps.{act_of, next_place}
use Rattle.lot_machine.specs.Machine.{State, after, can_do, can_go, go_of, is_possible, kind_at, place_at}
use Rattle.lot_machine.specs.Machine.{put, reply_to, state_after_act, state_after_go, state_after_going}
use Rattle.lot_machine.specs.Machine.{unshared_then, word_at}
use Rattle.lot_machine.specs.Fits.{IsWellFormed}
use Rattle.lot_machine.proofs.Shape.{both}
use Rattle.lot_laws.specs.Refinement.{taken_at}
use Rattle.lot_laws.specs.ThreadDeeds.{acts}
use Rattle.lot_laws.specs.ThreadDeeds as deeds
use Rattle.lot_laws.specs.SitesOf.{AreCounted, FitsItsLock, Goes, IsInductive, is_mutex, rules_in, site_of}
use Rattle.lot_laws.proofs.hands.HandsStay.{claim_of, claims_given}
use Rattle.lot_laws.proofs.hands.HandsOn.{hands_fails, hands_goes, hands_tell, whom}
use Rattle.steps_base.specs.Moves.{claim_handed}
use Rattle.lot_laws.proofs.machine.KindsStay.{after_kinds}
use Rattle.lot_laws.proofs.sites.SitesKept.{go_by}
use Rattle.lot_laws.proofs.calls.OwnPlace.{goes_from_there}
use Rattle.lot_laws.proofs.rwlock.RwLockStepsAreEvents.{gives_counted, goes_unhanded}
use Rattle.lot_laws.proofs.rwlock.RwLockStaysASite.{stands}
use Rattle.lot_world.specs.Drained.{as_now}
use Rattle.lot_world.proofs.AsNow.{another}
use Rattle.lot_world.specs.Quiet.{IsDraining}
use Rattle.lot_world.specs.Full.{IsStrict}
use Rattle.lot_world.specs.Now.{AllKeep, DrainingGoesOn, HasOneCase, IsOneFollowed, KeepsLock}
use Rattle.lot_world.specs.Ordered.{IsOrdered}
use Rattle.lot_world.proofs.Full.{full_is_empty}
use Rattle.lot_world.proofs.Now.{step_keeps_now}
use Rattle.lot_world.proofs.Ordered.{here, ordered}

-- ---------------------------------------------------------------- deeds of one thread

keep_of : (t : ℕ) (ds : List Deed) → KeepLock ds → AllKeep (acts t ds)
keep_of t [] k = tt
keep_of t (Case case ∷ ds) k = absurd k
keep_of t (Out ∷ ds) k = absurd k
keep_of t (Bring taken moved ∷ ds) k = absurd k
keep_of t (Send all ∷ ds) k = absurd k
keep_of t (LeaveLine ∷ ds) k = absurd k
keep_of t (d ∷ ds) k = (tt, keep_of t ds k)

append_keep : (xs ys : List deeds.Act) → AllKeep xs → AllKeep ys → AllKeep (xs ++ ys)
append_keep [] ys h k = k
append_keep (x ∷ xs) ys h k = (h.0, append_keep xs ys h.1 k)

-- a deed that leaves the lock is followed by any
followed : (d : Deed) (rest more : Type 0) → KeepsLock d → more → IsOneFollowed d rest more
followed (Case case) rest more k m = absurd k
followed Out rest more k m = absurd k
followed (Bring taken moved) rest more k m = absurd k
followed (Send all) rest more k m = absurd k
followed LeaveLine rest more k m = absurd k
followed d rest more k m = m

keeps_have : (ys : List deeds.Act) → AllKeep ys → HasOneCase ys
keeps_have [] k = tt
keeps_have (a ∷ ys) k = followed a.deed (AllKeep ys) (HasOneCase ys) k.0 (keeps_have ys k.1)

one_of : (t : ℕ) (ds : List Deed) (ys : List deeds.Act) → AreOneCase ds → AllKeep ys
    → HasOneCase (acts t ds ++ ys)
one_of t [] ys one keep = keeps_have ys keep
one_of t (Case case ∷ ds) ys one keep = append_keep (acts t ds) ys (keep_of t ds one) keep
one_of t (Out ∷ ds) ys one keep = append_keep (acts t ds) ys (keep_of t ds one) keep
one_of t (Bring taken moved ∷ ds) ys one keep = absurd one
one_of t (Send all ∷ ds) ys one keep = absurd one
one_of t (LeaveLine ∷ ds) ys one keep = append_keep (acts t ds) ys (keep_of t ds one) keep
one_of t (d ∷ ds) ys one keep = one_of t ds ys one keep

nothing_after : (xs : List deeds.Act) → xs ++ [] ≡ xs
nothing_after [] = refl
nothing_after (x ∷ xs) = ap (λ y. x ∷ y) (nothing_after xs)

one_alone : (t : ℕ) (ds : List Deed) → AreOneCase ds → HasOneCase (acts t ds)
one_alone t ds one = subst HasOneCase (nothing_after (acts t ds)) (one_of t ds [] one tt)

-- the threads to which a lock is handed claim it
claims_keep : (t : ℕ) (alone : Bool) (u : ℕ) (o : Option Taken) → AllKeep (claim_of t alone u o)
claims_keep t alone u None = tt
claims_keep t alone u (Some h) = either (h.by == t)
  where
    either : (b : Bool) → AllKeep (if b then record {
      by = u;
      deed = Begin (Some (claim_handed alone h.want));
    } ∷ [] else [])
    either true = (tt, tt)
    either false = tt

given_keep : (t : ℕ) (alone : Bool) (taken : ℕ → Option Taken) (n : ℕ)
    → AllKeep (claims_given t alone taken n)
given_keep t alone taken zero = tt
given_keep t alone taken (suc n) = append_keep (claim_of t alone n (taken n)) (claims_given t alone taken n)
    (claims_keep t alone n (taken n)) (given_keep t alone taken n)

-- ---------------------------------------------------------------- a step at a reader-writer lock

-- the deeds of a step
pub record Led (w v : State) (l : ℕ) : Type 0 where
  pub ds : List deeds.Act
  pub goes : Goes w v l ds
  pub one : HasOneCase ds

module _ (w : State) (t l : ℕ) (a : Admission) (c : RwLockCallPlace) (inductive : IsInductive w)
    (shape : IsWellFormed w)
    (there : t < length w.places) (lt : l < length w.locks) (is : place_at w t ≡ RwLock l a c)
    (counted : AreCounted w) where
  abbrev leads : Act → State
  leads y = go_by w t (RwLock l a c) y

  may : CallStands a c
  may = stands w t l a c inductive shape there lt is

  plain : ((k : ℕ) (op : Op) → call_act l a c ≢ act.HandOver k op) → can_do w (call_act l a c) ≡ true
      → Led w (leads (call_act l a c)) l
  plain hands_nothing can =
      let from = goes_unhanded w t l a c inductive shape there lt is hands_nothing can in
      record {
        ds = acts t (call_deeds a c from.whom (reply_to w t (call_act l a c)));
        goes = from.goes;
        one = one_alone t (call_deeds a c from.whom (reply_to w t (call_act l a c))) from.tells.one;
      }

  module _ (k : Counted) (is_k : in_hand_of c ≡ Some k) (op : Op) (e : call_act l a c ≡ act.HandOver l op)
    where
      abbrev heir : Option ℕ
      heir = whom w t l a c inductive shape there lt is k is_k (counted t l a c k is is_k) op e

      told_one : AreOneCase (call_deeds a c heir (Value (word_at w l)))
      told_one = (hands_tell w t l a c inductive shape there lt is k is_k (counted t l a c k is is_k) op
          e).one

      abbrev given : List deeds.Act
      given = claims_given t (unshared_then w t l) (λ u. taken_at (place_at w u) l) (length w.places)

      by_effect : (b : Bool) → takes_effect op (word_at w l) ≡ b → Led w (leads (act.HandOver l op)) l
      by_effect true takes = record {
        ds = acts t (call_deeds a c heir (Value (word_at w l))) ++ given;
        goes = subst (λ q. Goes w (put (state_after_act w t (RwLock l a c) (act.HandOver l op)) t
            (next_place q (Value (word_at w l)))) l (acts t (call_deeds a c heir (Value (word_at w l)))
            ++ given)) is (hands_goes w t l a c inductive shape there lt is k is_k (counted t l a c k is is_k)
            op
            e
            takes);
        one = one_of t (call_deeds a c heir (Value (word_at w l))) given told_one
            (given_keep t (unshared_then w t l) (λ u. taken_at (place_at w u) l) (length w.places));
      }
      by_effect false fails = record {
        ds = acts t (call_deeds a c heir (Value (word_at w l)));
        goes = subst (λ q. Goes w (put (state_after_act w t (RwLock l a c) (act.HandOver l op)) t
            (next_place q (Value (word_at w l)))) l (acts t (call_deeds a c heir (Value (word_at w l))))) is
            (hands_fails w t l a c inductive shape there lt is k is_k (counted t l a c k is is_k) op e fails);
        one = one_alone t (call_deeds a c heir (Value (word_at w l))) told_one;
      }

  led : can_do w (call_act l a c) ≡ true → Led w (leads (call_act l a c)) l
  led can = by_act (call_act l a c) refl
    where
      by_act : (y : Act) → call_act l a c ≡ y → Led w (leads (call_act l a c)) l
      by_act (act.HandOver k op) e =
          let n = gives_counted l k a c op may e in
          let same_lock : k ≡ l = (subst (CallMoves l a.recursive (call_move a c) (call_hears a c)) e
          (fair_acts_move l a c may)).0 in
          let here_now : call_act l a c ≡ act.HandOver l op = e ∙ ap (λ j. act.HandOver j op) same_lock in
          subst (λ y. Led w (leads y) l) (sym here_now) (by_effect n.0 n.1 op here_now
          (takes_effect op (word_at w l)) refl)
      by_act y e = plain (λ k op f. let g : y ≡ act.HandOver k op = sym e ∙ f in cc) can

  -- where it may go on, that is where it goes
  goes_there : can_do w (call_act l a c) ≡ true → state_after_go w t ≡ leads (call_act l a c)
  goes_there can = ap (state_after_going w t) is ∙ goes_from_there w t (RwLock l a c) is tt

-- ---------------------------------------------------------------- any step

module _ (w : State) (t : ℕ) (h : IsDraining w) (strict : IsStrict w) where
  abbrev v : State
  v = after w (go_of t)

  abbrev Now : State → Type 0
  Now x = IsSite (rules_in x 0) (as_now (rules_in x 0) (site_of x 0))

  order : IsOrdered v
  order = ordered w t strict.ordered

  -- a lock that nobody shares was never full
  unshared : has_readers (rules_in v 0).sort ≡ false → Now v
  unshared e = another (rules_in v 0) (site_of v 0) (is_full (rules_in v 0) (site_of v 0).lock)
      (order.world.inductive.sites.site 0) (λ f. f) (λ f. inl (order.world.inductive.sites.unfilled 0 e))

  -- the deeds say so
  pub by_deeds : (x : State) → rules_in x 0 ≡ rules_in w 0 → has_readers (rules_in w 0).sort ≡ true
      → Led w x 0 → Now x
  by_deeds x same readers d =
      subst (λ r. IsSite r (as_now r (site_of x 0))) (sym same)
      (subst (λ y. IsSite (rules_in w 0) (as_now (rules_in w 0) y)) (sym d.goes.follows.site)
      (step_keeps_now (rules_in w 0) (site_of w 0) d.ds readers d.one h.now d.goes.follows.needed
      (full_is_empty w strict)))

  same_rules : rules_in v 0 ≡ rules_in w 0
  same_rules = ap rules_of (after_kinds w (go_of t) 0)

  pub unmutexed : (k : Kind) → is_mutex k ≡ true → has_readers (rules_of k).sort ≡ true → ⊥
  unmutexed kind.Mutex e f = cc
  unmutexed kind.Fair e f = cc
  unmutexed (kind.RwLock limit) e f = cc
  unmutexed (kind.Recursive limit) e f = cc
  unmutexed kind.Condvar e f = cc
  unmutexed kind.Once e f = cc
  unmutexed (kind.Semaphore permits) e f = cc

  shared : has_readers (rules_in w 0).sort ≡ true → Now v
  shared readers = by_possible (is_possible w (go_of t)) refl
    where
      went : t < length w.places → can_go w t ≡ true → Now (state_after_go w t)
      went there can = by_place (place_at w t) refl (strict.ordered.world.well_formed.places t)
          (strict.ordered.world.inductive.stands.calls t)
        where
          by_place : (p : Place) → place_at w t ≡ p → Rattle.lot_machine.specs.Fits.PlaceFits (length w.locks)
              p → FitsItsLock w p → Now (state_after_go w t)
          by_place Idle is fits of = absurd (let e : can_do w (act_of Idle) ≡ true =
              ap (λ q. can_do w (act_of q)) (sym is) ∙ can in cc)
          by_place (Mutex l at) is fits of =
              absurd (unmutexed (kind_at w l) of (subst (λ j. has_readers (rules_in w j).sort ≡ true)
              (let z : l < 1 = (let n = strict.ordered.lock.one in let q = fits.0 in omega arith)
              in let e : 0 ≡ l = omega arith in e) readers))
          by_place (RwLock l a c) is fits of =
              let zero_is : l ≡ 0 = (let n = strict.ordered.lock.one in omega arith) in
              let can_now : can_do w (call_act l a c) ≡ true = ap (λ q. can_do w (act_of q)) (sym is) ∙ can in
              let there_led = led w t l a c strict.ordered.world.inductive strict.ordered.world.well_formed
              there fits
              is strict.ordered.world.counted can_now in
              let at_zero : Led w (state_after_go w t) 0 = subst (Led w (state_after_go w t)) zero_is
              (subst (λ x. Led w x l) (sym (goes_there w t l a c strict.ordered.world.inductive
              strict.ordered.world.well_formed there fits is strict.ordered.world.counted can_now)) there_led)
              in
              by_deeds (state_after_go w t) (ap rules_of (at_zero.goes.follows.kinds 0)) readers at_zero
          by_place (Once l at) is fits of = absurd (elim (here w strict.ordered t) [
            | inl idle ↦ let e : Once l at ≡ Idle = sym is ∙ idle in cc
            | inr only ↦ subst Rattle.lot_world.specs.Standing.MayStandAt is only.1
          ])
          by_place (Semaphore l at) is fits of = absurd (elim (here w strict.ordered t) [
            | inl idle ↦ let e : Semaphore l at ≡ Idle = sym is ∙ idle in cc
            | inr only ↦ subst Rattle.lot_world.specs.Standing.MayStandAt is only.1
          ])
          by_place (Condvar l at) is fits of = absurd (elim (here w strict.ordered t) [
            | inl idle ↦ let e : Condvar l at ≡ Idle = sym is ∙ idle in cc
            | inr only ↦ subst Rattle.lot_world.specs.Standing.MayStandAt is only.1
          ])

      by_possible : (b : Bool) → is_possible w (go_of t) ≡ b → Now (if b then state_after_go w t else w)
      by_possible true e = let parts = both (nat_lt t (length w.places)) (can_go w t) e
          in went (ltb-true t (length w.places) parts.0) parts.1
      by_possible false e = h.now

  by_sort : (b : Bool) → has_readers (rules_in w 0).sort ≡ b → Now v
  by_sort true e = shared e
  by_sort false e = unshared (ap (λ (r : Rules). has_readers r.sort) same_rules ∙ e)

pub draining_goes_on : DrainingGoesOn
draining_goes_on w t h strict = record {
  world = (order w t h strict).world;
  lock = (order w t h strict).lock;
  few = (order w t h strict).few;
  now = by_sort w t h strict (has_readers (rules_in w 0).sort) refl;
}
