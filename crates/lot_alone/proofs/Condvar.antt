-- A thread that steps alone in a call of a condition variable: where each of its acts leads it.
use Rattle.lot_laws.proofs.Imports
use Imports.{ℕ, true, Option, Some, None, if◌then◌else◌, ◌≡◌, ◌⊎◌, ◌+◌, ◌*◌, ◌<◌, length, get_or-set_same, inl}
use Imports.{inr, refl, sym, ◌∙◌, ap, subst, arith, lt-ltb, Op, apply, Outcome, Next, Reply, outcome_of}
use Imports.{Location, location_by, CondvarPlace, IsReached, MayReply, after_condvar_deeds, condvar_deeds}
use Imports.{condvar_profile, mutex_side, condvar_act, condvar_next, mutex_beside, Place, Idle, Condvar, act_of}
use Imports.{condvar_does, condvar_goes, next_act, next_place, Line, Main, IsThere, PlaceFits, SameSize, State}
use Imports.{after, can_do, go_of, go_outcome, going_outcome, is_possible, place_at, put, reply_to, section_at}
use Imports.{state_after_act, state_after_go, state_after_going, step_outcome, unlocked, word_at, after_size}
use Imports.{performed_counts, lock_state, location_at, IsWorld, condvar_of, EntersSection, IsBarred}
use Rattle.spec_locks.specs.declared.kinds.Kind.TheVariants as kind
use Rattle.spec_locks.specs.declared.outcomes.Outcome.TheVariants as outcome
use Rattle.steps_base.specs.declared.acts.Act.TheVariants as act
use Rattle.steps_base.specs.declared.acts.Next.TheVariants as next
use Rattle.lot_laws.proofs.condvar.Replies.{fits_here, may_hear, location_beside}
use Rattle.lot_laws.proofs.condvar.Sites.{location_there}
use Rattle.lot_laws.proofs.condvar.MachineFollows.{goes_led}
use Rattle.lot_alone.proofs.Leads.{Leads, leads_more, leads_rest, leads_step}

-- ---------------------------------------------------------------- a step

-- the thread stands at this place
pub record GoesAlone (w : State) (t l m : ℕ) (p : CondvarPlace) : Type 0 where
  pub world : IsWorld w
  pub thread : t < length w.places
  pub place : place_at w t ≡ Condvar l p

-- a fact of a world holds after each step of the thread
abbrev pub Keeps : ℕ → Type 0
Keeps t = (v : State) → IsWorld v → IsWorld (after v (go_of t))

module _ (t l m : ℕ) (keeps : Keeps t) (w : State) (p : CondvarPlace) (g : GoesAlone w t l m p) where
  pub reached : IsReached p
  reached = (fits_here w t l p g.world.inductive g.place).reached

  fits : PlaceFits (length w.locks) (Condvar l p)
  fits = subst (PlaceFits (length w.locks)) g.place (g.world.well_formed.places t)

  pub lock_there : l < length w.locks
  lock_there = fits.0

  pub mutex_there : mutex_beside p ≡ Some m → m < length w.locks
  mutex_there beside = subst (IsThere (length w.locks)) beside fits.1

  -- a thread that is inside bars it, where it is outside and its act enters
  barred_by : (k u : ℕ) → EntersSection (2 * k) (condvar_act l p) → (location_at (place_at w t) k).inside
      ≡ None
      → section_at w (2 * k) ≡ Some u → IsBarred w t
  barred_by k u enters outside e = record {
    lock = k;
    line = Main;
    other = u;
    enters = subst (λ x. EntersSection (2 * k) (act_of x)) (sym g.place) enters;
    inside = e;
    another = λ mine. let within : (location_at (place_at w t) k).inside ≡ Some Main =
        (g.world.inductive.stands.sections t k Main).1 (e ∙ ap Some mine) in
        let both : ◌≡◌ {A = Option Line} None (Some Main) = sym outside ∙ within in cc;
  }

  free_or_barred : (k : ℕ) → EntersSection (2 * k) (condvar_act l p) → (location_at (place_at w t) k).inside
      ≡ None
      → (section_at w (2 * k) ≡ None) ⊎ IsBarred w t
  free_or_barred k enters outside = by_who (section_at w (2 * k)) refl
    where
      by_who : (o : Option ℕ) → section_at w (2 * k) ≡ o → (section_at w (2 * k) ≡ None) ⊎ IsBarred w t
      by_who None e = inl e
      by_who (Some u) e = inr (barred_by k u enters outside e)

  -- outside of a section that its act enters it finds it free, or is barred
  pub free_here : EntersSection (2 * l) (condvar_act l p) → (location_by (condvar_profile p)).inside ≡ None
      → (section_at w (2 * l) ≡ None) ⊎ IsBarred w t
  free_here enters outside = free_or_barred l enters (ap (λ (y : Location). y.inside)
      (location_there w g.world.inductive.stands t l p g.place) ∙ outside)

  pub free_beside : EntersSection (2 * m) (condvar_act l p) → mutex_beside p ≡ Some m
      → (location_by (mutex_side p)).inside ≡ None
      → (section_at w (2 * m) ≡ None) ⊎ IsBarred w t
  free_beside enters beside outside = free_or_barred m enters (ap (λ (y : Location). y.inside)
      (location_beside w t l p g.world.inductive g.place m beside) ∙ outside)

  -- where it goes, at first or once its act has befallen it too
  module _ (can : can_do w (condvar_act l p) ≡ true) where
    abbrev acted : State
    acted = state_after_act w t (Condvar l p) (condvar_act l p)

    abbrev told : Reply
    told = reply_to w t (condvar_act l p)

    possible : is_possible w (go_of t) ≡ true
    possible = rw (lt-ltb t (length w.places) g.thread, g.place) can

    goes : after w (go_of t) ≡ state_after_going w t (Condvar l p)
    goes = ap (λ b. if b then state_after_go w t else w) possible ∙ ap (state_after_going w t) g.place

    -- the locks and the lines are as the act has left them
    pub so_then : {A : Type 0} (f : State → A) → ((q : Place) → f (put acted t q) ≡ f acted)
        → f (after w (go_of t)) ≡ f acted
    so_then f blind = ap f goes ∙ blind (next_place (place_at acted t) told)

    pub word_then : (x : Op) → mutex_beside p ≡ Some m → condvar_act l p ≡ act.Word m x
        → word_at (after w (go_of t)) m ≡ apply x (word_at w m)
    word_then x beside is = so_then (λ s. word_at s m) (λ q. refl)
        ∙ ap (λ a. word_at (state_after_act w t (Condvar l p) a) m) is
        ∙ ap (λ y. y.word) (get_or-set_same w.locks m _ (unlocked kind.Mutex) (mutex_there beside))

    pub queue_then : (lock_state (after w (go_of t)) l).queue
        ≡ (after_condvar_deeds (condvar_deeds p told) (condvar_of w l) t).waiters
    queue_then = so_then (λ s. (lock_state s l).queue) (λ q. refl)
        ∙ (goes_led w t l p g.world.well_formed g.world.inductive g.place lock_there can).1

    pub hears : MayReply (condvar_of w l) t p told
    hears = may_hear w t l p g.world.inductive g.place can

    -- after the act it stands here
    module _ (q : CondvarPlace) (stays : place_at acted t ≡ Condvar l q) where
      led : after w (go_of t) ≡ put acted t (condvar_goes l (condvar_next q told))
      led = goes ∙ ap (λ x. put acted t (next_place x told)) stays

      told_so : step_outcome w (go_of t) ≡ outcome_of (condvar_does l (condvar_next q told))
      told_so = ap (λ b. if b then go_outcome w t else outcome.NotNow) possible
          ∙ ap (going_outcome w t) g.place ∙ ap (λ x. outcome_of (next_act x told)) stays

      goes_on : (p2 : CondvarPlace) → condvar_next q told ≡ next.At p2 → GoesAlone (after w (go_of t)) t l m
          p2
      goes_on p2 e = record {
        world = keeps w g.world;
        thread = let size : SameSize w (after w (go_of t)) = after_size w (go_of t)
            in rw size.threads g.thread;
        place = ap (λ (s : State). place_at s t) led ∙ get_or-set_same acted.places t _ Idle
            (rw ((performed_counts w t (Condvar l p) (condvar_act l p)).0) g.thread) ∙ ap (condvar_goes l) e;
      }

  -- the steps left after a step: none where it rests, and else the rest
  abbrev pub Afterwards : (State → Outcome → Type 0) → ℕ → Next CondvarPlace → Type 0
  Afterwards P k (next.End answer) = P (after w (go_of t)) (outcome.End answer)
  Afterwards P k (next.At q) = GoesAlone (after w (go_of t)) t l m q
      → ((outcome_of (condvar_act l q) ≡ outcome.Sleep) × P (after w (go_of t)) outcome.Sleep)
      ⊎ ((outcome_of (condvar_act l q) ≡ outcome.Step) × Leads k (after w (go_of t)) t P)

  pub leads_afterwards : (can : can_do w (condvar_act l p) ≡ true) (P : State → Outcome → Type 0) (k : ℕ)
      (q : CondvarPlace)
      → place_at (state_after_act w t (Condvar l p) (condvar_act l p)) t ≡ Condvar l q
      → Afterwards P k (condvar_next q (reply_to w t (condvar_act l p))) → Leads (k + 1) w t P
  leads_afterwards can P k q stays = by_next (condvar_next q (reply_to w t (condvar_act l p))) refl
    where
      by_next : (n : Next CondvarPlace) → condvar_next q (reply_to w t (condvar_act l p)) ≡ n
          → Afterwards P k n
          → Leads (k + 1) w t P
      by_next (next.End answer) e h = leads_more 1 (k + 1) w t P (omega arith)
          (leads_rest w t P (outcome.End answer) (told_so can q stays
          ∙ ap (λ n. outcome_of (condvar_does l n)) e) tt h)
      by_next (next.At p2) e h = elim (h (goes_on can q stays p2 e)) [
        | inl sleeps ↦ leads_more 1 (k + 1) w t P (omega arith) (leads_rest w t P outcome.Sleep
            (told_so can q stays ∙ ap (λ n. outcome_of (condvar_does l n)) e ∙ sleeps.0) tt sleeps.1)
        | inr on ↦ leads_step w t P k (told_so can q stays ∙ ap (λ n. outcome_of (condvar_does l n)) e ∙ on.0)
            on.1
      ]
