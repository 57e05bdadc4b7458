-- A thread keeps, whatever befalls it, all that no wake, take or hand-over changes, as long as its own turn
-- doesn't come.
use Rattle.lot_laws.proofs.Imports
use Imports.{ℕ, Bool, true, false, Option, Some, None, if◌then◌else◌, ◌≡◌, ◌≢◌, refl, ◌∙◌, ap, get_or-set_other}
use Imports.{One, Turn, Step, Act, Reply, Place, Idle, act_of, late_key, respins_from, next_place, State, after}
use Imports.{closed_place, is_possible, place_at, put, state_after_act, state_after_go, state_after_going}
use Imports.{state_after_late_on, state_after_look, state_after_turn, state_with_sections, acted_keeps}
use Rattle.spec_locks.specs.declared.calls.Turn.TheVariants as turn
use Rattle.lot_laws.proofs.promises.RowPromises.{Befalls}

module _ {A : Type 0} (g : Place → A) (kept : (p : Place) (r : Reply) → Befalls r → g (next_place p r) ≡ g p)
  where
    role_keeps : (w : State) (u t : ℕ) (p : Place) (a : Act) → g (place_at (state_after_act w t p a) u)
        ≡ g (place_at w u)
    role_keeps w u t p a = acted_keeps (λ q. g q ≡ g (place_at w u)) w u t p a (λ any r b q e. kept q r b ∙ e)
        refl

    put_keeps : (b : State) (t u : ℕ) (p : Place) → u ≢ t → g (place_at (put b t p) u) ≡ g (place_at b u)
    put_keeps b t u p ne = ap g (get_or-set_other b.places t u p Idle ne)

    late_keeps : (w : State) (t u : ℕ) (o : Option ℕ) → u ≢ t → g (place_at (state_after_late_on w t o) u)
        ≡ g (place_at w u)
    late_keeps w t u None ne = refl
    late_keeps w t u (Some key) ne = put_keeps (state_with_sections w (One key) (Some t)) t u _ ne

    went_keeps : (w : State) (t u : ℕ) (p : Place) → u ≢ t → g (place_at (state_after_going w t p) u)
        ≡ g (place_at w u)
    went_keeps w t u p ne = put_keeps (state_after_act w t p (act_of p)) t u _ ne
        ∙ role_keeps w u t p (act_of p)

    put_went_keeps : (w : State) (t u : ℕ) (q : Place) → u ≢ t → g (place_at (state_after_go (put w t q) t) u)
        ≡ g (place_at w u)
    put_went_keeps w t u q ne = went_keeps (put w t q) t u (place_at (put w t q) t) ne ∙ put_keeps w t u q ne

    spun_keeps : (w : State) (t u : ℕ) (o : Option Place) → u ≢ t → g (place_at (state_after_look w t o) u)
        ≡ g (place_at w u)
    spun_keeps w t u None ne = refl
    spun_keeps w t u (Some q) ne = put_went_keeps w t u q ne

    turned_keeps : (w : State) (t u : ℕ) (x : Turn) → u ≢ t → g (place_at (state_after_turn w t x) u)
        ≡ g (place_at w u)
    turned_keeps w t u (turn.Begin c) ne = put_keeps w t u _ ne
    turned_keeps w t u turn.Go ne = went_keeps w t u (place_at w t) ne
    turned_keeps w t u turn.Spin ne = spun_keeps w t u (respins_from (place_at w t)) ne
    turned_keeps w t u turn.Late ne = late_keeps w t u (late_key (place_at w t)) ne
    turned_keeps w t u turn.Ok ne = put_went_keeps w t u (closed_place w t true) ne
    turned_keeps w t u turn.Err ne = put_went_keeps w t u (closed_place w t false) ne

    -- for every act of another thread
    pub others_keep_it : (w : State) (s : Step) (u : ℕ) → u ≢ s.thread → g (place_at (after w s) u)
        ≡ g (place_at w u)
    others_keep_it w s u ne = either (is_possible w s)
      where
        either : (b : Bool) → g (place_at (if b then state_after_turn w s.thread s.turn else w) u)
            ≡ g (place_at w u)
        either true = turned_keeps w s.thread u s.turn ne
        either false = refl
