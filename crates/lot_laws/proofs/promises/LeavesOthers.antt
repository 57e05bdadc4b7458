-- A step leaves the other threads as they are, but for the sleepers that its thread wakes.
use Rattle.lot_laws.proofs.Imports
use Imports.{ℕ, Bool, true, false, Option, Some, None, ◌==◌, ◌≡◌, ◌≢◌, ◌≤◌, ◌⊎◌, inl, inr, refl, sym, ◌∙◌}
use Imports.{subst, arith, is_some, cases_lt, Step, Taken, standing, MayWait, LeavesOthers, MayWake}
use Imports.{is_taken_by, Main, Act, Sleep, Word, act_of, respins_from, taker, State, after, place_at}
use Imports.{section_at}
use Imports.{call_at, lock_state, locks_of, sleeps, stance_of, IsHandedOverIn, IsKept, LeadsToSleep, holder}
use Imports.{sort_at}
use Rattle.core_base.specs.Keys.{key_of}
use Rattle.lot_laws.proofs.machine.Sleepers.{sleepers_stay}
use Rattle.lot_laws.proofs.machine.StancesStay.{awake_stay, stance_so}

asleep_is : (a : Act) → sleeps a ≡ true → a ≡ Sleep
asleep_is Sleep h = refl
asleep_is a h = absurd cc

-- an act that leads to sleep isn't one that sleeps
awake_yet : (sort : _) (l : ℕ) → LeadsToSleep sort l Sleep → ⊥
awake_yet sort l (inl h) = let e : Sleep ≡ Word l _ = h.2 in absurd cc
awake_yet sort l (inr h) = absurd cc

-- a thread that sleeps doesn't look at a word once more
no_look : (w : State) → IsKept w → (u : ℕ) → act_of (place_at w u) ≡ Sleep
    → is_some (respins_from (place_at w u))
    ≡ false
no_look w k u asleep = by_look (is_some (respins_from (place_at w u))) refl
  where
    by_look : (b : Bool) → is_some (respins_from (place_at w u)) ≡ b → is_some (respins_from (place_at w u))
        ≡ false
    by_look false e = e
    by_look true e = let leads = k.looks u e
        in absurd (awake_yet (sort_at w leads.0) leads.0 (subst (LeadsToSleep (sort_at w leads.0) leads.0)
        asleep leads.1))

taken_by : (t : ℕ) (o : Option Taken) → holder o ≡ Some t → is_taken_by t o ≡ true
taken_by t None h = absurd cc
taken_by t (Some x) h = let e : x.by ≡ t = cc in rw e (same t)
  where
    same : (n : ℕ) → (n == n) ≡ true
    same n = grind arith

module _ (w : State) (s : Step) (k : IsKept w) (kept : IsKept (after w s)) where
  abbrev t : ℕ
  t = s.thread

  abbrev v : State
  v = after w s

  -- a sleeper in its hand was taken, or was handed its lock
  may_wake : (u : ℕ) → act_of (place_at w u) ≡ Sleep → taker (place_at w u) ≡ Some t
      → MayWake (locks_of w) t u
  may_wake u asleep held = elim (k.sleeping u asleep) [
    | inl some ↦ (some.0, inl (taken_at some.0 some.1))
    | inr handed ↦ (handed.lock, by_lock handed)
  ]
    where
      taken_at : (l : ℕ) → 1 ≤ standing u (lock_state w l) → is_taken_by t ((lock_state w l).taken u) ≡ true
      taken_at l some = taken_by t ((lock_state w l).taken u) (sym (k.held u l some) ∙ held)

      by_lock : (h : IsHandedOverIn w u)
          → (is_taken_by t ((lock_state w h.lock).taken u) ≡ true)
          ⊎ ((standing u (lock_state w h.lock) ≡ 0) × (section_at w (key_of h.lock Main) ≡ Some t)
          × MayWait (call_at w u).purpose h.lock)
      by_lock h = elim (cases_lt 0 (standing u (lock_state w h.lock))) [
        | inl lt ↦ inl (taken_at h.lock lt)
        | inr ge ↦ inr (
          omega arith,
          (let same : Some h.by ≡ Some t = sym h.in_hand ∙ held in h.inside
              ∙ same),
          h.waited.0,
        )
      ]

  others : (u : ℕ) → u ≢ t → (stance_of (place_at v u) ≡ stance_of (place_at w u))
      ⊎ ((sleeps (act_of (place_at w u)) ≡ true) × MayWake (locks_of w) t u)
  others u ne = by_act (sleeps (act_of (place_at w u))) refl
    where
      slept : act_of (place_at w u) ≡ Sleep → act_of (place_at v u) ≡ Sleep → stance_of (place_at v u)
          ≡ stance_of (place_at w u)
      slept before now = stance_so (act_of (place_at v u)) (act_of (place_at w u))
          (respins_from (place_at v u))
          (respins_from (place_at w u)) (now ∙ sym before) (no_look v kept u now ∙ sym (no_look w k u before))

      by_act : (b : Bool) → sleeps (act_of (place_at w u)) ≡ b
          → (stance_of (place_at v u) ≡ stance_of (place_at w u)) ⊎ ((sleeps (act_of (place_at w u)) ≡ true)
          × MayWake (locks_of w) t u)
      by_act false awake = inl (awake_stay w s u ne awake)
      by_act true asleep = elim (sleepers_stay w s u ne (asleep_is (act_of (place_at w u)) asleep)) [
        | inl held ↦ inr (asleep, may_wake u (asleep_is (act_of (place_at w u)) asleep) held)
        | inr still ↦ inl (slept (asleep_is (act_of (place_at w u)) asleep) still)
      ]

  pub leaves_others : LeavesOthers (locks_of w) t (locks_of v)
  leaves_others = record {
    others = others;
    lets_go = kept.let_go t;
    shown = kept.shows;
  }
