-- One turn of each thread that can go on, and rounds of them.
use Rattle.std.proofs.Common.{ℕ, Bool, true, false, if◌then◌else◌, ◌&&◌, ◌||◌, ◌≡◌, ◌+◌, ◌≤◌, ◌<◌, nat_lt}
use Rattle.std.proofs.Common.{inl, inr, List, [], ◌∷◌, ◌++◌, length, length-append, refl, ap, sym, ◌∙◌, subst}
use Rattle.std.proofs.Common.{arith}
use Rattle.std.proofs.lemmas.Bool.{cases_eq, cases_lt}
use Rattle.std.proofs.lemmas.Bool.Decides.{nat_tests}
use Rattle.spec_locks.specs.declared.outcomes.Outcome.TheVariants as outcome
use Rattle.steps_base.specs.Acts.{outcome_of}
use Rattle.steps_base.specs.declared.acts.Act.{Act}
use Rattle.steps_base.specs.declared.acts.Act.TheVariants.{Sleep, Closure, End}
use Rattle.lot_machine.specs.Machine.{State, after, can_go, go_of, go_outcome, is_possible, state_after_go}
use Rattle.lot_machine.specs.Machine.{step_outcome}
use Rattle.lot_machine.specs.Machine.{filled_at}
use Rattle.lot_machine.specs.Fits.{SameSize}
use Rattle.spec_locks.specs.Rest.{WaitersWaitRightly}
use Rattle.lot_laws.specs.Refinement.{locks_of}
use Rattle.lot_laws.proofs.promises.Headline.{holds_after}
use Rattle.lot_laws.specs.SitesOf.{IsWorld}
use Rattle.lot_rests.specs.Rests.{AllGo, GoesRound, NobodyGoes, Settles, after_goes, is_turn}
use Rattle.lot_rests.proofs.Rest.{goes_lower, goes_on, goes_size, goes_then, goes_world, left_most, quiet}
use Rattle.lot_rests.proofs.Turns.{steps_left}

-- the threads below this one have had their turn
pub record GoneSo (w : State) (n : ℕ) (moved : Bool) (v : State) : Type 0 where
  pub threads : List ℕ
  pub go : AllGo w threads
  pub leads : v ≡ after_goes w threads
  pub some : moved ≡ true → 1 ≤ length threads
  pub none : moved ≡ false → (v ≡ w) × ((t : ℕ) → t < n → is_possible w (go_of t) ≡ false)

pub nobody_yet : (w : State) → GoneSo w 0 false w
nobody_yet w = record {
  threads = [];
  go = tt;
  leads = refl;
  some = λ e. absurd cc;
  none = λ e. (refl, λ t lt. absurd (omega arith));
}

told_turn : (a : Act) → is_turn (outcome_of a) ≡ true
told_turn (End answer) = refl
told_turn Sleep = refl
told_turn (Closure state) = refl
told_turn a = refl

went_turn : (v : State) (n : ℕ) → is_turn (go_outcome v n) ≡ true
went_turn v n = told_turn _

one_goes : (w v : State) (n : ℕ) (moved b : Bool) → GoneSo w n moved v → is_possible v (go_of n) ≡ b
    → GoneSo w (n + 1) (is_turn (if b then go_outcome v n else outcome.NotNow) || moved) (if b
    then state_after_go v n else v)
one_goes w v n moved true so is = record {
  threads = so.threads ++ n ∷ [];
  go = goes_on so.threads (n ∷ []) w so.go (subst (λ u. is_possible u (go_of n) ≡ true) so.leads is, tt);
  leads = ap (λ b. if b then state_after_go v n else v) (sym is) ∙ ap (λ u. after u (go_of n)) so.leads
      ∙ sym (goes_then so.threads (n ∷ []) w);
  some = λ e. rw (length-append so.threads (n ∷ [])) (omega arith);
  none = λ e. absurd (let both : true ≡ false = sym (ap (λ b. b || moved) (went_turn v n)) ∙ e in cc);
}
one_goes w v n moved false so is = record {
  threads = so.threads;
  go = so.go;
  leads = so.leads;
  some = so.some;
  none = λ e. (let before = so.none e in (
    before.0,
    λ t lt. elim (cases_eq t n) [
      | inl same ↦ rw same (subst (λ u. is_possible u (go_of n) ≡ false) before.0 is)
      | inr ne ↦ before.1 t (omega arith)
    ],
  ));
}

pub goes_once : (w v : State) (n : ℕ) (moved : Bool) → GoneSo w n moved v
    → GoneSo w (n + 1) (is_turn (step_outcome v (go_of n)) || moved) (after v (go_of n))
goes_once w v n moved so = one_goes w v n moved (is_possible v (go_of n)) so refl

-- all have had their turn
pub goes_round : (w v : State) (n : ℕ) (moved : Bool) → length w.places ≤ n → GoneSo w n moved v
    → GoesRound w moved v
goes_round w v n moved all so = record {
  threads = so.threads;
  go = so.go;
  leads = so.leads;
  moved = so.some;
  stuck = λ e. (let none = so.none e in subst NobodyGoes (sym none.0)
      (λ t. elim (cases_lt t (length w.places)) [
        | inl lt ↦ none.1 t (omega arith)
        | inr ge ↦ ap (λ b. b && can_go w t) (let past : nat_lt t (length w.places) ≡ false =
            grind (arith, nat_tests) in past)
      ]));
}

-- ---------------------------------------------------------------- rounds

-- threads have gone one after another, and led from one state to another
pub record HasGone (w v : State) : Type 0 where
  pub threads : List ℕ
  pub go : AllGo w threads
  pub leads : v ≡ after_goes w threads

pub no_round : (w : State) → HasGone w w
no_round w = record { threads = []; go = tt; leads = refl }

pub one_round : (w v u : State) (moved : Bool) → HasGone w v → GoesRound v moved u → HasGone w u
one_round w v u moved so round = record {
  threads = so.threads ++ round.threads;
  go = goes_on so.threads round.threads w so.go (subst (λ x. AllGo x round.threads) so.leads round.go);
  leads = round.leads ∙ ap (λ x. after_goes x round.threads) so.leads
      ∙ sym (goes_then so.threads round.threads w);
}

-- a round in which some thread goes on leaves less before the world
pub round_lowers : (w v : State) → IsWorld w → GoesRound w true v → steps_left v < steps_left w
round_lowers w v h round =
    let falls : steps_left (after_goes w round.threads) + length round.threads ≤ steps_left w =
    goes_lower round.threads w h round.go in
    let some : 1 ≤ length round.threads = round.moved refl in
    subst (λ x. steps_left x < steps_left w) (sym round.leads) (omega arith)

pub gone_world : (w v : State) → IsWorld w → HasGone w v → IsWorld v
gone_world w v h so = subst IsWorld (sym so.leads) (goes_world so.threads w h)

pub gone_size : (w v : State) → HasGone w v → SameSize w v
gone_size w v so = subst (SameSize w) (sym so.leads) (goes_size so.threads w)

-- where nobody goes on, nobody waits for a lock that is open
pub gone_rests : (v : State) → IsWorld v → NobodyGoes v → WaitersWaitRightly (locks_of v) (filled_at v)
gone_rests v h stuck = (holds_after [] v v h refl).rests (quiet v h stuck)

pub settles : (w v : State) → IsWorld w → HasGone w v → NobodyGoes v → Settles w v
settles w v h so stuck = record {
  threads = so.threads;
  go = so.go;
  leads = so.leads;
  few = (let falls : steps_left (after_goes w so.threads) + length so.threads ≤ steps_left w =
      goes_lower so.threads w h so.go in let most = left_most w in omega arith);
  stuck = stuck;
}
