-- Each step of a semaphore takes its thread in the machine where its act says, and so does what befalls it
-- asleep.
use Rattle.lot_laws.proofs.Imports
use Imports.{ℕ, Bool, true, false, Some, if◌then◌else◌, ◌==◌, ◌≡◌, ◌-◌, ◌*◌, [], ◌∷◌, inr, refl, sym, ap, subst}
use Imports.{not, One, Shared, Act, Next, At, AreOfWord, GoesIn, Hears, IsHeld, StepView, MovesByAct, Sleeps}
use Imports.{StaysPut, RowWaits, inside_of, row_of, location_then, hand, in_hand, Location, location_by}
use Imports.{has_parked, Leave as GivesBack, Case, End, Line, Main, Mark, Normal, Reply, TryAt, ReleaseAt}
use Imports.{SemaphorePlace, Acquire, Release, semaphore_deeds, semaphore_late_line, semaphore_profile}
use Imports.{acquired, in_acquire, in_release, in_try, is_free, next_release, next_try, semaphore_act}
use Imports.{semaphore_next, LateIsTimed}
use Rattle.std.specs.Prelude.{◌&&◌}
use Rattle.core_base.specs.declared.ops.Op.TheVariants as op
use Rattle.core_base.specs.Keys.{key_of}
use Rattle.steps_base.specs.declared.acts.Act.TheVariants as act
use Rattle.steps_base.specs.declared.acts.Next.TheVariants.{End as Over}
use Rattle.steps_base.specs.declared.acts.Reply.TheVariants as reply
use Rattle.steps_base.specs.declared.acts.TakeWhich.TheVariants.{First}
use Rattle.spec_locks.specs.declared.outcomes.Answer.TheVariants as answer
use Rattle.steps_base.specs.Locations.{nowhere}
use Rattle.core_base.specs.declared.notes.Note.TheVariants.{HandOff}
use Rattle.steps_semaphore.specs.declared.acquire.AcquireAt.TheVariants as acquire
use Rattle.steps_semaphore.specs.declared.tries.TryAt.TheVariants as tries
use Rattle.steps_semaphore.specs.declared.release.ReleaseAt.TheVariants as release
use Rattle.steps_semaphore.specs.declared.places.SemaphorePlace.TheVariants.{Try}
use Rattle.steps_semaphore.specs.SemaphoreDeeds.{enter_deeds, take_deeds}
use Rattle.steps_semaphore.specs.SemaphoreLaws.{MayReply, next_row}
use Rattle.steps_base.proofs.Moving.{awake, goes_in, goes_out, stands_inside, stays_put}
use Rattle.lot_laws.proofs.sites.FirstTaken.{TakesFirst}

abbrev pub semaphore_move : SemaphorePlace → StepView
semaphore_move p = record {
  row = semaphore_profile p;
  next = λ told. row_of (next_row (semaphore_next p told));
  deeds = λ whom told. semaphore_deeds p whom told;
}

-- tells what it may be told
abbrev pub semaphore_hears : SemaphorePlace → Hears
semaphore_hears p r s t whom told = MayReply r s t p whom told

-- by its act, as in any call, or it takes the first
abbrev pub SemaphoreMoves : ℕ → StepView → Hears → Act → Type 0
SemaphoreMoves l x hears (act.Take key First) = (key ≡ key_of l Main) × TakesFirst take_deeds x hears
SemaphoreMoves l x hears y = MovesByAct l false x hears y

abbrev location_next : Next SemaphorePlace → Location
location_next n = location_by (row_of (next_row n))

-- ---------------------------------------------------------------- the word

-- an exchange took a permit, set the bit, or found another word
exchanged_word : (other free : Bool) → AreOfWord (if other then [] else if free then enter_deeds
    else Mark Main ∷ [])
exchanged_word true free = tt
exchanged_word false true = tt
exchanged_word false false = tt

exchanged_rest : (timed again other free : Bool) (seen : ℕ)
    → location_next (in_acquire timed again (if other then At (acquire.Decide seen) else if free
    then Over (acquired timed) else At (acquire.Decide 1))) ≡ nowhere
exchanged_rest timed again true free seen = refl
exchanged_rest timed again false true seen = refl
exchanged_rest timed again false false seen = refl

looked_word : (free : Bool) → AreOfWord (if free then [] else End ∷ [])
looked_word true = tt
looked_word false = tt

looked_rest : (free : Bool) (seen : ℕ)
    → location_next (in_try (if free then At (tries.Decide seen) else Over answer.No)) ≡ nowhere
looked_rest true seen = refl
looked_rest false seen = refl

attempted_word : (won free : Bool) → AreOfWord (if won then enter_deeds else if free then [] else End ∷ [])
attempted_word true free = tt
attempted_word false true = tt
attempted_word false false = tt

attempted_rest : (won free : Bool) (seen : ℕ)
    → location_next (in_try (if won then Over answer.Yes else if free then At (tries.Decide seen)
    else Over answer.No)) ≡ nowhere
attempted_rest true free seen = refl
attempted_rest false free seen = looked_rest free seen

given_word : (parked : Bool) → AreOfWord (Case (GivesBack Shared) ∷ (if parked then [] else End ∷ []))
given_word true = tt
given_word false = tt

given_rest : (parked : Bool) → location_next
    (in_release (if parked then At release.Enter else Over answer.Ok)) ≡ nowhere
given_rest true = refl
given_rest false = refl

-- ---------------------------------------------------------------- each place

decides_put : (timed again : Bool) (was : ℕ)
    → StaysPut (semaphore_move (Acquire timed again (acquire.Decide was)))
decides_put timed again was = stays_put refl (λ seen. exchanged_word (not (seen == was)) (is_free seen))
    (λ seen. exchanged_rest timed again (not (seen == was)) (is_free seen) seen)

decides : (l : ℕ) (timed again : Bool) (was : ℕ) (free empty : Bool)
    → SemaphoreMoves l (semaphore_move (Acquire timed again (acquire.Decide was)))
    (semaphore_hears (Acquire timed again (acquire.Decide was)))
    (if free then act.Word l (op.Exchange was (was - 2)) else if empty then act.Word l (op.Exchange 0 1)
    else act.Enter (One (2 * l)))
decides l timed again was true empty = (refl, decides_put timed again was)
decides l timed again was false true = (refl, decides_put timed again was)
decides l timed again was false false = (Main, refl, goes_in refl refl refl (λ r s t free. free))

attempts_put : (was : ℕ) → StaysPut (semaphore_move (Try (tries.Decide was)))
attempts_put was = stays_put refl (λ seen. attempted_word ((seen == was) && is_free seen) (is_free seen))
    (λ seen. attempted_rest ((seen == was) && is_free seen) (is_free seen) seen)

attempts : (l was : ℕ) (free : Bool)
    → SemaphoreMoves l (semaphore_move (Try (tries.Decide was))) (semaphore_hears (Try (tries.Decide was)))
    (if free then act.Word l (op.Exchange was (was - 2)) else act.Word l op.Load)
attempts l was true = (refl, attempts_put was)
attempts l was false = (refl, attempts_put was)

pub semaphore_acts_move : (l : ℕ) (p : SemaphorePlace) → LateIsTimed p → SemaphoreMoves l (semaphore_move p)
    (semaphore_hears p) (semaphore_act l p)
semaphore_acts_move l (Acquire timed again acquire.Load) h = (
  refl,
  stays_put refl (λ seen. tt) (λ seen. refl),
)
semaphore_acts_move l (Acquire timed again (acquire.Decide was)) h = decides l timed again was (is_free was)
    (was == 0)
semaphore_acts_move l (Acquire timed again acquire.Check) h = (
  Main,
  refl,
  refl,
  record {
    was = refl;
    parks = refl;
    parked = refl;
    turns = refl;
    turned = refl;
    may = λ r s t b e out. (e, out);
  },
)
semaphore_acts_move l (Acquire timed again (acquire.Leave true)) h = (
  Main,
  refl,
  goes_out false refl tt refl (λ r s t out. out),
)
semaphore_acts_move l (Acquire timed again (acquire.Leave false)) h = (
  Main,
  refl,
  goes_out false refl tt refl (λ r s t out. out),
)
semaphore_acts_move l (Acquire timed again acquire.Asleep) h = tt
semaphore_acts_move l (Acquire timed again (acquire.Taken by)) h = tt
semaphore_acts_move l (Acquire timed again acquire.Remove) h = (
  Main,
  refl,
  record {
    want = Shared;
    was = refl;
    deeds = λ none_left. refl;
    goes = removed;
    may = λ r s t none_left stands. (h refl, stands);
  },
)
  where
    removed : (none_left : Bool) → location_then (semaphore_move (Acquire timed again acquire.Remove))
        (reply.Removed none_left) ≡ inside_of Main
    removed true = refl
    removed false = refl
semaphore_acts_move l (Acquire timed again acquire.Clear) h = (
  refl,
  stays_put refl (λ seen. tt) (λ seen. refl),
)
semaphore_acts_move l (Acquire timed again acquire.GiveUp) h = (
  Main,
  refl,
  goes_out false refl tt refl (λ r s t out. (h refl, out)),
)
semaphore_acts_move l (Try tries.Load) h = (
  refl,
  stays_put refl (λ seen. looked_word (is_free seen)) (λ seen. looked_rest (is_free seen) seen),
)
semaphore_acts_move l (Try (tries.Decide was)) h = attempts l was (is_free was)
semaphore_acts_move l (Release release.Add) h = (
  refl,
  stays_put refl (λ seen. given_word (has_parked seen)) (λ seen. given_rest (has_parked seen)),
)
semaphore_acts_move l (Release release.Enter) h = (Main, refl, goes_in refl refl refl (λ r s t free. free))
semaphore_acts_move l (Release release.Take) h = (
  refl,
  record {
    was = refl;
    deeds = λ whom any none_left. refl;
    goes = took;
    may = λ r s t whom any none_left first some left nobody. (
      record { first = first; some = some; left = left },
      nobody,
    );
  },
)
  where
    took : (any none_left : Bool) → location_then (semaphore_move (Release release.Take))
        (reply.Took any none_left) ≡ record (inside_of Main) { has_taken = in_hand any false }
    took any true = refl
    took any false = refl
semaphore_acts_move l (Release (release.Clear any)) h = (refl, stays_put refl (λ seen. tt) (λ seen. refl))
semaphore_acts_move l (Release (release.Leave any)) h = (
  Main,
  refl,
  goes_out any refl tt refl (λ r s t out. out),
)

-- ---------------------------------------------------------------- threads asleep

asleep_in : (timed again : Bool) (m : Line) → m ≡ Main
    → Sleeps (semaphore_move (Acquire timed again acquire.Asleep)) m
asleep_in timed again m e = record {
  want = Shared;
  was = ap (λ (n : Line). record nowhere { stands = Some n; waits = Some Shared }) (sym e);
  taken = λ u. refl;
  wants = λ u. refl;
  role = λ u. refl;
}

pub semaphore_sleepers_move : (p : SemaphorePlace) → RowWaits (semaphore_move p)
semaphore_sleepers_move (Acquire timed again acquire.Asleep) = record {
  aside = λ h. absurd cc;
  stands = λ m h. inr (asleep_in timed again m (let e : m ≡ Main = cc in e));
  held = λ u handed h. absurd cc;
}
semaphore_sleepers_move (Acquire timed again (acquire.Taken by)) = record {
  aside = λ h. absurd cc;
  stands = λ m h. absurd cc;
  held = λ u handed h. held u handed (let e : by ≡ u = cc in e) (let e : handed ≡ false = cc in e);
}
  where
    held : (u : ℕ) (handed : Bool) → by ≡ u → handed ≡ false → (handed ≡ false)
        × IsHeld (semaphore_move (Acquire timed again (acquire.Taken by))) u
    held u handed whose fresh = (
      fresh,
      record {
        want = Shared;
        wants = refl;
        was = ap (λ n. record nowhere { hand = hand n false }) whose;
        woken = refl;
        role = refl;
      },
    )
semaphore_sleepers_move (Acquire timed again (acquire.Leave true)) = stands_inside refl refl refl
semaphore_sleepers_move (Acquire timed again (acquire.Leave false)) =
    awake refl refl
semaphore_sleepers_move (Acquire timed again acquire.Remove) = stands_inside refl refl refl
semaphore_sleepers_move (Acquire timed again at) = awake refl refl
semaphore_sleepers_move (Try at) = awake refl refl
semaphore_sleepers_move (Release release.Add) = awake refl refl
semaphore_sleepers_move (Release at) = awake refl refl

-- ---------------------------------------------------------------- giving up

goes_late : (again : Bool) → GoesIn (semaphore_move (Acquire true again acquire.Asleep))
    (semaphore_hears (Acquire true again acquire.Asleep)) Main reply.Late
goes_late again = goes_in refl refl refl (λ r s t free. (refl, free))

-- a thread that gives up goes into the section of the line in which it sleeps
pub semaphore_late_move : (p : SemaphorePlace) (m : Line) → semaphore_late_line p ≡ Some m
    → GoesIn (semaphore_move p) (semaphore_hears p) m reply.Late
semaphore_late_move (Acquire true again acquire.Asleep) m h =
    subst (λ n. GoesIn (semaphore_move (Acquire true again acquire.Asleep))
    (semaphore_hears (Acquire true again acquire.Asleep)) n reply.Late) (let e : Main ≡ m = cc in e)
    (goes_late again)
semaphore_late_move (Acquire false again acquire.Asleep) m h = absurd cc
semaphore_late_move (Acquire timed again at) m h = absurd cc
semaphore_late_move (Try at) m h = absurd cc
semaphore_late_move (Release release.Add) m h = absurd cc
semaphore_late_move (Release at) m h = absurd cc

-- ---------------------------------------------------------------- only a timed call gives up

abbrev pub NextTimed : Next SemaphorePlace → Type 0
NextTimed (At p) = LateIsTimed p
NextTimed (Over answer) = Unit {0}

exchanged_timed : (timed again other free : Bool) (seen : ℕ)
    → NextTimed (in_acquire timed again (if other then At (acquire.Decide seen) else if free
    then Over (acquired timed) else At (acquire.Decide 1)))
exchanged_timed timed again true free seen = λ e. absurd cc
exchanged_timed timed again false true seen = tt
exchanged_timed timed again false false seen = λ e. absurd cc

trying_timed : (n : Next TryAt) → NextTimed (in_try n)
trying_timed (At at) = λ e. absurd cc
trying_timed (Over answer) = tt

releasing_timed : (n : Next ReleaseAt) → NextTimed (in_release n)
releasing_timed (At release.Add) = λ e. absurd cc
releasing_timed (At release.Enter) = λ e. absurd cc
releasing_timed (At release.Take) = λ e. absurd cc
releasing_timed (At (release.Clear any)) = λ e. absurd cc
releasing_timed (At (release.Leave any)) = λ e. absurd cc
releasing_timed (Over answer) = tt

pub next_timed : (p : SemaphorePlace) (told : Reply) → LateIsTimed p
    → (told ≡ reply.Late → (semaphore_profile p).timed ≡ true) → NextTimed (semaphore_next p told)
next_timed (Acquire timed again acquire.Load) (reply.Value seen) h late = λ e. absurd cc
next_timed (Acquire timed again (acquire.Decide was)) (reply.Value seen) h late =
    exchanged_timed timed again (not (seen == was)) (is_free seen) seen
next_timed (Acquire timed again (acquire.Decide was)) reply.Done h late = λ e. absurd cc
next_timed (Acquire timed again acquire.Check) (reply.Parked parked) h late = λ e. absurd cc
next_timed (Acquire timed again (acquire.Leave true)) reply.Done h late = λ e. absurd cc
next_timed (Acquire timed again (acquire.Leave false)) reply.Done h late = λ e. absurd cc
next_timed (Acquire timed again acquire.Asleep) reply.Late h late = λ e. late refl
next_timed (Acquire timed again acquire.Asleep) (reply.TakenBy by) h late = λ e. absurd cc
next_timed (Acquire timed again acquire.Asleep) (reply.Woken Normal) h late = λ e. absurd cc
next_timed (Acquire timed again acquire.Asleep) (reply.Woken HandOff) h late = λ e. absurd cc
next_timed (Acquire timed again (acquire.Taken by)) (reply.Woken Normal) h late = λ e. absurd cc
next_timed (Acquire timed again (acquire.Taken by)) (reply.Woken HandOff) h late = λ e. absurd cc
next_timed (Acquire timed again acquire.Remove) (reply.Removed true) h late = λ e. h refl
next_timed (Acquire timed again acquire.Remove) (reply.Removed false) h late = λ e. h refl
next_timed (Acquire timed again acquire.Clear) (reply.Value seen) h late = λ e. h refl
next_timed (Acquire timed again acquire.GiveUp) reply.Done h late = tt
next_timed (Acquire timed again at) told h late = h
next_timed (Try at) told h late = trying_timed (next_try at told)
next_timed (Release at) told h late = releasing_timed (next_release at told)
