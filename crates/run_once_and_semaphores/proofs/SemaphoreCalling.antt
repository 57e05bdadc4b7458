-- The calls of a semaphore: on which words they step, and how their steps lead on.
use Rattle.std.proofs.Common.{ℕ, ◌≡◌, ◌≢◌, ◌<◌, ◌++◌, ◌∙◌, ◌+◌, ◌-◌, ◌*◌, ◌/◌, ◌≤◌, ◌^◌, Bool, true, false}
use Rattle.std.proofs.Common.{List, None, if◌then◌else◌, not, ◌==◌, ◌&&◌, refl, sym, ap, subst, arith, eq-eqb}
use Rattle.std.proofs.Common.{ne_eqb}
use Rattle.steps_semaphore.specs.declared.places.SemaphorePlace.{SemaphorePlace}
use Rattle.steps_semaphore.specs.declared.places.SemaphorePlace.TheVariants.{Acquire, Release, Try}
use Rattle.spec_locks.specs.Codes.{has_parked}
use Rattle.core_base.specs.declared.keys.Keys.TheVariants.{One}
use Rattle.core_base.specs.declared.ops.Op.TheVariants.{Add, Exchange, Load}
use Rattle.spec_locks.specs.declared.calls.Patience.TheVariants.{Try as OnlyTry}
use Rattle.spec_locks.specs.declared.calls.SemaphoreCall.TheVariants as calls
use Rattle.spec_locks.specs.declared.outcomes.Answer.{Answer}
use Rattle.spec_locks.specs.declared.outcomes.Answer.TheVariants as answers
use Rattle.steps_base.specs.declared.acts.Act.TheVariants as act
use Rattle.steps_base.specs.declared.acts.Next.TheVariants.{At, End}
use Rattle.steps_base.specs.declared.acts.Reply.TheVariants.{Value}
use Rattle.steps_semaphore.specs.SemaphoreSteps.{acquired, in_acquire, in_release, in_try, is_free, looked}
use Rattle.steps_semaphore.specs.declared.acquire.AcquireAt.TheVariants as acquire
use Rattle.steps_semaphore.specs.declared.tries.TryAt.TheVariants as tries
use Rattle.steps_semaphore.specs.declared.release.ReleaseAt.TheVariants as release
use Rattle.lot_steps.specs.Steps.{act_of, next_act, next_place, semaphore_does, semaphore_goes}
use Rattle.lot_steps.specs.declared.places.Place.{Place}
use Rattle.lot_steps.specs.declared.places.Place.TheVariants.{Semaphore}
use Rattle.core_words.specs.Steps.{CodesWith, MayStep, holding, owns_after_step}
use Rattle.core_words.specs.declared.owners.Ownership.{Ownership}
use Rattle.core_words.proofs.SemaphoreSteps.{has_many, semaphore_steps, semaphore_trades}
use Rattle.core_words.specs.Indices.{word_index}
use Rattle.core_words.specs.declared.words.Word.{Word}
use Rattle.core_words.specs.declared.words.WordKind as kinds
use Rattle.run_base.specs.Fitting.{AreWordsFor}
use Rattle.core_words.specs.declared.views.View.{View}
use Rattle.parking_lot_core.specs.Tokens.{told_of, view_of}
use Rattle.parking_lot_core.specs.declared.tokens.Token.{Token}
use Rattle.run_base.specs.Courses.{ComesBy, Courses, Trail, recorded_all, trail_of}
use Rattle.run_base.specs.Paths.{at_semaphore, semaphore_at, step}
use Rattle.run_base.specs.Words.{single_word, at_in, kind_in}
use Rattle.run_base.proofs.Unqueued.{unqueued_semaphore}
use Rattle.run_base.proofs.Courses.{arrives, begins, courses_on, goes_on, one, over_at_once}
use Rattle.run_base.proofs.Courses.{steps_first}
use Rattle.run_once_and_semaphores.specs.SemaphoreCalls.{HasGone, HasLooked, IsSemaphore, deciding, semaphore_begin, try_place}
use Rattle.run_once_and_semaphores.specs.SemaphoreCalls.{waiting, waking}

-- the word of a semaphore stands where that of any semaphore of its number does
pub semaphore_at_alone : (w : Word) → IsSemaphore w → at_in (single_word w) ≡ at_semaphore w.number
semaphore_at_alone w is = ap {B = ℕ → ℕ} (λ (kind : kinds.WordKind) (lock : ℕ). word_index w.number kind) is.1

-- A semaphore's word alone serves its calls.
pub semaphore_alone : (w : Word) (at : SemaphorePlace) → IsSemaphore w → w.number < 9223372036854775808
    → AreWordsFor (Semaphore w.number at) (kind_in (single_word w)) (at_in (single_word w))
semaphore_alone w at is small = (
  small,
  (is.0, ap {B = ℕ → kinds.WordKind} (λ (kind : kinds.WordKind) (lock : ℕ). kind) is.1),
  semaphore_at_alone w is,
)

-- a call that another token of the thread began goes on so
pub by_same : (n : ℕ) (p : Place) (answer : Answer) (old mid new : Token) → mid.number ≡ old.number
    → HasGone n p answer mid new → Courses (at_semaphore n) old.number p (trail_of mid None)
    (trail_of new None) answer
by_same n p answer old mid new e gone =
    subst (λ (me : ℕ). Courses (at_semaphore n) me p (trail_of mid None) (trail_of new None) answer) e gone

module _ (n permits p : ℕ) (kind : kinds.WordKind) (is : kind ≡ kinds.TheVariants.Semaphore p)
    (owns rest : List Ownership) (all : owns ≡ holding (semaphore_at n) permits ++ rest) where
  -- a thread that holds all permits may give all
  pub may_fill : MayStep kind (word_index n kind) (Add (2 * permits)) owns
  may_fill = subst (λ (k : kinds.WordKind). MayStep k (word_index n k) (Add (2 * permits)) owns) (sym is)
      (subst (λ (o : List Ownership). MayStep (kinds.TheVariants.Semaphore p) (semaphore_at n)
      (Add (2 * permits)) o) (sym all)
      ((semaphore_steps p (semaphore_at n) (holding (semaphore_at n) permits ++ rest)).fill permits
      ((semaphore_trades p (semaphore_at n) rest).has_all permits)))

  -- A thread that gives all its permits has none of them then.
  pub filled : (seen : ℕ) → CodesWith kind (word_index n kind) seen owns → owns_after_step kind
      (word_index n kind) (Add (2 * permits)) seen owns ≡ rest
  filled seen code = ap (λ (k : kinds.WordKind). owns_after_step k (word_index n k) (Add (2 * permits)) seen
      owns) is
      ∙ ap (owns_after_step (kinds.TheVariants.Semaphore p) (semaphore_at n) (Add (2 * permits)) seen) all
      ∙ (semaphore_trades p (semaphore_at n) rest).fills permits seen few
    where
      found : CodesWith (kinds.TheVariants.Semaphore p) (semaphore_at n) seen
          (holding (semaphore_at n) permits ++ rest)
      found = subst (λ (o : List Ownership). CodesWith (kinds.TheVariants.Semaphore p) (semaphore_at n) seen
          o) all (subst (λ (k : kinds.WordKind). CodesWith k (word_index n k) seen owns) is code)

      few : seen / 2 + permits ≤ 2 ^ 62
      few = let held = has_many (semaphore_at n) permits (holding (semaphore_at n) permits ++ rest)
          ((semaphore_trades p (semaphore_at n) rest).has_all permits) in
          let all = (semaphore_trades p (semaphore_at n) (holding (semaphore_at n) permits ++ rest)).few seen
          found in omega arith

module _ (n : ℕ) (timed : Bool) (seen found : ℕ) (me : ℕ) (old mid new : Trail) where
  -- the first look
  comes : mid ≡ recorded_all old (one (semaphore_at n) Load seen)
      → ComesBy (at_semaphore n) me (waiting n timed) old mid (deciding n timed seen)
  comes e = goes_on (at_semaphore n) me (waiting n timed) (waiting n timed) (deciding n timed seen) old old
      mid (Value seen) (one (semaphore_at n) Load seen) (begins (at_semaphore n) me (waiting n timed) old) e
      (steps_first (at_semaphore n) me (waiting n timed) n Load seen refl (unqueued_semaphore n
      (Acquire timed false acquire.Load) seen tt refl)) refl

  act_there : is_free seen ≡ true → act_of (deciding n timed seen) ≡ act.Word n (Exchange seen (seen - 2))
  act_there free = ap (λ (b : Bool). if b then act.Word n (Exchange seen (seen - 2)) else if seen == 0
      then act.Word n (Exchange 0 1) else act.Enter (One (2 * n))) free

  -- the call goes on after its first look
  pub waits_on : (answer : Answer) → mid ≡ recorded_all old (one (semaphore_at n) Load seen)
      → Courses (at_semaphore n) me (deciding n timed seen) mid new answer
      → Courses (at_semaphore n) me (waiting n timed) old new answer
  waits_on answer e rest = courses_on (at_semaphore n) me (waiting n timed) (deciding n timed seen) old mid
      new answer (comes e) rest

  -- the exchange took a permit
  pub takes : is_free seen ≡ true → mid ≡ recorded_all old (one (semaphore_at n) Load seen)
      → new ≡ recorded_all mid (one (semaphore_at n) (Exchange seen (seen - 2)) found) → found ≡ seen
      → Courses (at_semaphore n) me (waiting n timed) old new (acquired timed)
  takes free e x same = arrives (at_semaphore n) me (waiting n timed) (deciding n timed seen) old mid new
      (Value found) (one (semaphore_at n) (Exchange seen (seen - 2)) found) (acquired timed) (comes e) x
      (steps_first (at_semaphore n) me (deciding n timed seen) n (Exchange seen (seen - 2)) found
      (act_there free) (unqueued_semaphore n (Acquire timed false (acquire.Decide seen)) found tt refl)) ends
    where
      ends : next_act (deciding n timed seen) (Value found) ≡ act.End (acquired timed)
      ends = ap (λ (b : Bool). semaphore_does n
          (in_acquire timed false (if not b then At (acquire.Decide found) else if is_free found
          then End (acquired timed) else At (acquire.Decide 1)))) (eq-eqb found seen same)
          ∙ ap (λ (b : Bool). semaphore_does n (in_acquire timed false (if b then End (acquired timed)
          else At (acquire.Decide 1)))) (ap is_free same ∙ free)

  -- A try whose exchange missed goes on after that.
  pub misses : (rest : Trail) (answer : Answer) → is_free seen ≡ true → mid
      ≡ recorded_all old (one (semaphore_at n) Load seen) → new
      ≡ recorded_all mid (one (semaphore_at n) (Exchange seen (seen - 2)) found) → found ≢ seen
      → Courses (at_semaphore n) me (deciding n timed found) new rest answer
      → Courses (at_semaphore n) me (waiting n timed) old rest answer
  misses rest answer free e x ne walks = courses_on (at_semaphore n) me (waiting n timed)
      (deciding n timed found) old new rest answer
      (goes_on (at_semaphore n) me (waiting n timed) (deciding n timed seen) (deciding n timed found) old mid
      new (Value found) (one (semaphore_at n) (Exchange seen (seen - 2)) found) (comes e) x
      (steps_first (at_semaphore n) me (deciding n timed seen) n (Exchange seen (seen - 2)) found
      (act_there free) (unqueued_semaphore n (Acquire timed false (acquire.Decide seen)) found tt refl))
      is)
      walks
    where
      is : deciding n timed found ≡ next_place (deciding n timed seen) (Value found)
      is = sym (ap (λ (b : Bool). semaphore_goes n (in_acquire timed false
          (if not b then At (acquire.Decide found) else if is_free found then End (acquired timed)
          else At (acquire.Decide 1)))) (ne_eqb found seen ne))

module _ (n : ℕ) (seen found : ℕ) (me : ℕ) (old mid new : Trail) where
  -- a try that saw none free
  pub sees_none : is_free seen ≡ false → mid ≡ recorded_all old (one (semaphore_at n) Load seen)
      → Courses (at_semaphore n) me (semaphore_begin n (calls.Acquire OnlyTry)) old mid answers.No
  sees_none full e = over_at_once (at_semaphore n) me (semaphore_begin n (calls.Acquire OnlyTry)) n Load seen
      old mid answers.No refl (unqueued_semaphore n (Try tries.Load) seen tt refl) e
      (ap (λ (b : Bool). semaphore_does n (in_try (if b then At (tries.Decide seen) else End answers.No)))
      full)

  tries_it : is_free seen ≡ true → mid ≡ recorded_all old (one (semaphore_at n) Load seen)
      → ComesBy (at_semaphore n) me (semaphore_begin n (calls.Acquire OnlyTry)) old mid (try_place n seen)
  tries_it free e = goes_on (at_semaphore n) me (semaphore_begin n (calls.Acquire OnlyTry))
      (semaphore_begin n (calls.Acquire OnlyTry)) (try_place n seen) old old mid (Value seen)
      (one (semaphore_at n) Load seen) (begins (at_semaphore n) me (semaphore_begin n (calls.Acquire OnlyTry))
      old) e (steps_first (at_semaphore n) me (semaphore_begin n (calls.Acquire OnlyTry)) n Load seen refl
      (unqueued_semaphore n (Try tries.Load) seen tt refl))
      (sym (ap (λ (b : Bool). semaphore_goes n
      (in_try (if b then At (tries.Decide seen) else End answers.No))) free))

  try_there : is_free seen ≡ true → act_of (try_place n seen) ≡ act.Word n (Exchange seen (seen - 2))
  try_there free = ap (λ (b : Bool). if b then act.Word n (Exchange seen (seen - 2)) else act.Word n Load)
      free

  -- one that took a permit
  pub tries_well : is_free seen ≡ true → mid ≡ recorded_all old (one (semaphore_at n) Load seen) → new
      ≡ recorded_all mid (one (semaphore_at n) (Exchange seen (seen - 2)) found) → found ≡ seen
      → Courses (at_semaphore n) me (semaphore_begin n (calls.Acquire OnlyTry)) old new answers.Yes
  tries_well free e x same = arrives (at_semaphore n) me (semaphore_begin n (calls.Acquire OnlyTry))
      (try_place n seen) old mid new (Value found) (one (semaphore_at n) (Exchange seen (seen - 2)) found)
      answers.Yes (tries_it free e) x (steps_first (at_semaphore n) me (try_place n seen) n
      (Exchange seen (seen - 2)) found (try_there free) (unqueued_semaphore n (Try (tries.Decide seen)) found
      tt refl)) ends
    where
      ends : next_act (try_place n seen) (Value found) ≡ act.End answers.Yes
      ends = ap (λ (b : Bool). semaphore_does n (in_try (if b && is_free found then End answers.Yes
          else looked found))) (eq-eqb found seen same)
          ∙ ap (λ (b : Bool). semaphore_does n (in_try (if b then End answers.Yes else looked found)))
          (ap is_free same ∙ free)

  -- one that missed it, and found none free
  pub misses_all : is_free seen ≡ true → is_free found ≡ false
      → mid ≡ recorded_all old (one (semaphore_at n) Load seen)
      → new ≡ recorded_all mid (one (semaphore_at n) (Exchange seen (seen - 2)) found) → found ≢ seen
      → Courses (at_semaphore n) me (semaphore_begin n (calls.Acquire OnlyTry)) old new answers.No
  misses_all free full e x ne = arrives (at_semaphore n) me (semaphore_begin n (calls.Acquire OnlyTry))
      (try_place n seen) old mid new (Value found) (one (semaphore_at n) (Exchange seen (seen - 2)) found)
      answers.No (tries_it free e) x (steps_first (at_semaphore n) me (try_place n seen) n
      (Exchange seen (seen - 2)) found (try_there free) (unqueued_semaphore n (Try (tries.Decide seen)) found
      tt refl)) ends
    where
      ends : next_act (try_place n seen) (Value found) ≡ act.End answers.No
      ends = ap (λ (b : Bool). semaphore_does n (in_try (if b && is_free found then End answers.Yes
          else looked found))) (ne_eqb found seen ne)
          ∙ ap (λ (b : Bool). semaphore_does n
          (in_try (if b then At (tries.Decide found) else End answers.No))) full

  -- A try that found a permit free goes on after that.
  pub tries_on : (rest : Trail) (answer : Answer) → is_free seen ≡ true → is_free found ≡ true
      → mid ≡ recorded_all old (one (semaphore_at n) Load seen)
      → new ≡ recorded_all mid (one (semaphore_at n) (Exchange seen (seen - 2)) found) → found ≢ seen
      → Courses (at_semaphore n) me (try_place n found) new rest answer → Courses (at_semaphore n) me
      (semaphore_begin n (calls.Acquire OnlyTry)) old rest answer
  tries_on rest answer free more e x ne walks = courses_on (at_semaphore n) me
      (semaphore_begin n (calls.Acquire OnlyTry)) (try_place n found) old new rest answer
      (goes_on (at_semaphore n) me (semaphore_begin n (calls.Acquire OnlyTry)) (try_place n seen)
      (try_place n found) old mid new (Value found) (one (semaphore_at n) (Exchange seen (seen - 2))
      found) (tries_it free e) x (steps_first (at_semaphore n) me (try_place n seen) n
      (Exchange seen (seen - 2)) found (try_there free) (unqueued_semaphore n (Try (tries.Decide seen))
      found tt refl)) is)
      walks
    where
      is : try_place n found ≡ next_place (try_place n seen) (Value found)
      is = sym (ap (λ (b : Bool). semaphore_goes n (in_try (if b && is_free found then End answers.Yes
          else looked found))) (ne_eqb found seen ne)
          ∙ ap (λ (b : Bool). semaphore_goes n
          (in_try (if b then At (tries.Decide found) else End answers.No))) more)

  -- A try that saw a permit free goes on after its look.
  pub tries_after : (answer : Answer) → is_free seen ≡ true
      → mid ≡ recorded_all old (one (semaphore_at n) Load seen)
      → Courses (at_semaphore n) me (try_place n seen) mid new answer
      → Courses (at_semaphore n) me (semaphore_begin n (calls.Acquire OnlyTry)) old new answer
  tries_after answer free e walks = courses_on (at_semaphore n) me
      (semaphore_begin n (calls.Acquire OnlyTry)) (try_place n seen) old mid new answer (tries_it free e) walks

module _ (n seen : ℕ) (me : ℕ) (old mid new : Trail) where
  -- a release that saw nobody parked
  pub releases_at_once : has_parked seen ≡ false → mid ≡ recorded_all old (one (semaphore_at n) (Add 2) seen)
      → Courses (at_semaphore n) me (semaphore_begin n calls.Release) old mid answers.Ok
  releases_at_once none e = over_at_once (at_semaphore n) me (semaphore_begin n calls.Release) n (Add 2) seen
      old mid answers.Ok refl (unqueued_semaphore n (Release release.Add) seen tt refl) e
      (ap (λ (b : Bool). semaphore_does n (in_release (if b then At release.Enter else End answers.Ok))) none)

  -- A release that saw waiters goes on after its addition.
  pub releases_on : (answer : Answer) → has_parked seen ≡ true
      → mid ≡ recorded_all old (one (semaphore_at n) (Add 2) seen)
      → Courses (at_semaphore n) me (waking n) mid new answer
      → Courses (at_semaphore n) me (semaphore_begin n calls.Release) old new answer
  releases_on answer parked e rest = courses_on (at_semaphore n) me (semaphore_begin n calls.Release)
      (waking n) old mid new answer
      (goes_on (at_semaphore n) me (semaphore_begin n calls.Release) (semaphore_begin n calls.Release)
      (waking n) old old mid (Value seen) (one (semaphore_at n) (Add 2) seen)
      (begins (at_semaphore n) me (semaphore_begin n calls.Release) old) e
      (steps_first (at_semaphore n) me (semaphore_begin n calls.Release) n (Add 2) seen refl
      (unqueued_semaphore n (Release release.Add) seen tt refl))
      (sym (ap (λ (b : Bool). semaphore_goes n (in_release (if b then At release.Enter else End answers.Ok)))
      parked)))
      rest

-- a look of a thread that has done nothing since is one since then
pub looked_since : (n seen : ℕ) (old mid new : Token) → mid.number ≡ old.number → view_of mid ≡ view_of old
    → told_of mid ≡ told_of old → HasLooked n seen mid new → HasLooked n seen old new
looked_since n seen old mid new number view told by = (
  (by.0.0 ∙ number, by.0.1 ∙ ap (λ (v : View). v.owns) view),
  by.1,
  by.2 ∙ ap (λ (v : View). v.steps ++ step (semaphore_at n) Load seen) view,
  by.3 ∙ told,
)
