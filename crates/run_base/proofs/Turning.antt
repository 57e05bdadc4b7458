-- One turn of the driver: the steps that it added bring the reply, and that leads on.
use Rattle.std.proofs.Common.{ℕ, ◌≡◌, ◌≢◌, ◌++◌, Bool, true, List, [], Option, Some, None, refl, sym, ap, ◌∙◌}
use Rattle.std.proofs.Common.{subst}
use Rattle.std.proofs.lemmas.List.{append-nil}
use Rattle.core_base.specs.declared.ops.Op.{Op}
use Rattle.spec_locks.specs.declared.outcomes.OnceState.{OnceState}
use Rattle.core_base.specs.declared.ops.Op.TheVariants.{Load}
use Rattle.steps_mutex.specs.MutexSteps.{mutex_next}
use Rattle.steps_rwlock_fair.specs.FairSteps.{call_next}
use Rattle.steps_rwlock_fair.specs.declared.places.RwLockCallPlace.{RwLockCallPlace}
use Rattle.steps_condvar.specs.CondvarSteps.{in_notify, in_wait, next_notify, next_wait}
use Rattle.steps_condvar.specs.declared.notify.NotifyAt.{NotifyAt}
use Rattle.steps_condvar.specs.declared.places.CondvarPlace.TheVariants.{Wait, Look, Notify}
use Rattle.steps_condvar.specs.declared.wait.WaitAt.{WaitAt}
use Rattle.steps_once.specs.OnceSteps.{once_next}
use Rattle.steps_once.specs.declared.places.OncePlace.{OncePlace}
use Rattle.steps_semaphore.specs.SemaphoreSteps.{semaphore_next}
use Rattle.steps_semaphore.specs.declared.places.SemaphorePlace.{SemaphorePlace}
use Rattle.lot_steps.specs.Steps.{act_of, next_act, next_place, mutex_goes, rwlock_goes, once_goes}
use Rattle.lot_steps.specs.Steps.{condvar_goes, semaphore_goes, HasKeys, ShowsKeys}
use Rattle.lot_steps.proofs.Onward.{does}
use Rattle.steps_base.specs.declared.acts.Next.{Next}
use Rattle.steps_base.specs.declared.acts.Next.TheVariants.{At, End}
use Rattle.steps_mutex.specs.declared.places.MutexPlace.{MutexPlace}
use Rattle.steps_base.specs.declared.acts.Act.{Act}
use Rattle.steps_base.specs.declared.acts.Act.TheVariants as act
use Rattle.steps_base.specs.declared.acts.TakeWhich.TheVariants as whom
use Rattle.steps_base.specs.declared.acts.Reply.{Reply}
use Rattle.steps_base.specs.declared.acts.Reply.TheVariants.{Done, Value, Parked, Took, Picked, Requeued}
use Rattle.steps_base.specs.declared.acts.Reply.TheVariants.{Removed, MovedTo, Late, Woken}
use Rattle.lot_steps.specs.declared.places.Place.{Place}
use Rattle.lot_steps.specs.declared.places.Place.TheVariants.{Idle, Mutex, RwLock, Once, Condvar, Semaphore}
use Rattle.core_words.specs.Indices.{word_index}
use Rattle.core_words.specs.Steps.{CodesWith, after_step, owns_after_step}
use Rattle.core_words.specs.declared.views.View.{View}
use Rattle.core_words.specs.declared.views.WordStep.{WordStep}
use Rattle.core_words.specs.declared.words.Word.{Word}
use Rattle.core_words.specs.declared.words.WordKind.{WordKind}
use Rattle.parking_lot_core.specs.Tokens.{view_of, last_of}
use Rattle.parking_lot_core.specs.declared.sections.Section.{Section}
use Rattle.parking_lot_core.specs.declared.tokens.SectionRecord.{SectionRecord}
use Rattle.parking_lot_core.specs.declared.tokens.Token.{Token}
use Rattle.run_base.specs.Fitting.{AreWordsFor, answer_of, sleeper_at}
use Rattle.run_base.specs.Paths.{Brings, MayReply, Told, closure_of, step, word, hands, parks, other}
use Rattle.run_base.specs.Paths.{is_wordless, is_valueless}
use Rattle.run_base.specs.Stages.{ThreadState, Became, Stepped, Adds, stage, stage_of, section_view}
use Rattle.run_base.specs.Sleepers.{late_key_at}

wordless : (at : ℕ → ℕ) (p : Place) (a : Act) (reply : Reply) (before afterwards : List WordStep)
    → act_of p ≡ a
    → is_wordless a ≡ true → is_valueless reply ≡ true → MayReply p reply → afterwards ≡ before
    → Told at p reply before afterwards
wordless at p a reply before afterwards is quiet valueless may e = (
  [],
  e ∙ sym (append-nil before),
  other p reply (ap is_wordless is ∙ quiet) valueless may,
)

-- the key under which a sleeper may be late is its place's
is_late_at : (p : Place) → (sleeper_at p).late ≡ late_key_at p
is_late_at Idle = refl
is_late_at (Mutex l at) = refl
is_late_at (RwLock l a c) = refl
is_late_at (Once l at) = refl
is_late_at (Condvar l at) = refl
is_late_at (Semaphore l at) = refl

has_deadline : (p : Place) (key : ℕ) → (sleeper_at p).late ≡ Some key → late_key_at p ≢ None
has_deadline p key late none = let one : Some key ≡ None = sym late ∙ is_late_at p ∙ none in cc

some_closure : {state : OnceState} → Some state ≡ None → ⊥
some_closure e = cc

pub told : (up : Type 0) (at : ℕ → ℕ) (kinds : ℕ → WordKind) (p : Place) (a : Act) → act_of p ≡ a
    → closure_of a ≡ None → (st new : ThreadState) (reply : Reply) (before afterwards : List WordStep)
    → Became up kinds at (sleeper_at p) st a reply new → Adds at a reply before afterwards
    → Told at p reply before afterwards
told up at kinds p (act.Word l op) is runs st new (Value seen) before afterwards b e =
    (step (at l) op seen, e, word p l op seen is)
told up at kinds p (act.HandOver l op) is runs st new (Value seen) before afterwards b e =
    (step (at l) op seen, e, hands p l op seen is)
told up at kinds p (act.Park l key check want) is runs st new (Parked parked) before afterwards b
    e = (
      step (at l) Load e.0,
      e.2,
      subst (λ (x : Bool). Brings at p (step (at l) Load e.0) (Parked x)) (sym e.1)
          (parks p l key check want e.0 is),
    )
told up at kinds p (act.Enter keys) is runs st new Done before afterwards b e =
    wordless at p (act.Enter keys) Done before afterwards is refl refl tt e
told up at kinds p (act.Stand key want) is runs st new Done before afterwards b e =
    wordless at p (act.Stand key want) Done before afterwards is refl refl tt e
told up at kinds p (act.Take key whom.First) is runs st new (Took any left) before
    afterwards b e = wordless at p (act.Take key whom.First) (Took any left) before
    afterwards
    is refl refl tt e
told up at kinds p (act.Take key whom.All) is runs st new (Took any left) before
    afterwards b e = wordless at p (act.Take key whom.All) (Took any left) before
    afterwards
    is refl refl tt e
told up at kinds p (act.Take key (whom.Picked start recursive)) is runs st new
    (Picked sharers successor left) before afterwards b e =
    wordless at p (act.Take key (whom.Picked start recursive))
    (Picked sharers successor left) before afterwards is refl refl tt e
told up at kinds p (act.Take key who) is runs st new reply before afterwards b e = absurd b.0
told up at kinds p (act.Requeue from to how) is runs st new (Requeued number left) before
    afterwards b
    e = wordless at p (act.Requeue from to how) (Requeued number left) before afterwards is refl
    refl
    tt e
told up at kinds p (act.Remove key) is runs st new (Removed left) before afterwards b e =
    wordless at p (act.Remove key) (Removed left) before afterwards is refl refl tt e
told up at kinds p (act.Leave keys wakes) is runs st new Done before afterwards b e =
    wordless at p (act.Leave keys wakes) Done before afterwards is refl refl tt e
told up at kinds p act.Sleep is runs st new (Woken note) before afterwards b e =
    wordless at p act.Sleep (Woken note) before afterwards is refl refl tt e
told up at kinds p act.Sleep is runs st new Late before afterwards b e =
    wordless at p act.Sleep Late before afterwards is refl refl (has_deadline p b.0 b.1.0) e
told up at kinds p act.Sleep is runs st new (MovedTo key) before afterwards b e =
    wordless at p act.Sleep (MovedTo key) before afterwards is refl refl
    (λ none. b.2 (is_late_at p ∙ none)) e
told up at kinds p act.Accept is runs st new Done before afterwards b e =
    wordless at p act.Accept Done before afterwards is refl refl tt e
told up at kinds p (act.Closure state) is runs st new reply before afterwards b e =
    absurd (some_closure runs)
told up at kinds p a is runs st new reply before afterwards b e = absurd b

-- the words of a call serve it to its end
pub words_on : (p : Place) (reply : Reply) (kinds : ℕ → WordKind) (at : ℕ → ℕ) → AreWordsFor p kinds at
    → AreWordsFor (next_place p reply) kinds at
words_on Idle reply kinds at w = tt
words_on (RwLock l a place) reply kinds at w = by_next (call_next a place reply)
  where
    by_next : (goes : Next RwLockCallPlace) → AreWordsFor (rwlock_goes l a goes) kinds at
    by_next (At next) = w
    by_next (End answer) = tt
words_on (Once l place) reply kinds at w = by_next (once_next place reply)
  where
    by_next : (goes : Next OncePlace) → AreWordsFor (once_goes l goes) kinds at
    by_next (At next) = w
    by_next (End answer) = tt
words_on (Mutex l place) reply kinds at w = by_next (mutex_next place reply)
  where
    by_next : (goes : Next MutexPlace) → AreWordsFor (mutex_goes l goes) kinds at
    by_next (At next) = w
    by_next (End answer) = tt
words_on (Semaphore l place) reply kinds at w = by_next (semaphore_next place reply)
  where
    by_next : (goes : Next SemaphorePlace) → AreWordsFor (semaphore_goes l goes) kinds at
    by_next (At next) = w
    by_next (End answer) = tt
words_on (Condvar l (Wait m timed place)) reply kinds at w = by_next (next_wait m timed place reply)
  where
    by_next : (goes : Next WaitAt) → AreWordsFor (condvar_goes l (in_wait m timed goes)) kinds at
    by_next (At next) = w
    by_next (End answer) = tt
words_on (Condvar l (Look all)) reply kinds at w = absurd w.1
words_on (Condvar l (Notify all m place)) reply kinds at w = by_next (next_notify all m place reply)
  where
    by_next : (goes : Next NotifyAt) → AreWordsFor (condvar_goes l (in_notify all m goes)) kinds at
    by_next (At next) = w
    by_next (End answer) = tt

pub has_keys : (p : Place) (kinds : ℕ → WordKind) (at : ℕ → ℕ) → AreWordsFor p kinds at → HasKeys p
has_keys (Mutex l at) kinds places w = w.0
has_keys Idle kinds at w = tt
has_keys (RwLock l a place) kinds at w = w.0
has_keys (Once l place) kinds at w = w.0
has_keys (Condvar l place) kinds at w = w.0
has_keys (Semaphore l place) kinds at w = w.0

-- No call shows another mutex after its step.
pub shows_keys : (p : Place) (reply : Reply) (kinds : ℕ → WordKind) (at : ℕ → ℕ) → AreWordsFor p kinds at
    → ShowsKeys p reply
shows_keys Idle reply kinds at w = tt
shows_keys (Mutex l place) reply kinds at w = tt
shows_keys (RwLock l a place) reply kinds at w = tt
shows_keys (Once l place) reply kinds at w = tt
shows_keys (Semaphore l place) reply kinds at w = tt
shows_keys (Condvar l place) reply kinds at w = has_keys (next_place (Condvar l place) reply) kinds at
    (words_on (Condvar l place) reply kinds at w)

-- a step on a word, as the stage has it
pub by_stage : (w : Word) (op : Op) (seen : ℕ) (old : Token) (section : Option Section) (new : Token)
    → view_of new ≡ after_step w.kind (word_index w.number w.kind) op seen (view_of old) → last_of new ≡ None
    → CodesWith w.kind (word_index w.number w.kind) seen (view_of old).owns
    → Stepped w.kind (word_index w.number w.kind) op seen (stage_of old section) (stage_of new section)
by_stage w op seen old section new e last code = (
  code,
  ap (λ (v : View). stage v.owns (section_view section) (last_of new) v.steps) e
      ∙ ap (λ (l : Option SectionRecord). stage (owns_after_step w.kind (word_index w.number w.kind) op seen
      (view_of old).owns) (section_view section) l ((view_of old).steps
      ++ step (word_index w.number w.kind) op seen)) last,
)

-- a step that ends no call does what its place says
pub does_next : (p : Place) (reply : Reply) → answer_of (next_act p reply) ≡ None → next_act p reply
    ≡ act_of (next_place p reply)
does_next p reply none = does p reply (λ x e. let some : answer_of (next_act p reply) ≡ Some x =
    ap answer_of e in cc)
