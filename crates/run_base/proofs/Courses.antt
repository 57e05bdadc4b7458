-- Courses that go on.
use Rattle.std.proofs.Common.{ℕ, ◌≡◌, true, false, List, [], ◌∷◌, ◌++◌, None, inl, inr, sym, refl, ap}
use Rattle.std.proofs.Common.{◌∙◌, subst}
use Rattle.std.proofs.lemmas.Bool.{false≢true}
use Rattle.std.proofs.lemmas.List.{append_assoc, append-nil}
use Rattle.core_base.specs.declared.ops.Op.{Op}
use Rattle.core_words.specs.declared.views.WordStep.{WordStep}
use Rattle.lot_steps.specs.Steps.{act_of, next_place, next_act}
use Rattle.steps_base.specs.declared.acts.Act.{Act}
use Rattle.steps_base.specs.declared.acts.Act.TheVariants as act
use Rattle.steps_base.specs.declared.acts.Reply.{Reply}
use Rattle.steps_base.specs.declared.acts.Reply.TheVariants.{Late, MovedTo, Value, Woken}
use Rattle.spec_locks.specs.declared.outcomes.Answer.{Answer}
use Rattle.lot_steps.specs.declared.places.Place.{Place}
use Rattle.parking_lot_core.specs.Tokens.{told_of}
use Rattle.parking_lot_core.specs.declared.tellings.Telling.{Telling}
use Rattle.parking_lot_core.specs.declared.tokens.Token.{Token}
use Rattle.run_base.specs.Courses.{BringsBy, ComesBy, Course, Courses, CoursesAfterReply, PathItem, Performs}
use Rattle.run_base.specs.Courses.{SleepsBy, Trail, did_act, did_acts, did_enter, did_leave, did_sleep}
use Rattle.run_base.specs.Courses.{did_step, did_steps, goes, recorded, recorded_all, rests, sees, steps_in}
use Rattle.run_base.specs.Courses.{trail, trail_of}
use Rattle.run_base.specs.Paths.{GoesFrom, step, word}
use Rattle.run_base.specs.Queued.{is_queued, needs_place}
use Rattle.run_base.specs.Telling.{steps_of}

pub trails : {a b : List WordStep} {s t : List Telling} → a ≡ b → s ≡ t → trail a s ≡ trail b t
trails {b = b} {s = s} e f = ap (λ (l : List WordStep). trail l s) e ∙ ap (λ (l : List Telling). trail b l) f

pub recorded_on : (x : Trail) (a b : List PathItem) → recorded_all (recorded_all x a) b
    ≡ recorded_all x (a ++ b)
recorded_on x [] b = refl
recorded_on x (item ∷ a) b = recorded_on (recorded x item) a b

-- the steps among what was done are those that were added
pub steps_recorded : (x : Trail) (a : List PathItem) → (recorded_all x a).steps ≡ x.steps ++ steps_in a
steps_recorded x [] = sym (append-nil x.steps)
steps_recorded x (did_step one ∷ a) =
    steps_recorded (recorded x (did_step one)) a ∙ append_assoc x.steps (one ∷ []) (steps_in a)
steps_recorded x (did_enter keys ∷ a) = steps_recorded (recorded x (did_enter keys)) a
steps_recorded x (did_act one ∷ a) = steps_recorded (recorded x (did_act one)) a
steps_recorded x (did_leave note ∷ a) = steps_recorded (recorded x (did_leave note)) a
steps_recorded x (did_sleep ∷ a) = steps_recorded (recorded x did_sleep) a

-- the steps that a thread has taken since
pub steps_since : (old new : Trail) (a : List PathItem) → new ≡ recorded_all old a → new.steps ≡ old.steps
    ++ steps_in a
steps_since old new a e = ap (λ (x : Trail). x.steps) e ∙ steps_recorded old a

steps_apart : (a b : List PathItem) → steps_in (a ++ b) ≡ steps_in a ++ steps_in b
steps_apart [] b = refl
steps_apart (did_step one ∷ a) b = ap (λ (l : List WordStep). one ∷ l) (steps_apart a b)
steps_apart (did_enter keys ∷ a) b = steps_apart a b
steps_apart (did_act one ∷ a) b = steps_apart a b
steps_apart (did_leave note ∷ a) b = steps_apart a b
steps_apart (did_sleep ∷ a) b = steps_apart a b

did_these : (s : List WordStep) → steps_in (did_steps s) ≡ s
did_these [] = refl
did_these (one ∷ s) = ap (λ (l : List WordStep). one ∷ l) (did_these s)

acts_no_step : (t : List Telling) → steps_in (did_acts t) ≡ []
acts_no_step [] = refl
acts_no_step (one ∷ t) = acts_no_step t

sleeps_no_step : (me : ℕ) (reply : Reply) (items : List PathItem) → SleepsBy me reply items
    → steps_in items ≡ []
sleeps_no_step me (Woken note) items (inl woken) = ap steps_in woken
sleeps_no_step me (Woken note) items (inr late) = ap steps_in late.1
sleeps_no_step me Late items late = ap steps_in late.1
sleeps_no_step me (MovedTo to) items moved = ap steps_in moved
sleeps_no_step me reply items none = absurd none

-- beside its step on a word an act takes none
does_no_step : (me : ℕ) (a : Act) (reply : Reply) (items : List PathItem) → Performs me a reply items
    → steps_in items ≡ []
does_no_step me (act.Enter keys) reply items does = ap steps_in does
does_no_step me (act.Leave keys wakes) reply items does = ap steps_in does
does_no_step me act.Sleep reply items does = sleeps_no_step me reply items does
does_no_step me a reply items does = ap steps_in does.1 ∙ acts_no_step does.0

-- one step on a word, and nothing else
abbrev pub one : ℕ → Op → ℕ → List PathItem
one at op seen = did_steps (step at op seen)

pub one_more : (old new : Token) (at : ℕ) (op : Op) (seen : ℕ) → steps_of new ≡ steps_of old
    ++ step at op seen → told_of new ≡ told_of old → trail_of new None ≡ recorded_all (trail_of old None)
    (one at op seen)
one_more old new at op seen e same = trails e same

module _ (at : ℕ → ℕ) (me : ℕ) where
  -- the steps with which a call ends are the last of all
  pub steps_to_end : (p : Place) (old new : Trail) (answer : Answer) (w : Courses at me p old new answer)
      → new.steps ≡ old.steps ++ (steps_in w.2.before ++ w.2.will_bring.0)
  steps_to_end p old new answer w = let end = w.2 in let will_bring = end.will_bring in
      steps_since old new w.0 w.1 ∙ ap (λ (l : List WordStep). old.steps ++ l)
      (ap steps_in end.whole ∙ (steps_apart end.before end.more
      ∙ ap (λ (l : List WordStep). steps_in end.before ++ l)
      (ap steps_in will_bring.2 ∙ (steps_apart (did_steps will_bring.0) will_bring.1
      ∙ (ap (λ (l : List WordStep). steps_in (did_steps will_bring.0) ++ l)
      (does_no_step me (act_of end.last) end.reply will_bring.1 will_bring.4)
      ∙ (append-nil (steps_in (did_steps will_bring.0)) ∙ did_these will_bring.0))))))

  -- nothing was done
  pub begins : (p : Place) (old : Trail) → ComesBy at me p old old p
  begins p old = ([], refl, rests p)

  -- a look in place of the act
  pub begins_from : (p q r : Place) (old new : Trail) → ComesBy at me p old new q → GoesFrom q r
      → ComesBy at me p old new r
  begins_from p q r old new c (inl same) = subst (ComesBy at me p old new) (sym same) c
  begins_from p q r old new c (inr is) = (c.0, c.1, sees p q r c.0 c.2 is)

  -- one reply more
  pub goes_on : (p q r : Place) (old mid new : Trail) (reply : Reply)
      (then : List PathItem) → ComesBy at me p old mid q → new ≡ recorded_all mid then
      → BringsBy at me q then reply → r ≡ next_place q reply → ComesBy at me p old new r
  goes_on p q r old mid new reply then c e will_bring is = (
    c.0 ++ then,
    e ∙ ap (λ (x : Trail). recorded_all x then) c.1 ∙ recorded_on old c.0 then,
    subst (Course at me p (c.0 ++ then)) (sym is) (goes p q c.0 then reply c.2 will_bring),
  )

  -- the last reply
  pub arrives : (p q : Place) (old mid new : Trail) (reply : Reply) (then : List PathItem)
      (answer : Answer) → ComesBy at me p old mid q → new ≡ recorded_all mid then
      → BringsBy at me q then reply → next_act q reply ≡ act.End answer
      → Courses at me p old new answer
  arrives p q old mid new reply then answer c e will_bring ends = (
    c.0 ++ then,
    e ∙ ap (λ (x : Trail). recorded_all x then) c.1 ∙ recorded_on old c.0 then,
    record {
      last = q;
      before = c.0;
      more = then;
      reply = reply;
      course = c.2;
      will_bring = will_bring;
      whole = refl;
      ends = ends;
    },
  )

  both : (p q r : Place) (x y : List PathItem) → Course at me p x q → Course at me q y r
      → Course at me p (x ++ y) r
  both p q _ x _ u (rests _) = subst (λ (t : List PathItem). Course at me p t q) (sym (append-nil x)) u
  both p q r x y u (sees _ m _ _ v is) = sees p m r (x ++ y) (both p q m x y u v) is
  both p q _ x _ u (goes _ r y z reply v will_bring) =
      subst (λ (t : List PathItem). Course at me p t (next_place r reply)) (append_assoc x y z)
      (goes p r (x ++ y) z reply (both p q r x y u v) will_bring)

  -- a course, and then the rest of the call
  pub courses_on : (p q : Place) (old mid new : Trail) (answer : Answer) → ComesBy at me p old mid q
      → Courses at me q mid new answer → Courses at me p old new answer
  courses_on p q old mid new answer c w = let rest = w.2 in (
    c.0 ++ w.0,
    w.1 ∙ ap (λ (x : Trail). recorded_all x w.0) c.1 ∙ recorded_on old c.0 w.0,
    record {
      last = rest.last;
      before = c.0 ++ rest.before;
      more = rest.more;
      reply = rest.reply;
      course = both p q rest.last c.0 rest.before c.2 rest.course;
      will_bring = rest.will_bring;
      whole = ap (λ (x : List PathItem). c.0 ++ x) rest.whole ∙ sym (append_assoc c.0 rest.before rest.more);
      ends = rest.ends;
    },
  )

  -- a step on a word after which nobody is queued tells nothing
  pub steps_first : (p : Place) (l : ℕ) (op : Op) (seen : ℕ) → act_of p ≡ act.Word l op
      → is_queued (next_place p (Value seen)) ≡ false → BringsBy at me p (one (at l) op seen) (Value seen)
  steps_first p l op seen is calm = (
    step (at l) op seen,
    [],
    refl,
    word p l op seen is,
    subst (λ a. Performs me a (Value seen) []) (sym is) ([], refl, refl),
    (
      λ needs. absurd (false≢true (subst (λ a. needs_place a ≡ true) is needs)),
      λ queued. absurd (false≢true (sym calm ∙ queued)),
    ),
  )

  -- a call whose first step ends it
  pub arrives_at_once : (p : Place) (l : ℕ) (op : Op) (seen : ℕ) (a b : List WordStep) (s t : List Telling)
      (answer : Answer) → act_of p ≡ act.Word l op → is_queued (next_place p (Value seen)) ≡ false
      → b ≡ a ++ step (at l) op seen → t ≡ s → next_act p (Value seen) ≡ act.End answer
      → Courses at me p (trail a s) (trail b t) answer
  arrives_at_once p l op seen a b s t answer is calm e same ends =
      arrives p p (trail a s) (trail a s) (trail b t) (Value seen) (one (at l) op seen) answer
      (begins p (trail a s)) (trails e same) (steps_first p l op seen is calm) ends

  -- the first step of a call, and then the rest
  pub courses_from : (p : Place) (l : ℕ) (op : Op) (seen : ℕ) (a b : List WordStep) (s t : List Telling)
      (new : Trail) (answer : Answer) → act_of p ≡ act.Word l op
      → is_queued (next_place p (Value seen)) ≡ false → b ≡ a ++ step (at l) op seen → t ≡ s
      → Courses at me (next_place p (Value seen)) (trail b t) new answer → Courses at me p (trail a s) new
      answer
  courses_from p l op seen a b s t new answer is calm e same rest =
      courses_on p (next_place p (Value seen)) (trail a s) (trail b t) new answer
      (goes_on p p (next_place p (Value seen)) (trail a s) (trail a s) (trail b t) (Value seen)
      (one (at l) op seen) (begins p (trail a s)) (trails e same)
      (steps_first p l op seen is calm) refl) rest

  -- a call that ends by its first step, by trails
  pub over_at_once : (p : Place) (l : ℕ) (op : Op) (seen : ℕ) (old new : Trail) (answer : Answer)
      → act_of p ≡ act.Word l op → is_queued (next_place p (Value seen)) ≡ false
      → new ≡ recorded_all old (one (at l) op seen) → next_act p (Value seen) ≡ act.End answer
      → Courses at me p old new answer
  over_at_once p l op seen old new answer is calm e ends = arrives p p old old new (Value seen)
      (one (at l) op seen) answer (begins p old) e (steps_first p l op seen is calm) ends

  pub courses_after : (p : Place) (l : ℕ) (op : Op) (seen : ℕ) (old mid new : Trail) (answer : Answer)
      → act_of p ≡ act.Word l op → is_queued (next_place p (Value seen)) ≡ false
      → mid ≡ recorded_all old (one (at l) op seen) → Courses at me (next_place p (Value seen)) mid new answer
      → Courses at me p old new answer
  courses_after p l op seen old mid new answer is calm e rest = courses_on p (next_place p (Value seen)) old
      mid new answer (goes_on p p (next_place p (Value seen)) old old mid (Value seen) (one (at l) op seen)
      (begins p old) e (steps_first p l op seen is calm) refl) rest

  -- a step, and what is left of the call after it
  pub courses_rest : (p : Place) (l : ℕ) (op : Op) (seen : ℕ) (old mid new : Trail) (answer : Answer)
      → act_of p ≡ act.Word l op → is_queued (next_place p (Value seen)) ≡ false
      → mid ≡ recorded_all old (one (at l) op seen) → CoursesAfterReply at me p (Value seen) mid new answer
      → Courses at me p old new answer
  courses_rest p l op seen old mid new answer is calm e (inl ended) =
      over_at_once p l op seen old new answer is calm (ended.0 ∙ e) ended.1
  courses_rest p l op seen old mid new answer is calm e (inr rest) =
      courses_after p l op seen old mid new answer is calm e rest

  -- one course after another
  pub comes_after : (p q r : Place) (old mid new : Trail) → ComesBy at me p old mid q
      → ComesBy at me q mid new r → ComesBy at me p old new r
  comes_after p q r old mid new c d = (
    c.0 ++ d.0,
    d.1 ∙ ap (λ (x : Trail). recorded_all x d.0) c.1
        ∙ recorded_on old c.0 d.0,
    both p q r c.0 d.0 c.2 d.2,
  )

-- a token that got a right before, or gave one away since, has the same course
pub courses_between : (at : ℕ → ℕ) (p : Place) (answer : Answer) (old mid late new : Token)
    → mid.number ≡ old.number → steps_of mid ≡ steps_of old → told_of mid ≡ told_of old
    → steps_of new ≡ steps_of late → told_of new ≡ told_of late
    → Courses at mid.number p (trail_of mid None) (trail_of late None) answer
    → Courses at old.number p (trail_of old None) (trail_of new None) answer
courses_between at p answer old mid late new same first told last then course =
    subst (λ (x : Trail). Courses at old.number p (trail_of old None) x answer) (trails (sym last) (sym then))
    (subst (λ (x : Trail). Courses at old.number p x (trail_of late None) answer) (trails first told)
    (subst (λ (me : ℕ). Courses at me p (trail_of mid None) (trail_of late None) answer) same course))
