-- What an act told, and the visit that goes on after it, bring its reply.
use Rattle.std.proofs.Common.{ℕ, ◌≡◌, ◌==◌, ◌++◌, ◌∷◌, [], not, true, false, List, Option}
use Rattle.std.proofs.Common.{Some, None, length, refl, sym, ap, ◌∙◌}
use Rattle.std.proofs.lemmas.List.{append-nil, append_assoc}
use Rattle.core_base.specs.Lines.{threads_of}
use Rattle.core_base.specs.Requeues.{moved_by}
use Rattle.core_base.specs.declared.wants.Waiter.{Waiter}
use Rattle.core_words.specs.declared.views.WordStep.{WordStep}
use Rattle.core_words.specs.declared.words.WordKind.{WordKind}
use Rattle.lot_steps.specs.Steps.{act_of}
use Rattle.lot_steps.specs.declared.places.Place.{Place}
use Rattle.steps_base.specs.declared.acts.Act.{Act}
use Rattle.steps_base.specs.declared.acts.Act.TheVariants as act
use Rattle.steps_base.specs.declared.acts.Reply.{Reply}
use Rattle.steps_base.specs.declared.acts.Reply.TheVariants.{Done, Parked, Picked, Removed, Requeued, Took}
use Rattle.steps_base.specs.declared.acts.Reply.TheVariants.{Value}
use Rattle.steps_base.specs.declared.acts.TakeWhich.{TakeWhich}
use Rattle.steps_base.specs.declared.acts.TakeWhich.TheVariants as whom
use Rattle.parking_lot_core.specs.Tokens.{told_of}
use Rattle.parking_lot_core.specs.declared.sections.Section.{Section}
use Rattle.parking_lot_core.specs.declared.tellings.Telling.{Telling}
use Rattle.parking_lot_core.specs.declared.tellings.Telling.TheVariants as telling
use Rattle.parking_lot_core.specs.declared.tokens.Did as did
use Rattle.parking_lot_core.specs.declared.tokens.Token.{Token}
use Rattle.run_base.specs.Courses.{HasRecorded, OpenVisit, PathItem, Performs, TellsFound, TellsIn, Trail}
use Rattle.run_base.specs.Courses.{did_acts, did_enter, did_leave, did_steps, leaving, moving, open_visit}
use Rattle.run_base.specs.Courses.{recorded_all, taking, told_by, told_within, trail_inside, trail_of}
use Rattle.run_base.specs.Courses.{steps_counted, visit_within, visited}
use Rattle.run_base.specs.Paths.{Told}
use Rattle.run_base.specs.Queued.{StaysQueued}
use Rattle.run_base.specs.Stages.{ActNeeds, Adds, Became, HasKey, SectionView, TookBy, is_there}
use Rattle.run_base.specs.Stages.{listed, note_of}
use Rattle.run_base.specs.Stages.{section_view, stage_of, threads_taken, took_as}
use Rattle.run_base.specs.Telling.{TellsQueues, TellsTake, line_in, steps_of}
use Rattle.run_base.specs.declared.sleepers.Sleeper.{Sleeper}
use Rattle.run_base.proofs.Courses.{recorded_on}
use Rattle.run_base.proofs.TakesFew.{all_threads}

pub by_within : (token : Token) (section : Option Section) → told_by token section ≡ told_of token
    ++ told_within section
by_within token None = sym (append-nil (told_of token))
by_within token (Some section) = refl

-- a thread outside all sections was told no more
pub by_outside : (token : Token) (section : Option Section) → section_view section ≡ None
    → told_by token section ≡ told_of token
by_outside token None none = refl
by_outside token (Some section) none = cc

-- the threads that a section's view has taken
abbrev taken_of : Option SectionView → List ℕ
taken_of None = []
taken_of (Some inside) = inside.taken

taken_viewed : (section : Option Section) → threads_taken section ≡ taken_of (section_view section)
taken_viewed None = refl
taken_viewed (Some section) = refl

-- inside a section those that were taken are these
took_these : (key : ℕ) (d : did.Did) (waiters : List Waiter) (old new : Option SectionView) → HasKey key old
    → new ≡ took_as d waiters old → taken_of new ≡ threads_of waiters
took_these key d waiters None new has e = absurd has
took_these key d waiters (Some inside) new has e = ap taken_of e

one_or_none : (first : Option Waiter) (taken : List ℕ) → taken ≡ threads_of (listed first) → is_there first
    ≡ not (length taken == 0)
one_or_none None taken e = sym (ap (λ (l : List ℕ). not (length l == 0)) e)
one_or_none (Some waiter) taken e = sym (ap (λ (l : List ℕ). not (length l == 0)) e)

-- acts on queues alone
acts_recorded : (steps : List WordStep) (told : List Telling) (visit : Option OpenVisit) (more : List Telling)
    → recorded_all (trail_inside steps told visit) (did_acts more) ≡ trail_inside steps (told ++ more) visit
acts_recorded steps told visit [] =
    ap (λ (l : List Telling). trail_inside steps l visit) (sym (append-nil told))
acts_recorded steps told visit (one ∷ more) = acts_recorded steps (told ++ one ∷ []) visit more
    ∙ ap (λ (l : List Telling). trail_inside steps l visit) (append_assoc told (one ∷ []) more)

-- steps on words alone
pub steps_alone : (steps : List WordStep) (told : List Telling) (visit : Option OpenVisit)
    (more : List WordStep) → recorded_all (trail_inside steps told visit) (did_steps more)
    ≡ trail_inside (steps ++ more) told visit
steps_alone steps told visit [] =
    ap (λ (l : List WordStep). trail_inside l told visit) (sym (append-nil steps))
steps_alone steps told visit (one ∷ more) = steps_alone (steps ++ one ∷ []) told visit more
    ∙ ap (λ (l : List WordStep). trail_inside l told visit) (append_assoc steps (one ∷ []) more)

pub same_trail : {a b : List WordStep} {s t : List Telling} {v w : Option OpenVisit} → a ≡ b → s ≡ t → v ≡ w
    → trail_inside a s v ≡ trail_inside b t w
same_trail {b = b} {s = s} {t = t} {v = v} e f g = ap (λ (l : List WordStep). trail_inside l s v) e
    ∙ ap (λ (l : List Telling). trail_inside b l v) f ∙ ap (λ (o : Option OpenVisit). trail_inside b t o) g

-- a thread outside all sections is on no visit
no_visit : (section : Option Section) → section_view section ≡ None → visit_within section ≡ None
no_visit None none = refl
no_visit (Some section) none = cc

pub outside_trail : (token : Token) (section : Option Section) → section_view section ≡ None
    → trail_of token section ≡ trail_of token None
outside_trail token None none = refl
outside_trail token (Some section) none = cc

module _ (me : ℕ) (old new : Token) (so sn : Option Section) where
  -- once the step of an act is recorded
  abbrev Stepped : Trail
  Stepped = trail_inside (steps_of new) (told_by old so) (visit_within so)

  -- an act did these things beside its step
  abbrev pub HasDone : Act → Reply → Type 0
  HasDone a reply = (done : List PathItem) × (trail_of new sn ≡ recorded_all Stepped done)
      × Performs me a reply done

  -- told within the section alone
  inside : (more : List Telling) → told_of new ≡ told_of old → told_within sn ≡ told_within so ++ more
      → visit_within sn ≡ visit_within so → trail_of new sn ≡ recorded_all Stepped (did_acts more)
  inside more same e visit = same_trail refl
      (by_within new sn ∙ (ap (λ (l : List Telling). l ++ told_within sn) same
      ∙ (ap (λ (l : List Telling). told_of old ++ l) e
      ∙ (sym (append_assoc (told_of old) (told_within so) more) ∙ ap (λ (l : List Telling). l ++ more)
      (sym (by_within old so)))))) visit ∙ sym (acts_recorded (steps_of new) (told_by old so)
      (visit_within so) more)

  -- nothing was told
  quiet : told_of new ≡ told_of old → told_within sn ≡ told_within so → visit_within sn ≡ visit_within so
      → trail_of new sn ≡ recorded_all Stepped []
  quiet same e visit = inside [] same (e ∙ sym (append-nil (told_within so))) visit

  -- with the step of the act, that is a turn
  pub gone : (at : ℕ → ℕ) (p : Place) (reply : Reply) → Told at p reply (steps_of old) (steps_of new)
      → HasDone (act_of p) reply → StaysQueued p reply
      → HasRecorded at me p reply (trail_of old so) (trail_of new sn)
  gone at p reply steps done stays = (
    did_steps steps.0 ++ done.0,
    done.1 ∙ (ap (λ (x : Trail). recorded_all x done.0)
        (ap (λ (l : List WordStep). trail_inside l (told_by old so) (visit_within so)) steps.1
        ∙ sym (steps_alone (steps_of old) (told_by old so) (visit_within so) steps.0))
        ∙ recorded_on (trail_of old so) (did_steps steps.0) done.0),
    (steps.0, done.0, refl, steps.2, done.2, stays),
  )

  takes : (key : ℕ) (who : TakeWhich) (reply : Reply) → HasKey key (section_view so)
      → TookBy key who reply (section_view so) (section_view sn) → TellsTake key who reply so sn
      → TellsFound key who reply (taking key who (length (threads_taken sn)) (length (line_in key sn)))
  takes key whom.First (Took any left) has b q = (
    length (threads_taken sn),
    length (line_in key sn),
    refl,
    b.1 ∙ one_or_none b.0 (threads_taken sn) (taken_viewed sn ∙ took_these key (did.TheVariants.TakeFirst key)
        (listed b.0) (section_view so) (section_view sn) has b.2),
    q.2,
  )
  takes key whom.All (Took any left) has b q = (
    length (threads_taken sn),
    length (line_in key sn),
    refl,
    b.1 ∙ ap (λ (n : ℕ). not (n == 0))
        (sym (ap length (taken_viewed sn ∙ took_these key (did.TheVariants.TakeAll key) b.0 (section_view so)
        (section_view sn) has b.2) ∙ all_threads b.0)),
    q.2,
  )
  takes key (whom.Picked start recursive) (Picked sharers successor left) has b q =
      (length (threads_taken sn), length (line_in key sn), refl, q.3)
  takes key who reply has b q = absurd q

  module _ (up : Type 0) (kinds : ℕ → WordKind) (at : ℕ → ℕ) (sleeper : Sleeper) where
    abbrev Needs : Act → Type 0
    Needs a = ActNeeds kinds at (stage_of old so) a

    abbrev Then : Act → Reply → Type 0
    Then a reply = Became up kinds at sleeper (stage_of old so) a reply (stage_of new sn)

    -- an act that was done has told what brings its reply
    pub has_done : (a : Act) (reply : Reply) → Needs a → Then a reply → Adds at a reply (steps_of old)
        (steps_of new) → TellsQueues a reply me so sn → TellsIn me a reply old so new sn → HasDone a reply
    has_done (act.Word l op) (Value seen) needs b e q t =
        ([], quiet t.0 t.1 t.2, ([], refl, refl))
    has_done (act.HandOver l op) (Value seen) needs b e q t =
        ([], quiet t.0 t.1 t.2, ([], refl, refl))
    has_done (act.Park l key check want) (Parked true) needs b e q t =
        let more = telling.Stood key me want ∷ [] in
        (did_acts more, inside more t.0 t.1 t.2, (more, refl, refl))
    has_done (act.Park l key check want) (Parked false) needs b e q t =
        ([], quiet t.0 t.1 t.2, ([], refl, refl))
    has_done (act.Enter keys) Done needs b e q t = (
      did_enter keys ∷ [],
      same_trail refl (by_within new sn ∙ (ap (λ (l : List Telling). told_of new ++ l) t.1
          ∙ (append-nil (told_of new) ∙ (t.0 ∙ sym (by_outside old so needs.1)))))
          (t.2 ∙ ap (λ (l : List WordStep). Some (open_visit keys (steps_counted l))) (sym e)),
      refl,
    )
    has_done (act.Stand key want) Done needs b e q t =
        let more = telling.Stood key me want ∷ [] in
        (did_acts more, inside more t.0 t.1 t.2, (more, refl, refl))
    has_done (act.Take key who) reply needs b e q t =
        let more = taking key who (length (threads_taken sn)) (length (line_in key sn)) in
        (did_acts more, inside more t.0 t.1 t.2, (more, refl, takes key who reply needs.0 b.0 q))
    has_done (act.Remove key) (Removed left) needs b e q t =
        let more = leaving me key (length (line_in key sn)) in
        (did_acts more, inside more t.0 t.1 t.2, (more, refl, (length (line_in key sn), refl, q.1)))
    has_done (act.Accept) Done needs b e q t = ([], quiet t.0 t.1 t.2, ([], refl, refl))
    has_done (act.Leave keys wakes) Done needs b e q t = (
      did_leave (note_of wakes) ∷ [],
      same_trail refl (by_outside new sn b.1 ∙ (t ∙ (sym (append_assoc (told_of old) (told_within so)
          (visited (visit_within so) (steps_counted (steps_of old)) (note_of wakes)))
          ∙ (ap (λ (l : List Telling). l ++ visited (visit_within so) (steps_counted (steps_of old))
          (note_of wakes)) (sym (by_within old so)) ∙ ap (λ (l : List WordStep). told_by old so
          ++ visited (visit_within so) (steps_counted l) (note_of wakes)) (sym e)))))
          (no_visit sn b.1),
      refl,
    )
    has_done act.Sleep reply needs b e q t = (
      t.0,
      t.1 ∙ ap (λ (x : Trail). recorded_all x t.0) (sym (outside_trail old so needs)
          ∙ ap (λ (l : List WordStep). trail_inside l (told_by old so) (visit_within so)) (sym e)),
      t.2,
    )
    has_done (act.Requeue from to how) (Requeued number left) needs b e q t =
        let more = moving from to how (length (threads_taken sn)) (length (moved_by how (line_in from so)))
        (length (line_in from sn)) in (
          did_acts more,
          inside more t.0 t.1 t.2,
          (
            more,
            refl,
            (
              length (threads_taken sn),
              length (moved_by how (line_in from so)),
              length (line_in from sn),
              refl,
              t.3,
              q.2,
            ),
          ),
        )
    has_done a reply needs b e q t = absurd b
