-- Each sleep of a course follows a stand.
use Rattle.std.proofs.Common.{ℕ, ◌≡◌, ◌⊎◌, Bool, true, false, List, [], ◌∷◌, ◌++◌, inl, inr}
use Rattle.std.proofs.Common.{refl, sym, ◌∙◌, ap, subst}
use Rattle.std.proofs.lemmas.Bool.{false≢true}
use Rattle.core_words.specs.declared.views.WordStep.{WordStep}
use Rattle.lot_steps.specs.Steps.{act_of}
use Rattle.lot_steps.specs.declared.places.Place.{Place}
use Rattle.steps_base.specs.declared.acts.Act.{Act}
use Rattle.steps_base.specs.declared.acts.Act.TheVariants as act
use Rattle.steps_base.specs.declared.acts.Reply.{Reply}
use Rattle.steps_base.specs.declared.acts.Reply.TheVariants.{Done, Late, MovedTo, Parked, Picked, Removed}
use Rattle.steps_base.specs.declared.acts.Reply.TheVariants.{Requeued, Took, Woken}
use Rattle.parking_lot_core.specs.declared.tellings.Telling.{Telling}
use Rattle.parking_lot_core.specs.declared.tellings.Telling.TheVariants as telling
use Rattle.run_base.specs.Courses.{BringsBy, Course, EachSleepStands, PathItem, Performs, SleepersStood}
use Rattle.run_base.specs.Courses.{SleepsBy, did_act, did_acts, did_enter, did_leave, did_sleep}
use Rattle.run_base.specs.Courses.{did_step, did_steps, goes, rests, sees, stands_by}
use Rattle.run_base.specs.Queued.{gets_place, is_queued, needs_place, spends_place}
use Rattle.run_base.proofs.Queued.{queued_from}

-- whether the thread stands in a queue after these
abbrev stands_after : Bool → List PathItem → Bool
stands_after stands [] = stands
stands_after stands (did_act one ∷ more) = stands_after (stands_by one stands) more
stands_after stands (did_sleep ∷ more) = stands_after stands more
stands_after stands (did_step _ ∷ more) = stands_after stands more
stands_after stands (did_enter _ ∷ more) = stands_after stands more
stands_after stands (did_leave _ ∷ more) = stands_after stands more

each_on : (b : Bool) (s t : List PathItem) → EachSleepStands b s → EachSleepStands (stands_after b s) t
    → EachSleepStands b (s ++ t)
each_on b [] t e f = f
each_on b (did_act one ∷ s) t e f = each_on (stands_by one b) s t e f
each_on b (did_sleep ∷ s) t e f = (e.0, each_on b s t e.1 f)
each_on b (did_step _ ∷ s) t e f = each_on b s t e f
each_on b (did_enter _ ∷ s) t e f = each_on b s t e f
each_on b (did_leave _ ∷ s) t e f = each_on b s t e f

after_on : (b : Bool) (s t : List PathItem) → stands_after b (s ++ t) ≡ stands_after (stands_after b s) t
after_on b [] t = refl
after_on b (did_act one ∷ s) t = after_on (stands_by one b) s t
after_on b (did_sleep ∷ s) t = after_on b s t
after_on b (did_step _ ∷ s) t = after_on b s t
after_on b (did_enter _ ∷ s) t = after_on b s t
after_on b (did_leave _ ∷ s) t = after_on b s t

-- steps on words change nothing of it
steps_sleep : (b : Bool) (s : List WordStep) (t : List PathItem) → EachSleepStands b t
    → EachSleepStands b (did_steps s ++ t)
steps_sleep b [] t e = e
steps_sleep b (one ∷ s) t e = steps_sleep b s t e

steps_stand : (b : Bool) (s : List WordStep) (t : List PathItem) → stands_after b (did_steps s ++ t)
    ≡ stands_after b t
steps_stand b [] t = refl
steps_stand b (one ∷ s) t = steps_stand b s t

-- nor is an act on a queue a sleep
acts_sleep : (b : Bool) (t : List Telling) → EachSleepStands b (did_acts t)
acts_sleep b [] = tt
acts_sleep b (one ∷ t) = acts_sleep (stands_by one b) t

module _ (me : ℕ) (b : Bool) where
  slept : (reply : Reply) (t : List PathItem) → SleepsBy me reply t → b ≡ true → EachSleepStands b t
  slept (Woken note) t (inl woken) stands = subst (EachSleepStands b) (sym woken) (stands, tt)
  slept (Woken note) t (inr late) stands = subst (EachSleepStands b) (sym late.1) (stands, tt)
  slept Late t late stands = subst (EachSleepStands b) (sym late.1) (stands, tt)
  slept (MovedTo to) t late stands = subst (EachSleepStands b) (sym late) (stands, tt)
  slept reply t none stands = absurd none

  -- what an act does
  sleeps_by : (a : Act) (reply : Reply) (t : List PathItem) → Performs me a reply t
      → (needs_place a ≡ true → b ≡ true) → EachSleepStands b t
  sleeps_by (act.Enter _) reply t does needs = subst (EachSleepStands b) (sym does) tt
  sleeps_by (act.Leave _ _) reply t does needs = subst (EachSleepStands b) (sym does) tt
  sleeps_by act.Sleep reply t does needs = slept reply t does (needs refl)
  sleeps_by a reply t does needs = subst (EachSleepStands b) (sym does.1) (acts_sleep b does.0)

  -- the thread stood last by the act, or stands still
  same_done : {S : Type 0} {t u : List PathItem} → t ≡ u → stands_after b u ≡ b → (false ≡ true)
      ⊎ (S × (b ≡ true))
      → stands_after b t ≡ true
  same_done done same (inl none) = absurd (false≢true none)
  same_done done same (inr stands) = ap (stands_after b) done ∙ same ∙ stands.1

  spent : {A : Type 0} → (false ≡ true) ⊎ ((true ≡ false) × (b ≡ true)) → A
  spent (inl none) = absurd (false≢true none)
  spent (inr stands) = absurd (false≢true (sym stands.0))

  -- what was told in a section is all that was done there
  told : {t : List PathItem} {s u : List Telling} → t ≡ did_acts s → s ≡ u → t ≡ did_acts u
  told done same = done ∙ ap did_acts same

  stands_so : (a : Act) (reply : Reply) (t : List PathItem) → Performs me a reply t
      → (gets_place a reply ≡ true) ⊎ ((spends_place a reply ≡ false) × (b ≡ true)) → stands_after b t ≡ true
  stands_so (act.Park _ _ _ _) (Parked true) t does by = ap (stands_after b) (told does.1 does.2)
  stands_so (act.Park _ _ _ _) (Parked false) t does by = same_done (told does.1 does.2) refl by
  stands_so (act.Park _ _ _ _) reply t does by = same_done (told does.1 does.2) refl by
  stands_so (act.Stand _ _) Done t does by = ap (stands_after b) (told does.1 does.2)
  stands_so (act.Stand _ _) reply t does by = same_done (told does.1 does.2) refl by
  stands_so (act.Take _ _) (Took _ _) t does by = same_done (told does.1 does.2.2) refl by
  stands_so (act.Take _ _) (Picked _ _ _) t does by = same_done (told does.1 does.2.2) refl by
  stands_so (act.Take _ _) reply t does by = absurd does.2
  stands_so (act.Requeue _ _ _) (Requeued _ _) t does by = same_done (told does.1 does.2.3) refl by
  stands_so (act.Requeue _ _ _) reply t does by = same_done (told does.1 does.2) refl by
  stands_so (act.Remove _) (Removed _) t does by = spent by
  stands_so (act.Remove _) reply t does by = same_done (told does.1 does.2) refl by
  stands_so (act.Enter _) reply t does by = same_done does refl by
  stands_so (act.Leave _ _) reply t does by = same_done does refl by
  stands_so act.Sleep (Woken _) t does by = spent by
  stands_so act.Sleep Late t does by = same_done does.1 refl by
  stands_so act.Sleep (MovedTo _) t does by = same_done does refl by
  stands_so act.Sleep reply t does by = absurd does
  stands_so a reply t does by = same_done (told does.1 does.2) refl by

module _ (at : ℕ → ℕ) (me : ℕ) (p : Place) where
  abbrev Stands : List PathItem → Place → Type 0
  Stands x q = EachSleepStands (is_queued p) x
      × (is_queued q ≡ true → stands_after (is_queued p) x ≡ true)

  brought_sleeps : (q : Place) (x y : List PathItem) (reply : Reply) → Stands x q → BringsBy at me q y reply
      → EachSleepStands (is_queued p) (x ++ y)
  brought_sleeps q x y reply before will_bring = each_on (is_queued p) x y before.0
      (subst (EachSleepStands (stands_after (is_queued p) x)) (sym will_bring.2)
      (steps_sleep (stands_after (is_queued p) x) will_bring.0 will_bring.1
      (sleeps_by me (stands_after (is_queued p) x) (act_of q) reply will_bring.1 will_bring.4
      (λ needs. before.1 (will_bring.5.0 needs)))))

  either : {G S A B : Type 0} → (A → B) → G ⊎ (S × A) → G ⊎ (S × B)
  either f (inl got) = inl got
  either f (inr kept) = inr (kept.0, f kept.1)

  stands_at : (q : Place) (x : List PathItem) → Course at me p x q → Stands x q
  stands_at _ _ (rests _) = (tt, λ queued. queued)
  stands_at _ _ (goes _ q x y reply course will_bring) = let before = stands_at q x course in (
    brought_sleeps q x y reply before will_bring,
    λ queued. after_on (is_queued p) x y
        ∙ (ap (stands_after (stands_after (is_queued p) x)) will_bring.2
        ∙ (steps_stand (stands_after (is_queued p) x) will_bring.0 will_bring.1
        ∙ stands_so me (stands_after (is_queued p) x) (act_of q) reply will_bring.1 will_bring.4
        (either before.1 (will_bring.5.1 queued)))),
  )
  stands_at r x (sees _ q _ _ course is) = let before = stands_at q x course in
      (before.0, λ queued. before.1 (queued_from q r (inr is) queued))

pub each_sleep : SleepersStood
each_sleep at me p path answer a = subst (EachSleepStands (is_queued p)) (sym a.whole)
    (brought_sleeps at me p a.last a.before a.more a.reply (stands_at at me p a.last a.before a.course)
    a.will_bring)
