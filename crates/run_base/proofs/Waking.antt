-- The end of a sleep, as the thread's trail has it.
use Rattle.std.proofs.Common.{ℕ, ◌≡◌, ◌++◌, ◌∷◌, [], List, Option, Some, None, inl, inr, refl, sym, ap, ◌∙◌}
use Rattle.std.proofs.Common.{subst}
use Rattle.std.proofs.lemmas.List.{append-nil, append_assoc}
use Rattle.core_base.specs.declared.keys.Keys.{Keys}
use Rattle.core_base.specs.declared.keys.Keys.TheVariants.{One}
use Rattle.core_base.specs.declared.notes.Note.{Note}
use Rattle.core_base.specs.declared.notes.Note.TheVariants.{Normal}
use Rattle.steps_base.specs.declared.acts.Reply.{Reply}
use Rattle.steps_base.specs.declared.acts.Reply.TheVariants.{Late, MovedTo, Woken}
use Rattle.parking_lot_core.specs.Sections.{told_in, visit_of}
use Rattle.parking_lot_core.specs.Tokens.{count_of, told_of}
use Rattle.parking_lot_core.specs.declared.sections.Section.{Section}
use Rattle.parking_lot_core.specs.declared.step_counts.StepCount.{StepCount}
use Rattle.parking_lot_core.specs.declared.tellings.Telling.{Telling}
use Rattle.parking_lot_core.specs.declared.tellings.Telling.TheVariants as telling
use Rattle.parking_lot_core.specs.declared.tokens.Token.{Token}
use Rattle.run_base.specs.Courses.{HasSlept, HasWokenLate, PathItem, Trail, did_enter, did_sleep}
use Rattle.run_base.specs.Courses.{leaving_late, open_visit, recorded_all, trail_of}
use Rattle.run_base.specs.Stages.{SectionView, entered_now, section_view}
use Rattle.run_base.specs.Telling.{steps_of}
use Rattle.run_base.proofs.Tellings.{outside_trail, same_trail}

abbrev keys_viewed : Option SectionView → Keys
keys_viewed None = One 0
keys_viewed (Some inside) = inside.keys

module _ (me : ℕ) (old : Token) (inside : Section) (key : ℕ)
    (late : section_view (Some inside) ≡ entered_now (One key)) (untold : told_in inside ≡ [])
    (since : inside.since ≡ count_of old) where
  -- the thread is inside the section of the key where it stands
  pub entered_late : HasWokenLate me key Late old old (Some inside)
  entered_late = (
    did_enter (One key) ∷ [],
    same_trail refl (ap (λ (l : List Telling). told_of old ++ l) untold ∙ append-nil (told_of old))
        (ap (λ (k : Keys). Some (open_visit k inside.since)) (ap keys_viewed late)
        ∙ ap (λ (n : StepCount). Some (open_visit (One key) n)) since),
    refl,
  )

  -- the thread has left that queue, and the section
  pub left_late : (new : Token) (later : Section) (sn : Option Section) → section_view sn ≡ None
      → later.keys ≡ inside.keys → later.since ≡ inside.since
      → told_in later ≡ told_in inside ++ telling.Left me ∷ [] → steps_of new ≡ steps_of old
      → told_of new ≡ told_of old ++ (told_in later ++ visit_of later (count_of old) Normal ∷ [])
      → HasWokenLate me key (Woken Normal) old new sn
  left_late new later sn none keys same left steps told = (
    leaving_late me key,
    outside_trail new sn none
        ∙ same_trail steps (told ∙ (ap (λ (l : List Telling). told_of old
        ++ (l ++ visit_of later (count_of old) Normal ∷ []))
        (left ∙ ap (λ (l : List Telling). l ++ telling.Left me ∷ []) untold)
        ∙ (ap (λ (k : Keys). told_of old ++ telling.Left me
        ∷ telling.Visited k later.since (count_of old) Normal ∷ []) (keys ∙ ap keys_viewed late)
        ∙ (ap (λ (n : StepCount). told_of old ++ telling.Left me
        ∷ telling.Visited (One key) n (count_of old) Normal ∷ []) (same ∙ since)
        ∙ sym (append_assoc (told_of old) (telling.Left me ∷ [])
        (telling.Visited (One key) (count_of old) (count_of old) Normal ∷ [])))))) refl,
    refl,
  )

-- a thread that was moved has done nothing there
pub moved_late : (me key to : ℕ) (old : Token) (sn : Option Section) → section_view sn ≡ None
    → HasWokenLate me key (MovedTo to) old old sn
moved_late me key to old sn none = ([], outside_trail old sn none, refl)

module _ (old mid : Token) (steps : steps_of mid ≡ steps_of old)
    (told : told_of mid ≡ told_of old ++ telling.Slept (count_of old) ∷ []) where
  sleeps : trail_of mid None ≡ recorded_all (trail_of old None) (did_sleep ∷ [])
  sleeps = same_trail steps told refl

  -- another thread woke it
  pub slept_woken : (me : ℕ) (note : Note) (sn : Option Section) → section_view sn ≡ None
      → HasSlept me (Woken note) old mid sn
  slept_woken me note sn none = (did_sleep ∷ [], outside_trail mid sn none ∙ sleeps, inl refl)

  -- the time of the sleeper is up
  pub slept_late : (me key : ℕ) (reply : Reply) (new : Token) (sn : Option Section) → mid.number ≡ me
      → HasWokenLate mid.number key reply mid new sn → HasSlept me reply old new sn
  slept_late me key reply new sn same late = by_reply reply
      (subst (λ (n : ℕ). HasWokenLate n key reply mid new sn) same late)
    where
      then : (more : List PathItem) → trail_of new sn ≡ recorded_all (trail_of mid None) more
          → trail_of new sn ≡ recorded_all (trail_of old None) (did_sleep ∷ more)
      then more e = e ∙ ap (λ (x : Trail). recorded_all x more) sleeps

      by_reply : (reply : Reply) → HasWokenLate me key reply mid new sn → HasSlept me reply old new sn
      by_reply Late w = (did_sleep ∷ w.0, then w.0 w.1, (key, ap (λ (l : List PathItem). did_sleep ∷ l) w.2))
      by_reply (MovedTo to) w =
          (did_sleep ∷ w.0, then w.0 w.1, ap (λ (l : List PathItem). did_sleep ∷ l) w.2)
      by_reply (Woken note) w = (
        did_sleep ∷ w.0,
        then w.0 w.1,
        inr (key, ap (λ (l : List PathItem). did_sleep ∷ l) w.2),
      )
      by_reply reply w = absurd w.2
