-- A thread in a call of one lock goes on by an act that is no step on the word: every lock is a site
-- again, where the row of its place says where the act takes it. Beside that stands its reply, and what
-- becomes of the calls of the others.
use Rattle.lot_laws.proofs.Imports
use Imports.{ℕ, Bool, true, false, Option, Some, None, ◌==◌, ◌≡◌, ◌≢◌, ◌*◌, ◌<◌, List, [], ◌∷◌, length, is_none}
use Imports.{inl, inr, refl, sym, ◌∙◌, ap, subst, arith, Keys, One, Normal, Waiter, Want, first_of, Act, Check}
use Imports.{Reply, Done, Value, Parked, Took, Removed, Late, Wakes, holds, wakes_taken, IsNotLate, Location}
use Imports.{Accepts, AreLeaving, AreOfWord, GoesIn, GoesOut, Hears, LeavesLine, StepView, Parks, TellsHanded}
use Imports.{location_then, parks_in, in_hand, case_of, Rules, Case, Clear, Deed, End, FindNobody, In}
use Imports.{LeaveLine, Line, Main, Mark, Out, Site, Place, next_place, profile, State, are_free, place_at, put}
use Imports.{queue_at, reply_to, section_at, state_after_act, word_at, IsWellFormed, main_key_there, acts, Goes}
use Imports.{IsInductive, hand_at, key_of, rules_in}
use Rattle.core_base.specs.declared.notes.Note.TheVariants.{HandOff}
use Rattle.steps_base.specs.declared.acts.Act.TheVariants as act
use Rattle.steps_base.specs.declared.acts.TakeWhich.TheVariants as whom
use Rattle.spec_locks.specs.Locks as locks
use Rattle.lot_laws.specs.Locations.{hand}
use Rattle.lot_laws.proofs.calls.OtherCalls.{IsCalm, WakesOwn}
use Rattle.lot_laws.proofs.hands.Moved.{accepts, tells_handed, told_hears}
use Rattle.lot_laws.proofs.machine.Parts.{IsOf}
use Rattle.lot_laws.proofs.sites.ActsKept.{lock_by}
use Rattle.lot_laws.proofs.sites.FirstTaken.{TakesFirst}
use Rattle.lot_laws.proofs.sites.FirstTaken as first
use Rattle.lot_laws.proofs.sites.MovesKept.{IsFollowed, SleepsIfCalls, entered_hears, goes_in, goes_out}
use Rattle.lot_laws.proofs.sites.MovesKept.{leaves_line, leaves_main, left_hears, parked_hears}
use Rattle.lot_laws.proofs.sites.MovesKept.{parks_or_turns, removed_hears, removed_main}
use Rattle.lot_laws.proofs.sites.WakesAt.{IsWokenAt}

-- ---------------------------------------------------------------- deeds that leave the others as they are

abbrev pub AreCalm : List Deed → Type 0
AreCalm [] = Unit {0}
AreCalm (Case case ∷ ds) = IsCalm (Some case)
AreCalm (LeaveLine ∷ ds) = IsCalm (Some locks.Late)
AreCalm (Out ∷ ds) = ⊥
AreCalm (d ∷ ds) = AreCalm ds

pub calm_case : (hand : Option Bool) (ds : List Deed) → AreCalm ds → IsCalm (case_of hand ds)
calm_case hand [] h = tt
calm_case hand (Case case ∷ ds) h = h
calm_case hand (LeaveLine ∷ ds) h = h
calm_case hand (Out ∷ ds) h = absurd h
calm_case hand (d ∷ ds) h = calm_case hand ds h

pub word_calm : (ds : List Deed) → AreOfWord ds → AreCalm ds
word_calm [] h = tt
word_calm (End ∷ []) h = tt
word_calm (Mark m ∷ []) h = tt
word_calm (Clear m ∷ []) h = tt
word_calm (Case locks.Wake ∷ ds) h = absurd h
word_calm (Case (locks.HandOff right successor) ∷ ds) h = absurd h
word_calm (Case case ∷ ds) h = tt
word_calm ds h = absurd h

in_line_calm : (m : Line) (x : Want) → AreCalm (parks_in m x ∷ [])
in_line_calm Main x = tt
in_line_calm m x = tt

-- a thread that leaves a section wakes those in its hand, if anybody
left_calm : (ds : List Deed) → AreLeaving ds → IsCalm (case_of None ds)
left_calm (Out ∷ []) h = tt
left_calm (Out ∷ End ∷ []) h = tt
left_calm ds h = absurd h

left_wakes : (ds : List Deed) → AreLeaving ds → case_of (Some false) ds ≡ Some locks.Wake
left_wakes (Out ∷ []) h = refl
left_wakes (Out ∷ End ∷ []) h = refl
left_wakes ds h = absurd h

-- A thread that has handed the lock over tells those to which it did.
handed_calm : (ds : List Deed) → AreLeaving ds → IsCalm (case_of (Some true) ds)
handed_calm (Out ∷ []) h = tt
handed_calm (Out ∷ End ∷ []) h = tt
handed_calm ds h = absurd h

-- ---------------------------------------------------------------- the replies to its acts

-- neither the word nor that its time is up
abbrev pub IsBrief : Reply → Type 0
IsBrief (Value seen) = ⊥
IsBrief Late = ⊥
IsBrief told = Unit {0}

pub on_time : (told : Reply) → IsBrief told → told ≢ Late
on_time Late h e = h
on_time told h e = cc

pub not_late : (told : Reply) → IsBrief told → IsNotLate told
not_late Late h = h
not_late told h = tt

pub none_is : (o : Option ℕ) → is_none o ≡ true → o ≡ None
none_is None h = refl
none_is (Some u) h = absurd cc

-- ---------------------------------------------------------------- each act

module _ (w : State) (l : ℕ) (shape : IsWellFormed w) (lt : l < length w.locks) where
  pub section_there : (m : Line) → key_of l m < length w.sections
  section_there Main = main_key_there w l shape lt
  section_there m = let e : length w.sections ≡ 2 * length w.locks = shape.sections in omega arith

  pub line_there : (m : Line) → key_of l m < length w.queues
  line_there m = let e : length w.queues ≡ length w.sections = shape.queues in let h : key_of l m
      < length w.sections = section_there m in omega arith

module _ (w : State) (t l : ℕ) (inductive : IsInductive w) (shape : IsWellFormed w) (there : t
    < length w.places)
    (lt : l < length w.locks)
    (own : IsOf l (place_at w t)) (x : StepView) (same_row : profile (place_at w t) ≡ x.row) (hears : Hears)
    (p : Place)
    (followed : (told : Reply) → IsBrief told → hears (rules_in w l) (lock_by w l (rules_in w l)) t None told
    → IsFollowed w t l inductive there own (rules_in w l) refl x same_row None told
    (next_place (place_at w t) told)) where
  abbrev r : Rules
  r = rules_in w l

  abbrev here : Site
  here = lock_by w l r

  pub record GoesBy (who : Option ℕ) (y : Act) : Type 0 where
    pub goes : Goes w (put (state_after_act w t p y) t (next_place (place_at w t) (reply_to w t y))) l
        (acts t (x.deeds who (reply_to w t y)))
    pub told : hears r here t who (reply_to w t y)
    pub brief : IsBrief (reply_to w t y)
    pub others : WakesOwn x.row.has_taken y (case_of x.row.has_taken (x.deeds who (reply_to w t y)))
    -- the thread is in nobody's hand then
    pub free : (location_then x (reply_to w t y)).hand ≡ None

  calm_by : (ds : List Deed) {more : List Deed} → more ≡ ds → AreCalm ds → IsCalm (case_of x.row.has_taken more)
  calm_by ds e h = subst (λ (ds : List Deed). IsCalm (case_of x.row.has_taken ds)) (sym e)
      (calm_case x.row.has_taken ds h)

  pub into : (m : Line) (keys : Keys) → keys ≡ One (key_of l m) → are_free w keys ≡ true
      → GoesIn x hears m Done → GoesBy None (act.Enter keys)
  into m keys e free g = subst (λ k. GoesBy None (act.Enter k)) (sym e) (record {
    goes = goes_in w t l inductive there own r refl x same_row hears m Done (next_place (place_at w t) Done)
        (section_there w l shape lt m) is_free g (λ h. followed Done tt h);
    told = entered_hears w t l inductive there own r refl x same_row hears m Done is_free g;
    brief = tt;
    others = calm_by (In m ∷ []) g.deeds tt;
    free = ap (λ (y : Location). y.hand) g.goes ∙ g.free;
  })
    where
      is_free : section_at w (key_of l m) ≡ None
      is_free = none_is (section_at w (key_of l m)) (subst (λ k. are_free w k ≡ true) e free)

  -- each that it has in hand is woken
  pub out_of : (m : Line) (keys : Keys) (wakes : Wakes) → keys ≡ One (key_of l m)
      → (g : GoesOut x hears m wakes)
      → ((u : ℕ) (b : Bool) → hand_at (place_at w u) l ≡ hand t b → IsWokenAt w t l Normal (place_at w u))
      → GoesBy None (act.Leave keys wakes)
  out_of m keys wakes e g woken = subst (λ k. GoesBy None (act.Leave k wakes)) (sym e) (record {
    goes = goes_out w t l inductive there own r refl x same_row hears m wakes (next_place (place_at w t) Done)
        (section_there w l shape lt m) g (λ h. followed Done tt h) woken;
    told = left_hears w t l inductive there own r refl x same_row hears m wakes g;
    brief = tt;
    others = subst (λ y. WakesOwn x.row.has_taken (act.Leave (One (key_of l m)) y)
        (case_of x.row.has_taken (x.deeds None Done))) (sym g.notes) (either g.any g.has_taken);
    free = ap (λ (y : Location). y.hand) g.goes ∙ g.free;
  })
    where
      either : (any : Bool) → x.row.has_taken ≡ in_hand any false
          → WakesOwn x.row.has_taken (act.Leave (One (key_of l m)) (wakes_taken any Normal))
          (case_of x.row.has_taken (x.deeds None Done))
      either false f = subst (λ y. IsCalm (case_of y (x.deeds None Done))) (sym f)
          (left_calm (x.deeds None Done) g.deeds)
      either true f = inl (
        f,
        (
          refl,
          ap (λ y. case_of y (x.deeds None Done)) f
              ∙ left_wakes (x.deeds None Done) g.deeds,
        ),
      )

  -- A thread that was handed the lock is told so.
  pub tells_all : (keys : Keys) (wakes : Wakes) → keys ≡ One (key_of l Main) → (g : TellsHanded x hears wakes)
      → ((u : ℕ) (b : Bool) → hand_at (place_at w u) l ≡ hand t b → IsWokenAt w t l HandOff (place_at w u))
      → GoesBy None (act.Leave keys wakes)
  tells_all keys wakes e g woken = subst (λ k. GoesBy None (act.Leave k wakes)) (sym e) (record {
    goes = tells_handed w t l inductive there own r refl x same_row hears wakes g
        (next_place (place_at w t) Done) (section_there w l shape lt Main) (followed Done tt done) woken;
    told = done;
    brief = tt;
    others = subst (λ y. WakesOwn x.row.has_taken (act.Leave (One (key_of l Main)) y)
        (case_of x.row.has_taken (x.deeds None Done))) (sym g.notes)
        (either g.any (ap (λ (y : Location). y.has_taken) g.was));
    free = ap (λ (y : Location). y.hand) g.goes;
  })
    where
      done : hears r here t None Done
      done = told_hears w t l inductive there own r refl x same_row hears wakes g

      either : (any : Bool) → x.row.has_taken ≡ in_hand any true
          → WakesOwn x.row.has_taken (act.Leave (One (key_of l Main)) (wakes_taken any HandOff))
          (case_of x.row.has_taken (x.deeds None Done))
      either false f = subst (λ y. IsCalm (case_of y (x.deeds None Done))) (sym f)
          (left_calm (x.deeds None Done) g.deeds)
      either true f = inr (
        f,
        (
          refl,
          subst (λ y. IsCalm (case_of y (x.deeds None Done))) (sym f)
              (handed_calm (x.deeds None Done) g.deeds),
        ),
      )

  pub accepted : Accepts x hears → GoesBy None act.Accept
  accepted g = record {
    goes = accepts w t l inductive there own r refl x same_row hears g (next_place (place_at w t) Done)
        (λ h. followed Done tt h);
    told = g.may r here t;
    brief = tt;
    others = calm_by (End ∷ []) g.deeds tt;
    free = ap (λ (y : Location). y.hand) g.goes;
  }

  pub parked : (m : Line) (k key : ℕ) (check : Check) (want : Want) → k ≡ l → key ≡ key_of l m
      → Parks x hears m check want → GoesBy None (act.Park k key check want)
  parked m k key check want ke e g = subst (λ j. GoesBy None (act.Park j key check want)) (sym ke)
      (subst (λ j. GoesBy None (act.Park l j check want)) (sym e) (record {
        goes = parks_or_turns w t l inductive there own r refl x same_row hears m check want
            (line_there w l shape lt m) g (λ b h. followed (Parked b) tt h);
        told = parked_hears w t l inductive there own r refl x same_row hears m check want g
            (holds check (word_at w l)) refl;
        brief = tt;
        others = calmly (holds check (word_at w l));
        free = out (holds check (word_at w l));
      }))
    where
      calmly : (b : Bool) → IsCalm (case_of x.row.has_taken (x.deeds None (Parked b)))
      calmly true = calm_by (parks_in m want ∷ []) g.parks (in_line_calm m want)
      calmly false = calm_by [] g.turns tt

      out : (b : Bool) → (location_then x (Parked b)).hand ≡ None
      out true = ap (λ (y : Location). y.hand) g.parked
      out false = ap (λ (y : Location). y.hand) g.turned

  -- out of the main line, whatever other threads wait there
  pub left_main : (key : ℕ) → key ≡ key_of l Main → LeavesLine x hears Main → GoesBy None (act.Remove key)
  left_main key e g = subst (λ j. GoesBy None (act.Remove j)) (sym e) (record {
    goes = leaves_main w t l inductive there own r refl x same_row hears g (λ b h. followed (Removed b) tt h);
    told = removed_main w t l inductive there own r refl x same_row hears g;
    brief = tt;
    others = calm_by (Case locks.Late ∷ []) (g.deeds _) tt;
    free = ap (λ (y : Location). y.hand) (g.goes _);
  })

  -- A thread that is late leaves any line.
  pub left : ((u : ℕ) → SleepsIfCalls w t l inductive there own r refl x same_row u) → (m : Line) (key : ℕ)
      → key ≡ key_of l m → LeavesLine x hears m → GoesBy None (act.Remove key)
  left asleep m key e g = subst (λ j. GoesBy None (act.Remove j)) (sym e) (record {
    goes = leaves_line w t l inductive there own r refl x same_row asleep hears m g
        (λ b h. followed (Removed b) tt h);
    told = removed_hears w t l inductive there own r refl x same_row asleep hears m g;
    brief = tt;
    others = calm_by (Case locks.Late ∷ []) (g.deeds _) tt;
    free = ap (λ (y : Location). y.hand) (g.goes _);
  })

  -- the first of the main line comes into its hand, if there is one
  module _ (takes : Option ℕ → List Deed) (g : TakesFirst takes x hears) (none : takes None ≡ FindNobody Main
      ∷ []) (calm : (who : Option ℕ) → AreCalm (takes who))
      (taking : (who : Option ℕ) (any none_left : Bool) → hears r here t who (Took any none_left)
      → first.Followed w t l inductive there own r refl x same_row hears takes (line_there w l shape lt Main)
      g who (Took any none_left)) where
    abbrev Takes : Type 0
    Takes = (y : Waiter) (rest : List Waiter) → queue_at w (2 * l) ≡ y ∷ rest
        → first.Followed w t l inductive there own r refl x same_row hears takes
        (line_there w l shape lt Main) g
        (Some y.thread) (Took true (length rest == 0))
        → first.KeptBy w t l inductive there own r refl x same_row hears takes (line_there w l shape lt Main)
        g
        (y ∷ rest)

    pub took_first : Takes → (key : ℕ) → key ≡ key_of l Main → GoesBy (first_of (queue_at w key))
        (act.Take key whom.First)
    took_first one key e = subst (λ j. GoesBy (first_of (queue_at w j)) (act.Take j whom.First)) (sym e)
        (record {
          goes = first.takes_first w t l inductive there own r refl x same_row hears takes
              (line_there w l shape lt Main) g none taking one;
          told = first.hears_of w t l inductive there own r refl x same_row hears takes
              (line_there w l shape lt Main) g (queue_at w (2 * l)) refl;
          brief = tt;
          others = calm_by (takes (first_of (queue_at w (2 * l)))) (g.deeds (first_of (queue_at w (2 * l))) _
              _)
              (calm (first_of (queue_at w (2 * l))));
          free = ap (λ (y : Location). y.hand) (g.goes _ _);
        })
