-- Each step of a call that may hand the lock over, or be handed it, takes its thread in the machine where its
-- act says.
use Rattle.std.proofs.lemmas.Bool.{eqb-true}
use Rattle.std.proofs.Common.{ℕ, Bool, true, false, Option, Some, None, List, if◌then◌else◌, ◌==◌, ◌≡◌, ◌⊎◌}
use Rattle.std.proofs.Common.{inl, inr, refl, ap, sym, subst, ◌∙◌}
use Rattle.core_base.specs.declared.keys.Line.{Line}
use Rattle.core_base.specs.declared.keys.Line.TheVariants.{Main, Second}
use Rattle.core_base.specs.declared.notes.Note.TheVariants as note
use Rattle.core_base.specs.declared.wants.Want.{Want}
use Rattle.core_base.specs.declared.wants.Want.TheVariants.{Upgradable}
use Rattle.spec_locks.specs.declared.calls.Access.{Access}
use Rattle.spec_locks.specs.declared.calls.Access.TheVariants as access
use Rattle.spec_locks.specs.declared.calls.Patience.{Patience}
use Rattle.spec_locks.specs.declared.calls.Patience.TheVariants.{Patient}
use Rattle.spec_locks.specs.declared.outcomes.Answer.TheVariants.{Ok}
use Rattle.steps_base.specs.declared.acts.Act.{Act}
use Rattle.steps_base.specs.declared.acts.Act.TheVariants as act
use Rattle.steps_base.specs.declared.acts.Check.{Check}
use Rattle.steps_base.specs.declared.acts.Wakes.{Wakes}
use Rattle.steps_base.specs.declared.acts.Next.{Next}
use Rattle.steps_base.specs.declared.acts.Next.TheVariants as next
use Rattle.steps_base.specs.declared.acts.Reply.{Reply}
use Rattle.steps_base.specs.declared.acts.Reply.TheVariants.{Done, Value, Parked, Took, Picked, Removed}
use Rattle.steps_base.specs.declared.acts.Reply.TheVariants.{TakenBy, HandedBy, Woken, Late}
use Rattle.steps_base.specs.declared.acts.TakeWhich.TheVariants as whom
use Rattle.steps_base.specs.Acts.{any_picked}
use Rattle.steps_base.specs.Moves.{StepView, Hears, StaysPut, GoesIn, Parks, Picks, TakesAside, LeavesLine}
use Rattle.steps_base.specs.Moves.{GoesOut, MovesByAct, Sleeps, IsHeld, RowWaits, AreOfWord, AreLeaving}
use Rattle.steps_base.specs.Moves.{location_of, location_then, inside_of, row_of}
use Rattle.steps_base.specs.Profiles.{Profile, in_hand}
use Rattle.steps_base.specs.Locations.{Location, location_by, nowhere}
use Rattle.spec_locks.specs.Sites.{Deed, Case}
use Rattle.spec_locks.specs.Locks.{Leave}
use Rattle.spec_locks.specs.Codes.{has_parked}
use Rattle.steps_rwlock.specs.declared.places.Admission.{Admission}
use Rattle.steps_rwlock.specs.declared.places.RwLockPlace.{RwLockPlace}
use Rattle.steps_rwlock.specs.declared.purposes.RwLockPurpose.{RwLockPurpose}
use Rattle.steps_rwlock.specs.declared.purposes.RwLockPurpose.TheVariants as purpose
use Rattle.steps_rwlock.specs.declared.places.RwLockAt.{RwLockAt}
use Rattle.steps_rwlock.specs.declared.places.RwLockAt.TheVariants as at
use Rattle.steps_rwlock.specs.RwLockSteps.{wanted, rwlock_act, rwlock_next}
use Rattle.steps_rwlock.specs.RwLockDeeds.{does_and_wakes}
use Rattle.steps_rwlock.specs.RwLockProfiles.{rwlock_profile}
use Rattle.steps_rwlock.specs.RwLockCalls.{MayStand, StandsAt, next_row}
use Rattle.steps_rwlock.specs.RwLockMoves.{rwlock_move, rwlock_hears}
use Rattle.steps_rwlock.proofs.RwLockMoves.{rwlock_acts_move, rwlock_sleepers_move, rwlock_late_moves}
use Rattle.steps_rwlock_fair.specs.declared.places.RwLockCallPlace.{RwLockCallPlace}
use Rattle.steps_rwlock_fair.specs.declared.places.RwLockCallPlace.TheVariants.{Plain, PeekQueue, HandOver}
use Rattle.steps_rwlock_fair.specs.declared.places.RwLockCallPlace.TheVariants.{Bump}
use Rattle.steps_rwlock_fair.specs.declared.places.RwLockCallPlace.TheVariants.{Handed}
use Rattle.steps_rwlock_fair.specs.declared.hand_over.Taken.{Taken}
use Rattle.steps_rwlock_fair.specs.declared.hand_over.HandOverAt.{HandOverAt}
use Rattle.steps_rwlock_fair.specs.declared.hand_over.HandOverAt.TheVariants as handing
use Rattle.steps_rwlock_fair.specs.declared.handed.HandedAt.TheVariants as handed
use Rattle.steps_rwlock_fair.specs.FairSteps.{has_room, any_taken, looked, freed_next, took, released}
use Rattle.steps_rwlock_fair.specs.FairSteps.{gives_way, gives_up_at, given, plain_next, bump_next, call_act}
use Rattle.steps_rwlock_fair.specs.FairDeeds.{glance_deeds, freed_deeds, exchanged_deeds}
use Rattle.steps_rwlock_fair.specs.FairProfiles.{bumping, call_profile}
use Rattle.steps_rwlock_fair.specs.FairLaws.{next_rows}
use Rattle.steps_rwlock_fair.specs.FairCalls.{HandsOverAt, IsOfBump}
use Rattle.steps_rwlock_fair.specs.FairMoves.{call_move, call_hears, CallMoves, CallWaits, FairActsMove}
use Rattle.steps_rwlock_fair.specs.FairMoves.{FairSleepersMove, FairLateMove}
use Rattle.steps_base.proofs.Moving.{goes_in, goes_out, stays_put}
use Rattle.steps_rwlock_fair.proofs.FairMoves.{hand_overs_move}

-- ---------------------------------------------------------------- calls that move alike

-- tells what is told where nothing is handed over
abbrev IsPlain : Reply → Type 0
IsPlain (HandedBy u alone) = ⊥
IsPlain (Woken note.HandOff) = ⊥
IsPlain told = Unit {0}

-- at the same stations, by the same deeds
record IsAs (x y : StepView) : Type 0 where
  pub here : location_of x ≡ location_of y
  pub deeds : x.deeds ≡ y.deeds
  pub goes : (told : Reply) → IsPlain told → location_then x told ≡ location_then y told

module _ (x y : StepView) (hears : Hears) (alike : IsAs x y) where
  stays_as : StaysPut y → StaysPut x
  stays_as g = record {
    out = ap (λ (s : Location). s.stands) alike.here ∙ g.out;
    free = ap (λ (s : Location). s.hand) alike.here ∙ g.free;
    deeds = λ seen. subst (λ (d : Option ℕ → Reply → List Deed). AreOfWord (d None (Value seen)))
        (sym alike.deeds) (g.deeds seen);
    goes = λ seen. alike.goes (Value seen) tt ∙ g.goes seen ∙ sym alike.here;
  }

  goes_in_as : (m : Line) (told : Reply) → IsPlain told → GoesIn y hears m told → GoesIn x hears m told
  goes_in_as m told plain g = record {
    out = ap (λ (s : Location). s.inside) alike.here ∙ g.out;
    free = ap (λ (s : Location). s.hand) alike.here ∙ g.free;
    deeds = ap (λ (d : Option ℕ → Reply → List Deed). d None told) alike.deeds ∙ g.deeds;
    goes = alike.goes told plain ∙ g.goes
        ∙ sym (ap (λ (s : Location). record s { inside = Some m }) alike.here);
    may = g.may;
  }

  parks_as : (m : Line) (check : Check) (z : Want) → Parks y hears m check z → Parks x hears m check z
  parks_as m check z g = record {
    was = alike.here ∙ g.was;
    parks = ap (λ (d : Option ℕ → Reply → List Deed). d None (Parked true)) alike.deeds ∙ g.parks;
    parked = alike.goes (Parked true) tt ∙ g.parked;
    turns = ap (λ (d : Option ℕ → Reply → List Deed). d None (Parked false)) alike.deeds ∙ g.turns;
    turned = alike.goes (Parked false) tt ∙ g.turned;
    may = g.may;
  }

  picks_as : (start : Option Want) → Picks y hears start → Picks x hears start
  picks_as start g = record {
    was = alike.here ∙ g.was;
    deeds = λ n z none_left. ap (λ (d : Option ℕ → Reply → List Deed). d None (Picked n z none_left))
        alike.deeds ∙ g.deeds n z none_left;
    goes = λ n z none_left. alike.goes (Picked n z none_left) tt ∙ g.goes n z none_left;
    may = g.may;
  }

  takes_as : TakesAside y hears → TakesAside x hears
  takes_as g = record {
    was = alike.here ∙ g.was;
    deeds = λ u any none_left. ap (λ (d : Option ℕ → Reply → List Deed). d u (Took any none_left)) alike.deeds
        ∙ g.deeds u any none_left;
    goes = λ any none_left. alike.goes (Took any none_left) tt ∙ g.goes any none_left;
    may = g.may;
  }

  leaves_line_as : (m : Line) → LeavesLine y hears m → LeavesLine x hears m
  leaves_line_as m g = record {
    want = g.want;
    was = alike.here ∙ g.was;
    deeds = λ none_left. ap (λ (d : Option ℕ → Reply → List Deed). d None (Removed none_left)) alike.deeds
        ∙ g.deeds none_left;
    goes = λ none_left. alike.goes (Removed none_left) tt ∙ g.goes none_left;
    may = g.may;
  }

  goes_out_as : (m : Line) (wakes : Wakes) → GoesOut y hears m wakes → GoesOut x hears m wakes
  goes_out_as m wakes g = record {
    any = g.any;
    notes = g.notes;
    inside = ap (λ (s : Location). s.inside) alike.here ∙ g.inside;
    has_taken = ap (λ (s : Location). s.has_taken) alike.here ∙ g.has_taken;
    free = ap (λ (s : Location). s.hand) alike.here ∙ g.free;
    deeds = subst (λ (d : Option ℕ → Reply → List Deed). AreLeaving (d None Done)) (sym alike.deeds) g.deeds;
    goes = alike.goes Done tt ∙ g.goes ∙ sym (ap (λ (s : Location). record s {
      inside = None;
      has_taken = None;
    }) alike.here);
    may = g.may;
  }

  -- A call that hands nothing over moves as one that may.
  moves_as : (l : ℕ) (recursive : Bool) (act : Act) → MovesByAct l recursive y hears act
      → CallMoves l recursive x hears act
  moves_as l b (act.Word k op) g = (g.0, stays_as g.1)
  moves_as l b (act.Enter keys) g = (g.0, g.1, goes_in_as g.0 Done tt g.2)
  moves_as l b (act.Park k key check x) g = (g.0, g.1, g.2, parks_as g.0 check x g.3)
  moves_as l b (act.Take key (whom.Picked start c)) g = (g.0, g.1, picks_as start g.2)
  moves_as l b (act.Take key whom.First) g = (g.0, takes_as g.1)
  moves_as l b (act.Remove key) g = (g.0, g.1, leaves_line_as g.0 g.2)
  moves_as l b (act.Leave keys wakes) g = inl (g.0, g.1, goes_out_as g.0 wakes g.2)
  moves_as l b act.Sleep g = tt
  moves_as l b (act.End answer) g = tt
  moves_as l b act g = absurd g

-- ---------------------------------------------------------------- plain calls, and the second half of a bump

-- nothing is handed over
none_given : (b : Bool) (p : RwLockPlace) (told : Reply) → IsPlain told → given b p told ≡ None
none_given b p (HandedBy u alone) plain = absurd plain
none_given b p (Woken note.HandOff) plain = absurd plain
none_given b p (Woken other) plain = refl
none_given b p told plain = refl

module _ (a : Admission) where
  abbrev of : RwLockPurpose → Bool → RwLockAt → RwLockPlace
  of q again to = record { purpose = q; retries = again; at = to }

  plain_row : (n : Next RwLockPlace) → row_of (next_rows a (plain_next n)) ≡ row_of (next_row a n)
  plain_row (next.At p) = refl
  plain_row (next.End answer) = refl

  plain_goes : (p : RwLockPlace) (told : Reply) → IsPlain told → (call_move a (Plain p)).next told
      ≡ (rwlock_move a p).next told
  plain_goes p told plain = rw (none_given false p told plain) (plain_row (rwlock_next a p told))

  plain_as : (p : RwLockPlace) → IsAs (call_move a (Plain p)) (rwlock_move a p)
  plain_as p = record {
    here = refl;
    deeds = refl;
    goes = λ told plain. ap location_by (plain_goes p told plain);
  }

  -- a bump is where the plain call is
  bumping_stands : (q : RwLockPurpose) (row : Profile) → location_by (bumping q row) ≡ location_by row
  bumping_stands (purpose.Enter x how) row = refl
  bumping_stands (purpose.Release x) row = refl
  bumping_stands (purpose.Downgrade d) row = refl
  bumping_stands (purpose.Upgrade how) row = refl

  bump_stands : (q : RwLockPurpose) (n : Next RwLockPlace)
      → location_by (row_of (next_rows a (bump_next q n))) ≡ location_by (row_of (next_row a n))
  bump_stands q (next.At p) = bumping_stands p.purpose (rwlock_profile a p)
  bump_stands (purpose.Release access.Shared) (next.End answer) = refl
  bump_stands (purpose.Release access.Upgradable) (next.End answer) = refl
  bump_stands (purpose.Release access.Exclusive) (next.End answer) = refl
  bump_stands (purpose.Enter x how) (next.End answer) = refl
  bump_stands (purpose.Downgrade d) (next.End answer) = refl
  bump_stands (purpose.Upgrade how) (next.End answer) = refl

  bump_as : (p : RwLockPlace) → IsAs (call_move a (Bump p)) (rwlock_move a p)
  bump_as p = record {
    here = bumping_stands p.purpose (rwlock_profile a p);
    deeds = refl;
    goes = λ told plain. rw (none_given true p told plain) (bump_stands p.purpose (rwlock_next a p told));
  }

-- ------------------------------------------------ a thread that hands over, and one that was handed the lock

module _ (l : ℕ) (a : Admission) where
  abbrev MovesAt : RwLockCallPlace → Type 0
  MovesAt c = CallMoves l a.recursive (call_move a c) (call_hears a c) (call_act l a c)

  abbrev location_next : Next RwLockCallPlace → Location
  location_next n = location_by (row_of (next_rows a n))

  released_rest : (x : Access) (b : Bool) → location_next (released x b) ≡ nowhere
  released_rest x false = refl
  released_rest access.Shared true = refl
  released_rest access.Upgradable true = refl
  released_rest access.Exclusive true = refl

  glance_moves : (x : Access) → MovesAt (PeekQueue x)
  glance_moves x = (
    refl,
    stays_put refl (λ seen. word (gives_way a x seen)) (λ seen. rest x (gives_way a x seen)),
  )
    where
      word : (b : Bool) → AreOfWord (glance_deeds b)
      word true = tt
      word false = tt

      rest : (x : Access) (b : Bool) → location_next (if b then next.At (gives_up_at x) else next.End Ok)
          ≡ nowhere
      rest x false = refl
      rest access.Shared true = refl
      rest access.Upgradable true = refl
      rest access.Exclusive true = refl

  module _ (x : Access) (b : Bool) where
    abbrev over : HandOverAt → RwLockCallPlace
    over to = HandOver x b to

    looked_rest : (seen : ℕ) → location_next (next.At (over (looked seen))) ≡ nowhere
    looked_rest seen = either (has_parked seen)
      where
        either : (c : Bool) → location_next (next.At (over (if c then handing.Enter else handing.Free seen)))
            ≡ nowhere
        either true = refl
        either false = refl

    freed_rest : (y : Access) (seen : ℕ) → location_next (next.At (over (freed_next y seen))) ≡ nowhere
    freed_rest access.Upgradable seen = looked_rest seen
    freed_rest access.Shared seen = refl
    freed_rest access.Exclusive seen = refl

    load_moves : MovesAt (over handing.Load)
    load_moves = (refl, stays_put refl (λ seen. tt) (λ seen. looked_rest seen))

    free_moves : (expected : ℕ) → MovesAt (over (handing.Free expected))
    free_moves expected = (
      refl,
      stays_put refl (λ seen. word (seen == expected)) (λ seen. rest seen (seen == expected)),
    )
      where
        word : (c : Bool) → AreOfWord (freed_deeds (wanted x) b c)
        word false = tt
        word true = by_bump b
          where
            by_bump : (c : Bool) → AreOfWord (does_and_wakes c (Case (Leave (wanted x))))
            by_bump true = tt
            by_bump false = tt

        rest : (seen : ℕ) (c : Bool) → location_next (if c then released x b
            else next.At (over (freed_next x seen))) ≡ nowhere
        rest seen true = released_rest x b
        rest seen false = freed_rest x seen

    enter_moves : MovesAt (over handing.Enter)
    enter_moves = (Main, refl, goes_in refl refl refl (λ r s t free. free))

    take_moves : MovesAt (over handing.Take)
    take_moves = (
      refl,
      refl,
      record {
        was = refl;
        deeds = λ n y none_left. refl;
        goes = λ n y none_left. goes x n y none_left;
        may = λ r s t n y none_left left. left;
      },
    )
      where
        goes : (z : Access) (n : ℕ) (y : Option Want) (none_left : Bool)
            → location_next (next.At (over (took z (record {
              sharers = n;
              successor = y;
              none_left = none_left;
            })))) ≡ record (inside_of Main) { has_taken = in_hand (any_picked n y) false }
        goes access.Shared n y none_left = refl
        goes access.Upgradable n y none_left = refl
        goes access.Exclusive n y none_left = refl

    look_moves : (k : Taken) → MovesAt (over (handing.Look k))
    look_moves k = (refl, stays_put refl (λ seen. tt) (λ seen. refl))

    leave_moves : (any told : Bool) → MovesAt (over (handing.Leave any told))
    leave_moves any true = inr (
      refl,
      record {
        any = any;
        notes = refl;
        was = refl;
        deeds = tt;
        goes = released_rest x b;
        may = λ r s t free. free;
      },
    )
    leave_moves any false = inl (Main, refl, goes_out any refl tt (released_rest x b) (λ r s t free. free))

  store_moves : (b : Bool) (k : Taken) → MovesAt (HandOver access.Exclusive b (handing.Store k))
  store_moves b k = hand_overs_move l l a (HandOver access.Exclusive b (handing.Store k)) _ k tt refl refl

  -- where there is room, and where there is none
  exchange_moves : (b : Bool) (k : Taken) (expected : ℕ)
      → MovesAt (HandOver access.Upgradable b (handing.Exchange k expected))
  exchange_moves b k expected = either (has_room a.limit k expected) refl
    where
      c : RwLockCallPlace
      c = HandOver access.Upgradable b (handing.Exchange k expected)

      either : (room : Bool) → has_room a.limit k expected ≡ room → MovesAt c
      either true e = rw e (hand_overs_move l l a c _ k tt refl (rw e refl))
      either false e = rw e (
        refl,
        stays_put refl (λ seen. rw e (word (seen == expected))) (λ seen. rest seen (seen == expected) refl),
      )
        where
          word : (won : Bool) → AreOfWord (exchanged_deeds Upgradable k None won false)
          word false = tt
          word true = by_left k.none_left
            where
              by_left : (z : Bool) → AreOfWord (exchanged_deeds Upgradable (record k { none_left = z }) None
                  true false)
              by_left true = tt
              by_left false = tt

          rest : (seen : ℕ) (won : Bool) → (seen == expected) ≡ won
              → location_next (if won then next.At (HandOver access.Upgradable b
              (handing.Leave (any_taken k) (has_room a.limit k seen))) else next.At
              (HandOver access.Upgradable b (handing.Exchange k seen))) ≡ location_by (call_profile a c)
          rest seen false f = refl
          rest seen true f = ap (λ z. location_next
              (next.At (HandOver access.Upgradable b (handing.Leave (any_taken k) z))))
              (ap (has_room a.limit k) (eqb-true seen expected f) ∙ e)

  over_moves : (x : Access) (b : Bool) (to : HandOverAt) → HandsOverAt x to → MovesAt (HandOver x b to)
  over_moves access.Shared b to fits = absurd fits
  over_moves access.Exclusive b (handing.Store k) fits = store_moves b k
  over_moves access.Upgradable b (handing.Exchange k expected) fits = exchange_moves b k expected
  over_moves access.Upgradable b (handing.Store k) fits = absurd fits
  over_moves access.Exclusive b (handing.Exchange k expected) fits = absurd fits
  over_moves x b handing.Load fits = load_moves x b
  over_moves x b (handing.Free expected) fits = free_moves x b expected
  over_moves x b handing.Enter fits = enter_moves x b
  over_moves x b handing.Take fits = take_moves x b
  over_moves x b (handing.Look k) fits = look_moves x b k
  over_moves x b (handing.Leave any told) fits = leave_moves x b any told

  accepts_moves : (x : Access) (how : Patience) (b : Bool) → MovesAt (Handed x how b handed.Accept)
  accepts_moves access.Exclusive how b = (refl, stays_put refl (λ seen. tt) (λ seen. refl))
  accepts_moves access.Shared how b = record { was = refl; deeds = refl; goes = refl; may = λ r s t. tt }
  accepts_moves access.Upgradable how b = record { was = refl; deeds = refl; goes = refl; may = λ r s t. tt }

pub fair_acts_move : FairActsMove
fair_acts_move l a (Plain p) stands = moves_as (call_move a (Plain p)) (rwlock_move a p) (rwlock_hears a p)
    (plain_as a p) l a.recursive (rwlock_act l a p) (rwlock_acts_move l a p stands)
fair_acts_move l a (Bump p) stands = moves_as (call_move a (Bump p)) (rwlock_move a p) (rwlock_hears a p)
    (bump_as a p) l a.recursive (rwlock_act l a p) (rwlock_acts_move l a p stands.0)
fair_acts_move l a (PeekQueue x) stands = glance_moves l a x
fair_acts_move l a (HandOver x b to) stands = over_moves l a x b to stands
fair_acts_move l a (Handed x how b (handed.Asleep by alone)) stands = tt
fair_acts_move l a (Handed x how b handed.Accept) stands = accepts_moves l a x how b

-- ---------------------------------------------------------------- threads asleep

module _ (a : Admission) where
  -- as it waits in a plain call
  plain_waits : (p : RwLockPlace) → MayStand a p → CallWaits (call_move a (Plain p))
  plain_waits p may = record { aside = w.aside; stands = stands; held = λ u h. held u (w.held u false h).1 }
    where
      w : RowWaits (rwlock_move a p)
      w = rwlock_sleepers_move a p may

      stands : (m : Line) → (rwlock_profile a p).stands ≡ Some m
          → ((location_of (rwlock_move a p)).inside ≡ Some m) ⊎ Sleeps (call_move a (Plain p)) m
      stands m e = elim (w.stands m e) [
        | inl within ↦ inl within
        | inr k ↦ inr (record {
          want = k.want;
          was = k.was;
          taken = λ u. ap location_by (plain_goes a p (TakenBy u) tt) ∙ k.taken u;
          wants = λ u. ap (λ (y : Profile). y.wants) (plain_goes a p (TakenBy u) tt) ∙ k.wants u;
          role = λ u. ap (λ (y : Profile). y.role) (plain_goes a p (TakenBy u) tt) ∙ k.role u;
        })
      ]

      held : (u : ℕ) → IsHeld (rwlock_move a p) u → IsHeld (call_move a (Plain p)) u
      held u k = record {
        want = k.want;
        wants = k.wants;
        was = k.was;
        woken = ap location_by (plain_goes a p (Woken note.Normal) tt) ∙ k.woken;
        role = ap (λ (y : Profile). y.role) (plain_goes a p (Woken note.Normal) tt) ∙ k.role;
      }

  -- a thread that enters again waits as in a plain call that enters
  module _ (x : Access) (again : Bool) (to : RwLockAt) where
    abbrev p : RwLockPlace
    p = of a (purpose.Enter x Patient) again to

    bumping_wants : (q : RwLockPurpose) (row : Profile) → (bumping q row).wants ≡ row.wants
    bumping_wants (purpose.Enter x how) row = refl
    bumping_wants (purpose.Release x) row = refl
    bumping_wants (purpose.Downgrade d) row = refl
    bumping_wants (purpose.Upgrade how) row = refl

    bumping_role : (q : RwLockPurpose) (row : Profile) → (bumping q row).role ≡ row.role
    bumping_role (purpose.Enter x how) row = refl
    bumping_role (purpose.Release x) row = refl
    bumping_role (purpose.Downgrade d) row = refl
    bumping_role (purpose.Upgrade how) row = refl

    wants_same : (n : Next RwLockPlace) → (row_of (next_rows a (bump_next (purpose.Enter x Patient) n))).wants
        ≡ (row_of (next_row a n)).wants
    wants_same (next.At q) = bumping_wants q.purpose (rwlock_profile a q)
    wants_same (next.End answer) = refl

    role_same : (n : Next RwLockPlace) → (row_of (next_rows a (bump_next (purpose.Enter x Patient) n))).role
        ≡ (row_of (next_row a n)).role
    role_same (next.At q) = bumping_role q.purpose (rwlock_profile a q)
    role_same (next.End answer) = refl

    wants_then : (told : Reply) → IsPlain told → ((call_move a (Bump p)).next told).wants
        ≡ ((rwlock_move a p).next told).wants
    wants_then told plain = rw (none_given true p told plain) (wants_same (rwlock_next a p told))

    role_then : (told : Reply) → IsPlain told → ((call_move a (Bump p)).next told).role
        ≡ ((rwlock_move a p).next told).role
    role_then told plain = rw (none_given true p told plain) (role_same (rwlock_next a p told))

    again_waits : MayStand a p → CallWaits (call_move a (Bump p))
    again_waits may = record { aside = w.aside; stands = stands; held = λ u h. held u (w.held u false h).1 }
      where
        w : RowWaits (rwlock_move a p)
        w = rwlock_sleepers_move a p may

        stands : (m : Line) → (rwlock_profile a p).stands ≡ Some m
            → ((location_of (rwlock_move a p)).inside ≡ Some m) ⊎ Sleeps (call_move a (Bump p)) m
        stands m e = elim (w.stands m e) [
          | inl within ↦ inl within
          | inr k ↦ inr (record {
            want = k.want;
            was = k.was;
            taken = λ u. (bump_as a p).goes (TakenBy u) tt ∙ k.taken u;
            wants = λ u. wants_then (TakenBy u) tt ∙ k.wants u;
            role = λ u. role_then (TakenBy u) tt ∙ k.role u;
          })
        ]

        held : (u : ℕ) → IsHeld (rwlock_move a p) u → IsHeld (call_move a (Bump p)) u
        held u k = record {
          want = k.want;
          wants = k.wants;
          was = k.was;
          woken = (bump_as a p).goes (Woken note.Normal) tt ∙ k.woken;
          role = role_then (Woken note.Normal) tt ∙ k.role;
        }

  bump_waits : (q : RwLockPurpose) (again : Bool) (to : RwLockAt) → MayStand a (of a q again to)
      → IsOfBump q again → CallWaits (call_move a (Bump (of a q again to)))
  bump_waits (purpose.Enter x Patient) again to may bump = again_waits x again to may
  bump_waits (purpose.Release access.Shared) again to may bump = by_place to may.place
    where
      by_place : (to : RwLockAt) → StandsAt (purpose.Release access.Shared) again to
          → CallWaits (call_move a (Bump (of a (purpose.Release access.Shared) again to)))
      by_place at.GiveWay fits = record {
        aside = λ e. absurd cc;
        stands = λ m e. absurd cc;
        held = λ u e. absurd cc;
      }
      by_place (at.Wake Second to) fits = record {
        aside = λ e. absurd cc;
        stands = λ m e. absurd cc;
        held = λ u e. absurd cc;
      }
      by_place to fits = absurd fits
  bump_waits q again to may bump = absurd bump

pub fair_sleepers_move : FairSleepersMove
fair_sleepers_move a (Plain p) stands = plain_waits a p stands
fair_sleepers_move a (Bump p) stands = bump_waits a p.purpose p.retries p.at stands.0 stands.1
fair_sleepers_move a (PeekQueue x) stands = record {
  aside = λ e. absurd cc;
  stands = λ m e. absurd cc;
  held = λ u e. absurd cc;
}
fair_sleepers_move a (HandOver x b to) stands = record {
  aside = λ e. absurd cc;
  stands = λ m e. absurd cc;
  held = λ u e. absurd cc;
}
fair_sleepers_move a (Handed x how b (handed.Asleep by alone)) stands = record {
  aside = λ e. absurd cc;
  stands = λ m e. absurd cc;
  held = λ u e. absurd cc;
}
fair_sleepers_move a (Handed x how b handed.Accept) stands = record {
  aside = λ e. absurd cc;
  stands = λ m e. absurd cc;
  held = λ u e. absurd cc;
}

pub fair_late_moves : FairLateMove
fair_late_moves a (Plain p) m e = goes_in_as (call_move a (Plain p)) (rwlock_move a p) (rwlock_hears a p)
    (plain_as a p) m Late tt (rwlock_late_moves a p m e)
fair_late_moves a (Bump p) m e = goes_in_as (call_move a (Bump p)) (rwlock_move a p) (rwlock_hears a p)
    (bump_as a p) m Late tt (rwlock_late_moves a p m e)
fair_late_moves a (PeekQueue x) m e = absurd cc
fair_late_moves a (HandOver x b to) m e = absurd cc
fair_late_moves a (Handed x how b to) m e = absurd cc
