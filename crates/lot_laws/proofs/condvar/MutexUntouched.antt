-- A thread acts at its condition variable, where at the mutex beside it all is as it was: every lock is a
-- site again.
use Rattle.lot_laws.proofs.Imports
use Imports.{ℕ, Bool, true, false, Option, Some, None, if◌then◌else◌, ◌||◌, ◌≡◌, ◌≢◌, ◌+◌, ◌*◌, ◌≤◌, ◌<◌, List}
use Imports.{[], ◌∷◌, length, map, refl, sym, ◌∙◌, ap, subst, arith, inl, inr, cases_eq, or-false, One, Op}
use Imports.{first_of, times, without, apply, Reply, Value, Owners, Location, inside_of, Place, Condvar}
use Imports.{condvar_goes, CondvarPlace, condvar_act, condvar_next, condvar_owners, mutex_beside, Follows}
use Imports.{condvar_deeds, word_showing, there, there_then, shown_code, word_by, parked_in, aside_in, count_in}
use Imports.{CondvarDeed, CondvarSite, OfCondvar, Rules, Park, putting, standing, keep_from, IsBlocked}
use Imports.{IsFreeAt, one_if_some, Knows, Case, Deed, Role, In, LeaveLine, Line, Main, Out, Second, Send, Site}
use Imports.{IsSite, has_readers, idle, wakened, leaves, StandsIn, State, owners_at, place_at, put, queue_at}
use Imports.{section_at, shares_at, state_after_operation, state_with_sections, queues_with_last}
use Imports.{queues_without, word_at, filled_at, taken_at, lock_seen, acts, role_on, location_at, ActsNeeded}
use Imports.{FitsItsLock, Goes, IsInductive, after_acts, condvar_of, key_of, rules_in, hand_at, carried_at}
use Imports.{stood_in, queued_of, condvar_owners_follow, condvar_steps_code, nat_le}
use Rattle.core_base.specs.declared.wants.Want.TheVariants.{Wait as WaitHere}
use Rattle.steps_base.specs.declared.acts.Act.TheVariants as act
use Rattle.steps_base.specs.declared.acts.Next.TheVariants as next
use Rattle.steps_condvar.specs.CondvarDeeds as condvar
use Rattle.spec_locks.specs.Condvars as condvars
use Rattle.spec_locks.specs.Locks as locks
use Rattle.lot_laws.specs.Locations.{hand}
use Rattle.lot_laws.proofs.machine.Parts.{lock_in, parts_at, seen_in, LetGo, stays, put_here, put_other, same}
use Rattle.lot_laws.proofs.machine.Parts.{inside_is}
use Rattle.lot_laws.proofs.sites.OneStep.{Steps, steps_by, queued_times, queued_without, AreSingle}
use Rattle.lot_laws.proofs.sites.OneStep.{same_filled}
use Rattle.lot_laws.proofs.sites.StandsKept.{Alike, AlikeBeside}
use Rattle.lot_laws.proofs.sites.Following.{lock_by, operated, parks, with_line, NoHandOff}
use Rattle.lot_laws.proofs.sites.ActsAt as acting
use Rattle.lot_laws.proofs.sites.WakesAt.{leaving_by}
use Rattle.lot_laws.proofs.machine.Parts as glue
use Rattle.std.specs.Prelude.{◌&&◌}
use Rattle.lot_laws.proofs.condvar.TwoParts.{Beside, role_of_row, role_there, nothing_else, location_there}
use Rattle.lot_laws.proofs.condvar.TwoParts.{taken_there, nothing_there}
use Rattle.lot_laws.proofs.hands.Counts.{first_out, aside_kept}

-- ------------------------------------------------------- deeds of the condition variable, as deeds of a site

abbrev pub there_deeds : List CondvarDeed → List Deed
there_deeds (condvars.Show m ∷ ds) = Case (OfCondvar (locks.Show m)) ∷ []
there_deeds (condvars.HideAndTakeAll ∷ ds) = Case (OfCondvar locks.Hide) ∷ []
there_deeds (condvars.ShowNone ∷ ds) = Case (OfCondvar locks.Hide) ∷ []
there_deeds (condvars.StandLast ∷ ds) = Case (Park WaitHere) ∷ []
there_deeds (condvars.LeaveList ∷ ds) = LeaveLine ∷ []
there_deeds (condvars.GoIn ∷ ds) = In Main ∷ []
there_deeds (condvars.GoOut ∷ ds) = Out ∷ []
there_deeds (condvars.MoveFirst ∷ ds) = Send false ∷ []
there_deeds (condvars.MoveAll ∷ ds) = Send true ∷ []
there_deeds ds = []

-- a step on the word
abbrev pub IsOfWord : List CondvarDeed → Type 0
IsOfWord [] = Unit {0}
IsOfWord (condvars.Show m ∷ []) = Unit {0}
IsOfWord (condvars.SeeOther m ∷ []) = Unit {0}
IsOfWord (condvars.SeeAgain m ∷ []) = Unit {0}
IsOfWord (condvars.MissIt m ∷ []) = Unit {0}
IsOfWord (condvars.HideAndTakeAll ∷ []) = Unit {0}
IsOfWord (condvars.ShowNone ∷ []) = Unit {0}
IsOfWord ds = ⊥

module _ (w : State) (t l m : ℕ) (at : CondvarPlace) (inductive : IsInductive w) (is_there : t
    < length w.places)
    (apart : m ≢ l)
    (sort : (rules_in w l).sort ≡ locks.Condvar) (is : place_at w t ≡ Condvar l at) (of : mutex_beside at
    ≡ Some m) (told : Reply)
    (beside : Beside m (condvar_next at told)) where
  abbrev pub p2 : Place
  p2 = condvar_goes l (condvar_next at told)

  abbrev pub r : Rules
  r = rules_in w l

  abbrev pub here : Site
  here = lock_by w l r

  pub was : location_at (place_at w t) l ≡ there at
  was = ap (λ q. location_at q l) is ∙ location_there l m apart (next.At at) of

  pub then_is : location_at p2 l ≡ there_then at told
  then_is = location_there l m apart (condvar_next at told) beside

  pub untaken : taken_at (place_at w t) l ≡ None
  untaken = ap (λ q. taken_at q l) is ∙ taken_there l m apart (next.At at) of

  pub untaken_then : taken_at p2 l ≡ None
  untaken_then = taken_there l m apart (condvar_next at told) beside

  pub did : role_on (place_at w t) l ≡ record idle { inside = (there at).inside }
  did = ap (λ q. role_on q l) is ∙ role_there l m apart (next.At at) of ∙ role_of_row (next.At at)

  pub does : role_on p2 l ≡ record idle { inside = (there_then at told).inside }
  does = role_there l m apart (condvar_next at told) beside ∙ role_of_row (condvar_next at told)

  pub unshared : has_readers r.sort ≡ false
  unshared = ap has_readers sort

  pub plain : {A : Type 0} → has_readers r.sort ≡ true → A
  plain h = absurd (let e : false ≡ true = sym unshared ∙ h in cc)

  pub site : IsSite r here
  site = inductive.sites.site l

  -- the lock after a thread goes into a section that is free, or out of it
  pub in_steps : section_at w (key_of l Main) ≡ None → (there at).inside ≡ None → there_then at told
      ≡ record (there at) { inside = Some Main } → Steps r l (parts_at w l) (parts_at w l) (place_at w) t p2
      (In Main ∷ [])
  in_steps free out goes = steps_by r l (parts_at w l) (parts_at w l) (place_at w) t p2 (In Main ∷ [])
      ((nobody_inside, ap (λ (d : Role). d.inside) did ∙ out, ap (λ (d : Role). d.empty) did), tt) (tt, tt)
      (untaken ∙ sym untaken_then) refl refl refl refl
      (does ∙ ap (λ (y : Location). record idle { inside = y.inside }) goes
      ∙ sym (put_here here.role t (record (here.role t) { inside = Some Main })
      ∙ ap (λ (d : Role). record d { inside = Some Main }) did))
    where
      nobody_inside : (u : ℕ) → (role_on (place_at w u) l).inside ≢ Some Main
      nobody_inside u h = let a : section_at w (key_of l Main) ≡ Some u =
          (inductive.stands.sections u l Main).0
          (sym (inside_is (place_at w u) l) ∙ h) in let b : ◌≡◌ {A = Option ℕ} None (Some u) = sym free ∙ a
          in cc

  pub out_steps : (there at).inside ≡ Some Main → there_then at told ≡ record (there at) { inside = None }
      → Steps r l (parts_at w l) (parts_at w l) (place_at w) t p2 (Out ∷ [])
  out_steps within goes = record {
    site = leaving_by r l (parts_at w l) (place_at w) (putting (place_at w) t p2) t
        (ap (λ q. taken_at q l) (put_here (place_at w) t p2) ∙ untaken_then ∙ sym (ap (keep_from t) untaken))
        (λ u ne. subst (λ q. LetGo t l (place_at w u) q) (sym (put_other (place_at w) t p2 u ne))
        (stays t l (place_at w u) (glue.untaken (place_at w u) t l (λ h. nobody u h))))
        (Out ∷ []) tt (ap (λ q. role_on q l) (put_here (place_at w) t p2) ∙ does
        ∙ ap (λ (y : Location). record idle { inside = y.inside }) goes ∙ sym out_role);
    needed = (
      (
        (λ h. let a : ◌≡◌ {A = Option Line} (Some Main) None = sym within
            ∙ sym (ap (λ (d : Role). d.inside) did) ∙ h in cc),
        ap (λ (d : Role). d.wakes) did,
        ap (λ (d : Role). d.bit_pending) did,
      ),
      tt,
    );
  }
    where
      nobody : (u : ℕ) → hand_at (place_at w u) l ≡ hand t false → ⊥
      nobody u h = let a : carried_at (place_at w t) l ≡ Some false = inductive.stands.hands.taken t u l false
          h
          in let b : carried_at (place_at w t) l ≡ None = ap (λ (y : Location). y.has_taken) was in
          let c : ◌≡◌ {A = Option Bool} None (Some false) = sym b ∙ a in cc

      out_role : (after_acts r (acts t (Out ∷ [])) here).role t ≡ idle
      out_role = ap (λ o. wakened t o (putting here.role t (leaves (here.role t)) t)) untaken
          ∙ put_here here.role t (leaves (here.role t)) ∙ ap leaves did

  module _ (fits : FitsItsLock w p2) (alike_m : Alike m (place_at w t) p2) where
    alike : AlikeBeside l (place_at w t) p2
    alike k ne = elim (cases_eq k m) [
      | inl e ↦ subst (λ j. Alike j (place_at w t) p2) (sym e) alike_m
      | inr nm ↦ subst (λ q. Alike k q p2) (sym is) (nothing_else l m apart (next.At at)
          (condvar_next at told) of beside k ne nm)
    ]

    -- the thread goes into the section
    pub enters_there : (line : key_of l Main < length w.sections) → section_at w (key_of l Main) ≡ None
        → (there at).inside ≡ None → there_then at told ≡ record (there at) { inside = Some Main }
        → Goes w (put (state_with_sections w (One (key_of l Main)) (Some t)) t p2) l (acts t (In Main ∷ []))
    enters_there line free out goes = acting.enter_goes w t l inductive is_there r refl p2 alike fits Main
        line
        free (ap (λ (y : Location). y.inside) was ∙ out) (in_steps free out goes)
        (then_is ∙ goes ∙ sym (ap (λ (y : Location). record y { inside = Some Main }) was))

    -- A thread leaves the section of a mutex where it has nobody in hand there.
    pub leaves_there : (line : key_of l Main < length w.sections) → (there at).inside ≡ Some Main
        → there_then at told ≡ record (there at) { inside = None }
        → Goes w (put (state_with_sections w (One (key_of l Main)) None) t p2) l (acts t (Out ∷ []))
    leaves_there line within goes = acting.leave_goes w t l inductive is_there r refl p2 alike fits Main line
        (ap (λ (y : Location). y.inside) was ∙ within) (Out ∷ []) (λ h. tt) (out_steps within goes)
        (then_is ∙ goes ∙ sym (ap (λ (y : Location). record y { inside = None }) was))

    -- the thread stands in no line of another lock
    module _ (out_m : (location_at (place_at w t) m).stands ≡ None) where
      out : (k : ℕ) → k ≢ l → (location_at (place_at w t) k).stands ≡ None
      out k ne = elim (cases_eq k m) [
        | inl e ↦ subst (λ j. (location_at (place_at w t) j).stands ≡ None) (sym e) out_m
        | inr nm ↦ ap (λ q. (location_at q k).stands) is
            ∙ ap (λ (y : Location). y.stands) (nothing_there l m apart (next.At at) of k ne nm)
      ]

      -- the thread stands after the last of the list
      pub stands_there : (line : key_of l Main < length w.queues) → there at ≡ inside_of Main
          → there_then at told ≡ record (inside_of Main) {
            stands = Some Main;
            waits = Some WaitHere;
          }
          → Goes w (put (record w { queues = queues_with_last w.queues (key_of l Main) t WaitHere }) t p2) l
          (acts t (Case (Park WaitHere) ∷ []))
      stands_there line was_in goes = acting.park_goes w t l inductive is_there r refl p2 alike fits out Main
          WaitHere (Case (Park WaitHere) ∷ []) (λ h. plain h) line (ap (λ (y : Location). y.stands) (was
          ∙ was_in))
          (parks r l (parts_at w l) (place_at w) t p2 site (untaken ∙ sym untaken_then) (key_of l Main)
          WaitHere (
            (
              (blocked, alone),
              (
                ap (λ (d : Role). d.inside) did
                    ∙ ap (λ (y : Location). y.inside) was_in,
                parked,
                ap (λ (d : Role). d.wakes) did,
                ap (λ (d : Role). d.owes_taken) did,
              ),
            ),
            tt,
          )
          (does ∙ ap (λ (y : Location). record idle { inside = y.inside }) goes
          ∙ sym (ap (λ (d : Role). record d {
            retries = None;
            empty = None;
          }) (did ∙ ap (λ (y : Location). record idle { inside = y.inside }) was_in))))
          (then_is ∙ goes ∙ sym (ap (λ (y : Location). record y {
            stands = Some Main;
            waits = Some WaitHere;
          }) (was ∙ was_in)))
        where
          parked : here.parked ≡ true
          parked = ap (λ x. parked_in x (word_at w l)) sort

          blocked : IsBlocked r here.lock WaitHere
          blocked = (
            subst (λ x. Knows x WaitHere) (sym sort) tt,
            λ free. let e : IsFreeAt locks.Condvar
                r.limit here.lock WaitHere = subst (λ x. IsFreeAt x r.limit here.lock WaitHere) sort free
                in e,
          )

          stood : (n : Line) → times t (queue_at w (key_of l n)) ≡ 0
          stood n = inductive.stands.lines t l n ∙ ap (λ (y : Location). stood_in y.stands n) (was ∙ was_in)

          alone : standing t here.lock ≡ 0
          alone = let main : locks.times t (map queued_of (queue_at w (2 * l))) ≡ 0 =
              queued_times t (queue_at w (2 * l)) ∙ stood Main in
              let aside : locks.one_if_thread t (first_of (queue_at w (2 * l + 1))) ≡ 0 =
              first_out t (queue_at w (2 * l + 1)) (stood Second) in
              let taken : one_if_some (taken_at (place_at w t) l) ≡ 0 = ap one_if_some untaken in
              omega arith

      -- the thread's time is up, and it leaves the list
      pub leaves_list : there at ≡ record (inside_of Main) {
        stands = Some Main;
        waits = Some WaitHere;
      } → there_then at told ≡ inside_of Main
          → Goes w (put (record w { queues = queues_without w.queues t }) t p2) l (acts t (LeaveLine ∷ []))
      leaves_list was_in goes = acting.remove_goes w t l inductive is_there r refl p2 alike fits out Main
          (LeaveLine ∷ []) (λ h. tt) (ap (λ (y : Location). y.stands) (was ∙ was_in))
          (steps_by r l (parts_at w l) (with_line (parts_at w l) Main
          (without t (queue_at w (key_of l Main)))) (place_at w) t p2 (LeaveLine ∷ []) (
            (
              sort,
              listed,
              (
                subst (λ o. StandsIn here.lock t o) (sym (ap (λ (d : Role). d.inside) did
                    ∙ ap (λ (y : Location). y.inside) was_in)) not_second,
                ap (λ (d : Role). d.has_taken) did,
              ),
            ),
            tt,
          )
          (tt, tt) (untaken ∙ sym untaken_then)
          (λ i. record here.lock {
            queue = queued_without t (queue_at w (2 * l)) i;
            aside = still_aside i;
          }) refl refl refl (does ∙ ap (λ (y : Location). record idle { inside = y.inside }) goes
          ∙ sym (did ∙ ap (λ (y : Location). record idle { inside = y.inside }) was_in)))
          (then_is ∙ goes ∙ sym (ap (λ (y : Location). record y { stands = None; waits = None }) (was
          ∙ was_in)))
        where
          stood : (n : Line) → times t (queue_at w (key_of l n)) ≡ stood_in (Some Main) n
          stood n = inductive.stands.lines t l n ∙ ap (λ (y : Location). stood_in y.stands n) (was ∙ was_in)

          no_first : locks.one_if_thread t (first_of (queue_at w (2 * l + 1))) ≡ 0
          no_first = first_out t (queue_at w (2 * l + 1)) (stood Second)

          listed : 1 ≤ locks.times t (map queued_of (queue_at w (2 * l))) + locks.one_if_thread t
              (first_of (queue_at w (2 * l + 1)))
          listed = let a : locks.times t (map queued_of (queue_at w (2 * l))) ≡ 1 =
              queued_times t (queue_at w (2 * l)) ∙ stood Main in omega arith

          not_second : first_of (queue_at w (2 * l + 1)) ≢ Some t
          not_second e = let a : locks.one_if_thread t (Some t) ≡ 0 = subst (λ o. locks.one_if_thread t o ≡ 0)
              e no_first in
              let b : locks.one_if_thread t (Some t) ≡ 1 = ap (λ (c : Bool). if c then 1 else 0) (same t)
              in omega arith

          still_aside : first_of (queue_at w (2 * l + 1)) ≡ locks.aside_without t
              (first_of (queue_at w (2 * l + 1)))
          still_aside = sym (aside_kept t (first_of (queue_at w (2 * l + 1))) no_first)

    -- ---------------------------------------------------------------- a step on the word

    -- tells what is shown after it
    module _ (shown : Option ℕ) (op : Op) (lt : l < length w.locks) (ds : List Deed)
        (owners : condvar_owners at t (word_at w l) (owners_at w l) ≡ record (owners_at w l) {
          shown =
              shown;
        })
        (coded : apply op (word_at w l) ≡ word_showing shown) (stays_in : there_then at told ≡ there at)
        (needed : ActsNeeded r (acts t ds) here) (single : AreSingle ds)
        (led : (after_acts r (acts t ds) here).lock ≡ record here.lock { shown = shown })
        (bits : (after_acts r (acts t ds) here).parked ≡ here.parked)
        (bits_aside : (after_acts r (acts t ds) here).aside_parked ≡ here.aside_parked)
        (role : (after_acts r (acts t ds) here).role t ≡ here.role t) (plain_deeds : NoHandOff ds) where
      abbrev before : Place
      before = Condvar l at

      lock_then : lock_in (operated w t before l op) (λ u. taken_at (place_at w u) l) ≡ record here.lock
          { shown = shown }
      lock_then = ap (λ (o : Owners). lock_seen (shares_at w l) o (queue_at w (2 * l))
          (queue_at w (2 * l + 1)) (λ u. taken_at (place_at w u) l)) owners

      filled_then : (operated w t before l op).base.filled ≡ (after_acts r (acts t ds) here).filled
      filled_then = ap (λ b. filled_at w l || (b && nat_le r.limit (count_in (apply op (word_at w l)))))
          unshared ∙ or-false (filled_at w l) ∙ sym (same_filled r (acts t ds) here unshared)

      steps : Steps r l (parts_at w l) (operated w t before l op) (place_at w) t p2 ds
      steps = steps_by r l (parts_at w l) (operated w t before l op) (place_at w) t p2 ds needed single
          (untaken ∙ sym untaken_then) (lock_then ∙ sym led)
          (ap (λ x. parked_in x (apply op (word_at w l))) sort
          ∙ sym (ap (λ x. parked_in x (word_at w l)) sort) ∙ sym bits)
          (ap (λ x. aside_in x (apply op (word_at w l))) sort ∙ sym (ap (λ x. aside_in x (word_at w l)) sort)
          ∙ sym bits_aside)
          filled_then
          (does ∙ ap (λ (y : Location). record idle { inside = y.inside }) stays_in ∙ sym did ∙ sym role)

      shows : (o : Option ℕ) → word_showing o ≡ shown_code o
      shows None = refl
      shows (Some n) = refl

      pub works_by : Goes w (put (state_after_operation w t before l op) t p2) l (acts t ds)
      works_by = acting.word_goes w t l inductive is_there r refl p2 alike fits before lt
          (rw inductive.numbers.locks lt) op ds (λ h. plain_deeds) steps
          (coded ∙ shows shown ∙ ap (λ (o : Owners). shown_code o.shown) (sym owners)
          ∙ sym (ap (λ x. word_by x r.limit (seen_in r l (operated w t before l op)
          (putting (place_at w) t p2)).lock
          (seen_in r l (operated w t before l op) (putting (place_at w) t p2)).aside_parked
          (seen_in r l (operated w t before l op) (putting (place_at w) t p2)).parked) sort))
          (then_is ∙ stays_in ∙ sym was)

    -- by the deeds of its place
    pub works_there : (op : Op) → l < length w.locks → condvar_act l at ≡ act.Word l op → told
        ≡ Value (word_at w l)
        → word_at w l ≡ word_showing (condvar_of w l).shown → there_then at told ≡ there at
        → IsOfWord (condvar_deeds at told)
        → Follows (condvar_of w l) t at told
        → Goes w (put (state_after_operation w t (Condvar l at) l op) t p2) l
        (acts t (there_deeds (condvar_deeds at told)))
    works_there op lt acts_so told_so word_is stays_in of_word follows = by_deeds (condvar_deeds at told)
        of_word follows.needed shown_then coded_then
      where
        c : CondvarSite
        c = condvar_of w l

        told_is : told ≡ Value (word_showing c.shown)
        told_is = told_so ∙ ap Value word_is

        other_word : mutex_beside at ≢ Some l
        other_word e = apart (let f : Some m ≡ Some l = sym of ∙ e in cc)

        shown_then : condvar_owners at t (word_at w l) (owners_at w l) ≡ record (owners_at w l) {
          shown =
              (condvar.after_condvar_deeds (condvar_deeds at told) c t).shown;
        }
        shown_then = ap (λ v. condvar_owners at t v (owners_at w l)) word_is
            ∙ condvar_owners_follow c t l at op (owners_at w l) acts_so other_word refl
            ∙ sym (ap (λ x. record (owners_at w l) {
              shown =
                  (condvar.after_condvar_deeds (condvar_deeds at x) c t).shown;
            }) told_is)

        coded_then : apply op (word_at w l) ≡ word_showing
            (condvar.after_condvar_deeds (condvar_deeds at told) c t).shown
        coded_then = ap (apply op) word_is ∙ condvar_steps_code c t l at op acts_so other_word
            ∙ sym (ap (λ x. word_showing (condvar.after_condvar_deeds (condvar_deeds at x) c t).shown)
            told_is)

        by_deeds : (ds : List CondvarDeed) → IsOfWord ds → condvar.AllCondvarNeeded ds c t
            → condvar_owners at t (word_at w l) (owners_at w l) ≡ record (owners_at w l) {
              shown =
                  (condvar.after_condvar_deeds ds c t).shown;
            }
            → apply op (word_at w l) ≡ word_showing (condvar.after_condvar_deeds ds c t).shown
            → Goes w (put (state_after_operation w t (Condvar l at) l op) t p2) l (acts t (there_deeds ds))
        by_deeds [] h n o e = works_by c.shown op lt [] o e stays_in tt tt refl refl refl refl tt
        by_deeds (condvars.SeeOther k ∷ []) h n o e = works_by c.shown op lt [] o e stays_in tt tt refl refl
            refl refl tt
        by_deeds (condvars.SeeAgain k ∷ []) h n o e = works_by c.shown op lt [] o e stays_in tt tt refl refl
            refl refl tt
        by_deeds (condvars.MissIt k ∷ []) h n o e = works_by c.shown op lt [] o e stays_in tt tt refl refl
            refl refl tt
        by_deeds (condvars.Show k ∷ []) h n o e = works_by (Some k) op lt (Case (OfCondvar (locks.Show k))
            ∷ []) o e stays_in (((sort, n.0.2), tt), tt) (tt, tt) refl refl refl
            (put_here here.role t (here.role t)) ((λ f. f), tt)
        by_deeds (condvars.HideAndTakeAll ∷ []) h n o e =
            works_by None op lt (Case (OfCondvar locks.Hide) ∷ []) o e stays_in (((sort, tt), tt), tt) (
              tt,
              tt,
            ) refl refl refl (put_here here.role t (here.role t)) ((λ f. f), tt)
        by_deeds (condvars.ShowNone ∷ []) h n o e = works_by None op lt (Case (OfCondvar locks.Hide) ∷ []) o e
            stays_in (((sort, tt), tt), tt) (tt, tt) refl refl refl (put_here here.role t (here.role t))
            ((λ f. f), tt)
        by_deeds ds h n o e = absurd h
