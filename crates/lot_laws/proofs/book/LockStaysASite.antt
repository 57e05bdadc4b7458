-- A thread in a call of any one lock goes on: every lock is a site again. No sort of lock is named: the page
-- of its place says what it does.
use Rattle.lot_laws.proofs.Imports
use Imports.{ℕ, Bool, true, false, Option, Some, None, if◌then◌else◌, ◌≡◌, ◌≢◌, ◌*◌, ◌+◌, ◌<◌, List, [], ◌∷◌}
use Imports.{length, inl, inr, refl, sym, ◌∙◌, ap, subst, Normal, Op, Want, first_of, apply, Act, Check, Next}
use Imports.{Reply, Parked, Picked, TakenBy, Took, Value, Late, Woken, CallFollows, holds, outcome_of, StepView}
use Imports.{Picks, StaysPut, TakesAside, TellsHanded, WasGiven, location_then, row_of, takes_aside, Wakes}
use Imports.{Location, location_by, Hand, Of, hand, in_hand, taken_from, shares_then, Profile, RestsAfter}
use Imports.{TakesAll, aside_in, code, parked_in, case_of, event_by, OfOnce, Rules, is_recursive, keep_from}
use Imports.{Rest, TakeAll, Begins, Begin, Case, Claim, Deed, HasClaim, Line, Main, Second, Site, has_readers}
use Imports.{idle, wakened, Place, Idle, act_of, beside_of, called_lock, calls, is_lock, next_act, next_place}
use Imports.{owners_after, profile, profile_at_mutex, shares_after, State, can_do, section_is_free, owners_at}
use Imports.{place_at, put, queue_at, reply_to, section_at, share_at, shares_at, state_after_act}
use Imports.{state_after_late_under, word_at, IsWellFormed, locks_of, taken_at, acts, location, nowhere}
use Imports.{role_on, FitsItsLock, Goes, IsInductive, TakesOne, carried_at, hand_at, key_of, rules_in}
use Rattle.core_base.specs.declared.notes.Note.TheVariants.{HandOff}
use Rattle.steps_base.specs.declared.acts.Act.TheVariants as act
use Rattle.steps_base.specs.declared.acts.Next.TheVariants as next
use Rattle.steps_base.specs.declared.acts.TakeWhich.TheVariants as whom
use Rattle.steps_base.specs.Calls as Calls
use Rattle.steps_base.specs.Owners.{lock_seen}
use Rattle.steps_semaphore.specs.SemaphoreDeeds.{take_deeds}
use Rattle.spec_locks.specs.Deeds as laws
use Rattle.spec_locks.specs.Locks as locks
use Rattle.lot_laws.proofs.book.Page.{Follows, IsThere, Leaves, MovesBy, Page, Says, move_of}
use Rattle.lot_laws.proofs.calls.OtherCalls.{IsCalm, WakesOwn}
use Rattle.lot_laws.proofs.machine.Parts.{IsOf, IsSingle, free_of, location_here, next_of, not_beside}
use Rattle.lot_laws.proofs.machine.Parts.{of_single, parts_at, put_here, role_here, single_taken}
use Rattle.lot_laws.proofs.once.MovesKept.{all_hears, rests_or_turns, stays_unshared, takes_all, told_so}
use Rattle.lot_laws.proofs.semaphore.MovesKept.{takes_one}
use Rattle.lot_laws.proofs.sites.ActsKept.{lock_by, place_goes}
use Rattle.lot_laws.proofs.sites.ByAct.{AreCalm, GoesBy, IsBrief, accepted, calm_case, into, left, line_there}
use Rattle.lot_laws.proofs.sites.ByAct.{none_is, on_time, out_of, parked, section_there, tells_all}
use Rattle.lot_laws.proofs.sites.ByAct.{took_first, word_calm}
use Rattle.lot_laws.proofs.sites.MovesKept.{IsFollowed, IsSleeper, SleepsIfCalls, goes_in, nowhere_here}
use Rattle.lot_laws.proofs.sites.MovesKept.{picked_deeds, picked_hears, stays, takes_chosen, takes_whom_aside}
use Rattle.lot_laws.proofs.sites.MovesKept.{wakes_one}
use Rattle.lot_laws.proofs.sites.OneStep.{steps_by}
use Rattle.lot_laws.proofs.sites.WakesAt.{IsWokenAt}
use Rattle.lot_laws.proofs.sites.WakesKept.{woken_of}

-- a thread that an act takes, if anybody
abbrev pub whom_by : State → Act → Option ℕ
whom_by w (act.Take key whom.First) = first_of (queue_at w key)
whom_by w y = None

-- ---------------------------------------------------------------- a place of the world, and its page

-- the replies that it may get
abbrev pub MayCome : State → ℕ → Says → Reply → Type 0
MayCome w l v (Value seen) = seen ≡ word_at w l
MayCome w l v (TakenBy u) = Unit {0}
MayCome w l v (Woken note) = Unit {0}
MayCome w l v Late = (m : Line) × (v.row.late_line ≡ Some m)
MayCome w l v told = (t : ℕ) × (who : Option ℕ) × v.hears (rules_in w l) (lock_by w l (rules_in w l)) t who
    told

-- the place where a reply leads, with what its thread does there, is that of the row, or its call has ended
abbrev pub ComesBy : ℕ → Next Profile → Place → Act → Type 0
ComesBy l (next.At row) q y = (called_lock q ≡ Some l) × (profile q ≡ row) × (y ≡ act_of q) × IsSingle q
ComesBy l (next.End answer) q y = (q ≡ Idle) × (y ≡ act.End answer)

pub record Tied (w : State) (l : ℕ) (p : Place) (v : Says) : Type 0 where
  pub page : Page (rules_in w l) l v (act_of p) (owners_after p) (shares_after p)
  pub of : IsOf l p
  pub called : called_lock p ≡ Some l
  pub row : profile p ≡ v.row
  pub comes : (told : Reply) → ComesBy l (v.comes told) (next_place p told) (next_act p told)
  pub fits : (told : Reply) → MayCome w l v told → FitsItsLock w (next_place p told)
  -- the thread is told of a closure exactly where its run begins
  pub begins : (t : ℕ) → IsInductive w → can_do w (act_of p) ≡ true
      → Calls.MayCome l v.row (event_by l
      (case_of v.row.has_taken (v.deeds (whom_by w (act_of p)) (reply_to w t (act_of p)))))
      → Begins (locks_of w) (event_by l
      (case_of v.row.has_taken (v.deeds (whom_by w (act_of p)) (reply_to w t (act_of p)))))
      (outcome_of (next_act p (reply_to w t (act_of p))))

-- a law book: a page for each place at which a lock may be called
pub record Book (w : State) (l : ℕ) : Type 1 where
  pub says : Place → Says
  pub tied : (p : Place) → FitsItsLock w p → calls p l ≡ true → Tied w l p (says p)

row_then : (l : ℕ) (n : Next Profile) (q : Place) (y : Act) → ComesBy l n q y → profile q ≡ row_of n
row_then l (next.At row) q y h = h.1
row_then l (next.End answer) q y h = ap profile h.0

takes_calm : (who : Option ℕ) → AreCalm (take_deeds who)
takes_calm None = tt
takes_calm (Some u) = tt

aside_calm : (o : Option ℕ) → AreCalm (takes_aside o ∷ [])
aside_calm None = tt
aside_calm (Some u) = tt

-- ---------------------------------------------------------------- one thread

module _ (w : State) (t l : ℕ) (p : Place) (inductive : IsInductive w) (shape : IsWellFormed w)
    (there : t < length w.places) (lt : l < length w.locks)
    (is : place_at w t ≡ p) (book : Book w l) (calls_it : calls p l ≡ true) where
  abbrev v : Says
  v = book.says p

  abbrev x : StepView
  x = move_of v

  pub k : Tied w l p v
  k = book.tied p (subst (FitsItsLock w) is (inductive.stands.calls t)) calls_it

  abbrev r : Rules
  r = rules_in w l

  abbrev here : Site
  here = lock_by w l r

  pub own : IsOf l (place_at w t)
  own = subst (IsOf l) (sym is) k.of

  same_row : profile (place_at w t) ≡ x.row
  same_row = ap profile is ∙ k.row

  word_is : word_at w l ≡ code r here
  word_is = inductive.sites.word l

  pub at_now : IsThere r here t x.row
  at_now = record {
    site = inductive.sites.site l;
    role = role_here l (place_at w t) own ∙ ap (λ (y : Profile). y.role) same_row;
    here = subst (λ n. t < n) (sym (inductive.numbers.threads l)) there;
    small = λ s. (inductive.sites.permits l s).1;
    aside = ap (aside_in r.sort) (sym word_is);
    limits = λ some. let k = inductive.sites.limits l some in (k.0.1, k.1);
  }

  -- tells what its laws conclude
  abbrev Followed : Option ℕ → Reply → Type 0
  Followed who told = IsFollowed w t l inductive there own r refl x same_row who told
      (next_place (place_at w t) told)

  followed_by : (who : Option ℕ) (told : Reply) → MayCome w l v told → Follows r here t x who told
      → Followed who told
  followed_by who told may f = record {
    of = next_of l (place_at w t) told own;
    fits = subst (λ q. FitsItsLock w (next_place q told)) (sym is) (k.fits told may);
    row = ap (λ q. profile (next_place q told)) is ∙ row_then l (v.comes told) (next_place p told)
        (next_act p told) (k.comes told);
    needed = f.needed;
    role = f.role;
  }

  followed : (who : Option ℕ) (told : Reply) → MayCome w l v told → v.hears r here t who told
      → Followed who told
  followed who told may hears = followed_by who told may (k.page.follows here t who told at_now hears)

  -- ---------------------------------------------------------------- other callers of the lock

  many : TakesOne w l → ⊥
  many = k.page.many

  asleep : (u : ℕ) → SleepsIfCalls w t l inductive there own r refl x same_row u
  asleep u = record {
    apart = not_beside w (place_at w u) l (inductive.stands.calls u) many;
    sleeper = λ h. sleeps (book.tied (place_at w u) (inductive.stands.calls u) h);
  }
    where
      sleeps : Tied w l (place_at w u) (book.says (place_at w u)) → IsSleeper w t l inductive there own r refl
          x
          same_row u
      sleeps z = record {
        single = of_single l (place_at w u) z.of;
        move = move_of (book.says (place_at w u));
        row = z.row;
        waits = z.page.waits;
        taken = row_then l ((book.says (place_at w u)).comes (TakenBy t)) (next_place (place_at w u)
            (TakenBy t)) (next_act (place_at w u) (TakenBy t)) (z.comes (TakenBy t));
        woken = row_then l ((book.says (place_at w u)).comes (Woken Normal))
            (next_place (place_at w u) (Woken Normal)) (next_act (place_at w u) (Woken Normal))
            (z.comes (Woken Normal));
        taken_fits = z.fits (TakenBy t) tt;
        woken_fits = z.fits (Woken Normal) tt;
      }

  -- ---------------------------------------------------------------- each act

  -- the thread's deeds as it goes on, what they make of its call, and of those of the others
  pub record GoesFrom (q : Place) (y : Act) : Type 0 where
    pub goes : Goes w (put (state_after_act w t p y) t (next_place q (reply_to w t y))) l
        (acts t (x.deeds (whom_by w y) (reply_to w t y)))
    pub tells : CallFollows r here.lock t l x.row (x.deeds (whom_by w y) (reply_to w t y))
        (v.comes (reply_to w t y))
    pub others : WakesOwn x.row.has_taken y (case_of x.row.has_taken (x.deeds (whom_by w y) (reply_to w t y)))
    -- the thread is in nobody's hand then
    pub free : (location_then x (reply_to w t y)).hand ≡ None

  tells_by : (who : Option ℕ) (told : Reply) → told ≢ Late → v.hears r here t who told
      → CallFollows r here.lock t l x.row (x.deeds who told) (v.comes told)
  tells_by who told now hears = k.page.tells here t who told at_now hears now

  calm_by : (ds : List Deed) {more : List Deed} → more ≡ ds → AreCalm ds → IsCalm (case_of x.row.has_taken more)
  calm_by ds e h = subst (λ (ds : List Deed). IsCalm (case_of x.row.has_taken ds)) (sym e)
      (calm_case x.row.has_taken ds h)

  brief : (told : Reply) → IsBrief told → v.hears r here t None told → Followed None told
  brief told now hears = followed None told (comes told now hears) hears
    where
      comes : (told : Reply) → IsBrief told → v.hears r here t None told → MayCome w l v told
      comes (Value seen) now h = absurd now
      comes Late now h = absurd now
      comes (TakenBy u) now h = tt
      comes (Woken note) now h = tt
      comes told now h = (t, None, h)

  go_on : (y : Act) → GoesBy w t l inductive shape there lt own x same_row v.hears p brief (whom_by w y) y
      → GoesFrom (place_at w t) y
  go_on y b = record {
    goes = b.goes;
    tells = tells_by (whom_by w y) (reply_to w t y) (on_time (reply_to w t y) b.brief) b.told;
    others = b.others;
    free = b.free;
  }

  -- one operation on the word
  on_word : (op : Op) → act_of p ≡ act.Word l op → StaysPut x → GoesFrom (place_at w t) (act.Word l op)
  on_word op e g = record {
    goes = by_readers (has_readers r.sort) refl;
    tells = subst (λ n. CallFollows r here.lock t l x.row (x.deeds None (Value n)) (v.comes (Value n)))
        (sym word_is) step.2;
    others = calm_case x.row.has_taken (x.deeds None (Value (word_at w l)))
        (word_calm (x.deeds None (Value (word_at w l))) (g.deeds (word_at w l)));
    free = ap (λ (y : Location). y.hand) (g.goes (word_at w l)) ∙ g.free;
  }
    where
      step : Follows r here t x None (Value (code r here)) × Leaves r here t x op (owners_after p)
          (shares_after p)
          × CallFollows r here.lock t l x.row (x.deeds None (Value (code r here)))
          (v.comes (Value (code r here)))
      step = k.page.word here t op at_now (nowhere_here w t l inductive there own r refl x same_row g.out
          g.free)
          e

      then_by : ℕ → Site
      then_by n = laws.after_all r (x.deeds None (Value n)) here t

      at_word : ℕ → Type 0
      at_word n = Followed None (Value n)
          × (lock_seen (shares_then (shares_at w l) t (shares_after p n (share_at w l t)))
          (owners_after p t n (owners_at w l)) (queue_at w (2 * l)) (queue_at w (2 * l + 1))
          (λ u. taken_at (place_at w u) l) ≡ (then_by n).lock)
          × (apply op n ≡ code r (then_by n))
          × (parked_in r.sort (apply op n) ≡ (then_by n).parked)
          × (aside_in r.sort (apply op n) ≡ (then_by n).aside_parked)

      on : at_word (word_at w l)
      on = subst at_word (sym word_is) (
        followed_by None (Value (code r here)) (sym word_is) step.0,
        step.1.lock (owners_at w l) (queue_at w (2 * l)) (queue_at w (2 * l + 1))
            (λ u. taken_at (place_at w u) l) refl,
        step.1.word,
        ap (parked_in r.sort) step.1.word ∙ step.1.parked,
        ap (aside_in r.sort) step.1.word ∙ step.1.aside,
      )

      by_readers : (b : Bool) → has_readers r.sort ≡ b
          → Goes w (put (state_after_act w t p (act.Word l op)) t (next_place (place_at w t)
          (Value (word_at w l)))) l (acts t (x.deeds None (Value (word_at w l))))
      by_readers true readers = stays w t l inductive there own r refl x same_row readers p
          (next_place (place_at w t) (Value (word_at w l))) op lt g on.0 on.1 on.2
      by_readers false readers = stays_unshared w t l inductive there own r refl x same_row readers p
          (next_place (place_at w t) (Value (word_at w l))) op g on.0 lt on.1 on.2 on.3 on.4

  -- ---------------------------------------------------------------- lines

  rested : (j key : ℕ) (check : Check) (want : Want) → j ≡ l → key ≡ key_of l Main
      → RestsAfter x v.hears check want → GoesFrom (place_at w t) (act.Park j key check want)
  rested j key check want je e g = subst (λ j. GoesFrom (place_at w t) (act.Park j key check want)) (sym je)
      (subst (λ i. GoesFrom (place_at w t) (act.Park l i check want)) (sym e) (record {
        goes = rests_or_turns w t l inductive there own r refl x same_row v.hears check want
            (line_there w l shape lt Main) g parks;
        tells = tells_by None (Parked (holds check (word_at w l))) (λ f. cc)
            (told_so w t l inductive there own r
            refl x same_row v.hears check want (line_there w l shape lt Main) g parks
            (holds check (word_at w l))
            refl);
        others = calmly (holds check (word_at w l));
        free = out (holds check (word_at w l));
      }))
    where
      parks : (b : Bool) → v.hears r here t None (Parked b) → Followed None (Parked b)
      parks b h = followed None (Parked b) (t, None, h) h

      calmly : (b : Bool) → IsCalm (case_of x.row.has_taken (x.deeds None (Parked b)))
      calmly true = calm_by (Case (OfOnce (Rest want g.forced)) ∷ []) g.rests tt
      calmly false = calm_by [] g.turns tt

      out : (b : Bool) → (location_then x (Parked b)).hand ≡ None
      out true = ap (λ (y : Location). y.hand) g.rested
      out false = ap (λ (y : Location). y.hand) g.turned

  took_all : (key : ℕ) → key ≡ key_of l Main → TakesAll x v.hears
      → GoesFrom (place_at w t) (act.Take key whom.All)
  took_all key e g = subst (λ j. GoesFrom (place_at w t) (act.Take j whom.All)) (sym e) (record {
    goes = takes_all w t l inductive there own r refl x same_row asleep v.hears many
        (line_there w l shape lt Main) g takes;
    tells = tells_by None _ (λ f. cc) (all_hears w t l inductive there own r refl x same_row asleep v.hears
        many
        (line_there w l shape lt Main) g takes);
    others = calm_by (Case (OfOnce TakeAll) ∷ []) (g.deeds _ _) tt;
    free = ap (λ (y : Location). y.hand) (g.goes _ _);
  })
    where
      takes : (any none_left : Bool) → v.hears r here t None (Took any none_left)
          → Followed None (Took any none_left)
      takes any none_left h = followed None (Took any none_left) (t, None, h) h

  took_picked : (key : ℕ) (start : Option Want) (b : Bool) → key ≡ key_of l Main → b ≡ is_recursive r.sort
      → Picks x v.hears start
      → GoesFrom (place_at w t) (act.Take key (whom.Picked start b))
  took_picked key start b e same_rule g =
      subst (λ j. GoesFrom (place_at w t) (act.Take j (whom.Picked start b))) (sym e)
      (subst (λ c. GoesFrom (place_at w t) (act.Take (key_of l Main) (whom.Picked start c))) (sym same_rule)
      (record {
        goes = takes_chosen w t l inductive there own r refl x same_row asleep v.hears many
            (line_there w l shape lt Main) start g takes;
        tells = tells_by None _ (λ f. cc) (picked_hears w t l inductive there own r refl x same_row asleep
            v.hears
            many (line_there w l shape lt Main) start g takes);
        others = calm_by (Case (locks.TakePicked start) ∷ []) (picked_deeds w t l inductive there own r refl x
            same_row asleep v.hears many (line_there w l shape lt Main) start g takes) tt;
        free = ap (λ (y : Location). y.hand) (g.goes _ _ _);
      }))
    where
      takes : (n : ℕ) (y : Option Want) (none_left : Bool) → v.hears r here t None (Picked n y none_left)
          → Followed None (Picked n y none_left)
      takes n y none_left h = followed None (Picked n y none_left) (t, None, h) h

  took_aside : (key : ℕ) → key ≡ key_of l Second → TakesAside x v.hears → GoesFrom (place_at w t)
      (act.Take key whom.First)
  took_aside key e g = subst (λ j. GoesFrom (place_at w t) (act.Take j whom.First)) (sym e) (record {
    goes = takes_whom_aside w t l inductive there own r refl x same_row asleep v.hears many
        (line_there w l shape lt Second) g (λ any none_left h. followed here.lock.aside (Took any none_left)
        (t, here.lock.aside, h) h);
    tells = tells_by here.lock.aside (reply_to w t (act.Take (key_of l Second) whom.First)) (λ f. cc)
        (g.may r here t _ _);
    others = calm_by (takes_aside here.lock.aside ∷ []) (g.deeds here.lock.aside _ _)
        (aside_calm here.lock.aside);
    free = ap (λ (y : Location). y.hand) (g.goes _ _);
  })

  -- ---------------------------------------------------------------- threads to which it has handed the lock

  calls_there : (q : Place) → is_lock l (beside_of q) ≡ false → (h : Hand) → hand_at q l ≡ Some h
      → (calls q l ≡ true) × ((location q).hand ≡ Some h)
  calls_there q apart h e = either (calls q l)
      (ap (λ c. (if calls q l then location q else if c then location_by (profile_at_mutex q)
      else nowhere).hand) (sym apart) ∙ e)
    where
      either : (b : Bool) → (if b then location q else nowhere).hand ≡ Some h → (b ≡ true)
          × ((location q).hand ≡ Some h)
      either true f = (refl, f)
      either false f = absurd cc

  told_of : {wakes : Wakes} → TellsHanded x v.hears wakes → (u : ℕ) (b : Bool) → hand_at (place_at w u) l
      ≡ hand t b → IsWokenAt w t l HandOff (place_at w u)
  told_of g u b held = let c = calls_there (place_at w u)
      (not_beside w (place_at w u) l (inductive.stands.calls u) many) (Of t b) held
      in by_handed b c.1 c.0 (sym (carried_now ∙ ap (λ (y : Location). y.has_taken) g.was)
      ∙ inductive.stands.hands.taken t u l b held) g.any
    where
      carried_now : carried_at (place_at w t) l ≡ x.row.has_taken
      carried_now = ap (λ (y : Location). y.has_taken) (location_here l (place_at w t) own)
          ∙ ap (λ (y : Profile). y.has_taken) same_row

      was_given : calls (place_at w u) l ≡ true → (location (place_at w u)).hand ≡ hand t true
          → Tied w l (place_at w u) (book.says (place_at w u)) → IsWokenAt w t l HandOff (place_at w u)
      was_given calls_l h z = woken_of w t l HandOff (place_at w u) true z.of (record {
        taken = free_of then_u l (of_single l then_u of_then) (ap (λ (y : Location). y.hand) is_then)
            ∙ sym (ap (keep_from t) untaken);
        role = role_here l then_u of_then ∙ ap (λ (y : Profile). y.role) row_u ∙ given.role
            ∙ sym (ap (λ o. wakened t o (role_on (place_at w u) l)) untaken ∙ role_here l (place_at w u) z.of
            ∙ ap (λ (y : Profile). y.role) z.row);
      }) (ap location_by z.row ∙ given.was) is_then (z.fits (Woken HandOff) tt)
        where
          then_u : Place
          then_u = next_place (place_at w u) (Woken HandOff)

          of_then : IsOf l then_u
          of_then = next_of l (place_at w u) (Woken HandOff) z.of

          row_u : profile then_u ≡ row_of ((book.says (place_at w u)).comes (Woken HandOff))
          row_u = row_then l ((book.says (place_at w u)).comes (Woken HandOff)) then_u
              (next_act (place_at w u) (Woken HandOff)) (z.comes (Woken HandOff))

          given : WasGiven (move_of (book.says (place_at w u))) t
          given = z.page.given t (sym (ap (λ (y : Profile). y.hand) z.row) ∙ h)

          is_then : location then_u ≡ nowhere
          is_then = ap location_by row_u ∙ given.goes

          untaken : taken_at (place_at w u) l ≡ None
          untaken = single_taken (place_at w u) l (of_single l (place_at w u) z.of)
              ∙ ap (λ o. taken_from o (profile (place_at w u)).wants (calls (place_at w u) l)) h

      by_handed : (b : Bool) → (location (place_at w u)).hand ≡ hand t b → calls (place_at w u) l ≡ true
          → in_hand g.any true ≡ Some b → (any : Bool) → IsWokenAt w t l HandOff (place_at w u)
      by_handed true h c f any = was_given c h (book.tied (place_at w u) (inductive.stands.calls u) c)
      by_handed false h c f any = absurd (never g.any f)
        where
          never : (any : Bool) → in_hand any true ≡ Some false → ⊥
          never true f = cc
          never false f = cc

  -- ---------------------------------------------------------------- any act of its own

  -- all acts but a hand-over
  module _ (plain : (j : ℕ) (op : Op) → act_of p ≢ act.HandOver j op) where
    by_act : (y : Act) → act_of p ≡ y → MovesBy r l x v.hears y → can_do w y ≡ true
        → GoesFrom (place_at w t) y
    by_act (act.Word j op) e g can = subst (λ j. GoesFrom (place_at w t) (act.Word j op)) (sym g.0)
        (on_word op (e ∙ ap (λ j. act.Word j op) g.0) g.1)
    by_act (act.Enter keys) e g can = go_on (act.Enter keys) (into w t l inductive shape there lt own x
        same_row
        v.hears p brief g.0 keys g.1 can g.2)
    by_act (act.Park j key check want) e g can = elim g [
      | inl h ↦ go_on (act.Park j key check want) (parked w t l inductive shape there lt own x same_row
          v.hears p
          brief h.0 j key check want h.1 h.2 h.3)
      | inr h ↦ rested j key check want h.0 h.1 h.2
    ]
    by_act (act.Take key whom.First) e g can = elim g [
      | inl h ↦ go_on (act.Take key whom.First) (took_first w t l inductive shape there lt own x same_row
          v.hears
          p brief take_deeds h.2 refl takes_calm (λ who any none_left f. followed who (Took any none_left) (
            t,
            who,
            f,
          ) f)
          (takes_one w t l inductive there own r refl x same_row asleep v.hears many
          (line_there w l shape lt Main) h.0 h.2) key h.1)
      | inr h ↦ took_aside key h.0 h.1
    ]
    by_act (act.Take key whom.All) e g can = took_all key g.0 g.1
    by_act (act.Take key (whom.Picked start b)) e g can = took_picked key start b g.0 g.1 g.2
    by_act (act.Remove key) e g can = go_on (act.Remove key) (left w t l inductive shape there lt own x
        same_row
        v.hears p brief asleep g.0 key g.1 g.2)
    by_act (act.Leave keys wakes) e g can = elim g [
      | inl h ↦ go_on (act.Leave keys wakes) (out_of w t l inductive shape there lt own x same_row v.hears p
          brief h.0 keys wakes h.1 h.2 (wakes_one w t l inductive there own r refl x same_row asleep h.2.any
          h.2.has_taken))
      | inr h ↦ go_on (act.Leave keys wakes) (tells_all w t l inductive shape there lt own x same_row v.hears
          p
          brief keys wakes h.0 h.1 (told_of h.1))
    ]
    by_act act.Accept e g can = go_on act.Accept (accepted w t l inductive shape there lt own x same_row
        v.hears
        p brief g)
    by_act (act.HandOver j op) e g can = absurd (plain j op e)
    by_act act.Sleep e g can = absurd cc
    by_act (act.End answer) e g can = absurd cc
    by_act (act.Closure state) e g can = absurd cc
    by_act y e g can = absurd g

    -- the thread's deeds are what the place and the reply say
    pub goes_on : can_do w (act_of p) ≡ true → GoesFrom p (act_of p)
    goes_on can = subst (λ q. GoesFrom q (act_of p)) is (by_act (act_of p) refl k.page.moves can)

  -- the thread's time is up
  pub goes_late : (m : Line) → x.row.late_line ≡ Some m → section_is_free w (key_of l m) ≡ true
      → Goes w (state_after_late_under w t (key_of l m)) l (acts t (x.deeds None Late))
  goes_late m e free = goes_in w t l inductive there own r refl x same_row v.hears m Late
      (next_place (place_at w t) Late) (section_there w l shape lt m)
      (none_is (section_at w (key_of l m)) free) (k.page.late m e) (λ h. followed None Late (m, e) h)

-- ---------------------------------------------------------------- a call begins

module _ (w : State) (t l : ℕ) (inductive : IsInductive w) (there : t < length w.places)
    (idle_now : place_at w t
    ≡ Idle) (first : Place)
    (of : IsOf l first) (called : called_lock first ≡ Some l) (fits : FitsItsLock w first) (c : Option Claim)
    (is_then : location first ≡ nowhere)
    (role : (profile first).role ≡ record idle { claims = c }) where
  -- with the claim that it needs
  pub begins_with : HasClaim (lock_by w l (rules_in w l)).lock t c → Goes w (put w t first) l
      (acts t (Begin c ∷ []))
  begins_with has = place_goes w t l inductive (rw idle_now tt) there (rules_in w l) refl first of fits
      (Begin c ∷ []) (λ h. tt)
      (steps_by (rules_in w l) l (parts_at w l) (parts_at w l) (place_at w) t first (Begin c ∷ []) (has, tt)
      (tt, tt)
      (ap (λ q. taken_at q l) idle_now
      ∙ sym (free_of first l (of_single l first of) (ap (λ y. y.hand) is_then)))
      refl refl refl refl
      (role_here l first of ∙ role ∙ sym (put_here (λ u. role_on (place_at w u) l) t
      (record (role_on (place_at w t) l) { claims = c }) ∙ ap (λ q. record (role_on q l) { claims = c })
      idle_now)))
      (is_then ∙ sym (ap location idle_now))
