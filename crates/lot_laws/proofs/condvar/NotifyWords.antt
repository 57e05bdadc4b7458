-- Each step of a notification on a word, of its condition variable or of the mutex beside it: every lock is a
-- site again.
use Rattle.lot_laws.proofs.Imports
use Imports.{ℕ, Bool, true, false, None, if◌then◌else◌, ◌==◌, ◌≡◌, ◌≢◌, ◌<◌, List, [], ◌∷◌, length, not, refl}
use Imports.{sym, ◌∙◌, ap, subst, inl, inr, cases_eq, Op, apply, Act, Next, At, Value, with_exclusive}
use Imports.{inside_of, taken_from, location_by, Place, Condvar, condvar_goes, is_locked, NotifyAt}
use Imports.{CondvarPlace, Notify, MayReply, condvar_deeds, row_at_mutex, row_at_condvar, there, FollowsAtMutex}
use Imports.{MayGetReplyAtMutex, beside_deeds, role_next, condvar_next, condvar_owners, in_notify, is_shown, marks}
use Imports.{next_notify, notify_act, condvar_steps_follow, notifiers_code, notifiers_follow, code, IsCondvar}
use Imports.{WaitsAside, Rules, Deed, Main, MarkOwned, Site, State, can_do, owners_at, place_at, put, reply_to}
use Imports.{state_after_act, word_at, acts, taken_at, location_at, FitsItsLock, Goes, IsInductive, condvar_of}
use Imports.{rules_in, site_of}
use Rattle.core_base.specs.declared.ops.Op.TheVariants as op
use Rattle.steps_base.specs.declared.acts.Act.TheVariants as act
use Rattle.steps_condvar.specs.declared.notify.NotifyAt.TheVariants as notify
use Rattle.spec_locks.specs.Condvars as condvars
use Rattle.spec_locks.specs.Deeds as laws
use Rattle.spec_locks.specs.Locks as locks
use Rattle.lot_laws.proofs.machine.Parts.{differ}
use Rattle.lot_laws.proofs.sites.StandsKept.{Alike, AlikeBeside}
use Rattle.lot_laws.proofs.condvar.TwoParts.{Beside, SameBeside, alike_beside, alike_there, role_beside}
use Rattle.lot_laws.proofs.condvar.TwoParts.{nothing_else, location_beside, taken_beside}
use Rattle.lot_laws.proofs.condvar.Replies as hears
use Rattle.lot_laws.proofs.condvar.Replies.{at_it, may_hear, notifier_hears, word_is}
use Rattle.lot_laws.proofs.condvar.MutexUntouched as condvar
use Rattle.lot_laws.proofs.condvar.MutexUntouched.{there_deeds, works_there}
use Rattle.lot_laws.proofs.mutex.Acts.{IsOfWord, owned_by, works_at}

module _ (w : State) (t l m : ℕ) (all : Bool) (inductive : IsInductive w) (is_there : t < length w.places)
    (apart : m ≢ l)
    (sort_l : (rules_in w l).sort ≡ locks.Condvar) (sort_m : (rules_in w m).sort ≡ locks.Mutex)
    (kept : IsCondvar (condvar_of w l)) where
  abbrev notifies : NotifyAt → CondvarPlace
  notifies at = Notify all m at

  abbrev goes_to : NotifyAt → Act → Place
  goes_to at a = condvar_goes l (condvar_next (notifies at) (reply_to w t a))

  -- ---------------------------------------------------------------- the condition variable's part

  module _ (lock : l < length w.locks) where
    abbrev KeptThere : NotifyAt → Op → Type 0
    KeptThere at f = Goes w (put (state_after_act w t (Condvar l (notifies at)) (act.Word l f)) t
        (goes_to at (act.Word l f))) l
        (acts t (there_deeds (condvar_deeds (notifies at) (Value (word_at w l)))))

    module _ (at : NotifyAt) (is : place_at w t ≡ Condvar l (notifies at)) (f : Op)
        (acts_so : notify_act all l m at ≡ act.Word l f) where
      abbrev next : Next CondvarPlace
      next = condvar_next (notifies at) (Value (word_at w l))

      can : can_do w (notify_act all l m at) ≡ true
      can = subst (λ a. can_do w a ≡ true) (sym acts_so) refl

      works : Beside m next → SameBeside (At (notifies at)) next → location_by (row_at_condvar next)
          ≡ there (notifies at)
          → condvar.IsOfWord (condvar_deeds (notifies at) (Value (word_at w l)))
          → FitsItsLock w (condvar_goes l next)
          → KeptThere at f
      works beside same stays of_word fits = works_there w t l m (notifies at) inductive is_there apart sort_l
          is
          refl (Value (word_at w l)) beside fits
          (subst (λ q. Alike m q (condvar_goes l next)) (sym is) (alike_beside l m apart (At (notifies at))
          next refl beside same))
          f lock acts_so refl (word_is w t l (notifies at) inductive is) stays of_word
          (condvar_steps_follow (condvar_of w l) t (notifies at) (Value (word_at w l)) kept
          (at_it w t l (notifies at) inductive is)
          (subst (λ a. condvars_hear a) acts_so (may_hear w t l (notifies at) inductive is can)))
        where
          condvars_hear : Act → Type 0
          condvars_hear a = MayReply (condvar_of w l) t (notifies at) (reply_to w t a)

    -- under both keys, whether its mutex is still the one that is shown
    module _ (shown : Bool) where
      abbrev seen_again : Next CondvarPlace
      seen_again = At (notifies (if not shown then notify.Leave false 0 else if all then notify.Hide
          else notify.Mark))

    again_same : (shown : Bool) → SameBeside (At (notifies notify.Again)) (seen_again shown)
    again_same false = (refl, refl, refl)
    again_same true = by_all all
      where
        by_all : (b : Bool) → SameBeside (At (notifies notify.Again))
            (At (notifies (if b then notify.Hide else notify.Mark)))
        by_all true = (refl, refl, refl)
        by_all false = (refl, refl, refl)

    again_there : (shown : Bool) → location_by (row_at_condvar (seen_again shown)) ≡ there (notifies notify.Again)
    again_there false = refl
    again_there true = by_all all
      where
        by_all : (b : Bool)
            → location_by (row_at_condvar (At (notifies (if b then notify.Hide else notify.Mark))))
            ≡ there (notifies notify.Again)
        by_all true = refl
        by_all false = refl

    again_word : (shown : Bool) → condvar.IsOfWord (if shown then condvars.SeeAgain m ∷ []
        else condvars.MissIt m ∷ [])
    again_word true = tt
    again_word false = tt

    pub looks_again : place_at w t ≡ Condvar l (notifies notify.Again)
        → FitsItsLock w (goes_to notify.Again (act.Word l op.Load))
        → KeptThere notify.Again op.Load
    looks_again is fits = works notify.Again is op.Load refl refl (again_same (is_shown (word_at w l) m))
        (again_there (is_shown (word_at w l) m)) (again_word (is_shown (word_at w l) m)) fits

    pub hides : place_at w t ≡ Condvar l (notifies notify.Hide)
        → FitsItsLock w (goes_to notify.Hide (act.Word l (op.Store 0)))
        → KeptThere notify.Hide (op.Store 0)
    hides is fits = works notify.Hide is (op.Store 0) refl refl (refl, refl, refl) refl tt fits

    pub clears : (any : Bool) → place_at w t ≡ Condvar l (notifies (notify.Clear any))
        → FitsItsLock w (goes_to (notify.Clear any) (act.Word l (op.Store 0)))
        → KeptThere (notify.Clear any) (op.Store 0)
    clears any is fits = works (notify.Clear any) is (op.Store 0) refl refl (refl, refl, refl) refl tt fits

  -- ---------------------------------------------------------------- the mutex's part

  module _ (aside : WaitsAside (condvar_of w l) (site_of w m) m) (lock : m < length w.locks) where
    abbrev r : Rules
    r = rules_in w m

    abbrev here : Site
    here = site_of w m

    abbrev seen : ℕ
    seen = word_at w m

    abbrev does : NotifyAt → List Deed
    does at = beside_deeds all (condvar_of w l).waiters at (Value seen)

    abbrev KeptBeside : NotifyAt → Op → Type 0
    KeptBeside at f = Goes w (put (state_after_act w t (Condvar l (notifies at)) (act.Word m f)) t
        (goes_to at (act.Word m f))) m (acts t (does at))

    module _ (at : NotifyAt) (is : place_at w t ≡ Condvar l (notifies at)) (f : Op)
        (acts_so : notify_act all l m at ≡ act.Word m f) where
      abbrev next_at : Next NotifyAt
      next_at = next_notify all m at (Value seen)

      abbrev then_there : Next CondvarPlace
      then_there = condvar_next (notifies at) (Value seen)

      hears_it : MayGetReplyAtMutex r here (condvar_of w l) t m all at (Value seen)
      hears_it = subst (λ a. MayGetReplyAtMutex r here (condvar_of w l) t m all at (reply_to w t a)) acts_so
          (notifier_hears w t l m all at inductive kept aside is (subst (λ a. can_do w a ≡ true) (sym acts_so)
          refl))

      follows : FollowsAtMutex r here (condvar_of w l) t m all at (Value seen)
      follows = notifiers_follow r here (condvar_of w l) t m all at (Value seen) sort_m
          (hears.role_beside w t l (notifies at) inductive is m refl) hears_it

      coded : apply f seen ≡ code r (laws.after_all r (does at) here t)
      coded = subst (λ v. apply f v ≡ code r
          (laws.after_all r (beside_deeds all (condvar_of w l).waiters at (Value v)) here t))
          (sym (inductive.sites.word m))
          (notifiers_code r here (condvar_of w l) t l m all at f sort_m (λ e. apart (sym e))
          (subst (λ v. MayGetReplyAtMutex r here (condvar_of w l) t m all at (Value v)) (inductive.sites.word m)
          hears_it) acts_so)

      works_beside : Beside m then_there → location_by (row_at_condvar then_there) ≡ there (notifies at)
          → location_by (row_at_mutex then_there) ≡ location_by (row_at_mutex (At (notifies at)))
          → taken_from (row_at_mutex then_there).hand (row_at_mutex then_there).wants true
          ≡ taken_from (row_at_mutex (At (notifies at))).hand (row_at_mutex (At (notifies at))).wants true
          → (row_at_mutex then_there).role ≡ role_next all m next_at
          → condvar_owners (notifies at) t seen (owners_at w m) ≡ owners_at w m → IsOfWord (does at)
          → (laws.after_all r (does at) here t).lock.exclusive ≡ here.lock.exclusive
          → FitsItsLock w (condvar_goes l then_there)
          → KeptBeside at f
      works_beside beside stays same same_taken does_next unowned of_word keeps fits =
          works_at w t m inductive is_there sort_m (condvar_goes l then_there) alike fits
          (Condvar l (notifies at)) f lock (does at) (owned_by r (does at) here t of_word) refl follows.needed
          (follows.role ∙ sym does_next ∙ sym (role_beside l m apart then_there beside)) (unowned
          ∙ sym (ap (with_exclusive (owners_at w m)) keeps)) coded
          (location_beside l m apart then_there beside ∙ same
          ∙ sym (location_beside l m apart (At (notifies at)) refl) ∙ sym (ap (λ q. location_at q m) is))
          (ap (λ q. taken_at q m) is ∙ taken_beside l m apart (At (notifies at)) refl ∙ sym same_taken
          ∙ sym (taken_beside l m apart then_there beside))
        where
          alike : AlikeBeside m (place_at w t) (condvar_goes l then_there)
          alike k ne = subst (λ q. Alike k q (condvar_goes l then_there)) (sym is) (elim (cases_eq k l) [
            | inl e ↦ subst (λ j. Alike j (Condvar l (notifies at)) (condvar_goes l then_there)) (sym e)
                (alike_there l m apart (At (notifies at)) then_there refl beside stays)
            | inr nl ↦ nothing_else l m apart (At (notifies at)) then_there refl beside k nl ne
          ])

    -- whether somebody owns it
    abbrev marked : Bool → ℕ → Next CondvarPlace
    marked b v = At (notifies (if b then notify.Set v else notify.Move false))

    marked_there : (b : Bool) (v : ℕ) → location_by (row_at_condvar (marked b v)) ≡ inside_of Main
    marked_there true v = refl
    marked_there false v = refl

    marked_beside : (b : Bool) (v : ℕ) → location_by (row_at_mutex (marked b v)) ≡ inside_of Main
    marked_beside true v = refl
    marked_beside false v = refl

    marked_taken : (b : Bool) (v : ℕ) → taken_from (row_at_mutex (marked b v)).hand
        (row_at_mutex (marked b v)).wants true ≡ None
    marked_taken true v = refl
    marked_taken false v = refl

    pub marks_it : place_at w t ≡ Condvar l (notifies notify.Mark)
        → FitsItsLock w (goes_to notify.Mark (act.Word m op.Load))
        → KeptBeside notify.Mark op.Load
    marks_it is fits = works_beside notify.Mark is op.Load refl refl (marked_there (is_locked seen) seen)
        (marked_beside (is_locked seen) seen) (marked_taken (is_locked seen) seen) refl refl tt refl fits

    -- the word of the mutex is marked, or not as it was seen
    abbrev set_next : Bool → Next NotifyAt
    set_next b = if b then At (notify.Move true) else At (marks seen)

    set_beside : (b : Bool) → Beside m (in_notify all m (set_next b))
    set_beside true = refl
    set_beside false = refl

    set_stays : (b : Bool) → location_by (row_at_condvar (in_notify all m (set_next b))) ≡ inside_of Main
    set_stays true = refl
    set_stays false = marked_there (is_locked seen) seen

    set_side : (b : Bool) → location_by (row_at_mutex (in_notify all m (set_next b))) ≡ inside_of Main
    set_side true = refl
    set_side false = marked_beside (is_locked seen) seen

    set_taken : (b : Bool)
        → taken_from (row_at_mutex (in_notify all m (set_next b))).hand
        (row_at_mutex (in_notify all m (set_next b))).wants true
        ≡ None
    set_taken true = refl
    set_taken false = marked_taken (is_locked seen) seen

    set_does : (b : Bool) → (row_at_mutex (in_notify all m (set_next b))).role ≡ role_next all m (set_next b)
    set_does true = refl
    set_does false = refl

    set_word : (b : Bool) → IsOfWord (if b then MarkOwned ∷ [] else [])
    set_word true = tt
    set_word false = tt

    set_keeps : (b : Bool) → (laws.after_all r (if b then MarkOwned ∷ [] else []) here t).lock.exclusive
        ≡ here.lock.exclusive
    set_keeps true = refl
    set_keeps false = refl

    pub sets_bit : (x : ℕ) → place_at w t ≡ Condvar l (notifies (notify.Set x))
        → FitsItsLock w (goes_to (notify.Set x) (act.Word m (op.Exchange x 3)))
        → KeptBeside (notify.Set x) (op.Exchange x 3)
    sets_bit x is fits = works_beside (notify.Set x) is (op.Exchange x 3) refl (set_beside (seen == x))
        (set_stays (seen == x)) (set_side (seen == x)) (set_taken (seen == x)) (set_does (seen == x)) refl
        (set_word (seen == x)) (set_keeps (seen == x)) fits

    -- where it has moved some
    pub marks_moved : (number : ℕ) → place_at w t ≡ Condvar l (notifies (notify.MarkMoved number))
        → FitsItsLock w (goes_to (notify.MarkMoved number) (act.Word m (op.Or 2)))
        → KeptBeside (notify.MarkMoved number) (op.Or 2)
    marks_moved number is fits = works_beside (notify.MarkMoved number) is (op.Or 2) refl refl refl
        (rw some refl) refl refl refl tt refl fits
      where
        some : (number == 0) ≡ false
        some = differ number 0 (hears.fits_here w t l (notifies (notify.MarkMoved number)) inductive
            is).reached.1
