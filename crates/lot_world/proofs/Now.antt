-- A lock is kept as if it had never been full, over the deeds of a step.
use Rattle.std.proofs.Common.{ℕ, Bool, true, false, Option, Some, None, if◌then◌else◌, ◌==◌, ◌||◌, ◌≡◌, ◌⊎◌}
use Rattle.std.proofs.Common.{List, [], ◌∷◌, inl, inr, refl, sym, ◌∙◌, ap, subst}
use Rattle.core_base.specs.declared.wants.Want.TheVariants.{Exclusive, Upgradable, Shared}
use Rattle.spec_locks.specs.Onces.{Start, Finish, Fail, Rest, TakeAll}
use Rattle.spec_locks.specs.Locks.{LockState, LockCase, Pending, Rules, Enter, Pend, Settle, Leave, Convert}
use Rattle.spec_locks.specs.Locks.{Park, Aside, TakeFirst, TakeAside, TakePicked, Wake, HandOff, Late}
use Rattle.spec_locks.specs.Locks.{Rollback, OfOnce, OfCondvar, SeeOwner, Look, Show, Hide, after_case}
use Rattle.spec_locks.specs.Locks.{readers, with_owner, without_owner, pending_for, falling_back}
use Rattle.spec_locks.specs.Sites.{Site, IsSite, Deed, Begin, End, In, Out, Mark, Clear, FindNobody}
use Rattle.spec_locks.specs.Sites.{MarkOwned, MarkBrought, Bring, Send, LeaveLine, Case, Main, Second}
use Rattle.spec_locks.specs.Sites.{has_readers, is_full, after_deed}
use Rattle.spec_locks.proofs.Hands.{is_handed}
use Rattle.lot_laws.specs.ThreadDeeds.{Act}
use Rattle.lot_laws.specs.SitesOf.{ActsNeeded, after_acts}
use Rattle.lot_laws.proofs.sites.OneStep.{acts_keep}
use Rattle.lot_world.proofs.AsNow.{another, led, needed_all, with_filled}
use Rattle.lot_world.specs.Now.{AllKeep, HasOneCase, IsOneFollowed, KeepsLock, StepKeepsNow}

-- ---------------------------------------------------------------- the memory of having been full is apart

needed_list : (r : Rules) (ds : List Act) (s : Site) (b : Bool) → ActsNeeded r ds s
    → ActsNeeded r ds (with_filled b s)
needed_list r [] s b n = n
needed_list r (a ∷ ds) s b n = (
  needed_all r a.deed s a.by b n.0,
  subst (ActsNeeded r ds) (sym (led r a.deed s a.by b (after_deed r a.deed (with_filled b s) a.by).filled))
      (needed_list r ds (after_deed r a.deed s a.by) (after_deed r a.deed (with_filled b s) a.by).filled n.1),
)

led_list : (r : Rules) (ds : List Act) (s : Site) (b c : Bool)
    → with_filled c (after_acts r ds (with_filled b s)) ≡ with_filled c (after_acts r ds s)
led_list r [] s b c = refl
led_list r (a ∷ ds) s b c =
    let d = (after_deed r a.deed (with_filled b s) a.by).filled in
    ap (λ x. with_filled c (after_acts r ds x)) (led r a.deed s a.by b d)
    ∙ led_list r ds (after_deed r a.deed s a.by) d c

-- ---------------------------------------------------------------- deeds that leave the lock

record SameLock (r : Rules) (s v : Site) : Type 0 where
  pub filled : v.filled ≡ s.filled
  pub lock : v.lock ≡ s.lock

keeps_one : (r : Rules) (d : Deed) (s : Site) (t : ℕ) → KeepsLock d → SameLock r s (after_deed r d s t)
keeps_one r (Case case) s t k = absurd k
keeps_one r (Mark Main) s t k = record { filled = refl; lock = refl }
keeps_one r (Mark Second) s t k = record { filled = refl; lock = refl }
keeps_one r (Clear Main) s t k = record { filled = refl; lock = refl }
keeps_one r (Clear Second) s t k = record { filled = refl; lock = refl }
keeps_one r Out s t k = absurd k
keeps_one r (Bring taken moved) s t k = absurd k
keeps_one r (Send all) s t k = absurd k
keeps_one r LeaveLine s t k = absurd k
keeps_one r d s t k = record { filled = refl; lock = refl }

keeps_all : (r : Rules) (ds : List Act) (s : Site) → AllKeep ds → SameLock r s (after_acts r ds s)
keeps_all r [] s k = record { filled = refl; lock = refl }
keeps_all r (a ∷ ds) s k =
    let one = keeps_one r a.deed s a.by k.0 in
    let more = keeps_all r ds (after_deed r a.deed s a.by) k.1 in
    record { filled = more.filled ∙ one.filled; lock = more.lock ∙ one.lock }

-- ---------------------------------------------------------------- the one case

-- a case that changes which threads count leaves nobody in an empty queue
abbrev Stays : Rules → LockState → LockState → Type 0
Stays r s v = (v.queue ≡ []) ⊎ (is_full r v ≡ is_full r s)

by_pending : (s v : LockState) (t : ℕ) (p : Option Pending) → v.queue ≡ [] → (falling_back t p v).queue ≡ []
by_pending s v t None e = e
by_pending s v t (Some p) e = either p.falls_back
  where
    either : (b : Bool) → (if b then with_owner t Upgradable v else v).queue ≡ []
    either true = e
    either false = e

case_stays : (r : Rules) (case : LockCase) (s : LockState) (t : ℕ) → s.queue ≡ []
    → Stays r s (after_case r case s t)
case_stays r (Enter Exclusive) s t e = inl e
case_stays r (Enter Upgradable) s t e = inl e
case_stays r (Enter Shared) s t e = inl e
case_stays r (Enter x) s t e = inl e
case_stays r Pend s t e = inl e
case_stays r Settle s t e = inl e
case_stays r (Leave Exclusive) s t e = inl e
case_stays r (Leave Upgradable) s t e = inl e
case_stays r (Leave Shared) s t e = inl e
case_stays r (Leave x) s t e = inl e
case_stays r (Convert Exclusive Exclusive) s t e = inl (queue_of (readers (without_owner t Exclusive s) == 0))
  where
    queue_of : (b : Bool) → (if b then with_owner t Exclusive (without_owner t Exclusive s) else pending_for t
        true (without_owner t Exclusive s)).queue ≡ []
    queue_of true = e
    queue_of false = e
case_stays r (Convert Upgradable Exclusive) s t e =
    inl (queue_of (readers (without_owner t Upgradable s) == 0))
  where
    queue_of : (b : Bool) → (if b then with_owner t Exclusive (without_owner t Upgradable s)
        else pending_for t true (without_owner t Upgradable s)).queue ≡ []
    queue_of true = e
    queue_of false = e
case_stays r (Convert Shared Exclusive) s t e = inl (queue_of (readers (without_owner t Shared s) == 0))
  where
    queue_of : (b : Bool) → (if b then with_owner t Exclusive (without_owner t Shared s) else pending_for t
        true (without_owner t Shared s)).queue ≡ []
    queue_of true = e
    queue_of false = e
case_stays r (Convert x Exclusive) s t e = inl (queue_of (readers s == 0))
  where
    queue_of : (b : Bool) → (if b then with_owner t Exclusive s else pending_for t true s).queue ≡ []
    queue_of true = e
    queue_of false = e
case_stays r (Convert Exclusive Shared) s t e = inl e
case_stays r (Convert Exclusive Upgradable) s t e = inl e
case_stays r (Convert Upgradable Shared) s t e = inl e
case_stays r (Convert Upgradable Upgradable) s t e = inl e
case_stays r (Convert Shared Shared) s t e = inl e
case_stays r (Convert Shared Upgradable) s t e = inl e
case_stays r (Convert x Shared) s t e = inl e
case_stays r (Convert x Upgradable) s t e = inl e
case_stays r (Convert Exclusive y) s t e = inl e
case_stays r (Convert Upgradable y) s t e = inl e
case_stays r (Convert Shared y) s t e = inl e
case_stays r (Convert x y) s t e = inl e
case_stays r (Park x) s t e = inr refl
case_stays r Aside s t e = inr refl
case_stays r (TakeFirst x) s t e = inr refl
case_stays r (TakeAside u) s t e = inr refl
case_stays r (TakePicked start) s t e = inr refl
case_stays r Wake s t e = inr refl
case_stays r (HandOff right successor) s t e = inl ((is_handed t right successor s).queue ∙ e)
case_stays r Late s t e = inr refl
case_stays r Rollback s t e = inl (by_pending s (record s { pending = None }) t s.pending e)
case_stays r (OfOnce (Start forced)) s t e = inl e
case_stays r (OfOnce Finish) s t e = inl e
case_stays r (OfOnce Fail) s t e = inl e
case_stays r (OfOnce (Rest x forced)) s t e = inr refl
case_stays r (OfOnce TakeAll) s t e = inr refl
case_stays r (OfCondvar (Look seen)) s t e = inr refl
case_stays r (OfCondvar (Show m)) s t e = inr refl
case_stays r (OfCondvar Hide) s t e = inr refl
case_stays r (SeeOwner owned) s t e = inr refl

moved_on : (r : Rules) (s u v : LockState) → v ≡ u → Stays r s u → Stays r s v
moved_on r s u v e h = subst (Stays r s) (sym e) h

list_stays : (r : Rules) (ds : List Act) (s : Site) → HasOneCase ds → s.lock.queue ≡ []
    → Stays r s.lock (after_acts r ds s).lock
list_stays r [] s one e = inl e
list_stays r (a ∷ ds) s one e = by_deed (λ v k f. list_stays r ds v k f) a.deed one
  where
    by_deed : ((v : Site) → HasOneCase ds → v.lock.queue ≡ [] → Stays r v.lock (after_acts r ds v).lock)
        → (d : Deed) → IsOneFollowed d (AllKeep ds) (HasOneCase ds)
        → Stays r s.lock (after_acts r ds (after_deed r d s a.by)).lock
    by_deed rec (Case case) keep = moved_on r s.lock (after_case r case s.lock a.by) _
        (keeps_all r ds (after_deed r (Case case) s a.by) keep).lock (case_stays r case s.lock a.by e)
    by_deed rec Out keep = moved_on r s.lock _ _ (keeps_all r ds (after_deed r Out s a.by) keep).lock
        (inr refl)
    by_deed rec (Bring taken moved) keep = absurd keep
    by_deed rec (Send all) keep = absurd keep
    by_deed rec LeaveLine keep = moved_on r s.lock _ _ (keeps_all r ds (after_deed r LeaveLine s a.by)
        keep).lock (inr refl)
    by_deed rec (Mark Main) more = rec (after_deed r (Mark Main) s a.by) more e
    by_deed rec (Mark Second) more = rec (after_deed r (Mark Second) s a.by) more e
    by_deed rec (Clear Main) more = rec (after_deed r (Clear Main) s a.by) more e
    by_deed rec (Clear Second) more = rec (after_deed r (Clear Second) s a.by) more e
    by_deed rec (Begin c) more = rec (after_deed r (Begin c) s a.by) more e
    by_deed rec End more = rec (after_deed r End s a.by) more e
    by_deed rec (In m) more = rec (after_deed r (In m) s a.by) more e
    by_deed rec (FindNobody m) more = rec (after_deed r (FindNobody m) s a.by) more e
    by_deed rec MarkOwned more = rec (after_deed r MarkOwned s a.by) more e
    by_deed rec MarkBrought more = rec (after_deed r MarkBrought s a.by) more e

-- noted in these deeds, it is full after them
list_noted : (r : Rules) (ds : List Act) (s : Site) → HasOneCase ds → s.filled ≡ false
    → is_full r (after_acts r ds s).lock ≡ false → (after_acts r ds s).filled ≡ false
list_noted r [] s one none free = none
list_noted r (a ∷ ds) s one none free = by_deed (λ v k f g. list_noted r ds v k f g) a.deed one free
  where
    by_deed : ((v : Site) → HasOneCase ds → v.filled ≡ false → is_full r (after_acts r ds v).lock ≡ false
        → (after_acts r ds v).filled ≡ false) → (d : Deed) → IsOneFollowed d (AllKeep ds) (HasOneCase ds)
        → is_full r (after_acts r ds (after_deed r d s a.by)).lock ≡ false
        → (after_acts r ds (after_deed r d s a.by)).filled ≡ false
    by_deed rec (Case case) keep f =
        let same = keeps_all r ds (after_deed r (Case case) s a.by) keep in
        same.filled ∙ ap (λ b. b || is_full r (after_case r case s.lock a.by)) none
        ∙ sym (ap (is_full r) same.lock) ∙ f
    by_deed rec Out keep f = (keeps_all r ds (after_deed r Out s a.by) keep).filled ∙ none
    by_deed rec (Bring taken moved) keep f = absurd keep
    by_deed rec (Send all) keep f = absurd keep
    by_deed rec LeaveLine keep f = (keeps_all r ds (after_deed r LeaveLine s a.by) keep).filled ∙ none
    by_deed rec (Mark Main) more f = rec (after_deed r (Mark Main) s a.by) more none f
    by_deed rec (Mark Second) more f = rec (after_deed r (Mark Second) s a.by) more none f
    by_deed rec (Clear Main) more f = rec (after_deed r (Clear Main) s a.by) more none f
    by_deed rec (Clear Second) more f = rec (after_deed r (Clear Second) s a.by) more none f
    by_deed rec (Begin c) more f = rec (after_deed r (Begin c) s a.by) more none f
    by_deed rec End more f = rec (after_deed r End s a.by) more none f
    by_deed rec (In m) more f = rec (after_deed r (In m) s a.by) more none f
    by_deed rec (FindNobody m) more f = rec (after_deed r (FindNobody m) s a.by) more none f
    by_deed rec MarkOwned more f = rec (after_deed r MarkOwned s a.by) more none f
    by_deed rec MarkBrought more f = rec (after_deed r MarkBrought s a.by) more none f

-- ---------------------------------------------------------------- a step

pub step_keeps_now : StepKeepsNow
step_keeps_now r s ds shared one h needed empty =
    subst (IsSite r) (led_list r ds s b now) (another r next now after (λ e. sym same ∙ e) spare)
  where
    b : Bool
    b = is_full r s.lock

    next : Site
    next = after_acts r ds (with_filled b s)

    now : Bool
    now = is_full r (after_acts r ds s).lock

    after : IsSite r next
    after = acts_keep r ds (with_filled b s) h (needed_list r ds s b needed)

    same_lock : next.lock ≡ (after_acts r ds s).lock
    same_lock = ap (λ (x : Site). x.lock) (led_list r ds s b true)

    same : is_full r next.lock ≡ now
    same = ap (is_full r) same_lock

    by_full : (c : Bool) → b ≡ c → now ≡ false → (next.filled ≡ false) ⊎ ((next.lock.queue ≡ [])
        × (has_readers r.sort ≡ true))
    by_full true e f = elim (list_stays r ds s one (empty e)) [
      | inl none ↦ inr (ap (λ (x : LockState). x.queue) same_lock ∙ none, shared)
      | inr full ↦ absurd (let g : ◌≡◌ {A = Bool} true false = sym e ∙ sym full ∙ f in cc)
    ]
    by_full false e f = inl (list_noted r ds (with_filled b s) one e (same ∙ f))

    spare : now ≡ false → (next.filled ≡ false) ⊎ ((next.lock.queue ≡ []) × (has_readers r.sort ≡ true))
    spare f = by_full b refl f
