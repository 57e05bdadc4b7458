-- Each step of a call that may hand the lock over makes of it what its row says, and its answer is true.
use Rattle.std.proofs.Common.{ℕ, Bool, true, false, Option, Some, None, List, [], ◌∷◌, if◌then◌else◌, ◌==◌}
use Rattle.std.proofs.Common.{◌&&◌, ◌≡◌, ◌<◌, inl, inr, refl, sym, ap, subst, ◌∙◌, length}
use Rattle.core_base.specs.declared.keys.Line.TheVariants.{Second}
use Rattle.core_base.specs.declared.ops.Op.{Op}
use Rattle.core_base.specs.declared.wants.Want.{Want}
use Rattle.core_base.specs.declared.wants.Want.TheVariants.{Shared}
use Rattle.spec_locks.specs.declared.calls.Access.{Access}
use Rattle.spec_locks.specs.declared.calls.Access.TheVariants as access
use Rattle.spec_locks.specs.declared.calls.Patience.{Patience}
use Rattle.spec_locks.specs.declared.calls.Patience.TheVariants.{Patient, Timed, Try}
use Rattle.spec_locks.specs.declared.outcomes.Answer.{Answer}
use Rattle.spec_locks.specs.declared.outcomes.Answer.TheVariants.{Ok, ReadersFull}
use Rattle.steps_base.specs.declared.acts.Act.TheVariants as act
use Rattle.steps_base.specs.declared.acts.Next.{Next}
use Rattle.steps_base.specs.declared.acts.Next.TheVariants as next
use Rattle.steps_base.specs.declared.acts.Reply.{Reply}
use Rattle.steps_base.specs.declared.acts.Reply.TheVariants as reply
use Rattle.steps_base.specs.Profiles.{Profile}
use Rattle.steps_base.specs.Calls.{CallFollows, MayCome, ComesTo, call_by, rights_where, event_at, IsNotLate}
use Rattle.spec_locks.specs.Onces.{OnceCase, Start, Finish, Fail, Rest, TakeAll}
use Rattle.spec_locks.specs.Locks.{LockState, Rules, Rights, Leave, TakeAside, Late, Wake, Owns, after_case}
use Rattle.spec_locks.specs.Locks.{rights_of, with_right, without_right, without_owner, standing, OfOnce}
use Rattle.spec_locks.specs.Locks.{CondvarCase, Look, Show, Hide, OfCondvar}
use Rattle.spec_locks.specs.Purposes.{Enters, Bumps, IsMadeOf, CondvarMemory, Blank, Saw, SawOwner, HasMoved}
use Rattle.spec_locks.specs.Purposes.{WasMoved, WasNotified}
use Rattle.spec_locks.specs.Runs.{LocksState, CallState, Event, Nothing, AtLock, Moves, AnswerHolds, gives_up}
use Rattle.spec_locks.specs.Runs.{going_on, EntersAnswer, BumpsAnswer, rights_in, one_more_at, one_less_at}
use Rattle.spec_locks.specs.Sites.{Has, Role, Site, IsSite, Deed, Case, Clear, End}
use Rattle.spec_locks.specs.Deeds.{after_event}
use Rattle.spec_locks.specs.Codes.{code, count_in, has_aside}
use Rattle.spec_locks.proofs.Rights.{unchanged, changed, agree, left, regained}
use Rattle.steps_rwlock.specs.declared.places.Admission.{Admission}
use Rattle.steps_rwlock.specs.declared.places.RwLockPlace.{RwLockPlace}
use Rattle.steps_rwlock.specs.declared.places.RwLockAt.{RwLockAt}
use Rattle.steps_rwlock.specs.declared.places.RwLockAt.TheVariants as at
use Rattle.steps_rwlock.specs.declared.purposes.RwLockPurpose.{RwLockPurpose}
use Rattle.steps_rwlock.specs.declared.purposes.RwLockPurpose.TheVariants as purpose
use Rattle.steps_rwlock.specs.declared.release.WakeAt.{WakeAt}
use Rattle.steps_rwlock.specs.declared.release.WakeAt.TheVariants as waking
use Rattle.steps_rwlock.specs.RwLockSteps.{wanted, entered, rwlock_act, rwlock_next, wake_next, wakes_or_ends}
use Rattle.steps_rwlock.specs.RwLockDeeds.{Admits, MayReply, MayHearWaking, rwlock_role, rwlock_deeds}
use Rattle.steps_rwlock.specs.RwLockDeeds.{does_and_wakes, wake_deeds}
use Rattle.steps_rwlock.specs.RwLockProfiles.{rwlock_profile}
use Rattle.steps_rwlock.specs.RwLockCalls.{MayStand, IsCalling, next_row}
use Rattle.steps_rwlock.proofs.RwLockCalls.{rwlock_steps_tell}
use Rattle.steps_rwlock.proofs.RwLockCallSections.{rwlock_sections_tell}
use Rattle.steps_rwlock.proofs.RwLockStands.{is_at}
use Rattle.steps_rwlock_fair.specs.declared.places.RwLockCallPlace.TheVariants.{Plain, PeekQueue, HandOver}
use Rattle.steps_rwlock_fair.specs.declared.places.RwLockCallPlace.TheVariants.{Bump}
use Rattle.steps_rwlock_fair.specs.declared.places.RwLockCallPlace.TheVariants.{Handed}
use Rattle.steps_rwlock_fair.specs.declared.hand_over.HandOverAt.{HandOverAt}
use Rattle.steps_rwlock_fair.specs.declared.hand_over.HandOverAt.TheVariants as handing
use Rattle.steps_rwlock_fair.specs.declared.handed.HandedAt.{HandedAt}
use Rattle.steps_rwlock_fair.specs.declared.handed.HandedAt.TheVariants as handed
use Rattle.steps_rwlock_fair.specs.FairSteps.{plain_next, bump_next, gives_way, call_act, hand_over_act}
use Rattle.steps_rwlock_fair.specs.FairDeeds.{call_role}
use Rattle.steps_rwlock_fair.specs.FairProfiles.{bumping, call_profile, has_given}
use Rattle.steps_rwlock_fair.specs.FairCalls.{IsOfBump, WaitsWithPatience, MayHearHanded}
use Rattle.steps_rwlock_fair.specs.FairLaws.{next_rows, CallTells, FairStepsTell, FairSectionsTell}
use Rattle.steps_rwlock_fair.proofs.FairSections.{not_given}
use Rattle.steps_rwlock_fair.proofs.FairStands.{StaysFor, stays_for}
use Rattle.steps_rwlock_fair.proofs.FairRights.{goes, one_more_of}
use Rattle.steps_rwlock_fair.proofs.FairTells.{recalls, glance_tells, hand_over_tells}
use Rattle.steps_rwlock_fair.proofs.FairTells.{hand_over_sections_tell, owns_at}

-- ---------------------------------------------------------------- a bump enters again

-- the call of a bump, by that of one that enters
abbrev lifted : ℕ → Want → CallState → CallState
lifted l x c = record c { purpose = Some (Bumps l x); released = true; former = one_more_at l x c.former }

lifts : (l : ℕ) (x : Want) (event : Event) (c : CallState) → lifted l x (going_on event c) ≡ going_on event
    (lifted l x c)
lifts l x Nothing c = refl
lifts l x (AtLock k Late) c = lifts_late c.recalls
  where
    lifts_late : (recalls : CondvarMemory) → lifted l x (gives_up k recalls c)
        ≡ gives_up k recalls (lifted l x c)
    lifts_late Blank = refl
    lifts_late (Saw m) = refl
    lifts_late (SawOwner m owned) = refl
    lifts_late (HasMoved m number) = refl
    lifts_late WasMoved = refl
    lifts_late WasNotified = refl
lifts l x (AtLock k (OfOnce case)) c = lifts_once case
  where
    lifts_once : (case : OnceCase) → lifted l x (going_on (AtLock k (OfOnce case)) c) ≡ going_on
        (AtLock k (OfOnce case)) (lifted l x c)
    lifts_once (Start forced) = refl
    lifts_once Finish = refl
    lifts_once Fail = refl
    lifts_once (Rest wanted forced) = refl
    lifts_once TakeAll = refl
lifts l x (AtLock k (OfCondvar case)) c = lifts_condvar case
  where
    lifts_condvar : (case : CondvarCase) → lifted l x (going_on (AtLock k (OfCondvar case)) c)
        ≡ going_on (AtLock k (OfCondvar case)) (lifted l x c)
    lifts_condvar (Look None) = refl
    lifts_condvar (Look (Some m)) = refl
    lifts_condvar (Show m) = refl
    lifts_condvar Hide = refl
lifts l x (AtLock k case) c = refl
lifts l x (Moves v m all owned number) c = refl

-- A bump's answer is true.
answers : (v : LocksState) (t l : ℕ) (x : Want) (c : CallState) (a : Answer)
    → EntersAnswer v t c l x Patient a → BumpsAnswer v t (lifted l x c) l x a
answers v t l x c Ok h = h
answers v t l x c ReadersFull h = (h.0, one_more_of l x _ _ h.1)
answers v t l x c a h = absurd h

abbrev again_rows : Access → Next Profile → Next Profile
again_rows x (next.At row) = next.At (bumping (purpose.Enter x Patient) row)
again_rows x (next.End answer) = next.End answer

module _ (r : Rules) (s : LockState) (t l : ℕ) (x : Access) (row : Profile) (ds : List Deed)
    (enters : row.purpose l ≡ Enters l (wanted x) Patient) where
  abbrev event : Event
  event = event_at l row ds

  may_again : (e : Event) → MayCome l row e → MayCome l (bumping (purpose.Enter x Patient) row) e
  may_again Nothing may = tt
  may_again (AtLock k case) may = let made =
      subst (λ q. IsMadeOf q (if row.gave_up then Some l else None) row.released row.recalls k case) enters
      may.0 in ((made.0, inr (refl, made.1)), may.1)
  may_again (Moves c m all owned number) may = may

  comes_again : (n : Next Profile) → ComesTo r l row event s (after_event r event s t) t n
      → ComesTo r l (bumping (purpose.Enter x Patient) row) event s (after_event r event s t) t
      (again_rows x n)
  comes_again (next.At row2) comes = λ rights e. ap (lifted l (wanted x)) (comes rights e)
      ∙ lifts l (wanted x) event (call_by l row rights)
  comes_again (next.End a) comes = λ v rights ruled now e has.
      subst (λ c. BumpsAnswer v t c l (wanted x) a) (lifts l (wanted x) event (call_by l row rights))
      (answers v t l (wanted x) (going_on event (call_by l row rights)) a
      (subst (λ q. AnswerHolds (Some q) v t (going_on event (call_by l row rights)) a) enters
      (comes v rights ruled now e has)))

  pub bumps_again : (n : Next Profile) → CallFollows r s t l row ds n
      → CallFollows r s t l (bumping (purpose.Enter x Patient) row) ds (again_rows x n)
  bumps_again n f = record { one = f.one; may = may_again event f.may; comes = comes_again n f.comes }

-- ---------------------------------------------------------------- rows of the next places

module _ (a : Admission) where
  plain_rows : (n : Next RwLockPlace) → next_rows a (plain_next n) ≡ next_row a n
  plain_rows (next.At p) = refl
  plain_rows (next.End answer) = refl

  entering_rows : (x : Access) (n : Next RwLockPlace) → StaysFor (purpose.Enter x Patient) n
      → next_rows a (bump_next (purpose.Enter x Patient) n) ≡ again_rows x (next_row a n)
  entering_rows x (next.At p) e = ap (λ q. next.At (bumping q (rwlock_profile a p))) e
  entering_rows x (next.End answer) e = refl

module _ (r : Rules) (a : Admission) (s : Site) (t l : ℕ) where
  abbrev of : RwLockPurpose → Bool → RwLockAt → RwLockPlace
  of q again to = record { purpose = q; retries = again; at = to }

  -- ---------------------------------------------------------------- a bump releases a shared right

  abbrev leaver : RwLockAt → RwLockPlace
  leaver to = of (purpose.Release access.Shared) false to

  gives_tells : (b : Bool) → Owns s.lock t Shared
      → CallFollows r s.lock t l (call_profile a (Bump (leaver at.GiveWay)))
      (does_and_wakes b (Case (Leave Shared)))
      (next_rows a (bump_next (purpose.Release access.Shared) (wakes_or_ends (leaver at.GiveWay) Second
      b)))
  gives_tells true own = record {
    one = tt;
    may = ((refl, inl (refl, refl)), tt);
    comes = λ rights e. recalls _ _ (goes l t s.lock (without_owner t Shared s.lock) Shared false true rights
        e (left s.lock t Shared own));
  }
  gives_tells false own = record {
    one = tt;
    may = ((refl, inl (refl, refl)), tt);
    comes = λ rights e. recalls _ _ (goes l t s.lock (without_owner t Shared s.lock) Shared false true rights
        e (left s.lock t Shared own));
  }

  wakes_tell : (to : WakeAt) (whom : Option ℕ) (told : Reply) → MayHearWaking r s t None Second to whom told
      → CallFollows r s.lock t l (call_profile a (Bump (leaver (at.Wake Second to))))
      (wake_deeds None Second to whom told)
      (next_rows a (bump_next (purpose.Release access.Shared) (wake_next (leaver (at.Wake Second to))
      Second to told)))
  wakes_tell waking.Enter whom reply.Done hears = record {
    one = tt;
    may = tt;
    comes = λ rights e. recalls _ _ (goes l t s.lock s.lock Shared true true rights e refl);
  }
  wakes_tell waking.Take None (reply.Took any none_left) hears = record {
    one = tt;
    may = tt;
    comes = λ rights e. recalls _ _ (goes l t s.lock s.lock Shared true true rights e refl);
  }
  wakes_tell waking.Take (Some u) (reply.Took any none_left) hears = record {
    one = tt;
    may = ((refl, inl refl), tt);
    comes = λ rights e. recalls _ _ (goes l t s.lock (after_case r (TakeAside u) s.lock t) Shared true true
        rights e refl);
  }
  wakes_tell waking.Take None (reply.Picked n y none_left) hears = record {
    one = tt;
    may = tt;
    comes = λ rights e. recalls _ _ (goes l t s.lock s.lock Shared true true rights e refl);
  }
  wakes_tell waking.Take (Some u) (reply.Picked n y none_left) hears = record {
    one = tt;
    may = ((refl, inl refl), tt);
    comes = λ rights e. recalls _ _ (goes l t s.lock (after_case r (TakeAside u) s.lock t) Shared true true
        rights e refl);
  }
  wakes_tell (waking.Leave true) whom reply.Done hears = record {
    one = tt;
    may = ((refl, inl (inl refl)), tt);
    comes = λ rights e. recalls _ _ (goes l t s.lock (after_case r Wake s.lock t) Shared true true rights e
        refl);
  }
  wakes_tell (waking.Leave false) whom reply.Done hears = record {
    one = tt;
    may = tt;
    comes = λ rights e. recalls _ _ (goes l t s.lock s.lock Shared true true rights e refl);
  }
  wakes_tell to whom told hears = absurd hears

  clears_tell : (any : Bool) → CallFollows r s.lock t l
      (call_profile a (Bump (leaver (at.Wake Second (waking.Clear any))))) (Clear Second ∷ [])
      (next_rows a (next.At (Bump (leaver (at.Wake Second (waking.Leave any))))))
  clears_tell any = record {
    one = tt;
    may = tt;
    comes = λ rights e. recalls _ _ (goes l t s.lock s.lock Shared true true rights e refl);
  }

  -- ---------------------------------------------------------------- a thread that was handed the lock

  -- the thread hadn't before what it has got in this call
  module _ (x : Want) (own : Owns s.lock t x) (v : LocksState) (rights : ℕ → Rights) (here : rights l
      ≡ rights_of s.lock t) (has : (k : ℕ) → rights_in v t k ≡ rights_where l s.lock t rights k) where
    had_before : (k : ℕ) → rights_in v t k ≡ one_more_at l x (one_less_at l x rights) k
    had_before = agree rights l _ _ _ _ has (changed rights l (with_right x) (one_less_at l x rights) _
        (changed rights l (without_right x) rights _ (unchanged rights l (rights_of s.lock t) here)))
        (sym (regained s.lock t x own))

  accepts : (x : Access) (how : Patience) (b : Bool) → Owns s.lock t (wanted x) → WaitsWithPatience b how
      → CallFollows r s.lock t l (call_profile a (Handed x how b handed.Accept)) (End ∷ [])
      (next.End (entered how))
  accepts x Patient true own waits = record {
    one = tt;
    may = tt;
    comes = λ v rights ruled now e has. (
      subst (λ z. Owns z t (wanted x)) (sym now) own,
      had_before (wanted x) own v rights e has,
    );
  }
  accepts x Timed true own waits = absurd (let e : Timed ≡ Patient = waits in cc)
  accepts x Try true own waits = absurd (let e : Try ≡ Patient = waits in cc)
  accepts x Patient false own waits = record {
    one = tt;
    may = tt;
    comes = λ v rights ruled now e has. (
      subst (λ z. Owns z t (wanted x)) (sym now) own,
      had_before (wanted x) own v rights e has,
    );
  }
  accepts x Timed false own waits = record {
    one = tt;
    may = tt;
    comes = λ v rights ruled now e has. (
      subst (λ z. Owns z t (wanted x)) (sym now) own,
      had_before (wanted x) own v rights e has,
    );
  }
  accepts x Try false own waits = absurd waits

  -- ---------------------------------------------------------------- every place

  calling : (p : RwLockPlace) → Admits r a → IsSite r s → s.role t ≡ rwlock_role p → MayStand a p
      → t < length s.lock.shared → IsCalling r a s t p
  calling p admits h is stands there = record {
    at = is_at r a s t p admits h is stands there;
    stands = stands;
  }

  -- a step at a place of another call makes of the bump's what it makes of that
  bump_words : (op : Op) (q : RwLockPurpose) (again : Bool) (to : RwLockAt) → Admits r a → IsSite r s
      → s.role t ≡ rwlock_role (of q again to) → MayStand a (of q again to) → IsOfBump q again
      → t < length s.lock.shared → standing t s.lock ≡ 0
      → rwlock_act l a (of q again to) ≡ act.Word l op → CallTells r a s t l (Bump (of q again to)) None
      (reply.Value (code r s))
  bump_words op (purpose.Enter x Patient) again to admits h is stands bump there nowhere e =
      rw (entering_rows a x _ (stays_for a (of (purpose.Enter x Patient) again to) (reply.Value (code r s))))
      (bumps_again r s.lock t l x (rwlock_profile a (of (purpose.Enter x Patient) again to)) _ refl _
      (rwlock_steps_tell r a s t l (of (purpose.Enter x Patient) again to) op
      (calling (of (purpose.Enter x Patient) again to) admits h is stands there) nowhere e))
  bump_words op (purpose.Release access.Shared) false at.GiveWay admits h is stands bump there nowhere e =
      gives_tells (has_aside (code r s) && (count_in (code r s) == 1)) (h.held t (Has Shared)
      (ap (λ (d : Role). d.claims) is))
  bump_words op (purpose.Release access.Shared) false (at.Wake Second (waking.Clear any)) admits h is stands
      bump there nowhere e = clears_tell any
  bump_words op (purpose.Release access.Shared) false (at.Wake Second to) admits h is stands bump there
      nowhere e = absurd cc
  bump_words op (purpose.Release access.Shared) false to admits h is stands bump there nowhere e =
      absurd stands.place
  bump_words op (purpose.Release access.Shared) true to admits h is stands bump there nowhere e =
      absurd (let f : true ≡ false = bump in cc)
  bump_words op q again to admits h is stands bump there nowhere e = absurd bump

  bump_sections : (q : RwLockPurpose) (again : Bool) (to : RwLockAt) (whom : Option ℕ) (told : Reply)
      → Admits r a → IsSite r s → s.role t ≡ rwlock_role (of q again to) → MayStand a (of q again to)
      → IsOfBump q again → t < length s.lock.shared
      → MayReply r a s t (of q again to) to whom told → IsNotLate told
      → CallFollows r s.lock t l (call_profile a (Bump (of q again to))) (rwlock_deeds a (of q again to) whom
      told) (next_rows a (bump_next q (rwlock_next a (of q again to) told)))
  bump_sections (purpose.Enter x Patient) again to whom told admits h is stands bump there hears now =
      rw (entering_rows a x _ (stays_for a (of (purpose.Enter x Patient) again to) told))
      (bumps_again r s.lock t l x (rwlock_profile a (of (purpose.Enter x Patient) again to)) _ refl _
      (rwlock_sections_tell r a s t l (of (purpose.Enter x Patient) again to) whom told
      (calling (of (purpose.Enter x Patient) again to) admits h is stands there) hears now))
  bump_sections (purpose.Release access.Shared) false (at.Wake Second to) whom told admits h is stands bump
      there hears now = wakes_tell to whom told hears
  bump_sections (purpose.Release access.Shared) false at.GiveWay whom told admits h is stands bump there hears
      now = absurd hears
  bump_sections (purpose.Release access.Shared) false to whom told admits h is stands bump there hears now =
      absurd stands.place
  bump_sections (purpose.Release access.Shared) true to whom told admits h is stands bump there hears now =
      absurd (let f : true ≡ false = bump in cc)
  bump_sections q again to whom told admits h is stands bump there hears now = absurd bump

  handed_words : (op : Op) (x : Access) (how : Patience) (b : Bool) (to : HandedAt) → IsSite r s
      → s.role t ≡ call_role (Handed x how b to) → WaitsWithPatience b how → call_act l a (Handed x how b to)
      ≡ act.Word l op → CallTells r a s t l (Handed x how b to) None (reply.Value (code r s))
  handed_words op x how b handed.Accept h is waits e =
      accepts x how b (h.held t (Has (wanted x)) (ap (λ (d : Role). d.claims) is)) waits
  handed_words op x how b (handed.Asleep by alone) h is waits e = absurd cc

  handed_sections : (x : Access) (how : Patience) (b : Bool) (to : HandedAt) (told : Reply) → IsSite r s
      → s.role t ≡ call_role (Handed x how b to) → WaitsWithPatience b how → MayHearHanded x to told
      → CallTells r a s t l (Handed x how b to) None told
  handed_sections access.Shared how b handed.Accept reply.Done h is waits hears =
      accepts access.Shared how b (h.held t (Has (wanted access.Shared)) (ap (λ (d : Role). d.claims) is))
      waits
  handed_sections access.Upgradable how b handed.Accept reply.Done h is waits hears =
      accepts access.Upgradable how b (h.held t (Has (wanted access.Upgradable))
      (ap (λ (d : Role). d.claims) is)) waits
  handed_sections access.Exclusive how b to told h is waits hears = absurd hears
  handed_sections x how b to told h is waits hears = absurd hears

  given_at : (op : Op) (x : Access) (b : Bool) (to : HandOverAt) → hand_over_act l a x to ≡ act.Word l op
      → has_given to ≡ false
  given_at op x b handing.Load e = refl
  given_at op x b (handing.Free seen) e = refl
  given_at op x b handing.Enter e = refl
  given_at op x b handing.Take e = refl
  given_at op x b (handing.Store k) e = refl
  given_at op x b (handing.Look k) e = refl
  given_at op x b (handing.Exchange k seen) e = refl
  given_at op x b (handing.Leave any handed) e = absurd cc

pub fair_steps_tell : FairStepsTell
fair_steps_tell r a s t l (Plain p) op call nowhere e =
    rw (plain_rows a (rwlock_next a p (reply.Value (code r s)))) (rwlock_steps_tell r a s t l p op
    (calling r a s t l p call.admits call.site call.role call.stands call.there) nowhere e)
fair_steps_tell r a s t l (Bump p) op call nowhere e = bump_words r a s t l op p.purpose p.retries p.at
    call.admits call.site call.role call.stands.0 call.stands.1 call.there nowhere e
fair_steps_tell r a s t l (PeekQueue x) op call nowhere e =
    glance_tells r a s t l x (call.site.held t (Has (wanted x)) (ap (λ (d : Role). d.claims) call.role))
    (gives_way a x (code r s))
fair_steps_tell r a s t l (HandOver x b to) op call nowhere e = hand_over_tells r a s t l op x b to
    call.stands (owns_at r a s t l x b to call.site call.role (given_at r a s t l op x b to e)) e
fair_steps_tell r a s t l (Handed x how b to) op call nowhere e = handed_words r a s t l op x how b to
    call.site call.role call.stands e

pub fair_sections_tell : FairSectionsTell
fair_sections_tell r a s t l (Plain p) whom told call hears now =
    rw (not_given r a s t false p whom told hears) (rw (plain_rows a (rwlock_next a p told))
    (rwlock_sections_tell r a s t l p whom told (calling r a s t l p call.admits call.site call.role
    call.stands call.there) hears now))
fair_sections_tell r a s t l (Bump p) whom told call hears now = rw (not_given r a s t true p whom told hears)
    (bump_sections r a s t l p.purpose p.retries p.at whom told call.admits call.site call.role call.stands.0
    call.stands.1 call.there hears now)
fair_sections_tell r a s t l (PeekQueue x) whom told call hears now = absurd hears
fair_sections_tell r a s t l (HandOver x b to) whom told call hears now = hand_over_sections_tell r a s t l x
    b to whom told call.stands hears
fair_sections_tell r a s t l (Handed x how b to) whom told call hears now =
    handed_sections r a s t l x how b to told call.site call.role call.stands hears
