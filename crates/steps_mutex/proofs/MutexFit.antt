-- Each step of a mutex may do to it what its deeds say, and leaves its word and its owner.
use Rattle.std.proofs.Common.{ℕ, Bool, true, false, Option, Some, None, if◌then◌else◌, ◌==◌, ◌≡◌, ◌⊎◌, inl}
use Rattle.std.proofs.Common.{inr, List, [], ◌∷◌, refl, sym, ap, ◌∙◌, subst}
use Rattle.std.specs.Prelude.{not, drop, is_none, ◌&&◌}
use Rattle.core_base.specs.declared.wants.Want.TheVariants.{Exclusive}
use Rattle.spec_locks.specs.declared.outcomes.Answer.TheVariants as answer
use Rattle.steps_base.specs.declared.acts.Next.{Next}
use Rattle.steps_base.specs.declared.acts.Next.TheVariants.{At, End as Over}
use Rattle.steps_base.specs.declared.acts.Reply.{Reply}
use Rattle.steps_base.specs.declared.acts.Reply.TheVariants.{Done, Value, Parked, Took, Removed, Late}
use Rattle.steps_base.specs.Moves.{StandsAlone}
use Rattle.spec_locks.specs.Deeds.{AllNeeded, after_all}
use Rattle.spec_locks.specs.Locks.{Enter, HandOff as HandsOff, HasTakenNobody, IsSuccessor, Late as GivesUp}
use Rattle.spec_locks.specs.Locks.{Leave, Mutex, Rules, standing}
use Rattle.spec_locks.specs.Sites.{Case, Clear, Deed, Role, End, Has, IsSite, Main, Mark, Out, Second, Site}
use Rattle.spec_locks.specs.Sites.{after_deed, found, idle, is_empty, seen_main}
use Rattle.steps_mutex.specs.declared.lock.Entry.{Entry}
use Rattle.steps_mutex.specs.declared.lock.LockAt.{LockAt}
use Rattle.steps_mutex.specs.declared.lock.LockAt.TheVariants as lock
use Rattle.steps_mutex.specs.declared.places.MutexPlace.{MutexPlace}
use Rattle.steps_mutex.specs.declared.places.MutexPlace.TheVariants.{Lock, TryLock, Unlock, UnlockFair, Bump}
use Rattle.steps_mutex.specs.declared.places.MutexPlace.TheVariants.{HandOff}
use Rattle.steps_mutex.specs.declared.unlock.UnlockAt.{UnlockAt}
use Rattle.steps_mutex.specs.declared.unlock.UnlockAt.TheVariants as unlock
use Rattle.steps_mutex.specs.declared.hand_off.HandOffAt.{HandOffAt}
use Rattle.steps_mutex.specs.declared.hand_off.HandOffAt.TheVariants as hand_off
use Rattle.steps_mutex.specs.MutexDeeds.{enter_deeds, handing_deeds, mutex_deeds, queued, take_deeds}
use Rattle.steps_mutex.specs.MutexLaws.{Follows, MayReply, MayHearHandingOff, MayHearLocking}
use Rattle.steps_mutex.specs.MutexLaws.{MayHearUnlocking}
use Rattle.steps_mutex.specs.MutexLaws.{MutexStepsFollow, TakesFirst, role_next, heir, mutex_role}
use Rattle.steps_mutex.specs.MutexProfiles.{with_retry, carrying, inside, owner, seen_empty}
use Rattle.steps_mutex.specs.MutexSteps.{entered, in_hand_off, in_lock, in_unlock, is_locked, is_parked}
use Rattle.steps_mutex.specs.MutexSteps.{looked, mutex_next}
use Rattle.steps_base.proofs.Deeds.{clears, ends, gives_up, goes_in, goes_out, nobody_first, put_same}
use Rattle.steps_mutex.proofs.MutexWords.{first_is, one, parked_is, three}
use Rattle.steps_mutex.proofs.MutexWords.{unlocked_free, word_of, zero_free}

module _ (limit : ℕ) (s : Site) (t : ℕ) (h : IsSite (record { sort = Mutex; limit = limit }) s) where
  abbrev r : Rules
  r = record { sort = Mutex; limit = limit }

  -- deeds may be done, and the thread stands so after them
  abbrev Does : List Deed → Next MutexPlace → Type 0
  Does ds n = AllNeeded r ds s t × ((after_all r ds s t).role t ≡ role_next n)

  follows : (p : MutexPlace) (whom : Option ℕ) (told : Reply) → Does (mutex_deeds p whom told)
      (mutex_next p told) → Follows r s t p whom told
  follows p whom told d = record { needed = d.0; role = d.1 }

  owns : s.role t ≡ owner → s.lock.exclusive ≡ Some t
  owns is = h.held t (Has Exclusive) (ap (λ (d : Role). d.claims) is)

  -- ---------------------------------------------------------------- calls that enter

  wants_it : (b : Bool) → ((if b then Some Exclusive else None) ≡ None)
      ⊎ ((if b then Some Exclusive else None) ≡ Some Exclusive)
  wants_it true = inr refl
  wants_it false = inl refl

  -- the thread enters, and its call ends
  comes_in : (retries : Bool) (a : _) → s.role t ≡ with_retry retries idle → s.lock.exclusive ≡ None
      → Does enter_deeds (Over a)
  comes_in retries a is free =
      let own : (after_deed r (Case (Enter Exclusive)) s t).role t ≡ record (s.role t) {
        retries = None;
        claims = None;
      } = put_same s.role t _ in (
        (
          (
            (((tt, free), tt), h.state.unshared (λ x. x)),
            subst (λ w. (w ≡ None) ⊎ (w ≡ Some Exclusive))
                (sym (ap (λ (d : Role). d.retries) is)) (wants_it retries),
          ),
          ends r (after_deed r (Case (Enter Exclusive)) s t) t refl None
              (own ∙ ap (λ (d : Role). record d { retries = None; claims = None }) is),
        ),
        put_same (after_deed r (Case (Enter Exclusive)) s t).role t idle,
      )

  module _ (e : Entry) (retries : Bool) where
    tries : s.role t ≡ with_retry retries idle → (b : Bool) → (b ≡ true → s.lock.exclusive ≡ None)
        → Does (if b then enter_deeds else []) (in_lock e retries (if b then Over (entered e)
        else At lock.Load))
    tries is true free = comes_in retries (entered e) is (free refl)
    tries is false free = (tt, is)

    -- an exchange, and whether it saw the mutex locked
    decides : s.role t ≡ with_retry retries idle → (v : ℕ) (same locked : Bool)
        → (locked ≡ false → s.lock.exclusive ≡ None)
        → Does (if not same then [] else if locked then Mark Main ∷ [] else enter_deeds)
        (in_lock e retries (if not same then At (lock.Decide v) else if locked then At (lock.Decide 3)
        else Over (entered e)))
    decides is v false locked free = (tt, is)
    decides is v true true free = ((tt, tt), is)
    decides is v true false free = comes_in retries (entered e) is (free refl)

    parks : s.role t ≡ with_retry retries inside → (b : Bool) → b ≡ (word_of s.parked s.lock.exclusive == 3)
        → standing t s.lock ≡ 0
        → Follows r s t (Lock e retries lock.Check) None (Parked b)
    parks is true f out = let w = three s.parked s.lock.exclusive (sym f) in record {
      needed = ((
        (
          ((tt, w.0), out),
          (
            ap (λ (d : Role). d.inside) is,
            w.1,
            ap (λ (d : Role). d.wakes) is,
            ap (λ (d : Role). d.owes_taken) is,
          ),
        ),
        tt,
      ));
      role = put_same s.role t _ ∙ ap (λ (d : Role). record d {
        retries = None;
        empty = None;
      }) is ∙ unparked retries;
    }
      where
        unparked : (b : Bool) → inside ≡ mutex_role (Lock e (b && false) (lock.Leave true))
        unparked true = refl
        unparked false = refl
    parks is false f out = record { needed = tt; role = is ∙ still retries }
      where
        still : (b : Bool) → with_retry b inside ≡ mutex_role (Lock e (b && true) (lock.Leave false))
        still true = refl
        still false = refl

    late : s.role t ≡ inside → (b : Bool) → StandsAlone s t Main b → Does (Case GivesUp ∷ [])
        (in_lock e retries (if b then At lock.Clear else At lock.GiveUp))
    late is b f =
        let d = gives_up r s t h (h.state.unpending (λ x. x)).0 is b f.0 f.1 in (d.0, d.1 ∙ left b)
      where
        left : (c : Bool) → record inside { empty = found Main c } ≡ role_next
            (in_lock e retries (if c then At lock.Clear else At lock.GiveUp))
        left true = refl
        left false = refl

    leaves_section : (parked : Bool) → s.role t ≡ with_retry (if parked then false else retries) inside
        → s.lock.taken t ≡ None
        → Does (Out ∷ []) (in_lock e retries (if parked then At lock.Asleep else At lock.Load))
    leaves_section true is free = let d = goes_out r s t inside is refl refl refl free in (d.0, d.1)
    leaves_section false is free = let d = goes_out r s t (with_retry retries inside) is refl refl refl free
        in (d.0, d.1)

    locks : (at : LockAt) (whom : Option ℕ) (told : Reply) → s.role t ≡ mutex_role (Lock e retries at)
        → MayHearLocking r s t e at told
        → Follows r s t (Lock e retries at) whom told
    locks lock.First whom (Value seen) is f =
        follows _ whom (Value seen) (tries is (seen == 0) (λ z. zero_free s.parked s.lock.exclusive
        (ap (λ n. n == 0) (sym f) ∙ z)))
    locks lock.Load whom (Value seen) is f = record { needed = tt; role = is }
    locks (lock.Decide expected) whom (Value seen) is f =
        follows _ whom (Value seen) (decides is seen (seen == expected) (is_locked seen)
        (λ z. unlocked_free s.parked s.lock.exclusive (ap is_locked (sym f) ∙ z)))
    locks (lock.Decide expected) whom Done is f =
        follows _ whom Done (goes_in r s t (with_retry retries idle) is refl refl f)
    locks lock.Check whom (Parked true) is f = let d = parks is true f.0 f.1 in record {
      needed = d.needed;
      role = d.role;
    }
    locks lock.Check whom (Parked false) is f = let d = parks is false f.0 f.1 in record {
      needed = d.needed;
      role = d.role;
    }
    locks (lock.Leave parked) whom Done is f = follows _ whom Done (leaves_section parked is f)
    locks lock.Asleep whom Late is f = follows _ whom Late (goes_in r s t idle is refl refl f.1)
    locks lock.Accept whom Done is f = record {
      needed = ends r s t refl (Some (Has Exclusive)) is;
      role = put_same s.role t idle;
    }
    locks lock.Remove whom (Removed none_left) is f = follows _ whom (Removed none_left)
        (late is none_left f.1)
    locks lock.Clear whom (Value seen) is f =
        follows _ whom (Value seen) (clears r s t (record inside { empty = Some Main }) is refl)
    locks lock.GiveUp whom Done is f = follows _ whom Done (goes_out r s t inside is refl refl refl f.1)
    locks at whom told is f = absurd f

  -- ---------------------------------------------------------------- calls that release

  -- the thread's right is given up, by the bit that it saw
  left_mutex : s.role t ≡ owner → (b : Bool) → s.parked ≡ b → (after_deed r (Case (Leave Exclusive)) s t).role
      t ≡ record idle { wakes = seen_main b }
  left_mutex is b e = put_same s.role t _ ∙ (λ i. record (is i) {
    wakes = if (is i).owes_taken then (is i).wakes else seen_main (e i);
    claims = None;
  })

  subtracts : s.role t ≡ owner → (b : Bool) → s.parked ≡ b
      → Does (Case (Leave Exclusive) ∷ (if b then [] else End ∷ []))
      (in_unlock (if b then At unlock.Enter else Over answer.Ok))
  subtracts is true e = (((owns is, ap (λ (d : Role). d.wakes) is), tt), left_mutex is true e)
  subtracts is false e = let d = left_mutex is false e in (
    (
      (owns is, ap (λ (d : Role). d.wakes) is),
      ends r (after_deed r (Case (Leave Exclusive)) s t) t refl None d,
    ),
    put_same (after_deed r (Case (Leave Exclusive)) s t).role t idle,
  )

  -- the thread takes the first waiter, if there is one
  takes_first : (d : Role) → s.role t ≡ d → d.inside ≡ Some Main → d.has_taken ≡ false
      → ((d.wakes ≡ None) ⊎ (d.wakes ≡ Some Main)) → (whom : Option ℕ) (any none_left : Bool)
      → TakesFirst s whom any none_left → HasTakenNobody s.lock t
      → AllNeeded r (take_deeds whom) s t × ((after_all r (take_deeds whom) s t).role t ≡ record d {
        wakes = None;
        has_taken = true;
        owes_taken = true;
        empty = found Main none_left;
      })
  takes_first d is i c w None any none_left f nobody =
      let e : s.lock.queue ≡ [] = nobody_first s.lock.queue (sym f.first) in
      let left : none_left ≡ true = f.left ∙ ap (λ q. is_empty (drop 1 q)) e in (
        (
          (
            ap (λ (d : Role). d.inside) is ∙ i,
            ap (λ (d : Role). d.has_taken) is ∙ c,
            e,
            subst (λ x. (x ≡ None) ⊎ (x ≡ Some Main)) (sym (ap (λ (d : Role). d.wakes) is)) w,
          ),
          tt,
        ),
        put_same s.role t _ ∙ ap (λ (d : Role). record d {
          wakes = None;
          has_taken = true;
          owes_taken = true;
          empty = Some Main;
        }) is
            ∙ ap (λ b. record d {
              wakes = None;
              has_taken = true;
              owes_taken = true;
              empty = found Main b;
            }) (sym left),
      )
  takes_first d is i c w (Some u) any none_left f nobody =
      let e = first_is s.lock.queue u h.state.known_queue (sym f.first) in (
        (
          (
            ((drop 1 s.lock.queue, e), nobody, tt),
            (
              ap (λ (d : Role). d.inside) is ∙ i,
              ap (λ (d : Role). d.has_taken) is ∙ c,
              λ second. not_second d.wakes w
                  (sym (ap (λ (d : Role). d.wakes) is) ∙ second),
            ),
          ),
          tt,
        ),
        put_same s.role t _ ∙ (λ i. record (is i) {
          wakes = None;
          has_taken = true;
          owes_taken = true;
          empty = found Main (sym f.left i);
        }),
      )
    where
      not_second : (x : Option _) → ((x ≡ None) ⊎ (x ≡ Some Main)) → x ≡ Some Second → ⊥
      not_second x (inl a) b = let g : None ≡ Some Second = sym a ∙ b in cc
      not_second x (inr a) b = let g : Some Main ≡ Some Second = sym a ∙ b in cc

  unlocks : (at : UnlockAt) (whom : Option ℕ) (told : Reply) → s.role t ≡ mutex_role (Unlock at)
      → MayHearUnlocking r s t at whom told → Follows r s t (Unlock at) whom told
  unlocks unlock.Subtract whom (Value seen) is f = follows _ whom (Value seen)
      (subtracts is (is_parked seen) (sym (ap is_parked f ∙ parked_is s.parked s.lock.exclusive)))
  unlocks unlock.Enter whom Done is f =
      follows _ whom Done (goes_in r s t (record idle { wakes = Some Main }) is refl refl f)
  unlocks unlock.Take whom (Took any none_left) is f =
      let d = takes_first (record inside { wakes = Some Main }) is refl refl (inr refl) whom any none_left f.0
      f.1 in follows _ whom (Took any none_left) (d.0, d.1 ∙ took none_left)
    where
      took : (b : Bool) → record carrying { empty = found Main b } ≡ role_next
          (in_unlock (if b then At (unlock.Clear any) else At (unlock.Leave any)))
      took true = refl
      took false = refl
  unlocks (unlock.Clear any) whom (Value seen) is f = follows _ whom (Value seen)
      (clears r s t (record carrying { empty = Some Main }) is refl)
  unlocks (unlock.Leave any) whom Done is f = follows _ whom Done (goes_out r s t carrying is refl refl refl
      f)
  unlocks at whom told is f = absurd f

  -- ---------------------------------------------------------------- hand-offs

  -- the word that it sees leads it to hand the mutex over, or its call ends
  unlocks_fairly : s.role t ≡ owner → (b : Bool) → (b ≡ true → s.parked ≡ false)
      → Does (if b then Case (Leave Exclusive) ∷ End ∷ [] else []) (looked false (not b))
  unlocks_fairly is true e = subtracts is false (e refl)
  unlocks_fairly is false e = (tt, is)

  bumps : s.role t ≡ owner → (b : Bool) → Does (if b then [] else End ∷ []) (looked true b)
  bumps is true = (tt, is)
  bumps is false = (ends r s t refl (Some (Has Exclusive)) is, put_same s.role t idle)

  -- the thread hands the mutex to the heir, and the store writes the bit anew
  module _ (bumping any : Bool) where
    abbrev storing : Bool → Role
    storing none_left = record carrying {
      claims = Some (Has Exclusive);
      empty = found Main (seen_empty any none_left);
    }

    gives : (whom : Option ℕ) (none_left : Bool) → s.role t ≡ storing none_left
        → IsSuccessor s.lock t (heir whom) → AllNeeded r (Case (HandsOff Exclusive (heir whom)) ∷ []) s t
    gives whom none_left is to = (
      (
        (
          h.held t (Has Exclusive) (ap (λ (d : Role). d.claims) is),
          (λ e. cc),
          to,
          tt,
        ),
        (
          ap (λ (d : Role). d.inside) is,
          ap (λ (d : Role). d.owes_taken) is,
          ap (λ (d : Role). d.retries) is,
          ap (λ (d : Role). d.wakes) is,
        ),
      ),
      tt,
    )

    given : (whom : Option ℕ) (none_left : Bool) → s.role t ≡ storing none_left
        → (after_deed r (Case (HandsOff Exclusive (heir whom))) s t).role t ≡ record inside {
          has_taken = true;
          empty = found Main (seen_empty any none_left);
        }
    given whom none_left is = put_same s.role t _ ∙ ap (λ (d : Role). record d {
      owes_taken = false;
      claims = None;
      will_bring = false;
      bit_pending = false;
    }) is

    stores : (whom : Option ℕ) (none_left : Bool) → s.role t ≡ storing none_left → any ≡ not (is_none whom)
        → IsSuccessor s.lock t (heir whom)
        → Does (handing_deeds whom none_left) (At (HandOff bumping (hand_off.Leave any)))
    stores None none_left is some to =
        let d = given None none_left is ∙ ap (λ b. record inside {
          has_taken = true;
          empty = found Main (seen_empty b none_left);
        }) some in (
          ((gives None none_left is to).0, (ap (λ (d : Role). d.empty) d, tt)),
          put_same (after_deed r (Case (HandsOff Exclusive None)) s t).role t _ ∙ ap (λ (d : Role). record d {
            empty = None;
            will_bring = false;
          }) d,
        )
    stores (Some u) true is some to =
        let d = given (Some u) true is ∙ ap (λ b. record inside {
          has_taken = true;
          empty = found Main (seen_empty b true);
        }) some in (
          ((gives (Some u) true is to).0, (ap (λ (d : Role). d.empty) d, tt)),
          put_same (after_deed r (Case (HandsOff Exclusive (Some (queued u)))) s t).role t _
              ∙ ap (λ (d : Role). record d {
                empty = None;
                will_bring = false;
              }) d,
        )
    stores (Some u) false is some to = (
      ((gives (Some u) false is to).0, (tt, tt)),
      given (Some u) false is ∙ ap (λ b. record inside {
        has_taken = true;
        empty = found Main (seen_empty b false);
      }) some,
    )

  left_section : (bumping : Bool) → idle ≡ role_next (in_hand_off bumping (Over answer.Ok))
  left_section true = refl
  left_section false = refl

  hands_off : (bumping : Bool) (at : HandOffAt) (whom : Option ℕ) (told : Reply)
      → s.role t ≡ mutex_role (HandOff bumping at) → MayHearHandingOff r s t at whom told
      → Follows r s t (HandOff bumping at) whom told
  hands_off bumping hand_off.Enter whom Done is f = follows _ whom Done (goes_in r s t owner is refl refl f)
  hands_off bumping hand_off.Take whom (Took any none_left) is f =
      let d = takes_first (record owner { inside = Some Main }) is refl refl (inl refl) whom any none_left f.0
      f.1 in
      follows _ whom (Took any none_left) (
        d.0,
        d.1 ∙ ap (λ b. record carrying {
          claims = Some (Has Exclusive);
          empty = found Main b;
        }) (seen whom any f.0),
      )
    where
      seen : (o : Option ℕ) (b : Bool) → TakesFirst s o b none_left → none_left ≡ seen_empty b none_left
      seen None b f = let e : s.lock.queue ≡ [] = nobody_first s.lock.queue (sym f.first) in f.left
          ∙ ap (λ q. is_empty (drop 1 q)) e ∙ sym (ap (λ c. seen_empty c none_left) f.some)
      seen (Some u) b f = sym (ap (λ c. seen_empty c none_left) f.some)
  hands_off bumping (hand_off.Store any none_left) whom (Value seen) is f =
      follows _ whom (Value seen) (stores bumping any whom none_left is f.1 f.2)
  hands_off bumping (hand_off.Leave any) whom Done is f =
      let d = goes_out r s t (record inside { has_taken = true }) is refl refl refl f in
      follows _ whom Done (d.0, d.1 ∙ left_section bumping)
  hands_off bumping at whom told is f = absurd f

  -- ---------------------------------------------------------------- each place

  tries_once : s.role t ≡ idle → (b : Bool) → (b ≡ false → s.lock.exclusive ≡ None)
      → Does (if b then End ∷ [] else enter_deeds) (if b then Over answer.No else Over answer.Yes)
  tries_once is true free = (ends r s t refl None is, put_same s.role t idle)
  tries_once is false free = comes_in false answer.Yes is (free refl)

  each_follows : (p : MutexPlace) (whom : Option ℕ) (told : Reply) → s.role t ≡ mutex_role p
      → MayReply r s t p whom told → Follows r s t p whom told
  each_follows (Lock e retries at) whom told is f = locks e retries at whom told is f
  each_follows TryLock whom (Value seen) is f = follows _ whom (Value seen)
      (tries_once is (is_locked seen) (λ z. unlocked_free s.parked s.lock.exclusive (ap is_locked (sym f)
      ∙ z)))
  each_follows (Unlock at) whom told is f = unlocks at whom told is f
  each_follows UnlockFair whom (Value seen) is f = follows _ whom (Value seen)
      (unlocks_fairly is (seen == 1) (λ z. one s.parked s.lock.exclusive (ap (λ n. n == 1) (sym f) ∙ z)))
  each_follows Bump whom (Value seen) is f = follows _ whom (Value seen) (bumps is (is_parked seen))
  each_follows (HandOff bumping at) whom told is f = hands_off bumping at whom told is f
  each_follows p whom told is f = absurd f

pub mutex_steps_follow : MutexStepsFollow
mutex_steps_follow r s t p whom told a f =
    subst (λ x. IsSite x s → MayReply x s t p whom told → Follows x s t p whom told)
    (λ i. record {
      sort = sym a.sort i;
      limit = r.limit;
    }) (λ h f. each_follows r.limit s t h p whom told a.role f) a.site f
