-- Each step of a semaphore may do to it what its deeds say.
use Rattle.std.proofs.Common.{ℕ, Bool, true, false, Option, Some, None, if◌then◌else◌, ◌==◌, ◌≡◌, ◌⊎◌, ◌≤◌}
use Rattle.std.proofs.Common.{inl, inr, List, [], ◌∷◌, refl, sym, ap, ◌∙◌, subst, arith}
use Rattle.std.specs.Prelude.{not, drop, ◌&&◌}
use Rattle.core_base.specs.declared.wants.Want.TheVariants.{Shared}
use Rattle.spec_locks.specs.declared.outcomes.Answer.TheVariants as answer
use Rattle.steps_base.specs.declared.acts.Next.{Next}
use Rattle.steps_base.specs.declared.acts.Next.TheVariants.{At, End as Over}
use Rattle.steps_base.specs.declared.acts.Reply.{Reply}
use Rattle.steps_base.specs.declared.acts.Reply.TheVariants.{Done, Value, Parked, Took, Removed, Late}
use Rattle.steps_base.specs.Moves.{StandsAlone}
use Rattle.spec_locks.specs.Codes.{has_parked}
use Rattle.spec_locks.specs.Deeds.{AllNeeded, after_all}
use Rattle.spec_locks.specs.Locks.{Enter, HasTakenNobody, Late as GivesUp, Leave, Owns, Rules, Semaphore}
use Rattle.spec_locks.specs.Locks.{one_if_some, standing}
use Rattle.spec_locks.specs.Sites.{Case, Clear, Deed, Role, End, Has, IsSite, Main, Mark, Out, Second, Site}
use Rattle.spec_locks.specs.Sites.{after_deed, found, idle, is_empty, seen_main, shares_less}
use Rattle.steps_semaphore.specs.declared.acquire.AcquireAt.{AcquireAt}
use Rattle.steps_semaphore.specs.declared.acquire.AcquireAt.TheVariants as acquire
use Rattle.steps_semaphore.specs.declared.tries.TryAt.{TryAt}
use Rattle.steps_semaphore.specs.declared.tries.TryAt.TheVariants as tries
use Rattle.steps_semaphore.specs.declared.release.ReleaseAt.{ReleaseAt}
use Rattle.steps_semaphore.specs.declared.release.ReleaseAt.TheVariants as release
use Rattle.steps_semaphore.specs.declared.places.SemaphorePlace.{SemaphorePlace}
use Rattle.steps_semaphore.specs.declared.places.SemaphorePlace.TheVariants.{Acquire, Try, Release}
use Rattle.steps_semaphore.specs.SemaphoreDeeds.{enter_deeds, semaphore_deeds, take_deeds}
use Rattle.steps_semaphore.specs.SemaphoreLaws.{Follows, MayReply, MayHearAcquiring, MayHearReleasing}
use Rattle.steps_semaphore.specs.SemaphoreLaws.{MayHearTrying, SemaphoreStepsFollow, TakesFirst, role_next}
use Rattle.steps_semaphore.specs.SemaphoreLaws.{semaphore_role}
use Rattle.steps_semaphore.specs.SemaphoreProfiles.{with_retry, carrying, permit_holder, inside}
use Rattle.steps_semaphore.specs.SemaphoreSteps.{acquired, in_acquire, in_release, in_try, is_free}
use Rattle.steps_semaphore.specs.SemaphoreSteps.{semaphore_next}
use Rattle.steps_base.proofs.Deeds.{clears, ends, gives_up, goes_in, goes_out, nobody_first, put_same}
use Rattle.steps_semaphore.proofs.SemaphoreWords.{first_is, free_in, one, parked_is}
use Rattle.steps_semaphore.proofs.SemaphoreWords.{some_free, word_of}

module _ (limit : ℕ) (s : Site) (t : ℕ) (h : IsSite (record { sort = Semaphore; limit = limit }) s) where
  abbrev r : Rules
  r = record { sort = Semaphore; limit = limit }

  abbrev v : ℕ
  v = word_of (free_in limit s) s.parked

  -- deeds may be done, and the thread stands so after them
  abbrev Does : List Deed → Next SemaphorePlace → Type 0
  Does ds n = AllNeeded r ds s t × ((after_all r ds s t).role t ≡ role_next n)

  follows : (p : SemaphorePlace) (whom : Option ℕ) (told : Reply) → Does (semaphore_deeds p whom told)
      (semaphore_next p told) → Follows r s t p whom told
  follows p whom told d = record { needed = d.0; role = d.1 }

  holds : s.role t ≡ permit_holder → Owns s.lock t Shared
  holds is = h.held t (Has Shared) (ap (λ (d : Role). d.claims) is)

  -- ---------------------------------------------------------------- calls that acquire

  wants_it : (b : Bool) → ((if b then Some Shared else None) ≡ None)
      ⊎ ((if b then Some Shared else None) ≡ Some Shared)
  wants_it true = inr refl
  wants_it false = inl refl

  -- the thread takes a free permit, and its call ends
  comes_in : (retries : Bool) (a : _) → s.role t ≡ with_retry retries idle → 1 ≤ free_in limit s
      → Does enter_deeds (Over a)
  comes_in retries a is free =
      let own : (after_deed r (Case (Enter Shared)) s t).role t ≡ record (s.role t) {
        retries = None;
        claims = None;
      } = put_same s.role t _ in
      let alone = ap one_if_some (h.state.unpending (λ k. k)).1 in (
        (
          (
            ((tt, omega arith), omega arith),
            subst (λ w. (w ≡ None) ⊎ (w ≡ Some Shared))
                (sym (ap (λ (d : Role). d.retries) is)) (wants_it retries),
          ),
          ends r (after_deed r (Case (Enter Shared)) s t) t refl None
              (own ∙ ap (λ (d : Role). record d { retries = None; claims = None }) is),
        ),
        put_same (after_deed r (Case (Enter Shared)) s t).role t idle,
      )

  module _ (timed retries : Bool) where
    -- an exchange, and whether it saw a free permit
    decides : s.role t ≡ with_retry retries idle → (seen : ℕ) (same free : Bool)
        → (free ≡ true → 1 ≤ free_in limit s)
        → Does (if not same then [] else if free then enter_deeds else Mark Main ∷ [])
        (in_acquire timed retries (if not same then At (acquire.Decide seen) else if free
        then Over (acquired timed) else At (acquire.Decide 1)))
    decides is seen false free some = (tt, is)
    decides is seen true true some = comes_in retries (acquired timed) is (some refl)
    decides is seen true false some = ((tt, tt), is)

    parks : s.role t ≡ with_retry retries inside → (b : Bool) → b ≡ (v == 1) → standing t s.lock ≡ 0
        → Follows r s t (Acquire timed retries acquire.Check) None (Parked b)
    parks is true f out = let w = one (free_in limit s) s.parked (sym f) in record {
      needed = ((
        (
          ((tt, λ room. absurd (omega (arith, w.0))), out),
          (
            ap (λ (d : Role). d.inside) is,
            w.1,
            ap (λ (d : Role). d.wakes) is,
            ap (λ (d : Role). d.owes_taken) is,
          ),
        ),
        tt,
      ));
      role = put_same s.role t _ ∙ ap (λ (d : Role). record d {
        retries = None;
        empty = None;
      }) is ∙ unparked retries;
    }
      where
        unparked : (b : Bool) → inside ≡ semaphore_role (Acquire timed (b && false) (acquire.Leave true))
        unparked true = refl
        unparked false = refl
    parks is false f out = record { needed = tt; role = is ∙ still retries }
      where
        still : (b : Bool) → with_retry b inside ≡ semaphore_role (Acquire timed (b && true)
            (acquire.Leave false))
        still true = refl
        still false = refl

    late : s.role t ≡ inside → (b : Bool) → StandsAlone s t Main b → Does (Case GivesUp ∷ [])
        (in_acquire timed retries (if b then At acquire.Clear else At acquire.GiveUp))
    late is b f =
        let d = gives_up r s t h (h.state.unpending (λ x. x)).0 is b f.0 f.1 in (d.0, d.1 ∙ left b)
      where
        left : (c : Bool) → record inside { empty = found Main c } ≡ role_next
            (in_acquire timed retries (if c then At acquire.Clear else At acquire.GiveUp))
        left true = refl
        left false = refl

    leaves_section : (parked : Bool) → s.role t ≡ with_retry (if parked then false else retries) inside
        → s.lock.taken t ≡ None
        → Does (Out ∷ []) (in_acquire timed retries (if parked then At acquire.Asleep else At acquire.Load))
    leaves_section true is free = let d = goes_out r s t inside is refl refl refl free in (d.0, d.1)
    leaves_section false is free = let d = goes_out r s t (with_retry retries inside) is refl refl refl free
        in (d.0, d.1)

    acquires : (at : AcquireAt) (whom : Option ℕ) (told : Reply) → s.role t ≡ semaphore_role
        (Acquire timed retries at) → MayHearAcquiring r s t timed at told
        → Follows r s t (Acquire timed retries at) whom told
    acquires acquire.Load whom (Value seen) is f = record { needed = tt; role = is }
    acquires (acquire.Decide expected) whom (Value seen) is f =
        follows _ whom (Value seen) (decides is seen (seen == expected) (is_free seen)
        (λ z. some_free (free_in limit s) s.parked (ap is_free (sym f) ∙ z)))
    acquires (acquire.Decide expected) whom Done is f = follows _ whom Done
        (goes_in r s t (with_retry retries idle) is refl refl f)
    acquires acquire.Check whom (Parked true) is f = let d = parks is true f.0 f.1 in record {
      needed = d.needed;
      role = d.role;
    }
    acquires acquire.Check whom (Parked false) is f = let d = parks is false f.0 f.1 in record {
      needed = d.needed;
      role = d.role;
    }
    acquires (acquire.Leave parked) whom Done is f =
        follows _ whom Done (leaves_section parked (is ∙ leaving parked) f)
      where
        leaving : (b : Bool) → semaphore_role (Acquire timed retries (acquire.Leave b)) ≡ with_retry
            (if b then false else retries) inside
        leaving true = refl
        leaving false = refl
    acquires acquire.Asleep whom Late is f = follows _ whom Late (goes_in r s t idle is refl refl f.1)
    acquires acquire.Remove whom (Removed none_left) is f = follows _ whom (Removed none_left)
        (late is none_left f.1)
    acquires acquire.Clear whom (Value seen) is f = follows _ whom (Value seen)
        (clears r s t (record inside { empty = Some Main }) is refl)
    acquires acquire.GiveUp whom Done is f = follows _ whom Done (goes_out r s t inside is refl refl refl f.1)
    acquires at whom told is f = absurd f

  -- ---------------------------------------------------------------- tries

  looks : s.role t ≡ idle → (seen : ℕ) (free : Bool) → Does (if free then [] else End ∷ [])
      (in_try (if free then At (tries.Decide seen) else Over answer.No))
  looks is seen true = (tt, is)
  looks is seen false = (ends r s t refl None is, put_same s.role t idle)

  attempts : s.role t ≡ idle → (seen : ℕ) (same free : Bool) → (free ≡ true → 1 ≤ free_in limit s)
      → Does (if same && free then enter_deeds else if free then [] else End ∷ [])
      (in_try (if same && free then Over answer.Yes else if free then At (tries.Decide seen)
      else Over answer.No))
  attempts is seen true true some = comes_in false answer.Yes is (some refl)
  attempts is seen true false some = looks is seen false
  attempts is seen false free some = looks is seen free

  trying : (at : TryAt) (whom : Option ℕ) (told : Reply) → s.role t ≡ idle → MayHearTrying r s at told
      → Follows r s t (Try at) whom told
  trying tries.Load whom (Value seen) is f = follows _ whom (Value seen) (looks is seen (is_free seen))
  trying (tries.Decide expected) whom (Value seen) is f =
      follows _ whom (Value seen) (attempts is seen (seen == expected) (is_free seen)
      (λ z. some_free (free_in limit s) s.parked (ap is_free (sym f) ∙ z)))
  trying at whom told is f = absurd f

  -- ---------------------------------------------------------------- releases

  -- the thread's permit is given back, by the bit that it saw
  given_back : s.role t ≡ permit_holder → (b : Bool) → s.parked ≡ b
      → (after_deed r (Case (Leave Shared)) s t).role t ≡ record idle { wakes = seen_main b }
  given_back is b e = put_same s.role t _ ∙ ap (shares_less Semaphore s) is
      ∙ ap (λ (q : Bool). record idle { wakes = seen_main q }) e

  gives : s.role t ≡ permit_holder → (b : Bool) → s.parked ≡ b
      → Does (Case (Leave Shared) ∷ (if b then [] else End ∷ []))
      (in_release (if b then At release.Enter else Over answer.Ok))
  gives is true e = (((holds is, ap (λ (d : Role). d.wakes) is), tt), given_back is true e)
  gives is false e = let d = given_back is false e in (
    (
      (holds is, ap (λ (d : Role). d.wakes) is),
      ends r (after_deed r (Case (Leave Shared)) s t) t refl None d,
    ),
    put_same (after_deed r (Case (Leave Shared)) s t).role t idle,
  )

  -- the thread takes the first waiter, if there is one
  takes_first : (d : Role) → s.role t ≡ d → d.inside ≡ Some Main → d.has_taken ≡ false → d.wakes ≡ Some Main
      → (whom : Option ℕ) (any none_left : Bool) → TakesFirst s whom any none_left → HasTakenNobody s.lock t
      → AllNeeded r (take_deeds whom) s t × ((after_all r (take_deeds whom) s t).role t ≡ record d {
        wakes = None;
        has_taken = true;
        owes_taken = true;
        empty = found Main none_left;
      })
  takes_first d is i c w None any none_left f nobody =
      let e : s.lock.queue ≡ [] = nobody_first s.lock.queue (sym f.first) in
      let left : none_left ≡ true = f.left ∙ ap (λ q. is_empty (drop 1 q)) e in (
        (
          (
            ap (λ (d : Role). d.inside) is ∙ i,
            ap (λ (d : Role). d.has_taken) is ∙ c,
            e,
            inr (ap (λ (d : Role). d.wakes) is ∙ w),
          ),
          tt,
        ),
        put_same s.role t _ ∙ ap (λ (d : Role). record d {
          wakes = None;
          has_taken = true;
          owes_taken = true;
          empty = Some Main;
        }) is
            ∙ ap (λ b. record d {
              wakes = None;
              has_taken = true;
              owes_taken = true;
              empty = found Main b;
            }) (sym left),
      )
  takes_first d is i c w (Some u) any none_left f nobody =
      let e = first_is s.lock.queue u h.state.known_queue (sym f.first) in (
        (
          (
            ((drop 1 s.lock.queue, e), nobody, tt),
            (
              ap (λ (d : Role). d.inside) is ∙ i,
              ap (λ (d : Role). d.has_taken) is ∙ c,
              λ second. let g : Some Main ≡ Some Second =
                  sym (ap (λ (d : Role). d.wakes) is ∙ w) ∙ second in cc,
            ),
          ),
          tt,
        ),
        put_same s.role t _ ∙ (λ i. record (is i) {
          wakes = None;
          has_taken = true;
          owes_taken = true;
          empty = found Main (sym f.left i);
        }),
      )

  releases : (at : ReleaseAt) (whom : Option ℕ) (told : Reply) → s.role t ≡ semaphore_role (Release at)
      → MayHearReleasing r s t at whom told → Follows r s t (Release at) whom told
  releases release.Add whom (Value seen) is f = follows _ whom (Value seen)
      (gives is (has_parked seen) (sym (ap has_parked f ∙ parked_is (free_in limit s) s.parked)))
  releases release.Enter whom Done is f =
      follows _ whom Done (goes_in r s t (record idle { wakes = Some Main }) is refl refl f)
  releases release.Take whom (Took any none_left) is f =
      let d = takes_first (record inside { wakes = Some Main }) is refl refl refl whom any none_left f.0 f.1
      in follows _ whom (Took any none_left) (d.0, d.1 ∙ took none_left)
    where
      took : (b : Bool) → record carrying { empty = found Main b } ≡ role_next
          (in_release (if b then At (release.Clear any) else At (release.Leave any)))
      took true = refl
      took false = refl
  releases (release.Clear any) whom (Value seen) is f = follows _ whom (Value seen)
      (clears r s t (record carrying { empty = Some Main }) is refl)
  releases (release.Leave any) whom Done is f = follows _ whom Done (goes_out r s t carrying is refl refl
      refl f)
  releases at whom told is f = absurd f

  -- ---------------------------------------------------------------- each place

  each_follows : (p : SemaphorePlace) (whom : Option ℕ) (told : Reply) → s.role t ≡ semaphore_role p
      → MayReply r s t p whom told → Follows r s t p whom told
  each_follows (Acquire timed retries at) whom told is f = acquires timed retries at whom told is f
  each_follows (Try at) whom told is f = trying at whom told is f
  each_follows (Release at) whom told is f = releases at whom told is f

pub semaphore_steps_follow : SemaphoreStepsFollow
semaphore_steps_follow r s t p whom told a f =
    subst (λ x. IsSite x s → MayReply x s t p whom told → Follows x s t p whom told)
    (λ i. record {
      sort = sym a.sort i;
      limit = r.limit;
    }) (λ h f. each_follows r.limit s t h p whom told a.role f) a.site f
