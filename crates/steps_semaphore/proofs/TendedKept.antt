-- Each deed keeps what holds of a semaphore, and its word follows.
use Rattle.std.proofs.Common.{ℕ, Bool, true, false, Option, Some, None, ◌≡◌, ◌≢◌, ◌<◌, ◌≤◌, ◌+◌, ◌-◌, ◌*◌}
use Rattle.std.proofs.Common.{inl, inr, List, [], ◌∷◌, refl, ap, arith, length, length-set}
use Rattle.std.proofs.lemmas.Bool.Decides.{nat_tests}
use Rattle.std.specs.Prelude.{slice_index}
use Rattle.std.proofs.lemmas.List.Sums.{sum_by-set}
use Rattle.std.proofs.lemmas.List.Folds.{sum_by-replicate}
use Rattle.core_base.specs.declared.wants.Want.{Want}
use Rattle.core_base.specs.declared.wants.Want.TheVariants.{Shared}
use Rattle.spec_locks.specs.Locks.{Semaphore, Rules, LockCase, OfOnce, Enter, Pend, Settle}
use Rattle.spec_locks.specs.Locks.{Leave, Convert, Park, Aside, TakeFirst, TakeAside, TakePicked, Wake}
use Rattle.spec_locks.specs.Locks.{HandOff, Late, Rollback, readers, OfCondvar, SeeOwner}
use Rattle.spec_locks.specs.Locks as locks
use Rattle.spec_locks.specs.Sites.{Main, Second, Site, Begin, End, In, Out, Mark, Clear, FindNobody}
use Rattle.spec_locks.specs.Sites.{MarkOwned, MarkBrought, Send, LeaveLine, Bring, Case, Deed, Needed}
use Rattle.spec_locks.specs.Sites.{after_deed, counts_some}
use Rattle.spec_locks.specs.Codes.{bit, has_parked}
use Rattle.spec_locks.proofs.LockKeeps.{opening_is_state}
use Rattle.spec_locks.proofs.SiteFacts.{fewer_share}
use Rattle.spec_locks.proofs.SiteKeeps.{deed_keeps}
use Rattle.spec_locks.proofs.PermitKeeps.{permits_kept, looked_after}
use Rattle.spec_locks.specs.Deeds.{AllNeeded, after_all}
use Rattle.steps_semaphore.specs.SemaphoreDeeds.{semaphore_deeds}
use Rattle.steps_semaphore.specs.SemaphoreLaws.{IsAt}
use Rattle.steps_semaphore.specs.PermitInvariant.{semaphore, IsTended, NewOnesAreTended, NobodyIsForgotten}
use Rattle.steps_semaphore.specs.PermitInvariant.{StepsKeepTended, TellsPermitsTrue, SemaphoreWordsTellTrue}
use Rattle.steps_semaphore.proofs.SemaphoreFit.{semaphore_steps_follow}

module _ (permits : ℕ) (s : Site) (t : ℕ) (lt : t < length s.lock.shared) (h : IsTended permits s) where
  abbrev r : Rules
  r = semaphore permits

  plain : (s.lock.exclusive ≡ None) × (s.lock.pending ≡ None) × (s.lock.upgradable ≡ None)
  plain =
      let a = h.site.state.unwritten (λ k. k) in
      let b = h.site.state.unpending (λ k. k) in
      (a, b.0, b.1)

  one_more : readers (locks.with_owner t Shared s.lock) ≡ readers s.lock + 1
  one_more = let e = sum_by-set (λ (n : ℕ). n) s.lock.shared t (slice_index s.lock.shared t + 1) 0 lt
      in omega arith

  one_less : Needed r (Case (Leave Shared)) s t → readers (locks.without_owner t Shared s.lock) + 1
      ≡ readers s.lock
  one_less n = fewer_share s.lock.shared t n.0

  case_few : (c : LockCase) → Needed r (Case c) s t → readers (after_deed r (Case c) s t).lock ≤ permits
  case_few (Enter Shared) n = let room = n.0.1 in let a = one_more in omega arith
  case_few (Leave Shared) n = let a = one_less n in let f = h.few in omega arith
  case_few (Park x) n = h.few
  case_few (TakeFirst x) n = h.few
  case_few Late n = h.few
  case_few (Enter x) n = absurd (grind arith)
  case_few (Leave x) n = absurd (grind (arith, plain))
  case_few Pend n = absurd (grind arith)
  case_few Settle n = absurd (grind (arith, plain))
  case_few (Convert x y) n = absurd (grind (arith, plain))
  case_few Aside n = absurd (grind (arith, plain))
  case_few (TakeAside u) n = h.few
  case_few (TakePicked start) n = h.few
  case_few Wake n = absurd n.1
  case_few (HandOff x successor) n = absurd (grind (arith, plain))
  case_few Rollback n = absurd (grind (arith, plain))
  case_few (OfOnce case) n = absurd (let e = n.0.0 in cc)
  case_few (OfCondvar case) n = absurd (let e = n.0.0 in cc)
  case_few (SeeOwner owned) n = h.few

  deed_few : (d : Deed) → Needed r d s t → readers (after_deed r d s t).lock ≤ permits
  deed_few (Case c) n = case_few c n
  deed_few (Begin c) n = h.few
  deed_few End n = h.few
  deed_few (In m) n = h.few
  deed_few Out n = h.few
  deed_few (Mark Main) n = h.few
  deed_few (Mark Second) n = h.few
  deed_few (Clear Main) n = h.few
  deed_few (Clear Second) n = h.few
  deed_few (FindNobody m) n = h.few
  deed_few MarkOwned n = h.few
  deed_few MarkBrought n = h.few
  deed_few (Bring taken moved) n = h.few
  deed_few (Send all) n = h.few
  deed_few LeaveLine n = h.few

  pub one_keeps : (d : Deed) → Needed r d s t → IsTended permits (after_deed r d s t)
  one_keeps d n = record {
    site = deed_keeps r d s t h.site n;
    looked_after = permits_kept r d s t refl lt h.site h.looked_after n;
    few = deed_few d n;
  }

  -- A case leaves the number of threads that share.
  case_sharers : (c : LockCase) → Needed r (Case c) s t → length (after_deed r (Case c) s t).lock.shared
      ≡ length s.lock.shared
  case_sharers (Enter Shared) n = length-set s.lock.shared t _
  case_sharers (Leave Shared) n = length-set s.lock.shared t _
  case_sharers (Park x) n = refl
  case_sharers (TakeFirst x) n = refl
  case_sharers Late n = refl
  case_sharers (Enter x) n = absurd (grind arith)
  case_sharers (Leave x) n = absurd (grind (arith, plain))
  case_sharers Pend n = absurd (grind arith)
  case_sharers Settle n = absurd (grind (arith, plain))
  case_sharers (Convert x y) n = absurd (grind (arith, plain))
  case_sharers Aside n = absurd (grind (arith, plain))
  case_sharers (TakeAside u) n = refl
  case_sharers (TakePicked start) n = refl
  case_sharers Wake n = absurd n.1
  case_sharers (HandOff x successor) n = absurd (grind (arith, plain))
  case_sharers Rollback n = absurd (grind (arith, plain))
  case_sharers (OfOnce case) n = absurd (let e = n.0.0 in cc)
  case_sharers (OfCondvar case) n = absurd (let e = n.0.0 in cc)
  case_sharers (SeeOwner owned) n = refl

  pub same_sharers : (d : Deed) → Needed r d s t → length (after_deed r d s t).lock.shared ≡ length
      s.lock.shared
  same_sharers (Case c) n = case_sharers c n
  same_sharers (Begin c) n = refl
  same_sharers End n = refl
  same_sharers (In m) n = refl
  same_sharers Out n = refl
  same_sharers (Mark Main) n = refl
  same_sharers (Mark Second) n = refl
  same_sharers (Clear Main) n = refl
  same_sharers (Clear Second) n = refl
  same_sharers (FindNobody m) n = refl
  same_sharers MarkOwned n = refl
  same_sharers MarkBrought n = refl
  same_sharers (Bring taken moved) n = refl
  same_sharers (Send all) n = refl
  same_sharers LeaveLine n = refl

-- deeds of one thread, one after another
all_keep : (permits : ℕ) (ds : List Deed) (s : Site) (t : ℕ) → t < length s.lock.shared → IsTended permits s
    → AllNeeded (semaphore permits) ds s t → IsTended permits (after_all (semaphore permits) ds s t)
all_keep permits [] s t lt h n = h
all_keep permits (d ∷ ds) s t lt h n =
    let same = same_sharers permits s t lt h d n.0 in
    all_keep permits ds (after_deed (semaphore permits) d s t) t (omega arith)
    (one_keeps permits s t lt h d n.0) n.1

pub steps_keep_tended : StepsKeepTended
steps_keep_tended permits s t p whom told small h lt is hears =
    let at : IsAt (semaphore permits) s t p = record {
      sort = refl;
      small = small;
      site = h.site;
      few = h.few;
      here = lt;
      role = is;
    } in
    all_keep permits (semaphore_deeds p whom told) s t lt h (semaphore_steps_follow (semaphore permits) s t p
    whom told at hears).needed

pub words_tell : SemaphoreWordsTellTrue
words_tell permits s h = by_bit s.parked refl
  where
    by_bit : (p : Bool) → s.parked ≡ p → TellsPermitsTrue permits s
    by_bit p e = record {
      all = let f = h.few in let k = few p in let g = ap bit e in omega arith;
      parked = parity s.parked;
      free = λ some. let f = h.few in let k = few p in let g = ap bit e in let u =
          h.site.state.unpending (λ k. k) in let v = ap locks.one_if_some u.1
          in ((tt, omega arith), omega arith);
      blocked = λ none. (tt, λ free. let f = h.few in let k = few p in let g = ap bit e in omega arith);
      small = λ small. let k = few p in let g = ap bit e in omega arith;
    }
      where
        few : (p : Bool) → bit p ≤ 1
        few true = omega arith
        few false = omega arith

        parity : (p : Bool) → has_parked (2 * (permits - readers s.lock) + bit p) ≡ p
        parity true = grind (arith, nat_tests)
        parity false = grind (arith, nat_tests)

pub nobody_forgotten : NobodyIsForgotten
nobody_forgotten permits s h left free = let one = looked_after (semaphore permits) s h.looked_after left free
    in (
      one.0,
      elim one.1 [
        | inl wakes ↦ inl wakes
        | inr more ↦ inr (elim more [
          | inl owes_taken ↦ inl owes_taken
          | inr tries ↦ inr (trying (s.role one.0).retries tries)
        ])
      ],
    )
  where
    trying : (o : Option Want) → o ≢ None → counts_some Semaphore o ≡ true
    trying None ne = absurd (ne refl)
    trying (Some x) ne = refl

pub new_tended : NewOnesAreTended
new_tended permits threads = (
  record {
    site = record {
      state = opening_is_state (semaphore permits) threads;
      alone = λ t u m h k. absurd cc;
      parked = λ h. absurd (h refl);
      aside_parked = λ h. absurd (h refl);
      emptied = λ t m h. absurd cc;
      covered = λ t h. absurd cc;
      carried = λ u h e. absurd cc;
      brought = λ t h. absurd cc;
      setting = λ t h. absurd cc;
      held = λ t c h. absurd cc;
      unwoken = λ t h. refl;
      full = λ h. absurd cc;
      main = λ h. absurd (elim h [ inl g ↦ g refl | inr g ↦ let b : false ≡ true = g.1 in cc ]);
      second = λ h. absurd (h refl);
    };
    looked_after = record {
      enough = λ left. absurd (left refl);
      unset = λ t. refl;
      known = λ u one. absurd (omega arith);
    };
    few = let e = sum_by-replicate (λ (n : ℕ). n) threads 0 in omega arith;
  },
  let e = sum_by-replicate (λ (n : ℕ). n) threads 0 in omega arith,
)
