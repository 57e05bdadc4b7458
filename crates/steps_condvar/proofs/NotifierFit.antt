-- Each step of a notification may do to the mutex beside it what its deeds say.
use Rattle.std.proofs.Common.{ℕ, Bool, true, false, Option, Some, None, if◌then◌else◌, ◌==◌, ◌≡◌, ◌≢◌, ◌+◌}
use Rattle.std.proofs.Common.{◌*◌, List, [], ◌∷◌, length, refl, sym, ap, ◌∙◌, subst, arith}
use Rattle.std.proofs.lemmas.Bool.{eqb-true}
use Rattle.std.proofs.lemmas.Bool.Decides.{nat_tests}
use Rattle.std.specs.Prelude.{nat_lt, not, ◌&&◌}
use Rattle.core_base.specs.declared.ops.Op.{Op}
use Rattle.core_base.specs.declared.ops.Op.TheVariants as op
use Rattle.core_base.specs.Words.{apply}
use Rattle.steps_base.specs.declared.acts.Act.TheVariants as act
use Rattle.steps_base.specs.declared.acts.Next.TheVariants as next
use Rattle.steps_base.specs.declared.acts.Reply.{Reply}
use Rattle.steps_base.specs.declared.acts.Reply.TheVariants.{Done, Value, Took, Requeued}
use Rattle.spec_locks.specs.Codes.{bit, code, code_of}
use Rattle.spec_locks.specs.Condvars.{CondvarSite, line_of, moved_of, taken_of}
use Rattle.spec_locks.specs.Deeds.{AllNeeded, after_all}
use Rattle.spec_locks.specs.Locks.{Mutex, Queued, Rules, Taken, one_if_some, putting}
use Rattle.spec_locks.specs.Sites.{Role, End, IsOpen, Main, MarkOwned, Out, Site, after_deed, bringing}
use Rattle.spec_locks.specs.Sites.{counts_some, idle, is_empty, leaves, wakened}
use Rattle.steps_mutex.specs.MutexProfiles.{inside}
use Rattle.steps_mutex.specs.MutexSteps.{is_locked}
use Rattle.steps_condvar.specs.declared.notify.NotifyAt.{NotifyAt}
use Rattle.steps_condvar.specs.declared.notify.NotifyAt.TheVariants as notify
use Rattle.steps_condvar.specs.CondvarSteps.{is_shown, marks, notify_act}
use Rattle.steps_condvar.specs.CondvarProfiles.{has_moved, notify_row}
use Rattle.steps_condvar.specs.CondvarMutex.{FollowsAtMutex, MayGetReplyAtMutex, NotifiersCode, NotifiersFollow}
use Rattle.steps_condvar.specs.CondvarMutex.{beside_deeds, role_next}
use Rattle.steps_base.proofs.Deeds.{put_same}
use Rattle.steps_mutex.proofs.MutexWords.{coded, owned_word, word_of}
use Rattle.steps_condvar.proofs.CondvarFit.{not_none, some_left}

unlocked : (parked : Bool) → is_locked (0 + 2 * bit parked) ≡ false
unlocked true = refl
unlocked false = refl

-- a mutex whose word says so is owned
is_owned : (r : Rules) (s : Site) → r.sort ≡ Mutex → is_locked (code r s) ≡ true → IsOpen r.sort s.lock → ⊥
is_owned r s sort locked free =
    let none : s.lock.exclusive ≡ None = subst (λ x. IsOpen x s.lock) sort free in
    let word : code r s ≡ 0 + 2 * bit s.parked = ap (λ x. code_of x r.limit s) sort
    ∙ ap (λ o. one_if_some o + 2 * bit s.parked) none in
    let f : false ≡ true = sym (unlocked s.parked) ∙ sym (ap is_locked word) ∙ locked in cc

-- the first of some was taken
one_taken : (q : List Queued) → q ≢ [] → not (is_empty (taken_of false q)) ≡ true
one_taken [] ne = absurd (ne refl)
one_taken (x ∷ q) ne = refl

none_afterwards : (q : List Queued) → is_empty (line_of false (moved_of false q)) ≡ true
none_afterwards [] = refl
none_afterwards (x ∷ q) = refl

some_after : (q : List Queued) → not (is_empty (line_of false q)) ≡ nat_lt 1 (length q)
some_after [] = refl
some_after (x ∷ []) = refl
some_after (x ∷ y ∷ q) = grind (arith, nat_tests)

module _ (r : Rules) (s : Site) (c : CondvarSite) (t m : ℕ) (sort : r.sort ≡ Mutex) where
  marked : (all : Bool) (v : ℕ) → s.role t ≡ inside → (b : Bool) → s.role t
      ≡ (notify_row all m (if b then notify.Set v else notify.Move false)).role
  marked all v is true = is
  marked all v is false = is

  bit_pending : (all : Bool) (expected v : ℕ) → s.role t ≡ inside → (b : Bool) → (b ≡ true → IsOpen r.sort s.lock
      → ⊥)
      → AllNeeded r (if b then MarkOwned ∷ [] else []) s t
      × ((after_all r (if b then MarkOwned ∷ [] else []) s t).role t ≡ role_next all m (if b
      then next.At (notify.Move true) else next.At (marks v)))
  bit_pending all expected v is true owned = (
    ((ap (λ (d : Role). d.inside) is, owned refl, sort), tt),
    put_same s.role t _ ∙ ap (λ (d : Role). record d { will_bring = true }) is,
  )
  bit_pending all expected v is false owned = (tt, marked all v is (is_locked v))

  -- after a move
  moved : (taken line : List Queued) (will_bring any more : Bool) → s.role t ≡ record inside { will_bring = will_bring }
      → not (is_empty taken) ≡ any → not (is_empty line) ≡ more
      → putting s.role t (bringing taken line (s.role t)) t ≡ has_moved any (any && more)
  moved taken line will_bring any more is e f = put_same s.role t _ ∙ (λ i. record (is i) {
    has_taken = true;
    owes_taken = e i;
    empty = None;
    will_bring = false;
    bit_pending = e i && f i;
  })

  row_of : (any : Bool) (number : ℕ) → (number == 0) ≡ false → has_moved any false
      ≡ (if number == 0 then inside else has_moved any false)
  row_of any number e = sym (ap (λ b. if b then inside else has_moved any false) e)

  moved_some : (locked : Bool) (number : ℕ) → (number == 0) ≡ false → (b : Bool)
      → has_moved (not locked) (not locked && b)
      ≡ (notify_row true m (if not locked && b then notify.MarkMoved number else notify.Leave (not locked)
      number)).role
  moved_some true number e b = row_of false number e
  moved_some false number e true = refl
  moved_some false number e false = row_of true number e

  left_row : (any : Bool) (b : Bool) → ((if b then inside else has_moved any false).inside ≡ Some Main)
      × ((if b then inside else has_moved any false).wakes ≡ None)
      × ((if b then inside else has_moved any false).bit_pending ≡ false)
      × ((if b then inside else has_moved any false).retries ≡ None)
  left_row any true = (refl, refl, refl, refl)
  left_row any false = (refl, refl, refl, refl)

  by_taken : (o : Option Taken) (d : Role) → o ≡ None → wakened t o d ≡ d
  by_taken None d e = refl
  by_taken (Some h) d e = absurd cc

  out : s.lock.taken t ≡ None → (after_deed r Out s t).role t ≡ leaves (s.role t)
  out e = by_taken (s.lock.taken t) _ e ∙ put_same s.role t _

  again_row : (all b : Bool) → s.role t ≡ inside → s.role t
      ≡ (notify_row all m (if not b then notify.Leave false 0 else if all then notify.Hide
      else notify.Mark)).role
  again_row true true is = is
  again_row false true is = is
  again_row true false is = is
  again_row false false is = is

  one_row : (any b : Bool) → has_moved any false
      ≡ (notify_row false m (if b then notify.Clear any else notify.Leave any 1)).role
  one_row any true = refl
  one_row any false = refl

  leaving : (any : Bool) (number : ℕ) → s.role t ≡ (notify_row false m (notify.Leave any number)).role
      → s.lock.taken t ≡ None → AllNeeded r (Out ∷ End ∷ []) s t
  leaving any number is h =
      let x = left_row any (number == 0) in
      let wakes : (s.role t).wakes ≡ None = ap (λ (d : Role). d.wakes) is ∙ x.1 in
      let gone : ((after_deed r Out s t).role t).retries ≡ None = ap (λ (d : Role). d.retries) (out h)
      ∙ ap (λ (d : Role). d.retries) is ∙ x.3 in (
        (
          λ e. let g : Some Main ≡ None = sym (ap (λ (d : Role). d.inside) is ∙ x.0) ∙ e in cc,
          wakes,
          ap (λ (d : Role). d.bit_pending) is ∙ x.2,
        ),
        (
          (
            ap (λ (d : Role). d.inside) (out h),
            ap (λ (d : Role). d.wakes) (out h) ∙ wakes,
            ap (λ (d : Role). d.has_taken) (out h),
            λ some. absurd (let f : false ≡ true = sym (ap (λ o. counts_some r.sort o) gone) ∙ some in cc),
          ),
          tt,
        ),
      )

  notifies : (all : Bool) (p : NotifyAt) (told : Reply) → s.role t ≡ (notify_row all m p).role
      → MayGetReplyAtMutex r s c t m all p told → FollowsAtMutex r s c t m all p told
  notifies all notify.Enter Done is h = record {
    needed = ((h, ap (λ (d : Role). d.inside) is, ap (λ (d : Role). d.empty) is), tt);
    role = put_same s.role t _ ∙ ap (λ (d : Role). record d { inside = Some Main }) is;
  }
  notifies all notify.Again (Value seen) is h = record {
    needed = tt;
    role = again_row all (is_shown seen m) is;
  }
  notifies all notify.Hide (Value seen) is h = record { needed = tt; role = is }
  notifies all notify.Mark (Value seen) is h = record {
    needed = tt;
    role = marked all seen is (is_locked seen);
  }
  notifies all (notify.Set expected) (Value seen) is h =
      let d = bit_pending all expected seen is (seen == expected) (λ e. is_owned r s sort (let g : seen ≡ expected =
      eqb-true seen expected e in subst (λ v. is_locked v ≡ true) (sym g ∙ h.0) h.1)) in
      record { needed = d.0; role = d.1 }
  notifies false (notify.Move false) (Took any none_left) is h =
      let fits = h.1 in let q = moved_of false c.waiters in
      record {
        needed = (fits.may, tt);
        role = moved (taken_of false q) (line_of false q) false true false is (one_taken q fits.some)
            (ap not (none_afterwards c.waiters)) ∙ ap (λ x. has_moved x false) (sym h.0)
            ∙ one_row any none_left;
      }
  notifies false (notify.Move true) (Requeued number none_left) is h =
      let q = moved_of false c.waiters in
      record {
        needed = (h.may, tt);
        role = moved (taken_of true q) (line_of true q) true false _ is refl refl ∙ one_row false none_left;
      }
  notifies true (notify.Move true) (Requeued number none_left) is h =
      let fits = h.1 in
      record {
        needed = (fits.may, tt);
        role = moved (taken_of true c.waiters) (line_of true c.waiters) true false _ is refl refl
            ∙ moved_some true number (ap (λ n. n == 0) h.0 ∙ some_left c.waiters fits.some) (nat_lt 1 number);
      }
  notifies true (notify.Move false) (Requeued number none_left) is h =
      let fits = h.1 in
      record {
        needed = (fits.may, tt);
        role = moved (taken_of false c.waiters) (line_of false c.waiters) false true (nat_lt 1 number) is
            (one_taken c.waiters fits.some) (some_after c.waiters ∙ ap (λ n. nat_lt 1 n) (sym h.0))
            ∙ moved_some false number (ap (λ n. n == 0) h.0 ∙ some_left c.waiters fits.some)
            (nat_lt 1 number);
      }
  notifies all (notify.Clear any) (Value seen) is h = record { needed = tt; role = is }
  notifies all (notify.MarkMoved number) (Value seen) is h = record {
    needed = (tt, tt);
    role = put_same s.role t _ ∙ ap (λ (d : Role). record d { bit_pending = false }) is
        ∙ row_of true number (not_none number h);
  }
  notifies all (notify.Leave any number) Done is h = record {
    needed = leaving any number is h;
    role = put_same (after_deed r Out s t).role t idle;
  }
  notifies all p told is h = absurd h

pub notifiers_follow : NotifiersFollow
notifiers_follow r s c t m all p told sort is h = notifies r s c t m sort all p told is h

-- ---------------------------------------------------------------- the word

or_word : (parked : Bool) (o : Option ℕ) → apply (op.Or 2) (word_of parked o) ≡ word_of true o
or_word true (Some u) = refl
or_word true None = refl
or_word false (Some u) = refl
or_word false None = refl

module _ (r : Rules) (s : Site) (c : CondvarSite) (t k m : ℕ) (sort : r.sort ≡ Mutex) (apart : k ≢ m) where
  set_word : (expected v : ℕ) → v ≡ code r s → is_locked expected ≡ true → (b : Bool) → (v == expected) ≡ b
      → (if b then 3 else v) ≡ code r (after_all r (if b then MarkOwned ∷ [] else []) s t)
  set_word expected v e locked true same =
      let g : v ≡ expected = eqb-true v expected same in
      owned_word s.parked s.lock.exclusive (subst (λ n. is_locked n ≡ true) (sym g ∙ e ∙ coded r s sort)
      locked) ∙ sym (coded r (record s { parked = true }) sort)
  set_word expected v e locked false same = e

  leaves_word : (all : Bool) (p : NotifyAt) (f : Op) → MayGetReplyAtMutex r s c t m all p (Value (code r s))
      → notify_act all k m p ≡ act.Word m f
      → apply f (code r s) ≡ code r (after_all r (beside_deeds all c.waiters p (Value (code r s))) s t)
  leaves_word all notify.Mark f h is = let e : op.Load ≡ f = cc in rw (← e) refl
  leaves_word all (notify.Set expected) f h is = let e : op.Exchange expected 3 ≡ f = cc
      in rw (← e) (set_word expected (code r s) refl h.1 (code r s == expected) refl)
  leaves_word all (notify.MarkMoved number) f h is =
      let e : op.Or 2 ≡ f = cc in
      rw (← e) (ap (λ v. apply (op.Or 2) v) (coded r s sort) ∙ or_word s.parked s.lock.exclusive
      ∙ sym (coded r (record s { parked = true }) sort))
  leaves_word all notify.Again f h is = absurd (apart (let g : k ≡ m = cc in g))
  leaves_word all notify.Hide f h is = absurd (apart (let g : k ≡ m = cc in g))
  leaves_word all (notify.Clear any) f h is = absurd (apart (let g : k ≡ m = cc in g))
  leaves_word all notify.Enter f h is = absurd cc
  leaves_word true (notify.Move locked) f h is = absurd cc
  leaves_word false (notify.Move true) f h is = absurd cc
  leaves_word false (notify.Move false) f h is = absurd cc
  leaves_word all (notify.Leave any number) f h is = absurd cc

pub notifiers_code : NotifiersCode
notifiers_code r s c t k m all p f sort apart h is = leaves_word r s c t k m sort apart all p f h is
