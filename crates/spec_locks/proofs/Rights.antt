-- The effect of each case of a lock on a thread's rights.
use Rattle.std.proofs.Common.{ℕ, Bool, true, false, Option, Some, None, ◌≡◌, ◌≢◌, ◌<◌, ◌+◌, ◌-◌, ◌==◌}
use Rattle.std.proofs.Common.{if◌then◌else◌, refl, sym, ap, ◌∙◌, get_or-set_same, get_or-set_other, arith}
use Rattle.std.proofs.lemmas.Bool.{eqb-true}
use Rattle.std.proofs.lemmas.Bool.Decides.{nat_tests}
use Rattle.std.proofs.lemmas.List.{get_or_past}
use Rattle.std.specs.Prelude.{length, slice_index, slice_set}
use Rattle.core_base.specs.declared.wants.Want.{Want}
use Rattle.core_base.specs.declared.wants.Want.TheVariants.{Exclusive, Upgradable, Shared}
use Rattle.spec_locks.specs.Onces.{OnceCase, Start, Finish, Fail, Rest, TakeAll}
use Rattle.spec_locks.specs.Locks.{LockState, Rules, Rights, LockCase, Enter, Pend, Settle, Leave, Convert}
use Rattle.spec_locks.specs.Locks.{Park, Aside, TakeFirst, TakeAside, TakePicked, Wake, HandOff, Late}
use Rattle.spec_locks.specs.Locks.{Rollback, OfOnce, once_after, Needs, after_case, IsLockState, Owns}
use Rattle.spec_locks.specs.Locks.{MayConvert, Queued, putting, rights_of, with_right, without_right}
use Rattle.spec_locks.specs.Locks.{with_owner, without_owner, pending_for, readers, OfCondvar, SeeOwner, Look}
use Rattle.spec_locks.specs.Locks.{Show, Hide}

abbrev pub rights_by : ℕ → ℕ → ℕ → ℕ → Rights
rights_by e p u s = record { exclusive = e; pending = p; upgradable = u; shared = s }

pub rights_are : (a b c d e f g h : ℕ) → a ≡ e → b ≡ f → c ≡ g → d ≡ h → rights_by a b c d ≡ rights_by e f g h
rights_are a b c d e f g h p q r s = λ i. rights_by (p i) (q i) (r i) (s i)

-- one pending right less
abbrev pub less_pending : Rights → Rights
less_pending x = record x { pending = x.pending - 1 }

-- ---------------------------------------------------------------- the thread of the case

module _ (s : LockState) (t : ℕ) where
  pub entered_alone : s.exclusive ≡ None → rights_of (with_owner t Exclusive s) t ≡ with_right Exclusive
      (rights_of s t)
  entered_alone free = rights_are _ _ _ _ _ _ _ _ (grind (arith, nat_tests)) refl refl refl

  pub entered_upgradable : s.upgradable ≡ None → rights_of (with_owner t Upgradable s) t ≡ with_right
      Upgradable (rights_of s t)
  entered_upgradable free = rights_are _ _ _ _ _ _ _ _ refl refl (grind (arith, nat_tests)) refl

  pub entered_shared : t < length s.shared → rights_of (with_owner t Shared s) t ≡ with_right Shared
      (rights_of s t)
  entered_shared there = rights_are _ _ _ _ _ _ _ _ refl refl refl (get_or-set_same s.shared t _ 0 there)

  pub pended : (b : Bool) → s.pending ≡ None → less_pending (rights_of (pending_for t b s) t) ≡ rights_of s t
  pended b free = rights_are _ _ _ _ _ _ _ _ refl (grind (arith, nat_tests)) refl refl

  pub settled : (b : Bool) → s.pending ≡ Some (record { thread = t; falls_back = b }) → s.exclusive ≡ None
      → rights_of (with_owner t Exclusive (record s { pending = None })) t ≡ with_right Exclusive
      (less_pending (rights_of s t))
  settled b own free = rights_are _ _ _ _ _ _ _ _ (grind (arith, nat_tests)) (grind (arith, nat_tests)) refl
      refl

  pub left : (x : Want) → Owns s t x → with_right x (rights_of (without_owner t x s) t) ≡ rights_of s t
  left Exclusive own = rights_are _ _ _ _ _ _ _ _ (grind (arith, nat_tests)) refl refl refl
  left Upgradable own = rights_are _ _ _ _ _ _ _ _ refl refl (grind (arith, nat_tests)) refl
  left Shared own =
      let there : t < length s.shared = grind (arith, get_or_past s.shared t 0) in
      let less = get_or-set_same s.shared t (slice_index s.shared t - 1) 0 there in
      rights_are _ _ _ _ _ _ _ _ refl refl refl (rw less (omega arith))
  left x own = absurd (grind arith)

  pub rolled : (b : Bool) → s.pending ≡ Some (record { thread = t; falls_back = b })
      → rights_of (record s { pending = None }) t ≡ less_pending (rights_of s t)
  rolled b own = rights_are _ _ _ _ _ _ _ _ refl (grind (arith, nat_tests)) refl refl

  -- a right becomes a lesser one
  pub lowered : (x y : Want) (r : Rules) → IsLockState r s → Owns s t x → MayConvert x y → y ≢ Exclusive
      → (y ≡ Shared → t < length s.shared)
      → with_right x (without_right y (rights_of (with_owner t y (without_owner t x s)) t)) ≡ rights_of s t
  lowered Exclusive Upgradable r state own may less there = let alone = state.exclusive_alone t own
      in rights_are _ _ _ _ _ _ _ _ (grind (arith, nat_tests)) refl (grind (arith, nat_tests)) refl
  lowered Exclusive Shared r state own may less there = let more = get_or-set_same s.shared t
      (slice_index s.shared t + 1) 0 (there refl) in rights_are _ _ _ _ _ _ _ _ (grind (arith, nat_tests))
      refl refl (rw more (omega arith))
  lowered Upgradable Shared r state own may less there = let more = get_or-set_same s.shared t
      (slice_index s.shared t + 1) 0 (there refl) in rights_are _ _ _ _ _ _ _ _ refl refl
      (grind (arith, nat_tests)) (rw more (omega arith))
  lowered Upgradable Exclusive r state own may less there = absurd (less refl)
  lowered x y r state own may less there = absurd (grind arith)

  pub replaced : (x y : Want) (r : Rules) → IsLockState r s → Owns s t x → MayConvert x y → y ≢ Exclusive
      → (y ≡ Shared → t < length s.shared)
      → with_right x (rights_of (with_owner t y (without_owner t x s)) t) ≡ with_right y (rights_of s t)
  replaced Exclusive Upgradable r state own may less there = let alone = state.exclusive_alone t own
      in rights_are _ _ _ _ _ _ _ _ (grind (arith, nat_tests)) refl (grind (arith, nat_tests)) refl
  replaced Exclusive Shared r state own may less there = let more = get_or-set_same s.shared t
      (slice_index s.shared t + 1) 0 (there refl) in rights_are _ _ _ _ _ _ _ _ (grind (arith, nat_tests))
      refl refl more
  replaced Upgradable Shared r state own may less there = let more = get_or-set_same s.shared t
      (slice_index s.shared t + 1) 0 (there refl) in rights_are _ _ _ _ _ _ _ _ refl refl
      (grind (arith, nat_tests)) more
  replaced Upgradable Exclusive r state own may less there = absurd (less refl)
  replaced x y r state own may less there = absurd (grind arith)

  -- a thread that has a right has it again when it has given it up and got it
  pub regained : (x : Want) → Owns s t x → with_right x (without_right x (rights_of s t)) ≡ rights_of s t
  regained Exclusive own = rights_are _ _ _ _ _ _ _ _ (grind (arith, nat_tests)) refl refl refl
  regained Upgradable own = rights_are _ _ _ _ _ _ _ _ refl refl (grind (arith, nat_tests)) refl
  regained Shared own = rights_are _ _ _ _ _ _ _ _ refl refl refl (omega arith)
  regained x own = refl

  -- the upgradable right becomes the exclusive one, or is pending, or is there again
  pub raised : (r : Rules) → IsLockState r s → Owns s t Upgradable
      → with_right Upgradable (rights_of (with_owner t Exclusive (without_owner t Upgradable s)) t)
      ≡ with_right Exclusive (rights_of s t)
  raised r state own = let free : s.exclusive ≡ None = grind (arith, state.exclusive_alone)
      in rights_are _ _ _ _ _ _ _ _ (grind (arith, nat_tests)) refl (grind (arith, nat_tests)) refl

  pub raising : (r : Rules) → IsLockState r s → Owns s t Upgradable
      → with_right Upgradable (less_pending (rights_of (pending_for t true (without_owner t Upgradable s)) t))
      ≡ rights_of s t
  raising r state own = let free : s.pending ≡ None = grind (arith, state.pending_alone)
      in rights_are _ _ _ _ _ _ _ _ refl (grind (arith, nat_tests)) (grind (arith, nat_tests)) refl

  pub fell : (r : Rules) → IsLockState r s → s.pending ≡ Some (record { thread = t; falls_back = true })
      → rights_of (with_owner t Upgradable (record s { pending = None })) t ≡ with_right Upgradable
      (less_pending (rights_of s t))
  fell r state own = let free : s.upgradable ≡ None = grind (arith, state.pending_alone)
      in rights_are _ _ _ _ _ _ _ _ refl (grind (arith, nat_tests)) (grind (arith, nat_tests)) refl

-- a deed at a `Once` changes no right
pub once_keeps : (case : OnceCase) (s : LockState) (t u : ℕ) → rights_of (once_after case s t) u
    ≡ rights_of s u
once_keeps (Start forced) s t u = refl
once_keeps Finish s t u = refl
once_keeps Fail s t u = refl
once_keeps (Rest wanted forced) s t u = refl
once_keeps TakeAll s t u = refl

-- ---------------------------------------------------------------- any other thread

module _ (r : Rules) (s : LockState) (t u : ℕ) (state : IsLockState r s) (ne : u ≢ t) where
  shared_else : (n : ℕ) → slice_index (slice_set s.shared t n) u ≡ slice_index s.shared u
  shared_else n = get_or-set_other s.shared t u n 0 ne

  -- a case of t that hands nothing over leaves the rights of u
  pub others_keep : (case : LockCase) → ((x : Want) (y : Option Queued) → case ≢ HandOff x y)
      → Needs r case s t → rights_of (after_case r case s t) u ≡ rights_of s u
  others_keep (Enter Exclusive) not_hand n = rights_are _ _ _ _ _ _ _ _ (grind (arith, nat_tests)) refl refl
      refl
  others_keep (Enter Upgradable) not_hand n = rights_are _ _ _ _ _ _ _ _ refl refl (grind (arith, nat_tests))
      refl
  others_keep (Enter Shared) not_hand n = rights_are _ _ _ _ _ _ _ _ refl refl refl (shared_else _)
  others_keep (Enter x) not_hand n = refl
  others_keep Pend not_hand n = rights_are _ _ _ _ _ _ _ _ refl (grind (arith, nat_tests)) refl refl
  others_keep Settle not_hand n = rights_are _ _ _ _ _ _ _ _ (grind (arith, nat_tests))
      (grind (arith, nat_tests)) refl refl
  others_keep (Leave Exclusive) not_hand n = rights_are _ _ _ _ _ _ _ _ (grind (arith, nat_tests)) refl refl
      refl
  others_keep (Leave Upgradable) not_hand n = rights_are _ _ _ _ _ _ _ _ refl refl (grind (arith, nat_tests))
      refl
  others_keep (Leave Shared) not_hand n = rights_are _ _ _ _ _ _ _ _ refl refl refl (shared_else _)
  others_keep (Leave x) not_hand n = absurd (grind arith)
  others_keep (Convert x y) not_hand n = converted_else x y n
    where
      converted_else : (x y : Want) → Needs r (Convert x y) s t → rights_of (after_case r (Convert x y) s t) u
          ≡ rights_of s u
      converted_else Exclusive Upgradable n = rights_are _ _ _ _ _ _ _ _ (grind (arith, nat_tests)) refl
          (grind (arith, nat_tests)) refl
      converted_else Exclusive Shared n = rights_are _ _ _ _ _ _ _ _ (grind (arith, nat_tests)) refl refl
          (shared_else _)
      converted_else Upgradable Shared n = rights_are _ _ _ _ _ _ _ _ refl refl (grind (arith, nat_tests))
          (shared_else _)
      converted_else Upgradable Exclusive n = by_readers (readers s == 0) refl
        where
          by_readers : (b : Bool) → (readers s == 0) ≡ b
              → rights_of (after_case r (Convert Upgradable Exclusive) s t) u ≡ rights_of s u
          by_readers true e = rw e (rights_are _ _ _ _ _ _ _ _
              (grind (arith, nat_tests, state.exclusive_alone)) refl (grind (arith, nat_tests)) refl)
          by_readers false e = rw e (rights_are _ _ _ _ _ _ _ _ refl (grind (
            arith,
            nat_tests,
            state.pending_alone,
          )) (grind (arith, nat_tests)) refl)
      converted_else x y n = absurd (grind arith)
  others_keep (Park x) not_hand n = refl
  others_keep Aside not_hand n = refl
  others_keep (TakeFirst x) not_hand n = refl
  others_keep (TakeAside x) not_hand n = refl
  others_keep (TakePicked start) not_hand n = refl
  others_keep Wake not_hand n = refl
  others_keep (HandOff x y) not_hand n = absurd (not_hand x y refl)
  others_keep Late not_hand n = refl
  others_keep Rollback not_hand n = grind (arith, nat_tests)
  others_keep (OfOnce case) not_hand n = once_keeps case s t u
  others_keep (OfCondvar (Look seen)) not_hand n = refl
  others_keep (OfCondvar (Show m)) not_hand n = refl
  others_keep (OfCondvar Hide) not_hand n = refl
  others_keep (SeeOwner owned) not_hand n = refl

-- ------------------------------------------------------------ rights of each lock, where one lock's are told

-- one list at the lock l, and another elsewhere
abbrev pub AreAt : (ℕ → Rights) → (ℕ → Rights) → ℕ → Rights → Type 0
AreAt rights g l y = (k : ℕ) → g k ≡ putting rights l y k

same : (l : ℕ) → (l == l) ≡ true
same l = grind (arith, nat_tests)

module _ (rights : ℕ → Rights) (l : ℕ) where
  pub unchanged : (y : Rights) → rights l ≡ y → AreAt rights rights l y
  unchanged y e k = either (k == l) refl
    where
      either : (b : Bool) → (k == l) ≡ b → rights k ≡ (if b then y else rights k)
      either true f = rw (eqb-true k l f) e
      either false f = refl

  pub changed : (h : Rights → Rights) (g : ℕ → Rights) (y : Rights) → AreAt rights g l y
      → AreAt rights (putting g l (h (g l))) l (h y)
  changed h g y e k = either (k == l) (e k)
    where
      here : g l ≡ y
      here = e l ∙ ap (λ b. if b then y else rights l) (same l)

      either : (b : Bool) → g k ≡ (if b then y else rights k) → (if b then h (g l) else g k)
          ≡ (if b then h y else rights k)
      either true f = ap h here
      either false f = f

  pub agree : (g h : ℕ → Rights) (y z : Rights) → AreAt rights g l y → AreAt rights h l z → y ≡ z → (k : ℕ)
      → g k ≡ h k
  agree g h y z a b e k = a k ∙ ap (λ x. putting rights l x k) e ∙ sym (b k)
