-- The rights after a hand-off: its thread gives its right up, the heir has it, and nobody else's change.
use Rattle.std.proofs.Common.{ℕ, false, Option, Some, None, if◌then◌else◌, ◌==◌, ◌≡◌, ◌≢◌, ◌+◌, List, refl}
use Rattle.std.proofs.Common.{sym, ◌∙◌, ap, arith}
use Rattle.std.proofs.lemmas.Bool.Decides.{nat_tests}
use Rattle.std.specs.Prelude.{slice_index, sum}
use Rattle.core_base.specs.declared.wants.Want.TheVariants.{Exclusive}
use Rattle.spec_locks.proofs.LockKeeps.{sharing_same}
use Rattle.spec_locks.specs.Locks.{LockState, HandOff as HandsOff, IsLockState, Mutex, Needs, Rules}
use Rattle.spec_locks.specs.Locks.{rights_of, with_right, one_if_thread}
use Rattle.spec_locks.specs.Locks as locks
use Rattle.spec_locks.specs.Sites.{Site, IsSite}
use Rattle.steps_mutex.specs.MutexLaws.{heir}

none_counts : (t : ℕ) (o : Option ℕ) → o ≡ None → one_if_thread t o ≡ 0
none_counts t o e = ap (one_if_thread t) e

pub own_counts : (t : ℕ) → one_if_thread t (Some t) ≡ 1
own_counts t = grind (arith, nat_tests)

pub other_counts : (u t : ℕ) → u ≢ t → one_if_thread u (Some t) ≡ 0
other_counts u t ne = grind (arith, nat_tests)

module _ (limit : ℕ) (s : LockState) (t : ℕ) where
  abbrev mutex : Rules
  mutex = record { sort = Mutex; limit = limit }

  abbrev given : LockState
  given = locks.sharing_handed t (locks.without_owner t Exclusive s)

  -- where a mutex goes to its heir, it alone owns it
  module _ (state : IsLockState mutex s) (to : Option ℕ) where
    handed_rights : (u : ℕ) → rights_of (locks.handed t Exclusive (heir to) s) u ≡ record (rights_of s u)
        { exclusive = one_if_thread u to }
    handed_rights u = by_heir to
      where
        shared : locks.sharing_from t s.taken 0 s.shared ≡ s.shared
        shared = sharing_same mutex s t 0 s.shared state (λ h. h)

        by_heir : (to : Option ℕ) → rights_of (locks.with_successor (heir to) given) u ≡ record
            (rights_of s u) { exclusive = one_if_thread u to }
        by_heir None = λ i. record (rights_of s u) { exclusive = 0; shared = slice_index (shared i) u }
        by_heir (Some x) = ap (λ (n : ℕ). rights_of (if n == 0 then locks.with_owner x Exclusive given
            else locks.pending_for x false given) u) (ap (λ (xs : List ℕ). sum xs) shared
            ∙ state.unshared (λ h. h))
            ∙ (λ i. record (rights_of s u) {
              exclusive = one_if_thread u (Some x);
              shared = slice_index (shared i) u;
            })

    module _ (own : s.exclusive ≡ Some t) (apart : to ≢ Some t) where
      pub gave : with_right Exclusive (rights_of (locks.handed t Exclusive (heir to) s) t) ≡ rights_of s t
      gave = ap (with_right Exclusive) (handed_rights t) ∙ (λ i. record (rights_of s t) { exclusive = one i })
        where
          none : (o : Option ℕ) → o ≢ Some t → one_if_thread t o ≡ 0
          none None ne = refl
          none (Some x) ne = other_counts t x (λ e. ne (ap Some (sym e)))

          one : one_if_thread t to + 1 ≡ one_if_thread t s.exclusive
          one = ap (λ n. n + 1) (none to apart) ∙ sym (own_counts t) ∙ ap (one_if_thread t) (sym own)

      pub got : (u : ℕ) → to ≡ Some u → rights_of (locks.handed t Exclusive (heir to) s) u ≡ with_right
          Exclusive (rights_of s u)
      got u e = handed_rights u ∙ (λ i. record (rights_of s u) { exclusive = one i })
        where
          one : one_if_thread u to ≡ one_if_thread u s.exclusive + 1
          one = ap (one_if_thread u) e ∙ own_counts u
              ∙ ap (λ n. n + 1) (sym (ap (one_if_thread u) own
              ∙ other_counts u t (λ f. apart (e ∙ ap Some f))))

      pub neither : (u : ℕ) → u ≢ t → to ≢ Some u → rights_of (locks.handed t Exclusive (heir to) s) u
          ≡ rights_of s u
      neither u nt nu = handed_rights u ∙ (λ i. record (rights_of s u) { exclusive = none i })
        where
          not_heir : (o : Option ℕ) → o ≢ Some u → one_if_thread u o ≡ 0
          not_heir None ne = refl
          not_heir (Some x) ne = other_counts u x (λ e. ne (ap Some (sym e)))

          none : one_if_thread u to ≡ one_if_thread u s.exclusive
          none = not_heir to nu ∙ sym (ap (one_if_thread u) own ∙ other_counts u t nt)

-- a thread that has an heir that isn't itself gives its right up
pub gives_right : (limit : ℕ) (s : Site) (t : ℕ) (to : Option ℕ)
    → IsSite (record { sort = Mutex; limit = limit }) s → Needs (record { sort = Mutex; limit = limit })
    (HandsOff Exclusive (heir to)) s.lock t
    → s.lock.taken t ≡ None → with_right Exclusive (rights_of (locks.handed t Exclusive (heir to) s.lock) t)
    ≡ rights_of s.lock t
gives_right limit s t to site needs awake = gave limit s.lock t site.state to needs.0
    (λ e. let g : s.lock.taken t ≡ Some (record { by = t; want = Exclusive }) =
    ((needs.2 t Exclusive).0 (ap heir e)).0 in let none : s.lock.taken t ≡ None = awake in cc)
