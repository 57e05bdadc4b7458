-- The owners of a lock exclude each other, and its waiters stand, as each step keeps them.
use Rattle.std.proofs.Common.{◌≡◌, refl, subst}
use Rattle.core_base.specs.declared.wants.Want.{Want}
use Rattle.core_base.specs.declared.wants.Want.TheVariants.{Exclusive, Upgradable, Shared}
use Rattle.spec_locks.specs.Owners.{Mutex, MayHave, Normal, Once, OwnersExclude, Recursive, Rules, Semaphore}
use Rattle.spec_locks.specs.Owners.{Condvar, Sort}
use Rattle.spec_locks.specs.Locks.{IsLockState, Knows, LockState, WaitersStand, owners_of}

module _ (r : Rules) (s : LockState) (c : IsLockState r s) where
  lacks : (sort : Sort) (x : Want) → r.sort ≡ sort → (Knows sort x → ⊥) → Knows r.sort x → ⊥
  lacks sort x e none k = none (subst (λ of. Knows of x) e k)

  owners_of_sort : (sort : Sort) → r.sort ≡ sort → MayHave sort r.limit (owners_of s)
  owners_of_sort Mutex e = let none = c.unpending (lacks Mutex Upgradable e (λ k. k)) in (
    none.0,
    none.1,
    c.unshared (lacks Mutex Shared e (λ k. k)),
  )
  owners_of_sort Normal e = tt
  owners_of_sort Recursive e = tt
  owners_of_sort Semaphore e = let none = c.unpending (lacks Semaphore Upgradable e (λ k. k)) in (
    c.unwritten (lacks Semaphore Exclusive e (λ k. k)),
    none.0,
    none.1,
    c.within e,
  )
  owners_of_sort Once e = let none = c.unpending (lacks Once Upgradable e (λ k. k)) in (
    c.unwritten (lacks Once Exclusive e (λ k. k)),
    none.0,
    none.1,
    c.unshared (lacks Once Shared e (λ k. k)),
  )
  owners_of_sort Condvar e = let none = c.unpending (lacks Condvar Upgradable e (λ k. k)) in (
    c.unwritten (lacks Condvar Exclusive e (λ k. k)),
    none.0,
    none.1,
    c.unshared (lacks Condvar Shared e (λ k. k)),
  )

  pub exclude : OwnersExclude r (owners_of s)
  exclude = record {
    alone = c.exclusive_alone;
    pending_alone = c.pending_alone;
    of_sort = owners_of_sort r.sort refl;
  }

  pub stand : WaitersStand r.sort s
  stand = record {
    once = c.once;
    known_queue = c.known_queue;
    known_taken = c.known_taken;
    aside_pending = c.aside_pending;
  }
