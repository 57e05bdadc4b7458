-- The state of a lock after a hand-over, and its word.
use Rattle.std.proofs.Common.{ℕ, Bool, true, false, Option, Some, None, if◌then◌else◌, ◌==◌, ◌≡◌, ◌≢◌, ◌+◌}
use Rattle.std.proofs.Common.{◌*◌, ◌%◌, ◌≤◌, refl, sym, ◌∙◌, arith}
use Rattle.core_base.specs.declared.wants.Want.{Want}
use Rattle.core_base.specs.declared.wants.Want.TheVariants.{Exclusive, Upgradable, Shared}
use Rattle.spec_locks.specs.Locks.{LockState, Rules, Pending, IsSuccessor, Knows, count, readers, one_if_some}
use Rattle.spec_locks.specs.Locks.{without_owner, sharing_handed, with_successor, with_owner, pending_for}
use Rattle.spec_locks.specs.Sites.{Site, IsSite, Has, has_readers, after_deed}
use Rattle.spec_locks.specs.Codes.{writers, bit, rw_code}
use Rattle.steps_base.specs.Moves.{bit_left, heir_of}
use Rattle.steps_rwlock_fair.specs.declared.hand_over.Taken.{Taken}
use Rattle.steps_rwlock_fair.specs.FairSteps.{token_of, is_upgradable}
use Rattle.steps_rwlock_fair.specs.FairCalls.{IsNamed, HasInHand}

-- a successor wants more than to share
abbrev pub WantsMore : Option Want → Type 0
WantsMore None = Unit {0}
WantsMore (Some Exclusive) = Unit {0}
WantsMore (Some Upgradable) = Unit {0}
WantsMore y = ⊥

pub wants_more : (r : Rules) (s : Site) (t : ℕ) (k : Taken) (whom : Option ℕ) → has_readers r.sort ≡ true
    → IsSite r s → HasInHand s.lock t k whom → WantsMore k.successor
wants_more r s t k whom rw_sort h hand = by_want k.successor whom hand.named hand.successor
  where
    known : (x : Want) → Knows r.sort x → x ≢ Shared → WantsMore (Some x)
    known Exclusive knows more = tt
    known Upgradable knows more = tt
    known Shared knows more = more refl
    known x knows more = grind arith

    by_want : (y : Option Want) (w : Option ℕ) → IsNamed y w → IsSuccessor s.lock t (heir_of w y)
        → WantsMore y
    by_want None w named is = tt
    by_want (Some x) None named is = absurd named
    by_want (Some x) (Some u) named is = let g = (is u x).0 refl in known x (h.state.known_taken u _ g.0) g.1

-- ---------------------------------------------------------------- owners after it

-- a lock that nobody has more of than a share
pub record HasNoWriter (s : LockState) : Type 0 where
  pub exclusive : s.exclusive ≡ None
  pub pending : s.pending ≡ None
  pub upgradable : s.upgradable ≡ None

module _ (base : LockState) (free : HasNoWriter base) where
  abbrev Adds : Option Want → LockState → Type 0
  Adds y now = 16 * count now + (8 * writers now + 4 * one_if_some now.upgradable) ≡ 16 * readers base
      + token_of y

  writes : (u : ℕ) (b : Bool) → Adds (Some Exclusive) (if b then with_owner u Exclusive base
      else pending_for u false base)
  writes u true = rw (free.pending, free.upgradable) (omega arith)
  writes u false = rw (free.exclusive, free.upgradable) (omega arith)

  -- the successor adds its token
  pub adds : (y : Option Want) (w : Option ℕ) → WantsMore y → IsNamed y w
      → Adds y (with_successor (heir_of w y) base)
  adds None None more named = rw (free.exclusive, free.pending, free.upgradable) (omega arith)
  adds None (Some u) more named = absurd named
  adds (Some x) None more named = absurd named
  adds (Some Exclusive) (Some u) more named = writes u (readers base == 0)
  adds (Some Upgradable) (Some u) more named = rw (free.exclusive, free.pending) (omega arith)
  adds (Some x) (Some u) more named = absurd more

  writes_counts : (u : ℕ) (b : Bool) → count (if b then with_owner u Exclusive base else pending_for u false
      base) ≡ readers base
  writes_counts u true = rw free.upgradable (omega arith)
  writes_counts u false = rw free.upgradable (omega arith)

  -- A successor counts where it is upgradable.
  pub counts : (y : Option Want) (w : Option ℕ) → WantsMore y → IsNamed y w
      → count (with_successor (heir_of w y) base) ≡ readers base + (if is_upgradable y then 1 else 0)
  counts None None more named = rw free.upgradable refl
  counts None (Some u) more named = absurd named
  counts (Some x) None more named = absurd named
  counts (Some Exclusive) (Some u) more named = writes_counts u (readers base == 0) ∙ omega arith
  counts (Some Upgradable) (Some u) more named = refl
  counts (Some x) (Some u) more named = absurd more

  writes_lasting : (u : ℕ) (b : Bool) (p : Pending) → (if b then with_owner u Exclusive base
      else pending_for u false base).pending ≡ Some p → p.falls_back ≡ false
  writes_lasting u true p e = absurd (let f : ◌≡◌ {A = Option Pending} None (Some p) = sym free.pending ∙ e
      in cc)
  writes_lasting u false p e = let f : ◌≡◌ {A = Option Pending} (Some (record {
    thread = u;
    falls_back = false;
  })) (Some p) = e in cc

  -- a successor that is pending falls back to nothing
  pub lasting : (y : Option Want) (w : Option ℕ) → WantsMore y → IsNamed y w → (p : Pending)
      → (with_successor (heir_of w y) base).pending ≡ Some p → p.falls_back ≡ false
  lasting None None more named p e = absurd (let f : ◌≡◌ {A = Option Pending} None (Some p) = sym free.pending
      ∙ e in cc)
  lasting None (Some u) more named p e = absurd named
  lasting (Some x) None more named p e = absurd named
  lasting (Some Exclusive) (Some u) more named p e = writes_lasting u (readers base == 0) p e
  lasting (Some Upgradable) (Some u) more named p e = absurd (let f : ◌≡◌ {A = Option Pending} None (Some p) =
      sym free.pending ∙ e in cc)
  lasting (Some x) (Some u) more named p e = absurd more

-- ---------------------------------------------------------------- the giver

module _ (r : Rules) (s : Site) (t : ℕ) (h : IsSite r s) where
  -- an exclusive owner had no other beside it
  pub exclusive_gone : (s.role t).claims ≡ Some (Has Exclusive)
      → HasNoWriter (sharing_handed t (without_owner t Exclusive s.lock)) × (readers s.lock ≡ 0)
  exclusive_gone claims = let alone = h.state.exclusive_alone t (h.held t (Has Exclusive) claims) in (
    record {
      exclusive = refl;
      pending = alone.0;
      upgradable = alone.1;
    },
    alone.2,
  )

  -- An upgradable owner's hand-over leaves no owners but those that share.
  pub upgradable_gone : (s.role t).claims ≡ Some (Has Upgradable)
      → HasNoWriter (sharing_handed t (without_owner t Upgradable s.lock))
      × (count s.lock ≡ readers s.lock + 1)
      × (rw_code s ≡ 16 * readers s.lock + 20 + (2 * bit s.aside_parked + bit s.parked))
  upgradable_gone claims = (
    record {
      exclusive = no_writer s.lock.exclusive refl;
      pending = no_pending s.lock.pending refl;
      upgradable = refl;
    },
    rw own refl,
    rw (no_writer s.lock.exclusive refl, no_pending s.lock.pending refl, own) (omega arith),
  )
    where
      own : s.lock.upgradable ≡ Some t
      own = h.held t (Has Upgradable) claims

      no_writer : (o : Option ℕ) → s.lock.exclusive ≡ o → s.lock.exclusive ≡ None
      no_writer None e = e
      no_writer (Some u) e = absurd (let f : ◌≡◌ {A = Option ℕ} None (Some t) =
          sym (h.state.exclusive_alone u e).1 ∙ own in cc)

      no_pending : (o : Option Pending) → s.lock.pending ≡ o → s.lock.pending ≡ None
      no_pending None e = e
      no_pending (Some p) e = absurd (let f : ◌≡◌ {A = Option ℕ} None (Some t) =
          sym (h.state.pending_alone p e) ∙ own in cc)

-- ---------------------------------------------------------------- words

-- the parked bit is set anew
pub settles : (r : Rules) (s : Site) (t : ℕ) (none_left : Bool)
    → rw_code (after_deed r (bit_left none_left) s t) + bit s.parked ≡ rw_code s
    + (if none_left then 0 else 1)
settles r s t true = omega arith
settles r s t false = omega arith

pub token_even : (y : Option Want) → token_of y % 2 ≡ 0
token_even None = refl
token_even (Some Shared) = refl
token_even (Some Upgradable) = refl
token_even (Some x) = refl

pub token_small : (y : Option Want) → token_of y ≤ 16 * (if is_upgradable y then 1 else 0) + 16
token_small None = omega arith
token_small (Some Shared) = omega arith
token_small (Some Upgradable) = omega arith
token_small (Some x) = omega arith

pub token_top : (y : Option Want) → token_of y ≤ 20
token_top None = omega arith
token_top (Some Shared) = omega arith
token_top (Some Upgradable) = omega arith
token_top (Some x) = omega arith
