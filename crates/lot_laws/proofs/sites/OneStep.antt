-- A step of one thread and the site of the lock that it calls, for locks of any rules and places of any
-- sort.
use Rattle.lot_laws.proofs.Imports
use Imports.{ℕ, Bool, true, false, Option, Some, None, if◌then◌else◌, ◌==◌, ◌||◌, ◌≡◌, ◌≢◌, ◌+◌, ◌*◌, ◌≤◌, ◌<◌}
use Imports.{length, length-set, List, [], ◌∷◌, ◌++◌, inl, inr, map, cond, not, refl, sym, ◌∙◌, ap, arith, sum}
use Imports.{cases_eq, or-false, Waiter, Want, waiter, without, times, Place, OnceCase, Start, Finish, Fail}
use Imports.{Rest, TakeAll, LockState, LockCase, Pending, Rules, Sort, Recursive, OfOnce, once_after, putting}
use Imports.{readers, CondvarCase, Hide, queued_of, Site, IsSite, Deed, Main, Begin, End, In, Out, Mark, Clear}
use Imports.{FindNobody, MarkOwned, Bring, MarkBrought, Send, LeaveLine, Case, has_readers, is_empty, is_full}
use Imports.{after_deed, Needed, bit, packed, code, word_by, parked_in, aside_in, fills, HasLimit, IsHandOff}
use Imports.{shown_code, words_tell_true, limit_kept, deed_keeps, taken_at, acts, role_on, ActsNeeded}
use Imports.{after_acts}
use Rattle.core_base.specs.declared.wants.Want.TheVariants as wants
use Rattle.spec_locks.specs.Locks.{Mutex, Normal}
use Rattle.spec_locks.specs.Locks.{Semaphore, Once, Look}
use Rattle.spec_locks.specs.Locks.{Show}
use Rattle.spec_locks.specs.Locks as locks
use Rattle.lot_laws.specs.ThreadDeeds as deeds
use Rattle.lot_laws.proofs.machine.Parts.{Parts, differ, lock_in, seen_in, put_here, put_other, put_of}
use Rattle.lot_laws.proofs.machine.Parts.{put_same}

-- ---------------------------------------------------------------- deeds of one thread

abbrev pub IsSingle : Deed → Type 0
IsSingle Out = ⊥
IsSingle deed = Unit {0}

abbrev pub AreSingle : List Deed → Type 0
AreSingle [] = Unit {0}
AreSingle (d ∷ ds) = IsSingle d × AreSingle ds

others_same_by : (r : Rules) (d : Deed) (s : Site) (t u : ℕ) → IsSingle d → u ≢ t
    → (after_deed r d s t).role u ≡ s.role u
others_same_by r (Begin c) s t u h ne = put_other s.role t _ u ne
others_same_by r End s t u h ne = put_other s.role t _ u ne
others_same_by r (In m) s t u h ne = put_other s.role t _ u ne
others_same_by r Out s t u h ne = absurd h
others_same_by r (Mark Main) s t u h ne = refl
others_same_by r (Mark m) s t u h ne = refl
others_same_by r (Clear Main) s t u h ne = put_other s.role t _ u ne
others_same_by r (Clear m) s t u h ne = put_other s.role t _ u ne
others_same_by r (FindNobody m) s t u h ne = put_other s.role t _ u ne
others_same_by r MarkOwned s t u h ne = put_other s.role t _ u ne
others_same_by r (Bring taken moved) s t u h ne = put_other s.role t _ u ne
others_same_by r MarkBrought s t u h ne = put_other s.role t _ u ne
others_same_by r (Send all) s t u h ne = refl
others_same_by r LeaveLine s t u h ne = refl
others_same_by r (Case case) s t u h ne = put_other s.role t _ u ne

pub others_same : (r : Rules) (ds : List Deed) (s : Site) (t u : ℕ) → AreSingle ds → u ≢ t
    → (after_acts r (acts t ds) s).role u ≡ s.role u
others_same r [] s t u h ne = refl
others_same r (d ∷ ds) s t u h ne = others_same r ds (after_deed r d s t) t u h.1 ne
    ∙ others_same_by r d s t u h.0 ne

-- deeds one after another keep a site
pub acts_keep : (r : Rules) (ds : List deeds.Act) (s : Site) → IsSite r s → ActsNeeded r ds s
    → IsSite r (after_acts r ds s)
acts_keep r [] s h n = h
acts_keep r (a ∷ more) s h n = acts_keep r more (after_deed r a.deed s a.by)
    (deed_keeps r a.deed s a.by h n.0) n.1

-- ---------------------------------------------------------------- whether the lock was full

-- no deed fills a lock that nobody shares
pub same_filled : (r : Rules) (ds : List deeds.Act) (s : Site) → has_readers r.sort ≡ false
    → (after_acts r ds s).filled ≡ s.filled
same_filled r [] s h = refl
same_filled r (a ∷ ds) s h = same_filled r ds (after_deed r a.deed s a.by) h ∙ filled_by a.deed
  where
    filled_by : (d : Deed) → (after_deed r d s a.by).filled ≡ s.filled
    filled_by (Case case) = rw h (or-false s.filled)
    filled_by (Mark Main) = refl
    filled_by (Mark m) = refl
    filled_by (Clear Main) = refl
    filled_by (Clear m) = refl
    filled_by d = refl

-- a deed that is no case of the lock
abbrev pub IsQuiet : Deed → Type 0
IsQuiet (Case case) = ⊥
IsQuiet deed = Unit {0}

abbrev pub AreQuiet : List Deed → Type 0
AreQuiet [] = Unit {0}
AreQuiet (d ∷ ds) = IsQuiet d × AreQuiet ds

-- only the first deed of a step may be a case
abbrev pub HasOneCase : List Deed → Type 0
HasOneCase [] = Unit {0}
HasOneCase (d ∷ ds) = AreQuiet ds

-- such a deed changes no owner, and what was full stays so
record StaysFull (r : Rules) (s v : Site) : Type 0 where
  pub filled : v.filled ≡ s.filled
  pub full : is_full r v.lock ≡ is_full r s.lock

quiet_by : (r : Rules) (d : Deed) (s : Site) (t : ℕ) → IsQuiet d → StaysFull r s (after_deed r d s t)
quiet_by r (Case case) s t h = absurd h
quiet_by r (Mark Main) s t h = record { filled = refl; full = refl }
quiet_by r (Mark m) s t h = record { filled = refl; full = refl }
quiet_by r (Clear Main) s t h = record { filled = refl; full = refl }
quiet_by r (Clear m) s t h = record { filled = refl; full = refl }
quiet_by r d s t h = record { filled = refl; full = refl }

quiet_all : (r : Rules) (ds : List Deed) (s : Site) (t : ℕ) → AreQuiet ds
    → StaysFull r s (after_acts r (acts t ds) s)
quiet_all r [] s t h = record { filled = refl; full = refl }
quiet_all r (d ∷ ds) s t h =
    let a = quiet_by r d s t h.0 in
    let b = quiet_all r ds (after_deed r d s t) t h.1 in
    record { filled = b.filled ∙ a.filled; full = b.full ∙ a.full }

-- once full, noted
pub noted : (r : Rules) (s : Site) → IsSite r s → s.filled ≡ (s.filled || is_full r s.lock)
noted r s site = either s.filled (is_full r s.lock) refl refl
  where
    either : (a b : Bool) → s.filled ≡ a → is_full r s.lock ≡ b → a ≡ (a || b)
    either true b e f = refl
    either false false e f = refl
    either false true e f = sym e ∙ site.full f

pub full_then : (r : Rules) (ds : List Deed) (s : Site) (t : ℕ) → HasOneCase ds → IsSite r s
    → (after_acts r (acts t ds) s).filled ≡ (s.filled || is_full r (after_acts r (acts t ds) s).lock)
full_then r [] s t h site = noted r s site
full_then r (Case case ∷ ds) s t h site =
    let a = quiet_all r ds (after_deed r (Case case) s t) t h in
    a.filled ∙ ap (λ b. s.filled || b) (sym a.full)
full_then r (d ∷ ds) s t h site = by_deed d
  where
    by_deed : (d : Deed)
        → (after_acts r (acts t (d ∷ ds)) s).filled
        ≡ (s.filled || is_full r (after_acts r (acts t (d ∷ ds)) s).lock)
    by_deed (Case case) = let a = quiet_all r ds (after_deed r (Case case) s t) t h in a.filled
        ∙ ap (λ b. s.filled || b) (sym a.full)
    by_deed (Mark Main) = let a = quiet_all r (Mark Main ∷ ds) s t (tt, h) in a.filled ∙ noted r s site
        ∙ ap (λ b. s.filled || b) (sym a.full)
    by_deed (Mark m) = let a = quiet_all r (Mark m ∷ ds) s t (tt, h) in a.filled ∙ noted r s site
        ∙ ap (λ b. s.filled || b) (sym a.full)
    by_deed (Clear Main) = let a = quiet_all r (Clear Main ∷ ds) s t (tt, h) in a.filled ∙ noted r s site
        ∙ ap (λ b. s.filled || b) (sym a.full)
    by_deed (Clear m) = let a = quiet_all r (Clear m ∷ ds) s t (tt, h) in a.filled ∙ noted r s site
        ∙ ap (λ b. s.filled || b) (sym a.full)
    by_deed d = let a = quiet_all r (d ∷ ds) s t (tt, h) in a.filled ∙ noted r s site
        ∙ ap (λ b. s.filled || b) (sym a.full)

-- a word that is the lock's says whether it is full
pub fills_by : (r : Rules) (s : Site) (v : ℕ) → IsSite r s → v ≡ code r s → fills r v ≡ is_full r s.lock
fills_by r s v site e = either (has_readers r.sort) refl
  where
    either : (b : Bool) → has_readers r.sort ≡ b → fills r v ≡ is_full r s.lock
    either false f = rw f refl
    either true f = let c = (words_tell_true r s f site).count in rw (e, c) refl

-- ---------------------------------------------------------------- the limit

module _ (t : ℕ) where
  with_owner_count : (x : Want) (s : LockState) → length (locks.with_owner t x s).shared ≡ length s.shared
  with_owner_count wants.Shared s = length-set s.shared t _
  with_owner_count wants.Exclusive s = refl
  with_owner_count wants.Upgradable s = refl
  with_owner_count x s = refl

  without_owner_count : (x : Want) (s : LockState) → length (locks.without_owner t x s).shared
      ≡ length s.shared
  without_owner_count wants.Shared s = length-set s.shared t _
  without_owner_count wants.Exclusive s = refl
  without_owner_count wants.Upgradable s = refl
  without_owner_count x s = refl

  writing_count : (b : Bool) (s : LockState)
      → length (if b then locks.with_owner t wants.Exclusive s else locks.pending_for t true s).shared
      ≡ length s.shared
  writing_count true s = refl
  writing_count false s = refl

  converted_count : (x : Want) (s : LockState) → length (locks.converted t x s).shared ≡ length s.shared
  converted_count wants.Exclusive s = writing_count (readers s == 0) s
  converted_count wants.Shared s = length-set s.shared t _
  converted_count wants.Upgradable s = refl
  converted_count x s = refl

  fallen_count : (o : Option Pending) (s : LockState) → length (locks.falling_back t o s).shared
      ≡ length s.shared
  fallen_count None s = refl
  fallen_count (Some p) s = either p.falls_back
    where
      either : (b : Bool) → length (if b then locks.with_owner t wants.Upgradable s else s).shared
          ≡ length s.shared
      either true = refl
      either false = refl

  once_count : (case : OnceCase) (s : LockState) → length (once_after case s t).shared ≡ length s.shared
  once_count (Start forced) s = refl
  once_count Finish s = refl
  once_count Fail s = refl
  once_count (Rest wanted forced) s = refl
  once_count TakeAll s = refl

  condvar_count : (case : CondvarCase) (s : LockState) → length (locks.condvar_after case s).shared
      ≡ length s.shared
  condvar_count (Look seen) s = refl
  condvar_count (Show m) s = refl
  condvar_count Hide s = refl

  -- as many numbers as before
  case_count : (r : Rules) (case : LockCase) (s : LockState) → (IsHandOff case → ⊥)
      → length (locks.after_case r case s t).shared ≡ length s.shared
  case_count r (locks.Enter x) s other = with_owner_count x s
  case_count r (locks.Leave x) s other = without_owner_count x s
  case_count r (locks.Convert x y) s other = converted_count y (locks.without_owner t x s)
      ∙ without_owner_count x s
  case_count r locks.Rollback s other = fallen_count s.pending (record s { pending = None })
  case_count r (locks.HandOff x y) s other = absurd (other tt)
  case_count r (OfOnce case) s other = once_count case s
  case_count r (locks.OfCondvar case) s other = condvar_count case s
  case_count r case s other = refl

-- tells what a deed that hands nothing over keeps
record KeepsLimit (r : Rules) (s v : LockState) : Type 0 where
  pub count : length v.shared ≡ length s.shared
  pub limit : HasLimit r v

-- a thread that is there hands nothing over
abbrev pub IsOrdinary : ℕ → ℕ → Deed → Type 0
IsOrdinary threads t (Case case) = (t < threads) × (IsHandOff case → ⊥)
IsOrdinary threads t deed = Unit {0}

abbrev pub AreOrdinary : ℕ → List deeds.Act → Type 0
AreOrdinary threads [] = Unit {0}
AreOrdinary threads (a ∷ ds) = IsOrdinary threads a.by a.deed × AreOrdinary threads ds

deed_limited : (r : Rules) (d : Deed) (s : Site) (t n : ℕ) → has_readers r.sort ≡ true → 1 ≤ r.limit
    → length s.lock.shared ≡ n
    → IsOrdinary n t d → IsSite r s → Needed r d s t → HasLimit r s.lock → KeepsLimit r s.lock
    (after_deed r d s t).lock
deed_limited r (Case case) s t n readers some e o site needed h = record {
  count = case_count t r case s.lock o.1;
  limit = limit_kept r case s.lock t readers (let lt : t < n = o.0 in omega arith) some site.state h needed.0
      o.1;
}
deed_limited r (Mark Main) s t n readers some e o site needed h = record { count = refl; limit = h }
deed_limited r (Mark m) s t n readers some e o site needed h = record { count = refl; limit = h }
deed_limited r (Clear Main) s t n readers some e o site needed h = record { count = refl; limit = h }
deed_limited r (Clear m) s t n readers some e o site needed h = record { count = refl; limit = h }
deed_limited r d s t n readers some e o site needed h = record {
  count = refl;
  limit = record { top = h.top; normal = h.normal; falls = h.falls; falls_normal = h.falls_normal };
}

pub acts_limited : (r : Rules) (ds : List deeds.Act) (s : Site) (n : ℕ) → has_readers r.sort ≡ true
    → 1 ≤ r.limit
    → length s.lock.shared ≡ n → AreOrdinary n ds → IsSite r s → ActsNeeded r ds s → HasLimit r s.lock
    → HasLimit r (after_acts r ds s).lock
acts_limited r [] s n readers some e o site needed h = h
acts_limited r (a ∷ more) s n readers some e o site needed h =
    let k = deed_limited r a.deed s a.by n readers some e o.0 site needed.0 h in
    acts_limited r more (after_deed r a.deed s a.by) n readers some (k.count ∙ e) o.1
    (deed_keeps r a.deed s a.by site needed.0) needed.1 k.limit

-- ---------------------------------------------------------------- words

-- the word is the lock's by its owners, that of a `Once` by its phase, and that of a condition variable by
-- the mutex that it shows
pub same_word : (sort : Sort) (limit : ℕ) (s v : LockState) (x y : Bool) → v.exclusive ≡ s.exclusive
    → v.pending ≡ s.pending
    → v.upgradable ≡ s.upgradable → v.shared ≡ s.shared → v.phase ≡ s.phase → v.shown ≡ s.shown
    → word_by sort limit v x y ≡ word_by sort limit s x y
same_word Mutex limit s v x y e p u n f m = λ i. locks.one_if_some (e i) + 2 * bit y
same_word Normal limit s v x y e p u n f m = λ i. packed (sum (n i) + locks.one_if_some (u i))
    (locks.one_if_some (e i) + locks.one_if_some (p i)) (locks.one_if_some (u i)) (bit x) (bit y)
same_word Recursive limit s v x y e p u n f m = λ i. packed (sum (n i) + locks.one_if_some (u i))
    (locks.one_if_some (e i) + locks.one_if_some (p i)) (locks.one_if_some (u i)) (bit x) (bit y)
same_word Semaphore limit s v x y e p u n f m = λ i. word_by Semaphore limit (record s { shared = n i }) x y
same_word Once limit s v x y e p u n f m = λ i. word_by Once limit (record s { phase = f i }) x y
same_word locks.Condvar limit s v x y e p u n f m = ap shown_code m

-- ---------------------------------------------------------------- a site by its parts

-- a site as it is seen is one that is known by its parts
pub meets : (r : Rules) (l : ℕ) (b : Parts) (p : ℕ → Place) (t : ℕ) (p2 : Place) (v : Site) → taken_at (p t) l
    ≡ taken_at p2 l
    → lock_in b (λ u. taken_at (p u) l) ≡ v.lock → parked_in r.sort b.word ≡ v.parked → aside_in r.sort b.word
    ≡ v.aside_parked
    → b.base.filled ≡ v.filled
    → role_on p2 l ≡ v.role t → ((u : ℕ) → u ≢ t → v.role u ≡ role_on (p u) l)
    → seen_in r l b (putting p t p2) ≡ v
meets r l b p t p2 v hand lock parked aside full own others = λ i. record {
  lock = ((λ j. lock_in b (λ u. taken_same u j)) ∙ lock) i;
  parked = parked i;
  aside_parked = aside i;
  filled = full i;
  role = λ u. role_now u i;
}
  where
    taken_same : (u : ℕ) → taken_at (putting p t p2 u) l ≡ taken_at (p u) l
    taken_same u = put_of (λ x. taken_at x l) p t p2 u ∙ put_same (λ k. taken_at (p k) l) t (taken_at p2 l)
        hand u

    role_now : (u : ℕ) → role_on (putting p t p2 u) l ≡ v.role u
    role_now u = elim (cases_eq u t) [
      | inl e ↦ rw (e, put_here p t p2) own
      | inr ne ↦ rw (put_other p t p2 u ne) (sym (others u ne))
    ]

-- the thread goes from where it stands to p2, by deeds that are allowed, and the lock has these parts then
pub record Steps (r : Rules) (l : ℕ) (a b : Parts) (p : ℕ → Place) (t : ℕ) (p2 : Place)
    (ds : List Deed) : Type 0 where
  pub site : seen_in r l b (putting p t p2) ≡ after_acts r (acts t ds) (seen_in r l a p)
  pub needed : ActsNeeded r (acts t ds) (seen_in r l a p)

-- where the laws of its sort say so: what each deed makes of the lock, of its bits, and of what the thread
-- does
pub steps_by : (r : Rules) (l : ℕ) (a b : Parts) (p : ℕ → Place) (t : ℕ) (p2 : Place) (ds : List Deed)
    → ActsNeeded r (acts t ds) (seen_in r l a p) → AreSingle ds → taken_at (p t) l ≡ taken_at p2 l
    → lock_in b (λ u. taken_at (p u) l) ≡ (after_acts r (acts t ds) (seen_in r l a p)).lock
    → parked_in r.sort b.word ≡ (after_acts r (acts t ds) (seen_in r l a p)).parked
    → aside_in r.sort b.word ≡ (after_acts r (acts t ds) (seen_in r l a p)).aside_parked
    → b.base.filled ≡ (after_acts r (acts t ds) (seen_in r l a p)).filled
    → role_on p2 l ≡ (after_acts r (acts t ds) (seen_in r l a p)).role t → Steps r l a b p t p2 ds
steps_by r l a b p t p2 ds needed single hand lock parked aside full own = record {
  site = meets r l b p t p2 (after_acts r (acts t ds) (seen_in r l a p)) hand lock parked aside full own
      (λ u ne. others_same r ds (seen_in r l a p) t u single ne);
  needed = needed;
}

-- ---------------------------------------------------------------- queues, seen without their keys

pub queued_after : (key t : ℕ) (x : Want) (q : List Waiter) → map queued_of (q ++ waiter key t x ∷ [])
    ≡ map queued_of q ++ (record { thread = t; want = x }) ∷ []
queued_after key t x [] = refl
queued_after key t x (y ∷ q) = ap (λ ys. queued_of y ∷ ys) (queued_after key t x q)

pub queued_without : (t : ℕ) (q : List Waiter) → map queued_of (without t q) ≡ locks.without t
    (map queued_of q)
queued_without t [] = refl
queued_without t (y ∷ q) = either (not (y.thread == t)) (queued_without t q)
  where
    either : (b : Bool) → map queued_of (without t q) ≡ locks.without t (map queued_of q)
        → map queued_of (cond b (y ∷ without t q) (without t q))
        ≡ cond b (queued_of y ∷ locks.without t (map queued_of q)) (locks.without t (map queued_of q))
    either true e = ap (λ ys. queued_of y ∷ ys) e
    either false e = e

pub queued_times : (t : ℕ) (q : List Waiter) → locks.times t (map queued_of q) ≡ times t q
queued_times t [] = refl
queued_times t (y ∷ q) = ap (λ k. (if y.thread == t then 1 else 0) + k) (queued_times t q)

pub empty_line : (xs : List Waiter) → is_empty (map queued_of xs) ≡ (length xs == 0)
empty_line [] = refl
empty_line (x ∷ xs) = sym (differ (length (x ∷ xs)) 0 (λ e. omega arith))
