-- The laws on which users rely hold of each step: of each case that a call is made of.
use Rattle.std.proofs.Common.{ℕ, Bool, true, false, Option, Some, None, if◌then◌else◌, ◌==◌, ◌≡◌, ◌≢◌, ◌≤◌}
use Rattle.std.proofs.Common.{◌<◌, ◌+◌, ◌⊎◌, inl, inr, List, [], ◌∷◌, ◌++◌, refl, sym, ap, ◌∙◌, subst, length}
use Rattle.std.proofs.Common.{get_or-set_same, arith}
use Rattle.std.proofs.lemmas.Bool.{cases_eq, eqb-true}
use Rattle.std.proofs.lemmas.Bool.Decides.{nat_tests}
use Rattle.std.proofs.lemmas.List.{get_or_past, take-append-drop}
use Rattle.std.proofs.lemmas.List.Sums.{get_or-le-sum_by}
use Rattle.std.specs.Prelude.{not, filter, take, drop, slice_index}
use Rattle.core_base.specs.declared.wants.Want.{Want}
use Rattle.core_base.specs.declared.wants.Want.TheVariants.{Exclusive, Upgradable, Shared}
use Rattle.spec_locks.specs.declared.calls.Turn.{Turn}
use Rattle.spec_locks.specs.declared.calls.Turn.TheVariants as turn
use Rattle.spec_locks.specs.declared.calls.Step.{Step}
use Rattle.spec_locks.specs.declared.outcomes.Outcome.{Outcome}
use Rattle.spec_locks.specs.Locks.{LockState, LockCase, MayConvert, Enter, Pend, Settle, Leave, Convert, Park}
use Rattle.spec_locks.specs.Locks.{Aside, TakeFirst, TakePicked, Wake, HandOff, Late, Rollback, OfOnce}
use Rattle.spec_locks.specs.Locks.{once_after, Needs, IsLockState, Rules, Normal, Recursive, Queued, Pending}
use Rattle.spec_locks.specs.Locks.{Rights, rights_of, Owns, readers, sharers, times, after_case, wants_shared}
use Rattle.spec_locks.specs.Locks.{OfCondvar, putting, left_after}
use Rattle.spec_locks.specs.Onces.{OnceCase, Start, Finish, Fail, Rest, TakeAll}
use Rattle.spec_locks.specs.Locks as locks
use Rattle.spec_locks.specs.Purposes.{Purpose, Converts, ConvertsBy, Patience}
use Rattle.spec_locks.specs.Runs.{LocksState, Event, Nothing, AtLock, Moves, joined_by, AreLockStates, GoesOn}
use Rattle.spec_locks.specs.Runs.{Does, MayDo, MayHappen, Turned, IsStep, rules_at, locks_after}
use Rattle.spec_locks.specs.UserLaws.{ReadersStayOut, RereadersPass, UpgradesLetNobodyWrite, DowngradesOwn}
use Rattle.spec_locks.specs.UserLaws.{OfEachStep, IsFirstWriter, waits_to_share}
use Rattle.spec_locks.specs.Condvars.{moved_of}
use Rattle.spec_locks.specs.Sites.{has_readers}
use Rattle.spec_locks.proofs.SiteFacts.{fewer_share}
use Rattle.spec_locks.proofs.Rights.{others_keep}
use Rattle.spec_locks.proofs.Hands.{sharing_more}
use Rattle.spec_locks.proofs.Runs.{needs_of, step_keeps}

-- ---------------------------------------------------------------- a step's effect on one lock

-- the owners are the same
pub record HasOwnersOf (s s2 : LockState) : Type 0 where
  pub exclusive : s2.exclusive ≡ s.exclusive
  pub pending : s2.pending ≡ s.pending
  pub upgradable : s2.upgradable ≡ s.upgradable
  pub shared : s2.shared ≡ s.shared

-- the lock is as it was, or its thread did one case to it, of which its call is made
pub data Change (w : LocksState) (t l : ℕ) (s2 : LockState) : Type 0 where
  None_ : s2 ≡ w.locks l → Change w t l s2
  By : (case : LockCase) → MayDo w t l case (w.calls t).purpose → s2 ≡ after_case (rules_at w l) case
      (w.locks l) t → Change w t l s2
  -- A notification moved waiters from the lock, or to it: its owners stay, and it isn't shared.
  Moved : has_readers (rules_at w l).sort ≡ false → HasOwnersOf (w.locks l) s2 → Change w t l s2

module _ (w : LocksState) (t l : ℕ) where
  happened : (e : Event) → MayHappen w t e → Change w t l (locks_after w t e l)
  happened Nothing may = None_ refl
  happened (Moves c m all owned n) may = at_mutex (l == m) refl
    where
      at_condvar : (b : Bool) → (l == c) ≡ b → Change w t l (if b then left_after all (w.locks c)
          else w.locks l)
      at_condvar false e = None_ refl
      at_condvar true e = let same : l ≡ c = eqb-true l c e in rw same (Moved (rw may.sorts.0 refl) (record {
        exclusive = refl;
        pending = refl;
        upgradable = refl;
        shared = refl;
      }))

      at_mutex : (b : Bool) → (l == m) ≡ b
          → Change w t l (if b then joined_by owned t (moved_of all (w.locks c).queue) (w.locks m)
          else putting w.locks c (left_after all (w.locks c)) l)
      at_mutex false e = at_condvar (l == c) refl
      at_mutex true e = let same : l ≡ m = eqb-true l m e in rw same (Moved (rw may.sorts.1 refl) (record {
        exclusive = refl;
        pending = refl;
        upgradable = refl;
        shared = refl;
      }))
  happened (AtLock k case) may = elim (cases_eq l k) [
    | inl e ↦ rw e (By case may (ap (λ b. if b then after_case (rules_at w k) case (w.locks k) t
        else w.locks k) (same k)))
    | inr n ↦ None_ (ap (λ b. if b then after_case (rules_at w k) case (w.locks k) t else w.locks l)
        (differ l k n))
  ]
    where
      same : (k : ℕ) → (k == k) ≡ true
      same k = grind (arith, nat_tests)

      differ : (l k : ℕ) → l ≢ k → (l == k) ≡ false
      differ l k n = grind (arith, nat_tests)

  went : (v : LocksState) (o : Outcome) → GoesOn w t o v → Change w t l (v.locks l)
  went v o g = rw (g.locks l) (happened g.event g.may)

  did : (v : LocksState) (x : Turn) (o : Outcome) → Does w t x o v → Change w t l (v.locks l)
  did v (turn.Begin c) o d = None_ (d.locks l)
  did v turn.Go o d = went v o d
  did v turn.Spin o d = went v o d.goes
  did v turn.Late o d = None_ (d.locks l)
  did v turn.Ok o d = went v o d.goes
  did v turn.Err o d = went v o d.goes

  turned : (v : LocksState) (x : Turn) (o : Outcome) → Turned w t x o v → Change w t l (v.locks l)
  turned v x o (inl d) = did v x o d.1
  turned v x o (inr r) = None_ (ap (λ (u : LocksState). u.locks l) r.1.1)

pub changed : (w v : LocksState) (s : Step) (o : Outcome) (l : ℕ) → IsStep w s o v
    → Change w s.thread l (v.locks l)
changed w v s o l h = turned w s.thread l v s.turn o h.1

-- ---------------------------------------------------------------- readers beside a pending writer

module _ (r : Rules) (s : LockState) (t : ℕ) (c : IsLockState r s) (normal : r.sort ≡ Normal) where
  -- where somebody is pending, and was, no case lets a reader in
  no_reader : (case : LockCase) → Needs r case s t → s.pending ≢ None → (after_case r case s t).pending ≢ None
      → readers (after_case r case s t) ≤ readers s
  no_reader (Enter Shared) n was is = absurd (grind (arith, normal))
  no_reader (Leave Shared) n was is = grind (arith, fewer_share s.shared t)
  no_reader (Leave x) n was is = grind arith
  no_reader (Convert Exclusive x) n was is = absurd (was (c.exclusive_alone t n.0).0)
  no_reader (Convert Upgradable x) n was is = absurd (grind (arith, c.pending_alone))
  no_reader (Convert x y) n was is = absurd (grind arith)
  no_reader (HandOff Exclusive y) n was is = absurd (was (c.exclusive_alone t n.0).0)
  no_reader (HandOff Upgradable y) n was is = absurd (grind (arith, c.pending_alone))
  no_reader (HandOff x y) n was is = absurd (grind arith)
  no_reader Rollback n was is = grind arith
  no_reader (OfOnce case) n was is = absurd (let e = n.0 in cc)
  no_reader (OfCondvar case) n was is = absurd (let e = n.0 in cc)
  no_reader case n was is = grind arith

readers_stay : (w v : LocksState) (t l : ℕ) → AreLockStates w → (rules_at w l).sort ≡ Normal
    → (w.locks l).pending ≢ None → (s2 : LockState) → Change w t l s2 → s2.pending ≢ None → readers s2
    ≤ readers (w.locks l)
readers_stay w v t l all normal was s2 (None_ e) is = rw e (omega arith)
readers_stay w v t l all normal was s2 (Moved unshared same) is = absurd (let e : false ≡ true = sym unshared
    ∙ ap has_readers normal in cc)
readers_stay w v t l all normal was s2 (By case may e) is =
    rw e (no_reader (rules_at w l) (w.locks l) t (all l) normal case (needs_of w t l case (w.calls t).purpose
    may) was (subst (λ (s : LockState). s.pending ≢ None) e is))

pub readers_stay_out : OfEachStep ReadersStayOut
readers_stay_out w v s o all step l normal was is = readers_stay w v s.thread l all normal was (v.locks l)
    (changed w v s o l step) is

-- ---------------------------------------------------------------- a reader that reads once more

abbrev among : ℕ → List Queued → ℕ
among t q = times t (sharers q)

among_append : (t : ℕ) (xs ys : List Queued) → among t (xs ++ ys) ≡ among t xs + among t ys
among_append t [] ys = grind arith
among_append t (x ∷ xs) ys = grind (arith, among_append t xs ys)

among_filter : (t : ℕ) (p : Queued → Bool) (xs : List Queued) → among t (filter p xs) ≤ among t xs
among_filter t p [] = omega arith
among_filter t p (x ∷ xs) = grind (arith, among_filter t p xs)

among_take_drop : (t n : ℕ) (xs : List Queued) → among t (take n xs) + among t (drop n xs) ≡ among t xs
among_take_drop t n xs = sym (among_append t (take n xs) (drop n xs)) ∙ ap (among t) (take-append-drop n xs)

-- a waiter left of a picking was there before
among_unpicked : (t : ℕ) (r : Rules) (start : Option Want) (q : List Queued)
    → among t (locks.unpicked r.sort start q) ≤ among t q
among_unpicked t r start q =
    let n = locks.stop_of r.sort start q in
    let m = locks.front_of start q in
    let front = take n q in
    let whole = among_take_drop t n q in
    let part = among_take_drop t m front in
    let fewer = among_filter t (λ (x : Queued). not (wants_shared x.want)) (drop m front) in
    let sum_is = among_append t (locks.others (drop m front)) (drop n q) in
    rw sum_is (omega arith)

some_share : (s : LockState) (t : ℕ) → Owns s t Shared → 1 ≤ readers s
some_share s t own = grind (arith, get_or-le-sum_by (λ (n : ℕ). n) s.shared t, get_or_past s.shared t 0)

module _ (r : Rules) (s : LockState) (t u : ℕ) (c : IsLockState r s) (recursive : r.sort ≡ Recursive)
    (shares : Owns s t Shared) where
  not_blocked : locks.IsBlocked r s Shared → ⊥
  not_blocked h = grind (arith, recursive, some_share s t shares, c.exclusive_alone)

  parked : (x : Want) → locks.IsBlocked r s x → among t (s.queue ++ (record { thread = u; want = x }) ∷ [])
      ≤ among t s.queue
  parked Shared h = absurd (not_blocked h)
  parked x h = rw (among_append t s.queue ((record { thread = u; want = x }) ∷ [])) (omega arith)

  rereads : (case : LockCase) → Needs r case s u → among t (after_case r case s u).queue ≤ among t s.queue
  rereads (Park x) n = parked x n.0
  rereads (TakePicked start) n = among_unpicked t r start s.queue
  rereads (TakeFirst x) n = absurd (grind (arith, recursive))
  rereads Late n = among_filter t (λ (x : Queued). not (x.thread == u)) s.queue
  rereads (OfOnce case) n = absurd (let e = n.0 in cc)
  rereads (OfCondvar case) n = absurd (let e = n.0 in cc)
  rereads case n = grind arith

reread : (w : LocksState) (t u l : ℕ) → AreLockStates w → (rules_at w l).sort ≡ Recursive
    → Owns (w.locks l) t Shared → (s2 : LockState) → Change w u l s2 → waits_to_share t s2 ≤ waits_to_share t
    (w.locks l)
reread w t u l all recursive shares s2 (None_ e) = rw e (omega arith)
reread w t u l all recursive shares s2 (Moved unshared same) = absurd (let e : false ≡ true = sym unshared
    ∙ ap has_readers recursive in cc)
reread w t u l all recursive shares s2 (By case may e) =
    rw e (rereads (rules_at w l) (w.locks l) t u (all l) recursive shares case
    (needs_of w u l case (w.calls u).purpose may))

pub rereaders_pass : OfEachStep RereadersPass
rereaders_pass w v s o all step t l recursive shares = reread w t s.thread l all recursive shares (v.locks l)
    (changed w v s o l step)

-- ---------------------------------------------------------------- conversions

-- tells what a thread's own conversion is made of
made_of : (w : LocksState) (t l : ℕ) (case : LockCase) (x y : Want) (how : Patience) (o : Option Purpose)
    → MayDo w t l case o → o ≡ Some (Converts l x y how) → ConvertsBy x y how (w.calls t).gave_up case
made_of w t l case x y how None may e = absurd may
made_of w t l case x y how (Some p) may e = grind arith

no_other : (r : Rules) (s : LockState) (t : ℕ) → IsLockState r s → IsFirstWriter s t → (u : ℕ)
    → Owns s u Exclusive → u ≡ t
no_other r s t c (inl upgradable) u own = absurd (grind (arith, c.exclusive_alone))
no_other r s t c (inr (inl pending)) u own = absurd (grind (arith, c.exclusive_alone))
no_other r s t c (inr (inr alone)) u own = grind arith

writes_on : (case : OnceCase) (s : LockState) (t u : ℕ) → IsFirstWriter s t
    → IsFirstWriter (once_after case s u) t
writes_on (Start forced) s t u h = h
writes_on Finish s t u h = h
writes_on Fail s t u h = h
writes_on (Rest wanted forced) s t u h = h
writes_on TakeAll s t u h = h

module _ (r : Rules) (s : LockState) (t u : ℕ) (c : IsLockState r s) where
  upgrades : (case : LockCase) → Needs r case s u → (u ≡ t → (how : Patience) × (gave_up : Option ℕ)
      × ConvertsBy Upgradable Exclusive how gave_up case) → IsFirstWriter s t
      → IsFirstWriter (after_case r case s u) t
  upgrades (Enter Exclusive) n own h =
      absurd (grind (arith, nat_tests, c.exclusive_alone, c.pending_alone, c.unpending))
  upgrades (Enter Upgradable) n own h =
      absurd (grind (arith, nat_tests, c.exclusive_alone, c.pending_alone, c.unpending))
  upgrades (Enter x) n own h = grind (arith, nat_tests)
  upgrades Pend n own h = absurd (grind (arith, nat_tests, c.exclusive_alone, c.pending_alone, c.unpending))
  upgrades Settle n own h = grind (arith, nat_tests, c.exclusive_alone, c.pending_alone)
  upgrades (Leave Exclusive) n own h = grind (arith, nat_tests, c.exclusive_alone, c.pending_alone)
  upgrades (Leave Upgradable) n own h = grind (arith, nat_tests, c.exclusive_alone, c.pending_alone)
  upgrades (Leave x) n own h = grind (arith, nat_tests)
  upgrades (Convert x y) n own h = grind (arith, nat_tests, c.exclusive_alone, c.pending_alone)
  upgrades (HandOff x y) n own h = grind (arith, nat_tests, c.exclusive_alone, c.pending_alone)
  upgrades Rollback n own h = grind (arith, nat_tests, c.exclusive_alone, c.pending_alone)
  upgrades (OfOnce case) n own h = writes_on case s t u h
  upgrades case n own h = grind (arith, nat_tests)

upgrade_holds : (w : LocksState) (t u l : ℕ) (how : Patience) → AreLockStates w → (w.calls t).purpose
    ≡ Some (Converts l Upgradable Exclusive how) → IsFirstWriter (w.locks l) t → (s2 : LockState)
    → Change w u l s2 → IsFirstWriter s2 t
upgrade_holds w t u l how all for h s2 (None_ e) = rw e h
upgrade_holds w t u l how all for h s2 (Moved unshared same) = elim h [
  | inl up ↦ inl (same.upgradable ∙ up)
  | inr (inl pends) ↦ inr (inl (same.pending ∙ pends))
  | inr (inr alone) ↦ inr (inr (same.exclusive ∙ alone))
]
upgrade_holds w t u l how all for h s2 (By case may e) =
    rw e (upgrades (rules_at w l) (w.locks l) t u (all l) case (needs_of w u l case (w.calls u).purpose may)
    (λ same. (
      how,
      (w.calls u).gave_up,
      made_of w u l case Upgradable Exclusive how (w.calls u).purpose may
          (rw same for),
    )) h)

pub upgrades_hold : OfEachStep UpgradesLetNobodyWrite
upgrades_hold w v s o all step t l how for h =
    let first = upgrade_holds w t s.thread l how all for h (v.locks l) (changed w v s o l step) in
    (first, no_other (rules_at v l) (v.locks l) t (step_keeps w v s o step all l) first)

owns_by_rights : (s s2 : LockState) (t : ℕ) (z : Want) → rights_of s2 t ≡ rights_of s t → Owns s t z
    → Owns s2 t z
owns_by_rights s s2 t Exclusive same own = let e = ap (λ (x : Rights). x.exclusive) same
    in grind (arith, nat_tests)
owns_by_rights s s2 t Upgradable same own = let e = ap (λ (x : Rights). x.upgradable) same
    in grind (arith, nat_tests)
owns_by_rights s s2 t Shared same own = let e : slice_index s2.shared t ≡ slice_index s.shared t =
    ap (λ (x : Rights). x.shared) same in rw e own
owns_by_rights s s2 t z same own = absurd own

module _ (r : Rules) (s : LockState) (t u : ℕ) (c : IsLockState r s) (other : t ≢ u) where
  -- a hand-over of one thread leaves each other owner what it has
  beside_hand_over : (x : Want) (y : Option Queued) → Needs r (HandOff x y) s u → (z : Want) → Owns s t z
      → Owns (after_case r (HandOff x y) s u) t z
  beside_hand_over Exclusive y n Exclusive own = absurd (grind arith)
  beside_hand_over Exclusive y n Upgradable own = absurd (grind (arith, c.exclusive_alone u))
  beside_hand_over Exclusive y n Shared own = absurd (let some : 1 ≤ readers s = some_share s t own
      in grind (arith, c.exclusive_alone u))
  beside_hand_over Upgradable y n Exclusive own = absurd (grind (arith, c.exclusive_alone t))
  beside_hand_over Upgradable y n Upgradable own = absurd (grind arith)
  beside_hand_over Upgradable None n Shared own = let more = sharing_more u s.taken 0 t s.shared
      in omega arith
  beside_hand_over Upgradable (Some y) n Shared own =
      let more = sharing_more u s.taken 0 t s.shared in
      let wants_more : y.want ≢ Shared = ((n.2 y.thread y.want).0 refl).1 in
      succeeds y.want y.thread wants_more (locks.sharing_handed u (locks.without_owner u Upgradable s))
      (omega arith)
    where
      succeeds : (x : Want) (k : ℕ) → x ≢ Shared → (v : LockState) → 1 ≤ slice_index v.shared t
          → 1 ≤ slice_index (locks.succeeding x k v).shared t
      succeeds Exclusive k more v some = by_readers (readers v == 0)
        where
          by_readers : (b : Bool) → 1 ≤ slice_index (if b then locks.with_owner k Exclusive v
              else locks.pending_for k false v).shared t
          by_readers true = some
          by_readers false = some
      succeeds Shared k more v some = absurd (more refl)
      succeeds x k more v some = some
  beside_hand_over x y n z own = absurd (grind arith)

  beside : (case : LockCase) → Needs r case s u → (z : Want) → Owns s t z → Owns (after_case r case s u) t z
  beside (HandOff x y) n z own = beside_hand_over x y n z own
  beside case n z own = owns_by_rights s (after_case r case s u) t z (others_keep r s u t c other case
      (λ x y. grind arith) n) own

-- the thread itself: it has the lesser right once it has turned the greater one into it
module _ (r : Rules) (s : LockState) (t : ℕ) (c : IsLockState r s) (there : t < length s.shared) (x y : Want)
    (less : y ≢ Exclusive) where
  lesser_owned : (a b : Want) → MayConvert a b → b ≢ Exclusive
      → Owns (locks.converted t b (locks.without_owner t a s)) t b
  lesser_owned Exclusive Shared may more = let e = get_or-set_same s.shared t (slice_index s.shared t + 1) 0
      there in omega arith
  lesser_owned Exclusive Upgradable may more = refl
  lesser_owned Upgradable Shared may more = let e = get_or-set_same s.shared t (slice_index s.shared t + 1) 0
      there in omega arith
  lesser_owned Upgradable Exclusive may more = absurd (more refl)
  lesser_owned a b may more = absurd (grind arith)

  fallen : (z : Want) → Needs r Rollback s t → Owns s t z → Owns (after_case r Rollback s t) t z
  fallen Exclusive n own = absurd (grind (arith, c.exclusive_alone t))
  fallen Upgradable n own = absurd (grind (arith, c.pending_alone))
  fallen Shared n own = by_pending s.pending
    where
      by_pending : (o : Option Pending)
          → 1 ≤ slice_index (locks.falling_back t o (record s { pending = None })).shared t
      by_pending None = own
      by_pending (Some p) = by_fallback p.falls_back
        where
          by_fallback : (b : Bool) → 1 ≤ slice_index (if b then locks.with_owner t Upgradable
              (record s { pending = None }) else record s { pending = None }).shared t
          by_fallback true = own
          by_fallback false = own
  fallen z n own = absurd own

  owns_on : (case : LockCase) (how : Patience) (gave_up : Option ℕ) → Needs r case s t
      → ConvertsBy x y how gave_up case → Owns s t x ⊎ Owns s t y
      → Owns (after_case r case s t) t x ⊎ Owns (after_case r case s t) t y
  owns_on (Convert a b) how gave_up n made h = inr (rw (← made.1) (lesser_owned a b n.1 (rw made.1 less)))
  owns_on Settle how gave_up n made h = absurd (less made.0)
  owns_on Rollback how gave_up n made (inl own) = inl (fallen x n own)
  owns_on Rollback how gave_up n made (inr own) = inr (fallen y n own)
  owns_on Aside how gave_up n made h = h
  owns_on Late how gave_up n made h = h
  owns_on (TakePicked start) how gave_up n made h = h
  owns_on Wake how gave_up n made h = h
  owns_on case how gave_up n made h = absurd made

module _ (w : LocksState) (t u l : ℕ) (x y : Want) (how : Patience) (all : AreLockStates w) (there : t
    < length (w.locks l).shared) (for : (w.calls t).purpose ≡ Some (Converts l x y how)) (less : y
    ≢ Exclusive) (h : Owns (w.locks l) t x ⊎ Owns (w.locks l) t y) where
  by_thread : (case : LockCase) → MayDo w u l case (w.calls u).purpose → (t ≡ u) ⊎ (t ≢ u)
      → Owns (after_case (rules_at w l) case (w.locks l) u) t x
      ⊎ Owns (after_case (rules_at w l) case (w.locks l) u) t y
  by_thread case may (inl same) =
      let own : MayDo w t l case (w.calls t).purpose = subst (λ k. MayDo w k l case (w.calls k).purpose)
      (sym same) may in
      rw (← same) (owns_on (rules_at w l) (w.locks l) t (all l) there x y less case how (w.calls t).gave_up
      (needs_of w t l case (w.calls t).purpose own) (made_of w t l case x y how (w.calls t).purpose own
      for) h)
  by_thread case may (inr other) =
      let needs = needs_of w u l case (w.calls u).purpose may in
      elim h [
        | inl own ↦ inl (beside (rules_at w l) (w.locks l) t u (all l) other case needs x own)
        | inr own ↦ inr (beside (rules_at w l) (w.locks l) t u (all l) other case needs y own)
      ]

  owns_still : (z : Want) {s2 : LockState} → HasOwnersOf (w.locks l) s2 → Owns (w.locks l) t z → Owns s2 t z
  owns_still Exclusive same own = same.exclusive ∙ own
  owns_still Upgradable same own = same.upgradable ∙ own
  owns_still Shared same own = rw same.shared own
  owns_still z same own = absurd own

  downgrade_holds : (s2 : LockState) → Change w u l s2 → Owns s2 t x ⊎ Owns s2 t y
  downgrade_holds s2 (None_ e) = rw e h
  downgrade_holds s2 (Moved unshared same) = elim h [
    | inl own ↦ inl (owns_still x same own)
    | inr own ↦ inr (owns_still y same own)
  ]
  downgrade_holds s2 (By case may e) = rw e (by_thread case may (cases_eq t u))

pub downgrades_hold : OfEachStep DowngradesOwn
downgrades_hold w v s o all step t l x y how there for less h = downgrade_holds w t s.thread l x y how all
    there for less h (v.locks l) (changed w v s o l step)
