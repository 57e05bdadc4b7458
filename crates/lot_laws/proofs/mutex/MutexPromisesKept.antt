-- The promises of every state, and of every step, in the words that users of a mutex know.
use Rattle.lot_laws.proofs.Imports
use Imports.{ℕ, true, false, Option, Some, None, ◌≡◌, ◌⊎◌, inl, inr, refl, sym, ◌∙◌, ap, subst, Want, Exclusive}
use Imports.{Upgradable, Shared, Outcome, is_parked, line_owed, Knows, Sort, parked_in, aside_in, word_by, Line}
use Imports.{Main, Second, has_readers, CondvarMemory, Purpose, Enters, Releases, Converts, Bumps, CallsOnce}
use Imports.{Awaits}
use Imports.{Waits, Notifies, State, place_at, word_at, kind_at, owner_at, lock_state, call_at, is_mutex}
use Imports.{rules_in, Owes, IsInside, IsWait, ReleasesLock, LetsOthersIn, SeesWaiters, OwesSince, OnlyLooks}
use Imports.{LooksFirst, line_let_in, tells_by, sort_at, WakesWaiters, IsKept, IsLookedAfterIn, IsOpenNow}
use Imports.{KnowsRights, WakesAside, HasDebtor, HasReleasedIt, IsShownToOwe, WakesOne, GoesToRelease}
use Imports.{SeesParkedBit, IsMutexKept, MutexesAreKept, OwesMutexSince, MutexesOwe}
use Rattle.lot_steps.specs.Steps.{is_line}
use Rattle.spec_locks.specs.Locks as locks
use Rattle.lot_laws.proofs.machine.Parts.{mutex}
use Rattle.lot_laws.proofs.sites.StandsMoved.{mutex_rules}
use Rattle.lot_laws.proofs.promises.RowPromises.{mutex_tells}
use Rattle.lot_laws.proofs.promises.SitesPromise.{codes_by}

-- a mutex knows one right
only_exclusive : (x : Want) → Knows locks.Mutex x → x ≡ Exclusive
only_exclusive Exclusive h = refl
only_exclusive x h = absurd h

-- each thread that wakes the waiters of a mutex releases it, waits with it, or notifies and has seen it
wakes_one : (sort : ℕ → Sort) (q : Option Purpose) (g : Option ℕ) (r : CondvarMemory) (l : ℕ)
    → sort l ≡ locks.Mutex
    → KnowsRights sort q
    → WakesWaiters locks.Mutex q g r l → WakesOne q r l
wakes_one sort None g r l e knows h = h
wakes_one sort (Some (Enters k x how)) g r l e knows h = absurd (let f : false ≡ true = h.2 in cc)
wakes_one sort (Some (Releases k x fair)) g r l e knows h = (
  h.0,
  right,
  elim h.1 [
    | inl unfair ↦ unfair
    | inr greater ↦ absurd (let f : Exclusive ≡ Upgradable =
        sym right ∙ greater in cc)
  ],
)
  where
    right : x ≡ Exclusive
    right = only_exclusive x (subst (λ s. Knows s x) (ap sort h.0 ∙ e) knows)
wakes_one sort (Some (Converts k x y how)) g r l e knows h = absurd (elim h.1 [
  | inl less ↦ less (only_exclusive y (subst (λ s. Knows s y) (ap sort h.0 ∙ e) knows.1))
  | inr gave_up ↦ let f : false ≡ true = gave_up.1 in cc
])
wakes_one sort (Some (CallsOnce k forced)) g r l e knows h = absurd (let f : locks.Once ≡ locks.Mutex =
    sym knows ∙ (ap sort h ∙ e) in cc)
wakes_one sort (Some (Awaits k forced timed)) g r l e knows h = h
wakes_one sort (Some (Waits k m timed)) g r l e knows h = h
wakes_one sort (Some (Notifies k all)) g r l e knows h = h
wakes_one sort (Some (Bumps k x)) g r l e knows h =
    absurd (h.1 (only_exclusive x (subst (λ s. Knows s x) (ap sort h.0 ∙ e) knows)))

-- the line that a call of a mutex lets in is its queue
lets_in_main : (q : Option Purpose) → line_let_in locks.Mutex q ≡ Main
lets_in_main (Some (Releases l Shared fair)) = refl
lets_in_main (Some (Releases l Exclusive fair)) = refl
lets_in_main (Some (Releases l x fair)) = refl
lets_in_main (Some (Bumps l Shared)) = refl
lets_in_main (Some (Bumps l Exclusive)) = refl
lets_in_main (Some (Bumps l x)) = refl
lets_in_main q = refl

module _ (w : State) (l : ℕ) (of_mutex : is_mutex (kind_at w l) ≡ true) where
  rules : rules_in w l ≡ mutex
  rules = mutex_rules (kind_at w l) of_mutex

  sort : sort_at w l ≡ locks.Mutex
  sort = ap (λ r. r.sort) rules

  unshared : has_readers (sort_at w l) ≡ true → ⊥
  unshared h = let e : false ≡ true = sym (ap has_readers sort) ∙ h in cc

  -- a thread that lets others in releases it
  only_releases : (t : ℕ) → LetsOthersIn w t l → ReleasesLock w t l
  only_releases t (inl releasing) = releasing
  only_releases t (inr shared) = absurd (unshared shared.0)

module _ (w : State) (l : ℕ) (kept : IsKept w) (of_mutex : is_mutex (kind_at w l) ≡ true) where
  looked_after : IsLookedAfterIn w l Main → HasDebtor w l
  looked_after k = record {
    debtor = k.debtor;
    debt = elim k.debt [
      | inl owes ↦ inl (
        owes.0,
        wakes_one (sort_at w) (call_at w k.debtor).purpose
            (call_at w k.debtor).gave_up (call_at w k.debtor).recalls l (sort w l of_mutex)
            (kept.known k.debtor) (subst (λ s. WakesWaiters s (call_at w k.debtor).purpose
            (call_at w k.debtor).gave_up (call_at w k.debtor).recalls l) (sort w l of_mutex) owes.1),
      )
      | inr again ↦ inr again.0
    ];
    awake = k.awake;
    stands_nowhere = k.stands_nowhere;
  }

  -- a thread that is shown to owe does so on the main line
  pub shown : (t : ℕ) → IsShownToOwe w t l → Owes w t l Main
  shown t h = by_line (line_owed (place_at w t) l) refl h
    where
      by_line : (o : Option Line) → line_owed (place_at w t) l ≡ o → is_line o ≡ true → o ≡ Some Main
      by_line None e h = absurd cc
      by_line (Some Main) e h = refl
      by_line (Some Second) e h = absurd (unshared w l of_mutex (kept.second_line t l e))

  owing : (t : ℕ) → IsShownToOwe w t l → IsInside w t l Main ⊎ GoesToRelease w t l
  owing t h = elim (kept.owing t l Main (shown t h)) [ inl i ↦ inl i | inr g ↦ inr (g.0, goes g.1) ]
    where
      goes : LetsOthersIn w t l ⊎ (WakesAside (call_at w t).purpose l Main ⊎ HasReleasedIt w t l)
          → ReleasesLock w t l ⊎ HasReleasedIt w t l
      goes (inl lets) = inl (only_releases w l of_mutex t lets)
      goes (inr (inl aside)) = absurd aside
      goes (inr (inr released)) = inr released

  going_owes : (t : ℕ) → GoesToRelease w t l → IsShownToOwe w t l ⊎ IsWait (call_at w t).purpose
  going_owes t g = elim (kept.going_owes t l Main (
    g.0,
    elim g.1 [
      | inl releases ↦ inl (inl releases)
      | inr released ↦ inr (inr released)
    ],
  )) [ inl owes ↦ inl (ap is_line owes) | inr waits ↦ inr waits ]

  mark_inside : (u : ℕ) → IsInside w u l Main ⊎ ((sort_at w l ≡ locks.Once) × Owes w u l Main)
      → IsInside w u l Main
  mark_inside u (inl inside) = inside
  mark_inside u (inr once) = absurd (let both : locks.Once ≡ locks.Mutex = sym once.0 ∙ sort w l of_mutex
      in cc)

  pub mutex_kept : IsMutexKept w l
  mutex_kept = record {
    coded = codes_by (owner_at w l) (is_parked (word_at w l)) (word_at w l) (kept.coded l
        ∙ ap (λ r. word_by r.sort r.limit (lock_state w l) (aside_in r.sort (word_at w l))
        (parked_in r.sort (word_at w l))) (rules w l of_mutex));
    parked = λ t waits. elim (kept.parked t l waits) [
      | inl set ↦ inl (subst (λ r. parked_in r.sort (word_at w l) ≡ true) (rules w l of_mutex) set)
      | inr marks ↦ inr (marks.0, mark_inside marks.0 marks.1.1, marks.1.0)
    ];
    owing = owing;
    inside_owes = λ t i. ap is_line (kept.inside_owes t l Main i);
    going_owes = going_owes;
    nobody_forgotten = λ t waits free. looked_after (kept.nobody_forgotten.main t l waits
        (subst (λ r. IsOpenNow r (lock_state w l)) (sym (rules w l of_mutex)) (inl free))
        (λ readers. absurd (unshared w l of_mutex readers)));
  }

pub mutexes_are_kept : MutexesAreKept
mutexes_are_kept w l kept of_mutex = mutex_kept w l kept of_mutex

-- ---------------------------------------------------------------- a step

module _ (w v : State) (t l : ℕ) (o : Outcome) (since : OwesSince w t o v) (kept : IsKept v)
    (before : is_mutex (kind_at w l) ≡ true) (afterwards : is_mutex (kind_at v l) ≡ true) where
  seen : SeesWaiters w t l Main o v → SeesParkedBit w t l o v
  seen s = (
    only_releases w l before t s.0,
    sym (mutex_tells (call_at w t).purpose Main (word_at w l))
        ∙ subst (λ x. tells_by x (call_at w t).purpose Main (word_at w l) ≡ true) (sort w l before) s.2,
    s.3,
    s.5,
  )

  -- a mutex knows no right of which a bump would look first
  looks : OnlyLooks v t l → ⊥
  looks h = by_purpose (call_at v t).purpose (kept.known t) h.0
    where
      by_purpose : (q : Option Purpose) → KnowsRights (sort_at v) q → LooksFirst q l → ⊥
      by_purpose None knows k = k
      by_purpose (Some (Enters j x how)) knows k = k
      by_purpose (Some (Converts j x y how)) knows k = k
      by_purpose (Some (CallsOnce j forced)) knows k = k
      by_purpose (Some (Awaits j forced timed)) knows k = k
      by_purpose (Some (Waits j m timed)) knows k = k
      by_purpose (Some (Notifies j all)) knows k = k
      by_purpose (Some (Releases j x fair)) knows k =
          k.2 (only_exclusive x (subst (λ s. Knows s x) (ap (sort_at v) k.0 ∙ sort v l afterwards) knows))
      by_purpose (Some (Bumps j x)) knows k =
          k.1 (only_exclusive x (subst (λ s. Knows s x) (ap (sort_at v) k.0 ∙ sort v l afterwards) knows))

  sees : SeesParkedBit w t l o v → SeesWaiters w t l Main o v
  sees s = (
    inl s.0,
    ap (λ x. line_let_in x (call_at w t).purpose) (sort w l before) ∙ lets_in_main (call_at w t).purpose,
    subst (λ x. tells_by x (call_at w t).purpose Main (word_at w l) ≡ true) (sym (sort w l before))
        (mutex_tells (call_at w t).purpose Main (word_at w l) ∙ s.1),
    s.2,
    (λ k. absurd (looks k)),
    s.3,
  )

  pub owes_since : OwesMutexSince w t l o v
  owes_since = record {
    own = λ ne. (
      (λ h. elim ((since.own l Main ne).0 (shown v l kept afterwards t h)) [
        | inl i ↦ inl i
        | inr s ↦
            inr (seen s)
      ]),
      λ h. ap is_line ((since.own l Main ne).1 (elim h [ inl i ↦ inl i | inr s ↦ inr (sees s) ])),
    );
    others = λ u ne. (
      (λ h. ap is_line (sym (since.others u l ne)) ∙ h),
      λ h. ap is_line (since.others u l ne)
          ∙ h,
    );
  }

pub mutexes_owe : MutexesOwe
mutexes_owe w v t l o since kept before afterwards = owes_since w v t l o since kept before afterwards
