-- Each place of a call of a reader-writer lock says of its thread what is promised of it: also of a fair
-- release, of a bump, and of one that was handed the lock.
use Rattle.lot_laws.proofs.Imports
use Imports.{ℕ, Bool, true, false, Some, None, if◌then◌else◌, ◌≡◌, ◌≢◌, ◌+◌, ◌*◌, ◌⊎◌, inl, inr, refl, sym, ◌∙◌}
use Imports.{ap, subst, arith, One, Exclusive, Access, Patience, Patient, Timed, Try, Sleep, Profile, Admission}
use Imports.{RwLockPlace, RwLockAt, RwLockPurpose, Decision, wanted, decided, decided_act, rwlock_act, Admits}
use Imports.{MayStand, WaitsIfBlocked as HasTime, ParksBy, StandsAt, rwlock_profile, late_at, has_given_up}
use Imports.{RwLockCallPlace, Plain, PeekQueue, HandOver, Bump, Handed, HandOverAt, HandedAt, any_taken}
use Imports.{has_room}
use Imports.{exchange_act, hand_over_act, handed_act, call_act, claim_at, call_profile, carries_taken}
use Imports.{release_purpose, CallStands, HandsOverAt, IsOfBump, WaitsWithPatience, Rules, Sort, Bumps, MayWait}
use Imports.{lock_for, Has, has_readers, want_of, KnowsRights, WakesAside}
use Rattle.core_base.specs.declared.keys.Line.{Line}
use Rattle.core_base.specs.declared.keys.Line.TheVariants.{Main, Second}
use Rattle.core_base.specs.declared.notes.Note.TheVariants as note
use Rattle.core_base.specs.declared.ops.Op.TheVariants as operation
use Rattle.core_base.specs.Keys.{key_of}
use Rattle.spec_locks.specs.declared.calls.Access.TheVariants as access
use Rattle.steps_base.specs.declared.acts.Act.TheVariants as act
use Rattle.steps_base.specs.declared.acts.Wakes.TheVariants as wakes
use Rattle.steps_rwlock.specs.declared.places.RwLockAt.TheVariants as at
use Rattle.steps_rwlock.specs.declared.purposes.RwLockPurpose.TheVariants as purpose
use Rattle.steps_rwlock.specs.declared.enter.Decision.TheVariants as decisions
use Rattle.steps_rwlock.specs.declared.park.ParkAt.TheVariants as parking
use Rattle.steps_rwlock_fair.specs.declared.hand_over.Taken.{Taken}
use Rattle.steps_rwlock_fair.specs.declared.hand_over.HandOverAt.TheVariants as handing
use Rattle.steps_rwlock_fair.specs.declared.handed.HandedAt.TheVariants as handed
use Rattle.steps_rwlock_fair.specs.FairProfiles.{entry_purpose}
use Rattle.lot_laws.proofs.promises.RowPromises.{is_acting, IsWaiting, WasHanded, LetsIn, LetsInAt}
use Rattle.lot_laws.proofs.promises.RowPromises.{IsDebtorIn, HasClaimed, HasDebt, RowLooksAfter, RowPromises}
use Rattle.lot_laws.proofs.rwlock.RwLockRows.{knows, no_bump, of, rwlock_promises}

-- two lines have two keys
lines_apart : (l : ℕ) → act.Enter (One (2 * l)) ≡ act.Enter (One (2 * l + 1)) → ⊥
lines_apart l h = let e : 2 * l ≡ 2 * l + 1 = cc in omega arith

-- ---------------------------------------------------------------- a bump that enters again

-- where it may stand that waits for ever
abbrev IsKeeping : RwLockAt → Type 0
IsKeeping (at.Park to) = ParksBy Patient to
IsKeeping (at.Aside to) = ParksBy Patient to
IsKeeping at.RollBack = ⊥
IsKeeping (at.Wake m to) = ⊥
IsKeeping to = Unit {0}

-- a call that waits for ever never gives up
never_gives_up : (x : Access) (again : Bool) (to : RwLockAt) → StandsAt (purpose.Enter x Patient) again to
    → late_at has_given_up (purpose.Enter x Patient) to ≡ false
never_gives_up x again to stands = by_place to (parks x to stands)
  where
    parks : (x : Access) (to : RwLockAt) → StandsAt (purpose.Enter x Patient) again to → IsKeeping to
    parks access.Exclusive (at.Park to) h = h
    parks access.Exclusive (at.Aside to) h = h
    parks access.Exclusive at.RollBack h = h
    parks access.Exclusive (at.Wake Main to) h = h
    parks access.Exclusive (at.Wake Second to) h = h
    parks access.Exclusive to h = tt
    parks access.Shared (at.Park to) h = h
    parks access.Shared at.Load h = tt
    parks access.Shared (at.Decide seen) h = tt
    parks access.Shared to h = absurd h
    parks access.Upgradable (at.Park to) h = h
    parks access.Upgradable at.Load h = tt
    parks access.Upgradable (at.Decide seen) h = tt
    parks access.Upgradable to h = absurd h

    by_place : (to : RwLockAt) → IsKeeping to → late_at has_given_up (purpose.Enter x Patient) to ≡ false
    by_place (at.Park parking.Clear) h = absurd h
    by_place (at.Park parking.GiveUp) h = absurd h
    by_place (at.Aside parking.Clear) h = absurd h
    by_place (at.Aside parking.GiveUp) h = absurd h
    by_place (at.Park to) h = refl
    by_place (at.Aside to) h = refl
    by_place at.RollBack h = absurd h
    by_place (at.Wake m to) h = absurd h
    by_place to h = refl

-- a thread that shares again never goes aside
enters_main : (l : ℕ) (a : Admission) (again : Bool) (to : RwLockAt)
    → StandsAt (purpose.Enter access.Shared Patient) again to
    → rwlock_act l a (of (purpose.Enter access.Shared Patient) again to) ≡ act.Enter (One (2 * l + 1)) → ⊥
enters_main l a again at.Load stands e = cc
enters_main l a again (at.Decide seen) stands e =
    by_decision (decided a (of (purpose.Enter access.Shared Patient) again (at.Decide seen)) seen) e
  where
    by_decision : (d : Decision) → decided_act l (purpose.Enter access.Shared Patient) seen d
        ≡ act.Enter (One (2 * l + 1)) → ⊥
    by_decision decisions.Park e = lines_apart l e
    by_decision decisions.Take e = cc
    by_decision decisions.Mark e = cc
    by_decision (decisions.Refuse answer) e = cc
enters_main l a again (at.Park parking.Check) stands e = cc
enters_main l a again (at.Park (parking.Leave parked)) stands e = cc
enters_main l a again (at.Park to) stands e = cc
enters_main l a again to stands e = absurd stands

module _ (r : Rules) (a : Admission) (l : ℕ) (admits : Admits r a) where
  abbrev Promised : RwLockCallPlace → Type 0
  Promised c = RowPromises r.sort l (call_profile a c) (call_act l a c)

  module _ (x : Access) (again : Bool) (to : RwLockAt) (stands : MayStand a
      (of (purpose.Enter x Patient) again to)) where
    abbrev p : RwLockPlace
    p = of (purpose.Enter x Patient) again to

    plain : RowPromises r.sort l (rwlock_profile a p) (rwlock_act l a p)
    plain = rwlock_promises r a l p admits stands

    abbrev row : Profile
    row = call_profile a (Bump p)

    -- the thread lets in the threads that the plain call does
    lets_plain : LetsIn r.sort l row → LetsIn r.sort l (rwlock_profile a p)
    lets_plain (inl h) = absurd (let e : true ≡ false = h.1 in cc)
    lets_plain (inr h) = inr (h.0, elim h.1 [ inl less ↦ absurd less | inr left ↦ inr left ])

    plain_lets : LetsIn r.sort l (rwlock_profile a p) → LetsIn r.sort l row
    plain_lets (inl h) = absurd h
    plain_lets (inr h) = inr (h.0, elim h.1 [ inl less ↦ absurd less | inr left ↦ inr left ])

    owes_on : (m : Line) → row.owes ≡ Some m
        → (row.role.inside ≡ Some m) ⊎ ((rwlock_act l a p ≡ act.Enter (One (key_of l m)))
        × LetsInAt r.sort l row m)
    owes_on m h = elim (plain.owing.owes m h) [
      | inl i ↦ inl i
      | inr g ↦ inr (
        g.0,
        elim g.1 [
          | inl lets ↦ inl (plain_lets lets)
          | inr wakes ↦
              absurd (no_bump l (purpose.Enter x Patient) m wakes)
        ],
      )
    ]

    no_wake : (y : Access) (m : Line) → StandsAt (purpose.Enter y Patient) again to
        → rwlock_act l a (of (purpose.Enter y Patient) again to) ≡ act.Enter (One (key_of l m))
        → WakesAside (Some (Bumps l (wanted y))) l m → ⊥
    no_wake access.Shared Second fits e h = enters_main l a again to fits e
    no_wake access.Shared Main fits e h = h
    no_wake access.Upgradable Second fits e h = h
    no_wake access.Upgradable Main fits e h = h
    no_wake access.Exclusive Second fits e h = h
    no_wake access.Exclusive Main fits e h = h

    entering : (m : Line) → rwlock_act l a p ≡ act.Enter (One (key_of l m)) → LetsInAt r.sort l row m
        → row.owes ≡ Some m
    entering m e lets = elim lets [
      | inl h ↦ plain.owing.entering m e (inl (lets_plain h))
      | inr h ↦ absurd (no_wake x m stands.place e h)
    ]

    debt : (m : Line) → HasDebt r.sort l (rwlock_profile a p) m → HasDebt r.sort l row m
    debt Main (inl h) = absurd (let e : (if late_at has_given_up (purpose.Enter x Patient) to then Some l
        else None) ≡ Some l = h.1.1 in
        let f : None ≡ Some l = sym (ap (λ b. if b then Some l else None) (never_gives_up x again to
        stands.place)) ∙ e in cc)
    debt Main (inr h) = inr h
    debt Second h = h

    looks_after : (m : Line) → RowLooksAfter r.sort l (rwlock_profile a p) (rwlock_act l a p) m
        → RowLooksAfter r.sort l row (rwlock_act l a p) m
    looks_after m h = record { debt = debt m h.debt; awake = h.awake; stands = h.stands; taken = h.taken }

    again_promises : Promised (Bump p)
    again_promises = record {
      own = refl;
      acts = plain.acts;
      waits = λ h. refl;
      known = λ sorts e. knows (sorts l) (ap has_readers e ∙ admits.0) x;
      aside = plain.aside;
      owing = record {
        owes = owes_on;
        inside = plain.owing.inside;
        entering = entering;
        second = λ h. admits.0;
      };
      debtor = λ m d free. looks_after m (plain.debtor m d free);
      asleep = λ h. elim (plain.asleep h) [
        | inl waiting ↦ inl waiting
        | inr k ↦ inr (record {
          by = k.by;
          in_hand = k.in_hand;
          waited = refl;
          want = k.want;
          wants = k.wants;
          has = k.has;
        })
      ];
      tells = plain.tells;
      late = λ m h. absurd (let e : Patient ≡ Timed = (plain.late m h).timed.1 in cc);
      may_be_late = λ m s sleeps timed. absurd timed;
    }

  -- ---------------------------------------------------------------- a bump that releases a shared right

  module _ (to : RwLockAt) (stands : MayStand a (of (purpose.Release access.Shared) false to)) where
    abbrev leaves : RwLockPlace
    leaves = of (purpose.Release access.Shared) false to

    released : RowPromises r.sort l (rwlock_profile a leaves) (rwlock_act l a leaves)
    released = rwlock_promises r a l leaves admits stands

    abbrev its_row : Profile
    its_row = call_profile a (Bump leaves)

    -- the thread owes on the second line alone
    second_alone : (to : RwLockAt) → StandsAt (purpose.Release access.Shared) false to → (m : Line)
        → (rwlock_profile a (of (purpose.Release access.Shared) false to)).owes ≡ Some m → m ≡ Second
    second_alone at.GiveWay fits m h = absurd cc
    second_alone (at.Wake Second to) fits m h = cc
    second_alone to fits m h = absurd fits

    owes_second : (m : Line) → its_row.owes ≡ Some m
        → (its_row.role.inside ≡ Some m) ⊎ ((rwlock_act l a leaves ≡ act.Enter (One (key_of l m)))
        × LetsInAt r.sort l its_row m)
    owes_second m h = elim (released.owing.owes m h) [
      | inl i ↦ inl i
      | inr g ↦ inr (
        g.0,
        inr (subst (WakesAside (Some (Bumps l (wanted access.Shared))) l)
            (sym (second_alone to stands.place m h)) refl),
      )
    ]

    debt_second : (m : Line) → HasDebt r.sort l (rwlock_profile a leaves) m → HasDebt r.sort l its_row m
    debt_second Main (inl h) = absurd (let e : Main ≡ Second = second_alone to stands.place Main h.0 in cc)
    debt_second Main (inr h) = absurd (let e : false ≡ true = h.0 in cc)
    debt_second Second h = h

    release_promises : Promised (Bump leaves)
    release_promises = record {
      own = refl;
      acts = released.acts;
      waits = λ h. refl;
      known = λ sorts e. knows (sorts l) (ap has_readers e ∙ admits.0) access.Shared;
      aside = released.aside;
      owing = record {
        owes = owes_second;
        inside = released.owing.inside;
        entering = λ m e lets. released.owing.entering m e (inl (inl refl));
        second = λ h. admits.0;
      };
      debtor = λ m d free. let k = released.debtor m d free in record {
        debt = debt_second m k.debt;
        awake = k.awake;
        stands = k.stands;
        taken = k.taken;
      };
      asleep = λ h. elim (released.asleep h) [
        | inl waiting ↦ inl waiting
        | inr k ↦
            absurd (let e : None ≡ Some k.want = k.wants in cc)
      ];
      tells = released.tells;
      late = λ m h. absurd (released.late m h).timed;
      may_be_late = λ m s sleeps timed. absurd timed;
    }

  bump_promises : (q : RwLockPurpose) (again : Bool) (to : RwLockAt) → MayStand a (of q again to)
      → IsOfBump q again
      → Promised (Bump (of q again to))
  bump_promises (purpose.Enter x Patient) again to stands bump = again_promises x again to stands
  bump_promises (purpose.Release access.Shared) false to stands bump = release_promises to stands
  bump_promises (purpose.Release access.Shared) true to stands bump = absurd (let e : true ≡ false = bump
      in cc)
  bump_promises q again to stands bump = absurd bump

  -- ---------------------------------------------------------------- a bump that looks

  glance_promises : (x : Access) → Promised (PeekQueue x)
  glance_promises x = record {
    own = refl;
    acts = refl;
    waits = λ h. refl;
    known = λ sorts e. knows (sorts l) (ap has_readers e ∙ admits.0) x;
    aside = λ h. absurd cc;
    owing = record {
      owes = λ m h. absurd cc;
      inside = λ m h. absurd cc;
      entering = λ m e lets. absurd cc;
      second = λ h. absurd cc;
    };
    debtor = owes_none;
    asleep = λ h. absurd cc;
    tells = λ h. absurd cc;
    late = λ m h. absurd cc;
    may_be_late = λ m s sleeps timed. absurd cc;
  }
    where
      owes_none : (m : Line) → IsDebtorIn r.sort (call_profile a (PeekQueue x)).role m
          → ((call_profile a (PeekQueue x)).role.claims ≡ Some (Has Exclusive) → ⊥)
          → RowLooksAfter r.sort l (call_profile a (PeekQueue x)) (call_act l a (PeekQueue x)) m
      owes_none Main d free = absurd (elim d [ inl h ↦ cc | inr h ↦ elim h [ inl k ↦ cc | inr k ↦ cc ] ])
      owes_none Second d free = absurd cc

  -- ---------------------------------------------------------------- a thread that hands the lock over

  exchange_acts : (x : Access) (k : Taken) (seen : ℕ) → is_acting (exchange_act l a.limit x k seen) ≡ true
  exchange_acts x k seen = either (has_room a.limit k seen) _ _
    where
      either : (b : Bool) (y z : ℕ)
          → is_acting (if b then act.HandOver l (operation.Exchange seen y)
          else act.Word l (operation.Exchange seen z)) ≡ true
      either true y z = refl
      either false y z = refl

  hands_acts : (x : Access) (to : HandOverAt) → is_acting (hand_over_act l a x to) ≡ true
  hands_acts x handing.Load = refl
  hands_acts x (handing.Free seen) = refl
  hands_acts x handing.Enter = refl
  hands_acts x handing.Take = refl
  hands_acts x (handing.Store k) = refl
  hands_acts x (handing.Look k) = refl
  hands_acts x (handing.Exchange k seen) = exchange_acts x k seen
  hands_acts x (handing.Leave any told) = refl

  exchange_other : (x : Access) (k : Taken) (seen : ℕ)
      → (exchange_act l a.limit x k seen ≢ Sleep) × ((m : Line) → exchange_act l a.limit x k seen
      ≢ act.Enter (One (key_of l m)))
  exchange_other x k seen = either (has_room a.limit k seen) _ _
    where
      either : (b : Bool) (y z : ℕ)
          → ((if b then act.HandOver l (operation.Exchange seen y) else act.Word l
          (operation.Exchange seen z)) ≢ Sleep)
          × ((m : Line) → (if b then act.HandOver l (operation.Exchange seen y) else act.Word l
          (operation.Exchange seen z)) ≢ act.Enter (One (key_of l m)))
      either true y z = (λ e. cc, λ m e. cc)
      either false y z = (λ e. cc, λ m e. cc)

  pub hands_awake : (x : Access) (to : HandOverAt) → hand_over_act l a x to ≢ Sleep
  hands_awake x handing.Load e = cc
  hands_awake x (handing.Free seen) e = cc
  hands_awake x handing.Enter e = cc
  hands_awake x handing.Take e = cc
  hands_awake x (handing.Store k) e = cc
  hands_awake x (handing.Look k) e = cc
  hands_awake x (handing.Exchange k seen) e = (exchange_other x k seen).0 e
  hands_awake x (handing.Leave any told) e = cc

  module _ (x : Access) (b : Bool) where
    abbrev over : HandOverAt → RwLockCallPlace
    over to = HandOver x b to

    abbrev over_row : HandOverAt → Profile
    over_row to = call_profile a (over to)

    lets_over : LetsIn r.sort l (over_row handing.Enter)
    lets_over = by_bump b
      where
        by_bump : (c : Bool) → LetsIn r.sort l (call_profile a (HandOver x c handing.Enter))
        by_bump true = inl (refl, refl)
        by_bump false = inl refl

    hands_owe : (to : HandOverAt) (m : Line) → (over_row to).owes ≡ Some m
        → ((over_row to).role.inside ≡ Some m)
        ⊎ ((hand_over_act l a x to ≡ act.Enter (One (key_of l m))) × LetsInAt r.sort l (over_row to) m)
    hands_owe handing.Load m h = absurd cc
    hands_owe (handing.Free seen) m h = absurd cc
    hands_owe handing.Enter Main h = inr (refl, inl lets_over)
    hands_owe handing.Enter Second h = absurd cc
    hands_owe handing.Take m h = inl h
    hands_owe (handing.Store k) m h = inl h
    hands_owe (handing.Look k) m h = inl h
    hands_owe (handing.Exchange k seen) m h = inl h
    hands_owe (handing.Leave any told) m h = inl h

    hands_inside : (to : HandOverAt) (m : Line) → (over_row to).role.inside ≡ Some m → (over_row to).owes
        ≡ Some m
    hands_inside handing.Load m h = absurd cc
    hands_inside (handing.Free seen) m h = absurd cc
    hands_inside handing.Enter m h = absurd cc
    hands_inside handing.Take m h = h
    hands_inside (handing.Store k) m h = h
    hands_inside (handing.Look k) m h = h
    hands_inside (handing.Exchange k seen) m h = h
    hands_inside (handing.Leave any told) m h = h

    hands_enter : (to : HandOverAt) (m : Line) → hand_over_act l a x to ≡ act.Enter (One (key_of l m))
        → (over_row to).owes ≡ Some m
    hands_enter handing.Load m e = absurd cc
    hands_enter (handing.Free seen) m e = absurd cc
    hands_enter handing.Enter Main e = refl
    hands_enter handing.Enter Second e = absurd (lines_apart l e)
    hands_enter handing.Take m e = absurd cc
    hands_enter (handing.Store k) m e = absurd cc
    hands_enter (handing.Look k) m e = absurd cc
    hands_enter (handing.Exchange k seen) m e = absurd ((exchange_other x k seen).1 m e)
    hands_enter (handing.Leave any told) m e = absurd cc

  -- an upgradable owner wakes the threads that it takes where there is no room for them
  debt_over : (b : Bool) (to : HandOverAt) → (call_profile a (HandOver access.Upgradable b to)).owes
      ≡ Some Main
      → HasDebt r.sort l (call_profile a (HandOver access.Upgradable b to)) Main
  debt_over true to owes = inl (owes, (refl, λ e. cc))
  debt_over false to owes = inl (owes, (refl, inr refl))

  hands_debtor : (x : Access) (b : Bool) (to : HandOverAt) → HandsOverAt x to → (m : Line)
      → IsDebtorIn r.sort (call_profile a (HandOver x b to)).role m
      → ((call_profile a (HandOver x b to)).role.claims ≡ Some (Has Exclusive) → ⊥)
      → RowLooksAfter r.sort l (call_profile a (HandOver x b to)) (hand_over_act l a x to) m
  hands_debtor access.Shared b to fits m d free = absurd fits
  hands_debtor access.Upgradable b (handing.Look k) fits Main d free = record {
    debt = debt_over b (handing.Look k) refl;
    awake = hands_awake access.Upgradable (handing.Look k);
    stands = refl;
    taken = refl;
  }
  hands_debtor access.Upgradable b (handing.Exchange k seen) fits Main d free = record {
    debt = debt_over b (handing.Exchange k seen) refl;
    awake = hands_awake access.Upgradable (handing.Exchange k seen);
    stands = refl;
    taken = refl;
  }
  hands_debtor access.Upgradable b (handing.Leave any false) fits Main d free = record {
    debt = debt_over b (handing.Leave any false) refl;
    awake = hands_awake access.Upgradable (handing.Leave any false);
    stands = refl;
    taken = refl;
  }
  hands_debtor access.Upgradable b (handing.Store k) fits m d free = absurd fits
  hands_debtor access.Exclusive b (handing.Store k) fits Main d free = absurd (free refl)
  hands_debtor access.Exclusive b (handing.Look k) fits m d free = absurd fits
  hands_debtor access.Exclusive b (handing.Exchange k seen) fits m d free = absurd fits
  hands_debtor access.Exclusive b (handing.Leave any false) fits m d free = absurd fits
  hands_debtor x b (handing.Leave any true) fits Main d free =
      absurd (elim d [ inl h ↦ cc | inr h ↦ elim h [ inl k ↦ cc | inr k ↦ cc ] ])
  hands_debtor x b to fits Main d free =
      absurd (elim d [ inl h ↦ cc | inr h ↦ elim h [ inl k ↦ cc | inr k ↦ cc ] ])
  hands_debtor x b to fits Second d free = absurd cc

  -- a thread that has handed the lock over leaves its section next, and tells so
  none_handed : (k : Taken) → carries_taken (Some k) ≢ Some true
  none_handed k h = either (any_taken k) h
    where
      either : (c : Bool) → (if c then Some false else None) ≡ Some true → ⊥
      either true e = cc
      either false e = cc

  hands_tell : (x : Access) (b : Bool) (to : HandOverAt) → (call_profile a (HandOver x b to)).has_taken
      ≡ Some true
      → (hand_over_act l a x to ≡ act.Leave (One (2 * l)) (wakes.All note.HandOff))
      × ((call_profile a (HandOver x b to)).role.inside ≡ Some Main)
  hands_tell x b (handing.Leave true true) h = (refl, refl)
  hands_tell x b (handing.Leave true false) h = absurd cc
  hands_tell x b (handing.Leave false told) h = absurd cc
  hands_tell x b (handing.Store k) h = absurd (none_handed k h)
  hands_tell x b (handing.Look k) h = absurd (none_handed k h)
  hands_tell x b (handing.Exchange k seen) h = absurd (none_handed k h)
  hands_tell x b to h = absurd cc

  hands_own : (x : Access) (b : Bool) (to : HandOverAt) → HandsOverAt x to → Promised (HandOver x b to)
  hands_own x b to fits = record {
    own = by_bump b;
    acts = hands_acts x to;
    waits = λ h. absurd (elim h [ inl n ↦ n refl | inr n ↦ n refl ]);
    known = λ sorts e. known b sorts (ap has_readers e ∙ admits.0);
    aside = λ h. absurd cc;
    owing = record {
      owes = hands_owe x b to;
      inside = hands_inside x b to;
      entering = λ m e lets. hands_enter x b to m e;
      second = λ h. admits.0;
    };
    debtor = hands_debtor x b to fits;
    asleep = λ h. absurd (hands_awake x to h);
    tells = hands_tell x b to;
    late = λ m h. absurd cc;
    may_be_late = λ m s sleeps timed. absurd cc;
  }
    where
      by_bump : (c : Bool) → lock_for (release_purpose c (wanted x) l) ≡ l
      by_bump true = refl
      by_bump false = refl

      known : (c : Bool) (sorts : ℕ → Sort) → has_readers (sorts l) ≡ true
          → KnowsRights sorts (Some (release_purpose c (wanted x) l))
      known true sorts e = knows (sorts l) e x
      known false sorts e = knows (sorts l) e x

  -- ---------------------------------------------------------------- a thread that was handed the lock

  module _ (x : Access) (how : Patience) (b : Bool) (waits : WaitsWithPatience b how) where
    has_time : (how : Patience) → HasTime how → how ≢ Try
    has_time Patient h e = cc
    has_time Timed h e = cc
    has_time Try h e = h

    waited : MayWait (Some (entry_purpose b (wanted x) how l)) l
    waited = by_bump b waits
      where
        by_bump : (c : Bool) → WaitsWithPatience c how → MayWait (Some (entry_purpose c (wanted x) how l)) l
        by_bump true h = refl
        by_bump false h = (refl, has_time how h)

    wants : want_of (Some (entry_purpose b (wanted x) how l)) ≡ Some (wanted x)
    wants = by_bump b
      where
        by_bump : (c : Bool) → want_of (Some (entry_purpose c (wanted x) how l)) ≡ Some (wanted x)
        by_bump true = refl
        by_bump false = refl

    -- a writer beside readers is pending
    has_claimed : (y : Access) (by : ℕ) (alone : Bool)
        → HasClaimed r.sort (Some (claim_at (wanted y) (handed.Asleep by alone))) (wanted y)
    has_claimed access.Shared by true = inl refl
    has_claimed access.Shared by false = inl refl
    has_claimed access.Upgradable by true = inl refl
    has_claimed access.Upgradable by false = inl refl
    has_claimed access.Exclusive by true = inl refl
    has_claimed access.Exclusive by false = inr (refl, admits.0, (false, refl))

    quiet : (to : HandedAt) (m : Line) → IsDebtorIn r.sort (call_profile a (Handed x how b to)).role m → ⊥
    quiet to Main d = elim d [ inl h ↦ cc | inr h ↦ elim h [ inl k ↦ cc | inr k ↦ cc ] ]
    quiet to Second d = cc

    accepts : (y : Access)
        → (is_acting (handed_act l y handed.Accept) ≡ true) × (handed_act l y handed.Accept ≢ Sleep)
        × ((m : Line) → handed_act l y handed.Accept ≢ act.Enter (One (key_of l m)))
    accepts access.Exclusive = (refl, λ e. cc, λ m e. cc)
    accepts access.Shared = (refl, λ e. cc, λ m e. cc)
    accepts access.Upgradable = (refl, λ e. cc, λ m e. cc)

    hears : (to : HandedAt)
        → (is_acting (handed_act l x to) ≡ true)
        × ((m : Line) → handed_act l x to ≢ act.Enter (One (key_of l m)))
    hears (handed.Asleep by alone) = (refl, λ m e. cc)
    hears handed.Accept = let k = accepts x in (k.0, k.2)

    sleeps : (to : HandedAt) → handed_act l x to ≡ Sleep
        → IsWaiting (call_profile a (Handed x how b to))
        ⊎ WasHanded r.sort l (call_profile a (Handed x how b to))
    sleeps (handed.Asleep by alone) e = inr (record {
      by = by;
      in_hand = refl;
      waited = waited;
      want = wanted x;
      wants = wants;
      has = has_claimed x by alone;
    })
    sleeps handed.Accept e = absurd ((accepts x).1 e)

    never_waits : (to : HandedAt) → IsWaiting (call_profile a (Handed x how b to)) → ⊥
    never_waits (handed.Asleep by alone) h = elim h [ inl n ↦ n refl | inr n ↦ n refl ]
    never_waits handed.Accept h = elim h [ inl n ↦ n refl | inr n ↦ n refl ]

    handed_promises : (to : HandedAt) → Promised (Handed x how b to)
    handed_promises to = record {
      own = by_bump b;
      acts = (hears to).0;
      waits = λ h. absurd (never_waits to h);
      known = λ sorts e. known b sorts (ap has_readers e ∙ admits.0);
      aside = λ h. absurd cc;
      owing = record {
        owes = λ m h. absurd cc;
        inside = λ m h. absurd cc;
        entering = λ m e lets. absurd ((hears to).1 m e);
        second = λ h. absurd cc;
      };
      debtor = λ m d free. absurd (quiet to m d);
      asleep = sleeps to;
      tells = λ h. absurd cc;
      late = λ m h. absurd cc;
      may_be_late = λ m s asleep timed. absurd cc;
    }
      where
        by_bump : (c : Bool) → lock_for (entry_purpose c (wanted x) how l) ≡ l
        by_bump true = refl
        by_bump false = refl

        known : (c : Bool) (sorts : ℕ → Sort) → has_readers (sorts l) ≡ true
            → KnowsRights sorts (Some (entry_purpose c (wanted x) how l))
        known true sorts e = knows (sorts l) e x
        known false sorts e = knows (sorts l) e x

-- ---------------------------------------------------------------- every place

pub call_promises : (r : Rules) (a : Admission) (l : ℕ) (c : RwLockCallPlace) → Admits r a → CallStands a c
    → RowPromises r.sort l (call_profile a c) (call_act l a c)
call_promises r a l (Plain p) admits stands = rwlock_promises r a l p admits stands
call_promises r a l (Bump p) admits stands = bump_promises r a l admits p.purpose p.retries p.at stands.0
    stands.1
call_promises r a l (PeekQueue x) admits stands = glance_promises r a l admits x
call_promises r a l (HandOver x b to) admits stands = hands_own r a l admits x b to stands
call_promises r a l (Handed x how b to) admits stands = handed_promises r a l admits x how b stands to
