-- Each step on the word of a reader-writer lock does to the lock what its deeds say.
use Rattle.std.proofs.Common.{ℕ, Bool, true, false, Option, Some, None, [], ◌∷◌, if◌then◌else◌, ◌==◌, ◌&&◌}
use Rattle.std.proofs.Common.{◌≡◌, ◌≢◌, ◌⊎◌, not, ◌≤◌, ◌<◌, length, inl, inr, subst, refl, ap, ◌∙◌, sym}
use Rattle.std.proofs.Common.{arith, nat_le}
use Rattle.std.proofs.lemmas.Bool.Decides.{nat_tests}
use Rattle.std.proofs.lemmas.Bool.{eqb-true}
use Rattle.core_base.specs.declared.keys.Line.{Line}
use Rattle.core_base.specs.declared.keys.Line.TheVariants.{Main, Second}
use Rattle.core_base.specs.declared.ops.Op.{Op}
use Rattle.core_base.specs.declared.wants.Want.{Want}
use Rattle.core_base.specs.declared.wants.Want.TheVariants.{Exclusive, Upgradable, Shared}
use Rattle.spec_locks.specs.declared.calls.Access.{Access}
use Rattle.spec_locks.specs.declared.calls.Access.TheVariants as access
use Rattle.spec_locks.specs.declared.calls.Downgrade.{Downgrade}
use Rattle.spec_locks.specs.declared.calls.Downgrade.TheVariants as downgrade
use Rattle.spec_locks.specs.declared.calls.Patience.{Patience}
use Rattle.spec_locks.specs.declared.calls.Patience.TheVariants.{Patient, Timed, Try}
use Rattle.spec_locks.specs.declared.outcomes.Answer.{Answer}
use Rattle.spec_locks.specs.declared.outcomes.Answer.TheVariants.{No, ReadersFull}
use Rattle.steps_base.specs.declared.acts.Next.TheVariants as next
use Rattle.spec_locks.specs.Locks.{Rules, Enter, Pend, Settle, Leave, Convert, Rollback, Knows, MayEnter}
use Rattle.spec_locks.specs.Locks.{HasRoom, Owns, readers, standing, count}
use Rattle.spec_locks.specs.Sites.{Claim, Has, Pends, Role, idle, Site, IsSite, End, Mark, Clear, Case}
use Rattle.spec_locks.specs.Sites.{has_readers}
use Rattle.spec_locks.specs.Codes.{code, TellsTrue, count_in, has_parked, has_aside, is_blocked}
use Rattle.spec_locks.proofs.CodeLaws.{words_tell_true}
use Rattle.steps_base.specs.declared.acts.Act.TheVariants as act
use Rattle.steps_base.specs.declared.acts.Reply.TheVariants as reply
use Rattle.steps_rwlock.specs.declared.places.Admission.{Admission}
use Rattle.steps_rwlock.specs.declared.places.RwLockPlace.{RwLockPlace}
use Rattle.steps_rwlock.specs.declared.purposes.RwLockPurpose.{RwLockPurpose}
use Rattle.steps_rwlock.specs.declared.purposes.RwLockPurpose.TheVariants as purpose
use Rattle.steps_rwlock.specs.declared.places.RwLockAt.{RwLockAt}
use Rattle.steps_rwlock.specs.declared.places.RwLockAt.TheVariants as at
use Rattle.steps_rwlock.specs.declared.enter.Decision.{Decision}
use Rattle.steps_rwlock.specs.declared.enter.Decision.TheVariants as decisions
use Rattle.steps_rwlock.specs.declared.park.ParkAt.TheVariants as parking
use Rattle.steps_rwlock.specs.declared.release.WakeAt.TheVariants as waking
use Rattle.steps_rwlock.specs.RwLockSteps.{wanted, from_of, to_of, wakes_or_ends, patience_of, is_counted}
use Rattle.steps_rwlock.specs.RwLockSteps.{park_or_mark, decision_blocked, decision, decided, decided_act}
use Rattle.steps_rwlock.specs.RwLockSteps.{rwlock_act, missed, looked_by, looked, came_in_for, came_in}
use Rattle.steps_rwlock.specs.RwLockSteps.{exchanged_next, after_count, stays, goes as goes_to, plus, wakes}
use Rattle.steps_rwlock.specs.RwLockSteps.{entered, rwlock_next}
use Rattle.steps_rwlock.specs.RwLockDeeds.{at_rest, kept_claim, enters_deeds, rwlock_role, role_next}
use Rattle.steps_rwlock.specs.RwLockDeeds.{missed_deeds, looked_deeds, exchanged_deeds, counted_deeds}
use Rattle.steps_rwlock.specs.RwLockDeeds.{does_and_wakes, rwlock_deeds, Admits, IsFreshTry, AtFits, AtTry}
use Rattle.steps_rwlock.specs.RwLockDeeds.{AtPending, AtUpgrade, Follows, RwLockStepsFollow}
use Rattle.steps_base.proofs.Deeds.{put_same}

abbrev tries_for : Option Want → Want → Type 0
tries_for again x = (again ≡ None) ⊎ (again ≡ Some x)

module _ (r : Rules) (s : Site) (t : ℕ) (rw_sort : has_readers r.sort ≡ true) (h : IsSite r s)
    (tells : TellsTrue r s) where
  -- nothing happens
  goes : (d : Role) → s.role t ≡ d → Follows r s t [] d
  goes d is = record { needed = tt; role = is }

  marks : (m : Line) (d : Role) → s.role t ≡ d → Follows r s t (Mark m ∷ []) d
  marks Main d is = record { needed = (tt, tt); role = is }
  marks Second d is = record { needed = (tt, tt); role = is }

  first_won : (again : Option Want) → tries_for again Exclusive → s.role t ≡ at_rest again None → code r s ≡ 0
      → Follows r s t (Case (Enter Exclusive) ∷ End ∷ []) idle
  first_won again for is z = record {
    needed = grind (arith, nat_tests, tells.nobody z);
    role = grind (arith, nat_tests);
  }

  -- a call ends with nothing
  ends : (again : Option Want) (claims : Option Claim) → s.role t ≡ at_rest again claims → (again ≡ None)
      ⊎ (r.limit ≤ count_in (code r s)) → Follows r s t (End ∷ []) idle
  ends again claims is why = record {
    needed = grind (arith, nat_tests, tells.count);
    role = grind (arith, nat_tests);
  }

  comes : (x : Want) (again : Option Want) → tries_for again x → s.role t ≡ at_rest again None
      → MayEnter r s.lock x → Knows r.sort Shared → (x ≢ Exclusive)
      → Follows r s t (Case (Enter x) ∷ End ∷ []) idle
  comes Exclusive again for is may knows not_it = absurd (not_it refl)
  comes Upgradable again for is may knows not_it = record {
    needed = grind (arith, nat_tests);
    role = grind (arith, nat_tests);
  }
  comes Shared again for is may knows not_it = record {
    needed = grind (arith, nat_tests);
    role = grind (arith, nat_tests);
  }
  comes x again for is may knows not_it = absurd (grind arith)

  begins_to_write : (again : Option Want) → s.role t ≡ at_rest again None → MayEnter r s.lock Exclusive
      → Knows r.sort Shared → Follows r s t (Case Pend ∷ []) (at_rest None (Some (Pends false)))
  begins_to_write again is may knows = record {
    needed = grind (arith, nat_tests);
    role = grind (arith, nat_tests);
  }

  -- a pending writer that stands nowhere leaves nobody aside
  nobody_aside : (b : Bool) → s.lock.pending ≡ Some (record { thread = t; falls_back = b })
      → standing t s.lock ≡ 0 → s.lock.aside ≡ None
  nobody_aside b e nowhere = by_aside s.lock.aside refl
    where
      by_aside : (o : Option ℕ) → s.lock.aside ≡ o → s.lock.aside ≡ None
      by_aside None f = f
      by_aside (Some u) f = absurd (let g = h.state.aside_pending u f in grind (arith, nat_tests))

  settles : (b : Bool) (again : Option Want) → s.role t ≡ at_rest again (Some (Pends b)) → count_in (code r s)
      ≡ 0 → standing t s.lock ≡ 0 → Follows r s t (Case Settle ∷ End ∷ []) idle
  settles b again is z nowhere =
      let own : s.lock.pending ≡ Some (record { thread = t; falls_back = b }) =
      h.held t (Pends b) (grind arith) in
      let alone = nobody_aside b own nowhere in record {
        needed = grind (arith, nat_tests, tells.count);
        role = grind (arith, nat_tests);
      }

  -- the last reader of a pending writer's lock is to wake it, and any other release each thread that stands
  -- in the main line
  gives_shared : (a c : Bool) → s.role t ≡ at_rest None (Some (Has Shared)) → Owns s.lock t Shared
      → s.aside_parked ≡ a → (count s.lock == 1) ≡ c
      → Follows r s t (does_and_wakes (a && c) (Case (Leave Shared))) (if a && c then record idle {
        wakes =
            Some Second;
      } else idle)
  gives_shared true true is own ea ec = record {
    needed = grind (arith, nat_tests);
    role = grind (arith, nat_tests);
  }
  gives_shared true false is own ea ec = record {
    needed = grind (arith, nat_tests);
    role = grind (arith, nat_tests);
  }
  gives_shared false c is own ea ec = record {
    needed = grind (arith, nat_tests);
    role = grind (arith, nat_tests);
  }

  gives_more : (x : Want) (a : Bool) → s.role t ≡ at_rest None (Some (Has x)) → (x ≡ Exclusive)
      ⊎ (x ≡ Upgradable) → Owns s.lock t x → s.parked ≡ a
      → Follows r s t (does_and_wakes a (Case (Leave x))) (if a then record idle { wakes = Some Main }
      else idle)
  gives_more x true is ex own ea = record {
    needed = grind (arith, nat_tests);
    role = grind (arith, nat_tests);
  }
  gives_more x false is ex own ea = record {
    needed = grind (arith, nat_tests);
    role = grind (arith, nat_tests);
  }

  rolls : (a : Bool) → s.role t ≡ at_rest None (Some (Pends false)) → s.parked ≡ a → standing t s.lock ≡ 0
      → Follows r s t (does_and_wakes a (Case Rollback)) (if a then record idle { wakes = Some Main }
      else idle)
  rolls a is ea nowhere =
      let own : s.lock.pending ≡ Some (record {
        thread = t;
        falls_back = false;
      }) = h.held t (Pends false) (grind arith) in
      by_bit a is ea own (nobody_aside false own nowhere)
    where
      by_bit : (a : Bool) → s.role t ≡ at_rest None (Some (Pends false)) → s.parked ≡ a → s.lock.pending
          ≡ Some (record {
            thread = t;
            falls_back = false;
          }) → s.lock.aside ≡ None
          → Follows r s t (does_and_wakes a (Case Rollback)) (if a then record idle { wakes = Some Main }
          else idle)
      by_bit true is ea own alone = record {
        needed = grind (arith, nat_tests);
        role = grind (arith, nat_tests);
      }
      by_bit false is ea own alone = record {
        needed = grind (arith, nat_tests);
        role = grind (arith, nat_tests);
      }

  -- an upgrade falls back to the upgradable right
  falls : (a : Bool) → s.role t ≡ at_rest None (Some (Pends true)) → s.parked ≡ a → standing t s.lock ≡ 0
      → Follows r s t (does_and_wakes a (Case Rollback)) (if a then record idle {
        wakes = Some Main;
        claims = Some (Has Upgradable);
      } else idle)
  falls a is ea nowhere =
      let own : s.lock.pending ≡ Some (record { thread = t; falls_back = true }) =
      h.held t (Pends true) (grind arith) in
      by_bit a is ea own (nobody_aside true own nowhere)
    where
      by_bit : (a : Bool) → s.role t ≡ at_rest None (Some (Pends true)) → s.parked ≡ a → s.lock.pending
          ≡ Some (record { thread = t; falls_back = true }) → s.lock.aside ≡ None
          → Follows r s t (does_and_wakes a (Case Rollback)) (if a then record idle {
            wakes = Some Main;
            claims = Some (Has Upgradable);
          } else idle)
      by_bit true is ea own alone = record {
        needed = grind (arith, nat_tests);
        role = grind (arith, nat_tests);
      }
      by_bit false is ea own alone = record {
        needed = grind (arith, nat_tests);
        role = grind (arith, nat_tests);
      }

  -- a greater right becomes a lesser one, which is kept
  downgrades : t < length s.lock.shared → (d : Downgrade) (a : Bool) → s.role t ≡ at_rest None
      (Some (Has (wanted (from_of d)))) → s.parked ≡ a → Knows r.sort (wanted (to_of d))
      → Follows r s t (does_and_wakes a (Case (Convert (wanted (from_of d)) (wanted (to_of d)))))
      (if a then record idle {
        wakes = Some Main;
        claims = kept_claim (Some (wanted (to_of d)));
      } else idle)
  downgrades there downgrade.ToShared true is ea knows = let own = h.held t (Has Exclusive) (grind arith)
      in record {
        needed = grind (arith, nat_tests);
        role = grind (arith, nat_tests);
      }
  downgrades there downgrade.ToShared false is ea knows = let own = h.held t (Has Exclusive) (grind arith)
      in record {
        needed = grind (arith, nat_tests);
        role = grind (arith, nat_tests);
      }
  downgrades there downgrade.ToUpgradable true is ea knows = let own = h.held t (Has Exclusive) (grind arith)
      in record {
        needed = grind (arith, nat_tests);
        role = grind (arith, nat_tests);
      }
  downgrades there downgrade.ToUpgradable false is ea knows = let own = h.held t (Has Exclusive) (grind arith)
      in record {
        needed = grind (arith, nat_tests);
        role = grind (arith, nat_tests);
      }
  downgrades there downgrade.UpgradableToShared true is ea knows = let own =
      h.held t (Has Upgradable) (grind arith) in record {
        needed = grind (arith, nat_tests);
        role = grind (arith, nat_tests);
      }
  downgrades there downgrade.UpgradableToShared false is ea knows = let own =
      h.held t (Has Upgradable) (grind arith) in record {
        needed = grind (arith, nat_tests);
        role = grind (arith, nat_tests);
      }

  -- an upgrade owns where nobody shares beside it, and is pending where somebody does
  upgrades : t < length s.lock.shared → (b : Bool) → s.role t ≡ at_rest None (Some (Has Upgradable))
      → (count_in (code r s) == 1) ≡ b → Knows r.sort Exclusive
      → Follows r s t (does_and_wakes (not b) (Case (Convert Upgradable Exclusive))) (if b then idle
      else at_rest None (Some (Pends true)))
  upgrades there true is eb knows = let own = h.held t (Has Upgradable) (grind arith) in record {
    needed = grind (arith, nat_tests, tells.count);
    role = grind (arith, nat_tests, tells.count);
  }
  upgrades there false is eb knows =
      let own = h.held t (Has Upgradable) (grind arith) in
      let some : (readers s.lock == 0) ≡ false = grind (arith, nat_tests, tells.count) in
      record {
        needed = grind (arith, nat_tests, tells.count);
        role = put_same s.role t _ ∙ rw (is, some) (rw some refl);
      }

  -- a bit goes where nobody is left
  unmarks : (m : Line) (d : Role) → s.role t ≡ d → d.empty ≡ Some m → Follows r s t (Clear m ∷ []) (record d {
    empty = None;
    will_bring = false;
  })
  unmarks Main d is e = record {
    needed = (ap (λ (x : Role). x.empty) is ∙ e, tt);
    role = put_same s.role t _ ∙ ap (λ (x : Role). record x { empty = None; will_bring = false }) is;
  }
  unmarks Second d is e = record {
    needed = (ap (λ (x : Role). x.empty) is ∙ e, tt);
    role = put_same s.role t _ ∙ ap (λ (x : Role). record x { empty = None; will_bring = false }) is;
  }

-- ---------------------------------------------------------------- rights

pub knows_all : (r : Rules) → has_readers r.sort ≡ true → (x : Access) → Knows r.sort (wanted x)
knows_all r e access.Shared = grind arith
knows_all r e access.Upgradable = grind arith
knows_all r e access.Exclusive = grind arith

abbrev pub retrying : Bool → Want → Option Want
retrying again x = if again then Some x else None

tries : (again : Bool) (x : Want) → tries_for (retrying again x) x
tries true x = inr refl
tries false x = inl refl

-- ---------------------------------------------------------------- all places

module _ (r : Rules) (a : Admission) (s : Site) (t l : ℕ) (op : Op) (admits : Admits r a) (h : IsSite r s)
    (nowhere : standing t s.lock ≡ 0) (there : t < length s.lock.shared) where
  tells : TellsTrue r s
  tells = words_tell_true r s admits.0 h

  abbrev v : ℕ
  v = code r s

  -- tells what a call of this purpose does at a place
  abbrev FollowsAt : RwLockPlace → Type 0
  FollowsAt p = Follows r s t (rwlock_deeds a p None (reply.Value v))
      (role_next (rwlock_next a p (reply.Value v)))

  room : (x : Access) → (is_counted (wanted x) && nat_le a.limit (count_in v)) ≡ false
      → HasRoom r s.lock (wanted x)
  room access.Exclusive e = tt
  room access.Upgradable e = let c = tells.count in let m = admits.2 in grind (arith, nat_tests)
  room access.Shared e = let c = tells.count in let m = admits.2 in grind (arith, nat_tests)

  module _ (x : Access) (how : Patience) (again : Bool) (fresh : IsFreshTry how again) where
    abbrev place : RwLockAt → RwLockPlace
    place to = record { purpose = purpose.Enter x how; retries = again; at = to }

    abbrev wants : Option Want
    wants = retrying again (wanted x)

    refuses_no : (b : Bool) (answer : Answer) → park_or_mark b ≡ decisions.Refuse answer → ⊥
    refuses_no true answer e = cc
    refuses_no false answer e = cc

    takes_no : (b : Bool) → park_or_mark b ≡ decisions.Take → ⊥
    takes_no true e = cc
    takes_no false e = cc

    refused_by : (y : Patience) → how ≡ y → (answer : Answer) → decision_blocked y v ≡ decisions.Refuse answer
        → wants ≡ None
    refused_by Try e answer f = let g : again ≡ false = subst (λ (y : Patience). IsFreshTry y again) e fresh
        in rw g refl
    refused_by Patient e answer f = absurd (refuses_no (has_parked v) answer f)
    refused_by Timed e answer f = absurd (refuses_no (has_parked v) answer f)

    -- a call is refused as it tries, or where the lock is full
    refused : (answer : Answer) → decision a (wanted x) how v ≡ decisions.Refuse answer → (wants ≡ None)
        ⊎ (r.limit ≤ count_in v)
    refused answer e = by_tests (is_blocked a.recursive (wanted x) v) (is_counted (wanted x) && nat_le a.limit
        (count_in v)) refl e
      where
        by_tests : (b c : Bool) → (is_counted (wanted x) && nat_le a.limit (count_in v)) ≡ c
            → (if b then decision_blocked how v else if c then decisions.Refuse ReadersFull
            else decisions.Take) ≡ decisions.Refuse answer → (wants ≡ None) ⊎ (r.limit ≤ count_in v)
        by_tests true c ec f = inl (refused_by how refl answer f)
        by_tests false true ec f = inr (let m = admits.2 in grind (arith, nat_tests))
        by_tests false false ec f = absurd cc

    -- a thread that takes what it saw may
    pub may_enter : decision a (wanted x) how v ≡ decisions.Take → MayEnter r s.lock (wanted x)
    may_enter e = by_tests (is_blocked a.recursive (wanted x) v) refl (is_counted (wanted x) && nat_le a.limit
        (count_in v)) refl e
      where
        blocked_no : (y : Patience) → decision_blocked y v ≡ decisions.Take → ⊥
        blocked_no Try f = cc
        blocked_no Patient f = takes_no (has_parked v) f
        blocked_no Timed f = takes_no (has_parked v) f

        by_tests : (b : Bool) → is_blocked a.recursive (wanted x) v ≡ b → (c : Bool)
            → (is_counted (wanted x) && nat_le a.limit (count_in v)) ≡ c
            → (if b then decision_blocked how v else if c then decisions.Refuse ReadersFull
            else decisions.Take) ≡ decisions.Take → MayEnter r s.lock (wanted x)
        by_tests false eb false ec f = (
          tells.free (wanted x) (knows_all r admits.0 x) (rw admits.1 eb),
          room x ec,
        )
        by_tests false eb true ec f = absurd cc
        by_tests true eb c ec f = absurd (blocked_no how f)

    pub looks : (to : RwLockAt) → s.role t ≡ at_rest wants None → (d : Decision) → decision a (wanted x) how v
        ≡ d → Follows r s t (looked_deeds d) (role_next (looked_by (place to) v d))
    looks to is (decisions.Refuse answer) e = ends r s t admits.0 h tells wants None is (refused answer e)
    looks to is decisions.Take e = goes r s t admits.0 h tells _ is
    looks to is decisions.Mark e = goes r s t admits.0 h tells _ is
    looks to is decisions.Park e = goes r s t admits.0 h tells _ is

    came : (x2 : Access) → x ≡ x2 → (to : RwLockAt) → s.role t ≡ at_rest wants None
        → MayEnter r s.lock (wanted x)
        → Follows r s t (enters_deeds (wanted x2)) (role_next (came_in_for (record {
          purpose = purpose.Enter x2 how;
          retries = again;
          at = to;
        }) (purpose.Enter x2 how)))
    came access.Exclusive e to is may = begins_to_write r s t admits.0 h tells wants is
        (subst (λ (y : Access). MayEnter r s.lock (wanted y)) e may) (knows_all r admits.0 access.Shared)
    came access.Upgradable e to is may = comes r s t admits.0 h tells Upgradable wants
        (subst (λ (y : Access). tries_for wants (wanted y)) e (tries again (wanted x))) is
        (subst (λ (y : Access). MayEnter r s.lock (wanted y)) e may) (knows_all r admits.0 access.Shared)
        (λ e. cc)
    came access.Shared e to is may = comes r s t admits.0 h tells Shared wants
        (subst (λ (y : Access). tries_for wants (wanted y)) e (tries again (wanted x))) is
        (subst (λ (y : Access). MayEnter r s.lock (wanted y)) e may) (knows_all r admits.0 access.Shared)
        (λ e. cc)

    takes : (to : RwLockAt) (expected : ℕ) → s.role t ≡ at_rest wants None
        → decision a (wanted x) how expected ≡ decisions.Take → (b : Bool) → (v == expected) ≡ b
        → Follows r s t (exchanged_deeds (purpose.Enter x how) decisions.Take b (decided a (place to) v))
        (role_next (if b then came_in (place to) else looked a (place to) v))
    takes to expected is d true e = came x refl to is (may_enter (rw (eqb-true v expected e) d))
    takes to expected is d false e = looks to is (decision a (wanted x) how v) refl

    marked : (to : RwLockAt) (expected : ℕ) → s.role t ≡ at_rest wants None → (b : Bool)
        → Follows r s t (exchanged_deeds (purpose.Enter x how) decisions.Mark b (decided a (place to) v))
        (role_next (if b then stays (place to) (at.Decide (plus expected 1)) else looked a (place to) v))
    marked to expected is true = marks r s t admits.0 h tells Main _ is
    marked to expected is false = looks to is (decision a (wanted x) how v) refl

    decides : (expected : ℕ) → s.role t ≡ at_rest wants None → (d : Decision)
        → decision a (wanted x) how expected ≡ d → decided_act l (purpose.Enter x how) expected d
        ≡ act.Word l op
        → Follows r s t (exchanged_deeds (purpose.Enter x how) d (v == expected)
        (decided a (place (at.Decide expected)) v))
        (role_next (exchanged_next a (place (at.Decide expected)) expected v d))
    decides expected is decisions.Take d e = takes (at.Decide expected) expected is d (v == expected) refl
    decides expected is decisions.Mark d e = marked (at.Decide expected) expected is (v == expected)
    decides expected is decisions.Park d e = absurd cc
    decides expected is (decisions.Refuse answer) d e = absurd cc

    pub counts : (to : RwLockAt) → s.role t ≡ at_rest wants (Some (Pends false)) → (b : Bool)
        → (count_in v == 0) ≡ b
        → Follows r s t (if b then Case Settle ∷ End ∷ [] else [])
        (role_next (if b then next.End (entered how) else stays (place to) (at.Count v)))
    counts to is true e = settles r s t admits.0 h tells false wants is (eqb-true (count_in v) 0 e) nowhere
    counts to is false e = goes r s t admits.0 h tells _ is

    sets_aside : (expected : ℕ) → s.role t ≡ at_rest wants (Some (Pends false)) → (b : Bool)
        → Follows r s t (if b then Mark Second ∷ [] else counted_deeds v)
        (role_next (if b then stays (place (at.Count expected)) at.Marked else after_count
        (place (at.Count expected)) v))
    sets_aside expected is true = marks r s t admits.0 h tells Second _ is
    sets_aside expected is false = counts (at.Count expected) is (count_in v == 0) refl

    first : (b : Bool) → (v == 0) ≡ b → x ≡ access.Exclusive → s.role t ≡ at_rest wants None
        → Follows r s t (if b then Case (Enter Exclusive) ∷ End ∷ [] else missed_deeds how)
        (role_next (if b then next.End (entered how) else missed (place at.First) how))
    first true e xe is = first_won r s t admits.0 h tells wants
        (subst (λ (y : Access). tries_for wants (wanted y)) xe (tries again (wanted x))) is (eqb-true v 0 e)
    first false e xe is = by_how how fresh refl
      where
        by_how : (y : Patience) → IsFreshTry y again → how ≡ y → Follows r s t (missed_deeds y)
            (role_next (missed (place at.First) y))
        by_how Try f g = ends r s t admits.0 h tells wants None is (inl (rw f refl))
        by_how Patient f g = goes r s t admits.0 h tells _ is
        by_how Timed f g = goes r s t admits.0 h tells _ is

    rolled : (b : Bool) → s.parked ≡ b → s.role t ≡ at_rest None (Some (Pends false))
        → Follows r s t (does_and_wakes b (Case Rollback))
        (role_next (if b then stays (place at.RollBack) (wakes Main) else next.End No))
    rolled true e is = rolls r s t admits.0 h tells true is e nowhere
    rolled false e is = rolls r s t admits.0 h tells false is e nowhere

    unparks : (m : Line) (p2 : RwLockPlace) (d : Role) → s.role t ≡ d → d.empty ≡ Some m → rwlock_role p2
        ≡ record d {
          empty = None;
          will_bring = false;
        } → Follows r s t (Clear m ∷ []) (rwlock_role p2)
    unparks m p2 d is e f = rw f (unmarks r s t admits.0 h tells m d is e)

    enters_fit : (to : RwLockAt) → AtFits (purpose.Enter x how) to → s.role t ≡ rwlock_role (place to)
        → rwlock_act l a (place to) ≡ act.Word l op → FollowsAt (place to)
    enters_fit at.First fits is e = first (v == 0) refl fits is
    enters_fit at.Load fits is e = looks at.Load is (decision a (wanted x) how v) refl
    enters_fit (at.Decide expected) fits is e = decides expected is (decision a (wanted x) how expected) refl
        e
    enters_fit (at.Park parking.Clear) fits is e = unparks Main (place (at.Park parking.GiveUp)) _ is refl
        refl
    enters_fit at.Look fits is e = counts at.Look is (count_in v == 0) refl
    enters_fit (at.Count expected) fits is e = sets_aside expected is (v == expected)
    enters_fit (at.Aside parking.Clear) fits is e = unparks Second (place (at.Aside parking.GiveUp)) _ is refl
        refl
    enters_fit at.RollBack fits is e = rw tells.parked (rolled s.parked refl is)
    enters_fit (at.Wake m (waking.Clear any)) fits is e = unparks m (place (at.Wake m (waking.Leave any))) _
        is refl refl
    enters_fit at.GiveWay fits is e = absurd fits
    enters_fit to fits is e = absurd cc

  module _ (again : Bool) where
    abbrev of : RwLockPurpose → RwLockAt → RwLockPlace
    of q to = record { purpose = q; retries = again; at = to }

    released_shared : (b : Bool) → (has_aside v && (count_in v == 1)) ≡ b → s.role t ≡ at_rest None
        (Some (Has Shared))
        → Follows r s t (does_and_wakes b (Case (Leave Shared)))
        (role_next (wakes_or_ends (of (purpose.Release access.Shared) at.GiveWay) Second b))
    released_shared b e is = by_bits s.aside_parked (count s.lock == 1) refl refl
      where
        by_both : (x y : Bool) → s.aside_parked ≡ x → (count s.lock == 1) ≡ y → Owns s.lock t Shared
            → Follows r s t (does_and_wakes (x && y) (Case (Leave Shared)))
            (role_next (wakes_or_ends (of (purpose.Release access.Shared) at.GiveWay) Second (x && y)))
        by_both true true ex ey own = gives_shared r s t admits.0 h tells true true is own ex ey
        by_both true false ex ey own = gives_shared r s t admits.0 h tells true false is own ex ey
        by_both false y ex ey own = gives_shared r s t admits.0 h tells false y is own ex ey

        by_bits : (x y : Bool) → s.aside_parked ≡ x → (count s.lock == 1) ≡ y
            → Follows r s t (does_and_wakes b (Case (Leave Shared)))
            (role_next (wakes_or_ends (of (purpose.Release access.Shared) at.GiveWay) Second b))
        by_bits x y ex ey = let own : Owns s.lock t Shared = h.held t (Has Shared) (grind arith)
            in let same : b ≡ x && y = sym e ∙ rw (tells.aside, tells.count, ex, ey) refl
            in rw same (by_both x y ex ey own)

    released_more : (x : Access) (b : Bool) → (wanted x ≡ Exclusive) ⊎ (wanted x ≡ Upgradable) → s.parked ≡ b
        → s.role t ≡ at_rest None (Some (Has (wanted x)))
        → Follows r s t (does_and_wakes b (Case (Leave (wanted x))))
        (role_next (wakes_or_ends (of (purpose.Release x) at.GiveWay) Main b))
    released_more x true ex e is = gives_more r s t admits.0 h tells (wanted x) true is ex
        (h.held t (Has (wanted x)) (grind arith)) e
    released_more x false ex e is = gives_more r s t admits.0 h tells (wanted x) false is ex
        (h.held t (Has (wanted x)) (grind arith)) e

    releases_fit : (x : Access) (to : RwLockAt) → AtFits (purpose.Release x) to
        → s.role t ≡ rwlock_role (of (purpose.Release x) to) → rwlock_act l a (of (purpose.Release x) to)
        ≡ act.Word l op → FollowsAt (of (purpose.Release x) to)
    releases_fit access.Shared at.GiveWay fits is e = released_shared (has_aside v && (count_in v == 1)) refl
        is
    releases_fit access.Upgradable at.GiveWay fits is e =
        rw tells.parked (released_more access.Upgradable s.parked (inr refl) refl is)
    releases_fit access.Exclusive at.GiveWay fits is e =
        rw tells.parked (released_more access.Exclusive s.parked (inl refl) refl is)
    releases_fit x (at.Wake m (waking.Clear any)) fits is e = unmarks r s t admits.0 h tells m _ is refl
    releases_fit x (at.Wake m to) fits is e = absurd cc
    releases_fit x to fits is e = absurd fits

    downgraded : (d : Downgrade) (b : Bool) → s.parked ≡ b
        → s.role t ≡ at_rest None (Some (Has (wanted (from_of d))))
        → Follows r s t (does_and_wakes b (Case (Convert (wanted (from_of d)) (wanted (to_of d)))))
        (role_next (wakes_or_ends (of (purpose.Downgrade d) at.GiveWay) Main b))
    downgraded d true e is = downgrades r s t admits.0 h tells there d true is e
        (knows_all r admits.0 (to_of d))
    downgraded d false e is = downgrades r s t admits.0 h tells there d false is e
        (knows_all r admits.0 (to_of d))

    downgrades_fit : (d : Downgrade) (to : RwLockAt) → AtFits (purpose.Downgrade d) to → s.role t
        ≡ rwlock_role (of (purpose.Downgrade d) to) → rwlock_act l a (of (purpose.Downgrade d) to)
        ≡ act.Word l op → FollowsAt (of (purpose.Downgrade d) to)
    downgrades_fit d at.GiveWay fits is e = rw tells.parked (downgraded d s.parked refl is)
    downgrades_fit d (at.Wake Main (waking.Clear any)) fits is e = unmarks r s t admits.0 h tells Main _ is
        refl
    downgrades_fit d (at.Wake Main to) fits is e = absurd cc
    downgrades_fit d to fits is e = absurd fits

    -- ---------------------------------------------------------------- upgrades
    module _ (how : Patience) (fresh : IsFreshTry how again) where
      abbrev upgrade : RwLockAt → RwLockPlace
      upgrade to = of (purpose.Upgrade how) to

      abbrev upgrading : Option Want
      upgrading = retrying again Exclusive

      upgraded_now : (b : Bool) → (count_in v == 1) ≡ b → s.role t ≡ at_rest None (Some (Has Upgradable))
          → Follows r s t (does_and_wakes (not b) (Case (Convert Upgradable Exclusive)))
          (role_next (if b then next.End (entered how) else goes_to (upgrade at.GiveWay) at.Look false))
      upgraded_now true e is = upgrades r s t admits.0 h tells there true is e
          (knows_all r admits.0 access.Exclusive)
      upgraded_now false e is = upgrades r s t admits.0 h tells there false is e
          (knows_all r admits.0 access.Exclusive)

      pub upgrade_counts : (to : RwLockAt) → s.role t ≡ at_rest upgrading (Some (Pends true)) → (b : Bool)
          → (count_in v == 0) ≡ b
          → Follows r s t (if b then Case Settle ∷ End ∷ [] else [])
          (role_next (if b then next.End (entered how) else stays (upgrade to) (at.Count v)))
      upgrade_counts to is true e = settles r s t admits.0 h tells true upgrading is
          (eqb-true (count_in v) 0 e) nowhere
      upgrade_counts to is false e = goes r s t admits.0 h tells _ is

      upgrade_sets : (expected : ℕ) → s.role t ≡ at_rest upgrading (Some (Pends true)) → (b : Bool)
          → Follows r s t (if b then Mark Second ∷ [] else counted_deeds v)
          (role_next (if b then stays (upgrade (at.Count expected)) at.Marked else after_count
          (upgrade (at.Count expected)) v))
      upgrade_sets expected is true = marks r s t admits.0 h tells Second _ is
      upgrade_sets expected is false = upgrade_counts (at.Count expected) is (count_in v == 0) refl

      fell : (b : Bool) → s.parked ≡ b → s.role t ≡ at_rest None (Some (Pends true))
          → Follows r s t (does_and_wakes b (Case Rollback))
          (role_next (if b then stays (upgrade at.RollBack) (wakes Main) else next.End No))
      fell true e is = falls r s t admits.0 h tells true is e nowhere
      fell false e is = falls r s t admits.0 h tells false is e nowhere

      pending_fit : (to : RwLockAt) → AtPending to → s.role t ≡ rwlock_role (upgrade to)
          → rwlock_act l a (upgrade to) ≡ act.Word l op → FollowsAt (upgrade to)
      pending_fit at.GiveWay fits is e = upgraded_now (count_in v == 1) refl is
      pending_fit at.Look fits is e = upgrade_counts at.Look is (count_in v == 0) refl
      pending_fit (at.Count expected) fits is e = upgrade_sets expected is (v == expected)
      pending_fit at.Marked fits is e = absurd cc
      pending_fit (at.Aside parking.Clear) fits is e = unmarks r s t admits.0 h tells Second _ is refl
      pending_fit at.RollBack fits is e = rw tells.parked (fell s.parked refl is)
      pending_fit (at.Wake Main (waking.Clear any)) fits is e = unmarks r s t admits.0 h tells Main _ is refl
      pending_fit (at.Aside to) fits is e = absurd cc
      pending_fit (at.Wake Main to) fits is e = absurd cc
      pending_fit to fits is e = absurd fits

      -- a try: it takes where nobody else shares
      looks_up : (to : RwLockAt) → again ≡ false → s.role t ≡ at_rest upgrading (Some (Has Upgradable))
          → (b : Bool)
          → Follows r s t (looked_deeds (if b then decisions.Take else decisions.Refuse No))
          (role_next (looked_by (upgrade to) v (if b then decisions.Take else decisions.Refuse No)))
      looks_up to new is true = goes r s t admits.0 h tells _ is
      looks_up to new is false = ends r s t admits.0 h tells upgrading (Some (Has Upgradable)) is
          (inl (rw new refl))

      takes_up : (to : RwLockAt) (expected : ℕ) → again ≡ false → s.role t ≡ at_rest upgrading
          (Some (Has Upgradable)) → (count_in expected == 1) ≡ true → (b : Bool) → (v == expected) ≡ b
          → Follows r s t (exchanged_deeds (purpose.Upgrade how) decisions.Take b (decided a (upgrade to) v))
          (role_next (if b then came_in (upgrade to) else looked a (upgrade to) v))
      takes_up to expected new is one true e = upgrades r s t admits.0 h tells there true (is
          ∙ ap (λ (b : Bool). at_rest (retrying b Exclusive) (Some (Has Upgradable))) new)
          (ap (λ n. count_in n == 1) (eqb-true v expected e) ∙ one) (knows_all r admits.0 access.Exclusive)
      takes_up to expected new is one false e = looks_up to new is (count_in v == 1)

      decides_up : (expected : ℕ) → again ≡ false → s.role t ≡ at_rest upgrading (Some (Has Upgradable))
          → (b : Bool) → (count_in expected == 1) ≡ b
          → decided_act l (purpose.Upgrade how) expected (if b then decisions.Take else decisions.Refuse No)
          ≡ act.Word l op
          → Follows r s t (exchanged_deeds (purpose.Upgrade how) (if b then decisions.Take
          else decisions.Refuse No) (v == expected) (decided a (upgrade (at.Decide expected)) v))
          (role_next (exchanged_next a (upgrade (at.Decide expected)) expected v (if b then decisions.Take
          else decisions.Refuse No)))
      decides_up expected new is true one e = takes_up (at.Decide expected) expected new is one
          (v == expected) refl
      decides_up expected new is false one e = absurd cc

      try_fit : (to : RwLockAt) → again ≡ false → AtTry to → s.role t ≡ rwlock_role (upgrade to)
          → rwlock_act l a (upgrade to) ≡ act.Word l op → FollowsAt (upgrade to)
      try_fit at.Load new fits is e = looks_up at.Load new is (count_in v == 1)
      try_fit (at.Decide expected) new fits is e = decides_up expected new is (count_in expected == 1) refl e
      try_fit to new fits is e = absurd fits

pub rwlock_steps_follow : RwLockStepsFollow
rwlock_steps_follow r a s t l p op at nowhere e = by_purpose p.purpose p.retries p.at at.fresh at.place
    at.role e
  where
    by_patience : (how : Patience) (again : Bool) (to : RwLockAt) → IsFreshTry how again → AtUpgrade how to
        → s.role t ≡ rwlock_role (record {
          purpose = purpose.Upgrade how;
          retries = again;
          at = to;
        })
        → rwlock_act l a (record { purpose = purpose.Upgrade how; retries = again; at = to }) ≡ act.Word l op
        → Follows r s t (rwlock_deeds a (record {
          purpose = purpose.Upgrade how;
          retries = again;
          at = to;
        }) None (reply.Value (code r s))) (role_next (rwlock_next a (record {
          purpose = purpose.Upgrade how;
          retries = again;
          at = to;
        }) (reply.Value (code r s))))
    by_patience Try again to fresh fits is f = try_fit r a s t l op at.admits at.site nowhere at.there again
        Try fresh to fresh fits is f
    by_patience Patient again to fresh fits is f = pending_fit r a s t l op at.admits at.site nowhere at.there
        again Patient fresh to fits is f
    by_patience Timed again to fresh fits is f = pending_fit r a s t l op at.admits at.site nowhere at.there
        again Timed fresh to fits is f

    by_purpose : (q : RwLockPurpose) (again : Bool) (to : RwLockAt) → IsFreshTry (patience_of q) again
        → AtFits q to → s.role t ≡ rwlock_role (record {
          purpose = q;
          retries = again;
          at = to;
        })
        → rwlock_act l a (record { purpose = q; retries = again; at = to }) ≡ act.Word l op
        → Follows r s t (rwlock_deeds a (record {
          purpose = q;
          retries = again;
          at = to;
        }) None (reply.Value (code r s))) (role_next (rwlock_next a (record {
          purpose = q;
          retries = again;
          at = to;
        }) (reply.Value (code r s))))
    by_purpose (purpose.Enter x how) again to fresh fits is f = enters_fit r a s t l op at.admits at.site
        nowhere at.there x how again fresh to fits is f
    by_purpose (purpose.Release x) again to fresh fits is f = releases_fit r a s t l op at.admits at.site
        nowhere at.there again x to fits is f
    by_purpose (purpose.Downgrade d) again to fresh fits is f = downgrades_fit r a s t l op at.admits at.site
        nowhere at.there again d to fits is f
    by_purpose (purpose.Upgrade how) again to fresh fits is f = by_patience how again to fresh fits is f
