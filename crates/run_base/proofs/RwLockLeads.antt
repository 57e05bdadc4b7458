-- Each reply to an act of a reader-writer call leads to a place that fits, or ends the call rightly.
use Rattle.std.proofs.Common.{ℕ, Bool, true, false, List, Option, Some, None, if◌then◌else◌, ◌==◌, ◌&&◌, not}
use Rattle.std.proofs.Common.{◌≡◌, ◌≢◌, ◌++◌, inl, inr, ◌+◌, ◌-◌, ◌*◌, ◌/◌, ◌^◌, ◌<◌, refl, ap, ◌∙◌, sym}
use Rattle.std.proofs.Common.{subst, arith, bit_and, eq-eqb, ne_eqb}
use Rattle.std.proofs.lemmas.Nat.{and-not, and_comm}
use Rattle.std.proofs.lemmas.Nat.Bits.{and_pow}
use Rattle.std.proofs.lemmas.Bool.{eqb-true}
use mathlib.Core.Logic.{dite}
use native.Mathlib.Decide.{ℕ_discrete}
use Rattle.core_base.specs.Keys.{key_of}
use Rattle.core_base.specs.Words.{apply}
use Rattle.core_base.specs.declared.keys.Keys.TheVariants.{One}
use Rattle.core_base.specs.declared.keys.Line.{Line}
use Rattle.core_base.specs.declared.keys.Line.TheVariants.{Main, Second}
use Rattle.core_base.specs.declared.notes.Note.TheVariants as note
use Rattle.core_base.specs.declared.ops.Op.{Op}
use Rattle.core_base.specs.declared.ops.Op.TheVariants.{Load, Sub, Add, Exchange}
use Rattle.core_base.specs.declared.wants.Want.TheVariants as wants
use Rattle.spec_locks.specs.declared.calls.Access.{Access}
use Rattle.spec_locks.specs.declared.calls.Access.TheVariants as access
use Rattle.spec_locks.specs.declared.calls.Patience.{Patience}
use Rattle.spec_locks.specs.declared.calls.Patience.TheVariants.{Patient, Timed, Try}
use Rattle.spec_locks.specs.declared.outcomes.Answer.TheVariants.{Ok, No}
use Rattle.spec_locks.specs.Codes.{count_in, has_aside, has_parked}
use Rattle.spec_locks.specs.Sites.{Claim, Has, Pends}
use Rattle.steps_base.specs.Acts.{any_picked}
use Rattle.steps_base.specs.declared.acts.Act.TheVariants as act
use Rattle.steps_base.specs.declared.acts.Next.{Next}
use Rattle.steps_base.specs.declared.acts.Next.TheVariants.{At, End}
use Rattle.steps_base.specs.declared.acts.Reply.{Reply}
use Rattle.steps_base.specs.declared.acts.Reply.TheVariants.{Done, Value, Parked, Took, Picked, Removed}
use Rattle.steps_base.specs.declared.acts.Reply.TheVariants.{MovedTo, Late, Woken}
use Rattle.steps_base.specs.Profiles.{in_line}
use Rattle.lot_steps.specs.Steps.{key_in}
use Rattle.steps_rwlock_fair.specs.declared.places.RwLockCallPlace.TheVariants as calls
use Rattle.lot_steps.specs.declared.places.Place.TheVariants as place
use Rattle.steps_rwlock.specs.RwLockCalls.{StandsAt, MayBeTold, HasDeadline}
use Rattle.steps_rwlock.specs.RwLockDeeds.{claimed, pends, rwlock_role, kept_claim, falls_back}
use Rattle.steps_rwlock.specs.RwLockProfiles.{enters_late, is_late, is_timed, late_at, rwlock_profile}
use Rattle.steps_rwlock.specs.RwLockSteps.{is_counted, wanted, access_of, patience_of, decided_for}
use Rattle.steps_rwlock.specs.RwLockSteps.{decided_act, plus, word_taken, exchange, rollback_op, unparked}
use Rattle.steps_rwlock.specs.RwLockSteps.{start_of, want_at, ends_with, first_next, entered, stays}
use Rattle.steps_rwlock.specs.RwLockSteps.{looked_by, looked, missed, came_in, exchanged_next, after_count}
use Rattle.steps_rwlock.specs.RwLockSteps.{wakes, rolled_back, took, clears, act_at, next_at, park_act}
use Rattle.steps_rwlock.specs.RwLockSteps.{wake_act, park_next, wake_next}
use Rattle.steps_rwlock.specs.declared.enter.Decision.{Decision}
use Rattle.steps_rwlock.specs.declared.enter.Decision.TheVariants as decisions
use Rattle.steps_rwlock.specs.declared.park.ParkAt.{ParkAt}
use Rattle.steps_rwlock.specs.declared.park.ParkAt.TheVariants as parking
use Rattle.steps_rwlock.specs.declared.places.Admission.{Admission}
use Rattle.steps_rwlock.specs.declared.places.RwLockAt.{RwLockAt}
use Rattle.steps_rwlock.specs.declared.places.RwLockAt.TheVariants as at
use Rattle.steps_rwlock.specs.declared.places.RwLockPlace.{RwLockPlace}
use Rattle.steps_rwlock.specs.declared.purposes.RwLockPurpose.{RwLockPurpose}
use Rattle.steps_rwlock.specs.declared.purposes.RwLockPurpose.TheVariants as purpose
use Rattle.steps_rwlock.specs.declared.release.WakeAt.{WakeAt}
use Rattle.steps_rwlock.specs.declared.release.WakeAt.TheVariants as waking
use Rattle.core_words.specs.Steps.{is_look, owns_after_step}
use Rattle.core_words.specs.declared.owners.Ownership.{Ownership}
use Rattle.core_words.specs.declared.words.WordKind.TheVariants as kinds
use Rattle.core_words.proofs.RwLockOwning.{fits}
use Rattle.run_base.specs.Fitting.{sleeper_at}
use Rattle.run_base.specs.Paths.{rwlock_at, rwlocks, at_rwlock, step}
use Rattle.run_base.specs.RwLockFitting.{Answers, FellBack, FitsRwLock, HasGivenWay, SeenInRange, HasStood}
use Rattle.run_base.specs.RwLockFitting.{IsBeside, IsCounted, IsRwLockOver, IsWithin, MayGiveUp, OwnsBeside}
use Rattle.run_base.specs.RwLockFitting.{OwnsRight, LookedInLine, LookedLast, TookWoken, did_wake, woken_line}
use Rattle.run_base.specs.declared.sleepers.Sleeper.{Sleeper}
use Rattle.run_base.specs.Stages.{ThreadState, SectionView, Became, HasDone, IsLeft, Stepped, TookNobodyAt}
use Rattle.run_base.specs.Stages.{entered_now, listed, stage, took_as}
use Rattle.run_base.proofs.RwLockDeciding.{marks, marks_aside, marks_clear, refuses, takes_shared}
use Rattle.run_base.proofs.RwLockDeciding.{takes_upgradable, takes_exclusive, upgrades}
use Rattle.run_base.proofs.RwLockKeeping as keeping
use Rattle.run_base.proofs.Leaving.{has_done}

never : {A : Type 0} → false ≡ true → A
never e = absurd cc

none_some : {A : Type 0} {key : ℕ} → None ≡ Some key → A
none_some e = absurd cc

-- clearing a parked bit keeps the owners of the word
cleared : (n k : ℕ) → n < 2 ^ 64 → 2 ^ k < 2 ^ 64 → bit_and n (2 ^ 64 - 1 - 2 ^ k) + bit_and n (2 ^ k) ≡ n
cleared n k fits small = omega (
  arith,
  and-not 64 (2 ^ k) n small fits,
  and_comm n (2 ^ 64 - 1 - 2 ^ k),
  and_comm n (2 ^ k),
)

clears_same : (m : Line) (seen : ℕ) → seen < 2 ^ 64 → apply (unparked m) seen / 4 ≡ seen / 4
clears_same Main seen small = omega (arith, cleared seen 0 small (omega arith), and_pow seen 0)
clears_same Second seen small = omega (arith, cleared seen 1 small (omega arith), and_pow seen 1)

clears_looks : (m : Line) (seen : ℕ) → is_look (unparked m) seen ≡ false
clears_looks Main seen = refl
clears_looks Second seen = refl

-- for what a thread sleeps, but that nobody hands it the lock
abbrev pub unhanded : ℕ → Admission → RwLockPlace → Sleeper
unhanded l a p = record (sleeper_at (place.RwLock l a (calls.Plain p))) { takes_over = false }

-- tells what a place keeps, beside that its call may stand there
pub record Kept (up : Type 0) (l : ℕ) (base : List Ownership) (a : Admission) (p : RwLockPlace)
    (st : ThreadState) : Type 0 where
  pub begun : HasGivenWay p.at
  pub seen : SeenInRange p.at
  pub owns : OwnsBeside l (rwlock_role p).claims base st.owns
  pub within : IsWithin l a p.purpose (rwlock_role p).inside (rwlock_role p).has_taken st.inside
  pub stood : HasStood l p.at st.steps
  pub late : (rwlock_profile a p).late ≡ true → up

-- tells what a call came to
abbrev pub Comes : Type 0 → ℕ → List Ownership → Admission → RwLockPurpose → Next RwLockPlace → ThreadState
    → Type 0
Comes up l base a q (At p) st = Kept up l base a p st × (p.purpose ≡ q)
Comes up l base a q (End answer) st = IsRwLockOver up l base a q answer st

module _ (up : Type 0) (l : ℕ) (a : Admission) (base : List Ownership) (q : RwLockPurpose) where
  -- a call that is not late, and one that was late before
  not_late : (to : RwLockAt) → enters_late is_late to ≡ false → late_at is_late q to ≡ true → up
  not_late to e h = by_purpose q h
    where
      by_purpose : (r : RwLockPurpose) → late_at is_late r to ≡ true → up
      by_purpose (purpose.Enter x how) h = never (sym e ∙ h)
      by_purpose (purpose.Upgrade how) h = never (sym e ∙ h)
      by_purpose (purpose.Release x) h = never h
      by_purpose (purpose.Downgrade d) h = never h

  still_late : (from to : RwLockAt) → enters_late is_late from ≡ true → (late_at is_late q from ≡ true → up)
      → late_at is_late q to ≡ true → up
  still_late from to e f h = by_purpose q f h
    where
      by_purpose : (r : RwLockPurpose) → (late_at is_late r from ≡ true → up) → late_at is_late r to ≡ true
          → up
      by_purpose (purpose.Enter x how) f h = f e
      by_purpose (purpose.Upgrade how) f h = f e
      by_purpose (purpose.Release x) f h = never h
      by_purpose (purpose.Downgrade d) f h = never h

  module _ (again : Bool) (st new : ThreadState) where
    abbrev of : RwLockAt → RwLockPlace
    of to = record { purpose = q; retries = again; at = to }

    abbrev Fits : RwLockAt → Type 0
    Fits to = FitsRwLock up l base a (of to) st

    abbrev Reach : Next RwLockPlace → Type 0
    Reach next = Comes up l base a q next new

    abbrev Step : Op → ℕ → Type 0
    Step op seen = Stepped kinds.RwLock (rwlock_at l) op seen st new

    owns_now : (op : Op) (seen : ℕ) → Step op seen → new.owns ≡ owns_after_step kinds.RwLock (rwlock_at l) op
        seen st.owns
    owns_now op seen b = ap (λ (x : ThreadState). x.owns) b.1

    inside_now : (op : Op) (seen : ℕ) → Step op seen → new.inside ≡ st.inside
    inside_now op seen b = ap (λ (x : ThreadState). x.inside) b.1

    last_now : (op : Op) (seen : ℕ) → Step op seen → new.last ≡ None
    last_now op seen b = ap (λ (x : ThreadState). x.last) b.1

    steps_now : (op : Op) (seen : ℕ) → Step op seen → new.steps ≡ st.steps ++ step (rwlock_at l) op seen
    steps_now op seen b = ap (λ (x : ThreadState). x.steps) b.1

    small : (op : Op) (seen : ℕ) → Step op seen → seen < 2 ^ 64
    small op seen b = fits (rwlock_at l) seen st.owns b.0

    -- tells what is claimed after a step
    claims_now : (op : Op) (seen : ℕ) (c : Option Claim) → Step op seen → OwnsBeside l c base
        (owns_after_step kinds.RwLock (rwlock_at l) op seen st.owns) → OwnsBeside l c base new.owns
    claims_now op seen c b = subst (OwnsBeside l c base) (sym (owns_now op seen b))

    -- at a place outside all sections, where nothing is late
    rests : (to : RwLockAt) (r : Bool) (c : Option Claim) → HasGivenWay to → SeenInRange to
        → HasStood l to new.steps → (rwlock_role (record {
          purpose = q;
          retries = r;
          at = to;
        })).claims ≡ c → (rwlock_role (record {
          purpose = q;
          retries = r;
          at = to;
        })).inside ≡ None → enters_late is_late to ≡ false
        → OwnsBeside l c base new.owns → new.inside ≡ None → Reach (At (record {
          purpose = q;
          retries = r;
          at = to;
        }))
    rests to r c begun seen stood claims outside quiet owns none = (
      record {
        begun = begun;
        seen = seen;
        stood = stood;
        owns = subst (λ (x : Option Claim). OwnsBeside l x base new.owns) (sym claims) owns;
        within = subst (λ (x : Option Line). IsWithin l a q x (rwlock_role (record {
          purpose = q;
          retries = r;
          at = to;
        })).has_taken new.inside) (sym outside) none;
        late = not_late to quiet;
      },
      refl,
    )

    -- ---------------------------------------------------------------- deciding

    -- by a value that it saw, whose right or none it still has
    looked_comes : (to : RwLockAt) (seen : ℕ) → seen < 2 ^ 64 → StandsAt q again (at.Decide seen)
        → OwnsBeside l (claimed q) base new.owns → new.inside ≡ None → new.last ≡ None → (d : Decision)
        → decided_for a q seen ≡ d → Reach (looked_by (of to) seen d)
    looked_comes to seen few stands owns none last decisions.Take e = rests (at.Decide seen) again (claimed q)
        tt few tt refl refl refl owns none
    looked_comes to seen few stands owns none last decisions.Mark e = rests (at.Decide seen) again (claimed q)
        tt few tt refl refl refl owns none
    looked_comes to seen few stands owns none last decisions.Park e = rests (at.Decide seen) again (claimed q)
        tt few tt refl refl refl owns none
    looked_comes to seen few stands owns none last (decisions.Refuse answer) e =
        (none, by_purpose q stands owns e)
      where
        counts : (x : Access) → is_counted (wanted x) ≡ true → IsCounted x
        counts access.Shared e = tt
        counts access.Upgradable e = tt
        counts access.Exclusive e = never e

        try_may : (how : Patience) → how ≡ Try → MayGiveUp up how
        try_may how is = subst (MayGiveUp up) (sym is) tt

        refused : (b : Bool) → (if b then decisions.Take else decisions.Refuse No) ≡ decisions.Refuse answer
            → answer ≡ No
        refused true e = absurd cc
        refused false e = cc

        by_purpose : (r : RwLockPurpose) → StandsAt r again (at.Decide seen)
            → OwnsBeside l (claimed r) base new.owns → decided_for a r seen ≡ decisions.Refuse answer
            → Answers up l base a r answer new
        by_purpose (purpose.Enter x how) stands owns e = elim (refuses a how seen (wanted x) answer e) [
          | inl tries ↦ inr (inl (
            tries.0,
            try_may how tries.1,
            owns,
            inl (
              last,
              subst (λ (h : Patience). FellBack l (purpose.Enter x h) h new.steps) (sym tries.1)
                  tt,
            ),
          ))
          | inr full ↦ inr (inr (full.0, counts x full.1, owns))
        ]
        by_purpose (purpose.Upgrade Try) stands owns e = inr (
          refused (count_in seen == 1) e,
          tt,
          owns,
          inl (last, tt),
        )
        by_purpose (purpose.Upgrade Patient) stands owns e = absurd stands
        by_purpose (purpose.Upgrade Timed) stands owns e = absurd stands
        by_purpose (purpose.Release access.Shared) stands owns e = absurd stands
        by_purpose (purpose.Release access.Upgradable) stands owns e = absurd stands
        by_purpose (purpose.Release access.Exclusive) stands owns e = absurd stands
        by_purpose (purpose.Downgrade d) stands owns e = absurd stands

    -- a look that keeps what is claimed
    look_claimed : (op : Op) (seen : ℕ) → StandsAt q again (at.Decide seen) → Step op seen → apply op seen / 4
        ≡ seen / 4 → OwnsBeside l (claimed q) base st.owns → OwnsBeside l (claimed q) base new.owns
    look_claimed op seen stands b same owns = claims_now op seen (claimed q) b (by_purpose q stands owns)
      where
        by_purpose : (r : RwLockPurpose) → StandsAt r again (at.Decide seen)
            → OwnsBeside l (claimed r) base st.owns → OwnsBeside l (claimed r) base
            (owns_after_step kinds.RwLock (rwlock_at l) op seen st.owns)
        by_purpose (purpose.Enter x how) stands owns = keeping.look_beside l base st.owns seen b.0 op same
            owns
        by_purpose (purpose.Upgrade how) stands owns = keeping.look_upgradable l base st.owns seen b.0 op same
            owns
        by_purpose (purpose.Release access.Shared) stands owns = absurd stands
        by_purpose (purpose.Release access.Upgradable) stands owns = absurd stands
        by_purpose (purpose.Release access.Exclusive) stands owns = absurd stands
        by_purpose (purpose.Downgrade d) stands owns = absurd stands

    -- where a call decides once, it may decide again
    decides_again : (seen other : ℕ) → StandsAt q again (at.Decide seen) → StandsAt q again (at.Decide other)
    decides_again seen other stands = by_purpose q stands
      where
        by_purpose : (r : RwLockPurpose) → StandsAt r again (at.Decide seen)
            → StandsAt r again (at.Decide other)
        by_purpose (purpose.Enter access.Shared how) stands = stands
        by_purpose (purpose.Enter access.Upgradable how) stands = stands
        by_purpose (purpose.Enter access.Exclusive how) stands = stands
        by_purpose (purpose.Upgrade Try) stands = stands
        by_purpose (purpose.Upgrade Patient) stands = absurd stands
        by_purpose (purpose.Upgrade Timed) stands = absurd stands
        by_purpose (purpose.Release access.Shared) stands = absurd stands
        by_purpose (purpose.Release access.Upgradable) stands = absurd stands
        by_purpose (purpose.Release access.Exclusive) stands = absurd stands
        by_purpose (purpose.Downgrade d) stands = absurd stands

    load_decides : (seen : ℕ) → StandsAt q again at.Load → StandsAt q again (at.Decide seen)
    load_decides seen stands = by_purpose q stands
      where
        by_purpose : (r : RwLockPurpose) → StandsAt r again at.Load → StandsAt r again (at.Decide seen)
        by_purpose (purpose.Enter access.Shared how) stands = stands
        by_purpose (purpose.Enter access.Upgradable how) stands = stands
        by_purpose (purpose.Enter access.Exclusive how) stands = stands
        by_purpose (purpose.Upgrade Try) stands = stands
        by_purpose (purpose.Upgrade Patient) stands = absurd stands
        by_purpose (purpose.Upgrade Timed) stands = absurd stands
        by_purpose (purpose.Release access.Shared) stands = absurd stands
        by_purpose (purpose.Release access.Upgradable) stands = absurd stands
        by_purpose (purpose.Release access.Exclusive) stands = absurd stands
        by_purpose (purpose.Downgrade d) stands = absurd stands

    load_leads : Fits at.Load → (seen : ℕ) → Step Load seen → Reach (looked a (of at.Load) seen)
    load_leads f seen b = let stands = load_decides seen f.stands.place in
        looked_comes at.Load seen (small Load seen b) stands (look_claimed Load seen stands b refl f.owns)
        (inside_now Load seen b ∙ f.within) (last_now Load seen b) (decided_for a q seen) refl

    -- the exchange of the thread failed
    misses : (seen to other : ℕ) → Fits (at.Decide seen) → other ≢ seen → Step (Exchange seen to) other
        → Reach (looked a (of (at.Decide seen)) other)
    misses seen to other f ne b = let op = Exchange seen to in let stands =
        decides_again seen other f.stands.place in
        looked_comes (at.Decide seen) other (small (Exchange seen to) other b) stands
        (look_claimed (Exchange seen to) other stands b (keeping.missed_same seen to other ne) f.owns)
        (inside_now (Exchange seen to) other b ∙ f.within) (last_now (Exchange seen to) other b)
        (decided_for a q other) refl

    -- An exchange that takes found what it saw.
    came : (seen : ℕ) → Fits (at.Decide seen) → decided_for a q seen ≡ decisions.Take
        → Step (Exchange seen (word_taken q seen)) seen → Reach (came_in (of (at.Decide seen)))
    came seen f e b = by_purpose q refl f.stands.place f.owns e b
      where
        none : new.inside ≡ None
        none = inside_now (Exchange seen (word_taken q seen)) seen b ∙ f.within

        -- by the sum that does not wrap
        owned : (c : Option Claim) (to word : ℕ) → to ≡ word → Step (Exchange seen to) seen
            → OwnsBeside l c base (owns_after_step kinds.RwLock (rwlock_at l) (Exchange seen word) seen
            st.owns) → OwnsBeside l c base new.owns
        owned c to word same b = subst
            (λ (k : ℕ). OwnsBeside l c base (owns_after_step kinds.RwLock (rwlock_at l) (Exchange seen k) seen
            st.owns) → OwnsBeside l c base new.owns) same (claims_now (Exchange seen to) seen c b)

        by_purpose : (r : RwLockPurpose) → q ≡ r → StandsAt r again (at.Decide seen)
            → OwnsBeside l (claimed r) base st.owns → decided_for a r seen ≡ decisions.Take
            → Step (Exchange seen (word_taken r seen)) seen
            → Comes up l base a r (came_in (record { purpose = r; retries = again; at = at.Decide seen })) new
        by_purpose (purpose.Enter access.Shared how) is stands owns e b = let t =
            takes_shared a how seen f.room e in (
              none,
              inl (
                refl,
                owned (Some (Has wants.Shared)) (plus seen 16) (seen + 16) t.0 b
                    (keeping.reads l base st.owns seen b.0 t.2 owns),
              ),
            )
        by_purpose (purpose.Enter access.Upgradable how) is stands owns e b = let t =
            takes_upgradable a how seen f.room e in (
              none,
              inl (
                refl,
                owned (Some (Has wants.Upgradable)) (plus seen 20) (seen + 20) t.0 b
                    (keeping.reads_upgradable l base st.owns seen b.0 t.2 owns),
              ),
            )
        by_purpose (purpose.Enter access.Exclusive how) is stands owns e b = let t =
            takes_exclusive a how seen f.seen e in (
              record {
                begun = tt;
                seen = tt;
                stood = tt;
                owns = owned (Some (Pends false)) (plus seen 8) (seen + 8) t.0 b
                    (keeping.writes l base st.owns seen b.0 t.1 owns);
                within = none;
                late = λ h. never h;
              },
              refl,
            )
        by_purpose (purpose.Upgrade how) is stands owns e b = let one = alone (count_in seen == 1) refl e in (
          none,
          inl (
            refl,
            owned (Some (Has wants.Exclusive)) (plus seen (2 ^ 64 - 12)) (seen - 12)
                (upgrades seen f.seen one) b (keeping.upgrades l base st.owns seen b.0 one owns),
          ),
        )
          where
            alone : (b : Bool) → (count_in seen == 1) ≡ b
                → (if b then decisions.Take else decisions.Refuse No) ≡ decisions.Take → count_in seen ≡ 1
            alone true t e = eqb-true (count_in seen) 1 t
            alone false t e = absurd cc
        by_purpose (purpose.Release access.Shared) is stands owns e b = absurd stands
        by_purpose (purpose.Release access.Upgradable) is stands owns e b = absurd stands
        by_purpose (purpose.Release access.Exclusive) is stands owns e b = absurd stands
        by_purpose (purpose.Downgrade d) is stands owns e b = absurd stands

    takes_leads : (seen : ℕ) → Fits (at.Decide seen) → decided_for a q seen ≡ decisions.Take → (other : ℕ)
        → Step (Exchange seen (word_taken q seen)) other
        → Reach (if other == seen then came_in (of (at.Decide seen)) else looked a (of (at.Decide seen))
        other)
    takes_leads seen f e other b = dite (ℕ_discrete other seen)
        (λ same. rw (eq-eqb other seen same)
        (came seen f e (subst (Step (Exchange seen (word_taken q seen))) same b)))
        (λ ne. rw (ne_eqb other seen ne) (misses seen (word_taken q seen) other f ne b))

    clear_of : (seen : ℕ) → decided_for a q seen ≡ decisions.Mark → has_parked seen ≡ false
    clear_of seen e = by_purpose q e
      where
        never_marks : (b : Bool) → (if b then decisions.Take else decisions.Refuse No) ≡ decisions.Mark → ⊥
        never_marks true e = cc
        never_marks false e = cc

        by_purpose : (r : RwLockPurpose) → decided_for a r seen ≡ decisions.Mark → has_parked seen ≡ false
        by_purpose (purpose.Enter x how) e = marks_clear a how seen (wanted x) e
        by_purpose (purpose.Release x) e = marks_clear a Patient seen (wanted x) e
        by_purpose (purpose.Downgrade d) e =
            marks_clear a Patient seen (wanted (access_of (purpose.Downgrade d))) e
        by_purpose (purpose.Upgrade how) e = absurd (never_marks (count_in seen == 1) e)

    marks_leads : (seen : ℕ) → Fits (at.Decide seen) → decided_for a q seen ≡ decisions.Mark → (other : ℕ)
        → Step (Exchange seen (plus seen 1)) other
        → Reach (if other == seen then stays (of (at.Decide seen)) (at.Decide (plus seen 1))
        else looked a (of (at.Decide seen)) other)
    marks_leads seen f e other b = dite (ℕ_discrete other seen)
        (λ same. rw (eq-eqb other seen same) (marked (subst (Step (Exchange seen (plus seen 1))) same b)))
        (λ ne. rw (ne_eqb other seen ne) (misses seen (plus seen 1) other f ne b))
      where
        marked : Step (Exchange seen (plus seen 1)) seen
            → Reach (stays (of (at.Decide seen)) (at.Decide (plus seen 1)))
        marked b = let m = marks seen f.seen (clear_of seen e) in
            let same : apply (Exchange seen (plus seen 1)) seen / 4 ≡ seen / 4 =
            subst (λ (k : ℕ). apply (Exchange seen k) seen / 4 ≡ seen / 4) (sym m.0)
            (keeping.marked_same seen 1 (omega (arith, m.1))) in
            rests (at.Decide (plus seen 1)) again (claimed q) tt (omega arith) tt refl refl refl
            (claims_now (Exchange seen (plus seen 1)) seen (claimed q) b (keeping.unlooked l base st.owns seen
            b.0 (Exchange seen (plus seen 1)) (claimed q) same (keeping.marked_looks seen (plus seen 1))
            f.owns)) (inside_now (Exchange seen (plus seen 1)) seen b ∙ f.within)

    -- by what the thread decides: an exchange, or the section of the main queue
    decides_leads : (seen : ℕ) → Fits (at.Decide seen) → (d : Decision) → decided_for a q seen ≡ d
        → (reply : Reply) → Became up rwlocks (at_rwlock l) (unhanded l a (of (at.Decide seen))) st
        (decided_act l q seen d) reply new
        → Comes up l base a q (next_at a (of (at.Decide seen)) (at.Decide seen) reply) new
        × MayBeTold a (of (at.Decide seen)) (at.Decide seen) reply
    decides_leads seen f decisions.Take e (Value other) b = (
      subst (λ (d : Decision). Reach (exchanged_next a (of (at.Decide seen)) seen other d)) (sym e)
          (takes_leads seen f e other b),
      small (Exchange seen (word_taken q seen)) other b,
    )
    decides_leads seen f decisions.Mark e (Value other) b = (
      subst (λ (d : Decision). Reach (exchanged_next a (of (at.Decide seen)) seen other d)) (sym e)
          (marks_leads seen f e other b),
      small (Exchange seen (plus seen 1)) other b,
    )
    decides_leads seen f decisions.Park e Done b = (parked (claimed q) f.owns, e)
      where
        by_purpose : (r : RwLockPurpose) → StandsAt r again (at.Decide seen) → decided_for a r seen
            ≡ decisions.Park → OwnsBeside l (claimed r) base st.owns → IsBeside l base st.owns
        by_purpose (purpose.Enter x how) stands e owns = owns
        by_purpose (purpose.Upgrade how) stands e owns = absurd (no_park (count_in seen == 1) e)
          where
            no_park : (b : Bool) → (if b then decisions.Take else decisions.Refuse No) ≡ decisions.Park → ⊥
            no_park true e = cc
            no_park false e = cc
        by_purpose (purpose.Release access.Shared) stands e owns = absurd stands
        by_purpose (purpose.Release access.Upgradable) stands e owns = absurd stands
        by_purpose (purpose.Release access.Exclusive) stands e owns = absurd stands
        by_purpose (purpose.Downgrade d) stands e owns = absurd stands

        parked : (c : Option Claim) → OwnsBeside l (claimed q) base st.owns
            → Reach (stays (of (at.Decide seen)) (at.Park parking.Check))
        parked c owns = (
          record {
            begun = tt;
            seen = tt;
            stood = tt;
            owns = subst (λ (x : List Ownership). IsBeside l base x)
                (sym (ap (λ (s : ThreadState). s.owns) b))
                (by_purpose q f.stands.place e owns);
            within = ap (λ (s : ThreadState). s.inside) b;
            late = not_late (at.Park parking.Check) refl;
          },
          refl,
        )
    decides_leads seen f decisions.Take e reply b = absurd b
    decides_leads seen f decisions.Mark e reply b = absurd b
    decides_leads seen f decisions.Park e reply b = absurd b
    decides_leads seen f (decisions.Refuse answer) e reply b = absurd b

    -- ---------------------------------------------------------------- a writer's first exchange

    first_leads : Fits at.First → (seen : ℕ) → Step (Exchange 0 8) seen
        → Reach (first_next (of at.First) seen)
    first_leads f seen b = by_purpose q refl f.stands.place
      where
        by_how : (how : Patience) → q ≡ purpose.Enter access.Exclusive how → seen ≢ 0
            → Reach (missed (of at.First) how)
        by_how how is ne = by_patience how is
          where
            owns : IsBeside l base new.owns
            owns = claims_now (Exchange 0 8) seen None b (keeping.look_beside l base st.owns seen b.0
                (Exchange 0 8) (keeping.missed_same 0 8 seen ne) f.owns)

            none : new.inside ≡ None
            none = inside_now (Exchange 0 8) seen b ∙ f.within

            of_claim : (r : RwLockPurpose) → r ≡ purpose.Enter access.Exclusive how → None ≡ claimed r
            of_claim r is = sym (ap claimed is)

            goes_on : Reach (stays (of at.First) at.Load)
            goes_on = rests at.Load again (claimed q) tt tt tt refl refl refl
                (subst (λ (c : Option Claim). OwnsBeside l c base new.owns) (of_claim q is) owns) none

            by_patience : (p : Patience) → q ≡ purpose.Enter access.Exclusive p
                → Reach (missed (of at.First) p)
            by_patience Try is = (
              none,
              subst (λ (r : RwLockPurpose). Answers up l base a r No new) (sym is)
                  (inr (inl (refl, tt, owns, inl (last_now (Exchange 0 8) seen b, tt)))),
            )
            by_patience Patient is = goes_on
            by_patience Timed is = goes_on

        by_purpose : (r : RwLockPurpose) → q ≡ r → StandsAt r again at.First
            → Reach (if seen == 0 then End (entered (patience_of r)) else missed (of at.First)
            (patience_of r))
        by_purpose (purpose.Enter access.Exclusive how) is stands = dite (ℕ_discrete seen 0)
            (λ z. rw (eq-eqb seen 0 z) (
              inside_now (Exchange 0 8) seen b ∙ f.within,
              subst (λ (r : RwLockPurpose). Answers up l base a r (entered how) new) (sym is)
                  (inl (
                    refl,
                    claims_now (Exchange 0 8) seen (Some (Has wants.Exclusive)) b
                        (keeping.writes_alone l base st.owns seen b.0 z f.owns),
                  )),
            ))
            (λ ne. rw (ne_eqb seen 0 ne) (by_how how is ne))
        by_purpose (purpose.Enter access.Shared how) is stands = absurd stands
        by_purpose (purpose.Enter access.Upgradable how) is stands = absurd stands
        by_purpose (purpose.Upgrade Try) is stands = absurd stands
        by_purpose (purpose.Upgrade Patient) is stands = absurd stands
        by_purpose (purpose.Upgrade Timed) is stands = absurd stands
        by_purpose (purpose.Release access.Shared) is stands = absurd stands
        by_purpose (purpose.Release access.Upgradable) is stands = absurd stands
        by_purpose (purpose.Release access.Exclusive) is stands = absurd stands
        by_purpose (purpose.Downgrade d) is stands = absurd stands

    -- ---------------------------------------------------------------- a pending writer

    -- a pending writer enters or upgrades
    pending_ends : StandsAt q again at.Look → OwnsRight l wants.Exclusive base new.owns
        → Answers up l base a q (entered (patience_of q)) new
    pending_ends stands owns = by_purpose q stands
      where
        by_purpose : (r : RwLockPurpose) → StandsAt r again at.Look
            → Answers up l base a r (entered (patience_of r)) new
        by_purpose (purpose.Enter access.Exclusive how) stands = inl (refl, owns)
        by_purpose (purpose.Enter access.Shared how) stands = absurd stands
        by_purpose (purpose.Enter access.Upgradable how) stands = absurd stands
        by_purpose (purpose.Upgrade how) stands = inl (refl, owns)
        by_purpose (purpose.Release access.Shared) stands = absurd stands
        by_purpose (purpose.Release access.Upgradable) stands = absurd stands
        by_purpose (purpose.Release access.Exclusive) stands = absurd stands
        by_purpose (purpose.Downgrade d) stands = absurd stands

    counted_comes : (to : RwLockAt) (op : Op) (seen : ℕ) → StandsAt q again at.Look
        → OwnsBeside l (pends q) base st.owns → st.inside ≡ None → apply op seen / 4 ≡ seen / 4
        → is_look op seen ≡ true → Step op seen → Reach (after_count (of to) seen)
    counted_comes to op seen stands owns outside same look b = dite (ℕ_discrete (seen / 16) 0)
        (λ none. rw (eq-eqb (seen / 16) 0 none) (
          inside_now op seen b ∙ outside,
          pending_ends stands (claims_now op seen (Some (Has wants.Exclusive)) b
              (keeping.look_alone l base st.owns seen b.0 op (falls_back q) same look none owns)),
        ))
        (λ some. rw (ne_eqb (seen / 16) 0 some) (rests (at.Count seen) again (pends q) tt (small op seen b) tt
        refl refl refl
        (claims_now op seen (pends q) b (keeping.look_pending l base st.owns seen b.0 op (falls_back q) same
        some owns)) (inside_now op seen b ∙ outside)))

    count_looks : (seen : ℕ) → StandsAt q again (at.Count seen) → StandsAt q again at.Look
    count_looks seen stands = by_purpose q stands
      where
        by_purpose : (r : RwLockPurpose) → StandsAt r again (at.Count seen) → StandsAt r again at.Look
        by_purpose (purpose.Enter access.Exclusive how) stands = stands
        by_purpose (purpose.Enter access.Shared how) stands = absurd stands
        by_purpose (purpose.Enter access.Upgradable how) stands = absurd stands
        by_purpose (purpose.Upgrade Try) stands = absurd stands
        by_purpose (purpose.Upgrade Patient) stands = stands
        by_purpose (purpose.Upgrade Timed) stands = stands
        by_purpose (purpose.Release access.Shared) stands = absurd stands
        by_purpose (purpose.Release access.Upgradable) stands = absurd stands
        by_purpose (purpose.Release access.Exclusive) stands = absurd stands
        by_purpose (purpose.Downgrade d) stands = absurd stands

    -- into the second section
    goes_aside : (to : RwLockAt) → OwnsBeside l (pends q) base st.owns → Became up rwlocks (at_rwlock l)
        (unhanded l a (of to)) st (act.Enter (One (2 * l + 1))) Done new
        → Reach (stays (of to) (at.Aside parking.Check))
    goes_aside to owns b = (
      record {
        begun = tt;
        seen = tt;
        stood = tt;
        owns = subst (λ (x : List Ownership). OwnsBeside l (pends q) base x)
            (sym (ap (λ (s : ThreadState). s.owns) b)) owns;
        within = ap (λ (s : ThreadState). s.inside) b;
        late = not_late (at.Aside parking.Check) refl;
      },
      refl,
    )

    counts_leads : (seen : ℕ) → Fits (at.Count seen) → (b : Bool) → has_aside seen ≡ b → (reply : Reply)
        → Became up rwlocks (at_rwlock l) (unhanded l a (of (at.Count seen))) st
        (if b then act.Enter (One (2 * l + 1)) else exchange l seen (plus seen 2)) reply new
        → Comes up l base a q (next_at a (of (at.Count seen)) (at.Count seen) reply) new
        × MayBeTold a (of (at.Count seen)) (at.Count seen) reply
    counts_leads seen f true e Done b = (goes_aside (at.Count seen) f.owns b, tt)
    counts_leads seen f false e (Value other) b = (
      dite (ℕ_discrete other seen)
          (λ same. rw (eq-eqb other seen same) (marked (subst (Step (Exchange seen (plus seen 2))) same b)))
          (λ ne. rw (ne_eqb other seen ne) (counted_comes (at.Count seen) (Exchange seen (plus seen 2)) other
          (count_looks seen f.stands.place) f.owns f.within (keeping.missed_same seen (plus seen 2) other
          ne) (keeping.missed_looks seen (plus seen 2) other ne) b)),
      small (Exchange seen (plus seen 2)) other b,
    )
      where
        marked : Step (Exchange seen (plus seen 2)) seen → Reach (stays (of (at.Count seen)) at.Marked)
        marked b = let m = marks_aside seen f.seen e in
            let same : apply (Exchange seen (plus seen 2)) seen / 4 ≡ seen / 4 =
            subst (λ (k : ℕ). apply (Exchange seen k) seen / 4 ≡ seen / 4) (sym m.0)
            (keeping.marked_same seen 2 (omega (arith, m.1))) in
            rests at.Marked again (pends q) tt tt tt refl refl refl
            (claims_now (Exchange seen (plus seen 2)) seen (pends q) b (keeping.unlooked l base st.owns seen
            b.0 (Exchange seen (plus seen 2)) (pends q) same (keeping.marked_looks seen (plus seen 2))
            f.owns)) (inside_now (Exchange seen (plus seen 2)) seen b ∙ f.within)
    counts_leads seen f true e reply b = absurd b
    counts_leads seen f false e reply b = absurd b

    -- ---------------------------------------------------------------- in and out of queues

    -- at a place inside the section of a line, where nobody is carried
    inside_of : (to : RwLockAt) (r : Bool) (m : Line) (c : Option Claim) → HasGivenWay to → SeenInRange to
        → HasStood l to new.steps → (rwlock_role (record {
          purpose = q;
          retries = r;
          at = to;
        })).claims ≡ c → (rwlock_role (record {
          purpose = q;
          retries = r;
          at = to;
        })).inside ≡ Some m → (rwlock_role (record { purpose = q; retries = r; at = to })).has_taken ≡ false
        → (late_at is_late q to ≡ true → up) → OwnsBeside l c base new.owns
        → new.inside ≡ entered_now (One (key_of l m)) → Reach (At (record {
          purpose = q;
          retries = r;
          at = to;
        }))
    inside_of to r m c begun seen stood claims inside has_taken late owns within = (
      record {
        begun = begun;
        seen = seen;
        stood = stood;
        owns = subst (λ (x : Option Claim). OwnsBeside l x base new.owns) (sym claims) owns;
        within = subst (λ (x : Option Line). IsWithin l a q x (rwlock_role (record {
          purpose = q;
          retries = r;
          at = to;
        })).has_taken new.inside) (sym inside) (subst (λ (b : Bool). IsWithin l a q (Some m) b new.inside)
            (sym has_taken) within);
        late = late;
      },
      refl,
    )

    -- each thread that stands in the main queue enters
    claims_none : (to : ParkAt) → StandsAt q again (at.Park to) → claimed q ≡ None
    claims_none to stands = by_purpose q stands
      where
        by_purpose : (r : RwLockPurpose) → StandsAt r again (at.Park to) → claimed r ≡ None
        by_purpose (purpose.Enter x how) stands = refl
        by_purpose (purpose.Upgrade Try) stands = absurd stands
        by_purpose (purpose.Upgrade Patient) stands = absurd stands
        by_purpose (purpose.Upgrade Timed) stands = absurd stands
        by_purpose (purpose.Release access.Shared) stands = absurd stands
        by_purpose (purpose.Release access.Upgradable) stands = absurd stands
        by_purpose (purpose.Release access.Exclusive) stands = absurd stands
        by_purpose (purpose.Downgrade d) stands = absurd stands

    -- the thread has taken no step since
    still_looked : new.steps ≡ st.steps → LookedLast l st.steps → LookedLast l new.steps
    still_looked e = subst (LookedLast l) (sym e)

    kept_owns : (c : Option Claim) → new.owns ≡ st.owns → OwnsBeside l c base st.owns
        → OwnsBeside l c base new.owns
    kept_owns c e = subst (OwnsBeside l c base) (sym e)

    -- the thread looks at the word again, woken or not
    loads_again : (to : ParkAt) (r : Bool) → StandsAt q again (at.Park to) → IsBeside l base st.owns
        → new.owns ≡ st.owns → new.inside ≡ None → Reach (At (record {
          purpose = q;
          retries = r;
          at = at.Load;
        }))
    loads_again to r stands owns same none = rests at.Load r None tt tt tt (claims_none to stands) refl refl
        (kept_owns None same owns) none

    looks_once_more : (r : Bool) → OwnsBeside l (pends q) base st.owns → new.owns ≡ st.owns → new.inside
        ≡ None → Reach (At (record {
          purpose = q;
          retries = r;
          at = at.Look;
        }))
    looks_once_more r owns same none = rests at.Look r (pends q) tt tt tt refl refl refl
        (kept_owns (pends q) same owns) none

    -- the key under which a thread sleeps that has a deadline
    late_at_key : (m : Line) (how : Patience) (key : ℕ) → key_in (Some l) (in_line (true && is_timed how) m)
        ≡ Some key → (key ≡ key_of l m) × HasDeadline how
    late_at_key m Timed key e = (cc, tt)
    late_at_key m Patient key e = none_some e
    late_at_key m Try key e = none_some e

    becomes_late : (m : Line) (to : ParkAt) (key : ℕ) → key ≡ key_of l m → new ≡ stage st.owns
        (entered_now (One key)) st.last st.steps → new.inside ≡ entered_now (One (key_of l m))
    becomes_late m to key k e = ap (λ (s : ThreadState). s.inside) e ∙ ap (λ (n : ℕ). entered_now (One n)) k

    -- a thread that gives up in the main queue
    gives_up_main : Fits (at.Park parking.GiveUp) → new.owns ≡ st.owns → new.inside ≡ None
        → IsLeft st.inside new.last → new.steps ≡ st.steps → Reach (End No)
    gives_up_main f same none left steps = (none, by_purpose q f.stands.place f.late)
      where
        owns : IsBeside l base new.owns
        owns = kept_owns None same f.owns

        took_nobody : TookNobodyAt l new.last × LookedInLine l new.steps
        took_nobody = (
          subst (λ (i : Option SectionView). IsLeft i new.last) f.within left,
          subst (LookedInLine l) (sym steps) f.stood,
        )

        may : (how : Patience) → HasDeadline how → up → MayGiveUp up how
        may Timed d u = u
        may Patient d u = absurd d
        may Try d u = absurd d

        by_purpose : (r : RwLockPurpose) → StandsAt r again (at.Park parking.GiveUp)
            → (late_at is_late r (at.Park parking.GiveUp) ≡ true → up) → Answers up l base a r No new
        by_purpose (purpose.Enter access.Shared how) stands late =
            inr (inl (refl, may how stands (late refl), owns, inr (inl took_nobody)))
        by_purpose (purpose.Enter access.Upgradable how) stands late =
            inr (inl (refl, may how stands (late refl), owns, inr (inl took_nobody)))
        by_purpose (purpose.Enter access.Exclusive how) stands late =
            inr (inl (refl, may how stands (late refl), owns, inr (inl took_nobody)))
        by_purpose (purpose.Upgrade Try) stands late = absurd stands
        by_purpose (purpose.Upgrade Patient) stands late = absurd stands
        by_purpose (purpose.Upgrade Timed) stands late = absurd stands
        by_purpose (purpose.Release access.Shared) stands late = absurd stands
        by_purpose (purpose.Release access.Upgradable) stands late = absurd stands
        by_purpose (purpose.Release access.Exclusive) stands late = absurd stands
        by_purpose (purpose.Downgrade d) stands late = absurd stands

    main_leads : (to : ParkAt) → Fits (at.Park to) → (reply : Reply) → Became up rwlocks (at_rwlock l)
        (unhanded l a (of (at.Park to))) st (park_act l a (want_at (of (at.Park to))) Main to) reply new
        → Reach (park_next (of (at.Park to)) Main to reply) × MayBeTold a (of (at.Park to)) (at.Park to) reply
    main_leads parking.Check f (Parked true) b = (
      inside_of (at.Park (parking.Leave true)) (again && not true) Main None tt tt (
        st.steps,
        b.0,
        steps_now Load b.0 b.2,
      ) refl refl refl (not_late (at.Park (parking.Leave true)) refl)
          (claims_now Load b.0 None b.2 (keeping.look_beside l base st.owns b.0 b.2.0 Load refl f.owns))
          (inside_now Load b.0 b.2 ∙ f.within),
      tt,
    )
    main_leads parking.Check f (Parked false) b = (
      inside_of (at.Park (parking.Leave false)) (again && not false) Main None tt tt (
        st.steps,
        b.0,
        steps_now Load b.0 b.2,
      ) refl refl refl (not_late (at.Park (parking.Leave false)) refl)
          (claims_now Load b.0 None b.2 (keeping.look_beside l base st.owns b.0 b.2.0 Load refl f.owns))
          (inside_now Load b.0 b.2 ∙ f.within),
      tt,
    )
    main_leads (parking.Leave true) f Done b = (
      rests (at.Park parking.Asleep) again None tt tt (still_looked b.3 f.stood) refl refl refl
          (kept_owns None b.0 f.owns) b.1,
      tt,
    )
    main_leads (parking.Leave false) f Done b =
        (loads_again (parking.Leave false) again f.stands.place f.owns b.0 b.1, tt)
    main_leads parking.Asleep f (Woken note.Normal) b =
        (loads_again parking.Asleep true f.stands.place f.owns b.0 b.1, tt)
    main_leads parking.Asleep f (Woken note.HandOff) b = never b.3
    main_leads parking.Asleep f Late b = let k = late_at_key Main (patience_of q) b.0 b.1.0 in (
      inside_of (at.Park parking.Remove) again Main None tt tt
          (still_looked (ap (λ (s : ThreadState). s.steps) b.1.1) f.stood) refl refl refl (λ h. b.2)
          (kept_owns None (ap (λ (s : ThreadState). s.owns) b.1.1) f.owns)
          (becomes_late Main parking.Asleep b.0
          k.0 b.1.1),
      k.1,
    )
    main_leads parking.Asleep f (MovedTo key) b = none_some b.0.1
    main_leads (parking.Taken by) f (Woken note.Normal) b =
        (loads_again (parking.Taken by) true f.stands.place f.owns b.0 b.1, tt)
    main_leads (parking.Taken by) f (Woken note.HandOff) b = never b.3
    main_leads (parking.Taken by) f Late b = none_some b.1.0
    main_leads (parking.Taken by) f (MovedTo key) b = none_some b.0.1
    main_leads parking.Remove f (Removed true) b = (
      inside_of (at.Park parking.Clear) again Main None tt tt
          (still_looked (ap (λ (s : ThreadState). s.steps) b)
          f.stood) refl refl refl (still_late (at.Park parking.Remove) (at.Park parking.Clear) refl f.late)
          (kept_owns None (ap (λ (s : ThreadState). s.owns) b) f.owns)
          (ap (λ (s : ThreadState). s.inside) b ∙ f.within),
      tt,
    )
    main_leads parking.Remove f (Removed false) b = (
      inside_of (at.Park parking.GiveUp) again Main None tt tt
          (inl (still_looked (ap (λ (s : ThreadState). s.steps) b) f.stood)) refl refl refl
          (still_late (at.Park parking.Remove) (at.Park parking.GiveUp) refl f.late)
          (kept_owns None (ap (λ (s : ThreadState). s.owns) b) f.owns)
          (ap (λ (s : ThreadState). s.inside) b ∙ f.within),
      tt,
    )
    main_leads parking.Clear f (Value seen) b = (
      inside_of (at.Park parking.GiveUp) again Main None tt tt (inr (
        st.steps,
        seen,
        f.stood,
        steps_now (unparked Main) seen b,
      )) refl refl refl (still_late (at.Park parking.Clear)
          (at.Park parking.GiveUp) refl f.late) (claims_now (unparked Main) seen None b
          (keeping.unlooked l base st.owns seen b.0 (unparked Main) None (clears_same Main seen
          (small (unparked Main) seen b)) refl f.owns)) (inside_now (unparked Main) seen b ∙ f.within),
      small (unparked Main) seen b,
    )
    main_leads parking.GiveUp f Done b = (gives_up_main f b.0 b.1 b.2 b.3, tt)
    main_leads to f reply b = absurd b

    aside_leads : (to : ParkAt) → Fits (at.Aside to) → (reply : Reply) → Became up rwlocks (at_rwlock l)
        (unhanded l a (of (at.Aside to))) st (park_act l a (want_at (of (at.Aside to))) Second to) reply new
        → Reach (park_next (of (at.Aside to)) Second to reply) × MayBeTold a (of (at.Aside to)) (at.Aside to)
        reply
    aside_leads parking.Check f (Parked true) b = (
      inside_of (at.Aside (parking.Leave true)) (again && not true) Second (pends q) tt tt tt refl refl
          refl (not_late (at.Aside (parking.Leave true)) refl) (claims_now Load b.0 (pends q) b.2
          (keeping.look_waits l base st.owns b.0 b.2.0 Load (falls_back q) refl refl f.owns))
          (inside_now Load b.0 b.2 ∙ f.within),
      tt,
    )
    aside_leads parking.Check f (Parked false) b = (
      inside_of (at.Aside (parking.Leave false)) (again && not false) Second (pends q) tt tt tt refl refl
          refl (not_late (at.Aside (parking.Leave false)) refl) (claims_now Load b.0 (pends q) b.2
          (keeping.look_waits l base st.owns b.0 b.2.0 Load (falls_back q) refl refl f.owns))
          (inside_now Load b.0 b.2 ∙ f.within),
      tt,
    )
    aside_leads (parking.Leave true) f Done b = (
      rests (at.Aside parking.Asleep) again (pends q) tt tt tt refl refl refl
          (kept_owns (pends q) b.0 f.owns) b.1,
      tt,
    )
    aside_leads (parking.Leave false) f Done b = (looks_once_more again f.owns b.0 b.1, tt)
    aside_leads parking.Asleep f (Woken note.Normal) b = (looks_once_more true f.owns b.0 b.1, tt)
    aside_leads parking.Asleep f (Woken note.HandOff) b = never b.3
    aside_leads parking.Asleep f Late b = let k = late_at_key Second (patience_of q) b.0 b.1.0 in (
      inside_of (at.Aside parking.Remove) again Second (pends q) tt tt tt refl refl refl (λ h. b.2)
          (kept_owns (pends q) (ap (λ (s : ThreadState). s.owns) b.1.1) f.owns)
          (becomes_late Second parking.Asleep b.0 k.0 b.1.1),
      k.1,
    )
    aside_leads parking.Asleep f (MovedTo key) b = none_some b.0.1
    aside_leads (parking.Taken by) f (Woken note.Normal) b = (looks_once_more true f.owns b.0 b.1, tt)
    aside_leads (parking.Taken by) f (Woken note.HandOff) b = never b.3
    aside_leads (parking.Taken by) f Late b = none_some b.1.0
    aside_leads (parking.Taken by) f (MovedTo key) b = none_some b.0.1
    aside_leads parking.Remove f (Removed none_left) b = (
      inside_of (at.Aside parking.Clear) again Second (pends q) tt tt tt refl refl refl
          (still_late (at.Aside parking.Remove) (at.Aside parking.Clear) refl f.late)
          (kept_owns (pends q) (ap (λ (s : ThreadState). s.owns) b) f.owns)
          (ap (λ (s : ThreadState). s.inside) b
          ∙ f.within),
      tt,
    )
    aside_leads parking.Clear f (Value seen) b = (
      inside_of (at.Aside parking.GiveUp) again Second (pends q) tt tt tt refl refl refl
          (still_late (at.Aside parking.Clear) (at.Aside parking.GiveUp) refl f.late)
          (claims_now (unparked Second) seen (pends q) b (keeping.unlooked l base st.owns seen b.0
          (unparked Second) (pends q) (clears_same Second seen (small (unparked Second) seen b)) refl f.owns))
          (inside_now (unparked Second) seen b ∙ f.within),
      small (unparked Second) seen b,
    )
    aside_leads parking.GiveUp f Done b = (
      (
        record {
          begun = tt;
          seen = tt;
          stood = tt;
          owns = kept_owns (pends q) b.0 f.owns;
          within = b.1;
          late = still_late (at.Aside parking.GiveUp) at.RollBack refl f.late;
        },
        refl,
      ),
      tt,
    )
    aside_leads to f reply b = absurd b

    -- ---------------------------------------------------------------- giving up, and waking others

    -- after a roll-back the right that it falls back to is kept, and those that wait are woken
    wakes_after : (seen : ℕ) (c : Option Claim) → Fits at.RollBack → kept_claim (start_of q) ≡ c
        → OwnsBeside l c base new.owns → new.inside ≡ None
        → (has_parked seen ≡ false → Answers up l base a q No new)
        → Reach (if has_parked seen then stays (of at.RollBack) (wakes Main) else End No)
    wakes_after seen c f claims owns none over = either (has_parked seen) refl
      where
        either : (b : Bool) → has_parked seen ≡ b → Reach (if b then stays (of at.RollBack) (wakes Main)
            else End No)
        either false clear = (none, over clear)
        either true some = (
          record {
            begun = tt;
            seen = tt;
            stood = tt;
            owns = subst (λ (x : Option Claim). OwnsBeside l x base new.owns) (sym claims) owns;
            within = none;
            late = still_late at.RollBack (at.Wake Main waking.Enter) refl f.late;
          },
          refl,
        )

    timed_may : (how : Patience) → HasDeadline how → up → MayGiveUp up how
    timed_may Timed d u = u
    timed_may Patient d u = absurd d
    timed_may Try d u = absurd d

    rolls_leads : (seen : ℕ) → Fits at.RollBack → Step (rollback_op q) seen
        → Reach (rolled_back (of at.RollBack) seen)
    rolls_leads seen f b = by_purpose q refl f.stands.place f.owns f.late b
      where
        fell : (how : Patience) → HasDeadline how → has_parked seen ≡ false → Step (Sub 8) seen
            → FellBack l (purpose.Enter access.Exclusive how) how new.steps
        fell Timed d clear b = (st.steps, seen, clear, steps_now (Sub 8) seen b)
        fell Patient d clear b = absurd d
        fell Try d clear b = absurd d

        by_purpose : (r : RwLockPurpose) → q ≡ r → StandsAt r again at.RollBack
            → OwnsBeside l (pends r) base st.owns → (late_at is_late r at.RollBack ≡ true → up)
            → Step (rollback_op r) seen → Reach (rolled_back (of at.RollBack) seen)
        by_purpose (purpose.Enter access.Exclusive how) is stands owns late b = let left =
            claims_now (Sub 8) seen None b (keeping.rolls_back l base st.owns seen b.0 owns) in
            wakes_after seen None f (ap (λ (r : RwLockPurpose). kept_claim (start_of r)) is) left
            (inside_now (Sub 8) seen b ∙ f.within)
            (λ clear. subst (λ (r : RwLockPurpose). Answers up l base a r No new) (sym is)
            (inr (inl (
              refl,
              timed_may how stands (late refl),
              left,
              inl (
                last_now (Sub 8) seen b,
                fell how stands clear b,
              ),
            ))))
        by_purpose (purpose.Upgrade Timed) is stands owns late b = let left =
            claims_now (Add 12) seen (Some (Has wants.Upgradable)) b (keeping.falls_back l base st.owns seen
            b.0 owns) in
            wakes_after seen (Some (Has wants.Upgradable)) f
            (ap (λ (r : RwLockPurpose). kept_claim (start_of r)) is) left (inside_now (Add 12) seen b
            ∙ f.within)
            (λ clear. subst (λ (r : RwLockPurpose). Answers up l base a r No new) (sym is)
            (inr (
              refl,
              late refl,
              left,
              inl (
                last_now (Add 12) seen b,
                (st.steps, seen, clear, steps_now (Add 12) seen b),
              ),
            )))
        by_purpose (purpose.Upgrade Try) is stands owns late b = absurd stands
        by_purpose (purpose.Upgrade Patient) is stands owns late b = absurd stands
        by_purpose (purpose.Enter access.Shared how) is stands owns late b = absurd stands
        by_purpose (purpose.Enter access.Upgradable how) is stands owns late b = absurd stands
        by_purpose (purpose.Release access.Shared) is stands owns late b = absurd stands
        by_purpose (purpose.Release access.Upgradable) is stands owns late b = absurd stands
        by_purpose (purpose.Release access.Exclusive) is stands owns late b = absurd stands
        by_purpose (purpose.Downgrade d) is stands owns late b = absurd stands

    -- a thread that it took is in its hand until it leaves
    carries_on : (m : Line) (to : WakeAt) → (rwlock_role (of (at.Wake m to))).inside ≡ Some m
        → (rwlock_role (of (at.Wake m to))).has_taken ≡ true → (rwlock_role (of (at.Wake m to))).claims
        ≡ kept_claim (start_of q) → (late_at is_late q (at.Wake m to) ≡ true → up)
        → OwnsBeside l (kept_claim (start_of q)) base new.owns → IsWithin l a q (Some m) true new.inside
        → Reach (stays (of (at.Wake m to)) (at.Wake m to))
    carries_on m to inside has_taken claims late owns within = (
      record {
        begun = tt;
        seen = tt;
        stood = tt;
        owns = subst (λ (x : Option Claim). OwnsBeside l x base new.owns) (sym claims) owns;
        within = subst (λ (x : Option Line). IsWithin l a q x (rwlock_role (of (at.Wake m to))).has_taken
            new.inside) (sym inside) (subst (λ (b : Bool). IsWithin l a q (Some m) b new.inside) (sym has_taken)
            within);
        late = late;
      },
      refl,
    )

    took_comes : (m : Line) (any none_left : Bool) → (late_at is_late q (at.Wake m waking.Take) ≡ true → up)
        → OwnsBeside l (kept_claim (start_of q)) base new.owns → IsWithin l a q (Some m) true new.inside
        → Reach (stays (of (at.Wake m waking.Take)) (at.Wake m (took m any none_left)))
    took_comes m any none_left late owns within = either (clears m none_left)
      where
        either : (b : Bool) → Reach (stays (of (at.Wake m waking.Take))
            (at.Wake m (if b then waking.Clear any else waking.Leave any)))
        either true = carries_on m (waking.Clear any) refl refl refl (still_late (at.Wake m waking.Take)
            (at.Wake m (waking.Clear any)) refl late) owns within
        either false = carries_on m (waking.Leave any) refl refl refl (still_late (at.Wake m waking.Take)
            (at.Wake m (waking.Leave any)) refl late) owns within

    -- the section that is left is one where it took those that it wakes
    took_woken : (m : Line) (any : Bool) → woken_line q ≡ m → IsWithin l a q (Some m) true st.inside
        → IsLeft st.inside new.last → TookWoken l a q new.last
    took_woken m any is within left = subst (λ (k : Line). HasDone (key_of l k) (did_wake l a q k) new.last)
        (sym is) (has_done _ _ _ within.1 left)

    wake_ends : (m : Line) (any : Bool) → Fits (at.Wake m (waking.Leave any)) → new.owns ≡ st.owns
        → new.inside ≡ None → IsLeft st.inside new.last → Reach (End (ends_with q))
    wake_ends m any f same none left =
        (none, by_purpose q refl f.stands.place (kept_owns (kept_claim (start_of q)) same f.owns) f.late)
      where
        woken : (r : RwLockPurpose) → q ≡ r → woken_line r ≡ m → TookWoken l a r new.last
        woken r is line = subst (λ (x : RwLockPurpose). TookWoken l a x new.last) is
            (took_woken m any (ap woken_line is ∙ line) f.within left)

        by_purpose : (r : RwLockPurpose) → q ≡ r → StandsAt r again (at.Wake m (waking.Leave any))
            → OwnsBeside l (kept_claim (start_of r)) base new.owns
            → (late_at is_late r (at.Wake m (waking.Leave any)) ≡ true → up)
            → Answers up l base a r (ends_with r) new
        by_purpose (purpose.Enter access.Exclusive how) is stands owns late = by_line m refl stands
          where
            by_line : (k : Line) → m ≡ k → StandsAt (purpose.Enter access.Exclusive how) again
                (at.Wake k (waking.Leave any)) → Answers up l base a (purpose.Enter access.Exclusive how) No
                new
            by_line Main e stands = inr (inl (
              refl,
              timed_may how stands (late refl),
              owns,
              inr (inr (woken (purpose.Enter access.Exclusive how) is (sym e))),
            ))
            by_line Second e stands = absurd stands
        by_purpose (purpose.Upgrade Timed) is stands owns late = by_line m refl stands
          where
            by_line : (k : Line) → m ≡ k → StandsAt (purpose.Upgrade Timed) again
                (at.Wake k (waking.Leave any)) → Answers up l base a (purpose.Upgrade Timed) No new
            by_line Main e stands = inr (
              refl,
              late refl,
              owns,
              inr (woken (purpose.Upgrade Timed) is (sym e)),
            )
            by_line Second e stands = absurd stands
        by_purpose (purpose.Upgrade Patient) is stands owns late = absurd (by_line m stands)
          where
            by_line : (k : Line) → StandsAt (purpose.Upgrade Patient) again (at.Wake k (waking.Leave any)) → ⊥
            by_line Main stands = stands
            by_line Second stands = stands
        by_purpose (purpose.Upgrade Try) is stands owns late = absurd stands
        by_purpose (purpose.Release access.Shared) is stands owns late = by_line m refl stands
          where
            by_line : (k : Line) → m ≡ k → StandsAt (purpose.Release access.Shared) again
                (at.Wake k (waking.Leave any)) → Answers up l base a (purpose.Release access.Shared) Ok new
            by_line Second e stands = (refl, owns, woken (purpose.Release access.Shared) is (sym e))
            by_line Main e stands = absurd stands
        by_purpose (purpose.Release access.Upgradable) is stands owns late = by_line m refl stands
          where
            by_line : (k : Line) → m ≡ k → StandsAt (purpose.Release access.Upgradable) again
                (at.Wake k (waking.Leave any)) → Answers up l base a (purpose.Release access.Upgradable) Ok
                new
            by_line Main e stands = (refl, owns, woken (purpose.Release access.Upgradable) is (sym e))
            by_line Second e stands = absurd stands
        by_purpose (purpose.Release access.Exclusive) is stands owns late = by_line m refl stands
          where
            by_line : (k : Line) → m ≡ k → StandsAt (purpose.Release access.Exclusive) again
                (at.Wake k (waking.Leave any)) → Answers up l base a (purpose.Release access.Exclusive) Ok new
            by_line Main e stands = (refl, owns, woken (purpose.Release access.Exclusive) is (sym e))
            by_line Second e stands = absurd stands
        by_purpose (purpose.Downgrade d) is stands owns late = by_line m refl stands
          where
            by_line : (k : Line) → m ≡ k → StandsAt (purpose.Downgrade d) again (at.Wake k (waking.Leave any))
                → Answers up l base a (purpose.Downgrade d) Ok new
            by_line Main e stands = (refl, owns, woken (purpose.Downgrade d) is (sym e))
            by_line Second e stands = absurd stands
        by_purpose (purpose.Enter access.Shared how) is stands owns late = absurd stands
        by_purpose (purpose.Enter access.Upgradable how) is stands owns late = absurd stands

    wakes_leads : (m : Line) (to : WakeAt) → Fits (at.Wake m to) → (reply : Reply)
        → Became up rwlocks (at_rwlock l) (unhanded l a (of (at.Wake m to))) st (wake_act l a q m to) reply
        new
        → Reach (wake_next (of (at.Wake m to)) m to reply) × MayBeTold a (of (at.Wake m to)) (at.Wake m to)
        reply
    wakes_leads m waking.Enter f Done b = (
      inside_of (at.Wake m waking.Take) again m (kept_claim (start_of q)) tt tt tt refl refl refl
          (still_late (at.Wake m waking.Enter) (at.Wake m waking.Take) refl f.late)
          (kept_owns (kept_claim (start_of q)) (ap (λ (s : ThreadState). s.owns) b) f.owns)
          (ap (λ (s : ThreadState). s.inside) b),
      tt,
    )
    wakes_leads Main waking.Take f (Picked sharers successor none_left) b = (
      took_comes Main (any_picked sharers successor) none_left f.late (kept_owns (kept_claim (start_of q))
          b.1 f.owns) (b.0.0, b.0.3 ∙ ap (took_as (did_wake l a q Main) b.0.0) f.within),
      tt,
    )
    wakes_leads Second waking.Take f (Took any none_left) b = (
      took_comes Second any none_left f.late (kept_owns (kept_claim (start_of q)) b.1 f.owns)
          (listed b.0.0, b.0.2 ∙ ap (took_as (did_wake l a q Second) (listed b.0.0)) f.within),
      tt,
    )
    wakes_leads m (waking.Clear any) f (Value seen) b = (
      carries_on m (waking.Leave any) refl refl refl (still_late (at.Wake m (waking.Clear any))
          (at.Wake m (waking.Leave any)) refl f.late)
          (claims_now (unparked m) seen (kept_claim (start_of q)) b (keeping.unlooked l base st.owns seen b.0
          (unparked m) (kept_claim (start_of q)) (clears_same m seen (small (unparked m) seen b))
          (clears_looks m seen) f.owns)) (f.within.0, inside_now (unparked m) seen b ∙ f.within.1),
      small (unparked m) seen b,
    )
    wakes_leads m (waking.Leave any) f Done b = (wake_ends m any f b.0 b.1 b.2, tt)
    wakes_leads Main waking.Take f reply b = absurd b.0
    wakes_leads Second waking.Take f reply b = absurd b.0
    wakes_leads m to f reply b = absurd b

    -- each reply, at each place
    pub leads_at : (to : RwLockAt) → Fits to → (reply : Reply) → Became up rwlocks (at_rwlock l)
        (unhanded l a (of to)) st (act_at l a (of to) to) reply new
        → Reach (next_at a (of to) to reply) × MayBeTold a (of to) to reply
    leads_at at.First f (Value seen) b = (first_leads f seen b, small (Exchange 0 8) seen b)
    leads_at at.Load f (Value seen) b = (load_leads f seen b, small Load seen b)
    leads_at (at.Decide seen) f reply b = decides_leads seen f (decided_for a q seen) refl reply b
    leads_at (at.Park to) f reply b = main_leads to f reply b
    leads_at at.Look f (Value seen) b =
        (counted_comes at.Look Load seen f.stands.place f.owns f.within refl refl b, small Load seen b)
    leads_at (at.Count seen) f reply b = counts_leads seen f (has_aside seen) refl reply b
    leads_at at.Marked f Done b = (goes_aside at.Marked f.owns b, tt)
    leads_at at.Marked f reply b = absurd b
    leads_at (at.Aside to) f reply b = aside_leads to f reply b
    leads_at at.RollBack f (Value seen) b = (rolls_leads seen f b, small (rollback_op q) seen b)
    leads_at at.GiveWay f reply b = absurd f.begun
    leads_at (at.Wake m to) f reply b = wakes_leads m to f reply b
    leads_at to f reply b = absurd b
