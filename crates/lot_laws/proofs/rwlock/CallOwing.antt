-- How a fair release, a bump, and a thread that was handed the lock come to owe a wake: by the word that they
-- see, and by entering a section.
use Rattle.lot_laws.proofs.Imports
use Imports.{eqb-true, ℕ, Bool, true, false, Option, Some, None, if◌then◌else◌, ◌==◌, ◌&&◌, ◌||◌, ◌≡◌, ◌⊎◌, inl}
use Imports.{inr, refl, sym, ◌∙◌, ap, subst, arith, One, Want, Exclusive, Upgradable, Access, Patience, Patient}
use Imports.{Answer, Ok, Act, Next, Reply, Value, outcome_of, row_of, Profile, Admission, RwLockPlace, RwLockAt}
use Imports.{RwLockPurpose, WakeAt, rwlock_act, next_at, Admits, StandsAt, rwlock_profile, RwLockCallPlace}
use Imports.{Plain, PeekQueue, HandOver, Bump, Handed, HandOverAt, HandedAt, any_taken, bump_next, enters_again}
use Imports.{exchange_act, gives_up_at, gives_way, glance_next, has_room, looked, took, call_act, call_next}
use Imports.{bumping, call_profile, has_given, release_purpose, next_rows, CallStands, HandsOverAt, IsOfBump}
use Imports.{bit, code, code_of, count_in, has_aside, has_parked, packed, parked_in, aside_in, writers}
use Imports.{Recursive, Rules, Sort, count, one_if_some, readers, IsSite, Site, has_readers, words_tell_true}
use Imports.{State, word_at, reply_to, rules_in, line_let_in, tells_by}
use Rattle.core_base.specs.declared.keys.Line.{Line}
use Rattle.core_base.specs.declared.keys.Line.TheVariants.{Main, Second}
use Rattle.core_base.specs.declared.ops.Op.TheVariants as operation
use Rattle.core_base.specs.Keys.{key_of}
use Rattle.spec_locks.specs.declared.calls.Access.TheVariants as access
use Rattle.spec_locks.specs.declared.outcomes.Outcome.TheVariants as told
use Rattle.steps_base.specs.declared.acts.Act.TheVariants as act
use Rattle.steps_base.specs.declared.acts.Next.TheVariants as next
use Rattle.steps_rwlock.specs.declared.places.RwLockAt.TheVariants as at
use Rattle.steps_rwlock.specs.declared.purposes.RwLockPurpose.TheVariants as purpose
use Rattle.steps_rwlock.specs.declared.release.WakeAt.TheVariants as waking
use Rattle.steps_rwlock_fair.specs.declared.hand_over.Taken.{Taken}
use Rattle.steps_rwlock_fair.specs.declared.hand_over.HandOverAt.TheVariants as handing
use Rattle.steps_rwlock_fair.specs.declared.handed.HandedAt.TheVariants as handed
use Rattle.steps_rwlock_fair.specs.FairSteps.{released}
use Rattle.spec_locks.specs.Locks.{Normal}
use Rattle.lot_laws.proofs.calls.PlainCalls.{never_given}
use Rattle.lot_laws.proofs.machine.Parts.{same}
use Rattle.lot_laws.proofs.promises.RowPromises.{LetsIn, RowFinds, RowLooks, RowOwesThen}
use Rattle.lot_laws.proofs.rwlock.RwLockRows.{of, some_line, IsBefore, shut_before}
use Rattle.lot_laws.proofs.rwlock.RwLockOwing.{parked_is, aside_is, IsWithin, quiet_next, before_quiet}

-- tells what the thread does next
abbrev pub call_does : ℕ → Admission → Next RwLockCallPlace → Act
call_does l a (next.At c) = call_act l a c
call_does l a (next.End answer) = act.End answer

-- where the reply leads a thread
abbrev pub CallOwesNext : Rules → Admission → ℕ → ℕ → RwLockCallPlace → Next RwLockCallPlace → Type 0
CallOwesNext r a l word c n =
    RowOwesThen r.sort l word (call_profile a c) (outcome_of (call_does l a n)) (row_of (next_rows a n))
    (call_does l a n)

-- the word of an owner that has the lock alone tells of nothing but parked bits
abbrev pub IsOwners : ℕ → Type 0
IsOwners word = has_parked word ≡ false → has_aside word ≡ false → word ≡ 8

pub owners_word : (r : Rules) (s : Site) (t : ℕ) → has_readers r.sort ≡ true → IsSite r s → s.lock.exclusive
    ≡ Some t
    → IsOwners (code r s)
owners_word r s t shared site own parked aside = by_sort r.sort refl shared
  where
    alone : (s.lock.pending ≡ None) × (s.lock.upgradable ≡ None) × (readers s.lock ≡ 0)
    alone = site.state.exclusive_alone t own

    packed_so : packed (count s.lock) (writers s.lock) (one_if_some s.lock.upgradable) (bit s.aside_parked)
        (bit s.parked) ≡ 8
    packed_so =
        let e : one_if_some s.lock.exclusive ≡ 1 = ap one_if_some own in
        let p : one_if_some s.lock.pending ≡ 0 = ap one_if_some alone.0 in
        let u : one_if_some s.lock.upgradable ≡ 0 = ap one_if_some alone.1 in
        let n : readers s.lock ≡ 0 = alone.2 in
        let b : bit s.parked ≡ 0 = ap bit (sym (words_tell_true r s shared site).parked ∙ parked) in
        let c : bit s.aside_parked ≡ 0 = ap bit (sym (words_tell_true r s shared site).aside ∙ aside) in
        omega arith

    by_sort : (sort : Sort) → r.sort ≡ sort → has_readers sort ≡ true → code r s ≡ 8
    by_sort Normal e h = subst (λ sort. code_of sort r.limit s ≡ 8) (sym e) packed_so
    by_sort Recursive e h = subst (λ sort. code_of sort r.limit s ≡ 8) (sym e) packed_so
    by_sort sort e h = absurd (grind arith)

module _ (r : Rules) (shared : has_readers r.sort ≡ true) (a : Admission) (l word : ℕ) where
  abbrev Owing : RwLockCallPlace → Next RwLockCallPlace → Type 0
  Owing c n = CallOwesNext r a l word c n

  abbrev then_row : Next RwLockCallPlace → Profile
  then_row n = row_of (next_rows a n)

  ended : (c : RwLockCallPlace) (answer : Answer) → Owing c (next.End answer)
  ended c answer = record { since = λ m h. absurd cc; sees = λ m s step looks. absurd cc }

  -- the thread owes nothing then, and saw nothing, or only looked
  rests : (c : RwLockCallPlace) (n : Next RwLockCallPlace) → (then_row n).owes ≡ None
      → ((m : Line) → RowFinds r.sort l word (call_profile a c) m → (RowLooks l (then_row n)
      → call_does l a n ≡ act.Enter (One (key_of l m))) → ⊥)
      → Owing c n
  rests c n none blind = record {
    since = λ m h. absurd (let e : None ≡ Some m = sym none ∙ h in cc);
    sees = λ m s step looks. absurd (blind m s looks);
  }

  abbrev line_by : RwLockCallPlace → Line
  line_by c = line_let_in r.sort (Some ((call_profile a c).purpose l))

  abbrev tells_at : RwLockCallPlace → Line → Bool
  tells_at c m = tells_by r.sort (Some ((call_profile a c).purpose l)) m word

  -- the thread owes on the line that it lets in, since it saw somebody wait there, or inside
  owes_on : (c : RwLockCallPlace) (n : Next RwLockCallPlace) (m : Line) → (then_row n).owes ≡ Some m
      → line_by c ≡ m
      → ((then_row n).role.inside ≡ Some m)
      ⊎ (RowFinds r.sort l word (call_profile a c) m × (outcome_of (call_does l a n) ≡ told.Step))
      → Owing c n
  owes_on c n m owes line finds = record {
    since = λ k h. subst (λ k. ((then_row n).role.inside ≡ Some k)
        ⊎ (RowFinds r.sort l word (call_profile a c) k × (outcome_of (call_does l a n) ≡ told.Step)))
        (some_line m k (sym owes ∙ h)) finds;
    sees = λ k s step looks. owes ∙ ap Some (sym line ∙ s.1);
  }

  -- the thread's word tells of nobody
  dark : (c : RwLockCallPlace) (m : Line) → line_by c ≡ m → tells_at c m ≡ false → (k : Line)
      → RowFinds r.sort l word (call_profile a c) k → ⊥
  dark c m line none k s = let e : tells_at c m ≡ true =
      subst (λ k. tells_at c k ≡ true) (sym (sym line ∙ s.1)) s.2 in let f : false ≡ true = sym none ∙ e in cc

  -- ---------------------------------------------------------------- a thread that hands over

  module _ (b : Bool) where
    abbrev up : HandOverAt → RwLockCallPlace
    up to = HandOver access.Upgradable b to

    abbrev ex : HandOverAt → RwLockCallPlace
    ex to = HandOver access.Exclusive b to

    lets : (x : Access) (to : HandOverAt) → has_given to ≡ false
        → LetsIn r.sort l (call_profile a (HandOver x b to))
    lets x to keeps = by_bump b
      where
        by_bump : (c : Bool) → LetsIn r.sort l (call_profile a (HandOver x c to))
        by_bump true = inl (refl, keeps)
        by_bump false = inl refl

    line_up : (to : HandOverAt) → line_by (up to) ≡ Main
    line_up to = by_bump b
      where
        by_bump : (c : Bool) → line_let_in r.sort (Some (release_purpose c Upgradable l)) ≡ Main
        by_bump true = refl
        by_bump false = refl

    line_ex : (to : HandOverAt) → line_by (ex to) ≡ Main
    line_ex to = by_bump b
      where
        by_bump : (c : Bool) → line_let_in r.sort (Some (release_purpose c Exclusive l)) ≡ Main
        by_bump true = refl
        by_bump false = refl

    tells_up : (to : HandOverAt) → tells_at (up to) Main ≡ has_parked word
    tells_up to = by_bump b ∙ parked_is r.sort word shared
      where
        by_bump : (c : Bool) → tells_by r.sort (Some (release_purpose c Upgradable l)) Main word
            ≡ parked_in r.sort word
        by_bump true = refl
        by_bump false = refl

    tells_ex : (to : HandOverAt) → tells_at (ex to) Main ≡ (has_parked word || has_aside word)
    tells_ex to = by_bump b ∙ (λ i. parked_is r.sort word shared i || aside_is r.sort word shared i)
      where
        by_bump : (c : Bool)
            → tells_by r.sort (Some (release_purpose c Exclusive l)) Main word
            ≡ (parked_in r.sort word || aside_in r.sort word)
        by_bump true = refl
        by_bump false = refl

    -- an upgradable owner looks
    looked_owes : (to : HandOverAt) → has_given to ≡ false → Owing (up to) (next.At (up (looked word)))
    looked_owes to keeps = either (has_parked word) refl
      where
        either : (c : Bool) → has_parked word ≡ c
            → Owing (up to) (next.At (up (if c then handing.Enter else handing.Free word)))
        either true e = owes_on (up to) (next.At (up handing.Enter)) Main refl (line_up to)
            (inr ((lets access.Upgradable to keeps, line_up to, tells_up to ∙ e), refl))
        either false e = rests (up to) (next.At (up (handing.Free word))) refl
            (λ m s looks. dark (up to) Main (line_up to) (tells_up to ∙ e) m s)

    released_owes : (x : Access) → (then_row (released x b)).owes ≡ None
    released_owes x = by_bump b x
      where
        by_bump : (c : Bool) (x : Access) → (then_row (released x c)).owes ≡ None
        by_bump false x = refl
        by_bump true access.Shared = refl
        by_bump true access.Upgradable = refl
        by_bump true access.Exclusive = refl

    freed_up : (expected : ℕ) → has_parked expected ≡ false → (won : Bool) → (word == expected) ≡ won
        → Owing (up (handing.Free expected)) (if won then released access.Upgradable b else next.At
        (up (looked word)))
    freed_up expected clear true e = rests (up (handing.Free expected)) (released access.Upgradable b)
        (released_owes access.Upgradable)
        (λ m s looks. dark (up (handing.Free expected)) Main (line_up (handing.Free expected))
        (tells_up (handing.Free expected) ∙ ap has_parked (eqb-true word expected e) ∙ clear) m s)
    freed_up expected clear false e = looked_owes (handing.Free expected) refl

    freed_ex : IsOwners word → (expected : ℕ) → expected ≡ 8 → (won : Bool) → (word == expected) ≡ won
        → Owing (ex (handing.Free expected)) (if won then released access.Exclusive b else next.At
        (ex handing.Enter))
    freed_ex alone expected clear true e = rests (ex (handing.Free expected)) (released access.Exclusive b)
        (released_owes access.Exclusive)
        (λ m s looks. dark (ex (handing.Free expected)) Main (line_ex (handing.Free expected))
        (tells_ex (handing.Free expected) ∙ ap (λ v. has_parked v || has_aside v)
        (eqb-true word expected e ∙ clear)) m s)
    freed_ex alone expected clear false e = owes_on (ex (handing.Free expected)) (next.At (ex handing.Enter))
        Main refl (line_ex (handing.Free expected))
        (inr (
          (
            lets access.Exclusive (handing.Free expected) refl,
            line_ex (handing.Free expected),
            tells_ex (handing.Free expected) ∙ some_bit (has_parked word) (has_aside word) refl refl,
          ),
          refl,
        ))
      where
        some_bit : (p q : Bool) → has_parked word ≡ p → has_aside word ≡ q → (p || q) ≡ true
        some_bit true q f g = refl
        some_bit false true f g = refl
        some_bit false false f g = absurd (let h : (word == expected) ≡ true =
            ap (λ v. v == expected) (alone f g ∙ sym clear) ∙ same expected in let k : true ≡ false = sym h
            ∙ e in cc)

    -- inside the section
    within : (x : Access) (to to2 : HandOverAt) → HandsOverAt x to → (call_profile a (HandOver x b to2)).owes
        ≡ Some Main
        → (call_profile a (HandOver x b to2)).role.inside ≡ Some Main → Owing (HandOver x b to)
        (next.At (HandOver x b to2))
    within access.Shared to to2 fits owes inside = absurd fits
    within access.Upgradable to to2 fits owes inside = owes_on (up to) (next.At (up to2)) Main owes
        (line_up to) (inl inside)
    within access.Exclusive to to2 fits owes inside = owes_on (ex to) (next.At (ex to2)) Main owes
        (line_ex to) (inl inside)

  -- a thread that has left the section lets nobody in
  left_owes : (x : Access) (b any told : Bool) → Owing (HandOver x b (handing.Leave any told)) (released x b)
  left_owes x true any told = rests (HandOver x true (handing.Leave any told)) (released x true)
      (released_owes true x) (λ m s looks. shut s.0)
    where
      shut : LetsIn r.sort l (call_profile a (HandOver x true (handing.Leave any told))) → ⊥
      shut (inl h) = let e : true ≡ false = h.1 in cc
      shut (inr h) = elim h.1 [ inl less ↦ less | inr left ↦ let e : false ≡ true = left.0 in cc ]
  left_owes x false any told = ended (HandOver x false (handing.Leave any told)) Ok

  -- ---------------------------------------------------------------- a bump looks

  glance_owes : (x : Access) → Owing (PeekQueue x) (glance_next a x word)
  glance_owes x = either x (gives_way a x word) refl
    where
      either : (x : Access) (c : Bool) → gives_way a x word ≡ c
          → Owing (PeekQueue x) (if c then next.At (gives_up_at x) else next.End Ok)
      either x false e = ended (PeekQueue x) Ok
      either access.Exclusive true e =
          owes_on (PeekQueue access.Exclusive) (next.At (HandOver access.Exclusive true handing.Enter))
          Main refl
          refl
          (inr (
            (
              inl (refl, refl),
              refl,
              ap (λ c. c || aside_in r.sort word) (parked_is r.sort word shared
                  ∙ e),
            ),
            refl,
          ))
      either access.Upgradable true e =
          rests (PeekQueue access.Upgradable) (next.At (HandOver access.Upgradable true handing.Load)) refl
          (λ m s looks. only m (looks ((refl, λ f. cc), refl)))
        where
          only : (m : Line) → act.Word l operation.Load ≡ act.Enter (One (key_of l m)) → ⊥
          only m f = cc
      either access.Shared true e = rests (PeekQueue access.Shared) (next.At (gives_up_at access.Shared)) refl
          (λ m s looks. only m (looks ((refl, λ f. cc), refl)))
        where
          only : (m : Line) → call_act l a (gives_up_at access.Shared) ≡ act.Enter (One (key_of l m)) → ⊥
          only m f = cc

  -- ---------------------------------------------------------------- a thread that was handed the lock

  handed_owes : (x : Access) (how : Patience) (b : Bool) (to : HandedAt) (n : Next RwLockCallPlace)
      → (then_row n).owes ≡ None
      → Owing (Handed x how b to) n
  handed_owes x how b to n none = rests (Handed x how b to) n none (λ m s looks. shut b s.0)
    where
      shut : (c : Bool) → LetsIn r.sort l (call_profile a (Handed x how c to)) → ⊥
      shut true (inl h) = let e : true ≡ false = h.1 in cc
      shut false (inl h) = h
      shut true (inr h) = elim h.1 [ inl less ↦ less | inr left ↦ let e : false ≡ true = left.0 in cc ]
      shut false (inr h) = elim h.1 [ inl less ↦ less | inr left ↦ let e : false ≡ true = left.0 in cc ]

  -- ---------------------------------------------------------------- a bump that enters again

  before_again : (x : Access) (again : Bool) (to : RwLockAt) → StandsAt (purpose.Enter x Patient) again to
      → IsBefore to
  before_again access.Exclusive again at.RollBack fits = fits
  before_again access.Exclusive again at.GiveWay fits = fits
  before_again access.Exclusive again (at.Wake Main to) fits = fits
  before_again access.Exclusive again (at.Wake Second to) fits = fits
  before_again access.Shared again at.RollBack fits = fits
  before_again access.Shared again at.GiveWay fits = fits
  before_again access.Shared again (at.Wake m to) fits = fits
  before_again access.Upgradable again at.RollBack fits = fits
  before_again access.Upgradable again at.GiveWay fits = fits
  before_again access.Upgradable again (at.Wake m to) fits = fits
  before_again x again to fits = tt

  bumping_owes : (q : RwLockPurpose) (row : Profile) → (bumping q row).owes ≡ row.owes
  bumping_owes (purpose.Enter x how) row = refl
  bumping_owes (purpose.Release x) row = refl
  bumping_owes (purpose.Downgrade d) row = refl
  bumping_owes (purpose.Upgrade how) row = refl

  bumping_inside : (q : RwLockPurpose) (row : Profile) → (bumping q row).role.inside ≡ row.role.inside
  bumping_inside (purpose.Enter x how) row = refl
  bumping_inside (purpose.Release x) row = refl
  bumping_inside (purpose.Downgrade d) row = refl
  bumping_inside (purpose.Upgrade how) row = refl

  within_again : (x : Access) (n : Next RwLockPlace) → IsWithin n → (m : Line)
      → (then_row (bump_next (purpose.Enter x Patient) n)).owes ≡ Some m
      → (then_row (bump_next (purpose.Enter x Patient) n)).role.inside ≡ Some m
  within_again x (next.At p) h m e = bumping_inside p.purpose (rwlock_profile a p)
      ∙ h m (sym (bumping_owes p.purpose (rwlock_profile a p)) ∙ e)
  within_again x (next.End answer) h m e = absurd cc

  again_owes : (x : Access) (again : Bool) (to : RwLockAt) → StandsAt (purpose.Enter x Patient) again to
      → (told : Reply)
      → Owing (Bump (of (purpose.Enter x Patient) again to))
      (bump_next (purpose.Enter x Patient) (next_at a (of (purpose.Enter x Patient) again to) to told))
  again_owes x again to fits told = record {
    since = λ m h. inl (within_again x (next_at a p to told) (quiet_next (next_at a p to told)
        (before_quiet a p to (before_again x again to fits) told)) m h);
    sees = λ m s step looks. absurd (shut_before r shared a l (purpose.Enter x Patient) again to fits
        (before_again x again to fits) (lets_plain a x again to s.0));
  }
    where
      p : RwLockPlace
      p = of (purpose.Enter x Patient) again to

      lets_plain : (a : Admission) (x : Access) (again : Bool) (to : RwLockAt)
          → LetsIn r.sort l (call_profile a (Bump (of (purpose.Enter x Patient) again to)))
          → LetsIn r.sort l (rwlock_profile a (of (purpose.Enter x Patient) again to))
      lets_plain a x again to (inl h) = absurd (let e : true ≡ false = h.1 in cc)
      lets_plain a x again to (inr h) = inr (h.0, elim h.1 [ inl less ↦ absurd less | inr left ↦ inr left ])

  -- ---------------------------------------------------------------- a bump that releases a shared right

  abbrev leaving : RwLockAt → RwLockCallPlace
  leaving to = Bump (of (purpose.Release access.Shared) false to)

  line_shared : (to : RwLockAt) → line_by (leaving to) ≡ Second
  line_shared to = ap (λ b. if b then Second else Main) shared

  gave_owes : Owing (leaving at.GiveWay)
      (bump_next (purpose.Release access.Shared) (if has_aside word && (count_in word == 1) then next.At
      (of (purpose.Release access.Shared) false (at.Wake Second waking.Enter)) else next.End Ok))
  gave_owes = either (has_aside word && (count_in word == 1)) refl
    where
      tells : tells_at (leaving at.GiveWay) Second ≡ (has_aside word && (count_in word == 1))
      tells = ap (λ b. b && (count_in word == 1)) (aside_is r.sort word shared)

      either : (c : Bool) → (has_aside word && (count_in word == 1)) ≡ c
          → Owing (leaving at.GiveWay)
          (bump_next (purpose.Release access.Shared) (if c
          then next.At (of (purpose.Release access.Shared) false (at.Wake Second waking.Enter))
          else next.End Ok))
      either true e = owes_on (leaving at.GiveWay) (next.At (leaving (at.Wake Second waking.Enter))) Second
          refl (line_shared at.GiveWay) (inr ((inl (refl, refl), line_shared at.GiveWay, tells ∙ e), refl))
      either false e = rests (leaving at.GiveWay) (next.At (enters_again access.Shared)) refl
          (λ m s looks. dark (leaving at.GiveWay) Second (line_shared at.GiveWay) (tells ∙ e) m s)

  shut_waking : (to : WakeAt) → LetsIn r.sort l (call_profile a (leaving (at.Wake Second to))) → ⊥
  shut_waking to (inl h) = let e : true ≡ false = h.1 in cc
  shut_waking to (inr h) = elim h.1 [ inl less ↦ less | inr left ↦ let e : false ≡ true = left.0 in cc ]

  wakes_owe : (to : WakeAt) (n : Next RwLockCallPlace)
      → ((m : Line) → (then_row n).owes ≡ Some m → (then_row n).role.inside ≡ Some m)
      → Owing (leaving (at.Wake Second to)) n
  wakes_owe to n inside = record {
    since = λ m h. inl (inside m h);
    sees = λ m s step looks. absurd (shut_waking to s.0);
  }

-- ---------------------------------------------------------------- each place

-- for a call that may hand the lock over, or was handed it
abbrev pub IsNoPlain : RwLockCallPlace → Type 0
IsNoPlain (Plain p) = ⊥
IsNoPlain c = Unit {0}

module _ (w : State) (t l : ℕ) (a : Admission) (admits : Admits (rules_in w l) a) where
  abbrev next_of : RwLockCallPlace → Next RwLockCallPlace
  next_of c = call_next a c (reply_to w t (call_act l a c))

  abbrev Goes : RwLockCallPlace → Type 0
  Goes c = CallOwesNext (rules_in w l) a l (word_at w l) c (next_of c)

  exchange_reply : (b : Bool) (k : Taken) (seen : ℕ)
      → reply_to w t (exchange_act l a.limit access.Upgradable k seen) ≡ Value (word_at w l)
  exchange_reply b k seen = either (has_room a.limit k seen) _ _
    where
      either : (c : Bool) (y z : ℕ)
          → reply_to w t (if c then act.HandOver l (operation.Exchange seen y) else act.Word l
          (operation.Exchange seen z))
          ≡ Value (word_at w l)
      either true y z = refl
      either false y z = refl

  exchanged_owes : (b : Bool) (k : Taken) (seen : ℕ)
      → Goes (HandOver access.Upgradable b (handing.Exchange k seen))
  exchanged_owes b k seen = rw (exchange_reply b k seen) (either (word_at w l == seen))
    where
      either : (won : Bool)
          → CallOwesNext (rules_in w l) a l (word_at w l)
          (HandOver access.Upgradable b (handing.Exchange k seen))
          (if won then next.At (HandOver access.Upgradable b
          (handing.Leave (any_taken k) (has_room a.limit k (word_at w l)))) else next.At
          (HandOver access.Upgradable b (handing.Exchange k (word_at w l))))
      either true = within (rules_in w l) admits.0 a l (word_at w l) b access.Upgradable
          (handing.Exchange k seen) (handing.Leave (any_taken k) (has_room a.limit k (word_at w l))) tt refl
          refl
      either false = within (rules_in w l) admits.0 a l (word_at w l) b access.Upgradable
          (handing.Exchange k seen) (handing.Exchange k (word_at w l)) tt refl refl

  picked_owes : (x : Access) (b : Bool) → HandsOverAt x handing.Take → (n : ℕ) (y : Option Want)
      (none_left : Bool)
      → CallOwesNext (rules_in w l) a l (word_at w l) (HandOver x b handing.Take)
      (next.At (HandOver x b (took x (record { sharers = n; successor = y; none_left = none_left }))))
  picked_owes access.Shared b fits n y none_left = absurd fits
  picked_owes access.Upgradable b fits n y none_left = within (rules_in w l) admits.0 a l (word_at w l) b
      access.Upgradable handing.Take (handing.Look (record {
        sharers = n;
        successor = y;
        none_left = none_left;
      })) fits refl refl
  picked_owes access.Exclusive b fits n y none_left = within (rules_in w l) admits.0 a l (word_at w l) b
      access.Exclusive handing.Take (handing.Store (record {
        sharers = n;
        successor = y;
        none_left = none_left;
      })) fits refl refl

  hands_owe : (x : Access) (b : Bool) (to : HandOverAt) → HandsOverAt x to
      → ((seen : ℕ) → x ≡ access.Exclusive → to ≡ handing.Free seen → IsOwners (word_at w l))
      → Goes (HandOver x b to)
  hands_owe access.Shared b to fits alone = absurd fits
  hands_owe access.Upgradable b handing.Load fits alone = looked_owes (rules_in w l) admits.0 a l
      (word_at w l) b handing.Load refl
  hands_owe access.Exclusive b handing.Load fits alone = absurd fits
  hands_owe access.Upgradable b (handing.Free seen) fits alone = freed_up (rules_in w l) admits.0 a l
      (word_at w l) b seen fits (word_at w l == seen) refl
  hands_owe access.Exclusive b (handing.Free seen) fits alone = freed_ex (rules_in w l) admits.0 a l
      (word_at w l) b (alone seen refl refl) seen fits (word_at w l == seen) refl
  hands_owe x b handing.Enter fits alone = within (rules_in w l) admits.0 a l (word_at w l) b x handing.Enter
      handing.Take fits refl refl
  hands_owe x b handing.Take fits alone = picked_owes x b fits _ _ _
  hands_owe x b (handing.Store k) fits alone = within (rules_in w l) admits.0 a l (word_at w l) b x
      (handing.Store k) (handing.Leave (any_taken k) true) fits refl refl
  hands_owe x b (handing.Look k) fits alone = within (rules_in w l) admits.0 a l (word_at w l) b x
      (handing.Look k) (handing.Exchange k (word_at w l)) fits refl refl
  hands_owe access.Upgradable b (handing.Exchange k seen) fits alone = exchanged_owes b k seen
  hands_owe access.Exclusive b (handing.Exchange k seen) fits alone = absurd fits
  hands_owe x b (handing.Leave any told) fits alone = left_owes (rules_in w l) admits.0 a l (word_at w l) x b
      any told

  bump_owes : (q : RwLockPurpose) (again : Bool) (to : RwLockAt) → StandsAt q again to → IsOfBump q again
      → Goes (Bump (of q again to))
  bump_owes (purpose.Enter x Patient) again to fits bump =
      rw (never_given w t true (of (purpose.Enter x Patient) again to)
      (rwlock_act l a (of (purpose.Enter x Patient) again to)))
      (again_owes (rules_in w l) admits.0 a l (word_at w l) x again to fits
      (reply_to w t (rwlock_act l a (of (purpose.Enter x Patient) again to))))
  bump_owes (purpose.Release access.Shared) true to fits bump = absurd (let e : true ≡ false = bump in cc)
  bump_owes (purpose.Release access.Shared) false to fits bump = by_place to fits
    where
      by_place : (to : RwLockAt) → StandsAt (purpose.Release access.Shared) false to
          → Goes (Bump (of (purpose.Release access.Shared) false to))
      by_place at.GiveWay fits = gave_owes (rules_in w l) admits.0 a l (word_at w l)
      by_place (at.Wake Second waking.Enter) fits = wakes_owe (rules_in w l) admits.0 a l (word_at w l)
          waking.Enter (next_of (Bump (of (purpose.Release access.Shared) false
          (at.Wake Second waking.Enter)))) (λ m h. h)
      by_place (at.Wake Second waking.Take) fits = wakes_owe (rules_in w l) admits.0 a l (word_at w l)
          waking.Take (next_of (Bump (of (purpose.Release access.Shared) false (at.Wake Second waking.Take))))
          (λ m h. h)
      by_place (at.Wake Second (waking.Clear any)) fits = wakes_owe (rules_in w l) admits.0 a l (word_at w l)
          (waking.Clear any) (next_of (Bump (of (purpose.Release access.Shared) false
          (at.Wake Second (waking.Clear any))))) (λ m h. h)
      by_place (at.Wake Second (waking.Leave any)) fits = wakes_owe (rules_in w l) admits.0 a l (word_at w l)
          (waking.Leave any) (next_of (Bump (of (purpose.Release access.Shared) false
          (at.Wake Second (waking.Leave any))))) (λ m h. absurd (let e : None ≡ Some m = h in cc))
      by_place to fits = absurd fits
  bump_owes q again to fits bump = absurd bump

  handed_goes : (x : Access) (how : Patience) (b : Bool) (to : HandedAt) → Goes (Handed x how b to)
  handed_goes x how b (handed.Asleep by alone) = handed_owes (rules_in w l) admits.0 a l (word_at w l) x how b
      (handed.Asleep by alone) (next_of (Handed x how b (handed.Asleep by alone))) refl
  handed_goes access.Exclusive how b handed.Accept = handed_owes (rules_in w l) admits.0 a l (word_at w l)
      access.Exclusive how b handed.Accept (next_of (Handed access.Exclusive how b handed.Accept)) refl
  handed_goes access.Shared how b handed.Accept = handed_owes (rules_in w l) admits.0 a l (word_at w l)
      access.Shared how b handed.Accept (next_of (Handed access.Shared how b handed.Accept)) refl
  handed_goes access.Upgradable how b handed.Accept = handed_owes (rules_in w l) admits.0 a l (word_at w l)
      access.Upgradable how b handed.Accept (next_of (Handed access.Upgradable how b handed.Accept)) refl

  -- tells what the reply to its act makes of what a thread owes, where an owner that tries its word has the
  -- lock alone
  pub call_owes_next : (c : RwLockCallPlace) → CallStands a c → IsNoPlain c
      → ((b : Bool) (seen : ℕ) → c ≡ HandOver access.Exclusive b (handing.Free seen) → IsOwners (word_at w l))
      → Goes c
  call_owes_next (Plain p) stands other alone = absurd other
  call_owes_next (Bump p) stands other alone = bump_owes p.purpose p.retries p.at stands.0.place stands.1
  call_owes_next (PeekQueue x) stands other alone = glance_owes (rules_in w l) admits.0 a l (word_at w l) x
  call_owes_next (HandOver x b to) stands other alone = hands_owe x b to stands
      (λ seen e f. alone b seen (λ i. HandOver (e i) b (f i)))
  call_owes_next (Handed x how b to) stands other alone = handed_goes x how b to
