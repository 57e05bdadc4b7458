-- Each thread of one lock has one right at most, whatever thread goes on.
use Rattle.std.proofs.Common.{ℕ, Bool, true, false, Option, Some, None, if◌then◌else◌, ◌==◌, ◌≡◌, ◌≢◌, ◌+◌}
use Rattle.std.proofs.Common.{◌≤◌, inl, inr, refl, sym, ◌∙◌, ap, subst, arith}
use Rattle.std.proofs.lemmas.Bool.{cases_eq}
use Rattle.std.proofs.lemmas.Bool.Decides.{nat_tests}
use Rattle.core_base.specs.declared.wants.Want.{Want}
use Rattle.core_base.specs.declared.wants.Want.TheVariants.{Exclusive, Upgradable, Shared, Wait, CallOnce}
use Rattle.spec_locks.specs.declared.outcomes.Answer.{Answer}
use Rattle.spec_locks.specs.declared.outcomes.Answer.TheVariants as answer
use Rattle.spec_locks.specs.declared.outcomes.Outcome.{Outcome}
use Rattle.spec_locks.specs.declared.outcomes.Outcome.TheVariants as outcome
use Rattle.spec_locks.specs.Onces.{Start, Fail, Rest}
use Rattle.spec_locks.specs.Locks.{LockState, LockCase, Needs, Owns, Queued, Rights, Taken, Enter, Pend}
use Rattle.spec_locks.specs.Locks.{Settle, Leave, Convert, Park, Aside, TakeFirst, TakeAside, TakePicked}
use Rattle.spec_locks.specs.Locks.{Wake, HandOff, Late, Rollback, OfOnce, OfCondvar, SeeOwner, Look}
use Rattle.spec_locks.specs.Locks.{after_case, one_if_some, putting, rights_of, with_right, without_right}
use Rattle.spec_locks.specs.Purposes.{Purpose, Enters, Releases, Converts, Bumps, CallsOnce, Awaits, Waits}
use Rattle.spec_locks.specs.Purposes.{Notifies, CondvarMemory, lock_for}
use Rattle.spec_locks.specs.declared.calls.Patience.{Patience}
use Rattle.spec_locks.specs.declared.calls.Patience.TheVariants.{Patient, Timed, Try}
use Rattle.spec_locks.specs.Runs.{Agrees, AnswerHolds, AreLockStates, AtLock, CallState, Event, GoesOn}
use Rattle.spec_locks.specs.Runs.{LocksState, MayHappen, Moves, Nothing, going_on, gives_up, locks_after}
use Rattle.spec_locks.specs.Runs.{new_call, EntersAnswer, ConvertsAnswer, Keeps, Gains, Loses, Replaces}
use Rattle.spec_locks.specs.Runs.{HasRight, no_call, no_rights, purpose_at, rights_in, rules_at, unless_ended}
use Rattle.spec_locks.specs.Runs.{woken}
use Rattle.spec_locks.proofs.Rights.{others_keep, regained}
use Rattle.lot_laws.proofs.hands.Rights.{others_have}
use Rattle.lot_world.specs.Few.{AllHaveFew, FewBegin, FewGoOn, HasFew, IsPlain, IsOfOneLock, IsRelease}
use Rattle.lot_world.specs.Few.{number}

-- ---------------------------------------------------------------- calls

-- a call remembers how it began
pub record SameBeginning (c d : CallState) : Type 0 where
  pub purpose : d.purpose ≡ c.purpose
  pub former : d.former ≡ c.former

same : (c : CallState) → SameBeginning c c
same c = record { purpose = refl; former = refl }

either_same : (b : Bool) (c d : CallState) → SameBeginning c d → SameBeginning c (if b then d else c)
either_same true c d h = h
either_same false c d h = same c

gives_up_same : (l : ℕ) (recalls : CondvarMemory) (c : CallState) → SameBeginning c (gives_up l recalls c)
gives_up_same l Rattle.spec_locks.specs.Purposes.WasMoved c = record { purpose = refl; former = refl }
gives_up_same l recalls c = record { purpose = refl; former = refl }

pub going_same : (event : Event) (c : CallState) → SameBeginning c (going_on event c)
going_same (AtLock l Late) c = gives_up_same l c.recalls c
going_same (AtLock l (OfOnce (Start forced))) c = record { purpose = refl; former = refl }
going_same (AtLock l (OfOnce (Rest x forced))) c = record { purpose = refl; former = refl }
going_same (AtLock l (OfOnce Fail)) c = record { purpose = refl; former = refl }
going_same (AtLock l (OfOnce case)) c = record { purpose = refl; former = refl }
going_same (AtLock l (OfCondvar (Look (Some m)))) c = record { purpose = refl; former = refl }
going_same (AtLock l (OfCondvar (Look None))) c = record { purpose = refl; former = refl }
going_same (AtLock l (OfCondvar case)) c = record { purpose = refl; former = refl }
going_same (AtLock l case) c = record { purpose = refl; former = refl }
going_same (Moves l m all owned number) c = record { purpose = refl; former = refl }
going_same Nothing c = record { purpose = refl; former = refl }

pub woken_same : (w : LocksState) (t : ℕ) (event : Event) (u : ℕ) (c : CallState)
    → SameBeginning c (woken w t event u c)
woken_same w t (AtLock l Wake) u c = either_same _ c _ (record { purpose = refl; former = refl })
woken_same w t (AtLock l (HandOff x successor)) u c =
    either_same _ c _ (record { purpose = refl; former = refl })
woken_same w t (AtLock l case) u c = same c
woken_same w t (Moves l m all owned number) u c = either_same _ c _ (record { purpose = refl; former = refl })
woken_same w t Nothing u c = same c

trans_same : (c d e : CallState) → SameBeginning c d → SameBeginning d e → SameBeginning c e
trans_same c d e h k = record { purpose = k.purpose ∙ h.purpose; former = k.former ∙ h.former }

-- by a step of its own, where it doesn't end
pub began_same : (w : LocksState) (t : ℕ) (event : Event) (c : CallState)
    → SameBeginning c (woken w t event t (going_on event c))
began_same w t event c = trans_same c (going_on event c) (woken w t event t (going_on event c))
    (going_same event c) (woken_same w t event t (going_on event c))

-- ---------------------------------------------------------------- rights

own_few : (x : Want) → IsPlain (with_right x no_rights)
own_few Exclusive = omega arith
own_few Upgradable = omega arith
own_few Shared = omega arith
own_few Wait = omega arith
own_few CallOnce = omega arith

few_same : (r s : Rights) → s ≡ r → IsPlain r → IsPlain s
few_same r s e h = subst IsPlain (sym e) h

pub rights_are : (r s : Rights) → r.exclusive ≡ s.exclusive → r.pending ≡ s.pending → r.upgradable
    ≡ s.upgradable → r.shared ≡ s.shared → r ≡ s
rights_are r s a b c d = λ i. record { exclusive = a i; pending = b i; upgradable = c i; shared = d i }

-- one right less on both sides
pub less : (x : Want) (r s : Rights) → with_right x r ≡ with_right x s → r ≡ s
less Exclusive r s e = rights_are r s (let a : r.exclusive + 1 ≡ s.exclusive + 1 =
    ap (λ (y : Rights). y.exclusive) e in omega arith) (ap (λ (y : Rights). y.pending) e)
    (ap (λ (y : Rights). y.upgradable) e) (ap (λ (y : Rights). y.shared) e)
less Upgradable r s e = rights_are r s (ap (λ (y : Rights). y.exclusive) e) (ap (λ (y : Rights). y.pending) e)
    (let a : r.upgradable + 1 ≡ s.upgradable + 1 = ap (λ (y : Rights). y.upgradable) e in omega arith)
    (ap (λ (y : Rights). y.shared) e)
less Shared r s e = rights_are r s (ap (λ (y : Rights). y.exclusive) e) (ap (λ (y : Rights). y.pending) e)
    (ap (λ (y : Rights). y.upgradable) e) (let a : r.shared + 1 ≡ s.shared + 1 =
    ap (λ (y : Rights). y.shared) e in omega arith)
less Wait r s e = e
less CallOnce r s e = e

-- the rest is unique
cancel : (x : Want) (r s : Rights) → with_right x r ≡ with_right x s → IsPlain s → IsPlain r
cancel Exclusive r s e h = let a : r.exclusive + 1 ≡ s.exclusive + 1 = ap (λ (y : Rights). y.exclusive) e
    in let b : r.pending ≡ s.pending = ap (λ (y : Rights). y.pending) e in let c : r.upgradable
    ≡ s.upgradable = ap (λ (y : Rights). y.upgradable) e in let d : r.shared ≡ s.shared =
    ap (λ (y : Rights). y.shared) e in omega arith
cancel Upgradable r s e h = let a : r.exclusive ≡ s.exclusive = ap (λ (y : Rights). y.exclusive) e
    in let b : r.pending ≡ s.pending = ap (λ (y : Rights). y.pending) e in let c : r.upgradable + 1
    ≡ s.upgradable + 1 = ap (λ (y : Rights). y.upgradable) e in let d : r.shared ≡ s.shared =
    ap (λ (y : Rights). y.shared) e in omega arith
cancel Shared r s e h = let a : r.exclusive ≡ s.exclusive = ap (λ (y : Rights). y.exclusive) e
    in let b : r.pending ≡ s.pending = ap (λ (y : Rights). y.pending) e in let c : r.upgradable
    ≡ s.upgradable = ap (λ (y : Rights). y.upgradable) e in let d : r.shared + 1 ≡ s.shared + 1 =
    ap (λ (y : Rights). y.shared) e in omega arith
cancel Wait r s e h = few_same s r e h
cancel CallOnce r s e h = few_same s r e h

pub put_same : {A : Type 0} (f : ℕ → A) (l : ℕ) (x : A) → putting f l x l ≡ x
put_same f l x = ap (λ b. if b then x else f l) (let e : (l == l) ≡ true = grind (arith, nat_tests) in e)

pub put_other : {A : Type 0} (f : ℕ → A) (l : ℕ) (x : A) (k : ℕ) → k ≢ l → putting f l x k ≡ f k
put_other f l x k ne = ap (λ b. if b then x else f k) (let e : (k == l) ≡ false = grind (arith, nat_tests)
    in e)

-- a case of another thread leaves those that are in no hand
pub case_leaves : (w : LocksState) (l t u : ℕ) → AreLockStates w → u ≢ t → (w.locks l).taken u ≡ None
    → (case : LockCase)
    → Needs (rules_at w l) case (w.locks l) t
    → rights_of (after_case (rules_at w l) case (w.locks l) t) u ≡ rights_of (w.locks l) u
case_leaves w l t u state ne free (HandOff x successor) needs = others_have (rules_at w l) (w.locks l) t x
    successor (state l) needs u ne (λ y e. let g : ◌≡◌ {A = Option Taken} None
    (Some (record { by = t; want = y })) = sym free ∙ e in cc)
case_leaves w l t u state ne free case needs = by_case case needs
  where
    plain : (c : LockCase) → ((x : Want) (y : Option Queued) → c ≢ HandOff x y)
        → Needs (rules_at w l) c (w.locks l) t
        → rights_of (after_case (rules_at w l) c (w.locks l) t) u ≡ rights_of (w.locks l) u
    plain c not_hand n = others_keep (rules_at w l) (w.locks l) t u (state l) ne c not_hand n

    by_case : (c : LockCase) → Needs (rules_at w l) c (w.locks l) t
        → rights_of (after_case (rules_at w l) c (w.locks l) t) u ≡ rights_of (w.locks l) u
    by_case (HandOff x successor) n = others_have (rules_at w l) (w.locks l) t x successor (state l) n u ne
        (λ y e. let g : ◌≡◌ {A = Option Taken} None (Some (record { by = t; want = y })) = sym free ∙ e in cc)
    by_case (Enter x) n = plain (Enter x) (λ a b e. cc) n
    by_case Pend n = plain Pend (λ a b e. cc) n
    by_case Settle n = plain Settle (λ a b e. cc) n
    by_case (Leave x) n = plain (Leave x) (λ a b e. cc) n
    by_case (Convert x y) n = plain (Convert x y) (λ a b e. cc) n
    by_case (Park x) n = plain (Park x) (λ a b e. cc) n
    by_case Aside n = plain Aside (λ a b e. cc) n
    by_case (TakeFirst x) n = plain (TakeFirst x) (λ a b e. cc) n
    by_case (TakeAside x) n = plain (TakeAside x) (λ a b e. cc) n
    by_case (TakePicked start) n = plain (TakePicked start) (λ a b e. cc) n
    by_case Wake n = plain Wake (λ a b e. cc) n
    by_case Late n = plain Late (λ a b e. cc) n
    by_case Rollback n = plain Rollback (λ a b e. cc) n
    by_case (OfOnce c) n = plain (OfOnce c) (λ a b e. cc) n
    by_case (OfCondvar c) n = plain (OfCondvar c) (λ a b e. cc) n
    by_case (SeeOwner owned) n = plain (SeeOwner owned) (λ a b e. cc) n

-- ---------------------------------------------------------------- answers

one_of : Want → ℕ
one_of Exclusive = 1
one_of Upgradable = 1
one_of Shared = 1
one_of x = 0

one_few : (x : Want) → one_of x ≤ 1
unfolding one_of
one_few Exclusive = omega arith
one_few Upgradable = omega arith
one_few Shared = omega arith
one_few Wait = omega arith
one_few CallOnce = omega arith

numbered : (x : Want) (r : Rights) → number (with_right x r) ≡ number r + one_of x
unfolding one_of
numbered Exclusive r = omega arith
numbered Upgradable r = omega arith
numbered Shared r = omega arith
numbered Wait r = omega arith
numbered CallOnce r = omega arith

pub pending_stays : (x : Want) (r : Rights) → (with_right x r).pending ≡ r.pending
pending_stays Exclusive r = refl
pending_stays Upgradable r = refl
pending_stays Shared r = refl
pending_stays Wait r = refl
pending_stays CallOnce r = refl

less_few : (x : Want) (r : Rights) → IsPlain r → IsPlain (without_right x r)
less_few Exclusive r h = omega arith
less_few Upgradable r h = omega arith
less_few Shared r h = omega arith
less_few Wait r h = h
less_few CallOnce r h = h

module _ (v : LocksState) (t : ℕ) (c : CallState) (l : ℕ) where
  kept_few : c.former l ≡ no_rights → Keeps v t c → IsPlain (rights_in v t l)
  kept_few none h = few_same no_rights (rights_in v t l) (h l ∙ none) (omega arith)

  gained_few : (x : Want) → c.former l ≡ no_rights → Gains v t c l x → IsPlain (rights_in v t l)
  gained_few x none h = few_same (with_right x no_rights) (rights_in v t l) (h l ∙ put_same c.former l _
      ∙ ap (with_right x) none) (own_few x)

  loses_few : (x : Want) (rest : Rights) → IsPlain rest → c.former l ≡ with_right x rest → Loses v t c l x
      → IsPlain (rights_in v t l)
  loses_few x rest few before h = cancel x (rights_in v t l) rest (sym (put_same (rights_in v t) l _) ∙ h l
      ∙ before) few

  enters_few : (x : Want) (how : Patience) (a : Answer) → c.former l ≡ no_rights
      → EntersAnswer v t c l x how a → IsPlain (rights_in v t l)
  enters_few x Patient answer.Ok none h = gained_few x none h.1
  enters_few x Timed answer.Yes none h = gained_few x none h.1
  enters_few x Try answer.Yes none h = gained_few x none h.1
  enters_few x Timed answer.No none h = kept_few none h.1
  enters_few x Try answer.No none h = kept_few none h.1
  enters_few x Patient answer.ReadersFull none h = kept_few none h.1
  enters_few x Timed answer.ReadersFull none h = kept_few none h.1
  enters_few x Try answer.ReadersFull none h = kept_few none h.1
  enters_few x how a none h = absurd h

  replaced_few : (x y : Want) → c.former l ≡ with_right x no_rights → Replaces v t c l x y
      → IsPlain (rights_in v t l)
  replaced_few x y before h =
      let e : with_right x (rights_in v t l) ≡ with_right y (with_right x no_rights) =
      sym (put_same (rights_in v t) l _) ∙ h l ∙ put_same c.former l _ ∙ ap (with_right y) before in
      let a = numbered x (rights_in v t l) in
      let b = numbered y (with_right x no_rights) in
      let d = numbered x no_rights in
      let z : number no_rights ≡ 0 = refl in
      let f : number (with_right x (rights_in v t l)) ≡ number (with_right y (with_right x no_rights)) =
      ap number e in
      let g = one_few y in
      let none : (rights_in v t l).pending ≡ 0 =
      sym (pending_stays x (rights_in v t l)) ∙ ap (λ (r : Rights). r.pending) e
      ∙ pending_stays y (with_right x no_rights) ∙ pending_stays x no_rights in
      omega arith

  converts_few : (x y : Want) (how : Patience) (a : Answer) → c.former l ≡ with_right x no_rights
      → ConvertsAnswer v t c l x y how a
      → IsPlain (rights_in v t l)
  converts_few x y Patient answer.Ok before h = replaced_few x y before h
  converts_few x y Timed answer.Yes before h = replaced_few x y before h
  converts_few x y Try answer.Yes before h = replaced_few x y before h
  converts_few x y Timed answer.No before h = few_same (with_right x no_rights) (rights_in v t l) (h.1 l
      ∙ before) (own_few x)
  converts_few x y Try answer.No before h = few_same (with_right x no_rights) (rights_in v t l) (h.1 l
      ∙ before) (own_few x)
  converts_few x y how a before h = absurd h

-- a call has begun with what it began with, whatever its thread owns now
called : (p : Purpose) (before now later : Rights) → HasFew (Some p) before now → HasFew (Some p) before later
called (Enters k x how) before now later h = h
called (Releases k x fair) before now later h = h
called (Converts k x y how) before now later h = h
called (Bumps k x) before now later h = h
called (CallsOnce k forced) before now later h = absurd h
called (Awaits k forced timed) before now later h = absurd h
called (Waits k m timed) before now later h = absurd h
called (Notifies k all) before now later h = absurd h

module _ (w v : LocksState) (l t : ℕ) (o : Outcome) (state : AreLockStates w) (one : IsOfOneLock w l)
    (few : AllHaveFew w l)
    (goes : GoesOn w t o v) where
  -- a thread between its calls is in no hand
  in_no_hand : (u : ℕ) → (w.calls u).purpose ≡ None → (w.locks l).taken u ≡ None
  in_no_hand u idle = by_taken ((w.locks l).taken u) refl
    where
      by_taken : (x : Option Taken) → (w.locks l).taken u ≡ x → (w.locks l).taken u ≡ None
      by_taken None e = e
      by_taken (Some h) e = absurd (one.standing u (let f : one_if_some ((w.locks l).taken u) ≡ 1 =
          ap one_if_some e in omega arith) idle)

  -- no notification is there
  of_event : (event : Event) (u : ℕ) → MayHappen w t event → u ≢ t → (w.locks l).taken u ≡ None
      → rights_of (locks_after w t event l) u ≡ rights_of (w.locks l) u
  of_event Nothing u may ne free = refl
  of_event (Moves c m all owned number) u may ne free = absurd (let h = few t in let e = may.notifies
      in subst (λ p. HasFew p ((w.calls t).former l) (rights_in w t l)) e h)
  of_event (AtLock k case) u may ne free = elim (cases_eq l k) [
    | inl e ↦ let n : Needs (rules_at w k) case (w.locks k) t = needs (w.calls t).purpose may in
        subst (λ j. rights_of (putting w.locks j (after_case (rules_at w j) case (w.locks j) t) l) u
        ≡ rights_of (w.locks l) u) e
        (ap (λ (s : LockState). rights_of s u)
        (put_same w.locks l (after_case (rules_at w l) case (w.locks l) t))
        ∙ case_leaves w l t u state ne free case (subst (λ j. Needs (rules_at w j) case (w.locks j) t) (sym e)
        n))
    | inr other ↦ ap (λ (s : LockState). rights_of s u) (put_other w.locks k
        (after_case (rules_at w k) case (w.locks k) t) l other)
  ]
    where
      needs : (p : Option Purpose) → Rattle.spec_locks.specs.Runs.MayDo w t k case p
          → Needs (rules_at w k) case (w.locks k) t
      needs None h = absurd h
      needs (Some p) h = h.1

  pub rights_left : (u : ℕ) → u ≢ t → (w.calls u).purpose ≡ None → rights_in v u l ≡ rights_in w u l
  rights_left u ne idle = ap (λ (s : LockState). rights_of s u) (goes.locks l)
      ∙ of_event goes.event u goes.may ne (in_no_hand u idle)

  -- nor does anybody else begin or end a call
  pub calls_left : (u : ℕ) → u ≢ t → (v.calls u).purpose ≡ (w.calls u).purpose
  calls_left u ne =
      let led : v.calls u ≡ woken w t goes.event u (w.calls u) = goes.calls u
      ∙ ap (λ b. if b then unless_ended o (woken w t goes.event t (going_on goes.event (w.calls t)))
      else woken w t goes.event u (w.calls u)) (let e : (u == t) ≡ false = grind (arith, nat_tests) in e)
      in
      let alike : SameBeginning (w.calls u) (v.calls u) = subst (SameBeginning (w.calls u)) (sym led)
      (woken_same w t goes.event u (w.calls u)) in
      alike.purpose

  -- a thread that didn't go on
  of_other : (u : ℕ) → u ≢ t → HasFew (v.calls u).purpose ((v.calls u).former l) (rights_in v u l)
  of_other u ne = by_purpose (w.calls u).purpose refl
    where
      led : v.calls u ≡ woken w t goes.event u (w.calls u)
      led = goes.calls u ∙ ap (λ b. if b then unless_ended o
          (woken w t goes.event t (going_on goes.event (w.calls t))) else woken w t goes.event u (w.calls u))
          (let e : (u == t) ≡ false = grind (arith, nat_tests) in e)

      alike : SameBeginning (w.calls u) (v.calls u)
      alike = subst (SameBeginning (w.calls u)) (sym led) (woken_same w t goes.event u (w.calls u))

      by_purpose : (p : Option Purpose) → (w.calls u).purpose ≡ p → HasFew (v.calls u).purpose
          ((v.calls u).former l) (rights_in v u l)
      by_purpose None e =
          let h : HasFew None ((w.calls u).former l) (rights_in w u l) =
          subst (λ q. HasFew q ((w.calls u).former l) (rights_in w u l)) e (few u) in
          subst (λ q. HasFew q ((v.calls u).former l) (rights_in v u l)) (sym (alike.purpose ∙ e))
          (few_same (rights_in w u l) (rights_in v u l) (rights_left u ne e) h)
      by_purpose (Some p) e =
          let h : HasFew (Some p) ((w.calls u).former l) (rights_in w u l) =
          subst (λ q. HasFew q ((w.calls u).former l) (rights_in w u l)) e (few u) in
          subst (λ q. HasFew q ((v.calls u).former l) (rights_in v u l)) (sym (alike.purpose ∙ e))
          (subst (λ f. HasFew (Some p) f (rights_in v u l)) (sym (ap (λ (f : ℕ → Rights). f l) alike.former))
          (called p _ _ _ h))

  -- the thread that went on
  abbrev went : CallState
  went = going_on goes.event (w.calls t)

  began : SameBeginning (w.calls t) went
  began = going_same goes.event (w.calls t)

  own_led : v.calls t ≡ unless_ended o (woken w t goes.event t went)
  own_led = goes.calls t ∙ ap (λ b. if b then unless_ended o
      (woken w t goes.event t (going_on goes.event (w.calls t))) else woken w t goes.event t (w.calls t))
      (let e : (t == t) ≡ true = grind (arith, nat_tests) in e)

  few_went : (p : Purpose) → (w.calls t).purpose ≡ Some p → (now : Rights)
      → HasFew (Some p) (went.former l) now
  few_went p e now =
      subst (λ f. HasFew (Some p) f now) (sym (ap (λ (f : ℕ → Rights). f l) began.former))
      (called p _ _ _ (subst (λ q. HasFew q ((w.calls t).former l) (rights_in w t l)) e (few t)))

  goes_on_few : v.calls t ≡ woken w t goes.event t went → HasFew (v.calls t).purpose ((v.calls t).former l)
      (rights_in v t l)
  goes_on_few led = by_purpose (w.calls t).purpose refl
    where
      alike : SameBeginning went (v.calls t)
      alike = subst (SameBeginning went) (sym led) (woken_same w t goes.event t went)

      by_purpose : (p : Option Purpose) → (w.calls t).purpose ≡ p → HasFew (v.calls t).purpose
          ((v.calls t).former l) (rights_in v t l)
      by_purpose None e = absurd (goes.called e)
      by_purpose (Some p) e =
          subst (λ q. HasFew q ((v.calls t).former l) (rights_in v t l)) (sym (alike.purpose ∙ began.purpose
          ∙ e))
          (subst (λ f. HasFew (Some p) f (rights_in v t l)) (sym (ap (λ (f : ℕ → Rights). f l) alike.former))
          (few_went p e (rights_in v t l)))

  ended_few : (a : Answer) → AnswerHolds went.purpose v t went a → IsPlain (rights_in v t l)
  ended_few a holds = by_purpose (w.calls t).purpose refl
    where
      by_purpose : (p : Option Purpose) → (w.calls t).purpose ≡ p → IsPlain (rights_in v t l)
      by_purpose None e = absurd (goes.called e)
      by_purpose (Some p) e = by_call p a (subst (λ j. j ≡ l) refl (one.calls t p e))
          (few_went p e (rights_in v t l)) (subst (λ q. AnswerHolds q v t went a) (began.purpose ∙ e) holds)
        where
          by_call : (p : Purpose) (a : Answer) → lock_for p ≡ l → HasFew (Some p) (went.former l)
              (rights_in v t l) → AnswerHolds (Some p) v t went a → IsPlain (rights_in v t l)
          by_call (Enters k x how) a here before h = enters_few v t went l x how a before
              (subst (λ j. EntersAnswer v t went j x how a) here h)
          by_call (Releases k x fair) answer.Ok here before h = loses_few v t went l x before.0 before.1
              (sym before.2) (subst (λ j. Loses v t went j x) here h)
          by_call (Releases k x fair) a here before h = absurd h
          by_call (Converts k x y how) a here before h = converts_few v t went l x y how a before
              (subst (λ j. ConvertsAnswer v t went j x y how a) here h)
          by_call (Bumps k x) answer.Ok here before h = few_same (with_right x no_rights) (rights_in v t l)
              (h.1 l ∙ before) (own_few x)
          by_call (Bumps k x) answer.ReadersFull here before h = loses_few v t went l x no_rights
              (omega arith) before (subst (λ j. Loses v t went j x) here h.1)
          by_call (Bumps k x) a here before h = absurd h
          by_call (CallsOnce k forced) a here before h = absurd before
          by_call (Awaits k forced timed) a here before h = absurd before
          by_call (Waits k m timed) a here before h = absurd before
          by_call (Notifies k all) a here before h = absurd before

  of_own : (x : Outcome) → o ≡ x → HasFew (v.calls t).purpose ((v.calls t).former l) (rights_in v t l)
  of_own (outcome.End a) e =
      let ended : v.calls t ≡ no_call = own_led ∙ ap (λ y. unless_ended y (woken w t goes.event t went)) e in
      subst (λ (c : CallState). HasFew c.purpose (c.former l) (rights_in v t l)) (sym ended)
      (ended_few a (let agreed : Agrees t went (outcome.End a) v = subst (λ y. Agrees t went y v) e
      goes.agrees in agreed.0))
  of_own outcome.NotNow e = goes_on_few (own_led ∙ ap (λ y. unless_ended y (woken w t goes.event t went)) e)
  of_own outcome.Step e = goes_on_few (own_led ∙ ap (λ y. unless_ended y (woken w t goes.event t went)) e)
  of_own outcome.Sleep e = goes_on_few (own_led ∙ ap (λ y. unless_ended y (woken w t goes.event t went)) e)
  of_own (outcome.Closure found) e = goes_on_few (own_led
      ∙ ap (λ y. unless_ended y (woken w t goes.event t went)) e)

pub few_go_on : FewGoOn
few_go_on w v l t o state one few goes u = elim (cases_eq u t) [
  | inl e ↦ subst (λ j. HasFew (v.calls j).purpose ((v.calls j).former l) (rights_in v j l)) (sym e)
      (of_own w v l t o state one few goes o refl)
  | inr ne ↦ of_other w v l t o state one few goes u ne
]

-- a thread begins to give its right up
pub few_begin : FewBegin
few_begin w v l t c o few idle releases right stays u = elim (cases_eq u t) [
  | inl e ↦ subst (λ j. HasFew (v.calls j).purpose ((v.calls j).former l) (rights_in v j l)) (sym e)
      (begun (purpose_at w c) releases right (stays.calls t ∙ put_same w.calls t _))
  | inr ne ↦ let led : v.calls u ≡ w.calls u = stays.calls u ∙ put_other w.calls t _ u ne in
      subst (λ (c : CallState). HasFew c.purpose (c.former l) (rights_in v u l)) (sym led)
      (subst (λ (y : LockState). HasFew (w.calls u).purpose ((w.calls u).former l) (rights_of y u))
      (sym (stays.locks l)) (few u))
]
  where
    few_now : IsPlain (rights_in w t l)
    few_now = subst (λ q. HasFew q ((w.calls t).former l) (rights_in w t l)) idle (few t)

    begun : (p : Option Purpose) → IsRelease p l → HasRight w t p → v.calls t ≡ new_call p (rights_in w t)
        → HasFew (v.calls t).purpose ((v.calls t).former l) (rights_in v t l)
    begun (Some (Releases k x fair)) here owns led =
        subst (λ (c : CallState). HasFew c.purpose (c.former l) (rights_in v t l)) (sym led) (
          without_right x (rights_in w t l),
          less_few x (rights_in w t l) few_now,
          regained (w.locks l) t x (subst (λ j. Owns (w.locks j) t x) here owns),
        )
    begun None here owns led = absurd here
    begun (Some (Enters k x how)) here owns led = absurd here
    begun (Some (Converts k x y how)) here owns led = absurd here
    begun (Some (Bumps k x)) here owns led = absurd here
    begun (Some (CallsOnce k forced)) here owns led = absurd here
    begun (Some (Awaits k forced timed)) here owns led = absurd here
    begun (Some (Waits k m timed)) here owns led = absurd here
    begun (Some (Notifies k all)) here owns led = absurd here
