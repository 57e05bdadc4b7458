-- An act does to a state the same, whether or not threads have looked for their exchanges.
use Rattle.std.proofs.Common.{ℕ, zero, suc, Bool, true, false, Option, Some, None, if◌then◌else◌, ◌≡◌, inl}
use Rattle.std.proofs.Common.{inr, List, [], ◌∷◌, length, map, set, get_or, refl, sym, ◌∙◌, ap, subst}
use Rattle.std.proofs.Common.{get_or-set_other, get_or-set_same}
use Rattle.std.specs.Prelude.{replicate}
use Rattle.std.specs.List.{filter}
use Rattle.std.proofs.lemmas.Bool.{cases_eq, cases_lt}
use Rattle.std.proofs.lemmas.List.{set_past}
use Rattle.core_base.specs.declared.keys.Keys.{Keys}
use Rattle.core_base.specs.declared.keys.Keys.TheVariants.{One, Two}
use Rattle.core_base.specs.declared.ops.Op.{Op}
use Rattle.core_base.specs.declared.wants.Waiter.{Waiter}
use Rattle.core_base.specs.Words.{apply}
use Rattle.core_base.specs.Lines.{first_of, threads_of}
use Rattle.core_base.specs.Picks.{lock_picked, without_lock_picked}
use Rattle.core_base.specs.Requeues.{taken_by}
use Rattle.spec_locks.specs.Locks.{Taken}
use Rattle.steps_base.specs.declared.acts.Act.{Act}
use Rattle.steps_base.specs.declared.acts.Act.TheVariants as act
use Rattle.steps_base.specs.declared.acts.Wakes.TheVariants as wakes
use Rattle.steps_base.specs.declared.acts.TakeWhich.TheVariants as whom
use Rattle.steps_base.specs.declared.acts.Reply.{Reply}
use Rattle.steps_base.specs.declared.acts.Reply.TheVariants.{TakenBy, MovedTo, HandedBy, Woken}
use Rattle.steps_base.specs.Acts.{holds, takes_effect}
use Rattle.steps_base.specs.Owners.{is_thread}
use Rattle.lot_steps.specs.declared.places.Place.{Place}
use Rattle.lot_steps.specs.declared.places.Place.TheVariants.{Idle, Mutex, RwLock, Once, Condvar, Semaphore}
use Rattle.lot_steps.specs.Steps.{is_idle, next_place, owners_after, shares_after, taker, wants}
use Rattle.lot_machine.specs.declared.hands.Successor.{Successor}
use Rattle.lot_machine.specs.Machine.{State, can_do, hand_over_told, held, held_by, listed, moved_threads}
use Rattle.lot_machine.specs.Machine.{place_after_telling, owners_at, place_at, places_told, put, queue_at}
use Rattle.lot_machine.specs.Machine.{queues_requeued, queues_with_last, queues_without_first, reply_to}
use Rattle.lot_machine.specs.Machine.{shares_at, shares_given, shares_in_hand, sharers_in_hand}
use Rattle.lot_machine.specs.Machine.{state_after_act, state_after_hand_over, state_after_hand_over_by}
use Rattle.lot_machine.specs.Machine.{state_after_operation, state_after_reply, state_after_taking}
use Rattle.lot_machine.specs.Machine.{state_after_telling, state_with_sections, share_at, shares_with}
use Rattle.lot_machine.specs.Machine.{successor_from, successor_or, with_word, wants_more_in_hand, with_share}
use Rattle.lot_machine.specs.Machine.{word_at}
use Rattle.lot_machine.proofs.Acted.{Befalls, acted_keeps}
use Rattle.lot_misses.specs.Looks.{looked_from, or_here, unlooked}
use Rattle.lot_misses.proofs.Rows.{IsNoValue}
use Rattle.lot_misses.proofs.Places.{GoesBy, IsSane, Tells, goes_so, stays_sane}

-- ---------------------------------------------------------------- one place

befalls_no_value : (r : Reply) → Befalls r → IsNoValue r
befalls_no_value (TakenBy t) h = tt
befalls_no_value (MovedTo key) h = tt
befalls_no_value (HandedBy t alone) h = tt
befalls_no_value (Woken n) h = tt
befalls_no_value r h = absurd h

befalls_tells : (p : Place) (r : Reply) → Befalls r → Tells p r
befalls_tells Idle r h = tt
befalls_tells (Mutex l at) r h = tt
befalls_tells (RwLock l a c) (TakenBy t) h = tt
befalls_tells (RwLock l a c) (MovedTo key) h = tt
befalls_tells (RwLock l a c) (HandedBy t alone) h = tt
befalls_tells (RwLock l a c) (Woken n) h = tt
befalls_tells (RwLock l a c) r h = absurd h
befalls_tells (Once l at) r h = tt
befalls_tells (Condvar l at) r h = tt
befalls_tells (Semaphore l at) r h = tt

pub befallen_sane : (p : Place) (r : Reply) → Befalls r → IsSane p → IsSane (next_place p r)
befallen_sane p r h sane = stays_sane p r (befalls_tells p r h) sane

module _ (p : Place) (sane : IsSane p) where
  -- what is told to a thread leads on from where it looked
  pub befallen_so : (r : Reply) → Befalls r → next_place (unlooked p) r ≡ unlooked (next_place p r)
  befallen_so r h = by_place (looked_from p) refl (goes_so p sane)
    where
      by_place : (o : Option Place) → looked_from p ≡ o → GoesBy p o → next_place (or_here o p) r
          ≡ unlooked (next_place p r)
      by_place None e by = ap (λ x. or_here x (next_place p r)) (sym (by.others r (befalls_no_value r h)))
      by_place (Some q) e by = ap (λ x. or_here x (next_place p r)) (sym (by.befallen r h))

  pub taker_so : taker (unlooked p) ≡ taker p
  taker_so = by_place (looked_from p) (goes_so p sane)
    where
      by_place : (o : Option Place) → GoesBy p o → taker (or_here o p) ≡ taker p
      by_place None by = refl
      by_place (Some q) by = sym by.taker

  pub wants_so : wants (unlooked p) ≡ wants p
  wants_so = by_place (looked_from p) (goes_so p sane)
    where
      by_place : (o : Option Place) → GoesBy p o → wants (or_here o p) ≡ wants p
      by_place None by = refl
      by_place (Some q) by = sym by.wants

  pub held_so : held (unlooked p) ≡ held p
  held_so = ap (λ t. held_by t (wants (unlooked p))) taker_so ∙ ap (held_by (taker p)) wants_so

  pub idle_so : is_idle (unlooked p) ≡ is_idle p
  idle_so = by_place (looked_from p) (goes_so p sane)
    where
      by_place : (o : Option Place) → GoesBy p o → is_idle (or_here o p) ≡ is_idle p
      by_place None by = refl
      by_place (Some q) by = by.busy_too ∙ sym by.busy

-- ---------------------------------------------------------------- a thread that stays as it is, or not

-- where a thread stands in the other run: it stays as it is, or has not looked
abbrev pub kept : Bool → Place → Place
kept true p = p
kept false p = unlooked p

abbrev SaneUnless : Bool → Place → Type 0
SaneUnless b p = b ≡ false → IsSane p

befallen_kept : (b : Bool) (p : Place) → SaneUnless b p → (r : Reply) → Befalls r
    → next_place (kept b p) r ≡ kept b (next_place p r)
befallen_kept true p sane r h = refl
befallen_kept false p sane r h = befallen_so p (sane refl) r h

taker_kept : (b : Bool) (p : Place) → SaneUnless b p → taker (kept b p) ≡ taker p
taker_kept true p sane = refl
taker_kept false p sane = taker_so p (sane refl)

held_kept : (b : Bool) (p : Place) → SaneUnless b p → held (kept b p) ≡ held p
held_kept true p sane = refl
held_kept false p sane = held_so p (sane refl)

pub idle_kept : (b : Bool) (p : Place) → SaneUnless b p → is_idle (kept b p) ≡ is_idle p
idle_kept true p sane = refl
idle_kept false p sane = idle_so p (sane refl)

pub free_kept : (b : Bool) (p : Place) → looked_from p ≡ None → kept b p ≡ p
free_kept true p free = refl
free_kept false p free = ap (λ o. or_here o p) free

-- ---------------------------------------------------------------- lists of places

abbrev pub kept_all : (ℕ → Bool) → List Place → List Place
kept_all k [] = []
kept_all k (p ∷ ps) = kept (k 0) p ∷ kept_all (λ u. k (suc u)) ps

-- The state of the other run. A thread that k names stays as it is, and no other has looked.
abbrev pub before : (ℕ → Bool) → State → State
before k w = record w { places = kept_all k w.places }

pub kept_length : (k : ℕ → Bool) (ps : List Place) → length (kept_all k ps) ≡ length ps
kept_length k [] = refl
kept_length k (p ∷ ps) = ap suc (kept_length (λ u. k (suc u)) ps)

pub kept_at : (k : ℕ → Bool) (ps : List Place) (u : ℕ)
    → get_or (kept_all k ps) u Idle ≡ kept (k u) (get_or ps u Idle)
kept_at k [] u = sym (free_kept (k u) Idle refl)
kept_at k (p ∷ ps) zero = refl
kept_at k (p ∷ ps) (suc u) = kept_at (λ v. k (suc v)) ps u

kept_set : (k : ℕ → Bool) (ps : List Place) (u : ℕ) (q : Place)
    → kept_all k (set ps u q) ≡ set (kept_all k ps) u (kept (k u) q)
kept_set k [] u q = refl
kept_set k (p ∷ ps) zero q = refl
kept_set k (p ∷ ps) (suc u) q = ap (λ qs. kept (k 0) p ∷ qs) (kept_set (λ v. k (suc v)) ps u q)

-- where nobody stays
pub kept_none : (k : ℕ → Bool) → ((u : ℕ) → k u ≡ false) → (ps : List Place) → kept_all k ps ≡ map unlooked ps
kept_none k none [] = refl
kept_none k none (p ∷ ps) = ap (λ b. kept b p ∷ kept_all (λ u. k (suc u)) ps) (none 0)
    ∙ ap (λ qs. unlooked p ∷ qs) (kept_none (λ u. k (suc u)) (λ u. none (suc u)) ps)

-- where each thread stands at the same place
pub kept_same : (k j : ℕ → Bool) (ps : List Place)
    → ((u : ℕ) → kept (k u) (get_or ps u Idle) ≡ kept (j u) (get_or ps u Idle))
    → kept_all k ps ≡ kept_all j ps
kept_same k j [] same = refl
kept_same k j (p ∷ ps) same = ap (λ q. q ∷ kept_all (λ u. k (suc u)) ps) (same 0)
    ∙ ap (λ qs. kept (j 0) p ∷ qs) (kept_same (λ u. k (suc u)) (λ u. j (suc u)) ps (λ u. same (suc u)))

pub kept_whole : (k : ℕ → Bool) (ps : List Place)
    → ((u : ℕ) → kept (k u) (get_or ps u Idle) ≡ get_or ps u Idle) → kept_all k ps ≡ ps
kept_whole k [] same = refl
kept_whole k (p ∷ ps) same = ap (λ q. q ∷ kept_all (λ u. k (suc u)) ps) (same 0)
    ∙ ap (λ qs. p ∷ qs) (kept_whole (λ u. k (suc u)) ps (λ u. same (suc u)))

-- each thread that doesn't stay as it is stands where threads come to
abbrev pub AllSane : (ℕ → Bool) → List Place → Type 0
AllSane k ps = (u : ℕ) → k u ≡ false → IsSane (get_or ps u Idle)

pub set_sane : (k : ℕ → Bool) (ps : List Place) (i : ℕ) (q : Place) → AllSane k ps → (k i ≡ false → IsSane q)
    → AllSane k (set ps i q)
set_sane k ps i q all sane u off = elim (cases_eq u i) [
  | inl e ↦ elim (cases_lt i (length ps)) [
    | inl lt ↦ rw (e, get_or-set_same ps i q Idle lt) (sane (ap k (sym e) ∙ off))
    | inr ge ↦ subst (λ qs. IsSane (get_or qs u Idle)) (sym (set_past ps i q ge)) (all u off)
  ]
  | inr ne ↦ subst IsSane (sym (get_or-set_other ps i u q Idle ne)) (all u off)
]

told_sane : (k : ℕ → Bool) (r : Reply) → Befalls r → (us : List ℕ) (ps : List Place) → AllSane k ps
    → AllSane k (places_told r us ps)
told_sane k r h [] ps all = all
told_sane k r h (u ∷ us) ps all = told_sane k r h us (set ps u (next_place (get_or ps u Idle) r))
    (set_sane k ps u _ all (λ off. befallen_sane (get_or ps u Idle) r h (all u off)))

told_so : (k : ℕ → Bool) (r : Reply) → Befalls r → (us : List ℕ) (ps : List Place) → AllSane k ps
    → places_told r us (kept_all k ps) ≡ kept_all k (places_told r us ps)
told_so k r h [] ps all = refl
told_so k r h (u ∷ us) ps all =
    ap (places_told r us) (ap (λ p. set (kept_all k ps) u (next_place p r)) (kept_at k ps u)
    ∙ ap (set (kept_all k ps) u) (befallen_kept (k u) (get_or ps u Idle) (all u) r h)
    ∙ sym (kept_set k ps u (next_place (get_or ps u Idle) r)))
    ∙ told_so k r h us (set ps u (next_place (get_or ps u Idle) r))
    (set_sane k ps u _ all (λ off. befallen_sane (get_or ps u Idle) r h (all u off)))

telling_so : (k : ℕ → Bool) (t : ℕ) (r : Reply) → Befalls r → (ps : List Place) → AllSane k ps
    → map (place_after_telling t r) (kept_all k ps) ≡ kept_all k (map (place_after_telling t r) ps)
telling_so k t r h [] all = refl
telling_so k t r h (p ∷ ps) all = ap (λ q. q ∷ map (place_after_telling t r) (kept_all (λ u. k (suc u)) ps))
    (one (is_thread t (taker p)) (ap (is_thread t) (taker_kept (k 0) p (all 0))))
    ∙ ap (λ qs. kept (k 0) (place_after_telling t r p) ∷ qs)
    (telling_so (λ u. k (suc u)) t r h ps (λ u. all (suc u)))
  where
    one : (b : Bool) → is_thread t (taker (kept (k 0) p)) ≡ b
        → (if is_thread t (taker (kept (k 0) p)) then next_place (kept (k 0) p) r else kept (k 0) p)
        ≡ kept (k 0) (if b then next_place p r else p)
    one true e = rw e (befallen_kept (k 0) p (all 0) r h)
    one false e = rw e refl

-- the threads in hand are the same
pub helds_so : (k : ℕ → Bool) (ps : List Place) → AllSane k ps → map held (kept_all k ps) ≡ map held ps
helds_so k [] all = refl
helds_so k (p ∷ ps) all = ap (λ x. x ∷ map held (kept_all (λ u. k (suc u)) ps)) (held_kept (k 0) p (all 0))
    ∙ ap (λ xs. held p ∷ xs) (helds_so (λ u. k (suc u)) ps (λ u. all (suc u)))

-- ---------------------------------------------------------------- what a state says of hands

abbrev given_by : ℕ → List (Option Taken) → List ℕ → List ℕ
given_by t [] ns = ns
given_by t (h ∷ hs) [] = []
given_by t (h ∷ hs) (n ∷ ns) = with_share (shares_in_hand t h) n ∷ given_by t hs ns

given_is : (t : ℕ) (ps : List Place) (ns : List ℕ) → shares_given t ps ns ≡ given_by t (map held ps) ns
given_is t [] ns = refl
given_is t (p ∷ ps) [] = refl
given_is t (p ∷ ps) (n ∷ ns) = ap (λ xs. with_share (shares_in_hand t (held p)) n ∷ xs) (given_is t ps ns)

pub given_so : (t : ℕ) (ps qs : List Place) (ns : List ℕ) → map held ps ≡ map held qs → shares_given t ps ns
    ≡ shares_given t qs ns
given_so t ps qs ns e = given_is t ps ns ∙ ap (λ hs. given_by t hs ns) e ∙ sym (given_is t qs ns)

abbrev successor_by : ℕ → ℕ → List (Option Taken) → Option Successor
successor_by t u [] = None
successor_by t u (h ∷ hs) = successor_or u (wants_more_in_hand t h) (successor_by t (suc u) hs)

successor_is : (t u : ℕ) (ps : List Place) → successor_from t u ps ≡ successor_by t u (map held ps)
successor_is t u [] = refl
successor_is t u (p ∷ ps) = ap (successor_or u (wants_more_in_hand t (held p))) (successor_is t (suc u) ps)

pub successor_so : (t u : ℕ) (ps qs : List Place) → map held ps ≡ map held qs → successor_from t u ps
    ≡ successor_from t u qs
successor_so t u ps qs e = successor_is t u ps ∙ ap (successor_by t u) e ∙ sym (successor_is t u qs)

one_more : (t : ℕ) (p : Place) (ps : List Place) (n : ℕ) → sharers_in_hand t ps ≡ n
    → (b : Bool) → shares_in_hand t (held p) ≡ b → sharers_in_hand t (p ∷ ps) ≡ (if b then suc n else n)
one_more t p ps n is true e = rw e (ap suc is)
one_more t p ps n is false e = rw e is

one_held : (t : ℕ) (h : Option Taken) (hs : List (Option Taken)) (b : Bool) → shares_in_hand t h ≡ b
    → length (filter (shares_in_hand t) (h ∷ hs)) ≡ (if b then suc (length (filter (shares_in_hand t) hs))
    else length (filter (shares_in_hand t) hs))
one_held t h hs true e = rw e refl
one_held t h hs false e = rw e refl

sharers_is : (t : ℕ) (ps : List Place) → sharers_in_hand t ps
    ≡ length (filter (shares_in_hand t) (map held ps))
sharers_is t [] = refl
sharers_is t (p ∷ ps) = one_more t p ps (length (filter (shares_in_hand t) (map held ps))) (sharers_is t ps)
    (shares_in_hand t (held p)) refl
    ∙ sym (one_held t (held p) (map held ps) (shares_in_hand t (held p)) refl)

pub sharers_so : (t : ℕ) (ps qs : List Place) → map held ps ≡ map held qs → sharers_in_hand t ps
    ≡ sharers_in_hand t qs
sharers_so t ps qs e = sharers_is t ps ∙ ap (λ hs. length (filter (shares_in_hand t) hs)) e
    ∙ sym (sharers_is t qs)

-- ---------------------------------------------------------------- an act

module _ (k : ℕ → Bool) (w : State) (all : AllSane k w.places) where
  abbrev b : State
  b = before k w

  sizes : length b.places ≡ length w.places
  sizes = kept_length k w.places

  pub shares_so : (l : ℕ) → shares_at b l ≡ shares_at w l
  shares_so l = ap (λ n. get_or w.shares l (replicate n 0)) sizes

  pub place_so : (u : ℕ) → place_at b u ≡ kept (k u) (place_at w u)
  place_so u = kept_at k w.places u

  pub put_so : (t : ℕ) (q : Place) → put b t (kept (k t) q) ≡ before k (put w t q)
  put_so t q = ap (λ ps. record w { places = ps }) (sym (kept_set k w.places t q))

  numbers_so : (l t : ℕ) (o : Option ℕ) → shares_with b l t o ≡ shares_with w l t o
  numbers_so l t None = refl
  numbers_so l t (Some n) = ap (λ ns. set w.shares l (set ns t n)) (shares_so l)

  pub operation_so : (t : ℕ) (p : Place) (l : ℕ) (f : Op) → state_after_operation b t p l f
      ≡ before k (state_after_operation w t p l f)
  operation_so t p l f = ap
      (λ (ss : List (List ℕ)). record (before k (with_word w l (apply f (word_at w l))
      (owners_after p t (word_at w l) (owners_at w l)))) { shares = ss })
      (numbers_so l t (shares_after p (word_at w l) (share_at b l t))
      ∙ ap (λ n. shares_with w l t (shares_after p (word_at w l) n))
      (ap (λ ns. get_or ns t 0) (shares_so l)))

  hand_over_so : (t : ℕ) (p : Place) (l : ℕ) (f : Op) → state_after_hand_over b t p l f
      ≡ before k (state_after_hand_over w t p l f)
  hand_over_so t p l f = let helds = helds_so k w.places all in
      rw (
        shares_so l,
        given_so t b.places w.places (shares_at w l) helds,
        successor_so t 0 b.places w.places
            helds,
      ) refl

  hand_over_told_so : (t l : ℕ) → hand_over_told b t l ≡ hand_over_told w t l
  hand_over_told_so t l = let helds = helds_so k w.places all
      in rw (shares_so l, given_so t b.places w.places (shares_at w l) helds) refl

  reply_told_so : (u : ℕ) (r : Reply) → Befalls r → state_after_reply b u r
      ≡ before k (state_after_reply w u r)
  reply_told_so u r h = ap (λ p. put b u (next_place p r)) (place_so u)
      ∙ ap (put b u) (befallen_kept (k u) (place_at w u) (all u) r h) ∙ put_so u (next_place (place_at w u) r)

  telling_state_so : (t : ℕ) (r : Reply) → Befalls r → state_after_telling b t r
      ≡ before k (state_after_telling w t r)
  telling_state_so t r h = ap (λ ps. record w { places = ps }) (telling_so k t r h w.places all)

  sections_so : (keys : Keys) (who : Option ℕ) → state_with_sections b keys who
      ≡ before k (state_with_sections w keys who)
  sections_so (One key) who = refl
  sections_so (Two first second) who = refl

  takes_so : (t : ℕ) (queues : List (List Waiter)) (o : Option ℕ)
      → state_after_taking (record b { queues = queues }) t o
      ≡ before k (state_after_taking (record w { queues = queues }) t o)
  takes_so t queues None = refl
  takes_so t queues (Some u) = ap (λ (v : State). record v { queues = queues })
      (reply_told_so u (TakenBy t) tt)

pub acted_so : (k : ℕ → Bool) (w : State) → AllSane k w.places → (t : ℕ) (p : Place) (a : Act)
    → state_after_act (before k w) t p a ≡ before k (state_after_act w t p a)
acted_so k w all t p (act.Word l f) = operation_so k w all t p l f
acted_so k w all t p (act.HandOver l f) = by_effect (takes_effect f (word_at w l))
  where
    by_effect : (e : Bool) → state_after_hand_over_by e (before k w) t p l f
        ≡ before k (state_after_hand_over_by e w t p l f)
    by_effect false = operation_so k w all t p l f
    by_effect true = ap (λ v. state_after_telling v t (hand_over_told (before k w) t l))
        (hand_over_so k w all t p l f)
        ∙ ap (state_after_telling (before k (state_after_hand_over w t p l f)) t)
        (hand_over_told_so k w all t l)
        ∙ telling_state_so k (state_after_hand_over w t p l f) all t (hand_over_told w t l) tt
acted_so k w all t p (act.Enter keys) = sections_so k w all keys (Some t)
acted_so k w all t p (act.Park l key check x) = by_check (holds check (word_at w l))
  where
    by_check : (e : Bool) → (if e then record (before k w) { queues = queues_with_last w.queues key t x }
        else before k w)
        ≡ before k (if e then record w { queues = queues_with_last w.queues key t x } else w)
    by_check true = refl
    by_check false = refl
acted_so k w all t p (act.Take key whom.First) = takes_so k w all t (queues_without_first w.queues key)
    (first_of (queue_at w key))
acted_so k w all t p (act.Take key (whom.Picked start recursive)) =
    ap (λ ps. record w {
      queues = set w.queues key (without_lock_picked start recursive key (queue_at w key));
      places = ps;
    })
    (told_so k (TakenBy t) tt (threads_of (lock_picked start recursive (queue_at w key))) w.places all)
acted_so k w all t p (act.Take key whom.All) =
    ap (λ ps. record w { queues = set w.queues key []; places = ps })
    (told_so k (TakenBy t) tt (threads_of (queue_at w key)) w.places all)
acted_so k w all t p (act.Requeue from to how) =
    ap (λ ps. record w { queues = queues_requeued w.queues from to how; places = ps })
    (ap (places_told (MovedTo to) (moved_threads how (threads_of (queue_at w from))))
    (told_so k (TakenBy t) tt (listed (taken_by how (queue_at w from))) w.places all)
    ∙ told_so k (MovedTo to) tt (moved_threads how (threads_of (queue_at w from)))
    (places_told (TakenBy t) (listed (taken_by how (queue_at w from))) w.places)
    (told_sane k (TakenBy t) tt (listed (taken_by how (queue_at w from))) w.places all))
acted_so k w all t p (act.Leave (One key) wakes.Nobody) = refl
acted_so k w all t p (act.Leave (One key) (wakes.All n)) = telling_state_so k
    (state_with_sections w (One key) None) all t (Woken n) tt
acted_so k w all t p (act.Leave (Two first second) wakes.Nobody) = refl
acted_so k w all t p (act.Leave (Two first second) (wakes.All n)) = telling_state_so k
    (state_with_sections w (Two first second) None) all t (Woken n) tt
acted_so k w all t p a = refl

pub reply_so : (k : ℕ → Bool) (w : State) → AllSane k w.places → (t : ℕ) (a : Act) → reply_to (before k w) t a
    ≡ reply_to w t a
reply_so k w all t (act.Word l f) = refl
reply_so k w all t (act.HandOver l f) = refl
reply_so k w all t (act.Park l key check x) = refl
reply_so k w all t (act.Take key whom.First) = refl
reply_so k w all t (act.Take key (whom.Picked start recursive)) =
    let us = threads_of (lock_picked start recursive (queue_at w key)) in
    let helds : map held (places_told (TakenBy t) us (kept_all k w.places))
    ≡ map held (places_told (TakenBy t) us w.places) =
    ap (map held) (told_so k (TakenBy t) tt us w.places all)
    ∙ helds_so k (places_told (TakenBy t) us w.places) (told_sane k (TakenBy t) tt us w.places all) in
    rw (
      sharers_so t (places_told (TakenBy t) us (kept_all k w.places))
          (places_told (TakenBy t) us w.places) helds,
      successor_so t 0 (places_told (TakenBy t) us (kept_all k w.places))
          (places_told (TakenBy t) us w.places) helds,
    ) refl
reply_so k w all t (act.Take key whom.All) = refl
reply_so k w all t (act.Requeue from to how) = refl
reply_so k w all t (act.Remove key) = refl
reply_so k w all t a = refl

pub can_so : (k : ℕ → Bool) (w : State) (a : Act) → can_do (before k w) a ≡ can_do w a
can_so k w (act.Enter (One key)) = refl
can_so k w (act.Enter (Two first second)) = refl
can_so k w a = refl

-- ---------------------------------------------------------------- places stay sane

-- whatever befalls threads by an act
pub acted_sane : (k : ℕ → Bool) (w : State) → AllSane k w.places → (t : ℕ) (p : Place) (a : Act)
    → AllSane k (state_after_act w t p a).places
acted_sane k w all t p a u off =
    acted_keeps IsSane w u t p a (λ loud r h q sane. befallen_sane q r h sane) (all u off)
