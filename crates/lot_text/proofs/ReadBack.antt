-- The line of a step means that step.
use Rattle.std.proofs.Common.{◌≡◌, ◌≢◌, ℕ, zero, suc, ◌+◌, ◌-◌, ◌*◌, ◌^◌, ◌≤◌, ◌<◌, Bool, true, false, cond}
use Rattle.std.proofs.Common.{List, [], ◌∷◌, ◌++◌, Option, None, Some, All, length, get_or, refl, sym, ap}
use Rattle.std.proofs.Common.{subst, ◌∙◌, arith, take_all}
use Rattle.std.specs.Prelude.{codes, decimal, option_and_then}
use Rattle.std.specs.List.{list_all}
use Rattle.std.specs.Str.{bytes_eq}
use Rattle.std.proofs.lemmas.Bool.Decides.{nat_tests}
use Rattle.std.proofs.lemmas.Fmt.{decimal_digit, decimal_nonempty, digits_decimal, digits_value-decimal}
use Rattle.std.proofs.lemmas.Fmt.{first_decimal, length-decimal-le}
use Rattle.std.proofs.lemmas.List.{append-nil}
use Rattle.std.proofs.lemmas.List.Elements.{All-nil, All-cons}
use Rattle.std.proofs.lemmas.Slice.Eq.{bytes_eq-Decides}
use Rattle.spec_locks.specs.declared.calls.Access.TheVariants as access
use Rattle.spec_locks.specs.declared.calls.Call.TheVariants as call
use Rattle.spec_locks.specs.declared.calls.CondvarCall.TheVariants as condvar
use Rattle.spec_locks.specs.declared.calls.Downgrade.TheVariants.{ToShared, ToUpgradable, UpgradableToShared}
use Rattle.spec_locks.specs.declared.calls.MutexCall.{MutexCall}
use Rattle.spec_locks.specs.declared.calls.MutexCall.TheVariants as mutex
use Rattle.spec_locks.specs.declared.calls.OnceCall.{OnceCall}
use Rattle.spec_locks.specs.declared.calls.OnceCall.TheVariants as once
use Rattle.spec_locks.specs.declared.calls.SemaphoreCall.{SemaphoreCall}
use Rattle.spec_locks.specs.declared.calls.SemaphoreCall.TheVariants as semaphore
use Rattle.spec_locks.specs.declared.calls.Patience.TheVariants.{Patient, Timed, Try}
use Rattle.spec_locks.specs.declared.calls.RwLockCall.{RwLockCall}
use Rattle.spec_locks.specs.declared.calls.RwLockCall.TheVariants as rwlock
use Rattle.spec_locks.specs.declared.calls.Turn.{Turn}
use Rattle.spec_locks.specs.declared.calls.Turn.TheVariants as turn
use Rattle.lot_text.specs.declared.grammar.Command.TheVariants as command
use Rattle.lot_text.specs.declared.grammar.NamedCall.{NamedCall}
use Rattle.lot_text.specs.declared.grammar.NamedCall.TheVariants as named
use Rattle.lot_text.specs.declared.grammar.NamedTurn.{NamedTurn}
use Rattle.lot_text.specs.declared.grammar.NamedTurn.TheVariants as turns
use Rattle.lot_text.specs.Grammar.{call_of, calling_command_of, calling_turn_of, command_of, digits_after}
use Rattle.lot_text.specs.Grammar.{has_form, limited_kind_of, lock_command, meaning, number_read}
use Rattle.lot_text.specs.Grammar.{turn_command, turn_of, wait_of, words_of}
use Rattle.lot_text.specs.LockNames.{is_digit, is_name, name_of}
use Rattle.lot_text.specs.Steps.{AreNamed, StepsAreReadBack, condvar_word, mutex_word, name_at, once_word}
use Rattle.lot_text.specs.Steps.{semaphore_word, rwlock_word, step_text, turn_named}
use Rattle.lot_text.proofs.GrammarLemmas.{words_only}
use Rattle.lot_text.proofs.NameLemmas.{both_left, both_right, is_name_byte, name_bytes}
use Rattle.lot_text.proofs.NumberLaw.{AreDigits, none_some, own, value_after}
use Rattle.lot_text.proofs.TurnLemmas.{lacks, lacks_all, no_other, not_threads, two_words, words_two}

-- ---------------------------------------------------------------- numbers

digit_is : (c : ℕ) → 48 ≤ c → c ≤ 57 → is_digit c ≡ true
digit_is c low high = grind (arith, nat_tests)

digits_read : (cs : List ℕ) (m : ℕ) → AreDigits cs → digits_after m cs ≡ Some (value_after m cs)
digits_read [] m h = refl
digits_read (c ∷ cs) m h = ap (λ t. cond t (digits_after (m * 10 + (c - 48)) cs) None)
    (digit_is c h.0.0 h.0.1) ∙ digits_read cs (m * 10 + (c - 48)) h.1

form_is : (word : List ℕ) → 0 < length word → length word ≤ 19 → 48 < get_or word 0 0 → has_form word ≡ true
form_is word some few first = grind (arith, nat_tests)

decimal_form : (n : ℕ) → n < 10 ^ 19 → has_form (decimal n) ≡ true
decimal_form zero below = ap has_form (decimal_digit 0 (omega arith))
decimal_form (suc n) below =
    let wide : suc n < 2 ^ 64 = omega arith in
    form_is (decimal (suc n)) (decimal_nonempty (suc n) wide) (length-decimal-le 19 (suc n) (omega arith)
    below wide) (first_decimal (suc n) (omega arith) wide)

number_back : (n : ℕ) → n < 10 ^ 19 → number_read (decimal n) ≡ Some n
number_back n below =
    let wide : n < 2 ^ 64 = omega arith in
    ap (λ t. cond t (digits_after 0 (decimal n)) None) (decimal_form n below)
    ∙ digits_read (decimal n) 0 (digits_decimal own n wide) ∙ ap Some (digits_value-decimal own n wide)

no_space : (n : ℕ) → n < 10 ^ 19 → All (λ b. b ≢ 32) (decimal n)
no_space n below = no_other 32 (omega arith) (decimal n) (digits_decimal own n (omega arith))

not_lock : (word : List ℕ) (n : ℕ) → number_read word ≡ Some n → bytes_eq word (codes "lock") ≡ false
not_lock word n e = go (bytes_eq word (codes "lock")) refl
  where
    go : (b : Bool) → bytes_eq word (codes "lock") ≡ b → b ≡ false
    go true d = absurd (none_some n (sym (ap number_read ((bytes_eq-Decides word (codes "lock")).0 d)) ∙ e))
    go false d = refl

-- ---------------------------------------------------------------- names

byte_spaceless : (b : ℕ) → is_name_byte b ≡ true → b ≢ 32
byte_spaceless b h e = let f : is_name_byte 32 ≡ true = subst (λ x. is_name_byte x ≡ true) e h in cc

spaceless : (xs : List ℕ) → list_all is_name_byte xs ≡ true → All (λ b. b ≢ 32) xs
spaceless [] h = All-nil (λ b. b ≢ 32)
spaceless (x ∷ xs) h = All-cons (λ b. b ≢ 32) x xs
    (byte_spaceless x (both_left (is_name_byte x) (list_all is_name_byte xs) h))
    (spaceless xs (both_right (is_name_byte x) (list_all is_name_byte xs) h))

name_spaceless : (name : List ℕ) → is_name name ≡ true → All (λ b. b ≢ 32) name
name_spaceless name h = spaceless name (name_bytes name h)

name_alone : (name : List ℕ) → is_name name ≡ true → words_of name ≡ name ∷ []
name_alone name h = words_only name (length name) refl (subst (λ l. All (λ b. b ≢ 32) l)
    (sym (take_all (length name) name (omega arith))) (name_spaceless name h))

name_read : (name : List ℕ) → is_name name ≡ true → name_of name ≡ Some name
name_read name h = ap (λ t. cond t (Some name) None) h

-- ---------------------------------------------------------------- words of calls

record IsWord (word : List ℕ) (c : NamedCall) : Type 0 where
  lacks : lacks 32 word ≡ true
  read : call_of word ≡ Some c

mutex_read : (c : MutexCall) → IsWord (mutex_word c) (named.Mutex c)
mutex_read mutex.Lock = record { lacks = refl; read = refl }
mutex_read mutex.LockTimed = record { lacks = refl; read = refl }
mutex_read mutex.TryLock = record { lacks = refl; read = refl }
mutex_read mutex.Unlock = record { lacks = refl; read = refl }
mutex_read mutex.UnlockFair = record { lacks = refl; read = refl }
mutex_read mutex.Bump = record { lacks = refl; read = refl }

rwlock_read : (c : RwLockCall) → IsWord (rwlock_word c) (named.RwLock c)
rwlock_read (rwlock.Enter access.Shared Patient) = record { lacks = refl; read = refl }
rwlock_read (rwlock.Enter access.Shared Timed) = record { lacks = refl; read = refl }
rwlock_read (rwlock.Enter access.Shared Try) = record { lacks = refl; read = refl }
rwlock_read (rwlock.Enter access.Upgradable Patient) = record { lacks = refl; read = refl }
rwlock_read (rwlock.Enter access.Upgradable Timed) = record { lacks = refl; read = refl }
rwlock_read (rwlock.Enter access.Upgradable Try) = record { lacks = refl; read = refl }
rwlock_read (rwlock.Enter access.Exclusive Patient) = record { lacks = refl; read = refl }
rwlock_read (rwlock.Enter access.Exclusive Timed) = record { lacks = refl; read = refl }
rwlock_read (rwlock.Enter access.Exclusive Try) = record { lacks = refl; read = refl }
rwlock_read (rwlock.Release access.Shared) = record { lacks = refl; read = refl }
rwlock_read (rwlock.Release access.Upgradable) = record { lacks = refl; read = refl }
rwlock_read (rwlock.Release access.Exclusive) = record { lacks = refl; read = refl }
rwlock_read (rwlock.ReleaseFair access.Shared) = record { lacks = refl; read = refl }
rwlock_read (rwlock.ReleaseFair access.Upgradable) = record { lacks = refl; read = refl }
rwlock_read (rwlock.ReleaseFair access.Exclusive) = record { lacks = refl; read = refl }
rwlock_read (rwlock.Downgrade ToShared) = record { lacks = refl; read = refl }
rwlock_read (rwlock.Downgrade ToUpgradable) = record { lacks = refl; read = refl }
rwlock_read (rwlock.Downgrade UpgradableToShared) = record { lacks = refl; read = refl }
rwlock_read (rwlock.Upgrade Patient) = record { lacks = refl; read = refl }
rwlock_read (rwlock.Upgrade Timed) = record { lacks = refl; read = refl }
rwlock_read (rwlock.Upgrade Try) = record { lacks = refl; read = refl }
rwlock_read (rwlock.Bump access.Shared) = record { lacks = refl; read = refl }
rwlock_read (rwlock.Bump access.Upgradable) = record { lacks = refl; read = refl }
rwlock_read (rwlock.Bump access.Exclusive) = record { lacks = refl; read = refl }

once_read : (c : OnceCall) → IsWord (once_word c) (named.Once c)
once_read (once.CallOnce false) = record { lacks = refl; read = refl }
once_read (once.CallOnce true) = record { lacks = refl; read = refl }
once_read (once.Wait false) = record { lacks = refl; read = refl }
once_read (once.Wait true) = record { lacks = refl; read = refl }
once_read once.WaitTimed = record { lacks = refl; read = refl }

semaphore_read : (c : SemaphoreCall) → IsWord (semaphore_word c) (named.Semaphore c)
semaphore_read (semaphore.Acquire Patient) = record { lacks = refl; read = refl }
semaphore_read (semaphore.Acquire Timed) = record { lacks = refl; read = refl }
semaphore_read (semaphore.Acquire Try) = record { lacks = refl; read = refl }
semaphore_read semaphore.Release = record { lacks = refl; read = refl }

notify_read : (all : Bool) (m : ℕ) → IsWord (condvar_word (condvar.Notify all)) (named.Notify all)
notify_read false m = record { lacks = refl; read = refl }
notify_read true m = record { lacks = refl; read = refl }

-- ---------------------------------------------------------------- lines

module _ (t : ℕ) (below : t < 10 ^ 19) where
  abbrev thread : List ℕ
  thread = decimal t

  plain_back : (word : List ℕ) (x : NamedTurn) → words_of word ≡ word ∷ [] → turn_of word ≡ Some x
      → meaning (thread ++ 32 ∷ word) ≡ Some (command.Turn t x)
  plain_back word x one read =
      ap command_of (words_two thread word (no_space t below) ∙ ap (λ l. thread ∷ l) one)
      ∙ two_words thread word t x (not_threads thread t (number_back t below)) (number_back t below) read

  calls_back : (c : Option NamedCall) (k : NamedCall) (name : List ℕ) → c ≡ Some k → is_name name ≡ true
      → calling_command_of thread (codes "begin") c name ≡ Some (command.Turn t (turns.Begin k name))
  calls_back c k name read named_so =
      ap (λ n. turn_command n (option_and_then (λ y. option_and_then (calling_turn_of (codes "begin") y)
      (name_of name)) c)) (number_back t below)
      ∙ ap (λ o. turn_command (Some t)
      (option_and_then (λ y. option_and_then (calling_turn_of (codes "begin") y) (name_of name)) o)) read
      ∙ ap (λ o. turn_command (Some t) (option_and_then (calling_turn_of (codes "begin") k) o))
      (name_read name named_so)

  begins : (more : List ℕ) → words_of (thread ++ 32 ∷ (codes "begin" ++ 32 ∷ more)) ≡ thread
      ∷ (codes "begin" ∷ words_of more)
  begins more = words_two thread (codes "begin" ++ 32 ∷ more) (no_space t below)
      ∙ ap (λ l. thread ∷ l) (words_two (codes "begin") more (lacks_all 32 (codes "begin") refl))

  -- a call of one lock
  one_back : (word : List ℕ) (k : NamedCall) (name : List ℕ) → IsWord word k → is_name name ≡ true
      → meaning (thread ++ 32 ∷ (codes "begin" ++ 32 ∷ (word ++ 32 ∷ (name ++ []))))
      ≡ Some (command.Turn t (turns.Begin k name))
  one_back word k name is named_so =
      ap (λ l. meaning (thread ++ 32 ∷ (codes "begin" ++ 32 ∷ (word ++ 32 ∷ l)))) (append-nil name)
      ∙ ap command_of (begins (word ++ 32 ∷ name) ∙ ap (λ l. thread ∷ (codes "begin" ∷ l))
      (words_two word name (lacks_all 32 word is.lacks) ∙ ap (λ l. word ∷ l) (name_alone name named_so)))
      ∙ ap (λ b. cond b (lock_command (name_of (codes "begin")) (limited_kind_of word (number_read name)))
      (calling_command_of thread (codes "begin") (call_of word) name))
      (not_lock thread t (number_back t below))
      ∙ calls_back (call_of word) k name is.read named_so

  -- a wait, with its mutex
  two_back : (word : List ℕ) (timed : Bool) (name other : List ℕ) → lacks 32 word ≡ true
      → wait_of word (Some other) ≡ Some (named.Wait other timed)
      → is_name name ≡ true → is_name other ≡ true
      → meaning (thread ++ 32 ∷ (codes "begin" ++ 32 ∷ (word ++ 32 ∷ (name ++ 32 ∷ other))))
      ≡ Some (command.Turn t (turns.Begin (named.Wait other timed) name))
  two_back word timed name other free read named_so named_too =
      ap command_of (begins (word ++ 32 ∷ (name ++ 32 ∷ other)) ∙ ap (λ l. thread ∷ (codes "begin" ∷ l))
      (words_two word (name ++ 32 ∷ other) (lacks_all 32 word free)
      ∙ ap (λ l. word ∷ l) (words_two name other (name_spaceless name named_so)
      ∙ ap (λ l. name ∷ l) (name_alone other named_too))))
      ∙ calls_back (wait_of word (name_of other)) (named.Wait other timed) name
      (ap (wait_of word) (name_read other named_too) ∙ read) named_so

  turns_back : (names : List (List ℕ)) (x : Turn) → AreNamed names x
      → meaning (step_text names (record { thread = t; turn = x })) ≡ Some
      (command.Turn t (turn_named names x))
  turns_back names (turn.Begin (call.Mutex l c)) h = one_back (mutex_word c) (named.Mutex c) (name_at names l)
      (mutex_read c) h.0
  turns_back names (turn.Begin (call.RwLock l c)) h = one_back (rwlock_word c) (named.RwLock c)
      (name_at names l) (rwlock_read c) h.0
  turns_back names (turn.Begin (call.Once l c)) h = one_back (once_word c) (named.Once c) (name_at names l)
      (once_read c) h.0
  turns_back names (turn.Begin (call.Semaphore l c)) h = one_back (semaphore_word c) (named.Semaphore c)
      (name_at names l) (semaphore_read c) h.0
  turns_back names (turn.Begin (call.Condvar l (condvar.Notify all))) h =
      one_back (condvar_word (condvar.Notify all)) (named.Notify all) (name_at names l) (notify_read all l)
      h.0
  turns_back names (turn.Begin (call.Condvar l (condvar.Wait m false))) h =
      two_back (codes "wait") false (name_at names l) (name_at names m) refl refl h.0 h.1
  turns_back names (turn.Begin (call.Condvar l (condvar.Wait m true))) h =
      two_back (codes "wait_timed") true (name_at names l) (name_at names m) refl refl h.0 h.1
  turns_back names turn.Go h = plain_back (codes "go") turns.Go refl refl
  turns_back names turn.Spin h = plain_back (codes "spin") turns.Spin refl refl
  turns_back names turn.Late h = plain_back (codes "late") turns.Late refl refl
  turns_back names turn.Ok h = plain_back (codes "ok") turns.Ok refl refl
  turns_back names turn.Err h = plain_back (codes "err") turns.Err refl refl

pub steps_are_read_back : StepsAreReadBack
steps_are_read_back names s below h = turns_back s.thread below names s.turn h
