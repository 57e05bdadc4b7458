-- A chain from which those are taken that a picker picks, one waiter after another.
use Rattle.std.proofs.Common.{ℕ, true, ◌≡◌, ◌≢◌, ◌+◌, ◌≤◌, ◌<◌, List, [], ◌∷◌, ◌++◌, Option, Some, None}
use Rattle.std.proofs.Common.{IfSome, length, refl, sym, ap, subst, ◌∙◌, arith, append_assoc, get_or-set_same}
use Rattle.std.proofs.Common.{length-set}
use Rattle.std.specs.Prelude.{◌==◌, slice_index_or, slice_set}
use Rattle.std.proofs.lemmas.Bool.Decides.{nat_tests}
use Rattle.std.proofs.lemmas.List.{append-nil, set-set, set-get_or}
use Rattle.core_base.specs.declared.picks.Pick.{Pick}
use Rattle.core_base.specs.declared.picks.Pick.TheVariants.{Unpark, Skip, Stop}
use Rattle.core_base.specs.declared.wants.Waiter.{Waiter}
use Rattle.core_base.specs.declared.wants.Want.{Want}
use Rattle.core_base.specs.Lines.{times, line, lines, without, threads_of}
use Rattle.core_base.specs.Picks.{picked, without_picked}
use Rattle.core_base.proofs.Counts.{times_without}
use Rattle.core_base.proofs.Seats.{length_seated}
use Rattle.core_queues.specs.Chains.{bucket_of, rest_after, joined, Chained, IsHashed, chain}
use Rattle.core_queues.proofs.Joined.{line_at, lines_picked}
use Rattle.core_queues.proofs.Parts.{upto, both_parts, upto_more, upto_left}

line_here : (key : ℕ) (w : Waiter) (ys : List Waiter) → w.key ≡ key → line key (w ∷ ys) ≡ w ∷ line key ys
line_here key w ys same = grind (arith, nat_tests)

line_pass : (key : ℕ) (w : Waiter) (ys : List Waiter) → w.key ≢ key → line key (w ∷ ys) ≡ line key ys
line_pass key w ys differ = grind (arith, nat_tests)

test_same : (w : Waiter) (key : ℕ) → w.key ≡ key → (w.key == key) ≡ true
test_same w key same = grind (arith, nat_tests)

module _ {P : Type 0} (answer : P → Want → Pick) (next : P → Want → P) where
  left_pass : (picker : P) (key : ℕ) (w : Waiter) (ys : List Waiter) → w.key ≢ key
      → without_picked answer next picker key (w ∷ ys) ≡ w ∷ without_picked answer next picker key ys
  left_pass picker key w ys differ = grind (arith, nat_tests)

  left_skip : (picker : P) (key : ℕ) (w : Waiter) (ys : List Waiter) → w.key ≡ key → answer picker w.want
      ≡ Skip → without_picked answer next picker key (w ∷ ys) ≡ w ∷ without_picked answer next
      (next picker w.want) key ys
  left_skip picker key w ys same skip = rw (test_same w key same, skip) refl

  left_take : (picker : P) (key : ℕ) (w : Waiter) (ys : List Waiter) → w.key ≡ key → answer picker w.want
      ≡ Unpark → without_picked answer next picker key (w ∷ ys) ≡ without_picked answer next
      (next picker w.want) key ys
  left_take picker key w ys same take = rw (test_same w key same, take) refl

  left_stop : (picker : P) (key : ℕ) (w : Waiter) (ys : List Waiter) → w.key ≡ key → answer picker w.want
      ≡ Stop → without_picked answer next picker key (w ∷ ys) ≡ w ∷ ys
  left_stop picker key w ys same stop = rw (test_same w key same, stop) refl

  -- the waiters that stay
  stays : (picker then : P) (key : ℕ) (before : Option ℕ) (xs : List Waiter) (w : Waiter)
      → ((t : ℕ) → times t xs ≤ 1) → rest_after before xs ≡ w ∷ rest_after (Some w.thread) xs
      → without_picked answer next picker key (w ∷ rest_after (Some w.thread) xs) ≡ w ∷ without_picked answer
      next
      then key (rest_after (Some w.thread) xs) → upto (Some w.thread) xs ++ without_picked answer next
      then key (rest_after (Some w.thread) xs) ≡ upto before xs ++ without_picked answer next picker key
      (rest_after before xs)
  stays picker then key before xs w once is left =
      let rest : List Waiter = without_picked answer next then key (rest_after (Some w.thread) xs) in
      ap (λ (l : List Waiter). l ++ rest) (upto_more before xs w (rest_after (Some w.thread) xs) once is)
      ∙ append_assoc (upto before xs) (w ∷ []) rest
      ∙ ap (λ (l : List Waiter). upto before xs ++ l) (sym left)
      ∙ ap (λ (l : List Waiter). upto before xs ++ without_picked answer next picker key l) (sym is)

  pub passed_waiting : (picker : P) (key : ℕ) (before : Option ℕ) (xs : List Waiter) (w : Waiter)
      → ((t : ℕ) → times t xs ≤ 1) → rest_after before xs ≡ w ∷ rest_after (Some w.thread) xs → w.key ≢ key
      → upto (Some w.thread) xs ++ without_picked answer next picker key (rest_after (Some w.thread) xs)
      ≡ upto before xs ++ without_picked answer next picker key (rest_after before xs)
  passed_waiting picker key before xs w once is differ = stays picker picker key before xs w once is
      (left_pass picker key w (rest_after (Some w.thread) xs) differ)

  pub skipped_waiting : (picker then : P) (key : ℕ) (before : Option ℕ) (xs : List Waiter) (w : Waiter)
      → ((t : ℕ) → times t xs ≤ 1) → rest_after before xs ≡ w ∷ rest_after (Some w.thread) xs → w.key ≡ key
      → answer picker w.want ≡ Skip → then ≡ next picker w.want → upto (Some w.thread) xs ++ without_picked
      answer next then key (rest_after (Some w.thread) xs) ≡ upto before xs ++ without_picked answer next
      picker
      key (rest_after before xs)
  skipped_waiting picker then key before xs w once is same skip is_then =
      rw is_then (stays picker (next picker w.want) key before xs w once is
      (left_skip picker key w (rest_after (Some w.thread) xs) same skip))

  pub taken_waiting : (picker then : P) (key : ℕ) (before : Option ℕ) (xs : List Waiter) (w : Waiter)
      → ((t : ℕ) → times t xs ≤ 1) → rest_after before xs ≡ w ∷ rest_after (Some w.thread) xs → w.key ≡ key
      → answer picker w.want ≡ Unpark → then ≡ next picker w.want → upto before (without w.thread xs)
      ++ without_picked answer next then key (rest_after before (without w.thread xs)) ≡ upto before xs
      ++ without_picked answer next picker key (rest_after before xs)
  taken_waiting picker then key before xs w once is same take is_then =
      let parts = upto_left before xs w (rest_after (Some w.thread) xs) once is in
      rw (is_then, parts.0, parts.1, is) (ap (λ (l : List Waiter). upto before xs ++ l)
      (sym (left_take picker key w (rest_after (Some w.thread) xs) same take)))

  pub stopped_waiting : (picker : P) (key : ℕ) (before : Option ℕ) (xs : List Waiter) (w : Waiter)
      → rest_after before xs ≡ w ∷ rest_after (Some w.thread) xs → w.key ≡ key → answer picker w.want ≡ Stop
      → upto before xs ++ without_picked answer next picker key (rest_after before xs) ≡ xs
  stopped_waiting picker key before xs w is same stop =
      ap (λ (l : List Waiter). upto before xs ++ without_picked answer next picker key l) is
      ∙ ap (λ (l : List Waiter). upto before xs ++ l) (left_stop picker key w (rest_after (Some w.thread) xs)
      same
      stop ∙ sym is)
      ∙ both_parts before xs

  pub ended_waiting : (picker : P) (key : ℕ) (before : Option ℕ) (xs : List Waiter) → rest_after before xs
      ≡ []
      → upto before xs ++ without_picked answer next picker key (rest_after before xs) ≡ xs
  ended_waiting picker key before xs is =
      ap (λ (l : List Waiter). upto before xs ++ without_picked answer next picker key l) is
      ∙ ap (λ (l : List Waiter). upto before xs ++ l) (sym is) ∙ both_parts before xs

  pub passed_taken : (picker : P) (key : ℕ) (before : Option ℕ) (xs : List Waiter) (w : Waiter) (out : List ℕ)
      → rest_after before xs ≡ w ∷ rest_after (Some w.thread) xs → w.key ≢ key → out
      ++ threads_of (picked answer next picker (line key (rest_after (Some w.thread) xs))) ≡ out
      ++ threads_of (picked answer next picker (line key (rest_after before xs)))
  passed_taken picker key before xs w out is differ =
      ap (λ (l : List Waiter). out ++ threads_of (picked answer next picker l))
      (sym (ap (line key) is ∙ line_pass key w (rest_after (Some w.thread) xs) differ))

  picked_skip : (picker : P) (w : Waiter) (l : List Waiter) → answer picker w.want ≡ Skip
      → picked answer next picker (w ∷ l) ≡ picked answer next (next picker w.want) l
  picked_skip picker w l skip = rw (skip, picked) refl

  picked_take : (picker : P) (w : Waiter) (l : List Waiter) → answer picker w.want ≡ Unpark
      → picked answer next picker (w ∷ l) ≡ w ∷ picked answer next (next picker w.want) l
  picked_take picker w l take = rw (take, picked) refl

  picked_stop : (picker : P) (w : Waiter) (l : List Waiter) → answer picker w.want ≡ Stop
      → picked answer next picker (w ∷ l) ≡ []
  picked_stop picker w l stop = rw (stop, picked) refl

  pub skipped_taken : (picker then : P) (key : ℕ) (before : Option ℕ) (xs : List Waiter) (w : Waiter)
      (out : List ℕ) → rest_after before xs ≡ w ∷ rest_after (Some w.thread) xs → w.key ≡ key
      → answer picker w.want
      ≡ Skip → then ≡ next picker w.want
      → out ++ threads_of (picked answer next then (line key (rest_after (Some w.thread) xs))) ≡ out
      ++ threads_of (picked answer next picker (line key (rest_after before xs)))
  skipped_taken picker then key before xs w out is same skip is_then =
      rw is_then (ap (λ (l : List Waiter). out ++ threads_of l)
      (sym (ap (λ (l : List Waiter). picked answer next picker l) (ap (line key) is
      ∙ line_here key w (rest_after (Some w.thread) xs) same)
      ∙ picked_skip picker w (line key (rest_after (Some w.thread) xs)) skip)))

  pub taken_taken : (picker then : P) (key : ℕ) (before : Option ℕ) (xs : List Waiter) (w : Waiter)
      (out more : List ℕ) → ((t : ℕ) → times t xs ≤ 1) → rest_after before xs ≡ w ∷ rest_after (Some w.thread)
      xs
      → w.key ≡ key → answer picker w.want ≡ Unpark → then ≡ next picker w.want → more ≡ out ++ w.thread ∷ []
      → more ++ threads_of (picked answer next then (line key (rest_after before (without w.thread xs))))
      ≡ out
      ++ threads_of (picked answer next picker (line key (rest_after before xs)))
  taken_taken picker then key before xs w out more once is same take is_then is_more =
      let parts = upto_left before xs w (rest_after (Some w.thread) xs) once is in
      let rest : List ℕ = threads_of (picked answer next (next picker w.want)
      (line key (rest_after (Some w.thread) xs))) in
      rw (is_then, parts.1, is_more)
      (append_assoc out (w.thread ∷ []) rest
      ∙ ap (λ (l : List Waiter). out ++ threads_of l)
      (sym (ap (λ (l : List Waiter). picked answer next picker l) (ap (line key) is
      ∙ line_here key w (rest_after (Some w.thread) xs) same)
      ∙ picked_take picker w (line key (rest_after (Some w.thread) xs)) take)))

  pub stopped_taken : (picker : P) (key : ℕ) (before : Option ℕ) (xs : List Waiter) (w : Waiter)
      (out : List ℕ) → rest_after before xs ≡ w ∷ rest_after (Some w.thread) xs → w.key ≡ key
      → answer picker w.want
      ≡ Stop → out ++ threads_of (picked answer next picker (line key (rest_after before xs))) ≡ out
  stopped_taken picker key before xs w out is same stop =
      ap (λ (l : List Waiter). out ++ threads_of l) (ap (λ (l : List Waiter). picked answer next picker l)
      (ap (line key) is ∙ line_here key w (rest_after (Some w.thread) xs) same)
      ∙ picked_stop picker w (line key (rest_after (Some w.thread) xs)) stop)
      ∙ append-nil out

  pub ended_taken : (picker : P) (key : ℕ) (before : Option ℕ) (xs : List Waiter) (out : List ℕ)
      → rest_after before xs ≡ [] → out
      ++ threads_of (picked answer next picker (line key (rest_after before xs)))
      ≡ out
  ended_taken picker key before xs out is =
      ap (λ (l : List Waiter). out ++ threads_of (picked answer next picker (line key l))) is ∙ append-nil out

  -- tells what is left once all was asked
  pub sifted_lines : (picker : P) (q q' : Chained) (key bucket : ℕ) → IsHashed q → IsHashed q'
      → q'.bits ≡ q.bits → bucket ≡ bucket_of q.bits key → bucket < length q.chains → q'.chains
      ≡ slice_set q.chains bucket (chain q' bucket) → chain q' bucket ≡ without_picked answer next picker key
      (chain q bucket) → lines (joined q'.chains) ≡ lines (without_picked answer next picker key
      (joined q.chains))
  sifted_lines picker q q' key bucket hashed hashed' bits is fits chains left =
      lines_picked answer next picker q q' key hashed hashed' bits (subst (λ (b : ℕ). b < length q.chains) is
      fits)
      (chains ∙ ap (slice_set q.chains bucket) left
      ∙ ap (λ (b : ℕ). slice_set q.chains b (without_picked answer next picker key (chain q b))) is)

  pub sifted_taken : (picker : P) (q : Chained) (key bucket : ℕ) (out : List ℕ) → IsHashed q
      → bucket ≡ bucket_of q.bits key → out ++ threads_of
      (picked answer next picker (line key (chain q bucket))) ≡ out ++ threads_of
      (picked answer next picker (line key (joined q.chains)))
  sifted_taken picker q key bucket out hashed is =
      ap (λ (l : List Waiter). out ++ threads_of (picked answer next picker l))
      (ap (λ (b : ℕ). line key (chain q b)) is ∙ sym (line_at q key hashed))

-- a chain that is set again
pub set_again : (cs ds es : List (List Waiter)) (b : ℕ) (ys : List Waiter)
    → ds ≡ slice_set cs b (slice_index_or ds b []) → es ≡ slice_set ds b ys → b < length ds
    → (es ≡ slice_set cs b (slice_index_or es b [])) × (slice_index_or es b [] ≡ ys)
set_again cs ds es b ys first second fits =
    let at : slice_index_or es b [] ≡ ys = ap (λ (l : List (List Waiter)). slice_index_or l b []) second
    ∙ get_or-set_same ds b ys [] fits in (
      second ∙ ap (λ (l : List (List Waiter)). slice_set l b ys) first ∙ set-set cs b (slice_index_or ds b [])
          ys ∙ ap (slice_set cs b) (sym at),
      at,
    )

pub set_first : (cs : List (List Waiter)) (b : ℕ) → cs ≡ slice_set cs b (slice_index_or cs b [])
set_first cs b = sym (set-get_or cs b [])

pub one_shorter : (thread : ℕ) (xs : List Waiter) → 1 ≤ times thread xs → length (without thread xs) + 1
    ≤ length xs
one_shorter thread xs there = omega (arith, length-without thread xs) where
  length-without : (thread : ℕ) (xs : List Waiter) → length xs ≡ length (without thread xs) + times thread xs
  length-without thread [] = refl
  length-without thread (x ∷ xs) = grind (arith, nat_tests, length-without thread xs)

pub chain_fits : (q : Chained) (b : ℕ) → IsHashed q → length (chain q b) ≤ q.capacity
chain_fits q b hashed = length_seated q.capacity (chain q b) (hashed.seated b)

pub falls : (before : Option ℕ) (xs ys : List Waiter) (w : Waiter) → ((t : ℕ) → times t xs ≤ 1)
    → rest_after before xs ≡ w ∷ rest_after (Some w.thread) xs → ys ≡ without w.thread xs
    → length (rest_after before ys)
    < length (rest_after before xs)
falls before xs ys w once is left =
    let parts = upto_left before xs w (rest_after (Some w.thread) xs) once is in
    rw (left, parts.1, is) (omega arith)

-- the one that a thread stands after stays as it leaves
pub still_stands : (before : Option ℕ) (xs : List Waiter) (w : Waiter) → rest_after before xs ≡ w
    ∷ rest_after (Some w.thread) xs → IfSome before (λ b. 1 ≤ times b xs)
    → IfSome before (λ b. 1 ≤ times b (without w.thread xs))
still_stands None xs w is stands = tt
still_stands (Some b) xs w is stands =
    let differ : b ≢ w.thread = λ (k : b ≡ w.thread). longer w (rest_after (Some w.thread) xs)
    (sym (ap (λ (t : ℕ). rest_after (Some t) xs) k) ∙ is) in
    omega (arith, times_without b w.thread xs differ) where
      longer : (w : Waiter) (ys : List Waiter) → ys ≡ w ∷ ys → ⊥
      longer w ys e = let n : length ys ≡ length (w ∷ ys) = ap length e in omega arith

pub as_long : (cs ds : List (List Waiter)) (b : ℕ) (xs : List Waiter) → ds ≡ slice_set cs b xs → b < length cs
    → b < length ds
as_long cs ds b xs is fits = omega (arith, ap length is, length-set cs b xs)
