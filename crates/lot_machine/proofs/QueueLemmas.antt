-- The lines of a world's keys, cut out of one list of waiters.
use Rattle.std.proofs.Common.{ℕ, zero, suc, Bool, true, false, Option, ◌≡◌, ◌≢◌, ◌+◌, ◌<◌, List, [], ◌∷◌}
use Rattle.std.proofs.Common.{◌++◌, length, refl, sym, ap, subst, ◌∙◌, arith, drop, append-nil}
use Rattle.std.specs.Prelude.{map, replicate, slice_set, slice_index_or}
use Rattle.std.proofs.lemmas.Bool.Decides.{nat_tests, Decides-eqb}
use Rattle.core_base.specs.declared.wants.Waiter.{Waiter}
use Rattle.core_base.specs.declared.wants.Want.{Want}
use Rattle.core_base.specs.declared.lock_picker.LockPicker.{LockPicker}
use Rattle.core_base.specs.declared.requeues.Requeue.{Requeue}
use Rattle.core_base.specs.declared.requeues.Requeue.TheVariants as requeue
use Rattle.core_base.specs.Lines.{line, lines, threads_of, waiter, without, without_first, without_key}
use Rattle.core_base.specs.Picks.{without_picked, without_lock_picked, lock_picker, lock_answer, next_picker}
use Rattle.core_base.specs.Requeues.{moved_by, left_by, requeued}
use Rattle.spec_locks.specs.Locks.{Normal, Recursive}
use Rattle.spec_locks.proofs.Picks.{pickers_pick}
use Rattle.std.specs.Prelude.{◌==◌}
use Rattle.std.proofs.lemmas.List.Elements.{filter_passes}
use Rattle.std.proofs.lemmas.List.{length-map, length-append}
use Rattle.lot_machine.specs.Views.{StandUnder}
use Rattle.std.proofs.Common.{length-set}
use Rattle.steps_base.specs.declared.acts.Reply.{Reply}
use Rattle.lot_steps.specs.declared.places.Place.{Place}
use Rattle.lot_machine.specs.Machine.{places_told, lines_from, queues_with_last, queues_without_first}
use Rattle.lot_machine.specs.Machine.{queues_without, left_in_line, moved_under, queues_requeued}

-- the line of a key is the one at its place
pub line_at : (key n i : ℕ) (xs : List Waiter) → i < n → slice_index_or (lines_from key n xs) i []
    ≡ line (key + i) xs
line_at key zero i xs h = absurd (omega arith)
line_at key (suc n) zero xs h = ap (λ k. line k xs) (omega arith)
line_at key (suc n) (suc i) xs h = line_at (suc key) n i xs (omega arith) ∙ ap (λ k. line k xs) (omega arith)

pub length-lines : (key n : ℕ) (xs : List Waiter) → length (lines_from key n xs) ≡ n
length-lines key zero xs = refl
length-lines key (suc n) xs = ap suc (length-lines (suc key) n xs)

-- lists with the same lines are cut alike
pub lines_same : (key n : ℕ) (xs ys : List Waiter) → lines xs ≡ lines ys → lines_from key n xs
    ≡ lines_from key n ys
lines_same key zero xs ys e = refl
lines_same key (suc n) xs ys e = let h : line key xs ≡ line key ys = ap (λ (f : ℕ → List Waiter). f key) e
    in let t = lines_same (suc key) n xs ys e in cc

pub lines_nobody : (key n : ℕ) → lines_from key n [] ≡ replicate n []
lines_nobody key zero = refl
lines_nobody key (suc n) = ap (λ l. [] ∷ l) (lines_nobody (suc key) n)

line_without : (key t : ℕ) (xs : List Waiter) → line key (without t xs) ≡ without t (line key xs)
line_without key t [] = refl
line_without key t (x ∷ xs) = grind (arith, nat_tests, line_without key t xs)

lines_without : (key n t : ℕ) (xs : List Waiter) → lines_from key n (without t xs) ≡ map (without t)
    (lines_from key n xs)
lines_without key zero t xs = refl
lines_without key (suc n) t xs = let h = line_without key t xs in let more = lines_without (suc key) n t xs
    in cc

line_append : (key t : ℕ) (wanted : Want) (xs : List Waiter) → line key (xs ++ waiter key t wanted ∷ [])
    ≡ line key xs ++ waiter key t wanted ∷ []
line_append key t wanted [] = grind (arith, nat_tests)
line_append key t wanted (x ∷ xs) = grind (arith, nat_tests, line_append key t wanted xs)

line_append_other : (k key t : ℕ) (wanted : Want) (xs : List Waiter) → key ≢ k
    → line k (xs ++ waiter key t wanted ∷ []) ≡ line k xs
line_append_other k key t wanted [] ne = grind (arith, nat_tests)
line_append_other k key t wanted (x ∷ xs) ne =
    grind (arith, nat_tests, line_append_other k key t wanted xs ne)

lines_append_below : (from n key t : ℕ) (wanted : Want) (xs : List Waiter) → key < from
    → lines_from from n (xs ++ waiter key t wanted ∷ []) ≡ lines_from from n xs
lines_append_below from zero key t wanted xs h = refl
lines_append_below from (suc n) key t wanted xs h =
    let ne : key ≢ from = omega arith in
    let here = line_append_other from key t wanted xs ne in
    let more = lines_append_below (suc from) n key t wanted xs (omega arith) in
    cc

lines_append : (from n i key t : ℕ) (wanted : Want) (xs : List Waiter) → i < n → key ≡ from + i
    → lines_from from n (xs ++ waiter key t wanted ∷ []) ≡ slice_set (lines_from from n xs) i
    (slice_index_or (lines_from from n xs) i [] ++ waiter key t wanted ∷ [])
lines_append from zero i key t wanted xs h e = absurd (omega arith)
lines_append from (suc n) zero key t wanted xs h e =
    let same : key ≡ from = omega arith in
    let here : line from (xs ++ waiter key t wanted ∷ []) ≡ line from xs ++ waiter key t wanted ∷ [] =
    subst (λ k. line from (xs ++ waiter k t wanted ∷ []) ≡ line from xs ++ waiter k t wanted ∷ [])
    (sym same) (line_append from t wanted xs) in
    let more = lines_append_below (suc from) n key t wanted xs (omega arith) in
    cc
lines_append from (suc n) (suc i) key t wanted xs h e =
    let ne : key ≢ from = omega arith in
    let here = line_append_other from key t wanted xs ne in
    let more = lines_append (suc from) n i key t wanted xs (omega arith) (omega arith) in
    cc

-- tells what an append does to the lines
pub lines_appended : (n key t : ℕ) (wanted : Want) (xs ys : List Waiter) → key < n → lines ys
    ≡ lines (without t xs ++ waiter key t wanted ∷ []) → lines_from 0 n ys ≡ queues_with_last
    (lines_from 0 n xs) key t wanted
lines_appended n key t wanted xs ys h e =
    lines_same 0 n ys (without t xs ++ waiter key t wanted ∷ []) e
    ∙ lines_append 0 n key key t wanted (without t xs) h (omega arith)
    ∙ ap (λ l. slice_set l key (slice_index_or l key [] ++ waiter key t wanted ∷ [])) (lines_without 0 n t xs)

line_first : (key : ℕ) (xs : List Waiter) → line key (without_first key xs) ≡ drop 1 (line key xs)
line_first key [] = refl
line_first key (x ∷ xs) = grind (arith, nat_tests, line_first key xs)

line_first_other : (k key : ℕ) (xs : List Waiter) → key ≢ k → line k (without_first key xs) ≡ line k xs
line_first_other k key [] ne = refl
line_first_other k key (x ∷ xs) ne = grind (arith, nat_tests, line_first_other k key xs ne)

lines_first_below : (from n key : ℕ) (xs : List Waiter) → key < from
    → lines_from from n (without_first key xs) ≡ lines_from from n xs
lines_first_below from zero key xs h = refl
lines_first_below from (suc n) key xs h =
    let ne : key ≢ from = omega arith in
    let here = line_first_other from key xs ne in
    let more = lines_first_below (suc from) n key xs (omega arith) in
    cc

lines_first : (from n i key : ℕ) (xs : List Waiter) → i < n → key ≡ from + i
    → lines_from from n (without_first key xs) ≡ slice_set (lines_from from n xs) i
    (drop 1 (slice_index_or (lines_from from n xs) i []))
lines_first from zero i key xs h e = absurd (omega arith)
lines_first from (suc n) zero key xs h e =
    let same : key ≡ from = omega arith in
    let here : line from (without_first key xs) ≡ drop 1 (line from xs) =
    subst (λ k. line from (without_first k xs) ≡ drop 1 (line from xs)) (sym same) (line_first from xs) in
    let more = lines_first_below (suc from) n key xs (omega arith) in
    cc
lines_first from (suc n) (suc i) key xs h e =
    let ne : key ≢ from = omega arith in
    let here = line_first_other from key xs ne in
    let more = lines_first (suc from) n i key xs (omega arith) (omega arith) in
    cc

-- tells what the taking of a first does to the lines
pub lines_taken : (n key : ℕ) (xs ys : List Waiter) → key < n → lines ys ≡ lines (without_first key xs)
    → lines_from 0 n ys ≡ queues_without_first (lines_from 0 n xs) key
lines_taken n key xs ys h e = lines_same 0 n ys (without_first key xs) e ∙ lines_first 0 n key key xs h
    (omega arith)

pub line_here : (n key : ℕ) (xs : List Waiter) → key < n → slice_index_or (lines_from 0 n xs) key []
    ≡ line key xs
line_here n key xs h = line_at 0 n key xs h ∙ ap (λ k. line k xs) (omega arith)

-- each thread that stands in a line has its key
pub line_keyed : (key : ℕ) (xs : List Waiter) → StandUnder key (line key xs)
line_keyed key xs = λ k d h. (Decides-eqb (slice_index_or (line key xs) k d).key key).0
    (filter_passes (λ (x : Waiter). x.key == key) xs k d h)

-- tells what a removal does to the lines
pub lines_removed : (n t : ℕ) (xs ys : List Waiter) → lines ys ≡ lines (without t xs) → lines_from 0 n ys
    ≡ queues_without (lines_from 0 n xs) t
lines_removed n t xs ys e = lines_same 0 n ys (without t xs) e ∙ lines_without 0 n t xs

-- ---------------------------------------------------------------- where the line of one key alone changes

lines_else : (from n key : ℕ) (xs ys : List Waiter) → key < from → ((k : ℕ) → k ≢ key → line k ys ≡ line k xs)
    → lines_from from n ys ≡ lines_from from n xs
lines_else from zero key xs ys h others = refl
lines_else from (suc n) key xs ys h others =
    let here = others from (λ e. omega arith) in
    let more = lines_else (suc from) n key xs ys (omega arith) others in
    cc

lines_one : (from n i key : ℕ) (xs ys : List Waiter) → i < n → key ≡ from + i
    → ((k : ℕ) → k ≢ key → line k ys ≡ line k xs)
    → lines_from from n ys ≡ slice_set (lines_from from n xs) i (line key ys)
lines_one from zero i key xs ys h e others = absurd (omega arith)
lines_one from (suc n) zero key xs ys h e others =
    let same : key ≡ from = omega arith in
    let here : line from ys ≡ line key ys = ap (λ k. line k ys) (sym same) in
    let more = lines_else (suc from) n key xs ys (omega arith) others in
    cc
lines_one from (suc n) (suc i) key xs ys h e others =
    let here = others from (λ f. omega arith) in
    let more = lines_one (suc from) n i key xs ys (omega arith) (omega arith) others in
    cc

line_in : (k : ℕ) (xs ys : List Waiter) → lines ys ≡ lines xs → line k ys ≡ line k xs
line_in k xs ys e = ap (λ (f : ℕ → List Waiter). f k) e

line_gone : (key : ℕ) (xs : List Waiter) → line key (without_key key xs) ≡ []
line_gone key [] = refl
line_gone key (x ∷ xs) = grind (arith, nat_tests, line_gone key xs)

line_gone_other : (k key : ℕ) (xs : List Waiter) → k ≢ key → line k (without_key key xs) ≡ line k xs
line_gone_other k key [] ne = refl
line_gone_other k key (x ∷ xs) ne = grind (arith, nat_tests, line_gone_other k key xs ne)

-- tells what the taking of all does to the lines
pub lines_all_taken : (n key : ℕ) (xs ys : List Waiter) → key < n → lines ys ≡ lines (without_key key xs)
    → lines_from 0 n ys ≡ slice_set (lines_from 0 n xs) key []
lines_all_taken n key xs ys h e =
    lines_one 0 n key key xs ys h (omega arith) (λ k ne. line_in k (without_key key xs) ys e
    ∙ line_gone_other k key xs ne)
    ∙ ap (λ q. slice_set (lines_from 0 n xs) key q) (line_in key (without_key key xs) ys e ∙ line_gone key xs)

line_picked : (picker : LockPicker) (key : ℕ) (xs : List Waiter)
    → line key (without_picked lock_answer next_picker picker key xs) ≡ without_picked lock_answer next_picker
    picker key (line key xs)
line_picked picker key [] = refl
line_picked picker key (x ∷ xs) = grind (
  arith,
  nat_tests,
  line_picked picker key xs,
  line_picked (next_picker picker x.want) key xs,
)

line_picked_other : (start : Option Want) (recursive : Bool) (k key : ℕ) (xs : List Waiter) → k ≢ key
    → line k (without_lock_picked start recursive key xs) ≡ line k xs
line_picked_other start true k key xs ne = (pickers_pick Recursive start key xs).elsewhere k ne
line_picked_other start false k key xs ne = (pickers_pick Normal start key xs).elsewhere k ne

-- the line of the key itself
pub line_then_picked : (key : ℕ) (start : Option Want) (recursive : Bool) (xs ys : List Waiter)
    → lines ys ≡ lines (without_lock_picked start recursive key xs) → line key ys ≡ without_lock_picked start
    recursive key (line key xs)
line_then_picked key start recursive xs ys e = line_in key (without_lock_picked start recursive key xs) ys e
    ∙ line_picked (lock_picker start recursive) key xs

-- tells what the taking of those that are picked does to the lines
pub lines_picked : (n key : ℕ) (start : Option Want) (recursive : Bool) (xs ys : List Waiter) → key < n
    → lines ys ≡ lines (without_lock_picked start recursive key xs)
    → lines_from 0 n ys ≡ slice_set (lines_from 0 n xs) key (without_lock_picked start recursive key
    (line key xs))
lines_picked n key start recursive xs ys h e =
    lines_one 0 n key key xs ys h (omega arith)
    (λ k ne. line_in k (without_lock_picked start recursive key xs) ys e
    ∙ line_picked_other start recursive k key xs ne)
    ∙ ap (λ q. slice_set (lines_from 0 n xs) key q) (line_then_picked key start recursive xs ys e)

-- ---------------------------------------------------------------- a requeue

line_both : (k : ℕ) (xs ys : List Waiter) → line k (xs ++ ys) ≡ line k xs ++ line k ys
line_both k [] ys = refl
line_both k (x ∷ xs) ys = grind (arith, nat_tests, line_both k xs ys)

line_moved : (key : ℕ) (q : List Waiter) → line key (moved_under key q) ≡ moved_under key q
line_moved key [] = refl
line_moved key (x ∷ q) = grind (arith, nat_tests, line_moved key q)

line_moved_other : (k key : ℕ) (q : List Waiter) → k ≢ key → line k (moved_under key q) ≡ []
line_moved_other k key [] ne = refl
line_moved_other k key (x ∷ q) ne = grind (arith, nat_tests, line_moved_other k key q ne)

lines_left : (n from : ℕ) (how : Requeue) (xs : List Waiter) → from < n → lines_from 0 n (left_by how from xs)
    ≡ slice_set (lines_from 0 n xs) from (left_in_line how (line from xs))
lines_left n from requeue.One xs h = lines_first 0 n from from xs h (omega arith)
    ∙ ap (λ q. slice_set (lines_from 0 n xs) from (drop 1 q)) (line_here n from xs h)
lines_left n from requeue.All xs h = lines_all_taken n from xs (without_key from xs) h refl
lines_left n from requeue.TakeOneMoveRest xs h = lines_all_taken n from xs (without_key from xs) h
    refl

-- tells what it does to the lines
pub lines_requeued : (n from to : ℕ) (how : Requeue) (xs ys : List Waiter) → from < n → to < n
    → lines ys ≡ lines (requeued how from to xs) → lines_from 0 n ys ≡ queues_requeued (lines_from 0 n xs)
    from to how
lines_requeued n from to how xs ys hf ht e =
    let left : lines_from 0 n (left_by how from xs) ≡ slice_set (lines_from 0 n xs) from
    (left_in_line how (line from xs)) = lines_left n from how xs hf in
    rw (line_here n from xs hf, ← left, line_here n to (left_by how from xs) ht)
    (lines_one 0 n to to (left_by how from xs) ys ht (omega arith) elsewhere
    ∙ ap (λ q. slice_set (lines_from 0 n (left_by how from xs)) to q) here)
  where
    elsewhere : (k : ℕ) → k ≢ to → line k ys ≡ line k (left_by how from xs)
    elsewhere k ne = line_in k (requeued how from to xs) ys e ∙ line_both k (left_by how from xs)
        (moved_under to (moved_by how (line from xs))) ∙ ap (λ q. line k (left_by how from xs) ++ q)
        (line_moved_other k to (moved_by how (line from xs)) ne) ∙ append-nil (line k (left_by how from xs))

    here : line to ys ≡ line to (left_by how from xs) ++ moved_under to (moved_by how (line from xs))
    here = line_in to (requeued how from to xs) ys e ∙ line_both to (left_by how from xs)
        (moved_under to (moved_by how (line from xs))) ∙ ap (λ q. line to (left_by how from xs) ++ q)
        (line_moved to (moved_by how (line from xs)))

-- the waiters left in the line
pub line_left : (from to : ℕ) (how : Requeue) (xs ys : List Waiter) → from ≢ to
    → lines ys ≡ lines (requeued how from to xs) → line from ys ≡ left_in_line how (line from xs)
line_left from to how xs ys ne e = line_in from (requeued how from to xs) ys e
    ∙ line_both from (left_by how from xs) (moved_under to (moved_by how (line from xs)))
    ∙ ap (λ q. line from (left_by how from xs) ++ q) (line_moved_other from to (moved_by how (line from xs))
    ne) ∙ append-nil (line from (left_by how from xs)) ∙ stay how
  where
    stay : (how : Requeue) → line from (left_by how from xs) ≡ left_in_line how (line from xs)
    stay requeue.One = line_first from xs
    stay requeue.All = line_gone from xs
    stay requeue.TakeOneMoveRest = line_gone from xs

-- ---------------------------------------------------------------- a line that is listed

-- there is room for each that isn't listed yet
pub room_for : (xs ys : List ℕ) (x : Waiter) (rest q all : List Waiter) → xs ++ threads_of q ≡ ys
    ++ threads_of all → q ≡ x ∷ rest → length xs < length ys + length all
room_for xs ys x rest q all e f =
    let both : length (xs ++ threads_of q) ≡ length (ys ++ threads_of all) = ap length e in
    let left : length (xs ++ threads_of q) ≡ length xs + length (threads_of q) =
    length-append xs (threads_of q) in
    let right : length (ys ++ threads_of all) ≡ length ys + length (threads_of all) =
    length-append ys (threads_of all) in
    let of_q : length (threads_of q) ≡ length q = length-map q (λ y. y.thread) in
    let of_all : length (threads_of all) ≡ length all = length-map all (λ y. y.thread) in
    let one : length q ≡ suc (length rest) = ap length f in
    omega arith

-- ---------------------------------------------------------------- threads that are told something

-- both lists are as long
pub told_count : (reply : Reply) (us : List ℕ) (ps : List Place) → length (places_told reply us ps)
    ≡ length ps
told_count reply [] ps = refl
told_count reply (u ∷ us) ps = told_count reply us _ ∙ length-set ps u _
