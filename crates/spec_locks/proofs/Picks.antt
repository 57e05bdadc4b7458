-- The picker of a reader-writer lock's main queue takes those that the abstract lock says.
use Rattle.std.proofs.Common.{ℕ, true, false, suc, Option, ◌≡◌, ◌≢◌, List, [], ◌∷◌, ◌++◌, refl, arith, take}
use Rattle.std.proofs.Common.{drop, append-nil, ap, ◌∙◌}
use Rattle.std.proofs.lemmas.Bool.Decides.{nat_tests}
use Rattle.std.proofs.Math.Seq.{take-length, drop-length, take-nil, drop-nil}
use Rattle.std.specs.Prelude.{map}
use Rattle.core_base.specs.declared.lock_picker.LockPicker.{LockPicker}
use Rattle.core_base.specs.declared.lock_picker.LockPicker.TheVariants.{Anyone, Readers, Nobody}
use Rattle.core_base.specs.declared.wants.Waiter.{Waiter}
use Rattle.core_base.specs.declared.wants.Want.{Want}
use Rattle.core_base.specs.declared.wants.Want.TheVariants.{Exclusive}
use Rattle.core_base.specs.Lines.{line}
use Rattle.core_base.specs.Picks.{picked, without_picked, lock_answer, next_picker, lock_picker}
use Rattle.spec_locks.specs.Locks.{Queued, Sort, keeps_more, sharers, others, ahead_of_unshared, is_recursive}
use Rattle.spec_locks.specs.Locks.{wants_shared, front_of, stop_of}
use Rattle.spec_locks.specs.Locks as locks
use Rattle.spec_locks.specs.Picks.{queued_of}
use Rattle.spec_locks.specs.Picks.{PickersPickAsTheLocksSay, queue_under}

-- ---------------------------------------------------------------- the abstract lock's words

ahead_of_more : (x : Queued) (q : List Queued) → wants_shared x.want ≡ false → ahead_of_unshared (x ∷ q) ≡ 0
ahead_of_more x q more = grind arith

after_sharer : (x : Queued) (q : List Queued) → wants_shared x.want ≡ true → ahead_of_unshared (x ∷ q)
    ≡ suc (ahead_of_unshared q)
after_sharer x q shares = grind arith

-- where more than a shared right is kept, each thread that wants to share is picked
sharers_from : (q : List Queued) → take (ahead_of_unshared q) q ++ sharers (drop (ahead_of_unshared q) q)
    ≡ sharers q
sharers_from [] = refl
sharers_from (x ∷ q) = grind (arith, ahead_of_more x q, after_sharer x q, sharers_from q)

others_from : (q : List Queued) → others (drop (ahead_of_unshared q) q) ≡ others q
others_from [] = refl
others_from (x ∷ q) = grind (arith, ahead_of_more x q, after_sharer x q, others_from q)

keeper_picked : (sort : Sort) (start : Option Want) (q : List Queued) → keeps_more start ≡ true
    → locks.picked sort start q ≡ sharers q
keeper_picked sort start q more = grind (arith, take-length q, sharers_from q)

keeper_unpicked : (sort : Sort) (start : Option Want) (q : List Queued) → keeps_more start ≡ true
    → locks.unpicked sort start q ≡ others q
keeper_unpicked sort start q more = grind (
  arith,
  take-length q,
  drop-length q,
  others_from q,
  append-nil (others q),
)

-- each thread that wants to share ahead of the others is picked
abbrev part : ℕ → ℕ → List Queued → List Queued
part m n q = take m (take n q) ++ sharers (drop m (take n q))

front_more : (start : Option Want) (x : Queued) (q : List Queued) → wants_shared x.want ≡ true
    → front_of start (x ∷ q) ≡ suc (front_of start q)
front_more start x q shares = grind arith

stop_more : (sort : Sort) (start : Option Want) (x : Queued) (q : List Queued) → wants_shared x.want ≡ true
    → stop_of sort start (x ∷ q) ≡ suc (stop_of sort start q)
stop_more sort start x q shares = grind arith

sharer_picked : (sort : Sort) (start : Option Want) (x : Queued) (q : List Queued) → wants_shared x.want
    ≡ true → locks.picked sort start (x ∷ q) ≡ x ∷ locks.picked sort start q
sharer_picked sort start x q shares =
    ap (λ m. part m (stop_of sort start (x ∷ q)) (x ∷ q)) (front_more start x q shares)
    ∙ ap (λ n. part (suc (front_of start q)) n (x ∷ q)) (stop_more sort start x q shares)

sharer_unpicked : (sort : Sort) (start : Option Want) (x : Queued) (q : List Queued) → wants_shared x.want
    ≡ true → locks.unpicked sort start (x ∷ q) ≡ locks.unpicked sort start q
sharer_unpicked sort start x q shares = grind arith

-- a writer is picked, and nobody after it
writer_picked : (sort : Sort) (start : Option Want) (x : Queued) (q : List Queued) → x.want ≡ Exclusive
    → is_recursive sort ≡ false → keeps_more start ≡ false → locks.picked sort start (x ∷ q) ≡ x ∷ []
writer_picked sort start x q writes normal none = grind arith

writer_unpicked : (sort : Sort) (start : Option Want) (x : Queued) (q : List Queued) → x.want ≡ Exclusive
    → is_recursive sort ≡ false → keeps_more start ≡ false → locks.unpicked sort start (x ∷ q) ≡ q
writer_unpicked sort start x q writes normal none = grind arith

-- another that wants more is picked, and then each thread that wants to share
other_picked : (sort : Sort) (start : Option Want) (x : Queued) (q : List Queued) → wants_shared x.want
    ≡ false → (x.want ≡ Exclusive → is_recursive sort ≡ true) → keeps_more start ≡ false
    → locks.picked sort start (x ∷ q) ≡ x ∷ sharers q
other_picked sort start x q more passed none = grind (arith, take-length q)

other_unpicked : (sort : Sort) (start : Option Want) (x : Queued) (q : List Queued) → wants_shared x.want
    ≡ false → (x.want ≡ Exclusive → is_recursive sort ≡ true) → keeps_more start ≡ false
    → locks.unpicked sort start (x ∷ q) ≡ others q
other_unpicked sort start x q more passed none = grind (
  arith,
  take-length q,
  drop-length q,
  append-nil (others q),
)

-- ---------------------------------------------------------------- the picker

readers_taken : (xs : List Waiter) → map queued_of (picked lock_answer next_picker Readers xs)
    ≡ sharers (map queued_of xs)
readers_taken [] = refl
readers_taken (x ∷ xs) = grind (arith, readers_taken xs)

readers_left : (key : ℕ) (xs : List Waiter)
    → queue_under key (without_picked lock_answer next_picker Readers key xs) ≡ others (queue_under key xs)
readers_left key [] = refl
readers_left key (x ∷ xs) = grind (arith, nat_tests, readers_left key xs)

nobody_left : (key : ℕ) (xs : List Waiter) → without_picked lock_answer next_picker Nobody key xs ≡ xs
nobody_left key [] = refl
nobody_left key (x ∷ xs) = grind (arith, nobody_left key xs)

nobody_taken : (xs : List Waiter) → picked lock_answer next_picker Nobody xs ≡ []
nobody_taken [] = refl
nobody_taken (x ∷ xs) = refl

anyone_taken : (sort : Sort) (start : Option Want) (xs : List Waiter) → keeps_more start ≡ false
    → map queued_of (picked lock_answer next_picker (Anyone (is_recursive sort)) xs) ≡ locks.picked sort start
    (map queued_of xs)
anyone_taken sort start [] none = grind (arith, take-nil {A = Queued}, drop-nil {A = Queued})
anyone_taken sort start (x ∷ xs) none =
    let q = map queued_of xs in
    grind (
      arith,
      sharer_picked sort start (queued_of x) q,
      writer_picked sort start (queued_of x) q,
      other_picked sort start (queued_of x) q,
      readers_taken xs,
      nobody_taken xs,
      anyone_taken sort start xs none,
    )

anyone_left : (sort : Sort) (start : Option Want) (key : ℕ) (xs : List Waiter) → keeps_more start ≡ false
    → queue_under key (without_picked lock_answer next_picker (Anyone (is_recursive sort)) key xs)
    ≡ locks.unpicked sort start (queue_under key xs)
anyone_left sort start key [] none = grind (arith, take-nil {A = Queued}, drop-nil {A = Queued})
anyone_left sort start key (x ∷ xs) none =
    let q = queue_under key xs in
    grind (
      arith,
      nat_tests,
      sharer_unpicked sort start (queued_of x) q,
      writer_unpicked sort start
          (queued_of x) q,
      other_unpicked sort start (queued_of x) q,
      readers_left key xs,
      nobody_left key xs,
      anyone_left sort start key xs none,
    )

-- nobody of another line is touched, whatever the picker
others_left : (picker : LockPicker) (k key : ℕ) (xs : List Waiter) → k ≢ key
    → line k (without_picked lock_answer next_picker picker key xs) ≡ line k xs
others_left picker k key [] ne = refl
others_left picker k key (x ∷ xs) ne = grind (
  arith,
  nat_tests,
  others_left picker k key xs ne,
  others_left (next_picker picker x.want) k key xs ne,
)

pub pickers_pick : PickersPickAsTheLocksSay
pickers_pick sort start key waiters = record {
  taken = grind (
    arith,
    anyone_taken sort start (line key waiters),
    readers_taken (line key waiters),
    keeper_picked sort start (queue_under key waiters),
  );
  left = grind (
    arith,
    anyone_left sort start key waiters,
    readers_left key waiters,
    keeper_unpicked sort start (queue_under key waiters),
  );
  elsewhere = λ k ne. others_left (lock_picker start (is_recursive sort)) k key waiters ne;
}
