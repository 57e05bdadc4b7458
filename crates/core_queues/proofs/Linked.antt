-- The records stay in chains as one thread leaves or comes, and these are what is shown.
use Rattle.std.proofs.Common.{ℕ, zero, suc, ◌≡◌, ◌≢◌, ◌≤◌, ◌<◌, inl, inr, List, [], ◌∷◌, ◌++◌, Option, Some}
use Rattle.std.proofs.Common.{None, length, refl, sym, ap, subst, ◌∙◌, arith, get_or-set_other}
use Rattle.std.proofs.Common.{get_or-set_same, length-set, map}
use Rattle.std.specs.Prelude.{slice_index_or, slice_set}
use Rattle.std.proofs.lemmas.Bool.{cases_eq, cases_lt}
use Rattle.std.proofs.lemmas.Bool.Decides.{nat_tests}
use Rattle.std.proofs.lemmas.List.{get_or_past, length-map, ext_get_or, set_past}
use Rattle.core_base.specs.declared.wants.Waiter.{Waiter}
use Rattle.core_base.specs.declared.wants.Want.{Want}
use Rattle.core_base.specs.Lines.{waiter, times, without, queued_under}
use Rattle.core_base.proofs.Counts.{times_append, times_without, times_gone}
use Rattle.core_base.proofs.Seats.{length_seated}
use Rattle.core_queues.specs.Chains.{bucket_of, rest_after, joined, AreOfBucket, IsHashed}
use Rattle.core_queues.specs.Links.{standing_record, ends, record_of, next_in, key_of_record, next_of}
use Rattle.core_queues.specs.Links.{leading, with_next, Leads, EndsAt, first_in, chain_from, chains_of}
use Rattle.core_queues.specs.Links.{IsLinked, unlinked_records, unlinked_ends, linked_records, linked_ends}
use Rattle.core_queues.specs.declared.records.Record.{Record}
use Rattle.core_queues.specs.declared.records.Ends.{Ends}
use Rattle.core_queues.proofs.Leads.{times_here, times_more, times_later, nobody_without, leads_kept, seated}
use Rattle.core_queues.proofs.Leads.{chain_is}
use Rattle.core_queues.proofs.Changes.{IsAfter, unlinked_leads, unlinked_end, linked_leads, linked_end}

at_map : {A B : Type 0} (f : A → B) (xs : List A) (i : ℕ) (d : A) (e : B) → i < length xs
    → slice_index_or (map f xs) i e ≡ f (slice_index_or xs i d)
at_map f [] i d e h = absurd (omega arith)
at_map f (x ∷ xs) zero d e h = refl
at_map f (x ∷ xs) (suc i) d e h = at_map f xs i d e (omega arith)

-- the chains are those that the records show
pub shown_is : (records : List (Option Record)) (buckets : List (Option Ends)) (bits : ℕ)
    (chains : List (List Waiter)) → IsLinked records buckets bits chains → chains_of records buckets ≡ chains
shown_is records buckets bits chains linked =
    let f = λ (e : Option Ends). chain_from records (length records) (first_in e) in
    let long : length (map f buckets) ≡ length buckets = length-map buckets f in
    ext_get_or [] (chains_of records buckets) chains (long ∙ sym linked.each)
    (λ i below.
    let fits : i < length buckets = omega arith in
    at_map f buckets i None [] fits
    ∙ chain_is records (length records) (first_in (slice_index_or buckets i None))
    (slice_index_or chains i [])
    (length_seated (length records) (slice_index_or chains i [])
    (seated records (first_in (slice_index_or buckets i None)) (slice_index_or chains i [])
    (linked.leads i)))
    (linked.leads i))

-- a thread that stands has a key
pub has_key : (records : List (Option Record)) (from : Option ℕ) (xs : List Waiter) (thread : ℕ)
    → Leads records from xs → 1 ≤ times thread xs → queued_under thread xs
    ≡ key_of_record (record_of records thread)
has_key records from [] thread a h = absurd (omega arith)
has_key records from (x ∷ xs) thread a h = elim (cases_eq x.thread thread) [
  | inl same ↦
      let here : key_of_record (record_of records thread) ≡ Some x.key =
      ap key_of_record (ap (record_of records) (sym same) ∙ a.1) in
      let first : queued_under thread (x ∷ xs) ≡ Some x.key = grind (arith, nat_tests) in
      first ∙ sym here
  | inr differ ↦
      let later : queued_under thread (x ∷ xs) ≡ queued_under thread xs = grind (arith, nat_tests) in
      later ∙ has_key records (next_of records x.thread) xs thread a.2 (times_later thread x xs differ h)
]

-- nobody stands in two chains
pub apart : (records : List (Option Record)) (buckets : List (Option Ends)) (bits : ℕ)
    (chains : List (List Waiter)) (b c thread : ℕ) → IsLinked records buckets bits chains → 1
    ≤ times thread (slice_index_or chains b []) → 1 ≤ times thread (slice_index_or chains c []) → b ≡ c
apart records buckets bits chains b c thread linked here there = go (record_of records thread) refl where
  go : (r : Option Record) → record_of records thread ≡ r → b ≡ c
  go None none = absurd (omega (
    arith,
    nobody_without records (first_in (slice_index_or buckets b None))
        (slice_index_or chains b []) thread none (linked.leads b),
  ))
  go (Some r) is = sym (linked.own_bucket b thread r.key (ap key_of_record is) here)
      ∙ linked.own_bucket c thread r.key (ap key_of_record is) there

-- ---------------------------------------------------------------- one chain changes

-- tells what is asked of the records and the chain that come of it
pub record IsChange (records others : List (Option Record)) (bits : ℕ) (chains : List (List Waiter)) (b : ℕ)
    (had : Option Ends) (xs : List Waiter) : Type 0 where
  pub leads : Leads others (first_in had) xs
  pub ends : EndsAt others had xs
  pub else : (thread c : ℕ) → c ≢ b → 1 ≤ times thread (slice_index_or chains c []) → record_of others thread
      ≡ record_of records thread
  pub own : (thread key : ℕ) → key_of_record (record_of others thread) ≡ Some key → 1 ≤ times thread xs
      → bucket_of bits key ≡ b
  pub stands : (thread key : ℕ) → key_of_record (record_of others thread) ≡ Some key → bucket_of bits key ≡ b
      → 1 ≤ times thread xs
  pub kept : (thread key : ℕ) → key_of_record (record_of others thread) ≡ Some key → bucket_of bits key ≢ b
      → key_of_record (record_of records thread) ≡ Some key

ends_kept : (records others : List (Option Record)) (had : Option Ends) (xs : List Waiter)
    → ((thread : ℕ) → 1 ≤ times thread xs → record_of others thread ≡ record_of records thread)
    → EndsAt records had xs → EndsAt others had xs
ends_kept records others None xs same h = h
ends_kept records others (Some e) xs same h = (h.0, ap next_in (same e.last h.0) ∙ h.1)

pub changed : (records others : List (Option Record)) (buckets : List (Option Ends)) (bits : ℕ)
    (chains : List (List Waiter)) (b : ℕ) (had : Option Ends) (xs : List Waiter)
    → IsLinked records buckets bits chains → b < length buckets → IsChange records others bits chains b had xs
    → IsLinked others (slice_set buckets b had) bits (slice_set chains b xs)
changed records others buckets bits chains b had xs linked fits change =
    let within : b < length chains = omega (arith, linked.each) in
    let at_buckets : slice_index_or (slice_set buckets b had) b None ≡ had =
    get_or-set_same buckets b had None fits in
    let at_chains : slice_index_or (slice_set chains b xs) b [] ≡ xs = get_or-set_same chains b xs [] within
    in
    record {
      as_many = length-set buckets b had ∙ linked.as_many;
      each = length-set chains b xs ∙ linked.each ∙ sym (length-set buckets b had);
      leads = λ c. elim (cases_eq c b) [
        | inl same ↦ rw (same, at_buckets, at_chains) change.leads
        | inr differ ↦ rw (
          get_or-set_other buckets b c had None differ,
          get_or-set_other chains b c xs []
              differ,
        )
            (leads_kept records others _ _ (λ thread. change.else thread c differ) (linked.leads c))
      ];
      ends = λ c. elim (cases_eq c b) [
        | inl same ↦ rw (same, at_buckets, at_chains) change.ends
        | inr differ ↦ rw (
          get_or-set_other buckets b c had None differ,
          get_or-set_other chains b c xs []
              differ,
        )
            (ends_kept records others _ _ (λ thread. change.else thread c differ) (linked.ends c))
      ];
      own_bucket = λ c thread key has stands. elim (cases_eq c b) [
        | inl same ↦ change.own thread key has (subst (λ (l : List Waiter). 1 ≤ times thread l)
            (ap (λ (u : ℕ). slice_index_or (slice_set chains b xs) u []) same ∙ at_chains) stands) ∙ sym same
        | inr differ ↦
            let there : 1 ≤ times thread (slice_index_or chains c []) =
            subst (λ (l : List Waiter). 1 ≤ times thread l) (get_or-set_other chains b c xs [] differ)
            stands in
            linked.own_bucket c thread key (ap key_of_record (sym (change.else thread c differ there)) ∙ has)
            there
      ];
      stands = λ thread key has. elim (cases_eq (bucket_of bits key) b) [
        | inl same ↦ rw (same, at_chains) (change.stands thread key has same)
        | inr differ ↦ rw (get_or-set_other chains b (bucket_of bits key) xs [] differ)
            (linked.stands thread key (change.kept thread key has differ))
      ];
    }

key_leading : (r : Option Record) (next : Option ℕ) → key_of_record (leading r next) ≡ key_of_record r
key_leading None next = refl
key_leading (Some r) next = refl

key_with_next : (records : List (Option Record)) (at : ℕ) (next : Option ℕ) (other : ℕ)
    → key_of_record (record_of (with_next records at next) other) ≡ key_of_record (record_of records other)
key_with_next records at next other = elim (cases_eq other at) [
  | inl same ↦ elim (cases_lt at (length records)) [
    | inl fits ↦ rw same (ap key_of_record (get_or-set_same records at (leading (record_of records at) next)
        None fits) ∙ key_leading (record_of records at) next)
    | inr past ↦ ap (λ (l : List (Option Record)). key_of_record (record_of l other))
        (set_past records at (leading (record_of records at) next) past)
  ]
  | inr differ ↦ ap key_of_record (get_or-set_other records at other (leading (record_of records at) next)
      None differ)
]

-- each record has its key still, but for that of a thread that has left
key_without : (records : List (Option Record)) (before : Option ℕ) (thread other : ℕ) → other ≢ thread
    → key_of_record (record_of (unlinked_records records before thread) other) ≡ key_of_record
    (record_of records other)
key_without records None thread other differ =
    ap key_of_record (get_or-set_other records thread other None None differ)
key_without records (Some before) thread other differ =
    ap key_of_record (get_or-set_other (with_next records before (next_of records thread)) thread other None
    None differ) ∙ key_with_next records before (next_of records thread) other

set_none : (records : List (Option Record)) (thread : ℕ) → record_of (slice_set records thread None) thread
    ≡ None
set_none records thread = elim (cases_lt thread (length records)) [
  | inl fits ↦ get_or-set_same records thread None None fits
  | inr past ↦ get_or_past (slice_set records thread None) thread None
      (omega (arith, length-set records thread None))
]

pub gone : (records : List (Option Record)) (before : Option ℕ) (thread : ℕ)
    → record_of (unlinked_records records before thread) thread ≡ None
gone records None thread = set_none records thread
gone records (Some before) thread = set_none (with_next records before (next_of records thread)) thread

not_gone : (records : List (Option Record)) (before : Option ℕ) (thread other key : ℕ)
    → key_of_record (record_of (unlinked_records records before thread) other) ≡ Some key → other ≢ thread
not_gone records before thread other key has = λ (k : other ≡ thread).
    let e : None ≡ Some key = sym (ap key_of_record (ap (record_of (unlinked_records records before thread)) k
    ∙ gone records before thread)) ∙ has in cc

else_same : (records : List (Option Record)) (before : Option ℕ) (thread other : ℕ) → other ≢ thread
    → ((a : ℕ) → before ≡ Some a → other ≢ a) → record_of (unlinked_records records before thread) other
    ≡ record_of records other
else_same records None thread other differ apart = get_or-set_other records thread other None None differ
else_same records (Some before) thread other differ apart =
    get_or-set_other (with_next records before (next_of records thread)) thread other None None differ
    ∙ get_or-set_other records before other (leading (record_of records before) (next_of records thread)) None
    (apart before refl)

before_stands : (records : List (Option Record)) (e : Ends) (before : Option ℕ) (a thread : ℕ)
    (xs : List Waiter) → before ≡ Some a → IsAfter records e before thread xs → 1 ≤ times a xs
before_stands records e None a thread xs is rest_after = let e : None ≡ Some a = is in absurd cc
before_stands records e (Some before) a thread xs is rest_after = let same : before ≡ a = cc
    in subst (λ (t : ℕ). 1 ≤ times t xs) same rest_after.0

-- a thread that stands after another in a chain leaves it
pub one_leaves : (records : List (Option Record)) (buckets : List (Option Ends)) (bits : ℕ)
    (chains : List (List Waiter)) (b : ℕ) (e : Ends) (before : Option ℕ) (thread : ℕ)
    → IsLinked records buckets bits chains → b < length buckets → slice_index_or buckets b None ≡ Some e
    → IsAfter records e before thread (slice_index_or chains b [])
    → 1 ≤ times thread (slice_index_or chains b []) → IsLinked (unlinked_records records before thread)
    (slice_set buckets b (unlinked_ends e before (next_of records thread))) bits
    (slice_set chains b (without thread (slice_index_or chains b [])))
one_leaves records buckets bits chains b e before thread linked fits is rest_after stands =
    let xs : List Waiter = slice_index_or chains b [] in
    let leads : Leads records (Some e.first) xs = subst (λ (h : Option Ends). Leads records (first_in h) xs)
    is (linked.leads b) in
    let last : EndsAt records (Some e) xs = subst (λ (h : Option Ends). EndsAt records h xs) is
    (linked.ends b) in
    let rest : List (Option Record) = unlinked_records records before thread in
    changed records rest buckets bits chains b (unlinked_ends e before (next_of records thread))
    (without thread xs) linked fits record {
      leads = unlinked_leads records e xs before thread (next_of records thread) refl leads rest_after;
      ends = unlinked_end records e xs before thread (next_of records thread) refl leads last rest_after;
      else = λ other c differ there. else_same records before thread other
          (λ (k : other ≡ thread). differ (apart records buckets bits chains c b other linked there
          (subst (λ (t : ℕ). 1 ≤ times t xs) (sym k) stands)))
          (λ a (i : before ≡ Some a) (k : other ≡ a). differ (apart records buckets bits chains c b other
          linked there (subst (λ (t : ℕ). 1 ≤ times t xs) (sym k) (before_stands records e before a thread
          xs i rest_after))));
      own = λ other key has there.
          let differ : other ≢ thread = λ (k : other ≡ thread). let none : times other (without thread xs)
          ≡ 0 = ap (λ (t : ℕ). times t (without thread xs)) k ∙ times_gone thread xs
          in absurd (omega arith) in
          linked.own_bucket b other key (sym (key_without records before thread other differ) ∙ has)
          (subst (λ (n : ℕ). 1 ≤ n) (times_without other thread xs differ) there);
      stands = λ other key has same.
          let differ : other ≢ thread = not_gone records before thread other key has in
          subst (λ (n : ℕ). 1 ≤ n) (sym (times_without other thread xs differ))
          (subst (λ (c : ℕ). 1 ≤ times other (slice_index_or chains c [])) same
          (linked.stands other key (sym (key_without records before thread other differ) ∙ has)));
      kept = λ other key has other_bucket. sym (key_without records before thread other
          (not_gone records before thread other key has)) ∙ has;
    }

-- ---------------------------------------------------------------- a thread comes

key_with : (records : List (Option Record)) (had : Option Ends) (key thread other : ℕ) (wanted : Want)
    → other ≢ thread → key_of_record (record_of (linked_records records had key thread wanted) other)
    ≡ key_of_record (record_of records other)
key_with records None key thread other wanted differ =
    ap key_of_record (get_or-set_other records thread other (Some (standing_record key wanted None)) None
    differ)
key_with records (Some e) key thread other wanted differ =
    key_with_next (slice_set records thread (Some (standing_record key wanted None))) e.last (Some thread)
    other
    ∙ ap key_of_record (get_or-set_other records thread other (Some (standing_record key wanted None)) None
    differ)

key_come : (records : List (Option Record)) (had : Option Ends) (key thread : ℕ) (wanted : Want)
    → thread < length records → key_of_record (record_of (linked_records records had key thread wanted)
    thread) ≡ Some key
key_come records None key thread wanted fits =
    ap key_of_record (get_or-set_same records thread (Some (standing_record key wanted None)) None fits)
key_come records (Some e) key thread wanted fits =
    key_with_next (slice_set records thread (Some (standing_record key wanted None))) e.last (Some thread)
    thread
    ∙ ap key_of_record (get_or-set_same records thread (Some (standing_record key wanted None)) None fits)

else_with : (records : List (Option Record)) (had : Option Ends) (key thread other : ℕ) (wanted : Want)
    → other ≢ thread → ((e : Ends) → had ≡ Some e → other ≢ e.last)
    → record_of (linked_records records had key thread wanted) other ≡ record_of records other
else_with records None key thread other wanted differ apart = get_or-set_other records thread other
    (Some (standing_record key wanted None)) None differ
else_with records (Some e) key thread other wanted differ apart =
    let fresh = slice_set records thread (Some (standing_record key wanted None)) in
    get_or-set_other fresh e.last other (leading (record_of fresh e.last) (Some thread)) None (apart e refl)
    ∙ get_or-set_other records thread other (Some (standing_record key wanted None)) None differ

last_stands : (records : List (Option Record)) (had : Option Ends) (e : Ends) (xs : List Waiter)
    → had ≡ Some e → EndsAt records had xs → 1 ≤ times e.last xs
last_stands records had e xs is ends = (subst (λ (h : Option Ends). EndsAt records h xs) is ends).0

times_come : (other key thread : ℕ) (wanted : Want) (xs : List Waiter) → other ≢ thread
    → times other (xs ++ waiter key thread wanted ∷ []) ≡ times other xs
times_come other key thread wanted xs differ =
    grind (arith, nat_tests, times_append other key thread wanted xs)

times_new : (key thread : ℕ) (wanted : Want) (xs : List Waiter)
    → 1 ≤ times thread (xs ++ waiter key thread wanted ∷ [])
times_new key thread wanted xs = grind (arith, nat_tests, times_append thread key thread wanted xs)

key_is : (key k : ℕ) → Some key ≡ Some k → key ≡ k
key_is key k e = cc

-- a thread without a record comes after the last of the chain of its key's bucket
pub one_comes : (records : List (Option Record)) (buckets : List (Option Ends)) (bits : ℕ)
    (chains : List (List Waiter)) (b key thread : ℕ) (wanted : Want) → IsLinked records buckets bits chains
    → b < length buckets → bucket_of bits key ≡ b → record_of records thread ≡ None → thread < length records
    → IsLinked (linked_records records (slice_index_or buckets b None) key thread wanted)
    (slice_set buckets b (Some (linked_ends (slice_index_or buckets b None) thread))) bits
    (slice_set chains b (slice_index_or chains b [] ++ waiter key thread wanted ∷ []))
one_comes records buckets bits chains b key thread wanted linked fits hashed none below =
    let xs : List Waiter = slice_index_or chains b [] in
    let had : Option Ends = slice_index_or buckets b None in
    let more : List Waiter = xs ++ waiter key thread wanted ∷ [] in
    let nowhere = λ (c : ℕ). nobody_without records (first_in (slice_index_or buckets c None))
    (slice_index_or chains c []) thread none (linked.leads c) in
    let was = λ (other k : ℕ) (differ : other ≢ thread) (has : key_of_record
    (record_of (linked_records records had key thread wanted) other) ≡ Some k). sym
    (key_with records had key thread other wanted differ) ∙ has in
    let new = λ (other k : ℕ) (same : other ≡ thread) (has : key_of_record
    (record_of (linked_records records had key thread wanted) other) ≡ Some k). key_is key k
    (sym (key_come records had key thread wanted below)
    ∙ ap (λ (t : ℕ). key_of_record (record_of (linked_records records had key thread wanted) t))
    (sym same) ∙ has) in
    changed records (linked_records records had key thread wanted) buckets bits chains b
    (Some (linked_ends had thread)) more linked fits record {
      leads = linked_leads records had xs key thread wanted none below (linked.leads b) (linked.ends b);
      ends = linked_end records had xs key thread wanted none below (linked.leads b) (linked.ends b);
      else = λ other c differ there. else_with records had key thread other wanted
          (λ (k : other ≡ thread). let m : times other (slice_index_or chains c []) ≡ 0 =
          ap (λ (t : ℕ). times t (slice_index_or chains c [])) k ∙ nowhere c in absurd (omega arith))
          (λ e (is : had ≡ Some e) (k : other ≡ e.last). differ (apart records buckets bits chains c b other
          linked there (subst (λ (t : ℕ). 1 ≤ times t xs) (sym k) (last_stands records had e xs is
          (linked.ends b)))));
      own = λ other k has there. elim (cases_eq other thread) [
        | inl same ↦ ap (bucket_of bits) (sym (new other k same has)) ∙ hashed
        | inr differ ↦ linked.own_bucket b other k (was other k differ has)
            (subst (λ (n : ℕ). 1 ≤ n) (times_come other key thread wanted xs differ) there)
      ];
      stands = λ other k has bucket. elim (cases_eq other thread) [
        | inl same ↦ subst (λ (t : ℕ). 1 ≤ times t more) (sym same) (times_new key thread wanted xs)
        | inr differ ↦ subst (λ (n : ℕ). 1 ≤ n) (sym (times_come other key thread wanted xs differ))
            (subst (λ (c : ℕ). 1 ≤ times other (slice_index_or chains c [])) bucket
            (linked.stands other k (was other k differ has)))
      ];
      kept = λ other k has bucket. elim (cases_eq other thread) [
        | inl same ↦ absurd (bucket (ap (bucket_of bits) (sym (new other k same has)) ∙ hashed))
        | inr differ ↦ was other k differ has
      ];
    }

-- ---------------------------------------------------------------- the view of them

of_bucket : (records : List (Option Record)) (from : Option ℕ) (bits b : ℕ) (xs : List Waiter)
    → ((thread key : ℕ) → key_of_record (record_of records thread) ≡ Some key → 1 ≤ times thread xs
    → bucket_of bits key ≡ b) → Leads records from xs → AreOfBucket bits b xs
of_bucket records from bits b [] own a = tt
of_bucket records from bits b (x ∷ xs) own a = (
  own x.thread x.key (ap key_of_record a.1) (times_here x xs),
  of_bucket records (next_of records x.thread) bits b xs (λ thread key has there. own thread key has
      (omega (arith, times_more thread x xs))) a.2,
)

-- each thread stands once, in the chain of its key's bucket
pub hashed : (records : List (Option Record)) (buckets : List (Option Ends)) (bits : ℕ)
    (chains : List (List Waiter)) → IsLinked records buckets bits chains → IsHashed (record {
      chains = chains;
      capacity = length records;
      bits = bits;
    })
hashed records buckets bits chains linked = record {
  as_many = linked.each ∙ linked.as_many;
  own_bucket = λ b. of_bucket records (first_in (slice_index_or buckets b None)) bits b
      (slice_index_or chains b []) (linked.own_bucket b) (linked.leads b);
  seated = λ b. seated records (first_in (slice_index_or buckets b None)) (slice_index_or chains b [])
      (linked.leads b);
  apart = λ b c thread here there. apart records buckets bits chains b c thread linked here there;
}

no_key : (thread : ℕ) (xs : List Waiter) → times thread xs ≡ 0 → queued_under thread xs ≡ None
no_key thread [] none = refl
no_key thread (x ∷ xs) none = grind (arith, nat_tests, no_key thread xs)

key_of_both : (thread : ℕ) (xs ys : List Waiter) (key : ℕ) → queued_under thread xs ≡ Some key
    → queued_under thread (xs ++ ys) ≡ Some key
key_of_both thread [] ys key h = absurd cc
key_of_both thread (x ∷ xs) ys key h = grind (arith, nat_tests, key_of_both thread xs ys key)

key_of_second : (thread : ℕ) (xs ys : List Waiter) → queued_under thread xs ≡ None
    → queued_under thread (xs ++ ys) ≡ queued_under thread ys
key_of_second thread [] ys h = refl
key_of_second thread (x ∷ xs) ys h = grind (arith, nat_tests, key_of_second thread xs ys)

nobody_joined : (thread : ℕ) (chains : List (List Waiter))
    → ((i : ℕ) → times thread (slice_index_or chains i []) ≡ 0) → queued_under thread (joined chains) ≡ None
nobody_joined thread [] none = refl
nobody_joined thread (c ∷ cs) none = key_of_second thread c (joined cs) (no_key thread c (none 0))
    ∙ nobody_joined thread cs (λ i. none (suc i))

key_joined : (thread key : ℕ) (chains : List (List Waiter)) (i : ℕ)
    → ((j : ℕ) → 1 ≤ times thread (slice_index_or chains j [])
    → queued_under thread (slice_index_or chains j []) ≡ Some key)
    → 1 ≤ times thread (slice_index_or chains i []) → queued_under thread (joined chains) ≡ Some key
key_joined thread key [] i has h = absurd (omega arith)
key_joined thread key (c ∷ cs) zero has h = key_of_both thread c (joined cs) key (has 0 h)
key_joined thread key (c ∷ cs) (suc i) has h = elim (cases_lt 0 (times thread c)) [
  | inl here ↦ key_of_both thread c (joined cs) key (has 0 here)
  | inr none ↦ key_of_second thread c (joined cs) (no_key thread c (omega arith))
      ∙ key_joined thread key cs i (λ j. has (suc j)) h
]

-- the key under which a thread stands is the one of its record
pub key_found : (records : List (Option Record)) (buckets : List (Option Ends)) (bits : ℕ)
    (chains : List (List Waiter)) (thread : ℕ) → IsLinked records buckets bits chains
    → queued_under thread (joined chains) ≡ key_of_record (record_of records thread)
key_found records buckets bits chains thread linked = go (record_of records thread) refl where
  go : (r : Option Record) → record_of records thread ≡ r → queued_under thread (joined chains)
      ≡ key_of_record (record_of records thread)
  go None none = nobody_joined thread chains
      (λ i. nobody_without records (first_in (slice_index_or buckets i None)) (slice_index_or chains i [])
      thread none (linked.leads i)) ∙ sym (ap key_of_record none)
  go (Some r) is =
      key_joined thread r.key chains (bucket_of bits r.key)
      (λ j there. has_key records (first_in (slice_index_or buckets j None)) (slice_index_or chains j [])
      thread (linked.leads j) there ∙ ap key_of_record is)
      (linked.stands thread r.key (ap key_of_record is))
      ∙ sym (ap key_of_record is)
