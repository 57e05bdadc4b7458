use Rattle.std.proofs.Common.{rules, ◌≡◌, ◌∙◌, ℕ, ◌+◌, inr, ap, subst, sym}
use Rattle.lock_raw.specs.Counts.{CountedAgain, SawOthers, first_count}
use Rattle.lock_api.specs.Reentrant.{CameIn}
use Rattle.spec_locks.specs.declared.calls.MutexCall.TheVariants.{TryLock}
use Rattle.spec_locks.specs.declared.outcomes.Answer.TheVariants as answers
use Rattle.lock_api.proofs.reentrant.ReentrantMutex.try_lock.Goals as goal

pub count_first-share-requires-clause-thread : goal.count_first-share-requires-clause-thread
count_first-share-requires-clause-thread g c =
    c.nonzero_thread_id-thread.ensures
    ∙ ap (λ (n : ℕ). n + 1) (sym (g.R.RawMutex.number_stays c.args.token.now c.try_lock.new.token
    (g.R.RawMutex.keeps_rights_on _ _ _ c.in_ok-share.ensures.token.1 c.try_lock.ensures.token.1)))

pub returns-clause-token : goal.returns-clause-token
returns-clause-token g c =
    let is : c.self.inside.raw ≡ c.args.self.now.0 = ap (λ m. m.0) c.self.view_is in (
      subst (λ raw. g.R.RawMutex.is_token_of (g.R.RawMutex.lot_of raw) c.count_first-share.new.token) is
          c.count_first-share.ensures.token.0,
      g.R.RawMutex.keeps_rights_on _ _ _ c.in_ok-share.ensures.token.1 (g.R.RawMutex.keeps_rights_on _ _ _
          c.try_lock.ensures.token.1 c.count_first-share.ensures.token.1),
    )

pub returns-clause-path : goal.returns-clause-path
returns-clause-path g c =
    let is : c.self.inside.raw ≡ c.args.self.now.0 = ap (λ m. m.0) c.self.view_is in
    let old = c.args.token.now in let looked = c.count_again.new.token in let inside = c.try_lock.new.token
    in let new = c.count_first-share.new.token in
    let n : ℕ = g.R.RawMutex.number_of old in
    let saw : SawOthers (g.R.RawMutexCounted.saw_count c.self.inside.raw) n old looked = search rules in
    let took : g.R.RawMutex.took_steps c.self.inside.raw TryLock answers.Yes looked inside = search rules in
    let same : g.R.RawMutex.number_of inside ≡ n = g.R.RawMutex.number_stays old inside
    (g.R.RawMutex.keeps_rights_on _ _ _ c.in_ok-share.ensures.token.1 c.try_lock.ensures.token.1) in
    let began : g.R.RawMutexCounted.stored_count c.self.inside.raw 0 (first_count n) inside new =
    subst (λ (k : ℕ). g.R.RawMutexCounted.stored_count c.self.inside.raw 0 (first_count k) inside new) same
    c.count_first-share.ensures.begun in
    subst (λ raw. CameIn (CountedAgain (g.R.RawMutexCounted.saw_count raw)
    (g.R.RawMutexCounted.stored_count raw) n) (SawOthers (g.R.RawMutexCounted.saw_count raw) n)
    (g.R.RawMutex.took_steps raw TryLock answers.Yes)
    (g.R.RawMutexCounted.stored_count raw 0 (first_count n)) old
    new) is (inr (looked, inside, saw, took, began))
