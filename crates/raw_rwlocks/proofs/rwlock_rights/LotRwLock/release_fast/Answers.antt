use Rattle.std.proofs.Common.{rules, ◌≡◌, subst, MatchResult, Ok, Err}
use Rattle.std.specs.declared.result.Result.{Result}
use Rattle.core_base.specs.declared.wants.Want.{Want}
use Rattle.spec_locks.specs.declared.outcomes.Answer.{Answer}
use Rattle.steps_rwlock.specs.declared.purposes.RwLockPurpose.TheVariants.{Release}
use Rattle.core_words.specs.Plays.{piece, takes_in}
use Rattle.core_words.specs.Rights.{owner_for}
use Rattle.core_words.specs.Views.{owning}
use Rattle.parking_lot_core.specs.Tokens.{view_of}
use Rattle.run_base.specs.Paths.{rwlock_at}
use Rattle.run_locks.specs.Halves.{HasBegunRwLock, HasEndedRwLock}
use Rattle.run_locks.specs.declared.rwlock_calls.SlowPart.{SlowPart}
use Rattle.raw_rwlocks.proofs.RwLockReleases.{begins_releasing, released}
use Rattle.raw_rwlocks.proofs.rwlock_rights.LotRwLock.release_fast.Goals as goal

pub call_fast-requires-clause-right : goal.call_fast-requires-clause-right
call_fast-requires-clause-right c = (
  (view_of c.args.token.now).owns,
  begins_releasing c.args.self.now c.args.access c.args.token.now c.join.new.token (search rules)
      (subst (λ (w : Want). view_of c.join.new.token ≡ takes_in (view_of c.args.token.now)
      (piece (owning (rwlock_at c.args.self.now.word.number) (owner_for w)))) c.wanted.ensures
      c.join.ensures.joined),
)

pub returns-in-Ok-clause-over : goal.returns-in-Ok-clause-over
returns-in-Ok-clause-over c = let is : c.call_fast.result ≡ Ok c.in-Ok._answer = search rules in
    released c.args.self.now c.args.access c.args.token.now c.join.new.token (search rules)
    (subst (λ (w : Want). view_of c.join.new.token ≡ takes_in (view_of c.args.token.now)
    (piece (owning (rwlock_at c.args.self.now.word.number) (owner_for w)))) c.wanted.ensures
    c.join.ensures.joined)
    c.join.ensures.untold c.call_fast.new.token c.in-Ok._answer
    (subst (λ (r : Result Answer SlowPart). MatchResult r (λ answer. HasEndedRwLock ⊥ c.args.self.now.word
    c.args.self.now.settings.admission (Release c.args.access) answer c.join.new.token
    c.call_fast.new.token) (λ rest. HasBegunRwLock c.args.self.now.word c.args.self.now.settings.admission
    (Release c.args.access) rest c.join.new.token c.call_fast.new.token)) is c.call_fast.ensures.over)

pub returns-in-Err-clause-over : goal.returns-in-Err-clause-over
returns-in-Err-clause-over c = let is : c.call_fast.result ≡ Err c.in-Err.rest = search rules in (
  c.join.new.token,
  search rules,
  subst (λ (w : Want). view_of c.join.new.token ≡ takes_in (view_of c.args.token.now)
      (piece (owning (rwlock_at c.args.self.now.word.number) (owner_for w)))) c.wanted.ensures
      c.join.ensures.joined,
  subst (λ (r : Result Answer SlowPart). MatchResult r (λ answer. HasEndedRwLock ⊥ c.args.self.now.word
      c.args.self.now.settings.admission (Release c.args.access) answer c.join.new.token
      c.call_fast.new.token) (λ rest. HasBegunRwLock c.args.self.now.word c.args.self.now.settings.admission
      (Release c.args.access) rest c.join.new.token c.call_fast.new.token)) is c.call_fast.ensures.over,
  c.join.ensures.untold,
)
