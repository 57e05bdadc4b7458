use Rattle.std.proofs.Common.{ℕ, ◌≡◌, ◌++◌, ◌∙◌, ap, false, inl, refl, sym, subst, true}
use Rattle.core_base.specs.declared.ops.Op.TheVariants.{Load}
use Rattle.parking_lot_core.specs.declared.lot.ParkingLot.{ParkingLot}
use Rattle.steps_condvar.specs.CondvarSteps.{notified}
use Rattle.run_base.specs.Paths.{condvar_at, step}
use Rattle.run_base.specs.Telling.{steps_of}
use Rattle.run_locks.specs.CondvarCalls.{HasLooked}
use Rattle.run_locks.proofs.CondvarNotifying.{nobody_waits}
use Rattle.raw_mutexes.proofs.CondvarAnswers.{looked_since}
use Rattle.raw_mutexes.proofs.raw_condvar.RawCondvarRawCondvar.notify_fast.Goals as goal

pub returns-clause-looked : goal.returns-clause-looked
returns-clause-looked g c = let by = c.may_begin in let new = c.notify_fast.new.token in
    let n = c.args.self.now.word.number in let seen = c.notify_fast.result in
    subst (λ (lot : ParkingLot). HasLooked lot.words.count n seen c.args.token.now new) c.deref-lot.ensures
    (looked_since c.deref-lot.result.now.words.count n seen c.args.token.now by.new.token new by.ensures.own.0.1
    by.ensures.view by.ensures.untold c.notify_fast.ensures.looked)

pub returns-clause-one : goal.returns-clause-one
returns-clause-one g c = λ (zero : c.notify_fast.result ≡ 0). let by = c.may_begin in
    let n = c.args.self.now.word.number in let seen = c.notify_fast.result in
    let old = c.args.token.now in let new = c.notify_fast.new.token in
    let looked = looked_since c.deref-lot.result.now.words.count n seen old by.new.token new by.ensures.own.0.1
    by.ensures.view by.ensures.untold c.notify_fast.ensures.looked in
    let nothing = looked.0 ∙ ap (λ (k : ℕ). steps_of old ++ step (condvar_at n) Load k) zero in (
      nobody_waits n false seen (notified false 0) old new looked.0 looked.3 looked.4 zero refl,
      (inl (refl, inl nothing), λ some. absurd (some refl)),
    )

pub returns-clause-all : goal.returns-clause-all
returns-clause-all g c = λ (zero : c.notify_fast.result ≡ 0). let by = c.may_begin in
    let n = c.args.self.now.word.number in let seen = c.notify_fast.result in
    let old = c.args.token.now in let new = c.notify_fast.new.token in
    let looked = looked_since c.deref-lot.result.now.words.count n seen old by.new.token new by.ensures.own.0.1
    by.ensures.view by.ensures.untold c.notify_fast.ensures.looked in
    let nothing = looked.0 ∙ ap (λ (k : ℕ). steps_of old ++ step (condvar_at n) Load k) zero in (
      nobody_waits n true seen (notified true 0) old new looked.0 looked.3 looked.4 zero refl,
      (inl (refl, inl nothing), λ some. absurd (some refl)),
    )
