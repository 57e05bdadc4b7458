use Rattle.std.proofs.Common.{◌≡◌, ◌∙◌, None, subst, sym}
use Rattle.core_clocks.specs.Clocks.{TimeIsUp}
use Rattle.core_words.specs.declared.words.WordKind.TheVariants.{RwLock, Once, Condvar}
use Rattle.run_base.specs.Fitting.{AreWordsAfter, IsStopped, call_purpose}
use Rattle.run_base.specs.Stages.{stage_of}
use Rattle.run_base.specs.Words.{kind_in, at_in}
use Rattle.run_base.specs.declared.driver.Stop.{Stop}
use Rattle.run_base.specs.declared.driver.Stop.TheVariants.{Paused}
use Rattle.run_base.specs.declared.words.Words.{Words}
use Rattle.run_base.proofs.Ending.{never_closes}
use Rattle.run_locks.proofs.rwlock_calls.run_out.Goals as goal

not_once : RwLock ≡ Once → ⊥
not_once e = cc

not_condvar : RwLock ≡ Condvar → ⊥
not_condvar e = cc

pub unreachable-requires : goal.unreachable-requires
unreachable-requires g c = let base = c.requires.fits.0 in
    let stopped = subst (λ (stop : Stop). IsStopped (TimeIsUp g.C.Clock.tells c.args.limit) c.requires.fits.0
    (call_purpose c.args.start) stop (stage_of c.run.new.token None)) c.in-Paused.is
    (c.run.ensures.stopped base c.requires.fits.1) in
    let words = subst (λ (words : Words). AreWordsAfter (Paused c.in-Paused.place c.in-Paused.state)
    (kind_in words) (at_in words)) c.alone-words.ensures
    (subst (λ (stop : Stop). AreWordsAfter stop (kind_in c.alone-words.result) (at_in c.alone-words.result))
    c.in-Paused.is c.run.ensures.words) in
    let other : c.args.word.kind ≡ RwLock = c.requires.kind in
    never_closes (TimeIsUp g.C.Clock.tells c.args.limit) base (call_purpose c.args.start) c.in-Paused.place
    c.in-Paused.state (stage_of c.run.new.token None) c.args.word (λ is. not_once (sym other ∙ is))
    (λ is. not_condvar (sym other ∙ is)) words stopped
