use Rattle.std.proofs.Common.{◌≡◌, true, List}
use Rattle.core_clocks.specs.Clocks.{TimeIsUp}
use Rattle.lot_steps.specs.Steps.{act_of}
use Rattle.core_words.specs.declared.owners.Ownership.{Ownership}
use Rattle.parking_lot_core.specs.Tokens.{IsSameThread}
use Rattle.run_base.specs.Fitting.{AreWordsFor, Fits, call_purpose}
use Rattle.run_base.specs.Queued.{HasPlace, is_queued}
use Rattle.run_base.specs.Stages.{IsSectionOf, stage_of}
use Rattle.run_base.specs.Words.{kind_in, at_in}
use Rattle.run_base.specs.Courses.{ComesBy, trail_of}
use Rattle.run_base.proofs.driver.run_from.Given as goal

abbrev pub invariant-loop : goal.invariant-loop
invariant-loop g l = record {
  turns : (goal.iterator-loop g).can_next l.iterator' × (goal.iterator-loop g).is_finite l.iterator';
  own : IsSameThread l.lot l.fn.token l.token × IsSectionOf l.lot l.section;
  path : ComesBy (at_in l.words) l.fn.token.number l.fn.start (trail_of l.fn.token l.fn.inside)
      (trail_of l.token l.section) l.place;
  queued : is_queued l.place ≡ true → HasPlace l.lot l.token.number l.queue;
  words : AreWordsFor l.place (kind_in l.words) (at_in l.words);
  fits : (base : List Ownership) → Fits (TimeIsUp g.C.Clock.tells l.limit) base l.fn.start
      (stage_of l.fn.token l.fn.inside) → Fits (TimeIsUp g.C.Clock.tells l.limit) base l.place
      (stage_of l.token l.section);
  act : l.act ≡ act_of l.place;
  aim : call_purpose l.place ≡ call_purpose l.fn.start;
}
