use Rattle.std.proofs.Common.{refl, sym, subst}
use Rattle.core_clocks.specs.Clocks.{TimeIsUp}
use Rattle.steps_base.specs.declared.acts.Act.TheVariants as act
use Rattle.core_words.specs.Indices.{word_index}
use Rattle.core_words.specs.Lots.{IsWordOf}
use Rattle.core_words.specs.declared.words.Word.{Word}
use Rattle.run_base.specs.Stages.{Awoke, stage_of}
use Rattle.run_base.specs.Words.{at_in, kind_in}
use Rattle.run_base.specs.declared.sleepers.Sleeper.{Sleeper}
use Rattle.run_base.proofs.Turning.{has_keys}
use Rattle.run_base.proofs.TurnsOn.{needs_by, slept_on, turned_by}
use Rattle.run_base.proofs.turns.turn_sleep.Goals as goal

pub sleeper_at-sleeper-requires : goal.sleeper_at-sleeper-requires
sleeper_at-sleeper-requires g c = has_keys c.args.place (kind_in c.args.words) (at_in c.args.words)
    c.requires.at.3

pub sleep-requires : goal.sleep-requires
sleep-requires g c = record {
  own = (
    c.requires.at.0,
    subst (IsWordOf c.args.lot.now.words) (sym c.of.ensures)
        (c.requires.at.1 c.sleeper_at-sleeper.result.lock),
    needs_by (TimeIsUp g.C.Clock.tells c.args.limit) c.args.lot.now c.args.words c.args.place
        act.Sleep c.args.token.now c.args.section.now c.requires.at c.requires.act,
  );
  queued = c.requires.queued;
}

pub returns : goal.returns
returns g c =
    let awoke = subst (λ (w : Word). Awoke (TimeIsUp g.C.Clock.tells c.args.limit) w.kind
    (word_index w.number w.kind) c.sleeper_at-sleeper.result
    (stage_of c.args.token.now c.args.section.now) c.sleep.result (stage_of c.sleep.new.token
    c.sleep.new.section)) c.of.ensures c.sleep.ensures.awoke in
    let became = subst (λ (s : Sleeper). Awoke (TimeIsUp g.C.Clock.tells c.args.limit)
    (kind_in c.args.words s.lock) (at_in c.args.words s.lock) s (stage_of c.args.token.now
    c.args.section.now) c.sleep.result (stage_of c.sleep.new.token c.sleep.new.section))
    c.sleeper_at-sleeper.ensures awoke in
    record {
      turned = turned_by (TimeIsUp g.C.Clock.tells c.args.limit) c.args.lot.now c.args.words c.args.place
          c.args.token.now c.sleep.new.token c.args.section.now c.sleep.new.section act.Sleep
          c.sleep.result c.requires.act refl c.requires.at
          c.sleep.ensures.own.0 c.sleep.ensures.own.1 became c.sleep.ensures.own.2 c.sleep.ensures.queues
          c.sleep.ensures.told;
      queues = c.sleep.ensures.queues;
      queued = slept_on (TimeIsUp g.C.Clock.tells c.args.limit) c.args.lot.now c.args.words c.args.place
          c.args.token.now c.sleep.new.token c.args.section.now c.sleep.new.section c.sleep.result
          c.args.queue.now c.sleep.new.queue c.requires.at c.requires.act became c.sleep.ensures.own.0.1
          c.sleep.ensures.place c.requires.queued;
    }
