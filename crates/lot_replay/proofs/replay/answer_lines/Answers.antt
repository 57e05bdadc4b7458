use Rattle.std.proofs.Common.{◌+◌, [], ◌++◌, refl, sym, subst}
use Rattle.lot_text.specs.Reads.{TakesLine}
use Rattle.lot_text.specs.Grammar.{meaning}
use Rattle.lot_text.proofs.SentLemmas.{puts_then, puts_nothing}
use Rattle.lot_replay.specs.Stages.{after_line}
use Rattle.lot_replay.specs.Sessions.{replay_stage_of}
use Rattle.lot_replay.specs.Answers.{last_line, last_status}
use Rattle.lot_replay.specs.Fronts.{RefusesRead}
use Rattle.lot_replay.specs.declared.state.Refusal.TheVariants.{Malformed}
use Rattle.lot_replay.proofs.ReplayLemmas.{known_start, known_end, known_step, known_too_long, known_refused}
use Rattle.lot_replay.proofs.ReplayLemmas.{known_failed, known_read, known_read_refused, nothing_taken}
use Rattle.lot_replay.proofs.ReplayLemmas.{as_answered, refused_puts}
use Rattle.lot_replay.proofs.replay.answer_lines.Goals as goal

pub loop-init : goal.loop-init
loop-init g c = ([], known_start _ _ c.new-state.ensures, puts_nothing _ c.args.page.now)

pub returns : goal.returns
returns g c =
    let i = c.loop.invariant in
    (i.0, 4, known_failed _ _ _ i.0 c.loop.number _ i.1 (nothing_taken _), i.2, λ _. refl)

pub returns-in_default : goal.returns-in_default
returns-in_default g c =
    let i = c.loop.invariant in
    let read = c.in_default.ensures in
    let told = i.0 ++ read.1 in
    let known = known_read _ _ _ i.0 c.loop.number (c.loop.number + 0) 0 _ _ _ i.1 read refl in (
      told,
      4,
      known_failed _ _ _ told (c.loop.number + 0) _ known (nothing_taken _),
      puts_then _ _ _ c.args.page.now c.loop.page c.answer_shown.new.page i.0 read.1 i.2 read.5,
      λ _. refl,
    )

pub returns-in_default-checked_add : goal.returns-in_default-checked_add
returns-in_default-checked_add g c =
    let i = c.loop.invariant in
    let read = c.in-Some.ensures.0 in
    let told = i.0 ++ read.1 in
    let next = c.loop.number + c.in-Some.front.lines in
    let known = known_read _ _ _ i.0 c.loop.number next c.in-Some.front.lines _ _ _ i.1 read refl in (
      told,
      4,
      known_failed _ _ _ told next _ known (nothing_taken _),
      puts_then _ _ _ c.args.page.now
          c.loop.page c.answer_shown.new.page i.0 read.1 i.2 read.5,
      λ _. refl,
    )

pub returns-in-Some-refusal : goal.returns-in-Some-refusal
returns-in-Some-refusal g c =
    let i = c.loop.invariant in
    let read = c.in-Some.ensures.0 in
    let told = i.0 ++ read.1 in
    let next = c.in-Some-checked_add.next in
    let refusal = c.in-Some-refusal.refusal in
    let counted = c.in-Some-checked_add.ensures.1 in
    let known = known_read _ _ _ i.0 c.loop.number next c.in-Some.front.lines _ _ _ i.1 read counted in
    let refuses = subst (λ o. RefusesRead o (replay_stage_of c.answer_shown.new.state.session)
    (g.R.Read.remaining c.loop.reader) (g.R.Read.remaining c.answer_shown.new.reader))
    c.in-Some-refusal.is c.in-Some.ensures.1 in
    let puts = puts_then _ _ _ c.args.page.now c.loop.page c.answer_shown.new.page i.0 read.1 i.2 read.5 in
    let last = last_line refusal next in (
      told ++ last,
      last_status refusal,
      known_read_refused _ _ _ _ refusal i.0 told c.loop.number next _ _ i.1 known refuses,
      puts_then _ _ _ c.args.page.now c.answer_shown.new.page c.stop.new.page told last puts
          c.stop.ensures.text,
      λ _. c.stop.ensures.status,
    )

pub returns-then-is_lost : goal.returns-then-is_lost
returns-then-is_lost g c =
    let i = c.loop.invariant in
    let read = c.in-Some.ensures.0 in
    let told = i.0 ++ read.1 in
    let next = c.loop.number + c.in-Some.front.lines in
    let known = known_read _ _ _ i.0 c.loop.number next c.in-Some.front.lines _ _ _ i.1 read refl in (
      told,
      4,
      known_failed _ _ _ told next _ known (nothing_taken _),
      puts_then _ _ _ c.args.page.now
          c.loop.page c.answer_shown.new.page i.0 read.1 i.2 read.5,
      λ _. refl,
    )

pub returns-in-TooLong : goal.returns-in-TooLong
returns-in-TooLong g c =
    let i = c.loop.invariant in
    let read = c.in-Some.ensures.0 in
    let told = i.0 ++ read.1 in
    let next = c.in-Some-checked_add.next in
    let known = known_read _ _ _ i.0 c.loop.number next c.in-Some.front.lines _ _ _ i.1 read
    c.in-Some-checked_add.ensures.1 in
    let puts = puts_then _ _ _ c.args.page.now c.loop.page c.answer_shown.new.page i.0 read.1 i.2 read.5 in
    let last = last_line Malformed next in (
      told ++ last,
      2,
      known_too_long _ _ _ told next _ known c.in-TooLong.ensures,
      puts_then _ _ _ c.args.page.now c.answer_shown.new.page c.stop-in-TooLong.new.page told last puts
          c.stop-in-TooLong.ensures.text,
      λ _. c.stop-in-TooLong.ensures.status,
    )

pub returns-in-End : goal.returns-in-End
returns-in-End g c =
    let i = c.loop.invariant in
    let read = c.in-Some.ensures.0 in
    let told = i.0 ++ read.1 in
    let next = c.loop.number + c.in-Some.front.lines in
    let known = known_read _ _ _ i.0 c.loop.number next c.in-Some.front.lines _ _ _ i.1 read refl in (
      told,
      0,
      known_end _ _ _ told next _ known c.in-End.ensures,
      puts_then _ _ _ c.args.page.now c.loop.page
          c.answer_shown.new.page i.0 read.1 i.2 read.5,
      λ _. refl,
    )

pub returns-in-Failed : goal.returns-in-Failed
returns-in-Failed g c =
    let i = c.loop.invariant in
    let read = c.in-Some.ensures.0 in
    let told = i.0 ++ read.1 in
    let next = c.loop.number + c.in-Some.front.lines in
    let known = known_read _ _ _ i.0 c.loop.number next c.in-Some.front.lines _ _ _ i.1 read refl in (
      told,
      4,
      known_failed _ _ _ told next _ known c.in-Failed.ensures,
      puts_then _ _ _ c.args.page.now
          c.loop.page c.answer_shown.new.page i.0 read.1 i.2 read.5,
      λ _. refl,
    )

pub returns-in-Err : goal.returns-in-Err
returns-in-Err g c =
    let i = c.loop.invariant in
    let read = c.in-Some.ensures.0 in
    let told = i.0 ++ read.1 in
    let next = c.in-Some-checked_add.next in
    let known = known_read _ _ _ i.0 c.loop.number next c.in-Some.front.lines _ _ _ i.1 read
    c.in-Some-checked_add.ensures.1 in
    let puts = puts_then _ _ _ c.args.page.now c.loop.page c.answer_shown.new.page i.0 read.1 i.2 read.5 in
    let stage = replay_stage_of c.answer_shown.new.state.session in
    let left = replay_stage_of c.answer.new.self.session in
    let line = c.as_slice.result.now in
    let takes = subst (TakesLine (g.R.Read.remaining c.answer_shown.new.reader)
    (g.R.Read.remaining c.read_line.new.reader)) (sym c.as_slice.ensures.value) c.in-Line.ensures.0 in
    let refusal = c.in-Err.refusal in
    let last = last_line refusal next in
    let none = refused_puts (meaning line) (after_line stage line) refusal stage left _ c.in-Err.ensures in (
      told ++ last,
      last_status refusal,
      known_refused (after_line stage line) refusal left _ _ _ _ _ told next stage line refl c.in-Err.ensures
          known takes,
      puts_then _ _ _ c.args.page.now c.answer_shown.new.page c.stop-in-Err.new.page told last puts
          (puts_then _ _ _ c.answer_shown.new.page c.answer.new.page c.stop-in-Err.new.page [] last none
          c.stop-in-Err.ensures.text),
      λ _. c.stop-in-Err.ensures.status,
    )

pub returns-then-is_lost-2 : goal.returns-then-is_lost-2
returns-then-is_lost-2 g c =
    let i = c.loop.invariant in
    let read = c.in-Some.ensures.0 in
    let told = i.0 ++ read.1 in
    let next = c.in-Some-checked_add.next in
    let known = known_read _ _ _ i.0 c.loop.number next c.in-Some.front.lines _ _ _ i.1 read
    c.in-Some-checked_add.ensures.1 in
    let puts = puts_then _ _ _ c.args.page.now c.loop.page c.answer_shown.new.page i.0 read.1 i.2 read.5 in
    let stage = replay_stage_of c.answer_shown.new.state.session in
    let left = replay_stage_of c.answer.new.self.session in
    let line = c.as_slice.result.now in
    let takes = subst (TakesLine (g.R.Read.remaining c.answer_shown.new.reader)
    (g.R.Read.remaining c.read_line.new.reader)) (sym c.as_slice.ensures.value) c.in-Line.ensures.0 in
    let said = as_answered (meaning line) (after_line stage line) c.in_default-answer.field-0 stage left _ _
    c.answer_shown.new.page c.answer.new.page c.in_default-answer.ensures in
    let step = known_step _ _ _ told next stage line left said.text known takes said.wanted in
    let more = puts_then _ _ _ c.args.page.now c.answer_shown.new.page c.answer.new.page told said.text puts
    said.puts in (
      told ++ said.text,
      4,
      known_failed _ _ _ (told ++ said.text) (next + 1) left step (nothing_taken _),
      more,
      λ _. refl,
    )

pub loop-preserved : goal.loop-preserved
loop-preserved g c =
    let i = c.loop.invariant in
    let read = c.in-Some.ensures.0 in
    let told = i.0 ++ read.1 in
    let next = c.in-Some-checked_add.next in
    let known = known_read _ _ _ i.0 c.loop.number next c.in-Some.front.lines _ _ _ i.1 read
    c.in-Some-checked_add.ensures.1 in
    let puts = puts_then _ _ _ c.args.page.now c.loop.page c.answer_shown.new.page i.0 read.1 i.2 read.5 in
    let stage = replay_stage_of c.answer_shown.new.state.session in
    let left = replay_stage_of c.answer.new.self.session in
    let line = c.as_slice.result.now in
    let takes = subst (TakesLine (g.R.Read.remaining c.answer_shown.new.reader)
    (g.R.Read.remaining c.read_line.new.reader)) (sym c.as_slice.ensures.value) c.in-Line.ensures.0 in
    let said = as_answered (meaning line) (after_line stage line) c.in_default-answer.field-0 stage left _ _
    c.answer_shown.new.page c.answer.new.page c.in_default-answer.ensures in
    let step = known_step _ _ _ told next stage line left said.text known takes said.wanted in
    let more = puts_then _ _ _ c.args.page.now c.answer_shown.new.page c.answer.new.page told said.text puts
    said.puts in
    (told ++ said.text, step, more)
