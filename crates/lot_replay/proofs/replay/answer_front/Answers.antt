use Rattle.std.proofs.Common.{◌≡◌, ◌+◌, ◌-◌, [], ◌∷◌, ◌++◌, length, take, drop, take_all, length-drop}
use Rattle.std.proofs.Common.{length-append, append-nil, sym, subst, ap, ◌∙◌, arith}
use Rattle.lot_text.specs.Sent.{Puts}
use Rattle.lot_text.proofs.SentLemmas.{puts_then}
use Rattle.lot_replay.specs.Replay.{LineMayLead}
use Rattle.lot_replay.specs.Fronts.{MayAnswerAll, BeginsWithLines, Refuses}
use Rattle.lot_replay.specs.Sessions.{replay_stage_of}
use Rattle.lot_replay.proofs.ReplayLemmas.{answered_more, as_answered, begins_more, kept_line, left_after}
use Rattle.lot_replay.proofs.ReplayLemmas.{refused_first}
use Rattle.lot_replay.proofs.replay.answer_front.Goals as goal

pub returns-in-Err-clause-answered : goal.returns-in-Err-clause-answered
returns-in-Err-clause-answered g c =
    let a = c.loop-first.invariant.3 in
    let refused = refused_first _ _ c.in-Err.refusal (replay_stage_of c.loop-first.state.session)
    (replay_stage_of c.answer_next.new.self.session) _ c.in-Err.ensures in (
      a.0,
      a.1,
      a.2,
      a.3,
      subst (λ stage. MayAnswerAll (replay_stage_of c.args.state.now.session) a.0 stage a.1) (sym refused.0)
          a.4,
      subst (Puts (g.W.Write.contents c.args.writer.now) (g.W.Write.contents c.answer_next.new.writer)
          c.args.page.now c.answer_next.new.page) (append-nil a.1)
          (puts_then _ _ _ c.args.page.now c.loop-first.page c.answer_next.new.page a.1 [] a.5 refused.1),
    )

pub returns-in-Err-clause-refused : goal.returns-in-Err-clause-refused
returns-in-Err-clause-refused g c =
    let shown = c.args.shown.now in
    let front = c.loop-first.front in
    let stage = replay_stage_of c.loop-first.state.session in
    let begins = c.in-Some.ensures in
    let within = c.loop-first.invariant.0 in
    let part : take (length shown - front.len) (drop front.len shown) ≡ drop front.len shown =
    take_all (length shown - front.len) (drop front.len shown)
    (omega (arith, length-drop front.len shown)) in
    let kept = kept_line _ begins.0 begins.1 c.in-Some.first.len begins.2 begins.3 in
    let refused = refused_first _ _ c.in-Err.refusal stage (replay_stage_of c.answer_next.new.self.session) _
    c.in-Err.ensures in (
      begins.0,
      begins.1,
      sym part ∙ begins.2,
      begins.4,
      subst (λ m. Refuses c.in-Err.refusal m begins.0)
          (sym refused.0) (subst (Refuses c.in-Err.refusal stage) kept refused.2),
    )

pub loop-first-preserved : goal.loop-first-preserved
loop-first-preserved g c =
    let i = c.loop-first.invariant in
    let a = i.3 in
    let shown = c.args.shown.now in
    let front = c.loop-first.front in
    let first = c.in-Some.first in
    let stage = replay_stage_of c.loop-first.state.session in
    let next = replay_stage_of c.answer_next.new.self.session in
    let begins = c.in-Some.ensures in
    let line = begins.0 in
    let part : take (length shown - front.len) (drop front.len shown) ≡ drop front.len shown =
    take_all (length shown - front.len) (drop front.len shown) (omega (
      arith,
      length-drop front.len shown,
      i.0,
    )) in
    let left : drop front.len shown ≡ line ++ 10 ∷ begins.1 = sym part ∙ begins.2 in
    let kept = kept_line _ line begins.1 first.len begins.2 begins.3 in
    let said = as_answered _ _ c.in_default-answer_next.field-0 stage next _ _ c.loop-first.page
    c.answer_next.new.page c.in_default-answer_next.ensures in
    let answers = subst (λ l. LineMayLead stage l next said.text) kept said.wanted in
    let afterwards : drop (front.len + first.len) shown ≡ begins.1 = left_after shown line begins.1 front.len
    first.len left begins.3 in (
      omega (
        arith,
        ap length left,
        length-drop front.len shown,
        length-append line (10 ∷ begins.1),
        begins.3,
        i.0,
      ),
      omega (arith, begins.3, i.1),
      i.2,
      (
        a.0 ++ line ∷ [],
        a.1 ++ said.text,
        subst (BeginsWithLines shown (a.0 ++ line ∷ [])) (sym afterwards)
            (begins_more shown (drop front.len shown) line begins.1 a.0 a.2 left begins.4),
        omega (arith, length-append a.0 (line ∷ []), a.3),
        answered_more _ a.0 stage next a.1 said.text line a.4 answers,
        puts_then _ _ _ c.args.page.now c.loop-first.page c.answer_next.new.page a.1 said.text a.5 said.puts,
      ),
    )
