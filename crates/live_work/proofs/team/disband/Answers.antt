use Rattle.std.proofs.Common.{arith, ◌++◌, ◌∷◌, [], List, length-append, sym, ap, ◌∙◌}
use Rattle.live_log.specs.Engines.{Engine}
use Rattle.live_text.specs.declared.answers.LiveAnswer.{LiveAnswer}
use Rattle.live_work.proofs.Teams.{engines_more, answers_more}
use Rattle.live_work.proofs.team.disband.Goals as goal

pub loop-worker-preserved : goal.loop-worker-preserved
loop-worker-preserved g c =
    let i = c.loop-worker.invariant in
    let ws = c.loop-worker.yielded in
    let w = c.in-Some.worker in
    record {
      engines = c.push_reserved.ensures.items ∙ ap (λ (l : List Engine). l ++ w.engine ∷ []) i.engines ∙ sym (engines_more ws w);
      engine_count = omega (arith, c.push_reserved.ensures.len, i.engine_count, length-append ws (w ∷ []));
      engine_room = omega (arith, c.push_reserved.ensures.capacity, i.engine_room);
      sheets = c.push_reserved-in-loop-worker.ensures.items ∙ ap (λ (l : List (List LiveAnswer)). l ++ w.answers ∷ []) i.sheets ∙ sym (answers_more ws w);
      sheet_count = omega (arith, c.push_reserved-in-loop-worker.ensures.len, i.sheet_count, length-append ws (w ∷ []));
      sheet_room = omega (arith, c.push_reserved-in-loop-worker.ensures.capacity, i.sheet_room);
    }
