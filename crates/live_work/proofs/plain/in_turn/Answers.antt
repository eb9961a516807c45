use Rattle.std.proofs.Common.{◌≡◌, ℕ, ◌+◌, List, ap, ◌∙◌}
use Rattle.live_text.specs.declared.text.LiveOp.{LiveOp}
use Rattle.live_text.specs.Outputs.{ops_of}
use Rattle.live_work.specs.Plain.{list_behind, plain_answers}
use Rattle.live_work.proofs.PlainFits.{worker_more, answers_more}
use Rattle.live_work.proofs.plain.in_turn.Goals as goal

pub workers-preserved : goal.workers-preserved
workers-preserved c =
    let i = c.workers.invariant in
    let m = c.args.text.now.workers in
    let lines = c.args.text.now.lines in
    let w = c.workers.done + 1 in
    let read = c.as_slice-lines.ensures in
    let list : c.do_lines.new.list ≡ list_behind w (ops_of w lines) c.workers.list = c.in_ok-do_lines.ensures.list ∙ ap (λ (l : List (ℕ × LiveOp)). list_behind w (ops_of w l) c.workers.list) read in
    let told : c.in_ok-do_lines.field-0 ≡ plain_answers w (ops_of w lines) c.workers.list = c.in_ok-do_lines.ensures.answers ∙ ap (λ (l : List (ℕ × LiveOp)). plain_answers w (ops_of w l) c.workers.list) read in
    record {
      index = c.in_ok-do_lines.ensures.index;
      behind = worker_more m c.workers.done lines c.workers.list c.do_lines.new.list c.workers-test.true list ∙ i.behind;
      answered = answers_more m c.workers.done lines c.workers.list c.do_lines.new.list c.workers.answers c.push.new.self c.in_ok-do_lines.field-0 c.workers-test.true list told c.in_ok-push.ensures.ok ∙ i.answered;
    }
