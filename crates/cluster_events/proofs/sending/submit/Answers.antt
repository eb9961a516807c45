use Rattle.cluster_events.proofs.Submits.{path_is, submit_range, submit_said}
use Rattle.cluster_events.proofs.sending.submit.Goals as goal

pub send_body-sent-requires-clause-range : goal.send_body-sent-requires-clause-range
send_body-sent-requires-clause-range c =
    let r = c.requires in
    submit_range r.setup c.args.program.now.functions c.args.engine c.args.request c.args.function c.args.args.now r.machine c.args.parts.now r.are c.unwrap-path.result c.in_ok-body.body r.valid
    (path_is r.setup c.args.program.now.functions c.args.engine c.args.request c.args.function c.args.args.now c.request.result c.unwrap-path.result r.valid c.request.ensures c.unwrap-path.ensures) c.in_ok-body.ensures

pub returns : goal.returns
returns c setup m valid are =
    submit_said setup c.args.program.now.functions m c.args.parts.now are c.send_body-sent.new.book (c.send_body-sent.ensures.sound are.stand.kept.sound) c.args.engine c.in_ok-sent.field-0 c.args.request c.args.function c.args.args.now
    c.unwrap-path.result c.in_ok-body.body c.call_tag.result valid
    (path_is setup c.args.program.now.functions c.args.engine c.args.request c.args.function c.args.args.now c.request.result c.unwrap-path.result valid c.request.ensures c.unwrap-path.ensures)
    c.in_ok-body.ensures c.call_tag.ensures c.in_ok-sent.ensures.ok
