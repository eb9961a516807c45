use Rattle.std.proofs.Common.{Option, IsTrue, sym, subst}
use Rattle.lb_base.specs.declared.value.Value.{Value}
use Rattle.boki_model.specs.Bodies.{in_range}
use Rattle.attempt_log.specs.Sent.{asked_body}
use Rattle.boki_flow.proofs.Standing.{weaker_ok, has_engine, room, asked_is}
use Rattle.boki_flow.proofs.SentAsks.{range, ask_sent}
use Rattle.boki_flow.proofs.asking.send_next.Goals as goal

pub send_asked-requires-clause-engine : goal.send_asked-requires-clause-engine
send_asked-requires-clause-engine c = let r = c.requires in has_engine r.setup c.args.program.now.functions r.store r.attempt c.args.parts.now c.args.state.now r.stands

pub send_asked-requires-clause-room : goal.send_asked-requires-clause-room
send_asked-requires-clause-room c = let r = c.requires in room r.setup c.args.program.now.functions r.store r.attempt c.args.parts.now c.args.state.now r.stands

pub send_asked-requires-clause-range : goal.send_asked-requires-clause-range
send_asked-requires-clause-range c =
    let r = c.requires in
    let fs = c.args.program.now.functions in
    let ask = c.ask-ask.result.now in
    subst (λ (here : Option Value). IsTrue (in_range (asked_body fs c.args.state.now.progress here ask))) (sym c.value_here-here.ensures)
    (range r.setup fs r.store r.attempt c.args.parts.now c.args.state.now r.stands ask
    (asked_is r.setup fs r.store r.attempt c.args.parts.now c.args.state.now r.stands r.holds c.in-Some.frame ask c.in-Some.is c.ask-ask.ensures.asked) c.args.inline)

pub returns-clause-ok : goal.returns-clause-ok
returns-clause-ok c = weaker_ok c.send_asked.result _ _ c.send_asked.ensures.ok (λ told is setup store a stands script.
    let fs = c.args.program.now.functions in
    let old = c.args.parts.now in
    let kept = c.args.state.now in
    let ask = c.ask-ask.result.now in
    ask_sent setup fs store a old kept stands ask
    (asked_is setup fs store a old kept stands script c.in-Some.frame ask c.in-Some.is c.ask-ask.ensures.asked)
    c.in-Some.frame c.args.inline _ c.send_asked.new.book c.send_asked.new.at told c.in-Some.is c.ask-ask.ensures.same c.value_here-here.ensures
    (c.send_asked.ensures.sound stands.parts.kept.sound) is)
