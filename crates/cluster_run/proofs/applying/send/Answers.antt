use Rattle.std.proofs.Common.{sym, subst}
use Rattle.std.specs.Prelude.{IfOk}
use Rattle.boki_types.specs.declared.event.Event.{Event}
use Rattle.boki_types.specs.declared.event.Event.TheVariants as event
use Rattle.cluster_events.specs.Machines.{DoesEvent}
use Rattle.cluster_run.proofs.Applied.{if_done_for}
use Rattle.cluster_run.proofs.applying.send.Goals as goal

pub returns-in-Append : goal.returns-in-Append
returns-in-Append c =
    subst (λ (e : Event). IfOk c.append.result (DoesEvent c.args.program.now.functions e c.args.parts.now c.append.new.parts)) (sym c.in-Append.is)
    (if_done_for c.append.result c.args.program.now.functions (event.Append c.in-Append.engine c.in-Append.tags c.in-Append.text) c.args.parts.now c.append.new.parts c.append.ensures)

pub returns-in-Cond : goal.returns-in-Cond
returns-in-Cond c =
    subst (λ (e : Event). IfOk c.cond.result (DoesEvent c.args.program.now.functions e c.args.parts.now c.cond.new.parts)) (sym c.in-Cond.is)
    (if_done_for c.cond.result c.args.program.now.functions (event.Cond c.in-Cond.engine c.in-Cond.place c.in-Cond.tags c.in-Cond.text) c.args.parts.now c.cond.new.parts c.cond.ensures)
