use Rattle.script_run.specs.Standing.{local_state_of}
use Rattle.script_run.proofs.Blocks.{closed_state, nothing_left}
use Rattle.script_run.proofs.execute.close.Goals as goal

pub returns : goal.returns
returns c = λ lines.
    let old = c.args.state.now.blocks.items in
    let new = c.pop-closed.new.self.items in
    closed_state lines (local_state_of c.args.state.now) new c.pop-closed.result c.pop-closed.ensures.items
    (nothing_left old new c.pop-closed.result _ _ c.pop-closed.ensures.rest c.pop-closed.ensures.cases)
