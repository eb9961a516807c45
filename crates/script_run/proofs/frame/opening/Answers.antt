use Rattle.std.proofs.Common.{◌∙◌, ap, sym, List, [], None}
use Rattle.script_run.specs.declared.state.Block.{Block}
use Rattle.script_run.specs.Answering.{put_each}
use Rattle.script_run.specs.Standing.{state_from}
use Rattle.script_run.proofs.Sets.{Entries}
use Rattle.script_run.proofs.Standings.{opening_is}
use Rattle.script_run.proofs.frame.opening.Goals as goal

pub returns : goal.returns
returns c = λ lines.
    let params = c.args.params.now in
    let args = c.args.args.now in
    ap (λ (bs : List Block). state_from lines (record { variables = c.set_each.new.variables.items; blocks = bs; spawned = 0; transaction = None })) c.new.ensures.items
    ∙ ap (λ (es : Entries). state_from lines (record { variables = es; blocks = []; spawned = 0; transaction = None })) (c.in_ok-set_each.ensures ∙ ap (put_each params args) c.new-variables.ensures.items)
    ∙ sym (opening_is params args)
