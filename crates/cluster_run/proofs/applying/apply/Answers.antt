use Rattle.std.proofs.Common.{◌≡◌, false, rules}
use Rattle.cluster_run.specs.Groups.{is_of_attempts}
use Rattle.cluster_run.proofs.Applied.{if_parts_done, if_any_done}
use Rattle.cluster_run.proofs.applying.apply.Goals as goal

pub returns-in-Next : goal.returns-in-Next
returns-in-Next g c =
    let apart : is_of_attempts c.args.event.now ≡ false = search rules in
    if_any_done c.args.program.now.functions c.args.event.now c.args.parts.now c.read.new.parts c.args.attempts.now.entries apart c.read.result c.read.ensures

pub returns-in-Submit : goal.returns-in-Submit
returns-in-Submit g c =
    let apart : is_of_attempts c.args.event.now ≡ false = search rules in
    if_parts_done c.args.program.now.functions c.args.event.now c.args.parts.now c.send.new.parts c.args.attempts.now.entries apart c.send.result c.send.ensures

pub returns-in-Copy : goal.returns-in-Copy
returns-in-Copy g c =
    let apart : is_of_attempts c.args.event.now ≡ false = search rules in
    if_any_done c.args.program.now.functions c.args.event.now c.args.parts.now c.order.new.parts c.args.attempts.now.entries apart c.order.result c.order.ensures
