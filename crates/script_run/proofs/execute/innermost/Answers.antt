use Rattle.std.proofs.Common.{rules}
use Rattle.script_run.proofs.Blocks.{last_split}
use Rattle.script_run.proofs.execute.innermost.Goals as goal

pub returns : goal.returns
returns c = last_split c.args.blocks.now c.copied.result (search rules)
