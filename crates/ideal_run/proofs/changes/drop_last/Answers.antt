use Rattle.std.proofs.Common.{◌∙◌}
use Rattle.ideal_run.proofs.Entries.{popped_is}
use Rattle.ideal_run.proofs.changes.drop_last.Goals as goal

pub returns-then-is_power_of_two : goal.returns-then-is_power_of_two
returns-then-is_power_of_two c = c.shrink.ensures ∙ popped_is c.pop.result c.args.list.now c.pop.new.self c.pop.ensures

pub returns-else-is_power_of_two : goal.returns-else-is_power_of_two
returns-else-is_power_of_two c = popped_is c.pop.result c.args.list.now c.pop.new.self c.pop.ensures
