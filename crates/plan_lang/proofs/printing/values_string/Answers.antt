use Rattle.std.proofs.Common.{arith}
use Rattle.std.proofs.lemmas.Grind.{common_steps}
use Rattle.plan_lang.proofs.printing.values_string.Goals as goal

pub values-preserved : goal.values-preserved
values-preserved c = grind (arith, common_steps)
