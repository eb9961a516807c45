use Rattle.std.proofs.Common.{◌≡◌, take}
use Rattle.script_run.proofs.copies.copy_variables.Given as goal

abbrev pub invariant-variables : goal.invariant-variables
invariant-variables l = l.copies.items ≡ take l.variable-index l.variables
