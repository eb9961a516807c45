use Rattle.std.proofs.Common.{◌≡◌, drop}
use Rattle.boki_model.specs.Values.{variable_value}
use Rattle.script_run.proofs.variables.look_up.Given as goal

abbrev pub invariant-names : goal.invariant-names
invariant-names l = variable_value l.name (drop l.known-index l.variables) ≡ variable_value l.name l.variables
