use Rattle.std.proofs.Common.{◌≡◌, drop}
use Rattle.script_run.specs.VariableIndex.{variable_index}
use Rattle.script_run.proofs.Lookups.{behind}
use Rattle.script_run.proofs.variables.index_of.Given as goal

abbrev pub invariant-names : goal.invariant-names
invariant-names l =
    (l.at ≡ l.known-index) × (behind l.known-index (variable_index l.name (drop l.known-index l.variables)) ≡ variable_index l.name l.variables)
