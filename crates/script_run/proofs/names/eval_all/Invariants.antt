use Rattle.std.proofs.Common.{◌≡◌, drop}
use Rattle.script_run.specs.Pairs.{try_map, value_of}
use Rattle.script_run.proofs.Each.{behind_list}
use Rattle.script_run.proofs.names.eval_all.Given as goal

abbrev pub invariant-values : goal.invariant-values
invariant-values l = behind_list l.values (try_map (value_of l.variables) (drop l.x-index l.xs)) ≡ try_map (value_of l.variables) l.xs
