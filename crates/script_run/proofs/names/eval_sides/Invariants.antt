use Rattle.std.proofs.Common.{◌≡◌, drop}
use Rattle.script_run.specs.Pairs.{try_map, sides_of}
use Rattle.script_run.proofs.Each.{behind_list}
use Rattle.script_run.proofs.names.eval_sides.Given as goal

abbrev pub invariant-pairs : goal.invariant-pairs
invariant-pairs l = behind_list l.values (try_map (sides_of l.variables) (drop l.pair-index l.pairs)) ≡ try_map (sides_of l.variables) l.pairs
