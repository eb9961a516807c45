use Rattle.std.proofs.Common.{◌++◌, take}
use Rattle.boki_model.specs.Script.{pair_names}
use Rattle.script_lang.specs.Names.{names_in, AreSameNames}
use Rattle.script_lang.proofs.names.add_firsts.Given as goal

abbrev pub invariant-pairs : goal.invariant-pairs
invariant-pairs l = AreSameNames (names_in l.known) (names_in l.fn.known ++ pair_names (take l.pair-index l.pairs))
