use Rattle.std.proofs.Common.{◌++◌, take}
use Rattle.script_lang.specs.Names.{names_in, AreSameNames}
use Rattle.script_lang.proofs.names.add_params.Given as goal

abbrev pub invariant-params : goal.invariant-params
invariant-params l = AreSameNames (names_in l.known) (names_in l.fn.known ++ take l.param-index l.params)
