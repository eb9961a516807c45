use Rattle.std.proofs.Common.{◌≡◌, drop}
use Rattle.script_lang.specs.Names.{call_fault}
use Rattle.script_lang.proofs.names.call_fault.Given as goal

abbrev pub invariant-functions : goal.invariant-functions
invariant-functions l = call_fault (drop l.function-index l.functions) l.name l.count ≡ call_fault l.functions l.name l.count
