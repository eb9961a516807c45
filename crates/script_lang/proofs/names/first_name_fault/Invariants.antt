use Rattle.std.proofs.Common.{◌≡◌, drop}
use Rattle.script_lang.specs.Names.{functions_fault, name_fault}
use Rattle.script_lang.proofs.names.first_name_fault.Given as goal

abbrev pub invariant-functions : goal.invariant-functions
invariant-functions l = functions_fault l.functions (drop l.i l.functions) l.line_numbers l.i ≡ name_fault l.functions l.line_numbers
