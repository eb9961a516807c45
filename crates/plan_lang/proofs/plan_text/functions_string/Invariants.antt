use Rattle.std.proofs.Common.{◌≡◌, ◌++◌, drop}
use Rattle.std.specs.Prelude.{flat_map}
use Rattle.std.specs.String.{string_bytes}
use Rattle.script_lang.specs.Printed.{function_text}
use Rattle.plan_lang.proofs.plan_text.functions_string.Given as goal

abbrev pub invariant-functions : goal.invariant-functions
invariant-functions l = string_bytes l.out ++ flat_map (function_text) (drop l.function-index l.functions) ≡ flat_map (function_text) l.functions
