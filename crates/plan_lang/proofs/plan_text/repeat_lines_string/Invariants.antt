use Rattle.std.proofs.Common.{◌≡◌, ◌++◌, drop}
use Rattle.std.specs.Prelude.{flat_map}
use Rattle.std.specs.String.{string_bytes}
use Rattle.plan_lang.specs.Printed.{repeat_line}
use Rattle.plan_lang.proofs.plan_text.repeat_lines_string.Given as goal

abbrev pub invariant-events : goal.invariant-events
invariant-events l = string_bytes l.out ++ flat_map (repeat_line l.functions) (drop l.event-index l.events) ≡ flat_map (repeat_line l.functions) l.events
