use Rattle.std.proofs.Common.{◌≡◌, ◌++◌, drop}
use Rattle.std.specs.Prelude.{flat_map}
use Rattle.std.specs.String.{string_bytes}
use Rattle.plan_lang.specs.Printed.{queue_line}
use Rattle.plan_lang.proofs.report.queues_string.Given as goal

abbrev pub invariant-queues : goal.invariant-queues
invariant-queues l = string_bytes l.out ++ flat_map (queue_line) (drop l.queue-index l.queues) ≡ flat_map (queue_line) l.queues
