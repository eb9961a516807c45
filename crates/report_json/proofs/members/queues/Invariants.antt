use Rattle.std.proofs.Common.{◌≡◌, drop}
use Rattle.std.specs.Prelude.{map}
use Rattle.serde_json.specs.Data.{no_members}
use Rattle.serde_json.specs.View.{members_view}
use Rattle.report_json.specs.Json.{with_members, queue_member}
use Rattle.report_json.proofs.members.queues.Given as goal

abbrev pub invariant-queues : goal.invariant-queues
invariant-queues l = with_members (members_view l.members.entries) (map queue_member (drop l.queue-index l.queues)) ≡ with_members no_members (map queue_member l.queues)
