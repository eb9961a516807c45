use Rattle.std.proofs.Common.{◌≡◌, drop}
use Rattle.std.specs.Prelude.{map}
use Rattle.serde_json.specs.Data.{no_members}
use Rattle.serde_json.specs.View.{members_view}
use Rattle.report_json.specs.Json.{with_members, value_member}
use Rattle.report_json.proofs.members.named_values.Given as goal

abbrev pub invariant-entries : goal.invariant-entries
invariant-entries l = with_members (members_view l.members.entries) (map value_member (drop l.entry-index l.entries)) ≡ with_members no_members (map value_member l.entries)
