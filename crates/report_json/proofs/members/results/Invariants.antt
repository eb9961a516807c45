use Rattle.std.proofs.Common.{◌≡◌, drop}
use Rattle.std.specs.Prelude.{map}
use Rattle.serde_json.specs.Data.{no_members}
use Rattle.serde_json.specs.View.{members_view}
use Rattle.report_json.specs.Json.{with_members, result_member}
use Rattle.report_json.proofs.members.results.Given as goal

abbrev pub invariant-results : goal.invariant-results
invariant-results l = with_members (members_view l.members.entries) (map result_member (drop l.found-index l.results)) ≡ with_members no_members (map result_member l.results)
