use Rattle.std.proofs.Common.{◌≡◌, ◌≤◌, length, vec_len, vec_capacity}
use Rattle.live_work.specs.Teams.{engines_of, answers_of}
use Rattle.live_work.proofs.team.disband.Given as goal

abbrev pub invariant-loop-worker : goal.invariant-loop-worker
invariant-loop-worker g l = record {
  engines : l.engines.items ≡ engines_of l.yielded;
  engine_count : vec_len l.engines ≡ length l.yielded;
  engine_room : vec_len l.fn.team ≤ vec_capacity l.engines;
  sheets : l.sheets.items ≡ answers_of l.yielded;
  sheet_count : vec_len l.sheets ≡ length l.yielded;
  sheet_room : vec_len l.fn.team ≤ vec_capacity l.sheets;
}
