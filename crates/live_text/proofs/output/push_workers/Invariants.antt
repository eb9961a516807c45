use Rattle.std.proofs.Common.{◌≡◌, ◌+◌, ◌++◌, drop}
use Rattle.std.specs.String.{string_bytes}
use Rattle.live_text.specs.Printed.{worker_lines}
use Rattle.live_text.proofs.output.push_workers.Given as goal

abbrev pub invariant-workers : goal.invariant-workers
invariant-workers l = record {
  counted : l.worker ≡ l.sheet-index;
  written : string_bytes l.out ++ worker_lines (l.worker + 1) (drop l.sheet-index l.answers) ≡ string_bytes l.fn.out ++ worker_lines 1 l.answers;
}
