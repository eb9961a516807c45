use Rattle.std.proofs.Common.{◌≡◌, ◌+◌, ◌++◌, drop}
use Rattle.std.specs.String.{string_bytes}
use Rattle.live_text.specs.Printed.{record_lines}
use Rattle.live_text.proofs.output.push_records.Given as goal

abbrev pub invariant-records : goal.invariant-records
invariant-records l = record {
  counted : l.seq ≡ l.item-index;
  written : string_bytes l.out ++ record_lines (l.seq + 1) (drop l.item-index l.list) ≡ string_bytes l.fn.out ++ record_lines 1 l.list;
}
