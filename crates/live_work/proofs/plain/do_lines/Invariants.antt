use Rattle.std.proofs.Common.{◌≡◌, ◌++◌, drop}
use Rattle.eng_index.specs.IndexState.{IsIndexOf}
use Rattle.live_text.specs.Outputs.{log_of, ops_of}
use Rattle.live_work.specs.Plain.{list_behind, plain_answers}
use Rattle.live_work.proofs.plain.do_lines.Given as goal

abbrev pub invariant-lines : goal.invariant-lines
invariant-lines l = record {
  index : IsIndexOf (log_of l.list) l.index;
  behind : list_behind l.worker (ops_of l.worker (drop l.line-index l.lines)) l.list ≡ list_behind l.worker (ops_of l.worker l.lines) l.fn.list;
  answered : l.answers ++ plain_answers l.worker (ops_of l.worker (drop l.line-index l.lines)) l.list ≡ plain_answers l.worker (ops_of l.worker l.lines) l.fn.list;
}
