use Rattle.std.proofs.Common.{◌≡◌, ◌+◌, ◌-◌, ◌++◌, []}
use Rattle.eng_index.specs.IndexState.{IsIndexOf}
use Rattle.live_text.specs.Outputs.{log_of}
use Rattle.live_work.specs.Plain.{list_of_workers, answers_of_workers}
use Rattle.live_work.proofs.plain.in_turn.Given as goal

abbrev pub invariant-workers : goal.invariant-workers
invariant-workers l = record {
  index : IsIndexOf (log_of l.list) l.index;
  behind : list_of_workers (l.text.workers - l.done) (l.done + 1) l.text.lines l.list ≡ list_of_workers l.text.workers 1 l.text.lines [];
  answered : l.answers ++ answers_of_workers (l.text.workers - l.done) (l.done + 1) l.text.lines l.list ≡ answers_of_workers l.text.workers 1 l.text.lines [];
}
