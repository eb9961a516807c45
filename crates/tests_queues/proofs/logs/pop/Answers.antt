use Rattle.std.proofs.Common.{Some, sym, ap, ◌∙◌}
use Rattle.boki_model.specs.Bodies.{step_tag}
use Rattle.boki_queue.specs.QueueStates.{popped_of}
use Rattle.tests_queues.proofs.Books.{pop_at_place}
use Rattle.tests_queues.proofs.logs.pop.Goals as goal

pub pop_uncounted-requires-clause-record : goal.pop_uncounted-requires-clause-record
pop_uncounted-requires-clause-record c =
    pop_at_place c.args.book.now (step_tag c.path.result) c.args.place c.in_ok-seq.field-0 (c.in-Some.seq, c.in-Some.body) c.as_str.result.now
    c.in_ok-seq.ensures c.in-Some.is (ap popped_of c.in-Pop.is ∙ ap Some (sym c.as_str.ensures))
