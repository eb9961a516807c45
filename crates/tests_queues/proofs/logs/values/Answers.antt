use Rattle.std.proofs.Common.{Some, sym, ap, ◌∙◌}
use Rattle.boki_model.specs.Bodies.{step_tag}
use Rattle.boki_queue.specs.QueueStates.{queue_of}
use Rattle.tests_queues.proofs.Books.{queue_at_place}
use Rattle.tests_queues.proofs.logs.values.Goals as goal

pub queue_at-requires-clause-record : goal.queue_at-requires-clause-record
queue_at-requires-clause-record c =
    queue_at_place c.args.book.now (step_tag c.path.result) c.args.place c.in_ok-seq.field-0 (c.in-Some.seq, c.in-Some.body) c.as_str.result.now
    c.in_ok-seq.ensures c.in-Some.is (ap queue_of c.in-Push.is ∙ ap Some (sym c.as_str.ensures))

pub queue_at-requires-in-Pop-clause-record : goal.queue_at-requires-in-Pop-clause-record
queue_at-requires-in-Pop-clause-record c =
    queue_at_place c.args.book.now (step_tag c.path.result) c.args.place c.in_ok-seq.field-0 (c.in-Some.seq, c.in-Some.body) c.as_str-in-Pop.result.now
    c.in_ok-seq.ensures c.in-Some.is (ap queue_of c.in-Pop.is ∙ ap Some (sym c.as_str-in-Pop.ensures))
