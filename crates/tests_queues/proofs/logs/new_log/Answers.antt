use Rattle.tests_queues.proofs.Books.{new_is_log}
use Rattle.tests_queues.proofs.logs.new_log.Goals as goal

pub returns : goal.returns
returns c = new_is_log c.new.result c.new.ensures
