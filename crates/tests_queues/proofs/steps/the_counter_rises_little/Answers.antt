use Rattle.std.proofs.Common.{refl}
use Rattle.tests_queues.proofs.steps.the_counter_rises_little.Goals as goal

pub returns : goal.returns
returns c = record { first = refl; second = λ v. refl }
