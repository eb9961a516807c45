use Rattle.std.proofs.Common.{refl, sym, ap, ◌∙◌}
use Rattle.std.specs.Option.{option_copied_mut}
use Rattle.cluster_run.proofs.Killing.{killed_at, none_at_index}
use Rattle.cluster_run.proofs.attempts.kill_at.Goals as goal

pub returns-then-runs_on : goal.returns-then-runs_on
returns-then-runs_on c fs xs all =
    killed_at fs c.args.engine c.in-Some.attempt.now c.kill.new.self (λ _ a is. c.kill.ensures.after fs a is) (λ rests. cc) c.args.index xs c.args.attempts.now.entries all c.in-Some.ensures.value

pub returns-else-runs_on : goal.returns-else-runs_on
returns-else-runs_on c fs xs all =
    killed_at fs c.args.engine c.in-Some.attempt.now c.in-Some.attempt.now (λ runs a is. cc) (λ _. refl) c.args.index xs c.args.attempts.now.entries all c.in-Some.ensures.value

pub returns-in_default : goal.returns-in_default
returns-in_default c fs xs all = none_at_index fs c.args.engine c.args.index xs c.args.attempts.now.entries all (ap option_copied_mut (sym c.in_default.is) ∙ c.get_index_mut.ensures.value)
