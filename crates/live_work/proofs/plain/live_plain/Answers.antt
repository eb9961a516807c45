use Rattle.std.proofs.Common.{sym, subst}
use Rattle.live_text.specs.declared.answers.LiveRan.{LiveRan}
use Rattle.live_text.specs.Outputs.{IsRunOf}
use Rattle.live_work.proofs.PlainFits.{plain_fits}
use Rattle.live_work.proofs.plain.live_plain.Goals as goal

pub returns-in-Ok-clause-right : goal.returns-in-Ok-clause-right
returns-in-Ok-clause-right c = subst (λ (r : LiveRan). IsRunOf c.args.text.now r) (sym c.in-Ok.ensures) (plain_fits c.args.text.now)
