use Rattle.cluster_events.proofs.Sends.{switch_done}
use Rattle.cluster_events.proofs.sending.switch.Goals as goal

pub returns : goal.returns
returns c fs setup m valid are = switch_done setup fs m c.args.parts.now are c.begin.new.book (c.begin.ensures.sound are.stand.kept.sound) c.args.engine c.in_ok-begin.field-0 c.args.target valid c.in_ok-begin.ensures.ok
