use Rattle.cluster_events.proofs.Sends.{trim_tag_done}
use Rattle.cluster_events.proofs.sending.trim_tag.Goals as goal

pub returns : goal.returns
returns c fs setup m valid are =
    trim_tag_done setup fs m c.args.parts.now are c.send_body-sent.new.book (c.send_body-sent.ensures.sound are.stand.kept.sound) c.args.engine c.in_ok-sent.field-0 c.args.tag c.args.upto valid c.in_ok-sent.ensures.ok
