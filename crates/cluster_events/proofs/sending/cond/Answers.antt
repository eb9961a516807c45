use Rattle.cluster_events.proofs.Sends.{cond_said, first_is}
use Rattle.cluster_events.proofs.sending.cond.Goals as goal

pub returns : goal.returns
returns c fs setup m valid are =
    cond_said setup fs m c.args.parts.now are c.send_user.new.book (c.send_user.ensures.sound are.stand.kept.sound) c.args.engine c.in_ok-sent.sent c.args.tags.now c.as_slice-2.result.now c.args.text.now c.as_bytes-bytes.result.now
    c.args.place _ valid (first_is setup fs c.args.engine c.args.place c.args.tags.now c.args.text.now c.as_slice.result.now _ c.as_slice.ensures valid)
    c.as_slice-2.ensures c.as_bytes-bytes.ensures.value c.note_bytes.ensures c.as_bytes-bytes.ensures.utf8 c.in_ok-sent.ensures.ok
