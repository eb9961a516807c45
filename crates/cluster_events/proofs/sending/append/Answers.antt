use Rattle.cluster_events.proofs.Sends.{append_said}
use Rattle.cluster_events.proofs.sending.append.Goals as goal

pub returns : goal.returns
returns c fs setup m valid are =
    append_said setup fs m c.args.parts.now are c.send_user.new.book (c.send_user.ensures.sound are.stand.kept.sound) c.args.engine c.in_ok-sent.sent c.args.tags.now c.as_slice.result.now c.args.text.now c.as_bytes-bytes.result.now
    valid c.as_slice.ensures c.as_bytes-bytes.ensures.value c.note_bytes.ensures c.as_bytes-bytes.ensures.utf8 c.in_ok-sent.ensures.ok
