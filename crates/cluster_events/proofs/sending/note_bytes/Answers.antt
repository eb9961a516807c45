use Rattle.std.proofs.Common.{arith}
use Rattle.rec_codec.proofs.Fields.{all_bytes}
use Rattle.cluster_events.proofs.sending.note_bytes.Goals as goal

pub returns : goal.returns
returns c = all_bytes c.args.bytes.now (λ i. omega (arith, c.type_inv.bytes i))
