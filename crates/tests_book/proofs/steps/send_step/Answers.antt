use Rattle.std.proofs.Common.{arith}
use Rattle.rec_codec.proofs.Fields.{all_bytes}
use Rattle.tests_book.proofs.steps.send_step.Goals as goal

-- what is decoded is in range
pub send-sent-requires-clause-range : goal.send-sent-requires-clause-range
send-sent-requires-clause-range c =
    (c.read_is_spelled.ensures c.args.bytes.now c.in-Ok.body (all_bytes c.args.bytes.now (λ i. omega (arith, c.type_inv.bytes i))) c.in-Ok.ensures).0
