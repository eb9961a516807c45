use Rattle.std.proofs.Common.{◌∙◌, ap, arith}
use Rattle.std.specs.Prelude.{nat_lt}
use Rattle.std.specs.List.{list_all}
use Rattle.rec_codec.proofs.Fields.{all_bytes}
use Rattle.step_log.proofs.sending.spelled_user.Goals as goal

pub encode-spelling-requires : goal.encode-spelling-requires
encode-spelling-requires c =
    ap (list_all (λ b. nat_lt b 256)) c.in_ok-from_slice.ensures ∙ all_bytes c.args.bytes.now (λ i. omega (arith, c.type_inv.bytes i))

pub returns-in-Ok-clause-range : goal.returns-in-Ok-clause-range
returns-in-Ok-clause-range c = all_bytes c.args.bytes.now (λ i. omega (arith, c.type_inv.bytes i))
