use Rattle.std.proofs.Common.{rules}
use Rattle.std.specs.Prelude.{IsTrue, nat_lt}
use Rattle.std.specs.List.{list_all}
use Rattle.tests_log.proofs.codec.comes_round.Goals as goal

-- what is decoded is in range
pub encode-again-requires : goal.encode-again-requires
encode-again-requires c =
    let small : IsTrue (list_all (λ b. nat_lt b 256) c.args.bytes.now) = search rules in
    (c.read_is_spelled.ensures c.args.bytes.now c.in-Ok.body small c.in-Ok.ensures).0
