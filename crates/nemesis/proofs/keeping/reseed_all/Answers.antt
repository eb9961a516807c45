use Rattle.std.proofs.Common.{ap, arith}
use Rattle.nemesis_types.specs.Kept.{numbered_nemesis}
use Rattle.nemesis.proofs.KeptLemmas.{seeded_more}
use Rattle.nemesis.proofs.keeping.reseed_all.Goals as goal

pub loop-one-preserved : goal.loop-one-preserved
loop-one-preserved g c = seeded_more _ c.loop-one.one-items _ c.loop-one.one-index c.one-item.result _ c.args.n (omega arith) (ap (numbered_nemesis _) c.reseed.ensures) c.loop-one.invariant
