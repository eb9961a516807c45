use Rattle.std.proofs.Common.{Option, ap, arith}
use Rattle.boki_types.specs.declared.event.Event.{Event}
use Rattle.nemesis_types.specs.Kept.{numbered_nemesis}
use Rattle.nemesis.proofs.KeptLemmas.{asked_at}
use Rattle.nemesis.proofs.keeping.ask_at.Goals as goal

pub returns-clause-asks : goal.returns-clause-asks
returns-clause-asks g c =
    let number = c.index_mut-one.result.now.0 in
    asked_at _ _ c.args.at c.index_mut-one.result.now _ c.args.seen.now _ (omega arith) c.index_mut-one.ensures.value (ap (numbered_nemesis number) c.ask.ensures.after) (ap (λ (o : Option Event). (number, o)) c.ask.ensures.answer)
