use Rattle.std.proofs.Common.{leb, rules}
use Rattle.std.proofs.lemmas.Fn.{filter_same}
use Rattle.boki_model.specs.Writes.{Write}
use Rattle.obj_store.proofs.writes.keep_from.Goals as goal

pub returns : goal.returns
returns c = filter_same _ (λ (w : Write). leb c.args.floor w.first) _ (λ x b q r. search rules) _ _ c.retain.ensures.filtered
