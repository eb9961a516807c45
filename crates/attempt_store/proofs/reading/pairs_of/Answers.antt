use Rattle.std.proofs.Common.{◌∙◌}
use Rattle.std.specs.Prelude.{zip}
use Rattle.std.specs.Iterator.Adapters.{zip_first, zip_second}
use Rattle.std.specs.Slice.Iter.{iter_rest}
use Rattle.std.proofs.lemmas.Slice.Zip.{either_empty_from_Zip}
use Rattle.attempt_store.proofs.Pairs.{none_more}
use Rattle.attempt_store.proofs.reading.pairs_of.Goals as goal

pub returns : goal.returns
returns c =
    c.from_vec.ensures
    ∙ none_more c.pairs.pairs.items (iter_rest (zip_first c.pairs.name-iterator)) (iter_rest (zip_second c.pairs.name-iterator)) (zip c.args.names.now c.args.values.now)
    (either_empty_from_Zip c.pairs.name-iterator c.next.new.self c.next.result c.in-None.is c.next.ensures.steps) c.pairs.invariant.2
