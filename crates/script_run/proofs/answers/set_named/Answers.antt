use Rattle.std.specs.Iterator.Adapters.{zip_first, zip_second}
use Rattle.std.specs.Slice.Iter.{iter_rest}
use Rattle.std.proofs.lemmas.Slice.Zip.{either_empty_from_Zip}
use Rattle.boki_model.specs.Script.{pair_names}
use Rattle.script_run.specs.Answering.{put_each}
use Rattle.script_run.proofs.Sets.{run_out, first_names}
use Rattle.script_run.proofs.answers.set_named.Goals as goal

pub returns : goal.returns
returns c =
    run_out (pair_names (iter_rest (zip_first c.pairs.pair-iterator))) (iter_rest (zip_second c.pairs.pair-iterator)) c.pairs.variables.items (put_each (pair_names c.args.pairs.now) c.args.values.now c.args.variables.now.items)
    (first_names (iter_rest (zip_first c.pairs.pair-iterator)) (iter_rest (zip_second c.pairs.pair-iterator)) (either_empty_from_Zip c.pairs.pair-iterator c.next.new.self c.next.result c.in-None.is c.next.ensures.steps)) c.pairs.invariant.2
