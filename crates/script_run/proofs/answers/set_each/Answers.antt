use Rattle.std.specs.Iterator.Adapters.{zip_first, zip_second}
use Rattle.std.specs.Slice.Iter.{iter_rest}
use Rattle.std.proofs.lemmas.Slice.Zip.{either_empty_from_Zip}
use Rattle.script_run.specs.Answering.{put_each}
use Rattle.script_run.proofs.Sets.{run_out}
use Rattle.script_run.proofs.answers.set_each.Goals as goal

pub returns : goal.returns
returns c =
    run_out (iter_rest (zip_first c.pairs.name-iterator)) (iter_rest (zip_second c.pairs.name-iterator)) c.pairs.variables.items (put_each c.args.names.now c.args.values.now c.args.variables.now.items)
    ((either_empty_from_Zip c.pairs.name-iterator c.next.new.self c.next.result c.in-None.is c.next.ensures.steps)) c.pairs.invariant.2
