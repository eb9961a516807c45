use Rattle.std.proofs.Common.{arith}
use Rattle.std.proofs.lemmas.Result.{on_ok_weaker}
use Rattle.boki_queue.proofs.Windows.{set_is_with, sound_set}
use Rattle.boki_queue.proofs.telling.keep.Goals as goal

pub returns-clause-ok : goal.returns-clause-ok
returns-clause-ok c =
    on_ok_weaker c.set.result
    (λ made. set_is_with c.args.rows.now.items c.args.entries.now c.set.new.self c.args.seq.0 c.args.w c.requires.whole c.requires.within c.len-count.ensures.valid (let few = c.if-w-gt-MOST_VALUES.false in omega arith) made)
    c.set.ensures.ok

pub returns-clause-whole : goal.returns-clause-whole
returns-clause-whole c = sound_set c.set.result c.args.rows.now.items c.args.entries.now c.set.new.self c.args.seq.0 c.args.w c.requires.whole c.requires.within c.set.ensures.ok c.set.ensures.err
