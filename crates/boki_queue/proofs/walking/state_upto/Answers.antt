use Rattle.std.proofs.Common.{◌∙◌, ap, reverse}
use Rattle.boki_model.specs.Live.{upto}
use Rattle.boki_model.specs.Reads.{tagged_seqnums}
use Rattle.step_log.specs.Sound.{view}
use Rattle.boki_queue.proofs.States.{state_from_kept, state_from_start}
use Rattle.boki_queue.proofs.walking.state_upto.Goals as goal

pub returns-in-Some-clause-ok : goal.returns-in-Some-clause-ok
returns-in-Some-clause-ok g c =
    let seqs = c.seqnums_upto-seqs.ensures ∙ ap (λ n. reverse (tagged_seqnums n (upto c.args.upto (view c.args.book.now c.args.engine)))) c.tag_of_queue.ensures in
    state_from_kept c.changed_by_each.result c.args.book.now c.args.engine c.args.queue.now c.args.upto c.requires.sound c.args.rows.now.items c.changed_by_each.new.rows.items c.args.entries.now
    c.seqnums_upto-seqs.result.now c.from_index-above.result.now c.in-Some.found seqs c.from_index-above.ensures c.requires.folds c.in-Some.ensures.found c.changed_by_each.ensures.ok

pub returns-in_ok-start-in-None-clause-ok : goal.returns-in_ok-start-in-None-clause-ok
returns-in_ok-start-in-None-clause-ok g c =
    let seqs = c.seqnums_upto-seqs.ensures ∙ ap (λ n. reverse (tagged_seqnums n (upto c.args.upto (view c.args.book.now c.args.engine)))) c.tag_of_queue.ensures in
    state_from_start c.changed_by_each-in-None.result c.args.book.now c.args.engine c.args.queue.now c.args.upto c.requires.sound c.empty.new.rows.items c.changed_by_each-in-None.new.rows.items
    c.seqnums_upto-seqs.result.now c.in_ok-start-in-None.start seqs c.in_ok-start-in-None.ensures.ok c.changed_by_each-in-None.ensures.ok
