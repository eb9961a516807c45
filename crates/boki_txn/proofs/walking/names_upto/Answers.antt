use Rattle.std.proofs.Common.{◌∙◌, ap, reverse}
use Rattle.boki_model.specs.Live.{upto}
use Rattle.boki_model.specs.Reads.{tagged_seqnums}
use Rattle.step_log.specs.Sound.{view}
use Rattle.boki_txn.specs.Walks.{kept_names}
use Rattle.boki_txn.proofs.Walks.{names_are}
use Rattle.boki_txn.proofs.walking.names_upto.Goals as goal

pub returns : goal.returns
returns c =
    names_are c.changed_by_each.result c.args.book.now c.args.engine c.args.upto c.requires.sound (kept_names c.args.entries.now) c.seqnums_upto-seqs.result.now c.from_index-above.result.now c.in_ok-start.start
    (c.seqnums_upto-seqs.ensures ∙ ap (λ n. reverse (tagged_seqnums n (upto c.args.upto (view c.args.book.now c.args.engine)))) c.commit_tag.ensures)
    c.from_index-above.ensures c.requires.folds c.in_ok-start.ensures c.changed_by_each.ensures
