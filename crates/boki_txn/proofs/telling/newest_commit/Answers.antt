use Rattle.std.proofs.Common.{◌∙◌, ap, reverse, arith}
use Rattle.boki_model.specs.Live.{upto}
use Rattle.boki_model.specs.Reads.{tagged_seqnums}
use Rattle.step_log.specs.Sound.{view}
use Rattle.log_folds.specs.Own.{commit_tag}
use Rattle.boki_txn.proofs.Kept.{first_none, first_some}
use Rattle.boki_txn.proofs.telling.newest_commit.Goals as goal

pub returns-then-count-eq0 : goal.returns-then-count-eq0
returns-then-count-eq0 c =
    first_none (tagged_seqnums commit_tag (upto c.args.below (view c.args.book.now c.args.engine))) c.seqnums_upto-seqs.result.now
    (c.seqnums_upto-seqs.ensures ∙ ap (λ n. reverse (tagged_seqnums n (upto c.args.below (view c.args.book.now c.args.engine)))) c.commit_tag.ensures)
    c.if-count-eq0.true

pub returns : goal.returns
returns c =
    first_some (tagged_seqnums commit_tag (upto c.args.below (view c.args.book.now c.args.engine))) c.seqnums_upto-seqs.result.now
    (c.seqnums_upto-seqs.ensures ∙ ap (λ n. reverse (tagged_seqnums n (upto c.args.below (view c.args.book.now c.args.engine)))) c.commit_tag.ensures)
    (let some = c.if-count-eq0.false in omega arith)
