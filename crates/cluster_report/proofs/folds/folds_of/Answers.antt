use Rattle.std.proofs.Common.{◌≡◌, ◌∙◌, ◌+◌, suc, length, sym, ap, arith}
use Rattle.boki_model.specs.Live.{upto}
use Rattle.book_api.specs.Books.{ordered}
use Rattle.step_log.specs.Sound.{live_bodies}
use Rattle.cluster_report.specs.Folded.{maps_of, folded, added_some}
use Rattle.cluster_report.proofs.Walks.{holds_at, none_seen, all_seen}
use Rattle.cluster_report.proofs.Folding.{seqnum_more}
use Rattle.cluster_report.proofs.folds.folds_of.Goals as goal

pub loop-past-init : goal.loop-past-init
loop-past-init c = c.in_ok-folds.ensures ∙ ap (folded c.args.keys.now) (sym (none_seen c.args.book.now))

pub loop-past-preserved : goal.loop-past-preserved
loop-past-preserved c =
    let book = c.args.book.now in
    let past = c.loop-past.past in
    let one : c.loop-past.past + 1 ≡ suc c.loop-past.past = omega arith in
    c.in_ok-add_at.ensures
    ∙ ap (λ s. added_some s (holds_at book s) (maps_of c.loop-past.folds)) one
    ∙ ap (added_some (suc past) (holds_at book (suc past))) c.loop-past.invariant
    ∙ seqnum_more c.args.keys.now book past
    ∙ ap (λ s. folded c.args.keys.now (upto s (live_bodies book))) (sym one)

pub returns : goal.returns
returns c =
    let book = c.args.book.now in
    let all : c.loop-past.past ≡ length (ordered c.args.book.now) = omega (arith, c.length-past-end.ensures) in
    c.loop-past.invariant
    ∙ ap (λ n. folded c.args.keys.now (upto n (live_bodies book))) all
    ∙ ap (folded c.args.keys.now) (all_seen book)
