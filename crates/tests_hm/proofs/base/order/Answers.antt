use Rattle.std.proofs.Common.{sym, subst}
use Rattle.book_api.specs.Books.{HasEngine}
use Rattle.tests_hm.proofs.Engines.{after_a_cut, after_moving}
use Rattle.tests_hm.proofs.base.order.Goals as goal

pub returns-in_err-cut : goal.returns-in_err-cut
returns-in_err-cut c = subst (HasEngine 1) (sym c.in_err-cut.ensures.err) c.requires

pub catch_up-requires : goal.catch_up-requires
catch_up-requires c = after_a_cut 1 _ _ _ c.in_ok-cut.ensures.ok c.requires

pub returns-in_err-catch_up : goal.returns-in_err-catch_up
returns-in_err-catch_up c = after_moving 1 _ _ _ c.in_err-catch_up.ensures.err.same (after_a_cut 1 _ _ _ c.in_ok-cut.ensures.ok c.requires)

pub returns : goal.returns
returns c = after_moving 1 _ _ _ c.in_ok-catch_up.ensures.ok.after (after_a_cut 1 _ _ _ c.in_ok-cut.ensures.ok c.requires)
