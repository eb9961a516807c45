use Rattle.book_api.specs.Inside.{log_in}
use Rattle.book_api.proofs.Prefix.{view_none}
use Rattle.book_api.proofs.Coming.{whole_shown}
use Rattle.book_api.proofs.book.Book.whole.Goals as goal

pub catch_index-requires-clause-view : goal.catch_index-requires-clause-view
catch_index-requires-clause-view c =
    let b = c.self.inside in
    view_none (log_in b.shards b.metalog) c.in_ok-index.index c.in_ok-index.ensures

pub returns : goal.returns
returns c =
    let b = c.self.inside in
    whole_shown b.shards b.metalog b.indexes.items b.aux.items c.args.self.now c.catch_index.new.index c.self.view_is c.catch_index.ensures.view.view c.in_ok-catch_index.ensures.end
