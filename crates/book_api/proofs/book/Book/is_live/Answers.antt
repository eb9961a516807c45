use Rattle.std.proofs.Common.{◌∙◌, ap}
use Rattle.boki_model.specs.Live.{is_live}
use Rattle.book_api.proofs.book.Book.is_live.Goals as goal

pub returns : goal.returns
returns c =
    let v = c.index_of.ensures in
    c.live.ensures v.log v.shows ∙ ap (is_live c.args.seq.0) v.view
