use Rattle.std.proofs.Common.{◌∙◌, reverse, ap}
use Rattle.boki_model.specs.Reads.{tagged_seqnums}
use Rattle.book_api.proofs.book.Book.seqnums.Goals as goal

pub returns : goal.returns
returns c =
    let v = c.index_of.ensures in
    c.seqnums.ensures v.log v.shows ∙ ap (λ xs. reverse (tagged_seqnums c.args.tag.0 xs)) v.view
