use Rattle.std.proofs.Common.{◌≡◌, ◌∙◌, true, false, Some, sym, ap, rules}
use Rattle.book_api.specs.Books.{log_of}
use Rattle.cluster_report.proofs.Walks.{is_found, is_missed}
use Rattle.cluster_report.proofs.walk.live_body.Goals as goal

pub returns-then-not-live : goal.returns-then-not-live
returns-then-not-live c =
    let f : c.live.result ≡ false = search rules in
    is_missed c.args.book.now c.args.seq.0 (sym (c.live.ensures (log_of c.args.book.now) c.requires) ∙ f)

pub returns : goal.returns
returns c =
    let t : c.live.result ≡ true = search rules in
    ap Some c.in_ok-body.ensures ∙ is_found c.args.book.now c.args.seq.0 (sym (c.live.ensures (log_of c.args.book.now) c.requires) ∙ t)
