use Rattle.std.proofs.Common.{◌≡◌, ◌∙◌, sym, ap, slice_get, Some, None, option_copied}
use Rattle.obj_store.proofs.InOrder.{is_found, found_at, found_none, found_some}
use Rattle.obj_store.proofs.writes.has_write.Goals as goal

pub returns-in-Some : goal.returns-in-Some
returns-in-Some c = λ up.
    let e : slice_get c.args.writes.now c.index_of.result ≡ Some c.in-Some.write.now = sym c.write_at.ensures ∙ ap option_copied c.in-Some.is in
    found_some c.args.first c.args.second (slice_get c.args.writes.now c.index_of.result) c.in-Some.write.now c.is_at.result e c.is_at.ensures.0 c.is_at.ensures.1
    ∙ ap (λ n. is_found c.args.first c.args.second (slice_get c.args.writes.now n)) (c.index_of.ensures.index up)
    ∙ found_at c.args.first c.args.second c.args.writes.now up

pub returns-in-None : goal.returns-in-None
returns-in-None c = λ up.
    let e : slice_get c.args.writes.now c.index_of.result ≡ None = sym c.write_at.ensures ∙ ap option_copied c.in-None.is in
    found_none c.args.first c.args.second (slice_get c.args.writes.now c.index_of.result) e
    ∙ ap (λ n. is_found c.args.first c.args.second (slice_get c.args.writes.now n)) (c.index_of.ensures.index up)
    ∙ found_at c.args.first c.args.second c.args.writes.now up
