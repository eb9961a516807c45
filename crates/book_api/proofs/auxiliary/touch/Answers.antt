use Rattle.std.proofs.Common.{◌∙◌, ap, is_some}
use Rattle.book_api.proofs.Caches.{get_is_used, lookup_aux}
use Rattle.book_api.proofs.auxiliary.touch.Goals as goal

pub returns-clause-found : goal.returns-clause-found
returns-clause-found c = c.get.ensures.found ∙ ap is_some (lookup_aux c.args.seq.0 c.args.cache.now.entries)

pub returns-clause-after : goal.returns-clause-after
returns-clause-after c = get_is_used c.args.seq.0 c.args.cache.now c.get.new.self (c.len-count.ensures.valid, c.requires) c.get.ensures.order
