use Rattle.std.proofs.Common.{◌∙◌, ◌≤◌, ap, arith}
use Rattle.book_api.specs.Books.{position}
use Rattle.book_api.specs.Inside.{aux_in}
use Rattle.boki_machine.specs.Machine.{move_to_front}
use Rattle.book_api.proofs.Caches.{kept_after_set, cache_within, covered_is}
use Rattle.book_api.proofs.book.Book.set_aux.Goals as goal

pub returns-clause-ok : goal.returns-clause-ok
returns-clause-ok c =
    let b = c.self.inside in
    let low : 1 ≤ c.args.seq.0 = omega arith in
    let at = c.position.ensures in
    let high : c.args.seq.0 ≤ position c.args.self.now c.args.engine = omega arith in
    let covered = covered_is c.args.seq.0 (position c.args.self.now c.args.engine) low high in
    record {
      answer = covered;
      after = kept_after_set b.shards b.metalog b.indexes.items b.aux.items c.args.self.now c.args.engine c.index_mut-cache.result.now c.self.view_is
          (cache_within b.shards b.metalog b.indexes.items b.aux.items c.args.self.now c.args.engine c.self.view_is c.requires c.self.invariant.engines.caches) c.index_mut-cache.ensures.value
          c.args.seq.0 c.args.bytes.now c.put.new.cache covered
          (c.in_ok-put.ensures.ok ∙ ap (λ v. move_to_front c.args.seq.0 v (aux_in c.index_mut-cache.result.now)) c.in_ok-bytes.ensures);
    }
