use Rattle.std.proofs.Common.{◌≡◌, ◌∙◌, sym, ap, reverse, max, arith, rules}
use Rattle.boki_model.specs.Reads.{tagged_seqnums}
use Rattle.boki_model.specs.Bodies.{tag_number}
use Rattle.std.proofs.lemmas.List.{take_all}
use Rattle.book_api.specs.Books.{ordered, position, seen}
use Rattle.book_api.specs.Trims.{bound_at}
use Rattle.book_api.proofs.Trimmed.{most_of, most_more, hidden_is, hidden_none, hidden_seen}
use Rattle.book_api.proofs.book.Book.hidden.Goals as goal

pub returns-then-tag-ge-USER_TAGS-clause-value : goal.returns-then-tag-ge-USER_TAGS-clause-value
returns-then-tag-ge-USER_TAGS-clause-value c = sym (hidden_none c.args.tag.0 (seen c.args.self.now c.args.engine) (omega arith))

pub loop-seq-preserved : goal.loop-seq-preserved
loop-seq-preserved c =
    let most : c.max-bound.result ≡ max c.loop-seq.bound c.bound_at.result = search rules in
    most
    ∙ most_more (bound_at c.args.tag.0 (ordered c.args.self.now)) c.seqnums-trims.result.now c.loop-seq.seq-index c.loop-seq.bound c.bound_at.result c.loop-seq-test.true c.bound_at.ensures c.loop-seq.invariant

pub returns-clause-value : goal.returns-clause-value
returns-clause-value c =
    let v = c.index_of-index.ensures in
    let b = c.args.self.now in
    let trims = c.seqnums-trims.result.now in
    c.loop-seq.invariant
    ∙ ap (most_of (bound_at c.args.tag.0 (ordered b))) (take_all c.loop-seq.seq-index trims (omega arith))
    ∙ sym (hidden_is c.args.tag.0 (position b c.args.engine) (ordered b) trims (c.seqnums-trims.ensures v.log v.shows ∙ ap (λ xs. reverse (tagged_seqnums (tag_number 8 c.args.tag.0) xs)) v.view))

pub returns-clause-bound : goal.returns-clause-bound
returns-clause-bound c =
    let v = c.index_of-index.ensures in
    let b = c.args.self.now in
    let trims = c.seqnums-trims.result.now in
    let value =
    c.loop-seq.invariant
    ∙ ap (most_of (bound_at c.args.tag.0 (ordered b))) (take_all c.loop-seq.seq-index trims (omega arith))
    ∙ sym (hidden_is c.args.tag.0 (position b c.args.engine) (ordered b) trims (c.seqnums-trims.ensures v.log v.shows ∙ ap (λ xs. reverse (tagged_seqnums (tag_number 8 c.args.tag.0) xs)) v.view)) in
    let most = hidden_seen c.args.tag.0 (position b c.args.engine) v.log (seen b c.args.engine) v.view v.long in
    let few = v.few in
    omega (arith, value, most)
