use Rattle.std.proofs.Common.{ℕ, List, subst}
use Rattle.boki_types.specs.declared.store.Answered.{Answered}
use Rattle.hm_write.specs.Marked.{ReadsMarked}
use Rattle.boki_flow.proofs.Standing.{has_engine}
use Rattle.boki_flow.proofs.Misses.{marker_gone, marker_read}
use Rattle.boki_flow.proofs.missing.miss_marker.Goals as goal

pub read_marked-requires : goal.read_marked-requires
read_marked-requires c =
    has_engine c.requires.1.setup c.requires.0 c.requires.1.store c.requires.1.attempt c.args.parts.now c.args.state.now c.requires.1.stands

pub returns-in-Gone-clause-ok : goal.returns-in-Gone-clause-ok
returns-in-Gone-clause-ok c =
    let old = c.args.parts.now in
    let engine = c.args.state.now.progress.engine in
    marker_gone old c.args.state.now c.args.seq.0 c.read_marked.new.store c.args.key.now
    (subst (λ (a : Answered). ReadsMarked old.book engine c.args.seq.0 c.args.key.now old.store c.read_marked.new.store a) c.in-Gone.is
    (subst (λ (key : List ℕ). ReadsMarked old.book engine c.args.seq.0 key old.store c.read_marked.new.store c.in_ok-read_marked.field-0) c.as_str.ensures c.in_ok-read_marked.ensures.ok))

pub returns-in-Value-clause-ok : goal.returns-in-Value-clause-ok
returns-in-Value-clause-ok c =
    let old = c.args.parts.now in
    let engine = c.args.state.now.progress.engine in
    marker_read old c.args.state.now c.args.seq.0 c.read_marked.new.store c.args.key.now c.in-Value.value
    (subst (λ (a : Answered). ReadsMarked old.book engine c.args.seq.0 c.args.key.now old.store c.read_marked.new.store a) c.in-Value.is
    (subst (λ (key : List ℕ). ReadsMarked old.book engine c.args.seq.0 key old.store c.read_marked.new.store c.in_ok-read_marked.field-0) c.as_str.ensures c.in_ok-read_marked.ensures.ok))
