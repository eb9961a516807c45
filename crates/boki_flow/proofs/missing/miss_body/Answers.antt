use Rattle.std.proofs.Common.{[], ◌∷◌, sym, ap, subst}
use Rattle.boki_types.specs.declared.line.Miss.TheVariants as what
use Rattle.boki_machine.specs.Step.{Missed, misses_record, misses_marker}
use Rattle.boki_flow.specs.Flow.{IsMissed}
use Rattle.boki_flow.specs.Arms.{SeesSeqnum}
use Rattle.boki_flow.proofs.Leading.{leads_misses, leads_miss_cut}
use Rattle.boki_flow.proofs.Misses.{misses_none, no_marker}
use Rattle.boki_flow.proofs.missing.miss_body.Goals as goal

pub returns-in-Read-clause-ok : goal.returns-in-Read-clause-ok
returns-in-Read-clause-ok c =
    let old = c.args.parts.now in
    leads_misses (λ fs. SeesSeqnum old c.args.seq.0) (λ fs. SeesSeqnum old c.args.seq.0) (λ fs setup store a. misses_record store c.args.seq.0 c.args.body.now) (λ fs setup store a. misses_marker store c.args.seq.0 (c.in-Read.key ∷ []))
    old c.miss_marker.new.parts c.args.state.now
    (λ fs. record { needs = λ setup store a stands p. p; same = λ setup store a stands p. sym (ap (misses_record store c.args.seq.0) c.in-Read.is) })
    c.miss_marker.result c.miss_marker.ensures.ok

pub returns-in-Read-clause-cut : goal.returns-in-Read-clause-cut
returns-in-Read-clause-cut c =
    let old = c.args.parts.now in
    leads_miss_cut (λ fs. SeesSeqnum old c.args.seq.0) (λ fs. SeesSeqnum old c.args.seq.0) (λ fs setup store a. misses_record store c.args.seq.0 c.args.body.now) (λ fs setup store a. misses_marker store c.args.seq.0 (c.in-Read.key ∷ []))
    old c.miss_marker.new.parts c.args.state.now
    (λ fs. record { needs = λ setup store a stands p. p; same = λ setup store a stands p. sym (ap (misses_record store c.args.seq.0) c.in-Read.is) })
    c.miss_marker.result c.miss_marker.ensures.cut

pub returns-in-ReadGroup-clause-ok : goal.returns-in-ReadGroup-clause-ok
returns-in-ReadGroup-clause-ok c =
    let old = c.args.parts.now in
    leads_misses (λ fs. SeesSeqnum old c.args.seq.0) (λ fs. SeesSeqnum old c.args.seq.0) (λ fs setup store a. misses_record store c.args.seq.0 c.args.body.now) (λ fs setup store a. misses_marker store c.args.seq.0 c.in-ReadGroup.keys)
    old c.miss_group.new.parts c.args.state.now
    (λ fs. record { needs = λ setup store a stands p. p; same = λ setup store a stands p. sym (ap (misses_record store c.args.seq.0) c.in-ReadGroup.is) })
    c.miss_group.result c.miss_group.ensures.ok

pub returns-in-ReadGroup-clause-cut : goal.returns-in-ReadGroup-clause-cut
returns-in-ReadGroup-clause-cut c =
    let old = c.args.parts.now in
    leads_miss_cut (λ fs. SeesSeqnum old c.args.seq.0) (λ fs. SeesSeqnum old c.args.seq.0) (λ fs setup store a. misses_record store c.args.seq.0 c.args.body.now) (λ fs setup store a. misses_marker store c.args.seq.0 c.in-ReadGroup.keys)
    old c.miss_group.new.parts c.args.state.now
    (λ fs. record { needs = λ setup store a stands p. p; same = λ setup store a stands p. sym (ap (misses_record store c.args.seq.0) c.in-ReadGroup.is) })
    c.miss_group.result c.miss_group.ensures.cut

pub returns-in_default-clause-ok : goal.returns-in_default-clause-ok
returns-in_default-clause-ok c = λ fs setup store a stands p.
    subst (λ (missed : Missed). IsMissed setup missed c.args.parts.now c.args.parts.now what.Nothing)
    (no_marker store c.args.seq.0 c.args.body.now c.in_default.not-Read c.in_default.not-ReadGroup)
    (misses_none setup fs store a c.args.parts.now c.args.state.now stands)
