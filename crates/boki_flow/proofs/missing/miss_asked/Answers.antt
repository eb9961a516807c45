use Rattle.boki_flow.specs.Arms.{HasBegun, ScriptAsks, asked_missed}
use Rattle.boki_flow.proofs.Leading.{can_miss_if, leads_misses, leads_miss_cut}
use Rattle.boki_flow.proofs.Misses.{misses_unframed, misses_framed}
use Rattle.boki_flow.proofs.missing.miss_asked.Goals as goal

pub miss_ask-requires : goal.miss_ask-requires
miss_ask-requires c =
    can_miss_if (λ fs. HasBegun) (λ fs. ScriptAsks fs c.ask.result.now) c.args.parts.now c.args.state.now
    (λ fs. (misses_framed c.args.parts.now c.args.state.now c.in-Some.frame c.ask.result.now c.in-Some.is c.ask.ensures.same fs).needs) c.requires

pub returns-in-Some-clause-ok : goal.returns-in-Some-clause-ok
returns-in-Some-clause-ok c =
    let old = c.args.parts.now in
    leads_misses (λ fs. HasBegun) (λ fs. ScriptAsks fs c.ask.result.now) (asked_missed) (asked_missed) old c.miss_ask.new.parts c.args.state.now
    (misses_framed c.args.parts.now c.args.state.now c.in-Some.frame c.ask.result.now c.in-Some.is c.ask.ensures.same) c.miss_ask.result c.miss_ask.ensures.ok

pub returns-in-Some-clause-cut : goal.returns-in-Some-clause-cut
returns-in-Some-clause-cut c =
    let old = c.args.parts.now in
    leads_miss_cut (λ fs. HasBegun) (λ fs. ScriptAsks fs c.ask.result.now) (asked_missed) (asked_missed) old c.miss_ask.new.parts c.args.state.now
    (misses_framed c.args.parts.now c.args.state.now c.in-Some.frame c.ask.result.now c.in-Some.is c.ask.ensures.same) c.miss_ask.result c.miss_ask.ensures.cut

pub returns-in-None-clause-ok : goal.returns-in-None-clause-ok
returns-in-None-clause-ok c = misses_unframed c.args.parts.now c.args.state.now c.in-None.is
