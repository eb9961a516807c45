use Rattle.std.proofs.Common.{◌∙◌, sym}
use Rattle.boki_flow.specs.Arms.{FindsAnswer, AdoptsBody, next_move, adopting_move}
use Rattle.boki_flow.proofs.Leading.{can_if, leads_moves, leads_cut}
use Rattle.boki_flow.proofs.Standing.{has_engine}
use Rattle.boki_flow.proofs.Adopted.{adopts_found, adopts_none}
use Rattle.boki_flow.proofs.adopting.adopt.Goals as goal

pub at-requires : goal.at-requires
at-requires c =
    let r = c.requires in has_engine r.setup c.args.program.now.functions r.store r.attempt c.args.parts.now c.args.state.now r.stands

pub adopt_body-line-requires : goal.adopt_body-line-requires
adopt_body-line-requires c =
    let fs = c.args.program.now.functions in
    let old = c.args.parts.now in
    can_if (FindsAnswer fs old) (AdoptsBody fs old c.in-Some.seq.0 c.in-Some.body) fs old c.args.state.now
    (adopts_found fs old c.args.state.now c.in-Some.seq c.in-Some.body (sym c.in-Some.is ∙ c.in_ok-seq.ensures)).needs c.requires

pub returns-in-Some-clause-ok : goal.returns-in-Some-clause-ok
returns-in-Some-clause-ok c =
    let fs = c.args.program.now.functions in
    let old = c.args.parts.now in
    leads_moves (FindsAnswer fs old) (AdoptsBody fs old c.in-Some.seq.0 c.in-Some.body) fs old c.adopt_body-line.new.parts (next_move fs old) (adopting_move old c.in-Some.seq.0 c.in-Some.body) c.args.state.now c.adopt_body-line.new.state
    (adopts_found fs old c.args.state.now c.in-Some.seq c.in-Some.body (sym c.in-Some.is ∙ c.in_ok-seq.ensures)) c.adopt_body-line.result c.adopt_body-line.ensures.ok

pub returns-in-Some-clause-cut : goal.returns-in-Some-clause-cut
returns-in-Some-clause-cut c =
    let fs = c.args.program.now.functions in
    let old = c.args.parts.now in
    leads_cut (FindsAnswer fs old) (AdoptsBody fs old c.in-Some.seq.0 c.in-Some.body) fs old c.adopt_body-line.new.parts (next_move fs old) (adopting_move old c.in-Some.seq.0 c.in-Some.body) c.args.state.now c.adopt_body-line.new.state
    (adopts_found fs old c.args.state.now c.in-Some.seq c.in-Some.body (sym c.in-Some.is ∙ c.in_ok-seq.ensures)) c.adopt_body-line.result c.adopt_body-line.ensures.cut

pub returns-in-None-clause-ok : goal.returns-in-None-clause-ok
returns-in-None-clause-ok c =
    adopts_none c.args.program.now.functions c.args.parts.now c.args.state.now (next_move c.args.program.now.functions c.args.parts.now) _ (sym c.in-None.is ∙ c.in_ok-seq.ensures)
