use Rattle.std.proofs.Common.{refl, arith}
use Rattle.boki_types.specs.declared.body.Body.TheVariants as b
use Rattle.boki_types.specs.declared.line.StepLine.TheVariants as line
use Rattle.boki_types.specs.declared.operation.Answer.TheVariants as ans
use Rattle.boki_types.specs.declared.operation.Ask.TheVariants as k
use Rattle.boki_types.specs.declared.operation.Op.TheVariants as o
use Rattle.boki_model.specs.Bodies.{child}
use Rattle.boki_flow.specs.Arms.{AdoptsBody, AsksMarked, TakesAnswer, TakesPop, TakesCommit, adopting_move, marked_move, group_move, joined_move, popped_move, begun_move, committed_move}
use Rattle.boki_flow.proofs.Leading.{can_if, leads_moves, leads_cut}
use Rattle.boki_flow.proofs.Standing.{on_err}
use Rattle.boki_flow.proofs.StepCases.{cut_before}
use Rattle.boki_flow.proofs.Adopted.{marks_read, marks_group, joins, pops, begins, commits_so, answers_alone, adopts_other, no_operation, adopting_few, adopting_room, adopting_takes, spawn_child, join_child, child_small}
use Rattle.boki_flow.proofs.adopting.adopt_body.Goals as goal

pub adopt_marker-requires : goal.adopt_marker-requires
adopt_marker-requires c =
    let fs = c.args.program.now.functions in
    let old = c.args.parts.now in
    let kept = c.args.state.now in
    can_if (AdoptsBody fs old c.args.seq.0 c.args.body.now) (AsksMarked fs old (o.Read c.in-Read.key) c.args.seq.0) fs old kept (marks_read fs old kept c.args.seq c.args.body.now _ _ c.in-Read.key c.in-Read.is).needs c.requires

pub returns-in-Read-clause-ok : goal.returns-in-Read-clause-ok
returns-in-Read-clause-ok c =
    let fs = c.args.program.now.functions in
    let old = c.args.parts.now in
    let kept = c.args.state.now in
    leads_moves (AdoptsBody fs old c.args.seq.0 c.args.body.now) (AsksMarked fs old (o.Read c.in-Read.key) c.args.seq.0) fs old c.adopt_marker.new.parts (adopting_move old c.args.seq.0 c.args.body.now) (marked_move old c.args.seq.0 c.in-Read.key) kept c.adopt_marker.new.state
    (marks_read fs old kept c.args.seq c.args.body.now _ _ c.in-Read.key c.in-Read.is) c.adopt_marker.result c.adopt_marker.ensures.ok

pub returns-in-Read-clause-cut : goal.returns-in-Read-clause-cut
returns-in-Read-clause-cut c =
    let fs = c.args.program.now.functions in
    let old = c.args.parts.now in
    let kept = c.args.state.now in
    leads_cut (AdoptsBody fs old c.args.seq.0 c.args.body.now) (AsksMarked fs old (o.Read c.in-Read.key) c.args.seq.0) fs old c.adopt_marker.new.parts (adopting_move old c.args.seq.0 c.args.body.now) (marked_move old c.args.seq.0 c.in-Read.key) kept c.adopt_marker.new.state
    (marks_read fs old kept c.args.seq c.args.body.now _ _ c.in-Read.key c.in-Read.is) c.adopt_marker.result c.adopt_marker.ensures.cut

pub adopt_markers-requires : goal.adopt_markers-requires
adopt_markers-requires c =
    let fs = c.args.program.now.functions in
    let old = c.args.parts.now in
    let kept = c.args.state.now in
    can_if (AdoptsBody fs old c.args.seq.0 c.args.body.now) (AsksMarked fs old (o.ReadGroup c.in-ReadGroup.keys) c.args.seq.0) fs old kept (marks_group fs old kept c.args.seq c.args.body.now _ _ c.in-ReadGroup.keys c.in-ReadGroup.is).needs c.requires

pub returns-in-ReadGroup-clause-ok : goal.returns-in-ReadGroup-clause-ok
returns-in-ReadGroup-clause-ok c =
    let fs = c.args.program.now.functions in
    let old = c.args.parts.now in
    let kept = c.args.state.now in
    leads_moves (AdoptsBody fs old c.args.seq.0 c.args.body.now) (AsksMarked fs old (o.ReadGroup c.in-ReadGroup.keys) c.args.seq.0) fs old c.adopt_markers.new.parts (adopting_move old c.args.seq.0 c.args.body.now) (group_move old c.args.seq.0 c.in-ReadGroup.keys) kept c.adopt_markers.new.state
    (marks_group fs old kept c.args.seq c.args.body.now _ _ c.in-ReadGroup.keys c.in-ReadGroup.is) c.adopt_markers.result c.adopt_markers.ensures.ok

pub returns-in-ReadGroup-clause-cut : goal.returns-in-ReadGroup-clause-cut
returns-in-ReadGroup-clause-cut c =
    let fs = c.args.program.now.functions in
    let old = c.args.parts.now in
    let kept = c.args.state.now in
    leads_cut (AdoptsBody fs old c.args.seq.0 c.args.body.now) (AsksMarked fs old (o.ReadGroup c.in-ReadGroup.keys) c.args.seq.0) fs old c.adopt_markers.new.parts (adopting_move old c.args.seq.0 c.args.body.now) (group_move old c.args.seq.0 c.in-ReadGroup.keys) kept c.adopt_markers.new.state
    (marks_group fs old kept c.args.seq c.args.body.now _ _ c.in-ReadGroup.keys c.in-ReadGroup.is) c.adopt_markers.result c.adopt_markers.ensures.cut

pub adopt_join-requires : goal.adopt_join-requires
adopt_join-requires c =
    let fs = c.args.program.now.functions in
    let old = c.args.parts.now in
    let kept = c.args.state.now in
    let at = c.in_ok-changed.changed in
    can_if (AdoptsBody fs old c.args.seq.0 c.args.body.now) (TakesAnswer fs (k.Op (o.Join c.in-Join.ordinal)) at) fs old kept (joins fs old kept c.args.seq c.args.body.now _ _ c.in-Join.ordinal at c.in-Join.is c.in_ok-changed.ensures).needs c.requires

pub returns-in-Join-clause-ok : goal.returns-in-Join-clause-ok
returns-in-Join-clause-ok c =
    let fs = c.args.program.now.functions in
    let old = c.args.parts.now in
    let kept = c.args.state.now in
    let at = c.in_ok-changed.changed in
    leads_moves (AdoptsBody fs old c.args.seq.0 c.args.body.now) (TakesAnswer fs (k.Op (o.Join c.in-Join.ordinal)) at) fs old c.adopt_join.new.parts (adopting_move old c.args.seq.0 c.args.body.now) (joined_move old at c.in-Join.ordinal) kept c.adopt_join.new.state
    (joins fs old kept c.args.seq c.args.body.now _ _ c.in-Join.ordinal at c.in-Join.is c.in_ok-changed.ensures) c.adopt_join.result c.adopt_join.ensures.ok

pub returns-in-Join-clause-cut : goal.returns-in-Join-clause-cut
returns-in-Join-clause-cut c =
    let fs = c.args.program.now.functions in
    let old = c.args.parts.now in
    let kept = c.args.state.now in
    let at = c.in_ok-changed.changed in
    leads_cut (AdoptsBody fs old c.args.seq.0 c.args.body.now) (TakesAnswer fs (k.Op (o.Join c.in-Join.ordinal)) at) fs old c.adopt_join.new.parts (adopting_move old c.args.seq.0 c.args.body.now) (joined_move old at c.in-Join.ordinal) kept c.adopt_join.new.state
    (joins fs old kept c.args.seq c.args.body.now _ _ c.in-Join.ordinal at c.in-Join.is c.in_ok-changed.ensures) c.adopt_join.result c.adopt_join.ensures.cut

pub adopt_pop-requires : goal.adopt_pop-requires
adopt_pop-requires c =
    let fs = c.args.program.now.functions in
    let old = c.args.parts.now in
    let kept = c.args.state.now in
    let at = c.in_ok-changed.changed in
    can_if (AdoptsBody fs old c.args.seq.0 c.args.body.now) (TakesPop fs old c.in-Pop.queue at) fs old kept (pops fs old kept c.args.seq c.args.body.now _ _ c.in-Pop.queue at c.in-Pop.is c.in_ok-changed.ensures).needs c.requires

pub returns-in-Pop-clause-ok : goal.returns-in-Pop-clause-ok
returns-in-Pop-clause-ok c =
    let fs = c.args.program.now.functions in
    let old = c.args.parts.now in
    let kept = c.args.state.now in
    let at = c.in_ok-changed.changed in
    leads_moves (AdoptsBody fs old c.args.seq.0 c.args.body.now) (TakesPop fs old c.in-Pop.queue at) fs old c.adopt_pop.new.parts (adopting_move old c.args.seq.0 c.args.body.now) (popped_move old at c.in-Pop.queue) kept c.adopt_pop.new.state
    (pops fs old kept c.args.seq c.args.body.now _ _ c.in-Pop.queue at c.in-Pop.is c.in_ok-changed.ensures) c.adopt_pop.result c.adopt_pop.ensures.ok

pub returns-in-Pop-clause-cut : goal.returns-in-Pop-clause-cut
returns-in-Pop-clause-cut c =
    let fs = c.args.program.now.functions in
    let old = c.args.parts.now in
    let kept = c.args.state.now in
    let at = c.in_ok-changed.changed in
    leads_cut (AdoptsBody fs old c.args.seq.0 c.args.body.now) (TakesPop fs old c.in-Pop.queue at) fs old c.adopt_pop.new.parts (adopting_move old c.args.seq.0 c.args.body.now) (popped_move old at c.in-Pop.queue) kept c.adopt_pop.new.state
    (pops fs old kept c.args.seq c.args.body.now _ _ c.in-Pop.queue at c.in-Pop.is c.in_ok-changed.ensures) c.adopt_pop.result c.adopt_pop.ensures.cut

pub adopt_begin-requires : goal.adopt_begin-requires
adopt_begin-requires c =
    let fs = c.args.program.now.functions in
    let old = c.args.parts.now in
    let kept = c.args.state.now in
    let at = c.in_ok-changed.changed in
    can_if (AdoptsBody fs old c.args.seq.0 c.args.body.now) (TakesAnswer fs (k.Op (o.Begin c.in-TxnBegin.names)) at) fs old kept (begins fs old kept c.args.seq c.args.body.now _ _ c.in-TxnBegin.names at c.in-TxnBegin.is c.in_ok-changed.ensures).needs c.requires

pub returns-in-TxnBegin-clause-ok : goal.returns-in-TxnBegin-clause-ok
returns-in-TxnBegin-clause-ok c =
    let fs = c.args.program.now.functions in
    let old = c.args.parts.now in
    let kept = c.args.state.now in
    let at = c.in_ok-changed.changed in
    leads_moves (AdoptsBody fs old c.args.seq.0 c.args.body.now) (TakesAnswer fs (k.Op (o.Begin c.in-TxnBegin.names)) at) fs old c.adopt_begin.new.parts (adopting_move old c.args.seq.0 c.args.body.now) (begun_move old at c.in-TxnBegin.names) kept c.adopt_begin.new.state
    (begins fs old kept c.args.seq c.args.body.now _ _ c.in-TxnBegin.names at c.in-TxnBegin.is c.in_ok-changed.ensures) c.adopt_begin.result c.adopt_begin.ensures.ok

pub returns-in-TxnBegin-clause-cut : goal.returns-in-TxnBegin-clause-cut
returns-in-TxnBegin-clause-cut c =
    let fs = c.args.program.now.functions in
    let old = c.args.parts.now in
    let kept = c.args.state.now in
    let at = c.in_ok-changed.changed in
    leads_cut (AdoptsBody fs old c.args.seq.0 c.args.body.now) (TakesAnswer fs (k.Op (o.Begin c.in-TxnBegin.names)) at) fs old c.adopt_begin.new.parts (adopting_move old c.args.seq.0 c.args.body.now) (begun_move old at c.in-TxnBegin.names) kept c.adopt_begin.new.state
    (begins fs old kept c.args.seq c.args.body.now _ _ c.in-TxnBegin.names at c.in-TxnBegin.is c.in_ok-changed.ensures) c.adopt_begin.result c.adopt_begin.ensures.cut

pub adopt_commit-requires : goal.adopt_commit-requires
adopt_commit-requires c =
    let fs = c.args.program.now.functions in
    let old = c.args.parts.now in
    let kept = c.args.state.now in
    let at = c.in_ok-changed.changed in
    can_if (AdoptsBody fs old c.args.seq.0 c.args.body.now) (TakesCommit fs old at) fs old kept (commits_so fs old kept c.args.seq c.args.body.now _ _ _ _ _ at c.in-TxnCommit.is c.in_ok-changed.ensures).needs c.requires

pub returns-in-TxnCommit-clause-ok : goal.returns-in-TxnCommit-clause-ok
returns-in-TxnCommit-clause-ok c =
    let fs = c.args.program.now.functions in
    let old = c.args.parts.now in
    let kept = c.args.state.now in
    let at = c.in_ok-changed.changed in
    leads_moves (AdoptsBody fs old c.args.seq.0 c.args.body.now) (TakesCommit fs old at) fs old c.adopt_commit.new.parts (adopting_move old c.args.seq.0 c.args.body.now) (committed_move old at) kept c.adopt_commit.new.state
    (commits_so fs old kept c.args.seq c.args.body.now _ _ _ _ _ at c.in-TxnCommit.is c.in_ok-changed.ensures) c.adopt_commit.result c.adopt_commit.ensures.ok

pub returns-in-TxnCommit-clause-cut : goal.returns-in-TxnCommit-clause-cut
returns-in-TxnCommit-clause-cut c =
    let fs = c.args.program.now.functions in
    let old = c.args.parts.now in
    let kept = c.args.state.now in
    let at = c.in_ok-changed.changed in
    leads_cut (AdoptsBody fs old c.args.seq.0 c.args.body.now) (TakesCommit fs old at) fs old c.adopt_commit.new.parts (adopting_move old c.args.seq.0 c.args.body.now) (committed_move old at) kept c.adopt_commit.new.state
    (commits_so fs old kept c.args.seq c.args.body.now _ _ _ _ _ at c.in-TxnCommit.is c.in_ok-changed.ensures) c.adopt_commit.result c.adopt_commit.ensures.cut

pub answer_write-requires-clause-few : goal.answer_write-requires-clause-few
answer_write-requires-clause-few c =
    adopting_few c.args.program.now.functions c.args.parts.now c.args.state.now c.args.seq c.args.body.now c.requires

pub answer_write-requires-clause-takes : goal.answer_write-requires-clause-takes
answer_write-requires-clause-takes c =
    adopting_takes c.args.program.now.functions c.args.parts.now c.args.state.now c.args.seq c.args.body.now c.requires ans.Done (b.Write _ _ _ c.in-Write.key _) c.in-Write.is (λ store seen. refl)

pub answer_write-requires-clause-room : goal.answer_write-requires-clause-room
answer_write-requires-clause-room c =
    adopting_room c.args.program.now.functions c.args.parts.now c.args.state.now c.args.seq c.args.body.now c.requires c.in_ok-changed.changed c.in_ok-changed.ensures

pub returns-in-Write-clause-ok : goal.returns-in-Write-clause-ok
returns-in-Write-clause-ok c =
    answers_alone c.args.program.now.functions c.args.parts.now c.args.state.now c.args.seq c.args.body.now ans.Done (λ seq. line.AdoptWrite seq c.in-Write.key) c.answer_write.new.state c.in_ok-changed.changed (b.Write _ _ _ c.in-Write.key _) c.in-Write.is c.in_ok-changed.ensures (λ store a. refl)
    c.answer_write.result c.answer_write.ensures.line c.answer_write.ensures.after

pub returns-in-Write-clause-cut : goal.returns-in-Write-clause-cut
returns-in-Write-clause-cut c =
    let fs = c.args.program.now.functions in
    let old = c.args.parts.now in
    on_err c.answer_write.result (cut_before (AdoptsBody fs old c.args.seq.0 c.args.body.now) (adopting_move old c.args.seq.0 c.args.body.now) fs old c.args.state.now)

pub answer_spawn-requires-clause-few : goal.answer_spawn-requires-clause-few
answer_spawn-requires-clause-few c =
    adopting_few c.args.program.now.functions c.args.parts.now c.args.state.now c.args.seq c.args.body.now c.requires

pub answer_spawn-requires-clause-takes : goal.answer_spawn-requires-clause-takes
answer_spawn-requires-clause-takes c =
    adopting_takes c.args.program.now.functions c.args.parts.now c.args.state.now c.args.seq c.args.body.now c.requires (ans.Spawned c.in-Spawn.ordinal) (b.Spawn c.in-Spawn.path _ c.in-Spawn.ordinal _ _) c.in-Spawn.is (λ store seen. refl)

pub answer_spawn-requires-clause-room : goal.answer_spawn-requires-clause-room
answer_spawn-requires-clause-room c =
    adopting_room c.args.program.now.functions c.args.parts.now c.args.state.now c.args.seq c.args.body.now c.requires c.in_ok-changed.changed c.in_ok-changed.ensures

pub answer_spawn-requires-clause-child : goal.answer_spawn-requires-clause-child
answer_spawn-requires-clause-child c =
    spawn_child c.args.program.now.functions c.args.parts.now c.args.state.now c.args.seq c.args.body.now c.requires c.in-Spawn.path _ c.in-Spawn.ordinal _ _ c.in-Spawn.is

pub returns-in-Spawn-clause-ok : goal.returns-in-Spawn-clause-ok
returns-in-Spawn-clause-ok c =
    answers_alone c.args.program.now.functions c.args.parts.now c.args.state.now c.args.seq c.args.body.now (ans.Spawned c.in-Spawn.ordinal) (λ seq. line.AdoptSpawn seq (child c.in-Spawn.path c.in-Spawn.ordinal)) c.answer_spawn.new.state c.in_ok-changed.changed (b.Spawn c.in-Spawn.path _ c.in-Spawn.ordinal _ _) c.in-Spawn.is c.in_ok-changed.ensures (λ store a. refl)
    c.answer_spawn.result c.answer_spawn.ensures.line c.answer_spawn.ensures.after

pub returns-in-Spawn-clause-cut : goal.returns-in-Spawn-clause-cut
returns-in-Spawn-clause-cut c =
    let fs = c.args.program.now.functions in
    let old = c.args.parts.now in
    on_err c.answer_spawn.result (cut_before (AdoptsBody fs old c.args.seq.0 c.args.body.now) (adopting_move old c.args.seq.0 c.args.body.now) fs old c.args.state.now)

pub answer_push-requires-clause-few : goal.answer_push-requires-clause-few
answer_push-requires-clause-few c =
    adopting_few c.args.program.now.functions c.args.parts.now c.args.state.now c.args.seq c.args.body.now c.requires

pub answer_push-requires-clause-takes : goal.answer_push-requires-clause-takes
answer_push-requires-clause-takes c =
    adopting_takes c.args.program.now.functions c.args.parts.now c.args.state.now c.args.seq c.args.body.now c.requires ans.Done (b.Push _ _ c.in-Push.queue _) c.in-Push.is (λ store seen. refl)

pub answer_push-requires-clause-room : goal.answer_push-requires-clause-room
answer_push-requires-clause-room c =
    adopting_room c.args.program.now.functions c.args.parts.now c.args.state.now c.args.seq c.args.body.now c.requires c.in_ok-changed.changed c.in_ok-changed.ensures

pub returns-in-Push-clause-ok : goal.returns-in-Push-clause-ok
returns-in-Push-clause-ok c =
    answers_alone c.args.program.now.functions c.args.parts.now c.args.state.now c.args.seq c.args.body.now ans.Done (λ seq. line.AdoptPush seq c.in-Push.queue) c.answer_push.new.state c.in_ok-changed.changed (b.Push _ _ c.in-Push.queue _) c.in-Push.is c.in_ok-changed.ensures (λ store a. refl)
    c.answer_push.result c.answer_push.ensures.line c.answer_push.ensures.after

pub returns-in-Push-clause-cut : goal.returns-in-Push-clause-cut
returns-in-Push-clause-cut c =
    let fs = c.args.program.now.functions in
    let old = c.args.parts.now in
    on_err c.answer_push.result (cut_before (AdoptsBody fs old c.args.seq.0 c.args.body.now) (adopting_move old c.args.seq.0 c.args.body.now) fs old c.args.state.now)

pub returns-in_default-clause-ok : goal.returns-in_default-clause-ok
returns-in_default-clause-ok c =
    let old = c.args.parts.now in
    let w = c.in_default in
    adopts_other c.args.program.now.functions old c.args.state.now c.args.seq c.args.body.now (no_operation c.args.body.now w.not-Read w.not-ReadGroup w.not-Write w.not-Spawn w.not-Join w.not-Push w.not-Pop w.not-TxnBegin w.not-TxnCommit)
    (adopting_move old c.args.seq.0 c.args.body.now) _

pub overflow_cast-ordinal : goal.overflow_cast-ordinal
overflow_cast-ordinal c =
    let has = spawn_child c.args.program.now.functions c.args.parts.now c.args.state.now c.args.seq c.args.body.now c.requires c.in-Spawn.path _ c.in-Spawn.ordinal _ _ c.in-Spawn.is in
    let small = child_small c.in-Spawn.path (child c.in-Spawn.path c.in-Spawn.ordinal) c.in-Spawn.ordinal has in
    omega arith

pub overflow_cast-ordinal-in-Join : goal.overflow_cast-ordinal-in-Join
overflow_cast-ordinal-in-Join c =
    let has = join_child c.args.program.now.functions c.args.parts.now c.args.state.now c.args.seq c.args.body.now c.requires c.in-Join.path _ c.in-Join.ordinal c.in-Join.is in
    let small = child_small c.in-Join.path (child c.in-Join.path c.in-Join.ordinal) c.in-Join.ordinal has in
    omega arith
