use Rattle.boki_flow.specs.Arms.{HasBegun, FindsAnswer, next_missed, asked_missed}
use Rattle.boki_flow.proofs.Leading.{can_miss_if, leads_misses, leads_miss_cut}
use Rattle.boki_flow.proofs.Standing.{has_engine, sound, room}
use Rattle.boki_flow.proofs.Misses.{misses_next, misses_waiting, misses_asks}
use Rattle.boki_flow.proofs.missing.miss_on.Goals as goal

pub is_answered-requires-clause-engine : goal.is_answered-requires-clause-engine
is_answered-requires-clause-engine c =
    has_engine c.requires.1.setup c.requires.0 c.requires.1.store c.requires.1.attempt c.args.parts.now c.args.state.now c.requires.1.stands

pub is_answered-requires-clause-sound : goal.is_answered-requires-clause-sound
is_answered-requires-clause-sound c =
    sound c.requires.1.setup c.requires.0 c.requires.1.store c.requires.1.attempt c.args.parts.now c.args.state.now c.requires.1.stands

pub is_answered-requires-clause-room : goal.is_answered-requires-clause-room
is_answered-requires-clause-room c =
    room c.requires.1.setup c.requires.0 c.requires.1.store c.requires.1.attempt c.args.parts.now c.args.state.now c.requires.1.stands

pub miss_record-requires : goal.miss_record-requires
miss_record-requires c =
    can_miss_if (λ fs. HasBegun) (λ fs. FindsAnswer fs c.args.parts.now) c.args.parts.now c.args.state.now
    (λ fs. (misses_next c.args.parts.now c.args.state.now c.is_answered.result c.if-is_answered.true c.is_answered.ensures fs).needs) c.requires

pub returns-then-is_answered-clause-ok : goal.returns-then-is_answered-clause-ok
returns-then-is_answered-clause-ok c =
    let old = c.args.parts.now in
    leads_misses (λ fs. HasBegun) (λ fs. FindsAnswer fs c.args.parts.now) (λ fs. next_missed fs c.args.parts.now) (λ fs. next_missed fs c.args.parts.now) old c.miss_record.new.parts c.args.state.now
    (misses_next c.args.parts.now c.args.state.now c.is_answered.result c.if-is_answered.true c.is_answered.ensures) c.miss_record.result c.miss_record.ensures.ok

pub returns-then-is_answered-clause-cut : goal.returns-then-is_answered-clause-cut
returns-then-is_answered-clause-cut c =
    let old = c.args.parts.now in
    leads_miss_cut (λ fs. HasBegun) (λ fs. FindsAnswer fs c.args.parts.now) (λ fs. next_missed fs c.args.parts.now) (λ fs. next_missed fs c.args.parts.now) old c.miss_record.new.parts c.args.state.now
    (misses_next c.args.parts.now c.args.state.now c.is_answered.result c.if-is_answered.true c.is_answered.ensures) c.miss_record.result c.miss_record.ensures.cut

pub returns-then-state-clause-ok : goal.returns-then-state-clause-ok
returns-then-state-clause-ok c =
    misses_waiting c.args.parts.now c.args.state.now c.is_answered.result c.if-is_answered.false c.is_answered.ensures c.if-state.true

pub returns-else-state-clause-ok : goal.returns-else-state-clause-ok
returns-else-state-clause-ok c =
    let old = c.args.parts.now in
    leads_misses (λ fs. HasBegun) (λ fs. HasBegun) (λ fs. next_missed fs c.args.parts.now) (asked_missed) old c.miss_asked.new.parts c.args.state.now
    (misses_asks c.args.parts.now c.args.state.now c.is_answered.result c.if-is_answered.false c.is_answered.ensures c.if-state.false) c.miss_asked.result c.miss_asked.ensures.ok

pub returns-else-state-clause-cut : goal.returns-else-state-clause-cut
returns-else-state-clause-cut c =
    let old = c.args.parts.now in
    leads_miss_cut (λ fs. HasBegun) (λ fs. HasBegun) (λ fs. next_missed fs c.args.parts.now) (asked_missed) old c.miss_asked.new.parts c.args.state.now
    (misses_asks c.args.parts.now c.args.state.now c.is_answered.result c.if-is_answered.false c.is_answered.ensures c.if-state.false) c.miss_asked.result c.miss_asked.ensures.cut
