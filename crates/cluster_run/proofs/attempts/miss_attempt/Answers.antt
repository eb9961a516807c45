use Rattle.std.proofs.Common.{ap}
use Rattle.cluster_run.proofs.AttemptEvents.{one_there}
use Rattle.cluster_run.proofs.Stepped.{can_flow, miss_done, miss_ignored, flows}
use Rattle.cluster_run.proofs.attempts.miss_attempt.Goals as goal

pub miss-requires : goal.miss-requires
miss-requires c =
    let r = c.requires in
    can_flow r.setup c.args.program.now.functions r.machine c.args.parts.now c.args.attempts.now.entries r.all c.args.number c.get_mut.ensures.unique c.in-Some.attempt.now c.in-Some.ensures.value

pub returns-in_ok-miss-in-Some : goal.returns-in_ok-miss-in-Some
returns-in_ok-miss-in-Some c setup m valid all =
    let fs = c.args.program.now.functions in
    let old = c.args.parts.now in
    let es = c.args.attempts.now.entries in
    let one = one_there fs m es all.stand c.get_mut.ensures.unique c.args.number c.in-Some.attempt.now c.in-Some.ensures.value in
    miss_done setup fs m old es all c.args.number one.0 one.1 c.miss.new.parts (c.get_mut.follows.lender c.miss.new.self).entries
    c.in-Some.attempt.now c.miss.new.self c.in_ok-miss-in-Some.field-0 c.in-Some.ensures.value c.miss.ensures.same valid
    (c.in_ok-miss-in-Some.ensures.ok setup m.store one.0 (flows setup fs m old es all c.args.number one.0 one.1 c.in-Some.attempt.now one.2)) (c.get_mut.follows.holds c.miss.new.self).0

pub returns-in-None : goal.returns-in-None
returns-in-None c setup m valid all =
    miss_ignored setup c.args.program.now.functions m c.args.parts.now c.args.attempts.now.entries all c.args.number c.get_mut.ensures.unique
    c.in-None.ensures.value c.get_mut.follows.lender-at-none.entries (ap (λ m. m.entries) c.get_mut.follows.holds-at-none) valid
