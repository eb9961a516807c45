use Rattle.std.proofs.Common.{◌∙◌, Bool, sym, ap, arith}
use Rattle.cluster_run.specs.Killed.{running_count}
use Rattle.cluster_run.proofs.Killing.{count_if, one_counted}
use Rattle.cluster_run.proofs.attempts.running_on.Goals as goal

pub loop-attempt-init : goal.loop-attempt-init
loop-attempt-init c =
    let all = ap (running_count c.args.engine) (c.into_iter-attempt-iterator.ensures.into_iter_gives ∙ c.iter-attempt-items.ensures.rest) in
    omega (arith, all)

pub loop-attempt-preserved-then-runs_on : goal.loop-attempt-preserved-then-runs_on
loop-attempt-preserved-then-runs_on c =
    let left = ap (running_count c.args.engine) c.in-Some.ensures.steps ∙ one_counted c.args.engine (c.in-Some.field-0-0.now, c.in-Some.attempt.now) c.next.new.self
    ∙ ap (λ (t : Bool). count_if t (running_count c.args.engine c.next.new.self)) (sym c.if-runs_on.ensures) in
    let more = c.in-Some-checked_add.ensures.1 in
    let before = c.loop-attempt.invariant in
    omega (arith, left, more, before)

pub loop-attempt-preserved : goal.loop-attempt-preserved
loop-attempt-preserved c =
    let left = ap (running_count c.args.engine) c.in-Some.ensures.steps ∙ one_counted c.args.engine (c.in-Some.field-0-0.now, c.in-Some.attempt.now) c.next.new.self
    ∙ ap (λ (t : Bool). count_if t (running_count c.args.engine c.next.new.self)) (sym c.if-runs_on.ensures) in
    let before = c.loop-attempt.invariant in
    omega (arith, left, before)

pub returns : goal.returns
returns c =
    let left = ap (running_count c.args.engine) c.in-None.ensures.steps.0 in
    let before = c.loop-attempt.invariant in
    omega (arith, left, before)
