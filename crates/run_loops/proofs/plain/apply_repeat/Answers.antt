use Rattle.std.proofs.Common.{◌≡◌, ◌+◌, ◌-◌, suc, length, sym, ap, subst, arith}
use Rattle.std.specs.Prelude.{IsTrue}
use Rattle.std.specs.List.{AllByRecursion}
use Rattle.boki_model.specs.Plans.{is_event, repeat_events}
use Rattle.run_with.proofs.Going.{repeated_more, each_parts, length_parts}
use Rattle.run_loops.proofs.Applied.{apply_start, apply_behind}
use Rattle.run_loops.proofs.plain.apply_repeat.Goals as goal

pub times-init : goal.times-init
times-init g c =
    let e : c.args.times - 0 ≡ c.args.times = omega arith in
    record {
      going = λ m s. apply_start c.args.plan.now.setup c.args.plan.now.program.functions _ (repeat_events (c.args.times - 0) c.args.events.now) (repeat_events c.args.times c.args.events.now) m s (ap (λ k. repeat_events k c.args.events.now) e);
      valid = subst (AllByRecursion (λ x. IsTrue (is_event c.args.plan.now.setup c.args.plan.now.program.functions x))) (ap (λ k. repeat_events k c.args.events.now) (sym e)) c.requires.valid;
      number = ap (λ k. c.args.n.now + length (repeat_events k c.args.events.now)) e;
      of = c.requires.plan;
    }

pub apply_list-requires-clause-valid : goal.apply_list-requires-clause-valid
apply_list-requires-clause-valid g c κs within =
    let left = c.args.times - (c.times.counter + 1) in
    let e : c.args.times - c.times.counter ≡ suc left = omega arith in
    (each_parts (λ e. IsTrue (is_event c.args.plan.now.setup c.args.plan.now.program.functions e)) c.args.events.now (repeat_events left c.args.events.now) (repeat_events (c.args.times - c.times.counter) c.args.events.now)
    (repeated_more _ left c.args.events.now e) c.times.invariant.valid).0

pub apply_list-requires-clause-room : goal.apply_list-requires-clause-room
apply_list-requires-clause-room g c κs within =
    let left = c.args.times - (c.times.counter + 1) in
    let e : c.args.times - c.times.counter ≡ suc left = omega arith in
    let long = length_parts c.args.events.now (repeat_events left c.args.events.now) (repeat_events (c.args.times - c.times.counter) c.args.events.now) (repeated_more _ left c.args.events.now e) in
    omega (arith, long, c.times.invariant.number, c.requires.room)

pub times-preserved : goal.times-preserved
times-preserved g c =
    let left = c.args.times - (c.times.counter + 1) in
    let e : c.args.times - c.times.counter ≡ suc left = omega arith in
    let more = repeated_more (c.args.times - c.times.counter) left c.args.events.now e in
    let long = length_parts c.args.events.now (repeat_events left c.args.events.now) (repeat_events (c.args.times - c.times.counter) c.args.events.now) more in
    record {
      going = λ m s. apply_behind c.args.plan.now.setup c.args.plan.now.program.functions _ _ (repeat_events (c.args.times - c.times.counter) c.args.events.now) c.args.events.now (repeat_events left c.args.events.now) _ more (c.times.invariant.going m s) c.in_ok-apply_list.ensures.ok;
      valid = (each_parts (λ e. IsTrue (is_event c.args.plan.now.setup c.args.plan.now.program.functions e)) c.args.events.now (repeat_events left c.args.events.now) (repeat_events (c.args.times - c.times.counter) c.args.events.now) more c.times.invariant.valid).1;
      number = omega (arith, long, c.times.invariant.number, c.in_ok-apply_list.ensures.number);
      of = c.in_ok-apply_list.ensures.plan;
    }
