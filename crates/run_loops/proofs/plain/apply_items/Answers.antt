use Rattle.std.proofs.Common.{◌+◌, drop, refl, arith}
use Rattle.std.specs.Prelude.{IsTrue}
use Rattle.boki_model.specs.Plans.{is_event, events_of, events}
use Rattle.run_with.proofs.Going.{events_more, each_parts, length_parts}
use Rattle.run_loops.proofs.Applied.{apply_start, apply_behind}
use Rattle.run_loops.proofs.plain.apply_items.Goals as goal

pub items-init : goal.items-init
items-init g c = record {
  going = λ m s. apply_start c.args.plan.now.setup c.args.plan.now.program.functions _ (events c.args.items.now) (events c.args.items.now) m s refl;
  valid = c.requires.valid;
  number = refl;
  of = c.requires.plan;
}

pub apply_item-requires-clause-valid : goal.apply_item-requires-clause-valid
apply_item-requires-clause-valid g c κs within =
    let i = c.items.item-index in
    (each_parts (λ e. IsTrue (is_event c.args.plan.now.setup c.args.plan.now.program.functions e)) (events_of c.item-item.result) (events (drop (i + 1) c.args.items.now)) (events (drop i c.args.items.now))
    (events_more c.args.items.now i c.item-item.result (omega arith) c.item-item.is) c.items.invariant.valid).0

pub apply_item-requires-clause-room : goal.apply_item-requires-clause-room
apply_item-requires-clause-room g c κs within =
    let i = c.items.item-index in
    let long = length_parts (events_of c.item-item.result) (events (drop (i + 1) c.args.items.now)) (events (drop i c.args.items.now)) (events_more c.args.items.now i c.item-item.result (omega arith) c.item-item.is) in
    omega (arith, long, c.items.invariant.number, c.requires.room)

pub items-preserved : goal.items-preserved
items-preserved g c =
    let i = c.items.item-index in
    let more = events_more c.args.items.now i c.item-item.result (omega arith) c.item-item.is in
    let long = length_parts (events_of c.item-item.result) (events (drop (i + 1) c.args.items.now)) (events (drop i c.args.items.now)) more in
    record {
      going = λ m s. apply_behind c.args.plan.now.setup c.args.plan.now.program.functions _ _ (events (drop i c.args.items.now)) (events_of c.item-item.result) (events (drop (i + 1) c.args.items.now)) _ more (c.items.invariant.going m s) c.in_ok-apply_item.ensures.ok;
      valid = (each_parts (λ e. IsTrue (is_event c.args.plan.now.setup c.args.plan.now.program.functions e)) (events_of c.item-item.result) (events (drop (i + 1) c.args.items.now)) (events (drop i c.args.items.now)) more c.items.invariant.valid).1;
      number = omega (arith, long, c.items.invariant.number, c.in_ok-apply_item.ensures.number);
      of = c.in_ok-apply_item.ensures.plan;
    }
