use Rattle.std.proofs.Common.{◌≡◌}
use Rattle.plan_lang.specs.Generated.{all_moves}
use Rattle.plan_lang.proofs.generator.make_items.Given as goal

abbrev pub invariant-moves : goal.invariant-moves
invariant-moves l = l.items ≡ all_moves l.i
