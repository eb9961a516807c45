-- Rows of the counter of steps.
use Rattle.std.specs.Prelude.{◌≡◌, [], ◌∷◌, codes}
use Rattle.lb_base.specs.declared.value.Value.{Value}
use Rattle.boki_queue.specs.QueueStates.{with_queue, unkept_count}

-- A queue has pushes at 2 and 4 and pops at 5 and 7. With nothing kept the pop at 5 goes over the two records below it;
-- once the state behind it is kept, with the value v that is left, the pop at 7 goes over none.
pub record FewSteps : Type 0 where
  pub first : unkept_count [] (codes "q") (4 ∷ 2 ∷ []) ≡ 2
  pub second : (v : Value) → unkept_count (with_queue 5 (record { queue = codes "q"; values = v ∷ [] }) []) (codes "q") (5 ∷ 4 ∷ 2 ∷ []) ≡ 0
