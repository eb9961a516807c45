-- What a cluster stands for behind an event, and behind a catch of every engine.
use Rattle.std.proofs.Common.{◌≡◌, ◌∙◌, ℕ, ◌≤◌, List, [], ◌∷◌, ◌++◌, length, refl, sym, ap, subst}
use Rattle.std.specs.List.{AllByRecursion}
use Rattle.std.proofs.Math.Nat.{le_refl}
use Rattle.lb_base.specs.declared.value.Value.{Value}
use Rattle.boki_types.specs.declared.event.Event.{Event}
use Rattle.boki_types.specs.declared.line.Line.{Line}
use Rattle.boki_types.specs.declared.plan.Setup.{Setup}
use Rattle.boki_types.specs.declared.program.Function.{Function}
use Rattle.boki_machine.specs.Machine.{Machine, initial_machine, apply_event, apply_events, catch_up_all}
use Rattle.step_laws.specs.Kept.{IsTextEvent}
use Rattle.cluster_events.proofs.CatchAll.{catch_each, caught_by_events, catches_are}
use Rattle.cluster_run.specs.Clusters.{ClusterState, IsReached, StandsFor, IsDone}
use Rattle.cluster_run.specs.Attempts.{IsAllDone}

all_append : {A : Type 0} (P : A → Type 0) (xs ys : List A) → AllByRecursion P xs → AllByRecursion P ys → AllByRecursion P (xs ++ ys)
all_append P [] ys one two = two
all_append P (x ∷ xs) ys one two = (one.0, all_append P xs ys one.1 two)

module _ (setup : Setup) (fs : List Function) where
  apply_more : (es more : List Event) (m : Machine) → (apply_events setup fs (es ++ more) m).machine ≡ (apply_events setup fs more (apply_events setup fs es m).machine).machine
  apply_more [] more m = refl
  apply_more (e ∷ es) more m = apply_more es more (apply_event setup fs m e).machine

  module _ (objects : List (List ℕ × Value)) (m : Machine) (reached : IsReached setup fs objects m) where
    reached_by : (more : List Event) → AllByRecursion (IsTextEvent setup fs) more → IsReached setup fs objects (apply_events setup fs more m).machine
    reached_by more all = record {
      events = reached.events ++ more;
      valid = all_append (IsTextEvent setup fs) reached.events more reached.valid all;
      is = ap (λ (n : Machine). (apply_events setup fs more n).machine) reached.is ∙ sym (apply_more reached.events more (initial_machine setup objects));
    }

    pub reached_more : (event : Event) → IsTextEvent setup fs event → IsReached setup fs objects (apply_event setup fs m event).machine
    reached_more event text = reached_by (event ∷ []) (text, tt)

    pub reached_caught : length m.positions ≡ setup.engines → IsReached setup fs objects (catch_up_all m)
    reached_caught engines =
        subst (IsReached setup fs objects) (caught_by_events setup fs m)
        (reached_by (catch_each (length m.positions)) (catches_are setup fs (length m.positions) (subst (λ n. n ≤ setup.engines) (sym engines) (le_refl setup.engines))))

-- an event that was done to the parts and the attempts was done to the cluster
pub is_done :
    (setup : Setup) (fs : List Function) (objects : List (List ℕ × Value)) (event : Event) (m : Machine) (old new : ClusterState) (line : Line) → StandsFor setup fs objects m old
    → IsAllDone setup fs event m new.parts new.attempts line → IsDone setup fs objects event m new line
is_done setup fs objects event m old new line stands done = record {
  line_is = done.line_is;
  stands = record {
    are = done.all.are;
    attempts = done.all.stand;
    reached = reached_more setup fs objects m stands.reached event done.text;
  };
}
