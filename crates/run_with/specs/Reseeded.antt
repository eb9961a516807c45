-- The smallest run with four nemeses: the killer, one that reseeds them all, itself too, the loser and the
-- doubler.
use Rattle.std.specs.Prelude.{ℕ, pos, Bool, true, false, List, [], ◌∷◌, None, codes, option_map}
use Rattle.lb_base.specs.declared.value.Value.TheVariants.{Int}
use Rattle.lb_base.specs.declared.value.Mode.TheVariants.{R}
use Rattle.lb_base.specs.declared.value.Outcome.TheVariants.{Good}
use Rattle.boki_types.specs.declared.event.Event.TheVariants as event
use Rattle.boki_types.specs.declared.line.Line.TheVariants as line
use Rattle.boki_types.specs.declared.line.StepLine.TheVariants as step
use Rattle.boki_machine.specs.Step.{seqnum}
use Rattle.computed_examples.specs.Computed.{sent}
use Rattle.computed_examples.specs.Smallest.{plan, report}
use Rattle.nemesis_types.specs.Automaton.{Automaton}
use Rattle.nemesis_types.specs.Kept.{all_kept}
use Rattle.nemesis_types.specs.StandardNemeses.{killer, doubler, loser}
use Rattle.run_with.specs.Runs.{Output, Planned, Added}
use Rattle.run_with.specs.Computed.{ComputesWith}

-- The seeder gives `seed 0` behind each step, and is spent once it was reseeded.
abbrev pub is_reseeded : List ℕ → Bool
is_reseeded [] = false
is_reseeded (n ∷ ns) = true

abbrev pub seeder : Automaton
seeder = record {
  list = [];
  next = λ list seen. (option_map (λ attempt. event.Seed 0) seen.stepped, list);
  seed = λ list n. n ∷ [];
  ends = is_reseeded;
}

-- Behind event 4 the killer was asked before the seed: it acts at the next step. The seeder is spent by its
-- own seed, and is dropped. The loser is asked behind it, and acts at once. The doubler is asked on under the
-- number 4. The killer is dropped behind event 8, when it has acted for the third time; the second attempt
-- ends what the killed one began.
abbrev pub lines : List Output
lines =
    Planned 1 (line.Sent (sent 1 1)) ∷
    Planned 2 (line.Sync 1) ∷
    Planned 3 line.Started ∷
    Added 3 4 (event.Start 2049 (1 ∷ []) 1) line.Started ∷
    Planned 4 (line.Step (step.SendInit (sent 1 2))) ∷
    Added 4 2 (event.Seed 0) line.Seeded ∷
    Added 4 3 (event.Lose 1) line.Lost ∷
    Added 4 4 (event.Step 2049) (line.Step (step.SendInit (sent 1 3))) ∷
    Planned 5 (line.Sync 3) ∷
    Planned 6 (line.Step (step.AdoptInit (seqnum 2) R)) ∷
    Added 6 1 (event.Kill 1) line.Killed ∷
    Added 6 4 (event.Step 2049) (line.Step (step.AdoptInit (seqnum 2) R)) ∷
    Planned 7 (line.Step step.Idle) ∷
    Added 7 1 (event.Kill 1) line.Idle ∷
    Added 7 4 (event.Step 2049) (line.Step (step.Store (codes "x") (Int (pos 4)))) ∷
    Planned 8 (line.Step step.Idle) ∷
    Added 8 1 (event.Kill 1) line.Idle ∷
    Added 8 4 (event.Step 2049) (line.Step (step.SendWrite (sent 1 4) (codes "x") None)) ∷
    Planned 9 (line.Sync 4) ∷
    Planned 10 (line.Step step.Idle) ∷
    Added 10 4 (event.Step 2049) (line.Step (step.AdoptWrite (seqnum 4) (codes "x"))) ∷
    Planned 11 (line.Step step.Idle) ∷
    Added 11 4 (event.Step 2049) (line.Step (step.Read (codes "x") (Int (pos 4)))) ∷
    Planned 12 (line.Step step.Idle) ∷
    Added 12 4 (event.Step 2049) (line.Step (step.SendFinish (sent 1 5) (Good (Int (pos 5))))) ∷
    Planned 13 (line.Sync 5) ∷
    Planned 14 (line.Step step.Idle) ∷
    Added 14 4 (event.Step 2049) (line.Step (step.Over (Good (Int (pos 5))))) ∷
    []

abbrev pub ReseededRun : Type 0
ReseededRun = ComputesWith plan (all_kept (killer ∷ seeder ∷ loser ∷ doubler ∷ [])) lines report
