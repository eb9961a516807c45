-- The smallest run with two nemeses. The first is spent when it is handed in: it is asked once, and dropped.
-- The second gives events that no plan with one engine can have: they do nothing.
use Rattle.std.specs.Prelude.{ℕ, ◌+◌, true, false, List, [], ◌∷◌, Some, drop}
use Rattle.boki_types.specs.declared.event.Event.TheVariants as event
use Rattle.boki_types.specs.declared.line.Line.{Line}
use Rattle.boki_types.specs.declared.line.Line.TheVariants as line
use Rattle.computed_examples.specs.Computed.{sent}
use Rattle.computed_examples.specs.Smallest as smallest
use Rattle.nemesis_types.specs.Automaton.{Automaton}
use Rattle.nemesis_types.specs.Kept.{all_kept}
use Rattle.run_with.specs.Runs.{Output, Planned, Added, Ignored}
use Rattle.run_with.specs.Computed.{ComputesWith}

-- it asks that an attempt be killed that was never started
abbrev pub parting : Automaton
parting = record {
  list = [];
  next = λ list seen. (Some (event.Kill 9), list);
  seed = λ list n. list;
  ends = λ list. true;
}

-- it asks that engine 9 catch up
abbrev pub stranger : Automaton
stranger = record {
  list = [];
  next = λ list seen. (Some (event.Catch 9), list);
  seed = λ list n. list;
  ends = λ list. false;
}

-- each line of the plan from a number on, and behind it that the second's event was ignored
abbrev pub with_ignored : ℕ → List Line → List Output
with_ignored n [] = []
with_ignored n (line ∷ lines) = Planned n line ∷ Ignored n 2 ∷ with_ignored (n + 1) lines

-- the first's event is one that a plan can have, and the machine answers it
abbrev pub lines : List Output
lines =
    Planned 1 (line.Sent (sent 1 1)) ∷
    Added 1 1 (event.Kill 9) line.Ignored ∷
    Ignored 1 2 ∷
    with_ignored 2 (drop 1 smallest.lines)

abbrev pub RefusedRun : Type 0
RefusedRun = ComputesWith smallest.plan (all_kept (parting ∷ stranger ∷ [])) lines smallest.report
