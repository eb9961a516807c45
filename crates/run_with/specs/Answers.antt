-- What the program's own nemeses answer, case by case.
use Rattle.std.specs.Prelude.{◌≡◌, ℕ, ◌+◌, ◌%◌, List, Some, None}
use Rattle.boki_types.specs.declared.event.Event.TheVariants as event
use Rattle.boki_types.specs.declared.line.Line.{Line}
use Rattle.boki_types.specs.declared.line.Line.TheVariants as line
use Rattle.boki_types.specs.declared.line.StepLine.TheVariants as step
use Rattle.nemesis_types.specs.declared.seen.Seen.{Seen}
use Rattle.nemesis_types.specs.Automaton.{answer_of, after_ask, reseeded}
use Rattle.nemesis_types.specs.StandardNemeses.{killer_with, loser_with, doubler}
use Rattle.run_with.specs.Runs.{seen_of}

pub record StandardAnswers : Type 0 where
  -- the killer's turn comes at any step, ignored ones too, and at no other event
  pub killer_steps : (n attempt : ℕ)
      → answer_of (killer_with 1 0 1) (seen_of n (event.Step attempt) line.Ignored)
      ≡ Some (event.Kill attempt)
  pub killer_rests : (n : ℕ) (answer : Line)
      → after_ask (killer_with 1 0 1) (seen_of n event.Sync answer) ≡ killer_with 1 0 1
  -- it counts up to its number, and then anew, with one turn less
  pub killer_counts : (n attempt : ℕ) (answer : Line)
      → after_ask (killer_with 5 3 2) (seen_of n (event.Step attempt) answer) ≡ killer_with 5 4 2
  pub killer_acts : (n attempt : ℕ) (answer : Line)
      → after_ask (killer_with 5 4 2) (seen_of n (event.Step attempt) answer) ≡ killer_with 5 0 1
  -- with no turn left it answers nothing, and a reseed doesn't bring any
  pub killer_ends : (every count : ℕ) (seen : Seen) → answer_of (killer_with every count 0) seen ≡ None
  pub killer_reseeds : (every count left n : ℕ)
      → reseeded (killer_with every count left) n ≡ killer_with (n % 16 + 1) 0 left
  -- the loser's turn comes where a step sent a record
  pub loser_sends : (n attempt shard local : ℕ)
      → answer_of (loser_with 1 0 1) (seen_of n (event.Step attempt) (line.Step (step.SendInit (record { shard = shard; local = local }))))
      ≡ Some (event.Lose attempt)
  pub loser_rests : (n attempt : ℕ)
      → after_ask (loser_with 1 0 1) (seen_of n (event.Step attempt) (line.Step step.WaitsRecord))
      ≡ loser_with 1 0 1
  -- the doubler doubles what was started, up to attempt 2,048, and each step
  pub doubler_starts : (n engine : ℕ) (path : List ℕ)
      → answer_of doubler (seen_of n (event.Start 2048 path engine) line.Started)
      ≡ Some (event.Start 4096 path engine)
  pub doubler_refused : (n attempt engine : ℕ) (path : List ℕ)
      → answer_of doubler (seen_of n (event.Start attempt path engine) line.Ignored) ≡ None
  pub doubler_high : (n engine : ℕ) (path : List ℕ)
      → answer_of doubler (seen_of n (event.Start 2049 path engine) line.Started) ≡ None
  pub doubler_steps : (n : ℕ) (answer : Line)
      → answer_of doubler (seen_of n (event.Step 2048) answer) ≡ Some (event.Step 4096)
  pub doubler_own : (n : ℕ) (answer : Line) → answer_of doubler (seen_of n (event.Step 2049) answer) ≡ None
  -- an odd number switches it off, and an even one on
  pub doubler_off : (seen : Seen) → answer_of (reseeded doubler 7) seen ≡ None
  pub doubler_on : reseeded (reseeded doubler 7) 8 ≡ doubler
