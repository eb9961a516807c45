-- What it means that an example comes out right, and short words for its terms.
use Rattle.std.specs.Prelude.{◌≡◌, ℕ, true, List, length, map, Some, option_map}
use Rattle.lb_base.specs.declared.value.Tag.{Tag}
use Rattle.boki_types.specs.declared.event.Event.{Event}
use Rattle.boki_types.specs.declared.line.Line.{Line}
use Rattle.boki_types.specs.declared.log.Sent.{Sent}
use Rattle.boki_types.specs.declared.operation.Answer.{Answer}
use Rattle.boki_types.specs.declared.plan.Item.{Item}
use Rattle.boki_types.specs.declared.plan.Item.TheVariants.{One}
use Rattle.boki_types.specs.declared.plan.Plan.{Plan}
use Rattle.boki_types.specs.declared.turn.Report.{Report}
use Rattle.boki_model.specs.Plans.{is_plan}
use Rattle.boki_machine.specs.Machine.{Machine, NumberedAttempt, live_records, run_plan}
use Rattle.boki_machine.specs.Decided.{first_decided_answers}
use Rattle.boki_machine.specs.Ideal.{run_turns, initial_ideal}
use Rattle.boki_machine.specs.Reports as reports
pub use Rattle.boki_machine.specs.Step.{seqnum}

-- the answers of each attempt
abbrev pub attempt_answers : Machine → List (List Answer)
attempt_answers m = map (λ x. x.attempt.answers) m.attempts

-- of each attempt's invocation, as many decided answers
abbrev pub decided_for : Plan → Machine → NumberedAttempt → List Answer
decided_for plan m x =
    first_decided_answers plan.setup plan.program.functions m.store (live_records m) x.attempt.path (length x.attempt.answers)

abbrev pub all_decided : Plan → Machine → List (List Answer)
all_decided plan m = map (decided_for plan m) m.attempts

-- The plan is one, and the machine gives exactly these lines and this report. The failure-free execution of the report's turns
-- is defined, and gives the same report. And each attempt has the answers that its invocation has decided, and no others.
pub record Computes (plan : Plan) (out : List Line) (told : Report) : Type 0 where
  pub valid : is_plan plan ≡ true
  pub lines : (run_plan plan).lines ≡ out
  pub report : reports.report plan.program.functions (run_plan plan).machine ≡ told
  pub executed : option_map (reports.ideal_report told.turns) (run_turns plan.program.functions told.turns (initial_ideal plan.objects)) ≡ Some told
  pub each_attempt : attempt_answers (run_plan plan).machine ≡ all_decided plan (run_plan plan).machine

abbrev pub sent : ℕ → ℕ → Sent
sent shard local = record { shard = shard; local = local }

abbrev pub tag : ℕ → Tag
tag n = record { 0 = n }

-- events without repeats
abbrev pub one_by_one : List Event → List Item
one_by_one events = map One events
