-- A step record was sent, and its attempt waits for it.
use Rattle.std.specs.Prelude.{◌≡◌, suc, true, List, Option}
use Rattle.lb_base.specs.declared.value.Value.{Value}
use Rattle.boki_types.specs.declared.body.Body.{Body}
use Rattle.boki_types.specs.declared.body.Body.TheVariants as b
use Rattle.boki_types.specs.declared.line.StepLine.{StepLine}
use Rattle.boki_types.specs.declared.line.StepLine.TheVariants as line
use Rattle.boki_types.specs.declared.operation.Ask.{Ask}
use Rattle.boki_types.specs.declared.program.Function.{Function}
use Rattle.exactly_once.specs.FurtherLaws.StepRecords.{place_condition}
use Rattle.script_ranges.specs.Sends.{body_of_ask}
use Rattle.book_api.specs.Books.{BookState, next_sent}
use Rattle.step_log.specs.Sound.{IsBodySent}
use Rattle.attempt_state.specs.declared.progress.Progress.{Progress}
use Rattle.attempt_state.specs.Progresses.{begin_of}
use Rattle.attempt_state.specs.Sending.{line_of_ask}

abbrev pub waiting_progress : Progress → Progress
waiting_progress p = record p { waiting = true }

-- the body of the record of what is asked, of an attempt that stands there
abbrev pub asked_body : List Function → Progress → Option Value → Ask → Body
asked_body fs p here ask = body_of_ask fs p.path (suc p.answered) p.place here (begin_of p.transaction) ask

-- This body was sent under the attempt's place, where its engine's next record stands; this is the line, and the attempt waits.
pub record IsStepSent
    (body : Body) (told : StepLine) (old new : Progress) (before after : BookState) (told_is : StepLine) : Type 0 where
  pub line_is : told_is ≡ told
  pub waits : new ≡ waiting_progress old
  pub sent : IsBodySent old.engine (place_condition old.path old.place) body before after (next_sent before old.engine)

abbrev pub IsAskSent :
    List Function → Option Value → Ask → Progress → Progress → BookState → BookState → StepLine → Type 0
IsAskSent fs here ask old new before after told =
    IsStepSent (asked_body fs old here ask) (line_of_ask old.path here (next_sent before old.engine) ask) old new before after told

abbrev pub IsInitSent : Progress → Progress → BookState → BookState → StepLine → Type 0
IsInitSent old new before after told =
    IsStepSent (b.Init old.path) (line.SendInit (next_sent before old.engine)) old new before after told
