-- The line of a record that is sent tells where it stands, whatever place it was made with.
use Rattle.std.proofs.Common.{◌≡◌, ◌∙◌, ℕ, List, Option, refl, ap, subst}
use Rattle.lb_base.specs.declared.value.Value.{Value}
use Rattle.boki_types.specs.declared.body.Body.{Body}
use Rattle.boki_types.specs.declared.line.StepLine.{StepLine}
use Rattle.boki_types.specs.declared.log.Sent.{Sent}
use Rattle.boki_types.specs.declared.program.Function.{Function}
use Rattle.exactly_once.specs.FurtherLaws.StepRecords.{place_condition}
use Rattle.book_api.specs.Books.{BookState}
use Rattle.step_log.specs.Sound.{IsBodySent}
use Rattle.attempt_state.specs.declared.progress.Progress.{Progress}
use Rattle.boki_types.specs.declared.operation.Op.TheVariants as o
use Rattle.boki_types.specs.declared.operation.Ask.{Ask}
use Rattle.boki_types.specs.declared.operation.Ask.TheVariants as k
use Rattle.attempt_state.specs.Sending.{line_of_ask, located_line}
use Rattle.attempt_log.specs.Sent.{waiting_progress, asked_body, IsAskSent}

pub located_is : (path : List ℕ) (here : Option Value) (first at : Sent) (ask : Ask) → located_line at (line_of_ask path here first ask) ≡ line_of_ask path here at ask
located_is path here first at (k.Op (o.Read key)) = refl
located_is path here first at (k.Op (o.Write key value)) = refl
located_is path here first at (k.Op (o.Spawn ordinal f args)) = refl
located_is path here first at (k.Op (o.Join ordinal)) = refl
located_is path here first at (k.Op (o.Push queue value)) = refl
located_is path here first at (k.Op (o.Pop queue)) = refl
located_is path here first at (k.Op (o.Begin names)) = refl
located_is path here first at (k.Op (o.Commit names writes)) = refl
located_is path here first at (k.Op (o.ReadGroup keys)) = refl
located_is path here first at (k.Done outcome) = refl

-- so what was sent, with its line, is what is asked
pub ask_sent : (fs : List Function) (here : Option Value) (ask : Ask) (old : Progress) (before after : BookState) (body : Body) (sent first : Sent) (line told : StepLine)
    → body ≡ asked_body fs old here ask → line ≡ line_of_ask old.path here first ask → told ≡ located_line sent line
    → IsBodySent old.engine (place_condition old.path old.place) body before after sent
    → IsAskSent fs here ask old (waiting_progress old) before after told
ask_sent fs here ask old before after body sent first line told is_body is_line is_told is = record {
  line_is = is_told ∙ ap (located_line sent) is_line ∙ located_is old.path here first sent ask ∙ ap (λ (at : Sent). line_of_ask old.path here at ask) is.location;
  waits = refl;
  sent =
      subst (λ (at : Sent). IsBodySent old.engine (place_condition old.path old.place) (asked_body fs old here ask) before after at) is.location
      (subst (λ (body : Body). IsBodySent old.engine (place_condition old.path old.place) body before after sent) is_body is);
}
