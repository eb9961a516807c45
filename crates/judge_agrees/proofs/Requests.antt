-- A request in a shard comes from an event that a plan can have, since an event submitted it and no step sends one.
use Rattle.std.proofs.Common.{◌≡◌, ℕ, zero, suc, true, false, ◌&&◌, List, [], length}
use Rattle.std.specs.Prelude.{IsTrue, IfSome, is_some, replicate}
use Rattle.std.specs.List.{list_all, AllByRecursion}
use Rattle.std.proofs.lemmas.Bool.{and_parts}
use Rattle.lb_base.specs.Path.{is_request}
use Rattle.boki_types.specs.declared.body.Body.{Body}
use Rattle.boki_types.specs.declared.body.Body.TheVariants as b
use Rattle.boki_types.specs.declared.event.Event.{Event}
use Rattle.boki_types.specs.declared.event.Event.TheVariants as v
use Rattle.boki_types.specs.declared.plan.Setup.{Setup}
use Rattle.boki_types.specs.declared.program.Function.{Function}
use Rattle.boki_types.specs.Finding.{function_at}
use Rattle.boki_model.specs.Live.{LogRecord}
use Rattle.boki_model.specs.Bodies.{step_of, is_value}
use Rattle.boki_model.specs.Plans.{distinct, function_names, has_arity, is_from_one_to, is_event}
use Rattle.boki_machine.specs.Machine.{Machine}
use Rattle.exactly_once.specs.FurtherLaws.Words.{all_records}
use Rattle.exactly_once.proofs.Asking.FunctionNames.{known_by_name}
use Rattle.exactly_once.proofs.Machines.SentRecords.{own_record, all_sent}
use Rattle.judge_agrees.specs.Requests.{SubmitsUtf8, IsValidSubmit, RequestsStay, NoneAtFirst}

abbrev IsValid : List Function → LogRecord Body → Type 0
IsValid fs r = IsValidSubmit fs r.holds

-- a step record is no request
no_request : (fs : List Function) (body : Body) → is_some (step_of body) ≡ true → IsValidSubmit fs body
no_request fs (b.Submit p name args) step = let no_way : false ≡ true = step in cc
no_request fs _ step = tt

own_valid : (setup : Setup) (fs : List Function) (m : Machine) (event : Event) → IsTrue (distinct (function_names fs)) → IsTrue (is_event setup fs event) → SubmitsUtf8 event → IfSome (own_record setup fs m event) (IsValid fs)
own_valid setup fs m (v.Submit engine request f args) apart ok texts =
    let arity = and_parts (is_from_one_to setup.engines engine && is_request request && list_all is_value args) (has_arity (length args) (function_at f fs)) ok in
    let values = and_parts (is_from_one_to setup.engines engine && is_request request) (list_all is_value args) arity.0 in
    let number = and_parts (is_from_one_to setup.engines engine) (is_request request) values.0 in
    record { number = number.1; values = values.1; known = known_by_name fs f (length args) apart arity.1; texts = texts }
own_valid setup fs m _ apart ok texts = tt

pub requests_stay : RequestsStay
requests_stay setup fs m event apart ok texts all =
    all_sent (IsValid fs) (λ r step. no_request fs r.holds step) setup fs m all event (own_valid setup fs m event apart ok texts)

pub none_at_first : NoneAtFirst
none_at_first setup fs objects = none fs setup.shards
  where
    none : (fs : List Function) (n : ℕ) → AllByRecursion (λ (r : LogRecord Body). IsValidSubmit fs r.holds) (all_records (replicate n []))
    none fs zero = tt
    none fs (suc n) = none fs n
