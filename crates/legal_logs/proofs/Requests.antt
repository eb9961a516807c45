-- A request in a shard calls a function of the program, since an event submitted it.
use Rattle.std.proofs.Common.{◌≡◌, inl, inr, ℕ, zero, suc, Bool, true, false, cond, ◌&&◌, List, [], ◌∷◌, length, refl, ap, ◌∙◌}
use Rattle.std.specs.Prelude.{IsTrue, IfSome, is_some, replicate}
use Rattle.std.specs.List.{list_all, AllByRecursion}
use Rattle.std.proofs.lemmas.Bool.{and_parts}
use Rattle.lb_base.specs.Path.{is_request}
use Rattle.boki_types.specs.declared.body.Body.{Body}
use Rattle.boki_types.specs.declared.body.Body.TheVariants as b
use Rattle.boki_types.specs.declared.event.Event.{Event}
use Rattle.boki_types.specs.declared.event.Event.TheVariants as v
use Rattle.boki_types.specs.declared.plan.Setup.{Setup}
use Rattle.boki_types.specs.declared.program.Function.{Function}
use Rattle.boki_types.specs.Finding.{function_at}
use Rattle.boki_model.specs.Live.{LogRecord, live, meets_condition}
use Rattle.boki_model.specs.Bodies.{step_of, is_value}
use Rattle.boki_model.specs.Plans.{distinct, function_names, has_arity, is_from_one_to, is_event}
use Rattle.boki_machine.specs.Machine.{Machine}
use Rattle.exactly_once.specs.FurtherLaws.Words.{IsAmong, all_records}
use Rattle.exactly_once.proofs.Asking.FunctionNames.{known_by_name}
use Rattle.exactly_once.proofs.Machines.SentRecords.{own_record, all_sent}
use Rattle.legal_logs.specs.Laws.{request_known, RequestsStayKnown, RequestsKnown}

abbrev Known : List Function → LogRecord Body → Type 0
Known fs r = IsTrue (request_known fs r.holds)

-- a step record is no request
no_request : (fs : List Function) (body : Body) → is_some (step_of body) ≡ true → IsTrue (request_known fs body)
no_request fs (b.Submit p name args) step = let no_way : false ≡ true = step in cc
no_request fs _ step = refl

own_known : (setup : Setup) (fs : List Function) (m : Machine) (event : Event) → IsTrue (distinct (function_names fs)) → IsTrue (is_event setup fs event) → IfSome (own_record setup fs m event) (Known fs)
own_known setup fs m (v.Submit engine request f args) apart ok =
    let arity = and_parts (is_from_one_to setup.engines engine && is_request request && list_all is_value args) (has_arity (length args) (function_at f fs)) ok in
    known_by_name fs f (length args) apart arity.1
own_known setup fs m (v.Switch engine target) apart ok = refl
own_known setup fs m (v.EndSwitch engine) apart ok = refl
own_known setup fs m (v.Trim engine) apart ok = refl
own_known setup fs m (v.Append engine tags text) apart ok = refl
own_known setup fs m (v.Cond engine place tags text) apart ok = refl
own_known setup fs m (v.TrimTag engine tag upto) apart ok = refl
own_known setup fs m _ apart ok = tt

pub requests_stay_known : RequestsStayKnown
requests_stay_known setup fs m event apart ok all =
    all_sent (Known fs) (λ r step. no_request fs r.holds step) setup fs m all event (own_known setup fs m event apart ok)

-- What is ordered was sent.

one_among : (fs : List Function) (r : LogRecord Body) (rs : List (LogRecord Body)) → IsAmong r rs → AllByRecursion (λ (r : LogRecord Body). IsTrue (request_known fs r.holds)) rs → request_known fs r.holds ≡ true
one_among fs r [] among all = absurd among
one_among fs r (y ∷ rs) (inl same) all = ap (λ (r : LogRecord Body). request_known fs r.holds) same ∙ all.0
one_among fs r (y ∷ rs) (inr among) all = one_among fs r rs among all.1

pub live_known : (fs : List Function) (sent log : List (LogRecord Body)) → AllByRecursion (λ r. IsAmong r sent) log → AllByRecursion (λ (r : LogRecord Body). IsTrue (request_known fs r.holds)) sent → RequestsKnown fs (live log)
live_known fs sent [] ordered all = tt
live_known fs sent (r ∷ log) ordered all = at (meets_condition r.condition (live log)) (live_known fs sent log ordered.1 all)
  where
    at : (t : Bool) → RequestsKnown fs (live log) → RequestsKnown fs (cond t (record { seq = suc (length log); tags = r.tags; holds = r.holds } ∷ live log) (live log))
    at true rest = (one_among fs r sent ordered.0 all, rest)
    at false rest = rest

pub no_requests : (fs : List Function) (n : ℕ) → AllByRecursion (λ (r : LogRecord Body). IsTrue (request_known fs r.holds)) (all_records (replicate n []))
no_requests fs zero = tt
no_requests fs (suc n) = no_requests fs n
