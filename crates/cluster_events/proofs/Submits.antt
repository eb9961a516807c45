-- A client's call.
use Rattle.std.proofs.Common.{◌≡◌, ◌∙◌, ℕ, suc, ◌-◌, ◌%◌, ◌<◌, ◌&&◌, Bool, true, cond, List, [], ◌∷◌, ◌++◌, length, Option, Some, None, refl, sym, ap, subst, mod-lt, arith}
use Rattle.std.specs.Prelude.{slice_index_or, slice_set}
use Rattle.std.specs.List.{AllByRecursion, list_all}
use Rattle.std.proofs.lemmas.Bool.{and_parts}
use Rattle.lb_base.specs.Path.{is_request, request_path}
use Rattle.lb_base.specs.declared.value.Tag.{Tag}
use Rattle.lb_base.specs.declared.value.Value.{Value}
use Rattle.boki_types.specs.declared.body.Body.{Body}
use Rattle.boki_types.specs.declared.body.Body.TheVariants as body
use Rattle.boki_types.specs.declared.event.Event.TheVariants as event
use Rattle.boki_types.specs.declared.line.Line.TheVariants as line
use Rattle.boki_types.specs.declared.log.Sent.{Sent}
use Rattle.boki_types.specs.declared.plan.Setup.{Setup}
use Rattle.boki_types.specs.declared.program.Function.{Function}
use Rattle.boki_types.specs.Finding.{function_at}
use Rattle.boki_model.specs.Bodies.{in_range, is_value, tag_of, path_number}
use Rattle.boki_model.specs.Live.{LogRecord}
use Rattle.boki_model.specs.Plans.{is_event, is_from_one_to, has_arity}
use Rattle.boki_machine.specs.Machine.{Machine, initial_machine, submit_record}
use Rattle.boki_machine.specs.Step.{function_name}
use Rattle.exactly_once.specs.FurtherLaws.Words.{all_records}
use Rattle.script_ranges.specs.Ranged.{BodyInRange}
use Rattle.script_ranges.proofs.Events.{events_keep_ranges, opening_is_ranged}
use Rattle.book_api.specs.Books.{BookState}
use Rattle.step_log.specs.Sound.{Sound, IsBodySent}
use Rattle.flow_parts.specs.declared.parts.Parts.{Parts}
use Rattle.cluster_events.specs.Machines.{PartsAreOf, IsEventDone}
use Rattle.cluster_events.proofs.Sends.{submit_done}

module _ (setup : Setup) (fs : List Function) (engine request function : ℕ) (args : List Value) where
  -- the request has a path
  requested : is_event setup fs (event.Submit engine request function args) ≡ true → is_request request ≡ true
  requested ok =
      let one = is_from_one_to setup.engines engine in
      let three = one && is_request request && list_all is_value args in
      (and_parts one (is_request request) (and_parts (one && is_request request) (list_all is_value args) (and_parts three (has_arity (length args) (function_at function fs)) ok).0).0).1

  pub path_is : (o : Option (List ℕ)) (path : List ℕ) → is_event setup fs (event.Submit engine request function args) ≡ true → o ≡ request_path request → o ≡ Some path → path ≡ request ∷ []
  path_is o path ok is some = let there : Some path ≡ Some (request ∷ []) = sym some ∙ is ∙ ap (λ (t : Bool). cond t (Some (request ∷ [])) None) (requested ok) in cc

  -- The call is in range: a book of one shard would have it.

  module _ (m : Machine) (old : Parts) (are : PartsAreOf setup fs m old) where
    pub submit_range : (path : List ℕ) (says : Body) → is_event setup fs (event.Submit engine request function args) ≡ true → path ≡ request ∷ [] → says ≡ body.Submit path (function_name function fs) args → in_range says ≡ true
    submit_range path says ok is same =
        ap in_range (same ∙ ap (λ (p : List ℕ). body.Submit p (function_name function fs) args) is) ∙ here.0.range
      where
        r : LogRecord Body
        r = submit_record (request ∷ []) (function_name function fs) args

        first : suc ((engine - 1) % 1) - 1 ≡ 0
        first = let low : (engine - 1) % 1 < 1 = mod-lt (engine - 1) (omega arith) in omega (arith, low)

        behind : AllByRecursion (λ (x : LogRecord Body). BodyInRange fs x.holds) (all_records (slice_set ([] ∷ []) (suc ((engine - 1) % 1) - 1) (slice_index_or ([] ∷ []) (suc ((engine - 1) % 1) - 1) [] ++ r ∷ [])))
        behind = (events_keep_ranges (record setup { shards = 1 }) fs (initial_machine (record setup { shards = 1 }) []) (event.Submit engine request function args) are.kept.program ok refl tt (opening_is_ranged (record setup { shards = 1 }) fs [] refl)).records

        here : AllByRecursion (λ (x : LogRecord Body). BodyInRange fs x.holds) (r ∷ [])
        here = subst (λ k. AllByRecursion (λ (x : LogRecord Body). BodyInRange fs x.holds) (all_records (slice_set ([] ∷ []) k (slice_index_or ([] ∷ []) k [] ++ r ∷ [])))) first behind

pub submit_said :
    (setup : Setup) (fs : List Function) (m : Machine) (old : Parts) (are : PartsAreOf setup fs m old) (b : BookState) (sound : Sound b) (engine : ℕ) (sent : Sent) (request function : ℕ) (args : List Value)
    (path : List ℕ) (says : Body) (tag : Tag) → is_event setup fs (event.Submit engine request function args) ≡ true → path ≡ request ∷ [] → says ≡ body.Submit path (function_name function fs) args → tag ≡ tag_of 1 (path_number path)
    → IsBodySent engine (Some (record { tag = tag; place = 0 })) says old.book b sent
    → IsEventDone setup fs (event.Submit engine request function args) m (record old { book = b }) (line.Sent sent)
submit_said setup fs m old are b sound engine sent request function args path says tag ok is same tagged told =
    submit_done setup fs m old are b sound engine sent request function args ok
    (subst (λ (t : Tag). IsBodySent engine (Some (record { tag = t; place = 0 })) (body.Submit (request ∷ []) (function_name function fs) args) old.book b sent) (tagged ∙ ap (λ (p : List ℕ). tag_of 1 (path_number p)) is)
    (subst (λ (x : Body). IsBodySent engine (Some (record { tag = tag; place = 0 })) x old.book b sent) (same ∙ ap (λ (p : List ℕ). body.Submit p (function_name function fs) args) is) told))
