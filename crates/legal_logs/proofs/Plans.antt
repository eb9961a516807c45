-- For every list of events, and so for every plan.
use Rattle.std.proofs.Common.{◌≡◌, leb, ◌&&◌, List, [], ◌∷◌, length, true, sym, ap, ◌∙◌}
use Rattle.std.specs.Prelude.{IsTrue}
use Rattle.std.specs.List.{list_all, AllByRecursion}
use Rattle.std.proofs.lemmas.Bool.{and_parts}
use Rattle.boki_types.specs.declared.event.Event.{Event}
use Rattle.boki_types.specs.declared.plan.Setup.{Setup}
use Rattle.boki_types.specs.declared.program.Function.{Function}
use Rattle.boki_model.specs.Plans.{distinct, function_names, is_function, is_event, is_item, is_setup, are_objects, is_program, total_events, events}
use Rattle.boki_machine.specs.Machine.{Machine, log, live_records, initial_machine, apply_event, apply_events}
use Rattle.exactly_once.specs.Induction.EventKeeps.{MachineHolds}
use Rattle.exactly_once.specs.FurtherLaws.Words.{all_records}
use Rattle.exactly_once.proofs.OldVersions.VersionKeeps.{versions_keep}
use Rattle.exactly_once.proofs.Attempts.StepKeeps.{moves_keep}
use Rattle.exactly_once.proofs.Attempts.LostAnswerKeeps.{misses_keep}
use Rattle.exactly_once.proofs.Machines.EventKeeps.{events_keep}
use Rattle.exactly_once.proofs.Machines.ExactlyOnce.{opens, run_holds, valid_events}
use Rattle.exactly_once.proofs.Machines.EventEffects.{run_stays}
use Rattle.legal_logs.specs.Legal.{audit}
use Rattle.legal_logs.specs.Laws.{AllRequestsKnown, EventsAreAudited, PlansAreAudited}
use Rattle.legal_logs.proofs.Machines.{holding_is_audited}
use Rattle.legal_logs.proofs.Requests.{requests_stay_known, live_known, no_requests}

run_known : (setup : Setup) (fs : List Function) (es : List Event) (m : Machine) → distinct (function_names fs) ≡ true → AllByRecursion (λ e. IsTrue (is_event setup fs e)) es → AllRequestsKnown fs m → AllRequestsKnown fs (apply_events setup fs es m).machine
run_known setup fs [] m apart all is = is
run_known setup fs (e ∷ es) m apart all is = run_known setup fs es (apply_event setup fs m e).machine apart all.1 (requests_stay_known setup fs m e apart all.0 is)

pub events_are_audited : EventsAreAudited
events_are_audited setup fs objects es apart all ended =
    let m : Machine = (apply_events setup fs es (initial_machine setup objects)).machine in
    let holds : MachineHolds setup fs m = run_holds setup fs (events_keep (moves_keep versions_keep) (misses_keep versions_keep)) es (initial_machine setup objects) all (opens setup fs objects) in
    let sent : AllRequestsKnown fs m = run_known setup fs es (initial_machine setup objects) apart all (no_requests fs setup.shards) in
    ap (λ first. audit fs setup.mode first (live_records m)) (sym (run_stays setup fs es (initial_machine setup objects)))
    ∙ holding_is_audited setup fs m holds.holds (live_known fs (all_records m.shards) (log m) holds.holds.ordered sent) ended

pub plans_are_audited : PlansAreAudited
plans_are_audited plan ok ended =
    let fs : List Function = plan.program.functions in
    let weighed = and_parts (is_setup plan.setup && are_objects plan.objects && is_program plan.program && list_all (is_item plan.setup fs) plan.items) (leb (total_events plan.items) 200000) ok in
    let items = and_parts (is_setup plan.setup && are_objects plan.objects && is_program plan.program) (list_all (is_item plan.setup fs) plan.items) weighed.0 in
    let program = and_parts (is_setup plan.setup && are_objects plan.objects) (is_program plan.program) items.0 in
    let functions = and_parts (leb (length fs) 256 && distinct (function_names fs)) (list_all (is_function fs) fs) program.1 in
    let apart = and_parts (leb (length fs) 256) (distinct (function_names fs)) functions.0 in
    events_are_audited plan.setup fs plan.objects (events plan.items) apart.1 (valid_events plan.setup fs plan.items items.1) ended
