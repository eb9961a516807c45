-- The turns of a run can stand in a text.
use Rattle.std.proofs.Common.{◌≡◌, ℕ, suc, ◌≤◌, Bool, true, false, cond, leb, ◌&&◌, List, [], ◌∷◌, length, Option, Some, None, arith}
use Rattle.std.specs.Prelude.{IsTrue, unwrap_or, slice_index}
use Rattle.std.specs.List.{list_all, AllByRecursion}
use Rattle.std.proofs.lemmas.Bool.{and_parts}
use Rattle.std.proofs.lemmas.Bool.Decides.{nat_tests}
use Rattle.lb_base.specs.declared.value.Value.{Value}
use Rattle.lb_base.specs.Path.{is_path, is_ordinal, is_request}
use Rattle.boki_types.specs.declared.body.Body.{Body}
use Rattle.boki_types.specs.declared.body.Body.TheVariants as b
use Rattle.boki_types.specs.declared.event.Event.{Event}
use Rattle.boki_types.specs.declared.plan.Setup.{Setup}
use Rattle.boki_types.specs.declared.program.Function.{Function}
use Rattle.boki_types.specs.declared.turn.Turn.{Turn}
use Rattle.boki_types.specs.declared.turn.Turn.TheVariants as u
use Rattle.boki_types.specs.Finding.{find, function_at}
use Rattle.boki_model.specs.Live.{LogRecord, Live, live, meets_condition}
use Rattle.boki_model.specs.Bodies.{step_of, is_value}
use Rattle.boki_model.specs.Plans.{in_bounds, has_arity, known_function, distinct, function_names, is_event}
use Rattle.boki_model.specs.Writes.{Version, versions_at}
use Rattle.boki_machine.specs.Machine.{Machine, log, live_records, initial_machine, apply_event, apply_events}
use Rattle.boki_machine.specs.Turns.{turn_of, turns_to, add_next_index}
use Rattle.exactly_once.specs.Induction.EventKeeps.{MachineHolds}
use Rattle.exactly_once.specs.FurtherLaws.Words.{IsAmong, values_only, all_records}
use Rattle.exactly_once.specs.Induction.Invariant.{IsSentRecord}
use Rattle.exactly_once.specs.FurtherLaws.StepRecords.{has_paths, IsWellFormed}
use Rattle.exactly_once.proofs.Log.ListElements.{each_append, each_weaker}
use Rattle.exactly_once.proofs.Machines.EventKeeps.{events_keep}
use Rattle.exactly_once.proofs.Machines.ExactlyOnce.{opens, run_holds}
use Rattle.exactly_once.proofs.Attempts.LostAnswerKeeps.{misses_keep}
use Rattle.exactly_once.proofs.Attempts.StepKeeps.{moves_keep}
use Rattle.exactly_once.proofs.Invariant.OrderedRecord.{among_each}
use Rattle.exactly_once.proofs.OldVersions.VersionKeeps.{versions_keep}
use Rattle.judge_agrees.specs.Requests.{SubmitsUtf8, IsRequest, IsValidSubmit, AllSubmitsValid}
use Rattle.judge_agrees.specs.Turns.{CanStand, TurnsCanStand}
use Rattle.judge_agrees.proofs.Requests.{requests_stay, none_at_first}

-- what is known of a record that was sent
record IsSent (fs : List Function) (body : Body) : Type 0 where
  paths : has_paths body ≡ true
  request : IsValidSubmit fs body

abbrev AllStand : List Function → List Turn → Type 0
AllStand fs ts = AllByRecursion (CanStand fs) ts

both : (a b : Bool) → a ≡ true → b ≡ true → (a && b) ≡ true
both true b h k = k
both false b h k = h

few_is : (n : ℕ) → n ≤ 200000 → in_bounds 0 200000 n ≡ true
few_is n h = grind (arith, nat_tests, h)

go_stands : (fs : List Function) (p : List ℕ) (n : ℕ) → is_path p ≡ true → AllStand fs (u.Go p n ∷ [])
go_stands fs p n h = (record { turn = λ few. both (is_path p) (in_bounds 0 200000 n) h (few_is n few); texts = tt }, tt)

arity_by : (fs : List Function) (n : ℕ) (o : Option ℕ) → has_arity n (known_function fs o) ≡ true → has_arity n (function_at (unwrap_or o 0) fs) ≡ true
arity_by fs n None h = let no_way : false ≡ true = h in cc
arity_by fs n (Some f) h = h

submit_stands : (fs : List Function) (p name : List ℕ) (args : List Value) → IsRequest fs p name args → AllStand fs (u.Submit (slice_index p 0) (unwrap_or (find name fs) 0) args ∷ [])
submit_stands fs p name args r =
    let front : (is_request (slice_index p 0) && list_all is_value args) ≡ true = both (is_request (slice_index p 0)) (list_all is_value args) r.number r.values in (
      record {
        turn = λ few. both (is_request (slice_index p 0) && list_all is_value args) (has_arity (length args) (function_at (unwrap_or (find name fs) 0) fs)) front (arity_by fs (length args) (find name fs) r.known);
        texts = r.texts;
      },
      tt,
    )

body_stands : (fs : List Function) (ahead : List (List ℕ × ℕ)) (free : ℕ) (body : Body) → IsSent fs body → AllStand fs (turn_of fs ahead free body)
body_stands fs ahead free (b.Submit p f args) is = submit_stands fs p f args is.request
body_stands fs ahead free (b.Init p) is = go_stands fs p _ is.paths
body_stands fs ahead free (b.Read p i key) is = go_stands fs p _ is.paths
body_stands fs ahead free (b.Write p i place key value) is = go_stands fs p _ is.paths
body_stands fs ahead free (b.Spawn p i ordinal f args) is = go_stands fs p _ (and_parts (is_path p) (leb (length p) 3) (and_parts (is_path p && leb (length p) 3) (is_ordinal ordinal) is.paths).0).0
body_stands fs ahead free (b.Join p i ordinal) is = go_stands fs p _ is.paths
body_stands fs ahead free (b.Push p i queue value) is = go_stands fs p _ is.paths
body_stands fs ahead free (b.Pop p i queue) is = go_stands fs p _ is.paths
body_stands fs ahead free (b.TxnBegin p i ns) is = go_stands fs p _ is.paths
body_stands fs ahead free (b.TxnCommit p i begin ns writes) is = go_stands fs p _ is.paths
body_stands fs ahead free (b.Finish p i outcome) is = (record { turn = λ few. is.paths; texts = tt }, tt)
body_stands fs ahead free (b.SwitchBegin target) is = tt
body_stands fs ahead free b.SwitchEnd is = tt
body_stands fs ahead free (b.Trim w) is = tt
body_stands fs ahead free (b.TrimTag number upto) is = tt
body_stands fs ahead free (b.User bytes) is = tt
body_stands fs ahead free (b.ReadGroup p i keys) is = go_stands fs p _ is.paths

turns_stand : (fs : List Function) (versions : List Version) (ahead : List (List ℕ × ℕ)) (xs : List (Live Body)) → AllByRecursion (λ x. IsSent fs x.holds) xs → AllStand fs (turns_to fs ahead versions xs)
turns_stand fs versions ahead [] all = tt
turns_stand fs versions ahead (x ∷ xs) all =
    each_append (CanStand fs) (turns_to fs (add_next_index (step_of x.holds) ahead) versions xs) (turn_of fs ahead (versions_at x.seq versions) x.holds)
    (turns_stand fs versions (add_next_index (step_of x.holds) ahead) xs all.1) (body_stands fs ahead (versions_at x.seq versions) x.holds all.0)

-- What is ordered was sent.
live_sent : (fs : List Function) (sent log : List (LogRecord Body)) → AllByRecursion (λ r. IsAmong r sent) log → AllByRecursion (λ (r : LogRecord Body). IsSent fs r.holds) sent → AllByRecursion (λ x. IsSent fs x.holds) (live log)
live_sent fs sent [] ordered all = tt
live_sent fs sent (r ∷ log) ordered all = at (meets_condition r.condition (live log)) (live_sent fs sent log ordered.1 all)
  where
    at : (t : Bool) → AllByRecursion (λ x. IsSent fs x.holds) (live log) → AllByRecursion (λ x. IsSent fs x.holds) (cond t (record { seq = suc (length log); tags = r.tags; holds = r.holds } ∷ live log) (live log))
    at true rest = (among_each (λ (r : LogRecord Body). IsSent fs r.holds) r sent ordered.0 all, rest)
    at false rest = rest

both_known : (fs : List Function) (rs : List (LogRecord Body)) → AllByRecursion IsWellFormed rs → AllByRecursion (λ (r : LogRecord Body). IsValidSubmit fs r.holds) rs → AllByRecursion (λ (r : LogRecord Body). IsSent fs r.holds) rs
both_known fs [] own all = tt
both_known fs (r ∷ rs) own all = (record { paths = own.0.paths; request = all.0 }, both_known fs rs own.1 all.1)

run_sent : (setup : Setup) (fs : List Function) (es : List Event) (m : Machine) → distinct (function_names fs) ≡ true → AllByRecursion (λ e. IsTrue (is_event setup fs e)) es → AllByRecursion SubmitsUtf8 es → AllSubmitsValid fs m → AllSubmitsValid fs (apply_events setup fs es m).machine
run_sent setup fs [] m apart all texts is = is
run_sent setup fs (e ∷ es) m apart all texts is = run_sent setup fs es (apply_event setup fs m e).machine apart all.1 texts.1 (requests_stay setup fs m e apart all.0 texts.0 is)

pub turns_can_stand : TurnsCanStand
turns_can_stand setup fs objects es apart all texts =
    let m : Machine = (apply_events setup fs es (initial_machine setup objects)).machine in
    let holds : MachineHolds setup fs m = run_holds setup fs (events_keep (moves_keep versions_keep) (misses_keep versions_keep)) es (initial_machine setup objects) all (opens setup fs objects) in
    let Asked : LogRecord Body → Type 0 = IsSentRecord setup fs (values_only m.store) m.store.fences (length (log m)) (live_records m) in
    let sent : AllSubmitsValid fs m = run_sent setup fs es (initial_machine setup objects) apart all texts (none_at_first setup fs objects) in
    let own : AllByRecursion IsWellFormed (all_records m.shards) = each_weaker Asked IsWellFormed (λ r asked. asked.own) (all_records m.shards) holds.holds.sent in
    turns_stand fs m.store.versions [] (live_records m) (live_sent fs (all_records m.shards) (log m) holds.holds.ordered (both_known fs (all_records m.shards) own sent))
