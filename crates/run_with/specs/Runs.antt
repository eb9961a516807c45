-- Runs with nemeses: what is written, what is done, and what is left. Each event of the plan is done, and
-- behind it each nemesis that is kept is asked once, in order.
use Rattle.std.specs.Prelude.{ℕ, zero, suc, ◌+◌, Bool, true, false, if◌then◌else◌, List, [], ◌∷◌, ◌++◌, length, map, Option, Some, None, slice_get, slice_set}
use Rattle.boki_types.specs.declared.event.Event.{Event}
use Rattle.boki_types.specs.declared.event.Event.TheVariants as v
use Rattle.boki_types.specs.declared.line.Line.{Line}
use Rattle.boki_types.specs.declared.line.Line.TheVariants as l
use Rattle.boki_types.specs.declared.line.StepLine.{StepLine}
use Rattle.boki_types.specs.declared.line.StepLine.TheVariants as s
use Rattle.boki_types.specs.declared.plan.Setup.{Setup}
use Rattle.boki_types.specs.declared.plan.Plan.{Plan}
use Rattle.boki_types.specs.declared.program.Function.{Function}
use Rattle.boki_model.specs.Plans.{is_event, events}
use Rattle.boki_machine.specs.Machine.{Machine, apply_event, initial_machine}
use Rattle.nemesis_types.specs.declared.seen.Seen.{Seen}
use Rattle.nemesis_types.specs.declared.seen.Started.{Started}
use Rattle.nemesis_types.specs.Automaton.{answer_of}
use Rattle.nemesis_types.specs.Kept.{NumberedNemesis, after_asking, after_reseeding, without_spent, next_asked_index}

-- A line of the text: `N LINE` of the plan's event with the number N; `N+I EVENT: LINE` of an event that the
-- nemesis with the number I gave behind it; and `N+I ignored` where it gave one that no plan can have.
pub data Output : Type 0 where
  Planned : ℕ → Line → Output
  Added : ℕ → ℕ → Event → Line → Output
  Ignored : ℕ → ℕ → Output

-- the machine, and the nemeses that are kept
pub record RunState : Type 0 where
  pub machine : Machine
  pub kept : List NumberedNemesis

abbrev pub state : Machine → List NumberedNemesis → RunState
state m kept = record { machine = m; kept = kept }

-- the lines that are written, the events that are done, in order, and the state behind them
pub record NemesisRun : Type 0 where
  pub lines : List Output
  pub performed : List Event
  pub after : RunState

abbrev pub nemesis_run : List Output → List Event → RunState → NemesisRun
nemesis_run lines performed after = record { lines = lines; performed = performed; after = after }

-- nothing is written or done
abbrev pub nothing_done : RunState → NemesisRun
nothing_done s = nemesis_run [] [] s

-- one behind the other
abbrev pub followed_by : NemesisRun → NemesisRun → NemesisRun
followed_by t u = nemesis_run (t.lines ++ u.lines) (t.performed ++ u.performed) u.after

-- What a nemesis is told of an event of the plan.

abbrev pub attempt_started : Event → Line → Option Started
attempt_started (v.Start attempt path engine) l.Started =
    Some (record { attempt = attempt; path = path; engine = engine })
attempt_started _ _ = None

abbrev pub attempt_stepped : Event → Option ℕ
attempt_stepped (v.Step attempt) = Some attempt
attempt_stepped _ = None

abbrev pub is_send : StepLine → Bool
is_send (s.SendInit at) = true
is_send (s.SendFinish at outcome) = true
is_send (s.SendRead at key) = true
is_send (s.SendWrite at key value) = true
is_send (s.SendJoin at child) = true
is_send (s.SendSpawn at child f args) = true
is_send (s.SendPush at queue value) = true
is_send (s.SendPop at queue) = true
is_send (s.SendBegin at names) = true
is_send (s.SendCommit at writes) = true
is_send (s.SendReadAll at keys) = true
is_send _ = false

abbrev pub step_sent : Event → Line → Bool
step_sent (v.Step attempt) (l.Step line) = is_send line
step_sent _ _ = false

abbrev pub seen_of : ℕ → Event → Line → Seen
seen_of n e line = record {
  event = n;
  started = attempt_started e line;
  stepped = attempt_stepped e;
  sent = step_sent e line;
}

-- An event is done. A seed reseeds every nemesis that is kept.

abbrev pub reseeded_by : Event → List NumberedNemesis → List NumberedNemesis
reseeded_by (v.Seed n) kept = map (after_reseeding n) kept
reseeded_by _ kept = kept

abbrev pub run_event : Setup → List Function → (Line → Output) → Event → RunState → NemesisRun
run_event t fs labelled e s =
    let d = apply_event t fs s.machine e in
    nemesis_run (labelled d.line ∷ []) (e ∷ []) (state d.machine (reseeded_by e s.kept))

-- Behind the event with the number N, the nemesis with the number I gave this, or nothing. It is done where a
-- plan can have it.
abbrev pub run_answer : Setup → List Function → ℕ → ℕ → Option Event → RunState → NemesisRun
run_answer t fs n i None s = nothing_done s
run_answer t fs n i (Some e) s =
    if is_event t fs e then run_event t fs (Added n i e) e s else nemesis_run (Ignored n i ∷ []) [] s

-- The nemesis that stands at an index, from 0, among those that are kept is asked, and what it gives is done.
abbrev pub ask_found : Setup → List Function → Seen → ℕ → RunState → Option NumberedNemesis → NemesisRun
ask_found t fs seen at s None = nothing_done s
ask_found t fs seen at s (Some k) =
    run_answer t fs seen.event k.number (answer_of k.automaton seen) (state s.machine (slice_set s.kept at (after_asking seen k)))

abbrev pub ask_one : Setup → List Function → Seen → ℕ → RunState → NemesisRun
ask_one t fs seen at s = ask_found t fs seen at s (slice_get s.kept at)

-- So many are asked, from an index on. Right behind its own ask and what it gave, and at no other moment, one
-- is dropped where it is spent; and the next one then stands at its index.
abbrev pub ask_from : Setup → List Function → Seen → ℕ → ℕ → RunState → NemesisRun
ask_from t fs seen zero at s = nothing_done s
ask_from t fs seen (suc count) at s =
    let a = ask_one t fs seen at s in
    let rest = state a.after.machine (without_spent a.after.kept at) in
    followed_by a (ask_from t fs seen count (next_asked_index a.after.kept at) rest)

-- An event of the plan, and behind it each nemesis that is kept is asked once. They are all told the same.
abbrev pub round : Setup → List Function → ℕ → Event → RunState → NemesisRun
round t fs n e s =
    let d = run_event t fs (Planned n) e s in
    followed_by d (ask_from t fs (seen_of n e (apply_event t fs s.machine e).line) (length d.after.kept) 0 d.after)

-- events from a number on
abbrev pub run_from : Setup → List Function → ℕ → List Event → RunState → NemesisRun
run_from t fs n [] s = nothing_done s
run_from t fs n (e ∷ es) s = let r = round t fs n e s in followed_by r (run_from t fs (n + 1) es r.after)

-- The run of a plan with these nemeses.
abbrev pub run_with : Plan → List NumberedNemesis → NemesisRun
run_with p kept =
    run_from p.setup p.program.functions 1 (events p.items) (state (initial_machine p.setup p.objects) kept)

-- all the events that are done in it: those of the plan, and those that the nemeses gave between them
abbrev pub performed : Plan → List NumberedNemesis → List Event
performed p kept = (run_with p kept).performed
