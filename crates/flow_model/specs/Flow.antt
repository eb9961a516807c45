-- Live flow, as a relation between a text and what its workers came to: the list, in which all records stand, and each worker's
-- runs, with the line of each step and how many records of the list it saw.
use Rattle.std.specs.Prelude.{◌≡◌, ◌⊎◌, ℕ, zero, suc, ◌-◌, ◌<◌, ◌≤◌, max, ◌==◌, IsTrue, Bool, true, false, cond, List, [], ◌∷◌, ◌++◌, length, map, take, reverse, slice_get, Option, Some, None}
use Rattle.std.specs.List.{filter, AllByRecursion}
use Rattle.lb_base.specs.Path.{is_request}
use Rattle.lb_base.specs.declared.value.Value.{Value}
use Rattle.boki_types.specs.declared.body.Body.{Body}
use Rattle.boki_types.specs.declared.line.FlowLine.{FlowLine}
use Rattle.boki_types.specs.declared.line.FlowLine.TheVariants as l
use Rattle.boki_types.specs.declared.program.Function.{Function}
use Rattle.boki_model.specs.Live.{LogRecord, live, upto}
use Rattle.boki_machine.specs.Attempt.{Attempt, new_attempt}
use Rattle.boki_machine.specs.Step.{function_name}
use Rattle.boki_machine.specs.Machine.{submit_record}
use Rattle.flow_model.specs.declared.flow.FlowText.{FlowText}
use Rattle.flow_model.specs.declared.flow.FlowRun.{FlowRun}
use Rattle.flow_model.specs.declared.flow.FlowStep.{FlowStep}
use Rattle.flow_model.specs.Step.{FlowMove, flow_step}
use Rattle.flow_model.specs.Written.{AllWritten}

-- a record of the list, with the worker that sent it; the list has the oldest first, and seqnums count from 1
abbrev pub WorkerRecord : Type 0
WorkerRecord = ℕ × LogRecord Body

-- what the list is to the definitions of reads: the newest record first, without its worker
abbrev pub log_of : List WorkerRecord → List (LogRecord Body)
log_of list = reverse (map (λ x. x.1) list)

-- a call is submitted by the engine 1
abbrev pub submission : List Function → ℕ × ℕ × List Value → WorkerRecord
submission fs c = (1, submit_record (c.0 ∷ []) (function_name c.1 fs) c.2)

-- Lines.

-- the seqnum of the record that a line sends; 0 where it sends none
abbrev pub sent_seqnum : FlowLine → ℕ
sent_seqnum (l.SendInit s) = s.0
sent_seqnum (l.SendFinish s outcome) = s.0
sent_seqnum (l.SendWrite s key v) = s.0
sent_seqnum (l.SendSpawn s p f args) = s.0
sent_seqnum (l.SendJoin s p) = s.0
sent_seqnum _ = 0

-- a run ends behind such a line
abbrev pub ends_run : FlowLine → Bool
ends_run (l.Over outcome) = true
ends_run l.WaitsCall = true
ends_run (l.WaitsJoin p) = true
ends_run _ = false

-- Steps.

abbrev pub flow_move : List Function → List (List ℕ × Value) → List WorkerRecord → Attempt → FlowStep → FlowMove
flow_move fs objects list t s = flow_step fs objects (upto s.at (live (log_of list))) (sent_seqnum s.line) t

-- a record that a worker's step over p records sends stands at the seqnum that its line names, behind those p
abbrev pub StandsInList : ℕ → List WorkerRecord → ℕ → ℕ → Option (LogRecord Body) → Type 0
StandsInList worker list p seq None = Unit {0}
StandsInList worker list p seq (Some r) = (p < seq) × (slice_get list (seq - 1) ≡ Some (worker, r))

-- the step with an attempt, over the records that it sees, has this line, and sends the record that the line names
pub record IsComputedStep (fs : List Function) (objects : List (List ℕ × Value)) (list : List WorkerRecord) (worker : ℕ) (t : Attempt) (s : FlowStep) : Type 0 where
  pub line : s.line ≡ (flow_move fs objects list t s).line
  pub stands : StandsInList worker list s.at (sent_seqnum s.line) (flow_move fs objects list t s).sends

-- A worker's step with an attempt: it sees at least so many records, and is the answer over those.
pub record IsWorkerStep (fs : List Function) (objects : List (List ℕ × Value)) (list : List WorkerRecord) (worker least : ℕ) (t : Attempt) (s : FlowStep) : Type 0 where
  pub sees : least ≤ s.at
  pub within : s.at ≤ length list
  pub answer : IsComputedStep fs objects list worker t s

-- What the worker alone can say of it: it is the answer, where the records that it sees were each submitted or sent by a step.
pub record IsClaim (fs : List Function) (objects : List (List ℕ × Value)) (list : List WorkerRecord) (worker least : ℕ) (t : Attempt) (s : FlowStep) : Type 0 where
  pub sees : least ≤ s.at
  pub within : s.at ≤ length list
  pub behind : (sent_seqnum s.line ≡ 0) ⊎ (s.at < sent_seqnum s.line)
  pub answer : AllWritten fs objects (log_of (take s.at list)) → IsComputedStep fs objects list worker t s

-- behind a step its worker sees what it saw, and the record that it sent
abbrev pub seen_behind : FlowStep → ℕ
seen_behind s = max s.at (sent_seqnum s.line)

-- the steps of a run, each with the attempt that those before it made
abbrev pub AreSteps : List Function → List (List ℕ × Value) → List WorkerRecord → (ℕ → Attempt → FlowStep → Type 0) → ℕ → Attempt → List FlowStep → Type 0
AreSteps fs objects list Is least t [] = Unit {0}
AreSteps fs objects list Is least t (s ∷ ss) = Is least t s × AreSteps fs objects list Is (seen_behind s) (flow_move fs objects list t s).attempt ss

-- Runs.

abbrev pub seen_behind_all : ℕ → List FlowStep → ℕ
seen_behind_all least [] = least
seen_behind_all least (s ∷ ss) = seen_behind_all (seen_behind s) ss

-- each run of a worker makes a new attempt
abbrev pub AreRuns : List Function → List (List ℕ × Value) → List WorkerRecord → (ℕ → Attempt → FlowStep → Type 0) → ℕ → ℕ → List FlowRun → Type 0
AreRuns fs objects list Is worker least [] = Unit {0}
AreRuns fs objects list Is worker least (r ∷ rs) =
    AreSteps fs objects list Is least (new_attempt r.path worker) r.steps × AreRuns fs objects list Is worker (seen_behind_all least r.steps) rs

abbrev pub runs_of : ℕ → List FlowRun → List FlowRun
runs_of worker runs = filter (λ r. worker == r.worker) runs

-- a run of up to so many steps ends behind a line that ends it, and else with the last of them
abbrev pub is_whole : ℕ → List FlowStep → Bool
is_whole zero [] = true
is_whole zero (s ∷ ss) = false
is_whole (suc n) [] = false
is_whole (suc n) (s ∷ ss) = cond (ends_run s.line) (is_empty ss) (is_whole n ss)
  where
    is_empty : List FlowStep → Bool
    is_empty [] = true
    is_empty (s ∷ ss) = false

-- a worker does its lines in order
abbrev pub worker_lines : ℕ → List (ℕ × List ℕ × ℕ) → List (ℕ × List ℕ × ℕ)
worker_lines worker lines = filter (λ x. worker == x.0) lines

abbrev pub DidLines : List (ℕ × List ℕ × ℕ) → List FlowRun → Type 0
DidLines [] [] = Unit {0}
DidLines (x ∷ xs) (r ∷ rs) = (r.path ≡ x.1) × IsTrue (is_whole x.2 r.steps) × DidLines xs rs
DidLines _ _ = ⊥

-- The seqnums of a worker's records in a list that has so many before it; and those that lines name.

abbrev pub seqs_of : ℕ → ℕ → List WorkerRecord → List ℕ
seqs_of worker before [] = []
seqs_of worker before (x ∷ xs) = cond (worker == x.0) (suc before ∷ seqs_of worker (suc before) xs) (seqs_of worker (suc before) xs)

abbrev pub and_named : ℕ → List ℕ → List ℕ
and_named zero seqs = seqs
and_named (suc n) seqs = suc n ∷ seqs

abbrev pub sent_seqnums_in : List FlowStep → List ℕ → List ℕ
sent_seqnums_in [] others = others
sent_seqnums_in (s ∷ ss) others = and_named (sent_seqnum s.line) (sent_seqnums_in ss others)

abbrev pub sent_seqnums : List FlowRun → List ℕ
sent_seqnums [] = []
sent_seqnums (r ∷ rs) = sent_seqnums_in r.steps (sent_seqnums rs)

-- Live flow; what each step is, is left open.
pub record IsFlow (text : FlowText) (list : List WorkerRecord) (runs : List FlowRun) (Is : ℕ → ℕ → Attempt → FlowStep → Type 0) : Type 0 where
  -- the list begins with the submissions
  pub later : List WorkerRecord
  pub begins : list ≡ map (submission text.program.functions) text.calls ++ later
  -- each worker does its lines, and in each run as many steps as it may
  pub did : (worker : ℕ) → DidLines (worker_lines worker text.runs) (runs_of worker runs)
  -- the steps of a worker see the submissions, all that its earlier steps saw, and what these sent
  pub steps : (worker : ℕ) → AreRuns text.program.functions text.objects list (Is worker) worker (length text.calls) (runs_of worker runs)
  -- behind the submissions the records of a worker are those that its lines name, in order
  pub named : (worker : ℕ) → seqs_of worker (length text.calls) later ≡ sent_seqnums (runs_of worker runs)

abbrev pub IsLiveFlow : FlowText → List WorkerRecord → List FlowRun → Type 0
IsLiveFlow text list runs = IsFlow text list runs (IsWorkerStep text.program.functions text.objects list)

-- what the workers say together
abbrev pub IsClaimed : FlowText → List WorkerRecord → List FlowRun → Type 0
IsClaimed text list runs = IsFlow text list runs (IsClaim text.program.functions text.objects list)

-- a text calls requests in range
abbrev pub AreCalls : FlowText → Type 0
AreCalls text = AllByRecursion (λ c. IsTrue (is_request c.0)) text.calls
