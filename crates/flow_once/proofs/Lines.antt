-- What the line of a step tells.
use Rattle.std.proofs.Common.{◌≡◌, ℕ, zero, suc, Bool, true, false, cond, List, Option, Some, None, refl, sym, ap, ◌∙◌}
use Rattle.lb_base.specs.declared.value.Value.{Value}
use Rattle.lb_base.specs.declared.value.Outcome.{Outcome}
use Rattle.boki_types.specs.declared.body.Body.{Body}
use Rattle.boki_types.specs.declared.body.Body.TheVariants as b
use Rattle.boki_types.specs.declared.line.Life.{Life}
use Rattle.boki_types.specs.declared.line.Life.TheVariants.{Running}
use Rattle.boki_types.specs.declared.line.FlowLine.{FlowLine}
use Rattle.boki_types.specs.declared.line.FlowLine.TheVariants as l
use Rattle.boki_types.specs.declared.log.Call.{Call}
use Rattle.boki_types.specs.declared.operation.Op.{Op}
use Rattle.boki_types.specs.declared.operation.Op.TheVariants as o
use Rattle.boki_types.specs.declared.operation.Ask.{Ask}
use Rattle.boki_types.specs.declared.operation.Ask.TheVariants as k
use Rattle.boki_types.specs.declared.program.Function.{Function}
use Rattle.boki_model.specs.Live.{LogRecord, Live}
use Rattle.boki_model.specs.Reads.{nth}
use Rattle.boki_model.specs.Bodies.{step_tag, step_of, child}
use Rattle.boki_model.specs.Modes.{result_of}
use Rattle.boki_machine.specs.Attempt.{Attempt, next_index, call_of}
use Rattle.boki_machine.specs.Step.{has_index, answers_to, attempt_ask}
use Rattle.flow_model.specs.Step.{FlowMove, stays, flow_adopts_join, flow_adopts_operation, flow_adopt_or, flow_join_step, flow_operation_step, flow_script_step, flow_init_step, flow_step_at_place, flow_step_when_called, flow_step_if_running, flow_step}
use Rattle.flow_model.specs.Flow.{sent_seqnum}

abbrev is_over : FlowLine → Bool
is_over (l.Over outcome) = true
is_over _ = false

-- a line names a seqnum only where a record is sent
abbrev pub Unnamed : Option (LogRecord Body) → ℕ → Type 0
Unnamed None n = n ≡ 0
Unnamed (Some r) n = Unit {0}

pub record IsTold (view : List (Live Body)) (t : Attempt) (move : FlowMove) : Type 0 where
  pub unnamed : Unnamed move.sends (sent_seqnum move.line)
  pub path : move.attempt.path ≡ t.path
  pub over : (outcome : Outcome) → move.line ≡ l.Over outcome → result_of t.path view ≡ Some outcome

module _ (fs : List Function) (objects : List (List ℕ × Value)) (view : List (Live Body)) (at : ℕ) (t : Attempt) where
  abbrev Told : FlowMove → Type 0
  Told move = IsTold view t move

  never_over : (line : FlowLine) → is_over line ≡ false → (outcome : Outcome) → line ≡ l.Over outcome → result_of t.path view ≡ Some outcome
  never_over line other outcome e = absurd (let no_way : false ≡ true = sym other ∙ ap is_over e in let h : ⊥ = cc in h)

  stays_told : (m : Attempt) (line : FlowLine) → sent_seqnum line ≡ 0 → m.path ≡ t.path → is_over line ≡ false → Told (stays m line)
  stays_told m line none path other = record { unnamed = none; path = path; over = never_over line other }

  posts_told : (r : LogRecord Body) (line : FlowLine) → is_over line ≡ false → Told (record { attempt = t; sends = Some r; line = line })
  posts_told r line other = record { unnamed = tt; path = refl; over = never_over line other }

  waits_told : Told (stays t l.WaitsCall)
  waits_told = stays_told t l.WaitsCall refl refl refl

  joins_told : (ordinal : ℕ) (result : Option Outcome) → Told (flow_join_step t at ordinal result)
  joins_told ordinal None = stays_told t _ refl refl refl
  joins_told ordinal (Some outcome) = posts_told _ _ refl

  operates_told : (op : Op) → Told (flow_operation_step fs objects t view at op)
  operates_told (o.Read key) = stays_told _ _ refl refl refl
  operates_told (o.Write key v) = posts_told _ _ refl
  operates_told (o.Spawn ordinal function args) = posts_told _ _ refl
  operates_told (o.Join ordinal) = joins_told ordinal (result_of (child t.path ordinal) view)
  operates_told _ = waits_told

  asks_told : (ask : Option Ask) → Told (flow_script_step fs objects t view at ask)
  asks_told None = waits_told
  asks_told (Some (k.Done outcome)) = posts_told _ _ refl
  asks_told (Some (k.Op op)) = operates_told op

  join_told : (seq : ℕ) (p : List ℕ) (outcome : Option Outcome) → Told (flow_adopts_join t seq p outcome)
  join_told seq p None = stays_told _ _ refl refl refl
  join_told seq p (Some outcome) = stays_told _ _ refl refl refl

  adopts_told : (seq : ℕ) (body : Body) (other : FlowMove) → Told other → Told (flow_adopts_operation t view seq body other)
  adopts_told seq (b.Write p i place key here) other told = stays_told _ _ refl refl refl
  adopts_told seq (b.Spawn p i ordinal name args) other told = stays_told _ _ refl refl refl
  adopts_told seq (b.Join p i ordinal) other told = join_told seq (child p ordinal) (result_of (child p ordinal) view)
  adopts_told seq _ other told = told

  takes_told : (ask : Option Ask) (o : Option (Live Body)) (other : FlowMove) → Told other → Told (flow_adopt_or t view (answers_to t ask o) other)
  takes_told (Some (k.Op op)) (Some x) other told =
      elim (has_index (next_index t.answers) (step_of x.holds)) as (λ u. Told (flow_adopt_or t view (cond u (Some x) None) other))
      [ true ↦ adopts_told x.seq x.holds other told | false ↦ told ]
  takes_told (Some (k.Op op)) None other told = told
  takes_told (Some (k.Done outcome)) o other told = told
  takes_told None o other told = told

  begins_told : (call : Call) (o : Option (Live Body)) → Told (flow_init_step fs t at call o)
  begins_told call None = posts_told _ _ refl
  begins_told call (Some x) = stays_told _ _ refl refl refl

  placed_told : (call : Call) (place : ℕ) → Told (flow_step_at_place fs objects t view at call place)
  placed_told call zero = begins_told call (nth (step_tag t.path) 0 view)
  placed_told call (suc place) = takes_told (attempt_ask fs t) (nth (step_tag t.path) t.place view) (flow_script_step fs objects t view at (attempt_ask fs t)) (asks_told (attempt_ask fs t))

  with_call_told : (result : Option Outcome) (call : Option Call) → result_of t.path view ≡ result → Told (flow_step_when_called fs objects t view at result call)
  with_call_told (Some outcome) call is = record { unnamed = refl; path = refl; over = λ other e. is ∙ ap Some (let same : outcome ≡ other = cc in same) }
  with_call_told None None is = waits_told
  with_call_told None (Some call) is = placed_told call t.place

  life_told : (life : Life) → Told (flow_step_if_running fs objects t view at life)
  life_told Running = with_call_told (result_of t.path view) (call_of t.path view) refl
  life_told _ = waits_told

  pub told : Told (flow_step fs objects view at t)
  told = life_told t.life
