-- The attempts that a restart of an engine kills: those that run on it.
use Rattle.std.specs.Prelude.{ℕ, zero, suc, ◌==◌, ◌&&◌, Bool, List, [], ◌∷◌, length}
use Rattle.std.specs.List.{filter}
use Rattle.boki_types.specs.declared.program.Function.{Function}
use Rattle.boki_machine.specs.Step.{is_running}
use Rattle.boki_machine.specs.Machine.{NumberedAttempt, kill_if_on, kill_on}
use Rattle.attempt_state.specs.declared.state.AttemptState.{AttemptState}
use Rattle.cluster_run.specs.Clusters.{AttemptsStandFor}

-- by what is kept of it, an attempt runs on the engine
abbrev pub kept_runs_on : ℕ → AttemptState → Bool
kept_runs_on engine kept = is_running kept.progress.life && (engine == kept.progress.engine)

-- how many do
abbrev pub running_count : ℕ → List (ℕ × AttemptState) → ℕ
running_count engine kept = length (filter (λ e. kept_runs_on engine e.1) kept)

-- the attempt at an index, from 0, is killed if it runs on the engine
abbrev pub kill_one : ℕ → ℕ → List NumberedAttempt → List NumberedAttempt
kill_one engine index [] = []
kill_one engine zero (x ∷ xs) = kill_if_on engine x ∷ xs
kill_one engine (suc index) (x ∷ xs) = x ∷ kill_one engine index xs

-- so it is for whatever attempts were kept
abbrev pub KillsAt : ℕ → ℕ → List (ℕ × AttemptState) → List (ℕ × AttemptState) → Type 0
KillsAt engine index before after =
    (fs : List Function) (xs : List NumberedAttempt) → AttemptsStandFor fs xs before → AttemptsStandFor fs (kill_one engine index xs) after

-- each that runs on the engine is killed
abbrev pub KillsOn : ℕ → List (ℕ × AttemptState) → List (ℕ × AttemptState) → Type 0
KillsOn engine before after =
    (fs : List Function) (xs : List NumberedAttempt) → AttemptsStandFor fs xs before → AttemptsStandFor fs (kill_on engine xs) after
