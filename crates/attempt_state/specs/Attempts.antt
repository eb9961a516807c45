-- What is kept of an attempt stands for an attempt of the machine.
use Rattle.std.specs.Prelude.{◌≡◌, ℕ, zero, suc, ◌<◌, ◌^◌, List, [], length, Option, Some, None}
use Rattle.boki_types.specs.declared.line.Life.{Life}
use Rattle.boki_types.specs.declared.line.Life.TheVariants.{Running}
use Rattle.boki_types.specs.declared.operation.Answer.{Answer}
use Rattle.boki_types.specs.declared.program.Function.{Function}
use Rattle.boki_machine.specs.Attempt.{Attempt, next_index}
use Rattle.script_run.specs.Answering.{Takes}
use Rattle.script_run.specs.Frames.{FrameState, FrameStandsFor}
use Rattle.attempt_state.specs.declared.state.AttemptState.{AttemptState}
use Rattle.attempt_state.specs.Progresses.{progress_of}

-- the frame is that of its function, its arguments and its answers
abbrev pub HasFrame : List Function → Attempt → Option FrameState → Type 0
HasFrame fs a None = ⊥
HasFrame fs a (Some frame) = FrameStandsFor fs a.function a.args (length a.path) a.answers frame

-- there is one exactly where the attempt runs and has adopted its Init
abbrev pub FrameFits : List Function → Attempt → Life → ℕ → Option FrameState → Type 0
FrameFits fs a Running (suc place) frame = HasFrame fs a frame
FrameFits fs a _ _ frame = frame ≡ None

pub record AttemptStandsFor (fs : List Function) (a : Attempt) (kept : AttemptState) : Type 0 where
  pub progress : kept.progress ≡ progress_of a
  pub frame : FrameFits fs a a.life a.place kept.frame
  -- the index of its next operation has 64 bits
  pub room : next_index a.answers < 2 ^ 64

-- there is a frame, and it takes the answer
abbrev pub FrameTakes : Option FrameState → Answer → Type 0
FrameTakes None answer = ⊥
FrameTakes (Some frame) answer = Takes frame.ask answer

-- it runs, and has adopted its Init
pub record HasScript (a : Attempt) : Type 0 where
  pub runs : a.life ≡ Running
  pub before : ℕ
  pub begun : a.place ≡ suc before

-- two attempts are at one point of one script
pub record SameScript (a b : Attempt) : Type 0 where
  pub path : b.path ≡ a.path
  pub function : b.function ≡ a.function
  pub args : b.args ≡ a.args
  pub answers : b.answers ≡ a.answers

-- it runs, and is about to adopt its Init
pub record IsBegun (a : Attempt) : Type 0 where
  pub runs : a.life ≡ Running
  pub place : a.place ≡ zero
  pub answers : a.answers ≡ []
