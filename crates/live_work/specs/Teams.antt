-- What the workers of a log did.
use Rattle.std.specs.Prelude.{◌≡◌, ℕ, ◌≤◌, List, [], ◌∷◌}
use Rattle.lb_base.specs.Devices.{CountRose}
use Rattle.live_log.specs.declared.fault.Stop.TheVariants.{Refused}
use Rattle.live_log.specs.Engines.{Engine}
use Rattle.live_text.specs.declared.answers.LiveAnswer.{LiveAnswer}
use Rattle.live_text.specs.declared.text.LiveOp.{LiveOp}
use Rattle.live_text.specs.Outputs.{ops_of}
use Rattle.live_work.specs.declared.worker.LiveWorker.{LiveWorker}
use Rattle.live_work.specs.Worked.{Worked}

module _ {J D : Type 0} where
  abbrev pub engines_of : List (LiveWorker J D) → List Engine
  engines_of [] = []
  engines_of (w ∷ ws) = w.engine ∷ engines_of ws

  abbrev pub answers_of : List (LiveWorker J D) → List (List LiveAnswer)
  answers_of [] = []
  answers_of (w ∷ ws) = w.answers ∷ answers_of ws

  -- a worker before and after: it did its lines, and where it stopped as Refused, its door did refuse
  pub record HasWorked (refusals : D → ℕ) (lines : List (ℕ × LiveOp)) (v w : LiveWorker J D) : Type 0 where
    pub worked : Worked (ops_of v.engine.number lines) w.answers v.engine w.engine w.stop
    pub counted : refusals v.door ≤ refusals w.door
    pub refused : w.stop ≡ Refused → CountRose (refusals v.door) (refusals w.door)

  abbrev pub EachWorked : (D → ℕ) → List (ℕ × LiveOp) → List (LiveWorker J D) → List (LiveWorker J D) → Type 0
  EachWorked refusals lines [] [] = Unit {0}
  EachWorked refusals lines (v ∷ vs) (w ∷ ws) = HasWorked refusals lines v w × EachWorked refusals lines vs ws
  EachWorked refusals lines _ _ = ⊥
