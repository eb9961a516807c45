-- What code that runs a plan has written, and what it stands at.
use Rattle.std.specs.Prelude.{◌≡◌, ℕ, List, [], ◌∷◌, ◌++◌, Option}
use Rattle.lb_base.specs.Devices.{Appends, AppendsPrefix}
use Rattle.boki_machine.specs.Machine.{Machine}
use Rattle.nemesis_types.specs.Kept.{NumberedNemesis}
use Rattle.run_with.specs.Runs.{Output, NemesisRun}

-- the text of lines, by the text of each
abbrev pub text_of_lines : (Output → List ℕ) → List Output → List ℕ
text_of_lines line_text [] = []
text_of_lines line_text (x ∷ xs) = line_text x ++ text_of_lines line_text xs

-- A sink took what is told; these are the nemeses that are kept behind it, and the machine behind it is one
-- that is stood for.
pub record SinkTook (line_text : Output → List ℕ) (stands : Machine → Type 0) (t : NemesisRun)
    (old new : Option (List ℕ)) (kept : List NumberedNemesis) : Type 0 where
  pub text : Appends old new (text_of_lines line_text t.lines)
  pub same : kept ≡ t.after.kept
  pub machine : stands t.after.machine

-- A sink took a front of it.
pub record SinkTookPrefix (line_text : Output → List ℕ) (t : NemesisRun) (old new : Option (List ℕ)) : Type 0 where
  pub text : AppendsPrefix old new (text_of_lines line_text t.lines)
