-- What a run with nemeses printed is judged to the same report.
use Rattle.std.specs.Prelude.{◌≡◌, ℕ, List, [], ◌∷◌, Ok}
use Rattle.boki_types.specs.declared.plan.Plan.{Plan}
use Rattle.nemesis_types.specs.Kept.{NumberedNemesis}
use Rattle.plan_lang.specs.Texts.{plan_of}
use Rattle.run_with.specs.Runs.{Output, Planned, Added, Ignored, run_with}
use Rattle.judge_agrees.specs.Counts.{turns_of_log, HaveAtMost}
use Rattle.judge_agrees.specs.Laws.{turns_printed, IsWithinTextLimits, IsJudged}
use Rattle.judge_agrees.specs.Requests.{SubmitsUtf8}

-- the texts of the events that nemeses gave and that were done are UTF-8
abbrev pub AddedGiveTexts : List Output → Type 0
AddedGiveTexts [] = Unit {0}
AddedGiveTexts (Planned n line ∷ lines) = AddedGiveTexts lines
AddedGiveTexts (Added n i e line ∷ lines) = SubmitsUtf8 e × AddedGiveTexts lines
AddedGiveTexts (Ignored n i ∷ lines) = AddedGiveTexts lines

-- The run of a plan that a text spells, whatever the nemeses do.
abbrev pub RunsAreJudged : Type 0
RunsAreJudged =
    (text : List ℕ) (plan : Plan) (kept : List NumberedNemesis) → plan_of text ≡ Ok plan → AddedGiveTexts (run_with plan kept).lines
    → let m = (run_with plan kept).after.machine in
    HaveAtMost 200000 (turns_of_log plan.program.functions m) → IsWithinTextLimits (turns_printed plan m) → IsJudged plan m
