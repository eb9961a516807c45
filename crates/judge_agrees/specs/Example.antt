-- Two texts of turns: a request that writes an object and ends; and the same request, ended too early.
use Rattle.std.specs.Prelude.{◌≡◌, ℕ, List, ◌++◌, codes}
use Rattle.boki_types.specs.declared.kind.Kind.TheVariants as kind
use Rattle.call_base.specs.declared.status.Status.TheVariants.{Done}
use Rattle.call_base.specs.Due.{due, refusal}
use Rattle.judge_agrees.specs.Judged.{judge_due}

abbrev pub head : List ℕ
head = codes "setup 1 1 1 R\nfunction f(k)\n  write k, 7\n  return k\nend\nturns\n"

abbrev pub turns_done : List ℕ
turns_done = codes "turn submit 1 f(\"x\")\nturn go 1 0\nturn go 1 1\nturn end 1\n"

abbrev pub turns_stopped : List ℕ
turns_stopped = codes "turn submit 1 f(\"x\")\nturn go 1 0\nturn end 1\n"

abbrev pub results : List ℕ
results = codes "result 1 value \"x\"\nobject \"x\" 7\nend\n"

-- The first is judged to its report, and of the second the line is refused at which the script isn't done.
pub record ExampleJudged : Type 0 where
  pub reported : judge_due (head ++ turns_done) ≡ due Done (codes "report\n" ++ (turns_done ++ results))
  pub refused : judge_due (head ++ turns_stopped) ≡ refusal 9 kind.Illegal
