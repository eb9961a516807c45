-- What is due of a call that writes a plan.
use Rattle.std.specs.Prelude.{ℕ, List}
use Rattle.boki_types.specs.declared.plan.Plan.{Plan}
use Rattle.plan_lang.specs.Generated.{transfers}
use Rattle.plan_lang.specs.Printed.{plan_text}
use Rattle.plan_lang.specs.Texts.{plan_of}
use Rattle.call_base.specs.declared.status.Status.TheVariants.{Done}
use Rattle.call_base.specs.Due.{Due, due, due_by}

-- a plan in its canonical text
abbrev pub printed : Plan → Due
printed plan = due Done (plan_text plan)

-- `check`: the plan that the text spells
abbrev pub check_due : List ℕ → Due
check_due text = due_by printed (plan_of text)

-- `make N --plan`: the plan of so many transfers
abbrev pub make_due : ℕ → Due
make_due n = printed (transfers n)
