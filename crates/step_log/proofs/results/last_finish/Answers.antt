use Rattle.std.proofs.Common.{◌≡◌, ◌∙◌, ◌-◌, Option, Result, Ok, Err, IfOk, ap}
use Rattle.lb_base.specs.declared.value.Outcome.{Outcome}
use Rattle.lb_base.specs.declared.value.Tag.{Tag}
use Rattle.step_log.proofs.Looks.{last_at}
use Rattle.step_log.proofs.results.last_finish.Goals as goal

on_ok : {E : Type 0} (r : Result (Option Outcome) E) (x y : Option Outcome) → x ≡ y → IfOk r (λ o. o ≡ x) → IfOk r (λ o. o ≡ y)
on_ok (Ok o) x y e is = is ∙ e
on_ok (Err f) x y e is = tt

pub returns : goal.returns
returns c =
    on_ok c.finish_at.result _ _
    (last_at c.args.path c.args.book.now c.args.engine c.step_tag-tag.result.0 c.saturating_sub-last.result (ap (λ (t : Tag). t.0) c.step_tag-tag.ensures) (c.saturating_sub-last.ensures ∙ ap (λ n. n - 1) c.count.ensures))
    c.finish_at.ensures
