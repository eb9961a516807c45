use Rattle.std.proofs.Common.{refl, ap, ◌∙◌}
use Rattle.std.proofs.Output.{has_written_append}
use Rattle.lb_base.proofs.Escaping.{Escaping-start, Escaping-step, Escaping-end}
use Rattle.lb_base.proofs.print.QuotedDisplay.fmt.Goals as goal

pub chars-init : goal.chars-init
chars-init g c =
    Escaping-start _ _ _ _ (ap (λ i. i.rest.now) c.into_iter-c-iterator.ensures.into_iter_gives ∙ c.chars-c-items.ensures.rest)

pub chars-preserved : goal.chars-preserved
chars-preserved g c =
    Escaping-step _ _ _ _ _ _ _ c.in-Some.c c.in-Some.ensures.steps.0 (λ plain. c.in_ok-write_escaped.ensures plain refl) c.chars.invariant

pub returns-clause-writes : goal.returns-clause-writes
returns-clause-writes g c plain ok =
    let first = c.in_ok-write_str.ensures.writes plain refl in
    let text = Escaping-end _ _ _ _ _ c.in-None.ensures.steps.0.0 c.chars.invariant first.plain in
    let last = c.write_str-2.ensures.writes text.plain ok in
    has_written_append _ _ _ _ _ _ first (has_written_append _ _ _ _ _ _ text last)
