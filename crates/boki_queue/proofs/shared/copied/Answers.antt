use Rattle.std.proofs.Common.{◌≡◌, ◌∙◌, IfOk, drop, take, ap, subst}
use Rattle.boki_queue.proofs.Windows.{window_slice}
use Rattle.boki_queue.proofs.shared.copied.Goals as goal

pub returns : goal.returns
returns c =
    subst (λ vs. IfOk c.copied_values.result (λ values. values ≡ vs))
    (window_slice c.args.w.from c.args.w.to c.values_of.result.now c.requires.order ∙ ap (λ vs. drop c.args.w.from (take c.args.w.to vs)) c.values_of.ensures)
    c.copied_values.ensures
