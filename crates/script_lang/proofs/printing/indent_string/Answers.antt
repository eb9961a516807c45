use Rattle.std.proofs.Common.{◌≡◌, ◌+◌, ◌-◌, ◌++◌, List, ℕ, suc, sym, ap, ◌∙◌, append_assoc, arith}
use Rattle.std.specs.Prelude.{codes}
use Rattle.std.specs.String.{string_bytes}
use Rattle.script_lang.specs.Printed.{indent}
use Rattle.script_lang.proofs.printing.indent_string.Goals as goal

pub steps-preserved : goal.steps-preserved
steps-preserved c =
    let left = c.args.n - (c.steps.counter + 1) in
    let e : c.args.n - c.steps.counter ≡ suc left = omega arith in
    ap (λ (t : List ℕ). t ++ indent left) c.in_ok-push_str.ensures.bytes
    ∙ append_assoc (string_bytes c.steps.out) (codes "  ") (indent left)
    ∙ ap (λ k. string_bytes c.steps.out ++ indent k) (sym e)
    ∙ c.steps.invariant
