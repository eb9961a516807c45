use Rattle.std.proofs.Common.{◌++◌, [], ◌∷◌, inl, inr, ap, ◌∙◌, ◌-◌, arith}
use Rattle.std.specs.Prelude.{map}
use Rattle.nemesis_types.specs.Kept.{numbered_nemesis}
use Rattle.nemesis.proofs.OneKept.{none_kept, kept_at}
use Rattle.nemesis.proofs.choosing.keep_one.Goals.{then-number-eq0-via-then-number-eq0, then-number-eq0-via-else-number-eq0+then-number-len}
use Rattle.nemesis.proofs.choosing.keep_one.Goals as goal

pub returns-then-number-eq0 : goal.returns-then-number-eq0
returns-then-number-eq0 g c =
    ap (map _) c.new-kept.ensures.items
    ∙ none_kept _ c.args.handed.items c.args.number (elim c.then-number-eq0.branch [ then-number-eq0-via-then-number-eq0 w ↦ inl (omega (arith, w.if-number-eq0)) | then-number-eq0-via-else-number-eq0+then-number-len w ↦ inr (omega (arith, w.if-number-len, w.len.ensures)) ])

pub returns : goal.returns
returns g c =
    ap (map _) (c.in_ok-push.ensures.items ∙ ap (λ l. l ++ (c.args.number, c.remove.result) ∷ []) c.new-kept.ensures.items)
    ∙ ap (λ o. numbered_nemesis c.args.number ((goal.Nemesis-dyn g (o.vtable, o.value)).automaton o.value) ∷ []) c.remove.ensures.value
    ∙ kept_at _ c.args.handed.items c.args.number 1 (c.args.number - 1) c.remove.result (omega (arith, c.if-number-eq0.false, c.if-number-len.false, c.len.ensures)) (omega (arith, c.if-number-eq0.false))
