use Rattle.std.proofs.Common.{◌+◌, true, false, List, ℕ, drop, sym, ap, ◌∙◌}
use Rattle.script_lang.specs.Names.{is_among}
use Rattle.script_lang.proofs.NameLemmas.{distinct_step}
use Rattle.script_lang.proofs.names.are_distinct.Goals as goal

pub returns-then-is_name_among : goal.returns-then-is_name_among
returns-then-is_name_among c =
    let names = c.args.names.now in let i = c.names.i in let rest = drop (i + 1) names in
    let known = sym c.if-is_name_among.true ∙ c.is_name_among.ensures ∙ ap (λ (l : List (List ℕ)). is_among l c.as_str.result.now) c.split_at.ensures.back ∙ ap (is_among rest) c.as_str.ensures in
    sym (distinct_step names i c.index-names-i.result true c.names-test.true c.index-names-i.is known)
    ∙ c.names.invariant

pub names-preserved : goal.names-preserved
names-preserved c =
    let names = c.args.names.now in let i = c.names.i in let rest = drop (i + 1) names in
    let known = sym c.if-is_name_among.false ∙ c.is_name_among.ensures ∙ ap (λ (l : List (List ℕ)). is_among l c.as_str.result.now) c.split_at.ensures.back ∙ ap (is_among rest) c.as_str.ensures in
    sym (distinct_step names i c.index-names-i.result false c.names-test.true c.index-names-i.is known)
    ∙ c.names.invariant
