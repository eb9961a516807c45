use Rattle.std.proofs.Common.{◌≡◌, ◌<◌, ◌≤◌, ◌∙◌, Ok, Err, sym, ap, subst, arith, length, rules}
use Rattle.std.specs.List.{insert}
use Rattle.script_run.proofs.Lookups.{Within, place_within, put_edits, edited, set_valued, insert_put_in}
use Rattle.script_run.specs.VariableIndex.{variable_index}
use Rattle.script_run.proofs.variables.put.Goals as goal

pub index_mut-requires : goal.index_mut-requires
index_mut-requires c =
    let vs = c.as_slice.result.now in
    let within : c.in-Ok.at < length vs = subst (Within (length vs)) (sym c.in-Ok.ensures) (place_within c.args.name.now vs) in
    omega (arith, within, c.as_slice.ensures.len)

pub returns-in-Ok-clause-ok : goal.returns-in-Ok-clause-ok
returns-in-Ok-clause-ok c =
    let vs = c.args.variables.now.items in
    let x = c.args.name.now in
    let found : variable_index x vs ≡ Ok c.in-Ok.at = sym (c.in-Ok.ensures ∙ ap (variable_index x) c.as_slice.ensures.value) in
    let within : c.in-Ok.at < length vs = subst (Within (length vs)) found (place_within x vs) in
    set_valued vs c.in-Ok.at c.index_mut.result.now c.args.value within c.index_mut.ensures.value ∙ sym (put_edits x c.args.value vs ∙ ap (edited x c.args.value vs) found)

pub insert-requires : goal.insert-requires
insert-requires c =
    let vs = c.as_slice.result.now in
    let within : c.in-Err.at ≤ length vs = subst (Within (length vs)) (sym c.in-Err.ensures) (place_within c.args.name.now vs) in
    omega (arith, within, c.as_slice.ensures.len)

pub returns-in_ok-insert-in-Err-clause-ok : goal.returns-in_ok-insert-in-Err-clause-ok
returns-in_ok-insert-in-Err-clause-ok c =
    let vs = c.args.variables.now.items in
    let x = c.args.name.now in
    let v = c.args.value in
    let at = c.in-Err.at in
    let found : variable_index x vs ≡ Err at = sym (c.in-Err.ensures ∙ ap (variable_index x) c.as_slice.ensures.value) in
    let within : at ≤ length vs = subst (Within (length vs)) found (place_within x vs) in
    let copied : c.in_ok-clone-in-Err.field-0 ≡ x = search rules in
    c.in_ok-insert-in-Err.ensures.items ∙ ap (λ name. insert vs at (name, v)) copied ∙ insert_put_in vs at (x, v) within ∙ sym (put_edits x v vs ∙ ap (edited x v vs) found)
