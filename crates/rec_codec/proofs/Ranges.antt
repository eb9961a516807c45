-- What the range of a call and of a spawn says of their fields.
use Rattle.std.proofs.Common.{◌≡◌, ℕ, ◌≤◌, Bool, true, ◌&&◌, eqb, leb, List, length, arith}
use Rattle.std.specs.List.{list_all}
use Rattle.std.proofs.lemmas.Bool.{and_parts, leb-true}
use Rattle.lb_base.specs.declared.value.Value.{Value}
use Rattle.lb_base.specs.Path.{is_path, is_ordinal}
use Rattle.boki_types.specs.declared.body.Body.{Body}
use Rattle.boki_types.specs.declared.body.Body.TheVariants as b
use Rattle.boki_model.specs.Bodies.{is_value, is_identifier, is_short_list, is_step_id, in_range}

pub record CallFields (f : List ℕ) (args : List Value) : Type 0 where
  pub function : is_identifier f ≡ true
  pub count : length args ≤ 8
  pub each : list_all is_value args ≡ true

pub submit_in : (p f : List ℕ) (args : List Value) → in_range (b.Submit p f args) ≡ true → CallFields f args
submit_in p f args h =
    let r3 = and_parts ((is_path p && eqb (length p) 1) && is_identifier f && is_short_list args) (list_all is_value args) h in
    let r2 = and_parts ((is_path p && eqb (length p) 1) && is_identifier f) (is_short_list args) r3.0 in
    let r1 = and_parts (is_path p && eqb (length p) 1) (is_identifier f) r2.0 in
    record { function = r1.1; count = leb-true (length args) 8 r2.1; each = r3.1 }

pub record SpawnFields (p : List ℕ) (ordinal : ℕ) (f : List ℕ) (args : List Value) : Type 0 where
  pub depth : length p ≤ 3
  pub ordinal_ok : is_ordinal ordinal ≡ true
  pub call : CallFields f args

pub spawn_in : (p : List ℕ) (i ordinal : ℕ) (f : List ℕ) (args : List Value) → in_range (b.Spawn p i ordinal f args) ≡ true → SpawnFields p ordinal f args
spawn_in p i ordinal f args h =
    let r5 = and_parts (is_step_id p i && leb (length p) 3 && is_ordinal ordinal && is_identifier f && is_short_list args) (list_all is_value args) h in
    let r4 = and_parts (is_step_id p i && leb (length p) 3 && is_ordinal ordinal && is_identifier f) (is_short_list args) r5.0 in
    let r3 = and_parts (is_step_id p i && leb (length p) 3 && is_ordinal ordinal) (is_identifier f) r4.0 in
    let r2 = and_parts (is_step_id p i && leb (length p) 3) (is_ordinal ordinal) r3.0 in
    let r1 = and_parts (is_step_id p i) (leb (length p) 3) r2.0 in
    record { depth = leb-true (length p) 3 r1.1; ordinal_ok = r2.1; call = record { function = r3.1; count = leb-true (length args) 8 r4.1; each = r5.1 } }
