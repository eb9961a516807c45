-- The tests of sameness tell what is the same.
use Rattle.std.proofs.Common.{◌≡◌, ℕ, Bool, true, false, eqb, ◌&&◌, List, [], ◌∷◌, Option, Some, None, refl, ap, ◌∙◌}
use Rattle.std.specs.Prelude.{bytes_eq, ℤ, pos, negsuc}
use Rattle.std.proofs.lemmas.Bool.{eqb-true, eq-eqb, and_parts, and_from}
use Rattle.lb_base.specs.declared.value.Value.{Value}
use Rattle.lb_base.specs.declared.value.Value.TheVariants.{Int, Text, Nothing}
use Rattle.lb_base.specs.declared.value.TrapKind.{TrapKind}
use Rattle.lb_base.specs.declared.value.TrapKind.TheVariants as trap
use Rattle.lb_base.specs.declared.value.Outcome.{Outcome}
use Rattle.lb_base.specs.declared.value.Outcome.TheVariants.{Good, Trap}
use Rattle.boki_model.specs.Values.{same_int, same_value}
use Rattle.exactly_once.proofs.Log.MapChanges.{same_itself, same_key}
use Rattle.legal_logs.specs.Same.{same_trap, same_outcome, same_each, same_names, same_values, same_write, same_writes, is_number}

pub itself : (n : ℕ) → eqb n n ≡ true
itself n = eq-eqb n n refl

pub both : (x y : Bool) → x ≡ true → y ≡ true → (x && y) ≡ true
both x y one two = and_from x y one two

-- each is the same as itself

int_itself : (n : ℤ) → same_int n n ≡ true
int_itself (pos n) = itself n
int_itself (negsuc n) = itself n

pub value_itself : (v : Value) → same_value v v ≡ true
value_itself (Int n) = int_itself n
value_itself (Text t) = same_itself t
value_itself Nothing = refl

trap_itself : (t : TrapKind) → same_trap t t ≡ true
trap_itself trap.Overflow = refl
trap_itself trap.Divide = refl
trap_itself trap.Loop = refl
trap_itself trap.Key = refl
trap_itself trap.Join = refl
trap_itself trap.Txn = refl
trap_itself trap.Text = refl
trap_itself trap.Kind = refl
trap_itself trap.Spawn = refl

pub outcome_itself : (o : Outcome) → same_outcome o o ≡ true
outcome_itself (Good v) = value_itself v
outcome_itself (Trap t) = trap_itself t

each_itself : {A : Type 0} (same : A → A → Bool) → ((x : A) → same x x ≡ true) → (xs : List A) → same_each same xs xs ≡ true
each_itself same one [] = refl
each_itself same one (x ∷ xs) = and_from (same x x) (same_each same xs xs) (one x) (each_itself same one xs)

pub names_itself : (xs : List (List ℕ)) → same_names xs xs ≡ true
names_itself xs = each_itself bytes_eq same_itself xs

pub values_itself : (xs : List Value) → same_values xs xs ≡ true
values_itself xs = each_itself same_value value_itself xs

write_itself : (w : List ℕ × Value) → same_write w w ≡ true
write_itself w = and_from (bytes_eq w.0 w.0) (same_value w.1 w.1) (same_itself w.0) (value_itself w.1)

pub writes_itself : (xs : List (List ℕ × Value)) → same_writes xs xs ≡ true
writes_itself xs = each_itself same_write write_itself xs

pub is_itself : (o : Option ℕ) (n : ℕ) → o ≡ Some n → is_number o n ≡ true
is_itself o n e = ap (λ o. is_number o n) e ∙ itself n

-- and what is the same is equal

int_equal : (m n : ℤ) → same_int m n ≡ true → m ≡ n
int_equal (pos m) (pos n) e = ap pos (eqb-true m n e)
int_equal (negsuc m) (negsuc n) e = ap negsuc (eqb-true m n e)
int_equal (pos m) (negsuc n) e = let no_way : false ≡ true = e in cc
int_equal (negsuc m) (pos n) e = let no_way : false ≡ true = e in cc

pub value_equal : (v w : Value) → same_value v w ≡ true → v ≡ w
value_equal (Int m) (Int n) e = ap Int (int_equal m n e)
value_equal (Text s) (Text t) e = ap Text (same_key s t e)
value_equal Nothing Nothing e = refl
value_equal _ _ e = let no_way : false ≡ true = e in cc

trap_equal : (s t : TrapKind) → same_trap s t ≡ true → s ≡ t
trap_equal trap.Overflow trap.Overflow e = refl
trap_equal trap.Divide trap.Divide e = refl
trap_equal trap.Loop trap.Loop e = refl
trap_equal trap.Key trap.Key e = refl
trap_equal trap.Join trap.Join e = refl
trap_equal trap.Txn trap.Txn e = refl
trap_equal trap.Text trap.Text e = refl
trap_equal trap.Kind trap.Kind e = refl
trap_equal trap.Spawn trap.Spawn e = refl
trap_equal _ _ e = let no_way : false ≡ true = e in cc

pub outcome_equal : (o p : Outcome) → same_outcome o p ≡ true → o ≡ p
outcome_equal (Good v) (Good w) e = ap Good (value_equal v w e)
outcome_equal (Trap s) (Trap t) e = ap Trap (trap_equal s t e)
outcome_equal _ _ e = let no_way : false ≡ true = e in cc

each_equal : {A : Type 0} (same : A → A → Bool) → ((x y : A) → same x y ≡ true → x ≡ y) → (xs ys : List A) → same_each same xs ys ≡ true → xs ≡ ys
each_equal same one [] [] e = refl
each_equal same one (x ∷ xs) (y ∷ ys) e =
    let parts = and_parts (same x y) (same_each same xs ys) e in
    let first = one x y parts.0 in
    let rest = each_equal same one xs ys parts.1 in λ i. first i ∷ rest i
each_equal same one [] (y ∷ ys) e = let no_way : false ≡ true = e in cc
each_equal same one (x ∷ xs) [] e = let no_way : false ≡ true = e in cc

pub names_equal : (xs ys : List (List ℕ)) → same_names xs ys ≡ true → xs ≡ ys
names_equal xs ys e = each_equal bytes_eq same_key xs ys e

pub values_equal : (xs ys : List Value) → same_values xs ys ≡ true → xs ≡ ys
values_equal xs ys e = each_equal same_value value_equal xs ys e

write_equal : (x y : List ℕ × Value) → same_write x y ≡ true → x ≡ y
write_equal x y e =
    let parts = and_parts (bytes_eq x.0 y.0) (same_value x.1 y.1) e in
    let name = same_key x.0 y.0 parts.0 in
    let value = value_equal x.1 y.1 parts.1 in λ i. (name i, value i)

pub writes_equal : (xs ys : List (List ℕ × Value)) → same_writes xs ys ≡ true → xs ≡ ys
writes_equal xs ys e = each_equal same_write write_equal xs ys e

pub is_equal : (o : Option ℕ) (n : ℕ) → is_number o n ≡ true → o ≡ Some n
is_equal None n e = let no_way : false ≡ true = e in cc
is_equal (Some m) n e = ap Some (eqb-true m n e)
