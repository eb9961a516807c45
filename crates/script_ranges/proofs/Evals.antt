-- What an expression gives is in range, where its variables are.
use Rattle.std.proofs.Common.{◌≡◌, ℕ, suc, ◌<◌, ◌^◌, ◌-◌, Bool, true, false, cond, not, leb, ltb, List, [], ◌∷◌, ◌++◌, length, ℤ, pos, negsuc, ◌+ℤ◌, ◌-ℤ◌, ◌*ℤ◌, int_lt, int_le, int_div, int_rem, Option, Some, None, Result, Ok, Err, refl, ap, arith}
use Rattle.std.specs.Prelude.{unwrap_or}
use Rattle.std.specs.Fmt.{signed_decimal}
use Rattle.std.specs.List.{AllByRecursion}
use Rattle.std.specs.Ordering.{eq_by_cmp}
use Rattle.std.specs.declared.cmp.Ordering.{Ordering}
use Rattle.std.specs.declared.cmp.Ordering.TheVariants.{Less, Equal, Greater}
use Rattle.std.specs.FinMap.Entries.{by_order}
use Rattle.std.proofs.lemmas.Bool.{and_parts, and_from, leb-true, le-leb, ltb-true, lt-ltb}
use Rattle.std.proofs.lemmas.Fmt.{length_signed_le}
use lib.Signed.{mag, mag_rem}
use Rattle.lb_base.specs.declared.value.Value.{Value}
use Rattle.lb_base.specs.declared.value.Value.TheVariants.{Int, Text, Nothing}
use Rattle.lb_base.specs.declared.value.TrapKind.{TrapKind}
use Rattle.lb_base.specs.declared.value.TrapKind.TheVariants as trap
use Rattle.boki_types.specs.declared.expr.BinOp.{BinOp}
use Rattle.boki_types.specs.declared.expr.BinOp.TheVariants as op
use Rattle.boki_types.specs.declared.expr.Expr.{Expr, more_of-Expr, end_of-Expr}
use Rattle.boki_types.specs.declared.expr.Expr.TheVariants as e
use Rattle.boki_model.specs.Bodies.{is_i64, is_value, is_name}
use Rattle.boki_model.specs.Maps.{key_order, before, get, put}
use Rattle.boki_model.specs.Values.{and_then, same_int, same_value, bool_value, as_condition, checked_int, checked_text, checked_divide, on_integers, concat_texts, compare_values, short_circuit, apply_operator, eval_binary, negate_condition, to_text, to_length, variable_value, eval, eval_all, to_name, to_names}
use Rattle.boki_model.specs.Plans.{has_known_leaves}
use Rattle.script_ranges.proofs.Each.{OkHas, SomeHas, then_has}

-- Integers of 64 bits.

pub fits_mag : (n : ℤ) → is_i64 n ≡ true → mag n < 2 ^ 63
fits_mag (pos n) e = ltb-true n (2 ^ 63) e
fits_mag (negsuc n) e = let le = leb-true n (2 ^ 63 - 1) (and_parts (leb n (2 ^ 63 - 1)) true e).0 in omega (arith, le)

pub mag_fits : (n : ℤ) → mag n < 2 ^ 63 → is_i64 n ≡ true
mag_fits (pos n) le = and_from true (ltb n (2 ^ 63)) refl (lt-ltb n (2 ^ 63) le)
mag_fits (negsuc n) le = and_from (leb n (2 ^ 63 - 1)) true (le-leb n (2 ^ 63 - 1) (omega (arith, le))) refl

-- Values.

abbrev pub IsVal : Value → Type 0
IsVal v = is_value v ≡ true

abbrev pub GivesVal : Result Value TrapKind → Type 0
GivesVal r = OkHas IsVal r

pub truth_val : (b : Bool) → IsVal (bool_value b)
truth_val true = refl
truth_val false = refl

integer_gives : (n : ℤ) → GivesVal (checked_int n)
integer_gives n = at (is_i64 n) refl
  where
    at : (b : Bool) → is_i64 n ≡ b → GivesVal (cond b (Ok (Int n)) (Err trap.Overflow))
    at true e = e
    at false e = tt

text_gives : (t : List ℕ) → GivesVal (checked_text t)
text_gives t = at (leb (length t) 256) refl
  where
    at : (b : Bool) → leb (length t) 256 ≡ b → GivesVal (cond b (Ok (Text t)) (Err trap.Text))
    at true e = e
    at false e = tt

rem_fits : (m n : ℤ) → is_i64 m ≡ true → is_i64 (int_rem m n) ≡ true
rem_fits m n e = let small = fits_mag m e in let le = mag_rem m n in mag_fits (int_rem m n) (omega (arith, small, le))

div_gives : (m n : ℤ) → GivesVal (checked_divide int_div m n)
div_gives m n = at (same_int n (pos 0)) (is_i64 (int_div m n)) refl
  where
    at : (z b : Bool) → is_i64 (int_div m n) ≡ b → GivesVal (cond z (Err trap.Divide) (cond b (Ok (Int (int_div m n))) (Err trap.Overflow)))
    at true b e = tt
    at false true e = e
    at false false e = tt

rem_gives : (m n : ℤ) → is_i64 m ≡ true → GivesVal (checked_divide int_rem m n)
rem_gives m n small = at (same_int n (pos 0)) (is_i64 (int_div m n))
  where
    at : (z b : Bool) → GivesVal (cond z (Err trap.Divide) (cond b (Ok (Int (int_rem m n))) (Err trap.Overflow)))
    at true b = tt
    at false true = rem_fits m n small
    at false false = tt

integers_give : (f : ℤ → ℤ → Result Value TrapKind) → ((m n : ℤ) → is_i64 m ≡ true → GivesVal (f m n)) → (v w : Value) → IsVal v → GivesVal (on_integers f v w)
integers_give f all (Int m) (Int n) is = all m n is
integers_give f all _ _ is = tt

texts_give : (v w : Value) → GivesVal (concat_texts v w)
texts_give (Text s) (Text t) = text_gives (s ++ t)
texts_give _ _ = tt

compared_gives : (f : ℤ → ℤ → Bool) (g : List ℕ → List ℕ → Bool) (v w : Value) → GivesVal (compare_values f g v w)
compared_gives f g (Int m) (Int n) = truth_val (f m n)
compared_gives f g (Text s) (Text t) = truth_val (g s t)
compared_gives f g _ _ = tt

operate_gives : (o : BinOp) (v w : Value) → IsVal v → GivesVal (apply_operator o v w)
operate_gives op.Or v w is = tt
operate_gives op.And v w is = tt
operate_gives op.Eq v w is = truth_val (same_value v w)
operate_gives op.Ne v w is = truth_val (not (same_value v w))
operate_gives op.Lt v w is = compared_gives int_lt before v w
operate_gives op.Le v w is = compared_gives int_le (λ s t. not (before t s)) v w
operate_gives op.Gt v w is = compared_gives (λ m n. int_lt n m) (λ s t. before t s) v w
operate_gives op.Ge v w is = compared_gives (λ m n. int_le n m) (λ s t. not (before s t)) v w
operate_gives op.Add v w is = integers_give (λ m n. checked_int (m +ℤ n)) (λ m n _. integer_gives (m +ℤ n)) v w is
operate_gives op.Sub v w is = integers_give (λ m n. checked_int (m -ℤ n)) (λ m n _. integer_gives (m -ℤ n)) v w is
operate_gives op.Glue v w is = texts_give v w
operate_gives op.Mul v w is = integers_give (λ m n. checked_int (m *ℤ n)) (λ m n _. integer_gives (m *ℤ n)) v w is
operate_gives op.Div v w is = integers_give (checked_divide int_div) (λ m n _. div_gives m n) v w is
operate_gives op.Rem v w is = integers_give (checked_divide int_rem) (λ m n small. rem_gives m n small) v w is

-- a condition that is there says nothing
condition_gives : (r : Result Bool TrapKind) (f : Bool → Result Value TrapKind) → ((b : Bool) → GivesVal (f b)) → GivesVal (and_then r f)
condition_gives r f all = then_has (λ _. Unit {0}) IsVal r f (at r) (λ b _. all b)
  where
    at : (r : Result Bool TrapKind) → OkHas (λ _. Unit {0}) r
    at (Ok b) = tt
    at (Err t) = tt

right_gives : (right : Result Value TrapKind) → GivesVal right → GivesVal (and_then right (λ v. and_then (as_condition v) (λ c. Ok (bool_value c))))
right_gives right is = then_has IsVal IsVal right (λ v. and_then (as_condition v) (λ c. Ok (bool_value c))) is (λ v _. condition_gives (as_condition v) (λ c. Ok (bool_value c)) (λ c. truth_val c))

decided_gives : (d : Bool) (right : Result Value TrapKind) (c : Bool) → GivesVal right → GivesVal (short_circuit d right c)
decided_gives true right true is = refl
decided_gives false right false is = refl
decided_gives true right false is = right_gives right is
decided_gives false right true is = right_gives right is

two_gives : (o : BinOp) (left right : Result Value TrapKind) → GivesVal left → GivesVal right → GivesVal (eval_binary o left right)
two_gives op.Or left right l r = then_has IsVal IsVal left (λ v. and_then (as_condition v) (short_circuit true right)) l (λ v _. condition_gives (as_condition v) (short_circuit true right) (λ c. decided_gives true right c r))
two_gives op.And left right l r = then_has IsVal IsVal left (λ v. and_then (as_condition v) (short_circuit false right)) l (λ v _. condition_gives (as_condition v) (short_circuit false right) (λ c. decided_gives false right c r))
two_gives op.Eq left right l r = then_has IsVal IsVal left (λ v. and_then right (apply_operator op.Eq v)) l (λ v is. then_has IsVal IsVal right (apply_operator op.Eq v) r (λ w _. operate_gives op.Eq v w is))
two_gives op.Ne left right l r = then_has IsVal IsVal left (λ v. and_then right (apply_operator op.Ne v)) l (λ v is. then_has IsVal IsVal right (apply_operator op.Ne v) r (λ w _. operate_gives op.Ne v w is))
two_gives op.Lt left right l r = then_has IsVal IsVal left (λ v. and_then right (apply_operator op.Lt v)) l (λ v is. then_has IsVal IsVal right (apply_operator op.Lt v) r (λ w _. operate_gives op.Lt v w is))
two_gives op.Le left right l r = then_has IsVal IsVal left (λ v. and_then right (apply_operator op.Le v)) l (λ v is. then_has IsVal IsVal right (apply_operator op.Le v) r (λ w _. operate_gives op.Le v w is))
two_gives op.Gt left right l r = then_has IsVal IsVal left (λ v. and_then right (apply_operator op.Gt v)) l (λ v is. then_has IsVal IsVal right (apply_operator op.Gt v) r (λ w _. operate_gives op.Gt v w is))
two_gives op.Ge left right l r = then_has IsVal IsVal left (λ v. and_then right (apply_operator op.Ge v)) l (λ v is. then_has IsVal IsVal right (apply_operator op.Ge v) r (λ w _. operate_gives op.Ge v w is))
two_gives op.Add left right l r = then_has IsVal IsVal left (λ v. and_then right (apply_operator op.Add v)) l (λ v is. then_has IsVal IsVal right (apply_operator op.Add v) r (λ w _. operate_gives op.Add v w is))
two_gives op.Sub left right l r = then_has IsVal IsVal left (λ v. and_then right (apply_operator op.Sub v)) l (λ v is. then_has IsVal IsVal right (apply_operator op.Sub v) r (λ w _. operate_gives op.Sub v w is))
two_gives op.Glue left right l r = then_has IsVal IsVal left (λ v. and_then right (apply_operator op.Glue v)) l (λ v is. then_has IsVal IsVal right (apply_operator op.Glue v) r (λ w _. operate_gives op.Glue v w is))
two_gives op.Mul left right l r = then_has IsVal IsVal left (λ v. and_then right (apply_operator op.Mul v)) l (λ v is. then_has IsVal IsVal right (apply_operator op.Mul v) r (λ w _. operate_gives op.Mul v w is))
two_gives op.Div left right l r = then_has IsVal IsVal left (λ v. and_then right (apply_operator op.Div v)) l (λ v is. then_has IsVal IsVal right (apply_operator op.Div v) r (λ w _. operate_gives op.Div v w is))
two_gives op.Rem left right l r = then_has IsVal IsVal left (λ v. and_then right (apply_operator op.Rem v)) l (λ v is. then_has IsVal IsVal right (apply_operator op.Rem v) r (λ w _. operate_gives op.Rem v w is))

negated_gives : (v : Value) → GivesVal (negate_condition v)
negated_gives v = condition_gives (as_condition v) (λ c. Ok (bool_value (not c))) (λ c. truth_val (not c))

text_of_gives : (v : Value) → IsVal v → GivesVal (to_text v)
text_of_gives (Int n) is = let small = fits_mag n is in let le = length_signed_le 20 n (omega (arith, small)) small in le-leb (length (signed_decimal n)) 256 (omega (arith, le))
text_of_gives (Text t) is = is
text_of_gives Nothing is = tt

length_of_gives : (v : Value) → IsVal v → GivesVal (to_length v)
length_of_gives (Text t) is = let le = leb-true (length t) 256 is in mag_fits (pos (length t)) (omega (arith, le))
length_of_gives _ is = tt

-- Maps of values.

module _ {V : Type 0} (P : V → Type 0) where
  abbrev pub Each_value : List (List ℕ × V) → Type 0
  Each_value m = AllByRecursion (λ x. P x.1) m

  pub get_has : (k : List ℕ) (m : List (List ℕ × V)) → Each_value m → SomeHas P (get k m)
  get_has k [] all = tt
  get_has k (x ∷ m) all = at (eq_by_cmp key_order k x.0) (get_has k m all.1)
    where
      at : (b : Bool) → SomeHas P (get k m) → SomeHas P (cond b (Some x.1) (get k m))
      at true rest = all.0
      at false rest = rest

  pub put_has : (k : List ℕ) (v : V) (m : List (List ℕ × V)) → P v → Each_value m → Each_value (put k v m)
  put_has k v [] is all = (is, tt)
  put_has k v (x ∷ m) is all = at (key_order k x.0) (put_has k v m is all.1)
    where
      at : (r : Ordering) → Each_value (put k v m) → Each_value (by_order r ((k, v) ∷ x ∷ m) ((x.0, v) ∷ m) (x ∷ put k v m))
      at Less rest = (is, all)
      at Equal rest = (is, all.1)
      at Greater rest = (all.0, rest)

  pub or_has : (o : Option V) (d : V) → SomeHas P o → P d → P (unwrap_or o d)
  or_has None d has is = is
  or_has (Some v) d has is = has

-- Expressions.

abbrev pub Variables : List (List ℕ × Value) → Type 0
Variables vs = AllByRecursion (λ x. IsVal x.1) vs

value_in_val : (x : List ℕ) (vs : List (List ℕ × Value)) → Variables vs → IsVal (variable_value x vs)
value_in_val x vs all = or_has IsVal (get x vs) Nothing (get_has IsVal x vs all) refl

pub eval_gives : (known : List (List ℕ)) (x : Expr) (vs : List (List ℕ × Value)) → has_known_leaves known x ≡ true → Variables vs → GivesVal (eval x vs)
eval_gives known (e.Int n) vs is all = is
eval_gives known (e.Text t) vs is all = is
eval_gives known e.Nothing vs is all = refl
eval_gives known (e.Var x) vs is all = value_in_val x vs all
eval_gives known (e.Not' p' (more_of-Expr a end_of-Expr)) vs is all = then_has IsVal IsVal (eval a vs) negate_condition (eval_gives known a vs is all) (λ v _. negated_gives v)
eval_gives known (e.Two' o p' (more_of-Expr a end_of-Expr) q' (more_of-Expr b end_of-Expr)) vs is all =
    let parts = and_parts (has_known_leaves known a) (has_known_leaves known b) is in
    two_gives o (eval a vs) (eval b vs) (eval_gives known a vs parts.0 all) (eval_gives known b vs parts.1 all)
eval_gives known (e.TextOf' p' (more_of-Expr a end_of-Expr)) vs is all = then_has IsVal IsVal (eval a vs) to_text (eval_gives known a vs is all) (λ v is. text_of_gives v is)
eval_gives known (e.Len' p' (more_of-Expr a end_of-Expr)) vs is all = then_has IsVal IsVal (eval a vs) to_length (eval_gives known a vs is all) (λ v is. length_of_gives v is)

-- several expressions give as many values, all in range
abbrev pub Values : ℕ → List Value → Type 0
Values n vs = AllByRecursion IsVal vs × (length vs ≡ n)

pub eval_all_gives : (known : List (List ℕ)) (xs : List Expr) (vs : List (List ℕ × Value)) → AllByRecursion (λ x. has_known_leaves known x ≡ true) xs → Variables vs → OkHas (Values (length xs)) (eval_all xs vs)
eval_all_gives known [] vs is all = (tt, refl)
eval_all_gives known (x ∷ xs) vs is all =
    then_has IsVal (Values (length (x ∷ xs))) (eval x vs) (λ v. and_then (eval_all xs vs) (λ ws. Ok (v ∷ ws))) (eval_gives known x vs is.0 all)
    (λ v one. then_has (Values (length xs)) (Values (length (x ∷ xs))) (eval_all xs vs) (λ ws. Ok (v ∷ ws)) (eval_all_gives known xs vs is.1 all) (λ ws rest. ((one, rest.0), ap suc rest.1)))

-- Names.

pub name_gives : (v : Value) → OkHas (λ n. is_name n ≡ true) (to_name v)
name_gives (Text t) = at (is_name t) refl
  where
    at : (b : Bool) → is_name t ≡ b → OkHas (λ n. is_name n ≡ true) (cond b (Ok t) (Err trap.Key))
    at true e = e
    at false e = tt
name_gives _ = tt

abbrev pub Names : ℕ → List (List ℕ) → Type 0
Names n ns = AllByRecursion (λ n. is_name n ≡ true) ns × (length ns ≡ n)

pub names_give : (vs : List Value) → OkHas (Names (length vs)) (to_names vs)
names_give [] = (tt, refl)
names_give (v ∷ vs) =
    then_has (λ n. is_name n ≡ true) (Names (length (v ∷ vs))) (to_name v) (λ n. and_then (to_names vs) (λ ns. Ok (n ∷ ns))) (name_gives v)
    (λ n one. then_has (Names (length vs)) (Names (length (v ∷ vs))) (to_names vs) (λ ns. Ok (n ∷ ns)) (names_give vs) (λ ns rest. ((one, rest.0), ap suc rest.1)))
