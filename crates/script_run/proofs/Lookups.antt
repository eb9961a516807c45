-- Variables: where a name is found, entry by entry.
use Rattle.std.proofs.Common.{◌≡◌, ◌<◌, ◌≤◌, ◌∙◌, ap, sym, refl, ℕ, zero, suc, ◌+◌, Bool, true, false, cond, bytes_eq, List, [], ◌∷◌, length, get_or, drop, set, Result, Ok, Err, add-one, arith}
use Rattle.std.proofs.Math.Seq.{drop-cons}
use Rattle.std.specs.List.{insert}
use Rattle.std.proofs.lemmas.Map.Text.{is_eq-slice_cmp}
use Rattle.std.specs.declared.cmp.Ordering.{Ordering}
use Rattle.std.specs.declared.cmp.Ordering.TheVariants.{Less, Equal, Greater}
use Rattle.std.specs.FinMap.Entries.{by_order}
use Rattle.lb_base.specs.declared.value.Value.{Value}
use Rattle.std.specs.Ordering.{is_eq}
use Rattle.boki_model.specs.Maps.{key_order, put}
use Rattle.boki_model.specs.Values.{variable_value}
use Rattle.script_run.specs.VariableIndex.{variable_index, shifted}

abbrev pub Entry : Type 0
Entry = List ℕ × Value

-- the entries from a place on begin with the one there
pub drop_at : {A : Type 0} (xs : List A) (i : ℕ) (x : A) → i < length xs → x ≡ get_or xs i x → drop i xs ≡ x ∷ drop (i + 1) xs
drop_at xs i x within is = rw (add-one, drop-cons xs i x) (ap (λ y. y ∷ drop (suc i) xs) (sym is))

value_cons : (x : List ℕ) (e : Entry) (es : List Entry) → variable_value x (e ∷ es) ≡ cond (bytes_eq x e.0) e.1 (variable_value x es)
value_cons x e es = by (bytes_eq x e.0) (is_eq-slice_cmp x e.0)
  where
    by : (b : Bool) → is_eq (key_order x e.0) ≡ b → variable_value x (e ∷ es) ≡ cond b e.1 (variable_value x es)
    by true p = rw p refl
    by false p = rw p refl

pub value_at : (x : List ℕ) (vs : List Entry) (i : ℕ) (e : Entry) → i < length vs → e ≡ get_or vs i e → variable_value x (drop i vs) ≡ cond (bytes_eq x e.0) e.1 (variable_value x (drop (i + 1) vs))
value_at x vs i e within is = ap (variable_value x) (drop_at vs i e within is) ∙ value_cons x e (drop (i + 1) vs)

-- a place behind so many entries
abbrev pub behind : ℕ → Result ℕ ℕ → Result ℕ ℕ
behind n (Ok m) = Ok (n + m)
behind n (Err m) = Err (n + m)

behind_shifted : (n : ℕ) (r : Result ℕ ℕ) → behind n (shifted r) ≡ behind (n + 1) r
behind_shifted n (Ok m) = ap Ok (omega arith)
behind_shifted n (Err m) = ap Err (omega arith)

pub place_at : (x : List ℕ) (vs : List Entry) (i : ℕ) (e : Entry) → i < length vs → e ≡ get_or vs i e → behind i (variable_index x (drop i vs)) ≡ by_order (key_order x e.0) (Err i) (Ok i) (behind (i + 1) (variable_index x (drop (i + 1) vs)))
place_at x vs i e within is = ap (λ es. behind i (variable_index x es)) (drop_at vs i e within is) ∙ by (key_order x e.0)
  where
    by : (o : Ordering) → behind i (by_order o (Err 0) (Ok 0) (shifted (variable_index x (drop (i + 1) vs)))) ≡ by_order o (Err i) (Ok i) (behind (i + 1) (variable_index x (drop (i + 1) vs)))
    by Less = ap Err (omega arith)
    by Equal = ap Ok (omega arith)
    by Greater = behind_shifted i (variable_index x (drop (i + 1) vs))

-- the value at a place
abbrev pub valued : List Entry → ℕ → Value → List Entry
valued [] n v = []
valued (e ∷ es) zero v = (e.0, v) ∷ es
valued (e ∷ es) (suc n) v = e ∷ valued es n v

abbrev pub put_in : List Entry → ℕ → Entry → List Entry
put_in es zero d = d ∷ es
put_in [] (suc n) d = d ∷ []
put_in (e ∷ es) (suc n) d = e ∷ put_in es n d

abbrev pub edited : List ℕ → Value → List Entry → Result ℕ ℕ → List Entry
edited x v es (Ok n) = valued es n v
edited x v es (Err n) = put_in es n (x, v)

edited_later : (x : List ℕ) (v : Value) (e : Entry) (es : List Entry) (r : Result ℕ ℕ) → edited x v (e ∷ es) (shifted r) ≡ e ∷ edited x v es r
edited_later x v e es (Ok n) = refl
edited_later x v e es (Err n) = refl

put_by : (x : List ℕ) (v : Value) (e : Entry) (es : List Entry) → put x v es ≡ edited x v es (variable_index x es) → (o : Ordering) → by_order o ((x, v) ∷ e ∷ es) ((e.0, v) ∷ es) (e ∷ put x v es) ≡ edited x v (e ∷ es) (by_order o (Err 0) (Ok 0) (shifted (variable_index x es)))
put_by x v e es later Less = refl
put_by x v e es later Equal = refl
put_by x v e es later Greater = ap (λ ds. e ∷ ds) later ∙ sym (edited_later x v e es (variable_index x es))

pub put_edits : (x : List ℕ) (v : Value) (es : List Entry) → put x v es ≡ edited x v es (variable_index x es)
put_edits x v [] = refl
put_edits x v (e ∷ es) = put_by x v e es (put_edits x v es) (key_order x e.0)

-- a place is within the variables, or right behind them
abbrev pub Within : ℕ → Result ℕ ℕ → Type 0
Within m (Ok n) = n < m
Within m (Err n) = n ≤ m

within_later : (m : ℕ) (r : Result ℕ ℕ) → Within m r → Within (suc m) (shifted r)
within_later m (Ok n) h = omega arith
within_later m (Err n) h = omega arith

within_by : (m : ℕ) (r : Result ℕ ℕ) → Within m r → (o : Ordering) → Within (suc m) (by_order o (Err 0) (Ok 0) (shifted r))
within_by m r h Less = omega arith
within_by m r h Equal = omega arith
within_by m r h Greater = within_later m r h

pub place_within : (x : List ℕ) (es : List Entry) → Within (length es) (variable_index x es)
place_within x [] = omega arith
place_within x (e ∷ es) = within_by (length es) (variable_index x es) (place_within x es) (key_order x e.0)

pub set_valued : (es : List Entry) (n : ℕ) (e : Entry) (v : Value) → n < length es → e ≡ get_or es n e → set es n (e.0, v) ≡ valued es n v
set_valued [] n e v within is = absurd (omega arith)
set_valued (d ∷ es) zero e v within is = ap (λ (f : Entry). (f.0, v) ∷ es) is
set_valued (d ∷ es) (suc n) e v within is = ap (λ ds. d ∷ ds) (set_valued es n e v (omega arith) is)

pub insert_put_in : (es : List Entry) (n : ℕ) (d : Entry) → n ≤ length es → insert es n d ≡ put_in es n d
insert_put_in es zero d within = refl
insert_put_in [] (suc n) d within = absurd (omega arith)
insert_put_in (e ∷ es) (suc n) d within = ap (λ ds. e ∷ ds) (insert_put_in es n d (omega arith))
