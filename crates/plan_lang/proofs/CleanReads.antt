-- What is read from tokens whose quoted texts are UTF-8: values, calls, and lists with commas between.
use Rattle.std.proofs.Common.{◌≡◌, ℕ, zero, suc, ◌^◌, drop, Bool, true, false, cond, List, [], ◌∷◌, ◌++◌, length, Option, Some, None, option_map, refl}
use Rattle.std.specs.Prelude.{option_and_then, nat_lt, nat_le, pos, neg_ℤ}
use Rattle.std.specs.List.{list_all}
use Rattle.lb_base.specs.declared.value.Value.{Value}
use Rattle.lb_base.specs.declared.value.Value.TheVariants as v
use Rattle.line_text.specs.declared.checked.Checked.{Checked}
use Rattle.line_text.specs.declared.checked.Checked.TheVariants as r
use Rattle.line_text.specs.declared.lists.CommaList.{CommaList}
use Rattle.line_text.specs.declared.token.Keyword.TheVariants as k
use Rattle.line_text.specs.declared.token.Punctuation.{Punctuation}
use Rattle.line_text.specs.declared.token.Punctuation.TheVariants as m
use Rattle.line_text.specs.declared.token.Token.{Token}
use Rattle.line_text.specs.declared.token.Token.TheVariants as t
use Rattle.line_text.specs.Readers.{is_zero, Reader, expect, rest_if, positive_value, negative_value, minus_value, value_at, if_at_end}
use Rattle.line_text.specs.Checks.{both_checked, checked_if, map_checked}
use Rattle.line_text.specs.Lists.{cons, with_one_more, more_if_comma, many_behind, at_most, comma_list, up_to_eight, closed_list, paren_list_by, paren_list}
use Rattle.script_lang.specs.Statements.{name_and_list, call_at}
use Rattle.line_text.specs.Stream.{take_punctuation, same_punctuation}
use Rattle.line_text.proofs.FieldsInRange.{IfValid, any_if_valid, IfReadValid, IfLineValid, checked_if_valid, map_if_valid, both_true, split_true, pair_test, both_if_valid, at_end_if_valid}
use Rattle.line_text.proofs.Utf8Tokens.{is_clean_text, is_clean, are_clean}

abbrev pub is_clean_value : Value → Bool
is_clean_value (v.Text x) = is_clean_text x
is_clean_value _ = true

-- what was read passes a test, and the quoted texts behind it are UTF-8
abbrev pub Leaves : {A : Type 0} → (A → Bool) → Option (Checked A × List Token) → Type 0
Leaves p None = Unit {0}
Leaves p (Some x) = IfValid p x.0 × (are_clean x.1 ≡ true)

abbrev pub Reads : {A : Type 0} → (A → Bool) → Reader A → Type 0
Reads p read = (ts : List Token) → are_clean ts ≡ true → Leaves p (read ts)

pub bind_clean : {A C : Type 0} (p : A → Bool) (q : C → Bool) (o : Option (Checked A × List Token)) (f : Checked A × List Token → Option (Checked C)) → Leaves p o → ((x : Checked A × List Token) → IfValid p x.0 → are_clean x.1 ≡ true → IfLineValid q (f x)) → IfLineValid q (option_and_then f o)
bind_clean p q None f h k = tt
bind_clean p q (Some x) f h k = k x h.0 h.1

-- what has no text, and what has its texts in its last part
pub bind_any : {A C : Type 0} (q : C → Bool) (o : Option A) (f : A → Option (Checked C)) → ((x : A) → IfLineValid q (f x)) → IfLineValid q (option_and_then f o)
bind_any q None f k = tt
bind_any q (Some x) f k = k x

pub made_clean : {A C : Type 0} (q : C → Bool) (make : A → C) (x : Checked A) (ts : List Token) → ((a : A) → q (make a) ≡ true) → IfLineValid q (if_at_end ts (map_checked make x))
made_clean q make x ts h = at_end_if_valid q ts (map_checked make x) (map_if_valid (λ _. true) q make x (λ a _. h a) (any_if_valid x))

pub last_clean : {A B C : Type 0} (p : B → Bool) (q : C → Bool) (make : A × B → C) (x : Checked A) (y : Checked B) (ts : List Token) → ((z : A × B) → p z.1 ≡ true → q (make z) ≡ true) → IfValid p y → IfLineValid q (if_at_end ts (map_checked make (both_checked x y)))
last_clean p q make x y ts h g =
    at_end_if_valid q ts (map_checked make (both_checked x y)) (map_if_valid (pair_test (λ _. true) p) q make (both_checked x y) h (both_if_valid (λ _. true) p x y (any_if_valid x) g))

pub clean_front : (ts us : List Token) → are_clean (ts ++ us) ≡ true → (are_clean ts ≡ true) × (are_clean us ≡ true)
clean_front [] us h = (refl, h)
clean_front (x ∷ ts) us h =
    let s = split_true (is_clean x) (are_clean (ts ++ us)) h in
    let k = clean_front ts us s.1 in (both_true (is_clean x) (are_clean ts) s.0 k.0, k.1)

pub drop_clean : (ts : List Token) → are_clean ts ≡ true → are_clean (drop 1 ts) ≡ true
drop_clean [] h = h
drop_clean (x ∷ ts) h = (split_true (is_clean x) (are_clean ts) h).1

-- Values.
positive_by : (n : ℕ) (b : Bool) → IfValid is_clean_value (cond b (r.Valid (v.Int (pos n))) r.OutOfRange)
positive_by n true = refl
positive_by n false = tt

positive_clean : (o : Option ℕ) → IfValid is_clean_value (positive_value o)
positive_clean None = tt
positive_clean (Some n) = positive_by n (nat_lt n (2 ^ 63))

negative_by : (n : ℕ) (b : Bool) → IfValid is_clean_value (cond b (r.Valid (v.Int (neg_ℤ (pos n)))) r.OutOfRange)
negative_by n true = refl
negative_by n false = tt

negative_clean : (o : Option ℕ) → IfValid is_clean_value (negative_value o)
negative_clean None = tt
negative_clean (Some n) = negative_by n (nat_le n (2 ^ 63))

minus_by : (n : Option ℕ) (ts : List Token) (b : Bool) → are_clean ts ≡ true → Leaves is_clean_value (cond b None (Some (negative_value n, ts)))
minus_by n ts true h = tt
minus_by n ts false h = (negative_clean n, h)

minus_clean : (ts : List Token) → are_clean ts ≡ true → Leaves is_clean_value (minus_value ts)
minus_clean (t.Numeral n ∷ ts) h = minus_by n ts (is_zero n) h
minus_clean _ h = tt

pub value_clean : Reads is_clean_value value_at
value_clean (t.Numeral n ∷ ts) h = (positive_clean n, h)
value_clean (t.Minus true ∷ ts) h = minus_clean ts h
value_clean (t.Text x ∷ ts) h =
    let s = split_true (is_clean_text x) (are_clean ts) h in
    (checked_if_valid is_clean_value (nat_le (length x) 256) (v.Text x) (λ _. s.0), s.1)
value_clean (t.Keyword k.Nothing ∷ ts) h = (refl, h)
value_clean _ h = tt

-- Marks.
taken_by : (b : Bool) (first : Punctuation) (ts : List Token) → are_clean ts ≡ true → are_clean (cond {A = Bool × List Token} b (true, ts) (false, t.Punctuation first ∷ ts)).1 ≡ true
taken_by true first ts h = h
taken_by false first ts h = h

pub taken_clean : (mark : Punctuation) (ts : List Token) → are_clean ts ≡ true → are_clean (take_punctuation mark ts).1 ≡ true
taken_clean mark [] h = h
taken_clean mark (t.Punctuation first ∷ ts) h = taken_by (same_punctuation first mark) first ts h
taken_clean mark (t.Numeral n ∷ ts) h = h
taken_clean mark (t.Dotted x ∷ ts) h = h
taken_clean mark (t.Text x ∷ ts) h = h
taken_clean mark (t.Name x ∷ ts) h = h
taken_clean mark (t.Keyword x ∷ ts) h = h
taken_clean mark (t.Op x ∷ ts) h = h
taken_clean mark (t.Minus x ∷ ts) h = h

-- Lists.
abbrev pub LeavesMany : {A : Type 0} → (A → Bool) → Option (CommaList A × List Token) → Type 0
LeavesMany p None = Unit {0}
LeavesMany p (Some x) = IfValid (list_all p) x.0.items × (are_clean x.1 ≡ true)

cons_clean : {A : Type 0} (p : A → Bool) (x : Checked A) (xs : Checked (List A)) → IfValid p x → IfValid (list_all p) xs → IfValid (list_all p) (cons x xs)
cons_clean p x xs h k =
    map_if_valid (pair_test p (list_all p)) (list_all p) (λ q. q.0 ∷ q.1) (both_checked x xs) (λ q e. e) (both_if_valid p (list_all p) x xs h k)

one_more_clean : {A : Type 0} (p : A → Bool) (x : Checked A) (o : Option (CommaList A × List Token)) → IfValid p x → LeavesMany p o → LeavesMany p (with_one_more x o)
one_more_clean p x None h k = tt
one_more_clean p x (Some q) h k = (cons_clean p x q.0.items h k.0, k.1)

more_clean : {A : Type 0} (p : A → Bool) (others : List Token → Option (CommaList A × List Token)) (x : Checked A) (q : Bool × List Token) → IfValid p x → are_clean q.1 ≡ true → ((ts : List Token) → are_clean ts ≡ true → LeavesMany p (others ts)) → LeavesMany p (more_if_comma others x q)
more_clean p others x (true, ts) h c k = one_more_clean p x (others ts) h (k ts c)
more_clean p others x (false, ts) h c k = (cons_clean p x (r.Valid []) h refl, c)

many_on_clean : {A : Type 0} (p : A → Bool) (others : List Token → Option (CommaList A × List Token)) (o : Option (Checked A × List Token)) → Leaves p o → ((ts : List Token) → are_clean ts ≡ true → LeavesMany p (others ts)) → LeavesMany p (many_behind others o)
many_on_clean p others None h k = tt
many_on_clean p others (Some q) h k = more_clean p others q.0 (take_punctuation m.Comma q.1) h.0 (taken_clean m.Comma q.1 h.1) k

many_clean : {A : Type 0} (p : A → Bool) (read : Reader A) → Reads p read → (n : ℕ) (ts : List Token) → are_clean ts ≡ true → LeavesMany p (at_most read n ts)
many_clean p read f zero ts h = tt
many_clean p read f (suc n) ts h = many_on_clean p (at_most read n) (read ts) (f ts h) (many_clean p read f n)

pub several_clean : {A : Type 0} (p : A → Bool) (read : Reader A) → Reads p read → (ts : List Token) → are_clean ts ≡ true → LeavesMany p (comma_list read ts)
several_clean p read f ts h = many_clean p read f (length ts) ts h

few_by : {A : Type 0} (p : A → Bool) (xs : Checked (List A)) (b : Bool) → IfValid (list_all p) xs → IfValid (list_all p) (cond b xs r.OutOfRange)
few_by p xs true h = h
few_by p xs false h = tt

pub few_clean : {A : Type 0} (p : A → Bool) (s : CommaList A) → IfValid (list_all p) s.items → IfValid (list_all p) (up_to_eight s)
few_clean p s h = few_by p s.items (nat_le s.count 8) h

-- Lists in parentheses, behind a name.
abbrev Items : {A : Type 0} → (A → Bool) → Option (CommaList A × List Token) → Type 0
Items p None = Unit {0}
Items p (Some x) = IfValid (list_all p) x.0.items

mapped : {A : Type 0} (p : A → Bool) (x : CommaList A) (o : Option (List Token)) → IfValid (list_all p) x.items → Items p (option_map (λ ts. (x, ts)) o)
mapped p x None h = tt
mapped p x (Some ts) h = h

closed_clean : {A : Type 0} (p : A → Bool) (o : Option (CommaList A × List Token)) → LeavesMany p o → Items p (closed_list o)
closed_clean p None h = tt
closed_clean p (Some x) h = mapped p x.0 (expect m.Close x.1) h.0

listed_clean : {A : Type 0} (p : A → Bool) (read : Reader A) → Reads p read → (q : Bool × List Token) → are_clean q.1 ≡ true → Items p (paren_list_by read q)
listed_clean p read f (true, ts) h = refl
listed_clean p read f (false, ts) h = closed_clean p (comma_list read ts) (several_clean p read f ts h)

abbrev pub Applied : {A : Type 0} → (A → Bool) → Option ((Checked (List ℕ) × CommaList A) × List Token) → Type 0
Applied p None = Unit {0}
Applied p (Some x) = IfValid (list_all p) x.0.1.items

behind_listed : {A : Type 0} (p : A → Bool) (name : Checked (List ℕ)) (o : Option (CommaList A × List Token)) → Items p o → Applied p (option_and_then (λ (xs : CommaList A × List Token). Some ((name, xs.0), xs.1)) o)
behind_listed p name None h = tt
behind_listed p name (Some x) h = h

behind_open : {A : Type 0} (p : A → Bool) (read : Reader A) → Reads p read → (name : Checked (List ℕ)) (q : Bool × List Token) → are_clean q.1 ≡ true → Applied p (option_and_then (λ (rest : List Token). option_and_then (λ (xs : CommaList A × List Token). Some ((name, xs.0), xs.1)) (paren_list read rest)) (rest_if q))
behind_open p read f name (true, ts) h = behind_listed p name (paren_list read ts) (listed_clean p read f (take_punctuation m.Close ts) (taken_clean m.Close ts h))
behind_open p read f name (false, ts) h = tt

pub applied_clean : {A : Type 0} (p : A → Bool) (read : Reader A) → Reads p read → (ts : List Token) → are_clean ts ≡ true → Applied p (name_and_list read ts)
applied_clean p read f (t.Name x ∷ ts) h = behind_open p read f (checked_if (nat_le (length x) 32) x) (take_punctuation m.Open ts) (taken_clean m.Open ts h)
applied_clean p read f _ h = tt

-- Calls.
abbrev pub are_clean_values : List Value → Bool
are_clean_values xs = list_all is_clean_value xs

abbrev pub call_test : List ℕ × List Value → Bool
call_test = pair_test (λ _. true) are_clean_values

call_by : (o : Option ((Checked (List ℕ) × CommaList Value) × List Token)) → Applied is_clean_value o → IfReadValid call_test (option_and_then (λ (call : (Checked (List ℕ) × CommaList Value) × List Token). Some (both_checked call.0.0 call.0.1.items, call.1)) o)
call_by None h = tt
call_by (Some x) h = both_if_valid (λ _. true) are_clean_values x.0.0 x.0.1.items (any_if_valid x.0.0) h

pub call_clean : (ts : List Token) → are_clean ts ≡ true → IfReadValid call_test (call_at ts)
call_clean ts h = call_by (name_and_list value_at ts) (applied_clean is_clean_value value_at value_clean ts h)
