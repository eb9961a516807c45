-- Numbers read back from their text, and what is read is spelled so.
use Rattle.std.proofs.Common.{◌≡◌, ◌≢◌, ℕ, zero, suc, ◌+◌, ◌^◌, ◌<◌, ℤ, pos, negsuc, Bool, true, false, ltb, eqb, List, [], ◌∷◌, length, drop, get_or, Some, None, if◌then◌else◌, refl, sym, lt-ltb, ltb-true, eqb-true, ap, ◌∙◌, arith, lit<}
use Rattle.std.specs.Prelude.{◌&&◌, not, neg_ℤ, IfSome}
use Rattle.std.specs.Fmt.{decimal, signed_decimal}
use Rattle.std.specs.Str.{all_ascii_digits}
use Rattle.std.specs.Str.Parse.{digits_value}
use Rattle.std.proofs.lemmas.Bool.Decides.{nat_tests}
use Rattle.std.proofs.lemmas.Fmt.{digits_decimal, digits_value-decimal, decimal_nonempty, first_decimal, decimal_digit, decimal-digits_value}
use lib.Signed.{mag}
use Rattle.lb_base.specs.Numeral.{is_numeral, num_of, int_of}
use Rattle.lb_base.proofs.NumeralLemmas.{own, numeral_parts, picks}

is_numeral_by : (text : List ℕ) → 0 < length text → all_ascii_digits text ≡ true → (get_or text 0 0 ≡ 48 → length text ≡ 1) → is_numeral text ≡ true
is_numeral_by text some digits front = grind (arith, nat_tests, some, digits, front)

zero_alone : (n : ℕ) → n < 2 ^ 64 → get_or (decimal n) 0 0 ≡ 48 → length (decimal n) ≡ 1
zero_alone zero small e = ap length (decimal_digit 0 (lit< tt))
zero_alone (suc n) small e = absurd (omega (arith, first_decimal (suc n) (omega arith) small))

decimal_is_numeral : (n : ℕ) → n < 2 ^ 64 → is_numeral (decimal n) ≡ true
decimal_is_numeral n small = is_numeral_by (decimal n) (decimal_nonempty n small) (digits_decimal own n small) (zero_alone n small)

pub numeral-reads_back : (n : ℕ) → n < 2 ^ 64 → num_of (decimal n) ≡ Some n
numeral-reads_back n small =
    let v : digits_value 10 (decimal n) ≡ n = digits_value-decimal own n small in
    picks (is_numeral (decimal n)) (ltb (digits_value 10 (decimal n)) (2 ^ 64)) (digits_value 10 (decimal n)) (decimal_is_numeral n small) (rw v (lt-ltb n (2 ^ 64) small)) ∙ ap (λ (m : ℕ). Some m) v

spelled : (text : List ℕ) → is_numeral text ≡ true → digits_value 10 text < 2 ^ 64 → decimal (digits_value 10 text) ≡ text
spelled text h small = let p = numeral_parts text h in decimal-digits_value own text p.digits p.some p.front small

numeral_by : (text : List ℕ) (a b : Bool) → is_numeral text ≡ a → ltb (digits_value 10 text) (2 ^ 64) ≡ b → IfSome (if a && b then Some (digits_value 10 text) else None) (λ n. decimal n ≡ text)
numeral_by text true true h k = spelled text h (ltb-true _ _ k)
numeral_by text true false h k = tt
numeral_by text false b h k = tt

pub numeral-one_spelling : (text : List ℕ) → IfSome (num_of text) (λ n. decimal n ≡ text)
numeral-one_spelling text = numeral_by text (is_numeral text) (ltb (digits_value 10 text) (2 ^ 64)) refl refl

int_plain : (text : List ℕ) → is_numeral text ≡ true → digits_value 10 text < 2 ^ 63 → int_of text ≡ Some (pos (digits_value 10 text))
int_plain text h small =
    let p = numeral_parts text h in
    let v = digits_value 10 text in
    let plain : eqb (get_or text 0 0) 45 ≡ false = grind (arith, nat_tests, p.no_minus) in
    rw plain (picks (is_numeral text) (ltb v (2 ^ 63)) (pos v) h (lt-ltb v (2 ^ 63) small))

both_true : (a b : Bool) → a ≡ true → b ≡ true → (a && b) ≡ true
both_true true b h k = k
both_true false b h k = absurd (cc)

int_minus : (ds : List ℕ) → is_numeral ds ≡ true → get_or ds 0 0 ≢ 48 → digits_value 10 ds < 2 ^ 63 + 1 → int_of (45 ∷ ds) ≡ Some (neg_ℤ (pos (digits_value 10 ds)))
int_minus ds h nonzero small =
    let v = digits_value 10 ds in
    let front : not (eqb (get_or ds 0 0) 48) ≡ true = grind (arith, nat_tests, nonzero) in
    picks (is_numeral ds && not (eqb (get_or ds 0 0) 48)) (ltb v (2 ^ 63 + 1)) (neg_ℤ (pos v)) (both_true _ _ h front) (lt-ltb v (2 ^ 63 + 1) small)

pub integer-reads_back : (z : ℤ) → mag z < 2 ^ 63 → int_of (signed_decimal z) ≡ Some z
integer-reads_back (pos n) small =
    let v : digits_value 10 (decimal n) ≡ n = digits_value-decimal own n (omega (arith, small)) in
    int_plain (decimal n) (decimal_is_numeral n (omega (arith, small))) (rw v small) ∙ ap (λ (m : ℕ). Some (pos m)) v
integer-reads_back (negsuc n) small =
    let fits : suc n < 2 ^ 64 = omega (arith, small) in
    let v : digits_value 10 (decimal (suc n)) ≡ suc n = digits_value-decimal own (suc n) fits in
    let front : get_or (decimal (suc n)) 0 0 ≢ 48 = λ e. absurd (omega (arith, e, first_decimal (suc n) (omega arith) fits)) in
    int_minus (decimal (suc n)) (decimal_is_numeral (suc n) fits) front (rw v (omega (arith, small))) ∙ ap (λ (m : ℕ). Some (neg_ℤ (pos m))) v

negated : (v : ℕ) (ds : List ℕ) → decimal v ≡ ds → get_or ds 0 0 ≢ 48 → signed_decimal (neg_ℤ (pos v)) ≡ 45 ∷ ds
negated zero ds e front = absurd (front (ap (λ l. get_or l 0 0) (sym e ∙ decimal_digit 0 (lit< tt))))
negated (suc n) ds e front = ap (λ l. 45 ∷ l) e

minus_spelled : (text : List ℕ) → get_or text 0 0 ≡ 45 → is_numeral (drop 1 text) ≡ true → not (eqb (get_or text 1 0) 48) ≡ true → digits_value 10 (drop 1 text) < 2 ^ 63 + 1 → signed_decimal (neg_ℤ (pos (digits_value 10 (drop 1 text)))) ≡ text
minus_spelled [] e h front small = absurd (omega (arith, e))
minus_spelled (c ∷ ds) e h front small =
    let nonzero : get_or ds 0 0 ≢ 48 = λ z. grind (arith, nat_tests, front, z) in
    negated (digits_value 10 ds) ds (spelled ds h (omega (arith, small))) nonzero ∙ ap (λ n. n ∷ ds) (sym e)

plain_by : (text : List ℕ) (a b : Bool) → is_numeral text ≡ a → ltb (digits_value 10 text) (2 ^ 63) ≡ b → IfSome (if a && b then Some (pos (digits_value 10 text)) else None) (λ z. signed_decimal z ≡ text)
plain_by text true true h k = spelled text h (omega (arith, ltb-true _ _ k))
plain_by text true false h k = tt
plain_by text false b h k = tt

minus_by : (text : List ℕ) (a f b : Bool) → get_or text 0 0 ≡ 45 → is_numeral (drop 1 text) ≡ a → not (eqb (get_or text 1 0) 48) ≡ f → ltb (digits_value 10 (drop 1 text)) (2 ^ 63 + 1) ≡ b → IfSome (if (a && f) && b then Some (neg_ℤ (pos (digits_value 10 (drop 1 text)))) else None) (λ z. signed_decimal z ≡ text)
minus_by text true true true e h front k = minus_spelled text e h front (ltb-true _ _ k)
minus_by text true true false e h front k = tt
minus_by text true false b e h front k = tt
minus_by text false f b e h front k = tt

integer_by : (text : List ℕ) (t : Bool) → eqb (get_or text 0 0) 45 ≡ t → IfSome (int_of text) (λ z. signed_decimal z ≡ text)
integer_by text true e = rw e (minus_by text (is_numeral (drop 1 text)) (not (eqb (get_or text 1 0) 48)) (ltb (digits_value 10 (drop 1 text)) (2 ^ 63 + 1)) (eqb-true _ _ e) refl refl refl)
integer_by text false e = rw e (plain_by text (is_numeral text) (ltb (digits_value 10 text) (2 ^ 63)) refl refl)

pub integer-one_spelling : (text : List ℕ) → IfSome (int_of text) (λ z. signed_decimal z ≡ text)
integer-one_spelling text = integer_by text (eqb (get_or text 0 0) 45) refl
