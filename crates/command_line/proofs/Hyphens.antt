-- Words that begin with hyphens: they spell no number and name no nemeses, and which of them are a long option.
use Rattle.std.proofs.Common.{◌≡◌, ◌≢◌, ◌∙◌, ◌<◌, ◌==◌, ◌&&◌, ◌+◌, ℕ, zero, suc, Bool, true, false, true≢false, refl, sym, ap, ap₂, arith, List, [], ◌∷◌, ◌++◌, Option, Some, None, is_some, length, get_or, take, drop, eqb-true}
use Rattle.std.specs.Prelude.{option_and_then, nat_lt}
use Rattle.std.specs.List.{after_first, before_first, list_any, position_or_len}
use native.Mathlib.Numerals.{unary_clauses}
use Rattle.std.proofs.lemmas.Bool.Decides.{nat_tests}
use Rattle.clap.specs.Lexer.{has_byte, long_of, long_of_rest, name_and_value, short_of, short_of_rest, strip_byte}
use Rattle.clap.proofs.CutLemmas.{Lacks}
use Rattle.clap.proofs.LexerLemmas.{name_and_value-without}
use Rattle.lb_base.specs.Numeral.{num_of}
use Rattle.lb_base.proofs.NumeralLemmas.{no_num}
use Rattle.command_line.specs.Words.{with_of}

and_false : (b : Bool) → ((b && false) && true) ≡ false
and_false true = refl
and_false false = refl

-- a word that begins with a hyphen spells no number
hyphen_no_num : (rest : List ℕ) → None ≡ num_of (45 ∷ rest)
hyphen_no_num rest = no_num (45 ∷ rest) (and_false (nat_lt 0 (length (45 ∷ rest))))

stripped_no_num : (word : List ℕ) → is_some (strip_byte 45 word) ≡ true → None ≡ num_of word
stripped_no_num [] e = absurd (true≢false (sym e))
stripped_no_num (x ∷ xs) e = go (x == 45) refl
  where
    go : (b : Bool) → (x == 45) ≡ b → None ≡ num_of (x ∷ xs)
    go true f = rw (eqb-true x 45 f) (hyphen_no_num xs)
    go false f = absurd (true≢false (sym (rw f at e)))

pub long_no_num : (word : List ℕ) → is_some (long_of word) ≡ true → None ≡ num_of word
long_no_num word e = stripped_no_num word (go (strip_byte 45 word) e)
  where
    go : (o : Option (List ℕ)) → is_some (option_and_then long_of_rest (option_and_then (strip_byte 45) o)) ≡ true → is_some o ≡ true
    go None h = h
    go (Some rest) h = refl

pub short_no_num : (word : List ℕ) → is_some (short_of word) ≡ true → None ≡ num_of word
short_no_num word e = stripped_no_num word (go (strip_byte 45 word) e)
  where
    go : (o : Option (List ℕ)) → is_some (option_and_then short_of_rest o) ≡ true → is_some o ≡ true
    go None h = h
    go (Some rest) h = refl

lacks : (c : ℕ) (xs : List ℕ) → list_any (λ x. x == c) xs ≡ false → Lacks c xs
lacks c [] e i lt = absurd (omega arith)
lacks c (x ∷ xs) e i lt = go (λ h k below. lacks c xs h k below) (x == c) refl i lt
  where
    go : (list_any (λ y. y == c) xs ≡ false → (k : ℕ) → k < length xs → get_or xs k 0 ≢ c)
        → (b : Bool) → (x == c) ≡ b → (i : ℕ) → i < length (x ∷ xs) → get_or (x ∷ xs) i 0 ≢ c
    go next true f i lt = absurd (true≢false (rw f at e))
    go next false f zero lt = λ is. absurd (grind (arith, nat_tests))
    go next false f (suc i) lt = next (rw f at e) i (omega arith)

rest_is : (t name : List ℕ) → long_of_rest t ≡ Some (name, None) → t ≡ name
rest_is [] name e = cc
rest_is (z ∷ zs) name e = go (has_byte 61 (z ∷ zs)) refl
  where
    go : (b : Bool) → has_byte 61 (z ∷ zs) ≡ b → (z ∷ zs) ≡ name
    go true g =
        let h : name_and_value (z ∷ zs) ≡ (name, None) = cc in
        let k = rw g at (ap (λ (p : List ℕ × Option (List ℕ)). p.1) h) in cc
    go false g =
        let h : name_and_value (z ∷ zs) ≡ (name, None) = cc in
        ap (λ (p : List ℕ × Option (List ℕ)). p.0) (sym (name_and_value-without (z ∷ zs) (lacks 61 (z ∷ zs) g)) ∙ h)

stripped_is : (xs rest : List ℕ) → strip_byte 45 xs ≡ Some rest → xs ≡ 45 ∷ rest
stripped_is [] rest e = cc
stripped_is (x ∷ xs) rest e = go (x == 45) refl
  where
    go : (b : Bool) → (x == 45) ≡ b → (x ∷ xs) ≡ 45 ∷ rest
    go true f = let h = rw f at e in let k = eqb-true x 45 f in cc
    go false f = let h = rw f at e in cc

-- a long option with no `=` is all of its word
pub long_is : (word name : List ℕ) → long_of word ≡ Some (name, None) → word ≡ 45 ∷ 45 ∷ name
long_is word name e = go (strip_byte 45 word) refl
  where
    go : (o : Option (List ℕ)) → strip_byte 45 word ≡ o → word ≡ 45 ∷ 45 ∷ name
    go None f = let h = rw f at e in cc
    go (Some t) f = then (strip_byte 45 t) refl
      where
        then : (o : Option (List ℕ)) → strip_byte 45 t ≡ o → word ≡ 45 ∷ 45 ∷ name
        then None g = let h = rw (f, g) at e in cc
        then (Some u) g =
            let h = rest_is u name (rw (f, g) at e) in
            let k = stripped_is word t f in
            let l = stripped_is t u g in cc

peel : (x : ℕ) (xs : List ℕ) (n : ℕ) → take (1 + n) (x ∷ xs) ++ 61 ∷ drop (1 + n + 1) (x ∷ xs) ≡ x ∷ (take n xs ++ 61 ∷ drop (n + 1) xs)
peel x xs n = let e : 1 + n ≡ n + 1 = omega arith in rw e (simp unary_clauses refl)

-- a text with `=` is what stands before the first one, it, and what stands behind it
first_split : (t : List ℕ) → has_byte 61 t ≡ true → t ≡ before_first (λ x. x == 61) t ++ 61 ∷ after_first (λ x. x == 61) t
first_split [] e = absurd (true≢false (sym e))
first_split (x ∷ xs) e = go (λ h. first_split xs h) (x == 61) refl
  where
    go : (has_byte 61 xs ≡ true → xs ≡ before_first (λ y. y == 61) xs ++ 61 ∷ after_first (λ y. y == 61) xs)
        → (b : Bool) → (x == 61) ≡ b → (x ∷ xs) ≡ before_first (λ y. y == 61) (x ∷ xs) ++ 61 ∷ after_first (λ y. y == 61) (x ∷ xs)
    go next true f = rw f (ap (λ n. n ∷ xs) (eqb-true x 61 f))
    go next false f = rw f (ap (λ l. x ∷ l) (next (rw f at e)) ∙ sym (peel x xs (position_or_len (λ y. y == 61) xs)))

value_rest_is : (t name value : List ℕ) → long_of_rest t ≡ Some (name, Some value) → t ≡ name ++ 61 ∷ value
value_rest_is [] name value e = cc
value_rest_is (z ∷ zs) name value e = go (has_byte 61 (z ∷ zs)) refl
  where
    go : (b : Bool) → has_byte 61 (z ∷ zs) ≡ b → (z ∷ zs) ≡ name ++ 61 ∷ value
    go true g =
        let h : name_and_value (z ∷ zs) ≡ (name, Some value) = cc in
        let k : before_first (λ x. x == 61) (z ∷ zs) ≡ name = ap (λ (p : List ℕ × Option (List ℕ)). p.0) h in
        let l : Some (after_first (λ x. x == 61) (z ∷ zs)) ≡ Some value = rw g at (ap (λ (p : List ℕ × Option (List ℕ)). p.1) h) in
        let m : after_first (λ x. x == 61) (z ∷ zs) ≡ value = cc in
        first_split (z ∷ zs) g ∙ ap₂ (λ a b. a ++ 61 ∷ b) k m
    go false g =
        let h : name_and_value (z ∷ zs) ≡ (name, Some value) = cc in
        let k = rw g at (ap (λ (p : List ℕ × Option (List ℕ)). p.1) h) in cc

-- a long option with a value is its name, `=` and the value
pub long_value_is : (word name value : List ℕ) → long_of word ≡ Some (name, Some value) → word ≡ 45 ∷ 45 ∷ (name ++ 61 ∷ value)
long_value_is word name value e = go (strip_byte 45 word) refl
  where
    go : (o : Option (List ℕ)) → strip_byte 45 word ≡ o → word ≡ 45 ∷ 45 ∷ (name ++ 61 ∷ value)
    go None f = let h = rw f at e in cc
    go (Some t) f = then (strip_byte 45 t) refl
      where
        then : (o : Option (List ℕ)) → strip_byte 45 t ≡ o → word ≡ 45 ∷ 45 ∷ (name ++ 61 ∷ value)
        then None g = let h = rw (f, g) at e in cc
        then (Some u) g =
            let h = value_rest_is u name value (rw (f, g) at e) in
            let k = stripped_is word t f in
            let l = stripped_is t u g in cc

-- a word that begins with a hyphen names no nemeses
hyphen_no_with : (rest : List ℕ) → None ≡ with_of (45 ∷ rest)
hyphen_no_with rest = rw (← hyphen_no_num rest) refl

stripped_no_with : (word : List ℕ) → is_some (strip_byte 45 word) ≡ true → None ≡ with_of word
stripped_no_with word e = go (strip_byte 45 word) refl e
  where
    go : (o : Option (List ℕ)) → strip_byte 45 word ≡ o → is_some o ≡ true → None ≡ with_of word
    go None f h = absurd (true≢false (sym h))
    go (Some rest) f h = rw (stripped_is word rest f) (hyphen_no_with rest)

pub long_no_with : (word : List ℕ) → is_some (long_of word) ≡ true → None ≡ with_of word
long_no_with word e = stripped_no_with word (go (strip_byte 45 word) e)
  where
    go : (o : Option (List ℕ)) → is_some (option_and_then long_of_rest (option_and_then (strip_byte 45) o)) ≡ true → is_some o ≡ true
    go None h = h
    go (Some rest) h = refl

pub short_no_with : (word : List ℕ) → is_some (short_of word) ≡ true → None ≡ with_of word
short_no_with word e = stripped_no_with word (go (strip_byte 45 word) e)
  where
    go : (o : Option (List ℕ)) → is_some (option_and_then short_of_rest o) ≡ true → is_some o ≡ true
    go None h = h
    go (Some rest) h = refl
