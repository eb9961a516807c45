-- Lists with commas between, element by element.
use Rattle.std.proofs.Common.{◌≡◌, ℕ, suc, ◌+◌, true, false, ◌<◌, List, [], ◌∷◌, ◌++◌, length, drop, get_or, add-one, Option, Some, None, refl, sym, ap, ◌∙◌, append_assoc, arith}
use Rattle.std.proofs.lemmas.List.{append-nil}
use Rattle.line_text.specs.declared.token.Token.{Token}
use Rattle.line_text.specs.declared.token.Punctuation.TheVariants as m
use Rattle.line_text.specs.declared.checked.Checked.{Checked}
use Rattle.line_text.specs.declared.checked.Checked.TheVariants as r
use Rattle.line_text.specs.declared.lists.CommaList.{CommaList}
use Rattle.line_text.specs.Stream.{take_punctuation}
use Rattle.line_text.specs.Readers.{Reader}
use Rattle.line_text.specs.Checks.{map_checked, both_checked}
use Rattle.line_text.specs.Lists.{cons, with_one_more, more_if_comma, at_most, many_behind, snoc}
use Rattle.std.proofs.Math.Seq.{drop-cons}

-- what was read before, and what is read behind it
abbrev pub joined : {A : Type 0} → Checked (List A) → Checked (List A) → Checked (List A)
joined xs ys = map_checked (λ p. p.0 ++ p.1) (both_checked xs ys)

abbrev pub behind_several : {A : Type 0} → ℕ → Checked (List A) → Option (CommaList A × List Token) → Option (CommaList A × List Token)
behind_several n xs None = None
behind_several n xs (Some p) = Some (record { count = n + p.0.count; items = joined xs p.0.items }, p.1)

joined_cons : {A : Type 0} (xs : Checked (List A)) (x : Checked A) (ys : Checked (List A)) → joined xs (cons x ys) ≡ joined (snoc xs x) ys
joined_cons (r.Valid xs) (r.Valid x) (r.Valid ys) = ap (λ l. r.Valid l) (sym (append_assoc xs (x ∷ []) ys))
joined_cons (r.Valid xs) (r.Valid x) r.OutOfRange = refl
joined_cons (r.Valid xs) (r.Valid x) r.TooDeep = refl
joined_cons (r.Valid xs) r.OutOfRange ys = refl
joined_cons (r.Valid xs) r.TooDeep (r.Valid ys) = refl
joined_cons (r.Valid xs) r.TooDeep r.OutOfRange = refl
joined_cons (r.Valid xs) r.TooDeep r.TooDeep = refl
joined_cons r.OutOfRange x ys = refl
joined_cons r.TooDeep (r.Valid x) (r.Valid ys) = refl
joined_cons r.TooDeep (r.Valid x) r.OutOfRange = refl
joined_cons r.TooDeep (r.Valid x) r.TooDeep = refl
joined_cons r.TooDeep r.OutOfRange ys = refl
joined_cons r.TooDeep r.TooDeep (r.Valid ys) = refl
joined_cons r.TooDeep r.TooDeep r.OutOfRange = refl
joined_cons r.TooDeep r.TooDeep r.TooDeep = refl

joined_nil : {A : Type 0} (xs : Checked (List A)) → joined xs (r.Valid []) ≡ xs
joined_nil (r.Valid xs) = ap (λ l. r.Valid l) (append-nil xs)
joined_nil r.OutOfRange = refl
joined_nil r.TooDeep = refl

zero_joined : {A : Type 0} (xs : Checked (List A)) → joined (r.Valid []) xs ≡ xs
zero_joined (r.Valid xs) = refl
zero_joined r.OutOfRange = refl
zero_joined r.TooDeep = refl

pub behind_zero : {A : Type 0} (o : Option (CommaList A × List Token)) → behind_several 0 (r.Valid []) o ≡ o
behind_zero None = refl
behind_zero {A} (Some p) =
    let f : ℕ → Option (CommaList A × List Token) = λ n. Some (record { count = n; items = joined (r.Valid []) p.0.items }, p.1) in
    let g : Checked (List A) → Option (CommaList A × List Token) = λ xs. Some (record { count = p.0.count; items = xs }, p.1) in
    let z : 0 + p.0.count ≡ p.0.count = omega arith in
    ap f z ∙ ap g (zero_joined p.0.items)

behind_more : {A : Type 0} (n : ℕ) (xs : Checked (List A)) (x : Checked A) (o : Option (CommaList A × List Token)) → behind_several n xs (with_one_more x o) ≡ behind_several (n + 1) (snoc xs x) o
behind_more n xs x None = refl
behind_more {A} n xs x (Some p) =
    let f : ℕ → Option (CommaList A × List Token) = λ k. Some (record { count = k; items = joined xs (cons x p.0.items) }, p.1) in
    let g : Checked (List A) → Option (CommaList A × List Token) = λ ys. Some (record { count = n + 1 + p.0.count; items = ys }, p.1) in
    let z : n + (p.0.count + 1) ≡ n + 1 + p.0.count = omega arith in
    ap f z ∙ ap g (joined_cons xs x p.0.items)

-- one more element, and a comma behind it
pub comma_behind : {A : Type 0} (read : Reader A) (n left : ℕ) (xs : Checked (List A)) (x : Checked A) (ts rest now : List Token) → Some (x, rest) ≡ read ts → (true, now) ≡ take_punctuation m.Comma rest → behind_several n xs (at_most read (suc left) ts) ≡ behind_several (n + 1) (snoc xs x) (at_most read left now)
comma_behind {A} read n left xs x ts rest now e t =
    ap (λ o. behind_several n xs (many_behind (at_most read left) o)) (sym e)
    ∙ ap (λ q. behind_several n xs (more_if_comma (at_most read left) x q)) (sym t)
    ∙ behind_more n xs x (at_most read left now)

-- the last element
pub last_behind : {A : Type 0} (read : Reader A) (n left : ℕ) (xs : Checked (List A)) (x : Checked A) (ts rest now : List Token) → Some (x, rest) ≡ read ts → (false, now) ≡ take_punctuation m.Comma rest → behind_several n xs (at_most read (suc left) ts) ≡ Some (record { count = n + 1; items = snoc xs x }, now)
last_behind {A} read n left xs x ts rest now e t =
    let g : Checked (List A) → Option (CommaList A × List Token) = λ ys. Some (record { count = n + 1; items = ys }, now) in
    ap (λ o. behind_several n xs (many_behind (at_most read left) o)) (sym e)
    ∙ ap (λ q. behind_several n xs (more_if_comma (at_most read left) x q)) (sym t)
    ∙ ap g (joined_cons xs x (r.Valid []) ∙ joined_nil (snoc xs x))

-- no element
pub none_behind : {A : Type 0} (read : Reader A) (n left : ℕ) (xs : Checked (List A)) (ts : List Token) → None ≡ read ts → behind_several n xs (at_most read (suc left) ts) ≡ None
none_behind read n left xs ts e = ap (λ o. behind_several n xs (many_behind (at_most read left) o)) (sym e)

-- what is left of a list begins with the element at its place
pub drop_at : {A : Type 0} (xs : List A) (i : ℕ) (x : A) → i < length xs → x ≡ get_or xs i x → drop i xs ≡ x ∷ drop (i + 1) xs
drop_at xs i x h e =
    drop-cons xs i x h ∙ ap (λ y. y ∷ drop (suc i) xs) (sym e) ∙ ap (λ k. x ∷ drop k xs) (sym (add-one i))
