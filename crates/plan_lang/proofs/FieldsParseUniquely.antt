-- Printed fields of an event, in a plan's range or not: they are cut into tokens, and nothing but them is read of these.
use Rattle.std.proofs.Common.{◌≡◌, ℕ, ◌<◌, ◌^◌, true, List, [], ◌∷◌, ◌++◌, length, Some, refl, sym, ap, subst, append_assoc, length-append, arith, zero, suc, Bool, false, cond, Option, None, option_map, ◌∙◌, pos, negsuc}
use Rattle.std.specs.Prelude.{codes, flat_map, nat_lt, option_and_then, nat_le}
use Rattle.std.specs.List.{list_all}
use Rattle.std.specs.Fmt.{decimal}
use Rattle.std.proofs.lemmas.Bool.Decides.{nat_tests}
use Rattle.std.proofs.lemmas.List.{append-nil}
use Rattle.lb_base.specs.declared.value.Tag.{Tag}
use Rattle.lb_base.specs.declared.value.Value.{Value}
use Rattle.lb_base.specs.declared.value.Value.TheVariants as v
use Rattle.lb_base.specs.Print.{path_text, value_text}
use Rattle.lb_base.specs.Quoted.{quoted}
use Rattle.lb_base.proofs.QuotedLaws.{quoted-reads_back}
use Rattle.boki_types.specs.declared.expr.Expr.TheVariants as e
use Rattle.boki_model.specs.Bodies.{is_identifier}
use Rattle.boki_model.specs.Bodies.{is_u64}
use Rattle.boki_model.specs.Plans.{is_user_tag}
use Rattle.line_text.specs.declared.token.Punctuation.TheVariants as m
use Rattle.line_text.specs.declared.token.Token.{Token}
use Rattle.line_text.specs.declared.token.Token.TheVariants as t
use Rattle.script_lang.specs.Printed.{comma_joined, each_behind_comma}
use Rattle.line_text.specs.Tokens.{quoted_and_rest, double_symbol, single_symbol}
use Rattle.script_lang.proofs.ExprTextLexes.{Lexed, space, first, is_safe, Lexes, name_lexed, number_lexed, expr_lexed, open_lexed, close_lexed}
use Rattle.script_lang.proofs.StmtTokensParseBack.{more_tokens, list_tokens}
use Rattle.plan_lang.specs.Printed.{behind_tag, tags_text}
use Rattle.plan_lang.specs.Typed.{is_typed_value, is_typed_tag}
use Rattle.line_text.proofs.FieldsInRange.{both_true, split_true}
use Rattle.plan_lang.proofs.PathsParseBack.{small, path_lexed}
use Rattle.plan_lang.proofs.FieldTextLexes.{Cuts, number_piece, spaced, tag_token, value_tokens}
use Rattle.line_text.specs.declared.checked.Checked.{Checked}
use Rattle.line_text.specs.declared.checked.Checked.TheVariants as r
use Rattle.line_text.specs.declared.lists.CommaList.{CommaList}
use Rattle.line_text.specs.Readers.{is_zero, Reader, expect, negative_value, value_at}
use Rattle.line_text.specs.Stream.{take_punctuation}
use Rattle.line_text.specs.Checks.{both_checked, map_checked, checked_if}
use Rattle.line_text.specs.Lists.{cons, with_one_more, more_if_comma, many_behind, at_most, comma_list, up_to_eight, closed_list, paren_list_by, paren_list as listed_at}
use Rattle.script_lang.specs.Statements.{call_at}
use Rattle.line_text.specs.Fields.{tag_at, tags_at}

low_word : (n : ℕ) → is_u64 n ≡ true → n < 2 ^ 64
low_word n h = grind (arith, nat_tests, h)

-- a number, alone and before others
pub number_cut : (n : ℕ) → is_u64 n ≡ true → Cuts (decimal n) (t.Numeral (Some n) ∷ [])
number_cut n h = number_piece n (low_word n h)

pub number_then : (n : ℕ) (b : List ℕ) (vs : List Token) → is_u64 n ≡ true → Cuts b vs → Cuts (decimal n ++ (32 ∷ b)) (t.Numeral (Some n) ∷ vs)
number_then n b vs h g = spaced (decimal n) b (t.Numeral (Some n) ∷ []) vs (number_cut n h) g

-- a quoted text of any length
text_lexed : (x : List ℕ) → Lexes (quoted x) (t.Text x ∷ [])
text_lexed x rest ts s d = first refl (ap quoted_and_rest (quoted-reads_back x rest)) (omega (arith, length-append (quoted x) rest)) d

pub text_cut : (x : List ℕ) → Cuts (quoted x) (t.Text x ∷ [])
text_cut x = record { cut = text_lexed x }

-- Two with nothing between them.
abbrev Follows : List ℕ → Type 0
Follows b = (rest : List ℕ) → is_safe rest ≡ true → is_safe (b ++ rest) ≡ true

joined : (a b : List ℕ) (us vs : List Token) → Lexes a us → Lexes b vs → Follows b → Lexes (a ++ b) (us ++ vs)
joined a b us vs h g f rest ts s d =
    let P : List ℕ → Type 0 = λ l. Lexed l ((us ++ vs) ++ ts) in
    let Q : List Token → Type 0 = λ l. Lexed (a ++ (b ++ rest)) l in
    subst P (sym (append_assoc a b rest)) (subst Q (sym (append_assoc us vs ts)) (h (b ++ rest) (vs ++ ts) (f rest s) (g rest ts s d)))

-- Tags.
comma : (rest : List ℕ) (ts : List Token) → Lexed rest ts → Lexed (44 ∷ rest) (t.Punctuation m.Comma ∷ ts)
unfolding double_symbol single_symbol
comma rest ts d = first refl refl (omega arith) d

tag_lexed : (tag : Tag) → is_typed_tag tag ≡ true → Lexes (decimal tag.0) (tag_token tag)
tag_lexed tag h rest ts s d = number_lexed tag.0 rest ts (low_word tag.0 h) s d

safe_tags : (tags : List Tag) → Follows (flat_map behind_tag tags)
safe_tags [] rest s = s
safe_tags (tag ∷ tags) rest s = refl

tags_more : (tags : List Tag) → list_all is_typed_tag tags ≡ true → Lexes (flat_map behind_tag tags) (more_tokens tag_token tags)
tags_more [] h rest ts s d = d
tags_more (tag ∷ tags) h rest ts s d =
    let q = split_true (is_typed_tag tag) (list_all is_typed_tag tags) h in
    comma ((decimal tag.0 ++ flat_map behind_tag tags) ++ rest) ((tag_token tag ++ more_tokens tag_token tags) ++ ts)
    (joined (decimal tag.0) (flat_map behind_tag tags) (tag_token tag) (more_tokens tag_token tags) (tag_lexed tag q.0) (tags_more tags q.1) (safe_tags tags) rest ts s d)

tags_lexed : (tags : List Tag) → list_all is_typed_tag tags ≡ true → Lexes (tags_text tags) (list_tokens tag_token tags)
tags_lexed [] h rest ts s d = d
tags_lexed (tag ∷ tags) h rest ts s d =
    let q = split_true (is_typed_tag tag) (list_all is_typed_tag tags) h in
    joined (decimal tag.0) (flat_map behind_tag tags) (tag_token tag) (more_tokens tag_token tags) (tag_lexed tag q.0) (tags_more tags q.1) (safe_tags tags) rest ts s d

-- tags and a text
pub tagged_cut : (tags : List Tag) (text : List ℕ) → list_all is_typed_tag tags ≡ true → Cuts (tags_text tags ++ (32 ∷ quoted text)) (list_tokens tag_token tags ++ t.Text text ∷ [])
tagged_cut tags text h = spaced (tags_text tags) (quoted text) (list_tokens tag_token tags) (t.Text text ∷ []) (record { cut = tags_lexed tags h }) (text_cut text)

-- Values.
comma_space : (rest : List ℕ) (ts : List Token) → Lexed rest ts → Lexed (44 ∷ 32 ∷ rest) (t.Punctuation m.Comma ∷ ts)
unfolding double_symbol single_symbol
comma_space rest ts d = first refl refl (omega arith) (space d)

value_lexed : (x : Value) → is_typed_value x ≡ true → Lexes (value_text x) (value_tokens x)
value_lexed (v.Int n) h = expr_lexed (e.Int n) 0 h
value_lexed (v.Text x) h = text_lexed x
value_lexed v.Nothing h = expr_lexed e.Nothing 0 refl

safe_values : (xs : List Value) → Follows (each_behind_comma value_text xs)
safe_values [] rest s = s
safe_values (x ∷ xs) rest s = refl

values_more : (xs : List Value) → list_all is_typed_value xs ≡ true → Lexes (each_behind_comma value_text xs) (more_tokens value_tokens xs)
values_more [] h rest ts s d = d
values_more (x ∷ xs) h rest ts s d =
    let q = split_true (is_typed_value x) (list_all is_typed_value xs) h in
    comma_space ((value_text x ++ each_behind_comma value_text xs) ++ rest) ((value_tokens x ++ more_tokens value_tokens xs) ++ ts)
    (joined (value_text x) (each_behind_comma value_text xs) (value_tokens x) (more_tokens value_tokens xs) (value_lexed x q.0) (values_more xs q.1) (safe_values xs) rest ts s d)

values_lexed : (xs : List Value) → list_all is_typed_value xs ≡ true → Lexes (comma_joined value_text xs) (list_tokens value_tokens xs)
values_lexed [] h rest ts s d = d
values_lexed (x ∷ xs) h rest ts s d =
    let q = split_true (is_typed_value x) (list_all is_typed_value xs) h in
    joined (value_text x) (each_behind_comma value_text xs) (value_tokens x) (more_tokens value_tokens xs) (value_lexed x q.0) (values_more xs q.1) (safe_values xs) rest ts s d

-- Values in parentheses, and a name before them.
abbrev pub args_text : List Value → List ℕ
args_text xs = codes "(" ++ (comma_joined value_text xs ++ codes ")")

abbrev pub args_tokens : List Value → List Token
args_tokens xs = t.Punctuation m.Open ∷ (list_tokens value_tokens xs ++ t.Punctuation m.Close ∷ [])

args_lexed : (xs : List Value) → list_all is_typed_value xs ≡ true → Lexes (args_text xs) (args_tokens xs)
args_lexed xs h rest ts s d =
    let safe : Follows (codes ")") = λ rest s. refl in
    open_lexed _ _ (joined (comma_joined value_text xs) (codes ")") (list_tokens value_tokens xs) (t.Punctuation m.Close ∷ []) (values_lexed xs h) (λ rest ts s d. close_lexed rest ts d) safe rest ts s d)

pub args_cut : (xs : List Value) → list_all is_typed_value xs ≡ true → Cuts (args_text xs) (args_tokens xs)
args_cut xs h = record { cut = args_lexed xs h }

call_lexed : (f : List ℕ) (xs : List Value) → is_identifier f ≡ true → list_all is_typed_value xs ≡ true → Lexes (f ++ args_text xs) (t.Name f ∷ args_tokens xs)
call_lexed f xs n h =
    let safe : Follows (args_text xs) = λ rest s. refl in
    joined f (args_text xs) (t.Name f ∷ []) (args_tokens xs) (λ rest ts s d. name_lexed f rest ts n s d) (args_lexed xs h) safe

pub call_cut : (f : List ℕ) (xs : List Value) → is_identifier f ≡ true → list_all is_typed_value xs ≡ true → Cuts (f ++ args_text xs) (t.Name f ∷ args_tokens xs)
call_cut f xs n h = record { cut = call_lexed f xs n h }

-- A place in a shard.
pub small_place : (shard local : ℕ) → is_u64 shard ≡ true → is_u64 local ≡ true → small (shard ∷ local ∷ []) ≡ true
small_place shard local h k = both_true (nat_lt shard (2 ^ 64)) (small (local ∷ [])) h (both_true (nat_lt local (2 ^ 64)) true k refl)

pub place_cut : (shard local : ℕ) → is_u64 shard ≡ true → is_u64 local ≡ true → Cuts (decimal shard ++ (46 ∷ decimal local)) (t.Dotted (path_text (shard ∷ local ∷ [])) ∷ [])
place_cut shard local h k =
    let same : path_text (shard ∷ local ∷ []) ≡ decimal shard ++ (46 ∷ decimal local) = ap (λ (x : List ℕ). decimal shard ++ (46 ∷ x)) (append-nil (decimal local)) in
    let P : List ℕ → Type 0 = λ x. Lexes x (t.Dotted (path_text (shard ∷ local ∷ [])) ∷ []) in
    record { cut = subst P same (path_lexed (shard ∷ local ∷ []) (omega arith) (small_place shard local h k)) }

-- Nothing but this is read, where something is.
abbrev pub Only : {A : Type 0} → A → Checked A → Type 0
Only a (r.Valid b) = b ≡ a
Only a r.OutOfRange = Unit {0}
Only a r.TooDeep = Unit {0}

-- and these tokens are left
abbrev pub OnlyAt : {A : Type 0} → A → List Token → Option (Checked A × List Token) → Type 0
OnlyAt a rest None = Unit {0}
OnlyAt a rest (Some p) = Only a p.0 × (p.1 ≡ rest)

abbrev pub OnlyWhole : {A : Type 0} → A → Option (Checked A) → Type 0
OnlyWhole a None = Unit {0}
OnlyWhole a (Some x) = Only a x

pub only_if : {A : Type 0} (b : Bool) (a : A) → Only a (checked_if b a)
only_if true a = refl
only_if false a = tt

pub only_map : {A B : Type 0} (f : A → B) (a : A) (x : Checked A) → Only a x → Only (f a) (map_checked f x)
only_map f a (r.Valid b) h = ap f h
only_map f a r.OutOfRange h = tt
only_map f a r.TooDeep h = tt

pub only_both : {A B : Type 0} (a : A) (b : B) (x : Checked A) (y : Checked B) → Only a x → Only b y → Only (a, b) (both_checked x y)
only_both a b (r.Valid c) (r.Valid d) h k = rw (h, k) refl
only_both a b (r.Valid c) r.OutOfRange h k = tt
only_both a b (r.Valid c) r.TooDeep h k = tt
only_both a b r.OutOfRange y h k = tt
only_both a b r.TooDeep (r.Valid d) h k = tt
only_both a b r.TooDeep r.OutOfRange h k = tt
only_both a b r.TooDeep r.TooDeep h k = tt

pub only_bind : {A C : Type 0} (c : C) (a : A) (rest : List Token) (o : Option (Checked A × List Token)) (f : Checked A × List Token → Option (Checked C)) → OnlyAt a rest o → ((x : Checked A) → Only a x → OnlyWhole c (f (x, rest))) → OnlyWhole c (option_and_then f o)
only_bind c a rest None f h k = tt
only_bind c a rest (Some p) f h k =
    let P : List Token → Type 0 = λ l. OnlyWhole c (f (p.0, l)) in
    subst P (sym h.1) (k p.0 h.0)

-- Lists with commas between, of any number.
abbrev OnlyMany : {A : Type 0} → List A → List Token → Option (CommaList A × List Token) → Type 0
OnlyMany xs rest None = Unit {0}
OnlyMany xs rest (Some p) = Only xs p.0.items × (p.1 ≡ rest)

abbrev Reads : {A : Type 0} → (A → Bool) → Reader A → (A → List Token) → Type 0
Reads {A} p read print = (x : A) (rest : List Token) → p x ≡ true → OnlyAt x rest (read (print x ++ rest))

only_cons : {A : Type 0} (x : A) (xs : List A) (y : Checked A) (ys : Checked (List A)) → Only x y → Only xs ys → Only (x ∷ xs) (cons y ys)
only_cons x xs y ys h k = only_map (λ p. p.0 ∷ p.1) (x, xs) (both_checked y ys) (only_both x xs y ys h k)

only_last : {A : Type 0} (x : A) (rest : List Token) (others : List Token → Option (CommaList A × List Token)) (o : Option (Checked A × List Token)) → take_punctuation m.Comma rest ≡ (false, rest) → OnlyAt x rest o → OnlyMany (x ∷ []) rest (many_behind others o)
only_last x rest others None c h = tt
only_last {A} x rest others (Some p) c h =
    let P : Bool × List Token → Type 0 = λ q. OnlyMany (x ∷ []) rest (more_if_comma others p.0 q) in
    let same : take_punctuation m.Comma p.1 ≡ (false, rest) = ap (take_punctuation m.Comma) h.1 ∙ c in
    subst P (sym same) (only_cons x [] p.0 (r.Valid []) h.0 refl, refl)

only_one_more : {A : Type 0} (x : A) (xs : List A) (rest : List Token) (y : Checked A) (o : Option (CommaList A × List Token)) → Only x y → OnlyMany xs rest o → OnlyMany (x ∷ xs) rest (with_one_more y o)
only_one_more x xs rest y None h k = tt
only_one_more x xs rest y (Some p) h k = (only_cons x xs y p.0.items h k.0, k.1)

only_more : {A : Type 0} (x : A) (xs : List A) (next rest : List Token) (others : List Token → Option (CommaList A × List Token)) (o : Option (Checked A × List Token)) → OnlyAt x (t.Punctuation m.Comma ∷ next) o → OnlyMany xs rest (others next) → OnlyMany (x ∷ xs) rest (many_behind others o)
only_more x xs next rest others None h k = tt
only_more x xs next rest others (Some p) h k =
    let P : Bool × List Token → Type 0 = λ q. OnlyMany (x ∷ xs) rest (more_if_comma others p.0 q) in
    let same : take_punctuation m.Comma p.1 ≡ (true, next) = ap (take_punctuation m.Comma) h.1 in
    subst P (sym same) (only_one_more x xs rest p.0 (others next) h.0 k)

many_only : {A : Type 0} (p : A → Bool) (read : Reader A) (print : A → List Token) (x : A) (xs : List A) (rest : List Token) (n : ℕ) → Reads p read print → list_all p (x ∷ xs) ≡ true → take_punctuation m.Comma rest ≡ (false, rest) → OnlyMany (x ∷ xs) rest (at_most read n ((print x ++ more_tokens print xs) ++ rest))
many_only p read print x xs rest zero h g c = tt
many_only p read print x [] rest (suc n) h g c =
    let P : List Token → Type 0 = λ l. OnlyMany (x ∷ []) rest (many_behind (at_most read n) (read (l ++ rest))) in
    subst P (sym (append-nil (print x))) (only_last x rest (at_most read n) (read (print x ++ rest)) c (h x rest ((split_true (p x) true g).0)))
many_only p read print x (y ∷ ys) rest (suc n) h g c =
    let q = split_true (p x) (list_all p (y ∷ ys)) g in
    let next = (print y ++ more_tokens print ys) ++ rest in
    let P : List Token → Type 0 = λ l. OnlyMany (x ∷ y ∷ ys) rest (many_behind (at_most read n) (read l)) in
    subst P (sym (append_assoc (print x) (t.Punctuation m.Comma ∷ (print y ++ more_tokens print ys)) rest))
    (only_more x (y ∷ ys) next rest (at_most read n) (read (print x ++ (t.Punctuation m.Comma ∷ next))) (h x (t.Punctuation m.Comma ∷ next) q.0) (many_only p read print y ys rest n h q.1 c))

several_only : {A : Type 0} (p : A → Bool) (read : Reader A) (print : A → List Token) (x : A) (xs : List A) (rest : List Token) → Reads p read print → list_all p (x ∷ xs) ≡ true → take_punctuation m.Comma rest ≡ (false, rest) → OnlyMany (x ∷ xs) rest (comma_list read (list_tokens print (x ∷ xs) ++ rest))
several_only p read print x xs rest h g c = many_only p read print x xs rest (length (list_tokens print (x ∷ xs) ++ rest)) h g c

-- Tags, and none of them where none is printed.
tag_only : Reads is_typed_tag tag_at tag_token
tag_only tag rest h = (only_if (is_user_tag tag) tag, refl)

few_if : {A : Type 0} (b : Bool) (a : A) (x : Checked A) → Only a x → Only a (cond b x r.OutOfRange)
few_if true a x h = h
few_if false a x h = tt

few_only : (tags : List Tag) (rest : List Token) (o : Option (CommaList Tag × List Token)) → OnlyMany tags rest o → OnlyAt tags rest (option_and_then (λ (xs : CommaList Tag × List Token). Some (up_to_eight xs.0, xs.1)) o)
few_only tags rest None h = tt
few_only tags rest (Some p) h = (few_if (nat_le p.0.count 8) tags p.0.items h.0, h.1)

pub tags_only : (tags : List Tag) (text : List ℕ) → list_all is_typed_tag tags ≡ true → OnlyAt tags (t.Text text ∷ []) (tags_at (list_tokens tag_token tags ++ t.Text text ∷ []))
tags_only [] text h = tt
tags_only (tag ∷ tags) text h =
    let rest = t.Text text ∷ [] in
    few_only (tag ∷ tags) rest (comma_list tag_at (list_tokens tag_token (tag ∷ tags) ++ rest)) (several_only is_typed_tag tag_at tag_token tag tags rest tag_only h refl)

-- Values and calls.
cond_only : (b : Bool) (x : Value) → Only x (cond b (r.Valid x) r.OutOfRange)
cond_only true x = refl
cond_only false x = tt

negative_only : (n : ℕ) (rest : List Token) (b : Bool) → OnlyAt (v.Int (negsuc n)) rest (cond b None (Some (negative_value (Some (suc n)), rest)))
negative_only n rest true = tt
negative_only n rest false = (cond_only (nat_le (suc n) (2 ^ 63)) (v.Int (negsuc n)), refl)

value_only : Reads is_typed_value value_at value_tokens
value_only (v.Int (pos n)) rest h = (cond_only (nat_lt n (2 ^ 63)) (v.Int (pos n)), refl)
value_only (v.Int (negsuc n)) rest h = negative_only n rest (is_zero (Some (suc n)))
value_only (v.Text x) rest h = (only_if (nat_le (length x) 256) (v.Text x), refl)
value_only v.Nothing rest h = (refl, refl)

no_close : (x : Value) (rest : List Token) → take_punctuation m.Close (value_tokens x ++ rest) ≡ (false, value_tokens x ++ rest)
no_close (v.Int (pos n)) rest = refl
no_close (v.Int (negsuc n)) rest = refl
no_close (v.Text x) rest = refl
no_close v.Nothing rest = refl

closed_only : (xs : List Value) (o : Option (CommaList Value × List Token)) → OnlyMany xs (t.Punctuation m.Close ∷ []) o → OnlyMany xs [] (closed_list o)
closed_only xs None h = tt
closed_only xs (Some p) h =
    let P : List Token → Type 0 = λ l. OnlyMany xs [] (option_map (λ ts. (p.0, ts)) (expect m.Close l)) in
    subst P (sym h.1) (h.0, refl)

listed_only : (xs : List Value) → list_all is_typed_value xs ≡ true → OnlyMany xs [] (listed_at value_at (list_tokens value_tokens xs ++ t.Punctuation m.Close ∷ []))
listed_only [] h = (refl, refl)
listed_only (x ∷ xs) h =
    let close = t.Punctuation m.Close ∷ [] in
    let all = list_tokens value_tokens (x ∷ xs) ++ close in
    let c : take_punctuation m.Close all ≡ (false, all) =
    ap (take_punctuation m.Close) (append_assoc (value_tokens x) (more_tokens value_tokens xs) close)
    ∙ no_close x (more_tokens value_tokens xs ++ close)
    ∙ ap (λ (l : List Token). (false, l)) (sym (append_assoc (value_tokens x) (more_tokens value_tokens xs) close)) in
    let P : Bool × List Token → Type 0 = λ q. OnlyMany (x ∷ xs) [] (paren_list_by value_at q) in
    subst P (sym c) (closed_only (x ∷ xs) (comma_list value_at all) (several_only is_typed_value value_at value_tokens x xs close value_only h refl))

named_only : (f : List ℕ) (xs : List Value) (name : Checked (List ℕ)) (o : Option (CommaList Value × List Token)) → Only f name → OnlyMany xs [] o → OnlyAt (f, xs) [] (option_and_then (λ (call : (Checked (List ℕ) × CommaList Value) × List Token). Some (both_checked call.0.0 call.0.1.items, call.1)) (option_and_then (λ (xs : CommaList Value × List Token). Some ((name, xs.0), xs.1)) o))
named_only f xs name None h k = tt
named_only f xs name (Some p) h k = (only_both f xs name p.0.items h k.0, k.1)

pub call_only : (f : List ℕ) (xs : List Value) → list_all is_typed_value xs ≡ true → OnlyAt (f, xs) [] (call_at (t.Name f ∷ args_tokens xs))
call_only f xs h =
    named_only f xs (checked_if (nat_le (length f) 32) f) (listed_at value_at (list_tokens value_tokens xs ++ t.Punctuation m.Close ∷ [])) (only_if (nat_le (length f) 32) f) (listed_only xs h)
