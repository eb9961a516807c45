-- Statements that are read are within the limits.
use Rattle.std.proofs.Common.{◌≡◌, ℕ, zero, suc, ◌+◌, ◌≤◌, Bool, true, false, cond, leb, List, [], ◌∷◌, length, drop, Option, Some, None, refl, subst, arith}
use Rattle.std.specs.Prelude.{◌&&◌, bytes_eq, codes, option_map}
use Rattle.std.specs.List.{list_all}
use Rattle.std.proofs.lemmas.Bool.Decides.{nat_tests}
use Rattle.boki_types.specs.declared.expr.Expr.{Expr}
use Rattle.boki_types.specs.declared.program.Stmt.{Stmt}
use Rattle.boki_types.specs.declared.program.Stmt.TheVariants as stmts
use Rattle.boki_model.specs.Bodies.{is_identifier}
use Rattle.boki_model.specs.Plans.{operand_count, nesting_depth, expressions, variables_set, in_bounds}
use Rattle.boki_model.specs.Script.{pair_names, pair_expressions, both_sides}
use Rattle.line_text.specs.declared.token.Keyword.{Keyword}
use Rattle.line_text.specs.declared.token.Keyword.TheVariants as keys
use Rattle.line_text.specs.declared.token.Punctuation.{Punctuation}
use Rattle.line_text.specs.declared.token.Punctuation.TheVariants as marks
use Rattle.line_text.specs.declared.token.Token.{Token}
use Rattle.line_text.specs.declared.token.Token.TheVariants as tokens
use Rattle.line_text.specs.declared.checked.Checked.{Checked}
use Rattle.line_text.specs.declared.checked.Checked.TheVariants as rates
use Rattle.line_text.specs.declared.lists.CommaList.{CommaList}
use Rattle.script_lang.specs.declared.setters.Setter.{Setter}
use Rattle.script_lang.specs.declared.setters.Setter.TheVariants as setters
use Rattle.line_text.specs.Stream.{take_punctuation, same_punctuation, keyword_at}
use Rattle.script_lang.specs.Expressions.{expr_at}
use Rattle.line_text.specs.Readers.{Reader, ◌>>=◌, expect, rest_if, if_at_end, name_at}
use Rattle.line_text.specs.Checks.{map_checked, both_checked, checked_if}
use Rattle.script_lang.specs.Statements.{assignment_at, pair_at, name_and_list, behind_function, function_head_of, setter_of, setter_by, setter_at, set_value, set_spawn, make_commit, set_commit, set_by, let_of, pair_stmt_of, expr_stmt_of, group_stmt_of, read_all_of, behind_keyword, stmt_of}
use Rattle.line_text.specs.Lists.{cons, with_one_more, more_if_comma, many_behind, at_most, comma_list, up_to_eight, closed_list, paren_list_by, paren_list}
use Rattle.line_text.proofs.LexedNames.{NamesValid}
use Rattle.script_lang.proofs.ExprsInLimits.{is_expr_in_limits, identifier, ParsesBack, ExprInLimits, IfValid, expr_in_limits}

abbrev pub has_valid_sizes : Expr → Bool
has_valid_sizes x = leb (operand_count x) 64 && leb (nesting_depth x) 32 && is_expr_in_limits x

both_true : (a b : Bool) → a ≡ true → b ≡ true → (a && b) ≡ true
both_true a b h k = rw (h, k) refl

below : (m n : ℕ) → m ≤ n → leb m n ≡ true
below m n h = grind (arith, nat_tests, h)

good_expr : (x : Expr) → ExprInLimits x → has_valid_sizes x ≡ true
good_expr x h = both_true _ _ (both_true _ _ (below (operand_count x) 64 h.few) (below (nesting_depth x) 32 h.low)) h.fine

pub some_injective : {A : Type 0} (x y : A) → Some x ≡ Some y → x ≡ y
some_injective x y e = cc

pub bind_some : {A B : Type 0} (o : Option A) (f : A → Option B) (y : B) → (o >>= f) ≡ Some y → (x : A) × (o ≡ Some x) × (f x ≡ Some y)
bind_some None f y e = absurd (cc)
bind_some (Some x) f y e = (x, refl, e)

abbrev FoundIfValid : {A : Type 0} → (A → Type 0) → Checked A × List Token → Type 0
FoundIfValid P found = IfValid P found.0 × NamesValid found.1

-- A reader that gives good things of good tokens.
abbrev ReaderIfValid : {A : Type 0} → (A → Type 0) → Reader A → Type 0
ReaderIfValid {A} P read = (ts : List Token) (found : Checked A × List Token) → NamesValid ts → read ts ≡ Some found → FoundIfValid P found

need_by : (b : Bool) (first : Token) (ts rest : List Token) → NamesValid ts → rest_if (cond b (true, ts) (false, first ∷ ts)) ≡ Some rest → NamesValid rest
need_by true first ts rest g e = subst NamesValid (some_injective ts rest e) g
need_by false first ts rest g e = absurd (cc)

need_good : (mark : Punctuation) (ts rest : List Token) → NamesValid ts → expect mark ts ≡ Some rest → NamesValid rest
need_good mark [] rest g e = absurd (cc)
need_good mark (tokens.Punctuation first ∷ ts) rest g e = need_by (same_punctuation first mark) (tokens.Punctuation first) ts rest g.1 e
need_good mark (tokens.Numeral n ∷ ts) rest g e = absurd (cc)
need_good mark (tokens.Dotted n ∷ ts) rest g e = absurd (cc)
need_good mark (tokens.Text n ∷ ts) rest g e = absurd (cc)
need_good mark (tokens.Name n ∷ ts) rest g e = absurd (cc)
need_good mark (tokens.Keyword n ∷ ts) rest g e = absurd (cc)
need_good mark (tokens.Op n ∷ ts) rest g e = absurd (cc)
need_good mark (tokens.Minus n ∷ ts) rest g e = absurd (cc)

taken_by : (b : Bool) (first : Token) (ts : List Token) → NamesValid (first ∷ ts) → NamesValid (cond {A = Bool × List Token} b (true, ts) (false, first ∷ ts)).1
taken_by true first ts g = g.1
taken_by false first ts g = g

taken_good : (mark : Punctuation) (ts : List Token) → NamesValid ts → NamesValid (take_punctuation mark ts).1
taken_good mark [] g = g
taken_good mark (tokens.Punctuation first ∷ ts) g = taken_by (same_punctuation first mark) (tokens.Punctuation first) ts g
taken_good mark (tokens.Numeral n ∷ ts) g = g
taken_good mark (tokens.Dotted n ∷ ts) g = g
taken_good mark (tokens.Text n ∷ ts) g = g
taken_good mark (tokens.Name n ∷ ts) g = g
taken_good mark (tokens.Keyword n ∷ ts) g = g
taken_good mark (tokens.Op n ∷ ts) g = g
taken_good mark (tokens.Minus n ∷ ts) g = g

abbrev pub IsName : List ℕ → Type 0
IsName w = is_identifier w ≡ true

fine_name : (w : List ℕ) (b : Bool) → (b ≡ true → IsName w) → IfValid IsName (checked_if b w)
fine_name w true h = h refl
fine_name w false h = tt

along : {A : Type 0} (P : A → Type 0) (x found : Checked A × List Token) → Some x ≡ Some found → FoundIfValid P x → FoundIfValid P found
along {A} P x found e h = let Q : Checked A × List Token → Type 0 = λ z. FoundIfValid P z in subst Q (some_injective x found e) h

name_good : ReaderIfValid IsName name_at
name_good [] found g e = absurd (cc)
name_good (tokens.Name w ∷ ts) found g e = along IsName (checked_if (leb (length w) 32) w, ts) found e (fine_name w (leb (length w) 32) (identifier w g.0), g.1)
name_good (tokens.Numeral n ∷ ts) found g e = absurd (cc)
name_good (tokens.Dotted n ∷ ts) found g e = absurd (cc)
name_good (tokens.Text n ∷ ts) found g e = absurd (cc)
name_good (tokens.Keyword n ∷ ts) found g e = absurd (cc)
name_good (tokens.Op n ∷ ts) found g e = absurd (cc)
name_good (tokens.Minus n ∷ ts) found g e = absurd (cc)
name_good (tokens.Punctuation n ∷ ts) found g e = absurd (cc)

pub both_if_valid : {A B : Type 0} (P : A → Type 0) (Q : B → Type 0) (a : Checked A) (b : Checked B) → IfValid P a → IfValid Q b → IfValid (λ p. P p.0 × Q p.1) (both_checked a b)
both_if_valid P Q (rates.Valid a) (rates.Valid b) g h = (g, h)
both_if_valid P Q (rates.Valid a) rates.OutOfRange g h = tt
both_if_valid P Q (rates.Valid a) rates.TooDeep g h = tt
both_if_valid P Q rates.OutOfRange b g h = tt
both_if_valid P Q rates.TooDeep (rates.Valid b) g h = tt
both_if_valid P Q rates.TooDeep rates.OutOfRange g h = tt
both_if_valid P Q rates.TooDeep rates.TooDeep g h = tt

pub map_if_valid : {A B : Type 0} (P : A → Type 0) (Q : B → Type 0) (f : A → B) (a : Checked A) → ((x : A) → P x → Q (f x)) → IfValid P a → IfValid Q (map_checked f a)
map_if_valid P Q f (rates.Valid a) h g = h a g
map_if_valid P Q f rates.OutOfRange h g = tt
map_if_valid P Q f rates.TooDeep h g = tt

abbrev NamedExpr : List ℕ × Expr → Type 0
NamedExpr p = IsName p.0 × ExprInLimits p.1

abbrev TwoExprs : Expr × Expr → Type 0
TwoExprs p = ExprInLimits p.0 × ExprInLimits p.1

named_good : ReaderIfValid NamedExpr assignment_at
named_good ts found g e =
    let a = bind_some (name_at ts) (λ name. expect marks.Assign name.1 >>= λ rest. expr_at rest >>= λ x. Some (both_checked name.0 x.0, x.1)) found e in
    let n = name_good ts a.0 g a.1 in
    let b = bind_some (expect marks.Assign a.0.1) (λ rest. expr_at rest >>= λ x. Some (both_checked a.0.0 x.0, x.1)) found a.2 in
    let r = need_good marks.Assign a.0.1 b.0 n.1 b.1 in
    let c = bind_some (expr_at b.0) (λ x. Some (both_checked a.0.0 x.0, x.1)) found b.2 in
    let x = expr_in_limits b.0 c.0 r c.1 in
    along NamedExpr (both_checked a.0.0 c.0.0, c.0.1) found c.2 (both_if_valid IsName ExprInLimits a.0.0 c.0.0 n.0 x.0, x.1)

pair_good : ReaderIfValid TwoExprs pair_at
pair_good ts found g e =
    let a = bind_some (expr_at ts) (λ x. expect marks.Assign x.1 >>= λ rest. expr_at rest >>= λ y. Some (both_checked x.0 y.0, y.1)) found e in
    let n = expr_in_limits ts a.0 g a.1 in
    let b = bind_some (expect marks.Assign a.0.1) (λ rest. expr_at rest >>= λ y. Some (both_checked a.0.0 y.0, y.1)) found a.2 in
    let r = need_good marks.Assign a.0.1 b.0 n.1 b.1 in
    let c = bind_some (expr_at b.0) (λ y. Some (both_checked a.0.0 y.0, y.1)) found b.2 in
    let x = expr_in_limits b.0 c.0 r c.1 in
    along TwoExprs (both_checked a.0.0 c.0.0, c.0.1) found c.2 (both_if_valid ExprInLimits ExprInLimits a.0.0 c.0.0 n.0 x.0, x.1)

abbrev pub AllOf : {A : Type 0} → (A → Type 0) → List A → Type 0
AllOf P [] = Unit {0}
AllOf P (x ∷ xs) = P x × AllOf P xs

abbrev Counts : {A : Type 0} → (A → Type 0) → ℕ → List A → Type 0
Counts P n xs = AllOf P xs × (length xs ≡ n)

abbrev ListInLimits : {A : Type 0} → (A → Type 0) → CommaList A → Type 0
ListInLimits P s = IfValid (Counts P s.count) s.items

cons_good : {A : Type 0} (P : A → Type 0) (n : ℕ) (x : Checked A) (xs : Checked (List A)) → IfValid P x → IfValid (Counts P n) xs → IfValid (Counts P (n + 1)) (cons x xs)
cons_good P n (rates.Valid x) (rates.Valid xs) g h = let l = h.1 in ((g, h.0), omega arith)
cons_good P n (rates.Valid x) rates.OutOfRange g h = tt
cons_good P n (rates.Valid x) rates.TooDeep g h = tt
cons_good P n rates.OutOfRange xs g h = tt
cons_good P n rates.TooDeep (rates.Valid xs) g h = tt
cons_good P n rates.TooDeep rates.OutOfRange g h = tt
cons_good P n rates.TooDeep rates.TooDeep g h = tt

abbrev ManyInLimits : {A : Type 0} → (A → Type 0) → CommaList A × List Token → Type 0
ManyInLimits P found = ListInLimits P found.0 × (1 ≤ found.0.count) × NamesValid found.1

many_along : {A : Type 0} (P : A → Type 0) (x found : CommaList A × List Token) → Some x ≡ Some found → ManyInLimits P x → ManyInLimits P found
many_along {A} P x found e h = let Q : CommaList A × List Token → Type 0 = λ z. ManyInLimits P z in subst Q (some_injective x found e) h

one_good : {A : Type 0} (P : A → Type 0) (x : Checked A) (o : Option (CommaList A × List Token)) (found : CommaList A × List Token) → IfValid P x → ((f : CommaList A × List Token) → o ≡ Some f → ManyInLimits P f) → with_one_more x o ≡ Some found → ManyInLimits P found
one_good P x None found g h e = absurd (cc)
one_good P x (Some p) found g h e =
    let k = h p refl in
    many_along P (record { count = p.0.count + 1; items = cons x p.0.items }, p.1) found e (cons_good P p.0.count x p.0.items g k.0, omega arith, k.2)

more_good : {A : Type 0} (P : A → Type 0) (others : List Token → Option (CommaList A × List Token)) (x : Checked A) (q : Bool × List Token) (found : CommaList A × List Token) → IfValid P x → NamesValid q.1 → ((ts : List Token) (f : CommaList A × List Token) → NamesValid ts → others ts ≡ Some f → ManyInLimits P f) → more_if_comma others x q ≡ Some found → ManyInLimits P found
more_good P others x (true, ts) found g t h e = one_good P x (others ts) found g (λ f. h ts f t) e
more_good P others x (false, ts) found g t h e =
    many_along P (record { count = 1; items = cons x (rates.Valid []) }, ts) found e (cons_good P 0 x (rates.Valid []) g (tt, refl), omega arith, t)

on_good : {A : Type 0} (P : A → Type 0) (others : List Token → Option (CommaList A × List Token)) (o : Option (Checked A × List Token)) (found : CommaList A × List Token) → ((f : Checked A × List Token) → o ≡ Some f → FoundIfValid P f) → ((ts : List Token) (f : CommaList A × List Token) → NamesValid ts → others ts ≡ Some f → ManyInLimits P f) → many_behind others o ≡ Some found → ManyInLimits P found
on_good P others None found g h e = absurd (cc)
on_good P others (Some p) found g h e =
    let k = g p refl in more_good P others p.0 (take_punctuation marks.Comma p.1) found k.0 (taken_good marks.Comma p.1 k.1) h e

many_good : {A : Type 0} (P : A → Type 0) (read : Reader A) → ReaderIfValid P read → (n : ℕ) (ts : List Token) (found : CommaList A × List Token) → NamesValid ts → at_most read n ts ≡ Some found → ManyInLimits P found
many_good P read r zero ts found g e = absurd (cc)
many_good P read r (suc n) ts found g e = on_good P (at_most read n) (read ts) found (λ f. r ts f g) (many_good P read r n) e

several_good : {A : Type 0} (P : A → Type 0) (read : Reader A) → ReaderIfValid P read → (ts : List Token) (found : CommaList A × List Token) → NamesValid ts → comma_list read ts ≡ Some found → ManyInLimits P found
several_good P read r ts found g e = many_good P read r (length ts) ts found g e

few_by : {A : Type 0} (P : A → Type 0) (n : ℕ) (xs : Checked (List A)) (b : Bool) → leb n 8 ≡ b → IfValid (Counts P n) xs → IfValid (λ ys. AllOf P ys × (length ys ≡ n) × (n ≤ 8)) (cond b xs rates.OutOfRange)
few_by P n (rates.Valid xs) true e g = let l : n ≤ 8 = grind (arith, nat_tests, e) in (g.0, g.1, l)
few_by P n rates.OutOfRange true e g = tt
few_by P n rates.TooDeep true e g = tt
few_by P n xs false e g = tt

few_good : {A : Type 0} (P : A → Type 0) (s : CommaList A) → ListInLimits P s → IfValid (λ ys. AllOf P ys × (length ys ≡ s.count) × (s.count ≤ 8)) (up_to_eight s)
few_good P s g = few_by P s.count s.items (leb s.count 8) refl g

abbrev ParenListInLimits : {A : Type 0} → (A → Type 0) → CommaList A × List Token → Type 0
ParenListInLimits P found = ListInLimits P found.0 × NamesValid found.1

close_by : {A : Type 0} (P : A → Type 0) (p found : CommaList A × List Token) (o : Option (List Token)) → expect marks.Close p.1 ≡ o → ManyInLimits P p → option_map (λ ts. (p.0, ts)) o ≡ Some found → ParenListInLimits P found
close_by P p found None n g e = absurd (cc)
close_by {A} P p found (Some ts) n g e =
    let Q : CommaList A × List Token → Type 0 = λ z. ParenListInLimits P z in
    subst Q (some_injective (p.0, ts) found e) (g.0, need_good marks.Close p.1 ts g.2 n)

closed_good : {A : Type 0} (P : A → Type 0) (o : Option (CommaList A × List Token)) (found : CommaList A × List Token) → ((f : CommaList A × List Token) → o ≡ Some f → ManyInLimits P f) → closed_list o ≡ Some found → ParenListInLimits P found
closed_good P None found h e = absurd (cc)
closed_good P (Some p) found h e = close_by P p found (expect marks.Close p.1) refl (h p refl) e

list_by : {A : Type 0} (P : A → Type 0) (read : Reader A) → ReaderIfValid P read → (q : Bool × List Token) (found : CommaList A × List Token) → NamesValid q.1 → paren_list_by read q ≡ Some found → ParenListInLimits P found
list_by {A} P read r (true, ts) found g e =
    let Q : CommaList A × List Token → Type 0 = λ z. ParenListInLimits P z in
    subst Q (some_injective (record { count = 0; items = rates.Valid [] }, ts) found e) ((tt, refl), g)
list_by P read r (false, ts) found g e = closed_good P (comma_list read ts) found (λ f. several_good P read r ts f g) e

listed_good : {A : Type 0} (P : A → Type 0) (read : Reader A) → ReaderIfValid P read → (ts : List Token) (found : CommaList A × List Token) → NamesValid ts → paren_list read ts ≡ Some found → ParenListInLimits P found
listed_good P read r ts found g e = list_by P read r (take_punctuation marks.Close ts) found (taken_good marks.Close ts g) e

abbrev NameAndListInLimits : {A : Type 0} → (A → Type 0) → (Checked (List ℕ) × CommaList A) × List Token → Type 0
NameAndListInLimits P found = IfValid IsName found.0.0 × ListInLimits P found.0.1 × NamesValid found.1

applied_good : {A : Type 0} (P : A → Type 0) (read : Reader A) → ReaderIfValid P read → (ts : List Token) (found : (Checked (List ℕ) × CommaList A) × List Token) → NamesValid ts → name_and_list read ts ≡ Some found → NameAndListInLimits P found
applied_good {A} P read r ts found g e =
    let a = bind_some (name_at ts) (λ name. expect marks.Open name.1 >>= λ rest. paren_list read rest >>= λ xs. Some ((name.0, xs.0), xs.1)) found e in
    let n = name_good ts a.0 g a.1 in
    let b = bind_some (expect marks.Open a.0.1) (λ rest. paren_list read rest >>= λ xs. Some ((a.0.0, xs.0), xs.1)) found a.2 in
    let s = need_good marks.Open a.0.1 b.0 n.1 b.1 in
    let c = bind_some (paren_list read b.0) (λ xs. Some ((a.0.0, xs.0), xs.1)) found b.2 in
    let x = listed_good P read r b.0 c.0 s c.1 in
    let Q : (Checked (List ℕ) × CommaList A) × List Token → Type 0 = λ z. NameAndListInLimits P z in
    subst Q (some_injective ((a.0.0, c.0.0), c.0.1) found c.2) (n.0, x.0, x.1)

alone_is : {A : Type 0} (ts : List Token) (x r : Checked A) → if_at_end ts x ≡ Some r → x ≡ r
alone_is [] x r e = some_injective x r e
alone_is (t ∷ ts) x r e = absurd (cc)

pub at_end_if_valid : {A : Type 0} (P : A → Type 0) (ts : List Token) (x r : Checked A) → if_at_end ts x ≡ Some r → IfValid P x → IfValid P r
at_end_if_valid {A} P ts x r e g = let Q : Checked A → Type 0 = λ z. IfValid P z in subst Q (alone_is ts x r e) g

-- The head of a function.
abbrev pub FunctionHeadInLimits : List ℕ × List (List ℕ) → Type 0
FunctionHeadInLimits h = IsName h.0 × AllOf IsName h.1 × (length h.1 ≤ 8)

head_made : (n : ℕ) (name : Checked (List ℕ)) (params : Checked (List (List ℕ))) → IfValid IsName name → IfValid (λ ys. AllOf IsName ys × (length ys ≡ n) × (n ≤ 8)) params → IfValid FunctionHeadInLimits (both_checked name params)
head_made n (rates.Valid a) (rates.Valid b) g h = let l = h.1 in let m = h.2 in (g, h.0, omega arith)
head_made n (rates.Valid a) rates.OutOfRange g h = tt
head_made n (rates.Valid a) rates.TooDeep g h = tt
head_made n rates.OutOfRange b g h = tt
head_made n rates.TooDeep (rates.Valid b) g h = tt
head_made n rates.TooDeep rates.OutOfRange g h = tt
head_made n rates.TooDeep rates.TooDeep g h = tt

named_head_good : (ts : List Token) (r : Checked (List ℕ × List (List ℕ))) → NamesValid ts → behind_function ts ≡ Some r → IfValid FunctionHeadInLimits r
named_head_good ts r g e =
    let a = bind_some (name_and_list name_at ts) (λ head. if_at_end head.1 (both_checked head.0.0 (up_to_eight head.0.1))) r e in
    let h = applied_good IsName name_at name_good ts a.0 g a.1 in
    at_end_if_valid FunctionHeadInLimits a.0.1 (both_checked a.0.0.0 (up_to_eight a.0.0.1)) r a.2 (head_made a.0.0.1.count a.0.0.0 (up_to_eight a.0.0.1) h.0 (few_good IsName a.0.0.1 h.1))

pub function_head_in_limits : (ts : List Token) (r : Checked (List ℕ × List (List ℕ))) → NamesValid ts → function_head_of ts ≡ Some r → IfValid FunctionHeadInLimits r
function_head_in_limits [] r g e = absurd (cc)
function_head_in_limits (tokens.Keyword keys.Function ∷ ts) r g e = named_head_good ts r g.1 e
function_head_in_limits (tokens.Keyword keys.End ∷ ts) r g e = absurd (cc)
function_head_in_limits (tokens.Keyword keys.Let ∷ ts) r g e = absurd (cc)
function_head_in_limits (tokens.Keyword keys.Read ∷ ts) r g e = absurd (cc)
function_head_in_limits (tokens.Keyword keys.Write ∷ ts) r g e = absurd (cc)
function_head_in_limits (tokens.Keyword keys.Spawn ∷ ts) r g e = absurd (cc)
function_head_in_limits (tokens.Keyword keys.Join ∷ ts) r g e = absurd (cc)
function_head_in_limits (tokens.Keyword keys.Push ∷ ts) r g e = absurd (cc)
function_head_in_limits (tokens.Keyword keys.Pop ∷ ts) r g e = absurd (cc)
function_head_in_limits (tokens.Keyword keys.Begin ∷ ts) r g e = absurd (cc)
function_head_in_limits (tokens.Keyword keys.Commit ∷ ts) r g e = absurd (cc)
function_head_in_limits (tokens.Keyword keys.If ∷ ts) r g e = absurd (cc)
function_head_in_limits (tokens.Keyword keys.Else ∷ ts) r g e = absurd (cc)
function_head_in_limits (tokens.Keyword keys.While ∷ ts) r g e = absurd (cc)
function_head_in_limits (tokens.Keyword keys.Return ∷ ts) r g e = absurd (cc)
function_head_in_limits (tokens.Keyword keys.Not ∷ ts) r g e = absurd (cc)
function_head_in_limits (tokens.Keyword keys.Nothing ∷ ts) r g e = absurd (cc)
function_head_in_limits (tokens.Keyword keys.TextOf ∷ ts) r g e = absurd (cc)
function_head_in_limits (tokens.Keyword keys.Len ∷ ts) r g e = absurd (cc)
function_head_in_limits (tokens.Numeral n ∷ ts) r g e = absurd (cc)
function_head_in_limits (tokens.Dotted n ∷ ts) r g e = absurd (cc)
function_head_in_limits (tokens.Text n ∷ ts) r g e = absurd (cc)
function_head_in_limits (tokens.Name n ∷ ts) r g e = absurd (cc)
function_head_in_limits (tokens.Op n ∷ ts) r g e = absurd (cc)
function_head_in_limits (tokens.Minus n ∷ ts) r g e = absurd (cc)
function_head_in_limits (tokens.Punctuation n ∷ ts) r g e = absurd (cc)

-- A statement within the limits: its expressions, the variables that it sets, and its counts.
abbrev pub counts_in_limits : Stmt → Bool
counts_in_limits (stmts.Begin pairs) = in_bounds 1 8 (length pairs)
counts_in_limits (stmts.Commit x pairs) = leb (length pairs) 8
counts_in_limits (stmts.ReadAll pairs) = in_bounds 1 8 (length pairs)
counts_in_limits _ = true

-- the function that it calls has a name
abbrev pub called_name : Stmt → Bool
called_name (stmts.Spawn x f es) = is_identifier f
called_name _ = true

pub record StmtInLimits (l : Stmt) : Type 0 where
  pub exprs : list_all has_valid_sizes (expressions l) ≡ true
  pub names : list_all is_identifier (variables_set l) ≡ true
  pub counts : counts_in_limits l ≡ true
  pub parses_back : AllOf ParsesBack (expressions l)
  pub called : called_name l ≡ true

one_expr : (x : Expr) → ExprInLimits x → list_all has_valid_sizes (x ∷ []) ≡ true
one_expr x g = both_true _ _ (good_expr x g) refl

two_exprs : (x y : Expr) → ExprInLimits x → ExprInLimits y → list_all has_valid_sizes (x ∷ y ∷ []) ≡ true
two_exprs x y g h = both_true _ _ (good_expr x g) (one_expr y h)

one_name : (w : List ℕ) → IsName w → list_all is_identifier (w ∷ []) ≡ true
one_name w g = both_true _ _ g refl

all_exprs : (xs : List Expr) → AllOf ExprInLimits xs → list_all has_valid_sizes xs ≡ true
all_exprs [] g = refl
all_exprs (x ∷ xs) g = both_true _ _ (good_expr x g.0) (all_exprs xs g.1)

all_names : (pairs : List (List ℕ × Expr)) → AllOf NamedExpr pairs → list_all is_identifier (pair_names pairs) ≡ true
all_names [] g = refl
all_names (p ∷ ps) g = both_true _ _ g.0.0 (all_names ps g.1)

all_seconds : (pairs : List (List ℕ × Expr)) → AllOf NamedExpr pairs → list_all has_valid_sizes (pair_expressions pairs) ≡ true
all_seconds [] g = refl
all_seconds (p ∷ ps) g = both_true _ _ (good_expr p.1 g.0.1) (all_seconds ps g.1)

all_sides : (pairs : List (Expr × Expr)) → AllOf TwoExprs pairs → list_all has_valid_sizes (both_sides pairs) ≡ true
all_sides [] g = refl
all_sides (p ∷ ps) g = both_true _ _ (good_expr p.0 g.0.0) (both_true _ _ (good_expr p.1 g.0.1) (all_sides ps g.1))

all_again : (xs : List Expr) → AllOf ExprInLimits xs → AllOf ParsesBack xs
all_again [] g = tt
all_again (x ∷ xs) g = (g.0.parses_back, all_again xs g.1)

seconds_again : (pairs : List (List ℕ × Expr)) → AllOf NamedExpr pairs → AllOf ParsesBack (pair_expressions pairs)
seconds_again [] g = tt
seconds_again (p ∷ ps) g = (g.0.1.parses_back, seconds_again ps g.1)

sides_again : (pairs : List (Expr × Expr)) → AllOf TwoExprs pairs → AllOf ParsesBack (both_sides pairs)
sides_again [] g = tt
sides_again (p ∷ ps) g = (g.0.0.parses_back, (g.0.1.parses_back, sides_again ps g.1))

one_to_eight : (n m : ℕ) → n ≡ m → 1 ≤ m → m ≤ 8 → in_bounds 1 8 n ≡ true
one_to_eight n m e l h = both_true _ _ (below 1 n (omega arith)) (below n 8 (omega arith))

value_good : (make : List ℕ → Expr → Stmt) (name : Checked (List ℕ)) (ts : List Token) (r : Checked Stmt) → ((w : List ℕ) (x : Expr) → IsName w → ExprInLimits x → StmtInLimits (make w x)) → IfValid IsName name → NamesValid ts → set_value make name ts ≡ Some r → IfValid StmtInLimits r
value_good make name ts r h n g e =
    let a = bind_some (expr_at ts) (λ x. if_at_end x.1 (map_checked (λ p. make p.0 p.1) (both_checked name x.0))) r e in
    let x = expr_in_limits ts a.0 g a.1 in
    at_end_if_valid StmtInLimits a.0.1 (map_checked (λ p. make p.0 p.1) (both_checked name a.0.0)) r a.2
    (map_if_valid (λ p. IsName p.0 × ExprInLimits p.1) StmtInLimits (λ p. make p.0 p.1) (both_checked name a.0.0) (λ p k. h p.0 p.1 k.0 k.1) (both_if_valid IsName ExprInLimits name a.0.0 n x.0))

spawn_good : (name : Checked (List ℕ)) (ts : List Token) (r : Checked Stmt) → IfValid IsName name → NamesValid ts → set_spawn name ts ≡ Some r → IfValid StmtInLimits r
spawn_good name ts r n g e =
    let a = bind_some (name_and_list expr_at ts) (λ call. if_at_end call.1 (map_checked (λ p. stmts.Spawn p.0.0 p.0.1 p.1) (both_checked (both_checked name call.0.0) call.0.1.items))) r e in
    let x = applied_good ExprInLimits expr_at expr_in_limits ts a.0 g a.1 in
    let k = both_if_valid (λ p. IsName p.0 × IsName p.1) (Counts ExprInLimits a.0.0.1.count) (both_checked name a.0.0.0) a.0.0.1.items (both_if_valid IsName IsName name a.0.0.0 n x.0) x.1 in
    at_end_if_valid StmtInLimits a.0.1 (map_checked (λ p. stmts.Spawn p.0.0 p.0.1 p.1) (both_checked (both_checked name a.0.0.0) a.0.0.1.items)) r a.2
    (map_if_valid (λ p. (IsName p.0.0 × IsName p.0.1) × Counts ExprInLimits a.0.0.1.count p.1) StmtInLimits (λ p. stmts.Spawn p.0.0 p.0.1 p.1) (both_checked (both_checked name a.0.0.0) a.0.0.1.items)
    (λ p k. record { exprs = all_exprs p.1 k.1.0; names = one_name p.0.0 k.0.0; counts = refl; parses_back = all_again p.1 k.1.0; called = k.0.1 }) k)

commit_made : (name : Checked (List ℕ)) (n : ℕ) (writes : Checked (List (Expr × Expr))) → IfValid IsName name → IfValid (λ ys. AllOf TwoExprs ys × (length ys ≡ n) × (n ≤ 8)) writes → IfValid StmtInLimits (make_commit name writes)
commit_made name n writes g h =
    map_if_valid (λ p. IsName p.0 × (AllOf TwoExprs p.1 × (length p.1 ≡ n) × (n ≤ 8))) StmtInLimits (λ p. stmts.Commit p.0 p.1) (both_checked name writes)
    (λ p k. let e = k.1.1 in let l = k.1.2 in record { exprs = all_sides p.1 k.1.0; names = one_name p.0 k.0; counts = below (length p.1) 8 (omega arith); parses_back = sides_again p.1 k.1.0; called = refl })
    (both_if_valid IsName (λ ys. AllOf TwoExprs ys × (length ys ≡ n) × (n ≤ 8)) name writes g h)

commit_good : (name : Checked (List ℕ)) (ts : List Token) (r : Checked Stmt) → IfValid IsName name → NamesValid ts → set_commit name ts ≡ Some r → IfValid StmtInLimits r
commit_good name [] r n g e =
    let Q : Checked Stmt → Type 0 = λ z. IfValid StmtInLimits z in
    subst Q (some_injective (make_commit name (rates.Valid [])) r e) (commit_made name 0 (rates.Valid []) n (tt, refl, omega arith))
commit_good name (t ∷ ts) r n g e =
    let a = bind_some (comma_list pair_at (t ∷ ts)) (λ writes. if_at_end writes.1 (make_commit name (up_to_eight writes.0))) r e in
    let x = several_good TwoExprs pair_at pair_good (t ∷ ts) a.0 g a.1 in
    at_end_if_valid StmtInLimits a.0.1 (make_commit name (up_to_eight a.0.0)) r a.2 (commit_made name a.0.0.count (up_to_eight a.0.0) n (few_good TwoExprs a.0.0 x.0))

group_good : (make : List (List ℕ × Expr) → Stmt) (ts : List Token) (r : Checked Stmt) → ((pairs : List (List ℕ × Expr)) → AllOf NamedExpr pairs → in_bounds 1 8 (length pairs) ≡ true → StmtInLimits (make pairs)) → NamesValid ts → group_stmt_of make ts ≡ Some r → IfValid StmtInLimits r
group_good make [] r h g e = let Q : Checked Stmt → Type 0 = λ z. IfValid StmtInLimits z in subst Q (some_injective rates.OutOfRange r e) tt
group_good make (t ∷ ts) r h g e =
    let a = bind_some (comma_list assignment_at (t ∷ ts)) (λ pairs. if_at_end pairs.1 (map_checked make (up_to_eight pairs.0))) r e in
    let x = several_good NamedExpr assignment_at named_good (t ∷ ts) a.0 g a.1 in
    at_end_if_valid StmtInLimits a.0.1 (map_checked make (up_to_eight a.0.0)) r a.2
    (map_if_valid (λ ys. AllOf NamedExpr ys × (length ys ≡ a.0.0.count) × (a.0.0.count ≤ 8)) StmtInLimits make (up_to_eight a.0.0)
    (λ ys k. h ys k.0 (one_to_eight (length ys) a.0.0.count k.1 x.1 k.2)) (few_good NamedExpr a.0.0 x.0))

pair_stmt_good : (make : Expr → Expr → Stmt) (ts : List Token) (r : Checked Stmt) → ((x y : Expr) → ExprInLimits x → ExprInLimits y → StmtInLimits (make x y)) → NamesValid ts → pair_stmt_of make ts ≡ Some r → IfValid StmtInLimits r
pair_stmt_good make ts r h g e =
    let a = bind_some (expr_at ts) (λ x. expect marks.Comma x.1 >>= λ rest. expr_at rest >>= λ y. if_at_end y.1 (map_checked (λ p. make p.0 p.1) (both_checked x.0 y.0))) r e in
    let n = expr_in_limits ts a.0 g a.1 in
    let b = bind_some (expect marks.Comma a.0.1) (λ rest. expr_at rest >>= λ y. if_at_end y.1 (map_checked (λ p. make p.0 p.1) (both_checked a.0.0 y.0))) r a.2 in
    let s = need_good marks.Comma a.0.1 b.0 n.1 b.1 in
    let c = bind_some (expr_at b.0) (λ y. if_at_end y.1 (map_checked (λ p. make p.0 p.1) (both_checked a.0.0 y.0))) r b.2 in
    let x = expr_in_limits b.0 c.0 s c.1 in
    at_end_if_valid StmtInLimits c.0.1 (map_checked (λ p. make p.0 p.1) (both_checked a.0.0 c.0.0)) r c.2
    (map_if_valid TwoExprs StmtInLimits (λ p. make p.0 p.1) (both_checked a.0.0 c.0.0) (λ p k. h p.0 p.1 k.0 k.1) (both_if_valid ExprInLimits ExprInLimits a.0.0 c.0.0 n.0 x.0))

one_stmt_good : (make : Expr → Stmt) (ts : List Token) (r : Checked Stmt) → ((x : Expr) → ExprInLimits x → StmtInLimits (make x)) → NamesValid ts → expr_stmt_of make ts ≡ Some r → IfValid StmtInLimits r
one_stmt_good make ts r h g e =
    let a = bind_some (expr_at ts) (λ x. if_at_end x.1 (map_checked make x.0)) r e in
    let n = expr_in_limits ts a.0 g a.1 in
    at_end_if_valid StmtInLimits a.0.1 (map_checked make a.0.0) r a.2 (map_if_valid ExprInLimits StmtInLimits make a.0.0 h n.0)

drop_good : (ts : List Token) → NamesValid ts → NamesValid (drop 1 ts)
drop_good [] g = g
drop_good (t ∷ ts) g = g.1

setter_good : (s : Setter) (ts : List Token) → NamesValid ts → NamesValid (setter_by s ts).1
setter_good setters.Value ts g = g
setter_good setters.Read ts g = drop_good ts g
setter_good setters.Spawn ts g = drop_good ts g
setter_good setters.Join ts g = drop_good ts g
setter_good setters.Pop ts g = drop_good ts g
setter_good setters.Commit ts g = drop_good ts g

set_good : (name : Checked (List ℕ)) (q : Setter × List Token) (r : Checked Stmt) → IfValid IsName name → NamesValid q.1 → set_by name q ≡ Some r → IfValid StmtInLimits r
set_good name (setters.Value, ts) r n g e = value_good stmts.Let name ts r (λ w x h k. record { exprs = one_expr x k; names = one_name w h; counts = refl; parses_back = (k.parses_back, tt); called = refl }) n g e
set_good name (setters.Read, ts) r n g e = value_good stmts.Read name ts r (λ w x h k. record { exprs = one_expr x k; names = one_name w h; counts = refl; parses_back = (k.parses_back, tt); called = refl }) n g e
set_good name (setters.Join, ts) r n g e = value_good stmts.Join name ts r (λ w x h k. record { exprs = one_expr x k; names = one_name w h; counts = refl; parses_back = (k.parses_back, tt); called = refl }) n g e
set_good name (setters.Pop, ts) r n g e = value_good stmts.Pop name ts r (λ w x h k. record { exprs = one_expr x k; names = one_name w h; counts = refl; parses_back = (k.parses_back, tt); called = refl }) n g e
set_good name (setters.Spawn, ts) r n g e = spawn_good name ts r n g e
set_good name (setters.Commit, ts) r n g e = commit_good name ts r n g e

let_good : (ts : List Token) (r : Checked Stmt) → NamesValid ts → let_of ts ≡ Some r → IfValid StmtInLimits r
let_good ts r g e =
    let a = bind_some (name_at ts) (λ name. expect marks.Assign name.1 >>= λ rest. set_by name.0 (setter_at rest)) r e in
    let n = name_good ts a.0 g a.1 in
    let b = bind_some (expect marks.Assign a.0.1) (λ rest. set_by a.0.0 (setter_at rest)) r a.2 in
    let s = need_good marks.Assign a.0.1 b.0 n.1 b.1 in
    set_good a.0.0 (setter_at b.0) r n.0 (setter_good (setter_of (keyword_at b.0)) b.0 s) b.2

all_by : (b : Bool) (ts : List Token) (r : Checked Stmt) → NamesValid ts → cond b (group_stmt_of stmts.ReadAll ts) None ≡ Some r → IfValid StmtInLimits r
all_by true ts r g e = group_good stmts.ReadAll ts r (λ pairs h k. record { exprs = all_seconds pairs h; names = all_names pairs h; counts = k; parses_back = seconds_again pairs h; called = refl }) g e
all_by false ts r g e = absurd (cc)

all_good : (ts : List Token) (r : Checked Stmt) → NamesValid ts → read_all_of ts ≡ Some r → IfValid StmtInLimits r
all_good [] r g e = absurd (cc)
all_good (tokens.Name x ∷ ts) r g e = all_by (bytes_eq x (codes "all")) ts r g.1 e
all_good (tokens.Numeral n ∷ ts) r g e = absurd (cc)
all_good (tokens.Dotted n ∷ ts) r g e = absurd (cc)
all_good (tokens.Text n ∷ ts) r g e = absurd (cc)
all_good (tokens.Keyword n ∷ ts) r g e = absurd (cc)
all_good (tokens.Op n ∷ ts) r g e = absurd (cc)
all_good (tokens.Minus n ∷ ts) r g e = absurd (cc)
all_good (tokens.Punctuation n ∷ ts) r g e = absurd (cc)

keyed_good : (key : Keyword) (ts : List Token) (r : Checked Stmt) → NamesValid ts → behind_keyword key ts ≡ Some r → IfValid StmtInLimits r
keyed_good keys.Let ts r g e = let_good ts r g e
keyed_good keys.Read ts r g e = all_good ts r g e
keyed_good keys.Write ts r g e = pair_stmt_good stmts.Write ts r (λ x y h k. record { exprs = two_exprs x y h k; names = refl; counts = refl; parses_back = (h.parses_back, (k.parses_back, tt)); called = refl }) g e
keyed_good keys.Push ts r g e = pair_stmt_good stmts.Push ts r (λ x y h k. record { exprs = two_exprs x y h k; names = refl; counts = refl; parses_back = (h.parses_back, (k.parses_back, tt)); called = refl }) g e
keyed_good keys.Begin ts r g e = group_good stmts.Begin ts r (λ pairs h k. record { exprs = all_seconds pairs h; names = all_names pairs h; counts = k; parses_back = seconds_again pairs h; called = refl }) g e
keyed_good keys.If ts r g e = one_stmt_good stmts.If ts r (λ x h. record { exprs = one_expr x h; names = refl; counts = refl; parses_back = (h.parses_back, tt); called = refl }) g e
keyed_good keys.While ts r g e = one_stmt_good stmts.While ts r (λ x h. record { exprs = one_expr x h; names = refl; counts = refl; parses_back = (h.parses_back, tt); called = refl }) g e
keyed_good keys.Return ts r g e = one_stmt_good stmts.Return ts r (λ x h. record { exprs = one_expr x h; names = refl; counts = refl; parses_back = (h.parses_back, tt); called = refl }) g e
keyed_good keys.Else ts r g e = at_end_if_valid StmtInLimits ts (rates.Valid stmts.Else) r e (record { exprs = refl; names = refl; counts = refl; parses_back = tt; called = refl })
keyed_good keys.End ts r g e = at_end_if_valid StmtInLimits ts (rates.Valid stmts.End) r e (record { exprs = refl; names = refl; counts = refl; parses_back = tt; called = refl })
keyed_good keys.Function ts r g e = absurd (cc)
keyed_good keys.Spawn ts r g e = absurd (cc)
keyed_good keys.Join ts r g e = absurd (cc)
keyed_good keys.Pop ts r g e = absurd (cc)
keyed_good keys.Commit ts r g e = absurd (cc)
keyed_good keys.Not ts r g e = absurd (cc)
keyed_good keys.Nothing ts r g e = absurd (cc)
keyed_good keys.TextOf ts r g e = absurd (cc)
keyed_good keys.Len ts r g e = absurd (cc)

pub stmt_in_limits : (ts : List Token) (r : Checked Stmt) → NamesValid ts → stmt_of ts ≡ Some r → IfValid StmtInLimits r
stmt_in_limits [] r g e = absurd (cc)
stmt_in_limits (tokens.Keyword key ∷ ts) r g e = keyed_good key ts r g.1 e
stmt_in_limits (tokens.Numeral n ∷ ts) r g e = absurd (cc)
stmt_in_limits (tokens.Dotted n ∷ ts) r g e = absurd (cc)
stmt_in_limits (tokens.Text n ∷ ts) r g e = absurd (cc)
stmt_in_limits (tokens.Name n ∷ ts) r g e = absurd (cc)
stmt_in_limits (tokens.Op n ∷ ts) r g e = absurd (cc)
stmt_in_limits (tokens.Minus n ∷ ts) r g e = absurd (cc)
stmt_in_limits (tokens.Punctuation n ∷ ts) r g e = absurd (cc)
