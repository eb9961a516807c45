-- Printed statements are cut into their tokens, line by line.
use Rattle.std.proofs.Common.{◌≡◌, ℕ, zero, suc, ◌+◌, ◌<◌, ◌^◌, Bool, true, false, cond, eqb, ltb, leb, List, [], ◌∷◌, ◌++◌, length, Some, None, refl, sym, ap, ◌∙◌, subst, append_assoc, arith, pos, negsuc, ℤ}
use Rattle.std.specs.Prelude.{◌&&◌, ◌||◌, not, bytes_eq, codes}
use Rattle.std.specs.List.{list_all, list_any}
use Rattle.std.specs.Char.{is_ascii_digit}
use Rattle.std.specs.Str.{all_ascii_digits}
use Rattle.std.specs.Str.Parse.{digits_value}
use Rattle.std.specs.Fmt.{decimal, signed_decimal}
use Rattle.std.proofs.lemmas.Bool.Decides.{nat_tests}
use Rattle.std.proofs.lemmas.Int.{ints}
use Rattle.std.proofs.lemmas.List.{append-nil}
use denote.Hole.Carrier.{hidden}
use Rattle.lb_base.specs.Numeral.{is_numeral}
use Rattle.lb_base.specs.Quoted.{quoted, escape, escaped}
use Rattle.lb_base.proofs.NumeralLaws.{numeral-reads_back}
use Rattle.boki_types.specs.declared.expr.BinOp.{BinOp}
use Rattle.boki_types.specs.declared.expr.BinOp.TheVariants as ops
use Rattle.boki_types.specs.declared.expr.Expr.{Expr, more_of-Expr, end_of-Expr}
use Rattle.boki_types.specs.declared.expr.Expr.TheVariants as exprs
use Rattle.boki_types.specs.declared.expr.Expr.TheBlock.{shape-the_row-Expr-0, hidden-the_row-Expr-0}
use Rattle.boki_model.specs.Bodies.{is_letter as letter, is_digit as digit, has_identifier_characters, is_identifier, reserved_words, is_i64}
use Rattle.line_text.specs.declared.token.Keyword.TheVariants as keys
use Rattle.line_text.specs.declared.token.Punctuation.TheVariants as marks
use Rattle.line_text.specs.declared.token.Token.{Token}
use Rattle.line_text.specs.declared.token.Token.TheVariants as tokens
use Rattle.line_text.specs.Tokens.{keyword_of, word_token, double_symbol, single_symbol, tokens_in}
use Rattle.script_lang.specs.Expressions.{precedence, left_precedence}
use Rattle.script_lang.specs.Printed.{op_text, paren_text, expr_text, top_expr_text, each_behind_comma, comma_joined, assignment_text, write_pair_text, name_text, commit_text, stmt_text, indent}
use Rattle.boki_types.specs.declared.program.Stmt.{Stmt}
use Rattle.boki_types.specs.declared.program.Stmt.TheVariants as stmts
use Rattle.boki_model.specs.Script.{pair_names, pair_expressions, both_sides}
use Rattle.line_text.specs.declared.lines.LexedLine.TheVariants as lines
use Rattle.line_text.specs.Lines.{lexed_line, line_of_tokens}
use Rattle.script_lang.proofs.ExprsInLimits.{is_expr_in_limits}
use Rattle.script_lang.proofs.StmtsInLimits.{AllOf, IsName, StmtInLimits, has_valid_sizes}
use Rattle.script_lang.proofs.ExprTextLexes.{Lexed, none, space, first, is_safe, Lexes, word_lexed, name_lexed, expr_lexed, lexed_in, open_lexed, close_lexed}
use Rattle.script_lang.proofs.StmtTokensParseBack.{more_tokens, list_tokens, whole_tokens, name_tokens, named_tokens, pair_tokens, set_tokens, call_tokens, stmt_tokens}
use Rattle.boki_model.specs.Plans.{operand_count, nesting_depth}

split_and : (a b : Bool) → (a && b) ≡ true → (a ≡ true) × (b ≡ true)
split_and true b h = (refl, h)
split_and false b h = absurd (cc)

assign_first : (rest : List ℕ) (ts : List Token) → Lexed rest ts → Lexed (61 ∷ 32 ∷ rest) (tokens.Punctuation marks.Assign ∷ ts)
unfolding double_symbol single_symbol
assign_first rest ts d = first refl refl (omega arith) (space d)

comma_first : (rest : List ℕ) (ts : List Token) → Lexed rest ts → Lexed (44 ∷ 32 ∷ rest) (tokens.Punctuation marks.Comma ∷ ts)
unfolding double_symbol single_symbol
comma_first rest ts d = first refl refl (omega arith) (space d)

word_space : (w : List ℕ) (t : Token) (text : List ℕ) (us : List Token) → word_token w ≡ t → has_identifier_characters w ≡ true → Lexes text us → Lexes (w ++ (32 ∷ text)) (t ∷ us)
word_space w t text us e i h rest ts s d =
    let P : List ℕ → Type 0 = λ l. Lexed l (t ∷ (us ++ ts)) in
    subst P (sym (append_assoc w (32 ∷ text) rest)) (word_lexed w t (32 ∷ (text ++ rest)) (us ++ ts) e i refl (space (h rest ts s d)))

name_equals : (x text : List ℕ) (us : List Token) → IsName x → Lexes text us → Lexes (x ++ (codes " = " ++ text)) (tokens.Name x ∷ tokens.Punctuation marks.Assign ∷ us)
name_equals x text us n h rest ts s d =
    let P : List ℕ → Type 0 = λ l. Lexed l (tokens.Name x ∷ tokens.Punctuation marks.Assign ∷ (us ++ ts)) in
    subst P (sym (append_assoc x (codes " = " ++ text) rest))
    (name_lexed x (32 ∷ 61 ∷ 32 ∷ (text ++ rest)) (tokens.Punctuation marks.Assign ∷ (us ++ ts)) n refl (space (assign_first (text ++ rest) (us ++ ts) (h rest ts s d))))

set_lexed : (x text : List ℕ) (us : List Token) → IsName x → Lexes text us → Lexes (codes "let " ++ (x ++ (codes " = " ++ text))) (set_tokens x us)
unfolding word_token keyword_of
set_lexed x text us n h = word_space (codes "let") (tokens.Keyword keys.Let) (x ++ (codes " = " ++ text)) (tokens.Name x ∷ tokens.Punctuation marks.Assign ∷ us) refl refl (name_equals x text us n h)

-- two with something between them
between : (left middle right : List ℕ) (us vs : List Token) (t : Token) → Lexes left us → Lexes right vs → ((r : List ℕ) (ws : List Token) → Lexed r ws → Lexed (middle ++ r) (t ∷ ws)) → ((r : List ℕ) → is_safe (middle ++ r) ≡ true) → Lexes (left ++ (middle ++ right)) (us ++ t ∷ vs)
between left middle right us vs t h k m safe rest ts s d =
    let P : List ℕ → Type 0 = λ l. Lexed l ((us ++ t ∷ vs) ++ ts) in
    let Q : List Token → Type 0 = λ l. Lexed (left ++ (middle ++ (right ++ rest))) l in
    let same : (left ++ (middle ++ right)) ++ rest ≡ left ++ (middle ++ (right ++ rest)) =
    append_assoc left (middle ++ right) rest ∙ ap (λ l. left ++ l) (append_assoc middle right rest) in
    subst P (sym same)
    (subst Q (sym (append_assoc us (t ∷ vs) ts))
    (h (middle ++ (right ++ rest)) (t ∷ (vs ++ ts)) (safe (right ++ rest)) (m (right ++ rest) (vs ++ ts) (k rest ts s d))))

comma_lexed : (left right : List ℕ) (us vs : List Token) → Lexes left us → Lexes right vs → Lexes (left ++ (codes ", " ++ right)) (us ++ tokens.Punctuation marks.Comma ∷ vs)
comma_lexed left right us vs h k = between left (codes ", ") right us vs (tokens.Punctuation marks.Comma) h k comma_first (λ r. refl)

equals_lexed : (left right : List ℕ) (us vs : List Token) → Lexes left us → Lexes right vs → Lexes (left ++ (codes " = " ++ right)) (us ++ tokens.Punctuation marks.Assign ∷ vs)
equals_lexed left right us vs h k = between left (codes " = ") right us vs (tokens.Punctuation marks.Assign) h k (λ r ws d. space (assign_first r ws d)) (λ r. refl)

safe_behind : {A : Type 0} (print : A → List ℕ) (xs : List A) (rest : List ℕ) → is_safe rest ≡ true → is_safe (each_behind_comma print xs ++ rest) ≡ true
safe_behind print [] rest s = s
safe_behind print (x ∷ xs) rest s = refl

abbrev LexesEach : {A : Type 0} → (A → List ℕ) → (A → List Token) → A → Type 0
LexesEach print tp x = Lexes (print x) (tp x)

piece_lexed : {A : Type 0} (print : A → List ℕ) (tp : A → List Token) (x : A) (xs : List A) → Lexes (print x) (tp x) → Lexes (each_behind_comma print xs) (more_tokens tp xs) → Lexes (print x ++ each_behind_comma print xs) (tp x ++ more_tokens tp xs)
piece_lexed print tp x xs h k rest ts s d =
    let P : List ℕ → Type 0 = λ l. Lexed l ((tp x ++ more_tokens tp xs) ++ ts) in
    let Q : List Token → Type 0 = λ l. Lexed (print x ++ (each_behind_comma print xs ++ rest)) l in
    subst P (sym (append_assoc (print x) (each_behind_comma print xs) rest))
    (subst Q (sym (append_assoc (tp x) (more_tokens tp xs) ts))
    (h (each_behind_comma print xs ++ rest) (more_tokens tp xs ++ ts) (safe_behind print xs rest s) (k rest ts s d)))

more_lexed : {A : Type 0} (print : A → List ℕ) (tp : A → List Token) (xs : List A) → AllOf (LexesEach print tp) xs → Lexes (each_behind_comma print xs) (more_tokens tp xs)
more_lexed print tp [] g rest ts s d = d
more_lexed print tp (x ∷ xs) g rest ts s d =
    comma_first ((print x ++ each_behind_comma print xs) ++ rest) ((tp x ++ more_tokens tp xs) ++ ts) (piece_lexed print tp x xs g.0 (more_lexed print tp xs g.1) rest ts s d)

listed_lexed : {A : Type 0} (print : A → List ℕ) (tp : A → List Token) (xs : List A) → AllOf (LexesEach print tp) xs → Lexes (comma_joined print xs) (list_tokens tp xs)
listed_lexed print tp [] g = λ rest ts s d. d
listed_lexed print tp (x ∷ xs) g = piece_lexed print tp x xs g.0 (more_lexed print tp xs g.1)

-- a name, and a list in parentheses
call_lexed : (f text : List ℕ) (us : List Token) → IsName f → Lexes text us → Lexes (f ++ (codes "(" ++ (text ++ codes ")"))) (call_tokens f us)
call_lexed f text us n h rest ts s d =
    let P : List Token → Type 0 = λ l. Lexed ((f ++ (40 ∷ (text ++ codes ")"))) ++ rest) (tokens.Name f ∷ tokens.Punctuation marks.Open ∷ l) in
    let Q : List ℕ → Type 0 = λ l. Lexed l (tokens.Name f ∷ tokens.Punctuation marks.Open ∷ (us ++ tokens.Punctuation marks.Close ∷ ts)) in
    let same : (f ++ (40 ∷ (text ++ codes ")"))) ++ rest ≡ f ++ (40 ∷ (text ++ (41 ∷ rest))) =
    append_assoc f (40 ∷ (text ++ codes ")")) rest ∙ ap (λ l. f ++ (40 ∷ l)) (append_assoc text (codes ")") rest) in
    subst P (sym (append_assoc us (tokens.Punctuation marks.Close ∷ []) ts))
    (subst Q (sym same)
    (name_lexed f (40 ∷ (text ++ (41 ∷ rest))) _ n refl (open_lexed _ _ (h (41 ∷ rest) (tokens.Punctuation marks.Close ∷ ts) refl (close_lexed rest ts d)))))

fine_of : (x : Expr) → has_valid_sizes x ≡ true → is_expr_in_limits x ≡ true
fine_of x h = (split_and (leb (operand_count x) 64 && leb (nesting_depth x) 32) (is_expr_in_limits x) h).1

whole_lexed : (x : Expr) → has_valid_sizes x ≡ true → Lexes (top_expr_text x) (whole_tokens x)
whole_lexed x h = expr_lexed x 0 (fine_of x h)

wholes_lexed : (xs : List Expr) → list_all has_valid_sizes xs ≡ true → AllOf (LexesEach top_expr_text whole_tokens) xs
wholes_lexed [] h = tt
wholes_lexed (x ∷ xs) h = let k = split_and (has_valid_sizes x) (list_all has_valid_sizes xs) h in (whole_lexed x k.0, wholes_lexed xs k.1)

nameds_lexed : (ps : List (List ℕ × Expr)) → list_all is_identifier (pair_names ps) ≡ true → list_all has_valid_sizes (pair_expressions ps) ≡ true → AllOf (LexesEach assignment_text named_tokens) ps
nameds_lexed [] n h = tt
nameds_lexed (p ∷ ps) n h =
    let i = split_and (is_identifier p.0) (list_all is_identifier (pair_names ps)) n in
    let k = split_and (has_valid_sizes p.1) (list_all has_valid_sizes (pair_expressions ps)) h in
    (name_equals p.0 (top_expr_text p.1) (whole_tokens p.1) i.0 (whole_lexed p.1 k.0), nameds_lexed ps i.1 k.1)

pairs_lexed : (ps : List (Expr × Expr)) → list_all has_valid_sizes (both_sides ps) ≡ true → AllOf (LexesEach write_pair_text pair_tokens) ps
pairs_lexed [] h = tt
pairs_lexed (p ∷ ps) h =
    let i = split_and (has_valid_sizes p.0) (has_valid_sizes p.1 && list_all has_valid_sizes (both_sides ps)) h in
    let k = split_and (has_valid_sizes p.1) (list_all has_valid_sizes (both_sides ps)) i.1 in
    (equals_lexed (top_expr_text p.0) (top_expr_text p.1) (whole_tokens p.0) (whole_tokens p.1) (whole_lexed p.0 i.0) (whole_lexed p.1 k.0), pairs_lexed ps k.1)

names_lexed : (ws : List (List ℕ)) → AllOf IsName ws → AllOf (LexesEach name_text name_tokens) ws
names_lexed [] g = tt
names_lexed (w ∷ ws) g = ((λ rest ts s d. name_lexed w rest ts g.0 s d), names_lexed ws g.1)

one_of_two : (x : Expr) (xs : List Expr) → list_all has_valid_sizes (x ∷ xs) ≡ true → (has_valid_sizes x ≡ true) × (list_all has_valid_sizes xs ≡ true)
one_of_two x xs h = split_and (has_valid_sizes x) (list_all has_valid_sizes xs) h

first_name : (w : List ℕ) → list_all is_identifier (w ∷ []) ≡ true → IsName w
first_name w h = (split_and (is_identifier w) true h).0

commit_lexed : (x : List ℕ) (ps : List (Expr × Expr)) → IsName x → list_all has_valid_sizes (both_sides ps) ≡ true → Lexes (commit_text x ps) (set_tokens x (tokens.Keyword keys.Commit ∷ list_tokens pair_tokens ps))
unfolding word_token keyword_of
commit_lexed x [] n h = set_lexed x (codes "commit") (tokens.Keyword keys.Commit ∷ []) n (λ rest ts s d. word_lexed (codes "commit") (tokens.Keyword keys.Commit) rest ts refl refl s d)
commit_lexed x (p ∷ ps) n h = set_lexed x (codes "commit " ++ comma_joined write_pair_text (p ∷ ps)) (tokens.Keyword keys.Commit ∷ list_tokens pair_tokens (p ∷ ps)) n (word_space (codes "commit") (tokens.Keyword keys.Commit) (comma_joined write_pair_text (p ∷ ps)) (list_tokens pair_tokens (p ∷ ps)) refl refl (listed_lexed write_pair_text pair_tokens (p ∷ ps) (pairs_lexed (p ∷ ps) h)))

pub stmt_lexed : (l : Stmt) → StmtInLimits l → Lexes (stmt_text l) (stmt_tokens l)
unfolding word_token keyword_of
stmt_lexed (stmts.Let x a) g = set_lexed x (top_expr_text a) (whole_tokens a) (first_name x g.names) (whole_lexed a (one_of_two a [] g.exprs).0)
stmt_lexed (stmts.Write a b) g = word_space (codes "write") (tokens.Keyword keys.Write) (top_expr_text a ++ (codes ", " ++ top_expr_text b)) _ refl refl (comma_lexed (top_expr_text a) (top_expr_text b) (whole_tokens a) (whole_tokens b) (whole_lexed a (one_of_two a (b ∷ []) g.exprs).0) (whole_lexed b (one_of_two b [] (one_of_two a (b ∷ []) g.exprs).1).0))
stmt_lexed (stmts.Push a b) g = word_space (codes "push") (tokens.Keyword keys.Push) (top_expr_text a ++ (codes ", " ++ top_expr_text b)) _ refl refl (comma_lexed (top_expr_text a) (top_expr_text b) (whole_tokens a) (whole_tokens b) (whole_lexed a (one_of_two a (b ∷ []) g.exprs).0) (whole_lexed b (one_of_two b [] (one_of_two a (b ∷ []) g.exprs).1).0))
stmt_lexed (stmts.Spawn x f es) g = set_lexed x (codes "spawn " ++ (f ++ (codes "(" ++ (comma_joined top_expr_text es ++ codes ")")))) (tokens.Keyword keys.Spawn ∷ call_tokens f (list_tokens whole_tokens es)) (first_name x g.names) (word_space (codes "spawn") (tokens.Keyword keys.Spawn) (f ++ (codes "(" ++ (comma_joined top_expr_text es ++ codes ")"))) (call_tokens f (list_tokens whole_tokens es)) refl refl (call_lexed f (comma_joined top_expr_text es) (list_tokens whole_tokens es) g.called (listed_lexed top_expr_text whole_tokens es (wholes_lexed es g.exprs))))
stmt_lexed (stmts.Begin ps) g = word_space (codes "begin") (tokens.Keyword keys.Begin) (comma_joined assignment_text ps) (list_tokens named_tokens ps) refl refl (listed_lexed assignment_text named_tokens ps (nameds_lexed ps g.names g.exprs))
stmt_lexed (stmts.Commit x ps) g = commit_lexed x ps (first_name x g.names) g.exprs
stmt_lexed stmts.Else g = λ rest ts s d. word_lexed (codes "else") (tokens.Keyword keys.Else) rest ts refl refl s d
stmt_lexed stmts.End g = λ rest ts s d. word_lexed (codes "end") (tokens.Keyword keys.End) rest ts refl refl s d
stmt_lexed (stmts.ReadAll ps) g = word_space (codes "read") (tokens.Keyword keys.Read) (codes "all " ++ comma_joined assignment_text ps) (tokens.Name (codes "all") ∷ list_tokens named_tokens ps) refl refl (word_space (codes "all") (tokens.Name (codes "all")) (comma_joined assignment_text ps) (list_tokens named_tokens ps) refl refl (listed_lexed assignment_text named_tokens ps (nameds_lexed ps g.names g.exprs)))
stmt_lexed (stmts.Read x a) g = set_lexed x (codes "read " ++ top_expr_text a) (tokens.Keyword keys.Read ∷ whole_tokens a) (first_name x g.names) (word_space (codes "read") (tokens.Keyword keys.Read) (top_expr_text a) (whole_tokens a) refl refl (whole_lexed a (one_of_two a [] g.exprs).0))
stmt_lexed (stmts.Join x a) g = set_lexed x (codes "join " ++ top_expr_text a) (tokens.Keyword keys.Join ∷ whole_tokens a) (first_name x g.names) (word_space (codes "join") (tokens.Keyword keys.Join) (top_expr_text a) (whole_tokens a) refl refl (whole_lexed a (one_of_two a [] g.exprs).0))
stmt_lexed (stmts.Pop x a) g = set_lexed x (codes "pop " ++ top_expr_text a) (tokens.Keyword keys.Pop ∷ whole_tokens a) (first_name x g.names) (word_space (codes "pop") (tokens.Keyword keys.Pop) (top_expr_text a) (whole_tokens a) refl refl (whole_lexed a (one_of_two a [] g.exprs).0))
stmt_lexed (stmts.If a) g = word_space (codes "if") (tokens.Keyword keys.If) (top_expr_text a) (whole_tokens a) refl refl (whole_lexed a (one_of_two a [] g.exprs).0)
stmt_lexed (stmts.While a) g = word_space (codes "while") (tokens.Keyword keys.While) (top_expr_text a) (whole_tokens a) refl refl (whole_lexed a (one_of_two a [] g.exprs).0)
stmt_lexed (stmts.Return a) g = word_space (codes "return") (tokens.Keyword keys.Return) (top_expr_text a) (whole_tokens a) refl refl (whole_lexed a (one_of_two a [] g.exprs).0)

-- a whole line
whole_line : (text : List ℕ) (us : List Token) → Lexes text us → tokens_in text ≡ Some us
whole_line text us h =
    let d = h [] [] refl none in
    let P : List ℕ → Type 0 = λ l. Lexed l (us ++ []) in
    let Q : List Token → Type 0 = λ l. Lexed text l in
    lexed_in text us (subst Q (append-nil us) (subst P (append-nil text) d))

commit_begins : (x : List ℕ) (ps : List (Expr × Expr)) → lexed_line (commit_text x ps) ≡ line_of_tokens (tokens_in (commit_text x ps))
commit_begins x [] = refl
commit_begins x (p ∷ ps) = refl

begins : (l : Stmt) → lexed_line (stmt_text l) ≡ line_of_tokens (tokens_in (stmt_text l))
begins (stmts.Let x a) = refl
begins (stmts.Read x a) = refl
begins (stmts.Write a b) = refl
begins (stmts.Spawn x f es) = refl
begins (stmts.Join x a) = refl
begins (stmts.Push a b) = refl
begins (stmts.Pop x a) = refl
begins (stmts.Begin ps) = refl
begins (stmts.Commit x ps) = commit_begins x ps
begins (stmts.If a) = refl
begins stmts.Else = refl
begins (stmts.While a) = refl
begins stmts.End = refl
begins (stmts.Return a) = refl
begins (stmts.ReadAll ps) = refl

indented : (n : ℕ) (text : List ℕ) → lexed_line (indent n ++ text) ≡ lexed_line text
indented zero text = refl
indented (suc n) text = indented n text

pub stmt_line : (n : ℕ) (l : Stmt) → StmtInLimits l → lexed_line (indent n ++ stmt_text l) ≡ lines.Tokens (stmt_tokens l)
stmt_line n l g = indented n (stmt_text l) ∙ begins l ∙ ap line_of_tokens (whole_line (stmt_text l) (stmt_tokens l) (stmt_lexed l g))

pub head_line : (f : List ℕ) (ps : List (List ℕ)) → IsName f → AllOf IsName ps → lexed_line (codes "function " ++ (f ++ (codes "(" ++ (comma_joined name_text ps ++ codes ")")))) ≡ lines.Tokens (tokens.Keyword keys.Function ∷ call_tokens f (list_tokens name_tokens ps))
unfolding word_token keyword_of
head_line f ps n g =
    ap line_of_tokens (whole_line (codes "function " ++ (f ++ (codes "(" ++ (comma_joined name_text ps ++ codes ")")))) (tokens.Keyword keys.Function ∷ call_tokens f (list_tokens name_tokens ps))
    (word_space (codes "function") (tokens.Keyword keys.Function) (f ++ (codes "(" ++ (comma_joined name_text ps ++ codes ")"))) (call_tokens f (list_tokens name_tokens ps)) refl refl
    (call_lexed f (comma_joined name_text ps) (list_tokens name_tokens ps) n (listed_lexed name_text name_tokens ps (names_lexed ps g)))))

-- No line feed stands in a line.
abbrev pub no_feed : List ℕ → Bool
no_feed text = list_all (λ c. not (eqb c 10)) text

both_true : (a b : Bool) → a ≡ true → b ≡ true → (a && b) ≡ true
both_true a b h k = rw (h, k) refl

pub feed_append : (a b : List ℕ) → no_feed a ≡ true → no_feed b ≡ true → no_feed (a ++ b) ≡ true
feed_append [] b h k = k
feed_append (c ∷ cs) b h k =
    let s = split_and (not (eqb c 10)) (no_feed cs) h in both_true _ _ s.0 (feed_append cs b s.1 k)

feed_digit : (c : ℕ) → is_ascii_digit c ≡ true → not (eqb c 10) ≡ true
feed_digit c h = grind (arith, nat_tests, h)

feed_digits : (w : List ℕ) → all_ascii_digits w ≡ true → no_feed w ≡ true
feed_digits [] h = refl
feed_digits (c ∷ cs) h = let k = split_and (is_ascii_digit c) (all_ascii_digits cs) h in both_true _ _ (feed_digit c k.0) (feed_digits cs k.1)

feed_letter : (c : ℕ) → (letter c || digit c) ≡ true → not (eqb c 10) ≡ true
feed_letter c h = grind (arith, nat_tests, h)

feed_word : (w : List ℕ) → list_all (λ d. letter d || digit d) w ≡ true → no_feed w ≡ true
feed_word [] h = refl
feed_word (c ∷ cs) h = let k = split_and (letter c || digit c) (list_all (λ d. letter d || digit d) cs) h in both_true _ _ (feed_letter c k.0) (feed_word cs k.1)

or_left : (a b : Bool) → a ≡ true → (a || b) ≡ true
or_left a b h = rw h refl

pub feed_name : (w : List ℕ) → IsName w → no_feed w ≡ true
feed_name [] h = absurd (cc)
feed_name (c ∷ cs) h =
    let k = split_and (has_identifier_characters (c ∷ cs) && leb (length (c ∷ cs)) 32) (not (list_any (bytes_eq (c ∷ cs)) reserved_words)) h in
    let i = split_and (has_identifier_characters (c ∷ cs)) (leb (length (c ∷ cs)) 32) k.0 in
    let j = split_and (letter c) (list_all (λ d. letter d || digit d) cs) i.0 in
    both_true _ _ (feed_letter c (or_left (letter c) (digit c) j.0)) (feed_word cs j.1)

feed_escape : (c : ℕ) (s t : Bool) → (eqb c 34 || eqb c 92) ≡ s → eqb c 10 ≡ t → no_feed (cond s (92 ∷ c ∷ []) (cond t (92 ∷ 110 ∷ []) (c ∷ []))) ≡ true
feed_escape c true t e f = let h : not (eqb c 10) ≡ true = grind (arith, nat_tests, e) in both_true true _ refl (both_true _ _ h refl)
feed_escape c false true e f = refl
feed_escape c false false e f = let h : not (eqb c 10) ≡ true = ap (λ b. not b) f in both_true _ _ h refl

feed_escaped : (w : List ℕ) → no_feed (escaped w) ≡ true
feed_escaped [] = refl
feed_escaped (c ∷ cs) = feed_append (escape c) (escaped cs) (feed_escape c (eqb c 34 || eqb c 92) (eqb c 10) refl refl) (feed_escaped cs)

pub feed_quoted : (w : List ℕ) → no_feed (quoted w) ≡ true
feed_quoted w = feed_append (escaped w) (34 ∷ []) (feed_escaped w) refl

numeral_digits : (w : List ℕ) → is_numeral w ≡ true → all_ascii_digits w ≡ true
numeral_digits w h = (split_and (ltb 0 (length w)) (all_ascii_digits w) (split_and (ltb 0 (length w) && all_ascii_digits w) _ h).0).1

from_num : (w : List ℕ) (n : ℕ) (b : Bool) → (is_numeral w && ltb (digits_value 10 w) (2 ^ 64)) ≡ b → cond b (Some (digits_value 10 w)) None ≡ Some n → is_numeral w ≡ true
from_num w n true e h = (split_and _ _ e).0
from_num w n false e h = absurd (cc)

pub feed_decimal : (n : ℕ) → n < 2 ^ 64 → no_feed (decimal n) ≡ true
feed_decimal n l =
    let w = decimal n in
    feed_digits w (numeral_digits w (from_num w n (is_numeral w && ltb (digits_value 10 w) (2 ^ 64)) refl (numeral-reads_back n l)))

pub feed_int : (z : ℤ) → is_i64 z ≡ true → no_feed (signed_decimal z) ≡ true
feed_int (pos n) f = let h : ltb n (2 ^ 63) ≡ true = f in feed_decimal n (grind (arith, nat_tests, h))
feed_int (negsuc n) f = feed_decimal (suc n) (grind (arith, nat_tests, ints, f))

feed_wrapped : (b : Bool) (text : List ℕ) → no_feed text ≡ true → no_feed (paren_text b text) ≡ true
feed_wrapped true text h = feed_append text (codes ")") h refl
feed_wrapped false text h = h

feed_op : (o : BinOp) (rest : List ℕ) → no_feed rest ≡ true → no_feed (codes " " ++ (op_text o ++ (codes " " ++ rest))) ≡ true
feed_op ops.Or rest h = h
feed_op ops.And rest h = h
feed_op ops.Eq rest h = h
feed_op ops.Ne rest h = h
feed_op ops.Lt rest h = h
feed_op ops.Le rest h = h
feed_op ops.Gt rest h = h
feed_op ops.Ge rest h = h
feed_op ops.Add rest h = h
feed_op ops.Sub rest h = h
feed_op ops.Glue rest h = h
feed_op ops.Mul rest h = h
feed_op ops.Div rest h = h
feed_op ops.Rem rest h = h

pub feed_expr : (x : Expr) (p : ℕ) → is_expr_in_limits x ≡ true → no_feed (expr_text p x) ≡ true
unfolding shape-the_row-Expr-0 hidden-the_row-Expr-0 hidden
feed_expr (exprs.Int n) p f = feed_int n f
feed_expr (exprs.Text x) p f = feed_quoted x
feed_expr exprs.Nothing p f = refl
feed_expr (exprs.Var x) p f = feed_name x f
feed_expr (exprs.Not' p' (more_of-Expr a end_of-Expr)) p f = feed_wrapped (ltb 3 p) (codes "not " ++ expr_text 3 a) (feed_expr a 3 f)
feed_expr (exprs.Two' o p' (more_of-Expr a end_of-Expr) q' (more_of-Expr b end_of-Expr)) p f =
    let k = split_and (is_expr_in_limits a) (is_expr_in_limits b) f in
    feed_wrapped (ltb (precedence o) p) (expr_text (left_precedence (precedence o)) a ++ (codes " " ++ (op_text o ++ (codes " " ++ expr_text (precedence o + 1) b))))
    (feed_append (expr_text (left_precedence (precedence o)) a) _ (feed_expr a (left_precedence (precedence o)) k.0) (feed_op o (expr_text (precedence o + 1) b) (feed_expr b (precedence o + 1) k.1)))
feed_expr (exprs.TextOf' p' (more_of-Expr a end_of-Expr)) p f = feed_append (expr_text 0 a) (codes ")") (feed_expr a 0 f) refl
feed_expr (exprs.Len' p' (more_of-Expr a end_of-Expr)) p f = feed_append (expr_text 0 a) (codes ")") (feed_expr a 0 f) refl
