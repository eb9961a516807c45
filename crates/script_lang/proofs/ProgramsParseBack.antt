-- The canonical text of a program is read again, line by line.
use Rattle.std.proofs.Common.{◌≡◌, ℕ, zero, suc, ◌+◌, ◌<◌, ◌≤◌, Bool, true, false, cond, eqb, leb, ltb, List, [], ◌∷◌, ◌++◌, length, take, get_or, Option, Some, None, Result, Ok, Err, refl, sym, ap, ◌∙◌, subst, append_assoc, length-append, arith}
use Rattle.std.specs.Prelude.{◌&&◌, not, codes, flat_map}
use Rattle.std.specs.List.{list_all}
use Rattle.std.proofs.lemmas.Bool.Decides.{nat_tests}
use Rattle.std.proofs.lemmas.List.{append-nil}
use Rattle.boki_types.specs.declared.kind.Kind.{Kind}
use Rattle.boki_types.specs.declared.kind.Kind.TheVariants as kinds
use Rattle.boki_types.specs.declared.expr.Expr.{Expr}
use Rattle.boki_types.specs.declared.program.Function.{Function}
use Rattle.boki_types.specs.declared.program.Program.{Program}
use Rattle.boki_types.specs.declared.program.Stmt.{Stmt}
use Rattle.boki_types.specs.declared.program.Stmt.TheVariants as stmts
use Rattle.boki_model.specs.Bodies.{is_identifier}
use Rattle.boki_model.specs.Plans.{operand_count, nesting_depth, variables_set, is_balanced}
use Rattle.boki_model.specs.Script.{pair_names, pair_expressions, both_sides}
use Rattle.script_lang.specs.declared.blocks.Nesting.TheVariants as placings
use Rattle.script_lang.specs.declared.draft.Draft.{Draft}
use Rattle.script_lang.specs.declared.draft.Stage.{Stage}
use Rattle.script_lang.specs.declared.draft.Stage.TheVariants.{Between, Inside}
use Rattle.line_text.specs.declared.fault.TextFault.{TextFault}
use Rattle.line_text.specs.Lines.{lines_in, prepend_to_first, lexed_line}
use Rattle.script_lang.specs.Functions.{nesting_of, draft_with_head, new_function, draft_with_nested, draft_with_stmt, take_line, empty_draft}
use Rattle.script_lang.specs.Names.{fault_or_rest, line_fault, lines_fault, function_head_fault, function_fault, fault_or_else, functions_fault, name_fault}
use Rattle.line_text.specs.Texts.{lines_on}
use Rattle.script_lang.specs.Texts.{draft_from, scan_functions, program_or_fault, program_at_end, program_of_scan, program_of}
use Rattle.script_lang.specs.Printed.{◌&◌, top_expr_text, each_behind_comma, comma_joined, assignment_text, write_pair_text, name_text, commit_text, stmt_text, indent, line_depth, next_depth, stmt_line_text, stmt_lines_text, function_text}
use Rattle.script_lang.proofs.ExprsInLimits.{is_expr_in_limits}
use Rattle.script_lang.proofs.StmtsInLimits.{AllOf, IsName, StmtInLimits, has_valid_sizes}
use Rattle.script_lang.proofs.DraftsInLimits.{FunctionInLimits, scanned_in_limits}
use Rattle.script_lang.proofs.StmtTokensParseBack.{stmt_parses_back, function_head_reads_back}
use Rattle.script_lang.proofs.StmtTextLexes.{no_feed, feed_append, feed_expr, feed_name, stmt_line, head_line}

split_and : (a b : Bool) → (a && b) ≡ true → (a ≡ true) × (b ≡ true)
split_and true b h = (refl, h)
split_and false b h = absurd (cc)

feed_whole : (x : Expr) → has_valid_sizes x ≡ true → no_feed (top_expr_text x) ≡ true
feed_whole x h = feed_expr x 0 ((split_and (leb (operand_count x) 64 && leb (nesting_depth x) 32) (is_expr_in_limits x) h).1)

feed_more : {A : Type 0} (print : A → List ℕ) (xs : List A) → AllOf (λ x. no_feed (print x) ≡ true) xs → no_feed (each_behind_comma print xs) ≡ true
feed_more print [] g = refl
feed_more print (x ∷ xs) g = feed_append (print x) (each_behind_comma print xs) g.0 (feed_more print xs g.1)

pub feed_listed : {A : Type 0} (print : A → List ℕ) (xs : List A) → AllOf (λ x. no_feed (print x) ≡ true) xs → no_feed (comma_joined print xs) ≡ true
feed_listed print [] g = refl
feed_listed print (x ∷ xs) g = feed_append (print x) (each_behind_comma print xs) g.0 (feed_more print xs g.1)

feed_wholes : (xs : List Expr) → list_all has_valid_sizes xs ≡ true → AllOf (λ x. no_feed (top_expr_text x) ≡ true) xs
feed_wholes [] h = tt
feed_wholes (x ∷ xs) h = let k = split_and (has_valid_sizes x) (list_all has_valid_sizes xs) h in (feed_whole x k.0, feed_wholes xs k.1)

feed_nameds : (ps : List (List ℕ × Expr)) → list_all is_identifier (pair_names ps) ≡ true → list_all has_valid_sizes (pair_expressions ps) ≡ true → AllOf (λ p. no_feed (assignment_text p) ≡ true) ps
feed_nameds [] n h = tt
feed_nameds (p ∷ ps) n h =
    let i = split_and (is_identifier p.0) (list_all is_identifier (pair_names ps)) n in
    let k = split_and (has_valid_sizes p.1) (list_all has_valid_sizes (pair_expressions ps)) h in
    (feed_append p.0 (codes " = " ++ top_expr_text p.1) (feed_name p.0 i.0) (feed_whole p.1 k.0), feed_nameds ps i.1 k.1)

feed_pairs : (ps : List (Expr × Expr)) → list_all has_valid_sizes (both_sides ps) ≡ true → AllOf (λ p. no_feed (write_pair_text p) ≡ true) ps
feed_pairs [] h = tt
feed_pairs (p ∷ ps) h =
    let i = split_and (has_valid_sizes p.0) (has_valid_sizes p.1 && list_all has_valid_sizes (both_sides ps)) h in
    let k = split_and (has_valid_sizes p.1) (list_all has_valid_sizes (both_sides ps)) i.1 in
    (feed_append (top_expr_text p.0) (codes " = " ++ top_expr_text p.1) (feed_whole p.0 i.0) (feed_whole p.1 k.0), feed_pairs ps k.1)

feed_names : (ws : List (List ℕ)) → AllOf IsName ws → AllOf (λ w. no_feed (name_text w) ≡ true) ws
feed_names [] g = tt
feed_names (w ∷ ws) g = (feed_name w g.0, feed_names ws g.1)

first_name : (w : List ℕ) → list_all is_identifier (w ∷ []) ≡ true → IsName w
first_name w h = (split_and (is_identifier w) true h).0

one_of_two : (x : Expr) (xs : List Expr) → list_all has_valid_sizes (x ∷ xs) ≡ true → (has_valid_sizes x ≡ true) × (list_all has_valid_sizes xs ≡ true)
one_of_two x xs h = split_and (has_valid_sizes x) (list_all has_valid_sizes xs) h

feed_set : (x text : List ℕ) → IsName x → no_feed text ≡ true → no_feed (codes "let " ++ (x ++ (codes " = " ++ text))) ≡ true
feed_set x text n h = feed_append x (codes " = " ++ text) (feed_name x n) h

feed_commit : (x : List ℕ) (ps : List (Expr × Expr)) → IsName x → list_all has_valid_sizes (both_sides ps) ≡ true → no_feed (commit_text x ps) ≡ true
feed_commit x [] n h = feed_set x (codes "commit") n refl
feed_commit x (p ∷ ps) n h = feed_set x (codes "commit " ++ comma_joined write_pair_text (p ∷ ps)) n (feed_listed write_pair_text (p ∷ ps) (feed_pairs (p ∷ ps) h))

feed_stmt : (l : Stmt) → StmtInLimits l → no_feed (stmt_text l) ≡ true
feed_stmt (stmts.Let x a) g = feed_set x (top_expr_text a) (first_name x g.names) (feed_whole a (one_of_two a [] g.exprs).0)
feed_stmt (stmts.Read x a) g = feed_set x (codes "read " ++ top_expr_text a) (first_name x g.names) (feed_whole a (one_of_two a [] g.exprs).0)
feed_stmt (stmts.Join x a) g = feed_set x (codes "join " ++ top_expr_text a) (first_name x g.names) (feed_whole a (one_of_two a [] g.exprs).0)
feed_stmt (stmts.Pop x a) g = feed_set x (codes "pop " ++ top_expr_text a) (first_name x g.names) (feed_whole a (one_of_two a [] g.exprs).0)
feed_stmt (stmts.Write a b) g = feed_append (top_expr_text a) (codes ", " ++ top_expr_text b) (feed_whole a (one_of_two a (b ∷ []) g.exprs).0) (feed_whole b (one_of_two b [] (one_of_two a (b ∷ []) g.exprs).1).0)
feed_stmt (stmts.Push a b) g = feed_append (top_expr_text a) (codes ", " ++ top_expr_text b) (feed_whole a (one_of_two a (b ∷ []) g.exprs).0) (feed_whole b (one_of_two b [] (one_of_two a (b ∷ []) g.exprs).1).0)
feed_stmt (stmts.Spawn x f es) g = feed_set x (codes "spawn " ++ (f ++ (codes "(" ++ (comma_joined top_expr_text es ++ codes ")")))) (first_name x g.names) (feed_append f _ (feed_name f g.called) (feed_append (comma_joined top_expr_text es) (codes ")") (feed_listed top_expr_text es (feed_wholes es g.exprs)) refl))
feed_stmt (stmts.Begin ps) g = feed_listed assignment_text ps (feed_nameds ps g.names g.exprs)
feed_stmt (stmts.Commit x ps) g = feed_commit x ps (first_name x g.names) g.exprs
feed_stmt (stmts.If a) g = feed_whole a (one_of_two a [] g.exprs).0
feed_stmt stmts.Else g = refl
feed_stmt (stmts.While a) g = feed_whole a (one_of_two a [] g.exprs).0
feed_stmt stmts.End g = refl
feed_stmt (stmts.Return a) g = feed_whole a (one_of_two a [] g.exprs).0
feed_stmt (stmts.ReadAll ps) g = feed_listed assignment_text ps (feed_nameds ps g.names g.exprs)

feed_indent : (n : ℕ) (text : List ℕ) → no_feed text ≡ true → no_feed (indent n ++ text) ≡ true
feed_indent zero text h = h
feed_indent (suc n) text h = feed_indent n text h

-- the first line, where no line feed stands before its end
not_true : (b : Bool) → not b ≡ true → b ≡ false
not_true true e = absurd (cc)
not_true false e = refl

pub first_line_is : (a b : List ℕ) → no_feed a ≡ true → lines_in (a ++ 10 ∷ b) ≡ (a ∷ (lines_in b).0, (lines_in b).1)
first_line_is [] b h = refl
first_line_is (c ∷ cs) b h =
    let k = split_and (not (eqb c 10)) (no_feed cs) h in
    let f : List (List ℕ) × List ℕ → List (List ℕ) × List ℕ = prepend_to_first c in
    ap (λ t. cond t ([] ∷ (lines_in (cs ++ 10 ∷ b)).0, (lines_in (cs ++ 10 ∷ b)).1) (prepend_to_first c (lines_in (cs ++ 10 ∷ b)))) (not_true (eqb c 10) k.0)
    ∙ ap f (first_line_is cs b k.1)

step_line : (n : ℕ) (a b : List ℕ) (d next : Draft) → no_feed a ≡ true → take_line n (lexed_line a) d ≡ Ok next → scan_functions n (a ++ 10 ∷ b) d ≡ scan_functions (n + 1) b next
step_line n a b d next h e =
    ap (λ (p : List (List ℕ) × List ℕ). draft_from n p.0 p.1 d) (first_line_is a b h)
    ∙ ap (lines_on (draft_from (n + 1) (lines_in b).0 (lines_in b).1) n) e

-- where the blocks are closed in the end, each line stands well
record Stands (bs : List Bool) (l : Stmt) (rest : List Stmt) : Type 0 where
  next : List Bool
  place : nesting_of bs l ≡ placings.Within next
  closed : is_balanced next rest ≡ true

opens : (takes : Bool) (bs : List Bool) (rest : List Stmt) → (leb (length bs) 14 && is_balanced (takes ∷ bs) rest) ≡ true → (cond (ltb (length bs) 15) (placings.Within (takes ∷ bs)) placings.TooDeep ≡ placings.Within (takes ∷ bs)) × (is_balanced (takes ∷ bs) rest ≡ true)
opens takes bs rest h =
    let k = split_and (leb (length bs) 14) (is_balanced (takes ∷ bs) rest) h in
    let l : ltb (length bs) 15 ≡ true = grind (arith, nat_tests, k.0) in
    (ap (λ b. cond b (placings.Within (takes ∷ bs)) placings.TooDeep) l, k.1)

stands : (bs : List Bool) (l : Stmt) (rest : List Stmt) → is_balanced bs (l ∷ rest) ≡ true → Stands bs l rest
stands [] (stmts.Let x a) rest h = record { next = []; place = refl; closed = h }
stands [] (stmts.Read x a) rest h = record { next = []; place = refl; closed = h }
stands [] (stmts.Write a b) rest h = record { next = []; place = refl; closed = h }
stands [] (stmts.Spawn x f es) rest h = record { next = []; place = refl; closed = h }
stands [] (stmts.Join x a) rest h = record { next = []; place = refl; closed = h }
stands [] (stmts.Push a b) rest h = record { next = []; place = refl; closed = h }
stands [] (stmts.Pop x a) rest h = record { next = []; place = refl; closed = h }
stands [] (stmts.Begin ps) rest h = record { next = []; place = refl; closed = h }
stands [] (stmts.Commit x ps) rest h = record { next = []; place = refl; closed = h }
stands [] (stmts.If a) rest h = let o = opens true [] rest h in record { next = true ∷ []; place = o.0; closed = o.1 }
stands [] stmts.Else rest h = absurd (cc)
stands [] (stmts.While a) rest h = let o = opens false [] rest h in record { next = false ∷ []; place = o.0; closed = o.1 }
stands [] stmts.End rest h = absurd (cc)
stands [] (stmts.Return a) rest h = record { next = []; place = refl; closed = h }
stands [] (stmts.ReadAll ps) rest h = record { next = []; place = refl; closed = h }
stands (true ∷ bs) (stmts.Let x a) rest h = record { next = (true ∷ bs); place = refl; closed = h }
stands (true ∷ bs) (stmts.Read x a) rest h = record { next = (true ∷ bs); place = refl; closed = h }
stands (true ∷ bs) (stmts.Write a b) rest h = record { next = (true ∷ bs); place = refl; closed = h }
stands (true ∷ bs) (stmts.Spawn x f es) rest h = record { next = (true ∷ bs); place = refl; closed = h }
stands (true ∷ bs) (stmts.Join x a) rest h = record { next = (true ∷ bs); place = refl; closed = h }
stands (true ∷ bs) (stmts.Push a b) rest h = record { next = (true ∷ bs); place = refl; closed = h }
stands (true ∷ bs) (stmts.Pop x a) rest h = record { next = (true ∷ bs); place = refl; closed = h }
stands (true ∷ bs) (stmts.Begin ps) rest h = record { next = (true ∷ bs); place = refl; closed = h }
stands (true ∷ bs) (stmts.Commit x ps) rest h = record { next = (true ∷ bs); place = refl; closed = h }
stands (true ∷ bs) (stmts.If a) rest h = let o = opens true (true ∷ bs) rest h in record { next = true ∷ (true ∷ bs); place = o.0; closed = o.1 }
stands (true ∷ bs) stmts.Else rest h = record { next = false ∷ bs; place = refl; closed = h }
stands (true ∷ bs) (stmts.While a) rest h = let o = opens false (true ∷ bs) rest h in record { next = false ∷ (true ∷ bs); place = o.0; closed = o.1 }
stands (true ∷ bs) stmts.End rest h = record { next = bs; place = refl; closed = h }
stands (true ∷ bs) (stmts.Return a) rest h = record { next = (true ∷ bs); place = refl; closed = h }
stands (true ∷ bs) (stmts.ReadAll ps) rest h = record { next = (true ∷ bs); place = refl; closed = h }
stands (false ∷ bs) (stmts.Let x a) rest h = record { next = (false ∷ bs); place = refl; closed = h }
stands (false ∷ bs) (stmts.Read x a) rest h = record { next = (false ∷ bs); place = refl; closed = h }
stands (false ∷ bs) (stmts.Write a b) rest h = record { next = (false ∷ bs); place = refl; closed = h }
stands (false ∷ bs) (stmts.Spawn x f es) rest h = record { next = (false ∷ bs); place = refl; closed = h }
stands (false ∷ bs) (stmts.Join x a) rest h = record { next = (false ∷ bs); place = refl; closed = h }
stands (false ∷ bs) (stmts.Push a b) rest h = record { next = (false ∷ bs); place = refl; closed = h }
stands (false ∷ bs) (stmts.Pop x a) rest h = record { next = (false ∷ bs); place = refl; closed = h }
stands (false ∷ bs) (stmts.Begin ps) rest h = record { next = (false ∷ bs); place = refl; closed = h }
stands (false ∷ bs) (stmts.Commit x ps) rest h = record { next = (false ∷ bs); place = refl; closed = h }
stands (false ∷ bs) (stmts.If a) rest h = let o = opens true (false ∷ bs) rest h in record { next = true ∷ (false ∷ bs); place = o.0; closed = o.1 }
stands (false ∷ bs) stmts.Else rest h = absurd (cc)
stands (false ∷ bs) (stmts.While a) rest h = let o = opens false (false ∷ bs) rest h in record { next = false ∷ (false ∷ bs); place = o.0; closed = o.1 }
stands (false ∷ bs) stmts.End rest h = record { next = bs; place = refl; closed = h }
stands (false ∷ bs) (stmts.Return a) rest h = record { next = (false ∷ bs); place = refl; closed = h }
stands (false ∷ bs) (stmts.ReadAll ps) rest h = record { next = (false ∷ bs); place = refl; closed = h }

unfoldable pub draft : List Function → List (List ℕ) → Stage → Draft
draft fs ms s = record { functions = fs; line_numbers = ms; stage = s }

put_lines : Function → List Stmt → Function
put_lines f ls = record { name = f.name; params = f.params; lines = ls }

take_stmt : (n k : ℕ) (fs : List Function) (ms : List (List ℕ)) (f : Function) (m : List ℕ) (bs next : List Bool) (l : Stmt) → StmtInLimits l → nesting_of bs l ≡ placings.Within next → take_line n (lexed_line (indent k ++ stmt_text l)) (draft fs ms (Inside f m bs)) ≡ Ok (draft fs ms (Inside (put_lines f (f.lines ++ l ∷ [])) (m ++ n ∷ []) next))
unfolding draft put_lines
take_stmt n k fs ms f m bs next l g p =
    ap (λ line. take_line n line (record { functions = fs; line_numbers = ms; stage = Inside f m bs })) (stmt_line k l g)
    ∙ ap (draft_with_stmt n fs ms f m bs) (stmt_parses_back l g)
    ∙ ap (draft_with_nested n fs ms f m l) p

take_end : (n : ℕ) (fs : List Function) (ms : List (List ℕ)) (f : Function) (m : List ℕ) → take_line n (lexed_line (codes "end")) (draft fs ms (Inside f m [])) ≡ Ok (draft (fs ++ f ∷ []) (ms ++ m ∷ []) Between)
unfolding draft
take_end n fs ms f m =
    let g : StmtInLimits stmts.End = record { exprs = refl; names = refl; counts = refl; parses_back = tt; called = refl } in
    ap (λ line. take_line n line (record { functions = fs; line_numbers = ms; stage = Inside f m [] })) (stmt_line 0 stmts.End g)
    ∙ ap (draft_with_stmt n fs ms f m []) (stmt_parses_back stmts.End g)

-- Reading on gives these functions, wherever the lines stand.
pub record Leads (n : ℕ) (text : List ℕ) (d : Draft) (rest : List ℕ) (fs : List Function) : Type 0 where
  pub line : ℕ
  pub line_numbers : List (List ℕ)
  pub same : scan_functions n text d ≡ scan_functions line rest (draft fs line_numbers Between)

nil_of : (bs : List Bool) → is_balanced bs [] ≡ true → bs ≡ []
nil_of [] e = refl
nil_of (b ∷ bs) e = absurd (cc)

line_apart : (k : ℕ) (l : Stmt) (others rest : List ℕ) → (stmt_line_text k l & others) ++ rest ≡ (indent (line_depth k l) ++ stmt_text l) ++ 10 ∷ (others ++ rest)
line_apart k l others rest =
    append_assoc (indent (line_depth k l) ++ (stmt_text l ++ codes "\n")) others rest
    ∙ append_assoc (indent (line_depth k l)) (stmt_text l ++ codes "\n") (others ++ rest)
    ∙ ap (λ t. indent (line_depth k l) ++ t) (append_assoc (stmt_text l) (codes "\n") (others ++ rest))
    ∙ sym (append_assoc (indent (line_depth k l)) (stmt_text l) (10 ∷ (others ++ rest)))

scan_stmts : (ls : List Stmt) (k n : ℕ) (fs : List Function) (ms : List (List ℕ)) (f : Function) (m : List ℕ) (bs : List Bool) (rest : List ℕ) → AllOf StmtInLimits ls → is_balanced bs ls ≡ true → Leads n (stmt_lines_text k ls ++ (codes "end\n" ++ rest)) (draft fs ms (Inside f m bs)) rest (fs ++ put_lines f (f.lines ++ ls) ∷ [])
unfolding put_lines
scan_stmts [] k n fs ms f m bs rest g b = record {
  line = n + 1;
  line_numbers = ms ++ m ∷ [];
  same =
      ap (λ z. scan_functions n (codes "end\n" ++ rest) (draft fs ms (Inside f m z))) (nil_of bs b)
      ∙ step_line n (codes "end") rest (draft fs ms (Inside f m [])) (draft (fs ++ f ∷ []) (ms ++ m ∷ []) Between) refl (take_end n fs ms f m)
      ∙ ap (λ (ls : List Stmt). scan_functions (n + 1) rest (draft (fs ++ put_lines f ls ∷ []) (ms ++ m ∷ []) Between)) (sym (append-nil f.lines));
}
scan_stmts (l ∷ ls) k n fs ms f m bs rest g b =
    let s = stands bs l ls b in
    let d = line_depth k l in
    let others = stmt_lines_text (next_depth k l) ls in
    let end = codes "end\n" ++ rest in
    let next = put_lines f (f.lines ++ l ∷ []) in
    let r = scan_stmts ls (next_depth k l) (n + 1) fs ms next (m ++ n ∷ []) s.next rest g.1 s.closed in
    let lines_are : (f.lines ++ l ∷ []) ++ ls ≡ f.lines ++ l ∷ ls = append_assoc f.lines (l ∷ []) ls in
    record {
      line = r.line;
      line_numbers = r.line_numbers;
      same =
          ap (λ t. scan_functions n t (draft fs ms (Inside f m bs))) (line_apart k l others end)
          ∙ step_line n (indent d ++ stmt_text l) (others ++ end) (draft fs ms (Inside f m bs)) (draft fs ms (Inside next (m ++ n ∷ []) s.next)) (feed_indent d (stmt_text l) (feed_stmt l g.0)) (take_stmt n d fs ms f m bs s.next l g.0 s.place)
          ∙ r.same
          ∙ ap (λ (z : List Stmt). scan_functions r.line rest (draft (fs ++ put_lines f z ∷ []) r.line_numbers Between)) lines_are;
    }

head_text : Function → List ℕ
head_text f = codes "function " ++ (f.name ++ (codes "(" ++ (comma_joined name_text f.params ++ codes ")")))

text_apart : (f : Function) (rest : List ℕ) → function_text f ++ rest ≡ head_text f ++ 10 ∷ (stmt_lines_text 1 f.lines ++ (codes "end\n" ++ rest))
unfolding head_text
text_apart f rest =
    let params = comma_joined name_text f.params in
    let body = stmt_lines_text 1 f.lines ++ codes "end\n" in
    let after = stmt_lines_text 1 f.lines ++ (codes "end\n" ++ rest) in
    let left : (f.name ++ (40 ∷ (params ++ (41 ∷ 10 ∷ body)))) ++ rest ≡ f.name ++ (40 ∷ (params ++ (41 ∷ 10 ∷ (body ++ rest)))) =
    append_assoc f.name (40 ∷ (params ++ (41 ∷ 10 ∷ body))) rest ∙ ap (λ l. f.name ++ (40 ∷ l)) (append_assoc params (41 ∷ 10 ∷ body) rest) in
    let right : (f.name ++ (40 ∷ (params ++ (41 ∷ [])))) ++ 10 ∷ after ≡ f.name ++ (40 ∷ (params ++ (41 ∷ 10 ∷ after))) =
    append_assoc f.name (40 ∷ (params ++ (41 ∷ []))) (10 ∷ after) ∙ ap (λ l. f.name ++ (40 ∷ l)) (append_assoc params (41 ∷ []) (10 ∷ after)) in
    ap (λ l. codes "function " ++ l)
    (left ∙ ap (λ l. f.name ++ (40 ∷ (params ++ (41 ∷ 10 ∷ l)))) (append_assoc (stmt_lines_text 1 f.lines) (codes "end\n") rest) ∙ sym right)

feed_head : (f : Function) → FunctionInLimits f → no_feed (head_text f) ≡ true
unfolding head_text
feed_head f g =
    feed_append f.name (codes "(" ++ (comma_joined name_text f.params ++ codes ")")) (feed_name f.name g.name)
    (feed_append (comma_joined name_text f.params) (codes ")") (feed_listed name_text f.params (feed_names f.params g.params)) refl)

take_head : (n : ℕ) (fs : List Function) (ms : List (List ℕ)) (f : Function) → FunctionInLimits f → length fs < 256 → take_line n (lexed_line (head_text f)) (draft fs ms Between) ≡ Ok (draft fs ms (Inside (put_lines f []) (n ∷ []) []))
unfolding draft put_lines head_text
take_head n fs ms f g l =
    let small : ltb (length fs) 256 ≡ true = grind (arith, nat_tests, l) in
    ap (λ line. take_line n line (record { functions = fs; line_numbers = ms; stage = Between })) (head_line f.name f.params g.name g.params)
    ∙ ap (draft_with_head n fs ms) (function_head_reads_back f.name f.params g.name g.params g.few)
    ∙ ap (λ b. cond b (Ok (new_function n fs ms (f.name, f.params))) (Err kinds.Range)) small

scan_function : (f : Function) (n : ℕ) (fs : List Function) (ms : List (List ℕ)) (rest : List ℕ) → FunctionInLimits f → length fs < 256 → Leads n (function_text f ++ rest) (draft fs ms Between) rest (fs ++ f ∷ [])
unfolding put_lines
scan_function f n fs ms rest g l =
    let after = stmt_lines_text 1 f.lines ++ (codes "end\n" ++ rest) in
    let r = scan_stmts f.lines 1 (n + 1) fs ms (put_lines f []) (n ∷ []) [] rest g.lines g.balanced in
    record {
      line = r.line;
      line_numbers = r.line_numbers;
      same =
          ap (λ t. scan_functions n t (draft fs ms Between)) (text_apart f rest)
          ∙ step_line n (head_text f) after (draft fs ms Between) (draft fs ms (Inside (put_lines f []) (n ∷ []) [])) (feed_head f g) (take_head n fs ms f g l)
          ∙ r.same;
    }

pub scan_all : (gs : List Function) (n : ℕ) (fs : List Function) (ms : List (List ℕ)) → AllOf FunctionInLimits gs → length fs + length gs ≤ 256 → Leads n (flat_map function_text gs) (draft fs ms Between) [] (fs ++ gs)
scan_all [] n fs ms g l = record {
  line = n;
  line_numbers = ms;
  same = ap (λ (z : List Function). scan_functions n [] (draft z ms Between)) (sym (append-nil fs));
}
scan_all (f ∷ gs) n fs ms g l =
    let rest = flat_map function_text gs in
    let a = scan_function f n fs ms rest g.0 (omega arith) in
    let b = scan_all gs a.line (fs ++ f ∷ []) a.line_numbers g.1 (omega (arith, length-append fs (f ∷ []))) in
    record {
      line = b.line;
      line_numbers = b.line_numbers;
      same = a.same ∙ b.same ∙ ap (λ (z : List Function). scan_functions b.line [] (draft z b.line_numbers Between)) (append_assoc fs (f ∷ []) gs);
    }

-- The second pass finds nothing, wherever the lines stand.
none_of : (n : ℕ) (o : Option Kind) (rest : Option (ℕ × Kind)) → fault_or_rest n o rest ≡ None → (o ≡ None) × (rest ≡ None)
none_of n None rest e = (refl, e)
none_of n (Some k) rest e = absurd (cc)

or_none : (o rest : Option (ℕ × Kind)) → fault_or_else o rest ≡ None → (o ≡ None) × (rest ≡ None)
or_none None rest e = (refl, e)
or_none (Some x) rest e = absurd (cc)

both_none : (n : ℕ) (o : Option Kind) (rest : Option (ℕ × Kind)) → o ≡ None → rest ≡ None → fault_or_rest n o rest ≡ None
both_none n o rest h k = rw (h, k) refl

either_none : (o rest : Option (ℕ × Kind)) → o ≡ None → rest ≡ None → fault_or_else o rest ≡ None
either_none o rest h k = rw (h, k) refl

lines_free : (fs : List Function) (known : List (List ℕ)) (ls : List Stmt) (ns os : List ℕ) (i j : ℕ) → lines_fault fs known ls ns i ≡ None → lines_fault fs known ls os j ≡ None
lines_free fs known [] ns os i j e = refl
lines_free fs known (l ∷ ls) ns os i j e =
    let h = none_of (get_or ns i 0) (line_fault fs known l) (lines_fault fs (known ++ variables_set l) ls ns (i + 1)) e in
    both_none (get_or os j 0) (line_fault fs known l) (lines_fault fs (known ++ variables_set l) ls os (j + 1)) h.0 (lines_free fs (known ++ variables_set l) ls ns os (i + 1) (j + 1) h.1)

function_free : (fs before : List Function) (f : Function) (ns os : List ℕ) → function_fault fs before f ns ≡ None → function_fault fs before f os ≡ None
function_free fs before f ns os e =
    let h = none_of (get_or ns 0 0) (function_head_fault before f) (lines_fault fs f.params f.lines ns 1) e in
    both_none (get_or os 0 0) (function_head_fault before f) (lines_fault fs f.params f.lines os 1) h.0 (lines_free fs f.params f.lines ns os 1 1 h.1)

pub functions_free : (fs gs : List Function) (ms ks : List (List ℕ)) (i : ℕ) → functions_fault fs gs ms i ≡ None → functions_fault fs gs ks i ≡ None
functions_free fs [] ms ks i e = refl
functions_free fs (g ∷ gs) ms ks i e =
    let h = or_none (function_fault fs (take i fs) g (get_or ms i [])) (functions_fault fs gs ms (i + 1)) e in
    either_none (function_fault fs (take i fs) g (get_or ks i [])) (functions_fault fs gs ks (i + 1)) (function_free fs (take i fs) g (get_or ms i []) (get_or ks i []) h.0) (functions_free fs gs ms ks (i + 1) h.1)

-- What is known of a program that a text spells.
record Origin (p : Program) : Type 0 where
  good : AllOf FunctionInLimits p.functions
  few : length p.functions ≤ 256
  line_numbers : List (List ℕ)
  free : name_fault p.functions line_numbers ≡ None

abbrev ok_in : {A : Type 0} (E : Type 0) → A → Result A E
ok_in E x = Ok x

inner_ok : {A : Type 0} (E : Type 0) (x y : A) → ok_in E x ≡ ok_in E y → x ≡ y
inner_ok E x y e = cc

named_origin : (fs : List Function) (ms : List (List ℕ)) (o : Option (ℕ × Kind)) (p : Program) → name_fault fs ms ≡ o → AllOf FunctionInLimits fs → length fs ≤ 256 → program_or_fault fs o ≡ Ok p → Origin p
named_origin fs ms (Some fault) p n g l e = absurd (cc)
named_origin fs ms None p n g l e =
    subst Origin (inner_ok TextFault (record { functions = fs }) p e) (record { good = g; few = l; line_numbers = ms; free = n })

ended_origin : (n first : ℕ) (text : List ℕ) (fs : List Function) (ms : List (List ℕ)) (s : Stage) (p : Program) → scan_functions first text empty_draft ≡ Ok (n, record { functions = fs; line_numbers = ms; stage = s }) → program_at_end n fs ms s ≡ Ok p → Origin p
ended_origin n first text fs ms Between p e f =
    let g = scanned_in_limits n first text (record { functions = fs; line_numbers = ms; stage = Between }) e refl in
    named_origin fs ms (name_fault fs ms) p refl g.0 g.1 f
ended_origin n first text fs ms (Inside f m bs) p e h = absurd (cc)

origin : (first : ℕ) (text : List ℕ) (r : Result (ℕ × Draft) TextFault) (p : Program) → scan_functions first text empty_draft ≡ r → program_of_scan r ≡ Ok p → Origin p
origin first text (Err e) p s f = absurd (cc)
origin first text (Ok q) p s f = ended_origin q.0 first text q.1.functions q.1.line_numbers q.1.stage p s f

pub program_parses_back : (first second : ℕ) (text : List ℕ) (p : Program) → program_of first text ≡ Ok p → program_of second (flat_map function_text p.functions) ≡ Ok p
unfolding draft
program_parses_back first second text p e =
    let o = origin first text (scan_functions first text empty_draft) p refl e in
    let few = o.few in
    let s = scan_all p.functions second [] [] o.good (omega arith) in
    ap program_of_scan s.same ∙ ap (program_or_fault p.functions) (functions_free p.functions p.functions o.line_numbers s.line_numbers 0 o.free)
