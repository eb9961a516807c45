-- The printed plans of transfers are read again.
use Rattle.std.proofs.Common.{◌≡◌, ℕ, zero, suc, ◌+◌, ◌*◌, ◌%◌, ◌^◌, ◌<◌, ◌≤◌, Bool, true, false, cond, eqb, leb, ◌&&◌, List, [], ◌∷◌, ◌++◌, length, Some, None, Ok, refl, sym, ap, ◌∙◌, subst, arith}
use Rattle.std.specs.Prelude.{pos, codes, not, flat_map}
use Rattle.std.specs.Fmt.{decimal}
use Rattle.std.proofs.lemmas.Bool.{and_parts, leb-true}
use Rattle.std.proofs.lemmas.Grind.{flat_map-append}
use Rattle.std.proofs.lemmas.Str.{is_utf8-from_IsUtf8}
use Rattle.std.proofs.lemmas.Fmt.{length-decimal-le}
use Rattle.std.proofs.lemmas.List.{length-append}
use Rattle.std.specs.List.{list_all}
use denote.Hole.Carrier.{hidden}
use Rattle.lb_base.specs.declared.value.Value.TheVariants.{Int}
use Rattle.lb_base.specs.Print.{value_text}
use Rattle.lb_base.specs.Quoted.{quoted}
use Rattle.boki_types.specs.declared.event.Event.TheVariants as v
use Rattle.boki_types.specs.declared.plan.Item.TheVariants.{One, Repeat}
use Rattle.boki_types.specs.declared.expr.BinOp.TheVariants as o
use Rattle.boki_types.specs.declared.expr.Expr.{Expr}
use Rattle.boki_types.specs.declared.expr.Expr.TheVariants as e
use Rattle.boki_types.specs.declared.expr.Expr.TheBlock.{shape-the_row-Expr-0, hidden-the_row-Expr-0}
use Rattle.line_text.specs.declared.checked.Checked.TheVariants as r
use Rattle.line_text.specs.declared.token.Token.{Token}
use Rattle.line_text.specs.declared.token.Token.TheVariants as t
use Rattle.script_lang.specs.Expressions.{expr_at}
use Rattle.line_text.specs.Lines.{lines_in, prepend_to_first}
use Rattle.script_lang.specs.Names.{name_fault}
use Rattle.script_lang.specs.Printed.{comma_joined, function_text}
use Rattle.script_lang.proofs.StmtTextLexes.{no_feed}
use Rattle.script_lang.proofs.DraftsInLimits.{FunctionInLimits}
use Rattle.script_lang.proofs.ExprsInLimits.{ParsesBack}
use Rattle.script_lang.proofs.StmtsInLimits.{AllOf}
use Rattle.script_lang.proofs.ExprTokensParseBack.{expr_parses_back}
use Rattle.plan_lang.specs.Generated.{account, account_entry, accounts, move, source_digit, target_digit, move_args, move_items, all_moves, transfers}
use Rattle.plan_lang.specs.Heads.{objects_fault}
use Rattle.plan_lang.specs.Printed.{setup_text, name_value_line, repeat_line, item_text, plan_text}
use Rattle.plan_lang.specs.Texts.{plan_of}
use Rattle.line_text.specs.Texts.{line_count}
use Rattle.plan_lang.proofs.CleanHeads.{is_clean_function, is_clean_object}
use Rattle.plan_lang.proofs.CleanPlans.{is_clean_item}
use Rattle.plan_lang.proofs.PlansParseBack.{Origin, plan_from_origin_parses_back}
use Rattle.plan_lang.proofs.PrintedLines.{plain, plain_decimal, plain_utf8, plain_inline}
use Rattle.line_text.proofs.Utf8Tokens.{is_clean_text}
use Rattle.transfer_laws.proofs.Transfers.{its_setup, functions, spelled, all_append, transfers_are_plans}

-- The function.

one_again : (ts : List Token) (x : Expr) → expr_at ts ≡ Some (r.Valid x, []) → AllOf ParsesBack (x ∷ [])
one_again ts x e = ((λ rest ends. expr_parses_back ts [] rest x e ends), tt)

move_good : FunctionInLimits move
unfolding shape-the_row-Expr-0 hidden-the_row-Expr-0 hidden
move_good = record {
  name = refl;
  params = (refl, (refl, (refl, tt)));
  few = omega arith;
  lines = (
    record { exprs = refl; names = refl; counts = refl; parses_back = one_again (t.Name (codes "a") ∷ []) (e.Var (codes "a")) refl; called = refl },
    (
      record { exprs = refl; names = refl; counts = refl; parses_back = one_again (t.Name (codes "b") ∷ []) (e.Var (codes "b")) refl; called = refl },
      (
        record {
          exprs = refl;
          names = refl;
          counts = refl;
          parses_back = (
            (one_again (t.Name (codes "a") ∷ []) (e.Var (codes "a")) refl).0,
            one_again (t.Name (codes "x") ∷ t.Minus false ∷ t.Name (codes "n") ∷ []) (e.Two o.Sub (e.Var (codes "x")) (e.Var (codes "n"))) refl,
          );
          called = refl;
        },
        (
          record {
            exprs = refl;
            names = refl;
            counts = refl;
            parses_back = (
              (one_again (t.Name (codes "b") ∷ []) (e.Var (codes "b")) refl).0,
              one_again (t.Name (codes "y") ∷ t.Op o.Add ∷ t.Name (codes "n") ∷ []) (e.Two o.Add (e.Var (codes "y")) (e.Var (codes "n"))) refl,
            );
            called = refl;
          },
          (
            record {
              exprs = refl;
              names = refl;
              counts = refl;
              parses_back = one_again (t.Name (codes "x") ∷ t.Minus false ∷ t.Name (codes "n") ∷ []) (e.Two o.Sub (e.Var (codes "x")) (e.Var (codes "n"))) refl;
              called = refl;
            },
            tt,
          ),
        ),
      ),
    ),
  );
  balanced = refl;
}

function_clean : is_clean_function move ≡ true
unfolding shape-the_row-Expr-0 hidden-the_row-Expr-0 hidden
function_clean = refl

names_free : name_fault functions [] ≡ None
unfolding shape-the_row-Expr-0 hidden-the_row-Expr-0 hidden
names_free = refl

-- The accounts.

abbrev digit_text : ℕ → List ℕ
digit_text d = 97 ∷ (48 + d) ∷ []

-- by each digit
by_digit : (P : ℕ → Type 0) → P 0 → P 1 → P 2 → P 3 → P 4 → P 5 → P 6 → P 7 → P 8 → P 9 → (d : ℕ) → d < 10 → P d
by_digit P p0 p1 p2 p3 p4 p5 p6 p7 p8 p9 zero lt = p0
by_digit P p0 p1 p2 p3 p4 p5 p6 p7 p8 p9 (suc zero) lt = p1
by_digit P p0 p1 p2 p3 p4 p5 p6 p7 p8 p9 (suc (suc zero)) lt = p2
by_digit P p0 p1 p2 p3 p4 p5 p6 p7 p8 p9 (suc (suc (suc zero))) lt = p3
by_digit P p0 p1 p2 p3 p4 p5 p6 p7 p8 p9 (suc (suc (suc (suc zero)))) lt = p4
by_digit P p0 p1 p2 p3 p4 p5 p6 p7 p8 p9 (suc (suc (suc (suc (suc zero))))) lt = p5
by_digit P p0 p1 p2 p3 p4 p5 p6 p7 p8 p9 (suc (suc (suc (suc (suc (suc zero)))))) lt = p6
by_digit P p0 p1 p2 p3 p4 p5 p6 p7 p8 p9 (suc (suc (suc (suc (suc (suc (suc zero))))))) lt = p7
by_digit P p0 p1 p2 p3 p4 p5 p6 p7 p8 p9 (suc (suc (suc (suc (suc (suc (suc (suc zero)))))))) lt = p8
by_digit P p0 p1 p2 p3 p4 p5 p6 p7 p8 p9 (suc (suc (suc (suc (suc (suc (suc (suc (suc zero))))))))) lt = p9
by_digit P p0 p1 p2 p3 p4 p5 p6 p7 p8 p9 (suc (suc (suc (suc (suc (suc (suc (suc (suc (suc n)))))))))) lt = absurd (omega (arith, lt))

account_is : (d : ℕ) → d < 10 → account d ≡ digit_text d
account_is d lt = spelled d lt

text_clean : (d : ℕ) → d < 10 → is_clean_text (account d) ≡ true
text_clean d lt =
    ap is_clean_text (account_is d lt)
    ∙ is_utf8-from_IsUtf8 (quoted (digit_text d)) (plain_utf8 (quoted (digit_text d)) (by_digit (λ d. plain (quoted (digit_text d)) ≡ true) refl refl refl refl refl refl refl refl refl refl d lt))

objects_clean : list_all is_clean_object (accounts 10) ≡ true
objects_clean = λ i.
    (text_clean 0 (omega arith) i && true) && ((text_clean 1 (omega arith) i && true) && ((text_clean 2 (omega arith) i && true) && ((text_clean 3 (omega arith) i && true)
    && ((text_clean 4 (omega arith) i && true) && ((text_clean 5 (omega arith) i && true) && ((text_clean 6 (omega arith) i && true) && ((text_clean 7 (omega arith) i && true)
    && ((text_clean 8 (omega arith) i && true) && ((text_clean 9 (omega arith) i && true) && true)))))))))

objects_free : objects_fault [] (accounts 10) [] 0 ≡ None
objects_free = λ i. objects_fault [] (
    (account_is 0 (omega arith) i, Int (pos 1000)) ∷ (account_is 1 (omega arith) i, Int (pos 1000))
    ∷ (account_is 2 (omega arith) i, Int (pos 1000)) ∷ (account_is 3 (omega arith) i, Int (pos 1000))
    ∷ (account_is 4 (omega arith) i, Int (pos 1000)) ∷ (account_is 5 (omega arith) i, Int (pos 1000))
    ∷ (account_is 6 (omega arith) i, Int (pos 1000)) ∷ (account_is 7 (omega arith) i, Int (pos 1000))
    ∷ (account_is 8 (omega arith) i, Int (pos 1000)) ∷ (account_is 9 (omega arith) i, Int (pos 1000)) ∷ []) [] 0

items_clean : (n : ℕ) → list_all is_clean_item (all_moves n) ≡ true
items_clean zero = refl
items_clean (suc n) =
    all_append is_clean_item (all_moves n) (move_items (suc n)) (items_clean n)
    (λ i. (text_clean (source_digit (suc n)) (omega arith) i && (text_clean (target_digit (suc n)) (omega arith) i && true)) && true)

its_origin : (n : ℕ) → Origin (transfers n)
its_origin n = record {
  good = (move_good, tt);
  few = omega arith;
  line_numbers = [];
  free = names_free;
  lines = [];
  apart = objects_free;
  clean_objects = objects_clean;
  clean_functions = λ i. function_clean i && true;
  clean_items = items_clean n;
}

-- How long a text is, and how many lines it has.

abbrev feeds : List ℕ → ℕ
feeds [] = 0
feeds (c ∷ cs) = cond (eqb c 10) (suc (feeds cs)) (feeds cs)

feeds_append : (v w : List ℕ) → feeds (v ++ w) ≡ feeds v + feeds w
feeds_append [] w = omega arith
feeds_append (c ∷ v) w = at (eqb c 10) (feeds_append v w)
  where
    at : (t : Bool) → feeds (v ++ w) ≡ feeds v + feeds w → cond t (suc (feeds (v ++ w))) (feeds (v ++ w)) ≡ cond t (suc (feeds v)) (feeds v) + feeds w
    at true e = omega (arith, e)
    at false e = e

lines_are : (text : List ℕ) → line_count text ≡ feeds text
lines_are [] = refl
lines_are (c ∷ cs) = at (eqb c 10) (lines_are cs)
  where
    same : (ls : List (List ℕ) × List ℕ) → length (prepend_to_first c ls).0 ≡ length ls.0
    same ([], rest) = refl
    same (line ∷ lines, rest) = refl

    at : (t : Bool) → length (lines_in cs).0 ≡ feeds cs → length (cond t ([] ∷ (lines_in cs).0, (lines_in cs).1) (prepend_to_first c (lines_in cs))).0 ≡ cond t (suc (feeds cs)) (feeds cs)
    at true e = ap suc e
    at false e = same (lines_in cs) ∙ e

-- at most so many bytes and lines
record Fits (n k : ℕ) (w : List ℕ) : Type 0 where
  pub short : length w ≤ n
  pub few : feeds w ≤ k

text_fits : (w : List ℕ) → Fits (length w) (feeds w) w
text_fits w = record { short = omega arith; few = omega arith }

then : {n k m l : ℕ} {v w : List ℕ} → Fits n k v → Fits m l w → Fits (n + m) (k + l) (v ++ w)
then {v = v} {w = w} one two =
    let a = length-append v w in let b = feeds_append v w in let s = one.short in let t = two.short in let f = one.few in let g = two.few in
    record { short = omega (arith, a, s, t); few = omega (arith, b, f, g) }

looser : (m l : ℕ) (w : List ℕ) {n k : ℕ} → Fits n k w → n ≤ m → k ≤ l → Fits m l w
looser m l w fits le less = let s = fits.short in let f = fits.few in record { short = omega (arith, s, le); few = omega (arith, f, less) }

fits_by : (n k : ℕ) (w : List ℕ) → leb (length w) n ≡ true → leb (feeds w) k ≡ true → Fits n k w
fits_by n k w short few = record { short = leb-true (length w) n short; few = leb-true (feeds w) k few }

no_feeds : (w : List ℕ) → no_feed w ≡ true → feeds w ≡ 0
no_feeds [] e = refl
no_feeds (c ∷ w) e = at (eqb c 10) refl (no_feeds w)
  where
    at : (t : Bool) → eqb c 10 ≡ t → (no_feed w ≡ true → feeds w ≡ 0) → cond t (suc (feeds w)) (feeds w) ≡ 0
    at true is ih = let no_way : true ≡ false = sym (and_parts (not (eqb c 10)) (no_feed w) e).0 ∙ ap not is in cc
    at false is ih = ih (and_parts (not (eqb c 10)) (no_feed w) e).1

number_fits : (k n : ℕ) → 0 < k → n < 10 ^ k → n < 2 ^ 64 → Fits k 0 (decimal n)
number_fits k n some lt low =
    let e = no_feeds (decimal n) (plain_inline (decimal n) (plain_decimal n)).feed in
    record { short = length-decimal-le k n some lt low; few = omega (arith, e) }

account_fits : (d : ℕ) → d < 10 → Fits 4 0 (quoted (account d))
account_fits d lt = subst (λ w. Fits 4 0 (quoted w)) (sym (account_is d lt)) (by_digit (λ d. Fits 4 0 (quoted (digit_text d)))
    (fits_by 4 0 (quoted (digit_text 0)) refl refl) (fits_by 4 0 (quoted (digit_text 1)) refl refl) (fits_by 4 0 (quoted (digit_text 2)) refl refl)
    (fits_by 4 0 (quoted (digit_text 3)) refl refl) (fits_by 4 0 (quoted (digit_text 4)) refl refl) (fits_by 4 0 (quoted (digit_text 5)) refl refl)
    (fits_by 4 0 (quoted (digit_text 6)) refl refl) (fits_by 4 0 (quoted (digit_text 7)) refl refl) (fits_by 4 0 (quoted (digit_text 8)) refl refl)
    (fits_by 4 0 (quoted (digit_text 9)) refl refl) d lt)

-- The head.

setup_fits : Fits 16 1 (setup_text its_setup)
setup_fits =
    let four = number_fits 1 4 (omega arith) (omega arith) (omega arith) in
    let one = number_fits 1 1 (omega arith) (omega arith) (omega arith) in
    let space = text_fits (codes " ") in
    looser 16 1 (setup_text its_setup)
    (then (text_fits (codes "setup ")) (then four (then space (then one (then space (then four (then space (then (text_fits (codes "R")) (then (text_fits []) (text_fits (codes "\n")))))))))))
    (omega arith) (omega arith)

object_fits : (d : ℕ) → d < 10 → Fits 17 1 (name_value_line (codes "object ") (account_entry d))
object_fits d lt =
    looser 17 1 (name_value_line (codes "object ") (account_entry d))
    (then (text_fits (codes "object ")) (then (account_fits d lt) (then (text_fits (codes " ")) (then (number_fits 4 1000 (omega arith) (omega arith) (omega arith)) (text_fits (codes "\n"))))))
    (omega arith) (omega arith)

objects_fit : Fits 170 10 (flat_map (name_value_line (codes "object ")) (accounts 10))
objects_fit =
    looser 170 10 (flat_map (name_value_line (codes "object ")) (accounts 10))
    (then (object_fits 0 (omega arith)) (then (object_fits 1 (omega arith)) (then (object_fits 2 (omega arith)) (then (object_fits 3 (omega arith)) (then (object_fits 4 (omega arith))
    (then (object_fits 5 (omega arith)) (then (object_fits 6 (omega arith)) (then (object_fits 7 (omega arith)) (then (object_fits 8 (omega arith)) (then (object_fits 9 (omega arith)) (text_fits [])))))))))))
    (omega arith) (omega arith)

functions_fit : Fits 200 10 (flat_map function_text functions)
unfolding shape-the_row-Expr-0 hidden-the_row-Expr-0 hidden
functions_fit = fits_by 200 10 (flat_map function_text functions) refl refl

-- The items of one transfer.

module _ (i : ℕ) (le : i ≤ 4000) where
  number : Fits 4 0 (decimal i)
  number = number_fits 4 i (omega arith) (omega arith) (omega arith)

  engine : Fits 1 0 (decimal (i % 4 + 1))
  engine = number_fits 1 (i % 4 + 1) (omega arith) (omega arith) (omega arith)

  space : Fits 1 0 (codes " ")
  space = fits_by 1 0 (codes " ") refl refl

  feed : Fits 1 1 (codes "\n")
  feed = fits_by 1 1 (codes "\n") refl refl

  args_fit : Fits 13 0 (comma_joined value_text (move_args i))
  args_fit =
      looser 13 0 (comma_joined value_text (move_args i))
      (then (account_fits (source_digit i) (omega arith)) (then (text_fits (codes ", ")) (then (account_fits (target_digit i) (omega arith)) (then (text_fits (codes ", "))
      (then (number_fits 1 (i % 7) (omega arith) (omega arith) (omega arith)) (text_fits []))))))
      (omega arith) (omega arith)

  submit_fits : Fits 34 1 (item_text functions (One (v.Submit (i % 4 + 1) i 0 (move_args i))))
  submit_fits =
      looser 34 1 (item_text functions (One (v.Submit (i % 4 + 1) i 0 (move_args i))))
      (then (then (text_fits (codes "submit ")) (then engine (then space (then number (then space (then (text_fits (codes "move")) (then (text_fits (codes "(")) (then args_fit (text_fits (codes ")")))))))))) feed)
      (omega arith) (omega arith)

  start_fits : Fits 18 1 (item_text functions (One (v.Start i (i ∷ []) (i % 4 + 1))))
  start_fits =
      looser 18 1 (item_text functions (One (v.Start i (i ∷ []) (i % 4 + 1))))
      (then (then (text_fits (codes "start ")) (then number (then space (then (then number (text_fits [])) (then space engine))))) feed)
      (omega arith) (omega arith)

  step_fits : Fits 12 1 (repeat_line functions (v.Step i))
  step_fits =
      looser 12 1 (repeat_line functions (v.Step i)) (then (text_fits (codes "  ")) (then (then (text_fits (codes "step ")) number) feed)) (omega arith) (omega arith)

  repeat_fits : Fits 33 4 (item_text functions (Repeat 12 (v.Step i ∷ v.Sync ∷ [])))
  repeat_fits =
      looser 33 4 (item_text functions (Repeat 12 (v.Step i ∷ v.Sync ∷ [])))
      (then (text_fits (codes "repeat ")) (then (number_fits 2 12 (omega arith) (omega arith) (omega arith)) (then feed
      (then (then step_fits (then (text_fits (repeat_line functions v.Sync)) (text_fits []))) (text_fits (codes "end\n"))))))
      (omega arith) (omega arith)

  move_fits : Fits 90 7 (flat_map (item_text functions) (move_items i))
  move_fits =
      looser 90 7 (flat_map (item_text functions) (move_items i))
      (then submit_fits (then (text_fits (item_text functions (One v.Sync))) (then start_fits (then repeat_fits (text_fits [])))))
      (omega arith) (omega arith)

moves_fit : (n : ℕ) → n ≤ 4000 → Fits (90 * n) (7 * n) (flat_map (item_text functions) (all_moves n))
moves_fit zero le = text_fits []
moves_fit (suc n) le =
    looser (90 * suc n) (7 * suc n) (flat_map (item_text functions) (all_moves (suc n)))
    (subst (Fits (90 * n + 90) (7 * n + 7)) (sym (flat_map-append (item_text functions) (all_moves n) (move_items (suc n))))
    (then (moves_fit n (omega (arith, le))) (move_fits (suc n) le)))
    (omega arith) (omega arith)

plan_fits : (n : ℕ) → n ≤ 4000 → Fits (393 + 90 * n) (22 + 7 * n) (plan_text (transfers n))
plan_fits n le =
    looser (393 + 90 * n) (22 + 7 * n) (plan_text (transfers n))
    (then (then setup_fits (then objects_fit functions_fit)) (then (text_fits (codes "events\n")) (moves_fit n le)))
    (omega arith) (omega arith)

pub transfers_are_read_again : (n : ℕ) → n ≤ 4000 → plan_of (plan_text (transfers n)) ≡ Ok (transfers n)
transfers_are_read_again n le =
    let fits = plan_fits n le in
    let short = fits.short in
    let few = fits.few in
    let lines = lines_are (plan_text (transfers n)) in
    plan_from_origin_parses_back (transfers n) (its_origin n) (transfers_are_plans n le) (omega (arith, short, le)) (omega (arith, few, lines, le))
