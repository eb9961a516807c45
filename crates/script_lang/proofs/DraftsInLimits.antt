-- Functions that are read line by line are within the limits.
use Rattle.std.proofs.Common.{◌≡◌, ℕ, ◌+◌, ◌<◌, ◌≤◌, Bool, true, false, cond, ltb, leb, List, [], ◌∷◌, ◌++◌, length, Option, Some, None, Result, Ok, Err, refl, sym, ap, ◌∙◌, subst, append_assoc, length-append, arith}
use Rattle.std.specs.Prelude.{◌&&◌}
use Rattle.std.proofs.lemmas.Bool.Decides.{nat_tests}
use Rattle.std.proofs.lemmas.List.{append-nil}
use Rattle.boki_types.specs.declared.kind.Kind.{Kind}
use Rattle.boki_types.specs.declared.kind.Kind.TheVariants as kinds
use Rattle.boki_types.specs.declared.program.Function.{Function}
use Rattle.boki_types.specs.declared.program.Stmt.{Stmt}
use Rattle.boki_types.specs.declared.program.Stmt.TheVariants as stmts
use Rattle.boki_model.specs.Plans.{is_balanced}
use Rattle.line_text.specs.declared.token.Token.{Token}
use Rattle.line_text.specs.declared.checked.Checked.{Checked}
use Rattle.line_text.specs.declared.checked.Checked.TheVariants as rates
use Rattle.script_lang.specs.declared.blocks.Nesting.{Nesting}
use Rattle.script_lang.specs.declared.blocks.Nesting.TheVariants as placings
use Rattle.script_lang.specs.declared.draft.Draft.{Draft}
use Rattle.script_lang.specs.declared.draft.Stage.{Stage}
use Rattle.script_lang.specs.declared.draft.Stage.TheVariants.{Between, Inside}
use Rattle.line_text.specs.declared.fault.TextFault.{TextFault}
use Rattle.line_text.specs.declared.lines.LexedLine.{LexedLine}
use Rattle.line_text.specs.declared.lines.LexedLine.TheVariants as lines
use Rattle.line_text.specs.Lines.{lexed_line, lines_in}
use Rattle.script_lang.specs.Statements.{function_head_of, stmt_of}
use Rattle.script_lang.specs.Functions.{nesting_of, draft_with_head, new_function, draft_with_nested, draft_with_stmt, stage_line, take_line, empty_draft}
use Rattle.line_text.specs.Texts.{lines_on}
use Rattle.script_lang.specs.Texts.{draft_from, scan_functions}
use Rattle.line_text.proofs.LexedNames.{line_good, NamesValid}
use Rattle.script_lang.proofs.ExprsInLimits.{IfValid}
use Rattle.script_lang.proofs.StmtsInLimits.{AllOf, IsName, FunctionHeadInLimits, StmtInLimits, function_head_in_limits, stmt_in_limits}

pub record FunctionInLimits (f : Function) : Type 0 where
  pub name : IsName f.name
  pub params : AllOf IsName f.params
  pub few : length f.params ≤ 8
  pub lines : AllOf StmtInLimits f.lines
  pub balanced : is_balanced [] f.lines ≡ true

pub record OpenFunctionInLimits (f : Function) (bs : List Bool) : Type 0 where
  pub name : IsName f.name
  pub params : AllOf IsName f.params
  pub few : length f.params ≤ 8
  pub lines : AllOf StmtInLimits f.lines
  pub balance : (rest : List Stmt) → is_balanced [] (f.lines ++ rest) ≡ is_balanced bs rest

unfoldable pub StageInLimits : ℕ → Stage → Type 0
StageInLimits n Between = n ≤ 256
StageInLimits n (Inside f m bs) = (n < 256) × OpenFunctionInLimits f bs

pub record DraftInLimits (d : Draft) : Type 0 where
  pub functions : AllOf FunctionInLimits d.functions
  pub stage : StageInLimits (length d.functions) d.stage

abbrev ok_in : {A : Type 0} (E : Type 0) → A → Result A E
ok_in E x = Ok x

inner_ok : {A : Type 0} (E : Type 0) (x y : A) → ok_in E x ≡ ok_in E y → x ≡ y
inner_ok E x y e = cc

all_snoc : {A : Type 0} (P : A → Type 0) (xs : List A) (x : A) → AllOf P xs → P x → AllOf P (xs ++ x ∷ [])
all_snoc P [] x g h = (h, tt)
all_snoc P (y ∷ ys) x g h = (g.0, all_snoc P ys x g.1 h)

line_inner : (x y : List Bool) → placings.Within x ≡ placings.Within y → x ≡ y
line_inner x y e = cc

opens_by : (takes : Bool) (bs next : List Bool) (rest : List Stmt) (b : Bool) → ltb (length bs) 15 ≡ b → cond b (placings.Within (takes ∷ bs)) placings.TooDeep ≡ placings.Within next → (leb (length bs) 14 && is_balanced (takes ∷ bs) rest) ≡ is_balanced next rest
opens_by takes bs next rest true e f =
    let l : leb (length bs) 14 ≡ true = grind (arith, nat_tests, e) in
    let n = line_inner (takes ∷ bs) next f in
    ap (λ t. t && is_balanced (takes ∷ bs) rest) l ∙ ap (λ z. is_balanced z rest) n
opens_by takes bs next rest false e f = absurd (cc)

step_on : (bs next : List Bool) (l : Stmt) (rest : List Stmt) → nesting_of bs l ≡ placings.Within next → is_balanced bs (l ∷ rest) ≡ is_balanced next rest
step_on [] next (stmts.Let x a) rest e = ap (λ z. is_balanced z rest) (line_inner [] next e)
step_on [] next (stmts.Read x a) rest e = ap (λ z. is_balanced z rest) (line_inner [] next e)
step_on [] next (stmts.Write a b) rest e = ap (λ z. is_balanced z rest) (line_inner [] next e)
step_on [] next (stmts.Spawn x f es) rest e = ap (λ z. is_balanced z rest) (line_inner [] next e)
step_on [] next (stmts.Join x a) rest e = ap (λ z. is_balanced z rest) (line_inner [] next e)
step_on [] next (stmts.Push a b) rest e = ap (λ z. is_balanced z rest) (line_inner [] next e)
step_on [] next (stmts.Pop x a) rest e = ap (λ z. is_balanced z rest) (line_inner [] next e)
step_on [] next (stmts.Begin ps) rest e = ap (λ z. is_balanced z rest) (line_inner [] next e)
step_on [] next (stmts.Commit x ps) rest e = ap (λ z. is_balanced z rest) (line_inner [] next e)
step_on [] next (stmts.If a) rest e = opens_by true [] next rest (ltb (length {A = Bool} []) 15) refl e
step_on [] next stmts.Else rest e = absurd (cc)
step_on [] next (stmts.While a) rest e = opens_by false [] next rest (ltb (length {A = Bool} []) 15) refl e
step_on [] next stmts.End rest e = absurd (cc)
step_on [] next (stmts.Return a) rest e = ap (λ z. is_balanced z rest) (line_inner [] next e)
step_on [] next (stmts.ReadAll ps) rest e = ap (λ z. is_balanced z rest) (line_inner [] next e)
step_on (true ∷ bs) next (stmts.Let x a) rest e = ap (λ z. is_balanced z rest) (line_inner (true ∷ bs) next e)
step_on (true ∷ bs) next (stmts.Read x a) rest e = ap (λ z. is_balanced z rest) (line_inner (true ∷ bs) next e)
step_on (true ∷ bs) next (stmts.Write a b) rest e = ap (λ z. is_balanced z rest) (line_inner (true ∷ bs) next e)
step_on (true ∷ bs) next (stmts.Spawn x f es) rest e = ap (λ z. is_balanced z rest) (line_inner (true ∷ bs) next e)
step_on (true ∷ bs) next (stmts.Join x a) rest e = ap (λ z. is_balanced z rest) (line_inner (true ∷ bs) next e)
step_on (true ∷ bs) next (stmts.Push a b) rest e = ap (λ z. is_balanced z rest) (line_inner (true ∷ bs) next e)
step_on (true ∷ bs) next (stmts.Pop x a) rest e = ap (λ z. is_balanced z rest) (line_inner (true ∷ bs) next e)
step_on (true ∷ bs) next (stmts.Begin ps) rest e = ap (λ z. is_balanced z rest) (line_inner (true ∷ bs) next e)
step_on (true ∷ bs) next (stmts.Commit x ps) rest e = ap (λ z. is_balanced z rest) (line_inner (true ∷ bs) next e)
step_on (true ∷ bs) next (stmts.If a) rest e = opens_by true (true ∷ bs) next rest (ltb (length (true ∷ bs)) 15) refl e
step_on (true ∷ bs) next stmts.Else rest e = ap (λ z. is_balanced z rest) (line_inner (false ∷ bs) next e)
step_on (true ∷ bs) next (stmts.While a) rest e = opens_by false (true ∷ bs) next rest (ltb (length (true ∷ bs)) 15) refl e
step_on (true ∷ bs) next stmts.End rest e = ap (λ z. is_balanced z rest) (line_inner bs next e)
step_on (true ∷ bs) next (stmts.Return a) rest e = ap (λ z. is_balanced z rest) (line_inner (true ∷ bs) next e)
step_on (true ∷ bs) next (stmts.ReadAll ps) rest e = ap (λ z. is_balanced z rest) (line_inner (true ∷ bs) next e)
step_on (false ∷ bs) next (stmts.Let x a) rest e = ap (λ z. is_balanced z rest) (line_inner (false ∷ bs) next e)
step_on (false ∷ bs) next (stmts.Read x a) rest e = ap (λ z. is_balanced z rest) (line_inner (false ∷ bs) next e)
step_on (false ∷ bs) next (stmts.Write a b) rest e = ap (λ z. is_balanced z rest) (line_inner (false ∷ bs) next e)
step_on (false ∷ bs) next (stmts.Spawn x f es) rest e = ap (λ z. is_balanced z rest) (line_inner (false ∷ bs) next e)
step_on (false ∷ bs) next (stmts.Join x a) rest e = ap (λ z. is_balanced z rest) (line_inner (false ∷ bs) next e)
step_on (false ∷ bs) next (stmts.Push a b) rest e = ap (λ z. is_balanced z rest) (line_inner (false ∷ bs) next e)
step_on (false ∷ bs) next (stmts.Pop x a) rest e = ap (λ z. is_balanced z rest) (line_inner (false ∷ bs) next e)
step_on (false ∷ bs) next (stmts.Begin ps) rest e = ap (λ z. is_balanced z rest) (line_inner (false ∷ bs) next e)
step_on (false ∷ bs) next (stmts.Commit x ps) rest e = ap (λ z. is_balanced z rest) (line_inner (false ∷ bs) next e)
step_on (false ∷ bs) next (stmts.If a) rest e = opens_by true (false ∷ bs) next rest (ltb (length (false ∷ bs)) 15) refl e
step_on (false ∷ bs) next stmts.Else rest e = absurd (cc)
step_on (false ∷ bs) next (stmts.While a) rest e = opens_by false (false ∷ bs) next rest (ltb (length (false ∷ bs)) 15) refl e
step_on (false ∷ bs) next stmts.End rest e = ap (λ z. is_balanced z rest) (line_inner bs next e)
step_on (false ∷ bs) next (stmts.Return a) rest e = ap (λ z. is_balanced z rest) (line_inner (false ∷ bs) next e)
step_on (false ∷ bs) next (stmts.ReadAll ps) rest e = ap (λ z. is_balanced z rest) (line_inner (false ∷ bs) next e)

deep_by : (takes : Bool) (bs : List Bool) (b : Bool) → cond b (placings.Within (takes ∷ bs)) placings.TooDeep ≡ placings.FunctionEnd → bs ≡ []
deep_by takes bs true e = absurd (cc)
deep_by takes bs false e = absurd (cc)

ends_nil : (bs : List Bool) (l : Stmt) → nesting_of bs l ≡ placings.FunctionEnd → bs ≡ []
ends_nil [] (stmts.Let x a) e = refl
ends_nil [] (stmts.Read x a) e = refl
ends_nil [] (stmts.Write a b) e = refl
ends_nil [] (stmts.Spawn x f es) e = refl
ends_nil [] (stmts.Join x a) e = refl
ends_nil [] (stmts.Push a b) e = refl
ends_nil [] (stmts.Pop x a) e = refl
ends_nil [] (stmts.Begin ps) e = refl
ends_nil [] (stmts.Commit x ps) e = refl
ends_nil [] (stmts.If a) e = deep_by true [] (ltb (length {A = Bool} []) 15) e
ends_nil [] stmts.Else e = refl
ends_nil [] (stmts.While a) e = deep_by false [] (ltb (length {A = Bool} []) 15) e
ends_nil [] stmts.End e = refl
ends_nil [] (stmts.Return a) e = refl
ends_nil [] (stmts.ReadAll ps) e = refl
ends_nil (true ∷ bs) (stmts.Let x a) e = absurd (cc)
ends_nil (true ∷ bs) (stmts.Read x a) e = absurd (cc)
ends_nil (true ∷ bs) (stmts.Write a b) e = absurd (cc)
ends_nil (true ∷ bs) (stmts.Spawn x f es) e = absurd (cc)
ends_nil (true ∷ bs) (stmts.Join x a) e = absurd (cc)
ends_nil (true ∷ bs) (stmts.Push a b) e = absurd (cc)
ends_nil (true ∷ bs) (stmts.Pop x a) e = absurd (cc)
ends_nil (true ∷ bs) (stmts.Begin ps) e = absurd (cc)
ends_nil (true ∷ bs) (stmts.Commit x ps) e = absurd (cc)
ends_nil (true ∷ bs) (stmts.If a) e = deep_by true (true ∷ bs) (ltb (length (true ∷ bs)) 15) e
ends_nil (true ∷ bs) stmts.Else e = absurd (cc)
ends_nil (true ∷ bs) (stmts.While a) e = deep_by false (true ∷ bs) (ltb (length (true ∷ bs)) 15) e
ends_nil (true ∷ bs) stmts.End e = absurd (cc)
ends_nil (true ∷ bs) (stmts.Return a) e = absurd (cc)
ends_nil (true ∷ bs) (stmts.ReadAll ps) e = absurd (cc)
ends_nil (false ∷ bs) (stmts.Let x a) e = absurd (cc)
ends_nil (false ∷ bs) (stmts.Read x a) e = absurd (cc)
ends_nil (false ∷ bs) (stmts.Write a b) e = absurd (cc)
ends_nil (false ∷ bs) (stmts.Spawn x f es) e = absurd (cc)
ends_nil (false ∷ bs) (stmts.Join x a) e = absurd (cc)
ends_nil (false ∷ bs) (stmts.Push a b) e = absurd (cc)
ends_nil (false ∷ bs) (stmts.Pop x a) e = absurd (cc)
ends_nil (false ∷ bs) (stmts.Begin ps) e = absurd (cc)
ends_nil (false ∷ bs) (stmts.Commit x ps) e = absurd (cc)
ends_nil (false ∷ bs) (stmts.If a) e = deep_by true (false ∷ bs) (ltb (length (false ∷ bs)) 15) e
ends_nil (false ∷ bs) stmts.Else e = absurd (cc)
ends_nil (false ∷ bs) (stmts.While a) e = deep_by false (false ∷ bs) (ltb (length (false ∷ bs)) 15) e
ends_nil (false ∷ bs) stmts.End e = absurd (cc)
ends_nil (false ∷ bs) (stmts.Return a) e = absurd (cc)
ends_nil (false ∷ bs) (stmts.ReadAll ps) e = absurd (cc)

begun_by : (n : ℕ) (fs : List Function) (ms : List (List ℕ)) (h : List ℕ × List (List ℕ)) (d : Draft) (b : Bool) → ltb (length fs) 256 ≡ b → AllOf FunctionInLimits fs → FunctionHeadInLimits h → cond b (Ok (new_function n fs ms h)) (Err kinds.Range) ≡ Ok d → DraftInLimits d
unfolding StageInLimits
begun_by n fs ms h d true e a g f =
    let l : length fs < 256 = grind (arith, nat_tests, e) in
    subst DraftInLimits (inner_ok Kind (new_function n fs ms h) d f)
    (record { functions = a; stage = (l, record { name = g.0; params = g.1; few = g.2; lines = tt; balance = λ rest. refl }) })
begun_by n fs ms h d false e a g f = absurd (cc)

begun_good : (n : ℕ) (fs : List Function) (ms : List (List ℕ)) (o : Option (Checked (List ℕ × List (List ℕ)))) (d : Draft) → AllOf FunctionInLimits fs → ((r : Checked (List ℕ × List (List ℕ))) → o ≡ Some r → IfValid FunctionHeadInLimits r) → draft_with_head n fs ms o ≡ Ok d → DraftInLimits d
begun_good n fs ms None d a h e = absurd (cc)
begun_good n fs ms (Some rates.OutOfRange) d a h e = absurd (cc)
begun_good n fs ms (Some rates.TooDeep) d a h e = absurd (cc)
begun_good n fs ms (Some (rates.Valid x)) d a h e = begun_by n fs ms x d (ltb (length fs) 256) refl a (h (rates.Valid x) refl) e

placed_good : (n : ℕ) (fs : List Function) (ms : List (List ℕ)) (f : Function) (m : List ℕ) (bs : List Bool) (l : Stmt) (p : Nesting) (d : Draft) → nesting_of bs l ≡ p → AllOf FunctionInLimits fs → length fs < 256 → OpenFunctionInLimits f bs → StmtInLimits l → draft_with_nested n fs ms f m l p ≡ Ok d → DraftInLimits d
unfolding StageInLimits
placed_good n fs ms f m bs l (placings.Within next) d p a k g s e =
    let balance : (rest : List Stmt) → is_balanced [] ((f.lines ++ l ∷ []) ++ rest) ≡ is_balanced next rest =
    λ rest. ap (is_balanced []) (append_assoc f.lines (l ∷ []) rest) ∙ g.balance (l ∷ rest) ∙ step_on bs next l rest p in
    subst DraftInLimits (inner_ok Kind _ d e)
    (record { functions = a; stage = (k, record { name = g.name; params = g.params; few = g.few; lines = all_snoc StmtInLimits f.lines l g.lines s; balance = balance }) })
placed_good n fs ms f m bs l placings.FunctionEnd d p a k g s e =
    let nil : bs ≡ [] = ends_nil bs l p in
    let balanced : is_balanced [] f.lines ≡ true =
    ap (is_balanced []) (sym (append-nil f.lines)) ∙ g.balance [] ∙ ap (λ z. is_balanced z []) nil in
    let whole : FunctionInLimits f = record { name = g.name; params = g.params; few = g.few; lines = g.lines; balanced = balanced } in
    subst DraftInLimits (inner_ok Kind _ d e)
    (record { functions = all_snoc FunctionInLimits fs f a whole; stage = omega (arith, length-append fs (f ∷ [])) })
placed_good n fs ms f m bs l placings.Misplaced d p a k g s e = absurd (cc)
placed_good n fs ms f m bs l placings.TooDeep d p a k g s e = absurd (cc)

lined_good : (n : ℕ) (fs : List Function) (ms : List (List ℕ)) (f : Function) (m : List ℕ) (bs : List Bool) (o : Option (Checked Stmt)) (d : Draft) → AllOf FunctionInLimits fs → length fs < 256 → OpenFunctionInLimits f bs → ((r : Checked Stmt) → o ≡ Some r → IfValid StmtInLimits r) → draft_with_stmt n fs ms f m bs o ≡ Ok d → DraftInLimits d
lined_good n fs ms f m bs None d a k g h e = absurd (cc)
lined_good n fs ms f m bs (Some rates.OutOfRange) d a k g h e = absurd (cc)
lined_good n fs ms f m bs (Some rates.TooDeep) d a k g h e = absurd (cc)
lined_good n fs ms f m bs (Some (rates.Valid l)) d a k g h e = placed_good n fs ms f m bs l (nesting_of bs l) d refl a k g (h (rates.Valid l) refl) e

pub stage_in_limits : (n : ℕ) (ts : List Token) (fs : List Function) (ms : List (List ℕ)) (s : Stage) (d : Draft) → NamesValid ts → AllOf FunctionInLimits fs → StageInLimits (length fs) s → stage_line n ts fs ms s ≡ Ok d → DraftInLimits d
unfolding StageInLimits
stage_in_limits n ts fs ms Between d t a g e = begun_good n fs ms (function_head_of ts) d a (λ r. function_head_in_limits ts r t) e
stage_in_limits n ts fs ms (Inside f m bs) d t a g e = lined_good n fs ms f m bs (stmt_of ts) d a g.0 g.1 (λ r. stmt_in_limits ts r t) e

pub line_in_limits : (n : ℕ) (l : LexedLine) (d next : Draft) → ((ts : List Token) → l ≡ lines.Tokens ts → NamesValid ts) → DraftInLimits d → take_line n l d ≡ Ok next → DraftInLimits next
line_in_limits n lines.Skipped d next t g e = subst DraftInLimits (inner_ok Kind d next e) g
line_in_limits n (lines.Tokens ts) d next t g e = stage_in_limits n ts d.functions d.line_numbers d.stage next (t ts refl) g.functions g.stage e
line_in_limits n lines.Invalid d next t g e = absurd (cc)

on_line : (others : Draft → Result (ℕ × Draft) TextFault) (n : ℕ) (r : Result Draft Kind) (found : ℕ × Draft) → ((d : Draft) → r ≡ Ok d → DraftInLimits d) → ((d : Draft) (f : ℕ × Draft) → DraftInLimits d → others d ≡ Ok f → DraftInLimits f.1) → lines_on others n r ≡ Ok found → DraftInLimits found.1
on_line others n (Err k) found h g e = absurd (cc)
on_line others n (Ok d) found h g e = g d found (h d refl) e

from_good : (n : ℕ) (ls : List (List ℕ)) (rest : List ℕ) (d : Draft) (found : ℕ × Draft) → DraftInLimits d → draft_from n ls rest d ≡ Ok found → DraftInLimits found.1
from_good n [] [] d found g e = let P : ℕ × Draft → Type 0 = λ z. DraftInLimits z.1 in subst P (inner_ok TextFault (n, d) found e) g
from_good n [] (c ∷ cs) d found g e = absurd (cc)
from_good n (line ∷ ls) rest d found g e =
    on_line (draft_from (n + 1) ls rest) n (take_line n (lexed_line line) d) found
    (λ next. line_in_limits n (lexed_line line) d next (line_good line) g)
    (λ next f. from_good (n + 1) ls rest next f) e

pub empty_draft_in_limits : DraftInLimits empty_draft
unfolding StageInLimits
empty_draft_in_limits = record { functions = tt; stage = omega arith }

-- the functions of a text that ends between functions
pub scanned_in_limits : (n first : ℕ) (text : List ℕ) (d : Draft) → scan_functions first text empty_draft ≡ Ok (n, d) → d.stage ≡ Between → AllOf FunctionInLimits d.functions × (length d.functions ≤ 256)
unfolding StageInLimits
scanned_in_limits n first text d e f =
    let g = from_good first (lines_in text).0 (lines_in text).1 empty_draft (n, d) empty_draft_in_limits e in
    let P : Stage → Type 0 = λ z. StageInLimits (length d.functions) z in
    (g.functions, subst P f g.stage)
