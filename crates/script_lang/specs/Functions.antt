-- Functions, line by line.
use Rattle.std.specs.Prelude.{◌≡◌, ℕ, Bool, true, false, List, [], ◌∷◌, ◌++◌, length, Option, Some, None, Result, Ok, Err, nat_lt, if◌then◌else◌}
use Rattle.boki_types.specs.declared.kind.Kind.{Kind}
use Rattle.boki_types.specs.declared.kind.Kind.TheVariants as kind
use Rattle.boki_types.specs.declared.program.Function.{Function}
use Rattle.boki_types.specs.declared.program.Stmt.{Stmt}
use Rattle.boki_types.specs.declared.program.Stmt.TheVariants as s
use Rattle.line_text.specs.declared.token.Token.{Token}
use Rattle.line_text.specs.declared.checked.Checked.{Checked}
use Rattle.line_text.specs.declared.checked.Checked.TheVariants as r
use Rattle.script_lang.specs.declared.blocks.Nesting.{Nesting}
use Rattle.script_lang.specs.declared.blocks.Nesting.TheVariants as p
use Rattle.script_lang.specs.declared.draft.Draft.{Draft}
use Rattle.script_lang.specs.declared.draft.Stage.{Stage}
use Rattle.script_lang.specs.declared.draft.Stage.TheVariants.{Between, Inside}
use Rattle.line_text.specs.declared.lines.LexedLine.{LexedLine}
use Rattle.line_text.specs.declared.lines.LexedLine.TheVariants as l
use Rattle.script_lang.specs.Statements.{function_head_of, stmt_of}

-- Where a line stands among the blocks that are open, without the function itself, the innermost first. Of each it is told
-- whether an `else` may come. At most 16 blocks are open at once, the function among them.
abbrev pub nest_block : Bool → List Bool → Nesting
nest_block takes_else bs = if nat_lt (length bs) 15 then p.Within (takes_else ∷ bs) else p.TooDeep

abbrev pub nest_else : List Bool → Nesting
nest_else [] = p.Misplaced
nest_else (true ∷ bs) = p.Within (false ∷ bs)
nest_else (false ∷ bs) = p.Misplaced

abbrev pub nest_end : List Bool → Nesting
nest_end [] = p.FunctionEnd
nest_end (b ∷ bs) = p.Within bs

abbrev pub nesting_of : List Bool → Stmt → Nesting
nesting_of bs (s.If a) = nest_block true bs
nesting_of bs (s.While a) = nest_block false bs
nesting_of bs s.Else = nest_else bs
nesting_of bs s.End = nest_end bs
nesting_of bs _ = p.Within bs

-- A function begins, unless there are 256.
abbrev pub new_function : ℕ → List Function → List (List ℕ) → List ℕ × List (List ℕ) → Draft
new_function n fs ms head = record {
  functions = fs;
  line_numbers = ms;
  stage = Inside (record { name = head.0; params = head.1; lines = [] }) (n ∷ []) [];
}

abbrev pub draft_with_head : ℕ → List Function → List (List ℕ) → Option (Checked (List ℕ × List (List ℕ))) → Result Draft Kind
draft_with_head n fs ms None = Err kind.Syntax
draft_with_head n fs ms (Some r.OutOfRange) = Err kind.Range
draft_with_head n fs ms (Some r.TooDeep) = Err kind.Deep
draft_with_head n fs ms (Some (r.Valid head)) = if nat_lt (length fs) 256 then Ok (new_function n fs ms head) else Err kind.Range

-- a line of a function, where it stands well
abbrev pub draft_with_nested : ℕ → List Function → List (List ℕ) → Function → List ℕ → Stmt → Nesting → Result Draft Kind
draft_with_nested n fs ms f m l (p.Within bs) =
    Ok (record { functions = fs; line_numbers = ms; stage = Inside (record f { lines = f.lines ++ l ∷ [] }) (m ++ n ∷ []) bs })
draft_with_nested n fs ms f m l p.FunctionEnd = Ok (record { functions = fs ++ f ∷ []; line_numbers = ms ++ m ∷ []; stage = Between })
draft_with_nested n fs ms f m l p.Misplaced = Err kind.Syntax
draft_with_nested n fs ms f m l p.TooDeep = Err kind.Deep

abbrev pub draft_with_stmt : ℕ → List Function → List (List ℕ) → Function → List ℕ → List Bool → Option (Checked Stmt) → Result Draft Kind
draft_with_stmt n fs ms f m bs None = Err kind.Syntax
draft_with_stmt n fs ms f m bs (Some r.OutOfRange) = Err kind.Range
draft_with_stmt n fs ms f m bs (Some r.TooDeep) = Err kind.Deep
draft_with_stmt n fs ms f m bs (Some (r.Valid l)) = draft_with_nested n fs ms f m l (nesting_of bs l)

-- a line of these tokens: between functions the head of one, and else a statement
abbrev pub stage_line : ℕ → List Token → List Function → List (List ℕ) → Stage → Result Draft Kind
stage_line n ts fs ms Between = draft_with_head n fs ms (function_head_of ts)
stage_line n ts fs ms (Inside f m bs) = draft_with_stmt n fs ms f m bs (stmt_of ts)

abbrev pub draft_line : ℕ → List Token → Draft → Result Draft Kind
draft_line n ts d = stage_line n ts d.functions d.line_numbers d.stage

-- a line of a text
abbrev pub take_line : ℕ → LexedLine → Draft → Result Draft Kind
take_line n l.Skipped d = Ok d
take_line n (l.Tokens ts) d = draft_line n ts d
take_line n l.Invalid d = Err kind.Syntax

-- no function
abbrev pub empty_draft : Draft
empty_draft = record { functions = []; line_numbers = []; stage = Between }

-- whether a function is open
abbrev pub is_in_function : Stage → Bool
is_in_function Between = false
is_in_function (Inside f m bs) = true
