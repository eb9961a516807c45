-- How values, results, modes and paths are printed.
use Rattle.std.specs.Prelude.{ℕ, List, [], ◌∷◌, ◌++◌, codes, flat_map}
use Rattle.std.specs.Fmt.{decimal, signed_decimal}
use Rattle.lb_base.specs.Quoted.{quoted}
use Rattle.lb_base.specs.declared.value.Value.{Value}
use Rattle.lb_base.specs.declared.value.Value.TheVariants.{Int, Text, Nothing}
use Rattle.lb_base.specs.declared.value.Mode.{Mode}
use Rattle.lb_base.specs.declared.value.Mode.TheVariants as mode
use Rattle.lb_base.specs.declared.value.TrapKind.{TrapKind}
use Rattle.lb_base.specs.declared.value.TrapKind.TheVariants as trap
use Rattle.lb_base.specs.declared.value.Outcome.{Outcome}
use Rattle.lb_base.specs.declared.value.Outcome.TheVariants.{Good, Trap}

-- an integer, a quoted text, or `none`
abbrev pub value_text : Value → List ℕ
value_text (Int n) = signed_decimal n
value_text (Text text) = quoted text
value_text Nothing = codes "none"

-- the letter of a mode
abbrev pub mode_text : Mode → List ℕ
mode_text mode.R = codes "R"
mode_text mode.W = codes "W"
mode_text mode.T = codes "T"

-- the word of a trap
abbrev pub trap_text : TrapKind → List ℕ
trap_text trap.Overflow = codes "overflow"
trap_text trap.Divide = codes "divide"
trap_text trap.Loop = codes "loop"
trap_text trap.Key = codes "key"
trap_text trap.Join = codes "join"
trap_text trap.Txn = codes "txn"
trap_text trap.Text = codes "text"
trap_text trap.Kind = codes "kind"
trap_text trap.Spawn = codes "spawn"

-- `value V`, or `trap KIND`
abbrev pub outcome_text : Outcome → List ℕ
outcome_text (Good value) = codes "value " ++ value_text value
outcome_text (Trap kind) = codes "trap " ++ trap_text kind

-- numbers, each behind a dot
abbrev pub dotted : List ℕ → List ℕ
dotted numbers = flat_map (λ n. codes "." ++ decimal n) numbers

-- a path's numbers, with dots between them
abbrev pub path_text : List ℕ → List ℕ
path_text [] = []
path_text (n ∷ ns) = decimal n ++ dotted ns
