-- The plan of so many transfers between ten accounts.
use Rattle.std.specs.Prelude.{ℕ, zero, suc, ◌+◌, ◌/◌, ◌%◌, pos, List, [], ◌∷◌, ◌++◌, None, codes}
use Rattle.std.specs.Fmt.{decimal}
use Rattle.lb_base.specs.declared.value.Mode.TheVariants as mode
use Rattle.lb_base.specs.declared.value.Value.{Value}
use Rattle.lb_base.specs.declared.value.Value.TheVariants.{Int, Text}
use Rattle.boki_types.specs.declared.event.Event.TheVariants as v
use Rattle.boki_types.specs.declared.expr.BinOp.TheVariants as o
use Rattle.boki_types.specs.declared.expr.Expr.TheVariants as e
use Rattle.boki_types.specs.declared.plan.Item.{Item}
use Rattle.boki_types.specs.declared.plan.Item.TheVariants.{One, Repeat}
use Rattle.boki_types.specs.declared.plan.Plan.{Plan}
use Rattle.boki_types.specs.declared.program.Function.{Function}
use Rattle.boki_types.specs.declared.program.Stmt.{Stmt}
use Rattle.boki_types.specs.declared.program.Stmt.TheVariants as s

-- an account is the letter `a` and a digit
abbrev pub account : ℕ → List ℕ
account digit = codes "a" ++ decimal digit

abbrev pub account_entry : ℕ → List ℕ × Value
account_entry digit = (account digit, Int (pos 1000))

-- the first so many accounts, of 1000 each
abbrev pub accounts : ℕ → List (List ℕ × Value)
accounts zero = []
accounts (suc n) = accounts n ++ account_entry n ∷ []

-- function move(a, b, n)
--   let x = read a
--   let y = read b
--   write a, x - n
--   write b, y + n
--   return x - n
-- end
abbrev pub move_lines : List Stmt
move_lines =
    s.Read (codes "x") (e.Var (codes "a"))
    ∷ s.Read (codes "y") (e.Var (codes "b"))
    ∷ s.Write (e.Var (codes "a")) (e.Two o.Sub (e.Var (codes "x")) (e.Var (codes "n")))
    ∷ s.Write (e.Var (codes "b")) (e.Two o.Add (e.Var (codes "y")) (e.Var (codes "n")))
    ∷ s.Return (e.Two o.Sub (e.Var (codes "x")) (e.Var (codes "n")))
    ∷ []

abbrev pub move : Function
move = record { name = codes "move"; params = codes "a" ∷ codes "b" ∷ codes "n" ∷ []; lines = move_lines }

-- transfer i: between which accounts, and how much
abbrev pub source_digit : ℕ → ℕ
source_digit i = i % 10

abbrev pub target_digit : ℕ → ℕ
target_digit i = (source_digit i + 1 + (i / 10) % 9) % 10

abbrev pub move_args : ℕ → List Value
move_args i = Text (account (source_digit i)) ∷ Text (account (target_digit i)) ∷ Int (pos (i % 7)) ∷ []

-- the four items of transfer i, on engine i % 4 + 1
abbrev pub move_items : ℕ → List Item
move_items i =
    One (v.Submit (i % 4 + 1) i 0 (move_args i)) ∷ One v.Sync ∷ One (v.Start i (i ∷ []) (i % 4 + 1))
    ∷ Repeat 12 (v.Step i ∷ v.Sync ∷ []) ∷ []

-- the first so many transfers
abbrev pub all_moves : ℕ → List Item
all_moves zero = []
all_moves (suc n) = all_moves n ++ move_items (suc n)

abbrev pub transfers : ℕ → Plan
transfers n = record {
  setup = record { shards = 4; replicas = 1; engines = 4; mode = mode.R; newer = None };
  objects = accounts 10;
  program = record { functions = move ∷ [] };
  items = all_moves n;
}
