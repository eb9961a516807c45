-- The children that a script asks for have paths: one that it spawns or joins is one number deeper than its own path,
-- which has room for that.
use Rattle.std.specs.Prelude.{◌≡◌, ℕ, ◌<◌, List, length, Some}
use Rattle.lb_base.specs.Path.{IsPath, child_path}
use Rattle.lb_base.specs.declared.value.Value.{Value}
use Rattle.boki_types.specs.declared.program.Function.{Function}
use Rattle.boki_types.specs.declared.operation.Op.{Op}
use Rattle.boki_types.specs.declared.operation.Op.TheVariants as o
use Rattle.boki_types.specs.declared.operation.Ask.TheVariants as k
use Rattle.boki_types.specs.declared.operation.Answer.{Answer}
use Rattle.boki_model.specs.Bodies.{child}
use Rattle.boki_model.specs.Script.{next_ask}

-- the ordinal of a child, where the path of its parent has so many numbers
pub record IsChild (depth ordinal : ℕ) : Type 0 where
  pub shallow : depth ≡ 4 → ⊥
  pub from_one : 0 < ordinal
  pub few : ordinal < 4096

abbrev pub AsksChild : ℕ → Op → Type 0
AsksChild depth (o.Spawn ordinal f args) = IsChild depth ordinal
AsksChild depth (o.Join ordinal) = IsChild depth ordinal
AsksChild depth _ = Unit {0}

-- what `Path::child` answers
abbrev pub HasPath : List ℕ → Op → Type 0
HasPath path (o.Spawn ordinal f args) = child_path path ordinal ≡ Some (child path ordinal)
HasPath path (o.Join ordinal) = child_path path ordinal ≡ Some (child path ordinal)
HasPath path _ = Unit {0}

-- an attempt asks what its function asks after its answers, at the depth of its path
abbrev pub ChildrenHavePaths : Type 0
ChildrenHavePaths =
    (fs : List Function) (function : ℕ) (args : List Value) (path : List ℕ) (answers : List Answer) (op : Op)
    → IsPath path → next_ask fs function args (length path) answers ≡ Some (k.Op op) → HasPath path op
