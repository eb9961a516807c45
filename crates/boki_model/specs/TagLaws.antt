-- Laws of the tags of paths, and of the first records of requests and invocations.
use Rattle.std.specs.Prelude.{◌≡◌, ℕ, suc, ◌≤◌, Bool, false, if◌then◌else◌, List, [], ◌∷◌, Option, Some, bytes_eq}
use Rattle.lb_base.specs.declared.value.Tag.{Tag}
use Rattle.lb_base.specs.declared.value.Cond.{Cond}
use Rattle.lb_base.specs.Path.{IsPath}
use Rattle.boki_types.specs.declared.body.Body.{Body}
use Rattle.boki_types.specs.declared.body.Body.TheVariants as body
use Rattle.boki_model.specs.Live.{LogRecord, Live, live}
use Rattle.boki_model.specs.Bodies.{call_tag, step_tag, tags_of}

-- paths with the same tag are the same, and no call tag is a step tag
pub record TagsTellPaths : Type 0 where
  pub calls : (p q : List ℕ) → IsPath p → IsPath q → call_tag p ≡ call_tag q → p ≡ q
  pub steps : (p q : List ℕ) → IsPath p → IsPath q → step_tag p ≡ step_tag q → p ≡ q
  pub apart : (p q : List ℕ) → IsPath p → IsPath q → call_tag p ≡ step_tag q → ⊥

-- the condition that no live record has the tag yet
abbrev pub first_with_tag : ℕ → Option Cond
first_with_tag tag = Some (record { tag = record { 0 = tag }; place = 0 })

-- a submission, and the Init of an invocation, are the first of their tag, and have their own tags
abbrev pub IsFirst : Body → List Tag → Option Cond → Type 0
IsFirst (body.Submit p f args) tags condition = (tags ≡ tags_of (body.Submit p f args)) × (condition ≡ first_with_tag (call_tag p))
IsFirst (body.Init p) tags condition = (tags ≡ tags_of (body.Init p)) × (condition ≡ first_with_tag (step_tag p))
IsFirst _ tags condition = Unit {0}

abbrev pub AreFirst : List (LogRecord Body) → Type 0
AreFirst [] = Unit {0}
AreFirst (r ∷ log) = IsFirst r.holds r.tags r.condition × AreFirst log

abbrev pub is_submit : List ℕ → Body → Bool
is_submit path (body.Submit p f args) = bytes_eq path p
is_submit path _ = false

abbrev pub is_init : List ℕ → Body → Bool
is_init path (body.Init p) = bytes_eq path p
is_init path _ = false

-- how many live records pass
abbrev pub how_many : (Body → Bool) → List (Live Body) → ℕ
how_many passes [] = 0
how_many passes (x ∷ xs) = if passes x.holds then suc (how_many passes xs) else how_many passes xs

-- a path has at most one live submission, and at most one live Init
pub record IsBegunOnce (log : List (LogRecord Body)) : Type 0 where
  pub submits : (path : List ℕ) → how_many (is_submit path) (live log) ≤ 1
  pub inits : (path : List ℕ) → how_many (is_init path) (live log) ≤ 1

abbrev pub BegunOnce : Type 0
BegunOnce = (log : List (LogRecord Body)) → AreFirst log → IsBegunOnce log
