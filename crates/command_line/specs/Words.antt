-- Which words the program accepts, and what they ask for. They stand without the program's name.
use Rattle.std.specs.Prelude.{ℕ, ◌≤◌, ◌&&◌, Bool, true, false, not, List, [], ◌∷◌, take, drop, Option, Some, None, option_map, option_and_then, nat_le, if◌then◌else◌, codes}
use Rattle.std.specs.Str.{bytes_eq}
use Rattle.lb_base.specs.Numeral.{num_of}
use Rattle.command_line.specs.declared.request.With.{With}
use Rattle.command_line.specs.declared.request.With.TheVariants.{All, One}
use Rattle.command_line.specs.declared.request.Request.{Request}
use Rattle.command_line.specs.declared.request.Request.TheVariants.{Run, Judge, Check, Make, Live, Flow, Log, Audit, Mux}

-- ---- `run`, with `--with I` and `--json` in any order, each at most once

-- one nemesis, by its number from 1 to 16
abbrev pub one_of : Option ℕ → Option With
one_of None = None
one_of (Some n) = if nat_le 1 n && nat_le n 16 then Some (One n) else None

-- which nemeses the value of `--with` names: `all` of them, or one
abbrev pub with_of : List ℕ → Option With
with_of value = if bytes_eq value (codes "all") then Some All else one_of (num_of value)

-- how much of `--with` was given: neither the word nor a value, the word alone, or a value
pub data WithState : Type 0 where
  absent : WithState
  awaited : WithState
  given : List ℕ → WithState

-- what words that gave so much ask for
abbrev pub run_of : Bool → WithState → Option Request
run_of json absent = Some (Run None json)
run_of json awaited = None
run_of json (given value) = option_map (λ w. Run (Some w) json) (with_of value)

-- the words behind `run`, one after another: whether `--json` was given before them, and how much of `--with`. The value of `--with` is the next word, or stands behind `=` in its own.
abbrev pub run_request : Bool → WithState → List (List ℕ) → Option Request
run_request json absent [] = run_of json absent
run_request json awaited [] = run_of json awaited
run_request json (given value) [] = run_of json (given value)
run_request json absent (word ∷ words) =
    if bytes_eq word (codes "--json") && not json then run_request true absent words
    else (if bytes_eq word (codes "--with") then run_request json awaited words
    else (if bytes_eq (take 7 word) (codes "--with=") then run_request json (given (drop 7 word)) words else None))
run_request json awaited (word ∷ words) = run_request json (given word) words
run_request json (given value) (word ∷ words) =
    if bytes_eq word (codes "--json") && not json then run_request true (given value) words else None

-- ---- `make N`, with `--plan` at most once before or behind N

-- so many transfers, from 1 to 4,000
abbrev pub make_of : Bool → Option ℕ → Option Request
make_of plan None = None
make_of plan (Some n) = if nat_le 1 n && nat_le n 4000 then Some (Make n plan) else None

abbrev pub make_request : List (List ℕ) → Option Request
make_request [] = None
make_request (word ∷ []) = make_of false (num_of word)
make_request (word ∷ other ∷ []) =
    if bytes_eq word (codes "--plan") then make_of true (num_of other)
    else (if bytes_eq other (codes "--plan") then make_of true (num_of word) else None)
make_request (word ∷ other ∷ last ∷ words) = None

-- ---- the other commands, which stand alone

abbrev pub plain_of : List ℕ → Option Request
plain_of name =
    if bytes_eq name (codes "judge") then Some Judge
    else (if bytes_eq name (codes "check") then Some Check
    else (if bytes_eq name (codes "live") then Some Live
    else (if bytes_eq name (codes "flow") then Some Flow
    else (if bytes_eq name (codes "log") then Some Log
    else (if bytes_eq name (codes "audit") then Some Audit
    else (if bytes_eq name (codes "mux") then Some Mux else None))))))

abbrev pub alone : List (List ℕ) → Request → Option Request
alone [] r = Some r
alone (word ∷ words) r = None

-- what all the words ask for, or None where they aren't accepted
abbrev pub request : List (List ℕ) → Option Request
request [] = None
request (name ∷ words) =
    if bytes_eq name (codes "run") then run_request false absent words
    else (if bytes_eq name (codes "make") then make_request words
    else option_and_then (alone words) (plain_of name))

-- the numbers of a request are in their ranges
abbrev pub IsInRange : Option Request → Type 0
IsInRange None = Unit {0}
IsInRange (Some (Run None json)) = Unit {0}
IsInRange (Some (Run (Some All) json)) = Unit {0}
IsInRange (Some (Run (Some (One n)) json)) = (1 ≤ n) × (n ≤ 16)
IsInRange (Some (Make n plan)) = (1 ≤ n) × (n ≤ 4000)
IsInRange (Some _) = Unit {0}
