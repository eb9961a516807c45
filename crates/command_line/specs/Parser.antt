-- The command line as `clap` sees it, and what its matches ask for.
use Rattle.std.specs.Prelude.{◌≡◌, ◌⊎◌, List, Option, Some, None, true, if◌then◌else◌, codes, option_and_then}
use Rattle.std.specs.Str.{bytes_eq}
use Rattle.lb_base.specs.Numeral.{num_of}
use Rattle.clap.specs.Walk.{Row, Rule, Text, first_of, one_of}
use Rattle.clap.specs.Simple.{App, Shape, new_app, new_rule, on_top, with_rule, with_subcommand}
use Rattle.clap.specs.declared.builder.action.ArgAction.TheVariants.{SetTrue}
use Rattle.command_line.specs.Words.{WithState, given, make_of, absent, plain_of, run_of}
use Rattle.command_line.specs.declared.request.Request.{Request}

-- words without the program's name, no help and no version
abbrev pub quiet : Shape → Shape
quiet s = record s {
  no_binary_name = true;
  subcommand_required = true;
  disable_help_flag = true;
  disable_help_subcommand = true;
  disable_version_flag = true;
}

-- a flag, `--NAME`
abbrev pub flag : Text → Rule
flag name = record (new_rule name) { long = Some name; action = Some SetTrue }

abbrev pub with_option : Rule
with_option = record (new_rule (codes "with")) { long = Some (codes "with") }

abbrev pub run : App
run = with_rule (with_rule (new_app (codes "run")) with_option) (flag (codes "json"))

abbrev pub transfers : Rule
transfers = record (new_rule (codes "transfers")) { required = true }

abbrev pub make : App
make = with_rule (with_rule (new_app (codes "make")) transfers) (flag (codes "plan"))

abbrev pub plain : Text → App
plain name = new_app name

abbrev pub plan_commands : App
plan_commands = with_subcommand (with_subcommand (with_subcommand (on_top quiet (new_app (codes "boki"))) run.top) (plain (codes "judge")).top) (plain (codes "check")).top

abbrev pub load_commands : App
load_commands = with_subcommand (with_subcommand (with_subcommand plan_commands make.top) (plain (codes "live")).top) (plain (codes "flow")).top

abbrev pub boki : App
boki = with_subcommand (with_subcommand (with_subcommand load_commands (plain (codes "log")).top) (plain (codes "audit")).top) (plain (codes "mux")).top

-- the matches say whether the flag was given
abbrev pub HasFlag : Text → List Row → Type 0
HasFlag name rows = (one_of name rows ≡ Some (codes "true")) ⊎ (one_of name rows ≡ Some (codes "false"))

abbrev pub HasFlagIn : Option (Text × List Row) → Type 0
HasFlagIn None = Unit {0}
HasFlagIn (Some p) = (p.0 ≡ codes "run" → HasFlag (codes "json") p.1) × (p.0 ≡ codes "make" → HasFlag (codes "plan") p.1)

abbrev pub given_by : Option Text → WithState
given_by None = absent
given_by (Some value) = given value

-- what the matches of `run` ask for
abbrev pub run_answer : List Row → Option Request
run_answer rows = option_and_then (λ text. run_of (bytes_eq text (codes "true")) (given_by (first_of (codes "with") rows))) (one_of (codes "json") rows)

-- and those of `make`
abbrev pub make_answer : List Row → Option Request
make_answer rows = option_and_then (λ text. make_of (bytes_eq text (codes "true")) (option_and_then num_of (first_of (codes "transfers") rows))) (one_of (codes "plan") rows)

-- what the subcommand that was met, with its matches, asks for
abbrev pub answer : Option (Text × List Row) → Option Request
answer None = None
answer (Some p) =
    if bytes_eq p.0 (codes "run") then run_answer p.1
    else (if bytes_eq p.0 (codes "make") then make_answer p.1 else plain_of p.0)
