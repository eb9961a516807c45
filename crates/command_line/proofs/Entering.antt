-- The first word names a subcommand, and the words behind it are the subcommand's.
use Rattle.std.proofs.Common.{◌≡◌, ◌∙◌, ◌++◌, false, refl, sym, ap, ap₂, append_assoc, append-nil, List, [], ◌∷◌, Some, codes, is_some}
use Rattle.std.specs.Prelude.{find}
use Rattle.std.specs.List.{fold}
use Rattle.clap.specs.Kinds.{Kinds, or_else}
use Rattle.clap.specs.Walk.{Names, Rule, Text, Walk, answers_to, finished, nothing_held, settled, walk, walk_from, walked}
use Rattle.clap.specs.Simple.{App, Shape, built, built_leaf, entered, inherited, label_of, marked_built, names_of, rows_at, subcommand_of, with_leaf_noted}
use Rattle.clap.specs.Faults.{check_fault, defaults_fault, entered_fault, fault_of, level_fault, settle_fault, turn_fault, walk_fault}
use Rattle.clap.proofs.OnLiterals.{clap_on_literals}
use Rattle.command_line.specs.Parser.{boki, make, plain, run}
use Rattle.command_line.proofs.Leaf.{no_fault}

-- the walk that has met a subcommand, and these words after it
abbrev pub stopped_at : Walk → Text → List Text → Walk
stopped_at w name met = record w { stopped = Some (name, met) }

walk_goes_on : (c : List Rule) (names : Names) (w : Walk) (name : Text) (met rest : List Text)
    → fold (walked c names) (stopped_at w name met) rest ≡ stopped_at w name (met ++ rest)
unfolding walked
walk_goes_on c names w name met [] = ap (stopped_at w name) (sym (append-nil met))
walk_goes_on c names w name met (word ∷ rest) =
    walk_goes_on c names w name (met ++ word ∷ []) rest ∙ ap (stopped_at w name) (append_assoc met (word ∷ []) rest)

no_more_faults : (s : Shape) (names : Names) (w : Walk) (name : Text) (met rest : List Text) → walk_fault s names (stopped_at w name met) rest ≡ []
unfolding walked walk_fault
no_more_faults s names w name met [] = refl
no_more_faults s names w name met (word ∷ rest) = no_more_faults s names w name (met ++ word ∷ []) rest

-- the whole fault, of the walk at its end and of the walk's faults
abbrev whole_fault : App → Kinds → Walk → Kinds
whole_fault a faults end =
    or_else faults (or_else (entered_fault a end.stopped) (or_else (settle_fault a.top.rules a.top.args_override_self end.held)
    (or_else (defaults_fault (settled a.top.rules end.held).rows a.top.rules)
    (check_fault a.top (finished a.top.rules end.held) (is_some (entered a end.stopped))))))

-- a subcommand of `boki` as building leaves it
abbrev pub inner : Shape → Shape
inner = λ s. built_leaf (inherited (with_leaf_noted (marked_built boki.top)) s)

abbrev pub IsEntered : Text → Shape → Type 0
IsEntered name s =
    (walked (built boki).top.rules (names_of (built boki)) (walk_from nothing_held) name ≡ stopped_at (walk_from nothing_held) name [])
    × (turn_fault (built boki).top (names_of (built boki)) (walk_from nothing_held) name ≡ [])
    × (find (λ x. answers_to name (label_of x)) (built boki).subs ≡ Some s)

module _ (name : Text) (s : Shape) (met : IsEntered name s) (rest : List Text) where
  walk_is : walk (built boki).top.rules (names_of (built boki)) nothing_held (name ∷ rest) ≡ stopped_at (walk_from nothing_held) name rest
  walk_is = ap (λ w. fold (walked (built boki).top.rules (names_of (built boki))) w rest) met.0 ∙ walk_goes_on (built boki).top.rules (names_of (built boki)) (walk_from nothing_held) name [] rest

  faults_are : walk_fault (built boki).top (names_of (built boki)) (walk_from nothing_held) (name ∷ rest) ≡ []
  unfolding walk_fault
  faults_are = ap₂ (λ t w. or_else t (walk_fault (built boki).top (names_of (built boki)) w rest)) met.1 met.0
      ∙ no_more_faults (built boki).top (names_of (built boki)) (walk_from nothing_held) name [] rest

  whole_is : whole_fault (built boki) [] (stopped_at (walk_from nothing_held) name rest) ≡ level_fault s [] nothing_held rest false []
  unfolding defaults_fault
  whole_is = rw met.2 (no_fault (level_fault s [] nothing_held rest false []))

  -- the faults are those of the subcommand
  pub entered_fault_is : fault_of boki (name ∷ rest) ≡ level_fault s [] nothing_held rest false []
  entered_fault_is = ap₂ (whole_fault (built boki)) faults_are walk_is ∙ whole_is

  -- and so are the matches
  pub entered_matches_are : subcommand_of boki (name ∷ rest) ≡ Some (rows_at s rest)
  entered_matches_are = ap (λ (w : Walk). entered (built boki) w.stopped) walk_is ∙ rw met.2 refl

pub run_entered : IsEntered (codes "run") (inner run.top)
unfolding clap_on_literals
run_entered = (refl, refl, refl)

pub judge_entered : IsEntered (codes "judge") (inner (plain (codes "judge")).top)
unfolding clap_on_literals
judge_entered = (refl, refl, refl)

pub check_entered : IsEntered (codes "check") (inner (plain (codes "check")).top)
unfolding clap_on_literals
check_entered = (refl, refl, refl)

pub make_entered : IsEntered (codes "make") (inner make.top)
unfolding clap_on_literals
make_entered = (refl, refl, refl)

pub live_entered : IsEntered (codes "live") (inner (plain (codes "live")).top)
unfolding clap_on_literals
live_entered = (refl, refl, refl)

pub flow_entered : IsEntered (codes "flow") (inner (plain (codes "flow")).top)
unfolding clap_on_literals
flow_entered = (refl, refl, refl)

pub log_entered : IsEntered (codes "log") (inner (plain (codes "log")).top)
unfolding clap_on_literals
log_entered = (refl, refl, refl)

pub audit_entered : IsEntered (codes "audit") (inner (plain (codes "audit")).top)
unfolding clap_on_literals
audit_entered = (refl, refl, refl)

pub mux_entered : IsEntered (codes "mux") (inner (plain (codes "mux")).top)
unfolding clap_on_literals
mux_entered = (refl, refl, refl)
