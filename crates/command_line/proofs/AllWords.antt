-- All words: what `clap` makes of them is what the table says.
use Rattle.std.proofs.Common.{◌≡◌, ◌≢◌, ◌∙◌, Bool, true, false, true≢false, cond, refl, sym, ap, subst, List, [], ◌∷◌, Option, Some, None, codes, inl, inr}
use Rattle.std.specs.Prelude.{find, option_and_then}
use Rattle.std.specs.Str.{bytes_eq}
use Rattle.std.proofs.lemmas.Slice.Eq.{bytes_eq-Decides}
use Rattle.clap.specs.Kinds.{HasKind, Kinds}
use Rattle.clap.specs.Values.{kind_of}
use Rattle.clap.specs.Walk.{Row, Text, answers_to, nothing_held, walk_from}
use Rattle.clap.specs.Simple.{App, HasMatchesOf, Shape, built, is_simple, names_of, rows_at, subcommand_of, subcommand_rows_of}
use Rattle.clap.specs.Faults.{fault_of, is_simple_and_free, level_fault}
use Rattle.clap.specs.declared.error.Error.{Error}
use Rattle.clap.specs.declared.error.kind.ErrorKind.TheVariants as kind
use Rattle.clap.specs.declared.parser.matches.ArgMatches.{ArgMatches}
use Rattle.clap.proofs.OnLiterals.{clap_on_literals}
use Rattle.command_line.specs.Parser.{HasFlagIn, answer, boki, plain}
use Rattle.command_line.specs.Words.{alone, make_request, absent, plain_of, request, run_request}
use Rattle.command_line.specs.declared.request.Request.{Request}
use Rattle.command_line.specs.declared.request.Request.TheVariants.{Judge, Check, Live, Flow, Log, Audit, Mux}
use Rattle.command_line.proofs.Dashes.{first_clear, has_dashes, rest_clear}
use Rattle.command_line.proofs.Entering.{IsEntered, audit_entered, check_entered, entered_fault_is, entered_matches_are, flow_entered, inner, judge_entered, live_entered, log_entered, make_entered, mux_entered, run_entered}
use Rattle.command_line.proofs.Leaf.{fails, level_fails, turn_fails, walk_fails}
use Rattle.command_line.proofs.MakeWords.{make_reads}
use Rattle.command_line.proofs.Outcomes.{Reads, among_fails, failed}
use Rattle.command_line.proofs.RunWords.{run_reads}

-- what the subcommand s makes of its words
abbrev ReadsBehind : Shape → List Text → Option Request → Type 0
ReadsBehind s words r = Reads (level_fault s [] nothing_held words false []) (Some (rows_at s words)) r

-- what `boki` makes of all the words
abbrev pub ReadsAll : List Text → Option Request → Type 0
ReadsAll words r = Reads (fault_of boki words) (subcommand_of boki words) r

enters : (name : Text) (s : Shape) (met : IsEntered name s) (words : List Text) (r : Option Request) → ReadsBehind s words r → ReadsAll (name ∷ words) r
enters name s met words r h =
    subst (λ (k : Kinds). Reads k (subcommand_of boki (name ∷ words)) r) (sym (entered_fault_is name s met words))
    (subst (λ (o : Option (Text × List Row)). Reads (level_fault s [] nothing_held words false []) o r) (sym (entered_matches_are name s met words)) h)

-- a command with no flag
no_flags : (name : Text) → bytes_eq name (codes "run") ≡ false → bytes_eq name (codes "make") ≡ false → HasFlagIn (Some (name, []))
no_flags name f g = (
  λ is. absurd (true≢false (sym ((bytes_eq-Decides name (codes "run")).1 is) ∙ f)),
  λ is. absurd (true≢false (sym ((bytes_eq-Decides name (codes "make")).1 is) ∙ g)),
)

-- a command that stands alone
alone_reads : (name : Text) (r : Request) → HasFlagIn (Some (name, [])) → answer (Some (name, [])) ≡ Some r → (words : List Text) → has_dashes words ≡ false
    → ReadsBehind (inner (plain name).top) words (alone words r)
unfolding clap_on_literals
alone_reads name r flags answers [] e = (flags, answers)
alone_reads name r flags answers (word ∷ words) e =
    failed (level_fault (inner (plain name).top) [] nothing_held (word ∷ words) false []) _ _
    (level_fails (inner (plain name).top) [] (word ∷ words) false [] (walk_fails (inner (plain name).top) [] (walk_from nothing_held) word words (turn_fails (inner (plain name).top) [] word refl (first_clear word words e)))) refl

-- a test of a word, from the other side
turned : (word other : Text) → bytes_eq word other ≡ false → bytes_eq other word ≡ false
turned word other e = go (bytes_eq other word) refl
  where
    go : (b : Bool) → bytes_eq other word ≡ b → b ≡ false
    go true f = absurd (true≢false (sym ((bytes_eq-Decides word other).1 (sym ((bytes_eq-Decides other word).0 f))) ∙ e))
    go false f = refl

-- the name is that of no command
pub record IsNoCommand (name : Text) : Type 0 where
  pub no_run : bytes_eq name (codes "run") ≡ false
  pub no_judge : bytes_eq name (codes "judge") ≡ false
  pub no_check : bytes_eq name (codes "check") ≡ false
  pub no_make : bytes_eq name (codes "make") ≡ false
  pub no_live : bytes_eq name (codes "live") ≡ false
  pub no_flow : bytes_eq name (codes "flow") ≡ false
  pub no_log : bytes_eq name (codes "log") ≡ false
  pub no_audit : bytes_eq name (codes "audit") ≡ false
  pub no_mux : bytes_eq name (codes "mux") ≡ false

no_subcommand : (name : Text) → IsNoCommand name → find (answers_to name) (names_of (built boki)) ≡ None
no_subcommand name h =
    let a = turned name (codes "run") h.no_run in
    let b = turned name (codes "judge") h.no_judge in
    let c = turned name (codes "check") h.no_check in
    let d = turned name (codes "make") h.no_make in
    let e = turned name (codes "live") h.no_live in
    let f = turned name (codes "flow") h.no_flow in
    let g = turned name (codes "log") h.no_log in
    let i = turned name (codes "audit") h.no_audit in
    let j = turned name (codes "mux") h.no_mux in
    rw (a, b, c, d, e, f, g, i, j) refl

unknown_fails : (name : Text) (words : List Text) → bytes_eq name (codes "--") ≡ false → IsNoCommand name → fails (fault_of boki (name ∷ words)) ≡ true
unknown_fails name words dashes h =
    level_fails (built boki).top (names_of (built boki)) (name ∷ words) _ _
    (walk_fails (built boki).top (names_of (built boki)) (walk_from nothing_held) name words (turn_fails (built boki).top (names_of (built boki)) name (no_subcommand name h) dashes))

no_words : ReadsAll [] None
unfolding clap_on_literals
no_words = refl

-- a choice by a test
by_test : (P : Option Request → Type 0) (b : Bool) (x y : Option Request) → (b ≡ true → P x) → (b ≡ false → P y) → P (cond b x y)
by_test P true x y f g = f refl
by_test P false x y f g = g refl

module _ (name : Text) (words : List Text) (clear : has_dashes (name ∷ words) ≡ false) where
  behind : has_dashes words ≡ false
  behind = rest_clear name words clear

  alone_entered : (text : Text) (r : Request) → IsEntered text (inner (plain text).top) → HasFlagIn (Some (text, [])) → answer (Some (text, [])) ≡ Some r
      → bytes_eq name text ≡ true → ReadsAll (name ∷ words) (alone words r)
  alone_entered text r met flags answers is =
      rw ((bytes_eq-Decides name text).0 is) (enters text (inner (plain text).top) met words (alone words r) (alone_reads text r flags answers words behind))

  -- what the words ask for, by the command that stands alone
  abbrev ReadsPlain : Option Request → Type 0
  ReadsPlain o = ReadsAll (name ∷ words) (option_and_then (alone words) o)

  plain_reads : bytes_eq name (codes "run") ≡ false → bytes_eq name (codes "make") ≡ false → ReadsPlain (plain_of name)
  plain_reads no_run no_make =
      by_test ReadsPlain (bytes_eq name (codes "judge")) _ _ (alone_entered (codes "judge") Judge judge_entered (no_flags (codes "judge") refl refl) refl) (λ a.
      by_test ReadsPlain (bytes_eq name (codes "check")) _ _ (alone_entered (codes "check") Check check_entered (no_flags (codes "check") refl refl) refl) (λ b.
      by_test ReadsPlain (bytes_eq name (codes "live")) _ _ (alone_entered (codes "live") Live live_entered (no_flags (codes "live") refl refl) refl) (λ c.
      by_test ReadsPlain (bytes_eq name (codes "flow")) _ _ (alone_entered (codes "flow") Flow flow_entered (no_flags (codes "flow") refl refl) refl) (λ d.
      by_test ReadsPlain (bytes_eq name (codes "log")) _ _ (alone_entered (codes "log") Log log_entered (no_flags (codes "log") refl refl) refl) (λ e.
      by_test ReadsPlain (bytes_eq name (codes "audit")) _ _ (alone_entered (codes "audit") Audit audit_entered (no_flags (codes "audit") refl refl) refl) (λ f.
      by_test ReadsPlain (bytes_eq name (codes "mux")) _ _ (alone_entered (codes "mux") Mux mux_entered (no_flags (codes "mux") refl refl) refl) (λ g.
      failed (fault_of boki (name ∷ words)) _ _
      (unknown_fails name words (first_clear name words clear) (record {
        no_run = no_run;
        no_judge = a;
        no_check = b;
        no_make = no_make;
        no_live = c;
        no_flow = d;
        no_log = e;
        no_audit = f;
        no_mux = g;
      })) refl)))))))

  command_reads : ReadsAll (name ∷ words) (request (name ∷ words))
  command_reads =
      by_test (ReadsAll (name ∷ words)) (bytes_eq name (codes "run")) _ _
      (λ is. rw ((bytes_eq-Decides name (codes "run")).0 is) (enters (codes "run") _ run_entered words (run_request false absent words) (run_reads words behind))) (λ no_run.
      by_test (ReadsAll (name ∷ words)) (bytes_eq name (codes "make")) _ _
      (λ is. rw ((bytes_eq-Decides name (codes "make")).0 is) (enters (codes "make") _ make_entered words (make_request words) (make_reads words behind))) (λ no_make.
      plain_reads no_run no_make))

pub all_read : (words : List Text) → has_dashes words ≡ false → ReadsAll words (request words)
all_read [] e = no_words
all_read (name ∷ words) e = command_reads name words e

boki_simple : is_simple boki ≡ true
unfolding clap_on_literals
boki_simple = refl

boki_free : is_simple_and_free boki ≡ true
unfolding clap_on_literals
boki_free = refl

-- the matches ask for what the words ask for
pub taken : (app : App) (words : List Text) (m : ArgMatches) (r : Option Request) → app ≡ boki → has_dashes words ≡ false
    → (is_simple_and_free app ≡ true → fault_of app words ≡ []) → HasMatchesOf app words m → (HasFlagIn (subcommand_rows_of m) → r ≡ answer (subcommand_rows_of m))
    → r ≡ request words
taken app words m r is clear faults matches reads =
    let none = faults (ap is_simple_and_free is ∙ boki_free) in
    let met = (matches (ap is_simple is ∙ boki_simple)).1 in
    let told = subst (λ (a : App). Reads (fault_of a words) (subcommand_of a words) (request words)) (sym is) (all_read words clear) in
    let both = subst (λ (k : Kinds). Reads k (subcommand_of app words) (request words)) none told in
    reads (subst HasFlagIn (sym met) both.0) ∙ ap answer met ∙ both.1

-- an error for another reason than memory comes only where the words ask for nothing
pub refused : (app : App) (words : List Text) (e : Error) → app ≡ boki → has_dashes words ≡ false → (is_simple_and_free app ≡ true → HasKind (fault_of app words) e)
    → kind_of e ≢ kind.OutOfMemory → None ≡ request words
refused app words e is clear faults other = elim (faults (ap is_simple_and_free is ∙ boki_free)) [
  | inl memory ↦ absurd (other memory)
  | inr among ↦
      among_fails (kind_of e) (fault_of app words) (subcommand_of app words) (request words) among
      (subst (λ (a : App). Reads (fault_of a words) (subcommand_of a words) (request words)) (sym is) (all_read words clear))
]
