-- How a walk reads its first word, at a command with no argument, and what is left of a walk that fails.
use Rattle.std.proofs.Common.{◌≡◌, ℕ, Bool, true, false, true≢false, cond, refl, sym, List, [], ◌∷◌, Option, Some, None, codes}
use Rattle.std.specs.Prelude.{find, slice_get}
use Rattle.std.specs.Str.{bytes_eq, chars}
use Rattle.clap.specs.Lexer.{long_of, short_of}
use Rattle.clap.specs.Kinds.{Kinds, or_else}
use Rattle.clap.specs.Walk.{Names, Text, Walk, answers_to, idle, nothing_held, short_word, walk_from}
use Rattle.clap.specs.Simple.{Shape}
use Rattle.clap.specs.Faults.{bundle_fault, level_fault, step_fault, stray_fault, turn_fault, walk_fault}
use Rattle.clap.specs.declared.error.kind.ErrorKind.TheVariants as kind
use Rattle.clap.proofs.OnLiterals.{clap_on_literals}

-- there is a fault
abbrev pub fails : Kinds → Bool
fails [] = false
fails (k ∷ ks) = true

-- a first fault is one of both
pub fault_first : (a b : Kinds) → fails a ≡ true → fails (or_else a b) ≡ true
fault_first [] b e = absurd (true≢false (sym e))
fault_first (k ∷ ks) b e = refl

-- and so is a second
pub fault_second : (a b : Kinds) → fails b ≡ true → fails (or_else a b) ≡ true
fault_second [] b e = e
fault_second (k ∷ ks) b e = refl

pub no_fault : (a : Kinds) → or_else a [] ≡ a
no_fault [] = refl
no_fault (k ∷ ks) = refl

-- a level of which a turn fails, fails
pub level_fails : (s : Shape) (names : Names) (words : List Text) (has : Bool) (below : Kinds)
    → fails (walk_fault s names (walk_from nothing_held) words) ≡ true → fails (level_fault s names nothing_held words has below) ≡ true
level_fails s names words has below e = fault_first (walk_fault s names (walk_from nothing_held) words) _ e

pub walk_fails : (s : Shape) (names : Names) (w : Walk) (word : Text) (words : List Text) → fails (turn_fault s names w word) ≡ true → fails (walk_fault s names w (word ∷ words)) ≡ true
unfolding walk_fault
walk_fails s names w word words e = fault_first (turn_fault s names w word) _ e

stray : (s : Shape) → fails (stray_fault s) ≡ true
stray s = go s.is_leaf
  where
    go : (b : Bool) → fails (cond b (kind.UnknownArgument ∷ []) (kind.UnknownArgument ∷ kind.InvalidSubcommand ∷ [])) ≡ true
    go true = refl
    go false = refl

-- the shape with no argument
abbrev pub bare : Shape → Shape
bare s = record s { rules = [] }

abbrev pub met_bundle : Shape → Text → Text → Kinds
met_bundle s word flags =
    or_else (bundle_fault [] s.args_override_self flags nothing_held)
    (step_fault (bare s) 1 (short_word [] idle word flags nothing_held).0 (short_word [] idle word flags nothing_held).1)

bundle_fails : (s : Shape) (word flags : Text) → fails (met_bundle s word flags) ≡ true
unfolding clap_on_literals
bundle_fails s word [] = stray s
bundle_fails s word (x ∷ xs) = go (slice_get (chars (x ∷ xs)) 0) refl
  where
    go : (o : Option ℕ) → slice_get (chars (x ∷ xs)) 0 ≡ o → fails (met_bundle s word (x ∷ xs)) ≡ true
    go None e = rw e (stray s)
    go (Some c) e = rw e refl

-- a first word that names no subcommand and isn't `--` is a fault
pub turn_fails : (s : Shape) (names : Names) (word : Text) → find (answers_to word) names ≡ None → bytes_eq word (codes "--") ≡ false
    → fails (turn_fault (bare s) names (walk_from nothing_held) word) ≡ true
unfolding clap_on_literals
turn_fails s names word none dashes = go (long_of word) refl (short_of word) refl
  where
    go : (l : Option (Text × Option Text)) → long_of word ≡ l → (f : Option Text) → short_of word ≡ f
        → fails (turn_fault (bare s) names (walk_from nothing_held) word) ≡ true
    go (Some p) e f e' = rw (none, dashes, e) refl
    go None e None e' = rw (none, dashes, e, e') (stray s)
    go None e (Some flags) e' = rw (none, dashes, e, e') (bundle_fails s word flags)
