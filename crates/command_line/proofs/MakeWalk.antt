-- What each kind of word does behind `make`.
use Rattle.std.proofs.Common.{◌≡◌, ◌∙◌, ℕ, Bool, true, false, true≢false, refl, sym, ap, List, [], ◌∷◌, Option, Some, None, codes}
use Rattle.std.specs.Prelude.{slice_get}
use Rattle.std.specs.Str.{bytes_eq, chars}
use Rattle.std.proofs.lemmas.Slice.Eq.{bytes_eq-Decides}
use Rattle.clap.specs.Lexer.{long_of, short_of}
use Rattle.clap.specs.Walk.{Held, Row, Text, Walk, idle, value, word_met}
use Rattle.clap.specs.Simple.{Shape}
use Rattle.clap.specs.Faults.{word_fault}
use Rattle.clap.proofs.OnLiterals.{clap_on_literals}
use Rattle.lb_base.specs.Numeral.{num_of}
use Rattle.command_line.specs.Parser.{make}
use Rattle.command_line.proofs.Entering.{inner}
use Rattle.command_line.proofs.Hyphens.{long_is, long_no_num, short_no_num}
use Rattle.command_line.proofs.Leaf.{fails}

-- `make` as building leaves it
abbrev pub made : Shape
made = inner make.top

abbrev pub held : List Row → Option (Text × List Text) → Held
held rows pending = record { rows = rows; pending = pending; skip = 0 }

-- the walk between two words
abbrev pub at : List Row → Option (Text × List Text) → ℕ → Walk
at rows pending position = record { held = held rows pending; waiting = idle; position = position; is_trailing = false; stopped = None }

-- the word goes to a positional
abbrev pub IsPlain : Text → Type 0
IsPlain word = (rows : List Row) (pending : Option (Text × List Text)) (position : ℕ)
    → (word_fault made [] false idle word (held rows pending) ≡ []) × (word_met made.rules [] false idle position word (held rows pending) ≡ (held rows pending, value))

-- the word is a fault wherever it stands, and spells no number
abbrev pub IsRefused : Text → Type 0
IsRefused word = (None ≡ num_of word) × ((rows : List Row) (pending : Option (Text × List Text)) → fails (word_fault made [] false idle word (held rows pending)) ≡ true)

pub data WordKind (word : Text) : Type 0 where
  is_plan : word ≡ codes "--plan" → WordKind word
  is_plain : bytes_eq word (codes "--plan") ≡ false → IsPlain word → WordKind word
  is_refused : bytes_eq word (codes "--plan") ≡ false → IsRefused word → WordKind word

long_fails : (word name : Text) (v : Option Text) → bytes_eq word (codes "--") ≡ false → bytes_eq word (codes "--plan") ≡ false → long_of word ≡ Some (name, v)
    → (rows : List Row) (pending : Option (Text × List Text)) → fails (word_fault made [] false idle word (held rows pending)) ≡ true
unfolding clap_on_literals
long_fails word name v dashes other e rows pending = go v e (bytes_eq (codes "plan") name) refl
  where
    go : (u : Option Text) → long_of word ≡ Some (name, u) → (b : Bool) → bytes_eq (codes "plan") name ≡ b → fails (word_fault made [] false idle word (held rows pending)) ≡ true
    go u f false g = rw (dashes, f, g) refl
    go (Some u) f true g = rw (dashes, f, g) refl
    go None f true g =
        let k = (bytes_eq-Decides (codes "plan") name).0 g in
        let h = (bytes_eq-Decides word (codes "--plan")).1 (long_is word name f ∙ ap (λ t. 45 ∷ 45 ∷ t) (sym k)) in
        absurd (true≢false (sym h ∙ other))

pub kind_of_word : (word : Text) → bytes_eq word (codes "--") ≡ false → WordKind word
unfolding clap_on_literals
kind_of_word word dashes = go (bytes_eq word (codes "--plan")) refl
  where
    bundled : bytes_eq word (codes "--plan") ≡ false → long_of word ≡ None → (flags : Text) → short_of word ≡ Some flags → (o : Option ℕ) → slice_get (chars flags) 0 ≡ o → WordKind word
    bundled other e [] f o g = is_plain other (λ rows pending position. (rw (dashes, e, f) refl, rw (dashes, e, f) refl))
    bundled other e (x ∷ xs) f None g = is_plain other (λ rows pending position. (rw (dashes, e, f, g) refl, rw (dashes, e, f, g) refl))
    bundled other e (x ∷ xs) f (Some c) g = is_refused other (short_no_num word (rw f refl), λ rows pending. rw (dashes, e, f, g) refl)

    unnamed : bytes_eq word (codes "--plan") ≡ false → long_of word ≡ None → (o : Option Text) → short_of word ≡ o → WordKind word
    unnamed other e None f = is_plain other (λ rows pending position. (rw (dashes, e, f) refl, rw (dashes, e, f) refl))
    unnamed other e (Some flags) f = bundled other e flags f (slice_get (chars flags) 0) refl

    then : bytes_eq word (codes "--plan") ≡ false → (o : Option (Text × Option Text)) → long_of word ≡ o → WordKind word
    then other (Some p) e = is_refused other (long_no_num word (rw e refl), long_fails word p.0 p.1 dashes other e)
    then other None e = unnamed other e (short_of word) refl

    go : (b : Bool) → bytes_eq word (codes "--plan") ≡ b → WordKind word
    go true e = is_plan ((bytes_eq-Decides word (codes "--plan")).0 e)
    go false e = then e (long_of word) refl
