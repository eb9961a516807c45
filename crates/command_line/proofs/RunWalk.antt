-- What each kind of word does behind `run`.
use Rattle.std.proofs.Common.{◌≡◌, ◌⊎◌, ◌∙◌, Bool, true, false, true≢false, refl, sym, ap, inl, inr, List, [], ◌∷◌, ◌++◌, Option, Some, None, codes, take, drop}
use Rattle.std.specs.Prelude.{slice_get}
use Rattle.std.specs.Str.{bytes_eq, chars}
use Rattle.std.proofs.lemmas.List.{take-append-drop}
use Rattle.std.proofs.lemmas.Slice.Eq.{bytes_eq-Decides}
use Rattle.clap.specs.Lexer.{long_of, short_of}
use Rattle.clap.specs.Walk.{Row, Text, Waiting, Walk, idle, option, walked}
use Rattle.clap.specs.Simple.{Shape}
use Rattle.clap.specs.Faults.{turn_fault, word_fault}
use Rattle.clap.proofs.OnLiterals.{clap_on_literals}
use Rattle.command_line.specs.Parser.{run}
use Rattle.command_line.specs.Words.{with_of}
use Rattle.command_line.proofs.Entering.{inner}
use Rattle.command_line.proofs.Hyphens.{long_is, long_no_with, long_value_is, short_no_with}
use Rattle.command_line.proofs.Leaf.{fails, fault_first}
use Rattle.command_line.proofs.MakeWalk.{held}

-- `run` as building leaves it
abbrev pub ran : Shape
ran = inner run.top

-- the walk between two words
abbrev pub walk_at : List Row → Option (Text × List Text) → Waiting → Walk
walk_at rows pending waiting = record { held = held rows pending; waiting = waiting; position = 1; is_trailing = false; stopped = None }

-- the walk behind `--with`
abbrev pub awaiting : List Row → Walk
awaiting rows = walk_at rows (Some (codes "with", [])) (option (codes "with"))

-- and behind its value
abbrev pub holding : List Row → Text → Walk
holding rows v = walk_at rows (Some (codes "with", v ∷ [])) idle

-- a word takes the walk from w to v without a fault
abbrev pub Goes : Walk → Text → Walk → Type 0
Goes w word v = (turn_fault ran [] w word ≡ []) × (walked ran.rules [] w word ≡ v)

abbrev pub Fails : Walk → Text → Type 0
Fails w word = fails (turn_fault ran [] w word) ≡ true

-- the word is the value of a `--with` before it
abbrev pub IsValue : Text → Type 0
IsValue word = (rows : List Row) → Goes (awaiting rows) word (holding rows word)

-- the word is a fault there, and names no nemeses
abbrev pub IsNoValue : Text → Type 0
IsNoValue word = (None ≡ with_of word) × ((rows : List Row) → Fails (awaiting rows) word)

-- the word is no option, and a fault where no value is due
pub record IsStray (word : Text) : Type 0 where
  pub no_json : bytes_eq word (codes "--json") ≡ false
  pub no_with : bytes_eq word (codes "--with") ≡ false
  pub no_value : bytes_eq (take 7 word) (codes "--with=") ≡ false
  pub fault : (rows : List Row) (pending : Option (Text × List Text)) → Fails (walk_at rows pending idle) word
  pub as_value : IsValue word ⊎ IsNoValue word

pub data RunWord (word : Text) : Type 0 where
  is_json : word ≡ codes "--json" → RunWord word
  is_with : word ≡ codes "--with" → RunWord word
  is_with_value : (value : Text) → word ≡ codes "--with=" ++ value → RunWord word
  is_stray : IsStray word → RunWord word

-- the word is a fault wherever it stands
abbrev IsFault : Text → Type 0
IsFault word = (rows : List Row) (pending : Option (Text × List Text))
    → (fails (word_fault ran [] false idle word (held rows pending)) ≡ true) × (fails (word_fault ran [] false (option (codes "with")) word (held rows pending)) ≡ true)

module _ (word : Text) (dashes : bytes_eq word (codes "--") ≡ false) (j : bytes_eq word (codes "--json") ≡ false) (w : bytes_eq word (codes "--with") ≡ false)
    (v : bytes_eq (take 7 word) (codes "--with=") ≡ false) where
  as_fault : None ≡ with_of word → IsFault word → IsStray word
  as_fault none f = record {
    no_json = j;
    no_with = w;
    no_value = v;
    fault = λ rows pending. fault_first (word_fault ran [] false idle word (held rows pending)) _ (f rows pending).0;
    as_value = inr (none, λ rows. fault_first (word_fault ran [] false (option (codes "with")) word (held rows (Some (codes "with", [])))) _ (f rows (Some (codes "with", []))).1);
  }

  -- a long option is neither, so it is a fault
  long_fault : (name : Text) (u : Option Text) → long_of word ≡ Some (name, u) → IsFault word
  unfolding clap_on_literals
  long_fault name u e rows pending = go u e (bytes_eq (codes "with") name) refl (bytes_eq (codes "json") name) refl
    where
      go : (u : Option Text) → long_of word ≡ Some (name, u) → (a : Bool) → bytes_eq (codes "with") name ≡ a → (b : Bool) → bytes_eq (codes "json") name ≡ b
          → (fails (word_fault ran [] false idle word (held rows pending)) ≡ true) × (fails (word_fault ran [] false (option (codes "with")) word (held rows pending)) ≡ true)
      go None f true g b h =
          let k = (bytes_eq-Decides (codes "with") name).0 g in
          let l = (bytes_eq-Decides word (codes "--with")).1 (long_is word name f ∙ ap (λ t. 45 ∷ 45 ∷ t) (sym k)) in
          absurd (true≢false (sym l ∙ w))
      go (Some value) f true g b h =
          let k = (bytes_eq-Decides (codes "with") name).0 g in
          let l : take 7 word ≡ codes "--with=" = ap (take 7) (long_value_is word name value f ∙ ap (λ t. 45 ∷ 45 ∷ (t ++ 61 ∷ value)) (sym k)) in
          absurd (true≢false (sym ((bytes_eq-Decides (take 7 word) (codes "--with=")).1 l) ∙ v))
      go None f false g true h =
          let k = (bytes_eq-Decides (codes "json") name).0 h in
          let l = (bytes_eq-Decides word (codes "--json")).1 (long_is word name f ∙ ap (λ t. 45 ∷ 45 ∷ t) (sym k)) in
          absurd (true≢false (sym l ∙ j))
      go (Some value) f false g true h = (rw (dashes, f, g, h) refl, rw (dashes, f, g, h) refl)
      go u f false g false h = (rw (dashes, f, g, h) refl, rw (dashes, f, g, h) refl)

  -- a word with no option in it
  as_plain : long_of word ≡ None → short_of word ≡ None → IsStray word
  unfolding clap_on_literals
  as_plain e f = record {
    no_json = j;
    no_with = w;
    no_value = v;
    fault = λ rows pending. rw (dashes, e, f) refl;
    as_value = inl (λ rows. (rw (dashes, e, f) refl, rw (dashes, e, f) refl));
  }

  as_empty_bundle : long_of word ≡ None → short_of word ≡ Some [] → IsStray word
  unfolding clap_on_literals
  as_empty_bundle e f = record {
    no_json = j;
    no_with = w;
    no_value = v;
    fault = λ rows pending. rw (dashes, e, f) refl;
    as_value = inl (λ rows. (rw (dashes, e, f) refl, rw (dashes, e, f) refl));
  }

  as_bundle : long_of word ≡ None → (c : _) (flags : Text) → short_of word ≡ Some (c ∷ flags) → IsStray word
  unfolding clap_on_literals
  as_bundle e c flags f = go (slice_get (chars (c ∷ flags)) 0) refl
    where
      go : (o : Option _) → slice_get (chars (c ∷ flags)) 0 ≡ o → IsStray word
      go None g = record {
        no_json = j;
        no_with = w;
        no_value = v;
        fault = λ rows pending. rw (dashes, e, f, g) refl;
        as_value = inl (λ rows. (rw (dashes, e, f, g) refl, rw (dashes, e, f, g) refl));
      }
      go (Some x) g = as_fault (short_no_with word (rw f refl)) (λ rows pending. (rw (dashes, e, f, g) refl, rw (dashes, e, f, g) refl))

  unnamed : long_of word ≡ None → (o : Option Text) → short_of word ≡ o → IsStray word
  unnamed e None f = as_plain e f
  unnamed e (Some []) f = as_empty_bundle e f
  unnamed e (Some (c ∷ flags)) f = as_bundle e c flags f

  stray : (o : Option (Text × Option Text)) → long_of word ≡ o → IsStray word
  stray (Some p) e = as_fault (long_no_with word (rw e refl)) (long_fault p.0 p.1 e)
  stray None e = unnamed e (short_of word) refl

pub kind_of_word : (word : Text) → bytes_eq word (codes "--") ≡ false → RunWord word
kind_of_word word dashes = go (bytes_eq word (codes "--json")) refl (bytes_eq word (codes "--with")) refl (bytes_eq (take 7 word) (codes "--with=")) refl
  where
    go : (a : Bool) → bytes_eq word (codes "--json") ≡ a → (b : Bool) → bytes_eq word (codes "--with") ≡ b → (c : Bool) → bytes_eq (take 7 word) (codes "--with=") ≡ c → RunWord word
    go true e b f c g = is_json ((bytes_eq-Decides word (codes "--json")).0 e)
    go false e true f c g = is_with ((bytes_eq-Decides word (codes "--with")).0 f)
    go false e false f true g =
        is_with_value (drop 7 word) (sym (take-append-drop 7 word) ∙ ap (λ t. t ++ drop 7 word) ((bytes_eq-Decides (take 7 word) (codes "--with=")).0 g))
    go false e false f false g = is_stray (stray word dashes e f g (long_of word) refl)
