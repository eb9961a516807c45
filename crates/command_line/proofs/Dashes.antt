-- The word `--`: words that lack it, and words that ask for nothing as it is one of them.
use Rattle.std.proofs.Common.{◌≡◌, ◌||◌, ◌&&◌, ℕ, Bool, true, false, true≢false, not, cond, refl, sym, List, [], ◌∷◌, Option, None, Some, codes}
use Rattle.std.specs.Prelude.{drop, option_and_then, take}
use Rattle.std.specs.List.{list_any}
use Rattle.std.specs.Str.{bytes_eq}
use Rattle.std.proofs.lemmas.Slice.Eq.{bytes_eq-Decides}
use Rattle.command_line.specs.Words.{WithState, alone, awaited, given, make_request, absent, plain_of, request, run_request, with_of}
use Rattle.command_line.specs.declared.request.Request.{Request}

-- a word is `--`
abbrev pub has_dashes : List (List ℕ) → Bool
has_dashes = list_any (λ word. bytes_eq word (codes "--"))

pub first_clear : (word : List ℕ) (words : List (List ℕ)) → has_dashes (word ∷ words) ≡ false → bytes_eq word (codes "--") ≡ false
first_clear word words e = go (bytes_eq word (codes "--")) e
  where
    go : (b : Bool) → (b || has_dashes words) ≡ false → b ≡ false
    go true h = absurd (true≢false h)
    go false h = refl

pub rest_clear : (word : List ℕ) (words : List (List ℕ)) → has_dashes (word ∷ words) ≡ false → has_dashes words ≡ false
rest_clear word words e = go (bytes_eq word (codes "--")) e
  where
    go : (b : Bool) → (b || has_dashes words) ≡ false → has_dashes words ≡ false
    go true h = absurd (true≢false h)
    go false h = h

-- ---- behind `run`

either : (b : Bool) (x y : Option Request) → None ≡ x → None ≡ y → None ≡ cond b x y
either true x y h k = h
either false x y h k = k

-- with a value of `--with` that names no nemeses no words are accepted
pub no_run : (json : Bool) (value : List ℕ) (words : List (List ℕ)) → None ≡ with_of value → None ≡ run_request json (given value) words
no_run json value [] none = rw (← none) refl
no_run json value (word ∷ words) none =
    either (bytes_eq word (codes "--json") && not json) (run_request true (given value) words) None (no_run true value words none) refl

-- by the first word: it is `--`, or one of the others is
by_first : (word : List ℕ) (words : List (List ℕ)) (r : Option Request) → has_dashes (word ∷ words) ≡ true
    → (word ≡ codes "--" → None ≡ r) → (has_dashes words ≡ true → None ≡ r) → None ≡ r
by_first word words r e is rest = go (bytes_eq word (codes "--")) refl e
  where
    go : (b : Bool) → bytes_eq word (codes "--") ≡ b → (b || has_dashes words) ≡ true → None ≡ r
    go true f h = is ((bytes_eq-Decides word (codes "--")).0 f)
    go false f h = rest h

run_refuses : (json : Bool) (g : WithState) (words : List (List ℕ)) → has_dashes words ≡ true → None ≡ run_request json g words
run_refuses json g [] e = absurd (true≢false (sym e))
run_refuses json absent (word ∷ words) e =
    by_first word words _ e (λ is. rw is refl) (λ h.
    either (bytes_eq word (codes "--json") && not json) (run_request true absent words) _ (run_refuses true absent words h)
    (either (bytes_eq word (codes "--with")) (run_request json awaited words) _ (run_refuses json awaited words h)
    (either (bytes_eq (take 7 word) (codes "--with=")) (run_request json (given (drop 7 word)) words) None (run_refuses json (given (drop 7 word)) words h) refl)))
run_refuses json awaited (word ∷ words) e =
    by_first word words _ e (λ is. rw is (no_run json (codes "--") words refl)) (λ h. run_refuses json (given word) words h)
run_refuses json (given value) (word ∷ words) e =
    by_first word words _ e (λ is. rw is refl) (λ h.
    either (bytes_eq word (codes "--json") && not json) (run_request true (given value) words) None (run_refuses true (given value) words h) refl)

-- ---- behind `make`

dashes_first : (b : List ℕ) → None ≡ make_request (codes "--" ∷ b ∷ [])
dashes_first b = either (bytes_eq b (codes "--plan")) _ None refl refl

dashes_second : (a : List ℕ) → None ≡ make_request (a ∷ codes "--" ∷ [])
dashes_second a = either (bytes_eq a (codes "--plan")) _ None refl refl

make_refuses : (words : List (List ℕ)) → has_dashes words ≡ true → None ≡ make_request words
make_refuses [] e = absurd (true≢false (sym e))
make_refuses (a ∷ []) e = by_first a [] _ e (λ is. rw is refl) (λ h. absurd (true≢false (sym h)))
make_refuses (a ∷ b ∷ []) e =
    by_first a (b ∷ []) _ e (λ is. rw is (dashes_first b)) (λ h.
    by_first b [] _ h (λ is. rw is (dashes_second a)) (λ k. absurd (true≢false (sym k))))
make_refuses (a ∷ b ∷ c ∷ words) e = refl

-- ---- all words

plain_refuses : (o : Option Request) (words : List (List ℕ)) → has_dashes words ≡ true → None ≡ option_and_then (alone words) o
plain_refuses o [] e = absurd (true≢false (sym e))
plain_refuses None (word ∷ words) e = refl
plain_refuses (Some r) (word ∷ words) e = refl

-- words of which one is `--` ask for nothing
pub dashes_refused : (words : List (List ℕ)) → has_dashes words ≡ true → None ≡ request words
dashes_refused [] e = absurd (true≢false (sym e))
dashes_refused (name ∷ words) e =
    by_first name words _ e (λ is. rw is refl) (λ h.
    either (bytes_eq name (codes "run")) (run_request false absent words) _ (run_refuses false absent words h)
    (either (bytes_eq name (codes "make")) (make_request words) _ (make_refuses words h) (plain_refuses (plain_of name) words h)))
