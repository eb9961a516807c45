-- The words behind `make`: what `clap` makes of them is what the table says.
use Rattle.std.proofs.Common.{◌≡◌, ◌∙◌, ℕ, Bool, true, false, refl, ap, ap₂, List, [], ◌∷◌, Option, Some, None, codes, inl, inr}
use Rattle.std.specs.Prelude.{unwrap_or}
use Rattle.std.specs.Str.{bytes_eq}
use Rattle.clap.specs.Kinds.{Kinds, or_else}
use Rattle.clap.specs.Walk.{Row, Rule, Text, Walk, after_step, arg_by_index, arg_by_long, finished, nothing_held, settled, used, walk, walk_from, walked}
use Rattle.clap.specs.Simple.{rows_at}
use Rattle.clap.specs.Faults.{check_fault, defaults_fault, level_fault, settle_fault, step_fault, turn_fault, walk_fault, word_fault}
use Rattle.clap.proofs.OnLiterals.{clap_on_literals}
use Rattle.lb_base.specs.Numeral.{num_of}
use Rattle.command_line.specs.Parser.{flag, transfers}
use Rattle.command_line.specs.Words.{make_of, make_request}
use Rattle.command_line.specs.declared.request.Request.{Request}
use Rattle.command_line.proofs.Dashes.{first_clear, has_dashes, rest_clear}
use Rattle.command_line.proofs.Leaf.{fails, fault_first, fault_second}
use Rattle.command_line.proofs.MakeWalk.{IsPlain, IsRefused, WordKind, at, held, is_plain, is_plan, is_refused, kind_of_word, made}
use Rattle.command_line.proofs.Outcomes.{Reads, failed}

-- ---- where the walk stands

abbrev start : Walk
start = at [] None 1

abbrev flag_rows : List Row → List Row
flag_rows = used (unwrap_or (arg_by_long made.rules (codes "plan")) (flag (codes "plan"))) []

abbrev number_rows : Text → List Row
number_rows v = used (unwrap_or (arg_by_index made.rules 1) transfers) (v ∷ []) []

abbrev after_flag : Walk
after_flag = at (flag_rows []) None 1

-- behind a number, over these rows
abbrev with_number : List Row → Text → Walk
with_number rows v = at rows (Some (codes "transfers", v ∷ [])) 2

abbrev number_then_flag : Text → Walk
number_then_flag v = at (flag_rows (number_rows v)) None 2

-- a word takes the walk from w to v without a fault
abbrev Goes : Walk → Text → Walk → Type 0
Goes w word v = (turn_fault made [] w word ≡ []) × (walked made.rules [] w word ≡ v)

abbrev Fails : Walk → Text → Type 0
Fails w word = fails (turn_fault made [] w word) ≡ true

flag_first : Goes start (codes "--plan") after_flag
unfolding clap_on_literals
flag_first = (refl, refl)

flag_second : (v : Text) → Goes (with_number [] v) (codes "--plan") (number_then_flag v)
unfolding clap_on_literals
flag_second v = (refl, refl)

number_goes : (rows : List Row) (word : Text) → IsPlain word → Goes (at rows None 1) word (with_number rows word)
unfolding walked
number_goes rows word plain =
    let p = plain rows None 1 in
    (ap₂ (λ f m. or_else f (step_fault made 1 m.0 m.1)) p.0 p.1, ap (λ m. after_step made.rules word (at rows None 1) m.0 m.1) p.1)

flag_again : Fails after_flag (codes "--plan")
unfolding clap_on_literals
flag_again = refl

flag_flag : (v : Text) → Fails (with_number (flag_rows []) v) (codes "--plan")
unfolding clap_on_literals
flag_flag v = refl

flag_third : (v : Text) → Fails (number_then_flag v) (codes "--plan")
unfolding clap_on_literals
flag_third v = refl

number_again : (rows : List Row) (pending : Option (Text × List Text)) (word : Text) → IsPlain word → Fails (at rows pending 2) word
number_again rows pending word plain =
    let p = plain rows pending 2 in
    ap₂ (λ f m. fails (or_else f (step_fault made 2 m.0 m.1))) p.0 p.1

refused_fails : (rows : List Row) (pending : Option (Text × List Text)) (position : ℕ) (word : Text) → IsRefused word → Fails (at rows pending position) word
refused_fails rows pending position word refused = fault_first (word_fault made [] false Rattle.clap.specs.Walk.idle word (held rows pending)) _ (refused.1 rows pending)

-- ---- the level, by its walk

abbrev level : List Text → Kinds
level words = level_fault made [] nothing_held words false []

abbrev ReadsMake : List Text → Option Request → Type 0
ReadsMake words r = Reads (level words) (Some (rows_at made words)) r

abbrev end_fault : Walk → Kinds
end_fault w =
    or_else (settle_fault made.rules made.args_override_self w.held) (or_else (defaults_fault (settled made.rules w.held).rows made.rules)
    (check_fault made (finished made.rules w.held) false))

by_walk : (words : List Text) (w : Walk) (r : Option Request) → walk_fault made [] start words ≡ [] → walk made.rules [] nothing_held words ≡ w
    → Reads (end_fault w) (Some (codes "make", finished made.rules w.held)) r → ReadsMake words r
by_walk words w r e f h = rw (e, f) h

one : (a : Text) (w : Walk) (r : Option Request) → Goes start a w → Reads (end_fault w) (Some (codes "make", finished made.rules w.held)) r → ReadsMake (a ∷ []) r
unfolding walk_fault
one a w r g h = by_walk (a ∷ []) w r (rw g.0 refl) g.1 h

two : (a b : Text) (v w : Walk) (r : Option Request) → Goes start a v → Goes v b w → Reads (end_fault w) (Some (codes "make", finished made.rules w.held)) r → ReadsMake (a ∷ b ∷ []) r
unfolding walk_fault
two a b v w r f g h = by_walk (a ∷ b ∷ []) w r (rw (f.0, f.1, g.0) refl) (ap (λ u. walked made.rules [] u b) f.1 ∙ g.1) h

fails_1 : (a : Text) (rest : List Text) → Fails start a → fails (level (a ∷ rest)) ≡ true
unfolding walk_fault
fails_1 a rest h = fault_first (walk_fault made [] start (a ∷ rest)) _ (fault_first (turn_fault made [] start a) _ h)

fails_2 : (a b : Text) (rest : List Text) (v : Walk) → Goes start a v → Fails v b → fails (level (a ∷ b ∷ rest)) ≡ true
unfolding walk_fault
fails_2 a b rest v g h =
    fault_first (walk_fault made [] start (a ∷ b ∷ rest)) _
    (fault_second (turn_fault made [] start a) (walk_fault made [] (walked made.rules [] start a) (b ∷ rest))
    (rw g.1 (fault_first (turn_fault made [] v b) _ h)))

fails_3 : (a b c : Text) (rest : List Text) (v w : Walk) → Goes start a v → Goes v b w → Fails w c → fails (level (a ∷ b ∷ c ∷ rest)) ≡ true
unfolding walk_fault
fails_3 a b c rest v w f g h =
    fault_first (walk_fault made [] start (a ∷ b ∷ c ∷ rest)) _
    (fault_second (turn_fault made [] start a) (walk_fault made [] (walked made.rules [] start a) (b ∷ c ∷ rest))
    (rw f.1 (fault_second (turn_fault made [] v b) (walk_fault made [] (walked made.rules [] v b) (c ∷ rest))
    (rw g.1 (fault_first (turn_fault made [] w c) _ h)))))

-- ---- what stands at the end

only_flag : Reads (end_fault after_flag) (Some (codes "make", finished made.rules after_flag.held)) None
unfolding clap_on_literals
only_flag = refl

only_number : (v : Text) → Reads (end_fault (with_number [] v)) (Some (codes "make", finished made.rules (with_number [] v).held)) (make_of false (num_of v))
unfolding clap_on_literals
only_number v = ((λ is. cc, λ e. inr refl), refl)

flag_and_number : (v : Text) → Reads (end_fault (with_number (flag_rows []) v)) (Some (codes "make", finished made.rules (with_number (flag_rows []) v).held)) (make_of true (num_of v))
unfolding clap_on_literals
flag_and_number v = ((λ is. cc, λ e. inl refl), refl)

number_and_flag : (v : Text) → Reads (end_fault (number_then_flag v)) (Some (codes "make", finished made.rules (number_then_flag v).held)) (make_of true (num_of v))
unfolding clap_on_literals
number_and_flag v = ((λ is. cc, λ e. inl refl), refl)

-- ---- the words

no_word : ReadsMake [] None
unfolding clap_on_literals
no_word = refl

one_word : (a : Text) → WordKind a → ReadsMake (a ∷ []) (make_request (a ∷ []))
one_word a (is_plan e) = rw e (one (codes "--plan") after_flag None flag_first only_flag)
one_word a (is_plain other plain) = one a (with_number [] a) (make_of false (num_of a)) (number_goes [] a plain) (only_number a)
one_word a (is_refused other refused) = failed (level (a ∷ [])) _ _ (fails_1 a [] (refused_fails [] None 1 a refused)) (rw (← refused.0) refl)

-- a refused word beside another one asks for nothing
no_first : (a b : Text) → bytes_eq a (codes "--plan") ≡ false → None ≡ num_of a → None ≡ make_request (a ∷ b ∷ [])
no_first a b other none = go (bytes_eq b (codes "--plan")) refl
  where
    go : (t : Bool) → bytes_eq b (codes "--plan") ≡ t → None ≡ make_request (a ∷ b ∷ [])
    go true e = rw (other, e, ← none) refl
    go false e = rw (other, e) refl

no_second : (a b : Text) → bytes_eq b (codes "--plan") ≡ false → None ≡ num_of b → None ≡ make_request (a ∷ b ∷ [])
no_second a b other none = go (bytes_eq a (codes "--plan")) refl
  where
    go : (t : Bool) → bytes_eq a (codes "--plan") ≡ t → None ≡ make_request (a ∷ b ∷ [])
    go true e = rw (e, ← none) refl
    go false e = rw (e, other) refl

two_words : (a b : Text) → WordKind a → WordKind b → ReadsMake (a ∷ b ∷ []) (make_request (a ∷ b ∷ []))
two_words a b (is_plan e) (is_plan f) = rw (e, f) (failed (level (codes "--plan" ∷ codes "--plan" ∷ [])) _ _ (fails_2 (codes "--plan") (codes "--plan") [] after_flag flag_first flag_again) refl)
two_words a b (is_plan e) (is_plain other plain) =
    rw e (two (codes "--plan") b after_flag (with_number (flag_rows []) b) (make_of true (num_of b)) flag_first (number_goes (flag_rows []) b plain) (flag_and_number b))
two_words a b (is_plan e) (is_refused other refused) =
    rw e (failed (level (codes "--plan" ∷ b ∷ [])) _ _ (fails_2 (codes "--plan") b [] after_flag flag_first (refused_fails (flag_rows []) None 1 b refused)) (no_second (codes "--plan") b other refused.0))
two_words a b (is_plain other plain) (is_plan f) =
    rw (f, other) (two a (codes "--plan") (with_number [] a) (number_then_flag a) (make_of true (num_of a)) (number_goes [] a plain) (flag_second a) (number_and_flag a))
two_words a b (is_plain other plain) (is_plain other_b plain_b) =
    failed (level (a ∷ b ∷ [])) _ _ (fails_2 a b [] (with_number [] a) (number_goes [] a plain) (number_again [] (Some (codes "transfers", a ∷ [])) b plain_b)) (rw (other, other_b) refl)
two_words a b (is_plain other plain) (is_refused other_b refused) =
    failed (level (a ∷ b ∷ [])) _ _ (fails_2 a b [] (with_number [] a) (number_goes [] a plain) (refused_fails [] (Some (codes "transfers", a ∷ [])) 2 b refused)) (no_second a b other_b refused.0)
two_words a b (is_refused other refused) kind_b = failed (level (a ∷ b ∷ [])) _ _ (fails_1 a (b ∷ []) (refused_fails [] None 1 a refused)) (no_first a b other refused.0)

-- behind a number and the flag each word fails
third_fails : (rows : List Row) (pending : Option (Text × List Text)) (c : Text) → Fails (at rows pending 2) (codes "--plan") → WordKind c → Fails (at rows pending 2) c
third_fails rows pending c flag (is_plan e) = rw e flag
third_fails rows pending c flag (is_plain other plain) = number_again rows pending c plain
third_fails rows pending c flag (is_refused other refused) = refused_fails rows pending 2 c refused

three_words : (a b c : Text) (rest : List Text) → WordKind a → WordKind b → WordKind c → fails (level (a ∷ b ∷ c ∷ rest)) ≡ true
three_words a b c rest (is_plan e) (is_plan f) k = rw (e, f) (fails_2 (codes "--plan") (codes "--plan") (c ∷ rest) after_flag flag_first flag_again)
three_words a b c rest (is_plan e) (is_plain other plain) k =
    rw e (fails_3 (codes "--plan") b c rest after_flag (with_number (flag_rows []) b) flag_first (number_goes (flag_rows []) b plain) (third_fails (flag_rows []) (Some (codes "transfers", b ∷ [])) c (flag_flag b) k))
three_words a b c rest (is_plan e) (is_refused other refused) k = rw e (fails_2 (codes "--plan") b (c ∷ rest) after_flag flag_first (refused_fails (flag_rows []) None 1 b refused))
three_words a b c rest (is_plain other plain) (is_plan f) k =
    rw f (fails_3 a (codes "--plan") c rest (with_number [] a) (number_then_flag a) (number_goes [] a plain) (flag_second a) (third_fails (flag_rows (number_rows a)) None c (flag_third a) k))
three_words a b c rest (is_plain other plain) (is_plain other_b plain_b) k =
    fails_2 a b (c ∷ rest) (with_number [] a) (number_goes [] a plain) (number_again [] (Some (codes "transfers", a ∷ [])) b plain_b)
three_words a b c rest (is_plain other plain) (is_refused other_b refused) k =
    fails_2 a b (c ∷ rest) (with_number [] a) (number_goes [] a plain) (refused_fails [] (Some (codes "transfers", a ∷ [])) 2 b refused)
three_words a b c rest (is_refused other refused) kind_b k = fails_1 a (b ∷ c ∷ rest) (refused_fails [] None 1 a refused)

-- the words behind `make`, none of them `--`, are read as the table reads them
pub make_reads : (words : List Text) → has_dashes words ≡ false → ReadsMake words (make_request words)
make_reads [] e = no_word
make_reads (a ∷ []) e = one_word a (kind_of_word a (first_clear a [] e))
make_reads (a ∷ b ∷ []) e =
    two_words a b (kind_of_word a (first_clear a (b ∷ []) e)) (kind_of_word b (first_clear b [] (rest_clear a (b ∷ []) e)))
make_reads (a ∷ b ∷ c ∷ rest) e =
    let f = rest_clear a (b ∷ c ∷ rest) e in
    failed (level (a ∷ b ∷ c ∷ rest)) _ _
    (three_words a b c rest (kind_of_word a (first_clear a (b ∷ c ∷ rest) e)) (kind_of_word b (first_clear b (c ∷ rest) f)) (kind_of_word c (first_clear c rest (rest_clear b (c ∷ rest) f)))) refl
