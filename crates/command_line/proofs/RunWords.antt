-- The words behind `run`: what `clap` makes of them is what the table says.
use Rattle.std.proofs.Common.{◌≡◌, Bool, true, false, refl, sym, subst, List, [], ◌∷◌, ◌++◌, Option, Some, None, codes, inl, inr}
use Rattle.std.specs.Prelude.{unwrap_or}
use Rattle.std.specs.List.{fold}
use Rattle.clap.specs.Kinds.{Kinds, or_else}
use Rattle.clap.specs.Walk.{Row, Text, Walk, arg_by_long, finished, has_row, idle, settled, used, walked}
use Rattle.clap.specs.Faults.{check_fault, defaults_fault, settle_fault, turn_fault, walk_fault}
use Rattle.clap.proofs.OnLiterals.{clap_on_literals}
use Rattle.command_line.specs.Parser.{flag, with_option}
use Rattle.command_line.specs.Words.{WithState, awaited, given, absent, run_request, with_of}
use Rattle.command_line.specs.declared.request.Request.{Request}
use Rattle.command_line.proofs.Dashes.{first_clear, has_dashes, no_run, rest_clear}
use Rattle.command_line.proofs.Hyphens.{long_no_with}
use Rattle.command_line.proofs.Leaf.{fails, fault_first, walk_fails}
use Rattle.command_line.proofs.Outcomes.{Reads, failed}
use Rattle.command_line.proofs.RunWalk.{Fails, Goes, IsStray, RunWord, awaiting, holding, is_json, is_stray, is_with, is_with_value, kind_of_word, ran, walk_at}

-- ---- one word after another

abbrev end_fault : Walk → Kinds
end_fault w =
    or_else (settle_fault ran.rules ran.args_override_self w.held) (or_else (defaults_fault (settled ran.rules w.held).rows ran.rules)
    (check_fault ran (finished ran.rules w.held) false))

abbrev end_of : Walk → List Text → Walk
end_of w words = fold (walked ran.rules []) w words

-- the faults of a walk over the words, and at its end
abbrev whole_fault : Walk → List Text → Kinds
whole_fault w words = or_else (walk_fault ran [] w words) (end_fault (end_of w words))

-- from the walk w on the words ask for r
abbrev pub ReadsFrom : Walk → List Text → Option Request → Type 0
ReadsFrom w words r = Reads (whole_fault w words) (Some (codes "run", finished ran.rules (end_of w words).held)) r

-- the same behind a first word with these faults
abbrev ReadsBehind : Kinds → Walk → List Text → Option Request → Type 0
ReadsBehind first w words r = Reads (or_else (or_else first (walk_fault ran [] w words)) (end_fault (end_of w words))) (Some (codes "run", finished ran.rules (end_of w words).held)) r

goes_on : (w v : Walk) (word : Text) (words : List Text) (r : Option Request) → Goes w word v → ReadsFrom v words r → ReadsFrom w (word ∷ words) r
unfolding walk_fault
goes_on w v word words r g h =
    let P : Walk → Type 0 = λ u. ReadsBehind (turn_fault ran [] w word) u words r in
    subst P (sym g.1) (rw g.0 h)

fails_on : (w v : Walk) (word : Text) (words : List Text) → Goes w word v → fails (whole_fault v words) ≡ true → fails (whole_fault w (word ∷ words)) ≡ true
unfolding walk_fault
fails_on w v word words g h =
    let P : Walk → Type 0 = λ u. fails (or_else (or_else (turn_fault ran [] w word) (walk_fault ran [] u words)) (end_fault (end_of u words))) ≡ true in
    subst P (sym g.1) (rw g.0 h)

fails_now : (w : Walk) (word : Text) (words : List Text) → Fails w word → fails (whole_fault w (word ∷ words)) ≡ true
fails_now w word words h = fault_first (walk_fault ran [] w (word ∷ words)) _ (walk_fails ran [] w word words h)

refused : (w : Walk) (words : List Text) (r : Option Request) → fails (whole_fault w words) ≡ true → None ≡ r → ReadsFrom w words r
refused w words r h none = failed (whole_fault w words) _ r h none

-- ---- a second `--with` fails in the end

module _ (rows : List Row) (twice : has_row (codes "with") rows ≡ true) where
  second_ends : (v : Text) → fails (end_fault (holding rows v)) ≡ true
  unfolding clap_on_literals
  second_ends v = rw twice refl

  second_json : (v : Text) → Fails (holding rows v) (codes "--json")
  unfolding clap_on_literals
  second_json v = rw twice refl

  second_with : (v : Text) → Fails (holding rows v) (codes "--with")
  unfolding clap_on_literals
  second_with v = rw twice refl

  second_value : (v u : Text) → Fails (holding rows v) (codes "--with=" ++ u)
  unfolding clap_on_literals
  second_value v u = rw twice refl

  second_holds : (v : Text) (words : List Text) → has_dashes words ≡ false → fails (whole_fault (holding rows v) words) ≡ true
  unfolding walk_fault
  second_holds v [] clear = second_ends v
  second_holds v (word ∷ words) clear = go (kind_of_word word (first_clear word words clear))
    where
      go : RunWord word → fails (whole_fault (holding rows v) (word ∷ words)) ≡ true
      go (is_json e) = rw e (fails_now (holding rows v) (codes "--json") words (second_json v))
      go (is_with e) = rw e (fails_now (holding rows v) (codes "--with") words (second_with v))
      go (is_with_value u e) = rw e (fails_now (holding rows v) (codes "--with=" ++ u) words (second_value v u))
      go (is_stray s) = fails_now (holding rows v) word words (s.fault rows (Some (codes "with", v ∷ [])))

-- `--with` without its value
module _ (rows : List Row) where
  valueless_ends : fails (end_fault (awaiting rows)) ≡ true
  unfolding clap_on_literals
  valueless_ends = refl

  valueless_json : Fails (awaiting rows) (codes "--json")
  unfolding clap_on_literals
  valueless_json = refl

  valueless_with : Fails (awaiting rows) (codes "--with")
  unfolding clap_on_literals
  valueless_with = refl

  valueless_value : (u : Text) → Fails (awaiting rows) (codes "--with=" ++ u)
  unfolding clap_on_literals
  valueless_value u = refl

  second_waits : has_row (codes "with") rows ≡ true → (words : List Text) → has_dashes words ≡ false → fails (whole_fault (awaiting rows) words) ≡ true
  unfolding walk_fault
  second_waits twice [] clear = valueless_ends
  second_waits twice (word ∷ words) clear = go (kind_of_word word (first_clear word words clear))
    where
      go : RunWord word → fails (whole_fault (awaiting rows) (word ∷ words)) ≡ true
      go (is_json e) = rw e (fails_now (awaiting rows) (codes "--json") words valueless_json)
      go (is_with e) = rw e (fails_now (awaiting rows) (codes "--with") words valueless_with)
      go (is_with_value u e) = rw e (fails_now (awaiting rows) (codes "--with=" ++ u) words (valueless_value u))
      go (is_stray s) = elim s.as_value [
        | inl value ↦
            fails_on (awaiting rows) (holding rows word) word words (value rows) (second_holds rows twice word words (rest_clear word words clear))
        | inr none ↦ fails_now (awaiting rows) word words (none.1 rows)
      ]

-- ---- where the walk stands

abbrev json_rows : List Row → List Row
json_rows = used (unwrap_or (arg_by_long ran.rules (codes "json")) (flag (codes "json"))) []

abbrev with_rows : Text → List Row → List Row
with_rows v = used (unwrap_or (arg_by_long ran.rules (codes "with")) with_option) (v ∷ [])

-- which words were met so far
pub data Met : Type 0 where
  no_word : Met
  json : Met
  with : Met
  json_with : Met
  with_held : Text → Met
  json_with_held : Text → Met
  with_used : Text → Met
  json_with_used : Text → Met
  with_used_json : Text → Met

abbrev has_json : Met → Bool
has_json no_word = false
has_json json = true
has_json with = false
has_json json_with = true
has_json (with_held v) = false
has_json (json_with_held v) = true
has_json (with_used v) = false
has_json (json_with_used v) = true
has_json (with_used_json v) = true

abbrev has_given : Met → WithState
has_given no_word = absent
has_given json = absent
has_given with = awaited
has_given json_with = awaited
has_given (with_held v) = given v
has_given (json_with_held v) = given v
has_given (with_used v) = given v
has_given (json_with_used v) = given v
has_given (with_used_json v) = given v

abbrev walk_of : Met → Walk
walk_of no_word = walk_at [] None idle
walk_of json = walk_at (json_rows []) None idle
walk_of with = awaiting []
walk_of json_with = awaiting (json_rows [])
walk_of (with_held v) = holding [] v
walk_of (json_with_held v) = holding (json_rows []) v
walk_of (with_used v) = walk_at (with_rows v []) None idle
walk_of (json_with_used v) = walk_at (with_rows v (json_rows [])) None idle
walk_of (with_used_json v) = walk_at (json_rows (with_rows v [])) None idle

abbrev ReadsAfter : Met → List Text → Type 0
ReadsAfter m words = ReadsFrom (walk_of m) words (run_request (has_json m) (has_given m) words)

ends : (m : Met) → ReadsAfter m []
unfolding clap_on_literals
ends no_word = ((λ is. inr refl, λ is. cc), refl)
ends json = ((λ is. inl refl, λ is. cc), refl)
ends with = refl
ends json_with = refl
ends (with_held v) = ((λ is. inr refl, λ is. cc), refl)
ends (json_with_held v) = ((λ is. inl refl, λ is. cc), refl)
ends (with_used v) = ((λ is. inr refl, λ is. cc), refl)
ends (json_with_used v) = ((λ is. inl refl, λ is. cc), refl)
ends (with_used_json v) = ((λ is. inl refl, λ is. cc), refl)

-- ---- `--json`

none_json : Goes (walk_of no_word) (codes "--json") (walk_of json)
unfolding clap_on_literals
none_json = (refl, refl)

held_json : (v : Text) → Goes (walk_of (with_held v)) (codes "--json") (walk_of (with_used_json v))
unfolding clap_on_literals
held_json v = (refl, refl)

used_json : (v : Text) → Goes (walk_of (with_used v)) (codes "--json") (walk_of (with_used_json v))
unfolding clap_on_literals
used_json v = (refl, refl)

json_json : Fails (walk_of json) (codes "--json")
unfolding clap_on_literals
json_json = refl

json_held_json : (v : Text) → Fails (walk_of (json_with_held v)) (codes "--json")
unfolding clap_on_literals
json_held_json v = refl

json_used_json : (v : Text) → Fails (walk_of (json_with_used v)) (codes "--json")
unfolding clap_on_literals
json_used_json v = refl

used_json_json : (v : Text) → Fails (walk_of (with_used_json v)) (codes "--json")
unfolding clap_on_literals
used_json_json v = refl

-- what is known of the words behind the first one
abbrev Rest : List Text → Type 0
Rest words = (has_dashes words ≡ false) × ((m : Met) → ReadsAfter m words)

json_met : (m : Met) (words : List Text) → Rest words → ReadsAfter m (codes "--json" ∷ words)
json_met no_word words rest = goes_on (walk_of no_word) (walk_of json) (codes "--json") words _ none_json (rest.1 json)
json_met json words rest = refused (walk_of json) _ _ (fails_now (walk_of json) (codes "--json") words json_json) refl
json_met with words rest = refused (walk_of with) _ _ (fails_now (walk_of with) (codes "--json") words (valueless_json [])) (no_run false (codes "--json") words refl)
json_met json_with words rest =
    refused (walk_of json_with) _ _ (fails_now (walk_of json_with) (codes "--json") words (valueless_json (json_rows []))) (no_run true (codes "--json") words refl)
json_met (with_held v) words rest = goes_on (walk_of (with_held v)) (walk_of (with_used_json v)) (codes "--json") words _ (held_json v) (rest.1 (with_used_json v))
json_met (json_with_held v) words rest = refused (walk_of (json_with_held v)) _ _ (fails_now (walk_of (json_with_held v)) (codes "--json") words (json_held_json v)) refl
json_met (with_used v) words rest = goes_on (walk_of (with_used v)) (walk_of (with_used_json v)) (codes "--json") words _ (used_json v) (rest.1 (with_used_json v))
json_met (json_with_used v) words rest = refused (walk_of (json_with_used v)) _ _ (fails_now (walk_of (json_with_used v)) (codes "--json") words (json_used_json v)) refl
json_met (with_used_json v) words rest = refused (walk_of (with_used_json v)) _ _ (fails_now (walk_of (with_used_json v)) (codes "--json") words (used_json_json v)) refl

-- ---- `--with`

none_with : Goes (walk_of no_word) (codes "--with") (walk_of with)
unfolding clap_on_literals
none_with = (refl, refl)

json_then_with : Goes (walk_of json) (codes "--with") (walk_of json_with)
unfolding clap_on_literals
json_then_with = (refl, refl)

held_with : (v : Text) → Goes (walk_of (with_held v)) (codes "--with") (awaiting (with_rows v []))
unfolding clap_on_literals
held_with v = (refl, refl)

json_held_with : (v : Text) → Goes (walk_of (json_with_held v)) (codes "--with") (awaiting (with_rows v (json_rows [])))
unfolding clap_on_literals
json_held_with v = (refl, refl)

used_with : (v : Text) → Goes (walk_of (with_used v)) (codes "--with") (awaiting (with_rows v []))
unfolding clap_on_literals
used_with v = (refl, refl)

json_used_with : (v : Text) → Goes (walk_of (json_with_used v)) (codes "--with") (awaiting (with_rows v (json_rows [])))
unfolding clap_on_literals
json_used_with v = (refl, refl)

used_json_with : (v : Text) → Goes (walk_of (with_used_json v)) (codes "--with") (awaiting (json_rows (with_rows v [])))
unfolding clap_on_literals
used_json_with v = (refl, refl)

-- a second `--with`, over rows that have the first
again : (m : Met) (rows : List Row) (words : List Text) → has_row (codes "with") rows ≡ true → Goes (walk_of m) (codes "--with") (awaiting rows)
    → None ≡ run_request (has_json m) (has_given m) (codes "--with" ∷ words) → Rest words → ReadsAfter m (codes "--with" ∷ words)
again m rows words twice g none rest =
    refused (walk_of m) _ _ (fails_on (walk_of m) (awaiting rows) (codes "--with") words g (second_waits rows twice words rest.0)) none

with_met : (m : Met) (words : List Text) → Rest words → ReadsAfter m (codes "--with" ∷ words)
with_met no_word words rest = goes_on (walk_of no_word) (walk_of with) (codes "--with") words _ none_with (rest.1 with)
with_met json words rest = goes_on (walk_of json) (walk_of json_with) (codes "--with") words _ json_then_with (rest.1 json_with)
with_met with words rest = refused (walk_of with) _ _ (fails_now (walk_of with) (codes "--with") words (valueless_with [])) (no_run false (codes "--with") words refl)
with_met json_with words rest =
    refused (walk_of json_with) _ _ (fails_now (walk_of json_with) (codes "--with") words (valueless_with (json_rows []))) (no_run true (codes "--with") words refl)
with_met (with_held v) words rest = again (with_held v) (with_rows v []) words refl (held_with v) refl rest
with_met (json_with_held v) words rest = again (json_with_held v) (with_rows v (json_rows [])) words refl (json_held_with v) refl rest
with_met (with_used v) words rest = again (with_used v) (with_rows v []) words refl (used_with v) refl rest
with_met (json_with_used v) words rest = again (json_with_used v) (with_rows v (json_rows [])) words refl (json_used_with v) refl rest
with_met (with_used_json v) words rest = again (with_used_json v) (json_rows (with_rows v [])) words refl (used_json_with v) refl rest

-- ---- `--with=` and a value

none_value : (u : Text) → Goes (walk_of no_word) (codes "--with=" ++ u) (walk_of (with_used u))
unfolding clap_on_literals
none_value u = (refl, refl)

json_value : (u : Text) → Goes (walk_of json) (codes "--with=" ++ u) (walk_of (json_with_used u))
unfolding clap_on_literals
json_value u = (refl, refl)

held_value : (v u : Text) → Fails (walk_of (with_held v)) (codes "--with=" ++ u)
unfolding clap_on_literals
held_value v u = refl

json_held_value : (v u : Text) → Fails (walk_of (json_with_held v)) (codes "--with=" ++ u)
unfolding clap_on_literals
json_held_value v u = refl

used_value : (v u : Text) → Fails (walk_of (with_used v)) (codes "--with=" ++ u)
unfolding clap_on_literals
used_value v u = refl

json_used_value : (v u : Text) → Fails (walk_of (json_with_used v)) (codes "--with=" ++ u)
unfolding clap_on_literals
json_used_value v u = refl

used_json_value : (v u : Text) → Fails (walk_of (with_used_json v)) (codes "--with=" ++ u)
unfolding clap_on_literals
used_json_value v u = refl

value_no_with : (u : Text) → None ≡ with_of (codes "--with=" ++ u)
value_no_with u = long_no_with (codes "--with=" ++ u) refl

-- the word is a fault, and so the words ask for nothing
now : (m : Met) (u : Text) (words : List Text) → Fails (walk_of m) (codes "--with=" ++ u)
    → None ≡ run_request (has_json m) (has_given m) ((codes "--with=" ++ u) ∷ words) → ReadsAfter m ((codes "--with=" ++ u) ∷ words)
now m u words h none = refused (walk_of m) _ _ (fails_now (walk_of m) (codes "--with=" ++ u) words h) none

value_met : (m : Met) (u : Text) (words : List Text) → Rest words → ReadsAfter m ((codes "--with=" ++ u) ∷ words)
value_met no_word u words rest = goes_on (walk_of no_word) (walk_of (with_used u)) (codes "--with=" ++ u) words _ (none_value u) (rest.1 (with_used u))
value_met json u words rest = goes_on (walk_of json) (walk_of (json_with_used u)) (codes "--with=" ++ u) words _ (json_value u) (rest.1 (json_with_used u))
value_met with u words rest = now with u words (valueless_value [] u) (no_run false (codes "--with=" ++ u) words (value_no_with u))
value_met json_with u words rest = now json_with u words (valueless_value (json_rows []) u) (no_run true (codes "--with=" ++ u) words (value_no_with u))
value_met (with_held v) u words rest = now (with_held v) u words (held_value v u) refl
value_met (json_with_held v) u words rest = now (json_with_held v) u words (json_held_value v u) refl
value_met (with_used v) u words rest = now (with_used v) u words (used_value v u) refl
value_met (json_with_used v) u words rest = now (json_with_used v) u words (json_used_value v u) refl
value_met (with_used_json v) u words rest = now (with_used_json v) u words (used_json_value v u) refl

-- ---- any other word

stray_now : (m : Met) (word : Text) (words : List Text) → Fails (walk_of m) word → None ≡ run_request (has_json m) (has_given m) (word ∷ words) → ReadsAfter m (word ∷ words)
stray_now m word words h none = refused (walk_of m) _ _ (fails_now (walk_of m) word words h) none

stray_met : (m : Met) (word : Text) (words : List Text) → IsStray word → Rest words → ReadsAfter m (word ∷ words)
stray_met no_word word words s rest = stray_now no_word word words (s.fault [] None) (rw (s.no_json, s.no_with, s.no_value) refl)
stray_met json word words s rest = stray_now json word words (s.fault (json_rows []) None) (rw (s.no_json, s.no_with, s.no_value) refl)
stray_met with word words s rest = elim s.as_value [
  | inl value ↦ goes_on (walk_of with) (walk_of (with_held word)) word words _ (value []) (rest.1 (with_held word))
  | inr bad ↦ stray_now with word words (bad.1 []) (no_run false word words bad.0)
]
stray_met json_with word words s rest = elim s.as_value [
  | inl value ↦ goes_on (walk_of json_with) (walk_of (json_with_held word)) word words _ (value (json_rows [])) (rest.1 (json_with_held word))
  | inr bad ↦ stray_now json_with word words (bad.1 (json_rows [])) (no_run true word words bad.0)
]
stray_met (with_held v) word words s rest = stray_now (with_held v) word words (s.fault [] (Some (codes "with", v ∷ []))) (rw s.no_json refl)
stray_met (json_with_held v) word words s rest = stray_now (json_with_held v) word words (s.fault (json_rows []) (Some (codes "with", v ∷ []))) (rw s.no_json refl)
stray_met (with_used v) word words s rest = stray_now (with_used v) word words (s.fault (with_rows v []) None) (rw s.no_json refl)
stray_met (json_with_used v) word words s rest = stray_now (json_with_used v) word words (s.fault (with_rows v (json_rows [])) None) (rw s.no_json refl)
stray_met (with_used_json v) word words s rest = stray_now (with_used_json v) word words (s.fault (json_rows (with_rows v [])) None) (rw s.no_json refl)

-- ---- all words

met_next : (m : Met) (word : Text) (words : List Text) → RunWord word → Rest words → ReadsAfter m (word ∷ words)
met_next m word words (is_json e) rest = rw e (json_met m words rest)
met_next m word words (is_with e) rest = rw e (with_met m words rest)
met_next m word words (is_with_value u e) rest = rw e (value_met m u words rest)
met_next m word words (is_stray s) rest = stray_met m word words s rest

reads_after : (m : Met) (words : List Text) → has_dashes words ≡ false → ReadsAfter m words
reads_after m [] clear = ends m
reads_after m (word ∷ words) clear =
    let rest = rest_clear word words clear in
    met_next m word words (kind_of_word word (first_clear word words clear)) (rest, λ n. reads_after n words rest)

-- the words behind `run`, none of them `--`, are read as the table reads them
pub run_reads : (words : List Text) → has_dashes words ≡ false → ReadsFrom (walk_at [] None idle) words (run_request false absent words)
run_reads words clear = reads_after no_word words clear
