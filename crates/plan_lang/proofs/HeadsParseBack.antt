-- The printed head of a plan is read again.
use Rattle.std.proofs.Common.{◌≡◌, ℕ, ◌+◌, ◌<◌, ◌≤◌, ◌^◌, Bool, true, false, cond, List, [], ◌∷◌, ◌++◌, length, Option, Some, None, Result, Ok, Err, refl, sym, ap, ◌∙◌, subst, append_assoc, arith}
use Rattle.std.specs.Prelude.{◌&&◌, option_and_then, bytes_eq, codes, nat_le, flat_map}
use Rattle.std.specs.List.{list_all}
use Rattle.std.specs.Fmt.{decimal}
use Rattle.std.proofs.lemmas.Bool.Decides.{nat_tests}
use Rattle.std.proofs.lemmas.List.{append-nil}
use Rattle.std.proofs.lemmas.Slice.Eq.{bytes_eq-Decides}
use Rattle.lb_base.specs.declared.value.Mode.{Mode}
use Rattle.lb_base.specs.declared.value.Mode.TheVariants as mode
use Rattle.lb_base.specs.declared.value.Value.{Value}
use Rattle.lb_base.specs.declared.value.Value.TheVariants as v
use Rattle.lb_base.specs.Print.{value_text, mode_text}
use Rattle.lb_base.specs.Quoted.{quoted}
use Rattle.boki_types.specs.declared.kind.Kind.{Kind}
use Rattle.boki_types.specs.declared.plan.Plan.{Plan}
use Rattle.boki_types.specs.declared.plan.Setup.{Setup}
use Rattle.boki_types.specs.declared.program.Function.{Function}
use Rattle.boki_model.specs.Bodies.{has_identifier_characters, is_name, is_value, is_target}
use Rattle.boki_model.specs.Plans.{in_bounds, is_optional_engine, is_setup}
use Rattle.script_lang.specs.declared.draft.Draft.{Draft}
use Rattle.script_lang.specs.declared.draft.Stage.{Stage}
use Rattle.script_lang.specs.declared.draft.Stage.TheVariants.{Between, Inside}
use Rattle.line_text.specs.declared.fault.TextFault.{TextFault}
use Rattle.line_text.specs.declared.lines.LexedLine.{LexedLine}
use Rattle.line_text.specs.declared.lines.LexedLine.TheVariants as l
use Rattle.line_text.specs.declared.checked.Checked.{Checked}
use Rattle.line_text.specs.declared.checked.Checked.TheVariants as r
use Rattle.line_text.specs.declared.token.Keyword.TheVariants as keys
use Rattle.line_text.specs.declared.token.Token.{Token}
use Rattle.line_text.specs.declared.token.Token.TheVariants as t
use Rattle.script_lang.specs.Functions.{draft_line, stage_line, take_line, draft_with_head, is_in_function, empty_draft}
use Rattle.line_text.specs.Lines.{lines_in, lexed_line, line_of_tokens}
use Rattle.script_lang.specs.Printed.{function_text}
use Rattle.line_text.specs.Checks.{both_checked, map_checked, checked_if}
use Rattle.line_text.specs.Readers.{if_at_end, value_at}
use Rattle.script_lang.specs.Statements.{function_head_of}
use Rattle.script_lang.specs.Texts.{draft_from}
use Rattle.line_text.specs.Texts.{lines_on as draft_goes_on, lines_on, read_lexed_line}
use Rattle.line_text.specs.Tokens.{word_token, keyword_of, tokens_in}
use Rattle.script_lang.proofs.DraftsInLimits.{FunctionInLimits}
use Rattle.script_lang.proofs.StmtsInLimits.{AllOf}
use Rattle.script_lang.proofs.ProgramsParseBack.{draft, scan_all}
use Rattle.script_lang.proofs.StmtTextLexes.{no_feed, feed_append, feed_int, feed_quoted}
use Rattle.plan_lang.specs.declared.heads.Expected.{Expected}
use Rattle.plan_lang.specs.declared.heads.Expected.TheVariants as expected
use Rattle.plan_lang.specs.declared.heads.Head.{Head}
use Rattle.plan_lang.specs.declared.heads.HeadWord.TheVariants as head_word
use Rattle.plan_lang.specs.Heads.{check_then, make_checked_setup, setup_of, object_of, head_word_of, with_word_taken, head_word_line, with_setup, with_object, with_draft, between_line, expected_line, head_line, empty_head, has_ended}
use Rattle.plan_lang.specs.Printed.{newer_text, setup_text, name_value_line, head_text}
use Rattle.plan_lang.proofs.FieldsParseBack.{value_reads_back}
use Rattle.line_text.proofs.FieldsInRange.{split_true}
use Rattle.plan_lang.proofs.PlansInLimits.{object_test}
use Rattle.plan_lang.proofs.PrintedLines.{Inline, plain_inline, front, mode_plain, newer_plain, numbered}
use Rattle.plan_lang.proofs.ScansInPieces.{plain_from, plain_scan, piece_then, tokens_read}
use Rattle.plan_lang.proofs.FieldTextLexes.{Cuts, whole, number_piece, text_piece, value_tokens, value_piece, spaced, behind_word, word_piece}

-- a head that has its setup
abbrev pub headed : Setup → List (List ℕ × Value) → List ℕ → Expected → Draft → Head
headed setup objects lines next d = record { expected = next; setup = setup; objects = objects; lines = lines; draft = d }

-- Functions.
abbrev takes_functions : Expected → Bool
takes_functions expected.Setup = false
takes_functions expected.Objects = true
takes_functions expected.Functions = true
takes_functions expected.Rest = false

function_first : (close : List ℕ) (n : ℕ) (ts : List Token) (fs : List Function) (ms : List (List ℕ)) (next : Draft) → draft_with_head n fs ms (function_head_of ts) ≡ Ok next → head_word_of close ts ≡ head_word.Function
function_first close n [] fs ms next e = absurd (cc)
function_first close n (t.Keyword keys.Function ∷ ts) fs ms next e = refl
function_first close n (t.Keyword keys.End ∷ ts) fs ms next e = absurd (cc)
function_first close n (t.Keyword keys.Let ∷ ts) fs ms next e = absurd (cc)
function_first close n (t.Keyword keys.Read ∷ ts) fs ms next e = absurd (cc)
function_first close n (t.Keyword keys.Write ∷ ts) fs ms next e = absurd (cc)
function_first close n (t.Keyword keys.Spawn ∷ ts) fs ms next e = absurd (cc)
function_first close n (t.Keyword keys.Join ∷ ts) fs ms next e = absurd (cc)
function_first close n (t.Keyword keys.Push ∷ ts) fs ms next e = absurd (cc)
function_first close n (t.Keyword keys.Pop ∷ ts) fs ms next e = absurd (cc)
function_first close n (t.Keyword keys.Begin ∷ ts) fs ms next e = absurd (cc)
function_first close n (t.Keyword keys.Commit ∷ ts) fs ms next e = absurd (cc)
function_first close n (t.Keyword keys.If ∷ ts) fs ms next e = absurd (cc)
function_first close n (t.Keyword keys.Else ∷ ts) fs ms next e = absurd (cc)
function_first close n (t.Keyword keys.While ∷ ts) fs ms next e = absurd (cc)
function_first close n (t.Keyword keys.Return ∷ ts) fs ms next e = absurd (cc)
function_first close n (t.Keyword keys.Not ∷ ts) fs ms next e = absurd (cc)
function_first close n (t.Keyword keys.Nothing ∷ ts) fs ms next e = absurd (cc)
function_first close n (t.Keyword keys.TextOf ∷ ts) fs ms next e = absurd (cc)
function_first close n (t.Keyword keys.Len ∷ ts) fs ms next e = absurd (cc)
function_first close n (t.Numeral x ∷ ts) fs ms next e = absurd (cc)
function_first close n (t.Dotted x ∷ ts) fs ms next e = absurd (cc)
function_first close n (t.Text x ∷ ts) fs ms next e = absurd (cc)
function_first close n (t.Name x ∷ ts) fs ms next e = absurd (cc)
function_first close n (t.Op x ∷ ts) fs ms next e = absurd (cc)
function_first close n (t.Minus x ∷ ts) fs ms next e = absurd (cc)
function_first close n (t.Punctuation x ∷ ts) fs ms next e = absurd (cc)

between_read : (close : List ℕ) (n : ℕ) (ts : List Token) (h : Head) (fs : List Function) (ms : List (List ℕ)) (s : Stage) (next : Draft) → h.draft ≡ record { functions = fs; line_numbers = ms; stage = s } → stage_line n ts fs ms s ≡ Ok next → between_line close n ts h (is_in_function s) ≡ Ok (record h { expected = expected.Functions; draft = next })
between_read close n ts h fs ms Between next d e =
    ap (λ x. head_word_line n h (with_word_taken x ts)) (function_first close n ts fs ms next e)
    ∙ ap (λ x. with_draft h (draft_line n ts x)) d
    ∙ ap (with_draft h) e
between_read close n ts h fs ms (Inside f m bs) next d e = ap (λ x. with_draft h (draft_line n ts x)) d ∙ ap (with_draft h) e

draft_read : (close : List ℕ) (n : ℕ) (ts : List Token) (setup : Setup) (objects : List (List ℕ × Value)) (lines : List ℕ) (x : Expected) (d next : Draft) → takes_functions x ≡ true → draft_line n ts d ≡ Ok next → head_line close n ts (headed setup objects lines x d) ≡ Ok (headed setup objects lines expected.Functions next)
draft_read close n ts setup objects lines expected.Setup d next o e = absurd (cc)
draft_read close n ts setup objects lines expected.Objects d next o e = between_read close n ts (headed setup objects lines expected.Objects d) d.functions d.line_numbers d.stage next refl e
draft_read close n ts setup objects lines expected.Functions d next o e = between_read close n ts (headed setup objects lines expected.Functions d) d.functions d.line_numbers d.stage next refl e
draft_read close n ts setup objects lines expected.Rest d next o e = absurd (cc)

record LineRead (close : List ℕ) (n : ℕ) (line : LexedLine) (setup : Setup) (objects : List (List ℕ × Value)) (lines : List ℕ) (x : Expected) (d next : Draft) : Type 0 where
  after : Expected
  takes : takes_functions after ≡ true
  same : read_lexed_line (head_line close) n line (headed setup objects lines x d) ≡ Ok (headed setup objects lines after next)

inner_draft : (d e : Draft) (o : Result Draft Kind) → o ≡ Ok d → o ≡ Ok e → d ≡ e
inner_draft d e o h g = cc

draft_line_read : (close : List ℕ) (n : ℕ) (line : LexedLine) (setup : Setup) (objects : List (List ℕ × Value)) (lines : List ℕ) (x : Expected) (d next : Draft) → takes_functions x ≡ true → take_line n line d ≡ Ok next → LineRead close n line setup objects lines x d next
draft_line_read close n l.Skipped setup objects lines x d next o e = record {
  after = x;
  takes = o;
  same = let f = inner_draft d next (Ok d) refl e in ap (λ z. Ok (headed setup objects lines x z)) f;
}
draft_line_read close n (l.Tokens ts) setup objects lines x d next o e =
    record { after = expected.Functions; takes = refl; same = draft_read close n ts setup objects lines x d next o e }
draft_line_read close n l.Invalid setup objects lines x d next o e = absurd (cc)

record TextRead (close : List ℕ) (n m : ℕ) (ls : List (List ℕ)) (rest : List ℕ) (setup : Setup) (objects : List (List ℕ × Value)) (lines : List ℕ) (x : Expected) (d next : Draft) : Type 0 where
  after : Expected
  takes : takes_functions after ≡ true
  same : plain_from (head_line close) n ls rest (headed setup objects lines x d) ≡ Ok (m, headed setup objects lines after next)

abbrev found_in : ℕ × Draft → Result (ℕ × Draft) TextFault
found_in p = Ok p

inner_found : (p q : ℕ × Draft) → found_in p ≡ found_in q → p ≡ q
inner_found p q h = cc

goes_read : (close : List ℕ) (n m : ℕ) (line : List ℕ) (ls : List (List ℕ)) (rest : List ℕ) (setup : Setup) (objects : List (List ℕ × Value)) (lines : List ℕ) (x : Expected) (d next : Draft) (o : Result Draft Kind) → take_line n (lexed_line line) d ≡ o → takes_functions x ≡ true → ((y : Expected) (e : Draft) → takes_functions y ≡ true → draft_from (n + 1) ls rest e ≡ Ok (m, next) → TextRead close (n + 1) m ls rest setup objects lines y e next) → draft_goes_on (draft_from (n + 1) ls rest) n o ≡ Ok (m, next) → TextRead close n m (line ∷ ls) rest setup objects lines x d next
goes_read close n m line ls rest setup objects lines x d next (Err k) o t h e = absurd (cc)
goes_read close n m line ls rest setup objects lines x d next (Ok first) o t h e =
    let a = draft_line_read close n (lexed_line line) setup objects lines x d first t o in
    let b = h a.after first a.takes e in record {
      after = b.after;
      takes = b.takes;
      same = ap (lines_on (plain_from (head_line close) (n + 1) ls rest) n) a.same ∙ b.same;
    }

from_read : (close : List ℕ) (n m : ℕ) (ls : List (List ℕ)) (rest : List ℕ) (setup : Setup) (objects : List (List ℕ × Value)) (lines : List ℕ) (x : Expected) (d next : Draft) → takes_functions x ≡ true → draft_from n ls rest d ≡ Ok (m, next) → TextRead close n m ls rest setup objects lines x d next
from_read close n m [] [] setup objects lines x d next t e = record {
  after = x;
  takes = t;
  same = let f = inner_found (n, d) (m, next) e in ap (λ (p : ℕ × Draft). Ok (p.0, headed setup objects lines x p.1)) f;
}
from_read close n m [] (c ∷ cs) setup objects lines x d next t e = absurd (cc)
from_read close n m (line ∷ ls) rest setup objects lines x d next t e =
    goes_read close n m line ls rest setup objects lines x d next (take_line n (lexed_line line) d) refl t
    (λ y f g h. from_read close (n + 1) m ls rest setup objects lines y f next g h) e

record FunctionsRead (close : List ℕ) (n : ℕ) (setup : Setup) (objects : List (List ℕ × Value)) (lines : List ℕ) (fs : List Function) : Type 0 where
  line : ℕ
  line_numbers : List (List ℕ)
  after : Expected
  takes : takes_functions after ≡ true
  same : plain_scan (head_line close) n (flat_map function_text fs) (headed setup objects lines expected.Objects empty_draft) ≡ Ok (line, headed setup objects lines after (record { functions = fs; line_numbers = line_numbers; stage = Between }))

functions_read : (close : List ℕ) (n : ℕ) (setup : Setup) (objects : List (List ℕ × Value)) (lines : List ℕ) (fs : List Function) → AllOf FunctionInLimits fs → length fs ≤ 256 → FunctionsRead close n setup objects lines fs
unfolding draft
functions_read close n setup objects lines fs g few =
    let s = scan_all fs n [] [] g (omega arith) in
    let text = flat_map function_text fs in
    let a = from_read close n s.line (lines_in text).0 (lines_in text).1 setup objects lines expected.Objects empty_draft (record { functions = fs; line_numbers = s.line_numbers; stage = Between }) refl s.same in
    record { line = s.line; line_numbers = s.line_numbers; after = a.after; takes = a.takes; same = a.same }

-- Objects.
abbrev object_text : List ℕ × Value → List ℕ
object_text o = name_value_line (codes "object ") o

abbrev object_front : List ℕ × Value → List ℕ
object_front o = codes "object" ++ (32 ∷ (quoted o.0 ++ (32 ∷ value_text o.1)))

object_apart : (o : List ℕ × Value) → object_text o ≡ object_front o ++ 10 ∷ []
object_apart o = simp append_assoc

feed_value : (x : Value) → is_value x ≡ true → no_feed (value_text x) ≡ true
feed_value (v.Int n) h = feed_int n h
feed_value (v.Text x) h = feed_quoted x
feed_value v.Nothing h = refl

object_feed : (o : List ℕ × Value) → object_test o ≡ true → no_feed (object_front o) ≡ true
object_feed o h =
    let s = split_true (is_name o.0) (is_value o.1) h in
    feed_append (quoted o.0) (32 ∷ value_text o.1) (feed_quoted o.0) (feed_value o.1 s.1)

short_name : (x : List ℕ) → is_name x ≡ true → nat_le (length x) 256 ≡ true
short_name x h = grind (arith, nat_tests, h)

object_tokens : List ℕ × Value → List Token
object_tokens o = t.Name (codes "object") ∷ t.Text o.0 ∷ value_tokens o.1

object_cut : (o : List ℕ × Value) → object_test o ≡ true → lexed_line (object_front o) ≡ l.Tokens (object_tokens o)
unfolding word_token keyword_of object_tokens
object_cut o h =
    let s = split_true (is_name o.0) (is_value o.1) h in
    ap line_of_tokens (whole (object_front o) (object_tokens o)
    (behind_word (codes "object") (quoted o.0 ++ (32 ∷ value_text o.1)) (t.Text o.0 ∷ value_tokens o.1) refl refl
    (spaced (quoted o.0) (value_text o.1) (t.Text o.0 ∷ []) (value_tokens o.1) (text_piece o.0 (short_name o.0 s.0)) (record { cut = value_piece o.1 s.1 }))))

object_back : (o : List ℕ × Value) → object_test o ≡ true → object_of (t.Text o.0 ∷ value_tokens o.1) ≡ Some (r.Valid o)
object_back o h =
    let s = split_true (is_name o.0) (is_value o.1) h in
    ap (option_and_then (λ (x : Checked Value × List Token). if_at_end x.1 (both_checked (checked_if (in_bounds 1 64 (length o.0)) o.0) x.0))) (ap value_at (sym (append-nil (value_tokens o.1))) ∙ value_reads_back o.1 [] s.1)
    ∙ ap (λ b. Some (both_checked (checked_if b o.0) (r.Valid o.1))) s.0

object_read : (close : List ℕ) (n : ℕ) (setup : Setup) (os : List (List ℕ × Value)) (lines : List ℕ) (o : List ℕ × Value) → object_test o ≡ true → plain_scan (head_line close) n (object_text o) (headed setup os lines expected.Objects empty_draft) ≡ Ok (n + 1, headed setup (os ++ o ∷ []) (lines ++ n ∷ []) expected.Objects empty_draft)
unfolding object_tokens
object_read close n setup os lines o h =
    let start = headed setup os lines expected.Objects empty_draft in
    ap (λ text. plain_scan (head_line close) n text start) (object_apart o)
    ∙ tokens_read (head_line close) n (object_front o) (object_tokens o) start (headed setup (os ++ o ∷ []) (lines ++ n ∷ []) expected.Objects empty_draft) (object_feed o h) (object_cut o h) (ap (with_object n start) (object_back o h))

record ObjectsRead (close : List ℕ) (n : ℕ) (setup : Setup) (before : List (List ℕ × Value)) (lines : List ℕ) (os : List (List ℕ × Value)) : Type 0 where
  line : ℕ
  after : List ℕ
  same : plain_scan (head_line close) n (flat_map object_text os) (headed setup before lines expected.Objects empty_draft) ≡ Ok (line, headed setup (before ++ os) after expected.Objects empty_draft)

objects_read : (close : List ℕ) (n : ℕ) (setup : Setup) (before : List (List ℕ × Value)) (lines : List ℕ) (os : List (List ℕ × Value)) → list_all object_test os ≡ true → ObjectsRead close n setup before lines os
objects_read close n setup before lines [] h = record {
  line = n;
  after = lines;
  same = ap (λ (xs : List (List ℕ × Value)). Ok (n, headed setup xs lines expected.Objects empty_draft)) (sym (append-nil before));
}
objects_read close n setup before lines (o ∷ os) h =
    let s = split_true (object_test o) (list_all object_test os) h in
    let first = headed setup before lines expected.Objects empty_draft in
    let next = headed setup (before ++ o ∷ []) (lines ++ n ∷ []) expected.Objects empty_draft in
    let b = objects_read close (n + 1) setup (before ++ o ∷ []) (lines ++ n ∷ []) os s.1 in
    record {
      line = b.line;
      after = b.after;
      same =
          piece_then (head_line close) n (n + 1) (object_text o) (flat_map object_text os) first next (object_read close n setup before lines o s.0)
          ∙ b.same
          ∙ ap (λ (xs : List (List ℕ × Value)). Ok (b.line, headed setup xs b.after expected.Objects empty_draft)) (append_assoc before (o ∷ []) os);
    }

-- The setup.
at_most : (low high n : ℕ) → in_bounds low high n ≡ true → n ≤ high
at_most low high n h = grind (arith, nat_tests, h)

low_by : (low high n : ℕ) → high < 2 ^ 64 → in_bounds low high n ≡ true → n < 2 ^ 64
low_by low high n l h = let u = at_most low high n h in omega arith

sizes_fine : (m : Mode) (s p e : ℕ) (a b c : Bool) → a ≡ true → b ≡ true → c ≡ true → check_then (make_checked_setup m) (both_checked (both_checked (both_checked (checked_if a s) (checked_if b p)) (checked_if c e)) (r.Valid None)) ≡ r.Valid (record { shards = s; replicas = p; engines = e; mode = m; newer = None })
sizes_fine m s p e a b c h k i = rw (h, k, i) refl

newer_fine : (m : Mode) (s p e n : ℕ) (a b c d f : Bool) → a ≡ true → b ≡ true → c ≡ true → d ≡ true → in_bounds 1 e n ≡ f → f ≡ true → check_then (make_checked_setup m) (both_checked (both_checked (both_checked (checked_if a s) (checked_if b p)) (checked_if c e)) (map_checked (λ k. Some k) (checked_if d n))) ≡ r.Valid (record { shards = s; replicas = p; engines = e; mode = m; newer = Some n })
newer_fine m s p e n a b c d f h k i j g o = rw (h, k, i, j, g, o) refl

newer_tokens : Option ℕ → List Token
newer_tokens None = []
newer_tokens (Some n) = t.Numeral (Some n) ∷ []

setup_tokens : ℕ → ℕ → ℕ → List ℕ → Option ℕ → List Token
setup_tokens s p e w f =
    t.Name (codes "setup") ∷ t.Numeral (Some s) ∷ t.Numeral (Some p) ∷ t.Numeral (Some e) ∷ t.Name w ∷ newer_tokens f

-- numbers of a setup
record Sizes (s p e : ℕ) (f : Option ℕ) : Type 0 where
  shards : in_bounds 1 16 s ≡ true
  replicas : in_bounds 1 5 p ≡ true
  engines : in_bounds 1 16 e ≡ true
  newer : is_optional_engine e f ≡ true

newer_low : (e n : ℕ) → in_bounds 1 16 e ≡ true → in_bounds 1 e n ≡ true → in_bounds 1 16 n ≡ true
newer_low e n h k = grind (arith, nat_tests, h, k)

back_by : (m : Mode) (s p e : ℕ) (f : Option ℕ) → is_target m ≡ true → Sizes s p e f → setup_of (setup_tokens s p e (mode_text m) f) ≡ Some (r.Valid (record { shards = s; replicas = p; engines = e; mode = m; newer = f }))
unfolding setup_tokens newer_tokens
back_by mode.R s p e None h z = ap (λ x. Some x) (sizes_fine mode.R s p e (in_bounds 1 16 s) (in_bounds 1 5 p) (in_bounds 1 16 e) z.shards z.replicas z.engines)
back_by mode.R s p e (Some n) h z = ap (λ x. Some x) (newer_fine mode.R s p e n (in_bounds 1 16 s) (in_bounds 1 5 p) (in_bounds 1 16 e) (in_bounds 1 16 n) (in_bounds 1 e n) z.shards z.replicas z.engines (newer_low e n z.engines z.newer) refl z.newer)
back_by mode.W s p e None h z = ap (λ x. Some x) (sizes_fine mode.W s p e (in_bounds 1 16 s) (in_bounds 1 5 p) (in_bounds 1 16 e) z.shards z.replicas z.engines)
back_by mode.W s p e (Some n) h z = ap (λ x. Some x) (newer_fine mode.W s p e n (in_bounds 1 16 s) (in_bounds 1 5 p) (in_bounds 1 16 e) (in_bounds 1 16 n) (in_bounds 1 e n) z.shards z.replicas z.engines (newer_low e n z.engines z.newer) refl z.newer)
back_by mode.T s p e f h z = absurd (cc)

newer_cut : (w : List ℕ) (e : ℕ) (f : Option ℕ) → word_token w ≡ t.Name w → has_identifier_characters w ≡ true → in_bounds 1 16 e ≡ true → is_optional_engine e f ≡ true → Cuts (w ++ newer_text f) (t.Name w ∷ newer_tokens f)
unfolding newer_tokens
newer_cut w e None h k i j = subst (λ (x : List ℕ). Cuts x (t.Name w ∷ [])) (sym (append-nil w)) (word_piece w h k)
newer_cut w e (Some n) h k i j = behind_word w (decimal n) (t.Numeral (Some n) ∷ []) h k (number_piece n (low_by 1 16 n (omega arith) (newer_low e n i j)))

abbrev pub sizes_front : ℕ → ℕ → ℕ → List ℕ → Option ℕ → List ℕ
sizes_front s p e w f = decimal s ++ (32 ∷ (decimal p ++ (32 ∷ (decimal e ++ (32 ∷ (w ++ newer_text f))))))

sizes_cut : (s p e : ℕ) (w : List ℕ) (f : Option ℕ) → word_token w ≡ t.Name w → has_identifier_characters w ≡ true → Sizes s p e f → tokens_in (codes "setup" ++ (32 ∷ sizes_front s p e w f)) ≡ Some (setup_tokens s p e w f)
unfolding word_token keyword_of setup_tokens
sizes_cut s p e w f h k z =
    whole (codes "setup" ++ (32 ∷ sizes_front s p e w f)) (setup_tokens s p e w f)
    (behind_word (codes "setup") (sizes_front s p e w f) _ refl refl
    (spaced (decimal s) _ (t.Numeral (Some s) ∷ []) _ (number_piece s (low_by 1 16 s (omega arith) z.shards))
    (spaced (decimal p) _ (t.Numeral (Some p) ∷ []) _ (number_piece p (low_by 1 5 p (omega arith) z.replicas))
    (spaced (decimal e) _ (t.Numeral (Some e) ∷ []) (t.Name w ∷ newer_tokens f) (number_piece e (low_by 1 16 e (omega arith) z.engines)) (newer_cut w e f h k z.engines z.newer)))))

mode_cut : (m : Mode) (s p e : ℕ) (f : Option ℕ) → is_target m ≡ true → Sizes s p e f → lexed_line (codes "setup" ++ (32 ∷ sizes_front s p e (mode_text m) f)) ≡ l.Tokens (setup_tokens s p e (mode_text m) f)
unfolding word_token keyword_of
mode_cut mode.R s p e f h z = ap line_of_tokens (sizes_cut s p e (codes "R") f refl refl z)
mode_cut mode.W s p e f h z = ap line_of_tokens (sizes_cut s p e (codes "W") f refl refl z)
mode_cut mode.T s p e f h z = absurd (cc)

pub sizes_inline : (s p e : ℕ) (m : Mode) (f : Option ℕ) → Inline (codes "setup" ++ (32 ∷ sizes_front s p e (mode_text m) f))
sizes_inline s p e m f =
    front (codes "setup ") _ refl (numbered s _ (numbered p _ (numbered e _ (front (mode_text m) (newer_text f) (mode_plain m) (plain_inline (newer_text f) (newer_plain f))))))

pub setup_apart : (setup : Setup) → setup_text setup ≡ (codes "setup" ++ (32 ∷ sizes_front setup.shards setup.replicas setup.engines (mode_text setup.mode) setup.newer)) ++ 10 ∷ []
setup_apart setup = simp append_assoc

setup_sizes : (setup : Setup) → is_setup setup ≡ true → Sizes setup.shards setup.replicas setup.engines setup.newer × (is_target setup.mode ≡ true)
setup_sizes setup h =
    let a = split_true _ _ h in
    let b = split_true _ _ a.0 in
    let c = split_true (in_bounds 1 16 setup.shards && in_bounds 1 5 setup.replicas) (in_bounds 1 16 setup.engines) b.0 in
    let d = split_true (in_bounds 1 16 setup.shards) (in_bounds 1 5 setup.replicas) c.0 in
    (record { shards = d.0; replicas = d.1; engines = c.1; newer = a.1 }, b.1)

setup_read : (close : List ℕ) (n : ℕ) (setup : Setup) → is_setup setup ≡ true → plain_scan (head_line close) n (setup_text setup) empty_head ≡ Ok (n + 1, headed setup [] [] expected.Objects empty_draft)
setup_read close n setup h =
    let z = setup_sizes setup h in
    let line = codes "setup" ++ (32 ∷ sizes_front setup.shards setup.replicas setup.engines (mode_text setup.mode) setup.newer) in
    ap (λ text. plain_scan (head_line close) n text empty_head) (setup_apart setup)
    ∙ tokens_read (head_line close) n line (setup_tokens setup.shards setup.replicas setup.engines (mode_text setup.mode) setup.newer) empty_head (headed setup [] [] expected.Objects empty_draft)
    ((sizes_inline setup.shards setup.replicas setup.engines setup.mode setup.newer).feed) (mode_cut setup.mode setup.shards setup.replicas setup.engines setup.newer z.1 z.0)
    (ap (with_setup empty_head) (back_by setup.mode setup.shards setup.replicas setup.engines setup.newer z.1 z.0))

-- The word that ends the head.
pub record Closes (close : List ℕ) : Type 0 where
  pub feed : no_feed close ≡ true
  pub cut : lexed_line close ≡ l.Tokens (t.Name close ∷ [])
  pub other : bytes_eq close (codes "object") ≡ false

pub events_close : Closes (codes "events")
unfolding word_token keyword_of
events_close = record { feed = refl; cut = ap line_of_tokens (whole (codes "events") _ (word_piece (codes "events") refl refl)); other = refl }

pub turns_close : Closes (codes "turns")
unfolding word_token keyword_of
turns_close = record { feed = refl; cut = ap line_of_tokens (whole (codes "turns") _ (word_piece (codes "turns") refl refl)); other = refl }

same_word : (x : List ℕ) → bytes_eq x x ≡ true
same_word x = (bytes_eq-Decides x x).1 refl

closed_read : (close : List ℕ) (n : ℕ) (h : Head) → bytes_eq close (codes "object") ≡ false → between_line close n (t.Name close ∷ []) h false ≡ Ok (record h { expected = expected.Rest })
closed_read close n h e =
    ap (λ b. head_word_line n h (with_word_taken (cond b head_word.Object (cond (bytes_eq close close) head_word.Close head_word.Other)) (t.Name close ∷ []))) e
    ∙ ap (λ b. head_word_line n h (with_word_taken (cond b head_word.Close head_word.Other) (t.Name close ∷ []))) (same_word close)

closing_read : (close : List ℕ) (n : ℕ) (setup : Setup) (os : List (List ℕ × Value)) (lines : List ℕ) (x : Expected) (fs : List Function) (ms : List (List ℕ)) → takes_functions x ≡ true → Closes close → head_line close n (t.Name close ∷ []) (headed setup os lines x (record { functions = fs; line_numbers = ms; stage = Between })) ≡ Ok (headed setup os lines expected.Rest (record { functions = fs; line_numbers = ms; stage = Between }))
closing_read close n setup os lines expected.Setup fs ms h c = absurd (cc)
closing_read close n setup os lines expected.Objects fs ms h c = closed_read close n (headed setup os lines expected.Objects (record { functions = fs; line_numbers = ms; stage = Between })) c.other
closing_read close n setup os lines expected.Functions fs ms h c = closed_read close n (headed setup os lines expected.Functions (record { functions = fs; line_numbers = ms; stage = Between })) c.other
closing_read close n setup os lines expected.Rest fs ms h c = absurd (cc)

-- A whole head with the line that ends it.
pub record HeadRead (close : List ℕ) (n : ℕ) (plan : Plan) : Type 0 where
  pub line : ℕ
  pub lines : List ℕ
  pub line_numbers : List (List ℕ)
  pub same : plain_scan (head_line close) n (head_text plan ++ (close ++ codes "\n")) empty_head ≡ Ok (line, headed plan.setup plan.objects lines expected.Rest (record { functions = plan.program.functions; line_numbers = line_numbers; stage = Between }))

head_apart : (a b c d : List ℕ) → (a ++ (b ++ c)) ++ d ≡ a ++ (b ++ (c ++ d))
head_apart a b c d = simp append_assoc

pub head_parses_back : (close : List ℕ) (n : ℕ) (plan : Plan) → Closes close → is_setup plan.setup ≡ true → list_all object_test plan.objects ≡ true → AllOf FunctionInLimits plan.program.functions → length plan.program.functions ≤ 256 → HeadRead close n plan
head_parses_back close n plan c h k g few =
    let take = head_line close in
    let objects = flat_map object_text plan.objects in
    let functions = flat_map function_text plan.program.functions in
    let end = close ++ codes "\n" in
    let a = setup_read close n plan.setup h in
    let b = objects_read close (n + 1) plan.setup [] [] plan.objects k in
    let f = functions_read close b.line plan.setup plan.objects b.after plan.program.functions g few in
    let d : Draft = record { functions = plan.program.functions; line_numbers = f.line_numbers; stage = Between } in
    let before = headed plan.setup plan.objects b.after f.after d in
    record {
      line = f.line + 1;
      lines = b.after;
      line_numbers = f.line_numbers;
      same =
          ap (λ text. plain_scan take n text empty_head) (head_apart (setup_text plan.setup) objects functions end)
          ∙ piece_then take n (n + 1) (setup_text plan.setup) (objects ++ (functions ++ end)) empty_head (headed plan.setup [] [] expected.Objects empty_draft) a
          ∙ piece_then take (n + 1) b.line objects (functions ++ end) (headed plan.setup [] [] expected.Objects empty_draft) (headed plan.setup plan.objects b.after expected.Objects empty_draft) b.same
          ∙ piece_then take b.line f.line functions end (headed plan.setup plan.objects b.after expected.Objects empty_draft) before f.same
          ∙ tokens_read take f.line close (t.Name close ∷ []) before (headed plan.setup plan.objects b.after expected.Rest d) c.feed c.cut (closing_read close f.line plan.setup plan.objects b.after f.after plan.program.functions f.line_numbers f.takes c);
    }

-- no line of a head is read once it has ended
pub not_ended : (close : List ℕ) (n : ℕ) (ts : List Token) (h next : Head) (x : Expected) → expected_line close n ts h x ≡ Ok next → has_ended x ≡ false
not_ended close n ts h next expected.Setup e = refl
not_ended close n ts h next expected.Objects e = refl
not_ended close n ts h next expected.Functions e = refl
not_ended close n ts h next expected.Rest e = absurd (cc)
