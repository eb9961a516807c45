-- The head of a text, line by line: the setup, the objects, the functions, and the word that ends it.
use Rattle.std.specs.Prelude.{ℕ, ◌+◌, Bool, true, false, List, [], ◌∷◌, ◌++◌, length, drop, get_or, Option, Some, None, Result, Ok, Err, if◌then◌else◌, bytes_eq, codes}
use Rattle.lb_base.specs.declared.value.Mode.{Mode}
use Rattle.lb_base.specs.declared.value.Mode.TheVariants as mode
use Rattle.lb_base.specs.declared.value.Value.{Value}
use Rattle.boki_types.specs.declared.kind.Kind.{Kind}
use Rattle.boki_types.specs.declared.kind.Kind.TheVariants as kind
use Rattle.boki_types.specs.declared.plan.Setup.{Setup}
use Rattle.boki_model.specs.Plans.{in_bounds, is_optional_engine}
use Rattle.script_lang.specs.declared.draft.Draft.{Draft}
use Rattle.line_text.specs.declared.checked.Checked.{Checked}
use Rattle.line_text.specs.declared.checked.Checked.TheVariants as r
use Rattle.line_text.specs.declared.token.Keyword.TheVariants as k
use Rattle.line_text.specs.declared.token.Token.{Token}
use Rattle.line_text.specs.declared.token.Token.TheVariants as t
use Rattle.script_lang.specs.Functions.{draft_line, empty_draft, is_in_function}
use Rattle.script_lang.specs.Names.{is_among}
use Rattle.line_text.specs.Readers.{◌>>=◌, if_at_end, text_at, value_at}
use Rattle.line_text.specs.Checks.{both_checked, map_checked, checked_if}
use Rattle.plan_lang.specs.declared.heads.Head.{Head}
use Rattle.plan_lang.specs.declared.heads.Expected.{Expected}
use Rattle.plan_lang.specs.declared.heads.Expected.TheVariants as expected
use Rattle.plan_lang.specs.declared.heads.HeadWord.{HeadWord}
use Rattle.plan_lang.specs.declared.heads.HeadWord.TheVariants as head_word
use Rattle.line_text.specs.Fields.{number_at, mode_at}

-- The setup: `setup S R E M`, or `setup S R E M F`.

-- the fifth number, where there is one
abbrev pub newer_of : List Token → Option (Checked (Option ℕ))
newer_of [] = Some (r.Valid None)
newer_of (x ∷ ts) = do
  n ← number_at 1 16 (x ∷ ts)
  if_at_end n.1 (map_checked (λ k. Some k) n.0)

abbrev pub check_then : {A B : Type 0} → (A → Checked B) → Checked A → Checked B
check_then f (r.Valid a) = f a
check_then f r.OutOfRange = r.OutOfRange
check_then f r.TooDeep = r.TooDeep

abbrev pub make_checked_setup : Mode → ((ℕ × ℕ) × ℕ) × Option ℕ → Checked Setup
make_checked_setup m p =
    checked_if (is_optional_engine p.0.1 p.1) (record { shards = p.0.0.0; replicas = p.0.0.1; engines = p.0.1; mode = m; newer = p.1 })

-- behind the word
abbrev pub setup_behind : List Token → Option (Checked Setup)
setup_behind ts = do
  shards ← number_at 1 16 ts
  replicas ← number_at 1 5 shards.1
  engines ← number_at 1 16 replicas.1
  m ← mode_at engines.1
  newer ← newer_of m.1
  Some (check_then (make_checked_setup m.0) (both_checked (both_checked (both_checked shards.0 replicas.0) engines.0) newer))

abbrev pub setup_of : List Token → Option (Checked Setup)
setup_of (t.Name x ∷ ts) = if bytes_eq x (codes "setup") then setup_behind ts else None
setup_of _ = None

-- An object, behind its word: a quoted text of 1 to 64 bytes, and a value.
abbrev pub object_of : List Token → Option (Checked (List ℕ × Value))
object_of ts = do
  name ← text_at ts
  value ← value_at name.1
  if_at_end value.1 (both_checked (checked_if (in_bounds 1 64 (length name.0)) name.0) value.0)

-- what a line of the head begins with; `close` is the word that ends the head
abbrev pub head_word_by : List ℕ → List ℕ → HeadWord
head_word_by close x = if bytes_eq x (codes "object") then head_word.Object else if bytes_eq x close then head_word.Close else head_word.Other

abbrev pub head_word_of : List ℕ → List Token → HeadWord
head_word_of close (t.Keyword k.Function ∷ ts) = head_word.Function
head_word_of close (t.Name x ∷ ts) = head_word_by close x
head_word_of close _ = head_word.Other

-- with the tokens behind that word; the head of a function is kept whole
abbrev pub with_word_taken : HeadWord → List Token → HeadWord × List Token
with_word_taken head_word.Function ts = (head_word.Function, ts)
with_word_taken head_word.Object ts = (head_word.Object, drop 1 ts)
with_word_taken head_word.Close ts = (head_word.Close, drop 1 ts)
with_word_taken head_word.Other ts = (head_word.Other, drop 1 ts)

abbrev pub head_word_at : List ℕ → List Token → HeadWord × List Token
head_word_at close ts = with_word_taken (head_word_of close ts) ts

-- the head with what a line gives
abbrev pub with_setup : Head → Option (Checked Setup) → Result Head Kind
with_setup h None = Err kind.Syntax
with_setup h (Some r.OutOfRange) = Err kind.Range
with_setup h (Some r.TooDeep) = Err kind.Deep
with_setup h (Some (r.Valid setup)) = Ok (record h { expected = expected.Objects; setup = setup })

abbrev pub with_object : ℕ → Head → Option (Checked (List ℕ × Value)) → Result Head Kind
with_object n h None = Err kind.Syntax
with_object n h (Some r.OutOfRange) = Err kind.Range
with_object n h (Some r.TooDeep) = Err kind.Deep
with_object n h (Some (r.Valid object)) = Ok (record h { objects = h.objects ++ object ∷ []; lines = h.lines ++ n ∷ [] })

abbrev pub with_draft : Head → Result Draft Kind → Result Head Kind
with_draft h (Err e) = Err e
with_draft h (Ok d) = Ok (record h { expected = expected.Functions; draft = d })

abbrev pub head_with_end : Head → List Token → Result Head Kind
head_with_end h [] = Ok (record h { expected = expected.Rest })
head_with_end h (x ∷ ts) = Err kind.Syntax

-- objects may stand before the first function
abbrev pub object_line : ℕ → List Token → Head → Expected → Result Head Kind
object_line n ts h expected.Setup = Err kind.Syntax
object_line n ts h expected.Objects = with_object n h (object_of ts)
object_line n ts h expected.Functions = Err kind.Syntax
object_line n ts h expected.Rest = Err kind.Syntax

abbrev pub head_word_line : ℕ → Head → HeadWord × List Token → Result Head Kind
head_word_line n h (head_word.Function, ts) = with_draft h (draft_line n ts h.draft)
head_word_line n h (head_word.Object, ts) = object_line n ts h h.expected
head_word_line n h (head_word.Close, ts) = head_with_end h ts
head_word_line n h (head_word.Other, ts) = Err kind.Syntax

-- a line between functions, and one in a function
abbrev pub between_line : List ℕ → ℕ → List Token → Head → Bool → Result Head Kind
between_line close n ts h true = with_draft h (draft_line n ts h.draft)
between_line close n ts h false = head_word_line n h (head_word_at close ts)

abbrev pub expected_line : List ℕ → ℕ → List Token → Head → Expected → Result Head Kind
expected_line close n ts h expected.Setup = with_setup h (setup_of ts)
expected_line close n ts h expected.Objects = between_line close n ts h (is_in_function h.draft.stage)
expected_line close n ts h expected.Functions = between_line close n ts h (is_in_function h.draft.stage)
expected_line close n ts h expected.Rest = Err kind.Syntax

-- a line of the head, of these tokens and with this number
abbrev pub head_line : List ℕ → ℕ → List Token → Head → Result Head Kind
head_line close n ts h = expected_line close n ts h h.expected

-- nothing read yet: the setup is any until its line comes
abbrev pub empty_head : Head
empty_head = record {
  expected = expected.Setup;
  setup = record { shards = 1; replicas = 1; engines = 1; mode = mode.R; newer = None };
  objects = [];
  lines = [];
  draft = empty_draft;
}

-- whether the head has ended
abbrev pub has_ended : Expected → Bool
has_ended expected.Setup = false
has_ended expected.Objects = false
has_ended expected.Functions = false
has_ended expected.Rest = true

-- The second pass over the objects: the first line that gives a name again. The numbers of the lines are those of ns from the
-- place i on.
abbrev pub objects_fault : List (List ℕ) → List (List ℕ × Value) → List ℕ → ℕ → Option (ℕ × Kind)
objects_fault before [] ns i = None
objects_fault before (o ∷ os) ns i =
    if is_among before o.0 then Some (get_or ns i 0, kind.Name) else objects_fault (before ++ o.0 ∷ []) os ns (i + 1)
