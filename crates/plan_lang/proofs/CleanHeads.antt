-- The texts of a head that is read line by line are spelled in UTF-8.
use Rattle.std.proofs.Common.{◌≡◌, ℕ, Bool, true, false, cond, List, [], ◌∷◌, length, drop, Option, Some, None, Result, Ok, Err, refl}
use Rattle.std.specs.Prelude.{◌&&◌, IfOk, option_and_then, nat_lt}
use Rattle.std.specs.List.{list_all}
use Rattle.lb_base.specs.declared.value.Value.{Value}
use Rattle.boki_types.specs.declared.kind.Kind.{Kind}
use Rattle.boki_types.specs.declared.kind.Kind.TheVariants as kind
use Rattle.boki_types.specs.declared.plan.Setup.{Setup}
use Rattle.boki_types.specs.declared.program.Function.{Function}
use Rattle.boki_types.specs.declared.program.Stmt.{Stmt}
use Rattle.boki_model.specs.Plans.{in_bounds}
use Rattle.script_lang.specs.declared.blocks.Nesting.{Nesting}
use Rattle.script_lang.specs.declared.blocks.Nesting.TheVariants as p
use Rattle.script_lang.specs.declared.draft.Draft.{Draft}
use Rattle.script_lang.specs.declared.draft.Stage.{Stage}
use Rattle.script_lang.specs.declared.draft.Stage.TheVariants.{Between, Inside}
use Rattle.line_text.specs.declared.checked.Checked.{Checked}
use Rattle.line_text.specs.declared.checked.Checked.TheVariants as r
use Rattle.line_text.specs.declared.token.Token.{Token}
use Rattle.line_text.specs.declared.token.Token.TheVariants as t
use Rattle.script_lang.specs.Functions.{nesting_of, draft_with_head, new_function, draft_with_nested, draft_with_stmt, stage_line, draft_line, is_in_function}
use Rattle.line_text.specs.Checks.{both_checked, checked_if}
use Rattle.line_text.specs.Readers.{if_at_end, value_at}
use Rattle.script_lang.specs.Statements.{function_head_of, stmt_of}
use Rattle.plan_lang.specs.declared.heads.Expected.{Expected}
use Rattle.plan_lang.specs.declared.heads.Expected.TheVariants as expected
use Rattle.plan_lang.specs.declared.heads.Head.{Head}
use Rattle.plan_lang.specs.declared.heads.HeadWord.{HeadWord}
use Rattle.plan_lang.specs.declared.heads.HeadWord.TheVariants as head_word
use Rattle.plan_lang.specs.Heads.{setup_of, object_of, with_setup, with_object, with_draft, head_with_end as head_closed, object_line, head_word_line, head_word_of, with_word_taken, between_line, expected_line, head_line, empty_head}
use Rattle.plan_lang.proofs.CleanReads.{is_clean_value, drop_clean, Leaves, value_clean}
use Rattle.plan_lang.proofs.CleanStmts.{is_clean_stmt, stmt_clean}
use Rattle.line_text.proofs.FieldsInRange.{IfLineValid, checked_if_valid, split_true, both_if_valid, at_end_if_valid}
use Rattle.plan_lang.proofs.PlansInLimits.{all_more}
use Rattle.line_text.proofs.Utf8Tokens.{is_clean_text, are_clean}

-- Functions.
abbrev pub is_clean_function : Function → Bool
is_clean_function f = list_all is_clean_stmt f.lines

abbrev pub CleanStage : Stage → Type 0
CleanStage Between = Unit {0}
CleanStage (Inside f m bs) = is_clean_function f ≡ true

pub record CleanDraft (d : Draft) : Type 0 where
  pub functions : list_all is_clean_function d.functions ≡ true
  pub stage : CleanStage d.stage

abbrev DraftOk : Result Draft Kind → Type 0
DraftOk o = IfOk o CleanDraft

begun_by : (n : ℕ) (fs : List Function) (ms : List (List ℕ)) (head : List ℕ × List (List ℕ)) (b : Bool) → list_all is_clean_function fs ≡ true → DraftOk (cond b (Ok (new_function n fs ms head)) (Err kind.Range))
begun_by n fs ms head true h = record { functions = h; stage = refl }
begun_by n fs ms head false h = tt

begun_clean : (n : ℕ) (fs : List Function) (ms : List (List ℕ)) (o : Option (Checked (List ℕ × List (List ℕ)))) → list_all is_clean_function fs ≡ true → DraftOk (draft_with_head n fs ms o)
begun_clean n fs ms None h = tt
begun_clean n fs ms (Some r.OutOfRange) h = tt
begun_clean n fs ms (Some r.TooDeep) h = tt
begun_clean n fs ms (Some (r.Valid head)) h = begun_by n fs ms head (nat_lt (length fs) 256) h

placed_clean : (n : ℕ) (fs : List Function) (ms : List (List ℕ)) (f : Function) (m : List ℕ) (l : Stmt) (x : Nesting) → list_all is_clean_function fs ≡ true → is_clean_function f ≡ true → is_clean_stmt l ≡ true → DraftOk (draft_with_nested n fs ms f m l x)
placed_clean n fs ms f m l (p.Within bs) h g c = record { functions = h; stage = all_more is_clean_stmt f.lines l g c }
placed_clean n fs ms f m l p.FunctionEnd h g c = record { functions = all_more is_clean_function fs f h g; stage = tt }
placed_clean n fs ms f m l p.Misplaced h g c = tt
placed_clean n fs ms f m l p.TooDeep h g c = tt

lined_clean : (n : ℕ) (fs : List Function) (ms : List (List ℕ)) (f : Function) (m : List ℕ) (bs : List Bool) (o : Option (Checked Stmt)) → list_all is_clean_function fs ≡ true → is_clean_function f ≡ true → IfLineValid is_clean_stmt o → DraftOk (draft_with_stmt n fs ms f m bs o)
lined_clean n fs ms f m bs None h g c = tt
lined_clean n fs ms f m bs (Some r.OutOfRange) h g c = tt
lined_clean n fs ms f m bs (Some r.TooDeep) h g c = tt
lined_clean n fs ms f m bs (Some (r.Valid l)) h g c = placed_clean n fs ms f m l (nesting_of bs l) h g c

stage_clean : (n : ℕ) (ts : List Token) (fs : List Function) (ms : List (List ℕ)) (s : Stage) → are_clean ts ≡ true → list_all is_clean_function fs ≡ true → CleanStage s → DraftOk (stage_line n ts fs ms s)
stage_clean n ts fs ms Between c h g = begun_clean n fs ms (function_head_of ts) h
stage_clean n ts fs ms (Inside f m bs) c h g = lined_clean n fs ms f m bs (stmt_of ts) h g (stmt_clean ts c)

-- Heads.
abbrev pub is_clean_object : List ℕ × Value → Bool
is_clean_object o = is_clean_text o.0 && is_clean_value o.1

pub record CleanHead (h : Head) : Type 0 where
  pub objects : list_all is_clean_object h.objects ≡ true
  pub draft : CleanDraft h.draft

abbrev HeadOk : Result Head Kind → Type 0
HeadOk o = IfOk o CleanHead

with_setup_clean : (h : Head) (o : Option (Checked Setup)) → CleanHead h → HeadOk (with_setup h o)
with_setup_clean h None g = tt
with_setup_clean h (Some r.OutOfRange) g = tt
with_setup_clean h (Some r.TooDeep) g = tt
with_setup_clean h (Some (r.Valid setup)) g = record { objects = g.objects; draft = g.draft }

with_object_clean : (n : ℕ) (h : Head) (o : Option (Checked (List ℕ × Value))) → CleanHead h → IfLineValid is_clean_object o → HeadOk (with_object n h o)
with_object_clean n h None g w = tt
with_object_clean n h (Some r.OutOfRange) g w = tt
with_object_clean n h (Some r.TooDeep) g w = tt
with_object_clean n h (Some (r.Valid object)) g w = record { objects = all_more is_clean_object h.objects object g.objects w; draft = g.draft }

with_draft_clean : (h : Head) (o : Result Draft Kind) → CleanHead h → DraftOk o → HeadOk (with_draft h o)
with_draft_clean h (Err k) g w = tt
with_draft_clean h (Ok d) g w = record { objects = g.objects; draft = w }

drafted : (n : ℕ) (ts : List Token) (h : Head) → are_clean ts ≡ true → CleanHead h → HeadOk (with_draft h (draft_line n ts h.draft))
drafted n ts h c g =
    with_draft_clean h (draft_line n ts h.draft) g (stage_clean n ts h.draft.functions h.draft.line_numbers h.draft.stage c g.draft.functions g.draft.stage)

object_on : (name : List ℕ) (o : Option (Checked Value × List Token)) → is_clean_text name ≡ true → Leaves is_clean_value o → IfLineValid is_clean_object (option_and_then (λ (value : Checked Value × List Token). if_at_end value.1 (both_checked (checked_if (in_bounds 1 64 (length name)) name) value.0)) o)
object_on name None u h = tt
object_on name (Some value) u h =
    at_end_if_valid is_clean_object value.1 _ (both_if_valid is_clean_text is_clean_value (checked_if (in_bounds 1 64 (length name)) name) value.0 (checked_if_valid is_clean_text (in_bounds 1 64 (length name)) name (λ _. u)) h.0)

object_clean : (ts : List Token) → are_clean ts ≡ true → IfLineValid is_clean_object (object_of ts)
object_clean (t.Text x ∷ ts) h =
    let s = split_true (is_clean_text x) (are_clean ts) h in object_on x (value_at ts) s.0 (value_clean ts s.1)
object_clean _ h = tt

object_line_clean : (n : ℕ) (ts : List Token) (h : Head) (d : Expected) → are_clean ts ≡ true → CleanHead h → HeadOk (object_line n ts h d)
object_line_clean n ts h expected.Setup c g = tt
object_line_clean n ts h expected.Objects c g = with_object_clean n h (object_of ts) g (object_clean ts c)
object_line_clean n ts h expected.Functions c g = tt
object_line_clean n ts h expected.Rest c g = tt

closed_clean : (h : Head) (ts : List Token) → CleanHead h → HeadOk (head_closed h ts)
closed_clean h [] g = record { objects = g.objects; draft = g.draft }
closed_clean h (x ∷ ts) g = tt

led_clean : (n : ℕ) (ts : List Token) (h : Head) (x : HeadWord) → are_clean ts ≡ true → CleanHead h → HeadOk (head_word_line n h (with_word_taken x ts))
led_clean n ts h head_word.Function c g = drafted n ts h c g
led_clean n ts h head_word.Object c g = object_line_clean n (drop 1 ts) h h.expected (drop_clean ts c) g
led_clean n ts h head_word.Close c g = closed_clean h (drop 1 ts) g
led_clean n ts h head_word.Other c g = tt

between_clean : (close : List ℕ) (n : ℕ) (ts : List Token) (h : Head) (b : Bool) → are_clean ts ≡ true → CleanHead h → HeadOk (between_line close n ts h b)
between_clean close n ts h true c g = drafted n ts h c g
between_clean close n ts h false c g = led_clean n ts h (head_word_of close ts) c g

due_clean : (close : List ℕ) (n : ℕ) (ts : List Token) (h : Head) (d : Expected) → are_clean ts ≡ true → CleanHead h → HeadOk (expected_line close n ts h d)
due_clean close n ts h expected.Setup c g = with_setup_clean h (setup_of ts) g
due_clean close n ts h expected.Objects c g = between_clean close n ts h (is_in_function h.draft.stage) c g
due_clean close n ts h expected.Functions c g = between_clean close n ts h (is_in_function h.draft.stage) c g
due_clean close n ts h expected.Rest c g = tt

-- A line of a head keeps its texts in UTF-8, whatever word ends the head.
pub head_clean : (close : List ℕ) (n : ℕ) (ts : List Token) (h : Head) → are_clean ts ≡ true → CleanHead h → HeadOk (head_line close n ts h)
head_clean close n ts h c g = due_clean close n ts h h.expected c g

pub no_head_clean : CleanHead empty_head
no_head_clean = record { objects = refl; draft = record { functions = refl; stage = tt } }
