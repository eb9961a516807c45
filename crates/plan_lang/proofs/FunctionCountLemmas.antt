-- No more functions than the limit are read.
use Rattle.std.proofs.Common.{◌≡◌, ℕ, ◌<◌, ◌≤◌, ◌^◌, Bool, true, false, cond, List, [], ◌∷◌, length, Option, Some, None, Result, Ok, Err, refl, subst, arith, length-append}
use Rattle.std.specs.Prelude.{nat_lt, IfOk, codes}
use Rattle.std.proofs.lemmas.Bool.Decides.{nat_tests}
use Rattle.lb_base.specs.declared.value.Value.{Value}
use Rattle.boki_types.specs.declared.kind.Kind.{Kind}
use Rattle.boki_types.specs.declared.kind.Kind.TheVariants as kind
use Rattle.boki_types.specs.declared.plan.Setup.{Setup}
use Rattle.boki_types.specs.declared.program.Function.{Function}
use Rattle.boki_types.specs.declared.program.Stmt.{Stmt}
use Rattle.script_lang.specs.declared.blocks.Nesting.{Nesting}
use Rattle.script_lang.specs.declared.blocks.Nesting.TheVariants as p
use Rattle.script_lang.specs.declared.draft.Draft.{Draft}
use Rattle.script_lang.specs.declared.draft.Stage.{Stage}
use Rattle.script_lang.specs.declared.draft.Stage.TheVariants.{Between, Inside}
use Rattle.line_text.specs.declared.lines.LexedLine.{LexedLine}
use Rattle.line_text.specs.declared.lines.LexedLine.TheVariants as l
use Rattle.line_text.specs.declared.checked.Checked.{Checked}
use Rattle.line_text.specs.declared.checked.Checked.TheVariants as r
use Rattle.line_text.specs.declared.token.Token.{Token}
use Rattle.script_lang.specs.Functions.{draft_line, stage_line, draft_with_head, draft_with_stmt, draft_with_nested, nesting_of, new_function, is_in_function}
use Rattle.script_lang.specs.Statements.{function_head_of, stmt_of}
use Rattle.plan_lang.specs.declared.bodies.PlanBody.{PlanBody}
use Rattle.plan_lang.specs.declared.drafts.PlanDraft.{PlanDraft}
use Rattle.plan_lang.specs.declared.drafts.TurnDraft.{TurnDraft}
use Rattle.plan_lang.specs.declared.heads.Expected.{Expected}
use Rattle.plan_lang.specs.declared.heads.Expected.TheVariants as expected
use Rattle.plan_lang.specs.declared.heads.Head.{Head}
use Rattle.plan_lang.specs.declared.heads.HeadWord.{HeadWord}
use Rattle.plan_lang.specs.declared.heads.HeadWord.TheVariants as head_word
use Rattle.plan_lang.specs.declared.turns.TurnEntry.{TurnEntry}
use Rattle.plan_lang.specs.EventLines.{body_line}
use Rattle.plan_lang.specs.Heads.{with_setup, with_object, with_draft, head_with_end, object_line, object_of, setup_of, head_word_line, head_word_at, between_line, expected_line, head_line, has_ended}
use Rattle.line_text.specs.Texts.{ReadsLine, read_checked_line, line_within, read_text_line}
use Rattle.plan_lang.specs.Texts.{with_head, with_body, plan_part_line, plan_line}
use Rattle.plan_lang.specs.Turns.{with_turn, with_turn_head, turn_part_line, turn_draft_line, turn_of}

-- an open function is one of those allowed
abbrev pub IsFew : List Function → Stage → Type 0
IsFew fs Between = length fs ≤ 256
IsFew fs (Inside f m bs) = length fs < 256

abbrev pub HasFew : Draft → Type 0
HasFew d = IsFew d.functions d.stage

begun_by : (n : ℕ) (fs : List Function) (ms : List (List ℕ)) (head : List ℕ × List (List ℕ)) (t : Bool) → nat_lt (length fs) 256 ≡ t → IfOk {E = Kind} (cond t (Ok (new_function n fs ms head)) (Err kind.Range)) HasFew
begun_by n fs ms head true e = grind (arith, nat_tests, e)
begun_by n fs ms head false e = tt

begun_few : (n : ℕ) (fs : List Function) (ms : List (List ℕ)) (o : Option (Checked (List ℕ × List (List ℕ)))) → IfOk (draft_with_head n fs ms o) HasFew
begun_few n fs ms None = tt
begun_few n fs ms (Some r.OutOfRange) = tt
begun_few n fs ms (Some r.TooDeep) = tt
begun_few n fs ms (Some (r.Valid head)) = begun_by n fs ms head (nat_lt (length fs) 256) refl

placed_few : (n : ℕ) (fs : List Function) (ms : List (List ℕ)) (f : Function) (m : List ℕ) (l : Stmt) (place : Nesting) → length fs < 256 → IfOk (draft_with_nested n fs ms f m l place) HasFew
placed_few n fs ms f m l (p.Within bs) h = h
placed_few n fs ms f m l p.FunctionEnd h = omega (arith, length-append fs (f ∷ []))
placed_few n fs ms f m l p.Misplaced h = tt
placed_few n fs ms f m l p.TooDeep h = tt

lined_few : (n : ℕ) (fs : List Function) (ms : List (List ℕ)) (f : Function) (m : List ℕ) (bs : List Bool) (o : Option (Checked Stmt)) → length fs < 256 → IfOk (draft_with_stmt n fs ms f m bs o) HasFew
lined_few n fs ms f m bs None h = tt
lined_few n fs ms f m bs (Some r.OutOfRange) h = tt
lined_few n fs ms f m bs (Some r.TooDeep) h = tt
lined_few n fs ms f m bs (Some (r.Valid l)) h = placed_few n fs ms f m l (nesting_of bs l) h

stage_few : (n : ℕ) (ts : List Token) (fs : List Function) (ms : List (List ℕ)) (s : Stage) → IsFew fs s → IfOk (stage_line n ts fs ms s) HasFew
stage_few n ts fs ms Between h = begun_few n fs ms (function_head_of ts)
stage_few n ts fs ms (Inside f m bs) h = lined_few n fs ms f m bs (stmt_of ts) h

draft_few : (n : ℕ) (ts : List Token) (d : Draft) → HasFew d → IfOk (draft_line n ts d) HasFew
draft_few n ts d h = stage_few n ts d.functions d.line_numbers d.stage h

-- Heads.
abbrev pub HeadFew : Head → Type 0
HeadFew h = HasFew h.draft

setup_few : (h : Head) (o : Option (Checked Setup)) → HeadFew h → IfOk (with_setup h o) HeadFew
setup_few h None few = tt
setup_few h (Some r.OutOfRange) few = tt
setup_few h (Some r.TooDeep) few = tt
setup_few h (Some (r.Valid setup)) few = few

object_few : (n : ℕ) (h : Head) (o : Option (Checked (List ℕ × Value))) → HeadFew h → IfOk (with_object n h o) HeadFew
object_few n h None few = tt
object_few n h (Some r.OutOfRange) few = tt
object_few n h (Some r.TooDeep) few = tt
object_few n h (Some (r.Valid object)) few = few

drafted_few : (h : Head) (o : Result Draft Kind) → IfOk o HasFew → IfOk (with_draft h o) HeadFew
drafted_few h (Err k) few = tt
drafted_few h (Ok d) few = few

object_line_few : (n : ℕ) (ts : List Token) (h : Head) (d : Expected) → HeadFew h → IfOk (object_line n ts h d) HeadFew
object_line_few n ts h expected.Setup few = tt
object_line_few n ts h expected.Objects few = object_few n h (object_of ts) few
object_line_few n ts h expected.Functions few = tt
object_line_few n ts h expected.Rest few = tt

closed_few : (h : Head) (ts : List Token) → HeadFew h → IfOk (head_with_end h ts) HeadFew
closed_few h [] few = few
closed_few h (t ∷ ts) few = tt

led_few : (n : ℕ) (h : Head) (led : HeadWord × List Token) → HeadFew h → IfOk (head_word_line n h led) HeadFew
led_few n h (head_word.Function, ts) few = drafted_few h (draft_line n ts h.draft) (draft_few n ts h.draft few)
led_few n h (head_word.Object, ts) few = object_line_few n ts h h.expected few
led_few n h (head_word.Close, ts) few = closed_few h ts few
led_few n h (head_word.Other, ts) few = tt

between_few : (close : List ℕ) (n : ℕ) (ts : List Token) (h : Head) (t : Bool) → HeadFew h → IfOk (between_line close n ts h t) HeadFew
between_few close n ts h true few = drafted_few h (draft_line n ts h.draft) (draft_few n ts h.draft few)
between_few close n ts h false few = led_few n h (head_word_at close ts) few

due_few : (close : List ℕ) (n : ℕ) (ts : List Token) (h : Head) (d : Expected) → HeadFew h → IfOk (expected_line close n ts h d) HeadFew
due_few close n ts h expected.Setup few = setup_few h (setup_of ts) few
due_few close n ts h expected.Objects few = between_few close n ts h (is_in_function h.draft.stage) few
due_few close n ts h expected.Functions few = between_few close n ts h (is_in_function h.draft.stage) few
due_few close n ts h expected.Rest few = tt

-- Texts.
whole_keeps : {D : Type 0} (P : D → Type 0) (take : ReadsLine D) (n : ℕ) (line : Result LexedLine Kind) (d : D) → ((ts : List Token) → IfOk (take n ts d) P) → P d → IfOk (read_checked_line take n line d) P
whole_keeps P take n (Err k) d h q = tt
whole_keeps P take n (Ok l.Skipped) d h q = q
whole_keeps P take n (Ok (l.Tokens ts)) d h q = h ts
whole_keeps P take n (Ok l.Invalid) d h q = tt

abbrev pub PlanFew : PlanDraft → Type 0
PlanFew d = HeadFew d.head

headed_few : (d : PlanDraft) (o : Result Head Kind) → IfOk o HeadFew → IfOk (with_head d o) PlanFew
headed_few d (Err k) few = tt
headed_few d (Ok h) few = few

bodied_few : (d : PlanDraft) (o : Result PlanBody Kind) → PlanFew d → IfOk (with_body d o) PlanFew
bodied_few d (Err k) few = tt
bodied_few d (Ok b) few = few

plan_few : (n : ℕ) (ts : List Token) (d : PlanDraft) (t : Bool) → PlanFew d → IfOk (plan_part_line n ts d t) PlanFew
plan_few n ts d false few = headed_few d (head_line (codes "events") n ts d.head) (due_few (codes "events") n ts d.head d.head.expected few)
plan_few n ts d true few = bodied_few d (body_line d.head.setup d.head.draft.functions n ts d.body) few

pub plan_line_few : (most n : ℕ) (line : List ℕ) (d next : PlanDraft) → read_text_line plan_line most n line d ≡ Ok next → PlanFew d → PlanFew next
plan_line_few most n line d next e few =
    let P : Result PlanDraft Kind → Type 0 = λ o. IfOk o PlanFew in
    subst P e (whole_keeps PlanFew plan_line n (line_within most n line) d (λ ts. plan_few n ts d (has_ended d.head.expected) few) few)

abbrev pub TurnsFew : TurnDraft → Type 0
TurnsFew d = HeadFew d.head

turn_headed_few : (d : TurnDraft) (o : Result Head Kind) → IfOk o HeadFew → IfOk (with_turn_head d o) TurnsFew
turn_headed_few d (Err k) few = tt
turn_headed_few d (Ok h) few = few

turned_few : (n : ℕ) (d : TurnDraft) (o : Option (Checked TurnEntry)) → TurnsFew d → IfOk (with_turn n d o) TurnsFew
turned_few n d None few = tt
turned_few n d (Some r.OutOfRange) few = tt
turned_few n d (Some r.TooDeep) few = tt
turned_few n d (Some (r.Valid x)) few = few

turns_few : (n : ℕ) (ts : List Token) (d : TurnDraft) (t : Bool) → TurnsFew d → IfOk (turn_part_line n ts d t) TurnsFew
turns_few n ts d false few = turn_headed_few d (head_line (codes "turns") n ts d.head) (due_few (codes "turns") n ts d.head d.head.expected few)
turns_few n ts d true few = turned_few n d (turn_of d.head.draft.functions ts) few

pub turn_line_few : (most n : ℕ) (line : List ℕ) (d next : TurnDraft) → read_text_line turn_draft_line most n line d ≡ Ok next → TurnsFew d → TurnsFew next
turn_line_few most n line d next e few =
    let P : Result TurnDraft Kind → Type 0 = λ o. IfOk o TurnsFew in
    subst P e (whole_keeps TurnsFew turn_draft_line n (line_within most n line) d (λ ts. turns_few n ts d (has_ended d.head.expected) few) few)

pub few_bound : (fs : List Function) (s : Stage) → IsFew fs s → length fs < 2 ^ 32
few_bound fs Between h = omega arith
few_bound fs (Inside f m bs) h = omega arith
