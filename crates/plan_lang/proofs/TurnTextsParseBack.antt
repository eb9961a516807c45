-- The canonical text of turns is read again as these turns.
use Rattle.std.proofs.Common.{◌≡◌, ℕ, ◌+◌, ◌≤◌, true, List, [], ◌∷◌, length, map, None, Ok, refl, sym, ap, ◌∙◌, subst, arith}
use Rattle.std.specs.Prelude.{◌&&◌, codes, flat_map, nat_le}
use Rattle.std.specs.List.{list_all}
use Rattle.std.specs.Str.{IsUtf8}
use Rattle.std.proofs.lemmas.Str.{IsUtf8-append}
use Rattle.boki_types.specs.declared.plan.Plan.{Plan}
use Rattle.boki_types.specs.declared.program.Function.{Function}
use Rattle.boki_types.specs.declared.turn.Turn.{Turn}
use Rattle.boki_types.specs.declared.turn.TurnText.{TurnText}
use Rattle.boki_model.specs.Bodies.{is_identifier}
use Rattle.boki_model.specs.Plans.{function_names, distinct, is_function, is_program}
use Rattle.script_lang.specs.declared.draft.Draft.{Draft}
use Rattle.script_lang.specs.declared.draft.Stage.TheVariants.{Between}
use Rattle.script_lang.specs.Names.{name_fault, fault_or_else}
use Rattle.script_lang.proofs.ProgramsValid.{functions_pass}
use Rattle.script_lang.proofs.ProgramsParseBack.{functions_free}
use Rattle.plan_lang.specs.declared.heads.Expected.TheVariants as expected
use Rattle.plan_lang.specs.declared.heads.Head.{Head}
use Rattle.plan_lang.specs.Heads.{head_line, has_ended, empty_head, objects_fault}
use Rattle.plan_lang.specs.Printed.{head_text, turn_text, turn_line as printed_line}
use Rattle.plan_lang.specs.Texts.{head_fault, plan_of_parts}
use Rattle.line_text.specs.Texts.{line_count}
use Rattle.plan_lang.specs.Turns.{turn_without_call, turn_of, turn_draft_line, empty_turn_draft, turns_or_fault, turns_if_whole, turns_of_scan, turns_of}
use Rattle.plan_lang.specs.TurnTexts.{is_turn, turns_head_text, turns_text, with_line_numbers, with_canonical_lines}
use Rattle.plan_lang.proofs.CleanTurns.{is_clean_turn}
use Rattle.plan_lang.proofs.EventsParseBack.{identifiers}
use Rattle.line_text.proofs.FieldsInRange.{split_true}
use Rattle.plan_lang.proofs.PlansInLimits.{HeadInLimits, none_or, few_functions}
use Rattle.plan_lang.proofs.HeadsParseBack.{headed, turns_close, head_parses_back}
use Rattle.plan_lang.proofs.PlanLemmas.{turns_short}
use Rattle.plan_lang.proofs.PlansParseBack.{objects_free}
use Rattle.plan_lang.proofs.PrintedLines.{plain_inline, turn_inline}
use Rattle.plan_lang.proofs.PrintedUtf8.{line_utf8, head_utf8}
use Rattle.plan_lang.proofs.ScansInPieces.{plain_scan, piece_then, reads_back, scan_count, widened, within_limits}
use Rattle.plan_lang.proofs.TurnScans.{drafted, AllPrintable, scan_turns, turns_utf8, head_widens, turn_test, ReadHead, origin}
use Rattle.plan_lang.proofs.TurnsParseBack.{turn_parses_back}

-- The turns are printed well.
all_printable : (fs : List Function) (turns : List (ℕ × Turn)) → distinct (function_names fs) ≡ true → list_all is_identifier (function_names fs) ≡ true → list_all (turn_test fs) turns ≡ true → AllPrintable fs (map (λ p. p.1) turns)
all_printable fs [] d i h = tt
all_printable fs (p ∷ ps) d i h =
    let s = split_true (is_turn fs p.1 && is_clean_turn p.1) (list_all (turn_test fs) ps) h in
    let k = split_true (is_turn fs p.1) (is_clean_turn p.1) s.0 in
    (record { line = turn_inline fs p.1 i k.1; back = reads_back (turn_of fs) (turn_text fs p.1) (turn_without_call p.1) (turn_parses_back fs p.1 d i k.0) }, all_printable fs ps d i s.1)

pub turns_printable : (fs : List Function) (turns : List (ℕ × Turn)) → is_program (record { functions = fs }) ≡ true → list_all (turn_test fs) turns ≡ true → AllPrintable fs (map (λ p. p.1) turns)
turns_printable fs turns p h =
    let a = split_true (nat_le (length fs) 256 && distinct (function_names fs)) (list_all (is_function fs) fs) p in
    let b = split_true (nat_le (length fs) 256) (distinct (function_names fs)) a.0 in
    all_printable fs turns b.1 (identifiers fs fs a.1) h

-- What stands before the turns is read as a head that has ended, without a fault.
pub record FrontRead (plan : Plan) : Type 0 where
  pub line : ℕ
  pub head : Head
  pub read : plain_scan (head_line (codes "turns")) 1 (turns_head_text plan) empty_head ≡ Ok (line, head)
  pub ended : has_ended head.expected ≡ true
  pub free : head_fault head None ≡ None
  pub plan_is : plan_of_parts head [] ≡ plan
  pub utf8 : IsUtf8 (turns_head_text plan)

ended_text : (n : ℕ) (h : Head) (turns : List (ℕ × Turn)) → has_ended h.expected ≡ true → head_fault h None ≡ None → turns_of_scan (Ok (n, drafted h turns)) ≡ Ok (record { plan = plan_of_parts h []; turns = turns })
ended_text n h turns ended free =
    ap (turns_if_whole n (drafted h turns)) ended ∙ ap (turns_or_fault h turns) free

pub turns_parse_back : (t : TurnText) → FrontRead t.plan → AllPrintable t.plan.program.functions (map (λ p. p.1) t.turns) → length (turns_text t) ≤ 16777216 → line_count (turns_text t) ≤ 300000 → turns_of (turns_text t) ≡ Ok (with_canonical_lines t)
turns_parse_back t f p short few =
    let fs = t.plan.program.functions in
    let xs = map (λ (q : ℕ × Turn). q.1) t.turns in
    let front = turns_head_text t.plan in
    let rest = flat_map (printed_line fs) xs in
    let same : f.head.draft.functions ≡ fs = ap (λ (q : Plan). q.program.functions) f.plan_is in
    let line : f.line ≡ line_count front + 1 = omega (arith, scan_count (head_line (codes "turns")) 1 front empty_head (f.line, f.head) f.read) in
    let numbers = with_line_numbers f.line xs in
    let printable : AllPrintable f.head.draft.functions xs = let P : List Function → Type 0 = λ gs. AllPrintable gs xs in subst P (sym same) p in
    let plain : plain_scan turn_draft_line 1 (turns_text t) empty_turn_draft ≡ Ok (f.line + length xs, drafted f.head numbers) =
    piece_then turn_draft_line 1 f.line front rest empty_turn_draft (drafted f.head []) (widened (head_line (codes "turns")) turn_draft_line (λ h. drafted h []) head_widens 1 f.line front empty_head f.head f.read)
    ∙ ap (λ gs. plain_scan turn_draft_line f.line (flat_map (printed_line gs) xs) (drafted f.head [])) (sym same)
    ∙ scan_turns f.line f.head [] xs f.ended printable in
    let text : IsUtf8 (turns_text t) = IsUtf8-append front rest f.utf8 (turns_utf8 fs xs p) in
    let found = within_limits turn_draft_line 300000 1 (turns_text t) empty_turn_draft (f.line + length xs, drafted f.head numbers) text (omega arith) plain in
    turns_short (turns_text t) short
    ∙ ap turns_of_scan found
    ∙ ended_text (f.line + length xs) f.head numbers f.ended f.free
    ∙ ap (λ (q : Plan). Ok (record { plan = q; turns = numbers })) f.plan_is
    ∙ ap (λ (n : ℕ). Ok (record { plan = t.plan; turns = with_line_numbers n xs })) line

is_one : (h : Head) → HeadInLimits h → name_fault h.draft.functions h.draft.line_numbers ≡ None → is_program (record { functions = h.draft.functions }) ≡ true
is_one h g free = functions_pass h.draft.functions h.draft.line_numbers g.draft.functions (few_functions (length h.draft.functions) h.draft.stage g.draft.stage) free

-- A head without a fault is printed as a text that is read as it.
front_read : (h : Head) → ReadHead h → objects_fault [] h.objects h.lines 0 ≡ None → name_fault h.draft.functions h.draft.line_numbers ≡ None → FrontRead (plan_of_parts h [])
front_read h g apart free =
    let plan = plan_of_parts h [] in
    let fs = h.draft.functions in
    let few = few_functions (length fs) h.draft.stage g.good.draft.stage in
    let a = head_parses_back (codes "turns") 1 plan turns_close g.good.setup g.good.objects g.good.draft.functions few in
    let d : Draft = record { functions = fs; line_numbers = a.line_numbers; stage = Between } in
    let turns : IsUtf8 (codes "turns\n") = line_utf8 (codes "turns") (plain_inline (codes "turns") refl) in
    record {
      line = a.line;
      head = headed h.setup h.objects a.lines expected.Rest d;
      read = a.same;
      ended = refl;
      free =
          ap (λ z. fault_or_else z (fault_or_else (name_fault fs a.line_numbers) None)) (objects_free [] h.objects h.lines a.lines 0 0 apart)
          ∙ ap (λ z. fault_or_else z None) (functions_free fs fs h.draft.line_numbers a.line_numbers 0 free);
      plan_is = refl;
      utf8 = IsUtf8-append (head_text plan) (codes "turns\n") (head_utf8 plan g.clean.objects g.good.draft.functions g.clean.draft.functions) turns;
    }

pub printed_turns : (text : List ℕ) (t : TurnText) → turns_of text ≡ Ok t → length (turns_text t) ≤ 16777216 → line_count (turns_text t) ≤ 300000 → turns_of (turns_text t) ≡ Ok (with_canonical_lines t)
printed_turns text t e short few =
    let o = origin text t e in
    let h = o.head in
    let a = none_or (objects_fault [] h.objects h.lines 0) (fault_or_else (name_fault h.draft.functions h.draft.line_numbers) None) o.free in
    let b = none_or (name_fault h.draft.functions h.draft.line_numbers) None a.1 in
    let front = subst FrontRead o.plan (front_read h o.read a.0 b.0) in
    let same : h.draft.functions ≡ t.plan.program.functions = ap (λ (q : Plan). q.program.functions) o.plan in
    let printable = turns_printable h.draft.functions t.turns (is_one h o.read.good b.0) o.turns in
    let P : List Function → Type 0 = λ fs. AllPrintable fs (map (λ p. p.1) t.turns) in
    turns_parse_back t front (subst P same printable) short few
