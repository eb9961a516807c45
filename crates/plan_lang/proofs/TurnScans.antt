-- A text of turns, line by line: what is known of the turns that it spells, and that printed turns are read again.
use Rattle.std.proofs.Common.{◌≡◌, ℕ, ◌+◌, Bool, true, false, cond, List, [], ◌∷◌, ◌++◌, length, Option, Some, None, Result, Ok, Err, refl, sym, ap, ◌∙◌, subst, append_assoc, arith}
use Rattle.std.specs.Prelude.{◌&&◌, IfOk, codes, flat_map, nat_lt}
use Rattle.std.specs.List.{list_all}
use Rattle.std.specs.Str.{IsUtf8}
use Rattle.std.proofs.lemmas.List.{append-nil}
use Rattle.std.proofs.lemmas.Str.{IsUtf8-nil, IsUtf8-append}
use Rattle.boki_types.specs.declared.kind.Kind.{Kind}
use Rattle.boki_types.specs.declared.kind.Kind.TheVariants as kind
use Rattle.boki_types.specs.declared.program.Function.{Function}
use Rattle.boki_types.specs.declared.turn.Turn.{Turn}
use Rattle.boki_types.specs.declared.turn.Turn.TheVariants as u
use Rattle.boki_types.specs.declared.turn.TurnText.{TurnText}
use Rattle.line_text.specs.declared.checked.Checked.{Checked}
use Rattle.line_text.specs.declared.checked.Checked.TheVariants as r
use Rattle.line_text.specs.declared.token.Token.{Token}
use Rattle.line_text.specs.Lines.{lexed_line, line_of_tokens}
use Rattle.line_text.specs.Tokens.{tokens_in}
use Rattle.script_lang.specs.Names.{name_fault, fault_or_else}
use Rattle.line_text.proofs.LexedNames.{NamesValid}
use Rattle.plan_lang.specs.declared.drafts.TurnDraft.{TurnDraft}
use Rattle.line_text.specs.declared.fault.TextFault.{TextFault}
use Rattle.plan_lang.specs.declared.heads.Head.{Head}
use Rattle.plan_lang.specs.declared.turns.TurnEntry.{TurnEntry}
use Rattle.line_text.specs.Faults.{first_fault, refused_at}
use Rattle.plan_lang.specs.Heads.{head_line, has_ended, objects_fault}
use Rattle.plan_lang.specs.Printed.{turn_text, turn_line as printed_line}
use Rattle.line_text.specs.Texts.{scan_lines}
use Rattle.plan_lang.specs.Texts.{head_fault, plan_of_parts}
use Rattle.plan_lang.specs.Turns.{turn_without_call, turn_of, with_turn, with_turn_head, turn_part_line, turn_draft_line, empty_turn_draft, turns_or_fault, turns_if_whole, turns_of_scan, turns_of_lines, turns_of}
use Rattle.plan_lang.specs.TurnTexts.{is_turn, with_line_numbers}
use Rattle.plan_lang.proofs.CleanHeads.{CleanHead, head_clean, no_head_clean}
use Rattle.plan_lang.proofs.CleanTurns.{is_clean_turn, turn_clean}
use Rattle.line_text.proofs.FieldsInRange.{IfLineValid, both_true}
use Rattle.plan_lang.proofs.PlansInLimits.{HeadInLimits, all_more, expected_line_in_limits, empty_head_in_limits, none_first, none_or}
use Rattle.plan_lang.proofs.HeadsParseBack.{not_ended}
use Rattle.line_text.proofs.LineInvariants.{Keeps, kept}
use Rattle.plan_lang.proofs.PrintedLines.{Inline}
use Rattle.plan_lang.proofs.PrintedUtf8.{line_utf8}
use Rattle.plan_lang.proofs.ScansInPieces.{plain_scan, piece_then, tokens_read, ReadsBack, Widens}
use Rattle.plan_lang.proofs.TurnsParseBack.{sound_turn, sound_is_turn, turn_in_range}
use Rattle.line_text.proofs.Utf8Tokens.{are_clean}

-- Turns, one behind another.
abbrev pub drafted : Head → List (ℕ × Turn) → TurnDraft
drafted h turns = record { head = h; turns = turns; fault = None }

pub record Printable (fs : List Function) (x : Turn) : Type 0 where
  pub line : Inline (turn_text fs x)
  pub back : ReadsBack (turn_of fs) (turn_text fs x) (turn_without_call x)

abbrev pub AllPrintable : List Function → List Turn → Type 0
AllPrintable fs [] = Unit {0}
AllPrintable fs (x ∷ xs) = Printable fs x × AllPrintable fs xs

turn_begins : (fs : List Function) (x : Turn) → lexed_line (turn_text fs x) ≡ line_of_tokens (tokens_in (turn_text fs x))
turn_begins fs (u.Submit q f args) = refl
turn_begins fs (u.Go path n) = refl
turn_begins fs (u.End path) = refl

turn_taken : (n : ℕ) (h : Head) (turns : List (ℕ × Turn)) (x : Turn) → has_ended h.expected ≡ true → (p : Printable h.draft.functions x) → turn_draft_line n p.back.tokens (drafted h turns) ≡ Ok (drafted h (turns ++ (n, x) ∷ []))
turn_taken n h turns x ended p =
    ap (turn_part_line n p.back.tokens (drafted h turns)) ended ∙ ap (with_turn n (drafted h turns)) p.back.back

turn_read : (n : ℕ) (h : Head) (turns : List (ℕ × Turn)) (x : Turn) → has_ended h.expected ≡ true → Printable h.draft.functions x → plain_scan turn_draft_line n (printed_line h.draft.functions x) (drafted h turns) ≡ Ok (n + 1, drafted h (turns ++ (n, x) ∷ []))
turn_read n h turns x ended p =
    let fs = h.draft.functions in
    tokens_read turn_draft_line n (turn_text fs x) p.back.tokens (drafted h turns) (drafted h (turns ++ (n, x) ∷ [])) p.line.feed (turn_begins fs x ∙ ap line_of_tokens p.back.cut) (turn_taken n h turns x ended p)

pub scan_turns : (n : ℕ) (h : Head) (turns : List (ℕ × Turn)) (xs : List Turn) → has_ended h.expected ≡ true → AllPrintable h.draft.functions xs → plain_scan turn_draft_line n (flat_map (printed_line h.draft.functions) xs) (drafted h turns) ≡ Ok (n + length xs, drafted h (turns ++ with_line_numbers n xs))
scan_turns n h turns [] ended p =
    ap (λ (ts : List (ℕ × Turn)). Ok (n, drafted h ts)) (sym (append-nil turns)) ∙ ap (λ (k : ℕ). Ok (k, drafted h (turns ++ []))) (omega arith)
scan_turns n h turns (x ∷ xs) ended p =
    let fs = h.draft.functions in
    piece_then turn_draft_line n (n + 1) (printed_line fs x) (flat_map (printed_line fs) xs) (drafted h turns) (drafted h (turns ++ (n, x) ∷ [])) (turn_read n h turns x ended p.0)
    ∙ scan_turns (n + 1) h (turns ++ (n, x) ∷ []) xs ended p.1
    ∙ ap (λ (ts : List (ℕ × Turn)). Ok ((n + 1) + length xs, drafted h ts)) (append_assoc turns ((n, x) ∷ []) (with_line_numbers (n + 1) xs))
    ∙ ap (λ (k : ℕ). Ok (k, drafted h (turns ++ with_line_numbers n (x ∷ xs)))) (omega arith)

pub turns_utf8 : (fs : List Function) (xs : List Turn) → AllPrintable fs xs → IsUtf8 (flat_map (printed_line fs) xs)
turns_utf8 fs [] p = IsUtf8-nil
turns_utf8 fs (x ∷ xs) p = IsUtf8-append (printed_line fs x) (flat_map (printed_line fs) xs) (line_utf8 (turn_text fs x) p.0.line) (turns_utf8 fs xs p.1)

-- The head's lines are read by a text of turns as they are read alone.
pub head_widens : Widens (head_line (codes "turns")) turn_draft_line (λ h. drafted h [])
head_widens n ts h next e =
    ap (turn_part_line n ts (drafted h [])) (not_ended (codes "turns") n ts h next h.expected e) ∙ ap (with_turn_head (drafted h [])) e

-- What is known of the turns that a text spells, and of its head, behind each line.
abbrev pub turn_test : List Function → ℕ × Turn → Bool
turn_test fs p = is_turn fs p.1 && is_clean_turn p.1

pub record ReadHead (h : Head) : Type 0 where
  pub good : HeadInLimits h
  pub clean : CleanHead h

abbrev TurnsAt : Bool → List Function → Option (ℕ × Kind) → List (ℕ × Turn) → Type 0
TurnsAt true fs fault turns = fault ≡ None → list_all (turn_test fs) turns ≡ true
TurnsAt false fs fault turns = turns ≡ []

record GoodTurns (d : TurnDraft) : Type 0 where
  head : ReadHead d.head
  turns : TurnsAt (has_ended d.head.expected) d.head.draft.functions d.fault d.turns

abbrev Ends : Result TurnDraft Kind → Type 0
Ends o = IfOk o GoodTurns

none_at : (c : Bool) (fs : List Function) (fault : Option (ℕ × Kind)) (turns : List (ℕ × Turn)) → turns ≡ [] → TurnsAt c fs fault turns
none_at true fs fault turns e = λ none. ap (list_all (turn_test fs)) e
none_at false fs fault turns e = e

headed : (d : TurnDraft) (o : Result Head Kind) → d.turns ≡ [] → IfOk o HeadInLimits → IfOk o CleanHead → Ends (with_turn_head d o)
headed d (Err k) e g c = tt
headed d (Ok h) e g c = record { head = record { good = g; clean = c }; turns = none_at (has_ended h.expected) h.draft.functions d.fault d.turns e }

fine_both : (fs : List Function) (x : TurnEntry) → x.fault ≡ None → sound_turn fs x ≡ true → is_clean_turn x.turn ≡ true → (is_turn fs x.turn && is_clean_turn x.turn) ≡ true
fine_both fs x none s c = both_true (is_turn fs x.turn) (is_clean_turn x.turn) (sound_is_turn fs x none s) c

turned : (n : ℕ) (d : TurnDraft) (o : Option (Checked TurnEntry)) → ReadHead d.head → has_ended d.head.expected ≡ true → (d.fault ≡ None → list_all (turn_test d.head.draft.functions) d.turns ≡ true) → IfLineValid (sound_turn d.head.draft.functions) o → IfLineValid (λ x. is_clean_turn x.turn) o → Ends (with_turn n d o)
turned n d None p e g s c = tt
turned n d (Some r.OutOfRange) p e g s c = tt
turned n d (Some r.TooDeep) p e g s c = tt
turned n d (Some (r.Valid x)) p e g s c =
    let fs = d.head.draft.functions in
    let turns = d.turns ++ (n, x.turn) ∷ [] in
    let fault = first_fault d.fault n x.fault in
    let good : fault ≡ None → list_all (turn_test fs) turns ≡ true = λ none.
    let q = none_first d.fault n x.fault none in
    all_more (turn_test fs) d.turns (n, x.turn) (g q.0) (fine_both fs x q.1 s c) in
    let Q : Bool → Type 0 = λ b. TurnsAt b fs fault turns in
    record { head = p; turns = subst Q (sym e) good }

step : (n : ℕ) (ts : List Token) (d : TurnDraft) (b : Bool) → NamesValid ts → are_clean ts ≡ true → ReadHead d.head → has_ended d.head.expected ≡ b → TurnsAt b d.head.draft.functions d.fault d.turns → Ends (turn_part_line n ts d b)
step n ts d false t c p f g =
    headed d (head_line (codes "turns") n ts d.head) g (expected_line_in_limits (codes "turns") n ts d.head d.head.expected t p.good) (head_clean (codes "turns") n ts d.head c p.clean)
step n ts d true t c p f g = turned n d (turn_of d.head.draft.functions ts) p f g (turn_in_range d.head.draft.functions ts) (turn_clean d.head.draft.functions ts c)

turns_keep : Keeps GoodTurns turn_draft_line
turns_keep n ts d t c g = step n ts d (has_ended d.head.expected) t c g.head refl g.turns

-- What is known of turns that a text spells.
pub record Origin (t : TurnText) : Type 0 where
  pub head : Head
  pub read : ReadHead head
  pub free : head_fault head None ≡ None
  pub plan : plan_of_parts head [] ≡ t.plan
  pub turns : list_all (turn_test head.draft.functions) t.turns ≡ true

abbrev Known : Result TurnText TextFault → Type 0
Known o = IfOk o Origin

named : (h : Head) (turns : List (ℕ × Turn)) (fault found : Option (ℕ × Kind)) → head_fault h fault ≡ found → ReadHead h → (fault ≡ None → list_all (turn_test h.draft.functions) turns ≡ true) → Known (turns_or_fault h turns found)
named h turns fault (Some f) e p g = tt
named h turns fault None e p g =
    let a = none_or (objects_fault [] h.objects h.lines 0) (fault_or_else (name_fault h.draft.functions h.draft.line_numbers) fault) e in
    let b = none_or (name_fault h.draft.functions h.draft.line_numbers) fault a.1 in
    record { head = h; read = p; free = ap (head_fault h) (sym b.1) ∙ e; plan = refl; turns = g b.1 }

stopped : (n : ℕ) (d : TurnDraft) (c : Bool) → ReadHead d.head → TurnsAt c d.head.draft.functions d.fault d.turns → Known (turns_if_whole n d c)
stopped n d false p g = tt
stopped n d true p g = named d.head d.turns d.fault (head_fault d.head d.fault) refl p g

finished : (o : Result (ℕ × TurnDraft) TextFault) → IfOk o (λ p. GoodTurns p.1) → Known (turns_of_scan o)
finished (Err f) h = tt
finished (Ok p) h = stopped p.0 p.1 (has_ended p.1.head.expected) h.head h.turns

in_limits : (text : List ℕ) (c : Bool) → Known (turns_of_lines text) → Known (cond c (Err (refused_at 0 kind.Length)) (turns_of_lines text))
in_limits text true h = tt
in_limits text false h = h

pub origin : (text : List ℕ) (t : TurnText) → turns_of text ≡ Ok t → Origin t
origin text t e =
    let Q : Result TurnText TextFault → Type 0 = λ o. Known o in
    let start : GoodTurns empty_turn_draft = record { head = record { good = empty_head_in_limits; clean = no_head_clean }; turns = refl } in
    subst Q e (in_limits text (nat_lt 16777216 (length text)) (finished (scan_lines turn_draft_line 300000 1 text empty_turn_draft) (kept GoodTurns turn_draft_line turns_keep 300000 1 text empty_turn_draft start)))
