-- The printed text of a plan is read again, line by line.
use Rattle.std.proofs.Common.{◌≡◌, ℕ, ◌+◌, ◌*◌, ◌<◌, ◌≤◌, ◌^◌, Bool, true, false, cond, List, [], ◌∷◌, ◌++◌, length, map, get_or, Option, Some, None, Result, Ok, Err, refl, sym, ap, ◌∙◌, subst, append_assoc, arith}
use Rattle.std.specs.Prelude.{◌&&◌, IfOk, bytes_eq, codes, nat_le, nat_lt, flat_map}
use Rattle.std.specs.List.{list_all}
use Rattle.std.specs.Fmt.{decimal}
use Rattle.std.proofs.lemmas.Bool.Decides.{nat_tests}
use Rattle.std.proofs.lemmas.List.{append-nil}
use Rattle.std.proofs.lemmas.Slice.Eq.{bytes_eq-Decides}
use Rattle.lb_base.specs.declared.value.Value.{Value}
use Rattle.boki_types.specs.declared.event.Event.{Event}
use Rattle.boki_types.specs.declared.event.Event.TheVariants as v
use Rattle.boki_types.specs.declared.kind.Kind.{Kind}
use Rattle.boki_types.specs.declared.kind.Kind.TheVariants as kind
use Rattle.boki_types.specs.declared.plan.Item.{Item}
use Rattle.boki_types.specs.declared.plan.Item.TheVariants.{One, Repeat}
use Rattle.boki_types.specs.declared.plan.Plan.{Plan}
use Rattle.boki_types.specs.declared.plan.Setup.{Setup}
use Rattle.boki_types.specs.declared.program.Function.{Function}
use Rattle.boki_model.specs.Bodies.{is_identifier}
use Rattle.boki_model.specs.Plans.{in_bounds, is_setup, are_objects, is_program, is_event, is_function, is_item, function_names, distinct, event_count, total_events, is_plan}
use Rattle.line_text.specs.declared.lines.LexedLine.TheVariants as l
use Rattle.line_text.specs.declared.checked.Checked.{Checked}
use Rattle.line_text.specs.declared.checked.Checked.TheVariants as r
use Rattle.line_text.specs.declared.token.Keyword.TheVariants as k
use Rattle.line_text.specs.declared.token.Token.{Token}
use Rattle.line_text.specs.declared.token.Token.TheVariants as t
use Rattle.script_lang.specs.declared.draft.Stage.TheVariants.{Between}
use Rattle.script_lang.specs.Names.{is_among, name_fault, fault_or_else}
use Rattle.line_text.specs.Lines.{lexed_line, line_of_tokens}
use Rattle.line_text.specs.Checks.{checked_if}
use Rattle.line_text.specs.Tokens.{word_token, keyword_of, tokens_in}
use Rattle.script_lang.proofs.DraftsInLimits.{FunctionInLimits}
use Rattle.script_lang.proofs.StmtsInLimits.{AllOf}
use Rattle.script_lang.proofs.ProgramsParseBack.{functions_free}
use Rattle.script_lang.proofs.ExprTextLexes.{word_lexed}
use Rattle.script_lang.proofs.StmtTextLexes.{no_feed}
use Rattle.plan_lang.specs.declared.bodies.RepeatBlock.{RepeatBlock}
use Rattle.plan_lang.specs.declared.bodies.PlanBody.{PlanBody}
use Rattle.plan_lang.specs.declared.drafts.PlanDraft.{PlanDraft}
use Rattle.plan_lang.specs.declared.events.Entry.{Entry}
use Rattle.line_text.specs.declared.fault.TextFault.{TextFault}
use Rattle.plan_lang.specs.declared.heads.Expected.TheVariants as expected
use Rattle.plan_lang.specs.declared.heads.Head.{Head}
use Rattle.plan_lang.specs.EventLines.{times_of, body_with_repeat, body_with_counted, body_outside_repeat as body, within_event_limit, body_with_event, body_with_found, body_line, empty_body}
use Rattle.plan_lang.specs.Events.{verb_of, entry_without_call, entry_of_word, entry_of}
use Rattle.plan_lang.specs.Heads.{head_line, empty_head, has_ended, objects_fault}
use Rattle.plan_lang.specs.Printed.{event_text, repeat_line, item_text, head_text, plan_text}
use Rattle.line_text.specs.Texts.{scan_lines, line_count}
use Rattle.line_text.specs.Faults.{refused_at}
use Rattle.plan_lang.specs.Texts.{with_head, with_body, plan_part_line, plan_line, empty_plan_draft, head_fault, plan_of_parts, plan_or_fault, plan_if_whole, plan_of_scan, plan_of_lines, plan_of}
use Rattle.plan_lang.proofs.CleanEvents.{is_clean_event}
use Rattle.plan_lang.proofs.CleanHeads.{CleanHead, is_clean_function, is_clean_object}
use Rattle.plan_lang.proofs.CleanPlans.{is_clean_item, CleanPlan, plan_keeps_clean, no_plan_clean}
use Rattle.plan_lang.proofs.EventsParseBack.{printed_event, identifiers}
use Rattle.line_text.proofs.FieldsInRange.{split_true}
use Rattle.plan_lang.proofs.PlansInLimits.{object_test, HeadInLimits, FoundInLimits, scan_in_limits, none_or, few_functions, parsed_plan_is_plan}
use Rattle.plan_lang.proofs.HeadsParseBack.{headed, events_close, head_parses_back, not_ended}
use Rattle.line_text.proofs.LineInvariants.{kept}
use Rattle.plan_lang.proofs.PlanLemmas.{plan_short}
use Rattle.plan_lang.proofs.PrintedLines.{plain_decimal, plain_inline, event_inline}
use Rattle.plan_lang.proofs.PrintedUtf8.{plan_utf8}
use Rattle.plan_lang.proofs.ScansInPieces.{plain_scan, piece_then, tokens_read, ReadsBack, reads_back, Widens, widened, within_limits}
use Rattle.plan_lang.proofs.FieldTextLexes.{whole, number_piece, behind_word}

-- The line of an event.
begins : (fs : List Function) (x : Event) → lexed_line (event_text fs x) ≡ line_of_tokens (tokens_in (event_text fs x))
begins fs (v.Submit n q f args) = refl
begins fs (v.Copy shard replica n) = refl
begins fs v.Cut = refl
begins fs (v.Catch n) = refl
begins fs v.Sync = refl
begins fs (v.Restart n) = refl
begins fs (v.Start attempt path n) = refl
begins fs (v.Step n) = refl
begins fs (v.Kill n) = refl
begins fs (v.Lose n) = refl
begins fs (v.Miss n) = refl
begins fs (v.Switch n target) = refl
begins fs (v.EndSwitch n) = refl
begins fs (v.Trim n) = refl
begins fs (v.Sweep n) = refl
begins fs (v.Append n tags text) = refl
begins fs (v.Cond n o tags text) = refl
begins fs (v.Next n tag o) = refl
begins fs (v.Prev n tag o) = refl
begins fs (v.Tail n tag) = refl
begins fs (v.TrimTag n tag o) = refl
begins fs (v.Settled n shard local) = refl
begins fs (v.SetAux n o text) = refl
begins fs (v.GetAux n o) = refl
begins fs (v.Seed n) = refl

-- no event begins with `repeat`
no_repeat : (setup : Setup) (fs : List Function) (us : List Token) → entry_of_word setup fs (codes "repeat") us ≡ None
unfolding verb_of
no_repeat setup fs us = refl

not_repeat : (setup : Setup) (fs : List Function) (w : List ℕ) (us : List Token) (x : Checked Entry) (b : Bool) → bytes_eq w (codes "repeat") ≡ b → entry_of_word setup fs w us ≡ Some x → b ≡ false
not_repeat setup fs w us x true e h =
    let same : w ≡ codes "repeat" = (bytes_eq-Decides w (codes "repeat")).0 e in
    let n : entry_of_word setup fs w us ≡ None = ap (λ z. entry_of_word setup fs z us) same ∙ no_repeat setup fs us in
    absurd (cc)
not_repeat setup fs w us x false e h = refl

heard_entry : (setup : Setup) (fs : List Function) (n : ℕ) (ts : List Token) (x : Entry) (b : PlanBody) → entry_of setup fs ts ≡ Some (r.Valid x) → body_line setup fs n ts b ≡ body_with_found n b (Some (r.Valid x))
heard_entry setup fs n (t.Name w ∷ us) x b h =
    ap (λ c. cond c (body_with_repeat b (times_of us)) (body_with_found n b (entry_of_word setup fs w us))) (not_repeat setup fs w us (r.Valid x) (bytes_eq w (codes "repeat")) refl h)
    ∙ ap (body_with_found n b) h
heard_entry setup fs n [] x b h = absurd (cc)
heard_entry setup fs n (t.Numeral y ∷ us) x b h = absurd (cc)
heard_entry setup fs n (t.Dotted y ∷ us) x b h = absurd (cc)
heard_entry setup fs n (t.Text y ∷ us) x b h = absurd (cc)
heard_entry setup fs n (t.Keyword y ∷ us) x b h = absurd (cc)
heard_entry setup fs n (t.Op y ∷ us) x b h = absurd (cc)
heard_entry setup fs n (t.Minus y ∷ us) x b h = absurd (cc)
heard_entry setup fs n (t.Punctuation y ∷ us) x b h = absurd (cc)

-- what is needed of a setup and functions
record Heads (setup : Setup) (fs : List Function) : Type 0 where
  setup_is : is_setup setup ≡ true
  program : is_program (record { functions = fs }) ≡ true
  names_are : list_all is_identifier (function_names fs) ≡ true

event_read : (setup : Setup) (fs : List Function) (x : Event) → Heads setup fs → is_event setup fs x ≡ true → ReadsBack (entry_of setup fs) (event_text fs x) (entry_without_call x)
event_read setup fs x s h = reads_back (entry_of setup fs) (event_text fs x) (entry_without_call x) (printed_event setup fs x s.setup_is s.program h)

small_count : (n : ℕ) → n ≤ 200000 → within_event_limit n ≡ Some n
small_count n h = let e : nat_le n 200000 ≡ true = grind (arith, nat_tests, h) in ap (λ b. cond b (Some n) None) e

-- an event by itself
one_read : (setup : Setup) (fs : List Function) (n : ℕ) (items : List Item) (count : ℕ) (x : Event) → Heads setup fs → is_event setup fs x ≡ true → is_clean_event x ≡ true → count + 1 ≤ 200000 → plain_scan (body_line setup fs) n (item_text fs (One x)) (body items count None) ≡ Ok (n + 1, body (items ++ One x ∷ []) (count + 1) None)
one_read setup fs n items count x s h c few =
    let a = event_read setup fs x s h in
    tokens_read (body_line setup fs) n (event_text fs x) a.tokens (body items count None) (body (items ++ One x ∷ []) (count + 1) None) ((event_inline fs x s.names_are c).feed) (begins fs x ∙ ap line_of_tokens a.cut)
    (heard_entry setup fs n a.tokens (entry_without_call x) (body items count None) a.back ∙ ap (body_with_event n (body items count None) (entry_without_call x)) (small_count (count + 1) few))

-- the events of a repeat
repeating : List Item → ℕ → ℕ → List Event → PlanBody
repeating items count times xs = record { items = items; count = count; block = Some (record { times = times; events = xs }); fault = None }

inner_read : (setup : Setup) (fs : List Function) (n : ℕ) (items : List Item) (count times : ℕ) (before : List Event) (x : Event) → Heads setup fs → is_event setup fs x ≡ true → is_clean_event x ≡ true → plain_scan (body_line setup fs) n (repeat_line fs x) (repeating items count times before) ≡ Ok (n + 1, repeating items count times (before ++ x ∷ []))
unfolding repeating
inner_read setup fs n items count times before x s h c =
    let a = event_read setup fs x s h in
    tokens_read (body_line setup fs) n (codes "  " ++ event_text fs x) a.tokens (repeating items count times before) (repeating items count times (before ++ x ∷ [])) ((event_inline fs x s.names_are c).feed) (begins fs x ∙ ap line_of_tokens a.cut)
    (heard_entry setup fs n a.tokens (entry_without_call x) (repeating items count times before) a.back)

record InnersRead (setup : Setup) (fs : List Function) (n : ℕ) (items : List Item) (count times : ℕ) (before xs : List Event) : Type 0 where
  line : ℕ
  same : plain_scan (body_line setup fs) n (flat_map (repeat_line fs) xs) (repeating items count times before) ≡ Ok (line, repeating items count times (before ++ xs))

inners_read : (setup : Setup) (fs : List Function) (n : ℕ) (items : List Item) (count times : ℕ) (before xs : List Event) → Heads setup fs → list_all (is_event setup fs) xs ≡ true → list_all is_clean_event xs ≡ true → InnersRead setup fs n items count times before xs
inners_read setup fs n items count times before [] s h c = record {
  line = n;
  same = ap (λ (es : List Event). Ok (n, repeating items count times es)) (sym (append-nil before));
}
inners_read setup fs n items count times before (x ∷ xs) s h c =
    let k = split_true (is_clean_event x) (list_all is_clean_event xs) c in
    let q = split_true (is_event setup fs x) (list_all (is_event setup fs) xs) h in
    let b = inners_read setup fs (n + 1) items count times (before ++ x ∷ []) xs s q.1 k.1 in
    record {
      line = b.line;
      same =
          piece_then (body_line setup fs) n (n + 1) (repeat_line fs x) (flat_map (repeat_line fs) xs) (repeating items count times before) (repeating items count times (before ++ x ∷ [])) (inner_read setup fs n items count times before x s q.0 k.0)
          ∙ b.same
          ∙ ap (λ (es : List Event). Ok (b.line, repeating items count times es)) (append_assoc before (x ∷ []) xs);
    }

-- its first line
low_times : (n : ℕ) → in_bounds 1 200000 n ≡ true → n < 2 ^ 64
low_times n h = let u : n ≤ 200000 = grind (arith, nat_tests, h) in omega arith

repeat_cut : (times : ℕ) → in_bounds 1 200000 times ≡ true → lexed_line (codes "repeat" ++ (32 ∷ decimal times)) ≡ l.Tokens (t.Name (codes "repeat") ∷ t.Numeral (Some times) ∷ [])
unfolding word_token keyword_of
repeat_cut times h =
    ap line_of_tokens (whole (codes "repeat" ++ (32 ∷ decimal times)) _ (behind_word (codes "repeat") (decimal times) (t.Numeral (Some times) ∷ []) refl refl (number_piece times (low_times times h))))

repeat_feed : (times : ℕ) → no_feed (codes "repeat" ++ (32 ∷ decimal times)) ≡ true
repeat_feed times = (plain_inline (decimal times) (plain_decimal times)).feed

repeat_opens : (setup : Setup) (fs : List Function) (n : ℕ) (items : List Item) (count times : ℕ) → in_bounds 1 200000 times ≡ true → plain_scan (body_line setup fs) n ((codes "repeat" ++ (32 ∷ decimal times)) ++ 10 ∷ []) (body items count None) ≡ Ok (n + 1, repeating items count times [])
unfolding repeating
repeat_opens setup fs n items count times h =
    tokens_read (body_line setup fs) n (codes "repeat" ++ (32 ∷ decimal times)) _ (body items count None) (repeating items count times []) (repeat_feed times) (repeat_cut times h)
    (ap (λ b. body_with_repeat (body items count None) (Some (checked_if b times))) h)

-- its last line
end_cut : lexed_line (codes "end") ≡ l.Tokens (t.Keyword k.End ∷ [])
unfolding word_token keyword_of
end_cut = ap line_of_tokens (whole (codes "end") (t.Keyword k.End ∷ []) (record { cut = λ rest ts s d. word_lexed (codes "end") (t.Keyword k.End) rest ts refl refl s d }))

repeat_closes : (setup : Setup) (fs : List Function) (n : ℕ) (items : List Item) (count times : ℕ) (x : Event) (xs : List Event) → count + times * length (x ∷ xs) ≤ 200000 → plain_scan (body_line setup fs) n (codes "end\n") (repeating items count times (x ∷ xs)) ≡ Ok (n + 1, body (items ++ Repeat times (x ∷ xs) ∷ []) (count + times * length (x ∷ xs)) None)
unfolding repeating
repeat_closes setup fs n items count times x xs few =
    let begun = repeating items count times (x ∷ xs) in
    tokens_read (body_line setup fs) n (codes "end") (t.Keyword k.End ∷ []) begun (body (items ++ Repeat times (x ∷ xs) ∷ []) (count + times * length (x ∷ xs)) None) refl end_cut
    (ap (body_with_counted begun (record { times = times; events = x ∷ xs })) (small_count (count + times * length (x ∷ xs)) few))

-- An item.
record ItemRead (setup : Setup) (fs : List Function) (n : ℕ) (items : List Item) (count : ℕ) (i : Item) : Type 0 where
  line : ℕ
  same : plain_scan (body_line setup fs) n (item_text fs i) (body items count None) ≡ Ok (line, body (items ++ i ∷ []) (count + event_count i) None)

repeat_apart : (fs : List Function) (times : ℕ) (xs : List Event) → item_text fs (Repeat times xs) ≡ ((codes "repeat" ++ (32 ∷ decimal times)) ++ 10 ∷ []) ++ (flat_map (repeat_line fs) xs ++ codes "end\n")
repeat_apart fs times xs = simp append_assoc

repeat_read : (setup : Setup) (fs : List Function) (n : ℕ) (items : List Item) (count times : ℕ) (xs : List Event) → Heads setup fs → is_item setup fs (Repeat times xs) ≡ true → list_all is_clean_event xs ≡ true → count + times * length xs ≤ 200000 → ItemRead setup fs n items count (Repeat times xs)
repeat_read setup fs n items count times [] s h c few =
    let q = split_true (in_bounds 1 200000 times && nat_le 1 (length {A = Event} [])) true h in
    let u = split_true (in_bounds 1 200000 times) (nat_le 1 (length {A = Event} [])) q.0 in
    let e = u.1 in absurd (cc)
repeat_read setup fs n items count times (x ∷ xs) s h c few =
    let q = split_true (in_bounds 1 200000 times && nat_le 1 (length (x ∷ xs))) (list_all (is_event setup fs) (x ∷ xs)) h in
    let u = split_true (in_bounds 1 200000 times) (nat_le 1 (length (x ∷ xs))) q.0 in
    let take = body_line setup fs in
    let inner = flat_map (repeat_line fs) (x ∷ xs) in
    let b = inners_read setup fs (n + 1) items count times [] (x ∷ xs) s q.1 c in
    record {
      line = b.line + 1;
      same =
          ap (λ text. plain_scan take n text (body items count None)) (repeat_apart fs times (x ∷ xs))
          ∙ piece_then take n (n + 1) ((codes "repeat" ++ (32 ∷ decimal times)) ++ 10 ∷ []) (inner ++ codes "end\n") (body items count None) (repeating items count times []) (repeat_opens setup fs n items count times u.0)
          ∙ piece_then take (n + 1) b.line inner (codes "end\n") (repeating items count times []) (repeating items count times (x ∷ xs)) b.same
          ∙ repeat_closes setup fs b.line items count times x xs few;
    }

item_read : (setup : Setup) (fs : List Function) (n : ℕ) (items : List Item) (count : ℕ) (i : Item) → Heads setup fs → is_item setup fs i ≡ true → is_clean_item i ≡ true → count + event_count i ≤ 200000 → ItemRead setup fs n items count i
item_read setup fs n items count (One x) s h c few = record { line = n + 1; same = one_read setup fs n items count x s h c few }
item_read setup fs n items count (Repeat times xs) s h c few = repeat_read setup fs n items count times xs s h c few

record ItemsRead (setup : Setup) (fs : List Function) (n : ℕ) (before : List Item) (count : ℕ) (items : List Item) : Type 0 where
  line : ℕ
  total : ℕ
  same : plain_scan (body_line setup fs) n (flat_map (item_text fs) items) (body before count None) ≡ Ok (line, body (before ++ items) total None)

items_read : (setup : Setup) (fs : List Function) (n : ℕ) (before : List Item) (count : ℕ) (items : List Item) → Heads setup fs → list_all (is_item setup fs) items ≡ true → list_all is_clean_item items ≡ true → count + total_events items ≤ 200000 → ItemsRead setup fs n before count items
items_read setup fs n before count [] s h c few = record {
  line = n;
  total = count;
  same = ap (λ (is : List Item). Ok (n, body is count None)) (sym (append-nil before));
}
items_read setup fs n before count (i ∷ items) s h c few =
    let k = split_true (is_clean_item i) (list_all is_clean_item items) c in
    let q = split_true (is_item setup fs i) (list_all (is_item setup fs) items) h in
    let a = item_read setup fs n before count i s q.0 k.0 (omega arith) in
    let b = items_read setup fs a.line (before ++ i ∷ []) (count + event_count i) items s q.1 k.1 (omega arith) in
    record {
      line = b.line;
      total = b.total;
      same =
          piece_then (body_line setup fs) n a.line (item_text fs i) (flat_map (item_text fs) items) (body before count None) (body (before ++ i ∷ []) (count + event_count i) None) a.same
          ∙ b.same
          ∙ ap (λ (is : List Item). Ok (b.line, body is b.total None)) (append_assoc before (i ∷ []) items);
    }

-- What is known of a plan that a text spells.
pub record Origin (plan : Plan) : Type 0 where
  pub good : AllOf FunctionInLimits plan.program.functions
  pub few : length plan.program.functions ≤ 256
  pub line_numbers : List (List ℕ)
  pub free : name_fault plan.program.functions line_numbers ≡ None
  pub lines : List ℕ
  pub apart : objects_fault [] plan.objects lines 0 ≡ None
  pub clean_objects : list_all is_clean_object plan.objects ≡ true
  pub clean_functions : list_all is_clean_function plan.program.functions ≡ true
  pub clean_items : list_all is_clean_item plan.items ≡ true

abbrev made_ok : Plan → Result Plan TextFault
made_ok p = Ok p

inner_plan : (p q : Plan) → made_ok p ≡ made_ok q → p ≡ q
inner_plan p q e = cc

made_origin : (h : Head) (items : List Item) (fault : Option (ℕ × Kind)) → HeadInLimits h → CleanHead h → list_all is_clean_item items ≡ true → head_fault h fault ≡ None → Origin (plan_of_parts h items)
made_origin h items fault g c i e =
    let a = none_or (objects_fault [] h.objects h.lines 0) (fault_or_else (name_fault h.draft.functions h.draft.line_numbers) fault) e in
    let b = none_or (name_fault h.draft.functions h.draft.line_numbers) fault a.1 in
    record {
      good = g.draft.functions;
      few = few_functions (length h.draft.functions) h.draft.stage g.draft.stage;
      line_numbers = h.draft.line_numbers;
      free = b.0;
      lines = h.lines;
      apart = a.0;
      clean_objects = c.objects;
      clean_functions = c.draft.functions;
      clean_items = i;
    }

named_origin : (h : Head) (items : List Item) (fault o : Option (ℕ × Kind)) (p : Plan) → head_fault h fault ≡ o → HeadInLimits h → CleanHead h → list_all is_clean_item items ≡ true → plan_or_fault h items o ≡ Ok p → Origin p
named_origin h items fault None p e g c i f = subst Origin (inner_plan (plan_of_parts h items) p f) (made_origin h items fault g c i e)
named_origin h items fault (Some x) p e g c i f = absurd (cc)

stopped_origin : (n : ℕ) (h : Head) (items : List Item) (fault : Option (ℕ × Kind)) (c : Bool) (o : Option RepeatBlock) (p : Plan) → HeadInLimits h → CleanHead h → list_all is_clean_item items ≡ true → plan_if_whole n h items fault c o ≡ Ok p → Origin p
stopped_origin n h items fault true None p g c i e = named_origin h items fault (head_fault h fault) p refl g c i e
stopped_origin n h items fault true (Some block) p g c i e = absurd (cc)
stopped_origin n h items fault false o p g c i e = absurd (cc)

finished_origin : (o : Result (ℕ × PlanDraft) TextFault) (p : Plan) → FoundInLimits o → IfOk o (λ q. CleanPlan q.1) → plan_of_scan o ≡ Ok p → Origin p
finished_origin (Err f) p g c e = absurd (cc)
finished_origin (Ok q) p g c e = stopped_origin q.0 q.1.head q.1.body.items q.1.body.fault (has_ended q.1.head.expected) q.1.body.block p g.head c.head c.body.items e

limited_origin : (text : List ℕ) (c : Bool) (p : Plan) → cond c (Err (refused_at 0 kind.Length)) (plan_of_lines text) ≡ Ok p → Origin p
limited_origin text true p e = absurd (cc)
limited_origin text false p e =
    finished_origin (scan_lines plan_line 65536 1 text empty_plan_draft) p (scan_in_limits text) (kept CleanPlan plan_line plan_keeps_clean 65536 1 text empty_plan_draft no_plan_clean) e

pub origin : (text : List ℕ) (p : Plan) → plan_of text ≡ Ok p → Origin p
origin text p e = limited_origin text (nat_lt 1048576 (length text)) p e

-- The second pass finds nothing, wherever the lines stand.
free_by : (x y : ℕ × Kind) (a b : Option (ℕ × Kind)) (t : Bool) → (a ≡ None → b ≡ None) → cond t (Some x) a ≡ None → cond t (Some y) b ≡ None
free_by x y a b true h e = absurd (cc)
free_by x y a b false h e = h e

pub objects_free : (before : List (List ℕ)) (os : List (List ℕ × Value)) (ns ks : List ℕ) (i j : ℕ) → objects_fault before os ns i ≡ None → objects_fault before os ks j ≡ None
objects_free before [] ns ks i j e = refl
objects_free before (o ∷ os) ns ks i j e =
    free_by (get_or ns i 0, kind.Name) (get_or ks j 0, kind.Name) (objects_fault (before ++ o.0 ∷ []) os ns (i + 1)) (objects_fault (before ++ o.0 ∷ []) os ks (j + 1)) (is_among before o.0)
    (objects_free (before ++ o.0 ∷ []) os ns ks (i + 1) (j + 1)) e

-- A whole plan.
with_head_alone : Head → PlanDraft
with_head_alone h = record { head = h; body = empty_body }

head_widens : Widens (head_line (codes "events")) plan_line with_head_alone
unfolding with_head_alone
head_widens n ts h next e =
    ap (plan_part_line n ts (record { head = h; body = empty_body })) (not_ended (codes "events") n ts h next h.expected e)
    ∙ ap (with_head (record { head = h; body = empty_body })) e

behind_head : Head → PlanBody → PlanDraft
behind_head h b = record { head = h; body = b }

body_widens : (h : Head) → has_ended h.expected ≡ true → Widens (body_line h.setup h.draft.functions) plan_line (behind_head h)
unfolding behind_head
body_widens h r n ts b next e =
    ap (plan_part_line n ts (record { head = h; body = b })) r ∙ ap (with_body (record { head = h; body = b })) e

plan_apart : (plan : Plan) → plan_text plan ≡ (head_text plan ++ (codes "events" ++ codes "\n")) ++ flat_map (item_text plan.program.functions) plan.items
plan_apart plan = sym (append_assoc (head_text plan) (codes "events\n") (flat_map (item_text plan.program.functions) plan.items))

few_weights : (n : ℕ) → nat_le n 200000 ≡ true → 0 + n ≤ 200000
few_weights n h = let u : n ≤ 200000 = grind (arith, nat_tests, h) in omega arith

pub plan_from_origin_parses_back : (plan : Plan) → Origin plan → is_plan plan ≡ true → length (plan_text plan) ≤ 1048576 → line_count (plan_text plan) ≤ 65536 → plan_of (plan_text plan) ≡ Ok plan
unfolding with_head_alone behind_head
plan_from_origin_parses_back plan o is short few =
    let fs = plan.program.functions in
    let a = split_true _ (nat_le (total_events plan.items) 200000) is in
    let b = split_true _ (list_all (is_item plan.setup fs) plan.items) a.0 in
    let c = split_true (is_setup plan.setup && are_objects plan.objects) (is_program plan.program) b.0 in
    let d = split_true (is_setup plan.setup) (are_objects plan.objects) c.0 in
    let p = split_true (nat_le (length fs) 256 && distinct (function_names fs)) (list_all (is_function fs) fs) c.1 in
    let s : Heads plan.setup fs = record { setup_is = d.0; program = c.1; names_are = identifiers fs fs p.1 } in
    let u = plan_utf8 plan o.good s.names_are o.clean_objects o.clean_functions o.clean_items in
    let objects = (split_true (distinct (map (λ z. z.0) plan.objects)) (list_all object_test plan.objects) d.1).1 in
    let h = head_parses_back (codes "events") 1 plan events_close d.0 objects o.good o.few in
    let whole_head = headed plan.setup plan.objects h.lines expected.Rest (record { functions = fs; line_numbers = h.line_numbers; stage = Between }) in
    let i = items_read plan.setup fs h.line [] 0 plan.items s b.1 o.clean_items (few_weights (total_events plan.items) a.1) in
    let front = head_text plan ++ (codes "events" ++ codes "\n") in
    let rest = flat_map (item_text fs) plan.items in
    let heads = widened (head_line (codes "events")) plan_line with_head_alone head_widens 1 h.line front empty_head whole_head h.same in
    let bodies = widened (body_line plan.setup fs) plan_line (behind_head whole_head) (body_widens whole_head refl) h.line i.line rest empty_body (body plan.items i.total None) i.same in
    let found : ℕ × PlanDraft = (i.line, record { head = whole_head; body = body plan.items i.total None }) in
    let read : plain_scan plan_line 1 (plan_text plan) empty_plan_draft ≡ Ok found =
    ap (λ t. plain_scan plan_line 1 t empty_plan_draft) (plan_apart plan) ∙ piece_then plan_line 1 h.line front rest empty_plan_draft (with_head_alone whole_head) heads ∙ bodies in
    plan_short (plan_text plan) short
    ∙ ap plan_of_scan (within_limits plan_line 65536 1 (plan_text plan) empty_plan_draft found u (omega arith) read)
    ∙ ap (λ z. plan_or_fault whole_head plan.items (fault_or_else z (fault_or_else (name_fault fs h.line_numbers) None))) (objects_free [] plan.objects o.lines h.lines 0 0 o.apart)
    ∙ ap (λ z. plan_or_fault whole_head plan.items (fault_or_else z None)) (functions_free fs fs o.line_numbers h.line_numbers 0 o.free)

pub plan_parses_back : (text : List ℕ) (plan : Plan) → plan_of text ≡ Ok plan → length (plan_text plan) ≤ 1048576 → line_count (plan_text plan) ≤ 65536 → plan_of (plan_text plan) ≡ Ok plan
plan_parses_back text plan e short few = plan_from_origin_parses_back plan (origin text plan e) (parsed_plan_is_plan text plan e) short few
