-- A plan's head with the turns of a run is read again, and judged to the report of the run.
use Rattle.std.proofs.Common.{◌≡◌, ℕ, zero, suc, ◌+◌, ◌*◌, ◌≤◌, Bool, true, false, leb, ◌&&◌, List, [], ◌∷◌, ◌++◌, length, map, Option, Some, None, Ok, Err, refl, sym, ap, ◌∙◌, subst, arith, length-append}
use Rattle.std.specs.Prelude.{IsTrue, flat_map, option_and_then}
use Rattle.std.specs.List.{list_all, AllByRecursion}
use Rattle.std.proofs.lemmas.Bool.{and_parts, leb-true}
use Rattle.std.proofs.lemmas.Str.{is_utf8-from_IsUtf8, IsUtf8-from_is_utf8}
use Rattle.lb_base.specs.declared.value.Value.{Value}
use Rattle.lb_base.specs.declared.value.Value.TheVariants as values
use Rattle.lb_base.specs.Quoted.{quoted}
use Rattle.boki_types.specs.declared.event.Event.{Event}
use Rattle.boki_types.specs.declared.event.Event.TheVariants as v
use Rattle.boki_types.specs.declared.plan.Item.{Item}
use Rattle.boki_types.specs.declared.plan.Item.TheVariants.{One, Repeat}
use Rattle.boki_types.specs.declared.plan.Plan.{Plan}
use Rattle.boki_types.specs.declared.program.Function.{Function}
use Rattle.boki_types.specs.declared.turn.Turn.{Turn}
use Rattle.boki_types.specs.declared.turn.Turn.TheVariants as u
use Rattle.boki_model.specs.Plans.{are_objects, distinct, events, events_of, repeat_events, event_count, is_function, is_item, is_program, is_setup, function_names, total_events}
use Rattle.boki_machine.specs.Ideal.{Ideal, apply_turn, run_turns, initial_ideal}
use Rattle.boki_machine.specs.Machine.{Machine, apply_events}
use Rattle.boki_machine.specs.Machine as machine
use Rattle.exactly_once.specs.Theorem.ExactlyOnce.{IsExact}
use Rattle.exactly_once.proofs.Log.ListElements.{each_append}
use Rattle.exactly_once.proofs.Machines.EventKeeps.{events_keep}
use Rattle.exactly_once.proofs.Machines.ExactlyOnce.{events_are_exact, valid_events}
use Rattle.exactly_once.proofs.Attempts.LostAnswerKeeps.{misses_keep}
use Rattle.exactly_once.proofs.Attempts.StepKeeps.{moves_keep}
use Rattle.exactly_once.proofs.OldVersions.VersionKeeps.{versions_keep}
use Rattle.call_base.specs.declared.status.Status.TheVariants.{Done}
use Rattle.call_base.specs.Due.{due, due_by}
use Rattle.plan_lang.specs.Printed.{turn_line, report_text}
use Rattle.line_text.specs.Texts.{line_count}
use Rattle.plan_lang.specs.Texts.{plan_of}
use Rattle.plan_lang.specs.Turns.{turns_of}
use Rattle.plan_lang.specs.TurnTexts.{is_turn, turns_head_text, turns_text, with_line_numbers}
use Rattle.plan_lang.proofs.CleanEvents.{is_clean_event}
use Rattle.plan_lang.proofs.CleanPlans.{is_clean_item}
use Rattle.plan_lang.proofs.CleanReads.{are_clean_values, is_clean_value}
use Rattle.plan_lang.proofs.CleanTurns.{is_clean_turn}
use Rattle.plan_lang.proofs.PlansInLimits.{object_test, parsed_plan_is_plan}
use Rattle.plan_lang.proofs.PlansParseBack.{origin}
use Rattle.plan_lang.proofs.TurnScans.{turn_test}
use Rattle.plan_lang.proofs.TurnTextsParseBack.{turns_parse_back, turns_printable}
use Rattle.judge_agrees.specs.Counts.{turns_of_log, HaveAtMost}
use Rattle.judge_agrees.specs.Judged.{judge_rest, judge_in_order, judgement, judge_by}
use Rattle.judge_agrees.specs.Laws.{text_with, turn_text_of, PlanWithTurnsIsRead, JudgedRuns, JudgedOneByOne, JudgeAgrees, PlanGivesTexts, PlansAreJudged}
use Rattle.judge_agrees.specs.Requests.{IsUtf8Value, AreUtf8Values, SubmitsUtf8}
use Rattle.judge_agrees.specs.Turns.{TurnIsUtf8, CanStand}
use Rattle.judge_agrees.proofs.Counts.{counts_are_few}
use Rattle.judge_agrees.proofs.Heads.{front_read}
use Rattle.judge_agrees.proofs.QuotedUtf8.{quoted_utf8}
use Rattle.judge_agrees.proofs.UnquotedUtf8.{unquoted_utf8}
use Rattle.judge_agrees.proofs.RunTurns.{turns_can_stand}

-- Texts are clean.
value_clean : (v : Value) → IsUtf8Value v → is_clean_value v ≡ true
value_clean (values.Text bytes) is = is_utf8-from_IsUtf8 (quoted bytes) (quoted_utf8 bytes is)
value_clean (values.Int n) is = refl
value_clean values.Nothing is = refl

both : (a b : Bool) → a ≡ true → b ≡ true → (a && b) ≡ true
both true b h k = k
both false b h k = h

values_clean : (vs : List Value) → AreUtf8Values vs → are_clean_values vs ≡ true
values_clean [] all = refl
values_clean (v ∷ vs) all = both (is_clean_value v) (are_clean_values vs) (value_clean v all.0) (values_clean vs all.1)

turn_clean : (x : Turn) → TurnIsUtf8 x → is_clean_turn x ≡ true
turn_clean (u.Submit request f args) is = values_clean args is
turn_clean (u.Go path n) is = refl
turn_clean (u.End path) is = refl

-- the turns pass their tests, whatever their lines
tests_pass : (fs : List Function) (n : ℕ) (ts : List Turn) → AllByRecursion (λ x. IsTrue (is_turn fs x)) ts → AllByRecursion TurnIsUtf8 ts → list_all (turn_test fs) (with_line_numbers n ts) ≡ true
tests_pass fs n [] good texts = refl
tests_pass fs n (x ∷ xs) good texts =
    both (is_turn fs x && is_clean_turn x) (list_all (turn_test fs) (with_line_numbers (n + 1) xs)) (both (is_turn fs x) (is_clean_turn x) good.0 (turn_clean x texts.0)) (tests_pass fs (n + 1) xs good.1 texts.1)

-- numbered turns are those turns
bare : (n : ℕ) (ts : List Turn) → map (λ (p : ℕ × Turn). p.1) (with_line_numbers n ts) ≡ ts
bare n [] = refl
bare n (x ∷ xs) = ap (λ (ys : List Turn). x ∷ ys) (bare (n + 1) xs)

-- what a plan that a text spells passes
record IsGood (plan : Plan) : Type 0 where
  setup : is_setup plan.setup ≡ true
  objects : list_all object_test plan.objects ≡ true
  program : is_program plan.program ≡ true
  apart : distinct (function_names plan.program.functions) ≡ true
  items : list_all (is_item plan.setup plan.program.functions) plan.items ≡ true
  few : total_events plan.items ≤ 200000

good_plan : (text : List ℕ) (plan : Plan) → plan_of text ≡ Ok plan → IsGood plan
good_plan text plan e =
    let fs = plan.program.functions in
    let weighed = and_parts (is_setup plan.setup && are_objects plan.objects && is_program plan.program && list_all (is_item plan.setup fs) plan.items) (leb (total_events plan.items) 200000) (parsed_plan_is_plan text plan e) in
    let items = and_parts (is_setup plan.setup && are_objects plan.objects && is_program plan.program) (list_all (is_item plan.setup fs) plan.items) weighed.0 in
    let program = and_parts (is_setup plan.setup && are_objects plan.objects) (is_program plan.program) items.0 in
    let setup = and_parts (is_setup plan.setup) (are_objects plan.objects) program.0 in
    let objects = and_parts (distinct (map (λ o. o.0) plan.objects)) (list_all object_test plan.objects) setup.1 in
    let functions = and_parts (leb (length fs) 256 && distinct (function_names fs)) (list_all (is_function fs) fs) program.1 in
    let apart = and_parts (leb (length fs) 256) (distinct (function_names fs)) functions.0 in
    record { setup = setup.0; objects = objects.1; program = program.1; apart = apart.1; items = items.1; few = leb-true (total_events plan.items) 200000 weighed.1 }

pub plan_with_turns_is_read : PlanWithTurnsIsRead
plan_with_turns_is_read text plan ts e good texts within =
    let fs = plan.program.functions in
    let n = line_count (turns_head_text plan) + 1 in
    let t = turn_text_of plan ts in
    let g = good_plan text plan e in
    let same : map (λ (p : ℕ × Turn). p.1) (with_line_numbers n ts) ≡ ts = bare n ts in
    let whole : turns_text t ≡ text_with plan ts = ap (λ (xs : List Turn). turns_head_text plan ++ flat_map (turn_line fs) xs) same in
    let read = turns_parse_back t (front_read plan (origin text plan e) g.setup g.objects) (turns_printable fs t.turns g.program (tests_pass fs n ts good texts))
    (subst (λ (w : List ℕ). length w ≤ 16777216) (sym whole) within.bytes) (subst (λ (w : List ℕ). line_count w ≤ 300000) (sym whole) within.lines) in
    ap turns_of (sym whole) ∙ read ∙ ap (λ (xs : List Turn). Ok (record { plan = record plan { items = [] }; turns = with_line_numbers n xs })) same

-- Judging.
module _ (fs : List Function) where
  abbrev Bare : List (ℕ × Turn) → List Turn
  Bare ts = map (λ (p : ℕ × Turn). p.1) ts

  runs_on : (n : ℕ) (ts : List (ℕ × Turn)) (last : Ideal) (o : Option Ideal) → ((s : Ideal) → run_turns fs (Bare ts) s ≡ Some last → judge_in_order fs ts s ≡ Ok last) → option_and_then (run_turns fs (Bare ts)) o ≡ Some last → judge_rest (judge_in_order fs ts) n o ≡ Ok last
  runs_on n ts last None others e = cc
  runs_on n ts last (Some s) others e = others s e

  runs : (ts : List (ℕ × Turn)) (first last : Ideal) → run_turns fs (Bare ts) first ≡ Some last → judge_in_order fs ts first ≡ Ok last
  runs [] first last e = cc
  runs (t ∷ ts) first last e = runs_on t.0 ts last (apply_turn fs t.1 first) (λ s h. runs ts s last h) e

  only_on : (n : ℕ) (ts : List (ℕ × Turn)) (last : Ideal) (o : Option Ideal) → ((s : Ideal) → judge_in_order fs ts s ≡ Ok last → run_turns fs (Bare ts) s ≡ Some last) → judge_rest (judge_in_order fs ts) n o ≡ Ok last → option_and_then (run_turns fs (Bare ts)) o ≡ Some last
  only_on n ts last None others e = cc
  only_on n ts last (Some s) others e = others s e

  only : (ts : List (ℕ × Turn)) (first last : Ideal) → judge_in_order fs ts first ≡ Ok last → run_turns fs (Bare ts) first ≡ Some last
  only [] first last e = cc
  only (t ∷ ts) first last e = only_on t.0 ts last (apply_turn fs t.1 first) (λ s h. only ts s last h) e

  next_on : (n : ℕ) (ts others : List (ℕ × Turn)) (next : Ideal) (o : Option Ideal) → ((s : Ideal) → judge_in_order fs ts s ≡ Ok next → judge_in_order fs (ts ++ others) s ≡ judge_in_order fs others next) → judge_rest (judge_in_order fs ts) n o ≡ Ok next → judge_rest (judge_in_order fs (ts ++ others)) n o ≡ judge_in_order fs others next
  next_on n ts others next None more e = cc
  next_on n ts others next (Some s) more e = more s e

  next : (ts : List (ℕ × Turn)) (first last : Ideal) (others : List (ℕ × Turn)) → judge_in_order fs ts first ≡ Ok last → judge_in_order fs (ts ++ others) first ≡ judge_in_order fs others last
  next [] first last others e = let same : first ≡ last = cc in ap (judge_in_order fs others) same
  next (t ∷ ts) first last others e = next_on t.0 ts others last (apply_turn fs t.1 first) (λ s h. next ts s last others h) e

  stops_on : (n : ℕ) (ts others : List (ℕ × Turn)) (line : ℕ) (o : Option Ideal) → ((s : Ideal) → judge_in_order fs ts s ≡ Err line → judge_in_order fs (ts ++ others) s ≡ Err line) → judge_rest (judge_in_order fs ts) n o ≡ Err line → judge_rest (judge_in_order fs (ts ++ others)) n o ≡ Err line
  stops_on n ts others line None more e = e
  stops_on n ts others line (Some s) more e = more s e

  stops : (ts : List (ℕ × Turn)) (first : Ideal) (line : ℕ) (others : List (ℕ × Turn)) → judge_in_order fs ts first ≡ Err line → judge_in_order fs (ts ++ others) first ≡ Err line
  stops [] first line others e = cc
  stops (t ∷ ts) first line others e = stops_on t.0 ts others line (apply_turn fs t.1 first) (λ s h. stops ts s line others h) e

pub judged_runs : JudgedRuns
judged_runs fs ts first = record { runs = λ last e. runs fs ts first last e; only = λ last e. only fs ts first last e }

pub judged_one_by_one : JudgedOneByOne
judged_one_by_one fs ts first = record { on = λ last others e. next fs ts first last others e; stops = λ line others e. stops fs ts first line others e }

turns_good : (fs : List Function) (ts : List Turn) → HaveAtMost 200000 ts → AllByRecursion (CanStand fs) ts → AllByRecursion (λ x. IsTrue (is_turn fs x)) ts
turns_good fs [] few all = tt
turns_good fs (x ∷ xs) few all = (all.0.turn few.0, turns_good fs xs few.1 all.1)

turns_text_good : (fs : List Function) (ts : List Turn) → AllByRecursion (CanStand fs) ts → AllByRecursion TurnIsUtf8 ts
turns_text_good fs [] all = tt
turns_text_good fs (x ∷ xs) all = (all.0.texts, turns_text_good fs xs all.1)

pub judge_agrees : JudgeAgrees
judge_agrees text plan es e all texts few within =
    let fs = plan.program.functions in
    let m : Machine = (apply_events plan.setup fs es (machine.initial_machine plan.setup plan.objects)).machine in
    let ts : List Turn = turns_of_log fs m in
    let n = line_count (turns_head_text plan) + 1 in
    let stand : AllByRecursion (CanStand fs) ts = turns_can_stand plan.setup fs plan.objects es ((good_plan text plan e).apart) all texts in
    let read = plan_with_turns_is_read text plan ts e (turns_good fs ts few stand) (turns_text_good fs ts stand) within in
    let exact : IsExact fs plan.objects m = events_are_exact (events_keep (moves_keep versions_keep) (misses_keep versions_keep)) plan.setup fs plan.objects es all in
    record {
      read = read;
      due =
          ap (λ t. due_by (due Done) (judge_by t)) read
          ∙ ap (λ (xs : List Turn). due_by (due Done) (judgement fs xs (judge_in_order fs (with_line_numbers n ts) (initial_ideal plan.objects)))) (bare n ts)
          ∙ ap (λ o. due_by (due Done) (judgement fs ts o)) (runs fs (with_line_numbers n ts) (initial_ideal plan.objects) exact.state (ap (λ xs. run_turns fs xs (initial_ideal plan.objects)) (bare n ts) ∙ exact.defined))
          ∙ ap (λ r. due Done (report_text fs r)) exact.reported;
    }

-- The texts of a plan's events.
value_text : (v : Value) → is_clean_value v ≡ true → IsUtf8Value v
value_text (values.Text bytes) h = unquoted_utf8 bytes (IsUtf8-from_is_utf8 (quoted bytes) h)
value_text (values.Int n) h = tt
value_text values.Nothing h = tt

values_text : (vs : List Value) → are_clean_values vs ≡ true → AreUtf8Values vs
values_text [] h = tt
values_text (v ∷ vs) h = let p = and_parts (is_clean_value v) (are_clean_values vs) h in (value_text v p.0, values_text vs p.1)

event_text : (e : Event) → is_clean_event e ≡ true → SubmitsUtf8 e
event_text (v.Submit engine request f args) h = values_text args h
event_text _ h = tt

each_text : (es : List Event) → list_all is_clean_event es ≡ true → AllByRecursion SubmitsUtf8 es
each_text [] h = tt
each_text (e ∷ es) h = let p = and_parts (is_clean_event e) (list_all is_clean_event es) h in (event_text e p.0, each_text es p.1)

repeated_text : (n : ℕ) (es : List Event) → AllByRecursion SubmitsUtf8 es → AllByRecursion SubmitsUtf8 (repeat_events n es)
repeated_text zero es all = tt
repeated_text (suc n) es all = each_append SubmitsUtf8 es (repeat_events n es) all (repeated_text n es all)

item_text : (i : Item) → is_clean_item i ≡ true → AllByRecursion SubmitsUtf8 (events_of i)
item_text (One e) h = (event_text e h, tt)
item_text (Repeat n es) h = repeated_text n es (each_text es h)

items_text : (items : List Item) → list_all is_clean_item items ≡ true → AllByRecursion SubmitsUtf8 (events items)
items_text [] h = tt
items_text (i ∷ is) h =
    let p = and_parts (is_clean_item i) (list_all is_clean_item is) h in
    each_append SubmitsUtf8 (events_of i) (events is) (item_text i p.0) (items_text is p.1)

pub plan_gives_texts : PlanGivesTexts
plan_gives_texts text plan e = items_text plan.items ((origin text plan e).clean_items)

-- A plan has no more events than it may.
length_repeated : (n : ℕ) (es : List Event) → length (repeat_events n es) ≡ n * length es
length_repeated zero es = omega arith
length_repeated (suc n) es = omega (arith, length-append es (repeat_events n es), length_repeated n es)

length_item : (i : Item) → length (events_of i) ≡ event_count i
length_item (One e) = refl
length_item (Repeat n es) = length_repeated n es

length_events : (items : List Item) → length (events items) ≡ total_events items
length_events [] = refl
length_events (i ∷ is) = omega (arith, length-append (events_of i) (events is), length_item i, length_events is)

at_most_more : (n k : ℕ) (ts : List Turn) → n ≤ k → HaveAtMost n ts → HaveAtMost k ts
at_most_more n k [] less all = tt
at_most_more n k (u.Submit request f args ∷ ts) less all = (tt, at_most_more n k ts less all.1)
at_most_more n k (u.Go path i ∷ ts) less all = ((let few = all.0 in omega (arith, few, less)), at_most_more n k ts less all.1)
at_most_more n k (u.End path ∷ ts) less all = (tt, at_most_more n k ts less all.1)

pub plans_are_judged : PlansAreJudged
plans_are_judged text plan e within =
    let fs = plan.program.functions in
    let g = good_plan text plan e in
    let valid = valid_events plan.setup fs plan.items g.items in
    let few : length (events plan.items) ≤ 200000 = omega (arith, length_events plan.items, g.few) in
    let m : Machine = (apply_events plan.setup fs (events plan.items) (machine.initial_machine plan.setup plan.objects)).machine in
    let counts : HaveAtMost 200000 (turns_of_log fs m) = at_most_more (length (events plan.items)) 200000 (turns_of_log fs m) few (counts_are_few plan.setup fs plan.objects (events plan.items) valid) in
    judge_agrees text plan (events plan.items) e valid (plan_gives_texts text plan e) counts within
