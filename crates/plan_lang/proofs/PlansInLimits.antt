-- A plan that is read is within all limits.
use Rattle.std.proofs.Common.{◌≡◌, ℕ, ◌+◌, ◌*◌, ◌≤◌, Bool, true, false, cond, List, [], ◌∷◌, ◌++◌, length, map, Option, Some, None, Result, Ok, Err, refl, sym, ap, ◌∙◌, subst, append_assoc, arith}
use Rattle.std.specs.Prelude.{◌&&◌, ◌||◌, not, IfOk, option_and_then, bytes_eq, codes, nat_le, nat_lt, get_or, drop}
use Rattle.std.specs.List.{list_all}
use Rattle.std.proofs.lemmas.Bool.Decides.{nat_tests}
use Rattle.std.proofs.lemmas.List.{append-nil}
use Rattle.lb_base.specs.declared.value.Mode.{Mode}
use Rattle.lb_base.specs.declared.value.Value.{Value}
use Rattle.boki_types.specs.declared.event.Event.{Event}
use Rattle.boki_types.specs.declared.kind.Kind.{Kind}
use Rattle.boki_types.specs.declared.kind.Kind.TheVariants as kind
use Rattle.boki_types.specs.declared.plan.Item.{Item}
use Rattle.boki_types.specs.declared.plan.Item.TheVariants.{One, Repeat}
use Rattle.boki_types.specs.declared.plan.Plan.{Plan}
use Rattle.boki_types.specs.declared.plan.Setup.{Setup}
use Rattle.boki_types.specs.declared.program.Function.{Function}
use Rattle.boki_model.specs.Bodies.{is_value, is_name, is_target}
use Rattle.boki_model.specs.Maps.{has}
use Rattle.boki_model.specs.Plans.{in_bounds, is_optional_engine, is_setup, are_objects, is_program, is_event, is_item, event_count, total_events, distinct, is_plan}
use Rattle.script_lang.specs.declared.draft.Draft.{Draft}
use Rattle.script_lang.specs.declared.draft.Stage.{Stage}
use Rattle.script_lang.specs.declared.draft.Stage.TheVariants.{Between, Inside}
use Rattle.line_text.specs.declared.checked.Checked.{Checked}
use Rattle.line_text.specs.declared.checked.Checked.TheVariants as r
use Rattle.line_text.specs.declared.token.Keyword.TheVariants as k
use Rattle.line_text.specs.declared.token.Token.{Token}
use Rattle.line_text.specs.declared.token.Token.TheVariants as t
use Rattle.script_lang.specs.Functions.{draft_line, is_in_function}
use Rattle.script_lang.specs.Names.{is_among, name_fault, fault_or_else}
use Rattle.line_text.specs.Checks.{both_checked, checked_if}
use Rattle.line_text.specs.Readers.{if_at_end, text_at, value_at}
use Rattle.line_text.proofs.LexedNames.{NamesValid}
use Rattle.script_lang.proofs.DraftsInLimits.{DraftInLimits, StageInLimits, empty_draft_in_limits, stage_in_limits}
use Rattle.script_lang.proofs.ProgramsValid.{functions_pass}
use Rattle.plan_lang.specs.declared.bodies.RepeatBlock.{RepeatBlock}
use Rattle.plan_lang.specs.declared.bodies.PlanBody.{PlanBody}
use Rattle.plan_lang.specs.declared.drafts.PlanDraft.{PlanDraft}
use Rattle.plan_lang.specs.declared.events.Entry.{Entry}
use Rattle.line_text.specs.declared.fault.TextFault.{TextFault}
use Rattle.plan_lang.specs.declared.heads.Expected.{Expected}
use Rattle.plan_lang.specs.declared.heads.Expected.TheVariants as expected
use Rattle.plan_lang.specs.declared.heads.Head.{Head}
use Rattle.plan_lang.specs.declared.heads.HeadWord.{HeadWord}
use Rattle.plan_lang.specs.declared.heads.HeadWord.TheVariants as head_word
use Rattle.plan_lang.specs.EventLines.{times_of, body_with_repeat, body_with_open_repeat, body_with_counted, body_with_closed, body_with_end, body_with_event, body_with_entry, body_with_found, body_line, empty_body}
use Rattle.line_text.specs.Faults.{first_fault, refused_at}
use Rattle.plan_lang.specs.Events.{entry_of_word}
use Rattle.line_text.specs.Fields.{number_at, mode_at}
use Rattle.plan_lang.specs.Heads.{newer_of, check_then, make_checked_setup, setup_behind, setup_of, object_of, with_setup, with_object, with_draft, head_with_end as head_closed, object_line, head_word_line, head_word_of, with_word_taken, between_line, expected_line, head_line, empty_head, has_ended, objects_fault}
use Rattle.line_text.specs.Texts.{scan_lines}
use Rattle.plan_lang.specs.Texts.{with_head, with_body, plan_part_line, plan_line, empty_plan_draft, head_fault, plan_of_parts, plan_or_fault, plan_if_whole, plan_of_scan, plan_of_lines, plan_of}
use Rattle.plan_lang.proofs.EventsInRange.{value_in_range, is_sound_entry, sound_event, entry_of_word_in_range}
use Rattle.line_text.proofs.FieldsInRange.{IfValid, any_if_valid, IfReadValid, IfLineValid, checked_if_valid, both_true, split_true, pair_test, both_if_valid, at_end_if_valid, bind_if_valid, number_at_in_range, ModeInRange, mode_in_range}
use Rattle.line_text.proofs.LineInvariants.{Keeps, kept}
use Rattle.plan_lang.proofs.ObjectLemmas.{flip}

-- Objects whose names differ.
pub not_true : (b : Bool) → not b ≡ true → b ≡ false
not_true true e = absurd (cc)
not_true false e = refl

pub split_or : (a b : Bool) → (a || b) ≡ false → (a ≡ false) × (b ≡ false)
split_or true b h = absurd (cc)
split_or false b h = (refl, h)

either_false : (a b : Bool) → a ≡ false → b ≡ false → (a || b) ≡ false
either_false a b h k = rw h k

has_more : (k : List ℕ) (ns : List (List ℕ)) (y : List ℕ) → has k ns ≡ false → bytes_eq k y ≡ false → has k (ns ++ y ∷ []) ≡ false
has_more k [] y h e = either_false (bytes_eq k y) false e refl
has_more k (n ∷ ns) y h e =
    let s = split_or (bytes_eq k n) (has k ns) h in
    either_false (bytes_eq k n) (has k (ns ++ y ∷ [])) s.0 (has_more k ns y s.1 e)

distinct_more : (ns : List (List ℕ)) (y : List ℕ) → distinct ns ≡ true → is_among ns y ≡ false → distinct (ns ++ y ∷ []) ≡ true
distinct_more [] y d a = refl
distinct_more (n ∷ ns) y d a =
    let s = split_true (not (has n ns)) (distinct ns) d in
    let o = split_or (bytes_eq y n) (is_among ns y) a in
    let no = has_more n ns y (not_true (has n ns) s.0) (flip n y ∙ o.0) in
    both_true (not (has n (ns ++ y ∷ []))) (distinct (ns ++ y ∷ [])) (ap not no) (distinct_more ns y s.1 o.1)

passed_by : (before : List (List ℕ)) (o : List ℕ × Value) (os : List (List ℕ × Value)) (ns : List ℕ) (i : ℕ) (b : Bool) (found : Option (ℕ × Kind)) → found ≡ None → is_among before o.0 ≡ b → cond b (Some (get_or ns i 0, kind.Name)) (objects_fault (before ++ o.0 ∷ []) os ns (i + 1)) ≡ found → distinct before ≡ true → (distinct (before ++ o.0 ∷ []) ≡ true → objects_fault (before ++ o.0 ∷ []) os ns (i + 1) ≡ found → distinct ((before ++ o.0 ∷ []) ++ map (λ p. p.0) os) ≡ true) → distinct (before ++ map (λ p. p.0) (o ∷ os)) ≡ true
passed_by before o os ns i true found none e h d rest = absurd (cc)
passed_by before o os ns i false found none e h d rest =
    ap distinct (sym (append_assoc before (o.0 ∷ []) (map (λ p. p.0) os))) ∙ rest (distinct_more before o.0 d e) h

pub passed : (before : List (List ℕ)) (objects : List (List ℕ × Value)) (ns : List ℕ) (i : ℕ) (found : Option (ℕ × Kind)) → found ≡ None → objects_fault before objects ns i ≡ found → distinct before ≡ true → distinct (before ++ map (λ p. p.0) objects) ≡ true
passed before [] ns i found none h d = ap distinct (append-nil before) ∙ d
passed before (o ∷ os) ns i found none h d =
    passed_by before o os ns i (is_among before o.0) found none refl h d (λ d2 h2. passed (before ++ o.0 ∷ []) os ns (i + 1) found none h2 d2)

-- Heads.
abbrev pub object_test : List ℕ × Value → Bool
object_test o = is_name o.0 && is_value o.1

pub record HeadInLimits (h : Head) : Type 0 where
  pub setup : is_setup h.setup ≡ true
  pub objects : list_all object_test h.objects ≡ true
  pub draft : DraftInLimits h.draft

abbrev HeadOk : Result Head Kind → Type 0
HeadOk o = IfOk o HeadInLimits

pub all_more : {A : Type 0} (p : A → Bool) (xs : List A) (x : A) → list_all p xs ≡ true → p x ≡ true → list_all p (xs ++ x ∷ []) ≡ true
all_more p [] x h e = both_true (p x) true e refl
all_more p (y ∷ ys) x h e =
    let s = split_true (p y) (list_all p ys) h in both_true (p y) (list_all p (ys ++ x ∷ [])) s.0 (all_more p ys x s.1 e)

with_setup_good : (h : Head) (o : Option (Checked Setup)) → HeadInLimits h → IfLineValid is_setup o → HeadOk (with_setup h o)
with_setup_good h None g w = tt
with_setup_good h (Some r.OutOfRange) g w = tt
with_setup_good h (Some r.TooDeep) g w = tt
with_setup_good h (Some (r.Valid setup)) g w = record { setup = w; objects = g.objects; draft = g.draft }

with_object_good : (n : ℕ) (h : Head) (o : Option (Checked (List ℕ × Value))) → HeadInLimits h → IfLineValid object_test o → HeadOk (with_object n h o)
with_object_good n h None g w = tt
with_object_good n h (Some r.OutOfRange) g w = tt
with_object_good n h (Some r.TooDeep) g w = tt
with_object_good n h (Some (r.Valid object)) g w =
    record { setup = g.setup; objects = all_more object_test h.objects object g.objects w; draft = g.draft }

with_draft_good : (h : Head) (o : Result Draft Kind) → HeadInLimits h → ((d : Draft) → o ≡ Ok d → DraftInLimits d) → HeadOk (with_draft h o)
with_draft_good h (Err k) g w = tt
with_draft_good h (Ok d) g w = record { setup = g.setup; objects = g.objects; draft = w d refl }

drafted : (n : ℕ) (ts : List Token) (h : Head) → NamesValid ts → HeadInLimits h → HeadOk (with_draft h (draft_line n ts h.draft))
drafted n ts h t g =
    with_draft_good h (draft_line n ts h.draft) g (λ d e. stage_in_limits n ts h.draft.functions h.draft.line_numbers h.draft.stage d t g.draft.functions g.draft.stage e)

-- objects
object_by : (name : List ℕ) (o : Option (Checked Value × List Token)) → IfReadValid is_value o → IfLineValid object_test (option_and_then (λ (value : Checked Value × List Token). if_at_end value.1 (both_checked (checked_if (in_bounds 1 64 (length name)) name) value.0)) o)
object_by name None h = tt
object_by name (Some value) h =
    at_end_if_valid object_test value.1 _ (both_if_valid is_name is_value (checked_if (in_bounds 1 64 (length name)) name) value.0 (checked_if_valid is_name (in_bounds 1 64 (length name)) name (λ e. e)) h)

object_text : (o : Option (List ℕ × List Token)) → IfLineValid object_test (option_and_then (λ (name : List ℕ × List Token). option_and_then (λ (value : Checked Value × List Token). if_at_end value.1 (both_checked (checked_if (in_bounds 1 64 (length name.0)) name.0) value.0)) (value_at name.1)) o)
object_text None = tt
object_text (Some name) = object_by name.0 (value_at name.1) (value_in_range name.1)

object_good : (ts : List Token) → IfLineValid object_test (object_of ts)
object_good ts = object_text (text_at ts)

-- the setup
abbrev sizes_test : (ℕ × ℕ) × ℕ → Bool
sizes_test = pair_test (pair_test (in_bounds 1 16) (in_bounds 1 5)) (in_bounds 1 16)

made_by : (m : Mode) (p : ((ℕ × ℕ) × ℕ) × Option ℕ) (b : Bool) → is_optional_engine p.0.1 p.1 ≡ b → is_target m ≡ true → sizes_test p.0 ≡ true → IfValid is_setup (checked_if b (record { shards = p.0.0.0; replicas = p.0.0.1; engines = p.0.1; mode = m; newer = p.1 }))
made_by m p true e f h =
    both_true (((in_bounds 1 16 p.0.0.0 && in_bounds 1 5 p.0.0.1) && in_bounds 1 16 p.0.1) && is_target m) (is_optional_engine p.0.1 p.1) (both_true ((in_bounds 1 16 p.0.0.0 && in_bounds 1 5 p.0.0.1) && in_bounds 1 16 p.0.1) (is_target m) h f) e
made_by m p false e f h = tt

checked_good : (m : Mode) (x : Checked (((ℕ × ℕ) × ℕ) × Option ℕ)) → is_target m ≡ true → IfValid (pair_test sizes_test (λ _. true)) x → IfValid is_setup (check_then (make_checked_setup m) x)
checked_good m (r.Valid p) f h = made_by m p (is_optional_engine p.0.1 p.1) refl f ((split_true (sizes_test p.0) true h).0)
checked_good m r.OutOfRange f h = tt
checked_good m r.TooDeep f h = tt

newer_by : (m : Mode) (sizes : Checked ((ℕ × ℕ) × ℕ)) (o : Option (Checked (Option ℕ))) → is_target m ≡ true → IfValid sizes_test sizes → IfLineValid is_setup (option_and_then (λ (newer : Checked (Option ℕ)). Some (check_then (make_checked_setup m) (both_checked sizes newer))) o)
newer_by m sizes None f h = tt
newer_by m sizes (Some newer) f h = checked_good m (both_checked sizes newer) f (both_if_valid sizes_test (λ _. true) sizes newer h (any_if_valid newer))

mode_by : (sizes : Checked ((ℕ × ℕ) × ℕ)) (o : Option (Mode × List Token)) → ModeInRange o → IfValid sizes_test sizes → IfLineValid is_setup (option_and_then (λ (m : Mode × List Token). option_and_then (λ (newer : Checked (Option ℕ)). Some (check_then (make_checked_setup m.0) (both_checked sizes newer))) (newer_of m.1)) o)
mode_by sizes None g h = tt
mode_by sizes (Some m) g h = newer_by m.0 sizes (newer_of m.1) g h

behind_good : (ts : List Token) → IfLineValid is_setup (setup_behind ts)
behind_good ts =
    bind_if_valid (in_bounds 1 16) is_setup (number_at 1 16 ts) _ (number_at_in_range 1 16 ts) (λ x f.
    bind_if_valid (in_bounds 1 5) is_setup (number_at 1 5 x.1) _ (number_at_in_range 1 5 x.1) (λ y g.
    bind_if_valid (in_bounds 1 16) is_setup (number_at 1 16 y.1) _ (number_at_in_range 1 16 y.1) (λ z h.
    mode_by (both_checked (both_checked x.0 y.0) z.0) (mode_at z.1) (mode_in_range z.1)
    (both_if_valid (pair_test (in_bounds 1 16) (in_bounds 1 5)) (in_bounds 1 16) (both_checked x.0 y.0) z.0 (both_if_valid (in_bounds 1 16) (in_bounds 1 5) x.0 y.0 f g) h))))

setup_by : (b : Bool) (ts : List Token) → IfLineValid is_setup (cond b (setup_behind ts) None)
setup_by true ts = behind_good ts
setup_by false ts = tt

setup_good : (ts : List Token) → IfLineValid is_setup (setup_of ts)
setup_good (t.Name x ∷ ts) = setup_by (bytes_eq x (codes "setup")) ts
setup_good [] = tt
setup_good (t.Numeral n ∷ ts) = tt
setup_good (t.Dotted x ∷ ts) = tt
setup_good (t.Text x ∷ ts) = tt
setup_good (t.Keyword k ∷ ts) = tt
setup_good (t.Op o ∷ ts) = tt
setup_good (t.Minus s ∷ ts) = tt
setup_good (t.Punctuation k ∷ ts) = tt

-- lines of the head
object_line_good : (n : ℕ) (ts : List Token) (h : Head) (d : Expected) → HeadInLimits h → HeadOk (object_line n ts h d)
object_line_good n ts h expected.Setup g = tt
object_line_good n ts h expected.Objects g = with_object_good n h (object_of ts) g (object_good ts)
object_line_good n ts h expected.Functions g = tt
object_line_good n ts h expected.Rest g = tt

closed_good : (h : Head) (ts : List Token) → HeadInLimits h → HeadOk (head_closed h ts)
closed_good h [] g = record { setup = g.setup; objects = g.objects; draft = g.draft }
closed_good h (t ∷ ts) g = tt

led_good : (n : ℕ) (ts : List Token) (h : Head) (x : HeadWord) → NamesValid ts → HeadInLimits h → HeadOk (head_word_line n h (with_word_taken x ts))
led_good n ts h head_word.Function t g = drafted n ts h t g
led_good n ts h head_word.Object t g = object_line_good n (drop 1 ts) h h.expected g
led_good n ts h head_word.Close t g = closed_good h (drop 1 ts) g
led_good n ts h head_word.Other t g = tt

between_good : (close : List ℕ) (n : ℕ) (ts : List Token) (h : Head) (b : Bool) → NamesValid ts → HeadInLimits h → HeadOk (between_line close n ts h b)
between_good close n ts h true t g = drafted n ts h t g
between_good close n ts h false t g = led_good n ts h (head_word_of close ts) t g

pub expected_line_in_limits : (close : List ℕ) (n : ℕ) (ts : List Token) (h : Head) (d : Expected) → NamesValid ts → HeadInLimits h → HeadOk (expected_line close n ts h d)
expected_line_in_limits close n ts h expected.Setup t g = with_setup_good h (setup_of ts) g (setup_good ts)
expected_line_in_limits close n ts h expected.Objects t g = between_good close n ts h (is_in_function h.draft.stage) t g
expected_line_in_limits close n ts h expected.Functions t g = between_good close n ts h (is_in_function h.draft.stage) t g
expected_line_in_limits close n ts h expected.Rest t g = tt

pub empty_head_in_limits : HeadInLimits empty_head
empty_head_in_limits = record { setup = refl; objects = refl; draft = empty_draft_in_limits }

-- Bodies.
BlockGood : Setup → List Function → Option (ℕ × Kind) → Option RepeatBlock → Type 0
BlockGood setup fs fault None = Unit {0}
BlockGood setup fs fault (Some block) =
    (in_bounds 1 200000 block.times ≡ true) × (fault ≡ None → list_all (is_event setup fs) block.events ≡ true)

record GoodBody (setup : Setup) (fs : List Function) (b : PlanBody) : Type 0 where
  items : b.fault ≡ None → list_all (is_item setup fs) b.items ≡ true
  block : BlockGood setup fs b.fault b.block
  count : total_events b.items ≡ b.count
  few : b.count ≤ 200000

BodyOk : Setup → List Function → Result PlanBody Kind → Type 0
BodyOk setup fs o = IfOk o (GoodBody setup fs)

no_body_good : (setup : Setup) (fs : List Function) → GoodBody setup fs empty_body
unfolding BlockGood
no_body_good setup fs = record { items = λ _. refl; block = tt; count = refl; few = omega arith }

weights_more : (xs : List Item) (x : Item) → total_events (xs ++ x ∷ []) ≡ total_events xs + event_count x
weights_more [] x = omega arith
weights_more (y ∷ ys) x = omega (arith, weights_more ys x)

times_by : (o : Option (Checked ℕ × List Token)) → IfReadValid (in_bounds 1 200000) o → IfLineValid (in_bounds 1 200000) (option_and_then (λ (n : Checked ℕ × List Token). if_at_end n.1 n.0) o)
times_by None h = tt
times_by (Some n) h = at_end_if_valid (in_bounds 1 200000) n.1 n.0 h

times_good : (ts : List Token) → IfLineValid (in_bounds 1 200000) (times_of ts)
times_good ts = times_by (number_at 1 200000 ts) (number_at_in_range 1 200000 ts)

opened_by_good : (setup : Setup) (fs : List Function) (b : PlanBody) (o : Option RepeatBlock) (x : Checked ℕ) → GoodBody setup fs b → IfValid (in_bounds 1 200000) x → BodyOk setup fs (body_with_open_repeat b o x)
unfolding BlockGood BodyOk
opened_by_good setup fs b (Some block) x g f = tt
opened_by_good setup fs b None r.OutOfRange g f = tt
opened_by_good setup fs b None r.TooDeep g f = tt
opened_by_good setup fs b None (r.Valid n) g f =
    record { items = g.items; block = (f, λ _. refl); count = g.count; few = g.few }

opened_good : (setup : Setup) (fs : List Function) (b : PlanBody) (o : Option (Checked ℕ)) → GoodBody setup fs b → IfLineValid (in_bounds 1 200000) o → BodyOk setup fs (body_with_repeat b o)
unfolding BodyOk
opened_good setup fs b None g f = tt
opened_good setup fs b (Some x) g f = opened_by_good setup fs b b.block x g f

counted_by : (setup : Setup) (fs : List Function) (b : PlanBody) (block : RepeatBlock) (n : ℕ) (c : Bool) → nat_le n 200000 ≡ c → n ≡ b.count + block.times * length block.events → 1 ≤ length block.events → GoodBody setup fs b → BlockGood setup fs b.fault (Some block) → BodyOk setup fs (body_with_counted b block (cond c (Some n) None))
unfolding BlockGood BodyOk
counted_by setup fs b block n false e s some g h = tt
counted_by setup fs b block n true e s some g h =
    let one : nat_le 1 (length block.events) ≡ true = grind (arith, nat_tests, some) in
    record {
      items = λ none.
          all_more (is_item setup fs) b.items (Repeat block.times block.events) (g.items none)
          (both_true (in_bounds 1 200000 block.times && nat_le 1 (length block.events)) (list_all (is_event setup fs) block.events) (both_true (in_bounds 1 200000 block.times) (nat_le 1 (length block.events)) h.0 one) (h.1 none));
      block = tt;
      count = weights_more b.items (Repeat block.times block.events) ∙ omega (arith, g.count, s);
      few = grind (arith, nat_tests, e);
    }

closed_list : (setup : Setup) (fs : List Function) (b : PlanBody) (block : RepeatBlock) (es : List Event) → block.events ≡ es → GoodBody setup fs b → BlockGood setup fs b.fault (Some block) → BodyOk setup fs (body_with_closed b block es)
unfolding BodyOk
closed_list setup fs b block [] e g h = tt
closed_list setup fs b block (x ∷ xs) e g h =
    let n = b.count + block.times * length block.events in
    let some : 1 ≤ length block.events = omega (arith, ap length e) in
    counted_by setup fs b block n (nat_le n 200000) refl refl some g h

closed_body : (setup : Setup) (fs : List Function) (b : PlanBody) (o : Option RepeatBlock) (ts : List Token) → GoodBody setup fs b → BlockGood setup fs b.fault o → BodyOk setup fs (body_with_end b o ts)
unfolding BodyOk
closed_body setup fs b (Some block) [] g h = closed_list setup fs b block block.events refl g h
closed_body setup fs b (Some block) (t ∷ ts) g h = tt
closed_body setup fs b None ts g h = tt

pub none_first : (fault : Option (ℕ × Kind)) (n : ℕ) (found : Option Kind) → first_fault fault n found ≡ None → (fault ≡ None) × (found ≡ None)
none_first (Some f) n found e = absurd (cc)
none_first None n None e = (refl, refl)
none_first None n (Some k) e = absurd (cc)

added_by : (setup : Setup) (fs : List Function) (n : ℕ) (b : PlanBody) (x : Entry) (c : Bool) → nat_le (b.count + 1) 200000 ≡ c → GoodBody setup fs b → is_sound_entry setup fs x ≡ true → BodyOk setup fs (body_with_event n b x (cond c (Some (b.count + 1)) None))
unfolding BlockGood BodyOk
added_by setup fs n b x false e g s = tt
added_by setup fs n b x true e g s = record {
  items = λ none.
      let q = none_first b.fault n x.fault none in
      all_more (is_item setup fs) b.items (One x.event) (g.items q.0) (sound_event setup fs x q.1 s);
  block = tt;
  count = weights_more b.items (One x.event) ∙ omega (arith, g.count);
  few = grind (arith, nat_tests, e);
}

placed_good : (setup : Setup) (fs : List Function) (n : ℕ) (b : PlanBody) (o : Option RepeatBlock) (x : Entry) → GoodBody setup fs b → BlockGood setup fs b.fault o → is_sound_entry setup fs x ≡ true → BodyOk setup fs (body_with_entry n b o x)
unfolding BlockGood BodyOk
placed_good setup fs n b (Some block) x g h s = record {
  items = λ none. g.items ((none_first b.fault n x.fault none).0);
  block = (
    h.0,
    λ none.
        let q = none_first b.fault n x.fault none in
        all_more (is_event setup fs) block.events x.event (h.1 q.0) (sound_event setup fs x q.1 s),
  );
  count = g.count;
  few = g.few;
}
placed_good setup fs n b None x g h s = added_by setup fs n b x (nat_le (b.count + 1) 200000) refl g s

heard_good : (setup : Setup) (fs : List Function) (n : ℕ) (b : PlanBody) (o : Option (Checked Entry)) → GoodBody setup fs b → IfLineValid (is_sound_entry setup fs) o → BodyOk setup fs (body_with_found n b o)
unfolding BodyOk
heard_good setup fs n b None g s = tt
heard_good setup fs n b (Some r.OutOfRange) g s = tt
heard_good setup fs n b (Some r.TooDeep) g s = tt
heard_good setup fs n b (Some (r.Valid x)) g s = placed_good setup fs n b b.block x g g.block s

worded_by : (setup : Setup) (fs : List Function) (n : ℕ) (x : List ℕ) (ts : List Token) (b : PlanBody) (c : Bool) → GoodBody setup fs b → BodyOk setup fs (cond c (body_with_repeat b (times_of ts)) (body_with_found n b (entry_of_word setup fs x ts)))
worded_by setup fs n x ts b true g = opened_good setup fs b (times_of ts) g (times_good ts)
worded_by setup fs n x ts b false g = heard_good setup fs n b (entry_of_word setup fs x ts) g (entry_of_word_in_range setup fs x ts)

body_good : (setup : Setup) (fs : List Function) (n : ℕ) (ts : List Token) (b : PlanBody) → GoodBody setup fs b → BodyOk setup fs (body_line setup fs n ts b)
unfolding BodyOk
body_good setup fs n (t.Name x ∷ ts) b g = worded_by setup fs n x ts b (bytes_eq x (codes "repeat")) g
body_good setup fs n (t.Keyword k.End ∷ ts) b g = closed_body setup fs b b.block ts g g.block
body_good setup fs n _ b g = tt

-- Plans. A body has no event until the head has ended.
BodyAt : Bool → Setup → List Function → PlanBody → Type 0
BodyAt true setup fs b = GoodBody setup fs b
BodyAt false setup fs b = b ≡ empty_body

pub record PlanInLimits (d : PlanDraft) : Type 0 where
  pub head : HeadInLimits d.head
  body : BodyAt (has_ended d.head.expected) d.head.setup d.head.draft.functions d.body

no_body_at : (c : Bool) (setup : Setup) (fs : List Function) (b : PlanBody) → b ≡ empty_body → BodyAt c setup fs b
unfolding BodyAt
no_body_at true setup fs b e = let P : PlanBody → Type 0 = λ x. GoodBody setup fs x in subst P (sym e) (no_body_good setup fs)
no_body_at false setup fs b e = e

headed_good : (d : PlanDraft) (o : Result Head Kind) → d.body ≡ empty_body → HeadOk o → IfOk (with_head d o) PlanInLimits
headed_good d (Err k) e h = tt
headed_good d (Ok h) e g = record { head = g; body = no_body_at (has_ended h.expected) h.setup h.draft.functions d.body e }

bodied_good : (d : PlanDraft) (o : Result PlanBody Kind) → has_ended d.head.expected ≡ true → HeadInLimits d.head → BodyOk d.head.setup d.head.draft.functions o → IfOk (with_body d o) PlanInLimits
unfolding BodyAt BodyOk
bodied_good d (Err k) e g h = tt
bodied_good d (Ok b) e g h = record {
  head = g;
  body = let P : Bool → Type 0 = λ c. BodyAt c d.head.setup d.head.draft.functions b in subst P (sym e) h;
}

plan_step : (n : ℕ) (ts : List Token) (d : PlanDraft) (c : Bool) → has_ended d.head.expected ≡ c → NamesValid ts → HeadInLimits d.head → BodyAt c d.head.setup d.head.draft.functions d.body → IfOk (plan_part_line n ts d c) PlanInLimits
unfolding BodyAt
plan_step n ts d false e t g h = headed_good d (head_line (codes "events") n ts d.head) h (expected_line_in_limits (codes "events") n ts d.head d.head.expected t g)
plan_step n ts d true e t g h = bodied_good d (body_line d.head.setup d.head.draft.functions n ts d.body) e g (body_good d.head.setup d.head.draft.functions n ts d.body h)

plan_keeps : Keeps PlanInLimits plan_line
plan_keeps n ts d t c g = plan_step n ts d (has_ended d.head.expected) refl t g.head g.body

abbrev pub FoundInLimits : Result (ℕ × PlanDraft) TextFault → Type 0
FoundInLimits o = IfOk o (λ p. PlanInLimits p.1)

-- the end
pub few_functions : (n : ℕ) (s : Stage) → StageInLimits n s → n ≤ 256
unfolding StageInLimits
few_functions n Between h = h
few_functions n (Inside f m bs) h = omega (arith, h.0)

pub none_or : (a b : Option (ℕ × Kind)) → fault_or_else a b ≡ None → (a ≡ None) × (b ≡ None)
none_or (Some f) b e = absurd (cc)
none_or None b e = (refl, e)

made_good : (h : Head) (b : PlanBody) → HeadInLimits h → GoodBody h.setup h.draft.functions b → head_fault h b.fault ≡ None → is_plan (plan_of_parts h b.items) ≡ true
made_good h b g w e =
    let p = none_or (objects_fault [] h.objects h.lines 0) (fault_or_else (name_fault h.draft.functions h.draft.line_numbers) b.fault) e in
    let q = none_or (name_fault h.draft.functions h.draft.line_numbers) b.fault p.1 in
    let objects : are_objects h.objects ≡ true = both_true (distinct (map (λ o. o.0) h.objects)) (list_all object_test h.objects) (passed [] h.objects h.lines 0 None refl p.0 refl) g.objects in
    let functions = functions_pass h.draft.functions h.draft.line_numbers g.draft.functions (few_functions (length h.draft.functions) h.draft.stage g.draft.stage) q.0 in
    let few : nat_le (total_events b.items) 200000 ≡ true = grind (arith, nat_tests, w.count, w.few) in
    both_true (((is_setup h.setup && are_objects h.objects) && is_program (record { functions = h.draft.functions })) && list_all (is_item h.setup h.draft.functions) b.items) (nat_le (total_events b.items) 200000)
    (both_true ((is_setup h.setup && are_objects h.objects) && is_program (record { functions = h.draft.functions })) (list_all (is_item h.setup h.draft.functions) b.items)
    (both_true (is_setup h.setup && are_objects h.objects) (is_program (record { functions = h.draft.functions })) (both_true (is_setup h.setup) (are_objects h.objects) g.setup objects) functions) (w.items q.1)) few

abbrev PlanOk : Result Plan TextFault → Type 0
PlanOk o = IfOk o (λ p. is_plan p ≡ true)

named_good : (h : Head) (b : PlanBody) (o : Option (ℕ × Kind)) → head_fault h b.fault ≡ o → HeadInLimits h → GoodBody h.setup h.draft.functions b → PlanOk (plan_or_fault h b.items o)
named_good h b None e g w = made_good h b g w e
named_good h b (Some fault) e g w = tt

stopped_good : (n : ℕ) (h : Head) (b : PlanBody) (c : Bool) (o : Option RepeatBlock) → HeadInLimits h → BodyAt c h.setup h.draft.functions b → PlanOk (plan_if_whole n h b.items b.fault c o)
unfolding BodyAt
stopped_good n h b true None g w = named_good h b (head_fault h b.fault) refl g w
stopped_good n h b true (Some block) g w = tt
stopped_good n h b false o g w = tt

finished_good : (o : Result (ℕ × PlanDraft) TextFault) → FoundInLimits o → PlanOk (plan_of_scan o)
finished_good (Err f) h = tt
finished_good (Ok p) h = stopped_good p.0 p.1.head p.1.body (has_ended p.1.head.expected) p.1.body.block h.head h.body

no_plan_good : PlanInLimits empty_plan_draft
no_plan_good = record { head = empty_head_in_limits; body = no_body_at false empty_head.setup empty_head.draft.functions empty_body refl }

pub scan_in_limits : (text : List ℕ) → FoundInLimits (scan_lines plan_line 65536 1 text empty_plan_draft)
scan_in_limits text = kept PlanInLimits plan_line plan_keeps 65536 1 text empty_plan_draft no_plan_good

plan_in_good : (text : List ℕ) → PlanOk (plan_of_lines text)
plan_in_good text = finished_good (scan_lines plan_line 65536 1 text empty_plan_draft) (scan_in_limits text)

limited : (text : List ℕ) (c : Bool) → PlanOk (cond c (Err (refused_at 0 kind.Length)) (plan_of_lines text))
limited text true = tt
limited text false = plan_in_good text

pub parsed_plan_is_plan : (text : List ℕ) (p : Plan) → plan_of text ≡ Ok p → is_plan p ≡ true
parsed_plan_is_plan text p e =
    let P : Result Plan TextFault → Type 0 = λ o. PlanOk o in
    subst P e (limited text (nat_lt 1048576 (length text)))
