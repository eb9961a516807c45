-- The printed line of an event is read again as the event.
use Rattle.std.proofs.Common.{◌≡◌, ℕ, zero, suc, ◌+◌, ◌-◌, ◌<◌, ◌≤◌, ◌^◌, Bool, true, false, cond, List, [], ◌∷◌, ◌++◌, length, map, Option, Some, None, option_map, unwrap_or, refl, sym, ap, ◌∙◌, subst, arith}
use Rattle.std.specs.Prelude.{◌&&◌, ◌==◌, not, option_and_then, bytes_eq, codes, nat_lt, nat_le}
use Rattle.std.specs.List.{list_all}
use Rattle.std.specs.Fmt.{decimal}
use Rattle.std.proofs.lemmas.Bool.Decides.{nat_tests}
use Rattle.std.proofs.lemmas.List.{append-nil}
use Rattle.std.proofs.lemmas.Slice.Eq.{bytes_eq-Decides}
use Rattle.lb_base.specs.declared.value.Mode.{Mode}
use Rattle.lb_base.specs.declared.value.Mode.TheVariants as mode
use Rattle.lb_base.specs.declared.value.Tag.{Tag}
use Rattle.lb_base.specs.declared.value.Value.{Value}
use Rattle.lb_base.specs.Path.{is_path, is_request}
use Rattle.lb_base.specs.Print.{path_text, value_text}
use Rattle.lb_base.specs.Quoted.{quoted}
use Rattle.boki_types.specs.declared.event.Event.{Event}
use Rattle.boki_types.specs.declared.event.Event.TheVariants as e
use Rattle.boki_types.specs.declared.kind.Kind.{Kind}
use Rattle.boki_types.specs.declared.kind.Kind.TheVariants as kind
use Rattle.boki_types.specs.declared.plan.Setup.{Setup}
use Rattle.boki_types.specs.declared.program.Function.{Function}
use Rattle.boki_types.specs.Finding.{find, function_at}
use Rattle.boki_model.specs.Maps.{has}
use Rattle.boki_model.specs.Bodies.{is_short_list, has_identifier_characters, is_identifier, is_value, is_target}
use Rattle.boki_model.specs.Bodies.{is_u64}
use Rattle.boki_model.specs.Plans.{in_bounds, is_setup, is_from_one_to, is_attempt, is_user_tag, are_user_tags, is_text, has_arity, function_names, distinct, is_function, is_program, is_event}
use Rattle.line_text.specs.declared.token.Token.{Token}
use Rattle.line_text.specs.declared.token.Token.TheVariants as t
use Rattle.line_text.specs.declared.checked.Checked.{Checked}
use Rattle.line_text.specs.declared.checked.Checked.TheVariants as r
use Rattle.script_lang.specs.Names.{call_fault}
use Rattle.script_lang.specs.Printed.{comma_joined}
use Rattle.line_text.specs.Stream.{found_before}
use Rattle.line_text.specs.Tokens.{word_token, keyword_of, tokens_in}
use Rattle.line_text.specs.Checks.{both_checked, map_checked, checked_if}
use Rattle.line_text.specs.Readers.{if_at_end}
use Rattle.script_lang.proofs.ExprTextLexes.{Lexes}
use Rattle.script_lang.proofs.StmtTokensParseBack.{list_tokens}
use Rattle.plan_lang.specs.declared.events.Entry.{Entry}
use Rattle.plan_lang.specs.Events.{verb_of, engine_event_of, attempt_event_of, tag_event_of, copy_of, start_of, switch_of, append_of, cond_of, tail_of, settled_of, set_aux_of, get_aux_of, seed_of, submit_entry, submit_of, entry_without_call, entry_of_event, event_of_verb, entry_of_word, entry_of}
use Rattle.line_text.specs.Fields.{number_in_range, number_at, short_text_at, path_at, sent_position_of, tags_at}
use Rattle.plan_lang.specs.Printed.{function_name_at, one_number_text, two_number_text, three_number_text, event_text, tags_text}
use Rattle.line_text.proofs.FieldsInRange.{both_true, split_true}
use Rattle.plan_lang.proofs.PlansInLimits.{not_true, split_or}
use Rattle.plan_lang.proofs.ObjectLemmas.{flip}
use Rattle.plan_lang.proofs.PathsParseBack.{small, numbers_parse_back, path_token, path_lexed, path_small, path_parses_back}
use Rattle.plan_lang.proofs.FieldTextLexes.{Cuts, whole, number_piece, text_piece, spaced, behind_word, word_piece, tag_token, tags_piece, call_tokens, call_piece}
use Rattle.plan_lang.proofs.FieldsParseBack.{tags_parse_back, call_parses_back, word_flag}

-- The line of an event without a call is read again as this event.
abbrev pub ParsesBack : Setup → List Function → Event → Type 0
ParsesBack setup fs x = option_and_then (entry_of setup fs) (tokens_in (event_text fs x)) ≡ Some (r.Valid (entry_without_call x))

again : (setup : Setup) (fs : List Function) (text : List ℕ) (us : List Token) (found : Option (Checked Entry)) → Cuts text us → entry_of setup fs us ≡ found → option_and_then (entry_of setup fs) (tokens_in text) ≡ found
again setup fs text us found l h = ap (option_and_then (entry_of setup fs)) (whole text us l) ∙ h

-- Fields in range.
pub one_fine : {A D : Type 0} (f : A → D) (a : A) (x : Bool) → x ≡ true → map_checked f (checked_if x a) ≡ r.Valid (f a)
one_fine f a x h = rw h refl

pub two_fine : {A B D : Type 0} (f : A × B → D) (a : A) (b : B) (x y : Bool) → x ≡ true → y ≡ true → map_checked f (both_checked (checked_if x a) (checked_if y b)) ≡ r.Valid (f (a, b))
two_fine f a b x y h k = rw (h, k) refl

three_fine : {A B C D : Type 0} (f : (A × B) × C → D) (a : A) (b : B) (c : C) (x y z : Bool) → x ≡ true → y ≡ true → z ≡ true → map_checked f (both_checked (both_checked (checked_if x a) (checked_if y b)) (checked_if z c)) ≡ r.Valid (f ((a, b), c))
three_fine f a b c x y z h k l = rw (h, k, l) refl

-- Numbers of 64 bits.
low_word : (n : ℕ) → is_u64 n ≡ true → n < 2 ^ 64
low_word n h = grind (arith, nat_tests, h)

low_tag : (tag : Tag) → is_user_tag tag ≡ true → tag.0 < 2 ^ 64
low_tag tag h = grind (arith, nat_tests, h)

low_attempt : (n : ℕ) → is_attempt n ≡ true → n < 2 ^ 64
low_attempt n h = grind (arith, nat_tests, h)

pub low_request : (n : ℕ) → is_request n ≡ true → n < 2 ^ 64
low_request n h = grind (arith, nat_tests, h)

pub request_flag : (n : ℕ) → is_request n ≡ true → in_bounds 1 1048575 n ≡ true
request_flag n h = grind (arith, nat_tests, h)

pub record Small (setup : Setup) : Type 0 where
  pub shards : setup.shards ≤ 16
  pub replicas : setup.replicas ≤ 5
  pub engines : setup.engines ≤ 16

at_most : (low high n : ℕ) → in_bounds low high n ≡ true → n ≤ high
at_most low high n h = grind (arith, nat_tests, h)

low_by : (low high n most : ℕ) → most < 2 ^ 64 → high ≤ most → in_bounds low high n ≡ true → n < 2 ^ 64
low_by low high n most l k h = let u = at_most low high n h in omega arith

pub small_setup : (setup : Setup) → is_setup setup ≡ true → Small setup
small_setup setup h =
    let a = split_true _ _ h in
    let b = split_true _ _ a.0 in
    let c = split_true (in_bounds 1 16 setup.shards && in_bounds 1 5 setup.replicas) (in_bounds 1 16 setup.engines) b.0 in
    let d = split_true (in_bounds 1 16 setup.shards) (in_bounds 1 5 setup.replicas) c.0 in record {
      shards = at_most 1 16 setup.shards d.0;
      replicas = at_most 1 5 setup.replicas d.1;
      engines = at_most 1 16 setup.engines c.1;
    }

low_engine : (setup : Setup) (n : ℕ) → Small setup → is_from_one_to setup.engines n ≡ true → n < 2 ^ 64
low_engine setup n s h = low_by 1 setup.engines n 16 (omega arith) s.engines h

-- One number, two, and three behind a word.
one_lexed : (w : List ℕ) (n : ℕ) → word_token w ≡ t.Name w → has_identifier_characters w ≡ true → n < 2 ^ 64 → Cuts (w ++ (32 ∷ decimal n)) (t.Name w ∷ t.Numeral (Some n) ∷ [])
one_lexed w n e i l = behind_word w (decimal n) _ e i (number_piece n l)

two_lexed : (w : List ℕ) (n m : ℕ) → word_token w ≡ t.Name w → has_identifier_characters w ≡ true → n < 2 ^ 64 → m < 2 ^ 64 → Cuts (w ++ (32 ∷ (decimal n ++ (32 ∷ decimal m)))) (t.Name w ∷ t.Numeral (Some n) ∷ t.Numeral (Some m) ∷ [])
two_lexed w n m e i l k =
    behind_word w _ _ e i (spaced (decimal n) (decimal m) (t.Numeral (Some n) ∷ []) (t.Numeral (Some m) ∷ []) (number_piece n l) (number_piece m k))

three_lexed : (w : List ℕ) (n m o : ℕ) → word_token w ≡ t.Name w → has_identifier_characters w ≡ true → n < 2 ^ 64 → m < 2 ^ 64 → o < 2 ^ 64 → Cuts (w ++ (32 ∷ (decimal n ++ (32 ∷ (decimal m ++ (32 ∷ decimal o)))))) (t.Name w ∷ t.Numeral (Some n) ∷ t.Numeral (Some m) ∷ t.Numeral (Some o) ∷ [])
three_lexed w n m o e i l k j =
    behind_word w _ _ e i (spaced (decimal n) (decimal m ++ (32 ∷ decimal o)) (t.Numeral (Some n) ∷ []) (t.Numeral (Some m) ∷ t.Numeral (Some o) ∷ []) (number_piece n l) (spaced (decimal m) (decimal o) (t.Numeral (Some m) ∷ []) (t.Numeral (Some o) ∷ []) (number_piece m k) (number_piece o j)))

-- Reading them.
engine_back : (setup : Setup) (make : ℕ → Event) (n : ℕ) → is_from_one_to setup.engines n ≡ true → engine_event_of make setup (t.Numeral (Some n) ∷ []) ≡ Some (r.Valid (make n))
engine_back setup make n h = ap (λ x. Some x) (one_fine make n (is_from_one_to setup.engines n) h)

attempt_back : (make : ℕ → Event) (n : ℕ) → is_attempt n ≡ true → attempt_event_of make (t.Numeral (Some n) ∷ []) ≡ Some (r.Valid (make n))
attempt_back make n h = ap (λ x. Some x) (one_fine make n (is_attempt n) h)

tag_event_back : (setup : Setup) (make : ℕ → Tag → ℕ → Event) (n : ℕ) (tag : Tag) (o : ℕ) → is_from_one_to setup.engines n ≡ true → is_user_tag tag ≡ true → is_u64 o ≡ true → tag_event_of make setup (t.Numeral (Some n) ∷ t.Numeral (Some tag.0) ∷ t.Numeral (Some o) ∷ []) ≡ Some (r.Valid (make n tag o))
tag_event_back setup make n tag o h k l =
    ap (λ x. Some x) (three_fine (λ (p : (ℕ × Tag) × ℕ). make p.0.0 p.0.1 p.1) n tag o (is_from_one_to setup.engines n) (is_user_tag tag) (in_bounds 0 (2 ^ 64 - 1) o) h k (word_flag o l))

-- Events of one number.
catch_again : (setup : Setup) (fs : List Function) (n : ℕ) → Small setup → is_from_one_to setup.engines n ≡ true → ParsesBack setup fs (e.Catch n)
unfolding word_token keyword_of verb_of
catch_again setup fs n s h = again setup fs _ _ _ (one_lexed (codes "catch") n refl refl (low_engine setup n s h)) (ap entry_of_event (engine_back setup (λ k. e.Catch k) n h))

restart_again : (setup : Setup) (fs : List Function) (n : ℕ) → Small setup → is_from_one_to setup.engines n ≡ true → ParsesBack setup fs (e.Restart n)
unfolding word_token keyword_of verb_of
restart_again setup fs n s h = again setup fs _ _ _ (one_lexed (codes "restart") n refl refl (low_engine setup n s h)) (ap entry_of_event (engine_back setup (λ k. e.Restart k) n h))

end_switch_again : (setup : Setup) (fs : List Function) (n : ℕ) → Small setup → is_from_one_to setup.engines n ≡ true → ParsesBack setup fs (e.EndSwitch n)
unfolding word_token keyword_of verb_of
end_switch_again setup fs n s h = again setup fs _ _ _ (one_lexed (codes "endswitch") n refl refl (low_engine setup n s h)) (ap entry_of_event (engine_back setup (λ k. e.EndSwitch k) n h))

trim_again : (setup : Setup) (fs : List Function) (n : ℕ) → Small setup → is_from_one_to setup.engines n ≡ true → ParsesBack setup fs (e.Trim n)
unfolding word_token keyword_of verb_of
trim_again setup fs n s h = again setup fs _ _ _ (one_lexed (codes "trim") n refl refl (low_engine setup n s h)) (ap entry_of_event (engine_back setup (λ k. e.Trim k) n h))

sweep_again : (setup : Setup) (fs : List Function) (n : ℕ) → Small setup → is_from_one_to setup.engines n ≡ true → ParsesBack setup fs (e.Sweep n)
unfolding word_token keyword_of verb_of
sweep_again setup fs n s h = again setup fs _ _ _ (one_lexed (codes "sweep") n refl refl (low_engine setup n s h)) (ap entry_of_event (engine_back setup (λ k. e.Sweep k) n h))

step_again : (setup : Setup) (fs : List Function) (n : ℕ) → is_attempt n ≡ true → ParsesBack setup fs (e.Step n)
unfolding word_token keyword_of verb_of
step_again setup fs n h = again setup fs _ _ _ (one_lexed (codes "step") n refl refl (low_attempt n h)) (ap entry_of_event (attempt_back (λ k. e.Step k) n h))

kill_again : (setup : Setup) (fs : List Function) (n : ℕ) → is_attempt n ≡ true → ParsesBack setup fs (e.Kill n)
unfolding word_token keyword_of verb_of
kill_again setup fs n h = again setup fs _ _ _ (one_lexed (codes "kill") n refl refl (low_attempt n h)) (ap entry_of_event (attempt_back (λ k. e.Kill k) n h))

lose_again : (setup : Setup) (fs : List Function) (n : ℕ) → is_attempt n ≡ true → ParsesBack setup fs (e.Lose n)
unfolding word_token keyword_of verb_of
lose_again setup fs n h = again setup fs _ _ _ (one_lexed (codes "lose") n refl refl (low_attempt n h)) (ap entry_of_event (attempt_back (λ k. e.Lose k) n h))

miss_again : (setup : Setup) (fs : List Function) (n : ℕ) → is_attempt n ≡ true → ParsesBack setup fs (e.Miss n)
unfolding word_token keyword_of verb_of
miss_again setup fs n h = again setup fs _ _ _ (one_lexed (codes "miss") n refl refl (low_attempt n h)) (ap entry_of_event (attempt_back (λ k. e.Miss k) n h))

seed_again : (setup : Setup) (fs : List Function) (n : ℕ) → is_u64 n ≡ true → ParsesBack setup fs (e.Seed n)
unfolding word_token keyword_of verb_of
seed_again setup fs n h = again setup fs _ _ _ (one_lexed (codes "seed") n refl refl (low_word n h)) (ap (λ x. entry_of_event (Some x)) (one_fine (λ k. e.Seed k) n (in_bounds 0 (2 ^ 64 - 1) n) (word_flag n h)))

cut_again : (setup : Setup) (fs : List Function) → ParsesBack setup fs e.Cut
unfolding word_token keyword_of verb_of
cut_again setup fs = again setup fs _ _ _ (word_piece (codes "cut") refl refl) refl

sync_again : (setup : Setup) (fs : List Function) → ParsesBack setup fs e.Sync
unfolding word_token keyword_of verb_of
sync_again setup fs = again setup fs _ _ _ (word_piece (codes "sync") refl refl) refl

-- Events of two and three numbers.
copy_again : (setup : Setup) (fs : List Function) (shard replica n : ℕ) → Small setup → in_bounds 1 setup.shards shard ≡ true → in_bounds 2 setup.replicas replica ≡ true → is_u64 n ≡ true → ParsesBack setup fs (e.Copy shard replica n)
unfolding word_token keyword_of verb_of
copy_again setup fs shard replica n s h k l =
    again setup fs _ _ _ (three_lexed (codes "copy") shard replica n refl refl (low_by 1 setup.shards shard 16 (omega arith) s.shards h) (low_by 2 setup.replicas replica 5 (omega arith) s.replicas k) (low_word n l))
    (ap (λ x. entry_of_event (Some x)) (three_fine (λ (p : (ℕ × ℕ) × ℕ). e.Copy p.0.0 p.0.1 p.1) shard replica n (in_bounds 1 setup.shards shard) (in_bounds 2 setup.replicas replica) (in_bounds 0 (2 ^ 64 - 1) n) h k (word_flag n l)))

next_again : (setup : Setup) (fs : List Function) (n : ℕ) (tag : Tag) (o : ℕ) → Small setup → is_from_one_to setup.engines n ≡ true → is_user_tag tag ≡ true → is_u64 o ≡ true → ParsesBack setup fs (e.Next n tag (record { 0 = o }))
unfolding word_token keyword_of verb_of
next_again setup fs n tag o s h k l =
    again setup fs _ _ _ (three_lexed (codes "next") n tag.0 o refl refl (low_engine setup n s h) (low_tag tag k) (low_word o l)) (ap entry_of_event (tag_event_back setup (λ a b c. e.Next a b (record { 0 = c })) n tag o h k l))

prev_again : (setup : Setup) (fs : List Function) (n : ℕ) (tag : Tag) (o : ℕ) → Small setup → is_from_one_to setup.engines n ≡ true → is_user_tag tag ≡ true → is_u64 o ≡ true → ParsesBack setup fs (e.Prev n tag (record { 0 = o }))
unfolding word_token keyword_of verb_of
prev_again setup fs n tag o s h k l =
    again setup fs _ _ _ (three_lexed (codes "prev") n tag.0 o refl refl (low_engine setup n s h) (low_tag tag k) (low_word o l)) (ap entry_of_event (tag_event_back setup (λ a b c. e.Prev a b (record { 0 = c })) n tag o h k l))

trim_tag_again : (setup : Setup) (fs : List Function) (n : ℕ) (tag : Tag) (o : ℕ) → Small setup → is_from_one_to setup.engines n ≡ true → is_user_tag tag ≡ true → is_u64 o ≡ true → ParsesBack setup fs (e.TrimTag n tag (record { 0 = o }))
unfolding word_token keyword_of verb_of
trim_tag_again setup fs n tag o s h k l =
    again setup fs _ _ _ (three_lexed (codes "trimtag") n tag.0 o refl refl (low_engine setup n s h) (low_tag tag k) (low_word o l)) (ap entry_of_event (tag_event_back setup (λ a b c. e.TrimTag a b (record { 0 = c })) n tag o h k l))

tail_again : (setup : Setup) (fs : List Function) (n : ℕ) (tag : Tag) → Small setup → is_from_one_to setup.engines n ≡ true → is_user_tag tag ≡ true → ParsesBack setup fs (e.Tail n tag)
unfolding word_token keyword_of verb_of
tail_again setup fs n tag s h k =
    again setup fs _ _ _ (two_lexed (codes "tail") n tag.0 refl refl (low_engine setup n s h) (low_tag tag k))
    (ap (λ x. entry_of_event (Some x)) (two_fine (λ (p : ℕ × Tag). e.Tail p.0 p.1) n tag (is_from_one_to setup.engines n) (is_user_tag tag) h k))

get_aux_again : (setup : Setup) (fs : List Function) (n o : ℕ) → Small setup → is_from_one_to setup.engines n ≡ true → is_u64 o ≡ true → ParsesBack setup fs (e.GetAux n (record { 0 = o }))
unfolding word_token keyword_of verb_of
get_aux_again setup fs n o s h l =
    again setup fs _ _ _ (two_lexed (codes "getaux") n o refl refl (low_engine setup n s h) (low_word o l))
    (ap (λ x. entry_of_event (Some x)) (two_fine (λ (p : ℕ × ℕ). e.GetAux p.0 (record { 0 = p.1 })) n o (is_from_one_to setup.engines n) (in_bounds 0 (2 ^ 64 - 1) o) h (word_flag o l)))

-- A mode.
switch_r : (setup : Setup) (fs : List Function) (n : ℕ) → Small setup → is_from_one_to setup.engines n ≡ true → ParsesBack setup fs (e.Switch n mode.R)
unfolding word_token keyword_of verb_of
switch_r setup fs n s h =
    again setup fs _ (t.Name (codes "switch") ∷ t.Numeral (Some n) ∷ t.Name (codes "R") ∷ []) _ (behind_word (codes "switch") (decimal n ++ (32 ∷ codes "R")) _ refl refl (spaced (decimal n) (codes "R") (t.Numeral (Some n) ∷ []) (t.Name (codes "R") ∷ []) (number_piece n (low_engine setup n s h)) (word_piece (codes "R") refl refl)))
    (ap (λ x. entry_of_event (Some x)) (one_fine (λ (k : ℕ). e.Switch k mode.R) n (is_from_one_to setup.engines n) h))

switch_w : (setup : Setup) (fs : List Function) (n : ℕ) → Small setup → is_from_one_to setup.engines n ≡ true → ParsesBack setup fs (e.Switch n mode.W)
unfolding word_token keyword_of verb_of
switch_w setup fs n s h =
    again setup fs _ (t.Name (codes "switch") ∷ t.Numeral (Some n) ∷ t.Name (codes "W") ∷ []) _ (behind_word (codes "switch") (decimal n ++ (32 ∷ codes "W")) _ refl refl (spaced (decimal n) (codes "W") (t.Numeral (Some n) ∷ []) (t.Name (codes "W") ∷ []) (number_piece n (low_engine setup n s h)) (word_piece (codes "W") refl refl)))
    (ap (λ x. entry_of_event (Some x)) (one_fine (λ (k : ℕ). e.Switch k mode.W) n (is_from_one_to setup.engines n) h))

switch_again : (setup : Setup) (fs : List Function) (n : ℕ) (target : Mode) → Small setup → is_from_one_to setup.engines n ≡ true → is_target target ≡ true → ParsesBack setup fs (e.Switch n target)
switch_again setup fs n mode.R s h k = switch_r setup fs n s h
switch_again setup fs n mode.W s h k = switch_w setup fs n s h
switch_again setup fs n mode.T s h k = absurd (cc)

-- A path.
start_by : (setup : Setup) (attempt engine : ℕ) (path : List ℕ) → is_attempt attempt ≡ true → is_path path ≡ true → is_from_one_to setup.engines engine ≡ true → start_of setup (t.Numeral (Some attempt) ∷ path_token path ∷ t.Numeral (Some engine) ∷ []) ≡ Some (r.Valid (e.Start attempt path engine))
start_by setup attempt engine path h k l =
    ap (λ (o : Option (Checked (List ℕ) × List Token)). option_and_then (λ (p : Checked (List ℕ) × List Token). option_and_then (λ (x : Checked ℕ × List Token). if_at_end x.1 (map_checked (λ (q : (ℕ × List ℕ) × ℕ). e.Start q.0.0 q.0.1 q.1) (both_checked (both_checked (number_in_range 1 4096 (Some attempt)) p.0) x.0))) (number_at 1 setup.engines p.1)) o) (path_parses_back path (t.Numeral (Some engine) ∷ []) k)
    ∙ ap (λ x. Some x) (three_fine (λ (q : (ℕ × List ℕ) × ℕ). e.Start q.0.0 q.0.1 q.1) attempt path engine (is_attempt attempt) true (is_from_one_to setup.engines engine) h refl l)

start_again : (setup : Setup) (fs : List Function) (attempt engine : ℕ) (path : List ℕ) → Small setup → is_attempt attempt ≡ true → is_path path ≡ true → is_from_one_to setup.engines engine ≡ true → ParsesBack setup fs (e.Start attempt path engine)
unfolding word_token keyword_of verb_of
start_again setup fs attempt engine path s h k l =
    let p = path_small path k in
    again setup fs _ (t.Name (codes "start") ∷ t.Numeral (Some attempt) ∷ path_token path ∷ t.Numeral (Some engine) ∷ []) _ (behind_word (codes "start") (decimal attempt ++ (32 ∷ (path_text path ++ (32 ∷ decimal engine)))) _ refl refl
    (spaced (decimal attempt) (path_text path ++ (32 ∷ decimal engine)) (t.Numeral (Some attempt) ∷ []) (path_token path ∷ t.Numeral (Some engine) ∷ []) (number_piece attempt (low_attempt attempt h))
    (spaced (path_text path) (decimal engine) (path_token path ∷ []) (t.Numeral (Some engine) ∷ []) (record { cut = path_lexed path p.0 p.1 }) (number_piece engine (low_engine setup engine s l)))))
    (ap entry_of_event (start_by setup attempt engine path h k l))

-- Texts, with tags or without.
set_aux_again : (setup : Setup) (fs : List Function) (n o : ℕ) (text : List ℕ) → Small setup → is_from_one_to setup.engines n ≡ true → is_u64 o ≡ true → is_text text ≡ true → ParsesBack setup fs (e.SetAux n (record { 0 = o }) text)
unfolding word_token keyword_of verb_of
set_aux_again setup fs n o text s h l x =
    again setup fs _ (t.Name (codes "setaux") ∷ t.Numeral (Some n) ∷ t.Numeral (Some o) ∷ t.Text text ∷ []) _ (behind_word (codes "setaux") (decimal n ++ (32 ∷ (decimal o ++ (32 ∷ quoted text)))) _ refl refl
    (spaced (decimal n) (decimal o ++ (32 ∷ quoted text)) (t.Numeral (Some n) ∷ []) (t.Numeral (Some o) ∷ t.Text text ∷ []) (number_piece n (low_engine setup n s h))
    (spaced (decimal o) (quoted text) (t.Numeral (Some o) ∷ []) (t.Text text ∷ []) (number_piece o (low_word o l)) (text_piece text x))))
    (ap (λ y. entry_of_event (Some y)) (three_fine (λ (p : (ℕ × ℕ) × List ℕ). e.SetAux p.0.0 (record { 0 = p.0.1 }) p.1) n o text (is_from_one_to setup.engines n) (in_bounds 0 (2 ^ 64 - 1) o) (is_text text) h (word_flag o l) x))

append_by : (setup : Setup) (n : ℕ) (tags : List Tag) (text : List ℕ) → is_from_one_to setup.engines n ≡ true → are_user_tags tags ≡ true → is_text text ≡ true → append_of setup (t.Numeral (Some n) ∷ (list_tokens tag_token tags ++ t.Text text ∷ [])) ≡ Some (r.Valid (e.Append n tags text))
append_by setup n tags text h k x =
    ap (λ (o : Option (Checked (List Tag) × List Token)). option_and_then (λ (p : Checked (List Tag) × List Token). option_and_then (λ (y : Checked (List ℕ) × List Token). if_at_end y.1 (map_checked (λ (q : (ℕ × List Tag) × List ℕ). e.Append q.0.0 q.0.1 q.1) (both_checked (both_checked (number_in_range 1 setup.engines (Some n)) p.0) y.0))) (short_text_at p.1)) o) (tags_parse_back tags (t.Text text ∷ []) k refl)
    ∙ ap (λ y. Some y) (three_fine (λ (q : (ℕ × List Tag) × List ℕ). e.Append q.0.0 q.0.1 q.1) n tags text (is_from_one_to setup.engines n) true (is_text text) h refl x)

append_again : (setup : Setup) (fs : List Function) (n : ℕ) (tags : List Tag) (text : List ℕ) → Small setup → is_from_one_to setup.engines n ≡ true → are_user_tags tags ≡ true → is_text text ≡ true → ParsesBack setup fs (e.Append n tags text)
unfolding word_token keyword_of verb_of
append_again setup fs n tags text s h k x =
    let g = (split_true (in_bounds 1 8 (length tags)) (list_all is_user_tag tags) k).1 in
    again setup fs _ (t.Name (codes "append") ∷ t.Numeral (Some n) ∷ (list_tokens tag_token tags ++ t.Text text ∷ [])) _ (behind_word (codes "append") (decimal n ++ (32 ∷ (tags_text tags ++ (32 ∷ quoted text)))) _ refl refl
    (spaced (decimal n) (tags_text tags ++ (32 ∷ quoted text)) (t.Numeral (Some n) ∷ []) (list_tokens tag_token tags ++ t.Text text ∷ []) (number_piece n (low_engine setup n s h))
    (spaced (tags_text tags) (quoted text) (list_tokens tag_token tags) (t.Text text ∷ []) (tags_piece tags g) (text_piece text x))))
    (ap entry_of_event (append_by setup n tags text h k x))

four_fine : {A B C D E : Type 0} (f : (A × B) × (C × D) → E) (a : A) (b : B) (c : C) (d : D) (x y z w : Bool) → x ≡ true → y ≡ true → z ≡ true → w ≡ true → map_checked f (both_checked (both_checked (checked_if x a) (checked_if y b)) (both_checked (checked_if z c) (checked_if w d))) ≡ r.Valid (f ((a, b), (c, d)))
four_fine f a b c d x y z w h k l j = rw (h, k, l, j) refl

cond_by : (setup : Setup) (n o : ℕ) (tags : List Tag) (text : List ℕ) → is_from_one_to setup.engines n ≡ true → is_u64 o ≡ true → are_user_tags tags ≡ true → is_text text ≡ true → cond_of setup (t.Numeral (Some n) ∷ t.Numeral (Some o) ∷ (list_tokens tag_token tags ++ t.Text text ∷ [])) ≡ Some (r.Valid (e.Cond n o tags text))
cond_by setup n o tags text h l k x =
    ap (λ (u : Option (Checked (List Tag) × List Token)). option_and_then (λ (p : Checked (List Tag) × List Token). option_and_then (λ (y : Checked (List ℕ) × List Token). if_at_end y.1 (map_checked (λ (q : (ℕ × ℕ) × (List Tag × List ℕ)). e.Cond q.0.0 q.0.1 q.1.0 q.1.1) (both_checked (both_checked (number_in_range 1 setup.engines (Some n)) (number_in_range 0 (2 ^ 64 - 1) (Some o))) (both_checked p.0 y.0)))) (short_text_at p.1)) u) (tags_parse_back tags (t.Text text ∷ []) k refl)
    ∙ ap (λ y. Some y) (four_fine (λ (q : (ℕ × ℕ) × (List Tag × List ℕ)). e.Cond q.0.0 q.0.1 q.1.0 q.1.1) n o tags text (is_from_one_to setup.engines n) (in_bounds 0 (2 ^ 64 - 1) o) true (is_text text) h (word_flag o l) refl x)

cond_again : (setup : Setup) (fs : List Function) (n o : ℕ) (tags : List Tag) (text : List ℕ) → Small setup → is_from_one_to setup.engines n ≡ true → is_u64 o ≡ true → are_user_tags tags ≡ true → is_text text ≡ true → ParsesBack setup fs (e.Cond n o tags text)
unfolding word_token keyword_of verb_of
cond_again setup fs n o tags text s h l k x =
    let g = (split_true (in_bounds 1 8 (length tags)) (list_all is_user_tag tags) k).1 in
    again setup fs _ (t.Name (codes "cond") ∷ t.Numeral (Some n) ∷ t.Numeral (Some o) ∷ (list_tokens tag_token tags ++ t.Text text ∷ [])) _ (behind_word (codes "cond") (decimal n ++ (32 ∷ (decimal o ++ (32 ∷ (tags_text tags ++ (32 ∷ quoted text)))))) _ refl refl
    (spaced (decimal n) (decimal o ++ (32 ∷ (tags_text tags ++ (32 ∷ quoted text)))) (t.Numeral (Some n) ∷ []) (t.Numeral (Some o) ∷ (list_tokens tag_token tags ++ t.Text text ∷ [])) (number_piece n (low_engine setup n s h))
    (spaced (decimal o) (tags_text tags ++ (32 ∷ quoted text)) (t.Numeral (Some o) ∷ []) (list_tokens tag_token tags ++ t.Text text ∷ []) (number_piece o (low_word o l))
    (spaced (tags_text tags) (quoted text) (list_tokens tag_token tags) (t.Text text ∷ []) (tags_piece tags g) (text_piece text x)))))
    (ap entry_of_event (cond_by setup n o tags text h l k x))

-- A place in a shard.
nested_fine : {A B C D : Type 0} (f : A × (B × C) → D) (a : A) (b : B) (c : C) (x y z : Bool) → x ≡ true → y ≡ true → z ≡ true → map_checked f (both_checked (checked_if x a) (both_checked (checked_if y b) (checked_if z c))) ≡ r.Valid (f (a, (b, c)))
nested_fine f a b c x y z h k l = rw (h, k, l) refl

local_flag : (n : ℕ) → nat_le 1 n ≡ true → is_u64 n ≡ true → in_bounds 1 (2 ^ 64 - 1) n ≡ true
local_flag n h k = grind (arith, nat_tests, h, k)

word_of : (n : ℕ) → n < 2 ^ 64 → nat_lt n (2 ^ 64) ≡ true
word_of n h = grind (arith, nat_tests, h)

settled_by : (setup : Setup) (n shard local : ℕ) → is_from_one_to setup.engines n ≡ true → is_from_one_to setup.shards shard ≡ true → in_bounds 1 (2 ^ 64 - 1) local ≡ true → small (shard ∷ local ∷ []) ≡ true → settled_of setup (t.Numeral (Some n) ∷ t.Dotted (path_text (shard ∷ local ∷ [])) ∷ []) ≡ Some (r.Valid (e.Settled n shard local))
settled_by setup n shard local h k l low =
    ap (λ (o : Option (List (Option ℕ))). option_and_then (λ (p : Checked (ℕ × ℕ) × List Token). if_at_end p.1 (map_checked (λ (q : ℕ × (ℕ × ℕ)). e.Settled q.0 q.1.0 q.1.1) (both_checked (number_in_range 1 setup.engines (Some n)) p.0))) (found_before [] (option_and_then (sent_position_of setup.shards) o))) (numbers_parse_back shard (local ∷ []) low)
    ∙ ap (λ y. Some y) (nested_fine (λ (q : ℕ × (ℕ × ℕ)). e.Settled q.0 q.1.0 q.1.1) n shard local (is_from_one_to setup.engines n) (is_from_one_to setup.shards shard) (in_bounds 1 (2 ^ 64 - 1) local) h k l)

settled_again : (setup : Setup) (fs : List Function) (n shard local : ℕ) → Small setup → is_from_one_to setup.engines n ≡ true → is_from_one_to setup.shards shard ≡ true → nat_le 1 local ≡ true → is_u64 local ≡ true → ParsesBack setup fs (e.Settled n shard local)
unfolding word_token keyword_of verb_of
settled_again setup fs n shard local s h k l w =
    let shard_low = low_by 1 setup.shards shard 16 (omega arith) s.shards k in
    let low : small (shard ∷ local ∷ []) ≡ true = both_true (nat_lt shard (2 ^ 64)) (small (local ∷ [])) (word_of shard shard_low) (both_true (nat_lt local (2 ^ 64)) true w refl) in
    let same : path_text (shard ∷ local ∷ []) ≡ decimal shard ++ (46 ∷ decimal local) = ap (λ (x : List ℕ). decimal shard ++ (46 ∷ x)) (append-nil (decimal local)) in
    let P : List ℕ → Type 0 = λ x. Lexes x (t.Dotted (path_text (shard ∷ local ∷ [])) ∷ []) in
    let place : Cuts (decimal shard ++ (46 ∷ decimal local)) (t.Dotted (path_text (shard ∷ local ∷ [])) ∷ []) = record { cut = subst P same (path_lexed (shard ∷ local ∷ []) (omega arith) low) } in
    again setup fs _ (t.Name (codes "settled") ∷ t.Numeral (Some n) ∷ t.Dotted (path_text (shard ∷ local ∷ [])) ∷ []) _ (behind_word (codes "settled") (decimal n ++ (32 ∷ (decimal shard ++ (46 ∷ decimal local)))) _ refl refl
    (spaced (decimal n) (decimal shard ++ (46 ∷ decimal local)) (t.Numeral (Some n) ∷ []) (t.Dotted (path_text (shard ∷ local ∷ [])) ∷ []) (number_piece n (low_engine setup n s h)) place))
    (ap entry_of_event (settled_by setup n shard local h k (local_flag local l w) low))

-- A call: the function is found by its name.
same_name : (x : List ℕ) → bytes_eq x x ≡ true
same_name x = (bytes_eq-Decides x x).1 refl

pub record Known (fs : List Function) (f n : ℕ) : Type 0 where
  pub name : is_identifier (function_name_at fs f) ≡ true
  pub found : find (function_name_at fs f) fs ≡ Some f
  pub fault : call_fault fs (function_name_at fs f) n ≡ None

other_name : (fs : List Function) (f n : ℕ) (y : List ℕ) → has_arity n (function_at f fs) ≡ true → has y (function_names fs) ≡ false → bytes_eq (function_name_at fs f) y ≡ false
other_name [] f n y a h = absurd (cc)
other_name (g ∷ fs) zero n y a h = flip g.name y ∙ (split_or (bytes_eq y g.name) (has y (function_names fs)) h).0
other_name (g ∷ fs) (suc f) n y a h = other_name fs f n y a ((split_or (bytes_eq y g.name) (has y (function_names fs)) h).1)

pub known : (fs : List Function) (f n : ℕ) → distinct (function_names fs) ≡ true → list_all is_identifier (function_names fs) ≡ true → has_arity n (function_at f fs) ≡ true → Known fs f n
known [] f n d i a = absurd (cc)
known (g ∷ fs) zero n d i a = record {
  name = (split_true (is_identifier g.name) (list_all is_identifier (function_names fs)) i).0;
  found = ap (λ b. cond b (Some 0) (option_map suc (find g.name fs))) (same_name g.name);
  fault = ap (λ b. cond b (cond (n == length g.params) None (Some kind.Arity)) (call_fault fs g.name n)) (same_name g.name) ∙ ap (λ b. cond b None (Some kind.Arity)) a;
}
known (g ∷ fs) (suc f) n d i a =
    let q = known fs f n ((split_true (not (has g.name (function_names fs))) (distinct (function_names fs)) d).1) ((split_true (is_identifier g.name) (list_all is_identifier (function_names fs)) i).1) a in
    let no = other_name fs f n g.name a (not_true (has g.name (function_names fs)) ((split_true (not (has g.name (function_names fs))) (distinct (function_names fs)) d).0)) in record {
      name = q.name;
      found = ap (λ b. cond b (Some 0) (option_map suc (find (function_name_at fs f) fs))) no ∙ ap (option_map suc) q.found;
      fault = ap (λ b. cond b (cond (n == length g.params) None (Some kind.Arity)) (call_fault fs (function_name_at fs f) n)) no ∙ q.fault;
    }

submit_by : (setup : Setup) (fs : List Function) (n q f : ℕ) (args : List Value) → is_from_one_to setup.engines n ≡ true → is_request q ≡ true → list_all is_value args ≡ true → Known fs f (length args) → submit_of setup fs (t.Numeral (Some n) ∷ t.Numeral (Some q) ∷ call_tokens (function_name_at fs f) args) ≡ Some (r.Valid (entry_without_call (e.Submit n q f args)))
submit_by setup fs n q f args h k a w =
    let name = function_name_at fs f in
    ap (λ (o : Option (Checked (List ℕ × List Value) × List Token)). option_and_then (λ (c : Checked (List ℕ × List Value) × List Token). if_at_end c.1 (map_checked (submit_entry fs) (both_checked (both_checked (number_in_range 1 setup.engines (Some n)) (number_in_range 1 1048575 (Some q))) c.0))) o) (call_parses_back name args w.name a)
    ∙ ap (λ y. Some y) (three_fine (submit_entry fs) n q (name, args) (is_from_one_to setup.engines n) (in_bounds 1 1048575 q) true h (request_flag q k) refl)
    ∙ ap (λ (o : Option ℕ). Some (r.Valid (record { event = e.Submit n q (unwrap_or o 0) args; fault = call_fault fs name (length args) }))) w.found
    ∙ ap (λ (o : Option Kind). Some (r.Valid (record { event = e.Submit n q f args; fault = o }))) w.fault

submit_worded : (setup : Setup) (fs : List Function) (ts : List Token) → entry_of setup fs (t.Name (codes "submit") ∷ ts) ≡ submit_of setup fs ts
submit_worded setup fs ts = refl

submit_again : (setup : Setup) (fs : List Function) (n q f : ℕ) (args : List Value) → Small setup → is_from_one_to setup.engines n ≡ true → is_request q ≡ true → list_all is_value args ≡ true → Known fs f (length args) → ParsesBack setup fs (e.Submit n q f args)
unfolding word_token keyword_of
submit_again setup fs n q f args s h k a w =
    let name = function_name_at fs f in
    let call = name ++ (codes "(" ++ (comma_joined value_text args ++ codes ")")) in
    again setup fs _ (t.Name (codes "submit") ∷ t.Numeral (Some n) ∷ t.Numeral (Some q) ∷ call_tokens (function_name_at fs f) args) _ (behind_word (codes "submit") (decimal n ++ (32 ∷ (decimal q ++ (32 ∷ call)))) _ refl refl
    (spaced (decimal n) (decimal q ++ (32 ∷ call)) (t.Numeral (Some n) ∷ []) (t.Numeral (Some q) ∷ call_tokens (function_name_at fs f) args) (number_piece n (low_engine setup n s h))
    (spaced (decimal q) call (t.Numeral (Some q) ∷ []) (call_tokens (function_name_at fs f) args) (number_piece q (low_request q k)) (call_piece (function_name_at fs f) args w.name a))))
    (submit_by setup fs n q f args h k a w)

-- All events.
three_true : (a b c : Bool) → ((a && b) && c) ≡ true → (a ≡ true) × (b ≡ true) × (c ≡ true)
three_true a b c h = let q = split_true (a && b) c h in let p = split_true a b q.0 in (p.0, p.1, q.1)

four_true : (a b c d : Bool) → (((a && b) && c) && d) ≡ true → (a ≡ true) × (b ≡ true) × (c ≡ true) × (d ≡ true)
four_true a b c d h = let q = split_true ((a && b) && c) d h in let p = three_true a b c q.0 in (p.0, p.1, p.2, q.1)

pub event_parses_back : (setup : Setup) (fs : List Function) (x : Event) → Small setup → distinct (function_names fs) ≡ true → list_all is_identifier (function_names fs) ≡ true → is_event setup fs x ≡ true → ParsesBack setup fs x
event_parses_back setup fs (e.Submit n q f args) s d i h =
    let p = four_true _ _ _ _ h in submit_again setup fs n q f args s p.0 p.1 p.2 (known fs f (length args) d i p.3)
event_parses_back setup fs (e.Copy shard replica n) s d i h = let p = three_true _ _ _ h in copy_again setup fs shard replica n s p.0 p.1 p.2
event_parses_back setup fs e.Cut s d i h = cut_again setup fs
event_parses_back setup fs (e.Catch n) s d i h = catch_again setup fs n s h
event_parses_back setup fs e.Sync s d i h = sync_again setup fs
event_parses_back setup fs (e.Restart n) s d i h = restart_again setup fs n s h
event_parses_back setup fs (e.Start attempt path n) s d i h = let p = three_true _ _ _ h in start_again setup fs attempt n path s p.0 p.1 p.2
event_parses_back setup fs (e.Step n) s d i h = step_again setup fs n h
event_parses_back setup fs (e.Kill n) s d i h = kill_again setup fs n h
event_parses_back setup fs (e.Lose n) s d i h = lose_again setup fs n h
event_parses_back setup fs (e.Miss n) s d i h = miss_again setup fs n h
event_parses_back setup fs (e.Switch n target) s d i h = let p = split_true _ _ h in switch_again setup fs n target s p.0 p.1
event_parses_back setup fs (e.EndSwitch n) s d i h = end_switch_again setup fs n s h
event_parses_back setup fs (e.Trim n) s d i h = trim_again setup fs n s h
event_parses_back setup fs (e.Sweep n) s d i h = sweep_again setup fs n s h
event_parses_back setup fs (e.Append n tags text) s d i h = let p = three_true _ _ _ h in append_again setup fs n tags text s p.0 p.1 p.2
event_parses_back setup fs (e.Cond n o tags text) s d i h = let p = four_true _ _ _ _ h in cond_again setup fs n o tags text s p.0 p.1 p.2 p.3
event_parses_back setup fs (e.Next n tag o) s d i h = let p = three_true _ _ _ h in next_again setup fs n tag o.0 s p.0 p.1 p.2
event_parses_back setup fs (e.Prev n tag o) s d i h = let p = three_true _ _ _ h in prev_again setup fs n tag o.0 s p.0 p.1 p.2
event_parses_back setup fs (e.Tail n tag) s d i h = let p = split_true _ _ h in tail_again setup fs n tag s p.0 p.1
event_parses_back setup fs (e.TrimTag n tag o) s d i h = let p = three_true _ _ _ h in trim_tag_again setup fs n tag o.0 s p.0 p.1 p.2
event_parses_back setup fs (e.Settled n shard local) s d i h = let p = four_true _ _ _ _ h in settled_again setup fs n shard local s p.0 p.1 p.2 p.3
event_parses_back setup fs (e.SetAux n o text) s d i h = let p = three_true _ _ _ h in set_aux_again setup fs n o.0 text s p.0 p.1 p.2
event_parses_back setup fs (e.GetAux n o) s d i h = let p = split_true _ _ h in get_aux_again setup fs n o.0 s p.0 p.1
event_parses_back setup fs (e.Seed n) s d i h = seed_again setup fs n h

-- The names of a program.
named_by : (fs : List Function) (f : Function) → is_function fs f ≡ true → is_identifier f.name ≡ true
named_by fs f h =
    let a = split_true _ _ h in
    let b = split_true _ _ a.0 in
    let c = split_true _ _ b.0 in
    let d = split_true _ _ c.0 in
    (split_true (is_identifier f.name) (is_short_list f.params) d.0).0

pub identifiers : (fs gs : List Function) → list_all (is_function fs) gs ≡ true → list_all is_identifier (function_names gs) ≡ true
identifiers fs [] h = refl
identifiers fs (g ∷ gs) h =
    let q = split_true (is_function fs g) (list_all (is_function fs) gs) h in
    both_true (is_identifier g.name) (list_all is_identifier (function_names gs)) (named_by fs g q.0) (identifiers fs gs q.1)

pub printed_event : (setup : Setup) (fs : List Function) (x : Event) → is_setup setup ≡ true → is_program (record { functions = fs }) ≡ true → is_event setup fs x ≡ true → ParsesBack setup fs x
printed_event setup fs x s p h =
    let a = split_true (nat_le (length fs) 256 && distinct (function_names fs)) (list_all (is_function fs) fs) p in
    let b = split_true (nat_le (length fs) 256) (distinct (function_names fs)) a.0 in
    event_parses_back setup fs x (small_setup setup s) b.1 (identifiers fs fs a.1) h
