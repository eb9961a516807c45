-- An event that is read is one that a plan can have.
use Rattle.std.proofs.Common.{◌≡◌, ℕ, zero, suc, ◌-◌, ◌^◌, Bool, true, false, cond, List, [], ◌∷◌, length, Option, Some, None, option_map, refl, ap, ◌∙◌, subst, arith, pos, neg_ℤ}
use Rattle.std.specs.Prelude.{◌&&◌, option_and_then, unwrap_or, bytes_eq, codes, nat_lt, nat_le, ◌==◌}
use Rattle.std.specs.List.{list_all}
use Rattle.std.proofs.lemmas.Bool.Decides.{nat_tests}
use Rattle.std.proofs.lemmas.Int.{ints}
use Rattle.lb_base.specs.declared.value.Mode.{Mode}
use Rattle.lb_base.specs.declared.value.Tag.{Tag}
use Rattle.lb_base.specs.declared.value.Value.{Value}
use Rattle.lb_base.specs.declared.value.Value.TheVariants as v
use Rattle.lb_base.specs.Path.{is_path, is_request}
use Rattle.boki_types.specs.declared.event.Event.{Event}
use Rattle.boki_types.specs.declared.event.Event.TheVariants as e
use Rattle.boki_types.specs.declared.kind.Kind.{Kind}
use Rattle.boki_types.specs.declared.kind.Kind.TheVariants as kind
use Rattle.boki_types.specs.declared.plan.Setup.{Setup}
use Rattle.boki_types.specs.declared.program.Function.{Function}
use Rattle.boki_types.specs.Finding.{find, function_at}
use Rattle.boki_model.specs.Bodies.{is_i64, is_value, is_target}
use Rattle.boki_model.specs.Bodies.{is_u64}
use Rattle.boki_model.specs.Plans.{in_bounds, is_from_one_to, is_attempt, is_user_tag, are_user_tags, is_text, has_arity, is_event}
use Rattle.line_text.specs.declared.token.Keyword.TheVariants as k
use Rattle.line_text.specs.declared.token.Punctuation.TheVariants as m
use Rattle.line_text.specs.declared.token.Token.{Token}
use Rattle.line_text.specs.declared.token.Token.TheVariants as t
use Rattle.line_text.specs.declared.checked.Checked.{Checked}
use Rattle.line_text.specs.declared.checked.Checked.TheVariants as r
use Rattle.line_text.specs.declared.lists.CommaList.{CommaList}
use Rattle.line_text.specs.Readers.{is_zero, if_at_end, name_at, positive_value, negative_value, minus_value, value_at, expect}
use Rattle.script_lang.specs.Names.{call_fault}
use Rattle.line_text.specs.Stream.{take_punctuation}
use Rattle.line_text.specs.Checks.{both_checked, map_checked}
use Rattle.line_text.specs.Lists.{comma_list, closed_list, paren_list_by, paren_list}
use Rattle.script_lang.specs.Statements.{call_at}
use Rattle.plan_lang.specs.declared.events.Entry.{Entry}
use Rattle.plan_lang.specs.declared.verb.Verb.{Verb}
use Rattle.plan_lang.specs.declared.verb.Verb.TheVariants as w
use Rattle.plan_lang.specs.Events.{engine_at, attempt_at, request_at, engine_event_of, attempt_event_of, tag_event_of, copy_of, start_of, switch_of, append_of, cond_of, tail_of, settled_of, set_aux_of, get_aux_of, seed_of, function_number_of, submit_entry, submit_of, entry_without_call, entry_of_event, event_of_verb, event_of_verb_if, verb_of, entry_of_word, entry_of}
use Rattle.line_text.specs.Fields.{number_at, u64_at, mode_at, short_text_at, path_at, sent_position_at, tag_at, tags_at}
use Rattle.line_text.proofs.FieldsInRange.{IfValid, IfReadValid, IfLineValid, ItemsIfValid, ListIfValid, ModeInRange, checked_if_valid, if_read_valid_weaker, map_if_valid, both_true, split_true, pair_test, both_if_valid, at_end_if_valid, bind_if_valid, number_at_in_range, word_in_range, range_is_request, mode_in_range, short_text_in_range, path_in_range, sent_test, sent_position_in_range, tag_in_range, list_in_range, tags_in_range}

-- Values.
positive_by : (n : ℕ) (b : Bool) → nat_lt n (2 ^ 63) ≡ b → IfValid is_value (cond b (r.Valid (v.Int (pos n))) r.OutOfRange)
positive_by n true h = let g : is_i64 (pos n) ≡ true = h in g
positive_by n false h = tt

positive_good : (o : Option ℕ) → IfValid is_value (positive_value o)
positive_good None = tt
positive_good (Some n) = positive_by n (nat_lt n (2 ^ 63)) refl

fits_negative : (n : ℕ) → nat_le n (2 ^ 63) ≡ true → is_i64 (neg_ℤ (pos n)) ≡ true
fits_negative zero h = refl
fits_negative (suc n) h = grind (arith, nat_tests, ints, h)

negative_by : (n : ℕ) (b : Bool) → nat_le n (2 ^ 63) ≡ b → IfValid is_value (cond b (r.Valid (v.Int (neg_ℤ (pos n)))) r.OutOfRange)
negative_by n true h = fits_negative n h
negative_by n false h = tt

negative_good : (o : Option ℕ) → IfValid is_value (negative_value o)
negative_good None = tt
negative_good (Some n) = negative_by n (nat_le n (2 ^ 63)) refl

minus_by : (n : Option ℕ) (ts : List Token) (b : Bool) → IfReadValid is_value (cond b None (Some (negative_value n, ts)))
minus_by n ts true = tt
minus_by n ts false = negative_good n

minus_good : (ts : List Token) → IfReadValid is_value (minus_value ts)
minus_good (t.Numeral n ∷ ts) = minus_by n ts (is_zero n)
minus_good [] = tt
minus_good (t.Dotted x ∷ ts) = tt
minus_good (t.Text x ∷ ts) = tt
minus_good (t.Name x ∷ ts) = tt
minus_good (t.Keyword k ∷ ts) = tt
minus_good (t.Op o ∷ ts) = tt
minus_good (t.Minus s ∷ ts) = tt
minus_good (t.Punctuation k ∷ ts) = tt

pub value_in_range : (ts : List Token) → IfReadValid is_value (value_at ts)
value_in_range (t.Numeral n ∷ ts) = positive_good n
value_in_range (t.Minus true ∷ ts) = minus_good ts
value_in_range (t.Text x ∷ ts) = checked_if_valid is_value (nat_le (length x) 256) (v.Text x) (λ h. h)
value_in_range (t.Keyword k.Nothing ∷ ts) = refl
value_in_range _ = tt

-- Calls: the values are in range.
abbrev ValuesInRange : Option (CommaList Value × List Token) → Type 0
ValuesInRange None = Unit {0}
ValuesInRange (Some x) = IfValid (list_all is_value) x.0.items

values_of : (n : ℕ) (x : Checked (List Value)) → ItemsIfValid is_value n x → IfValid (list_all is_value) x
values_of n (r.Valid xs) h = h.0
values_of n r.OutOfRange h = tt
values_of n r.TooDeep h = tt

mapped : (x : CommaList Value) (o : Option (List Token)) → IfValid (list_all is_value) x.items → ValuesInRange (option_map (λ ts. (x, ts)) o)
mapped x None h = tt
mapped x (Some ts) h = h

closed_values : (o : Option (CommaList Value × List Token)) → ListIfValid is_value o → ValuesInRange (closed_list o)
closed_values None h = tt
closed_values (Some x) h = mapped x.0 (expect m.Close x.1) (values_of x.0.count x.0.items h.0)

listed_values : (q : Bool × List Token) → ValuesInRange (paren_list_by value_at q)
listed_values (true, ts) = refl
listed_values (false, ts) = closed_values (comma_list value_at ts) (list_in_range is_value value_at value_in_range (length ts) ts)

abbrev pub call_test : List ℕ × List Value → Bool
call_test = pair_test (λ _. true) (list_all is_value)

name_free : (x : Checked (List ℕ)) → IfValid (λ _. true) x
name_free (r.Valid a) = refl
name_free r.OutOfRange = tt
name_free r.TooDeep = tt

behind_listed : (name : Checked (List ℕ)) (o : Option (CommaList Value × List Token)) → ValuesInRange o → IfReadValid call_test (option_and_then (λ (call : (Checked (List ℕ) × CommaList Value) × List Token). Some (both_checked call.0.0 call.0.1.items, call.1)) (option_and_then (λ (xs : CommaList Value × List Token). Some ((name, xs.0), xs.1)) o))
behind_listed name None h = tt
behind_listed name (Some x) h = both_if_valid (λ _. true) (list_all is_value) name x.0.items (name_free name) h

behind_open : (name : Checked (List ℕ)) (o : Option (List Token)) → IfReadValid call_test (option_and_then (λ (call : (Checked (List ℕ) × CommaList Value) × List Token). Some (both_checked call.0.0 call.0.1.items, call.1)) (option_and_then (λ (rest : List Token). option_and_then (λ (xs : CommaList Value × List Token). Some ((name, xs.0), xs.1)) (paren_list value_at rest)) o))
behind_open name None = tt
behind_open name (Some ts) = behind_listed name (paren_list value_at ts) (listed_values (take_punctuation m.Close ts))

behind_name : (o : Option (Checked (List ℕ) × List Token)) → IfReadValid call_test (option_and_then (λ (call : (Checked (List ℕ) × CommaList Value) × List Token). Some (both_checked call.0.0 call.0.1.items, call.1)) (option_and_then (λ (name : Checked (List ℕ) × List Token). option_and_then (λ (rest : List Token). option_and_then (λ (xs : CommaList Value × List Token). Some ((name.0, xs.0), xs.1)) (paren_list value_at rest)) (expect m.Open name.1)) o))
behind_name None = tt
behind_name (Some name) = behind_open name.0 (expect m.Open name.1)

pub call_in_range : (ts : List Token) → IfReadValid call_test (call_at ts)
call_in_range ts = behind_name (name_at ts)

-- Events, form by form: q is whether a plan with this setup and these functions can have one.
abbrev EventIfValid : Setup → List Function → Option (Checked Event) → Type 0
EventIfValid setup fs o = IfLineValid (is_event setup fs) o

engine_good : (setup : Setup) (fs : List Function) (make : ℕ → Event) (ts : List Token) → ((n : ℕ) → is_from_one_to setup.engines n ≡ true → is_event setup fs (make n) ≡ true) → EventIfValid setup fs (engine_event_of make setup ts)
engine_good setup fs make ts h =
    bind_if_valid (is_from_one_to setup.engines) (is_event setup fs) (engine_at setup ts) _ (number_at_in_range 1 setup.engines ts) (λ x f.
    at_end_if_valid (is_event setup fs) x.1 (map_checked make x.0) (map_if_valid (is_from_one_to setup.engines) (is_event setup fs) make x.0 h f))

attempt_good : (setup : Setup) (fs : List Function) (make : ℕ → Event) (ts : List Token) → ((n : ℕ) → is_attempt n ≡ true → is_event setup fs (make n) ≡ true) → EventIfValid setup fs (attempt_event_of make ts)
attempt_good setup fs make ts h =
    bind_if_valid is_attempt (is_event setup fs) (attempt_at ts) _ (number_at_in_range 1 4096 ts) (λ x f.
    at_end_if_valid (is_event setup fs) x.1 (map_checked make x.0) (map_if_valid is_attempt (is_event setup fs) make x.0 h f))

abbrev tag_test : Setup → (ℕ × Tag) × ℕ → Bool
tag_test setup = pair_test (pair_test (is_from_one_to setup.engines) is_user_tag) is_u64

tag_event_good : (setup : Setup) (fs : List Function) (make : ℕ → Tag → ℕ → Event) (ts : List Token) → ((p : (ℕ × Tag) × ℕ) → tag_test setup p ≡ true → is_event setup fs (make p.0.0 p.0.1 p.1) ≡ true) → EventIfValid setup fs (tag_event_of make setup ts)
tag_event_good setup fs make ts h =
    bind_if_valid (is_from_one_to setup.engines) (is_event setup fs) (engine_at setup ts) _ (number_at_in_range 1 setup.engines ts) (λ x f.
    bind_if_valid is_user_tag (is_event setup fs) (tag_at x.1) _ (tag_in_range x.1) (λ y g.
    bind_if_valid is_u64 (is_event setup fs) (u64_at y.1) _ (word_in_range y.1) (λ z k.
    at_end_if_valid (is_event setup fs) z.1 _ (map_if_valid (tag_test setup) (is_event setup fs) (λ p. make p.0.0 p.0.1 p.1) (both_checked (both_checked x.0 y.0) z.0) h
    (both_if_valid (pair_test (is_from_one_to setup.engines) is_user_tag) is_u64 (both_checked x.0 y.0) z.0 (both_if_valid (is_from_one_to setup.engines) is_user_tag x.0 y.0 f g) k)))))

copy_good : (setup : Setup) (fs : List Function) (ts : List Token) → EventIfValid setup fs (copy_of setup ts)
copy_good setup fs ts =
    bind_if_valid (in_bounds 1 setup.shards) (is_event setup fs) (number_at 1 setup.shards ts) _ (number_at_in_range 1 setup.shards ts) (λ x f.
    bind_if_valid (in_bounds 2 setup.replicas) (is_event setup fs) (number_at 2 setup.replicas x.1) _ (number_at_in_range 2 setup.replicas x.1) (λ y g.
    bind_if_valid is_u64 (is_event setup fs) (u64_at y.1) _ (word_in_range y.1) (λ z k.
    at_end_if_valid (is_event setup fs) z.1 _ (map_if_valid (pair_test (pair_test (in_bounds 1 setup.shards) (in_bounds 2 setup.replicas)) is_u64) (is_event setup fs) (λ p. e.Copy p.0.0 p.0.1 p.1) (both_checked (both_checked x.0 y.0) z.0) (λ p h. h)
    (both_if_valid (pair_test (in_bounds 1 setup.shards) (in_bounds 2 setup.replicas)) is_u64 (both_checked x.0 y.0) z.0 (both_if_valid (in_bounds 1 setup.shards) (in_bounds 2 setup.replicas) x.0 y.0 f g) k)))))

start_good : (setup : Setup) (fs : List Function) (ts : List Token) → EventIfValid setup fs (start_of setup ts)
start_good setup fs ts =
    bind_if_valid is_attempt (is_event setup fs) (attempt_at ts) _ (number_at_in_range 1 4096 ts) (λ x f.
    bind_if_valid is_path (is_event setup fs) (path_at x.1) _ (path_in_range x.1) (λ y g.
    bind_if_valid (is_from_one_to setup.engines) (is_event setup fs) (engine_at setup y.1) _ (number_at_in_range 1 setup.engines y.1) (λ z k.
    at_end_if_valid (is_event setup fs) z.1 _ (map_if_valid (pair_test (pair_test is_attempt is_path) (is_from_one_to setup.engines)) (is_event setup fs) (λ p. e.Start p.0.0 p.0.1 p.1) (both_checked (both_checked x.0 y.0) z.0) (λ p h. h)
    (both_if_valid (pair_test is_attempt is_path) (is_from_one_to setup.engines) (both_checked x.0 y.0) z.0 (both_if_valid is_attempt is_path x.0 y.0 f g) k)))))

switch_by : (setup : Setup) (fs : List Function) (x : Checked ℕ) (o : Option (Mode × List Token)) → IfValid (is_from_one_to setup.engines) x → ModeInRange o → EventIfValid setup fs (option_and_then (λ (target : Mode × List Token). if_at_end target.1 (map_checked (λ n. e.Switch n target.0) x)) o)
switch_by setup fs x None f g = tt
switch_by setup fs x (Some target) f g =
    at_end_if_valid (is_event setup fs) target.1 _ (map_if_valid (is_from_one_to setup.engines) (is_event setup fs) (λ n. e.Switch n target.0) x (λ n h. both_true (is_from_one_to setup.engines n) (is_target target.0) h g) f)

switch_good : (setup : Setup) (fs : List Function) (ts : List Token) → EventIfValid setup fs (switch_of setup ts)
switch_good setup fs ts =
    bind_if_valid (is_from_one_to setup.engines) (is_event setup fs) (engine_at setup ts) _ (number_at_in_range 1 setup.engines ts) (λ x f.
    switch_by setup fs x.0 (mode_at x.1) f (mode_in_range x.1))

append_good : (setup : Setup) (fs : List Function) (ts : List Token) → EventIfValid setup fs (append_of setup ts)
append_good setup fs ts =
    bind_if_valid (is_from_one_to setup.engines) (is_event setup fs) (engine_at setup ts) _ (number_at_in_range 1 setup.engines ts) (λ x f.
    bind_if_valid are_user_tags (is_event setup fs) (tags_at x.1) _ (tags_in_range x.1) (λ y g.
    bind_if_valid is_text (is_event setup fs) (short_text_at y.1) _ (short_text_in_range y.1) (λ z k.
    at_end_if_valid (is_event setup fs) z.1 _ (map_if_valid (pair_test (pair_test (is_from_one_to setup.engines) are_user_tags) is_text) (is_event setup fs) (λ p. e.Append p.0.0 p.0.1 p.1) (both_checked (both_checked x.0 y.0) z.0) (λ p h. h)
    (both_if_valid (pair_test (is_from_one_to setup.engines) are_user_tags) is_text (both_checked x.0 y.0) z.0 (both_if_valid (is_from_one_to setup.engines) are_user_tags x.0 y.0 f g) k)))))

four_true : (a b c d : Bool) → ((a && b) && (c && d)) ≡ true → (((a && b) && c) && d) ≡ true
four_true a b c d h =
    let q = split_true (a && b) (c && d) h in
    let s = split_true c d q.1 in
    both_true ((a && b) && c) d (both_true (a && b) c q.0 s.0) s.1

cond_good : (setup : Setup) (fs : List Function) (ts : List Token) → EventIfValid setup fs (cond_of setup ts)
cond_good setup fs ts =
    bind_if_valid (is_from_one_to setup.engines) (is_event setup fs) (engine_at setup ts) _ (number_at_in_range 1 setup.engines ts) (λ x f.
    bind_if_valid is_u64 (is_event setup fs) (u64_at x.1) _ (word_in_range x.1) (λ y g.
    bind_if_valid are_user_tags (is_event setup fs) (tags_at y.1) _ (tags_in_range y.1) (λ z k.
    bind_if_valid is_text (is_event setup fs) (short_text_at z.1) _ (short_text_in_range z.1) (λ u l.
    at_end_if_valid (is_event setup fs) u.1 _ (map_if_valid (pair_test (pair_test (is_from_one_to setup.engines) is_u64) (pair_test are_user_tags is_text)) (is_event setup fs) (λ p. e.Cond p.0.0 p.0.1 p.1.0 p.1.1) (both_checked (both_checked x.0 y.0) (both_checked z.0 u.0))
    (λ p h. four_true (is_from_one_to setup.engines p.0.0) (is_u64 p.0.1) (are_user_tags p.1.0) (is_text p.1.1) h)
    (both_if_valid (pair_test (is_from_one_to setup.engines) is_u64) (pair_test are_user_tags is_text) (both_checked x.0 y.0) (both_checked z.0 u.0) (both_if_valid (is_from_one_to setup.engines) is_u64 x.0 y.0 f g) (both_if_valid are_user_tags is_text z.0 u.0 k l)))))))

tail_good : (setup : Setup) (fs : List Function) (ts : List Token) → EventIfValid setup fs (tail_of setup ts)
tail_good setup fs ts =
    bind_if_valid (is_from_one_to setup.engines) (is_event setup fs) (engine_at setup ts) _ (number_at_in_range 1 setup.engines ts) (λ x f.
    bind_if_valid is_user_tag (is_event setup fs) (tag_at x.1) _ (tag_in_range x.1) (λ y g.
    at_end_if_valid (is_event setup fs) y.1 _ (map_if_valid (pair_test (is_from_one_to setup.engines) is_user_tag) (is_event setup fs) (λ p. e.Tail p.0 p.1) (both_checked x.0 y.0) (λ p h. h) (both_if_valid (is_from_one_to setup.engines) is_user_tag x.0 y.0 f g))))

settled_true : (setup : Setup) (engine shard local : ℕ) → (is_from_one_to setup.engines engine && sent_test setup.shards (shard, local)) ≡ true → (((is_from_one_to setup.engines engine && is_from_one_to setup.shards shard) && nat_le 1 local) && is_u64 local) ≡ true
settled_true setup engine shard local h =
    let q = split_true (is_from_one_to setup.engines engine) (sent_test setup.shards (shard, local)) h in
    let s = split_true (is_from_one_to setup.shards shard) (in_bounds 1 (2 ^ 64 - 1) local) q.1 in
    let l : nat_le 1 local ≡ true = (split_true (nat_le 1 local) (nat_le local (2 ^ 64 - 1)) s.1).0 in
    let w : is_u64 local ≡ true = grind (arith, nat_tests, s.1) in
    both_true ((is_from_one_to setup.engines engine && is_from_one_to setup.shards shard) && nat_le 1 local) (is_u64 local) (both_true (is_from_one_to setup.engines engine && is_from_one_to setup.shards shard) (nat_le 1 local) (both_true (is_from_one_to setup.engines engine) (is_from_one_to setup.shards shard) q.0 s.0) l) w

settled_good : (setup : Setup) (fs : List Function) (ts : List Token) → EventIfValid setup fs (settled_of setup ts)
settled_good setup fs ts =
    bind_if_valid (is_from_one_to setup.engines) (is_event setup fs) (engine_at setup ts) _ (number_at_in_range 1 setup.engines ts) (λ x f.
    bind_if_valid (sent_test setup.shards) (is_event setup fs) (sent_position_at setup.shards x.1) _ (sent_position_in_range setup.shards x.1) (λ y g.
    at_end_if_valid (is_event setup fs) y.1 _ (map_if_valid (pair_test (is_from_one_to setup.engines) (sent_test setup.shards)) (is_event setup fs) (λ p. e.Settled p.0 p.1.0 p.1.1) (both_checked x.0 y.0) (λ p h. settled_true setup p.0 p.1.0 p.1.1 h) (both_if_valid (is_from_one_to setup.engines) (sent_test setup.shards) x.0 y.0 f g))))

set_aux_good : (setup : Setup) (fs : List Function) (ts : List Token) → EventIfValid setup fs (set_aux_of setup ts)
set_aux_good setup fs ts =
    bind_if_valid (is_from_one_to setup.engines) (is_event setup fs) (engine_at setup ts) _ (number_at_in_range 1 setup.engines ts) (λ x f.
    bind_if_valid is_u64 (is_event setup fs) (u64_at x.1) _ (word_in_range x.1) (λ y g.
    bind_if_valid is_text (is_event setup fs) (short_text_at y.1) _ (short_text_in_range y.1) (λ z k.
    at_end_if_valid (is_event setup fs) z.1 _ (map_if_valid (pair_test (pair_test (is_from_one_to setup.engines) is_u64) is_text) (is_event setup fs) (λ p. e.SetAux p.0.0 (record { 0 = p.0.1 }) p.1) (both_checked (both_checked x.0 y.0) z.0) (λ p h. h)
    (both_if_valid (pair_test (is_from_one_to setup.engines) is_u64) is_text (both_checked x.0 y.0) z.0 (both_if_valid (is_from_one_to setup.engines) is_u64 x.0 y.0 f g) k)))))

get_aux_good : (setup : Setup) (fs : List Function) (ts : List Token) → EventIfValid setup fs (get_aux_of setup ts)
get_aux_good setup fs ts =
    bind_if_valid (is_from_one_to setup.engines) (is_event setup fs) (engine_at setup ts) _ (number_at_in_range 1 setup.engines ts) (λ x f.
    bind_if_valid is_u64 (is_event setup fs) (u64_at x.1) _ (word_in_range x.1) (λ y g.
    at_end_if_valid (is_event setup fs) y.1 _ (map_if_valid (pair_test (is_from_one_to setup.engines) is_u64) (is_event setup fs) (λ p. e.GetAux p.0 (record { 0 = p.1 })) (both_checked x.0 y.0) (λ p h. h) (both_if_valid (is_from_one_to setup.engines) is_u64 x.0 y.0 f g))))

seed_good : (setup : Setup) (fs : List Function) (ts : List Token) → EventIfValid setup fs (seed_of ts)
seed_good setup fs ts =
    bind_if_valid is_u64 (is_event setup fs) (u64_at ts) _ (word_in_range ts) (λ x f.
    at_end_if_valid (is_event setup fs) x.1 _ (map_if_valid is_u64 (is_event setup fs) (λ n. e.Seed n) x.0 (λ n h. h) f))

plain_good : (setup : Setup) (fs : List Function) (verb : Verb) (ts : List Token) → EventIfValid setup fs (event_of_verb setup verb ts)
plain_good setup fs w.Copy ts = copy_good setup fs ts
plain_good setup fs w.Cut ts = at_end_if_valid (is_event setup fs) ts (r.Valid e.Cut) refl
plain_good setup fs w.Catch ts = engine_good setup fs (λ n. e.Catch n) ts (λ n h. h)
plain_good setup fs w.Sync ts = at_end_if_valid (is_event setup fs) ts (r.Valid e.Sync) refl
plain_good setup fs w.Restart ts = engine_good setup fs (λ n. e.Restart n) ts (λ n h. h)
plain_good setup fs w.Start ts = start_good setup fs ts
plain_good setup fs w.Step ts = attempt_good setup fs (λ n. e.Step n) ts (λ n h. h)
plain_good setup fs w.Kill ts = attempt_good setup fs (λ n. e.Kill n) ts (λ n h. h)
plain_good setup fs w.Lose ts = attempt_good setup fs (λ n. e.Lose n) ts (λ n h. h)
plain_good setup fs w.Miss ts = attempt_good setup fs (λ n. e.Miss n) ts (λ n h. h)
plain_good setup fs w.Switch ts = switch_good setup fs ts
plain_good setup fs w.EndSwitch ts = engine_good setup fs (λ n. e.EndSwitch n) ts (λ n h. h)
plain_good setup fs w.Trim ts = engine_good setup fs (λ n. e.Trim n) ts (λ n h. h)
plain_good setup fs w.Sweep ts = engine_good setup fs (λ n. e.Sweep n) ts (λ n h. h)
plain_good setup fs w.Append ts = append_good setup fs ts
plain_good setup fs w.Cond ts = cond_good setup fs ts
plain_good setup fs w.Next ts = tag_event_good setup fs (λ n tag k. e.Next n tag (record { 0 = k })) ts (λ p h. h)
plain_good setup fs w.Prev ts = tag_event_good setup fs (λ n tag k. e.Prev n tag (record { 0 = k })) ts (λ p h. h)
plain_good setup fs w.Tail ts = tail_good setup fs ts
plain_good setup fs w.TrimTag ts = tag_event_good setup fs (λ n tag k. e.TrimTag n tag (record { 0 = k })) ts (λ p h. h)
plain_good setup fs w.Settled ts = settled_good setup fs ts
plain_good setup fs w.SetAux ts = set_aux_good setup fs ts
plain_good setup fs w.GetAux ts = get_aux_good setup fs ts
plain_good setup fs w.Seed ts = seed_good setup fs ts

-- Calls of functions that are there, with their number of arguments.
pub record CallIsSound (fs : List Function) (name : List ℕ) (n : ℕ) : Type 0 where
  pub number : ℕ
  pub is : find name fs ≡ Some number
  pub takes : has_arity n (function_at number fs) ≡ true

count_by : (b : Bool) (found : Option Kind) → found ≡ None → cond b None (Some kind.Arity) ≡ found → b ≡ true
count_by true found e h = refl
count_by false found e h = absurd (cc)

found_here : (b : Bool) (rest : Option ℕ) → b ≡ true → cond b (Some 0) rest ≡ Some 0
found_here b rest e = rw e refl

found_later : (b : Bool) (rest : Option ℕ) → b ≡ false → cond b (Some 0) rest ≡ rest
found_later b rest e = rw e refl

call_by : (f : Function) (fs : List Function) (name : List ℕ) (n : ℕ) (b : Bool) (found : Option Kind) → found ≡ None → bytes_eq name f.name ≡ b → cond b (cond (n == length f.params) None (Some kind.Arity)) (call_fault fs name n) ≡ found → (call_fault fs name n ≡ found → CallIsSound fs name n) → CallIsSound (f ∷ fs) name n
call_by f fs name n true found none e h k =
    record { number = 0; is = found_here (bytes_eq name f.name) (option_map suc (find name fs)) e; takes = count_by (n == length f.params) found none h }
call_by f fs name n false found none e h k =
    let q = k h in
    record { number = suc q.number; is = found_later (bytes_eq name f.name) (option_map suc (find name fs)) e ∙ ap (option_map suc) q.is; takes = q.takes }

pub call_is_sound : (fs : List Function) (name : List ℕ) (n : ℕ) (found : Option Kind) → found ≡ None → call_fault fs name n ≡ found → CallIsSound fs name n
call_is_sound [] name n found none h = absurd (cc)
call_is_sound (f ∷ fs) name n found none h = call_by f fs name n (bytes_eq name f.name) found none refl h (call_is_sound fs name n found none)

-- an entry whose call has no fault has an event that a plan can have
abbrev pub by_fault : Option Kind → Bool → Bool
by_fault None b = b
by_fault (Some k) b = true

abbrev pub is_sound_entry : Setup → List Function → Entry → Bool
is_sound_entry setup fs x = by_fault x.fault (is_event setup fs x.event)

abbrev submit_test : Setup → (ℕ × ℕ) × (List ℕ × List Value) → Bool
submit_test setup = pair_test (pair_test (is_from_one_to setup.engines) is_request) call_test

submit_by : (setup : Setup) (fs : List Function) (p : (ℕ × ℕ) × (List ℕ × List Value)) (found : Option Kind) → call_fault fs p.1.0 (length p.1.1) ≡ found → submit_test setup p ≡ true → by_fault found (is_event setup fs (e.Submit p.0.0 p.0.1 (function_number_of fs p.1.0) p.1.1)) ≡ true
submit_by setup fs p None h t =
    let q = call_is_sound fs p.1.0 (length p.1.1) None refl h in
    let s = split_true (is_from_one_to setup.engines p.0.0 && is_request p.0.1) (call_test p.1) t in
    let has : has_arity (length p.1.1) (function_at (function_number_of fs p.1.0) fs) ≡ true =
    ap (λ o. has_arity (length p.1.1) (function_at (unwrap_or o 0) fs)) q.is ∙ q.takes in
    both_true ((is_from_one_to setup.engines p.0.0 && is_request p.0.1) && list_all is_value p.1.1) _ (both_true (is_from_one_to setup.engines p.0.0 && is_request p.0.1) (list_all is_value p.1.1) s.0 s.1) has
submit_by setup fs p (Some k) h t = refl

pub request_in_range : (ts : List Token) → IfReadValid is_request (request_at ts)
request_in_range ts = if_read_valid_weaker (in_bounds 1 1048575) is_request (request_at ts) range_is_request (number_at_in_range 1 1048575 ts)

submit_good : (setup : Setup) (fs : List Function) (ts : List Token) → IfLineValid (is_sound_entry setup fs) (submit_of setup fs ts)
submit_good setup fs ts =
    bind_if_valid (is_from_one_to setup.engines) (is_sound_entry setup fs) (engine_at setup ts) _ (number_at_in_range 1 setup.engines ts) (λ x f.
    bind_if_valid is_request (is_sound_entry setup fs) (request_at x.1) _ (request_in_range x.1) (λ y g.
    bind_if_valid call_test (is_sound_entry setup fs) (call_at y.1) _ (call_in_range y.1) (λ z k.
    at_end_if_valid (is_sound_entry setup fs) z.1 _ (map_if_valid (submit_test setup) (is_sound_entry setup fs) (submit_entry fs) (both_checked (both_checked x.0 y.0) z.0) (λ p t. submit_by setup fs p (call_fault fs p.1.0 (length p.1.1)) refl t)
    (both_if_valid (pair_test (is_from_one_to setup.engines) is_request) call_test (both_checked x.0 y.0) z.0 (both_if_valid (is_from_one_to setup.engines) is_request x.0 y.0 f g) k)))))

callless_good : (setup : Setup) (fs : List Function) (o : Option (Checked Event)) → EventIfValid setup fs o → IfLineValid (is_sound_entry setup fs) (entry_of_event o)
callless_good setup fs None h = tt
callless_good setup fs (Some x) h = map_if_valid (is_event setup fs) (is_sound_entry setup fs) entry_without_call x (λ y k. k) h

plain_by_good : (setup : Setup) (fs : List Function) (o : Option Verb) (ts : List Token) → EventIfValid setup fs (event_of_verb_if setup o ts)
plain_by_good setup fs None ts = tt
plain_by_good setup fs (Some verb) ts = plain_good setup fs verb ts

worded_by : (setup : Setup) (fs : List Function) (b : Bool) (o : Option Verb) (ts : List Token) → IfLineValid (is_sound_entry setup fs) (cond b (submit_of setup fs ts) (entry_of_event (event_of_verb_if setup o ts)))
worded_by setup fs true o ts = submit_good setup fs ts
worded_by setup fs false o ts = callless_good setup fs (event_of_verb_if setup o ts) (plain_by_good setup fs o ts)

pub entry_of_word_in_range : (setup : Setup) (fs : List Function) (x : List ℕ) (ts : List Token) → IfLineValid (is_sound_entry setup fs) (entry_of_word setup fs x ts)
entry_of_word_in_range setup fs x ts = worded_by setup fs (bytes_eq x (codes "submit")) (verb_of x) ts

entry_good : (setup : Setup) (fs : List Function) (ts : List Token) → IfLineValid (is_sound_entry setup fs) (entry_of setup fs ts)
entry_good setup fs (t.Name x ∷ ts) = entry_of_word_in_range setup fs x ts
entry_good setup fs [] = tt
entry_good setup fs (t.Numeral n ∷ ts) = tt
entry_good setup fs (t.Dotted x ∷ ts) = tt
entry_good setup fs (t.Text x ∷ ts) = tt
entry_good setup fs (t.Keyword k ∷ ts) = tt
entry_good setup fs (t.Op o ∷ ts) = tt
entry_good setup fs (t.Minus s ∷ ts) = tt
entry_good setup fs (t.Punctuation k ∷ ts) = tt

pub sound_event : (setup : Setup) (fs : List Function) (x : Entry) → x.fault ≡ None → is_sound_entry setup fs x ≡ true → is_event setup fs x.event ≡ true
sound_event setup fs x none h =
    let P : Option Kind → Type 0 = λ o. by_fault o (is_event setup fs x.event) ≡ true in
    subst P none h

pub read_entry_is_event : (setup : Setup) (fs : List Function) (ts : List Token) (x : Entry) → entry_of setup fs ts ≡ Some (r.Valid x) → x.fault ≡ None → is_event setup fs x.event ≡ true
read_entry_is_event setup fs ts x h none =
    let P : Option (Checked Entry) → Type 0 = λ o. IfLineValid (is_sound_entry setup fs) o in
    sound_event setup fs x none (subst P h (entry_good setup fs ts))
