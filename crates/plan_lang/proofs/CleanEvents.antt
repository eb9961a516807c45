-- The texts of an event that is read from a text are spelled in UTF-8.
use Rattle.std.proofs.Common.{◌≡◌, ℕ, ◌-◌, ◌^◌, Bool, true, false, cond, List, ◌∷◌, length, Option, Some, None, refl}
use Rattle.std.specs.Prelude.{option_and_then, bytes_eq, codes, nat_le}
use Rattle.lb_base.specs.declared.value.Tag.{Tag}
use Rattle.boki_types.specs.declared.event.Event.{Event}
use Rattle.boki_types.specs.declared.event.Event.TheVariants as e
use Rattle.boki_types.specs.declared.plan.Setup.{Setup}
use Rattle.boki_types.specs.declared.program.Function.{Function}
use Rattle.line_text.specs.declared.checked.Checked.{Checked}
use Rattle.line_text.specs.declared.checked.Checked.TheVariants as r
use Rattle.line_text.specs.declared.lists.CommaList.{CommaList}
use Rattle.line_text.specs.declared.token.Token.{Token}
use Rattle.line_text.specs.declared.token.Token.TheVariants as t
use Rattle.line_text.specs.Checks.{both_checked}
use Rattle.line_text.specs.Lists.{comma_list, up_to_eight}
use Rattle.script_lang.specs.Statements.{call_at}
use Rattle.plan_lang.specs.declared.events.Entry.{Entry}
use Rattle.plan_lang.specs.declared.verb.Verb.{Verb}
use Rattle.plan_lang.specs.declared.verb.Verb.TheVariants as w
use Rattle.plan_lang.specs.Events.{engine_at, attempt_at, request_at, engine_event_of, attempt_event_of, tag_event_of, append_of, cond_of, set_aux_of, submit_entry, submit_of, entry_without_call, entry_of_event, event_of_verb, event_of_verb_if, verb_of, entry_of_word}
use Rattle.line_text.specs.Fields.{number_in_range, number_at, u64_at, mode_at, short_text_at, path_at, sent_position_at, user_tag_of, tag_at, tags_at}
use Rattle.plan_lang.proofs.CleanReads.{are_clean_values, Leaves, LeavesMany, Reads, bind_clean, bind_any, made_clean, last_clean, several_clean, call_test, call_clean}
use Rattle.line_text.proofs.FieldsInRange.{any_if_valid, IfLineValid, checked_if_valid, map_if_valid, split_true, pair_test, both_if_valid, at_end_if_valid, bind_if_valid}
use Rattle.line_text.proofs.Utf8Tokens.{is_clean_text, are_clean}

abbrev pub is_clean_event : Event → Bool
is_clean_event (e.Submit n q f args) = are_clean_values args
is_clean_event (e.Append n tags text) = is_clean_text text
is_clean_event (e.Cond n place tags text) = is_clean_text text
is_clean_event (e.SetAux n seq text) = is_clean_text text
is_clean_event _ = true

-- Fields.
number_clean : (low high : ℕ) → Reads (λ _. true) (number_at low high)
number_clean low high (t.Numeral n ∷ ts) h = (any_if_valid (number_in_range low high n), h)
number_clean low high _ h = tt

tag_clean : Reads (λ _. true) tag_at
tag_clean (t.Numeral n ∷ ts) h = (any_if_valid (user_tag_of n), h)
tag_clean _ h = tt

tags_by : (o : Option (CommaList Tag × List Token)) → LeavesMany (λ _. true) o → Leaves (λ _. true) (option_and_then (λ (tags : CommaList Tag × List Token). Some (up_to_eight tags.0, tags.1)) o)
tags_by None h = tt
tags_by (Some tags) h = (any_if_valid (up_to_eight tags.0), h.1)

tags_clean : Reads (λ _. true) tags_at
tags_clean ts h = tags_by (comma_list tag_at ts) (several_clean (λ _. true) tag_at tag_clean ts h)

short_clean : Reads is_clean_text short_text_at
short_clean (t.Text x ∷ ts) h =
    let s = split_true (is_clean_text x) (are_clean ts) h in (checked_if_valid is_clean_text (nat_le (length x) 256) x (λ _. s.0), s.1)
short_clean _ h = tt

-- Events.
abbrev Clean : Option (Checked Event) → Type 0
Clean o = IfLineValid is_clean_event o

engine_clean : (make : ℕ → Event) (setup : Setup) (ts : List Token) → ((n : ℕ) → is_clean_event (make n) ≡ true) → Clean (engine_event_of make setup ts)
engine_clean make setup ts h = bind_any is_clean_event (engine_at setup ts) _ (λ x. made_clean is_clean_event make x.0 x.1 h)

attempt_clean : (make : ℕ → Event) (ts : List Token) → ((n : ℕ) → is_clean_event (make n) ≡ true) → Clean (attempt_event_of make ts)
attempt_clean make ts h = bind_any is_clean_event (attempt_at ts) _ (λ x. made_clean is_clean_event make x.0 x.1 h)

tag_event_clean : (make : ℕ → Tag → ℕ → Event) (setup : Setup) (ts : List Token) → ((n : ℕ) (tag : Tag) (m : ℕ) → is_clean_event (make n tag m) ≡ true) → Clean (tag_event_of make setup ts)
tag_event_clean make setup ts h =
    bind_any is_clean_event (engine_at setup ts) _ (λ x.
    bind_any is_clean_event (tag_at x.1) _ (λ y.
    bind_any is_clean_event (u64_at y.1) _ (λ z. made_clean is_clean_event (λ p. make p.0.0 p.0.1 p.1) (both_checked (both_checked x.0 y.0) z.0) z.1 (λ p. h p.0.0 p.0.1 p.1))))

append_clean : (setup : Setup) (ts : List Token) → are_clean ts ≡ true → Clean (append_of setup ts)
append_clean setup ts h =
    bind_clean (λ _. true) is_clean_event (engine_at setup ts) _ (number_clean 1 setup.engines ts h) (λ x _ c.
    bind_clean (λ _. true) is_clean_event (tags_at x.1) _ (tags_clean x.1 c) (λ y _ d.
    bind_clean is_clean_text is_clean_event (short_text_at y.1) _ (short_clean y.1 d) (λ z g _.
    last_clean is_clean_text is_clean_event (λ p. e.Append p.0.0 p.0.1 p.1) (both_checked x.0 y.0) z.0 z.1 (λ p k. k) g)))

cond_clean : (setup : Setup) (ts : List Token) → are_clean ts ≡ true → Clean (cond_of setup ts)
cond_clean setup ts h =
    bind_clean (λ _. true) is_clean_event (engine_at setup ts) _ (number_clean 1 setup.engines ts h) (λ x _ c.
    bind_clean (λ _. true) is_clean_event (u64_at x.1) _ (number_clean 0 (2 ^ 64 - 1) x.1 c) (λ y _ d.
    bind_clean (λ _. true) is_clean_event (tags_at y.1) _ (tags_clean y.1 d) (λ z _ i.
    bind_clean is_clean_text is_clean_event (short_text_at z.1) _ (short_clean z.1 i) (λ u g _.
    last_clean (pair_test (λ _. true) is_clean_text) is_clean_event (λ p. e.Cond p.0.0 p.0.1 p.1.0 p.1.1) (both_checked x.0 y.0) (both_checked z.0 u.0) u.1 (λ p k. k) (both_if_valid (λ _. true) is_clean_text z.0 u.0 (any_if_valid z.0) g)))))

set_aux_clean : (setup : Setup) (ts : List Token) → are_clean ts ≡ true → Clean (set_aux_of setup ts)
set_aux_clean setup ts h =
    bind_clean (λ _. true) is_clean_event (engine_at setup ts) _ (number_clean 1 setup.engines ts h) (λ x _ c.
    bind_clean (λ _. true) is_clean_event (u64_at x.1) _ (number_clean 0 (2 ^ 64 - 1) x.1 c) (λ y _ d.
    bind_clean is_clean_text is_clean_event (short_text_at y.1) _ (short_clean y.1 d) (λ z g _.
    last_clean is_clean_text is_clean_event (λ p. e.SetAux p.0.0 (record { 0 = p.0.1 }) p.1) (both_checked x.0 y.0) z.0 z.1 (λ p k. k) g)))

plain_clean : (setup : Setup) (verb : Verb) (ts : List Token) → are_clean ts ≡ true → Clean (event_of_verb setup verb ts)
plain_clean setup w.Copy ts h =
    bind_any is_clean_event (number_at 1 setup.shards ts) _ (λ x.
    bind_any is_clean_event (number_at 2 setup.replicas x.1) _ (λ y.
    bind_any is_clean_event (u64_at y.1) _ (λ z. made_clean is_clean_event (λ p. e.Copy p.0.0 p.0.1 p.1) (both_checked (both_checked x.0 y.0) z.0) z.1 (λ p. refl))))
plain_clean setup w.Cut ts h = at_end_if_valid is_clean_event ts (r.Valid e.Cut) refl
plain_clean setup w.Catch ts h = engine_clean (λ n. e.Catch n) setup ts (λ n. refl)
plain_clean setup w.Sync ts h = at_end_if_valid is_clean_event ts (r.Valid e.Sync) refl
plain_clean setup w.Restart ts h = engine_clean (λ n. e.Restart n) setup ts (λ n. refl)
plain_clean setup w.Start ts h =
    bind_any is_clean_event (attempt_at ts) _ (λ x.
    bind_any is_clean_event (path_at x.1) _ (λ y.
    bind_any is_clean_event (engine_at setup y.1) _ (λ z. made_clean is_clean_event (λ p. e.Start p.0.0 p.0.1 p.1) (both_checked (both_checked x.0 y.0) z.0) z.1 (λ p. refl))))
plain_clean setup w.Step ts h = attempt_clean (λ n. e.Step n) ts (λ n. refl)
plain_clean setup w.Kill ts h = attempt_clean (λ n. e.Kill n) ts (λ n. refl)
plain_clean setup w.Lose ts h = attempt_clean (λ n. e.Lose n) ts (λ n. refl)
plain_clean setup w.Miss ts h = attempt_clean (λ n. e.Miss n) ts (λ n. refl)
plain_clean setup w.Switch ts h =
    bind_any is_clean_event (engine_at setup ts) _ (λ x.
    bind_any is_clean_event (mode_at x.1) _ (λ y. made_clean is_clean_event (λ n. e.Switch n y.0) x.0 y.1 (λ n. refl)))
plain_clean setup w.EndSwitch ts h = engine_clean (λ n. e.EndSwitch n) setup ts (λ n. refl)
plain_clean setup w.Trim ts h = engine_clean (λ n. e.Trim n) setup ts (λ n. refl)
plain_clean setup w.Sweep ts h = engine_clean (λ n. e.Sweep n) setup ts (λ n. refl)
plain_clean setup w.Append ts h = append_clean setup ts h
plain_clean setup w.Cond ts h = cond_clean setup ts h
plain_clean setup w.Next ts h = tag_event_clean (λ n tag m. e.Next n tag (record { 0 = m })) setup ts (λ n tag m. refl)
plain_clean setup w.Prev ts h = tag_event_clean (λ n tag m. e.Prev n tag (record { 0 = m })) setup ts (λ n tag m. refl)
plain_clean setup w.Tail ts h =
    bind_any is_clean_event (engine_at setup ts) _ (λ x.
    bind_any is_clean_event (tag_at x.1) _ (λ y. made_clean is_clean_event (λ p. e.Tail p.0 p.1) (both_checked x.0 y.0) y.1 (λ p. refl)))
plain_clean setup w.TrimTag ts h = tag_event_clean (λ n tag m. e.TrimTag n tag (record { 0 = m })) setup ts (λ n tag m. refl)
plain_clean setup w.Settled ts h =
    bind_any is_clean_event (engine_at setup ts) _ (λ x.
    bind_any is_clean_event (sent_position_at setup.shards x.1) _ (λ y. made_clean is_clean_event (λ p. e.Settled p.0 p.1.0 p.1.1) (both_checked x.0 y.0) y.1 (λ p. refl)))
plain_clean setup w.SetAux ts h = set_aux_clean setup ts h
plain_clean setup w.GetAux ts h =
    bind_any is_clean_event (engine_at setup ts) _ (λ x.
    bind_any is_clean_event (u64_at x.1) _ (λ y. made_clean is_clean_event (λ p. e.GetAux p.0 (record { 0 = p.1 })) (both_checked x.0 y.0) y.1 (λ p. refl)))
plain_clean setup w.Seed ts h = bind_any is_clean_event (u64_at ts) _ (λ x. made_clean is_clean_event (λ n. e.Seed n) x.0 x.1 (λ n. refl))

-- Calls, and whole lines.
abbrev pub is_clean_entry : Entry → Bool
is_clean_entry x = is_clean_event x.event

submit_clean : (setup : Setup) (fs : List Function) (ts : List Token) → are_clean ts ≡ true → IfLineValid is_clean_entry (submit_of setup fs ts)
submit_clean setup fs ts h =
    bind_clean (λ _. true) is_clean_entry (engine_at setup ts) _ (number_clean 1 setup.engines ts h) (λ x _ c.
    bind_clean (λ _. true) is_clean_entry (request_at x.1) _ (number_clean 1 1048575 x.1 c) (λ y _ d.
    bind_if_valid call_test is_clean_entry (call_at y.1) _ (call_clean y.1 d) (λ z g.
    last_clean call_test is_clean_entry (submit_entry fs) (both_checked x.0 y.0) z.0 z.1 (λ p k. k) g)))

callless_clean : (o : Option (Checked Event)) → Clean o → IfLineValid is_clean_entry (entry_of_event o)
callless_clean None h = tt
callless_clean (Some x) h = map_if_valid is_clean_event is_clean_entry entry_without_call x (λ y k. k) h

plain_by_clean : (setup : Setup) (o : Option Verb) (ts : List Token) → are_clean ts ≡ true → Clean (event_of_verb_if setup o ts)
plain_by_clean setup None ts h = tt
plain_by_clean setup (Some verb) ts h = plain_clean setup verb ts h

worded_by : (setup : Setup) (fs : List Function) (b : Bool) (o : Option Verb) (ts : List Token) → are_clean ts ≡ true → IfLineValid is_clean_entry (cond b (submit_of setup fs ts) (entry_of_event (event_of_verb_if setup o ts)))
worded_by setup fs true o ts h = submit_clean setup fs ts h
worded_by setup fs false o ts h = callless_clean (event_of_verb_if setup o ts) (plain_by_clean setup o ts h)

pub worded_clean : (setup : Setup) (fs : List Function) (x : List ℕ) (ts : List Token) → are_clean ts ≡ true → IfLineValid is_clean_entry (entry_of_word setup fs x ts)
worded_clean setup fs x ts h = worded_by setup fs (bytes_eq x (codes "submit")) (verb_of x) ts h
