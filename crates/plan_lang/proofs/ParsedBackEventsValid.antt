-- An event whose printed line is read is one that a plan can have: what is read is the event, and what is read is in range.
use Rattle.std.proofs.Common.{◌≡◌, ℕ, ◌-◌, ◌^◌, Bool, true, List, [], ◌∷◌, ◌++◌, length, Option, Some, None, unwrap_or, refl, sym, ap, ◌∙◌, subst, arith}
use Rattle.std.specs.Prelude.{◌&&◌, ◌==◌, option_and_then, codes, nat_le}
use Rattle.std.specs.List.{list_all}
use Rattle.std.specs.Fmt.{decimal}
use Rattle.std.proofs.lemmas.Bool.Decides.{nat_tests}
use Rattle.lb_base.specs.declared.value.Mode.{Mode}
use Rattle.lb_base.specs.declared.value.Mode.TheVariants as mode
use Rattle.lb_base.specs.declared.value.Tag.{Tag}
use Rattle.lb_base.specs.declared.value.Value.{Value}
use Rattle.lb_base.specs.Path.{is_path}
use Rattle.lb_base.specs.Print.{path_text}
use Rattle.boki_types.specs.declared.event.Event.{Event}
use Rattle.boki_types.specs.declared.event.Event.TheVariants as e
use Rattle.boki_types.specs.declared.plan.Setup.{Setup}
use Rattle.boki_types.specs.declared.program.Function.{Function}
use Rattle.boki_types.specs.Finding.{function_at}
use Rattle.boki_model.specs.Bodies.{is_identifier}
use Rattle.boki_model.specs.Bodies.{is_u64}
use Rattle.boki_model.specs.Plans.{is_user_tag, has_arity, function_names, distinct, is_function, is_program, is_event}
use Rattle.line_text.specs.declared.token.Token.{Token}
use Rattle.line_text.specs.declared.token.Token.TheVariants as t
use Rattle.line_text.specs.declared.checked.Checked.{Checked}
use Rattle.line_text.specs.declared.checked.Checked.TheVariants as r
use Rattle.line_text.specs.Stream.{found_before}
use Rattle.line_text.specs.Tokens.{word_token, keyword_of, tokens_in}
use Rattle.line_text.specs.Checks.{both_checked, map_checked, checked_if}
use Rattle.line_text.specs.Readers.{if_at_end}
use Rattle.script_lang.specs.Statements.{call_at}
use Rattle.script_lang.proofs.StmtTokensParseBack.{list_tokens}
use Rattle.plan_lang.specs.declared.events.Entry.{Entry}
use Rattle.plan_lang.specs.Events.{verb_of, function_number_of, submit_entry, submit_of, start_of, settled_of, append_of, cond_of, entry_without_call, entry_of_event, entry_of}
use Rattle.line_text.specs.Fields.{number_in_range, path_at, sent_position_of, sent_position_at, tags_at}
use Rattle.plan_lang.specs.Printed.{name_or_none, function_name_at, event_text}
use Rattle.plan_lang.specs.Typed.{is_typed, is_typed_value, is_typed_tag}
use Rattle.plan_lang.proofs.EventsParseBack.{known, identifiers}
use Rattle.plan_lang.proofs.FieldsParseUniquely.{Only, OnlyAt, OnlyWhole, only_if, only_map, only_both, only_bind, tags_only, call_only, number_cut, number_then, text_cut, tagged_cut, args_text, args_tokens, args_cut, call_cut, small_place, place_cut}
use Rattle.plan_lang.proofs.EventsInRange.{read_entry_is_event}
use Rattle.line_text.proofs.FieldsInRange.{split_true}
use Rattle.plan_lang.proofs.PathsParseBack.{numbers_parse_back, path_token, path_lexed, path_small, path_parses_back}
use Rattle.plan_lang.proofs.FieldTextLexes.{Cuts, whole, spaced, behind_word, word_piece, tag_token}

-- An event is told where its line is cut into tokens, and nothing but the event is read of them.
abbrev IsEntry : Event → Checked Entry → Type 0
IsEntry x (r.Valid y) = y.event ≡ x
IsEntry x r.OutOfRange = Unit {0}
IsEntry x r.TooDeep = Unit {0}

abbrev IsParsedBack : Event → Option (Checked Entry) → Type 0
IsParsedBack x None = Unit {0}
IsParsedBack x (Some y) = IsEntry x y

record Told (setup : Setup) (fs : List Function) (x : Event) : Type 0 where
  pub tokens : List Token
  pub cut : Cuts (event_text fs x) tokens
  pub tells : IsParsedBack x (entry_of setup fs tokens)

by_told : (setup : Setup) (fs : List Function) (x : Event) (y : Entry) → Told setup fs x → option_and_then (entry_of setup fs) (tokens_in (event_text fs x)) ≡ Some (r.Valid y) → y.fault ≡ None → is_event setup fs x ≡ true
by_told setup fs x y h read none =
    let found : entry_of setup fs h.tokens ≡ Some (r.Valid y) = ap (option_and_then (entry_of setup fs)) (sym (whole (event_text fs x) h.tokens h.cut)) ∙ read in
    let P : Option (Checked Entry) → Type 0 = λ o. IsParsedBack x o in
    let same : y.event ≡ x = subst P found h.tells in
    let Q : Event → Type 0 = λ z. is_event setup fs z ≡ true in
    subst Q same (read_entry_is_event setup fs h.tokens y found none)

plain_rated : (x : Event) (y : Checked Event) → Only x y → IsEntry x (map_checked entry_without_call y)
plain_rated x (r.Valid z) h = h
plain_rated x r.OutOfRange h = tt
plain_rated x r.TooDeep h = tt

plain_tells : (x : Event) (o : Option (Checked Event)) → OnlyWhole x o → IsParsedBack x (entry_of_event o)
plain_tells x None h = tt
plain_tells x (Some y) h = plain_rated x y h

-- Fields that are numbers.
number_only : (low high n : ℕ) → Only n (number_in_range low high (Some n))
number_only low high n = only_if (nat_le low n && nat_le n high) n

pair_only : (low high n low' high' m : ℕ) → Only (n, m) (both_checked (number_in_range low high (Some n)) (number_in_range low' high' (Some m)))
pair_only low high n low' high' m = only_both n m (number_in_range low high (Some n)) (number_in_range low' high' (Some m)) (number_only low high n) (number_only low' high' m)

one_told : (make : ℕ → Event) (low high n : ℕ) → IsParsedBack (make n) (entry_of_event (Some (map_checked make (number_in_range low high (Some n)))))
one_told make low high n = plain_rated (make n) (map_checked make (number_in_range low high (Some n))) (only_map make n (number_in_range low high (Some n)) (number_only low high n))

three_told : (make : ℕ → Tag → ℕ → Event) (high n : ℕ) (tag : Tag) (o : ℕ) → IsParsedBack (make n tag o) (entry_of_event (Some (map_checked (λ (p : (ℕ × Tag) × ℕ). make p.0.0 p.0.1 p.1) (both_checked (both_checked (number_in_range 1 high (Some n)) (checked_if (is_user_tag tag) tag)) (number_in_range 0 (2 ^ 64 - 1) (Some o))))))
three_told make high n tag o =
    let engine = number_in_range 1 high (Some n) in
    let last = number_in_range 0 (2 ^ 64 - 1) (Some o) in
    let front = only_both n tag engine (checked_if (is_user_tag tag) tag) (number_only 1 high n) (only_if (is_user_tag tag) tag) in
    plain_rated (make n tag o) _ (only_map (λ (p : (ℕ × Tag) × ℕ). make p.0.0 p.0.1 p.1) ((n, tag), o) (both_checked (both_checked engine (checked_if (is_user_tag tag) tag)) last)
    (only_both (n, tag) o (both_checked engine (checked_if (is_user_tag tag) tag)) last front (number_only 0 (2 ^ 64 - 1) o)))

catch_told : (setup : Setup) (fs : List Function) (n : ℕ) → is_u64 n ≡ true → Told setup fs (e.Catch n)
unfolding word_token keyword_of verb_of
catch_told setup fs n h = record { tokens = _; cut = behind_word (codes "catch") (decimal n) _ refl refl (number_cut n h); tells = one_told (λ k. e.Catch k) 1 setup.engines n }

restart_told : (setup : Setup) (fs : List Function) (n : ℕ) → is_u64 n ≡ true → Told setup fs (e.Restart n)
unfolding word_token keyword_of verb_of
restart_told setup fs n h = record { tokens = _; cut = behind_word (codes "restart") (decimal n) _ refl refl (number_cut n h); tells = one_told (λ k. e.Restart k) 1 setup.engines n }

end_switch_told : (setup : Setup) (fs : List Function) (n : ℕ) → is_u64 n ≡ true → Told setup fs (e.EndSwitch n)
unfolding word_token keyword_of verb_of
end_switch_told setup fs n h = record { tokens = _; cut = behind_word (codes "endswitch") (decimal n) _ refl refl (number_cut n h); tells = one_told (λ k. e.EndSwitch k) 1 setup.engines n }

trim_told : (setup : Setup) (fs : List Function) (n : ℕ) → is_u64 n ≡ true → Told setup fs (e.Trim n)
unfolding word_token keyword_of verb_of
trim_told setup fs n h = record { tokens = _; cut = behind_word (codes "trim") (decimal n) _ refl refl (number_cut n h); tells = one_told (λ k. e.Trim k) 1 setup.engines n }

sweep_told : (setup : Setup) (fs : List Function) (n : ℕ) → is_u64 n ≡ true → Told setup fs (e.Sweep n)
unfolding word_token keyword_of verb_of
sweep_told setup fs n h = record { tokens = _; cut = behind_word (codes "sweep") (decimal n) _ refl refl (number_cut n h); tells = one_told (λ k. e.Sweep k) 1 setup.engines n }

step_told : (setup : Setup) (fs : List Function) (n : ℕ) → is_u64 n ≡ true → Told setup fs (e.Step n)
unfolding word_token keyword_of verb_of
step_told setup fs n h = record { tokens = _; cut = behind_word (codes "step") (decimal n) _ refl refl (number_cut n h); tells = one_told (λ k. e.Step k) 1 4096 n }

kill_told : (setup : Setup) (fs : List Function) (n : ℕ) → is_u64 n ≡ true → Told setup fs (e.Kill n)
unfolding word_token keyword_of verb_of
kill_told setup fs n h = record { tokens = _; cut = behind_word (codes "kill") (decimal n) _ refl refl (number_cut n h); tells = one_told (λ k. e.Kill k) 1 4096 n }

lose_told : (setup : Setup) (fs : List Function) (n : ℕ) → is_u64 n ≡ true → Told setup fs (e.Lose n)
unfolding word_token keyword_of verb_of
lose_told setup fs n h = record { tokens = _; cut = behind_word (codes "lose") (decimal n) _ refl refl (number_cut n h); tells = one_told (λ k. e.Lose k) 1 4096 n }

miss_told : (setup : Setup) (fs : List Function) (n : ℕ) → is_u64 n ≡ true → Told setup fs (e.Miss n)
unfolding word_token keyword_of verb_of
miss_told setup fs n h = record { tokens = _; cut = behind_word (codes "miss") (decimal n) _ refl refl (number_cut n h); tells = one_told (λ k. e.Miss k) 1 4096 n }

seed_told : (setup : Setup) (fs : List Function) (n : ℕ) → is_u64 n ≡ true → Told setup fs (e.Seed n)
unfolding word_token keyword_of verb_of
seed_told setup fs n h = record { tokens = _; cut = behind_word (codes "seed") (decimal n) _ refl refl (number_cut n h); tells = one_told (λ k. e.Seed k) 0 (2 ^ 64 - 1) n }

cut_told : (setup : Setup) (fs : List Function) → Told setup fs e.Cut
unfolding word_token keyword_of verb_of
cut_told setup fs = record { tokens = _; cut = word_piece (codes "cut") refl refl; tells = refl }

sync_told : (setup : Setup) (fs : List Function) → Told setup fs e.Sync
unfolding word_token keyword_of verb_of
sync_told setup fs = record { tokens = _; cut = word_piece (codes "sync") refl refl; tells = refl }

copy_told : (setup : Setup) (fs : List Function) (shard replica n : ℕ) → is_u64 shard ≡ true → is_u64 replica ≡ true → is_u64 n ≡ true → Told setup fs (e.Copy shard replica n)
unfolding word_token keyword_of verb_of
copy_told setup fs shard replica n h k l = record {
  tokens = _;
  cut = behind_word (codes "copy") _ _ refl refl (number_then shard _ _ h (number_then replica _ _ k (number_cut n l)));
  tells = plain_rated (e.Copy shard replica n) _ (only_map (λ (p : (ℕ × ℕ) × ℕ). e.Copy p.0.0 p.0.1 p.1) ((shard, replica), n) _ (only_both (shard, replica) n (both_checked (number_in_range 1 setup.shards (Some shard)) (number_in_range 2 setup.replicas (Some replica))) (number_in_range 0 (2 ^ 64 - 1) (Some n)) (pair_only 1 setup.shards shard 2 setup.replicas replica) (number_only 0 (2 ^ 64 - 1) n)));
}

next_told : (setup : Setup) (fs : List Function) (n : ℕ) (tag : Tag) (o : ℕ) → is_u64 n ≡ true → is_typed_tag tag ≡ true → is_u64 o ≡ true → Told setup fs (e.Next n tag (record { 0 = o }))
unfolding word_token keyword_of verb_of
next_told setup fs n tag o h k l = record {
  tokens = _;
  cut = behind_word (codes "next") _ _ refl refl (number_then n _ _ h (number_then tag.0 _ _ k (number_cut o l)));
  tells = three_told (λ a b c. e.Next a b (record { 0 = c })) setup.engines n tag o;
}

prev_told : (setup : Setup) (fs : List Function) (n : ℕ) (tag : Tag) (o : ℕ) → is_u64 n ≡ true → is_typed_tag tag ≡ true → is_u64 o ≡ true → Told setup fs (e.Prev n tag (record { 0 = o }))
unfolding word_token keyword_of verb_of
prev_told setup fs n tag o h k l = record {
  tokens = _;
  cut = behind_word (codes "prev") _ _ refl refl (number_then n _ _ h (number_then tag.0 _ _ k (number_cut o l)));
  tells = three_told (λ a b c. e.Prev a b (record { 0 = c })) setup.engines n tag o;
}

trim_tag_told : (setup : Setup) (fs : List Function) (n : ℕ) (tag : Tag) (o : ℕ) → is_u64 n ≡ true → is_typed_tag tag ≡ true → is_u64 o ≡ true → Told setup fs (e.TrimTag n tag (record { 0 = o }))
unfolding word_token keyword_of verb_of
trim_tag_told setup fs n tag o h k l = record {
  tokens = _;
  cut = behind_word (codes "trimtag") _ _ refl refl (number_then n _ _ h (number_then tag.0 _ _ k (number_cut o l)));
  tells = three_told (λ a b c. e.TrimTag a b (record { 0 = c })) setup.engines n tag o;
}

tail_told : (setup : Setup) (fs : List Function) (n : ℕ) (tag : Tag) → is_u64 n ≡ true → is_typed_tag tag ≡ true → Told setup fs (e.Tail n tag)
unfolding word_token keyword_of verb_of
tail_told setup fs n tag h k = record {
  tokens = _;
  cut = behind_word (codes "tail") _ _ refl refl (number_then n _ _ h (number_cut tag.0 k));
  tells = plain_rated (e.Tail n tag) _ (only_map (λ (p : ℕ × Tag). e.Tail p.0 p.1) (n, tag) _ (only_both n tag (number_in_range 1 setup.engines (Some n)) (checked_if (is_user_tag tag) tag) (number_only 1 setup.engines n) (only_if (is_user_tag tag) tag)));
}

get_aux_told : (setup : Setup) (fs : List Function) (n o : ℕ) → is_u64 n ≡ true → is_u64 o ≡ true → Told setup fs (e.GetAux n (record { 0 = o }))
unfolding word_token keyword_of verb_of
get_aux_told setup fs n o h k = record {
  tokens = _;
  cut = behind_word (codes "getaux") _ _ refl refl (number_then n _ _ h (number_cut o k));
  tells = plain_rated (e.GetAux n (record { 0 = o })) _ (only_map (λ (p : ℕ × ℕ). e.GetAux p.0 (record { 0 = p.1 })) (n, o) _ (pair_only 1 setup.engines n 0 (2 ^ 64 - 1) o));
}

-- A mode; `T` is none.
switch_told : (setup : Setup) (fs : List Function) (n : ℕ) (target : Mode) → is_u64 n ≡ true → Told setup fs (e.Switch n target)
unfolding word_token keyword_of verb_of
switch_told setup fs n mode.R h = record {
  tokens = _;
  cut = behind_word (codes "switch") _ _ refl refl (number_then n _ _ h (word_piece (codes "R") refl refl));
  tells = one_told (λ k. e.Switch k mode.R) 1 setup.engines n;
}
switch_told setup fs n mode.W h = record {
  tokens = _;
  cut = behind_word (codes "switch") _ _ refl refl (number_then n _ _ h (word_piece (codes "W") refl refl));
  tells = one_told (λ k. e.Switch k mode.W) 1 setup.engines n;
}
switch_told setup fs n mode.T h = record {
  tokens = _;
  cut = behind_word (codes "switch") _ _ refl refl (number_then n _ _ h (word_piece (codes "T") refl refl));
  tells = tt;
}

-- A path.
path_only : (p : List ℕ) (rest : List Token) → is_path p ≡ true → OnlyAt p rest (path_at (path_token p ∷ rest))
path_only p rest h =
    let P : Option (Checked (List ℕ) × List Token) → Type 0 = λ o. OnlyAt p rest o in
    subst P (sym (path_parses_back p rest h)) (refl, refl)

start_only : (setup : Setup) (attempt engine : ℕ) (path : List ℕ) → is_path path ≡ true → OnlyWhole (e.Start attempt path engine) (start_of setup (t.Numeral (Some attempt) ∷ path_token path ∷ t.Numeral (Some engine) ∷ []))
start_only setup attempt engine path h =
    let number = number_in_range 1 4096 (Some attempt) in
    let last = number_in_range 1 setup.engines (Some engine) in
    let rest = t.Numeral (Some engine) ∷ [] in
    only_bind (e.Start attempt path engine) path rest (path_at (path_token path ∷ rest)) _ (path_only path rest h) (λ x g.
    only_map (λ (q : (ℕ × List ℕ) × ℕ). e.Start q.0.0 q.0.1 q.1) ((attempt, path), engine) (both_checked (both_checked number x) last)
    (only_both (attempt, path) engine (both_checked number x) last (only_both attempt path number x (number_only 1 4096 attempt) g) (number_only 1 setup.engines engine)))

start_told : (setup : Setup) (fs : List Function) (attempt engine : ℕ) (path : List ℕ) → is_u64 attempt ≡ true → is_path path ≡ true → is_u64 engine ≡ true → Told setup fs (e.Start attempt path engine)
unfolding word_token keyword_of verb_of
start_told setup fs attempt engine path h k l =
    let p = path_small path k in record {
      tokens = t.Name (codes "start") ∷ t.Numeral (Some attempt) ∷ path_token path ∷ t.Numeral (Some engine) ∷ [];
      cut = behind_word (codes "start") _ _ refl refl (number_then attempt _ _ h (spaced (path_text path) (decimal engine) (path_token path ∷ []) (t.Numeral (Some engine) ∷ []) (record { cut = path_lexed path p.0 p.1 }) (number_cut engine l)));
      tells = plain_tells (e.Start attempt path engine) (start_of setup (t.Numeral (Some attempt) ∷ path_token path ∷ t.Numeral (Some engine) ∷ [])) (start_only setup attempt engine path k);
    }

-- Texts, with tags or without.
short_only : (text : List ℕ) → Only text (checked_if (nat_le (length text) 256) text)
short_only text = only_if (nat_le (length text) 256) text

set_aux_told : (setup : Setup) (fs : List Function) (n o : ℕ) (text : List ℕ) → is_u64 n ≡ true → is_u64 o ≡ true → Told setup fs (e.SetAux n (record { 0 = o }) text)
unfolding word_token keyword_of verb_of
set_aux_told setup fs n o text h k = record {
  tokens = _;
  cut = behind_word (codes "setaux") _ _ refl refl (number_then n _ _ h (number_then o _ _ k (text_cut text)));
  tells = plain_rated (e.SetAux n (record { 0 = o }) text) _ (only_map (λ (p : (ℕ × ℕ) × List ℕ). e.SetAux p.0.0 (record { 0 = p.0.1 }) p.1) ((n, o), text) _ (only_both (n, o) text (both_checked (number_in_range 1 setup.engines (Some n)) (number_in_range 0 (2 ^ 64 - 1) (Some o))) (checked_if (nat_le (length text) 256) text) (pair_only 1 setup.engines n 0 (2 ^ 64 - 1) o) (short_only text)));
}

append_only : (setup : Setup) (n : ℕ) (tags : List Tag) (text : List ℕ) → list_all is_typed_tag tags ≡ true → OnlyWhole (e.Append n tags text) (append_of setup (t.Numeral (Some n) ∷ (list_tokens tag_token tags ++ t.Text text ∷ [])))
append_only setup n tags text h =
    let engine = number_in_range 1 setup.engines (Some n) in
    let short = checked_if (nat_le (length text) 256) text in
    only_bind (e.Append n tags text) tags (t.Text text ∷ []) (tags_at (list_tokens tag_token tags ++ t.Text text ∷ [])) _ (tags_only tags text h) (λ x g.
    only_map (λ (q : (ℕ × List Tag) × List ℕ). e.Append q.0.0 q.0.1 q.1) ((n, tags), text) (both_checked (both_checked engine x) short)
    (only_both (n, tags) text (both_checked engine x) short (only_both n tags engine x (number_only 1 setup.engines n) g) (short_only text)))

append_told : (setup : Setup) (fs : List Function) (n : ℕ) (tags : List Tag) (text : List ℕ) → is_u64 n ≡ true → list_all is_typed_tag tags ≡ true → Told setup fs (e.Append n tags text)
unfolding word_token keyword_of verb_of
append_told setup fs n tags text h k = record {
  tokens = t.Name (codes "append") ∷ t.Numeral (Some n) ∷ (list_tokens tag_token tags ++ t.Text text ∷ []);
  cut = behind_word (codes "append") _ _ refl refl (number_then n _ _ h (tagged_cut tags text k));
  tells = plain_tells (e.Append n tags text) (append_of setup (t.Numeral (Some n) ∷ (list_tokens tag_token tags ++ t.Text text ∷ []))) (append_only setup n tags text k);
}

cond_event_only : (setup : Setup) (n o : ℕ) (tags : List Tag) (text : List ℕ) → list_all is_typed_tag tags ≡ true → OnlyWhole (e.Cond n o tags text) (cond_of setup (t.Numeral (Some n) ∷ t.Numeral (Some o) ∷ (list_tokens tag_token tags ++ t.Text text ∷ [])))
cond_event_only setup n o tags text h =
    let front = both_checked (number_in_range 1 setup.engines (Some n)) (number_in_range 0 (2 ^ 64 - 1) (Some o)) in
    let short = checked_if (nat_le (length text) 256) text in
    only_bind (e.Cond n o tags text) tags (t.Text text ∷ []) (tags_at (list_tokens tag_token tags ++ t.Text text ∷ [])) _ (tags_only tags text h) (λ x g.
    only_map (λ (q : (ℕ × ℕ) × (List Tag × List ℕ)). e.Cond q.0.0 q.0.1 q.1.0 q.1.1) ((n, o), (tags, text)) (both_checked front (both_checked x short))
    (only_both (n, o) (tags, text) front (both_checked x short) (pair_only 1 setup.engines n 0 (2 ^ 64 - 1) o) (only_both tags text x short g (short_only text))))

cond_told : (setup : Setup) (fs : List Function) (n o : ℕ) (tags : List Tag) (text : List ℕ) → is_u64 n ≡ true → is_u64 o ≡ true → list_all is_typed_tag tags ≡ true → Told setup fs (e.Cond n o tags text)
unfolding word_token keyword_of verb_of
cond_told setup fs n o tags text h l k = record {
  tokens = t.Name (codes "cond") ∷ t.Numeral (Some n) ∷ t.Numeral (Some o) ∷ (list_tokens tag_token tags ++ t.Text text ∷ []);
  cut = behind_word (codes "cond") _ _ refl refl (number_then n _ _ h (number_then o _ _ l (tagged_cut tags text k)));
  tells = plain_tells (e.Cond n o tags text) (cond_of setup (t.Numeral (Some n) ∷ t.Numeral (Some o) ∷ (list_tokens tag_token tags ++ t.Text text ∷ []))) (cond_event_only setup n o tags text k);
}

-- A place in a shard.
place_only : (setup : Setup) (shard local : ℕ) → is_u64 shard ≡ true → is_u64 local ≡ true → OnlyAt (shard, local) [] (sent_position_at setup.shards (t.Dotted (path_text (shard ∷ local ∷ [])) ∷ []))
place_only setup shard local h k =
    let P : Option (List (Option ℕ)) → Type 0 = λ o. OnlyAt (shard, local) [] (found_before [] (option_and_then (sent_position_of setup.shards) o)) in
    subst P (sym (numbers_parse_back shard (local ∷ []) (small_place shard local h k))) (pair_only 1 setup.shards shard 1 (2 ^ 64 - 1) local, refl)

settled_only : (setup : Setup) (n shard local : ℕ) → is_u64 shard ≡ true → is_u64 local ≡ true → OnlyWhole (e.Settled n shard local) (settled_of setup (t.Numeral (Some n) ∷ t.Dotted (path_text (shard ∷ local ∷ [])) ∷ []))
settled_only setup n shard local h k =
    let engine = number_in_range 1 setup.engines (Some n) in
    only_bind (e.Settled n shard local) (shard, local) [] (sent_position_at setup.shards (t.Dotted (path_text (shard ∷ local ∷ [])) ∷ [])) _ (place_only setup shard local h k) (λ x g.
    only_map (λ (q : ℕ × (ℕ × ℕ)). e.Settled q.0 q.1.0 q.1.1) (n, (shard, local)) (both_checked engine x) (only_both n (shard, local) engine x (number_only 1 setup.engines n) g))

settled_told : (setup : Setup) (fs : List Function) (n shard local : ℕ) → is_u64 n ≡ true → is_u64 shard ≡ true → is_u64 local ≡ true → Told setup fs (e.Settled n shard local)
unfolding word_token keyword_of verb_of
settled_told setup fs n shard local h k l = record {
  tokens = t.Name (codes "settled") ∷ t.Numeral (Some n) ∷ t.Dotted (path_text (shard ∷ local ∷ [])) ∷ [];
  cut = behind_word (codes "settled") _ _ refl refl (number_then n _ _ h (place_cut shard local k l));
  tells = plain_tells (e.Settled n shard local) (settled_of setup (t.Numeral (Some n) ∷ t.Dotted (path_text (shard ∷ local ∷ [])) ∷ [])) (settled_only setup n shard local k l);
}

-- A call. A function that isn't there has no name, so that no call is read.
submitted_is : (fs : List Function) (n q f : ℕ) (args : List Value) (name : List ℕ) (x : Checked ((ℕ × ℕ) × (List ℕ × List Value))) → function_number_of fs name ≡ f → Only ((n, q), (name, args)) x → IsEntry (e.Submit n q f args) (map_checked (submit_entry fs) x)
submitted_is fs n q f args name (r.Valid p) found h =
    ap (λ (p : (ℕ × ℕ) × (List ℕ × List Value)). e.Submit p.0.0 p.0.1 (function_number_of fs p.1.0) p.1.1) h ∙ ap (λ (k : ℕ). e.Submit n q k args) found
submitted_is fs n q f args name r.OutOfRange found h = tt
submitted_is fs n q f args name r.TooDeep found h = tt

behind_call : (fs : List Function) (n q f : ℕ) (args : List Value) (name : List ℕ) (front : Checked (ℕ × ℕ)) (o : Option (Checked (List ℕ × List Value) × List Token)) → function_number_of fs name ≡ f → Only (n, q) front → OnlyAt (name, args) [] o → IsParsedBack (e.Submit n q f args) (option_and_then (λ (c : Checked (List ℕ × List Value) × List Token). if_at_end c.1 (map_checked (submit_entry fs) (both_checked front c.0))) o)
behind_call fs n q f args name front None found h k = tt
behind_call fs n q f args name front (Some c) found h k =
    let P : List Token → Type 0 = λ l. IsParsedBack (e.Submit n q f args) (if_at_end l (map_checked (submit_entry fs) (both_checked front c.0))) in
    subst P (sym k.1) (submitted_is fs n q f args name (both_checked front c.0) found (only_both (n, q) (name, args) front c.0 h k.0))

submit_tells : (setup : Setup) (fs : List Function) (n q f : ℕ) (args : List Value) (name : List ℕ) → function_number_of fs name ≡ f → list_all is_typed_value args ≡ true → IsParsedBack (e.Submit n q f args) (submit_of setup fs (t.Numeral (Some n) ∷ t.Numeral (Some q) ∷ t.Name name ∷ args_tokens args))
submit_tells setup fs n q f args name found h =
    behind_call fs n q f args name (both_checked (number_in_range 1 setup.engines (Some n)) (number_in_range 1 1048575 (Some q))) (call_at (t.Name name ∷ args_tokens args)) found (pair_only 1 setup.engines n 1 1048575 q) (call_only name args h)

submit_cut : (n q : ℕ) (args : List Value) (name : List ℕ) (us : List Token) → is_u64 n ≡ true → is_u64 q ≡ true → Cuts (name ++ args_text args) us → Cuts (codes "submit" ++ (32 ∷ (decimal n ++ (32 ∷ (decimal q ++ (32 ∷ (name ++ args_text args))))))) (t.Name (codes "submit") ∷ t.Numeral (Some n) ∷ t.Numeral (Some q) ∷ us)
unfolding word_token keyword_of
submit_cut n q args name us h k c = behind_word (codes "submit") _ _ refl refl (number_then n _ _ h (number_then q _ _ k c))

submit_told : (setup : Setup) (fs : List Function) (n q f : ℕ) (args : List Value) (o : Option Function) → function_at f fs ≡ o → distinct (function_names fs) ≡ true → list_all is_identifier (function_names fs) ≡ true → is_u64 n ≡ true → is_u64 q ≡ true → list_all is_typed_value args ≡ true → Told setup fs (e.Submit n q f args)
submit_told setup fs n q f args None at d i h k a =
    let P : List ℕ → Type 0 = λ name. Cuts (name ++ args_text args) (args_tokens args) in record {
      tokens = t.Name (codes "submit") ∷ t.Numeral (Some n) ∷ t.Numeral (Some q) ∷ args_tokens args;
      cut = submit_cut n q args (function_name_at fs f) (args_tokens args) h k (subst P (sym (ap name_or_none at)) (args_cut args a));
      tells = tt;
    }
submit_told setup fs n q f args (Some g) at d i h k a =
    let same : (length g.params == length g.params) ≡ true = grind (arith, nat_tests) in
    let w = known fs f (length g.params) d i (ap (has_arity (length g.params)) at ∙ same) in record {
      tokens = t.Name (codes "submit") ∷ t.Numeral (Some n) ∷ t.Numeral (Some q) ∷ t.Name (function_name_at fs f) ∷ args_tokens args;
      cut = submit_cut n q args (function_name_at fs f) (t.Name (function_name_at fs f) ∷ args_tokens args) h k (call_cut (function_name_at fs f) args w.name a);
      tells = submit_tells setup fs n q f args (function_name_at fs f) (ap (λ o. unwrap_or o 0) w.found) a;
    }

-- All events.
three_true : (a b c : Bool) → ((a && b) && c) ≡ true → (a ≡ true) × (b ≡ true) × (c ≡ true)
three_true a b c h = let q = split_true (a && b) c h in let p = split_true a b q.0 in (p.0, p.1, q.1)

told : (setup : Setup) (fs : List Function) (x : Event) → distinct (function_names fs) ≡ true → list_all is_identifier (function_names fs) ≡ true → is_typed x ≡ true → Told setup fs x
told setup fs (e.Submit n q f args) d i h = let p = three_true _ _ _ h in submit_told setup fs n q f args (function_at f fs) refl d i p.0 p.1 p.2
told setup fs (e.Copy shard replica n) d i h = let p = three_true _ _ _ h in copy_told setup fs shard replica n p.0 p.1 p.2
told setup fs e.Cut d i h = cut_told setup fs
told setup fs (e.Catch n) d i h = catch_told setup fs n h
told setup fs e.Sync d i h = sync_told setup fs
told setup fs (e.Restart n) d i h = restart_told setup fs n h
told setup fs (e.Start attempt path n) d i h = let p = three_true _ _ _ h in start_told setup fs attempt n path p.0 p.1 p.2
told setup fs (e.Step n) d i h = step_told setup fs n h
told setup fs (e.Kill n) d i h = kill_told setup fs n h
told setup fs (e.Lose n) d i h = lose_told setup fs n h
told setup fs (e.Miss n) d i h = miss_told setup fs n h
told setup fs (e.Switch n target) d i h = switch_told setup fs n target h
told setup fs (e.EndSwitch n) d i h = end_switch_told setup fs n h
told setup fs (e.Trim n) d i h = trim_told setup fs n h
told setup fs (e.Sweep n) d i h = sweep_told setup fs n h
told setup fs (e.Append n tags text) d i h = let p = split_true _ _ h in append_told setup fs n tags text p.0 p.1
told setup fs (e.Cond n o tags text) d i h = let p = three_true _ _ _ h in cond_told setup fs n o tags text p.0 p.1 p.2
told setup fs (e.Next n tag o) d i h = let p = three_true _ _ _ h in next_told setup fs n tag o.0 p.0 p.1 p.2
told setup fs (e.Prev n tag o) d i h = let p = three_true _ _ _ h in prev_told setup fs n tag o.0 p.0 p.1 p.2
told setup fs (e.Tail n tag) d i h = let p = split_true _ _ h in tail_told setup fs n tag p.0 p.1
told setup fs (e.TrimTag n tag o) d i h = let p = three_true _ _ _ h in trim_tag_told setup fs n tag o.0 p.0 p.1 p.2
told setup fs (e.Settled n shard local) d i h = let p = three_true _ _ _ h in settled_told setup fs n shard local p.0 p.1 p.2
told setup fs (e.SetAux n o text) d i h = let p = split_true _ _ h in set_aux_told setup fs n o.0 text p.0 p.1
told setup fs (e.GetAux n o) d i h = let p = split_true _ _ h in get_aux_told setup fs n o.0 p.0 p.1
told setup fs (e.Seed n) d i h = seed_told setup fs n h

pub parsed_back_event_is_same : (setup : Setup) (fs : List Function) (x : Event) (y : Entry) → is_program (record { functions = fs }) ≡ true → is_typed x ≡ true → option_and_then (entry_of setup fs) (tokens_in (event_text fs x)) ≡ Some (r.Valid y) → y.fault ≡ None → is_event setup fs x ≡ true
parsed_back_event_is_same setup fs x y p h read none =
    let a = split_true (nat_le (length fs) 256 && distinct (function_names fs)) (list_all (is_function fs) fs) p in
    let b = split_true (nat_le (length fs) 256) (distinct (function_names fs)) a.0 in
    by_told setup fs x y (told setup fs x b.1 (identifiers fs fs a.1) h) read none
