-- The printed line of a turn is read again as the turn.
use Rattle.std.proofs.Common.{◌≡◌, ℕ, ◌<◌, ◌^◌, Bool, true, false, cond, List, [], ◌∷◌, ◌++◌, length, Option, Some, None, refl, sym, ap, ◌∙◌, subst, append_assoc, arith}
use Rattle.std.specs.Prelude.{◌&&◌, option_and_then, unwrap_or, bytes_eq, codes, nat_le}
use Rattle.std.specs.List.{list_all}
use Rattle.std.specs.Fmt.{decimal}
use Rattle.std.proofs.lemmas.Bool.Decides.{nat_tests}
use Rattle.lb_base.specs.declared.value.Value.{Value}
use Rattle.lb_base.specs.Path.{is_path, is_request}
use Rattle.lb_base.specs.Print.{path_text, value_text}
use Rattle.boki_types.specs.declared.kind.Kind.{Kind}
use Rattle.boki_types.specs.declared.program.Function.{Function}
use Rattle.boki_types.specs.declared.turn.Turn.{Turn}
use Rattle.boki_types.specs.declared.turn.Turn.TheVariants as u
use Rattle.boki_types.specs.Finding.{function_at}
use Rattle.boki_model.specs.Bodies.{has_identifier_characters, is_identifier, is_value}
use Rattle.boki_model.specs.Plans.{in_bounds, has_arity, function_names, distinct, is_function, is_program}
use Rattle.line_text.specs.declared.token.Keyword.TheVariants as k
use Rattle.line_text.specs.declared.token.Token.{Token}
use Rattle.line_text.specs.declared.token.Token.TheVariants as t
use Rattle.line_text.specs.declared.checked.Checked.{Checked}
use Rattle.line_text.specs.declared.checked.Checked.TheVariants as r
use Rattle.script_lang.specs.Names.{call_fault}
use Rattle.script_lang.specs.Printed.{comma_joined}
use Rattle.line_text.specs.Checks.{both_checked, map_checked}
use Rattle.line_text.specs.Readers.{if_at_end}
use Rattle.script_lang.specs.Statements.{call_at}
use Rattle.line_text.specs.Tokens.{word_token, keyword_of, tokens_in}
use Rattle.script_lang.proofs.ExprTextLexes.{Lexed, space, word_lexed}
use Rattle.plan_lang.specs.declared.turns.TurnEntry.{TurnEntry}
use Rattle.plan_lang.specs.Events.{function_number_of, request_at}
use Rattle.line_text.specs.Fields.{number_in_range, number_at, path_at}
use Rattle.plan_lang.specs.Printed.{function_name_at, turn_text}
use Rattle.plan_lang.specs.Turns.{submit_turn_entry, submit_turn_of, turn_without_call, go_turn_of, end_turn_of, turn_behind, turn_of}
use Rattle.plan_lang.specs.TurnTexts.{is_turn}
use Rattle.plan_lang.proofs.EventsParseBack.{two_fine, low_request, request_flag, Known, known, identifiers}
use Rattle.plan_lang.proofs.FieldsParseBack.{call_parses_back}
use Rattle.plan_lang.proofs.EventsInRange.{call_is_sound as called_good, by_fault, call_test, call_in_range, request_in_range}
use Rattle.line_text.proofs.FieldsInRange.{IfLineValid, map_if_valid, both_true, split_true, pair_test, both_if_valid, at_end_if_valid, bind_if_valid, number_at_in_range, path_in_range}
use Rattle.plan_lang.proofs.PathsParseBack.{path_token, path_lexed, path_small, path_parses_back}
use Rattle.plan_lang.proofs.FieldTextLexes.{Cuts, whole, number_piece, spaced, behind_word, call_tokens, call_piece}

abbrev pub ParsesBack : List Function → Turn → Type 0
ParsesBack fs x = option_and_then (turn_of fs) (tokens_in (turn_text fs x)) ≡ Some (r.Valid (turn_without_call x))

again : (fs : List Function) (text : List ℕ) (us : List Token) (found : Option (Checked TurnEntry)) → Cuts text us → turn_of fs us ≡ found → option_and_then (turn_of fs) (tokens_in text) ≡ found
again fs text us found l h = ap (option_and_then (turn_of fs)) (whole text us l) ∙ h

-- a reserved word before others
behind_key : (w : List ℕ) (k : Token) (b : List ℕ) (vs : List Token) → word_token w ≡ k → has_identifier_characters w ≡ true → Cuts b vs → Cuts (w ++ (32 ∷ b)) (k ∷ vs)
behind_key w k b vs e i g = record {
  cut = λ rest ts s d.
      let P : List ℕ → Type 0 = λ l. Lexed l (k ∷ (vs ++ ts)) in
      subst P (sym (append_assoc w (32 ∷ b) rest)) (word_lexed w k (32 ∷ (b ++ rest)) (vs ++ ts) e i refl (space (g.cut rest ts s d)));
}

-- A call.
submit_by : (fs : List Function) (q f : ℕ) (args : List Value) → is_request q ≡ true → list_all is_value args ≡ true → Known fs f (length args) → submit_turn_of fs (t.Numeral (Some q) ∷ call_tokens (function_name_at fs f) args) ≡ Some (r.Valid (turn_without_call (u.Submit q f args)))
submit_by fs q f args k a w =
    let name = function_name_at fs f in
    ap (λ (o : Option (Checked (List ℕ × List Value) × List Token)). option_and_then (λ (c : Checked (List ℕ × List Value) × List Token). if_at_end c.1 (map_checked (submit_turn_entry fs) (both_checked (number_in_range 1 1048575 (Some q)) c.0))) o) (call_parses_back name args w.name a)
    ∙ ap (λ y. Some y) (two_fine (submit_turn_entry fs) q (name, args) (in_bounds 1 1048575 q) true (request_flag q k) refl)
    ∙ ap (λ (o : Option ℕ). Some (r.Valid (record { turn = u.Submit q (unwrap_or o 0) args; fault = call_fault fs name (length args) }))) w.found
    ∙ ap (λ (o : Option Kind). Some (r.Valid (record { turn = u.Submit q f args; fault = o }))) w.fault

submit_again : (fs : List Function) (q f : ℕ) (args : List Value) → is_request q ≡ true → list_all is_value args ≡ true → Known fs f (length args) → ParsesBack fs (u.Submit q f args)
unfolding word_token keyword_of
submit_again fs q f args k a w =
    let name = function_name_at fs f in
    let call = name ++ (codes "(" ++ (comma_joined value_text args ++ codes ")")) in
    again fs _ (t.Name (codes "turn") ∷ t.Name (codes "submit") ∷ t.Numeral (Some q) ∷ call_tokens (function_name_at fs f) args) _ (behind_word (codes "turn") (codes "submit" ++ (32 ∷ (decimal q ++ (32 ∷ call)))) _ refl refl
    (behind_word (codes "submit") (decimal q ++ (32 ∷ call)) _ refl refl
    (spaced (decimal q) call (t.Numeral (Some q) ∷ []) (call_tokens (function_name_at fs f) args) (number_piece q (low_request q k)) (call_piece (function_name_at fs f) args w.name a))))
    (submit_by fs q f args k a w)

-- Operations of an invocation.
go_by : (path : List ℕ) (n : ℕ) → is_path path ≡ true → in_bounds 0 200000 n ≡ true → go_turn_of (path_token path ∷ t.Numeral (Some n) ∷ []) ≡ Some (r.Valid (turn_without_call (u.Go path n)))
go_by path n h l =
    ap (λ (o : Option (Checked (List ℕ) × List Token)). option_and_then (λ (p : Checked (List ℕ) × List Token). option_and_then (λ (x : Checked ℕ × List Token). if_at_end x.1 (map_checked (λ (q : List ℕ × ℕ). turn_without_call (u.Go q.0 q.1)) (both_checked p.0 x.0))) (number_at 0 200000 p.1)) o) (path_parses_back path (t.Numeral (Some n) ∷ []) h)
    ∙ ap (λ x. Some x) (two_fine (λ (q : List ℕ × ℕ). turn_without_call (u.Go q.0 q.1)) path n true (in_bounds 0 200000 n) refl l)

low_count : (n : ℕ) → in_bounds 0 200000 n ≡ true → n < 2 ^ 64
low_count n h = grind (arith, nat_tests, h)

go_again : (fs : List Function) (path : List ℕ) (n : ℕ) → is_path path ≡ true → in_bounds 0 200000 n ≡ true → ParsesBack fs (u.Go path n)
unfolding word_token keyword_of
go_again fs path n h l =
    let p = path_small path h in
    again fs _ (t.Name (codes "turn") ∷ t.Name (codes "go") ∷ path_token path ∷ t.Numeral (Some n) ∷ []) _ (behind_word (codes "turn") (codes "go" ++ (32 ∷ (path_text path ++ (32 ∷ decimal n)))) _ refl refl
    (behind_word (codes "go") (path_text path ++ (32 ∷ decimal n)) _ refl refl
    (spaced (path_text path) (decimal n) (path_token path ∷ []) (t.Numeral (Some n) ∷ []) (record { cut = path_lexed path p.0 p.1 }) (number_piece n (low_count n l)))))
    (go_by path n h l)

-- The end of an invocation.
end_by : (path : List ℕ) → is_path path ≡ true → end_turn_of (path_token path ∷ []) ≡ Some (r.Valid (turn_without_call (u.End path)))
end_by path h =
    ap (λ (o : Option (Checked (List ℕ) × List Token)). option_and_then (λ (p : Checked (List ℕ) × List Token). if_at_end p.1 (map_checked (λ (q : List ℕ). turn_without_call (u.End q)) p.0)) o) (path_parses_back path [] h)

end_again : (fs : List Function) (path : List ℕ) → is_path path ≡ true → ParsesBack fs (u.End path)
unfolding word_token keyword_of
end_again fs path h =
    let p = path_small path h in
    again fs _ (t.Name (codes "turn") ∷ t.Keyword k.End ∷ path_token path ∷ []) _ (behind_word (codes "turn") (codes "end" ++ (32 ∷ path_text path)) _ refl refl
    (behind_key (codes "end") (t.Keyword k.End) (path_text path) (path_token path ∷ []) refl refl (record { cut = path_lexed path p.0 p.1 })))
    (end_by path h)

-- All turns.
pub turn_parses_back : (fs : List Function) (x : Turn) → distinct (function_names fs) ≡ true → list_all is_identifier (function_names fs) ≡ true → is_turn fs x ≡ true → ParsesBack fs x
turn_parses_back fs (u.Submit q f args) d i h =
    let p = split_true (is_request q && list_all is_value args) (has_arity (length args) (function_at f fs)) h in
    let s = split_true (is_request q) (list_all is_value args) p.0 in
    submit_again fs q f args s.0 s.1 (known fs f (length args) d i p.1)
turn_parses_back fs (u.Go path n) d i h = let p = split_true (is_path path) (in_bounds 0 200000 n) h in go_again fs path n p.0 p.1
turn_parses_back fs (u.End path) d i h = end_again fs path h

pub printed_turn : (fs : List Function) (x : Turn) → is_program (record { functions = fs }) ≡ true → is_turn fs x ≡ true → ParsesBack fs x
printed_turn fs x p h =
    let a = split_true (nat_le (length fs) 256 && distinct (function_names fs)) (list_all (is_function fs) fs) p in
    let b = split_true (nat_le (length fs) 256) (distinct (function_names fs)) a.0 in
    turn_parses_back fs x b.1 (identifiers fs fs a.1) h

-- A turn that is read, and whose call has no fault, is one that a text with these functions can have.
abbrev pub sound_turn : List Function → TurnEntry → Bool
sound_turn fs x = by_fault x.fault (is_turn fs x.turn)

abbrev submit_test : ℕ × (List ℕ × List Value) → Bool
submit_test = pair_test is_request call_test

submit_sound : (fs : List Function) (p : ℕ × (List ℕ × List Value)) (found : Option Kind) → call_fault fs p.1.0 (length p.1.1) ≡ found → submit_test p ≡ true → by_fault found (is_turn fs (u.Submit p.0 (function_number_of fs p.1.0) p.1.1)) ≡ true
submit_sound fs p None h t =
    let q = called_good fs p.1.0 (length p.1.1) None refl h in
    let s = split_true (is_request p.0) (call_test p.1) t in
    let has : has_arity (length p.1.1) (function_at (function_number_of fs p.1.0) fs) ≡ true =
    ap (λ o. has_arity (length p.1.1) (function_at (unwrap_or o 0) fs)) q.is ∙ q.takes in
    both_true (is_request p.0 && list_all is_value p.1.1) _ (both_true (is_request p.0) (list_all is_value p.1.1) s.0 s.1) has
submit_sound fs p (Some k) h t = refl

submit_good : (fs : List Function) (ts : List Token) → IfLineValid (sound_turn fs) (submit_turn_of fs ts)
submit_good fs ts =
    bind_if_valid is_request (sound_turn fs) (request_at ts) _ (request_in_range ts) (λ x f.
    bind_if_valid call_test (sound_turn fs) (call_at x.1) _ (call_in_range x.1) (λ y g.
    at_end_if_valid (sound_turn fs) y.1 _ (map_if_valid submit_test (sound_turn fs) (submit_turn_entry fs) (both_checked x.0 y.0) (λ p t. submit_sound fs p (call_fault fs p.1.0 (length p.1.1)) refl t)
    (both_if_valid is_request call_test x.0 y.0 f g))))

go_good : (fs : List Function) (ts : List Token) → IfLineValid (sound_turn fs) (go_turn_of ts)
go_good fs ts =
    bind_if_valid is_path (sound_turn fs) (path_at ts) _ (path_in_range ts) (λ x f.
    bind_if_valid (in_bounds 0 200000) (sound_turn fs) (number_at 0 200000 x.1) _ (number_at_in_range 0 200000 x.1) (λ y g.
    at_end_if_valid (sound_turn fs) y.1 _ (map_if_valid (pair_test is_path (in_bounds 0 200000)) (sound_turn fs) (λ p. turn_without_call (u.Go p.0 p.1)) (both_checked x.0 y.0) (λ p t. t) (both_if_valid is_path (in_bounds 0 200000) x.0 y.0 f g))))

end_good : (fs : List Function) (ts : List Token) → IfLineValid (sound_turn fs) (end_turn_of ts)
end_good fs ts =
    bind_if_valid is_path (sound_turn fs) (path_at ts) _ (path_in_range ts) (λ x f.
    at_end_if_valid (sound_turn fs) x.1 _ (map_if_valid is_path (sound_turn fs) (λ p. turn_without_call (u.End p)) x.0 (λ p t. t) f))

named_by : (fs : List Function) (b c : Bool) (ts : List Token) → IfLineValid (sound_turn fs) (cond b (submit_turn_of fs ts) (cond c (go_turn_of ts) None))
named_by fs true c ts = submit_good fs ts
named_by fs false true ts = go_good fs ts
named_by fs false false ts = tt

behind_good : (fs : List Function) (ts : List Token) → IfLineValid (sound_turn fs) (turn_behind fs ts)
behind_good fs (t.Name x ∷ ts) = named_by fs (bytes_eq x (codes "submit")) (bytes_eq x (codes "go")) ts
behind_good fs (t.Keyword k.End ∷ ts) = end_good fs ts
behind_good fs _ = tt

turn_by : (fs : List Function) (b : Bool) (ts : List Token) → IfLineValid (sound_turn fs) (cond b (turn_behind fs ts) None)
turn_by fs true ts = behind_good fs ts
turn_by fs false ts = tt

pub turn_in_range : (fs : List Function) (ts : List Token) → IfLineValid (sound_turn fs) (turn_of fs ts)
turn_in_range fs (t.Name x ∷ ts) = turn_by fs (bytes_eq x (codes "turn")) ts
turn_in_range fs _ = tt

pub sound_is_turn : (fs : List Function) (x : TurnEntry) → x.fault ≡ None → sound_turn fs x ≡ true → is_turn fs x.turn ≡ true
sound_is_turn fs x none h =
    let P : Option Kind → Type 0 = λ o. by_fault o (is_turn fs x.turn) ≡ true in
    subst P none h

pub parsed_turn_is_turn : (fs : List Function) (ts : List Token) (x : TurnEntry) → turn_of fs ts ≡ Some (r.Valid x) → x.fault ≡ None → is_turn fs x.turn ≡ true
parsed_turn_is_turn fs ts x h none =
    let P : Option (Checked TurnEntry) → Type 0 = λ o. IfLineValid (sound_turn fs) o in
    sound_is_turn fs x none (subst P h (turn_in_range fs ts))
