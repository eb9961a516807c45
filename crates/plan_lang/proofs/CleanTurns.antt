-- The values of a turn that is read from a text are spelled in UTF-8.
use Rattle.std.proofs.Common.{◌≡◌, Bool, true, false, cond, List, ◌∷◌, None, refl}
use Rattle.std.specs.Prelude.{bytes_eq, codes}
use Rattle.boki_types.specs.declared.program.Function.{Function}
use Rattle.boki_types.specs.declared.turn.Turn.{Turn}
use Rattle.boki_types.specs.declared.turn.Turn.TheVariants as u
use Rattle.line_text.specs.declared.token.Keyword.TheVariants as k
use Rattle.line_text.specs.declared.token.Token.{Token}
use Rattle.line_text.specs.declared.token.Token.TheVariants as t
use Rattle.line_text.specs.Checks.{both_checked}
use Rattle.script_lang.specs.Statements.{call_at}
use Rattle.plan_lang.specs.declared.turns.TurnEntry.{TurnEntry}
use Rattle.line_text.specs.Fields.{number_in_range, number_at, path_at}
use Rattle.plan_lang.specs.Turns.{submit_turn_entry, submit_turn_of, turn_without_call, go_turn_of, end_turn_of, turn_behind, turn_of}
use Rattle.plan_lang.proofs.CleanReads.{are_clean_values, bind_any, made_clean, last_clean, call_test, call_clean}
use Rattle.line_text.proofs.FieldsInRange.{IfLineValid, bind_if_valid}
use Rattle.line_text.proofs.Utf8Tokens.{are_clean}

abbrev pub is_clean_turn : Turn → Bool
is_clean_turn (u.Submit q f args) = are_clean_values args
is_clean_turn _ = true

abbrev clean_entry : TurnEntry → Bool
clean_entry x = is_clean_turn x.turn

submit_clean : (fs : List Function) (ts : List Token) → are_clean ts ≡ true → IfLineValid clean_entry (submit_turn_of fs ts)
submit_clean fs (t.Numeral n ∷ ts) h =
    bind_if_valid call_test clean_entry (call_at ts) _ (call_clean ts h) (λ x g. last_clean call_test clean_entry (submit_turn_entry fs) (number_in_range 1 1048575 n) x.0 x.1 (λ p k. k) g)
submit_clean fs _ h = tt

go_clean : (ts : List Token) → IfLineValid clean_entry (go_turn_of ts)
go_clean ts =
    bind_any clean_entry (path_at ts) _ (λ x.
    bind_any clean_entry (number_at 0 200000 x.1) _ (λ y. made_clean clean_entry (λ p. turn_without_call (u.Go p.0 p.1)) (both_checked x.0 y.0) y.1 (λ p. refl)))

end_clean : (ts : List Token) → IfLineValid clean_entry (end_turn_of ts)
end_clean ts = bind_any clean_entry (path_at ts) _ (λ x. made_clean clean_entry (λ p. turn_without_call (u.End p)) x.0 x.1 (λ p. refl))

named_by : (fs : List Function) (b c : Bool) (ts : List Token) → are_clean ts ≡ true → IfLineValid clean_entry (cond b (submit_turn_of fs ts) (cond c (go_turn_of ts) None))
named_by fs true c ts h = submit_clean fs ts h
named_by fs false true ts h = go_clean ts
named_by fs false false ts h = tt

behind_clean : (fs : List Function) (ts : List Token) → are_clean ts ≡ true → IfLineValid clean_entry (turn_behind fs ts)
behind_clean fs (t.Name x ∷ ts) h = named_by fs (bytes_eq x (codes "submit")) (bytes_eq x (codes "go")) ts h
behind_clean fs (t.Keyword k.End ∷ ts) h = end_clean ts
behind_clean fs _ h = tt

turn_by : (fs : List Function) (b : Bool) (ts : List Token) → are_clean ts ≡ true → IfLineValid clean_entry (cond b (turn_behind fs ts) None)
turn_by fs true ts h = behind_clean fs ts h
turn_by fs false ts h = tt

pub turn_clean : (fs : List Function) (ts : List Token) → are_clean ts ≡ true → IfLineValid (λ x. is_clean_turn x.turn) (turn_of fs ts)
turn_clean fs (t.Name x ∷ ts) h = turn_by fs (bytes_eq x (codes "turn")) ts h
turn_clean fs _ h = tt
