-- What a loop over the characters of a text has written of its escaped form.
use Rattle.std.proofs.Common.{◌≡◌, ℕ, List, [], ◌++◌, refl, sym, ap, ◌∙◌, length}
use Rattle.std.specs.Prelude.{encode_utf8}
use Rattle.std.specs.declared.fmt.Formatter.{Formatter}
use Rattle.std.specs.Fmt.{HasWritten, IsPlainFormatter}
use Rattle.std.proofs.Output.{has_written_append, has_written_of_eq, writes_in_calls_nil}
use Rattle.std.proofs.lemmas.List.{append-nil, nil_from_length}
use Rattle.lb_base.specs.Quoted.{escaped}
use Rattle.lb_base.proofs.QuotedLemmas.{write_more}

pub record Escaping {W : Type 0} (took : W → List ℕ → W → Type 0) (start now : Formatter W) (rest whole : List ℕ) : Type 0 where
  pub done : List ℕ
  pub same : done ++ escaped rest ≡ escaped whole
  pub wrote : IsPlainFormatter start → HasWritten took start done now

pub Escaping-start : {W : Type 0} (took : W → List ℕ → W → Type 0) (f : Formatter W) (rest whole : List ℕ) → rest ≡ whole → Escaping took f f rest whole
Escaping-start took f rest whole e = record { done = []; same = ap escaped e; wrote = λ plain. record { wrote = writes_in_calls_nil took _; plain = plain } }

-- One character more is written.
pub Escaping-step : {W : Type 0} (took : W → List ℕ → W → Type 0) (start now next : Formatter W) (rest after whole : List ℕ) (c : ℕ) → rest ≡ encode_utf8 c ++ after → (IsPlainFormatter now → HasWritten took now (escaped (encode_utf8 c)) next) → Escaping took start now rest whole → Escaping took start next after whole
Escaping-step took start now next rest after whole c split wrote e = record {
  done = e.done ++ escaped (encode_utf8 c);
  same = write_more e.done _ rest after _ c split refl e.same;
  wrote = λ plain. let before = e.wrote plain in has_written_append took _ _ _ _ _ before (wrote before.plain);
}

-- All characters are written.
pub Escaping-end : {W : Type 0} (took : W → List ℕ → W → Type 0) (start now : Formatter W) (rest whole : List ℕ) → length rest ≡ 0 → Escaping took start now rest whole → IsPlainFormatter start → HasWritten took start (escaped whole) now
Escaping-end took start now rest whole none e plain =
    has_written_of_eq took _ _ _ _ (sym (append-nil e.done) ∙ sym (ap (λ l. e.done ++ escaped l) (nil_from_length rest none)) ∙ e.same) (e.wrote plain)
