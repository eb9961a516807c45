use Rattle.std.proofs.Common.{◌≡◌, ℕ, List, Bool, true, false, refl}
use Rattle.std.specs.Str.{is_utf8, IsUtf8}
use Rattle.std.proofs.lemmas.Str.{IsUtf8-from_is_utf8, is_utf8-from_IsUtf8}
use Rattle.rec_codec.proofs.names.utf8_text.Goals as goal

-- what is no text doesn't pass the test
untold : (bytes : List ℕ) (b : Bool) → is_utf8 bytes ≡ b → (IsUtf8 bytes → ⊥) → b ≡ false
untold bytes true e not_text = absurd (not_text (IsUtf8-from_is_utf8 bytes e))
untold bytes false e not_text = refl

pub returns-in-Ok : goal.returns-in-Ok
returns-in-Ok c = (c.in-Ok.ensures.cases.0, is_utf8-from_IsUtf8 c.args.bytes.now c.in-Ok.ensures.cases.1)

pub returns-in-Err : goal.returns-in-Err
returns-in-Err c = untold c.args.bytes.now (is_utf8 c.args.bytes.now) refl c.in-Err.ensures.cases.0
