use Rattle.std.proofs.Common.{◌≡◌, ℕ, ◌<◌, ◌≤◌, true, false, not, List, length, Result, Ok, Err, refl, sym, ◌∙◌, arith}
use Rattle.std.proofs.lemmas.Result.{err_from_is_err_and}
use Rattle.boki_types.specs.declared.body.Body.{Body}
use Rattle.boki_model.specs.Bodies.{in_range}
use Rattle.rec_codec.specs.declared.fault.EncodeFault.{EncodeFault}
use Rattle.rec_codec.specs.declared.fault.EncodeFault.TheVariants as fault
use Rattle.rec_codec.specs.Spelling.{spelled, is_short}
use Rattle.rec_codec.proofs.Again.{read_again}
use Rattle.rec_codec.proofs.Lengths.{spelled_len, short_is}
use Rattle.rec_codec.proofs.encoding.encode.Goals as goal

-- a body that isn't too long gets no such answer
never : (r : Result (List ℕ) EncodeFault) (body : Body) → (r ≡ Err fault.TooLong → ⊥) → in_range body ≡ true → is_short body ≡ true → (r ≡ Err fault.TooLong → 4096 < length (spelled body)) × (4096 < length (spelled body) → r ≡ Err fault.TooLong)
never r body other h k =
    let le = spelled_len body h k in
    ((λ e. absurd (other e)), (λ gt. absurd (omega (arith, le, gt))))

other_than : (r : Result (List ℕ) EncodeFault) (x : EncodeFault) → r ≡ Err x → x ≡ fault.Memory → r ≡ Err fault.TooLong → ⊥
other_than r x e is long = cc

pub returns-in_err-spell-clause-too_long : goal.returns-in_err-spell-clause-too_long
returns-in_err-spell-clause-too_long c =
    let p = err_from_is_err_and c.from_residual.result c.from_residual.ensures.1 in
    never c.from_residual.result c.args.body.now (other_than c.from_residual.result p.0 p.1 p.2) c.requires (short_is c.args.body.now (is_short c.args.body.now) refl (sym c.if-is_too_long.ensures))

pub returns-clause-again : goal.returns-clause-again
returns-clause-again c = read_again c.args.body.now c.requires c.in_ok-spell.ensures.utf8 (short_is c.args.body.now (is_short c.args.body.now) refl (sym c.if-is_too_long.ensures))

pub returns-clause-too_long : goal.returns-clause-too_long
returns-clause-too_long c = never (Ok c.in_ok-spell.field-0) c.args.body.now (λ e. cc) c.requires (short_is c.args.body.now (is_short c.args.body.now) refl (sym c.if-is_too_long.ensures))
