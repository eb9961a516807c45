use Rattle.std.proofs.Common.{◌≡◌, ◌++◌, ◌∷◌, [], List, Option, ℕ, Some, true, false, sym, ap, ◌∙◌}
use Rattle.lb_base.specs.Numeral.{is_numeral, num_of}
use Rattle.line_text.specs.Fields.{numbers_in}
use Rattle.line_text.proofs.DotLemmas.{behind_numbers, number_then, no_number_then, number_last, no_number_last}
use Rattle.line_text.proofs.dotted.read_numbers.Goals as goal

pub returns-then-not-is_numeral : goal.returns-then-not-is_numeral
returns-then-not-is_numeral c =
    let no : is_numeral c.in-Some.piece.now ≡ false = cc in
    sym (no_number_then c.pieces.numbers c.pieces.rest.now c.in-Some.piece.now c.in-Some.after.now c.in-Some.ensures.split no)
    ∙ c.pieces.invariant.0

pub pieces-preserved : goal.pieces-preserved
pieces-preserved c =
    let yes : is_numeral c.in-Some.piece.now ≡ true = cc in
    let pushed : c.push.new.self ≡ c.pieces.numbers ++ num_of c.in-Some.piece.now ∷ [] = c.in_ok-push.ensures.ok ∙ ap (λ (n : Option ℕ). c.pieces.numbers ++ n ∷ []) c.read_num.ensures in (
      ap (λ (ns : List (Option ℕ)). behind_numbers ns (numbers_in c.in-Some.after.now)) pushed
          ∙ sym (number_then c.pieces.numbers c.pieces.rest.now c.in-Some.piece.now c.in-Some.after.now c.in-Some.ensures.split yes)
          ∙ c.pieces.invariant.0,
      c.in-Some.ensures.text.1,
    )

pub returns-then-not-is_numeral-2 : goal.returns-then-not-is_numeral-2
returns-then-not-is_numeral-2 c =
    let no : is_numeral c.pieces.rest.now ≡ false = cc in
    sym (no_number_last c.pieces.numbers c.pieces.rest.now c.in_default.ensures.split no) ∙ c.pieces.invariant.0

pub returns : goal.returns
returns c =
    let yes : is_numeral c.pieces.rest.now ≡ true = cc in
    let pushed : c.push-2.new.self ≡ c.pieces.numbers ++ num_of c.pieces.rest.now ∷ [] = c.in_ok-push-2.ensures.ok ∙ ap (λ (n : Option ℕ). c.pieces.numbers ++ n ∷ []) c.read_num-2.ensures in
    ap (λ (ns : List (Option ℕ)). Some ns) pushed
    ∙ sym (number_last c.pieces.numbers c.pieces.rest.now c.in_default.ensures.split yes)
    ∙ c.pieces.invariant.0
