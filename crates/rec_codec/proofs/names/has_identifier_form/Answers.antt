use Rattle.std.proofs.Common.{◌≡◌, ℕ, ◌≤◌, ◌-◌, Bool, true, List, [], ◌∷◌, length, take, drop, get_or, ◌||◌, ◌&&◌, ap, sym, ◌∙◌, arith}
use Rattle.std.specs.List.{list_all}
use Rattle.std.proofs.lemmas.List.{take_all}
use Rattle.boki_model.specs.Bodies.{is_letter, is_digit, has_identifier_characters}
use Rattle.rec_codec.proofs.names.has_identifier_form.Goals as goal

-- a letter, and what follows it
begun : (bytes : List ℕ) (r : Bool) → 1 ≤ length bytes → true ≡ is_letter (get_or bytes 0 0) → r ≡ list_all (λ d. is_letter d || is_digit d) (take (length bytes - 1) (drop 1 bytes)) → r ≡ has_identifier_characters bytes
begun [] r long first rest = absurd (omega arith)
begun (c ∷ cs) r long first rest =
    rest ∙ ap (list_all (λ d. is_letter d || is_digit d)) (take_all (length (c ∷ cs) - 1) cs (omega arith)) ∙ ap (λ (b : Bool). b && list_all (λ d. is_letter d || is_digit d) cs) first

pub returns-then-is_letter : goal.returns-then-is_letter
returns-then-is_letter c = begun c.args.bytes.now c.are_letters_or_digits.result c.in-len1-up.len_at_least c.if-is_letter.ensures c.are_letters_or_digits.ensures
