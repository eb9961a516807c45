-- What `get_flag` and `get_str` say of the matches, and what the matches ask for.
use Rattle.std.proofs.Common.{◌≡◌, ◌∙◌, Bool, true, false, refl, ap, Option, Some, codes, inl, inr}
use Rattle.std.specs.Prelude.{option_and_then}
use Rattle.std.specs.Str.{bytes_eq}
use Rattle.clap.specs.Matches.{first_value, one_text}
use Rattle.clap.specs.Walk.{Text, first_of, one_of, rows_of}
use Rattle.clap.specs.declared.parser.matches.Found.{Found}
use Rattle.clap.proofs.WalkLemmas.{first_value-rows, one_text-rows}
use Rattle.lb_base.specs.Numeral.{num_of}
use Rattle.command_line.specs.Parser.{HasFlag, given_by, make_answer, run_answer}
use Rattle.command_line.specs.Words.{make_of, run_of}
use Rattle.command_line.specs.declared.request.Request.{Request}

module _ (found : Found) (name : Text) (flag : Bool) (has : HasFlag name (rows_of found)) (value : one_text found name ≡ Some (codes "true") → flag ≡ true)
    (other : one_text found name ≡ Some (codes "false") → flag ≡ false) where
  flag_is : (f : Bool → Option Request) → f flag ≡ option_and_then (λ text. f (bytes_eq text (codes "true"))) (one_of name (rows_of found))
  flag_is f = elim has [
    | inl e ↦ rw (e, value (one_text-rows found name ∙ e)) refl
    | inr e ↦ rw (e, other (one_text-rows found name ∙ e)) refl
  ]

-- the matches of `run`, by the flag and by the value
pub run_is : (found : Found) (json : Bool) (o : Option Text) → HasFlag (codes "json") (rows_of found) → (one_text found (codes "json") ≡ Some (codes "true") → json ≡ true)
    → (one_text found (codes "json") ≡ Some (codes "false") → json ≡ false) → o ≡ first_value found (codes "with") → run_of json (given_by o) ≡ run_answer (rows_of found)
run_is found json o has value other e =
    ap (λ v. run_of json (given_by v)) (e ∙ first_value-rows found (codes "with"))
    ∙ flag_is found (codes "json") json has value other (λ b. run_of b (given_by (first_of (codes "with") (rows_of found))))

-- the matches of `make`, by the flag and by the number
pub make_is : (found : Found) (plan : Bool) (o : Option Text) → HasFlag (codes "plan") (rows_of found) → (one_text found (codes "plan") ≡ Some (codes "true") → plan ≡ true)
    → (one_text found (codes "plan") ≡ Some (codes "false") → plan ≡ false) → o ≡ first_value found (codes "transfers")
    → make_of plan (option_and_then num_of o) ≡ make_answer (rows_of found)
make_is found plan o has value other e =
    ap (λ v. make_of plan (option_and_then num_of v)) (e ∙ first_value-rows found (codes "transfers"))
    ∙ flag_is found (codes "plan") plan has value other (λ b. make_of b (option_and_then num_of (first_of (codes "transfers") (rows_of found))))
