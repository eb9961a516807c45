-- The numbers of a request are in their ranges.
use Rattle.std.proofs.Common.{◌≡◌, ◌&&◌, ℕ, Bool, cond, true, false, not, refl, arith, List, [], ◌∷◌, Option, Some, None, nat_le, codes}
use Rattle.std.specs.Prelude.{drop, option_and_then, option_map, take}
use Rattle.std.specs.Str.{bytes_eq}
use Rattle.std.proofs.lemmas.Bool.Decides.{nat_tests}
use Rattle.lb_base.specs.Numeral.{num_of}
use Rattle.command_line.specs.Words.{WithState, IsInRange, alone, awaited, given, make_of, make_request, absent, one_of, plain_of, request, run_request, with_of}
use Rattle.command_line.specs.declared.request.Request.{Request}
use Rattle.command_line.specs.declared.request.Request.TheVariants as r
use Rattle.command_line.specs.declared.request.Request.TheVariants.{Make, Run}
use Rattle.command_line.specs.declared.request.With.{With}
use Rattle.command_line.specs.declared.request.With.TheVariants.{All, One}

either : (b : Bool) (x y : Option Request) → IsInRange x → IsInRange y → IsInRange (cond b x y)
either true x y h k = h
either false x y h k = k

-- a run with these nemeses is in range
abbrev AreInRange : Option With → Type 0
AreInRange o = (json : Bool) → IsInRange (option_map (λ w. Run (Some w) json) o)

one_in_range : (o : Option ℕ) → AreInRange (one_of o)
one_in_range None json = tt
one_in_range (Some n) json = go (nat_le 1 n) refl (nat_le n 16) refl
  where
    go : (a : Bool) → nat_le 1 n ≡ a → (b : Bool) → nat_le n 16 ≡ b → IsInRange (option_map (λ w. Run (Some w) json) (cond (a && b) (Some (One n)) None))
    go true e true f = (grind (arith, nat_tests), grind (arith, nat_tests))
    go true e false f = tt
    go false e b f = tt

with_in_range : (value : List ℕ) → AreInRange (with_of value)
with_in_range value json = go (bytes_eq value (codes "all"))
  where
    go : (b : Bool) → IsInRange (option_map (λ w. Run (Some w) json) (cond b (Some All) (one_of (num_of value))))
    go true = tt
    go false = one_in_range (num_of value) json

run_in_range : (json : Bool) (g : WithState) (words : List (List ℕ)) → IsInRange (run_request json g words)
run_in_range json absent [] = tt
run_in_range json awaited [] = tt
run_in_range json (given value) [] = with_in_range value json
run_in_range json absent (word ∷ words) =
    either (bytes_eq word (codes "--json") && not json) (run_request true absent words) _ (run_in_range true absent words)
    (either (bytes_eq word (codes "--with")) (run_request json awaited words) _ (run_in_range json awaited words)
    (either (bytes_eq (take 7 word) (codes "--with=")) (run_request json (given (drop 7 word)) words) None (run_in_range json (given (drop 7 word)) words) tt))
run_in_range json awaited (word ∷ words) = run_in_range json (given word) words
run_in_range json (given value) (word ∷ words) =
    either (bytes_eq word (codes "--json") && not json) (run_request true (given value) words) None (run_in_range true (given value) words) tt

few_in_range : (plan : Bool) (o : Option ℕ) → IsInRange (make_of plan o)
few_in_range plan None = tt
few_in_range plan (Some n) = go (nat_le 1 n) refl (nat_le n 4000) refl
  where
    go : (a : Bool) → nat_le 1 n ≡ a → (b : Bool) → nat_le n 4000 ≡ b → IsInRange (cond (a && b) (Some (Make n plan)) None)
    go true e true f = (grind (arith, nat_tests), grind (arith, nat_tests))
    go true e false f = tt
    go false e b f = tt

make_in_range : (words : List (List ℕ)) → IsInRange (make_request words)
make_in_range [] = tt
make_in_range (a ∷ []) = few_in_range false (num_of a)
make_in_range (a ∷ b ∷ []) =
    either (bytes_eq a (codes "--plan")) (make_of true (num_of b)) _ (few_in_range true (num_of b))
    (either (bytes_eq b (codes "--plan")) (make_of true (num_of a)) None (few_in_range true (num_of a)) tt)
make_in_range (a ∷ b ∷ c ∷ words) = tt

plain_in_range : (name : List ℕ) (words : List (List ℕ)) → IsInRange (option_and_then (alone words) (plain_of name))
plain_in_range name (word ∷ words) = none (plain_of name)
  where
    none : (o : Option Request) → IsInRange (option_and_then (alone (word ∷ words)) o)
    none None = tt
    none (Some r) = tt
plain_in_range name [] =
    go (bytes_eq name (codes "judge")) (bytes_eq name (codes "check")) (bytes_eq name (codes "live")) (bytes_eq name (codes "flow"))
    (bytes_eq name (codes "log")) (bytes_eq name (codes "audit")) (bytes_eq name (codes "mux"))
  where
    go : (a b c d e f g : Bool) → IsInRange (option_and_then (alone []) (cond a (Some r.Judge) (cond b (Some r.Check) (cond c (Some r.Live) (cond d (Some r.Flow) (cond e (Some r.Log) (cond f (Some r.Audit) (cond g (Some r.Mux) None))))))))
    go true b c d e f g = tt
    go false true c d e f g = tt
    go false false true d e f g = tt
    go false false false true e f g = tt
    go false false false false true f g = tt
    go false false false false false true g = tt
    go false false false false false false true = tt
    go false false false false false false false = tt

pub request_in_range : (words : List (List ℕ)) → IsInRange (request words)
request_in_range [] = tt
request_in_range (name ∷ words) =
    either (bytes_eq name (codes "run")) (run_request false absent words) _ (run_in_range false absent words)
    (either (bytes_eq name (codes "make")) (make_request words) _ (make_in_range words) (plain_in_range name words))

-- and so are those of what equals it
pub same_in_range : (r : Option Request) (words : List (List ℕ)) → r ≡ request words → IsInRange r
same_in_range r words e = rw e (request_in_range words)
