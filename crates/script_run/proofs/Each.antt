-- A loop that works out a list one by one: it goes on, stops at a trap, and ends.
use Rattle.std.proofs.Common.{◌≡◌, ◌<◌, ◌≤◌, ◌∙◌, ap, sym, subst, refl, ℕ, ◌+◌, List, [], ◌∷◌, ◌++◌, length, get_or, drop, Result, Ok, Err, append_assoc}
use Rattle.std.proofs.Math.ListN.{drop_of_length-le}
use Rattle.std.proofs.lemmas.List.{append-nil}
use Rattle.lb_base.specs.declared.value.TrapKind.{TrapKind}
use Rattle.boki_model.specs.Values.{and_then}
use Rattle.script_run.specs.declared.fault.EvalFault.{EvalFault}
use Rattle.script_run.specs.declared.fault.EvalFault.TheVariants as halt
use Rattle.script_run.specs.Computes.{Computes}
use Rattle.script_run.specs.Pairs.{try_map}
use Rattle.script_run.proofs.Lookups.{drop_at}

-- what was worked out already, before what is
abbrev pub behind_list : {Y : Type 0} → List Y → Result (List Y) TrapKind → Result (List Y) TrapKind
behind_list front r = and_then r (λ ys. Ok (front ++ ys))

pub behind_none : {Y : Type 0} (r : Result (List Y) TrapKind) → behind_list [] r ≡ r
behind_none (Ok ys) = refl
behind_none (Err why) = refl

one_more : {Y : Type 0} (front : List Y) (y : Y) (r : Result (List Y) TrapKind) → behind_list front (and_then r (λ ys. Ok (y ∷ ys))) ≡ behind_list (front ++ y ∷ []) r
one_more front y (Ok ys) = ap Ok (sym (append_assoc front (y ∷ []) ys))
one_more front y (Err why) = refl

module _ {X Y : Type 0} (f : X → Result Y TrapKind) (front : List Y) (whole : Result (List Y) TrapKind) where
  -- over what is left, whose first is this
  pub goes_on : (xs : List X) (x : X) (y : Y) → f x ≡ Ok y → behind_list front (try_map f (x ∷ xs)) ≡ whole → behind_list (front ++ y ∷ []) (try_map f xs) ≡ whole
  goes_on xs x y is so = sym (ap (λ r. behind_list front (and_then r (λ z. and_then (try_map f xs) (λ ys. Ok (z ∷ ys))))) is ∙ one_more front y (try_map f xs)) ∙ so

  pub stops : (xs : List X) (x : X) (h : EvalFault) → Computes (f x) (Err h) → behind_list front (try_map f (x ∷ xs)) ≡ whole → Computes whole (Err h)
  stops xs x (halt.Trap why) is so = sym so ∙ ap (λ r. behind_list front (and_then r (λ z. and_then (try_map f xs) (λ ys. Ok (z ∷ ys))))) is
  stops xs x halt.Memory is so = tt

  pub ends : behind_list front (try_map f []) ≡ whole → whole ≡ Ok front
  ends so = sym so ∙ ap Ok (append-nil front)

  -- the same over a slice, from a place on
  pub goes_on_at : (xs : List X) (i : ℕ) (x : X) (y : Y) → i < length xs → x ≡ get_or xs i x → f x ≡ Ok y → behind_list front (try_map f (drop i xs)) ≡ whole → behind_list (front ++ y ∷ []) (try_map f (drop (i + 1) xs)) ≡ whole
  goes_on_at xs i x y within at is so = goes_on (drop (i + 1) xs) x y is (subst (λ zs. behind_list front (try_map f zs) ≡ whole) (drop_at xs i x within at) so)

  pub stops_at : (xs : List X) (i : ℕ) (x : X) (h : EvalFault) → i < length xs → x ≡ get_or xs i x → Computes (f x) (Err h) → behind_list front (try_map f (drop i xs)) ≡ whole → Computes whole (Err h)
  stops_at xs i x h within at is so = stops (drop (i + 1) xs) x h is (subst (λ zs. behind_list front (try_map f zs) ≡ whole) (drop_at xs i x within at) so)

  pub ends_at : (xs : List X) (i : ℕ) → length xs ≤ i → behind_list front (try_map f (drop i xs)) ≡ whole → whole ≡ Ok front
  ends_at xs i over so = ends (subst (λ zs. behind_list front (try_map f zs) ≡ whole) (drop_of_length-le xs over) so)
