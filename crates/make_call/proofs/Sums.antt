-- Sums of objects; and what is due of `make`.
use Rattle.std.proofs.Common.{◌≡◌, ◌≢◌, ◌+◌, ◌<◌, ℕ, Bool, Option, Some, None, List, [], ◌∷◌, length, drop, get_or, sym, ap, ◌∙◌, ◌+ℤ◌}
use Rattle.std.proofs.lemmas.List.{drop_more}
use Rattle.std.specs.Prelude.{IfSome}
use Rattle.lb_base.specs.Devices.{AppendsPrefix}
use Rattle.lb_base.specs.declared.value.Value.{Value}
use Rattle.lb_base.proofs.DeviceLemmas.{AppendsPrefix-none}
use Rattle.call_base.specs.declared.status.Status.TheVariants.{Usage, Memory}
use Rattle.make_call.specs.Summary.{asked_due, sum_of, integer_of}

-- the next object
pub sum_more : (xs : List (List ℕ × Value)) (i : ℕ) (x : List ℕ × Value) → i < length xs → x ≡ get_or xs i x → sum_of (drop i xs) ≡ integer_of x.1 +ℤ sum_of (drop (i + 1) xs)
sum_more xs i x within is = ap sum_of (drop_more xs i x within ∙ ap (λ y. y ∷ drop (i + 1) xs) (sym is))

-- what is due where there was no room
pub no_room : (asked : Option (ℕ × Bool)) (old : Option (List ℕ)) → IfSome asked (λ a. (Memory ≢ Usage) × AppendsPrefix old old (asked_due a).text)
no_room None old = tt
no_room (Some a) old = (λ e. cc, AppendsPrefix-none old _)
