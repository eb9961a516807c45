-- What is written of a run: its lines, and behind them its report.
use Rattle.std.proofs.Common.{◌≡◌, ℕ, List, [], ◌∷◌, ◌++◌, Option, Result, Ok, Err, OnOk, OnErr, refl, sym, ap, ap₂}
use Rattle.lb_base.specs.Devices.{Appends, AppendsPrefix}
use Rattle.lb_base.proofs.DeviceLemmas.{Appends-append, Appends-same, AppendsPrefix-along, AppendsPrefix-behind, AppendsPrefix-more}
use Rattle.run_with.specs.Runs.{Output}
use Rattle.run_with.specs.Written.{text_of_lines}

-- lines with the same texts make the same text
pub same_lines : (f g : Output → List ℕ) (xs : List Output) → ((x : Output) → f x ≡ g x) → text_of_lines f xs ≡ text_of_lines g xs
same_lines f g [] h = refl
same_lines f g (x ∷ xs) h = ap₂ (λ a b. a ++ b) (h x) (same_lines f g xs h)

-- the lines were written, and then the report
pub both : {T E : Type 0} (r : Result T E) (a b c : Option (List ℕ)) (lines told report text : List ℕ) → lines ≡ told → text ≡ report → Appends a b lines → OnOk r (Appends b c text) → OnOk r (Appends a c (told ++ report))
both (Ok x) a b c lines told report text e f w k = Appends-same a c (lines ++ text) (told ++ report) (ap₂ (λ l t. l ++ t) e f) (Appends-append a b c lines text w k)
both (Err x) a b c lines told report text e f w k = tt

-- or a front of the report
pub both_front : {T E : Type 0} (r : Result T E) (a b c : Option (List ℕ)) (lines told report text : List ℕ) → lines ≡ told → text ≡ report → Appends a b lines → OnErr r (AppendsPrefix b c text) → OnErr r (AppendsPrefix a c (told ++ report))
both_front (Ok x) a b c lines told report text e f w k = tt
both_front (Err x) a b c lines told report text e f w k = AppendsPrefix-along a c (lines ++ text) (told ++ report) (ap₂ (λ l t. l ++ t) e f) (AppendsPrefix-behind a b c lines text w k)

-- the lines alone
pub lines_alone : (a b : Option (List ℕ)) (lines told report : List ℕ) → lines ≡ told → Appends a b lines → AppendsPrefix a b (told ++ report)
lines_alone a b lines told report e w = (lines, report, ap (λ l. l ++ report) (sym e), w)

-- a front of the lines
pub lines_front : (a b : Option (List ℕ)) (lines told report : List ℕ) → lines ≡ told → AppendsPrefix a b lines → AppendsPrefix a b (told ++ report)
lines_front a b lines told report e w = AppendsPrefix-more a b told report (AppendsPrefix-along a b lines told e w)
