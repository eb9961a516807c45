-- Small facts.
use Rattle.std.proofs.Common.{◌≡◌, ℕ, max, Option, Some, None, refl, arith}
use Rattle.std.specs.Option.{option_or}

pub or_none : {X : Type 0} (o : Option X) → option_or o None ≡ o
or_none None = refl
or_none (Some x) = refl

pub none_more : (m n : ℕ) → m ≡ 0 → max m n ≡ n
none_more m n e = omega arith
