-- The order of positions: pairs of numbers, compared from the left.
use Rattle.std.proofs.Common.{◌≡◌, ℕ, ◌<◌, ltb, true, false, arith}
use Rattle.std.proofs.lemmas.Bool.Decides.{nat_tests}
use Rattle.boki_model.specs.Writes.{is_below}

pub below_trans : (a j b l c k : ℕ) → is_below a j b l ≡ true → is_below b l c k ≡ true → is_below a j c k ≡ true
below_trans a j b l c k h g = grind (arith, nat_tests)

-- where x isn't below y and is below z, y is below z
pub below_through : (a j b l c k : ℕ) → is_below a j b l ≡ false → is_below a j c k ≡ true → is_below b l c k ≡ true
below_through a j b l c k h g = grind (arith, nat_tests)

-- where x is below y and z isn't below y, x is below z
pub below_up : (a j b l c k : ℕ) → is_below a j b l ≡ true → is_below c k b l ≡ false → is_below a j c k ≡ true
below_up a j b l c k h g = grind (arith, nat_tests)

pub above_trans : (a j b l c k : ℕ) → is_below a j b l ≡ false → is_below b l c k ≡ false → is_below a j c k ≡ false
above_trans a j b l c k h g = grind (arith, nat_tests)

pub not_both : (a j b l : ℕ) → is_below a j b l ≡ true → is_below b l a j ≡ false
not_both a j b l h = grind (arith, nat_tests)

pub one_tie : (a j b l : ℕ) → is_below a j b l ≡ false → is_below b l a j ≡ false → (a ≡ b) × (j ≡ l)
one_tie a j b l h g = (grind (arith, nat_tests), grind (arith, nat_tests))

pub not_below_itself : (a j : ℕ) → is_below a j a j ≡ false
not_below_itself a j = grind (arith, nat_tests)

pub below_by_first : (a j c k : ℕ) → a < c → is_below a j c k ≡ true
below_by_first a j c k h = grind (arith, nat_tests)

-- below (c, 0) are the positions whose first number is below c
pub below_zero : (a j c : ℕ) → is_below a j c 0 ≡ ltb a c
below_zero a j c = grind (arith, nat_tests)
