use Rattle.std.proofs.Common.{ℕ, ◌≡◌, ◌+◌, ◌<◌, ◌≤◌, [], length, vec_len, All}
use Rattle.live_log.specs.AppendCounts.{part_at, amount_at}
use Rattle.live_log.specs.Closing.{NewEngines}
use Rattle.live_log.proofs.log.engines_of.Given as goal

abbrev pub invariant-loop-place : goal.invariant-loop-place
invariant-loop-place g l =
    (l.number + length l.place-iterator.rest.items ≡ vec_len l.fn.places)
    × ((n : ℕ) → l.number < n → n ≤ 16 → (part_at l.rights n ≡ 1) × (amount_at l.rights n ≡ 0))
    × (vec_len l.engines ≡ l.number)
    × NewEngines 1 l.engines.items
    × All (λ p. p ≡ record { book = g.J.Naming.book; seen = []; known = [] }) l.place-iterator.rest.items
