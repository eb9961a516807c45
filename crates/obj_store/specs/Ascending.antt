-- Writes in the order of their positions.
use Rattle.std.specs.Prelude.{◌≡◌, ℕ, ◌==◌, ◌&&◌, ◌||◌, Bool, true, false, cond, nat_le, filter, List, [], ◌∷◌}
use Rattle.std.specs.List.{prefix_len}
use Rattle.lb_base.specs.declared.value.Value.{Value}
use Rattle.boki_model.specs.Writes.{Write, is_below}

-- each of the writes is above w
abbrev pub AllAbove : Write → List Write → Type 0
AllAbove w [] = Unit {0}
AllAbove w (v ∷ vs) = (is_below w.first w.second v.first v.second ≡ true) × AllAbove w vs

-- each is above the earlier ones
abbrev pub Ascend : List Write → Type 0
Ascend [] = Unit {0}
Ascend (w ∷ ws) = AllAbove w ws × Ascend ws

-- how many of the first ones are below a position
abbrev pub before_count : ℕ → ℕ → List Write → ℕ
before_count c k ws = prefix_len (λ w. is_below w.first w.second c k) ws

-- whether one stands at a position
abbrev pub has_at : ℕ → ℕ → List Write → Bool
has_at c k [] = false
has_at c k (w ∷ ws) = ((c == w.first) && (k == w.second)) || has_at c k ws

-- the value of a write, or of a logged one at a seqnum, where this is later
abbrev pub last_value : Write → ℕ → Value → Value
last_value w seq value = cond (is_below w.first w.second seq 0) value w.value

-- those that aren't below a floor
abbrev pub not_below : ℕ → List Write → List Write
not_below floor ws = filter (λ w. nat_le floor w.first) ws
