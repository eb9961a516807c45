-- The names of ledgers that are not opened yet.
use Rattle.std.specs.Prelude.{ℕ, List, [], ◌∷◌}
use Rattle.live_log.specs.declared.unnamed_ledgers.UnnamedLedgers.{UnnamedLedgers}

-- the names that the ledgers are to have, in the order of the engines
abbrev pub names_of : UnnamedLedgers → List ℕ
names_of t = t.one.name ∷ t.two.name ∷ t.three.name ∷ t.four.name ∷ t.five.name ∷ t.six.name ∷ t.seven.name ∷ t.eight.name ∷ t.nine.name ∷ t.ten.name ∷ t.eleven.name ∷ t.twelve.name ∷ t.thirteen.name ∷ t.fourteen.name ∷ t.fifteen.name ∷ t.sixteen.name ∷ []
