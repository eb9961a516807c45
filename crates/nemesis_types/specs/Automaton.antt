-- A nemesis by its list of numbers and its law.
use Rattle.std.specs.Prelude.{◌≡◌, ℕ, Bool, List, Option}
use Rattle.boki_types.specs.declared.event.Event.{Event}
use Rattle.nemesis_types.specs.declared.seen.Seen.{Seen}

-- The list is all that changes. The law is the other three: the answer and the new list, by the old list and
-- what the nemesis is told; the new list when it is reseeded; and whether it is spent.
pub record Automaton : Type 0 where
  pub list : List ℕ
  pub next : List ℕ → Seen → Option Event × List ℕ
  pub seed : List ℕ → ℕ → List ℕ
  pub ends : List ℕ → Bool

abbrev pub answer_of : Automaton → Seen → Option Event
answer_of m seen = (m.next m.list seen).0

abbrev pub after_ask : Automaton → Seen → Automaton
after_ask m seen = record m { list = (m.next m.list seen).1 }

abbrev pub reseeded : Automaton → ℕ → Automaton
reseeded m n = record m { list = m.seed m.list n }

abbrev pub is_spent : Automaton → Bool
is_spent m = m.ends m.list

-- Two automata with one law: they differ at most in their lists.
pub record SameLaw (m n : Automaton) : Type 0 where
  pub next : m.next ≡ n.next
  pub seed : m.seed ≡ n.seed
  pub ends : m.ends ≡ n.ends
