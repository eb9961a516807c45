-- Nemeses that are kept.
use Rattle.std.specs.Prelude.{ℕ, ◌+◌, ◌==◌, Bool, true, false, if◌then◌else◌, List, [], ◌∷◌, Option, Some, None, slice_get, remove}
use Rattle.nemesis_types.specs.declared.seen.Seen.{Seen}
use Rattle.nemesis_types.specs.Automaton.{Automaton, after_ask, reseeded, is_spent}

-- A nemesis with its number, from 1, in the list that was handed in.
pub record NumberedNemesis : Type 0 where
  pub number : ℕ
  pub automaton : Automaton

abbrev pub numbered_nemesis : ℕ → Automaton → NumberedNemesis
numbered_nemesis n m = record { number = n; automaton = m }

abbrev pub after_asking : Seen → NumberedNemesis → NumberedNemesis
after_asking seen k = record k { automaton = after_ask k.automaton seen }

abbrev pub after_reseeding : ℕ → NumberedNemesis → NumberedNemesis
after_reseeding n k = record k { automaton = reseeded k.automaton n }

-- Of those that are handed in, some are kept, with their numbers; the first of the list has the number n.
abbrev pub kept_from : (ℕ → Bool) → ℕ → List Automaton → List NumberedNemesis
kept_from keeps n [] = []
kept_from keeps n (m ∷ ms) =
    if keeps n then numbered_nemesis n m ∷ kept_from keeps (n + 1) ms else kept_from keeps (n + 1) ms

-- all of them, and the one with a number alone
abbrev pub all_kept : List Automaton → List NumberedNemesis
all_kept automata = kept_from (λ n. true) 1 automata

abbrev pub one_kept : ℕ → List Automaton → List NumberedNemesis
one_kept i automata = kept_from (λ n. n == i) 1 automata

-- Whether the one at an index, from 0, is spent; those that are kept where it is then dropped; and the index
-- of the next one.
abbrev pub spent_by : Option NumberedNemesis → Bool
spent_by None = false
spent_by (Some k) = is_spent k.automaton

abbrev pub spent_at : List NumberedNemesis → ℕ → Bool
spent_at kept at = spent_by (slice_get kept at)

abbrev pub without_spent : List NumberedNemesis → ℕ → List NumberedNemesis
without_spent kept at = if spent_at kept at then remove kept at else kept

abbrev pub next_asked_index : List NumberedNemesis → ℕ → ℕ
next_asked_index kept at = if spent_at kept at then at else at + 1
