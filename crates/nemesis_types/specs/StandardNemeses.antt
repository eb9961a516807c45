-- The three nemeses that the program brings: the killer, the doubler and the loser.
use Rattle.std.specs.Prelude.{ℕ, ◌+◌, ◌-◌, ◌%◌, ◌==◌, nat_le, Bool, false, if◌then◌else◌, List, [], ◌∷◌, Option, Some, None, option_map}
use Rattle.boki_types.specs.declared.event.Event.{Event}
use Rattle.boki_types.specs.declared.event.Event.TheVariants as v
use Rattle.nemesis_types.specs.declared.seen.Seen.{Seen}
use Rattle.nemesis_types.specs.declared.seen.Started.{Started}
use Rattle.nemesis_types.specs.Automaton.{Automaton}

-- The killer and the loser count events. Each acts at every so many-th, and so often in all: its list has the
-- first of these numbers, how many it has counted since it acted or was reseeded, and how often it may yet
-- act.
abbrev pub counter : ℕ → ℕ → ℕ → List ℕ
counter every count left = every ∷ count ∷ left ∷ []

-- one more is counted, and where its turn comes it acts
abbrev pub count_one : ℕ → ℕ → ℕ → Event → Option Event × List ℕ
count_one every count left act =
    if (count + 1) == every then (Some act, counter every 0 (left - 1)) else (None, counter every (count + 1) left)

-- what it would do after the event; nothing where it doesn't count that event
abbrev pub count_if_some : ℕ → ℕ → ℕ → Option Event → Option Event × List ℕ
count_if_some every count left None = (None, counter every count left)
count_if_some every count left (Some act) = count_one every count left act

abbrev pub next_of_counter : (Seen → Option Event) → List ℕ → Seen → Option Event × List ℕ
next_of_counter act (every ∷ count ∷ left ∷ []) seen =
    if left == 0 then (None, counter every count left) else count_if_some every count left (act seen)
next_of_counter act list seen = (None, list)

-- a reseed sets the first number and begins to count anew; how often it may yet act stays
abbrev pub reseed_counter : List ℕ → ℕ → List ℕ
reseed_counter (every ∷ count ∷ left ∷ []) n = counter ((n % 16) + 1) 0 left
reseed_counter list n = list

abbrev pub is_used_up : List ℕ → Bool
is_used_up (every ∷ count ∷ left ∷ []) = left == 0
is_used_up list = false

-- The killer counts the steps of attempts, and kills the attempt that took the last one.
abbrev pub kill_of : Seen → Option Event
kill_of seen = option_map v.Kill seen.stepped

abbrev pub killer_with : ℕ → ℕ → ℕ → Automaton
killer_with every count left =
    record { list = counter every count left; next = next_of_counter kill_of; seed = reseed_counter; ends = is_used_up }

abbrev pub killer : Automaton
killer = killer_with 5 0 3

-- The loser counts the steps that sent a record, and loses the last one.
abbrev pub lose_of : Seen → Option Event
lose_of seen = if seen.sent then option_map v.Lose seen.stepped else None

abbrev pub loser_with : ℕ → ℕ → ℕ → Automaton
loser_with every count left =
    record { list = counter every count left; next = next_of_counter lose_of; seed = reseed_counter; ends = is_used_up }

abbrev pub loser : Automaton
loser = loser_with 3 0 8

-- The doubler starts and steps a second attempt beside each attempt with a number up to 2,048, under that
-- number and 2,048. Its list says whether it does: 1, or 0.
abbrev pub second_start : Started → Option Event
second_start s = if nat_le s.attempt 2048 then Some (v.Start (s.attempt + 2048) s.path s.engine) else None

abbrev pub second_step : ℕ → Option Event
second_step attempt = if nat_le attempt 2048 then Some (v.Step (attempt + 2048)) else None

abbrev pub second_event : Option Started → Option ℕ → Option Event
second_event (Some s) stepped = second_start s
second_event None (Some attempt) = second_step attempt
second_event None None = None

abbrev pub next_of_doubler : List ℕ → Seen → Option Event × List ℕ
next_of_doubler (on ∷ []) seen = ((if on == 1 then second_event seen.started seen.stepped else None), on ∷ [])
next_of_doubler list seen = (None, list)

abbrev pub reseed_doubler : List ℕ → ℕ → List ℕ
reseed_doubler list n = (if (n % 2) == 0 then 1 else 0) ∷ []

abbrev pub doubler_with : ℕ → Automaton
doubler_with on = record { list = on ∷ []; next = next_of_doubler; seed = reseed_doubler; ends = λ list. false }

abbrev pub doubler : Automaton
doubler = doubler_with 1

-- in the order in which the program hands them in
abbrev pub standard : List Automaton
standard = killer ∷ doubler ∷ loser ∷ []
