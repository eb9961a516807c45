-- Words of the laws of a machine: an element of a list, what was sent, attempts, the versions at a cursor, and the store
-- without fences and floor.
use Rattle.std.specs.Prelude.{◌≡◌, ◌⊎◌, ℕ, suc, List, [], ◌∷◌, length, ◌++◌, map, ◌==◌}
use Rattle.boki_model.specs.Writes.{Store, Version}
use Rattle.boki_machine.specs.Attempt.{Attempt}
use Rattle.boki_machine.specs.Machine.{Machine}
use Rattle.std.specs.List.{filter}

-- the store's values, without fences and floor: no answer that is decided depends on those
abbrev pub values_only : Store → Store
values_only s = record { initial = s.initial; named = s.named; versions = s.versions; fences = []; floor = 0 }

abbrev pub IsAmong : {A : Type 0} → A → List A → Type 0
IsAmong x [] = ⊥
IsAmong x (y ∷ ys) = (x ≡ y) ⊎ IsAmong x ys

-- the records of all shards: what was ever sent
abbrev pub all_records : {A : Type 0} → List (List A) → List A
all_records [] = []
all_records (s ∷ ss) = s ++ all_records ss

abbrev pub attempts_of : Machine → List Attempt
attempts_of m = map (λ x. x.attempt) m.attempts

-- the versions at a cursor, the newest first
abbrev pub versions_with_cursor : ℕ → List Version → List Version
versions_with_cursor cursor versions = filter (λ v. cursor == v.cursor) versions

-- such versions are numbered from 1
abbrev pub AreConsecutive : List Version → Type 0
AreConsecutive [] = Unit {0}
AreConsecutive (v ∷ vs) = (v.number ≡ suc (length vs)) × AreConsecutive vs
