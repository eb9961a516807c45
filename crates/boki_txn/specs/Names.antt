-- Store names, each with its value and the commit that wrote it last.
use Rattle.std.specs.Prelude.{ℕ, map, nat_lt, not, ◌&&◌, if◌then◌else◌, Bool, false, List, [], ◌∷◌}
use Rattle.std.specs.List.{list_any}
use Rattle.std.specs.Option.{option_map_or}
use Rattle.lb_base.specs.declared.value.Value.{Value}
use Rattle.lb_base.specs.declared.value.Value.TheVariants.{Nothing}
use Rattle.boki_types.specs.declared.body.Body.{Body}
use Rattle.boki_types.specs.declared.body.Body.TheVariants as body
use Rattle.boki_model.specs.Maps.{get, put}
use Rattle.boki_model.specs.Folds.{Commit, written_names}
use Rattle.boki_txn.specs.declared.stored.StoredName.{StoredName}

abbrev pub StoredNames : Type 0
StoredNames = List (List ℕ × StoredName)

abbrev pub stored_name : ℕ → Value → StoredName
stored_name commit value = record { value = value; commit = commit }

-- a commit's writes, where a name that is written twice has the last value
abbrev pub put_writes : ℕ → List (List ℕ × Value) → StoredNames → StoredNames
put_writes commit [] names = names
put_writes commit (w ∷ ws) names = put_writes commit ws (put w.0 (stored_name commit w.1) names)

-- the names behind commits that succeeded, the newest of which is the first
abbrev pub names_behind : List Commit → StoredNames
names_behind [] = []
names_behind (c ∷ cs) = put_writes c.seq c.writes (names_behind cs)

-- the names with their values
abbrev pub with_values : StoredNames → List (List ℕ × Value)
with_values names = map (λ n. (n.0, n.1.value)) names

-- the value of a name, or none
abbrev pub value_of : List ℕ → StoredNames → Value
value_of name names = option_map_or (λ s. s.value) (get name names) Nothing

-- whether a commit behind the begin wrote a name
abbrev pub is_dirty : ℕ → StoredNames → List ℕ → Bool
is_dirty begin names name = option_map_or (λ s. nat_lt begin s.commit) (get name names) false

-- whether a commit succeeds: where no commit behind its begin wrote a name that it read or writes
abbrev pub may_commit : ℕ → List (List ℕ) → List (List ℕ × Value) → StoredNames → Bool
may_commit begin read writes names = not (list_any (is_dirty begin names) read) && not (list_any (is_dirty begin names) (written_names writes))

-- whether what a record says is a commit that succeeds
abbrev pub is_good : Body → StoredNames → Bool
is_good (body.TxnCommit p i begin read writes) names = may_commit begin read writes names
is_good _ names = false

-- the names behind a record
abbrev pub changed_by : ℕ → Body → StoredNames → StoredNames
changed_by seq (body.TxnCommit p i begin read writes) names = if may_commit begin read writes names then put_writes seq writes names else names
changed_by seq _ names = names
