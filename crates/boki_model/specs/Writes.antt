-- The statement of the central theorem rests on this file.
-- Objects by positions. A write has a position, a pair of numbers that are compared from the left: an initial object stands at
-- (0, 0); a logged write at the seqnum q of its record at (q, 0); the k-th free write since the cursor c, a version, at (c, k),
-- k from 1. The store of the definitions never drops a value: it has the initial objects, the values that were stored under
-- names, the versions, and the fences that were raised, each with the newest first; and a floor.
use Rattle.std.specs.Prelude.{ℕ, suc, ◌+◌, ◌==◌, ◌&&◌, ◌||◌, not, nat_lt, nat_le, max, Bool, true, false, if◌then◌else◌, List, [], ◌∷◌, ◌++◌, length, Option, Some, None, is_some, bytes_eq, option_map}
use Rattle.std.specs.List.{filter}
use Rattle.lb_base.specs.declared.value.Value.{Value}
use Rattle.lb_base.specs.declared.value.Value.TheVariants.{Nothing}
use Rattle.boki_types.specs.declared.body.Body.{Body}
use Rattle.boki_types.specs.declared.body.Body.TheVariants as body
use Rattle.boki_types.specs.declared.store.Name.{Name}
use Rattle.boki_types.specs.declared.store.Named.{Named}
use Rattle.boki_types.specs.declared.store.Named.TheVariants as named_result
use Rattle.boki_types.specs.declared.store.Put.{Put}
use Rattle.boki_types.specs.declared.store.Put.TheVariants as put_result
use Rattle.boki_types.specs.declared.store.Fenced.{Fenced}
use Rattle.boki_types.specs.declared.store.Fenced.TheVariants as read_result
use Rattle.boki_model.specs.Live.{Live}
use Rattle.std.specs.Option.{option_or}
use Rattle.boki_model.specs.Maps.{get, put}

pub record NamedValue : Type 0 where
  pub name : Name
  pub value : Value

pub record Version : Type 0 where
  pub key : List ℕ
  pub cursor : ℕ
  pub number : ℕ
  pub value : Value

-- the fence of a key was raised to a seqnum
pub record KeyFence : Type 0 where
  pub key : List ℕ
  pub at : ℕ

pub record Store : Type 0 where
  pub initial : List (List ℕ × Value)
  pub named : List NamedValue
  pub versions : List Version
  pub fences : List KeyFence
  pub floor : ℕ

-- a write: its position, and what it wrote
pub record Write : Type 0 where
  pub first : ℕ
  pub second : ℕ
  pub value : Value

abbrev pub write_at : ℕ → ℕ → Value → Write
write_at first second value = record { first = first; second = second; value = value }

abbrev pub same_name : Name → Name → Bool
same_name m n = bytes_eq m.path n.path && (m.place == n.place)

-- the value under a name
abbrev pub value_under_name : Name → List NamedValue → Option Value
value_under_name name [] = None
value_under_name name (s ∷ ss) = if same_name name s.name then Some s.value else value_under_name name ss

abbrev pub fence : List ℕ → List KeyFence → ℕ
fence key [] = 0
fence key (raised_to ∷ rest) = if bytes_eq key raised_to.key then max raised_to.at (fence key rest) else fence key rest

-- the value of the version (key, cursor, k)
abbrev pub version_value : List ℕ → ℕ → ℕ → List Version → Option Value
version_value key cursor number [] = None
version_value key cursor number (v ∷ vs) =
    if bytes_eq key v.key && (cursor == v.cursor) && (number == v.number) then Some v.value else version_value key cursor number vs

-- how many versions stand at a cursor
abbrev pub versions_at : ℕ → List Version → ℕ
versions_at cursor vs = length (filter (λ v. cursor == v.cursor) vs)

-- The writes of a key.

-- a logged write names its object; its value stands in the record, or under its name
abbrev pub logged_write : Body → Option (List ℕ × (Name × Option Value))
logged_write (body.Write p i place key here) = Some (key, (record { path = p; place = place }, here))
logged_write _ = None

abbrev pub here_or_named : Option Value → Name → List NamedValue → Option Value
here_or_named here name named = option_or here (value_under_name name named)

abbrev pub logged_write_of : List ℕ → ℕ → List NamedValue → Option (List ℕ × (Name × Option Value)) → Option Write
logged_write_of key seq named None = None
logged_write_of key seq named (Some w) = if bytes_eq key w.0 then option_map (write_at seq 0) (here_or_named w.1.1 w.1.0 named) else None

abbrev pub prepend_some : {X : Type 0} → Option X → List X → List X
prepend_some None xs = xs
prepend_some (Some x) xs = x ∷ xs

abbrev pub logged_writes : List ℕ → List NamedValue → List (Live Body) → List Write
logged_writes key named [] = []
logged_writes key named (x ∷ xs) = prepend_some (logged_write_of key x.seq named (logged_write x.holds)) (logged_writes key named xs)

abbrev pub version_writes : List ℕ → List Version → List Write
version_writes key [] = []
version_writes key (v ∷ vs) =
    if bytes_eq key v.key then write_at v.cursor v.number v.value ∷ version_writes key vs else version_writes key vs

abbrev pub initial_writes : List ℕ → List (List ℕ × Value) → List Write
initial_writes key objects = prepend_some (option_map (write_at 0 0) (get key objects)) []

-- all writes of a key, where the live records are those of a view
abbrev pub writes_of : List ℕ → Store → List (Live Body) → List Write
writes_of key store view =
    version_writes key store.versions ++ logged_writes key store.named view ++ initial_writes key store.initial

-- The last write below a position.

-- the position (a, j) is below (c, k)
abbrev pub is_below : ℕ → ℕ → ℕ → ℕ → Bool
is_below first second bound_first bound_second =
    nat_lt first bound_first || ((first == bound_first) && nat_lt second bound_second)

-- the one with the greater position
abbrev pub later_write : Write → Option Write → Option Write
later_write write None = Some write
later_write write (Some other) = if is_below write.first write.second other.first other.second then Some other else Some write

abbrev pub last_write_below : ℕ → ℕ → List Write → Option Write
last_write_below first second [] = None
last_write_below first second (w ∷ ws) =
    if is_below w.first w.second first second then later_write w (last_write_below first second ws) else last_write_below first second ws

-- the value of a key's last write below (c, k)
abbrev pub last_value_below : List ℕ → ℕ → ℕ → Store → List (Live Body) → Option Value
last_value_below key first second store view = option_map (λ w. w.value) (last_write_below first second (writes_of key store view))

-- What the store holds: the keys with an initial object or a write whose first number is below the floor, the versions with a
-- cursor at or above the floor, and the named values whose name isn't that of a live logged write below the floor.

-- the keys, each once, of initial objects and of writes below a number
abbrev pub add_key : List ℕ → List (List ℕ × Value) → List (List ℕ × Value)
add_key key keys = put key Nothing keys

abbrev pub initial_keys : List (List ℕ × Value) → List (List ℕ × Value)
initial_keys [] = []
initial_keys (x ∷ xs) = add_key x.0 (initial_keys xs)

abbrev pub logged_key : Bool → Option (List ℕ × (Name × Option Value)) → List (List ℕ × Value) → List (List ℕ × Value)
logged_key true (Some w) keys = add_key w.0 keys
logged_key _ _ keys = keys

abbrev pub logged_keys_below : ℕ → List (Live Body) → List (List ℕ × Value) → List (List ℕ × Value)
logged_keys_below n [] keys = keys
logged_keys_below n (x ∷ xs) keys = logged_key (nat_lt x.seq n) (logged_write x.holds) (logged_keys_below n xs keys)

abbrev pub version_keys_below : ℕ → List Version → List (List ℕ × Value) → List (List ℕ × Value)
version_keys_below n [] keys = keys
version_keys_below n (v ∷ vs) keys =
    if nat_lt v.cursor n then add_key v.key (version_keys_below n vs keys) else version_keys_below n vs keys

abbrev pub keys_below : ℕ → Store → List (Live Body) → List (List ℕ × Value)
keys_below n store records = version_keys_below n store.versions (logged_keys_below n records (initial_keys store.initial))

abbrev pub is_write_named : Name → Option (List ℕ × (Name × Option Value)) → Bool
is_write_named name None = false
is_write_named name (Some w) = same_name name w.1.0

-- the name is that of a live logged write below the floor
abbrev pub is_settled : Name → ℕ → List (Live Body) → Bool
is_settled name floor [] = false
is_settled name floor (x ∷ xs) = (nat_lt x.seq floor && is_write_named name (logged_write x.holds)) || is_settled name floor xs

abbrev pub unsettled_values : ℕ → List (Live Body) → List NamedValue → List NamedValue
unsettled_values floor records named = filter (λ s. not (is_settled s.name floor records)) named

abbrev pub held_count : Store → List (Live Body) → ℕ
held_count store records = length (keys_below store.floor store records)
    + length (filter (λ v. nat_le store.floor v.cursor) store.versions)
    + length (unsettled_values store.floor records store.named)

-- The calls of the store.

-- a value is stored under a name, where the cursor isn't below the floor; a name that is there keeps its value
abbrev pub put_named : Name → ℕ → Value → Store → Named
put_named name cursor value store = if nat_lt cursor store.floor then named_result.Gone else named_result.Done

abbrev pub add_if_new : Name → Value → List NamedValue → List NamedValue
add_if_new name value named = if is_some (value_under_name name named) then named else record { name = name; value = value } ∷ named

abbrev pub after_put_named : Name → ℕ → Value → Store → Store
after_put_named name cursor value store =
    if nat_lt cursor store.floor then store else record store { named = add_if_new name value store.named }

-- a free write: done where its version is there already, late where it isn't and the fence is above the cursor, else put in
abbrev pub put_answer : Bool → Bool → Bool → Put
put_answer true there fenced = put_result.Gone
put_answer false true fenced = put_result.Done
put_answer false false true = put_result.Late
put_answer false false false = put_result.Done

abbrev pub has_version : List ℕ → ℕ → ℕ → Store → Bool
has_version key cursor number store = is_some (version_value key cursor number store.versions)

abbrev pub put_at : List ℕ → ℕ → ℕ → Store → Put
put_at key cursor number store =
    put_answer (nat_lt cursor store.floor) (has_version key cursor number store) (nat_lt cursor (fence key store.fences))

-- whether it is put in
abbrev pub puts_version : List ℕ → ℕ → ℕ → Store → Bool
puts_version key cursor number store =
    not (nat_lt cursor store.floor) && not (has_version key cursor number store) && not (nat_lt cursor (fence key store.fences))

abbrev pub after_put : List ℕ → ℕ → ℕ → Value → Store → Store
after_put key cursor number value store = if puts_version key cursor number store
    then record store { versions = record { key = key; cursor = cursor; number = number; value = value } ∷ store.versions }
    else store

-- a read below (c, k); `n` is the number that the floor is compared with
abbrev pub fenced_answer : Option Value → Fenced
fenced_answer None = read_result.Missing
fenced_answer (Some v) = read_result.Found v

abbrev pub read_below : ℕ → List ℕ → ℕ → ℕ → Store → List (Live Body) → Fenced
read_below n key first second store view =
    if nat_lt n store.floor then read_result.Gone else fenced_answer (last_value_below key first second store view)

-- a free read at a cursor: the last write whose first number is at most the cursor
abbrev pub read_free : List ℕ → ℕ → Store → List (Live Body) → Fenced
read_free key cursor store view = read_below cursor key (suc cursor) 0 store view

-- a fenced read at a marker: the last write below it; the key's fence becomes at least the marker
abbrev pub read_fenced : List ℕ → ℕ → Store → List (Live Body) → Fenced
read_fenced key at store view = read_below at key at 0 store view

abbrev pub raise_fences : List (List ℕ) → ℕ → List KeyFence → List KeyFence
raise_fences [] at fences = fences
raise_fences (key ∷ keys) at fences = record { key = key; at = at } ∷ raise_fences keys at fences

abbrev pub after_read_fenced : List (List ℕ) → ℕ → Store → Store
after_read_fenced keys at store = if nat_lt at store.floor then store else record store { fences = raise_fences keys at store.fences }

-- a sweep lifts the floor, and never lowers it
abbrev pub after_sweep : ℕ → Store → Store
after_sweep floor store = record store { floor = max floor store.floor }

-- the store of a plan's objects
abbrev pub initial_store : List (List ℕ × Value) → Store
initial_store objects = record { initial = objects; named = []; versions = []; fences = []; floor = 0 }
