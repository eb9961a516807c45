-- The statement of the central theorem rests on this file.
-- Paths of invocations: the number of a request, and then the ordinal of each spawn.
use Rattle.std.specs.Prelude.{ℕ, ◌&&◌, Bool, true, false, IsTrue, List, [], ◌∷◌, ◌++◌, length, take, Option, Some, None, nat_lt, if◌then◌else◌}

-- the number of a request
abbrev pub is_request : ℕ → Bool
is_request n = nat_lt 0 n && nat_lt n 1048576

-- the ordinal of a spawn
abbrev pub is_ordinal : ℕ → Bool
is_ordinal n = nat_lt 0 n && nat_lt n 4096

-- ordinals, one after another
abbrev pub are_ordinals : List ℕ → Bool
are_ordinals [] = true
are_ordinals (n ∷ ns) = is_ordinal n && are_ordinals ns

-- one request, and at most three ordinals
abbrev pub is_path : List ℕ → Bool
is_path [] = false
is_path (n ∷ ns) = is_request n && are_ordinals ns && nat_lt (length ns) 4

-- the same as a fact
abbrev pub IsPath : List ℕ → Type 0
IsPath path = IsTrue (is_path path)

-- the path of a request, where the number is in range
abbrev pub request_path : ℕ → Option (List ℕ)
request_path n = if is_request n then Some (n ∷ []) else None

-- the path of a spawn, where the ordinal is in range and the path that spawns has less than four numbers
abbrev pub child_path : List ℕ → ℕ → Option (List ℕ)
child_path path ordinal = if is_ordinal ordinal && nat_lt (length path) 4 then Some (path ++ ordinal ∷ []) else None

-- four numbers, those behind the path being 0
abbrev pub padded : List ℕ → List ℕ
padded path = take 4 (path ++ 0 ∷ 0 ∷ 0 ∷ 0 ∷ [])

-- numbers as a path, where they are one
abbrev pub path_of : List ℕ → Option (List ℕ)
path_of numbers = if is_path numbers then Some numbers else None
