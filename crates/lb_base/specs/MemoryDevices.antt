-- Sources and sinks in memory. Their calls are numbered from 1, and the calls with certain numbers fail.
use Rattle.std.specs.Prelude.{ℕ, ◌+◌, ◌-◌, ◌^◌, ◌==◌, min, Bool, List, ◌++◌, length, take, drop, if◌then◌else◌}
use Rattle.std.specs.List.{list_any}
use Rattle.lb_base.specs.declared.devices.Taken.{Taken}
use Rattle.lb_base.specs.declared.devices.Taken.TheVariants as taken
use Rattle.lb_base.specs.declared.devices.Given.{Given}
use Rattle.lb_base.specs.declared.devices.Given.TheVariants as given
use Rattle.lb_base.specs.DeviceState.{SourceState, SinkState}

-- a count of 64 bits after one more, which stays at its greatest value
abbrev pub count_up : ℕ → ℕ
count_up n = min (n + 1) (2 ^ 64 - 1)

-- whether the call after so many is one that fails
abbrev pub fails : ℕ → List ℕ → Bool
fails calls fail = list_any (λ n. n == count_up calls) fail

-- how many bytes a call of take that doesn't fail gives
abbrev pub next_len : SourceState → ℕ → ℕ
next_len s room = min room (length s.left)

-- what a call of take answers, at a piece of so many bytes
abbrev pub take_answer : SourceState → ℕ → Taken
take_answer s room = if fails s.calls s.fail then taken.Failed else taken.Bytes (next_len s room)

-- the state after a call of take
abbrev pub after_take : SourceState → ℕ → SourceState
after_take s room =
    if fails s.calls s.fail then record s { calls = count_up s.calls; faults = count_up s.faults }
    else record s { left = drop (next_len s room) s.left; calls = count_up s.calls }

-- the piece after a call of take
abbrev pub piece_after : SourceState → List ℕ → List ℕ
piece_after s into =
    if fails s.calls s.fail then into else take (next_len s (length into)) s.left ++ drop (next_len s (length into)) into

-- what a call of put answers, at a piece of so many bytes
abbrev pub put_answer : SinkState → ℕ → Given
put_answer s len = if fails s.calls s.fail then given.Failed else given.Bytes (min len s.most)

-- the state after a call of put, but for the room
abbrev pub after_put : SinkState → List ℕ → ℕ → SinkState
after_put s piece spare =
    if fails s.calls s.fail then record s { spare = spare; calls = count_up s.calls; faults = count_up s.faults }
    else record s { held = s.held ++ take (min (length piece) s.most) piece; spare = spare; calls = count_up s.calls }
