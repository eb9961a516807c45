use Rattle.std.proofs.Common.{◌≡◌, ◌-◌, ◌+◌, ◌≤◌, length}
use Rattle.rec_codec.specs.Answers.{with_front}
use Rattle.rec_codec.specs.Reading.{many_at, spawn_at}
use Rattle.rec_codec.proofs.lists.spawns.Given as goal

abbrev pub invariant-loop : goal.invariant-loop
invariant-loop l =
    (length l.whole + (l.count - l.counter) ≤ 4)
    × (with_front l.whole (many_at spawn_at (l.count - l.counter) l.bytes.now) ≡ with_front l.fn.path (many_at spawn_at l.count l.fn.bytes.now))
