use Rattle.std.proofs.Common.{◌≡◌, ◌-◌}
use Rattle.rec_codec.specs.Answers.{with_front}
use Rattle.rec_codec.specs.Reading.{many_at, text_at, is_key}
use Rattle.rec_codec.proofs.lists.many_names.Given as goal

abbrev pub invariant-loop : goal.invariant-loop
invariant-loop l = with_front l.list (many_at (text_at is_key) (l.count - l.counter) l.rest) ≡ many_at (text_at is_key) l.count l.bytes
