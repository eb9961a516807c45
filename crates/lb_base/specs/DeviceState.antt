-- What is known of a source or a sink in memory.
use Rattle.std.specs.Prelude.{ℕ, List}

-- The bytes still to come, how many calls there were, how many of them failed, and which calls fail.
pub record SourceState : Type 0 where
  pub left : List ℕ
  pub calls : ℕ
  pub faults : ℕ
  pub fail : List ℕ

-- The bytes taken so far, how many more fit without memory, the most that one call takes, and the same counts.
pub record SinkState : Type 0 where
  pub held : List ℕ
  pub spare : ℕ
  pub most : ℕ
  pub calls : ℕ
  pub faults : ℕ
  pub fail : List ℕ
