-- Laws of the progress that a cut orders.
use Rattle.std.specs.Prelude.{ℕ, List}
use Rattle.lb_base.specs.declared.value.Record.{Record}
use Rattle.boki_model.specs.Order.{progress}
use Rattle.boki_model.specs.OrderLaws.{AreAtMost, ShardsHave}
use Rattle.shard_store.specs.Kept.{ShardsState, appended, after_copy}

abbrev pub progress_of_all : ShardsState → List ℕ
progress_of_all kept = progress kept.shards kept.counts

-- Progress counts records that the shards have, and neither a further record nor a copy takes from it.
pub record NeverFalls (kept : ShardsState) : Type 0 where
  pub there : ShardsHave kept.shards (progress_of_all kept)
  pub append : (shard : ℕ) (r : Record) → AreAtMost (progress_of_all kept) (progress_of_all (appended shard r kept))
  pub copy : (shard replica n : ℕ) → AreAtMost (progress_of_all kept) (progress_of_all (after_copy shard replica n kept))

abbrev pub ProgressNeverFalls : Type 0
ProgressNeverFalls = (kept : ShardsState) → NeverFalls kept
