-- Shards with as many records as a vector counts.
use Rattle.std.proofs.Common.{◌≡◌, ℕ, zero, suc, List, length, refl, ap, arith}
use Rattle.std.proofs.lemmas.List.{length-replicate}
use Rattle.boki_model.specs.Order.{first_count, other_counts, last_vector}
use Rattle.boki_model.specs.OrderLaws.{ShardsHave}
use Rattle.meta_order.specs.MetalogState.{MetalogState, AreOrdered}
use Rattle.meta_order.specs.ShardLaws.{blank_record, blank_shards}

as_many : (w : ℕ) (v : List ℕ) → length (blank_shards w v) ≡ w
as_many zero v = refl
as_many (suc w) v = ap suc (as_many w (other_counts v))

have : (w : ℕ) (v : List ℕ) → ShardsHave (blank_shards w v) v
have zero v = tt
have (suc w) v = (omega (arith, length-replicate (first_count v) blank_record), have w (other_counts v))

pub there_are : (m : MetalogState) → AreOrdered (blank_shards m.shards (last_vector m.vectors)) m
there_are m = record { as_many = as_many m.shards (last_vector m.vectors); have = have m.shards (last_vector m.vectors) }
