-- Shards that a metalog may order.
use Rattle.std.specs.Prelude.{ℕ, zero, suc, List, [], ◌∷◌, None, replicate}
use Rattle.lb_base.specs.declared.value.Record.{Record}
use Rattle.boki_model.specs.Order.{first_count, other_counts, last_vector}
use Rattle.meta_order.specs.MetalogState.{MetalogState, AreOrdered}

-- so many shards, each with as many records that say nothing as a vector counts
abbrev pub blank_record : Record
blank_record = record { tags = []; cond = None; bytes = [] }

abbrev pub blank_shards : ℕ → List ℕ → List (List Record)
blank_shards zero v = []
blank_shards (suc w) v = replicate (first_count v) blank_record ∷ blank_shards w (other_counts v)

abbrev pub ThereAreShards : Type 0
ThereAreShards = (m : MetalogState) → AreOrdered (blank_shards m.shards (last_vector m.vectors)) m
