-- The progress never falls.
use Rattle.std.proofs.Common.{ℕ, zero, suc, ◌+◌, ◌-◌, ◌≤◌, min, List, [], ◌∷◌, ◌++◌, length, get_or, set, arith}
use Rattle.std.proofs.lemmas.List.{length_push}
use Rattle.lb_base.specs.declared.value.Record.{Record}
use Rattle.boki_model.specs.Order.{least_count, progress}
use Rattle.boki_model.specs.OrderLaws.{AreAtMost, ShardsHave, add_to}
use Rattle.shard_store.specs.Kept.{ShardsState, copied_count}
use Rattle.shard_store.specs.ProgressLaws.{NeverFalls}

least_most : (n : ℕ) (cs : List ℕ) → least_count n cs ≤ n
least_most n [] = omega arith
least_most n (c ∷ cs) = omega (arith, least_most (min n c) cs)

least_grows : (n m : ℕ) (cs : List ℕ) → n ≤ m → least_count n cs ≤ least_count m cs
least_grows n m [] le = le
least_grows n m (c ∷ cs) le = least_grows (min n c) (min m c) cs (omega arith)

least_raised : (n i k : ℕ) (cs : List ℕ) → least_count n cs ≤ least_count n (set cs i (get_or cs i 0 + k))
least_raised n i k [] = omega arith
least_raised n zero k (c ∷ cs) = least_grows (min n c) (min n (c + k)) cs (omega arith)
least_raised n (suc i) k (c ∷ cs) = least_raised (min n c) i k cs

most_self : (v : List ℕ) → AreAtMost v v
most_self [] = tt
most_self (n ∷ ns) = (omega arith, most_self ns)

progress_there : (shards : List (List Record)) (counts : List (List ℕ)) → ShardsHave shards (progress shards counts)
progress_there [] counts = tt
progress_there (s ∷ ss) [] = (omega arith, progress_there ss [])
progress_there (s ∷ ss) (c ∷ cs) = (least_most (length s) c, progress_there ss cs)

progress_appended : (k : ℕ) (r : Record) (shards : List (List Record)) (counts : List (List ℕ)) → AreAtMost (progress shards counts) (progress (add_to k r shards) counts)
progress_appended k r [] counts = tt
progress_appended zero r (s ∷ ss) [] = (omega (arith, length_push s r), most_self (progress ss []))
progress_appended zero r (s ∷ ss) (c ∷ cs) = (least_grows (length s) (length (s ++ r ∷ [])) c (omega (arith, length_push s r)), most_self (progress ss cs))
progress_appended (suc k) r (s ∷ ss) [] = (omega arith, progress_appended k r ss [])
progress_appended (suc k) r (s ∷ ss) (c ∷ cs) = (omega arith, progress_appended k r ss cs)

progress_copied : (k i m : ℕ) (shards : List (List Record)) (counts : List (List ℕ))
    → AreAtMost (progress shards counts) (progress shards (set counts k (set (get_or counts k []) i (get_or (get_or counts k []) i 0 + m))))
progress_copied k i m [] counts = tt
progress_copied k i m (s ∷ ss) [] = most_self (progress (s ∷ ss) [])
progress_copied zero i m (s ∷ ss) (c ∷ cs) = (least_raised (length s) i m c, most_self (progress ss cs))
progress_copied (suc k) i m (s ∷ ss) (c ∷ cs) = (omega arith, progress_copied k i m ss cs)

pub never_falls : (kept : ShardsState) → NeverFalls kept
never_falls kept = record {
  there = progress_there kept.shards kept.counts;
  append = λ shard r. progress_appended (shard - 1) r kept.shards kept.counts;
  copy = λ shard replica n. progress_copied (shard - 1) (replica - 2) (copied_count shard replica n kept) kept.shards kept.counts;
}
