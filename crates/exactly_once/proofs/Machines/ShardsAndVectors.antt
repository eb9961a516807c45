-- Shards: a record is appended, and a vector orders what every replica has.
use Rattle.std.proofs.Common.{◌⊎◌, inl, inr, ⊎_elim, ℕ, zero, suc, ◌+◌, ◌≤◌, List, [], ◌∷◌, ◌++◌, length, refl, sym, subst, arith}
use Rattle.std.specs.Prelude.{take, drop, reverse, min, slice_index, slice_index_or, slice_set}
use Rattle.std.specs.List.{AllByRecursion}
use mathlib.Core.List.{reverse-cons}
use Rattle.boki_types.specs.declared.body.Body.{Body}
use Rattle.boki_types.specs.declared.plan.Setup.{Setup}
use Rattle.boki_types.specs.declared.program.Function.{Function}
use Rattle.boki_model.specs.Live.{LogRecord}
use Rattle.boki_model.specs.Order.{first_count, other_counts, records_between, entry_records, least_count, progress}
use Rattle.boki_model.specs.OrderLaws.{AreAtMost, ShardsHave, add_to}
use Rattle.exactly_once.specs.Induction.Invariant.{World, records, IsSentRecord, InvariantHolds}
use Rattle.exactly_once.specs.FurtherLaws.Words.{values_only, IsAmong, all_records}
use Rattle.exactly_once.proofs.Log.ListElements.{each_append, each_weaker}
use Rattle.exactly_once.proofs.Invariant.OrderedRecord.{orders_keep}

-- What stands in shards.

module _ {A : Type 0} where
  among_left : (x : A) (xs ys : List A) → IsAmong x xs → IsAmong x (xs ++ ys)
  among_left x [] ys is = absurd is
  among_left x (z ∷ xs) ys is = ⊎_elim (λ same. inl same) (λ rest. inr (among_left x xs ys rest)) is

  among_right : (x : A) (xs ys : List A) → IsAmong x ys → IsAmong x (xs ++ ys)
  among_right x [] ys is = is
  among_right x (z ∷ xs) ys is = inr (among_right x xs ys is)

  among_either : (x : A) (xs ys : List A) → IsAmong x (xs ++ ys) → IsAmong x xs ⊎ IsAmong x ys
  among_either x [] ys is = inr is
  among_either x (z ∷ xs) ys is = ⊎_elim (λ same. inl (inl same)) (λ rest. ⊎_elim (λ l. inl (inr l)) (λ r. inr r) (among_either x xs ys rest)) is

  -- a record that is appended is there beside the others
  pub among_add : (x : A) (k : ℕ) (r : A) (shards : List (List A)) → IsAmong x (all_records shards) → IsAmong x (all_records (add_to k r shards))
  among_add x k r [] is = absurd is
  among_add x zero r (s ∷ ss) is = ⊎_elim (λ l. among_left x (s ++ r ∷ []) (all_records ss) (among_left x s (r ∷ []) l)) (λ l. among_right x (s ++ r ∷ []) (all_records ss) l) (among_either x s (all_records ss) is)
  among_add x (suc k) r (s ∷ ss) is = ⊎_elim (λ l. among_left x s (all_records (add_to k r ss)) l) (λ l. among_right x s (all_records (add_to k r ss)) (among_add x k r ss l)) (among_either x s (all_records ss) is)

  each_parts : (P : A → Type 0) (xs ys : List A) → AllByRecursion P (xs ++ ys) → AllByRecursion P xs × AllByRecursion P ys
  each_parts P [] ys all = (tt, all)
  each_parts P (x ∷ xs) ys all = let rest = each_parts P xs ys all.1 in ((all.0, rest.0), rest.1)

  pub each_add : (P : A → Type 0) (k : ℕ) (r : A) (shards : List (List A)) → P r → AllByRecursion P (all_records shards) → AllByRecursion P (all_records (add_to k r shards))
  each_add P k r [] one all = tt
  each_add P zero r (s ∷ ss) one all = let parts = each_parts P s (all_records ss) all in each_append P (s ++ r ∷ []) (all_records ss) (each_append P s (r ∷ []) parts.0 (one, tt)) parts.1
  each_add P (suc k) r (s ∷ ss) one all = let parts = each_parts P s (all_records ss) all in each_append P s (all_records (add_to k r ss)) parts.0 (each_add P k r ss one parts.1)

  each_take : (P : A → Type 0) (n : ℕ) (xs : List A) → AllByRecursion P xs → AllByRecursion P (take n xs)
  each_take P zero [] all = tt
  each_take P zero (x ∷ xs) all = tt
  each_take P (suc n) [] all = tt
  each_take P (suc n) (x ∷ xs) all = (all.0, each_take P n xs all.1)

  each_drop : (P : A → Type 0) (n : ℕ) (xs : List A) → AllByRecursion P xs → AllByRecursion P (drop n xs)
  each_drop P zero [] all = tt
  each_drop P zero (x ∷ xs) all = all
  each_drop P (suc n) [] all = tt
  each_drop P (suc n) (x ∷ xs) all = each_drop P n xs all.1

  each_reverse : (P : A → Type 0) (xs : List A) → AllByRecursion P xs → AllByRecursion P (reverse xs)
  each_reverse P [] all = tt
  each_reverse P (x ∷ xs) all = subst (AllByRecursion P) (sym (reverse-cons x xs)) (each_append P (reverse xs) (x ∷ []) (each_reverse P xs all.1) (all.0, tt))

  each_itself : (xs : List A) → AllByRecursion (λ x. IsAmong x xs) xs
  each_itself [] = tt
  each_itself (x ∷ xs) = (inl refl, each_weaker (λ y. IsAmong y xs) (λ y. IsAmong y (x ∷ xs)) (λ y is. inr is) xs (each_itself xs))

  -- what an entry orders was appended
  pub added_among : (shards : List (List A)) (old new : List ℕ) → AllByRecursion (λ x. IsAmong x (all_records shards)) (entry_records shards old new)
  added_among [] old new = tt
  added_among (s ∷ ss) old new =
      let here = each_reverse (λ x. IsAmong x s) (records_between (first_count old) (first_count new) s)
      (each_drop (λ x. IsAmong x s) (first_count old) (take (first_count new) s) (each_take (λ x. IsAmong x s) (first_count new) s (each_itself s))) in
      each_append (λ x. IsAmong x (s ++ all_records ss)) (entry_records ss (other_counts old) (other_counts new)) (reverse (records_between (first_count old) (first_count new) s))
      (each_weaker (λ x. IsAmong x (all_records ss)) (λ x. IsAmong x (s ++ all_records ss)) (λ x is. among_right x s (all_records ss) is) (entry_records ss (other_counts old) (other_counts new)) (added_among ss (other_counts old) (other_counts new)))
      (each_weaker (λ x. IsAmong x s) (λ x. IsAmong x (s ++ all_records ss)) (λ x is. among_left x s (all_records ss) is) (reverse (records_between (first_count old) (first_count new) s)) here)

-- Counts.

pub at_most_trans : (a b c : List ℕ) → AreAtMost a b → AreAtMost b c → AreAtMost a c
at_most_trans [] b c one two = tt
at_most_trans (n ∷ ns) [] c one two = (let le = one.0 in omega (arith, le), at_most_trans ns [] (other_counts c) one.1 tt)
at_most_trans (n ∷ ns) (m ∷ ms) c one two = (let le = one.0 in let then_ = two.0 in omega (arith, le, then_), at_most_trans ns ms (other_counts c) one.1 two.1)

pub at_most_itself : (a : List ℕ) → AreAtMost a a
at_most_itself [] = tt
at_most_itself (n ∷ ns) = (omega arith, at_most_itself ns)

least_below : (n : ℕ) (cs : List ℕ) → least_count n cs ≤ n
least_below n [] = omega arith
least_below n (c ∷ cs) = let le = least_below (min n c) cs in omega (arith, le)

least_grows : (n m : ℕ) (cs : List ℕ) → n ≤ m → least_count n cs ≤ least_count m cs
least_grows n m [] le = le
least_grows n m (c ∷ cs) le = least_grows (min n c) (min m c) cs (omega (arith, le))

module _ {A : Type 0} where
  -- the shards have what every replica has
  pub progress_have : (shards : List (List A)) (counts : List (List ℕ)) → ShardsHave shards (progress shards counts)
  progress_have [] counts = tt
  progress_have (s ∷ ss) [] = (omega arith, progress_have ss [])
  progress_have (s ∷ ss) (c ∷ cs) = (least_below (length s) c, progress_have ss cs)

  length_push : (s : List A) (r : A) → length s ≤ length (s ++ r ∷ [])
  length_push [] r = omega arith
  length_push (x ∷ s) r = let le = length_push s r in omega (arith, le)

  -- and every replica has it, when a record is appended
  pub progress_add : (k : ℕ) (r : A) (shards : List (List A)) (counts : List (List ℕ)) → AreAtMost (progress shards counts) (progress (add_to k r shards) counts)
  progress_add k r [] counts = tt
  progress_add zero r (s ∷ ss) [] = (length_push s r, at_most_itself (progress ss []))
  progress_add zero r (s ∷ ss) (c ∷ cs) = (least_grows (length s) (length (s ++ r ∷ [])) c (length_push s r), at_most_itself (progress ss cs))
  progress_add (suc k) r (s ∷ ss) [] = (omega arith, progress_add k r ss [])
  progress_add (suc k) r (s ∷ ss) (c ∷ cs) = (omega arith, progress_add k r ss cs)

-- or a replica copies more
least_more : (n k i : ℕ) (cs : List ℕ) → least_count n cs ≤ least_count n (slice_set cs i (slice_index cs i + k))
least_more n k i [] = omega arith
least_more n k zero (c ∷ cs) = least_grows (min n c) (min n (c + k)) cs (omega arith)
least_more n k (suc i) (c ∷ cs) = least_more (min n c) k i cs

pub progress_copied :
    {A : Type 0} (k i n : ℕ) (shards : List (List A)) (counts : List (List ℕ))
    → AreAtMost (progress shards counts) (progress shards (slice_set counts k (slice_set (slice_index_or counts k []) i (slice_index (slice_index_or counts k []) i + n))))
progress_copied k i n [] counts = tt
progress_copied k i n (s ∷ ss) [] = at_most_itself (progress (s ∷ ss) [])
progress_copied zero i n (s ∷ ss) (c ∷ cs) = (least_more (length s) n i c, at_most_itself (progress ss cs))
progress_copied (suc k) i n (s ∷ ss) (c ∷ cs) = (omega arith, progress_copied k i n ss cs)

-- The invariant, when more was sent, and when an entry orders some of it.

module _ (setup : Setup) (fs : List Function) where
  pub resent : (w : World) (sent : List (LogRecord Body)) → InvariantHolds setup fs w → AllByRecursion (IsSentRecord setup fs (values_only w.store) w.store.fences (length w.log) (records w)) sent → AllByRecursion (λ r. IsAmong r sent) w.log → InvariantHolds setup fs (record w { sent = sent })
  resent w sent holds asked ordered = record {
    sound = holds.sound;
    fenced = holds.fenced;
    sent = asked;
    ordered = ordered;
    owed = holds.owed;
    attempts = holds.attempts;
    floor_is = holds.floor_is;
    positions = holds.positions;
  }

  pub orders_all : (w : World) (rs : List (LogRecord Body)) → InvariantHolds setup fs w → AllByRecursion (λ r. IsAmong r w.sent) rs → InvariantHolds setup fs (record w { log = rs ++ w.log })
  orders_all w [] holds all = holds
  orders_all w (r ∷ rs) holds all = orders_keep setup fs (record w { log = rs ++ w.log }) r (orders_all w rs holds all.1) all.0
