-- The shards as lists of their parts.
use Rattle.std.proofs.Common.{◌≡◌, ℕ, zero, suc, ◌+◌, ◌-◌, ◌<◌, ◌≤◌, min, List, [], ◌∷◌, ◌++◌, length, map, take, get_or, set, replicate, slice_get, option_map, option_and_then, Option, Some, None, Result, IfOk, refl, sym, ap, ◌∙◌, subst, arith}
use Rattle.std.proofs.lemmas.Option.{slice_get-map}
use Rattle.std.proofs.lemmas.Result.{IfOk-weaker}
use Rattle.std.proofs.lemmas.List.{length-map, take_more, take_more_set, take_all, get_or-map}
use Rattle.lb_base.specs.declared.value.Record.{Record}
use Rattle.boki_model.specs.Order.{least_count, progress}
use Rattle.boki_model.specs.OrderLaws.{local_record, record_at, add_to}
use Rattle.shard_store.specs.Kept.{ShardState, ShardsState, empty_shards, records_of, HasShard, appended, copied_count, after_copy}

abbrev pub records : List ShardState → List (List Record)
records items = map (λ h. h.records) items

abbrev pub counts : List ShardState → List (List ℕ)
counts items = map (λ h. h.counts) items

abbrev pub kept : List ShardState → ShardsState
kept items = record { shards = records items; counts = counts items }

pub map_replicate : {X Y : Type 0} (f : X → Y) (n : ℕ) (x : X) → map f (replicate n x) ≡ replicate n (f x)
map_replicate f zero x = refl
map_replicate f (suc n) x = ap (λ l. f x ∷ l) (map_replicate f n x)

-- a shard with one more record
pub with_record : (items : List ShardState) (i : ℕ) (h : ShardState) (r : Record) → i < length items → h ≡ get_or items i h
    → kept (set items i (record h { records = h.records ++ r ∷ [] })) ≡ record (kept items) { shards = add_to i r (records items) }
with_record [] i h r lt is = absurd (let f : ⊥ = omega arith in f)
with_record (x ∷ xs) zero h r lt is =
    let P : ShardState → Type 0 = λ g. kept (record g { records = g.records ++ r ∷ [] } ∷ xs) ≡ record (kept (x ∷ xs)) { shards = add_to 0 r (records (x ∷ xs)) } in
    subst P (sym is) refl
with_record (x ∷ xs) (suc i) h r lt is = ap (λ (k : ShardsState). record { shards = x.records ∷ k.shards; counts = x.counts ∷ k.counts }) (with_record xs i h r (omega arith) is)

pub length-records : (items : List ShardState) (i : ℕ) (h : ShardState) → i < length items → h ≡ get_or items i h → h.records ≡ get_or (records items) i []
length-records [] i h lt is = absurd (let f : ⊥ = omega arith in f)
length-records (x ∷ xs) zero h lt is = ap (λ (g : ShardState). g.records) is
length-records (x ∷ xs) (suc i) h lt is = length-records xs i h (omega arith) is

pub counts_are : (items : List ShardState) (i : ℕ) (h : ShardState) → i < length items → h ≡ get_or items i h → h.counts ≡ get_or (counts items) i []
counts_are [] i h lt is = absurd (let f : ⊥ = omega arith in f)
counts_are (x ∷ xs) zero h lt is = ap (λ (g : ShardState). g.counts) is
counts_are (x ∷ xs) (suc i) h lt is = counts_are xs i h (omega arith) is

-- a shard with other counts
pub with_counts : (items : List ShardState) (i : ℕ) (h : ShardState) (cs : List ℕ) → i < length items → h ≡ get_or items i h
    → kept (set items i (record h { counts = cs })) ≡ record (kept items) { counts = set (counts items) i cs }
with_counts [] i h cs lt is = absurd (let f : ⊥ = omega arith in f)
with_counts (x ∷ xs) zero h cs lt is =
    let P : ShardState → Type 0 = λ g. kept (record g { counts = cs } ∷ xs) ≡ record (kept (x ∷ xs)) { counts = set (counts (x ∷ xs)) 0 cs } in
    subst P (sym is) refl
with_counts (x ∷ xs) (suc i) h cs lt is = ap (λ (k : ShardsState). record { shards = x.records ∷ k.shards; counts = x.counts ∷ k.counts }) (with_counts xs i h cs (omega arith) is)

abbrev pub progress_of : ShardState → ℕ
progress_of h = least_count (length h.records) h.counts

pub progress_map : (items : List ShardState) → progress (records items) (counts items) ≡ map progress_of items
progress_map [] = refl
progress_map (x ∷ xs) = ap (λ l. progress_of x ∷ l) (progress_map xs)

pub record_of : (shard local : ℕ) (items : List ShardState) → 0 < shard → record_at shard local (records items) ≡ option_and_then (λ (h : ShardState). local_record local h.records) (slice_get items (shard - 1))
record_of zero local items lt = absurd (let f : ⊥ = omega arith in f)
record_of (suc n) local items lt =
    ap (option_and_then (local_record local)) (slice_get-map (λ h. h.records) items n)
    ∙ at (slice_get items n)
    ∙ ap (λ m. option_and_then (λ (h : ShardState). local_record local h.records) (slice_get items m)) (let e : n ≡ suc n - 1 = omega arith in e)
  where
    at : (o : Option ShardState) → option_and_then (local_record local) (option_map (λ h. h.records) o) ≡ option_and_then (λ (h : ShardState). local_record local h.records) o
    at None = refl
    at (Some h) = refl

-- What a new record, a copy and the start make of the whole.

pub append_ok : {E : Type 0} (res : Result ℕ E) (items : List ShardState) (shard : ℕ) (h h' : ShardState) (r : Record) (k : ShardsState) → kept items ≡ k → HasShard shard k → h ≡ get_or items (shard - 1) h
    → IfOk res (λ local. (local ≡ suc (length h.records)) × (h' ≡ record h { records = h.records ++ r ∷ [] }))
    → IfOk res (λ local. (local ≡ suc (length (records_of shard k))) × (kept (set items (shard - 1) h') ≡ appended shard r k))
append_ok res items shard h h' r k view has is ok =
    let P : ShardsState → Type 0 = λ k. HasShard shard k → IfOk res (λ local. (local ≡ suc (length (records_of shard k))) × (kept (set items (shard - 1) h') ≡ appended shard r k)) in
    subst P view at has
  where
    at : HasShard shard (kept items) → IfOk res (λ local. (local ≡ suc (length (records_of shard (kept items)))) × (kept (set items (shard - 1) h') ≡ appended shard r (kept items)))
    at has =
        let lt : shard - 1 < length items = omega (arith, has.0, has.1, length-map items (λ (h : ShardState). h.records)) in
        IfOk-weaker res (λ local. (local ≡ suc (length h.records)) × (h' ≡ record h { records = h.records ++ r ∷ [] }))
        (λ local. (local ≡ suc (length (records_of shard (kept items)))) × (kept (set items (shard - 1) h') ≡ appended shard r (kept items)))
        (λ local p. (p.0 ∙ ap (λ l. suc (length l)) (length-records items (shard - 1) h lt is), ap (λ g. kept (set items (shard - 1) g)) p.1 ∙ with_record items (shard - 1) h r lt is)) ok

pub copy_after : (items : List ShardState) (shard replica n count : ℕ) (h h' : ShardState) (k : ShardsState) → kept items ≡ k → HasShard shard k → h ≡ get_or items (shard - 1) h
    → count ≡ min n (length h.records - get_or h.counts (replica - 2) 0) → h' ≡ record h { counts = set h.counts (replica - 2) (get_or h.counts (replica - 2) 0 + count) }
    → (count ≡ copied_count shard replica n k) × (kept (set items (shard - 1) h') ≡ after_copy shard replica n k)
copy_after items shard replica n count h h' k view has is many after =
    let P : ShardsState → Type 0 = λ k. HasShard shard k → (count ≡ copied_count shard replica n k) × (kept (set items (shard - 1) h') ≡ after_copy shard replica n k) in
    subst P view at has
  where
    at : HasShard shard (kept items) → (count ≡ copied_count shard replica n (kept items)) × (kept (set items (shard - 1) h') ≡ after_copy shard replica n (kept items))
    at has =
        let lt : shard - 1 < length items = omega (arith, has.0, has.1, length-map items (λ (h : ShardState). h.records)) in
        let rs = length-records items (shard - 1) h lt is in
        let cs = counts_are items (shard - 1) h lt is in
        let amount : List Record → List ℕ → ℕ = λ rs cs. min n (length rs - get_or cs (replica - 2) 0) in
        let state : List ℕ → ℕ → ShardsState = λ cs m. record (kept items) { counts = set (counts items) (shard - 1) (set cs (replica - 2) (get_or cs (replica - 2) 0 + m)) } in
        let same : count ≡ copied_count shard replica n (kept items) = many ∙ ap (λ l. amount l h.counts) rs ∙ ap (amount (get_or (records items) (shard - 1) [])) cs in (
          same,
          ap (λ g. kept (set items (shard - 1) g)) after
              ∙ with_counts items (shard - 1) h (set h.counts (replica - 2) (get_or h.counts (replica - 2) 0 + count)) lt is
              ∙ ap (λ l. state l count) cs
              ∙ ap (state (get_or (counts items) (shard - 1) [])) same,
        )

pub new_is : (items : List ShardState) (n others shards replicas : ℕ) → items ≡ replicate n (record { records = []; counts = replicate others 0 }) → n ≡ shards → others ≡ replicas - 1 → kept items ≡ empty_shards shards replicas
new_is items n others shards replicas is many each =
    let empty : ℕ → ShardState = λ m. record { records = []; counts = replicate m 0 } in
    ap kept (is ∙ ap (λ m. replicate m (empty others)) many ∙ ap (λ m. replicate shards (empty m)) each)
    ∙ ap (λ l. record { shards = l; counts = counts (replicate shards (empty (replicas - 1))) }) (map_replicate (λ (h : ShardState). h.records) shards (empty (replicas - 1)))
    ∙ ap (λ l. record { shards = replicate shards []; counts = l }) (map_replicate (λ (h : ShardState). h.counts) shards (empty (replicas - 1)))

slice_get_is : {X : Type 0} (xs : List X) (n : ℕ) (x : X) → n < length xs → x ≡ get_or xs n x → slice_get xs n ≡ Some x
slice_get_is [] n x lt is = absurd (let f : ⊥ = omega arith in f)
slice_get_is (y ∷ ys) zero x lt is = ap Some (sym is)
slice_get_is (y ∷ ys) (suc n) x lt is = slice_get_is ys n x (omega arith) is

pub record_is : (items xs : List ShardState) (k : ShardsState) (shard local : ℕ) (h : ShardState) (o : Option Record) → kept items ≡ k → xs ≡ items → 0 < shard → shard - 1 < length xs → h ≡ get_or xs (shard - 1) h
    → o ≡ local_record local h.records → o ≡ record_at shard local k.shards
record_is items xs k shard local h o view same at lt is found =
    found
    ∙ ap (option_and_then (λ (h : ShardState). local_record local h.records)) (sym (slice_get_is xs (shard - 1) h lt is) ∙ ap (λ l. slice_get l (shard - 1)) same)
    ∙ sym (record_of shard local items at)
    ∙ ap (λ (k : ShardsState). record_at shard local k.shards) view

pub progress_more : (into : List ℕ) (items : List ShardState) (i p : ℕ) (h : ShardState) → i < length items → i < length into → h ≡ get_or items i h → p ≡ progress_of h
    → take i into ≡ take i (map progress_of items) → take (i + 1) (set into i p) ≡ take (i + 1) (map progress_of items)
progress_more into items i p h lt within is made so_far =
    take_more_set into i p within
    ∙ ap (λ l. l ++ p ∷ []) so_far
    ∙ ap (λ q. take i (map progress_of items) ++ q ∷ []) (made ∙ ap progress_of is ∙ sym (get_or-map progress_of items i h p lt))
    ∙ sym (take_more (map progress_of items) i p (omega (arith, length-map items progress_of)))

pub progress_all : (into : List ℕ) (items xs : List ShardState) (k : ShardsState) (i : ℕ) → kept items ≡ k → xs ≡ items → length into ≡ length k.shards → length xs ≤ i
    → take i into ≡ take i (map progress_of xs) → into ≡ progress k.shards k.counts
progress_all into items xs k i view same long all is =
    let size : length k.shards ≡ length xs = ap (λ (k : ShardsState). length k.shards) (sym view) ∙ length-map items (λ (h : ShardState). h.records) ∙ ap length (sym same) in
    sym (take_all i into (omega arith))
    ∙ is
    ∙ take_all i (map progress_of xs) (omega (arith, length-map xs progress_of))
    ∙ ap (map progress_of) same
    ∙ sym (progress_map items)
    ∙ ap (λ (k : ShardsState). progress k.shards k.counts) view

pub length_kept : (items : List ShardState) (k : ShardsState) → kept items ≡ k → length k.shards ≡ length items
length_kept items k view = ap (λ (k : ShardsState). length k.shards) (sym view) ∙ length-map items (λ (h : ShardState). h.records)
