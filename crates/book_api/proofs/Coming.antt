-- An index takes in the records that it lacks, and with it its engine comes on.
use Rattle.std.proofs.Common.{◌≡◌, ◌⊎◌, inl, inr, ℕ, suc, ◌+◌, ◌-◌, ◌<◌, ◌≤◌, List, [], ◌∷◌, length, map, get_or, set, Option, Some, None, Result, Ok, Err, OnErr, IsSome, refl, sym, ap, subst, ◌∙◌, arith}
use Rattle.std.specs.Option.{option_copied}
use Rattle.std.specs.List.{All}
use Rattle.std.proofs.lemmas.List.{length-map, get_or-map, get_or-set_same, get_or_past}
use Rattle.std.proofs.lemmas.List.Elements.{All-head, All-tail}
use Rattle.std.proofs.lemmas.Bool.{cases_lt}
use denote.Ref.{Bor}
use Rattle.lru.specs.LruCache.{LruCache}
use Rattle.lb_base.specs.declared.value.Record.{Record}
use Rattle.boki_model.specs.Live.{LogRecord, entry_of}
use Rattle.boki_model.specs.Order.{order, at_seq}
use Rattle.shard_store.specs.Kept as stored
use Rattle.meta_order.specs.MetalogState.{MetalogState}
use Rattle.eng_index.specs.IndexState as shown
use Rattle.book_api.specs.Books.{BookState, HasEngine, ordered, log_of, position, with_position, caught_up, all_caught_up, PositionRises, PositionsRise}
use Rattle.book_api.specs.Inside.{book_state_of, position_of, IsView, CatchesUp, log_in}
use Rattle.book_api.proofs.Prefix.{oldest_all, view_more, view_unchanged, at_seq_map}
use Rattle.book_api.proofs.Views.{engine_within, kept_set}

pub some_copied : {X : Type 0} (o : Option (Bor X)) (x : X) → option_copied o ≡ Some x → IsSome o
some_copied None x is = cc
some_copied (Some r) x is = refl

pub on_err : {T E P : Type 0} (r : Result T E) → P → OnErr r P
on_err (Ok x) p = tt
on_err (Err e) p = p

-- the records of the log, as an index takes them
pub start_caught : (log : List (LogRecord (List ℕ))) (index : shown.IndexState) → IsView log index → CatchesUp log index index
start_caught log index v = record { view = v; rises = omega arith }

pub caught_more : (records : List Record) (first old new : shown.IndexState) (seq : ℕ) (r : Record) → CatchesUp (map entry_of records) first old → position_of old ≡ seq → at_seq (seq + 1) records ≡ Some r
    → ((log : List (LogRecord (List ℕ))) → shown.IsIndexOf log old → shown.IsIndexOf (entry_of r ∷ log) new) → CatchesUp (map entry_of records) first new × (position_of new ≡ seq + 1)
caught_more records first old new seq r so_far at is added =
    let next : at_seq (suc (position_of old)) (map entry_of records) ≡ Some (entry_of r) =
    ap (λ n. at_seq n (map entry_of records)) (let e : suc (position_of old) ≡ seq + 1 = omega arith in e) ∙ at_seq_map entry_of (seq + 1) r records is in
    let more = view_more (map entry_of records) old new (entry_of r) so_far.view next added in
    let p = more.1 in
    let rises = so_far.rises in
    (record { view = more.0; rises = omega arith }, omega arith)

pub caught_same : (log : List (LogRecord (List ℕ))) (first old new : shown.IndexState) → CatchesUp log first old → shown.IsUnchanged old new → CatchesUp log first new
caught_same log first old new so_far same =
    let v = view_unchanged log old new so_far.view same in
    let p = v.1 in
    let rises = so_far.rises in
    record { view = v.0; rises = omega arith }

-- An index that has caught up from no record shows the whole list.
pub whole_shown : (shards : stored.ShardsState) (metalog : MetalogState) (indexes : List shown.IndexState) (aux : List (LruCache ℕ (List ℕ))) (b : BookState) (i : shown.IndexState)
    → book_state_of shards metalog indexes aux ≡ b → IsView (log_in shards metalog) i → position_of i ≡ length (log_in shards metalog) → shown.IsIndexOf (log_of b) i
whole_shown shards metalog indexes aux b i view v end =
    subst (λ (b : BookState). shown.IsIndexOf (log_of b) i) view
    (subst (λ l. shown.IsIndexOf l i) (oldest_all (position_of i) (log_in shards metalog) (omega (arith, end))) v.shows)

-- The engine of a book.

module _ (shards : stored.ShardsState) (metalog : MetalogState) (indexes : List shown.IndexState) (aux : List (LruCache ℕ (List ℕ))) (b : BookState) (engine : ℕ) (old new : shown.IndexState)
    (view : book_state_of shards metalog indexes aux ≡ b) (has : HasEngine engine b) (is : old ≡ get_or indexes (engine - 1) old) (caught : CatchesUp (log_in shards metalog) old new) where
  within : engine - 1 < length indexes
  within = engine_within shards metalog indexes aux b engine view has

  counted : length (log_in shards metalog) ≡ length (ordered b)
  counted = length-map (order shards.shards metalog.vectors) entry_of ∙ ap (λ b. length (ordered b)) view

  old_position : position b engine ≡ position_of old
  old_position = ap (λ b. position b engine) (sym view) ∙ get_or-map position_of indexes (engine - 1) old 0 within ∙ ap position_of (sym is)

  new_position : position (with_position engine (position_of new) b) engine ≡ position_of new
  new_position = get_or-set_same b.positions (engine - 1) (position_of new) 0 (let h = has in omega (arith, h.0, h.1))

  pub came_on : PositionRises engine b (book_state_of shards metalog (set indexes (engine - 1) new) aux)
  came_on =
      subst (PositionRises engine b) (sym (kept_set shards metalog indexes aux b engine new view))
      record {
        same = ap (λ p. with_position engine p b) (sym new_position);
        rises = (let le = caught.rises in omega (arith, old_position, new_position));
        within = (let le = caught.view.within in omega (arith, new_position, counted));
      }

  pub all_caught : position_of new ≡ length (log_in shards metalog) → book_state_of shards metalog (set indexes (engine - 1) new) aux ≡ caught_up engine b
  all_caught end = kept_set shards metalog indexes aux b engine new view ∙ ap (λ p. with_position engine p b) (end ∙ counted)

  pub log_length : length (order shards.shards metalog.vectors) ≡ length (ordered b)
  log_length = ap (λ b. length (ordered b)) view

-- All engines.

all_at : (xs ys : List shown.IndexState) (n : ℕ) → length ys ≡ length xs → All (λ i. position_of i ≡ n) ys → map position_of ys ≡ map (λ p. n) (map position_of xs)
all_at [] [] n same are = refl
all_at [] (y ∷ ys) n same are = absurd (let f : ⊥ = omega arith in f)
all_at (x ∷ xs) [] n same are = absurd (let f : ⊥ = omega arith in f)
all_at (x ∷ xs) (y ∷ ys) n same are =
    ap (λ p. p ∷ map position_of ys) (All-head (λ i. position_of i ≡ n) y ys are)
    ∙ ap (λ l. n ∷ l) (all_at xs ys n (omega arith) (All-tail (λ i. position_of i ≡ n) y ys are))

module _ (shards : stored.ShardsState) (metalog : MetalogState) (indexes new : List shown.IndexState) (aux : List (LruCache ℕ (List ℕ))) (b : BookState) (view : book_state_of shards metalog indexes aux ≡ b)
    (caught : (k : ℕ) (d : shown.IndexState) → k < length indexes → CatchesUp (log_in shards metalog) (get_or indexes k d) (get_or new k d)) (same : length new ≡ length indexes) where
  blank : shown.IndexState
  blank = record { lists = []; marks = [] }

  abbrev all_before : List ℕ
  all_before = map position_of indexes

  abbrev all_after : List ℕ
  all_after = map position_of new

  before_at : (k : ℕ) → k < length indexes → get_or all_before k 0 ≡ position_of (get_or indexes k blank)
  before_at k lt = get_or-map position_of indexes k blank 0 lt

  after_at : (k : ℕ) → k < length indexes → get_or all_after k 0 ≡ position_of (get_or new k blank)
  after_at k lt = get_or-map position_of new k blank 0 (omega arith)

  rise_at : (k : ℕ) → get_or all_before k 0 ≤ get_or all_after k 0
  rise_at k = at (cases_lt k (length indexes))
    where
      at : (k < length indexes) ⊎ (length indexes ≤ k) → get_or all_before k 0 ≤ get_or all_after k 0
      at (inl lt) = let le = (caught k blank lt).rises in omega (arith, before_at k lt, after_at k lt)
      at (inr le) = omega (arith, get_or_past all_before k 0 (let e = length-map indexes position_of in omega arith))

  within_at : (k : ℕ) → get_or all_after k 0 ≤ length (order shards.shards metalog.vectors)
  within_at k = at (cases_lt k (length indexes))
    where
      at : (k < length indexes) ⊎ (length indexes ≤ k) → get_or all_after k 0 ≤ length (order shards.shards metalog.vectors)
      at (inl lt) = let le = (caught k blank lt).view.within in omega (arith, after_at k lt, length-map (order shards.shards metalog.vectors) entry_of)
      at (inr le) = omega (arith, get_or_past all_after k 0 (let e = length-map new position_of in omega arith))

  pub all_came_on : PositionsRise b (book_state_of shards metalog new aux)
  all_came_on =
      let P : BookState → Type 0 = λ b. PositionsRise b (book_state_of shards metalog new aux) in
      subst P view
      record {
        same = refl;
        count = length-map new position_of ∙ same ∙ sym (length-map indexes position_of);
        rise = rise_at;
        within = within_at;
      }

  pub all_are_at : (n : ℕ) → n ≡ length (ordered b) → All (λ i. position_of i ≡ n) new → book_state_of shards metalog new aux ≡ all_caught_up b
  all_are_at n end are =
      ap (λ (ps : List ℕ). record (book_state_of shards metalog indexes aux) { positions = ps }) (all_at indexes new n same are)
      ∙ ap (λ (b : BookState). record b { positions = map (λ p. n) b.positions }) view
      ∙ ap (λ n. record b { positions = map (λ p. n) b.positions }) end

  pub whole_length : length (order shards.shards metalog.vectors) ≡ length (ordered b)
  whole_length = ap (λ b. length (ordered b)) view
