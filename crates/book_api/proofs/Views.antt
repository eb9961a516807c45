-- What an engine's index says of what the engine sees.
use Rattle.std.proofs.Common.{◌≡◌, ℕ, ◌-◌, ◌^◌, ◌<◌, ◌≤◌, List, [], ◌++◌, length, map, get_or, set, sym, ap, subst, ◌∙◌, arith}
use Rattle.std.proofs.lemmas.List.{length-map, length-set, get_or-map, map-set}
use Rattle.std.proofs.lemmas.List.Elements.{All-get_or, All-set, All-weaker}
use Rattle.lru.specs.LruCache.{LruCache, lru_cache}
use Rattle.boki_machine.specs.Machine.{Aux}
use Rattle.boki_model.specs.Live.{LogRecord, live, upto}
use Rattle.shard_store.specs.Kept as stored
use Rattle.meta_order.specs.MetalogState.{MetalogState}
use Rattle.eng_index.specs.IndexState as shown
use Rattle.book_api.specs.Books.{BookState, HasEngine, with_position, restarted}
use Rattle.book_api.specs.Inside.{book_state_of, aux_in, oldest, position_of, IsView, log_in, AreEngines, ShowsView}
use Rattle.book_api.proofs.Prefix.{oldest_counted, live_oldest, view_stays, position_shown}

pub engine_within : (shards : stored.ShardsState) (metalog : MetalogState) (indexes : List shown.IndexState) (aux : List (LruCache ℕ (List ℕ))) (b : BookState) (engine : ℕ)
    → book_state_of shards metalog indexes aux ≡ b → HasEngine engine b → engine - 1 < length indexes
engine_within shards metalog indexes aux b engine view has =
    let count : length b.positions ≡ length indexes = ap (λ (b : BookState). length b.positions) (sym view) ∙ length-map indexes position_of in
    omega (arith, has.0, has.1)

pub view_shown : (shards : stored.ShardsState) (metalog : MetalogState) (indexes : List shown.IndexState) (aux : List (LruCache ℕ (List ℕ))) (b : BookState) (engine : ℕ) (i : shown.IndexState)
    → book_state_of shards metalog indexes aux ≡ b → AreEngines (log_in shards metalog) indexes aux → length (log_in shards metalog) ≤ 2 ^ 63 → HasEngine engine b → i ≡ get_or indexes (engine - 1) i → ShowsView b engine i
view_shown shards metalog indexes aux b engine i view are few has is =
    let P : BookState → Type 0 = λ b. HasEngine engine b → ShowsView b engine i in
    subst P view at has
  where
    log : List (LogRecord (List ℕ))
    log = log_in shards metalog

    at : HasEngine engine (book_state_of shards metalog indexes aux) → ShowsView (book_state_of shards metalog indexes aux) engine i
    at has =
        let lt : engine - 1 < length indexes = omega (arith, has.0, has.1, length-map indexes position_of) in
        let v : IsView log i = subst (IsView log) (sym is) (All-get_or (IsView log) indexes (engine - 1) i lt are.views) in
        let p : position_of i ≡ get_or (map position_of indexes) (engine - 1) 0 = ap position_of is ∙ sym (get_or-map position_of indexes (engine - 1) i 0 lt) in
        record {
          log = oldest (position_of i) log;
          shows = v.shows;
          view = live_oldest log (position_of i) ∙ ap (λ n. upto n (live log)) p;
          long = oldest_counted (position_of i) log v.within ∙ p;
          within = subst (λ n. n ≤ length log) p v.within;
          few = (let le = v.within in omega (arith, p));
        }

-- one index is changed
pub engines_set : (log : List (LogRecord (List ℕ))) (indexes : List shown.IndexState) (aux : List (LruCache ℕ (List ℕ))) (k : ℕ) (i : shown.IndexState)
    → AreEngines log indexes aux → IsView log i → AreEngines log (set indexes k i) aux
engines_set log indexes aux k i are v = record {
  few = (let le = are.few in omega (arith, length-set indexes k i));
  caches = are.caches ∙ sym (length-set indexes k i);
  views = All-set (IsView log) indexes k i v are.views;
  sizes = are.sizes;
}

pub kept_set : (shards : stored.ShardsState) (metalog : MetalogState) (indexes : List shown.IndexState) (aux : List (LruCache ℕ (List ℕ))) (b : BookState) (engine : ℕ) (i : shown.IndexState)
    → book_state_of shards metalog indexes aux ≡ b → book_state_of shards metalog (set indexes (engine - 1) i) aux ≡ with_position engine (position_of i) b
kept_set shards metalog indexes aux b engine i view =
    ap (λ ps. record (book_state_of shards metalog indexes aux) { positions = ps }) (map-set position_of indexes (engine - 1) i)
    ∙ ap (with_position engine (position_of i)) view

-- newer records are ordered
pub engines_stay : (news log : List (LogRecord (List ℕ))) (indexes : List shown.IndexState) (aux : List (LruCache ℕ (List ℕ)))
    → AreEngines log indexes aux → AreEngines (news ++ log) indexes aux
engines_stay news log indexes aux are = record {
  few = are.few;
  caches = are.caches;
  views = All-weaker (IsView log) (IsView (news ++ log)) (view_stays news log) indexes are.views;
  sizes = are.sizes;
}

-- an engine lost what it had
pub kept_restart : (shards : stored.ShardsState) (metalog : MetalogState) (indexes : List shown.IndexState) (aux : List (LruCache ℕ (List ℕ))) (b : BookState) (engine : ℕ) (i : shown.IndexState) (old new : LruCache ℕ (List ℕ))
    → book_state_of shards metalog indexes aux ≡ b → shown.IsIndexOf [] i → new ≡ lru_cache [] old.cap
    → book_state_of shards metalog (set indexes (engine - 1) i) (set aux (engine - 1) new) ≡ restarted engine b
kept_restart shards metalog indexes aux b engine i old new view shows is =
    ap (λ (ps : List ℕ). record (book_state_of shards metalog indexes aux) { positions = ps; aux = map aux_in (set aux (engine - 1) new) })
    (map-set position_of indexes (engine - 1) i ∙ ap (set (map position_of indexes) (engine - 1)) (position_shown [] i shows))
    ∙ ap (λ (l : List (List Aux)). record (book_state_of shards metalog indexes aux) { positions = set (map position_of indexes) (engine - 1) 0; aux = l })
    (map-set aux_in aux (engine - 1) new ∙ ap (λ c. set (map aux_in aux) (engine - 1) (aux_in c)) is)
    ∙ ap (restarted engine) view
