-- The auxiliary data of an engine, as its cache keeps them.
use Rattle.std.proofs.Common.{◌≡◌, ℕ, suc, ◌-◌, ◌<◌, ◌≤◌, Bool, true, false, not, cond, eqb, leb, ◌&&◌, nat_eq, List, [], ◌∷◌, length, map, take, get_or, set, Option, Some, None, refl, sym, ap, subst, ◌∙◌, arith}
use Rattle.std.specs.List.{AllByRecursion, IsDistinct, filter}
use Rattle.std.specs.Map.{keys_of, lookup, lookup_entry, remove_entry}
use Rattle.std.specs.Option.{option_map_or}
use Rattle.std.proofs.lemmas.Bool.{eqb-true, le-leb}
use Rattle.std.proofs.lemmas.List.{length-map, length-set, get_or-map, map-set, set-get_or, take-map, take_all}
use Rattle.std.proofs.lemmas.List.Elements.{All-set}
use Rattle.lru.specs.LruCache.{LruCache, IsValid}
use Rattle.aux_cache.specs.Entries.{moved_to_front as in_front, with_entry}
use Rattle.boki_model.specs.Live.{LogRecord}
use Rattle.boki_machine.specs.Machine.{Aux, aux_at, move_to_front}
use Rattle.shard_store.specs.Kept as stored
use Rattle.meta_order.specs.MetalogState.{MetalogState}
use Rattle.eng_index.specs.IndexState as shown
use Rattle.book_api.specs.Books.{BookState, HasEngine, aux_of, with_aux, is_covered, after_set, after_get}
use Rattle.book_api.proofs.Views.{engine_within}
use Rattle.book_api.specs.Inside.{book_state_of, aux_in, AreEngines}

abbrev Pairs : Type 0
Pairs = List (ℕ × List ℕ)

abbrev entry : ℕ × List ℕ → Aux
entry e = record { seq = e.0; text = e.1 }

pub lookup_aux : (seq : ℕ) (es : Pairs) → lookup (eqb seq) es ≡ aux_at seq (map entry es)
lookup_aux seq [] = refl
lookup_aux seq (e ∷ es) = ap (cond (eqb seq e.0) (Some e.1)) (lookup_aux seq es)

abbrev others : ℕ → List Aux → List Aux
others seq xs = filter (λ x. not (eqb seq x.seq)) xs

all_others : (seq : ℕ) (es : Pairs) → AllByRecursion (λ k. eqb seq k ≡ false) (keys_of es) → others seq (map entry es) ≡ map entry es
all_others seq [] none = refl
all_others seq (e ∷ es) none =
    ap (λ b. cond (not b) (entry e ∷ others seq (map entry es)) (others seq (map entry es))) none.0
    ∙ ap (λ l. entry e ∷ l) (all_others seq es none.1)

removed : (seq : ℕ) (es : Pairs) → IsDistinct eqb (keys_of es) → map entry (remove_entry (eqb seq) es) ≡ others seq (map entry es)
unfolding IsDistinct
removed seq [] apart = refl
removed seq (e ∷ es) apart = at (removed seq es apart.1) (eqb seq e.0) refl
  where
    at : map entry (remove_entry (eqb seq) es) ≡ others seq (map entry es) → (b : Bool) → eqb seq e.0 ≡ b
        → map entry (cond b es (e ∷ remove_entry (eqb seq) es)) ≡ cond (not b) (entry e ∷ others seq (map entry es)) (others seq (map entry es))
    at ih true t = sym (all_others seq es (subst (λ k. AllByRecursion (λ y. eqb k y ≡ false) (keys_of es)) (sym (eqb-true seq e.0 t)) apart.0))
    at ih false t = ap (λ l. entry e ∷ l) ih

-- what the look-up of an entry finds
record Finds (seq : ℕ) (es : Pairs) (e : ℕ × List ℕ) : Type 0 where
  key : e.0 ≡ seq
  value : aux_at seq (map entry es) ≡ Some e.1
  fewer : suc (length (remove_entry (eqb seq) es)) ≡ length es

finds : (seq : ℕ) (es : Pairs) (e : ℕ × List ℕ) → lookup_entry (eqb seq) es ≡ Some e → Finds seq es e
finds seq [] e is = cc
finds seq (f ∷ es) e is = at (finds seq es e) (eqb seq f.0) refl is
  where
    at : (lookup_entry (eqb seq) es ≡ Some e → Finds seq es e) → (b : Bool) → eqb seq f.0 ≡ b → cond b (Some f) (lookup_entry (eqb seq) es) ≡ Some e → Finds seq (f ∷ es) e
    at ih true t is =
        let same : f ≡ e = cc in
        record {
          key = ap (λ (p : ℕ × List ℕ). p.0) (sym same) ∙ sym (eqb-true seq f.0 t);
          value = ap (λ b. cond b (Some f.1) (aux_at seq (map entry es))) t ∙ ap (λ (p : ℕ × List ℕ). Some p.1) same;
          fewer = ap (λ b. suc (length (cond b es (f ∷ remove_entry (eqb seq) es)))) t;
        }
    at ih false t is =
        let rest = ih is in
        record {
          key = rest.key;
          value = ap (λ b. cond b (Some f.1) (aux_at seq (map entry es))) t ∙ rest.value;
          fewer = ap (λ b. suc (length (cond b es (f ∷ remove_entry (eqb seq) es)))) t ∙ ap suc rest.fewer;
        }

record Misses (seq : ℕ) (es : Pairs) : Type 0 where
  value : aux_at seq (map entry es) ≡ None
  all : others seq (map entry es) ≡ map entry es

misses : (seq : ℕ) (es : Pairs) → lookup_entry (eqb seq) es ≡ None → Misses seq es
misses seq [] is = record { value = refl; all = refl }
misses seq (f ∷ es) is = at (misses seq es) (eqb seq f.0) refl is
  where
    at : (lookup_entry (eqb seq) es ≡ None → Misses seq es) → (b : Bool) → eqb seq f.0 ≡ b → cond b (Some f) (lookup_entry (eqb seq) es) ≡ None → Misses seq (f ∷ es)
    at ih true t is = cc
    at ih false t is =
        let rest = ih is in
        record {
          value = ap (λ b. cond b (Some f.1) (aux_at seq (map entry es))) t ∙ rest.value;
          all = ap (λ b. cond (not b) (entry f ∷ others seq (map entry es)) (others seq (map entry es))) t ∙ ap (λ l. entry f ∷ l) rest.all;
        }

abbrev Is64 : LruCache ℕ (List ℕ) → Type 0
Is64 c = IsValid nat_eq c × (c.cap ≡ 64)

-- an entry that is there comes to the front, with this value
front_is : (seq : ℕ) (v : List ℕ) (e : ℕ × List ℕ) (c : LruCache ℕ (List ℕ)) → Is64 c → lookup_entry (eqb seq) c.entries ≡ Some e
    → map entry ((e.0, v) ∷ remove_entry (eqb seq) c.entries) ≡ move_to_front seq v (aux_in c)
front_is seq v e c is found =
    let f = finds seq c.entries e found in
    let few = is.0.1 in
    let cap = is.1 in
    let fewer = f.fewer in
    let rest = removed seq c.entries is.0.0 in
    let long : length (others seq (aux_in c)) ≤ 63 = omega (arith, ap length rest, length-map (remove_entry (eqb seq) c.entries) entry) in
    ap (λ k. entry (k, v) ∷ map entry (remove_entry (eqb seq) c.entries)) f.key
    ∙ ap (λ l. entry (seq, v) ∷ l) (rest ∙ sym (take_all 63 (others seq (aux_in c)) long))

put_is : (seq : ℕ) (v : List ℕ) (c : LruCache ℕ (List ℕ)) → Is64 c → (o : Option (ℕ × List ℕ)) → lookup_entry (eqb seq) c.entries ≡ o
    → map entry (option_map_or (λ e. (e.0, v) ∷ remove_entry (eqb seq) c.entries) o ((seq, v) ∷ take (c.cap - 1) c.entries)) ≡ move_to_front seq v (aux_in c)
put_is seq v c is None none =
    let cap = is.1 in
    ap (λ n. entry (seq, v) ∷ map entry (take n c.entries)) (let e : c.cap - 1 ≡ 63 = omega arith in e)
    ∙ ap (λ l. entry (seq, v) ∷ l) (sym (take-map entry 63 c.entries) ∙ ap (take 63) (sym (misses seq c.entries none).all))
put_is seq v c is (Some e) found = front_is seq v e c is found

pub set_is_used : (seq : ℕ) (v : List ℕ) (c new : LruCache ℕ (List ℕ)) → Is64 c → new ≡ with_entry seq v c → aux_in new ≡ move_to_front seq v (aux_in c)
set_is_used seq v c new is made = ap aux_in made ∙ put_is seq v c is (lookup_entry (eqb seq) c.entries) refl

get_is : (seq : ℕ) (c : LruCache ℕ (List ℕ)) → Is64 c → (o : Option (ℕ × List ℕ)) → lookup_entry (eqb seq) c.entries ≡ o
    → map entry (option_map_or (λ e. e ∷ remove_entry (eqb seq) c.entries) o c.entries) ≡ option_map_or (λ text. move_to_front seq text (aux_in c)) (aux_at seq (aux_in c)) (aux_in c)
get_is seq c is None none = sym (ap (λ o. option_map_or (λ text. move_to_front seq text (aux_in c)) o (aux_in c)) (misses seq c.entries none).value)
get_is seq c is (Some e) found =
    front_is seq e.1 e c is found ∙ sym (ap (λ o. option_map_or (λ text. move_to_front seq text (aux_in c)) o (aux_in c)) (finds seq c.entries e found).value)

pub get_is_used : (seq : ℕ) (c new : LruCache ℕ (List ℕ)) → Is64 c → new ≡ in_front seq c → aux_in new ≡ option_map_or (λ text. move_to_front seq text (aux_in c)) (aux_at seq (aux_in c)) (aux_in c)
get_is_used seq c new is made = ap aux_in made ∙ get_is seq c is (lookup_entry (eqb seq) c.entries) refl

-- The book.

pub cache_within : (shards : stored.ShardsState) (metalog : MetalogState) (indexes : List shown.IndexState) (aux : List (LruCache ℕ (List ℕ))) (b : BookState) (engine : ℕ)
    → book_state_of shards metalog indexes aux ≡ b → HasEngine engine b → length aux ≡ length indexes → engine - 1 < length aux
cache_within shards metalog indexes aux b engine view has same = omega (arith, engine_within shards metalog indexes aux b engine view has)

pub covered_is : (seq p : ℕ) → 1 ≤ seq → seq ≤ p → true ≡ (leb 1 seq && leb seq p)
covered_is seq p low high = rw (le-leb 1 seq low, le-leb seq p high) refl

module _ (shards : stored.ShardsState) (metalog : MetalogState) (indexes : List shown.IndexState) (aux : List (LruCache ℕ (List ℕ))) (b : BookState) (engine : ℕ) (c : LruCache ℕ (List ℕ))
    (view : book_state_of shards metalog indexes aux ≡ b) (lt : engine - 1 < length aux) (is : c ≡ get_or aux (engine - 1) c) where
  pub aux_is : aux_of b engine ≡ aux_in c
  aux_is = ap (λ b. aux_of b engine) (sym view) ∙ get_or-map aux_in aux (engine - 1) c [] lt ∙ ap aux_in (sym is)

  put_back : (new : LruCache ℕ (List ℕ)) → book_state_of shards metalog indexes (set aux (engine - 1) new) ≡ record b { aux = set b.aux (engine - 1) (aux_in new) }
  put_back new =
      ap (λ l. record (book_state_of shards metalog indexes aux) { aux = l }) (map-set aux_in aux (engine - 1) new)
      ∙ ap (λ (b : BookState). record b { aux = set b.aux (engine - 1) (aux_in new) }) view

  pub kept_set_aux : (seq : ℕ) (v : List ℕ) (new : LruCache ℕ (List ℕ)) → aux_in new ≡ move_to_front seq v (aux_in c) → book_state_of shards metalog indexes (set aux (engine - 1) new) ≡ with_aux engine seq v b
  kept_set_aux seq v new made =
      put_back new
      ∙ ap (λ l. record b { aux = set b.aux (engine - 1) l }) (made ∙ ap (move_to_front seq v) (sym aux_is))

  pub kept_after_set : (seq : ℕ) (v : List ℕ) (new : LruCache ℕ (List ℕ)) → true ≡ is_covered b engine seq → aux_in new ≡ move_to_front seq v (aux_in c)
      → book_state_of shards metalog indexes (set aux (engine - 1) new) ≡ after_set engine seq v b
  kept_after_set seq v new covered made = kept_set_aux seq v new made ∙ ap (λ t. cond t (with_aux engine seq v b) b) covered

  pub kept_get_aux : (seq : ℕ) (new : LruCache ℕ (List ℕ)) → aux_in new ≡ option_map_or (λ text. move_to_front seq text (aux_in c)) (aux_at seq (aux_in c)) (aux_in c)
      → book_state_of shards metalog indexes (set aux (engine - 1) new) ≡ after_get engine seq b
  kept_get_aux seq new made =
      put_back new
      ∙ ap (λ l. record b { aux = set b.aux (engine - 1) l }) (made ∙ ap (λ xs. option_map_or (λ text. move_to_front seq text xs) (aux_at seq xs) xs) (sym aux_is))
      ∙ at (aux_at seq (aux_of b engine))
    where
      same : (l : List Aux) → l ≡ aux_of b engine → record b { aux = set b.aux (engine - 1) l } ≡ b
      same l e = ap (λ l. record b { aux = set b.aux (engine - 1) l }) e ∙ ap (λ l. record b { aux = l }) (set-get_or b.aux (engine - 1) [])

      at : (o : Option (List ℕ)) → record b { aux = set b.aux (engine - 1) (option_map_or (λ text. move_to_front seq text (aux_of b engine)) o (aux_of b engine)) } ≡ option_map_or (λ text. with_aux engine seq text b) o b
      at None = same (aux_of b engine) refl
      at (Some text) = refl

  pub found_aux : (seq : ℕ) → lookup (eqb seq) c.entries ≡ aux_at seq (aux_of b engine)
  found_aux seq = lookup_aux seq c.entries ∙ ap (aux_at seq) (sym aux_is)

pub engines_aux : (log : List (LogRecord (List ℕ))) (indexes : List shown.IndexState) (aux : List (LruCache ℕ (List ℕ))) (k : ℕ) (c : LruCache ℕ (List ℕ))
    → AreEngines log indexes aux → c.cap ≡ 64 → AreEngines log indexes (set aux k c)
engines_aux log indexes aux k c are cap = record {
  few = are.few;
  caches = length-set aux k c ∙ are.caches;
  views = are.views;
  sizes = All-set (λ (c : LruCache ℕ (List ℕ)). c.cap ≡ 64) aux k c cap are.sizes;
}
