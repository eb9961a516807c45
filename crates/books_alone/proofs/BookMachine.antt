-- The machine that a book sees: its log, its engines' views, and what an append leaves of it.
use Rattle.std.proofs.Common.{◌≡◌, ℕ, zero, suc, ◌-◌, ◌≤◌, true, false, cond, List, [], ◌∷◌, ◌++◌, length, take, map, refl, sym, ap, ◌∙◌, arith}
use Rattle.std.specs.List.{AllByRecursion}
use Rattle.std.specs.Prelude.{slice_index, slice_index_or, slice_set}
use Rattle.std.proofs.lemmas.List.{length-append}
use Rattle.boki_types.specs.declared.body.Body.{Body}
use Rattle.boki_model.specs.Order.{last_vector, progress, least_count}
use Rattle.boki_model.specs.OrderLaws.{AreAtMost, ShardsHave, add_to}
use Rattle.boki_model.specs.Live.{LogRecord, live, upto}
use Rattle.boki_model.proofs.Orders.{order_stays}
use Rattle.boki_machine.specs.Machine.{Aux, Machine, log, position, view, append_to}
use Rattle.books_alone.specs.Books.{is_of, own_entry, own_entries, own_vector, own_vectors, own_seq, own_lives, count_selected}
use Rattle.books_alone.specs.Mux.{Mux, book_aux, own}
use Rattle.books_alone.specs.Laws.{IsOwned, IsMux}
use Rattle.books_alone.proofs.Picked.{length-picked, picked-append, map_set, map_at, set_same, append_none}
use Rattle.books_alone.proofs.BookOrder.{order_picked, vectors_stay, each_ordered}
use Rattle.books_alone.proofs.BookNumbers.{count_new, count_all, count_none}
use Rattle.books_alone.proofs.BookLives.{view_own}

-- machines that differ in these parts alone
pub same_machine :
    (m : Machine) (s s' : List (List (LogRecord Body))) (v v' : List (List ℕ)) (p p' : List ℕ) (a a' : List (List Aux))
    → s ≡ s' → v ≡ v' → p ≡ p' → a ≡ a'
    → (let x : Machine = record m { shards = s; vectors = v; positions = p; aux = a } in x) ≡ (let x : Machine = record m { shards = s'; vectors = v'; positions = p'; aux = a' } in x)
same_machine m s s' v v' p p' a a' e f g h =
    ap (λ y. let x : Machine = record m { shards = y; vectors = v; positions = p; aux = a } in x) e
    ∙ ap (λ y. let x : Machine = record m { shards = s'; vectors = y; positions = p; aux = a } in x) f
    ∙ ap (λ y. let x : Machine = record m { shards = s'; vectors = v'; positions = y; aux = a } in x) g
    ∙ ap (λ y. let x : Machine = record m { shards = s'; vectors = v'; positions = p'; aux = y } in x) h

-- Shards have what the vectors count.

pub have_most : {A : Type 0} (shards : List (List A)) (v : List ℕ) → AreAtMost v (map length shards) → ShardsHave shards v
have_most [] v most = tt
have_most (s ∷ ss) [] most = (omega arith, have_most ss [] tt)
have_most (s ∷ ss) (n ∷ ns) most = (most.0, have_most ss ns most.1)

pub most_itself : (v : List ℕ) → AreAtMost v v
most_itself [] = tt
most_itself (n ∷ ns) = (omega arith, most_itself ns)

length_push : {A : Type 0} (s : List A) (r : A) → length s ≤ length (s ++ r ∷ [])
length_push [] r = omega arith
length_push (x ∷ s) r = let le = length_push s r in omega (arith, le)

pub most_more : {A : Type 0} (k : ℕ) (r : A) (shards : List (List A)) (v : List ℕ) → AreAtMost v (map length shards) → AreAtMost v (map length (add_to k r shards))
most_more k r [] v most = most
most_more k r (s ∷ ss) [] most = tt
most_more zero r (s ∷ ss) (n ∷ ns) most = (let le = length_push s r in let lo = most.0 in omega (arith, le, lo), most.1)
most_more (suc k) r (s ∷ ss) (n ∷ ns) most = (most.0, most_more k r ss ns most.1)

-- with one replica a cut takes all
pub progress_all : {A : Type 0} (shards : List (List A)) (counts : List (List ℕ)) → AllByRecursion (λ c. c ≡ []) counts → progress shards counts ≡ map length shards
progress_all [] counts whole = refl
progress_all (s ∷ ss) [] whole = ap (λ l. length s ∷ l) (progress_all ss [] tt)
progress_all (s ∷ ss) (c ∷ cs) whole =
    ap (λ d. least_count (length s) d ∷ progress ss cs) whole.0 ∙ ap (λ l. length s ∷ l) (progress_all ss cs whole.1)

module _ {A : Type 0} (b : ℕ) where
  pub all_vector : (shards : List (List (LogRecord A))) → map length (map (own_entries b) shards) ≡ own_vector (is_of b) shards (map length shards)
  all_vector [] = refl
  all_vector (s ∷ ss) =
      ap (λ n. n ∷ map length (map (own_entries b) ss)) (length-picked (is_of b) own_entry s ∙ ap (count_selected (is_of b)) (sym (take_length s)))
      ∙ ap (λ l. count_selected (is_of b) (take (length s) s) ∷ l) (all_vector ss)
    where
      take_length : (s : List (LogRecord A)) → take (length s) s ≡ s
      take_length [] = refl
      take_length (x ∷ s) = ap (λ l. x ∷ l) (take_length s)

  -- records in front change no count before them
  pub count_front : (front entries : List (LogRecord A)) (n : ℕ) → n ≤ length entries → own_seq b (front ++ entries) n ≡ own_seq b entries n
  count_front [] entries n le = refl
  count_front (r ∷ front) entries n le =
      count_new (is_of b) r (front ++ entries) n (let e = length-append front entries in omega (arith, e)) ∙ count_front front entries n le

pub positions_stay : (f g : ℕ → ℕ) (n : ℕ) (ps : List ℕ) → ((p : ℕ) → p ≤ n → f p ≡ g p) → AllByRecursion (λ p. p ≤ n) ps → map f ps ≡ map g ps
positions_stay f g n [] same all = refl
positions_stay f g n (p ∷ ps) same all = ap (λ q. q ∷ map f ps) (same p all.0) ∙ ap (λ l. g p ∷ l) (positions_stay f g n ps same all.1)

pub position_at : (f : ℕ → ℕ) (ps : List ℕ) (i : ℕ) → f 0 ≡ 0 → slice_index (map f ps) i ≡ f (slice_index ps i)
position_at f [] i e = sym e
position_at f (p ∷ ps) zero e = refl
position_at f (p ∷ ps) (suc i) e = position_at f ps i e

module _ (shards books : ℕ) (m : Mux) (is : IsMux shards books m) (b : ℕ) where
  pub each_owned : AllByRecursion IsOwned (log m.physical)
  each_owned = each_ordered IsOwned m.physical.shards m.physical.vectors is.records

  pub have : ShardsHave m.physical.shards (last_vector m.physical.vectors)
  have = have_most m.physical.shards (last_vector m.physical.vectors) is.most

  -- the book's log is its part of the log
  pub log_own : log (own b m) ≡ own_entries b (log m.physical)
  log_own = order_picked (is_of b) own_entry m.physical.shards m.physical.vectors is.grow

  pub length_own : length (log (own b m)) ≡ own_seq b (log m.physical) (length (log m.physical))
  length_own = ap length log_own ∙ length-picked (is_of b) own_entry (log m.physical) ∙ sym (count_all (is_of b) (log m.physical) (length (log m.physical)) (omega arith))

  pub position_own : (engine : ℕ) → position (own b m) engine ≡ own_seq b (log m.physical) (position m.physical engine)
  position_own engine = position_at (own_seq b (log m.physical)) m.physical.positions (engine - 1) (count_none (is_of b) (log m.physical))

  pub view_is : (engine : ℕ) → view (own b m) engine ≡ own_lives b (own_seq b (log m.physical)) (view m.physical engine)
  view_is engine =
      ap (λ p. upto p (live (log (own b m)))) (position_own engine)
      ∙ ap (λ l. upto (own_seq b (log m.physical) (position m.physical engine)) (live l)) log_own
      ∙ view_own b (position m.physical engine) (log m.physical) each_owned

  -- A record that is appended is there for its own book alone.

  pub log_stays : (shard : ℕ) (r : LogRecord Body) → log (append_to shard r m.physical) ≡ log m.physical
  log_stays shard r = order_stays (shard - 1) r m.physical.shards m.physical.vectors is.grow have

  vectors_own : (shard : ℕ) (r : LogRecord Body) → own_vectors (is_of b) (add_to (shard - 1) r m.physical.shards) m.physical.vectors ≡ own_vectors (is_of b) m.physical.shards m.physical.vectors
  vectors_own shard r = vectors_stay (is_of b) (shard - 1) r m.physical.shards m.physical.vectors is.grow have

  shards_own : (shard : ℕ) (r : LogRecord Body)
      → map (own_entries b) (add_to (shard - 1) r m.physical.shards)
      ≡ slice_set (map (own_entries b) m.physical.shards) (shard - 1) (slice_index_or (map (own_entries b) m.physical.shards) (shard - 1) [] ++ own_entries b (r ∷ []))
  shards_own shard r =
      map_set (own_entries b) (shard - 1) (slice_index_or m.physical.shards (shard - 1) [] ++ r ∷ []) m.physical.shards
      ∙ ap (slice_set (map (own_entries b) m.physical.shards) (shard - 1))
      (picked-append (is_of b) own_entry (slice_index_or m.physical.shards (shard - 1) []) (r ∷ [])
      ∙ ap (λ l. l ++ own_entries b (r ∷ [])) (sym (map_at (own_entries b) (shard - 1) m.physical.shards [])))

  pub append_mine : (shard : ℕ) (r : LogRecord Body) → is_of b r ≡ true → own b (record m { physical = append_to shard r m.physical }) ≡ append_to shard (own_entry r) (own b m)
  append_mine shard r k =
      same_machine m.physical _ _ _ _ _ _ (book_aux m b) (book_aux m b)
      (shards_own shard r ∙ ap (λ t. slice_set (map (own_entries b) m.physical.shards) (shard - 1) (slice_index_or (map (own_entries b) m.physical.shards) (shard - 1) [] ++ cond t (own_entry r ∷ []) [])) k)
      (vectors_own shard r)
      (ap (λ l. map (own_seq b l) m.physical.positions) (log_stays shard r))
      refl

  pub append_other : (shard : ℕ) (r : LogRecord Body) → is_of b r ≡ false → own b (record m { physical = append_to shard r m.physical }) ≡ own b m
  append_other shard r k =
      same_machine m.physical _ _ _ _ _ _ (book_aux m b) (book_aux m b)
      (shards_own shard r
      ∙ ap (λ t. slice_set (map (own_entries b) m.physical.shards) (shard - 1) (slice_index_or (map (own_entries b) m.physical.shards) (shard - 1) [] ++ cond t (own_entry r ∷ []) [])) k
      ∙ ap (slice_set (map (own_entries b) m.physical.shards) (shard - 1)) (append_none (slice_index_or (map (own_entries b) m.physical.shards) (shard - 1) []))
      ∙ set_same (shard - 1) (map (own_entries b) m.physical.shards) [])
      (vectors_own shard r)
      (ap (λ l. map (own_seq b l) m.physical.positions) (log_stays shard r))
      refl
