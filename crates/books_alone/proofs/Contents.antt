-- What records hold plays no part in the order, in what an engine sees, and in reads.
use Rattle.std.proofs.Common.{◌≡◌, ℕ, zero, suc, Bool, true, false, cond, eqb, leb, ◌&&◌, ◌||◌, max, List, [], ◌∷◌, ◌++◌, length, take, drop, reverse, map, Option, Some, None, refl, sym, ap, ◌∙◌}
use Rattle.std.specs.List.{AllByRecursion}
use mathlib.Core.List.{reverse-cons}
use Rattle.lb_base.specs.declared.value.Cond.{Cond}
use Rattle.boki_model.specs.Order.{first_count, other_counts, records_between, entry_records, last_vector, order}
use Rattle.boki_model.specs.Live.{LogRecord, Live, has_tag, count, meets_condition, live, upto, is_live}
use Rattle.std.specs.Option.{option_or}
use Rattle.boki_model.specs.Reads.{next, prev, hidden_bound, unless_hidden}
use Rattle.boki_model.specs.Entries.{same_counts}
use Rattle.books_alone.specs.Books.{is_of, count_selected, own_vector, own_vectors, seqnums, holding, live_holding}
use Rattle.books_alone.specs.Laws.{AreOwned, IsOwned, ContentsApart, ContentsPlayNoPart}
use Rattle.books_alone.proofs.Picked.{each_weaker}
use Rattle.books_alone.proofs.BookLives.{each_live, each_upto}
use Rattle.books_alone.proofs.BookReads.{hidden_physical}

-- Contents play no part in the order.

module _ {X Y : Type 0} (g : X → Y) where
  take_map : (n : ℕ) (xs : List X) → take n (map g xs) ≡ map g (take n xs)
  take_map zero xs = refl
  take_map (suc n) [] = refl
  take_map (suc n) (x ∷ xs) = ap (λ l. g x ∷ l) (take_map n xs)

  drop_map : (n : ℕ) (xs : List X) → drop n (map g xs) ≡ map g (drop n xs)
  drop_map zero xs = refl
  drop_map (suc n) [] = refl
  drop_map (suc n) (x ∷ xs) = drop_map n xs

  append_map : (xs ys : List X) → map g (xs ++ ys) ≡ map g xs ++ map g ys
  append_map [] ys = refl
  append_map (x ∷ xs) ys = ap (λ l. g x ∷ l) (append_map xs ys)

  reverse_map : (xs : List X) → reverse (map g xs) ≡ map g (reverse xs)
  reverse_map [] = refl
  reverse_map (x ∷ xs) =
      reverse-cons (g x) (map g xs) ∙ ap (λ l. l ++ g x ∷ []) (reverse_map xs) ∙ sym (append_map (reverse xs) (x ∷ [])) ∙ ap (map g) (sym (reverse-cons x xs))

  between_map : (o n : ℕ) (s : List X) → reverse (records_between o n (map g s)) ≡ map g (reverse (records_between o n s))
  between_map o n s = ap (λ l. reverse (drop o l)) (take_map n s) ∙ ap reverse (drop_map o (take n s)) ∙ reverse_map (drop o (take n s))

  added_map : (shards : List (List X)) (old new : List ℕ) → entry_records (map (map g) shards) old new ≡ map g (entry_records shards old new)
  added_map [] old new = refl
  added_map (s ∷ ss) old new =
      ap (λ l. l ++ reverse (records_between (first_count old) (first_count new) (map g s))) (added_map ss (other_counts old) (other_counts new))
      ∙ ap (λ l. map g (entry_records ss (other_counts old) (other_counts new)) ++ l) (between_map (first_count old) (first_count new) s)
      ∙ sym (append_map (entry_records ss (other_counts old) (other_counts new)) (reverse (records_between (first_count old) (first_count new) s)))

  pub order_map : (shards : List (List X)) (vectors : List (List ℕ)) → order (map (map g) shards) vectors ≡ map g (order shards vectors)
  order_map shards [] = refl
  order_map shards (v ∷ vs) =
      ap (λ l. l ++ order (map (map g) shards) vs) (added_map shards (last_vector vs) v)
      ∙ ap (λ l. map g (entry_records shards (last_vector vs) v) ++ l) (order_map shards vs)
      ∙ sym (append_map (entry_records shards (last_vector vs) v) (order shards vs))

  pub length-map : (xs : List X) → length (map g xs) ≡ length xs
  length-map [] = refl
  length-map (x ∷ xs) = ap suc (length-map xs)

  module _ (keep : Y → Bool) where
    how_many_map : (xs : List X) → count_selected keep (map g xs) ≡ count_selected (λ x. keep (g x)) xs
    how_many_map [] = refl
    how_many_map (x ∷ xs) = ap (λ n. cond (keep (g x)) (suc n) n) (how_many_map xs)

    vector_map : (shards : List (List X)) (v : List ℕ) → own_vector keep (map (map g) shards) v ≡ own_vector (λ x. keep (g x)) shards v
    vector_map [] v = refl
    vector_map (s ∷ ss) v =
        ap (λ l. count_selected keep l ∷ own_vector keep (map (map g) ss) (other_counts v)) (take_map (first_count v) s)
        ∙ ap (λ n. n ∷ own_vector keep (map (map g) ss) (other_counts v)) (how_many_map (take (first_count v) s))
        ∙ ap (λ l. count_selected (λ x. keep (g x)) (take (first_count v) s) ∷ l) (vector_map ss (other_counts v))

    pub vectors_map : (shards : List (List X)) (vectors : List (List ℕ)) → own_vectors keep (map (map g) shards) vectors ≡ own_vectors (λ x. keep (g x)) shards vectors
    vectors_map shards [] = refl
    vectors_map shards (v ∷ vs) =
        ap (λ l. cond (same_counts (own_vector keep (map (map g) shards) v) (last_vector l)) l (own_vector keep (map (map g) shards) v ∷ l)) (vectors_map shards vs)
        ∙ ap (λ u. cond (same_counts u (last_vector (own_vectors (λ x. keep (g x)) shards vs))) (own_vectors (λ x. keep (g x)) shards vs) (u ∷ own_vectors (λ x. keep (g x)) shards vs)) (vector_map shards v)

    pub seqnums_map : (xs : List X) → seqnums keep (map g xs) ≡ seqnums (λ x. keep (g x)) xs
    seqnums_map [] = refl
    seqnums_map (x ∷ xs) =
        ap (λ l. cond (keep (g x)) (suc (length (map g xs)) ∷ l) l) (seqnums_map xs)
        ∙ ap (λ n. cond (keep (g x)) (suc n ∷ seqnums (λ y. keep (g y)) xs) (seqnums (λ y. keep (g y)) xs)) (length-map xs)

-- What an engine sees.

module _ {A B : Type 0} (g : A → B) where
  abbrev pub all_holding : List (Live A) → List (Live B)
  all_holding xs = map (live_holding g) xs

  count_holding : (tag : ℕ) (xs : List (Live A)) → count tag (all_holding xs) ≡ count tag xs
  count_holding tag [] = refl
  count_holding tag (x ∷ xs) = ap (λ n. cond (has_tag tag x.tags) (suc n) n) (count_holding tag xs)

  meets_holding : (o : Option Cond) (xs : List (Live A)) → meets_condition o (all_holding xs) ≡ meets_condition o xs
  meets_holding None xs = refl
  meets_holding (Some c) xs = ap (eqb c.place) (count_holding c.tag.0 xs)

  live_all : (entries : List (LogRecord A)) → live (map (holding g) entries) ≡ all_holding (live entries)
  live_all [] = refl
  live_all (r ∷ entries) =
      ap (λ xs. cond (meets_condition r.condition xs) (record { seq = suc (length (map (holding g) entries)); tags = r.tags; holds = g r.holds } ∷ xs) xs) (live_all entries)
      ∙ ap (λ t. cond t (record { seq = suc (length (map (holding g) entries)); tags = r.tags; holds = g r.holds } ∷ all_holding (live entries)) (all_holding (live entries))) (meets_holding r.condition (live entries))
      ∙ at (meets_condition r.condition (live entries))
    where
      at : (t : Bool) → cond t (record { seq = suc (length (map (holding g) entries)); tags = r.tags; holds = g r.holds } ∷ all_holding (live entries)) (all_holding (live entries))
          ≡ all_holding (cond t (record { seq = suc (length entries); tags = r.tags; holds = r.holds } ∷ live entries) (live entries))
      at true = ap (λ n. (let y : Live B = record { seq = suc n; tags = r.tags; holds = g r.holds } in y) ∷ all_holding (live entries)) (length-map (holding g) entries)
      at false = refl

  upto_all : (p : ℕ) (xs : List (Live A)) → upto p (all_holding xs) ≡ all_holding (upto p xs)
  upto_all p [] = refl
  upto_all p (x ∷ xs) = at (leb x.seq p) (upto_all p xs)
    where
      at : (t : Bool) → upto p (all_holding xs) ≡ all_holding (upto p xs) → cond t (live_holding g x ∷ all_holding xs) (upto p (all_holding xs)) ≡ all_holding (cond t (x ∷ xs) (upto p xs))
      at true ih = refl
      at false ih = ih

  next_all : (tag a : ℕ) (xs : List (Live A)) → next tag a (all_holding xs) ≡ next tag a xs
  next_all tag a [] = refl
  next_all tag a (x ∷ xs) = ap (λ o. option_or o (cond (has_tag tag x.tags && leb a x.seq) (Some x.seq) None)) (next_all tag a xs)

  prev_all : (tag a : ℕ) (xs : List (Live A)) → prev tag a (all_holding xs) ≡ prev tag a xs
  prev_all tag a [] = refl
  prev_all tag a (x ∷ xs) = ap (cond (has_tag tag x.tags && leb x.seq a) (Some x.seq)) (prev_all tag a xs)

  is_live_all : (s : ℕ) (xs : List (Live A)) → is_live s (all_holding xs) ≡ is_live s xs
  is_live_all s [] = refl
  is_live_all s (x ∷ xs) = ap (λ t. eqb s x.seq || t) (is_live_all s xs)

  owned_all : (entries : List (LogRecord A)) → AllByRecursion IsOwned entries → AllByRecursion IsOwned (map (holding g) entries)
  owned_all [] all = tt
  owned_all (r ∷ entries) all = (record { tags = all.0.tags; condition = all.0.condition }, owned_all entries all.1)

-- nothing is hidden in what an engine sees
pub none_hidden : {A : Type 0} (trim : A → Option (ℕ × ℕ)) (tag p : ℕ) (entries : List (LogRecord A)) → AllByRecursion IsOwned entries → hidden_bound trim tag (upto p (live entries)) ≡ 0
none_hidden trim tag p entries all =
    hidden_physical 0 (λ s. s) trim tag (upto p (live entries))
    (each_upto 0 (λ x. AreOwned x.tags) p (live entries) (each_live 0 AreOwned entries (each_weaker IsOwned (λ r. AreOwned r.tags) (λ r is. is.tags) entries all)))

module _ {A B : Type 0} (g : A → B) where
  contents_apart : (entries : List (LogRecord A)) (p : ℕ) → ContentsApart g entries p
  contents_apart entries p = record {
    seen = sees;
    numbers = λ b. seqnums_map (holding g) (is_of b) entries;
    owned = owned_all g entries;
    next = λ trim other tag a all.
        ap (λ n. next tag (max a (suc n)) (upto p (live (map (holding g) entries)))) (none_hidden other tag p (map (holding g) entries) (owned_all g entries all))
        ∙ ap (next tag (max a 1)) sees ∙ next_all g tag (max a 1) (upto p (live entries))
        ∙ ap (λ n. next tag (max a (suc n)) (upto p (live entries))) (sym (none_hidden trim tag p entries all));
    prev = λ trim other tag a all.
        ap (λ n. unless_hidden n (prev tag a (upto p (live (map (holding g) entries))))) (none_hidden other tag p (map (holding g) entries) (owned_all g entries all))
        ∙ ap (λ xs. unless_hidden 0 (prev tag a xs)) sees ∙ ap (unless_hidden 0) (prev_all g tag a (upto p (live entries)))
        ∙ ap (λ n. unless_hidden n (prev tag a (upto p (live entries)))) (sym (none_hidden trim tag p entries all));
    lives = λ s. ap (is_live s) sees ∙ is_live_all g s (upto p (live entries));
  }
    where
      sees : upto p (live (map (holding g) entries)) ≡ all_holding g (upto p (live entries))
      sees = ap (upto p) (live_all g entries) ∙ upto_all g p (live entries)

pub contents_of_books : {A B : Type 0} (g : A → B) → ContentsPlayNoPart g
contents_of_books g = record { orders = λ shards vectors. order_map (holding g) shards vectors; logs = λ entries p. contents_apart g entries p }
