-- The lists of a book's numbers: how they grow, and how a number is found in them.
use Rattle.std.proofs.Common.{◌≡◌, ℕ, zero, suc, ◌+◌, ◌<◌, ◌≤◌, Bool, true, false, cond, eqb, leb, List, [], ◌∷◌, ◌++◌, length, take, drop, reverse, Option, Some, None, option_map, slice_get, refl, sym, ap, ◌∙◌, arith}
use Rattle.std.specs.List.{AllByRecursion}
use Rattle.std.specs.Prelude.{option_and_then}
use Rattle.std.proofs.lemmas.Bool.{eq-eqb, ne_eqb, le-leb, lt-leb}
use Rattle.std.proofs.lemmas.Bool.Decides.{nat_tests}
use Rattle.std.proofs.lemmas.List.{length-reverse}
use mathlib.Core.List.{reverse-cons}
use Rattle.boki_model.specs.Order.{at_seq}
use Rattle.boki_model.proofs.Logs.{slice_get_push}
use Rattle.books_alone.specs.Books.{selected, count_selected, seqnums, count_upto, locals}
use Rattle.books_alone.specs.Laws.{AreFalling, ListsOfBook, BookSees, IsMux}
use Rattle.books_alone.specs.Mux.{Mux}
use Rattle.books_alone.proofs.Picked.{length-picked, append_none}
use Rattle.books_alone.proofs.BookNumbers.{length-seqnums, numbered, rises_within}
use Rattle.books_alone.proofs.BookMachine.{log_own, position_own, view_is}

-- Lists of numbers, the least last.

at_place : (qs : List ℕ) (i : ℕ) → at_seq (suc i) qs ≡ slice_get (reverse qs) i
at_place [] i = refl
at_place (q ∷ qs) i =
    ap (λ t. cond t (Some q) (at_seq (suc i) qs)) (sames i (length qs))
    ∙ ap (cond (eqb i (length qs)) (Some q)) (at_place qs i)
    ∙ ap (λ n. cond (eqb i n) (Some q) (slice_get (reverse qs) i)) (sym (length-reverse qs))
    ∙ sym (slice_get_push (reverse qs) q i)
    ∙ ap (λ l. slice_get l i) (sym (reverse-cons q qs))
  where
    sames : (i n : ℕ) → eqb (suc i) (suc n) ≡ eqb i n
    sames i n = grind (arith, nat_tests)

count_push : (s q : ℕ) (qs : List ℕ) → count_upto s (qs ++ q ∷ []) ≡ cond (leb q s) (suc (count_upto s qs)) (count_upto s qs)
count_push s q [] = refl
count_push s q (p ∷ ps) = ap (λ n. cond (leb p s) (suc n) n) (count_push s q ps) ∙ at (leb p s) (leb q s)
  where
    at : (t u : Bool) → cond t (suc (cond u (suc (count_upto s ps)) (count_upto s ps))) (cond u (suc (count_upto s ps)) (count_upto s ps))
        ≡ cond u (suc (cond t (suc (count_upto s ps)) (count_upto s ps))) (cond t (suc (count_upto s ps)) (count_upto s ps))
    at true true = refl
    at true false = refl
    at false true = refl
    at false false = refl

split : (s p : ℕ) (ns : List ℕ) → p ≤ length ns → AllByRecursion (λ q. q ≤ s) (take p ns) → AllByRecursion (λ q. s < q) (drop p ns) → count_upto s (reverse ns) ≡ p
split s zero [] le low high = refl
split s (suc p) [] le low high = absurd (let h : ⊥ = omega arith in h)
split s zero (n ∷ ns) le low high =
    ap (count_upto s) (reverse-cons n ns) ∙ count_push s n (reverse ns)
    ∙ ap (λ t. cond t (suc (count_upto s (reverse ns))) (count_upto s (reverse ns))) (lt-leb n s high.0)
    ∙ split s zero ns (omega arith) tt high.1
split s (suc p) (n ∷ ns) le low high =
    ap (count_upto s) (reverse-cons n ns) ∙ count_push s n (reverse ns)
    ∙ ap (λ t. cond t (suc (count_upto s (reverse ns))) (count_upto s (reverse ns))) (le-leb n s low.0)
    ∙ ap suc (split s p ns (omega arith) low.1 high)

reverse_twice : (ns : List ℕ) → reverse (reverse ns) ≡ ns
reverse_twice [] = refl
reverse_twice (n ∷ ns) = ap reverse (reverse-cons n ns) ∙ pushed (reverse ns) n ∙ ap (λ l. n ∷ l) (reverse_twice ns)
  where
    pushed : (ns : List ℕ) (n : ℕ) → reverse (ns ++ n ∷ []) ≡ n ∷ reverse ns
    pushed [] n = refl
    pushed (m ∷ ns) n = reverse-cons m (ns ++ n ∷ []) ∙ ap (λ l. l ++ m ∷ []) (pushed ns n) ∙ ap (λ l. n ∷ l) (sym (reverse-cons m ns))

falling_more : (n m : ℕ) (qs : List ℕ) → n ≤ m → AreFalling n qs → AreFalling m qs
falling_more n m [] le fall = tt
falling_more n m (q ∷ qs) le fall = (fall.0, let lt = fall.1 in omega (arith, lt), fall.2)

module _ {X : Type 0} (keep : X → Bool) where
  falls : (log : List X) → AreFalling (suc (length log)) (seqnums keep log)
  falls [] = tt
  falls (r ∷ log) = at (keep r) (falls log)
    where
      at : (t : Bool) → AreFalling (suc (length log)) (seqnums keep log) → AreFalling (suc (suc (length log))) (cond t (suc (length log) ∷ seqnums keep log) (seqnums keep log))
      at true ih = (omega arith, omega arith, ih)
      at false ih = falling_more (suc (length log)) (suc (suc (length log))) (seqnums keep log) (omega arith) ih

  length-locals : (k : ℕ) (shard : List X) → length (locals keep k shard) ≡ count_selected keep shard
  length-locals k [] = refl
  length-locals k (r ∷ rs) = at (keep r) (length-locals (suc k) rs)
    where
      at : (t : Bool) → length (locals keep (suc k) rs) ≡ count_selected keep rs → length (cond t (suc k ∷ locals keep (suc k) rs) (locals keep (suc k) rs)) ≡ cond t (suc (count_selected keep rs)) (count_selected keep rs)
      at true ih = ap suc ih
      at false ih = ih

  locals_push : (k : ℕ) (r : X) (shard : List X) → locals keep k (shard ++ r ∷ []) ≡ locals keep k shard ++ cond (keep r) (suc (k + length shard) ∷ []) []
  locals_push k r [] = ap (λ n. cond (keep r) (suc n ∷ []) []) (let e : k ≡ k + 0 = omega arith in e)
  locals_push k r (x ∷ xs) = at (keep x) (locals_push (suc k) r xs ∙ ap (λ n. locals keep (suc k) xs ++ cond (keep r) (suc n ∷ []) []) (let e : suc k + length xs ≡ k + suc (length xs) = omega arith in e))
    where
      at : (t : Bool) → locals keep (suc k) (xs ++ r ∷ []) ≡ locals keep (suc k) xs ++ cond (keep r) (suc (k + suc (length xs)) ∷ []) []
          → cond t (suc k ∷ locals keep (suc k) (xs ++ r ∷ [])) (locals keep (suc k) (xs ++ r ∷ []))
          ≡ cond t (suc k ∷ locals keep (suc k) xs) (locals keep (suc k) xs) ++ cond (keep r) (suc (k + suc (length xs)) ∷ []) []
      at true ih = ap (λ l. suc k ∷ l) ih
      at false ih = ih

  seqnums_push : (r : X) (log : List X) → reverse (seqnums keep (r ∷ log)) ≡ reverse (seqnums keep log) ++ cond (keep r) (suc (length log) ∷ []) []
  seqnums_push r log = at (keep r)
    where
      at : (t : Bool) → reverse (cond t (suc (length log) ∷ seqnums keep log) (seqnums keep log)) ≡ reverse (seqnums keep log) ++ cond t (suc (length log) ∷ []) []
      at true = reverse-cons (suc (length log)) (seqnums keep log)
      at false = sym (append_none (reverse (seqnums keep log)))

  pub numbers_of : (log shard : List X) → ListsOfBook keep log shard
  numbers_of log shard = record {
    grow = λ r. record {
      seqs = seqnums_push r log;
      places = locals_push 0 r shard ∙ ap (λ n. locals keep 0 shard ++ cond (keep r) (suc n ∷ []) []) (let e : 0 + length shard ≡ length shard = omega arith in e);
    };
    found = record {
      falling = falls log;
      size = length-seqnums keep log;
      locals_size = length-locals 0 shard;
      at = at_place (seqnums keep log);
      splits = λ s p le low high.
          ap (count_upto s) (sym (reverse_twice (seqnums keep log))) ∙ split s p (reverse (seqnums keep log)) (let e = length-reverse (seqnums keep log) in omega (arith, e, le)) low high;
    };
  }

  -- What stands at a number of the book.
  pub record_at : {Y : Type 0} (look : X → Y) (n : ℕ) (log : List X) → at_seq n (selected keep look log) ≡ option_map look (option_and_then (λ s. at_seq s log) (at_seq n (seqnums keep log)))
  record_at look n [] = refl
  record_at look n (r ∷ log) = at (keep r) (record_at look n log)
    where
      -- what stood there before
      stays : (o : Option ℕ) → at_seq n (seqnums keep log) ≡ o → option_and_then (λ s. at_seq s log) o ≡ option_and_then (λ s. at_seq s (r ∷ log)) o
      stays None e = refl
      stays (Some s) e = let le = rises_within keep log s (numbered keep log n s e).rises in rw (ne_eqb s (suc (length log)) (λ f. omega (arith, f, le)))

      here : (u : Bool) → option_map look (option_and_then (λ s. at_seq s log) (at_seq n (seqnums keep log))) ≡ option_map look (option_and_then (λ s. at_seq s (r ∷ log)) (at_seq n (seqnums keep log)))
          → cond u (Some (look r)) (option_map look (option_and_then (λ s. at_seq s log) (at_seq n (seqnums keep log))))
          ≡ option_map look (option_and_then (λ s. at_seq s (r ∷ log)) (cond u (Some (suc (length log))) (at_seq n (seqnums keep log))))
      here true same = rw (eq-eqb (suc (length log)) (suc (length log)) refl)
      here false same = same

      same : option_map look (option_and_then (λ s. at_seq s log) (at_seq n (seqnums keep log))) ≡ option_map look (option_and_then (λ s. at_seq s (r ∷ log)) (at_seq n (seqnums keep log)))
      same = ap (option_map look) (stays (at_seq n (seqnums keep log)) refl)

      at : (t : Bool) → at_seq n (selected keep look log) ≡ option_map look (option_and_then (λ s. at_seq s log) (at_seq n (seqnums keep log)))
          → at_seq n (cond t (look r ∷ selected keep look log) (selected keep look log))
          ≡ option_map look (option_and_then (λ s. at_seq s (r ∷ log)) (at_seq n (cond t (suc (length log) ∷ seqnums keep log) (seqnums keep log))))
      at true ih =
          ap (cond (eqb n (suc (length (selected keep look log)))) (Some (look r))) ih
          ∙ ap (λ k. cond (eqb n (suc k)) (Some (look r)) (option_map look (option_and_then (λ s. at_seq s log) (at_seq n (seqnums keep log))))) (length-picked keep look log ∙ sym (length-seqnums keep log))
          ∙ here (eqb n (suc (length (seqnums keep log)))) same
      at false ih = ih ∙ same

pub book_sees : (shards books : ℕ) (m : Mux) (b : ℕ) → IsMux shards books m → BookSees b m
book_sees shards books m b is = record { log_is = log_own shards books m is b; position_is = position_own shards books m is b; view_is = view_is shards books m is b }
