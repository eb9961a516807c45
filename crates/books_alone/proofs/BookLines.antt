-- What a book's reads answer, of what an engine sees.
use Rattle.std.proofs.Common.{◌≡◌, ℕ, ◌+◌, ◌*◌, ◌^◌, ◌<◌, ◌≤◌, Bool, true, false, cond, leb, List, [], ◌∷◌, Option, Some, None, option_map, refl, ap, ◌∙◌}
use Rattle.std.specs.List.{AllByRecursion}
use Rattle.boki_types.specs.declared.body.Body.{Body}
use Rattle.boki_types.specs.declared.line.Line.TheVariants as l
use Rattle.boki_model.specs.Live.{LogRecord, Live, live, upto, is_live}
use Rattle.boki_model.specs.Reads.{read_next, read_prev}
use Rattle.boki_machine.specs.Step.{seqnum}
use Rattle.boki_machine.specs.Machine.{Machine, log, found_line, settle_line}
use Rattle.books_alone.specs.Books.{are_of, is_of, own_seq, physical_seq, own_lives, seqnums}
use Rattle.books_alone.specs.Mux.{to_book}
use Rattle.books_alone.specs.Laws.{AreOwned, IsOwned, ReadsAgree}
use Rattle.books_alone.proofs.Picked.{each_weaker}
use Rattle.books_alone.proofs.BookNumbers.{Rises, count_more, leb_rises, bound_physical}
use Rattle.books_alone.proofs.BookLives.{each_live, marked, each_upto}
use Rattle.books_alone.proofs.BookReads.{Seen, Risen, read_next_own, read_prev_own, is_live_own, text_own}

module _ {A : Type 0} (b p : ℕ) (entries : List (LogRecord A)) (all : AllByRecursion IsOwned entries) where
  each_seen : (f : ℕ → ℕ) (xs : List (Live A)) → AllByRecursion (λ x. AreOwned x.tags) xs → AllByRecursion (λ x. Rises f (are_of b x.tags) x.seq) xs → AllByRecursion (Seen b f) xs
  each_seen f [] one two = tt
  each_seen f (x ∷ xs) one two = (record { owned = one.0; rises = two.0 }, each_seen f xs one.1 two.1)

  pub sees : AllByRecursion (Seen b (own_seq b entries)) (upto p (live entries))
  sees =
      each_upto b (Seen b (own_seq b entries)) p (live entries)
      (each_seen (own_seq b entries) (live entries) (each_live b AreOwned entries (each_weaker IsOwned (λ r. AreOwned r.tags) (λ r is. is.tags) entries all)) (marked b entries))

  rising : (a c : ℕ) → a ≤ c → own_seq b entries a ≤ own_seq b entries c
  rising = count_more (seqnums (is_of b) entries)

  -- what is found is the book's
  abbrev pub seen_own : List (Live A)
  seen_own = own_lives b (own_seq b entries) (upto p (live entries))

  pub next_sees : (trim : A → Option (ℕ × ℕ)) (t a : ℕ) → t < 2 ^ 48
      → (read_next trim t a seen_own ≡ option_map (own_seq b entries) (read_next trim (b * 2 ^ 48 + t) (physical_seq b entries a) (upto p (live entries))))
      × Risen (own_seq b entries) (read_next trim (b * 2 ^ 48 + t) (physical_seq b entries a) (upto p (live entries)))
  next_sees trim t a small = read_next_own b (own_seq b entries) rising t small trim a (physical_seq b entries a) (λ s r. (bound_physical (is_of b) entries a).above s r) (upto p (live entries)) sees

  pub prev_sees : (trim : A → Option (ℕ × ℕ)) (t a : ℕ) → t < 2 ^ 48
      → (read_prev trim t a seen_own ≡ option_map (own_seq b entries) (read_prev trim (b * 2 ^ 48 + t) (physical_seq b entries a) (upto p (live entries))))
      × Risen (own_seq b entries) (read_prev trim (b * 2 ^ 48 + t) (physical_seq b entries a) (upto p (live entries)))
  prev_sees trim t a small = read_prev_own b (own_seq b entries) rising t small trim a (physical_seq b entries a) (λ s r. (bound_physical (is_of b) entries a).upto s r) (upto p (live entries)) sees

  pub tail_sees : (trim : A → Option (ℕ × ℕ)) (t : ℕ) → t < 2 ^ 48
      → (read_prev trim t (own_seq b entries p) seen_own ≡ option_map (own_seq b entries) (read_prev trim (b * 2 ^ 48 + t) p (upto p (live entries))))
      × Risen (own_seq b entries) (read_prev trim (b * 2 ^ 48 + t) p (upto p (live entries)))
  tail_sees trim t small = read_prev_own b (own_seq b entries) rising t small trim (own_seq b entries p) p (λ s r. leb_rises (own_seq b entries) rising s p r) (upto p (live entries)) sees

pub reads_agree : {A : Type 0} (trim : A → Option (ℕ × ℕ)) (b p : ℕ) (entries : List (LogRecord A)) (t a : ℕ) → AllByRecursion IsOwned entries → t < 2 ^ 48 → ReadsAgree trim b p entries (upto p (live entries)) t a
reads_agree trim b p entries t a all small = record {
  next = (next_sees b p entries all trim t a small).0;
  prev = (prev_sees b p entries all trim t a small).0;
  tail = (tail_sees b p entries all trim t small).0;
}

-- The lines.
module _ (b : ℕ) (m : Machine) (all : AllByRecursion IsOwned (log m)) where
  pub found_own : (p : ℕ) (o : Option ℕ) → Risen (own_seq b (log m)) o
      → found_line (own_lives b (own_seq b (log m)) (upto p (live (log m)))) (option_map (own_seq b (log m)) o) ≡ to_book b m (found_line (upto p (live (log m))) o)
  found_own p None r = refl
  found_own p (Some s) r =
      ap (λ text. l.Found (seqnum (own_seq b (log m) s)) text)
      (text_own b (own_seq b (log m)) (count_more (seqnums (is_of b) (log m))) s (upto p (live (log m))) r (sees b p (log m) all))

  pub settles_own : (p : ℕ) (o : Option ℕ) → Risen (own_seq b (log m)) o
      → settle_line (own_seq b (log m) p) (own_lives b (own_seq b (log m)) (upto p (live (log m)))) (option_map (own_seq b (log m)) o) ≡ to_book b m (settle_line p (upto p (live (log m))) o)
  settles_own p None r = refl
  settles_own p (Some s) r =
      ap (λ u. cond u (cond (is_live (own s) (own_lives b own seen)) (l.Placed (seqnum (own s))) (l.Taken (seqnum (own s)))) l.Waits) (leb_rises own (count_more (seqnums (is_of b) (log m))) s p r)
      ∙ ap (λ u. cond (leb s p) (cond u (l.Placed (seqnum (own s))) (l.Taken (seqnum (own s)))) l.Waits) (is_live_own b own (count_more (seqnums (is_of b) (log m))) s seen r (sees b p (log m) all))
      ∙ by (leb s p) (is_live s seen)
    where
      own : ℕ → ℕ
      own = own_seq b (log m)

      seen : List (Live Body)
      seen = upto p (live (log m))

      by : (u w : Bool) → cond u (cond w (l.Placed (seqnum (own s))) (l.Taken (seqnum (own s)))) l.Waits ≡ to_book b m (cond u (cond w (l.Placed (seqnum s)) (l.Taken (seqnum s))) l.Waits)
      by true true = refl
      by true false = refl
      by false w = refl
