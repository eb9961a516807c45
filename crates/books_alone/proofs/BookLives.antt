-- A book's live records, and what an engine sees of them.
use Rattle.std.proofs.Common.{◌≡◌, ℕ, suc, ◌/◌, ◌%◌, ◌^◌, ◌<◌, ◌≤◌, Bool, true, false, cond, eqb, leb, List, [], ◌∷◌, length, map, Option, Some, None, option_map, refl, sym, ap, ◌∙◌, subst, arith}
use Rattle.std.specs.List.{AllByRecursion}
use Rattle.std.proofs.lemmas.Bool.{eqb-true, eqb-false, leb-true}
use Rattle.lb_base.specs.declared.value.Tag.{Tag}
use Rattle.lb_base.specs.declared.value.Cond.{Cond}
use Rattle.boki_model.specs.Live.{LogRecord, Live, has_tag, count, meets_condition, append_if_live, live, upto}
use Rattle.boki_model.specs.LogLaws.{FallBelow}
use Rattle.boki_model.proofs.Logs.{live_falls, upto_all}
use Rattle.books_alone.specs.Books.{own_tag, are_of, is_of, own_condition, own_entry, own_entries, own_seq, own_live, own_lives, count_selected, seqnums, book_of}
use Rattle.books_alone.specs.Laws.{AreTagsOf, AreOwned, IsOwned, IsConditionOf}
use Rattle.books_alone.proofs.BookTags.{has_own, has_other}
use Rattle.books_alone.proofs.Picked.{length-picked, each_weaker}
use Rattle.books_alone.proofs.BookNumbers.{Rises, rises_here, rises_new, count_new, count_all, count_more, leb_rises}

module _ {A : Type 0} (b : ℕ) where
  -- what holds of each entry's tags holds of each live record's
  pub each_live : (P : List Tag → Type 0) (log : List (LogRecord A)) → AllByRecursion (λ r. P r.tags) log → AllByRecursion (λ (x : Live A). P x.tags) (live log)
  each_live P [] all = tt
  each_live P (r ∷ log) all = at (meets_condition r.condition (live log)) (each_live P log all.1)
    where
      at : (t : Bool) → AllByRecursion (λ (x : Live A). P x.tags) (live log)
          → AllByRecursion (λ (x : Live A). P x.tags) (cond t (record { seq = suc (length log); tags = r.tags; holds = r.holds } ∷ live log) (live log))
      at true ih = (all.0, ih)
      at false ih = ih

  -- A record of the book has a tag of the book where it has the physical one, and others haven't.
  abbrev pub Own : Live A → Type 0
  Own x = AreOwned x.tags

  pub has_as_own : (t : ℕ) (x : Live A) → t / 2 ^ 48 ≡ b → Own x → are_of b x.tags ≡ true → has_tag (t % 2 ^ 48) (map own_tag x.tags) ≡ has_tag t x.tags
  has_as_own t x e own mine = has_own b t x.tags e (subst (λ c. AreTagsOf c x.tags) (sym (eqb-true b (book_of x.tags) mine)) own.all)

  pub has_not : (t : ℕ) (x : Live A) → t / 2 ^ 48 ≡ b → Own x → are_of b x.tags ≡ false → has_tag t x.tags ≡ false
  has_not t x e own other = has_other b (book_of x.tags) t x.tags e (eqb-false b (book_of x.tags) other) own.all

  pub count_own : (f : ℕ → ℕ) (t : ℕ) (xs : List (Live A)) → t / 2 ^ 48 ≡ b → AllByRecursion Own xs → count (t % 2 ^ 48) (own_lives b f xs) ≡ count t xs
  count_own f t [] e all = refl
  count_own f t (x ∷ xs) e all = at (are_of b x.tags) refl (count_own f t xs e all.1)
    where
      at : (k : Bool) → are_of b x.tags ≡ k → count (t % 2 ^ 48) (own_lives b f xs) ≡ count t xs
          → count (t % 2 ^ 48) (cond k (own_live f x ∷ own_lives b f xs) (own_lives b f xs)) ≡ cond (has_tag t x.tags) (suc (count t xs)) (count t xs)
      at true k ih = rw (has_as_own t x e all.0 k) (ap (λ n. cond (has_tag t x.tags) (suc n) n) ih)
      at false k ih = rw (has_not t x e all.0 k) ih

  meets_own : (f : ℕ → ℕ) (o : Option Cond) (xs : List (Live A)) → IsConditionOf b o → AllByRecursion Own xs → meets_condition (option_map own_condition o) (own_lives b f xs) ≡ meets_condition o xs
  meets_own f None xs is all = refl
  meets_own f (Some c) xs is all = ap (eqb c.place) (count_own f c.tag.0 xs is all)

  -- the book's numbers of earlier records stay
  lives_agree : (f g : ℕ → ℕ) (n : ℕ) (xs : List (Live A)) → ((s : ℕ) → s < n → f s ≡ g s) → FallBelow n xs → own_lives b f xs ≡ own_lives b g xs
  lives_agree f g n [] same fall = refl
  lives_agree f g n (x ∷ xs) same fall = at (lives_agree f g x.seq xs (λ s lt. same s (let le = fall.1 in omega (arith, lt, le))) fall.2) (are_of b x.tags)
    where
      at : own_lives b f xs ≡ own_lives b g xs → (k : Bool) → cond k (own_live f x ∷ own_lives b f xs) (own_lives b f xs) ≡ cond k (own_live g x ∷ own_lives b g xs) (own_lives b g xs)
      at ih true = ap (λ s. (let y : Live A = record { seq = s; tags = map own_tag x.tags; holds = x.holds } in y) ∷ own_lives b f xs) (same x.seq fall.1) ∙ ap (λ l. own_live g x ∷ l) ih
      at ih false = ih

  pub live_own : (log : List (LogRecord A)) → AllByRecursion IsOwned log → live (own_entries b log) ≡ own_lives b (own_seq b log) (live log)
  live_own [] all = refl
  live_own (r ∷ log) all = at (is_of b r) refl (live_own log all.1)
    where
      past : AllByRecursion Own (live log)
      past = each_live AreOwned log (each_weaker IsOwned (λ r. AreOwned r.tags) (λ r is. is.tags) log all.1)

      stay : own_lives b (own_seq b (r ∷ log)) (live log) ≡ own_lives b (own_seq b log) (live log)
      stay = lives_agree (own_seq b (r ∷ log)) (own_seq b log) (suc (length log)) (live log) (λ s lt. count_new (is_of b) r log s (omega (arith, lt))) (live_falls log)

      here : Live A
      here = record { seq = suc (length log); tags = r.tags; holds = r.holds }

      meet : is_of b r ≡ true → meets_condition (option_map own_condition r.condition) (own_lives b (own_seq b log) (live log)) ≡ meets_condition r.condition (live log)
      meet k = meets_own (own_seq b log) r.condition (live log) (subst (λ c. IsConditionOf c r.condition) (sym (eqb-true b (book_of r.tags) k)) all.0.condition) past

      number : is_of b r ≡ true → own_seq b (r ∷ log) (suc (length log)) ≡ suc (length (own_entries b log))
      number k =
          count_all (is_of b) (r ∷ log) (suc (length log)) (omega arith)
          ∙ ap (λ t. cond t (suc (count_selected (is_of b) log)) (count_selected (is_of b) log)) k
          ∙ ap suc (sym (length-picked (is_of b) own_entry log))

      own_joined : (u : Bool) → is_of b r ≡ true
          → cond u (record { seq = suc (length (own_entries b log)); tags = map own_tag r.tags; holds = r.holds } ∷ own_lives b (own_seq b log) (live log)) (own_lives b (own_seq b log) (live log))
          ≡ own_lives b (own_seq b (r ∷ log)) (cond u (here ∷ live log) (live log))
      own_joined true k =
          ap (λ s. (let y : Live A = record { seq = s; tags = map own_tag r.tags; holds = r.holds } in y) ∷ own_lives b (own_seq b log) (live log)) (sym (number k))
          ∙ ap (λ l. own_live (own_seq b (r ∷ log)) here ∷ l) (sym stay)
          ∙ sym (ap (λ t. cond t (own_live (own_seq b (r ∷ log)) here ∷ own_lives b (own_seq b (r ∷ log)) (live log)) (own_lives b (own_seq b (r ∷ log)) (live log))) k)
      own_joined false k = sym stay

      other_joined : (u : Bool) → is_of b r ≡ false → own_lives b (own_seq b log) (live log) ≡ own_lives b (own_seq b (r ∷ log)) (cond u (here ∷ live log) (live log))
      other_joined true k = sym stay ∙ sym (ap (λ t. cond t (own_live (own_seq b (r ∷ log)) here ∷ own_lives b (own_seq b (r ∷ log)) (live log)) (own_lives b (own_seq b (r ∷ log)) (live log))) k)
      other_joined false k = sym stay

      at : (k : Bool) → is_of b r ≡ k → live (own_entries b log) ≡ own_lives b (own_seq b log) (live log)
          → live (cond k (own_entry r ∷ own_entries b log) (own_entries b log)) ≡ own_lives b (own_seq b (r ∷ log)) (live (r ∷ log))
      at true k ih =
          ap (λ xs. append_if_live (suc (length (own_entries b log))) (own_entry r) xs) ih
          ∙ ap (λ t. cond t (record { seq = suc (length (own_entries b log)); tags = map own_tag r.tags; holds = r.holds } ∷ own_lives b (own_seq b log) (live log)) (own_lives b (own_seq b log) (live log))) (meet k)
          ∙ own_joined (meets_condition r.condition (live log)) k
      at false k ih = ih ∙ other_joined (meets_condition r.condition (live log)) k

  -- Each live record is where the book's count rises, or stays.
  abbrev pub Marked : (ℕ → ℕ) → List (Live A) → Type 0
  Marked f xs = AllByRecursion (λ x. Rises f (are_of b x.tags) x.seq) xs

  marked_new : (r : LogRecord A) (log : List (LogRecord A)) (n : ℕ) (xs : List (Live A)) → n ≤ suc (length log) → FallBelow n xs → Marked (own_seq b log) xs → Marked (own_seq b (r ∷ log)) xs
  marked_new r log n [] le fall all = tt
  marked_new r log n (x ∷ xs) le fall all =
      let lt = fall.1 in
      (rises_new (is_of b) r log (are_of b x.tags) x.seq (omega (arith, lt)) all.0, marked_new r log x.seq xs (omega (arith, lt)) fall.2 all.1)

  pub marked : (log : List (LogRecord A)) → Marked (own_seq b log) (live log)
  marked [] = tt
  marked (r ∷ log) = at (meets_condition r.condition (live log)) (marked_new r log (suc (length log)) (live log) (omega arith) (live_falls log) (marked log))
    where
      at : (u : Bool) → Marked (own_seq b (r ∷ log)) (live log) → Marked (own_seq b (r ∷ log)) (cond u (record { seq = suc (length log); tags = r.tags; holds = r.holds } ∷ live log) (live log))
      at true ih = (rises_here (is_of b) r log, ih)
      at false ih = ih

  pub each_upto : (P : Live A → Type 0) (p : ℕ) (xs : List (Live A)) → AllByRecursion P xs → AllByRecursion P (upto p xs)
  each_upto P p [] all = tt
  each_upto P p (x ∷ xs) all = at (leb x.seq p) (each_upto P p xs all.1)
    where
      at : (u : Bool) → AllByRecursion P (upto p xs) → AllByRecursion P (cond u (x ∷ xs) (upto p xs))
      at true ih = all
      at false ih = ih

  -- What an engine sees of the book.
  upto_own : (f : ℕ → ℕ) → ((a c : ℕ) → a ≤ c → f a ≤ f c) → (n p : ℕ) (xs : List (Live A)) → FallBelow n xs → Marked f xs → upto (f p) (own_lives b f xs) ≡ own_lives b f (upto p xs)
  upto_own f rising n p [] fall all = refl
  upto_own f rising n p (x ∷ xs) fall all = at (are_of b x.tags) refl (leb x.seq p) refl (upto_own f rising x.seq p xs fall.2 all.1)
    where
      at : (k : Bool) → are_of b x.tags ≡ k → (u : Bool) → leb x.seq p ≡ u → upto (f p) (own_lives b f xs) ≡ own_lives b f (upto p xs)
          → upto (f p) (cond k (own_live f x ∷ own_lives b f xs) (own_lives b f xs)) ≡ own_lives b f (cond u (x ∷ xs) (upto p xs))
      at true k true u ih =
          ap (λ t. cond t (own_live f x ∷ own_lives b f xs) (upto (f p) (own_lives b f xs))) (leb_rises f rising x.seq p (subst (λ t. Rises f t x.seq) k all.0) ∙ u)
          ∙ sym (ap (λ t. cond t (own_live f x ∷ own_lives b f xs) (own_lives b f xs)) k)
      at true k false u ih =
          ap (λ t. cond t (own_live f x ∷ own_lives b f xs) (upto (f p) (own_lives b f xs))) (leb_rises f rising x.seq p (subst (λ t. Rises f t x.seq) k all.0) ∙ u)
          ∙ ih
      at false k true u ih =
          ih
          ∙ ap (own_lives b f) (upto_all x.seq p xs fall.2 (let le = leb-true x.seq p u in omega (arith, le)))
          ∙ sym (ap (λ t. cond t (own_live f x ∷ own_lives b f xs) (own_lives b f xs)) k)
      at false k false u ih = ih

  pub view_own : (p : ℕ) (log : List (LogRecord A)) → AllByRecursion IsOwned log → upto (own_seq b log p) (live (own_entries b log)) ≡ own_lives b (own_seq b log) (upto p (live log))
  view_own p log all =
      ap (upto (own_seq b log p)) (live_own log all)
      ∙ upto_own (own_seq b log) (count_more (seqnums (is_of b) log)) (suc (length log)) p (live log) (live_falls log) (marked log)
