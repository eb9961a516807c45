-- Reads of a book: by its own tags and numbers over its own records, and by the physical ones over all.
use Rattle.std.proofs.Common.{◌≡◌, ℕ, suc, ◌+◌, ◌*◌, ◌^◌, ◌<◌, ◌≤◌, Bool, true, false, cond, eqb, leb, ◌&&◌, ◌||◌, min, max, List, [], ◌∷◌, map, Option, Some, None, option_map, refl, sym, ap, ◌∙◌, subst, arith}
use Rattle.std.specs.List.{AllByRecursion}
use Rattle.std.proofs.lemmas.Bool.{le-leb, lt-leb, leb-true, leb-false, lt-ltb}
use Rattle.lb_base.specs.declared.value.Tag.{Tag}
use Rattle.boki_types.specs.declared.body.Body.{Body}
use Rattle.boki_model.specs.Live.{Live, has_tag, is_live}
use Rattle.std.specs.Option.{option_or}
use Rattle.boki_model.specs.Reads.{next, prev, trim_bound, hidden_bound, read_next, read_prev, unless_hidden}
use Rattle.boki_model.specs.Bodies.{tag_number}
use Rattle.boki_machine.specs.Machine.{user_text_at, user_text}
use Rattle.books_alone.specs.Books.{own_tag, are_of, own_live, own_lives}
use Rattle.books_alone.specs.Laws.{AreOwned}
use Rattle.books_alone.proofs.BookTags.{book_of_tag, own_of_tag, has_no_class, tags_below, own_below}
use Rattle.books_alone.proofs.BookNumbers.{Rises, eqb_rises, eqb_stays}
use Rattle.books_alone.proofs.Picked.{each_weaker}
use Rattle.books_alone.proofs.BookLives.{has_as_own, has_not}

-- Nothing is hidden, where all tags are users'.

module _ {A : Type 0} (trim : A → Option (ℕ × ℕ)) (tag : ℕ) where
  hides_none : (seq : ℕ) (tags : List Tag) (o : Option (ℕ × ℕ)) → has_tag (tag_number 8 tag) tags ≡ false → trim_bound tag seq tags o ≡ 0
  hides_none seq tags None e = refl
  hides_none seq tags (Some t) e = rw e (at (eqb tag t.0))
    where
      at : (u : Bool) → cond (u && false) (min t.1 seq) 0 ≡ 0
      at true = refl
      at false = refl

  nothing_hidden : (xs : List (Live A)) → AllByRecursion (λ x. AllByRecursion (λ t. t.0 < 2 ^ 56) x.tags) xs → hidden_bound trim tag xs ≡ 0
  nothing_hidden [] all = refl
  nothing_hidden (x ∷ xs) all =
      ap (λ n. max n (hidden_bound trim tag xs)) (hides_none x.seq x.tags (trim x.holds) (has_no_class tag x.tags all.0))
      ∙ ap (max 0) (nothing_hidden xs all.1)

module _ {A : Type 0} (b : ℕ) (f : ℕ → ℕ) where
  -- the book's records are users', before and behind
  below_physical : (xs : List (Live A)) → AllByRecursion (λ x. AreOwned x.tags) xs → AllByRecursion (λ x. AllByRecursion (λ t. t.0 < 2 ^ 56) x.tags) xs
  below_physical [] all = tt
  below_physical (x ∷ xs) all = (tags_below _ x.tags all.0.book all.0.all, below_physical xs all.1)

  below_own : (xs : List (Live A)) → AllByRecursion (λ x. AllByRecursion (λ t. t.0 < 2 ^ 56) x.tags) (own_lives b f xs)
  below_own [] = tt
  below_own (x ∷ xs) = at (are_of b x.tags) (below_own xs)
    where
      at : (k : Bool) → AllByRecursion (λ (y : Live A). AllByRecursion (λ t. t.0 < 2 ^ 56) y.tags) (own_lives b f xs)
          → AllByRecursion (λ (y : Live A). AllByRecursion (λ t. t.0 < 2 ^ 56) y.tags) (cond k (own_live f x ∷ own_lives b f xs) (own_lives b f xs))
      at true ih = (own_below x.tags, ih)
      at false ih = ih

  pub hidden_physical : (trim : A → Option (ℕ × ℕ)) (tag : ℕ) (xs : List (Live A)) → AllByRecursion (λ x. AreOwned x.tags) xs → hidden_bound trim tag xs ≡ 0
  hidden_physical trim tag xs all = nothing_hidden trim tag xs (below_physical xs all)

  pub hidden_own : (trim : A → Option (ℕ × ℕ)) (tag : ℕ) (xs : List (Live A)) → hidden_bound trim tag (own_lives b f xs) ≡ 0
  hidden_own trim tag xs = nothing_hidden trim tag (own_lives b f xs) (below_own xs)

or_else_none : (o : Option ℕ) → option_or o None ≡ o
or_else_none None = refl
or_else_none (Some s) = refl

-- A seqnum that a read finds is the book's.
abbrev pub Risen : (ℕ → ℕ) → Option ℕ → Type 0
Risen f None = Unit {0}
Risen f (Some s) = Rises f true s

-- What is so of each live record that an engine sees: it is of one book, and the book's count rises there or stays.
pub record Seen {A : Type 0} (b : ℕ) (f : ℕ → ℕ) (x : Live A) : Type 0 where
  pub owned : AreOwned x.tags
  pub rises : Rises f (are_of b x.tags) x.seq

module _ {A : Type 0} (b : ℕ) (f : ℕ → ℕ) (rising : (a c : ℕ) → a ≤ c → f a ≤ f c) where
  abbrev pub AllSeen : List (Live A) → Type 0
  AllSeen xs = AllByRecursion (Seen b f) xs

  -- By a tag of the book.
  module _ (t : ℕ) (small : t < 2 ^ 48) where
    has : (x : Live A) → AreOwned x.tags → are_of b x.tags ≡ true → has_tag t (map own_tag x.tags) ≡ has_tag (b * 2 ^ 48 + t) x.tags
    has x is k = ap (λ n. has_tag n (map own_tag x.tags)) (sym (own_of_tag b t small)) ∙ has_as_own b (b * 2 ^ 48 + t) x (book_of_tag b t small) is k

    hasnt : (x : Live A) → AreOwned x.tags → are_of b x.tags ≡ false → has_tag (b * 2 ^ 48 + t) x.tags ≡ false
    hasnt x is k = has_not b (b * 2 ^ 48 + t) x (book_of_tag b t small) is k

    -- the bounds a of the book and c of the log have the book's records on the same side
    pub next_own : (a c : ℕ) → ((s : ℕ) → Rises f true s → leb a (f s) ≡ leb c s) → (xs : List (Live A)) → AllSeen xs
        → next t a (own_lives b f xs) ≡ option_map f (next (b * 2 ^ 48 + t) c xs)
    next_own a c same [] all = refl
    next_own a c same (x ∷ xs) all = at (are_of b x.tags) refl (next_own a c same xs all.1)
      where
        mine : (o : Option ℕ) (u : Bool) → option_or (option_map f o) (cond u (Some (f x.seq)) None) ≡ option_map f (option_or o (cond u (Some x.seq) None))
        mine None true = refl
        mine None false = refl
        mine (Some s) u = refl

        at : (k : Bool) → are_of b x.tags ≡ k → next t a (own_lives b f xs) ≡ option_map f (next (b * 2 ^ 48 + t) c xs)
            → next t a (cond k (own_live f x ∷ own_lives b f xs) (own_lives b f xs))
            ≡ option_map f (option_or (next (b * 2 ^ 48 + t) c xs) (cond (has_tag (b * 2 ^ 48 + t) x.tags && leb c x.seq) (Some x.seq) None))
        at true k ih =
            ap (λ o. option_or o (cond (has_tag t (map own_tag x.tags) && leb a (f x.seq)) (Some (f x.seq)) None)) ih
            ∙ ap (λ u. option_or (option_map f (next (b * 2 ^ 48 + t) c xs)) (cond (u && leb a (f x.seq)) (Some (f x.seq)) None)) (has x all.0.owned k)
            ∙ ap (λ u. option_or (option_map f (next (b * 2 ^ 48 + t) c xs)) (cond (has_tag (b * 2 ^ 48 + t) x.tags && u) (Some (f x.seq)) None)) (same x.seq (subst (λ u. Rises f u x.seq) k all.0.rises))
            ∙ mine (next (b * 2 ^ 48 + t) c xs) (has_tag (b * 2 ^ 48 + t) x.tags && leb c x.seq)
        at false k ih =
            ih
            ∙ ap (option_map f) (sym (or_else_none (next (b * 2 ^ 48 + t) c xs)))
            ∙ ap (λ u. option_map f (option_or (next (b * 2 ^ 48 + t) c xs) (cond (u && leb c x.seq) (Some x.seq) None))) (sym (hasnt x all.0.owned k))

    pub prev_own : (a c : ℕ) → ((s : ℕ) → Rises f true s → leb (f s) a ≡ leb s c) → (xs : List (Live A)) → AllSeen xs
        → prev t a (own_lives b f xs) ≡ option_map f (prev (b * 2 ^ 48 + t) c xs)
    prev_own a c same [] all = refl
    prev_own a c same (x ∷ xs) all = at (are_of b x.tags) refl (prev_own a c same xs all.1)
      where
        mine : (u : Bool) → cond u (Some (f x.seq)) (option_map f (prev (b * 2 ^ 48 + t) c xs)) ≡ option_map f (cond u (Some x.seq) (prev (b * 2 ^ 48 + t) c xs))
        mine true = refl
        mine false = refl

        at : (k : Bool) → are_of b x.tags ≡ k → prev t a (own_lives b f xs) ≡ option_map f (prev (b * 2 ^ 48 + t) c xs)
            → prev t a (cond k (own_live f x ∷ own_lives b f xs) (own_lives b f xs))
            ≡ option_map f (cond (has_tag (b * 2 ^ 48 + t) x.tags && leb x.seq c) (Some x.seq) (prev (b * 2 ^ 48 + t) c xs))
        at true k ih =
            ap (cond (has_tag t (map own_tag x.tags) && leb (f x.seq) a) (Some (f x.seq))) ih
            ∙ ap (λ u. cond (u && leb (f x.seq) a) (Some (f x.seq)) (option_map f (prev (b * 2 ^ 48 + t) c xs))) (has x all.0.owned k)
            ∙ ap (λ u. cond (has_tag (b * 2 ^ 48 + t) x.tags && u) (Some (f x.seq)) (option_map f (prev (b * 2 ^ 48 + t) c xs))) (same x.seq (subst (λ u. Rises f u x.seq) k all.0.rises))
            ∙ mine (has_tag (b * 2 ^ 48 + t) x.tags && leb x.seq c)
        at false k ih =
            ih ∙ ap (λ u. option_map f (cond (u && leb x.seq c) (Some x.seq) (prev (b * 2 ^ 48 + t) c xs))) (sym (hasnt x all.0.owned k))

    pub next_risen : (c : ℕ) (xs : List (Live A)) → AllSeen xs → Risen f (next (b * 2 ^ 48 + t) c xs)
    next_risen c [] all = tt
    next_risen c (x ∷ xs) all = at (next (b * 2 ^ 48 + t) c xs) (are_of b x.tags) refl (leb c x.seq) (next_risen c xs all.1)
      where
        at : (o : Option ℕ) (k : Bool) → are_of b x.tags ≡ k → (u : Bool) → Risen f o → Risen f (option_or o (cond (has_tag (b * 2 ^ 48 + t) x.tags && u) (Some x.seq) None))
        at (Some s) k e u ih = ih
        at None true e u ih = here (has_tag (b * 2 ^ 48 + t) x.tags && u)
          where
            here : (w : Bool) → Risen f (cond w (Some x.seq) None)
            here true = subst (λ u. Rises f u x.seq) e all.0.rises
            here false = tt
        at None false e u ih = subst (λ w. Risen f (cond (w && u) (Some x.seq) None)) (sym (hasnt x all.0.owned e)) tt

    pub prev_risen : (c : ℕ) (xs : List (Live A)) → AllSeen xs → Risen f (prev (b * 2 ^ 48 + t) c xs)
    prev_risen c [] all = tt
    prev_risen c (x ∷ xs) all = at (are_of b x.tags) refl (leb x.seq c) (prev_risen c xs all.1)
      where
        at : (k : Bool) → are_of b x.tags ≡ k → (u : Bool) → Risen f (prev (b * 2 ^ 48 + t) c xs) → Risen f (cond (has_tag (b * 2 ^ 48 + t) x.tags && u) (Some x.seq) (prev (b * 2 ^ 48 + t) c xs))
        at true e u ih = here (has_tag (b * 2 ^ 48 + t) x.tags && u)
          where
            here : (w : Bool) → Risen f (cond w (Some x.seq) (prev (b * 2 ^ 48 + t) c xs))
            here true = subst (λ u. Rises f u x.seq) e all.0.rises
            here false = ih
        at false e u ih = subst (λ w. Risen f (cond (w && u) (Some x.seq) (prev (b * 2 ^ 48 + t) c xs))) (sym (hasnt x all.0.owned e)) ih

    -- the LogBook's reads
    pub read_next_own : (trim : A → Option (ℕ × ℕ)) (a c : ℕ) → ((s : ℕ) → Rises f true s → leb a (f s) ≡ leb c s) → (xs : List (Live A)) → AllSeen xs
        → (read_next trim t a (own_lives b f xs) ≡ option_map f (read_next trim (b * 2 ^ 48 + t) c xs)) × Risen f (read_next trim (b * 2 ^ 48 + t) c xs)
    read_next_own trim a c same xs all = (
      ap (λ n. next t (max a (suc n)) (own_lives b f xs)) (hidden_own b f trim t xs)
          ∙ next_own (max a 1) (max c 1) greater xs all
          ∙ ap (λ n. option_map f (next (b * 2 ^ 48 + t) (max c (suc n)) xs)) (sym (hidden_physical b f trim (b * 2 ^ 48 + t) xs owned)),
      next_risen (max c (suc (hidden_bound trim (b * 2 ^ 48 + t) xs))) xs all,
    )
      where
        owned : AllByRecursion (λ x. AreOwned x.tags) xs
        owned = each_weaker (Seen b f) (λ x. AreOwned x.tags) (λ x is. is.owned) xs all

        by : (s : ℕ) → Rises f true s → (u : Bool) → leb a (f s) ≡ u → leb c s ≡ u → leb (max a 1) (f s) ≡ leb (max c 1) s
        by s r true e g =
            le-leb (max a 1) (f s) (let x = leb-true a (f s) e in let y = r.step in omega (arith, x, y))
            ∙ sym (le-leb (max c 1) s (let x = leb-true c s g in let y = r.is in omega (arith, x, y)))
        by s r false e g =
            lt-leb (max a 1) (f s) (let x = leb-false a (f s) e in omega (arith, x))
            ∙ sym (lt-leb (max c 1) s (let x = leb-false c s g in omega (arith, x)))

        greater : (s : ℕ) → Rises f true s → leb (max a 1) (f s) ≡ leb (max c 1) s
        greater s r = by s r (leb a (f s)) refl (sym (same s r))

    pub read_prev_own : (trim : A → Option (ℕ × ℕ)) (a c : ℕ) → ((s : ℕ) → Rises f true s → leb (f s) a ≡ leb s c) → (xs : List (Live A)) → AllSeen xs
        → (read_prev trim t a (own_lives b f xs) ≡ option_map f (read_prev trim (b * 2 ^ 48 + t) c xs)) × Risen f (read_prev trim (b * 2 ^ 48 + t) c xs)
    read_prev_own trim a c same xs all = (
      ap (λ n. unless_hidden n (prev t a (own_lives b f xs))) (hidden_own b f trim t xs)
          ∙ ap (unless_hidden 0) (prev_own a c same xs all)
          ∙ unless (prev (b * 2 ^ 48 + t) c xs) (prev_risen c xs all)
          ∙ ap (λ n. option_map f (unless_hidden n (prev (b * 2 ^ 48 + t) c xs))) (sym none),
      subst (λ n. Risen f (unless_hidden n (prev (b * 2 ^ 48 + t) c xs))) (sym none) (risen (prev (b * 2 ^ 48 + t) c xs) (prev_risen c xs all)),
    )
      where
        none : hidden_bound trim (b * 2 ^ 48 + t) xs ≡ 0
        none = hidden_physical b f trim (b * 2 ^ 48 + t) xs (each_weaker (Seen b f) (λ x. AreOwned x.tags) (λ x is. is.owned) xs all)

        unless : (o : Option ℕ) → Risen f o → unless_hidden 0 (option_map f o) ≡ option_map f (unless_hidden 0 o)
        unless None r = refl
        unless (Some s) r = rw (lt-ltb 0 (f s) (let y = r.step in omega (arith, y)), lt-ltb 0 s (let y = r.is in omega (arith, y)))

        risen : (o : Option ℕ) → Risen f o → Risen f (unless_hidden 0 o)
        risen None r = tt
        risen (Some s) r = rw (lt-ltb 0 s (let y = r.is in omega (arith, y))) r

  -- whether a record of the book is live
  pub is_live_own : (s : ℕ) (xs : List (Live A)) → Rises f true s → AllSeen xs → is_live (f s) (own_lives b f xs) ≡ is_live s xs
  is_live_own s [] r all = refl
  is_live_own s (x ∷ xs) r all = at (are_of b x.tags) refl (is_live_own s xs r all.1)
    where
      at : (k : Bool) → are_of b x.tags ≡ k → is_live (f s) (own_lives b f xs) ≡ is_live s xs → is_live (f s) (cond k (own_live f x ∷ own_lives b f xs) (own_lives b f xs)) ≡ eqb s x.seq || is_live s xs
      at true k ih =
          ap (λ u. u || is_live (f s) (own_lives b f xs)) (eqb_rises f rising s x.seq r (subst (λ u. Rises f u x.seq) k all.0.rises))
          ∙ ap (λ u. eqb s x.seq || u) ih
      at false k ih = ih ∙ ap (λ u. u || is_live s xs) (sym (eqb_stays f s x.seq r (subst (λ u. Rises f u x.seq) k all.0.rises)))

-- what it holds
module _ (b : ℕ) (f : ℕ → ℕ) (rising : (a c : ℕ) → a ≤ c → f a ≤ f c) where
  pub text_own : (s : ℕ) (xs : List (Live Body)) → Rises f true s → AllByRecursion (Seen b f) xs → user_text_at (f s) (own_lives b f xs) ≡ user_text_at s xs
  text_own s [] r all = refl
  text_own s (x ∷ xs) r all = at (are_of b x.tags) refl (text_own s xs r all.1)
    where
      at : (k : Bool) → are_of b x.tags ≡ k → user_text_at (f s) (own_lives b f xs) ≡ user_text_at s xs
          → user_text_at (f s) (cond k (own_live f x ∷ own_lives b f xs) (own_lives b f xs)) ≡ cond (eqb s x.seq) (user_text x.holds) (user_text_at s xs)
      at true k ih =
          ap (λ u. cond u (user_text x.holds) (user_text_at (f s) (own_lives b f xs))) (eqb_rises f rising s x.seq r (subst (λ u. Rises f u x.seq) k all.0.rises))
          ∙ ap (cond (eqb s x.seq) (user_text x.holds)) ih
      at false k ih = ih ∙ ap (λ u. cond u (user_text x.holds) (user_text_at s xs)) (sym (eqb_stays f s x.seq r (subst (λ u. Rises f u x.seq) k all.0.rises)))
