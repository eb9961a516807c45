-- The live records and the reads, where what each record holds is mapped.
use Rattle.std.proofs.Common.{◌≡◌, ℕ, suc, max, Bool, true, false, cond, eqb, leb, ◌&&◌, ◌||◌, List, [], ◌∷◌, length, map, Option, Some, None, option_map, refl, ap, ◌∙◌}
use Rattle.lb_base.specs.declared.value.Cond.{Cond}
use Rattle.boki_model.specs.Live.{LogRecord, Live, has_tag, count, meets_condition, append_if_live, live, upto, is_live}
use Rattle.std.specs.Option.{option_or}
use Rattle.boki_model.specs.Reads.{tagged_seqnums, next, prev, nth, trim_bound, hidden_bound, unless_hidden}
use Rattle.log_folds.specs.Contents.{map_record, map_live, IsReadAlike, Agree, AllAgree}
use Rattle.log_folds.proofs.Maps.{length-mapped}

module _ {A B : Type 0} (f : A → B) where
  abbrev each : List (Live A) → List (Live B)
  each xs = map (map_live f) xs

  count_mapped : (tag : ℕ) (xs : List (Live A)) → count tag (each xs) ≡ count tag xs
  count_mapped tag [] = refl
  count_mapped tag (x ∷ xs) = ap (λ n. cond (has_tag tag x.tags) (suc n) n) (count_mapped tag xs)

  meets_mapped :
      (condition : Option Cond) (xs : List (Live A)) → meets_condition condition (each xs) ≡ meets_condition condition xs
  meets_mapped None xs = refl
  meets_mapped (Some c) xs = ap (eqb c.place) (count_mapped c.tag.0 xs)

  joined_mapped :
      (seq : ℕ) (r : LogRecord A) (xs : List (Live A))
      → append_if_live seq (map_record f r) (each xs) ≡ each (append_if_live seq r xs)
  joined_mapped seq r xs = ap (λ b. cond b (record { seq = seq; tags = r.tags; holds = f r.holds } ∷ each xs) (each xs)) (meets_mapped r.condition xs) ∙ at (meets_condition r.condition xs)
    where
      at :
          (b : Bool)
          → cond b (record { seq = seq; tags = r.tags; holds = f r.holds } ∷ each xs) (each xs)
          ≡ each (cond b (record { seq = seq; tags = r.tags; holds = r.holds } ∷ xs) xs)
      at true = refl
      at false = refl

  live_mapped : (log : List (LogRecord A)) → live (map (map_record f) log) ≡ each (live log)
  live_mapped [] = refl
  live_mapped (r ∷ log) =
      ap (λ n. append_if_live (suc n) (map_record f r) (live (map (map_record f) log))) (length-mapped (map_record f) log)
      ∙ ap (append_if_live (suc (length log)) (map_record f r)) (live_mapped log)
      ∙ joined_mapped (suc (length log)) r (live log)

  upto_mapped : (p : ℕ) (xs : List (Live A)) → upto p (each xs) ≡ each (upto p xs)
  upto_mapped p [] = refl
  upto_mapped p (x ∷ xs) = at (upto_mapped p xs) (leb x.seq p)
    where
      at :
          upto p (each xs) ≡ each (upto p xs) → (b : Bool)
          → cond b (map_live f x ∷ each xs) (upto p (each xs)) ≡ each (cond b (x ∷ xs) (upto p xs))
      at ih true = refl
      at ih false = ih

  is_live_mapped : (seq : ℕ) (xs : List (Live A)) → is_live seq (each xs) ≡ is_live seq xs
  is_live_mapped seq [] = refl
  is_live_mapped seq (x ∷ xs) = ap (λ b. eqb seq x.seq || b) (is_live_mapped seq xs)

  tagged_mapped : (tag : ℕ) (xs : List (Live A)) → tagged_seqnums tag (each xs) ≡ tagged_seqnums tag xs
  tagged_mapped tag [] = refl
  tagged_mapped tag (x ∷ xs) = ap (λ l. cond (has_tag tag x.tags) (x.seq ∷ l) l) (tagged_mapped tag xs)

  next_mapped : (tag a : ℕ) (xs : List (Live A)) → next tag a (each xs) ≡ next tag a xs
  next_mapped tag a [] = refl
  next_mapped tag a (x ∷ xs) = ap (λ o. option_or o (cond (has_tag tag x.tags && leb a x.seq) (Some x.seq) None)) (next_mapped tag a xs)

  prev_mapped : (tag b : ℕ) (xs : List (Live A)) → prev tag b (each xs) ≡ prev tag b xs
  prev_mapped tag b [] = refl
  prev_mapped tag b (x ∷ xs) = ap (cond (has_tag tag x.tags && leb x.seq b) (Some x.seq)) (prev_mapped tag b xs)

  nth_mapped :
      (tag place : ℕ) (xs : List (Live A))
      → nth tag place (each xs) ≡ option_map (map_live f) (nth tag place xs)
  nth_mapped tag place [] = refl
  nth_mapped tag place (x ∷ xs) =
      ap (λ n. cond (has_tag tag x.tags && eqb place n) (Some (map_live f x)) (nth tag place (each xs))) (count_mapped tag xs)
      ∙ at (nth_mapped tag place xs) (has_tag tag x.tags && eqb place (count tag xs))
    where
      at :
          nth tag place (each xs) ≡ option_map (map_live f) (nth tag place xs) → (b : Bool)
          → cond b (Some (map_live f x)) (nth tag place (each xs))
          ≡ option_map (map_live f) (cond b (Some x) (nth tag place xs))
      at ih true = refl
      at ih false = ih

  seq_mapped :
      (o : Option (Live A)) → option_map (λ x. x.seq) (option_map (map_live f) o) ≡ option_map (λ x. x.seq) o
  seq_mapped None = refl
  seq_mapped (Some x) = refl

  hidden_mapped :
      (trim : B → Option (ℕ × ℕ)) (tag : ℕ) (xs : List (Live A))
      → hidden_bound trim tag (each xs) ≡ hidden_bound (λ held. trim (f held)) tag xs
  hidden_mapped trim tag [] = refl
  hidden_mapped trim tag (x ∷ xs) = ap (max (trim_bound tag x.seq x.tags (trim (f x.holds)))) (hidden_mapped trim tag xs)

  pub read_alike : IsReadAlike f
  read_alike = record {
    live = live_mapped;
    meets_condition = meets_mapped;
    upto = upto_mapped;
    is_live = is_live_mapped;
    count = count_mapped;
    tagged_seqnums = tagged_mapped;
    next = next_mapped;
    prev = prev_mapped;
    nth = nth_mapped;
    nth_seq = λ tag place xs. ap (option_map (λ x. x.seq)) (nth_mapped tag place xs) ∙ seq_mapped (nth tag place xs);
    hidden_bound = hidden_mapped;
    read_next = λ trim tag a xs.
        next_mapped tag (max a (suc (hidden_bound trim tag (each xs)))) xs
        ∙ ap (λ n. next tag (max a (suc n)) xs) (hidden_mapped trim tag xs);
    read_prev = λ trim tag b xs.
        ap (unless_hidden (hidden_bound trim tag (each xs))) (prev_mapped tag b xs)
        ∙ ap (λ n. unless_hidden n (prev tag b xs)) (hidden_mapped trim tag xs);
  }

module _ {A B : Type 0} (f : A → B) where
  one_mapped : (r : LogRecord A) (s : LogRecord B) → Agree f r s → s ≡ map_record f r
  one_mapped r s agree = λ i. record { tags = agree.tags i; condition = agree.condition i; holds = agree.holds i }

  pub agreeing_mapped :
      (log : List (LogRecord A)) (others : List (LogRecord B)) → AllAgree f log others
      → others ≡ map (map_record f) log
  agreeing_mapped [] [] all = refl
  agreeing_mapped [] (s ∷ ss) all = absurd all
  agreeing_mapped (r ∷ rs) [] all = absurd all
  agreeing_mapped (r ∷ rs) (s ∷ ss) all = (λ i. one_mapped r s all.0 i ∷ agreeing_mapped rs ss all.1 i)
