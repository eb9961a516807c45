-- What became of a record: the seqnum of a place of the book, and of the physical place that stands for it.
use Rattle.std.proofs.Common.{◌≡◌, ◌⊎◌, inl, inr, ℕ, zero, suc, ◌+◌, ◌-◌, ◌<◌, ◌≤◌, Bool, true, false, cond, eqb, ◌&&◌, List, [], ◌∷◌, length, map, Option, Some, None, option_map, refl, sym, ap, ◌∙◌, subst, arith}
use Rattle.std.specs.List.{AllByRecursion}
use Rattle.std.specs.Prelude.{slice_index, slice_index_or}
use Rattle.std.proofs.lemmas.Bool.{eq-eqb, ne_eqb}
use Rattle.boki_model.specs.Order.{order, locations_from, locations, seq_in, seq_of}
use Rattle.boki_model.specs.OrderLaws.{CountsGrow}
use Rattle.books_alone.specs.Books.{selected, count_selected, own_vectors, seqnums, count_upto, locals, physical_local}
use Rattle.books_alone.proofs.Picked.{length-picked}
use Rattle.books_alone.proofs.BookOrder.{order_picked, EachOf, each_ordered}
use Rattle.books_alone.proofs.BookNumbers.{Rises, count_new, count_all, rises_here, rises_new, rises_within}
use Rattle.books_alone.proofs.BookReads.{Risen}
use Rattle.books_alone.proofs.Contents.{order_map, vectors_map, length-map, seqnums_map}

-- Each record with its place, and with the book's place.
record Mark (X : Type 0) : Type 0 where
  entry : X
  at : ℕ × ℕ
  own : ℕ × ℕ

module _ {X : Type 0} (keep : X → Bool) where
  abbrev marks_from : ℕ → ℕ → ℕ → List X → List (Mark X)
  marks_from x k l [] = []
  marks_from x k l (r ∷ rs) = record { entry = r; at = (x, suc k); own = (x, suc l) } ∷ marks_from x (suc k) (cond (keep r) (suc l) l) rs

  abbrev marks : ℕ → List (List X) → List (List (Mark X))
  marks n [] = []
  marks n (s ∷ ss) = marks_from (suc n) 0 0 s ∷ marks (suc n) ss

  abbrev mine : Mark X → Bool
  mine m = keep m.entry

  entries_from : (x k l : ℕ) (s : List X) → map (λ m. m.entry) (marks_from x k l s) ≡ s
  entries_from x k l [] = refl
  entries_from x k l (r ∷ rs) = ap (λ t. r ∷ t) (entries_from x (suc k) (cond (keep r) (suc l) l) rs)

  entries : (n : ℕ) (shards : List (List X)) → map (map (λ (m : Mark X). m.entry)) (marks n shards) ≡ shards
  entries n [] = refl
  entries n (s ∷ ss) = ap (λ t. t ∷ map (map (λ (m : Mark X). m.entry)) (marks (suc n) ss)) (entries_from (suc n) 0 0 s) ∙ ap (λ t. s ∷ t) (entries (suc n) ss)

  places_at : (x k l : ℕ) (s : List X) → map (λ m. m.at) (marks_from x k l s) ≡ locations_from x k s
  places_at x k l [] = refl
  places_at x k l (r ∷ rs) = ap (λ t. (x, suc k) ∷ t) (places_at x (suc k) (cond (keep r) (suc l) l) rs)

  all_at : (n : ℕ) (shards : List (List X)) → map (map (λ (m : Mark X). m.at)) (marks n shards) ≡ locations n shards
  all_at n [] = refl
  all_at n (s ∷ ss) = ap (λ t. t ∷ map (map (λ (m : Mark X). m.at)) (marks (suc n) ss)) (places_at (suc n) 0 0 s) ∙ ap (λ t. locations_from (suc n) 0 s ∷ t) (all_at (suc n) ss)

  module _ {Y : Type 0} (look : X → Y) where
    places_own : (x k l : ℕ) (s : List X) → selected mine (λ m. m.own) (marks_from x k l s) ≡ locations_from x l (selected keep look s)
    places_own x k l [] = refl
    places_own x k l (r ∷ rs) = at (keep r) (places_own x (suc k) (cond (keep r) (suc l) l) rs)
      where
        at : (t : Bool) → selected mine (λ m. m.own) (marks_from x (suc k) (cond t (suc l) l) rs) ≡ locations_from x (cond t (suc l) l) (selected keep look rs)
            → cond t ((x, suc l) ∷ selected mine (λ m. m.own) (marks_from x (suc k) (cond t (suc l) l) rs)) (selected mine (λ m. m.own) (marks_from x (suc k) (cond t (suc l) l) rs))
            ≡ locations_from x l (cond t (look r ∷ selected keep look rs) (selected keep look rs))
        at true ih = ap (λ t. (x, suc l) ∷ t) ih
        at false ih = ih

    all_own : (n : ℕ) (shards : List (List X)) → map (selected mine (λ m. m.own)) (marks n shards) ≡ locations n (map (selected keep look) shards)
    all_own n [] = refl
    all_own n (s ∷ ss) =
        ap (λ t. t ∷ map (selected mine (λ m. m.own)) (marks (suc n) ss)) (places_own (suc n) 0 0 s)
        ∙ ap (λ t. locations_from (suc n) 0 (selected keep look s) ∷ t) (all_own (suc n) ss)

-- The place that stands for the book's place: of a record of the book both tests are one, and of another the physical one fails.
abbrev Tells : ℕ → ℕ → ℕ → Bool → ℕ × ℕ → ℕ × ℕ → Type 0
Tells shard local physical true own at = (eqb shard own.0 && eqb local own.1) ≡ (eqb shard at.0 && eqb physical at.1)
Tells shard local physical false own at = (eqb shard at.0 && eqb physical at.1) ≡ false

other_shard : (shard local physical x l k : ℕ) (t : Bool) → (shard ≡ x → ⊥) → Tells shard local physical t (x, l) (x, k)
other_shard shard local physical x l k true ne = rw (ne_eqb shard x ne)
other_shard shard local physical x l k false ne = rw (ne_eqb shard x ne)

fails : (shard x p k : ℕ) → (p ≡ k → ⊥) → (eqb shard x && eqb p k) ≡ false
fails shard x p k ne = rw (ne_eqb p k ne) (at (eqb shard x))
  where
    at : (u : Bool) → (u && false) ≡ false
    at true = refl
    at false = refl

neither : (shard local physical x l k : ℕ) (t : Bool) → local < l → physical < k → Tells shard local physical t (x, l) (x, k)
neither shard local physical x l k true lt less = rw (ne_eqb local l (λ e. omega (arith, e, lt)), ne_eqb physical k (λ e. omega (arith, e, less)))
neither shard local physical x l k false lt less = fails shard x physical k (λ e. omega (arith, e, less))

not_yet : (shard local physical x l k : ℕ) → (local ≡ l → ⊥) → (physical ≡ k → ⊥) → Tells shard local physical true (x, l) (x, k)
not_yet shard local physical x l k ne nk = rw (ne_eqb local l ne, ne_eqb physical k nk)

module _ {X : Type 0} (keep : X → Bool) where
  abbrev TellsAt : ℕ → ℕ → ℕ → Mark X → Type 0
  TellsAt shard local physical m = Tells shard local physical (keep m.entry) m.own m.at

  tells_others : (shard local physical x k l : ℕ) (s : List X) → (shard ≡ x → ⊥) → AllByRecursion (TellsAt shard local physical) (marks_from keep x k l s)
  tells_others shard local physical x k l [] ne = tt
  tells_others shard local physical x k l (r ∷ rs) ne =
      (other_shard shard local physical x (suc l) (suc k) (keep r) ne, tells_others shard local physical x (suc k) (cond (keep r) (suc l) l) rs ne)

  -- behind the place
  tells_behind : (shard local physical x k l : ℕ) (s : List X) → local ≤ l → physical ≤ k → AllByRecursion (TellsAt shard local physical) (marks_from keep x k l s)
  tells_behind shard local physical x k l [] le less = tt
  tells_behind shard local physical x k l (r ∷ rs) le less = (
    neither shard local physical x (suc l) (suc k) (keep r) (omega arith) (omega arith),
    tells_behind shard local physical x (suc k) (cond (keep r) (suc l) l) rs (at (keep r)) (omega arith),
  )
    where
      at : (t : Bool) → local ≤ cond t (suc l) l
      at true = omega arith
      at false = le

  -- the local numbers of a shard are behind those before it, and 0 stands for none
  local_behind : (k n : ℕ) (s : List X) → (slice_index (locals keep k s) n ≡ 0) ⊎ (k < slice_index (locals keep k s) n)
  local_behind k n [] = inl refl
  local_behind k n (r ∷ rs) = at (keep r) n (local_behind (suc k) n rs) (λ m. local_behind (suc k) m rs)
    where
      less : (m : ℕ) → (slice_index (locals keep (suc k) rs) m ≡ 0) ⊎ (suc k < slice_index (locals keep (suc k) rs) m) → (slice_index (locals keep (suc k) rs) m ≡ 0) ⊎ (k < slice_index (locals keep (suc k) rs) m)
      less m (inl e) = inl e
      less m (inr lt) = inr (omega (arith, lt))

      at : (t : Bool) (n : ℕ) → (slice_index (locals keep (suc k) rs) n ≡ 0) ⊎ (suc k < slice_index (locals keep (suc k) rs) n)
          → ((m : ℕ) → (slice_index (locals keep (suc k) rs) m ≡ 0) ⊎ (suc k < slice_index (locals keep (suc k) rs) m))
          → (slice_index (cond t (suc k ∷ locals keep (suc k) rs) (locals keep (suc k) rs)) n ≡ 0) ⊎ (k < slice_index (cond t (suc k ∷ locals keep (suc k) rs) (locals keep (suc k) rs)) n)
      at true zero here any = inr (omega arith)
      at true (suc m) here any = less m (any m)
      at false m here any = less m here

  tells_here : (shard x k l n : ℕ) (s : List X) → AllByRecursion (TellsAt shard (l + suc n) (slice_index (locals keep k s) n)) (marks_from keep x k l s)
  tells_here shard x k l n [] = tt
  tells_here shard x k l n (r ∷ rs) = at (keep r) refl n (local_behind (suc k) n rs) (λ m. local_behind (suc k) m rs) (tells_here shard x (suc k) l n rs) (λ m. tells_here shard x (suc k) (suc l) m rs)
    where
      not_here : (m : ℕ) → (slice_index (locals keep (suc k) rs) m ≡ 0) ⊎ (suc k < slice_index (locals keep (suc k) rs) m) → slice_index (locals keep (suc k) rs) m ≡ suc k → ⊥
      not_here m (inl e) is = omega (arith, e, is)
      not_here m (inr lt) is = omega (arith, lt, is)

      first : Tells shard (l + 1) (suc k) true (x, suc l) (x, suc k)
      first = ap (λ u. eqb shard x && u) (eq-eqb (l + 1) (suc l) (omega arith) ∙ sym (eq-eqb (suc k) (suc k) refl))

      at : (t : Bool) → keep r ≡ t → (n : ℕ) → (slice_index (locals keep (suc k) rs) n ≡ 0) ⊎ (suc k < slice_index (locals keep (suc k) rs) n)
          → ((m : ℕ) → (slice_index (locals keep (suc k) rs) m ≡ 0) ⊎ (suc k < slice_index (locals keep (suc k) rs) m))
          → AllByRecursion (TellsAt shard (l + suc n) (slice_index (locals keep (suc k) rs) n)) (marks_from keep x (suc k) l rs)
          → ((m : ℕ) → AllByRecursion (TellsAt shard (suc l + suc m) (slice_index (locals keep (suc k) rs) m)) (marks_from keep x (suc k) (suc l) rs))
          → Tells shard (l + suc n) (slice_index (cond t (suc k ∷ locals keep (suc k) rs) (locals keep (suc k) rs)) n) t (x, suc l) (x, suc k)
          × AllByRecursion (TellsAt shard (l + suc n) (slice_index (cond t (suc k ∷ locals keep (suc k) rs) (locals keep (suc k) rs)) n)) (marks_from keep x (suc k) (cond t (suc l) l) rs)
      at true e zero here any one more = (first, tells_behind shard (l + 1) (suc k) x (suc k) (suc l) rs (omega arith) (omega arith))
      at true e (suc m) here any one more = (
        not_yet shard (l + suc (suc m)) (slice_index (locals keep (suc k) rs) m) x (suc l) (suc k) (λ e. omega (arith, e)) (not_here m (any m)),
        subst (λ n. AllByRecursion (TellsAt shard n (slice_index (locals keep (suc k) rs) m)) (marks_from keep x (suc k) (suc l) rs)) (let e : suc l + suc m ≡ l + suc (suc m) = omega arith in e) (more m),
      )
      at false e n here any one more = (fails shard x (slice_index (locals keep (suc k) rs) n) (suc k) (not_here n here), one)

  tells_local : (shard x local : ℕ) (s : List X) → AllByRecursion (TellsAt shard local (physical_local keep s local)) (marks_from keep x 0 0 s)
  tells_local shard x zero s = tells_behind shard 0 0 x 0 0 s (omega arith) (omega arith)
  tells_local shard x (suc n) s =
      subst (λ m. AllByRecursion (TellsAt shard m (slice_index (locals keep 0 s) n)) (marks_from keep x 0 0 s)) (let e : 0 + suc n ≡ suc n = omega arith in e) (tells_here shard x 0 0 n s)

  tells_past : (shard local physical n : ℕ) (ss : List (List X)) → shard ≤ n → EachOf (TellsAt shard local physical) (marks keep n ss)
  tells_past shard local physical n [] le = tt
  tells_past shard local physical n (s ∷ ss) le =
      (tells_others shard local physical (suc n) 0 0 s (λ e. omega (arith, e)), tells_past shard local physical (suc n) ss (omega arith))

  tells_all : (shard local i n : ℕ) (ss : List (List X)) → shard ≡ suc (n + i) → EachOf (TellsAt shard local (physical_local keep (slice_index_or ss i []) local)) (marks keep n ss)
  tells_all shard local i n [] e = tt
  tells_all shard local zero n (s ∷ ss) e =
      (tells_local shard (suc n) local s, tells_past shard local (physical_local keep s local) (suc n) ss (omega arith))
  tells_all shard local (suc i) n (s ∷ ss) e = (
    tells_others shard local (physical_local keep (slice_index_or ss i []) local) (suc n) 0 0 s (λ f. omega (arith, f)),
    tells_all shard local i (suc n) ss (omega arith),
  )

  tells_each : (shard local : ℕ) (shards : List (List X)) → EachOf (TellsAt shard local (physical_local keep (slice_index_or shards (shard - 1) []) local)) (marks keep 0 shards)
  tells_each zero local shards = tells_past 0 local (physical_local keep (slice_index_or shards 0 []) local) 0 shards (omega arith)
  tells_each (suc i) local shards =
      subst (λ j. EachOf (TellsAt (suc i) local (physical_local keep (slice_index_or shards j []) local)) (marks keep 0 shards)) (let e : i ≡ suc i - 1 = omega arith in e)
      (tells_all (suc i) local i 0 shards (omega arith))

  -- The seqnum, in a list of marks.
  abbrev rise : List (Mark X) → ℕ → ℕ
  rise ms s = count_upto s (seqnums (mine keep) ms)

  later : (m : Mark X) (ms : List (Mark X)) (o : Option ℕ) → Risen (rise ms) o → (option_map (rise ms) o ≡ option_map (rise (m ∷ ms)) o) × Risen (rise (m ∷ ms)) o
  later m ms None r = (refl, tt)
  later m ms (Some s) r =
      let le = rises_within (mine keep) ms s r in
      (ap Some (sym (count_new (mine keep) m ms s le)), rises_new (mine keep) m ms true s le r)

  seq_marked : (shard local physical : ℕ) (ms : List (Mark X)) → AllByRecursion (TellsAt shard local physical) ms
      → (seq_in shard local (selected (mine keep) (λ m. m.own) ms) ≡ option_map (rise ms) (seq_in shard physical (map (λ m. m.at) ms)))
      × Risen (rise ms) (seq_in shard physical (map (λ m. m.at) ms))
  seq_marked shard local physical [] all = (refl, tt)
  seq_marked shard local physical (m ∷ ms) all = at (keep m.entry) refl all.0 (seq_marked shard local physical ms all.1)
    where
      rest : Option ℕ
      rest = seq_in shard physical (map (λ m. m.at) ms)

      number : keep m.entry ≡ true → suc (length (selected (mine keep) (λ m. m.own) ms)) ≡ rise (m ∷ ms) (suc (length (map (λ (m : Mark X). m.at) ms)))
      number k =
          ap suc (length-picked (mine keep) (λ m. m.own) ms)
          ∙ sym (ap (λ t. cond t (suc (count_selected (mine keep) ms)) (count_selected (mine keep) ms)) k)
          ∙ sym (count_all (mine keep) (m ∷ ms) (suc (length ms)) (omega arith))
          ∙ ap (λ n. rise (m ∷ ms) (suc n)) (sym (length-map (λ (m : Mark X). m.at) ms))

      risen : keep m.entry ≡ true → Rises (rise (m ∷ ms)) true (suc (length (map (λ (m : Mark X). m.at) ms)))
      risen k =
          subst (λ n. Rises (rise (m ∷ ms)) true (suc n)) (sym (length-map (λ (m : Mark X). m.at) ms))
          (subst (λ t. Rises (rise (m ∷ ms)) t (suc (length ms))) k (rises_here (mine keep) m ms))

      hit : (u : Bool) → keep m.entry ≡ true
          → (seq_in shard local (selected (mine keep) (λ m. m.own) ms) ≡ option_map (rise ms) rest) × Risen (rise ms) rest
          → (cond u (Some (suc (length (selected (mine keep) (λ m. m.own) ms)))) (seq_in shard local (selected (mine keep) (λ m. m.own) ms))
          ≡ option_map (rise (m ∷ ms)) (cond u (Some (suc (length (map (λ (m : Mark X). m.at) ms)))) rest))
          × Risen (rise (m ∷ ms)) (cond u (Some (suc (length (map (λ (m : Mark X). m.at) ms)))) rest)
      hit true k ih = (ap Some (number k), risen k)
      hit false k ih = let more = later m ms rest ih.1 in (ih.0 ∙ more.0, more.1)

      at : (t : Bool) → keep m.entry ≡ t → Tells shard local physical t m.own m.at
          → (seq_in shard local (selected (mine keep) (λ m. m.own) ms) ≡ option_map (rise ms) rest) × Risen (rise ms) rest
          → (seq_in shard local (cond t (m.own ∷ selected (mine keep) (λ m. m.own) ms) (selected (mine keep) (λ m. m.own) ms))
          ≡ option_map (rise (m ∷ ms)) (cond (eqb shard m.at.0 && eqb physical m.at.1) (Some (suc (length (map (λ (m : Mark X). m.at) ms)))) rest))
          × Risen (rise (m ∷ ms)) (cond (eqb shard m.at.0 && eqb physical m.at.1) (Some (suc (length (map (λ (m : Mark X). m.at) ms)))) rest)
      at true k tells ih =
          let both = hit (eqb shard m.at.0 && eqb physical m.at.1) k ih in
          (ap (λ u. cond u (Some (suc (length (selected (mine keep) (λ m. m.own) ms)))) (seq_in shard local (selected (mine keep) (λ m. m.own) ms))) tells ∙ both.0, both.1)
      at false k tells ih = let more = later m ms rest ih.1 in rw tells (ih.0 ∙ more.0, more.1)

  -- the seqnum of the book's place
  pub seq_own : {Y : Type 0} (look : X → Y) (shard local : ℕ) (shards : List (List X)) (vectors : List (List ℕ)) → CountsGrow vectors
      → (seq_of shard local (map (selected keep look) shards) (own_vectors keep shards vectors)
      ≡ option_map (λ s. count_upto s (seqnums keep (order shards vectors))) (seq_of shard (physical_local keep (slice_index_or shards (shard - 1) []) local) shards vectors))
      × Risen (λ s. count_upto s (seqnums keep (order shards vectors))) (seq_of shard (physical_local keep (slice_index_or shards (shard - 1) []) local) shards vectors)
  seq_own look shard local shards vectors grow =
      let physical = physical_local keep (slice_index_or shards (shard - 1) []) local in
      let ms = order (marks keep 0 shards) vectors in
      let both = seq_marked shard local physical ms (each_ordered (TellsAt shard local physical) (marks keep 0 shards) vectors (tells_each shard local shards)) in
      let own : order (locations 0 (map (selected keep look) shards)) (own_vectors keep shards vectors) ≡ selected (mine keep) (λ m. m.own) ms =
      ap (λ l. order l (own_vectors keep shards vectors)) (sym (all_own keep look 0 shards))
      ∙ ap (order (map (selected (mine keep) (λ m. m.own)) (marks keep 0 shards))) (ap (λ l. own_vectors keep l vectors) (sym (entries keep 0 shards)) ∙ vectors_map (λ (m : Mark X). m.entry) keep (marks keep 0 shards) vectors)
      ∙ order_picked (mine keep) (λ m. m.own) (marks keep 0 shards) vectors grow in
      let at : order (locations 0 shards) vectors ≡ map (λ m. m.at) ms =
      ap (λ l. order l vectors) (sym (all_at keep 0 shards)) ∙ order_map (λ (m : Mark X). m.at) (marks keep 0 shards) vectors in
      let same : seqnums (mine keep) ms ≡ seqnums keep (order shards vectors) =
      sym (seqnums_map (λ (m : Mark X). m.entry) keep ms)
      ∙ ap (seqnums keep) (sym (order_map (λ (m : Mark X). m.entry) (marks keep 0 shards) vectors) ∙ ap (λ l. order l vectors) (entries keep 0 shards)) in (
        ap (seq_in shard local) own ∙ both.0 ∙ ap (λ l. option_map (λ s. count_upto s l) (seq_in shard physical (map (λ m. m.at) ms))) same
            ∙ ap (λ l. option_map (λ s. count_upto s (seqnums keep (order shards vectors))) (seq_in shard physical l)) (sym at),
        subst (λ l. Risen (λ s. count_upto s (seqnums keep (order shards vectors))) (seq_in shard physical l)) (sym at)
            (subst (λ l. Risen (λ s. count_upto s l) (seq_in shard physical (map (λ m. m.at) ms))) same both.1),
      )
