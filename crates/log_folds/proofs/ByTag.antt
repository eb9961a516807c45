-- The records that carry a tag.
use Rattle.std.proofs.Common.{◌≡◌, ◌⊎◌, inl, inr, ℕ, suc, ◌-◌, ◌<◌, ◌≤◌, Bool, true, false, cond, eqb, leb, ◌&&◌, List, [], ◌∷◌, ◌++◌, length, drop, reverse, map, slice_get, Some, length-append, length-drop, refl, sym, ap, ◌∙◌, arith}
use Rattle.std.proofs.lemmas.Bool.{eqb-true, cases_lt}
use Rattle.std.proofs.lemmas.List.{length-reverse}
use mathlib.Core.List.{reverse-cons}
use Rattle.boki_model.specs.Live.{LogRecord, Live, has_tag, count, live, upto}
use Rattle.boki_model.specs.Order.{at_seq}
use Rattle.boki_model.specs.Reads.{tagged_seqnums, nth}
use Rattle.boki_model.specs.LogLaws.{FallBelow}
use Rattle.boki_model.proofs.Logs.{upto_here, upto_skip, upto_all, fall_more, nth_below, slice_get_push, prefix_seen, live_falls}
use Rattle.exactly_once.specs.FurtherLaws.Words.{IsAmong}
use Rattle.log_folds.specs.Contents.{map_live}
use Rattle.boki_machine.specs.Decided.{oldest}
use Rattle.log_folds.specs.ByTag.{with_tag, AreOldest, AreOfTag, AreOfTagUpTo}

-- The oldest of a list.

drop_all : {X : Type 0} (xs : List X) → drop (length xs) xs ≡ []
drop_all [] = refl
drop_all (x ∷ xs) = drop_all xs

pub oldest_none : {X : Type 0} (xs : List X) → oldest 0 xs ≡ []
oldest_none xs = ap (λ n. drop n xs) (let e : length xs - 0 ≡ length xs = omega arith in e) ∙ drop_all xs

pub oldest_all : {X : Type 0} (n : ℕ) (xs : List X) → length xs ≤ n → oldest n xs ≡ xs
oldest_all n xs le = ap (λ k. drop k xs) (let e : length xs - n ≡ 0 = omega arith in e)

-- the newest isn't among fewer
pub oldest_skip : {X : Type 0} (n : ℕ) (x : X) (xs : List X) → n ≤ length xs → oldest n (x ∷ xs) ≡ oldest n xs
oldest_skip n x xs le = ap (λ k. drop k (x ∷ xs)) (let e : suc (length xs) - n ≡ suc (length xs - n) = omega arith in e)

oldest_whole :
    {X : Type 0} (x : X) (xs : List X) → oldest (suc (length xs)) (x ∷ xs) ≡ x ∷ oldest (length xs) xs
oldest_whole x xs = oldest_all (suc (length xs)) (x ∷ xs) (omega arith) ∙ ap (λ l. x ∷ l) (sym (oldest_all (length xs) xs (omega arith)))

oldest_counted : {X : Type 0} (n : ℕ) (xs : List X) → n ≤ length xs → length (oldest n xs) ≡ n
oldest_counted n xs le = let e = length-drop (length xs - n) xs in omega arith

oldest_behind : {X : Type 0} (n : ℕ) (news xs : List X) → n ≤ length xs → oldest n (news ++ xs) ≡ oldest n xs
oldest_behind n [] xs le = refl
oldest_behind n (x ∷ news) xs le = oldest_skip n x (news ++ xs) (let e = length-append news xs in omega arith) ∙ oldest_behind n news xs le

at_seq_within : {X : Type 0} (seq : ℕ) (r : X) (xs : List X) → at_seq seq xs ≡ Some r → seq ≤ length xs
at_seq_within seq r [] is = cc
at_seq_within seq r (x ∷ xs) is = at (at_seq_within seq r xs) (eqb seq (suc (length xs))) refl is
  where
    at :
        (at_seq seq xs ≡ Some r → seq ≤ length xs) → (b : Bool) → eqb seq (suc (length xs)) ≡ b
        → cond b (Some x) (at_seq seq xs) ≡ Some r → seq ≤ suc (length xs)
    at ih true e is = let same = eqb-true seq (suc (length xs)) e in omega arith
    at ih false e is = let le = ih is in omega arith

next_oldest :
    {X : Type 0} (n : ℕ) (r : X) (xs : List X) → at_seq (suc n) xs ≡ Some r
    → oldest (suc n) xs ≡ r ∷ oldest n xs
next_oldest n r [] is = cc
next_oldest n r (x ∷ xs) is = at (next_oldest n r xs) (eqb (suc n) (suc (length xs))) refl is
  where
    at :
        (at_seq (suc n) xs ≡ Some r → oldest (suc n) xs ≡ r ∷ oldest n xs) → (b : Bool)
        → eqb (suc n) (suc (length xs)) ≡ b → cond b (Some x) (at_seq (suc n) xs) ≡ Some r
        → oldest (suc n) (x ∷ xs) ≡ r ∷ oldest n (x ∷ xs)
    at ih true e is =
        let same : n ≡ length xs = (let f = eqb-true (suc n) (suc (length xs)) e in omega arith) in
        let one : x ≡ r = cc in
        ap (λ n. oldest (suc n) (x ∷ xs)) same
        ∙ oldest_whole x xs
        ∙ ap (λ y. y ∷ oldest (length xs) xs) one
        ∙ ap (λ l. r ∷ l) (ap (λ n. oldest n xs) (sym same) ∙ sym (oldest_skip n x xs (omega arith)))
    at ih false e is =
        let le = at_seq_within (suc n) r xs is in
        oldest_skip (suc n) x xs le ∙ ih is ∙ ap (λ l. r ∷ l) (sym (oldest_skip n x xs (omega arith)))

module _ {A : Type 0} (log : List (LogRecord A)) (p : ℕ) where
  live_oldest : live (oldest p log) ≡ upto p (live log)
  live_oldest = at (cases_lt p (length log))
    where
      at : (p < length log) ⊎ (length log ≤ p) → live (oldest p log) ≡ upto p (live log)
      at (inl lt) = prefix_seen (length log - p) log ∙ ap (λ n. upto n (live log)) (let e : length log - (length log - p) ≡ p = omega arith in e)
      at (inr le) = ap live (oldest_all p log le) ∙ sym (upto_all (suc (length log)) p (live log) (live_falls log) (omega arith))

pub are_oldest : {A : Type 0} (log : List (LogRecord A)) (p : ℕ) → AreOldest log p
are_oldest log p = record {
  live_of = live_oldest log p;
  none = oldest_none log;
  counted = oldest_counted p log;
  whole = oldest_all p log;
  next_record = λ r is. next_oldest p r log is;
  stay = λ news le. oldest_behind p news log le;
  still_seen = λ news le. sym (live_oldest (news ++ log) p) ∙ ap live (oldest_behind p news log le) ∙ live_oldest log p;
}

upto_shorter : {A : Type 0} (p : ℕ) (xs : List (Live A)) → length (upto p xs) ≤ length xs
upto_shorter p [] = omega arith
upto_shorter p (x ∷ xs) = at (upto_shorter p xs) (leb x.seq p)
  where
    at : length (upto p xs) ≤ length xs → (b : Bool) → length (cond b (x ∷ xs) (upto p xs)) ≤ suc (length xs)
    at le true = omega arith
    at le false = omega arith

-- those up to a position are the oldest
pub upto_oldest : {A : Type 0} (p : ℕ) (xs : List (Live A)) → upto p xs ≡ oldest (length (upto p xs)) xs
upto_oldest p [] = refl
upto_oldest p (x ∷ xs) = at (upto_oldest p xs) (leb x.seq p)
  where
    at :
        upto p xs ≡ oldest (length (upto p xs)) xs → (b : Bool)
        → cond b (x ∷ xs) (upto p xs) ≡ oldest (length (cond b (x ∷ xs) (upto p xs))) (x ∷ xs)
    at ih true = sym (oldest_all (suc (length xs)) (x ∷ xs) (omega arith))
    at ih false = ih ∙ sym (oldest_skip (length (upto p xs)) x xs (upto_shorter p xs))

module _ {A : Type 0} (tag : ℕ) where
  seqnums : (xs : List (Live A)) → map (λ x. x.seq) (with_tag tag xs) ≡ tagged_seqnums tag xs
  seqnums [] = refl
  seqnums (x ∷ xs) = at (seqnums xs) (has_tag tag x.tags)
    where
      at :
          map (λ x. x.seq) (with_tag tag xs) ≡ tagged_seqnums tag xs → (b : Bool)
          → map (λ x. x.seq) (cond b (x ∷ with_tag tag xs) (with_tag tag xs))
          ≡ cond b (x.seq ∷ tagged_seqnums tag xs) (tagged_seqnums tag xs)
      at ih true = ap (λ l. x.seq ∷ l) ih
      at ih false = ih

  pub counted : (xs : List (Live A)) → length (with_tag tag xs) ≡ count tag xs
  counted [] = refl
  counted (x ∷ xs) = at (counted xs) (has_tag tag x.tags)
    where
      at :
          length (with_tag tag xs) ≡ count tag xs → (b : Bool)
          → length (cond b (x ∷ with_tag tag xs) (with_tag tag xs)) ≡ cond b (suc (count tag xs)) (count tag xs)
      at ih true = ap suc ih
      at ih false = ih

  placed : (place : ℕ) (xs : List (Live A)) → slice_get (reverse (with_tag tag xs)) place ≡ nth tag place xs
  placed place [] = refl
  placed place (x ∷ xs) = at (placed place xs) (has_tag tag x.tags)
    where
      at :
          slice_get (reverse (with_tag tag xs)) place ≡ nth tag place xs → (b : Bool)
          → slice_get (reverse (cond b (x ∷ with_tag tag xs) (with_tag tag xs))) place
          ≡ cond (b && eqb place (count tag xs)) (Some x) (nth tag place xs)
      at ih true =
          ap (λ l. slice_get l place) (reverse-cons x (with_tag tag xs))
          ∙ slice_get_push (reverse (with_tag tag xs)) x place
          ∙ ap (λ n. cond (eqb place n) (Some x) (slice_get (reverse (with_tag tag xs)) place)) (length-reverse (with_tag tag xs) ∙ counted xs)
          ∙ ap (cond (eqb place (count tag xs)) (Some x)) ih
      at ih false = ih

  pub one_more :
      (place : ℕ) (x : Live A) (xs : List (Live A)) → nth tag place xs ≡ Some x
      → oldest (suc place) (with_tag tag xs) ≡ x ∷ oldest place (with_tag tag xs)
  one_more place x [] found = cc
  one_more place x (y ∷ ys) found = at (one_more place x ys) (has_tag tag y.tags) (eqb place (count tag ys)) refl found
    where
      at :
          (nth tag place ys ≡ Some x → oldest (suc place) (with_tag tag ys) ≡ x ∷ oldest place (with_tag tag ys))
          → (h b : Bool) → eqb place (count tag ys) ≡ b → cond (h && b) (Some y) (nth tag place ys) ≡ Some x
          → oldest (suc place) (cond h (y ∷ with_tag tag ys) (with_tag tag ys)) ≡ x ∷ oldest place (cond h (y ∷ with_tag tag ys) (with_tag tag ys))
      at ih true true e is =
          let same : y ≡ x = cc in
          let n : place ≡ length (with_tag tag ys) = eqb-true place (count tag ys) e ∙ sym (counted ys) in
          ap (λ n. oldest (suc n) (y ∷ with_tag tag ys)) n
          ∙ oldest_whole y (with_tag tag ys)
          ∙ ap (λ y. y ∷ oldest (length (with_tag tag ys)) (with_tag tag ys)) same
          ∙ ap (λ n. x ∷ oldest n (with_tag tag ys)) (sym n)
          ∙ ap (λ l. x ∷ l) (sym (oldest_skip place y (with_tag tag ys) (let le = n in omega arith)))
      at ih true false e is =
          let lt = nth_below tag place x ys is in
          let n = counted ys in
          oldest_skip (suc place) y (with_tag tag ys) (omega arith) ∙ ih is
          ∙ ap (λ l. x ∷ l) (sym (oldest_skip place y (with_tag tag ys) (omega arith)))
      at ih false b e is = ih is

  among : (place : ℕ) (x : Live A) (xs : List (Live A)) → nth tag place xs ≡ Some x → IsAmong x xs
  among place x [] found = cc
  among place x (y ∷ ys) found = at (among place x ys) (has_tag tag y.tags && eqb place (count tag ys)) found
    where
      at :
          (nth tag place ys ≡ Some x → IsAmong x ys) → (b : Bool)
          → cond b (Some y) (nth tag place ys) ≡ Some x → IsAmong x (y ∷ ys)
      at ih true is = inl (let same : x ≡ y = cc in same)
      at ih false is = inr (ih is)

  found_has :
      (place : ℕ) (x : Live A) (xs : List (Live A)) → nth tag place xs ≡ Some x → has_tag tag x.tags ≡ true
  found_has place x [] found = cc
  found_has place x (y ∷ ys) found = at (found_has place x ys) (has_tag tag y.tags) refl (eqb place (count tag ys)) found
    where
      at :
          (nth tag place ys ≡ Some x → has_tag tag x.tags ≡ true) → (h : Bool) → has_tag tag y.tags ≡ h
          → (b : Bool) → cond (h && b) (Some y) (nth tag place ys) ≡ Some x → has_tag tag x.tags ≡ true
      at ih true has true is = let same : y ≡ x = cc in ap (λ (z : Live A). has_tag tag z.tags) (sym same) ∙ has
      at ih true has false is = ih is
      at ih false has b is = ih is

  pub of_tag : (xs : List (Live A)) → AreOfTag tag xs
  of_tag xs = record {
    seqnums = seqnums xs;
    counted = counted xs;
    placed = λ place. placed place xs;
    among = λ place x found. among place x xs found;
    carries = λ place x found. found_has place x xs found;
    none = oldest_none (with_tag tag xs);
    one_more = λ place x found. one_more place x xs found;
    all = oldest_all (count tag xs) (with_tag tag xs) (let n = counted xs in omega arith);
  }

  -- Up to a position.

  pub having_falls : (end : ℕ) (xs : List (Live A)) → FallBelow end xs → FallBelow end (with_tag tag xs)
  having_falls end [] fall = tt
  having_falls end (x ∷ xs) fall = at (having_falls x.seq xs fall.2) (has_tag tag x.tags)
    where
      at :
          FallBelow x.seq (with_tag tag xs) → (b : Bool)
          → FallBelow end (cond b (x ∷ with_tag tag xs) (with_tag tag xs))
      at rest true = (fall.0, fall.1, rest)
      at rest false = fall_more x.seq end (with_tag tag xs) (let lt = fall.1 in omega arith) rest

  pub having_upto :
      (end p : ℕ) (xs : List (Live A)) → FallBelow end xs → with_tag tag (upto p xs) ≡ upto p (with_tag tag xs)
  having_upto end p [] fall = refl
  having_upto end p (x ∷ xs) fall = at (having_upto x.seq p xs fall.2) (cases_lt p x.seq)
    where
      skip :
          (b : Bool) → p < x.seq
          → upto p (cond b (x ∷ with_tag tag xs) (with_tag tag xs)) ≡ upto p (with_tag tag xs)
      skip true above = upto_skip p x (with_tag tag xs) above
      skip false above = refl

      at :
          with_tag tag (upto p xs) ≡ upto p (with_tag tag xs) → (p < x.seq) ⊎ (x.seq ≤ p)
          → with_tag tag (upto p (x ∷ xs)) ≡ upto p (with_tag tag (x ∷ xs))
      at ih (inl above) = ap (with_tag tag) (upto_skip p x xs above) ∙ ih ∙ sym (skip (has_tag tag x.tags) above)
      at ih (inr within) =
          ap (with_tag tag) (upto_here p x xs within)
          ∙ sym (upto_all (suc x.seq) p (with_tag tag (x ∷ xs)) (having_falls (suc x.seq) (x ∷ xs) (fall.0, omega arith, fall.2)) (omega arith))

  having_front :
      (end p : ℕ) (xs : List (Live A)) → FallBelow end xs
      → with_tag tag (upto p xs) ≡ oldest (count tag (upto p xs)) (with_tag tag xs)
  having_front end p xs fall =
      let same = having_upto end p xs fall in
      same
      ∙ upto_oldest p (with_tag tag xs)
      ∙ ap (λ n. oldest n (with_tag tag xs)) (ap length (sym same) ∙ counted (upto p xs))

  -- what stands at a place is below the records before it
  nth_falls :
      (place end : ℕ) (x : Live A) (xs : List (Live A)) → FallBelow end xs → nth tag place xs ≡ Some x
      → (0 < x.seq) × (x.seq < end)
  nth_falls place end x [] fall found = cc
  nth_falls place end x (y ∷ ys) fall found = at (nth_falls place y.seq x ys fall.2) (has_tag tag y.tags && eqb place (count tag ys)) found
    where
      at :
          (nth tag place ys ≡ Some x → (0 < x.seq) × (x.seq < y.seq)) → (b : Bool)
          → cond b (Some y) (nth tag place ys) ≡ Some x → (0 < x.seq) × (x.seq < end)
      at ih true is = let same : y ≡ x = cc in let e = ap (λ (z : Live A). z.seq) same in (omega (arith, fall.0), omega (arith, fall.1))
      at ih false is = let both = ih is in (both.0, (let lt = both.1 in let le = fall.1 in omega arith))

  -- behind the record at a place, and with it
  behind :
      (place end : ℕ) (x : Live A) (xs : List (Live A)) → FallBelow end xs → nth tag place xs ≡ Some x
      → with_tag tag (upto (x.seq - 1) xs) ≡ oldest place (with_tag tag xs)
  behind place end x [] fall found = cc
  behind place end x (y ∷ ys) fall found = at (behind place y.seq x ys fall.2) (has_tag tag y.tags) (eqb place (count tag ys)) refl found
    where
      later :
          (h : Bool) → nth tag place ys ≡ Some x
          → with_tag tag (upto (x.seq - 1) ys) ≡ oldest place (with_tag tag ys)
          → with_tag tag (upto (x.seq - 1) (y ∷ ys)) ≡ oldest place (cond h (y ∷ with_tag tag ys) (with_tag tag ys))
      later true is ih =
          let lt = (nth_falls place y.seq x ys fall.2 is).1 in
          let few = nth_below tag place x ys is in
          let n = counted ys in
          ap (with_tag tag) (upto_skip (x.seq - 1) y ys (omega arith)) ∙ ih
          ∙ sym (oldest_skip place y (with_tag tag ys) (omega arith))
      later false is ih =
          let lt = (nth_falls place y.seq x ys fall.2 is).1 in
          ap (with_tag tag) (upto_skip (x.seq - 1) y ys (omega arith)) ∙ ih

      at :
          (nth tag place ys ≡ Some x → with_tag tag (upto (x.seq - 1) ys) ≡ oldest place (with_tag tag ys))
          → (h b : Bool) → eqb place (count tag ys) ≡ b → cond (h && b) (Some y) (nth tag place ys) ≡ Some x
          → with_tag tag (upto (x.seq - 1) (y ∷ ys)) ≡ oldest place (cond h (y ∷ with_tag tag ys) (with_tag tag ys))
      at ih true true e is =
          let same : y.seq ≡ x.seq = ap (λ (z : Live A). z.seq) (let one : y ≡ x = cc in one) in
          let n : length (with_tag tag ys) ≡ place = counted ys ∙ sym (eqb-true place (count tag ys) e) in
          let low = fall.0 in
          ap (with_tag tag) (upto_skip (x.seq - 1) y ys (omega arith) ∙ upto_all y.seq (x.seq - 1) ys fall.2 (omega arith))
          ∙ sym (oldest_skip place y (with_tag tag ys) (omega arith) ∙ oldest_all place (with_tag tag ys) (omega arith))
      at ih true false e is = later true is (ih is)
      at ih false b e is = later false is (ih is)

  with_it :
      (place end : ℕ) (x : Live A) (xs : List (Live A)) → FallBelow end xs → nth tag place xs ≡ Some x
      → with_tag tag (upto x.seq xs) ≡ oldest (suc place) (with_tag tag xs)
  with_it place end x [] fall found = cc
  with_it place end x (y ∷ ys) fall found = at (with_it place y.seq x ys fall.2) (has_tag tag y.tags) refl (eqb place (count tag ys)) refl found
    where
      later :
          (h : Bool) → nth tag place ys ≡ Some x
          → with_tag tag (upto x.seq ys) ≡ oldest (suc place) (with_tag tag ys)
          → with_tag tag (upto x.seq (y ∷ ys)) ≡ oldest (suc place) (cond h (y ∷ with_tag tag ys) (with_tag tag ys))
      later true is ih =
          let lt = (nth_falls place y.seq x ys fall.2 is).1 in
          let few = nth_below tag place x ys is in
          let n = counted ys in
          ap (with_tag tag) (upto_skip x.seq y ys (omega arith)) ∙ ih
          ∙ sym (oldest_skip (suc place) y (with_tag tag ys) (omega arith))
      later false is ih =
          let lt = (nth_falls place y.seq x ys fall.2 is).1 in
          ap (with_tag tag) (upto_skip x.seq y ys (omega arith)) ∙ ih

      at :
          (nth tag place ys ≡ Some x → with_tag tag (upto x.seq ys) ≡ oldest (suc place) (with_tag tag ys))
          → (h : Bool) → has_tag tag y.tags ≡ h → (b : Bool) → eqb place (count tag ys) ≡ b
          → cond (h && b) (Some y) (nth tag place ys) ≡ Some x → with_tag tag (upto x.seq (y ∷ ys)) ≡ oldest (suc place) (cond h (y ∷ with_tag tag ys) (with_tag tag ys))
      at ih true has true e is =
          let same : y.seq ≡ x.seq = ap (λ (z : Live A). z.seq) (let one : y ≡ x = cc in one) in
          let n : length (with_tag tag ys) ≡ place = counted ys ∙ sym (eqb-true place (count tag ys) e) in
          ap (with_tag tag) (upto_here x.seq y ys (omega arith))
          ∙ ap (λ b. cond b (y ∷ with_tag tag ys) (with_tag tag ys)) has
          ∙ sym (oldest_all (suc place) (y ∷ with_tag tag ys) (omega arith))
      at ih true has false e is = later true is (ih is)
      at ih false has b e is = later false is (ih is)

  pub of_tag_upto : (end : ℕ) (xs : List (Live A)) → FallBelow end xs → AreOfTagUpTo tag xs
  of_tag_upto end xs fall = record {
    up_to = λ p. having_upto end p xs fall;
    front = λ p. having_front end p xs fall;
    behind = λ place x found. behind place end x xs fall found;
    with_it = λ place x found. with_it place end x xs fall found;
  }

pub tagged_up_to : {A : Type 0} (end tag : ℕ) (xs : List (Live A)) → FallBelow end xs → AreOfTagUpTo tag xs
tagged_up_to end tag xs fall = of_tag_upto tag end xs fall

pub tagged_fall :
    {A : Type 0} (end tag : ℕ) (xs : List (Live A)) → FallBelow end xs → FallBelow end (with_tag tag xs)
tagged_fall end tag xs fall = having_falls tag end xs fall

pub tagged_alike :
    {A B : Type 0} (f : A → B) (tag : ℕ) (xs : List (Live A))
    → with_tag tag (map (map_live f) xs) ≡ map (map_live f) (with_tag tag xs)
tagged_alike f tag [] = refl
tagged_alike f tag (x ∷ xs) = at (tagged_alike f tag xs) (has_tag tag x.tags)
  where
    at :
        with_tag tag (map (map_live f) xs) ≡ map (map_live f) (with_tag tag xs) → (b : Bool)
        → cond b (map_live f x ∷ with_tag tag (map (map_live f) xs)) (with_tag tag (map (map_live f) xs))
        ≡ map (map_live f) (cond b (x ∷ with_tag tag xs) (with_tag tag xs))
    at ih true = ap (λ l. map_live f x ∷ l) ih
    at ih false = ih
