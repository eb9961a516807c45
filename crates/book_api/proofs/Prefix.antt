-- The oldest records of a log, and what an index that has them says.
use Rattle.std.proofs.Common.{◌≡◌, ◌⊎◌, inl, inr, ℕ, suc, ◌-◌, ◌<◌, ◌≤◌, Bool, true, false, cond, eqb, List, [], ◌∷◌, ◌++◌, length, map, drop, Some, length-append, length-drop, refl, sym, ap, subst, ◌∙◌, arith}
use Rattle.std.proofs.lemmas.Bool.{eqb-true, eq-eqb, ne_eqb, cases_lt}
use Rattle.std.proofs.lemmas.List.{length-map, length-reverse}
use Rattle.boki_model.specs.Live.{LogRecord, live, upto}
use Rattle.boki_model.specs.Order.{at_seq}
use Rattle.boki_model.proofs.Logs.{upto_all, prefix_seen, live_falls}
use Rattle.eng_index.specs.IndexState.{IndexState, marks_of, IsIndexOf, IsUnchanged}
use Rattle.book_api.specs.Inside.{oldest, position_of, IsView}

-- The oldest of a list.

drop_all : {X : Type 0} (xs : List X) → drop (length xs) xs ≡ []
drop_all [] = refl
drop_all (x ∷ xs) = drop_all xs

pub oldest_none : {X : Type 0} (xs : List X) → oldest 0 xs ≡ []
oldest_none xs = ap (λ n. drop n xs) (let e : length xs - 0 ≡ length xs = omega arith in e) ∙ drop_all xs

pub oldest_all : {X : Type 0} (n : ℕ) (xs : List X) → length xs ≤ n → oldest n xs ≡ xs
oldest_all n xs le = ap (λ k. drop k xs) (let e : length xs - n ≡ 0 = omega arith in e)

-- the newest isn't among fewer
oldest_skip : {X : Type 0} (n : ℕ) (x : X) (xs : List X) → n ≤ length xs → oldest n (x ∷ xs) ≡ oldest n xs
oldest_skip n x xs le = ap (λ k. drop k (x ∷ xs)) (let e : suc (length xs) - n ≡ suc (length xs - n) = omega arith in e)

oldest_whole : {X : Type 0} (x : X) (xs : List X) → oldest (suc (length xs)) (x ∷ xs) ≡ x ∷ oldest (length xs) xs
oldest_whole x xs = oldest_all (suc (length xs)) (x ∷ xs) (omega arith) ∙ ap (λ l. x ∷ l) (sym (oldest_all (length xs) xs (omega arith)))

pub oldest_counted : {X : Type 0} (n : ℕ) (xs : List X) → n ≤ length xs → length (oldest n xs) ≡ n
oldest_counted n xs le = let e = length-drop (length xs - n) xs in omega arith

pub oldest_behind : {X : Type 0} (n : ℕ) (news xs : List X) → n ≤ length xs → oldest n (news ++ xs) ≡ oldest n xs
oldest_behind n [] xs le = refl
oldest_behind n (x ∷ news) xs le = oldest_skip n x (news ++ xs) (let e = length-append news xs in omega arith) ∙ oldest_behind n news xs le

at_seq_within : {X : Type 0} (seq : ℕ) (r : X) (xs : List X) → at_seq seq xs ≡ Some r → seq ≤ length xs
at_seq_within seq r [] is = cc
at_seq_within seq r (x ∷ xs) is = at (at_seq_within seq r xs) (eqb seq (suc (length xs))) refl is
  where
    at : (at_seq seq xs ≡ Some r → seq ≤ length xs) → (b : Bool) → eqb seq (suc (length xs)) ≡ b → cond b (Some x) (at_seq seq xs) ≡ Some r → seq ≤ suc (length xs)
    at ih true e is = let same = eqb-true seq (suc (length xs)) e in omega arith
    at ih false e is = let le = ih is in omega arith

pub next_oldest : {X : Type 0} (n : ℕ) (r : X) (xs : List X) → at_seq (suc n) xs ≡ Some r → oldest (suc n) xs ≡ r ∷ oldest n xs
next_oldest n r [] is = cc
next_oldest n r (x ∷ xs) is = at (next_oldest n r xs) (eqb (suc n) (suc (length xs))) refl is
  where
    at : (at_seq (suc n) xs ≡ Some r → oldest (suc n) xs ≡ r ∷ oldest n xs) → (b : Bool) → eqb (suc n) (suc (length xs)) ≡ b → cond b (Some x) (at_seq (suc n) xs) ≡ Some r → oldest (suc n) (x ∷ xs) ≡ r ∷ oldest n (x ∷ xs)
    at ih true e is =
        let same : n ≡ length xs = (let f = eqb-true (suc n) (suc (length xs)) e in omega arith) in
        let one : x ≡ r = cc in
        ap (λ n. oldest (suc n) (x ∷ xs)) same
        ∙ oldest_whole x xs
        ∙ ap (λ y. y ∷ oldest (length xs) xs) one
        ∙ ap (λ l. r ∷ l) (ap (λ n. oldest n xs) (sym same) ∙ sym (oldest_skip n x xs (omega arith)))
    at ih false e is =
        let le = at_seq_within (suc n) r xs is in
        oldest_skip (suc n) x xs le ∙ ih is ∙ ap (λ l. r ∷ l) (sym (oldest_skip n x xs (omega arith)))

pub live_oldest : {A : Type 0} (log : List (LogRecord A)) (p : ℕ) → live (oldest p log) ≡ upto p (live log)
live_oldest log p = at (cases_lt p (length log))
  where
    at : (p < length log) ⊎ (length log ≤ p) → live (oldest p log) ≡ upto p (live log)
    at (inl lt) = prefix_seen (length log - p) log ∙ ap (λ n. upto n (live log)) (let e : length log - (length log - p) ≡ p = omega arith in e)
    at (inr le) = ap live (oldest_all p log le) ∙ sym (upto_all (suc (length log)) p (live log) (live_falls log) (omega arith))

-- What stands at a seqnum: the list has something there.

pub at_seq_some : {X : Type 0} (seq : ℕ) (xs : List X) → 0 < seq → seq ≤ length xs → (r : X) × (at_seq seq xs ≡ Some r)
at_seq_some seq [] low le = absurd (let f : ⊥ = omega arith in f)
at_seq_some {X} seq (x ∷ xs) low le = at (at_seq_some seq xs low) (cases_lt (length xs) seq)
  where
    at : (seq ≤ length xs → (r : X) × (at_seq seq xs ≡ Some r)) → (length xs < seq) ⊎ (seq ≤ length xs) → (r : X) × (at_seq seq (x ∷ xs) ≡ Some r)
    at ih (inl lt) = (x, rw (eq-eqb seq (suc (length xs)) (omega arith)) refl)
    at ih (inr within) =
        let below = ih within in
        (below.0, rw (ne_eqb seq (suc (length xs)) (λ e. omega arith)) below.1)

pub at_seq_map : {X Y : Type 0} (f : X → Y) (seq : ℕ) (r : X) (xs : List X) → at_seq seq xs ≡ Some r → at_seq seq (map f xs) ≡ Some (f r)
at_seq_map f seq r [] is = cc
at_seq_map f seq r (x ∷ xs) is = ap (λ n. cond (eqb seq (suc n)) (Some (f x)) (at_seq seq (map f xs))) (length-map xs f) ∙ at (at_seq_map f seq r xs) (eqb seq (suc (length xs))) is
  where
    at : (at_seq seq xs ≡ Some r → at_seq seq (map f xs) ≡ Some (f r)) → (b : Bool) → cond b (Some x) (at_seq seq xs) ≡ Some r → cond b (Some (f x)) (at_seq seq (map f xs)) ≡ Some (f r)
    at ih true is = ap (λ y. Some (f y)) (let e : x ≡ r = cc in e)
    at ih false is = ih is

-- Indexes.

length_marks : {A : Type 0} (log : List (LogRecord A)) → length (marks_of log) ≡ length log
length_marks [] = refl
length_marks (r ∷ log) = ap suc (length_marks log)

pub position_shown : (log : List (LogRecord (List ℕ))) (index : IndexState) → IsIndexOf log index → position_of index ≡ length log
position_shown log index shows = ap length shows.marks ∙ length-reverse (marks_of log) ∙ length_marks log

-- a view of a log is one of the log with newer records
pub view_stays : (news log : List (LogRecord (List ℕ))) (index : IndexState) → IsView log index → IsView (news ++ log) index
view_stays news log index v = record {
  within = (let le = v.within in omega (arith, length-append news log));
  shows = subst (λ l. IsIndexOf l index) (sym (oldest_behind (position_of index) news log v.within)) v.shows;
}

-- an index that has no record
pub view_none : (log : List (LogRecord (List ℕ))) (index : IndexState) → IsIndexOf [] index → IsView log index
view_none log index shows =
    let p : position_of index ≡ 0 = position_shown [] index shows in
    record { within = omega arith; shows = subst (λ l. IsIndexOf l index) (sym (ap (λ n. oldest n log) p ∙ oldest_none log)) shows }

-- the next record is added
pub view_more : (log : List (LogRecord (List ℕ))) (old new : IndexState) (r : LogRecord (List ℕ)) → IsView log old → at_seq (suc (position_of old)) log ≡ Some r
    → ((log : List (LogRecord (List ℕ))) → IsIndexOf log old → IsIndexOf (r ∷ log) new) → IsView log new × (position_of new ≡ suc (position_of old))
view_more log old new r v is added =
    let more = added (oldest (position_of old) log) v.shows in
    let p : position_of new ≡ suc (position_of old) = position_shown (r ∷ oldest (position_of old) log) new more ∙ ap suc (oldest_counted (position_of old) log v.within) in
    let le = at_seq_within (suc (position_of old)) r log is in (
      record {
        within = omega arith;
        shows = subst (λ l. IsIndexOf l new) (sym (ap (λ n. oldest n log) p ∙ next_oldest (position_of old) r log is)) more;
      },
      p,
    )

-- or it isn't
pub view_unchanged : (log : List (LogRecord (List ℕ))) (old new : IndexState) → IsView log old → IsUnchanged old new → IsView log new × (position_of new ≡ position_of old)
view_unchanged log old new v same =
    let p : position_of new ≡ position_of old = ap length same.marks in (
      record {
        within = (let le = v.within in omega arith);
        shows = subst (λ n. IsIndexOf (oldest n log) new) (sym p) (record { lists = λ tag. same.lists tag ∙ v.shows.lists tag; marks = same.marks ∙ v.shows.marks });
      },
      p,
    )
