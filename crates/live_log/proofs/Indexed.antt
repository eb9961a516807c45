-- An index of the first records of a copy.
use Rattle.std.proofs.Common.{◌≡◌, ℕ, zero, suc, ◌+◌, ◌<◌, ◌≤◌, List, [], ◌∷◌, ◌++◌, length, map, reverse, take, get_or, slice_get, refl, sym, ap, ◌∙◌, subst, arith}
use Rattle.std.proofs.lemmas.List.{length-map, length-reverse, take_more, reverse-append}
use mathlib.Core.List.{IsPrefix}
use Rattle.boki_model.specs.Live.{LogRecord, entry_of}
use Rattle.eng_index.specs.IndexState.{IndexState, IsIndexOf, IsUnchanged}
use Rattle.eng_index.proofs.Added.{marks_count}
use Rattle.live_log.specs.Appended.{Appended, log_of}
use Rattle.live_log.specs.Engines.{IsIndexed}
use Rattle.live_log.proofs.Lists.{prefix_length}

map_append : (xs ys : List Appended) → map (λ (x : Appended). entry_of x.1) (xs ++ ys) ≡ map (λ (x : Appended). entry_of x.1) xs ++ map (λ (x : Appended). entry_of x.1) ys
map_append [] ys = refl
map_append (x ∷ xs) ys = ap (λ l. entry_of x.1 ∷ l) (map_append xs ys)

-- with one record more
pub log_more : (xs : List Appended) (x : Appended) → log_of (xs ++ x ∷ []) ≡ entry_of x.1 ∷ log_of xs
log_more xs x = ap reverse (map_append xs (x ∷ [])) ∙ reverse-append (map (λ (y : Appended). entry_of y.1) xs) (entry_of x.1 ∷ [])

length_log : (xs : List Appended) → length (log_of xs) ≡ length xs
length_log xs = length-reverse (map (λ (x : Appended). entry_of x.1) xs) ∙ length-map xs (λ (x : Appended). entry_of x.1)

length_take : {A : Type 0} (n : ℕ) (xs : List A) → n ≤ length xs → length (take n xs) ≡ n
length_take zero xs le = refl
length_take (suc n) [] le = absurd (omega (arith, le))
length_take (suc n) (x ∷ xs) le = ap suc (length_take n xs (omega (arith, le)))

-- an index of so many records has so many marks
pub shown_marks : (copied : List Appended) (n : ℕ) (index : IndexState) → n ≤ length copied → IsIndexOf (log_of (take n copied)) index → length index.marks ≡ n
shown_marks copied n index le shows = marks_count (log_of (take n copied)) index shows ∙ length_log (take n copied) ∙ length_take n copied le

pub shown_indexed : (copied : List Appended) (n : ℕ) (index : IndexState) → n ≤ length copied → IsIndexOf (log_of (take n copied)) index → IsIndexed copied index
shown_indexed copied n index le shows =
    let same : n ≡ length index.marks = sym (shown_marks copied n index le shows) in
    record { within = subst (λ (m : ℕ). m ≤ length copied) same le; shows = subst (λ (m : ℕ). IsIndexOf (log_of (take m copied)) index) same shows }

pub shown_unchanged : (log : List (LogRecord (List ℕ))) (old new : IndexState) → IsIndexOf log old → IsUnchanged old new → IsIndexOf log new
shown_unchanged log old new shows u = record { lists = λ tag. u.lists tag ∙ shows.lists tag; marks = u.marks ∙ shows.marks }

-- the next record of the copy was added
pub shown_more : (copied : List Appended) (n : ℕ) (x d : Appended) (new : IndexState) → n < length copied → x ≡ get_or copied n d → IsIndexOf (entry_of x.1 ∷ log_of (take n copied)) new → IsIndexOf (log_of (take (n + 1) copied)) new
shown_more copied n x d new lt is shows =
    let more : take (n + 1) copied ≡ take n copied ++ x ∷ [] = take_more copied n d lt ∙ ap (λ (y : Appended). take n copied ++ y ∷ []) (sym is) in
    subst (λ (l : List (LogRecord (List ℕ))). IsIndexOf l new) (sym (ap log_of more ∙ log_more (take n copied) x)) shows

-- what begins a list has its first records
pub prefix_takes : {A : Type 0} (n : ℕ) (xs ys : List A) → IsPrefix xs ys → n ≤ length xs → take n xs ≡ take n ys
prefix_takes zero xs ys p le = refl
prefix_takes (suc n) [] ys p le = absurd (omega (arith, le))
prefix_takes (suc n) (x ∷ xs) [] p le = absurd (cc (p.1))
prefix_takes (suc n) (x ∷ xs) (y ∷ ys) p le = let rest = prefix_takes n xs ys (p.0, cc (p.1)) (omega (arith, le)) in cc (p.1, rest)

-- an index of a copy is one of each longer copy
pub indexed_longer : (copied now : List Appended) (index : IndexState) → IsPrefix copied now → IsIndexed copied index → IsIndexed now index
indexed_longer copied now index p i =
    let l : length copied ≤ length now = prefix_length copied now p in
    record { within = omega (arith, i.within, l); shows = subst (λ (t : List Appended). IsIndexOf (log_of t) index) (prefix_takes (length index.marks) copied now p i.within) i.shows }

-- the log that the index shows, by what was seen
pub shows_seen : (copied seen : List Appended) (index : IndexState) → IsPrefix copied seen → IsIndexed copied index → IsIndexOf (log_of (take (length index.marks) seen)) index
shows_seen copied seen index p i = (indexed_longer copied seen index p i).shows

get_taken : (n k : ℕ) (xs : List Appended) → k < n → slice_get (take n xs) k ≡ slice_get xs k
get_taken zero k xs lt = absurd (omega (arith, lt))
get_taken (suc n) k [] lt = refl
get_taken (suc n) zero (x ∷ xs) lt = refl
get_taken (suc n) (suc k) (x ∷ xs) lt = get_taken n k xs (omega (arith, lt))
