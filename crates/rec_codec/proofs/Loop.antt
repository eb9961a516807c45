-- Reading so many, one after the other, as a loop does.
use Rattle.std.proofs.Common.{◌≡◌, ℕ, suc, ◌-◌, ◌+◌, ◌≤◌, ◌<◌, List, [], ◌∷◌, ◌++◌, Result, Ok, Err, refl, sym, ap, ◌∙◌, append_assoc, arith}
use Rattle.std.proofs.lemmas.List.{append-nil}
use Rattle.rec_codec.specs.declared.fault.Stop.{Stop}
use Rattle.rec_codec.specs.declared.fault.Stop.TheVariants as stop
use Rattle.rec_codec.specs.Answers.{StopsAs, with_front, with_one}
use Rattle.rec_codec.specs.Reading.{Reader, ◌>>=◌, many_at}

regroup : {A : Type 0} (front : List A) (x : A) (reading : Result (List A × List ℕ) ℕ) → with_front front (reading >>= λ y. Ok (x ∷ y.0, y.1)) ≡ with_front (front ++ x ∷ []) reading
regroup front x (Ok y) = ap (λ (xs : List _). Ok (xs, y.1)) (simp append_assoc)
regroup front x (Err left) = refl

-- one more was read
pub goes_on : {A : Type 0} (read : Reader A) (front : List A) (count i : ℕ) (bytes : List ℕ) (x : A) (after : List ℕ) (total : Result (List A × List ℕ) ℕ) → i < count → read bytes ≡ Ok (x, after)
    → with_front front (many_at read (count - i) bytes) ≡ total → with_front (front ++ x ∷ []) (many_at read (count - (i + 1)) after) ≡ total
unfolding many_at
goes_on read front count i bytes x after total lt h so_far =
    let k : count - i ≡ suc (count - (i + 1)) = omega arith in
    let one : with_front front (many_at read (count - i) bytes) ≡ with_front (front ++ x ∷ []) (many_at read (count - (i + 1)) after) = rw (k, h) (regroup front x (many_at read (count - (i + 1)) after)) in
    sym one ∙ so_far

-- reading stops
pub ends : {A : Type 0} (read : Reader A) (e : Stop) (front : List A) (count i : ℕ) (bytes : List ℕ) (total : Result (List A × List ℕ) ℕ) → i < count → StopsAs e (read bytes)
    → with_front front (many_at read (count - i) bytes) ≡ total → StopsAs e total
unfolding many_at
ends read stop.Memory front count i bytes total lt h so_far = tt
ends read (stop.Left left) front count i bytes total lt h so_far =
    let k : count - i ≡ suc (count - (i + 1)) = omega arith in
    let one : with_front front (many_at read (count - i) bytes) ≡ Err left = rw (k, h) refl in
    sym so_far ∙ one

-- all were read
pub is_done : {A : Type 0} (read : Reader A) (front : List A) (count i : ℕ) (bytes : List ℕ) (total : Result (List A × List ℕ) ℕ) → count ≤ i → with_front front (many_at read (count - i) bytes) ≡ total → total ≡ Ok (front, bytes)
unfolding many_at
is_done read front count i bytes total le so_far =
    let k : count - i ≡ 0 = omega arith in
    let one : with_front front (many_at read (count - i) bytes) ≡ Ok (front, bytes) = rw k (ap (λ (xs : List _). Ok (xs, bytes)) (append-nil front)) in
    sym so_far ∙ one

abbrev done : {A : Type 0} → A → Result A ℕ
done x = Ok x

ok_is : {A : Type 0} (x y : A) → done x ≡ done y → x ≡ y
ok_is x y e = cc

-- the one that was read behind a front
pub one_ok : {A : Type 0} (front whole : List A) (after : List ℕ) (reading : Result (A × List ℕ) ℕ) → with_one front reading ≡ Ok (whole, after) → (x : A) × (reading ≡ Ok (x, after)) × (whole ≡ front ++ x ∷ [])
one_ok {A} front whole after (Ok y) e =
    let both = ok_is (front ++ y.0 ∷ [], y.1) (whole, after) e in
    let rest : y.1 ≡ after = ap (λ (p : List A × List ℕ). p.1) both in
    (y.0, ap (λ (r : List ℕ). Ok (y.0, r)) rest, sym (ap (λ (p : List A × List ℕ). p.0) both))
one_ok front whole after (Err left) e = absurd cc

-- none was read
pub one_fails : {A : Type 0} (front : List A) (e : Stop) (reading : Result (A × List ℕ) ℕ) → StopsAs e (with_one front reading) → StopsAs e reading
one_fails front stop.Memory reading h = tt
one_fails front (stop.Left left) (Ok y) h = absurd cc
one_fails front (stop.Left left) (Err other) h = cc
